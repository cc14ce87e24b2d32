use Rattle.std.proofs.Common.{◌≡◌, drop}
use Rattle.script_parts.specs.Adding.{touch}
use Rattle.script_parts.proofs.counts.touch.Given as goal

abbrev pub invariant-loop-sub : goal.invariant-loop-sub
invariant-loop-sub l = touch l.item l.subs ≡ touch l.item (drop l.sub-index l.subs)
