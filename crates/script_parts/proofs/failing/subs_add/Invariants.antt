use Rattle.std.proofs.Common.{◌≡◌, drop}
use Rattle.script_parts.specs.Undone.{subs_add}
use Rattle.script_parts.proofs.failing.subs_add.Given as goal

abbrev pub invariant-loop-sub : goal.invariant-loop-sub
invariant-loop-sub l = subs_add l.subs ≡ subs_add (drop l.sub-index l.subs)
