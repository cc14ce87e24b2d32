use Rattle.std.proofs.Common.{◌≡◌, drop}
use Rattle.script_parts.specs.Loads.{subs_heavy}
use Rattle.script_parts.proofs.failing.has_heavy.Given as goal

abbrev pub invariant-loop-sub : goal.invariant-loop-sub
invariant-loop-sub l = subs_heavy l.most l.totals l.subs ≡ subs_heavy l.most l.totals (drop l.sub-index l.subs)
