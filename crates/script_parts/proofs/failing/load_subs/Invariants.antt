use Rattle.std.proofs.Common.{drop}
use Rattle.script_parts.proofs.Loading.{SubsLoaded}
use Rattle.script_parts.proofs.failing.load_subs.Given as goal

abbrev pub invariant-loop-sub : goal.invariant-loop-sub
invariant-loop-sub l = SubsLoaded l.fn.totals.items l.totals.items l.subs (drop l.sub-index l.subs)
