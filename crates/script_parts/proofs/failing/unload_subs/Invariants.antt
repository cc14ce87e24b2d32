use Rattle.std.proofs.Common.{drop}
use Rattle.script_parts.proofs.Loading.{SubsUnloaded}
use Rattle.script_parts.proofs.failing.unload_subs.Given as goal

abbrev pub invariant-loop-sub : goal.invariant-loop-sub
invariant-loop-sub l = SubsUnloaded l.fn.totals.items l.totals.items l.subs (drop l.sub-index l.subs)
