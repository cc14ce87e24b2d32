use Rattle.std.proofs.Common.{◌≡◌, drop}
use Rattle.nc_commit.specs.Decisions.{can_apply, ops_at}
use Rattle.nc_commit.proofs.decisions.may_apply_subs.Given as goal

abbrev pub invariant-loop-sub : goal.invariant-loop-sub
invariant-loop-sub l =
    can_apply l.v (ops_at l.node.0 (drop l.sub-index l.subs)) l.items
    ≡ can_apply l.v (ops_at l.node.0 l.subs) l.items
