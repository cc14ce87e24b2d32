use Rattle.std.proofs.Common.{◌≡◌, ◌-◌, length, arith, suc}
use Rattle.script_parts.proofs.Last.{push_last_sub}
use Rattle.script_parts.proofs.lookups.push_sub.Goals as goal

pub returns-clause-ok : goal.returns-clause-ok
returns-clause-ok c =
    let e : suc (c.len-last.result - 1) ≡ length c.args.trees.now.items = omega (arith, c.requires, c.len-last.ensures) in
    push_last_sub _ _ _ _ _ e c.index_mut-tree.ensures.value c.in_ok-add.ensures.ok
