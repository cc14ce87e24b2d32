use Rattle.std.proofs.Common.{◌≡◌, ◌-◌, length, arith, suc}
use Rattle.std.proofs.lemmas.Result.{on_ok_weaker}
use Rattle.script_parts.proofs.Last.{last_at, last_subs_is, push_last_op}
use Rattle.script_parts.proofs.lookups.push_op.Goals as goal

pub push_to_last-requires : goal.push_to_last-requires
push_to_last-requires c =
    let e : suc (c.len-last.result - 1) ≡ length c.args.trees.now.items = omega (arith, c.requires.trees, c.len-last.ensures) in
    omega (arith, c.requires.subs, last_subs_is c.args.trees.now.items c.index_mut-tree.result.now (last_at c.args.trees.now.items _ c.index_mut-tree.result.now e c.index_mut-tree.ensures.value))

pub returns-clause-ok : goal.returns-clause-ok
returns-clause-ok c =
    let e : suc (c.len-last.result - 1) ≡ length c.args.trees.now.items = omega (arith, c.requires.trees, c.len-last.ensures) in
    on_ok_weaker c.push_to_last.result (λ p. push_last_op _ _ _ _ _ e c.index_mut-tree.ensures.value p) c.push_to_last.ensures.ok
