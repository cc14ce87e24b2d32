use Rattle.std.proofs.Common.{◌≡◌, ◌-◌, length, arith, suc, ◌∙◌}
use Rattle.script_parts.proofs.Last.{fail_last_is}
use Rattle.script_parts.proofs.failing.fail_last.Goals as goal

pub returns : goal.returns
returns c =
    let e : suc (c.len-last.result - 1) ≡ length c.args.trees.now.items = omega (arith, c.requires.some, c.len-last.ensures) in
    fail_last_is _ _ c.index_mut-tree.result.now c.args.failed c.replace-subs.result c.replace-subs.new.dest e c.index_mut-tree.ensures.value c.replace-subs.ensures.value (c.replace-subs.ensures.after ∙ c.requires.undone)
