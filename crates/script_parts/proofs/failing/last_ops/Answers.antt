use Rattle.std.proofs.Common.{◌≡◌, arith, ◌∙◌, ap, sym}
use Rattle.script_parts.specs.Adding.{last_tree_subs}
use Rattle.script_parts.specs.Counts.{subs_ops}
use Rattle.script_parts.specs.declared.parts.Tree.{Tree}
use Rattle.script_parts.proofs.Last.{subs_at_last}
use Rattle.script_parts.proofs.failing.last_ops.Goals as goal

pub count_ops-requires : goal.count_ops-requires
count_ops-requires c =
    let same : c.items.result.now ≡ last_tree_subs c.args.trees.now =
    subs_at_last c.args.trees.now _ c.index-trees-trees.result _ (omega (arith, c.requires.some)) c.index-trees-trees.is (c.items.ensures.items ∙ ap (λ (x : Tree). x.subs) (sym c.index-trees-trees.is)) in
    omega (arith, ap subs_ops same, c.requires.few)

pub returns : goal.returns
returns c =
    let same : c.items.result.now ≡ last_tree_subs c.args.trees.now =
    subs_at_last c.args.trees.now _ c.index-trees-trees.result _ (omega (arith, c.requires.some)) c.index-trees-trees.is (c.items.ensures.items ∙ ap (λ (x : Tree). x.subs) (sym c.index-trees-trees.is)) in
    c.count_ops.ensures ∙ ap subs_ops same
