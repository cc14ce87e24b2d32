use Rattle.std.proofs.Common.{◌≡◌, ℕ, arith, ap, sym, ◌∙◌}
use Rattle.script_parts.specs.Adding.{are_many, with_failed}
use Rattle.script_parts.specs.Counts.{strict_trees}
use Rattle.script_parts.specs.ScriptData.{ScriptData}
use Rattle.tx_trees.proofs.Undoing.{crowded_last, crowded_tree, failed_count, strict_failed}
use Rattle.tx_trees.proofs.script.Script.is_crowded_by.Goals as goal

pub returns-then-expanded-gt-MOST_SUBS_OF_TREE : goal.returns-then-expanded-gt-MOST_SUBS_OF_TREE
returns-then-expanded-gt-MOST_SUBS_OF_TREE c =
    crowded_tree (with_failed c.args.self.now c.args.failed.0).trees _ (failed_count c.args.self.now.trees c.args.failed.0 c.args.failed.0 c.args.expanded.now c.requires.earlier c.requires.undone) c.if-expanded-gt-MOST_SUBS_OF_TREE.true

pub returns-else-sizes-gt-MOST_OPS : goal.returns-else-sizes-gt-MOST_OPS
returns-else-sizes-gt-MOST_OPS c =
    let d = c.args.self.now in
    let k = c.args.failed.0 in
    let count = failed_count d.trees k k c.args.expanded.now c.requires.earlier c.requires.undone in
    let strict : c.self.inside.strict ≡ strict_trees (with_failed d k).trees =
    c.self.invariant.strict ∙ ap (λ (x : ScriptData). strict_trees x.trees) c.self.view_is ∙ sym (strict_failed d.trees k k c.requires.earlier) in
    let z = c.sizes_with-sizes.ensures in
    crowded_last (with_failed d k).trees c.are_many.result (omega (arith, count, c.if-expanded-gt-MOST_SUBS_OF_TREE.false)) (omega (arith, z.subs, c.if-sizes-gt-MOST_OPS.false)) (omega (arith, z.ops, c.if-sizes-gt-MOST_OPS.false))
    (c.are_many.ensures ∙ ap (λ (n : ℕ). are_many n c.sizes_with-sizes.result.update_subs) strict ∙ ap (are_many (strict_trees (with_failed d k).trees)) z.update_subs)
