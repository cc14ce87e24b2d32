use Rattle.std.proofs.Common.{List, ap, subst, sym, ◌∙◌}
use Rattle.std.proofs.lemmas.Bool.{and_parts}
use Rattle.tx_trees.specs.declared.parts.Sub.{Sub}
use Rattle.tx_trees.specs.declared.parts.SubOp.{SubOp}
use Rattle.world_model.specs.Named.{is_strict_at}
use Rattle.nc_commit.specs.Decisions.{ops_at}
use Rattle.nc_commit.specs.inside.Writes.{AreOnce}
use Rattle.nc_commit.proofs.Once.{strict_once}
use Rattle.nc_commit.proofs.decisions.stage_decided.Goals as goal

pub stage_all-requires-clause-once : goal.stage_all-requires-clause-once
stage_all-requires-clause-once c =
    let P : List SubOp → Type 0 = λ os. AreOnce os in
    let at : List Sub → List SubOp = λ ks. ops_at c.args.node.0 ks in
    subst P (sym (c.deref.ensures.value ∙ c.in_ok-ops.ensures ∙ ap at c.subs_of.ensures.subs))
    (strict_once c.args.script.now c.args.decision.tree.0 c.args.node.0 c.trees-trees.ensures.valid
    (and_parts (is_strict_at c.args.script.now c.args.decision.tree.0) _ c.requires.can).0)
