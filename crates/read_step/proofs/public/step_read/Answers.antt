use Rattle.std.proofs.Common.{◌∙◌, ap, sym, subst}
use Rattle.item_versions.specs.Table.{pending}
use Rattle.item_versions.specs.Window.{IsWindowedTable}
use Rattle.letter_types.specs.declared.bodies.Notice.TheVariants.{Did}
use Rattle.tree_step.specs.Changes.{replied}
use Rattle.tree_step.specs.Node.{data_of}
use Rattle.tree_step.specs.declared.plan.Scratch.{Scratch}
use Rattle.world_model.specs.Done.{TreeOut}
use Rattle.read_step.specs.Rows.{read_done}
use Rattle.read_step.proofs.public.step_read.Goals as goal

pub plan_tree-requires-clause-fits : goal.plan_tree-requires-clause-fits
plan_tree-requires-clause-fits c =
    let n = c.args.node.now in
    subst (λ (x : Scratch). IsWindowedTable n.turns.low.0 (pending x.staged n.items)) (sym c.new_scratch-scratch.ensures)
    c.requires.ready.window.items

pub returns : goal.returns
returns c =
    let s = c.args.came.now.script.now in
    let l = c.args.came.now.letter.now in
    let n = c.args.node.now in
    let done = c.in_ok-step.ensures in
    record {
      row = done.row ∙ ap (λ (o : TreeOut). replied s o) c.in_ok-plan_tree.ensures.part.row
          ∙ ap (λ (x : Scratch). read_done s l.to.0 l.from.0 c.args.version
          (record { items = pending x.staged n.items; notice = Did c.args.values }) l.body (data_of n))
          c.new_scratch-scratch.ensures;
      kept = done.kept;
      held = done.held;
      nodes = done.nodes;
      window = done.window;
      err = tt;
    }
