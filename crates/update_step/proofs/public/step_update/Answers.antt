use Rattle.std.proofs.Common.{◌∙◌, sym}
use Rattle.std.proofs.lemmas.Bool.{OnTrue_at}
use Rattle.update_step.proofs.Updated.{update_made}
use Rattle.update_step.proofs.public.step_update.Goals as goal

pub returns : goal.returns
returns c =
    let l = c.args.came.now.letter.now in
    let done = c.in_ok-step.ensures in
    let can = c.if-not-branch.false in
    record {
      row = done.row
          ∙ update_made c.args.came.now.script.now l.to.0 l.from.0 l.body c.args.node.now _ (sym can ∙ c.in_ok-plan_update.ensures.can)
          (OnTrue_at can c.in_ok-plan_update.ensures.part);
      kept = done.kept;
      held = done.held;
      nodes = done.nodes;
      window = done.window;
      err = tt;
    }
