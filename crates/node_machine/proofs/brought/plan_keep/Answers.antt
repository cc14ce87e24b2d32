use Rattle.std.proofs.Common.{◌≡◌, [], ap, sym, subst, ◌∙◌}
use Rattle.tree_step.specs.Core.{core_of}
use Rattle.tree_step.specs.declared.plan.Scratch.{Scratch}
use Rattle.node_machine.specs.Changes.{MayBeKept, kept_with, raised_core}
use Rattle.node_machine.specs.steps.Keep.{Keep}
use Rattle.node_machine.proofs.node_rows.DeferredOrDoneRows.{brought_kept, may_keep}
use Rattle.node_machine.proofs.brought.plan_keep.Goals as goal

pub returns : goal.returns
returns c =
    let n = c.args.node.now in
    let l = c.args.letter.now in
    let r = c.args.brought.now in
    let k = c.args.keep in
    let x = c.put_kept.new.scratch in
    let from = c.requires.brought in
    let keep = c.in_ok-put_kept.ensures.keep in
    let rest = c.in_ok-put_kept.ensures.rest in
    let kept = ap (λ (y : Keep). kept_with y n.kept) keep
    ∙ brought_kept l r k.tree k.sub k.why n.kept from.kept from.brings c.requires.asks in
    let sent : x.sent ≡ [] = ap (λ (y : Scratch). y.sent) rest ∙ c.leave_acts.ensures.none_sent in
    let acts : x.acts ≡ c.args.scratch.now.acts = ap (λ (y : Scratch). y.acts) rest ∙ c.leave_acts.ensures.acts in
    record {
      row = λ i. record {
        state = record { core = raised_core k.raises (core_of n.core); kept = kept i };
        sent = sent i;
        acts = acts i;
      };
      may = record {
        settled = c.requires.settled;
        near = c.requires.near;
        there = subst (λ (y : Keep). MayBeKept y n.kept) (sym keep)
            (may_keep l r k.tree k.sub k.why n.kept from.kept from.brings c.requires.asks);
      };
    }
