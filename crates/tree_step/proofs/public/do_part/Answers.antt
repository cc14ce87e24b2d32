use Rattle.std.proofs.Common.{◌+◌, ◌++◌, ◌∙◌, ℕ, Option, ap, arith}
use Rattle.letter_types.specs.declared.entries.StepOut.{StepOut}
use Rattle.letter_types.specs.Steps.{made}
use Rattle.tree_home.specs.declared.homes.Answered.{Answered}
use Rattle.world_model.specs.Notices.{reply_letters}
use Rattle.tree_step.specs.Meant.{part_meant}
use Rattle.tree_step.specs.Node.{data_of}
use Rattle.tree_step.proofs.Replied.{is_replied}
use Rattle.tree_step.proofs.public.do_part.Goals as goal

pub do_whole-requires : goal.do_whole-requires
do_whole-requires c =
    let x = c.args.scratch.now in
    let sent = c.in_ok-push_reply.ensures.ok
    ∙ ap (λ (a : Option Answered). x.sent ++ reply_letters (c.nodes.result + 1) a) c.take-answered.ensures.value in
    let with_answer = is_replied c.args.script.now (part_meant x) (c.nodes.result + 1) c.push_reply.new.sent
    (ap (λ (n : ℕ). n + 1) c.nodes.ensures.nodes) sent c.requires.counted in
    with_answer.may c.args.parts.now c.requires.may

pub returns : goal.returns
returns c =
    let x = c.args.scratch.now in
    let sent = c.in_ok-push_reply.ensures.ok
    ∙ ap (λ (a : Option Answered). x.sent ++ reply_letters (c.nodes.result + 1) a) c.take-answered.ensures.value in
    let with_answer = is_replied c.args.script.now (part_meant x) (c.nodes.result + 1) c.push_reply.new.sent
    (ap (λ (n : ℕ). n + 1) c.nodes.ensures.nodes) sent c.requires.counted in
    let given = c.take_out-given.ensures.out ∙ c.do_whole.ensures.out in
    let done = c.in_ok-do_whole.ensures.done in
    record {
      row = ap (λ (out : StepOut). made (data_of c.do_whole.new.parts) out) given ∙ done.row
          ∙ with_answer.row (data_of c.args.parts.now);
      kept = grind arith;
      held = done.held;
      nodes = done.nodes;
      window = done.window;
      err = tt;
    }
