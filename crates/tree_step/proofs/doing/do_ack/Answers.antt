use Rattle.std.proofs.Common.{ℕ, ap, ◌∙◌, List}
use Rattle.letter_types.specs.Steps.{made}
use Rattle.tv_base.specs.declared.numbers.TreeNo.{TreeNo}
use Rattle.tree_home.specs.HeldAnswers.{acked}
use Rattle.tree_home.specs.Maps.{by_tree}
use Rattle.tree_home.specs.declared.homes.Held.{Held}
use Rattle.tree_home.specs.declared.homes.OpenTree.{OpenTree}
use Rattle.tree_step.specs.Node.{data_of}
use Rattle.tree_step.specs.CoreChanges.{core_step_row}
use Rattle.tree_step.specs.Core.{core_of, core_with}
use Rattle.tree_step.specs.steps.HoldChange.{Ack}
use Rattle.tree_step.proofs.Stepped.{apart, same_window, stepped, with_homes}
use Rattle.tree_step.specs.Meant.{meant_with, out_in}
use Rattle.tree_step.proofs.doing.do_ack.Goals as goal

pub returns-clause-done : goal.returns-clause-done
returns-clause-done c =
    let p = meant_with c.args.plan c.args.scratch.now (Ack c.args.tree) in
    let old = c.args.core.now in
    let parts = c.do_parts.new.parts in
    let done = c.do_parts.ensures.done in
    let out = out_in c.args.scratch.now in
    let last = with_homes c.acked.new.self parts in
    let row = ap (λ (e : ℕ). made (core_with last c.change_votes.new.locks c.change_votes.new.refusals e) out) c.hear_of.ensures
    ∙ stepped p old parts last c.change_votes.new.locks c.change_votes.new.refusals out done.row
    (ap (λ (es : List (TreeNo × OpenTree)). record (data_of parts) { homes = by_tree es }) c.acked.ensures.opened)
    c.in_ok-change_votes.ensures.locks c.in_ok-change_votes.ensures.refusals
    (c.acked.ensures.held ∙ ap (λ (es : List (TreeNo × Held)). acked c.args.tree (by_tree es)) done.held) in
    record {
      row = row;
      nodes = done.nodes;
      window = same_window parts c.acked.new.self done.window;
      apart = apart (core_with last c.change_votes.new.locks c.change_votes.new.refusals c.hear_of.new.epoch) out
          (core_step_row p (core_of old)) row c.requires.may.apart;
      err = tt;
    }
