use Rattle.std.proofs.Common.{◌≡◌, ◌∙◌, ◌∷◌, ◌++◌, [], List, sym, ap, subst}
use Rattle.std.specs.List.{AllByRecursion}
use Rattle.letter_types.specs.declared.acts.Act.{Act}
use Rattle.tx_trees.proofs.Lists.{all-push}
use Rattle.history_text.specs.History.{act_lines}
use Rattle.history_text.specs.Printable.{IsAct}
use Rattle.history_reader.proofs.Printed.{bad_act_line, good_act_line, no_act_line}
use Rattle.history_reader.proofs.line_lists.read_acts.Goals as goal

pub returns-in_default : goal.returns-in_default
returns-in_default c =
    no_act_line c.args.script.now c.args.lines.now c.lines.lines c.lines.acts c.nodes-nodes.ensures.valid c.lines.invariant.lines c.lines.invariant.acts
    (sym c.begins.ensures ∙ c.lines-test.true) c.in_default.ensures

pub returns-in_default-2 : goal.returns-in_default-2
returns-in_default-2 c =
    bad_act_line c.args.script.now c.args.lines.now c.lines.lines c.in-Some.line.now c.next.new.self c.lines.acts c.nodes-nodes.ensures.valid c.lines.invariant.lines c.lines.invariant.acts
    (sym c.begins.ensures ∙ c.lines-test.true) c.in-Some.ensures.0 c.in-Some.ensures.1 (rw c.in_default-2.is at c.in_ok-act.ensures)

pub lines-preserved : goal.lines-preserved
lines-preserved c =
    let s = c.args.script.now in
    let read = rw c.in-Some-2.is at c.in_ok-act.ensures in
    let one = c.in-Some-2.act in
    let pushed : c.push.new.self ≡ c.lines.acts ++ one ∷ [] = c.in_ok-push.ensures.ok in
    record {
      lines =
          good_act_line s c.args.lines.now c.lines.lines c.in-Some.line.now c.next.new.self c.lines.acts one c.nodes-nodes.ensures.valid c.lines.invariant.lines c.in-Some.ensures.0 read.0 read.1
          ∙ ap (λ (ls : List Act). act_lines s ls ++ c.next.new.self) (sym pushed);
      acts = subst (λ (ls : List Act). AllByRecursion (IsAct s) ls) (sym pushed) (all-push (IsAct s) c.lines.acts one c.lines.invariant.acts read.1);
    }
