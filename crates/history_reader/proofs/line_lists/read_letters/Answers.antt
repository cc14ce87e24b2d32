use Rattle.std.proofs.Common.{◌≡◌, ◌∙◌, ◌∷◌, ◌++◌, [], List, sym, ap, subst}
use Rattle.std.specs.List.{AllByRecursion}
use Rattle.letter_types.specs.declared.entries.Outgoing.{Outgoing}
use Rattle.tx_trees.proofs.Lists.{all-push}
use Rattle.history_text.specs.History.{sent_lines}
use Rattle.history_text.specs.Printable.{IsSent}
use Rattle.history_reader.proofs.Printed.{bad_letter_line, good_letter_line, no_letter_line}
use Rattle.history_reader.proofs.line_lists.read_letters.Goals as goal

pub returns-in_default : goal.returns-in_default
returns-in_default c =
    no_letter_line c.args.script.now c.args.lines.now c.lines.lines c.lines.letters c.nodes-nodes.ensures.valid c.lines.invariant.lines c.lines.invariant.sent
    (sym c.begins.ensures ∙ c.lines-test.true) c.in_default.ensures

pub returns-in_default-2 : goal.returns-in_default-2
returns-in_default-2 c =
    bad_letter_line c.args.script.now c.args.lines.now c.lines.lines c.in-Some.line.now c.next.new.self c.lines.letters c.nodes-nodes.ensures.valid c.lines.invariant.lines c.lines.invariant.sent
    (sym c.begins.ensures ∙ c.lines-test.true) c.in-Some.ensures.0 c.in-Some.ensures.1 (rw c.in_default-2.is at c.in_ok-letter.ensures)

pub lines-preserved : goal.lines-preserved
lines-preserved c =
    let s = c.args.script.now in
    let read = rw c.in-Some-2.is at c.in_ok-letter.ensures in
    let one = c.in-Some-2.letter in
    let pushed : c.push.new.self ≡ c.lines.letters ++ one ∷ [] = c.in_ok-push.ensures.ok in
    record {
      lines =
          good_letter_line s c.args.lines.now c.lines.lines c.in-Some.line.now c.next.new.self c.lines.letters one c.nodes-nodes.ensures.valid c.lines.invariant.lines c.in-Some.ensures.0 read.0 read.1
          ∙ ap (λ (ls : List Outgoing). sent_lines s ls ++ c.next.new.self) (sym pushed);
      sent = subst (λ (ls : List Outgoing). AllByRecursion (IsSent s) ls) (sym pushed) (all-push (IsSent s) c.lines.letters one c.lines.invariant.sent read.1);
    }
