use Rattle.std.proofs.Common.{◌∙◌, ◌++◌, List, ap, subst, sym}
use Rattle.std.specs.List.{AllByRecursion}
use Rattle.letter_types.specs.declared.acts.Act.{Act}
use Rattle.letter_types.specs.declared.entries.Outgoing.{Outgoing}
use Rattle.history_text.specs.History.{act_lines, sent_lines}
use Rattle.history_text.specs.Printable.{IsAct, IsSent}
use Rattle.history_reader.proofs.WholeEntries.{entry_read, no_acts, no_end, no_first_line, no_head, no_letters}
use Rattle.history_reader.proofs.entries.next_entry.Goals as goal

pub returns-in_default : goal.returns-in_default
returns-in_default c = no_first_line c.args.script.now c.args.lines.now c.in_default.ensures

pub returns-in_default-read_head : goal.returns-in_default-read_head
returns-in_default-read_head c =
    no_head c.args.script.now c.args.lines.now c.in-Some.line.now c.next.new.self c.nodes-nodes.ensures.valid c.in-Some.ensures.0 c.in-Some.ensures.1 c.in_default-read_head.ensures

pub returns-in_default-2 : goal.returns-in_default-2
returns-in_default-2 c =
    let only = rw c.in_default-2.is at c.in_ok-sent.ensures in
    no_letters c.args.script.now c.args.lines.now c.in-Some.line.now c.next.new.self c.nodes-nodes.ensures.valid c.in-Some.ensures.0 c.in-Some.ensures.1 only

pub returns-in_default-3 : goal.returns-in_default-3
returns-in_default-3 c =
    let sent = rw c.in-Some-2.is at c.in_ok-sent.ensures in
    let only = rw c.in_default-3.is at c.in_ok-acts.ensures in
    no_acts c.args.script.now c.args.lines.now c.in-Some.line.now c.next.new.self c.read_letters.new.lines c.in-Some-2.sent c.nodes-nodes.ensures.valid c.in-Some.ensures.0 c.in-Some.ensures.1
    sent.0 sent.1 sent.2 only

pub returns-then-not-end_entry : goal.returns-then-not-end_entry
returns-then-not-end_entry c =
    let sent = rw c.in-Some-2.is at c.in_ok-sent.ensures in
    let acts = rw c.in-Some-3.is at c.in_ok-acts.ensures in
    no_end c.args.script.now c.args.lines.now c.in-Some.line.now c.next.new.self c.read_letters.new.lines c.read_acts.new.lines c.in-Some-2.sent c.in-Some-3.acts c.nodes-nodes.ensures.valid
    c.in-Some.ensures.0 c.in-Some.ensures.1 sent.0 sent.1 sent.2 acts.0 acts.1 acts.2 (sym c.end_entry.ensures ∙ c.if-not-end_entry.true)

pub returns : goal.returns
returns c =
    let s = c.args.script.now in
    let sent = rw c.in-Some-2.is at c.in_ok-sent.ensures in
    let acts = rw c.in-Some-3.is at c.in_ok-acts.ensures in
    let head = c.in-Some-read_head.ensures in
    let made = c.entry_of.ensures in
    entry_read s c.args.lines.now c.in-Some.line.now c.next.new.self c.read_letters.new.lines c.read_acts.new.lines c.in-Some-read_head.head c.entry_of.result c.nodes-nodes.ensures.valid c.in-Some.ensures.0 head.0 head.1
    (sent.0 ∙ ap (λ (l : List Outgoing). sent_lines s l ++ c.read_letters.new.lines) (sym made.sent)) (subst (λ (l : List Outgoing). AllByRecursion (IsSent s) l) (sym made.sent) sent.1)
    (acts.0 ∙ ap (λ (l : List Act). act_lines s l ++ c.read_acts.new.lines) (sym made.acts)) (subst (λ (l : List Act). AllByRecursion (IsAct s) l) (sym made.acts) acts.1)
    (sym c.end_entry.ensures ∙ c.if-not-end_entry.false) made.stamp made.actor made.took
