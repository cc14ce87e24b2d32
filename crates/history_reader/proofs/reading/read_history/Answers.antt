use Rattle.std.proofs.Common.{ℕ, ◌+◌, ◌∙◌, List, ap, refl, subst, sym}
use Rattle.std.specs.Prelude.{Err}
use Rattle.letter_types.specs.declared.entries.Entry.{Entry}
use Rattle.history_reader.specs.declared.reading.HistoryRefusal.{HistoryRefusal}
use Rattle.history_reader.specs.Walks.{IsReadOutcome, IsWalked}
use Rattle.history_reader.proofs.WalkEnds.{fails, next_stamp, read_whole, walks_on}
use Rattle.history_reader.proofs.reading.read_history.Goals as goal

pub returns-in-Err : goal.returns-in-Err
returns-in-Err c =
    let s = c.args.script.now in
    let text = c.args.text.now in
    subst (λ (r : HistoryRefusal). IsReadOutcome s text (Err r)) (sym c.refusal.ensures)
    (fails s text c.entries.history c.entries.walk c.entries.invariant.walked c.in-Err.fault (c.count-number.result + 1) c.entries.invariant.script
    (ap (λ (n : ℕ). n + 1) c.count-number.ensures.count)
    (λ is. c.in-Err.ensures.text (ap Err is)) (λ is. c.in-Err.ensures.postal (ap Err is)))

pub keep-requires : goal.keep-requires
keep-requires c =
    let goes = rw c.in-Ok-Some.field-0-is at c.in-Ok-Some.ensures.some in
    next_stamp c.args.script.now c.args.text.now c.entries.history c.entries.walk c.entries.invariant.walked c.in-Ok-Some.entry c.next.new.self
    c.entries.invariant.script goes

pub returns-in-Ok-None : goal.returns-in-Ok-None
returns-in-Ok-None c =
    let end = rw c.in-Ok-None.field-0-is at c.in-Ok-None.ensures.none in
    read_whole c.args.script.now c.args.text.now c.entries.history c.entries.walk c.entries.invariant.walked (end refl).0

pub entries-preserved : goal.entries-preserved
entries-preserved c =
    let s = c.args.script.now in
    let text = c.args.text.now in
    let goes = rw c.in-Ok-Some.field-0-is at c.in-Ok-Some.ensures.some in
    record {
      script = c.next.ensures.script ∙ c.entries.invariant.script;
      walked = subst (λ (h : List Entry). IsWalked s text h c.next.new.self) (sym (c.in_ok-keep-in-Ok-Some.ensures.ok))
          (walks_on s text c.entries.history c.entries.walk c.entries.invariant.walked c.in-Ok-Some.entry c.next.new.self c.entries.invariant.script goes);
    }
