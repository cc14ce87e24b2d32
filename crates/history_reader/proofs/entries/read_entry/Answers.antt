use Rattle.std.proofs.Common.{◌-◌, List, ℕ, ap, length, subst}
use Rattle.history_text.specs.Printable.{Begins}
use Rattle.history_reader.proofs.WholeEntries.{heard_length}
use Rattle.history_reader.proofs.entries.read_entry.Goals as goal

pub returns-clause-some : goal.returns-clause-some
returns-clause-some c =
    let s = c.args.script.now in
    let text = c.args.text.now in
    let entry = c.in-Some.entry in
    let read = rw c.in-Some.is at c.in_ok-entry.ensures in
    let whole : Begins s text entry c.next_entry.new.lines = subst (λ (t : List ℕ). Begins s t entry c.next_entry.new.lines) c.new-lines.ensures read in
    heard_length s text c.next_entry.new.lines entry (length text - c.left.result) whole (ap (λ (n : ℕ). length text - n) c.left.ensures)
