use Rattle.std.specs.Prelude.{None, Some}
use Rattle.history_reader.proofs.ReadLines.{yes_read}
use Rattle.history_reader.proofs.votes.read_yes.Goals as goal

pub returns-in_default : goal.returns-in_default
returns-in_default c = yes_read c.args.script.now c.args.words.now None (rw c.in_default.is at c.in_ok-values.ensures)

pub returns : goal.returns
returns c = yes_read c.args.script.now c.args.words.now (Some c.in-Some.values) (rw c.in-Some.is at c.in_ok-values.ensures)
