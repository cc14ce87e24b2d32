use Rattle.std.specs.Prelude.{decimal}
use Rattle.history_text.specs.Printable.{IsHalfWord}
use Rattle.history_reader.proofs.FirstWords.{first_read, no_first}
use Rattle.history_reader.proofs.nexts.next_half.Goals as goal

pub returns-in_err-word : goal.returns-in_err-word
returns-in_err-word c = no_first decimal IsHalfWord c.args.words.now c.next.new.self c.from_residual.result c.from_residual.ensures c.in_err-word.ensures.0

pub returns : goal.returns
returns c = first_read decimal IsHalfWord c.args.words.now c.next.new.self c.in_ok-word.word.now c.read_half.result c.in_ok-word.ensures c.read_half.ensures
