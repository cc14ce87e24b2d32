use Rattle.std.specs.Prelude.{decimal}
use Rattle.history_text.specs.Printable.{IsHalfWord}
use Rattle.history_reader.proofs.FirstWords.{last_read, no_last}
use Rattle.history_reader.proofs.nexts.last_half.Goals as goal

pub returns-in_err-word : goal.returns-in_err-word
returns-in_err-word c = no_last decimal IsHalfWord c.args.words.now c.from_residual.result c.from_residual.ensures c.in_err-word.ensures

pub returns : goal.returns
returns c = last_read decimal IsHalfWord c.args.words.now c.in_ok-word.word.now c.read_half.result c.in_ok-word.ensures c.read_half.ensures
