use Rattle.history_reader.specs.inside.Heads.{IsId, id_word}
use Rattle.history_reader.proofs.FirstWords.{last_read, no_last}
use Rattle.history_reader.proofs.heads.last_id.Goals as goal

pub returns-in_err-word : goal.returns-in_err-word
returns-in_err-word c = no_last id_word IsId c.args.words.now c.from_residual.result c.from_residual.ensures c.in_err-word.ensures

pub returns : goal.returns
returns c = last_read id_word IsId c.args.words.now c.in_ok-word.word.now c.read_id.result c.in_ok-word.ensures c.read_id.ensures
