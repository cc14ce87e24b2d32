use Rattle.history_text.specs.Words.{HasTree, name_of_tree}
use Rattle.history_reader.proofs.FirstWords.{last_read, no_last}
use Rattle.history_reader.proofs.nexts.last_tree.Goals as goal

pub returns-in_err-word : goal.returns-in_err-word
returns-in_err-word c = no_last (name_of_tree c.args.script.now) (HasTree c.args.script.now) c.args.words.now c.from_residual.result c.from_residual.ensures c.in_err-word.ensures

pub returns : goal.returns
returns c = last_read (name_of_tree c.args.script.now) (HasTree c.args.script.now) c.args.words.now c.in_ok-word.word.now c.read_tree.result c.in_ok-word.ensures c.read_tree.ensures
