use Rattle.history_text.specs.Words.{HasTree, name_of_tree}
use Rattle.history_reader.proofs.FirstWords.{first_read, no_first}
use Rattle.history_reader.proofs.nexts.next_tree.Goals as goal

pub returns-in_err-word : goal.returns-in_err-word
returns-in_err-word c = no_first (name_of_tree c.args.script.now) (HasTree c.args.script.now) c.args.words.now c.next.new.self c.from_residual.result c.from_residual.ensures c.in_err-word.ensures.0

pub returns : goal.returns
returns c = first_read (name_of_tree c.args.script.now) (HasTree c.args.script.now) c.args.words.now c.next.new.self c.in_ok-word.word.now c.read_tree.result c.in_ok-word.ensures c.read_tree.ensures
