use Rattle.history_text.specs.Words.{HasActor, name_of_actor}
use Rattle.history_reader.proofs.FirstWords.{first_read, no_first}
use Rattle.history_reader.proofs.heads.next_actor.Goals as goal

pub returns-in_err-word : goal.returns-in_err-word
returns-in_err-word c = no_first (name_of_actor c.args.script.now) (HasActor c.args.script.now) c.args.words.now c.next.new.self c.from_residual.result c.from_residual.ensures c.in_err-word.ensures.0

pub returns : goal.returns
returns c = first_read (name_of_actor c.args.script.now) (HasActor c.args.script.now) c.args.words.now c.next.new.self c.in_ok-word.word.now c.read_actor.result c.in_ok-word.ensures c.read_actor.ensures
