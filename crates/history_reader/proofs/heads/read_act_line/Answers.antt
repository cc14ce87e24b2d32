use Rattle.std.proofs.Common.{◌∙◌, sym}
use Rattle.history_text.specs.Parts.{parts_at}
use Rattle.history_reader.specs.inside.BodyWords.{act_words}
use Rattle.history_reader.proofs.ReadLines.{act_line_read}
use Rattle.history_reader.proofs.heads.read_act_line.Goals as goal

pub returns-in_default : goal.returns-in_default
returns-in_default c = λ a same may. c.in_default.ensures (act_words c.args.script.now a) (c.new-words.ensures ∙ same)

pub returns : goal.returns
returns c = act_line_read c.args.script.now (parts_at 32 c.args.line.now) c.next_word.new.words c.read_act.result (sym c.new-words.ensures ∙ c.in-Some.ensures) c.read_act.ensures
