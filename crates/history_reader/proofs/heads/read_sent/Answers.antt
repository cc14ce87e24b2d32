use Rattle.std.proofs.Common.{◌∙◌, ◌∷◌, sym}
use Rattle.history_text.specs.Parts.{parts_at}
use Rattle.history_text.specs.TreeNames.{actor_text}
use Rattle.history_reader.specs.inside.BodyWords.{body_words}
use Rattle.history_reader.proofs.ReadLines.{no_receiver, no_said, sent_read}
use Rattle.history_reader.proofs.heads.read_sent.Goals as goal

pub returns-in_default : goal.returns-in_default
returns-in_default c = λ o same may. c.in_default.ensures (actor_text c.args.script.now o.to.0 ∷ body_words c.args.script.now o.body) (c.new-words.ensures ∙ same)

pub returns-in_default-next_actor : goal.returns-in_default-next_actor
returns-in_default-next_actor c =
    no_receiver c.args.script.now (parts_at 32 c.args.line.now) c.next_word.new.words (sym c.new-words.ensures ∙ c.in-Some.ensures) c.in_default-next_actor.ensures

pub returns-in_default-2 : goal.returns-in_default-2
returns-in_default-2 c =
    no_said c.args.script.now (parts_at 32 c.args.line.now) c.next_word.new.words c.next_actor.new.words c.in-Some-next_actor.to (sym c.new-words.ensures ∙ c.in-Some.ensures)
    c.in-Some-next_actor.ensures.0 (rw c.in_default-2.is at c.in_ok-body.ensures)

pub returns : goal.returns
returns c =
    let said = rw c.in-Some-2.is at c.in_ok-body.ensures in
    sent_read c.args.script.now (parts_at 32 c.args.line.now) c.next_word.new.words c.next_actor.new.words c.in-Some-next_actor.to c.in-Some-2.body (sym c.new-words.ensures ∙ c.in-Some.ensures)
    c.in-Some-next_actor.ensures.0 c.in-Some-next_actor.ensures.1 said.0 said.1
