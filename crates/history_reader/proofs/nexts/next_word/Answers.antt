use Rattle.std.proofs.Common.{◌∙◌, ◌∷◌, List, ℕ, ap}
use Rattle.history_reader.proofs.FirstWords.{no_word, other_word}
use Rattle.history_reader.proofs.nexts.next_word.Goals as goal

pub returns-in_err-next : goal.returns-in_err-next
returns-in_err-next c = no_word c.args.word.now c.args.words.now c.next.new.self c.from_residual.result c.from_residual.ensures c.in_err-next.ensures.0

pub returns-then-not-is_word : goal.returns-then-not-is_word
returns-then-not-is_word c = other_word c.args.word.now c.in_ok-next.next.now c.args.words.now c.next.new.self c.in_ok-next.ensures (c.is_word.ensures.other c.if-not-is_word.true)

pub returns : goal.returns
returns c = c.in_ok-next.ensures ∙ ap (λ (w : List ℕ). w ∷ c.next.new.self) (c.is_word.ensures.is c.if-not-is_word.false)
