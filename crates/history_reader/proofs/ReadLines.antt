-- What is read behind a word, of votes, letters and acts.
use Rattle.std.proofs.Common.{◌≡◌, ◌∙◌, ◌∷◌, List, ℕ, drop, sym, ap}
use Rattle.std.specs.Prelude.{codes, IfOk, Option, Some, None, Result, Ok, Err}
use Rattle.std.proofs.lemmas.List.{append-nil}
use Rattle.tv_base.specs.declared.numbers.ActorNo.{ActorNo}
use Rattle.tv_base.specs.declared.numbers.ItemNo.{ItemNo}
use Rattle.tv_base.specs.declared.numbers.NoMemory.{NoMemory}
use Rattle.commute_ops.specs.declared.value.Value.{Value}
use Rattle.letter_types.specs.declared.acts.Act.{Act}
use Rattle.letter_types.specs.declared.bodies.Body.{Body}
use Rattle.letter_types.specs.declared.entries.Outgoing.{Outgoing}
use Rattle.letter_types.specs.declared.votes.Vote.{Vote}
use Rattle.letter_types.specs.declared.votes.Vote.TheVariants as votes
use Rattle.tx_trees.specs.ScriptData.{ScriptData}
use Rattle.history_text.specs.Exact.{IsReadBack}
use Rattle.history_text.specs.Printable.{AreGot, IsAct, IsBody, IsSent}
use Rattle.history_text.specs.Words.{HasActor, got_words, name_of_actor}
use Rattle.history_reader.specs.inside.BodyWords.{IsVote, act_words, body_words, vote_words}
use Rattle.history_reader.specs.inside.Heads.{act_line_words, sent_words}

pub yes_read : (s : ScriptData) (ws : List (List ℕ)) (read : Option (List (ItemNo × Value))) → IsReadBack (got_words s) (AreGot s) ws read
    → IsReadBack (vote_words s) (IsVote s) (codes "yes" ∷ ws) (elim read [ Some vs ↦ Some (votes.Yes vs) | None ↦ None ])
yes_read s ws (Some vs) read = (ap (λ (w : List (List ℕ)). codes "yes" ∷ w) (read.0 ∙ sym (append-nil (got_words s vs))), (tt, (read.1, tt)))
yes_read s ws None none = λ v is may. by v is may
  where
    by : (v : Vote) → codes "yes" ∷ ws ≡ vote_words s v → IsVote s v → ⊥
    by (votes.Yes vs) is may = none vs (ap (drop 1) is ∙ append-nil (got_words s vs)) may.1.0
    by (votes.No cause) is may = cc

pub act_line_read : (s : ScriptData) (old ws : List (List ℕ)) (read : Result (Option Act) NoMemory) → old ≡ codes "act" ∷ ws → IfOk read (IsReadBack (act_words s) (IsAct s) ws)
    → IfOk read (IsReadBack (act_line_words s) (IsAct s) old)
act_line_read s old ws (Err e) is read = tt
act_line_read s old ws (Ok (Some a)) is read = (is ∙ ap (λ (w : List (List ℕ)). codes "act" ∷ w) read.0, read.1)
act_line_read s old ws (Ok None) is none = λ a same may. none a (ap (drop 1) (sym is ∙ same)) may

pub no_receiver : (s : ScriptData) (old ws : List (List ℕ)) → old ≡ codes "sent" ∷ ws → ((a : ActorNo) (rest : List (List ℕ)) → ws ≡ name_of_actor s a ∷ rest → HasActor s a → ⊥)
    → (o : Outgoing) → old ≡ sent_words s o → IsSent s o → ⊥
no_receiver s old ws is none o same may = none o.to (body_words s o.body) (ap (drop 1) (sym is ∙ same)) may.0

pub sent_read : (s : ScriptData) (old ws rest : List (List ℕ)) (to : ActorNo) (body : Body) → old ≡ codes "sent" ∷ ws → ws ≡ name_of_actor s to ∷ rest → HasActor s to → rest ≡ body_words s body → IsBody s body
    → let o : Outgoing = record { to = to; body = body } in (old ≡ sent_words s o) × IsSent s o
sent_read s old ws rest to body is next there said may =
    (is ∙ ap (λ (w : List (List ℕ)). codes "sent" ∷ w) (next ∙ ap (λ (w : List (List ℕ)). name_of_actor s to ∷ w) said), (there, may))

pub no_said : (s : ScriptData) (old ws rest : List (List ℕ)) (to : ActorNo) → old ≡ codes "sent" ∷ ws → ws ≡ name_of_actor s to ∷ rest → ((b : Body) → rest ≡ body_words s b → IsBody s b → ⊥)
    → (o : Outgoing) → old ≡ sent_words s o → IsSent s o → ⊥
no_said s old ws rest to is next none o same may = none o.body (ap (drop 2) (sym (is ∙ ap (λ (w : List (List ℕ)). codes "sent" ∷ w) next) ∙ same)) may.1
