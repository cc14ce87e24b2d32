-- How a strict transaction came out, by what is kept of it, is what the whole history says.
use Rattle.std.proofs.Common.{◌≡◌, ℕ, ◌+◌, List, [], ◌∷◌, ◌++◌, refl, ap, sym, ◌∙◌, append_assoc}
use Rattle.std.specs.Prelude.{codes, Bool, true, false, filter, Option, Some, None}
use Rattle.std.specs.Option.{option_and_then, option_map_or, option_or}
use Rattle.tv_base.specs.declared.numbers.ItemNo.{ItemNo}
use Rattle.commute_ops.specs.declared.value.Value.{Value}
use Rattle.letter_types.specs.declared.acts.Act.{Act}
use Rattle.letter_types.specs.declared.votes.Cause.{Cause}
use Rattle.letter_types.specs.declared.votes.Vote.{Vote}
use Rattle.tx_trees.specs.ScriptData.{ScriptData}
use Rattle.tx_trees.specs.declared.parts.Sub.{Sub}
use Rattle.board_rules.specs.Outcomes.{cause_from, decision_in, got_from, got_of, vote_in}
use Rattle.board_rules.specs.Stands.{refusal_in}
use Rattle.board_model.specs.Ballots.{tells_of}
use Rattle.board_model.proofs.Voting.{decisions_kept, votes_kept}
use Rattle.history_text.specs.TreeNames.{got_text, item_text}
use Rattle.report_text.specs.Outcomes.{decided_text, outcome_of, why_text}
use Rattle.history_text.specs.Values.{get_text}

pub got_text-append : (s : ScriptData) (vs more : List (ItemNo × Value)) → got_text s (vs ++ more) ≡ got_text s vs ++ got_text s more
got_text-append s [] more = refl
got_text-append s (got ∷ vs) more =
    let one : List ℕ = get_text (item_text s got.0.0) got.1 in
    ap (λ (z : List ℕ). one ++ z) (got_text-append s vs more) ∙ sym (append_assoc one (got_text s vs) (got_text s more))

got_kept : (acts : List Act) (t k : ℕ) (subs : List Sub) → got_from (filter (tells_of t) acts) t k subs ≡ got_from acts t k subs
got_kept acts t k [] = refl
got_kept acts t k (sub ∷ subs) =
    ap (λ (o : Option Vote). option_map_or got_of o [] ++ got_from (filter (tells_of t) acts) t (k + 1) subs) (votes_kept t k acts)
    ∙ ap (λ (z : List (ItemNo × Value)). option_map_or got_of (vote_in t k acts) [] ++ z) (got_kept acts t (k + 1) subs)

cause_kept : (acts : List Act) (t k : ℕ) (subs : List Sub) → cause_from (filter (tells_of t) acts) t k subs ≡ cause_from acts t k subs
cause_kept acts t k [] = refl
cause_kept acts t k (sub ∷ subs) =
    ap (λ (o : Option Vote). option_or (option_and_then refusal_in o) (cause_from (filter (tells_of t) acts) t (k + 1) subs)) (votes_kept t k acts)
    ∙ ap (λ (o : Option Cause). option_or (option_and_then refusal_in (vote_in t k acts)) o) (cause_kept acts t (k + 1) subs)

decided_kept : (s : ScriptData) (acts : List Act) (t : ℕ) (subs : List Sub) (o : Option Bool)
    → option_map_or (decided_text s (filter (tells_of t) acts) t subs) o [] ≡ option_map_or (decided_text s acts t subs) o []
decided_kept s acts t subs None = refl
decided_kept s acts t subs (Some true) = ap (λ (vs : List (ItemNo × Value)). codes " committed" ++ got_text s vs) (got_kept acts t 0 subs)
decided_kept s acts t subs (Some false) = ap (λ (o : Option Cause). codes " aborted" ++ why_text s o) (cause_kept acts t 0 subs)

pub outcome_kept : (s : ScriptData) (acts : List Act) (t : ℕ) (subs : List Sub)
    → outcome_of s (filter (tells_of t) acts) t subs ≡ outcome_of s acts t subs
outcome_kept s acts t subs =
    ap (λ (o : Option Bool). option_map_or (decided_text s (filter (tells_of t) acts) t subs) o []) (decisions_kept t acts)
    ∙ decided_kept s acts t subs (decision_in t acts)
