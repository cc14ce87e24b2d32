-- In every run of every valid script each act is a move of the Board, but for the cause of a vote.
use Rattle.std.proofs.Common.{◌≡◌, ℕ, List, [], ◌∷◌, ◌++◌, reverse, sym, subst, Some}
use Rattle.std.specs.Prelude.{slice_get}
use Rattle.letter_types.specs.declared.acts.Act.{Act}
use Rattle.letter_types.specs.declared.acts.Act.TheVariants as acts
use Rattle.letter_types.specs.declared.entries.Entry.{Entry}
use Rattle.script_parts.specs.ScriptData.{ScriptData}
use Rattle.script_parts.specs.Valid.{IsValid}
use Rattle.world_model.specs.Runs.{IsStepRun}
use Rattle.board_rules.specs.Histories.{Place, places_at}
use Rattle.board_rules.specs.Moves.{AtEachAct}
use Rattle.board_rules.specs.Rules.{AreByRule, IsByRule}
use Rattle.tree_laws.proofs.apt.AptVersions.{before}
use Rattle.tree_laws.proofs.histories.Histories.{at_each_act_more}
use Rattle.run_laws.proofs.act_order.Fronts.{act_of_place, front, in_both, one_by_one, place_of, placed}
use Rattle.run_laws.proofs.act_order.Rules.{follows_rules}
use Rattle.board_rules.specs.ButCause.{IsMoveButCause, IsMoveButCauseAt}
use Rattle.board_rules.proofs.Places.{places_more}
use Rattle.run_laws.proofs.births.Asked.{deed_is, voting_is}
use Rattle.run_laws.proofs.births.Births.{birth_is, waiting_is}
use Rattle.run_laws.proofs.births.Raised.{showing_is, sweeping_is, turn_is}

-- An act of an entry follows its rule.
rule_at : (s : ScriptData) (past : List Entry) (e : Entry) (j : ℕ) (a : Act) → AreByRule s (before (e ∷ past)) → slice_get e.acts j ≡ Some a
    → IsByRule s (front past e j) e.actor.0 a
rule_at s past e j a all at =
    let y : Place = placed e.actor.0 a in
    let l = in_both (before past) (places_at e) j y (place_of e j a at) in
    let parts : AreByRule s (before past ++ places_at e) = subst (λ (zs : List Place). AreByRule s zs) (places_more e past) all in
    subst (λ (xs : List Place). IsByRule s xs e.actor.0 a) l.front (parts l.place y l.is)

-- Each act of an entry is a move.
act_moves : (s : ScriptData) (past : List Entry) (e : Entry) (j : ℕ) (a : Act) → IsValid s → IsStepRun s (e ∷ past)
    → slice_get e.acts j ≡ Some a → IsByRule s (front past e j) e.actor.0 a → IsMoveButCauseAt s (reverse past) (front past e j) e.actor.0 a
act_moves s past e j (acts.Born t v) valid run at rule = birth_is s past e j t v valid run at
act_moves s past e j (acts.Did t k values) valid run at rule = deed_is s past e j t k values valid run at rule
act_moves s past e j (acts.Turned v) valid run at rule = turn_is s past e j v valid run at
act_moves s past e j (acts.Showed v) valid run at rule = showing_is s past e j v valid run at
act_moves s past e j (acts.Swept v) valid run at rule = sweeping_is s past e j v valid run at
act_moves s past e j (acts.Waits t u r) valid run at rule = waiting_is s past e j t u r valid run at
act_moves s past e j (acts.Voted t k vote) valid run at rule = voting_is s past e j t k vote valid run at
act_moves s past e j (acts.Freed t) valid run at rule = rule
act_moves s past e j (acts.Decided t commit) valid run at rule = rule
act_moves s past e j (acts.Applied t commit) valid run at rule = rule
act_moves s past e j (acts.Parked t k item holder) valid run at rule = tt
act_moves s past e j acts.Finished valid run at rule = tt

place_moves : (s : ScriptData) (past : List Entry) (e : Entry) (j : ℕ) (y : Place) → IsValid s → IsStepRun s (e ∷ past)
    → slice_get (places_at e) j ≡ Some y → IsMoveButCause s (reverse past) (front past e j) y
place_moves s past e j y valid run is =
    let there = act_of_place e j y is in
    subst (λ (n : ℕ). IsMoveButCauseAt s (reverse past) (front past e j) n y.act) (sym there.1)
    (act_moves s past e j y.act valid run there.0
    (rule_at s past e j y.act (follows_rules s (e ∷ past) valid run).acts there.0))

-- So each act of a run is one.
pub moves_but_cause : (s : ScriptData) (past : List Entry) → IsValid s → IsStepRun s past → AtEachAct (IsMoveButCause s) (reverse past)
moves_but_cause s [] valid run = λ n e here. absurd (cc here)
moves_but_cause s (e ∷ past) valid run =
    at_each_act_more (IsMoveButCause s) e past (moves_but_cause s past valid run.1)
    (one_by_one (IsMoveButCause s (reverse past)) (before past) (places_at e) (λ j y is. place_moves s past e j y valid run is))
