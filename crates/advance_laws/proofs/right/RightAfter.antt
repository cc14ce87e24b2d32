-- Messages that were as they should be are so after an entry of the coordinator: if it gives nothing new and waits
-- for what it waited for, or if none of its epoch is left.
use Rattle.std.proofs.Common.{◌≡◌, ℕ, ◌<◌, ◌≤◌, ◌==◌, List, ◌∷◌, subst, ◌∙◌, arith}
use Rattle.letter_types.specs.declared.bodies.Body.{Body}
use Rattle.letter_types.specs.declared.bodies.Body.TheVariants.{Go, Advanced, Ask, Numbers, Obeyed, Order, Wanted}
use Rattle.letter_types.specs.declared.bodies.What.{What}
use Rattle.letter_types.specs.declared.entries.Entry.{Entry}
use Rattle.tv_base.specs.declared.numbers.Version.{Version}
use Rattle.tx_trees.specs.ScriptData.{ScriptData}
use Rattle.world_model.specs.Counts.{one_if}
use Rattle.world_model.specs.Keeping.{KeepingNode}
use Rattle.world_model.specs.Runs.{restarting_in}
use Rattle.world_model.specs.declared.restarting.RestartPhase.TheVariants.{Recovering}
use Rattle.advance_laws.specs.Given.{greatest_given}
use Rattle.advance_laws.specs.Phases.{Stage, TurnStage, ShowStage, SweepStage, stage_of}
use Rattle.advance_laws.proofs.governed.Advancing.{given_rises}
use Rattle.advance_laws.proofs.right.AtCoordinator.{held_at, node_stays}
use Rattle.advance_laws.proofs.right.Good.{IsAsTold, IsCurrent, IsLatest, IsRight, Knows, epoch_in, token, turns_in}

-- the same was given as before
abbrev pub IsGivenStill : List Entry → Entry → Type 0
IsGivenStill past e = (g : Stage) → greatest_given g (e ∷ past) ≡ greatest_given g past

-- numbers come from a node
abbrev pub IsOfNode : ScriptData → ℕ → Body → Type 0
IsOfNode s from (Numbers e u r l) = from < s.nodes
IsOfNode s from Go = Unit {0}
IsOfNode s from _ = Unit {0}

-- What a node has told, and when.
pub told_after : (s : ScriptData) (past : List Entry) (e : Entry) (q : ℕ) (u r l : Version) → e.actor.0 ≡ s.nodes → q < s.nodes
    → IsAsTold (turns_in s past q) u r l → IsAsTold (turns_in s (e ∷ past) q) u r l
told_after s past e q u r l at lt told = held_at (λ (n : KeepingNode). IsAsTold n.core.node.turns u r l) s past e q at lt told

pub latest_after : (s : ScriptData) (past : List Entry) (e : Entry) (q l : ℕ) → e.actor.0 ≡ s.nodes → q < s.nodes → IsGivenStill past e
    → (restarting_in s (e ∷ past)).epoch ≡ (restarting_in s past).epoch → IsLatest s past q l → IsLatest s (e ∷ past) q l
latest_after s past e q l at lt given same was = record {
  epoch = held_at (λ (n : KeepingNode). (restarting_in s (e ∷ past)).epoch ≤ n.core.epoch) s past e q at lt (omega (arith, same, was.epoch));
  turned = omega (arith, given TurnStage, was.turned);
  showed = omega (arith, given ShowStage, was.showed);
  swept = omega (arith, given SweepStage, was.swept);
}

-- Nothing new is given, in the same epoch, and it waits for what it waited for.
pub record IsSteadily (s : ScriptData) (past : List Entry) (e : Entry) : Type 0 where
  pub at : e.actor.0 ≡ s.nodes
  pub given : IsGivenStill past e
  pub epoch : (restarting_in s (e ∷ past)).epoch ≡ (restarting_in s past).epoch
  pub current : (what : What) (v : Version) → IsCurrent (restarting_in s past) what v → IsCurrent (restarting_in s (e ∷ past)) what v
  pub recovers : (restarting_in s (e ∷ past)).phase ≡ Recovering → (restarting_in s past).phase ≡ Recovering

pub right_kept : (s : ScriptData) (past : List Entry) (e : Entry) (from to : ℕ) (body : Body) → IsSteadily s past e
    → (IsOfNode s from body) → IsRight s past from to body → IsRight s (e ∷ past) from to body
right_kept s past e from to (Ask d) h sender right = omega (arith, h.epoch, right)
right_kept s past e from to (Numbers d u r l) h sender right = record {
  epoch = omega (arith, h.epoch, right.epoch);
  told = told_after s past e from u r l h.at sender right.told;
  latest = λ is rec. latest_after s past e from l.0 h.at sender h.given h.epoch (right.latest (is ∙ h.epoch) (h.recovers rec));
}
right_kept s past e from to (Order d what v) h sender right = record {
  epoch = omega (arith, h.epoch, right.epoch);
  current = λ is. h.current what v (right.current (is ∙ h.epoch));
  given = omega (arith, h.given (stage_of what), right.given);
  window = λ lt heeds.
      let old : epoch_in s past to ≤ d = subst (λ (n : KeepingNode). n.core.epoch ≤ d) (node_stays s past e to h.at lt) heeds in
      omega (arith, h.given SweepStage, right.window lt old);
}
right_kept s past e from to (Obeyed d what v) h sender right = record {
  epoch = omega (arith, h.epoch, right.epoch);
  current = λ is. h.current what v (right.current (is ∙ h.epoch));
}
right_kept s past e from to (Wanted d k) h sender right = record {
  epoch = omega (arith, h.epoch, right.epoch);
  covers = λ is rec. omega (arith, h.given TurnStage, right.covers (is ∙ h.epoch) (h.recovers rec));
}
right_kept s past e from to (Advanced v) h sender right =
    λ q lt. held_at (λ (n : KeepingNode). v.0 ≤ n.core.node.turns.low.0) s past e q h.at lt (right q lt)
right_kept s past e from to Go h sender right = tt
right_kept s past e from to _ h sender right = tt

-- It forgets: no letter is of its new epoch.
pub record IsForgetting (s : ScriptData) (past : List Entry) (e : Entry) : Type 0 where
  pub at : e.actor.0 ≡ s.nodes
  pub given : IsGivenStill past e
  pub epoch : (restarting_in s past).epoch < (restarting_in s (e ∷ past)).epoch

pub right_forgets : (s : ScriptData) (past : List Entry) (e : Entry) (from to : ℕ) (body : Body) → IsForgetting s past e
    → (IsOfNode s from body) → IsRight s past from to body → IsRight s (e ∷ past) from to body
right_forgets s past e from to (Ask d) h sender right = omega (arith, h.epoch, right)
right_forgets s past e from to (Numbers d u r l) h sender right = record {
  epoch = omega (arith, h.epoch, right.epoch);
  told = told_after s past e from u r l h.at sender right.told;
  latest = λ is rec. absurd (omega (arith, is, h.epoch, right.epoch));
}
right_forgets s past e from to (Order d what v) h sender right = record {
  epoch = omega (arith, h.epoch, right.epoch);
  current = λ is. absurd (omega (arith, is, h.epoch, right.epoch));
  given = omega (arith, h.given (stage_of what), right.given);
  window = λ lt heeds.
      let old : epoch_in s past to ≤ d = subst (λ (n : KeepingNode). n.core.epoch ≤ d) (node_stays s past e to h.at lt) heeds in
      omega (arith, h.given SweepStage, right.window lt old);
}
right_forgets s past e from to (Obeyed d what v) h sender right = record {
  epoch = omega (arith, h.epoch, right.epoch);
  current = λ is. absurd (omega (arith, is, h.epoch, right.epoch));
}
right_forgets s past e from to (Wanted d k) h sender right = record {
  epoch = omega (arith, h.epoch, right.epoch);
  covers = λ is rec. absurd (omega (arith, is, h.epoch, right.epoch));
}
right_forgets s past e from to (Advanced v) h sender right =
    λ q lt. held_at (λ (n : KeepingNode). v.0 ≤ n.core.node.turns.low.0) s past e q h.at lt (right q lt)
right_forgets s past e from to Go h sender right = tt
right_forgets s past e from to _ h sender right = tt

-- More may be given, where each node has heard of the epoch, and no letter of it is left.
pub record IsTelling (s : ScriptData) (past : List Entry) (e : Entry) : Type 0 where
  pub at : e.actor.0 ≡ s.nodes
  pub epoch : (restarting_in s (e ∷ past)).epoch ≡ (restarting_in s past).epoch
  pub heard : (q : ℕ) → q < s.nodes → (restarting_in s past).epoch ≤ epoch_in s past q
  pub knows : Knows (restarting_in s (e ∷ past)).phase

same_test : (a b : ℕ) → one_if (a == b) ≡ 0 → a ≡ b → ⊥
same_test a b none is = grind arith

rises : (a : What) (past : List Entry) (e : Entry) (v : ℕ) → v ≤ greatest_given (stage_of a) past → v ≤ greatest_given (stage_of a) (e ∷ past)
rises a past e v le = omega (arith, le, given_rises (stage_of a) e past)

pub right_told : (s : ScriptData) (past : List Entry) (e : Entry) (from to : ℕ) (body : Body) → IsTelling s past e
    → (IsOfNode s from body) → IsRight s past from to body × (token (restarting_in s past).epoch from to body ≡ 0)
    → IsRight s (e ∷ past) from to body
right_told s past e from to (Ask d) h sender right = let le : d ≤ (restarting_in s past).epoch = right.0 in omega (arith, h.epoch, le)
right_told s past e from to (Numbers d u r l) h sender right = record {
  epoch = omega (arith, h.epoch, right.0.epoch);
  told = told_after s past e from u r l h.at sender right.0.told;
  latest = λ is rec. absurd (h.knows rec);
}
right_told s past e from to (Order d what v) h sender right = record {
  epoch = omega (arith, h.epoch, right.0.epoch);
  current = λ is. absurd (same_test d (restarting_in s past).epoch right.1 (is ∙ h.epoch));
  given = rises what past e v.0 right.0.given;
  window = λ lt heeds.
      let old : epoch_in s past to ≤ d = subst (λ (n : KeepingNode). n.core.epoch ≤ d) (node_stays s past e to h.at lt) heeds in
      absurd (same_test d (restarting_in s past).epoch right.1 (omega (arith, old, h.heard to lt, right.0.epoch)));
}
right_told s past e from to (Obeyed d what v) h sender right = record {
  epoch = omega (arith, h.epoch, right.0.epoch);
  current = λ is. absurd (same_test d (restarting_in s past).epoch right.1 (is ∙ h.epoch));
}
right_told s past e from to (Wanted d k) h sender right = record {
  epoch = omega (arith, h.epoch, right.0.epoch);
  covers = λ is rec. absurd (h.knows rec);
}
right_told s past e from to (Advanced v) h sender right =
    λ q lt. held_at (λ (n : KeepingNode). v.0 ≤ n.core.node.turns.low.0) s past e q h.at lt (right.0 q lt)
right_told s past e from to Go h sender right = tt
right_told s past e from to _ h sender right = tt
