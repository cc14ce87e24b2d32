-- Messages in flight after an entry of the client or of a node: those that were there stay right, and those that it
-- sends are right.
use Rattle.std.proofs.Common.{◌≡◌, ℕ, ◌<◌, ◌≤◌, List, ◌∷◌, sym, ap, subst, ◌∙◌, arith}
use Rattle.tv_base.specs.declared.numbers.Version.{Version}
use Rattle.letter_types.specs.declared.bodies.Body.{Body}
use Rattle.letter_types.specs.declared.bodies.Body.TheVariants.{Advanced, Wanted, Ask, Order, Numbers, Obeyed}
use Rattle.letter_types.specs.declared.bodies.What.{What}
use Rattle.letter_types.specs.declared.entries.Entry.{Entry}
use Rattle.letter_types.specs.declared.entries.LetterId.{LetterId}
use Rattle.letter_types.specs.declared.entries.Outgoing.{Outgoing}
use Rattle.tx_trees.specs.ScriptData.{ScriptData}
use Rattle.tx_trees.specs.Valid.{IsValid}
use Rattle.world_model.specs.Client.{advances_sent}
use Rattle.world_model.specs.Counts.{Each}
use Rattle.world_model.specs.Restarting.{Restarting}
use Rattle.world_model.specs.Runs.{IsStepRun, client_in, in_flight, keeping_in, restarting_in}
use Rattle.world_model.proofs.EachOutstanding.{each_waits}
use Rattle.world_model.proofs.Every.{each_both, each_map, each_step}
use Rattle.world_model.specs.Meant.{IsLetterMeant, IsMeant}
use Rattle.world_model.proofs.Meant.{letters_are_meant}
use Rattle.advance_laws.specs.Given.{greatest_given}
use Rattle.advance_laws.specs.Phases.{Stage, TurnStage, SweepStage, stage_of}
use Rattle.advance_laws.proofs.right.Aside.{Aside, IsSentBy, sends_aside}
use Rattle.advance_laws.proofs.right.Good.{AreNumbers, AreRight, AreWanted, IsAnswer, IsAsTold, IsCurrent, IsGood, IsLatest, IsLetterRight, IsOrder, IsRight, took_right, turns_in}
use Rattle.advance_laws.proofs.right.Rising.{Fares}

-- what such an entry leaves: the coordinator, what was given, and of each node what it has come to
pub record Remains (s : ScriptData) (past : List Entry) (e : Entry) : Type 0 where
  pub same : restarting_in s (e ∷ past) ≡ restarting_in s past
  pub given : (g : Stage) → greatest_given g (e ∷ past) ≡ greatest_given g past
  pub fares : (p : ℕ) → p < s.nodes → Fares s past (keeping_in s past p).core (keeping_in s (e ∷ past) p).core

pub same_epoch : (s : ScriptData) (past : List Entry) (e : Entry) → Remains s past e
    → (restarting_in s (e ∷ past)).epoch ≡ (restarting_in s past).epoch
same_epoch s past e left = ap (λ (c : Restarting). c.epoch) left.same

pub same_phase : (s : ScriptData) (past : List Entry) (e : Entry) → Remains s past e
    → (restarting_in s (e ∷ past)).phase ≡ (restarting_in s past).phase
same_phase s past e left = ap (λ (c : Restarting). c.phase) left.same

-- What was right stays so.
pub told_stays : (s : ScriptData) (past : List Entry) (e : Entry) (q : ℕ) (u r l : Version) → Remains s past e → q < s.nodes
    → IsAsTold (turns_in s past q) u r l → IsAsTold (turns_in s (e ∷ past) q) u r l
told_stays s past e q u r l left lt was = omega (arith, was, (left.fares q lt).rises)

pub latest_stays : (s : ScriptData) (past : List Entry) (e : Entry) (q l : ℕ) → Remains s past e → q < s.nodes
    → IsLatest s past q l
    → IsLatest s (e ∷ past) q l
latest_stays s past e q l left lt was = grind arith

current_stays : (s : ScriptData) (past : List Entry) (e : Entry) (n : ℕ) (what : What) (v : Version) → Remains s past e
    → (n ≡ (restarting_in s past).epoch → IsCurrent (restarting_in s past) what v)
    → n ≡ (restarting_in s (e ∷ past)).epoch → IsCurrent (restarting_in s (e ∷ past)) what v
current_stays s past e n what v left was is =
    subst (λ (c : Restarting). IsCurrent c what v) (sym left.same) (was (is ∙ same_epoch s past e left))

numbers_stay : (s : ScriptData) (past : List Entry) (e : Entry) (q n : ℕ) (u r l : Version) → Remains s past e → q < s.nodes
    → AreNumbers s past q n u r l → AreNumbers s (e ∷ past) q n u r l
numbers_stay s past e q n u r l left lt was = record {
  epoch = omega (arith, was.epoch, same_epoch s past e left);
  told = told_stays s past e q u r l left lt was.told;
  latest =
      λ is phase.
      latest_stays s past e q l.0 left lt
      (was.latest (is ∙ same_epoch s past e left) (sym (same_phase s past e left) ∙ phase));
}

order_stays : (s : ScriptData) (past : List Entry) (e : Entry) (q n : ℕ) (what : What) (v : Version) → Remains s past e
    → IsOrder s past q n what v → IsOrder s (e ∷ past) q n what v
order_stays s past e q n what v left was = record {
  epoch = omega (arith, was.epoch, same_epoch s past e left);
  current = current_stays s past e n what v left was.current;
  given = omega (arith, was.given, left.given (stage_of what));
  window =
      λ lt heeds.
      omega (
        arith,
        left.given SweepStage,
        was.window lt (omega (arith, heeds, (left.fares q lt).rises.epoch)),
      );
}

wanted_stay : (s : ScriptData) (past : List Entry) (e : Entry) (n k : ℕ) → Remains s past e → AreWanted s past n k
    → AreWanted s (e ∷ past) n k
wanted_stay s past e n k left was = record {
  epoch = omega (arith, was.epoch, same_epoch s past e left);
  covers =
      λ is phase.
      omega (
        arith,
        left.given TurnStage,
        was.covers (is ∙ same_epoch s past e left) (sym (same_phase s past e left) ∙ phase),
      );
}

right_stays : (s : ScriptData) (past : List Entry) (e : Entry) (from to : ℕ) (body : Body) → Remains s past e
    → IsMeant s from to body
    → IsRight s past from to body → IsRight s (e ∷ past) from to body
right_stays s past e from to (Ask n) left meant right = omega (arith, right, same_epoch s past e left)
right_stays s past e from to (Numbers n u r l) left meant right = numbers_stay s past e from n u r l left meant.0.0 right
right_stays s past e from to (Order n what v) left meant right = order_stays s past e to n what v left right
right_stays s past e from to (Obeyed n what v) left meant right = record {
  epoch = omega (arith, right.epoch, same_epoch s past e left);
  current = current_stays s past e n what v left right.current;
}
right_stays s past e from to (Wanted n k) left meant right = wanted_stay s past e n k left right
right_stays s past e from to (Advanced v) left meant right = λ q lt. omega (arith, right q lt, (left.fares q lt).rises.low)
right_stays s past e from to _ left meant right = tt

-- What is sent is right.
-- the client tells how many advancements it asked for, which is as many as nodes were told to turn, at least
wanted_right : (s : ScriptData) (past : List Entry) (e : Entry) (n : ℕ) → IsGood s past → Remains s past e
    → IsStepRun s (e ∷ past)
    → e.took.body ≡ Ask n → AreWanted s (e ∷ past) n (advances_sent s (client_in s past))
wanted_right s past e n good left run bd =
    let begun : n ≤ (restarting_in s past).epoch = took_right s past e (Ask n) good run.0 bd in
    record {
      epoch = omega (arith, begun, same_epoch s past e left);
      covers = λ is phase. omega (arith, good.asked, left.given TurnStage);
    }

-- an order was obeyed
answer_right : (s : ScriptData) (past : List Entry) (e : Entry) (n : ℕ) (what : What) (v : Version) → IsGood s past
    → Remains s past e
    → IsStepRun s (e ∷ past) → e.took.body ≡ Order n what v → IsAnswer s (e ∷ past) n what v
answer_right s past e n what v good left run bd =
    let right : IsOrder s past e.took.to.0 n what v = took_right s past e (Order n what v) good run.0 bd in
    record {
      epoch = omega (arith, right.epoch, same_epoch s past e left);
      current = current_stays s past e n what v left right.current;
    }

sent_right : (s : ScriptData) (past : List Entry) (e : Entry) (to : ℕ) (body : Body) → IsGood s past → Remains s past e
    → IsStepRun s (e ∷ past) → IsSentBy s past e body → IsRight s (e ∷ past) e.actor.0 to body
sent_right s past e to body good left run is =
    grind (arith, answer_right, wanted_right)

-- so all are
pub letters_right : (s : ScriptData) (past : List Entry) (e : Entry) → IsValid s → IsStepRun s (e ∷ past) → IsGood s past
    → Remains s past e → Aside s past e → AreRight s (e ∷ past)
letters_right s past e valid run good left aside =
    let meant : Each (IsLetterMeant s) (in_flight s past) = each_waits (IsLetterMeant s) s past (letters_are_meant s past valid run.1) in
    let R = IsLetterRight s (e ∷ past) in
    each_step R s past e
    (each_map _ R (in_flight s past) (λ l both. right_stays s past e l.from.0 l.to.0 l.body left both.0 both.1)
    (each_both (IsLetterMeant s) (IsLetterRight s past) (in_flight s past) meant good.letters))
    (each_map (λ (o : Outgoing). IsSentBy s past e o.body)
    (λ (o : Outgoing). (i : LetterId) → R (record { id = i; from = record { 0 = e.actor.0 }; to = o.to; body = o.body })) e.sent
    (λ o sent i. sent_right s past e o.to.0 o.body good left run sent) (sends_aside s past e aside))
