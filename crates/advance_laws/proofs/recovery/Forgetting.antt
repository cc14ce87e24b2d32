-- A coordinator that forgets: all is as it should be after each entry of its runs, and so the laws above hold of it.
use Rattle.std.proofs.Common.{◌≡◌, ◌≢◌, ◌⊎◌, inl, inr, ℕ, ◌<◌, ◌≤◌, true, List, [], ◌∷◌, refl, sym, ap, subst, ◌∙◌, arith, Some}
use Rattle.std.proofs.lemmas.Bool.{cases_eq}
use Rattle.tv_base.specs.declared.numbers.Version.{Version}
use Rattle.letter_types.specs.Kept.{brought}
use Rattle.letter_types.specs.declared.bodies.Body.{Body}
use Rattle.letter_types.specs.declared.bodies.Body.TheVariants.{Go, Order}
use Rattle.letter_types.specs.declared.bodies.What.{What}
use Rattle.letter_types.specs.declared.entries.Entry.{Entry}
use Rattle.letter_types.specs.declared.entries.Letter.{Letter}
use Rattle.letter_types.specs.declared.entries.Outgoing.{Outgoing}
use Rattle.tx_trees.specs.ScriptData.{ScriptData}
use Rattle.tx_trees.specs.Valid.{IsValid}
use Rattle.world_model.specs.AllApt.{AllApt}
use Rattle.world_model.specs.Counts.{Each}
use Rattle.world_model.specs.Epochs.{is_core_timely}
use Rattle.world_model.specs.Kept.{kept_in, outstanding}
use Rattle.script_parts.specs.Counts.{is_lossy}
use Rattle.world_model.specs.Named.{is_timely}
use Rattle.world_model.specs.Runs.{IsStepRun, in_flight, keeping_in, node_in}
use Rattle.world_model.proofs.Every.{each_both, each_map}
use Rattle.world_model.proofs.EachOutstanding.{each_first, each_waits}
use Rattle.world_model.proofs.Gone.{under_or}
use Rattle.world_model.specs.Meant.{IsLetterMeant, IsMeant}
use Rattle.world_model.proofs.Meant.{letters_are_meant}
use Rattle.advance_laws.specs.Balance.{HasLeft, IsBalanced, goes_between, out, version_is}
use Rattle.advance_laws.specs.Given.{IsGivenAnew, greatest_given}
use Rattle.advance_laws.specs.Quiet.{IsSilent}
use Rattle.advance_laws.specs.Phases.{Stage, TurnStage}
use Rattle.advance_laws.proofs.governed.Advancing.{IsAdvancing, IsAhead, IsOrderGiven, IsTurnedTo}
use Rattle.advance_laws.proofs.counting.Balance.{balanced_at}
use Rattle.advance_laws.proofs.governed.Brought.{BringsTo, IsAsking, brought_meant, brought_outstanding, brought_to, each_of_brought, sender_below}
use Rattle.advance_laws.proofs.phases.Closing.{IsNearAt, near_where_timely, timely_near, tree_version}
use Rattle.advance_laws.proofs.governed.Governed.{IsGoverned}
use Rattle.advance_laws.proofs.governed.Lawful.{IsTreeLawful}
use Rattle.advance_laws.proofs.phases.Levels.{IsOrder as IsOrderLetter}
use Rattle.advance_laws.proofs.phases.Progress.{course, itself, restarts, told_anew}
use Rattle.advance_laws.proofs.right.Sending.{Sending, sending}
use Rattle.advance_laws.proofs.counting.Silence.{goes_itself}
use Rattle.advance_laws.proofs.right.Away.{given_kept}
use Rattle.advance_laws.proofs.right.Good.{AllGood, IsGood, IsLetterRight, IsOrder, IsRight, took_right}
use Rattle.advance_laws.proofs.right.GoodCoordinator.{well_told}
use Rattle.advance_laws.proofs.right.GoodNodes.{good_elsewhere}
use Rattle.advance_laws.proofs.right.GoodTells.{IsWell}
use Rattle.advance_laws.proofs.counting.RestartCounts.{good_now}

-- 1. All is as it should be.
first_good : (s : ScriptData) → IsGood s []
first_good s = record {
  epochs = λ p lt. omega arith;
  within = λ p lt. omega arith;
  silent = λ v lt. absurd (omega (arith, lt));
  trees = each_first (λ (l : Letter). tree_version l.body ≤ greatest_given TurnStage []) s (omega arith, tt);
  letters = (tt, tt);
  phased = record { level = λ q lt. omega arith; tokens = tt; up_to = omega arith };
  asked = omega arith;
  heard = λ p lt. omega arith;
}

-- an entry of the coordinator
well_by : (s : ScriptData) (past : List Entry) (e : Entry) → IsTreeLawful s → is_lossy s ≡ true → IsStepRun s (e ∷ past) → AllApt s (e ∷ past)
    → AllGood s past → e.actor.0 ≡ s.nodes → IsWell s past e
well_by s past e laws loses run apt all at =
    well_told s past e laws loses run apt at all (told_anew s past e laws loses run at) (restarts s past e loses run.0 at)

-- and of any actor
good_next : (s : ScriptData) (past : List Entry) (e : Entry) → IsTreeLawful s → is_lossy s ≡ true → IsStepRun s (e ∷ past) → AllApt s (e ∷ past)
    → AllGood s past → (e.actor.0 ≡ s.nodes) ⊎ (e.actor.0 ≢ s.nodes) → IsGood s (e ∷ past)
good_next s past e laws loses run apt all (inl at) = (well_by s past e laws loses run apt all at).good
good_next s past e laws loses run apt all (inr away) =
    good_elsewhere s past e laws loses run apt away (course s past e laws apt run) (good_now s past all)

pub all_good : (s : ScriptData) (past : List Entry) → IsTreeLawful s → is_lossy s ≡ true → IsStepRun s past → AllApt s past → AllGood s past
all_good s [] laws loses run apt = first_good s
all_good s (e ∷ past) laws loses run apt =
    let all = all_good s past laws loses run.1 apt.1 in (good_next s past e laws loses run apt all (cases_eq e.actor.0 s.nodes), all)

pub good_run : (s : ScriptData) (past : List Entry) → IsTreeLawful s → is_lossy s ≡ true → IsStepRun s past → AllApt s past → IsGood s past
good_run s past laws loses run apt = good_now s past (all_good s past laws loses run apt)

-- 2. Requests are completions and what is outstanding, and below a low version nothing is.
left_silent : (s : ScriptData) (past : List Entry) (v p : ℕ) → IsGood s past → p < s.nodes → HasLeft s past v p → IsSilent s past v
left_silent s past v p good lt left = good.silent v (omega (arith, left, (good.within p lt).low_swept))

none_left : (s : ScriptData) (past : List Entry) (v p q : ℕ) → IsGood s past → p < s.nodes → q < s.nodes
    → HasLeft s past v p ⊎ HasLeft s past v q → out s past v p q ≡ 0
none_left s past v p q good lp lq (inl left) = left_silent s past v p good lp left p q lp lq
none_left s past v p q good lp lq (inr left) = left_silent s past v q good lq left p q lp lq

balanced : (s : ScriptData) (past : List Entry) → IsTreeLawful s → is_lossy s ≡ true → IsStepRun s past → AllApt s past → IsBalanced s past
balanced s past laws loses run apt = record {
  equal = λ v p q lp lq low_p low_q. balanced_at s past v p q laws run apt lp lq low_p low_q;
  none = λ v p q lp lq left. none_left s past v p q (good_run s past laws loses run apt) lp lq left;
}

-- 3. The next letter comes in time.
-- one of a tree is of a version in which its node counts
not_left : (s : ScriptData) (past : List Entry) (e : Entry) (p v : ℕ) (r : Letter) → IsGood s past → IsStepRun s (e ∷ past)
    → BringsTo s past e p r → r.from.0 < s.nodes → version_is v r.body ≡ true
    → ((node_in s past p).turns.low.0 ≤ v) ⊎ (v < (node_in s past p).turns.low.0) → (node_in s past p).turns.low.0 ≤ v
not_left s past e p v r good run b from is (inl le) = le
not_left s past e p v r good run b from is (inr left) =
    absurd (omega (
      arith,
      left_silent s past v p good b.below left r.from.0 p from b.below,
      goes_itself v r.from.0 p r is refl (brought_to s past e p r b run),
      brought_outstanding s past e p r b run.0 (goes_between v r.from.0 p),
    ))

near_at : (s : ScriptData) (past : List Entry) (e : Entry) (p : ℕ) (r : Letter) → IsValid s → IsGood s past → IsStepRun s (e ∷ past)
    → BringsTo s past e p r → IsNearAt s past p r
near_at s past e p r valid good run b v is ver =
    let m = greatest_given TurnStage past in
    let most = each_of_brought (λ (l : Letter). tree_version l.body ≤ m) s past e p r b run.0 good.trees in
    let from = sender_below s r.from.0 p v r.body valid (brought_meant s past e p r valid b run) is in (
      not_left s past e p v r good run b from is (under_or (node_in s past p).turns.low.0 v),
      omega (arith, most, ver, (good.within p b.below).turned_low),
    )

-- an order that its node will heed is in the window of the node's versions
order_timely : (s : ScriptData) (past : List Entry) (p e : ℕ) (what : What) (v : Version) → IsGood s past → p < s.nodes → IsOrder s past p e what v
    → is_core_timely s (keeping_in s past p).core (Order e what v) ≡ true
order_timely s past p e what v good lt right = grind arith

-- and orders of a coordinator that remembers never come
plain_in : (s : ScriptData) (past : List Entry) (from p : ℕ) (body : Body) → is_lossy s ≡ true → IsMeant s from p body → IsOrderLetter body
    → is_timely s (node_in s past p) body ≡ true
plain_in s past from p body loses meant order = grind arith

-- by the letter that is brought
core_timely : (s : ScriptData) (past : List Entry) (e : Entry) (p : ℕ) (r : Letter) (body : Body) → IsGood s past → IsStepRun s (e ∷ past)
    → BringsTo s past e p r → r.body ≡ body → is_timely s (node_in s past p) body ≡ true
    → is_core_timely s (keeping_in s past p).core body ≡ true
core_timely s past e p r (Order d what v) good run b bd timely =
    let same : r ≡ e.took = itself s past e p r b (λ asks. subst IsAsking bd asks) in
    let right : IsRight s past e.took.from.0 p (Order d what v) =
    subst (IsRight s past e.took.from.0 p) (sym (ap (λ (l : Letter). l.body) same) ∙ bd)
    (subst (λ (n : ℕ). IsRight s past e.took.from.0 n e.took.body) (run.0.addressee ∙ b.at)
    (took_right s past e e.took.body good run.0 refl)) in
    order_timely s past p d what v good b.below right
core_timely s past e p r Go good run b bd timely = timely
core_timely s past e p r _ good run b bd timely = timely

timely : (s : ScriptData) (past : List Entry) (e : Entry) (r : Letter) → IsTreeLawful s → is_lossy s ≡ true → IsStepRun s (e ∷ past)
    → AllApt s past → e.actor.0 < s.nodes → brought (kept_in s past e.actor.0) e.took e.took.body ≡ Some r
    → is_timely s (node_in s past e.actor.0) r.body ≡ true
timely s past e r laws loses run apt lt is =
    let p = e.actor.0 in
    let b : BringsTo s past e p r = record { at = refl; below = lt; brings = is } in
    timely_near s past p r r.body (near_at s past e p r laws.valid (good_run s past laws loses run.1 apt) run b) refl
    (λ order. plain_in s past r.from.0 p r.body loses (brought_meant s past e p r laws.valid b run) order)

-- 4. How far advancements are.
order_given : (s : ScriptData) (past : List Entry) (from to : ℕ) (body : Body) → is_lossy s ≡ true → IsMeant s from to body
    → IsRight s past from to body → IsOrderGiven past body
order_given s past from to body loses meant right = grind arith

turned_to : (s : ScriptData) (past : List Entry) (body : Body) → tree_version body ≤ greatest_given TurnStage past → IsTurnedTo s past body
turned_to s past body le = grind arith

is_ahead : (s : ScriptData) (past : List Entry) (from to p : ℕ) (body : Body) → is_lossy s ≡ true → IsMeant s from to body
    → IsAhead (node_in s past p).turns body
is_ahead s past from to p body loses meant = grind arith

advancing : (s : ScriptData) (past : List Entry) → IsTreeLawful s → is_lossy s ≡ true → IsStepRun s past → AllApt s past → IsAdvancing s past
advancing s past laws loses run apt =
    let good = good_run s past laws loses run apt in
    let meant = each_waits (IsLetterMeant s) s past (letters_are_meant s past laws.valid run) in
    record {
      within = good.within;
      asked = good.asked;
      heard = good.heard;
      orders = each_map (λ (l : Letter). IsLetterMeant s l × IsLetterRight s past l)
          (λ (l : Letter). IsOrderGiven past l.body) (in_flight s past)
          (λ l both. order_given s past l.from.0 l.to.0 l.body loses both.0 both.1)
          (each_both (IsLetterMeant s) (IsLetterRight s past) (in_flight s past) meant good.letters);
      trees = each_map (λ (l : Letter). tree_version l.body ≤ greatest_given TurnStage past) (λ (l : Letter). IsTurnedTo s past l.body)
          (outstanding s past) (λ l le. turned_to s past l.body le) good.trees;
      ahead = λ p lt. each_map (IsLetterMeant s) (λ (l : Letter). l.to.0 ≡ p → IsAhead (node_in s past p).turns l.body) (in_flight s past)
          (λ l one to. is_ahead s past l.from.0 l.to.0 p l.body loses one) meant;
    }

-- 5. What is told was told before, or is told in quiet; and an entry that tells something has no act.
away_anew : (s : ScriptData) (past : List Entry) (e : Entry) → e.actor.0 ≢ s.nodes → Sending s past e
    → Each (λ (o : Outgoing). IsGivenAnew s past o.body) e.sent
away_anew s past e away is = grind (arith, each_map)

anew : (s : ScriptData) (past : List Entry) (e : Entry) → IsTreeLawful s → is_lossy s ≡ true → IsStepRun s (e ∷ past) → AllApt s (e ∷ past)
    → (e.actor.0 ≡ s.nodes) ⊎ (e.actor.0 ≢ s.nodes) → Each (λ (o : Outgoing). IsGivenAnew s past o.body) e.sent
anew s past e laws loses run apt (inl at) = (well_by s past e laws loses run apt (all_good s past laws loses run.1 apt.1) at).anew
anew s past e laws loses run apt (inr away) = away_anew s past e away (sending s past e laws run apt)

acted : (g : Stage) (s : ScriptData) (past : List Entry) (e : Entry) → IsTreeLawful s → is_lossy s ≡ true → IsStepRun s (e ∷ past)
    → AllApt s (e ∷ past) → (e.acts ≡ [] → ⊥) → (e.actor.0 ≡ s.nodes) ⊎ (e.actor.0 ≢ s.nodes)
    → greatest_given g (e ∷ past) ≡ greatest_given g past
acted g s past e laws loses run apt acts (inl at) = absurd (acts (restarts s past e loses run.0 at).acts)
acted g s past e laws loses run apt acts (inr away) = given_kept g s past e laws run apt away

-- So the laws above hold of it.
pub forgetting : (s : ScriptData) → IsTreeLawful s → is_lossy s ≡ true → IsGoverned s
forgetting s laws loses = record {
  valid = laws.valid;
  timely = λ past e r run apt lt is.
      core_timely s past e e.actor.0 r r.body (good_run s past laws loses run.1 apt) run (record { at = refl; below = lt; brings = is }) refl
      (timely s past e r laws loses run apt lt is);
  near = λ past e r run apt lt is. near_where_timely s past e r laws run apt lt is (timely s past e r laws loses run apt lt is);
  balanced = λ past run apt. balanced s past laws loses run apt;
  advancing = λ past run apt. advancing s past laws loses run apt;
  anew = λ past e run apt. anew s past e laws loses run apt (cases_eq e.actor.0 s.nodes);
  acted = λ g past e run apt acts. acted g s past e laws loses run apt acts (cases_eq e.actor.0 s.nodes);
}
