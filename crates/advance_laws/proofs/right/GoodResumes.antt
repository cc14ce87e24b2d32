-- The coordinator recovers: it hears more, and once it has heard all it goes on from what it was told.
use Rattle.std.proofs.Common.{◌≡◌, ◌≢◌, ℕ, ◌+◌, ◌<◌, ◌≤◌, Bool, true, false, List, [], ◌∷◌, length, refl, sym, ap, subst, ◌∙◌, arith, Option, Some, None}
use Rattle.std.specs.Prelude.{is_some, max, slice_set}
use Rattle.std.specs.List.{list_all, list_any}
use Rattle.std.proofs.Math.Nat.{le-max_right, max-le}
use Rattle.std.proofs.lemmas.List.{length-set}
use Rattle.std.proofs.lemmas.Option.{slice_get_within}
use Rattle.tv_base.specs.Outside.{one_more}
use Rattle.letter_types.specs.declared.bodies.Body.TheVariants.{Advanced, Numbers, Order, Wanted}
use Rattle.letter_types.specs.declared.bodies.What.{What}
use Rattle.letter_types.specs.declared.bodies.What.TheVariants.{Turn as ToTurn, Show as ToShow, Sweep as ToSweep}
use Rattle.letter_types.specs.declared.entries.Entry.{Entry}
use Rattle.tx_trees.specs.ScriptData.{ScriptData}
use Rattle.tx_trees.specs.Valid.{IsValid}
use Rattle.world_model.specs.Coordinator.{to_nodes, version}
use Rattle.world_model.specs.Restarting.{AllTold, Restarting, in_restart_phase, least_low, low_differs, next_advance, orders, phase_by, read_is, recover, resume_if, target, to_client, update_is, with_advances}
use Rattle.world_model.specs.Runs.{MayFollow, restarting_in}
use Rattle.world_model.specs.declared.restarting.RestartPhase.{RestartPhase}
use Rattle.world_model.specs.declared.restarting.RestartPhase.TheVariants.{Idle, Recovering, Doing}
use Rattle.world_model.specs.declared.restarting.Told.{Told}
use Rattle.world_model.proofs.Restarts.{restarting_nodes}
use Rattle.advance_laws.specs.Advances.{asked_for}
use Rattle.advance_laws.specs.Given.{IsGivenAnew, greatest_given}
use Rattle.advance_laws.specs.Phases.{TurnStage, ShowStage, SweepStage}
use Rattle.advance_laws.proofs.counting.Waves.{going, set_get}
use Rattle.advance_laws.proofs.right.AfterCoordinator.{given_still}
use Rattle.advance_laws.proofs.recovery.Few.{IsFew, took_asked}
use Rattle.advance_laws.proofs.right.Good.{AreNumbers, AreWanted, IsGood, IsHeardOf, IsInPhase, IsUpTo, LevelOf, epoch_in, in_phase, low_few, order_to, took_right, turns_in}
use Rattle.advance_laws.proofs.right.GoodOutcomes.{took_none}
use Rattle.advance_laws.proofs.right.GoodSteps.{AllAsk, IsMove, asks_nothing, good_stays, heard_at, steady_at, up_still}
use Rattle.advance_laws.proofs.right.GoodTells.{AllEnd, IsWell, MayBeTold, ends_nothing, ends_right, good_calm, good_tells, well_by}
use Rattle.advance_laws.proofs.recovery.RecoverSteps.{next_each, phase_each}
use Rattle.advance_laws.proofs.recovery.RestartSteps.{HearsMore, OfClient, OfNode}
use Rattle.advance_laws.proofs.recovery.ToldLists.{AreSmall, HasTold, SomeTold, all_told, least_most, least_told, some_low, some_read, some_update}

-- What it has heard with this letter, by d.
pub record HasHeard (s : ScriptData) (past : List Entry) (d : Restarting) : Type 0 where
  pub epoch : d.epoch ≡ (restarting_in s past).epoch
  pub phase : d.phase ≡ Recovering
  pub nodes_are : d.nodes ≡ s.nodes
  pub wanted : d.wanted ≤ asked_for s past
  pub places : length d.told ≡ s.nodes
  pub nodes : (q : ℕ) (t : Told) → q < s.nodes → HasTold d.told q t → IsHeardOf s past q t
  pub client : (k : ℕ) → d.heard ≡ Some k → (greatest_given TurnStage past ≤ k + 1) × (k ≤ asked_for s past)

more_told : (s : ScriptData) (past : List Entry) (ts : AllTold) (from : ℕ) (new : Told) → IsHeardOf s past from new
    → ((q : ℕ) (t : Told) → q < s.nodes → HasTold ts q t → IsHeardOf s past q t)
    → (q : ℕ) (t : Told) → q < s.nodes → HasTold (slice_set ts from (Some new)) q t → IsHeardOf s past q t
more_told s past ts from new here old q t lt has = grind (arith, set_get)

pub heard_more : (s : ScriptData) (past : List Entry) (e : Entry) (d : Restarting) → IsGood s past → IsFew s past
    → MayFollow s past e → (restarting_in s past).phase ≡ Recovering
    → HearsMore (restarting_in s past) e.took.from.0 e.took.body d → HasHeard s past d
heard_more s past e d good few m at (OfNode u r l bd lt is) =
    let c = restarting_in s past in
    let from = e.took.from.0 in
    let t : Told = record { update = u; read = r; low = l } in
    let was = in_phase s past Recovering good at in
    let now : AreNumbers s past from c.epoch u r l = took_right s past e (Numbers c.epoch u r l) good m bd in
    subst (HasHeard s past) (sym is) (record {
      epoch = refl;
      phase = at;
      nodes_are = restarting_nodes s past;
      wanted = few.wanted;
      places = length-set c.told from (Some t) ∙ was.places;
      nodes = more_told s past c.told from t (record { told = now.told; latest = now.latest refl at }) was.nodes;
      client = λ k has. (was.client k has, few.heard k has);
    })
heard_more s past e d good few m at (OfClient k bd who is) =
    let c = restarting_in s past in
    let was = in_phase s past Recovering good at in
    let now : AreWanted s past c.epoch k = took_right s past e (Wanted c.epoch k) good m bd in
    let asked : k ≤ asked_for s past = took_asked s past e (Wanted c.epoch k) few m bd in
    subst (HasHeard s past) (sym is) (record {
      epoch = refl;
      phase = at;
      nodes_are = restarting_nodes s past;
      wanted = few.wanted;
      places = was.places;
      nodes = was.nodes;
      client = λ j has.
          let same : k ≡ j = cc has in
          (omega (arith, same, now.covers refl at), omega (arith, same, asked));
    })

-- 1. It hasn't heard all.
still_recovers : (s : ScriptData) (past : List Entry) (e : Entry) (d : Restarting) → IsMove s past e d → HasHeard s past d
    → (restarting_in s past).phase ≡ Recovering → e.sent ≡ [] → IsWell s past e
still_recovers s past e d m heard at none =
    let asks : AllAsk e.sent = subst AllAsk (sym none) tt in
    let nothing = asks_nothing e.sent asks in
    well_by s past e nothing
    (good_stays s past e d m heard.epoch asks (λ what v is. absurd (cc (sym at ∙ is.phase))) (λ is. at)
    (subst (λ (phase : RestartPhase). IsInPhase s (e ∷ past) phase) (sym heard.phase)
    (heard_at s past e d m (given_still past e nothing) heard.epoch heard.places heard.nodes (λ k has. (heard.client k has).0))))

-- 2. It has: how far nodes are, where f is the least low version that was told.
pub record IsFound (s : ScriptData) (past : List Entry) (d : Restarting) (f w : ℕ) : Type 0 where
  pub few : f ≤ 100
  pub epoch : (q : ℕ) → q < s.nodes → (restarting_in s past).epoch ≤ epoch_in s past q
  pub low : (q : ℕ) → q < s.nodes → f ≤ (turns_in s past q).low.0
  pub up_to : IsUpTo past f w
  pub wanted : w ≤ asked_for s past

found : (s : ScriptData) (past : List Entry) (d : Restarting) (k : ℕ) → IsValid s → IsGood s past → HasHeard s past d
    → list_all is_some d.told ≡ true → d.heard ≡ Some k → IsFound s past d (least_low d.told) (max d.wanted k)
found s past d k valid good heard all has =
    let small : AreSmall d.told = λ q t told.
    let lt : q < s.nodes = omega (arith, slice_get_within d.told q (Some t) told, heard.places) in
    omega (arith, (heard.nodes q t lt told).told.low, low_few s past q valid good lt) in
    let least = least_told d.told all (omega (arith, valid.some_nodes, heard.places)) small in
    let there : least.node < s.nodes = omega (arith, least.below, heard.places) in
    let latest = (heard.nodes least.node least.told there least.has).latest in
    let client = heard.client k has in
    let at = λ (q : ℕ) (lt : q < s.nodes). all_told d.told q all (omega (arith, lt, heard.places)) in
    record {
      few = omega (arith, least.fits, small least.node least.told least.has);
      epoch = λ q lt. let (t, told) = at q lt in (heard.nodes q t lt told).latest.epoch;
      low = λ q lt. let (t, told) = at q lt in omega (arith, least_most d.told q t told, (heard.nodes q t lt told).told.low);
      up_to = omega (arith, latest, least.fits, client.0, le-max_right d.wanted k);
      wanted = max-le heard.wanted client.1;
    }

-- with the order that comes next
record IsNext (s : ScriptData) (past : List Entry) (what : What) (f w : ℕ) : Type 0 where
  turn : what ≡ ToTurn → f + 1 ≤ w
  show : what ≡ ToShow → f + 1 ≤ greatest_given ShowStage past
  sweep : what ≡ ToSweep → f + 1 ≤ greatest_given SweepStage past

next_level : (s : ScriptData) (past : List Entry) (what : What) (f w q k : ℕ) → IsGood s past → IsNext s past what f w → q < s.nodes → 1 ≤ k
    → (restarting_in s past).epoch ≤ epoch_in s past q → f ≤ (turns_in s past q).low.0
    → LevelOf (Doing what) f (restarting_in s past).epoch (epoch_in s past q) (turns_in s past q) k
next_level s past what f w q k good next lq some since low = grind arith

next_may : (s : ScriptData) (past : List Entry) (what : What) (f w q : ℕ) → IsGood s past → IsNext s past what f w → q < s.nodes
    → f ≤ (turns_in s past q).low.0 → MayBeTold what f (turns_in s past q)
next_may s past what f w q good next lq low = grind arith

next_anew : (s : ScriptData) (past : List Entry) (what : What) (d f w : ℕ) → f ≤ 100 → IsNext s past what f w
    → IsGivenAnew s past (Order d what (target what f))
next_anew s past what d f w few next = grind arith

resumes_by : (s : ScriptData) (past : List Entry) (e : Entry) (d : Restarting) (what : What) (f w : ℕ)
    → IsMove s past e (in_restart_phase (Doing what) (with_advances w f d)) → HasHeard s past d → IsFound s past d f w
    → (restarting_in s past).phase ≡ Recovering → IsNext s past what f w
    → e.sent ≡ to_client (Advanced (version f)) d ∷ orders (Doing what) (with_advances w f d) → IsWell s past e
resumes_by s past e d what f w m heard found at next is =
    let c = restarting_in s past in
    let x = in_restart_phase (Doing what) (with_advances w f d) in
    good_tells s past e x what f w m (took_none s past e x m (λ a v now. cc (sym at ∙ now.phase)))
    (record { phase = refl; epoch = heard.epoch; ended = refl; wanted = refl; acks = refl }) (record {
      before = to_client (Advanced (version f)) d ∷ [];
      sent = is
          ∙ ap (λ (n : ℕ). to_client (Advanced (version f)) d ∷ to_nodes n (Order d.epoch what (target what f))) heard.nodes_are
          ∙ ap (λ (n : ℕ). to_client (Advanced (version f)) d ∷ to_nodes s.nodes (Order n what (target what f))) heard.epoch;
      ends = (refl, tt);
      few = omega (arith, found.few);
      level = λ q k lq some. next_level s past what f w q k m.good next lq some (found.epoch q lq) (found.low q lq);
      up_to = found.up_to;
      may = λ q lq. next_may s past what f w q m.good next lq (found.low q lq);
      wanted = next.turn;
      asked = found.wanted;
      from = λ same.
          let some = m.laws.valid.some_nodes in omega (arith, found.low 0 some, (m.good.within 0 some).low_swept);
      silent = λ same new. absurd (omega (arith, new, next.sweep same));
      anew = next_anew s past what c.epoch f w found.few next;
    })

idle_found : (s : ScriptData) (past : List Entry) (f q k : ℕ) → IsGood s past → q < s.nodes
    → (restarting_in s past).epoch ≤ epoch_in s past q → f ≤ (turns_in s past q).low.0
    → LevelOf Idle f (restarting_in s past).epoch (epoch_in s past q) (turns_in s past q) k
idle_found s past f q k good lq since low = let was = good.within q lq in omega (arith, was, since, low)

-- or none comes
rests_by : (s : ScriptData) (past : List Entry) (e : Entry) (d : Restarting) (f w : ℕ)
    → IsMove s past e (in_restart_phase Idle (with_advances w f d)) → HasHeard s past d → IsFound s past d f w
    → (restarting_in s past).phase ≡ Recovering → e.sent ≡ to_client (Advanced (version f)) d ∷ [] → IsWell s past e
rests_by s past e d f w m heard found at is =
    let c = restarting_in s past in
    let x = in_restart_phase Idle (with_advances w f d) in
    let ends : AllEnd f e.sent = subst (AllEnd f) (sym is) (refl, tt) in
    let nothing = ends_nothing f e.sent ends in
    let still = given_still past e nothing in
    well_by s past e nothing
    (good_calm s past e x m (record {
      epoch = heard.epoch;
      heard = found.epoch;
      knows = λ same. cc same;
      last = took_none s past e x m (λ a v now. cc (sym at ∙ now.phase));
    }) nothing (ends_right s past e x f e.sent m found.low ends)
    (steady_at s past e x Idle m
    (λ q lq.
    subst (λ (n : ℕ). LevelOf Idle f n (epoch_in s past q) (turns_in s past q) (going (order_to n q) s (e ∷ past))) (sym heard.epoch)
    (idle_found s past f q (going (order_to c.epoch q) s (e ∷ past)) m.good lq (found.epoch q lq) (found.low q lq)))
    tt (up_still past e f w w still (omega arith) found.up_to)))

-- it goes on in this phase, whichever comes
abbrev GoesOnIn : ScriptData → List Entry → Entry → Restarting → ℕ → ℕ → RestartPhase → Type 0
GoesOnIn s past e d f w phase = IsMove s past e (in_restart_phase phase (with_advances w f d))
    → e.sent ≡ to_client (Advanced (version f)) d ∷ orders phase (with_advances w f d) → IsWell s past e

goes_on : (s : ScriptData) (past : List Entry) (e : Entry) (d : Restarting) (f w : ℕ) → HasHeard s past d
    → IsFound s past d f w → (restarting_in s past).phase ≡ Recovering → GoesOnIn s past e d f w (next_advance w f)
goes_on s past e d f w heard found at =
    next_each (GoesOnIn s past e d f w) w f
    (λ lt m is.
    resumes_by s past e d ToTurn f w m heard found at
    (record { turn = λ same. omega (arith, lt); show = λ same. absurd (cc same); sweep = λ same. absurd (cc same) }) is)
    (λ le m is. rests_by s past e d f w m heard found at is)

above_by : (a f : ℕ) → f ≤ a → a ≢ f → f + 1 ≤ a
above_by a f le ne = grind arith

below_told : (s : ScriptData) (past : List Entry) (d : Restarting) (P : Told → Type 0) (some : SomeTold d.told P) → HasHeard s past d
    → some.node < s.nodes
below_told s past d P some heard = omega (arith, some.below, heard.places)

-- some node has swept, or shown, or turned
swept_next : (s : ScriptData) (past : List Entry) (d : Restarting) (f w : ℕ) → f ≡ least_low d.told → IsGood s past
    → HasHeard s past d → list_any (low_differs f) d.told ≡ true → IsNext s past ToSweep f w
swept_next s past d f w least good heard any =
    let some = some_low d.told f any in
    let lt = below_told s past d (λ (t : Told). t.low.0 ≢ f) some heard in
    let told = (heard.nodes some.node some.told lt some.has).told in
    let from : f ≤ some.told.low.0 = omega (arith, least, least_most d.told some.node some.told some.has) in
    let top = above_by some.told.low.0 f from some.fits in
    record {
      turn = λ same. absurd (cc same);
      show = λ same. absurd (cc same);
      sweep = λ same. omega (arith, top, told.low, (good.within some.node lt).low_swept);
    }

shown_next : (s : ScriptData) (past : List Entry) (d : Restarting) (f w : ℕ) → f ≤ 100 → IsGood s past → HasHeard s past d
    → list_any (read_is (one_more f)) d.told ≡ true → IsNext s past ToShow f w
shown_next s past d f w few good heard any =
    let some = some_read d.told (one_more f) any in
    let lt = below_told s past d (λ (t : Told). t.read.0 ≡ one_more f) some heard in
    let told = (heard.nodes some.node some.told lt some.has).told in
    record {
      turn = λ same. absurd (cc same);
      show = λ same. omega (arith, few, some.fits, told.read, (good.within some.node lt).read_showed);
      sweep = λ same. absurd (cc same);
    }

turned_next : (s : ScriptData) (past : List Entry) (d : Restarting) (f w : ℕ) → f ≤ 100 → IsGood s past → HasHeard s past d → IsUpTo past f w
    → list_any (update_is (one_more (one_more f))) d.told ≡ true → IsNext s past ToTurn f w
turned_next s past d f w few good heard up any =
    let some = some_update d.told (one_more (one_more f)) any in
    let lt = below_told s past d (λ (t : Told). t.update.0 ≡ one_more (one_more f)) some heard in
    let told = (heard.nodes some.node some.told lt some.has).told in
    record {
      turn = λ same. omega (arith, few, some.fits, told.update, (good.within some.node lt).update_turned, up.asked);
      show = λ same. absurd (cc same);
      sweep = λ same. absurd (cc same);
    }

resumes : (s : ScriptData) (past : List Entry) (e : Entry) (d : Restarting) (f w : ℕ) → f ≡ least_low d.told
    → HasHeard s past d → IsFound s past d f w → (restarting_in s past).phase ≡ Recovering
    → GoesOnIn s past e d f w (phase_by d.told w f)
resumes s past e d f w least heard found at =
    phase_each (GoesOnIn s past e d f w) d.told w f
    (λ a m is. resumes_by s past e d ToSweep f w m heard found at (swept_next s past d f w least m.good heard a) is)
    (λ a b m is.
    resumes_by s past e d ToShow f w m heard found at (shown_next s past d f w found.few m.good heard b) is)
    (λ a b c m is.
    resumes_by s past e d ToTurn f w m heard found at (turned_next s past d f w found.few m.good heard found.up_to c) is)
    (λ a b. goes_on s past e d f w heard found at)

-- So the coordinator recovers.
well_recovers_by : (s : ScriptData) (past : List Entry) (e : Entry) (d : Restarting) (all : Bool) (k : Option ℕ) → list_all is_some d.told ≡ all
    → d.heard ≡ k → IsMove s past e (resume_if all k d).state → HasHeard s past d → IsFew s past → (restarting_in s past).phase ≡ Recovering
    → e.sent ≡ (resume_if all k d).sent → IsWell s past e
well_recovers_by s past e d true (Some k) all has m heard few at is =
    resumes s past e d (least_low d.told) (max d.wanted k) refl heard
    (found s past d k m.laws.valid m.good heard all has) at m is
well_recovers_by s past e d true None all has m heard few at is = still_recovers s past e d m heard at is
well_recovers_by s past e d false k all has m heard few at is = still_recovers s past e d m heard at is

pub well_recovers : (s : ScriptData) (past : List Entry) (e : Entry) (d : Restarting) → IsMove s past e (recover d).state → HasHeard s past d
    → IsFew s past → (restarting_in s past).phase ≡ Recovering → e.sent ≡ (recover d).sent → IsWell s past e
well_recovers s past e d m heard few at is = well_recovers_by s past e d (list_all is_some d.told) d.heard refl refl m heard few at is
