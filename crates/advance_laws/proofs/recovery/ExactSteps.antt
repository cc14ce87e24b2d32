-- What each step of a coordinator that forgets makes of exact versions: it keeps what it was told just as it is, and goes on in
-- the phase in which nodes are.
use Rattle.std.proofs.Common.{◌≡◌, ◌≢◌, ℕ, zero, suc, ◌+◌, ◌<◌, ◌≤◌, ◌==◌, ◌||◌, Bool, true, false, [], ◌∷◌, length, refl, sym, subst, ◌∙◌, arith, Option, Some}
use Rattle.std.specs.Prelude.{max, not, slice_set}
use Rattle.std.specs.List.{list_any}
use Rattle.std.proofs.lemmas.List.{length-set}
use Rattle.std.proofs.lemmas.Bool.{eqb-false}
use Rattle.tv_base.specs.Outside.{one_more}
use Rattle.tv_base.specs.declared.numbers.Version.{Version}
use Rattle.letter_types.specs.declared.bodies.Body.{Body}
use Rattle.letter_types.specs.declared.bodies.Body.TheVariants.{Go, Numbers}
use Rattle.letter_types.specs.declared.bodies.What.{What}
use Rattle.letter_types.specs.declared.bodies.What.TheVariants.{Turn as ToTurn, Sweep as ToSweep}
use Rattle.letter_types.specs.Steps.{Out, still}
use Rattle.node_versions.specs.declared.turns.Turns.{Turns}
use Rattle.world_model.specs.Restarting.{AllTold, Restarting, after_doing, begin_counting, end_counting, enter, forget, in_restart_phase, least_low, low_differs, next_advance, phase_by, read_is, resume, with_wanted}
use Rattle.world_model.specs.declared.restarting.RestartPhase.{RestartPhase}
use Rattle.world_model.specs.declared.restarting.RestartPhase.TheVariants.{Idle, Recovering, Doing, Counting, Paused}
use Rattle.world_model.specs.declared.restarting.Told.{Told}
use Rattle.phase_out.specs.Counts.{nudged}
use Rattle.advance_laws.proofs.phases.Outcomes.{one_more_is}
use Rattle.advance_laws.proofs.counting.Waves.{set_get}
use Rattle.advance_laws.proofs.right.Good.{Knows}
use Rattle.advance_laws.proofs.recovery.RecoverSteps.{HasHeard, Misses, Recovery, by_knows, phase_each, recovery}
use Rattle.advance_laws.proofs.recovery.RestartSteps.{HearsMore, OfClient, OfNode, RestartStep, asked_kept, asks_with, done_kept}
use Rattle.advance_laws.proofs.recovery.RestartSteps.{Acks, Agrees, Ends, Flags, Forgets, Goes, KeepsAsked, KeepsDone, Pauses, Recounts, Recovers, Rests, Resumes, Wants}
use Rattle.advance_laws.proofs.recovery.ToldLists.{HasTold, all_told, none_told}

-- to where a node's versions are in each phase, where so many advancements have ended
abbrev pub most_low : RestartPhase → ℕ → ℕ
most_low (Doing ToSweep) f = f + 1
most_low Idle f = f
most_low _ f = f

abbrev pub most_read : RestartPhase → ℕ → ℕ
most_read Idle f = f
most_read (Doing ToTurn) f = f
most_read (Counting false) f = f
most_read (Paused false) f = f
most_read _ f = f + 1

pub record IsNoFurther (phase : RestartPhase) (f : ℕ) (turns : Turns) : Type 0 where
  pub low : turns.low.0 ≤ most_low phase f
  pub read : turns.read.0 ≤ most_read phase f

-- a node reads and keeps just what it has told
pub record IsStill (turns : Turns) (r l : Version) : Type 0 where
  pub read : turns.read.0 ≡ r.0
  pub low : turns.low.0 ≡ l.0

-- n nodes have these versions: where the coordinator knows how many advancements have ended they are no further than that, and
-- else just as they have told
abbrev AreNoFurther : ℕ → RestartPhase → ℕ → (ℕ → Turns) → Type 0
AreNoFurther n phase f at = (q : ℕ) → q < n → IsNoFurther phase f (at q)

abbrev AreStill : ℕ → AllTold → (ℕ → Turns) → Type 0
AreStill n ts at = (q : ℕ) (t : Told) → q < n → HasTold ts q t → IsStill (at q) t.read t.low

abbrev pub AreExact : ℕ → RestartPhase → ℕ → AllTold → (ℕ → Turns) → Type 0
AreExact n Recovering f ts at = AreStill n ts at
AreExact n Idle f ts at = AreNoFurther n Idle f at
AreExact n phase f ts at = AreNoFurther n phase f at

-- of this coordinator
abbrev pub IsExactFor : ℕ → Restarting → (ℕ → Turns) → Type 0
IsExactFor n c at = AreExact n c.phase c.ended c.told at

-- what was given bounds them already, in each phase
pub record AreNear (n f : ℕ) (at : ℕ → Turns) : Type 0 where
  pub small : f ≤ 100
  pub low : (q : ℕ) → q < n → (at q).low.0 ≤ f + 1
  pub read : (q : ℕ) → q < n → (at q).read.0 ≤ f + 1

abbrev pub IsNearIn : ℕ → Restarting → (ℕ → Turns) → Type 0
IsNearIn n c at = Knows c.phase → AreNear n c.ended at

-- Phases.
-- so in a phase that is known
in_phase : (n : ℕ) (c : Restarting) (at : ℕ → Turns) (phase : RestartPhase) → c.phase ≡ phase → IsExactFor n c at
    → AreExact n phase c.ended c.told at
in_phase n c at phase is was = subst (λ (p : RestartPhase). AreExact n p c.ended c.told at) is was

next_exact : (n f wanted : ℕ) (ts : AllTold) (at : ℕ → Turns)
    → ((q : ℕ) → q < n → ((at q).low.0 ≤ f) × ((at q).read.0 ≤ f)) → AreExact n (next_advance wanted f) f ts at
next_exact n f wanted ts at all = grind arith

counting_exact : (n f : ℕ) (reads : Bool) (at : ℕ → Turns) → AreNoFurther n (Paused reads) f at
    → AreNoFurther n (Counting reads) f at
counting_exact n f true at was = λ q lt. record { low = (was q lt).low; read = (was q lt).read }
counting_exact n f false at was = λ q lt. record { low = (was q lt).low; read = (was q lt).read }

pauses_exact : (n f : ℕ) (reads : Bool) (at : ℕ → Turns) → AreNoFurther n (Counting reads) f at
    → AreNoFurther n (Paused reads) f at
pauses_exact n f true at was = λ q lt. record { low = (was q lt).low; read = (was q lt).read }
pauses_exact n f false at was = λ q lt. record { low = (was q lt).low; read = (was q lt).read }

ends_exact : (n : ℕ) (reads : Bool) (c : Restarting) (at : ℕ → Turns) → AreNoFurther n (Counting reads) c.ended at
    → IsExactFor n (end_counting reads c).state at
ends_exact n true c at was = λ q lt. record { low = omega (arith, (was q lt).low); read = (was q lt).read }
ends_exact n false c at was = λ q lt. record { low = (was q lt).low; read = omega (arith, (was q lt).read) }

done_exact : (n : ℕ) (what : What) (c : Restarting) (at : ℕ → Turns) → AreNear n c.ended at
    → AreNoFurther n (Doing what) c.ended at
    → IsExactFor n (after_doing what c).state at
done_exact n what c at near was = grind arith

-- It resumes: by what all nodes have told.
-- where no node passes a test, each fails it
either_false : (a b : Bool) → (a || b) ≡ false → (a ≡ false) × (b ≡ false)
either_false false b none = (refl, none)
either_false true b none = absurd (cc none)

none_passes : (test : Option Told → Bool) (ts : AllTold) (q : ℕ) (t : Told) → list_any test ts ≡ false → HasTold ts q t
    → test (Some t) ≡ false
none_passes test [] q t none has = absurd (cc has)
none_passes test (o ∷ ts) zero t none has =
    let same : o ≡ Some t = cc has in
    subst (λ (x : Option Told). test x ≡ false) same (either_false (test o) (list_any test ts) none).0
none_passes test (o ∷ ts) (suc q) t none has = none_passes test ts q t (either_false (test o) (list_any test ts) none).1 has

not_other : (a f : ℕ) → not (a == f) ≡ false → a ≡ f
not_other a f is = grind arith

at_most : (a f v : ℕ) → a ≤ f + 1 → v ≡ f + 1 → a ≢ v → a ≤ f
at_most a f v le is ne = grind arith

-- a node's versions are those that it told
pub record HasToldAll (n : ℕ) (ts : AllTold) (at : ℕ → Turns) : Type 0 where
  pub all : (q : ℕ) → q < n → (t : Told) × HasTold ts q t
  pub are : AreStill n ts at

lows_are : (n : ℕ) (ts : AllTold) (at : ℕ → Turns) (f q : ℕ) → HasToldAll n ts at → list_any (low_differs f) ts ≡ false → q < n
    → (at q).low.0 ≡ f
lows_are n ts at f q told none lt =
    let (t, has) = told.all q lt in
    let low : t.low.0 ≡ f = not_other t.low.0 f (none_passes (low_differs f) ts q t none has) in
    (told.are q t lt has).low ∙ low

reads_are : (n : ℕ) (ts : AllTold) (at : ℕ → Turns) (f q : ℕ) → HasToldAll n ts at → AreNear n f at
    → list_any (read_is (one_more f)) ts ≡ false → q < n → (at q).read.0 ≤ f
reads_are n ts at f q told near none lt =
    let (t, has) = told.all q lt in
    let other : t.read.0 ≢ one_more f = eqb-false t.read.0 (one_more f) (none_passes (read_is (one_more f)) ts q t none has) in
    let is : (at q).read.0 ≡ t.read.0 = (told.are q t lt has).read in
    at_most (at q).read.0 f (one_more f) (near.read q lt) (one_more_is f (omega (arith, near.small)))
    (λ same. other (sym is ∙ same))

resumes_exact : (n : ℕ) (ts : AllTold) (at : ℕ → Turns) (f wanted : ℕ) → HasToldAll n ts at → AreNear n f at
    → AreExact n (phase_by ts wanted f) f ts at
resumes_exact n ts at f wanted told near =
    phase_each (λ (p : RestartPhase). AreExact n p f ts at) ts wanted f
    (λ a q lt. record { low = near.low q lt; read = near.read q lt })
    (λ a b q lt. record { low = omega (arith, lows_are n ts at f q told a lt); read = near.read q lt })
    (λ a b c q lt. record {
      low = omega (arith, lows_are n ts at f q told a lt);
      read = reads_are n ts at f q told near b lt;
    })
    (λ a b. next_exact n f wanted ts at
    (λ q lt. (omega (arith, lows_are n ts at f q told a lt), reads_are n ts at f q told near b lt)))

recovered_exact : (n : ℕ) (d : Restarting) (at : ℕ → Turns) (out : Out Restarting) → d.phase ≡ Recovering → length d.told ≡ n
    → AreStill n d.told at → IsNearIn n out.state at → Recovery d out → IsExactFor n out.state at
recovered_exact n d at out waits places still_told near (Misses misses is) =
    subst (λ (o : Out Restarting). IsExactFor n o.state at) (sym is)
    (subst (λ (p : RestartPhase). AreExact n p d.ended d.told at) (sym waits) still_told)
recovered_exact n d at out waits places still_told near (HasHeard k all heard is) =
    let x : Restarting = (resume k d).state in
    let near : AreNear n x.ended at =
    subst (λ (o : Out Restarting). IsNearIn n o.state at) is near (by_knows d.told (max d.wanted k) (least_low d.told)) in
    subst (λ (o : Out Restarting). IsExactFor n o.state at) (sym is)
    (resumes_exact n d.told at (least_low d.told) (max d.wanted k)
    (record { all = λ q lt. all_told d.told q all (omega (arith, lt, places)); are = still_told }) near)

-- What it hears is so.
abbrev pub IsStillTold : ℕ → (ℕ → Turns) → ℕ → Body → Type 0
IsStillTold epoch at from (Numbers e u r l) = e ≡ epoch → IsStill (at from) r l
IsStillTold epoch at from Go = Unit {0}
IsStillTold epoch at from _ = Unit {0}

record IsToldMore (n : ℕ) (d : Restarting) (at : ℕ → Turns) : Type 0 where
  waits : d.phase ≡ Recovering
  places : length d.told ≡ n
  are : AreStill n d.told at

put_still : (n : ℕ) (ts : AllTold) (at : ℕ → Turns) (from : ℕ) (t : Told) → AreStill n ts at → IsStill (at from) t.read t.low
    → AreStill n (slice_set ts from (Some t)) at
put_still n ts at from t was now = grind (arith, set_get)

hears_exact : (n : ℕ) (c d : Restarting) (at : ℕ → Turns) (from : ℕ) (body : Body) → length c.told ≡ n → c.phase ≡ Recovering
    → AreStill n c.told at → IsStillTold c.epoch at from body → HearsMore c from body d → IsToldMore n d at
hears_exact n c d at from body places waits was now (OfNode u r l bd lt is) =
    let t : Told = record { update = u; read = r; low = l } in
    let here : IsStill (at from) r l = subst (IsStillTold c.epoch at from) bd now refl in
    subst (λ (x : Restarting). IsToldMore n x at) (sym is) (record {
      waits = waits;
      places = length-set c.told from (Some t) ∙ places;
      are = put_still n c.told at from t was here;
    })
hears_exact n c d at from body places waits was now (OfClient k bd it is) =
    subst (λ (x : Restarting). IsToldMore n x at) (sym is) (record { waits = waits; places = places; are = was })

-- Each step.
-- what is known of the coordinator before it, and what was given after it
pub record IsTakenBy (n : ℕ) (c : Restarting) (at : ℕ → Turns) (from : ℕ) (body : Body) (out : Out Restarting) : Type 0 where
  pub places : c.phase ≡ Recovering → length c.told ≡ n
  pub letter : c.phase ≡ Recovering → IsStillTold c.epoch at from body
  pub before : IsNearIn n c at
  pub after : IsNearIn n out.state at

-- its next state is this one
goes_to : (n : ℕ) (at : ℕ → Turns) (out next : Out Restarting) → out ≡ next → IsExactFor n next.state at
    → IsExactFor n out.state at
goes_to n at out next is now = subst (λ (o : Out Restarting). IsExactFor n o.state at) (sym is) now

near_in : (n : ℕ) (c : Restarting) (at : ℕ → Turns) (phase : RestartPhase) → c.phase ≡ phase → Knows phase → IsNearIn n c at
    → AreNear n c.ended at
near_in n c at phase is knows near = near (λ waits. knows (sym is ∙ waits))

pub exact_out : (n : ℕ) (c : Restarting) (at : ℕ → Turns) (from : ℕ) (body : Body) (out : Out Restarting) → IsExactFor n c at
    → IsTakenBy n c at from body out → RestartStep c from body out → IsExactFor n out.state at
exact_out n c at from body out was t (Rests left is) = goes_to n at out (still c) is was
exact_out n c at from body out was t (Forgets bd is) =
    goes_to n at out (forget c) is (λ q told lt has. absurd (none_told c.nodes q told has))
exact_out n c at from body out was t (Wants i bd busy is) = goes_to n at out (still (with_wanted i c)) is was
exact_out n c at from body out was t (Goes i bd idle is) =
    let now : AreNoFurther n Idle c.ended at = in_phase n c at Idle idle was in
    goes_to n at out (enter (next_advance (max c.wanted i) c.ended) (with_wanted i c)) is
    (next_exact n c.ended (max c.wanted i) c.told at (λ q lt. ((now q lt).low, (now q lt).read)))
exact_out n c at from body out was t (Recovers d waits hears is) =
    let more =
    hears_exact n c d at from body (t.places waits) waits (in_phase n c at Recovering waits was) (t.letter waits) hears in
    recovered_exact n d at out more.waits more.places more.are t.after (recovery d out is)
exact_out n c at from body out was t (Acks what doing bd more is) =
    goes_to n at out (still (record c { acks = one_more c.acks })) is was
exact_out n c at from body out was t (Ends what doing bd last is) =
    goes_to n at out (after_doing what c) is
    (done_exact n what c at (near_in n c at (Doing what) doing (λ now. cc now) t.before)
    (in_phase n c at (Doing what) doing was))
exact_out n c at from body out was t (Flags reads counts bd is) =
    goes_to n at out (still (record c { count = nudged c.count })) is was
exact_out n c at from body out was t (Resumes reads pauses bd is) =
    goes_to n at out (begin_counting reads c) is (counting_exact n c.ended reads at (in_phase n c at (Paused reads) pauses was))
exact_out n c at from body out was t (KeepsDone reads v k row counts bd here is) =
    goes_to n at out (record { state = done_kept from row c; sent = asks_with from row c; acts = [] }) is was
exact_out n c at from body out was t (KeepsAsked reads v k row takes verdict is) =
    goes_to n at out (still (asked_kept from row c)) is was
exact_out n c at from body out was t (Agrees reads v k row takes verdict is) =
    goes_to n at out (end_counting reads (asked_kept from row c)) is
    (ends_exact n reads (asked_kept from row c) at (in_phase n c at (Counting reads) takes.phase was))
exact_out n c at from body out was t (Recounts reads v k row takes verdict flag is) =
    goes_to n at out (begin_counting reads (asked_kept from row c)) is (in_phase n c at (Counting reads) takes.phase was)
exact_out n c at from body out was t (Pauses reads v k row takes verdict flag is) =
    goes_to n at out (still (in_restart_phase (Paused reads) (asked_kept from row c))) is
    (pauses_exact n c.ended reads at (in_phase n c at (Counting reads) takes.phase was))
