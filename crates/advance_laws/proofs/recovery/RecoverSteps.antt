-- A coordinator that recovers: it goes on once it has heard all that it asked for; and a step after which it still waits for
-- some.
use Rattle.std.proofs.Common.{◌≡◌, ℕ, ◌<◌, ◌≤◌, ◌&&◌, Bool, true, false, refl, sym, ap, subst, ◌∙◌, Option, Some, None, arith}
use Rattle.std.specs.Prelude.{if◌then◌else◌, is_some, max, nat_lt}
use Rattle.std.specs.List.{list_all, list_any}
use Rattle.std.proofs.lemmas.Bool.Decides.{nat_tests}
use Rattle.tv_base.specs.Outside.{one_more}
use Rattle.letter_types.specs.declared.bodies.Body.{Body}
use Rattle.letter_types.specs.declared.bodies.Body.TheVariants.{AdvanceNo}
use Rattle.letter_types.specs.declared.bodies.What.{What}
use Rattle.letter_types.specs.declared.bodies.What.TheVariants.{Turn as ToTurn, Show as ToShow, Sweep as ToSweep}
use Rattle.letter_types.specs.Steps.{Out, still}
use Rattle.world_model.specs.Restarting.{AllTold, Restarting, after_doing, begin_counting, end_counting, forget, in_restart_phase, low_differs, next_advance, phase_by, read_is, recover, resume, resume_if, update_is, with_wanted}
use Rattle.world_model.specs.declared.restarting.RestartPhase.{RestartPhase}
use Rattle.world_model.specs.declared.restarting.RestartPhase.TheVariants.{Idle, Recovering, Doing, Counting, Paused}
use Rattle.advance_laws.proofs.right.Good.{Knows}
use Rattle.advance_laws.proofs.recovery.RestartSteps.{HearsMore, IsLeft, RestartStep, asked_kept}
use Rattle.advance_laws.proofs.recovery.RestartSteps.{Acks, Agrees, Ends, Flags, Forgets, Goes, KeepsAsked, KeepsDone, Pauses, Recounts, Recovers, Rests, Resumes, Wants}

-- it has heard from each node and from the client
abbrev pub has_all : Restarting → Bool
has_all d = list_all is_some d.told && is_some d.heard

-- it waits on, or goes on by what it was told
pub data Recovery (d : Restarting) (out : Out Restarting) : Type 0 where
  Misses : has_all d ≡ false → out ≡ still d → Recovery d out
  HasHeard : (k : ℕ) → list_all is_some d.told ≡ true → d.heard ≡ Some k → out ≡ resume k d → Recovery d out

recovery_by : (d : Restarting) (all : Bool) (heard : Option ℕ) → list_all is_some d.told ≡ all → d.heard ≡ heard
    → Recovery d (resume_if all heard d)
recovery_by d true (Some k) told at = HasHeard k told at refl
recovery_by d true None told at = Misses (rw (told, at) refl) refl
recovery_by d false heard told at = Misses (rw told refl) refl

pub recovery : (d : Restarting) (out : Out Restarting) → out ≡ recover d → Recovery d out
recovery d out is = subst (Recovery d) (sym is) (recovery_by d (list_all is_some d.told) d.heard refl refl)

-- The phases in which it goes on. What holds of each that it may come to, by these tests, holds of the one that it
-- comes to.
pub next_each : (P : RestartPhase → Type 0) (wanted f : ℕ) → (f < wanted → P (Doing ToTurn)) → (wanted ≤ f → P Idle)
    → P (next_advance wanted f)
next_each P wanted f turns rests = by (nat_lt f wanted) refl where
  by : (goes : Bool) → nat_lt f wanted ≡ goes → P (if goes then Doing ToTurn else Idle)
  by true is = turns (grind (arith, nat_tests))
  by false is = rests (grind (arith, nat_tests))

pub phase_each : (P : RestartPhase → Type 0) (ts : AllTold) (wanted f : ℕ)
    → (list_any (low_differs f) ts ≡ true → P (Doing ToSweep))
    → (list_any (low_differs f) ts ≡ false → list_any (read_is (one_more f)) ts ≡ true → P (Doing ToShow))
    → (list_any (low_differs f) ts ≡ false → list_any (read_is (one_more f)) ts ≡ false
    → list_any (update_is (one_more (one_more f))) ts ≡ true → P (Doing ToTurn))
    → (list_any (low_differs f) ts ≡ false → list_any (read_is (one_more f)) ts ≡ false → P (next_advance wanted f))
    → P (phase_by ts wanted f)
phase_each P ts wanted f sweeps shows turns goes = by _ _ _ refl refl refl where
  by : (low read update : Bool) → list_any (low_differs f) ts ≡ low → list_any (read_is (one_more f)) ts ≡ read
      → list_any (update_is (one_more (one_more f))) ts ≡ update
      → P (if low then Doing ToSweep else if read then Doing ToShow else if update then Doing ToTurn
      else next_advance wanted f)
  by true read update a b c = sweeps a
  by false true update a b c = shows a b
  by false false true a b c = turns a b c
  by false false false a b c = goes a b

-- it doesn't wait in them
next_knows : (wanted f : ℕ) → Knows (next_advance wanted f)
next_knows wanted f = next_each Knows wanted f (λ lt is. cc is) (λ le is. cc is)

pub by_knows : (ts : AllTold) (wanted f : ℕ) → Knows (phase_by ts wanted f)
by_knows ts wanted f =
    phase_each Knows ts wanted f (λ a is. cc is) (λ a b is. cc is) (λ a b c is. cc is) (λ a b. next_knows wanted f)

done_knows : (what : What) (c : Restarting) → Knows (after_doing what c).state.phase
done_knows what c = grind arith

ends_know : (reads : Bool) (c : Restarting) → Knows (end_counting reads c).state.phase
ends_know true c = λ is. cc is
ends_know false c = λ is. cc is

-- After the step it waits: it has just forgotten, or waited before, and the letter changes nothing, or tells of more
-- advancements that are wanted, or some of what it asked for.
pub data Waiting (c : Restarting) (from : ℕ) (body : Body) (out : Out Restarting) : Type 0 where
  Forgot : out ≡ forget c → Waiting c from body out
  Stays : c.phase ≡ Recovering → IsLeft body Recovering from c → out ≡ still c → Waiting c from body out
  IsWanted : (i : ℕ) → c.phase ≡ Recovering → body ≡ AdvanceNo i → out ≡ still (with_wanted i c) → Waiting c from body out
  HasMore : (d : Restarting) → c.phase ≡ Recovering → HearsMore c from body d → has_all d ≡ false → out ≡ still d
      → Waiting c from body out

-- it doesn't where its next phase is another
elsewhere : (c : Restarting) (from : ℕ) (body : Body) (out next : Out Restarting) → out ≡ next → Knows next.state.phase
    → out.state.phase ≡ Recovering → Waiting c from body out
elsewhere c from body out next is knows at = absurd (knows (sym (ap (λ (o : Out Restarting). o.state.phase) is) ∙ at))

pub knows_by : (a b : RestartPhase) → a ≡ b → Knows b → Knows a
knows_by a b is knows = λ at. knows (sym is ∙ at)

heard_more : (c d : Restarting) (from : ℕ) (body : Body) (out : Out Restarting) → c.phase ≡ Recovering → HearsMore c from body d
    → Recovery d out → out.state.phase ≡ Recovering → Waiting c from body out
heard_more c d from body out at hears (Misses misses is) now = HasMore d at hears misses is
heard_more c d from body out at hears (HasHeard k told heard is) now =
    elsewhere c from body out (resume k d) is (by_knows d.told (max d.wanted k) _) now

pub waiting : (c : Restarting) (from : ℕ) (body : Body) (out : Out Restarting) → RestartStep c from body out
    → out.state.phase ≡ Recovering → Waiting c from body out
waiting c from body out (Rests left is) at =
    let before : c.phase ≡ Recovering = sym (ap (λ (o : Out Restarting). o.state.phase) is) ∙ at in
    Stays before (subst (λ (phase : RestartPhase). IsLeft body phase from c) before left) is
waiting c from body out (Forgets bd is) at = Forgot is
waiting c from body out (Wants i bd busy is) at = IsWanted i (sym (ap (λ (o : Out Restarting). o.state.phase) is) ∙ at) bd is
waiting c from body out (Goes i bd before is) at = elsewhere c from body out _ is (next_knows (max c.wanted i) c.ended) at
waiting c from body out (Recovers d before hears is) at = heard_more c d from body out before hears (recovery d out is) at
waiting c from body out (Acks what before bd more is) at =
    elsewhere c from body out _ is (knows_by c.phase (Doing what) before (λ now. cc now)) at
waiting c from body out (Ends what before bd last is) at = elsewhere c from body out _ is (done_knows what c) at
waiting c from body out (Flags reads before bd is) at =
    elsewhere c from body out _ is (knows_by c.phase (Counting reads) before (λ now. cc now)) at
waiting c from body out (Resumes reads before bd is) at =
    elsewhere c from body out (begin_counting reads c) is (λ now. cc now) at
waiting c from body out (KeepsDone reads v k row before bd here is) at =
    elsewhere c from body out _ is (knows_by c.phase (Counting reads) before (λ now. cc now)) at
waiting c from body out (KeepsAsked reads v k row takes verdict is) at =
    elsewhere c from body out _ is (knows_by c.phase (Counting reads) takes.phase (λ now. cc now)) at
waiting c from body out (Agrees reads v k row takes verdict is) at =
    elsewhere c from body out _ is (ends_know reads (asked_kept from row c)) at
waiting c from body out (Recounts reads v k row takes verdict flag is) at =
    elsewhere c from body out (begin_counting reads (asked_kept from row c)) is (λ now. cc now) at
waiting c from body out (Pauses reads v k row takes verdict flag is) at =
    elsewhere c from body out (still (in_restart_phase (Paused reads) (asked_kept from row c))) is (λ now. cc now) at
