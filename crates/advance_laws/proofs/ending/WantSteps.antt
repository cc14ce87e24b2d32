-- What each step of a coordinator that forgets makes of the number of advancements that it wants.
use Rattle.std.proofs.Common.{◌≡◌, ◌⊎◌, inl, inr, ℕ, ◌≤◌, Bool, true, false, [], refl, sym, ap, subst, arith, Some}
use Rattle.std.specs.Prelude.{max, nat_le}
use Rattle.std.proofs.Math.Nat.{le-max_left}
use Rattle.tv_base.specs.Outside.{one_more}
use Rattle.phase_out.specs.Counts.{nudged}
use Rattle.letter_types.specs.declared.bodies.Body.{Body}
use Rattle.letter_types.specs.declared.bodies.Body.TheVariants.{Go, AdvanceNo, Wanted}
use Rattle.letter_types.specs.declared.bodies.What.{What}
use Rattle.letter_types.specs.Steps.{Out, still}
use Rattle.world_model.specs.Counts.{one_if}
use Rattle.world_model.specs.Restarting.{Restarting, after_doing, begin_counting, end_counting, enter, forget, in_restart_phase, next_advance, resume, with_wanted}
use Rattle.world_model.specs.declared.restarting.RestartPhase.{RestartPhase}
use Rattle.world_model.specs.declared.restarting.RestartPhase.TheVariants.{Paused}
use Rattle.advance_laws.proofs.recovery.RecoverSteps.{HasHeard, Misses, Recovery, recovery}
use Rattle.advance_laws.proofs.recovery.RestartSteps.{HearsMore, IsLeft, OfClient, OfNode, RestartStep, asked_kept, asks_with, done_kept}
use Rattle.advance_laws.proofs.recovery.RestartSteps.{Acks, Agrees, Ends, Flags, Forgets, Goes, KeepsAsked, KeepsDone, Pauses, Recounts, Recovers, Rests, Resumes, Wants}

-- a letter that asks for so many advancements, or more
abbrev pub asks_for : ℕ → Body → ℕ
asks_for a (AdvanceNo i) = one_if (nat_le a i)
asks_for a Go = 0
asks_for a _ = 0

-- what the client tells in this epoch covers so many
abbrev pub Covers : ℕ → ℕ → Body → Type 0
Covers e a (Wanted d k) = d ≡ e → a ≤ k
Covers e a Go = Unit {0}
Covers e a _ = Unit {0}

-- Tests of numbers.
pub most_rises : (a w v : ℕ) → w ≤ v → one_if (nat_le a w) ≤ one_if (nat_le a v)
most_rises a w v le = grind arith

pub one_most : (a : ℕ) → one_if (nat_le a a) ≡ 1
one_most a = grind arith

-- It wants no fewer, and as many as it is asked for, unless it forgets.
pub record WantsMore (a : ℕ) (c : Restarting) (body : Body) (d : Restarting) : Type 0 where
  pub letter : asks_for a body ≤ one_if (nat_le a d.wanted)
  pub before : one_if (nat_le a c.wanted) ≤ one_if (nat_le a d.wanted)

-- a letter that asks for none
none_more : (a : ℕ) (c : Restarting) (body : Body) (d : Restarting) → asks_for a body ≡ 0 → c.wanted ≤ d.wanted
    → WantsMore a c body d
none_more a c body d none le = record { letter = omega (arith, none); before = most_rises a c.wanted d.wanted le }

same_more : (a : ℕ) (c : Restarting) (body : Body) (out next : Out Restarting) → out ≡ next → asks_for a body ≡ 0
    → c.wanted ≤ next.state.wanted → WantsMore a c body out.state
same_more a c body out next is none le =
    none_more a c body out.state none (subst (λ (o : Out Restarting). c.wanted ≤ o.state.wanted) (sym is) le)

asked_more : (a i : ℕ) (c : Restarting) (body : Body) (out next : Out Restarting) → out ≡ next → body ≡ AdvanceNo i
    → next.state.wanted ≡ max c.wanted i → WantsMore a c body out.state
asked_more a i c body out next is bd same = grind arith

left_asks : (a : ℕ) (body : Body) (phase : RestartPhase) (from : ℕ) (c : Restarting) → IsLeft body phase from c
    → asks_for a body ≡ 0
left_asks a body phase from c left = grind arith

hears_none : (a : ℕ) (c d : Restarting) (from : ℕ) (body : Body) → HearsMore c from body d
    → (asks_for a body ≡ 0) × (c.wanted ≡ d.wanted)
hears_none a c d from body (OfNode u r l bd lt is) = (ap (asks_for a) bd, sym (ap (λ (x : Restarting). x.wanted) is))
hears_none a c d from body (OfClient k bd it is) = (ap (asks_for a) bd, sym (ap (λ (x : Restarting). x.wanted) is))

recovers_more : (a : ℕ) (c d : Restarting) (body : Body) (out : Out Restarting) → asks_for a body ≡ 0 → c.wanted ≡ d.wanted
    → Recovery d out → WantsMore a c body out.state
recovers_more a c d body out none same (Misses misses is) = same_more a c body out (still d) is none (omega (arith, same))
recovers_more a c d body out none same (HasHeard k told heard is) =
    same_more a c body out (resume k d) is none (omega (arith, same, le-max_left d.wanted k))

done_wanted : (what : What) (c : Restarting) → (after_doing what c).state.wanted ≡ c.wanted
done_wanted what c = grind arith

ends_wanted : (reads : Bool) (c : Restarting) → (end_counting reads c).state.wanted ≡ c.wanted
ends_wanted true c = refl
ends_wanted false c = refl

pub wants_more : (a : ℕ) (c : Restarting) (from : ℕ) (body : Body) (out : Out Restarting) → RestartStep c from body out
    → (out ≡ forget c) ⊎ WantsMore a c body out.state
wants_more a c from body out (Rests left is) =
    inr (same_more a c body out (still c) is (left_asks a body c.phase from c left) (omega arith))
wants_more a c from body out (Forgets bd is) = inl is
wants_more a c from body out (Wants i bd busy is) = inr (asked_more a i c body out (still (with_wanted i c)) is bd refl)
wants_more a c from body out (Goes i bd idle is) =
    inr (asked_more a i c body out (enter (next_advance (max c.wanted i) c.ended) (with_wanted i c)) is bd refl)
wants_more a c from body out (Recovers d waits hears is) =
    let (none, same) = hears_none a c d from body hears in inr (recovers_more a c d body out none same (recovery d out is))
wants_more a c from body out (Acks what doing bd more is) =
    inr (same_more a c body out (still (record c { acks = one_more c.acks })) is (ap (asks_for a) bd) (omega arith))
wants_more a c from body out (Ends what doing bd last is) =
    inr (same_more a c body out (after_doing what c) is (ap (asks_for a) bd) (omega (arith, done_wanted what c)))
wants_more a c from body out (Flags reads counts bd is) =
    inr (same_more a c body out (still (record c { count = nudged c.count })) is (ap (asks_for a) bd) (omega arith))
wants_more a c from body out (Resumes reads pauses bd is) =
    inr (same_more a c body out (begin_counting reads c) is (ap (asks_for a) bd) (omega arith))
wants_more a c from body out (KeepsDone reads v k row counts bd here is) =
    inr (same_more a c body out (record { state = done_kept from row c; sent = asks_with from row c; acts = [] }) is
    (ap (asks_for a) bd)
    (omega arith))
wants_more a c from body out (KeepsAsked reads v k row takes verdict is) =
    inr (same_more a c body out (still (asked_kept from row c)) is (ap (asks_for a) takes.body_is) (omega arith))
wants_more a c from body out (Agrees reads v k row takes verdict is) =
    inr (same_more a c body out (end_counting reads (asked_kept from row c)) is (ap (asks_for a) takes.body_is)
    (omega (arith, ends_wanted reads (asked_kept from row c))))
wants_more a c from body out (Recounts reads v k row takes verdict flag is) =
    inr (same_more a c body out (begin_counting reads (asked_kept from row c)) is (ap (asks_for a) takes.body_is) (omega arith))
wants_more a c from body out (Pauses reads v k row takes verdict flag is) =
    inr (same_more a c body out (still (in_restart_phase (Paused reads) (asked_kept from row c))) is
    (ap (asks_for a) takes.body_is)
    (omega arith))

-- While it recovers, it waits on for what covers all, or resumes with that.
pub heard_covers : (a : ℕ) (c d : Restarting) (from : ℕ) (body : Body) → HearsMore c from body d → Covers c.epoch a body
    → ((k : ℕ) → c.heard ≡ Some k → a ≤ k) → (k : ℕ) → d.heard ≡ Some k → a ≤ k
heard_covers a c d from body k covers was = grind arith

pub more_waits : (c d : Restarting) (from : ℕ) (body : Body) → HearsMore c from body d
    → (d.phase ≡ c.phase) × (d.epoch ≡ c.epoch)
more_waits c d from body (OfNode u r l bd lt is) = (ap (λ (x : Restarting). x.phase) is, ap (λ (x : Restarting). x.epoch) is)
more_waits c d from body (OfClient k bd it is) = (ap (λ (x : Restarting). x.phase) is, ap (λ (x : Restarting). x.epoch) is)
