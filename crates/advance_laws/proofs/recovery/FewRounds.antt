-- How many rounds a coordinator that forgets may begin in one epoch, and what each of its steps makes of its numbers.
use Rattle.std.proofs.Common.{◌≡◌, ℕ, ◌+◌, ◌-◌, ◌*◌, ◌^◌, ◌≤◌, Bool, true, List, refl, sym, ap, subst, ◌∙◌, Some, arith}
use Rattle.std.specs.Prelude.{max, not}
use Rattle.std.proofs.Math.Nat.{max-le, min-le_left}
use Rattle.tv_base.specs.Outside.{one_more}
use Rattle.tv_base.proofs.Chosen.{one_more_most}
use Rattle.phase_out.specs.Counts.{nudged}
use Rattle.letter_types.specs.declared.bodies.Body.{Body}
use Rattle.letter_types.specs.declared.bodies.Body.TheVariants.{AdvanceNo, Go, Lose, Wanted}
use Rattle.letter_types.specs.declared.bodies.What.{What}
use Rattle.letter_types.specs.declared.bodies.What.TheVariants.{Turn as ToTurn, Show as ToShow, Sweep as ToSweep}
use Rattle.letter_types.specs.Steps.{Out}
use Rattle.world_model.specs.Counts.{one_if}
use Rattle.world_model.specs.Restarting.{Restarting, after_doing, begin_counting, end_counting, first_number, in_restart_phase, next_advance, recover}
use Rattle.world_model.specs.declared.restarting.RestartPhase.{RestartPhase}
use Rattle.world_model.specs.declared.restarting.RestartPhase.TheVariants.{Idle, Recovering, Doing, Counting, Paused}
use Rattle.world_model.proofs.Lawful.{is_nudge}
use Rattle.advance_laws.proofs.recovery.RecoverSteps.{next_each}
use Rattle.advance_laws.proofs.recovery.RestartSteps.{RestartStep, HearsMore, asked_kept, done_kept}
use Rattle.advance_laws.proofs.recovery.RestartSteps.{Rests, Forgets, Wants, Goes, Recovers, Acks, Ends, Flags, Resumes, KeepsDone, KeepsAsked, Agrees, Recounts, Pauses}

-- a letter that makes it forget
abbrev pub is_lose_letter : Body → ℕ
is_lose_letter Lose = 1
is_lose_letter Go = 0
is_lose_letter _ = 0

-- How many rounds may still begin without a nudge, where at most a advancements are wanted and f have ended: two in each that
-- hasn't begun, and those that the one in progress hasn't begun. Who recovers doesn't know how many have ended: as it resumes,
-- nodes may be in one more than are wanted.
abbrev rounds_left : ℕ → RestartPhase → ℕ → ℕ
rounds_left a Recovering f = 2 * a + 2
rounds_left a Idle f = 2 * (a - f)
rounds_left a (Doing ToTurn) f = 2 * (a - (f + 1)) + 2
rounds_left a (Doing ToShow) f = 2 * (a - (f + 1)) + 1
rounds_left a (Doing ToSweep) f = 2 * (a - (f + 1))
rounds_left a (Counting reads) f = 2 * (a - (f + 1)) + one_if (not reads)
rounds_left a (Paused reads) f = 2 * (a - (f + 1)) + one_if (not reads)

-- a nudge that the round has remembered
abbrev pub remembered : RestartPhase → Bool → ℕ
remembered (Counting reads) flag = one_if flag
remembered Idle flag = 0
remembered _ flag = 0

-- the rounds that may still begin: those, and one where a nudge is remembered
abbrev still_due : ℕ → RestartPhase → Bool → ℕ → ℕ
still_due a phase flag f = remembered phase flag + rounds_left a phase f

-- with these, the rounds of the epoch so far are one for each of n nudges, and those that begin without one, at most
abbrev AreFewRounds : ℕ → ℕ → Restarting → Type 0
AreFewRounds a n c = c.count.number + still_due a c.phase c.count.flag c.ended ≤ c.epoch * 2 ^ 32 + n + (2 * a + 2)

-- the coordinator's numbers, where m advancements were asked for and n nudges came: no more are wanted, the client told of no
-- more, and rounds are few
pub record AreSmall (a m n : ℕ) (c : Restarting) : Type 0 where
  pub wanted : c.wanted ≤ m
  pub heard : (k : ℕ) → c.heard ≡ Some k → k ≤ m
  pub rounds : AreFewRounds a n c

-- where more were asked for, and more nudges came, they are small too
pub more_small : (a m n asked nudges : ℕ) (c : Restarting) → AreSmall a m n c → m ≤ asked → n ≤ nudges
    → AreSmall a asked nudges c
more_small a m n asked nudges c was more further = record {
  wanted = omega (arith, was.wanted, more);
  heard = λ k is. omega (arith, was.heard k is, more);
  rounds = omega (arith, was.rounds, further);
}

-- a letter that tells of no more advancements
pub record TellsUpTo (m : ℕ) (body : Body) : Type 0 where
  pub numbered : (i : ℕ) → body ≡ AdvanceNo i → i ≤ m
  pub told : (e k : ℕ) → body ≡ Wanted e k → k ≤ m

-- what a step makes of these numbers: it forgets by a letter that says so alone
pub record StaysSmall (a m n : ℕ) (c : Restarting) (body : Body) (d : Restarting) : Type 0 where
  pub epoch : d.epoch ≤ c.epoch + is_lose_letter body
  pub small : AreSmall a m (n + is_nudge body) d

-- Numbers that stop at their type's end.
first_most : (epoch : ℕ) → first_number epoch ≤ epoch * 2 ^ 32
first_most epoch = min-le_left (epoch * 2 ^ 32) (2 ^ 64 - 1)

-- The phases with which it goes on.
-- the next advancement begins where it is wanted, so where not as many have ended as may be wanted
next_due : (a wanted f : ℕ) (flag : Bool) → wanted ≤ a → still_due a (next_advance wanted f) flag f ≤ 2 * (a - f)
next_due a wanted f flag few =
    next_each (λ phase. still_due a phase flag f ≤ 2 * (a - f)) wanted f (λ lt. omega (arith, lt, few)) (λ le. omega arith)

-- Steps.
-- the epoch, what is wanted and what was heard stay
same_small : (a m n : ℕ) (c d : Restarting) (body : Body) → AreSmall a m n c → d.epoch ≡ c.epoch → d.wanted ≡ c.wanted
    → d.heard ≡ c.heard → AreFewRounds a (n + is_nudge body) d → StaysSmall a m n c body d
same_small a m n c d body was epoch wanted heard rounds = record {
  epoch = omega (arith, epoch);
  small = record {
    wanted = omega (arith, wanted, was.wanted);
    heard = λ k is. was.heard k (sym heard ∙ is);
    rounds = rounds;
  };
}

-- what is due in a phase
due_at : (a : ℕ) (c : Restarting) (phase : RestartPhase) → c.phase ≡ phase
    → still_due a c.phase c.count.flag c.ended ≡ still_due a phase c.count.flag c.ended
due_at a c phase at = ap (λ (p : RestartPhase). still_due a p c.count.flag c.ended) at

ends_small : (a m n : ℕ) (c : Restarting) (body : Body) (what : What) → a ≤ 100 → m ≤ a → AreSmall a m n c
    → c.phase ≡ Doing what → StaysSmall a m n c body (after_doing what c).state
ends_small a m n c body what few most was at = grind (arith, next_due, same_small)

agrees_small : (a m n : ℕ) (c : Restarting) (from : ℕ) (row : List ℕ) (body : Body) (reads : Bool) → AreSmall a m n c
    → c.phase ≡ Counting reads → StaysSmall a m n c body (end_counting reads (asked_kept from row c)).state
agrees_small a m n c from row body reads was at = grind arith

-- what it hears it keeps, and then it resumes if all is there
hears_small : (a m n : ℕ) (c d : Restarting) (from : ℕ) (body : Body) → m ≤ a → TellsUpTo m body → AreSmall a m n c
    → c.phase ≡ Recovering → HearsMore c from body d → StaysSmall a m n c body (recover d).state
hears_small a m n c d from body most tells was at hears = grind arith

-- each step
pub stays_small : (a m n : ℕ) (c : Restarting) (from : ℕ) (body : Body) (out : Out Restarting) → a ≤ 100 → m ≤ a
    → TellsUpTo m body → AreSmall a m n c → RestartStep c from body out → StaysSmall a m n c body out.state
stays_small a m n c from body out few most tells was (Rests left is) =
    subst (λ (o : Out Restarting). StaysSmall a m n c body o.state) (sym is)
    (same_small a m n c c body was refl refl refl (omega (arith, was.rounds)))
stays_small a m n c from body out few most tells was (Forgets bd is) =
    subst (λ (o : Out Restarting). StaysSmall a m n c body o.state) (sym is) (record {
      epoch = omega (arith, one_more_most c.epoch, ap is_lose_letter bd);
      small = record {
        wanted = omega arith;
        heard = λ k none. absurd (cc none);
        rounds = omega (arith, first_most (one_more c.epoch));
      };
    })
stays_small a m n c from body out few most tells was (Wants i bd busy is) =
    subst (λ (o : Out Restarting). StaysSmall a m n c body o.state) (sym is) (record {
      epoch = omega arith;
      small = record {
        wanted = max-le was.wanted (tells.numbered i bd);
        heard = was.heard;
        rounds = omega (arith, was.rounds);
      };
    })
stays_small a m n c from body out few most tells was (Goes i bd at is) =
    let wanted : max c.wanted i ≤ m = max-le was.wanted (tells.numbered i bd) in
    subst (λ (o : Out Restarting). StaysSmall a m n c body o.state) (sym is) (record {
      epoch = omega arith;
      small = record {
        wanted = wanted;
        heard = was.heard;
        rounds = omega (
          arith,
          was.rounds,
          due_at a c Idle at,
          next_due a (max c.wanted i) c.ended c.count.flag (omega (arith, wanted, most)),
        );
      };
    })
stays_small a m n c from body out few most tells was (Recovers d at hears is) =
    subst (λ (o : Out Restarting). StaysSmall a m n c body o.state) (sym is)
    (hears_small a m n c d from body most tells was at hears)
stays_small a m n c from body out few most tells was (Acks what at bd more is) =
    subst (λ (o : Out Restarting). StaysSmall a m n c body o.state) (sym is)
    (same_small a m n c _ body was refl refl refl (omega (arith, was.rounds)))
stays_small a m n c from body out few most tells was (Ends what at bd last is) =
    subst (λ (o : Out Restarting). StaysSmall a m n c body o.state) (sym is) (ends_small a m n c body what few most was at)
stays_small a m n c from body out few most tells was (Flags reads at bd is) =
    let one : is_nudge body ≡ 1 = ap is_nudge bd in
    let more : still_due a c.phase true c.ended ≡ still_due a (Counting reads) true c.ended =
    ap (λ (p : RestartPhase). still_due a p true c.ended) at in
    subst (λ (o : Out Restarting). StaysSmall a m n c body o.state) (sym is)
    (same_small a m n c (record c { count = nudged c.count }) body was refl refl refl
    (omega (arith, was.rounds, one, more, due_at a c (Counting reads) at)))
stays_small a m n c from body out few most tells was (Resumes reads at bd is) =
    let one : is_nudge body ≡ 1 = ap is_nudge bd in
    subst (λ (o : Out Restarting). StaysSmall a m n c body o.state) (sym is)
    (same_small a m n c (begin_counting reads c).state body was refl refl refl
    (omega (arith, was.rounds, one, due_at a c (Paused reads) at, one_more_most c.count.number)))
stays_small a m n c from body out few most tells was (KeepsDone reads v k row at bd here is) =
    subst (λ (o : Out Restarting). StaysSmall a m n c body o.state) (sym is)
    (same_small a m n c (done_kept from row c) body was refl refl refl (omega (arith, was.rounds)))
stays_small a m n c from body out few most tells was (KeepsAsked reads v k row takes verdict is) =
    subst (λ (o : Out Restarting). StaysSmall a m n c body o.state) (sym is)
    (same_small a m n c (asked_kept from row c) body was refl refl refl (omega (arith, was.rounds)))
stays_small a m n c from body out few most tells was (Agrees reads v k row takes verdict is) =
    subst (λ (o : Out Restarting). StaysSmall a m n c body o.state) (sym is)
    (agrees_small a m n c from row body reads was takes.phase)
stays_small a m n c from body out few most tells was (Recounts reads v k row takes verdict flag is) =
    let one : one_if c.count.flag ≡ 1 = ap one_if flag in
    subst (λ (o : Out Restarting). StaysSmall a m n c body o.state) (sym is)
    (same_small a m n c (begin_counting reads (asked_kept from row c)).state body was refl refl refl
    (omega (arith, was.rounds, one, due_at a c (Counting reads) takes.phase, one_more_most c.count.number)))
stays_small a m n c from body out few most tells was (Pauses reads v k row takes verdict flag is) =
    subst (λ (o : Out Restarting). StaysSmall a m n c body o.state) (sym is)
    (same_small a m n c (in_restart_phase (Paused reads) (asked_kept from row c)) body was refl refl refl
    (omega (arith, was.rounds, due_at a c (Counting reads) takes.phase)))
