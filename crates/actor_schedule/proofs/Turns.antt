-- Actors in cyclic order, one after the other: where the first that passes is, and that each actor is among them.
use Rattle.std.proofs.Common.{◌≡◌, subst, nat_le, arith, refl, ℕ, zero, suc, ◌+◌, ◌-◌, ◌*◌, ◌/◌, ◌%◌, ◌<◌, ◌≤◌, Bool, true, false, ◌∷◌}
use Rattle.std.proofs.lemmas.Nat.{mod-mul-add, mod_below, div-add-mod'}
use Rattle.std.proofs.lemmas.Bool.{leb-true, leb-false}
use Rattle.std.specs.Prelude.{cond, find, ◌==◌, slice_index, Option, Some, None}
use Rattle.actor_schedule.specs.declared.schedule.Schedule.{Schedule}
use Rattle.actor_schedule.specs.declared.schedule.TheConstants.{NOBODY}
use Rattle.actor_schedule.specs.Schedules.{in_turn, is_ready, is_for_worker, may_be_given, first_ready}

-- the first one, and those after it
pub in_turn-next : (actors from count : ℕ) → 0 < count
    → in_turn actors from count ≡ (from % actors) ∷ in_turn actors (from + 1) (count - 1)
in_turn-next actors from zero some = absurd (omega arith)
in_turn-next actors from (suc count) some =
    let fewer : suc count - 1 ≡ count = omega arith in
    rw fewer

-- where the first one doesn't pass, it is the first of those after it
pub passed_over : (test : ℕ → Bool) (actors from count : ℕ) → 0 < count → test (from % actors) ≡ false
    → find test (in_turn actors from count) ≡ find test (in_turn actors (from + 1) (count - 1))
passed_over test actors from count some fails = rw (in_turn-next actors from count some, fails)

-- where the first one passes, it is that one
pub comes_first : (test : ℕ → Bool) (actors from count : ℕ) → 0 < count → test (from % actors) ≡ true
    → find test (in_turn actors from count) ≡ Some (from % actors)
comes_first test actors from count some passes = rw (in_turn-next actors from count some, passes)

-- where the first of two options is taken by a test, and none comes of it, the test fails and the other is none
none_first : (passes : Bool) (n : ℕ) (rest : Option ℕ) → cond passes (Some n) rest ≡ None
    → (passes ≡ false) × (rest ≡ None)
none_first true n rest none = absurd (let no : Some n ≡ None = none in cc)
none_first false n rest none = (refl, none)

-- where none of them passes, each fails
pub each_fails : (test : ℕ → Bool) (actors from count later : ℕ) → find test (in_turn actors from count) ≡ None
    → later < count → test ((from + later) % actors) ≡ false
each_fails test actors from zero later none within = absurd (omega arith)
each_fails test actors from (suc count) zero none within =
    let here : from + 0 ≡ from = omega arith in
    rw here (none_first (test (from % actors)) (from % actors) (find test (in_turn actors (from + 1) count)) none).0
each_fails test actors from (suc count) (suc later) none within =
    let on = (none_first (test (from % actors)) (from % actors) (find test (in_turn actors (from + 1) count)) none).1 in
    let fewer : later < count = omega arith in
    let more : from + 1 + later ≡ from + suc later = omega arith in
    rw (← more) (each_fails test actors (from + 1) count later on fewer)

-- each actor has its turn
pub has_turn : (actors from actor : ℕ) → actor < actors
    → (later : ℕ) × (later < actors) × ((from + later) % actors ≡ actor)
has_turn actors from actor within = by (nat_le (from % actors) actor) refl where
  rounds : from / actors * actors + from % actors ≡ from
  rounds = div-add-mod' from actors

  by : (b : Bool) → nat_le (from % actors) actor ≡ b
      → (later : ℕ) × (later < actors) × ((from + later) % actors ≡ actor)
  by true is =
      let behind : from % actors ≤ actor = leb-true (from % actors) actor is in
      let few : actor - from % actors < actors = omega arith in
      let there : from + (actor - from % actors) ≡ from / actors * actors + actor = omega (arith, rounds) in
      (actor - from % actors, few, rw there (mod-mul-add (from / actors) actors actor within))
  by false is =
      let ahead : actor < from % actors = leb-false (from % actors) actor is in
      let most : from % actors < actors = mod_below from actors (omega arith) in
      let few : actors + actor - from % actors < actors = omega arith in
      let there : from + (actors + actor - from % actors) ≡ (from / actors + 1) * actors + actor = omega (arith, rounds) in
      (actors + actor - from % actors, few, rw there (mod-mul-add (from / actors + 1) actors actor within))

-- where a worker was the last to serve an actor, that is what the test of it says
pub last_served : (s : Schedule) (given : Option ℕ) (worker actor : ℕ) → given ≡ Some worker
    → slice_index s.server actor ≡ worker → is_for_worker s given actor ≡ (slice_index s.server actor == worker)
last_served s given worker actor is last = rw is (grind arith)

-- where another was, the test is whether nobody has served it
pub else_nobody : (s : Schedule) (given : Option ℕ) (worker actor : ℕ) → given ≡ Some worker
    → (slice_index s.server actor ≡ worker → ⊥) → is_for_worker s given actor ≡ (slice_index s.server actor == NOBODY)
else_nobody s given worker actor is other = rw is (grind arith)

-- for any worker each actor is meant
pub any_meant : (s : Schedule) (given : Option ℕ) (actor : ℕ) → given ≡ None → is_for_worker s given actor ≡ true
any_meant s given actor is = rw is

-- where no actor is found for any worker, none is ready
pub none_ready : (s : Schedule) (from actors : ℕ) → first_ready s from actors None ≡ None
    → (actor : ℕ) → actor < actors → is_ready s actor ≡ false
none_ready s from actors none actor within =
    let (later, few, is) = has_turn actors from actor within in
    subst (λ (a : ℕ). is_ready s a ≡ false) is (each_fails (may_be_given s None) actors from actors later none few)
