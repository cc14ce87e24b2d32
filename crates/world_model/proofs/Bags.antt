-- Sums over the messages in flight.
use Rattle.std.proofs.Common.{◌≡◌, ℕ, ◌+◌, ◌≤◌, ◌==◌, Bool, true, false, List, ◌∷◌, ◌++◌, refl, ap, arith, Some, [], ◌≢◌, ◌&&◌}
use Rattle.std.proofs.lemmas.Bool.Decides.{nat_tests}
use Rattle.tv_base.proofs.Truths.{same_test}
use Rattle.letter_types.specs.declared.entries.LetterId.{LetterId}
use Rattle.letter_types.specs.declared.entries.Letter.{Letter}
use Rattle.letter_types.specs.declared.entries.Outgoing.{Outgoing}
use Rattle.letter_types.specs.declared.entries.Entry.{Entry}
use Rattle.letter_types.specs.Letters.{same_id, find_id, drop_id, sealed, letters_of}
use Rattle.script_parts.specs.ScriptData.{ScriptData}
use Rattle.world_model.specs.Runs.{in_flight, MayFollow}
use Rattle.world_model.specs.Counts.{tally, one_if}

-- a test counts for one at most, and that of a number and itself for one; so does each of two

pub one_if_most : (b : Bool) → one_if b ≤ 1
one_if_most true = omega arith
one_if_most false = omega arith

pub one_if_same : (t : ℕ) → one_if (t == t) ≡ 1
one_if_same t = ap one_if (same_test t)

pub one_if_other : (a b : ℕ) → a ≢ b → one_if (a == b) ≡ 0
one_if_other a b ne = grind (arith, nat_tests)

pub one_if_both : (a b : ℕ) → one_if ((a == a) && (b == b)) ≡ 1
one_if_both a b = grind (arith, nat_tests)

pub one_if_and : (a b : Bool) → one_if (a && b) ≤ one_if a
one_if_and true b = one_if_most b
one_if_and false b = omega arith

pub tally_most : {X : Type 0} (f g : X → ℕ) (xs : List X) → ((x : X) → f x ≤ g x) → tally f xs ≤ tally g xs
tally_most f g [] le = omega arith
tally_most f g (x ∷ xs) le = omega (arith, le x, tally_most f g xs le)

pub tally-append : {X : Type 0} (f : X → ℕ) (xs ys : List X) → tally f (xs ++ ys) ≡ tally f xs + tally f ys
tally-append f [] ys = omega arith
tally-append f (x ∷ xs) ys = omega (arith, tally-append f xs ys)

tally-drop_at : (f : Letter → ℕ) (id : LetterId) (x : Letter) (xs : List Letter) (l : Letter) → (b : Bool) → same_id id x.id ≡ b
    → (find_id id xs ≡ Some l → tally f (drop_id id xs) + f l ≡ tally f xs)
    → find_id id (x ∷ xs) ≡ Some l → tally f (drop_id id (x ∷ xs)) + f l ≡ tally f (x ∷ xs)
tally-drop_at f id x xs l true is rest here = grind arith
tally-drop_at f id x xs l false is rest here = grind arith

pub tally-drop : (f : Letter → ℕ) (id : LetterId) (xs : List Letter) (l : Letter) → find_id id xs ≡ Some l
    → tally f (drop_id id xs) + f l ≡ tally f xs
tally-drop f id [] l here = absurd (grind arith)
tally-drop f id (x ∷ xs) l here = tally-drop_at f id x xs l (same_id id x.id) refl (tally-drop f id xs l) here

-- what an entry does to any sum over the letters in flight
pub tally_step : (f : Letter → ℕ) (s : ScriptData) (past : List Entry) (e : Entry) → MayFollow s past e
    → tally f (in_flight s (e ∷ past)) + f e.took ≡ tally f (in_flight s past) + tally f (letters_of e)
tally_step f s past e m =
    omega (arith, tally-append f (drop_id e.took.id (in_flight s past)) (letters_of e), tally-drop f e.took.id (in_flight s past) e.took m.waits)

-- a sum over letters that looks at their ends and bodies alone is one over what was sent
pub sealed_tally : (f : Letter → ℕ) (g : Outgoing → ℕ) (stamp actor place : ℕ) (os : List Outgoing)
    → ((i : LetterId) (o : Outgoing) → f (record { id = i; from = record { 0 = actor }; to = o.to; body = o.body }) ≡ g o)
    → tally f (sealed stamp actor place os) ≡ tally g os
sealed_tally f g stamp actor place [] same = refl
sealed_tally f g stamp actor place (o ∷ os) same =
    omega (arith, sealed_tally f g stamp actor (place + 1) os same, same (record { stamp = record { 0 = stamp }; place = place }) o)

pub tally_same : {X : Type 0} (f g : X → ℕ) (xs : List X) → ((x : X) → f x ≡ g x) → tally f xs ≡ tally g xs
tally_same f g [] same = refl
tally_same f g (x ∷ xs) same = omega (arith, tally_same f g xs same, same x)

pub tally_none : {X : Type 0} (f : X → ℕ) (xs : List X) → ((x : X) → f x ≡ 0) → tally f xs ≡ 0
tally_none f [] same = refl
tally_none f (x ∷ xs) same = omega (arith, tally_none f xs same, same x)
