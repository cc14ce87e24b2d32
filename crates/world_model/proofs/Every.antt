-- What holds of every message in flight, and how a state goes on.
use Rattle.std.proofs.Common.{◌≡◌, ◌≢◌, ℕ, ◌+◌, ◌<◌, ◌==◌, Bool, true, false, List, ◌∷◌, ◌++◌, refl, ap, subst, arith, Some, []}
use Rattle.std.proofs.lemmas.Bool.Decides.{nat_tests}
use Rattle.letter_types.specs.declared.entries.LetterId.{LetterId}
use Rattle.letter_types.specs.declared.entries.Letter.{Letter}
use Rattle.letter_types.specs.declared.entries.Outgoing.{Outgoing}
use Rattle.letter_types.specs.declared.entries.Entry.{Entry}
use Rattle.letter_types.specs.Letters.{same_id, find_id, drop_id, sealed, letters_of}
use Rattle.script_parts.specs.ScriptData.{ScriptData}
use Rattle.world_model.specs.Keeping.{KeepingNode, keeping_row}
use Rattle.world_model.specs.Runs.{in_flight, coordinator_in, keeping_in, node_in, Says, Moves, AtNode, AtCoordinator, AtRestarting, AtClient, MayFollow}
use Rattle.world_model.specs.Counts.{tally, Each}
use Rattle.world_model.proofs.Outstanding.{keeping_elsewhere}

pub each_append : {X : Type 0} (P : X → Type 0) (xs ys : List X) → Each P xs → Each P ys → Each P (xs ++ ys)
each_append P [] ys a b = b
each_append P (x ∷ xs) ys a b = (a.0, each_append P xs ys a.1 b)

pub each_map : {X : Type 0} (P Q : X → Type 0) (xs : List X) → ((x : X) → P x → Q x) → Each P xs → Each Q xs
each_map P Q [] h a = tt
each_map P Q (x ∷ xs) h a = (h x a.0, each_map P Q xs h a.1)

pub each_none : {X : Type 0} (f : X → ℕ) (xs : List X) → Each (λ x. f x ≡ 0) xs → tally f xs ≡ 0
each_none f [] a = refl
each_none f (x ∷ xs) a = omega (arith, a.0, each_none f xs a.1)

each_drop_at : (P : Letter → Type 0) (id : LetterId) (x : Letter) (xs : List Letter) (b : Bool) → same_id id x.id ≡ b → Each P (x ∷ xs)
    → Each P (drop_id id xs) → Each P (drop_id id (x ∷ xs))
each_drop_at P id x xs true is a rest = rw is a.1
each_drop_at P id x xs false is a rest = rw is (a.0, rest)

pub each_drop : (P : Letter → Type 0) (id : LetterId) (xs : List Letter) → Each P xs → Each P (drop_id id xs)
each_drop P id [] a = tt
each_drop P id (x ∷ xs) a = each_drop_at P id x xs (same_id id x.id) refl a (each_drop P id xs a.1)

each_found_at : (P : Letter → Type 0) (id : LetterId) (x : Letter) (xs : List Letter) (l : Letter) (b : Bool) → same_id id x.id ≡ b
    → Each P (x ∷ xs)
    → (find_id id xs ≡ Some l → P l) → find_id id (x ∷ xs) ≡ Some l → P l
each_found_at P id x xs l true is a rest at = let eq : x ≡ l = grind arith in subst P eq a.0
each_found_at P id x xs l false is a rest at = rest (rw is at at)

pub each_found : (P : Letter → Type 0) (id : LetterId) (xs : List Letter) (l : Letter) → Each P xs → find_id id xs ≡ Some l → P l
each_found P id [] l a at = absurd (grind arith)
each_found P id (x ∷ xs) l a at = each_found_at P id x xs l (same_id id x.id) refl a (each_found P id xs l a.1) at

pub each_sealed : (P : Letter → Type 0) (stamp actor place : ℕ) (os : List Outgoing)
    → Each (λ o. (i : LetterId) → P (record { id = i; from = record { 0 = actor }; to = o.to; body = o.body })) os
    → Each P (sealed stamp actor place os)
each_sealed P stamp actor place [] a = tt
each_sealed P stamp actor place (o ∷ os) a =
    (a.0 (record { stamp = record { 0 = stamp }; place = place }), each_sealed P stamp actor (place + 1) os a.1)

-- every letter in flight after an entry
pub each_step : (P : Letter → Type 0) (s : ScriptData) (past : List Entry) (e : Entry) → Each P (in_flight s past)
    → Each (λ o. (i : LetterId) → P (record { id = i; from = record { 0 = e.actor.0 }; to = o.to; body = o.body })) e.sent
    → Each P (in_flight s (e ∷ past))
each_step P s past e old new =
    each_append P (drop_id e.took.id (in_flight s past)) (letters_of e) (each_drop P e.took.id (in_flight s past) old) (each_sealed P e.stamp.0 e.actor.0 0 e.sent new)

pub each_taken : (P : Letter → Type 0) (s : ScriptData) (past : List Entry) (e : Entry) → MayFollow s past e → Each P (in_flight s past)
    → P e.took
each_taken P s past e m all = each_found P e.took.id (in_flight s past) e.took all m.waits

-- what its table says
pub moved_says : (s : ScriptData) (past : List Entry) (e : Entry) (p : ℕ) → p < s.nodes → e.actor.0 ≡ p → Moves s past e
    → Says (keeping_row s p (keeping_in s past p) e.took) e
moved_says s past e p lt eq (AtNode node says) = subst (λ (n : ℕ). Says (keeping_row s n (keeping_in s past n) e.took) e) eq says
moved_says s past e p lt eq (AtCoordinator at keeps says) = absurd (omega arith)
moved_says s past e p lt eq (AtRestarting at loses says) = absurd (omega arith)
moved_says s past e p lt eq (AtClient at says) = absurd (omega arith)

pub node_kept : (s : ScriptData) (past : List Entry) (e : Entry) (p : ℕ) → e.actor.0 ≢ p → node_in s (e ∷ past) p ≡ node_in s past p
node_kept s past e p ne = ap (λ (n : KeepingNode). n.core.node) (keeping_elsewhere s past e p ne)

pub coordinator_kept : (s : ScriptData) (past : List Entry) (e : Entry) → e.actor.0 ≢ s.nodes
    → coordinator_in s (e ∷ past) ≡ coordinator_in s past
coordinator_kept s past e ne = let no : (e.actor.0 == s.nodes) ≡ false = grind (arith, nat_tests) in rw no refl

pub each_zero : {X : Type 0} (f : X → ℕ) (xs : List X) → tally f xs ≡ 0 → Each (λ x. f x ≡ 0) xs
each_zero f [] none = tt
each_zero f (x ∷ xs) none = (omega arith, each_zero f xs (omega arith))

pub each_both : {X : Type 0} (P Q : X → Type 0) (xs : List X) → Each P xs → Each Q xs → Each (λ x. P x × Q x) xs
each_both P Q [] a b = tt
each_both P Q (x ∷ xs) a b = ((a.0, b.0), each_both P Q xs a.1 b.1)
