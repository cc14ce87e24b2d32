-- To whom a subtransaction sends messages, and how many.
use Rattle.std.proofs.Common.{◌≡◌, ℕ, ◌+◌, ◌<◌, ◌≤◌, ◌==◌, ◌&&◌, Bool, true, false, List, [], ◌∷◌, ◌++◌, length, refl, subst, sym, arith}
use Rattle.std.specs.Prelude.{nat_lt, All}
use Rattle.std.specs.List.{AllByRecursion}
use Rattle.std.proofs.lemmas.List.{length-append}
use Rattle.std.proofs.lemmas.List.Elements.{All-from_recursion, recursion_from_All, All-append}
use Rattle.script_parts.specs.declared.parts.Sub.{Sub}
use Rattle.letter_types.specs.declared.entries.Outgoing.{Outgoing}
use Rattle.letter_types.specs.declared.bodies.Notice.{Notice}
use Rattle.world_model.specs.Children.{sub_letters, done_letter}

few_by : (t v parent k : ℕ) (x : Sub) (xs : List Sub) (b : Bool) → (nat_lt parent k && (x.parent.0 == parent)) ≡ b
    → length (sub_letters t v parent (k + 1) xs) ≤ length xs
    → length (sub_letters t v parent k (x ∷ xs)) ≤ length (x ∷ xs)
few_by t v parent k x xs true is le = rw is (omega arith)
few_by t v parent k x xs false is le = rw is (omega arith)

-- no more children than subtransactions
pub few_children : (t v parent k : ℕ) (xs : List Sub) → length (sub_letters t v parent k xs) ≤ length xs
few_children t v parent k [] = omega arith
few_children t v parent k (x ∷ xs) = few_by t v parent k x xs (nat_lt parent k && (x.parent.0 == parent)) refl
    (few_children t v parent (k + 1) xs)

-- letters that go to one of so many nodes
abbrev pub AreFor : ℕ → List Outgoing → Type 0
AreFor n os = AllByRecursion (λ (o : Outgoing). o.to.0 < n) os

for_by : (t v parent k n : ℕ) (x : Sub) (xs : List Sub) (b : Bool) → (nat_lt parent k && (x.parent.0 == parent)) ≡ b
    → x.node.0 < n
    → AreFor n (sub_letters t v parent (k + 1) xs) → AreFor n (sub_letters t v parent k (x ∷ xs))
for_by t v parent k n x xs true is lt rest = rw is (lt, rest)
for_by t v parent k n x xs false is lt rest = rw is rest

children_are_for : (t v parent k n : ℕ) (xs : List Sub) → AllByRecursion (λ (s : Sub). s.node.0 < n) xs
    → AreFor n (sub_letters t v parent k xs)
children_are_for t v parent k n [] all = tt
children_are_for t v parent k n (x ∷ xs) all =
    for_by t v parent k n x xs (nat_lt parent k && (x.parent.0 == parent)) refl all.0
    (children_are_for t v parent (k + 1) n xs all.1)

-- the children of subtransactions at nodes are asked for at nodes
pub children_nodes : (t v parent n : ℕ) (xs : List Sub) (os : List Outgoing) → os ≡ sub_letters t v parent 0 xs
    → All (λ (s : Sub). s.node.0 < n) xs
    → All (λ (o : Outgoing). o.to.0 < n) os
children_nodes t v parent n xs os is all =
    subst (λ (ys : List Outgoing). All (λ (o : Outgoing). o.to.0 < n) ys) (sym is)
    (All-from_recursion (λ (o : Outgoing). o.to.0 < n) (sub_letters t v parent 0 xs)
    (children_are_for t v parent 0 n xs (recursion_from_All (λ (s : Sub). s.node.0 < n) xs all)))

pub children_few : (t v parent m : ℕ) (xs : List Sub) (os : List Outgoing) → os ≡ sub_letters t v parent 0 xs
    → length xs ≤ m → length os ≤ m
children_few t v parent m xs os is le =
    subst (λ (ys : List Outgoing). length ys ≤ m) (sym is) (omega (arith, few_children t v parent 0 xs))

-- the same with the notice to the home after them
pub sent_nodes : (t v k n home : ℕ) (notice : Notice) (xs : List Sub) (os : List Outgoing)
    → os ≡ sub_letters t v k 0 xs ++ done_letter home t k v notice ∷ []
    → home < n → All (λ (s : Sub). s.node.0 < n) xs → All (λ (o : Outgoing). o.to.0 < n) os
sent_nodes t v k n home notice xs os is lt all =
    subst (λ (ys : List Outgoing). All (λ (o : Outgoing). o.to.0 < n) ys) (sym is)
    (All-append (λ (o : Outgoing). o.to.0 < n) (sub_letters t v k 0 xs) (done_letter home t k v notice ∷ [])
    (children_nodes t v k n xs (sub_letters t v k 0 xs) refl all)
    (All-from_recursion (λ (o : Outgoing). o.to.0 < n) (done_letter home t k v notice ∷ []) (lt, tt)))

pub sent_few : (t v k m home : ℕ) (notice : Notice) (xs : List Sub) (os : List Outgoing)
    → os ≡ sub_letters t v k 0 xs ++ done_letter home t k v notice ∷ []
    → length xs ≤ m → length os ≤ m + 1
sent_few t v k m home notice xs os is le =
    subst (λ (ys : List Outgoing). length ys ≤ m + 1) (sym is)
    (omega (
      arith,
      few_children t v k 0 xs,
      length-append (sub_letters t v k 0 xs)
          (done_letter home t k v notice ∷ []),
    ))
