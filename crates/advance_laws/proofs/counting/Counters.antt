-- What the rows of a node do to its counters.
use Rattle.std.proofs.Common.{◌≡◌, ℕ, ◌+◌, ◌≤◌, ◌==◌, ◌&&◌, Bool, true, false, List, [], ◌∷◌, length, refl, arith, Option, Some, None}
use Rattle.std.specs.Prelude.{if◌then◌else◌, nat_lt}
use Rattle.std.proofs.lemmas.Bool.Decides.{nat_tests}
use Rattle.letter_types.specs.declared.entries.Outgoing.{Outgoing}
use Rattle.pair_counters.specs.Numbers.{Numbers, more_at, asked_one, asked_all}
use Rattle.tree_home.specs.declared.homes.Answered.{Answered}
use Rattle.world_model.specs.Children.{sub_letters, addressees}
use Rattle.world_model.specs.Done.{counted_root, counted_sub}
use Rattle.world_model.specs.Notices.{reply_letters}
use Rattle.world_model.proofs.Requests.{done_kept}
use Rattle.tx_trees.specs.declared.parts.Sub.{Sub}
use Rattle.world_model.specs.Counts.{tally, one_if, Each}
use Rattle.world_model.proofs.Bags.{one_if_most}
use Rattle.advance_laws.specs.Balance.{version_is}

-- 1 for a counted letter of version w to r
abbrev pub counted : ℕ → ℕ → Outgoing → ℕ
counted w r o = one_if (version_is w o.body && (o.to.0 == r))

-- 1 where both numbers are these
abbrev pub at_pair : ℕ → ℕ → ℕ → ℕ → ℕ
at_pair v q w r = one_if ((v == w) && (q == r))

more_by : (f : ℕ → ℕ → ℕ) (w r : ℕ) (b : Bool) → (if b then f w r + 1 else f w r) ≡ f w r + one_if b
more_by f w r true = refl
more_by f w r false = omega arith

turned_round : (v q w r : ℕ) → one_if ((w == v) && (r == q)) ≡ at_pair v q w r
turned_round v q w r = grind (arith, nat_tests)

-- one more at a pair
pub more_is : (v q : ℕ) (f : ℕ → ℕ → ℕ) (w r : ℕ) → more_at v q f w r ≡ f w r + at_pair v q w r
more_is v q f w r = omega (arith, more_by f w r ((w == v) && (r == q)), turned_round v q w r)

-- counted letters of version v, and no others
abbrev pub AreOf : ℕ → List Outgoing → Type 0
AreOf v os = Each (λ (o : Outgoing). (w : ℕ) → version_is w o.body ≡ (v == w)) os

one_letter : (v w to r : ℕ) (b : Bool) → b ≡ (v == w) → at_pair v to w r ≡ one_if (b && (to == r))
one_letter v w to r b is = rw is refl

-- each counted letter is a request
pub asked_letters : (v : ℕ) (os : List Outgoing) (n : Numbers) (w r : ℕ) → AreOf v os
    → (asked_all v (addressees os) n).asked w r ≡ n.asked w r + tally (counted w r) os
asked_letters v [] n w r are = omega arith
asked_letters v (o ∷ os) n w r are =
    omega (
      arith,
      asked_letters v os (asked_one v o.to.0 n) w r are.1,
      more_is v o.to.0 n.asked w r,
      one_letter v w o.to.0 r (version_is w o.body) (are.0 w),
    )

child_of : (t v parent k : ℕ) (x : Sub) (xs : List Sub) → AreOf v (sub_letters t v parent (k + 1) xs) → (test : Bool)
    → (nat_lt parent k && (x.parent.0 == parent)) ≡ test → AreOf v (sub_letters t v parent k (x ∷ xs))
child_of t v parent k x xs rest true is = rw is ((λ w. refl), rest)
child_of t v parent k x xs rest false is = rw is rest

-- what a subtransaction asks of its children
pub children_of : (t v parent k : ℕ) (xs : List Sub) → AreOf v (sub_letters t v parent k xs)
children_of t v parent k [] = tt
children_of t v parent k (x ∷ xs) =
    child_of t v parent k x xs (children_of t v parent (k + 1) xs) (nat_lt parent k && (x.parent.0 == parent)) refl

-- an answer isn't counted
pub replies_uncounted : (client : ℕ) (a : Option Answered) (w r : ℕ) → tally (counted w r) (reply_letters client a) ≡ 0
replies_uncounted client None w r = refl
replies_uncounted client (Some a) w r = refl

-- The rows.

-- the requests and completions of a root
pub root_asked : (v p : ℕ) (os : List Outgoing) (n : Numbers) (w r : ℕ) → AreOf v os
    → (counted_root v p os n).asked w r ≡ n.asked w r + at_pair v p w r + tally (counted w r) os
root_asked v p os n w r are = omega (arith, asked_letters v os (asked_one v p n) w r are, more_is v p n.asked w r)

pub root_completed : (v p : ℕ) (os : List Outgoing) (n : Numbers) (w r : ℕ)
    → (counted_root v p os n).done w r ≡ n.done w r + at_pair v p w r
root_completed v p os n w r =
    rw (done_kept v (addressees os) (asked_one v p n)) (more_is v p n.done w r)

-- the requests and completions of another subtransaction
pub sub_asked : (v q : ℕ) (os : List Outgoing) (n : Numbers) (w r : ℕ) → AreOf v os
    → (counted_sub v q os n).asked w r ≡ n.asked w r + tally (counted w r) os
sub_asked v q os n w r are = asked_letters v os n w r are

pub sub_completed : (v q : ℕ) (os : List Outgoing) (n : Numbers) (w r : ℕ)
    → (counted_sub v q os n).done w r ≡ n.done w r + at_pair v q w r
sub_completed v q os n w r = rw (done_kept v (addressees os) n) (more_is v q n.done w r)

-- How many counted letters there are at most.

child_few : (t v parent k w r : ℕ) (x : Sub) (xs : List Sub)
    → tally (counted w r) (sub_letters t v parent (k + 1) xs) ≤ length xs → (test : Bool)
    → (nat_lt parent k && (x.parent.0 == parent)) ≡ test
    → tally (counted w r) (sub_letters t v parent k (x ∷ xs)) ≤ length (x ∷ xs)
child_few t v parent k w r x xs rest true is = rw is (omega (arith, one_if_most ((v == w) && (x.node.0 == r))))
child_few t v parent k w r x xs rest false is = rw is (omega arith)

-- no more than there are subtransactions
pub children_few : (t v parent k w r : ℕ) (xs : List Sub)
    → tally (counted w r) (sub_letters t v parent k xs) ≤ length xs
children_few t v parent k w r [] = omega arith
children_few t v parent k w r (x ∷ xs) =
    child_few t v parent k w r x xs (children_few t v parent (k + 1) w r xs) (nat_lt parent k && (x.parent.0 == parent))
    refl
