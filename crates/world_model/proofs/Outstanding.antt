-- Sums over the messages that have still to be done: those in flight, and those that nodes defer. And how a node with
-- what it keeps goes on.
use Rattle.std.proofs.Common.{◌≡◌, ◌≢◌, ◌⊎◌, inl, inr, ℕ, zero, suc, ◌+◌, ◌<◌, ◌≤◌, ◌==◌, Bool, true, false, List, ◌∷◌, ◌++◌, map, refl, ap, arith, Option, Some, None, []}
use Rattle.std.specs.Prelude.{if◌then◌else◌, nat_lt, is_some}
use Rattle.std.proofs.lemmas.Bool.{cases_eq}
use Rattle.std.proofs.lemmas.Bool.Decides.{nat_tests}
use Rattle.tv_base.specs.declared.numbers.SubNo.{SubNo}
use Rattle.tv_base.specs.declared.numbers.TreeNo.{TreeNo}
use Rattle.letter_types.specs.declared.bodies.Body.{Body}
use Rattle.letter_types.specs.declared.bodies.Body.TheVariants.{Wake}
use Rattle.letter_types.specs.declared.entries.Entry.{Entry}
use Rattle.letter_types.specs.declared.entries.Letter.{Letter}
use Rattle.letter_types.specs.Letters.{letters_of}
use Rattle.script_parts.specs.ScriptData.{ScriptData}
use Rattle.world_model.specs.Counts.{tally}
use Rattle.letter_types.specs.declared.kept.KeptLetter.{KeptLetter}
use Rattle.letter_types.specs.declared.kept.KeepReason.{KeepReason}
use Rattle.letter_types.specs.Kept.{is_called_for, first_called, without_called, brought, kept_without, with_called}
use Rattle.letter_types.specs.declared.kept.KeepReason.TheVariants.{Called}
use Rattle.world_model.specs.Keeping.{KeepingNode, is_apt_at, kept_row, brought_row, keeping_row, woken_by}
use Rattle.world_model.specs.Kept.{kept_in, kept_by, outstanding, done_of, stays_of, none_if, of_done}
use Rattle.world_model.specs.Runs.{in_flight, keeping_in, MayFollow}
use Rattle.world_model.specs.Strict.{CoreKeeping, core_keeping, is_core_apt}
use Rattle.world_model.proofs.Bags.{tally-append, tally-drop, tally_step}

-- a number that counts no Wake
abbrev pub NoWakes : (Letter → ℕ) → Type 0
NoWakes f = (l : Letter) (t : TreeNo) (k : SubNo) → l.body ≡ Wake t k → f l ≡ 0

abbrev letters : List KeptLetter → List Letter
letters kept = map (λ (x : KeptLetter). x.letter) kept

-- A kept letter that is called is one of them.
without_at : (f : Letter → ℕ) (t : TreeNo) (k : SubNo) (x : KeptLetter) (xs : List KeptLetter) (r : Letter) (test : Bool)
    → is_called_for t k x ≡ test
    → (first_called t k xs ≡ Some r → tally f (letters (without_called t k xs)) + f r ≡ tally f (letters xs))
    → first_called t k (x ∷ xs) ≡ Some r
    → tally f (letters (without_called t k (x ∷ xs))) + f r ≡ tally f (letters (x ∷ xs))
without_at f t k x xs r true is rest at =
    let one : Some x.letter ≡ Some r = rw is at at in
    let same : x.letter ≡ r = grind arith in
    rw is (omega (arith, ap f same))
without_at f t k x xs r false is rest at = rw is (omega (arith, rest (rw is at at)))

called_left : (f : Letter → ℕ) (t : TreeNo) (k : SubNo) (xs : List KeptLetter) (r : Letter) → first_called t k xs ≡ Some r
    → tally f (letters (without_called t k xs)) + f r ≡ tally f (letters xs)
called_left f t k [] r at = absurd (cc at)
called_left f t k (x ∷ xs) r at =
    without_at f t k x xs r (is_called_for t k x) refl (called_left f t k xs r) at

-- what is kept, and the letter that is brought, are what was kept and the letter that came
brought_left : (f : Letter → ℕ) (kept : List KeptLetter) (l r : Letter) (b : Body) → NoWakes f → l.body ≡ b
    → brought kept l b ≡ Some r
    → tally f (letters (kept_without kept b)) + f r ≡ tally f (letters kept) + f l
brought_left f kept l r (Wake t k) none is at = omega (arith, called_left f t k kept r at, none l t k is)
brought_left f kept l r _ none is at =
    let same : l ≡ r = grind arith in
    omega (arith, ap f same)

-- letters that are woken stay kept
called_letter : (x : KeptLetter) (test : Bool) → (if test then record x { why = Called } else x).letter ≡ x.letter
called_letter x true = refl
called_letter x false = refl

called_kept : (f : Letter → ℕ) (test : KeepReason → Bool) (xs : List KeptLetter)
    → tally f (letters (with_called test xs)) ≡ tally f (letters xs)
called_kept f test [] = refl
called_kept f test (x ∷ xs) = omega (arith, ap f (called_letter x (test x.why)), called_kept f test xs)

-- one letter more
one_more : (f : Letter → ℕ) (xs : List KeptLetter) (x : KeptLetter)
    → tally f (letters (xs ++ x ∷ [])) ≡ tally f (letters xs) + f x.letter
one_more f [] x = omega arith
one_more f (y ∷ xs) x = omega (arith, one_more f xs x)

-- a letter that is apt is kept, or done
row_left : (f : Letter → ℕ) (s : ScriptData) (p : ℕ) (l r : Letter) (n : KeepingNode) (o : Option CoreKeeping)
    → tally f (letters (kept_row s p l r n o).state.kept) + none_if (is_some o) (f r)
    ≡ tally f (letters (kept_without n.kept l.body)) + f r
row_left f s p l r n None = omega (arith, called_kept f (woken_by n.core r.body) (kept_without n.kept l.body))
row_left f s p l r n (Some k) =
    omega (arith, one_more f (kept_without n.kept l.body) (record { letter = r; tree = k.tree; sub = k.sub; why = k.why }))

-- what a node keeps, and the letter that it does, are what it kept and the letter that came
abbrev Balances : (Letter → ℕ) → ScriptData → ℕ → KeepingNode → Letter → Option Letter → Type 0
Balances f s p n l o =
    tally f (letters (brought_row (is_core_apt s p) s p l n o).state.kept) + none_if (stays_of s p n o) (f (done_of s p n l o))
    ≡ tally f (letters n.kept) + f l

apt_left : (f : Letter → ℕ) (s : ScriptData) (p : ℕ) (n : KeepingNode) (l r : Letter) (test : Bool) → is_apt_at s p n r ≡ test
    → tally f (letters (kept_without n.kept l.body)) + f r ≡ tally f (letters n.kept) + f l
    → Balances f s p n l (Some r)
apt_left f s p n l r true is left = rw is (omega (arith, row_left f s p l r n (core_keeping s n.core r.body), left))
apt_left f s p n l r false is left = rw is (omega arith)

balances : (f : Letter → ℕ) (s : ScriptData) (p : ℕ) (n : KeepingNode) (l : Letter) (o : Option Letter) → NoWakes f
    → brought n.kept l l.body ≡ o → Balances f s p n l o
balances f s p n l None none is = omega arith
balances f s p n l (Some r) none is =
    apt_left f s p n l r (is_apt_at s p n r) refl (brought_left f n.kept l r l.body none refl is)

-- How a node with what it keeps goes on.
pub keeping_elsewhere : (s : ScriptData) (past : List Entry) (e : Entry) (p : ℕ) → e.actor.0 ≢ p
    → keeping_in s (e ∷ past) p ≡ keeping_in s past p
keeping_elsewhere s past e p ne = let other : (e.actor.0 == p) ≡ false = grind (arith, nat_tests) in rw other refl

pub keeping_here : (s : ScriptData) (past : List Entry) (e : Entry) (p : ℕ) → e.actor.0 ≡ p
    → keeping_in s (e ∷ past) p ≡ (keeping_row s p (keeping_in s past p) e.took).state
keeping_here s past e p is = let here : (e.actor.0 == p) ≡ true = grind (arith, nat_tests) in rw here refl

-- a number of the letters that node p keeps
abbrev kept_of : (Letter → ℕ) → KeepingNode → ℕ
kept_of f n = tally f (letters n.kept)

one_node : (f : Letter → ℕ) (s : ScriptData) (past : List Entry) (n : ℕ)
    → tally f (kept_by s past (suc n)) ≡ tally f (kept_by s past n) + kept_of f (keeping_in s past n)
one_node f s past n = tally-append f (kept_by s past n) (letters (kept_in s past n))

-- What nodes keep, where one of them goes on.
kept_same : (f : Letter → ℕ) (s : ScriptData) (past : List Entry) (e : Entry) (n : ℕ) → n ≤ e.actor.0
    → tally f (kept_by s (e ∷ past) n) ≡ tally f (kept_by s past n)
kept_same f s past e zero le = refl
kept_same f s past e (suc n) le =
    omega (
      arith,
      kept_same f s past e n (omega (arith, le)),
      one_node f s (e ∷ past) n,
      one_node f s past n,
      ap (kept_of f) (keeping_elsewhere s past e n (λ is. omega (arith, is, le))),
    )

-- the node of an entry after it
abbrev after_entry : ScriptData → List Entry → Entry → KeepingNode
after_entry s past e = (keeping_row s e.actor.0 (keeping_in s past e.actor.0) e.took).state

kept_at : (f : Letter → ℕ) (s : ScriptData) (past : List Entry) (e : Entry) (n : ℕ) → (e.actor.0 ≡ n) ⊎ (e.actor.0 ≢ n)
    → e.actor.0 < suc n
    → (e.actor.0 < n → tally f (kept_by s (e ∷ past) n) + kept_of f (keeping_in s past e.actor.0)
    ≡ tally f (kept_by s past n) + kept_of f (after_entry s past e))
    → tally f (kept_by s (e ∷ past) (suc n)) + kept_of f (keeping_in s past e.actor.0)
    ≡ tally f (kept_by s past (suc n)) + kept_of f (after_entry s past e)
kept_at f s past e n (inl is) lt rest =
    omega (
      arith,
      kept_same f s past e n (omega (arith, is)),
      one_node f s (e ∷ past) n,
      one_node f s past n,
      ap (kept_of f) (keeping_here s past e n is),
      ap (λ (p : ℕ). kept_of f (keeping_in s past p)) is,
      ap (λ (p : ℕ). kept_of f (keeping_row s p (keeping_in s past p) e.took).state) is,
    )
kept_at f s past e n (inr ne) lt rest =
    omega (
      arith,
      rest (grind arith),
      one_node f s (e ∷ past) n,
      one_node f s past n,
      ap (kept_of f) (keeping_elsewhere s past e n ne),
    )

kept_step : (f : Letter → ℕ) (s : ScriptData) (past : List Entry) (e : Entry) (n : ℕ) → e.actor.0 < n
    → tally f (kept_by s (e ∷ past) n) + kept_of f (keeping_in s past e.actor.0)
    ≡ tally f (kept_by s past n) + kept_of f (after_entry s past e)
kept_step f s past e zero lt = absurd (omega (arith, lt))
kept_step f s past e (suc n) lt = kept_at f s past e n (cases_eq e.actor.0 n) lt (λ less. kept_step f s past e n less)

-- what is kept and the letter that an entry does are what was kept and the letter that it took
kept_balances : (f : Letter → ℕ) (s : ScriptData) (past : List Entry) (e : Entry) → NoWakes f → (test : Bool)
    → nat_lt e.actor.0 s.nodes ≡ test
    → tally f (kept_by s (e ∷ past) s.nodes) + of_done f s past e ≡ tally f (kept_by s past s.nodes) + f e.took
kept_balances f s past e none true is =
    let n = keeping_in s past e.actor.0 in
    let lt : e.actor.0 < s.nodes = grind (arith, nat_tests) in
    rw is (omega (
      arith,
      kept_step f s past e s.nodes lt,
      balances f s e.actor.0 n e.took (brought n.kept e.took e.took.body) none refl,
    ))
kept_balances f s past e none false is =
    let outside : s.nodes ≤ e.actor.0 = grind (arith, nat_tests) in
    rw is (omega (arith, kept_same f s past e s.nodes outside))

-- what an entry does to any sum over outstanding letters that counts no Wake: the letter that it does is gone, unless
-- it is kept, and what it sends is there
pub outstanding_step : (f : Letter → ℕ) (s : ScriptData) (past : List Entry) (e : Entry) → NoWakes f → MayFollow s past e
    → tally f (outstanding s (e ∷ past)) + of_done f s past e
    ≡ tally f (outstanding s past) + tally f (letters_of e)
outstanding_step f s past e none m =
    omega (
      arith,
      tally_step f s past e m,
      kept_balances f s past e none (nat_lt e.actor.0 s.nodes) refl,
      tally-append f (in_flight s (e ∷ past)) (kept_by s (e ∷ past) s.nodes),
      tally-append f (in_flight s past) (kept_by s past s.nodes),
    )

-- a letter is outstanding: each number counts it
abbrev pub IsOutstanding : ScriptData → List Entry → Letter → Type 0
IsOutstanding s past r = (f : Letter → ℕ) → f r ≤ tally f (outstanding s past)

-- so is the letter that an entry takes
pub took_outstanding : (s : ScriptData) (past : List Entry) (e : Entry) → MayFollow s past e → IsOutstanding s past e.took
took_outstanding s past e m f =
    omega (
      arith,
      tally-drop f e.took.id (in_flight s past) e.took m.waits,
      tally-append f (in_flight s past) (kept_by s past s.nodes),
    )

-- The start, and entries of the coordinator and the client.

-- nothing is kept at the start
pub kept_first : (s : ScriptData) (n : ℕ) → kept_by s [] n ≡ []
kept_first s zero = refl
kept_first s (suc n) = ap (λ (ls : List Letter). ls ++ []) (kept_first s n)

pub outstanding_first : (f : Letter → ℕ) (s : ScriptData) → tally f (outstanding s []) ≡ tally f (in_flight s [])
outstanding_first f s =
    omega (arith, tally-append f (in_flight s []) (kept_by s [] s.nodes), ap (λ (ls : List Letter). tally f ls) (kept_first s s.nodes))

-- an entry of another actor than a node does the letter that it took
pub done_apart : (f : Letter → ℕ) (s : ScriptData) (past : List Entry) (e : Entry) → s.nodes ≤ e.actor.0
    → of_done f s past e ≡ f e.took
done_apart f s past e outside = let other : nat_lt e.actor.0 s.nodes ≡ false = grind (arith, nat_tests) in rw other refl
