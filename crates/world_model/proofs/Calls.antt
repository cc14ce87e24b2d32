-- Messages whose Wake is in flight, and Wakes: a node's step wakes as many as it sends Wakes, and a Wake that comes
-- brings one of them.
use Rattle.std.proofs.Common.{◌≡◌, ℕ, ◌+◌, ◌==◌, ◌&&◌, Bool, true, false, List, [], ◌∷◌, refl, ap, arith, Some, None}
use Rattle.std.specs.Prelude.{if◌then◌else◌}
use Rattle.std.proofs.lemmas.Bool.Decides.{nat_tests}
use Rattle.tv_base.specs.declared.numbers.SubNo.{SubNo}
use Rattle.tv_base.specs.declared.numbers.TreeNo.{TreeNo}
use Rattle.letter_types.specs.declared.bodies.Body.{Body}
use Rattle.letter_types.specs.declared.bodies.Body.TheVariants.{Go, Order, Show, Decide, Wake}
use Rattle.letter_types.specs.declared.entries.Letter.{Letter}
use Rattle.world_model.specs.Calls.{calls, is_wake_of}
use Rattle.world_model.specs.Counts.{tally, one_if}
use Rattle.script_parts.specs.ScriptData.{ScriptData}
use Rattle.letter_types.specs.declared.kept.KeptLetter.{KeptLetter}
use Rattle.letter_types.specs.declared.kept.KeepReason.{KeepReason}
use Rattle.letter_types.specs.Kept.{brought, is_called, is_called_for, first_called, kept_without, wakes, wakes_by, with_called, without_called}
use Rattle.letter_types.specs.declared.kept.KeepReason.TheVariants.{ForShow, ForHolder, Called}
use Rattle.world_model.specs.Core.{Core}
use Rattle.world_model.specs.Epochs.{plain_order, is_obeyed_now}
use Rattle.world_model.specs.Keeping.{KeepingNode, kept_row, woken_by}
use Rattle.world_model.specs.Strict.{CoreKeeping}
use Rattle.world_model.proofs.Bags.{tally-append}
use Rattle.world_model.proofs.Sends.{on}

-- no letter wakes one that is called already
pub called_stays : (b : Body) → wakes_by b Called ≡ false
called_stays (Show v) = refl
called_stays (Decide t v commit) = refl
called_stays _ = refl

-- one kept letter, by whether it is woken
one_woken : (t : TreeNo) (k : SubNo) (x : KeptLetter) (test : Bool) (why : KeepReason) → x.why ≡ why → (is_called why ≡ true → test ≡ false)
    → one_if (is_called_for t k (if test then record x { why = Called } else x))
    ≡ one_if (is_called_for t k x) + (if test then one_if ((x.tree.0 == t.0) && (x.sub.0 == k.0)) else 0)
one_woken t k x false why is stays = omega arith
one_woken t k x true Called is stays = absurd (let no : true ≡ false = stays refl in cc no)
one_woken t k x true ForShow is stays = rw is (omega arith)
one_woken t k x true (ForHolder h) is stays = rw is (omega arith)

uncalled : (c : Core) (b : Body) (why : KeepReason) → is_called why ≡ true → woken_by c b why ≡ false
uncalled c (Order e what v) Called is =
    let none : wakes_by (plain_order what v) Called ≡ false = called_stays (plain_order what v) in
    by (is_obeyed_now e what v c) (wakes_by (plain_order what v) Called) none where
      by : (a b : Bool) → b ≡ false → (a && b) ≡ false
      by a b none = grind arith
uncalled c (Show v) Called is = refl
uncalled c (Decide t v commit) Called is = refl
uncalled c Go Called is = refl
uncalled c _ Called is = refl
uncalled c b ForShow is = absurd (cc is)
uncalled c b (ForHolder h) is = absurd (cc is)

wakes_at : (t : TreeNo) (k : SubNo) (f : KeepReason → Bool) (x : KeptLetter) (xs : List KeptLetter) (test : Bool) → f x.why ≡ test
    → (is_called x.why ≡ true → test ≡ false)
    → calls t k (with_called f xs) ≡ calls t k xs + tally (on (is_wake_of t k)) (wakes f xs)
    → calls t k (with_called f (x ∷ xs)) ≡ calls t k (x ∷ xs) + tally (on (is_wake_of t k)) (wakes f (x ∷ xs))
wakes_at t k f x xs true is stays rest = rw is (omega (arith, rest, one_woken t k x true x.why refl stays))
wakes_at t k f x xs false is stays rest = rw is (omega (arith, rest))

-- a letter that wakes others sends a Wake for each
pub wakes_call : (t : TreeNo) (k : SubNo) (c : Core) (b : Body) (xs : List KeptLetter)
    → calls t k (with_called (woken_by c b) xs) ≡ calls t k xs + tally (on (is_wake_of t k)) (wakes (woken_by c b) xs)
wakes_call t k c b [] = refl
wakes_call t k c b (x ∷ xs) =
    wakes_at t k (woken_by c b) x xs (woken_by c b x.why) refl (uncalled c b x.why) (wakes_call t k c b xs)

-- what a Wake brings is called no more
brought_at : (t : TreeNo) (k : SubNo) (u : TreeNo) (j : SubNo) (x : KeptLetter) (xs : List KeptLetter) (r : Letter) (test : Bool)
    → is_called_for t k x ≡ test
    → (first_called t k xs ≡ Some r → calls u j (without_called t k xs) + one_if ((t.0 == u.0) && (k.0 == j.0)) ≡ calls u j xs)
    → first_called t k (x ∷ xs) ≡ Some r
    → calls u j (without_called t k (x ∷ xs)) + one_if ((t.0 == u.0) && (k.0 == j.0)) ≡ calls u j (x ∷ xs)
brought_at t k u j x xs r true is rest at =
    let same : one_if (is_called_for u j x) ≡ one_if ((t.0 == u.0) && (k.0 == j.0)) =
    same_for (is_called x.why) x.tree.0 x.sub.0 t.0 k.0 u.0 j.0 is in
    rw is (omega (arith, same)) where
      same_for : (b : Bool) (a c m n v w : ℕ) → (b && ((a == m) && (c == n))) ≡ true
          → one_if (b && ((a == v) && (c == w))) ≡ one_if ((m == v) && (n == w))
      same_for b a c m n v w both = grind (arith, nat_tests)
brought_at t k u j x xs r false is rest at = rw is (omega (arith, rest (rw is at at)))

called_less : (t : TreeNo) (k : SubNo) (u : TreeNo) (j : SubNo) (xs : List KeptLetter) (r : Letter) → first_called t k xs ≡ Some r
    → calls u j (without_called t k xs) + one_if ((t.0 == u.0) && (k.0 == j.0)) ≡ calls u j xs
called_less t k u j [] r at = absurd (cc at)
called_less t k u j (x ∷ xs) r at =
    brought_at t k u j x xs r (is_called_for t k x) refl (called_less t k u j xs r) at

pub brought_calls : (u : TreeNo) (j : SubNo) (kept : List KeptLetter) (l r : Letter) (b : Body) → brought kept l b ≡ Some r
    → calls u j (kept_without kept b) + is_wake_of u j b ≡ calls u j kept
brought_calls u j kept l r (Wake t k) at = called_less t k u j kept r at
brought_calls u j kept l r _ at = omega arith

-- so a node's step keeps them as many as the Wakes in flight: a letter that is done
pub done_calls : (u : TreeNo) (j : SubNo) (s : ScriptData) (p : ℕ) (l r : Letter) (n : KeepingNode) → brought n.kept l l.body ≡ Some r
    → calls u j (kept_row s p l r n None).state.kept + is_wake_of u j l.body
    ≡ calls u j n.kept + tally (on (is_wake_of u j)) (wakes (woken_by n.core r.body) (kept_without n.kept l.body))
done_calls u j s p l r n at =
    omega (arith, wakes_call u j n.core r.body (kept_without n.kept l.body), brought_calls u j n.kept l r l.body at)

-- and a letter that is kept, for another reason than that it is called
pub kept_calls : (u : TreeNo) (j : SubNo) (s : ScriptData) (p : ℕ) (l r : Letter) (n : KeepingNode) (k : CoreKeeping) → is_called k.why ≡ false
    → brought n.kept l l.body ≡ Some r
    → calls u j (kept_row s p l r n (Some k)).state.kept + is_wake_of u j l.body ≡ calls u j n.kept
kept_calls u j s p l r n k why at =
    let one : is_called_for u j (record { letter = r; tree = k.tree; sub = k.sub; why = k.why }) ≡ false = rw why refl in
    omega (
      arith,
      brought_calls u j n.kept l r l.body at,
      tally-append (λ (x : KeptLetter). one_if (is_called_for u j x)) (kept_without n.kept l.body)
          (record { letter = r; tree = k.tree; sub = k.sub; why = k.why } ∷ []),
      ap one_if one,
    )
