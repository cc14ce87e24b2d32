-- Transactions as their subtransactions, in order: what they make is one fold over these, and who is ahead among
-- transactions is ahead among these.
use Rattle.std.proofs.Common.{◌≡◌, ◌≢◌, ◌⊎◌, inl, inr, ℕ, zero, suc, ◌+◌, ◌<◌, ◌≤◌, ◌==◌, ◌&&◌, Bool, true, false, List, [], ◌∷◌, ◌++◌, length, refl, ap, sym, subst, ◌∙◌, arith, Option, Some, None}
use Rattle.std.specs.Prelude.{◌||◌, fold, slice_get}
use Rattle.std.proofs.lemmas.Bool.Decides.{nat_tests}
use Rattle.std.proofs.lemmas.Bool.{and_from, cases_eq, eqb-true, false_from_ne_true, or_cases, or_left, or_parts, or_right}
use Rattle.std.proofs.lemmas.List.Sums.{fold-append}
use Rattle.tv_base.proofs.Truths.{left_true, right_true, same_test}
use Rattle.commute_ops.specs.declared.value.Value.{Value}
use Rattle.commute_ops.specs.Ops.{applied}
use Rattle.script_parts.specs.ScriptData.{ScriptData, ops_of, sub_at, subs_at}
use Rattle.script_parts.specs.Valid.{IsValid}
use Rattle.script_parts.specs.declared.parts.Sub.{Sub}
use Rattle.script_parts.specs.declared.parts.SubOp.{SubOp}
use Rattle.board_rules.specs.Histories.{is_strict_tree}
use Rattle.board_rules.specs.Serial.{is_in}
use Rattle.board_rules.specs.Worth.{after_ops, after_subs, after_tree, ops_change}
use Rattle.board_rules.proofs.AnyOrder.{OpsCommute, SubsCommute, after_ops_is, exchanged, ops_on, tree_commutes}
use Rattle.board_rules.proofs.Closings.{AreApart}
use Rattle.board_rules.proofs.Once.{AreOnce, ahead, ahead_append, ahead_later, clash, has, has_append, once_append, pairs_equal, same_number, same_pair}

-- the value of item x after subtransaction k of tree t, as a pair
abbrev pub after_sub : ScriptData → ℕ → Value → (ℕ × ℕ) → Value
after_sub s x w q = after_ops x (ops_of s q.0 q.1) w

-- the subtransaction changes item x
abbrev pub touches : ScriptData → ℕ → (ℕ × ℕ) → Bool
touches s x q = ops_change x (ops_of s q.0 q.1)

-- subtransactions that may not change places: one of the trees is strict
abbrev pub tied : ScriptData → (ℕ × ℕ) → (ℕ × ℕ) → Bool
tied s a b = is_strict_tree s a.0 || is_strict_tree s b.0

-- the subtransactions of tree t from number i on
abbrev pub numbered : ℕ → ℕ → List Sub → List (ℕ × ℕ)
numbered t i [] = []
numbered t i (k ∷ ks) = (t, i) ∷ numbered t (i + 1) ks

-- those of these trees, in order
abbrev pub trees_in : ScriptData → List ℕ → List (ℕ × ℕ)
trees_in s [] = []
trees_in s (t ∷ ts) = numbered t 0 (subs_at s t) ++ trees_in s ts

pub found_ops : (s : ScriptData) (t i : ℕ) (k : Sub) → sub_at s t i ≡ Some k → ops_of s t i ≡ k.ops
found_ops s t i k is = rw (is, ops_of) refl

subs_folded : (s : ScriptData) (x t i : ℕ) (ks : List Sub) (w : Value) → ((n : ℕ) → sub_at s t (i + n) ≡ slice_get ks n)
    → after_subs x ks w ≡ fold (after_sub s x) w (numbered t i ks)
subs_folded s x t i [] w same = refl
subs_folded s x t i (k ∷ ks) w same =
    let first : i + 0 ≡ i = omega arith in
    let here : sub_at s t i ≡ Some k = ap (sub_at s t) (sym first) ∙ same 0 in
    let ops : k.ops ≡ ops_of s t i = sym (found_ops s t i k here) in
    ap (λ (os : List SubOp). after_subs x ks (after_ops x os w)) ops
    ∙ subs_folded s x t (i + 1) ks (after_ops x (ops_of s t i) w)
    (λ n. let next : i + 1 + n ≡ i + suc n = omega arith in ap (sub_at s t) next ∙ same (suc n))

pub tree_folded : (s : ScriptData) (x t : ℕ) (w : Value)
    → after_subs x (subs_at s t) w ≡ fold (after_sub s x) w (numbered t 0 (subs_at s t))
tree_folded s x t w = subs_folded s x t 0 (subs_at s t) w (λ n. let same : 0 + n ≡ n = omega arith in ap (sub_at s t) same)

pub trees_folded : (s : ScriptData) (x : ℕ) (ts : List ℕ) (w : Value) → fold (after_tree s x) w ts ≡ fold (after_sub s x) w (trees_in s ts)
trees_folded s x [] w = refl
trees_folded s x (t ∷ ts) w =
    trees_folded s x ts (after_tree s x w t)
    ∙ ap (λ (u : Value). fold (after_sub s x) u (trees_in s ts))
    (tree_folded s x t w)
    ∙ sym (fold-append (after_sub s x) w (numbered t 0 (subs_at s t)) (trees_in s ts))

-- Two that are not tied may change places.
sub_commutes : (ks : List Sub) (k : ℕ) → SubsCommute ks → (found : Option Sub) → slice_get ks k ≡ found
    → OpsCommute (elim found [ Some sub ↦ sub.ops | None ↦ [] ])
sub_commutes ks k all None is = tt
sub_commutes [] k all (Some sub) is = absurd (cc is)
sub_commutes (y ∷ ks) zero all (Some sub) is =
    let same : y ≡ sub = cc is in subst (λ (z : Sub). OpsCommute z.ops) same all.0
sub_commutes (y ∷ ks) (suc k) all (Some sub) is = sub_commutes ks k all.1 (Some sub) is

pub ops_commute_at : (s : ScriptData) (t k : ℕ) → IsValid s → is_strict_tree s t ≡ false → OpsCommute (ops_of s t k)
ops_commute_at s t k valid commuting = sub_commutes (subs_at s t) k (tree_commutes s t valid commuting) (sub_at s t k) refl

pub subs_exchanged : (s : ScriptData) (x : ℕ) → IsValid s → (w : Value) (a b : ℕ × ℕ) → tied s b a ≡ false
    → after_sub s x (after_sub s x w a) b ≡ after_sub s x (after_sub s x w b) a
subs_exchanged s x valid w a b free =
    let kinds = or_parts (is_strict_tree s b.0) (is_strict_tree s a.0) free in
    let os : List SubOp = ops_of s a.0 a.1 in
    let us : List SubOp = ops_of s b.0 b.1 in
    let p = ops_on x os in
    let q = ops_on x us in
    let one = ops_commute_at s a.0 a.1 valid kinds.1 in
    let two = ops_commute_at s b.0 b.1 valid kinds.0 in
    after_ops_is x us (after_ops x os w) two
    ∙ ap (λ (z : Value). fold applied z q) (after_ops_is x os w one)
    ∙ exchanged p q w
    ∙ sym (ap (λ (z : Value). fold applied z p) (after_ops_is x us w two))
    ∙ sym (after_ops_is x os (after_ops x us w) one)

-- Which subtransactions are there, and in which order.
numbered_has : (t j i : ℕ) (ks : List Sub) → i ≤ j → j < i + length ks → has same_pair (t, j) (numbered t i ks) ≡ true
numbered_has t j i [] le lt = absurd (omega (arith, le, lt))
numbered_has t j i (k ∷ ks) le lt = by (λ more. numbered_has t j (i + 1) ks more (omega (arith, lt))) (cases_eq i j) where
  by : (i + 1 ≤ j → has same_pair (t, j) (numbered t (i + 1) ks) ≡ true) → (i ≡ j) ⊎ (i ≢ j)
      → (((t == t) && (i == j)) || has same_pair (t, j) (numbered t (i + 1) ks)) ≡ true
  by rest (inl e) =
      let same : (i == j) ≡ true = grind (arith, nat_tests) in
      or_left ((t == t) && (i == j)) (has same_pair (t, j) (numbered t (i + 1) ks)) (and_from (t == t) (i == j) (same_test t) same)
  by rest (inr ne) =
      let more : i + 1 ≤ j = grind arith in
      or_right ((t == t) && (i == j)) (has same_pair (t, j) (numbered t (i + 1) ks)) (rest more)

pub tree_has : (s : ScriptData) (t j : ℕ) → j < length (subs_at s t) → has same_pair (t, j) (numbered t 0 (subs_at s t)) ≡ true
tree_has s t j lt = numbered_has t j 0 (subs_at s t) (omega arith) (omega (arith, lt))

pub record InNumbered (q : ℕ × ℕ) (t i n : ℕ) : Type 0 where
  pub tree : q.0 ≡ t
  pub from : i ≤ q.1
  pub below : q.1 < i + n

pub numbered_in : (q : ℕ × ℕ) (t i : ℕ) (ks : List Sub) → has same_pair q (numbered t i ks) ≡ true → InNumbered q t i (length ks)
numbered_in q t i [] is = absurd (cc is)
numbered_in q t i (k ∷ ks) is = by (numbered_in q t (i + 1) ks) (or_cases ((t == q.0) && (i == q.1)) (has same_pair q (numbered t (i + 1) ks)) is) where
  by : (has same_pair q (numbered t (i + 1) ks) ≡ true → InNumbered q t (i + 1) (length ks))
      → (((t == q.0) && (i == q.1)) ≡ true) ⊎ (has same_pair q (numbered t (i + 1) ks) ≡ true) → InNumbered q t i (suc (length ks))
  by rest (inl here) =
      let one : t ≡ q.0 = eqb-true t q.0 (left_true (t == q.0) (i == q.1) here) in
      let two : i ≡ q.1 = eqb-true i q.1 (right_true (t == q.0) (i == q.1) here) in
      record { tree = sym one; from = omega (arith, two); below = omega (arith, two) }
  by rest (inr later) =
      let h = rest later in record { tree = h.tree; from = omega (arith, h.from); below = omega (arith, h.below) }

pub numbered_once : (t i : ℕ) (ks : List Sub) → AreOnce same_pair (numbered t i ks)
numbered_once t i [] = tt
numbered_once t i (k ∷ ks) = (
  false_from_ne_true (has same_pair (t, i) (numbered t (i + 1) ks)) (λ is.
      let h = numbered_in (t, i) t (i + 1) ks is in absurd (omega (arith, h.from))),
  numbered_once t (i + 1) ks,
)

pub trees_has : (s : ScriptData) (q : ℕ × ℕ) (ts : List ℕ) → has same_pair q (trees_in s ts) ≡ true
    → (is_in q.0 ts ≡ true) × (q.1 < length (subs_at s q.0))
trees_has s q [] is = absurd (cc is)
trees_has s q (t ∷ ts) is =
    by (trees_has s q ts)
    (or_cases (has same_pair q (numbered t 0 (subs_at s t))) (has same_pair q (trees_in s ts))
    (sym (has_append same_pair pairs_equal q (numbered t 0 (subs_at s t)) (trees_in s ts)) ∙ is)) where
      by : (has same_pair q (trees_in s ts) ≡ true → (is_in q.0 ts ≡ true) × (q.1 < length (subs_at s q.0)))
          → (has same_pair q (numbered t 0 (subs_at s t)) ≡ true) ⊎ (has same_pair q (trees_in s ts) ≡ true)
          → (is_in q.0 (t ∷ ts) ≡ true) × (q.1 < length (subs_at s q.0))
      by rest (inl here) =
          let h = numbered_in q t 0 (subs_at s t) here in
          let same : (t == q.0) ≡ true = ap (λ u. t == u) h.tree ∙ same_test t in
          let long : length (subs_at s q.0) ≡ length (subs_at s t) = ap (λ u. length (subs_at s u)) h.tree in
          (or_left (t == q.0) (is_in q.0 ts) same, omega (arith, h.below, long))
      by rest (inr later) = let h = rest later in (or_right (t == q.0) (is_in q.0 ts) h.0, h.1)

pub has_trees : (s : ScriptData) (t j : ℕ) (ts : List ℕ) → is_in t ts ≡ true → j < length (subs_at s t)
    → has same_pair (t, j) (trees_in s ts) ≡ true
has_trees s t j [] is lt = absurd (cc is)
has_trees s t j (u ∷ ts) is lt =
    has_append same_pair pairs_equal (t, j) (numbered u 0 (subs_at s u)) (trees_in s ts)
    ∙ by (λ later. has_trees s t j ts later lt) (or_cases (u == t) (is_in t ts) is) where
      by : (is_in t ts ≡ true → has same_pair (t, j) (trees_in s ts) ≡ true) → ((u == t) ≡ true) ⊎ (is_in t ts ≡ true)
          → (has same_pair (t, j) (numbered u 0 (subs_at s u)) || has same_pair (t, j) (trees_in s ts)) ≡ true
      by rest (inl here) =
          let same : t ≡ u = sym (eqb-true u t here) in
          or_left (has same_pair (t, j) (numbered u 0 (subs_at s u))) (has same_pair (t, j) (trees_in s ts))
          (subst (λ z. has same_pair (t, j) (numbered z 0 (subs_at s z)) ≡ true) same (tree_has s t j lt))
      by rest (inr later) =
          or_right (has same_pair (t, j) (numbered u 0 (subs_at s u))) (has same_pair (t, j) (trees_in s ts)) (rest later)

pub trees_once : (s : ScriptData) (ts : List ℕ) → AreApart ts → AreOnce same_pair (trees_in s ts)
trees_once s [] apart = tt
trees_once s (t ∷ ts) apart =
    once_append same_pair pairs_equal (numbered t 0 (subs_at s t)) (trees_in s ts) (numbered_once t 0 (subs_at s t)) (trees_once s ts apart.1)
    (λ q here. false_from_ne_true (has same_pair q (trees_in s ts)) (λ there.
    let h = numbered_in q t 0 (subs_at s t) here in
    clash (is_in t ts) (sym (ap (λ u. is_in u ts) h.tree) ∙ (trees_has s q ts there).0) apart.0))

pub trees_ahead : (s : ScriptData) (t j k i : ℕ) (ts : List ℕ) → ahead same_number t k ts ≡ true → j < length (subs_at s t) → i < length (subs_at s k)
    → ahead same_pair (t, j) (k, i) (trees_in s ts) ≡ true
trees_ahead s t j k i [] is one two = absurd (cc is)
trees_ahead s t j k i (u ∷ ts) is one two =
    by (λ later. trees_ahead s t j k i ts later one two) (or_cases ((u == t) && is_in k ts) (ahead same_number t k ts) is) where
      by : (ahead same_number t k ts ≡ true → ahead same_pair (t, j) (k, i) (trees_in s ts) ≡ true)
          → (((u == t) && is_in k ts) ≡ true) ⊎ (ahead same_number t k ts ≡ true)
          → ahead same_pair (t, j) (k, i) (numbered u 0 (subs_at s u) ++ trees_in s ts) ≡ true
      by rest (inl here) =
          let same : t ≡ u = sym (eqb-true u t (left_true (u == t) (is_in k ts) here)) in
          ahead_append same_pair pairs_equal (t, j) (k, i) (numbered u 0 (subs_at s u)) (trees_in s ts)
          (subst (λ z. has same_pair (t, j) (numbered z 0 (subs_at s z)) ≡ true) same (tree_has s t j one))
          (has_trees s k i ts (right_true (u == t) (is_in k ts) here) two)
      by rest (inr later) =
          ahead_later same_pair pairs_equal (t, j) (k, i) (numbered u 0 (subs_at s u)) (trees_in s ts) (rest later)
