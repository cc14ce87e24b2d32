-- A compensated transaction is a transaction again: parents come before their children, and each operation fits.
use Rattle.std.proofs.Common.{◌≡◌, ◌+◌, ◌-◌, ◌<◌, ◌≤◌, ◌==◌, ◌&&◌, ◌||◌, ℕ, zero, suc, Bool, true, false, not, List, [], ◌∷◌, ◌++◌, length, map, get_or, refl, sym, ap, ◌∙◌, subst, arith, inl, inr, length-append}
use Rattle.std.specs.Prelude.{if◌then◌else◌, IsTrue, Option, Some, None, nat_le, slice_get, ℤ, pos, ◌-ℤ◌, unsigned_abs}
use Rattle.std.specs.List.{AllByRecursion}
use Rattle.std.proofs.Math.ListN.{get_or-append}
use Rattle.std.proofs.Math.Seq.{get_or-append_seam}
use Rattle.std.proofs.lemmas.Bool.{cases_eq, cases_lt}
use Rattle.std.proofs.lemmas.Bool.Decides.{nat_tests}
use Rattle.std.proofs.lemmas.Int.{ints}
use Rattle.std.proofs.lemmas.List.{length-map}
use Rattle.std.proofs.lemmas.List.Sums.{count_by_more_no, count_by_more_yes}
use Rattle.commute_ops.specs.declared.kinds.Kind.{Kind}
use Rattle.commute_ops.specs.declared.kinds.Kind.TheVariants as kinds
use Rattle.commute_ops.specs.declared.kinds.Op.TheVariants as ops
use Rattle.commute_ops.specs.declared.kinds.TheConstants.{MOST_AMOUNT}
use Rattle.script_parts.specs.Ranges.{is_in_range}
use Rattle.script_parts.specs.Valid.{AreSubs, IsOp, IsSub, OpAt, deed_fits}
use Rattle.script_parts.specs.declared.parts.Deed.{Deed}
use Rattle.script_parts.specs.declared.parts.Deed.TheVariants as deeds
use Rattle.script_parts.specs.declared.parts.Form.TheVariants as forms
use Rattle.script_parts.specs.declared.parts.ItemRow.{ItemRow}
use Rattle.script_parts.specs.declared.parts.Sub.{Sub}
use Rattle.script_parts.specs.declared.parts.SubOp.{SubOp}
use Rattle.script_parts.specs.declared.parts.TreeKind.TheVariants as trees
use Rattle.script_parts.specs.Undone.{each_from, goes_from, goes_next, inverse, is_undone_sub, negated, negated_deed, new_number, staying, stays, undoes, undone}

-- marks

-- as many marks as subtransactions
pub marks_len : (failed : ℕ) (goes : List Bool) (xs : List Sub) → length (goes_from failed goes xs) ≡ length goes + length xs
marks_len failed goes [] = omega arith
marks_len failed goes (x ∷ xs) = omega (arith, marks_len failed (goes ++ goes_next failed goes x ∷ []) xs, length-append goes (goes_next failed goes x ∷ []))

-- the marks that are known already stay
mark_stays : (failed : ℕ) (goes : List Bool) (xs : List Sub) (j : ℕ) → j < length goes → get_or (goes_from failed goes xs) j false ≡ get_or goes j false
mark_stays failed goes [] j lt = refl
mark_stays failed goes (x ∷ xs) j lt =
    let g = goes_next failed goes x in
    mark_stays failed (goes ++ g ∷ []) xs j (omega (arith, length-append goes (g ∷ []))) ∙ get_or-append goes (g ∷ []) false j lt

-- the next mark
mark_here : (failed : ℕ) (goes : List Bool) (x : Sub) (xs : List Sub) → get_or (goes_from failed goes (x ∷ xs)) (length goes) false ≡ goes_next failed goes x
mark_here failed goes x xs =
    let g = goes_next failed goes x in
    mark_stays failed (goes ++ g ∷ []) xs (length goes) (omega (arith, length-append goes (g ∷ []))) ∙ get_or-append_seam goes g [] false

-- new numbers

number_more : (goes : List Bool) (k : ℕ) → k < length goes → get_or goes k false ≡ false → new_number goes (k + 1) ≡ new_number goes k + 1
number_more goes k lt e = count_by_more_yes not goes k false lt (ap not e)

number_same : (goes : List Bool) (k : ℕ) → k < length goes → get_or goes k false ≡ true → new_number goes (k + 1) ≡ new_number goes k
number_same goes k lt e = count_by_more_no not goes k false lt (ap not e)

number_step : (goes : List Bool) (k : ℕ) (g : Bool) → k < length goes → get_or goes k false ≡ g → new_number goes k ≤ new_number goes (k + 1)
number_step goes k true lt e = omega (arith, number_same goes k lt e)
number_step goes k false lt e = omega (arith, number_more goes k lt e)

number_far : (goes : List Bool) (k d : ℕ) → k + d ≤ length goes → new_number goes k ≤ new_number goes (k + d)
number_far goes k zero le = let same : k + 0 ≡ k = omega arith in rw same (omega arith)
number_far goes k (suc d) le =
    let same : k + suc d ≡ k + d + 1 = omega arith in
    rw same (omega (arith, number_far goes k d (omega arith), number_step goes (k + d) (get_or goes (k + d) false) (omega arith) refl))

-- one that stays has a smaller new number than one after it
number_less : (goes : List Bool) (p k : ℕ) → p < k → k ≤ length goes → get_or goes p false ≡ false → new_number goes p < new_number goes k
number_less goes p k lt le e =
    let far : (d : ℕ) → p + 1 + d ≡ k → new_number goes (p + 1) ≤ new_number goes k = λ d is. subst (λ (j : ℕ). new_number goes (p + 1) ≤ new_number goes j) is (number_far goes (p + 1) d (omega arith)) in
    omega (arith, number_more goes p (omega arith) e, far (k - (p + 1)) (omega arith))

number_first : (goes : List Bool) → new_number goes 0 ≡ 0
number_first goes = refl

-- operations

-- the other sign changes nothing of where an operation fits
fits_negated : (kind : Kind) (d : Deed) → deed_fits trees.Update kind (negated_deed d) ≡ deed_fits trees.Update kind d
fits_negated kinds.Sum (deeds.Apply (ops.Add a)) = refl
fits_negated kinds.Top (deeds.Apply (ops.Add a)) = refl
fits_negated kinds.Bag (deeds.Apply (ops.Add a)) = refl
fits_negated kinds.Sum (deeds.Apply (ops.Top a)) = refl
fits_negated kinds.Top (deeds.Apply (ops.Top a)) = refl
fits_negated kinds.Bag (deeds.Apply (ops.Top a)) = refl
fits_negated kinds.Sum (deeds.Apply (ops.Put a)) = refl
fits_negated kinds.Top (deeds.Apply (ops.Put a)) = refl
fits_negated kinds.Bag (deeds.Apply (ops.Put a)) = refl
fits_negated kind deeds.Get = refl
fits_negated kind (deeds.Set a) = refl
fits_negated kind (deeds.Draw a) = refl

op_at_negated : (node : ℕ) (o : SubOp) (found : Option ItemRow) → OpAt trees.Update node o found → OpAt trees.Update node (negated o) found
op_at_negated node o None h = h
op_at_negated node o (Some row) h = (h.0, fits_negated row.kind o.deed ∙ h.1)

ops_negated : (items : List ItemRow) (node : ℕ) (os : List SubOp) → AllByRecursion (IsOp items trees.Update node) os → AllByRecursion (IsOp items trees.Update node) (map negated os)
ops_negated items node [] h = tt
ops_negated items node (o ∷ os) h = (op_at_negated node o (slice_get items o.item.0) h.0, ops_negated items node os h.1)

-- nor of how great it is
size_negated : (a : ℤ) → unsigned_abs (pos 0 -ℤ a) ≡ unsigned_abs a
size_negated a = omega (arith, ints)

in_range : (m n : ℕ) → m ≡ n → (nat_le n MOST_AMOUNT && true) ≡ true → (nat_le m MOST_AMOUNT && true) ≡ true
in_range m n same e = subst (λ (k : ℕ). (nat_le k MOST_AMOUNT && true) ≡ true) (sym same) e

range_negated : (d : Deed) → is_in_range forms.Two d ≡ true → is_in_range forms.Two (negated_deed d) ≡ true
range_negated (deeds.Apply (ops.Add a)) e = in_range (unsigned_abs (pos 0 -ℤ a)) (unsigned_abs a) (size_negated a) e
range_negated (deeds.Apply (ops.Top a)) e = e
range_negated (deeds.Apply (ops.Put a)) e = e
range_negated deeds.Get e = e
range_negated (deeds.Set a) e = e
range_negated (deeds.Draw a) e = e

abbrev InRange : SubOp → Type 0
InRange o = IsTrue (is_in_range forms.Two o.deed)

amounts_negated : (os : List SubOp) → AllByRecursion InRange os → AllByRecursion InRange (map negated os)
amounts_negated [] h = tt
amounts_negated (o ∷ os) h = (range_negated o.deed h.0, amounts_negated os h.1)

-- the failed one has none
few_left : (os : List SubOp) (f : Bool) → length os ≤ 16 → length (if f then [] else os) ≤ 16
few_left os true le = omega arith
few_left os false le = le

all_left : (P : SubOp → Type 0) (os : List SubOp) (f : Bool) → AllByRecursion P os → AllByRecursion P (if f then [] else os)
all_left P os true h = tt
all_left P os false h = h

-- subtransactions

abbrev AreAt : ℕ → List ItemRow → ℕ → List Sub → Type 0
AreAt nodes items k ss = AreSubs nodes items trees.Update k ss

are_both : (nodes : ℕ) (items : List ItemRow) (k m : ℕ) (xs ys : List Sub) → AreAt nodes items k xs → m ≡ k + length xs → AreAt nodes items m ys → AreAt nodes items k (xs ++ ys)
are_both nodes items k m [] ys h e t = let same : m ≡ k = omega arith in subst (λ (j : ℕ). AreAt nodes items j ys) same t
are_both nodes items k m (x ∷ xs) ys h e t = (h.0, are_both nodes items (k + 1) m xs ys h.1 (omega arith) t)

-- the parent of one that stays
parent_known : (failed : ℕ) (goes : List Bool) (x : Sub) → 0 < length goes → goes_next failed goes x ≡ false → get_or goes x.parent.0 false ≡ false
parent_known failed goes x some e = by (length goes) (x.parent.0 == failed) (get_or goes x.parent.0 false) some e
  where
    by : (n : ℕ) (p q : Bool) → 0 < n → (not (n == 0) && (p || q)) ≡ false → q ≡ false
    by n p q lt e = grind (arith, nat_tests)

module _ (nodes : ℕ) (items : List ItemRow) (failed : ℕ) (final : List Bool) where
  -- one that stays, at its new number
  stays_valid : (goes : List Bool) (x : Sub) (xs : List Sub) → final ≡ goes_from failed goes (x ∷ xs) → IsSub nodes items trees.Update (length goes) x → get_or final (length goes) false ≡ false
      → IsSub nodes items trees.Update (new_number final (length goes)) (staying failed final (length goes) x)
  stays_valid goes x xs is h here =
      let k = length goes in
      let len : length final ≡ k + suc (length xs) = ap length is ∙ marks_len failed goes (x ∷ xs) in
      let next : goes_next failed goes x ≡ false = sym (mark_here failed goes x xs) ∙ ap (λ (m : List Bool). get_or m k false) (sym is) ∙ here in
      let known : 0 < k → new_number final x.parent.0 < new_number final k = λ some.
      let early = h.parent some in
      let marked : get_or final x.parent.0 false ≡ false = ap (λ (m : List Bool). get_or m x.parent.0 false) is ∙ mark_stays failed goes (x ∷ xs) x.parent.0 early ∙ parent_known failed goes x some next in
      number_less final x.parent.0 k early (omega arith) marked in
      let first : k ≡ 0 → new_number final k ≡ 0 = λ e. ap (new_number final) e ∙ number_first final in
      record {
        root = λ none. elim (cases_eq k 0) [
          | inl e ↦ ap (new_number final) (h.root e) ∙ number_first final
          | inr ne ↦ absurd (omega (arith, known (omega arith)))
        ];
        parent = λ some. elim (cases_eq k 0) [
          | inl e ↦ absurd (omega (arith, first e))
          | inr ne ↦ known (omega arith)
        ];
        node = h.node;
        few = few_left x.ops (k == failed) h.few;
        ops = all_left (IsOp items trees.Update x.node.0) x.ops (k == failed) h.ops;
        amounts = all_left InRange x.ops (k == failed) h.amounts;
      }

  -- what is added for one
  abbrev Added : ℕ → Sub → List Sub → Type 0
  Added k x rest = AreAt nodes items (new_number final k) (stays failed final k x ++ rest)

  -- those that stay, from their first new number on
  staying_valid : (goes : List Bool) (ss : List Sub) → final ≡ goes_from failed goes ss → AreAt nodes items (length goes) ss → AreAt nodes items (new_number final (length goes)) (each_from (stays failed final) (length goes) ss)
  staying_valid goes [] is h = tt
  staying_valid goes (x ∷ xs) is h =
      let k = length goes in
      let g = goes_next failed goes x in
      let len : length final ≡ k + suc (length xs) = ap length is ∙ marks_len failed goes (x ∷ xs) in
      let longer : length (goes ++ g ∷ []) ≡ k + 1 = length-append goes (g ∷ []) in
      let later : AreAt nodes items (length (goes ++ g ∷ [])) xs = subst (λ (j : ℕ). AreAt nodes items j xs) (sym longer) h.1 in
      let rest : AreAt nodes items (new_number final (k + 1)) (each_from (stays failed final) (k + 1) xs) =
      subst (λ (j : ℕ). AreAt nodes items (new_number final j) (each_from (stays failed final) j xs)) longer (staying_valid (goes ++ g ∷ []) xs is later) in
      by (get_or final k false) refl rest (omega arith)
    where
      by : (b : Bool) → get_or final (length goes) false ≡ b → AreAt nodes items (new_number final (length goes + 1)) (each_from (stays failed final) (length goes + 1) xs) → length goes < length final
          → AreAt nodes items (new_number final (length goes)) ((if b then [] else staying failed final (length goes) x ∷ []) ++ each_from (stays failed final) (length goes + 1) xs)
      by true e rest lt = subst (λ (j : ℕ). AreAt nodes items j (each_from (stays failed final) (length goes + 1) xs)) (number_same final (length goes) lt e) rest
      by false e rest lt =
          (stays_valid goes x xs is h.0 e, subst (λ (j : ℕ). AreAt nodes items j (each_from (stays failed final) (length goes + 1) xs)) (number_more final (length goes) lt e) rest)

  -- how many stay
  staying_len : (k : ℕ) (ss : List Sub) → k + length ss ≤ length final → new_number final k + length (each_from (stays failed final) k ss) ≡ new_number final (k + length ss)
  staying_len k [] le = let same : k ≡ k + 0 = omega arith in omega (arith, ap (new_number final) same)
  staying_len k (x ∷ xs) le =
      let same : k + 1 + length xs ≡ k + length (x ∷ xs) = omega arith in
      let rest : new_number final (k + 1) + length (each_from (stays failed final) (k + 1) xs) ≡ new_number final (k + length (x ∷ xs)) = staying_len (k + 1) xs (omega arith) ∙ ap (new_number final) same in
      by (get_or final k false) refl rest (omega arith)
    where
      by : (b : Bool) → get_or final k false ≡ b → new_number final (k + 1) + length (each_from (stays failed final) (k + 1) xs) ≡ new_number final (k + length (x ∷ xs)) → k < length final
          → new_number final k + length ((if b then [] else staying failed final k x ∷ []) ++ each_from (stays failed final) (k + 1) xs) ≡ new_number final (k + length (x ∷ xs))
      by true e rest lt = omega (arith, rest, number_same final k lt e)
      by false e rest lt = omega (arith, rest, number_more final k lt e)

  -- what undoes one, after the failed one
  inverse_valid : (j k : ℕ) (x : Sub) → new_number final failed < j → IsSub nodes items trees.Update k x → IsSub nodes items trees.Update j (inverse failed final x)
  inverse_valid j k x early h = record {
    root = λ none. absurd (omega arith);
    parent = λ some. early;
    node = h.node;
    few = omega (arith, h.few, length-map x.ops negated);
    ops = ops_negated items x.node.0 x.ops h.ops;
    amounts = amounts_negated x.ops h.amounts;
  }

  -- what undoes one, if there is something to undo, and the others
  with_rest : (j k : ℕ) (x : Sub) (xs : List Sub) (b : Bool) → IsSub nodes items trees.Update j (inverse failed final x) → AreAt nodes items (j + 1) (each_from (undoes failed final) (k + 1) xs) → AreAt nodes items j (each_from (undoes failed final) (k + 1) xs)
      → AreAt nodes items j ((if b then inverse failed final x ∷ [] else []) ++ each_from (undoes failed final) (k + 1) xs)
  with_rest j k x xs true here behind at = (here, behind)
  with_rest j k x xs false here behind at = at

  -- what undoes all
  inverses_valid : (j k : ℕ) (ss : List Sub) → new_number final failed < j → AreAt nodes items k ss → AreAt nodes items j (each_from (undoes failed final) k ss)
  inverses_valid j k [] early h = tt
  inverses_valid j k (x ∷ xs) early h =
      with_rest j k x xs (is_undone_sub failed final k x) (inverse_valid j k x early h.0) (inverses_valid (j + 1) (k + 1) xs (omega (arith, early)) h.1) (inverses_valid j (k + 1) xs early h.1)

-- none up to the failed one goes
none_goes : (nodes : ℕ) (items : List ItemRow) (failed : ℕ) (goes : List Bool) (ss : List Sub) → AreAt nodes items (length goes) ss → ((j : ℕ) → j < length goes → j ≤ failed → get_or goes j false ≡ false)
    → (j : ℕ) → j ≤ failed → get_or (goes_from failed goes ss) j false ≡ false
none_goes nodes items failed goes [] h before j le = elim (cases_lt j (length goes)) [
  | inl lt ↦ before j lt le
  | inr over ↦ past goes j over
]
  where
    past : (bs : List Bool) (i : ℕ) → length bs ≤ i → get_or bs i false ≡ false
    past [] i le = refl
    past (b ∷ bs) zero le = absurd (omega arith)
    past (b ∷ bs) (suc i) le = past bs i (omega arith)
none_goes nodes items failed goes (x ∷ xs) h before j le =
    let g = goes_next failed goes x in
    let longer : length (goes ++ g ∷ []) ≡ length goes + 1 = length-append goes (g ∷ []) in
    none_goes nodes items failed (goes ++ g ∷ []) xs (subst (λ (i : ℕ). AreAt nodes items i xs) (sym longer) h.1) (more g refl) j le
  where
    stays_here : (n : ℕ) (p q : Bool) → (0 < n → (p ≡ false) × (q ≡ false)) → (not (n == 0) && (p || q)) ≡ false
    stays_here zero p q e = refl
    stays_here (suc n) p q e = let both = e (omega arith) in rw (both.0, both.1) (after_some n)
      where
        after_some : (m : ℕ) → (not (suc m == 0) && (false || false)) ≡ false
        after_some m = grind (arith, nat_tests)

    other : (a b : ℕ) → a < b → (a == b) ≡ false
    other a b lt = grind (arith, nat_tests)

    more : (g : Bool) → g ≡ goes_next failed goes x → (i : ℕ) → i < length (goes ++ g ∷ []) → i ≤ failed → get_or (goes ++ g ∷ []) i false ≡ false
    more g is i lt le = elim (cases_lt i (length goes)) [
      | inl below ↦ get_or-append goes (g ∷ []) false i below ∙ before i below le
      | inr over ↦
          let at : i ≡ length goes = omega (arith, length-append goes (g ∷ [])) in
          let none : goes_next failed goes x ≡ false =
          stays_here (length goes) (x.parent.0 == failed) (get_or goes x.parent.0 false) (λ some. (other x.parent.0 failed (omega (arith, h.0.parent some)), before x.parent.0 (h.0.parent some) (omega (arith, h.0.parent some)))) in
          ap (λ (n : ℕ). get_or (goes ++ g ∷ []) n false) at ∙ get_or-append_seam goes g [] false ∙ is ∙ none
    ]

module _ (nodes : ℕ) (items : List ItemRow) (subs : List Sub) (failed : ℕ) (lt : failed < length subs) (h : AreSubs nodes items trees.Update 0 subs) where
  -- the failed one stays, so one of those that stay has its new number
  failed_stays : new_number (goes_from failed [] subs) failed < length (each_from (stays failed (goes_from failed [] subs)) 0 subs)
  failed_stays =
      let final = goes_from failed [] subs in
      let len : length final ≡ length subs = omega (arith, marks_len failed [] subs) in
      let mark : get_or final failed false ≡ false = none_goes nodes items failed [] subs h (λ j below le. absurd (omega arith)) failed (omega arith) in
      let count : new_number final 0 + length (each_from (stays failed final) 0 subs) ≡ new_number final (0 + length subs) = staying_len nodes items failed final 0 subs (omega arith) in
      let whole : 0 + length subs ≡ length subs = omega arith in
      omega (arith, number_less final failed (length subs) lt (omega arith) mark, ap (new_number final) whole)

  -- an undone tree has a root
  pub undone_some : 0 < length (undone subs failed)
  undone_some =
      let final = goes_from failed [] subs in
      omega (arith, failed_stays, length-append (each_from (stays failed final) 0 subs) (each_from (undoes failed final) 0 subs))

  -- an undone tree is a tree
  pub undone_valid : AreSubs nodes items trees.Update 0 (undone subs failed)
  undone_valid =
      let final = goes_from failed [] subs in
      are_both nodes items 0 (length (each_from (stays failed final) 0 subs)) (each_from (stays failed final) 0 subs) (each_from (undoes failed final) 0 subs) (staying_valid nodes items failed final [] subs refl h) (omega arith)
      (inverses_valid nodes items failed final (length (each_from (stays failed final) 0 subs)) 0 subs failed_stays h)
