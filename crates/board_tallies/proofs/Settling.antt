-- The gates of rows, row by row.
use Rattle.std.proofs.Common.{◌≡◌, ◌⊎◌, inl, inr, ℕ, ◌+◌, ◌<◌, ◌≤◌, Bool, true, false, List, [], ◌∷◌, ◌++◌, length, refl, sym, ap, subst, ◌∙◌, arith, Some, take}
use Rattle.std.specs.Prelude.{slice_get}
use Rattle.std.proofs.lemmas.List.{length-append, take-append-le, take_all}
use Rattle.std.proofs.lemmas.Option.{slice_get_within}
use Rattle.tv_base.proofs.ByPlace.{slice_get_last, slice_get_left, slice_get_split}
use Rattle.script_parts.specs.declared.parts.ScriptRow.{ScriptRow}
use Rattle.board_tallies.specs.GateRows.{AreGatesFor, gate_behind, rows_passing}
use Rattle.board_tallies.specs.declared.gates.RowGate.{RowGate}
use Rattle.board_tallies.proofs.Marks.{one_when}

-- how many rows pass a test, with one more
passing_more : (test : ScriptRow → Bool) (rs : List ScriptRow) (r : ScriptRow) (b : Bool) → test r ≡ b
    → rows_passing test (rs ++ r ∷ []) ≡ rows_passing test rs + one_when b
passing_more test [] r b is = let same : one_when (test r) ≡ one_when b = ap one_when is in omega (arith, same)
passing_more test (x ∷ rs) r b is = let rest = passing_more test rs r b is in omega (arith, rest)

take_front : (rs : List ScriptRow) (r : ScriptRow) (i : ℕ) → i ≤ length rs → take i (rs ++ r ∷ []) ≡ take i rs
take_front rs r i le = take-append-le i rs (r ∷ []) le

front_there : (test : ScriptRow → Bool) (rs : List ScriptRow) (gates : List RowGate) (r : ScriptRow) (i : ℕ) (x : ScriptRow)
    → AreGatesFor test rs gates → slice_get rs i ≡ Some x → test x ≡ true
    → slice_get gates (rows_passing test (take i (rs ++ r ∷ []))) ≡ Some (gate_behind (take i (rs ++ r ∷ [])))
front_there test rs gates r i x are at is =
    let same = take_front rs r i (let lt = slice_get_within rs i x at in omega (arith, lt)) in
    subst (λ (front : List ScriptRow). slice_get gates (rows_passing test front) ≡ Some (gate_behind front)) (sym same)
    (are.there i x at is)

front_each : (test : ScriptRow → Bool) (rs : List ScriptRow) (gates : List RowGate) (r : ScriptRow) (k : ℕ) (gate : RowGate)
    → AreGatesFor test rs gates → slice_get gates k ≡ Some gate
    → (i : ℕ) × (x : ScriptRow) × (slice_get (rs ++ r ∷ []) i ≡ Some x) × (test x ≡ true)
    × (rows_passing test (take i (rs ++ r ∷ [])) ≡ k)
front_each test rs gates r k gate are here =
    let (i, x, at, is, number) = are.each k gate here in
    let same = take_front rs r i (let lt = slice_get_within rs i x at in omega (arith, lt)) in
    (i, x, slice_get_left rs (r ∷ []) i x at, is, ap (rows_passing test) same ∙ number)

-- a row that doesn't pass the test
pub gates_skip : (test : ScriptRow → Bool) (rs : List ScriptRow) (gates : List RowGate) (r : ScriptRow) → test r ≡ false
    → AreGatesFor test rs gates → AreGatesFor test (rs ++ r ∷ []) gates
gates_skip test rs gates r is are = record {
  there = λ i x at passes. there i x passes (slice_get_split rs r i x at);
  many = are.many ∙ (let more = passing_more test rs r false is in omega (arith, more));
  each = λ k gate here. front_each test rs gates r k gate are here;
} where
  there : (i : ℕ) (x : ScriptRow) → test x ≡ true
      → ((i < length rs) × (slice_get rs i ≡ Some x)) ⊎ ((i ≡ length rs) × (r ≡ x))
      → slice_get gates (rows_passing test (take i (rs ++ r ∷ []))) ≡ Some (gate_behind (take i (rs ++ r ∷ [])))
  there i x passes (inl front) = front_there test rs gates r i x are front.1 passes
  there i x passes (inr last) =
      absurd (let both : true ≡ false = sym passes ∙ ap test (sym last.1) ∙ is in cc both)

-- and one that does
pub gates_push : (test : ScriptRow → Bool) (rs : List ScriptRow) (gates : List RowGate) (r : ScriptRow) (gate : RowGate) → test r ≡ true
    → gate ≡ gate_behind rs → AreGatesFor test rs gates → AreGatesFor test (rs ++ r ∷ []) (gates ++ gate ∷ [])
gates_push test rs gates r gate is behind are = record {
  there = λ i x at passes. there i x passes (slice_get_split rs r i x at);
  many = (let more = passing_more test rs r true is in
      let len = length-append gates (gate ∷ []) in omega (arith, more, len, are.many));
  each = λ k one here. each k one (slice_get_split gates gate k one here);
} where
  all : take (length rs) (rs ++ r ∷ []) ≡ rs
  all = take_front rs r (length rs) (omega arith) ∙ take_all (length rs) rs (omega arith)

  there : (i : ℕ) (x : ScriptRow) → test x ≡ true
      → ((i < length rs) × (slice_get rs i ≡ Some x)) ⊎ ((i ≡ length rs) × (r ≡ x))
      → slice_get (gates ++ gate ∷ []) (rows_passing test (take i (rs ++ r ∷ []))) ≡ Some (gate_behind (take i (rs ++ r ∷ [])))
  there i x passes (inl front) =
      slice_get_left gates (gate ∷ []) (rows_passing test (take i (rs ++ r ∷ []))) (gate_behind (take i (rs ++ r ∷ [])))
      (front_there test rs gates r i x are front.1 passes)
  there i x passes (inr last) =
      let front : take i (rs ++ r ∷ []) ≡ rs = ap (λ (j : ℕ). take j (rs ++ r ∷ [])) last.0 ∙ all in
      let place : rows_passing test (take i (rs ++ r ∷ [])) ≡ length gates = ap (rows_passing test) front ∙ sym are.many in
      ap (slice_get (gates ++ gate ∷ [])) place ∙ slice_get_last gates gate
      ∙ ap (λ (one : RowGate). Some one) (behind ∙ ap gate_behind (sym front))

  each : (k : ℕ) (one : RowGate) → ((k < length gates) × (slice_get gates k ≡ Some one)) ⊎ ((k ≡ length gates) × (gate ≡ one))
      → (i : ℕ) × (x : ScriptRow) × (slice_get (rs ++ r ∷ []) i ≡ Some x) × (test x ≡ true)
      × (rows_passing test (take i (rs ++ r ∷ [])) ≡ k)
  each k one (inl front) = front_each test rs gates r k one are front.1
  each k one (inr last) =
      (length rs, r, slice_get_last rs r, is, ap (rows_passing test) all ∙ sym are.many ∙ sym last.0)

-- no rows
pub gates_none : (test : ScriptRow → Bool) → AreGatesFor test [] []
gates_none test = record {
  there = λ i r at is. absurd (cc at);
  many = refl;
  each = λ k gate here. absurd (cc here);
}
