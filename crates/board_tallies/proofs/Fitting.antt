-- The tests by the tallies and the gates decide which acts keep to the script.
use Rattle.std.proofs.Common.{◌≡◌, ◌⊎◌, inl, inr, ℕ, zero, suc, ◌+◌, ◌-◌, ◌<◌, ◌≤◌, ◌==◌, Bool, true, false, List, [], ◌∷◌, length, refl, sym, ap, subst, ◌∙◌, arith, Option, Some, None, take}
use Rattle.std.specs.Prelude.{if◌then◌else◌, ◌&&◌, nat_le, not, slice_get}
use Rattle.std.specs.Bool.{Decides}
use Rattle.std.specs.List.{list_all, list_any}
use Rattle.std.proofs.lemmas.Bool.{cases_lt, eq-eqb, eqb-true, le-leb, leb-false, leb-true}
use Rattle.std.proofs.lemmas.Bool.Decides.{Decides-and, Decides-eqb, Decides-like}
use Rattle.tv_base.specs.declared.numbers.TreeNo.{TreeNo}
use Rattle.letter_types.specs.declared.acts.Act.{Act}
use Rattle.letter_types.specs.declared.acts.Act.TheVariants.{Born, Did, Turned, Showed, Swept, Finished, Waits, Parked, Voted, Freed, Decided, Applied}
use Rattle.script_parts.specs.Counts.{advances_in, is_advance}
use Rattle.script_parts.specs.ScriptData.{ScriptData}
use Rattle.script_parts.specs.Valid.{IsValid, NamesInOrder}
use Rattle.script_parts.specs.declared.parts.ScriptRow.{ScriptRow}
use Rattle.script_parts.specs.declared.parts.ScriptRow.TheVariants as rows
use Rattle.board_rules.specs.Gates.{IsBornByItsRow, IsEnd, IsOpen, IsTurnedByItsRow, KeepsToAt, awaited, before_settle, is_settle_row, was_swept}
use Rattle.board_rules.specs.Histories.{Place, is_whole_in}
use Rattle.board_rules.specs.Moves.{low_after, read_after, update_after}
use Rattle.board_rules.specs.Right.{has_finished}
use Rattle.board_tallies.specs.Board.{BoardData, IsBoardOf, numbers_at}
use Rattle.board_tallies.specs.GateRows.{AreGatesFor, AreGatesOf, GatesData, gate_behind, is_tree_row, rows_passing}
use Rattle.board_tallies.specs.inside.Keeping.{has_gone, is_open_gate, keeps_by, may_finish}
use Rattle.board_tallies.specs.declared.gates.RowGate.{RowGate}
use Rattle.board_tallies.specs.declared.numbers.Numbers.{Numbers}
use Rattle.board_tallies.proofs.Deciding.{not_flag}
use Rattle.board_tallies.proofs.Raising.{always, each_node}
use Rattle.board_tallies.proofs.Marks.{one_when}

-- How many rows ask for an advancement.
asked_is : (rs : List ScriptRow) → advances_in rs ≡ rows_passing is_advance rs
asked_is [] = refl
asked_is (r ∷ rs) = let rest = asked_is rs in omega (arith, rest)

-- Rows in front of others name trees in order.
names_front : (k n m : ℕ) (rs : List ScriptRow) → NamesInOrder k n rs
    → NamesInOrder k (k + rows_passing is_tree_row (take m rs)) (take m rs)
names_front k n zero [] names = omega arith
names_front k n (suc m) [] names = omega arith
names_front k n zero (r ∷ rs) names = omega arith
names_front k n (suc m) (rows.Tree t ∷ rs) names =
    let same : k + 1 + rows_passing is_tree_row (take m rs) ≡ k + (1 + rows_passing is_tree_row (take m rs)) = omega arith in
    (names.0, subst (λ (end : ℕ). NamesInOrder (k + 1) end (take m rs)) same (names_front (k + 1) n m rs names.1))
names_front k n (suc m) (rows.Advance ∷ rs) names =
    let same : k + rows_passing is_tree_row (take m rs) ≡ k + (0 + rows_passing is_tree_row (take m rs)) = omega arith in
    subst (λ (end : ℕ). NamesInOrder k end (take m rs)) same (names_front k n m rs names)
names_front k n (suc m) (rows.Settle ∷ rs) names =
    let same : k + rows_passing is_tree_row (take m rs) ≡ k + (0 + rows_passing is_tree_row (take m rs)) = omega arith in
    subst (λ (end : ℕ). NamesInOrder k end (take m rs)) same (names_front k n m rs names)
names_front k n (suc m) (rows.Lose ∷ rs) names =
    let same : k + rows_passing is_tree_row (take m rs) ≡ k + (0 + rows_passing is_tree_row (take m rs)) = omega arith in
    subst (λ (end : ℕ). NamesInOrder k end (take m rs)) same (names_front k n m rs names)

-- a tree row names the tree of its number among them
names_number : (k n i : ℕ) (t : TreeNo) (rs : List ScriptRow) → NamesInOrder k n rs → slice_get rs i ≡ Some (rows.Tree t)
    → t.0 ≡ k + rows_passing is_tree_row (take i rs)
names_number k n i t [] names at = absurd (cc at)
names_number k n zero t (rows.Tree u ∷ rs) names at =
    let same : u ≡ t = cc at in
    let number : u.0 ≡ t.0 = ap (λ (z : TreeNo). z.0) same in omega (arith, names.0, number)
names_number k n zero t (rows.Advance ∷ rs) names at = absurd (cc at)
names_number k n zero t (rows.Settle ∷ rs) names at = absurd (cc at)
names_number k n zero t (rows.Lose ∷ rs) names at = absurd (cc at)
names_number k n (suc i) t (rows.Tree u ∷ rs) names at =
    let rest = names_number (k + 1) n i t rs names.1 at in omega (arith, rest)
names_number k n (suc i) t (rows.Advance ∷ rs) names at = let rest = names_number k n i t rs names at in omega (arith, rest)
names_number k n (suc i) t (rows.Settle ∷ rs) names at = let rest = names_number k n i t rs names at in omega (arith, rest)
names_number k n (suc i) t (rows.Lose ∷ rs) names at = let rest = names_number k n i t rs names at in omega (arith, rest)

-- and each tree up to the last has its row
names_found : (k n t : ℕ) (rs : List ScriptRow) → NamesInOrder k n rs → k ≤ t → t < n
    → (i : ℕ) × (slice_get rs i ≡ Some (rows.Tree (record { 0 = t })))
names_found k n t [] names le lt = absurd (omega (arith, le, lt, names))
names_found k n t (rows.Tree u ∷ rs) names le lt =
    by (cases_lt k t) (λ later. names_found (k + 1) n t rs names.1 (omega (arith, later)) lt) where
      by : (k < t) ⊎ (t ≤ k) → (k < t → (i : ℕ) × (slice_get rs i ≡ Some (rows.Tree (record { 0 = t }))))
          → (i : ℕ) × (slice_get (rows.Tree u ∷ rs) i ≡ Some (rows.Tree (record { 0 = t })))
      by (inl later) rest = let (i, at) = rest later in (suc i, at)
      by (inr here) rest =
          let same : u.0 ≡ t = omega (arith, names.0, here, le) in
          (0, λ i. Some (rows.Tree (record { 0 = same i })))
names_found k n t (rows.Advance ∷ rs) names le lt = let (i, at) = names_found k n t rs names le lt in (suc i, at)
names_found k n t (rows.Settle ∷ rs) names le lt = let (i, at) = names_found k n t rs names le lt in (suc i, at)
names_found k n t (rows.Lose ∷ rs) names le lt = let (i, at) = names_found k n t rs names le lt in (suc i, at)

-- What stands before the last `settle` is in front.
settle_front : (rs : List ScriptRow) → (m : ℕ) × (before_settle rs ≡ take m rs)
settle_front [] = (0, refl)
settle_front (r ∷ rs) = by (list_any is_settle_row rs) refl (settle_front rs) where
  by : (b : Bool) → list_any is_settle_row rs ≡ b → (m : ℕ) × (before_settle rs ≡ take m rs)
      → (m : ℕ) × ((if list_any is_settle_row rs then r ∷ before_settle rs else []) ≡ take m (r ∷ rs))
  by true is rest =
      let (m, same) = rest in
      (suc m, ap (λ (b : Bool). if b then r ∷ before_settle rs else []) is ∙ ap (λ (front : List ScriptRow). r ∷ front) same)
  by false is rest = (0, ap (λ (b : Bool). if b then r ∷ before_settle rs else []) is)

front_of_front : (n m : ℕ) (rs : List ScriptRow) → (k : ℕ) × (take n (take m rs) ≡ take k rs)
front_of_front zero zero [] = (0, refl)
front_of_front zero (suc m) [] = (0, refl)
front_of_front (suc n) zero [] = (0, refl)
front_of_front (suc n) (suc m) [] = (0, refl)
front_of_front zero zero (r ∷ rs) = (0, refl)
front_of_front zero (suc m) (r ∷ rs) = (0, refl)
front_of_front (suc n) zero (r ∷ rs) = (0, refl)
front_of_front (suc n) (suc m) (r ∷ rs) =
    let (k, same) = front_of_front n m rs in (suc k, ap (λ (front : List ScriptRow). r ∷ front) same)

awaited_front : (s : ScriptData) (i : ℕ) → (m : ℕ) × (awaited s i ≡ take m s.rows)
awaited_front s i =
    let (n, first) = settle_front (take i s.rows) in
    let (m, next) = front_of_front n i s.rows in
    (m, first ∙ next)

awaited_names : (s : ScriptData) (i : ℕ) → IsValid s
    → NamesInOrder 0 (0 + rows_passing is_tree_row (awaited s i)) (awaited s i)
awaited_names s i valid =
    let (m, same) = awaited_front s i in
    subst (λ (front : List ScriptRow). NamesInOrder 0 (0 + rows_passing is_tree_row front) front) (sym same)
    (names_front 0 (length s.trees) m s.rows valid.rows)

-- rows that pass a test are more where one more is looked at that passes it
passing_below : (test : ScriptRow → Bool) (rs : List ScriptRow) (i : ℕ) (r : ScriptRow) → slice_get rs i ≡ Some r → test r ≡ true
    → rows_passing test (take i rs) < rows_passing test rs
passing_below test [] i r at is = absurd (cc at)
passing_below test (x ∷ rs) zero r at is =
    let same : x ≡ r = cc at in
    let one : one_when (test x) ≡ one_when true = ap one_when (ap test same ∙ is) in omega (arith, one)
passing_below test (x ∷ rs) (suc i) r at is = let rest = passing_below test rs i r at is in omega (arith, rest)

-- no more trees are awaited than there are
names_few : (k n : ℕ) (rs : List ScriptRow) → NamesInOrder k n rs → k + rows_passing is_tree_row rs ≡ n
names_few k n [] names = omega (arith, names)
names_few k n (rows.Tree t ∷ rs) names = let rest = names_few (k + 1) n rs names.1 in omega (arith, rest)
names_few k n (rows.Advance ∷ rs) names = let rest = names_few k n rs names in omega (arith, rest)
names_few k n (rows.Settle ∷ rs) names = let rest = names_few k n rs names in omega (arith, rest)
names_few k n (rows.Lose ∷ rs) names = let rest = names_few k n rs names in omega (arith, rest)

front_few : (test : ScriptRow → Bool) (m : ℕ) (rs : List ScriptRow) → rows_passing test (take m rs) ≤ rows_passing test rs
front_few test zero [] = omega arith
front_few test (suc m) [] = omega arith
front_few test zero (r ∷ rs) = omega arith
front_few test (suc m) (r ∷ rs) = let rest = front_few test m rs in omega (arith, rest)

awaited_few : (s : ScriptData) (i : ℕ) → IsValid s → rows_passing is_tree_row (awaited s i) ≤ length s.trees
awaited_few s i valid =
    let (m, same) = awaited_front s i in
    let front = front_few is_tree_row m s.rows in
    let all = names_few 0 (length s.trees) s.rows valid.rows in
    let count : rows_passing is_tree_row (awaited s i) ≡ rows_passing is_tree_row (take m s.rows) = ap (rows_passing is_tree_row) same in
    omega (arith, count, front, all)

-- a row of trees is one of a tree
tree_row_is : (r : ScriptRow) → is_tree_row r ≡ true → (t : TreeNo) × (r ≡ rows.Tree t)
tree_row_is (rows.Tree t) is = (t, refl)
tree_row_is rows.Advance is = absurd (cc is)
tree_row_is rows.Settle is = absurd (cc is)
tree_row_is rows.Lose is = absurd (cc is)

advance_row_is : (r : ScriptRow) → is_advance r ≡ true → r ≡ rows.Advance
advance_row_is (rows.Tree t) is = absurd (cc is)
advance_row_is rows.Advance is = refl
advance_row_is rows.Settle is = absurd (cc is)
advance_row_is rows.Lose is = absurd (cc is)

-- The trees for which a row waits.
trees_open : (s : ScriptData) (xs : List Place) (b : BoardData) (i : ℕ) → IsValid s → IsBoardOf s xs b
    → Decides (nat_le (rows_passing is_tree_row (awaited s i)) b.passed)
    ((j t : ℕ) → slice_get (awaited s i) j ≡ Some (rows.Tree (record { 0 = t })) → is_whole_in s xs t ≡ true)
trees_open s xs b i valid board = (there, back) where
  there : nat_le (rows_passing is_tree_row (awaited s i)) b.passed ≡ true
      → (j t : ℕ) → slice_get (awaited s i) j ≡ Some (rows.Tree (record { 0 = t })) → is_whole_in s xs t ≡ true
  there is j t at =
      let number = names_number 0 (0 + rows_passing is_tree_row (awaited s i)) j (record { 0 = t }) (awaited s i)
      (awaited_names s i valid) at in
      let below = passing_below is_tree_row (awaited s i) j (rows.Tree (record { 0 = t })) at refl in
      let le = leb-true (rows_passing is_tree_row (awaited s i)) b.passed is in
      board.passed.each t (omega (arith, number, below, le))

  back_by : ((j t : ℕ) → slice_get (awaited s i) j ≡ Some (rows.Tree (record { 0 = t })) → is_whole_in s xs t ≡ true)
      → (b.passed < rows_passing is_tree_row (awaited s i)) ⊎ (rows_passing is_tree_row (awaited s i) ≤ b.passed)
      → nat_le (rows_passing is_tree_row (awaited s i)) b.passed ≡ true
  back_by whole (inr le) = le-leb (rows_passing is_tree_row (awaited s i)) b.passed le
  back_by whole (inl more) =
      let (j, at) = names_found 0 (0 + rows_passing is_tree_row (awaited s i)) b.passed (awaited s i) (awaited_names s i valid)
      (omega arith) (omega (arith, more)) in
      let few = awaited_few s i valid in
      absurd (let yes_it = whole j b.passed at in let no_it = board.passed.next (omega (arith, more, few)) in
      let both : true ≡ false = sym yes_it ∙ no_it in cc both)

  back : ((j t : ℕ) → slice_get (awaited s i) j ≡ Some (rows.Tree (record { 0 = t })) → is_whole_in s xs t ≡ true)
      → nat_le (rows_passing is_tree_row (awaited s i)) b.passed ≡ true
  back whole = back_by whole (cases_lt b.passed (rows_passing is_tree_row (awaited s i)))

-- a number that is known by another
number_is : (m a b : ℕ) → m ≡ a → Decides (m == b) (a ≡ b)
number_is m a b same = Decides-like (m == b) (λ e. sym same ∙ e) (λ e. same ∙ e) (Decides-eqb m b)

-- The advancements for which it waits.
swept_to_each : (s : ScriptData) (xs : List Place) (b : BoardData) (many q : ℕ) → IsBoardOf s xs b
    → Decides (nat_le many (numbers_at b.nodes q).low.0) ((a : ℕ) → a < many → was_swept q (a + 1) xs ≡ true)
swept_to_each s xs b many q board = (there, back) where
  low : (numbers_at b.nodes q).low.0 ≡ low_after xs q
  low = (board.numbers q).low

  there : nat_le many (numbers_at b.nodes q).low.0 ≡ true → (a : ℕ) → a < many → was_swept q (a + 1) xs ≡ true
  there is a lt =
      let le = leb-true many (numbers_at b.nodes q).low.0 is in
      (board.swept q (a + 1)).1 (omega arith, omega (arith, le, low, lt))

  back_by : ((a : ℕ) → a < many → was_swept q (a + 1) xs ≡ true) → (0 < many) ⊎ (many ≤ 0)
      → nat_le many (numbers_at b.nodes q).low.0 ≡ true
  back_by swept (inr none) = le-leb many (numbers_at b.nodes q).low.0 (omega (arith, none))
  back_by swept (inl some) =
      let last = (board.swept q (many - 1 + 1)).0 (swept (many - 1) (omega (arith, some))) in
      le-leb many (numbers_at b.nodes q).low.0 (omega (arith, last.1, low, some))

  back : ((a : ℕ) → a < many → was_swept q (a + 1) xs ≡ true) → nat_le many (numbers_at b.nodes q).low.0 ≡ true
  back swept = back_by swept (cases_lt 0 many)

-- the gate of a row
open_decides : (s : ScriptData) (xs : List Place) (b : BoardData) (i : ℕ) → IsValid s → IsBoardOf s xs b
    → Decides (is_open_gate (Some (gate_behind (take i s.rows))) b) (IsOpen s xs i)
open_decides s xs b i valid board =
    let gate : RowGate = gate_behind (take i s.rows) in
    let asked : advances_in (awaited s i) ≡ rows_passing is_advance (awaited s i) = asked_is (awaited s i) in
    Decides-like (is_open_gate (Some (gate_behind (take i s.rows))) b)
    (λ h. record { trees = h.0; advances = λ a p lt node. h.1 p node a (omega (arith, lt, asked)) })
    (λ opens. (opens.trees, λ q node a lt. opens.advances a q (omega (arith, lt, asked)) node))
    (Decides-and (nat_le gate.trees b.passed) (list_all (λ (n : Numbers). nat_le gate.advances n.low.0) b.nodes)
    (trees_open s xs b i valid board)
    (each_node s xs b (λ n. nat_le gate.advances n.low.0) (λ q. (a : ℕ) → a < gate.advances → was_swept q (a + 1) xs ≡ true) board
    (λ q. swept_to_each s xs b gate.advances q board)))

-- The gate of a row that passes a test, by its number among those.
gate_decides : (s : ScriptData) (xs : List Place) (b : BoardData) (test : ScriptRow → Bool) (gates : List RowGate) (k : ℕ) (P : Type 0)
    → IsValid s → IsBoardOf s xs b → AreGatesFor test s.rows gates
    → (P → (i : ℕ) × (r : ScriptRow) × (slice_get s.rows i ≡ Some r) × (test r ≡ true)
    × (rows_passing test (take i s.rows) ≡ k) × IsOpen s xs i)
    → ((i : ℕ) (r : ScriptRow) → slice_get s.rows i ≡ Some r → test r ≡ true → rows_passing test (take i s.rows) ≡ k
    → IsOpen s xs i → P)
    → Decides (is_open_gate (slice_get gates k) b) P
gate_decides s xs b test gates k P valid board are gives takes = (there, back) where
  there_by : (found : Option RowGate) → slice_get gates k ≡ found → is_open_gate found b ≡ true → P
  there_by None at is = absurd (cc is)
  there_by (Some gate) at is =
      let (i, r, row, passes, number) = are.each k gate at in
      let same : Some gate ≡ Some (gate_behind (take i s.rows))
      = sym at ∙ sym (ap (slice_get gates) number) ∙ are.there i r row passes in
      takes i r row passes number
      ((open_decides s xs b i valid board).0 (ap (λ (one : Option RowGate). is_open_gate one b) (sym same) ∙ is))

  there : is_open_gate (slice_get gates k) b ≡ true → P
  there is = there_by (slice_get gates k) refl is

  back : P → is_open_gate (slice_get gates k) b ≡ true
  back p =
      let (i, r, row, passes, number, opens) = gives p in
      let at : slice_get gates k ≡ Some (gate_behind (take i s.rows))
      = sym (ap (slice_get gates) number) ∙ are.there i r row passes in
      ap (λ (one : Option RowGate). is_open_gate one b) at ∙ (open_decides s xs b i valid board).1 opens

born_decides : (s : ScriptData) (xs : List Place) (b : BoardData) (g : GatesData) (t : ℕ) → IsValid s → IsBoardOf s xs b
    → AreGatesOf s g → Decides (is_open_gate (slice_get g.trees t) b) (IsBornByItsRow s xs t)
born_decides s xs b g t valid board are =
    gate_decides s xs b is_tree_row g.trees t (IsBornByItsRow s xs t) valid board are.trees
    (λ born. (
      born.row,
      rows.Tree (record { 0 = t }),
      born.there,
      refl,
      (let number = names_number 0 (length s.trees) born.row (record { 0 = t }) s.rows valid.rows born.there in
          omega (arith, number)),
      born.gate,
    ))
    (λ i r row passes number opens.
    let (u, is) = tree_row_is r passes in
    let at : slice_get s.rows i ≡ Some (rows.Tree u) = row ∙ ap (λ (one : ScriptRow). Some one) is in
    let own = names_number 0 (length s.trees) i u s.rows valid.rows at in
    let same : u.0 ≡ t = omega (arith, own, number) in
    record { row = i; there = at ∙ (λ j. Some (rows.Tree (record { 0 = same j }))); gate = opens })

turned_at : (s : ScriptData) (xs : List Place) (b : BoardData) (g : GatesData) (v : ℕ) → 2 ≤ v → IsValid s → IsBoardOf s xs b
    → AreGatesOf s g → Decides (is_open_gate (slice_get g.advances (v - 2)) b) (IsTurnedByItsRow s xs v)
turned_at s xs b g v some valid board are =
    gate_decides s xs b is_advance g.advances (v - 2) (IsTurnedByItsRow s xs v) valid board are.advances
    (λ turned. (
      turned.row,
      rows.Advance,
      turned.there,
      refl,
      (let asked = asked_is (take turned.row s.rows) in omega (arith, asked, turned.number)),
      turned.gate,
    ))
    (λ i r row passes number opens.
    let is = advance_row_is r passes in
    let asked = asked_is (take i s.rows) in
    record {
      row = i;
      there = row ∙ ap (λ (one : ScriptRow). Some one) is;
      number = omega (arith, asked, number, some);
      gate = opens;
    })

turned_by : (s : ScriptData) (xs : List Place) (b : BoardData) (g : GatesData) (v : ℕ) (test : Bool) → nat_le 2 v ≡ test → IsValid s
    → IsBoardOf s xs b → AreGatesOf s g
    → Decides (is_open_gate (if test then slice_get g.advances (v - 2) else None) b) (IsTurnedByItsRow s xs v)
turned_by s xs b g v true is valid board are = turned_at s xs b g v (leb-true 2 v is) valid board are
turned_by s xs b g v false is valid board are =
    (λ no. absurd (cc no), λ turned. absurd (let few = leb-false 2 v is in omega (arith, few, turned.number)))

-- a node has gone through so many advancements
gone_decides : (s : ScriptData) (xs : List Place) (b : BoardData) (asked q : ℕ) → IsBoardOf s xs b
    → Decides (has_gone asked (numbers_at b.nodes q))
    ((update_after xs q ≡ asked + 1) × (read_after xs q ≡ asked) × (low_after xs q ≡ asked))
gone_decides s xs b asked q board =
    let n : Numbers = numbers_at b.nodes q in
    Decides-like (has_gone asked n) (λ h. (h.0.0, h.0.1, h.1)) (λ h. ((h.0, h.1), h.2))
    (Decides-and ((n.update.0 == asked + 1) && (n.read.0 == asked)) (n.low.0 == asked)
    (Decides-and (n.update.0 == asked + 1) (n.read.0 == asked)
    (number_is n.update.0 (update_after xs q) (asked + 1) (board.numbers q).update)
    (number_is n.read.0 (read_after xs q) asked (board.numbers q).read))
    (number_is n.low.0 (low_after xs q) asked (board.numbers q).low))

all_passed : (s : ScriptData) (xs : List Place) (b : BoardData) → IsBoardOf s xs b
    → Decides (b.passed == length b.trees) ((t : ℕ) → t < length s.trees → is_whole_in s xs t ≡ true)
all_passed s xs b board = (there, back) where
  there : (b.passed == length b.trees) ≡ true → (t : ℕ) → t < length s.trees → is_whole_in s xs t ≡ true
  there is t lt =
      let same : b.passed ≡ length b.trees = eqb-true b.passed (length b.trees) is in
      board.passed.each t (omega (arith, same, lt, board.trees))

  back_by : ((t : ℕ) → t < length s.trees → is_whole_in s xs t ≡ true) → (b.passed < length s.trees) ⊎ (length s.trees ≤ b.passed)
      → (b.passed == length b.trees) ≡ true
  back_by whole (inr all) = eq-eqb b.passed (length b.trees) (omega (arith, all, board.passed.within, board.trees))
  back_by whole (inl some) =
      absurd (let yes_it = whole b.passed some in let no_it = board.passed.next some in
      let both : true ≡ false = sym yes_it ∙ no_it in cc both)

  back : ((t : ℕ) → t < length s.trees → is_whole_in s xs t ≡ true) → (b.passed == length b.trees) ≡ true
  back whole = back_by whole (cases_lt b.passed (length s.trees))

end_decides : (s : ScriptData) (xs : List Place) (b : BoardData) (p : ℕ) → IsBoardOf s xs b
    → Decides (may_finish s.nodes (advances_in s.rows) b p) (IsEnd s xs p)
end_decides s xs b p board =
    let asked : ℕ = advances_in s.rows in
    Decides-like (may_finish s.nodes (advances_in s.rows) b p)
    (λ h. record {
      client = h.0.0.0;
      once = h.0.0.1;
      whole = h.0.1;
      update = λ q lt. (h.1 q lt).0;
      read = λ q lt. (h.1 q lt).1;
      low = λ q lt. (h.1 q lt).2;
    })
    (λ end. (((end.client, end.once), end.whole), λ q lt. (end.update q lt, end.read q lt, end.low q lt)))
    (Decides-and ((p == s.nodes + 1) && not b.finished && (b.passed == length b.trees)) (list_all (has_gone asked) b.nodes)
    (Decides-and ((p == s.nodes + 1) && not b.finished) (b.passed == length b.trees)
    (Decides-and (p == s.nodes + 1) (not b.finished) (Decides-eqb p (s.nodes + 1))
    (not_flag b.finished (has_finished xs) board.finished))
    (all_passed s xs b board))
    (each_node s xs b (has_gone asked)
    (λ q. (update_after xs q ≡ asked + 1) × (read_after xs q ≡ asked) × (low_after xs q ≡ asked)) board
    (λ q. gone_decides s xs b asked q board)))

-- the test of an act says whether it keeps to the script
pub keeps_decides : (s : ScriptData) (xs : List Place) (b : BoardData) (g : GatesData) (p : ℕ) (act : Act) → IsValid s
    → IsBoardOf s xs b → AreGatesOf s g → Decides (keeps_by g b s.nodes (advances_in s.rows) p act) (KeepsToAt s xs p act)
keeps_decides s xs b g p (Born t v) valid board are = born_decides s xs b g t.0 valid board are
keeps_decides s xs b g p (Turned v) valid board are = turned_by s xs b g v.0 (nat_le 2 v.0) refl valid board are
keeps_decides s xs b g p Finished valid board are = end_decides s xs b p board
keeps_decides s xs b g p (Did t k values) valid board are = always
keeps_decides s xs b g p (Showed v) valid board are = always
keeps_decides s xs b g p (Swept v) valid board are = always
keeps_decides s xs b g p (Waits t u r) valid board are = always
keeps_decides s xs b g p (Parked t k item holder) valid board are = always
keeps_decides s xs b g p (Voted t k vote) valid board are = always
keeps_decides s xs b g p (Freed t) valid board are = always
keeps_decides s xs b g p (Decided t commit) valid board are = always
keeps_decides s xs b g p (Applied t commit) valid board are = always
