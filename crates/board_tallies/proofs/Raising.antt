-- The tests by the tallies decide which acts of nodes are moves, and so of all.
use Rattle.std.proofs.Common.{◌≡◌, ◌⊎◌, inl, inr, ℕ, zero, suc, ◌+◌, ◌<◌, ◌≤◌, ◌==◌, Bool, true, false, List, [], ◌∷◌, length, refl, sym, ap, ◌∙◌, arith, Option, Some, None}
use Rattle.std.specs.Prelude.{◌&&◌, ◌||◌, nat_le, nat_lt, not, slice_get}
use Rattle.std.specs.Bool.{Decides}
use Rattle.std.specs.List.{list_all}
use Rattle.std.proofs.lemmas.Bool.{cases_lt, le-leb, leb-true, ltb-true, lt-ltb, or_cases}
use Rattle.std.proofs.lemmas.Bool.Decides.{Decides-and, Decides-at, Decides-like}
use Rattle.std.proofs.lemmas.Option.{slice_get-get_or, slice_get_within}
use Rattle.tv_base.specs.declared.numbers.TreeNo.{TreeNo}
use Rattle.letter_types.specs.declared.acts.Act.{Act}
use Rattle.letter_types.specs.declared.acts.Act.TheVariants.{Born, Did, Turned, Showed, Swept, Finished, Waits, Parked, Voted, Freed, Decided, Applied}
use Rattle.letter_types.specs.declared.entries.Entry.{Entry}
use Rattle.script_parts.specs.ScriptData.{ScriptData, is_read, is_strict, is_update, reads, updates}
use Rattle.script_parts.specs.Valid.{IsValid}
use Rattle.script_parts.specs.declared.parts.Tree.{Tree}
use Rattle.script_parts.specs.declared.parts.TreeKind.{TreeKind}
use Rattle.script_parts.specs.declared.parts.TreeKind.TheVariants.{Update, Read, Strict}
use Rattle.board_rules.specs.ButCause.{IsMoveButCauseAt}
use Rattle.board_rules.specs.Histories.{Place, is_strict_tree}
use Rattle.board_rules.specs.Moves.{AllWholeBelow, AllWholeTo, IsShowing, IsSweeping, IsTurn, low_after, read_after, update_after}
use Rattle.board_rules.proofs.Wholes.{strict_there, updates_there}
use Rattle.board_tallies.specs.Board.{BoardData, IsBoardOf, first_state, numbers_at, state_at}
use Rattle.board_tallies.specs.inside.May.{may_by_tree, may_come, may_show, may_sweep, may_turn, may_with, tree_of}
use Rattle.board_tallies.specs.inside.Pending.{none_to}
use Rattle.board_tallies.specs.declared.numbers.Numbers.{Numbers}
use Rattle.board_tallies.specs.declared.states.TreeState.{TreeState}
use Rattle.board_tallies.proofs.Deciding.{IsSeen, apply_decides, bear_decides, decide_decides, do_decides, free_decides, is_number, kind_found, vote_decides, wait_decides}
use Rattle.board_tallies.proofs.Standing.{tree_there}
use Rattle.board_tallies.proofs.Waiting.{AreOfKind, waits_decides}
use Rattle.board_tallies.proofs.Within.{reads_there, within}

-- A test of the numbers of every node.
all_nodes_more : (n : ℕ) (P : ℕ → Type 0) → P 0 → ((q : ℕ) → q < n → P (suc q)) → (q : ℕ) → q < suc n → P q
all_nodes_more n P first rest zero lt = first
all_nodes_more n P first rest (suc q) lt = rest q (omega (arith, lt))

all_nodes : (test : Numbers → Bool) (P : ℕ → Type 0) (nodes : List Numbers) → ((q : ℕ) → Decides (test (numbers_at nodes q)) (P q))
    → Decides (list_all test nodes) ((q : ℕ) → q < length nodes → P q)
all_nodes test P [] each = (λ is q lt. absurd (omega (arith, lt)), λ all. refl)
all_nodes test P (n ∷ nodes) each =
    Decides-like (list_all test (n ∷ nodes)) (λ h. all_nodes_more (length nodes) P h.0 h.1)
    (λ all. (all 0 (omega arith), λ q lt. all (suc q) (omega (arith, lt))))
    (Decides-and (test n) (list_all test nodes) (each 0) (all_nodes test (λ q. P (suc q)) nodes (λ q. each (suc q))))

pub each_node : (s : ScriptData) (xs : List Place) (b : BoardData) (test : Numbers → Bool) (P : ℕ → Type 0) → IsBoardOf s xs b
    → ((q : ℕ) → Decides (test (numbers_at b.nodes q)) (P q)) → Decides (list_all test b.nodes) ((q : ℕ) → q < s.nodes → P q)
each_node s xs b test P board each =
    Decides-like (list_all test b.nodes) (λ all q lt. all q (omega (arith, lt, board.nodes)))
    (λ all q lt. all q (omega (arith, lt, board.nodes))) (all_nodes test P b.nodes each)

at_most : (m n k : ℕ) → n ≡ k → Decides (nat_le m n) (m ≤ k)
at_most m n k same =
    (λ is. let le = leb-true m n is in omega (arith, le, same), λ le. le-leb m n (omega (arith, le, same)))

less_than : (m n k : ℕ) → n ≡ k → Decides (nat_lt m n) (m < k)
less_than m n k same =
    (λ is. let lt = ltb-true m n is in omega (arith, lt, same), λ lt. lt-ltb m n (omega (arith, lt, same)))

next_number : (m n k : ℕ) → n ≡ k → Decides (m == n + 1) (m ≡ k + 1)
next_number m n k same = is_number m (n + 1) (k + 1) (ap (λ i. i + 1) same)

turn_test : (s : ScriptData) (xs : List Place) (b : BoardData) (p v : ℕ) → IsBoardOf s xs b
    → Decides (may_turn b.nodes p v) (IsTurn s xs p v)
turn_test s xs b p v board =
    let n : Numbers = numbers_at b.nodes p in
    Decides-like (may_turn b.nodes p v) (λ h. record { node = h.0.0; next = h.0.1; near = h.1 })
    (λ turn. ((turn.node, turn.next), turn.near))
    (Decides-and (nat_lt p (length b.nodes) && (v == n.update.0 + 1)) (list_all (λ (m : Numbers). nat_le v (m.low.0 + 2)) b.nodes)
    (Decides-and (nat_lt p (length b.nodes)) (v == n.update.0 + 1) (less_than p (length b.nodes) s.nodes board.nodes)
    (next_number v n.update.0 (update_after xs p) (board.numbers p).update))
    (each_node s xs b (λ m. nat_le v (m.low.0 + 2)) (λ q. v ≤ low_after xs q + 2) board
    (λ q. at_most v ((numbers_at b.nodes q).low.0 + 2) (low_after xs q + 2) (ap (λ i. i + 2) (board.numbers q).low))))

-- Writers and readers.
writer_kind : (k : TreeKind) → (is_update k || is_strict k) ≡ not (is_read k)
writer_kind Update = refl
writer_kind Read = refl
writer_kind Strict = refl

writer_there : (s : ScriptData) (t : ℕ) → (updates s t ≡ true) ⊎ (is_strict_tree s t ≡ true) → t < length s.trees
writer_there s t (inl is) = updates_there s t is
writer_there s t (inr is) = strict_there s t is

writers : (s : ScriptData) → AreOfKind (λ t. updates s t || is_strict_tree s t) s false
writers s = record {
  there = λ t is. writer_there s t (or_cases (updates s t) (is_strict_tree s t) is);
  kind = λ t tree at.
      (λ i. kind_found is_update s.trees t tree at i || kind_found is_strict s.trees t tree at i) ∙ writer_kind tree.kind;
}

readers : (s : ScriptData) → AreOfKind (reads s) s true
readers s = record { there = λ t is. reads_there s t is; kind = λ t tree at. kind_found is_read s.trees t tree at }

show_test : (s : ScriptData) (xs : List Place) (b : BoardData) (p v : ℕ) → IsBoardOf s xs b
    → Decides (may_show b.nodes b.pending p v) (IsShowing s xs p v)
show_test s xs b p v board =
    let n : Numbers = numbers_at b.nodes p in
    let above : Bool = list_all (λ (m : Numbers). nat_lt v m.update.0) b.nodes in
    Decides-like (may_show b.nodes b.pending p v)
    (λ h. record { node = h.0.0.0; next = h.0.0.1; below = h.0.1; whole = h.1 })
    (λ show. (((show.node, show.next), show.below), show.whole))
    (Decides-and (nat_lt p (length b.nodes) && (v == n.read.0 + 1) && above) (none_to false v b.pending)
    (Decides-and (nat_lt p (length b.nodes) && (v == n.read.0 + 1)) above
    (Decides-and (nat_lt p (length b.nodes)) (v == n.read.0 + 1) (less_than p (length b.nodes) s.nodes board.nodes)
    (next_number v n.read.0 (read_after xs p) (board.numbers p).read))
    (each_node s xs b (λ m. nat_lt v m.update.0) (λ q. v < update_after xs q) board
    (λ q. less_than v (numbers_at b.nodes q).update.0 (update_after xs q) (board.numbers q).update)))
    (waits_decides s xs b (λ t. updates s t || is_strict_tree s t) false v board (writers s)))

whole_below : (are : ℕ → Bool) (s : ScriptData) (xs : List Place) (m v : ℕ) → v ≡ m + 1 → AllWholeTo are s xs m → AllWholeBelow are s xs v
whole_below are s xs m v next whole t w is born lt = whole t w is born (omega (arith, next, lt))

whole_up_to : (are : ℕ → Bool) (s : ScriptData) (xs : List Place) (m v : ℕ) → v ≡ m + 1 → AllWholeBelow are s xs v → AllWholeTo are s xs m
whole_up_to are s xs m v next whole t w is born le = whole t w is born (omega (arith, next, le))

sweep_test : (s : ScriptData) (xs : List Place) (b : BoardData) (p v : ℕ) → IsBoardOf s xs b
    → Decides (may_sweep b.nodes b.pending p v) (IsSweeping s xs p v)
sweep_test s xs b p v board =
    let n : Numbers = numbers_at b.nodes p in
    let low : n.low.0 ≡ low_after xs p = (board.numbers p).low in
    let read : Bool = list_all (λ (m : Numbers). nat_le v m.read.0) b.nodes in
    Decides-like (may_sweep b.nodes b.pending p v)
    (λ h. record {
      node = h.0.0.0;
      next = h.0.0.1;
      below = h.0.1;
      whole = whole_below (reads s) s xs n.low.0 v (h.0.0.1 ∙ ap (λ i. i + 1) (sym low)) h.1;
    })
    (λ sweep. (
      ((sweep.node, sweep.next), sweep.below),
      whole_up_to (reads s) s xs n.low.0 v (sweep.next ∙ ap (λ i. i + 1) (sym low)) sweep.whole,
    ))
    (Decides-and (nat_lt p (length b.nodes) && (v == n.low.0 + 1) && read) (none_to true n.low.0 b.pending)
    (Decides-and (nat_lt p (length b.nodes) && (v == n.low.0 + 1)) read
    (Decides-and (nat_lt p (length b.nodes)) (v == n.low.0 + 1) (less_than p (length b.nodes) s.nodes board.nodes)
    (next_number v n.low.0 (low_after xs p) low))
    (each_node s xs b (λ m. nat_le v m.read.0) (λ q. v ≤ read_after xs q) board
    (λ q. at_most v (numbers_at b.nodes q).read.0 (read_after xs q) (board.numbers q).read)))
    (waits_decides s xs b (reads s) true n.low.0 board (readers s)))

-- An act of a tree that is there, and of one that isn't.
with_there : (s : ScriptData) (xs : List Place) (b : BoardData) (p : ℕ) (t : TreeNo) (act : Act) (P : Type 0) → IsValid s
    → IsBoardOf s xs b → tree_of act ≡ Some t → (P → t.0 < length s.trees)
    → ((tree : Tree) (st : TreeState) → IsSeen s xs p t.0 tree st (numbers_at b.nodes p)
    → Decides (may_by_tree tree st (numbers_at b.nodes p) p act) P)
    → Decides (may_with (slice_get s.trees t.0) (slice_get b.trees t.0) (numbers_at b.nodes p) p act) P
with_there s xs b p t act P valid board of there decides = by (cases_lt t.0 (length s.trees)) where
  n : Numbers
  n = numbers_at b.nodes p

  missing : (found : Option Tree) → slice_get s.trees t.0 ≡ found → length s.trees ≤ t.0
      → Decides (may_with found (slice_get b.trees t.0) (numbers_at b.nodes p) p act) P
  missing None at past = (λ is. absurd (cc is), λ h. absurd (omega (arith, there h, past)))
  missing (Some tree) at past = absurd (omega (arith, slice_get_within s.trees t.0 tree at, past))

  by : (t.0 < length s.trees) ⊎ (length s.trees ≤ t.0)
      → Decides (may_with (slice_get s.trees t.0) (slice_get b.trees t.0) (numbers_at b.nodes p) p act) P
  by (inr past) = missing (slice_get s.trees t.0) refl past
  by (inl lt) =
      let (tree, at) = tree_there s t.0 lt in
      let st : TreeState = state_at b.trees t.0 in
      let here : slice_get b.trees t.0 ≡ Some (state_at b.trees t.0)
      = slice_get-get_or b.trees t.0 first_state (omega (arith, lt, board.trees)) in
      let same : may_with (slice_get s.trees t.0) (slice_get b.trees t.0) (numbers_at b.nodes p) p act
      ≡ may_by_tree tree (state_at b.trees t.0) (numbers_at b.nodes p) p act
      = (λ i. may_with (at i) (here i) (numbers_at b.nodes p) p act) in
      Decides-at (may_with (slice_get s.trees t.0) (slice_get b.trees t.0) (numbers_at b.nodes p) p act)
      (may_by_tree tree (state_at b.trees t.0) (numbers_at b.nodes p) p act) same
      (decides tree (state_at b.trees t.0)
      (record { valid = valid; at = at; shows = board.states t.0; numbers = board.numbers p }))

-- an act that nothing stands against
pub always : Decides true (Unit {0})
always = (λ is. tt, λ h. refl)

-- the test of an act says whether it is a move, but for the cause of a vote
pub may_decides : (s : ScriptData) (before : List Entry) (xs : List Place) (b : BoardData) (p : ℕ) (act : Act) → IsValid s
    → IsBoardOf s xs b → Decides (may_come s.trees b p act) (IsMoveButCauseAt s before xs p act)
may_decides s before xs b p (Born t v) valid board =
    with_there s xs b p t (Born t v) (IsMoveButCauseAt s before xs p (Born t v)) valid board refl
    (λ move. within s before xs p (Born t v) valid move)
    (λ tree st seen. bear_decides s xs p t.0 v.0 tree st (numbers_at b.nodes p) seen)
may_decides s before xs b p (Waits t u r) valid board =
    with_there s xs b p t (Waits t u r) (IsMoveButCauseAt s before xs p (Waits t u r)) valid board refl
    (λ move. strict_there s t.0 move.strict)
    (λ tree st seen. wait_decides s xs p t.0 u.0 r.0 tree st (numbers_at b.nodes p) seen)
may_decides s before xs b p (Did t k values) valid board =
    with_there s xs b p t (Did t k values) (IsMoveButCauseAt s before xs p (Did t k values)) valid board refl
    (λ move. (within s before xs p (Did t k values) valid move).0)
    (λ tree st seen. do_decides s xs p t.0 k.0 values tree st (numbers_at b.nodes p) seen)
may_decides s before xs b p (Voted t k vote) valid board =
    with_there s xs b p t (Voted t k vote) (IsMoveButCauseAt s before xs p (Voted t k vote)) valid board refl
    (λ move. (within s before xs p (Voted t k vote) valid move).0)
    (λ tree st seen. vote_decides s xs p t.0 k.0 tree st (numbers_at b.nodes p) seen)
may_decides s before xs b p (Freed t) valid board =
    with_there s xs b p t (Freed t) (IsMoveButCauseAt s before xs p (Freed t)) valid board refl
    (λ move. (within s before xs p (Freed t) valid move).0)
    (λ tree st seen. free_decides s xs p t.0 tree st (numbers_at b.nodes p) seen)
may_decides s before xs b p (Decided t commit) valid board =
    with_there s xs b p t (Decided t commit) (IsMoveButCauseAt s before xs p (Decided t commit)) valid board refl
    (λ move. within s before xs p (Decided t commit) valid move)
    (λ tree st seen. decide_decides s xs p t.0 commit tree st (numbers_at b.nodes p) seen)
may_decides s before xs b p (Applied t commit) valid board =
    with_there s xs b p t (Applied t commit) (IsMoveButCauseAt s before xs p (Applied t commit)) valid board refl
    (λ move. (within s before xs p (Applied t commit) valid move).0)
    (λ tree st seen. apply_decides s xs p t.0 commit tree st (numbers_at b.nodes p) seen)
may_decides s before xs b p (Turned v) valid board = turn_test s xs b p v.0 board
may_decides s before xs b p (Showed v) valid board = show_test s xs b p v.0 board
may_decides s before xs b p (Swept v) valid board = sweep_test s xs b p v.0 board
may_decides s before xs b p (Parked t k item holder) valid board = always
may_decides s before xs b p Finished valid board = always
