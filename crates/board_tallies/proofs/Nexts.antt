-- The tallies after one act more.
use Rattle.std.proofs.Common.{◌≡◌, ◌⊎◌, inl, inr, ℕ, ◌+◌, ◌<◌, ◌==◌, Bool, true, false, List, [], ◌∷◌, ◌++◌, length, refl, sym, ap, subst, ◌∙◌, arith, Option, Some, None}
use Rattle.std.specs.Prelude.{cond, ◌||◌, filter, nat_lt}
use Rattle.std.specs.Option.{option_map}
use Rattle.std.proofs.Math.Bool.{or-false}
use Rattle.std.proofs.lemmas.Bool.{ltb-false, or_parts}
use Rattle.std.proofs.lemmas.List.{length-set}
use Rattle.std.proofs.lemmas.List.Sums.{sum_by-cons}
use Rattle.tv_base.specs.declared.numbers.TreeNo.{TreeNo}
use Rattle.tv_base.proofs.Chosen.{if_zero}
use Rattle.letter_types.specs.declared.acts.Act.{Act}
use Rattle.letter_types.specs.declared.entries.Entry.{Entry}
use Rattle.script_parts.specs.ScriptData.{ScriptData}
use Rattle.script_parts.specs.Valid.{IsValid}
use Rattle.script_parts.specs.declared.parts.Tree.{Tree}
use Rattle.board_rules.specs.ButCause.{IsMoveButCauseAt}
use Rattle.board_rules.specs.Histories.{Place}
use Rattle.board_rules.specs.Right.{finishes}
use Rattle.board_rules.proofs.Places.{has_finished-append}
use Rattle.board_tallies.specs.Board.{BoardData, IsBoardOf, ShowsNode, ShowsTree, closes_in, count_of, counted_in, numbers_at, pending_of, state_at}
use Rattle.board_tallies.specs.inside.Noting.{IsNoted, closed_by, numbers_with, states_told, state_with, news_by}
use Rattle.board_tallies.specs.inside.Pending.{is_counted, settled}
use Rattle.board_tallies.specs.declared.numbers.Numbers.{Numbers}
use Rattle.board_tallies.specs.declared.pending.Pending.{Pending}
use Rattle.board_tallies.specs.declared.states.StateNews.{StateNews}
use Rattle.board_tallies.specs.declared.states.TreeState.{TreeState}
use Rattle.board_tallies.proofs.Closing.{closes}
use Rattle.board_tallies.proofs.Numbering.{SetsNone, nodes_next, placed_at, sets_at_node, swept_on, sweeps_next}
use Rattle.board_tallies.proofs.Standing.{passed_next}
use Rattle.board_tallies.proofs.Telling.{IsWithin, states_next}
use Rattle.board_tallies.proofs.Within.{within}

told_many : (told : Option (TreeNo × StateNews)) (states : List TreeState) → length (states_told told states) ≡ length states
told_many None states = refl
told_many (Some one) states = length-set states one.0.0 (state_with one.1 (state_at states one.0.0))

at_node : (p m n : ℕ) (act : Act) → m ≡ n → (p < n) ⊎ SetsNone act → (p < m) ⊎ SetsNone act
at_node p m n act same (inl lt) = inl (omega (arith, lt, same))
at_node p m n act same (inr none) = inr none

-- the states after the act
shown_next : (s : ScriptData) (before : List Entry) (xs : List Place) (p : ℕ) (act : Act) (old new : BoardData) → IsValid s
    → IsBoardOf s xs old → IsMoveButCauseAt s before xs p act → IsNoted s.trees p act old new
    → (t : ℕ) → ShowsTree t (xs ++ placed_at p act ∷ []) (state_at new.trees t)
shown_next s before xs p act old new valid board move noted t =
    subst (λ (states : List TreeState). ShowsTree t (xs ++ placed_at p act ∷ []) (state_at states t)) (sym noted.trees)
    (states_next old.trees p act xs
    (subst (λ (n : ℕ). IsWithin n p act) (sym board.trees) (within s before xs p act valid move)) t (board.states t))

-- an act that is noted, and was a move
pub board_next : (s : ScriptData) (before : List Entry) (xs : List Place) (p : ℕ) (act : Act) (old new : BoardData) → IsValid s
    → IsBoardOf s xs old → IsMoveButCauseAt s before xs p act → IsNoted s.trees p act old new
    → IsBoardOf s (xs ++ placed_at p act ∷ []) new
board_next s before xs p act old new valid board move noted =
    let many : length new.trees ≡ length s.trees = ap length noted.trees ∙ told_many (news_by p act) old.trees ∙ board.trees in
    let shows = shown_next s before xs p act old new valid board move noted in
    record {
      nodes = ap length noted.nodes ∙ length-set old.nodes p (numbers_with act (numbers_at old.nodes p)) ∙ board.nodes;
      numbers = subst (λ (nodes : List Numbers). (q : ℕ) → ShowsNode q (xs ++ placed_at p act ∷ []) (numbers_at nodes q)) (sym noted.nodes)
          (nodes_next old.nodes p act xs (at_node p (length old.nodes) s.nodes act board.nodes (sets_at_node s before xs p act move))
          board.numbers);
      trees = many;
      states = shows;
      pending = noted.pending board.pending;
      passed = passed_next s xs (placed_at p act ∷ []) new.trees old.passed new.passed many board.passed noted.passed shows;
      finished =
          noted.finished ∙ (λ i. board.finished i || sym (or-false (finishes act)) i)
          ∙ sym (has_finished-append xs (placed_at p act ∷ []));
      swept = λ q v. swept_on p q v act xs (sweeps_next s before xs p act move) (board.swept q v);
    }

-- the tree that the act makes a member of the serial order
pub closed_next : (s : ScriptData) (before : List Entry) (xs : List Place) (p : ℕ) (act : Act) (old new : BoardData) → IsValid s
    → IsBoardOf s xs old → IsMoveButCauseAt s before xs p act → IsNoted s.trees p act old new
    → option_map (λ (t : TreeNo). t.0) (closed_by s.trees new.trees act) ≡ closes_in s (xs ++ placed_at p act ∷ []) act
closed_next s before xs p act old new valid board move noted =
    closes s (xs ++ placed_at p act ∷ []) new.trees act (shown_next s before xs p act old new valid board move noted)

-- Counts of 0 are left out.
none_counted : (r : Bool) (p : Pending) → is_counted p ≡ false → count_of r p ≡ 0
none_counted true p none =
    let some = or_parts (nat_lt 0 p.writers) (nat_lt 0 p.reads) none in omega (arith, ltb-false 0 p.reads some.1)
none_counted false p none =
    let some = or_parts (nat_lt 0 p.writers) (nat_lt 0 p.reads) none in omega (arith, ltb-false 0 p.writers some.0)

settled_by : (r : Bool) (v : ℕ) (p : Pending) (ps : List Pending) (b : Bool) → is_counted p ≡ b
    → pending_of r v (filter is_counted ps) ≡ pending_of r v ps
    → pending_of r v (cond b (p ∷ filter is_counted ps) (filter is_counted ps)) ≡ pending_of r v (p ∷ ps)
settled_by r v p ps true is rest =
    sum_by-cons (counted_in r v) p (filter is_counted ps)
    ∙ ap (λ (n : ℕ). counted_in r v p + n) rest
    ∙ sym (sum_by-cons (counted_in r v) p ps)
settled_by r v p ps false is rest =
    let none : counted_in r v p ≡ 0 = if_zero (p.version.0 == v) (count_of r p) (none_counted r p is) in
    let more = sum_by-cons (counted_in r v) p ps in
    let same : pending_of r v ps ≡ pending_of r v (p ∷ ps) = omega (arith, none, more) in
    rest ∙ same

settled_same : (r : Bool) (v : ℕ) (ps : List Pending) → pending_of r v (filter is_counted ps) ≡ pending_of r v ps
settled_same r v [] = refl
settled_same r v (p ∷ ps) = settled_by r v p ps (is_counted p) refl (settled_same r v ps)

pub board_settled : (s : ScriptData) (xs : List Place) (b : BoardData) → IsBoardOf s xs b → IsBoardOf s xs (settled b)
board_settled s xs b board = record {
  nodes = board.nodes;
  numbers = board.numbers;
  trees = board.trees;
  states = board.states;
  pending = λ r v. settled_same r v b.pending ∙ board.pending r v;
  passed = board.passed;
  finished = board.finished;
  swept = board.swept;
}

-- what is noted on a Board that is seen as this one
pub noted_as : (ts : List Tree) (p : ℕ) (act : Act) (old view new : BoardData) → view ≡ old → IsNoted ts p act view new
    → IsNoted ts p act old new
noted_as ts p act old view new is noted = subst (λ (b : BoardData). IsNoted ts p act b new) is noted
