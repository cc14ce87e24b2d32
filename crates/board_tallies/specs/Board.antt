-- The tallies of the Board as plain data, and when they are those of a list of acts.
use Rattle.std.specs.Prelude.{if◌then◌else◌, ℕ, zero, suc, Bool, true, false, not, ◌≡◌, ◌+◌, ◌<◌, ◌≤◌, ◌==◌, ◌&&◌, List, [], ◌∷◌, length, get_or, replicate, Option, Some, None, IsTrue, is_some, slice_get, ◌++◌}
use Rattle.std.specs.Bool.{Decides}
use Rattle.std.specs.List.{sum_by}
use Rattle.tv_base.specs.declared.numbers.Version.{Version}
use Rattle.tv_base.specs.declared.numbers.TheConstants.{MOST_NODES, MOST_SUBS_OF_TREE}
use Rattle.letter_types.specs.declared.acts.Act.{Act}
use Rattle.script_parts.specs.ScriptData.{ScriptData, is_read, is_strict}
use Rattle.script_parts.specs.declared.parts.Sub.{Sub}
use Rattle.script_parts.specs.declared.parts.Tree.{Tree}
use Rattle.board_rules.specs.Gates.{was_swept, KeepsTo}
use Rattle.board_rules.specs.Histories.{Place, is_whole_in, version_in, was_applied, was_decided_as, was_done}
use Rattle.board_rules.specs.Moves.{low_after, read_after, update_after}
use Rattle.board_rules.specs.Right.{has_finished}
use Rattle.board_rules.specs.Serial.{commits_by, is_settled_in, is_version}
use Rattle.board_rules.specs.Stands.{voted_yes, was_freed, was_voted}
use Rattle.board_tallies.specs.declared.numbers.Numbers.{Numbers}
use Rattle.board_tallies.specs.declared.pending.Pending.{Pending}
use Rattle.board_tallies.specs.declared.states.TreeState.{TreeState}
use Rattle.std.specs.Option.{option_map}
use Rattle.tv_base.specs.declared.numbers.TreeNo.{TreeNo}
use Rattle.letter_types.specs.declared.entries.Entry.{Entry}
use Rattle.board_rules.specs.ButCause.{IsMoveButCause}
use Rattle.board_tallies.specs.GateRows.{AreGatesOf, GatesData}

-- the numbers of each node; what is known of each transaction; how many born transactions aren't complete, by version;
-- how many transactions from the first on are complete; and whether the client has finished
pub record BoardData : Type 0 where
  pub nodes : List Numbers
  pub trees : List TreeState
  pub pending : List Pending
  pub passed : ℕ
  pub finished : Bool

-- the numbers of a node at first, and of node p
abbrev pub first_numbers : Numbers
first_numbers = record { update = record { 0 = 1 }; read = record { 0 = 0 }; low = record { 0 = 0 } }

abbrev pub numbers_at : List Numbers → ℕ → Numbers
numbers_at nodes p = get_or nodes p first_numbers

-- a transaction of which nothing is known, and what is known of transaction t
abbrev pub first_state : TreeState
first_state = record {
  born = None;
  done = replicate MOST_SUBS_OF_TREE false;
  voted = replicate MOST_SUBS_OF_TREE false;
  yes = replicate MOST_SUBS_OF_TREE false;
  applied = replicate MOST_NODES false;
  freed = replicate MOST_NODES false;
  committed = false;
  aborted = false;
}

abbrev pub state_at : List TreeState → ℕ → TreeState
state_at states t = get_or states t first_state

-- the numbers are those of node p after these acts
pub record ShowsNode (p : ℕ) (xs : List Place) (n : Numbers) : Type 0 where
  pub update : n.update.0 ≡ update_after xs p
  pub read : n.read.0 ≡ read_after xs p
  pub low : n.low.0 ≡ low_after xs p

-- there are 64 marks, and they stand if the test says so
pub record AreMarks (marks : List Bool) (test : ℕ → Bool) : Type 0 where
  pub many : length marks ≡ 64
  pub each : (k : ℕ) → get_or marks k false ≡ test k

-- the state is that of transaction t after these acts
pub record ShowsTree (t : ℕ) (xs : List Place) (state : TreeState) : Type 0 where
  pub born : state.born ≡ version_in t xs
  pub done : AreMarks state.done (λ (k : ℕ). was_done t k xs)
  pub voted : AreMarks state.voted (λ (k : ℕ). was_voted t k xs)
  pub yes : AreMarks state.yes (λ (k : ℕ). voted_yes t k xs)
  pub applied : AreMarks state.applied (λ (p : ℕ). was_applied t p xs)
  pub freed : AreMarks state.freed (λ (p : ℕ). was_freed t p xs)
  pub committed : state.committed ≡ was_decided_as t true xs
  pub aborted : state.aborted ≡ was_decided_as t false xs

-- each of the first n is marked, and the node of each subtransaction is
abbrev pub marked_to : ℕ → List Bool → Bool
marked_to zero marks = true
marked_to (suc n) marks = marked_to n marks && get_or marks n false

abbrev pub marked_for : List Sub → List Bool → Bool
marked_for [] marks = true
marked_for (k ∷ ks) marks = get_or marks k.node.0 false && marked_for ks marks

-- by its state, all that is to come of a transaction has come; and the transaction is complete
abbrev pub is_through : Tree → TreeState → Bool
is_through tree state =
    if is_strict tree.kind then marked_for tree.subs state.applied else marked_to (length tree.subs) state.done

abbrev pub is_whole_by : Tree → TreeState → Bool
is_whole_by tree state = is_some state.born && is_through tree state

abbrev pub whole_at : List Tree → List TreeState → ℕ → Bool
whole_at trees states t = elim (slice_get trees t) [ Some tree ↦ is_whole_by tree (state_at states t) | None ↦ false ]

-- the version in which a born transaction isn't complete yet
abbrev pub pending_version : Tree → TreeState → Option Version
pending_version tree state = if is_through tree state then None else state.born

-- one if it is this version, for a transaction that reads or doesn't, as is asked
abbrev pub pends : Bool → ℕ → Bool → Option Version → ℕ
pends reads v own found = if (if reads then own else not own) && is_version v found then 1 else 0

-- how many born transactions of version v aren't complete: of the read transactions, or of the others
abbrev pub unwhole_of : Bool → ℕ → List Tree → List TreeState → ℕ
unwhole_of reads v [] states = 0
unwhole_of reads v (tree ∷ trees) [] = 0
unwhole_of reads v (tree ∷ trees) (state ∷ states) =
    pends reads v (is_read tree.kind) (pending_version tree state) + unwhole_of reads v trees states

-- the same as the counts say
abbrev pub count_of : Bool → Pending → ℕ
count_of reads p = if reads then p.reads else p.writers

abbrev pub counted_in : Bool → ℕ → Pending → ℕ
counted_in reads v p = if p.version.0 == v then count_of reads p else 0

abbrev pub pending_of : Bool → ℕ → List Pending → ℕ
pending_of reads v ps = sum_by (counted_in reads v) ps

abbrev pub AreCounted : List Tree → List TreeState → List Pending → Type 0
AreCounted trees states ps = (reads : Bool) (v : ℕ) → pending_of reads v ps ≡ unwhole_of reads v trees states

-- the first n transactions are complete, and the next one isn't
pub record ArePassed (s : ScriptData) (xs : List Place) (n : ℕ) : Type 0 where
  pub within : n ≤ length s.trees
  pub each : (t : ℕ) → t < n → IsTrue (is_whole_in s xs t)
  pub next : n < length s.trees → is_whole_in s xs n ≡ false

-- these are the tallies of the script's Board after these acts, each of which was a move
pub record IsBoardOf (s : ScriptData) (xs : List Place) (b : BoardData) : Type 0 where
  pub nodes : length b.nodes ≡ s.nodes
  pub numbers : (p : ℕ) → ShowsNode p xs (numbers_at b.nodes p)
  pub trees : length b.trees ≡ length s.trees
  pub states : (t : ℕ) → ShowsTree t xs (state_at b.trees t)
  pub pending : AreCounted s.trees b.trees b.pending
  pub passed : ArePassed s xs b.passed
  pub finished : b.finished ≡ has_finished xs
  -- a node has collected to each version from 1 up to its low version
  pub swept : (p v : ℕ) → Decides (was_swept p v xs) ((1 ≤ v) × (v ≤ low_after xs p))

-- the transaction that becomes a member of the serial order by this act, after which the acts are these
abbrev pub closes_in : ScriptData → List Place → Act → Option ℕ
closes_in s upto act = elim (commits_by s act) [ Some t ↦ if is_settled_in s upto t then Some t else None | None ↦ None ]

-- what holds of whatever acts these are the tallies of
abbrev pub OfBoard : ScriptData → BoardData → (List Place → Type 0) → Type 0
OfBoard s b P = (xs : List Place) → IsBoardOf s xs b → P xs

-- what holds of the acts so far with the act x, whatever acts these are the tallies of, if x is a move after them but
-- for the cause of a vote
abbrev pub OfBoardWith : ScriptData → BoardData → Place → (List Place → Type 0) → Type 0
OfBoardWith s b x P =
    (before : List Entry) (xs : List Place) → IsBoardOf s xs b → IsMoveButCause s before xs x → P (xs ++ x ∷ [])

-- by these tallies the act x is a move, but for the cause of a vote; and it isn't
abbrev pub IsMoveBy : ScriptData → BoardData → Place → Type 0
IsMoveBy s b x = (before : List Entry) (xs : List Place) → IsBoardOf s xs b → IsMoveButCause s before xs x

abbrev pub IsNoMoveBy : ScriptData → BoardData → Place → Type 0
IsNoMoveBy s b x = (before : List Entry) (xs : List Place) → IsBoardOf s xs b → IsMoveButCause s before xs x → ⊥

-- by these tallies and these gates the act x keeps to the script; and it doesn't
abbrev pub KeepsBy : ScriptData → GatesData → BoardData → Place → Type 0
KeepsBy s g b x = AreGatesOf s g → OfBoard s b (λ xs. KeepsTo s xs x)

abbrev pub StraysBy : ScriptData → GatesData → BoardData → Place → Type 0
StraysBy s g b x = AreGatesOf s g → OfBoard s b (λ xs. KeepsTo s xs x → ⊥)

-- the second tallies are the first ones with the act x
abbrev pub IsBoardWith : ScriptData → Place → BoardData → BoardData → Type 0
IsBoardWith s x old new = OfBoardWith s old x (λ upto. IsBoardOf s upto new)

-- the number of a transaction, if there is one
abbrev pub tree_number : Option TreeNo → Option ℕ
tree_number found = option_map (λ (t : TreeNo). t.0) found

-- the act x makes this transaction, if one, a member of the serial order
abbrev pub ClosesBy : ScriptData → BoardData → Place → Option TreeNo → Type 0
ClosesBy s b x closed = OfBoardWith s b x (λ upto. tree_number closed ≡ closes_in s upto x.act)
