-- The Board: the three version numbers of each node, and the acts so far. Which acts are moves of it.
use Rattle.std.specs.Prelude.{if◌then◌else◌, ℕ, Bool, true, false, ◌≡◌, ◌≤◌, ◌<◌, ◌==◌, ◌+◌, ◌||◌, List, [], ◌∷◌, ◌++◌, fold, length, take, Option, Some, None, IsTrue, slice_get}
use Rattle.tv_base.specs.declared.numbers.ItemNo.{ItemNo}
use Rattle.tv_base.specs.declared.numbers.Version.{Version}
use Rattle.commute_ops.specs.declared.value.Value.{Value}
use Rattle.letter_types.specs.declared.acts.Act.{Act}
use Rattle.letter_types.specs.declared.acts.Act.TheVariants.{Born, Did, Turned, Showed, Swept, Finished, Waits, Parked, Voted, Freed, Decided, Applied}
use Rattle.letter_types.specs.declared.entries.Entry.{Entry}
use Rattle.letter_types.specs.declared.votes.Vote.{Vote}
use Rattle.script_parts.specs.ScriptData.{ScriptData, home_of, node_of, ops_of, reads, sub_at, subs_at, updates, visits}
use Rattle.script_parts.specs.declared.parts.Sub.{Sub}
use Rattle.board_rules.specs.Histories.{Place, is_strict_tree, is_whole_in, places_at, places_of, version_in, version_or, was_applied, was_born, was_decided_as, was_done}
use Rattle.board_rules.specs.Stands.{cause_of, refusal_in, voted_yes, was_freed, was_voted}

-- The numbers of a node: 1, 0 and 0 at first, and then what its last act of the kind says.

-- the version that the act sets a node's update, read or low version to
abbrev pub turned_to : Act → Option Version
turned_to (Turned v) = Some v
turned_to _ = None

abbrev pub showed_to : Act → Option Version
showed_to (Showed v) = Some v
showed_to _ = None

abbrev pub swept_to : Act → Option Version
swept_to (Swept v) = Some v
swept_to _ = None

-- node p's number after an act
abbrev pub number_after : (Act → Option Version) → ℕ → ℕ → Place → ℕ
number_after set p n x = if x.node == p then version_or n (set x.act) else n

-- node p's update, read and low version after these acts
abbrev pub update_after : List Place → ℕ → ℕ
update_after xs p = fold (number_after turned_to p) 1 xs

abbrev pub read_after : List Place → ℕ → ℕ
read_after xs p = fold (number_after showed_to p) 0 xs

abbrev pub low_after : List Place → ℕ → ℕ
low_after xs p = fold (number_after swept_to p) 0 xs

-- The moves at node p, after the acts xs.

-- each of these transactions that is born in a version at most v, or below v, is complete
abbrev pub AllWholeTo : (ℕ → Bool) → ScriptData → List Place → ℕ → Type 0
AllWholeTo are s xs v =
    (t : ℕ) (w : Version) → IsTrue (are t) → version_in t xs ≡ Some w → w.0 ≤ v → IsTrue (is_whole_in s xs t)

abbrev pub AllWholeBelow : (ℕ → Bool) → ScriptData → List Place → ℕ → Type 0
AllWholeBelow are s xs v =
    (t : ℕ) (w : Version) → IsTrue (are t) → version_in t xs ≡ Some w → w.0 < v → IsTrue (is_whole_in s xs t)

-- a transaction is born at its home, once: an update transaction takes the update version, a read transaction the read
-- version, and a strict transaction the update version if that is the one after the read version
pub record IsBirth (s : ScriptData) (xs : List Place) (p t v : ℕ) : Type 0 where
  pub unborn : version_in t xs ≡ None
  pub home : (p < s.nodes) × (home_of s t ≡ p)
  pub update : IsTrue (updates s t) → v ≡ update_after xs p
  pub read : IsTrue (reads s t) → v ≡ read_after xs p
  pub strict : IsTrue (is_strict_tree s t) → (v ≡ update_after xs p) × (v ≡ read_after xs p + 1)

-- the subtransaction is the root, or its parent has had its turn
abbrev pub IsAskedBy : (ℕ → Bool) → ℕ → Option Sub → Type 0
IsAskedBy had k None = ⊥
IsAskedBy had k (Some sub) = IsTrue ((k == 0) || had sub.parent.0)

abbrev pub IsAsked : ScriptData → (ℕ → Bool) → ℕ → ℕ → Type 0
IsAsked s had t k = IsAskedBy had k (sub_at s t k)

-- a subtransaction of an update or a read transaction is done at its node, once, in a transaction that is born, and
-- after its parent
pub record IsDeed (s : ScriptData) (xs : List Place) (p t k : ℕ) (given : List (ItemNo × Value)) : Type 0 where
  pub commutes : IsTrue (updates s t || reads s t)
  pub born : IsTrue (was_born xs t)
  pub asked : IsAsked s (λ (j : ℕ). was_done t j xs) t k
  pub once : was_done t k xs ≡ false
  pub node : (p < s.nodes) × (node_of s t k ≡ p)
  pub values : IsTrue (updates s t) → given ≡ []

-- a node's update version is raised by one, to at most two above every low version
pub record IsTurn (s : ScriptData) (xs : List Place) (p v : ℕ) : Type 0 where
  pub node : p < s.nodes
  pub next : v ≡ update_after xs p + 1
  pub near : (q : ℕ) → q < s.nodes → v ≤ low_after xs q + 2

-- a node's read version is raised by one, to below every update version, if each update and strict transaction that is
-- born up to there is complete
pub record IsShowing (s : ScriptData) (xs : List Place) (p v : ℕ) : Type 0 where
  pub node : p < s.nodes
  pub next : v ≡ read_after xs p + 1
  pub below : (q : ℕ) → q < s.nodes → v < update_after xs q
  pub whole : AllWholeTo (λ (t : ℕ). updates s t || is_strict_tree s t) s xs v

-- a node's low version is raised by one, to at most every read version, if each read transaction that is born below it
-- is complete
pub record IsSweeping (s : ScriptData) (xs : List Place) (p v : ℕ) : Type 0 where
  pub node : p < s.nodes
  pub next : v ≡ low_after xs p + 1
  pub below : (q : ℕ) → q < s.nodes → v ≤ read_after xs q
  pub whole : AllWholeBelow (reads s) s xs v

-- a strict transaction isn't born yet, since its home's update version isn't the one after the read version
pub record IsWaiting (s : ScriptData) (xs : List Place) (p t u r : ℕ) : Type 0 where
  pub strict : IsTrue (is_strict_tree s t)
  pub unborn : version_in t xs ≡ None
  pub home : (p < s.nodes) × (home_of s t ≡ p)
  pub update : u ≡ update_after xs p
  pub read : r ≡ read_after xs p
  pub apart : (u == r + 1) ≡ false

-- a subtransaction of a strict transaction votes at its node, once, and after its parent: no if there is a cause, which
-- it names
pub record IsVoting (s : ScriptData) (before : List Entry) (xs : List Place) (p t k : ℕ) (vote : Vote) : Type 0 where
  pub strict : IsTrue (is_strict_tree s t)
  pub born : IsTrue (was_born xs t)
  pub asked : IsAsked s (λ (j : ℕ). was_voted t j xs) t k
  pub once : was_voted t k xs ≡ false
  pub node : (p < s.nodes) × (node_of s t k ≡ p)
  pub cause : refusal_in vote ≡ cause_of s before xs p t (ops_of s t k)

-- the marks of a complete update transaction go at a node that it visits, once
pub record IsFreeing (s : ScriptData) (xs : List Place) (p t : ℕ) : Type 0 where
  pub update : IsTrue (updates s t)
  pub visited : IsTrue (visits (subs_at s t) p)
  pub whole : IsTrue (is_whole_in s xs t)
  pub once : was_freed t p xs ≡ false

-- each of the first n subtransactions of transaction t has voted, or has voted yes
abbrev pub AllVoted : (ℕ → ℕ → List Place → Bool) → ScriptData → List Place → ℕ → Type 0
AllVoted voted s xs t = (k : ℕ) → k < length (subs_at s t) → IsTrue (voted t k xs)

-- a strict transaction is decided at its home, once, when all have voted: it commits if all have voted yes
pub record IsDecision (s : ScriptData) (xs : List Place) (p t : ℕ) (commit : Bool) : Type 0 where
  pub strict : IsTrue (is_strict_tree s t)
  pub home : (p < s.nodes) × (home_of s t ≡ p)
  pub voted : AllVoted was_voted s xs t
  pub once : (c : Bool) → was_decided_as t c xs ≡ false
  pub yes_if : AllVoted voted_yes s xs t → commit ≡ true
  pub only_if : commit ≡ true → AllVoted voted_yes s xs t

-- what was decided of a strict transaction is applied at a node that it visits, once
pub record IsApplying (s : ScriptData) (xs : List Place) (p t : ℕ) (commit : Bool) : Type 0 where
  pub strict : IsTrue (is_strict_tree s t)
  pub visited : IsTrue (visits (subs_at s t) p)
  pub decided : IsTrue (was_decided_as t commit xs)
  pub once : was_applied t p xs ≡ false

-- The Board's run.

-- the act is a move at node p, after the acts xs, in an entry before which the history was this one. The client's end
-- and the deferral of a message leave the Board as it is
abbrev pub IsMoveAt : ScriptData → List Entry → List Place → ℕ → Act → Type 0
IsMoveAt s before xs p (Born t v) = IsBirth s xs p t.0 v.0
IsMoveAt s before xs p (Did t k values) = IsDeed s xs p t.0 k.0 values
IsMoveAt s before xs p (Turned v) = IsTurn s xs p v.0
IsMoveAt s before xs p (Showed v) = IsShowing s xs p v.0
IsMoveAt s before xs p (Swept v) = IsSweeping s xs p v.0
IsMoveAt s before xs p (Waits t u r) = IsWaiting s xs p t.0 u.0 r.0
IsMoveAt s before xs p (Voted t k vote) = IsVoting s before xs p t.0 k.0 vote
IsMoveAt s before xs p (Freed t) = IsFreeing s xs p t.0
IsMoveAt s before xs p (Decided t commit) = IsDecision s xs p t.0 commit
IsMoveAt s before xs p (Applied t commit) = IsApplying s xs p t.0 commit
IsMoveAt s before xs p (Parked t k item holder) = Unit {0}
IsMoveAt s before xs p Finished = Unit {0}

abbrev pub IsMove : ScriptData → List Entry → List Place → Place → Type 0
IsMove s before xs x = IsMoveAt s before xs x.node x.act

-- what holds of the acts ys of an entry, one after the other, each after the acts xs and those before it
abbrev pub OneByOne : (List Place → Place → Type 0) → List Place → List Place → Type 0
OneByOne P xs [] = Unit {0}
OneByOne P xs (y ∷ ys) = P xs y × OneByOne P (xs ++ y ∷ []) ys

-- what holds of every act of a history, by the history before its entry and all acts before it
abbrev pub AtEachAct : (List Entry → List Place → Place → Type 0) → List Entry → Type 0
AtEachAct P h =
    (n : ℕ) (e : Entry) → slice_get h n ≡ Some e → OneByOne (P (take n h)) (places_of (take n h)) (places_at e)

-- the acts of a history, one after the other, are moves of the Board from its start
abbrev pub IsBoardRun : ScriptData → List Entry → Type 0
IsBoardRun s h = AtEachAct (IsMove s) h
