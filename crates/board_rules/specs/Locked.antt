-- The locks of a node, by its acts: what a node that takes and frees them has.
use Rattle.std.specs.Prelude.{if◌then◌else◌, ℕ, ◌≡◌, ◌<◌, Bool, true, false, ◌==◌, List, [], fold, length, Option, Some, None}
use Rattle.std.specs.List.{list_any}
use Rattle.letter_types.specs.declared.acts.Act.{Act}
use Rattle.letter_types.specs.declared.acts.Act.TheVariants.{Did, Voted, Freed, Applied}
use Rattle.letter_types.specs.declared.votes.Vote.TheVariants.{Yes, No}
use Rattle.nc_locks.specs.declared.modes.Lock.{Lock}
use Rattle.nc_locks.specs.declared.modes.Mode.{Mode}
use Rattle.nc_locks.specs.Locks.{has_lock, lock_of, with_locks, without}
use Rattle.nc_locks.specs.Modes.{mode_rank}
use Rattle.script_parts.specs.Wants.{wanted_by}
use Rattle.script_parts.specs.ScriptData.{ScriptData, ops_of, updates}
use Rattle.board_rules.specs.Histories.{Place}
use Rattle.board_rules.specs.Stands.{locked_by, modes_on, modes_standing}

-- the locks of a node after an act of it
abbrev pub locks_after_act : ScriptData → Act → List Lock → List Lock
locks_after_act s (Did t j values) ls = if updates s t.0 then with_locks t (wanted_by (ops_of s t.0 j.0)) ls else ls
locks_after_act s (Voted t j (Yes values)) ls = with_locks t (wanted_by (ops_of s t.0 j.0)) ls
locks_after_act s (Voted t j (No cause)) ls = ls
locks_after_act s (Freed t) ls = without t ls
locks_after_act s (Applied t commit) ls = without t ls
locks_after_act s _ ls = ls

-- and those of node p after all these acts
abbrev pub locks_after_place : ScriptData → ℕ → List Lock → Place → List Lock
locks_after_place s p ls y = if y.node == p then locks_after_act s y.act ls else ls

abbrev pub locks_at : ScriptData → List Place → ℕ → List Lock
locks_at s xs p = fold (locks_after_place s p) [] xs

-- a mode is this one
abbrev pub is_same_mode : Mode → Mode → Bool
is_same_mode m n = mode_rank m == mode_rank n

-- transaction k has item x in mode m, by the locks and by the modes
abbrev pub lock_at : ℕ → ℕ → Mode → Lock
lock_at k x m = lock_of (record { 0 = k }) (record { 0 = x }) m

abbrev pub AreModesOf : ℕ → ℕ → List Lock → List Mode → Type 0
AreModesOf k x ls modes = (m : Mode) → has_lock (lock_at k x m) ls ≡ list_any (is_same_mode m) modes

-- what other nodes do takes no lock on the item, which is at node p
abbrev pub IsApartFrom : ScriptData → ℕ → ℕ → ℕ → Place → Type 0
IsApartFrom s p x k y = (y.node == p) ≡ false → modes_on x (locked_by s k y.act) ≡ []

-- on item x these locks of node p are those of the look back, and each is of a transaction of the script
pub record AreStanding (s : ScriptData) (xs : List Place) (p : ℕ) (ls : List Lock) (x : ℕ) : Type 0 where
  pub modes : (k : ℕ) → AreModesOf k x ls (modes_standing s xs p x k)
  pub trees : (l : Lock) → has_lock l ls ≡ true → l.tree.0 < length s.trees

-- the transaction of a lock that is found
abbrev pub tree_of_lock : Option Lock → Option ℕ
tree_of_lock None = None
tree_of_lock (Some l) = Some l.tree.0
