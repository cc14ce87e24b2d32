-- What the functions inside say: which lock is the first of those that pass a test, and how two sets of locks belong
-- together.
use Rattle.std.specs.Prelude.{◌≡◌, Bool, true, false, not, ◌&&◌, ◌||◌, ◌==◌, nat_lt, List, Option, Some, None}
use Rattle.std.specs.List.{filter, list_any}
use Rattle.std.specs.declared.cmp.Ordering.{Ordering}
use Rattle.std.specs.Ordering.{nat_cmp, ordering_then, is_eq}
use Rattle.tv_base.specs.declared.numbers.TreeNo.{TreeNo}
use Rattle.nc_locks.specs.declared.modes.Lock.{Lock}
use Rattle.nc_locks.specs.declared.owned.Owned.{Owned}
use Rattle.nc_locks.specs.Modes.{mode_rank}
use Rattle.nc_locks.specs.Locks.{AreLocks, Wanted, comes_first, has_lock, wanted_locks}

-- the lock passes a test and comes before each other that does; or none does
abbrev pub IsFirstOf : (Lock → Bool) → Option Lock → Type 0
IsFirstOf test None = (q : Lock) → test q ≡ false
IsFirstOf test (Some l) = (test l ≡ true) × ((q : Lock) → test q ≡ true → comes_first l q ≡ true)

-- the same of these locks
abbrev pub IsFirst : (Lock → Bool) → List Lock → Option Lock → Type 0
IsFirst test ls r = IsFirstOf (λ q. has_lock q ls && test q) r

-- two locks are on one item in one mode
abbrev pub same_place : Lock → Lock → Bool
same_place a b = (a.item.0 == b.item.0) && (mode_rank a.mode == mode_rank b.mode)

-- a lock at the same place, of a lesser transaction, of a greater transaction, and of any other transaction
abbrev pub is_of_lesser : Lock → Lock → Bool
is_of_lesser own l = same_place own l && nat_lt l.tree.0 own.tree.0

abbrev pub is_of_greater : Lock → Lock → Bool
is_of_greater own l = same_place own l && nat_lt own.tree.0 l.tree.0

abbrev pub is_of_other : Lock → Lock → Bool
is_of_other own l = same_place own l && not (l.tree.0 == own.tree.0)

-- the wanted locks that aren't there yet
abbrev pub missing_locks : TreeNo → Wanted → List Lock → List Lock
missing_locks t ws ls = filter (λ l. not (has_lock l ls)) (wanted_locks t ws)

-- a lock by its transaction
abbrev pub owned : Lock → Owned
owned l = record { tree = l.tree; item = l.item; mode = l.mode }

abbrev pub owned_order : Owned → Owned → Ordering
owned_order a b =
    ordering_then (nat_cmp a.tree.0 b.tree.0)
    (ordering_then (nat_cmp a.item.0 b.item.0) (nat_cmp (mode_rank a.mode) (mode_rank b.mode)))

abbrev pub has_owned : Owned → List Owned → Bool
has_owned o os = list_any (λ a. is_eq (owned_order o a)) os

-- the locks by item and the locks by transaction are the same
pub record AreMirrored (ls : List Lock) (os : List Owned) : Type 0 where
  pub same : (l : Lock) → has_owned (owned l) os ≡ has_lock l ls

-- what is kept is right
pub record AreKept (ls : List Lock) (os : List Owned) : Type 0 where
  pub ascending : AreLocks ls
  pub mirrored : AreMirrored ls os

-- some of these locks may be there that weren't before, and no other
pub record OthersStay (more old new : List Lock) : Type 0 where
  pub at : (l : Lock) → has_lock l more ≡ false → has_lock l new ≡ has_lock l old
  pub ascending : AreLocks new

-- there are these locks and those before, and no other
pub record AreAdded (more old new : List Lock) : Type 0 where
  pub at : (l : Lock) → has_lock l new ≡ (has_lock l more || has_lock l old)
  pub ascending : AreLocks new

-- these locks are gone, and each other one is as before
pub record AreTaken (gone old new : List Lock) : Type 0 where
  pub at : (l : Lock) → has_lock l new ≡ (not (has_lock l gone) && has_lock l old)
  pub ascending : AreLocks new

-- the lock is one of the transaction's
abbrev pub IsLockOf : TreeNo → List Lock → Option Lock → Type 0
IsLockOf t ls None = (q : Lock) → has_lock q ls ≡ true → (q.tree.0 == t.0) ≡ false
IsLockOf t ls (Some l) = (has_lock l ls ≡ true) × (l.tree.0 ≡ t.0)

-- some of the transaction's locks may be gone, and each other one is as before
pub record IsPartlyFree (t : TreeNo) (old new : List Lock) : Type 0 where
  pub at : (l : Lock) → (l.tree.0 == t.0) ≡ false → has_lock l new ≡ has_lock l old
  pub ascending : AreLocks new
