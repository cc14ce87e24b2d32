-- What holds of locks whatever comes.
use Rattle.std.specs.Prelude.{◌≡◌, not, true, false, ◌&&◌, ◌||◌, ◌==◌, List, Some, None}
use Rattle.std.specs.List.{list_any}
use Rattle.tv_base.specs.declared.numbers.ItemNo.{ItemNo}
use Rattle.tv_base.specs.declared.numbers.TreeNo.{TreeNo}
use Rattle.nc_locks.specs.declared.modes.Lock.{Lock}
use Rattle.nc_locks.specs.declared.modes.Mode.{Mode}
use Rattle.nc_locks.specs.Modes.{mode_rank}
use Rattle.nc_locks.specs.Locks.{AreLocks, Wanted, comes_first, first_where, has_lock, is_in_way, modes_in, wanted_locks, with_locks, without}

-- once a transaction has taken what it needs, there are those locks and all those before
abbrev pub TakenStand : Type 0
TakenStand = (l : Lock) (t : TreeNo) (ws : Wanted) (ls : List Lock)
    → has_lock l (with_locks t ws ls) ≡ (has_lock l (wanted_locks t ws) || has_lock l ls)

-- once a transaction has none, there are those of all others
abbrev pub FreedAreGone : Type 0
FreedAreGone = (l : Lock) (t : TreeNo) (ls : List Lock)
    → has_lock l (without t ls) ≡ (not (l.tree.0 == t.0) && has_lock l ls)

-- both leave the locks in order
abbrev pub TakenAscend : Type 0
TakenAscend = (t : TreeNo) (ws : Wanted) (ls : List Lock) → AreLocks ls → AreLocks (with_locks t ws ls)

abbrev pub FreedAscend : Type 0
FreedAscend = (t : TreeNo) (ls : List Lock) → AreLocks ls → AreLocks (without t ls)

-- two lists in order with the same locks are one list
abbrev pub ListsAreTheirLocks : Type 0
ListsAreTheirLocks = (ls ms : List Lock) → AreLocks ls → AreLocks ms
    → ((l : Lock) → has_lock l ls ≡ has_lock l ms) → ls ≡ ms

-- a lock is there exactly if its mode is one in which its transaction has its item
abbrev pub ModesAreLocks : Type 0
ModesAreLocks = (l : Lock) (ls : List Lock)
    → has_lock l ls ≡ list_any (λ m. mode_rank l.mode == mode_rank m) (modes_in l.item.0 l.tree.0 ls)

-- the lock that is met is there and in the way, and comes before each other one in the way
abbrev pub MetIsFirst : Type 0
MetIsFirst = (t : TreeNo) (x : ItemNo) (m : Mode) (ls : List Lock) (l : Lock)
    → first_where (is_in_way t x m) ls ≡ Some l
    → (has_lock l ls ≡ true) × (is_in_way t x m l ≡ true)
    × ((q : Lock) → has_lock q ls ≡ true → is_in_way t x m q ≡ true → comes_first l q ≡ true)

-- if none is met, none is in the way
abbrev pub NoneInWay : Type 0
NoneInWay = (t : TreeNo) (x : ItemNo) (m : Mode) (ls : List Lock) → first_where (is_in_way t x m) ls ≡ None
    → (q : Lock) → has_lock q ls ≡ true → is_in_way t x m q ≡ false
