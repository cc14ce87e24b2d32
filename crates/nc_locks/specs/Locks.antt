-- The locks of all transactions, and what a transaction that needs more of them meets.
use Rattle.std.specs.Prelude.{ℕ, Bool, not, ◌&&◌, ◌||◌, ◌==◌, nat_lt, nat_le, List, [], ◌∷◌, map, if◌then◌else◌, Option, Some, None}
use Rattle.std.specs.List.{filter, list_any}
use Rattle.std.specs.List.Sorted.{IsStrictlySortedBy}
use Rattle.std.specs.Option.{option_or}
use Rattle.std.specs.declared.cmp.Ordering.{Ordering}
use Rattle.std.specs.Ordering.{nat_cmp, ordering_then, is_eq}
use Rattle.std.specs.BTreeSet.{insert_key}
use Rattle.tv_base.specs.declared.numbers.ItemNo.{ItemNo}
use Rattle.tv_base.specs.declared.numbers.TreeNo.{TreeNo}
use Rattle.nc_locks.specs.declared.modes.Lock.{Lock}
use Rattle.nc_locks.specs.declared.modes.Met.{Met}
use Rattle.nc_locks.specs.declared.modes.Mode.{Mode}
use Rattle.nc_locks.specs.Modes.{modes_conflict, mode_rank}

-- locks are ordered by item, then by mode, then by transaction
abbrev pub lock_order : Lock → Lock → Ordering
lock_order a b =
    ordering_then (nat_cmp a.item.0 b.item.0)
    (ordering_then (nat_cmp (mode_rank a.mode) (mode_rank b.mode)) (nat_cmp a.tree.0 b.tree.0))

-- the locks of all transactions are a list in this order, each once
abbrev pub AreLocks : List Lock → Type 0
AreLocks ls = IsStrictlySortedBy lock_order ls

-- the lock is there
abbrev pub has_lock : Lock → List Lock → Bool
has_lock l ls = list_any (λ a. is_eq (lock_order l a)) ls

-- the modes in which transaction k has item x
abbrev pub modes_in : ℕ → ℕ → List Lock → List Mode
modes_in x k ls = map (λ (l : Lock). l.mode) (filter (λ (l : Lock). (l.item.0 == x) && (l.tree.0 == k)) ls)

-- the transaction's lock on an item in a mode
abbrev pub lock_of : TreeNo → ItemNo → Mode → Lock
lock_of t x m = record { item = x; mode = m; tree = t }

-- the locks that a transaction needs, each an item with a mode
abbrev pub Wanted : Type 0
Wanted = List (ItemNo × Mode)

abbrev pub wanted_locks : TreeNo → Wanted → List Lock
wanted_locks t ws = map (λ w. lock_of t w.0 w.1) ws

-- the locks with more of them, each at its place unless it is there
abbrev pub with_each : List Lock → List Lock → List Lock
with_each [] ls = ls
with_each (a ∷ more) ls = with_each more (insert_key lock_order ls a)

-- the locks, once the transaction has those that it needs
abbrev pub with_locks : TreeNo → Wanted → List Lock → List Lock
with_locks t ws ls = with_each (wanted_locks t ws) ls

-- the locks, once the transaction has none
abbrev pub without : TreeNo → List Lock → List Lock
without t ls = filter (λ (l : Lock). not (l.tree.0 == t.0)) ls

-- the lock is in the way of transaction t, which needs item x in mode m: another transaction's, on the item, in a mode
-- that conflicts
abbrev pub is_in_way : TreeNo → ItemNo → Mode → Lock → Bool
is_in_way t x m l = (l.item.0 == x.0) && (not (l.tree.0 == t.0) && modes_conflict m l.mode)

-- of two locks on an item the first is that of the lesser transaction, and of a transaction's locks the one of the
-- first mode
abbrev pub comes_first : Lock → Lock → Bool
comes_first a b =
    nat_lt a.tree.0 b.tree.0 || ((a.tree.0 == b.tree.0) && nat_le (mode_rank a.mode) (mode_rank b.mode))

abbrev pub first_of : Option Lock → Option Lock → Option Lock
first_of None b = b
first_of (Some a) None = Some a
first_of (Some a) (Some b) = if comes_first a b then Some a else Some b

-- of the locks that pass a test, the first
abbrev pub first_where : (Lock → Bool) → List Lock → Option Lock
first_where test [] = None
first_where test (l ∷ ls) = if test l then first_of (Some l) (first_where test ls) else first_where test ls

-- what a transaction meets that needs one lock
abbrev pub met_by : Option Lock → Option Met
met_by None = None
met_by (Some l) = Some (record { item = l.item; holder = l.tree; mode = l.mode })

-- what a transaction meets that needs locks: at the first of them that has a lock in its way, the first such lock
abbrev pub met_in : TreeNo → Wanted → List Lock → Option Met
met_in t [] ls = None
met_in t (w ∷ ws) ls = option_or (met_by (first_where (is_in_way t w.0 w.1) ls)) (met_in t ws ls)

-- marks on items
abbrev pub marks_on : List ItemNo → Wanted
marks_on xs = map (λ x. (x, Rattle.nc_locks.specs.declared.modes.Mode.TheVariants.Mark)) xs

-- the locks after a try: a transaction that meets another's lock gets none
abbrev pub locks_after : Option Met → TreeNo → Wanted → List Lock → List Lock
locks_after None t ws ls = with_locks t ws ls
locks_after (Some met) t ws ls = ls
