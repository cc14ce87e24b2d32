-- Who has which item in which mode, by what transactions have done and voted: the operations on an item, transaction by
-- transaction, and which of them stand.
use Rattle.std.specs.Prelude.{if◌then◌else◌, ℕ, suc, max, Bool, true, false, not, ◌==◌, ◌&&◌, ◌||◌, List, [], ◌∷◌, ◌++◌, ◌≡◌, ◌<◌, length, get_or, Option, Some, None, min, nat_lt, slice_get, take}
use Rattle.std.specs.List.{list_any}
use Rattle.tv_base.specs.declared.numbers.TreeNo.{TreeNo}
use Rattle.letter_types.specs.declared.votes.Cause.{Cause}
use Rattle.letter_types.specs.declared.votes.Cause.TheVariants.{Newer}
use Rattle.nc_locks.specs.Modes.{modes_conflict}
use Rattle.nc_locks.specs.declared.modes.Mode.{Mode}
use Rattle.nc_locks.specs.declared.modes.Mode.TheVariants.{Mark, Look, Hold}
use Rattle.script_parts.specs.Wants.{mode_wanted}
use Rattle.script_parts.specs.ScriptData.{ScriptData, is_strict, is_update, updates}
use Rattle.script_parts.specs.declared.parts.Sub.{Sub}
use Rattle.script_parts.specs.declared.parts.SubOp.{SubOp}
use Rattle.script_parts.specs.declared.parts.Tree.{Tree}
use Rattle.script_parts.specs.declared.parts.TreeKind.{TreeKind}
use Rattle.board_rules.specs.Histories.{Place, version_in, version_or, was_applied, was_decided_as, was_done}
use Rattle.board_rules.specs.Stands.{modes_on, newest_of, overwrites, voted_yes, was_freed}
use Rattle.board_judge.specs.declared.users.User.{User}

-- subtransaction j of transaction k has taken its items: an update transaction's was done, or it has voted yes
abbrev pub has_taken : ScriptData → List Place → ℕ → ℕ → Bool
has_taken s xs k j = (updates s k && was_done k j xs) || voted_yes k j xs

-- the operation was done in an update transaction
abbrev pub was_updated : ScriptData → List Place → User → Bool
was_updated s xs u = updates s u.tree.0 && was_done u.tree.0 u.sub.0 xs

-- of these subtransactions of transaction k, the first of which is number j, one has taken item x in a mode that passes
abbrev pub any_taken : ScriptData → List Place → ℕ → ℕ → (Mode → Bool) → ℕ → List Sub → Bool
any_taken s xs x k test j [] = false
any_taken s xs x k test j (sub ∷ subs) =
    (has_taken s xs k j && list_any test (modes_on x sub.ops)) || any_taken s xs x k test (suc j) subs

-- the operations of a script's transactions of a kind on item x, in order of transactions, subtransactions and
-- operations
abbrev pub user_of : ℕ → ℕ → SubOp → User
user_of t j o = record { tree = record { 0 = t }; sub = record { 0 = j }; mode = mode_wanted o.deed }

abbrev pub ops_users : ℕ → ℕ → ℕ → List SubOp → List User
ops_users t j x [] = []
ops_users t j x (o ∷ os) = if o.item.0 == x then user_of t j o ∷ ops_users t j x os else ops_users t j x os

abbrev pub subs_users : ℕ → ℕ → ℕ → List Sub → List User
subs_users t j x [] = []
subs_users t j x (sub ∷ subs) = ops_users t j x sub.ops ++ subs_users t (suc j) x subs

abbrev pub tree_users : (TreeKind → Bool) → ℕ → ℕ → Tree → List User
tree_users of t x tree = if of tree.kind then subs_users t 0 x tree.subs else []

abbrev pub trees_users : (TreeKind → Bool) → ℕ → ℕ → List Tree → List User
trees_users of t x [] = []
trees_users of t x (tree ∷ trees) = tree_users of t x tree ++ trees_users of (suc t) x trees

abbrev pub users_of : (TreeKind → Bool) → ScriptData → ℕ → List User
users_of of s x = trees_users of 0 x s.trees

-- what transaction k has at node p was let go
abbrev pub was_let_go : ℕ → ℕ → List Place → Bool
was_let_go k p xs = was_freed k p xs || was_applied k p xs

-- the operation stands at node p against transaction t, which needs its item in this mode
abbrev pub stands_against : ScriptData → List Place → ℕ → ℕ → Mode → User → Bool
stands_against s xs p t mode u =
    not (u.tree.0 == t)
    && (not (was_let_go u.tree.0 p xs) && (has_taken s xs u.tree.0 u.sub.0 && modes_conflict mode u.mode))

-- transaction k is there, and is of this kind
abbrev pub is_tree_of : (TreeKind → Bool) → ScriptData → ℕ → Bool
is_tree_of of s k = elim (slice_get s.trees k) [ Some tree ↦ of tree.kind | None ↦ false ]

-- the lesser of two numbers, if there are two
abbrev pub lesser_number : Option ℕ → Option ℕ → Option ℕ
lesser_number None b = b
lesser_number (Some a) None = Some a
lesser_number (Some a) (Some b) = Some (min a b)

abbrev pub lesser_tree : Option TreeNo → Option TreeNo → Option TreeNo
lesser_tree None b = b
lesser_tree (Some a) None = Some a
lesser_tree (Some a) (Some b) = Some (record { 0 = min a.0 b.0 })

-- the mode is that of commuting operations
abbrev pub is_mark : Mode → Bool
is_mark Mark = true
is_mark Look = false
is_mark Hold = false

-- the transaction of the first operation that passes
abbrev pub first_tree : (User → Bool) → List User → Option ℕ
first_tree test [] = None
first_tree test (u ∷ us) = if test u then Some u.tree.0 else first_tree test us

-- the operation has written its item, which is at node p: it changes it, and was done in an update transaction, or its
-- transaction's commit was applied there
abbrev pub changes_in : Mode → Bool
changes_in Look = false
changes_in Mark = true
changes_in Hold = true

abbrev pub has_written : ScriptData → List Place → ℕ → User → Bool
has_written s xs p u =
    changes_in u.mode
    && ((updates s u.tree.0 && was_done u.tree.0 u.sub.0 xs) || (was_decided_as u.tree.0 true xs && was_applied u.tree.0 p xs))

-- the greatest version of a transaction whose operation has written
abbrev pub version_by : List Place → User → ℕ
version_by xs u = version_or 0 (version_in u.tree.0 xs)

abbrev pub newest_by : ScriptData → List Place → ℕ → List User → ℕ
newest_by s xs p [] = 0
newest_by s xs p (u ∷ us) = if has_written s xs p u then max (version_by xs u) (newest_by s xs p us) else newest_by s xs p us

-- a version, or that of an operation which has written in a greater one
abbrev pub newest_with : ScriptData → List Place → ℕ → User → ℕ → ℕ
newest_with s xs p u v = if has_written s xs p u then max v (version_by xs u) else v

-- an operation that writes an item which is written in a version above v, as a cause
abbrev pub newer_item : ScriptData → List Place → ℕ → ℕ → SubOp → Option Cause
newer_item s xs p v o =
    if overwrites o.deed && nat_lt v (newest_of s xs p o.item.0)
    then Some (Newer o.item (record { 0 = newest_of s xs p o.item.0 })) else None

-- Lists by item.

-- each list has these more at its end
pub record HasMore (more : ℕ → List User) (olds news : List (List User)) : Type 0 where
  pub count : length news ≡ length olds
  pub each : (x : ℕ) → x < length olds → get_or news x [] ≡ get_or olds x [] ++ more x

-- there are that many lists, and nothing is in them
pub record HaveNoUsers (items : ℕ) (lists : List (List User)) : Type 0 where
  pub count : length lists ≡ items
  pub each : (x : ℕ) → get_or lists x [] ≡ []

-- the kind of the transactions that are meant
abbrev pub is_meant : Bool → TreeKind → Bool
is_meant strict k = if strict then is_strict k else is_update k

-- each list has the transaction's operations on its item more at its end, if the transaction is of the kind that is
-- meant
abbrev pub HasTreeMore : Bool → ℕ → Tree → List (List User) → List (List User) → Type 0
HasTreeMore strict t tree olds news = HasMore (λ (x : ℕ). tree_users (is_meant strict) t x tree) olds news

-- for each item they are the operations on it of the script's strict transactions, or of its update transactions: of
-- the first n transactions, and of all
pub record AreUsersTo (s : ScriptData) (strict : Bool) (n : ℕ) (lists : List (List User)) : Type 0 where
  pub count : length lists ≡ length s.items
  pub each : (x : ℕ) → x < length lists → get_or lists x [] ≡ trees_users (is_meant strict) 0 x (take n s.trees)

pub record AreUsersBy (s : ScriptData) (strict : Bool) (lists : List (List User)) : Type 0 where
  pub count : length lists ≡ length s.items
  pub each : (x : ℕ) → x < length lists → get_or lists x [] ≡ users_of (is_meant strict) s x
