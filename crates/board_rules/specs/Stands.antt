-- Which locks are at a place of a history, and why a subtransaction of a strict transaction votes no: a look back over
-- the acts.
use Rattle.std.specs.Prelude.{if◌then◌else◌, ℕ, zero, suc, Bool, false, ◌==◌, ◌&&◌, ◌||◌, not, max, nat_lt, List, [], ◌∷◌, ◌++◌, fold, filter, length, map, Option, Some, None}
use Rattle.std.specs.List.{list_any}
use Rattle.std.specs.Option.{option_or}
use Rattle.tv_base.specs.declared.numbers.ItemNo.{ItemNo}
use Rattle.letter_types.specs.declared.acts.Act.{Act}
use Rattle.letter_types.specs.declared.acts.Act.TheVariants.{Did, Voted, Freed, Applied}
use Rattle.letter_types.specs.declared.entries.Entry.{Entry}
use Rattle.letter_types.specs.declared.votes.Cause.{Cause}
use Rattle.letter_types.specs.declared.votes.Cause.TheVariants.{Conflict, Newer}
use Rattle.letter_types.specs.Causes.{short_cause}
use Rattle.letter_types.specs.declared.votes.Vote.{Vote}
use Rattle.letter_types.specs.declared.votes.Vote.TheVariants.{Yes, No}
pub use Rattle.script_parts.specs.Deeds.{found_short, overwrites}
use Rattle.nc_locks.specs.Modes.{modes_conflict}
use Rattle.nc_locks.specs.declared.modes.Mode.{Mode}
use Rattle.script_parts.specs.Wants.{mode_wanted}
use Rattle.script_parts.specs.ScriptData.{ScriptData, ops_of, subs_at, updates}
use Rattle.script_parts.specs.declared.parts.SubOp.{SubOp}
use Rattle.board_rules.specs.Histories.{Place, applies, version_in, version_or}
use Rattle.board_rules.specs.Worth.{ops_change, subs_change, worth}

-- the operations whose locks the act takes for transaction k: those that an update transaction has done, and those that
-- a strict transaction has voted yes for; a read transaction takes none
abbrev pub locked_by : ScriptData → ℕ → Act → List SubOp
locked_by s k (Did t j values) = if (t.0 == k) && updates s k then ops_of s k j.0 else []
locked_by s k (Voted t j (Yes values)) = if t.0 == k then ops_of s k j.0 else []
locked_by s k _ = []

-- the marks of transaction t went at node p
abbrev pub frees : ℕ → Act → Bool
frees t (Freed u) = u.0 == t
frees t _ = false

abbrev pub was_freed : ℕ → ℕ → List Place → Bool
was_freed t p xs = list_any (λ (x : Place). (x.node == p) && frees t x.act) xs

-- the modes on item x among those of these operations
abbrev pub modes_on : ℕ → List SubOp → List Mode
modes_on x os = map (λ (o : SubOp). mode_wanted o.deed) (filter (λ (o : SubOp). o.item.0 == x) os)

-- the modes in which transaction k has item x, which is at node p, after an act and after these acts: what it has at
-- its node goes with its marks, and if what was decided of it is applied
abbrev pub modes_after : ScriptData → ℕ → ℕ → ℕ → List Mode → Place → List Mode
modes_after s p x k modes y =
    if (y.node == p) && (frees k y.act || applies k y.act) then [] else modes ++ modes_on x (locked_by s k y.act)

abbrev pub modes_standing : ScriptData → List Place → ℕ → ℕ → ℕ → List Mode
modes_standing s xs p x k = fold (modes_after s p x k) [] xs

-- transaction k has the item in a mode that conflicts with this one
abbrev pub conflicts_with : ScriptData → List Place → ℕ → ℕ → Mode → ℕ → Bool
conflicts_with s xs p x mode k = list_any (modes_conflict mode) (modes_standing s xs p x k)

-- the least number from k on, of at most n, that passes a test
abbrev pub least_from : (ℕ → Bool) → ℕ → ℕ → Option ℕ
least_from test k zero = None
least_from test k (suc n) = if test k then Some k else least_from test (suc k) n

-- the transaction of least number, other than t, that has the item in a mode that conflicts with this one
abbrev pub holder_of : ScriptData → List Place → ℕ → ℕ → ℕ → Mode → Option ℕ
holder_of s xs p t x mode =
    least_from (λ (k : ℕ). not (k == t) && conflicts_with s xs p x mode k) 0 (length s.trees)

-- the first of these operations whose item is so held, as a cause
abbrev pub conflict_with : ItemNo → Option ℕ → Option Cause
conflict_with x None = None
conflict_with x (Some k) = Some (Conflict x (record { 0 = k }))

abbrev pub conflict_of : ScriptData → List Place → ℕ → ℕ → List SubOp → Option Cause
conflict_of s xs p t [] = None
conflict_of s xs p t (o ∷ os) =
    option_or (conflict_with o.item (holder_of s xs p t o.item.0 (mode_wanted o.deed))) (conflict_of s xs p t os)

-- the version of the transaction by whose act item x was written, else 0: an update transaction's Did writes, and the
-- Applied of a commit at the item's node
abbrev pub written_by : ScriptData → List Place → ℕ → Bool → Act → ℕ
written_by s xs x here (Did t j values) =
    if updates s t.0 && ops_change x (ops_of s t.0 j.0) then version_or 0 (version_in t.0 xs) else 0
written_by s xs x here (Applied t commit) =
    if here && (commit && subs_change x (subs_at s t.0)) then version_or 0 (version_in t.0 xs) else 0
written_by s xs x here _ = 0

abbrev pub written_in : ScriptData → List Place → ℕ → ℕ → Place → ℕ
written_in s xs p x y = written_by s xs x (y.node == p) y.act

-- the greatest version in which item x was written
abbrev pub newest_of : ScriptData → List Place → ℕ → ℕ → ℕ
newest_of s xs p x = fold (λ (v : ℕ) (y : Place). max v (written_in s xs p x y)) 0 xs

-- the first of these operations that writes an item which is written in a version above v, as a cause
abbrev pub newer_of : ScriptData → List Place → ℕ → ℕ → List SubOp → Option Cause
newer_of s xs p v [] = None
newer_of s xs p v (o ∷ os) =
    if overwrites o.deed && nat_lt v (newest_of s xs p o.item.0)
    then Some (Newer o.item (record { 0 = newest_of s xs p o.item.0 })) else newer_of s xs p v os

-- the first of these operations that draws more than its item is worth at version v, as a cause
abbrev pub short_of : ScriptData → List Entry → ℕ → List SubOp → Option Cause
short_of s before v [] = None
short_of s before v (o ∷ os) = option_or (short_cause o.item (found_short o.deed (worth s before o.item.0 v))) (short_of s before v os)

-- why a subtransaction of strict transaction t with these operations at node p votes no, if it does: a lock that
-- conflicts, else a newer version, else a value that is short
abbrev pub cause_of : ScriptData → List Entry → List Place → ℕ → ℕ → List SubOp → Option Cause
cause_of s before xs p t os =
    let v = version_or 0 (version_in t xs) in
    option_or (conflict_of s xs p t os) (option_or (newer_of s xs p v os) (short_of s before v os))

-- the cause that a vote names
abbrev pub refusal_in : Vote → Option Cause
refusal_in (Yes values) = None
refusal_in (No cause) = Some cause

-- subtransaction k of transaction t has voted, or has voted yes
abbrev pub votes : ℕ → ℕ → Act → Bool
votes t k (Voted u j vote) = (u.0 == t) && (j.0 == k)
votes t k _ = false

abbrev pub votes_yes : ℕ → ℕ → Act → Bool
votes_yes t k (Voted u j (Yes values)) = (u.0 == t) && (j.0 == k)
votes_yes t k _ = false

abbrev pub was_voted : ℕ → ℕ → List Place → Bool
was_voted t k xs = list_any (λ (x : Place). votes t k x.act) xs

abbrev pub voted_yes : ℕ → ℕ → List Place → Bool
voted_yes t k xs = list_any (λ (x : Place). votes_yes t k x.act) xs
