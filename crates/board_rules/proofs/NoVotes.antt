-- If no transaction has voted, nothing is in the way of an update transaction: all locks are marks.
use Rattle.std.proofs.Common.{◌≡◌, ◌==◌, ◌&&◌, ℕ, suc, Bool, true, false, List, [], ◌∷◌, ◌++◌, refl, ap, ◌∙◌, Some, None}
use Rattle.std.specs.Prelude.{if◌then◌else◌, filter, fold, length, map, not, slice_get}
use Rattle.std.specs.List.{AllByRecursion, list_any}
use Rattle.std.specs.Option.{option_or}
use Rattle.letter_types.specs.declared.acts.Act.{Act}
use Rattle.letter_types.specs.declared.acts.Act.TheVariants.{Did, Voted, Finished}
use Rattle.nc_locks.specs.Modes.{modes_conflict}
use Rattle.nc_locks.specs.declared.modes.Mode.{Mode}
use Rattle.nc_locks.specs.declared.modes.Mode.TheVariants.{Mark}
use Rattle.script_parts.specs.Wants.{mode_wanted}
use Rattle.script_parts.specs.ScriptData.{ScriptData, ops_of, updates}
use Rattle.script_parts.specs.Valid.{IsValid}
use Rattle.script_parts.specs.declared.parts.SubOp.{SubOp}
use Rattle.board_rules.specs.Histories.{Place}
use Rattle.board_rules.specs.Stands.{conflict_of, conflict_with, conflicts_with, holder_of, locked_by, modes_after, modes_on, modes_standing}
use Rattle.board_rules.proofs.Holders.{least_of_none}
use Rattle.board_rules.proofs.ItemAt.{marks_it}
use Rattle.board_rules.proofs.ActTests.{releases}

-- the act is no vote
abbrev pub IsNoVote : Act → Type 0
IsNoVote (Voted t k vote) = ⊥
IsNoVote Finished = Unit {0}
IsNoVote _ = Unit {0}

abbrev pub AreNoVotes : List Place → Type 0
AreNoVotes xs = AllByRecursion (λ (y : Place). IsNoVote y.act) xs

-- these operations mark their items
abbrev pub AreMarking : List SubOp → Type 0
AreMarking os = AllByRecursion (λ (o : SubOp). mode_wanted o.deed ≡ Mark) os

each_by : (os : List SubOp) → ((i : ℕ) (o : SubOp) → slice_get os i ≡ Some o → mode_wanted o.deed ≡ Mark) → AreMarking os
each_by [] all = tt
each_by (o ∷ os) all = (all 0 o refl, each_by os (λ i q is. all (suc i) q is))

-- so do those of an update tree
pub updates_mark : (s : ScriptData) (t k : ℕ) → IsValid s → updates s t ≡ true → AreMarking (ops_of s t k)
updates_mark s t k valid up = each_by (ops_of s t k) (λ i o is. marks_it s t k i o valid up is)

-- The modes that are taken.
abbrev AreMarks : List Mode → Type 0
AreMarks modes = AllByRecursion (λ (m : Mode). m ≡ Mark) modes

more_marks : (a b : List Mode) → AreMarks a → AreMarks b → AreMarks (a ++ b)
more_marks [] b all rest = rest
more_marks (m ∷ a) b all rest = (all.0, more_marks a b all.1 rest)

one_marks : (o : SubOp) (rest : List SubOp) (here : Bool) → mode_wanted o.deed ≡ Mark
    → AreMarks (map (λ (q : SubOp). mode_wanted q.deed) rest)
    → AreMarks (map (λ (q : SubOp). mode_wanted q.deed) (if here then o ∷ rest else rest))
one_marks o rest true is all = (is, all)
one_marks o rest false is all = all

on_marks : (x : ℕ) (os : List SubOp) → AreMarking os → AreMarks (modes_on x os)
on_marks x [] all = tt
on_marks x (o ∷ os) all = one_marks o (filter (λ (q : SubOp). q.item.0 == x) os) (o.item.0 == x) all.0 (on_marks x os all.1)

if_updates : (s : ScriptData) (x k j : ℕ) (its up : Bool) → IsValid s → updates s k ≡ up
    → AreMarks (modes_on x (if its && up then ops_of s k j else []))
if_updates s x k j true true valid is = on_marks x (ops_of s k j) (updates_mark s k j valid is)
if_updates s x k j true false valid is = tt
if_updates s x k j false up valid is = tt

act_marks : (s : ScriptData) (x k : ℕ) (a : Act) → IsValid s → IsNoVote a → AreMarks (modes_on x (locked_by s k a))
act_marks s x k (Did t j values) valid none = if_updates s x k j.0 (t.0 == k) (updates s k) valid refl
act_marks s x k (Voted t j vote) valid none = absurd none
act_marks s x k Finished valid none = tt
act_marks s x k _ valid none = tt

place_marks : (modes more : List Mode) (gone : Bool) → AreMarks modes → AreMarks more → AreMarks (if gone then [] else modes ++ more)
place_marks modes more true old new = tt
place_marks modes more false old new = more_marks modes more old new

stand_from : (s : ScriptData) (p x k : ℕ) (xs : List Place) (modes : List Mode) → IsValid s
    → AreNoVotes xs → AreMarks modes → AreMarks (fold (modes_after s p x k) modes xs)
stand_from s p x k [] modes valid none old = old
stand_from s p x k (y ∷ xs) modes valid none old =
    stand_from s p x k xs (modes_after s p x k modes y) valid none.1
    (place_marks modes (modes_on x (locked_by s k y.act)) ((y.node == p) && releases k y.act) old (act_marks s x k y.act valid none.0))

-- None of them conflicts with a mark.
none_conflicts : (modes : List Mode) → AreMarks modes → list_any (modes_conflict Mark) modes ≡ false
none_conflicts [] all = refl
none_conflicts (m ∷ modes) all = rw (all.0) (none_conflicts modes all.1)

both_false : (a b : Bool) → b ≡ false → (a && b) ≡ false
both_false true b is = is
both_false false b is = refl

no_holder : (s : ScriptData) (xs : List Place) (p t x : ℕ) (mode : Mode) → IsValid s
    → AreNoVotes xs → mode ≡ Mark → holder_of s xs p t x mode ≡ None
no_holder s xs p t x mode valid none is =
    ap (holder_of s xs p t x) is
    ∙ least_of_none (λ (k : ℕ). not (k == t) && conflicts_with s xs p x Mark k) 0 (length s.trees) (λ k.
    both_false (not (k == t)) (conflicts_with s xs p x Mark k)
    (none_conflicts (modes_standing s xs p x k) (stand_from s p x k xs [] valid none tt)))

no_conflict_in : (s : ScriptData) (xs : List Place) (p t : ℕ) (os : List SubOp) → IsValid s
    → AreNoVotes xs → AreMarking os → conflict_of s xs p t os ≡ None
no_conflict_in s xs p t [] valid none all = refl
no_conflict_in s xs p t (o ∷ os) valid none all =
    ap (λ r. option_or (conflict_with o.item r) (conflict_of s xs p t os)) (no_holder s xs p t o.item.0 (mode_wanted o.deed) valid none all.0)
    ∙ no_conflict_in s xs p t os valid none all.1

pub none_in_way : (s : ScriptData) (xs : List Place) (p t k : ℕ) → IsValid s → updates s t ≡ true
    → AreNoVotes xs → conflict_of s xs p t (ops_of s t k) ≡ None
none_in_way s xs p t k valid up none = no_conflict_in s xs p t (ops_of s t k) valid none (updates_mark s t k valid up)
