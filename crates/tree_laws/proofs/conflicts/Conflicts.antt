-- The lock that a transaction meets is the conflict that the look back names.
use Rattle.std.proofs.Common.{◌≡◌, ◌==◌, ◌&&◌, ℕ, suc, Bool, true, false, List, [], ◌∷◌, refl, sym, ap, ◌∙◌, arith, Option, Some, None}
use Rattle.std.specs.Option.{option_or}
use Rattle.std.proofs.lemmas.Bool.Decides.{nat_tests}
use Rattle.std.specs.Prelude.{not}
use Rattle.tv_base.specs.declared.numbers.ItemNo.{ItemNo}
use Rattle.tv_base.specs.declared.numbers.TreeNo.{TreeNo}
use Rattle.letter_types.specs.declared.votes.Cause.{Cause}
use Rattle.letter_types.specs.declared.votes.Cause.TheVariants.{Conflict}
use Rattle.nc_locks.specs.declared.modes.Lock.{Lock}
use Rattle.nc_locks.specs.declared.modes.Met.{Met}
use Rattle.nc_locks.specs.declared.modes.Mode.{Mode}
use Rattle.nc_locks.specs.Locks.{first_where, is_in_way, met_by, met_in}
use Rattle.nc_locks.specs.Modes.{modes_conflict}
use Rattle.nc_locks.proofs.Always.{met_is_first}
use Rattle.script_parts.specs.Wants.{mode_wanted, wanted_by}
use Rattle.world_model.specs.Votes.{conflict_by}
use Rattle.board_rules.specs.Locked.{tree_of_lock}
use Rattle.board_rules.specs.Stands.{conflict_with, holder_of}
use Rattle.board_rules.proofs.Holders.{holder_is}
use Rattle.tree_laws.specs.Locks.{MetIsConflict}

-- the first of two
first_by : (a b : Option Met) → conflict_by (option_or a b) ≡ option_or (conflict_by a) (conflict_by b)
first_by None b = refl
first_by (Some m) b = refl

-- the lock that is found is on the item that is needed
one_by : (t : TreeNo) (x : ItemNo) (m : Mode) (ls : List Lock) (r : Option Lock) → first_where (is_in_way t x m) ls ≡ r
    → conflict_by (met_by r) ≡ conflict_with x (tree_of_lock r)
one_by t x m ls None is = refl
one_by t x m ls (Some l) is =
    let first = met_is_first t x m ls l is in
    let item : l.item.0 ≡ x.0 = on_it (l.item.0 == x.0) (not (l.tree.0 == t.0) && modes_conflict m l.mode) refl first.1 in
    ap (λ (n : ℕ). Some (Conflict (record { 0 = n }) l.tree)) item where
      on_it : (a b : Bool) → (l.item.0 == x.0) ≡ a → (a && b) ≡ true → l.item.0 ≡ x.0
      on_it true b here is = grind (arith, nat_tests, here)
      on_it false b there is = absurd (let no_such : false ≡ true = is in cc no_such)

pub met_is_conflict : MetIsConflict
met_is_conflict s xs p ls t [] are = refl
met_is_conflict s xs p ls t (o ∷ os) are =
    let m = mode_wanted o.deed in
    let one = one_by t o.item m ls (first_where (is_in_way t o.item m) ls) refl
    ∙ ap (conflict_with o.item) (sym (holder_is s xs p ls t o.item m (are 0 o refl))) in
    first_by (met_by (first_where (is_in_way t o.item m) ls)) (met_in t (wanted_by os) ls)
    ∙ ap (λ (c : Option Cause). option_or c (conflict_by (met_in t (wanted_by os) ls))) one
    ∙ ap (λ (c : Option Cause). option_or (conflict_with o.item (holder_of s xs p t.0 o.item.0 m)) c)
    (met_is_conflict s xs p ls t os (λ i q is. are (suc i) q is))
