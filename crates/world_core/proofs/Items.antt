-- One turn of the loop over the script's items.
use Rattle.std.proofs.Common.{◌≡◌, ℕ, ◌+◌, ◌<◌, ◌==◌, true, false, List, [], ◌∷◌, ◌++◌, length, drop, refl, sym, ap, ◌∙◌, append_assoc, arith}
use Rattle.std.specs.Prelude.{slice_index_or}
use Rattle.std.proofs.lemmas.List.Elements.{All-append, All-from_recursion}
use Rattle.std.proofs.lemmas.List.{drop_more}
use Rattle.tv_base.specs.declared.numbers.ItemNo.{ItemNo}
use Rattle.commute_ops.specs.Ops.{value_start}
use Rattle.item_versions.specs.Item.{Held}
use Rattle.item_versions.specs.Table.{Table, IsAfter}
use Rattle.tx_trees.specs.declared.parts.ItemRow.{ItemRow}
use Rattle.world_model.specs.Node.{items_at}

-- an item as it begins
abbrev pub first_entry : ℕ → ItemRow → ItemNo × Held
first_entry x r = (record { 0 = x }, (record { 0 = 0 }, value_start r.kind r.initial) ∷ [])

open_true : (p x : ℕ) (r : ItemRow) (rs : List ItemRow) → (r.node.0 == p) ≡ true → items_at p x (r ∷ rs) ≡ first_entry x r ∷ items_at p (x + 1) rs
open_true p x r rs is = rw is refl

open_false : (p x : ℕ) (r : ItemRow) (rs : List ItemRow) → (r.node.0 == p) ≡ false → items_at p x (r ∷ rs) ≡ items_at p (x + 1) rs
open_false p x r rs is = rw is refl

next_of : (x : ℕ) (r : ItemRow) (rs : List ItemRow) → x < length rs → r ≡ slice_index_or rs x r → drop x rs ≡ r ∷ drop (x + 1) rs
next_of x r rs lt is = drop_more rs x r lt ∙ ap (λ (y : ItemRow). y ∷ drop (x + 1) rs) (sym is)

-- the row's item lies here
pub item_here : (p x : ℕ) (r : ItemRow) (rs : List ItemRow) (table new all : Table) → x < length rs → r ≡ slice_index_or rs x r
    → (r.node.0 == p) ≡ true → new ≡ table ++ first_entry x r ∷ []
    → table ++ items_at p x (drop x rs) ≡ all → new ++ items_at p (x + 1) (drop (x + 1) rs) ≡ all
item_here p x r rs table new all lt is test eq h =
    ap (λ (ys : Table). ys ++ items_at p (x + 1) (drop (x + 1) rs)) eq
    ∙ append_assoc table (first_entry x r ∷ []) (items_at p (x + 1) (drop (x + 1) rs))
    ∙ ap (λ (ys : Table). table ++ ys) (sym (ap (items_at p x) (next_of x r rs lt is) ∙ open_true p x r (drop (x + 1) rs) test))
    ∙ h

-- it lies elsewhere
pub item_elsewhere : (p x : ℕ) (r : ItemRow) (rs : List ItemRow) (table all : Table) → x < length rs → r ≡ slice_index_or rs x r
    → (r.node.0 == p) ≡ false
    → table ++ items_at p x (drop x rs) ≡ all → table ++ items_at p (x + 1) (drop (x + 1) rs) ≡ all
item_elsewhere p x r rs table all lt is test h =
    ap (λ (ys : Table). table ++ ys) (sym (ap (items_at p x) (next_of x r rs lt is) ∙ open_false p x r (drop (x + 1) rs) test))
    ∙ h

pub after_more : (x : ℕ) (t : Table) → IsAfter (record { 0 = x }) t → IsAfter (record { 0 = x + 1 }) t
after_more x t h = λ k d lt. let less = h k d lt in omega arith

one_after : (x : ℕ) (held : Held) → IsAfter (record { 0 = x + 1 }) ((record { 0 = x }, held) ∷ [])
one_after x held = All-from_recursion (λ (e : ItemNo × Held). e.0.0 < x + 1) ((record { 0 = x }, held) ∷ []) (omega arith, tt)

pub after_pushed : (x : ℕ) (held : Held) (t : Table) → IsAfter (record { 0 = x }) t → IsAfter (record { 0 = x + 1 }) (t ++ (record { 0 = x }, held) ∷ [])
after_pushed x held t h =
    All-append (λ e. e.0.0 < x + 1) t ((record { 0 = x }, held) ∷ []) (after_more x t h) (one_after x held)
