-- An item and its value, with = between them.
use Rattle.std.proofs.Common.{◌≡◌, ◌<◌, ◌∙◌, ◌∷◌, ◌++◌, [], List, true, ℕ, zero, suc, length, refl, sym, ap, subst, arith}
use Rattle.std.specs.Prelude.{slice_get, Option, Some, None}
use Rattle.tv_base.specs.declared.numbers.ItemNo.{ItemNo}
use Rattle.commute_ops.specs.declared.kinds.Kind.{Kind}
use Rattle.commute_ops.specs.declared.value.Value.{Value}
use Rattle.tx_trees.specs.ScriptData.{ScriptData}
use Rattle.tx_trees.specs.Valid.{IsValid}
use Rattle.tx_trees.specs.declared.parts.ItemRow.{ItemRow}
use Rattle.history_text.specs.TreeNames.{item_text}
use Rattle.history_text.specs.Values.{value_text}
use Rattle.history_text.specs.Printable.{IsGot, IsOfItem, IsOfKind}
use Rattle.history_text.specs.Parts.{lacks}
use Rattle.history_text.specs.Words.{HasItem, got_in_words, kind_at, name_of_item}
use Rattle.history_text.proofs.Cuts.{one_cut}
use Rattle.history_text.proofs.Lacking.{name_lacks}
use Rattle.history_text.proofs.Named.{item_there}
use Rattle.history_text.proofs.OneToOne.{item_one}

-- a value of an item is one of an item that is there
pub of_item : (xs : List ItemRow) (k : ℕ) (w : Value) → IsOfItem (slice_get xs k) w → (row : ItemRow) × (slice_get xs k ≡ Some row) × (k < length xs) × IsOfKind row.kind w
of_item [] k w may = absurd may
of_item (x ∷ xs) zero w may = (x, refl, omega arith, may)
of_item (x ∷ xs) (suc k) w may =
    let (row, at, less, kind) = of_item xs k w may in
    (row, at, omega (arith, less), kind)

-- an item's name without the byte =
pub item_lacks : (s : ScriptData) (x : ℕ) → IsValid s → x < length s.items → lacks 61 (item_text s x) ≡ true
item_lacks s x valid h =
    let (row, at, text, name) = item_there s x valid h in
    ap (lacks 61) text ∙ name_lacks 61 row.name refl name

-- the name and the value of what was got, where it is cut
pub record Cut (s : ScriptData) (name text : List ℕ) (x : ItemNo × Value) : Type 0 where
  pub row : ItemRow
  pub at : slice_get s.items x.0.0 ≡ Some row
  pub there : HasItem s x.0
  pub of_kind : IsOfKind row.kind x.1
  pub name_is : name ≡ name_of_item s x.0
  pub text_is : text ≡ value_text x.1

pub cut_got : (s : ScriptData) (field name text : List ℕ) (x : ItemNo × Value) → IsValid s → field ≡ name ++ 61 ∷ text → lacks 61 name ≡ true → field ≡ got_in_words s x → IsGot s x → Cut s name text x
cut_got s field name text x valid cut first is may =
    let (row, at, less, kind) = of_item s.items x.0.0 x.1 may in
    let both = one_cut 61 name (item_text s x.0.0) text (value_text x.1) first (item_lacks s x.0.0 valid less) (sym cut ∙ is) in
    record { row = row; at = at; there = less; of_kind = kind; name_is = both.0; text_is = both.1 }

pub no_item_there : (s : ScriptData) (field name text : List ℕ) → IsValid s → field ≡ name ++ 61 ∷ text → lacks 61 name ≡ true → ((x : ItemNo) → name ≡ name_of_item s x → HasItem s x → ⊥)
    → (x : ItemNo × Value) → field ≡ got_in_words s x → IsGot s x → ⊥
no_item_there s field name text valid cut first only x is may =
    let c = cut_got s field name text x valid cut first is may in
    only x.0 c.name_is c.there

-- values of an item by its kind
of_kind : (o : Option ItemRow) (kind : Kind) (w : Value) → (let found : Option Kind = elim o [ Some row ↦ Some row.kind | None ↦ None ] in found) ≡ Some kind → IsOfKind kind w → IsOfItem o w
of_kind None kind w is may = cc
of_kind (Some row) kind w is may =
    let same : row.kind ≡ kind = cc in
    subst (λ (k : Kind). IsOfKind k w) (sym same) may

pub no_value_there : (s : ScriptData) (field name text : List ℕ) (item : ItemNo) (kind : Kind) → IsValid s → field ≡ name ++ 61 ∷ text → lacks 61 name ≡ true → name ≡ name_of_item s item → HasItem s item
    → kind_at s item ≡ Some kind → ((w : Value) → text ≡ value_text w → IsOfKind kind w → ⊥) → (x : ItemNo × Value) → field ≡ got_in_words s x → IsGot s x → ⊥
no_value_there s field name text item kind valid cut first named there at only x is may =
    let c = cut_got s field name text x valid cut first is may in
    let same : x.0.0 ≡ item.0 = item_one s x.0.0 item.0 valid c.there there (sym c.name_is ∙ named) in
    let here : slice_get s.items item.0 ≡ Some c.row = ap (slice_get s.items) (sym same) ∙ c.at in
    let found : kind_at s item ≡ Some c.row.kind = rw (here, kind_at) refl in
    let both : Some c.row.kind ≡ Some kind = sym found ∙ at in
    let kinds : c.row.kind ≡ kind = cc in
    only x.1 c.text_is (subst (λ (k : Kind). IsOfKind k x.1) kinds c.of_kind)

pub got_read : (s : ScriptData) (field name text : List ℕ) (item : ItemNo) (kind : Kind) (w : Value) → field ≡ name ++ 61 ∷ text → name ≡ name_of_item s item → kind_at s item ≡ Some kind
    → text ≡ value_text w → IsOfKind kind w → (field ≡ got_in_words s (item, w)) × IsGot s (item, w)
got_read s field name text item kind w cut named at is may = (
  cut ∙ ap (λ (n : List ℕ). n ++ 61 ∷ text) named ∙ ap (λ (t : List ℕ). item_text s item.0 ++ 61 ∷ t) is,
  of_kind (slice_get s.items item.0) kind w at may,
)
