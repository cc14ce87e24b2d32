-- What a valid script says of the operations of a subtransaction.
use Rattle.std.proofs.Common.{◌≡◌, inl, inr, ◌||◌, ℕ, ◌<◌, Bool, true, false, List, [], ◌∷◌, length, refl, sym, ap, subst, ◌∙◌, Option, Some, None}
use Rattle.std.specs.Prelude.{cond, slice_get}
use Rattle.std.specs.List.{AllByRecursion}
use Rattle.std.proofs.lemmas.Bool.{or_left, or_right}
use Rattle.commute_ops.specs.declared.kinds.Kind.{Kind}
use Rattle.commute_ops.specs.declared.kinds.Kind.TheVariants.{Sum as SumKind, Top as TopKind, Bag as BagKind}
use Rattle.nc_locks.specs.declared.modes.Mode.TheVariants.{Mark}
use Rattle.script_parts.specs.Wants.{mode_wanted}
use Rattle.script_parts.specs.Counts.{has_strict}
use Rattle.script_parts.specs.ScriptData.{ScriptData, is_read, ops_of, reads, sub_at, subs_at, updates}
use Rattle.script_parts.specs.Valid.{IsOp, IsTree, IsValid, OpAt, deed_fits}
use Rattle.script_parts.specs.declared.parts.Deed.{Deed}
use Rattle.script_parts.specs.declared.parts.Deed.TheVariants.{Apply, Get, Set, Draw}
use Rattle.script_parts.specs.declared.parts.ItemRow.{ItemRow}
use Rattle.script_parts.specs.declared.parts.Sub.{Sub}
use Rattle.script_parts.specs.declared.parts.SubOp.{SubOp}
use Rattle.script_parts.specs.declared.parts.Tree.{Tree}
use Rattle.script_parts.specs.declared.parts.TreeKind.{TreeKind}
use Rattle.script_parts.specs.declared.parts.TreeKind.TheVariants.{Update, Read, Strict}
use Rattle.script_parts.proofs.SubsOf.{all_at, found_subs}
use Rattle.tx_trees.proofs.Stays.{op_within}
use Rattle.board_rules.specs.Right.{gets_among, is_get}
use Rattle.board_rules.proofs.ItemAt.{ops_of_subs}
use Rattle.board_rules.proofs.NoVotes.{updates_mark}
use Rattle.board_rules.proofs.TreeSubs.{found_ops}
use Rattle.board_judge.specs.Views.{AreThere, MayLook, MayNeed}
use Rattle.board_judge.specs.Notes.{Suits, SuitsAt}
use Rattle.worth_steps.specs.Worth.{deed_suits}

-- the operations of a subtransaction: there are none, or each fits the tree's kind and its item
data FitHere (s : ScriptData) (t k : ℕ) : Type 0 where
  NoneHere : ops_of s t k ≡ [] → FitHere s t k
  AllFit : (tree : Tree) (node : ℕ) → slice_get s.trees t ≡ Some tree → AllByRecursion (IsOp s.items tree.kind node) (ops_of s t k) → FitHere s t k

fit_here : (s : ScriptData) (t k : ℕ) → IsValid s → FitHere s t k
fit_here s t k valid = by (slice_get s.trees t) refl (sub_at s t k) refl where
  by : (tree : Option Tree) → slice_get s.trees t ≡ tree → (sub : Option Sub) → sub_at s t k ≡ sub → FitHere s t k
  by tree at None here = NoneHere (ap (λ (f : Option Sub). elim f [ Some sub ↦ sub.ops | None ↦ [] ]) here)
  by None at (Some sub) here =
      let none : subs_at s t ≡ [] = ap (λ (f : Option Tree). elim f [ Some tree ↦ tree.subs | None ↦ [] ]) at in
      absurd (cc (sym (ap (λ (ks : List Sub). slice_get ks k) none) ∙ here))
  by (Some tree) at (Some sub) here =
      let subs = (all_at (IsTree s.nodes s.items) s.trees t tree valid.trees at).subs in
      let there : slice_get tree.subs k ≡ Some sub = sym (ap (λ (ks : List Sub). slice_get ks k) (found_subs s t tree at)) ∙ here in
      AllFit tree sub.node.0 at
      (subst (AllByRecursion (IsOp s.items tree.kind sub.node.0)) (sym (found_ops s t k sub here))
      (ops_of_subs s.nodes s.items tree.kind 0 k tree.subs sub subs there))

pub each_op : (P Q : SubOp → Type 0) (os : List SubOp) → ((o : SubOp) → P o → Q o) → AllByRecursion P os → AllByRecursion Q os
each_op P Q [] to all = tt
each_op P Q (o ∷ os) to all = (to o all.0, each_op P Q os to all.1)

pub ops_there : (s : ScriptData) (t k : ℕ) → IsValid s → AreThere s (ops_of s t k)
ops_there s t k valid = elim (fit_here s t k valid) [
  | NoneHere none ↦ subst (AreThere s) (sym none) tt
  | AllFit tree node at all ↦ each_op (IsOp s.items tree.kind node) (λ (o : SubOp). o.item.0 < length s.items) (ops_of s t k) (op_within s.items tree.kind node) all
]

-- an update tree needs marks alone, and where a strict tree asks there is one
pub marks_asked : (s : ScriptData) (t k : ℕ) → IsValid s → updates s t ≡ true → MayLook s (ops_of s t k)
marks_asked s t k valid up =
    each_op (λ (o : SubOp). mode_wanted o.deed ≡ Mark) (λ (o : SubOp). MayNeed s (mode_wanted o.deed)) (ops_of s t k) (λ o is. inl is)
    (updates_mark s t k valid up)

pub all_asked : (s : ScriptData) (os : List SubOp) → has_strict s ≡ true → MayLook s os
all_asked s [] has = tt
all_asked s (o ∷ os) has = (inr has, all_asked s os has)

-- a read tree only gets
get_fits : (kind : TreeKind) (item : Kind) (d : Deed) → is_read kind ≡ true → deed_fits kind item d ≡ true → is_get d ≡ true
get_fits Update item d is fits = absurd (cc is)
get_fits Strict item d is fits = absurd (cc is)
get_fits Read item Get is fits = refl
get_fits Read SumKind (Apply op) is fits = absurd (cc fits)
get_fits Read TopKind (Apply op) is fits = absurd (cc fits)
get_fits Read BagKind (Apply op) is fits = absurd (cc fits)
get_fits Read SumKind (Set n) is fits = absurd (cc fits)
get_fits Read TopKind (Set n) is fits = absurd (cc fits)
get_fits Read BagKind (Set n) is fits = absurd (cc fits)
get_fits Read SumKind (Draw n) is fits = absurd (cc fits)
get_fits Read TopKind (Draw n) is fits = absurd (cc fits)
get_fits Read BagKind (Draw n) is fits = absurd (cc fits)

get_of : (items : List ItemRow) (kind : TreeKind) (node : ℕ) → is_read kind ≡ true → (o : SubOp) → IsOp items kind node o → is_get o.deed ≡ true
get_of items kind node reading o is = by (slice_get items o.item.0) is where
  by : (row : Option ItemRow) → OpAt kind node o row → is_get o.deed ≡ true
  by None fits = absurd fits
  by (Some row) fits = get_fits kind row.kind o.deed reading fits.1

all_gets : (os : List SubOp) → AllByRecursion (λ (o : SubOp). is_get o.deed ≡ true) os → gets_among os ≡ os
all_gets [] all = refl
all_gets (o ∷ os) all = by (is_get o.deed) all.0 (all_gets os all.1) where
  by : (b : Bool) → b ≡ true → gets_among os ≡ os → cond b (o ∷ gets_among os) (gets_among os) ≡ o ∷ os
  by true is rest = ap (λ (qs : List SubOp). o ∷ qs) rest
  by false is rest = absurd (cc is)

pub reads_get : (s : ScriptData) (t k : ℕ) → IsValid s → reads s t ≡ true → gets_among (ops_of s t k) ≡ ops_of s t k
reads_get s t k valid reading = elim (fit_here s t k valid) [
  | NoneHere none ↦ ap gets_among none ∙ sym none
  | AllFit tree node at all ↦
      let kind : is_read tree.kind ≡ true = sym (ap (λ (f : Option Tree). elim f [ Some one ↦ is_read one.kind | None ↦ false ]) at) ∙ reading in
      all_gets (ops_of s t k) (each_op (IsOp s.items tree.kind node) (λ (o : SubOp). is_get o.deed ≡ true) (ops_of s t k) (get_of s.items tree.kind node kind) all)
]

-- each deed suits its item
suits_by : (kind : TreeKind) (item : Kind) (d : Deed) → deed_fits kind item d ≡ true → deed_suits item d ≡ true
suits_by Update item d fits = or_left (deed_fits Update item d) (deed_fits Read item d || deed_fits Strict item d) fits
suits_by Read item d fits =
    or_right (deed_fits Update item d) (deed_fits Read item d || deed_fits Strict item d) (or_left (deed_fits Read item d) (deed_fits Strict item d) fits)
suits_by Strict item d fits =
    or_right (deed_fits Update item d) (deed_fits Read item d || deed_fits Strict item d) (or_right (deed_fits Read item d) (deed_fits Strict item d) fits)

suits_of : (items : List ItemRow) (kind : TreeKind) (node : ℕ) (o : SubOp) → IsOp items kind node o → SuitsAt o (slice_get items o.item.0)
suits_of items kind node o is = by (slice_get items o.item.0) is where
  by : (row : Option ItemRow) → OpAt kind node o row → SuitsAt o row
  by None fits = fits
  by (Some row) fits = suits_by kind row.kind o.deed fits.1

pub ops_suit : (s : ScriptData) (t k : ℕ) → IsValid s → AllByRecursion (Suits s) (ops_of s t k)
ops_suit s t k valid = elim (fit_here s t k valid) [
  | NoneHere none ↦ subst (AllByRecursion (Suits s)) (sym none) tt
  | AllFit tree node at all ↦ each_op (IsOp s.items tree.kind node) (Suits s) (ops_of s t k) (suits_of s.items tree.kind node) all
]
