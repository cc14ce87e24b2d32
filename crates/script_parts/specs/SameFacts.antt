-- Two scripts that compare equal are the same, but for what their last record was.
use Rattle.std.proofs.Common.{◌≡◌, ℕ, Bool, true, false, ℤ, List, refl, sym, ap, ◌∙◌, subst}
use Rattle.std.specs.Prelude.{◌&&◌, ◌==◌, nat_eq, Option, Some, None}
use Rattle.std.specs.Ordering.{int_eq}
use Rattle.std.specs.Bool.{Decides}
use Rattle.std.specs.Cmp.{IsEquivalence, IsPartialEquivalence, partial_equiv_from_equiv}
use Rattle.std.specs.Cmp.Lexicographic.{pointwise}
use Rattle.std.specs.Str.{bytes_eq}
use Rattle.std.proofs.lemmas.Bool.Decides.{Decides-eqb, Decides-int_eq, same_from_decides}
use Rattle.std.proofs.lemmas.Slice.Eq.{slice_eq-Decides}
use Rattle.commute_ops.specs.declared.kinds.Kind.{Kind}
use Rattle.commute_ops.specs.declared.kinds.Kind.TheVariants as kinds
use Rattle.commute_ops.specs.declared.kinds.Op.{Op}
use Rattle.commute_ops.specs.declared.kinds.Op.TheVariants as ops
use Rattle.script_parts.specs.Rebuilt.{SameScript}
use Rattle.script_parts.specs.Same.{same_deed, same_form, same_item, same_kind, same_op, same_row, same_script, same_sub, same_sub_op, same_tree, same_tree_kind, same_written, same_written_as}
use Rattle.script_parts.specs.ScriptData.{ScriptData}
use Rattle.script_parts.specs.declared.parts.Deed.{Deed}
use Rattle.script_parts.specs.declared.parts.Deed.TheVariants as deeds
use Rattle.script_parts.specs.declared.parts.Form.{Form}
use Rattle.script_parts.specs.declared.parts.Form.TheVariants as forms
use Rattle.script_parts.specs.declared.parts.ItemRow.{ItemRow}
use Rattle.script_parts.specs.declared.parts.ScriptRow.{ScriptRow}
use Rattle.script_parts.specs.declared.parts.ScriptRow.TheVariants as rows
use Rattle.script_parts.specs.declared.parts.Sub.{Sub}
use Rattle.script_parts.specs.declared.parts.SubOp.{SubOp}
use Rattle.script_parts.specs.declared.parts.Tree.{Tree}
use Rattle.script_parts.specs.declared.parts.TreeKind.{TreeKind}
use Rattle.script_parts.specs.declared.parts.TreeKind.TheVariants as trees
use Rattle.script_parts.specs.declared.parts.Written.{Written}

-- A comparison is exact if what compares equal is equal, and each value compares equal to itself.
pub record IsExact {A : Type 0} (E : A → A → Bool) : Type 0 where
  pub equal : (a b : A) → E a b ≡ true → a ≡ b
  pub itself : (a : A) → E a a ≡ true

decides : {A : Type 0} (E : A → A → Bool) → IsExact E → (a b : A) → Decides (E a b) (a ≡ b)
decides {A} E h a b = (h.equal a b, λ e. subst (λ (x : A). E a x ≡ true) e (h.itself a))

-- so it is symmetric and transitive
pub exact_equiv : {A : Type 0} (E : A → A → Bool) → IsExact E → IsEquivalence E
exact_equiv {A} E h = record {
  refl = h.itself;
  symm = λ a b. same_from_decides (E a b) (E b a) (decides E h a b) ((decides_turned a b).0, (decides_turned a b).1);
  congr = λ a b d e. let same : a ≡ b = h.equal a b e in ap (λ (x : A). E x d) same;
}
  where
    decides_turned : (a b : A) → Decides (E b a) (a ≡ b)
    decides_turned a b = (λ e. sym (h.equal b a e), λ e. subst (λ (x : A). E x a ≡ true) e (h.itself a))

pub exact_laws : {A : Type 0} (E : A → A → Bool) → IsExact E → IsPartialEquivalence E
exact_laws E h = partial_equiv_from_equiv (exact_equiv E h)

and_first : (a b : Bool) → (a && b) ≡ true → a ≡ true
and_first true b e = refl
and_first false b e = absurd cc

and_second : (a b : Bool) → (a && b) ≡ true → b ≡ true
and_second true b e = e
and_second false b e = absurd cc

and_both : (a b : Bool) → a ≡ true → b ≡ true → (a && b) ≡ true
and_both true b e f = f
and_both false b e f = absurd cc

exact_list : {A : Type 0} (E : A → A → Bool) → IsExact E → IsExact (pointwise E)
exact_list E h = record {
  equal = λ xs ys. (slice_eq-Decides (decides E h) xs ys (pointwise E xs ys) refl).0;
  itself = λ xs. (slice_eq-Decides (decides E h) xs xs (pointwise E xs xs) refl).1 refl;
}

exact_number : IsExact nat_eq
exact_number = record { equal = λ a b. (Decides-eqb a b).0; itself = λ a. (Decides-eqb a a).1 refl }

exact_name : IsExact bytes_eq
exact_name = exact_list nat_eq exact_number

exact_amount : IsExact int_eq
exact_amount = record { equal = λ a b. (Decides-int_eq a b).0; itself = λ a. (Decides-int_eq a a).1 refl }

exact_form : IsExact same_form
exact_form = record { equal = equal; itself = itself }
  where
    equal : (a b : Form) → same_form a b ≡ true → a ≡ b
    equal forms.One forms.One e = refl
    equal forms.Two forms.Two e = refl
    equal _ _ e = absurd cc

    itself : (a : Form) → same_form a a ≡ true
    itself forms.One = refl
    itself forms.Two = refl

exact_kind : IsExact same_kind
exact_kind = record { equal = equal; itself = itself }
  where
    equal : (a b : Kind) → same_kind a b ≡ true → a ≡ b
    equal kinds.Sum kinds.Sum e = refl
    equal kinds.Top kinds.Top e = refl
    equal kinds.Bag kinds.Bag e = refl
    equal _ _ e = absurd cc

    itself : (a : Kind) → same_kind a a ≡ true
    itself kinds.Sum = refl
    itself kinds.Top = refl
    itself kinds.Bag = refl

exact_op : IsExact same_op
exact_op = record { equal = equal; itself = itself }
  where
    equal : (p q : Op) → same_op p q ≡ true → p ≡ q
    equal (ops.Add a) (ops.Add b) e = ap (λ x. let y : Op = ops.Add x in y) (exact_amount.equal a b e)
    equal (ops.Top a) (ops.Top b) e = ap (λ x. let y : Op = ops.Top x in y) (exact_amount.equal a b e)
    equal (ops.Put a) (ops.Put b) e = ap (λ x. let y : Op = ops.Put x in y) (exact_amount.equal a b e)
    equal _ _ e = absurd cc

    itself : (p : Op) → same_op p p ≡ true
    itself (ops.Add a) = exact_amount.itself a
    itself (ops.Top a) = exact_amount.itself a
    itself (ops.Put a) = exact_amount.itself a

exact_deed : IsExact same_deed
exact_deed = record { equal = equal; itself = itself }
  where
    equal : (d f : Deed) → same_deed d f ≡ true → d ≡ f
    equal (deeds.Apply p) (deeds.Apply q) e = ap (λ x. let y : Deed = deeds.Apply x in y) (exact_op.equal p q e)
    equal deeds.Get deeds.Get e = refl
    equal (deeds.Set a) (deeds.Set b) e = ap (λ x. let y : Deed = deeds.Set x in y) (exact_amount.equal a b e)
    equal (deeds.Draw a) (deeds.Draw b) e = ap (λ x. let y : Deed = deeds.Draw x in y) (exact_amount.equal a b e)
    equal _ _ e = absurd cc

    itself : (d : Deed) → same_deed d d ≡ true
    itself (deeds.Apply p) = exact_op.itself p
    itself deeds.Get = refl
    itself (deeds.Set a) = exact_amount.itself a
    itself (deeds.Draw a) = exact_amount.itself a

exact_tree_kind : IsExact same_tree_kind
exact_tree_kind = record { equal = equal; itself = itself }
  where
    equal : (a b : TreeKind) → same_tree_kind a b ≡ true → a ≡ b
    equal trees.Update trees.Update e = refl
    equal trees.Read trees.Read e = refl
    equal trees.Strict trees.Strict e = refl
    equal _ _ e = absurd cc

    itself : (a : TreeKind) → same_tree_kind a a ≡ true
    itself trees.Update = refl
    itself trees.Read = refl
    itself trees.Strict = refl

exact_row : IsExact same_row
exact_row = record { equal = equal; itself = itself }
  where
    equal : (a b : ScriptRow) → same_row a b ≡ true → a ≡ b
    equal (rows.Tree t) (rows.Tree u) e =
        ap (λ (k : ℕ). let r : ScriptRow = rows.Tree (record { 0 = k }) in r) (exact_number.equal t.0 u.0 e)
    equal rows.Advance rows.Advance e = refl
    equal rows.Settle rows.Settle e = refl
    equal rows.Lose rows.Lose e = refl
    equal _ _ e = absurd cc

    itself : (a : ScriptRow) → same_row a a ≡ true
    itself (rows.Tree t) = exact_number.itself t.0
    itself rows.Advance = refl
    itself rows.Settle = refl
    itself rows.Lose = refl

exact_sub_op : IsExact same_sub_op
exact_sub_op = record {
  equal = λ o p e.
      let item = exact_number.equal o.item.0 p.item.0 (and_first _ _ e) in
      let deed = exact_deed.equal o.deed p.deed (and_second (o.item.0 == p.item.0) _ e) in
      ap (λ (k : ℕ). let x : SubOp = record { item = record { 0 = k }; deed = o.deed } in x) item
      ∙ ap (λ (d : Deed). let x : SubOp = record { item = p.item; deed = d } in x) deed;
  itself = λ o. and_both _ _ (exact_number.itself o.item.0) (exact_deed.itself o.deed);
}

exact_item : IsExact same_item
exact_item = record {
  equal = λ r q e.
      let first = bytes_eq r.name q.name && r.node.0 == q.node.0 in
      let second = first && same_kind r.kind q.kind in
      let front = and_first second _ e in
      let names_and_nodes = and_first first _ front in
      item_is r q
      (exact_name.equal r.name q.name (and_first _ _ names_and_nodes))
      (exact_number.equal r.node.0 q.node.0 (and_second (bytes_eq r.name q.name) _ names_and_nodes))
      (exact_kind.equal r.kind q.kind (and_second first _ front))
      (exact_amount.equal r.initial q.initial (and_second second _ e));
  itself = λ r.
      and_both _ _
      (and_both _ _ (and_both _ _ (exact_name.itself r.name) (exact_number.itself r.node.0)) (exact_kind.itself r.kind))
      (exact_amount.itself r.initial);
}
  where
    item_is : (r q : ItemRow) → r.name ≡ q.name → r.node.0 ≡ q.node.0 → r.kind ≡ q.kind → r.initial ≡ q.initial → r ≡ q
    item_is r q a b d e =
        ap (λ (x : List ℕ). let y : ItemRow = record r { name = x } in y) a
        ∙ ap (λ (x : ℕ).
        let y : ItemRow = record { name = q.name; node = record { 0 = x }; kind = r.kind; initial = r.initial } in y) b
        ∙ ap (λ (x : Kind).
        let y : ItemRow = record { name = q.name; node = q.node; kind = x; initial = r.initial } in y) d
        ∙ ap (λ (x : ℤ). let y : ItemRow = record { name = q.name; node = q.node; kind = q.kind; initial = x } in y) e

exact_sub : IsExact same_sub
exact_sub = record {
  equal = λ x y e.
      let front = x.parent.0 == y.parent.0 && x.node.0 == y.node.0 in
      let parent = exact_number.equal x.parent.0 y.parent.0 (and_first _ _ (and_first front _ e)) in
      let node = exact_number.equal x.node.0 y.node.0 (and_second (x.parent.0 == y.parent.0) _ (and_first front _ e)) in
      let ops = (exact_list same_sub_op exact_sub_op).equal x.ops y.ops (and_second front _ e) in
      ap (λ (k : ℕ). let z : Sub = record { parent = record { 0 = k }; node = x.node; ops = x.ops } in z) parent
      ∙ ap (λ (k : ℕ). let z : Sub = record { parent = y.parent; node = record { 0 = k }; ops = x.ops } in z) node
      ∙ ap (λ (os : List SubOp). let z : Sub = record { parent = y.parent; node = y.node; ops = os } in z) ops;
  itself = λ x.
      and_both _ _ (and_both _ _ (exact_number.itself x.parent.0) (exact_number.itself x.node.0))
      ((exact_list same_sub_op exact_sub_op).itself x.ops);
}

exact_written_as : IsExact same_written_as
exact_written_as = record {
  equal = λ v w e.
      let failed = exact_number.equal v.failed.0 w.failed.0 (and_first _ _ e) in
      let subs = (exact_list same_sub exact_sub).equal v.subs w.subs (and_second (v.failed.0 == w.failed.0) _ e) in
      ap (λ (k : ℕ). let z : Written = record { failed = record { 0 = k }; subs = v.subs } in z) failed
      ∙ ap (λ (ss : List Sub). let z : Written = record { failed = w.failed; subs = ss } in z) subs;
  itself = λ v. and_both _ _ (exact_number.itself v.failed.0) ((exact_list same_sub exact_sub).itself v.subs);
}

exact_written : IsExact same_written
exact_written = record { equal = equal; itself = itself }
  where
    equal : (a b : Option Written) → same_written a b ≡ true → a ≡ b
    equal (Some v) (Some w) e = ap (λ (x : Written). Some x) (exact_written_as.equal v w e)
    equal None None e = refl
    equal (Some v) None e = absurd cc
    equal None (Some w) e = absurd cc

    itself : (a : Option Written) → same_written a a ≡ true
    itself (Some v) = exact_written_as.itself v
    itself None = refl

exact_tree : IsExact same_tree
exact_tree = record {
  equal = λ t u e.
      let front = bytes_eq t.name u.name && same_tree_kind t.kind u.kind in
      let most = front && pointwise same_sub t.subs u.subs in
      let less = and_first most _ e in
      let name = exact_name.equal t.name u.name (and_first _ _ (and_first front _ less)) in
      let kind = exact_tree_kind.equal t.kind u.kind (and_second (bytes_eq t.name u.name) _ (and_first front _ less)) in
      let subs = (exact_list same_sub exact_sub).equal t.subs u.subs (and_second front _ less) in
      let written = exact_written.equal t.written u.written (and_second most _ e) in
      ap (λ (n : List ℕ). let z : Tree = record t { name = n } in z) name
      ∙ ap (λ (k : TreeKind).
      let z : Tree = record { name = u.name; kind = k; subs = t.subs; written = t.written } in z) kind
      ∙ ap (λ (ss : List Sub).
      let z : Tree = record { name = u.name; kind = u.kind; subs = ss; written = t.written } in z) subs
      ∙ ap (λ (w : Option Written).
      let z : Tree = record { name = u.name; kind = u.kind; subs = u.subs; written = w } in z) written;
  itself = λ t.
      and_both _ _
      (and_both _ _ (and_both _ _ (exact_name.itself t.name) (exact_tree_kind.itself t.kind))
      ((exact_list same_sub exact_sub).itself t.subs))
      (exact_written.itself t.written);
}

-- two scripts compare equal exactly if they are the same
pub same_exactly : (s t : ScriptData) → Decides (same_script s t) (SameScript s t)
same_exactly s t = (to, from)
  where
    items : IsExact (pointwise same_item)
    items = exact_list same_item exact_item

    trees_exact : IsExact (pointwise same_tree)
    trees_exact = exact_list same_tree exact_tree

    rows_exact : IsExact (pointwise same_row)
    rows_exact = exact_list same_row exact_row

    picks : IsExact (pointwise nat_eq)
    picks = exact_list nat_eq exact_number

    to : same_script s t ≡ true → SameScript s t
    to e =
        let one = same_form s.form t.form && s.nodes == t.nodes in
        let two = one && pointwise same_item s.items t.items in
        let three = two && pointwise same_tree s.trees t.trees in
        let four = three && pointwise same_row s.rows t.rows in
        let front = and_first four _ e in
        let less = and_first three _ front in
        let least = and_first two _ less in
        record {
          form = exact_form.equal s.form t.form (and_first _ _ (and_first one _ least));
          nodes = exact_number.equal s.nodes t.nodes (and_second (same_form s.form t.form) _ (and_first one _ least));
          items = items.equal s.items t.items (and_second one _ least);
          trees = trees_exact.equal s.trees t.trees (and_second two _ less);
          rows = rows_exact.equal s.rows t.rows (and_second three _ front);
          picks = picks.equal s.picks t.picks (and_second four _ e);
        }

    from : SameScript s t → same_script s t ≡ true
    from h =
        let form = subst (λ (x : Form). same_form s.form x ≡ true) h.form (exact_form.itself s.form) in
        let nodes = subst (λ (x : ℕ). (s.nodes == x) ≡ true) h.nodes (exact_number.itself s.nodes) in
        let its_items =
        subst (λ (x : List ItemRow). pointwise same_item s.items x ≡ true) h.items (items.itself s.items) in
        let its_trees =
        subst (λ (x : List Tree). pointwise same_tree s.trees x ≡ true) h.trees (trees_exact.itself s.trees) in
        let its_rows =
        subst (λ (x : List ScriptRow). pointwise same_row s.rows x ≡ true) h.rows (rows_exact.itself s.rows) in
        let its_picks = subst (λ (x : List ℕ). pointwise nat_eq s.picks x ≡ true) h.picks (picks.itself s.picks) in
        and_both _ _
        (and_both _ _ (and_both _ _ (and_both _ _ (and_both _ _ form nodes) its_items) its_trees) its_rows) its_picks

pub script_laws : IsPartialEquivalence same_script
script_laws = record { symm = symm; trans = trans }
  where
    turned : (s t : ScriptData) → SameScript s t → SameScript t s
    turned s t h = record {
      form = sym h.form;
      nodes = sym h.nodes;
      items = sym h.items;
      trees = sym h.trees;
      rows = sym h.rows;
      picks = sym h.picks;
    }

    joined : (s t u : ScriptData) → SameScript s t → SameScript t u → SameScript s u
    joined s t u h i = record {
      form = h.form ∙ i.form;
      nodes = h.nodes ∙ i.nodes;
      items = h.items ∙ i.items;
      trees = h.trees ∙ i.trees;
      rows = h.rows ∙ i.rows;
      picks = h.picks ∙ i.picks;
    }

    symm : (s t : ScriptData) → same_script s t ≡ same_script t s
    symm s t =
        let d = same_exactly t s in
        same_from_decides (same_script s t) (same_script t s) (same_exactly s t)
        (λ e. turned t s (d.0 e), λ h. d.1 (turned s t h))

    trans : (s t u : ScriptData) → same_script s t ≡ true → same_script t u ≡ true → same_script s u ≡ true
    trans s t u e f = (same_exactly s u).1 (joined s t u ((same_exactly s t).0 e) ((same_exactly t u).0 f))

pub item_laws : IsPartialEquivalence same_item
item_laws = exact_laws same_item exact_item

pub sub_laws : IsPartialEquivalence same_sub
sub_laws = exact_laws same_sub exact_sub

pub written_laws : IsPartialEquivalence same_written_as
written_laws = exact_laws same_written_as exact_written_as

pub tree_laws : IsPartialEquivalence same_tree
tree_laws = exact_laws same_tree exact_tree

pub sub_op_equiv : IsEquivalence same_sub_op
sub_op_equiv = exact_equiv same_sub_op exact_sub_op

pub row_equiv : IsEquivalence same_row
row_equiv = exact_equiv same_row exact_row
