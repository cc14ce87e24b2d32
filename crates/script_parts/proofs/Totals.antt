-- What operations, subtransactions and transactions add up to, and what a record adds to it.
use Rattle.std.proofs.Common.{◌≡◌, ◌<◌, ◌≤◌, ◌+◌, ℕ, List, [], ◌∷◌, ◌++◌, length, refl, sym, ap, ◌∙◌, arith, length-append}
use Rattle.std.specs.Prelude.{◌==◌, if◌then◌else◌}
use Rattle.std.proofs.lemmas.Grind.{common_steps}
use Rattle.tv_base.specs.Sums.{one_if}
use Rattle.script_parts.specs.Adding.{last_kind, last_subs, on_last, on_last_sub, push_op, push_sub}
use Rattle.script_parts.specs.Amounts.{magnitude}
use Rattle.script_parts.specs.Counts.{all_ops, all_subs, if_update, one_put, ops_puts, strict_trees, subs_ops, subs_puts, trees_puts, update_subs}
use Rattle.script_parts.specs.ScriptData.{is_strict}
use Rattle.script_parts.specs.Valid.{ops_load, subs_load, trees_load}
use Rattle.script_parts.specs.declared.parts.Sub.{Sub}
use Rattle.script_parts.specs.declared.parts.SubOp.{SubOp}
use Rattle.script_parts.specs.declared.parts.Tree.{Tree}
use Rattle.script_parts.specs.declared.parts.TreeKind.{TreeKind}
use Rattle.script_parts.specs.declared.parts.TreeKind.TheVariants as trees
use Rattle.script_parts.proofs.Last.{last_kind_is, last_subs_is, length-on_last}
use Rattle.script_parts.proofs.Lists.{IsSum, sum-append, sum-on_last, sum-push}

-- a weight of operations, summed over operations, subtransactions and trees
pub record IsTotal (w : SubOp → ℕ) (O : List SubOp → ℕ) (S : List Sub → ℕ) (T : List Tree → ℕ) : Type 0 where
  pub ops : IsSum w O
  pub subs : IsSum (λ (s : Sub). O s.ops) S
  pub trees : IsSum (λ (t : Tree). S t.subs) T

-- the magnitude of an operation on item x
abbrev pub op_load : ℕ → SubOp → ℕ
op_load x o = if o.item.0 == x then magnitude o.deed else 0

-- one for a `put` on item x
abbrev pub op_put : ℕ → SubOp → ℕ
op_put x o = if o.item.0 == x then one_put o.deed else 0

abbrev pub one : SubOp → ℕ
one o = 1

pub load_total : (x : ℕ) → IsTotal (op_load x) (ops_load x) (subs_load x) (trees_load x)
load_total x = record {
  ops = record { none = refl; one_more = λ o os. refl };
  subs = record { none = refl; one_more = λ s ss. refl };
  trees = record { none = refl; one_more = λ t ts. refl };
}

pub put_total : (x : ℕ) → IsTotal (op_put x) (ops_puts x) (subs_puts x) (trees_puts x)
put_total x = record {
  ops = record { none = refl; one_more = λ o os. refl };
  subs = record { none = refl; one_more = λ s ss. refl };
  trees = record { none = refl; one_more = λ t ts. refl };
}

pub op_total : IsTotal one (λ (os : List SubOp). length os) subs_ops all_ops
op_total = record {
  ops = record { none = refl; one_more = λ o os. omega arith };
  subs = record { none = refl; one_more = λ s ss. refl };
  trees = record { none = refl; one_more = λ t ts. refl };
}

pub all_subs-sum : IsSum (λ (t : Tree). length t.subs) all_subs
all_subs-sum = record { none = refl; one_more = λ t ts. refl }

pub strict-sum : IsSum (λ (t : Tree). one_if (is_strict t.kind)) strict_trees
strict-sum = record { none = refl; one_more = λ t ts. refl }

pub update-sum : IsSum (λ (t : Tree). if_update t.kind (length t.subs)) update_subs
update-sum = record { none = refl; one_more = λ t ts. refl }

pub load_same : (o : SubOp) (x : ℕ) → o.item.0 ≡ x → op_load x o ≡ magnitude o.deed
load_same o x e = grind (arith, common_steps)

pub load_other : (o : SubOp) (x : ℕ) → (o.item.0 ≡ x → ⊥) → op_load x o ≡ 0
load_other o x e = grind (arith, common_steps)

pub put_same : (o : SubOp) (x : ℕ) → o.item.0 ≡ x → op_put x o ≡ one_put o.deed
put_same o x e = grind (arith, common_steps)

pub put_other : (o : SubOp) (x : ℕ) → (o.item.0 ≡ x → ⊥) → op_put x o ≡ 0
put_other o x e = grind (arith, common_steps)

pub update-more : (kind : TreeKind) (n : ℕ) → if_update kind (n + 1) ≡ if_update kind n + if_update kind 1
update-more trees.Update n = refl
update-more trees.Read n = refl
update-more trees.Strict n = refl

module _ {w : SubOp → ℕ} {O : List SubOp → ℕ} {S : List Sub → ℕ} {T : List Tree → ℕ} (h : IsTotal w O S T) where
  -- a tree with its root alone adds nothing
  pub total-tree : (ts : List Tree) (t : Tree) (x : Sub) → t.subs ≡ x ∷ [] → x.ops ≡ [] → T (ts ++ t ∷ []) ≡ T ts
  total-tree ts t x subs ops =
      let none : O x.ops ≡ 0 = ap O ops ∙ h.ops.none in
      let root : S t.subs ≡ S (x ∷ []) = ap S subs in
      omega (arith, sum-push (λ (u : Tree). S u.subs) T h.trees ts t, root, h.subs.one_more x [], h.subs.none, none)

  -- nor does a subtransaction with no operation
  pub total-sub : (ts : List Tree) (x : Sub) → x.ops ≡ [] → 0 < length ts → T (on_last (push_sub x) ts) ≡ T ts
  total-sub ts x ops some =
      let none : O x.ops ≡ 0 = ap O ops ∙ h.ops.none in
      omega (arith, sum-on_last (λ (u : Tree). S u.subs) T h.trees (push_sub x) 0 ts some (λ t _. omega (arith, sum-push (λ (u : Sub). O u.ops) S h.subs t.subs x, none)))

  pub total-op : (ts : List Tree) (o : SubOp) → 0 < length ts → 0 < last_subs ts → T (on_last (on_last_sub (push_op o)) ts) ≡ T ts + w o
  total-op ts o some root =
      sum-on_last (λ (u : Tree). S u.subs) T h.trees (on_last_sub (push_op o)) (w o) ts some
      (λ t e. sum-on_last (λ (u : Sub). O u.ops) S h.subs (push_op o) (w o) t.subs (omega (arith, root, last_subs_is ts t e)) (λ x _. sum-push w O h.ops x.ops o))

  -- a part of the trees, up to an operation, and the operation weigh no more than all
  pub total-part : (Ta Tb : List Tree) (t u : Tree) (Sa Sb : List Sub) (x y : Sub) (Oa Ob : List SubOp) (o : SubOp)
      → t.subs ≡ Sa ++ x ∷ Sb → u.subs ≡ Sa ++ y ∷ [] → x.ops ≡ Oa ++ o ∷ Ob → y.ops ≡ Oa
      → T (Ta ++ u ∷ []) + w o ≤ T (Ta ++ t ∷ Tb)
  total-part Ta Tb t u Sa Sb x y Oa Ob o ts us xs ys =
      let all : S t.subs ≡ S Sa + (O x.ops + S Sb) = ap S ts ∙ omega (arith, sum-append (λ (s : Sub). O s.ops) S h.subs Sa (x ∷ Sb), h.subs.one_more x Sb) in
      let part : S u.subs ≡ S Sa + O y.ops = ap S us ∙ omega (arith, sum-push (λ (s : Sub). O s.ops) S h.subs Sa y) in
      let ops : O x.ops ≡ O Oa + (w o + O Ob) = ap O xs ∙ omega (arith, sum-append w O h.ops Oa (o ∷ Ob), h.ops.one_more o Ob) in
      let before : O y.ops ≡ O Oa = ap O ys in
      omega (arith, sum-append (λ (v : Tree). S v.subs) T h.trees Ta (t ∷ Tb), h.trees.one_more t Tb, sum-push (λ (v : Tree). S v.subs) T h.trees Ta u)

-- one more tree, subtransaction or operation, and how many there are

pub subs-sub : (ts : List Tree) (x : Sub) → 0 < length ts → all_subs (on_last (push_sub x) ts) ≡ all_subs ts + 1
subs-sub ts x some = sum-on_last (λ (t : Tree). length t.subs) all_subs all_subs-sum (push_sub x) 1 ts some (λ t _. omega (arith, length-append t.subs (x ∷ [])))

pub strict-sub : (ts : List Tree) (x : Sub) → 0 < length ts → strict_trees (on_last (push_sub x) ts) ≡ strict_trees ts
strict-sub ts x some = omega (arith, sum-on_last (λ (t : Tree). one_if (is_strict t.kind)) strict_trees strict-sum (push_sub x) 0 ts some (λ t _. omega arith))

pub update-sub : (ts : List Tree) (x : Sub) → 0 < length ts → update_subs (on_last (push_sub x) ts) ≡ update_subs ts + if_update (last_kind ts) 1
update-sub ts x some =
    sum-on_last (λ (t : Tree). if_update t.kind (length t.subs)) update_subs update-sum (push_sub x) (if_update (last_kind ts) 1) ts some
    (λ t e.
    let len : length (t.subs ++ x ∷ []) ≡ length t.subs + 1 = omega (arith, length-append t.subs (x ∷ [])) in
    ap (if_update t.kind) len ∙ update-more t.kind (length t.subs) ∙ ap (λ (k : TreeKind). if_update t.kind (length t.subs) + if_update k 1) (sym (last_kind_is ts t e)))

pub subs-op : (ts : List Tree) (o : SubOp) → 0 < length ts → all_subs (on_last (on_last_sub (push_op o)) ts) ≡ all_subs ts
subs-op ts o some = omega (arith, sum-on_last (λ (t : Tree). length t.subs) all_subs all_subs-sum (on_last_sub (push_op o)) 0 ts some (λ t _. omega (arith, length-on_last (push_op o) t.subs)))

pub strict-op : (ts : List Tree) (o : SubOp) → 0 < length ts → strict_trees (on_last (on_last_sub (push_op o)) ts) ≡ strict_trees ts
strict-op ts o some = omega (arith, sum-on_last (λ (t : Tree). one_if (is_strict t.kind)) strict_trees strict-sum (on_last_sub (push_op o)) 0 ts some (λ t _. omega arith))

pub update-op : (ts : List Tree) (o : SubOp) → 0 < length ts → update_subs (on_last (on_last_sub (push_op o)) ts) ≡ update_subs ts
update-op ts o some =
    omega (
      arith,
      sum-on_last (λ (t : Tree). if_update t.kind (length t.subs)) update_subs update-sum (on_last_sub (push_op o)) 0 ts some
          (λ t _. omega (arith, ap (if_update t.kind) (length-on_last (push_op o) t.subs))),
    )
