-- The value by a node's acts is what the order of acts makes of its item.
use Rattle.std.proofs.Common.{◌≡◌, ℕ, ◌==◌, ◌&&◌, Bool, true, false, List, ◌∷◌, ◌++◌, refl, ap, ◌∙◌, Option, Some, None, []}
use Rattle.std.specs.Prelude.{if◌then◌else◌, fold, slice_get}
use Rattle.commute_ops.specs.declared.value.Value.{Value}
use Rattle.letter_types.specs.declared.acts.Act.{Act}
use Rattle.letter_types.specs.declared.acts.Act.TheVariants as acts
use Rattle.script_parts.specs.ScriptData.{ScriptData, subs_at}
use Rattle.script_parts.specs.declared.parts.Sub.{Sub}
use Rattle.script_parts.specs.declared.parts.SubOp.{SubOp}
use Rattle.script_parts.specs.declared.parts.Tree.{Tree}
use Rattle.world_model.specs.Decisions.{ops_at}
use Rattle.world_model.specs.Named.{is_strict_at, tree_kind_at}
use Rattle.board_rules.specs.Histories.{Place, is_strict_tree, version_in}
use Rattle.board_rules.specs.Worth.{after_deed, after_ops, after_subs, first_value}
use Rattle.board_rules.proofs.Effects.{made_at, made_by, made_in, subs_there}
use Rattle.tree_laws.specs.SeenAt.{is_up_to}
use Rattle.run_laws.specs.ValuesByActs.{value_by_act, value_by_acts, value_by_place}

-- A tree that is there and strict.
pub strict_tree : (s : ScriptData) (t : ℕ) → is_strict_at s t ≡ is_strict_tree s t
strict_tree s t = by (slice_get s.trees t) refl where
  by : (found : Option Tree) → slice_get s.trees t ≡ found → is_strict_at s t ≡ is_strict_tree s t
  by None at = rw (at, tree_kind_at, is_strict_at, is_strict_tree) refl
  by (Some tree) at = rw (at, tree_kind_at, is_strict_at, is_strict_tree) refl

-- A tree's operations at a node are those of its subtransactions there.
ops_then : (x : ℕ) (os more : List SubOp) (w : Value) → after_ops x (os ++ more) w ≡ after_ops x more (after_ops x os w)
ops_then x [] more w = refl
ops_then x (o ∷ os) more w = ops_then x os more (if o.item.0 == x then after_deed o.deed w else w)

first_there : (p x : ℕ) (k : Sub) (ks : List Sub) (w : Value) (test : Bool)
    → ((v : Value) → after_ops x (ops_at p ks) v ≡ after_subs x (subs_there p ks) v)
    → after_ops x (if test then k.ops ++ ops_at p ks else ops_at p ks) w
    ≡ after_subs x (if test then k ∷ subs_there p ks else subs_there p ks) w
first_there p x k ks w true rest = ops_then x k.ops (ops_at p ks) w ∙ rest (after_ops x k.ops w)
first_there p x k ks w false rest = rest w

pub ops_there : (p x : ℕ) (ks : List Sub) (w : Value) → after_ops x (ops_at p ks) w ≡ after_subs x (subs_there p ks) w
ops_there p x [] w = refl
ops_there p x (k ∷ ks) w = first_there p x k ks w (k.node.0 == p) (λ v. ops_there p x ks v)

-- So act by act.
turned : (a b : Bool) (y z w : Value) → y ≡ z → (if a && b then y else w) ≡ (if b && a then z else w)
turned true true y z w same = same
turned true false y z w same = refl
turned false true y z w same = refl
turned false false y z w same = refl

act_made : (s : ScriptData) (zs : List Place) (p x v : ℕ) (w : Value) (a : Act) → value_by_act s zs p x v w a ≡ made_by s zs p x v w a
act_made s zs p x v w (acts.Did t k values) = refl
act_made s zs p x v w (acts.Applied t commit) =
    ap (λ (b : Bool). if commit && (b && is_up_to v (version_in t.0 zs)) then after_ops x (ops_at p (subs_at s t.0)) w else w) (strict_tree s t.0)
    ∙ turned commit (is_strict_tree s t.0 && is_up_to v (version_in t.0 zs)) (after_ops x (ops_at p (subs_at s t.0)) w)
    (after_subs x (subs_there p (subs_at s t.0)) w) w (ops_there p x (subs_at s t.0) w)
act_made s zs p x v w acts.Finished = refl
act_made s zs p x v w _ = refl

places_made : (s : ScriptData) (zs : List Place) (p x v : ℕ) (w : Value) (ys : List Place)
    → fold (value_by_place s zs p x v) w ys ≡ fold (made_at s zs p x v) w ys
places_made s zs p x v w [] = refl
places_made s zs p x v w (y ∷ ys) =
    places_made s zs p x v (value_by_place s zs p x v w y) ys
    ∙ ap (λ (z : Value). fold (made_at s zs p x v) (if y.node == p then z else w) ys) (act_made s zs p x v w y.act)

pub values_are_made : (s : ScriptData) (zs : List Place) (p x v : ℕ) → value_by_acts s zs p x v ≡ made_in s zs p x v
values_are_made s zs p x v = places_made s zs p x v (first_value (slice_get s.items x)) zs
