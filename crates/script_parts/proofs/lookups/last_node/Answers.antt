use Rattle.std.proofs.Common.{◌≡◌, ◌-◌, ◌<◌, length, List, arith, ap, sym, ◌∙◌, get_or}
use Rattle.std.specs.Prelude.{Some}
use Rattle.script_parts.specs.declared.parts.Sub.{Sub}
use Rattle.script_parts.specs.declared.parts.Tree.{Tree}
use Rattle.script_parts.specs.Adding.{last_of, last_sub, last_subs}
use Rattle.script_parts.proofs.Last.{last_at, last_subs_is, last_sub_is, last_node_is}
use Rattle.script_parts.proofs.lookups.last_node.Goals as goal

tree_is : (ts : List Tree) (t : Tree) → 0 < length ts → t ≡ get_or ts (length ts - 1) t → last_of ts ≡ Some t
tree_is ts t some is = last_at ts (length ts - 1) t (omega arith) is

some_subs : (ts : List Tree) (t : Tree) → 0 < length ts → 0 < last_subs ts → t ≡ get_or ts (length ts - 1) t → 0 < length t.subs
some_subs ts t some many is = omega (arith, last_subs_is ts t (tree_is ts t some is))

sub_is : (ts : List Tree) (t : Tree) (subs : List Sub) (s : Sub) → 0 < length ts → 0 < last_subs ts → t ≡ get_or ts (length ts - 1) t → subs ≡ t.subs → s ≡ get_or subs (length subs - 1) s
    → last_sub ts ≡ Some s
sub_is ts t subs s some many is subs_are at =
    let more = some_subs ts t some many is in
    let last : last_of subs ≡ Some s = last_at subs (length subs - 1) s (omega (arith, ap (λ (x : List Sub). length x) subs_are)) at in
    last_sub_is ts t s (tree_is ts t some is) (ap (λ (x : List Sub). last_of x) (sym subs_are) ∙ last)

pub overflow_sub-sub : goal.overflow_sub-sub
overflow_sub-sub c = omega (arith, some_subs _ _ c.requires.trees c.requires.subs c.index-trees-trees.is, ap (λ (x : List Sub). length x) c.items-subs.ensures.items)

pub bounds-subs-subs : goal.bounds-subs-subs
bounds-subs-subs c = omega (arith, some_subs _ _ c.requires.trees c.requires.subs c.index-trees-trees.is, ap (λ (x : List Sub). length x) c.items-subs.ensures.items)

pub returns : goal.returns
returns c = sym (last_node_is c.args.trees.now _ (sub_is _ _ _ _ c.requires.trees c.requires.subs c.index-trees-trees.is c.items-subs.ensures.items c.index-subs-subs.is))
