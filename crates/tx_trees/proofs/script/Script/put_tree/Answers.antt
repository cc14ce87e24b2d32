use Rattle.std.proofs.Common.{arith, length, Bool, true, false, ◌∙◌, ap, List, ℕ, ◌+◌, ◌++◌, ◌∷◌, [], ◌≡◌, subst, sym, refl}
use Rattle.std.specs.Prelude.{not, if◌then◌else◌}
use Rattle.std.specs.List.{list_any}
use Rattle.std.specs.Str.{bytes_eq}
use Rattle.script_parts.specs.ScriptData.{ScriptData}
use Rattle.script_parts.specs.declared.parts.ScriptRow.{ScriptRow}
use Rattle.script_parts.specs.declared.parts.ScriptRow.TheVariants as rows
use Rattle.script_parts.specs.declared.parts.Tree.{Tree}
use Rattle.script_parts.specs.Adding.{names_tree, rooted}
use Rattle.script_parts.specs.inside.Passing.{MayAddTree}
use Rattle.tx_trees.proofs.Kept.{few_updates, kept_room, kept_tree, one_update_small}
use Rattle.script_parts.proofs.Named.{has_tree}
use Rattle.tx_trees.proofs.script.Script.put_tree.Goals as goal

names_stay : (b : Bool) (names more was : List (List ℕ)) → b ≡ false → names ≡ (if b then more else was) → names ≡ was
names_stay true names more was e h = absurd cc
names_stay false names more was e h = h

names_grow : (b : Bool) (names more was : List (List ℕ)) → b ≡ true → names ≡ (if b then more else was) → names ≡ more
names_grow true names more was e h = h
names_grow false names more was e h = absurd cc

pub overflow_add-self-3 : goal.overflow_add-self-3
overflow_add-self-3 c =
    let h = c.self.invariant in
    omega (arith, few_updates c.self.inside.trees.items, h.valid.limited.subs, h.update_subs, one_update_small c.args.kind, c.one_update.ensures)

pub invariant_of-self-2 : goal.invariant_of-self-2
invariant_of-self-2 c =
    let s = c.self.inside in
    let name = c.args.name in
    let t : Tree = rooted name c.args.kind c.args.node in
    let row : ScriptRow = rows.Tree (record { 0 = c.len.result }) in
    let number : c.len.result ≡ length s.trees.items = omega (arith, c.len.ensures) in
    let trees = c.push_reserved.ensures.items
    ∙ ap (λ (x : List Tree). x ++ c.in_ok-tree.tree ∷ []) c.in_ok-reserve-2.ensures.items
    ∙ ap (λ (u : Tree). s.trees.items ++ u ∷ []) c.in_ok-tree.ensures in
    let added = c.push_reserved-2.ensures.items
    ∙ ap (λ (x : List ScriptRow). x ++ row ∷ []) c.in_ok-reserve.ensures.items
    ∙ ap (λ (n : ℕ). s.rows.items ++ rows.Tree (record { 0 = n }) ∷ []) number in
    let listed = ap (list_any (bytes_eq name)) c.self.invariant.tree_names ∙ has_tree name s.trees.items ∙ ap (λ (h : ScriptData). names_tree name h.trees) c.self.view_is in
    let free : names_tree name c.args.self.now.trees ≡ false = sym listed ∙ c.in_ok-new.ensures.new ∙ ap not c.if-not-new.false in
    let may : MayAddTree c.args.self.now name c.args.kind c.args.node = record { place = c.requires.place; plain = c.requires.plain; free = free; room = c.requires.room } in
    let names = names_grow c.in_ok-new.new c.add_new.new.self (s.tree_names ++ name ∷ []) s.tree_names c.if-not-new.false c.in_ok-new.ensures.ok in
    kept_tree s c.push_reserved.new.self c.add_new.new.self c.push_reserved-2.new.self _ _ _ name c.args.kind c.args.node names trees added refl (ap (λ (n : ℕ). s.strict + n) c.one_strict.ensures) (ap (λ (n : ℕ). s.update_subs + n) c.one_update.ensures) (subst (λ (h : ScriptData). MayAddTree h name c.args.kind c.args.node) (sym c.self.view_is) may) c.self.invariant

pub invariant_of-self-in_err-reserve-2 : goal.invariant_of-self-in_err-reserve-2
invariant_of-self-in_err-reserve-2 c =
    kept_room c.self.inside c.reserve-2.new.self c.reserve.new.self c.self.inside.tree_names c.in_err-reserve-2.ensures.items c.in_ok-reserve.ensures.items refl c.self.invariant

pub invariant_of-self-in_err-new : goal.invariant_of-self-in_err-new
invariant_of-self-in_err-new c =
    kept_room c.self.inside c.reserve-2.new.self c.reserve.new.self c.add_new.new.self c.in_ok-reserve-2.ensures.items c.in_ok-reserve.ensures.items c.in_err-new.ensures.err c.self.invariant

pub invariant_of-self-then-not-new : goal.invariant_of-self-then-not-new
invariant_of-self-then-not-new c =
    let s = c.self.inside in
    let names = names_stay c.in_ok-new.new c.add_new.new.self (s.tree_names ++ c.args.name ∷ []) s.tree_names c.if-not-new.true c.in_ok-new.ensures.ok in
    kept_room s c.reserve-2.new.self c.reserve.new.self c.add_new.new.self c.in_ok-reserve-2.ensures.items c.in_ok-reserve.ensures.items names c.self.invariant

pub returns-then-not-new-clause-free : goal.returns-then-not-new-clause-free
returns-then-not-new-clause-free c =
    let s = c.self.inside in
    let name = c.args.name in
    let listed = ap (list_any (bytes_eq name)) c.self.invariant.tree_names ∙ has_tree name s.trees.items ∙ ap (λ (h : ScriptData). names_tree name h.trees) c.self.view_is in
    sym listed ∙ c.in_ok-new.ensures.new ∙ ap not c.if-not-new.true

pub returns-clause-free : goal.returns-clause-free
returns-clause-free c =
    let s = c.self.inside in
    let name = c.args.name in
    let listed = ap (list_any (bytes_eq name)) c.self.invariant.tree_names ∙ has_tree name s.trees.items ∙ ap (λ (h : ScriptData). names_tree name h.trees) c.self.view_is in
    sym listed ∙ c.in_ok-new.ensures.new ∙ ap not c.if-not-new.false
