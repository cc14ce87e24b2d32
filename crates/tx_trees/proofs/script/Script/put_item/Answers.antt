use Rattle.std.proofs.Common.{arith, ◌∙◌, ap, List, ℕ, ◌++◌, ◌∷◌, [], subst, sym}
use Rattle.std.specs.Prelude.{is_some}
use Rattle.std.specs.List.{list_any}
use Rattle.std.specs.Str.{bytes_eq}
use Rattle.script_parts.specs.declared.parts.ItemRow.{ItemRow}
use Rattle.script_parts.specs.ScriptData.{ScriptData}
use Rattle.script_parts.specs.Adding.{place_of}
use Rattle.script_parts.specs.inside.Passing.{MayAddItem}
use Rattle.tx_trees.proofs.Kept.{kept_item, pushed_is}
use Rattle.script_parts.proofs.Named.{has_item}
use Rattle.tx_trees.proofs.script.Script.put_item.Goals as goal

pub add-requires : goal.add-requires
add-requires c =
    let name = c.args.row.name in
    ap (list_any (bytes_eq name)) c.self.invariant.item_names
    ∙ has_item name c.self.inside.items.items
    ∙ ap (λ (h : ScriptData). is_some (place_of name h.items)) c.self.view_is
    ∙ c.requires.free

pub invariant_of-self-2 : goal.invariant_of-self-2
invariant_of-self-2 c =
    let s = c.self.inside in
    let row = c.args.row in
    let r = c.in_ok-reserve.ensures in
    let q = c.in_ok-reserve-2.ensures in
    let p = c.in_ok-reserve-3.ensures in
    let put = c.push.ensures.succeeds (omega (arith, p.ok)) in
    let items = pushed_is c.push.result c.push.new.self.items c.reserve-3.new.self.items row put c.push.ensures.items ∙ ap (λ (x : List ItemRow). x ++ row ∷ []) p.items in
    let put_total = c.push-2.ensures.succeeds (omega (arith, r.ok)) in
    let totals = pushed_is c.push-2.result c.push-2.new.self.items c.reserve.new.self.items c.initial_size-initial.result put_total c.push-2.ensures.items
    ∙ ap (λ (x : List ℕ). x ++ c.initial_size-initial.result ∷ []) r.items
    ∙ ap (λ (n : ℕ). s.totals.items ++ n ∷ []) c.initial_size-initial.ensures in
    let put_zero = c.push-3.ensures.succeeds (omega (arith, q.ok)) in
    let puts = pushed_is c.push-3.result c.push-3.new.self.items c.reserve-2.new.self.items 0 put_zero c.push-3.ensures.items ∙ ap (λ (x : List ℕ). x ++ 0 ∷ []) q.items in
    let may = subst (λ (h : ScriptData). MayAddItem h row) (sym c.self.view_is) c.requires in
    kept_item s c.push.new.self c.add.new.self c.push-2.new.self c.push-3.new.self row c.in_ok-add.ensures.ok items totals puts may c.self.invariant
