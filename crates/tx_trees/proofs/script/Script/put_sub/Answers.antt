use Rattle.std.proofs.Common.{arith, ℕ, ap, ◌≡◌, ◌+◌, subst, sym, refl, ◌∙◌}
use Rattle.script_parts.specs.ScriptData.{ScriptData}
use Rattle.script_parts.specs.Adding.{last_kind}
use Rattle.script_parts.specs.Counts.{if_update}
use Rattle.script_parts.specs.inside.Passing.{MayAddSub}
use Rattle.script_parts.specs.declared.parts.TreeKind.{TreeKind}
use Rattle.tx_trees.proofs.Kept.{few_updates, one_update_small, kept_sub}
use Rattle.tx_trees.proofs.script.Script.put_sub.Goals as goal

pub overflow_add-self-2 : goal.overflow_add-self-2
overflow_add-self-2 c =
    let h = c.self.invariant in
    omega (arith, few_updates c.self.inside.trees.items, h.valid.limited.subs, h.update_subs, one_update_small c.last_kind.result, c.one_update-more.ensures)

pub invariant_of-self-2 : goal.invariant_of-self-2
invariant_of-self-2 c =
    let s = c.self.inside in
    let more : c.one_update-more.result ≡ if_update (last_kind s.trees.items) 1 = c.one_update-more.ensures ∙ ap (λ (k : TreeKind). if_update k 1) (c.last_kind.ensures ∙ ap last_kind c.deref.ensures.value) in
    let may = subst (λ (h : ScriptData). MayAddSub h c.args.parent c.args.node) (sym c.self.view_is) c.requires in
    kept_sub s c.push_sub.new.trees _ _ c.args.parent c.args.node c.in_ok-sub.sub c.in_ok-sub.ensures c.in_ok-push_sub.ensures.ok refl (ap (λ (n : ℕ). s.update_subs + n) more) may c.self.invariant
