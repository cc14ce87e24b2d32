use Rattle.std.proofs.Common.{◌≡◌, ◌∙◌, ◌≤◌, Some, ap, set, subst, sym}
use Rattle.std.proofs.lemmas.Result.{IfOk-weaker}
use Rattle.tree_home.specs.Homes.{gathered, missing_count}
use Rattle.tree_home.specs.Notices.{Gets, OpenTreeData, joined_with, notices_of}
use Rattle.tree_home.proofs.Masks.{missing-inside, gathered-lists}
use Rattle.tree_home.proofs.homes.OpenTree.gather.Goals as goal

pub returns : goal.returns
returns c =
    let o = c.self.inside in
    let k = c.args.sub.0 in
    let ws = c.args.values.now in
    let h = c.args.self.now in
    let is = missing-inside o.subs o.missing k o.values.items o.version c.args.self.now c.self.view_is c.requires in
    IfOk-weaker c.gather_lists.result (λ (all : Gets). all ≡ joined_with k ws c.as_slice.result.now)
    (λ (all : Gets). missing_count h.notices ≤ 1 → gathered (set h.notices k (Some ws)) ≡ Some all)
    (λ all eq few.
    let few' : missing_count (notices_of o.subs o.missing o.values.items) ≤ 1 =
    subst (λ (h : OpenTreeData). missing_count h.notices ≤ 1) (sym c.self.view_is) few in
    sym (ap (λ (h : OpenTreeData). gathered (set h.notices k (Some ws))) c.self.view_is)
    ∙ gathered-lists o.subs o.missing k o.values.items ws is few' c.self.invariant.lists
    ∙ ap Some (sym (eq ∙ ap (joined_with k ws) c.as_slice.ensures.value)))
    c.gather_lists.ensures
