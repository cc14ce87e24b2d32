use Rattle.std.proofs.Common.{◌∙◌, ap, length, sym}
use Rattle.tree_home.specs.Notices.{OpenTreeData}
use Rattle.tree_home.proofs.Masks.{length-notices}
use Rattle.tree_home.proofs.homes.OpenTree.subs.Goals as goal

pub returns : goal.returns
returns c =
    let o = c.self.inside in
    sym (length-notices o.subs o.missing o.values.items)
    ∙ ap (λ (h : OpenTreeData). length h.notices) c.self.view_is
