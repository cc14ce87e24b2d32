use Rattle.std.proofs.Common.{◌∙◌, ap, eqb, sym}
use Rattle.std.specs.Prelude.{slice_get}
use Rattle.std.proofs.lemmas.Nat.Bits.{shr_and_one}
use Rattle.tree_home.specs.Homes.{is_missing}
use Rattle.tree_home.specs.Notices.{OpenTreeData}
use Rattle.tree_home.proofs.Masks.{missing-in, missing-past}
use Rattle.tree_home.proofs.homes.OpenTree.misses.Goals as goal

pub returns-then-self-sub : goal.returns-then-self-sub
returns-then-self-sub c =
    let o = c.self.inside in
    sym (missing-past o.subs o.missing c.args.sub.0 o.values.items c.if-self-sub.true)
    ∙ ap (λ (h : OpenTreeData). is_missing (slice_get h.notices c.args.sub.0)) c.self.view_is

pub returns : goal.returns
returns c =
    let o = c.self.inside in
    ap (λ b. eqb b 1) (shr_and_one o.missing c.args.sub.0)
    ∙ sym (missing-in o.subs o.missing c.args.sub.0 o.values.items c.if-self-sub.false)
    ∙ ap (λ (h : OpenTreeData). is_missing (slice_get h.notices c.args.sub.0)) c.self.view_is
