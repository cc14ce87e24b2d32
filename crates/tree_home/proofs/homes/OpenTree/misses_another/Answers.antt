use Rattle.std.proofs.Common.{◌∙◌, ap, arith}
use Rattle.std.specs.Prelude.{nat_lt}
use Rattle.std.proofs.lemmas.Nat.{one_shl}
use Rattle.tree_home.specs.Homes.{missing_count}
use Rattle.tree_home.specs.Notices.{OpenTreeData}
use Rattle.tree_home.proofs.Masks.{missing-inside, another-by, missing-bit}
use Rattle.tree_home.proofs.homes.OpenTree.misses_another.Goals as goal

pub overflow_shl-result : goal.overflow_shl-result
overflow_shl-result c =
    let o = c.self.inside in
    let is = missing-inside o.subs o.missing c.args.sub.0 o.values.items o.version c.args.self.now c.self.view_is c.requires in
    let lt = (missing-bit o.subs o.missing c.args.sub.0 o.values.items is).0 in
    let few = c.self.invariant.few in
    omega arith

pub returns : goal.returns
returns c =
    let o = c.self.inside in
    let k = c.args.sub.0 in
    let is = missing-inside o.subs o.missing k o.values.items o.version c.args.self.now c.self.view_is c.requires in
    let lt = (missing-bit o.subs o.missing k o.values.items is).0 in
    let few = c.self.invariant.few in
    another-by o.subs o.missing k _ o.values.items c.self.invariant.mask is (one_shl k 64 (omega arith))
    ∙ ap (λ (h : OpenTreeData). nat_lt 1 (missing_count h.notices)) c.self.view_is
