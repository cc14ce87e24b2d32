use Rattle.std.proofs.Common.{◌∙◌, List, Option, ap, arith}
use Rattle.std.proofs.lemmas.Nat.{and_le_l}
use Rattle.tree_home.specs.Homes.{with_notice}
use Rattle.tree_home.specs.Notices.{Gets, OpenTreeData}
use Rattle.tree_home.proofs.Masks.{missing-inside, missing-bit, noted-mask}
use Rattle.tree_home.proofs.homes.OpenTree.note.Goals as goal

pub overflow_shl-self : goal.overflow_shl-self
overflow_shl-self c =
    let o = c.self.inside in
    let k = c.args.sub.0 in
    let is = missing-inside o.subs o.missing k o.values.items o.version c.args.self.now c.self.view_is c.requires in
    let lt = (missing-bit o.subs o.missing k o.values.items is).0 in
    let few = c.self.invariant.few in
    omega arith

pub put_values-requires : goal.put_values-requires
put_values-requires c =
    let o = c.self.inside in
    let k = c.args.sub.0 in
    let is = missing-inside o.subs o.missing k o.values.items o.version c.args.self.now c.self.view_is c.requires in
    let lt = (missing-bit o.subs o.missing k o.values.items is).0 in
    let room = c.self.invariant.room in
    omega arith

pub invariant_of-self : goal.invariant_of-self
invariant_of-self c =
    let o = c.self.inside in
    let k = c.args.sub.0 in
    let is = missing-inside o.subs o.missing k o.values.items o.version c.args.self.now c.self.view_is c.requires in
    let lt = (missing-bit o.subs o.missing k o.values.items is).0 in
    let mask = c.self.invariant.mask in
    let lists = c.self.invariant.lists in
    let long = c.put_values.ensures.length in
    let room = c.put_values.ensures.room in
    let had = c.self.invariant.room in
    record {
      few = c.self.invariant.few;
      mask = omega (arith, and_le_l);
      lists = omega arith;
      room = omega arith;
    }

pub returns : goal.returns
returns c =
    let o = c.self.inside in
    let k = c.args.sub.0 in
    let is = missing-inside o.subs o.missing k o.values.items o.version c.args.self.now c.self.view_is c.requires in
    let of : List (Option Gets) → OpenTreeData = λ ns. record { version = o.version; notices = ns } in
    ap of
    (noted-mask o.subs o.missing k o.values.items c.put_values.new.lists.items c.args.values c.self.invariant.few is
    c.put_values.ensures.at c.put_values.ensures.others)
    ∙ ap (λ (h : OpenTreeData). with_notice c.args.sub c.args.values h) c.self.view_is
