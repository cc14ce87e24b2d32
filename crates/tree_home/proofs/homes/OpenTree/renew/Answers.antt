use Rattle.std.proofs.Common.{◌≡◌, ◌∙◌, ◌-◌, ◌/◌, ◌^◌, List, [], ap, arith, length, Option}
use Rattle.std.proofs.lemmas.Nat.{pow_pos}
use Rattle.tree_home.specs.Notices.{Gets, OpenTreeData, notices_of}
use Rattle.tree_home.proofs.Masks.{all-notices, all_bits}
use Rattle.tree_home.proofs.homes.OpenTree.renew.Goals as goal

pub invariant_of-self-2 : goal.invariant_of-self-2
invariant_of-self-2 c =
    let none : c.reserve_exact.new.self.items ≡ [] = c.reserve_exact.ensures.items ∙ c.clear.ensures.items in
    let short = ap (λ (vss : List Gets). length vss) none in
    let bits = all_bits c.args.subs c.requires.few in
    let pos = pow_pos c.args.subs in
    let room = c.in_ok-reserve_exact.ensures.ok in
    record {
      few = c.requires.few;
      mask = omega arith;
      lists = omega arith;
      room = omega arith;
    }

pub returns : goal.returns
returns c =
    let none : c.reserve_exact.new.self.items ≡ [] = c.reserve_exact.ensures.items ∙ c.clear.ensures.items in
    let m = (2 ^ 64 - 1) / 2 ^ (64 - c.args.subs) in
    let of : List (Option Gets) → OpenTreeData = λ ns. record { version = c.args.version; notices = ns } in
    ap (λ (vss : List Gets). of (notices_of c.args.subs m vss)) none
    ∙ ap of (all-notices c.args.subs m (all_bits c.args.subs c.requires.few))
