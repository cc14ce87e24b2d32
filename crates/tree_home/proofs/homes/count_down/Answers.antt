use Rattle.std.proofs.Common.{◌≡◌, ◌∙◌, Some, Option, ap, sym, subst}
use Rattle.std.specs.Prelude.{IsSome}
use Rattle.tree_home.specs.declared.homes.Held.{Held}
use Rattle.tree_home.specs.Maps.{by_tree, put_at}
use Rattle.tree_home.specs.HeldAnswers.{acked_of}
use Rattle.tree_home.proofs.Ascending.{ascends}
use Rattle.tree_home.proofs.Entries.{found, changed, lent-some, lent-here}
use Rattle.tree_home.proofs.Holding.{more-there, more-missed, more-fewer}
use Rattle.tree_home.proofs.homes.count_down.Goals as goal

pub unwrap-found-requires : goal.unwrap-found-requires
unwrap-found-requires c =
    let es = c.args.held.now.entries in
    let o = by_tree es c.args.tree.0 in
    lent-some c.get_mut.result o (c.get_mut.ensures.value ∙ found c.args.tree es) (more-there o c.requires)

pub one_fewer-requires : goal.one_fewer-requires
one_fewer-requires c =
    let es = c.args.held.now.entries in
    let o = by_tree es c.args.tree.0 in
    let x = c.unwrap-found.result in
    let here = lent-here c.get_mut.result x o (c.get_mut.ensures.value ∙ found c.args.tree es) c.unwrap-found.ensures in
    more-missed o x.now c.requires here

pub returns-clause-acked : goal.returns-clause-acked
returns-clause-acked c =
    let es = c.args.held.now.entries in
    let hs = by_tree es in
    let o = hs c.args.tree.0 in
    let x = c.unwrap-found.result in
    let w = c.one_fewer.new.found in
    let here = lent-here c.get_mut.result x o (c.get_mut.ensures.value ∙ found c.args.tree es) c.unwrap-found.ensures in
    let P : Option Held → Type 0 = λ o. IsSome o in
    let some = subst P (sym (found c.args.tree es)) (more-there o c.requires) in
    let next : Some w ≡ acked_of o = ap Some c.one_fewer.ensures ∙ sym (more-fewer o x.now c.requires here) in
    changed c.args.tree (Some w) es (c.get_mut.follows.lender w).entries (((c.get_mut.follows.holds w).3 some).0)
    ∙ ap (λ (o : Option Held). put_at c.args.tree.0 o hs) next

pub returns-clause-ascending : goal.returns-clause-ascending
returns-clause-ascending c =
    let w = c.one_fewer.new.found in
    ascends (c.get_mut.follows.lender w).entries (c.get_mut.follows.holds w).4
