use Rattle.std.proofs.Common.{◌∙◌, ap, sym, Option}
use Rattle.tree_home.specs.declared.homes.Held.{Held}
use Rattle.tree_home.specs.Maps.{by_tree, put_at}
use Rattle.tree_home.proofs.Holding.{last-gone}
use Rattle.tree_home.proofs.homes.acknowledge.Goals as goal

pub returns-in-Some-clause-acked : goal.returns-in-Some-clause-acked
returns-in-Some-clause-acked c =
    let hs = by_tree c.args.held.now.entries in
    let gone = last-gone (hs c.args.tree.0) (sym c.if-waits_for_more.ensures) in
    c.remove.ensures.removed ∙ ap (λ (o : Option Held). put_at c.args.tree.0 o hs) (sym gone)
