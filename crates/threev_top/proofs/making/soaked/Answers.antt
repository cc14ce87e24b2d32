use Rattle.std.proofs.Common.{subst}
use Rattle.headline.proofs.Promised.{headline}
use Rattle.headline.specs.Headline.{HasHeadline}
use Rattle.tx_trees.specs.ScriptData.{ScriptData}
use Rattle.threev_top.proofs.making.soaked.Goals as goal

pub returns-clause-headline : goal.returns-clause-headline
returns-clause-headline g c =
    let script = c.in_ok-script.script in
    let history = c.in_ok-history.history in
    subst (λ (s : ScriptData). HasHeadline s history) c.in_ok-script.ensures
    (headline script history c.nodes-valid.ensures.valid c.in_ok-history.ensures.run c.in_ok-history.ensures.finished)
