use Rattle.headline.proofs.Promised.{headline}
use Rattle.threev_top.proofs.modes.ran.Goals as goal

pub returns-clause-headline : goal.returns-clause-headline
returns-clause-headline g c =
    headline c.args.script c.in_ok-history.history c.nodes-valid.ensures.valid
    c.in_ok-history.ensures.run c.in_ok-history.ensures.finished
