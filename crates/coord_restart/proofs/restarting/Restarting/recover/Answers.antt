use Rattle.std.proofs.Common.{◌≡◌, ◌∙◌, subst, sym}
use Rattle.std.specs.Prelude.{max}
use Rattle.letter_types.specs.Steps.{Out}
use Rattle.world_model.specs.Restarting.{Restarting}
use Rattle.coord_restart.specs.RestartChanges.{IsRestartStepOf}
use Rattle.coord_restart.proofs.Resuming.{goes_on}
use Rattle.coord_restart.proofs.restarting.Restarting.recover.Goals as goal

pub returns : goal.returns
returns c =
    let want : c.max.result ≡ max c.args.self.now.wanted c.in-Some.sent = rw (← c.self.view_is) c.max.ensures in
    subst (λ (o : Out Restarting). IsRestartStepOf o c.args.self.now c.in_ok-prepared.prepared)
    (goes_on c.args.taken c.in-Some.sent c.args.self.now c.args.tellings.now c.max.result c.onward-onward.result c.requires.told want
    c.onward-onward.ensures (sym c.are_all.ensures ∙ c.if-not-are_all.false) (sym c.heard_with.ensures ∙ c.in-Some.is))
    c.in_ok-prepared.ensures
