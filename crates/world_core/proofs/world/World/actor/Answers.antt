use Rattle.std.proofs.Common.{◌≡◌, Some, subst}
use Rattle.std.specs.Prelude.{slice_get}
use Rattle.world_core.specs.Actors.{WorldData}
use Rattle.world_core.proofs.Leads.{leads}
use Rattle.world_core.proofs.world.World.actor.Goals as goal

pub returns-clause-leads : goal.returns-clause-leads
returns-clause-leads c = λ s world.
    leads s c.args.self.now c.args.actor.0 c.state_at.result.now world c.requires
    (subst (λ (w : WorldData). slice_get w.actors c.args.actor.0 ≡ Some c.state_at.result.now) c.self.view_is c.state_at.ensures)
