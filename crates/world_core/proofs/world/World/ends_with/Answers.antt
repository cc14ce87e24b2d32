use Rattle.std.proofs.Common.{◌≡◌, length, Some, ap, subst, arith}
use Rattle.std.specs.Prelude.{slice_get}
use Rattle.world_core.specs.Actors.{WorldData}
use Rattle.world_core.proofs.Finishing.{ends_there, stays_there}
use Rattle.world_core.proofs.Worlds.{below}
use Rattle.world_core.proofs.world.World.ends_with.Goals as goal

pub state_at-state-requires : goal.state_at-state-requires
state_at-state-requires c =
    omega (
      arith,
      below c.args.script.now c.args.self.now c.args.k c.letter-letter.result.now c.requires.world c.nodes-valid.ensures.valid c.letter-letter.ensures,
      c.requires.world.count,
      ap (λ (w : WorldData). length w.actors) c.self.view_is,
    )

pub ends_with-requires : goal.ends_with-requires
ends_with-requires c =
    (c.requires.world.actors c.letter-letter.result.now.to.0 c.state_at-state.result.now
    (subst (λ (w : WorldData). slice_get w.actors c.letter-letter.result.now.to.0 ≡ Some c.state_at-state.result.now) c.self.view_is c.state_at-state.ensures)).script

pub returns-clause-ends : goal.returns-clause-ends
returns-clause-ends c =
    ends_there c.args.script.now c.args.self.now c.args.k c.letter-letter.result.now c.state_at-state.result.now c.ends_with.result
    c.requires.world c.nodes-valid.ensures.valid c.letter-letter.ensures
    (subst (λ (w : WorldData). slice_get w.actors c.letter-letter.result.now.to.0 ≡ Some c.state_at-state.result.now) c.self.view_is c.state_at-state.ensures)
    c.ends_with.ensures

pub returns-clause-stays : goal.returns-clause-stays
returns-clause-stays c =
    stays_there c.args.script.now c.args.self.now c.args.k c.letter-letter.result.now c.state_at-state.result.now c.ends_with.result
    c.requires.world c.letter-letter.ensures
    (subst (λ (w : WorldData). slice_get w.actors c.letter-letter.result.now.to.0 ≡ Some c.state_at-state.result.now) c.self.view_is c.state_at-state.ensures)
    c.ends_with.ensures
