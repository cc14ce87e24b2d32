use Rattle.std.proofs.Common.{rules, ◌≡◌, sym, subst}
use Rattle.world_core.specs.Actors.{IsWorldOf, WorldData}
use Rattle.world_core.specs.inside.Flows.{world_in}
use Rattle.world_core.proofs.world.World.step.Goals as goal

pub returns-then-is_err-clause-world : goal.returns-then-is_err-clause-world
returns-then-is_err-clause-world c =
    let same : world_in c.advance-result.new.flow c.close.new.self ≡ c.args.self.now = search rules in
    subst (λ (w : WorldData). IsWorldOf c.args.script.now w) (sym same) c.requires.world
