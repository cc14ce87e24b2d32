use Rattle.world_model.proofs.Back.{world_run}
use Rattle.world_model.proofs.steps_follow_the_tables.Goals as goal

pub returns : goal.returns
returns c = world_run
