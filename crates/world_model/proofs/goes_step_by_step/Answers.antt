use Rattle.world_model.proofs.Posts.{steps}
use Rattle.world_model.proofs.goes_step_by_step.Goals as goal

pub returns : goal.returns
returns c = steps
