use Rattle.script_parts.specs.SameFacts.{same_exactly}
use Rattle.script_parts.proofs.same.equal_scripts_are_the_same.Goals as goal

pub returns : goal.returns
returns c = same_exactly
