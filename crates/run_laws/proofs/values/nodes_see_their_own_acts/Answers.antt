use Rattle.run_laws.proofs.items.SeenByActs.{sees_by_acts}
use Rattle.run_laws.proofs.values.nodes_see_their_own_acts.Goals as goal

pub returns : goal.returns
returns c = sees_by_acts
