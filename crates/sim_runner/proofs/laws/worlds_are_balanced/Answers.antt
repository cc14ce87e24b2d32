use Rattle.std.proofs.Common.{reverse}
use Rattle.run_laws.proofs.each_tree.InTime.{balanced_run}
use Rattle.sim_runner.proofs.laws.worlds_are_balanced.Goals as goal

pub returns : goal.returns
returns c = λ s w valid world. balanced_run s (reverse w.history) valid world.run
