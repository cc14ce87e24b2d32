use Rattle.sim_runner.proofs.Quiet.{anew_step}
use Rattle.sim_runner.proofs.laws.worlds_give_before_or_in_quiet.Goals as goal

pub returns : goal.returns
returns c = λ s k old new valid world took e is.
    anew_step s old.history new.history valid world.run e is
