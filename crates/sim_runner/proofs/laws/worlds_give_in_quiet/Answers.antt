use Rattle.sim_runner.proofs.Quiet.{given_step}
use Rattle.sim_runner.proofs.laws.worlds_give_in_quiet.Goals as goal

pub returns : goal.returns
returns c = λ s k old new valid keeps world took e is.
    given_step s old.history new.history valid keeps world.run e is
