use Rattle.std.proofs.Common.{◌≡◌, ◌++◌, drop, length}
use Rattle.worth_steps.specs.inside.Editing.{number_below, revalued}
use Rattle.worth_steps.proofs.steps.revalued.Given as goal

abbrev pub invariant-loop-step : goal.invariant-loop-step
invariant-loop-step l =
    l.made.items ++ revalued l.kind (number_below l.below (length l.made.items) l.made.items) (drop l.step-index l.steps)
    ≡ revalued l.kind l.below l.steps
