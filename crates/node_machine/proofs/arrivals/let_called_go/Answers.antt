use Rattle.std.proofs.Common.{ap, ◌∙◌}
use Rattle.std.specs.Map.{values_of}
use Rattle.node_machine.specs.inside.Arrivals.{Arrived}
use Rattle.node_machine.proofs.deferred.FirstCalled.{letters_without}
use Rattle.node_machine.proofs.arrivals.let_called_go.Goals as goal

pub returns-clause-others : goal.returns-clause-others
returns-clause-others c =
    ap (λ (es : Arrived). values_of es) c.take_called.ensures.others
    ∙ letters_without c.args.tree c.args.sub c.args.letters.now.entries
