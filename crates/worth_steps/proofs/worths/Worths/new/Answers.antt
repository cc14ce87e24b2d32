use Rattle.std.proofs.Common.{◌∙◌}
use Rattle.std.specs.Int.{w128}
use Rattle.std.proofs.lemmas.Int.{to_z-of_z}
use Rattle.worth_steps.proofs.Noting.{none_noted}
use Rattle.worth_steps.proofs.worths.Worths.new.Goals as goal

pub returns-clause-worths : goal.returns-clause-worths
returns-clause-worths c =
    none_noted c.args.first.now c.value_kind.result _ c.new.result.items c.new-2.result.items c.requires c.value_kind.ensures
    (to_z-of_z w128 c.value_number.result (record { sfits = c.value_number.type_inv }) ∙ c.value_number.ensures)
    c.new.ensures.items c.new-2.ensures.items
