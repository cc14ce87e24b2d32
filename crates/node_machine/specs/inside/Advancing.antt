-- What a node does with the coordinator's messages. Private code alone cites these definitions.
use Rattle.std.specs.Prelude.{List, [], ◌∷◌, nat_lt, Option, Some}
use Rattle.tv_base.specs.declared.numbers.Version.{Version}
use Rattle.letter_types.specs.declared.acts.Act.{Act}
use Rattle.letter_types.specs.declared.acts.Act.TheVariants as acts
use Rattle.letter_types.specs.declared.bodies.What.{What}
use Rattle.letter_types.specs.declared.bodies.What.TheVariants as whats
use Rattle.node_versions.specs.declared.turns.Turns.{Turns}
use Rattle.tree_step.specs.declared.plan.Doing.{Doing}
use Rattle.tree_step.specs.declared.plan.Doing.TheVariants as doings
use Rattle.world_model.specs.Done.{turned_if}

-- the act of a step that has at most one
abbrev pub acts_if : Option Act → List Act
acts_if (Some act) = act ∷ []
acts_if _ = []

-- the acts of an order
abbrev pub order_acts : What → Version → Turns → List Act
order_acts whats.Turn v turns = turned_if (nat_lt turns.update.0 v.0) v.0
order_acts whats.Show v turns = acts.Showed v ∷ []
order_acts whats.Sweep v turns = acts.Swept v ∷ []

-- what a node's parts do by it
abbrev pub order_doing : What → Version → Doing
order_doing whats.Turn v = doings.Turn v
order_doing whats.Show v = doings.Show v
order_doing whats.Sweep v = doings.Sweep v
