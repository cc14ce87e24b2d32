-- What a node does by an order, whichever coordinator gives it.
use Rattle.std.specs.Prelude.{if◌then◌else◌, ℕ, []}
use Rattle.tv_base.specs.declared.numbers.Version.{Version}
use Rattle.letter_types.specs.declared.bodies.Body.{Body}
use Rattle.letter_types.specs.declared.bodies.Body.TheVariants.{Obeyed, Turned, Shown, Swept}
use Rattle.letter_types.specs.declared.bodies.What.{What}
use Rattle.letter_types.specs.declared.bodies.What.TheVariants as whats
use Rattle.letter_types.specs.Steps.{Out}
use Rattle.tx_trees.specs.ScriptData.{ScriptData}
use Rattle.tree_step.specs.Node.{Node}
use Rattle.world_model.specs.Advancing.{show_row, sweep_row, to_coordinator, turn_row}
use Rattle.world_model.specs.Epochs.{was_obeyed}

-- the answer to an order of a coordinator that keeps its state
abbrev pub plain_answer : What → Version → Body
plain_answer whats.Turn v = Turned v
plain_answer whats.Show v = Shown v
plain_answer whats.Sweep v = Swept v

-- the row of such an order
abbrev pub plain_row : ScriptData → What → Version → Node → Out Node
plain_row s whats.Turn v st = turn_row s v st
plain_row s whats.Show v st = show_row s v st
plain_row s whats.Sweep v st = sweep_row s v st

-- the same with this answer
abbrev pub ordered_row : ScriptData → What → Version → Body → Node → Out Node
ordered_row s what v answer st = record {
  state = (plain_row s what v st).state;
  sent = to_coordinator s answer;
  acts = (plain_row s what v st).acts;
}

-- a node stays as it is, and sends the coordinator this answer
abbrev pub told_row : ScriptData → Body → Node → Out Node
told_row s answer st = record { state = st; sent = to_coordinator s answer; acts = [] }

-- a node obeys an order of this epoch, unless it has done so before, and answers
abbrev pub obeyed_row : ScriptData → ℕ → What → Version → Node → Out Node
obeyed_row s e what v st =
    if was_obeyed what v st then told_row s (Obeyed e what v) st else ordered_row s what v (Obeyed e what v) st
