-- What a schedule leaves open: nothing.
use Rattle.std.specs.Prelude.{ℕ, ◌≡◌, List, Option, reverse}
use Rattle.letter_types.specs.declared.entries.Entry.{Entry}
use Rattle.script_parts.specs.ScriptData.{ScriptData}
use Rattle.world_model.specs.Runs.{IsStepRun}
use Rattle.world_model.specs.Scheduled.{IsScheduled}

-- a script and a seed, if there is one, have one run: two histories that they schedule are equal
abbrev pub ScheduledRunsAreOne : Type 0
ScheduledRunsAreOne =
    (s : ScriptData) (seed : Option ℕ) (h g : List Entry) → IsStepRun s (reverse h) → IsStepRun s (reverse g)
    → IsScheduled s seed h → IsScheduled s seed g → h ≡ g
