-- A run in which each message came in time.
use Rattle.std.specs.Prelude.{◌≡◌, ◌<◌, true, List, [], ◌∷◌}
use Rattle.letter_types.specs.declared.entries.Entry.{Entry}
use Rattle.script_parts.specs.ScriptData.{ScriptData}
use Rattle.world_model.specs.Epochs.{is_core_timely}
use Rattle.world_model.specs.Runs.{keeping_in}

-- the message of an entry was timely at its node, if it was taken by one
abbrev pub WasTimely : ScriptData → List Entry → Entry → Type 0
WasTimely s past e = e.actor.0 < s.nodes → is_core_timely s (keeping_in s past e.actor.0).core e.took.body ≡ true

-- each message that a node took was timely there. That every run is one is the last law of all that are proved of
-- these.
abbrev pub AllTimely : ScriptData → List Entry → Type 0
AllTimely s [] = Unit {0}
AllTimely s (e ∷ past) = WasTimely s past e × AllTimely s past
