-- Runs in which each message that came to a node brought an enabled one.
use Rattle.std.specs.Prelude.{◌≡◌, ◌<◌, true, List, [], ◌∷◌}
use Rattle.letter_types.specs.Kept.{brought}
use Rattle.letter_types.specs.declared.entries.Entry.{Entry}
use Rattle.script_parts.specs.ScriptData.{ScriptData}
use Rattle.world_model.specs.Keeping.{is_apt_brought}
use Rattle.world_model.specs.Kept.{kept_in}
use Rattle.world_model.specs.Runs.{keeping_in}

-- the message that an entry took brought one that is enabled at its node, if a node took it
abbrev pub WasApt : ScriptData → List Entry → Entry → Type 0
WasApt s past e = e.actor.0 < s.nodes
    → is_apt_brought s e.actor.0 (keeping_in s past e.actor.0) (brought (kept_in s past e.actor.0) e.took e.took.body) ≡ true

-- each did. That every run is such a one is the last law of all that are proved of these
abbrev pub AllApt : ScriptData → List Entry → Type 0
AllApt s [] = Unit {0}
AllApt s (e ∷ past) = WasApt s past e × AllApt s past
