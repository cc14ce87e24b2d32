-- What a step of a world sends, against what was before it.
use Rattle.std.specs.Prelude.{◌≡◌, [], ◌∷◌, ◌++◌, reverse}
use Rattle.letter_types.specs.declared.entries.Entry.{Entry}
use Rattle.letter_types.specs.declared.entries.Outgoing.{Outgoing}
use Rattle.advance_laws.specs.Given.{IsGivenAnew}
use Rattle.advance_laws.specs.Quiet.{IsGivenInQuiet}
use Rattle.tx_trees.specs.ScriptData.{ScriptData}
use Rattle.world_core.specs.Actors.{WorldData}
use Rattle.world_model.specs.Counts.{Each}

-- what the entry that was made sends, it sends only for a quiescent version: Show(v) and Sweep(v)
abbrev pub GaveInQuiet : ScriptData → WorldData → WorldData → Type 0
GaveInQuiet s old new = (e : Entry) → new.history ≡ old.history ++ e ∷ []
    → Each (λ (o : Outgoing). IsGivenInQuiet s (reverse old.history) o.body) e.sent

-- what it tells nodes to show, or to sweep to, they were told before, or it tells them for a quiescent version
abbrev pub GaveAnew : ScriptData → WorldData → WorldData → Type 0
GaveAnew s old new = (e : Entry) → new.history ≡ old.history ++ e ∷ []
    → Each (λ (o : Outgoing). IsGivenAnew s (reverse old.history) o.body) e.sent
