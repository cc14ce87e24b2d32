-- A world whose client would finish, and one whose script goes on.
use Rattle.std.specs.Prelude.{◌≡◌, List, [], ◌∷◌, reverse}
use Rattle.letter_types.specs.declared.acts.Act.TheVariants.{Finished}
use Rattle.letter_types.specs.declared.entries.Entry.{Entry}
use Rattle.letter_types.specs.declared.entries.Letter.{Letter}
use Rattle.script_parts.specs.ScriptData.{ScriptData}
use Rattle.script_parts.specs.Valid.{IsValid}
use Rattle.growth_laws.specs.Growth.{Extends, HasRowsLeft}
use Rattle.world_model.specs.Runs.{IsStepRun, client_in}
use Rattle.world_core.specs.Actors.{IsWorldOf, WorldData}

-- an entry that takes this message may come next, and the client finishes with it
pub record FinishesWith (s : ScriptData) (past : List Entry) (l : Letter) : Type 0 where
  pub entry : Entry
  pub took : entry.took ≡ l
  pub run : IsStepRun s (entry ∷ past)
  pub acts : entry.acts ≡ Finished ∷ []

-- the client has finished behind an entry that takes this message only if it had before
abbrev pub StaysUnfinished : ScriptData → List Entry → Letter → Type 0
StaysUnfinished s past l =
    (e : Entry) → e.took ≡ l → IsStepRun s (e ∷ past)
    → (client_in s (e ∷ past)).finished ≡ (client_in s past).finished

-- the world is one of a script from which this one goes on, and its client has rows of that script left
pub record MayGoOn (w : WorldData) (t : ScriptData) : Type 0 where
  pub script : ScriptData
  pub valid : IsValid script
  pub extends : Extends script t
  pub world : IsWorldOf script w
  pub left : HasRowsLeft script (reverse w.history)
