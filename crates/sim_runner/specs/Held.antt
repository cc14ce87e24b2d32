-- A run that may be held: a world, the picker that chooses its letters, and the letter that is chosen and not taken.
use Rattle.std.specs.Prelude.{ℕ, ◌%◌, ◌≡◌, ◌<◌, List, length, Option, Some, None, IfSome}
use Rattle.letter_types.specs.declared.entries.Letter.{Letter}
use Rattle.tx_trees.specs.ScriptData.{ScriptData}
use Rattle.world_core.specs.Actors.{IsWorldOf, WorldData}
use Rattle.sim_runner.specs.Pickers.{IsPickedBy, picker_at}

pub record HeldData (P : Type 0) : Type 0 where
  pub world : WorldData
  pub picker : P
  pub chosen : Option ℕ

-- a letter that is chosen is in flight
abbrev pub HasChosen : {P : Type 0} → HeldData P → Type 0
HasChosen r = IfSome r.chosen (λ k. k < length r.world.bag)

-- picker p chose place k of these letters and became q
pub record Chose {P : Type 0} (place : P → List Letter → ℕ) (after : P → List Letter → P) (p : P) (letters : List Letter)
    (k : ℕ) (q : P) : Type 0 where
  pub at : k ≡ place p letters % length letters
  pub next : q ≡ after p letters

-- the picker is as it is after all entries; or it has chosen the next letter since
abbrev pub IsChosenNext : {P : Type 0} → (P → List Letter → ℕ) → (P → List Letter → P) → P → List Letter → Option ℕ → P → Type 0
IsChosenNext place after p letters None q = q ≡ p
IsChosenNext place after p letters (Some k) q = Chose place after p letters k q

-- the run so far is one of the script, whose letters were taken as the picker chose from its start on; a letter that is
-- chosen and not taken is the one that comes next
pub record IsRunBy {P : Type 0} (place : P → List Letter → ℕ) (after : P → List Letter → P) (s : ScriptData) (start : P)
    (r : HeldData P) : Type 0 where
  pub world : IsWorldOf s r.world
  pub picked : IsPickedBy place after s start r.world.history
  pub next : IsChosenNext place after (picker_at after s start r.world.history (length r.world.history)) r.world.bag r.chosen r.picker
