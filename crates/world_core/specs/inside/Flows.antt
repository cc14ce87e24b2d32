-- What an event of a world changes, as a world: messages in flight by their places.
use Rattle.std.specs.Prelude.{ℕ, zero, suc, ◌≡◌, ◌+◌, ◌≤◌, List, [], ◌∷◌, All, get_or, length, map}
use Rattle.letter_types.specs.declared.entries.Entry.{Entry}
use Rattle.letter_types.specs.declared.entries.Letter.{Letter}
use Rattle.letter_types.specs.Letters.{go}
use Rattle.run_history.specs.Messages.{messages_of}
use Rattle.world_core.specs.Actors.{WorldData}
use Rattle.world_core.specs.declared.world.Flow.{Flow}

-- the message at a place: the first at 0, and then those that were sent
abbrev pub message_at : Letter → List Letter → ℕ → Letter
message_at first sent p = get_or (first ∷ sent) p first

-- each place has a message
abbrev pub ArePlacesOf : List Entry → List ℕ → Type 0
ArePlacesOf es places = All (λ p. p ≤ length (messages_of es)) places

-- the places of n messages behind the first i that were sent
abbrev pub places_from : ℕ → ℕ → List ℕ
places_from i zero = []
places_from i (suc n) = (i + 1) ∷ places_from (i + 1) n

-- with these entries: the first message is Go, and each place of the bag has a message
pub record IsFlowOf (es : List Entry) (f : Flow) : Type 0 where
  pub first : f.go ≡ go f.go.to.0
  pub placed : ArePlacesOf es f.bag.items

abbrev pub world_in : Flow → List Entry → WorldData
world_in f es = record {
  actors = f.actors.items;
  bag = map (message_at f.go (messages_of es)) f.bag.items;
  history = es;
}
