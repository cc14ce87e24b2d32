-- A world with an empty bag has ended.
use Rattle.std.proofs.Common.{◌≡◌, ◌≤◌, List, [], ◌∷◌, length, reverse, refl, sym, ◌∙◌, subst, arith}
use Rattle.std.proofs.lemmas.List.{reverse-reverse}
use Rattle.letter_types.specs.declared.entries.Letter.{Letter}
use Rattle.tx_trees.specs.ScriptData.{ScriptData}
use Rattle.tx_trees.specs.Valid.{IsValid}
use Rattle.world_model.specs.Runs.{in_flight}
use Rattle.headline.proofs.Emptied.{ended_past}
use Rattle.world_core.specs.Actors.{IsWorldOf, WorldData}
use Rattle.headline.specs.Ended.{HasEnded}

none_left : (xs : List Letter) → length xs ≤ 0 → xs ≡ []
none_left [] le = refl
none_left (x ∷ xs) le = absurd (omega arith)

-- a world without a letter in flight
pub bag_is_empty : (s : ScriptData) (w : WorldData) → IsWorldOf s w → length w.bag ≤ 0 → in_flight s (reverse w.history) ≡ []
bag_is_empty s w world none = sym world.bag ∙ none_left w.bag none

pub has_ended : (s : ScriptData) (w : WorldData) → IsWorldOf s w → IsValid s → length w.bag ≤ 0 → HasEnded s w.history
has_ended s w world valid none =
    subst (HasEnded s) (reverse-reverse w.history)
    (ended_past s (reverse w.history) valid world.run (bag_is_empty s w world none))
