-- An actor's state is the one to which its own entries lead.
use Rattle.std.proofs.Common.{◌≡◌, ℕ, ◌<◌, List, ap, ◌∙◌, arith, length, reverse, Some}
use Rattle.std.specs.Prelude.{slice_get}
use Rattle.std.proofs.lemmas.List.{reverse-reverse}
use Rattle.letter_types.specs.declared.entries.Entry.{Entry}
use Rattle.tx_trees.specs.ScriptData.{ScriptData}
use Rattle.world_model.specs.Runs.{actor_after}
use Rattle.world_model.proofs.Back.{actor_leads}
use Rattle.world_core.specs.declared.actor.ActorState.{ActorState}
use Rattle.world_core.specs.Actors.{IsWorldOf, WorldData, actor_data}

pub leads : (s : ScriptData) (w : WorldData) (a : ℕ) (st : ActorState) → IsWorldOf s w → a < length w.actors
    → slice_get w.actors a ≡ Some st → actor_data st ≡ actor_after s w.history a
leads s w a st world lt at =
    (world.actors a st at).seen
    ∙ actor_leads s (reverse w.history) a (omega (arith, world.count))
    ∙ ap (λ (h : List Entry). actor_after s h a) (reverse-reverse w.history)
