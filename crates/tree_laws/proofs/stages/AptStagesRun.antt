-- In runs of enabled messages, of every script: each transaction is at one of its stages.
use Rattle.std.proofs.Common.{ℕ, ◌<◌, List, [], ◌∷◌, length, refl, subst}
use Rattle.letter_types.specs.declared.entries.Entry.{Entry}
use Rattle.tx_trees.specs.ScriptData.{ScriptData}
use Rattle.tx_trees.specs.Valid.{IsValid}
use Rattle.world_model.specs.AllApt.{AllApt}
use Rattle.world_model.specs.Runs.{IsStepRun}
use Rattle.tree_laws.specs.Stages.{StageAt, Unborn, StagesOfTrees}
use Rattle.tree_laws.proofs.apt.AptOfTree.{AllStaged, ByClient, ByCoordinator, Kept, OfTree, Other, OwnAck, OwnNote, OwnRoot, OwnSub, client_leaves, coordinator_leaves, kept_leaves, of_tree, other_leaves}
use Rattle.tree_laws.proofs.stages.AptStages.{stays}
use Rattle.tree_laws.proofs.stages.AptStagesOwn.{decided_stage, note_stage, root_stage, sub_stage}

abbrev StageNext : ScriptData → List Entry → Entry → ℕ → Type 0
StageNext s past e u = StageAt s past u → StageAt s (e ∷ past) u

next_by : (s : ScriptData) (past : List Entry) (e : Entry) (w : ℕ) → IsValid s → AllApt s (e ∷ past) → IsStepRun s (e ∷ past)
    → w < length s.trees → OfTree s past e w → StageNext s past e w
next_by s past e w valid apt run lt (Other p r g it) = stays s past e w (other_leaves s past e p w r g it)
next_by s past e w valid apt run lt (Kept p r k d) = stays s past e w (kept_leaves s past e p w r k valid apt run d)
next_by s past e w valid apt run lt (ByCoordinator at made) = stays s past e w (coordinator_leaves s past e w valid apt run lt at made)
next_by s past e w valid apt run lt (ByClient at says) = stays s past e w (client_leaves s past e w valid apt run lt at says)
next_by s past e w valid apt run lt (OwnRoot p t r g is same) = subst (λ (u : ℕ). StageNext s past e u) same (root_stage s past e p t r g is)
next_by s past e w valid apt run lt (OwnSub p t k v r g is some same) =
    subst (λ (u : ℕ). StageNext s past e u) same (sub_stage s past e p t k v r g is some)
next_by s past e w valid apt run lt (OwnNote p t k v notice r g is same) =
    subst (λ (u : ℕ). StageNext s past e u) same (note_stage s past e p t k v notice r g is)
next_by s past e w valid apt run lt (OwnAck p t v r g is same) = subst (λ (u : ℕ). StageNext s past e u) same (decided_stage s past e p t v r g is)

pub stages_of_trees : StagesOfTrees
stages_of_trees s [] valid apt run t lt =
    Unborn (record { root = refl; home = refl; held = refl; answers = refl; notes = λ k. refl; decisions = refl })
stages_of_trees s (e ∷ past) valid apt run t lt =
    let all : AllStaged s past = λ w less. stages_of_trees s past valid apt.1 run.1 w less in
    next_by s past e t valid apt run lt (of_tree s past e t valid apt run all) (all t lt)
