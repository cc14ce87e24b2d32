-- A node and the world as a run begins.
use Rattle.std.proofs.Common.{◌≡◌, ℕ, ◌+◌, ◌<◌, ◌⊎◌, inl, inr, true, List, [], ◌∷◌, ◌++◌, length, refl, sym, ap, subst, arith}
use Rattle.std.specs.Prelude.{nat_lt, slice_get, Some}
use Rattle.std.proofs.lemmas.Bool.Decides.{nat_tests}
use Rattle.tv_base.proofs.ByPlace.{slice_get_split}
use Rattle.letter_types.specs.declared.entries.Entry.{Entry}
use Rattle.letter_types.specs.Letters.{go}
use Rattle.node_machine.specs.State.{keeping_of}
use Rattle.node_machine.specs.declared.state.KeepingParts.{KeepingParts}
use Rattle.tree_step.specs.Node.{IsOf}
use Rattle.tx_trees.specs.ScriptData.{ScriptData, client_of}
use Rattle.world_model.specs.Keeping.{start_keeping}
use Rattle.world_model.specs.Tables.{NodeData}
use Rattle.world_core.specs.declared.actor.ActorState.{ActorState}
use Rattle.world_core.specs.declared.actor.ActorState.TheVariants.{Node}
use Rattle.world_core.specs.Actors.{AreStatesOf, IsStateOf, IsWorldOf, WorldData}

-- a node as a run begins
pub first_node : (s : ScriptData) (a : ℕ) (n : KeepingParts) → a < s.nodes → keeping_of n ≡ start_keeping s a → IsOf s n.core.parts
    → IsStateOf s [] a (Node n)
first_node s a n lt is nodes =
    let here : nat_lt a s.nodes ≡ true = grind (arith, nat_tests) in
    record { seen = rw here (ap NodeData is); script = nodes }

one_of : (s : ScriptData) (past : List Entry) (xs : List ActorState) (x : ActorState) (a : ℕ) (st : ActorState)
    → AreStatesOf s past xs → IsStateOf s past (length xs) x
    → ((a < length xs) × (slice_get xs a ≡ Some st)) ⊎ ((a ≡ length xs) × (x ≡ st)) → IsStateOf s past a st
one_of s past xs x a st all one (inl p) = all a st p.1
one_of s past xs x a st all one (inr p) =
    subst (λ (y : ActorState). IsStateOf s past a y) p.1 (subst (λ (k : ℕ). IsStateOf s past k x) (sym p.0) one)

-- one state more
pub states_more : (s : ScriptData) (past : List Entry) (xs : List ActorState) (x : ActorState) → AreStatesOf s past xs
    → IsStateOf s past (length xs) x
    → AreStatesOf s past (xs ++ x ∷ [])
states_more s past xs x all one a st at = one_of s past xs x a st all one (slice_get_split xs x a st at)

pub first_world : (s : ScriptData) (w : WorldData) → length w.actors ≡ s.nodes + 2 → AreStatesOf s [] w.actors
    → w.bag ≡ go (client_of s) ∷ [] → w.history ≡ []
    → IsWorldOf s w
first_world s w count actors bag history = record {
  run = rw history tt;
  count = count;
  actors = rw history actors;
  bag = rw (history, bag) refl;
}
