-- The level of a node: its versions, and the orders in flight to it, against the coordinator's phase.
use Rattle.std.proofs.Common.{◌≡◌, ℕ, ◌+◌, ◌-◌, ◌<◌, ◌≤◌, ◌==◌, true, false, List, refl, Option, Some, None}
use Rattle.std.specs.Prelude.{slice_get}
use Rattle.letter_types.specs.declared.bodies.Body.{Body}
use Rattle.letter_types.specs.declared.bodies.Body.TheVariants.{Sub as SubLetter, Turn, Show, Sweep, Order}
use Rattle.letter_types.specs.declared.entries.Entry.{Entry}
use Rattle.letter_types.specs.declared.entries.Letter.{Letter}
use Rattle.tx_trees.specs.ScriptData.{ScriptData, is_read, is_update, reads, updates}
use Rattle.tx_trees.specs.declared.parts.Tree.{Tree}
use Rattle.tx_trees.specs.declared.parts.TreeKind.{TreeKind}
use Rattle.tx_trees.specs.declared.parts.TreeKind.TheVariants.{Update, Read, Strict}
use Rattle.world_model.specs.declared.phase.Phase.{Phase}
use Rattle.world_model.specs.declared.phase.Phase.TheVariants.{Turning, Showing, Sweeping}
use Rattle.world_model.specs.Counts.{Each, one_if, tally}
use Rattle.world_model.specs.Kept.{outstanding}
use Rattle.world_model.specs.Runs.{coordinator_in, node_in, in_flight}
use Rattle.advance_laws.specs.Phases.{Stage, TurnStage, ShowStage, SweepStage, least_update, most_update, least_read, most_read, most_low}
use Rattle.advance_laws.proofs.counting.Letters.{NoTrees}

-- what a node comes to in a phase, now or by a letter that is in flight
abbrev pub due_update : Phase → ℕ → ℕ
due_update Turning u = u + 1
due_update _ u = 0

abbrev pub due_read : Phase → ℕ → ℕ
due_read Showing u = u
due_read _ u = 0

abbrev pub due_low : Phase → ℕ → ℕ
due_low Sweeping u = u
due_low _ u = 0

-- the versions of a node in a phase of an advancement from version u, with so many orders of each stage in flight to it
pub record Level (phase : Phase) (u update read low turns shows sweeps : ℕ) : Type 0 where
  pub update_from : least_update phase u ≤ update
  pub update_to : update ≤ most_update phase u
  pub read_from : least_read phase u ≤ read
  pub read_to : read + shows ≤ most_read phase u
  pub low_from : u - 1 ≤ low
  pub low_to : low + sweeps ≤ most_low phase u
  pub turning : due_update phase u ≤ update + turns
  pub showing : due_read phase u ≤ read + shows
  pub sweeping : due_low phase u ≤ low + sweeps

-- an order of the stage to node p
abbrev pub tell : Stage → ℕ → ℕ → Body → ℕ
tell TurnStage p to (Turn v) = one_if (to == p)
tell ShowStage p to (Show v) = one_if (to == p)
tell SweepStage p to (Sweep v) = one_if (to == p)
tell g p to _ = 0

-- an order of the stage, to whomever it goes: no letter of trees
abbrev pub order : Stage → Body → ℕ
order TurnStage (Turn v) = 1
order ShowStage (Show v) = 1
order SweepStage (Sweep v) = 1
order g _ = 0

pub orders_no_trees : (g : Stage) → NoTrees (order g)
orders_no_trees TurnStage = record {
  root = λ t. refl;
  sub = λ t k v. refl;
  done = λ t k v notice. refl;
  reply = λ t v answer. refl;
  wake = λ t k. refl;
  decide = λ t v commit. refl;
  decided = λ t v. refl;
  release = λ t. refl;
}
orders_no_trees ShowStage = record {
  root = λ t. refl;
  sub = λ t k v. refl;
  done = λ t k v notice. refl;
  reply = λ t v answer. refl;
  wake = λ t k. refl;
  decide = λ t v commit. refl;
  decided = λ t v. refl;
  release = λ t. refl;
}
orders_no_trees SweepStage = record {
  root = λ t. refl;
  sub = λ t k v. refl;
  done = λ t k v notice. refl;
  reply = λ t v answer. refl;
  wake = λ t k. refl;
  decide = λ t v commit. refl;
  decided = λ t v. refl;
  release = λ t. refl;
}

-- how many of them are in flight
abbrev pub tells : ScriptData → List Entry → Stage → ℕ → ℕ
tells s past g p = tally (λ (l : Letter). tell g p l.to.0 l.body) (in_flight s past)

-- node p's versions are those of the phase
abbrev pub LevelAt : ScriptData → List Entry → ℕ → Type 0
LevelAt s past p =
    Level (coordinator_in s past).phase (coordinator_in s past).update
    (node_in s past p).turns.update.0 (node_in s past p).turns.read.0 (node_in s past p).turns.low.0
    (tells s past TurnStage p) (tells s past ShowStage p) (tells s past SweepStage p)

-- the version in a letter is that of the phase: of an order the one that it leads to, of a tree that isn't a read tree at
-- most the greatest update version
abbrev pub LevelBody : ScriptData → Phase → ℕ → Body → Type 0
LevelBody s phase u (Turn v) = v.0 ≡ u + 1
LevelBody s phase u (Show v) = v.0 ≡ u
LevelBody s phase u (Sweep v) = v.0 ≡ u
LevelBody s phase u (SubLetter t k v) = reads s t.0 ≡ false → v.0 ≤ most_update phase u
LevelBody s phase u (Order e what v) = ⊥
LevelBody s phase u _ = Unit {0}

-- the levels of all nodes, and the versions in all letters that have still to be done; the coordinator's version is at
-- least 1
pub record Levels (s : ScriptData) (past : List Entry) : Type 0 where
  pub first : 1 ≤ (coordinator_in s past).update
  pub node : (p : ℕ) → p < s.nodes → LevelAt s past p
  pub letters : Each (λ (l : Letter). LevelBody s (coordinator_in s past).phase (coordinator_in s past).update l.body)
      (outstanding s past)

-- so it is that of the phase in a Sub of an update tree
unread_by : (kind : TreeKind) → is_update kind ≡ true → is_read kind ≡ false
unread_by Update is = refl
unread_by Read is = absurd (cc is)
unread_by Strict is = absurd (cc is)

pub unread : (s : ScriptData) (t : ℕ) (found : Option Tree) → slice_get s.trees t ≡ found → updates s t ≡ true → reads s t ≡ false
unread s t None at up = rw (at, reads) refl
unread s t (Some tree) at up =
    let update : is_update tree.kind ≡ true = rw (at, updates) at up in rw (at, reads) (unread_by tree.kind update)
