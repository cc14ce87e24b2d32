-- Requests, completions and the counted messages between them.
use Rattle.std.specs.Prelude.{ℕ, Bool, false, ◌==◌, ◌&&◌, ◌+◌, ◌<◌, ◌≤◌, ◌≡◌, ◌⊎◌, List}
use Rattle.letter_types.specs.declared.bodies.Body.{Body}
use Rattle.letter_types.specs.declared.bodies.Body.TheVariants.{Sub, Done, Decide, Decided}
use Rattle.letter_types.specs.declared.entries.Entry.{Entry}
use Rattle.letter_types.specs.declared.entries.Letter.{Letter}
use Rattle.tx_trees.specs.ScriptData.{ScriptData}
use Rattle.world_model.specs.Counts.{tally, one_if}
use Rattle.world_model.specs.Kept.{outstanding}
use Rattle.world_model.specs.Runs.{node_in}
pub use Rattle.world_model.specs.Taking.{MOST_COUNTED}

-- a counted message of version v: a Sub, a Done, a Decide or a Decided
abbrev pub version_is : ℕ → Body → Bool
version_is v (Sub t k w) = w.0 == v
version_is v (Done t k w notice) = w.0 == v
version_is v (Decide t w commit) = w.0 == v
version_is v (Decided t w) = w.0 == v
version_is v _ = false

-- 1 for a counted message of version v from p to q
abbrev pub goes_between : ℕ → ℕ → ℕ → Letter → ℕ
goes_between v p q l = one_if (version_is v l.body && ((l.from.0 == p) && (l.to.0 == q)))

-- how many counted messages of version v from p to q have still to be done: in flight, or deferred by a node
abbrev pub out : ScriptData → List Entry → ℕ → ℕ → ℕ → ℕ
out s past v p q = tally (goes_between v p q) (outstanding s past)

-- node p has collected to a version above v
abbrev pub HasLeft : ScriptData → List Entry → ℕ → ℕ → Type 0
HasLeft s past v p = v < (node_in s past p).turns.low.0

-- in a version that both still count, the requests of p to q are the completions of q from p and the counted messages
-- that have still to be done; in a version that one of them has left there is no such message
pub record IsBalanced (s : ScriptData) (past : List Entry) : Type 0 where
  pub equal : (v p q : ℕ) → p < s.nodes → q < s.nodes
      → (node_in s past p).turns.low.0 ≤ v → (node_in s past q).turns.low.0 ≤ v
      → (node_in s past p).counts.asked v q ≡ (node_in s past q).counts.done v p + out s past v p q
  pub none : (v p q : ℕ) → p < s.nodes → q < s.nodes → HasLeft s past v p ⊎ HasLeft s past v q → out s past v p q ≡ 0
