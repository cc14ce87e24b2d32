-- What strict transactions write takes effect at all nodes that they visit, or at none.
use Rattle.std.specs.Prelude.{ℕ, ◌≡◌, ◌≤◌, true, false, List, reverse, IsTrue}
use Rattle.letter_types.specs.declared.entries.Entry.{Entry}
use Rattle.script_parts.specs.ScriptData.{ScriptData, subs_at, visits}
use Rattle.board_rules.specs.Histories.{IsWhole}
use Rattle.tree_laws.specs.Applied.{applied_at, decided_as}

-- How often a commit of transaction t was applied at node q: each time makes all sets and draws of the transaction
-- there.
pub record IsAllOrNone (s : ScriptData) (past : List Entry) (t : ℕ) : Type 0 where
  -- at no node more than once
  pub once : (q : ℕ) → applied_at past t true q ≤ 1
  -- if it was decided to commit and is complete, at each node that it visits once
  pub all : 1 ≤ decided_as past t true → IsWhole s (reverse past) t → (q : ℕ) → IsTrue (visits (subs_at s t) q)
      → applied_at past t true q ≡ 1
  -- if it was decided to abort, nowhere
  pub aborted : 1 ≤ decided_as past t false → (q : ℕ) → applied_at past t true q ≡ 0
  -- and while it isn't decided to commit, nowhere
  pub undecided : decided_as past t true ≡ 0 → (q : ℕ) → applied_at past t true q ≡ 0
