-- What the client keeps beside its state, so that no step goes over the rows that are submitted already.
use Rattle.std.specs.Prelude.{if◌then◌else◌, ℕ, Bool, false, ◌≡◌, ◌≤◌, ◌+◌, List, [], ◌∷◌, length, take, get_or}
use Rattle.tx_trees.specs.ScriptData.{ScriptData}
use Rattle.tx_trees.specs.Adding.{advances_in}
use Rattle.tx_trees.specs.declared.parts.ScriptRow.{ScriptRow}
use Rattle.tx_trees.specs.declared.parts.ScriptRow.TheVariants.{Tree as TreeRow, Advance as AdvanceRow}
use Rattle.world_model.specs.Client.{Client}

-- how many of these rows are transactions
abbrev pub trees_in : List ScriptRow → ℕ
trees_in [] = 0
trees_in (TreeRow t ∷ rows) = 1 + trees_in rows
trees_in (AdvanceRow ∷ rows) = trees_in rows
trees_in (_ ∷ rows) = trees_in rows

-- how many of their transactions aren't answered
abbrev pub unanswered_in : List Bool → List ScriptRow → ℕ
unanswered_in answered [] = 0
unanswered_in answered (TreeRow t ∷ rows) = (if get_or answered t.0 false then 0 else 1) + unanswered_in answered rows
unanswered_in answered (AdvanceRow ∷ rows) = unanswered_in answered rows
unanswered_in answered (_ ∷ rows) = unanswered_in answered rows

-- the client's state; of the rows submitted, how many are transactions, how many of these aren't answered, and how many
-- ask for an advancement
pub record Kept : Type 0 where
  pub client : Client
  pub sent : ℕ
  pub unanswered : ℕ
  pub asked : ℕ

-- what is kept in this state
abbrev pub kept_of : ScriptData → Client → Kept
kept_of s c = record {
  client = c;
  sent = trees_in (take c.next s.rows);
  unanswered = unanswered_in c.answered (take c.next s.rows);
  asked = advances_in (take c.next s.rows);
}

-- the client is this script's: its numbers are right, it is within the rows, and it knows of each transaction
pub record IsKeptOf (s : ScriptData) (k : Kept) : Type 0 where
  pub numbers : k ≡ kept_of s k.client
  pub next : k.client.next ≤ length s.rows
  pub answered : length k.client.answered ≡ length s.trees
