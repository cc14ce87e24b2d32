-- When the text of a history is accepted, and in what it fails first if it isn't.
use Rattle.std.specs.Prelude.{ℕ, ◌+◌, List, [], ◌∷◌, ◌++◌, length, Result, Ok, Err, ◌≡◌}
use Rattle.letter_types.specs.declared.entries.Entry.{Entry}
use Rattle.tx_trees.specs.ScriptData.{ScriptData}
use Rattle.board_rules.specs.declared.rule_names.Rule.{Rule}
use Rattle.board_rules.specs.Judging.{Breaks, IsAccepted}
use Rattle.board_rules.specs.Right.{HasFinished}
use Rattle.history_text.specs.Printable.{Begins}
use Rattle.history_reader.specs.Walks.{IsPostal, IsRead, IsUnposted, IsUnread}
use Rattle.history_audit.specs.declared.rules.AuditRule.{AuditRule}
use Rattle.history_audit.specs.declared.rules.AuditRule.TheVariants.{Text, Postal, Judged, End}

-- so far the text is read, messages went as messages do, and each entry is accepted
pub record IsTaken (s : ScriptData) (text : List ℕ) (h : List Entry) (rest : List ℕ) : Type 0 where
  pub read : IsRead s text h rest
  pub accepted : IsAccepted s h

-- the text, if it is taken whole, is of one history
abbrev pub IsOfOneHistory : ScriptData → List ℕ → Type 0
IsOfOneHistory s text = (h g : List Entry) → IsTaken s text h [] → IsTaken s text g [] → h ≡ g

-- The verdict of a text: how many entries it has; or the number of the first entry that fails, counted from 1, and in
-- what it fails. A text fixes an entry but for the message taken, of which it has the id; so an entry fails in its
-- messages if nothing that may be read there went as messages do. A history that ends too early fails at its last
-- entry.
pub data Verdict (s : ScriptData) (text : List ℕ) : Result ℕ (ℕ × AuditRule) → Type 0 where
  Yes : (h : List Entry) → IsTaken s text h [] → HasFinished h → Verdict s text (Ok (length h))
  Unread : (h : List Entry) (rest : List ℕ) → IsTaken s text h rest → IsUnread s rest
      → Verdict s text (Err (length h + 1, Text))
  Unposted : (h : List Entry) (rest : List ℕ) → IsTaken s text h rest → IsUnposted s h rest
      → Verdict s text (Err (length h + 1, Postal))
  Broken : (h : List Entry) (rest : List ℕ) (e : Entry) (more : List ℕ) (rule : Rule) → IsTaken s text h rest
      → Begins s rest e more → IsPostal s (h ++ e ∷ []) → Breaks s h e rule → Verdict s text (Err (length h + 1, Judged rule))
  Unfinished : (h : List Entry) → IsTaken s text h [] → (HasFinished h → ⊥) → Verdict s text (Err (length h, End))

-- the text has one verdict
abbrev pub HasOneVerdict : ScriptData → List ℕ → Type 0
HasOneVerdict s text = (a b : Result ℕ (ℕ × AuditRule)) → Verdict s text a → Verdict s text b → a ≡ b
