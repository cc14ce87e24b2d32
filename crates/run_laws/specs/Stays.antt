-- What the values that read transactions show rest on, strict transactions included, and that they stay right.
use Rattle.std.specs.Prelude.{ℕ, ◌≡◌, ◌≤◌, List, Option, Some, None, IsTrue}
use Rattle.tv_base.specs.declared.numbers.Version.{Version}
use Rattle.commute_ops.specs.declared.value.Value.{Value}
use Rattle.letter_types.specs.declared.acts.Act.{Act}
use Rattle.letter_types.specs.declared.acts.Act.TheVariants.{Did}
use Rattle.letter_types.specs.declared.entries.Entry.{Entry}
use Rattle.script_parts.specs.ScriptData.{ScriptData, ops_of, reads}
use Rattle.board_rules.specs.Histories.{Place, is_whole_in, version_of}
use Rattle.board_rules.specs.Moves.{AtEachAct}
use Rattle.board_rules.specs.Right.{IsShown}
use Rattle.board_rules.specs.Rules.{is_writer}
use Rattle.board_rules.specs.Worth.{worth}

-- each writer, an update or a strict transaction, that the history h gives a version of at most v is complete after
-- these acts
abbrev pub AreWritersWhole : ScriptData → List Entry → List Place → Option Version → Type 0
AreWritersWhole s h xs None = ⊥
AreWritersWhole s h xs (Some v) =
    (t : ℕ) (w : Version) → IsTrue (is_writer s t) → version_of h t ≡ Some w → w.0 ≤ v.0 → IsTrue (is_whole_in s xs t)

-- if the act is a Did of a read transaction, the writers of its version and older ones are complete before
abbrev pub ComesAfterWriters : ScriptData → List Entry → List Place → Act → Type 0
ComesAfterWriters s h xs (Did t k values) = IsTrue (reads s t.0) → AreWritersWhole s h xs (version_of h t.0)
ComesAfterWriters s h xs _ = Unit {0}

-- after the acts before any Did of a read transaction of version v, every writer that the whole history gives a version
-- of at most v is complete: of an update transaction all Dids come before that one, and of a strict transaction all its
-- Applieds
abbrev pub WritersAreFirst : ScriptData → List Entry → Type 0
WritersAreFirst s h =
    AtEachAct (λ (before : List Entry) (xs : List Place) (x : Place). ComesAfterWriters s h xs x.act) h

-- if the act is a Did of a read transaction, its values are what its items are worth, so counted, at the transaction's
-- version in h
abbrev pub Shows : (ℕ → ℕ → Value) → ScriptData → List Entry → Act → Type 0
Shows worth_at s h (Did t k values) = IsTrue (reads s t.0) → IsShown worth_at (ops_of s t.0 k.0) values (version_of h t.0)
Shows worth_at s h _ = Unit {0}

-- so with every act of the history
abbrev pub ReadsShow : (ℕ → ℕ → Value) → ScriptData → List Entry → Type 0
ReadsShow worth_at s h = AtEachAct (λ (before : List Entry) (xs : List Place) (x : Place). Shows worth_at s h x.act) h

-- what the steps of read transactions gave is what the whole history has at their versions, and so what a report prints
abbrev pub ReadsStayRight : ScriptData → List Entry → Type 0
ReadsStayRight s h = ReadsShow (worth s h) s h
