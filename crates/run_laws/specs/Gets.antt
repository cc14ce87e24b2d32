-- What strict transactions that commit got, and where they stand in the serial order.
use Rattle.std.specs.Prelude.{ℕ, ◌==◌, ◌≤◌, true, List, Option, Some, None, IsTrue}
use Rattle.std.specs.List.{before_first}
use Rattle.tv_base.specs.declared.numbers.Version.{Version}
use Rattle.commute_ops.specs.declared.value.Value.{Value}
use Rattle.letter_types.specs.declared.acts.Act.{Act}
use Rattle.letter_types.specs.declared.acts.Act.TheVariants.{Voted}
use Rattle.letter_types.specs.declared.entries.Entry.{Entry}
use Rattle.letter_types.specs.declared.votes.Vote.TheVariants.{Yes}
use Rattle.script_parts.specs.ScriptData.{ScriptData, ops_of}
use Rattle.board_rules.specs.Histories.{Place, places_of, version_of, was_decided_as}
use Rattle.board_rules.specs.Moves.{AtEachAct}
use Rattle.board_rules.specs.Right.{IsShown, gets_among}
use Rattle.board_rules.specs.Serial.{is_in, serial_to}
use Rattle.board_rules.specs.Worth.{worth_after}

-- what item x is worth after the members of the serial order of h, up to version v, that come before transaction t: its
-- initial value, folded over what they do
abbrev pub worth_before : ScriptData → List Entry → ℕ → ℕ → ℕ → Value
worth_before s h t x v = worth_after s x (before_first (λ (u : ℕ). u == t) (serial_to s h v))

-- if the act is a yes of a transaction that was decided to commit in h, its values are what its gets are worth after
-- the members before the transaction, up to the transaction's version in h
abbrev pub GotTheFoldBefore : ScriptData → List Entry → Act → Type 0
GotTheFoldBefore s h (Voted t k (Yes values)) =
    IsTrue (was_decided_as t.0 true (places_of h))
    → IsShown (worth_before s h t.0) (gets_among (ops_of s t.0 k.0)) values (version_of h t.0)
GotTheFoldBefore s h _ = Unit {0}

-- each yes of a history does
abbrev pub GetsAreTheFoldBefore : ScriptData → List Entry → Type 0
GetsAreTheFoldBefore s h =
    AtEachAct (λ (before : List Entry) (xs : List Place) (x : Place). GotTheFoldBefore s h x.act) h

-- transaction t has this version, and is in the serial order up to it and up to each later one
abbrev pub StandsFrom : ScriptData → List Entry → ℕ → Option Version → Type 0
StandsFrom s h t None = ⊥
StandsFrom s h t (Some w) = (v : ℕ) → w.0 ≤ v → IsTrue (is_in t (serial_to s h v))

-- so does each transaction that was decided to commit, from its version on
abbrev pub CommitsStand : ScriptData → List Entry → Type 0
CommitsStand s h = (t : ℕ) → IsTrue (was_decided_as t true (places_of h)) → StandsFrom s h t (version_of h t)
