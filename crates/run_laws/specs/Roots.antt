-- Where the root of a strict transaction is born, and where it waits.
use Rattle.std.specs.Prelude.{if◌then◌else◌, ℕ, Bool, true, false, ◌≡◌, ◌==◌, ◌+◌, ◌&&◌, List, [], ◌∷◌, filter, take, Option, Some, None, IsTrue, slice_get}
use Rattle.tv_base.specs.declared.numbers.TreeNo.{TreeNo}
use Rattle.letter_types.specs.declared.acts.Act.{Act}
use Rattle.letter_types.specs.declared.acts.Act.TheVariants.{Waits}
use Rattle.letter_types.specs.declared.bodies.Body.{Body}
use Rattle.letter_types.specs.declared.bodies.Body.TheVariants.{Root, Wake}
use Rattle.letter_types.specs.declared.entries.Entry.{Entry}
use Rattle.script_parts.specs.ScriptData.{ScriptData}
use Rattle.board_rules.specs.Histories.{Place, is_strict_tree, places_at, places_of, was_born}
use Rattle.board_rules.specs.Moves.{read_after, update_after}

-- the acts of an entry that let a root wait
abbrev pub lets_wait : Act → Bool
lets_wait (Waits t u r) = true
lets_wait _ = false

abbrev pub waits_among : List Act → List Act
waits_among acts = filter lets_wait acts

-- the strict transaction for whose root an entry is that takes a message of this body: its Root, or the Wake of it
abbrev pub strict_root : ScriptData → Body → Option TreeNo
strict_root s (Root t) = if is_strict_tree s t.0 then Some t else None
strict_root s (Wake t k) = if is_strict_tree s t.0 && (k.0 == 0) then Some t else None
strict_root s _ = None

-- at a node that updates version u and reads version r: if u is the one after r, the entry bears the transaction and
-- lets nothing wait; else its one act is that the root waits, with both numbers
pub record IsBornOrWaits (u r : ℕ) (t : TreeNo) (e : Entry) : Type 0 where
  pub born : IsTrue (u == r + 1) → IsTrue (was_born (places_at e) t.0) × (waits_among e.acts ≡ [])
  pub waits : (u == r + 1) ≡ false → e.acts ≡ Waits t (record { 0 = u }) (record { 0 = r }) ∷ []

-- an entry that isn't for the root of a strict transaction lets nothing wait
abbrev pub WaitsForRoot : ℕ → ℕ → Entry → Option TreeNo → Type 0
WaitsForRoot u r e None = waits_among e.acts ≡ []
WaitsForRoot u r e (Some t) = IsBornOrWaits u r t e

-- an entry after the acts xs bears no strict transaction but the one for whose root it is; and that is born, or waits
-- by its node's numbers
pub record IsForRoot (s : ScriptData) (xs : List Place) (e : Entry) : Type 0 where
  pub alone : (t : TreeNo) → IsTrue (is_strict_tree s t.0) → IsTrue (was_born (places_at e) t.0)
      → strict_root s e.took.body ≡ Some t
  pub served : WaitsForRoot (update_after xs e.actor.0) (read_after xs e.actor.0) e (strict_root s e.took.body)

-- so each entry of a history
abbrev pub RootsAreBornOrWait : ScriptData → List Entry → Type 0
RootsAreBornOrWait s h = (n : ℕ) (e : Entry) → slice_get h n ≡ Some e → IsForRoot s (places_of (take n h)) e
