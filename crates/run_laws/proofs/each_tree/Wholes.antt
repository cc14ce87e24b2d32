-- Transactions that read and transactions that don't: in which version one is born, and up to which version they are
-- complete.
use Rattle.std.proofs.Common.{◌≡◌, ◌⊎◌, inl, inr, ℕ, ◌<◌, Bool, true, false, not, List, ◌++◌, length, reverse, refl, sym, ◌∙◌, Option, Some, None}
use Rattle.std.specs.Option.{option_or}
use Rattle.tv_base.specs.declared.numbers.Version.{Version}
use Rattle.letter_types.specs.declared.entries.Entry.{Entry}
use Rattle.tx_trees.specs.ScriptData.{ScriptData, reads}
use Rattle.board_rules.specs.Histories.{IsWhole, Place, places_of, version_in}
use Rattle.board_rules.proofs.Places.{version_in-append}
use Rattle.world_model.specs.Node.{Node}

-- Trees of one kind: read trees, or writers, which are all others.
abbrev pub is_of_kind : Bool → ScriptData → ℕ → Bool
is_of_kind true s t = reads s t
is_of_kind false s t = not (reads s t)

-- the version that a node gives to a tree of the kind
abbrev pub turn_of : Bool → Node → ℕ
turn_of true st = st.turns.read.0
turn_of false st = st.turns.update.0

-- the version of tree t in a past
abbrev pub born_with : List Entry → ℕ → Option Version
born_with past t = version_in t (places_of (reverse past))

-- each tree of the kind that is born in a version below r is whole
abbrev pub AreWhole : Bool → ScriptData → List Entry → ℕ → Type 0
AreWhole kind s past r =
    (t : ℕ) (w : Version) → t < length s.trees → is_of_kind kind s t ≡ true → born_with past t ≡ Some w → w.0 < r
    → IsWhole s (reverse past) t

-- Births.
split_by : (t : ℕ) (xs ys : List Place) (w : Version) (found : Option Version) → version_in t xs ≡ found
    → option_or found (version_in t ys) ≡ Some w → (version_in t xs ≡ Some w) ⊎ (version_in t ys ≡ Some w)
split_by t xs ys w None is at = inr at
split_by t xs ys w (Some v) is at = inl (is ∙ at)

-- a tree is born among the first acts, or among the others
pub born_split : (t : ℕ) (xs ys : List Place) (w : Version) → version_in t (xs ++ ys) ≡ Some w
    → (version_in t xs ≡ Some w) ⊎ (version_in t ys ≡ Some w)
born_split t xs ys w at = split_by t xs ys w (version_in t xs) refl (sym (version_in-append t xs ys) ∙ at)
