-- What holds of a version that is shown, or that is swept to.
use Rattle.std.specs.Prelude.{◌≡◌, ℕ, ◌<◌, ◌≤◌, true, false, List, length, Some}
use Rattle.tv_base.specs.declared.numbers.Version.{Version}
use Rattle.letter_types.specs.declared.bodies.Body.{Body}
use Rattle.letter_types.specs.declared.bodies.Body.TheVariants.{Order, Show, Sweep}
use Rattle.letter_types.specs.declared.bodies.What.TheVariants as whats
use Rattle.letter_types.specs.declared.entries.Entry.{Entry}
use Rattle.tx_trees.specs.ScriptData.{ScriptData, reads}
use Rattle.board_rules.specs.Histories.{IsWhole, version_of}

-- each writer, a transaction that reads nothing, of version at most v that is born is complete
abbrev pub WritersAreWhole : ScriptData → List Entry → ℕ → Type 0
WritersAreWhole s h v =
    (t : ℕ) (w : Version) → t < length s.trees → reads s t ≡ false → version_of h t ≡ Some w → w.0 ≤ v → IsWhole s h t

-- each read transaction of a version below v that is born is complete
abbrev pub ReadsAreWhole : ScriptData → List Entry → ℕ → Type 0
ReadsAreWhole s h v = (t : ℕ) (w : Version) → reads s t ≡ true → version_of h t ≡ Some w → w.0 < v → IsWhole s h t

-- if Show(v) is in flight, or an order that stands for it, the writers of version at most v are complete; if Sweep(v)
-- is, the read transactions of versions below v are
abbrev pub IsBackedBy : ScriptData → List Entry → Body → Type 0
IsBackedBy s h (Show v) = WritersAreWhole s h v.0
IsBackedBy s h (Sweep v) = ReadsAreWhole s h v.0
IsBackedBy s h (Order e whats.Show v) = WritersAreWhole s h v.0
IsBackedBy s h (Order e whats.Sweep v) = ReadsAreWhole s h v.0
IsBackedBy s h _ = Unit {0}

-- from a history to a later one no writer has come to a version at most v
abbrev pub NoWriterCame : ScriptData → List Entry → List Entry → ℕ → Type 0
NoWriterCame s h later v =
    (t : ℕ) (w : Version) → t < length s.trees → reads s t ≡ false → version_of later t ≡ Some w → w.0 ≤ v → version_of h t ≡ Some w

-- and no read transaction to a version below v
abbrev pub NoReadCame : ScriptData → List Entry → List Entry → ℕ → Type 0
NoReadCame s h later v =
    (t : ℕ) (w : Version) → reads s t ≡ true → version_of later t ≡ Some w → w.0 < v → version_of h t ≡ Some w

-- if Show(v) was in flight, or an order that stands for it, no writer has come to a version at most v later; if
-- Sweep(v) was, no read transaction to one below v
abbrev pub IsClosedBy : ScriptData → List Entry → List Entry → Body → Type 0
IsClosedBy s h later (Show v) = NoWriterCame s h later v.0
IsClosedBy s h later (Sweep v) = NoReadCame s h later v.0
IsClosedBy s h later (Order e whats.Show v) = NoWriterCame s h later v.0
IsClosedBy s h later (Order e whats.Sweep v) = NoReadCame s h later v.0
IsClosedBy s h later _ = Unit {0}
