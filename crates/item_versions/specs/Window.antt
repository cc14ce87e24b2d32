-- Items whose versions lie between a low version and two above it.
use Rattle.std.specs.Prelude.{◌≡◌, ℕ, Bool, ◌&&◌, ◌+◌, ◌<◌, ◌≤◌, nat_le, [], ◌∷◌, length}
use Rattle.std.specs.List.{AllByRecursion}
use Rattle.item_versions.specs.Item.{Held}
use Rattle.item_versions.specs.Table.{Table}

-- a version from low to two above it
abbrev pub in_window : ℕ → ℕ → Bool
in_window low v = nat_le low v && nat_le v (low + 2)

-- the first version held
abbrev pub first_version : Held → ℕ
first_version [] = 0
first_version (x ∷ xs) = x.0.0

-- the least version held is low, and the greatest is at most two above it
pub record IsWindowed (low : ℕ) (h : Held) : Type 0 where
  pub least : (0 < length h) × (first_version h ≡ low)
  pub most : AllByRecursion (λ x. x.0.0 ≤ low + 2) h

-- each item of a table
abbrev pub IsWindowedTable : ℕ → Table → Type 0
IsWindowedTable low t = AllByRecursion (λ e. IsWindowed low e.1) t
