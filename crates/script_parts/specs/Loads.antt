-- Items' totals: the magnitudes of what a script has on each item, and what changes in them.
use Rattle.std.specs.Prelude.{if◌then◌else◌, ℕ, Bool, not, ◌≡◌, ◌<◌, ◌≤◌, ◌+◌, ◌^◌, nat_lt, List, length, get_or}
use Rattle.std.specs.List.{AllByRecursion, list_any}
use Rattle.script_parts.specs.Valid.{subs_load}
use Rattle.script_parts.specs.declared.parts.Sub.{Sub}
use Rattle.script_parts.specs.declared.parts.SubOp.{SubOp}

-- subtransactions have operations on the first n items alone
abbrev pub OpWithin : ℕ → SubOp → Type 0
OpWithin n o = o.item.0 < n

abbrev pub SubWithin : ℕ → Sub → Type 0
SubWithin n s = AllByRecursion (OpWithin n) s.ops

-- the magnitudes of some subtransactions can be taken off the items' totals, and those of others added
pub record MayReload (totals : List ℕ) (off on : List Sub) : Type 0 where
  pub off_within : AllByRecursion (SubWithin (length totals)) off
  pub on_within : AllByRecursion (SubWithin (length totals)) on
  pub enough : (k : ℕ) → k < length totals → subs_load k off ≤ get_or totals k 0
  pub room : (k : ℕ) → k < length totals → get_or totals k 0 + subs_load k on < 2 ^ 128

-- the magnitudes of some subtransactions were taken off the items' totals, and those of others added
pub record IsReloaded (was now : List ℕ) (off on : List Sub) : Type 0 where
  pub len : length now ≡ length was
  pub loads : (k : ℕ) → k < length was → get_or now k 0 + subs_load k off ≡ get_or was k 0 + subs_load k on

-- an item that one of the operations is on has a total above this
abbrev pub ops_heavy : ℕ → List ℕ → List SubOp → Bool
ops_heavy most totals os = list_any (λ o. nat_lt most (get_or totals o.item.0 0)) os

abbrev pub subs_heavy : ℕ → List ℕ → List Sub → Bool
subs_heavy most totals ss = list_any (λ s. ops_heavy most totals s.ops) ss

-- the magnitudes of some subtransactions were taken off and those of others added, unless one of the totals that these
-- are on is above the most then: in that case all is as it was
pub record Reloads (most : ℕ) (was now : List ℕ) (off on : List Sub) (done : Bool) : Type 0 where
  pub totals : List ℕ
  pub reloaded : IsReloaded was totals off on
  pub light : done ≡ not (subs_heavy most totals on)
  pub put : now ≡ (if done then totals else was)
