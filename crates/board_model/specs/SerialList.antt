-- The serial order as a list of transactions with their versions, and how it is made. Only the code of the report cites
-- it.
use Rattle.std.specs.Prelude.{◌≡◌, ℕ, Bool, ◌==◌, nat_le, List, filter, map}
use Rattle.std.specs.List.Sorted.{IsNonDecreasingBy, IsPermutation}
use Rattle.letter_types.specs.declared.entries.Entry.{Entry}
use Rattle.tx_trees.specs.ScriptData.{ScriptData}
use Rattle.board_model.specs.declared.serial.Member.{Member}
use Rattle.board_rules.specs.Serial.{serial_to}

abbrev pub is_of_version : ℕ → Member → Bool
is_of_version v m = m.version.0 == v

abbrev pub is_below : ℕ → Member → Bool
is_below v m = nat_le m.version.0 v

-- the second list is the first by version, and those of one version keep their order
pub record IsByVersion (xs ys : List Member) : Type 0 where
  pub same : IsPermutation xs ys
  pub ascending : IsNonDecreasingBy (λ (m : Member). m.version.0) ys
  pub stable : (v : ℕ) → filter (is_of_version v) ys ≡ filter (is_of_version v) xs

-- the numbers of the transactions
abbrev pub trees_of_members : List Member → List ℕ
trees_of_members ms = map (λ (m : Member). m.tree.0) ms

-- by version, and those of version at most v are the serial order up to v
pub record IsSerial (s : ScriptData) (h : List Entry) (ms : List Member) : Type 0 where
  pub ascending : IsNonDecreasingBy (λ (m : Member). m.version.0) ms
  pub each : (v : ℕ) → trees_of_members (filter (is_below v) ms) ≡ serial_to s h v
