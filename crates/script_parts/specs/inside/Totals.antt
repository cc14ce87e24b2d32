-- The magnitudes of each item of a script. These are the definitions that private code alone cites.
use Rattle.std.specs.Prelude.{ℕ, ◌≡◌, ◌<◌, List, length, get_or}
use Rattle.script_parts.specs.ScriptData.{ScriptData}
use Rattle.script_parts.specs.Valid.{load}

-- the magnitudes of each item of a script, all together
pub record AreTotals (cells : List ℕ) (s : ScriptData) : Type 0 where
  pub len : length cells ≡ length s.items
  pub loads : (k : ℕ) → k < length s.items → get_or cells k 0 ≡ load k s
