-- Parts of lines.
use Rattle.std.specs.Prelude.{ℕ, List, ◌++◌, codes, decimal}

-- a word, a name and its version
abbrev pub version_text : List ℕ → List ℕ → ℕ → List ℕ
version_text word name v = word ++ (name ++ (codes " version " ++ decimal v))
