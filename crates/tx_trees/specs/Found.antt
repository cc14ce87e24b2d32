-- Transactions by their names.
use Rattle.std.specs.Prelude.{ℕ, List, Option, position}
use Rattle.std.specs.Str.{bytes_eq}
use Rattle.script_parts.specs.declared.parts.Tree.{Tree}

-- the number of the transaction of this name
abbrev pub tree_place : List ℕ → List Tree → Option ℕ
tree_place name ts = position (λ (t : Tree). bytes_eq t.name name) ts
