-- The answer of a tree whose root was done. Private code alone cites this definition.
use Rattle.std.specs.Prelude.{if◌then◌else◌, ℕ, ◌==◌, Option, Some, None}
use Rattle.tv_base.specs.declared.numbers.TreeNo.{TreeNo}
use Rattle.tv_base.specs.declared.numbers.Version.{Version}
use Rattle.tree_home.specs.Homes.{Gets}
use Rattle.tree_home.specs.declared.homes.Answered.{Answered}

-- it is answered at once if it has n = 1 subtransactions
abbrev pub root_answer : ℕ → TreeNo → Version → Gets → Option Answered
root_answer n t v values = if n == 1 then Some (record { tree = t; version = v; values = values }) else None
