-- Names of items and of transactions that are ASCII. Private code alone cites these definitions.
use Rattle.std.specs.Prelude.{List}
use Rattle.std.specs.List.{AllByRecursion}
use Rattle.std.specs.Str.{IsAscii}
use Rattle.script_parts.specs.declared.parts.ItemRow.{ItemRow}
use Rattle.script_parts.specs.declared.parts.Tree.{Tree}

abbrev pub AreAsciiItems : List ItemRow → Type 0
AreAsciiItems rows = AllByRecursion (λ (r : ItemRow). IsAscii r.name) rows

abbrev pub AreAsciiTrees : List Tree → Type 0
AreAsciiTrees ts = AllByRecursion (λ (t : Tree). IsAscii t.name) ts
