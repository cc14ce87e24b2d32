-- The program's statuses, and its own texts.
use Rattle.std.specs.Prelude.{ℕ, List, Option, None, Some, ◌++◌, codes, decimal}
use Rattle.tx_trees.specs.Why.{why_name}
use Rattle.history_audit.specs.Names.{audit_rule_name}
use Rattle.threev_top.specs.declared.stops.Stop.{Stop}
use Rattle.threev_top.specs.declared.stops.Stop.TheVariants as stops

-- the status of a call that stops so, or that doesn't stop
abbrev pub status_of : Option Stop → ℕ
status_of None = 0
status_of (Some stops.NoMemory) = 1
status_of (Some stops.Words) = 2
status_of (Some (stops.Script f)) = 3
status_of (Some stops.Reading) = 4
status_of (Some stops.Writing) = 5
status_of (Some (stops.History f)) = 6

-- the line of a row that is refused for a reason of this name
abbrev pub row_line : ℕ → List ℕ → List ℕ
row_line row name = codes "threev: row " ++ (decimal row ++ (codes ": " ++ (name ++ codes "\n")))

-- the line of an entry that fails in what has this name
abbrev pub entry_fault_line : ℕ → List ℕ → List ℕ
entry_fault_line entry name = codes "threev: entry " ++ (decimal entry ++ (codes ": " ++ (name ++ codes "\n")))

-- what standard error is told of a stop
abbrev pub line_told : Stop → List ℕ
line_told stops.NoMemory = codes "threev: out of memory\n"
line_told stops.Words = codes "threev: the words are not a command line of this program\n"
line_told (stops.Script f) = row_line f.row (why_name f.why)
line_told (stops.History f) = entry_fault_line f.entry (audit_rule_name f.rule)
line_told stops.Reading = codes "threev: reading failed\n"
line_told stops.Writing = codes "threev: writing failed\n"
