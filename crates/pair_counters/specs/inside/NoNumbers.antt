-- A row with nothing counted. These are the definitions that private code alone cites.
use Rattle.std.specs.Prelude.{replicate}
use Rattle.tv_base.specs.declared.numbers.TheConstants.{MOST_NODES}
use Rattle.pair_counters.specs.declared.counters.CounterRow.{CounterRow}

-- a row with nothing counted
abbrev pub no_numbers : CounterRow
no_numbers = record { asked = replicate MOST_NODES 0; done = replicate MOST_NODES 0 }
