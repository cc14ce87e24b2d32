-- Whether an act keeps to the script, by the tallies and the gates.
use Rattle.std.specs.Prelude.{if◌then◌else◌, ℕ, Bool, true, false, not, ◌+◌, ◌-◌, ◌==◌, ◌&&◌, nat_le, List, length, Option, Some, None, slice_get}
use Rattle.std.specs.List.{list_all}
use Rattle.letter_types.specs.declared.acts.Act.{Act}
use Rattle.letter_types.specs.declared.acts.Act.TheVariants.{Born, Turned, Finished}
use Rattle.board_tallies.specs.Board.{BoardData}
use Rattle.board_tallies.specs.GateRows.{GatesData}
use Rattle.board_tallies.specs.declared.gates.RowGate.{RowGate}
use Rattle.board_tallies.specs.declared.numbers.Numbers.{Numbers}

-- a gate that is there is open: that many transactions are complete, and every node has collected to that many versions
abbrev pub is_open_gate : Option RowGate → BoardData → Bool
is_open_gate None b = false
is_open_gate (Some gate) b =
    nat_le gate.trees b.passed && list_all (λ (n : Numbers). nat_le gate.advances n.low.0) b.nodes

-- the gate of the row that asks for the advancement to version v - 1
abbrev pub gate_to : List RowGate → ℕ → Option RowGate
gate_to gates v = if nat_le 2 v then slice_get gates (v - 2) else None

-- a node has gone through that many advancements
abbrev pub has_gone : ℕ → Numbers → Bool
has_gone asked n = (n.update.0 == asked + 1) && (n.read.0 == asked) && (n.low.0 == asked)

-- the client of that many nodes may finish
abbrev pub may_finish : ℕ → ℕ → BoardData → ℕ → Bool
may_finish count asked b p =
    (p == count + 1) && not b.finished && (b.passed == length b.trees) && list_all (has_gone asked) b.nodes

-- the act of actor p keeps to a script of that many nodes and advancements
abbrev pub keeps_by : GatesData → BoardData → ℕ → ℕ → ℕ → Act → Bool
keeps_by g b count asked p (Born t v) = is_open_gate (slice_get g.trees t.0) b
keeps_by g b count asked p (Turned v) = is_open_gate (gate_to g.advances v.0) b
keeps_by g b count asked p Finished = may_finish count asked b p
keeps_by g b count asked p _ = true
