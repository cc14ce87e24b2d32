use Rattle.std.proofs.Common.{◌≡◌, length}
use Rattle.std.specs.Map.{values_of}
use Rattle.letter_types.specs.Kept.{with_called}
use Rattle.node_machine.specs.inside.Arrivals.{ArePlaced}
use Rattle.node_machine.specs.inside.Places.{is_why}
use Rattle.node_machine.proofs.calling.call_all.Given as goal

abbrev pub invariant-loop-arrival : goal.invariant-loop-arrival
invariant-loop-arrival l =
    record {
      kept : ArePlaced l.next l.letters.entries l.places.keys;
      same : with_called (is_why l.key) (values_of l.letters.entries)
          ≡ with_called (is_why l.key) (values_of l.initial.letters.entries);
    }

abbrev pub decreases-loop-arrival : goal.decreases-loop-arrival
decreases-loop-arrival l = length l.places.keys
