use Rattle.std.proofs.Common.{◌≡◌, ℕ, List, length, map, take, true}
use Rattle.letter_types.specs.declared.acts.Act.{Act}
use Rattle.letter_types.specs.declared.entries.Entry.{Entry}
use Rattle.board_rules.specs.Histories.{places_of}
use Rattle.board_judge.specs.Notes.{AreKnown}
use Rattle.board_judge.specs.inside.Rewriting.{AreOfKinds, IsRewritten, worths_before}
use Rattle.board_judge.specs.inside.Steps.{AreNoted}
use Rattle.board_judge.proofs.rewriting.rewrite.Given as goal

abbrev pub invariant-loop-step : goal.invariant-loop-step
invariant-loop-step l = record {
  done : (h : List Entry) (p : ℕ) → AreNoted l.script h (map (λ (a : Act). record { node = p; act = a }) l.acts) l.tallies.steps.items l.tallies.board
      → AreKnown l.script (places_of h) l.fn.kept.worths.items
      → IsRewritten l.script h (take (length l.yielded) (map (λ (a : Act). record { node = p; act = a }) l.acts)) true l.kept.worths.items;
  kinds : AreOfKinds l.script l.kept.worths.items;
  back : worths_before l.kept ≡ worths_before l.fn.kept;
}
