use Rattle.std.proofs.Common.{◌≡◌, List, take}
use Rattle.letter_types.specs.declared.entries.Entry.{Entry}
use Rattle.board_rules.specs.Histories.{places_at, places_of}
use Rattle.board_judge.specs.inside.Steps.{AreNoted, board_before}
use Rattle.board_judge.specs.inside.Votes.{IsMidwayOf, script_before}
use Rattle.board_judge.proofs.noting.note_acts.Given as goal

abbrev pub invariant-loop-act : goal.invariant-loop-act
invariant-loop-act l =
    ((h : List Entry) → IsMidwayOf l.fn.before h (places_of h) l.fn.tallies.board
    → AreNoted (script_before l.fn.before) h (take l.act-index (places_at l.fn.entry)) l.tallies.steps.items l.tallies.board)
    × (board_before l.tallies ≡ l.fn.tallies.board)
