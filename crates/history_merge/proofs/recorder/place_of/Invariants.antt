use Rattle.std.proofs.Common.{◌≡◌, ◌<◌, ℕ, List, Some}
use Rattle.std.specs.Prelude.{slice_get}
use Rattle.letter_types.specs.declared.entries.Entry.{Entry}
use Rattle.history_merge.specs.Recording.{FirstHas, waiting_in}
use Rattle.history_merge.proofs.recorder.place_of.Given as goal

abbrev pub invariant-loop-place : goal.invariant-loop-place
invariant-loop-place g l =
    (a : ℕ) (es : List Entry) → a < l.place → slice_get (waiting_in l.fn.lists) a ≡ Some es → ¬ FirstHas l.fn.stamp.0 es
