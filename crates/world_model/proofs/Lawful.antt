-- How many nudges were taken.
use Rattle.std.proofs.Common.{ℕ, ◌+◌, List, ◌∷◌, []}
use Rattle.letter_types.specs.declared.bodies.Body.{Body}
use Rattle.letter_types.specs.declared.bodies.Body.TheVariants.{Go, Nudge}
use Rattle.letter_types.specs.declared.entries.Entry.{Entry}

abbrev pub is_nudge : Body → ℕ
is_nudge Nudge = 1
is_nudge Go = 0
is_nudge _ = 0

-- how many nudges were taken
abbrev pub nudged : List Entry → ℕ
nudged [] = 0
nudged (e ∷ past) = is_nudge e.took.body + nudged past
