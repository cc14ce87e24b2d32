-- How often the client finishes.
use Rattle.std.specs.Prelude.{ℕ, List}
use Rattle.letter_types.specs.declared.acts.Act.{Act}
use Rattle.letter_types.specs.declared.acts.Act.TheVariants.{Finished}
use Rattle.letter_types.specs.declared.entries.Entry.{Entry}
use Rattle.board_rules.specs.Histories.{Place, places_of}
use Rattle.world_model.specs.Counts.{tally}

-- the act of finishing
abbrev pub is_finish : Act → ℕ
is_finish Finished = 1
is_finish _ = 0

-- how often the client has finished in a history
abbrev pub finishes_in : List Entry → ℕ
finishes_in h = tally (λ (x : Place). is_finish x.act) (places_of h)
