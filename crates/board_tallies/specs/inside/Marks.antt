-- The marks of a transaction's state, by what they are of.
use Rattle.std.specs.Prelude.{Bool, List}
use Rattle.board_tallies.specs.declared.states.Marked.{Marked}
use Rattle.board_tallies.specs.declared.states.Marked.TheVariants as marked
use Rattle.board_tallies.specs.declared.states.TreeState.{TreeState}

abbrev pub marked_as : Marked → TreeState → List Bool
marked_as marked.Done st = st.done
marked_as marked.Yes st = st.yes
marked_as marked.Applied st = st.applied
marked_as marked.Freed st = st.freed
