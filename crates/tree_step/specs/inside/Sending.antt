-- What a step sends and does. These are the definitions that private code alone cites.
use Rattle.std.specs.Prelude.{if◌then◌else◌, ◌++◌, ◌∷◌, [], Bool, List}
use Rattle.tv_base.specs.declared.numbers.NodeNo.{NodeNo}
use Rattle.letter_types.specs.declared.acts.Act.{Act}
use Rattle.letter_types.specs.declared.acts.Act.TheVariants.{Turned}
use Rattle.letter_types.specs.declared.bodies.Notice.{Notice}
use Rattle.letter_types.specs.declared.entries.Outgoing.{Outgoing}
use Rattle.pair_counters.specs.Counts.{Counts}
use Rattle.world_model.specs.Children.{done_letter}
use Rattle.world_model.specs.Notices.{act_of}
use Rattle.tree_step.specs.Changes.{counted}
use Rattle.tree_step.specs.declared.asked.Request.{Request}
use Rattle.tree_step.specs.declared.counting.Counting.{Counting}

-- the Done to its tree's home
abbrev pub done_to : NodeNo → Request → Notice → Outgoing
done_to home r notice = done_letter home.0 r.tree.0 r.sub.0 r.version.0 notice

-- its acts: it raises the node's update version, if it does, and has its turn
abbrev pub sub_acts : Request → Bool → Notice → List Act
sub_acts r raises notice = (if raises then Turned r.version ∷ [] else []) ++ act_of r.tree r.sub notice ∷ []

-- what is counted once a step that counts so sends these messages
abbrev pub with_counted : Counting → List Outgoing → Counts → Counts
with_counted c sent k = record k { numbers = counted c sent k.numbers }
