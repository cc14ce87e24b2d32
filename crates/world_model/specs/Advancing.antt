-- What a node does with the coordinator's messages.
use Rattle.std.specs.Prelude.{ℕ, List, [], ◌∷◌, nat_lt}
use Rattle.tv_base.specs.declared.numbers.Version.{Version}
use Rattle.letter_types.specs.declared.acts.Act.TheVariants as acts
use Rattle.letter_types.specs.declared.bodies.Body.{Body}
use Rattle.letter_types.specs.declared.bodies.Body.TheVariants.{Turn, Show, Sweep, AskDone, AskAsked, Turned, Shown, Swept, DoneRow, AskedRow}
use Rattle.letter_types.specs.declared.entries.Outgoing.{Outgoing}
use Rattle.letter_types.specs.Steps.{Out, still}
use Rattle.node_versions.specs.Turns.{raised}
use Rattle.pair_counters.specs.Numbers.{Numbers, from_version, numbers_of}
use Rattle.item_versions.specs.Collecting.{collected_all}
use Rattle.script_parts.specs.ScriptData.{ScriptData}
use Rattle.world_model.specs.Done.{turned_if}
use Rattle.world_model.specs.Node.{Node}

-- a message to the coordinator, whose number follows those of the nodes
abbrev pub to_coordinator : ScriptData → Body → List Outgoing
to_coordinator s body = record { to = record { 0 = s.nodes }; body = body } ∷ []

-- the update version is raised to v if it is less
abbrev pub turn_row : ScriptData → Version → Node → Out Node
turn_row s v st = record {
  state = record st { turns = raised v st.turns };
  sent = to_coordinator s (Turned v);
  acts = turned_if (nat_lt st.turns.update.0 v.0) v.0;
}

-- version v is shown to reads
abbrev pub show_row : ScriptData → Version → Node → Out Node
show_row s v st = record {
  state = record st { turns = record st.turns { read = v } };
  sent = to_coordinator s (Shown v);
  acts = acts.Showed v ∷ [];
}

-- nothing is counted of versions below v any more
abbrev pub counted_from : Version → Numbers → Numbers
counted_from v n = record { asked = from_version v.0 n.asked; done = from_version v.0 n.done }

-- every item is collected to version v, which is the low version then, and what is counted of older ones goes
abbrev pub sweep_row : ScriptData → Version → Node → Out Node
sweep_row s v st = record {
  state = record st {
    turns = record st.turns { low = v };
    items = collected_all v st.items;
    counts = counted_from v st.counts;
  };
  sent = to_coordinator s (Swept v);
  acts = acts.Swept v ∷ [];
}

-- a node tells its completions of version v by sender, in answer to round k
abbrev pub done_row : ScriptData → Version → ℕ → Node → Out Node
done_row s v k st = record {
  state = st;
  sent = to_coordinator s (DoneRow v k (numbers_of s.nodes (st.counts.done v.0)));
  acts = [];
}

-- and its requests of version v by addressee
abbrev pub asked_row : ScriptData → Version → ℕ → Node → Out Node
asked_row s v k st = record {
  state = st;
  sent = to_coordinator s (AskedRow v k (numbers_of s.nodes (st.counts.asked v.0)));
  acts = [];
}

-- the row of a message of the coordinator
abbrev pub advancing_row : ScriptData → Body → Node → Out Node
advancing_row s (Turn v) st = turn_row s v st
advancing_row s (Show v) st = show_row s v st
advancing_row s (Sweep v) st = sweep_row s v st
advancing_row s (AskDone v k) st = done_row s v k st
advancing_row s (AskAsked v k) st = asked_row s v k st
advancing_row s _ st = still st
