-- A run of a small script, oldest message first.
use Rattle.std.specs.Prelude.{if◌then◌else◌, ℕ, pos, false, ◌==◌, ◌+◌, nat_lt, List, [], ◌∷◌, ◌++◌, length, suc, zero, None}
use Rattle.commute_ops.specs.declared.kinds.Kind.TheVariants.{Sum}
use Rattle.commute_ops.specs.declared.kinds.Op.TheVariants.{Add}
use Rattle.script_parts.specs.ScriptData.{ScriptData}
use Rattle.script_parts.specs.declared.parts.Deed.TheVariants.{Apply, Get}
use Rattle.script_parts.specs.declared.parts.Form.TheVariants.{One}
use Rattle.script_parts.specs.declared.parts.ScriptRow.TheVariants.{Tree, Settle}
use Rattle.script_parts.specs.declared.parts.TreeKind.TheVariants.{Update, Read}
use Rattle.letter_types.specs.declared.entries.Letter.{Letter}
use Rattle.letter_types.specs.declared.entries.Entry.{Entry}
use Rattle.letter_types.specs.Steps.{Out}
use Rattle.world_model.specs.Keeping.{keeping_row}
use Rattle.world_model.specs.Tables.{client_table, coordinator_table}
use Rattle.world_model.specs.Runs.{in_flight, keeping_in, coordinator_in, client_in}

-- an actor takes a message, and its table says this
abbrev pub entry_by : {St : Type 0} → List Entry → Letter → Out St → Entry
entry_by past l out = record {
  stamp = record { 0 = length past + 1 };
  actor = l.to;
  took = l;
  sent = out.sent;
  acts = out.acts;
}

abbrev pub entry_of : ScriptData → List Entry → Letter → Entry
entry_of s past l =
    if nat_lt l.to.0 s.nodes then entry_by past l (keeping_row s l.to.0 (keeping_in s past l.to.0) l)
    else if l.to.0 == s.nodes then entry_by past l (coordinator_table (coordinator_in s past) l)
    else entry_by past l (client_table s (client_in s past) l)

abbrev pub next_of : ScriptData → List Entry → List Letter → List Entry
next_of s past [] = past
next_of s past (l ∷ ls) = entry_of s past l ∷ past

-- the past after that many messages, or after all
abbrev pub sample : ScriptData → ℕ → List Entry
sample s zero = []
sample s (suc n) = next_of s (sample s n) (in_flight s (sample s n))

-- item a at node 0 with 10 and item b at node 1 with 0; one transaction adds 5 to a and sends a child, which adds 7 to
-- b
abbrev pub small : ScriptData
small = record {
  form = One;
  nodes = 2;
  items = record { name = 97 ∷ []; node = record { 0 = 0 }; kind = Sum; initial = pos 10 }
      ∷ record { name = 98 ∷ []; node = record { 0 = 1 }; kind = Sum; initial = pos 0 } ∷ [];
  trees = record {
    name = 116 ∷ [];
    kind = Update;
    subs = record { parent = record { 0 = 0 }; node = record { 0 = 0 }; ops = record { item = record { 0 = 0 }; deed = Apply (Add (pos 5)) } ∷ [] }
        ∷ record { parent = record { 0 = 0 }; node = record { 0 = 1 }; ops = record { item = record { 0 = 1 }; deed = Apply (Add (pos 7)) } ∷ [] } ∷ [];
    written = None;
  } ∷ [];
  rows = Tree (record { 0 = 0 }) ∷ [];
  picks = [];
  begun = false;
}

-- the same, and once its transaction is answered a read transaction, whose root gets b at node 1 and whose child gets a
-- at node 0
abbrev pub with_read : ScriptData
with_read = record small {
  trees = small.trees ++ record {
    name = 114 ∷ [];
    kind = Read;
    subs = record { parent = record { 0 = 0 }; node = record { 0 = 1 }; ops = record { item = record { 0 = 1 }; deed = Get } ∷ [] }
        ∷ record { parent = record { 0 = 0 }; node = record { 0 = 0 }; ops = record { item = record { 0 = 0 }; deed = Get } ∷ [] } ∷ [];
    written = None;
  } ∷ [];
  rows = small.rows ++ Settle ∷ Tree (record { 0 = 1 }) ∷ [];
}
