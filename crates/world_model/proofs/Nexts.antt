-- What an entry of a run does, by cases: what the client, the coordinator and a node that obeys an order make.
use Rattle.std.proofs.Common.{◌≡◌, ℕ, List, ◌∷◌, []}
use Rattle.tv_base.specs.declared.numbers.Version.{Version}
use Rattle.letter_types.specs.declared.bodies.Body.{Body}
use Rattle.letter_types.specs.declared.bodies.Body.TheVariants.{Nudge, Advance, Turn, Show, Sweep, Turned, Shown, Swept, AskDone, AskAsked, DoneRow, AskedRow}
use Rattle.letter_types.specs.declared.entries.Entry.{Entry}
use Rattle.letter_types.specs.Steps.{Out}
use Rattle.script_parts.specs.ScriptData.{ScriptData}
use Rattle.world_model.specs.Node.{Node}
use Rattle.world_model.specs.Advancing.{turn_row, show_row, sweep_row, done_row, asked_row}
use Rattle.world_model.specs.Client.{Client}
use Rattle.world_model.specs.Runs.{client_in, coordinator_in, node_in}
use Rattle.world_model.specs.Tables.{coordinator_table}

-- node p goes on as this row says, and the entry has the row's letters and acts
pub record Made (s : ScriptData) (past : List Entry) (e : Entry) (p : ℕ) (out : Out Node) : Type 0 where
  pub state : node_in s (e ∷ past) p ≡ out.state
  pub sent : e.sent ≡ out.sent
  pub acts : e.acts ≡ out.acts

-- the client goes on as this row says
pub record MadeByClient (s : ScriptData) (past : List Entry) (e : Entry) (out : Out Client) : Type 0 where
  pub state : client_in s (e ∷ past) ≡ out.state
  pub sent : e.sent ≡ out.sent
  pub acts : e.acts ≡ out.acts

-- the coordinator goes on by its table
pub record MadeByCoordinator (s : ScriptData) (past : List Entry) (e : Entry) : Type 0 where
  pub state : coordinator_in s (e ∷ past) ≡ (coordinator_table (coordinator_in s past) e.took).state
  pub sent : e.sent ≡ (coordinator_table (coordinator_in s past) e.took).sent
  pub acts : e.acts ≡ []

-- a letter that the coordinator is told something by
abbrev pub Tells : Body → Type 0
Tells Nudge = Unit {0}
Tells Advance = Unit {0}
Tells (Turned v) = Unit {0}
Tells (Shown v) = Unit {0}
Tells (Swept v) = Unit {0}
Tells (DoneRow v k row) = Unit {0}
Tells (AskedRow v k row) = Unit {0}
Tells _ = ⊥

-- what a node makes of a letter of the coordinator
pub data Order (s : ScriptData) (st : Node) (body : Body) (out : Out Node) : Type 0 where
  Turns : (v : Version) → body ≡ Turn v → out ≡ turn_row s v st → Order s st body out
  Shows : (v : Version) → body ≡ Show v → out ≡ show_row s v st → Order s st body out
  Sweeps : (v : Version) → body ≡ Sweep v → out ≡ sweep_row s v st → Order s st body out
  TellsDone : (v : Version) (k : ℕ) → body ≡ AskDone v k → out ≡ done_row s v k st → Order s st body out
  TellsAsked : (v : Version) (k : ℕ) → body ≡ AskAsked v k → out ≡ asked_row s v k st → Order s st body out
