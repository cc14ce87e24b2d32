-- What an entry of the coordinator is to laws that don't ask whether it may forget.
use Rattle.std.proofs.Common.{◌≡◌, ◌⊎◌, inl, inr, ℕ, ◌<◌, true, false, List, [], sym, subst, ◌∙◌, refl}
use Rattle.tv_base.specs.declared.numbers.Version.{Version}
use Rattle.letter_types.specs.declared.bodies.Body.{Body}
use Rattle.letter_types.specs.declared.bodies.What.{What}
use Rattle.letter_types.specs.declared.bodies.Body.TheVariants.{Advanced, Ask, AskAsked, AskDone, Go, Order, Show, Sweep, Turn}
use Rattle.letter_types.specs.declared.entries.Entry.{Entry}
use Rattle.letter_types.specs.declared.entries.Outgoing.{Outgoing}
use Rattle.script_parts.specs.ScriptData.{ScriptData, client_of}
use Rattle.world_model.specs.Counts.{Each}
use Rattle.script_parts.specs.Counts.{is_lossy}
use Rattle.world_model.specs.Runs.{Says, coordinator_in, restarting_in}
use Rattle.world_model.specs.Tables.{coordinator_table, restarting_table}
use Rattle.world_model.proofs.Every.{each_map}
use Rattle.world_model.proofs.Orders.{OfOrders, coordinator_each, coordinator_nodes, no_acts, of}
use Rattle.world_model.proofs.Restarts.{OfRestarts, restart_plain, restarting_each, restarting_nodes}

-- a letter that the script's coordinator sends, to a node or to the client
abbrev pub IsOfCoordinator : ScriptData → ℕ → Body → Type 0
IsOfCoordinator s to (Turn v) = (to < s.nodes) × (is_lossy s ≡ false)
IsOfCoordinator s to (Show v) = (to < s.nodes) × (is_lossy s ≡ false)
IsOfCoordinator s to (Sweep v) = (to < s.nodes) × (is_lossy s ≡ false)
IsOfCoordinator s to (Order e what v) = (to < s.nodes) × (is_lossy s ≡ true)
IsOfCoordinator s to (Ask e) = ((to < s.nodes) ⊎ (to ≡ client_of s)) × (is_lossy s ≡ true)
IsOfCoordinator s to (AskDone v k) = to < s.nodes
IsOfCoordinator s to (AskAsked v k) = to < s.nodes
IsOfCoordinator s to (Advanced v) = to ≡ client_of s
IsOfCoordinator s to Go = ⊥
IsOfCoordinator s to _ = ⊥

-- it has no act, and sends such letters alone
pub record IsCoordinated (s : ScriptData) (e : Entry) : Type 0 where
  pub acts : e.acts ≡ []
  pub sent : Each (of (IsOfCoordinator s)) e.sent

remembering : (s : ScriptData) → is_lossy s ≡ false → OfOrders (IsOfCoordinator s) s.nodes
remembering s keeps = record {
  turn = λ to v lt. (lt, keeps);
  show = λ to v lt. (lt, keeps);
  sweep = λ to v lt. (lt, keeps);
  ask_done = λ to v k lt. lt;
  ask_asked = λ to v k lt. lt;
  advanced = λ v. refl;
}

forgetting : (s : ScriptData) → is_lossy s ≡ true → OfRestarts (IsOfCoordinator s) s.nodes
forgetting s loses = record {
  ask = λ to e lt. (inl lt, loses);
  ask_client = λ e. (inr refl, loses);
  order = λ to e what v lt. (lt, loses);
  ask_done = λ to v k lt. lt;
  ask_asked = λ to v k lt. lt;
  advanced = λ v. refl;
}

pub of_remembering : (s : ScriptData) (past : List Entry) (e : Entry) → is_lossy s ≡ false
    → Says (coordinator_table (coordinator_in s past) e.took) e → IsCoordinated s e
of_remembering s past e keeps says = record {
  acts = says.1 ∙ no_acts (coordinator_in s past) e.took.from.0 e.took.body;
  sent =
      subst (λ (os : List Outgoing). Each (of (IsOfCoordinator s)) os) (sym says.0)
      (coordinator_each (IsOfCoordinator s) (coordinator_in s past)
      (subst (OfOrders (IsOfCoordinator s)) (sym (coordinator_nodes s past)) (remembering s keeps)) e.took.from.0 e.took.body);
}

pub of_forgetting : (s : ScriptData) (past : List Entry) (e : Entry) → is_lossy s ≡ true
    → Says (restarting_table (restarting_in s past) e.took) e → IsCoordinated s e
of_forgetting s past e loses says = record {
  acts = says.1 ∙ (restart_plain e.took.from.0 (restarting_in s past) e.took.body).acts;
  sent =
      subst (λ (os : List Outgoing). Each (of (IsOfCoordinator s)) os) (sym says.0)
      (restarting_each (IsOfCoordinator s) (restarting_in s past)
      (subst (OfRestarts (IsOfCoordinator s)) (sym (restarting_nodes s past)) (forgetting s loses)) e.took.from.0 e.took.body);
}

-- a fact of all letters that a coordinator of either kind sends
pub record OfCoordinator (P : Body → Type 0) : Type 0 where
  pub turn : (v : Version) → P (Turn v)
  pub show : (v : Version) → P (Show v)
  pub sweep : (v : Version) → P (Sweep v)
  pub order : (e : ℕ) (what : What) (v : Version) → P (Order e what v)
  pub ask : (e : ℕ) → P (Ask e)
  pub ask_done : (v : Version) (k : ℕ) → P (AskDone v k)
  pub ask_asked : (v : Version) (k : ℕ) → P (AskAsked v k)
  pub advanced : (v : Version) → P (Advanced v)

of_body : (P : Body → Type 0) (s : ScriptData) (to : ℕ) (body : Body) → OfCoordinator P → IsOfCoordinator s to body → P body
of_body P s to (Turn v) h is = h.turn v
of_body P s to (Show v) h is = h.show v
of_body P s to (Sweep v) h is = h.sweep v
of_body P s to (Order e what v) h is = h.order e what v
of_body P s to (Ask e) h is = h.ask e
of_body P s to (AskDone v k) h is = h.ask_done v k
of_body P s to (AskAsked v k) h is = h.ask_asked v k
of_body P s to (Advanced v) h is = h.advanced v
of_body P s to Go h is = absurd is
of_body P s to _ h is = absurd is

pub coordinated_each : (P : Body → Type 0) (s : ScriptData) (e : Entry) → OfCoordinator P → IsCoordinated s e
    → Each (λ (o : Outgoing). P o.body) e.sent
coordinated_each P s e h made =
    each_map (of (IsOfCoordinator s)) (λ (o : Outgoing). P o.body) e.sent (λ o is. of_body P s o.to.0 o.body h is) made.sent
