-- What the coordinator sends, and what it never changes.
use Rattle.std.proofs.Common.{◌≡◌, ℕ, zero, suc, ◌+◌, ◌<◌, ◌==◌, Bool, true, false, List, [], ◌∷◌, refl, ◌∙◌, arith}
use Rattle.std.specs.Prelude.{if◌then◌else◌}
use Rattle.tv_base.specs.Outside.{one_more}
use Rattle.tv_base.specs.declared.numbers.Version.{Version}
use Rattle.phase_out.specs.declared.count.Counted.{Counted}
use Rattle.phase_out.specs.declared.count.Counted.TheVariants.{Goes, AsksRequests, Agrees, Recounts, Pauses}
use Rattle.phase_out.specs.Counts.{told_asked, told_done}
use Rattle.letter_types.specs.declared.bodies.Body.{Body}
use Rattle.letter_types.specs.declared.bodies.Body.TheVariants.{Nudge, Advance, Turn, Show, Sweep, Turned, Shown, Swept, AskDone, AskAsked, DoneRow, AskedRow, Advanced}
use Rattle.letter_types.specs.declared.entries.Entry.{Entry}
use Rattle.letter_types.specs.declared.entries.Outgoing.{Outgoing}
use Rattle.letter_types.specs.Steps.{Out}
use Rattle.script_parts.specs.ScriptData.{ScriptData}
use Rattle.world_model.specs.declared.phase.Phase.{Phase}
use Rattle.world_model.specs.declared.phase.Phase.TheVariants.{Idle, Turning, Counting, Paused, Showing, Sweeping}
use Rattle.world_model.specs.Coordinator.{Coordinator, as_counted, begin_round, counted_version, coordinator_row, end_advance, end_count, row_of, to_nodes, version}
use Rattle.world_model.specs.Counts.{Each}
use Rattle.world_model.specs.Runs.{coordinator_in}
use Rattle.world_model.specs.Tables.{coordinator_table}
use Rattle.world_model.proofs.Every.{each_append}

-- a fact of addressee and body, of what is sent
abbrev pub of : (ℕ → Body → Type 0) → Outgoing → Type 0
of P o = P o.to.0 o.body

pub to_nodes_each : (P : ℕ → Body → Type 0) (n : ℕ) (b : Body) → ((to : ℕ) → to < n → P to b) → Each (of P) (to_nodes n b)
to_nodes_each P zero b all = tt
to_nodes_each P (suc n) b all =
    each_append (of P) (to_nodes n b) (record { to = record { 0 = n }; body = b } ∷ [])
    (to_nodes_each P n b (λ to lt. all to (omega arith))) (all n (omega arith), tt)

-- a fact of all that a coordinator of n nodes may send
pub record OfOrders (P : ℕ → Body → Type 0) (n : ℕ) : Type 0 where
  pub turn : (to : ℕ) (v : Version) → to < n → P to (Turn v)
  pub show : (to : ℕ) (v : Version) → to < n → P to (Show v)
  pub sweep : (to : ℕ) (v : Version) → to < n → P to (Sweep v)
  pub ask_done : (to : ℕ) (v : Version) (k : ℕ) → to < n → P to (AskDone v k)
  pub ask_asked : (to : ℕ) (v : Version) (k : ℕ) → to < n → P to (AskAsked v k)
  pub advanced : (v : Version) → P (n + 1) (Advanced v)

abbrev SendsOf : (ℕ → Body → Type 0) → Out Coordinator → Type 0
SendsOf P out = Each (of P) out.sent

round_each : (P : ℕ → Body → Type 0) (reads : Bool) (c : Coordinator) → OfOrders P c.nodes → SendsOf P (begin_round reads c)
round_each P reads c h =
    to_nodes_each P c.nodes (AskDone (counted_version reads c) (one_more c.count.number))
    (λ to lt. h.ask_done to (counted_version reads c) (one_more c.count.number) lt)

ends_each : (P : ℕ → Body → Type 0) (reads : Bool) (c : Coordinator) → OfOrders P c.nodes → SendsOf P (end_count reads c)
ends_each P false c h = to_nodes_each P c.nodes (Show (version c.update)) (λ to lt. h.show to (version c.update) lt)
ends_each P true c h = to_nodes_each P c.nodes (Sweep (version c.update)) (λ to lt. h.sweep to (version c.update) lt)

pick_each : (P : ℕ → Body → Type 0) (b : Bool) (x y : Out Coordinator) → SendsOf P x → SendsOf P y → SendsOf P (if b then x else y)
pick_each P true x y p q = p
pick_each P false x y p q = q

counts_each : (P : ℕ → Body → Type 0) (reads : Bool) (asks : Counted) (c : Coordinator) → OfOrders P c.nodes
    → SendsOf P (as_counted reads asks c)
counts_each P reads Goes c h = tt
counts_each P reads AsksRequests c h =
    let r = c.count.current in
    to_nodes_each P c.nodes (AskAsked r.version r.number) (λ to lt. h.ask_asked to r.version r.number lt)
counts_each P reads Agrees c h = ends_each P reads c h
counts_each P reads Recounts c h = round_each P reads c h
counts_each P reads Pauses c h = tt

advance_each : (P : ℕ → Body → Type 0) (c : Coordinator) → OfOrders P c.nodes → SendsOf P (end_advance c)
advance_each P c h =
    pick_each P (c.waits == 0) _ _ (h.advanced (version c.update), tt) (
      h.advanced (version c.update),
      to_nodes_each P c.nodes (Turn (version (one_more (one_more c.update)))) (λ to lt. h.turn to (version (one_more (one_more c.update))) lt),
    )

row_each : (P : ℕ → Body → Type 0) (from : ℕ) (c : Coordinator) → OfOrders P c.nodes → (body : Body) (phase : Phase)
    → SendsOf P (row_of body phase from c)
row_each P from c h Advance Idle = to_nodes_each P c.nodes (Turn (version (one_more c.update))) (λ to lt. h.turn to (version (one_more c.update)) lt)
row_each P from c h Advance _ = tt
row_each P from c h (Turned v) Turning = pick_each P (one_more c.acks == c.nodes) _ _ (round_each P false c h) tt
row_each P from c h (DoneRow v k row) (Counting reads) =
    let o = told_done from v k row c.count in counts_each P reads o.counted (record c { count = o.state }) h
row_each P from c h (AskedRow v k row) (Counting reads) =
    let o = told_asked from v k row c.count in counts_each P reads o.counted (record c { count = o.state }) h
row_each P from c h Nudge (Counting reads) = tt
row_each P from c h Nudge (Paused reads) = round_each P reads c h
row_each P from c h (Shown v) Showing = pick_each P (one_more c.acks == c.nodes) _ _ (round_each P true c h) tt
row_each P from c h (Swept v) Sweeping = pick_each P (one_more c.acks == c.nodes) _ _ (advance_each P c h) tt
row_each P from c h _ _ = tt

-- what the coordinator sends
pub coordinator_each : (P : ℕ → Body → Type 0) (c : Coordinator) → OfOrders P c.nodes → (from : ℕ) (body : Body)
    → Each (of P) (coordinator_row c from body).sent
coordinator_each P c h from body = row_each P from c h body c.phase

-- The coordinator has no acts, and its number of nodes stays.
pub record Plain (c : Coordinator) (out : Out Coordinator) : Type 0 where
  pub acts : out.acts ≡ []
  pub nodes : out.state.nodes ≡ c.nodes

same : (c : Coordinator) (out : Out Coordinator) → out.acts ≡ [] → out.state.nodes ≡ c.nodes → Plain c out
same c out acts nodes = record { acts = acts; nodes = nodes }

pick_plain : (c : Coordinator) (b : Bool) (x y : Out Coordinator) → Plain c x → Plain c y → Plain c (if b then x else y)
pick_plain c true x y p q = p
pick_plain c false x y p q = q

ends_plain : (reads : Bool) (c d : Coordinator) → d.nodes ≡ c.nodes → Plain c (end_count reads d)
ends_plain false c d is = same c _ refl is
ends_plain true c d is = same c _ refl is

counts_plain : (reads : Bool) (asks : Counted) (c d : Coordinator) → d.nodes ≡ c.nodes → Plain c (as_counted reads asks d)
counts_plain reads Agrees c d is = ends_plain reads c d is
counts_plain reads Goes c d is = same c _ refl is
counts_plain reads AsksRequests c d is = same c _ refl is
counts_plain reads Recounts c d is = same c _ refl is
counts_plain reads Pauses c d is = same c _ refl is

pub row_plain : (from : ℕ) (c : Coordinator) (body : Body) (phase : Phase) → Plain c (row_of body phase from c)
row_plain from c Advance Idle = same c _ refl refl
row_plain from c Advance _ = same c _ refl refl
row_plain from c (Turned v) Turning = pick_plain c (one_more c.acks == c.nodes) _ _ (same c _ refl refl) (same c _ refl refl)
row_plain from c (DoneRow v k row) (Counting reads) =
    let o = told_done from v k row c.count in counts_plain reads o.counted c (record c { count = o.state }) refl
row_plain from c (AskedRow v k row) (Counting reads) =
    let o = told_asked from v k row c.count in counts_plain reads o.counted c (record c { count = o.state }) refl
row_plain from c Nudge (Counting reads) = same c _ refl refl
row_plain from c Nudge (Paused reads) = same c _ refl refl
row_plain from c (Shown v) Showing = pick_plain c (one_more c.acks == c.nodes) _ _ (same c _ refl refl) (same c _ refl refl)
row_plain from c (Swept v) Sweeping =
    pick_plain c (one_more c.acks == c.nodes) _ _ (pick_plain c (c.waits == 0) _ _ (same c _ refl refl) (same c _ refl refl)) (same c _ refl refl)
row_plain from c _ _ = same c _ refl refl

pub no_acts : (c : Coordinator) (from : ℕ) (body : Body) → (coordinator_row c from body).acts ≡ []
no_acts c from body = (row_plain from c body c.phase).acts

nodes_by : (s : ScriptData) (past : List Entry) (e : Entry) (b : Bool) → (coordinator_in s past).nodes ≡ s.nodes
    → (if b then (coordinator_table (coordinator_in s past) e.took).state else coordinator_in s past).nodes ≡ s.nodes
nodes_by s past e true is = (row_plain e.took.from.0 (coordinator_in s past) e.took.body (coordinator_in s past).phase).nodes ∙ is
nodes_by s past e false is = is

-- in every past it is the coordinator of the script's nodes
pub coordinator_nodes : (s : ScriptData) (past : List Entry) → (coordinator_in s past).nodes ≡ s.nodes
coordinator_nodes s [] = refl
coordinator_nodes s (e ∷ past) = nodes_by s past e (e.actor.0 == s.nodes) (coordinator_nodes s past)
