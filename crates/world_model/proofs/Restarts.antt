-- What a coordinator that forgets sends, and what it never changes.
use Rattle.std.proofs.Common.{◌≡◌, ℕ, ◌+◌, ◌<◌, ◌&&◌, ◌==◌, Bool, true, false, List, [], ◌∷◌, length, refl, ◌∙◌, Option, Some, None}
use Rattle.std.specs.Prelude.{if◌then◌else◌, max, nat_lt, slice_set, is_some}
use Rattle.std.specs.List.{list_all}
use Rattle.tv_base.specs.declared.numbers.Version.{Version}
use Rattle.tv_base.specs.Outside.{one_more}
use Rattle.phase_out.specs.Counts.{told_done, told_asked, told_nudge}
use Rattle.phase_out.specs.declared.count.Counted.{Counted}
use Rattle.phase_out.specs.declared.count.Counted.TheVariants.{Goes, AsksRequests, Agrees, Recounts, Pauses}
use Rattle.letter_types.specs.declared.bodies.Body.{Body}
use Rattle.letter_types.specs.declared.bodies.Body.TheVariants.{AdvanceNo, Advanced, Ask, AskAsked, AskDone, AskedRow, DoneRow, Lose, Nudge, Numbers, Obeyed, Order, Wanted}
use Rattle.letter_types.specs.declared.bodies.What.{What}
use Rattle.letter_types.specs.declared.bodies.What.TheVariants.{Turn as ToTurn, Show as ToShow, Sweep as ToSweep}
use Rattle.letter_types.specs.declared.entries.Entry.{Entry}
use Rattle.letter_types.specs.Steps.{Out, still}
use Rattle.script_parts.specs.ScriptData.{ScriptData}
use Rattle.world_model.specs.Counts.{Each}
use Rattle.world_model.specs.Restarting.{Restarting, after_doing, begin_counting, by_counted, end_counting, enter, enter_telling, forget, is_answer, least_low, next_advance, orders, phase_by, restart_row_of, restarting_row, resume_if, target, version_counted, with_advances, with_told, with_wanted}
use Rattle.world_model.specs.Runs.{restarting_in}
use Rattle.world_model.specs.Tables.{restarting_table}
use Rattle.world_model.specs.declared.restarting.RestartPhase.{RestartPhase}
use Rattle.world_model.specs.declared.restarting.RestartPhase.TheVariants.{Idle, Recovering, Doing, Counting, Paused}
use Rattle.world_model.proofs.Every.{each_append}
use Rattle.world_model.proofs.Orders.{of, to_nodes_each}

-- a fact of all that a coordinator of n nodes may send
pub record OfRestarts (P : ℕ → Body → Type 0) (n : ℕ) : Type 0 where
  pub ask : (to e : ℕ) → to < n → P to (Ask e)
  pub ask_client : (e : ℕ) → P (n + 1) (Ask e)
  pub order : (to e : ℕ) (what : What) (v : Version) → to < n → P to (Order e what v)
  pub ask_done : (to : ℕ) (v : Version) (k : ℕ) → to < n → P to (AskDone v k)
  pub ask_asked : (to : ℕ) (v : Version) (k : ℕ) → to < n → P to (AskAsked v k)
  pub advanced : (v : Version) → P (n + 1) (Advanced v)

-- of what comes of a letter: what is sent, that it has no act, and that it is a coordinator of as many nodes
pub record IsRestart (P : ℕ → Body → Type 0) (n : ℕ) (out : Out Restarting) : Type 0 where
  pub sent : Each (of P) out.sent
  pub acts : out.acts ≡ []
  pub nodes : out.state.nodes ≡ n

stays : (P : ℕ → Body → Type 0) (c : Restarting) → IsRestart P c.nodes (still c)
stays P c = record { sent = tt; acts = refl; nodes = refl }

pick : (P : ℕ → Body → Type 0) (n : ℕ) (b : Bool) (x y : Out Restarting) → IsRestart P n x → IsRestart P n y → IsRestart P n (if b then x else y)
pick P n true x y p q = p
pick P n false x y p q = q

orders_each : (P : ℕ → Body → Type 0) (phase : RestartPhase) (c : Restarting) → OfRestarts P c.nodes → Each (of P) (orders phase c)
orders_each P (Doing what) c h =
    to_nodes_each P c.nodes (Order c.epoch what (target what c.ended)) (λ to lt. h.order to c.epoch what (target what c.ended) lt)
orders_each P Idle c h = tt
orders_each P _ c h = tt

enters : (P : ℕ → Body → Type 0) (phase : RestartPhase) (c : Restarting) → OfRestarts P c.nodes → IsRestart P c.nodes (enter phase c)
enters P phase c h = record { sent = orders_each P phase c h; acts = refl; nodes = refl }

tells : (P : ℕ → Body → Type 0) (phase : RestartPhase) (c : Restarting) → OfRestarts P c.nodes → IsRestart P c.nodes (enter_telling phase c)
tells P phase c h = record { sent = (h.advanced _, orders_each P phase c h); acts = refl; nodes = refl }

begins : (P : ℕ → Body → Type 0) (reads : Bool) (c : Restarting) → OfRestarts P c.nodes → IsRestart P c.nodes (begin_counting reads c)
begins P reads c h = record {
  sent = to_nodes_each P c.nodes (AskDone (version_counted reads c) (one_more c.count.number)) (λ to lt. h.ask_done to _ _ lt);
  acts = refl;
  nodes = refl;
}

ends : (P : ℕ → Body → Type 0) (reads : Bool) (c : Restarting) → OfRestarts P c.nodes → IsRestart P c.nodes (end_counting reads c)
ends P false c h = enters P (Doing ToShow) c h
ends P true c h = enters P (Doing ToSweep) c h

counts : (P : ℕ → Body → Type 0) (reads : Bool) (o : Counted) (c : Restarting) → OfRestarts P c.nodes → IsRestart P c.nodes (by_counted reads o c)
counts P reads Goes c h = stays P c
counts P reads AsksRequests c h = record {
  sent = to_nodes_each P c.nodes (AskAsked c.count.current.version c.count.current.number) (λ to lt. h.ask_asked to _ _ lt);
  acts = refl;
  nodes = refl;
}
counts P reads Agrees c h = ends P reads c h
counts P reads Recounts c h = begins P reads c h
counts P reads Pauses c h = record { sent = tt; acts = refl; nodes = refl }

obeys : (P : ℕ → Body → Type 0) (what : What) (c : Restarting) → OfRestarts P c.nodes → IsRestart P c.nodes (after_doing what c)
obeys P ToTurn c h = begins P false c h
obeys P ToShow c h = begins P true c h
obeys P ToSweep c h = tells P (next_advance c.wanted (one_more c.ended)) (with_advances c.wanted (one_more c.ended) c) h

resumes : (P : ℕ → Body → Type 0) (all : Bool) (k : Option ℕ) (c : Restarting) → OfRestarts P c.nodes → IsRestart P c.nodes (resume_if all k c)
resumes P true (Some k) c h =
    tells P (phase_by c.told (max c.wanted k) (least_low c.told))
    (with_advances (max c.wanted k) (least_low c.told) c) h
resumes P true None c h = stays P c
resumes P false k c h = stays P c

forgets : (P : ℕ → Body → Type 0) (c : Restarting) → OfRestarts P c.nodes → IsRestart P c.nodes (forget c)
forgets P c h = record {
  sent = each_append (of P) _ _ (to_nodes_each P c.nodes (Ask (one_more c.epoch)) (λ to lt. h.ask to _ lt)) (h.ask_client _, tt);
  acts = refl;
  nodes = refl;
}

pub restart_each : (P : ℕ → Body → Type 0) (from : ℕ) (c : Restarting) → OfRestarts P c.nodes → (body : Body) (phase : RestartPhase)
    → IsRestart P c.nodes (restart_row_of body phase from c)
restart_each P from c h Lose phase = forgets P c h
restart_each P from c h (AdvanceNo i) Idle = enters P (next_advance (max c.wanted i) c.ended) (with_wanted i c) h
restart_each P from c h (AdvanceNo i) _ = stays P (with_wanted i c)
restart_each P from c h (Numbers e u r l) Recovering =
    pick P c.nodes ((e == c.epoch) && nat_lt from (length c.told)) _ _ (resumes P (list_all is_some (slice_set c.told from (Some (record { update = u; read = r; low = l })))) c.heard
    (with_told from (record { update = u; read = r; low = l }) c) h) (stays P c)
restart_each P from c h (Wanted e k) Recovering =
    pick P c.nodes ((e == c.epoch) && (from == c.nodes + 1)) _ _ (resumes P (list_all is_some c.told) (Some k) (record c { heard = Some k }) h) (stays P c)
restart_each P from c h (Obeyed e what v) (Doing doing) =
    pick P c.nodes (is_answer e what v doing c) _ _
    (pick P c.nodes (one_more c.acks == c.nodes) _ _ (obeys P doing c h) (record { sent = tt; acts = refl; nodes = refl })) (stays P c)
restart_each P from c h (DoneRow v k row) (Counting reads) =
    let o = told_done from v k row c.count in counts P reads o.counted (record c { count = o.state }) h
restart_each P from c h (AskedRow v k row) (Counting reads) =
    let o = told_asked from v k row c.count in counts P reads o.counted (record c { count = o.state }) h
restart_each P from c h Nudge (Counting reads) =
    let o = told_nudge false c.count in counts P reads o.counted (record c { count = o.state }) h
restart_each P from c h Nudge (Paused reads) =
    let o = told_nudge true c.count in counts P reads o.counted (record c { count = o.state }) h
restart_each P from c h _ _ = stays P c

pub restarting_each : (P : ℕ → Body → Type 0) (c : Restarting) → OfRestarts P c.nodes → (from : ℕ) (body : Body)
    → Each (of P) (restarting_row c from body).sent
restarting_each P c h from body = (restart_each P from c h body c.phase).sent

-- a coordinator that forgets has no act, and as many nodes as before
anything : (n : ℕ) → OfRestarts (λ to body. Unit {0}) n
anything n = record {
  ask = λ to e lt. tt;
  ask_client = λ e. tt;
  order = λ to e what v lt. tt;
  ask_done = λ to v k lt. tt;
  ask_asked = λ to v k lt. tt;
  advanced = λ v. tt;
}

pub restart_plain : (from : ℕ) (c : Restarting) (body : Body) → IsRestart (λ to b. Unit {0}) c.nodes (restarting_row c from body)
restart_plain from c body = restart_each (λ to b. Unit {0}) from c (anything c.nodes) body c.phase

nodes_by : (s : ScriptData) (past : List Entry) (e : Entry) (b : Bool) → (restarting_in s past).nodes ≡ s.nodes
    → (if b then (restarting_table (restarting_in s past) e.took).state else restarting_in s past).nodes ≡ s.nodes
nodes_by s past e true is = (restart_plain e.took.from.0 (restarting_in s past) e.took.body).nodes ∙ is
nodes_by s past e false is = is

-- in every past it is the coordinator of the script's nodes
pub restarting_nodes : (s : ScriptData) (past : List Entry) → (restarting_in s past).nodes ≡ s.nodes
restarting_nodes s [] = refl
restarting_nodes s (e ∷ past) = nodes_by s past e (e.actor.0 == s.nodes) (restarting_nodes s past)
