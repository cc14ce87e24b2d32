-- Whatever messages an actor takes, it sends messages to actors of the script. So each message in flight is for one of
-- them. No law of runs is needed.
use Rattle.std.proofs.Common.{◌≡◌, ℕ, ◌+◌, ◌<◌, ◌==◌, Bool, true, false, List, [], ◌∷◌, length, reverse, take, drop, refl, sym, ◌∙◌, subst, arith, Option, Some, None}
use Rattle.std.specs.Prelude.{if◌then◌else◌, nat_lt, All}
use Rattle.std.specs.List.{AllByRecursion}
use Rattle.std.proofs.lemmas.Bool.Decides.{nat_tests}
use Rattle.std.proofs.lemmas.List.Elements.{All-from_recursion}
use Rattle.letter_types.specs.declared.bodies.Body.{Body}
use Rattle.letter_types.specs.declared.bodies.Body.TheVariants.{Go, Reply, Advanced, Ask}
use Rattle.letter_types.specs.declared.entries.Entry.{Entry}
use Rattle.letter_types.specs.declared.entries.Letter.{Letter}
use Rattle.letter_types.specs.declared.entries.LetterId.{LetterId}
use Rattle.letter_types.specs.declared.entries.Outgoing.{Outgoing}
use Rattle.letter_types.specs.Kept.{brought, kept_without, wakes}
use Rattle.letter_types.specs.Letters.{find_id, own}
use Rattle.letter_types.specs.Steps.{still}
use Rattle.script_parts.specs.ScriptData.{ScriptData}
use Rattle.script_parts.specs.Valid.{IsValid}
use Rattle.script_parts.specs.declared.parts.ScriptRow.{ScriptRow}
use Rattle.script_parts.specs.declared.parts.ScriptRow.TheVariants.{Tree as TreeRow, Settle, Advance, Lose}
use Rattle.world_model.specs.Restarting.{Restarting, restarting_row, start_restarting}
use Rattle.script_parts.specs.Counts.{is_lossy}
use Rattle.world_model.specs.Client.{Client, advances_sent, client_row, nudge, rows_letters, submit, submitted, wanted, with_answer, with_end}
use Rattle.world_model.specs.Coordinator.{Coordinator, coordinator_row, start_coordinator}
use Rattle.world_model.specs.Counts.{Each}
use Rattle.world_model.specs.Keeping.{Aptness, AreKeptAt, KeepingNode, brought_row, is_apt_there, keeping_row, kept_row, woken_by}
use Rattle.world_model.specs.Runs.{AtClient, AtCoordinator, AtNode, AtRestarting, IsStepRun, Moves, actor_in, after, client_in, coordinator_in, in_flight, keeping_in, restarting_in}
use Rattle.world_model.specs.Strict.{CoreKeeping, core_keeping, core_row, is_core_apt}
use Rattle.world_model.specs.Tables.{ActorData, NodeData, CoordinatorData, RestartingData, ClientData, actor_row, start_actor}
use Rattle.world_model.specs.Taking.{IsAddressed}
use Rattle.world_model.proofs.Back.{actor_leads}
use Rattle.world_model.proofs.CoreSends.{For, core_for, for_both, home_for, pick}
use Rattle.world_model.proofs.Every.{each_append, each_found, each_map, each_step}
use Rattle.world_model.proofs.KeptThere.{kept_in_past, kept_next, still_kept, wakes_for}
use Rattle.world_model.proofs.Orders.{OfOrders, coordinator_each, coordinator_nodes, row_plain}
use Rattle.world_model.proofs.Restarts.{OfRestarts, restart_plain, restarting_each, restarting_nodes}

addresses : (n : ℕ) (os : List Outgoing) → For n os → AllByRecursion (λ (o : Outgoing). o.to.0 < n) os
addresses n [] all = tt
addresses n (o ∷ os) all = (all.0, addresses n os all.1)

row_for : (s : ScriptData) (p : ℕ) (l r : Letter) (n : KeepingNode) (found : Option CoreKeeping) → IsValid s → p < s.nodes + 2
    → AreKeptAt p n.kept → For (s.nodes + 2) (kept_row s p l r n found).sent
row_for s p l r n (Some k) valid lt all = tt
row_for s p l r n None valid lt all =
    for_both (s.nodes + 2) (core_row s p n.core r.from.0 r.body).sent (wakes (woken_by n.core r.body) (kept_without n.kept l.body))
    (core_for s p r.from.0 r.body n.core valid)
    (wakes_for p (s.nodes + 2) (woken_by n.core r.body) (kept_without n.kept l.body) lt (still_kept p n.kept l.body all))

brought_for : (apt : Aptness) (s : ScriptData) (p : ℕ) (l : Letter) (n : KeepingNode) (found : Option Letter) → IsValid s
    → p < s.nodes + 2 → AreKeptAt p n.kept → For (s.nodes + 2) (brought_row apt s p l n found).sent
brought_for apt s p l n None valid lt all = tt
brought_for apt s p l n (Some r) valid lt all =
    pick (s.nodes + 2) (is_apt_there apt p n r) (kept_row s p l r n (core_keeping s n.core r.body)) (still n)
    (row_for s p l r n (core_keeping s n.core r.body) valid lt all) tt

node_for : (s : ScriptData) (p : ℕ) (n : KeepingNode) (l : Letter) → IsValid s → p < s.nodes + 2 → AreKeptAt p n.kept
    → For (s.nodes + 2) (keeping_row s p n l).sent
node_for s p n l valid lt all = brought_for (is_core_apt s p) s p l n (brought n.kept l l.body) valid lt all

orders_for : (n : ℕ) → OfOrders (λ to body. to < n + 2) n
orders_for n = record {
  turn = λ to v lt. omega arith;
  show = λ to v lt. omega arith;
  sweep = λ to v lt. omega arith;
  ask_done = λ to v k lt. omega arith;
  ask_asked = λ to v k lt. omega arith;
  advanced = λ v. omega arith;
}

restarts_for : (n : ℕ) → OfRestarts (λ to b. to < n + 2) n
restarts_for n = record {
  ask = λ to e lt. omega arith;
  ask_client = λ e. omega arith;
  order = λ to e what v lt. omega arith;
  ask_done = λ to v k lt. omega arith;
  ask_asked = λ to v k lt. omega arith;
  advanced = λ v. omega arith;
}

coordinator_for : (s : ScriptData) (c : Coordinator) (from : ℕ) (body : Body) → c.nodes ≡ s.nodes
    → For (s.nodes + 2) (coordinator_row c from body).sent
coordinator_for s c from body is =
    subst (λ (n : ℕ). For (n + 2) (coordinator_row c from body).sent) is
    (coordinator_each (λ to b. to < c.nodes + 2) c (orders_for c.nodes) from body)

restarting_for : (s : ScriptData) (c : Restarting) (from : ℕ) (body : Body) → c.nodes ≡ s.nodes
    → For (s.nodes + 2) (restarting_row c from body).sent
restarting_for s c from body is =
    subst (λ (n : ℕ). For (n + 2) (restarting_row c from body).sent) is
    (restarting_each (λ to b. to < c.nodes + 2) c (restarts_for c.nodes) from body)

rows_for : (s : ScriptData) (k : ℕ) (rows : List ScriptRow) → IsValid s → For (s.nodes + 2) (rows_letters s k rows)
rows_for s k [] valid = tt
rows_for s k (TreeRow t ∷ rows) valid = (home_for s t.0 valid, rows_for s k rows valid)
rows_for s k (Advance ∷ rows) valid = (omega arith, rows_for s (k + 1) rows valid)
rows_for s k (Settle ∷ rows) valid = rows_for s k rows valid
rows_for s k (Lose ∷ rows) valid = (omega arith, rows_for s k rows valid)

submit_for : (s : ScriptData) (c : Client) (first : List Outgoing) → IsValid s → For (s.nodes + 2) first
    → For (s.nodes + 2) (submit s c first).sent
submit_for s c first valid all =
    let rows = take (submitted c (take c.next s.rows) (drop c.next s.rows)) (drop c.next s.rows) in
    each_append (λ (o : Outgoing). o.to.0 < s.nodes + 2) first (rows_letters s (advances_sent s c) rows) all
    (rows_for s (advances_sent s c) rows valid)

client_for : (s : ScriptData) (c : Client) (body : Body) → IsValid s → For (s.nodes + 2) (client_row s c body).sent
client_for s c Go valid = submit_for s c [] valid tt
client_for s c (Reply t v answer) valid =
    pick (s.nodes + 2) (nat_lt t.0 (length s.trees)) (submit s (with_answer t.0 c) (nudge s ∷ [])) (still c)
    (submit_for s (with_answer t.0 c) (nudge s ∷ []) valid (omega arith, tt)) tt
client_for s c (Advanced v) valid = submit_for s (with_end s v c) [] valid tt
client_for s c (Ask e) valid = pick (s.nodes + 2) (is_lossy s) (wanted s e c) (still c) (omega arith, tt) tt
client_for s c _ valid = tt

-- what an actor keeps: a node is one of the script's, and what it keeps is addressed to it, and the coordinator is that
-- of the script's nodes
abbrev StandsAt : ScriptData → ℕ → ActorData → Type 0
StandsAt s a (NodeData n) = (a < s.nodes) × AreKeptAt a n.kept
StandsAt s a (CoordinatorData c) = c.nodes ≡ s.nodes
StandsAt s a (RestartingData c) = c.nodes ≡ s.nodes
StandsAt s a (ClientData c) = Unit {0}

step_stands : (s : ScriptData) (a : ℕ) (d : ActorData) (l : Letter) → StandsAt s a d → StandsAt s a (actor_row s a d l).state
step_stands s a (NodeData n) l stands = (stands.0, kept_next s a n l stands.1)
step_stands s a (CoordinatorData c) l stands = (row_plain l.from.0 c l.body c.phase).nodes ∙ stands
step_stands s a (RestartingData c) l stands = (restart_plain l.from.0 c l.body).nodes ∙ stands
step_stands s a (ClientData c) l stands = tt

steps_stand : (s : ScriptData) (a : ℕ) (d : ActorData) (es : List Entry) → StandsAt s a d → StandsAt s a (after (actor_row s a) d es)
steps_stand s a d [] stands = stands
steps_stand s a d (e ∷ es) stands = steps_stand s a (actor_row s a d e.took).state es (step_stands s a d e.took stands)

starts_by : (s : ScriptData) (a : ℕ) (b c : Bool) → nat_lt a s.nodes ≡ b → (a == s.nodes) ≡ c → StandsAt s a (start_actor s a)
starts_by s a true c is at = rw is (grind (arith, nat_tests), tt)
starts_by s a false true is at = rw (is, at) (by (is_lossy s)) where
  by : (loses : Bool)
      → StandsAt s a (if loses then RestartingData (start_restarting s.nodes) else CoordinatorData (start_coordinator s.nodes))
  by false = refl
  by true = refl
starts_by s a false false is at = rw (is, at) tt

-- an actor after its entries
stands_after : (s : ScriptData) (a : ℕ) (es : List Entry) (d : ActorData) → d ≡ after (actor_row s a) (start_actor s a) es → StandsAt s a d
stands_after s a es d is =
    subst (λ (x : ActorData). StandsAt s a x) (sym is)
    (steps_stand s a (start_actor s a) es (starts_by s a (nat_lt a s.nodes) (a == s.nodes) refl refl))

sent_for : (s : ScriptData) (a : ℕ) (d : ActorData) (l : Letter) → IsValid s → StandsAt s a d → For (s.nodes + 2) (actor_row s a d l).sent
sent_for s a (NodeData n) l valid stands = node_for s a n l valid (omega (arith, stands.0)) stands.1
sent_for s a (CoordinatorData c) l valid stands = coordinator_for s c l.from.0 l.body stands
sent_for s a (RestartingData c) l valid stands = restarting_for s c l.from.0 l.body stands
sent_for s a (ClientData c) l valid stands = client_for s c l.body valid

-- what an actor sends after its entries
pub sent_addressed : (s : ScriptData) (a n : ℕ) (es : List Entry) (d : ActorData) (l : Letter) (os : List Outgoing) → IsValid s
    → d ≡ after (actor_row s a) (start_actor s a) es → os ≡ (actor_row s a d l).sent → n ≡ s.nodes + 2
    → All (λ (o : Outgoing). o.to.0 < n) os
sent_addressed s a n es d l os valid is sent actors =
    let all : For (s.nodes + 2) (actor_row s a d l).sent = sent_for s a d l valid (stands_after s a es d is) in
    All-from_recursion (λ (o : Outgoing). o.to.0 < n) os
    (subst (λ (z : ℕ × List Outgoing). AllByRecursion (λ (o : Outgoing). o.to.0 < z.0) z.1) (λ k. (sym actors k, sym sent k))
    (addresses (s.nodes + 2) (actor_row s a d l).sent all))

-- what an entry sends
entry_by : (s : ScriptData) (past : List Entry) (e : Entry) → IsValid s → Moves s past e → For (s.nodes + 2) e.sent
entry_by s past e valid (AtNode lt says) =
    subst (For (s.nodes + 2)) (sym says.0)
    (node_for s e.actor.0 (keeping_in s past e.actor.0) e.took valid (omega (arith, lt)) (kept_in_past s past e.actor.0))
entry_by s past e valid (AtCoordinator at keeps says) =
    subst (For (s.nodes + 2)) (sym says.0) (coordinator_for s (coordinator_in s past) e.took.from.0 e.took.body (coordinator_nodes s past))
entry_by s past e valid (AtRestarting at loses says) =
    subst (For (s.nodes + 2)) (sym says.0) (restarting_for s (restarting_in s past) e.took.from.0 e.took.body (restarting_nodes s past))
entry_by s past e valid (AtClient at says) =
    subst (For (s.nodes + 2)) (sym says.0) (client_for s (client_in s past) e.took.body valid)

-- each letter in flight is for one of the actors
pub all_addressed : (s : ScriptData) (past : List Entry) → IsValid s → IsStepRun s past
    → Each (λ (l : Letter). l.to.0 < s.nodes + 2) (in_flight s past)
all_addressed s [] valid run = (omega arith, tt)
all_addressed s (e ∷ past) valid run =
    each_step (λ (l : Letter). l.to.0 < s.nodes + 2) s past e (all_addressed s past valid run.1)
    (each_map (λ (o : Outgoing). o.to.0 < s.nodes + 2) (λ (o : Outgoing). LetterId → o.to.0 < s.nodes + 2) e.sent (λ o lt id. lt)
    (entry_by s past e valid run.0.moves))

pub addressed : (s : ScriptData) (past : List Entry) (l : Letter) → IsValid s → IsStepRun s past
    → find_id l.id (in_flight s past) ≡ Some l → l.to.0 < s.nodes + 2
addressed s past l valid run at =
    each_found (λ (x : Letter). x.to.0 < s.nodes + 2) l.id (in_flight s past) l (all_addressed s past valid run) at

addressed_by : (s : ScriptData) (l : Letter) (d : ActorData) → StandsAt s l.to.0 d → IsAddressed s l d
addressed_by s l (NodeData n) stands = stands
addressed_by s l (CoordinatorData c) stands = tt
addressed_by s l (RestartingData c) stands = tt
addressed_by s l (ClientData c) stands = tt

-- a letter that is addressed to an actor may be taken by it
pub is_addressed : (s : ScriptData) (a : ℕ) (es : List Entry) (l : Letter) (d : ActorData)
    → d ≡ after (actor_row s a) (start_actor s a) es → l.to.0 ≡ a → a < s.nodes + 2 → IsAddressed s l d
is_addressed s a es l d is to lt =
    addressed_by s l d (subst (λ (b : ℕ). StandsAt s b d) (sym to) (stands_after s a es d is))

-- the same after a past
pub may_reach : (s : ScriptData) (past : List Entry) (l : Letter) → l.to.0 < s.nodes + 2 → IsAddressed s l (actor_in s past l.to.0)
may_reach s past l lt =
    is_addressed s l.to.0 (own l.to.0 (reverse past)) l (actor_in s past l.to.0) (actor_leads s past l.to.0 lt) refl lt
