-- The table of an actor is that of a node, of the coordinator or of the client; so a run of one is a run of the other.
-- Runs by tables of any rows of nodes.
use Rattle.std.proofs.Common.{◌≡◌, ◌⊎◌, inl, inr, ℕ, ◌+◌, ◌<◌, ◌==◌, Bool, true, false, List, [], ◌∷◌, refl, ap, sym, subst, arith, Some, ◌∙◌}
use Rattle.std.specs.Prelude.{if◌then◌else◌, nat_lt, map, slice_get}
use Rattle.std.proofs.lemmas.Bool.Decides.{nat_tests}
use Rattle.letter_types.specs.declared.entries.Letter.{Letter}
use Rattle.letter_types.specs.declared.entries.Entry.{Entry}
use Rattle.letter_types.specs.declared.entries.Posting.{Posting}
use Rattle.letter_types.specs.Letters.{go, own, find_id, letters_of}
use Rattle.letter_types.specs.Postal.{IsMessageRun, delivery_of, letters_sent}
use Rattle.letter_types.specs.Steps.{Out}
use Rattle.letter_types.proofs.Postings.{entry_at, posting_at}
use Rattle.script_parts.specs.ScriptData.{ScriptData, client_of}
use Rattle.world_model.specs.Restarting.{start_restarting}
use Rattle.script_parts.specs.Counts.{is_lossy}
use Rattle.world_model.specs.Keeping.{KeepingNode, keeping_row, start_keeping}
use Rattle.world_model.specs.Coordinator.{start_coordinator}
use Rattle.world_model.specs.Client.{start_client}
use Rattle.world_model.specs.Tables.{ActorData, NodeData, CoordinatorData, RestartingData, ClientData, start_actor, start_coordination, as_actor, actor_row, coordinator_table, restarting_table, client_table}
use Rattle.world_model.specs.Runs.{IsRunOf, after, IsWorldRun}

-- The letters of a history of entries went as letters do.
pub record IsPostalEntry (client : ℕ) (h : List Entry) : Type 0 where
  pub stamps : (k : ℕ) (e : Entry) → slice_get h k ≡ Some e → e.stamp.0 ≡ k + 1
  pub sent : (k : ℕ) (e : Entry) → slice_get h k ≡ Some e
      → (e.took ≡ go client)
      ⊎ ((j : ℕ) × (f : Entry) × (j < k) × (slice_get h j ≡ Some f) × (find_id e.took.id (letters_of f) ≡ Some e.took))
  pub once : (j k : ℕ) (e f : Entry) → j < k → slice_get h j ≡ Some e → slice_get h k ≡ Some f → (e.took.id ≡ f.took.id → ⊥)
  pub addressee : (k : ℕ) (e : Entry) → slice_get h k ≡ Some e → e.took.to.0 ≡ e.actor.0
  pub known : (k : ℕ) (e : Entry) → slice_get h k ≡ Some e → e.actor.0 < client + 1

abbrev Came : ℕ → List Entry → ℕ → Letter → Type 0
Came client h k l =
    (l ≡ go client) ⊎ ((j : ℕ) × (f : Entry) × (j < k) × (slice_get h j ≡ Some f) × (find_id l.id (letters_of f) ≡ Some l))

abbrev CamePosted : ℕ → List Entry → ℕ → Letter → Type 0
CamePosted client h k l =
    (l ≡ go client)
    ⊎ ((j : ℕ) × (f : Posting) × (j < k) × (slice_get (map delivery_of h) j ≡ Some f) × (find_id l.id (letters_sent f) ≡ Some l))

came_entry : (client : ℕ) (h : List Entry) (k : ℕ) (l : Letter) → CamePosted client h k l → Came client h k l
came_entry client h k l (inl is) = inl is
came_entry client h k l (inr (j, f, lt, at, found)) =
    let there = entry_at h j f at in
    inr (j, there.0, lt, there.1, subst (λ (p : Posting). find_id l.id (letters_sent p) ≡ Some l) (sym there.2) found)

came_posted : (client : ℕ) (h : List Entry) (k : ℕ) (l : Letter) → Came client h k l → CamePosted client h k l
came_posted client h k l (inl is) = inl is
came_posted client h k l (inr (j, f, lt, at, found)) = inr (j, delivery_of f, lt, posting_at h j f at, found)

-- by entries
pub entry_postal : (client : ℕ) (h : List Entry) → IsMessageRun client (map delivery_of h) → IsPostalEntry client h
entry_postal client h p = record {
  stamps = λ k e at. p.stamps k (delivery_of e) (posting_at h k e at);
  sent = λ k e at. came_entry client h k e.took (p.sent k (delivery_of e) (posting_at h k e at));
  once = λ j k e f lt a b. p.once j k (delivery_of e) (delivery_of f) lt (posting_at h j e a) (posting_at h k f b);
  addressee = λ k e at. p.addressee k (delivery_of e) (posting_at h k e at);
  known = λ k e at. p.known k (delivery_of e) (posting_at h k e at);
}

stamp_posted : (client : ℕ) (h : List Entry) → IsPostalEntry client h → (k : ℕ) (f : Posting) → slice_get (map delivery_of h) k ≡ Some f
    → f.stamp.0 ≡ k + 1
stamp_posted client h p k f at =
    let there = entry_at h k f at in
    subst (λ (x : Posting). x.stamp.0 ≡ k + 1) there.2 (p.stamps k there.0 there.1)

sent_posted : (client : ℕ) (h : List Entry) → IsPostalEntry client h → (k : ℕ) (f : Posting) → slice_get (map delivery_of h) k ≡ Some f
    → CamePosted client h k f.took
sent_posted client h p k f at =
    let there = entry_at h k f at in
    subst (λ (x : Posting). CamePosted client h k x.took) there.2 (came_posted client h k there.0.took (p.sent k there.0 there.1))

once_posted : (client : ℕ) (h : List Entry) → IsPostalEntry client h → (j k : ℕ) (f g : Posting) → j < k
    → slice_get (map delivery_of h) j ≡ Some f → slice_get (map delivery_of h) k ≡ Some g → f.took.id ≡ g.took.id → ⊥
once_posted client h p j k f g lt a b =
    let one = entry_at h j f a in
    let two = entry_at h k g b in
    subst (λ (x : Posting). x.took.id ≡ g.took.id → ⊥) one.2
    (subst (λ (x : Posting). one.0.took.id ≡ x.took.id → ⊥) two.2 (p.once j k one.0 two.0 lt one.1 two.1))

ends_posted : (client : ℕ) (h : List Entry) → IsPostalEntry client h → (k : ℕ) (f : Posting) → slice_get (map delivery_of h) k ≡ Some f
    → (f.took.to.0 ≡ f.actor.0) × (f.actor.0 < client + 1)
ends_posted client h p k f at =
    let there = entry_at h k f at in
    subst (λ (x : Posting). (x.took.to.0 ≡ x.actor.0) × (x.actor.0 < client + 1)) there.2 (p.addressee k there.0 there.1, p.known k there.0 there.1)

-- by postings
pub postal_of : (client : ℕ) (h : List Entry) → IsPostalEntry client h → IsMessageRun client (map delivery_of h)
postal_of client h p = record {
  stamps = λ k f at. stamp_posted client h p k f at;
  sent = λ k f at. sent_posted client h p k f at;
  once = λ j k f g lt a b. once_posted client h p j k f g lt a b;
  addressee = λ k f at. (ends_posted client h p k f at).0;
  known = λ k f at. (ends_posted client h p k f at).1;
}

-- Tables that are seen as an actor's.

-- a row seen as an actor's
abbrev pub Sees : {St : Type 0} → (ActorData → Letter → Out ActorData) → (St → ActorData) → (St → Letter → Out St) → Type 0
Sees {St} big see row = (st : St) (l : Letter) → big (see st) l ≡ as_actor see (row st l)

-- the run of the one is a run of the other
seen_run : {St : Type 0} (big : ActorData → Letter → Out ActorData) (see : St → ActorData) (row : St → Letter → Out St)
    → Sees big see row → (st : St) (es : List Entry) → IsRunOf row st es → IsRunOf big (see st) es
seen_run big see row same st [] run = tt
seen_run big see row same st (e ∷ es) run =
    rw (same st e.took) (run.0, run.1, seen_run big see row same (row st e.took).state es run.2)

run_seen : {St : Type 0} (big : ActorData → Letter → Out ActorData) (see : St → ActorData) (row : St → Letter → Out St)
    → Sees big see row → (st : St) (es : List Entry) → IsRunOf big (see st) es → IsRunOf row st es
run_seen big see row same st [] run = tt
run_seen big see row same st (e ∷ es) run =
    let here = rw (same st e.took) at run in
    (here.0, here.1, run_seen big see row same (row st e.took).state es here.2)

-- and so is the state after it
seen_after : {St : Type 0} (big : ActorData → Letter → Out ActorData) (see : St → ActorData) (row : St → Letter → Out St)
    → Sees big see row → (st : St) (es : List Entry) → after big (see st) es ≡ see (after row st es)
seen_after big see row same st [] = refl
seen_after big see row same st (e ∷ es) = rw (same st e.took) (seen_after big see row same (row st e.took).state es)

-- How each actor starts.
pub starts_node : (s : ScriptData) (p : ℕ) → p < s.nodes → start_actor s p ≡ NodeData (start_keeping s p)
starts_node s p lt = let is : nat_lt p s.nodes ≡ true = grind (arith, nat_tests) in rw is refl

starts_coordination : (s : ScriptData) → start_actor s s.nodes ≡ start_coordination s
starts_coordination s =
    let no : nat_lt s.nodes s.nodes ≡ false = grind (arith, nat_tests) in
    let is : (s.nodes == s.nodes) ≡ true = grind (arith, nat_tests) in
    rw no (rw is refl)

pub starts_coordinator : (s : ScriptData) → is_lossy s ≡ false → start_actor s s.nodes ≡ CoordinatorData (start_coordinator s.nodes)
starts_coordinator s keeps =
    starts_coordination s
    ∙ ap (λ (b : Bool). if b then RestartingData (start_restarting s.nodes) else CoordinatorData (start_coordinator s.nodes)) keeps

pub starts_restarting : (s : ScriptData) → is_lossy s ≡ true → start_actor s s.nodes ≡ RestartingData (start_restarting s.nodes)
starts_restarting s loses =
    starts_coordination s
    ∙ ap (λ (b : Bool). if b then RestartingData (start_restarting s.nodes) else CoordinatorData (start_coordinator s.nodes)) loses

pub starts_client : (s : ScriptData) → start_actor s (client_of s) ≡ ClientData (start_client s)
starts_client s =
    let no : nat_lt (client_of s) s.nodes ≡ false = grind (arith, nat_tests) in
    let apart : (client_of s == s.nodes) ≡ false = grind (arith, nat_tests) in
    rw no (rw apart refl)

-- A run by tables, actor by actor, where the nodes go by these rows.
pub record RowsRun (row : ℕ → KeepingNode → Letter → Out KeepingNode) (s : ScriptData) (h : List Entry) : Type 0 where
  pub postal : IsPostalEntry (client_of s) h
  pub nodes : (p : ℕ) → p < s.nodes → IsRunOf (row p) (start_keeping s p) (own p h)
  pub coordinator : is_lossy s ≡ false → IsRunOf coordinator_table (start_coordinator s.nodes) (own s.nodes h)
  pub restarting : is_lossy s ≡ true → IsRunOf restarting_table (start_restarting s.nodes) (own s.nodes h)
  pub client : IsRunOf (client_table s) (start_client s) (own (client_of s) h)

-- where they go by the window of versions
abbrev pub IsTableRun : ScriptData → List Entry → Type 0
IsTableRun s h = RowsRun (keeping_row s) s h

-- one table for all actors that is made of these rows, and of the tables of coordinators and of the client
pub record IsTableOf (s : ScriptData) (big : ℕ → ActorData → Letter → Out ActorData) (row : ℕ → KeepingNode → Letter → Out KeepingNode) : Type 0 where
  pub node : (p : ℕ) → Sees (big p) NodeData (row p)
  pub coordinator : (a : ℕ) → Sees (big a) CoordinatorData coordinator_table
  pub restarting : (a : ℕ) → Sees (big a) RestartingData restarting_table
  pub client : (a : ℕ) → Sees (big a) ClientData (client_table s)

-- each actor's own entries are a run of its table from its start
abbrev pub AreRunsOf : (ℕ → ActorData → Letter → Out ActorData) → ScriptData → List Entry → Type 0
AreRunsOf big s h = (a : ℕ) → a < s.nodes + 2 → IsRunOf (big a) (start_actor s a) (own a h)

pub rows_run : (big : ℕ → ActorData → Letter → Out ActorData) (row : ℕ → KeepingNode → Letter → Out KeepingNode) (s : ScriptData) (h : List Entry)
    → IsTableOf s big row → IsMessageRun (client_of s) (map delivery_of h) → AreRunsOf big s h → RowsRun row s h
rows_run big row s h is postal actors = record {
  postal = entry_postal (client_of s) h postal;
  nodes = λ p lt.
      run_seen (big p) NodeData (row p) (is.node p) (start_keeping s p) (own p h)
      (subst (λ (st : ActorData). IsRunOf (big p) st (own p h)) (starts_node s p lt) (actors p (omega arith)));
  coordinator = λ keeps.
      run_seen (big s.nodes) CoordinatorData coordinator_table (is.coordinator s.nodes) (start_coordinator s.nodes) (own s.nodes h)
      (subst (λ (st : ActorData). IsRunOf (big s.nodes) st (own s.nodes h)) (starts_coordinator s keeps) (actors s.nodes (omega arith)));
  restarting = λ loses.
      run_seen (big s.nodes) RestartingData restarting_table (is.restarting s.nodes) (start_restarting s.nodes) (own s.nodes h)
      (subst (λ (st : ActorData). IsRunOf (big s.nodes) st (own s.nodes h)) (starts_restarting s loses) (actors s.nodes (omega arith)));
  client =
      run_seen (big (client_of s)) ClientData (client_table s) (is.client (client_of s)) (start_client s) (own (client_of s) h)
      (subst (λ (st : ActorData). IsRunOf (big (client_of s)) st (own (client_of s) h)) (starts_client s) (actors (client_of s) (omega arith)));
}

by_window : (s : ScriptData) → IsTableOf s (actor_row s) (keeping_row s)
by_window s = record { node = λ p st l. refl; coordinator = λ a c l. refl; restarting = λ a c l. refl; client = λ a c l. refl }

pub table_run : (s : ScriptData) (h : List Entry) → IsWorldRun s h → IsTableRun s h
table_run s h w = rows_run (actor_row s) (keeping_row s) s h (by_window s) w.postal w.actors

-- an actor is a node, the coordinator or the client
pub data Who (s : ScriptData) (a : ℕ) : Type 0 where
  ANode : a < s.nodes → Who s a
  TheCoordinator : a ≡ s.nodes → Who s a
  TheClient : a ≡ client_of s → Who s a

who_by : (s : ScriptData) (a : ℕ) → a < s.nodes + 2 → (b c : Bool) → nat_lt a s.nodes ≡ b → (a == s.nodes) ≡ c → Who s a
who_by s a lt true c is at = ANode (grind (arith, nat_tests))
who_by s a lt false true is at = TheCoordinator (grind (arith, nat_tests))
who_by s a lt false false is at =
    let ge : s.nodes < a + 1 = grind (arith, nat_tests) in
    let ne : a ≡ s.nodes → ⊥ = grind (arith, nat_tests) in
    TheClient (omega arith)

pub who : (s : ScriptData) (a : ℕ) → a < s.nodes + 2 → Who s a
who s a lt = who_by s a lt (nat_lt a s.nodes) (a == s.nodes) refl refl

actor_run : (big : ℕ → ActorData → Letter → Out ActorData) (row : ℕ → KeepingNode → Letter → Out KeepingNode) (s : ScriptData) (h : List Entry) (a : ℕ)
    → IsTableOf s big row → RowsRun row s h → Who s a → IsRunOf (big a) (start_actor s a) (own a h)
actor_run big row s h a is run (ANode lt) =
    subst (λ (st : ActorData). IsRunOf (big a) st (own a h)) (sym (starts_node s a lt))
    (seen_run (big a) NodeData (row a) (is.node a) (start_keeping s a) (own a h) (run.nodes a lt))
actor_run big row s h a is run (TheCoordinator at) =
    subst (λ (b : ℕ). IsRunOf (big b) (start_actor s b) (own b h)) (sym at) (by (is_lossy s) refl) where
      by : (loses : Bool) → is_lossy s ≡ loses → IsRunOf (big s.nodes) (start_actor s s.nodes) (own s.nodes h)
      by false keeps =
          subst (λ (st : ActorData). IsRunOf (big s.nodes) st (own s.nodes h)) (sym (starts_coordinator s keeps))
          (seen_run (big s.nodes) CoordinatorData coordinator_table (is.coordinator s.nodes) (start_coordinator s.nodes) (own s.nodes h)
          (run.coordinator keeps))
      by true loses =
          subst (λ (st : ActorData). IsRunOf (big s.nodes) st (own s.nodes h)) (sym (starts_restarting s loses))
          (seen_run (big s.nodes) RestartingData restarting_table (is.restarting s.nodes) (start_restarting s.nodes) (own s.nodes h)
          (run.restarting loses))
actor_run big row s h a is run (TheClient at) =
    subst (λ (b : ℕ). IsRunOf (big b) (start_actor s b) (own b h)) (sym at)
    (subst (λ (st : ActorData). IsRunOf (big (client_of s)) st (own (client_of s) h)) (sym (starts_client s))
    (seen_run (big (client_of s)) ClientData (client_table s) (is.client (client_of s)) (start_client s) (own (client_of s) h) run.client))

-- and back, of all actors
pub runs_of_rows : (big : ℕ → ActorData → Letter → Out ActorData) (row : ℕ → KeepingNode → Letter → Out KeepingNode) (s : ScriptData) (h : List Entry)
    → IsTableOf s big row → RowsRun row s h → AreRunsOf big s h
runs_of_rows big row s h is run = λ a lt. actor_run big row s h a is run (who s a lt)

pub world_of_tables : (s : ScriptData) (h : List Entry) → IsTableRun s h → IsWorldRun s h
world_of_tables s h run = record {
  postal = postal_of (client_of s) h run.postal;
  actors = runs_of_rows (actor_row s) (keeping_row s) s h (by_window s) run;
}

-- the state to which an actor's own entries lead, by whose it is
pub node_data_after : (s : ScriptData) (p : ℕ) (es : List Entry) → p < s.nodes
    → after (actor_row s p) (start_actor s p) es ≡ NodeData (after (keeping_row s p) (start_keeping s p) es)
node_data_after s p es lt = rw (starts_node s p lt) (seen_after (actor_row s p) NodeData (keeping_row s p) (λ st l. refl) (start_keeping s p) es)

pub coordinator_data_after : (s : ScriptData) (es : List Entry) → is_lossy s ≡ false
    → after (actor_row s s.nodes) (start_actor s s.nodes) es ≡ CoordinatorData (after coordinator_table (start_coordinator s.nodes) es)
coordinator_data_after s es keeps =
    rw (starts_coordinator s keeps) (seen_after (actor_row s s.nodes) CoordinatorData coordinator_table (λ st l. refl) (start_coordinator s.nodes) es)

pub restarting_data_after : (s : ScriptData) (es : List Entry) → is_lossy s ≡ true
    → after (actor_row s s.nodes) (start_actor s s.nodes) es ≡ RestartingData (after restarting_table (start_restarting s.nodes) es)
restarting_data_after s es loses =
    rw (starts_restarting s loses) (seen_after (actor_row s s.nodes) RestartingData restarting_table (λ st l. refl) (start_restarting s.nodes) es)

pub client_data_after : (s : ScriptData) (es : List Entry)
    → after (actor_row s (client_of s)) (start_actor s (client_of s)) es ≡ ClientData (after (client_table s) (start_client s) es)
client_data_after s es =
    rw (starts_client s) (seen_after (actor_row s (client_of s)) ClientData (client_table s) (λ st l. refl) (start_client s) es)
