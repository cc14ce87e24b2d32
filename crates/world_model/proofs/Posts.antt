-- From runs by tables to runs by steps: a message that was sent and not taken waits, so that of the last entry is in
-- flight before it.
use Rattle.std.proofs.Common.{◌≡◌, ◌≢◌, ◌⊎◌, inl, inr, ℕ, ◌+◌, ◌<◌, Bool, true, false, List, [], ◌∷◌, ◌++◌, length, refl, ap, sym, ◌∙◌, subst, arith, Option, Some, None, reverse}
use Rattle.std.specs.Prelude.{if◌then◌else◌, slice_get}
use Rattle.std.proofs.lemmas.Bool.Decides.{nat_tests}
use Rattle.std.proofs.lemmas.List.{length-reverse, reverse-reverse}
use Rattle.std.proofs.lemmas.Option.{slice_get_within}
use Rattle.tv_base.proofs.Truths.{same_test}
use Rattle.tv_base.proofs.ByPlace.{slice_get_left, slice_get_last, slice_get_split}
use Rattle.letter_types.specs.declared.entries.LetterId.{LetterId}
use Rattle.letter_types.specs.declared.entries.Letter.{Letter}
use Rattle.letter_types.specs.declared.entries.Entry.{Entry}
use Rattle.letter_types.specs.Letters.{go, own, same_id, find_id, drop_id, letters_of}
use Rattle.letter_types.specs.Steps.{Out}
use Rattle.letter_types.proofs.Ids.{id_is, none_sealed, sealed_stamp}
use Rattle.script_parts.specs.ScriptData.{ScriptData, client_of}
use Rattle.world_model.specs.Restarting.{start_restarting}
use Rattle.script_parts.specs.Counts.{is_lossy}
use Rattle.world_model.specs.Keeping.{KeepingNode, keeping_row, start_keeping}
use Rattle.world_model.specs.Coordinator.{start_coordinator}
use Rattle.world_model.specs.Tables.{client_table, coordinator_table, restarting_table}
use Rattle.world_model.specs.Runs.{IsRunOf, after, IsWorldRun, in_flight, keeping_in, coordinator_in, restarting_in, client_in, Says, Moves, AtNode, AtCoordinator, AtRestarting, AtClient, MayFollow, IsStepRun}
use Rattle.world_model.proofs.Gone.{apart_from}
use Rattle.world_model.proofs.Bridge.{reverse_more, postal_less, run_less, node_after, coordinator_after, restarting_after, client_after}
use Rattle.world_model.proofs.Actors.{IsPostalEntry, RowsRun, IsTableRun, table_run}
use Rattle.world_model.specs.Client.{start_client}

find_left_at : (id : LetterId) (x : Letter) (xs ys : List Letter) (l : Letter) (b : Bool) → same_id id x.id ≡ b
    → find_id id (x ∷ xs) ≡ Some l
    → (find_id id xs ≡ Some l → find_id id (xs ++ ys) ≡ Some l) → find_id id (x ∷ xs ++ ys) ≡ Some l
find_left_at id x xs ys l true is at rest = grind arith
find_left_at id x xs ys l false is at rest = grind arith

find_left : (id : LetterId) (xs ys : List Letter) (l : Letter) → find_id id xs ≡ Some l → find_id id (xs ++ ys) ≡ Some l
find_left id [] ys l at = absurd (grind arith)
find_left id (x ∷ xs) ys l at = find_left_at id x xs ys l (same_id id x.id) refl at (find_left id xs ys l)

find_right_at : (id : LetterId) (x : Letter) (xs ys : List Letter) (b : Bool) → same_id id x.id ≡ b → find_id id (x ∷ xs) ≡ None
    → (find_id id xs ≡ None → find_id id (xs ++ ys) ≡ find_id id ys) → find_id id (x ∷ xs ++ ys) ≡ find_id id ys
find_right_at id x xs ys true is none rest = absurd (grind arith)
find_right_at id x xs ys false is none rest = grind arith

find_right : (id : LetterId) (xs ys : List Letter) → find_id id xs ≡ None → find_id id (xs ++ ys) ≡ find_id id ys
find_right id [] ys none = refl
find_right id (x ∷ xs) ys none = find_right_at id x xs ys (same_id id x.id) refl none (find_right id xs ys)

find_dropped_at : (id i : LetterId) (x : Letter) (xs : List Letter) → same_id id i ≡ false → (b : Bool) → same_id i x.id ≡ b
    → find_id id (drop_id i xs) ≡ find_id id xs → find_id id (drop_id i (x ∷ xs)) ≡ find_id id (x ∷ xs)
find_dropped_at id i x xs ne true is rest = let no : same_id id x.id ≡ false = apart_from id i x.id ne is in rw (is, no) refl
find_dropped_at id i x xs ne false is rest = rw is (ap (λ (r : Option Letter). if same_id id x.id then Some x else r) rest)

find_dropped : (id i : LetterId) (xs : List Letter) → same_id id i ≡ false → find_id id (drop_id i xs) ≡ find_id id xs
find_dropped id i [] ne = refl
find_dropped id i (x ∷ xs) ne = find_dropped_at id i x xs ne (same_id i x.id) refl (find_dropped id i xs ne)

none_dropped_at : (id i : LetterId) (x : Letter) (xs : List Letter) (b : Bool) → same_id i x.id ≡ b → (c : Bool) → same_id id x.id ≡ c
    → find_id id (x ∷ xs) ≡ None → (find_id id xs ≡ None → find_id id (drop_id i xs) ≡ None) → find_id id (drop_id i (x ∷ xs)) ≡ None
none_dropped_at id i x xs b is true at none rest = absurd (grind arith)
none_dropped_at id i x xs true is false at none rest = grind arith
none_dropped_at id i x xs false is false at none rest = grind arith

none_dropped : (id i : LetterId) (xs : List Letter) → find_id id xs ≡ None → find_id id (drop_id i xs) ≡ None
none_dropped id i [] none = refl
none_dropped id i (x ∷ xs) none = none_dropped_at id i x xs (same_id i x.id) refl (same_id id x.id) refl none (none_dropped id i xs)

-- a letter in flight is no newer than the last entry
none_newer : (s : ScriptData) (past : List Entry) (id : LetterId) → IsStepRun s past → length past < id.stamp.0
    → find_id id (in_flight s past) ≡ None
none_newer s [] id run lt =
    let no : same_id id (go (client_of s)).id ≡ false = grind (arith, nat_tests) in
    rw no refl
none_newer s (e ∷ past) id run lt =
    let old = none_dropped id e.took.id (in_flight s past) (none_newer s past id run.1 (omega arith)) in
    let is : e.stamp.0 ≡ length past + 1 = run.0.stamp in
    let new = none_sealed id e.stamp.0 e.actor.0 0 e.sent (omega arith) in
    find_right id (drop_id e.took.id (in_flight s past)) (letters_of e) old ∙ new

-- sent by an entry of these, or Go
abbrev pub SentIn : ScriptData → List Entry → Letter → Type 0
SentIn s [] l = l ≡ go (client_of s)
SentIn s (e ∷ past) l = (find_id l.id (letters_of e) ≡ Some l) ⊎ SentIn s past l

-- no entry took one of this id
abbrev pub NotTaken : List Entry → LetterId → Type 0
NotTaken [] id = Unit {0}
NotTaken (e ∷ past) id = (same_id id e.took.id ≡ false) × NotTaken past id

present : (s : ScriptData) (past : List Entry) (l : Letter) → IsStepRun s past → SentIn s past l → NotTaken past l.id
    → find_id l.id (in_flight s past) ≡ Some l
present s [] l run sent free = subst (λ (m : Letter). find_id m.id (go (client_of s) ∷ []) ≡ Some m) (sym sent) refl
present s (e ∷ past) l run (inl here) free =
    let stamp : l.id.stamp.0 ≡ e.stamp.0 = sealed_stamp l.id e.stamp.0 e.actor.0 0 e.sent l here in
    let is : e.stamp.0 ≡ length past + 1 = run.0.stamp in
    let old = none_dropped l.id e.took.id (in_flight s past) (none_newer s past l.id run.1 (omega arith)) in
    find_right l.id (drop_id e.took.id (in_flight s past)) (letters_of e) old ∙ here
present s (e ∷ past) l run (inr older) free =
    find_left l.id (drop_id e.took.id (in_flight s past)) (letters_of e) l
    (find_dropped l.id e.took.id (in_flight s past) free.0 ∙ present s past l run.1 older free.1)

go_sent : (s : ScriptData) (past : List Entry) → SentIn s past (go (client_of s))
go_sent s [] = refl
go_sent s (e ∷ past) = inr (go_sent s past)

sent_at : (s : ScriptData) (past : List Entry) (j : ℕ) (f : Entry) (l : Letter) → slice_get (reverse past) j ≡ Some f
    → find_id l.id (letters_of f) ≡ Some l → SentIn s past l
sent_at s [] j f l at found = absurd (grind arith)
sent_at s (e ∷ past) j f l at found =
    elim (slice_get_split (reverse past) e j f (rw (reverse_more e past) at at)) [
      | inl p ↦ inr (sent_at s past j f l p.1 found)
      | inr p ↦ inl (rw p.1 found)
    ]

id_apart_by : (i j : LetterId) → i ≢ j → (b : Bool) → same_id i j ≡ b → same_id i j ≡ false
id_apart_by i j ne true is = absurd (ne (id_is i j is))
id_apart_by i j ne false is = is

not_taken : (past : List Entry) (id : LetterId) → ((j : ℕ) (f : Entry) → slice_get (reverse past) j ≡ Some f → f.took.id ≢ id)
    → NotTaken past id
not_taken [] id free = tt
not_taken (e ∷ past) id free =
    let last : slice_get (reverse (e ∷ past)) (length (reverse past)) ≡ Some e = rw (reverse_more e past) (slice_get_last (reverse past) e) in
    let ne : id ≢ e.took.id = λ is. free (length (reverse past)) e last (sym is) in (
      id_apart_by id e.took.id ne (same_id id e.took.id) refl,
      not_taken past id (λ j f at. free j f (rw (reverse_more e past) (slice_get_left (reverse past) (e ∷ []) j f at))),
    )

-- from where a letter came, of the last entry
came_from : (s : ScriptData) (e : Entry) (past : List Entry) (k : ℕ)
    → (e.took ≡ go (client_of s)) ⊎ ((j : ℕ) × (f : Entry) × (j < k) × (slice_get (reverse past ++ e ∷ []) j ≡ Some f) × (find_id e.took.id (letters_of f) ≡ Some e.took))
    → k ≡ length (reverse past) → SentIn s past e.took
came_from s e past k (inl is) at = rw is (go_sent s past)
came_from s e past k (inr (j, f, lt, here, found)) at =
    elim (slice_get_split (reverse past) e j f here) [
      | inl p ↦ sent_at s past j f e.took p.1 found
      | inr p ↦ absurd (omega arith)
    ]

-- whose step the last entry is, where it says what its node's row says
pub moves_by : (s : ScriptData) (e : Entry) (past : List Entry)
    → (e.actor.0 < s.nodes → Says (keeping_row s e.actor.0 (keeping_in s past e.actor.0) e.took) e)
    → (is_lossy s ≡ false → IsRunOf coordinator_table (start_coordinator s.nodes) (own s.nodes (reverse (e ∷ past))))
    → (is_lossy s ≡ true → IsRunOf restarting_table (start_restarting s.nodes) (own s.nodes (reverse (e ∷ past))))
    → IsRunOf (client_table s) (start_client s) (own (client_of s) (reverse (e ∷ past)))
    → (e.actor.0 < s.nodes) ⊎ ((e.actor.0 ≡ s.nodes) ⊎ (e.actor.0 ≡ client_of s)) → Moves s past e
moves_by s e past node coordinator restarting client (inl lt) = AtNode lt (node lt)
moves_by s e past node coordinator restarting client (inr (inl at)) = by (is_lossy s) refl where
  by : (loses : Bool) → is_lossy s ≡ loses → Moves s past e
  by false keeps =
      AtCoordinator at keeps
      ((run_less coordinator_table (start_coordinator s.nodes) s.nodes e past (coordinator_in s past) (coordinator_after s past)
      (coordinator keeps)).1 (rw at (same_test s.nodes)))
  by true loses =
      AtRestarting at loses
      ((run_less restarting_table (start_restarting s.nodes) s.nodes e past (restarting_in s past) (restarting_after s past)
      (restarting loses)).1 (rw at (same_test s.nodes)))
moves_by s e past node coordinator restarting client (inr (inr at)) =
    AtClient at ((run_less (client_table s) (start_client s) (client_of s) e past (client_in s past) (client_after s past) client).1 (rw at (same_test (client_of s))))

node_says : (s : ScriptData) (e : Entry) (past : List Entry) → IsTableRun s (reverse (e ∷ past)) → e.actor.0 < s.nodes
    → Says (keeping_row s e.actor.0 (keeping_in s past e.actor.0) e.took) e
node_says s e past world lt =
    (run_less (keeping_row s e.actor.0) (start_keeping s e.actor.0) e.actor.0 e past (keeping_in s past e.actor.0) (node_after s past e.actor.0) (world.nodes e.actor.0 lt)).1
    (same_test e.actor.0)

who : (a n : ℕ) → a < n + 2 → (a < n) ⊎ ((a ≡ n) ⊎ (a ≡ n + 1))
who a n lt = grind arith

-- the letter that the last entry took was in flight
pub waits_of : (s : ScriptData) (e : Entry) (past : List Entry) → IsStepRun s past → IsPostalEntry (client_of s) (reverse (e ∷ past))
    → find_id e.took.id (in_flight s past) ≡ Some e.took
waits_of s e past run postal =
    let last : slice_get (reverse past ++ e ∷ []) (length (reverse past)) ≡ Some e = slice_get_last (reverse past) e in
    let post = rw (reverse_more e past) at postal in
    present s past e.took run (came_from s e past (length (reverse past)) (post.sent (length (reverse past)) e last) refl)
    (not_taken past e.took.id (λ j f at. post.once j (length (reverse past)) f e (slice_get_within (reverse past) j f at) (slice_get_left (reverse past) (e ∷ []) j f at) last))

-- the actor of the last entry
pub who_of : (s : ScriptData) (e : Entry) (past : List Entry) → IsPostalEntry (client_of s) (reverse (e ∷ past))
    → (e.took.to.0 ≡ e.actor.0) × ((e.actor.0 < s.nodes) ⊎ ((e.actor.0 ≡ s.nodes) ⊎ (e.actor.0 ≡ client_of s)))
who_of s e past postal =
    let last : slice_get (reverse past ++ e ∷ []) (length (reverse past)) ≡ Some e = slice_get_last (reverse past) e in
    let post = rw (reverse_more e past) at postal in
    (post.addressee (length (reverse past)) e last, who e.actor.0 s.nodes (omega (arith, post.known (length (reverse past)) e last)))

-- it may come next
pub follows_by : (s : ScriptData) (e : Entry) (past : List Entry) → IsStepRun s past → IsPostalEntry (client_of s) (reverse (e ∷ past))
    → Moves s past e → MayFollow s past e
follows_by s e past run postal moves =
    let last : slice_get (reverse past ++ e ∷ []) (length (reverse past)) ≡ Some e = slice_get_last (reverse past) e in
    let post = rw (reverse_more e past) at postal in
    record {
      stamp = omega (arith, post.stamps (length (reverse past)) e last, length-reverse past);
      waits = waits_of s e past run postal;
      addressee = (who_of s e past postal).0;
      moves = moves;
    }

may_follow : (s : ScriptData) (e : Entry) (past : List Entry) → IsStepRun s past → IsTableRun s (reverse (e ∷ past)) → MayFollow s past e
may_follow s e past run world =
    follows_by s e past run world.postal
    (moves_by s e past (node_says s e past world) world.coordinator world.restarting world.client (who_of s e past world.postal).1)

-- a run by tables without its last entry
pub rows_less : (row : ℕ → KeepingNode → Letter → Out KeepingNode) (s : ScriptData) (e : Entry) (past : List Entry)
    → RowsRun row s (reverse (e ∷ past)) → RowsRun row s (reverse past)
rows_less row s e past world = record {
  postal = postal_less s e (reverse past) (rw (reverse_more e past) at world.postal);
  nodes = λ p lt.
      (run_less (row p) (start_keeping s p) p e past (after (row p) (start_keeping s p) (own p (reverse past))) refl (world.nodes p lt)).0;
  coordinator = λ keeps.
      (run_less coordinator_table (start_coordinator s.nodes) s.nodes e past (coordinator_in s past) (coordinator_after s past)
      (world.coordinator keeps)).0;
  restarting = λ loses.
      (run_less restarting_table (start_restarting s.nodes) s.nodes e past (restarting_in s past) (restarting_after s past)
      (world.restarting loses)).0;
  client = (run_less (client_table s) (start_client s) (client_of s) e past (client_in s past) (client_after s past) world.client).0;
}

step_run : (s : ScriptData) (past : List Entry) → IsTableRun s (reverse past) → IsStepRun s past
step_run s [] world = tt
step_run s (e ∷ past) world =
    let run = step_run s past (rows_less (keeping_row s) s e past world) in
    (may_follow s e past run world, run)

pub steps : (s : ScriptData) (history : List Entry) → IsWorldRun s history → IsStepRun s (reverse history)
steps s history world =
    step_run s (reverse history) (subst (λ h. IsTableRun s h) (sym (reverse-reverse history)) (table_run s history world))
