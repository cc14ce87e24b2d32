-- A history that goes step by step is one whose actors each follow their table; and where an actor's entries lead.
use Rattle.std.proofs.Common.{◌≡◌, ◌≢◌, ◌⊎◌, inl, inr, ℕ, ◌+◌, ◌<◌, ◌==◌, Bool, true, false, List, [], ◌∷◌, ◌++◌, length, refl, ap, sym, ◌∙◌, subst, arith, Some, reverse}
use Rattle.std.specs.Prelude.{if◌then◌else◌, nat_lt, slice_get}
use Rattle.std.proofs.lemmas.Bool.Decides.{nat_tests}
use Rattle.std.proofs.lemmas.List.{length-reverse}
use Rattle.tv_base.proofs.ByPlace.{slice_get_left, slice_get_last, slice_get_split}
use Rattle.letter_types.specs.declared.entries.LetterId.{LetterId}
use Rattle.letter_types.specs.declared.entries.Letter.{Letter}
use Rattle.letter_types.specs.declared.entries.Entry.{Entry}
use Rattle.letter_types.specs.Letters.{go, own, same_id, find_id, drop_id, letters_of}
use Rattle.script_parts.specs.ScriptData.{ScriptData, client_of}
use Rattle.world_model.specs.Restarting.{start_restarting}
use Rattle.script_parts.specs.Counts.{is_lossy}
use Rattle.world_model.specs.Keeping.{keeping_row, start_keeping}
use Rattle.world_model.specs.Coordinator.{start_coordinator}
use Rattle.world_model.specs.Tables.{NodeData, CoordinatorData, RestartingData, ClientData, client_table, coordinator_table, restarting_table}
use Rattle.world_model.specs.Runs.{IsRunOf, after, actor_after, IsWorldRun, in_flight, keeping_in, coordinator_in, restarting_in, coordination_in, client_in, actor_in, Says, Moves, AtNode, AtCoordinator, AtRestarting, AtClient, MayFollow, IsStepRun}
use Rattle.world_model.specs.Counts.{tally, one_if}
use Rattle.world_model.proofs.Bags.{tally-drop}
use Rattle.world_model.proofs.Bridge.{reverse_more, own_more, node_after, coordinator_after, restarting_after, client_after}
use Rattle.world_model.proofs.Actors.{IsTableRun, world_of_tables, node_data_after, coordinator_data_after, restarting_data_after, client_data_after}
use Rattle.world_model.proofs.Gone.{apart_from, of_id, found_one, Gone, gone_now, gone}
use Rattle.letter_types.specs.Steps.{Out}
use Rattle.letter_types.proofs.Ids.{same_id-self, id_is}
use Rattle.world_model.specs.Client.{start_client}

-- where a letter in flight comes from
abbrev Came : ScriptData → List Entry → Letter → Type 0
Came s h l =
    (l ≡ go (client_of s)) ⊎ ((j : ℕ) × (f : Entry) × (j < length h) × (slice_get h j ≡ Some f) × (find_id l.id (letters_of f) ≡ Some l))

find_either_at : (id : LetterId) (x : Letter) (xs ys : List Letter) (l : Letter) (b : Bool) → same_id id x.id ≡ b
    → find_id id (x ∷ xs ++ ys) ≡ Some l
    → (find_id id (xs ++ ys) ≡ Some l → (find_id id xs ≡ Some l) ⊎ (find_id id ys ≡ Some l))
    → (find_id id (x ∷ xs) ≡ Some l) ⊎ (find_id id ys ≡ Some l)
find_either_at id x xs ys l true is at rest = inl (rw is (rw is at at))
find_either_at id x xs ys l false is at rest = rw is (rest (rw is at at))

find_either : (id : LetterId) (xs ys : List Letter) (l : Letter) → find_id id (xs ++ ys) ≡ Some l
    → (find_id id xs ≡ Some l) ⊎ (find_id id ys ≡ Some l)
find_either id [] ys l at = inr at
find_either id (x ∷ xs) ys l at = find_either_at id x xs ys l (same_id id x.id) refl at (find_either id xs ys l)

left_kept_at : (id i : LetterId) (x : Letter) (xs : List Letter) (l : Letter) (b : Bool) → same_id id x.id ≡ b
    → find_id id (x ∷ drop_id i xs) ≡ Some l
    → (find_id id (drop_id i xs) ≡ Some l → find_id id xs ≡ Some l) → find_id id (x ∷ xs) ≡ Some l
left_kept_at id i x xs l true is at rest = rw is (rw is at at)
left_kept_at id i x xs l false is at rest = rw is (rest (rw is at at))

left_over_at : (id i : LetterId) (x : Letter) (xs : List Letter) (l : Letter) → same_id id i ≡ false → (b : Bool) → same_id i x.id ≡ b
    → find_id id (drop_id i (x ∷ xs)) ≡ Some l
    → (find_id id (drop_id i xs) ≡ Some l → find_id id xs ≡ Some l) → find_id id (x ∷ xs) ≡ Some l
left_over_at id i x xs l ne true is at rest = let other = apart_from id i x.id ne is in rw other (rw is at at)
left_over_at id i x xs l ne false is at rest = left_kept_at id i x xs l (same_id id x.id) refl (rw is at at) rest

-- a letter that is left was there (its id is there once)
find_left_over : (id i : LetterId) (xs : List Letter) (l : Letter) → find_id id (drop_id i xs) ≡ Some l → same_id id i ≡ false
    → find_id id xs ≡ Some l
find_left_over id i [] l at ne = at
find_left_over id i (x ∷ xs) l at ne = left_over_at id i x xs l ne (same_id i x.id) refl at (λ rest. find_left_over id i xs l rest ne)

came_more : (s : ScriptData) (e : Entry) (past : List Entry) (l : Letter) → Came s (reverse past) l → Came s (reverse (e ∷ past)) l
came_more s e past l (inl is) = inl is
came_more s e past l (inr (j, f, lt, at, found)) =
    inr (j, f, omega (arith, length-reverse past, length-reverse (e ∷ past)), rw (reverse_more e past) (slice_get_left (reverse past) (e ∷ []) j f at), found)

came_new : (s : ScriptData) (e : Entry) (past : List Entry) (l : Letter) → find_id l.id (letters_of e) ≡ Some l
    → Came s (reverse (e ∷ past)) l
came_new s e past l found =
    inr (length (reverse past), e, omega (arith, length-reverse past, length-reverse (e ∷ past)), rw (reverse_more e past) (slice_get_last (reverse past) e), found)

go_only : (s : ScriptData) (l : Letter) (b : Bool) → same_id l.id (go (client_of s)).id ≡ b → find_id l.id (go (client_of s) ∷ []) ≡ Some l
    → l ≡ go (client_of s)
go_only s l true is at = let eq : go (client_of s) ≡ l = grind arith in sym eq
go_only s l false is at = absurd (grind arith)

-- what waits after an entry isn't what it took
not_the_taken : (s : ScriptData) (past : List Entry) (e : Entry) (l : Letter) → IsStepRun s (e ∷ past)
    → find_id l.id (in_flight s (e ∷ past)) ≡ Some l → (b : Bool) → same_id l.id e.took.id ≡ b → same_id l.id e.took.id ≡ false
not_the_taken s past e l run at false is = is
not_the_taken s past e l run at true is =
    let none : tally (of_id l.id) (in_flight s (e ∷ past)) ≡ 0 = subst (λ (i : LetterId). tally (of_id i) (in_flight s (e ∷ past)) ≡ 0) (sym (id_is l.id e.took.id is)) (gone_now s past e run).1 in
    let one : of_id l.id l ≡ 1 = ap one_if (found_one l.id (in_flight s (e ∷ past)) l at) in
    absurd (omega (arith, tally-drop (of_id l.id) l.id (in_flight s (e ∷ past)) l at))

came : (s : ScriptData) (past : List Entry) (l : Letter) → IsStepRun s past → find_id l.id (in_flight s past) ≡ Some l → Came s (reverse past) l
came s [] l run at = inl (go_only s l (same_id l.id (go (client_of s)).id) refl at)
came s (e ∷ past) l run at =
    elim (find_either l.id (drop_id e.took.id (in_flight s past)) (letters_of e) l at) [
      | inl old ↦ came_more s e past l (came s past l run.1 (find_left_over l.id e.took.id (in_flight s past) l old (not_the_taken s past e l run at (same_id l.id e.took.id) refl)))
      | inr new ↦ came_new s e past l new
    ]

-- postal
stamps_of : (s : ScriptData) (past : List Entry) (k : ℕ) (f : Entry) → IsStepRun s past → slice_get (reverse past) k ≡ Some f
    → f.stamp.0 ≡ k + 1
stamps_of s [] k f run at = absurd (grind arith)
stamps_of s (e ∷ past) k f run at =
    elim (slice_get_split (reverse past) e k f (rw (reverse_more e past) at at)) [
      | inl p ↦ stamps_of s past k f run.1 p.1
      | inr p ↦ subst (λ (x : Entry). x.stamp.0 ≡ k + 1) p.1 (omega (arith, run.0.stamp, p.0, length-reverse past))
    ]

actor_below : (s : ScriptData) (past : List Entry) (e : Entry) → Moves s past e → e.actor.0 < client_of s + 1
actor_below s past e (AtNode node says) = omega arith
actor_below s past e (AtCoordinator at keeps says) = omega arith
actor_below s past e (AtRestarting at loses says) = omega arith
actor_below s past e (AtClient at says) = omega arith

addressed : (s : ScriptData) (past : List Entry) (k : ℕ) (f : Entry) → IsStepRun s past → slice_get (reverse past) k ≡ Some f
    → (f.took.to.0 ≡ f.actor.0) × (f.actor.0 < client_of s + 1)
addressed s [] k f run at = absurd (grind arith)
addressed s (e ∷ past) k f run at =
    elim (slice_get_split (reverse past) e k f (rw (reverse_more e past) at at)) [
      | inl p ↦ addressed s past k f run.1 p.1
      | inr p ↦ subst (λ (x : Entry). (x.took.to.0 ≡ x.actor.0) × (x.actor.0 < client_of s + 1)) p.1 (run.0.addressee, actor_below s past e run.0.moves)
    ]

abbrev SentBefore : ScriptData → List Entry → ℕ → Entry → Type 0
SentBefore s h k e =
    (e.took ≡ go (client_of s)) ⊎ ((j : ℕ) × (f : Entry) × (j < k) × (slice_get h j ≡ Some f) × (find_id e.took.id (letters_of f) ≡ Some e.took))

before_more : (s : ScriptData) (h : List Entry) (e : Entry) (k : ℕ) (f : Entry) → SentBefore s h k f → SentBefore s (h ++ e ∷ []) k f
before_more s h e k f (inl is) = inl is
before_more s h e k f (inr (j, g, lt, at, found)) = inr (j, g, lt, slice_get_left h (e ∷ []) j g at, found)

before_last : (s : ScriptData) (h : List Entry) (e : Entry) (k : ℕ) → k ≡ length h → Came s h e.took → SentBefore s (h ++ e ∷ []) k e
before_last s h e k at (inl is) = inl is
before_last s h e k at (inr (j, g, lt, here, found)) = inr (j, g, omega arith, slice_get_left h (e ∷ []) j g here, found)

sent_before : (s : ScriptData) (past : List Entry) (k : ℕ) (f : Entry) → IsStepRun s past → slice_get (reverse past) k ≡ Some f
    → SentBefore s (reverse past) k f
sent_before s [] k f run at = absurd (grind arith)
sent_before s (e ∷ past) k f run at =
    rw (reverse_more e past) (elim (slice_get_split (reverse past) e k f (rw (reverse_more e past) at at)) [
      | inl p ↦ before_more s (reverse past) e k f (sent_before s past k f run.1 p.1)
      | inr p ↦ subst (λ (x : Entry). SentBefore s (reverse past ++ e ∷ []) k x) p.1 (before_last s (reverse past) e k p.0 (came s past e.took run.1 run.0.waits))
    ])

-- a letter that is found isn't gone
gone_apart : (s : ScriptData) (past : List Entry) (id : LetterId) (e : Entry) → MayFollow s past e → Gone s past id → id ≢ e.took.id
gone_apart s past id e m g = λ same.
    let none : tally (of_id e.took.id) (in_flight s past) ≡ 0 = subst (λ (i : LetterId). tally (of_id i) (in_flight s past) ≡ 0) same g.1 in
    let one : of_id e.took.id e.took ≡ 1 = ap one_if (same_id-self e.took.id) in
    omega (arith, tally-drop (of_id e.took.id) e.took.id (in_flight s past) e.took m.waits)

once_by : (s : ScriptData) (past : List Entry) (e : Entry) (j k : ℕ) (f g : Entry) → IsStepRun s (e ∷ past) → j < k
    → ((j < length (reverse past)) × (slice_get (reverse past) j ≡ Some f)) ⊎ ((j ≡ length (reverse past)) × (e ≡ f))
    → ((k < length (reverse past)) × (slice_get (reverse past) k ≡ Some g)) ⊎ ((k ≡ length (reverse past)) × (e ≡ g))
    → (slice_get (reverse past) j ≡ Some f → slice_get (reverse past) k ≡ Some g → f.took.id ≢ g.took.id) → f.took.id ≢ g.took.id
once_by s past e j k f g run lt (inl a) (inl b) rest = rest a.1 b.1
once_by s past e j k f g run lt (inl a) (inr b) rest =
    subst (λ (x : Entry). f.took.id ≢ x.took.id) b.1 (gone_apart s past f.took.id e run.0 (gone s past j f run.1 a.1))
once_by s past e j k f g run lt (inr a) (inl b) rest = absurd (omega arith)
once_by s past e j k f g run lt (inr a) (inr b) rest = absurd (omega arith)

taken_once : (s : ScriptData) (past : List Entry) (j k : ℕ) (f g : Entry) → IsStepRun s past → j < k → slice_get (reverse past) j ≡ Some f
    → slice_get (reverse past) k ≡ Some g → f.took.id ≢ g.took.id
taken_once s [] j k f g run lt a b = absurd (grind arith)
taken_once s (e ∷ past) j k f g run lt a b =
    once_by s past e j k f g run lt (slice_get_split (reverse past) e j f (rw (reverse_more e past) at a)) (slice_get_split (reverse past) e k g (rw (reverse_more e past) at b)) (taken_once s past j k f g run.1 lt)

run_join : {St : Type 0} (row : St → Letter → Out St) (st : St) (es fs : List Entry) → IsRunOf row st es → IsRunOf row (after row st es) fs
    → IsRunOf row st (es ++ fs)
run_join row st [] fs a b = b
run_join row st (e ∷ es) fs a b = (a.0, a.1, run_join row (row st e.took).state es fs a.2 b)

one_run : {St : Type 0} (row : St → Letter → Out St) (st : St) (e : Entry) (b : Bool) → (b ≡ true → Says (row st e.took) e)
    → IsRunOf row st (if b then e ∷ [] else [])
one_run row st e true says = let p = says refl in (p.0, p.1, tt)
one_run row st e false says = tt

pub run_more : {St : Type 0} (row : St → Letter → Out St) (first : St) (a : ℕ) (e : Entry) (past : List Entry) (st : St)
    → after row first (own a (reverse past)) ≡ st
    → IsRunOf row first (own a (reverse past)) → ((e.actor.0 == a) ≡ true → Says (row st e.took) e)
    → IsRunOf row first (own a (reverse (e ∷ past)))
run_more row first a e past st is run says =
    rw (own_more a e past) (run_join row first (own a (reverse past)) (if e.actor.0 == a then e ∷ [] else []) run (rw is (one_run row st e (e.actor.0 == a) says)))

pub says_node : (s : ScriptData) (past : List Entry) (e : Entry) (p : ℕ) → Moves s past e → p < s.nodes → (e.actor.0 == p) ≡ true
    → Says (keeping_row s p (keeping_in s past p) e.took) e
says_node s past e p (AtNode node says) lt is =
    let eq : e.actor.0 ≡ p = grind (arith, nat_tests) in subst (λ (n : ℕ). Says (keeping_row s n (keeping_in s past n) e.took) e) eq says
says_node s past e p (AtCoordinator at keeps says) lt is = let eq : e.actor.0 ≡ p = grind (arith, nat_tests) in absurd (omega arith)
says_node s past e p (AtRestarting at loses says) lt is = let eq : e.actor.0 ≡ p = grind (arith, nat_tests) in absurd (omega arith)
says_node s past e p (AtClient at says) lt is = let eq : e.actor.0 ≡ p = grind (arith, nat_tests) in absurd (omega arith)

says_coordinator : (s : ScriptData) (past : List Entry) (e : Entry) → Moves s past e → is_lossy s ≡ false → (e.actor.0 == s.nodes) ≡ true
    → Says (coordinator_table (coordinator_in s past) e.took) e
says_coordinator s past e (AtNode node says) keeps is = let eq : e.actor.0 ≡ s.nodes = grind (arith, nat_tests) in absurd (omega arith)
says_coordinator s past e (AtCoordinator at kept says) keeps is = says
says_coordinator s past e (AtRestarting at loses says) keeps is = absurd (cc (loses, keeps))
says_coordinator s past e (AtClient at says) keeps is = let eq : e.actor.0 ≡ s.nodes = grind (arith, nat_tests) in absurd (omega arith)

says_restarting : (s : ScriptData) (past : List Entry) (e : Entry) → Moves s past e → is_lossy s ≡ true → (e.actor.0 == s.nodes) ≡ true
    → Says (restarting_table (restarting_in s past) e.took) e
says_restarting s past e (AtNode node says) loses is = let eq : e.actor.0 ≡ s.nodes = grind (arith, nat_tests) in absurd (omega arith)
says_restarting s past e (AtCoordinator at keeps says) loses is = absurd (cc (loses, keeps))
says_restarting s past e (AtRestarting at lost says) loses is = says
says_restarting s past e (AtClient at says) loses is = let eq : e.actor.0 ≡ s.nodes = grind (arith, nat_tests) in absurd (omega arith)

says_client : (s : ScriptData) (past : List Entry) (e : Entry) → Moves s past e → (e.actor.0 == client_of s) ≡ true
    → Says (client_table s (client_in s past) e.took) e
says_client s past e (AtNode node says) is = let eq : e.actor.0 ≡ client_of s = grind (arith, nat_tests) in absurd (omega arith)
says_client s past e (AtCoordinator at keeps says) is = let eq : e.actor.0 ≡ client_of s = grind (arith, nat_tests) in absurd (omega arith)
says_client s past e (AtRestarting at loses says) is = let eq : e.actor.0 ≡ client_of s = grind (arith, nat_tests) in absurd (omega arith)
says_client s past e (AtClient at says) is = says

node_runs : (s : ScriptData) (past : List Entry) (p : ℕ) → p < s.nodes → IsStepRun s past
    → IsRunOf (keeping_row s p) (start_keeping s p) (own p (reverse past))
node_runs s [] p lt run = tt
node_runs s (e ∷ past) p lt run =
    run_more (keeping_row s p) (start_keeping s p) p e past (keeping_in s past p) (node_after s past p) (node_runs s past p lt run.1) (says_node s past e p run.0.moves lt)

coordinator_runs : (s : ScriptData) (past : List Entry) → is_lossy s ≡ false → IsStepRun s past
    → IsRunOf coordinator_table (start_coordinator s.nodes) (own s.nodes (reverse past))
coordinator_runs s [] keeps run = tt
coordinator_runs s (e ∷ past) keeps run =
    run_more coordinator_table (start_coordinator s.nodes) s.nodes e past (coordinator_in s past) (coordinator_after s past)
    (coordinator_runs s past keeps run.1) (says_coordinator s past e run.0.moves keeps)

restarting_runs : (s : ScriptData) (past : List Entry) → is_lossy s ≡ true → IsStepRun s past
    → IsRunOf restarting_table (start_restarting s.nodes) (own s.nodes (reverse past))
restarting_runs s [] loses run = tt
restarting_runs s (e ∷ past) loses run =
    run_more restarting_table (start_restarting s.nodes) s.nodes e past (restarting_in s past) (restarting_after s past)
    (restarting_runs s past loses run.1) (says_restarting s past e run.0.moves loses)

client_runs : (s : ScriptData) (past : List Entry) → IsStepRun s past
    → IsRunOf (client_table s) (start_client s) (own (client_of s) (reverse past))
client_runs s [] run = tt
client_runs s (e ∷ past) run =
    run_more (client_table s) (start_client s) (client_of s) e past (client_in s past) (client_after s past) (client_runs s past run.1) (says_client s past e run.0.moves)

pub table_run_of : (s : ScriptData) (past : List Entry) → IsStepRun s past → IsTableRun s (reverse past)
table_run_of s past run = record {
  postal = record {
    stamps = λ k e at. stamps_of s past k e run at;
    sent = λ k e at. sent_before s past k e run at;
    once = λ j k e f lt a b. taken_once s past j k e f run lt a b;
    addressee = λ k e at. (addressed s past k e run at).0;
    known = λ k e at. (addressed s past k e run at).1;
  };
  nodes = λ p lt. node_runs s past p lt run;
  coordinator = λ keeps. coordinator_runs s past keeps run;
  restarting = λ loses. restarting_runs s past loses run;
  client = client_runs s past run;
}

pub world_run : (s : ScriptData) (past : List Entry) → IsStepRun s past → IsWorldRun s (reverse past)
world_run s past run = world_of_tables s (reverse past) (table_run_of s past run)

-- The state to which an actor's own entries lead is the one after the past.
pub node_leads : (s : ScriptData) (past : List Entry) (p : ℕ) → p < s.nodes → actor_after s (reverse past) p ≡ NodeData (keeping_in s past p)
node_leads s past p lt = node_data_after s p (own p (reverse past)) lt ∙ ap NodeData (node_after s past p)

pub coordinator_leads : (s : ScriptData) (past : List Entry) → is_lossy s ≡ false
    → actor_after s (reverse past) s.nodes ≡ CoordinatorData (coordinator_in s past)
coordinator_leads s past keeps = coordinator_data_after s (own s.nodes (reverse past)) keeps ∙ ap CoordinatorData (coordinator_after s past)

pub restarting_leads : (s : ScriptData) (past : List Entry) → is_lossy s ≡ true
    → actor_after s (reverse past) s.nodes ≡ RestartingData (restarting_in s past)
restarting_leads s past loses = restarting_data_after s (own s.nodes (reverse past)) loses ∙ ap RestartingData (restarting_after s past)

coordination_leads : (s : ScriptData) (past : List Entry) → actor_after s (reverse past) s.nodes ≡ coordination_in s past
coordination_leads s past = by (is_lossy s) refl where
  by : (loses : Bool) → is_lossy s ≡ loses
      → actor_after s (reverse past) s.nodes ≡ (if loses then RestartingData (restarting_in s past) else CoordinatorData (coordinator_in s past))
  by false keeps = coordinator_leads s past keeps
  by true loses = restarting_leads s past loses

pub client_leads : (s : ScriptData) (past : List Entry) → actor_after s (reverse past) (client_of s) ≡ ClientData (client_in s past)
client_leads s past = client_data_after s (own (client_of s) (reverse past)) ∙ ap ClientData (client_after s past)

-- which actor it is
is_node : (s : ScriptData) (past : List Entry) (a : ℕ) → nat_lt a s.nodes ≡ true → actor_in s past a ≡ NodeData (keeping_in s past a)
is_node s past a is = rw is refl

is_coordinator : (s : ScriptData) (past : List Entry) (a : ℕ) → nat_lt a s.nodes ≡ false → (a == s.nodes) ≡ true
    → actor_in s past a ≡ coordination_in s past
is_coordinator s past a is at = rw (is, at) refl

is_client : (s : ScriptData) (past : List Entry) (a : ℕ) → nat_lt a s.nodes ≡ false → (a == s.nodes) ≡ false
    → actor_in s past a ≡ ClientData (client_in s past)
is_client s past a is at = rw (is, at) refl

leads_by : (s : ScriptData) (past : List Entry) (a : ℕ) (b c : Bool) → nat_lt a s.nodes ≡ b → (a == s.nodes) ≡ c
    → a < s.nodes + 2 → actor_in s past a ≡ actor_after s (reverse past) a
leads_by s past a true c is at lt = is_node s past a is ∙ sym (node_leads s past a (grind (arith, nat_tests)))
leads_by s past a false true is at lt =
    let eq : a ≡ s.nodes = grind (arith, nat_tests) in
    is_coordinator s past a is at ∙ sym (coordination_leads s past) ∙ ap (actor_after s (reverse past)) (sym eq)
leads_by s past a false false is at lt =
    let eq : a ≡ client_of s = grind (arith, nat_tests) in
    is_client s past a is at ∙ sym (client_leads s past) ∙ ap (actor_after s (reverse past)) (sym eq)

-- an actor's own entries lead to what it is after the past
pub actor_leads : (s : ScriptData) (past : List Entry) (a : ℕ) → a < s.nodes + 2 → actor_in s past a ≡ actor_after s (reverse past) a
actor_leads s past a lt = leads_by s past a (nat_lt a s.nodes) (a == s.nodes) refl refl lt
