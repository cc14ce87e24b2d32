-- A history whose actors each follow their table is one that goes step by step.
use Rattle.std.proofs.Common.{◌≡◌, ◌⊎◌, inl, inr, ℕ, ◌<◌, ◌==◌, Bool, true, false, List, [], ◌∷◌, ◌++◌, length, refl, subst, arith, Some, reverse}
use Rattle.std.specs.Prelude.{if◌then◌else◌, slice_get}
use Rattle.std.proofs.lemmas.List.{reverse-append}
use Rattle.std.proofs.lemmas.List.Elements.{filter-append}
use Rattle.std.proofs.lemmas.Option.{slice_get_within}
use Rattle.tv_base.proofs.ByPlace.{slice_get_left, slice_get_split}
use Rattle.letter_types.specs.declared.entries.Letter.{Letter}
use Rattle.letter_types.specs.declared.entries.Entry.{Entry}
use Rattle.letter_types.specs.Letters.{go, own, find_id, letters_of}
use Rattle.script_parts.specs.ScriptData.{ScriptData, client_of}
use Rattle.world_model.specs.Restarting.{start_restarting}
use Rattle.world_model.specs.Keeping.{keeping_row, start_keeping}
use Rattle.world_model.specs.Coordinator.{start_coordinator}
use Rattle.world_model.specs.Tables.{client_table, coordinator_table, restarting_table}
use Rattle.world_model.specs.Runs.{IsRunOf, after, keeping_in, coordinator_in, restarting_in, client_in, Says}
use Rattle.world_model.proofs.Actors.{IsPostalEntry}
use Rattle.letter_types.specs.Steps.{Out}
use Rattle.world_model.specs.Client.{start_client}

pub reverse_more : (e : Entry) (past : List Entry) → reverse (e ∷ past) ≡ reverse past ++ e ∷ []
reverse_more e past = reverse-append (e ∷ []) past

run_split : {St : Type 0} (row : St → Letter → Out St) (st : St) (es fs : List Entry) → IsRunOf row st (es ++ fs)
    → IsRunOf row st es × IsRunOf row (after row st es) fs
run_split row st [] fs run = (tt, run)
run_split row st (e ∷ es) fs run =
    let rest = run_split row (row st e.took).state es fs run.2 in
    ((run.0, run.1, rest.0), rest.1)

after_append : {St : Type 0} (row : St → Letter → Out St) (st : St) (es fs : List Entry)
    → after row st (es ++ fs) ≡ after row (after row st es) fs
after_append row st [] fs = refl
after_append row st (e ∷ es) fs = after_append row (row st e.took).state es fs

pub own_more : (a : ℕ) (e : Entry) (past : List Entry)
    → own a (reverse (e ∷ past)) ≡ own a (reverse past) ++ (if e.actor.0 == a then e ∷ [] else [])
own_more a e past = rw (reverse_more e past) (filter-append (λ (x : Entry). x.actor.0 == a) (reverse past) (e ∷ []))

one_after : {St : Type 0} (row : St → Letter → Out St) (st : St) (e : Entry) (b : Bool)
    → after row st (if b then e ∷ [] else []) ≡ (if b then (row st e.took).state else st)
one_after row st e true = refl
one_after row st e false = refl

-- the state after an actor's own entries, with one entry more
pub state_more : {St : Type 0} (row : St → Letter → Out St) (first : St) (a : ℕ) (e : Entry) (past : List Entry) (st : St)
    → after row first (own a (reverse past)) ≡ st
    → after row first (own a (reverse (e ∷ past))) ≡ (if e.actor.0 == a then (row st e.took).state else st)
state_more row first a e past st is =
    rw (own_more a e past, after_append row first (own a (reverse past)) (if e.actor.0 == a then e ∷ [] else []), is) (one_after row st e (e.actor.0 == a))

pub node_after : (s : ScriptData) (past : List Entry) (p : ℕ)
    → after (keeping_row s p) (start_keeping s p) (own p (reverse past)) ≡ keeping_in s past p
node_after s [] p = refl
node_after s (e ∷ past) p = state_more (keeping_row s p) (start_keeping s p) p e past (keeping_in s past p) (node_after s past p)

pub coordinator_after : (s : ScriptData) (past : List Entry)
    → after coordinator_table (start_coordinator s.nodes) (own s.nodes (reverse past)) ≡ coordinator_in s past
coordinator_after s [] = refl
coordinator_after s (e ∷ past) =
    state_more coordinator_table (start_coordinator s.nodes) s.nodes e past (coordinator_in s past) (coordinator_after s past)

pub restarting_after : (s : ScriptData) (past : List Entry)
    → after restarting_table (start_restarting s.nodes) (own s.nodes (reverse past)) ≡ restarting_in s past
restarting_after s [] = refl
restarting_after s (e ∷ past) =
    state_more restarting_table (start_restarting s.nodes) s.nodes e past (restarting_in s past) (restarting_after s past)

pub client_after : (s : ScriptData) (past : List Entry)
    → after (client_table s) (start_client s) (own (client_of s) (reverse past)) ≡ client_in s past
client_after s [] = refl
client_after s (e ∷ past) = state_more (client_table s) (start_client s) (client_of s) e past (client_in s past) (client_after s past)

-- an actor's run with one entry more is one before it, and the entry says what the table says
pub run_less : {St : Type 0} (row : St → Letter → Out St) (first : St) (a : ℕ) (e : Entry) (past : List Entry) (st : St)
    → after row first (own a (reverse past)) ≡ st
    → IsRunOf row first (own a (reverse (e ∷ past)))
    → IsRunOf row first (own a (reverse past)) × ((e.actor.0 == a) ≡ true → Says (row st e.took) e)
run_less row first a e past st is run =
    let parts = run_split row first (own a (reverse past)) (if e.actor.0 == a then e ∷ [] else []) (rw (own_more a e past) at run) in
    let last : IsRunOf row st (if e.actor.0 == a then e ∷ [] else []) = subst (λ x. IsRunOf row x (if e.actor.0 == a then e ∷ [] else [])) is parts.1 in
    (parts.0, λ here. let one = rw here at last in (one.0, one.1))

-- what was sent before a place is in any list that is as long
sent_less : (s : ScriptData) (e : Entry) (h : List Entry) (k : ℕ) (f : Entry) → k < length h
    → (f.took ≡ go (client_of s)) ⊎ ((j : ℕ) × (g : Entry) × (j < k) × (slice_get (h ++ e ∷ []) j ≡ Some g) × (find_id f.took.id (letters_of g) ≡ Some f.took))
    → (f.took ≡ go (client_of s)) ⊎ ((j : ℕ) × (g : Entry) × (j < k) × (slice_get h j ≡ Some g) × (find_id f.took.id (letters_of g) ≡ Some f.took))
sent_less s e h k f lt (inl is) = inl is
sent_less s e h k f lt (inr (j, g, jk, at, found)) =
    elim (slice_get_split h e j g at) [ inl p ↦ inr (j, g, jk, p.1, found) | inr p ↦ absurd (omega arith) ]

-- postal, one entry less
pub postal_less : (s : ScriptData) (e : Entry) (h : List Entry) → IsPostalEntry (client_of s) (h ++ e ∷ []) → IsPostalEntry (client_of s) h
postal_less s e h post = record {
  stamps = λ k f at. post.stamps k f (slice_get_left h (e ∷ []) k f at);
  sent = λ k f at. sent_less s e h k f (slice_get_within h k f at) (post.sent k f (slice_get_left h (e ∷ []) k f at));
  once = λ j k f g lt at at'. post.once j k f g lt (slice_get_left h (e ∷ []) j f at) (slice_get_left h (e ∷ []) k g at');
  addressee = λ k f at. post.addressee k f (slice_get_left h (e ∷ []) k f at);
  known = λ k f at. post.known k f (slice_get_left h (e ∷ []) k f at);
}
