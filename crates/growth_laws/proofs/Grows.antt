-- Entry by entry, a run of a script is a run of one with more transactions and rows, as long as the client has rows
-- left.
use Rattle.std.proofs.Common.{◌≡◌, ℕ, ◌<◌, ◌==◌, ◌∙◌, Bool, true, false, List, [], ◌∷◌, length, replicate, refl, sym, ap, subst, arith}
use Rattle.std.specs.Prelude.{if◌then◌else◌}
use Rattle.std.proofs.lemmas.List.{length-append, replicate-append-replicate}
use Rattle.std.proofs.lemmas.Bool.Decides.{nat_tests}
use Rattle.letter_types.specs.declared.entries.Entry.{Entry}
use Rattle.letter_types.specs.Steps.{Out}
use Rattle.script_parts.specs.ScriptData.{ScriptData, client_of}
use Rattle.script_parts.specs.Valid.{IsValid}
use Rattle.world_model.specs.Client.{Client}
use Rattle.world_model.specs.Coordinator.{Coordinator}
use Rattle.world_model.specs.Keeping.{KeepingNode, keeping_row}
use Rattle.world_model.specs.Restarting.{Restarting}
use Rattle.world_model.specs.Runs.{AtClient, AtCoordinator, AtNode, AtRestarting, IsStepRun, MayFollow, Moves, Says, client_in, coordinator_in, keeping_in, restarting_in}
use Rattle.world_model.specs.Tables.{client_table, coordinator_table, restarting_table}
use Rattle.world_model.proofs.Meant.{took_meant}
use Rattle.world_model.proofs.Clients.{answered_places}
use Rattle.growth_laws.specs.Growth.{HasRowsLeft, with_places}
use Rattle.growth_laws.proofs.More.{More, with_more}
use Rattle.growth_laws.proofs.Client.{client_same, goes_on, out_with_places}
use Rattle.growth_laws.proofs.Nodes.{brings_known, keeping_same}
use Rattle.growth_laws.proofs.Rows.{known}

-- the actors of the grown script are those of the script, and its client has more places
pub record AreSame (s : ScriptData) (m : More s) (past : List Entry) : Type 0 where
  pub nodes : (p : ℕ) → p < s.nodes → keeping_in (with_more s m) past p ≡ keeping_in s past p
  pub client : client_in (with_more s m) past ≡ with_places (length m.trees) (client_in s past)

-- The coordinators look at the number of nodes alone.
pub coordinators_same : (s : ScriptData) (m : More s) (past : List Entry) → coordinator_in (with_more s m) past ≡ coordinator_in s past
coordinators_same s m [] = refl
coordinators_same s m (e ∷ past) =
    ap (λ (c : Coordinator). if e.actor.0 == s.nodes then (coordinator_table c e.took).state else c) (coordinators_same s m past)

pub restartings_same : (s : ScriptData) (m : More s) (past : List Entry) → restarting_in (with_more s m) past ≡ restarting_in s past
restartings_same s m [] = refl
restartings_same s m (e ∷ past) =
    ap (λ (c : Restarting). if e.actor.0 == s.nodes then (restarting_table c e.took).state else c) (restartings_same s m past)

-- A client's step leaves a row before it as well as after it.
left_by : (s : ScriptData) (past : List Entry) (e : Entry) (test : Bool)
    → (if test then (client_table s (client_in s past) e.took).state else client_in s past).next < length s.rows → HasRowsLeft s past
left_by s past e true left = let le = goes_on s (client_in s past) e.took.body in omega (arith, le, left)
left_by s past e false left = left

left_before : (s : ScriptData) (past : List Entry) (e : Entry) → HasRowsLeft s (e ∷ past) → HasRowsLeft s past
left_before s past e left = left_by s past e (e.actor.0 == client_of s) left

-- The client's own step.
client_step : (s : ScriptData) (m : More s) (past : List Entry) (e : Entry) → IsValid s → IsStepRun s (e ∷ past) → AreSame s m past
    → HasRowsLeft s past → (client_table s (client_in s past) e.took).state.next < length s.rows
    → client_table (with_more s m) (client_in (with_more s m) past) e.took
    ≡ out_with_places (length m.trees) (client_table s (client_in s past) e.took)
client_step s m past e valid run same before left =
    ap (λ (c : Client). client_table (with_more s m) c e.took) same.client
    ∙ client_same s m (client_in s past) e.took.body valid (known s e.took.from.0 e.took.to.0 e.took.body (took_meant s past e valid run))
    (answered_places s past) (omega (arith, before)) left

-- A node's own step.
node_step : (s : ScriptData) (m : More s) (past : List Entry) (e : Entry) → IsValid s → IsStepRun s (e ∷ past) → AreSame s m past
    → e.actor.0 < s.nodes
    → keeping_row (with_more s m) e.actor.0 (keeping_in (with_more s m) past e.actor.0) e.took
    ≡ keeping_row s e.actor.0 (keeping_in s past e.actor.0) e.took
node_step s m past e valid run same lt =
    ap (λ (n : KeepingNode). keeping_row (with_more s m) e.actor.0 n e.took) (same.nodes e.actor.0 lt)
    ∙ keeping_same s m e.actor.0 (keeping_in s past e.actor.0) e.took (brings_known s past e valid run lt)

-- The states after an entry.
node_after : (s : ScriptData) (m : More s) (past : List Entry) (e : Entry) (p : ℕ) (test : Bool) → IsValid s → IsStepRun s (e ∷ past)
    → AreSame s m past → p < s.nodes → (e.actor.0 == p) ≡ test
    → (if test then (keeping_row (with_more s m) p (keeping_in (with_more s m) past p) e.took).state else keeping_in (with_more s m) past p)
    ≡ (if test then (keeping_row s p (keeping_in s past p) e.took).state else keeping_in s past p)
node_after s m past e p true valid run same lt is =
    let here : e.actor.0 ≡ p = grind (arith, nat_tests) in
    let step : keeping_row (with_more s m) e.actor.0 (keeping_in (with_more s m) past e.actor.0) e.took
    ≡ keeping_row s e.actor.0 (keeping_in s past e.actor.0) e.took =
    node_step s m past e valid run same (omega (arith, here, lt)) in
    subst (λ (q : ℕ). (keeping_row (with_more s m) q (keeping_in (with_more s m) past q) e.took).state
    ≡ (keeping_row s q (keeping_in s past q) e.took).state) here (ap (λ (o : Out KeepingNode). o.state) step)
node_after s m past e p false valid run same lt is = same.nodes p lt

client_after : (s : ScriptData) (m : More s) (past : List Entry) (e : Entry) (test : Bool) → IsValid s → IsStepRun s (e ∷ past)
    → AreSame s m past → HasRowsLeft s past
    → (if test then (client_table s (client_in s past) e.took).state else client_in s past).next < length s.rows
    → (if test then (client_table (with_more s m) (client_in (with_more s m) past) e.took).state else client_in (with_more s m) past)
    ≡ with_places (length m.trees) (if test then (client_table s (client_in s past) e.took).state else client_in s past)
client_after s m past e true valid run same before left =
    ap (λ (o : Out Client). o.state) (client_step s m past e valid run same before left)
client_after s m past e false valid run same before left = same.client

same_after : (s : ScriptData) (m : More s) (past : List Entry) (e : Entry) → IsValid s → IsStepRun s (e ∷ past) → AreSame s m past
    → HasRowsLeft s past → HasRowsLeft s (e ∷ past) → AreSame s m (e ∷ past)
same_after s m past e valid run same before left = record {
  nodes = λ p lt. node_after s m past e p (e.actor.0 == p) valid run same lt refl;
  client = client_after s m past e (e.actor.0 == client_of s) valid run same before left;
}

-- What an entry says.
here_left : (s : ScriptData) (past : List Entry) (e : Entry) (test : Bool) → (e.actor.0 == client_of s) ≡ test → e.actor.0 ≡ client_of s
    → (if test then (client_table s (client_in s past) e.took).state else client_in s past).next < length s.rows
    → (client_table s (client_in s past) e.took).state.next < length s.rows
here_left s past e true is at left = left
here_left s past e false is at left = absurd (grind (arith, nat_tests))

moves_same : (s : ScriptData) (m : More s) (past : List Entry) (e : Entry) → IsValid s → IsStepRun s (e ∷ past) → AreSame s m past
    → HasRowsLeft s past → HasRowsLeft s (e ∷ past) → Moves s past e → Moves (with_more s m) past e
moves_same s m past e valid run same before left (AtNode lt says) =
    AtNode lt (subst (λ (o : Out KeepingNode). Says o e) (sym (node_step s m past e valid run same lt)) says)
moves_same s m past e valid run same before left (AtCoordinator at keeps says) =
    AtCoordinator at (m.lossy ∙ keeps) (subst (λ (c : Coordinator). Says (coordinator_table c e.took) e) (sym (coordinators_same s m past)) says)
moves_same s m past e valid run same before left (AtRestarting at loses says) =
    AtRestarting at (m.lossy ∙ loses) (subst (λ (c : Restarting). Says (restarting_table c e.took) e) (sym (restartings_same s m past)) says)
moves_same s m past e valid run same before left (AtClient at says) =
    AtClient at (subst (λ (o : Out Client). Says o e)
    (sym (client_step s m past e valid run same before (here_left s past e (e.actor.0 == client_of s) refl at left))) says)

-- At the start.
first_client : (s : ScriptData) (m : More s) → client_in (with_more s m) [] ≡ with_places (length m.trees) (client_in s [])
first_client s m =
    ap (λ (xs : List Bool). record { next = 0; answered = xs; ended = 0; finished = false })
    (ap (λ (n : ℕ). replicate n false) (length-append s.trees m.trees) ∙ sym (replicate-append-replicate (length s.trees) (length m.trees) false))

first_same : (s : ScriptData) (m : More s) → AreSame s m []
first_same s m = record { nodes = λ p lt. refl; client = first_client s m }

-- In every run.
pub grows : (s : ScriptData) (m : More s) (past : List Entry) → IsValid s → IsStepRun s past → HasRowsLeft s past
    → IsStepRun (with_more s m) past × AreSame s m past
grows s m [] valid run left = (tt, first_same s m)
grows s m (e ∷ past) valid run left =
    let before : HasRowsLeft s past = left_before s past e left in
    let rest = grows s m past valid run.1 before in
    let next : MayFollow (with_more s m) past e = record {
      stamp = run.0.stamp;
      waits = run.0.waits;
      addressee = run.0.addressee;
      moves = moves_same s m past e valid run rest.1 before left run.0.moves;
    } in
    ((next, rest.0), same_after s m past e valid run rest.1 before left)
