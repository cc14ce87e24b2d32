-- A step of an actor makes the next world.
use Rattle.std.proofs.Common.{◌≡◌, ◌≢◌, ℕ, ◌+◌, ◌<◌, ◌==◌, Bool, true, false, List, [], ◌∷◌, ◌++◌, length, reverse, Some, refl, sym, ap, ◌∙◌, subst, arith}
use Rattle.std.specs.Prelude.{if◌then◌else◌, nat_lt, slice_get, slice_set}
use Rattle.std.specs.List.{remove}
use Rattle.std.proofs.lemmas.Bool.Decides.{nat_tests}
use Rattle.std.proofs.lemmas.List.{length-reverse, reverse-append}
use Rattle.std.proofs.Math.ListN.{length-set}
use Rattle.std.proofs.lemmas.Option.{same_Some}
use Rattle.tv_base.proofs.ByPlace.{get_set_other, get_set_same}
use Rattle.tv_base.proofs.Truths.{same_test}
use Rattle.letter_types.specs.declared.acts.Act.{Act}
use Rattle.letter_types.specs.declared.entries.Letter.{Letter}
use Rattle.letter_types.specs.declared.entries.Outgoing.{Outgoing}
use Rattle.letter_types.specs.declared.entries.Entry.{Entry}
use Rattle.letter_types.specs.declared.entries.StepOut.{StepOut}
use Rattle.letter_types.specs.Letters.{sealed}
use Rattle.letter_types.specs.Steps.{Out, made}
use Rattle.run_history.specs.Messages.{entry_behind}
use Rattle.tx_trees.specs.ScriptData.{ScriptData, client_of}
use Rattle.tx_trees.specs.Valid.{IsValid}
use Rattle.tx_trees.specs.Counts.{is_lossy}
use Rattle.world_model.specs.Runs.{MayFollow, Moves, AtNode, AtCoordinator, AtRestarting, AtClient, Says, actor_in, coordination_in, coordinator_in, restarting_in, in_flight}
use Rattle.world_model.proofs.Gone.{unique}
use Rattle.world_model.proofs.Addressees.{addressed}
use Rattle.world_model.proofs.Scripts.{get_below}
use Rattle.world_core.specs.declared.actor.ActorState.{ActorState}
use Rattle.world_model.specs.Tables.{ActorData, CoordinatorData, RestartingData, actor_row, coordinator_table, restarting_table}
use Rattle.world_core.specs.Actors.{AreStatesOf, IsFor, IsStateOf, IsWorldOf, WorldData, actor_data}
use Rattle.world_core.proofs.Doing.{IsRow}
use Rattle.world_core.proofs.Bag.{Found, found_at}

-- the entry behind n others of the step that a message leads to
abbrev pub entry_made : ℕ → Letter → List Outgoing → List Act → Entry
entry_made n l sent acts = entry_behind n l.to l sent acts

-- the coordinator of either kind, by its number
coordinator_is : (s : ScriptData) (past : List Entry) (a : ℕ) → nat_lt a s.nodes ≡ false → (a == s.nodes) ≡ true → is_lossy s ≡ false
    → actor_in s past a ≡ CoordinatorData (coordinator_in s past)
coordinator_is s past a is at keeps =
    let here : actor_in s past a ≡ coordination_in s past = rw (is, at) refl in
    here ∙ ap (λ (b : Bool). if b then RestartingData (restarting_in s past) else CoordinatorData (coordinator_in s past)) keeps

restarting_is : (s : ScriptData) (past : List Entry) (a : ℕ) → nat_lt a s.nodes ≡ false → (a == s.nodes) ≡ true → is_lossy s ≡ true
    → actor_in s past a ≡ RestartingData (restarting_in s past)
restarting_is s past a is at loses =
    let here : actor_in s past a ≡ coordination_in s past = rw (is, at) refl in
    here ∙ ap (λ (b : Bool). if b then RestartingData (restarting_in s past) else CoordinatorData (coordinator_in s past)) loses

-- whose step it is
moves_by : (s : ScriptData) (past : List Entry) (l : Letter) (n : ℕ) (sent : List Outgoing) (acts : List Act) (b c : Bool)
    → nat_lt l.to.0 s.nodes ≡ b → (l.to.0 == s.nodes) ≡ c → l.to.0 < s.nodes + 2
    → sent ≡ (actor_row s l.to.0 (actor_in s past l.to.0) l).sent → acts ≡ (actor_row s l.to.0 (actor_in s past l.to.0) l).acts
    → Moves s past (entry_made n l sent acts)
moves_by s past l n sent acts true c is at lt a b = AtNode (grind (arith, nat_tests)) (rw is at a, rw is at b)
moves_by s past l n sent acts false true is at lt a b = by (is_lossy s) refl where
  of : (d : ActorData) → actor_in s past l.to.0 ≡ d → Says (actor_row s l.to.0 d l) (entry_made n l sent acts)
  of d now =
      (a ∙ ap (λ (x : ActorData). (actor_row s l.to.0 x l).sent) now, b ∙ ap (λ (x : ActorData). (actor_row s l.to.0 x l).acts) now)

  by : (loses : Bool) → is_lossy s ≡ loses → Moves s past (entry_made n l sent acts)
  by false keeps =
      AtCoordinator (grind (arith, nat_tests)) keeps (of (CoordinatorData (coordinator_in s past)) (coordinator_is s past l.to.0 is at keeps))
  by true loses =
      AtRestarting (grind (arith, nat_tests)) loses (of (RestartingData (restarting_in s past)) (restarting_is s past l.to.0 is at loses))
moves_by s past l n sent acts false false is at lt a b = AtClient (grind (arith, nat_tests)) (rw (is, at) at a, rw (is, at) at b)

-- the addressee's next state
state_by : (s : ScriptData) (past : List Entry) (l : Letter) (n : ℕ) (sent : List Outgoing) (acts : List Act) (b c : Bool)
    → nat_lt l.to.0 s.nodes ≡ b → (l.to.0 == s.nodes) ≡ c → l.to.0 < s.nodes + 2
    → (actor_row s l.to.0 (actor_in s past l.to.0) l).state ≡ actor_in s (entry_made n l sent acts ∷ past) l.to.0
state_by s past l n sent acts true c is at lt = rw (is, same_test l.to.0) refl
state_by s past l n sent acts false true is at lt = by (is_lossy s) refl where
  e : Entry
  e = entry_made n l sent acts

  by : (loses : Bool) → is_lossy s ≡ loses → (actor_row s l.to.0 (actor_in s past l.to.0) l).state ≡ actor_in s (e ∷ past) l.to.0
  by false keeps =
      let next : (coordinator_table (coordinator_in s past) l).state ≡ coordinator_in s (e ∷ past) = rw at refl in
      ap (λ (x : ActorData). (actor_row s l.to.0 x l).state) (coordinator_is s past l.to.0 is at keeps)
      ∙ ap CoordinatorData next ∙ sym (coordinator_is s (e ∷ past) l.to.0 is at keeps)
  by true loses =
      let next : (restarting_table (restarting_in s past) l).state ≡ restarting_in s (e ∷ past) = rw at refl in
      ap (λ (x : ActorData). (actor_row s l.to.0 x l).state) (restarting_is s past l.to.0 is at loses)
      ∙ ap RestartingData next ∙ sym (restarting_is s (e ∷ past) l.to.0 is at loses)
state_by s past l n sent acts false false is at lt =
    let client : (l.to.0 == client_of s) ≡ true = grind (arith, nat_tests) in rw (is, at, client) refl

-- the other actors stay
others_by : (s : ScriptData) (past : List Entry) (e : Entry) (a : ℕ) (b c : Bool) → nat_lt a s.nodes ≡ b
    → (a == s.nodes) ≡ c → a < s.nodes + 2 → e.actor.0 ≢ a
    → actor_in s (e ∷ past) a ≡ actor_in s past a
others_by s past e a true c is at lt ne = let no : (e.actor.0 == a) ≡ false = grind (arith, nat_tests) in rw (is, no) refl
others_by s past e a false true is at lt ne = by (is_lossy s) refl where
  no : (e.actor.0 == s.nodes) ≡ false
  no = grind (arith, nat_tests)

  by : (loses : Bool) → is_lossy s ≡ loses → actor_in s (e ∷ past) a ≡ actor_in s past a
  by false keeps =
      let same : coordinator_in s (e ∷ past) ≡ coordinator_in s past = rw no refl in
      coordinator_is s (e ∷ past) a is at keeps ∙ ap CoordinatorData same ∙ sym (coordinator_is s past a is at keeps)
  by true loses =
      let same : restarting_in s (e ∷ past) ≡ restarting_in s past = rw no refl in
      restarting_is s (e ∷ past) a is at loses ∙ ap RestartingData same ∙ sym (restarting_is s past a is at loses)
others_by s past e a false false is at lt ne = let no : (e.actor.0 == client_of s) ≡ false = grind (arith, nat_tests) in rw (is, at, no) refl

-- the addressee of a message made its row of it, this goes out, and the other actors stay
pub record Took (s : ScriptData) (l : Letter) (old new : List ActorState) (out : StepOut) : Type 0 where
  pub before : ActorState
  pub after : ActorState
  pub there : slice_get old l.to.0 ≡ Some before
  pub set : new ≡ slice_set old l.to.0 after
  pub is : IsRow s l before after out

-- what a step takes and gives: the addressee's state before and after, what it sent and did, and the bag then
pub record Stepped (s : ScriptData) (w : WorldData) (k : ℕ) (l : Letter) (out : StepOut) (next : List ActorState) (left : List Letter) : Type 0 where
  pub letter : slice_get w.bag k ≡ Some l
  pub took : Took s l w.actors next out
  pub bag : left ≡ remove w.bag k ++ sealed (length w.history + 1) l.to.0 0 out.sent

pub found_in : (s : ScriptData) (w : WorldData) (k : ℕ) (l : Letter) → IsWorldOf s w → slice_get w.bag k ≡ Some l
    → Found (in_flight s (reverse w.history)) k l
found_in s w k l world at =
    found_at (in_flight s (reverse w.history)) k l (unique s (reverse w.history) l.id world.run)
    (subst (λ (ls : List Letter). slice_get ls k ≡ Some l) world.bag at)

pub below : (s : ScriptData) (w : WorldData) (k : ℕ) (l : Letter) → IsWorldOf s w → IsValid s
    → slice_get w.bag k ≡ Some l → l.to.0 < s.nodes + 2
below s w k l world valid at = addressed s (reverse w.history) l valid world.run (found_in s w k l world at).found

-- the step is the row of what the past says of its addressee
pub row_is : (s : ScriptData) (past : List Entry) (l : Letter) (old next : List ActorState) (out : StepOut)
    → AreStatesOf s past old → (a : Took s l old next out)
    → made (actor_data a.after) out ≡ actor_row s l.to.0 (actor_in s past l.to.0) l
row_is s past l old next out states a = a.is.row
    ∙ ap (λ (d : ActorData). actor_row s l.to.0 d l) (states l.to.0 a.before a.there).seen

pub may_follow : (s : ScriptData) (w : WorldData) (k : ℕ) (l : Letter) (sent : List Outgoing) (acts : List Act)
    → IsWorldOf s w → IsValid s
    → slice_get w.bag k ≡ Some l
    → sent ≡ (actor_row s l.to.0 (actor_in s (reverse w.history) l.to.0) l).sent
    → acts ≡ (actor_row s l.to.0 (actor_in s (reverse w.history) l.to.0) l).acts
    → MayFollow s (reverse w.history) (entry_made (length w.history) l sent acts)
may_follow s w k l sent acts world valid at a b = record {
  stamp = omega (arith, length-reverse w.history);
  waits = (found_in s w k l world at).found;
  addressee = refl;
  moves = moves_by s (reverse w.history) l (length w.history) sent acts (nat_lt l.to.0 s.nodes) (l.to.0 == s.nodes) refl refl (below s w k l world valid at) a b;
}

-- each actor's next state
state_next : (s : ScriptData) (past : List Entry) (l : Letter) (n : ℕ) (sent : List Outgoing) (acts : List Act) (old : List ActorState) (after st : ActorState) (a : ℕ)
    → length old ≡ s.nodes + 2 → l.to.0 < s.nodes + 2 → AreStatesOf s past old
    → actor_data after ≡ (actor_row s l.to.0 (actor_in s past l.to.0) l).state → IsFor s after
    → slice_get (slice_set old l.to.0 after) a ≡ Some st → (b : Bool) → (l.to.0 == a) ≡ b
    → IsStateOf s (entry_made n l sent acts ∷ past) a st
state_next s past l n sent acts old after st a count to states row script at true is =
    let eq : l.to.0 ≡ a = grind (arith, nat_tests) in
    let here : slice_get (slice_set old l.to.0 after) a ≡ Some after =
    subst (λ (n : ℕ). slice_get (slice_set old l.to.0 after) n ≡ Some after) eq (get_set_same old l.to.0 after (omega arith)) in
    let same : after ≡ st = same_Some after st (sym here ∙ at) in
    subst (λ (y : ActorState). IsStateOf s (entry_made n l sent acts ∷ past) a y) same (record {
      seen = subst (λ (n : ℕ). actor_data after ≡ actor_in s (entry_made n l sent acts ∷ past) n) eq
          (row ∙ state_by s past l n sent acts (nat_lt l.to.0 s.nodes) (l.to.0 == s.nodes) refl refl to);
      script = script;
    })
state_next s past l n sent acts old after st a count to states row script at false is =
    let ne : l.to.0 ≢ a = grind (arith, nat_tests) in
    let there : slice_get old a ≡ Some st = sym (get_set_other old l.to.0 a after ne) ∙ at in
    let lt : a < s.nodes + 2 = omega (arith, get_below old a st there) in
    record {
      seen = (states a st there).seen
          ∙ sym (others_by s past (entry_made n l sent acts) a (nat_lt a s.nodes) (a == s.nodes) refl refl lt ne);
      script = (states a st there).script;
    }

pub next_world : (s : ScriptData) (w : WorldData) (k : ℕ) (l : Letter) (out : StepOut) (actors : List ActorState) (bag : List Letter)
    → IsWorldOf s w → IsValid s → Stepped s w k l out actors bag
    → IsWorldOf s (record { actors = actors; bag = bag; history = w.history ++ entry_made (length w.history) l out.sent out.acts ∷ [] })
next_world s w k l out actors bag world valid step =
    let past = reverse w.history in
    let e = entry_made (length w.history) l out.sent out.acts in
    let to : l.to.0 < s.nodes + 2 = below s w k l world valid step.letter in
    let acted = step.took in
    let row : made (actor_data acted.after) out ≡ actor_row s l.to.0 (actor_in s past l.to.0) l = row_is s past l w.actors actors out world.actors acted in
    let back : reverse (w.history ++ e ∷ []) ≡ e ∷ past = reverse-append w.history (e ∷ []) in
    record {
      run = rw back (may_follow s w k l out.sent out.acts world valid step.letter (ap (λ (o : Out ActorData). o.sent) row) (ap (λ (o : Out ActorData). o.acts) row), world.run);
      count = ap (length {A = ActorState}) acted.set ∙ length-set w.actors l.to.0 acted.after ∙ world.count;
      actors = rw (back, acted.set) (λ a st at. state_next s past l (length w.history) out.sent out.acts w.actors acted.after st a world.count to world.actors
          (ap (λ (o : Out ActorData). o.state) row) acted.is.script at
          (l.to.0 == a) refl);
      bag = step.bag ∙ rw (back, world.bag, (found_in s w k l world step.letter).left) refl;
    }
