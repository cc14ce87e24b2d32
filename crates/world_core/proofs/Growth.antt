-- A world in which the client has rows left is one of each script that goes on.
use Rattle.std.proofs.Common.{◌≡◌, ◌≢◌, ℕ, ◌+◌, ◌<◌, ◌==◌, ◌∙◌, Bool, true, false, List, length, reverse, Some, refl, sym, ap, subst, arith}
use Rattle.std.specs.Prelude.{OnOk, Result, Ok, Err, ◌-◌, nat_lt, slice_get, slice_set}
use Rattle.std.proofs.lemmas.Bool.Decides.{nat_tests}
use Rattle.std.proofs.Math.ListN.{length-set}
use Rattle.std.proofs.lemmas.List.{length-append}
use Rattle.std.proofs.lemmas.Option.{same_Some, slice_get_within}
use Rattle.tv_base.proofs.ByPlace.{get_set_other, get_set_same}
use Rattle.script_parts.specs.ScriptData.{ScriptData}
use Rattle.letter_types.specs.declared.entries.Entry.{Entry}
use Rattle.tx_trees.specs.Counts.{is_lossy}
use Rattle.world_model.specs.Client.{Client, with_places}
use Rattle.world_model.specs.Runs.{actor_in, coordinator_in, keeping_in, restarting_in}
use Rattle.world_model.specs.Tables.{ActorData, ClientData, CoordinatorData, NodeData, RestartingData}
use Rattle.world_core.specs.Actors.{AreStatesOf, IsFor, IsStateOf, IsWorldOf, WorldData, actor_data}
use Rattle.world_core.specs.Growth.{MayGoOn}
use Rattle.tv_base.specs.declared.numbers.NoMemory.{NoMemory}
use Rattle.world_core.specs.declared.actor.ActorState.{ActorState}
use Rattle.world_core.specs.declared.actor.ActorState.TheVariants as states
use Rattle.growth_laws.specs.Growth.{Extends, IsRunOfBoth, grown_actor}
use Rattle.growth_laws.proofs.Actors.{came, runs_grow}
use Rattle.growth_laws.proofs.More.{More, is_grown, more_of, with_more}
use Rattle.world_core.specs.inside.Growth.{HasNoMorePlaces, grown_state, with_more_places}
use Rattle.world_core.proofs.Kept.{kept_grows}

-- each actor's state is one of the script with more transactions
for_grows : (s : ScriptData) (m : More s) (st : ActorState) → IsFor s st → IsFor (with_more s m) (grown_state (length m.trees) st)
for_grows s m (states.Node n) is = is
for_grows s m (states.Coordinator c) is = tt
for_grows s m (states.Restarting c) is = tt
for_grows s m (states.Client c) is = kept_grows s m c is

-- as its table sees it, it is the actor that has grown
data_grows : (k : ℕ) (st : ActorState) → actor_data (grown_state k st) ≡ grown_actor k (actor_data st)
data_grows k (states.Node n) = refl
data_grows k (states.Coordinator c) = refl
data_grows k (states.Restarting c) = refl
data_grows k (states.Client c) = refl

state_grows : (s t : ScriptData) (past : List Entry) (a : ℕ) (st : ActorState) (e : Extends s t) → IsRunOfBoth s t past
    → IsStateOf s past a st → IsStateOf t past a (grown_state (length t.trees - length s.trees) st)
state_grows s t past a st e both is =
    let k : ℕ = length t.trees - length s.trees in
    record {
      seen = data_grows k st ∙ ap (λ (d : ActorData). grown_actor k d) is.seen ∙ sym (both.actors a);
      script = subst (λ (w : ScriptData). IsFor w (grown_state k st)) (sym (is_grown s t e))
          (subst (λ (n : ℕ). IsFor (with_more s (more_of s t e)) (grown_state n st)) (sym (came s t e)) (for_grows s (more_of s t e) st is.script));
    }

-- the client is the last actor, and the only client
client_data : (s : ScriptData) (past : List Entry) (a : ℕ) (c : Client) → a < s.nodes + 1 → (b d : Bool) → nat_lt a s.nodes ≡ b
    → (a == s.nodes) ≡ d → ClientData c ≡ actor_in s past a → ⊥
client_data s past a c lt true d is at seen = let other : ClientData c ≡ NodeData (keeping_in s past a) = seen ∙ rw is refl in cc other
client_data s past a c lt false true is at seen = by (is_lossy s) refl where
  by : (loses : Bool) → is_lossy s ≡ loses → ⊥
  by true loses = let other : ClientData c ≡ RestartingData (restarting_in s past) = seen ∙ rw (is, at, loses) refl in cc other
  by false loses = let other : ClientData c ≡ CoordinatorData (coordinator_in s past) = seen ∙ rw (is, at, loses) refl in cc other
client_data s past a c lt false false is at seen = absurd (grind (arith, nat_tests))

-- another actor's state stays
stays_grown : (s : ScriptData) (past : List Entry) (a k : ℕ) (st : ActorState) → a < s.nodes + 1 → IsStateOf s past a st → grown_state k st ≡ st
stays_grown s past a k (states.Node n) lt is = refl
stays_grown s past a k (states.Coordinator c) lt is = refl
stays_grown s past a k (states.Restarting c) lt is = refl
stays_grown s past a k (states.Client c) lt is = absurd (client_data s past a c.client lt (nat_lt a s.nodes) (a == s.nodes) refl refl is.seen)

-- each state, where the client's at place a has its places and the others stay
states_by : (s t : ScriptData) (past : List Entry) (old : List ActorState) (a : ℕ) (x : ActorState) (e : Extends s t) → IsRunOfBoth s t past
    → AreStatesOf s past old → length old ≡ s.nodes + 2 → a + 1 ≡ length old → slice_get old a ≡ Some x
    → (b : ℕ) (st : ActorState) → slice_get (slice_set old a (grown_state (length t.trees - length s.trees) x)) b ≡ Some st
    → (same : Bool) → (a == b) ≡ same → IsStateOf t past b st
states_by s t past old a x e both states count last at b st is true same =
    let k : ℕ = length t.trees - length s.trees in
    let eq : a ≡ b = grind (arith, nat_tests) in
    let here : slice_get (slice_set old a (grown_state k x)) b ≡ Some (grown_state k x) =
    subst (λ (n : ℕ). slice_get (slice_set old a (grown_state k x)) n ≡ Some (grown_state k x)) eq (get_set_same old a (grown_state k x) (omega (arith, last))) in
    subst (λ (n : ℕ). IsStateOf t past n st) eq
    (subst (λ (y : ActorState). IsStateOf t past a y) (same_Some (grown_state k x) st (sym here ∙ is)) (state_grows s t past a x e both (states a x at)))
states_by s t past old a x e both states count last at b st is false same =
    let k : ℕ = length t.trees - length s.trees in
    let apart : a ≢ b = λ (eq : a ≡ b). grind (arith, nat_tests, eq, same) in
    let there : slice_get old b ≡ Some st = sym (get_set_other old a b (grown_state k x) apart) ∙ is in
    let within : b < length old = slice_get_within old b st there in
    let lt : b < s.nodes + 1 = omega (arith, apart, within, count, last) in
    subst (λ (y : ActorState). IsStateOf t past b y) (stays_grown s past b k st lt (states b st there)) (state_grows s t past b st e both (states b st there))

-- the client's places, as the script grows
places_grown : (s t : ScriptData) (past : List Entry) (a : ℕ) (st : ActorState) → IsStateOf s past a st
    → with_more_places t st ≡ grown_state (length t.trees - length s.trees) st
places_grown s t past a (states.Node n) is = refl
places_grown s t past a (states.Coordinator c) is = refl
places_grown s t past a (states.Restarting c) is = refl
places_grown s t past a (states.Client c) is =
    ap (λ (n : ℕ). states.Client (record c { client = with_places (length t.trees - n) c.client })) is.script.answered

-- there are no more than the script's transactions
no_more_places : (s t : ScriptData) (past : List Entry) (a : ℕ) (st : ActorState) → Extends s t → IsStateOf s past a st → HasNoMorePlaces t st
no_more_places s t past a (states.Node n) e is = tt
no_more_places s t past a (states.Coordinator c) e is = tt
no_more_places s t past a (states.Restarting c) e is = tt
no_more_places s t past a (states.Client c) e is =
    omega (arith, is.script.answered, ap length e.trees.1, length-append s.trees e.trees.0)

pub may_have_places : (t : ScriptData) (w : WorldData) (a : ℕ) (st : ActorState) → MayGoOn w t → slice_get w.actors a ≡ Some st
    → HasNoMorePlaces t st
may_have_places t w a st may at = no_more_places may.script t (reverse w.history) a st may.extends (may.world.actors a st at)

-- the world goes on, once the client has its places
pub world_goes_on : (t : ScriptData) (w : WorldData) (a : ℕ) (x y : ActorState) → MayGoOn w t → a + 1 ≡ length w.actors
    → slice_get w.actors a ≡ Some x → y ≡ with_more_places t x
    → IsWorldOf t (record w { actors = slice_set w.actors a y })
world_goes_on t w a x y may last at more =
    let s : ScriptData = may.script in
    let past : List Entry = reverse w.history in
    let k : ℕ = length t.trees - length s.trees in
    let both : IsRunOfBoth s t past = runs_grow s t past may.valid may.extends may.world.run may.left in
    let grown : y ≡ grown_state k x = more ∙ places_grown s t past a x (may.world.actors a x at) in
    record {
      run = both.run;
      count = length-set w.actors a y ∙ may.world.count ∙ ap (λ (n : ℕ). n + 2) (sym may.extends.nodes);
      actors = λ (b : ℕ) (st : ActorState) is.
          states_by s t past w.actors a x may.extends both may.world.actors may.world.count last at b st
          (subst (λ (z : ActorState). slice_get (slice_set w.actors a z) b ≡ Some st) grown is) (a == b) refl;
      bag = may.world.bag ∙ sym both.letters;
    }

-- the same, where the client's places were found or no memory was
pub goes_on_or_not : (t : ScriptData) (w : WorldData) (a : ℕ) (x y : ActorState) (r : Result (Unit {0}) NoMemory) → MayGoOn w t → a + 1 ≡ length w.actors
    → slice_get w.actors a ≡ Some x → OnOk r (y ≡ with_more_places t x)
    → OnOk r (IsWorldOf t (record w { actors = slice_set w.actors a y }))
goes_on_or_not t w a x y (Ok done) may last at more = world_goes_on t w a x y may last at more
goes_on_or_not t w a x y (Err e) may last at more = tt
