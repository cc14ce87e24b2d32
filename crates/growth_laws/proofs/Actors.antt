-- Each actor of a script that has gone on is the one that it was, but for the places of the client.
use Rattle.std.proofs.Common.{◌≡◌, ℕ, ◌+◌, ◌==◌, ◌∙◌, Bool, true, false, List, ◌++◌, length, refl, sym, ap, subst, arith}
use Rattle.std.specs.Prelude.{if◌then◌else◌, ◌-◌, nat_lt}
use Rattle.std.proofs.lemmas.Bool.Decides.{nat_tests}
use Rattle.std.proofs.lemmas.List.{length-append}
use Rattle.letter_types.specs.declared.entries.Entry.{Entry}
use Rattle.letter_types.specs.Letters.{in_flight_after}
use Rattle.script_parts.specs.Counts.{is_lossy}
use Rattle.script_parts.specs.ScriptData.{ScriptData}
use Rattle.script_parts.specs.declared.parts.Tree.{Tree}
use Rattle.world_model.specs.Client.{Client}
use Rattle.world_model.specs.Coordinator.{Coordinator}
use Rattle.world_model.specs.Restarting.{Restarting}
use Rattle.world_model.specs.Runs.{IsStepRun, actor_in, client_in, coordination_in, coordinator_in, keeping_in, restarting_in}
use Rattle.world_model.specs.Tables.{ClientData, CoordinatorData, NodeData, RestartingData}
use Rattle.growth_laws.specs.Growth.{Extends, RunsGrow, grown_actor}
use Rattle.growth_laws.proofs.Grows.{AreSame, coordinators_same, grows, restartings_same}
use Rattle.growth_laws.proofs.More.{More, is_grown, more_of, with_more}

coordination_same : (s : ScriptData) (m : More s) (past : List Entry)
    → coordination_in (with_more s m) past ≡ grown_actor (length m.trees) (coordination_in s past)
coordination_same s m past =
    let w : ScriptData = with_more s m in
    ap (λ (b : Bool). if b then RestartingData (restarting_in w past) else CoordinatorData (coordinator_in w past)) m.lossy
    ∙ ap (λ (c : Restarting). if is_lossy s then RestartingData c else CoordinatorData (coordinator_in w past)) (restartings_same s m past)
    ∙ ap (λ (c : Coordinator). if is_lossy s then RestartingData (restarting_in s past) else CoordinatorData c) (coordinators_same s m past)
    ∙ by (is_lossy s) where
      by : (b : Bool) → (if b then RestartingData (restarting_in s past) else CoordinatorData (coordinator_in s past))
          ≡ grown_actor (length m.trees) (if b then RestartingData (restarting_in s past) else CoordinatorData (coordinator_in s past))
      by true = refl
      by false = refl

other_same : (s : ScriptData) (m : More s) (past : List Entry) (b : Bool) → AreSame s m past
    → (if b then coordination_in (with_more s m) past else ClientData (client_in (with_more s m) past))
    ≡ grown_actor (length m.trees) (if b then coordination_in s past else ClientData (client_in s past))
other_same s m past true same = coordination_same s m past
other_same s m past false same = ap (λ (c : Client). ClientData c) same.client

any_same : (s : ScriptData) (m : More s) (past : List Entry) (a : ℕ) (b : Bool) → nat_lt a s.nodes ≡ b → AreSame s m past
    → (if b then NodeData (keeping_in (with_more s m) past a)
    else if a == s.nodes then coordination_in (with_more s m) past else ClientData (client_in (with_more s m) past))
    ≡ grown_actor (length m.trees) (if b then NodeData (keeping_in s past a)
    else if a == s.nodes then coordination_in s past else ClientData (client_in s past))
any_same s m past a true is same = ap NodeData (same.nodes a (grind (arith, nat_tests)))
any_same s m past a false is same = other_same s m past (a == s.nodes) same

-- how many transactions came
pub came : (s t : ScriptData) (e : Extends s t) → length t.trees - length s.trees ≡ length e.trees.0
came s t e =
    let all : length t.trees ≡ length (s.trees ++ e.trees.0) = ap (λ (xs : List Tree). length xs) e.trees.1 in
    omega (arith, all, length-append s.trees e.trees.0)

pub runs_grow : RunsGrow
runs_grow s t past valid e run left =
    let m : More s = more_of s t e in
    let w : ScriptData = with_more s m in
    let same = grows s m past valid run left in
    let back : w ≡ t = sym (is_grown s t e) in
    let actors : (a : ℕ) → actor_in w past a ≡ grown_actor (length m.trees) (actor_in s past a) =
    λ (a : ℕ). any_same s m past a (nat_lt a s.nodes) refl same.1 in
    record {
      run = subst (λ (x : ScriptData). IsStepRun x past) back same.0;
      letters = ap (λ (n : ℕ). in_flight_after (n + 1) past) e.nodes;
      actors = λ a. subst (λ (x : ScriptData). actor_in x past a ≡ grown_actor (length t.trees - length s.trees) (actor_in s past a)) back
          (subst (λ (k : ℕ). actor_in w past a ≡ grown_actor k (actor_in s past a)) (sym (came s t e)) (actors a));
    }
