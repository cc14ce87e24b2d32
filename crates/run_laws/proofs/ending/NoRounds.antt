-- In a run of a script without advancements no round begins: the coordinator stays idle.
use Rattle.std.proofs.Common.{◌≡◌, ◌≢◌, ℕ, List, [], ◌∷◌, reverse, refl, ap, ◌∙◌, arith, false}
use Rattle.letter_types.specs.declared.bodies.Body.{Body}
use Rattle.letter_types.specs.declared.bodies.Body.TheVariants.{Go, Advance}
use Rattle.letter_types.specs.declared.entries.Entry.{Entry}
use Rattle.tx_trees.specs.Counts.{advances_in, is_lossy}
use Rattle.tx_trees.specs.ScriptData.{ScriptData}
use Rattle.tx_trees.specs.Valid.{IsValid}
use Rattle.tx_trees.proofs.Rebuilding.{asked_most}
use Rattle.world_model.specs.Coordinator.{Coordinator, coordinator_row, row_of}
use Rattle.world_model.specs.declared.phase.Phase.{Phase}
use Rattle.world_model.specs.declared.phase.Phase.TheVariants.{Idle, Turning, Counting, Paused, Showing, Sweeping}
use Rattle.world_model.specs.Runs.{IsStepRun, client_in, coordinator_in}
use Rattle.world_model.proofs.Bridge.{coordinator_after}
use Rattle.world_model.proofs.Every.{coordinator_kept}
use Rattle.advance_laws.specs.Advances.{running}
use Rattle.advance_laws.proofs.phases.Progress.{Begins, Coordinates, Ends, Hears, Obeys, Progress, Works, progress}
use Rattle.advance_laws.proofs.phases.Small.{small}
use Rattle.tree_laws.specs.Entries.{rounds_in}
use Rattle.run_laws.proofs.each_tree.EveryApt.{all_apt, lawful}

-- Nothing is asked for, so no phase runs.
none_runs : (s : ScriptData) (past : List Entry) → IsValid s → is_lossy s ≡ false → IsStepRun s past → advances_in s.rows ≡ 0
    → running (coordinator_in s past).phase ≡ 0
none_runs s past valid keeps run none =
    let now = small s past (lawful s valid keeps) run (all_apt s past valid run) in
    omega (arith, now.asked, now.ended, asked_most (client_in s past).next s.rows, none)

-- A letter that leaves an idle coordinator idle begins no round.
idle_row : (body : Body) (from : ℕ) (c : Coordinator) → running (row_of body Idle from c).state.phase ≡ 0
    → (row_of body Idle from c).state.count.number ≡ c.count.number
idle_row Go from c still = refl
idle_row Advance from c still = absurd (omega (arith, still))
idle_row _ from c still = refl

same_round : (phase : Phase) (c : Coordinator) (from : ℕ) (body : Body) → running phase ≡ 0
    → running (row_of body phase from c).state.phase ≡ 0 → (row_of body phase from c).state.count.number ≡ c.count.number
same_round Idle c from body idle still = idle_row body from c still
same_round Turning c from body idle still = absurd (omega (arith, idle))
same_round (Counting reads) c from body idle still = absurd (omega (arith, idle))
same_round (Paused reads) c from body idle still = absurd (omega (arith, idle))
same_round Showing c from body idle still = absurd (omega (arith, idle))
same_round Sweeping c from body idle still = absurd (omega (arith, idle))

-- nor does any other entry
kept_round : (s : ScriptData) (past : List Entry) (e : Entry) → e.actor.0 ≢ s.nodes
    → (coordinator_in s (e ∷ past)).count.number ≡ (coordinator_in s past).count.number
kept_round s past e ne = ap (λ (c : Coordinator). c.count.number) (coordinator_kept s past e ne)

next_round : (s : ScriptData) (past : List Entry) (e : Entry) → running (coordinator_in s past).phase ≡ 0
    → running (coordinator_in s (e ∷ past)).phase ≡ 0 → Progress s past e
    → (coordinator_in s (e ∷ past)).count.number ≡ (coordinator_in s past).count.number
next_round s past e idle still (Begins is at made) = kept_round s past e (omega (arith, at))
next_round s past e idle still (Hears t v answer is at lt made) = kept_round s past e (omega (arith, at))
next_round s past e idle still (Ends v is at made) = kept_round s past e (omega (arith, at))
next_round s past e idle still (Coordinates tells at made) =
    let c = coordinator_in s past in
    let now : running (coordinator_row c e.took.from.0 e.took.body).state.phase ≡ 0 =
    omega (arith, still, ap (λ (x : Coordinator). running x.phase) made.state) in
    ap (λ (x : Coordinator). x.count.number) made.state ∙ same_round c.phase c e.took.from.0 e.took.body idle now
next_round s past e idle still (Works p r w) = kept_round s past e (omega (arith, w.brings.at, w.brings.below))
next_round s past e idle still (Obeys p out more at lt order state sent woken) = kept_round s past e (omega (arith, at, lt))

no_round : (s : ScriptData) (past : List Entry) → IsValid s → is_lossy s ≡ false → IsStepRun s past → advances_in s.rows ≡ 0 → (coordinator_in s past).count.number ≡ 0
no_round s [] valid keeps run none = refl
no_round s (e ∷ past) valid keeps run none =
    next_round s past e (none_runs s past valid keeps run.1 none) (none_runs s (e ∷ past) valid keeps run none)
    (progress s past e (lawful s valid keeps) (all_apt s (e ∷ past) valid run) run)
    ∙ no_round s past valid keeps run.1 none

-- of a history
pub no_rounds : (s : ScriptData) (past : List Entry) → IsValid s → is_lossy s ≡ false → IsStepRun s past → advances_in s.rows ≡ 0 → rounds_in s (reverse past) ≡ 0
no_rounds s past valid keeps run none = ap (λ (c : Coordinator). c.count.number) (coordinator_after s past) ∙ no_round s past valid keeps run none
