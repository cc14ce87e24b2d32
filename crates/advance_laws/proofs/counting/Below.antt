-- Below a low version nothing counted is outstanding. And the balance.
use Rattle.std.proofs.Common.{◌≡◌, ◌⊎◌, inl, inr, ℕ, ◌+◌, ◌-◌, ◌<◌, ◌≤◌, Bool, true, false, List, [], ◌∷◌, sym, ap, subst, ◌∙◌, arith, Some}
use Rattle.letter_types.specs.declared.bodies.Body.{Body}
use Rattle.letter_types.specs.declared.entries.Entry.{Entry}
use Rattle.letter_types.specs.Steps.{Out}
use Rattle.tv_base.specs.declared.numbers.Version.{Version}
use Rattle.phase_out.specs.Rounds.{verdict_of}
use Rattle.tx_trees.specs.ScriptData.{ScriptData}
use Rattle.world_model.specs.Coordinator.{Coordinator, end_count, coordinator_row}
use Rattle.world_model.specs.declared.phase.Phase.{Phase}
use Rattle.world_model.specs.declared.phase.Phase.TheVariants.{Idle, Turning, Counting, Paused, Showing, Sweeping}
use Rattle.world_model.specs.Runs.{coordinator_in, node_in, IsStepRun}
use Rattle.world_model.specs.AllApt.{AllApt}
use Rattle.world_model.proofs.Every.{coordinator_kept}
use Rattle.advance_laws.proofs.counting.KeptRows.{with_asked}
use Rattle.advance_laws.proofs.governed.Lawful.{IsLawful}
use Rattle.advance_laws.proofs.phases.Levels.{Level, Levels, levels, most_low, tells}
use Rattle.advance_laws.proofs.phases.Outcomes.{Outcome, Rests, Queues, Flags, Turns, Acks, LastTurned, LastShown, Finishes, GoesOn, Resumes, KeepsDone, KeepsAsked, Agrees, Recounts, Pauses, TakesAsked, asked_kept}
use Rattle.advance_laws.proofs.phases.Progress.{coordinates}
use Rattle.advance_laws.proofs.phases.Small.{outcome_in}
use Rattle.advance_laws.proofs.recovery.Tokens.{TurnStage, ShowStage, SweepStage}
use Rattle.advance_laws.specs.Balance.{IsBalanced, HasLeft, out}
use Rattle.advance_laws.specs.Quiet.{IsSilent}
use Rattle.advance_laws.proofs.counting.Balance.{balanced_at}
use Rattle.advance_laws.proofs.counting.Rounds.{agrees_silent}
use Rattle.advance_laws.proofs.right.Sending.{Sending, SendsApart, SendsDone, SendsAsked, SendsOrders, sending}
use Rattle.advance_laws.proofs.counting.Silence.{Closed, silent_stays}

-- the greatest version to which a node has collected, or is told to
abbrev pub floor : Coordinator → ℕ
floor c = most_low c.phase c.update

-- the coordinator ends a count for reads, and its floor comes to its update version
pub record Raises (c : Coordinator) (from : ℕ) (body : Body) (out : Out Coordinator) : Type 0 where
  pub v : Version
  pub k : ℕ
  pub row : List ℕ
  pub takes : TakesAsked c from body true v k row
  pub verdict : verdict_of (with_asked from row c.count.current) ≡ Some true
  pub to : floor out.state ≡ c.update

floor_at : (c : Coordinator) (phase : Phase) → c.phase ≡ phase → floor c ≡ most_low phase c.update
floor_at c phase at = ap (λ (p : Phase). most_low p c.update) at

ends_floor : (c : Coordinator) (from : ℕ) (body : Body) (out : Out Coordinator) (reads : Bool) (v : Version) (k : ℕ)
    (row : List ℕ)
    → TakesAsked c from body reads v k row → verdict_of (with_asked from row c.count.current) ≡ Some true
    → out ≡ end_count reads (asked_kept from row c) → (floor out.state ≡ floor c) ⊎ Raises c from body out
ends_floor c from body out true v k row takes verdict is =
    inr (record {
      v = v;
      k = k;
      row = row;
      takes = takes;
      verdict = verdict;
      to =
          ap (λ (o : Out Coordinator). floor o.state) is;
    })
ends_floor c from body out false v k row takes verdict is =
    inl (ap (λ (o : Out Coordinator). floor o.state) is ∙ sym (floor_at c (Counting false) takes.phase))

-- so the floor stays, or a count for reads ends
pub floor_next : (c : Coordinator) (from : ℕ) (body : Body) (out : Out Coordinator) → Outcome c from body out
    → (floor out.state ≡ floor c) ⊎ Raises c from body out
floor_next c from body out (Rests phase at ignored is) = inl (ap (λ (o : Out Coordinator). floor o.state) is)
floor_next c from body out (Queues phase at goes bd is) = inl (ap (λ (o : Out Coordinator). floor o.state) is)
floor_next c from body out (Flags reads at bd is) = inl (ap (λ (o : Out Coordinator). floor o.state) is)
floor_next c from body out (Acks phase at answer more is) = inl (ap (λ (o : Out Coordinator). floor o.state) is)
floor_next c from body out (Turns at bd is) =
    inl (ap (λ (o : Out Coordinator). floor o.state) is ∙ sym (floor_at c Idle at))
floor_next c from body out (LastTurned v at bd last is) =
    inl (ap (λ (o : Out Coordinator). floor o.state) is ∙ sym (floor_at c Turning at))
floor_next c from body out (LastShown v at bd last is) =
    inl (ap (λ (o : Out Coordinator). floor o.state) is ∙ sym (floor_at c Showing at))
floor_next c from body out (Finishes v at bd last none is) =
    let now : floor out.state ≡ c.update + 1 - 1 = ap (λ (o : Out Coordinator). floor o.state) is in
    inl (omega (arith, now, floor_at c Sweeping at))
floor_next c from body out (GoesOn v at bd last some is) =
    let now : floor out.state ≡ c.update + 1 - 1 = ap (λ (o : Out Coordinator). floor o.state) is in
    inl (omega (arith, now, floor_at c Sweeping at))
floor_next c from body out (Resumes reads at bd is) =
    inl (ap (λ (o : Out Coordinator). floor o.state) is ∙ sym (floor_at c (Paused reads) at))
floor_next c from body out (KeepsDone reads v k row at bd here is) =
    inl (ap (λ (o : Out Coordinator). floor o.state) is)
floor_next c from body out (KeepsAsked reads v k row takes verdict is) =
    inl (ap (λ (o : Out Coordinator). floor o.state) is)
floor_next c from body out (Agrees reads v k row takes verdict is) =
    ends_floor c from body out reads v k row takes verdict is
floor_next c from body out (Recounts reads v k row takes verdict flag is) =
    inl (ap (λ (o : Out Coordinator). floor o.state) is ∙ sym (floor_at c (Counting reads) takes.phase))
floor_next c from body out (Pauses reads v k row takes verdict flag is) =
    inl (ap (λ (o : Out Coordinator). floor o.state) is ∙ sym (floor_at c (Counting reads) takes.phase))

-- No root is born below the floor.
closed_at : (phase : Phase) (u update read low t1 t2 t3 w : ℕ) → 1 ≤ u → Level phase u update read low t1 t2 t3
    → w < most_low phase u
    → (w < update) × (w < read)
closed_at Idle u update read low t1 t2 t3 w one l lt = (omega (arith, one, l, lt), omega (arith, one, l, lt))
closed_at Turning u update read low t1 t2 t3 w one l lt = (omega (arith, one, l, lt), omega (arith, one, l, lt))
closed_at (Counting true) u update read low t1 t2 t3 w one l lt = (omega (arith, one, l, lt), omega (arith, one, l, lt))
closed_at (Counting false) u update read low t1 t2 t3 w one l lt =
    (omega (arith, one, l, lt), omega (arith, one, l, lt))
closed_at (Paused true) u update read low t1 t2 t3 w one l lt = (omega (arith, one, l, lt), omega (arith, one, l, lt))
closed_at (Paused false) u update read low t1 t2 t3 w one l lt = (omega (arith, one, l, lt), omega (arith, one, l, lt))
closed_at Showing u update read low t1 t2 t3 w one l lt = (omega (arith, one, l, lt), omega (arith, one, l, lt))
closed_at Sweeping u update read low t1 t2 t3 w one l lt = (omega (arith, one, l, lt), omega (arith, one, l, lt))

closed_below : (s : ScriptData) (past : List Entry) (w : ℕ) → Levels s past → w < floor (coordinator_in s past)
    → Closed s past w
closed_below s past w all lt = λ p lp.
    let c = coordinator_in s past in
    let turns = (node_in s past p).turns in
    let above = closed_at c.phase c.update turns.update.0 turns.read.0 turns.low.0
    (tells s past TurnStage p) (tells s past ShowStage p) (tells s past SweepStage p) w all.first (all.node p lp) lt in
    ((λ eq. omega (arith, eq, above.0)), (λ eq. omega (arith, eq, above.1)))

-- where a count for reads ends, its version is closed too
closed_counted : (s : ScriptData) (past : List Entry) (w : ℕ) → Levels s past
    → (coordinator_in s past).phase ≡ Counting true
    → w < (coordinator_in s past).update → Closed s past w
closed_counted s past w all at lt = λ p lp.
    let c = coordinator_in s past in
    let turns = (node_in s past p).turns in
    let level = subst (λ (phase : Phase). Level phase c.update turns.update.0 turns.read.0 turns.low.0
    (tells s past TurnStage p) (tells s past ShowStage p) (tells s past SweepStage p)) at (all.node p lp) in
    ((λ eq. omega (arith, eq, level, lt)), (λ eq. omega (arith, eq, level, lt)))

-- every version below the floor is silent
abbrev pub IsSilentBelow : ScriptData → List Entry → Coordinator → Type 0
IsSilentBelow s past c = (w : ℕ) → w < floor c → IsSilent s past w

below_kept : (s : ScriptData) (past : List Entry) (e : Entry) (d : Coordinator) → IsLawful s → IsStepRun s (e ∷ past)
    → AllApt s (e ∷ past)
    → IsSilentBelow s past (coordinator_in s past) → floor d ≡ floor (coordinator_in s past)
    → IsSilentBelow s (e ∷ past) d
below_kept s past e d laws run apt was same = λ w lt.
    let less : w < floor (coordinator_in s past) = omega (arith, same, lt) in
    silent_stays s past e w laws.trees run apt (was w less)
    (closed_below s past w (levels s past laws run.1 apt.1) less)

last_or_less : (w u : ℕ) → w < u → (w ≡ u - 1) ⊎ (w < u - 1)
last_or_less w u lt = grind arith

raised_silent : (s : ScriptData) (past : List Entry) (e : Entry) (o : Out Coordinator) (w : ℕ) → IsLawful s
    → IsStepRun s (e ∷ past) → AllApt s past
    → IsSilentBelow s past (coordinator_in s past) → Raises (coordinator_in s past) e.took.from.0 e.took.body o
    → (w ≡ (coordinator_in s past).update - 1) ⊎ (w < (coordinator_in s past).update - 1) → IsSilent s past w
raised_silent s past e o w laws run apt was raises (inl is) =
    subst (IsSilent s past) (sym is)
    (agrees_silent s past e true raises.v raises.k raises.row laws run apt raises.takes raises.verdict)
raised_silent s past e o w laws run apt was raises (inr lt) =
    was w (omega (arith, lt, floor_at (coordinator_in s past) (Counting true) raises.takes.phase))

below_by : (s : ScriptData) (past : List Entry) (e : Entry) (o : Out Coordinator) → IsLawful s → IsStepRun s (e ∷ past)
    → AllApt s (e ∷ past)
    → IsSilentBelow s past (coordinator_in s past)
    → (floor o.state ≡ floor (coordinator_in s past)) ⊎ Raises (coordinator_in s past) e.took.from.0 e.took.body o
    → IsSilentBelow s (e ∷ past) o.state
below_by s past e o laws run apt was (inl same) = below_kept s past e o.state laws run apt was same
below_by s past e o laws run apt was (inr raises) = λ w lt.
    let less : w < (coordinator_in s past).update = omega (arith, raises.to, lt) in
    silent_stays s past e w laws.trees run apt
    (raised_silent s past e o w laws run apt.1 was raises (last_or_less w (coordinator_in s past).update less))
    (closed_counted s past w (levels s past laws run.1 apt.1) raises.takes.phase less)

below_next : (s : ScriptData) (past : List Entry) (e : Entry) → IsLawful s → IsStepRun s (e ∷ past) → AllApt s (e ∷ past)
    → IsSilentBelow s past (coordinator_in s past) → Sending s past e
    → IsSilentBelow s (e ∷ past) (coordinator_in s (e ∷ past))
below_next s past e laws run apt was (SendsApart away plain all) =
    below_kept s past e (coordinator_in s (e ∷ past)) laws run apt was (ap floor (coordinator_kept s past e away))
below_next s past e laws run apt was (SendsDone v k lt bd sent same) =
    below_kept s past e (coordinator_in s (e ∷ past)) laws run apt was
    (ap floor (coordinator_kept s past e (λ eq. omega (arith, eq, lt))))
below_next s past e laws run apt was (SendsAsked v k lt bd sent same) =
    below_kept s past e (coordinator_in s (e ∷ past)) laws run apt was
    (ap floor (coordinator_kept s past e (λ eq. omega (arith, eq, lt))))
below_next s past e laws run apt was (SendsOrders at rowless) =
    let c = coordinator_in s past in
    let row = coordinator_row c e.took.from.0 e.took.body in
    subst (IsSilentBelow s (e ∷ past)) (sym (coordinates s past e laws.keeps run.0 at).state)
    (below_by s past e row laws run apt was
    (floor_next c e.took.from.0 e.took.body row (outcome_in s past e laws run.1 apt.1)))

pub silent_below : (s : ScriptData) (past : List Entry) → IsLawful s → IsStepRun s past → AllApt s past
    → IsSilentBelow s past (coordinator_in s past)
silent_below s [] laws run apt = λ w lt. absurd (omega (arith, lt))
silent_below s (e ∷ past) laws run apt =
    below_next s past e laws run apt (silent_below s past laws run.1 apt.1) (sending s past e laws.trees run apt)

-- of a version that a node has left nothing is outstanding
pub left_silent : (s : ScriptData) (past : List Entry) (v p : ℕ) → IsLawful s → IsStepRun s past → AllApt s past
    → p < s.nodes
    → HasLeft s past v p → IsSilent s past v
left_silent s past v p laws run apt lt left =
    let level = (levels s past laws run apt).node p lt in
    silent_below s past laws run apt v (omega (arith, level.low_to, left))

none_left : (s : ScriptData) (past : List Entry) (v p q : ℕ) → IsLawful s → IsStepRun s past → AllApt s past
    → p < s.nodes → q < s.nodes
    → HasLeft s past v p ⊎ HasLeft s past v q → out s past v p q ≡ 0
none_left s past v p q laws run apt lp lq (inl left) = left_silent s past v p laws run apt lp left p q lp lq
none_left s past v p q laws run apt lp lq (inr left) = left_silent s past v q laws run apt lq left p q lp lq

-- requests are completions and letters
pub balanced : (s : ScriptData) (past : List Entry) → IsLawful s → IsStepRun s past → AllApt s past → IsBalanced s past
balanced s past laws run apt = record {
  equal = λ v p q lp lq low_p low_q. balanced_at s past v p q laws.trees run apt lp lq low_p low_q;
  none = λ v p q lp lq left. none_left s past v p q laws run apt lp lq left;
}
