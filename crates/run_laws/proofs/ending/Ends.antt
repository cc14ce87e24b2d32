-- If no message is in flight, the coordinator is idle, nothing is deferred, and the client has finished.
use Rattle.std.proofs.Common.{◌≡◌, inl, inr, ℕ, zero, suc, ◌+◌, ◌<◌, ◌≤◌, Bool, true, false, List, ◌++◌, length, get_or, map, reverse, take, refl, sym, ap, subst, ◌∙◌, arith, []}
use Rattle.std.specs.Prelude.{nat_le}
use Rattle.std.proofs.lemmas.Bool.{and_from}
use Rattle.std.proofs.lemmas.Bool.Decides.{nat_tests}
use Rattle.std.proofs.Math.Seq.{take-length}
use Rattle.letter_types.specs.declared.entries.Entry.{Entry}
use Rattle.letter_types.specs.declared.entries.Letter.{Letter}
use Rattle.letter_types.specs.declared.kept.KeptLetter.{KeptLetter}
use Rattle.board_rules.specs.Histories.{Place, places_of}
use Rattle.board_rules.specs.Right.{HasFinished, finishes}
use Rattle.tx_trees.specs.Counts.{advances_in, is_lossy}
use Rattle.tx_trees.specs.ScriptData.{ScriptData}
use Rattle.tx_trees.specs.Valid.{IsValid}
use Rattle.tx_trees.specs.declared.parts.ScriptRow.{ScriptRow}
use Rattle.world_model.specs.Client.{all_answered, have_ended}
use Rattle.world_model.specs.declared.phase.Phase.{Phase}
use Rattle.world_model.specs.declared.phase.Phase.TheVariants.{Idle, Turning, Counting, Paused, Showing, Sweeping}
use Rattle.world_model.specs.Counts.{tally, one_if}
use Rattle.world_model.specs.Kept.{kept_by, kept_in, outstanding}
use Rattle.world_model.specs.Node.{Node}
use Rattle.world_model.specs.Runs.{client_in, coordinator_in, node_in, in_flight, IsStepRun}
use Rattle.world_model.proofs.Bags.{tally-append}
use Rattle.advance_laws.specs.Advances.{asked_for, is_advance_letter, is_advanced, running}
use Rattle.advance_laws.specs.Phases.{IsInPhase, Stage, TurnStage, ShowStage, SweepStage, token, within}
use Rattle.advance_laws.proofs.counting.CoordinatorCounts.{Always, coordinator_counts, count_in, pace_of}
use Rattle.advance_laws.proofs.counting.Counting.{NoRound}
use Rattle.advance_laws.proofs.phases.Levels.{versions_in_phase}
use Rattle.advance_laws.proofs.phases.Small.{small}
use Rattle.advance_laws.proofs.recovery.Tokens.{told}
use Rattle.tree_laws.specs.Dids.{asks, is_go, roots_sent}
use Rattle.tree_laws.specs.Ends.{is_finish}
use Rattle.tree_laws.specs.Turns.{turns}
use Rattle.tree_laws.proofs.histories.Acts.{counted_any, finish_marks, of_act}
use Rattle.tree_laws.proofs.apt.AptTurns.{roots_have_turns}
use Rattle.tree_laws.proofs.histories.Client.{finish_count}
use Rattle.tree_laws.proofs.homes.Finishes.{all_answered_of, at_end, finishes_of, none_left}
use Rattle.run_laws.proofs.ending.Pauses.{coordinator_steady}
use Rattle.run_laws.proofs.each_tree.EveryApt.{all_apt, lawful}
use Rattle.run_laws.proofs.ending.Resting.{IsSettled, nothing_waits, settled}
use Rattle.run_laws.proofs.ending.Stopping.{stopping}
use Rattle.run_laws.proofs.ending.RoundsOver.{heard_now, no_round, tree_in}
use Rattle.run_laws.proofs.ending.EndsAnew.{above_anew, ended_anew}

-- A coordinator that remembers.
not_telling : (s : ScriptData) (past : List Entry) (valid : IsValid s) (keeps : is_lossy s ≡ false) (run : IsStepRun s past)
    (g : Stage) (phase : Phase) → in_flight s past ≡ [] → (coordinator_in s past).phase ≡ phase
    → ((k : ℕ) → within g phase k ≡ k) → ⊥
not_telling s past valid keeps run g phase empty at fills =
    let c = coordinator_in s past in
    let all = told g s past (lawful s valid keeps) run (all_apt s past valid run) in
    let none = none_left (λ (l : Letter). token g l.body) s past empty in
    let acks : within g c.phase c.acks ≡ c.acks = ap (λ (p : Phase). within g p c.acks) at ∙ fills c.acks in
    let nodes : within g c.phase s.nodes ≡ s.nodes = ap (λ (p : Phase). within g p s.nodes) at ∙ fills s.nodes in
    absurd (omega (arith, all, none, acks, nodes, (small s past (lawful s valid keeps) run (all_apt s past valid run)).acks))

round_ended : (s : ScriptData) (past : List Entry) (valid : IsValid s) (keeps : is_lossy s ≡ false) (run : IsStepRun s past)
    (phase : Phase) → in_flight s past ≡ [] → (coordinator_in s past).phase ≡ phase → pace_of phase ≡ NoRound
round_ended s past valid keeps run phase empty at =
    sym (ap pace_of at)
    ∙ no_round s (count_in s) Always (coordinator_counts s (lawful s valid keeps)) (coordinator_steady s valid keeps) past
    valid run (all_apt s past valid run) empty

idle_by : (s : ScriptData) (past : List Entry) (valid : IsValid s) (keeps : is_lossy s ≡ false) (run : IsStepRun s past)
    → in_flight s past ≡ []
    → (phase : Phase) → (coordinator_in s past).phase ≡ phase → running (coordinator_in s past).phase ≡ 0
idle_by s past valid keeps run empty Idle at = ap running at
idle_by s past valid keeps run empty Turning at =
    absurd (not_telling s past valid keeps run TurnStage Turning empty at (λ k. refl))
idle_by s past valid keeps run empty Showing at =
    absurd (not_telling s past valid keeps run ShowStage Showing empty at (λ k. refl))
idle_by s past valid keeps run empty Sweeping at =
    absurd (not_telling s past valid keeps run SweepStage Sweeping empty at (λ k. refl))
idle_by s past valid keeps run empty (Counting reads) at =
    absurd (cc (round_ended s past valid keeps run (Counting reads) empty at))
idle_by s past valid keeps run empty (Paused reads) at =
    absurd (cc (round_ended s past valid keeps run (Paused reads) empty at))

-- no advancement is in progress
pub idle : (s : ScriptData) (past : List Entry) (valid : IsValid s) (keeps : is_lossy s ≡ false) (run : IsStepRun s past)
    → in_flight s past ≡ []
    → running (coordinator_in s past).phase ≡ 0
idle s past valid keeps run empty = idle_by s past valid keeps run empty (coordinator_in s past).phase refl

-- so each node updates the version after the one that it reads
one_above : (phase : Phase) (u : ℕ) (st : Node) → running phase ≡ 0 → 1 ≤ u → IsInPhase phase u st.turns
    → st.turns.update.0 ≡ st.turns.read.0 + 1
one_above Idle u st rests some at = omega (arith, some, at.update_from, at.update_to, at.read_from, at.read_to)
one_above Turning u st rests some at = absurd (omega (arith, rests))
one_above (Counting reads) u st rests some at = absurd (omega (arith, rests))
one_above (Paused reads) u st rests some at = absurd (omega (arith, rests))
one_above Showing u st rests some at = absurd (omega (arith, rests))
one_above Sweeping u st rests some at = absurd (omega (arith, rests))

above_kept : (s : ScriptData) (past : List Entry) (p : ℕ) → IsValid s → is_lossy s ≡ false → IsStepRun s past
    → in_flight s past ≡ [] → p < s.nodes
    → (node_in s past p).turns.update.0 ≡ (node_in s past p).turns.read.0 + 1
above_kept s past p valid keeps run empty lt =
    let laws = lawful s valid keeps in
    let apt = all_apt s past valid run in
    one_above (coordinator_in s past).phase (coordinator_in s past).update (node_in s past p)
    (idle s past valid keeps run empty)
    (omega (arith, (small s past laws run apt).ended)) (versions_in_phase s past laws run apt p lt)

-- and that each advancement that was asked for has ended
ended_kept : (s : ScriptData) (past : List Entry) → IsValid s → is_lossy s ≡ false → IsStepRun s past → in_flight s past ≡ []
    → (client_in s past).ended ≡ asked_for s past
ended_kept s past valid keeps run empty =
    let rests = idle s past valid keeps run empty in
    let now = small s past (lawful s valid keeps) run (all_apt s past valid run) in
    omega (
      arith,
      rests,
      now.idle rests,
      now.asked,
      now.ended,
      none_left (λ (l : Letter). is_advance_letter l.body) s past empty,
      none_left (λ (l : Letter). is_advanced l.body) s past empty,
    )

-- Nothing is kept, whichever coordinator the script has: no root waits.
above : (s : ScriptData) (past : List Entry) (p : ℕ) → IsValid s → IsStepRun s past → in_flight s past ≡ [] → p < s.nodes
    → (node_in s past p).turns.update.0 ≡ (node_in s past p).turns.read.0 + 1
above s past p valid run empty lt = by (is_lossy s) refl where
  by : (loses : Bool) → is_lossy s ≡ loses → (node_in s past p).turns.update.0 ≡ (node_in s past p).turns.read.0 + 1
  by true is = above_anew s past valid is run empty p lt
  by false is = above_kept s past p valid is run empty lt

pub nothing_kept : (s : ScriptData) (past : List Entry) (p : ℕ) → IsValid s → IsStepRun s past → in_flight s past ≡ []
    → p < s.nodes
    → kept_in s past p ≡ []
nothing_kept s past p valid run empty lt = nothing_waits s past p valid run empty lt (above s past p valid run empty lt)

kept_empty : (s : ScriptData) (past : List Entry) (n : ℕ) → ((p : ℕ) → p < n → kept_in s past p ≡ []) → kept_by s past n ≡ []
kept_empty s past zero none = refl
kept_empty s past (suc n) none =
    (λ i.
    kept_empty s past n (λ p lt. none p (omega (arith, lt))) i
    ++ map (λ (x : KeptLetter). x.letter) (none n (omega arith) i))

none_asked : (f : Letter → ℕ) (s : ScriptData) (past : List Entry) → IsValid s → IsStepRun s past → in_flight s past ≡ []
    → tally f (outstanding s past) ≡ 0
none_asked f s past valid run empty =
    omega (
      arith,
      tally-append f (in_flight s past) (kept_by s past s.nodes),
      none_left f s past empty,
      ap (λ (ls : List Letter). tally f ls) (kept_empty s past s.nodes (λ p lt. nothing_kept s past p valid run empty lt)),
    )

-- So each tree whose row is submitted is answered, and the client has heard.
answered_by : (s : ScriptData) (past : List Entry) (t : ℕ) → IsValid s → IsStepRun s past → in_flight s past ≡ []
    → t < length s.trees
    → 1 ≤ turns past t 0 → IsSettled past t → get_or (client_in s past).answered t false ≡ true
answered_by s past t valid run empty lt born (inl none) = absurd (omega (arith, born, none))
answered_by s past t valid run empty lt born (inr some) = heard_now s past t valid run empty lt some

pub answered_now : (s : ScriptData) (past : List Entry) (t : ℕ) → IsValid s → IsStepRun s past → in_flight s past ≡ []
    → 1 ≤ roots_sent t (take (client_in s past).next s.rows) → get_or (client_in s past).answered t false ≡ true
answered_now s past t valid run empty row =
    let lt = tree_in s past t valid row in
    answered_by s past t valid run empty lt
    (omega (
      arith,
      row,
      roots_have_turns s past t valid (all_apt s past valid run) run,
      none_asked (λ (l : Letter). asks t 0 l.body) s past valid run empty,
    ))
    (settled s past t valid run empty lt)

-- The client.
-- each advancement that was asked for has ended
pub ended_all : (s : ScriptData) (past : List Entry) → IsValid s → IsStepRun s past → in_flight s past ≡ []
    → (client_in s past).ended ≡ asked_for s past
ended_all s past valid run empty = by (is_lossy s) refl where
  by : (loses : Bool) → is_lossy s ≡ loses → (client_in s past).ended ≡ asked_for s past
  by true is = ended_anew s past valid is run empty
  by false is = ended_kept s past valid is run empty

same_most : (n m : ℕ) → m ≡ n → nat_le n m ≡ true
same_most n m same = grind (arith, nat_tests)

-- all that was submitted has ended
ended_now : (s : ScriptData) (past : List Entry) → IsValid s → IsStepRun s past → in_flight s past ≡ []
    → have_ended (client_in s past) (take (client_in s past).next s.rows) ≡ true
ended_now s past valid run empty =
    let c = client_in s past in
    and_from (all_answered c.answered (take c.next s.rows)) (nat_le (advances_in (take c.next s.rows)) c.ended)
    (all_answered_of c.answered (take c.next s.rows) (λ t row. answered_now s past t valid run empty row))
    (same_most (advances_in (take c.next s.rows)) c.ended (ended_all s past valid run empty))

-- all rows are submitted
pub all_submitted : (s : ScriptData) (past : List Entry) → IsValid s → IsStepRun s past → in_flight s past ≡ []
    → (client_in s past).next ≡ length s.rows
all_submitted s past valid run empty =
    at_end s (client_in s past) ((stopping s past valid run).stops (none_left (λ (l : Letter). is_go l.body) s past empty))
    (ended_now s past valid run empty)

pub all_rows : (s : ScriptData) (past : List Entry) → IsValid s → IsStepRun s past → in_flight s past ≡ []
    → take (client_in s past).next s.rows ≡ s.rows
all_rows s past valid run empty =
    ap (λ (n : ℕ). take n s.rows) (all_submitted s past valid run empty) ∙ take-length s.rows

-- the client has finished
pub finished : (s : ScriptData) (past : List Entry) → IsValid s → IsStepRun s past → in_flight s past ≡ []
    → (client_in s past).finished ≡ true
finished s past valid run empty =
    (stopping s past valid run).finishes (none_left (λ (l : Letter). is_go l.body) s past empty)
    (all_submitted s past valid run empty)
    (subst (λ (xs : List ScriptRow). have_ended (client_in s past) xs ≡ true) (all_rows s past valid run empty)
    (ended_now s past valid run empty))

-- and its history says so
some_counted : (past : List Entry) → 1 ≤ finish_count past → HasFinished (reverse past)
some_counted past some =
    counted_any (of_act is_finish) (λ (x : Place). finishes x.act) (places_of (reverse past)) (λ x. finish_marks x.act)
    (omega (arith, some, finishes_of past))

has_finished : (s : ScriptData) (past : List Entry) → IsValid s → IsStepRun s past → (client_in s past).finished ≡ true
    → HasFinished (reverse past)
has_finished s past valid run is =
    let one : one_if (client_in s past).finished ≡ 1 = ap one_if is in
    some_counted past (omega (arith, one, (stopping s past valid run).told))

-- where no letter is left, the client has finished, and its history says so
pub no_run_stalls : (s : ScriptData) (past : List Entry) → IsValid s → IsStepRun s past → in_flight s past ≡ []
    → ((client_in s past).finished ≡ true) × HasFinished (reverse past)
no_run_stalls s past valid run empty =
    let is = finished s past valid run empty in (is, has_finished s past valid run is)
