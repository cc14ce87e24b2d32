-- If no message is in flight, no transaction is busy, and no count has a round.
use Rattle.std.proofs.Common.{◌≡◌, ◌⊎◌, inl, inr, ℕ, ◌<◌, ◌≤◌, ◌==◌, ◌&&◌, Bool, true, false, not, List, ◌∷◌, length, get_or, take, refl, sym, ◌∙◌, arith, []}
use Rattle.std.proofs.lemmas.Bool.Decides.{nat_tests}
use Rattle.phase_out.specs.Rounds.{all_in}
use Rattle.letter_types.specs.declared.entries.Entry.{Entry}
use Rattle.letter_types.specs.declared.entries.Letter.{Letter}
use Rattle.tx_trees.specs.ScriptData.{ScriptData}
use Rattle.tx_trees.specs.Valid.{IsValid}
use Rattle.tx_trees.specs.declared.parts.ScriptRow.{ScriptRow}
use Rattle.tx_trees.specs.declared.parts.ScriptRow.TheVariants.{Tree as TreeRow, Advance as AdvanceRow, Settle as SettleRow, Lose as LoseRow}
use Rattle.world_model.specs.AllApt.{AllApt}
use Rattle.world_model.specs.Counts.{tally, one_if}
use Rattle.world_model.specs.Runs.{client_in, in_flight, IsStepRun}
use Rattle.world_model.proofs.Bags.{one_if_same}
use Rattle.advance_laws.proofs.counting.Counting.{AfterRound, Count, InRound, IsCounting, NoRound, Pace, Premise}
use Rattle.advance_laws.proofs.phases.Steps.{shaped}
use Rattle.tree_laws.specs.Dids.{answers, is_row_of, replies_to, roots_sent}
use Rattle.tree_laws.specs.Turns.{turns}
use Rattle.tree_laws.proofs.homes.Finishes.{is_true_of, none_left, rooted_below}
use Rattle.tree_laws.proofs.homes.Sent.{tally_take_le}
use Rattle.run_laws.proofs.ending.Measures.{busy, nudges, unanswered}
use Rattle.run_laws.proofs.ending.Heard.{all_of, wave, waves_heard}
use Rattle.run_laws.proofs.ending.Pauses.{IsSteady, rows_bound}
use Rattle.run_laws.proofs.ending.Resting.{IsSettled, settled}
use Rattle.run_laws.proofs.ending.Stopping.{answer_known}

-- Trees: each that is born is answered, and the client has heard.
born_or_heard : (n : ℕ) (heard : Bool) → (n ≡ 0) ⊎ (heard ≡ true) → one_if (not (n == 0) && not heard) ≡ 0
born_or_heard n heard (inl none) = let test : (n == 0) ≡ true = grind (arith, nat_tests) in rw test refl
born_or_heard n heard (inr is) = rw is (by (n == 0)) where
  by : (b : Bool) → one_if (not b && false) ≡ 0
  by true = refl
  by false = refl

left_none : (past : List Entry) (answered : List Bool) (rows : List ScriptRow)
    → ((t : ℕ) → 1 ≤ roots_sent t rows → (turns past t 0 ≡ 0) ⊎ (get_or answered t false ≡ true))
    → tally (unanswered past answered) rows ≡ 0
left_none past answered [] all = refl
left_none past answered (TreeRow t ∷ rows) all =
    omega (
      arith,
      born_or_heard (turns past t.0 0) (get_or answered t.0 false) (all t.0 (omega (arith, one_if_same t.0))),
      left_none past answered rows (λ u some. all u (omega (arith, some))),
    )
left_none past answered (AdvanceRow ∷ rows) all =
    omega (arith, left_none past answered rows (λ u some. all u (omega (arith, some))))
left_none past answered (SettleRow ∷ rows) all =
    omega (arith, left_none past answered rows (λ u some. all u (omega (arith, some))))
left_none past answered (LoseRow ∷ rows) all =
    omega (arith, left_none past answered rows (λ u some. all u (omega (arith, some))))

-- a tree that is answered is one of which the client has heard
pub heard_now : (s : ScriptData) (past : List Entry) (t : ℕ) → IsValid s → IsStepRun s past → in_flight s past ≡ []
    → t < length s.trees
    → 1 ≤ answers past t → get_or (client_in s past).answered t false ≡ true
heard_now s past t valid run empty lt some =
    is_true_of (get_or (client_in s past).answered t false)
    (omega (arith, answer_known s past t valid run lt some, none_left (λ (l : Letter). replies_to t l.body) s past empty))

pub tree_in : (s : ScriptData) (past : List Entry) (t : ℕ) → IsValid s → 1 ≤ roots_sent t (take (client_in s past).next s.rows)
    → t < length s.trees
tree_in s past t valid row =
    let next = (client_in s past).next in
    rooted_below t 0 (length s.trees) s.rows valid.rows (omega (arith, row, tally_take_le (is_row_of t) next s.rows))

over_by : (s : ScriptData) (past : List Entry) (t : ℕ) → IsValid s → IsStepRun s past → in_flight s past ≡ []
    → t < length s.trees → IsSettled past t
    → (turns past t 0 ≡ 0) ⊎ (get_or (client_in s past).answered t false ≡ true)
over_by s past t valid run empty lt (inl none) = inl none
over_by s past t valid run empty lt (inr some) = inr (heard_now s past t valid run empty lt some)

-- nothing is busy
pub none_busy : (s : ScriptData) (past : List Entry) → IsValid s → IsStepRun s past → in_flight s past ≡ [] → busy s past ≡ 0
none_busy s past valid run empty =
    let c = client_in s past in
    omega (
      arith,
      none_left (λ (l : Letter). nudges l.body) s past empty,
      left_none past c.answered (take c.next s.rows) (λ t row.
          (let lt = tree_in s past t valid row in
          over_by s past t valid run empty lt (settled s past t valid run empty lt))),
    )

-- Rounds.
-- a round that is counted has a letter in flight
not_counting : (s : ScriptData) (count : List Entry → Count) (G : Premise) → IsCounting s count G
    → (past : List Entry) → IsStepRun s past → AllApt s past → (reads : Bool) → in_flight s past ≡ []
    → (count past).pace ≡ InRound reads → ⊥
not_counting s count G view past run apt reads empty at =
    let r = (count past).round in
    let now = shaped s count G view past run apt reads at in
    let waved = waves_heard s count G view past run apt reads at in
    let none : (two : Bool) (q : ℕ) → tally (λ (l : Letter). wave two r.version.0 r.number q s.nodes l.from.0 l.to.0 l.body)
    (in_flight s past) ≡ 0 =
    λ two q. none_left (λ (l : Letter). wave two r.version.0 r.number q s.nodes l.from.0 l.to.0 l.body) s past empty in
    let dones : all_in r.dones ≡ true =
    all_of r.dones (λ q lt. omega (arith, waved.first q (omega (arith, lt, now.dones)), none false q)) in
    let askeds : all_in r.askeds ≡ true =
    all_of r.askeds (λ q lt. omega (arith, waved.second dones q (omega (arith, lt, now.askeds)), none true q)) in
    let clash : true ≡ false = sym askeds ∙ waved.misses in
    cc clash

-- and a pause is busy
round_over : (s : ScriptData) (count : List Entry → Count) (G : Premise) → IsCounting s count G → IsSteady s count
    → (past : List Entry) (valid : IsValid s) (run : IsStepRun s past) → AllApt s past → in_flight s past ≡ [] → (p : Pace)
    → (count past).pace ≡ p → (count past).pace ≡ NoRound
round_over s count G view steady past valid run apt empty (InRound reads) at =
    absurd (not_counting s count G view past run apt reads empty at)
round_over s count G view steady past valid run apt empty AfterRound at =
    absurd (omega (arith, (rows_bound s count G view steady past valid run apt).pausing at, none_busy s past valid run empty))
round_over s count G view steady past valid run apt empty NoRound at = at

-- so no count has a round
pub no_round : (s : ScriptData) (count : List Entry → Count) (G : Premise) → IsCounting s count G → IsSteady s count
    → (past : List Entry) (valid : IsValid s) (run : IsStepRun s past) → AllApt s past → in_flight s past ≡ []
    → (count past).pace ≡ NoRound
no_round s count G view steady past valid run apt empty =
    round_over s count G view steady past valid run apt empty (count past).pace refl
