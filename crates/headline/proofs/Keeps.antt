-- Each act of an entry keeps to the script: what is born or turned comes of a row that the client has submitted, and
-- the client finishes when all is over.
use Rattle.std.proofs.Common.{◌≡◌, ◌≢◌, ◌⊎◌, inl, inr, ℕ, zero, suc, ◌+◌, ◌-◌, ◌<◌, ◌≤◌, Bool, true, false, List, [], ◌∷◌, reverse, take, refl, sym, ap, subst, arith, Some}
use Rattle.std.specs.Prelude.{if◌then◌else◌, slice_get}
use Rattle.std.proofs.lemmas.Bool.{cases_eq, ltb-true}
use Rattle.tv_base.specs.declared.numbers.TreeNo.{TreeNo}
use Rattle.letter_types.specs.declared.acts.Act.{Act}
use Rattle.letter_types.specs.declared.acts.Act.TheVariants.{Born, Finished, Turned}
use Rattle.letter_types.specs.declared.bodies.Body.TheVariants.{Root}
use Rattle.letter_types.specs.declared.entries.Entry.{Entry}
use Rattle.letter_types.specs.declared.entries.Letter.{Letter}
use Rattle.world_model.specs.Node.{Node}
use Rattle.tx_trees.specs.Counts.{advances_in}
use Rattle.tx_trees.specs.ScriptData.{ScriptData, client_of}
use Rattle.tx_trees.specs.Valid.{IsValid}
use Rattle.tx_trees.specs.declared.parts.ScriptRow.{ScriptRow}
use Rattle.tx_trees.specs.declared.parts.ScriptRow.TheVariants.{Tree as TreeRow, Advance as AdvanceRow, Settle as SettleRow, Lose as LoseRow}
use Rattle.board_rules.specs.Gates.{IsBornByItsRow, IsEnd, IsTurnedByItsRow, KeepsTo, KeepsToAt}
use Rattle.board_rules.specs.Histories.{Place, places_at, places_of}
use Rattle.board_rules.specs.Moves.{OneByOne}
use Rattle.board_rules.specs.Right.{finishes as finishes_act, has_finished}
use Rattle.world_model.specs.Client.{client_finishes, next_after, with_answer, with_end}
use Rattle.world_model.specs.Counts.{one_if, tally}
use Rattle.world_model.specs.AllApt.{AllApt}
use Rattle.world_model.specs.Runs.{IsStepRun, client_in, keeping_in, node_in}
use Rattle.world_model.proofs.Every.{node_kept}
use Rattle.world_model.proofs.Cases.{case}
use Rattle.world_model.proofs.Bags.{one_if_both}
use Rattle.tree_laws.specs.Dids.{asks, letters_asking}
use Rattle.tree_laws.specs.Ends.{is_finish}
use Rattle.tree_laws.proofs.histories.Acts.{any_counted, finish_marks, of_act}
use Rattle.tree_laws.proofs.apt.AptTurns.{roots_have_turns}
use Rattle.tree_laws.proofs.homes.Finishes.{finishes_of, is_true_of}
use Rattle.run_laws.proofs.each_tree.EveryApt.{all_apt}
use Rattle.run_laws.proofs.each_tree.InTime.{advancing_run}
use Rattle.advance_laws.specs.Given.{greatest_given}
use Rattle.advance_laws.specs.Phases.{TurnStage}
use Rattle.advance_laws.proofs.governed.Brought.{BringsTo, brought_outstanding}
use Rattle.advance_laws.proofs.right.ClientSteps.{Aside, Begins, ClientStep, Ends, Hears, Tells, client_step}
use Rattle.run_laws.proofs.births.NodeNumbers.{node_numbers}
use Rattle.run_laws.proofs.act_order.Openings.{OpensFor, opens, opens_as}
use Rattle.run_laws.proofs.births.Raised.{raised_most}
use Rattle.tree_laws.proofs.homes.Counted.{placed}
use Rattle.headline.proofs.Answered.{answered_before, answered_whole}
use Rattle.headline.proofs.Finished.{AreAtRest, over_run}
use Rattle.headline.proofs.Finishing.{finishing_run, none_finishes}
use Rattle.headline.proofs.Opens.{open_run}
use Rattle.headline.proofs.TreeRows.{tree_row}

-- The row of an advancement.

-- where the first rows ask for more than k advancements, one of them has k before it
record AdvanceAt (k n : ℕ) (rows : List ScriptRow) : Type 0 where
  row : ℕ
  early : row < n
  there : slice_get rows row ≡ Some AdvanceRow
  number : advances_in (take row rows) ≡ k

passes_by : (k n : ℕ) (r : ScriptRow) (rows : List ScriptRow) (m : ℕ) → advances_in (r ∷ []) + k ≡ m → AdvanceAt k n rows
    → AdvanceAt m (suc n) (r ∷ rows)
passes_by k n r rows m is found = record {
  row = suc found.row;
  early = omega (arith, found.early);
  there = found.there;
  number = omega (arith, found.number, is);
}

advance_row : (k n : ℕ) (rows : List ScriptRow) → k < advances_in (take n rows) → AdvanceAt k n rows
advance_row k zero rows lt = absurd (omega (arith, lt))
advance_row k (suc n) [] lt = absurd (omega (arith, lt))
advance_row zero (suc n) (AdvanceRow ∷ rows) lt = record { row = 0; early = omega arith; there = refl; number = refl }
advance_row (suc k) (suc n) (AdvanceRow ∷ rows) lt =
    passes_by k n AdvanceRow rows (suc k) (omega arith) (advance_row k n rows (omega (arith, lt)))
advance_row k (suc n) (TreeRow t ∷ rows) lt = passes_by k n (TreeRow t) rows k (omega arith) (advance_row k n rows (omega (arith, lt)))
advance_row k (suc n) (SettleRow ∷ rows) lt = passes_by k n SettleRow rows k (omega arith) (advance_row k n rows (omega (arith, lt)))
advance_row k (suc n) (LoseRow ∷ rows) lt = passes_by k n LoseRow rows k (omega arith) (advance_row k n rows (omega (arith, lt)))

-- A tree whose root is asked for is born by its row.
born : (s : ScriptData) (past : List Entry) (e : Entry) (p : ℕ) (r : Letter) (t : TreeNo) → IsValid s → IsStepRun s (e ∷ past)
    → BringsTo s past e p r → r.body ≡ Root t → IsBornByItsRow s (places_of (reverse past)) t.0
born s past e p r t valid run b is =
    let next = (client_in s past).next in
    let some : 1 ≤ letters_asking s past t.0 0 =
    omega (
      arith,
      ap (asks t.0 0) is,
      one_if_both t.0 0,
      brought_outstanding s past e p r b run.0 (λ (l : Letter). asks t.0 0 l.body),
    ) in
    let (i, lt, at) = tree_row t.0 next s.rows (omega (arith, some, roots_have_turns s past t.0 valid (all_apt s past valid run.1) run.1)) in
    record { row = i; there = at; gate = open_run s past i valid run.1 (omega (arith, lt)) }

-- A node turns by the row of an advancement.
turned : (s : ScriptData) (past : List Entry) (p v : ℕ) → IsValid s → IsStepRun s past → p < s.nodes
    → (node_in s past p).turns.update.0 < v → v ≤ greatest_given TurnStage past → IsTurnedByItsRow s (places_of (reverse past)) v
turned s past p v valid run pl lt le =
    let all = advancing_run s past valid run in
    let some : 2 ≤ v = omega (arith, lt, (all.within p pl).showed_update) in
    let found = advance_row (v - 2) (client_in s past).next s.rows (omega (arith, all.asked, le, some)) in
    record {
      row = found.row;
      there = found.there;
      number = omega (arith, found.number, some);
      gate = open_run s past found.row valid run (omega (arith, found.early));
    }

-- The client finishes when all is over.
not_finished : (past : List Entry) (test : Bool) → has_finished (places_of (reverse past)) ≡ test
    → tally (of_act is_finish) (places_of (reverse past)) ≡ 0 → test ≡ false
not_finished past true is none =
    let some = any_counted (of_act is_finish) (λ (x : Place). finishes_act x.act) (places_of (reverse past)) (λ x. finish_marks x.act) is in
    absurd (omega (arith, some, none))
not_finished past false is none = refl

finished : (s : ScriptData) (past : List Entry) (e : Entry) → IsValid s → IsStepRun s (e ∷ past) → e.actor.0 ≡ client_of s
    → e.acts ≡ Finished ∷ [] → IsEnd s (places_of (reverse past)) e.actor.0
finished s past e valid run at acts =
    let a = advances_in s.rows in
    let rest = finishing_run s (e ∷ past) valid run in
    let one : tally is_finish e.acts ≡ 1 = ap (λ (xs : List Act). tally is_finish xs) acts in
    let now : (client_in s (e ∷ past)).finished ≡ true = is_true_of (client_in s (e ∷ past)).finished (omega (arith, rest.once, one)) in
    let most : one_if (client_in s (e ∷ past)).finished ≡ 1 = ap one_if now in
    let over = over_run s (e ∷ past) valid run now in
    let turns : (p : ℕ) → p < s.nodes → AreAtRest a (node_in s past p).turns =
    λ p lt. subst (λ (st : Node). AreAtRest a st.turns) (node_kept s past e p (omega (arith, at, lt))) (over.turns p lt) in
    record {
      client = at;
      once = not_finished past (has_finished (places_of (reverse past))) refl (omega (arith, finishes_of past, rest.once, one, most));
      whole = λ t lt. answered_whole s past t valid run.1 lt (answered_before s past e t valid run (over.heard t lt));
      update = λ p lt. omega (arith, (node_numbers s past valid run.1 p lt).update, (turns p lt).update);
      read = λ p lt. omega (arith, (node_numbers s past valid run.1 p lt).read, (turns p lt).read);
      low = λ p lt. omega (arith, (node_numbers s past valid run.1 p lt).low, (turns p lt).low);
    }

-- The acts of an entry, one after the other.
abbrev pub KeepAll : ScriptData → List Place → List Place → Type 0
KeepAll s xs ys = OneByOne (KeepsTo s) xs ys

by_acts : (s : ScriptData) (past : List Entry) (e : Entry) (acts : List Act) → e.acts ≡ acts
    → KeepAll s (places_of (reverse past)) (placed e.actor.0 acts) → KeepAll s (places_of (reverse past)) (places_at e)
by_acts s past e acts is keep = subst (λ (xs : List Act). KeepAll s (places_of (reverse past)) (placed e.actor.0 xs)) (sym is) keep

client_keeps : (s : ScriptData) (past : List Entry) (e : Entry) (test : Bool) → IsValid s → IsStepRun s (e ∷ past) → e.actor.0 ≡ client_of s
    → e.acts ≡ (if test then Finished ∷ [] else []) → KeepAll s (places_of (reverse past)) (places_at e)
client_keeps s past e true valid run at acts = by_acts s past e (Finished ∷ []) acts (finished s past e valid run at acts, tt)
client_keeps s past e false valid run at acts = by_acts s past e [] acts tt

by_client : (s : ScriptData) (past : List Entry) (e : Entry) → IsValid s → IsStepRun s (e ∷ past) → e.actor.0 ≡ client_of s → ClientStep s past e
    → KeepAll s (places_of (reverse past)) (places_at e)
by_client s past e valid run at (Begins is made) =
    let c = client_in s past in client_keeps s past e (client_finishes s (next_after s c) c) valid run at made.acts
by_client s past e valid run at (Hears t v answer is lt made) =
    let c = with_answer t.0 (client_in s past) in client_keeps s past e (client_finishes s (next_after s c) c) valid run at made.acts
by_client s past e valid run at (Ends v is made) =
    let c = with_end s v (client_in s past) in client_keeps s past e (client_finishes s (next_after s c) c) valid run at made.acts
by_client s past e valid run at (Tells n is loses made) = by_acts s past e [] made.acts tt
by_client s past e valid run at (Aside ne) = absurd (ne at)

-- An act that opens an entry of a node.
opening_keeps : (s : ScriptData) (past : List Entry) (e : Entry) (p : ℕ) (r : Letter) (a : Act) → IsValid s → IsStepRun s (e ∷ past)
    → BringsTo s past e p r → opens a ≡ true → OpensFor s (keeping_in s past p).core r.body a
    → KeepsToAt s (places_of (reverse past)) e.actor.0 a
opening_keeps s past e p r (Born t v) valid run b is for = born s past e p r t valid run b for
opening_keeps s past e p r (Turned v) valid run b is for =
    turned s past p v.0 valid run.1 b.below (ltb-true (node_in s past p).turns.update.0 v.0 for.0) (raised_most s past e p r v valid run b for.1)
opening_keeps s past e p r Finished valid run b is for = absurd (cc is)
opening_keeps s past e p r _ valid run b is for = tt

-- any other act asks for nothing, but for the end
other_keeps : (s : ScriptData) (xs : List Place) (node : ℕ) (a : Act) → opens a ≡ false → is_finish a ≡ 0 → KeepsToAt s xs node a
other_keeps s xs node (Born t v) none quiet = absurd (cc none)
other_keeps s xs node (Turned v) none quiet = absurd (cc none)
other_keeps s xs node Finished none quiet = absurd (omega (arith, quiet))
other_keeps s xs node _ none quiet = tt

others_keep : (s : ScriptData) (xs : List Place) (node : ℕ) (acts : List Act)
    → ((j : ℕ) (a : Act) → slice_get acts j ≡ Some a → opens a ≡ true → ⊥) → tally is_finish acts ≡ 0 → KeepAll s xs (placed node acts)
others_keep s xs node [] none quiet = tt
others_keep s xs node (a ∷ acts) none quiet =
    (by (opens a) refl, others_keep s _ node acts (λ j b at is. none (suc j) b at is) (omega (arith, quiet))) where
      by : (test : Bool) → opens a ≡ test → KeepsToAt s xs node a
      by true is = absurd (none 0 a refl is)
      by false is = other_keeps s xs node a is (omega (arith, quiet))

-- so where the first act alone opens an entry
first_keeps : (s : ScriptData) (xs : List Place) (node : ℕ) (acts : List Act)
    → ((j : ℕ) (a : Act) → slice_get acts j ≡ Some a → opens a ≡ true → (j ≡ 0) × KeepsToAt s xs node a) → tally is_finish acts ≡ 0
    → KeepAll s xs (placed node acts)
first_keeps s xs node [] each quiet = tt
first_keeps s xs node (a ∷ acts) each quiet =
    (by (opens a) refl, others_keep s _ node acts (λ j b at is. later j (each (suc j) b at is).0) (omega (arith, quiet))) where
      by : (test : Bool) → opens a ≡ test → KeepsToAt s xs node a
      by true is = (each 0 a refl is).1
      by false is = other_keeps s xs node a is (omega (arith, quiet))

      later : (j : ℕ) → suc j ≡ 0 → ⊥
      later j is = omega (arith, is)

by_node : (s : ScriptData) (past : List Entry) (e : Entry) → IsValid s → IsStepRun s (e ∷ past) → tally is_finish e.acts ≡ 0
    → KeepAll s (places_of (reverse past)) (places_at e)
by_node s past e valid run quiet =
    first_keeps s (places_of (reverse past)) e.actor.0 e.acts
    (λ j a at is.
    let o = opens_as s past e j a valid run at is in (o.first, opening_keeps s past e o.node o.letter a valid run o.brings is o.is))
    quiet

-- the acts of the last entry of a run
pub entry_keeps : (s : ScriptData) (past : List Entry) (e : Entry) → IsValid s → IsStepRun s (e ∷ past)
    → KeepAll s (places_of (reverse past)) (places_at e)
entry_keeps s past e valid run = by (cases_eq e.actor.0 (client_of s)) where
  apt : AllApt s (e ∷ past)
  apt = all_apt s (e ∷ past) valid run

  by : (e.actor.0 ≡ client_of s) ⊎ (e.actor.0 ≢ client_of s) → KeepAll s (places_of (reverse past)) (places_at e)
  by (inl at) = by_client s past e valid run at (client_step s past e valid run)
  by (inr ne) = by_node s past e valid run (none_finishes s past e ne (case s past e run.0 apt.0))
