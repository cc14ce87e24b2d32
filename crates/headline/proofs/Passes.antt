-- The client passes a settle row only when all before it has ended. So for each row that it has submitted, and for the
-- one that it is at, all for which the row waits has ended at the client.
use Rattle.std.proofs.Common.{◌≡◌, ℕ, zero, suc, ◌+◌, ◌-◌, ◌≤◌, Bool, true, false, List, [], ◌∷◌, ◌++◌, take, drop, refl, sym, ap, subst, ◌∙◌, arith, append_assoc, append-nil, set, inl, inr}
use Rattle.std.specs.Prelude.{if◌then◌else◌, ◌^◌, max, min, nat_le}
use Rattle.std.proofs.Math.Nat.{le-max_left}
use Rattle.std.proofs.Math.Seq.{take-add}
use Rattle.std.proofs.lemmas.Bool.{and_from, and_parts, cases_lt}
use Rattle.std.proofs.lemmas.Bool.Decides.{nat_tests}
use Rattle.tv_base.specs.declared.numbers.Version.{Version}
use Rattle.letter_types.specs.declared.entries.Entry.{Entry}
use Rattle.letter_types.specs.declared.entries.Outgoing.{Outgoing}
use Rattle.tx_trees.specs.Counts.{advances_in, is_lossy}
use Rattle.tx_trees.specs.ScriptData.{ScriptData}
use Rattle.tx_trees.specs.Valid.{IsValid}
use Rattle.tx_trees.specs.declared.parts.ScriptRow.{ScriptRow}
use Rattle.tx_trees.specs.declared.parts.ScriptRow.TheVariants.{Tree as TreeRow, Advance as AdvanceRow, Settle as SettleRow, Lose as LoseRow}
use Rattle.board_rules.specs.Gates.{awaited, before_settle, is_settle_row}
use Rattle.board_rules.proofs.Settles.{behind_other, behind_settle}
use Rattle.world_model.specs.Client.{Client, all_answered, have_ended, nudge, submit, submitted, with_answer, with_end}
use Rattle.world_model.specs.Runs.{IsStepRun, client_in}
use Rattle.world_model.proofs.Flows.{client_kept}
use Rattle.world_model.proofs.Nexts.{MadeByClient}
use Rattle.advance_laws.proofs.right.ClientSteps.{Aside, Begins, ClientStep, Ends, Hears, Tells, client_step}
use Rattle.tree_laws.proofs.histories.Client.{answers_grow, end_grows}

-- How far the client submits: all for which a row waits has ended, from the rows before on.
abbrev HasPassed : Client → List ScriptRow → Type 0
HasPassed c rows = have_ended c (before_settle rows) ≡ true

-- with one row more before
passed_later : (c : Client) (before : List ScriptRow) (r : ScriptRow) (rows : List ScriptRow) → HasPassed c ((before ++ r ∷ []) ++ rows)
    → HasPassed c (before ++ r ∷ rows)
passed_later c before r rows passed = subst (λ (xs : List ScriptRow). HasPassed c xs) (append_assoc before (r ∷ []) rows) passed

passed_at_settle : (c : Client) (before rows : List ScriptRow) (j : ℕ) (test : Bool) → have_ended c before ≡ test
    → suc j ≤ (if test then submitted c (before ++ SettleRow ∷ []) rows + 1 else 0)
    → (HasPassed c (before ++ SettleRow ∷ []) → j ≤ submitted c (before ++ SettleRow ∷ []) rows
    → HasPassed c ((before ++ SettleRow ∷ []) ++ take j rows))
    → HasPassed c (before ++ SettleRow ∷ take j rows)
passed_at_settle c before rows j true is le rest =
    passed_later c before SettleRow (take j rows)
    (rest (ap (λ (xs : List ScriptRow). have_ended c xs) (behind_settle before SettleRow refl) ∙ is) (omega (arith, le)))
passed_at_settle c before rows j false is le rest = absurd (omega (arith, le))

passed_row : (c : Client) (before rows : List ScriptRow) (r : ScriptRow) (j : ℕ) → is_settle_row r ≡ false → HasPassed c before
    → (HasPassed c (before ++ r ∷ []) → HasPassed c ((before ++ r ∷ []) ++ take j rows)) → HasPassed c (before ++ r ∷ take j rows)
passed_row c before rows r j is base rest =
    passed_later c before r (take j rows) (rest (ap (λ (xs : List ScriptRow). have_ended c xs) (behind_other before r is) ∙ base))

passes : (c : Client) (before rows : List ScriptRow) (j : ℕ) → HasPassed c before → j ≤ submitted c before rows
    → HasPassed c (before ++ take j rows)
passes c before rows zero base le = subst (λ (xs : List ScriptRow). HasPassed c xs) (sym (append-nil before)) base
passes c before [] (suc j) base le = absurd (omega (arith, le))
passes c before (SettleRow ∷ rows) (suc j) base le =
    passed_at_settle c before rows j (have_ended c before) refl le (passes c (before ++ SettleRow ∷ []) rows j)
passes c before (TreeRow t ∷ rows) (suc j) base le =
    passed_row c before rows (TreeRow t) j refl base (λ more. passes c (before ++ TreeRow t ∷ []) rows j more (omega (arith, le)))
passes c before (AdvanceRow ∷ rows) (suc j) base le =
    passed_row c before rows AdvanceRow j refl base (λ more. passes c (before ++ AdvanceRow ∷ []) rows j more (omega (arith, le)))
passes c before (LoseRow ∷ rows) (suc j) base le =
    passed_row c before rows LoseRow j refl base (λ more. passes c (before ++ LoseRow ∷ []) rows j more (omega (arith, le)))

-- for each row up to the next one, all for which it waits has ended
abbrev pub Passed : ScriptData → Client → Type 0
Passed s c = (i : ℕ) → i ≤ c.next → have_ended c (awaited s i) ≡ true

passed_by : (s : ScriptData) (c : Client) (i j : ℕ) → Passed s c → i ≡ c.next + j
    → j ≤ submitted c (take c.next s.rows) (drop c.next s.rows) → have_ended c (awaited s i) ≡ true
passed_by s c i j passed is le =
    let split : take i s.rows ≡ take c.next s.rows ++ take j (drop c.next s.rows) = ap (λ (n : ℕ). take n s.rows) is ∙ take-add c.next j s.rows in
    subst (λ (xs : List ScriptRow). HasPassed c xs) (sym split)
    (passes c (take c.next s.rows) (drop c.next s.rows) j (passed c.next (omega arith)) le)

-- once it has submitted what it may
submit_passed : (s : ScriptData) (c : Client) (first : List Outgoing) → Passed s c → Passed s (submit s c first).state
submit_passed s c first passed i le =
    elim (cases_lt c.next i) [
      | inl more ↦ passed_by s c i (i - c.next) passed (omega (arith, more)) (omega (arith, more, le))
      | inr less ↦ passed i less
    ]

-- What has ended has ended with one more answer, and with one more end.
pub answer_ended : (c : Client) (t : ℕ) (rows : List ScriptRow) → have_ended c rows ≡ true → have_ended (with_answer t c) rows ≡ true
answer_ended c t rows is =
    let parts = and_parts (all_answered c.answered rows) (nat_le (advances_in rows) c.ended) is in
    and_from (all_answered (set c.answered t true) rows) (nat_le (advances_in rows) c.ended) (answers_grow c.answered t rows parts.0) parts.1

greatest_grows : (n k m : ℕ) → nat_le n k ≡ true → nat_le n (max k m) ≡ true
greatest_grows n k m is =
    let le : n ≤ k = grind (arith, nat_tests) in
    let more : k ≤ max k m = le-max_left k m in
    grind (arith, nat_tests)

ends_grow : (s : ScriptData) (n k m : ℕ) → (is_lossy s ≡ false → k ≤ 2 ^ 64 - 1) → nat_le n k ≡ true
    → nat_le n (if is_lossy s then max k m else min (k + 1) (2 ^ 64 - 1)) ≡ true
ends_grow s n k m small is = by (is_lossy s) refl where
  by : (loses : Bool) → is_lossy s ≡ loses → nat_le n (if loses then max k m else min (k + 1) (2 ^ 64 - 1)) ≡ true
  by true lossy = greatest_grows n k m is
  by false keeps = end_grows n k (small keeps) is

pub end_ended : (s : ScriptData) (v : Version) (c : Client) (rows : List ScriptRow) → (is_lossy s ≡ false → c.ended ≤ 2 ^ 64 - 1)
    → have_ended c rows ≡ true → have_ended (with_end s v c) rows ≡ true
end_ended s v c rows small is =
    let parts = and_parts (all_answered c.answered rows) (nat_le (advances_in rows) c.ended) is in
    and_from (all_answered c.answered rows) (nat_le (advances_in rows) (with_end s v c).ended) parts.0
    (ends_grow s (advances_in rows) c.ended v.0 small parts.1)

-- In a run. Where the client counts the ends that it has heard of, their number is one that it can keep.
pub record IsPassing (s : ScriptData) (c : Client) : Type 0 where
  pub small : is_lossy s ≡ false → c.ended ≤ 2 ^ 64 - 1
  pub passed : Passed s c

by_client : (s : ScriptData) (past : List Entry) (e : Entry) (c : Client) (first : List Outgoing) → IsPassing s c
    → MadeByClient s past e (submit s c first) → IsPassing s (client_in s (e ∷ past))
by_client s past e c first passing made =
    subst (λ (x : Client). IsPassing s x) (sym made.state)
    (record { small = passing.small; passed = submit_passed s c first passing.passed })

same_passing : (s : ScriptData) (past : List Entry) (e : Entry) → client_in s (e ∷ past) ≡ client_in s past → IsPassing s (client_in s past)
    → IsPassing s (client_in s (e ∷ past))
same_passing s past e same passing = subst (λ (x : Client). IsPassing s x) (sym same) passing

end_small : (s : ScriptData) (v : Version) (c : Client) → is_lossy s ≡ false → (with_end s v c).ended ≤ 2 ^ 64 - 1
end_small s v c keeps = by (is_lossy s) keeps where
  by : (loses : Bool) → loses ≡ false → (if loses then max c.ended v.0 else min (c.ended + 1) (2 ^ 64 - 1)) ≤ 2 ^ 64 - 1
  by true is = absurd (cc is)
  by false is = omega arith

passed_next : (s : ScriptData) (past : List Entry) (e : Entry) → IsPassing s (client_in s past) → ClientStep s past e
    → IsPassing s (client_in s (e ∷ past))
passed_next s past e passing (Begins is made) = by_client s past e (client_in s past) [] passing made
passed_next s past e passing (Hears t v answer is lt made) =
    let c = client_in s past in
    by_client s past e (with_answer t.0 c) (nudge s ∷ [])
    (record { small = passing.small; passed = λ i le. answer_ended c t.0 (awaited s i) (passing.passed i le) }) made
passed_next s past e passing (Ends v is made) =
    let c = client_in s past in
    by_client s past e (with_end s v c) []
    (record { small = end_small s v c; passed = λ i le. end_ended s v c (awaited s i) passing.small (passing.passed i le) }) made
passed_next s past e passing (Tells n is loses made) = same_passing s past e made.state passing
passed_next s past e passing (Aside ne) = same_passing s past e (client_kept s past e ne) passing

first_passed : (s : ScriptData) (i : ℕ) → i ≡ 0 → have_ended (client_in s []) (awaited s i) ≡ true
first_passed s i is = subst (λ (n : ℕ). have_ended (client_in s []) (awaited s n) ≡ true) (sym is) refl

pub passed_run : (s : ScriptData) (past : List Entry) → IsValid s → IsStepRun s past → IsPassing s (client_in s past)
passed_run s [] valid run = record { small = λ keeps. omega arith; passed = λ i le. first_passed s i (omega (arith, le)) }
passed_run s (e ∷ past) valid run =
    passed_next s past e (passed_run s past valid run.1) (client_step s past e valid run)
