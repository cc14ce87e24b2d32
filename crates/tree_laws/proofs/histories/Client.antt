-- The client submits rows until a settle row has to wait, finishes once all is over, and finishes once.
use Rattle.std.proofs.Common.{◌≡◌, ◌⊎◌, inl, inr, ℕ, zero, suc, ◌+◌, ◌≤◌, ◌==◌, ◌&&◌, ◌||◌, Bool, true, false, not, List, ◌∷◌, ◌++◌, length, get_or, set, take, drop, refl, sym, ap, subst, ◌∙◌, arith, append_assoc, append-nil, length-drop, Some, []}
use Rattle.std.specs.Prelude.{if◌then◌else◌, min, nat_le, slice_get, ◌-◌, ◌^◌}
use Rattle.std.proofs.Math.Seq.{take-add}
use Rattle.std.proofs.lemmas.Bool.Decides.{nat_tests}
use Rattle.std.proofs.lemmas.Bool.{and_from, and_parts}
use Rattle.letter_types.specs.declared.acts.Act.TheVariants.{Finished}
use Rattle.letter_types.specs.declared.entries.Entry.{Entry}
use Rattle.letter_types.specs.declared.entries.Outgoing.{Outgoing}
use Rattle.tx_trees.specs.ScriptData.{ScriptData}
use Rattle.tx_trees.specs.declared.parts.ScriptRow.{ScriptRow}
use Rattle.tx_trees.specs.declared.parts.ScriptRow.TheVariants.{Tree as TreeRow, Advance as AdvanceRow, Settle as SettleRow, Lose as LoseRow}
use Rattle.world_model.specs.Client.{Client, all_answered, have_ended, submitted, next_after, client_finishes, submit}
use Rattle.world_model.specs.Counts.{tally, one_if}
use Rattle.tree_laws.specs.Ends.{is_finish}
use Rattle.world_model.proofs.Scripts.{get_below}

-- How far the client submits.

-- of the rows from here on so many are submitted: all of them, or the next is a settle row that has to wait
abbrev pub StopsAt : Client → List ScriptRow → List ScriptRow → ℕ → Type 0
StopsAt c before rows n = (n ≡ length rows) ⊎ ((slice_get rows n ≡ Some SettleRow) × (have_ended c (before ++ take n rows) ≡ false))

-- with one row more before
stops_later : (c : Client) (before : List ScriptRow) (r : ScriptRow) (rows : List ScriptRow) (n : ℕ)
    → StopsAt c (before ++ r ∷ []) rows n → StopsAt c before (r ∷ rows) (n + 1)
stops_later c before r rows n (inl all) = inl (omega (arith, all))
stops_later c before r rows n (inr (at, waits)) =
    let more : suc n ≡ n + 1 = omega arith in
    let joined : have_ended c (before ++ take (suc n) (r ∷ rows)) ≡ false =
    ap (λ (xs : List ScriptRow). have_ended c xs) (sym (append_assoc before (r ∷ []) (take n rows))) ∙ waits in
    inr (subst (λ (m : ℕ). (slice_get (r ∷ rows) m ≡ Some SettleRow) × (have_ended c (before ++ take m (r ∷ rows)) ≡ false)) more (at, joined))

-- a settle row is passed if all before it has ended
stops_at_settle : (c : Client) (before rows : List ScriptRow) (test : Bool) → have_ended c before ≡ test
    → StopsAt c (before ++ SettleRow ∷ []) rows (submitted c (before ++ SettleRow ∷ []) rows)
    → StopsAt c before (SettleRow ∷ rows) (if test then submitted c (before ++ SettleRow ∷ []) rows + 1 else 0)
stops_at_settle c before rows true is rest = stops_later c before SettleRow rows (submitted c (before ++ SettleRow ∷ []) rows) rest
stops_at_settle c before rows false is rest = inr (refl, ap (λ (xs : List ScriptRow). have_ended c xs) (append-nil before) ∙ is)

-- what is submitted stops there
pub stops : (c : Client) (before rows : List ScriptRow) → StopsAt c before rows (submitted c before rows)
stops c before [] = inl refl
stops c before (SettleRow ∷ rows) = stops_at_settle c before rows (have_ended c before) refl (stops c (before ++ SettleRow ∷ []) rows)
stops c before (TreeRow t ∷ rows) =
    stops_later c before (TreeRow t) rows (submitted c (before ++ TreeRow t ∷ []) rows) (stops c (before ++ TreeRow t ∷ []) rows)
stops c before (AdvanceRow ∷ rows) =
    stops_later c before AdvanceRow rows (submitted c (before ++ AdvanceRow ∷ []) rows) (stops c (before ++ AdvanceRow ∷ []) rows)
stops c before (LoseRow ∷ rows) =
    stops_later c before LoseRow rows (submitted c (before ++ LoseRow ∷ []) rows) (stops c (before ++ LoseRow ∷ []) rows)

-- the client has submitted all rows, or the next is a settle row that has to wait
abbrev pub IsStopped : ScriptData → Client → Type 0
IsStopped s c = StopsAt c [] s.rows c.next

slice_get_drop : {X : Type 0} (i k : ℕ) (xs : List X) (x : X) → slice_get (drop i xs) k ≡ Some x → slice_get xs (i + k) ≡ Some x
slice_get_drop zero k xs x at = let same : k ≡ 0 + k = omega arith in subst (λ (n : ℕ). slice_get xs n ≡ Some x) same at
slice_get_drop (suc i) k [] x at = absurd (cc at)
slice_get_drop (suc i) k (y ∷ xs) x at =
    let more : suc (i + k) ≡ suc i + k = omega arith in
    subst (λ (n : ℕ). slice_get (y ∷ xs) n ≡ Some x) more (slice_get_drop i k xs x at)

stopped_by : (s : ScriptData) (c : Client) (n : ℕ) → c.next ≤ length s.rows
    → StopsAt c (take c.next s.rows) (drop c.next s.rows) n → StopsAt c [] s.rows (c.next + n)
stopped_by s c n le (inl all) = inl (omega (arith, all, length-drop c.next s.rows))
stopped_by s c n le (inr (at, waits)) =
    inr (slice_get_drop c.next n s.rows SettleRow at, ap (λ (xs : List ScriptRow). have_ended c xs) (take-add c.next n s.rows) ∙ waits)

-- once it has submitted what it may, the client has stopped
pub stopped : (s : ScriptData) (c : Client) (first : List Outgoing) → c.next ≤ length s.rows → IsStopped s (submit s c first).state
stopped s c first le =
    stopped_by s c (submitted c (take c.next s.rows) (drop c.next s.rows)) le (stops c (take c.next s.rows) (drop c.next s.rows))

pub stopped_most : (s : ScriptData) (c : Client) → IsStopped s c → c.next ≤ length s.rows
stopped_most s c (inl all) = omega (arith, all)
stopped_most s c (inr (at, waits)) = omega (arith, get_below s.rows c.next SettleRow at)

-- How the client finishes.
all_over : (next n : ℕ) (ended finished : Bool) → next ≡ n → ended ≡ true → (finished || ((next == n) && (ended && not finished))) ≡ true
all_over next n ended finished is over = grind (arith, nat_tests)

-- once all is over, the client has finished
pub finished_then : (s : ScriptData) (c : Client) (first : List Outgoing) → (submit s c first).state.next ≡ length s.rows
    → have_ended c s.rows ≡ true → (submit s c first).state.finished ≡ true
finished_then s c first all over = all_over (next_after s c) (length s.rows) (have_ended c s.rows) c.finished all over

finishes_by : (finished test : Bool) (a b : Bool) → test ≡ (a && (b && not finished))
    → tally is_finish (if test then Finished ∷ [] else []) + one_if finished ≡ one_if (finished || test)
finishes_by true test true true is = rw is refl
finishes_by true test true false is = rw is refl
finishes_by true test false b is = rw is refl
finishes_by false true a b is = refl
finishes_by false false a b is = refl

-- the client finishes only if it hasn't
pub finishes_once : (s : ScriptData) (c : Client) (first : List Outgoing)
    → tally is_finish (submit s c first).acts + one_if c.finished ≡ one_if (submit s c first).state.finished
finishes_once s c first =
    finishes_by c.finished (client_finishes s (next_after s c) c) (next_after s c == length s.rows) (have_ended c s.rows) refl

-- all rows are submitted, and all that they asked for has ended
pub record IsOver (s : ScriptData) (c : Client) : Type 0 where
  pub all : c.next ≡ length s.rows
  pub ended : have_ended c s.rows ≡ true

none_submitted : (c : Client) (before rows : List ScriptRow) → length rows ≡ 0 → submitted c before rows ≡ 0
none_submitted c before [] none = refl
none_submitted c before (row ∷ rows) none = absurd (omega arith)

over_parts : (next n : ℕ) (ended : Bool) → ((next == n) && (ended && true)) ≡ true → (next ≡ n) × (ended ≡ true)
over_parts next n ended is = (grind (arith, nat_tests), grind (arith, nat_tests))

over_by : (s : ScriptData) (c : Client) (first : List Outgoing) (was : Bool) → c.finished ≡ was → (c.finished ≡ true → IsOver s c)
    → (submit s c first).state.finished ≡ true → IsOver s (submit s c first).state
over_by s c first true is over now =
    let before = over is in
    let none = none_submitted c (take c.next s.rows) (drop c.next s.rows) (omega (arith, length-drop c.next s.rows, before.all)) in
    record { all = omega (arith, none, before.all); ended = before.ended }
over_by s c first false is over now =
    let test : ((next_after s c == length s.rows) && (have_ended c s.rows && true)) ≡ true = rw is at now in
    let parts = over_parts (next_after s c) (length s.rows) (have_ended c s.rows) test in
    record { all = parts.0; ended = parts.1 }

-- where the client has finished, all is over
pub over_then : (s : ScriptData) (c : Client) (first : List Outgoing) → (c.finished ≡ true → IsOver s c)
    → (submit s c first).state.finished ≡ true → IsOver s (submit s c first).state
over_then s c first over now = over_by s c first c.finished refl over now

-- an answer more
answer_grows : (answered : List Bool) (t u : ℕ) → get_or answered u false ≡ true → get_or (set answered t true) u false ≡ true
answer_grows [] t u is = absurd (cc is)
answer_grows (x ∷ answered) zero zero is = refl
answer_grows (x ∷ answered) zero (suc u) is = is
answer_grows (x ∷ answered) (suc t) zero is = is
answer_grows (x ∷ answered) (suc t) (suc u) is = answer_grows answered t u is

pub answers_grow : (answered : List Bool) (t : ℕ) (rows : List ScriptRow) → all_answered answered rows ≡ true
    → all_answered (set answered t true) rows ≡ true
answers_grow answered t [] is = refl
answers_grow answered t (TreeRow u ∷ rows) is =
    let parts = and_parts (get_or answered u.0 false) (all_answered answered rows) is in
    and_from (get_or (set answered t true) u.0 false) (all_answered (set answered t true) rows) (answer_grows answered t u.0 parts.0)
    (answers_grow answered t rows parts.1)
answers_grow answered t (AdvanceRow ∷ rows) is = answers_grow answered t rows is
answers_grow answered t (SettleRow ∷ rows) is = answers_grow answered t rows is
answers_grow answered t (LoseRow ∷ rows) is = answers_grow answered t rows is

pub end_grows : (n k : ℕ) → k ≤ 2 ^ 64 - 1 → nat_le n k ≡ true → nat_le n (min (k + 1) (2 ^ 64 - 1)) ≡ true
end_grows n k small is =
    let le : n ≤ k = grind (arith, nat_tests) in
    let more : k ≤ min (k + 1) (2 ^ 64 - 1) = grind arith in
    grind (arith, nat_tests)

-- The client in a run.

-- how often the client has finished in a past
abbrev pub finish_count : List Entry → ℕ
finish_count [] = 0
finish_count (e ∷ past) = tally is_finish e.acts + finish_count past
