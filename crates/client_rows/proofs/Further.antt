-- How far the client may submit, one row at a time.
use Rattle.std.proofs.Common.{if◌then◌else◌, ◌≡◌, ℕ, ◌+◌, ◌<◌, ◌≤◌, ◌==◌, ◌&&◌, Bool, true, false, List, [], ◌∷◌, ◌++◌, length, take, drop, get_or, refl, sym, ap, ◌∙◌, arith}
use Rattle.std.specs.Prelude.{nat_le, not}
use Rattle.std.proofs.lemmas.List.{drop_all, drop_more, take_more}
use Rattle.std.proofs.lemmas.Bool.Decides.{nat_tests}
use Rattle.tx_trees.specs.Adding.{advances_in}
use Rattle.tx_trees.specs.declared.parts.ScriptRow.{ScriptRow}
use Rattle.tx_trees.specs.declared.parts.ScriptRow.TheVariants.{Tree as TreeRow, Advance as AdvanceRow, Settle as SettleRow, Lose as LoseRow}
use Rattle.world_model.specs.Client.{Client, all_answered, have_ended, submitted}
use Rattle.client_rows.specs.Kept.{unanswered_in}
use Rattle.client_rows.specs.inside.Places.{is_over}
use Rattle.client_rows.specs.inside.Places.{place_at, waits, knowing, furthest}
use Rattle.client_rows.specs.declared.places.RowPlace.{RowPlace}

-- one answered tree before others
answered-tree : (b : Bool) (u : ℕ) (all : Bool) → all ≡ (u == 0) → (b && all) ≡ ((if b then 0 else 1) + u == 0)
answered-tree true u all e = grind (arith, nat_tests)
answered-tree false u all e = grind (arith, nat_tests)

-- each tree is answered exactly if none is unanswered
pub all-answered : (answered : List Bool) (xs : List ScriptRow) → all_answered answered xs ≡ (unanswered_in answered xs == 0)
all-answered answered [] = refl
all-answered answered (TreeRow t ∷ xs) =
    answered-tree (get_or answered t.0 false) (unanswered_in answered xs) (all_answered answered xs) (all-answered answered xs)
all-answered answered (AdvanceRow ∷ xs) = all-answered answered xs
all-answered answered (LoseRow ∷ xs) = all-answered answered xs
all-answered answered (SettleRow ∷ xs) = all-answered answered xs

-- so the numbers of a place say whether all before it has ended
pub over-ended : (c : Client) (rows : List ScriptRow) (next : ℕ)
    → have_ended c (take next rows) ≡ is_over (place_at rows c.answered next) c.ended
over-ended c rows next = ap (λ (b : Bool). b && nat_le (advances_in (take next rows)) c.ended) (all-answered c.answered (take next rows))

-- a settle row is passed if all has ended
settled : (ended over : Bool) (n : ℕ) → ended ≡ over → not over ≡ false → (if ended then n else 0) ≡ n
settled true over n same goes = refl
settled false true n same goes = cc
settled false false n same goes = cc

-- and only then
unsettled : (ended over : Bool) (n : ℕ) → ended ≡ over → not over ≡ true → (if ended then n else 0) ≡ 0
unsettled false over n same stops = refl
unsettled true true n same stops = cc
unsettled true false n same stops = cc

-- a row at which the client doesn't wait is submitted
submitted-goes : (c : Client) (before : List ScriptRow) (row : ScriptRow) (rows : List ScriptRow) (at : RowPlace)
    → have_ended c before ≡ is_over at c.ended → waits at c.ended row ≡ false
    → submitted c before (row ∷ rows) ≡ submitted c (before ++ row ∷ []) rows + 1
submitted-goes c before (TreeRow t) rows at over goes = refl
submitted-goes c before AdvanceRow rows at over goes = refl
submitted-goes c before LoseRow rows at over goes = refl
submitted-goes c before SettleRow rows at over goes =
    settled (have_ended c before) (is_over at c.ended) (submitted c (before ++ SettleRow ∷ []) rows + 1) over goes

-- if it waits, none is
submitted-waits : (c : Client) (before : List ScriptRow) (row : ScriptRow) (rows : List ScriptRow) (at : RowPlace)
    → have_ended c before ≡ is_over at c.ended → waits at c.ended row ≡ true → submitted c before (row ∷ rows) ≡ 0
submitted-waits c before (TreeRow t) rows at over stops = cc
submitted-waits c before AdvanceRow rows at over stops = cc
submitted-waits c before LoseRow rows at over stops = cc
submitted-waits c before SettleRow rows at over stops =
    unsettled (have_ended c before) (is_over at c.ended) (submitted c (before ++ SettleRow ∷ []) rows + 1) over stops

-- the numbers of a place say whether all before it has ended
over : (answered : List Bool) (ended : ℕ) (rows : List ScriptRow) (at : RowPlace) → at ≡ place_at rows answered at.next
    → have_ended (knowing answered ended) (take at.next rows) ≡ is_over at ended
over answered ended rows at here =
    over-ended (knowing answered ended) rows at.next ∙ ap (λ (p : RowPlace). is_over p ended) (sym here)

-- past a row at which it doesn't wait, the client comes just as far
pub furthest-goes : (answered : List Bool) (ended : ℕ) (rows : List ScriptRow) (at : RowPlace) (d : ScriptRow)
    → at.next < length rows → at ≡ place_at rows answered at.next → waits at ended (get_or rows at.next d) ≡ false
    → furthest answered ended rows (at.next + 1) ≡ furthest answered ended rows at.next
furthest-goes answered ended rows at d lt here goes =
    let row : ScriptRow = get_or rows at.next d in
    let before : List ScriptRow = take at.next rows in
    let rest : List ScriptRow = drop (at.next + 1) rows in
    let one : submitted (knowing answered ended) before (row ∷ rest) ≡ submitted (knowing answered ended) (before ++ row ∷ []) rest + 1 =
    submitted-goes (knowing answered ended) before row rest at (over answered ended rows at here) goes in
    rw (take_more rows at.next d lt, drop_more rows at.next d lt, one) (omega arith)

-- if it waits, it has come as far as it may
pub furthest-waits : (answered : List Bool) (ended : ℕ) (rows : List ScriptRow) (at : RowPlace) (d : ScriptRow)
    → at.next < length rows → at ≡ place_at rows answered at.next → waits at ended (get_or rows at.next d) ≡ true
    → furthest answered ended rows at.next ≡ at.next
furthest-waits answered ended rows at d lt here stops =
    let row : ScriptRow = get_or rows at.next d in
    let none : submitted (knowing answered ended) (take at.next rows) (row ∷ drop (at.next + 1) rows) ≡ 0 =
    submitted-waits (knowing answered ended) (take at.next rows) row (drop (at.next + 1) rows) at (over answered ended rows at here) stops in
    rw (drop_more rows at.next d lt, none) (omega arith)

-- and also if no row is left
pub furthest-end : (answered : List Bool) (ended : ℕ) (rows : List ScriptRow) (next : ℕ) → length rows ≤ next
    → furthest answered ended rows next ≡ next
furthest-end answered ended rows next le = rw (drop_all next rows le) (omega arith)
