-- The numbers that the client keeps, over one row more.
use Rattle.std.proofs.Common.{if◌then◌else◌, ◌≡◌, ℕ, ◌+◌, ◌<◌, ◌≤◌, Bool, true, false, List, [], ◌∷◌, ◌++◌, length, take, drop, get_or, refl, sym, ap, subst, ◌∙◌, arith}
use Rattle.std.proofs.lemmas.List.{length-take, take-append-drop, take_more}
use Rattle.tx_trees.specs.Adding.{advances_in}
use Rattle.tx_trees.specs.declared.parts.ScriptRow.{ScriptRow}
use Rattle.tx_trees.specs.declared.parts.ScriptRow.TheVariants.{Tree as TreeRow, Advance as AdvanceRow, Settle as SettleRow, Lose as LoseRow}
use Rattle.tx_trees.proofs.Rebuilding.{advances_in-append, asked_most}
use Rattle.client_rows.specs.Kept.{trees_in, unanswered_in}
use Rattle.client_rows.specs.inside.Places.{place_at}
use Rattle.client_rows.specs.declared.places.RowPlace.{RowPlace}

pub trees_in-append : (xs ys : List ScriptRow) → trees_in (xs ++ ys) ≡ trees_in xs + trees_in ys
trees_in-append [] ys = omega arith
trees_in-append (TreeRow t ∷ xs) ys = omega (arith, trees_in-append xs ys)
trees_in-append (AdvanceRow ∷ xs) ys = trees_in-append xs ys
trees_in-append (SettleRow ∷ xs) ys = trees_in-append xs ys
trees_in-append (LoseRow ∷ xs) ys = trees_in-append xs ys

pub unanswered_in-append : (answered : List Bool) (xs ys : List ScriptRow)
    → unanswered_in answered (xs ++ ys) ≡ unanswered_in answered xs + unanswered_in answered ys
unanswered_in-append answered [] ys = omega arith
unanswered_in-append answered (TreeRow t ∷ xs) ys = omega (arith, unanswered_in-append answered xs ys)
unanswered_in-append answered (AdvanceRow ∷ xs) ys = unanswered_in-append answered xs ys
unanswered_in-append answered (SettleRow ∷ xs) ys = unanswered_in-append answered xs ys
unanswered_in-append answered (LoseRow ∷ xs) ys = unanswered_in-append answered xs ys

-- there are no more trees than rows
pub few_trees : (xs : List ScriptRow) → trees_in xs ≤ length xs
few_trees [] = omega arith
few_trees (TreeRow t ∷ xs) = omega (arith, few_trees xs)
few_trees (AdvanceRow ∷ xs) = omega (arith, few_trees xs)
few_trees (SettleRow ∷ xs) = omega (arith, few_trees xs)
few_trees (LoseRow ∷ xs) = omega (arith, few_trees xs)

-- a tree counts as unanswered at most once
one_at_most : (b : Bool) → (if b then 0 else 1) ≤ 1
one_at_most true = omega arith
one_at_most false = omega arith

-- no more trees are unanswered than there are rows
pub few_unanswered : (answered : List Bool) (xs : List ScriptRow) → unanswered_in answered xs ≤ length xs
few_unanswered answered [] = omega arith
few_unanswered answered (TreeRow t ∷ xs) = omega (arith, few_unanswered answered xs, one_at_most (get_or answered t.0 false))
few_unanswered answered (AdvanceRow ∷ xs) = omega (arith, few_unanswered answered xs)
few_unanswered answered (SettleRow ∷ xs) = omega (arith, few_unanswered answered xs)
few_unanswered answered (LoseRow ∷ xs) = omega (arith, few_unanswered answered xs)

-- no more advancements are asked for than there are rows
pub few_advances : (xs : List ScriptRow) → advances_in xs ≤ length xs
few_advances [] = omega arith
few_advances (TreeRow t ∷ xs) = omega (arith, few_advances xs)
few_advances (AdvanceRow ∷ xs) = omega (arith, few_advances xs)
few_advances (SettleRow ∷ xs) = omega (arith, few_advances xs)
few_advances (LoseRow ∷ xs) = omega (arith, few_advances xs)

-- a part of the rows, with what comes after it, asks for no more advancements than all
pub few_more_asked : (n m : ℕ) (rows : List ScriptRow)
    → advances_in (take n rows) + advances_in (take m (drop n rows)) ≤ advances_in rows
few_more_asked n m rows = omega (
  arith,
  asked_most m (drop n rows),
  advances_in-append (take n rows) (drop n rows),
  ap advances_in (take-append-drop n rows),
)

-- the numbers of a place are at most that of its rows
pub record IsWithin (at : RowPlace) : Type 0 where
  pub sent : at.sent ≤ at.next
  pub unanswered : at.unanswered ≤ at.next
  pub asked : at.asked ≤ at.next

pub within : (rows : List ScriptRow) (answered : List Bool) (next : ℕ) → IsWithin (place_at rows answered next)
within rows answered next = record {
  sent = omega (arith, few_trees (take next rows), length-take next rows);
  unanswered = omega (arith, few_unanswered answered (take next rows), length-take next rows);
  asked = omega (arith, few_advances (take next rows), length-take next rows);
}

-- the place after one row more
pub place_more : (rows : List ScriptRow) (answered : List Bool) (next : ℕ) (d row : ScriptRow) → next < length rows
    → get_or rows next d ≡ row
    → place_at rows answered (next + 1)
    ≡ record {
      next = next + 1;
      sent = (place_at rows answered next).sent + trees_in (row ∷ []);
      unanswered = (place_at rows answered next).unanswered + unanswered_in answered (row ∷ []);
      asked = (place_at rows answered next).asked + advances_in (row ∷ []);
    }
place_more rows answered next d row lt is =
    let more : take (next + 1) rows ≡ take next rows ++ row ∷ [] = take_more rows next d lt ∙ ap (λ (x : ScriptRow). take next rows ++ x ∷ []) is in
    rw more (rw (trees_in-append, unanswered_in-append, advances_in-append) refl)

-- a place whose numbers count one row more is the place after it
pub place_behind : (rows : List ScriptRow) (answered : List Bool) (at : RowPlace) (d row : ScriptRow) (sent unanswered asked : ℕ)
    → at.next < length rows → get_or rows at.next d ≡ row → at ≡ place_at rows answered at.next
    → sent ≡ at.sent + trees_in (row ∷ []) → unanswered ≡ at.unanswered + unanswered_in answered (row ∷ [])
    → asked ≡ at.asked + advances_in (row ∷ [])
    → ◌≡◌ {A = RowPlace} (record { next = at.next + 1; sent = sent; unanswered = unanswered; asked = asked })
    (place_at rows answered (at.next + 1))
place_behind rows answered at d row sent unanswered asked lt is here s u a =
    let further : RowPlace → RowPlace = λ (p : RowPlace). record {
      next = at.next + 1;
      sent = p.sent + trees_in (row ∷ []);
      unanswered = p.unanswered + unanswered_in answered (row ∷ []);
      asked = p.asked + advances_in (row ∷ []);
    } in
    let counts : ◌≡◌ {A = RowPlace} (record { next = at.next + 1; sent = sent; unanswered = unanswered; asked = asked }) (further at) = cc in
    counts ∙ ap further here ∙ sym (place_more rows answered at.next d row lt is)

-- one row that asks for an advancement more asks for no more than all
pub asked_next : (rows : List ScriptRow) (answered : List Bool) (at : RowPlace) (d : ScriptRow)
    → at.next < length rows → get_or rows at.next d ≡ AdvanceRow → at ≡ place_at rows answered at.next
    → at.asked + 1 ≤ advances_in rows
asked_next rows answered at d lt is here =
    let further : ◌≡◌ {A = RowPlace} (record { next = at.next + 1; sent = at.sent; unanswered = at.unanswered; asked = at.asked + 1 })
    (place_at rows answered (at.next + 1)) =
    place_behind rows answered at d AdvanceRow at.sent at.unanswered (at.asked + 1) lt is here (omega arith) (omega arith) (omega arith) in
    omega (arith, ap (λ (p : RowPlace). p.asked) further, asked_most (at.next + 1) rows)

-- the numbers of a place fit if the next row's does
pub below_next : (rows : List ScriptRow) (answered : List Bool) (at : RowPlace) → at ≡ place_at rows answered at.next → IsWithin at
below_next rows answered at here =
    let inside : IsWithin (place_at rows answered at.next) = within rows answered at.next in
    let numbers : IsWithin at = subst (λ (p : RowPlace). IsWithin p) (sym here) inside in
    numbers
