-- What an answer changes among the transactions that aren't answered, and of the running numbers.
use Rattle.std.proofs.Common.{if◌then◌else◌, ◌≡◌, ◌≢◌, ℕ, suc, zero, ◌+◌, ◌-◌, ◌<◌, ◌≤◌, Bool, true, false, List, [], ◌∷◌, length, take, get_or, refl, sym, ap, ◌∙◌, arith, get_or-set_other, get_or-set_same, ◌⊎◌, inl, inr}
use Rattle.std.specs.Prelude.{slice_set}
use Rattle.std.proofs.lemmas.List.{set-get_or}
use Rattle.tx_trees.specs.Adding.{advances_in}
use Rattle.std.proofs.lemmas.Bool.{cases_eq}
use Rattle.tx_trees.specs.Valid.{NamesInOrder}
use Rattle.tx_trees.specs.declared.parts.ScriptRow.{ScriptRow}
use Rattle.tx_trees.specs.declared.parts.ScriptRow.TheVariants.{Tree as TreeRow, Advance as AdvanceRow, Settle as SettleRow, Lose as LoseRow}
use Rattle.client_rows.specs.Kept.{trees_in, unanswered_in}
use Rattle.client_rows.specs.inside.Places.{place_at}
use Rattle.client_rows.specs.declared.places.RowPlace.{RowPlace}

-- the rows before a place name their trees in order too
pub names-take : (k n m : ℕ) (rows : List ScriptRow) → NamesInOrder k n rows
    → NamesInOrder k (k + trees_in (take m rows)) (take m rows)
names-take k n zero rows names = omega arith
names-take k n (suc m) [] names = omega arith
names-take k n (suc m) (TreeRow t ∷ rows) names =
    let e : k + 1 + trees_in (take m rows) ≡ k + (1 + trees_in (take m rows)) = omega arith in
    (names.0, rw e at (names-take (k + 1) n m rows names.1))
names-take k n (suc m) (AdvanceRow ∷ rows) names = names-take k n m rows names
names-take k n (suc m) (SettleRow ∷ rows) names = names-take k n m rows names
names-take k n (suc m) (LoseRow ∷ rows) names = names-take k n m rows names

-- there are as many trees as their numbers say
pub trees-named : (k n : ℕ) (rows : List ScriptRow) → NamesInOrder k n rows → k + trees_in rows ≡ n
trees-named k n [] names = omega (arith, names)
trees-named k n (TreeRow t ∷ rows) names = omega (arith, trees-named (k + 1) n rows names.1)
trees-named k n (AdvanceRow ∷ rows) names = trees-named k n rows names
trees-named k n (SettleRow ∷ rows) names = trees-named k n rows names
trees-named k n (LoseRow ∷ rows) names = trees-named k n rows names

-- a part of the rows has no more trees than all
pub trees-take : (m : ℕ) (rows : List ScriptRow) → trees_in (take m rows) ≤ trees_in rows
trees-take zero rows = omega arith
trees-take (suc m) [] = omega arith
trees-take (suc m) (TreeRow t ∷ rows) = omega (arith, trees-take m rows)
trees-take (suc m) (AdvanceRow ∷ rows) = trees-take m rows
trees-take (suc m) (SettleRow ∷ rows) = trees-take m rows
trees-take (suc m) (LoseRow ∷ rows) = trees-take m rows

-- an answer to a tree that these rows don't name changes nothing
pub unanswered-other : (answered : List Bool) (t k n : ℕ) (rows : List ScriptRow) → NamesInOrder k n rows
    → (t < k) ⊎ (n ≤ t) → unanswered_in (slice_set answered t true) rows ≡ unanswered_in answered rows
unanswered-other answered t k n [] names away = refl
unanswered-other answered t k n (TreeRow u ∷ rows) names away =
    let further : (t < k + 1) ⊎ (n ≤ t) = grind arith in
    let ne : u.0 ≢ t = omega (arith, names.0, away, trees-named (k + 1) n rows names.1) in
    rw (get_or-set_other answered t u.0 true false ne, unanswered-other answered t (k + 1) n rows names.1 further) refl
unanswered-other answered t k n (AdvanceRow ∷ rows) names away = unanswered-other answered t k n rows names away
unanswered-other answered t k n (SettleRow ∷ rows) names away = unanswered-other answered t k n rows names away
unanswered-other answered t k n (LoseRow ∷ rows) names away = unanswered-other answered t k n rows names away

-- the answer to a tree that these rows name is one fewer, if it is new
pub unanswered-here : (answered : List Bool) (t k n : ℕ) (rows : List ScriptRow) → NamesInOrder k n rows
    → k ≤ t → t < n → t < length answered
    → unanswered_in (slice_set answered t true) rows + (if get_or answered t false then 0 else 1) ≡ unanswered_in answered rows
unanswered-here answered t k n [] names low high lt = absurd (omega arith)
unanswered-here answered t k n (TreeRow u ∷ rows) names low high lt =
    elim (cases_eq t k) [
      | inl e ↦
          let same : u.0 ≡ t = omega (arith, names.0) in
          let now : get_or (slice_set answered t true) u.0 false ≡ true =
          ap (λ (m : ℕ). get_or (slice_set answered t true) m false) same ∙ get_or-set_same answered t true false lt in
          let before : get_or answered u.0 false ≡ get_or answered t false = ap (λ (m : ℕ). get_or answered m false) same in
          rw (now, before, unanswered-other answered t (k + 1) n rows names.1 (inl (omega arith))) (omega arith)
      | inr ne ↦
          let other : u.0 ≢ t = omega (arith, names.0) in
          rw (get_or-set_other answered t u.0 true false other)
          (omega (arith, unanswered-here answered t (k + 1) n rows names.1 (omega arith) high lt))
    ]
unanswered-here answered t k n (AdvanceRow ∷ rows) names low high lt = unanswered-here answered t k n rows names low high lt
unanswered-here answered t k n (SettleRow ∷ rows) names low high lt = unanswered-here answered t k n rows names low high lt
unanswered-here answered t k n (LoseRow ∷ rows) names low high lt = unanswered-here answered t k n rows names low high lt

-- fewer trees are submitted than are known
pub sent_known : (rows : List ScriptRow) (answered : List Bool) (at : RowPlace) → NamesInOrder 0 (length answered) rows
    → at ≡ place_at rows answered at.next → at.sent ≤ length answered
sent_known rows answered at names is =
    let sent : at.sent ≡ trees_in (take at.next rows) = ap (λ (p : RowPlace). p.sent) is in
    omega (arith, trees-take at.next rows, trees-named 0 (length answered) rows names)

-- places with equal numbers are equal
place_is : (rows : List ScriptRow) (answered other : List Bool) (at : RowPlace) (n : ℕ) → at ≡ place_at rows answered at.next
    → n ≡ unanswered_in other (take at.next rows)
    → ◌≡◌ {A = RowPlace} (record { next = at.next; sent = at.sent; unanswered = n; asked = at.asked }) (place_at rows other at.next)
place_is rows answered other at n is e =
    let sent : at.sent ≡ trees_in (take at.next rows) = ap (λ (p : RowPlace). p.sent) is in
    let asked : at.asked ≡ advances_in (take at.next rows) = ap (λ (p : RowPlace). p.asked) is in
    cc

-- an answer to a tree that isn't submitted changes no number
pub place-later : (rows : List ScriptRow) (answered : List Bool) (at : RowPlace) (t : ℕ) → NamesInOrder 0 (length answered) rows
    → at ≡ place_at rows answered at.next → at.sent ≤ t → at ≡ place_at rows (slice_set answered t true) at.next
place-later rows answered at t names is later =
    let sent : at.sent ≡ trees_in (take at.next rows) = ap (λ (p : RowPlace). p.sent) is in
    let unanswered : at.unanswered ≡ unanswered_in answered (take at.next rows) = ap (λ (p : RowPlace). p.unanswered) is in
    let away : 0 + trees_in (take at.next rows) ≤ t = omega arith in
    let same : unanswered_in (slice_set answered t true) (take at.next rows) ≡ unanswered_in answered (take at.next rows) =
    unanswered-other answered t 0 (0 + trees_in (take at.next rows)) (take at.next rows) (names-take 0 (length answered) at.next rows names) (inr away) in
    place_is rows answered (slice_set answered t true) at at.unanswered is (unanswered ∙ sym same)

-- a second answer to a tree changes nothing
pub place-again : (rows : List ScriptRow) (answered : List Bool) (at : RowPlace) (t : ℕ)
    → at ≡ place_at rows answered at.next → get_or answered t false ≡ true → at ≡ place_at rows (slice_set answered t true) at.next
place-again rows answered at t is known =
    let same : slice_set answered t true ≡ answered = ap (λ (b : Bool). slice_set answered t b) (sym known) ∙ set-get_or answered t false in
    rw same is

-- with the first answer to a tree that is submitted one fewer is unanswered
pub one_fewer : (rows : List ScriptRow) (answered : List Bool) (at : RowPlace) (t : ℕ) → NamesInOrder 0 (length answered) rows
    → at ≡ place_at rows answered at.next → t < at.sent → get_or answered t false ≡ false
    → unanswered_in (slice_set answered t true) (take at.next rows) + 1 ≡ at.unanswered
one_fewer rows answered at t names is submitted new =
    let sent : at.sent ≡ trees_in (take at.next rows) = ap (λ (p : RowPlace). p.sent) is in
    let unanswered : at.unanswered ≡ unanswered_in answered (take at.next rows) = ap (λ (p : RowPlace). p.unanswered) is in
    let there : t < length answered = omega (arith, sent_known rows answered at names is) in
    let named : t < 0 + trees_in (take at.next rows) = omega arith in
    let fewer : unanswered_in (slice_set answered t true) (take at.next rows) + (if get_or answered t false then 0 else 1)
    ≡ unanswered_in answered (take at.next rows) =
    unanswered-here answered t 0 (0 + trees_in (take at.next rows)) (take at.next rows)
    (names-take 0 (length answered) at.next rows names) (omega arith) named there in
    rw new at fewer ∙ sym unanswered

pub place-answered : (rows : List ScriptRow) (answered : List Bool) (at : RowPlace) (t : ℕ) → NamesInOrder 0 (length answered) rows
    → at ≡ place_at rows answered at.next → t < at.sent → get_or answered t false ≡ false
    → ◌≡◌ {A = RowPlace} (record { next = at.next; sent = at.sent; unanswered = at.unanswered - 1; asked = at.asked })
    (place_at rows (slice_set answered t true) at.next)
place-answered rows answered at t names is submitted new =
    place_is rows answered (slice_set answered t true) at (at.unanswered - 1) is (omega (arith, one_fewer rows answered at t names is submitted new))
