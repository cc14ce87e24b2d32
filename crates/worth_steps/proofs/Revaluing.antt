-- Values worked out again above an edit, one after the other, and steps that change places with those above: so what
-- takes the edit back.
use Rattle.std.proofs.Common.{◌≡◌, ℕ, suc, ◌+◌, ◌-◌, ◌<◌, ◌≤◌, List, [], ◌∷◌, ◌++◌, length, take, drop, refl, ℤ, ap, sym, ◌∙◌, arith, get_or, Option, Some, None}
use Rattle.std.specs.Prelude.{slice_get, slice_set}
use Rattle.std.specs.List.{insert}
use Rattle.std.proofs.lemmas.List.{append_assoc, drop_at, drop_more, drop-set-lt, length-append, length-drop, length_push, length-set, length-take-le, set_at, take-append-drop, take_all, take_at, take_more, take_more_set, take-take}
use Rattle.std.proofs.lemmas.Option.{get_or_from_slice_get}
use Rattle.tv_base.proofs.ByPlace.{slice_get_last}
use Rattle.commute_ops.specs.declared.kinds.Kind.{Kind}
use Rattle.worth_steps.specs.declared.steps.WorthStep.{WorthStep}
use Rattle.worth_steps.specs.Kept.{steps_over}
use Rattle.worth_steps.specs.Steps.{act_on}
use Rattle.worth_steps.specs.inside.Editing.{number_below, revalued, step_valued}

pub length-revalued : (k : Kind) (below : ℤ) (ss : List WorthStep) → length (revalued k below ss) ≡ length ss
length-revalued k below [] = refl
length-revalued k below (s ∷ ss) = ap suc (length-revalued k (act_on k s.cut s.own below) ss)

-- the number below the end of a list with one more
abbrev value_or : ℤ → Option WorthStep → ℤ
value_or n None = n
value_or n (Some s) = s.value

below_last : (below : ℤ) (xs : List WorthStep) (y : WorthStep) → number_below below (length (xs ++ y ∷ [])) (xs ++ y ∷ []) ≡ y.value
below_last below xs y =
    let long : length (xs ++ y ∷ []) ≡ suc (length xs) = omega (arith, length_push xs y) in
    ap (λ (p : ℕ). number_below below p (xs ++ y ∷ [])) long ∙ ap (value_or below) (slice_get_last xs y)

-- one value more is worked out
pub one_more : (k : Kind) (below n : ℤ) (i : ℕ) (ss made all : List WorthStep) (d y : WorthStep) → i < length ss
    → n ≡ number_below below (length made) made → y ≡ step_valued k n (get_or ss i d)
    → made ++ revalued k (number_below below (length made) made) (drop i ss) ≡ all
    → (made ++ y ∷ []) ++ revalued k (number_below below (length (made ++ y ∷ [])) (made ++ y ∷ [])) (drop (i + 1) ss) ≡ all
one_more k below n i ss made all d y lt under is before =
    append_assoc made (y ∷ []) (revalued k (number_below below (length (made ++ y ∷ [])) (made ++ y ∷ [])) (drop (i + 1) ss))
    ∙ ap (λ (m : ℤ). made ++ (y ∷ revalued k m (drop (i + 1) ss))) (below_last below made y)
    ∙ ap (λ (z : WorthStep). made ++ (z ∷ revalued k z.value (drop (i + 1) ss))) is
    ∙ ap (λ (xs : List WorthStep). made ++ revalued k n xs) (sym (drop_more ss i d lt))
    ∙ ap (λ (m : ℤ). made ++ revalued k m (drop i ss)) under
    ∙ before

-- A step put in at a place.

take_inserted : (p : ℕ) (ss : List WorthStep) (y : WorthStep) → p ≤ length ss → take (p + 1) (insert ss p y) ≡ take p ss ++ y ∷ []
take_inserted p ss y le =
    let long = length-take-le p ss le in
    ap (take (p + 1)) (sym (append_assoc (take p ss) (y ∷ []) (drop p ss)))
    ∙ take_at (take p ss ++ y ∷ []) (drop p ss) (p + 1) (omega (arith, length_push (take p ss) y))

drop_inserted : (p : ℕ) (ss : List WorthStep) (y : WorthStep) → p ≤ length ss → drop (p + 1) (insert ss p y) ≡ drop p ss
drop_inserted p ss y le =
    let long = length-take-le p ss le in
    ap (drop (p + 1)) (sym (append_assoc (take p ss) (y ∷ []) (drop p ss)))
    ∙ drop_at (take p ss ++ y ∷ []) (drop p ss) (p + 1) (omega (arith, length_push (take p ss) y))

length_inserted : (p : ℕ) (ss : List WorthStep) (y : WorthStep) → length (insert ss p y) ≡ length ss + 1
length_inserted p ss y =
    omega (arith, length-append (take p ss) (y ∷ drop p ss), length-append (take p ss) (drop p ss), ap length (take-append-drop p ss))

-- there are as many above it
pub as_many : (k : Kind) (n : ℤ) (p : ℕ) (ss : List WorthStep) (y : WorthStep) → p ≤ length ss
    → p + 1 + length (revalued k n (drop p ss)) ≡ length (insert ss p y)
as_many k n p ss y le =
    omega (arith, length-revalued k n (drop p ss), length-drop p ss, length_inserted p ss y)

-- the step, and those above it with their new values
pub put_in : (p : ℕ) (ss above : List WorthStep) (y : WorthStep) → p ≤ length ss
    → take (p + 1) (insert ss p y) ++ above ≡ take p ss ++ y ∷ above
put_in p ss above y le =
    ap (λ (xs : List WorthStep). xs ++ above) (take_inserted p ss y le) ∙ append_assoc (take p ss) (y ∷ []) above

-- and taken back
pub put_back_in : (p : ℕ) (ss above : List WorthStep) (y : WorthStep) → p ≤ length ss → length above ≡ length (drop p ss)
    → steps_over p (drop (p + 1) (insert ss p y)) (take (length (take p ss ++ y ∷ above) - 1) (take p ss ++ y ∷ above)) ≡ ss
put_back_in p ss above y le same =
    let long = length-take-le p ss le in
    let rest = length-drop p ss in
    let whole : length (take p ss ++ y ∷ above) ≡ length ss + 1 = omega (arith, length-append (take p ss) (y ∷ above)) in
    let less : length (take (length (take p ss ++ y ∷ above) - 1) (take p ss ++ y ∷ above)) ≡ length ss
    = length-take-le (length (take p ss ++ y ∷ above) - 1) (take p ss ++ y ∷ above) (omega arith) ∙ omega arith in
    let front : take p (take (length (take p ss ++ y ∷ above) - 1) (take p ss ++ y ∷ above)) ≡ take p ss
    = take-take p (length (take p ss ++ y ∷ above) - 1) (take p ss ++ y ∷ above) (omega arith) ∙ take_at (take p ss) (y ∷ above) p long in
    ap (λ (xs : List WorthStep). steps_over p xs (take (length (take p ss ++ y ∷ above) - 1) (take p ss ++ y ∷ above))) (drop_inserted p ss y le)
    ∙ ap (λ (xs : List WorthStep). xs ++ take (length (take (length (take p ss ++ y ∷ above) - 1) (take p ss ++ y ∷ above)) - p) (drop p ss)) front
    ∙ ap (λ (xs : List WorthStep). take p ss ++ xs) (take_all (length (take (length (take p ss ++ y ∷ above) - 1) (take p ss ++ y ∷ above)) - p) (drop p ss) (omega arith))
    ∙ take-append-drop p ss

-- A step put in place of another.

pub as_many_still : (k : Kind) (n : ℤ) (p : ℕ) (ss : List WorthStep) (y : WorthStep) → p < length ss
    → p + 1 + length (revalued k n (drop (p + 1) ss)) ≡ length (slice_set ss p y)
as_many_still k n p ss y lt =
    omega (arith, length-revalued k n (drop (p + 1) ss), length-drop (p + 1) ss, length-set ss p y)

pub put_over_one : (p : ℕ) (ss above : List WorthStep) (y : WorthStep) → p < length ss
    → take (p + 1) (slice_set ss p y) ++ above ≡ take p ss ++ y ∷ above
put_over_one p ss above y lt =
    ap (λ (xs : List WorthStep). xs ++ above) (take_more_set ss p y lt) ∙ append_assoc (take p ss) (y ∷ []) above

pub put_back_over : (p : ℕ) (ss above : List WorthStep) (x y : WorthStep) → p < length ss → x ≡ get_or ss p x
    → length above ≡ length (drop (p + 1) ss)
    → steps_over (suc p) (drop (p + 1) (slice_set ss p y)) (slice_set (take p ss ++ y ∷ above) p x) ≡ ss
put_back_over p ss above x y lt at same =
    let long = length-take-le p ss (omega arith) in
    let rest = length-drop (p + 1) ss in
    let set : slice_set (take p ss ++ y ∷ above) p x ≡ take p ss ++ x ∷ above = set_at (take p ss) y above x p long in
    let whole : length (take p ss ++ x ∷ above) ≡ length ss = omega (arith, length-append (take p ss) (x ∷ above)) in
    let next : suc p ≡ p + 1 = omega arith in
    ap (λ (q : ℕ). steps_over q (drop (p + 1) (slice_set ss p y)) (slice_set (take p ss ++ y ∷ above) p x)) next
    ∙ ap (λ (xs : List WorthStep). steps_over (p + 1) xs (slice_set (take p ss ++ y ∷ above) p x)) (drop-set-lt (p + 1) ss p y (omega arith))
    ∙ ap (steps_over (p + 1) (drop (p + 1) ss)) set
    ∙ ap (λ (xs : List WorthStep). xs ++ take (length (take p ss ++ x ∷ above) - (p + 1)) (drop (p + 1) ss))
    (ap (take (p + 1)) (sym (append_assoc (take p ss) (x ∷ []) above)) ∙ take_at (take p ss ++ x ∷ []) above (p + 1) (omega (arith, length_push (take p ss) x)))
    ∙ ap (λ (xs : List WorthStep). take p ss ++ x ∷ [] ++ xs) (take_all (length (take p ss ++ x ∷ above) - (p + 1)) (drop (p + 1) ss) (omega arith))
    ∙ ap (λ (xs : List WorthStep). xs ++ drop (p + 1) ss) (ap (λ (z : WorthStep). take p ss ++ z ∷ []) at ∙ sym (take_more ss p x lt))
    ∙ take-append-drop (p + 1) ss

-- What a step that begins leaves.

pub begun_leaves : (k : Kind) (n : ℤ) (p : ℕ) (ss above new : List WorthStep) (x y : WorthStep) → p ≤ length ss → y ≡ step_valued k n x
    → above ≡ revalued k y.value (drop p ss) → new ≡ take (p + 1) (insert ss p y) ++ above
    → new ≡ take p ss ++ revalued k n (x ∷ drop p ss)
begun_leaves k n p ss above new x y le valued is made =
    made ∙ put_in p ss above y le
    ∙ ap (λ (xs : List WorthStep). take p ss ++ y ∷ xs) is
    ∙ ap (λ (z : WorthStep). take p ss ++ z ∷ revalued k z.value (drop p ss)) valued

pub begun_back : (k : Kind) (n : ℤ) (p : ℕ) (ss above new old : List WorthStep) (y : WorthStep) → p ≤ length ss
    → above ≡ revalued k n (drop p ss) → new ≡ take (p + 1) (insert ss p y) ++ above → old ≡ drop (p + 1) (insert ss p y)
    → steps_over p old (take (length new - 1) new) ≡ ss
begun_back k n p ss above new old y le is made kept =
    ap (λ (xs : List WorthStep). steps_over p old (take (length xs - 1) xs)) (made ∙ put_in p ss above y le)
    ∙ ap (λ (xs : List WorthStep). steps_over p xs (take (length (take p ss ++ y ∷ above) - 1) (take p ss ++ y ∷ above))) kept
    ∙ put_back_in p ss above y le (ap length is ∙ length-revalued k n (drop p ss))

-- And what one that goes on leaves.

pub gone_on_leaves : (k : Kind) (n : ℤ) (p : ℕ) (ss above new : List WorthStep) (x y : WorthStep) → p < length ss → y ≡ step_valued k n x
    → above ≡ revalued k y.value (drop (p + 1) ss) → new ≡ take (p + 1) (slice_set ss p y) ++ above
    → new ≡ take p ss ++ revalued k n (x ∷ drop (suc p) ss)
gone_on_leaves k n p ss above new x y lt valued is made =
    let next : p + 1 ≡ suc p = omega arith in
    made ∙ put_over_one p ss above y lt
    ∙ ap (λ (xs : List WorthStep). take p ss ++ y ∷ xs) (is ∙ ap (λ (q : ℕ). revalued k y.value (drop q ss)) next)
    ∙ ap (λ (z : WorthStep). take p ss ++ z ∷ revalued k z.value (drop (suc p) ss)) valued

pub gone_on_back : (k : Kind) (n : ℤ) (p : ℕ) (ss above new old : List WorthStep) (x y : WorthStep) → p < length ss → x ≡ get_or ss p x
    → above ≡ revalued k n (drop (p + 1) ss) → new ≡ take (p + 1) (slice_set ss p y) ++ above
    → old ≡ drop (p + 1) (slice_set ss p y)
    → steps_over (suc p) old (slice_set new p x) ≡ ss
gone_on_back k n p ss above new old x y lt at is made kept =
    ap (λ (xs : List WorthStep). steps_over (suc p) old (slice_set xs p x)) (made ∙ put_over_one p ss above y lt)
    ∙ ap (λ (xs : List WorthStep). steps_over (suc p) xs (slice_set (take p ss ++ y ∷ above) p x)) kept
    ∙ put_back_over p ss above x y lt at (ap length is ∙ length-revalued k n (drop (p + 1) ss))

-- what was read at a place is what stands there
pub read_is : (ss : List WorthStep) (p : ℕ) (x s : WorthStep) → x ≡ get_or ss p x → slice_get ss p ≡ Some s → x ≡ s
read_is ss p x s is at = is ∙ get_or_from_slice_get ss p s x at
