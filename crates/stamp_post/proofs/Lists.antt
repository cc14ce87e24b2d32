-- Lists read by place, the postings of one actor, and what a posting sent.
use Rattle.std.proofs.Common.{◌≡◌, ◌≢◌, ◌⊎◌, ℕ, zero, suc, eqb, ◌+◌, ◌*◌, ◌<◌, ◌≤◌, ◌&&◌, Bool, true, false, cond, List, [], ◌∷◌, ◌++◌, length, refl, sym, ap, ◌∙◌, inl, inr, ⊎_elim, arith, eq-eqb, ne_eqb, suc-mul, Some}
use Rattle.std.specs.Prelude.{if◌then◌else◌, slice_get}
use Rattle.std.proofs.lemmas.List.{append-nil}
use Rattle.std.proofs.lemmas.List.Elements.{filter-append}
use Rattle.std.proofs.lemmas.Bool.Decides.{nat_tests}
use Rattle.std.proofs.lemmas.Bool.{and_parts}
use mathlib.Core.Option.{some, some-injective, some-ne-none}
use lib.ListN.{get_elem?}
use Rattle.letter_types.specs.declared.entries.Letter.{Letter}
use Rattle.letter_types.specs.declared.entries.LetterId.{LetterId}
use Rattle.letter_types.specs.declared.entries.Outgoing.{Outgoing}
use Rattle.letter_types.specs.declared.entries.Posting.{Posting}
use Rattle.letter_types.specs.Letters.{sealed, find_id, same_id}
use Rattle.stamp_post.specs.Logs.{own_postings}

module _ {A : Type 0} where
  pub same_there : (xs : List A) (j k : ℕ) (x y : A) → j ≡ k → slice_get xs j ≡ Some x → slice_get xs k ≡ Some y → x ≡ y
  same_there xs j k x y same at at' = let e : Some x ≡ Some y = sym at ∙ ap (slice_get xs) same ∙ at' in
      grind (arith, e)

  -- the same for views, which are read otherwise
  pub view_split : (l : List A) (a b : A) (j : ℕ) → get_elem? (l ++ a ∷ []) j ≡ some b → (get_elem? l j ≡ some b)
      ⊎ ((j ≡ length l) × (a ≡ b))
  view_split [] a b zero e = inr (refl, some-injective a b e)
  view_split [] a b (suc j) e = absurd (some-ne-none b (sym e))
  view_split (x ∷ xs) a b zero e = inl e
  view_split (x ∷ xs) a b (suc j) e = ⊎_elim (λ t. inl t) (λ t. inr (ap suc t.0, t.1)) (view_split xs a b j e)

-- a posting more of an actor, and of another
own_more : (a : ℕ) (log : List Posting) (p : Posting) → own_postings a (log ++ p ∷ []) ≡ own_postings a log ++ cond
    (eqb p.actor.0 a) (p ∷ []) []
own_more a log p = filter-append (λ (x : Posting). eqb x.actor.0 a) log (p ∷ [])

pub own_here : (a : ℕ) (log : List Posting) (p : Posting) → p.actor.0 ≡ a
    → own_postings a (log ++ p ∷ []) ≡ own_postings a log ++ p ∷ []
own_here a log p is = own_more a log p ∙ ap (λ (b : Bool). own_postings a log ++ cond b (p ∷ []) [])
    (eq-eqb p.actor.0 a is)

pub own_other : (a : ℕ) (log : List Posting) (p : Posting) → p.actor.0 ≢ a
    → own_postings a (log ++ p ∷ []) ≡ own_postings a log
own_other a log p is = own_more a log p ∙ ap (λ (b : Bool). own_postings a log ++ cond b (p ∷ []) [])
    (ne_eqb p.actor.0 a is) ∙ append-nil (own_postings a log)

abbrev pub IsByMade : ℕ → List Posting → Type 0
IsByMade made log = (k : ℕ) (p : Posting) → slice_get log k ≡ Some p → p.actor.0 < made

pub none_by : (made a : ℕ) (log : List Posting) → IsByMade made log → made ≤ a → own_postings a log ≡ []
none_by made a [] by_made le = refl
none_by made a (p ∷ log) by_made le =
    let lt : p.actor.0 < made = by_made 0 p refl in
    ap (λ (b : Bool). cond b (p ∷ own_postings a log) (own_postings a log)) (ne_eqb p.actor.0 a (λ q. omega arith))
    ∙ none_by made a log (λ k x at. by_made (suc k) x at) le

-- the log without the postings of one actor
abbrev others : ℕ → List Posting → List Posting
others a [] = []
others a (p ∷ log) = cond (eqb p.actor.0 a) (others a log) (p ∷ others a log)

abbrev AllBelow : ℕ → List Posting → Type 0
AllBelow m [] = Unit {0}
AllBelow m (p ∷ log) = (p.actor.0 < m) × AllBelow m log

all_below : (m : ℕ) (log : List Posting) → IsByMade m log → AllBelow m log
all_below m [] by_made = tt
all_below m (p ∷ log) by_made = (by_made 0 p refl, all_below m log (λ k x at. by_made (suc k) x at))

below_if : (b : Bool) (m : ℕ) (p : Posting) (log : List Posting) → eqb p.actor.0 m ≡ b → p.actor.0 < suc m
    → AllBelow m log → AllBelow m (cond b log (p ∷ log))
below_if true m p log is lt rest = rest
below_if false m p log is lt rest = let ne : p.actor.0 ≢ m = grind (arith, nat_tests) in (omega arith, rest)

others_below : (m : ℕ) (log : List Posting) → AllBelow (suc m) log → AllBelow m (others m log)
others_below m [] all = tt
others_below m (p ∷ log) all = below_if (eqb p.actor.0 m) m p (others m log) refl all.0 (others_below m log all.1)

two_parts_if : (b : Bool) (p : Posting) (xs ys : List Posting) → length (cond b (p ∷ xs) xs) + length
    (cond b ys (p ∷ ys)) ≡ suc (length xs + length ys)
two_parts_if true p xs ys = omega arith
two_parts_if false p xs ys = omega arith

two_parts : (m : ℕ) (log : List Posting) → length (own_postings m log) + length (others m log) ≡ length log
two_parts m [] = refl
two_parts m (p ∷ log) = two_parts_if (eqb p.actor.0 m) p (own_postings m log) (others m log) ∙ ap suc (two_parts m log)

longer_if : (c : Bool) (p : Posting) (xs ys : List Posting) → length xs ≤ length ys → length xs ≤ length
    (cond c (p ∷ ys) ys)
longer_if true p xs ys le = omega arith
longer_if false p xs ys le = le

both_longer_if : (c : Bool) (p : Posting) (xs ys : List Posting) → length xs ≤ length ys
    → length (cond c (p ∷ xs) xs) ≤ length (cond c (p ∷ ys) ys)
both_longer_if true p xs ys le = omega arith
both_longer_if false p xs ys le = le

fewer_if : (b : Bool) (a : ℕ) (p : Posting) (rest log : List Posting) → length (own_postings a rest) ≤ length
    (own_postings a log)
    → length (own_postings a (cond b rest (p ∷ rest))) ≤ length (own_postings a (p ∷ log))
fewer_if true a p rest log le = longer_if (eqb p.actor.0 a) p (own_postings a rest) (own_postings a log) le
fewer_if false a p rest log le = both_longer_if (eqb p.actor.0 a) p (own_postings a rest) (own_postings a log) le

fewer : (a m : ℕ) (log : List Posting) → length (own_postings a (others m log)) ≤ length (own_postings a log)
fewer a m [] = omega arith
fewer a m (p ∷ log) = fewer_if (eqb p.actor.0 m) a p (others m log) log (fewer a m log)

bounded : (m b : ℕ) (log : List Posting) → AllBelow m log → ((a : ℕ) → length (own_postings a log) ≤ b)
    → length log ≤ m * b
bounded zero b [] all each = omega arith
bounded zero b (p ∷ log) all each = absurd (omega (arith, all.0))
bounded (suc m) b log all each =
    let rest = bounded m b (others m log) (others_below m log all) (λ a. omega (arith, fewer a m log, each a)) in
    omega (arith, suc-mul m b, two_parts m log, each m, rest)

-- the log of m actors is no longer than m times the most of one
pub log_bounded : (m b : ℕ) (log : List Posting) → IsByMade m log → ((a : ℕ) → length (own_postings a log) ≤ b)
    → length log ≤ m * b
log_bounded m b log by_made each = bounded m b log (all_below m log by_made) each

-- the letter that an actor sends at a stamp and a place
abbrev pub sent_as : ℕ → ℕ → ℕ → Outgoing → Letter
sent_as stamp actor place o = record {
  id = record { stamp = record { 0 = stamp }; place = place };
  from =
      record { 0 = actor };
  to = o.to;
  body = o.body;
}

-- what an id finds among the letters of a posting
pub record Found (stamp actor first : ℕ) (sent : List Outgoing) (id : LetterId) (l : Letter) : Type 0 where
  pub at : ℕ
  pub out : Outgoing
  pub here : slice_get sent at ≡ Some out
  pub place : id.place ≡ first + at
  pub stamped : id.stamp.0 ≡ stamp
  pub is : l ≡ sent_as stamp actor (first + at) out

found_if : (b : Bool) (stamp actor first : ℕ) (o : Outgoing) (sent : List Outgoing) (id : LetterId) (l : Letter)
    → same_id id (record { stamp = record { 0 = stamp }; place = first }) ≡ b
    → (find_id id (sealed stamp actor (first + 1) sent) ≡ Some l → Found stamp actor (first + 1) sent id l)
    → (if b then Some (sent_as stamp actor first o) else find_id id (sealed stamp actor (first + 1) sent)) ≡ Some l
    → Found stamp actor first (o ∷ sent) id l
found_if true stamp actor first o sent id l same rest is =
    let both = and_parts (eqb id.stamp.0 stamp) (eqb id.place first) same in
    let zero_on : first ≡ first + 0 = omega arith in
    let head : sent_as stamp actor first o ≡ l = grind (arith, is) in record {
      at = 0;
      out = o;
      here = refl;
      place = grind (arith, nat_tests, both.1);
      stamped = grind (arith, nat_tests, both.0);
      is = sym head ∙ ap (λ (n : ℕ). sent_as stamp actor n o) zero_on;
    }
found_if false stamp actor first o sent id l same rest is =
    let r = rest is in
    let on : (first + 1) + r.at ≡ first + suc r.at = omega arith in record {
      at = suc r.at;
      out = r.out;
      here = r.here;
      place = r.place ∙ on;
      stamped = r.stamped;
      is = r.is ∙ ap (λ (n : ℕ). sent_as stamp actor n r.out) on;
    }

pub found : (stamp actor first : ℕ) (sent : List Outgoing) (id : LetterId) (l : Letter)
    → find_id id (sealed stamp actor first sent) ≡ Some l → Found stamp actor first sent id l
found stamp actor first [] id l is = absurd (grind (arith, is))
found stamp actor first (o ∷ sent) id l is =
    found_if (same_id id (record { stamp = record { 0 = stamp }; place = first })) stamp actor first o sent id l refl
    (found stamp actor (first + 1) sent id l) is

-- the letter at a place is found under its id
pub finds : (stamp actor first k : ℕ) (sent : List Outgoing) (o : Outgoing) → slice_get sent k ≡ Some o
    → find_id (record { stamp = record { 0 = stamp }; place = first + k }) (sealed stamp actor first sent) ≡ Some
    (sent_as stamp actor (first + k) o)
finds stamp actor first k [] o at = absurd (grind (arith, at))
finds stamp actor first zero (x ∷ sent) o at =
    let zero_on : first + 0 ≡ first = omega arith in
    let same : x ≡ o = grind (arith, at) in
    ap (λ (b : Bool). if (eqb stamp stamp && b) then Some (sent_as stamp actor first x) else find_id
    (record { stamp = record { 0 = stamp }; place = first + 0 }) (sealed stamp actor (first + 1) sent))
    (eq-eqb (first + 0) first zero_on)
    ∙ ap (λ (b : Bool). if (b && true) then Some (sent_as stamp actor first x) else find_id
    (record { stamp = record { 0 = stamp }; place = first + 0 }) (sealed stamp actor (first + 1) sent))
    (eq-eqb stamp stamp refl)
    ∙ (λ i. Some (sent_as stamp actor (sym zero_on i) (same i)))
finds stamp actor first (suc k) (x ∷ sent) o at =
    let on : (first + 1) + k ≡ first + suc k = omega arith in
    let differs : (first + suc k) ≢ first = λ q. omega arith in
    ap (λ (b : Bool). if (eqb stamp stamp && b) then Some (sent_as stamp actor first x) else find_id
    (record { stamp = record { 0 = stamp }; place = first + suc k }) (sealed stamp actor (first + 1) sent))
    (ne_eqb (first + suc k) first differs)
    ∙ ap (λ (b : Bool). if b then Some (sent_as stamp actor first x) else find_id
    (record { stamp = record { 0 = stamp }; place = first + suc k }) (sealed stamp actor (first + 1) sent))
    (and_false (eqb stamp stamp))
    ∙ ap (λ (n : ℕ). find_id (record { stamp = record { 0 = stamp }; place = n })
    (sealed stamp actor (first + 1) sent)) (sym on)
    ∙ finds stamp actor (first + 1) k sent o at
    ∙ ap (λ (n : ℕ). Some (sent_as stamp actor n o)) on
  where
    and_false : (a : Bool) → (a && false) ≡ false
    and_false true = refl
    and_false false = refl

-- the letters of a posting by place
pub sealed_at : (stamp actor first k : ℕ) (sent : List Outgoing) (o : Outgoing) → slice_get sent k ≡ Some o
    → slice_get (sealed stamp actor first sent) k ≡ Some (sent_as stamp actor (first + k) o)
sealed_at stamp actor first k [] o at = absurd (grind (arith, at))
sealed_at stamp actor first zero (x ∷ sent) o at =
    let zero_on : first ≡ first + 0 = omega arith in
    let same : x ≡ o = grind (arith, at) in
    λ i. Some (sent_as stamp actor (zero_on i) (same i))
sealed_at stamp actor first (suc k) (x ∷ sent) o at =
    let on : (first + 1) + k ≡ first + suc k = omega arith in
    sealed_at stamp actor (first + 1) k sent o at ∙ ap (λ (n : ℕ). Some (sent_as stamp actor n o)) on

abbrev pub choose : Bool → ℕ → ℕ → ℕ
choose true x y = x
choose false x y = y

-- f, but x at n
abbrev pub put_at : (ℕ → ℕ) → ℕ → ℕ → ℕ → ℕ
put_at f n x a = choose (eqb a n) x (f a)

pub put_here : (f : ℕ → ℕ) (n x a : ℕ) → a ≡ n → put_at f n x a ≡ x
put_here f n x a is = ap (λ b. choose b x (f a)) (eq-eqb a n is)

pub put_else : (f : ℕ → ℕ) (n x a : ℕ) → a ≢ n → put_at f n x a ≡ f a
put_else f n x a is = ap (λ b. choose b x (f a)) (ne_eqb a n is)
