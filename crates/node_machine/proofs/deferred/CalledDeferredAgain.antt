-- A called message is deferred again: it comes to a place that was put last.
use Rattle.std.proofs.Common.{◌≡◌, ℕ, Bool, true, false, List, [], ◌∷◌, ◌++◌, refl, ap, subst, sym, ◌∙◌, cond, Option, Some, None, MutBor}
use Rattle.std.specs.Prelude.{IsSome}
use Rattle.std.specs.List.Sorted.{IsStrictlySortedBy}
use Rattle.std.specs.Map.{keys_of, set_value, values_of}
use Rattle.std.specs.Option.{option_copied_mut}
use Rattle.std.specs.declared.cmp.Ordering.TheVariants.{Less}
use Rattle.std.specs.Ordering.{is_eq, nat_cmp}
use Rattle.std.proofs.lemmas.Map.Keys.{sorted_head, sorted_tail}
use Rattle.tv_base.specs.declared.numbers.SubNo.{SubNo}
use Rattle.tv_base.specs.declared.numbers.TreeNo.{TreeNo}
use Rattle.letter_types.specs.declared.entries.Letter.{Letter}
use Rattle.letter_types.specs.declared.kept.KeptLetter.{KeptLetter}
use Rattle.letter_types.specs.Kept.{first_called, is_called_for, without_called}
use Rattle.node_machine.specs.declared.places.Key.{Key}
use Rattle.node_machine.specs.Again.{kept_again, with_last}
use Rattle.node_machine.specs.inside.Arrivals.{Arrived, FindsSame, came, is_found, with_letter_at, without_first}
use Rattle.node_machine.proofs.deferred.FirstCalled.{AllAfter, less-apart, letters_without}
use Rattle.node_machine.proofs.deferred.PlacesStayRight.{Came-set, is_some-as}
use Rattle.node_machine.proofs.deferred.KeyOrder.{number_itself, same_number}

-- what a map lends is what came then
pub lent_some : (r : Option (MutBor KeptLetter)) (o : Option KeptLetter) → option_copied_mut r ≡ o → IsSome o → IsSome r
lent_some None o is some = let P : Option KeptLetter → Type 0 = λ o. IsSome o in subst P (sym is) some
lent_some (Some x) o is some = refl

pub lent_here : (r : Option (MutBor KeptLetter)) (x : MutBor KeptLetter) (o : Option KeptLetter)
    → option_copied_mut r ≡ o → r ≡ Some x → o ≡ Some x.now
lent_here r x o is at = sym is ∙ ap (λ (r : Option (MutBor KeptLetter)). option_copied_mut r) at

some_is : (o : Option KeptLetter) (x : KeptLetter) → o ≡ Some x → IsSome o
some_is o x is = let P : Option KeptLetter → Type 0 = λ o. IsSome o in subst P (sym is) refl

-- a message is put in the place of another
with_letter-by : (a : ℕ) (l : Letter) (x : KeptLetter) (e : ℕ × KeptLetter) (es : Arrived) (b : Bool)
    → cond b (Some e.1) (came a es) ≡ Some x
    → (came a es ≡ Some x → set_value (λ k. is_eq (nat_cmp a k)) es (record x { letter = l }) ≡ with_letter_at a l es)
    → cond b ((e.0, record x { letter = l }) ∷ es)
    (e ∷ set_value (λ k. is_eq (nat_cmp a k)) es (record x { letter = l }))
    ≡ cond b ((e.0, record e.1 { letter = l }) ∷ es) (e ∷ with_letter_at a l es)
with_letter-by a l x e es true is rest =
    let same : e.1 ≡ x = cc in
    ap (λ (x : KeptLetter). (e.0, record x { letter = l }) ∷ es) (sym same)
with_letter-by a l x e es false is rest = ap (λ (es : Arrived). e ∷ es) (rest is)

pub with_letter_is : (a : ℕ) (l : Letter) (x : KeptLetter) (es : Arrived) → came a es ≡ Some x
    → set_value (λ k. is_eq (nat_cmp a k)) es (record x { letter = l }) ≡ with_letter_at a l es
with_letter_is a l x [] is = refl
with_letter_is a l x (e ∷ es) is =
    with_letter-by a l x e es (is_eq (nat_cmp a e.0)) is (with_letter_is a l x es)

-- and is found as the other was
found-same : (l : Letter) (x : KeptLetter) (o : Option KeptLetter) (q : Key) (e : Bool)
    → (e ≡ true → o ≡ Some x) → is_found q (cond e (Some (record x { letter = l })) o) ≡ is_found q o
found-same l x o q true here = sym (ap (λ (o : Option KeptLetter). is_found q o) (here refl))
found-same l x o q false here = refl

some-same : (l : Letter) (x : KeptLetter) (o : Option KeptLetter) (e : Bool) → (e ≡ true → o ≡ Some x)
    → IsSome (cond e (Some (record x { letter = l })) o) → IsSome o
some-same l x o true here some = some_is o x (here refl)
some-same l x o false here some = some

pub finds_same : (a : ℕ) (l : Letter) (x : KeptLetter) (old new : Arrived) → came a old ≡ Some x
    → Came-set a (Some (record x { letter = l })) old new → FindsSame old new
finds_same a l x old new is set =
    let here : (b : ℕ) → is_eq (nat_cmp a b) ≡ true → came b old ≡ Some x =
    λ b now. ap (λ (b : ℕ). came b old) (sym (same_number a b now)) ∙ is in
    record {
      at = λ q b.
          ap (λ (o : Option KeptLetter). is_found q o) (set b)
          ∙ found-same l x (came b old) q (is_eq (nat_cmp a b)) (here b);
      some = λ b there.
          some-same l x (came b old) (is_eq (nat_cmp a b)) (here b) (is_some-as (came b new) _ (set b) there);
    }

-- one message more at the end changes nothing if a called one is found before it
first-by : (t : TreeNo) (k : SubNo) (e : KeptLetter) (xs ys : List KeptLetter) (b : Bool)
    → (IsSome (first_called t k xs) → first_called t k ys ≡ first_called t k xs)
    → IsSome (cond b (Some e.letter) (first_called t k xs))
    → cond b (Some e.letter) (first_called t k ys) ≡ cond b (Some e.letter) (first_called t k xs)
first-by t k e xs ys true rest some = refl
first-by t k e xs ys false rest some = rest some

first_more : (t : TreeNo) (k : SubNo) (n : ℕ) (x : KeptLetter) (es : Arrived)
    → IsSome (first_called t k (values_of es))
    → first_called t k (values_of (es ++ (n, x) ∷ [])) ≡ first_called t k (values_of es)
first_more t k n x [] some = let no : false ≡ true = some in cc
first_more t k n x (e ∷ es) some =
    first-by t k e.1 (values_of es) (values_of (es ++ (n, x) ∷ [])) (is_called_for t k e.1)
    (first_more t k n x es) some

without-by : (t : TreeNo) (k : SubNo) (n : ℕ) (x : KeptLetter) (e : ℕ × KeptLetter) (es : Arrived) (b : Bool)
    → (IsSome (first_called t k (values_of es))
    → without_first t k (es ++ (n, x) ∷ []) ≡ without_first t k es ++ (n, x) ∷ [])
    → IsSome (cond b (Some e.1.letter) (first_called t k (values_of es)))
    → cond b (es ++ (n, x) ∷ []) (e ∷ without_first t k (es ++ (n, x) ∷ []))
    ≡ cond b es (e ∷ without_first t k es) ++ (n, x) ∷ []
without-by t k n x e es true rest some = refl
without-by t k n x e es false rest some = ap (λ (es : Arrived). e ∷ es) (rest some)

without_more : (t : TreeNo) (k : SubNo) (n : ℕ) (x : KeptLetter) (es : Arrived)
    → IsSome (first_called t k (values_of es))
    → without_first t k (es ++ (n, x) ∷ []) ≡ without_first t k es ++ (n, x) ∷ []
without_more t k n x [] some = let no : false ≡ true = some in cc
without_more t k n x (e ∷ es) some = without-by t k n x e es (is_called_for t k e.1) (without_more t k n x es) some

-- what came last is behind all others
last-after : (a n : ℕ) (x : KeptLetter) (ys : Arrived) → AllAfter a (keys_of (ys ++ (n, x) ∷ [])) → nat_cmp a n ≡ Less
last-after a n x [] after = after.0
last-after a n x (y ∷ ys) after = last-after a n x ys after.1

abbrev IsUp : Arrived → Type 0
IsUp es = IsStrictlySortedBy nat_cmp (keys_of es)

apart-last : (n : ℕ) (x : KeptLetter) (y : ℕ × KeptLetter) (ys : Arrived) → IsUp (y ∷ (ys ++ (n, x) ∷ []))
    → is_eq (nat_cmp n y.0) ≡ false
apart-last n x y ys up =
    less-apart n y.0 (last-after y.0 n x ys (sorted_head nat_cmp y.0 (keys_of (ys ++ (n, x) ∷ [])) up))

last_came : (n : ℕ) (x : KeptLetter) (ys : Arrived) → IsUp (ys ++ (n, x) ∷ []) → came n (ys ++ (n, x) ∷ []) ≡ Some x
last_came n x [] up = rw (number_itself n) refl
last_came n x (y ∷ ys) up =
    ap (λ (b : Bool). cond b (Some y.1) (came n (ys ++ (n, x) ∷ []))) (apart-last n x y ys up)
    ∙ last_came n x ys (sorted_tail nat_cmp y.0 (keys_of (ys ++ (n, x) ∷ [])) up)

last_put : (n : ℕ) (l : Letter) (x : KeptLetter) (ys : Arrived) → IsUp (ys ++ (n, x) ∷ [])
    → values_of (with_letter_at n l (ys ++ (n, x) ∷ [])) ≡ values_of ys ++ record x { letter = l } ∷ []
last_put n l x [] up =
    let here : is_eq (nat_cmp n n) ≡ true = ap is_eq (number_itself n) in
    ap (λ (b : Bool). values_of (cond b ((n, record x { letter = l }) ∷ []) ((n, x) ∷ []))) here
last_put n l x (y ∷ ys) up =
    ap (λ (b : Bool). values_of (cond b ((y.0, record y.1 { letter = l }) ∷ (ys ++ (n, x) ∷ []))
    (y ∷ with_letter_at n l (ys ++ (n, x) ∷ [])))) (apart-last n x y ys up)
    ∙ ap (λ (xs : List KeptLetter). y.1 ∷ xs)
    (last_put n l x ys (sorted_tail nat_cmp y.0 (keys_of (ys ++ (n, x) ∷ [])) up))

-- a message was put last, and the called one was taken
pub record IsMoving (n : ℕ) (x : KeptLetter) (es mid : Arrived) : Type 0 where
  pub calls : IsSome (first_called x.tree x.sub (values_of es))
  pub taken : mid ≡ without_first x.tree x.sub (es ++ (n, x) ∷ [])
  pub ascending : IsUp mid

pub still_called : (n : ℕ) (x : KeptLetter) (es more : Arrived) → IsSome (first_called x.tree x.sub (values_of es))
    → more ≡ es ++ (n, x) ∷ [] → first_called x.tree x.sub (values_of more) ≡ first_called x.tree x.sub (values_of es)
still_called n x es more some last =
    ap (λ (es : Arrived). first_called x.tree x.sub (values_of es)) last ∙ first_more x.tree x.sub n x es some

moved : (n : ℕ) (x : KeptLetter) (es mid : Arrived) → IsMoving n x es mid
    → mid ≡ without_first x.tree x.sub es ++ (n, x) ∷ []
moved n x es mid moving = moving.taken ∙ without_more x.tree x.sub n x es moving.calls

pub last_there : (n : ℕ) (x : KeptLetter) (es mid : Arrived) → IsMoving n x es mid → IsSome (came n mid)
last_there n x es mid moving =
    let is = moved n x es mid moving in
    let up = subst (λ (es : Arrived). IsUp es) is moving.ascending in
    some_is (came n mid) x
    (ap (λ (es : Arrived). came n es) is ∙ last_came n x (without_first x.tree x.sub es) up)

pub moved_last : (n : ℕ) (l : Letter) (x : KeptLetter) (es mid : Arrived) → IsMoving n x es mid
    → first_called x.tree x.sub (values_of es) ≡ Some l
    → values_of (with_letter_at n l mid) ≡ kept_again x.tree x.sub x.why (values_of es)
moved_last n l x es mid moving first =
    let is = moved n x es mid moving in
    let up = subst (λ (es : Arrived). IsUp es) is moving.ascending in
    ap (λ (es : Arrived). values_of (with_letter_at n l es)) is ∙ last_put n l x (without_first x.tree x.sub es) up
    ∙ ap (λ (xs : List KeptLetter). xs ++ record x { letter = l } ∷ []) (letters_without x.tree x.sub es)
    ∙ ap (with_last (without_called x.tree x.sub (values_of es)) x.tree x.sub x.why) (sym first)
