-- The places of deferred messages stay right when a message is deferred or taken.
use Rattle.std.proofs.Common.{◌≡◌, ◌+◌, ◌<◌, ℕ, Bool, true, false, not, ◌&&◌, ◌||◌, eqb, List, refl, ap, subst, sym, ◌∙◌, arith, cond, Option, Some, None}
use Rattle.std.specs.Prelude.{IsSome}
use Rattle.std.specs.List.Sorted.{IsStrictlySortedBy}
use Rattle.std.specs.Map.{keys_of}
use Rattle.std.specs.Ordering.{is_eq, nat_cmp}
use Rattle.std.proofs.lemmas.Bool.{and_parts}
use Rattle.std.proofs.lemmas.Bool.Decides.{nat_tests}
use Rattle.tv_base.specs.declared.numbers.SubNo.{SubNo}
use Rattle.tv_base.specs.declared.numbers.TreeNo.{TreeNo}
use Rattle.letter_types.specs.declared.kept.KeptLetter.{KeptLetter}
use Rattle.letter_types.specs.declared.kept.KeepReason.{KeepReason}
use Rattle.letter_types.specs.declared.kept.KeepReason.TheVariants.{ForShow, ForHolder, Called}
use Rattle.letter_types.specs.Kept.{is_called, is_called_for}
use Rattle.node_machine.specs.declared.places.Key.{Key}
use Rattle.node_machine.specs.declared.places.KeptPlace.{KeptPlace}
use Rattle.node_machine.specs.inside.Arrivals.{ArePlaced, Arrived, came, is_found}
use Rattle.node_machine.specs.inside.Places.{ArePlacesAdded, ArePlacesSame, ArePlacesTaken, IsFree, finds, has_place, place_order}
use Rattle.node_machine.proofs.deferred.FirstCalled.{IsFirstCalled}
use Rattle.node_machine.proofs.deferred.KeyOrder.{same_number}

-- what came then is this, and all else as before
abbrev pub Came-set : ℕ → Option KeptLetter → Arrived → Arrived → Type 0
Came-set a o old new = (b : ℕ) → came b new ≡ cond (is_eq (nat_cmp a b)) o (came b old)

itself_apart : (n : ℕ) → n < n → ⊥
itself_apart n less = omega arith

none-unless : (n : ℕ) (o : Option KeptLetter) → (IsSome o → n < n) → o ≡ None
none-unless n None before = refl
none-unless n (Some x) before = absurd (itself_apart n (before refl))

-- nothing came yet at the next arrival
pub none_yet : (next : ℕ) (es : Arrived) (ps : List KeptPlace) → ArePlaced next es ps → came next es ≡ None
none_yet next es ps kept = none-unless next (came next es) (kept.before next)

pub free_yet : (next : ℕ) (es : Arrived) (ps : List KeptPlace) → ArePlaced next es ps → IsFree next ps
free_yet next es ps kept q =
    kept.found (record { key = q; arrival = next })
    ∙ ap (λ (o : Option KeptLetter). is_found q o) (none_yet next es ps kept)

found-more : (f e h : Bool) (q : Key) (x : KeptLetter) (o : Option KeptLetter) → finds x.tree x.sub x.why q ≡ f
    → h ≡ is_found q o → (e ≡ true → h ≡ false) → ((f && e) || h) ≡ is_found q (cond e (Some x) o)
found-more true true h q x o finds found free = sym finds
found-more false true h q x o finds found free = free refl ∙ sym finds
found-more true false h q x o finds found free = found
found-more false false h q x o finds found free = found

before-more : (n b : ℕ) (x : KeptLetter) (o : Option KeptLetter) (e : Bool) → is_eq (nat_cmp n b) ≡ e
    → (IsSome o → b < n) → IsSome (cond e (Some x) o) → b < n + 1
before-more n b x o true is before some = let same = same_number n b is in omega arith
before-more n b x o false is before some = let less : b < n = before some in omega arith

pub is_some-as : (o p : Option KeptLetter) → o ≡ p → IsSome o → IsSome p
is_some-as o p is some = subst (λ (o : Option KeptLetter). IsSome o) is some

-- a message is deferred at the next arrival
pub kept_more : (next : ℕ) (x : KeptLetter) (es es' : Arrived) (ps ps' : List KeptPlace) → ArePlaced next es ps
    → ArePlacesAdded next x.tree x.sub x.why ps ps' → Came-set next (Some x) es es'
    → IsStrictlySortedBy nat_cmp (keys_of es') → IsStrictlySortedBy place_order ps' → ArePlaced (next + 1) es' ps'
kept_more next x es es' ps ps' kept added came' up up' = record {
  ascending = up;
  in_order = up';
  before = λ b some.
      before-more next b x (came b es) (is_eq (nat_cmp next b)) refl (kept.before b)
      (is_some-as (came b es') (cond (is_eq (nat_cmp next b)) (Some x) (came b es)) (came' b) some);
  found = λ p.
      added.at p
      ∙ found-more (finds x.tree x.sub x.why p.key) (is_eq (nat_cmp next p.arrival)) (has_place p ps) p.key x
      (came p.arrival es) refl (kept.found p)
      (λ now. ap (λ (b : ℕ). has_place (record { key = p.key; arrival = b }) ps) (sym (same_number next p.arrival now))
      ∙ free_yet next es ps kept p.key)
      ∙ ap (λ (o : Option KeptLetter). is_found p.key o) (sym (came' p.arrival));
}

pub kept_same : (next : ℕ) (es es' : Arrived) (ps ps' : List KeptPlace) → ArePlaced next es ps → es' ≡ es
    → ArePlacesSame ps ps'
    → IsStrictlySortedBy place_order ps' → ArePlaced next es' ps'
kept_same next es es' ps ps' kept stays same up' =
    let now : ArePlaced next es ps' =
    record {
      ascending = kept.ascending;
      in_order = up';
      before = kept.before;
      found = λ p. same.at p ∙ kept.found p;
    } in
    subst (λ (es : Arrived). ArePlaced next es ps') (sym stays) now

undone : (f e h : Bool) → (e ≡ true → h ≡ false) → (not (f && e) && ((f && e) || h)) ≡ h
undone true true h free = sym (free refl)
undone true false h free = refl
undone false e h free = refl

-- what was added is taken back
pub same_again : (a : ℕ) (t : TreeNo) (k : SubNo) (why : KeepReason) (old mid new : List KeptPlace) → IsFree a old
    → ArePlacesAdded a t k why old mid → ArePlacesTaken a t k why mid new → ArePlacesSame old new
same_again a t k why old mid new free added taken = record {
  at = λ p.
      let test = finds t k why p.key in
      let then = is_eq (nat_cmp a p.arrival) in
      taken.at p ∙ ap (λ (b : Bool). not (test && then) && b) (added.at p)
      ∙ undone test then (has_place p old)
      (λ now. ap (λ (b : ℕ). has_place (record { key = p.key; arrival = b }) old) (sym (same_number a p.arrival now))
      ∙ free p.key);
}

-- a called message is found by its subtransaction alone
called-why : (why : KeepReason) → is_called why ≡ true → why ≡ Called
called-why Called is = refl
called-why ForShow is = let no : false ≡ true = is in cc
called-why (ForHolder h) is = let no : false ≡ true = is in cc

same-test : (a b : ℕ) → eqb a b ≡ true → a ≡ b
same-test a b e = grind (arith, nat_tests)

pub called_finds : (t : TreeNo) (k : SubNo) (x : KeptLetter) → is_called_for t k x ≡ true → (q : Key)
    → finds x.tree x.sub x.why q ≡ finds t k Called q
called_finds t k x calls q =
    let parts = and_parts (is_called x.why) (eqb x.tree.0 t.0 && eqb x.sub.0 k.0) calls in
    let places = and_parts (eqb x.tree.0 t.0) (eqb x.sub.0 k.0) parts.1 in
    let tree = same-test x.tree.0 t.0 places.0 in
    let sub = same-test x.sub.0 k.0 places.1 in
    let why = called-why x.why parts.0 in
    λ i. finds (record { 0 = tree i }) (record { 0 = sub i }) (why i) q

found-less : (f e h : Bool) (q : Key) (o : Option KeptLetter) → (e ≡ true → h ≡ f) → h ≡ is_found q o
    → (not (f && e) && h) ≡ is_found q (cond e None o)
found-less true true h q o there found = refl
found-less false true h q o there found = there refl
found-less true false h q o there found = found
found-less false false h q o there found = found

before-less : (n b : ℕ) (o : Option KeptLetter) (e : Bool) → (IsSome o → b < n) → IsSome (cond e None o) → b < n
before-less n b o true before some = let no : false ≡ true = some in cc
before-less n b o false before some = before some

-- the first called message of a subtransaction is taken
pub kept_less : (next : ℕ) (t : TreeNo) (k : SubNo) (a : ℕ) (es es' : Arrived) (ps ps' : List KeptPlace)
    → ArePlaced next es ps → IsFirstCalled t k a es → ArePlacesTaken a t k Called ps ps' → Came-set a None es es'
    → IsStrictlySortedBy nat_cmp (keys_of es') → IsStrictlySortedBy place_order ps' → ArePlaced next es' ps'
kept_less next t k a es es' ps ps' kept first taken came' up up' = record {
  ascending = up;
  in_order = up';
  before = λ b some.
      before-less next b (came b es) (is_eq (nat_cmp a b)) (kept.before b)
      (is_some-as (came b es') (cond (is_eq (nat_cmp a b)) None (came b es)) (came' b) some);
  found = λ p.
      taken.at p
      ∙ found-less (finds t k Called p.key) (is_eq (nat_cmp a p.arrival)) (has_place p ps) p.key (came p.arrival es)
      (λ now. kept.found p ∙ ap (λ (b : ℕ). is_found p.key (came b es)) (sym (same_number a p.arrival now))
      ∙ ap (λ (o : Option KeptLetter). is_found p.key o) first.there ∙ called_finds t k first.letter first.calls p.key)
      (kept.found p)
      ∙ ap (λ (o : Option KeptLetter). is_found p.key o) (sym (came' p.arrival));
}

pub letter_of : (x y : KeptLetter) → Some x ≡ Some y → Some x.letter ≡ Some y.letter
letter_of x y same = let both : x ≡ y = cc in ap (λ (x : KeptLetter). Some x.letter) both
