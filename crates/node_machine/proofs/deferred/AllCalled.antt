-- Messages that wait for one thing are woken, and are called from then on.
use Rattle.std.proofs.Common.{◌≡◌, ◌<◌, ℕ, Bool, true, false, ◌&&◌, ◌||◌, List, [], ◌∷◌, ◌++◌, refl, ap, sym, ◌∙◌, arith, cond, Option, Some, None}
use Rattle.std.specs.Prelude.{IsSome}
use Rattle.std.specs.BTreeSet.{IsKeyRangeOf}
use Rattle.std.specs.List.{AllByRecursion}
use Rattle.std.specs.List.Sorted.{IsStrictlySortedBy}
use Rattle.std.specs.Map.{keys_of, set_value, values_of}
use Rattle.std.specs.declared.cmp.Ordering.{Ordering}
use Rattle.std.specs.declared.cmp.Ordering.TheVariants.{Less}
use Rattle.std.specs.declared.ops.Bound.TheVariants.{Included, Excluded}
use Rattle.std.specs.Ordering.{is_eq, is_gt, nat_cmp, ordering_then}
use Rattle.std.proofs.lemmas.Bool.Decides.{nat_tests}
use Rattle.tv_base.specs.declared.numbers.SubNo.{SubNo}
use Rattle.tv_base.specs.declared.numbers.TreeNo.{TreeNo}
use Rattle.letter_types.specs.declared.bodies.Body.TheVariants.{Wake}
use Rattle.letter_types.specs.declared.entries.Outgoing.{Outgoing}
use Rattle.letter_types.specs.declared.kept.KeptLetter.{KeptLetter}
use Rattle.letter_types.specs.declared.kept.KeepReason.{KeepReason}
use Rattle.letter_types.specs.declared.kept.KeepReason.TheVariants.{ForShow, ForHolder, Called}
use Rattle.letter_types.specs.Kept.{wakes, with_called}
use Rattle.node_machine.specs.declared.places.Key.{Key}
use Rattle.node_machine.specs.declared.places.Key.TheVariants.{Sub, Show, Holder}
use Rattle.node_machine.specs.declared.places.KeptPlace.{KeptPlace}
use Rattle.node_machine.specs.inside.Arrivals.{ArePlaced, Arrived, came, is_found, wake_of, wakes_in}
use Rattle.node_machine.specs.inside.Places.{HasNone, has_place, is_reason, is_this, is_why, key_of_why, key_order, place_by, place_order}
use Rattle.node_machine.specs.Waits.{waits_alike}
use Rattle.node_machine.proofs.deferred.PlacesOfKey.{each_came, part_is, part_of, places_of}
use Rattle.node_machine.proofs.deferred.PlacesStayRight.{Came-set, is_some-as}
use Rattle.node_machine.proofs.deferred.KeyOrder.{is_eq-place, key_itself, same_key, same_number}

-- what messages wait for is no subtransaction
apart-sub : (t : TreeNo) (k : SubNo) (q : Key) → is_reason q ≡ true → is_eq (key_order (Sub t k) q) ≡ false
apart-sub t k (Sub u l) reason = let no : false ≡ true = reason in cc
apart-sub t k Show reason = refl
apart-sub t k (Holder u) reason = refl

pub finds_why : (x : KeptLetter) (q : Key) → is_reason q ≡ true → is_found q (Some x) ≡ is_why q x.why
finds_why x q reason = ap (λ (b : Bool). b || is_why q x.why) (apart-sub x.tree x.sub q reason)

-- the Wakes by a walk over the places with this key
wakes-by : (q : Key) (e : ℕ × KeptLetter) (es all : Arrived) (f : Bool) → came e.0 all ≡ Some e.1
    → wakes_in all (places_of q es) ≡ wakes (is_why q) (values_of es)
    → wakes_in all (cond f (place_by q e.0 ∷ places_of q es) (places_of q es))
    ≡ cond f (record { to = e.1.letter.to; body = Wake e.1.tree e.1.sub } ∷ wakes (is_why q) (values_of es))
    (wakes (is_why q) (values_of es))
wakes-by q e es all true there rest =
    ap (λ (o : Option KeptLetter). wake_of o ++ wakes_in all (places_of q es)) there
    ∙ ap (λ (ls : List Outgoing). record { to = e.1.letter.to; body = Wake e.1.tree e.1.sub } ∷ ls) rest
wakes-by q e es all false there rest = rest

wakes-walk : (q : Key) (es all : Arrived) → is_reason q ≡ true → AllByRecursion (λ e. came e.0 all ≡ Some e.1) es
    → wakes_in all (places_of q es) ≡ wakes (is_why q) (values_of es)
wakes-walk q [] all reason there = refl
wakes-walk q (e ∷ es) all reason there =
    wakes-by q e es all (is_found q (Some e.1)) there.0 (wakes-walk q es all reason there.1)
    ∙ ap (λ (f : Bool). cond f (record { to = e.1.letter.to; body = Wake e.1.tree e.1.sub } ∷ wakes (is_why q)
    (values_of es)) (wakes (is_why q) (values_of es))) (finds_why e.1 q reason)

pub wakes_found : (q : Key) (next : ℕ) (es : Arrived) (ps part : List KeptPlace) → ArePlaced next es ps
    → is_reason q ≡ true → part ≡ part_of q next ps → wakes_in es part ≡ wakes (is_why q) (values_of es)
wakes_found q next es ps part kept reason is =
    ap (λ (ps : List KeptPlace). wakes_in es ps) (is ∙ part_is q next es ps kept)
    ∙ wakes-walk q es es reason (each_came es es kept.ascending (λ a there. refl))

-- the first place with this key is one that came before the next
from-start : (q : Key) (a : ℕ) → is_gt (place_order (place_by q 0) (place_by q a)) ≡ false
from-start q a = ap (λ (r : Ordering). is_gt (ordering_then r (nat_cmp 0 a))) (key_itself q) ∙ first a
  where
    first : (a : ℕ) → is_gt (nat_cmp 0 a) ≡ false
    first a = grind (arith, nat_tests)

to-end : (q : Key) (a next : ℕ) → a < next → place_order (place_by q a) (place_by q next) ≡ Less
to-end q a next less = ap (λ (r : Ordering). ordering_then r (nat_cmp a next)) (key_itself q) ∙ below a next less
  where
    below : (a b : ℕ) → a < b → nat_cmp a b ≡ Less
    below a b less = grind (arith, nat_tests)

pub has_none : (q : Key) (next : ℕ) (ps part : List KeptPlace)
    → IsKeyRangeOf place_order (Included (place_by q 0)) (Excluded (place_by q next)) (record { keys = ps }) part
    → part ≡ [] → HasNone q next ps
has_none q next ps part is empty a less = is.5 empty (place_by q a) (from-start q a, to-end q a next less)

-- if none waits, all stay as they are
unless-found : (q : Key) (next a : ℕ) (ps : List KeptPlace) (o : Option KeptLetter) → HasNone q next ps
    → has_place (place_by q a) ps ≡ is_found q o → (IsSome o → a < next) → is_found q o ≡ false
unless-found q next a ps None none found before = refl
unless-found q next a ps (Some x) none found before = sym found ∙ none a (before refl)

none-found : (q : Key) (next : ℕ) (es : Arrived) (ps : List KeptPlace) → ArePlaced next es ps → HasNone q next ps → (a : ℕ)
    → is_found q (came a es) ≡ false
none-found q next es ps kept none a =
    unless-found q next a ps (came a es) none (kept.found (place_by q a)) (kept.before a)

stay-walk : (q : Key) (es all : Arrived) → is_reason q ≡ true → AllByRecursion (λ e. came e.0 all ≡ Some e.1) es
    → ((a : ℕ) → is_found q (came a all) ≡ false)
    → with_called (is_why q) (values_of es) ≡ values_of es
stay-walk q [] all reason there none = refl
stay-walk q (e ∷ es) all reason there none =
    let off : is_why q e.1.why ≡ false =
    sym (finds_why e.1 q reason) ∙ sym (ap (λ (o : Option KeptLetter). is_found q o) there.0) ∙ none e.0 in
    ap (λ (b : Bool). cond b (record e.1 { why = Called }) e.1 ∷ with_called (is_why q) (values_of es)) off
    ∙ ap (λ (xs : List KeptLetter). e.1 ∷ xs) (stay-walk q es all reason there.1 none)

pub all_called : (q : Key) (next : ℕ) (es : Arrived) (ps : List KeptPlace) → ArePlaced next es ps → is_reason q ≡ true
    → HasNone q next ps → with_called (is_why q) (values_of es) ≡ values_of es
all_called q next es ps kept reason none =
    stay-walk q es es reason (each_came es es kept.ascending (λ a there. refl)) (none-found q next es ps kept none)

-- a message that waits is called
called-by : (q : Key) (a : ℕ) (x : KeptLetter) (e : ℕ × KeptLetter) (es : Arrived) (b : Bool)
    → cond b (Some e.1) (came a es) ≡ Some x → is_why q x.why ≡ true
    → (came a es ≡ Some x
    → with_called (is_why q) (values_of (set_value (λ k. is_eq (nat_cmp a k)) es (record x { why = Called })))
    ≡ with_called (is_why q) (values_of es))
    → with_called (is_why q) (values_of (cond b ((e.0, record x { why = Called }) ∷ es)
    (e ∷ set_value (λ k. is_eq (nat_cmp a k)) es (record x { why = Called }))))
    ≡ with_called (is_why q) (e.1 ∷ values_of es)
called-by q a x e es true is waits rest =
    let same : e.1 ≡ x = cc in
    let here : is_why q e.1.why ≡ true = ap (λ (x : KeptLetter). is_why q x.why) same ∙ waits in
    ap (λ (x : KeptLetter). record x { why = Called } ∷ with_called (is_why q) (values_of es)) (sym same)
    ∙ sym (ap (λ (b : Bool). cond b (record e.1 { why = Called }) e.1 ∷ with_called (is_why q) (values_of es)) here)
called-by q a x e es false is waits rest =
    ap (λ (xs : List KeptLetter). cond (is_why q e.1.why) (record e.1 { why = Called }) e.1 ∷ xs) (rest is)

pub called_one : (q : Key) (a : ℕ) (x : KeptLetter) (es : Arrived) → came a es ≡ Some x → is_why q x.why ≡ true
    → with_called (is_why q) (values_of (set_value (λ k. is_eq (nat_cmp a k)) es (record x { why = Called })))
    ≡ with_called (is_why q) (values_of es)
called_one q a x [] is waits = refl
called_one q a x (e ∷ es) is waits =
    called-by q a x e es (is_eq (nat_cmp a e.0)) is waits (λ is. called_one q a x es is waits)

-- that it waits says its place
pub waits_there : (q : Key) (a next : ℕ) (x : KeptLetter) (es : Arrived) (ps : List KeptPlace) → ArePlaced next es ps
    → is_reason q ≡ true → has_place (place_by q a) ps ≡ true → came a es ≡ Some x → is_why q x.why ≡ true
waits_there q a next x es ps kept reason there is =
    sym (finds_why x q reason) ∙ sym (ap (λ (o : Option KeptLetter). is_found q o) is)
    ∙ sym (kept.found (place_by q a)) ∙ there

some-there : (q : Key) (o : Option KeptLetter) → is_found q o ≡ true → IsSome o
some-there q None found = found
some-there q (Some x) found = refl

pub came_there : (q : Key) (a next : ℕ) (es : Arrived) (ps : List KeptPlace) → ArePlaced next es ps
    → has_place (place_by q a) ps ≡ true → IsSome (came a es)
came_there q a next es ps kept there =
    some-there q (came a es) (sym (kept.found (place_by q a)) ∙ there)

-- its places stay right
waits-key : (o : Option Key) (q : Key) → is_this o q ≡ true → o ≡ Some q
waits-key None q is = let no : false ≡ true = is in cc
waits-key (Some k) q is = ap Some (same_key k q is)

found-called : (s w e h : Bool) (r : Bool) → (w ≡ true → s ≡ false) → (e ≡ true → h ≡ (s || w))
    → r ≡ cond e (s || false) h → cond (w && e) false h ≡ r
found-called true true true h r apart found is = let no : true ≡ false = apart refl in cc
found-called false true true h r apart found is = sym is
found-called s true false h r apart found is = sym is
found-called true false true h r apart found is = found refl ∙ sym is
found-called false false true h r apart found is = found refl ∙ sym is
found-called s false false h r apart found is = sym is

found-by : (x : KeptLetter) (p : Key) (o : Option KeptLetter) (e : Bool)
    → is_found p (cond e (Some (record x { why = Called })) o)
    ≡ cond e (is_eq (key_order (Sub x.tree x.sub) p) || false) (is_found p o)
found-by x p o true = refl
found-by x p o false = refl

some-called : (x : KeptLetter) (o : Option KeptLetter) (e : Bool) → (e ≡ true → IsSome o)
    → IsSome (cond e (Some (record x { why = Called })) o) → IsSome o
some-called x o true here some = here refl
some-called x o false here some = some

pub kept_called : (q : Key) (a next : ℕ) (x : KeptLetter) (es es' : Arrived) (ps ps' : List KeptPlace)
    → ArePlaced next es ps → is_reason q ≡ true → came a es ≡ Some x → is_why q x.why ≡ true
    → ((p : KeptPlace) → has_place p ps' ≡ cond (is_eq (place_order (place_by q a) p)) false (has_place p ps))
    → Came-set a (Some (record x { why = Called })) es es' → IsStrictlySortedBy nat_cmp (keys_of es')
    → IsStrictlySortedBy place_order ps' → ArePlaced next es' ps'
kept_called q a next x es es' ps ps' kept reason is waits set came' up up' =
    let key = waits-key (key_of_why x.why) q waits in
    let here : (b : ℕ) → is_eq (nat_cmp a b) ≡ true → came b es ≡ Some x =
    λ b now. ap (λ (b : ℕ). came b es) (sym (same_number a b now)) ∙ is in
    record {
      ascending = up;
      in_order = up';
      before = λ b some.
          kept.before b
          (some-called x (came b es) (is_eq (nat_cmp a b)) (λ now. is_some-as (Some x) (came b es)
          (sym (here b now)) refl)
          (is_some-as (came b es') (cond (is_eq (nat_cmp a b)) (Some (record x { why = Called })) (came b es)) (came' b)
          some));
      found = λ p.
          let then = is_eq (nat_cmp a p.arrival) in
          set p ∙ ap (λ (b : Bool). cond b false (has_place p ps)) (is_eq-place (place_by q a) p)
          ∙ found-called (is_eq (key_order (Sub x.tree x.sub) p.key)) (is_eq (key_order q p.key)) then (has_place p ps)
          (is_found p.key (came p.arrival es'))
          (λ same. ap (λ (r : Key). is_eq (key_order (Sub x.tree x.sub) r)) (sym (same_key q p.key same))
          ∙ apart-sub x.tree x.sub q reason)
          (λ now. kept.found p ∙ ap (λ (o : Option KeptLetter). is_found p.key o) (here p.arrival now)
          ∙ ap (λ (o : Option Key). is_eq (key_order (Sub x.tree x.sub) p.key) || is_this o p.key) key)
          (ap (λ (o : Option KeptLetter). is_found p.key o) (came' p.arrival)
          ∙ found-by x p.key (came p.arrival es) then
          ∙ ap (λ (h : Bool). cond then (is_eq (key_order (Sub x.tree x.sub) p.key) || false) h) (sym (kept.found p)));
    }

abbrev nothing : Option Key
nothing = None

-- for its own Wake no other message waits
pub none_alike : (r : KeepReason) → key_of_why r ≡ None → (why : KeepReason) → waits_alike r why ≡ false
none_alike ForShow is why = let no : Some Show ≡ nothing = is in cc
none_alike (ForHolder t) is why = let no : Some (Holder t) ≡ nothing = is in cc
none_alike Called is why = refl

pub none_called : (test : KeepReason → Bool) (xs : List KeptLetter) → ((why : KeepReason) → test why ≡ false)
    → with_called test xs ≡ xs
none_called test [] none = refl
none_called test (x ∷ xs) none =
    ap (λ (b : Bool). cond b (record x { why = Called }) x ∷ with_called test xs) (none x.why)
    ∙ ap (λ (xs : List KeptLetter). x ∷ xs) (none_called test xs none)
