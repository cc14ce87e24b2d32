-- If a strict transaction is born, every writer of a smaller version, whenever it is born, is complete: it follows from
-- births, turns and showings being moves.
use Rattle.std.proofs.Common.{◌≡◌, ◌⊎◌, inl, inr, ◌==◌, ℕ, zero, suc, ◌+◌, ◌<◌, ◌≤◌, Bool, true, false, List, [], ◌∷◌, length, refl, sym, ap, subst, ◌∙◌, arith, Option, Some, None, take, take_all}
use Rattle.std.specs.Prelude.{if◌then◌else◌, ◌-◌, fold, slice_get, is_some}
use Rattle.std.specs.Option.{option_or}
use Rattle.std.proofs.lemmas.Bool.{cases_lt, eqb-true, or_cases}
use Rattle.tv_base.specs.declared.numbers.Version.{Version}
use Rattle.letter_types.specs.declared.acts.Act.{Act}
use Rattle.letter_types.specs.declared.acts.Act.TheVariants.{Born, Did, Turned, Showed, Swept, Finished, Waits, Parked, Voted, Freed, Decided, Applied}
use Rattle.script_parts.specs.ScriptData.{ScriptData, updates}
use Rattle.board_rules.specs.Histories.{Place, born_as, is_strict_tree, is_whole_in, version_in, version_or}
use Rattle.board_rules.specs.Moves.{IsBirth, IsShowing, IsTurn, number_after, read_after, showed_to, turned_to, update_after}
use Rattle.board_rules.proofs.Rules.{AreBornLate}
use Rattle.board_rules.proofs.Wholes.{Birth, birth, born_version, version_more, whole_later}

-- births, turns and showings are moves, after the acts xs
abbrev pub IsPhaseMove : ScriptData → List Place → ℕ → Act → Type 0
IsPhaseMove s xs p (Born t v) = IsBirth s xs p t.0 v.0
IsPhaseMove s xs p (Turned v) = IsTurn s xs p v.0
IsPhaseMove s xs p (Showed v) = IsShowing s xs p v.0
IsPhaseMove s xs p Finished = Unit {0}
IsPhaseMove s xs p _ = Unit {0}

abbrev pub ArePhaseMoves : ScriptData → List Place → Type 0
ArePhaseMoves s zs = (i : ℕ) (y : Place) → slice_get zs i ≡ Some y → IsPhaseMove s (take i zs) y.node y.act

born_is : (t : ℕ) (w : Version) (a : Act) → born_as t a ≡ Some w → a ≡ Born (record { 0 = t }) w
born_is t w (Born u v) is = by (u.0 == t) refl is where
  by : (b : Bool) → (u.0 == t) ≡ b → (if b then Some v else None) ≡ Some w → Born u v ≡ Born (record { 0 = t }) w
  by true e same =
      let one : u.0 ≡ t = eqb-true u.0 t e in
      let two : v ≡ w = cc same in
      λ i. Born (record { 0 = one i }) (two i)
  by false e same = absurd (cc same)
born_is t w (Did u j values) is = absurd (cc is)
born_is t w (Turned z) is = absurd (cc is)
born_is t w (Showed z) is = absurd (cc is)
born_is t w (Swept z) is = absurd (cc is)
born_is t w Finished is = absurd (cc is)
born_is t w (Waits u a b) is = absurd (cc is)
born_is t w (Parked u a b h) is = absurd (cc is)
born_is t w (Voted u j vote) is = absurd (cc is)
born_is t w (Freed u) is = absurd (cc is)
born_is t w (Decided u d) is = absurd (cc is)
born_is t w (Applied u d) is = absurd (cc is)

showed_is : (r : Version) (a : Act) → showed_to a ≡ Some r → a ≡ Showed r
showed_is r (Showed v) is = let same : v ≡ r = cc is in ap Showed same
showed_is r (Born u z) is = absurd (cc is)
showed_is r (Did u j values) is = absurd (cc is)
showed_is r (Turned z) is = absurd (cc is)
showed_is r (Swept z) is = absurd (cc is)
showed_is r Finished is = absurd (cc is)
showed_is r (Waits u a b) is = absurd (cc is)
showed_is r (Parked u a b h) is = absurd (cc is)
showed_is r (Voted u j vote) is = absurd (cc is)
showed_is r (Freed u) is = absurd (cc is)
showed_is r (Decided u d) is = absurd (cc is)
showed_is r (Applied u d) is = absurd (cc is)

born_move : (s : ScriptData) (zs : List Place) (i t : ℕ) (w : Version) (y : Place) → ArePhaseMoves s zs → slice_get zs i ≡ Some y
    → born_as t y.act ≡ Some w → IsBirth s (take i zs) y.node t w.0
born_move s zs i t w y moves is born = subst (IsPhaseMove s (take i zs) y.node) (born_is t w y.act born) (moves i y is)

showed_move : (s : ScriptData) (zs : List Place) (i : ℕ) (r : Version) (y : Place) → ArePhaseMoves s zs → slice_get zs i ≡ Some y
    → showed_to y.act ≡ Some r → IsShowing s (take i zs) y.node r.0
showed_move s zs i r y moves is shows = subst (IsPhaseMove s (take i zs) y.node) (showed_is r y.act shows) (moves i y is)

-- A fold over one place more.
pub fold_next : {A B : Type 0} (f : A → B → A) (z : A) (n : ℕ) (y : B) (xs : List B) → slice_get xs n ≡ Some y
    → fold f z (take (suc n) xs) ≡ f (fold f z (take n xs)) y
fold_next f z n y [] is = absurd (cc is)
fold_next f z zero y (x ∷ []) is = let same : x ≡ y = cc is in ap (f z) same
fold_next f z zero y (x ∷ w ∷ rest) is = let same : x ≡ y = cc is in ap (f z) same
fold_next f z (suc n) y (x ∷ xs) is = fold_next f (f z x) n y xs is

take_past : {B : Type 0} (n : ℕ) (xs : List B) → slice_get xs n ≡ None → take (suc n) xs ≡ take n xs
take_past zero [] is = refl
take_past (suc n) [] is = refl
take_past zero (x ∷ xs) is = absurd (cc is)
take_past (suc n) (x ∷ xs) is = ap (λ z. x ∷ z) (take_past n xs is)

-- The update version never falls.
turn_rises : (q n : ℕ) (y : Place) → (y.node ≡ q → (v : Version) → y.act ≡ Turned v → n ≤ v.0) → n ≤ number_after turned_to q n y
turn_rises q n y next = by (y.node == q) refl y.act refl where
  by : (b : Bool) → (y.node == q) ≡ b → (a : Act) → y.act ≡ a → n ≤ (if b then version_or n (turned_to a) else n)
  by false e a act = omega arith
  by true e (Turned v) act = next (eqb-true y.node q e) v act
  by true e (Born u v) act = omega arith
  by true e (Did u j values) act = omega arith
  by true e (Showed v) act = omega arith
  by true e (Swept v) act = omega arith
  by true e Finished act = omega arith
  by true e (Waits u a b) act = omega arith
  by true e (Parked u a b h) act = omega arith
  by true e (Voted u j vote) act = omega arith
  by true e (Freed u) act = omega arith
  by true e (Decided u d) act = omega arith
  by true e (Applied u d) act = omega arith

turn_next : (s : ScriptData) (zs : List Place) (q n : ℕ) (y : Place) → ArePhaseMoves s zs → slice_get zs n ≡ Some y
    → y.node ≡ q → (v : Version) → y.act ≡ Turned v → update_after (take n zs) q ≤ v.0
turn_next s zs q n y moves is node v act =
    let turn : IsTurn s (take n zs) y.node v.0 = subst (IsPhaseMove s (take n zs) y.node) act (moves n y is) in
    let here : update_after (take n zs) y.node ≡ update_after (take n zs) q = ap (update_after (take n zs)) node in
    omega (arith, turn.next, here)

rises_once : (s : ScriptData) (zs : List Place) (q n : ℕ) → ArePhaseMoves s zs → (found : Option Place) → slice_get zs n ≡ found
    → update_after (take n zs) q ≤ update_after (take (suc n) zs) q
rises_once s zs q n moves None is =
    let same : update_after (take (suc n) zs) q ≡ update_after (take n zs) q = ap (λ xs. update_after xs q) (take_past n zs is) in
    omega (arith, same)
rises_once s zs q n moves (Some y) is =
    let same = fold_next (number_after turned_to q) 1 n y zs is in
    let h = turn_rises q (update_after (take n zs) q) y (turn_next s zs q n y moves is) in
    omega (arith, same, h)

rises : (s : ScriptData) (zs : List Place) (q n d : ℕ) → ArePhaseMoves s zs → update_after (take n zs) q ≤ update_after (take (n + d) zs) q
rises s zs q n zero moves =
    let same : update_after (take (n + 0) zs) q ≡ update_after (take n zs) q
    = (let e : n + 0 ≡ n = omega arith in ap (λ m. update_after (take m zs) q) e) in omega (arith, same)
rises s zs q n (suc d) moves =
    let same : update_after (take (n + suc d) zs) q ≡ update_after (take (suc (n + d)) zs) q
    = (let e : n + suc d ≡ suc (n + d) = omega arith in ap (λ m. update_after (take m zs) q) e) in
    let one = rises s zs q n d moves in
    let two = rises_once s zs q (n + d) moves (slice_get zs (n + d)) refl in
    omega (arith, same, one, two)

pub update_rises : (s : ScriptData) (zs : List Place) (q n m : ℕ) → ArePhaseMoves s zs → n ≤ m
    → update_after (take n zs) q ≤ update_after (take m zs) q
update_rises s zs q n m moves le = by (m - n) (omega (arith, le)) where
  by : (d : ℕ) → m ≡ n + d → update_after (take n zs) q ≤ update_after (take m zs) q
  by d e =
      let same : update_after (take m zs) q ≡ update_after (take (n + d) zs) q = ap (λ k. update_after (take k zs) q) e in
      let h = rises s zs q n d moves in omega (arith, same, h)

-- A number that isn't the first one was set.
record WasSet (set : Act → Option Version) (p r : ℕ) (zs : List Place) (n : ℕ) : Type 0 where
  place : ℕ
  below : place < n
  item : Place
  is : slice_get zs place ≡ Some item
  version : Version
  sets : set item.act ≡ Some version
  number : version.0 ≡ r

number_from_by : (set : Act → Option Version) (p start n r : ℕ) (y : Place) (ys : List Place) → (b : Bool)
    → (found : Option Version) → set y.act ≡ found
    → (r ≡ (if b then version_or start found else start)) ⊎ WasSet set p r ys n → (r ≡ start) ⊎ WasSet set p r (y ∷ ys) (suc n)
number_from_by set p start n r y ys b found is (inr w) = inr (record {
  place = suc w.place;
  below = omega (arith, w.below);
  item = w.item;
  is = w.is;
  version = w.version;
  sets = w.sets;
  number = w.number;
})
number_from_by set p start n r y ys false found is (inl same) = inl same
number_from_by set p start n r y ys true None is (inl same) = inl same
number_from_by set p start n r y ys true (Some v) is (inl same) =
    inr (record { place = 0; below = omega arith; item = y; is = refl; version = v; sets = is; number = sym same })

number_from : (set : Act → Option Version) (p start n : ℕ) (zs : List Place)
    → (fold (number_after set p) start (take n zs) ≡ start) ⊎ WasSet set p (fold (number_after set p) start (take n zs)) zs n
number_from set p start zero [] = inl refl
number_from set p start (suc n) [] = inl refl
number_from set p start zero (y ∷ ys) = inl refl
number_from set p start (suc n) (y ∷ ys) =
    number_from_by set p start n (fold (number_after set p) (number_after set p start y) (take n ys)) y ys (y.node == p) (set y.act) refl
    (number_from set p (number_after set p start y) n ys)

-- who is born below n has a version there
or_some : (o p : Option Version) → is_some p ≡ true → is_some (option_or o p) ≡ true
or_some None p is = is
or_some (Some w) p is = refl

some_first : (o p : Option Version) (w : Version) → o ≡ Some w → is_some (option_or o p) ≡ true
some_first None p w is = absurd (cc is)
some_first (Some v) p w is = refl

born_there : (t b n : ℕ) (w : Version) (y : Place) (zs : List Place) → slice_get zs b ≡ Some y → born_as t y.act ≡ Some w → b < n
    → is_some (version_in t (take n zs)) ≡ true
born_there t b n w y [] is born lt = absurd (cc is)
born_there t b zero w y (z ∷ zs) is born lt = absurd (omega (arith, lt))
born_there t zero (suc n) w y (z ∷ zs) is born lt =
    let same : z ≡ y = cc is in
    some_first (born_as t z.act) (version_in t (take n zs)) w (ap (λ (q : Place). born_as t q.act) same ∙ born)
born_there t (suc b) (suc n) w y (z ∷ zs) is born lt =
    or_some (born_as t z.act) (version_in t (take n zs)) (born_there t b n w y zs is born (omega (arith, lt)))

writer_version : (s : ScriptData) (xs : List Place) (q t w : ℕ) → IsBirth s xs q t w
    → (updates s t ≡ true) ⊎ (is_strict_tree s t ≡ true) → w ≡ update_after xs q
writer_version s xs q t w birth (inl up) = birth.update up
writer_version s xs q t w birth (inr strict) = (birth.strict strict).0

at_start : (zs : List Place) (q : ℕ) → update_after (take 0 zs) q ≡ 1
at_start [] q = refl
at_start (z ∷ zs) q = refl

-- where a strict tree is born, each writer of a smaller version is whole
pub births_whole : (s : ScriptData) (zs : List Place) → ArePhaseMoves s zs → AreBornLate s zs
births_whole s zs moves i k t y v w is born strict writes version lt =
    let bk = born_move s zs i k v y moves is born in
    let all : take (length zs) zs ≡ zs = take_all (length zs) zs (omega arith) in
    let b = birth t w (length zs) zs (ap (version_in t) all ∙ version) in
    let bt = born_move s zs b.place t w b.item moves b.is b.born in
    let mine = writer_version s (take b.place zs) b.item.node t w.0 bt (or_cases (updates s t) (is_strict_tree s t) writes) in
    by b bt mine (bk.strict strict).1 (number_from showed_to y.node 0 i zs) where
      side : (b : Birth t w zs (length zs)) → IsBirth s (take b.place zs) b.item.node t w.0 → w.0 ≡ update_after (take b.place zs) b.item.node
          → (r : ℕ) → v.0 ≡ r + 1 → (place : ℕ) → place < i → (at : ℕ) → IsShowing s (take place zs) at r
          → (b.place < place) ⊎ (place ≤ b.place) → is_whole_in s (take i zs) t ≡ true
      side b bt mine r next place below at show (inl early) =
          let known = born_version (version_in t (take place zs)) (born_there t b.place place w b.item zs b.is b.born early) in
          let same : Some known.0 ≡ Some w = sym (version_more t place known.0 zs known.1) ∙ version in
          whole_later s place i zs t (omega (arith, below)) (show.whole t w writes (known.1 ∙ same) (omega (arith, next, lt)))
      side b bt mine r next place below at show (inr late) =
          let above = show.below b.item.node bt.home.0 in
          let more = update_rises s zs b.item.node place b.place moves late in
          absurd (omega (arith, mine, next, lt, above, more))

      by : (b : Birth t w zs (length zs)) → IsBirth s (take b.place zs) b.item.node t w.0 → w.0 ≡ update_after (take b.place zs) b.item.node
          → v.0 ≡ read_after (take i zs) y.node + 1
          → (read_after (take i zs) y.node ≡ 0) ⊎ WasSet showed_to y.node (read_after (take i zs) y.node) zs i → is_whole_in s (take i zs) t ≡ true
      by b bt mine next (inl none) =
          let first = update_rises s zs b.item.node 0 b.place moves (omega arith) in
          let one = at_start zs b.item.node in
          absurd (omega (arith, mine, next, none, lt, first, one))
      by b bt mine next (inr set) =
          let show = showed_move s zs set.place set.version set.item moves set.is set.sets in
          side b bt mine set.version.0 (omega (arith, next, set.number)) set.place set.below set.item.node show (cases_lt b.place set.place)
