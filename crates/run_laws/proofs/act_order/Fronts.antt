-- The acts before an act: those before its entry, and those of its entry that come first. What holds of acts by their
-- positions holds of them one after the other.
use Rattle.std.proofs.Common.{◌≡◌, ℕ, zero, suc, ◌+◌, ◌≤◌, ◌==◌, ◌||◌, Bool, true, false, List, [], ◌∷◌, ◌++◌, map, length, take, refl, sym, ap, subst, ◌∙◌, append-nil, append_assoc, arith, Option, Some, None}
use Rattle.std.specs.Prelude.{if◌then◌else◌, is_some, slice_get}
use Rattle.std.specs.List.{list_any}
use Rattle.std.specs.Option.{option_or}
use Rattle.std.proofs.lemmas.Bool.Decides.{nat_tests}
use Rattle.std.proofs.lemmas.List.{take-map}
use Rattle.tv_base.specs.declared.numbers.Version.{Version}
use Rattle.tv_base.proofs.ByPlace.{get_map}
use Rattle.letter_types.specs.declared.acts.Act.{Act}
use Rattle.letter_types.specs.declared.acts.Act.TheVariants.{Born}
use Rattle.letter_types.specs.declared.entries.Entry.{Entry}
use Rattle.board_rules.specs.Histories.{Place, places_at, version_in}
use Rattle.board_rules.specs.Moves.{OneByOne}
use Rattle.board_rules.proofs.Places.{version_in-append, places_more}
use Rattle.world_model.specs.Counts.{one_if, tally}
use Rattle.world_model.proofs.Bags.{tally-append}
use Rattle.tree_laws.proofs.apt.AptVersions.{before}
use Rattle.run_laws.proofs.act_order.RowActs.{is_lasting, lasting}

abbrev pub front : List Entry → Entry → ℕ → List Place
front past e j = before past ++ take j (places_at e)

-- an act of an entry at its place
abbrev pub placed : ℕ → Act → Place
placed node a = record { node = node; act = a }

pub place_of : (e : Entry) (j : ℕ) (a : Act) → slice_get e.acts j ≡ Some a → slice_get (places_at e) j ≡ Some (placed e.actor.0 a)
place_of e j a is = get_map (placed e.actor.0) e.acts j a is

-- and the other way round
act_by : (node : ℕ) (xs : List Act) (j : ℕ) (y : Place) → slice_get (map (placed node) xs) j ≡ Some y → (slice_get xs j ≡ Some y.act) × (y.node ≡ node)
act_by node [] j y is = absurd (cc is)
act_by node (a ∷ xs) zero y is =
    let same : placed node a ≡ y = cc is in (ap (λ (z : Place). Some z.act) same, sym (ap (λ (z : Place). z.node) same))
act_by node (a ∷ xs) (suc j) y is = act_by node xs j y is

pub act_of_place : (e : Entry) (j : ℕ) (y : Place) → slice_get (places_at e) j ≡ Some y → (slice_get e.acts j ≡ Some y.act) × (y.node ≡ e.actor.0)
act_of_place e j y is = act_by e.actor.0 e.acts j y is

pub first_places : (e : Entry) (j : ℕ) → take j (places_at e) ≡ map (placed e.actor.0) (take j e.acts)
first_places e j = take-map (placed e.actor.0) j e.acts

-- What is counted of an act isn't counted before it, where it is counted once.
counted_at : {X : Type 0} (f : X → ℕ) (xs : List X) (j : ℕ) (x : X) → slice_get xs j ≡ Some x → tally f (take j xs) + f x ≤ tally f xs
counted_at f [] j x is = absurd (cc is)
counted_at f (y ∷ xs) zero x is = let same : y ≡ x = cc is in omega (arith, ap f same)
counted_at f (y ∷ xs) (suc j) x is = omega (arith, counted_at f xs j x is)

pub counted_front : (f : Place → ℕ) (past : List Entry) (e : Entry) (j : ℕ) (y : Place) → slice_get (places_at e) j ≡ Some y
    → tally f (front past e j) + f y ≤ tally f (before (e ∷ past))
counted_front f past e j y is =
    omega (
      arith,
      ap (λ (xs : List Place). tally f xs) (places_more e past),
      tally-append f (before past) (places_at e),
      tally-append f (before past) (take j (places_at e)),
      counted_at f (places_at e) j y is,
    )

pub none_found : {X : Type 0} (f : X → ℕ) (test : X → Bool) (xs : List X) → ((x : X) → one_if (test x) ≤ f x) → tally f xs ≡ 0
    → list_any test xs ≡ false
none_found f test [] marks none = refl
none_found f test (x ∷ xs) marks none =
    by (test x) (none_found f test xs marks (omega (arith, none))) (omega (arith, none, marks x)) where
      by : (b : Bool) → list_any test xs ≡ false → one_if b ≡ 0 → (b || list_any test xs) ≡ false
      by true rest zero_of = absurd (omega (arith, zero_of))
      by false rest zero_of = rest

-- An act that lasts, where one does.
test_of : (a : Act) (xs : List Act) (b : Bool) → is_lasting a ≡ b → lasting (a ∷ xs) ≡ (if b then a ∷ lasting xs else lasting xs)
test_of a xs b is = rw is refl

lasts_some : (xs : List Act) (j : ℕ) (a : Act) → slice_get xs j ≡ Some a → is_lasting a ≡ true → 1 ≤ length (lasting xs)
lasts_some [] j a is lasts = absurd (cc is)
lasts_some (x ∷ xs) zero a is lasts =
    let same : x ≡ a = cc is in
    let one : length (lasting (x ∷ xs)) ≡ suc (length (lasting xs)) =
    ap length (test_of x xs true (ap is_lasting same ∙ lasts)) in
    omega (arith, one)
lasts_some (x ∷ xs) (suc j) a is lasts = by (is_lasting x) refl (lasts_some xs j a is lasts) where
  by : (b : Bool) → is_lasting x ≡ b → 1 ≤ length (lasting xs) → 1 ≤ length (lasting (x ∷ xs))
  by true at rest = omega (arith, ap length (test_of x xs true at))
  by false at rest = omega (arith, rest, ap length (test_of x xs false at))

nothing : {X : Type 0} (xs : List X) → length xs ≤ 0 → xs ≡ []
nothing [] le = refl
nothing (x ∷ xs) le = absurd (omega (arith, le))

pub one_lasts : (xs : List Act) (j : ℕ) (a : Act) → slice_get xs j ≡ Some a → is_lasting a ≡ true → length (lasting xs) ≤ 1
    → (lasting xs ≡ a ∷ []) × (lasting (take j xs) ≡ [])
one_lasts [] j a is lasts most = absurd (cc is)
one_lasts (x ∷ xs) zero a is lasts most =
    let same : x ≡ a = cc is in
    let at = test_of x xs true (ap is_lasting same ∙ lasts) in
    let rest : lasting xs ≡ [] = nothing (lasting xs) (omega (arith, most, ap length at)) in
    (at ∙ ap (λ (ys : List Act). x ∷ ys) rest ∙ ap (λ (y : Act). y ∷ []) same, refl)
one_lasts (x ∷ xs) (suc j) a is lasts most = by (is_lasting x) refl (λ le. one_lasts xs j a is lasts le) where
  by : (b : Bool) → is_lasting x ≡ b → (length (lasting xs) ≤ 1 → (lasting xs ≡ a ∷ []) × (lasting (take j xs) ≡ []))
      → (lasting (x ∷ xs) ≡ a ∷ []) × (lasting (x ∷ take j xs) ≡ [])
  by true at rest =
      absurd (omega (arith, most, ap length (test_of x xs true at), lasts_some xs j a is lasts))
  by false at rest =
      let more = test_of x xs false at in
      let r = rest (omega (arith, most, ap length more)) in
      (more ∙ r.0, test_of x (take j xs) false at ∙ r.1)

-- Births.
was_before : (t n : ℕ) (v : Version) (o : Option Version) (ys : List Place)
    → is_some (option_or o (version_in t (placed n (Born (record { 0 = t }) v) ∷ ys))) ≡ true
was_before t n v (Some w) ys = refl
was_before t n v None ys = let here : (t == t) ≡ true = grind (arith, nat_tests) in rw here refl

pub born_first : (t n : ℕ) (v : Version) (xs ys : List Place) → is_some (version_in t (xs ++ placed n (Born (record { 0 = t }) v) ∷ ys)) ≡ true
born_first t n v xs ys =
    ap (λ (o : Option Version). is_some o) (version_in-append t xs (placed n (Born (record { 0 = t }) v) ∷ ys))
    ∙ was_before t n v (version_in t xs) ys

-- What holds of each act by its position holds of them one after the other.
pub one_by_one : (P : List Place → Place → Type 0) (xs ys : List Place)
    → ((j : ℕ) (y : Place) → slice_get ys j ≡ Some y → P (xs ++ take j ys) y) → OneByOne P xs ys
one_by_one P xs [] all = tt
one_by_one P xs (y ∷ ys) all = (
  subst (λ (zs : List Place). P zs y) (append-nil xs) (all 0 y refl),
  one_by_one P (xs ++ y ∷ []) ys
      (λ j z is. subst (λ (zs : List Place). P zs z) (sym (append_assoc xs (y ∷ []) (take j ys))) (all (suc j) z is)),
)

-- the second of two lists, from a place in it
pub record InBoth {X : Type 0} (a b : List X) (j : ℕ) (x : X) : Type 0 where
  pub place : ℕ
  pub is : slice_get (a ++ b) place ≡ Some x
  pub front : take place (a ++ b) ≡ a ++ take j b

pub in_both : {X : Type 0} (a b : List X) (j : ℕ) (x : X) → slice_get b j ≡ Some x → InBoth a b j x
in_both [] b j x is = record { place = j; is = is; front = refl }
in_both (y ∷ a) b j x is =
    let l = in_both a b j x is in
    record { place = suc l.place; is = l.is; front = ap (λ (z : List _). y ∷ z) l.front }
