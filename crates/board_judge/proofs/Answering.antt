-- Whether acts answer what is asked for: what is found among them, and how many defer. So an entry does at once what it
-- is asked for exactly if the tallies say so.
use Rattle.std.proofs.Common.{◌≡◌, ◌&&◌, ◌||◌, ◌==◌, ℕ, ◌+◌, ◌<◌, ◌≤◌, Bool, true, false, List, [], ◌∷◌, length, refl, sym, ap, subst, ◌∙◌, arith, Option, Some, None, take, drop, get_or, eqb-true}
use Rattle.std.specs.Prelude.{if◌then◌else◌, cond, filter, is_none, is_some, not, Decides}
use Rattle.std.specs.List.{list_any}
use Rattle.std.proofs.lemmas.Bool.{and_from, and_parts}
use Rattle.std.proofs.lemmas.Bool.Decides.{nat_tests}
use Rattle.std.proofs.lemmas.List.{drop_all}
use Rattle.std.proofs.lemmas.List.Filters.{length-filter_more}
use Rattle.tv_base.proofs.Truths.{same_test}
use Rattle.tv_base.specs.declared.numbers.ItemNo.{ItemNo}
use Rattle.tv_base.specs.declared.numbers.SubNo.{SubNo}
use Rattle.tv_base.specs.declared.numbers.TreeNo.{TreeNo}
use Rattle.letter_types.specs.declared.acts.Act.{Act}
use Rattle.letter_types.specs.declared.acts.Act.TheVariants.{Born, Did, Turned, Showed, Swept, Finished, Waits, Parked, Voted, Freed, Decided, Applied}
use Rattle.letter_types.specs.declared.bodies.Body.{Body}
use Rattle.letter_types.specs.declared.bodies.Body.TheVariants as bodies
use Rattle.letter_types.specs.declared.votes.Cause.{Cause}
use Rattle.letter_types.specs.declared.votes.Cause.TheVariants.{Conflict, Newer, Short}
use Rattle.script_parts.specs.ScriptData.{ScriptData}
use Rattle.script_parts.proofs.Loading.{rest_at}
use Rattle.board_rules.specs.Histories.{Place}
use Rattle.board_rules.specs.Right.{IsDoneAtOnce, IsDoneOrParked, in_way_of, is_parking, parking_for, parkings}
use Rattle.board_judge.specs.declared.at_once.Asked.{Asked}
use Rattle.board_judge.specs.declared.at_once.InWay.{InWay}
use Rattle.board_judge.specs.inside.Asking.{IsAnsweredFor, asked_of, lock_in, parks_this}

-- What passes.
pub any_found : {A : Type 0} (test : A → Bool) (xs : List A) (i : ℕ) (d : A) (all : Bool) → i < length xs → test (get_or xs i d) ≡ true
    → list_any test (drop i xs) ≡ all → true ≡ all
any_found test xs i d all within passes is =
    by (ap (list_any test) (sym (rest_at xs i d within)) ∙ is) where
      by : (test (get_or xs i d) || list_any test (drop (i + 1) xs)) ≡ all → true ≡ all
      by so = rw passes at so

pub any_passed : {A : Type 0} (test : A → Bool) (xs : List A) (i : ℕ) (d : A) (all : Bool) → i < length xs → test (get_or xs i d) ≡ false
    → list_any test (drop i xs) ≡ all → list_any test (drop (i + 1) xs) ≡ all
any_passed test xs i d all within passes is =
    by (ap (list_any test) (sym (rest_at xs i d within)) ∙ is) where
      by : (test (get_or xs i d) || list_any test (drop (i + 1) xs)) ≡ all → list_any test (drop (i + 1) xs) ≡ all
      by so = rw passes at so

pub any_none : {A : Type 0} (test : A → Bool) (xs : List A) (i : ℕ) (all : Bool) → length xs ≤ i → list_any test (drop i xs) ≡ all → false ≡ all
any_none test xs i all past is = ap (list_any test) (sym (drop_all i xs past)) ∙ is

-- How many park.
pub parked_more : (acts : List Act) (i : ℕ) (a : Act) (old new : ℕ) → i < length acts → a ≡ get_or acts i a
    → new ≡ old + (if is_parking a then 1 else 0) → old ≡ length (parkings (take i acts)) → new ≡ length (parkings (take (i + 1) acts))
parked_more acts i a old new within at is so =
    is ∙ ap (λ (n : ℕ). n + (if is_parking a then 1 else 0)) so
    ∙ ap (λ (b : Act). length (parkings (take i acts)) + (if is_parking b then 1 else 0)) at
    ∙ sym (length-filter_more is_parking acts i a within)

-- A parking for this.
parks_is : (t : TreeNo) (k : SubNo) (x : ItemNo) (h : TreeNo) (a : Act) → parks_this t k x h a ≡ true → a ≡ Parked t k x h
parks_is t k x h (Parked u j y other) is =
    let one = and_parts (u.0 == t.0) ((j.0 == k.0) && ((y.0 == x.0) && (other.0 == h.0))) is in
    let two = and_parts (j.0 == k.0) ((y.0 == x.0) && (other.0 == h.0)) one.1 in
    let three = and_parts (y.0 == x.0) (other.0 == h.0) two.1 in
    λ i. Parked (record { 0 = eqb-true u.0 t.0 one.0 i }) (record { 0 = eqb-true j.0 k.0 two.0 i }) (record { 0 = eqb-true y.0 x.0 three.0 i })
    (record { 0 = eqb-true other.0 h.0 three.1 i })
parks_is t k x h (Born u v) is = absurd (cc is)
parks_is t k x h (Did u j values) is = absurd (cc is)
parks_is t k x h (Turned v) is = absurd (cc is)
parks_is t k x h (Showed v) is = absurd (cc is)
parks_is t k x h (Swept v) is = absurd (cc is)
parks_is t k x h Finished is = absurd (cc is)
parks_is t k x h (Waits u b c) is = absurd (cc is)
parks_is t k x h (Voted u j vote) is = absurd (cc is)
parks_is t k x h (Freed u) is = absurd (cc is)
parks_is t k x h (Decided u d) is = absurd (cc is)
parks_is t k x h (Applied u d) is = absurd (cc is)

any_among : (test keep : Act → Bool) (acts : List Act) → ((a : Act) → test a ≡ true → keep a ≡ true) → list_any test (filter keep acts) ≡ list_any test acts
any_among test keep [] to = refl
any_among test keep (a ∷ acts) to = by (keep a) (test a) refl refl (any_among test keep acts to) where
  by : (b c : Bool) → keep a ≡ b → test a ≡ c → list_any test (filter keep acts) ≡ list_any test acts
      → list_any test (cond b (a ∷ filter keep acts) (filter keep acts)) ≡ (test a || list_any test acts)
  by true c is so rest = ap (λ (d : Bool). test a || d) rest
  by false true is so rest = absurd (cc (sym is ∙ to a so))
  by false false is so rest = rest ∙ sym (ap (λ (d : Bool). d || list_any test acts) so)

module _ (t : TreeNo) (k : SubNo) (l : InWay) (acts : List Act) where
  keeps_parking : (a : Act) → parks_this t k l.item l.holder a ≡ true → is_parking a ≡ true
  keeps_parking a is = ap is_parking (parks_is t k l.item l.holder a is)

  one_only : (ps : List Act) → length ps ≡ 1 → list_any (parks_this t k l.item l.holder) ps ≡ true → ps ≡ Parked t k l.item l.holder ∷ []
  one_only [] one is = absurd (cc is)
  one_only (a ∷ b ∷ ps) one is = absurd (omega (arith, one))
  one_only (a ∷ []) one is = by (parks_this t k l.item l.holder a) refl is where
    by : (c : Bool) → parks_this t k l.item l.holder a ≡ c → (c || false) ≡ true → a ∷ [] ≡ Parked t k l.item l.holder ∷ []
    by true so so_it = ap (λ (p : Act). p ∷ []) (parks_is t k l.item l.holder a so)
    by false so so_it = absurd (cc so_it)

  itself : parks_this t k l.item l.holder (Parked t k l.item l.holder) ≡ true
  itself =
      and_from (t.0 == t.0) ((k.0 == k.0) && ((l.item.0 == l.item.0) && (l.holder.0 == l.holder.0))) (same_test t.0)
      (and_from (k.0 == k.0) ((l.item.0 == l.item.0) && (l.holder.0 == l.holder.0)) (same_test k.0)
      (and_from (l.item.0 == l.item.0) (l.holder.0 == l.holder.0) (same_test l.item.0) (same_test l.holder.0)))

  parking_named : (way : Option Cause) → lock_in way ≡ Some l → parking_for t k way ≡ Parked t k l.item l.holder ∷ []
  parking_named None is = absurd (cc is)
  parking_named (Some (Newer x v)) is = absurd (cc is)
  parking_named (Some (Short x n)) is = absurd (cc is)
  parking_named (Some (Conflict x h)) is =
      let same : record { item = x; holder = h } ≡ l = cc is in
      ap (λ (m : InWay). Parked t k m.item m.holder ∷ []) same

  pub decide_parked : (way : Option Cause) (r : Bool) → lock_in way ≡ Some l → length (parkings acts) ≡ 1
      → r ≡ list_any (parks_this t k l.item l.holder) acts → Decides r (parkings acts ≡ parking_for t k way)
  decide_parked way r named one is = (
    (λ so. one_only (parkings acts) one (any_among (parks_this t k l.item l.holder) is_parking acts keeps_parking ∙ sym is ∙ so) ∙ sym (parking_named way named)),
    (λ so. is ∙ sym (any_among (parks_this t k l.item l.holder) is_parking acts keeps_parking)
        ∙ ap (list_any (parks_this t k l.item l.holder)) (so ∙ parking_named way named) ∙ ap (λ (c : Bool). c || false) itself),
  )

  pub decide_many : (way : Option Cause) → lock_in way ≡ Some l → (length (parkings acts) ≡ 1 → ⊥) → Decides false (parkings acts ≡ parking_for t k way)
  decide_many way named many = ((λ never. absurd (cc never)), (λ so. absurd (many (ap length (so ∙ parking_named way named)))))

no_parking : (t : TreeNo) (k : SubNo) (way : Option Cause) → lock_in way ≡ None → parking_for t k way ≡ []
no_parking t k None is = refl
no_parking t k (Some (Newer x v)) is = refl
no_parking t k (Some (Short x n)) is = refl
no_parking t k (Some (Conflict x h)) is = absurd (cc is)

pub decide_unparked : (acts : List Act) (r : Bool) → r ≡ (length (parkings acts) == 0) → Decides r (parkings acts ≡ [])
decide_unparked acts r is = by (parkings acts) is where
  by : (ps : List Act) → r ≡ (length ps == 0) → Decides r (ps ≡ [])
  by [] so = ((λ so_it. refl), (λ so_it. so ∙ (let one : (0 == 0) ≡ true = refl in one)))
  by (p ∷ ps) so = ((λ so_it. absurd (let one : (length (p ∷ ps) == 0) ≡ true = sym so ∙ so_it in grind (arith, nat_tests, one))), (λ so_it. absurd (cc so_it)))

pub decide_none_parked : (t : TreeNo) (k : SubNo) (acts : List Act) (way : Option Cause) (r : Bool) → lock_in way ≡ None → r ≡ (length (parkings acts) == 0)
    → Decides r (parkings acts ≡ parking_for t k way)
decide_none_parked t k acts way r none is = subst (λ (ps : List Act). Decides r (parkings acts ≡ ps)) (sym (no_parking t k way none)) (decide_unparked acts r is)

-- What a letter asks for.
abbrev Asks : ScriptData → List Place → ℕ → List Act → Option Asked → Type 0
Asks s xs p acts None = parkings acts ≡ []
Asks s xs p acts (Some a) = IsDoneOrParked s xs p a.tree a.sub acts

asks_as : (s : ScriptData) (xs : List Place) (p : ℕ) (acts : List Act) (body : Body) → Asks s xs p acts (asked_of body) ≡ IsDoneAtOnce s xs p body acts
asks_as s xs p acts bodies.Go = refl
asks_as s xs p acts (bodies.Root t) = refl
asks_as s xs p acts (bodies.Sub t k v) = refl
asks_as s xs p acts (bodies.Done t k v n) = refl
asks_as s xs p acts (bodies.Reply t v a) = refl
asks_as s xs p acts bodies.Nudge = refl
asks_as s xs p acts bodies.Advance = refl
asks_as s xs p acts (bodies.Turn v) = refl
asks_as s xs p acts (bodies.Show v) = refl
asks_as s xs p acts (bodies.Sweep v) = refl
asks_as s xs p acts (bodies.Turned v) = refl
asks_as s xs p acts (bodies.Shown v) = refl
asks_as s xs p acts (bodies.Swept v) = refl
asks_as s xs p acts (bodies.AskDone v r) = refl
asks_as s xs p acts (bodies.AskAsked v r) = refl
asks_as s xs p acts (bodies.DoneRow v r row) = refl
asks_as s xs p acts (bodies.AskedRow v r row) = refl
asks_as s xs p acts (bodies.Advanced v) = refl
asks_as s xs p acts (bodies.Decide t v c) = refl
asks_as s xs p acts (bodies.Decided t v) = refl
asks_as s xs p acts (bodies.Release t) = refl
asks_as s xs p acts (bodies.Wake t k) = refl
asks_as s xs p acts bodies.Lose = refl
asks_as s xs p acts (bodies.AdvanceNo n) = refl
asks_as s xs p acts (bodies.Ask e) = refl
asks_as s xs p acts (bodies.Numbers e u r l) = refl
asks_as s xs p acts (bodies.Wanted e a) = refl
asks_as s xs p acts (bodies.Order e w v) = refl
asks_as s xs p acts (bodies.Obeyed e w v) = refl

pub decide_asked : (s : ScriptData) (xs : List Place) (p : ℕ) (acts : List Act) (body : Body) (a : Asked) (way : Option Cause) (r : Bool)
    → asked_of body ≡ Some a → way ≡ in_way_of s xs p a.tree.0 a.sub.0 → Decides r (IsAnsweredFor s a.tree a.sub way acts)
    → Decides r (IsDoneAtOnce s xs p body acts)
decide_asked s xs p acts body a way r asked is all =
    subst (Decides r) (asks_as s xs p acts body)
    (subst (λ (o : Option Asked). Decides r (Asks s xs p acts o)) (sym asked)
    (by (subst (λ (o : Option Cause). Decides r (IsAnsweredFor s a.tree a.sub o acts)) is all))) where
      none_is : (o : Option Cause) → is_none o ≡ not (is_some o)
      none_is None = refl
      none_is (Some c) = refl

      by : Decides r (IsAnsweredFor s a.tree a.sub (in_way_of s xs p a.tree.0 a.sub.0) acts) → Decides r (IsDoneOrParked s xs p a.tree a.sub acts)
      by both = (
        (λ so. record { done = λ may. (both.0 so).0 may ∙ none_is (in_way_of s xs p a.tree.0 a.sub.0); parked = (both.0 so).1 }),
        (λ d. both.1 ((λ may. d.done may ∙ sym (none_is (in_way_of s xs p a.tree.0 a.sub.0))), d.parked)),
      )

pub decide_unasked : (s : ScriptData) (xs : List Place) (p : ℕ) (acts : List Act) (body : Body) (r : Bool)
    → asked_of body ≡ None → r ≡ (length (parkings acts) == 0) → Decides r (IsDoneAtOnce s xs p body acts)
decide_unasked s xs p acts body r none is =
    subst (Decides r) (asks_as s xs p acts body)
    (subst (λ (o : Option Asked). Decides r (Asks s xs p acts o)) (sym none) (decide_unparked acts r is))

pub one_most : (i old new : ℕ) (a : Act) → old ≤ i → new ≡ old + (if is_parking a then 1 else 0) → new ≤ i + 1
one_most i old new a le is = by (is_parking a) is where
  by : (b : Bool) → new ≡ old + (if b then 1 else 0) → new ≤ i + 1
  by true so = omega (arith, le, so)
  by false so = omega (arith, le, so)
