-- What operations see of their items is what the items are worth: so of values that are shown, and of draws that find
-- too little.
use Rattle.std.proofs.Common.{◌≡◌, ℕ, ◌+◌, ◌<◌, ◌==◌, Bool, true, false, List, [], ◌∷◌, length, ltb, refl, sym, ap, subst, ◌∙◌, arith, Option, Some, None, drop, get_or}
use Rattle.std.specs.Prelude.{cond, is_some, slice_get}
use Rattle.std.specs.Bool.{Decides}
use Rattle.std.specs.Option.{option_or}
use Rattle.std.proofs.lemmas.Bool.Decides.{nat_tests}
use Rattle.std.proofs.lemmas.Option.{slice_get-get_or}
use Rattle.tv_base.specs.declared.numbers.ItemNo.{ItemNo}
use Rattle.commute_ops.specs.declared.value.Value.{Value}
use Rattle.letter_types.specs.declared.votes.Cause.{Cause}
use Rattle.letter_types.specs.Causes.{short_cause}
use Rattle.script_parts.specs.Deeds.{found_short}
use Rattle.script_parts.specs.ScriptData.{ScriptData}
use Rattle.script_parts.specs.declared.parts.Deed.{Deed}
use Rattle.script_parts.specs.declared.parts.Deed.TheVariants.{Apply, Get, Set, Draw}
use Rattle.script_parts.specs.declared.parts.SubOp.{SubOp}
use Rattle.script_parts.proofs.Loading.{rest_at}
use Rattle.board_rules.specs.Histories.{Place}
use Rattle.board_rules.specs.Right.{gets_among, is_get, with_worths}
use Rattle.board_rules.specs.Worth.{first_value, worth_in}
use Rattle.worth_steps.specs.Kept.{AreWorths, WorthsData}
use Rattle.worth_steps.specs.Worth.{worth_of}
use Rattle.board_judge.specs.Notes.{AreKnown, noted_on}
use Rattle.board_judge.specs.inside.Shorts.{draws, short_item, short_ops}
use Rattle.board_judge.proofs.NotedWorth.{noted_is_worth}

-- what is kept of an item says what it is worth
pub worth_known : (s : ScriptData) (xs : List Place) (ws : List WorthsData) (x v : ℕ) → AreKnown s xs ws
    → worth_of (first_value (slice_get s.items x)) (noted_on s xs x) v ≡ worth_in s xs x v
worth_known s xs ws x v known = noted_is_worth s xs x v known.valid known.run

-- what is found of an item that is there
pub item_found : (s : ScriptData) (xs : List Place) (ws : List WorthsData) (x : ℕ) (w d : WorthsData) → AreKnown s xs ws → x < length s.items
    → w ≡ get_or ws x d → AreWorths (first_value (slice_get s.items x)) (noted_on s xs x) w
item_found s xs ws x w d known there is =
    let count : length ws ≡ length s.items = known.worths.count in
    known.worths.each x w (slice_get-get_or ws x d (omega (arith, there, count)) ∙ ap (λ (z : WorthsData). Some z) (sym is))

pub item_there : (s : ScriptData) (xs : List Place) (ws : List WorthsData) (x : ℕ) → AreKnown s xs ws → x < length s.items
    → false ≡ ltb x (length ws) → ⊥
item_there s xs ws x known there past = absurd (let count : length ws ≡ length s.items = known.worths.count in grind (arith, nat_tests, count, there, past))

pub decide_worth : (value : ItemNo × Value) (item : ItemNo) (r : Bool) (w : Value) → value.0.0 ≡ item.0 → (r ≡ true → w ≡ value.1)
    → (r ≡ false → w ≡ value.1 → ⊥) → Decides r (value ≡ (item, w))
decide_worth value item r w same shows hides = ((λ is. by (shows is)), back r hides) where
  by : w ≡ value.1 → value ≡ (item, w)
  by is = λ i. (record { 0 = same i }, sym is i)

  back : (b : Bool) → (b ≡ false → w ≡ value.1 → ⊥) → value ≡ (item, w) → b ≡ true
  back true never is = refl
  back false never is = absurd (never refl (sym (ap (λ (z : ItemNo × Value). z.1) is)))

-- values and gets
pub decide_empty : (of : ℕ → Value) (os : List SubOp) (values : List (ItemNo × Value)) (r : Bool) → length os ≡ 0 → r ≡ (length values == 0)
    → Decides r (values ≡ with_worths of (gets_among os))
decide_empty of (o ∷ os) values r none is = absurd (omega (arith, none))
decide_empty of [] [] r none is = ((λ so. refl), (λ so. is ∙ (let one : (0 == 0) ≡ true = refl in one)))
decide_empty of [] (v ∷ vs) r none is =
    ((λ so. absurd (let one : (length (v ∷ vs) == 0) ≡ true = sym is ∙ so in grind (arith, nat_tests, one))), (λ so. absurd (cc so)))

module _ (of : ℕ → Value) (o : SubOp) (os : List SubOp) where
  pub passed_over : is_get o.deed ≡ false → gets_among (o ∷ os) ≡ gets_among os
  passed_over is = by (is_get o.deed) is where
    by : (b : Bool) → b ≡ false → cond b (o ∷ gets_among os) (gets_among os) ≡ gets_among os
    by false is = refl
    by true is = absurd (cc is)

  pub comes_first : is_get o.deed ≡ true → with_worths of (gets_among (o ∷ os)) ≡ (o.item, of o.item.0) ∷ with_worths of (gets_among os)
  comes_first is = by (is_get o.deed) is where
    by : (b : Bool) → b ≡ true → with_worths of (cond b (o ∷ gets_among os) (gets_among os)) ≡ (o.item, of o.item.0) ∷ with_worths of (gets_among os)
    by true is = refl
    by false is = absurd (cc is)

  pub decide_passed : (values : List (ItemNo × Value)) (r : Bool) → is_get o.deed ≡ false → Decides r (values ≡ with_worths of (gets_among os))
      → Decides r (values ≡ with_worths of (gets_among (o ∷ os)))
  decide_passed values r is rest = subst (λ (gets : List SubOp). Decides r (values ≡ with_worths of gets)) (sym (passed_over is)) rest

  pub decide_none : is_get o.deed ≡ true → Decides false ([] ≡ with_worths of (gets_among (o ∷ os)))
  decide_none is = subst (λ (vs : List (ItemNo × Value)). Decides false ([] ≡ vs)) (sym (comes_first is)) ((λ never. absurd (cc never)), (λ never. absurd (cc never)))

  pub decide_other : (value : ItemNo × Value) (others : List (ItemNo × Value)) (r : Bool) → is_get o.deed ≡ true → r ≡ false
      → Decides r (value ≡ (o.item, of o.item.0)) → Decides false (value ∷ others ≡ with_worths of (gets_among (o ∷ os)))
  decide_other value others r is fails one =
      ((λ never. absurd (cc never)), (λ all. absurd (by (one.1 (first all))))) where
        first : value ∷ others ≡ with_worths of (gets_among (o ∷ os)) → value ≡ (o.item, of o.item.0)
        first all = (let both : value ∷ others ≡ (o.item, of o.item.0) ∷ with_worths of (gets_among os) = all ∙ comes_first is in cc both)

        by : r ≡ true → ⊥
        by holds = absurd (cc (holds, fails))

  pub decide_more : (value : ItemNo × Value) (others : List (ItemNo × Value)) (r rest : Bool) → is_get o.deed ≡ true → r ≡ true
      → Decides r (value ≡ (o.item, of o.item.0)) → Decides rest (others ≡ with_worths of (gets_among os))
      → Decides rest (value ∷ others ≡ with_worths of (gets_among (o ∷ os)))
  decide_more value others r rest is holds one more =
      ((λ so. (let head = one.0 holds in let tail = more.0 so in cc) ∙ sym (comes_first is)), (λ all. more.1 (last all))) where
        last : value ∷ others ≡ with_worths of (gets_among (o ∷ os)) → others ≡ with_worths of (gets_among os)
        last all = (let both : value ∷ others ≡ (o.item, of o.item.0) ∷ with_worths of (gets_among os) = all ∙ comes_first is in cc both)

-- The first draw that finds too little.
short_front : (s : ScriptData) (xs : List Place) (v : ℕ) (os : List SubOp) (i : ℕ) (d : SubOp) (one all : Option Cause) → i < length os
    → one ≡ short_item s xs v (get_or os i d) → short_ops s xs v (drop i os) ≡ all
    → option_or one (short_ops s xs v (drop (i + 1) os)) ≡ all
short_front s xs v os i d one all within is so =
    ap (λ (o : Option Cause). option_or o (short_ops s xs v (drop (i + 1) os))) is
    ∙ sym (ap (short_ops s xs v) (rest_at os i d within)) ∙ so

pub short_first : (s : ScriptData) (xs : List Place) (v : ℕ) (os : List SubOp) (i : ℕ) (d : SubOp) (one all : Option Cause) → i < length os
    → one ≡ short_item s xs v (get_or os i d) → short_ops s xs v (drop i os) ≡ all → is_some one ≡ true → one ≡ all
short_first s xs v os i d None all within is so some = absurd (cc some)
short_first s xs v os i d (Some cause) all within is so some = short_front s xs v os i d (Some cause) all within is so

pub short_passed : (s : ScriptData) (xs : List Place) (v : ℕ) (os : List SubOp) (i : ℕ) (d : SubOp) (one all : Option Cause) → i < length os
    → one ≡ short_item s xs v (get_or os i d) → short_ops s xs v (drop i os) ≡ all → is_some one ≡ false → short_ops s xs v (drop (i + 1) os) ≡ all
short_passed s xs v os i d None all within is so none = short_front s xs v os i d None all within is so
short_passed s xs v os i d (Some cause) all within is so none = absurd (cc none)

pub not_short : (s : ScriptData) (xs : List Place) (v : ℕ) (o : SubOp) → draws o.deed ≡ false → None ≡ short_item s xs v o
not_short s xs v o other = ap (short_cause o.item) (by o.deed (worth_in s xs o.item.0 v) other) where
  by : (d : Deed) (w : Value) → draws d ≡ false → None ≡ found_short d w
  by (Draw n) w is = absurd (cc is)
  by Get w is = refl
  by (Set n) w is = refl
  by (Apply op) w is = refl

pub short_seen : (s : ScriptData) (xs : List Place) (ws : List WorthsData) (v : ℕ) (o : SubOp) (w : Value) (one : Option Cause) → AreKnown s xs ws
    → w ≡ worth_of (first_value (slice_get s.items o.item.0)) (noted_on s xs o.item.0) v → one ≡ short_cause o.item (found_short o.deed w)
    → one ≡ short_item s xs v o
short_seen s xs ws v o w one known is so =
    so ∙ ap (λ (z : Value). short_cause o.item (found_short o.deed z)) (is ∙ worth_known s xs ws o.item.0 v known)
