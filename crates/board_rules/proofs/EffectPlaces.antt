-- Where effects are: an element of the list by time is a Did or an Applied at a position, and the other way round.
use Rattle.std.proofs.Common.{◌≡◌, ◌⊎◌, inl, inr, ℕ, zero, suc, ◌+◌, ◌<◌, ◌≤◌, ◌==◌, ◌&&◌, Bool, true, false, List, [], ◌∷◌, ◌++◌, length, refl, sym, ap, ◌∙◌, arith, Some}
use Rattle.std.specs.Prelude.{if◌then◌else◌, not, slice_get}
use Rattle.std.proofs.lemmas.Bool.{and_from, eqb-true, false_from_ne_true, or_cases, or_left, or_right}
use Rattle.tv_base.proofs.Truths.{left_true, right_true, same_test}
use Rattle.letter_types.specs.declared.acts.Act.{Act}
use Rattle.letter_types.specs.declared.acts.Act.TheVariants.{Born, Did, Turned, Showed, Swept, Finished, Waits, Parked, Voted, Freed, Decided, Applied}
use Rattle.script_parts.specs.ScriptData.{ScriptData, subs_at, updates}
use Rattle.board_rules.specs.Histories.{Place, does, is_strict_tree, version_in}
use Rattle.board_rules.proofs.ActTests.{applies_as, applies_as_is, does_is, so_it_is}
use Rattle.board_rules.proofs.Effects.{effect_at, effect_of, effects_in}
use Rattle.board_rules.proofs.InOrder.{EffectAt, any_applied}
use Rattle.board_rules.proofs.Once.{AreOnce, ahead, clash, has, has_append, once_append, pairs_equal, same_pair}
use Rattle.board_rules.proofs.Positions.{ActAt}
use Rattle.board_rules.proofs.Precedence.{applied_once, choose, did_once}
use Rattle.board_rules.proofs.Rules.{AreByRule}
use Rattle.board_rules.proofs.SerialOrder.{is_up_to}
use Rattle.board_rules.proofs.TreeSubs.{numbered, numbered_in, numbered_once, tree_has}
use Rattle.board_rules.proofs.Wholes.{update_not_strict}

-- subtransaction q takes effect at position i of zs, and its tree is of version at most v by the births in h
pub record Takes (s : ScriptData) (h : List Place) (p v : ℕ) (q : ℕ × ℕ) (zs : List Place) (i : ℕ) : Type 0 where
  pub effect : EffectAt s zs p q i
  pub to : is_up_to v (version_in q.0 h) ≡ true

did_effect : (s : ScriptData) (h : List Place) (p v t k : ℕ) (q : ℕ × ℕ) (zs : List Place) (i : ℕ) (b : Bool)
    → (updates s t && is_up_to v (version_in t h)) ≡ b → has same_pair q (if b then (t, k) ∷ [] else []) ≡ true
    → ActAt (does t k) zs i p → Takes s h p v q zs i
did_effect s h p v t k q zs i false test is at = absurd (cc is)
did_effect s h p v t k q zs i true test is at =
    by (or_cases ((t == q.0) && (k == q.1)) false is) where
      by : (((t == q.0) && (k == q.1)) ≡ true) ⊎ (false ≡ true) → Takes s h p v q zs i
      by (inl here) =
          let one : t ≡ q.0 = eqb-true t q.0 (left_true (t == q.0) (k == q.1) here) in
          let two : k ≡ q.1 = eqb-true k q.1 (right_true (t == q.0) (k == q.1) here) in
          record {
            effect = inl (record {
              up = sym (ap (updates s) one) ∙ left_true (updates s t) (is_up_to v (version_in t h)) test;
              at = record { act = at.act; is = at.is; passes = sym (ap (λ (u : ℕ). does u k at.act) one ∙ ap (λ (j : ℕ). does q.0 j at.act) two) ∙ at.passes };
            });
            to = sym (ap (λ u. is_up_to v (version_in u h)) one) ∙ right_true (updates s t) (is_up_to v (version_in t h)) test;
          }
      by (inr none) = absurd (cc none)

applied_effect : (s : ScriptData) (h : List Place) (p v t : ℕ) (c : Bool) (q : ℕ × ℕ) (zs : List Place) (i : ℕ) (b : Bool)
    → ((is_strict_tree s t && is_up_to v (version_in t h)) && c) ≡ b → has same_pair q (if b then numbered t 0 (subs_at s t) else []) ≡ true
    → ActAt (applies_as t c) zs i p → Takes s h p v q zs i
applied_effect s h p v t c q zs i false test is at = absurd (cc is)
applied_effect s h p v t c q zs i true test is at =
    let n = numbered_in q t 0 (subs_at s t) is in
    let first = left_true (is_strict_tree s t && is_up_to v (version_in t h)) c test in
    let commit : c ≡ true = right_true (is_strict_tree s t && is_up_to v (version_in t h)) c test in
    let one : t ≡ q.0 = sym n.tree in
    let long : length (subs_at s t) ≡ length (subs_at s q.0) = ap (λ u. length (subs_at s u)) one in
    record {
      effect = inr (record {
        strict = sym (ap (is_strict_tree s) one) ∙ left_true (is_strict_tree s t) (is_up_to v (version_in t h)) first;
        there = omega (arith, n.below, long);
        at = record { act = at.act; is = at.is; passes = sym (ap (λ (u : ℕ). applies_as u c at.act) one ∙ ap (λ (d : Bool). applies_as q.0 d at.act) commit) ∙ at.passes };
      });
      to = sym (ap (λ u. is_up_to v (version_in u h)) one) ∙ right_true (is_strict_tree s t) (is_up_to v (version_in t h)) first;
    }

pub act_effect : (s : ScriptData) (h : List Place) (p v : ℕ) (q : ℕ × ℕ) (zs : List Place) (i : ℕ) (a : Act)
    → has same_pair q (effect_of s h v a) ≡ true → slice_get zs i ≡ Some (record { node = p; act = a }) → Takes s h p v q zs i
act_effect s h p v q zs i (Did t k values) is at =
    did_effect s h p v t.0 k.0 q zs i (updates s t.0 && is_up_to v (version_in t.0 h)) refl is
    (record { act = Did t k values; is = at; passes = and_from (t.0 == t.0) (k.0 == k.0) (same_test t.0) (same_test k.0) })
act_effect s h p v q zs i (Applied t c) is at =
    applied_effect s h p v t.0 c q zs i ((is_strict_tree s t.0 && is_up_to v (version_in t.0 h)) && c) refl is
    (record { act = Applied t c; is = at; passes = and_from (t.0 == t.0) (if c then c else not c) (same_test t.0) (so_it_is c) })
act_effect s h p v q zs i (Born u b) is at = absurd (cc is)
act_effect s h p v q zs i (Turned b) is at = absurd (cc is)
act_effect s h p v q zs i (Showed b) is at = absurd (cc is)
act_effect s h p v q zs i (Swept b) is at = absurd (cc is)
act_effect s h p v q zs i Finished is at = absurd (cc is)
act_effect s h p v q zs i (Waits u a b) is at = absurd (cc is)
act_effect s h p v q zs i (Parked u a b c) is at = absurd (cc is)
act_effect s h p v q zs i (Voted u j vote) is at = absurd (cc is)
act_effect s h p v q zs i (Freed u) is at = absurd (cc is)
act_effect s h p v q zs i (Decided u d) is at = absurd (cc is)

-- what the list by time has is at a position
pub effect_is : (s : ScriptData) (h : List Place) (p v : ℕ) (q : ℕ × ℕ) (zs : List Place) (i : ℕ) (y : Place)
    → has same_pair q (effect_at s h p v y) ≡ true → slice_get zs i ≡ Some y → Takes s h p v q zs i
effect_is s h p v q zs i y is at = by (y.node == p) refl is where
  by : (b : Bool) → (y.node == p) ≡ b → has same_pair q (if b then effect_of s h v y.act else []) ≡ true → Takes s h p v q zs i
  by false e none = absurd (cc none)
  by true e some =
      let here : y.node ≡ p = eqb-true y.node p e in
      act_effect s h p v q zs i y.act some (at ∙ (λ j. Some (record { node = here j; act = y.act })))

-- and at one alone
effect_once : (s : ScriptData) (zs : List Place) (p : ℕ) (q : ℕ × ℕ) (i j : ℕ) → AreByRule s zs
    → EffectAt s zs p q i → EffectAt s zs p q j → i ≡ j
effect_once s zs p q i j acts (inl a) (inl b) = did_once s zs i j p p q.0 q.1 acts a.at b.at
effect_once s zs p q i j acts (inl a) (inr b) = clash (is_strict_tree s q.0) b.strict (update_not_strict s q.0 a.up)
effect_once s zs p q i j acts (inr a) (inl b) = clash (is_strict_tree s q.0) a.strict (update_not_strict s q.0 b.up)
effect_once s zs p q i j acts (inr a) (inr b) =
    applied_once s zs i j p q.0 acts (any_applied zs i p q.0 true a.at) (any_applied zs j p q.0 true b.at)

-- From the list to positions, and back.
pub record Effect (s : ScriptData) (h : List Place) (p v : ℕ) (q : ℕ × ℕ) (ys : List Place) : Type 0 where
  pub place : ℕ
  pub item : Place
  pub is : slice_get ys place ≡ Some item
  pub gives : has same_pair q (effect_at s h p v item) ≡ true

pub effect_found : (s : ScriptData) (h : List Place) (p v : ℕ) (q : ℕ × ℕ) (ys : List Place) → has same_pair q (effects_in s h p v ys) ≡ true
    → Effect s h p v q ys
effect_found s h p v q [] is = absurd (cc is)
effect_found s h p v q (y ∷ ys) is =
    by (effect_found s h p v q ys)
    (or_cases (has same_pair q (effect_at s h p v y)) (has same_pair q (effects_in s h p v ys))
    (sym (has_append same_pair pairs_equal q (effect_at s h p v y) (effects_in s h p v ys)) ∙ is)) where
      by : (has same_pair q (effects_in s h p v ys) ≡ true → Effect s h p v q ys)
          → (has same_pair q (effect_at s h p v y) ≡ true) ⊎ (has same_pair q (effects_in s h p v ys) ≡ true) → Effect s h p v q (y ∷ ys)
      by rest (inl here) = record { place = 0; item = y; is = refl; gives = here }
      by rest (inr later) = let e = rest later in record { place = suc e.place; item = e.item; is = e.is; gives = e.gives }

pub effect_there : (s : ScriptData) (h : List Place) (p v : ℕ) (q : ℕ × ℕ) (ys : List Place) (i : ℕ) (y : Place) → slice_get ys i ≡ Some y
    → has same_pair q (effect_at s h p v y) ≡ true → has same_pair q (effects_in s h p v ys) ≡ true
effect_there s h p v q [] i y is here = absurd (cc is)
effect_there s h p v q (z ∷ ys) zero y is here =
    let same : z ≡ y = cc is in
    has_append same_pair pairs_equal q (effect_at s h p v z) (effects_in s h p v ys)
    ∙ or_left (has same_pair q (effect_at s h p v z)) (has same_pair q (effects_in s h p v ys))
    (ap (λ w. has same_pair q (effect_at s h p v w)) same ∙ here)
effect_there s h p v q (z ∷ ys) (suc i) y is here =
    has_append same_pair pairs_equal q (effect_at s h p v z) (effects_in s h p v ys)
    ∙ or_right (has same_pair q (effect_at s h p v z)) (has same_pair q (effects_in s h p v ys)) (effect_there s h p v q ys i y is here)

-- a Did or an Applied gives its effect
did_gives : (s : ScriptData) (h : List Place) (v : ℕ) (q : ℕ × ℕ) (a : Act) → updates s q.0 ≡ true → is_up_to v (version_in q.0 h) ≡ true
    → does q.0 q.1 a ≡ true → has same_pair q (effect_of s h v a) ≡ true
did_gives s h v q a up to is =
    ap (λ (z : Act). has same_pair q (effect_of s h v z)) (does_is q.0 q.1 a is).1
    ∙ ap (has same_pair q) (choose (updates s q.0 && is_up_to v (version_in q.0 h)) ((q.0, q.1) ∷ []) []
    (and_from (updates s q.0) (is_up_to v (version_in q.0 h)) up to))
    ∙ or_left (same_pair q q) false (pairs_equal.itself q)

applied_gives : (s : ScriptData) (h : List Place) (v : ℕ) (q : ℕ × ℕ) (a : Act) → is_strict_tree s q.0 ≡ true
    → is_up_to v (version_in q.0 h) ≡ true → q.1 < length (subs_at s q.0) → applies_as q.0 true a ≡ true
    → has same_pair q (effect_of s h v a) ≡ true
applied_gives s h v q a strict to there is =
    ap (λ (z : Act). has same_pair q (effect_of s h v z)) (applies_as_is q.0 true a is)
    ∙ ap (has same_pair q) (choose ((is_strict_tree s q.0 && is_up_to v (version_in q.0 h)) && true) (numbered q.0 0 (subs_at s q.0)) []
    (and_from (is_strict_tree s q.0 && is_up_to v (version_in q.0 h)) true
    (and_from (is_strict_tree s q.0) (is_up_to v (version_in q.0 h)) strict to) refl))
    ∙ tree_has s q.0 q.1 there

effect_here : (s : ScriptData) (h : List Place) (p v : ℕ) (q : ℕ × ℕ) (ys : List Place) (i : ℕ) (a : Act)
    → slice_get ys i ≡ Some (record { node = p; act = a }) → has same_pair q (effect_of s h v a) ≡ true
    → has same_pair q (effects_in s h p v ys) ≡ true
effect_here s h p v q ys i a is gives =
    effect_there s h p v q ys i (record { node = p; act = a }) is
    (ap (has same_pair q) (choose (p == p) (effect_of s h v a) [] (same_test p)) ∙ gives)

pub at_effect : (s : ScriptData) (h : List Place) (p v : ℕ) (q : ℕ × ℕ) (ys : List Place) (i : ℕ) → is_up_to v (version_in q.0 h) ≡ true
    → EffectAt s ys p q i → has same_pair q (effects_in s h p v ys) ≡ true
at_effect s h p v q ys i to (inl d) = effect_here s h p v q ys i d.at.act d.at.is (did_gives s h v q d.at.act d.up to d.at.passes)
at_effect s h p v q ys i to (inr a) =
    effect_here s h p v q ys i a.at.act a.at.is (applied_gives s h v q a.at.act a.strict to a.there a.at.passes)

-- of two, one ahead of the other in time
pub record Pair (s : ScriptData) (h : List Place) (p v : ℕ) (a b : ℕ × ℕ) (ys : List Place) : Type 0 where
  pub first : Effect s h p v a ys
  pub second : Effect s h p v b ys
  pub order : first.place ≤ second.place

ahead_parts : (a b : ℕ × ℕ) (xs ys : List (ℕ × ℕ)) → ahead same_pair a b (xs ++ ys) ≡ true
    → ((has same_pair a xs ≡ true) × (has same_pair b xs ≡ true)) ⊎ ((has same_pair a xs ≡ true) × (has same_pair b ys ≡ true)) ⊎ (ahead same_pair a b ys ≡ true)
ahead_parts a b [] ys is = inr (inr is)
ahead_parts a b (x ∷ xs) ys is =
    by (ahead_parts a b xs ys) (or_cases (same_pair x a && has same_pair b (xs ++ ys)) (ahead same_pair a b (xs ++ ys)) is) where
      by : (ahead same_pair a b (xs ++ ys) ≡ true
          → ((has same_pair a xs ≡ true) × (has same_pair b xs ≡ true)) ⊎ ((has same_pair a xs ≡ true) × (has same_pair b ys ≡ true)) ⊎ (ahead same_pair a b ys ≡ true))
          → ((same_pair x a && has same_pair b (xs ++ ys)) ≡ true) ⊎ (ahead same_pair a b (xs ++ ys) ≡ true)
          → ((has same_pair a (x ∷ xs) ≡ true) × (has same_pair b (x ∷ xs) ≡ true)) ⊎ ((has same_pair a (x ∷ xs) ≡ true) × (has same_pair b ys ≡ true)) ⊎ (ahead same_pair a b ys ≡ true)
      by rest (inl here) =
          let one = or_left (same_pair x a) (has same_pair a xs) (left_true (same_pair x a) (has same_pair b (xs ++ ys)) here) in
          side one (or_cases (has same_pair b xs) (has same_pair b ys)
          (sym (has_append same_pair pairs_equal b xs ys) ∙ right_true (same_pair x a) (has same_pair b (xs ++ ys)) here)) where
            side : has same_pair a (x ∷ xs) ≡ true → (has same_pair b xs ≡ true) ⊎ (has same_pair b ys ≡ true)
                → ((has same_pair a (x ∷ xs) ≡ true) × (has same_pair b (x ∷ xs) ≡ true)) ⊎ ((has same_pair a (x ∷ xs) ≡ true) × (has same_pair b ys ≡ true)) ⊎ (ahead same_pair a b ys ≡ true)
            side one (inl two) = inl (one, or_right (same_pair x b) (has same_pair b xs) two)
            side one (inr two) = inr (inl (one, two))
      by rest (inr later) = more (rest later) where
        more : ((has same_pair a xs ≡ true) × (has same_pair b xs ≡ true)) ⊎ ((has same_pair a xs ≡ true) × (has same_pair b ys ≡ true)) ⊎ (ahead same_pair a b ys ≡ true)
            → ((has same_pair a (x ∷ xs) ≡ true) × (has same_pair b (x ∷ xs) ≡ true)) ⊎ ((has same_pair a (x ∷ xs) ≡ true) × (has same_pair b ys ≡ true)) ⊎ (ahead same_pair a b ys ≡ true)
        more (inl both) = inl (or_right (same_pair x a) (has same_pair a xs) both.0, or_right (same_pair x b) (has same_pair b xs) both.1)
        more (inr (inl both)) = inr (inl (or_right (same_pair x a) (has same_pair a xs) both.0, both.1))
        more (inr (inr is)) = inr (inr is)

pub pair_found : (s : ScriptData) (h : List Place) (p v : ℕ) (a b : ℕ × ℕ) (ys : List Place)
    → ahead same_pair a b (effects_in s h p v ys) ≡ true → Pair s h p v a b ys
pair_found s h p v a b [] is = absurd (cc is)
pair_found s h p v a b (y ∷ ys) is =
    by (pair_found s h p v a b ys) (ahead_parts a b (effect_at s h p v y) (effects_in s h p v ys) is) where
      by : (ahead same_pair a b (effects_in s h p v ys) ≡ true → Pair s h p v a b ys)
          → ((has same_pair a (effect_at s h p v y) ≡ true) × (has same_pair b (effect_at s h p v y) ≡ true))
          ⊎ ((has same_pair a (effect_at s h p v y) ≡ true) × (has same_pair b (effects_in s h p v ys) ≡ true))
          ⊎ (ahead same_pair a b (effects_in s h p v ys) ≡ true)
          → Pair s h p v a b (y ∷ ys)
      by rest (inl both) = record {
        first = record { place = 0; item = y; is = refl; gives = both.0 };
        second = record { place = 0; item = y; is = refl; gives = both.1 };
        order = omega arith;
      }
      by rest (inr (inl both)) =
          let e = effect_found s h p v b ys both.1 in
          record {
            first = record { place = 0; item = y; is = refl; gives = both.0 };
            second = record { place = suc e.place; item = e.item; is = e.is; gives = e.gives };
            order = omega arith;
          }
      by rest (inr (inr later)) =
          let r = rest later in
          record {
            first = record { place = suc r.first.place; item = r.first.item; is = r.first.is; gives = r.first.gives };
            second = record { place = suc r.second.place; item = r.second.item; is = r.second.is; gives = r.second.gives };
            order = omega (arith, r.order);
          }

-- each occurs once
one_once : (s : ScriptData) (h : List Place) (v : ℕ) (a : Act) → AreOnce same_pair (effect_of s h v a)
one_once s h v (Did t k values) = by (updates s t.0 && is_up_to v (version_in t.0 h)) where
  by : (b : Bool) → AreOnce same_pair (if b then (t.0, k.0) ∷ [] else [])
  by true = (refl, tt)
  by false = tt
one_once s h v (Applied t c) = by ((is_strict_tree s t.0 && is_up_to v (version_in t.0 h)) && c) where
  by : (b : Bool) → AreOnce same_pair (if b then numbered t.0 0 (subs_at s t.0) else [])
  by true = numbered_once t.0 0 (subs_at s t.0)
  by false = tt
one_once s h v Finished = tt
one_once s h v _ = tt

place_once : (s : ScriptData) (h : List Place) (v : ℕ) (y : Place) (b : Bool) → AreOnce same_pair (if b then effect_of s h v y.act else [])
place_once s h v y true = one_once s h v y.act
place_once s h v y false = tt

pub effects_once : (s : ScriptData) (h : List Place) (p v : ℕ) (ys zs : List Place) (n : ℕ) → AreByRule s zs
    → ((i : ℕ) (y : Place) → slice_get ys i ≡ Some y → slice_get zs (n + i) ≡ Some y) → AreOnce same_pair (effects_in s h p v ys)
effects_once s h p v [] zs n acts within = tt
effects_once s h p v (y ∷ ys) zs n acts within =
    once_append same_pair pairs_equal (effect_at s h p v y) (effects_in s h p v ys) (place_once s h v y (y.node == p))
    (effects_once s h p v ys zs (n + 1) acts
    (λ i z is. let next : n + 1 + i ≡ n + suc i = omega arith in ap (slice_get zs) next ∙ within (suc i) z is))
    (λ q here. false_from_ne_true (has same_pair q (effects_in s h p v ys)) (λ there.
    let e = effect_found s h p v q ys there in
    let one = effect_is s h p v q zs (n + 0) y here (within 0 y refl) in
    let two = effect_is s h p v q zs (n + suc e.place) e.item e.gives (within (suc e.place) e.item e.is) in
    let same = effect_once s zs p q (n + 0) (n + suc e.place) acts one.effect two.effect in
    absurd (omega (arith, same))))
