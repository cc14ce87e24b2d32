-- What a node has made of its item in versions up to one stays, if nothing of these versions changes it later; and
-- so does its worth, if it is closed. What takes effect was born before.
use Rattle.std.proofs.Common.{◌≡◌, ℕ, zero, suc, ◌+◌, ◌<◌, ◌≤◌, ◌==◌, ◌&&◌, Bool, true, false, List, ◌∷◌, refl, sym, ap, ◌∙◌, inl, inr, arith, Option, Some, take, []}
use Rattle.std.specs.Prelude.{if◌then◌else◌, fold, filter, is_some, slice_get}
use Rattle.std.proofs.lemmas.Bool.{and_from, false_from_ne_true}
use Rattle.std.proofs.lemmas.Option.{slice_get_within}
use Rattle.tv_base.specs.declared.numbers.Version.{Version}
use Rattle.tv_base.proofs.Truths.{same_test}
use Rattle.commute_ops.specs.declared.value.Value.{Value}
use Rattle.letter_types.specs.declared.acts.Act.{Act}
use Rattle.letter_types.specs.declared.acts.Act.TheVariants.{Did, Applied, Finished}
use Rattle.script_parts.specs.ScriptData.{ScriptData, ops_of, subs_at, updates}
use Rattle.script_parts.specs.Valid.{IsValid}
use Rattle.script_parts.specs.declared.parts.Sub.{Sub}
use Rattle.board_rules.specs.Histories.{Place, is_strict_tree, version_in}
use Rattle.board_rules.specs.Stands.{votes_yes}
use Rattle.board_rules.specs.Worth.{after_ops, after_subs, first_value, worth_in}
use Rattle.board_rules.proofs.ActTests.{applies_as}
use Rattle.board_rules.proofs.ClosedWorth.{IsClosed, made_is_worth}
use Rattle.board_rules.proofs.EffectPlaces.{Takes, effect_is}
use Rattle.board_rules.proofs.Effects.{effect_at, made_at, made_by, made_in, place_folded, still_ops, subs_there}
use Rattle.board_rules.proofs.InOrder.{EffectAt}
use Rattle.board_rules.proofs.Once.{fold_kept, has, has_kept, nothing_there, pairs_equal, same_pair}
use Rattle.board_rules.proofs.Positions.{ActAt, found, found_act, found_all, taken_is}
use Rattle.board_rules.proofs.Precedence.{decision}
use Rattle.board_rules.proofs.Rules.{AreByRule, FollowsRules, IsItemAt, applying, deciding, deed, yes_vote}
use Rattle.board_rules.proofs.SerialOrder.{is_up_to}
use Rattle.board_rules.proofs.TreeSubs.{after_sub, touches}
use Rattle.board_rules.proofs.Votes.{rules_before}
use Rattle.board_rules.proofs.Wholes.{born_later, version_alike}

-- What takes effect is of a tree that was born before.
applied_born : (s : ScriptData) (zs : List Place) (i p t : ℕ) → AreByRule s zs → ActAt (applies_as t true) zs i p
    → is_some (version_in t (take i zs)) ≡ true
applied_born s zs i p t acts applied =
    let k = found_all (λ (sub : Sub). sub.node.0 == p) (subs_at s t) (applying s zs i p t true acts applied).visited in
    let d = decision s zs i p t true acts applied in
    let yes = (deciding s zs d.place d.node t true acts d.at).only_if refl k.place (slice_get_within (subs_at s t) k.place k.item k.is) in
    let f = found (λ (y : Place). votes_yes t k.place y.act) zs d.place yes in
    let y = yes_vote s zs f.place f.item.node t k.place acts (found_act (votes_yes t k.place) zs d.place f) in
    born_later t f.place i zs (omega (arith, f.below, d.below)) y.born

pub effect_born : (s : ScriptData) (zs : List Place) (p i : ℕ) (q : ℕ × ℕ) → AreByRule s zs → EffectAt s zs p q i
    → is_some (version_in q.0 (take i zs)) ≡ true
effect_born s zs p i q acts (inl d) = (deed s zs i p q.0 q.1 acts d.at).born
effect_born s zs p i q acts (inr a) = applied_born s zs i p q.0 acts a.at

-- what takes effect among the first n acts takes effect below n, in the whole list
pub effect_taken : (s : ScriptData) (zs : List Place) (p n i : ℕ) (q : ℕ × ℕ) → EffectAt s (take n zs) p q i → (i < n) × EffectAt s zs p q i
effect_taken s zs p n i q (inl d) =
    let h = taken_is zs n i (record { node = p; act = d.at.act }) d.at.is in
    (h.0, inl (record { up = d.up; at = record { act = d.at.act; is = h.1; passes = d.at.passes } }))
effect_taken s zs p n i q (inr b) =
    let h = taken_is zs n i (record { node = p; act = b.at.act }) b.at.is in
    (h.0, inr (record { strict = b.strict; there = b.there; at = record { act = b.at.act; is = h.1; passes = b.at.passes } }))

-- So an act makes the same of the item by the births up to n and by all, where it is below n.
never : (b : Bool) (u w : Value) → (if b && false then u else w) ≡ w
never true u w = refl
never false u w = refl

act_alike : (s : ScriptData) (zs : List Place) (p x v n i q : ℕ) (w : Value) (a : Act) → AreByRule s zs
    → slice_get zs i ≡ Some (record { node = q; act = a }) → i ≤ n → made_by s (take n zs) p x v w a ≡ made_by s zs p x v w a
act_alike s zs p x v n i q w (Did t k values) acts is le =
    let d = deed s zs i q t.0 k.0 acts
    (record { act = Did t k values; is = is; passes = and_from (t.0 == t.0) (k.0 == k.0) (same_test t.0) (same_test k.0) }) in
    ap (λ (o : Option Version). if updates s t.0 && is_up_to v o then after_ops x (ops_of s t.0 k.0) w else w)
    (version_alike t.0 i n zs le d.born)
act_alike s zs p x v n i q w (Applied t true) acts is le =
    let born = applied_born s zs i q t.0 acts
    (record { act = Applied t true; is = is; passes = and_from (t.0 == t.0) true (same_test t.0) refl }) in
    ap (λ (o : Option Version). if (is_strict_tree s t.0 && is_up_to v o) && true then after_subs x (subs_there p (subs_at s t.0)) w else w)
    (version_alike t.0 i n zs le born)
act_alike s zs p x v n i q w (Applied t false) acts is le =
    let made : Value = after_subs x (subs_there p (subs_at s t.0)) w in
    never (is_strict_tree s t.0 && is_up_to v (version_in t.0 (take n zs))) made w
    ∙ sym (never (is_strict_tree s t.0 && is_up_to v (version_in t.0 zs)) made w)
act_alike s zs p x v n i q w Finished acts is le = refl
act_alike s zs p x v n i q w _ acts is le = refl

place_alike : (s : ScriptData) (zs : List Place) (p x v n i : ℕ) (w : Value) (y : Place) (b : Bool) → AreByRule s zs
    → slice_get zs i ≡ Some y → i ≤ n
    → (if b then made_by s (take n zs) p x v w y.act else w) ≡ (if b then made_by s zs p x v w y.act else w)
place_alike s zs p x v n i w y true acts is le = act_alike s zs p x v n i y.node w y.act acts is le
place_alike s zs p x v n i w y false acts is le = refl

part_alike : (s : ScriptData) (zs : List Place) (p x v n : ℕ) (ys : List Place) (m r : ℕ) (w : Value) → AreByRule s zs → m + r ≡ n
    → ((i : ℕ) (y : Place) → slice_get ys i ≡ Some y → slice_get zs (m + i) ≡ Some y)
    → fold (made_at s (take n zs) p x v) w (take r ys) ≡ fold (made_at s zs p x v) w (take r ys)
part_alike s zs p x v n [] m zero w acts all within = refl
part_alike s zs p x v n [] m (suc r) w acts all within = refl
part_alike s zs p x v n (y ∷ ys) m zero w acts all within = refl
part_alike s zs p x v n (y ∷ ys) m (suc r) w acts all within =
    ap (λ u. fold (made_at s (take n zs) p x v) u (take r ys))
    (place_alike s zs p x v n (m + 0) w y (y.node == p) acts (within 0 y refl) (omega (arith, all)))
    ∙ part_alike s zs p x v n ys (m + 1) r (made_at s zs p x v w y) acts (omega (arith, all))
    (λ i z is. let next : m + 1 + i ≡ m + suc i = omega arith in ap (slice_get zs) next ∙ within (suc i) z is)

-- what a node's first acts have made of its item is their fold, by all births
pub made_part : (s : ScriptData) (zs : List Place) (p x v n : ℕ) → AreByRule s zs
    → made_in s (take n zs) p x v ≡ fold (made_at s zs p x v) (first_value (slice_get s.items x)) (take n zs)
made_part s zs p x v n acts =
    part_alike s zs p x v n zs 0 n (first_value (slice_get s.items x)) acts (omega arith)
    (λ i y is. let same : 0 + i ≡ i = omega arith in ap (slice_get zs) same ∙ is)

-- no subtransaction of a tree of version at most v changes x from n on
abbrev pub IsStill : ScriptData → List Place → ℕ → ℕ → ℕ → ℕ → Type 0
IsStill s zs p x v n = (q : ℕ × ℕ) (i : ℕ) → Takes s zs p v q zs i → touches s x q ≡ true → i < n

-- an act from there on leaves the item
place_still : (s : ScriptData) (zs : List Place) (p x v n i : ℕ) (w : Value) (y : Place) → IsItemAt s p x → IsStill s zs p x v n
    → slice_get zs i ≡ Some y → n ≤ i → made_at s zs p x v w y ≡ w
place_still s zs p x v n i w y item still is le =
    place_folded s zs p x v w y (y.node == p) item
    ∙ fold_kept (touches s x) (after_sub s x) (λ q none u. still_ops x (ops_of s q.0 q.1) u none) (effect_at s zs p v y) w
    ∙ ap (fold (after_sub s x) w)
    (nothing_there same_pair pairs_equal (filter (touches s x) (effect_at s zs p v y)) (λ q.
    false_from_ne_true (has same_pair q (filter (touches s x) (effect_at s zs p v y))) (λ there.
    let k = has_kept same_pair pairs_equal (touches s x) q (effect_at s zs p v y) there in
    let lt = still q i (effect_is s zs p v q zs i y k.0 is) k.1 in
    absurd (omega (arith, lt, le)))))

rest_still : (s : ScriptData) (zs : List Place) (p x v n : ℕ) (ys : List Place) (m : ℕ) (w : Value) → IsItemAt s p x → IsStill s zs p x v n
    → n ≤ m → ((i : ℕ) (y : Place) → slice_get ys i ≡ Some y → slice_get zs (m + i) ≡ Some y)
    → fold (made_at s zs p x v) w ys ≡ w
rest_still s zs p x v n [] m w item still le within = refl
rest_still s zs p x v n (y ∷ ys) m w item still le within =
    ap (λ u. fold (made_at s zs p x v) u ys) (place_still s zs p x v n (m + 0) w y item still (within 0 y refl) (omega (arith, le)))
    ∙ rest_still s zs p x v n ys (m + 1) w item still (omega (arith, le))
    (λ i z is. let next : m + 1 + i ≡ m + suc i = omega arith in ap (slice_get zs) next ∙ within (suc i) z is)

stays_by : (s : ScriptData) (zs : List Place) (p x v n : ℕ) (ys : List Place) (m r : ℕ) (w : Value) → IsItemAt s p x
    → IsStill s zs p x v n → m + r ≡ n → ((i : ℕ) (y : Place) → slice_get ys i ≡ Some y → slice_get zs (m + i) ≡ Some y)
    → fold (made_at s zs p x v) w (take r ys) ≡ fold (made_at s zs p x v) w ys
stays_by s zs p x v n [] m zero w item still all within = refl
stays_by s zs p x v n [] m (suc r) w item still all within = refl
stays_by s zs p x v n (y ∷ ys) m zero w item still all within =
    sym (rest_still s zs p x v n (y ∷ ys) m w item still (omega (arith, all)) within)
stays_by s zs p x v n (y ∷ ys) m (suc r) w item still all within =
    stays_by s zs p x v n ys (m + 1) r (made_at s zs p x v w y) item still (omega (arith, all))
    (λ i z is. let next : m + 1 + i ≡ m + suc i = omega arith in ap (slice_get zs) next ∙ within (suc i) z is)

-- what a node has made of its item up to v stays
pub made_stays : (s : ScriptData) (zs : List Place) (p x v n : ℕ) → AreByRule s zs → IsItemAt s p x → IsStill s zs p x v n
    → made_in s (take n zs) p x v ≡ made_in s zs p x v
made_stays s zs p x v n acts item still =
    made_part s zs p x v n acts
    ∙ stays_by s zs p x v n zs 0 n (first_value (slice_get s.items x)) item still (omega arith)
    (λ i y is. let same : 0 + i ≡ i = omega arith in ap (slice_get zs) same ∙ is)

-- and where it is closed up to v, then and at the end, what it is worth stays
pub closed_worth_stays : (s : ScriptData) (zs : List Place) (p x v n : ℕ) → IsValid s → FollowsRules s zs → IsItemAt s p x
    → IsStill s zs p x v n → IsClosed s (take n zs) p x v → IsClosed s zs p x v → worth_in s (take n zs) x v ≡ worth_in s zs x v
closed_worth_stays s zs p x v n valid rules item still one two =
    sym (made_is_worth s (take n zs) p x v valid (rules_before s zs n rules) item one)
    ∙ made_stays s zs p x v n rules.acts item still
    ∙ made_is_worth s zs p x v valid rules item two
