-- What the acts of a node have made of its item is what the item is worth, if all that changed it is closed.
use Rattle.std.proofs.Common.{◌≡◌, ◌≢◌, ◌⊎◌, inl, inr, ℕ, ◌+◌, ◌<◌, ◌≤◌, ◌==◌, ◌&&◌, Bool, true, List, length, refl, sym, ap, ◌∙◌, arith, Option, Some, None}
use Rattle.std.specs.Prelude.{slice_get}
use Rattle.std.specs.List.{list_any}
use Rattle.std.proofs.lemmas.Bool.{and_from, cases_eq, eqb-true, or_cases, or_left, or_right}
use Rattle.std.proofs.lemmas.Bool.Decides.{nat_tests}
use Rattle.tv_base.specs.declared.numbers.Version.{Version}
use Rattle.tv_base.proofs.Truths.{left_true, right_true}
use Rattle.letter_types.specs.declared.acts.Act.{Act}
use Rattle.script_parts.specs.ScriptData.{ScriptData, subs_at, updates}
use Rattle.script_parts.specs.Valid.{IsValid}
use Rattle.board_rules.specs.Histories.{Place, applies, decides_as, does, is_strict_tree, is_whole_in, version_in, was_applied, was_decided_as, was_done}
use Rattle.board_rules.specs.Serial.{commit_order, is_in, is_settled_in, serial_in}
use Rattle.board_rules.specs.Worth.{first_value, worth_in}
use Rattle.board_rules.proofs.ActTests.{applies_as, applies_as_one, decides_as_is}
use Rattle.board_rules.proofs.Closings.{is_in-closings}
use Rattle.board_rules.proofs.EffectPlaces.{at_effect, effect_found, effect_is, effects_once, pair_found}
use Rattle.board_rules.proofs.Effects.{by_time, by_trees, effects_in, made_in, made_is, trees_are}
use Rattle.board_rules.proofs.InOrder.{EffectAt, decided_closes, in_order}
use Rattle.board_rules.proofs.InSerial.{IsBefore, IsPlaced, closes_tree, placed_in, serial_ahead}
use Rattle.board_rules.proofs.Once.{AreOnce, ahead, ahead_has, ahead_kept, clash, has, has_kept, kept_ahead, kept_has, once_kept, one_way, pairs_equal, same_pair, same_tests}
use Rattle.board_rules.proofs.Positions.{ActAt, act_same, found_from, there_from}
use Rattle.board_rules.proofs.Precedence.{act_node, decided_once, decision}
use Rattle.board_rules.proofs.Rules.{AreByRule, FollowsRules, IsItemAt, deed}
use Rattle.board_rules.proofs.SameOrder.{fold_same_order}
use Rattle.board_rules.proofs.SerialOrder.{did_closes, is_in-serial_in, is_up_to, serial_in_apart}
use Rattle.board_rules.proofs.TreeSubs.{after_sub, has_trees, subs_exchanged, tied, touches, trees_ahead, trees_has, trees_in, trees_once}
use Rattle.board_rules.proofs.Wholes.{whole_done}

-- item x of node p is closed up to version v: each update tree of version at most v with a Did that changes x is whole;
-- each strict tree of version at most v that was decided to commit, and changes x, was applied at node p
pub record IsClosed (s : ScriptData) (zs : List Place) (p x v : ℕ) : Type 0 where
  pub whole : (t k : ℕ) → updates s t ≡ true → is_up_to v (version_in t zs) ≡ true → touches s x (t, k) ≡ true → was_done t k zs ≡ true
      → is_whole_in s zs t ≡ true
  pub applied : (t k : ℕ) → is_strict_tree s t ≡ true → is_up_to v (version_in t zs) ≡ true → touches s x (t, k) ≡ true
      → was_decided_as t true zs ≡ true → was_applied t p zs ≡ true

pub record UpTo (v : ℕ) (o : Option Version) : Type 0 where
  pub version : Version
  pub is : o ≡ Some version
  pub most : version.0 ≤ v

pub up_to : (v : ℕ) (o : Option Version) → is_up_to v o ≡ true → UpTo v o
up_to v None is = absurd (cc is)
up_to v (Some w) is = record { version = w; is = refl; most = grind (arith, nat_tests) }

-- an act that is somewhere is among all of them
act_among : (test : Act → Bool) (zs : List Place) (i p : ℕ) → ActAt test zs i p → list_any (λ (x : Place). test x.act) zs ≡ true
act_among test zs i p a = there_from (λ (x : Place). test x.act) zs i 0 (record { node = p; act = a.act }) a.is a.passes (omega arith)

-- What takes effect is in the order.
pub record HasPlace (s : ScriptData) (zs : List Place) (v : ℕ) (q : ℕ × ℕ) : Type 0 where
  pub version : Version
  pub most : version.0 ≤ v
  pub placed : IsPlaced s zs q.0 version
  pub there : q.1 < length (subs_at s q.0)

pub did_stands : (s : ScriptData) (zs : List Place) (p v i : ℕ) (q : ℕ × ℕ) → AreByRule s zs → updates s q.0 ≡ true
    → is_up_to v (version_in q.0 zs) ≡ true → ActAt (does q.0 q.1) zs i p → is_whole_in s zs q.0 ≡ true → HasPlace s zs v q
did_stands s zs p v i q acts up to a whole =
    let o = up_to v (version_in q.0 zs) to in
    record {
      version = o.version;
      most = o.most;
      there = (deed s zs i p q.0 q.1 acts a).there;
      placed = record {
        version = o.is;
        settled = or_left (updates s q.0 && is_whole_in s zs q.0) (is_strict_tree s q.0 && was_decided_as q.0 true zs)
            (and_from (updates s q.0) (is_whole_in s zs q.0) up whole);
        closed = is_in-closings s q.0 zs
            ∙ there_from (closes_tree s q.0) zs i 0 (record { node = p; act = a.act }) a.is (did_closes s q.0 q.1 a.act up a.passes) (omega arith);
      };
    }

pub decided_placed : (s : ScriptData) (zs : List Place) (p i t : ℕ) (w : Version) → is_strict_tree s t ≡ true → version_in t zs ≡ Some w
    → ActAt (decides_as t true) zs i p → IsPlaced s zs t w
decided_placed s zs p i t w strict version a =
    let commit = there_from (λ (x : Place). decides_as t true x.act) zs i 0 (record { node = p; act = a.act }) a.is a.passes (omega arith) in
    record {
      version = version;
      settled = or_right (updates s t && is_whole_in s zs t) (is_strict_tree s t && was_decided_as t true zs)
          (and_from (is_strict_tree s t) (was_decided_as t true zs) strict commit);
      closed = is_in-closings s t zs
          ∙ there_from (closes_tree s t) zs i 0 (record { node = p; act = a.act }) a.is (decided_closes s t a.act strict a.passes) (omega arith);
    }

pub decided_stands : (s : ScriptData) (zs : List Place) (p v i : ℕ) (q : ℕ × ℕ) → is_strict_tree s q.0 ≡ true
    → is_up_to v (version_in q.0 zs) ≡ true → ActAt (decides_as q.0 true) zs i p → q.1 < length (subs_at s q.0) → HasPlace s zs v q
decided_stands s zs p v i q strict to a there =
    let o = up_to v (version_in q.0 zs) to in
    record { version = o.version; most = o.most; there = there; placed = decided_placed s zs p i q.0 o.version strict o.is a }

effect_stands : (s : ScriptData) (zs : List Place) (p x v i : ℕ) (q : ℕ × ℕ) → AreByRule s zs → IsClosed s zs p x v → touches s x q ≡ true
    → is_up_to v (version_in q.0 zs) ≡ true → EffectAt s zs p q i → HasPlace s zs v q
effect_stands s zs p x v i q acts closed touch to (inl d) =
    did_stands s zs p v i q acts d.up to d.at (closed.whole q.0 q.1 d.up to touch (act_among (does q.0 q.1) zs i p d.at))
effect_stands s zs p x v i q acts closed touch to (inr a) =
    let d = decision s zs i p q.0 true acts a.at in decided_stands s zs d.node v d.place q a.strict to d.at a.there

-- What is in the order takes effect.
pub did_there : (s : ScriptData) (zs : List Place) (p x : ℕ) (q : ℕ × ℕ) → AreByRule s zs → IsItemAt s p x → touches s x q ≡ true
    → was_done q.0 q.1 zs ≡ true → (i : ℕ) × ActAt (does q.0 q.1) zs i p
did_there s zs p x q acts item touch done =
    let f = found_from (λ (y : Place). does q.0 q.1 y.act) zs 0 done in
    let here : ActAt (does q.0 q.1) zs f.place f.item.node = record { act = f.item.act; is = f.is; passes = f.passes } in
    let d = deed s zs f.place f.item.node q.0 q.1 acts here in
    (f.place, act_node (does q.0 q.1) zs f.place f.item.node p here (sym d.node ∙ item.placed q.0 q.1 touch))

did_found : (s : ScriptData) (zs : List Place) (p x v : ℕ) (q : ℕ × ℕ) → AreByRule s zs → IsItemAt s p x → touches s x q ≡ true
    → updates s q.0 ≡ true → is_up_to v (version_in q.0 zs) ≡ true → was_done q.0 q.1 zs ≡ true
    → has same_pair q (effects_in s zs p v zs) ≡ true
did_found s zs p x v q acts item touch up to done =
    let d = did_there s zs p x q acts item touch done in at_effect s zs p v q zs d.0 to (inl (record { up = up; at = d.1 }))

-- an Applied of a tree that was decided to commit is one of a commit
pub applied_commits : (s : ScriptData) (zs : List Place) (i j p q t : ℕ) (c : Bool) → AreByRule s zs → ActAt (applies_as t c) zs i p
    → ActAt (decides_as t true) zs j q → c ≡ true
applied_commits s zs i j p q t c acts applied decided =
    let d = decision s zs i p t c acts applied in
    let same = decided_once s zs d.place j d.node q t c true acts d.at decided in
    let both = act_same (decides_as t c) (decides_as t true) zs d.place d.node q d.at
    (record { act = decided.act; is = ap (slice_get zs) same ∙ decided.is; passes = decided.passes }) in
    right_true (t == t) c (sym (ap (decides_as t true) (decides_as_is t c d.at.act d.at.passes)) ∙ both)

pub applied_as_commit : (s : ScriptData) (zs : List Place) (i j p q t : ℕ) → AreByRule s zs → ActAt (applies t) zs i p
    → ActAt (decides_as t true) zs j q → ActAt (applies_as t true) zs i p
applied_as_commit s zs i j p q t acts a decided =
    let c = applies_as_one t a.act a.passes in
    let commit = applied_commits s zs i j p q t c.0 acts (record { act = a.act; is = a.is; passes = c.1 }) decided in
    record { act = a.act; is = a.is; passes = sym (ap (λ (d : Bool). applies_as t d a.act) commit) ∙ c.1 }

applied_there : (s : ScriptData) (zs : List Place) (p x v : ℕ) (q : ℕ × ℕ) → AreByRule s zs → q.1 < length (subs_at s q.0)
    → is_strict_tree s q.0 ≡ true → is_up_to v (version_in q.0 zs) ≡ true → was_decided_as q.0 true zs ≡ true → was_applied q.0 p zs ≡ true
    → has same_pair q (effects_in s zs p v zs) ≡ true
applied_there s zs p x v q acts there strict to committed applied =
    let f = found_from (λ (y : Place). (y.node == p) && applies q.0 y.act) zs 0 applied in
    let node : f.item.node ≡ p = eqb-true f.item.node p (left_true (f.item.node == p) (applies q.0 f.item.act) f.passes) in
    let here = act_node (applies q.0) zs f.place f.item.node p
    (record { act = f.item.act; is = f.is; passes = right_true (f.item.node == p) (applies q.0 f.item.act) f.passes }) node in
    let g = found_from (λ (y : Place). decides_as q.0 true y.act) zs 0 committed in
    let decided : ActAt (decides_as q.0 true) zs g.place g.item.node
    = record { act = g.item.act; is = g.is; passes = g.passes } in
    at_effect s zs p v q zs f.place to
    (inr (record { strict = strict; there = there; at = applied_as_commit s zs f.place g.place p g.item.node q.0 acts here decided }))

settled_effect : (s : ScriptData) (zs : List Place) (p x v : ℕ) (q : ℕ × ℕ) → AreByRule s zs → IsItemAt s p x → IsClosed s zs p x v
    → touches s x q ≡ true → q.1 < length (subs_at s q.0) → is_up_to v (version_in q.0 zs) ≡ true
    → ((updates s q.0 && is_whole_in s zs q.0) ≡ true) ⊎ ((is_strict_tree s q.0 && was_decided_as q.0 true zs) ≡ true)
    → has same_pair q (effects_in s zs p v zs) ≡ true
settled_effect s zs p x v q acts item closed touch there to (inl is) =
    let up = left_true (updates s q.0) (is_whole_in s zs q.0) is in
    did_found s zs p x v q acts item touch up to
    (whole_done s zs q.0 q.1 up (right_true (updates s q.0) (is_whole_in s zs q.0) is) there)
settled_effect s zs p x v q acts item closed touch there to (inr is) =
    let strict = left_true (is_strict_tree s q.0) (was_decided_as q.0 true zs) is in
    let committed = right_true (is_strict_tree s q.0) (was_decided_as q.0 true zs) is in
    applied_there s zs p x v q acts there strict to committed (closed.applied q.0 q.1 strict to touch committed)

-- The two lists have the same members, and what is tied is in the same order in both.
time_in_trees : (s : ScriptData) (zs : List Place) (p x v : ℕ) (q : ℕ × ℕ) → AreByRule s zs → IsClosed s zs p x v
    → has same_pair q (by_time s zs p x v) ≡ true → has same_pair q (by_trees s x (serial_in s zs v)) ≡ true
time_in_trees s zs p x v q acts closed is =
    let k = has_kept same_pair pairs_equal (touches s x) q (effects_in s zs p v zs) is in
    let e = effect_found s zs p v q zs k.0 in
    let t = effect_is s zs p v q zs e.place e.item e.gives e.is in
    let c = effect_stands s zs p x v e.place q acts closed k.1 t.to t.effect in
    kept_has same_pair pairs_equal (touches s x) q (trees_in s (serial_in s zs v))
    (has_trees s q.0 q.1 (serial_in s zs v) (placed_in s zs v q.0 c.version c.placed c.most) c.there) k.1

trees_in_time : (s : ScriptData) (zs : List Place) (p x v : ℕ) (q : ℕ × ℕ) → AreByRule s zs → IsItemAt s p x → IsClosed s zs p x v
    → has same_pair q (by_trees s x (serial_in s zs v)) ≡ true → has same_pair q (by_time s zs p x v) ≡ true
trees_in_time s zs p x v q acts item closed is =
    let k = has_kept same_pair pairs_equal (touches s x) q (trees_in s (serial_in s zs v)) is in
    let t = trees_has s q (serial_in s zs v) k.0 in
    let all = sym (is_in-serial_in s zs v q.0) ∙ t.0 in
    let first = left_true (is_up_to v (version_in q.0 zs) && is_settled_in s zs q.0) (is_in q.0 (commit_order s zs)) all in
    kept_has same_pair pairs_equal (touches s x) q (effects_in s zs p v zs)
    (settled_effect s zs p x v q acts item closed k.1 t.1 (left_true (is_up_to v (version_in q.0 zs)) (is_settled_in s zs q.0) first)
    (or_cases (updates s q.0 && is_whole_in s zs q.0) (is_strict_tree s q.0 && was_decided_as q.0 true zs)
    (right_true (is_up_to v (version_in q.0 zs)) (is_settled_in s zs q.0) first))) k.1

-- two subtransactions of one strict tree that change x are one
pub one_tree : (s : ScriptData) (p x : ℕ) (a b : ℕ × ℕ) → IsItemAt s p x → a.0 ≡ b.0 → tied s a b ≡ true → touches s x a ≡ true → touches s x b ≡ true
    → a ≡ b
one_tree s p x a b item same tie ta tb = by (or_cases (is_strict_tree s a.0) (is_strict_tree s b.0) tie) where
  strict_so : is_strict_tree s a.0 ≡ true → a ≡ b
  strict_so strict =
      let one : a.1 ≡ b.1 = item.once a.0 a.1 b.1 strict ta (ap (λ t. touches s x (t, b.1)) same ∙ tb) in
      λ i. (same i, one i)

  by : (is_strict_tree s a.0 ≡ true) ⊎ (is_strict_tree s b.0 ≡ true) → a ≡ b
  by (inl is) = strict_so is
  by (inr is) = strict_so (ap (is_strict_tree s) same ∙ is)

pub once_apart : (xs : List (ℕ × ℕ)) (a b : ℕ × ℕ) → AreOnce same_pair xs → a ≡ b → ahead same_pair a b xs ≡ true → ⊥
once_apart xs a b once same is =
    clash (ahead same_pair b a xs) (ap (λ z. ahead same_pair z a xs) (sym same) ∙ sym (ap (λ z. ahead same_pair a z xs) (sym same)) ∙ is)
    (one_way same_pair pairs_equal a b xs once is)

time_order : (s : ScriptData) (zs : List Place) (p x v : ℕ) (a b : ℕ × ℕ) → FollowsRules s zs → IsItemAt s p x → IsClosed s zs p x v
    → AreOnce same_pair (by_time s zs p x v) → tied s a b ≡ true → ahead same_pair a b (by_time s zs p x v) ≡ true
    → ahead same_pair a b (by_trees s x (serial_in s zs v)) ≡ true
time_order s zs p x v a b rules item closed once tie is =
    let both = ahead_has same_pair pairs_equal a b (by_time s zs p x v) is in
    let ka = has_kept same_pair pairs_equal (touches s x) a (effects_in s zs p v zs) both.0 in
    let kb = has_kept same_pair pairs_equal (touches s x) b (effects_in s zs p v zs) both.1 in
    let r = pair_found s zs p v a b zs (ahead_kept same_pair pairs_equal (touches s x) a b (effects_in s zs p v zs) is) in
    let ea = effect_is s zs p v a zs r.first.place r.first.item r.first.gives r.first.is in
    let eb = effect_is s zs p v b zs r.second.place r.second.item r.second.gives r.second.is in
    let ca = effect_stands s zs p x v r.first.place a rules.acts closed ka.1 ea.to ea.effect in
    let cb = effect_stands s zs p x v r.second.place b rules.acts closed kb.1 eb.to eb.effect in
    by ka.1 kb.1 ca cb
    (λ ne. in_order s zs p x a b r.first.place r.second.place ca.version cb.version rules item ea.effect eb.effect r.order ne tie ka.1 kb.1
    ca.placed.version cb.placed.version ca.placed.closed) (cases_eq a.0 b.0) where
      by : touches s x a ≡ true → touches s x b ≡ true → (ca : HasPlace s zs v a) → (cb : HasPlace s zs v b)
          → (a.0 ≢ b.0 → IsBefore s zs a.0 b.0 ca.version cb.version) → (a.0 ≡ b.0) ⊎ (a.0 ≢ b.0)
          → ahead same_pair a b (by_trees s x (serial_in s zs v)) ≡ true
      by ta tb ca cb order (inl same) = absurd (once_apart (by_time s zs p x v) a b once (one_tree s p x a b item same tie ta tb) is)
      by ta tb ca cb order (inr ne) =
          kept_ahead same_pair pairs_equal (touches s x) a b (trees_in s (serial_in s zs v))
          (trees_ahead s a.0 a.1 b.0 b.1 (serial_in s zs v)
          (serial_ahead s zs v a.0 b.0 ca.version cb.version ca.placed cb.placed ca.most cb.most (order ne)) ca.there cb.there) ta tb

-- what a node has made of its item, in versions up to v, is what the item is worth at v, where it is closed up to v
pub made_is_worth : (s : ScriptData) (zs : List Place) (p x v : ℕ) → IsValid s → FollowsRules s zs → IsItemAt s p x → IsClosed s zs p x v
    → made_in s zs p x v ≡ worth_in s zs x v
made_is_worth s zs p x v valid rules item closed =
    let first = first_value (slice_get s.items x) in
    let serial = serial_in s zs v in
    let once : AreOnce same_pair (by_time s zs p x v) =
    once_kept same_pair pairs_equal (touches s x) (effects_in s zs p v zs)
    (effects_once s zs p v zs zs 0 rules.acts (λ i y is. let e : 0 + i ≡ i = omega arith in ap (slice_get zs) e ∙ is)) in
    made_is s zs p x v item
    ∙ fold_same_order same_pair pairs_equal (after_sub s x) (tied s) (subs_exchanged s x valid) (by_time s zs p x v) (by_trees s x serial)
    (record {
      first = once;
      second = once_kept same_pair pairs_equal (touches s x) (trees_in s serial) (trees_once s serial (serial_in_apart s zs v));
      all = λ q. same_tests (has same_pair q (by_time s zs p x v)) (has same_pair q (by_trees s x serial))
          (time_in_trees s zs p x v q rules.acts closed) (trees_in_time s zs p x v q rules.acts item closed);
      order = λ a b tie is. time_order s zs p x v a b rules item closed once tie is;
    }) first
    ∙ sym (trees_are s x serial first)
