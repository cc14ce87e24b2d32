-- What a committed strict transaction got of an item is the fold over the members of the serial order before it.
use Rattle.std.proofs.Common.{◌≡◌, ◌≢◌, ◌⊎◌, inl, inr, ℕ, ◌+◌, ◌<◌, ◌≤◌, ◌==◌, ◌&&◌, true, List, length, sym, ap, ◌∙◌, arith, Some, take, drop}
use Rattle.std.specs.Prelude.{slice_get}
use Rattle.std.specs.List.{list_any}
use Rattle.std.proofs.lemmas.Bool.{and_from, cases_eq, cases_lt, ne_eqb, or_cases}
use Rattle.tv_base.specs.declared.numbers.Version.{Version}
use Rattle.tv_base.proofs.Truths.{left_true, right_true, same_test}
use Rattle.script_parts.specs.ScriptData.{ScriptData, ops_of, subs_at, updates}
use Rattle.script_parts.specs.Valid.{IsValid}
use Rattle.board_rules.specs.Histories.{Place, applies, decides_as, does, is_strict_tree, is_whole_in, version_in, was_decided_as}
use Rattle.board_rules.specs.Serial.{commit_order, is_in, is_settled_in, serial_in}
use Rattle.nc_locks.specs.Modes.{modes_conflict}
use Rattle.script_parts.specs.Wants.{mode_wanted}
use Rattle.board_rules.specs.Stands.{votes, votes_yes}
use Rattle.board_rules.specs.Worth.{first_value, worth_after, worth_in}
use Rattle.board_rules.proofs.ActTests.{applies_as, applies_as_one, votes_yes_is}
use Rattle.board_rules.proofs.AtEntry.{vote_sees_worth_before}
use Rattle.board_rules.proofs.BeforeTree.{ahead_before, before_ahead, before_apart, before_in, before_order, before_tree}
use Rattle.board_rules.proofs.ClosedWorth.{HasPlace, applied_as_commit, decided_placed, decided_stands, did_stands, did_there, once_apart, one_tree, up_to}
use Rattle.board_rules.proofs.EffectPlaces.{Takes, at_effect, effect_found, effect_is, effects_once, pair_found}
use Rattle.board_rules.proofs.Effects.{by_time, by_trees, effects_in, made_in, made_is, trees_are}
use Rattle.board_rules.proofs.InOrder.{EffectAt, Held, by_versions, decided_closes, held, in_order, not_both, not_closed_decided, not_closed_did, one_voter, version_known}
use Rattle.board_rules.proofs.InSerial.{IsBefore, IsPlaced, closed_ahead, closes_tree, placed_in, serial_ahead}
use Rattle.board_rules.proofs.Once.{AreOnce, ahead, ahead_has, ahead_kept, clash, has, has_kept, kept_ahead, kept_has, numbers_equal, once_kept, one_way, pairs_equal, same_number, same_pair, same_tests}
use Rattle.board_rules.proofs.Positions.{ActAt, ActBelow, act_taken, act_there, found_all, not_below, taken_is, there_from}
use Rattle.board_rules.proofs.Precedence.{applied_before, applied_between, applied_early, change, decided_once, decision, did_early, freed_before, held_by, hold_left, hold_right, vote}
use Rattle.board_rules.proofs.Rules.{FollowsRules, IsFreeVote, IsItemAt, freeing, yes_vote}
use Rattle.board_rules.proofs.SameOrder.{fold_same_order}
use Rattle.board_rules.proofs.SerialOrder.{did_closes, is_in-serial_in, is_up_to, serial_in_apart}
use Rattle.board_rules.proofs.Standing.{OpOn}
use Rattle.board_rules.proofs.Stays.{effect_born}
use Rattle.board_rules.proofs.TreeSubs.{after_sub, has_trees, subs_exchanged, tied, touches, trees_ahead, trees_has, trees_in, trees_once}
use Rattle.board_rules.proofs.Votes.{AreQuiet, MeetsNone, vote_sees_worth}
use Rattle.board_rules.proofs.Wholes.{version_alike, whole_all, whole_done}

-- subtransaction n of strict tree k, of version v, votes yes on item x at position a, and the tree is decided to commit
-- at position e
pub record CommittedVote (s : ScriptData) (zs : List Place) (p x k n : ℕ) (v : Version) (a e : ℕ) : Type 0 where
  pub rules : FollowsRules s zs
  pub item : IsItemAt s p x
  pub voted : ActAt (votes_yes k n) zs a p
  pub on : OpOn x (ops_of s k n)
  pub home : ℕ
  pub decided : ActAt (decides_as k true) zs e home
  pub version : version_in k zs ≡ Some v

-- What is said of a committed vote.
module _ (s : ScriptData) (zs : List Place) (p x k n : ℕ) (v : Version) (a e : ℕ) (g : CommittedVote s zs p x k n v a e) where
  by_rule : IsFreeVote s (take a zs) p k n
  by_rule = yes_vote s zs a p k n g.rules.acts g.voted

  pub meets_none : MeetsNone s zs p x k n a
  meets_none = record { strict = by_rule.strict; there = by_rule.there; unvoted = by_rule.once; free = by_rule.free; on = g.on }

  known : version_in k (take a zs) ≡ Some v
  known = version_known s zs p k n a v g.rules.acts g.voted g.version

  voted_before : a < e
  voted_before =
      let f = vote s zs e g.home k n p g.rules.acts g.decided by_rule.there by_rule.node in
      let le = not_below (λ (y : Place). votes k n y.act) zs f.place a (record { node = p; act = f.at.act }) f.at.is
      (ap (votes k n) (votes_yes_is k n f.at.act f.at.passes).1 ∙ and_from (k == k) (n == n) (same_test k) (same_test n)) by_rule.once in
      omega (arith, le, f.below)

  -- where k itself is, and that its decision closes it
  k_placed : IsPlaced s zs k v
  k_placed = decided_placed s zs g.home e k v by_rule.strict g.version g.decided

  k_stands : is_in k (serial_in s zs v.0) ≡ true
  k_stands = placed_in s zs v.0 k v k_placed (omega arith)

  k_closes : (m : ℕ) → m ≤ e → list_any (closes_tree s k) (drop m zs) ≡ true
  k_closes m le =
      there_from (closes_tree s k) zs e m (record { node = g.home; act = g.decided.act }) g.decided.is
      (decided_closes s k g.decided.act by_rule.strict g.decided.passes) le

  -- k is applied after its decision alone
  applied_after : (j : ℕ) → ActAt (applies k) zs j p → e < j
  applied_after j applied =
      let c = applies_as_one k applied.act applied.passes in
      let d = decision s zs j p k c.0 g.rules.acts (record { act = applied.act; is = applied.is; passes = c.1 }) in
      let same = decided_once s zs d.place e d.node g.home k c.0 true g.rules.acts d.at g.decided in
      omega (arith, same, d.below)

  -- What takes effect before the vote, in a version of at most k's, is ahead of k.
  record Early (q : ℕ × ℕ) : Type 0 where
    stands : HasPlace s zs v.0 q
    first : ahead same_number q.0 k (serial_in s zs v.0) ≡ true

  early_by : (q : ℕ × ℕ) (c : HasPlace s zs v.0 q) → (c.version.0 ≡ v.0 → ahead same_number q.0 k (commit_order s zs) ≡ true) → Early q
  early_by q c same = record {
    stands = c;
    first = serial_ahead s zs v.0 q.0 k c.version v c.placed k_placed c.most (omega arith) before;
  } where
    before : IsBefore s zs q.0 k c.version v
    before = by_versions c.version.0 v.0 (λ less. inl less) (λ e2. inr (e2, same e2)) (λ more. absurd (omega (arith, more, c.most)))

  early : (q : ℕ × ℕ) (i : ℕ) → touches s x q ≡ true → is_up_to v.0 (version_in q.0 zs) ≡ true → EffectAt s zs p q i → i < a → Early q
  early q i touch to (inl d) lt =
      let o = (change x (ops_of s q.0 q.1) touch).on in
      let f = freed_before s zs p x q.0 q.1 k n i a g.rules.acts g.item d.up d.at o g.voted g.on lt in
      let whole = whole_all s f.place zs q.0 (freeing s zs f.place p q.0 g.rules.acts f.at).whole in
      let c = did_stands s zs p v.0 i q g.rules.acts d.up to d.at whole in
      early_by q c (λ same.
      closed_ahead s zs q.0 k e c.placed.closed
      (not_closed_did s zs p q.0 f.place e g.rules.acts d.up f.at (omega (arith, f.before, voted_before))) (k_closes e (omega arith)))
  early q i touch to (inr b) lt =
      let d = decision s zs i p q.0 true g.rules.acts b.at in
      let c = decided_stands s zs d.node v.0 d.place q b.strict to d.at b.there in
      early_by q c (λ same.
      closed_ahead s zs q.0 k (d.place + 1) c.placed.closed
      (not_closed_decided s zs d.node q.0 d.place (d.place + 1) g.rules.acts b.strict d.at (omega arith))
      (k_closes (d.place + 1) (omega (arith, d.below, lt, voted_before))))

  -- What is ahead of k takes effect before the vote.
  not_after : (t : ℕ) (w : Version) → IsPlaced s zs t w → w.0 ≡ v.0 → ahead same_number t k (serial_in s zs v.0) ≡ true
      → list_any (closes_tree s t) (drop (e + 1) zs) ≡ true → ⊥
  not_after t w c same first later =
      let behind = closed_ahead s zs k t (e + 1) k_placed.closed
      (not_closed_decided s zs g.home k e (e + 1) g.rules.acts by_rule.strict g.decided (omega arith)) later in
      let after = serial_ahead s zs v.0 k t v w k_placed c (omega arith) (omega (arith, same)) (inr (sym same, behind)) in
      clash (ahead same_number t k (serial_in s zs v.0)) first
      (one_way same_number numbers_equal k t (serial_in s zs v.0) (serial_in_apart s zs v.0) after)

  late_did : (q : ℕ × ℕ) (i : ℕ) (w : Version) → touches s x q ≡ true → updates s q.0 ≡ true → ActAt (does q.0 q.1) zs i p
      → IsPlaced s zs q.0 w → w.0 ≤ v.0 → ahead same_number q.0 k (serial_in s zs v.0) ≡ true → i < a
  late_did q i w touch up did c most first =
      by_versions w.0 v.0 (λ less. did_early s zs p q.0 q.1 k a i w v g.rules up by_rule.strict c.version known less did)
      (λ same. by same (cases_lt i a) (cases_lt a i)) (λ more. absurd (omega (arith, more, most))) where
        by : w.0 ≡ v.0 → (i < a) ⊎ (a ≤ i) → (a < i) ⊎ (i ≤ a) → i < a
        by same (inl lt) d = lt
        by same (inr ge) (inl gt) =
            let f = applied_before s zs p x q.0 q.1 k n i a g.rules.acts g.item up did (change x (ops_of s q.0 q.1) touch).on g.voted g.on gt in
            let after = applied_after f.place f.at in
            absurd (not_after q.0 w c same first
            (there_from (closes_tree s q.0) zs i (e + 1) (record { node = p; act = did.act }) did.is (did_closes s q.0 q.1 did.act up did.passes)
            (omega (arith, after, f.before))))
        by same (inr ge) (inr le) =
            let e2 : i ≡ a = omega (arith, ge, le) in
            absurd (not_both zs a p p q.0 q.1 k n (act_there (does q.0 q.1) zs i a p did e2) g.voted)

  not_itself : (t : ℕ) → ahead same_number t k (serial_in s zs v.0) ≡ true → t ≢ k
  not_itself t first same =
      let self : ahead same_number k k (serial_in s zs v.0) ≡ true = ap (λ u. ahead same_number u k (serial_in s zs v.0)) (sym same) ∙ first in
      clash (ahead same_number k k (serial_in s zs v.0)) self
      (one_way same_number numbers_equal k k (serial_in s zs v.0) (serial_in_apart s zs v.0) self)

  late_applied : (q : ℕ × ℕ) (i : ℕ) (w : Version) (home : ℕ) → touches s x q ≡ true → is_strict_tree s q.0 ≡ true
      → q.1 < length (subs_at s q.0) → ActAt (decides_as q.0 true) zs i home → (h : Held s zs p x q i)
      → IsPlaced s zs q.0 w → w.0 ≤ v.0 → ahead same_number q.0 k (serial_in s zs v.0) ≡ true → ActBelow (applies q.0) zs p a
  late_applied q i w home touch strict small decided h c most first =
      by_versions w.0 v.0
      (λ less. applied_early s zs p q.0 q.1 k a w v g.rules strict by_rule.strict c.version known less small (g.item.placed q.0 q.1 touch))
      (λ same. by same (cases_lt h.place a) (cases_lt a h.place)) (λ more. absurd (omega (arith, more, most))) where
        by : w.0 ≡ v.0 → (h.place < a) ⊎ (a ≤ h.place) → (a < h.place) ⊎ (h.place ≤ a) → ActBelow (applies q.0) zs p a
        by same (inl lt) d =
            let f = applied_between s zs p x q.0 q.1 k n h.place a g.rules.acts (ne_eqb q.0 k (not_itself q.0 first)) h.at h.on g.voted g.on
            (ap (modes_conflict (mode_wanted g.on.op.deed)) (held_by h.on.op.deed h.over) ∙ hold_right (mode_wanted g.on.op.deed)) lt in
            record { place = f.place; below = f.before; at = f.at }
        by same (inr ge) (inl gt) =
            let f = applied_between s zs p x k n q.0 q.1 a h.place g.rules.acts (ne_eqb k q.0 (λ is. not_itself q.0 first (sym is))) g.voted g.on h.at h.on
            (ap (λ m. modes_conflict m (mode_wanted g.on.op.deed)) (held_by h.on.op.deed h.over) ∙ hold_left (mode_wanted g.on.op.deed)) gt in
            let after = applied_after f.place f.at in
            absurd (not_after q.0 w c same first
            (there_from (closes_tree s q.0) zs i (e + 1) (record { node = home; act = decided.act }) decided.is
            (decided_closes s q.0 decided.act strict decided.passes) (omega (arith, after, f.before, h.below))))
        by same (inr ge) (inr le) =
            let e2 : h.place ≡ a = omega (arith, ge, le) in
            absurd (not_itself q.0 first (one_voter zs a p p q.0 q.1 k n (act_there (votes_yes q.0 q.1) zs h.place a p h.at e2) g.voted))

  -- What takes effect before the vote, by the births up to there and by all.
  in_all : (q : ℕ × ℕ) (i : ℕ) → i < a → Takes s (take a zs) p v.0 q zs i → is_up_to v.0 (version_in q.0 zs) ≡ true
  in_all q i lt t =
      sym (ap (is_up_to v.0) (version_alike q.0 i a zs (omega (arith, lt)) (effect_born s zs p i q g.rules.acts t.effect))) ∙ t.to

  in_part : (q : ℕ × ℕ) (i : ℕ) → i < a → EffectAt s zs p q i → is_up_to v.0 (version_in q.0 zs) ≡ true
      → has same_pair q (effects_in s (take a zs) p v.0 (take a zs)) ≡ true
  in_part q i lt effect to =
      at_effect s (take a zs) p v.0 q (take a zs) i
      (ap (is_up_to v.0) (version_alike q.0 i a zs (omega (arith, lt)) (effect_born s zs p i q g.rules.acts effect)) ∙ to) (taken effect) where
        taken : EffectAt s zs p q i → EffectAt s (take a zs) p q i
        taken (inl d) = inl (record { up = d.up; at = act_taken (does q.0 q.1) zs i a p lt d.at })
        taken (inr b) = inr (record { strict = b.strict; there = b.there; at = act_taken (applies_as q.0 true) zs i a p lt b.at })

  late_settled : (q : ℕ × ℕ) (w : Version) → touches s x q ≡ true → q.1 < length (subs_at s q.0)
      → is_up_to v.0 (version_in q.0 zs) ≡ true → IsPlaced s zs q.0 w → w.0 ≤ v.0
      → ahead same_number q.0 k (serial_in s zs v.0) ≡ true
      → ((updates s q.0 && is_whole_in s zs q.0) ≡ true) ⊎ ((is_strict_tree s q.0 && was_decided_as q.0 true zs) ≡ true)
      → has same_pair q (effects_in s (take a zs) p v.0 (take a zs)) ≡ true
  late_settled q w touch small to c most first (inl is) =
      let up = left_true (updates s q.0) (is_whole_in s zs q.0) is in
      let done = whole_done s zs q.0 q.1 up (right_true (updates s q.0) (is_whole_in s zs q.0) is) small in
      let d = did_there s zs p x q g.rules.acts g.item touch done in
      in_part q d.0 (late_did q d.0 w touch up d.1 c most first) (inl (record { up = up; at = d.1 })) to
  late_settled q w touch small to c most first (inr is) =
      let strict = left_true (is_strict_tree s q.0) (was_decided_as q.0 true zs) is in
      let f = found_all (λ (y : Place). decides_as q.0 true y.act) zs (right_true (is_strict_tree s q.0) (was_decided_as q.0 true zs) is) in
      let decided : ActAt (decides_as q.0 true) zs f.place f.item.node
      = record { act = f.item.act; is = f.is; passes = f.passes } in
      let h = held s zs p x f.place f.item.node q g.rules.acts g.item strict small touch decided in
      let r = late_applied q f.place w f.item.node touch strict small decided h c most first in
      in_part q r.place r.below
      (inr (record { strict = strict; there = small; at = applied_as_commit s zs r.place f.place p f.item.node q.0 g.rules.acts r.at decided })) to

  -- The list by time before the vote, and the members before k: they are alike.
  time_early : (q : ℕ × ℕ) → has same_pair q (by_time s (take a zs) p x v.0) ≡ true → Early q
  time_early q is =
      let m = has_kept same_pair pairs_equal (touches s x) q (effects_in s (take a zs) p v.0 (take a zs)) is in
      let f = effect_found s (take a zs) p v.0 q (take a zs) m.0 in
      let h = taken_is zs a f.place f.item f.is in
      let t = effect_is s (take a zs) p v.0 q zs f.place f.item f.gives h.1 in
      early q f.place m.1 (in_all q f.place h.0 t) t.effect h.0

  time_in_trees : (q : ℕ × ℕ) → has same_pair q (by_time s (take a zs) p x v.0) ≡ true
      → has same_pair q (by_trees s x (before_tree k (serial_in s zs v.0))) ≡ true
  time_in_trees q is =
      let m = has_kept same_pair pairs_equal (touches s x) q (effects_in s (take a zs) p v.0 (take a zs)) is in
      let c = time_early q is in
      kept_has same_pair pairs_equal (touches s x) q (trees_in s (before_tree k (serial_in s zs v.0)))
      (has_trees s q.0 q.1 (before_tree k (serial_in s zs v.0)) (ahead_before q.0 k (serial_in s zs v.0) (serial_in_apart s zs v.0) c.first) c.stands.there) m.1

  trees_in_time : (q : ℕ × ℕ) → has same_pair q (by_trees s x (before_tree k (serial_in s zs v.0))) ≡ true
      → has same_pair q (by_time s (take a zs) p x v.0) ≡ true
  trees_in_time q is =
      let m = has_kept same_pair pairs_equal (touches s x) q (trees_in s (before_tree k (serial_in s zs v.0))) is in
      let t = trees_has s q (before_tree k (serial_in s zs v.0)) m.0 in
      let first = before_ahead q.0 k (serial_in s zs v.0) k_stands t.0 in
      let all = sym (is_in-serial_in s zs v.0 q.0) ∙ before_in q.0 k (serial_in s zs v.0) t.0 in
      let parts = left_true (is_up_to v.0 (version_in q.0 zs) && is_settled_in s zs q.0) (is_in q.0 (commit_order s zs)) all in
      let to = left_true (is_up_to v.0 (version_in q.0 zs)) (is_settled_in s zs q.0) parts in
      let settled = right_true (is_up_to v.0 (version_in q.0 zs)) (is_settled_in s zs q.0) parts in
      let o = up_to v.0 (version_in q.0 zs) to in
      let c : IsPlaced s zs q.0 o.version = record {
        version = o.is;
        settled = settled;
        closed = right_true (is_up_to v.0 (version_in q.0 zs) && is_settled_in s zs q.0) (is_in q.0 (commit_order s zs)) all;
      } in
      kept_has same_pair pairs_equal (touches s x) q (effects_in s (take a zs) p v.0 (take a zs))
      (late_settled q o.version m.1 t.1 to c o.most first
      (or_cases (updates s q.0 && is_whole_in s zs q.0) (is_strict_tree s q.0 && was_decided_as q.0 true zs) settled)) m.1

  get_order : (b c : ℕ × ℕ) → AreOnce same_pair (by_time s (take a zs) p x v.0) → tied s b c ≡ true
      → ahead same_pair b c (by_time s (take a zs) p x v.0) ≡ true
      → ahead same_pair b c (by_trees s x (before_tree k (serial_in s zs v.0))) ≡ true
  get_order b c once tie is =
      let both = ahead_has same_pair pairs_equal b c (by_time s (take a zs) p x v.0) is in
      let kb = has_kept same_pair pairs_equal (touches s x) b (effects_in s (take a zs) p v.0 (take a zs)) both.0 in
      let kc = has_kept same_pair pairs_equal (touches s x) c (effects_in s (take a zs) p v.0 (take a zs)) both.1 in
      let r = pair_found s (take a zs) p v.0 b c (take a zs) (ahead_kept same_pair pairs_equal (touches s x) b c (effects_in s (take a zs) p v.0 (take a zs)) is) in
      let hb = taken_is zs a r.first.place r.first.item r.first.is in
      let hc = taken_is zs a r.second.place r.second.item r.second.is in
      let eb = effect_is s (take a zs) p v.0 b zs r.first.place r.first.item r.first.gives hb.1 in
      let ec = effect_is s (take a zs) p v.0 c zs r.second.place r.second.item r.second.gives hc.1 in
      let fb = early b r.first.place kb.1 (in_all b r.first.place hb.0 eb) eb.effect hb.0 in
      let fc = early c r.second.place kc.1 (in_all c r.second.place hc.0 ec) ec.effect hc.0 in
      by kb.1 kc.1 fb fc
      (λ ne. in_order s zs p x b c r.first.place r.second.place fb.stands.version fc.stands.version g.rules g.item eb.effect ec.effect r.order ne tie kb.1 kc.1
      fb.stands.placed.version fc.stands.placed.version fb.stands.placed.closed) (cases_eq b.0 c.0) where
        by : touches s x b ≡ true → touches s x c ≡ true → (fb : Early b) → (fc : Early c)
            → (b.0 ≢ c.0 → IsBefore s zs b.0 c.0 fb.stands.version fc.stands.version) → (b.0 ≡ c.0) ⊎ (b.0 ≢ c.0)
            → ahead same_pair b c (by_trees s x (before_tree k (serial_in s zs v.0))) ≡ true
        by tb tc fb fc order (inl same) =
            absurd (once_apart (by_time s (take a zs) p x v.0) b c once (one_tree s p x b c g.item same tie tb tc) is)
        by tb tc fb fc order (inr ne) =
            kept_ahead same_pair pairs_equal (touches s x) b c (trees_in s (before_tree k (serial_in s zs v.0)))
            (trees_ahead s b.0 b.1 c.0 c.1 (before_tree k (serial_in s zs v.0))
            (before_order b.0 c.0 k (serial_in s zs v.0) (serial_in_apart s zs v.0)
            (serial_ahead s zs v.0 b.0 c.0 fb.stands.version fc.stands.version fb.stands.placed fc.stands.placed fb.stands.most fc.stands.most (order ne)) fc.first)
            fb.stands.there fc.stands.there) tb tc

  -- what the node has made of the item before the vote, up to k's version, is the fold over the members before k in the
  -- serial order of the whole list
  pub made_is_before : IsValid s → made_in s (take a zs) p x v.0 ≡ worth_after s x (before_tree k (serial_in s zs v.0))
  made_is_before valid =
      let first = first_value (slice_get s.items x) in
      let serial = before_tree k (serial_in s zs v.0) in
      let once : AreOnce same_pair (by_time s (take a zs) p x v.0) =
      once_kept same_pair pairs_equal (touches s x) (effects_in s (take a zs) p v.0 (take a zs))
      (effects_once s (take a zs) p v.0 (take a zs) zs 0 g.rules.acts
      (λ i y is. let same : 0 + i ≡ i = omega arith in ap (slice_get zs) same ∙ (taken_is zs a i y is).1)) in
      made_is s (take a zs) p x v.0 g.item
      ∙ fold_same_order same_pair pairs_equal (after_sub s x) (tied s) (subs_exchanged s x valid) (by_time s (take a zs) p x v.0) (by_trees s x serial)
      (record {
        first = once;
        second = once_kept same_pair pairs_equal (touches s x) (trees_in s serial)
            (trees_once s serial (before_apart k (serial_in s zs v.0) (serial_in_apart s zs v.0)));
        all = λ q. same_tests (has same_pair q (by_time s (take a zs) p x v.0)) (has same_pair q (by_trees s x serial)) (time_in_trees q) (trees_in_time q);
        order = λ b c tie is. get_order b c once tie is;
      }) first
      ∙ sym (trees_are s x serial first)

  -- so is what the item was worth before the vote, and before its entry
  pub worth_is_before : IsValid s → worth_in s (take a zs) x v.0 ≡ worth_after s x (before_tree k (serial_in s zs v.0))
  worth_is_before valid = sym (vote_sees_worth s zs p x k n a v.0 valid g.rules g.item meets_none) ∙ made_is_before valid

  pub worth_before_entry : IsValid s → (m : ℕ) → m ≤ a → AreQuiet zs m a
      → worth_in s (take m zs) x v.0 ≡ worth_after s x (before_tree k (serial_in s zs v.0))
  worth_before_entry valid m le quiet =
      sym (vote_sees_worth_before s zs p x k n a m v.0 le quiet valid g.rules g.item meets_none) ∙ made_is_before valid
