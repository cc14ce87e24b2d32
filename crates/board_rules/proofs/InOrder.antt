-- The order in time and the serial order agree on what may not change places.
use Rattle.std.proofs.Common.{◌≡◌, ◌≢◌, ◌⊎◌, inl, inr, ℕ, ◌+◌, ◌<◌, ◌≤◌, ◌==◌, ◌&&◌, Bool, true, false, List, length, refl, sym, ap, ◌∙◌, arith, Some, None, take, drop}
use Rattle.std.specs.Prelude.{if◌then◌else◌}
use Rattle.std.specs.List.{list_any}
use Rattle.std.proofs.lemmas.Bool.{and_from, cases_lt, eqb-true, false_from_ne_true, ne_eqb, or_cases}
use Rattle.tv_base.specs.declared.numbers.Version.{Version}
use Rattle.tv_base.proofs.Truths.{left_true, right_true, same_test}
use Rattle.letter_types.specs.declared.acts.Act.{Act}
use Rattle.letter_types.specs.declared.acts.Act.TheVariants.{Born, Did, Turned, Showed, Swept, Finished, Waits, Parked, Voted, Freed, Decided, Applied}
use Rattle.script_parts.specs.ScriptData.{ScriptData, ops_of, subs_at, updates}
use Rattle.board_rules.specs.Histories.{Place, applies, decides_as, does, is_strict_tree, version_in}
use Rattle.board_rules.specs.Serial.{commits_by, commit_order, is_in}
use Rattle.nc_locks.specs.Modes.{modes_conflict}
use Rattle.script_parts.specs.Wants.{mode_wanted}
use Rattle.board_rules.specs.Stands.{frees, overwrites, votes_yes}
use Rattle.board_rules.proofs.ActTests.{applied_any, applies_as, decides_as_is, does_is, votes_yes_is}
use Rattle.board_rules.proofs.Closings.{is_tree}
use Rattle.board_rules.proofs.InSerial.{IsBefore, closed_ahead, closes_tree}
use Rattle.board_rules.proofs.Once.{clash}
use Rattle.board_rules.proofs.Positions.{ActAt, FoundFrom, act_same, act_there, found_from, there_from}
use Rattle.board_rules.proofs.Precedence.{Decision, all_before, applied_before, applied_between, applied_early, applied_once, change, decided_once, decision, did_early, freed_before, held_by, hold_left, none_later, overwritten, vote}
use Rattle.board_rules.proofs.Rules.{AreByRule, FollowsRules, IsItemAt, yes_vote}
use Rattle.board_rules.proofs.SerialOrder.{did_closes}
use Rattle.board_rules.proofs.Standing.{OpOn}
use Rattle.board_rules.proofs.TreeSubs.{tied, touches}
use Rattle.board_rules.proofs.Wholes.{born_version, update_not_strict, version_more}

-- subtransaction q takes effect at position i, at node p: by its Did in an update tree, by the Applied of a commit in a
-- strict tree
pub record DidEffect (s : ScriptData) (zs : List Place) (p : ℕ) (q : ℕ × ℕ) (i : ℕ) : Type 0 where
  pub up : updates s q.0 ≡ true
  pub at : ActAt (does q.0 q.1) zs i p

pub record AppliedEffect (s : ScriptData) (zs : List Place) (p : ℕ) (q : ℕ × ℕ) (i : ℕ) : Type 0 where
  pub strict : is_strict_tree s q.0 ≡ true
  pub there : q.1 < length (subs_at s q.0)
  pub at : ActAt (applies_as q.0 true) zs i p

abbrev pub EffectAt : ScriptData → List Place → ℕ → (ℕ × ℕ) → ℕ → Type 0
EffectAt s zs p q i = DidEffect s zs p q i ⊎ AppliedEffect s zs p q i

-- Which acts close a tree: a Did of an update tree, and a strict tree's decision to commit.
pub data Closing (s : ScriptData) (t : ℕ) (a : Act) : Type 0 where
  by_did : (k : ℕ) → updates s t ≡ true → does t k a ≡ true → Closing s t a
  by_decision : is_strict_tree s t ≡ true → decides_as t true a ≡ true → Closing s t a

did_closing : (s : ScriptData) (t u k : ℕ) (b : Bool) → updates s u ≡ b → is_tree t (if b then Some u else None) ≡ true
    → (updates s t ≡ true) × (((u == t) && (k == k)) ≡ true)
did_closing s t u k true e is =
    (sym (ap (updates s) (eqb-true u t is)) ∙ e, and_from (u == t) (k == k) is (same_test k))
did_closing s t u k false e is = absurd (cc is)

decided_closing : (s : ScriptData) (t u : ℕ) (c b : Bool) → (is_strict_tree s u && c) ≡ b → is_tree t (if b then Some u else None) ≡ true
    → (is_strict_tree s t ≡ true) × (((u == t) && c) ≡ true)
decided_closing s t u c true e is = (
  sym (ap (is_strict_tree s) (eqb-true u t is)) ∙ left_true (is_strict_tree s u) c e,
  and_from (u == t) c is (right_true (is_strict_tree s u) c e),
)
decided_closing s t u c false e is = absurd (cc is)

pub closing_is : (s : ScriptData) (t : ℕ) (a : Act) → is_tree t (commits_by s a) ≡ true → Closing s t a
closing_is s t (Did u k values) is = let c = did_closing s t u.0 k.0 (updates s u.0) refl is in by_did k.0 c.0 c.1
closing_is s t (Decided u c) is =
    let d = decided_closing s t u.0 c (is_strict_tree s u.0 && c) refl is in by_decision d.0 d.1
closing_is s t (Born u v) is = absurd (cc is)
closing_is s t (Turned v) is = absurd (cc is)
closing_is s t (Showed v) is = absurd (cc is)
closing_is s t (Swept v) is = absurd (cc is)
closing_is s t Finished is = absurd (cc is)
closing_is s t (Waits u a b) is = absurd (cc is)
closing_is s t (Parked u a b h) is = absurd (cc is)
closing_is s t (Voted u j vote) is = absurd (cc is)
closing_is s t (Freed u) is = absurd (cc is)
closing_is s t (Applied u d) is = absurd (cc is)

pub decided_closes : (s : ScriptData) (t : ℕ) (a : Act) → is_strict_tree s t ≡ true → decides_as t true a ≡ true → is_tree t (commits_by s a) ≡ true
decided_closes s t a strict is =
    ap (λ (z : Act). is_tree t (commits_by s z)) (decides_as_is t true a is)
    ∙ choose (is_strict_tree s t && true) (and_from (is_strict_tree s t) true strict refl) where
      choose : (b : Bool) → b ≡ true → is_tree t (if b then Some t else None) ≡ true
      choose true e = same_test t
      choose false e = absurd (cc e)

-- A strict tree that is decided to commit voted yes on what it changes, and so held it.
pub record Held (s : ScriptData) (zs : List Place) (p x : ℕ) (q : ℕ × ℕ) (n : ℕ) : Type 0 where
  pub place : ℕ
  pub below : place < n
  pub at : ActAt (votes_yes q.0 q.1) zs place p
  pub on : OpOn x (ops_of s q.0 q.1)
  pub over : overwrites on.op.deed ≡ true

pub held : (s : ScriptData) (zs : List Place) (p x n node : ℕ) (q : ℕ × ℕ) → AreByRule s zs → IsItemAt s p x → is_strict_tree s q.0 ≡ true
    → q.1 < length (subs_at s q.0) → touches s x q ≡ true → ActAt (decides_as q.0 true) zs n node → Held s zs p x q n
held s zs p x n node q acts item strict there touch is =
    let v = vote s zs n node q.0 q.1 p acts is there (item.placed q.0 q.1 touch) in
    let c = change x (ops_of s q.0 q.1) touch in
    record {
      place = v.place;
      below = v.below;
      at = v.at;
      on = c.on;
      over = overwritten c.on.op.deed c.changes (item.strict q.0 q.1 c.on.index c.on.op strict c.on.is);
    }

-- a voter's version was known when it voted
pub version_known : (s : ScriptData) (zs : List Place) (p t k i : ℕ) (w : Version) → AreByRule s zs → ActAt (votes_yes t k) zs i p
    → version_in t zs ≡ Some w → version_in t (take i zs) ≡ Some w
version_known s zs p t k i w acts is version =
    let v = born_version (version_in t (take i zs)) (yes_vote s zs i p t k acts is).born in
    let same : Some v.0 ≡ Some w = sym (version_more t i v.0 zs v.1) ∙ version in
    v.1 ∙ same

pub by_versions : {C : Type 0} (w u : ℕ) → (w < u → C) → (w ≡ u → C) → (u < w → C) → C
by_versions {C} w u less same more = by (cases_lt w u) (cases_lt u w) where
  by : (w < u) ⊎ (u ≤ w) → (u < w) ⊎ (w ≤ u) → C
  by (inl lt) d = less lt
  by (inr le) (inl gt) = more gt
  by (inr le) (inr ge) = same (omega (arith, le, ge))

-- nothing closes an update tree once it was freed
pub not_closed_did : (s : ScriptData) (zs : List Place) (p t c n : ℕ) → AreByRule s zs → updates s t ≡ true → ActAt (frees t) zs c p → c ≤ n
    → list_any (closes_tree s t) (drop n zs) ≡ false
not_closed_did s zs p t c n acts up freed le = false_from_ne_true (list_any (closes_tree s t) (drop n zs)) (λ e.
    let f = found_from (closes_tree s t) zs n e in late f (closing_is s t f.item.act f.passes)) where
      late : (f : FoundFrom (closes_tree s t) zs n) → Closing s t f.item.act → ⊥
      late f (by_did k _ is) =
          let lt = all_before s zs p f.item.node t c k f.place acts up freed (record { act = f.item.act; is = f.is; passes = is }) in
          absurd (omega (arith, lt, le, f.from))
      late f (by_decision strict _) = clash (is_strict_tree s t) strict (update_not_strict s t up)

-- nor a strict tree once it was decided
pub not_closed_decided : (s : ScriptData) (zs : List Place) (p t d n : ℕ) → AreByRule s zs → is_strict_tree s t ≡ true
    → ActAt (decides_as t true) zs d p → d < n → list_any (closes_tree s t) (drop n zs) ≡ false
not_closed_decided s zs p t d n acts strict decided lt = false_from_ne_true (list_any (closes_tree s t) (drop n zs)) (λ e.
    let f = found_from (closes_tree s t) zs n e in late f (closing_is s t f.item.act f.passes)) where
      late : (f : FoundFrom (closes_tree s t) zs n) → Closing s t f.item.act → ⊥
      late f (by_did k up _) = clash (is_strict_tree s t) strict (update_not_strict s t up)
      late f (by_decision _ is) =
          let same = decided_once s zs d f.place p f.item.node t true true acts decided (record { act = f.item.act; is = f.is; passes = is }) in
          absurd (omega (arith, same, lt, f.from))

-- a Did is no vote
pub not_both : (zs : List Place) (i p q t j k n : ℕ) → ActAt (does t j) zs i p → ActAt (votes_yes k n) zs i q → ⊥
not_both zs i p q t j k n a b =
    let same : votes_yes k n a.act ≡ true = act_same (does t j) (votes_yes k n) zs i p q a b in
    let none : votes_yes k n a.act ≡ false = ap (votes_yes k n) (does_is t j a.act a.passes).1 in
    clash (votes_yes k n a.act) same none

-- at one place votes one tree
pub one_voter : (zs : List Place) (i p q t j k n : ℕ) → ActAt (votes_yes t j) zs i p → ActAt (votes_yes k n) zs i q → t ≡ k
one_voter zs i p q t j k n a b =
    let same : votes_yes k n a.act ≡ true = act_same (votes_yes t j) (votes_yes k n) zs i p q a b in
    let both : ((t == k) && (j == n)) ≡ true = sym (ap (votes_yes k n) (votes_yes_is t j a.act a.passes).1) ∙ same in
    eqb-true t k (left_true (t == k) (j == n) both)

pub any_applied : (zs : List Place) (i p t : ℕ) (c : Bool) → ActAt (applies_as t c) zs i p → ActAt (applies t) zs i p
any_applied zs i p t c a = record { act = a.act; is = a.is; passes = applied_any t c a.act a.passes }

-- where an update tree did on x, and strict tree k was applied later, its Did came before k's vote
pub did_before_vote : (s : ScriptData) (zs : List Place) (p x : ℕ) (a b : ℕ × ℕ) (i e place : ℕ) → AreByRule s zs → IsItemAt s p x
    → updates s a.0 ≡ true → ActAt (does a.0 a.1) zs i p → OpOn x (ops_of s a.0 a.1)
    → ActAt (votes_yes b.0 b.1) zs place p → OpOn x (ops_of s b.0 b.1)
    → ActAt (applies b.0) zs e p → i ≤ e → i < place
did_before_vote s zs p x a b i e place acts item up did u voted o applied le = by (cases_lt i place) (cases_lt place i) where
  by : (i < place) ⊎ (place ≤ i) → (place < i) ⊎ (i ≤ place) → i < place
  by (inl lt) d = lt
  by (inr ge) (inl gt) =
      let f = applied_before s zs p x a.0 a.1 b.0 b.1 i place acts item up did u voted o gt in
      let same = applied_once s zs f.place e p b.0 acts f.at applied in
      absurd (omega (arith, same, f.before, le))
  by (inr ge) (inr ge2) =
      let same : i ≡ place = omega (arith, ge, ge2) in
      absurd (not_both zs place p p a.0 a.1 b.0 b.1 (act_there (does a.0 a.1) zs i place p did same) voted)

-- an update tree's Did before a strict tree's Applied
did_applied : (s : ScriptData) (zs : List Place) (p x : ℕ) (a b : ℕ × ℕ) (i e : ℕ) (w u : Version) → AreByRule s zs → IsItemAt s p x
    → updates s a.0 ≡ true → ActAt (does a.0 a.1) zs i p → touches s x a ≡ true
    → is_strict_tree s b.0 ≡ true → ActAt (applies b.0) zs e p → (d : Decision zs b.0 true e) → Held s zs p x b d.place
    → version_in a.0 zs ≡ Some w → version_in b.0 zs ≡ Some u → i ≤ e → is_in a.0 (commit_order s zs) ≡ true
    → IsBefore s zs a.0 b.0 w u
did_applied s zs p x a b i e w u acts item up did touch strict applied d h va vb le closed =
    let o = (change x (ops_of s a.0 a.1) touch).on in
    let lt = did_before_vote s zs p x a b i e h.place acts item up did o h.at h.on applied le in
    by_versions w.0 u.0 (λ less. inl less)
    (λ same.
    let f = freed_before s zs p x a.0 a.1 b.0 b.1 i h.place acts item up did o h.at h.on lt in
    inr (
      same,
      closed_ahead s zs a.0 b.0 d.place closed
          (not_closed_did s zs p a.0 f.place d.place acts up f.at (omega (arith, f.before, h.below)))
          (there_from (closes_tree s b.0) zs d.place d.place (record { node = d.node; act = d.at.act }) d.at.is
          (decided_closes s b.0 d.at.act strict d.at.passes) (omega arith)),
    ))
    (λ more.
    let most = none_later s zs p p x a.0 a.1 b.0 b.1 i h.place w u acts up did touch h.at h.on h.over lt va vb in
    absurd (omega (arith, most, more)))

-- a strict tree's Applied before an update tree's Did
applied_did : (s : ScriptData) (zs : List Place) (p x : ℕ) (a b : ℕ × ℕ) (e j : ℕ) (w u : Version) → FollowsRules s zs
    → is_strict_tree s a.0 ≡ true → (d : Decision zs a.0 true e) → Held s zs p x a d.place
    → updates s b.0 ≡ true → ActAt (does b.0 b.1) zs j p
    → version_in a.0 zs ≡ Some w → version_in b.0 zs ≡ Some u → e ≤ j → is_in a.0 (commit_order s zs) ≡ true
    → IsBefore s zs a.0 b.0 w u
applied_did s zs p x a b e j w u rules strict d h up did va vb le closed =
    by_versions w.0 u.0 (λ less. inl less)
    (λ same.
    inr (
      same,
      closed_ahead s zs a.0 b.0 (d.place + 1) closed
          (not_closed_decided s zs d.node a.0 d.place (d.place + 1) rules.acts strict d.at (omega arith))
          (there_from (closes_tree s b.0) zs j (d.place + 1) (record { node = p; act = did.act }) did.is
          (did_closes s b.0 b.1 did.act up did.passes) (omega (arith, le, d.below))),
    ))
    (λ more.
    let early = did_early s zs p b.0 b.1 a.0 h.place j u w rules up strict vb (version_known s zs p a.0 a.1 h.place w rules.acts h.at va) more did in
    absurd (omega (arith, early, h.below, d.below, le)))

-- Applied of two strict trees
applied_applied : (s : ScriptData) (zs : List Place) (p x : ℕ) (a b : ℕ × ℕ) (i e : ℕ) (w u : Version) → FollowsRules s zs → IsItemAt s p x
    → a.0 ≢ b.0
    → is_strict_tree s a.0 ≡ true → ActAt (applies a.0) zs i p → (d : Decision zs a.0 true i) → (g : Held s zs p x a d.place)
    → is_strict_tree s b.0 ≡ true → ActAt (applies b.0) zs e p → (f : Decision zs b.0 true e) → (h : Held s zs p x b f.place)
    → b.1 < length (subs_at s b.0) → touches s x b ≡ true
    → version_in a.0 zs ≡ Some w → version_in b.0 zs ≡ Some u → i ≤ e → is_in a.0 (commit_order s zs) ≡ true
    → IsBefore s zs a.0 b.0 w u
applied_applied s zs p x a b i e w u rules item ne one at_i d g two at_e f h there touch va vb le closed =
    by_versions w.0 u.0 (λ less. inl less)
    (λ same. inr (
      same,
      closed_ahead s zs a.0 b.0 (d.place + 1) closed
          (not_closed_decided s zs d.node a.0 d.place (d.place + 1) rules.acts one d.at (omega arith))
          (there_from (closes_tree s b.0) zs f.place (d.place + 1) (record { node = f.node; act = f.at.act }) f.at.is
          (decided_closes s b.0 f.at.act two f.at.passes) (order (cases_lt g.place h.place) (cases_lt h.place g.place))),
    ))
    (λ more.
    let c = applied_early s zs p b.0 b.1 a.0 g.place u w rules two one vb
    (version_known s zs p a.0 a.1 g.place w rules.acts g.at va) more there (item.placed b.0 b.1 touch) in
    let same = applied_once s zs c.place e p b.0 rules.acts c.at at_e in
    absurd (omega (arith, same, c.below, g.below, d.below, le))) where
      order : (g.place < h.place) ⊎ (h.place ≤ g.place) → (h.place < g.place) ⊎ (g.place ≤ h.place) → d.place + 1 ≤ f.place
      order (inl lt) _ =
          let c = applied_between s zs p x a.0 a.1 b.0 b.1 g.place h.place rules.acts (ne_eqb a.0 b.0 ne) g.at g.on h.at h.on
          (ap (λ m. modes_conflict m (mode_wanted g.on.op.deed)) (held_by h.on.op.deed h.over) ∙ hold_left (mode_wanted g.on.op.deed)) lt in
          let same = applied_once s zs c.place i p a.0 rules.acts c.at at_i in
          omega (arith, same, c.before, h.below, d.below)
      order (inr ge) (inl gt) =
          let c = applied_between s zs p x b.0 b.1 a.0 a.1 h.place g.place rules.acts (ne_eqb b.0 a.0 (λ is. ne (sym is))) h.at h.on g.at g.on
          (ap (λ m. modes_conflict m (mode_wanted h.on.op.deed)) (held_by g.on.op.deed g.over) ∙ hold_left (mode_wanted h.on.op.deed)) gt in
          let same = applied_once s zs c.place e p b.0 rules.acts c.at at_e in
          absurd (omega (arith, same, c.before, g.below, d.below, le))
      order (inr ge) (inr le2) =
          let same : g.place ≡ h.place = omega (arith, ge, le2) in
          absurd (ne (one_voter zs h.place p p a.0 a.1 b.0 b.1 (act_there (votes_yes a.0 a.1) zs g.place h.place p g.at same) h.at))

-- where two subtransactions of two trees, of which one is strict, change x, the one that takes effect first is first in
-- the serial order
pub in_order : (s : ScriptData) (zs : List Place) (p x : ℕ) (a b : ℕ × ℕ) (i j : ℕ) (w u : Version) → FollowsRules s zs → IsItemAt s p x
    → EffectAt s zs p a i → EffectAt s zs p b j → i ≤ j → a.0 ≢ b.0 → tied s a b ≡ true
    → touches s x a ≡ true → touches s x b ≡ true
    → version_in a.0 zs ≡ Some w → version_in b.0 zs ≡ Some u → is_in a.0 (commit_order s zs) ≡ true
    → IsBefore s zs a.0 b.0 w u
in_order s zs p x a b i j w u rules item (inl c) (inl d) le ne tie ta tb va vb closed =
    absurd (none (or_cases (is_strict_tree s a.0) (is_strict_tree s b.0) tie)) where
      none : (is_strict_tree s a.0 ≡ true) ⊎ (is_strict_tree s b.0 ≡ true) → ⊥
      none (inl is) = clash (is_strict_tree s a.0) is (update_not_strict s a.0 c.up)
      none (inr is) = clash (is_strict_tree s b.0) is (update_not_strict s b.0 d.up)
in_order s zs p x a b i j w u rules item (inl c) (inr d) le ne tie ta tb va vb closed =
    let f = decision s zs j p b.0 true rules.acts d.at in
    did_applied s zs p x a b i j w u rules.acts item c.up c.at ta d.strict (any_applied zs j p b.0 true d.at) f
    (held s zs p x f.place f.node b rules.acts item d.strict d.there tb f.at) va vb le closed
in_order s zs p x a b i j w u rules item (inr c) (inl d) le ne tie ta tb va vb closed =
    let f = decision s zs i p a.0 true rules.acts c.at in
    applied_did s zs p x a b i j w u rules c.strict f (held s zs p x f.place f.node a rules.acts item c.strict c.there ta f.at)
    d.up d.at va vb le closed
in_order s zs p x a b i j w u rules item (inr c) (inr d) le ne tie ta tb va vb closed =
    let f = decision s zs i p a.0 true rules.acts c.at in
    let g = decision s zs j p b.0 true rules.acts d.at in
    applied_applied s zs p x a b i j w u rules item ne
    c.strict (any_applied zs i p a.0 true c.at) f (held s zs p x f.place f.node a rules.acts item c.strict c.there ta f.at)
    d.strict (any_applied zs j p b.0 true d.at) g (held s zs p x g.place g.node b rules.acts item d.strict d.there tb g.at)
    d.there tb va vb le closed
