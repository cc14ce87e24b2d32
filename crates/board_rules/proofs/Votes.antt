-- What a vote finds: if a subtransaction of a strict transaction meets no lock that conflicts, what changed its items
-- is closed, so the node has made of them what they are worth. The acts of its entry before it change nothing. The
-- first acts of a list follow its rules too.
use Rattle.std.proofs.Common.{◌≡◌, ◌⊎◌, inl, inr, ℕ, ◌<◌, ◌≤◌, ◌==◌, ◌&&◌, Bool, true, false, List, [], length, refl, sym, ap, subst, ◌∙◌, arith, Option, Some, None, take, take-take}
use Rattle.std.specs.Prelude.{slice_get}
use Rattle.std.proofs.lemmas.Bool.{and_from, cases_lt, eqb-true, false_from_ne_true}
use Rattle.std.proofs.lemmas.Option.{slice_get_within}
use Rattle.tv_base.proofs.Truths.{same_test}
use Rattle.letter_types.specs.declared.acts.Act.{Act}
use Rattle.letter_types.specs.declared.acts.Act.TheVariants.{Did, Finished, Freed, Applied}
use Rattle.script_parts.specs.ScriptData.{ScriptData, ops_of, sub_at, subs_at}
use Rattle.script_parts.specs.Valid.{IsValid}
use Rattle.script_parts.specs.declared.parts.Sub.{Sub}
use Rattle.board_rules.specs.Histories.{Place, applies, decides_as, does, is_strict_tree, is_whole_in}
use Rattle.nc_locks.specs.Modes.{modes_conflict}
use Rattle.script_parts.specs.Wants.{mode_wanted}
use Rattle.board_rules.specs.Stands.{conflict_of, frees, votes, was_voted}
use Rattle.board_rules.specs.Worth.{ops_change, worth_in}
use Rattle.board_rules.proofs.ActTests.{applies_as_is, applies_as_one, does_is, frees_is}
use Rattle.board_rules.proofs.ClosedWorth.{IsClosed, made_is_worth}
use Rattle.board_rules.proofs.Effects.{made_in}
use Rattle.board_rules.proofs.InOrder.{held}
use Rattle.board_rules.proofs.Once.{clash}
use Rattle.board_rules.proofs.Positions.{ActAt, found, found_act, taken_is, there}
use Rattle.board_rules.proofs.Precedence.{act_node, applied_where_free, change, freed_where_free, held_by, hold_right}
use Rattle.board_rules.proofs.Rules.{AreByRule, FollowsRules, IsByRule, IsItemAt, deciding, deed, freeing}
use Rattle.board_rules.proofs.Standing.{OpOn}
use Rattle.board_rules.proofs.TreeSubs.{touches}
use Rattle.board_rules.proofs.Wholes.{version_more, whole_later}

-- the first n acts of a list that follows its rules follow theirs
pub rules_before : (s : ScriptData) (zs : List Place) (n : ℕ) → FollowsRules s zs → FollowsRules s (take n zs)
rules_before s zs n rules = record {
  acts = λ i y is.
      let h = taken_is zs n i y is in
      subst (λ xs. IsByRule s xs y.node y.act) (sym (take-take i n zs (omega (arith, h.0)))) (rules.acts i y h.1);
  births = λ i k t y v w is born strict writes one lt.
      let h = taken_is zs n i y is in
      ap (λ xs. is_whole_in s xs t) (take-take i n zs (omega (arith, h.0)))
      ∙ rules.births i k t y v w h.1 born strict writes (version_more t n w zs one) lt;
}

-- a subtransaction that changes something is there
touched_by : (x j : ℕ) (ks : List Sub) (found : Option Sub) → slice_get ks j ≡ found
    → ops_change x (elim found [ Some sub ↦ sub.ops | None ↦ [] ]) ≡ true → j < length ks
touched_by x j ks None is touch = absurd (cc touch)
touched_by x j ks (Some k) is touch = slice_get_within ks j k is

pub touched_there : (s : ScriptData) (t j x : ℕ) → touches s x (t, j) ≡ true → j < length (subs_at s t)
touched_there s t j x touch = touched_by x j (subs_at s t) (sub_at s t j) refl touch

-- the act does nothing, frees nothing and applies nothing
abbrev pub is_quiet : Act → Bool
is_quiet (Did t k values) = false
is_quiet (Freed t) = false
is_quiet (Applied t commit) = false
is_quiet Finished = true
is_quiet _ = true

-- the acts from m on and below a are so, as those of an entry before its vote
abbrev pub AreQuiet : List Place → ℕ → ℕ → Type 0
AreQuiet zs m a = (i : ℕ) (y : Place) → m ≤ i → i < a → slice_get zs i ≡ Some y → is_quiet y.act ≡ true

-- what isn't quiet is before them
loud_early : (test : Act → Bool) (zs : List Place) (m a i p : ℕ) → ((b : Act) → test b ≡ true → is_quiet b ≡ false) → AreQuiet zs m a
    → ActAt test zs i p → i < a → i < m
loud_early test zs m a i p loud quiet at lt = by (cases_lt i m) where
  by : (i < m) ⊎ (m ≤ i) → i < m
  by (inl early) = early
  by (inr late) = clash (is_quiet at.act) (quiet i (record { node = p; act = at.act }) late lt at.is) (loud at.act at.passes)

pub did_early_on : (zs : List Place) (m a i p t k : ℕ) → AreQuiet zs m a → ActAt (does t k) zs i p → i < a → i < m
did_early_on zs m a i p t k quiet at lt =
    loud_early (does t k) zs m a i p (λ b is. ap is_quiet (does_is t k b is).1) quiet at lt

freed_early_on : (zs : List Place) (m a i p t : ℕ) → AreQuiet zs m a → ActAt (frees t) zs i p → i < a → i < m
freed_early_on zs m a i p t quiet at lt = loud_early (frees t) zs m a i p (λ b is. ap is_quiet (frees_is t b is)) quiet at lt

pub applied_early_on : (zs : List Place) (m a i p t : ℕ) → AreQuiet zs m a → ActAt (applies t) zs i p → i < a → i < m
applied_early_on zs m a i p t quiet at lt =
    loud_early (applies t) zs m a i p
    (λ b is. let c = applies_as_one t b is in ap is_quiet (applies_as_is t c.0 b c.1)) quiet at lt

-- subtransaction n of strict tree k has an operation on item x, and before position a hasn't voted and meets at node p
-- no lock that conflicts
pub record MeetsNone (s : ScriptData) (zs : List Place) (p x k n a : ℕ) : Type 0 where
  pub strict : is_strict_tree s k ≡ true
  pub there : n < length (subs_at s k)
  pub unvoted : was_voted k n (take a zs) ≡ false
  pub free : conflict_of s (take a zs) p k (ops_of s k n) ≡ None
  pub on : OpOn x (ops_of s k n)

-- a tree that was decided isn't one of which a subtransaction hasn't voted
decided_apart : (s : ScriptData) (zs : List Place) (p x t k n i q a : ℕ) → AreByRule s zs → ActAt (decides_as t true) zs i q
    → MeetsNone s zs p x k n a → i ≤ a → (t == k) ≡ false
decided_apart s zs p x t k n i q a acts decided o le = false_from_ne_true (t == k) (λ is.
    let same : t ≡ k = eqb-true t k is in
    let d = deciding s zs i q t true acts decided in
    let small : n < length (subs_at s t) = subst (λ u. n < length (subs_at s u)) (sym same) o.there in
    let early : was_voted k n (take i zs) ≡ true = ap (λ u. was_voted u n (take i zs)) (sym same) ∙ d.voted n small in
    let g = found (λ (y : Place). votes k n y.act) zs i early in
    clash (was_voted k n (take a zs))
    (there (λ (y : Place). votes k n y.act) zs g.place a g.item g.is g.passes (omega (arith, g.below, le))) o.unvoted)

-- An item on which a subtransaction of a strict tree meets no lock that conflicts is closed, up to every version: where
-- the acts from m on are quiet, already at m.
pub closed_at_entry : (s : ScriptData) (zs : List Place) (p x k n a m v : ℕ) → m ≤ a → AreQuiet zs m a → AreByRule s zs
    → IsItemAt s p x → MeetsNone s zs p x k n a → IsClosed s (take m zs) p x v
closed_at_entry s zs p x k n a m v le quiet acts item o = record {
  whole = λ t j up to touch done.
      let f = found (λ (y : Place). does t j y.act) zs m done in
      let here = found_act (does t j) zs m f in
      let d = deed s zs f.place f.item.node t j acts here in
      let did = act_node (does t j) zs f.place f.item.node p here (sym d.node ∙ item.placed t j touch) in
      let c = freed_where_free s zs p x t j k n f.place a acts item up did (change x (ops_of s t j) touch).on o.strict o.free o.on
      (omega (arith, f.below, le)) in
      let early = freed_early_on zs m a c.place p t quiet c.at c.before in
      whole_later s c.place m zs t (omega (arith, early)) (freeing s zs c.place p t acts c.at).whole;
  applied = λ t j one to touch committed.
      let f = found (λ (y : Place). decides_as t true y.act) zs m committed in
      let decided : ActAt (decides_as t true) zs f.place f.item.node
      = record { act = f.item.act; is = f.is; passes = f.passes } in
      let other = decided_apart s zs p x t k n f.place f.item.node a acts decided o (omega (arith, f.below, le)) in
      let h = held s zs p x f.place f.item.node (t, j) acts item one (touched_there s t j x touch) touch decided in
      let against : modes_conflict (mode_wanted o.on.op.deed) (mode_wanted h.on.op.deed) ≡ true =
      ap (modes_conflict (mode_wanted o.on.op.deed)) (held_by h.on.op.deed h.over) ∙ hold_right (mode_wanted o.on.op.deed) in
      let c = applied_where_free s zs p x t j k n h.place a acts other h.at h.on o.free o.on against (omega (arith, h.below, f.below, le)) in
      there (λ (z : Place). (z.node == p) && applies t z.act) zs c.place m (record { node = p; act = c.at.act }) c.at.is
      (and_from (p == p) (applies t c.at.act) (same_test p) c.at.passes) (applied_early_on zs m a c.place p t quiet c.at c.before);
}

pub closed_at_vote : (s : ScriptData) (zs : List Place) (p x k n a v : ℕ) → AreByRule s zs → IsItemAt s p x → MeetsNone s zs p x k n a
    → IsClosed s (take a zs) p x v
closed_at_vote s zs p x k n a v acts item o =
    closed_at_entry s zs p x k n a a v (omega arith) (λ i y le lt is. absurd (omega (arith, le, lt))) acts item o

-- so what the node has made of the item is what it is worth
pub vote_sees_worth : (s : ScriptData) (zs : List Place) (p x k n a v : ℕ) → IsValid s → FollowsRules s zs → IsItemAt s p x
    → MeetsNone s zs p x k n a → made_in s (take a zs) p x v ≡ worth_in s (take a zs) x v
vote_sees_worth s zs p x k n a v valid rules item o =
    made_is_worth s (take a zs) p x v valid (rules_before s zs a rules) item (closed_at_vote s zs p x k n a v rules.acts item o)
