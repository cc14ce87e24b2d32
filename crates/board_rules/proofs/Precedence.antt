-- Who comes first if two transactions that conflict touch one item, in a list of acts that follow their rules. Each act
-- comes once.
use Rattle.std.proofs.Common.{◌≡◌, ◌⊎◌, inl, inr, ◌==◌, ◌&&◌, ℕ, zero, suc, ◌<◌, ◌≤◌, Bool, true, false, List, [], ◌∷◌, length, refl, sym, ap, subst, ◌∙◌, arith, Some, None, take}
use Rattle.std.specs.Prelude.{if◌then◌else◌, ◌||◌, fold, max, nat_lt, slice_get}
use Rattle.std.proofs.lemmas.Bool.{and_from, and_right, eqb-true, or_cases, or_left, or_right}
use Rattle.std.proofs.lemmas.Bool.Decides.{nat_tests}
use Rattle.tv_base.specs.declared.numbers.Version.{Version}
use Rattle.tv_base.proofs.Truths.{left_true, right_true, same_test}
use Rattle.letter_types.specs.declared.acts.Act.{Act}
use Rattle.letter_types.specs.declared.votes.Cause.TheVariants.{Newer}
use Rattle.script_parts.specs.ScriptData.{ScriptData, node_of, ops_of, subs_at, updates}
use Rattle.script_parts.specs.declared.parts.Deed.{Deed}
use Rattle.script_parts.specs.declared.parts.Deed.TheVariants.{Apply, Get, Set, Draw}
use Rattle.script_parts.specs.declared.parts.SubOp.{SubOp}
use Rattle.board_rules.specs.Histories.{Place, applies, decides_as, does, is_strict_tree, is_whole_in, version_in, version_or, was_applied}
use Rattle.nc_locks.specs.Modes.{modes_conflict}
use Rattle.nc_locks.specs.declared.modes.Mode.{Mode}
use Rattle.nc_locks.specs.declared.modes.Mode.TheVariants.{Mark, Look, Hold}
use Rattle.script_parts.specs.Wants.{mode_wanted}
use Rattle.board_rules.specs.Stands.{conflict_of, frees, locked_by, newer_of, newest_of, overwrites, votes_yes, written_by, written_in}
use Rattle.board_rules.specs.Worth.{changes, ops_change}
use Rattle.board_rules.proofs.ActTests.{applies_as, applies_as_one, does_is, releases, votes_yes_is}
use Rattle.board_rules.proofs.Once.{clash}
use Rattle.board_rules.proofs.Positions.{ActAt, ActBelow, act_found, found, found_act, not_below}
use Rattle.board_rules.proofs.Rules.{AreByRule, FollowsRules, IsItemAt, applying, deciding, deed, freeing, is_writer, yes_vote}
use Rattle.board_rules.proofs.Standing.{Between, OpOn, gone, let_go_between}
use Rattle.board_rules.proofs.Wholes.{birth, born_version, strict_there, update_not_strict, updates_there, version_later, version_more, whole_applied, whole_done}

-- the same act at a node of another name
pub act_node : (test : Act → Bool) (zs : List Place) (i p q : ℕ) → ActAt test zs i p → p ≡ q → ActAt test zs i q
act_node test zs i p q a same = subst (ActAt test zs i) same a

-- Each act comes once.
pub did_once : (s : ScriptData) (zs : List Place) (i j p q t k : ℕ) → AreByRule s zs → ActAt (does t k) zs i p → ActAt (does t k) zs j q
    → i ≡ j
did_once s zs i j p q t k acts one two =
    let a = deed s zs i p t k acts one in
    let b = deed s zs j q t k acts two in
    let ij = not_below (λ (x : Place). does t k x.act) zs j i (record { node = q; act = two.act }) two.is two.passes a.once in
    let ji = not_below (λ (x : Place). does t k x.act) zs i j (record { node = p; act = one.act }) one.is one.passes b.once in
    omega (arith, ij, ji)

applied_first : (s : ScriptData) (zs : List Place) (i p t : ℕ) → AreByRule s zs → ActAt (applies t) zs i p → was_applied t p (take i zs) ≡ false
applied_first s zs i p t acts a =
    let c = applies_as_one t a.act a.passes in
    (applying s zs i p t c.0 acts (record { act = a.act; is = a.is; passes = c.1 })).once

pub applied_once : (s : ScriptData) (zs : List Place) (i j p t : ℕ) → AreByRule s zs → ActAt (applies t) zs i p → ActAt (applies t) zs j p
    → i ≡ j
applied_once s zs i j p t acts one two =
    let test : Place → Bool = λ (x : Place). (x.node == p) && applies t x.act in
    let ij = not_below (λ (x : Place). (x.node == p) && applies t x.act) zs j i (record { node = p; act = two.act }) two.is
    (and_from (p == p) (applies t two.act) (same_test p) two.passes) (applied_first s zs i p t acts one) in
    let ji = not_below (λ (x : Place). (x.node == p) && applies t x.act) zs i j (record { node = p; act = one.act }) one.is
    (and_from (p == p) (applies t one.act) (same_test p) one.passes) (applied_first s zs j p t acts two) in
    omega (arith, ij, ji)

pub decided_once : (s : ScriptData) (zs : List Place) (i j p q t : ℕ) (c d : Bool) → AreByRule s zs → ActAt (decides_as t c) zs i p
    → ActAt (decides_as t d) zs j q → i ≡ j
decided_once s zs i j p q t c d acts one two =
    let a = deciding s zs i p t c acts one in
    let b = deciding s zs j q t d acts two in
    let ij = not_below (λ (x : Place). decides_as t d x.act) zs j i (record { node = q; act = two.act }) two.is two.passes (a.once d) in
    let ji = not_below (λ (x : Place). decides_as t c x.act) zs i j (record { node = p; act = one.act }) one.is one.passes (b.once c) in
    omega (arith, ij, ji)

-- What is applied was decided before.
pub record Decision (zs : List Place) (t : ℕ) (c : Bool) (n : ℕ) : Type 0 where
  pub place : ℕ
  pub below : place < n
  pub node : ℕ
  pub at : ActAt (decides_as t c) zs place node

pub decision : (s : ScriptData) (zs : List Place) (i p t : ℕ) (c : Bool) → AreByRule s zs → ActAt (applies_as t c) zs i p → Decision zs t c i
decision s zs i p t c acts a =
    let f = found (λ (x : Place). decides_as t c x.act) zs i (applying s zs i p t c acts a).decided in
    record { place = f.place; below = f.below; node = f.item.node; at = found_act (decides_as t c) zs i f }

-- What commits has yes votes before.
pub vote : (s : ScriptData) (zs : List Place) (i q t k p : ℕ) → AreByRule s zs → ActAt (decides_as t true) zs i q → k < length (subs_at s t)
    → node_of s t k ≡ p → ActBelow (votes_yes t k) zs p i
vote s zs i q t k p acts a lt node =
    let f = found (λ (x : Place). votes_yes t k x.act) zs i ((deciding s zs i q t true acts a).only_if refl k lt) in
    let here = found_act (votes_yes t k) zs i f in
    let y = yes_vote s zs f.place f.item.node t k acts here in
    record { place = f.place; below = f.below; at = act_node (votes_yes t k) zs f.place f.item.node p here (sym y.node ∙ node) }

-- Operations: a change among them; a change by a strict tree overwrites, so it holds, and a hold conflicts with every
-- mode.
pub record Change (x : ℕ) (os : List SubOp) : Type 0 where
  pub on : OpOn x os
  pub changes : changes on.op.deed ≡ true

change_by : (x : ℕ) (o : SubOp) (os : List SubOp) (b c : Bool) → (o.item.0 == x) ≡ b → changes o.deed ≡ c
    → ((b && c) || ops_change x os) ≡ true → (ops_change x os ≡ true → Change x os) → Change x (o ∷ os)
change_by x o os true true one two all rest = record { on = record { index = 0; op = o; is = refl; on = one }; changes = two }
change_by x o os true false one two all rest =
    let c = rest all in
    record { on = record { index = suc c.on.index; op = c.on.op; is = c.on.is; on = c.on.on }; changes = c.changes }
change_by x o os false c one two all rest =
    let d = rest all in
    record { on = record { index = suc d.on.index; op = d.on.op; is = d.on.is; on = d.on.on }; changes = d.changes }

pub change : (x : ℕ) (os : List SubOp) → ops_change x os ≡ true → Change x os
change x [] is = absurd (cc is)
change x (o ∷ os) is = change_by x o os (o.item.0 == x) (changes o.deed) refl refl is (change x os)

turned : (m : Mode) → modes_conflict Mark m ≡ true → modes_conflict m Mark ≡ true
turned Mark is = is
turned Look is = refl
turned Hold is = refl

pub overwritten : (d : Deed) → changes d ≡ true → modes_conflict Mark (mode_wanted d) ≡ true → overwrites d ≡ true
overwritten (Apply op) c m = absurd (cc m)
overwritten Get c m = absurd (cc c)
overwritten (Set n) c m = refl
overwritten (Draw n) c m = refl

pub held_by : (d : Deed) → overwrites d ≡ true → mode_wanted d ≡ Hold
held_by (Apply op) is = absurd (cc is)
held_by Get is = absurd (cc is)
held_by (Set n) is = refl
held_by (Draw n) is = refl

pub hold_left : (m : Mode) → modes_conflict Hold m ≡ true
hold_left Mark = refl
hold_left Look = refl
hold_left Hold = refl

pub hold_right : (m : Mode) → modes_conflict m Hold ≡ true
hold_right Mark = refl
hold_right Look = refl
hold_right Hold = refl

-- the first of two, by a test that holds
pub choose : {A : Type 0} (b : Bool) (x y : A) → b ≡ true → (if b then x else y) ≡ x
choose true x y is = refl
choose false x y is = absurd (cc is)

-- What locks the acts take; they let none go.
did_locks : (s : ScriptData) (t k : ℕ) (a : Act) → updates s t ≡ true → does t k a ≡ true → locked_by s t a ≡ ops_of s t k
did_locks s t k a up is =
    ap (locked_by s t) (does_is t k a is).1
    ∙ choose ((t == t) && updates s t) (ops_of s t k) [] (and_from (t == t) (updates s t) (same_test t) up)

vote_locks : (s : ScriptData) (t k : ℕ) (a : Act) → votes_yes t k a ≡ true → locked_by s t a ≡ ops_of s t k
vote_locks s t k a is = ap (locked_by s t) (votes_yes_is t k a is).1 ∙ choose (t == t) (ops_of s t k) [] (same_test t)

did_stays : (p u t k : ℕ) (a : Act) → does t k a ≡ true → ((p == p) && releases u a) ≡ false
did_stays p u t k a is = and_right (p == p) (releases u a) (ap (releases u) (does_is t k a is).1)

vote_stays : (p u t k : ℕ) (a : Act) → votes_yes t k a ≡ true → ((p == p) && releases u a) ≡ false
vote_stays p u t k a is = and_right (p == p) (releases u a) (ap (releases u) (votes_yes_is t k a is).1)

apart : (test : ℕ → Bool) (t k : ℕ) → test t ≡ true → test k ≡ false → (b : Bool) → (t == k) ≡ b → b ≡ false
apart test t k one two false is = refl
apart test t k one two true is = clash (test t) one (ap test (eqb-true t k is) ∙ two)

strict_apart : (s : ScriptData) (t k : ℕ) → updates s t ≡ true → is_strict_tree s k ≡ true → (k == t) ≡ false
strict_apart s t k up strict = apart (is_strict_tree s) k t strict (update_not_strict s t up) (k == t) refl

update_apart : (s : ScriptData) (t k : ℕ) → updates s t ≡ true → is_strict_tree s k ≡ true → (t == k) ≡ false
update_apart s t k up strict = by (t == k) refl where
  by : (b : Bool) → (t == k) ≡ b → b ≡ false
  by false is = refl
  by true is = clash (is_strict_tree s t) (ap (is_strict_tree s) (eqb-true t k is) ∙ strict) (update_not_strict s t up)

-- An act after place a and before place b; what lets go is the Freed of an update tree, or the Applied of a strict one.
pub record ActBetween (test : Act → Bool) (zs : List Place) (p a b : ℕ) : Type 0 where
  pub place : ℕ
  pub after : a < place
  pub before : place < b
  pub at : ActAt test zs place p

gone_between : (zs : List Place) (p t a b : ℕ) → Between (gone p t) zs a b → ActBetween (releases t) zs p a b
gone_between zs p t a b f =
    let node : f.item.node ≡ p = eqb-true f.item.node p (left_true (f.item.node == p) (releases t f.item.act) f.passes) in
    record {
      place = f.place;
      after = f.after;
      before = f.before;
      at = act_node (releases t) zs f.place f.item.node p
          (record { act = f.item.act; is = f.is; passes = right_true (f.item.node == p) (releases t f.item.act) f.passes }) node;
    }

strict_gone : (s : ScriptData) (zs : List Place) (p t a b : ℕ) → AreByRule s zs → is_strict_tree s t ≡ true
    → (g : ActBetween (releases t) zs p a b) → (frees t g.at.act ≡ true) ⊎ (applies t g.at.act ≡ true) → ActBetween (applies t) zs p a b
strict_gone s zs p t a b acts strict g (inl freed) =
    let m = freeing s zs g.place p t acts (record { act = g.at.act; is = g.at.is; passes = freed }) in
    clash (is_strict_tree s t) strict (update_not_strict s t m.update)
strict_gone s zs p t a b acts strict g (inr applied) =
    record { place = g.place; after = g.after; before = g.before; at = record { act = g.at.act; is = g.at.is; passes = applied } }

update_gone : (s : ScriptData) (zs : List Place) (p t a b : ℕ) → AreByRule s zs → updates s t ≡ true
    → (g : ActBetween (releases t) zs p a b) → (frees t g.at.act ≡ true) ⊎ (applies t g.at.act ≡ true) → ActBetween (frees t) zs p a b
update_gone s zs p t a b acts up g (inl freed) =
    record { place = g.place; after = g.after; before = g.before; at = record { act = g.at.act; is = g.at.is; passes = freed } }
update_gone s zs p t a b acts up g (inr applied) =
    let c = applies_as_one t g.at.act applied in
    let m = applying s zs g.place p t c.0 acts (record { act = g.at.act; is = g.at.is; passes = c.1 }) in
    clash (is_strict_tree s t) m.strict (update_not_strict s t up)

-- where strict tree k meets no lock that conflicts on x after a Did of update tree t on x, t was freed between; so
-- where it votes yes
pub freed_where_free : (s : ScriptData) (zs : List Place) (p x t j k n i a : ℕ) → AreByRule s zs → IsItemAt s p x
    → updates s t ≡ true → ActAt (does t j) zs i p → OpOn x (ops_of s t j)
    → is_strict_tree s k ≡ true → conflict_of s (take a zs) p k (ops_of s k n) ≡ None → OpOn x (ops_of s k n) → i < a
    → ActBetween (frees t) zs p i a
freed_where_free s zs p x t j k n i a acts item up did u strict free o lt =
    let mark : mode_wanted u.op.deed ≡ Mark = item.marks t j u.index u.op up u.is in
    let against : modes_conflict (mode_wanted o.op.deed) (mode_wanted u.op.deed) ≡ true =
    ap (modes_conflict (mode_wanted o.op.deed)) mark ∙ turned (mode_wanted o.op.deed) (item.strict k n o.index o.op strict o.is) in
    let g = gone_between zs p t i a (let_go_between s zs p x t k i a (record { node = p; act = did.act }) (ops_of s t j) (ops_of s k n) u o
    did.is (did_locks s t j did.act up did.passes) (did_stays p t t j did.act did.passes) lt free against
    (update_apart s t k up strict) (updates_there s t up)) in
    update_gone s zs p t i a acts up g (or_cases (frees t g.at.act) (applies t g.at.act) g.at.passes)

pub freed_before : (s : ScriptData) (zs : List Place) (p x t j k n i a : ℕ) → AreByRule s zs → IsItemAt s p x
    → updates s t ≡ true → ActAt (does t j) zs i p → OpOn x (ops_of s t j)
    → ActAt (votes_yes k n) zs a p → OpOn x (ops_of s k n) → i < a → ActBetween (frees t) zs p i a
freed_before s zs p x t j k n i a acts item up did u voted o lt =
    let y = yes_vote s zs a p k n acts voted in freed_where_free s zs p x t j k n i a acts item up did u y.strict y.free o lt

-- all Dids of an update tree that is whole have come, and so have those of one that is freed
whole_before : (s : ScriptData) (zs : List Place) (q t c m i : ℕ) → AreByRule s zs → updates s t ≡ true
    → is_whole_in s (take c zs) t ≡ true → ActAt (does t m) zs i q → i < c
whole_before s zs q t c m i acts up whole did =
    let d = deed s zs i q t m acts did in
    let g = found (λ (x : Place). does t m x.act) zs c (whole_done s (take c zs) t m up whole d.there) in
    let same : i ≡ g.place = did_once s zs i g.place q g.item.node t m acts did (found_act (does t m) zs c g) in
    omega (arith, same, g.below)

pub all_before : (s : ScriptData) (zs : List Place) (p q t c m i : ℕ) → AreByRule s zs → updates s t ≡ true → ActAt (frees t) zs c p
    → ActAt (does t m) zs i q → i < c
all_before s zs p q t c m i acts up freed did = whole_before s zs q t c m i acts up (freeing s zs c p t acts freed).whole did

-- where update tree t does on x after a yes vote of strict tree k on x, k was applied between
pub applied_before : (s : ScriptData) (zs : List Place) (p x t j k n i a : ℕ) → AreByRule s zs → IsItemAt s p x
    → updates s t ≡ true → ActAt (does t j) zs i p → OpOn x (ops_of s t j)
    → ActAt (votes_yes k n) zs a p → OpOn x (ops_of s k n) → a < i → ActBetween (applies k) zs p a i
applied_before s zs p x t j k n i a acts item up did u voted o lt =
    let y = yes_vote s zs a p k n acts voted in
    let d = deed s zs i p t j acts did in
    let mark : mode_wanted u.op.deed ≡ Mark = item.marks t j u.index u.op up u.is in
    let against : modes_conflict (mode_wanted u.op.deed) (mode_wanted o.op.deed) ≡ true =
    ap (λ m. modes_conflict m (mode_wanted o.op.deed)) mark ∙ item.strict k n o.index o.op y.strict o.is in
    let g = gone_between zs p k a i (let_go_between s zs p x k t a i (record { node = p; act = voted.act }) (ops_of s k n) (ops_of s t j) o u
    voted.is (vote_locks s k n voted.act voted.passes) (vote_stays p k k n voted.act voted.passes) lt (d.free up) against
    (strict_apart s t k up y.strict) (strict_there s k y.strict)) in
    strict_gone s zs p k a i acts y.strict g (or_cases (frees k g.at.act) (applies k g.at.act) g.at.passes)

-- where strict tree k meets no lock that conflicts on x after strict tree t voted yes on x in a mode that conflicts, t
-- was applied between; so where k votes yes
pub applied_where_free : (s : ScriptData) (zs : List Place) (p x t j k n a b : ℕ) → AreByRule s zs → (t == k) ≡ false
    → ActAt (votes_yes t j) zs a p → (u : OpOn x (ops_of s t j)) → conflict_of s (take b zs) p k (ops_of s k n) ≡ None
    → (o : OpOn x (ops_of s k n)) → modes_conflict (mode_wanted o.op.deed) (mode_wanted u.op.deed) ≡ true → a < b
    → ActBetween (applies t) zs p a b
applied_where_free s zs p x t j k n a b acts other one u free o against lt =
    let y = yes_vote s zs a p t j acts one in
    let g = gone_between zs p t a b (let_go_between s zs p x t k a b (record { node = p; act = one.act }) (ops_of s t j) (ops_of s k n) u o
    one.is (vote_locks s t j one.act one.passes) (vote_stays p t t j one.act one.passes) lt free against other (strict_there s t y.strict)) in
    strict_gone s zs p t a b acts y.strict g (or_cases (frees t g.at.act) (applies t g.at.act) g.at.passes)

pub applied_between : (s : ScriptData) (zs : List Place) (p x t j k n a b : ℕ) → AreByRule s zs → (t == k) ≡ false
    → ActAt (votes_yes t j) zs a p → (u : OpOn x (ops_of s t j)) → ActAt (votes_yes k n) zs b p → (o : OpOn x (ops_of s k n))
    → modes_conflict (mode_wanted o.op.deed) (mode_wanted u.op.deed) ≡ true → a < b → ActBetween (applies t) zs p a b
applied_between s zs p x t j k n a b acts other one u two o against lt =
    applied_where_free s zs p x t j k n a b acts other one u (yes_vote s zs b p k n acts two).free o against lt

-- What has a smaller version than a strict tree is whole before its birth: so an update tree has done before it, and a
-- strict tree was applied.
record WholeBefore (s : ScriptData) (zs : List Place) (t n : ℕ) : Type 0 where
  place : ℕ
  below : place < n
  whole : is_whole_in s (take place zs) t ≡ true

whole_first : (s : ScriptData) (zs : List Place) (t k n : ℕ) (w v : Version) → FollowsRules s zs → is_writer s t ≡ true
    → is_strict_tree s k ≡ true → version_in t zs ≡ Some w → version_in k (take n zs) ≡ Some v → w.0 < v.0 → WholeBefore s zs t n
whole_first s zs t k n w v rules writes strict one two lt =
    let b = birth k v n zs two in
    record { place = b.place; below = b.below; whole = rules.births b.place k t b.item v w b.is b.born strict writes one lt }

pub did_early : (s : ScriptData) (zs : List Place) (q t m k n i : ℕ) (w v : Version) → FollowsRules s zs → updates s t ≡ true
    → is_strict_tree s k ≡ true → version_in t zs ≡ Some w → version_in k (take n zs) ≡ Some v → w.0 < v.0 → ActAt (does t m) zs i q → i < n
did_early s zs q t m k n i w v rules up strict one two lt did =
    let f = whole_first s zs t k n w v rules (or_left (updates s t) (is_strict_tree s t) up) strict one two lt in
    let early = whole_before s zs q t f.place m i rules.acts up f.whole did in
    omega (arith, early, f.below)

pub applied_early : (s : ScriptData) (zs : List Place) (p t j k n : ℕ) (w v : Version) → FollowsRules s zs → is_strict_tree s t ≡ true
    → is_strict_tree s k ≡ true → version_in t zs ≡ Some w → version_in k (take n zs) ≡ Some v → w.0 < v.0 → j < length (subs_at s t)
    → node_of s t j ≡ p → ActBelow (applies t) zs p n
applied_early s zs p t j k n w v rules one_strict strict one two lt small node =
    let f = whole_first s zs t k n w v rules (or_right (updates s t) (is_strict_tree s t) one_strict) strict one two lt in
    let a = act_found (applies t) zs p f.place (whole_applied s (take f.place zs) t j p one_strict f.whole small node) in
    record { place = a.place; below = omega (arith, a.below, f.below); at = a.at }

-- Where strict tree k votes yes to overwrite x, no update tree of greater version has done on x before.
fold_most : (f : Place → ℕ) (n m : ℕ) (xs : List Place) → m ≤ fold (λ (v : ℕ) (y : Place). max v (f y)) m (take n xs)
fold_most f zero m [] = omega arith
fold_most f (suc n) m [] = omega arith
fold_most f zero m (x ∷ xs) = omega arith
fold_most f (suc n) m (x ∷ xs) = let h = fold_most f n (max m (f x)) xs in omega (arith, h)

fold_at : (f : Place → ℕ) (i n m : ℕ) (y : Place) (xs : List Place) → slice_get xs i ≡ Some y → i < n
    → f y ≤ fold (λ (v : ℕ) (z : Place). max v (f z)) m (take n xs)
fold_at f i n m y [] is lt = absurd (cc is)
fold_at f i zero m y (x ∷ xs) is lt = absurd (omega (arith, lt))
fold_at f zero (suc n) m y (x ∷ xs) is lt =
    let same : x ≡ y = cc is in
    let e : f x ≡ f y = ap f same in
    let h = fold_most f n (max m (f x)) xs in omega (arith, h, e)
fold_at f (suc i) (suc n) m y (x ∷ xs) is lt = fold_at f i n (max m (f x)) y xs is (omega (arith, lt))

none_newer : (s : ScriptData) (xs : List Place) (p v i : ℕ) (o : SubOp) (os : List SubOp) → newer_of s xs p v os ≡ None
    → slice_get os i ≡ Some o → overwrites o.deed ≡ true → newest_of s xs p o.item.0 ≤ v
none_newer s xs p v i o [] none is over = absurd (cc is)
none_newer s xs p v zero o (y ∷ os) none is over =
    let same : y ≡ o = cc is in
    subst (λ (z : SubOp). newest_of s xs p z.item.0 ≤ v) same
    (by (overwrites y.deed) (newest_of s xs p y.item.0) (nat_lt v (newest_of s xs p y.item.0)) refl
    (ap (λ (z : SubOp). overwrites z.deed) same ∙ over) none) where
      by : (b : Bool) (w : ℕ) (c : Bool) → nat_lt v w ≡ c → b ≡ true
          → (if b && c then Some (Newer y.item (record { 0 = w })) else newer_of s xs p v os) ≡ None → w ≤ v
      by true w true e here h = absurd (cc h)
      by true w false e here h = grind (arith, nat_tests)
      by false w c e here h = absurd (cc here)
none_newer s xs p v (suc i) o (y ∷ os) none is over =
    none_newer s xs p v i o os (rest (overwrites y.deed && nat_lt v (newest_of s xs p y.item.0)) none) is over where
      rest : (b : Bool)
          → (if b then Some (Newer y.item (record { 0 = newest_of s xs p y.item.0 })) else newer_of s xs p v os) ≡ None
          → newer_of s xs p v os ≡ None
      rest true h = absurd (cc h)
      rest false h = h

did_wrote : (s : ScriptData) (xs : List Place) (p q x t j : ℕ) (a : Act) → updates s t ≡ true → ops_change x (ops_of s t j) ≡ true
    → does t j a ≡ true → written_in s xs p x (record { node = q; act = a }) ≡ version_or 0 (version_in t xs)
did_wrote s xs p q x t j a up changes_x is =
    ap (written_by s xs x (q == p)) (does_is t j a is).1
    ∙ choose (updates s t && ops_change x (ops_of s t j)) (version_or 0 (version_in t xs)) 0
    (and_from (updates s t) (ops_change x (ops_of s t j)) up changes_x)

pub none_later : (s : ScriptData) (zs : List Place) (p q x t j k n i a : ℕ) (w v : Version) → AreByRule s zs → updates s t ≡ true
    → ActAt (does t j) zs i q → ops_change x (ops_of s t j) ≡ true
    → ActAt (votes_yes k n) zs a p → (o : OpOn x (ops_of s k n)) → overwrites o.op.deed ≡ true → i < a
    → version_in t zs ≡ Some w → version_in k zs ≡ Some v → w.0 ≤ v.0
none_later s zs p q x t j k n i a w v acts up did changes_x voted o over lt one two =
    let xs = take a zs in
    let y = yes_vote s zs a p k n acts voted in
    let d = deed s zs i q t j acts did in
    let vk = born_version (version_in k xs) y.born in
    let vt = born_version (version_in t (take i zs)) d.born in
    let ek : vk.0.0 ≡ v.0 = same_version vk.0 v (sym (version_more k a vk.0 zs vk.1) ∙ two) in
    let et : vt.0.0 ≡ w.0 = same_version vt.0 w (sym (version_more t i vt.0 zs vt.1) ∙ one) in
    let le : i ≤ a = omega (arith, lt) in
    let known : version_or 0 (version_in t xs) ≡ vt.0.0 = ap (version_or 0) (version_later t i a vt.0 zs le vt.1) in
    let wrote = did_wrote s xs p q x t j did.act up changes_x did.passes in
    let most : written_in s xs p x (record { node = q; act = did.act }) ≤ newest_of s xs p x
    = fold_at (λ (z : Place). written_in s xs p x z) i a 0 (record { node = q; act = did.act }) zs did.is lt in
    let least = none_newer s xs p (version_or 0 (version_in k xs)) o.index o.op (ops_of s k n) y.newest o.is over in
    let item : newest_of s xs p o.op.item.0 ≡ newest_of s xs p x = ap (newest_of s xs p) (eqb-true o.op.item.0 x o.on) in
    let mine : version_or 0 (version_in k xs) ≡ vk.0.0 = ap (version_or 0) vk.1 in
    omega (arith, ek, et, known, wrote, most, least, item, mine) where
      same_version : (b c : Version) → Some b ≡ Some c → b.0 ≡ c.0
      same_version b c is = let same : b ≡ c = cc is in ap (λ (z : Version). z.0) same
