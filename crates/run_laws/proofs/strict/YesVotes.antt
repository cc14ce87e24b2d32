-- In every run each yes is of a born strict transaction's subtransaction at its node, once; it meets no lock that
-- conflicts, and what it overwrites is written in no newer version.
use Rattle.std.proofs.Common.{◌≡◌, ◌⊎◌, inl, inr, ℕ, zero, suc, ◌<◌, ◌≤◌, ◌==◌, max, Bool, true, false, List, ◌∷◌, ◌++◌, drop, map, length, take, refl, sym, ap, ◌∙◌, subst, arith, append_assoc, take-append-drop, Option, Some, None, []}
use Rattle.std.specs.Prelude.{if◌then◌else◌, fold, is_some, nat_lt, slice_get}
use Rattle.std.specs.Option.{option_or}
use Rattle.std.proofs.lemmas.Bool.{cases_lt, le-ltb}
use Rattle.tv_base.proofs.ByPlace.{slice_get-old}
use Rattle.tv_base.specs.declared.numbers.ItemNo.{ItemNo}
use Rattle.tv_base.specs.declared.numbers.SubNo.{SubNo}
use Rattle.tv_base.specs.declared.numbers.TreeNo.{TreeNo}
use Rattle.tv_base.specs.declared.numbers.Version.{Version}
use Rattle.commute_ops.specs.declared.kinds.Kind.{Kind}
use Rattle.commute_ops.specs.declared.value.Value.{Value}
use Rattle.letter_types.specs.declared.acts.Act.{Act}
use Rattle.letter_types.specs.declared.acts.Act.TheVariants as acts
use Rattle.letter_types.specs.declared.entries.Entry.{Entry}
use Rattle.letter_types.specs.declared.entries.Letter.{Letter}
use Rattle.letter_types.specs.declared.votes.Vote.TheVariants.{Yes}
use Rattle.item_versions.specs.Item.{Held, IsHeld}
use Rattle.item_versions.specs.Table.{Table, item_in}
use Rattle.item_versions.proofs.Holding.{IsHeld-item_in}
use Rattle.item_versions.proofs.Window.{AllUpTo}
use Rattle.nc_locks.specs.Locks.{met_in}
use Rattle.script_parts.specs.Wants.{wanted_by}
use Rattle.script_parts.specs.Deeds.{overwrites}
use Rattle.script_parts.specs.declared.parts.SubOp.{SubOp}
use Rattle.script_parts.specs.declared.parts.TreeKind.TheVariants.{Strict}
use Rattle.script_parts.specs.ScriptData.{ScriptData, ops_of}
use Rattle.script_parts.specs.Valid.{IsValid}
use Rattle.world_model.specs.Asked.{asked_ops, asked_version}
use Rattle.letter_types.specs.declared.bodies.Body.{Body}
use Rattle.world_model.specs.Core.{Core}
use Rattle.world_model.specs.Named.{is_strict_at, tree_kind_at}
use Rattle.world_model.specs.Runs.{IsStepRun, keeping_in, node_in}
use Rattle.world_model.specs.Votes.{cause_in, conflict_by, newer_at, newer_by, newer_in, short_in}
use Rattle.world_model.proofs.Bags.{one_if_both}
use Rattle.board_rules.specs.Histories.{Place, places_at, version_in, version_or}
use Rattle.board_rules.specs.Stands.{conflict_of, newer_of, newest_of, written_in}
use Rattle.board_rules.proofs.ItemAt.{op_row}
use Rattle.board_rules.proofs.Places.{version_stays}
use Rattle.board_rules.specs.Rules.{IsFreeVote}
use Rattle.board_rules.proofs.Standing.{none_parts}
use Rattle.tree_laws.proofs.conflicts.RunConflicts.{runs_meet_conflicts}
use Rattle.tree_laws.specs.Turns.{has_turn}
use Rattle.tree_laws.proofs.apt.AptBounds.{effect_bound, tables_keep}
use Rattle.tree_laws.proofs.decided.AptDecisions.{dated_here}
use Rattle.tree_laws.proofs.stages.AptStagesOwn.{Doing}
use Rattle.tree_laws.proofs.apt.AptVersions.{before}
use Rattle.tree_laws.proofs.apt.AptWindows.{tables_ascend}
use Rattle.tree_laws.proofs.loads.Tables.{ItemIn}
use Rattle.run_laws.proofs.items.HeldItems.{none_newer}
use Rattle.run_laws.proofs.act_order.RowActs.{lasting}
use Rattle.run_laws.proofs.strict.VoteLocks.{has_some}
use Rattle.run_laws.proofs.each_tree.EveryApt.{all_apt}
use Rattle.run_laws.proofs.each_tree.EveryWhole.{strict_is}
use Rattle.run_laws.proofs.births.Deeds.{conflict_front}
use Rattle.run_laws.proofs.act_order.Fronts.{first_places, front, placed}
use Rattle.run_laws.proofs.act_order.InEntries.{in_second}
use Rattle.run_laws.proofs.act_order.Lasts.{AsksIn, OfRoot, OfSub, cause_there}
use Rattle.run_laws.proofs.strict.QuietLocks.{first_quiet}
use Rattle.run_laws.proofs.act_order.Turns.{born_before, is_there, not_voted, turn_once}
use Rattle.run_laws.proofs.items.UpTo.{IsUpTo}
use Rattle.run_laws.proofs.items.Writes.{IsItem, asked_born, brief_most, writes_up}

-- A yes has no cause.
pub record HasNoCause (s : ScriptData) (c : Core) (t : TreeNo) (v : Version) (os : List SubOp) : Type 0 where
  pub met : conflict_by (met_in t (wanted_by os) c.locks) ≡ None
  pub newer : newer_in v os c.node.items ≡ None

pub no_cause : (s : ScriptData) (c : Core) (t : TreeNo) (v : Version) (os : List SubOp) → cause_in c.locks c.node.items t v os ≡ None
    → HasNoCause s c t v os
no_cause s c t v os is =
    let more = none_parts (conflict_by (met_in t (wanted_by os) c.locks)) (option_or (newer_in v os c.node.items) (short_in v os c.node.items)) is in
    record { met = more.0; newer = (none_parts (newer_in v os c.node.items) (short_in v os c.node.items) more.1).0 }

pub asked_same : (s : ScriptData) (t : TreeNo) (k : SubNo) (body : Body) → AsksIn body t k → asked_ops s body ≡ ops_of s t.0 k.0
asked_same s t k body (OfRoot is first) = ap (asked_ops s) is ∙ ap (λ (j : SubNo). ops_of s t.0 j.0) (sym first)
asked_same s t k body (OfSub v is) = ap (asked_ops s) is

-- The greatest version in which an item was written.
pub fold_most : (f : Place → ℕ) (n m : ℕ) (xs : List Place) → n ≤ m → ((i : ℕ) (y : Place) → slice_get xs i ≡ Some y → f y ≤ m)
    → fold (λ (v : ℕ) (y : Place). max v (f y)) n xs ≤ m
fold_most f n m [] le each = le
fold_most f n m (y ∷ xs) le each =
    fold_most f (max n (f y)) m xs (omega (arith, le, each 0 y refl)) (λ i z is. each (suc i) z is)

brief_places : (s : ScriptData) (zs : List Place) (p x m n : ℕ) (xs : List Act) (i : ℕ) (y : Place) → lasting xs ≡ []
    → slice_get (map (placed n) xs) i ≡ Some y → written_in s zs p x y ≤ m
brief_places s zs p x m n [] i y none is = absurd (cc is)
brief_places s zs p x m n (a ∷ xs) zero y none is =
    let same : placed n a ≡ y = cc is in
    subst (λ (z : Place). written_in s zs p x z ≤ m) same (brief_most s zs x m (n == p) a (first_quiet a xs none).0)
brief_places s zs p x m n (a ∷ xs) (suc i) y none is = brief_places s zs p x m n xs i y (first_quiet a xs none).1 is

pub newest_most : (s : ScriptData) (past : List Entry) (e : Entry) (j p m : ℕ) (x : ItemNo) → IsValid s → IsStepRun s (e ∷ past) → p < s.nodes
    → IsItem s p x → IsUpTo m (item_in x (node_in s past p).items) → lasting (take j e.acts) ≡ []
    → newest_of s (front past e j) p x.0 ≤ m
newest_most s past e j p m x valid run lt item up none =
    fold_most (written_in s (front past e j) p x.0) 0 m (front past e j) (omega arith) (λ i y is. by i y is (cases_lt i (length (before past)))) where
      by : (i : ℕ) (y : Place) → slice_get (front past e j) i ≡ Some y → (i < length (before past)) ⊎ (length (before past) ≤ i)
          → written_in s (front past e j) p x.0 y ≤ m
      by i y is (inl less) =
          writes_up s past p m x (front past e j) (take j (places_at e)) i y valid run.1 lt item refl up
          (sym (slice_get-old (before past) (take j (places_at e)) i less) ∙ is)
      by i y is (inr le) =
          let l = in_second (before past) (take j (places_at e)) i y is le in
          brief_places s (front past e j) p x.0 m e.actor.0 (take j e.acts) l.place y none
          (subst (λ (xs : List Place). slice_get xs l.place ≡ Some y) (first_places e j) l.is)

-- What a node holds of its item.
pub there_held : (kind : Kind) (b : ℕ) (o : Option Held) → ItemIn kind b o → (h : Held) × (o ≡ Some h)
there_held kind b None ok = absurd ok
there_held kind b (Some h) ok = (h, refl)

pub held_up : (m : ℕ) (h : Held) → IsHeld h → AllUpTo m h → IsUpTo m (Some h)
held_up m [] held all = absurd held
held_up m (x ∷ xs) held all = all

item_up : (s : ScriptData) (past : List Entry) (p : ℕ) (x : ItemNo) (v : Version) → IsValid s → IsStepRun s past → p < s.nodes → (i : IsItem s p x)
    → newer_by x v (item_in x (node_in s past p).items) ≡ None → IsUpTo v.0 (item_in x (node_in s past p).items)
item_up s past p x v valid run lt i none =
    let apt = all_apt s past valid run in
    let items : Table = (node_in s past p).items in
    let found = there_held i.row.kind (effect_bound s past x.0) (item_in x items) (tables_keep s past valid apt run p lt x.0 i.row i.there i.node) in
    let held : IsHeld found.0 = IsHeld-item_in x items found.0 found.1 (tables_ascend s past p valid apt run lt) in
    subst (IsUpTo v.0) (sym found.1) (held_up v.0 found.0 held (none_newer x v found.0 (ap (newer_by x v) (sym found.1) ∙ none)))

-- So nothing newer is found in the look back.
newer_none : (s : ScriptData) (past : List Entry) (e : Entry) (j p t k : ℕ) (v : Version) (os : List SubOp) → IsValid s → IsStepRun s (e ∷ past)
    → p < s.nodes → lasting (take j e.acts) ≡ []
    → ((i : ℕ) (o : SubOp) → slice_get os i ≡ Some o → IsItem s p o.item) → newer_in v os (node_in s past p).items ≡ None
    → newer_of s (front past e j) p v.0 os ≡ None
newer_none s past e j p t k v [] valid run lt none item free = refl
newer_none s past e j p t k v (o ∷ os) valid run lt none item free =
    by (overwrites o.deed) refl (none_parts (newer_at v o (node_in s past p).items) (newer_in v os (node_in s past p).items) free)
    (λ rest. newer_none s past e j p t k v os valid run lt none (λ i q is. item (suc i) q is) rest) where
      by : (over : Bool) → overwrites o.deed ≡ over
          → (newer_at v o (node_in s past p).items ≡ None) × (newer_in v os (node_in s past p).items ≡ None)
          → (newer_in v os (node_in s past p).items ≡ None → newer_of s (front past e j) p v.0 os ≡ None)
          → newer_of s (front past e j) p v.0 (o ∷ os) ≡ None
      by false is parts rest = rw is (rest parts.1)
      by true is parts rest =
          let newer : newer_by o.item v (item_in o.item (node_in s past p).items) ≡ None =
          ap (λ (b : Bool). if b then newer_by o.item v (item_in o.item (node_in s past p).items) else None) (sym is) ∙ parts.0 in
          let i = item 0 o refl in
          let most : newest_of s (front past e j) p o.item.0 ≤ v.0 =
          newest_most s past e j p v.0 o.item valid run lt i (item_up s past p o.item v valid run.1 lt i newer) none in
          let test : nat_lt v.0 (newest_of s (front past e j) p o.item.0) ≡ false =
          le-ltb v.0 (newest_of s (front past e j) p o.item.0) most in
          rw is (rw test (rest parts.1))

-- the version of its tree at the vote
pub front_version : (past : List Entry) (e : Entry) (j t : ℕ) (v : Version) → is_some (version_in t (front past e j)) ≡ true
    → version_in t (before past ++ places_at e) ≡ Some v → version_in t (front past e j) ≡ Some v
front_version past e j t v born has =
    sym (version_stays t (front past e j) (drop j (places_at e)) born)
    ∙ ap (version_in t)
    (append_assoc (before past) (take j (places_at e)) (drop j (places_at e))
    ∙ ap (λ (ys : List Place). before past ++ ys) (take-append-drop j (places_at e)))
    ∙ has

-- So each yes follows its rule.
pub yes_by_rule : (s : ScriptData) (past : List Entry) (e : Entry) (j p : ℕ) (r : Letter) (t : TreeNo) (k : SubNo) (values : List (ItemNo × Value))
    → Doing s past e p r → AsksIn r.body t k → tree_kind_at s t.0 ≡ Some Strict → slice_get e.acts j ≡ Some (acts.Voted t k (Yes values))
    → cause_there s (keeping_in s past p).core t r.body ≡ None → lasting (take j e.acts) ≡ [] → IsFreeVote s (front past e j) e.actor.0 t.0 k.0
yes_by_rule s past e j p r t k values g asks of at free none =
    let c : Core = (keeping_in s past p).core in
    let v : Version = asked_version c.node.turns.update r.body in
    let os : List SubOp = ops_of s t.0 k.0 in
    let n = no_cause s c t v os (ap (cause_in c.locks c.node.items t v) (sym (asked_same s t k r.body asks)) ∙ free) in
    let there = is_there s past e p r t k g asks in
    let strict : is_strict_at s t.0 ≡ true = rw (of, is_strict_at) refl in
    let born = born_before s past e j (acts.Voted t k (Yes values)) p r t k Strict g asks of at refl in
    let version : version_in t.0 (front past e j) ≡ Some v =
    front_version past e j t.0 v born
    (asked_born s (before past ++ places_at e) t k Strict r.body c asks of refl (dated_here s past e p r g.valid g.apt.1 g.run g.does)) in
    let own : has_turn t.0 k.0 (acts.Voted t k (Yes values)) ≡ 1 = one_if_both t.0 k.0 in
    let met : conflict_of s (before past) p t.0 os ≡ None =
    sym (runs_meet_conflicts s past p t k (has_some s t.0 strict) g.valid g.run.1 g.does.brings.below there.node)
    ∙ n.met in
    let newer : newer_of s (front past e j) p v.0 os ≡ None =
    newer_none s past e j p t.0 k.0 v os g.valid g.run g.does.brings.below none
    (λ i o is.
    let row = op_row s t.0 k.0 i o g.valid is in
    record { row = row.row; there = row.there; node = sym row.node ∙ there.node })
    n.newer in
    record {
      strict = strict_is s t.0 (slice_get s.trees t.0) refl ∙ strict;
      born = born;
      there = there.below;
      once = not_voted t.0 k.0 (front past e j) (turn_once s past e j (acts.Voted t k (Yes values)) t.0 k.0 there.at g.valid g.run at own);
      node = there.node ∙ sym g.does.brings.at;
      free = conflict_front s past e j e.actor.0 t.0 os none ∙ ap (λ (q : ℕ). conflict_of s (before past) q t.0 os) g.does.brings.at ∙ met;
      newest = ap (λ (q : ℕ). newer_of s (front past e j) q (version_or 0 (version_in t.0 (front past e j))) os) g.does.brings.at
          ∙ ap (λ (o : Option Version). newer_of s (front past e j) p (version_or 0 o) os) version ∙ newer;
    }
