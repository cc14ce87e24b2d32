-- In runs of enabled messages, of every script: nothing newer is held of an item than the strict transaction that holds
-- it. What a commit writes its transaction holds.
use Rattle.std.proofs.Common.{◌≡◌, ◌≢◌, ◌⊎◌, inl, inr, ℕ, suc, ◌<◌, ◌≤◌, ◌==◌, ◌&&◌, max, Bool, true, false, not, List, [], ◌∷◌, ◌++◌, reverse, refl, sym, ap, subst, ◌∙◌, arith, Option, Some, None}
use Rattle.std.specs.Prelude.{if◌then◌else◌, is_some, map, nat_le, nat_lt, slice_get}
use Rattle.std.specs.List.{AllByRecursion}
use Rattle.std.specs.Ordering.{is_eq}
use Rattle.std.proofs.lemmas.Bool.{cases_eq, or_cases, or_left, or_right}
use Rattle.std.proofs.lemmas.Bool.Decides.{nat_tests}
use Rattle.tv_base.proofs.Truths.{at_most, left_true, right_true}
use Rattle.tv_base.specs.declared.numbers.ItemNo.{ItemNo}
use Rattle.tv_base.specs.declared.numbers.TreeNo.{TreeNo}
use Rattle.tv_base.specs.declared.numbers.Version.{Version}
use Rattle.item_versions.specs.Collecting.{collected_all}
use Rattle.item_versions.specs.Item.{Held, collected}
use Rattle.item_versions.specs.Table.{Table, item_in}
use Rattle.item_versions.proofs.Window.{AllUpTo, up_to-more}
use Rattle.letter_types.specs.declared.bodies.Body.{Body}
use Rattle.letter_types.specs.declared.bodies.Body.TheVariants.{Root, Sub as SubLetter, Go, Decide, Sweep}
use Rattle.letter_types.specs.declared.bodies.What.TheVariants as whats
use Rattle.letter_types.specs.declared.entries.Entry.{Entry}
use Rattle.letter_types.specs.declared.entries.Letter.{Letter}
use Rattle.nc_locks.specs.declared.modes.Lock.{Lock}
use Rattle.nc_locks.specs.declared.modes.Met.{Met}
use Rattle.nc_locks.specs.declared.modes.Mode.{Mode}
use Rattle.nc_locks.specs.declared.modes.Mode.TheVariants.{Mark, Hold}
use Rattle.nc_locks.specs.Locks.{first_where, has_lock, is_in_way, lock_of, lock_order, marks_on, met_in, wanted_locks}
use Rattle.nc_locks.specs.Modes.{modes_conflict}
use Rattle.nc_locks.proofs.Always.{none_in_way}
use Rattle.nc_locks.proofs.Orders.{itself, same_lock}
use Rattle.script_parts.specs.Wants.{mode_wanted, wanted_by}
use Rattle.script_parts.specs.Counts.{has_strict}
use Rattle.script_parts.specs.Deeds.{overwrites}
use Rattle.script_parts.specs.ScriptData.{ScriptData, node_of, ops_of, sub_at, subs_at, visits}
use Rattle.script_parts.specs.Valid.{IsValid}
use Rattle.script_parts.specs.declared.parts.Deed.{Deed}
use Rattle.script_parts.specs.declared.parts.Deed.TheVariants.{Apply, Get, Set, Draw}
use Rattle.script_parts.specs.declared.parts.Sub.{Sub}
use Rattle.script_parts.specs.declared.parts.SubOp.{SubOp}
use Rattle.script_parts.specs.declared.parts.TreeKind.TheVariants.{Update}
use Rattle.world_model.specs.AllApt.{AllApt}
use Rattle.world_model.specs.Asked.{asked_version}
use Rattle.world_model.specs.Core.{Core}
use Rattle.world_model.specs.Counts.{one_if}
use Rattle.world_model.specs.Decisions.{ops_at}
use Rattle.world_model.specs.Named.{is_named, is_strict_at, is_timely, tree_kind_at}
use Rattle.world_model.specs.Node.{Node}
use Rattle.world_model.specs.Runs.{IsStepRun, keeping_in, node_in}
use Rattle.world_model.specs.Strict.{CoreKeeping, core_keeping, core_row, meets}
use Rattle.world_model.specs.Votes.{newer_at, newer_by, newer_in}
use Rattle.world_model.proofs.Cases.{Case, Coordinates, Does, Keeps, NodeDoes, NodeKeeps, Submits, case, does_number, apt_named}
use Rattle.world_model.proofs.Keepings.{of_kept}
use Rattle.world_model.proofs.Outstanding.{IsOutstanding, keeping_elsewhere}
use Rattle.world_model.proofs.Scripts.{get_below}
use Rattle.board_rules.specs.Histories.{Place, places_at, places_of, version_in}
use Rattle.board_rules.proofs.Places.{version_stays, places_more}
use Rattle.board_rules.proofs.Precedence.{held_by}
use Rattle.tree_laws.specs.Dids.{asks}
use Rattle.tree_laws.proofs.apt.AptItems.{Applies, Changes, Collects, Follows, Raises, Rests, Shows, Touches, core_changes}
use Rattle.tree_laws.proofs.decided.AptDecisions.{dated_here}
use Rattle.tree_laws.proofs.apt.AptSteps.{done_before}
use Rattle.tree_laws.proofs.apt.AptVersions.{before, version_is}
use Rattle.tree_laws.proofs.apt.AptWindows.{apt_timely}
use Rattle.tree_laws.proofs.loads.NodeLoads.{plain_kind}
use Rattle.tree_laws.proofs.loads.Seen.{raised_low}
use Rattle.tree_laws.proofs.loads.Tables.{collected_of, item_collected}
use Rattle.tree_laws.specs.Locks.{HaveNoConflict}
use Rattle.tree_laws.proofs.conflicts.NoConflicts.{none_met, not_parked, runs_apart}
use Rattle.run_laws.specs.Newest.{IsNewest, NewestUnderHolds}
use Rattle.run_laws.specs.VoteLocks.{AreAmong}
use Rattle.run_laws.proofs.strict.Agreed.{IsAgreed, agreed}
use Rattle.run_laws.proofs.items.HeldItems.{collected_most, commit_other, none_newer, ops_other}
use Rattle.run_laws.proofs.strict.HoldRows.{HoldComes, IsNoDecision, Stood, Taken, apart_none, hold_comes}
use Rattle.run_laws.proofs.strict.VoteLocks.{has_some, vote_locks_stand}
use Rattle.world_model.proofs.Epochs.{order_timely}

-- An update that meets no lock marks no item that is held.
other_item : (a b : ℕ) (x y : Bool) → x ≡ true → y ≡ true → ((a == b) && (x && y)) ≡ false → (b == a) ≡ false
other_item a b x y xt yt is = grind (arith, nat_tests)

met_apart : (t : TreeNo) (ls : List Lock) (l : Lock) (os : List SubOp) → l.mode ≡ Hold → l.tree.0 ≢ t.0 → has_lock l ls ≡ true
    → met_in t (marks_on (map (λ (o : SubOp). o.item) os)) ls ≡ None → AllByRecursion (λ (o : SubOp). (o.item.0 == l.item.0) ≡ false) os
met_apart t ls l [] hold ne has none = tt
met_apart t ls l (o ∷ os) hold ne has none =
    let more : Option Met = met_in t (marks_on (map (λ (q : SubOp). q.item) os)) ls in
    let parts = none_met (first_where (is_in_way t o.item Mark) ls) more none in
    let other : not (l.tree.0 == t.0) ≡ true = grind (arith, nat_tests) in (
      other_item l.item.0 o.item.0 (not (l.tree.0 == t.0)) (modes_conflict Mark l.mode) other (ap (modes_conflict Mark) hold)
          (none_in_way t o.item Mark ls parts.0 l has),
      met_apart t ls l os hold ne has parts.1,
    )

marks_apart : (s : ScriptData) (c : Core) (t : TreeNo) (os : List SubOp) (l : Lock) → is_strict_at s l.tree.0 ≡ true
    → tree_kind_at s t.0 ≡ Some Update → l.mode ≡ Hold → has_lock l c.locks ≡ true → meets s t os c ≡ None
    → AllByRecursion (λ (o : SubOp). (o.item.0 == l.item.0) ≡ false) os
marks_apart s c t os l strict kind hold has none =
    let some : has_strict s ≡ true = has_some s l.tree.0 strict in
    let ne : l.tree.0 ≢ t.0 = λ same.
    (let no_such : true ≡ false = sym strict ∙ ap (is_strict_at s) same ∙ plain_kind s t.0 kind in cc no_such) in
    met_apart t c.locks l os hold ne has
    (ap (λ (b : Bool). met_in t (if b then marks_on (map (λ (o : SubOp). o.item) os) else []) c.locks) (sym some) ∙ none)

-- a subtransaction of an update tree that isn't kept meets none
pub both : (u t j k : ℕ) → one_if ((u == t) && (j == k)) ≡ 1 → (u ≡ t) × (j ≡ k)
both u t j k is = by ((u == t) && (j == k)) refl is where
  by : (test : Bool) → ((u == t) && (j == k)) ≡ test → one_if test ≡ 1 → (u ≡ t) × (j ≡ k)
  by true so one = (grind (arith, nat_tests, so), grind (arith, nat_tests, so))
  by false so one = absurd (omega (arith, one))

not_met : (s : ScriptData) (c : Core) (t k : ℕ) (body : Body) → asks t k body ≡ 1 → tree_kind_at s t ≡ Some Update
    → core_keeping s c body ≡ None → meets s (record { 0 = t }) (ops_of s t k) c ≡ None
not_met s c t k (Root u) one kind none =
    let same = both u.0 t 0 k one in
    let own : tree_kind_at s u.0 ≡ Some Update = ap (tree_kind_at s) same.0 ∙ kind in
    let met : meets s u (ops_of s u.0 0) c ≡ None =
    not_parked u (record { 0 = 0 }) false c.node.turns.update (meets s u (ops_of s u.0 0) c) c (rw own at none) in
    subst (λ (j : ℕ). meets s (record { 0 = t }) (ops_of s t j) c ≡ None) same.1
    (subst (λ (n : ℕ). meets s (record { 0 = n }) (ops_of s n 0) c ≡ None) same.0 met)
not_met s c t k (SubLetter u j v) one kind none =
    let same = both u.0 t j.0 k one in
    let own : tree_kind_at s u.0 ≡ Some Update = ap (tree_kind_at s) same.0 ∙ kind in
    let met : meets s u (ops_of s u.0 j.0) c ≡ None =
    not_parked u j (nat_lt c.node.turns.update.0 v.0) v (meets s u (ops_of s u.0 j.0) c) c (rw own at none) in
    subst (λ (i : ℕ). meets s (record { 0 = t }) (ops_of s t i) c ≡ None) same.1
    (subst (λ (n : ℕ). meets s (record { 0 = n }) (ops_of s n j.0) c ≡ None) same.0 met)
not_met s c t k Go one kind none = absurd (cc one)
not_met s c t k _ one kind none = absurd (cc one)

-- What a commit writes its own tree holds.
abbrev pub AreHeldBy : TreeNo → List Lock → List SubOp → Type 0
AreHeldBy t ls os = AllByRecursion (λ (o : SubOp). overwrites o.deed ≡ true → has_lock (lock_of t o.item Hold) ls ≡ true) os

wanted_held : (t : TreeNo) (ls : List Lock) (os : List SubOp) → AreAmong (wanted_locks t (wanted_by os)) ls → AreHeldBy t ls os
wanted_held t ls [] among = tt
wanted_held t ls (o ∷ os) among =
    let own : Lock = lock_of t o.item (mode_wanted o.deed) in
    let rest : List Lock = wanted_locks t (wanted_by os) in (
      (λ over.
          subst (λ (m : Mode). has_lock (lock_of t o.item m) ls ≡ true) (held_by o.deed over)
          (among own (or_left (is_eq (lock_order own own)) (has_lock own rest) (itself own)))),
      wanted_held t ls os (λ l there. among l (or_right (is_eq (lock_order l own)) (has_lock l rest) there)),
    )

held_append : (t : TreeNo) (ls : List Lock) (xs ys : List SubOp) → AreHeldBy t ls xs → AreHeldBy t ls ys → AreHeldBy t ls (xs ++ ys)
held_append t ls [] ys a b = b
held_append t ls (x ∷ xs) ys a b = (a.0, held_append t ls xs ys a.1 b)

first_held : (t : TreeNo) (ls : List Lock) (p : ℕ) (x : Sub) (xs : List Sub) (test : Bool) → (x.node.0 == p) ≡ test
    → (x.node.0 ≡ p → AreHeldBy t ls x.ops) → AreHeldBy t ls (ops_at p xs)
    → AreHeldBy t ls (if test then x.ops ++ ops_at p xs else ops_at p xs)
first_held t ls p x xs true is own rest = held_append t ls x.ops (ops_at p xs) (own (grind (arith, nat_tests, is))) rest
first_held t ls p x xs false is own rest = rest

all_held : (t : TreeNo) (ls : List Lock) (p : ℕ) (xs : List Sub)
    → ((n : ℕ) (x : Sub) → slice_get xs n ≡ Some x → x.node.0 ≡ p → AreHeldBy t ls x.ops) → AreHeldBy t ls (ops_at p xs)
all_held t ls p [] each = tt
all_held t ls p (x ∷ xs) each =
    first_held t ls p x xs (x.node.0 == p) refl (λ node. each 0 x refl node) (all_held t ls p xs (λ n y at. each (suc n) y at))

pub commit_held : (s : ScriptData) (past : List Entry) (p : ℕ) (t : TreeNo) → IsValid s → AllApt s past → IsStepRun s past → p < s.nodes
    → is_strict_at s t.0 ≡ true → IsAgreed s past p t.0 → AreHeldBy t (keeping_in s past p).core.locks (ops_at p (subs_at s t.0))
commit_held s past p t valid apt run lt strict it =
    all_held t (keeping_in s past p).core.locks p (subs_at s t.0)
    (λ n x at node.
    let sub : sub_at s t.0 n ≡ Some x = at in
    let there : node_of s t.0 n ≡ p = rw (sub, node_of) node in
    let ops : ops_of s t.0 n ≡ x.ops = rw (sub, ops_of) refl in
    subst (AreHeldBy t (keeping_in s past p).core.locks) ops
    (wanted_held t (keeping_in s past p).core.locks (ops_of s t.0 n)
    (vote_locks_stand s past p t (record { 0 = n }) valid apt run lt strict (it.yeses n (get_below (subs_at s t.0) n x at) there) it.none)))

-- so no other tree holds it
conflict_apart : (t : TreeNo) (ls : List Lock) (l : Lock) (x : ItemNo) (test : Bool) → HaveNoConflict ls → has_lock l ls ≡ true
    → l.mode ≡ Hold → l.tree.0 ≢ t.0 → has_lock (lock_of t x Hold) ls ≡ true → (x.0 == l.item.0) ≡ test → test ≡ false
conflict_apart t ls l x true none has hold ne own is =
    let same : l.item.0 ≡ x.0 = grind (arith, nat_tests, is) in
    let no : modes_conflict l.mode Hold ≡ false = none l (lock_of t x Hold) has own same ne in
    let no_such : true ≡ false = sym (ap (λ (m : Mode). modes_conflict m Hold) hold) ∙ no in absurd (cc no_such)
conflict_apart t ls l x false none has hold ne own is = refl

held_apart : (t : TreeNo) (ls : List Lock) (l : Lock) (os : List SubOp) → HaveNoConflict ls → has_lock l ls ≡ true → l.mode ≡ Hold
    → l.tree.0 ≢ t.0 → AreHeldBy t ls os
    → AllByRecursion (λ (o : SubOp). overwrites o.deed ≡ true → (o.item.0 == l.item.0) ≡ false) os
held_apart t ls l [] none has hold ne all = tt
held_apart t ls l (o ∷ os) none has hold ne all = (
  (λ over. conflict_apart t ls l o.item (o.item.0 == l.item.0) none has hold ne (all.0 over) refl),
  held_apart t ls l os none has hold ne all.1,
)

-- A vote of yes: nothing newer is held of what it takes a hold on.
not_look : (d : Deed) → mode_wanted d ≡ Hold → overwrites d ≡ true
not_look (Apply op) is = absurd (cc is)
not_look Get is = absurd (cc is)
not_look (Set n) is = refl
not_look (Draw n) is = refl

taken_newest : (t : TreeNo) (v : Version) (os : List SubOp) (items : Table) (l : Lock) (h : Held) → l.mode ≡ Hold
    → has_lock l (wanted_locks t (wanted_by os)) ≡ true → newer_in v os items ≡ None → item_in l.item items ≡ Some h → AllUpTo v.0 h
taken_newest t v [] items l h hold has none at = absurd (cc has)
taken_newest t v (o ∷ os) items l h hold has none at =
    let own : Lock = lock_of t o.item (mode_wanted o.deed) in
    let parts = apart_none (newer_at v o items) (newer_in v os items) none in
    by own refl (λ later. taken_newest t v os items l h hold later parts.1 at) parts.0
    (or_cases (is_eq (lock_order l own)) (has_lock l (wanted_locks t (wanted_by os))) has) where
      by : (own : Lock) → own ≡ lock_of t o.item (mode_wanted o.deed)
          → (has_lock l (wanted_locks t (wanted_by os)) ≡ true → AllUpTo v.0 h) → newer_at v o items ≡ None
          → (is_eq (lock_order l own) ≡ true) ⊎ (has_lock l (wanted_locks t (wanted_by os)) ≡ true) → AllUpTo v.0 h
      by own is rest first (inl same) =
          let eq : l ≡ lock_of t o.item (mode_wanted o.deed) = same_lock l own same ∙ is in
          let over : overwrites o.deed ≡ true = not_look o.deed (sym (ap (λ (q : Lock). q.mode) eq) ∙ hold) in
          let there : item_in o.item items ≡ Some h = sym (ap (λ (q : Lock). item_in q.item items) eq) ∙ at in
          let newer : newer_by o.item v (item_in o.item items) ≡ None =
          ap (λ (b : Bool). if b then newer_by o.item v (item_in o.item items) else None) (sym over) ∙ first in
          none_newer o.item v h (ap (newer_by o.item v) (sym there) ∙ newer)
      by own is rest first (inr later) = rest later

-- What is known of a hold goes on.
goes_on : (s : ScriptData) (xs ys : List Place) (st after : Node) (l : Lock) → item_in l.item after.items ≡ item_in l.item st.items
    → after.turns.low.0 ≡ st.turns.low.0 → IsNewest s xs st l → IsNewest s (xs ++ ys) after l
goes_on s xs ys st after l same low n = record {
  strict = n.strict;
  version = n.version;
  born = version_stays l.tree.0 xs ys (ap (λ (o : Option Version). is_some o) n.born) ∙ n.born;
  most = λ h at.
      subst (λ (m : ℕ). AllUpTo (max m n.version.0) h) (sym low) (n.most h (sym same ∙ at));
}

collected_in : (m : ℕ) (f : Version) (found : Option Held) (h : Held) → f.0 ≤ m → ((g : Held) → found ≡ Some g → AllUpTo m g)
    → collected_of f found ≡ Some h → AllUpTo m h
collected_in m f None h le all is = absurd (cc is)
collected_in m f (Some g) h le all is =
    let same : collected f g ≡ h = cc is in subst (AllUpTo m) same (collected_most m f g le (all g refl))

collects_on : (s : ScriptData) (xs ys : List Place) (st after : Node) (l : Lock) (v : Version) → after.items ≡ collected_all v st.items
    → after.turns.low.0 ≡ v.0 → st.turns.low.0 ≤ v.0 → IsNewest s xs st l → IsNewest s (xs ++ ys) after l
collects_on s xs ys st after l v items low le n = record {
  strict = n.strict;
  version = n.version;
  born = version_stays l.tree.0 xs ys (ap (λ (o : Option Version). is_some o) n.born) ∙ n.born;
  most = λ h at.
      let m : ℕ = max v.0 n.version.0 in
      subst (λ (i : ℕ). AllUpTo (max i n.version.0) h) (sym low)
      (collected_in m v (item_in l.item st.items) h (omega arith)
      (λ g there. up_to-more (max st.turns.low.0 n.version.0) m g (omega (arith, le)) (n.most g there))
      (sym (item_collected v l.item st.items) ∙ sym (ap (item_in l.item) items) ∙ at));
}

pub is_outstanding : (s : ScriptData) (past : List Entry) (e : Entry) (p : ℕ) (r : Letter) → IsStepRun s (e ∷ past) → Does s past e p r
    → IsOutstanding s past r
is_outstanding s past e p r run d f = omega (arith, does_number f s past e p r d, done_before f s past e run.0)

-- All that is known where a node does a letter.
pub record WorksByVotes (s : ScriptData) (past : List Entry) (e : Entry) (p : ℕ) (r : Letter) : Type 0 where
  pub valid : IsValid s
  pub apt : AllApt s (e ∷ past)
  pub run : IsStepRun s (e ∷ past)
  pub does : Does s past e p r

abbrev After : ScriptData → List Entry → ℕ → Letter → Core
After s past p r = (core_row s p (keeping_in s past p).core r.from.0 r.body).state

-- a commit of another tree
pub agreed_here : (s : ScriptData) (past : List Entry) (e : Entry) (p : ℕ) (r : Letter) (t : TreeNo) (v : Version) → WorksByVotes s past e p r
    → r.body ≡ Decide t v true → (is_strict_at s t.0 ≡ true) × IsAgreed s past p t.0
agreed_here s past e p r t v w is =
    let c : Core = (keeping_in s past p).core in
    let named : is_named s p r.from.0 (Decide t v true) ≡ true =
    ap (is_named s p r.from.0) (sym is) ∙ apt_named s p c r w.does.brings.apt in
    let rest : Bool = visits (subs_at s t.0) p && nat_lt r.from.0 s.nodes in
    let strict : is_strict_at s t.0 ≡ true = left_true (is_strict_at s t.0) rest named in
    let visited : visits (subs_at s t.0) p ≡ true =
    left_true (visits (subs_at s t.0) p) (nat_lt r.from.0 s.nodes) (right_true (is_strict_at s t.0) rest named) in (
      strict,
      agreed s past r p t v w.valid w.apt.1 w.run.1 w.does.brings.below (is_outstanding s past e p r w.run w.does) w.does.brings.to is
          strict visited,
    )

stood : (s : ScriptData) (past : List Entry) (e : Entry) (p : ℕ) (r : Letter) (l : Lock) → WorksByVotes s past e p r → l.mode ≡ Hold
    → has_lock l (keeping_in s past p).core.locks ≡ true → IsNoDecision l.tree.0 r.body
    → IsNewest s (before past) (keeping_in s past p).core.node l
    → Changes s p r.body (keeping_in s past p).core (After s past p r).node.items (After s past p r).node.turns
    → IsNewest s (before past ++ places_at e) (After s past p r).node l
stood s past e p r l w hold has other n (Rests is turns) =
    goes_on s (before past) (places_at e) (keeping_in s past p).core.node (After s past p r).node l (ap (item_in l.item) is)
    (ap (λ x. x.low.0) turns) n
stood s past e p r l w hold has other n (Follows t k v letter is turns) =
    let st : Node = (keeping_in s past p).core.node in
    goes_on s (before past) (places_at e) st (After s past p r).node l (ap (item_in l.item) is)
    (ap (λ x. x.low.0) turns ∙ raised_low (nat_lt st.turns.update.0 v.0) v.0 st.turns) n
stood s past e p r l w hold has other n (Raises v to is turns) =
    let st : Node = (keeping_in s past p).core.node in
    goes_on s (before past) (places_at e) st (After s past p r).node l (ap (item_in l.item) is)
    (ap (λ x. x.low.0) turns ∙ raised_low (nat_lt st.turns.update.0 v.0) v.0 st.turns) n
stood s past e p r l w hold has other n (Touches t k one kind is turns) =
    let c : Core = (keeping_in s past p).core in
    let st : Node = c.node in
    let v : Version = asked_version st.turns.update r.body in
    let tree : TreeNo = record { 0 = t } in
    let apart = marks_apart s c tree (ops_of s t k) l n.strict kind hold has (not_met s c t k r.body one kind w.does.now) in
    goes_on s (before past) (places_at e) st (After s past p r).node l
    (ap (item_in l.item) is ∙ ops_other v l.item (ops_of s t k) st.items apart)
    (ap (λ x. x.low.0) turns ∙ raised_low (nat_lt st.turns.update.0 v.0) v.0 st.turns) n
stood s past e p r l w hold has other n (Applies t v letter is turns) =
    let c : Core = (keeping_in s past p).core in
    let it = agreed_here s past e p r t v w letter in
    let held = commit_held s past p t w.valid w.apt.1 w.run.1 w.does.brings.below it.0 it.1 in
    let apart = held_apart t c.locks l (ops_at p (subs_at s t.0)) (runs_apart s past p) has hold (other t v true letter) held in
    goes_on s (before past) (places_at e) c.node (After s past p r).node l
    (ap (item_in l.item) is ∙ commit_other v l.item (ops_at p (subs_at s t.0)) c.node.items apart) (ap (λ x. x.low.0) turns) n
stood s past e p r l w hold has other n (Shows v to is turns) =
    goes_on s (before past) (places_at e) (keeping_in s past p).core.node (After s past p r).node l (ap (item_in l.item) is)
    (ap (λ x. x.low.0) turns) n
stood s past e p r l w hold has other n (Collects v to is turns) =
    let c : Core = (keeping_in s past p).core in
    let timely : is_timely s c.node (Sweep v) ≡ true =
    order_timely s c r.body whats.Sweep v to (apt_timely s p c r w.does.brings.apt) in
    let le : c.node.turns.low.0 ≤ v.0 =
    at_most c.node.turns.low.0 v.0 (nat_le v.0 c.node.turns.read.0 && nat_le v.0 c.node.turns.update.0) timely in
    collects_on s (before past) (places_at e) c.node (After s past p r).node l v is (ap (λ x. x.low.0) turns) le n

-- a node does a letter
comes : (s : ScriptData) (past : List Entry) (e : Entry) (p : ℕ) (r : Letter) (l : Lock) → WorksByVotes s past e p r → l.mode ≡ Hold
    → ((l : Lock) → has_lock l (keeping_in s past p).core.locks ≡ true → l.mode ≡ Hold → IsNewest s (before past) (node_in s past p) l)
    → HoldComes s r.body (keeping_in s past p).core (After s past p r) l
    → IsNewest s (before past ++ places_at e) (After s past p r).node l
comes s past e p r l w hold old (Stood has other) =
    stood s past e p r l w hold has other (old l has hold) (core_changes s p r.from.0 r.body (keeping_in s past p).core)
comes s past e p r l w hold old (Taken t v os tree strict wants none dated items low) =
    let c : Core = (keeping_in s past p).core in
    let xs : List Place = before past ++ places_at e in
    let in_version = dated xs (dated_here s past e p r w.valid w.apt.1 w.run w.does) in
    record {
      strict = ap (is_strict_at s) tree ∙ strict;
      version = v;
      born = ap (λ (n : ℕ). version_in n xs) tree ∙ version_is (version_in t.0 xs) v in_version;
      most = λ h at.
          let st : Node = (After s past p r).node in
          up_to-more v.0 (max st.turns.low.0 v.0) h (omega arith)
          (taken_newest t v os c.node.items l h hold wants none (sym (ap (item_in l.item) items) ∙ at));
    }

abbrev pub AllNewest : ScriptData → List Entry → ℕ → Type 0
AllNewest s past p = (l : Lock) → has_lock l (keeping_in s past p).core.locks ≡ true → l.mode ≡ Hold
    → IsNewest s (places_of (reverse past)) (node_in s past p) l

does_newest : (s : ScriptData) (past : List Entry) (e : Entry) (p : ℕ) (r : Letter) → WorksByVotes s past e p r → AllNewest s past p
    → AllNewest s (e ∷ past) p
does_newest s past e p r w old l has hold =
    let c : Core = (keeping_in s past p).core in
    let now : has_lock l (After s past p r).locks ≡ true = sym (ap (λ (x : Core). has_lock l x.locks) w.does.core) ∙ has in
    subst (λ (xs : List Place). IsNewest s xs (node_in s (e ∷ past) p) l) (sym (places_more e past))
    (subst (λ (x : Core). IsNewest s (before past ++ places_at e) x.node l) (sym w.does.core)
    (comes s past e p r l w hold old (hold_comes s p r.from.0 r.body c l hold now)))

-- it keeps one
abbrev LeavesHeld : Core → CoreKeeping → Type 0
LeavesHeld c k = (k.state.locks ≡ c.locks) × (k.state.node.items ≡ c.node.items) × (k.state.node.turns.low.0 ≡ c.node.turns.low.0)

keeps_newest : (s : ScriptData) (past : List Entry) (e : Entry) (p : ℕ) (r : Letter) (k : CoreKeeping) → Keeps s past e p r k
    → AllNewest s past p → AllNewest s (e ∷ past) p
keeps_newest s past e p r k d old l has hold =
    let c : Core = (keeping_in s past p).core in
    let same = of_kept s c (LeavesHeld c) r.body k (record {
      parks = λ t j raises v met. (refl, refl, raised_low raises v.0 c.node.turns);
      waits = λ t. (refl, refl, refl);
    }) d.keeps in
    let was : has_lock l c.locks ≡ true = sym (ap (has_lock l) (ap (λ (x : Core). x.locks) d.core ∙ same.0)) ∙ has in
    subst (λ (xs : List Place). IsNewest s xs (node_in s (e ∷ past) p) l) (sym (places_more e past))
    (goes_on s (before past) (places_at e) c.node (node_in s (e ∷ past) p) l
    (ap (item_in l.item) (ap (λ (x : Core). x.node.items) d.core ∙ same.1)) (ap (λ (x : Core). x.node.turns.low.0) d.core ∙ same.2)
    (old l was hold))

-- another actor goes on
apart_newest : (s : ScriptData) (past : List Entry) (e : Entry) (p : ℕ) → e.actor.0 ≢ p → AllNewest s past p → AllNewest s (e ∷ past) p
apart_newest s past e p ne old l has hold =
    let same : (keeping_in s (e ∷ past) p).core ≡ (keeping_in s past p).core = ap (λ n. n.core) (keeping_elsewhere s past e p ne) in
    subst (λ (xs : List Place). IsNewest s xs (node_in s (e ∷ past) p) l) (sym (places_more e past))
    (goes_on s (before past) (places_at e) (node_in s past p) (node_in s (e ∷ past) p) l
    (ap (λ (x : Core). item_in l.item x.node.items) same) (ap (λ (x : Core). x.node.turns.low.0) same)
    (old l (sym (ap (λ (x : Core). has_lock l x.locks) same) ∙ has) hold))

newest_at : (s : ScriptData) (past : List Entry) (e : Entry) (p : ℕ) → IsValid s → AllApt s (e ∷ past)
    → IsStepRun s (e ∷ past) → p < s.nodes → e.actor.0 ≡ p → Case s past e → AllNewest s past p → AllNewest s (e ∷ past) p
newest_at s past e p valid apt run lt at (NodeDoes q r d) old =
    let qp : q ≡ p = sym d.brings.at ∙ at in
    subst (λ (n : ℕ). AllNewest s past n → AllNewest s (e ∷ past) n) qp
    (does_newest s past e q r (record { valid = valid; apt = apt; run = run; does = d })) old
newest_at s past e p valid apt run lt at (NodeKeeps q r k d) old =
    let qp : q ≡ p = sym d.brings.at ∙ at in
    subst (λ (n : ℕ). AllNewest s past n → AllNewest s (e ∷ past) n) qp (keeps_newest s past e q r k d) old
newest_at s past e p valid apt run lt at (Coordinates out says) old = absurd (omega (arith, at, lt, out))
newest_at s past e p valid apt run lt at (Submits out says) old = absurd (omega (arith, at, lt, out))

pub newest_run : (s : ScriptData) (past : List Entry) (p : ℕ) → IsValid s → AllApt s past → IsStepRun s past → p < s.nodes
    → AllNewest s past p
newest_run s [] p valid apt run lt = λ l has hold. absurd (cc has)
newest_run s (e ∷ past) p valid apt run lt = by (cases_eq e.actor.0 p) (newest_run s past p valid apt.1 run.1 lt) where
  by : (e.actor.0 ≡ p) ⊎ (e.actor.0 ≢ p) → AllNewest s past p → AllNewest s (e ∷ past) p
  by (inl at) old = newest_at s past e p valid apt run lt at (case s past e run.0 apt.0) old
  by (inr ne) old = apart_newest s past e p ne old

pub newest_under_holds : NewestUnderHolds
newest_under_holds s past p l valid apt run lt has hold = newest_run s past p valid apt run lt l has hold
