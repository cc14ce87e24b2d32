-- In runs of enabled messages, of every script: a node's versions lie from its low version to two above it, those of
-- its items ascend there, and so its items have room for each version of that window.
use Rattle.std.proofs.Common.{◌≡◌, ◌≢◌, ◌⊎◌, inl, inr, ℕ, ◌+◌, ◌<◌, ◌≤◌, ◌==◌, ◌&&◌, Bool, true, false, List, ◌∷◌, refl, sym, ap, subst, ◌∙◌, arith, Option, Some, None, []}
use Rattle.std.specs.Prelude.{if◌then◌else◌, nat_lt}
use Rattle.std.proofs.lemmas.Bool.{cases_eq}
use Rattle.std.proofs.lemmas.Bool.Decides.{nat_tests}
use Rattle.tv_base.specs.declared.numbers.ItemNo.{ItemNo}
use Rattle.tv_base.specs.declared.numbers.SubNo.{SubNo}
use Rattle.tv_base.specs.declared.numbers.TreeNo.{TreeNo}
use Rattle.tv_base.specs.declared.numbers.Version.{Version}
use Rattle.commute_ops.specs.Ops.{value_start}
use Rattle.commute_ops.specs.declared.value.Value.{Value}
use Rattle.letter_types.specs.declared.bodies.Body.{Body}
use Rattle.letter_types.specs.declared.bodies.What.TheVariants as whats
use Rattle.letter_types.specs.declared.bodies.Body.TheVariants.{Go, Root, Sub as SubLetter, Turn, Sweep}
use Rattle.letter_types.specs.declared.entries.Entry.{Entry}
use Rattle.letter_types.specs.declared.entries.Letter.{Letter}
use Rattle.item_versions.proofs.Holding.{IsHeld-item_in, IsHeldTable-put_value_in, IsHeldTable-touched_in}
use Rattle.item_versions.proofs.Order.{IsHeld-collected}
use Rattle.item_versions.proofs.Window.{CanCollect-windowed, IsWindowed-collected, IsWindowed-item_in, IsWindowed-new, IsWindowedTable-put_value_in, IsWindowedTable-touched_in, has_room-windowed, in_window-high, in_window-is, in_window-low}
use Rattle.item_versions.specs.Collecting.{collected_all}
use Rattle.item_versions.specs.Table.{IsHeldTable, Table}
use Rattle.item_versions.specs.Window.{IsWindowedTable, in_window}
use Rattle.node_versions.specs.declared.turns.Turns.{Turns}
use Rattle.tx_trees.specs.ScriptData.{ScriptData, ops_of, subs_at}
use Rattle.tx_trees.specs.Valid.{IsValid}
use Rattle.tx_trees.specs.declared.parts.Deed.{Deed}
use Rattle.tx_trees.specs.declared.parts.Deed.TheVariants.{Apply, Get}
use Rattle.tx_trees.specs.declared.parts.ItemRow.{ItemRow}
use Rattle.tx_trees.specs.declared.parts.SubOp.{SubOp}
use Rattle.tx_trees.specs.declared.parts.TreeKind.{TreeKind}
use Rattle.tx_trees.specs.declared.parts.TreeKind.TheVariants.{Update, Read, Strict}
use Rattle.board_rules.specs.Stands.{overwrites}
use Rattle.world_model.specs.AllApt.{AllApt}
use Rattle.world_model.specs.Asked.{asked_ops, asked_version}
use Rattle.world_model.specs.Core.{Core}
use Rattle.world_model.specs.Decisions.{applied_in, ops_at, overwritten, overwritten_in}
use Rattle.world_model.specs.Done.{raised_if}
use Rattle.world_model.specs.Named.{is_named, is_near, is_new, is_timely, tree_kind_at}
use Rattle.world_model.specs.Node.{Node, items_at}
use Rattle.world_model.specs.Reads.{seen_in}
use Rattle.world_model.specs.Runs.{IsStepRun, keeping_in, node_in}
use Rattle.world_model.specs.Strict.{CoreKeeping, can_make_at, core_keeping, core_row, decides_near, is_born_now, is_core_apt, is_unheld, kept_by_kind, meets, parked, parked_if, root_waiting}
use Rattle.world_model.specs.Updates.{table_after_deed, table_after_ops}
use Rattle.world_model.proofs.Cases.{Case, Coordinates, NodeDoes, NodeKeeps, Submits, case}
use Rattle.world_model.proofs.Every.{node_kept}
use Rattle.tree_laws.specs.Dids.{asks}
use Rattle.tree_laws.proofs.apt.AptItems.{Applies, Changes, Collects, Follows, Raises, Rests, Shows, Touches, core_changes, raised_to}
use Rattle.tree_laws.proofs.loads.Overwriting.{HasRoom}
use Rattle.world_model.specs.Epochs.{is_core_timely}
use Rattle.world_model.proofs.Epochs.{order_timely}

-- the version that is updated and the one that is read are near, and so are those of the items, which ascend
pub record IsInWindow (items : Table) (turns : Turns) : Type 0 where
  pub update : in_window turns.low.0 turns.update.0 ≡ true
  pub read : in_window turns.low.0 turns.read.0 ≡ true
  pub held : IsHeldTable items
  pub items_near : IsWindowedTable turns.low.0 items

moved : (a b : Table) (x y : Turns) → a ≡ b → x ≡ y → IsInWindow b y → IsInWindow a x
moved a b x y ab xy win = subst (λ (z : Turns). IsInWindow a z) (sym xy) (subst (λ (z : Table). IsInWindow z y) (sym ab) win)

-- Tables: operations in a version of the window.
abbrev pub AreNear : ℕ → Table → Type 0
AreNear low items = IsHeldTable items × IsWindowedTable low items

deed_near : (low : ℕ) (v : Version) (n : ItemNo) (deed : Deed) (items : Table) → in_window low v.0 ≡ true → AreNear low items
    → AreNear low (table_after_deed v n deed items)
deed_near low v n (Apply op) items near all =
    (IsHeldTable-touched_in v n op items all.0, IsWindowedTable-touched_in low v n op items all.0 all.1 near)
deed_near low v n Get items near all = all
deed_near low v n _ items near all = all

ops_near : (low : ℕ) (v : Version) (os : List SubOp) (items : Table) → in_window low v.0 ≡ true → AreNear low items
    → AreNear low (table_after_ops v os items)
ops_near low v [] items near all = all
ops_near low v (o ∷ os) items near all =
    ops_near low v os (table_after_deed v o.item o.deed items) near (deed_near low v o.item o.deed items near all)

put_near : (low : ℕ) (v : Version) (o : SubOp) (found : Option Value) (items : Table) → in_window low v.0 ≡ true → AreNear low items
    → AreNear low (overwritten v o found items)
put_near low v o None items near all = all
put_near low v o (Some w) items near all =
    (IsHeldTable-put_value_in v o.item _ items all.0, IsWindowedTable-put_value_in low v o.item _ items all.0 all.1 near)

pub over_near : (low : ℕ) (v : Version) (o : SubOp) (items : Table) (test : Bool) → in_window low v.0 ≡ true → AreNear low items
    → AreNear low (if test then overwritten v o (seen_in v o.item items) items else items)
over_near low v o items true near all = put_near low v o (seen_in v o.item items) items near all
over_near low v o items false near all = all

commit_near : (low : ℕ) (v : Version) (os : List SubOp) (items : Table) → in_window low v.0 ≡ true → AreNear low items
    → AreNear low (applied_in v os items)
commit_near low v [] items near all = all
commit_near low v (o ∷ os) items near all =
    commit_near low v os (overwritten_in v o items) near (over_near low v o items (overwrites o.deed) near all)

-- a collection
collected_near : (low : ℕ) (f : Version) (items : Table) → low ≤ f.0 → AreNear low items → AreNear f.0 (collected_all f items)
collected_near low f [] le all = (tt, tt)
collected_near low f (e ∷ es) le all =
    let rest = collected_near low f es le (all.0.1, all.1.1) in (
      (IsHeld-collected f e.1 all.0.0, rest.0),
      (IsWindowed-collected low f e.1 le (CanCollect-windowed low f e.1 all.1.0 le) all.1.0, rest.1),
    )

-- the start
start_by : (p x : ℕ) (r : ItemRow) (rest : Table) (test : Bool) → AreNear 0 rest
    → AreNear 0 (if test then (record { 0 = x }, (record { 0 = 0 }, value_start r.kind r.initial) ∷ []) ∷ rest else rest)
start_by p x r rest true all = ((tt, all.0), (IsWindowed-new (value_start r.kind r.initial), all.1))
start_by p x r rest false all = all

start_near : (p x : ℕ) (rows : List ItemRow) → AreNear 0 (items_at p x rows)
start_near p x [] = (tt, tt)
start_near p x (r ∷ rows) = start_by p x r (items_at p (x + 1) rows) (r.node.0 == p) (start_near p (x + 1) rows)

-- Numbers.
raise_by : (items : Table) (turns : Turns) (v : ℕ) (test : Bool) → nat_lt turns.update.0 v ≡ test → v ≤ turns.low.0 + 2
    → IsInWindow items turns → IsInWindow items (raised_if test v turns)
raise_by items turns v true is most win =
    let above : turns.update.0 < v = grind (arith, nat_tests) in
    record {
      update = in_window-is turns.low.0 v (omega (arith, above, in_window-low turns.low.0 turns.update.0 win.update)) most;
      read = win.read;
      held = win.held;
      items_near = win.items_near;
    }
raise_by items turns v false is most win = win

raise_near : (items : Table) (turns : Turns) (v : Version) → v.0 ≤ turns.low.0 + 2 → IsInWindow items turns
    → IsInWindow items (raised_to v turns)
raise_near items turns v most win = raise_by items turns v.0 (nat_lt turns.update.0 v.0) refl most win

-- what a timely letter says of the version that it raises to
follow_timely : (s : ScriptData) (c : Core) (body : Body) (t : TreeNo) (k : SubNo) (v : Version) → body ≡ SubLetter t k v
    → is_core_timely s c body ≡ true → v.0 ≤ c.node.turns.low.0 + 2
follow_timely s c body t k v is timely = in_window-high c.node.turns.low.0 v.0 (ap (is_core_timely s c) (sym is) ∙ timely)

turn_timely : (s : ScriptData) (st : Node) (v : Version) → is_timely s st (Turn v) ≡ true → v.0 ≤ st.turns.low.0 + 2
turn_timely s st v timely = grind (arith, nat_tests)

-- and in which it asks for a subtransaction
asked_near : (s : ScriptData) (c : Core) (t k : ℕ) (body : Body) → asks t k body ≡ 1 → is_core_timely s c body ≡ true
    → in_window c.node.turns.low.0 c.node.turns.update.0 ≡ true
    → in_window c.node.turns.low.0 (asked_version c.node.turns.update body).0 ≡ true
asked_near s c t k (Root u) one timely near = near
asked_near s c t k (SubLetter u j w) one timely near = timely
asked_near s c t k Go one timely near = absurd (cc one)
asked_near s c t k _ one timely near = absurd (cc one)

-- a version that is swept to
record SweepsTo (v : ℕ) (turns : Turns) : Type 0 where
  low : turns.low.0 ≤ v
  read : v ≤ turns.read.0
  update : v ≤ turns.update.0

sweep_timely : (s : ScriptData) (st : Node) (v : Version) → is_timely s st (Sweep v) ≡ true → SweepsTo v.0 st.turns
sweep_timely s st v timely = record {
  low = grind (arith, nat_tests);
  read = grind (arith, nat_tests);
  update = grind (arith, nat_tests);
}

sweep_near : (items : Table) (turns : Turns) (v : Version) → SweepsTo v.0 turns → IsInWindow items turns
    → IsInWindow (collected_all v items) (record turns { low = v })
sweep_near items turns v to win =
    let all = collected_near turns.low.0 v items to.low (win.held, win.items_near) in
    record {
      update = in_window-is v.0 turns.update.0 to.update
          (omega (arith, to.low, in_window-high turns.low.0 turns.update.0 win.update));
      read = in_window-is v.0 turns.read.0 to.read (omega (arith, to.low, in_window-high turns.low.0 turns.read.0 win.read));
      held = all.0;
      items_near = all.1;
    }

-- A row.
abbrev IsNodeInWindow : Node → Type 0
IsNodeInWindow st = IsInWindow st.items st.turns

by_change : (s : ScriptData) (p : ℕ) (body : Body) (c : Core) (items : Table) (turns : Turns) → is_core_timely s c body ≡ true
    → Changes s p body c items turns → IsNodeInWindow c.node → IsInWindow items turns
by_change s p body c items turns timely (Rests is same) win = moved items c.node.items turns c.node.turns is same win
by_change s p body c items turns timely (Follows t k v letter is same) win =
    let most = follow_timely s c body t k v letter timely in
    moved items c.node.items turns (raised_to v c.node.turns) is same (raise_near c.node.items c.node.turns v most win)
by_change s p body c items turns timely (Raises v to is same) win =
    let most = turn_timely s c.node v (order_timely s c body whats.Turn v to timely) in
    moved items c.node.items turns (raised_to v c.node.turns) is same (raise_near c.node.items c.node.turns v most win)
by_change s p body c items turns timely (Touches t k one kind is same) win =
    let v : Version = asked_version c.node.turns.update body in
    let low : ℕ = c.node.turns.low.0 in
    let near = asked_near s c t k body one timely win.update in
    let all = ops_near low v (ops_of s t k) c.node.items near (win.held, win.items_near) in
    let now : Table = table_after_ops v (ops_of s t k) c.node.items in
    moved items now turns (raised_to v c.node.turns) is same
    (raise_near now c.node.turns v (in_window-high low v.0 near)
    (record { update = win.update; read = win.read; held = all.0; items_near = all.1 }))
by_change s p body c items turns timely (Applies t v letter is same) win =
    let low : ℕ = c.node.turns.low.0 in
    let near : in_window low v.0 ≡ true = ap (is_core_timely s c) (sym letter) ∙ timely in
    let all = commit_near low v (ops_at p (subs_at s t.0)) c.node.items near (win.held, win.items_near) in
    moved items (applied_in v (ops_at p (subs_at s t.0)) c.node.items) turns c.node.turns is same
    (record { update = win.update; read = win.read; held = all.0; items_near = all.1 })
by_change s p body c items turns timely (Shows v to is same) win =
    let near : in_window c.node.turns.low.0 v.0 ≡ true = order_timely s c body whats.Show v to timely in
    moved items c.node.items turns (record c.node.turns { read = v }) is same
    (record { update = win.update; read = near; held = win.held; items_near = win.items_near })
by_change s p body c items turns timely (Collects v to is same) win =
    moved items (collected_all v c.node.items) turns (record c.node.turns { low = v }) is same
    (sweep_near c.node.items c.node.turns v (sweep_timely s c.node v (order_timely s c body whats.Sweep v to timely)) win)

-- A letter that is kept.
parked_near : (c : Core) (t : TreeNo) (k : SubNo) (raises : Bool) (v : Version) (found : _) (kept : CoreKeeping)
    → IsInWindow c.node.items (raised_if raises v.0 c.node.turns) → parked_if t k raises v found c ≡ Some kept
    → IsNodeInWindow kept.state.node
parked_near c t k raises v None kept win is = absurd (cc is)
parked_near c t k raises v (Some m) kept win is =
    let same : parked t k raises v m c ≡ kept = cc is in subst (λ (x : CoreKeeping). IsNodeInWindow x.state.node) same win

waits_near : (c : Core) (t : TreeNo) (born : Bool) (kept : CoreKeeping) → IsNodeInWindow c.node
    → (if born then None else Some (root_waiting t c)) ≡ Some kept → IsNodeInWindow kept.state.node
waits_near c t true kept win is = absurd (cc is)
waits_near c t false kept win is =
    let same : root_waiting t c ≡ kept = cc is in subst (λ (x : CoreKeeping). IsNodeInWindow x.state.node) same win

kept_root : (s : ScriptData) (c : Core) (t : TreeNo) (kind : Option TreeKind) (kept : CoreKeeping) → IsNodeInWindow c.node
    → kept_by_kind s c t (Root t) kind ≡ Some kept → IsNodeInWindow kept.state.node
kept_root s c t (Some Update) kept win is =
    parked_near c t (record { 0 = 0 }) false c.node.turns.update (meets s t (asked_ops s (Root t)) c) kept win is
kept_root s c t (Some Strict) kept win is = waits_near c t (is_born_now c.node) kept win is
kept_root s c t (Some Read) kept win is = absurd (cc is)
kept_root s c t None kept win is = absurd (cc is)

kept_sub : (s : ScriptData) (c : Core) (t : TreeNo) (k : SubNo) (v : Version) (kind : Option TreeKind) (kept : CoreKeeping)
    → v.0 ≤ c.node.turns.low.0 + 2 → IsNodeInWindow c.node → kept_by_kind s c t (SubLetter t k v) kind ≡ Some kept
    → IsNodeInWindow kept.state.node
kept_sub s c t k v (Some Update) kept most win is =
    parked_near c t k (nat_lt c.node.turns.update.0 v.0) v (meets s t (asked_ops s (SubLetter t k v)) c) kept
    (raise_near c.node.items c.node.turns v most win) is
kept_sub s c t k v (Some Strict) kept most win is = absurd (cc is)
kept_sub s c t k v (Some Read) kept most win is = absurd (cc is)
kept_sub s c t k v None kept most win is = absurd (cc is)

kept_near : (s : ScriptData) (c : Core) (body : Body) (kept : CoreKeeping) → is_core_timely s c body ≡ true → IsNodeInWindow c.node
    → core_keeping s c body ≡ Some kept → IsNodeInWindow kept.state.node
kept_near s c (Root t) kept timely win is = kept_root s c t (tree_kind_at s t.0) kept win is
kept_near s c (SubLetter t k v) kept timely win is =
    kept_sub s c t k v (tree_kind_at s t.0) kept (in_window-high c.node.turns.low.0 v.0 timely) win is
kept_near s c _ kept timely win is = absurd (cc is)

-- Runs. An apt letter is timely.
timely_of : (a b c d e f g : Bool) → (a && (b && (c && d && (e && f && g)))) ≡ true → e ≡ true
timely_of a b c d e f g is = grind arith

pub apt_timely : (s : ScriptData) (p : ℕ) (c : Core) (l : Letter) → is_core_apt s p c l ≡ true → is_core_timely s c l.body ≡ true
apt_timely s p c l apt =
    timely_of _ (is_named s p l.from.0 l.body) (is_new s c.node l.body) (is_unheld l.body c.holds) (is_core_timely s c l.body)
    (decides_near s c.node l.body) (can_make_at s p c l.body) apt

at_node : (s : ScriptData) (past : List Entry) (e : Entry) (p : ℕ) → e.actor.0 ≡ p → p < s.nodes → Case s past e
    → IsNodeInWindow (node_in s past p) → IsNodeInWindow (node_in s (e ∷ past) p)
at_node s past e p at lt (NodeDoes q r d) win =
    let qp : q ≡ p = sym d.brings.at ∙ at in
    let here : IsNodeInWindow (node_in s past q) = subst (λ (n : ℕ). IsNodeInWindow (node_in s past n)) (sym qp) win in
    let c : Core = (keeping_in s past q).core in
    let now : Node = (core_row s q c r.from.0 r.body).state.node in
    subst (λ (n : ℕ). IsNodeInWindow (node_in s (e ∷ past) n)) qp
    (subst (λ (x : Core). IsNodeInWindow x.node) (sym d.core)
    (by_change s q r.body c now.items now.turns (apt_timely s q c r d.brings.apt) (core_changes s q r.from.0 r.body c) here))
at_node s past e p at lt (NodeKeeps q r k d) win =
    let qp : q ≡ p = sym d.brings.at ∙ at in
    let here : IsNodeInWindow (node_in s past q) = subst (λ (n : ℕ). IsNodeInWindow (node_in s past n)) (sym qp) win in
    let c : Core = (keeping_in s past q).core in
    subst (λ (n : ℕ). IsNodeInWindow (node_in s (e ∷ past) n)) qp
    (subst (λ (x : Core). IsNodeInWindow x.node) (sym d.core) (kept_near s c r.body k (apt_timely s q c r d.brings.apt) here d.keeps))
at_node s past e p at lt (Coordinates out says) win = absurd (omega (arith, at, lt, out))
at_node s past e p at lt (Submits out says) win = absurd (omega (arith, at, lt, out))

window_by : (s : ScriptData) (past : List Entry) (e : Entry) (p : ℕ) → p < s.nodes → Case s past e → IsNodeInWindow (node_in s past p)
    → (e.actor.0 ≡ p) ⊎ (e.actor.0 ≢ p) → IsNodeInWindow (node_in s (e ∷ past) p)
window_by s past e p lt c win (inl at) = at_node s past e p at lt c win
window_by s past e p lt c win (inr ne) = subst (λ (st : Node). IsNodeInWindow st) (sym (node_kept s past e p ne)) win

pub nodes_in_window : (s : ScriptData) (past : List Entry) (p : ℕ) → IsValid s → AllApt s past → IsStepRun s past → p < s.nodes
    → IsInWindow (node_in s past p).items (node_in s past p).turns
nodes_in_window s [] p valid apt run lt =
    let all = start_near p 0 s.items in record { update = refl; read = refl; held = all.0; items_near = all.1 }
nodes_in_window s (e ∷ past) p valid apt run lt =
    window_by s past e p lt (case s past e run.0 apt.0) (nodes_in_window s past p valid apt.1 run.1 lt) (cases_eq e.actor.0 p)

-- so each item's versions lie in the window of its node
pub tables_in_window : (s : ScriptData) (past : List Entry) (p : ℕ) → IsValid s → AllApt s past → IsStepRun s past → p < s.nodes
    → IsWindowedTable (node_in s past p).turns.low.0 (node_in s past p).items
tables_in_window s past p valid apt run lt = (nodes_in_window s past p valid apt run lt).items_near

-- and ascend
pub tables_ascend : (s : ScriptData) (past : List Entry) (p : ℕ) → IsValid s → AllApt s past → IsStepRun s past → p < s.nodes
    → IsHeldTable (node_in s past p).items
tables_ascend s past p valid apt run lt = (nodes_in_window s past p valid apt run lt).held

-- and each item has room for each version that is near
pub near_has_room : (s : ScriptData) (past : List Entry) (p : ℕ) (v : Version) → IsValid s → AllApt s past → IsStepRun s past → p < s.nodes
    → is_near (node_in s past p) v ≡ true → HasRoom v (node_in s past p).items
near_has_room s past p v valid apt run lt near n h at =
    let st : Node = node_in s past p in
    let win = nodes_in_window s past p valid apt run lt in
    has_room-windowed st.turns.low.0 v h (IsHeld-item_in n st.items h at win.held)
    (IsWindowed-item_in st.turns.low.0 n st.items h at win.items_near) near
