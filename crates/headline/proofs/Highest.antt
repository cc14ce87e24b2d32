-- In every run of every valid script a node holds nothing of its items above the version that it updates.
use Rattle.std.proofs.Common.{◌≡◌, ◌≢◌, ◌⊎◌, inl, inr, ℕ, ◌+◌, ◌<◌, ◌≤◌, ◌==◌, Bool, true, false, List, [], ◌∷◌, refl, sym, ap, subst, ◌∙◌, arith, Option, Some, None}
use Rattle.std.specs.Prelude.{if◌then◌else◌}
use Rattle.std.proofs.lemmas.Bool.{cases_eq}
use Rattle.std.proofs.lemmas.Bool.Decides.{nat_tests}
use Rattle.tv_base.specs.declared.numbers.ItemNo.{ItemNo}
use Rattle.tv_base.specs.declared.numbers.Version.{Version}
use Rattle.commute_ops.specs.declared.kinds.Op.{Op}
use Rattle.commute_ops.specs.declared.value.Value.{Value}
use Rattle.item_versions.specs.Collecting.{collected_all}
use Rattle.item_versions.specs.Item.{Held, put_value, touched}
use Rattle.item_versions.specs.Table.{Table, item_in, updated, valued}
use Rattle.item_versions.proofs.Tables.{Each, each-item, each-replaced}
use Rattle.item_versions.proofs.Window.{AllUpTo, up_to-more}
use Rattle.letter_types.specs.declared.bodies.Body.{Body}
use Rattle.letter_types.specs.declared.bodies.Body.TheVariants.{Decide, Sweep}
use Rattle.letter_types.specs.declared.bodies.What.TheVariants as whats
use Rattle.letter_types.specs.declared.entries.Entry.{Entry}
use Rattle.node_versions.specs.declared.turns.Turns.{Turns}
use Rattle.tx_trees.specs.ScriptData.{ScriptData, ops_of, subs_at}
use Rattle.tx_trees.specs.Valid.{IsValid}
use Rattle.tx_trees.specs.declared.parts.Deed.{Deed}
use Rattle.tx_trees.specs.declared.parts.Deed.TheVariants.{Apply, Get}
use Rattle.tx_trees.specs.declared.parts.ItemRow.{ItemRow}
use Rattle.tx_trees.specs.declared.parts.SubOp.{SubOp}
use Rattle.tv_base.specs.declared.numbers.TreeNo.{TreeNo}
use Rattle.board_rules.specs.Stands.{overwrites}
use Rattle.world_model.specs.Asked.{asked_version}
use Rattle.world_model.specs.Core.{Core}
use Rattle.world_model.specs.Decisions.{applied_in, ops_at, overwritten, overwritten_in}
use Rattle.world_model.specs.Epochs.{is_core_timely}
use Rattle.world_model.specs.Named.{is_timely}
use Rattle.world_model.specs.Node.{Node, items_at}
use Rattle.world_model.specs.Reads.{seen_in}
use Rattle.world_model.specs.Runs.{IsStepRun, keeping_in, node_in}
use Rattle.world_model.specs.Strict.{core_row}
use Rattle.world_model.specs.Updates.{table_after_deed, table_after_ops}
use Rattle.world_model.proofs.Cases.{Case, Coordinates, NodeDoes, NodeKeeps, Submits, case}
use Rattle.world_model.proofs.Epochs.{order_timely}
use Rattle.world_model.proofs.Every.{node_kept}
use Rattle.world_model.proofs.KeptThere.{IsCoreKeeping, OfKeeping, core_keeps}
use Rattle.tree_laws.proofs.apt.AptItems.{Applies, Changes, Collects, Follows, Raises, Rests, Shows, Touches, core_changes, raised_to}
use Rattle.tree_laws.proofs.apt.AptWindows.{apt_timely}
use Rattle.run_laws.proofs.each_tree.EveryApt.{all_apt}
use Rattle.run_laws.proofs.keeping.KeptWhy.{keeps_rises}
use Rattle.run_laws.proofs.items.HeldItems.{collected_most}
use Rattle.run_laws.proofs.items.MostHeld.{put_most, touched_most}
use Rattle.headline.proofs.Voters.{commits_below, raises}

-- A table.
abbrev pub AreUpTo : ℕ → Table → Type 0
AreUpTo m items = Each (AllUpTo m) items

more : (m n : ℕ) (items : Table) → m ≤ n → AreUpTo m items → AreUpTo n items
more m n [] le all = tt
more m n (e ∷ es) le all = (up_to-more m n e.1 le all.0, more m n es le all.1)

updated_most : (m : ℕ) (v : Version) (n : ItemNo) (op : Op) (items : Table) (found : Option Held) → v.0 ≤ m → AreUpTo m items
    → item_in n items ≡ found → AreUpTo m (updated v op found n items)
updated_most m v n op items None le all here = all
updated_most m v n op items (Some h) le all here =
    each-replaced (AllUpTo m) n (touched v op h) items (touched_most m v op h le (each-item (AllUpTo m) n items h here all)) all

valued_most : (m : ℕ) (v : Version) (n : ItemNo) (w : Value) (items : Table) (found : Option Held) → v.0 ≤ m → AreUpTo m items
    → item_in n items ≡ found → AreUpTo m (valued v w found n items)
valued_most m v n w items None le all here = all
valued_most m v n w items (Some h) le all here =
    each-replaced (AllUpTo m) n (put_value v w h) items (put_most m v w h le (each-item (AllUpTo m) n items h here all)) all

deed_most : (m : ℕ) (v : Version) (n : ItemNo) (deed : Deed) (items : Table) → v.0 ≤ m → AreUpTo m items
    → AreUpTo m (table_after_deed v n deed items)
deed_most m v n (Apply op) items le all = updated_most m v n op items (item_in n items) le all refl
deed_most m v n Get items le all = all
deed_most m v n _ items le all = all

ops_most : (m : ℕ) (v : Version) (os : List SubOp) (items : Table) → v.0 ≤ m → AreUpTo m items → AreUpTo m (table_after_ops v os items)
ops_most m v [] items le all = all
ops_most m v (o ∷ os) items le all =
    ops_most m v os (table_after_deed v o.item o.deed items) le (deed_most m v o.item o.deed items le all)

over_most : (m : ℕ) (v : Version) (o : SubOp) (found : Option Value) (items : Table) → v.0 ≤ m → AreUpTo m items
    → AreUpTo m (overwritten v o found items)
over_most m v o None items le all = all
over_most m v o (Some w) items le all = valued_most m v o.item _ items (item_in o.item items) le all refl

over_in_most : (m : ℕ) (v : Version) (o : SubOp) (items : Table) (test : Bool) → v.0 ≤ m → AreUpTo m items
    → AreUpTo m (if test then overwritten v o (seen_in v o.item items) items else items)
over_in_most m v o items true le all = over_most m v o (seen_in v o.item items) items le all
over_in_most m v o items false le all = all

commit_most : (m : ℕ) (v : Version) (os : List SubOp) (items : Table) → v.0 ≤ m → AreUpTo m items → AreUpTo m (applied_in v os items)
commit_most m v [] items le all = all
commit_most m v (o ∷ os) items le all =
    commit_most m v os (overwritten_in v o items) le (over_in_most m v o items (overwrites o.deed) le all)

sweep_most : (m : ℕ) (f : Version) (items : Table) → f.0 ≤ m → AreUpTo m items → AreUpTo m (collected_all f items)
sweep_most m f [] le all = tt
sweep_most m f (e ∷ es) le all = (collected_most m f e.1 le all.0, sweep_most m f es le all.1)

start_by : (p x : ℕ) (r : ItemRow) (rows : List ItemRow) (test : Bool) → (r.node.0 == p) ≡ test → AreUpTo 1 (items_at p (x + 1) rows)
    → AreUpTo 1 (items_at p x (r ∷ rows))
start_by p x r rows true is rest = rw is ((omega arith, tt), rest)
start_by p x r rows false is rest = rw is rest

start_most : (p x : ℕ) (rows : List ItemRow) → AreUpTo 1 (items_at p x rows)
start_most p x [] = tt
start_most p x (r ∷ rows) = start_by p x r rows (r.node.0 == p) refl (start_most p (x + 1) rows)

-- A node.
abbrev pub IsUpToDate : Table → Turns → Type 0
IsUpToDate items turns = AreUpTo turns.update.0 items

moved : (a b : Table) (x y : Turns) → a ≡ b → x ≡ y → IsUpToDate b y → IsUpToDate a x
moved a b x y ab xy all = subst (λ (z : Turns). IsUpToDate a z) (sym xy) (subst (λ (z : Table). IsUpToDate z y) (sym ab) all)

sweeps : (s : ScriptData) (st : Node) (v : Version) → is_timely s st (Sweep v) ≡ true → v.0 ≤ st.turns.update.0
sweeps s st v timely = grind (arith, nat_tests)

by_change : (s : ScriptData) (p : ℕ) (body : Body) (c : Core) (items : Table) (turns : Turns) → is_core_timely s c body ≡ true
    → ((t : TreeNo) (v : Version) → body ≡ Decide t v true → v.0 ≤ c.node.turns.update.0) → Changes s p body c items turns
    → IsUpToDate c.node.items c.node.turns → IsUpToDate items turns
by_change s p body c items turns timely commit (Rests is same) all = moved items c.node.items turns c.node.turns is same all
by_change s p body c items turns timely commit (Follows t k v letter is same) all =
    moved items c.node.items turns (raised_to v c.node.turns) is same
    (more c.node.turns.update.0 (raised_to v c.node.turns).update.0 c.node.items (raises c.node.turns v).0 all)
by_change s p body c items turns timely commit (Raises v to is same) all =
    moved items c.node.items turns (raised_to v c.node.turns) is same
    (more c.node.turns.update.0 (raised_to v c.node.turns).update.0 c.node.items (raises c.node.turns v).0 all)
by_change s p body c items turns timely commit (Touches t k one kind is same) all =
    let v : Version = asked_version c.node.turns.update body in
    let up : Turns = raised_to v c.node.turns in
    moved items (table_after_ops v (ops_of s t k) c.node.items) turns up is same
    (ops_most up.update.0 v (ops_of s t k) c.node.items (raises c.node.turns v).1 (more c.node.turns.update.0 up.update.0 c.node.items (raises c.node.turns v).0 all))
by_change s p body c items turns timely commit (Applies t v letter is same) all =
    moved items (applied_in v (ops_at p (subs_at s t.0)) c.node.items) turns c.node.turns is same
    (commit_most c.node.turns.update.0 v (ops_at p (subs_at s t.0)) c.node.items (commit t v letter) all)
by_change s p body c items turns timely commit (Shows v to is same) all =
    moved items c.node.items turns (record c.node.turns { read = v }) is same all
by_change s p body c items turns timely commit (Collects v to is same) all =
    moved items (collected_all v c.node.items) turns (record c.node.turns { low = v }) is same
    (sweep_most c.node.turns.update.0 v c.node.items (sweeps s c.node v (order_timely s c body whats.Sweep v to timely)) all)

-- In a run.
abbrev IsNodeUpToDate : Node → Type 0
IsNodeUpToDate st = IsUpToDate st.items st.turns

at_node : (s : ScriptData) (past : List Entry) (e : Entry) (p : ℕ) → IsValid s → IsStepRun s (e ∷ past) → e.actor.0 ≡ p → p < s.nodes
    → Case s past e → IsNodeUpToDate (node_in s past p) → IsNodeUpToDate (node_in s (e ∷ past) p)
at_node s past e p valid run at lt (NodeDoes q r d) all =
    let qp : q ≡ p = sym d.brings.at ∙ at in
    let here : IsNodeUpToDate (node_in s past q) = subst (λ (n : ℕ). IsNodeUpToDate (node_in s past n)) (sym qp) all in
    let c : Core = (keeping_in s past q).core in
    let now : Node = (core_row s q c r.from.0 r.body).state.node in
    subst (λ (n : ℕ). IsNodeUpToDate (node_in s (e ∷ past) n)) qp
    (subst (λ (x : Core). IsNodeUpToDate x.node) (sym d.core)
    (by_change s q r.body c now.items now.turns (apt_timely s q c r d.brings.apt)
    (λ t v is. commits_below s past e q r t v valid run d is) (core_changes s q r.from.0 r.body c) here))
at_node s past e p valid run at lt (NodeKeeps q r k d) all =
    let qp : q ≡ p = sym d.brings.at ∙ at in
    let here : IsNodeUpToDate (node_in s past q) = subst (λ (n : ℕ). IsNodeUpToDate (node_in s past n)) (sym qp) all in
    let c : Core = (keeping_in s past q).core in
    let so : IsCoreKeeping c r.body k = subst (OfKeeping (IsCoreKeeping c r.body)) d.keeps (core_keeps s c r.body) in
    let items : (node_in s (e ∷ past) q).items ≡ (node_in s past q).items = ap (λ (x : Core). x.node.items) (d.core ∙ so.turns_alone) in
    let up : Turns = (node_in s (e ∷ past) q).turns in
    subst (λ (n : ℕ). IsNodeUpToDate (node_in s (e ∷ past) n)) qp
    (moved (node_in s (e ∷ past) q).items (node_in s past q).items up up items refl
    (more (node_in s past q).turns.update.0 up.update.0 (node_in s past q).items (keeps_rises s past e q r k d).update here))
at_node s past e p valid run at lt (Coordinates out made) all = absurd (omega (arith, at, lt, out))
at_node s past e p valid run at lt (Submits out says) all = absurd (omega (arith, at, lt, out))

-- in every run
pub highest_run : (s : ScriptData) (past : List Entry) (p : ℕ) → IsValid s → IsStepRun s past → p < s.nodes
    → IsUpToDate (node_in s past p).items (node_in s past p).turns
highest_run s [] p valid run lt = start_most p 0 s.items
highest_run s (e ∷ past) p valid run lt = by (highest_run s past p valid run.1 lt) (cases_eq e.actor.0 p) where
  by : IsNodeUpToDate (node_in s past p) → (e.actor.0 ≡ p) ⊎ (e.actor.0 ≢ p) → IsNodeUpToDate (node_in s (e ∷ past) p)
  by all (inl at) = at_node s past e p valid run at lt (case s past e run.0 (all_apt s (e ∷ past) valid run).0) all
  by all (inr ne) = subst (λ (st : Node). IsNodeUpToDate st) (sym (node_kept s past e p ne)) all
