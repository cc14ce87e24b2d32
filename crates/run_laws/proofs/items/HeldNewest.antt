-- In every run the versions that a node holds of an item are at most the greatest in which the item was written, or at most
-- the node's low version: so a newer version that is found is the greatest one.
use Rattle.std.proofs.Common.{◌≡◌, ◌≢◌, ◌⊎◌, inl, inr, ℕ, ◌+◌, ◌<◌, ◌≤◌, ◌==◌, ◌&&◌, max, Bool, true, false, List, [], ◌∷◌, ◌++◌, refl, sym, ap, ◌∙◌, subst, arith, Option, Some}
use Rattle.std.specs.Prelude.{if◌then◌else◌, is_some}
use Rattle.std.proofs.lemmas.Bool.{cases_eq, or_cases, or_left, or_right}
use Rattle.tv_base.proofs.Truths.{same_test}
use Rattle.tv_base.specs.declared.numbers.ItemNo.{ItemNo}
use Rattle.tv_base.specs.declared.numbers.SubNo.{SubNo}
use Rattle.tv_base.specs.declared.numbers.TreeNo.{TreeNo}
use Rattle.tv_base.specs.declared.numbers.Version.{Version}
use Rattle.letter_types.specs.declared.acts.Act.TheVariants as acts
use Rattle.letter_types.specs.declared.bodies.Body.{Body}
use Rattle.letter_types.specs.declared.bodies.Body.TheVariants.{Go, Root, Sub as SubLetter, Decide}
use Rattle.letter_types.specs.declared.entries.Entry.{Entry}
use Rattle.letter_types.specs.declared.entries.Letter.{Letter}
use Rattle.commute_ops.specs.Ops.{value_start}
use Rattle.item_versions.specs.Table.{Table, item_in}
use Rattle.item_versions.proofs.Window.{AllUpTo, up_to-more}
use Rattle.script_parts.specs.declared.parts.ItemRow.{ItemRow}
use Rattle.script_parts.specs.declared.parts.Sub.{Sub}
use Rattle.script_parts.specs.declared.parts.SubOp.{SubOp}
use Rattle.script_parts.specs.declared.parts.TreeKind.TheVariants.{Update}
use Rattle.script_parts.specs.ScriptData.{ScriptData, ops_of, subs_at, updates}
use Rattle.script_parts.specs.Valid.{IsValid}
use Rattle.world_model.specs.Asked.{asked_version}
use Rattle.world_model.specs.Core.{Core}
use Rattle.world_model.specs.Decisions.{ops_at}
use Rattle.world_model.specs.Named.{tree_kind_at}
use Rattle.world_model.specs.Node.{Node, items_at}
use Rattle.world_model.specs.Runs.{IsStepRun, keeping_in, node_in}
use Rattle.world_model.specs.Strict.{CoreKeeping, core_row}
use Rattle.world_model.proofs.Cases.{Case, Coordinates, NodeDoes, NodeKeeps, Submits, case}
use Rattle.world_model.proofs.Keepings.{of_kept}
use Rattle.world_model.proofs.Outstanding.{keeping_elsewhere}
use Rattle.board_rules.specs.Histories.{Place, places_at, version_in, version_or}
use Rattle.board_rules.specs.Stands.{newest_of, written_by}
use Rattle.board_rules.specs.Worth.{changes, ops_change, subs_change}
use Rattle.board_rules.proofs.Places.{version_stays, places_more}
use Rattle.tree_laws.proofs.conflicts.ByActs.{kind_updates}
use Rattle.advance_laws.proofs.counting.Balance.{apt_low_rises}
use Rattle.tree_laws.specs.Carried.{CarriesVersion}
use Rattle.tree_laws.specs.Dids.{asks}
use Rattle.tree_laws.proofs.decided.AptDecisions.{dated_here}
use Rattle.tree_laws.proofs.apt.AptItems.{Applies, Changes, Collects, Follows, Raises, Rests, Shows, Touches, core_changes}
use Rattle.tree_laws.proofs.stages.AptStagesOwn.{Doing}
use Rattle.tree_laws.proofs.apt.AptSteps.{enters}
use Rattle.tree_laws.proofs.apt.AptVersions.{before}
use Rattle.run_laws.proofs.items.Newest.{both}
use Rattle.run_laws.proofs.act_order.RowActs.{lasting, lasting_acts, row_lasts}
use Rattle.run_laws.proofs.each_tree.EveryApt.{all_apt}
use Rattle.run_laws.proofs.act_order.Lasts.{AsksIn, OfRoot, OfSub}
use Rattle.run_laws.proofs.act_order.Turns.{carried}
use Rattle.run_laws.proofs.items.Writes.{asked_born}
use Rattle.run_laws.proofs.items.MostHeld.{IsMost, collection_most, commit_most, ops_most}
use Rattle.run_laws.proofs.items.NewestOf.{entry_newest, written_then}
use Rattle.run_laws.proofs.worth.RightReads.{asked_row}

-- how far: a node's low version, or the greatest in which the item was written
abbrev pub bound : ScriptData → List Entry → ℕ → ℕ → ℕ
bound s past p x = max (node_in s past p).turns.low.0 (newest_of s (before past) p x)

bound_grows : (s : ScriptData) (past : List Entry) (e : Entry) (p x : ℕ) → IsValid s → IsStepRun s (e ∷ past) → p < s.nodes
    → bound s past p x ≤ bound s (e ∷ past) p x
bound_grows s past e p x valid run lt =
    omega (arith, apt_low_rises s past e p (all_apt s (e ∷ past) valid run) run lt, entry_newest s past e p x)

abbrev pub IsBound : ScriptData → List Entry → ℕ → ItemNo → Type 0
IsBound s past p x = IsMost (bound s past p x.0) (item_in x (node_in s past p).items)

more : (m n : ℕ) (x : ItemNo) (items : Table) → m ≤ n → IsMost m (item_in x items) → IsMost n (item_in x items)
more m n x items le all = λ h at. up_to-more m n h le (all h at)

-- An update writes its items in its tree's version.
asked_of : (t k : ℕ) (body : Body) → asks t k body ≡ 1 → AsksIn body (record { 0 = t }) (record { 0 = k })
asked_of t k (Root u) one =
    let same = both u.0 t 0 k one in OfRoot (λ i. Root (record { 0 = same.0 i })) (λ i. record { 0 = sym same.1 i })
asked_of t k (SubLetter u j v) one =
    let same = both u.0 t j.0 k one in OfSub v (λ i. SubLetter (record { 0 = same.0 i }) (record { 0 = same.1 i }) v)
asked_of t k Go one = absurd (cc one)
asked_of t k _ one = absurd (cc one)

value_if : (a b : Bool) (n : ℕ) → a ≡ true → b ≡ true → (if a && b then n else 0) ≡ n
value_if true true n one two = refl
value_if true false n one two = absurd (cc two)
value_if false b n one two = absurd (cc one)

update_writes : (s : ScriptData) (past : List Entry) (e : Entry) (p x : ℕ) (r : Letter) (t : TreeNo) (k : SubNo) → Doing s past e p r
    → AsksIn r.body t k → tree_kind_at s t.0 ≡ Some Update → ops_change x (ops_of s t.0 k.0) ≡ true
    → (asked_version (node_in s past p).turns.update r.body).0 ≤ newest_of s (before (e ∷ past)) p x
update_writes s past e p x r t k g asks_in of on =
    let c : Core = (keeping_in s past p).core in
    let zs : List Place = before (e ∷ past) in
    let v : Version = asked_version c.node.turns.update r.body in
    let row : lasting e.acts ≡ acts.Did t k [] ∷ [] =
    ap lasting g.does.acts ∙ row_lasts s p r.from.0 r.body c ∙ asked_row s c t k r.body (Some Update) asks_in of in
    let born : version_in t.0 zs ≡ Some v =
    ap (version_in t.0) (places_more e past)
    ∙ asked_born s (before past ++ places_at e) t k Update r.body c asks_in of refl (dated_here s past e p r g.valid g.apt.1 g.run g.does) in
    let up : updates s t.0 ≡ true = kind_updates s t.0 Update of in
    let written : written_by s zs x (e.actor.0 == p) (acts.Did t k []) ≡ v.0 =
    value_if (updates s t.0) (ops_change x (ops_of s t.0 k.0)) (version_or 0 (version_in t.0 zs)) up on ∙ ap (version_or 0) born in
    omega (arith, written, written_then s past e p x (acts.Did t k []) [] row)

-- A commit writes what its tree changes there, in the tree's version.
change_parts : (x : ℕ) (os rest : List SubOp) → ops_change x (os ++ rest) ≡ true → (ops_change x os ≡ true) ⊎ (ops_change x rest ≡ true)
change_parts x [] rest on = inr on
change_parts x (o ∷ os) rest on =
    by (λ later. change_parts x os rest later) (or_cases ((o.item.0 == x) && changes o.deed) (ops_change x (os ++ rest)) on) where
      by : (ops_change x (os ++ rest) ≡ true → (ops_change x os ≡ true) ⊎ (ops_change x rest ≡ true))
          → (((o.item.0 == x) && changes o.deed) ≡ true) ⊎ (ops_change x (os ++ rest) ≡ true)
          → (ops_change x (o ∷ os) ≡ true) ⊎ (ops_change x rest ≡ true)
      by deeper (inl here) = inl (or_left ((o.item.0 == x) && changes o.deed) (ops_change x os) here)
      by deeper (inr later) = behind (deeper later) where
        behind : (ops_change x os ≡ true) ⊎ (ops_change x rest ≡ true) → (ops_change x (o ∷ os) ≡ true) ⊎ (ops_change x rest ≡ true)
        behind (inl there) = inl (or_right ((o.item.0 == x) && changes o.deed) (ops_change x os) there)
        behind (inr there) = inr there

pub tree_changes : (x p : ℕ) (subs : List Sub) → ops_change x (ops_at p subs) ≡ true → subs_change x subs ≡ true
tree_changes x p [] on = absurd (cc on)
tree_changes x p (y ∷ subs) on = by (y.node.0 == p) (λ later. tree_changes x p subs later) on where
  one : (ops_change x (ops_at p subs) ≡ true → subs_change x subs ≡ true)
      → (ops_change x y.ops ≡ true) ⊎ (ops_change x (ops_at p subs) ≡ true) → subs_change x (y ∷ subs) ≡ true
  one rest (inl here) = or_left (ops_change x y.ops) (subs_change x subs) here
  one rest (inr later) = or_right (ops_change x y.ops) (subs_change x subs) (rest later)

  by : (test : Bool) → (ops_change x (ops_at p subs) ≡ true → subs_change x subs ≡ true)
      → ops_change x (if test then y.ops ++ ops_at p subs else ops_at p subs) ≡ true → subs_change x (y ∷ subs) ≡ true
  by true rest now = one rest (change_parts x y.ops (ops_at p subs) now)
  by false rest now = one rest (inr now)

commit_writes : (s : ScriptData) (past : List Entry) (e : Entry) (p x : ℕ) (r : Letter) (t : TreeNo) (v : Version) → Doing s past e p r
    → r.body ≡ Decide t v true → ops_change x (ops_at p (subs_at s t.0)) ≡ true → v.0 ≤ newest_of s (before (e ∷ past)) p x
commit_writes s past e p x r t v g is on =
    let c : Core = (keeping_in s past p).core in
    let zs : List Place = before (e ∷ past) in
    let row : lasting e.acts ≡ acts.Applied t true ∷ [] =
    ap lasting g.does.acts ∙ row_lasts s p r.from.0 r.body c ∙ ap (lasting_acts s c) is in
    let old : version_in t.0 (before past) ≡ Some v = subst (CarriesVersion (before past)) is (carried s past e p r g) in
    let born : version_in t.0 zs ≡ Some v =
    ap (version_in t.0) (places_more e past)
    ∙ version_stays t.0 (before past) (places_at e) (ap (λ (o : Option Version). is_some o) old) ∙ old in
    let here : (e.actor.0 == p) ≡ true = ap (λ (n : ℕ). n == p) g.does.brings.at ∙ same_test p in
    let written : written_by s zs x (e.actor.0 == p) (acts.Applied t true) ≡ v.0 =
    value_if (e.actor.0 == p) (subs_change x (subs_at s t.0)) (version_or 0 (version_in t.0 zs)) here (tree_changes x p (subs_at s t.0) on)
    ∙ ap (version_or 0) born in
    omega (arith, written, written_then s past e p x (acts.Applied t true) [] row)

-- So the row of a letter keeps to the bound.
row_bound : (s : ScriptData) (past : List Entry) (e : Entry) (p m : ℕ) (x : ItemNo) (r : Letter) (after : Core) → Doing s past e p r
    → newest_of s (before (e ∷ past)) p x.0 ≤ m → after.node.turns.low.0 ≤ m → IsMost m (item_in x (node_in s past p).items)
    → Changes s p r.body (keeping_in s past p).core after.node.items after.node.turns → IsMost m (item_in x after.node.items)
row_bound s past e p m x r after g newest low all (Rests is turns) = subst (λ (i : Table). IsMost m (item_in x i)) (sym is) all
row_bound s past e p m x r after g newest low all (Follows t k v letter is turns) = subst (λ (i : Table). IsMost m (item_in x i)) (sym is) all
row_bound s past e p m x r after g newest low all (Raises v to is turns) = subst (λ (i : Table). IsMost m (item_in x i)) (sym is) all
row_bound s past e p m x r after g newest low all (Touches t k one kind is turns) =
    let st : Node = node_in s past p in
    let v : Version = asked_version st.turns.update r.body in
    subst (λ (i : Table). IsMost m (item_in x i)) (sym is)
    (ops_most m v x (ops_of s t k) st.items
    (λ on. omega (arith, newest, update_writes s past e p x.0 r (record { 0 = t }) (record { 0 = k }) g (asked_of t k r.body one) kind on)) all)
row_bound s past e p m x r after g newest low all (Applies t v letter is turns) =
    let st : Node = node_in s past p in
    subst (λ (i : Table). IsMost m (item_in x i)) (sym is)
    (commit_most m v x (ops_at p (subs_at s t.0)) st.items
    (λ on. omega (arith, newest, commit_writes s past e p x.0 r t v g letter on)) all)
row_bound s past e p m x r after g newest low all (Shows v to is turns) = subst (λ (i : Table). IsMost m (item_in x i)) (sym is) all
row_bound s past e p m x r after g newest low all (Collects v to is turns) =
    let now : after.node.turns.low.0 ≡ v.0 = ap (λ y. y.low.0) turns in
    subst (λ (i : Table). IsMost m (item_in x i)) (sym is)
    (collection_most m v x (node_in s past p).items (omega (arith, now, low)) all)

does_bound : (s : ScriptData) (past : List Entry) (e : Entry) (p : ℕ) (x : ItemNo) (r : Letter) → Doing s past e p r → IsBound s past p x
    → IsBound s (e ∷ past) p x
does_bound s past e p x r g all =
    let c : Core = (keeping_in s past p).core in
    let after : Core = (core_row s p c r.from.0 r.body).state in
    let m : ℕ = bound s (e ∷ past) p x.0 in
    let low : after.node.turns.low.0 ≡ (node_in s (e ∷ past) p).turns.low.0 = sym (ap (λ (y : Core). y.node.turns.low.0) g.does.core) in
    let le = bound_grows s past e p x.0 g.valid g.run g.does.brings.below in
    subst (λ (y : Core). IsMost m (item_in x y.node.items)) (sym g.does.core)
    (row_bound s past e p m x r after g (omega arith) (omega (arith, low)) (more (bound s past p x.0) m x c.node.items le all)
    (core_changes s p r.from.0 r.body c))

case_bound : (s : ScriptData) (past : List Entry) (e : Entry) (p : ℕ) (x : ItemNo) → IsValid s → IsStepRun s (e ∷ past) → p < s.nodes
    → e.actor.0 ≡ p → Case s past e → IsBound s past p x → IsBound s (e ∷ past) p x
case_bound s past e p x valid run lt at (NodeDoes q r d) all =
    let apt = all_apt s (e ∷ past) valid run in
    let qp : q ≡ p = sym d.brings.at ∙ at in
    subst (λ (n : ℕ). IsBound s past n x → IsBound s (e ∷ past) n x) qp
    (does_bound s past e q x r (record { valid = valid; apt = apt; run = run; enters = enters s past e valid apt run; does = d })) all
case_bound s past e p x valid run lt at (NodeKeeps q r k d) all =
    let qp : q ≡ p = sym d.brings.at ∙ at in
    let c : Core = (keeping_in s past q).core in
    let same : k.state.node.items ≡ c.node.items =
    of_kept s c (λ (y : CoreKeeping). y.state.node.items ≡ c.node.items) r.body k (record { parks = λ t j raises v met. refl; waits = λ t. refl }) d.keeps in
    let items : (node_in s (e ∷ past) p).items ≡ (node_in s past p).items =
    subst (λ (n : ℕ). (node_in s (e ∷ past) n).items ≡ (node_in s past n).items) qp (ap (λ (y : Core). y.node.items) d.core ∙ same) in
    subst (λ (i : Table). IsMost (bound s (e ∷ past) p x.0) (item_in x i)) (sym items)
    (more (bound s past p x.0) (bound s (e ∷ past) p x.0) x (node_in s past p).items (bound_grows s past e p x.0 valid run lt) all)
case_bound s past e p x valid run lt at (Coordinates out made) all = absurd (omega (arith, at, lt, out))
case_bound s past e p x valid run lt at (Submits out says) all = absurd (omega (arith, at, lt, out))

-- At the start.
start_by : (m : ℕ) (x : ItemNo) (r : ItemRow) (rest : Table) (own : Bool) → IsMost m (item_in x rest)
    → IsMost m (if own then Some ((record { 0 = 0 }, value_start r.kind r.initial) ∷ []) else item_in x rest)
start_by m x r rest true all = λ h at.
    let same : (record { 0 = 0 }, value_start r.kind r.initial) ∷ [] ≡ h = cc at in subst (AllUpTo m) same (omega arith, tt)
start_by m x r rest false all = all

start_first : (m i : ℕ) (x : ItemNo) (r : ItemRow) (rest : Table) (test : Bool) → IsMost m (item_in x rest)
    → IsMost m (item_in x (if test then (record { 0 = i }, (record { 0 = 0 }, value_start r.kind r.initial) ∷ []) ∷ rest else rest))
start_first m i x r rest true all = start_by m x r rest (i == x.0) all
start_first m i x r rest false all = all

start_most : (m p i : ℕ) (x : ItemNo) (rows : List ItemRow) → IsMost m (item_in x (items_at p i rows))
start_most m p i x [] = λ h at. absurd (cc at)
start_most m p i x (r ∷ rows) = start_first m i x r (items_at p (i + 1) rows) (r.node.0 == p) (start_most m p (i + 1) x rows)

-- So in every run.
pub held_to_bound : (s : ScriptData) (past : List Entry) (p : ℕ) (x : ItemNo) → IsValid s → IsStepRun s past → p < s.nodes → IsBound s past p x
held_to_bound s [] p x valid run lt = start_most (bound s [] p x.0) p 0 x s.items
held_to_bound s (e ∷ past) p x valid run lt = by (cases_eq e.actor.0 p) (held_to_bound s past p x valid run.1 lt) where
  by : (e.actor.0 ≡ p) ⊎ (e.actor.0 ≢ p) → IsBound s past p x → IsBound s (e ∷ past) p x
  by (inl at) all = case_bound s past e p x valid run lt at (case s past e run.0 (all_apt s (e ∷ past) valid run).0) all
  by (inr ne) all =
      subst (λ (i : Table). IsMost (bound s (e ∷ past) p x.0) (item_in x i))
      (sym (ap (λ n. n.core.node.items) (keeping_elsewhere s past e p ne)))
      (more (bound s past p x.0) (bound s (e ∷ past) p x.0) x (node_in s past p).items (bound_grows s past e p x.0 valid run lt) all)
