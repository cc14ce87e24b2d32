-- In runs of enabled messages, of every script: each node's items keep to what took effect on them.
use Rattle.std.proofs.Common.{◌≡◌, ◌≢◌, ◌⊎◌, inl, inr, ℕ, ◌+◌, ◌<◌, ◌≤◌, ◌==◌, ◌&&◌, Bool, true, false, List, [], ◌∷◌, refl, sym, ap, subst, ◌∙◌, arith, Some}
use Rattle.std.specs.Prelude.{slice_get}
use Rattle.std.specs.List.{AllByRecursion}
use Rattle.std.proofs.lemmas.Bool.{cases_eq}
use Rattle.std.proofs.lemmas.Bool.Decides.{nat_tests}
use Rattle.tv_base.proofs.Truths.{left_true}
use Rattle.tv_base.specs.declared.numbers.TreeNo.{TreeNo}
use Rattle.tv_base.specs.declared.numbers.Version.{Version}
use Rattle.letter_types.specs.declared.acts.Act.{Act}
use Rattle.letter_types.specs.declared.bodies.Body.{Body}
use Rattle.letter_types.specs.declared.bodies.Body.TheVariants.{Go, Root, Sub as SubLetter, Decide}
use Rattle.letter_types.specs.declared.entries.Entry.{Entry}
use Rattle.letter_types.specs.declared.entries.Letter.{Letter}
use Rattle.item_versions.specs.Table.{Table}
use Rattle.node_versions.specs.declared.turns.Turns.{Turns}
use Rattle.tx_trees.specs.ScriptData.{ScriptData, node_of, ops_of, sub_at, subs_at}
use Rattle.tx_trees.specs.Valid.{IsOp, IsValid, initial_load}
use Rattle.tx_trees.specs.declared.parts.Sub.{Sub}
use Rattle.tx_trees.specs.declared.parts.TreeKind.TheVariants as trees
use Rattle.world_model.specs.AllApt.{AllApt}
use Rattle.world_model.specs.Asked.{asked_version}
use Rattle.world_model.specs.Core.{Core}
use Rattle.world_model.specs.Counts.{one_if, tally}
use Rattle.world_model.specs.Decisions.{applied_in, ops_at}
use Rattle.world_model.specs.Named.{is_named, is_strict_at, tree_kind_at}
use Rattle.world_model.specs.Node.{Node}
use Rattle.world_model.specs.Runs.{IsStepRun, keeping_in, node_in}
use Rattle.world_model.specs.Strict.{CoreKeeping, core_row}
use Rattle.world_model.specs.Updates.{table_after_ops}
use Rattle.world_model.proofs.Cases.{Case, Coordinates, Does, Keeps, NodeDoes, NodeKeeps, Submits, case, apt_named}
use Rattle.world_model.proofs.Every.{node_kept}
use Rattle.world_model.proofs.Keepings.{of_kept}
use Rattle.world_model.proofs.Scripts.{SubAt}
use Rattle.tree_laws.specs.Applied.{applies_as}
use Rattle.tree_laws.specs.Dids.{asks}
use Rattle.tree_laws.specs.Effects.{effects}
use Rattle.tree_laws.specs.Turns.{has_turn}
use Rattle.tree_laws.proofs.apt.AptItems.{Applies, Changes, Collects, Follows, Raises, Rests, Shows, Touches, core_changes}
use Rattle.tree_laws.proofs.stages.AptStagesOwn.{sub_of_node}
use Rattle.tree_laws.proofs.apt.AptTurns.{core_turns}
use Rattle.tree_laws.proofs.loads.Counts.{one_load_more}
use Rattle.tree_laws.proofs.loads.Loads.{trees_done}
use Rattle.tree_laws.proofs.loads.NodeLoads.{StrictTree, kind_here, node_load_more, node_ops_fit, ops_fit_kind, plain_kind, strict_there, trees_less}
use Rattle.tree_laws.proofs.loads.Overwriting.{decided_table}
use Rattle.tree_laws.proofs.loads.Tables.{TableIn, bounds_after, collected_table, ops_table, start_table, table_more}

-- an item's initial value and what took effect on it
abbrev pub effect_bound : ScriptData → List Entry → ℕ → ℕ
effect_bound s past x = initial_load (slice_get s.items x) + trees_done (effects s past) x 0 s.trees

-- What takes effect stays.
grows_by : (s : ScriptData) (past : List Entry) (e : Entry) (t k : ℕ) (test : Bool) → is_strict_at s t ≡ test
    → effects s past t k ≤ effects s (e ∷ past) t k
grows_by s past e t k true is = rw is (omega arith)
grows_by s past e t k false is = rw is (omega arith)

pub effects_grow : (s : ScriptData) (past : List Entry) (e : Entry) (t k : ℕ) → effects s past t k ≤ effects s (e ∷ past) t k
effects_grow s past e t k = grows_by s past e t k (is_strict_at s t) refl

-- the turn of a subtransaction of a tree that isn't strict
turn_counts : (s : ScriptData) (past : List Entry) (e : Entry) (t k : ℕ) → is_strict_at s t ≡ false → tally (has_turn t k) e.acts ≡ 1
    → 1 + effects s past t k ≤ effects s (e ∷ past) t k
turn_counts s past e t k plain one = rw plain (omega (arith, one))

turn_more_by : (s : ScriptData) (past : List Entry) (e : Entry) (t k u i : ℕ) (test : Bool) → 1 + effects s past t k ≤ effects s (e ∷ past) t k
    → ((t == u) && (k == i)) ≡ test → one_if test + effects s past u i ≤ effects s (e ∷ past) u i
turn_more_by s past e t k u i true one is =
    let tu : t ≡ u = grind (arith, nat_tests) in
    let ki : k ≡ i = grind (arith, nat_tests) in
    subst (λ (j : ℕ). 1 + effects s past u j ≤ effects s (e ∷ past) u j) ki
    (subst (λ (w : ℕ). 1 + effects s past w k ≤ effects s (e ∷ past) w k) tu one)
turn_more_by s past e t k u i false one is = omega (arith, effects_grow s past e u i)

-- a commit that is applied at the node of a subtransaction
commit_counts : (s : ScriptData) (past : List Entry) (e : Entry) (p t j : ℕ) (sub : Sub) (test : Bool) → is_strict_at s t ≡ true
    → e.actor.0 ≡ p → tally (applies_as t true) e.acts ≡ 1 → slice_get (subs_at s t) j ≡ Some sub → (sub.node.0 == p) ≡ test
    → effects s past t j + one_if test ≤ effects s (e ∷ past) t j
commit_counts s past e p t j sub true strict at one there is =
    let node : node_of s t j ≡ sub.node.0 = rw (there, sub_at, node_of) refl in
    let here : (e.actor.0 == node_of s t j) ≡ true = grind (arith, nat_tests) in
    rw strict (rw here (omega (arith, one)))
commit_counts s past e p t j sub false strict at one there is = omega (arith, effects_grow s past e t j)

-- Tables.
abbrev InBounds : ScriptData → List Entry → ℕ → Table → Type 0
InBounds s past p items = TableIn s.items p (effect_bound s past) items

grown : (s : ScriptData) (past : List Entry) (e : Entry) (p : ℕ) (items : Table) → InBounds s past p items → InBounds s (e ∷ past) p items
grown s past e p items all =
    table_more s.items p (effect_bound s past) (effect_bound s (e ∷ past)) items
    (λ x r at. omega (arith, trees_less (effects s past) (effects s (e ∷ past)) x 0 s.trees (effects_grow s past e))) all

-- a letter that asks for a subtransaction belongs to its node
pub asked_node : (s : ScriptData) (p from t k : ℕ) (body : Body) → asks t k body ≡ 1 → is_named s p from body ≡ true → node_of s t k ≡ p
asked_node s p from t k (Root u) one named = grind (arith, nat_tests)
asked_node s p from t k (SubLetter u j v) one named = grind (arith, nat_tests)
asked_node s p from t k Go one named = absurd (cc one)
asked_node s p from t k _ one named = absurd (cc one)

-- a node does a letter of an update tree
touches_keep : (s : ScriptData) (past : List Entry) (e : Entry) (p t k : ℕ) (v : Version) (r : Letter) → IsValid s → Does s past e p r
    → asks t k r.body ≡ 1 → tree_kind_at s t ≡ Some trees.Update → InBounds s past p (node_in s past p).items
    → InBounds s (e ∷ past) p (table_after_ops v (ops_of s t k) (node_in s past p).items)
touches_keep s past e p t k v r valid d one kind all =
    let c : Core = (keeping_in s past p).core in
    let items : Table = c.node.items in
    let named : is_named s p r.from.0 r.body ≡ true = apt_named s p c r d.brings.apt in
    let node : node_of s t k ≡ p = asked_node s p r.from.0 t k r.body one named in
    let sub : SubAt s t k = sub_of_node s p t k node d.brings.below in
    let fits : AllByRecursion (IsOp s.items trees.Update p) (ops_of s t k) =
    subst (λ (q : ℕ). AllByRecursion (IsOp s.items trees.Update q) (ops_of s t k)) node
    (ops_fit_kind s t k trees.Update sub valid (kind_here s t k trees.Update sub kind)) in
    let turned : tally (has_turn t k) e.acts ≡ 1 =
    ap (λ (xs : List Act). tally (has_turn t k) xs) d.acts ∙ core_turns s p r.from.0 t k r.body c d.brings.below named ∙ one in
    let counts = turn_counts s past e t k (plain_kind s t kind) turned in
    table_more s.items p (bounds_after (effect_bound s past) (ops_of s t k)) (effect_bound s (e ∷ past))
    (table_after_ops v (ops_of s t k) items)
    (λ x q at.
    omega (
      arith,
      one_load_more s (effects s past) t k x sub,
      trees_less (λ u i. one_if ((t == u) && (k == i)) + effects s past u i) (effects s (e ∷ past)) x 0 s.trees
          (λ u i. turn_more_by s past e t k u i ((t == u) && (k == i)) counts refl),
    ))
    (ops_table s.items p (effect_bound s past) v (ops_of s t k) items fits all)

-- a node applies a commit
applies_keep : (s : ScriptData) (past : List Entry) (e : Entry) (p : ℕ) (t : TreeNo) (v : Version) (r : Letter) → IsValid s → Does s past e p r
    → r.body ≡ Decide t v true → InBounds s past p (node_in s past p).items
    → InBounds s (e ∷ past) p (applied_in v (ops_at p (subs_at s t.0)) (node_in s past p).items)
applies_keep s past e p t v r valid d is all =
    let c : Core = (keeping_in s past p).core in
    let items : Table = c.node.items in
    let named : is_named s p r.from.0 (Decide t v true) ≡ true = ap (is_named s p r.from.0) (sym is) ∙ apt_named s p c r d.brings.apt in
    let strict : is_strict_at s t.0 ≡ true = left_true (is_strict_at s t.0) _ named in
    let it : StrictTree s t.0 = strict_there s t.0 strict in
    let self : one_if ((t.0 == t.0) && true) ≡ 1 = grind (arith, nat_tests) in
    let acted : tally (applies_as t.0 true) e.acts ≡ 1 =
    ap (λ (xs : List Act). tally (applies_as t.0 true) xs) (d.acts ∙ ap (λ (b : Body). (core_row s p c r.from.0 b).acts) is) ∙ omega (arith, self) in
    rw it.subs
    (table_more s.items p (bounds_after (effect_bound s past) (ops_at p it.tree.subs)) (effect_bound s (e ∷ past))
    (applied_in v (ops_at p it.tree.subs) items)
    (λ x q at.
    omega (
      arith,
      node_load_more (effects s past) (effects s (e ∷ past)) p x 0 t.0 t.0 it.tree s.trees it.at (omega arith)
          (λ j sub there.
          commit_counts s past e p t.0 j sub (sub.node.0 == p) strict d.brings.at acted
          (ap (λ (xs : List Sub). slice_get xs j) it.subs ∙ there) refl)
          (effects_grow s past e),
    ))
    (decided_table s.items p (effect_bound s past) v (ops_at p it.tree.subs) items
    (node_ops_fit s t.0 p it.tree trees.Strict valid it.at it.kind) all))

-- whatever it does
by_change : (s : ScriptData) (past : List Entry) (e : Entry) (p : ℕ) (r : Letter) (items : Table) (turns : Turns) → IsValid s
    → Does s past e p r → Changes s p r.body (keeping_in s past p).core items turns → InBounds s past p (node_in s past p).items
    → InBounds s (e ∷ past) p items
by_change s past e p r items turns valid d (Rests is same) all =
    subst (InBounds s (e ∷ past) p) (sym is) (grown s past e p (node_in s past p).items all)
by_change s past e p r items turns valid d (Follows t k v letter is same) all =
    subst (InBounds s (e ∷ past) p) (sym is) (grown s past e p (node_in s past p).items all)
by_change s past e p r items turns valid d (Raises v to is same) all =
    subst (InBounds s (e ∷ past) p) (sym is) (grown s past e p (node_in s past p).items all)
by_change s past e p r items turns valid d (Touches t k one kind is same) all =
    subst (InBounds s (e ∷ past) p) (sym is)
    (touches_keep s past e p t k (asked_version (node_in s past p).turns.update r.body) r valid d one kind all)
by_change s past e p r items turns valid d (Applies t v body is same) all =
    subst (InBounds s (e ∷ past) p) (sym is) (applies_keep s past e p t v r valid d body all)
by_change s past e p r items turns valid d (Shows v to is same) all =
    subst (InBounds s (e ∷ past) p) (sym is) (grown s past e p (node_in s past p).items all)
by_change s past e p r items turns valid d (Collects v to is same) all =
    subst (InBounds s (e ∷ past) p) (sym is)
    (collected_table s.items p (effect_bound s (e ∷ past)) v (node_in s past p).items (grown s past e p (node_in s past p).items all))

-- a letter that is kept leaves the items
abbrev LeavesItems : Core → CoreKeeping → Type 0
LeavesItems c k = k.state.node.items ≡ c.node.items

kept_items : (s : ScriptData) (past : List Entry) (e : Entry) (p : ℕ) (r : Letter) (k : CoreKeeping) → Keeps s past e p r k
    → (node_in s (e ∷ past) p).items ≡ (node_in s past p).items
kept_items s past e p r k d =
    let c : Core = (keeping_in s past p).core in
    ap (λ (x : Core). x.node.items) d.core
    ∙ of_kept s c (LeavesItems c) r.body k (record { parks = λ t j raises v met. refl; waits = λ t. refl }) d.keeps

-- the node of an entry
at_node : (s : ScriptData) (past : List Entry) (e : Entry) (p : ℕ) → IsValid s → e.actor.0 ≡ p → p < s.nodes → Case s past e
    → InBounds s past p (node_in s past p).items → InBounds s (e ∷ past) p (node_in s (e ∷ past) p).items
at_node s past e p valid at lt (NodeDoes q r d) all =
    let qp : q ≡ p = sym d.brings.at ∙ at in
    let here : InBounds s past q (node_in s past q).items = subst (λ (n : ℕ). InBounds s past n (node_in s past n).items) (sym qp) all in
    let c : Core = (keeping_in s past q).core in
    let now : Node = (core_row s q c r.from.0 r.body).state.node in
    subst (λ (n : ℕ). InBounds s (e ∷ past) n (node_in s (e ∷ past) n).items) qp
    (subst (λ (x : Core). InBounds s (e ∷ past) q x.node.items) (sym d.core)
    (by_change s past e q r now.items now.turns valid d (core_changes s q r.from.0 r.body c) here))
at_node s past e p valid at lt (NodeKeeps q r k d) all =
    let qp : q ≡ p = sym d.brings.at ∙ at in
    let here : InBounds s past q (node_in s past q).items = subst (λ (n : ℕ). InBounds s past n (node_in s past n).items) (sym qp) all in
    subst (λ (n : ℕ). InBounds s (e ∷ past) n (node_in s (e ∷ past) n).items) qp
    (subst (InBounds s (e ∷ past) q) (sym (kept_items s past e q r k d)) (grown s past e q (node_in s past q).items here))
at_node s past e p valid at lt (Coordinates out says) all = absurd (omega (arith, at, lt, out))
at_node s past e p valid at lt (Submits out says) all = absurd (omega (arith, at, lt, out))

keeps_by : (s : ScriptData) (past : List Entry) (e : Entry) (p : ℕ) → IsValid s → p < s.nodes → Case s past e
    → InBounds s past p (node_in s past p).items → (e.actor.0 ≡ p) ⊎ (e.actor.0 ≢ p) → InBounds s (e ∷ past) p (node_in s (e ∷ past) p).items
keeps_by s past e p valid lt c all (inl at) = at_node s past e p valid at lt c all
keeps_by s past e p valid lt c all (inr ne) =
    subst (λ (st : Node). InBounds s (e ∷ past) p st.items) (sym (node_kept s past e p ne)) (grown s past e p (node_in s past p).items all)

-- the items of each node keep to their bounds
pub tables_keep : (s : ScriptData) (past : List Entry) → IsValid s → AllApt s past → IsStepRun s past → (p : ℕ) → p < s.nodes
    → TableIn s.items p (effect_bound s past) (node_in s past p).items
tables_keep s [] valid apt run p lt =
    start_table s.items p (effect_bound s []) (λ x r at. omega (arith, ap initial_load at))
tables_keep s (e ∷ past) valid apt run p lt =
    keeps_by s past e p valid lt (case s past e run.0 apt.0) (tables_keep s past valid apt.1 run.1 p lt) (cases_eq e.actor.0 p)
