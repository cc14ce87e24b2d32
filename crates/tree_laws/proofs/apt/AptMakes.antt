-- In runs of enabled messages, of every script: what a message that has still to be done asks for can be made.
use Rattle.std.proofs.Common.{◌≡◌, ℕ, zero, suc, ◌+◌, ◌<◌, ◌≤◌, ◌==◌, ◌&&◌, ◌||◌, Bool, true, false, List, [], ◌∷◌, length, refl, sym, ap, subst, ◌∙◌, arith, Option, Some, None}
use Rattle.std.specs.Prelude.{if◌then◌else◌, nat_lt, slice_get}
use Rattle.std.specs.List.{AllByRecursion}
use Rattle.std.proofs.lemmas.Bool.Decides.{nat_tests}
use Rattle.std.proofs.lemmas.List.Elements.{recursion_from_All}
use Rattle.tv_base.proofs.Truths.{left_true, right_true}
use Rattle.tv_base.specs.declared.numbers.TreeNo.{TreeNo}
use Rattle.tv_base.specs.declared.numbers.Version.{Version}
use Rattle.tv_base.proofs.ByPlace.{get_some}
use Rattle.commute_ops.specs.declared.kinds.TheConstants.{MOST_AMOUNT}
use Rattle.letter_types.specs.declared.bodies.Body.{Body}
use Rattle.letter_types.specs.declared.bodies.Body.TheVariants.{Root, Sub as SubLetter, Decide}
use Rattle.letter_types.specs.declared.entries.Entry.{Entry}
use Rattle.letter_types.specs.declared.entries.Letter.{Letter}
use Rattle.tx_trees.proofs.SubsOf.{all_at, small_load, sub_nodes}
use Rattle.tx_trees.specs.ScriptData.{ScriptData, node_of, ops_of, sub_at, subs_at, visits}
use Rattle.tx_trees.specs.Valid.{IsOp, IsValid, ops_load, trees_load}
use Rattle.tx_trees.specs.declared.parts.ItemRow.{ItemRow}
use Rattle.tx_trees.specs.declared.parts.Sub.{Sub}
use Rattle.tx_trees.specs.declared.parts.TreeKind.{TreeKind}
use Rattle.tx_trees.specs.declared.parts.TreeKind.TheVariants as trees
use Rattle.world_model.specs.AllApt.{AllApt}
use Rattle.world_model.specs.Apt.{can_make_by}
use Rattle.world_model.specs.Asked.{asked_ops, asked_version}
use Rattle.world_model.specs.Counts.{one_if}
use Rattle.world_model.specs.Decisions.{can_decide, ops_at}
use Rattle.world_model.specs.Kept.{kept_by}
use Rattle.world_model.specs.Named.{is_named, is_strict_at, is_timely, tree_kind_at}
use Rattle.world_model.specs.Node.{Node}
use Rattle.world_model.specs.Runs.{IsStepRun, in_flight, keeping_in, node_in}
use Rattle.world_model.specs.Strict.{can_make_at}
use Rattle.world_model.proofs.Bags.{tally-append, one_if_both, tally_most}
use Rattle.world_model.proofs.Outstanding.{IsOutstanding}
use Rattle.world_model.proofs.Scripts.{SubAt, get_below, node_here, sub_here, tree_below}
use Rattle.tree_laws.specs.Applied.{AppliedWhereDecided, DecidedOnce, applied_at, decisions_to, tells_decision}
use Rattle.tree_laws.specs.Dids.{asks, letters_asking}
use Rattle.tree_laws.specs.Effects.{effects}
use Rattle.tree_laws.specs.Turns.{turns}
use Rattle.tree_laws.proofs.apt.AptBounds.{asked_node, effect_bound, tables_keep}
use Rattle.tree_laws.proofs.stages.AptStagesOwn.{sub_of_node}
use Rattle.tree_laws.proofs.stages.AptStagesSteps.{all_in_flight}
use Rattle.tree_laws.proofs.apt.AptTurns.{no_turn_yet, turns_at_most_once}
use Rattle.tree_laws.proofs.apt.AptWindows.{near_has_room}
use Rattle.tree_laws.proofs.loads.Counts.{one_load_more}
use Rattle.tree_laws.proofs.loads.Gets.{gets_found}
use Rattle.tree_laws.proofs.loads.Loads.{trees_done, trees_most}
use Rattle.tree_laws.proofs.loads.NodeLoads.{StrictTree, kind_here, node_load_more, node_ops_fit, ops_fit_kind, plain_kind, strict_there}
use Rattle.tree_laws.proofs.loads.Overwriting.{can_decide_ops}
use Rattle.tree_laws.proofs.loads.Tables.{touched_table}
use Rattle.world_model.specs.Epochs.{is_core_timely}

-- a run of apt letters of a valid script, in which decisions are applied where they are made
record Running (s : ScriptData) (past : List Entry) : Type 0 where
  once : DecidedOnce
  where_decided : AppliedWhereDecided
  valid : IsValid s
  apt : AllApt s past
  run : IsStepRun s past

-- A tree visits the node of each of its subtransactions.
visits_by : (subs : List Sub) (y : Sub) (q : ℕ) (test : Bool) → (y.node.0 == q) ≡ test → visits subs q ≡ true → visits (y ∷ subs) q ≡ true
visits_by subs y q true is rest = rw is refl
visits_by subs y q false is rest = rw is rest

pub visits_there : (subs : List Sub) (n : ℕ) (x : Sub) → slice_get subs n ≡ Some x → visits subs x.node.0 ≡ true
visits_there [] n x at = absurd (cc at)
visits_there (y ∷ subs) zero x at =
    let same : y ≡ x = cc at in
    let here : (y.node.0 == x.node.0) ≡ true = (let eq : y.node.0 ≡ x.node.0 = ap (λ (z : Sub). z.node.0) same in grind (arith, nat_tests)) in
    rw here refl
visits_there (y ∷ subs) (suc n) x at = visits_by subs y x.node.0 (y.node.0 == x.node.0) refl (visits_there subs n x at)

pub node_visited : (s : ScriptData) (t k : ℕ) → SubAt s t k → visits (subs_at s t) (node_of s t k) ≡ true
node_visited s t k c =
    subst (λ (q : ℕ). visits (subs_at s t) q ≡ true) (sym (node_here s t k c)) (visits_there (subs_at s t) k c.sub (sub_here s t k c))

pub node_in_script : (s : ScriptData) (t k : ℕ) → SubAt s t k → IsValid s → node_of s t k < s.nodes
node_in_script s t k c valid =
    let lt : c.sub.node.0 < s.nodes =
    all_at (λ (x : Sub). x.node.0 < s.nodes) (subs_at s t) k c.sub
    (recursion_from_All (λ (x : Sub). x.node.0 < s.nodes) (subs_at s t) (sub_nodes s t valid)) (sub_here s t k c) in
    omega (arith, lt, node_here s t k c)

-- Each subtransaction took effect at most once.
once_by : (s : ScriptData) (past : List Entry) (t k : ℕ) (test : Bool) → SubAt s t k → Running s past → is_strict_at s t ≡ test
    → effects s past t k ≤ 1
once_by s past t k true c g is =
    let lt = tree_below s t k c in
    rw is
    (omega (
      arith,
      g.where_decided s past t (node_of s t k) true g.valid g.apt g.run lt (node_in_script s t k c g.valid) (node_visited s t k c),
      g.once s past t g.valid g.apt g.run lt,
    ))
once_by s past t k false c g is = rw is (turns_at_most_once s past t k c g.valid g.apt g.run)

effects_once : (s : ScriptData) (past : List Entry) (t k : ℕ) → SubAt s t k → Running s past → effects s past t k ≤ 1
effects_once s past t k c g = once_by s past t k (is_strict_at s t) c g refl

-- So what isn't above one anywhere has at most the script's load, which is at most what is allowed.
most_by : (s : ScriptData) (often : ℕ → ℕ → ℕ) (x : ℕ) → ((t k : ℕ) → SubAt s t k → often t k ≤ 1)
    → trees_done often x 0 s.trees ≤ trees_load x s.trees
most_by s often x once =
    trees_most often x 0 s.trees
    (λ u j tree at lt.
    let sub = get_some tree.subs j lt in
    subst (λ (w : ℕ). often w j ≤ 1) (omega arith) (once u j (record { tree = tree; at = at; sub = sub.0; here = sub.1 })))

within_by : (s : ScriptData) (past : List Entry) (often : ℕ → ℕ → ℕ) (x more : ℕ) (r : ItemRow) → IsValid s → slice_get s.items x ≡ Some r
    → ((t k : ℕ) → SubAt s t k → often t k ≤ 1)
    → trees_done (effects s past) x 0 s.trees + more ≤ trees_done often x 0 s.trees → effect_bound s past x + more ≤ MOST_AMOUNT
within_by s past often x more r valid at once le =
    omega (arith, le, most_by s often x once, small_load s x valid (get_below s.items x r at))

-- A subtransaction of an update tree that hasn't had its turn.
abbrev with_one : ScriptData → List Entry → ℕ → ℕ → ℕ → ℕ → ℕ
with_one s past t k u i = one_if ((t == u) && (k == i)) + effects s past u i

one_most : (s : ScriptData) (past : List Entry) (t k u i : ℕ) (test : Bool) → effects s past t k ≡ 0 → effects s past u i ≤ 1
    → ((t == u) && (k == i)) ≡ test → one_if test + effects s past u i ≤ 1
one_most s past t k u i true none once is =
    let tu : t ≡ u = grind (arith, nat_tests) in
    let ki : k ≡ i = grind (arith, nat_tests) in
    let here : effects s past u i ≡ 0 =
    subst (λ (j : ℕ). effects s past u j ≡ 0) ki (subst (λ (w : ℕ). effects s past w k ≡ 0) tu none) in
    omega (arith, here)
one_most s past t k u i false none once is = omega (arith, once)

update_within : (s : ScriptData) (past : List Entry) (t k x : ℕ) (r : ItemRow) → SubAt s t k → Running s past → effects s past t k ≡ 0
    → slice_get s.items x ≡ Some r → effect_bound s past x + ops_load x (ops_of s t k) ≤ MOST_AMOUNT
update_within s past t k x r c g none at =
    within_by s past (with_one s past t k) x (ops_load x (ops_of s t k)) r g.valid at
    (λ u i there. one_most s past t k u i ((t == u) && (k == i)) none (effects_once s past u i there g) refl)
    (omega (arith, one_load_more s (effects s past) t k x c))

-- What is asked for of a tree of this kind can be made.
record Asked (s : ScriptData) (past : List Entry) (p t k : ℕ) (body : Body) : Type 0 where
  sub : SubAt s t k
  node : node_of s t k ≡ p
  below : p < s.nodes
  none : turns past t k ≡ 0
  ops : asked_ops s body ≡ ops_of s t k

made_by : (s : ScriptData) (past : List Entry) (p t k : ℕ) (body : Body) (kind : Option TreeKind) → tree_kind_at s t ≡ kind
    → Asked s past p t k body → Running s past → (is_strict_at s t || can_make_by s (node_in s past p) body kind) ≡ true
made_by s past p t k body (Some trees.Update) is a g =
    let st : Node = node_in s past p in
    let plain : is_strict_at s t ≡ false = plain_kind s t is in
    let none : effects s past t k ≡ 0 = rw plain a.none in
    let fits : AllByRecursion (IsOp s.items trees.Update p) (ops_of s t k) =
    subst (λ (q : ℕ). AllByRecursion (IsOp s.items trees.Update q) (ops_of s t k)) a.node
    (ops_fit_kind s t k trees.Update a.sub g.valid (kind_here s t k trees.Update a.sub is)) in
    let all = touched_table s.items p (effect_bound s past) (asked_version st.turns.update body) (ops_of s t k) st.items fits
    (λ x r at. update_within s past t k x r a.sub g none at) (tables_keep s past g.valid g.apt g.run p a.below) in
    rw plain (rw a.ops all.0)
made_by s past p t k body (Some trees.Read) is a g =
    let st : Node = node_in s past p in
    let plain : is_strict_at s t ≡ false = rw (is, is_strict_at) refl in
    let fits : AllByRecursion (IsOp s.items trees.Read p) (ops_of s t k) =
    subst (λ (q : ℕ). AllByRecursion (IsOp s.items trees.Read q) (ops_of s t k)) a.node
    (ops_fit_kind s t k trees.Read a.sub g.valid (kind_here s t k trees.Read a.sub is)) in
    rw plain
    (rw a.ops
    (gets_found s.items p (effect_bound s past) (asked_version st.turns.read body) (ops_of s t k) st.items fits
    (tables_keep s past g.valid g.apt g.run p a.below)))
made_by s past p t k body (Some trees.Strict) is a g =
    let strict : is_strict_at s t ≡ true = rw (is, is_strict_at) refl in rw strict refl
made_by s past p t k body None is a g =
    let some : Some a.sub.tree.kind ≡ None = rw (a.sub.at, tree_kind_at) at is in absurd (cc some)

asked_of : (s : ScriptData) (past : List Entry) (r : Letter) (p from t k : ℕ) (body : Body) → Running s past → p < s.nodes
    → IsOutstanding s past r → r.body ≡ body → asks t k body ≡ 1 → is_named s p from body ≡ true → asked_ops s body ≡ ops_of s t k
    → Asked s past p t k body
asked_of s past r p from t k body g lt out is one named ops =
    let node : node_of s t k ≡ p = asked_node s p from t k body one named in
    let sub : SubAt s t k = sub_of_node s p t k node lt in
    let waits : 1 ≤ letters_asking s past t k = omega (arith, out (λ (l : Letter). asks t k l.body), ap (asks t k) is, one) in
    record { sub = sub; node = node; below = lt; none = no_turn_yet s past t k sub g.valid g.apt g.run waits; ops = ops }

-- A decision that has still to be done is in flight.
abbrev told_at : ℕ → ℕ → Letter → ℕ
told_at t p l = if l.to.0 == p then tells_decision t true l.body else 0

told_less : (t p : ℕ) (l : Letter) (test : Bool) → (if test then tells_decision t true l.body else 0) ≤ tells_decision t true l.body
told_less t p l true = omega arith
told_less t p l false = omega arith

pub decision_waits : (s : ScriptData) (past : List Entry) (r : Letter) (p : ℕ) (t : TreeNo) (v : Version) → IsOutstanding s past r → r.to.0 ≡ p
    → r.body ≡ Decide t v true → 1 ≤ decisions_to s past t.0 true p
decision_waits s past r p t v out to is =
    let g : Letter → ℕ = λ l. tells_decision t.0 true l.body in
    let here : (r.to.0 == p) ≡ true = grind (arith, nat_tests) in
    let told : tells_decision t.0 true r.body ≡ 1 = ap (tells_decision t.0 true) is ∙ one_if_same t.0 in
    let one : told_at t.0 p r ≡ 1 = rw here told in
    omega (
      arith,
      one,
      out (told_at t.0 p),
      tally-append (told_at t.0 p) (in_flight s past) (kept_by s past s.nodes),
      tally-append g (in_flight s past) (kept_by s past s.nodes),
      all_in_flight (tells_decision t.0 true) s past (record { roots = λ u. refl; subs = λ u k w. refl; wakes = λ u k. refl }),
      tally_most (told_at t.0 p) g (kept_by s past s.nodes) (λ l. told_less t.0 p l (l.to.0 == p)),
    ) where
      one_if_same : (n : ℕ) → one_if ((n == n) && true) ≡ 1
      one_if_same n = grind (arith, nat_tests)

-- so no commit was applied there
none_applied : (s : ScriptData) (past : List Entry) (r : Letter) (p : ℕ) (t : TreeNo) (v : Version) → Running s past → p < s.nodes
    → IsOutstanding s past r → r.to.0 ≡ p → r.body ≡ Decide t v true → t.0 < length s.trees → visits (subs_at s t.0) p ≡ true
    → applied_at past t.0 true p ≡ 0
none_applied s past r p t v g lt out to is there visited =
    omega (
      arith,
      decision_waits s past r p t v out to is,
      g.where_decided s past t.0 p true g.valid g.apt g.run there lt visited,
      g.once s past t.0 g.valid g.apt g.run there,
    )

-- All that a strict tree has at a node where no commit was applied.
abbrev with_node : ScriptData → List Entry → ℕ → ℕ → ℕ → ℕ → ℕ
with_node s past t p u i = one_if ((t == u) && (node_of s u i == p)) + effects s past u i

node_most : (s : ScriptData) (past : List Entry) (t p u i : ℕ) (test : Bool) → is_strict_at s t ≡ true → applied_at past t true p ≡ 0
    → effects s past u i ≤ 1 → ((t == u) && (node_of s u i == p)) ≡ test → one_if test + effects s past u i ≤ 1
node_most s past t p u i true strict none once is =
    let tu : t ≡ u = grind (arith, nat_tests) in
    let at : node_of s u i ≡ p = grind (arith, nat_tests) in
    let kind : is_strict_at s u ≡ true = subst (λ (w : ℕ). is_strict_at s w ≡ true) tu strict in
    let zero_there : applied_at past u true (node_of s u i) ≡ 0 =
    subst (λ (w : ℕ). applied_at past w true (node_of s u i) ≡ 0) tu (subst (λ (q : ℕ). applied_at past t true q ≡ 0) (sym at) none) in
    let here : effects s past u i ≡ 0 = rw kind zero_there in
    omega (arith, here)
node_most s past t p u i false strict none once is = omega (arith, once)

node_counts : (s : ScriptData) (past : List Entry) (t p j : ℕ) (sub : Sub) → sub_at s t j ≡ Some sub
    → effects s past t j + one_if (sub.node.0 == p) ≤ with_node s past t p t j
node_counts s past t p j sub at =
    let node : node_of s t j ≡ sub.node.0 = rw (at, node_of) refl in
    let same : one_if ((t == t) && (node_of s t j == p)) ≡ one_if (sub.node.0 == p) = grind (arith, nat_tests) in
    omega (arith, same)

commit_within : (s : ScriptData) (past : List Entry) (t p x : ℕ) (r : ItemRow) → Running s past → (it : StrictTree s t)
    → is_strict_at s t ≡ true → applied_at past t true p ≡ 0 → slice_get s.items x ≡ Some r
    → effect_bound s past x + ops_load x (ops_at p it.tree.subs) ≤ MOST_AMOUNT
commit_within s past t p x r g it strict none at =
    within_by s past (with_node s past t p) x (ops_load x (ops_at p it.tree.subs)) r g.valid at
    (λ u i there.
    node_most s past t p u i ((t == u) && (node_of s u i == p)) strict none (effects_once s past u i there g) refl)
    (node_load_more (effects s past) (with_node s past t p) p x 0 t t it.tree s.trees it.at (omega arith)
    (λ j sub there. node_counts s past t p j sub (ap (λ (xs : List Sub). slice_get xs j) it.subs ∙ there)) (λ u j. omega arith))

-- A decision can be applied.
commit_made : (s : ScriptData) (past : List Entry) (r : Letter) (p : ℕ) (t : TreeNo) (v : Version) → Running s past → p < s.nodes
    → IsOutstanding s past r → r.to.0 ≡ p → r.body ≡ Decide t v true → is_named s p r.from.0 (Decide t v true) ≡ true
    → is_timely s (node_in s past p) (Decide t v true) ≡ true → can_decide s p t v true (node_in s past p).items ≡ true
commit_made s past r p t v g lt out to is named timely =
    let strict : is_strict_at s t.0 ≡ true = left_true (is_strict_at s t.0) (visits (subs_at s t.0) p && nat_lt r.from.0 s.nodes) named in
    let visited : visits (subs_at s t.0) p ≡ true =
    left_true (visits (subs_at s t.0) p) (nat_lt r.from.0 s.nodes)
    (right_true (is_strict_at s t.0) (visits (subs_at s t.0) p && nat_lt r.from.0 s.nodes) named) in
    let it : StrictTree s t.0 = strict_there s t.0 strict in
    let none = none_applied s past r p t v g lt out to is (get_below s.trees t.0 it.tree it.at) visited in
    rw it.subs
    (can_decide_ops s.items p (effect_bound s past) v (ops_at p it.tree.subs) (node_in s past p).items
    (node_ops_fit s t.0 p it.tree trees.Strict g.valid it.at it.kind) (near_has_room s past p v g.valid g.apt g.run lt timely)
    (λ x row at. commit_within s past t.0 p x row g it strict none at) (tables_keep s past g.valid g.apt g.run p lt))

decision_made : (s : ScriptData) (past : List Entry) (r : Letter) (p : ℕ) (t : TreeNo) (v : Version) (commit : Bool) → Running s past
    → p < s.nodes → IsOutstanding s past r → r.to.0 ≡ p → r.body ≡ Decide t v commit → is_named s p r.from.0 (Decide t v commit) ≡ true
    → is_timely s (node_in s past p) (Decide t v commit) ≡ true → can_decide s p t v commit (node_in s past p).items ≡ true
decision_made s past r p t v true g lt out to is named timely = commit_made s past r p t v g lt out to is named timely
decision_made s past r p t v false g lt out to is named timely = refl

makes_by : (s : ScriptData) (past : List Entry) (r : Letter) (p : ℕ) (body : Body) → Running s past → p < s.nodes → IsOutstanding s past r
    → r.to.0 ≡ p → r.body ≡ body → is_named s p r.from.0 body ≡ true → is_core_timely s (keeping_in s past p).core body ≡ true
    → can_make_at s p (keeping_in s past p).core body ≡ true
makes_by s past r p (Root t) g lt out to is named timely =
    made_by s past p t.0 0 (Root t) (tree_kind_at s t.0) refl
    (asked_of s past r p r.from.0 t.0 0 (Root t) g lt out is (one_if_both t.0 0) named refl) g
makes_by s past r p (SubLetter t k v) g lt out to is named timely =
    made_by s past p t.0 k.0 (SubLetter t k v) (tree_kind_at s t.0) refl
    (asked_of s past r p r.from.0 t.0 k.0 (SubLetter t k v) g lt out is (one_if_both t.0 k.0) named refl) g
makes_by s past r p (Decide t v commit) g lt out to is named timely = decision_made s past r p t v commit g lt out to is named timely
makes_by s past r p _ g lt out to is named timely = refl

-- a letter that is outstanding, meant for its node and timely asks for what can be made
pub makes : (s : ScriptData) (past : List Entry) (r : Letter) (p : ℕ) → DecidedOnce → AppliedWhereDecided → IsValid s → AllApt s past
    → IsStepRun s past → p < s.nodes → IsOutstanding s past r → r.to.0 ≡ p → is_named s p r.from.0 r.body ≡ true
    → is_core_timely s (keeping_in s past p).core r.body ≡ true → can_make_at s p (keeping_in s past p).core r.body ≡ true
makes s past r p once where_decided valid apt run lt out to named timely =
    makes_by s past r p r.body (record { once = once; where_decided = where_decided; valid = valid; apt = apt; run = run }) lt out to refl named
    timely
