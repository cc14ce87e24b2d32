-- The plans of a decision that comes to a node and of an acknowledgement are their rows, and the node may do them.
use Rattle.std.proofs.Common.{◌≡◌, ℕ, ◌<◌, Bool, true, false, List, [], ◌∷◌, take, refl, ap, sym, subst, ◌∙◌, arith, Option, Some, None, inl, inr}
use Rattle.std.proofs.Math.Path.{fun_ext}
use Rattle.std.specs.Prelude.{IsSome, if◌then◌else◌}
use Rattle.std.proofs.lemmas.Bool.{cases_eq}
use Rattle.std.proofs.lemmas.List.Elements.{All-from_recursion}
use Rattle.tv_base.specs.declared.numbers.NodeNo.{NodeNo}
use Rattle.tv_base.specs.declared.numbers.TreeNo.{TreeNo}
use Rattle.tv_base.specs.declared.numbers.Version.{Version}
use Rattle.commute_ops.specs.declared.value.Value.{Value}
use Rattle.item_versions.specs.Table.{IsHeldTable, StagedItems, Table, pending}
use Rattle.item_versions.specs.Window.{in_window, IsWindowedTable}
use Rattle.item_versions.proofs.Holding.{IsHeldTable-put_value_in}
use Rattle.item_versions.proofs.Window.{IsWindowedTable-put_value_in}
use Rattle.letter_types.specs.declared.acts.Act.TheVariants.{Applied}
use Rattle.letter_types.specs.declared.bodies.Body.TheVariants as bodies
use Rattle.letter_types.specs.declared.entries.Outgoing.{Outgoing}
use Rattle.nc_locks.specs.declared.modes.Lock.{Lock}
use Rattle.pair_counters.specs.Numbers.{Numbers, done_one}
use Rattle.pair_counters.specs.Rows.{counts_of}
use Rattle.tree_home.proofs.Maps.{put_at-other, put_at-same}
use Rattle.tree_home.specs.HeldAnswers.{HeldAnswers, acked, acked_of, answer_when_acked, held_answers, held_in}
use Rattle.tree_home.specs.Homes.{OpenTrees, open_trees}
use Rattle.tree_home.specs.Maps.{by_tree, put_at}
use Rattle.tree_home.specs.declared.homes.Answered.{Answered}
use Rattle.tree_home.specs.declared.homes.Held.{Held}
use Rattle.tx_trees.specs.ScriptData.{ScriptData, home_of, subs_at}
use Rattle.tx_trees.specs.declared.parts.SubOp.{SubOp}
use Rattle.world_model.specs.Core.{Refusals}
use Rattle.world_model.specs.Decisions.{applied_in, decided_items, ops_at, overwritten, overwritten_in}
use Rattle.world_model.specs.Done.{counted_sub}
use Rattle.world_model.specs.Reads.{seen_in}
use Rattle.world_model.specs.Strict.{acked_core, answer_letters, decide_core, decided_letter, refusals_after}
use Rattle.board_rules.specs.Worth.{after_deed}
use Rattle.board_rules.specs.Stands.{overwrites}
use Rattle.tree_step.proofs.Made.{may_count}
use Rattle.tree_step.specs.Changes.{MayCount}
use Rattle.tree_step.specs.Node.{IsReady, Node}
use Rattle.tree_step.specs.CoreChanges.{IsCoreStepOf, MayAsk, MayHold, asked_with, core_step_row, holds_with, locks_with, refusals_with}
use Rattle.tree_step.specs.Core.{AreApart, IsCoreReady, core_of}
use Rattle.tree_step.specs.Meant.{core_meant, holds_meant, votes_meant}
use Rattle.tree_step.specs.declared.node_core.NodeCore.{NodeCore}
use Rattle.tree_step.specs.declared.plan.HoldPlan.TheVariants.{Stay}
use Rattle.tree_step.specs.declared.plan.Plan.{Plan}
use Rattle.tree_step.specs.declared.plan.Scratch.{Scratch}
use Rattle.tree_step.specs.declared.plan.VotePlan.TheVariants.{Free}
use Rattle.node_machine.specs.inside.Decided.{acking, completing, dropping, plan_with}

-- the items stay in their window, and their versions in order
overwritten-kept : (low : ℕ) (v : Version) (o : SubOp) (w : Option Value) (items : Table) → IsHeldTable items
    → IsWindowedTable low items → in_window low v.0 ≡ true
    → IsHeldTable (overwritten v o w items) × IsWindowedTable low (overwritten v o w items)
overwritten-kept low v o None items held all near = (held, all)
overwritten-kept low v o (Some w) items held all near = (
  IsHeldTable-put_value_in v o.item (after_deed o.deed w) items held,
  IsWindowedTable-put_value_in low v o.item (after_deed o.deed w) items held all near,
)

one-kept : (low : ℕ) (v : Version) (o : SubOp) (b : Bool) (items : Table) → IsHeldTable items
    → IsWindowedTable low items → in_window low v.0 ≡ true
    → IsHeldTable (if b then overwritten v o (seen_in v o.item items) items else items)
    × IsWindowedTable low (if b then overwritten v o (seen_in v o.item items) items else items)
one-kept low v o true items held all near = overwritten-kept low v o (seen_in v o.item items) items held all near
one-kept low v o false items held all near = (held, all)

all-kept : (low : ℕ) (v : Version) (os : List SubOp) (items : Table) → IsHeldTable items
    → IsWindowedTable low items → in_window low v.0 ≡ true → IsWindowedTable low (applied_in v os items)
all-kept low v [] items held all near = all
all-kept low v (o ∷ os) items held all near =
    let next = one-kept low v o (overwrites o.deed) items held all near in
    all-kept low v os (overwritten_in v o items) next.0 next.1 near

decided_kept : (low : ℕ) (s : ScriptData) (p : ℕ) (t : TreeNo) (v : Version) (commit : Bool) (items : Table)
    → IsHeldTable items → IsWindowedTable low items → in_window low v.0 ≡ true
    → IsWindowedTable low (decided_items s p t v commit items)
decided_kept low s p t v true items held all near = all-kept low v (ops_at p (subs_at s t.0)) items held all near
decided_kept low s p t v false items held all near = all

-- the plan of a decision
abbrev pub decide_plan : TreeNo → NodeNo → Version → Plan
decide_plan t q v = plan_with (completing t q v 1) (Free t) Stay

-- it means its row
decide_ready : (s : ScriptData) (p : ℕ) (from : NodeNo) (t : TreeNo) (v : Version) (commit : Bool) (n : NodeCore)
    (x : Scratch) (home : ℕ)
    → pending x.staged n.parts.items ≡ decided_items s p t v commit n.parts.items → home ≡ home_of s t.0
    → x.sent ≡ record { to = record { 0 = home }; body = bodies.Decided t v } ∷ []
    → x.acts ≡ Applied t commit ∷ []
    → core_step_row (core_meant (decide_plan t from v) x) (core_of n) ≡ decide_core s p from.0 t v commit (core_of n)
decide_ready s p from t v commit n x home items at letters acts =
    let sent : x.sent ≡ decided_letter s t v ∷ [] =
    letters ∙ ap (λ (h : ℕ). record { to = record { 0 = h }; body = bodies.Decided t v } ∷ []) at in
    let numbers = ap (λ (os : List Outgoing). counted_sub v.0 from.0 (take 1 os) (counts_of n.parts.counters).numbers) sent in
    let row = decide_core s p from.0 t v commit (core_of n) in
    λ i. record {
      state = record row.state { node = record row.state.node { items = items i; counts = numbers i } };
      sent = sent i;
      acts = acts i;
    }

-- the acknowledgement that it sends is counted
one_counted : (s : ScriptData) (n : NodeCore) (t : TreeNo) (v : Version) (from : NodeNo) (home : ℕ)
    (sent : List Outgoing) → IsReady s from.0 n.parts → in_window n.parts.turns.low.0 v.0 ≡ true → home ≡ home_of s t.0
    → home_of s t.0 < s.nodes → sent ≡ record { to = record { 0 = home }; body = bodies.Decided t v } ∷ []
    → MayCount (record { version = v; root = false; from = from; asked = 1 }) sent (counts_of n.parts.counters)
one_counted s n t v from home sent ready near at there is =
    let letter : Outgoing = record { to = record { 0 = home }; body = bodies.Decided t v } in
    let lt : home < s.nodes = subst (λ (h : ℕ). h < s.nodes) (sym at) there in
    subst (λ (os : List Outgoing). MayCount (record { version = v; root = false; from = from; asked = 1 }) os (counts_of n.parts.counters))
    (sym is)
    (may_count s n.parts v false from 1 (letter ∷ []) (letter ∷ []) ready near (omega arith) refl
    (All-from_recursion (λ (o : Outgoing). o.to.0 < s.nodes) (letter ∷ []) (lt, tt)) (omega arith))

-- only a completion is counted
none_counted : (s : ScriptData) (n : NodeCore) (v : Version) (from : NodeNo) (sent : List Outgoing)
    → IsReady s from.0 n.parts → in_window n.parts.turns.low.0 v.0 ≡ true
    → MayCount (record { version = v; root = false; from = from; asked = 0 }) sent (counts_of n.parts.counters)
none_counted s n v from sent ready near =
    may_count s n.parts v false from 0 sent [] ready near (omega arith) refl
    (All-from_recursion (λ (o : Outgoing). o.to.0 < s.nodes) [] tt) (omega arith)

-- to put in what is there changes nothing
put_own-at : (k j : ℕ) (x : Option Held) (f : HeldAnswers) → f k ≡ x → put_at k x f j ≡ f j
put_own-at k j x f here =
    elim (cases_eq j k) [
      | inl eq ↦ ap (λ (i : ℕ). put_at k x f i) eq ∙ put_at-same k x f ∙ sym here ∙ ap f (sym eq)
      | inr ne ↦ put_at-other k j x f ne
    ]

-- what is acknowledged is held, and if nothing is held nothing changes
ack_holds : (t : TreeNo) (hs : HeldAnswers) (o : Option Held) (x : Scratch) → held_in t hs ≡ o
    → holds_with (holds_meant (acking t o) x) hs ≡ acked t hs
ack_holds t hs None x here =
    sym (ap (λ (y : Option Held). put_at t.0 (acked_of y) hs) here ∙ fun_ext (λ j. put_own-at t.0 j None hs here))
ack_holds t hs (Some h) x here = refl

ack_may : (t : TreeNo) (hs : HeldAnswers) (o : Option Held) (x : Scratch) → held_in t hs ≡ o
    → MayHold (holds_meant (acking t o) x) hs
ack_may t hs None x here = tt
ack_may t hs (Some h) x here = let P : Option Held → Type 0 = λ y. IsSome y in subst P (sym here) refl

ack_asks : (t : TreeNo) (o : Option Held) (x : Scratch) (nodes : ℕ) (st : Node)
    → MayAsk (holds_meant (acking t o) x) nodes st
ack_asks t None x nodes st = tt
ack_asks t (Some h) x nodes st = tt

ack_counts : (t : TreeNo) (o : Option Held) (x : Scratch) (n : Numbers)
    → asked_with (holds_meant (acking t o) x) n ≡ n
ack_counts t None x n = refl
ack_counts t (Some h) x n = refl

-- the negative votes after an answer
noes_dropped : (a : Option Answered) (x : Scratch) (rs : Refusals)
    → refusals_with (votes_meant (dropping a) x) rs ≡ refusals_after a rs
noes_dropped None x rs = refl
noes_dropped (Some a) x rs = refl

locks_dropped : (a : Option Answered) (x : Scratch) (ls : List Lock) → locks_with (votes_meant (dropping a) x) ls ≡ ls
locks_dropped None x ls = refl
locks_dropped (Some a) x ls = refl

-- the plan of an acknowledgement that sets this answer free, if this is held
abbrev pub acked_plan : TreeNo → NodeNo → Version → Option Answered → Option Held → Plan
acked_plan t q v a h = plan_with (completing t q v 0) (dropping a) (acking t h)

-- it means its row
acked_ready : (s : ScriptData) (from : NodeNo) (t : TreeNo) (v : Version) (n : NodeCore) (x : Scratch)
    (answered : Option Answered)
    → answered ≡ answer_when_acked t (held_answers n.parts.homes)
    → x.sent ≡ answer_letters s (by_tree n.refusals) answered → x.acts ≡ [] → x.staged ≡ []
    → core_step_row
    (core_meant (acked_plan t from v answered (held_in t (held_answers n.parts.homes))) x) (core_of n)
    ≡ acked_core s from.0 t v (core_of n)
acked_ready s from t v n x answered free letters acts none =
    let hs = held_answers n.parts.homes in
    let rs = by_tree n.refusals in
    let held = ack_holds t hs (held_in t hs) x refl in
    let numbers = ack_counts t (held_in t hs) x (done_one v.0 from.0 (counts_of n.parts.counters).numbers) in
    let noes = noes_dropped answered x rs ∙ ap (λ (a : Option Answered). refusals_after a rs) free in
    let sent = letters ∙ ap (λ (a : Option Answered). answer_letters s rs a) free in
    let locks = locks_dropped answered x n.locks in
    let row = acked_core s from.0 t v (core_of n) in
    λ i. record {
      state = record row.state {
        node = record row.state.node { items = pending (none i) n.parts.items; counts = numbers i };
        locks = locks i;
        holds = held i;
        refusals = noes i;
      };
      sent = sent i;
      acts = acts i;
    }

-- after an acknowledgement, too, no open tree has a held answer
apart_at : (opened : OpenTrees) (t u : TreeNo) (hs : HeldAnswers) → held_in u hs ≡ None → held_in u (acked t hs) ≡ None
apart_at opened t u hs none =
    elim (cases_eq u.0 t.0) [
      | inl eq ↦
          ap (λ (k : ℕ). acked t hs k) eq ∙ put_at-same t.0 (acked_of (hs t.0)) hs
          ∙ ap (λ (k : ℕ). acked_of (hs k)) (sym eq) ∙ ap (λ (o : Option Held). acked_of o) none
      | inr ne ↦ put_at-other t.0 u.0 (acked_of (hs t.0)) hs ne ∙ none
    ]

apart_acked : (opened : OpenTrees) (t : TreeNo) (hs : HeldAnswers) → AreApart opened hs → AreApart opened (acked t hs)
apart_acked opened t hs apart = λ u there. apart_at opened t u hs (apart u there)

-- it is the row, and the node may do it
pub acked_step : (s : ScriptData) (from : NodeNo) (t : TreeNo) (v : Version) (n : NodeCore) (x : Scratch)
    (answered : Option Answered)
    → IsCoreReady s from.0 n → in_window n.parts.turns.low.0 v.0 ≡ true
    → answered ≡ answer_when_acked t (held_answers n.parts.homes)
    → x.sent ≡ answer_letters s (by_tree n.refusals) answered → x.acts ≡ [] → x.staged ≡ []
    → IsCoreStepOf (acked_core s from.0 t v (core_of n)) n
    (core_meant (acked_plan t from v answered (held_in t (held_answers n.parts.homes))) x)
acked_step s from t v n x answered ready near free letters acts none =
    let hs = held_answers n.parts.homes in
    let opened = open_trees n.parts.homes in
    record {
      row = acked_ready s from t v n x answered free letters acts none;
      may = record {
        parts = record {
          fits = record {
            counting = none_counted s n v from x.sent ready.parts near;
            items = subst (λ (staged : StagedItems). IsWindowedTable n.parts.turns.low.0 (pending staged n.parts.items))
                (sym none) ready.parts.window.items;
            home = tt;
          };
          small = ready.parts.small;
          window = ready.parts.window;
        };
        holds = ack_may t hs (held_in t hs) x refl;
        asks = ack_asks t (held_in t hs) x (counts_of n.parts.counters).nodes _;
        apart = subst (λ (gs : HeldAnswers). AreApart opened gs) (sym (ack_holds t hs (held_in t hs) x refl))
            (apart_acked opened t hs ready.apart);
      };
    }

pub decide_step : (s : ScriptData) (p : ℕ) (from : NodeNo) (t : TreeNo) (v : Version) (commit : Bool) (n : NodeCore)
    (x : Scratch) (home : ℕ)
    → IsCoreReady s from.0 n → in_window n.parts.turns.low.0 v.0 ≡ true → IsHeldTable n.parts.items
    → pending x.staged n.parts.items ≡ decided_items s p t v commit n.parts.items
    → home ≡ home_of s t.0 → home_of s t.0 < s.nodes
    → x.sent ≡ record { to = record { 0 = home }; body = bodies.Decided t v } ∷ []
    → x.acts ≡ Applied t commit ∷ []
    → IsCoreStepOf (decide_core s p from.0 t v commit (core_of n)) n (core_meant (decide_plan t from v) x)
decide_step s p from t v commit n x home ready near held items at there letters acts =
    let low = n.parts.turns.low.0 in
    record {
      row = decide_ready s p from t v commit n x home items at letters acts;
      may = record {
        parts = record {
          fits = record {
            counting = one_counted s n t v from home x.sent ready.parts near at there letters;
            items = subst (λ (table : Table). IsWindowedTable low table) (sym items)
                (decided_kept low s p t v commit n.parts.items held ready.parts.window.items near);
            home = tt;
          };
          small = ready.parts.small;
          window = ready.parts.window;
        };
        holds = tt;
        asks = tt;
        apart = ready.apart;
      };
    }
