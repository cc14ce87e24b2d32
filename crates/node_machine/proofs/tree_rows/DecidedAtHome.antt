-- A strict tree is decided: the step is its row, and the node may do it. Which nodes a tree visits.
use Rattle.std.proofs.Common.{◌≡◌, ℕ, zero, suc, ◌<◌, ◌≤◌, Bool, true, false, List, [], ◌∷◌, ◌++◌, length, refl, ap, sym, subst, ◌∙◌, arith, Some, None, inl, inr}
use Rattle.std.specs.Prelude.{All, if◌then◌else◌}
use Rattle.std.specs.List.{AllByRecursion}
use Rattle.std.proofs.lemmas.Bool.{cases_eq, eq-eqb}
use Rattle.std.proofs.lemmas.List.{length-append, length-map}
use Rattle.std.proofs.lemmas.List.Elements.{All-from_recursion}
use Rattle.tv_base.specs.declared.numbers.NodeNo.{NodeNo}
use Rattle.item_versions.specs.Window.{in_window}
use Rattle.letter_types.specs.declared.acts.Act.TheVariants as acts
use Rattle.letter_types.specs.declared.bodies.Body.TheVariants.{Decide}
use Rattle.letter_types.specs.declared.entries.Outgoing.{Outgoing}
use Rattle.letter_types.specs.declared.entries.StepOut.{StepOut}
use Rattle.pair_counters.specs.Numbers.{asked_all}
use Rattle.tree_home.proofs.Maps.{put_at-other}
use Rattle.tree_home.specs.HeldAnswers.{HeldAnswers, held_answers, held_for, holding}
use Rattle.tree_home.specs.Homes.{OpenTrees, home_in}
use Rattle.tree_home.specs.Maps.{by_tree}
use Rattle.tree_home.specs.declared.homes.Answered.{Answered}
use Rattle.tx_trees.specs.ScriptData.{ScriptData, subs_at, visited, visited_by, visits}
use Rattle.tx_trees.specs.declared.parts.Sub.{Sub}
use Rattle.world_model.specs.Strict.{decided, none_refuses, to_each}
use Rattle.tree_step.proofs.Replied.{HasRequests, after_more, do_more, has_fit}
use Rattle.tree_step.specs.Changes.{MayDo, after_change, part_row}
use Rattle.tree_step.specs.Node.{Node, data_of}
use Rattle.tree_step.specs.steps.TreeStep.{TreeStep}
use Rattle.node_machine.proofs.tree_rows.NoHeldAnswerOpen.{none_some}
use Rattle.tree_step.specs.CoreChanges.{IsCoreStepOf, core_step_row, locks_with, numbers_of_nodes, refusals_with, with_votes}
use Rattle.tree_step.specs.Core.{AreApart, core_of}
use Rattle.tree_step.specs.steps.CoreStep.{CoreStep}
use Rattle.tree_step.specs.steps.HoldChange.{Hold}
use Rattle.tree_step.specs.steps.VoteChange.{VoteChange}
use Rattle.tree_step.specs.declared.node_core.NodeCore.{NodeCore}
use Rattle.node_machine.specs.Answering.{IsApartAfter, IsDecidable, node_after}

-- the nodes that a tree visits are nodes
below_more : (n m : ℕ) (b : Bool) (xs : List ℕ) → n < m → AllByRecursion (λ (q : ℕ). q < m) xs
    → AllByRecursion (λ (q : ℕ). q < m) (xs ++ (if b then n ∷ [] else []))
below_more n m true [] lt all = (lt, tt)
below_more n m false [] lt all = tt
below_more n m b (x ∷ xs) lt all = (all.0, below_more n m b xs lt all.1)

visited_below : (xs : List Sub) (n m : ℕ) → n ≤ m → AllByRecursion (λ (q : ℕ). q < m) (visited xs n)
visited_below xs zero m le = tt
visited_below xs (suc n) m le =
    below_more n m (visits xs n) (visited xs n) (omega arith) (visited_below xs n m (omega arith))

of_nodes : (m : ℕ) (qs : List NodeNo) → AllByRecursion (λ (q : ℕ). q < m) (numbers_of_nodes qs)
    → AllByRecursion (λ (q : NodeNo). q.0 < m) qs
of_nodes m [] all = tt
of_nodes m (q ∷ qs) all = (all.0, of_nodes m qs all.1)

pub nodes_below : (xs : List Sub) (n : ℕ) (qs : List NodeNo) → numbers_of_nodes qs ≡ visited xs n
    → All (λ (q : NodeNo). q.0 < n) qs
nodes_below xs n qs is =
    All-from_recursion (λ (q : NodeNo). q.0 < n) qs (of_nodes n qs
    (subst (λ (rs : List ℕ). AllByRecursion (λ (q : ℕ). q < n) rs) (sym is) (visited_below xs n n (omega arith))))

-- a tree with a root at a node visits some
visited_first : (x : Sub) (xs : List Sub) (n : ℕ) → x.node.0 < n → 0 < length (visited (x ∷ xs) n)
visited_first x xs zero lt = absurd (omega arith)
visited_first x xs (suc n) lt =
    elim (cases_eq x.node.0 n) [
      | inl eq ↦
          let here : visits (x ∷ xs) n ≡ true = rw (eq-eqb x.node.0 n eq) refl in
          rw here (omega (arith, length-append (visited (x ∷ xs) n) (n ∷ [])))
      | inr ne ↦
          let rest = visited_first x xs n (omega arith) in
          let more : List ℕ = if visits (x ∷ xs) n then n ∷ [] else [] in
          omega (arith, rest, length-append (visited (x ∷ xs) n) more)
    ]

pub visited_some : (xs : List Sub) (n : ℕ) → AllByRecursion (λ (x : Sub). x.node.0 < n) xs → 0 < length xs
    → 0 < length (visited xs n)
visited_some [] n all some = absurd (omega arith)
visited_some (x ∷ xs) n all some = visited_first x xs n all.0

-- as many nodes are named as there are numbers
pub as_many : (qs : List NodeNo) (rs : List ℕ) → numbers_of_nodes qs ≡ rs → length qs ≡ length rs
as_many qs rs is = omega (arith, length-map qs (λ (q : NodeNo). q.0), ap (λ (ns : List ℕ). length ns) is)

-- the step of the decision
abbrev pub decided_change : TreeStep → VoteChange → Answered → List NodeNo → StepOut → CoreStep
decided_change part votes a nodes out = record {
  parts = record { change = part.parts.change; out = out };
  votes = votes;
  holds = Hold a nodes;
  epoch = None;
}

-- it is the row
decided_ready : (s : ScriptData) (part : TreeStep) (votes : VoteChange) (n : NodeCore) (a : Answered)
    (commit : Bool) (nodes : List NodeNo) (out : StepOut)
    → HasRequests part.parts.change part.parts.out.sent
    → commit ≡ none_refuses a.tree (refusals_with votes (by_tree n.refusals))
    → numbers_of_nodes nodes ≡ visited_by s a.tree.0
    → out.sent ≡ part.parts.out.sent ++ to_each (Decide a.tree a.version commit) (numbers_of_nodes nodes)
    → out.acts ≡ part.parts.out.acts ++ acts.Decided a.tree commit ∷ []
    → core_step_row (decided_change part votes a nodes out) (core_of n)
    ≡ decided s (with_votes votes (core_of n)) (part_row part (data_of n.parts)) (Some a)
decided_ready s part votes n a commit nodes out has known names letters told =
    let st = data_of n.parts in
    let change = part.parts.change in
    let old = part.parts.out.sent in
    let hs = held_answers n.parts.homes in
    let after = ap (λ (os : List Outgoing). after_change change os st) letters
    ∙ after_more change old (to_each (Decide a.tree a.version commit) (numbers_of_nodes nodes)) st has in
    let node = ap (λ (x : Node). record x { counts = asked_all a.version.0 (numbers_of_nodes nodes) x.counts }) after
    ∙ ap (λ (qs : List ℕ). record (node_after part n) { counts = asked_all a.version.0 qs (node_after part n).counts }) names in
    let held = ap (λ (k : ℕ). holding a k hs) (as_many nodes (visited_by s a.tree.0) names) in
    let sent = letters
    ∙ ap (λ (qs : List ℕ). old ++ to_each (Decide a.tree a.version commit) qs) names
    ∙ ap (λ (b : Bool). old ++ to_each (Decide a.tree a.version b) (visited_by s a.tree.0)) known in
    let done = told ∙ ap (λ (b : Bool). part.parts.out.acts ++ acts.Decided a.tree b ∷ []) known in
    λ i. record {
      state = record {
        node = node i;
        locks = locks_with votes n.locks;
        holds = held i;
        refusals = refusals_with votes (by_tree n.refusals);
        epoch = n.epoch;
      };
      sent = sent i;
      acts = done i;
    }

-- then, too, no open tree has a held answer
apart_holding : (opened : OpenTrees) (a : Answered) (k : ℕ) (hs : HeldAnswers) → home_in a.tree opened ≡ None
    → AreApart opened hs → AreApart opened (holding a k hs)
apart_holding opened a k hs gone apart = λ u there.
    elim (cases_eq u.0 a.tree.0) [
      | inl eq ↦ absurd (none_some (home_in u opened) (ap (λ (j : ℕ). opened j) eq ∙ gone) there)
      | inr ne ↦ put_at-other a.tree.0 u.0 (Some (held_for k a)) hs ne ∙ apart u there
    ]

-- and the node may do it
pub decided_step : (s : ScriptData) (part : TreeStep) (votes : VoteChange) (n : NodeCore) (a : Answered)
    (commit : Bool) (nodes : List NodeNo) (out : StepOut)
    → MayDo part.parts.change part.parts.out.sent n.parts
    → IsApartAfter part n → IsDecidable s part n a → length nodes ≤ 64 → 0 < length nodes
    → commit ≡ none_refuses a.tree (refusals_with votes (by_tree n.refusals))
    → numbers_of_nodes nodes ≡ visited_by s a.tree.0
    → out.sent ≡ part.parts.out.sent ++ to_each (Decide a.tree a.version commit) (numbers_of_nodes nodes)
    → out.acts ≡ part.parts.out.acts ++ acts.Decided a.tree commit ∷ []
    → IsCoreStepOf (decided s (with_votes votes (core_of n)) (part_row part (data_of n.parts)) (Some a)) n
    (decided_change part votes a nodes out)
decided_step s part votes n a commit nodes out may apart can few some known names letters told =
    let st = data_of n.parts in
    let change = part.parts.change in
    let old = part.parts.out.sent in
    let more = to_each (Decide a.tree a.version commit) (numbers_of_nodes nodes) in
    let hs = held_answers n.parts.homes in
    let has = has_fit change old n.parts may.fits in
    let after : after_change change out.sent st ≡ node_after part n =
    ap (λ (os : List Outgoing). after_change change os st) letters ∙ after_more change old more st has in
    record {
      row = decided_ready s part votes n a commit nodes out has known names letters told;
      may = record {
        parts = subst (λ (os : List Outgoing). MayDo change os n.parts) (sym letters)
            (do_more change old more n.parts may);
        holds = (some, can.unheld);
        asks = (
          subst (λ (x : Node). in_window x.turns.low.0 a.version.0 ≡ true) (sym after) can.near,
          subst (λ (k : ℕ). All (λ (q : NodeNo). q.0 < k) nodes) (sym can.script)
              (nodes_below (subs_at s a.tree.0) s.nodes nodes names),
          few,
        );
        apart = subst (λ (x : Node). AreApart x.homes (holding a (length nodes) hs)) (sym after)
            (apart_holding (node_after part n).homes a (length nodes) hs can.gone apart);
      };
    }
