-- The plans of an answer and of a decision are their rows, and the node may do them.
use Rattle.std.proofs.Common.{◌≡◌, ◌<◌, ◌≤◌, Bool, List, [], ◌∷◌, ◌++◌, length, refl, ap, sym, subst, ◌∙◌, append_assoc, Option, Some, None}
use Rattle.tv_base.specs.declared.numbers.NodeNo.{NodeNo}
use Rattle.letter_types.specs.declared.acts.Act.{Act}
use Rattle.letter_types.specs.declared.acts.Act.TheVariants as acts
use Rattle.letter_types.specs.declared.bodies.Body.TheVariants.{Decide}
use Rattle.letter_types.specs.declared.entries.Outgoing.{Outgoing}
use Rattle.tree_home.specs.HeldAnswers.{held_answers}
use Rattle.tree_home.specs.declared.homes.Answered.{Answered}
use Rattle.tx_trees.specs.ScriptData.{ScriptData, client_of, subs_at, visited_by}
use Rattle.world_model.specs.Notices.{reply_letters}
use Rattle.world_model.specs.Strict.{decided, none_refuses, release_letters, to_each}
use Rattle.tree_step.proofs.Replied.{after_more, do_more, has_fit}
use Rattle.tree_step.specs.Changes.{MayDo, after_change, part_row}
use Rattle.tree_step.specs.Core.{AreApart, core_of}
use Rattle.tree_step.specs.CoreChanges.{IsCoreStepOf, numbers_of_nodes, with_votes}
use Rattle.tree_step.specs.Meant.{core_in, doing_meant, out_in, part_meant, refusals_meant, votes_meant}
use Rattle.tree_step.specs.Node.{Node, data_of}
use Rattle.tree_step.specs.declared.node_core.NodeCore.{NodeCore}
use Rattle.tree_step.specs.declared.plan.HoldPlan.TheVariants.{Hold, Stay}
use Rattle.tree_step.specs.declared.plan.Plan.{Plan}
use Rattle.tree_step.specs.declared.plan.Scratch.{Scratch}
use Rattle.tree_step.specs.declared.plan.VotePlan.{VotePlan}
use Rattle.node_machine.proofs.tree_rows.DecidedAtHome.{decided_step}
use Rattle.node_machine.specs.Answering.{IsAnsweredPlan, IsApartAfter, IsDecidable, IsDecidedPlan, MayDecide, node_after}
use Rattle.node_machine.specs.inside.Decided.{plan_with}

-- a tree that is answered: the answer goes behind what is sent
pub answered_planned : (s : ScriptData) (v : VotePlan) (n : NodeCore) (x : Scratch) (sent : List Outgoing)
    → MayDo (doing_meant x.plan.doing x) x.sent n.parts → IsApartAfter (part_meant x) n
    → sent ≡ x.sent ++ release_letters s x.answered ++ reply_letters (client_of s) x.answered
    → IsAnsweredPlan s v n x (record x { plan = plan_with x.plan.doing v Stay; sent = sent })
answered_planned s v n x sent may apart letters =
    let st = data_of n.parts in
    let change = doing_meant x.plan.doing x in
    let releases = release_letters s x.answered in
    let reply = reply_letters (client_of s) x.answered in
    let is : sent ≡ x.sent ++ (releases ++ reply) = letters ∙ append_assoc x.sent releases reply in
    let after : after_change change sent st ≡ node_after (part_meant x) n =
    ap (λ (os : List Outgoing). after_change change os st) is
    ∙ after_more change x.sent (releases ++ reply) st (has_fit change x.sent n.parts may.fits) in
    record {
      row = λ i. record {
        state = record (with_votes (votes_meant v x) (core_of n)) { node = after i };
        sent = letters i;
        acts = x.acts;
      };
      may = record {
        parts = subst (λ (os : List Outgoing). MayDo change os n.parts) (sym is)
            (do_more change x.sent (releases ++ reply) n.parts may);
        holds = tt;
        asks = tt;
        apart = subst (λ (y : Node). AreApart y.homes (held_answers n.parts.homes)) (sym after) apart;
      };
    }

-- a strict tree that misses a vote isn't decided
pub undecided : (s : ScriptData) (v : VotePlan) (n : NodeCore) (x : Scratch)
    → MayDo (doing_meant x.plan.doing x) x.sent n.parts → IsApartAfter (part_meant x) n → x.answered ≡ None
    → IsDecidedPlan s v n x (record x { plan = plan_with x.plan.doing v Stay })
undecided s v n x may apart none =
    let c = with_votes (votes_meant v x) (core_of n) in
    let o = part_row (part_meant x) (data_of n.parts) in
    let y : Scratch = record x { plan = plan_with x.plan.doing v Stay } in
    subst (λ (a : Option Answered). IsCoreStepOf (decided s c o a) n (core_in y)) (sym none)
    (record { row = refl; may = record { parts = may; holds = tt; asks = tt; apart = apart } })

-- what the scratch has once it is decided
abbrev pub deciding : Scratch → Plan → Answered → List NodeNo → List Outgoing → List Act → Scratch
deciding x p a told sent done = record x { plan = p; held = a.values; told = told; sent = sent; acts = done }

-- one that misses none is
pub decided_planned : (s : ScriptData) (v : VotePlan) (n : NodeCore) (a : Answered) (commit : Bool) (x : Scratch)
    (told : List NodeNo) (sent : List Outgoing) (done : List Act)
    → MayDo (doing_meant x.plan.doing x) x.sent n.parts → IsApartAfter (part_meant x) n
    → MayDecide s (part_meant x) n x.answered → x.answered ≡ Some a
    → length told ≤ 64 → (0 < length (subs_at s a.tree.0) → 0 < length told)
    → commit ≡ none_refuses a.tree (refusals_meant v x n.refusals) → numbers_of_nodes told ≡ visited_by s a.tree.0
    → sent ≡ x.sent ++ to_each (Decide a.tree a.version commit) (numbers_of_nodes told)
    → done ≡ x.acts ++ acts.Decided a.tree commit ∷ []
    → IsDecidedPlan s v n x (deciding x (plan_with x.plan.doing v (Hold a.tree a.version)) a told sent done)
decided_planned s v n a commit x told sent done may apart decide is few some known names letters acted =
    let p = part_meant x in
    let votes = votes_meant v x in
    let y = deciding x (plan_with x.plan.doing v (Hold a.tree a.version)) a told sent done in
    let c = with_votes votes (core_of n) in
    let o = part_row p (data_of n.parts) in
    let can : IsDecidable s p n a = subst (λ (o : Option Answered). MayDecide s p n o) is decide in
    subst (λ (b : Option Answered). IsCoreStepOf (decided s c o b) n (core_in y)) (sym is)
    (decided_step s p votes n a commit told (out_in y) may apart can few (some can.there) known names letters acted)
