-- In every run a transaction's commit is applied at each node that it visits once, when the transaction is complete,
-- and nowhere if it wasn't decided.
use Rattle.std.proofs.Common.{◌≡◌, ◌⊎◌, inl, inr, ℕ, ◌+◌, ◌<◌, ◌≤◌, ◌==◌, ◌&&◌, Bool, true, false, List, length, reverse, refl, ap, ◌∙◌, arith, Some}
use Rattle.std.specs.Prelude.{slice_get}
use Rattle.std.proofs.lemmas.Bool.{eqb-true}
use Rattle.std.proofs.lemmas.List.{take_all}
use Rattle.std.proofs.lemmas.Option.{slice_get_within}
use Rattle.letter_types.specs.declared.entries.Entry.{Entry}
use Rattle.script_parts.specs.declared.parts.Sub.{Sub}
use Rattle.script_parts.specs.ScriptData.{ScriptData, node_of, sub_at, subs_at, visits}
use Rattle.script_parts.specs.Valid.{IsValid}
use Rattle.script_parts.proofs.SubsOf.{sub_node_below}
use Rattle.world_model.specs.Runs.{IsStepRun}
use Rattle.board_rules.specs.Histories.{IsWhole, Place, applies, was_applied}
use Rattle.board_rules.proofs.ActTests.{applies_as_one}
use Rattle.board_rules.proofs.Positions.{act_found, found_all}
use Rattle.board_rules.proofs.Rules.{applying}
use Rattle.board_rules.proofs.Wholes.{whole_applied}
use Rattle.tree_laws.specs.Applied.{applied_at, decided_as}
use Rattle.tree_laws.proofs.histories.Acts.{any_counted, counted_any}
use Rattle.tree_laws.proofs.decided.AptApplied.{applied_where_decided}
use Rattle.tree_laws.proofs.decided.AptDecided.{Once, once_in_run}
use Rattle.tree_laws.proofs.apt.AptVersions.{before}
use Rattle.tree_laws.proofs.loads.Counts.{zero_or}
use Rattle.run_laws.proofs.each_tree.EveryApt.{all_apt}
use Rattle.run_laws.proofs.each_tree.EveryWhole.{applied_in, applies_here, strict_is}
use Rattle.run_laws.proofs.act_order.Rules.{follows_rules}
use Rattle.run_laws.specs.AllOrNone.{IsAllOrNone}

-- a subtransaction at a node that its tree visits
record VisitedBy (s : ScriptData) (t q : ℕ) : Type 0 where
  number : ℕ
  below : number < length (subs_at s t)
  node : node_of s t number ≡ q

visited_by : (s : ScriptData) (t q : ℕ) → visits (subs_at s t) q ≡ true → VisitedBy s t q
visited_by s t q is =
    let f = found_all (λ (x : Sub). x.node.0 == q) (subs_at s t) is in
    let here : sub_at s t f.place ≡ Some f.item = f.is in
    let at : node_of s t f.place ≡ f.item.node.0 = rw (here, node_of) refl in
    record {
      number = f.place;
      below = slice_get_within (subs_at s t) f.place f.item f.is;
      node = at ∙ eqb-true f.item.node.0 q f.passes;
    }

-- a decision is applied at nodes that its tree visits alone
applied_visits : (s : ScriptData) (past : List Entry) (t q : ℕ) → IsValid s → IsStepRun s past → 1 ≤ applied_at past t true q
    → visits (subs_at s t) q ≡ true
applied_visits s past t q valid run some =
    let zs : List Place = before past in
    let any : was_applied t q zs ≡ true =
    counted_any (applies_here t q) (λ (x : Place). (x.node == q) && applies t x.act) zs (λ x. refl) (omega (arith, some, applied_in past t q)) in
    let f = act_found (applies t) zs q (length zs) (ap (was_applied t q) (take_all (length zs) zs (omega arith)) ∙ any) in
    let c = applies_as_one t f.at.act f.at.passes in
    (applying s zs f.place q t c.0 (follows_rules s past valid run).acts (record { act = f.at.act; is = f.at.is; passes = c.1 })).visited

-- so a commit is applied at a node no more often than it was decided
applied_some : (s : ScriptData) (past : List Entry) (t q : ℕ) (commit : Bool) → IsValid s → IsStepRun s past → t < length s.trees
    → visits (subs_at s t) q ≡ true → applied_at past t commit q ≤ decided_as past t commit
applied_some s past t q commit valid run lt is =
    let v = visited_by s t q is in
    let low : q < s.nodes = omega (arith, v.node, sub_node_below s t v.number valid v.below) in
    omega (arith, applied_where_decided s past t q commit valid (all_apt s past valid run) run lt low is)

commits_most : (s : ScriptData) (past : List Entry) (t q : ℕ) → IsValid s → IsStepRun s past → t < length s.trees
    → applied_at past t true q ≤ decided_as past t true
commits_most s past t q valid run lt = by (zero_or (applied_at past t true q)) where
  by : (applied_at past t true q ≡ 0) ⊎ (0 < applied_at past t true q) → applied_at past t true q ≤ decided_as past t true
  by (inl none) = omega (arith, none)
  by (inr some) = applied_some s past t q true valid run lt (applied_visits s past t q valid run (omega (arith, some)))

-- a whole tree's is applied wherever it visits
commits_all : (s : ScriptData) (past : List Entry) (t q : ℕ) → IsValid s → IsStepRun s past → t < length s.trees
    → 1 ≤ decided_as past t true → IsWhole s (reverse past) t → visits (subs_at s t) q ≡ true → Once s past t → applied_at past t true q ≡ 1
commits_all s past t q valid run lt some whole is o =
    let zs : List Place = before past in
    let strict = strict_is s t (slice_get s.trees t) refl ∙ o.strict (omega (arith, some)) in
    let v = visited_by s t q is in
    let any : 1 ≤ applied_at past t true q + applied_at past t false q =
    omega (
      arith,
      applied_in past t q,
      any_counted (applies_here t q) (λ (x : Place). (x.node == q) && applies t x.act) zs (λ x. refl)
          (whole_applied s zs t v.number q strict whole v.below v.node),
    ) in
    omega (arith, any, some, o.once, applied_some s past t q true valid run lt is, applied_some s past t q false valid run lt is)

-- so the tree takes effect at all of its nodes or at none
pub all_or_none : (s : ScriptData) (past : List Entry) (t : ℕ) → IsValid s → IsStepRun s past → t < length s.trees → IsAllOrNone s past t
all_or_none s past t valid run lt =
    let o : Once s past t = once_in_run s past t valid (all_apt s past valid run) run lt in
    record {
      once = λ q. omega (arith, o.once, commits_most s past t q valid run lt);
      all = λ some whole q is. commits_all s past t q valid run lt some whole is o;
      aborted = λ some q. omega (arith, some, o.once, commits_most s past t q valid run lt);
      undecided = λ none q. omega (arith, none, commits_most s past t q valid run lt);
    }
