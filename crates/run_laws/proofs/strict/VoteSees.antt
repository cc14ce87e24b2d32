-- What a vote finds in every run: a conflict is the one that the look back names; and if there is none, its node sees
-- of its items what they are worth before its entry.
use Rattle.std.proofs.Common.{◌≡◌, ℕ, true, false, List, length, take, reverse, refl, sym, ap, subst, ◌∙◌, arith, Some, None}
use Rattle.std.specs.Prelude.{slice_get}
use Rattle.std.proofs.lemmas.List.{take_all}
use Rattle.tv_base.proofs.Truths.{same_test}
use Rattle.tv_base.specs.declared.numbers.SubNo.{SubNo}
use Rattle.tv_base.specs.declared.numbers.TreeNo.{TreeNo}
use Rattle.tv_base.specs.declared.numbers.Version.{Version}
use Rattle.letter_types.specs.declared.acts.Act.{Act}
use Rattle.letter_types.specs.declared.entries.Entry.{Entry}
use Rattle.letter_types.specs.declared.entries.Letter.{Letter}
use Rattle.nc_locks.specs.Locks.{met_in}
use Rattle.script_parts.specs.Wants.{wanted_by}
use Rattle.script_parts.specs.declared.parts.SubOp.{SubOp}
use Rattle.script_parts.specs.declared.parts.TreeKind.TheVariants.{Strict}
use Rattle.script_parts.specs.ScriptData.{ScriptData, ops_of}
use Rattle.world_model.specs.Asked.{asked_version}
use Rattle.world_model.specs.Core.{Core}
use Rattle.world_model.specs.Named.{is_strict_at, tree_kind_at}
use Rattle.world_model.specs.Reads.{seen_in}
use Rattle.world_model.specs.Runs.{keeping_in, node_in}
use Rattle.world_model.specs.Votes.{conflict_by}
use Rattle.world_model.proofs.Bags.{tally-append}
use Rattle.board_rules.specs.Histories.{Place, places_at}
use Rattle.board_rules.specs.Stands.{conflict_of, was_voted}
use Rattle.board_rules.specs.Worth.{worth}
use Rattle.board_rules.proofs.ClosedWorth.{IsClosed}
use Rattle.board_rules.proofs.ItemAt.{item_at, op_row}
use Rattle.board_rules.proofs.Rules.{IsItemAt}
use Rattle.board_rules.proofs.Votes.{closed_at_vote}
use Rattle.tree_laws.proofs.conflicts.RunConflicts.{runs_meet_conflicts}
use Rattle.tree_laws.specs.Turns.{has_turn}
use Rattle.tree_laws.proofs.histories.Acts.{of_act}
use Rattle.tree_laws.proofs.stages.AptStagesOwn.{Doing}
use Rattle.tree_laws.proofs.apt.AptVersions.{before}
use Rattle.run_laws.proofs.strict.VoteLocks.{has_some}
use Rattle.run_laws.proofs.each_tree.EveryWhole.{strict_is}
use Rattle.run_laws.proofs.act_order.Lasts.{AsksIn}
use Rattle.run_laws.proofs.act_order.Rules.{follows_rules}
use Rattle.run_laws.proofs.act_order.Turns.{is_there, not_voted, turn_once}
use Rattle.run_laws.proofs.births.Asking.{asked_low, low_update}
use Rattle.run_laws.proofs.worth.OwnWorth.{own_is_worth}

-- a conflict that its node meets
pub conflict_met : (s : ScriptData) (past : List Entry) (e : Entry) (p : ℕ) (r : Letter) (t : TreeNo) (k : SubNo) → Doing s past e p r
    → AsksIn r.body t k → tree_kind_at s t.0 ≡ Some Strict
    → conflict_by (met_in t (wanted_by (ops_of s t.0 k.0)) (keeping_in s past p).core.locks) ≡ conflict_of s (before past) p t.0 (ops_of s t.0 k.0)
conflict_met s past e p r t k g asks of =
    let c : Core = (keeping_in s past p).core in
    let strict : is_strict_at s t.0 ≡ true = rw (of, is_strict_at) refl in
    runs_meet_conflicts s past p t k (has_some s t.0 strict) g.valid g.run.1 g.does.brings.below (is_there s past e p r t k g asks).node

-- it has not voted before its entry
unvoted : (s : ScriptData) (past : List Entry) (e : Entry) (j p : ℕ) (a : Act) (r : Letter) (t : TreeNo) (k : SubNo) → Doing s past e p r
    → AsksIn r.body t k → slice_get e.acts j ≡ Some a → has_turn t.0 k.0 a ≡ 1 → was_voted t.0 k.0 (before past) ≡ false
unvoted s past e j p a r t k g asks at one =
    let once = turn_once s past e j a t.0 k.0 (is_there s past e p r t k g asks).at g.valid g.run at one in
    not_voted t.0 k.0 (before past)
    (omega (arith, once, tally-append (of_act (has_turn t.0 k.0)) (before past) (take j (places_at e))))

-- so its items are closed
vote_closed : (s : ScriptData) (past : List Entry) (e : Entry) (j p v i : ℕ) (a : Act) (r : Letter) (t : TreeNo) (k : SubNo) (o : SubOp)
    → Doing s past e p r → AsksIn r.body t k → tree_kind_at s t.0 ≡ Some Strict → slice_get e.acts j ≡ Some a → has_turn t.0 k.0 a ≡ 1
    → conflict_of s (before past) p t.0 (ops_of s t.0 k.0) ≡ None → slice_get (ops_of s t.0 k.0) i ≡ Some o → IsItemAt s p o.item.0
    → IsClosed s (before past) p o.item.0 v
vote_closed s past e j p v i a r t k o g asks of at one free is item =
    let zs : List Place = before past in
    let all : take (length zs) zs ≡ zs = take_all (length zs) zs (omega arith) in
    let strict : is_strict_at s t.0 ≡ true = rw (of, is_strict_at) refl in
    subst (λ (xs : List Place). IsClosed s xs p o.item.0 v) all
    (closed_at_vote s zs p o.item.0 t.0 k.0 (length zs) v (follows_rules s past g.valid g.run.1).acts item (record {
      strict = strict_is s t.0 (slice_get s.trees t.0) refl ∙ strict;
      there = (is_there s past e p r t k g asks).below;
      unvoted = ap (was_voted t.0 k.0) all ∙ unvoted s past e j p a r t k g asks at one;
      free = ap (λ (xs : List Place). conflict_of s xs p t.0 (ops_of s t.0 k.0)) all ∙ free;
      on = record { index = i; op = o; is = is; on = same_test o.item.0 };
    }))

pub vote_seen : (s : ScriptData) (past : List Entry) (e : Entry) (j p i : ℕ) (a : Act) (r : Letter) (t : TreeNo) (k : SubNo) (o : SubOp)
    → Doing s past e p r → AsksIn r.body t k → tree_kind_at s t.0 ≡ Some Strict → slice_get e.acts j ≡ Some a → has_turn t.0 k.0 a ≡ 1
    → conflict_of s (before past) p t.0 (ops_of s t.0 k.0) ≡ None → slice_get (ops_of s t.0 k.0) i ≡ Some o
    → seen_in (asked_version (node_in s past p).turns.update r.body) o.item (node_in s past p).items
    ≡ Some (worth s (reverse past) o.item.0 (asked_version (node_in s past p).turns.update r.body).0)
vote_seen s past e j p i a r t k o g asks of at one free is =
    let v : Version = asked_version (node_in s past p).turns.update r.body in
    let row = op_row s t.0 k.0 i o g.valid is in
    let node : row.row.node.0 ≡ p = sym row.node ∙ (is_there s past e p r t k g asks).node in
    let low = asked_low s past e p r t k (node_in s past p).turns.update g asks (low_update s past p g.valid g.run.1 g.does.brings.below) in
    own_is_worth s past p o.item.0 v.0 row.row g.valid g.run.1 g.does.brings.below row.there node low
    (vote_closed s past e j p v.0 i a r t k o g asks of at one free is (item_at s p o.item.0 row.row g.valid row.there node))
