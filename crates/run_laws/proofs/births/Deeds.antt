-- In every run each Did is of a born transaction's subtransaction at its node, once, and that of an update transaction
-- meets no lock that conflicts.
use Rattle.std.proofs.Common.{◌≡◌, ℕ, zero, suc, ◌+◌, ◌≤◌, true, false, List, [], ◌∷◌, ◌++◌, take, refl, sym, ap, ◌∙◌, arith, Option, Some, None}
use Rattle.std.specs.Prelude.{nat_lt, slice_get}
use Rattle.tv_base.specs.declared.numbers.ItemNo.{ItemNo}
use Rattle.tv_base.specs.declared.numbers.SubNo.{SubNo}
use Rattle.tv_base.specs.declared.numbers.TreeNo.{TreeNo}
use Rattle.commute_ops.specs.declared.value.Value.{Value}
use Rattle.letter_types.specs.declared.acts.Act.TheVariants as acts
use Rattle.letter_types.specs.declared.bodies.Body.{Body}
use Rattle.letter_types.specs.declared.bodies.Body.TheVariants.{Root, Sub as SubLetter}
use Rattle.letter_types.specs.declared.entries.Entry.{Entry}
use Rattle.letter_types.specs.declared.entries.Letter.{Letter}
use Rattle.script_parts.specs.declared.parts.SubOp.{SubOp}
use Rattle.script_parts.specs.declared.parts.TreeKind.{TreeKind}
use Rattle.script_parts.specs.declared.parts.TreeKind.TheVariants.{Update}
use Rattle.script_parts.specs.ScriptData.{ScriptData, ops_of, updates}
use Rattle.world_model.specs.Core.{Core}
use Rattle.world_model.specs.Counts.{tally}
use Rattle.world_model.specs.Named.{tree_kind_at}
use Rattle.world_model.specs.Runs.{keeping_in}
use Rattle.world_model.specs.Strict.{core_keeping, kept_by_kind, meets}
use Rattle.world_model.specs.Votes.{conflict_by}
use Rattle.world_model.proofs.Bags.{one_if_both}
use Rattle.board_rules.specs.Histories.{Place}
use Rattle.board_rules.specs.Stands.{conflict_of}
use Rattle.board_rules.specs.Rules.{IsFreeDeed}
use Rattle.tree_laws.proofs.conflicts.ByActs.{kind_updates}
use Rattle.tree_laws.proofs.conflicts.NoConflicts.{not_parked}
use Rattle.tree_laws.proofs.kept.DoneOrParked.{meets_way}
use Rattle.tree_laws.specs.Dids.{is_did_act}
use Rattle.tree_laws.proofs.histories.Acts.{of_act}
use Rattle.tree_laws.proofs.stages.AptStagesOwn.{Doing}
use Rattle.tree_laws.proofs.apt.AptVersions.{before}
use Rattle.run_laws.proofs.keeping.AtOnce.{no_votes}
use Rattle.run_laws.proofs.each_tree.EveryDid.{is_vote_of, turn_is}
use Rattle.tree_laws.specs.Turns.{has_turn}
use Rattle.run_laws.proofs.act_order.Fronts.{first_places, front}
use Rattle.run_laws.proofs.act_order.Lasts.{AsksIn, OfRoot, OfSub}
use Rattle.run_laws.proofs.strict.QuietLocks.{conflict_stays}
use Rattle.run_laws.proofs.act_order.Turns.{IsThere, born_before, is_there, not_done, turn_once}
use Rattle.run_laws.proofs.act_order.RowActs.{lasting}

-- What is counted of turns, and what is there.
pub turn_sums : (t k : ℕ) (xs : List Place)
    → tally (of_act (has_turn t k)) xs ≡ tally (of_act (is_did_act t k)) xs + tally (of_act (is_vote_of t k)) xs
turn_sums t k [] = refl
turn_sums t k (x ∷ xs) = omega (arith, turn_is t k x.act, turn_sums t k xs)

pub at_least : {X : Type 0} (f : X → ℕ) (xs : List X) (i : ℕ) (y : X) → slice_get xs i ≡ Some y → f y ≤ tally f xs
at_least f [] i y is = absurd (cc is)
at_least f (x ∷ xs) zero y is = let same : x ≡ y = cc is in omega (arith, ap f same)
at_least f (x ∷ xs) (suc i) y is = omega (arith, at_least f xs i y is)

-- An update tree's subtransaction that isn't kept meets nothing.
unmet : (s : ScriptData) (c : Core) (t : TreeNo) (k : SubNo) (body : Body) → AsksIn body t k → tree_kind_at s t.0 ≡ Some Update
    → core_keeping s c body ≡ None → meets s t (ops_of s t.0 k.0) c ≡ None
unmet s c t k body (OfRoot is first) of now =
    let root : kept_by_kind s c t (Root t) (Some Update) ≡ None =
    ap (λ (o : Option TreeKind). kept_by_kind s c t (Root t) o) (sym of) ∙ ap (core_keeping s c) (sym is) ∙ now in
    ap (λ (j : SubNo). meets s t (ops_of s t.0 j.0) c) first
    ∙ not_parked t (record { 0 = 0 }) false c.node.turns.update (meets s t (ops_of s t.0 0) c) c root
unmet s c t k body (OfSub v is) of now =
    not_parked t k (nat_lt c.node.turns.update.0 v.0) v (meets s t (ops_of s t.0 k.0) c) c
    (ap (λ (o : Option TreeKind). kept_by_kind s c t (SubLetter t k v) o) (sym of) ∙ ap (core_keeping s c) (sym is) ∙ now)

free_before : (s : ScriptData) (past : List Entry) (e : Entry) (p : ℕ) (r : Letter) (t : TreeNo) (k : SubNo) → Doing s past e p r → AsksIn r.body t k
    → tree_kind_at s t.0 ≡ Some Update → IsThere s p t k → conflict_of s (before past) p t.0 (ops_of s t.0 k.0) ≡ None
free_before s past e p r t k g asks of there =
    sym (meets_way s past p t k g.valid g.run.1 g.does.brings.below there.node (kind_updates s t.0 Update of)
    (λ plain. no_votes s past plain g.valid g.run.1))
    ∙ ap conflict_by (unmet s (keeping_in s past p).core t k r.body asks of g.does.now)

-- nor does it before the acts of its entry that come first
pub conflict_front : (s : ScriptData) (past : List Entry) (e : Entry) (j p t : ℕ) (os : List SubOp) → lasting (take j e.acts) ≡ []
    → conflict_of s (front past e j) p t os ≡ conflict_of s (before past) p t os
conflict_front s past e j p t os none =
    ap (λ (ys : List Place). conflict_of s (before past ++ ys) p t os) (first_places e j)
    ∙ conflict_stays s (before past) p t e.actor.0 os (take j e.acts) none

-- So each Did follows its rule.
pub did_by_rule : (s : ScriptData) (past : List Entry) (e : Entry) (j : ℕ) (p : ℕ) (r : Letter) (t : TreeNo) (k : SubNo) (kind : TreeKind)
    (values : List (ItemNo × Value)) → Doing s past e p r → AsksIn r.body t k → tree_kind_at s t.0 ≡ Some kind
    → slice_get e.acts j ≡ Some (acts.Did t k values) → (updates s t.0 ≡ true → kind ≡ Update) → lasting (take j e.acts) ≡ []
    → IsFreeDeed s (front past e j) e.actor.0 t.0 k.0
did_by_rule s past e j p r t k kind values g asks of at updates_only none =
    let there = is_there s past e p r t k g asks in
    let own : has_turn t.0 k.0 (acts.Did t k values) ≡ 1 = one_if_both t.0 k.0 in
    record {
      born = born_before s past e j (acts.Did t k values) p r t k kind g asks of at refl;
      there = there.below;
      once = not_done t.0 k.0 (front past e j)
          (turn_once s past e j (acts.Did t k values) t.0 k.0 there.at g.valid g.run at own);
      node = there.node ∙ sym g.does.brings.at;
      free = λ up.
          conflict_front s past e j e.actor.0 t.0 (ops_of s t.0 k.0) none
          ∙ ap (λ (q : ℕ). conflict_of s (before past) q t.0 (ops_of s t.0 k.0)) g.does.brings.at
          ∙ free_before s past e p r t k g asks (of ∙ ap (λ (x : TreeKind). Some x) (updates_only up)) there;
    }
