-- In every run of every valid script the order of acts is what the laws of strict transactions need: each act follows
-- its rule, and strict transactions are born late.
use Rattle.std.proofs.Common.{◌≡◌, ℕ, Bool, true, false, List, [], ◌∷◌, take, refl, sym, ap, ◌∙◌, subst, Option, Some, None}
use Rattle.std.specs.Prelude.{slice_get}
use Rattle.tv_base.specs.declared.numbers.ItemNo.{ItemNo}
use Rattle.tv_base.specs.declared.numbers.SubNo.{SubNo}
use Rattle.tv_base.specs.declared.numbers.TreeNo.{TreeNo}
use Rattle.commute_ops.specs.declared.value.Value.{Value}
use Rattle.letter_types.specs.declared.acts.Act.{Act}
use Rattle.letter_types.specs.declared.acts.Act.TheVariants as acts
use Rattle.letter_types.specs.declared.entries.Entry.{Entry}
use Rattle.letter_types.specs.declared.entries.Letter.{Letter}
use Rattle.letter_types.specs.declared.votes.Cause.{Cause}
use Rattle.script_parts.specs.declared.parts.TreeKind.TheVariants.{Update, Read, Strict}
use Rattle.script_parts.specs.ScriptData.{ScriptData, updates}
use Rattle.script_parts.specs.Valid.{IsValid}
use Rattle.world_model.specs.Asked.{asked_ops, asked_version}
use Rattle.world_model.specs.Core.{Core}
use Rattle.world_model.specs.Named.{tree_kind_at}
use Rattle.world_model.specs.Notices.{act_of}
use Rattle.world_model.specs.Reads.{gets}
use Rattle.world_model.specs.Runs.{IsStepRun, keeping_in}
use Rattle.world_model.specs.Strict.{notice_by}
use Rattle.world_model.specs.Votes.{voted}
use Rattle.board_rules.specs.Histories.{Place}
use Rattle.board_rules.specs.Rules.{FollowsRules, IsByRule}
use Rattle.tree_laws.proofs.conflicts.ByActs.{kind_updates}
use Rattle.tree_laws.proofs.stages.AptStagesOwn.{Doing}
use Rattle.tree_laws.proofs.apt.AptVersions.{before}
use Rattle.run_laws.proofs.act_order.RowActs.{is_lasting, lasting}
use Rattle.run_laws.proofs.strict.Decisions.{applied_by_rule, decided_by_rule}
use Rattle.run_laws.proofs.births.Deeds.{did_by_rule}
use Rattle.run_laws.proofs.act_order.Fronts.{act_of_place, front}
use Rattle.run_laws.proofs.act_order.InEntries.{InEntry, entry_run, in_entry}
use Rattle.run_laws.proofs.act_order.Lasts.{Applies, AsksIn, Frees, Lasts, Reads, Updates, Votes, cause_there, lasts}
use Rattle.run_laws.proofs.each_tree.Late.{born_late}
use Rattle.run_laws.proofs.strict.Releases.{freed_by_rule}
use Rattle.run_laws.proofs.strict.YesVotes.{yes_by_rule}

-- A vote, by its cause.
voted_by_rule : (s : ScriptData) (past : List Entry) (e : Entry) (j : ℕ) (a : Act) (p : ℕ) (r : Letter) (t : TreeNo) (k : SubNo) (o : Option Cause)
    (values : List (ItemNo × Value)) → Doing s past e p r → AsksIn r.body t k → tree_kind_at s t.0 ≡ Some Strict → slice_get e.acts j ≡ Some a
    → lasting (take j e.acts) ≡ [] → cause_there s (keeping_in s past p).core t r.body ≡ o → a ≡ act_of t k (notice_by (voted o values))
    → IsByRule s (front past e j) e.actor.0 a
voted_by_rule s past e j a p r t k (Some cause) values g asks of at none is so = subst (IsByRule s (front past e j) e.actor.0) (sym so) tt
voted_by_rule s past e j a p r t k None values g asks of at none is so =
    subst (IsByRule s (front past e j) e.actor.0) (sym so)
    (yes_by_rule s past e j p r t k values g asks of (at ∙ ap (λ (b : Act). Some b) so) is none)

lasting_by_rule : (s : ScriptData) (past : List Entry) (e : Entry) (j : ℕ) (a : Act) → slice_get e.acts j ≡ Some a → Lasts s past e j a
    → IsByRule s (front past e j) e.actor.0 a
lasting_by_rule s past e j a at (Updates p r t k g asks of is none) =
    subst (IsByRule s (front past e j) e.actor.0) (sym is)
    (did_by_rule s past e j p r t k Update [] g asks of (at ∙ ap (λ (b : Act). Some b) is) (λ up. refl) none)
lasting_by_rule s past e j a at (Reads p r t k values g asks of is none) =
    let plain : updates s t.0 ≡ false = kind_updates s t.0 Read of in
    subst (IsByRule s (front past e j) e.actor.0) (sym is)
    (did_by_rule s past e j p r t k Read values g asks of (at ∙ ap (λ (b : Act). Some b) is) (λ up. absurd (cc (up, plain))) none)
lasting_by_rule s past e j a at (Votes p r t k g asks of is none) =
    let c : Core = (keeping_in s past p).core in
    voted_by_rule s past e j a p r t k (cause_there s c t r.body)
    (gets (asked_version c.node.turns.update r.body) (asked_ops s r.body) c.node.items) g asks of at none refl is
lasting_by_rule s past e j a at (Applies p r t v commit g is so none) =
    subst (IsByRule s (front past e j) e.actor.0) (sym so)
    (applied_by_rule s past e j p r t v commit g is (at ∙ ap (λ (b : Act). Some b) so))
lasting_by_rule s past e j a at (Frees p r t g is so none) =
    subst (IsByRule s (front past e j) e.actor.0) (sym so) (freed_by_rule s past e j p r t g is (at ∙ ap (λ (b : Act). Some b) so))

-- Each act of an entry follows its rule.
other_by_rule : (s : ScriptData) (past : List Entry) (e : Entry) (j : ℕ) (a : Act) → IsValid s → IsStepRun s (e ∷ past)
    → slice_get e.acts j ≡ Some a → is_lasting a ≡ false → IsByRule s (front past e j) e.actor.0 a
other_by_rule s past e j (acts.Did t k values) valid run at quiet = absurd (cc quiet)
other_by_rule s past e j (acts.Voted t k vote) valid run at quiet = absurd (cc quiet)
other_by_rule s past e j (acts.Freed t) valid run at quiet = absurd (cc quiet)
other_by_rule s past e j (acts.Applied t commit) valid run at quiet = absurd (cc quiet)
other_by_rule s past e j (acts.Decided t commit) valid run at quiet = decided_by_rule s past e j t.0 commit valid run at
other_by_rule s past e j acts.Finished valid run at quiet = tt
other_by_rule s past e j _ valid run at quiet = tt

act_by_rule : (s : ScriptData) (past : List Entry) (e : Entry) (j : ℕ) (a : Act) → IsValid s → IsStepRun s (e ∷ past)
    → slice_get e.acts j ≡ Some a → (test : Bool) → is_lasting a ≡ test → IsByRule s (front past e j) e.actor.0 a
act_by_rule s past e j a valid run at true is = lasting_by_rule s past e j a at (lasts s past e j a valid run at is)
act_by_rule s past e j a valid run at false is = other_by_rule s past e j a valid run at is

place_by_rule : (s : ScriptData) (past : List Entry) (i : ℕ) (y : Place) → IsValid s → IsStepRun s past → InEntry past i y
    → IsByRule s (take i (before past)) y.node y.act
place_by_rule s past i y valid run l =
    let here : IsStepRun s (l.entry ∷ l.earlier) = entry_run s past i y run l in
    let there = act_of_place l.entry l.place y l.is in
    subst (λ (xs : List Place). IsByRule s xs y.node y.act) (sym l.front)
    (subst (λ (n : ℕ). IsByRule s (front l.earlier l.entry l.place) n y.act) (sym there.1)
    (act_by_rule s l.earlier l.entry l.place y.act valid here there.0 (is_lasting y.act) refl))

-- So the acts of a run follow the rules.
pub follows_rules : (s : ScriptData) (past : List Entry) → IsValid s → IsStepRun s past → FollowsRules s (before past)
follows_rules s past valid run = record {
  acts = λ i y is. place_by_rule s past i y valid run (in_entry past i y is);
  births = born_late s past valid run;
}
