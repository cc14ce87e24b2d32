-- In every run each subtransaction of a read transaction gives what its items are worth, and so does each yes.
use Rattle.std.proofs.Common.{◌≡◌, ℕ, Bool, true, false, List, [], ◌∷◌, ◌++◌, reverse, refl, sym, ap, subst, ◌∙◌, Option, Some, None}
use Rattle.std.specs.Prelude.{slice_get}
use Rattle.tv_base.specs.declared.numbers.ItemNo.{ItemNo}
use Rattle.tv_base.specs.declared.numbers.SubNo.{SubNo}
use Rattle.tv_base.specs.declared.numbers.TreeNo.{TreeNo}
use Rattle.commute_ops.specs.declared.value.Value.{Value}
use Rattle.letter_types.specs.declared.acts.Act.{Act}
use Rattle.letter_types.specs.declared.acts.Act.TheVariants as acts
use Rattle.letter_types.specs.declared.entries.Entry.{Entry}
use Rattle.letter_types.specs.declared.entries.Letter.{Letter}
use Rattle.letter_types.specs.declared.votes.Cause.{Cause}
use Rattle.script_parts.specs.declared.parts.TreeKind.TheVariants.{Update, Strict}
use Rattle.script_parts.specs.ScriptData.{ScriptData, reads}
use Rattle.script_parts.specs.Valid.{IsValid}
use Rattle.world_model.specs.Asked.{asked_ops, asked_version}
use Rattle.world_model.specs.Core.{Core}
use Rattle.world_model.specs.Named.{tree_kind_at}
use Rattle.world_model.specs.Notices.{act_of}
use Rattle.world_model.specs.Reads.{gets}
use Rattle.world_model.specs.Runs.{IsStepRun, keeping_in, node_in}
use Rattle.world_model.specs.Strict.{notice_by}
use Rattle.world_model.specs.Votes.{voted}
use Rattle.board_rules.specs.Histories.{Place, places_at}
use Rattle.board_rules.specs.Right.{IsRight, IsRightAct}
use Rattle.tree_laws.proofs.kept.Parkings.{kind_reads_by}
use Rattle.tree_laws.proofs.stages.AptStagesOwn.{Doing}
use Rattle.tree_laws.proofs.apt.AptVersions.{before}
use Rattle.tree_laws.proofs.histories.Histories.{at_each_act_more}
use Rattle.run_laws.proofs.act_order.RowActs.{is_lasting}
use Rattle.run_laws.proofs.act_order.Fronts.{act_of_place, front, one_by_one, placed}
use Rattle.run_laws.proofs.act_order.Lasts.{Applies, AsksIn, Frees, Lasts, Reads, Updates, Votes, cause_there, lasts}
use Rattle.run_laws.proofs.worth.RightReads.{read_is_right}
use Rattle.run_laws.proofs.worth.RightVotes.{vote_is_right}

-- An act of an entry is right at its place.
abbrev IsRightHere : ScriptData → List Entry → Entry → ℕ → Act → Type 0
IsRightHere s past e j a = IsRightAct s (reverse past) (front past e j ++ placed e.actor.0 a ∷ []) a

voted_right : (s : ScriptData) (past : List Entry) (e : Entry) (j : ℕ) (a : Act) (p : ℕ) (r : Letter) (t : TreeNo) (k : SubNo) (o : Option Cause)
    (values : List (ItemNo × Value)) → Doing s past e p r → AsksIn r.body t k → tree_kind_at s t.0 ≡ Some Strict
    → values ≡ gets (asked_version (node_in s past p).turns.update r.body) (asked_ops s r.body) (node_in s past p).items
    → slice_get e.acts j ≡ Some a → cause_there s (keeping_in s past p).core t r.body ≡ o → a ≡ act_of t k (notice_by (voted o values))
    → IsRightHere s past e j a
voted_right s past e j a p r t k None values g asks of given at is so =
    subst (IsRightHere s past e j) (sym so)
    (λ strict. vote_is_right s past e j p r t k None values g asks of given is (at ∙ ap (λ (b : Act). Some b) so))
voted_right s past e j a p r t k (Some cause) values g asks of given at is so =
    subst (IsRightHere s past e j) (sym so)
    (λ strict. vote_is_right s past e j p r t k (Some cause) values g asks of given is (at ∙ ap (λ (b : Act). Some b) so))

lasting_right : (s : ScriptData) (past : List Entry) (e : Entry) (j : ℕ) (a : Act) → slice_get e.acts j ≡ Some a → Lasts s past e j a
    → IsRightHere s past e j a
lasting_right s past e j a at (Updates p r t k g asks of is none) =
    let other : reads s t.0 ≡ false = kind_reads_by s t.0 (Some Update) of in
    subst (IsRightHere s past e j) (sym is) (λ read. absurd (cc (read, other)))
lasting_right s past e j a at (Reads p r t k values g asks of is none) =
    subst (IsRightHere s past e j) (sym is)
    (λ read. read_is_right s past e j p r t k values g asks of (at ∙ ap (λ (b : Act). Some b) is) none)
lasting_right s past e j a at (Votes p r t k g asks of is none) =
    let c : Core = (keeping_in s past p).core in
    voted_right s past e j a p r t k (cause_there s c t r.body)
    (gets (asked_version c.node.turns.update r.body) (asked_ops s r.body) c.node.items) g asks of refl at refl is
lasting_right s past e j a at (Applies p r t v commit g is so none) = subst (IsRightHere s past e j) (sym so) tt
lasting_right s past e j a at (Frees p r t g is so none) = subst (IsRightHere s past e j) (sym so) tt

other_right : (s : ScriptData) (past : List Entry) (e : Entry) (j : ℕ) (a : Act) → is_lasting a ≡ false → IsRightHere s past e j a
other_right s past e j (acts.Did t k values) brief = absurd (cc brief)
other_right s past e j (acts.Voted t k vote) brief = absurd (cc brief)
other_right s past e j acts.Finished brief = tt
other_right s past e j _ brief = tt

act_right : (s : ScriptData) (past : List Entry) (e : Entry) (j : ℕ) (a : Act) → IsValid s → IsStepRun s (e ∷ past) → slice_get e.acts j ≡ Some a
    → (test : Bool) → is_lasting a ≡ test → IsRightHere s past e j a
act_right s past e j a valid run at true is = lasting_right s past e j a at (lasts s past e j a valid run at is)
act_right s past e j a valid run at false is = other_right s past e j a is

pub place_right : (s : ScriptData) (past : List Entry) (e : Entry) (j : ℕ) (y : Place) → IsValid s → IsStepRun s (e ∷ past)
    → slice_get (places_at e) j ≡ Some y → IsRightAct s (reverse past) (front past e j ++ y ∷ []) y.act
place_right s past e j y valid run is =
    let there = act_of_place e j y is in
    subst (λ (n : ℕ). IsRightAct s (reverse past) (front past e j ++ placed n y.act ∷ []) y.act) (sym there.1)
    (act_right s past e j y.act valid run there.0 (is_lasting y.act) refl)

-- So the run is right.
pub right_run : (s : ScriptData) (past : List Entry) → IsValid s → IsStepRun s past → IsRight s (reverse past)
right_run s [] valid run = λ n e here. absurd (cc here)
right_run s (e ∷ past) valid run =
    at_each_act_more (λ (b : List Entry) (xs : List Place) (y : Place). IsRightAct s b (xs ++ y ∷ []) y.act) e past (right_run s past valid run.1)
    (one_by_one (λ (xs : List Place) (y : Place). IsRightAct s (reverse past) (xs ++ y ∷ []) y.act) (before past) (places_at e)
    (λ j y is. place_right s past e j y valid run is))
