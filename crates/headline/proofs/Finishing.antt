-- In every run of every valid script the client finishes once, when all is over, and nobody else does.
use Rattle.std.proofs.Common.{◌≡◌, ◌≢◌, ℕ, Bool, true, false, List, [], ◌∷◌, refl, sym, ap, subst, ◌∙◌, arith, Option, Some, None}
use Rattle.std.specs.Prelude.{if◌then◌else◌, nat_lt}
use Rattle.tv_base.specs.declared.numbers.SubNo.{SubNo}
use Rattle.tv_base.specs.declared.numbers.TreeNo.{TreeNo}
use Rattle.tv_base.specs.declared.numbers.Version.{Version}
use Rattle.letter_types.specs.declared.acts.Act.{Act}
use Rattle.letter_types.specs.declared.acts.Act.TheVariants as acts
use Rattle.letter_types.specs.declared.bodies.Body.{Body}
use Rattle.letter_types.specs.declared.bodies.Body.TheVariants.{Root, Sub as SubLetter, Done, Turn, Show, Sweep, Decide, Decided, Release, AskDone, AskAsked, Order, Ask}
use Rattle.letter_types.specs.declared.bodies.Notice.{Notice}
use Rattle.letter_types.specs.declared.bodies.Notice.TheVariants as notices
use Rattle.letter_types.specs.declared.entries.Entry.{Entry}
use Rattle.letter_types.specs.declared.entries.Outgoing.{Outgoing}
use Rattle.letter_types.specs.declared.votes.Vote.{Vote}
use Rattle.letter_types.specs.Steps.{Out}
use Rattle.tree_home.specs.declared.homes.Answered.{Answered}
use Rattle.tx_trees.specs.ScriptData.{ScriptData, client_of}
use Rattle.tx_trees.specs.Valid.{IsValid}
use Rattle.tx_trees.specs.declared.parts.TreeKind.{TreeKind}
use Rattle.tx_trees.specs.declared.parts.TreeKind.TheVariants.{Update, Read, Strict}
use Rattle.world_model.specs.Asked.{asked_ops, asked_version, tree_part}
use Rattle.world_model.specs.Client.{Client, nudge, submit, with_answer, with_end}
use Rattle.world_model.specs.Core.{Core}
use Rattle.world_model.specs.Counts.{one_if, tally}
use Rattle.world_model.specs.Done.{TreeOut, note_part, turned_if}
use Rattle.world_model.specs.Named.{is_strict_at, tree_kind_at}
use Rattle.world_model.specs.Node.{Effect, Node}
use Rattle.world_model.specs.Notices.{act_of, values_of}
use Rattle.world_model.specs.Reads.{getting}
use Rattle.world_model.specs.Runs.{IsStepRun, client_in, keeping_in}
use Rattle.world_model.specs.Strict.{answered, core_by_kind, core_row, decided, locks_by, none_refuses, note_core, noted_vote, refused_there, voting}
use Rattle.world_model.specs.Updates.{touching}
use Rattle.world_model.specs.Votes.{vote_of}
use Rattle.world_model.proofs.Bags.{tally-append}
use Rattle.world_model.proofs.Cases.{Case, Coordinates, NodeDoes, NodeKeeps, Submits, case}
use Rattle.world_model.proofs.Epochs.{ask_each, order_each}
use Rattle.world_model.proofs.Flows.{client_kept}
use Rattle.world_model.proofs.Nexts.{MadeByClient}
use Rattle.advance_laws.proofs.right.ClientSteps.{Aside, Begins, ClientStep, Ends, Hears, Tells, client_step}
use Rattle.tree_laws.specs.Ends.{is_finish}
use Rattle.tree_laws.proofs.decided.AptRulings.{keeping_acts}
use Rattle.tree_laws.proofs.histories.Client.{IsOver, finish_count, finishes_once, over_then}
use Rattle.run_laws.proofs.each_tree.EveryApt.{all_apt}
use Rattle.headline.proofs.Passes.{answer_ended, end_ended, passed_run}

-- No act of a row of a core is the end.
told_none : (t : TreeNo) (k : SubNo) (n : Notice) → tally is_finish (act_of t k n ∷ []) ≡ 0
told_none t k (notices.Did values) = refl
told_none t k (notices.Yes values) = refl
told_none t k (notices.No cause) = refl

turned_none : (raises : Bool) (v : ℕ) → tally is_finish (turned_if raises v) ≡ 0
turned_none true v = refl
turned_none false v = refl

part_none : (s : ScriptData) (p from : ℕ) (v : Version) (raises : Bool) (e : Effect) (body : Body) (st : Node)
    → tally is_finish (tree_part s p from v raises e body st).out.acts ≡ 0
part_none s p from v raises e (Root t) st = omega (arith, told_none t (record { 0 = 0 }) e.notice)
part_none s p from v raises e (SubLetter t k w) st =
    omega (
      arith,
      tally-append is_finish (turned_if raises v.0) (act_of t k e.notice ∷ []),
      turned_none raises v.0,
      told_none t k e.notice,
    )
part_none s p from v raises e _ st = refl

decided_none : (s : ScriptData) (c : Core) (o : TreeOut) (found : Option Answered) → tally is_finish o.out.acts ≡ 0
    → tally is_finish (decided s c o found).acts ≡ 0
decided_none s c o None none = none
decided_none s c o (Some a) none =
    omega (arith, none, tally-append is_finish o.out.acts (acts.Decided a.tree (none_refuses a.tree c.refusals) ∷ []))

kind_none : (s : ScriptData) (p from : ℕ) (t : TreeNo) (body : Body) (kind : Option TreeKind) (c : Core)
    → tally is_finish (core_by_kind s p from t body kind c).acts ≡ 0
kind_none s p from t body (Some Update) c =
    let v : Version = asked_version c.node.turns.update body in
    part_none s p from v (nat_lt c.node.turns.update.0 v.0) (touching v (asked_ops s body) c.node.items) body c.node
kind_none s p from t body (Some Read) c =
    let v : Version = asked_version c.node.turns.read body in
    part_none s p from v false (getting v (asked_ops s body) c.node.items) body c.node
kind_none s p from t body (Some Strict) c =
    let v : Version = asked_version c.node.turns.update body in
    let raises : Bool = nat_lt c.node.turns.update.0 v.0 in
    let vote : Vote = vote_of c.locks c.node.items t v (asked_ops s body) in
    let o : TreeOut = tree_part s p from v raises (voting vote c.node.items) body c.node in
    let noted : Core = record c { locks = locks_by vote t (asked_ops s body) c.locks; refusals = noted_vote body vote c.refusals } in
    decided_none s noted o o.answered (part_none s p from v raises (voting vote c.node.items) body c.node)
kind_none s p from t body None c = refl

pick : (b : Bool) (x y : Out Core) → tally is_finish x.acts ≡ 0 → tally is_finish y.acts ≡ 0
    → tally is_finish (if b then x else y).acts ≡ 0
pick true x y l r = l
pick false x y l r = r

note_none : (s : ScriptData) (from : ℕ) (t : TreeNo) (k : SubNo) (v : Version) (notice : Notice) (c : Core)
    → tally is_finish (note_core s from t k v notice c).acts ≡ 0
note_none s from t k v notice c =
    let o : TreeOut = note_part from t.0 k.0 v.0 (values_of notice) c.node in
    let noted : Core = record c { refusals = refused_there t k notice c } in
    pick (is_strict_at s t.0) (decided s noted o o.answered) (answered s c o) (decided_none s noted o o.answered refl) refl

row_none : (s : ScriptData) (p from : ℕ) (body : Body) (c : Core) → tally is_finish (core_row s p c from body).acts ≡ 0
row_none s p from (Root t) c = kind_none s p from t (Root t) (tree_kind_at s t.0) c
row_none s p from (SubLetter t k v) c = kind_none s p from t (SubLetter t k v) (tree_kind_at s t.0) c
row_none s p from (Done t k v notice) c = note_none s from t k v notice c
row_none s p from (Decide t v commit) c = refl
row_none s p from (Decided t v) c = refl
row_none s p from (Release t) c = refl
row_none s p from (Turn v) c = turned_none (nat_lt c.node.turns.update.0 v.0) v.0
row_none s p from (Show v) c = refl
row_none s p from (Sweep v) c = refl
row_none s p from (AskDone v k) c = refl
row_none s p from (AskAsked v k) c = refl
row_none s p from (Order e what v) c =
    order_each (λ (o : Out Core). tally is_finish o.acts ≡ 0) s e what v c refl refl
    (λ to. turned_none (nat_lt c.node.turns.update.0 v.0) v.0) (λ to new. refl) (λ to new. refl)
row_none s p from (Ask e) c = ask_each (λ (o : Out Core). tally is_finish o.acts ≡ 0) s e c refl refl
row_none s p from _ c = refl

-- so nobody but the client finishes
pub none_finishes : (s : ScriptData) (past : List Entry) (e : Entry) → e.actor.0 ≢ client_of s → Case s past e → tally is_finish e.acts ≡ 0
none_finishes s past e ne (NodeDoes p r d) =
    ap (λ (xs : List Act). tally is_finish xs) d.acts ∙ row_none s p r.from.0 r.body (keeping_in s past p).core
none_finishes s past e ne (NodeKeeps p r k d) =
    ap (λ (xs : List Act). tally is_finish xs) d.acts
    ∙ keeping_acts is_finish s (keeping_in s past p).core r.body k
    (record { turned = λ v. refl; parked = λ t j i u. refl; waits = λ t v w. refl }) d.keeps
none_finishes s past e ne (Coordinates at made) = ap (λ (xs : List Act). tally is_finish xs) made.acts
none_finishes s past e ne (Submits at says) = absurd (ne at)

-- The client in a run.
pub record IsFinishing (s : ScriptData) (past : List Entry) : Type 0 where
  pub once : finish_count past ≡ one_if (client_in s past).finished
  pub over : (client_in s past).finished ≡ true → IsOver s (client_in s past)

-- it submits what it may, with what it has heard
submits_on : (s : ScriptData) (past : List Entry) (e : Entry) (c : Client) (first : List Outgoing) → IsFinishing s past
    → c.finished ≡ (client_in s past).finished → (c.finished ≡ true → IsOver s c) → MadeByClient s past e (submit s c first)
    → IsFinishing s (e ∷ past)
submits_on s past e c first old same over made = record {
  once = omega (
    arith,
    old.once,
    ap (λ (xs : List Act). tally is_finish xs) made.acts,
    ap one_if same,
    ap (λ (x : Client). one_if x.finished) made.state,
    finishes_once s c first,
  );
  over = subst (λ (x : Client). x.finished ≡ true → IsOver s x) (sym made.state) (over_then s c first over);
}

-- it stays as it is, and nobody finishes
goes_on : (s : ScriptData) (past : List Entry) (e : Entry) → IsFinishing s past → tally is_finish e.acts ≡ 0
    → client_in s (e ∷ past) ≡ client_in s past → IsFinishing s (e ∷ past)
goes_on s past e old none kept = record {
  once = omega (arith, old.once, ap (λ (x : Client). one_if x.finished) kept, none);
  over = subst (λ (x : Client). x.finished ≡ true → IsOver s x) (sym kept) old.over;
}

finishing_next : (s : ScriptData) (past : List Entry) (e : Entry) → IsValid s → IsStepRun s (e ∷ past) → IsFinishing s past → ClientStep s past e
    → IsFinishing s (e ∷ past)
finishing_next s past e valid run old (Begins is made) = submits_on s past e (client_in s past) [] old refl old.over made
finishing_next s past e valid run old (Hears t v answer is lt made) =
    let c = client_in s past in
    submits_on s past e (with_answer t.0 c) (nudge s ∷ []) old refl
    (λ done. record { all = (old.over done).all; ended = answer_ended c t.0 s.rows (old.over done).ended }) made
finishing_next s past e valid run old (Ends v is made) =
    let c = client_in s past in
    let small = (passed_run s past valid run.1).small in
    submits_on s past e (with_end s v c) [] old refl
    (λ done. record { all = (old.over done).all; ended = end_ended s v c s.rows small (old.over done).ended }) made
finishing_next s past e valid run old (Tells n is loses made) =
    goes_on s past e old (ap (λ (xs : List Act). tally is_finish xs) made.acts) made.state
finishing_next s past e valid run old (Aside ne) =
    goes_on s past e old (none_finishes s past e ne (case s past e run.0 (all_apt s (e ∷ past) valid run).0)) (client_kept s past e ne)

-- in every run
pub finishing_run : (s : ScriptData) (past : List Entry) → IsValid s → IsStepRun s past → IsFinishing s past
finishing_run s [] valid run = record { once = refl; over = λ done. absurd (cc done) }
finishing_run s (e ∷ past) valid run =
    finishing_next s past e valid run (finishing_run s past valid run.1) (client_step s past e valid run)
