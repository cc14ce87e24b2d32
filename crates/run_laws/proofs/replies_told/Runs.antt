-- In runs of enabled messages, of every script: homes have what was told, and what each entry sends of replies says it,
-- by all acts of the run.
use Rattle.std.proofs.Common.{◌≡◌, ◌≢◌, ◌⊎◌, inl, inr, ℕ, ◌+◌, ◌<◌, true, List, [], ◌∷◌, ◌++◌, length, refl, sym, ap, subst, ◌∙◌, arith, Option}
use Rattle.std.specs.Prelude.{is_some}
use Rattle.std.proofs.lemmas.Bool.{cases_eq}
use Rattle.std.proofs.lemmas.Bool.Decides.{nat_tests}
use Rattle.std.proofs.lemmas.List.{append-nil}
use Rattle.tv_base.specs.declared.numbers.SubNo.{SubNo}
use Rattle.tv_base.specs.declared.numbers.TreeNo.{TreeNo}
use Rattle.tv_base.specs.declared.numbers.Version.{Version}
use Rattle.letter_types.specs.Kept.{kept_without, wakes}
use Rattle.letter_types.specs.Steps.{Out}
use Rattle.letter_types.specs.declared.acts.Act.{Act}
use Rattle.letter_types.specs.declared.bodies.Body.{Body}
use Rattle.letter_types.specs.declared.bodies.Body.TheVariants.{Root, Sub as SubLetter, Done, Go}
use Rattle.letter_types.specs.declared.bodies.Notice.{Notice}
use Rattle.letter_types.specs.declared.entries.Entry.{Entry}
use Rattle.letter_types.specs.declared.entries.Letter.{Letter}
use Rattle.letter_types.specs.declared.entries.Outgoing.{Outgoing}
use Rattle.tx_trees.specs.ScriptData.{ScriptData, home_of, node_of, subs_at}
use Rattle.tx_trees.specs.Valid.{IsValid}
use Rattle.world_model.specs.AllApt.{AllApt}
use Rattle.world_model.specs.Core.{Core}
use Rattle.world_model.specs.Counts.{Each, tally}
use Rattle.world_model.specs.Keeping.{KeepingNode, woken_by}
use Rattle.world_model.specs.Kept.{kept_in, outstanding}
use Rattle.world_model.specs.Named.{is_named}
use Rattle.world_model.specs.Runs.{IsStepRun, MayFollow, client_in, keeping_in}
use Rattle.world_model.specs.Strict.{CoreKeeping, core_row}
use Rattle.world_model.proofs.Cases.{Case, Coordinates, Keeps, NodeDoes, NodeKeeps, Submits, apt_named, case}
use Rattle.world_model.proofs.EachOutstanding.{each_brought, each_kept, each_outstanding, each_took}
use Rattle.world_model.proofs.Every.{each_append, each_map, each_zero}
use Rattle.world_model.proofs.Keepings.{of_kept}
use Rattle.world_model.proofs.Outstanding.{keeping_elsewhere, outstanding_first}
use Rattle.world_model.proofs.Scripts.{SubAt, get_below, sub_here, tree_below}
use Rattle.world_model.proofs.Sends.{on}
use Rattle.board_rules.specs.Histories.{places_at, version_in}
use Rattle.board_rules.proofs.Places.{places_more, version_stays}
use Rattle.tree_laws.specs.Dids.{asks}
use Rattle.tree_laws.specs.Stages.{IsUnborn}
use Rattle.tree_laws.specs.Turns.{turns}
use Rattle.tree_laws.proofs.decided.AptDecided.{GathersNow, Now, note_gathers, once_in_run}
use Rattle.tree_laws.proofs.decided.AptDecisions.{dated_here, open_trees_carry_versions}
use Rattle.tree_laws.proofs.stages.AptStagesApart.{CountsNoOthers, client_none, coordinator_none, none_of_others}
use Rattle.tree_laws.proofs.stages.AptStagesOwn.{Doing, NoteAt, asked, note_at, root_home, root_unturned, sub_of_node, sub_place, unborn_by}
use Rattle.tree_laws.proofs.stages.AptStagesRun.{stages_of_trees}
use Rattle.tree_laws.proofs.apt.AptSteps.{enters, wakes_none}
use Rattle.tree_laws.proofs.apt.AptTurns.{no_turn_yet}
use Rattle.tree_laws.proofs.apt.AptVersions.{DoneIn, before, version_is}
use Rattle.tree_laws.proofs.homes.Staging.{told_one}
use Rattle.tree_laws.proofs.histories.Turns.{has_kind, work_version}
use Rattle.run_laws.proofs.replies_told.Rows.{Comes, CoreTold, NoteComes, RootComes, RowTold, SubComes, core_told}
use Rattle.run_laws.proofs.replies_told.Said.{acts_before, acts_next, undecided_before, unsaid_before}
use Rattle.run_laws.proofs.replies_told.Told.{BodyTold, Grows, OutTold, Told, body_more, quiet, silent_told, speaks, told_more}

-- the versions with which trees were born
abbrev pub versions_before : List Entry → ℕ → Option Version
versions_before past t = version_in t (before past)

pub versions_grow : (e : Entry) (past : List Entry) → Grows (versions_before past) (versions_before (e ∷ past))
versions_grow e past = λ t v is.
    ap (version_in t) (places_more e past) ∙ version_stays t (before past) (places_at e) (ap (λ (o : Option Version). is_some o) is) ∙ is

-- what an entry sends
abbrev pub SentTold : ScriptData → List Entry → Entry → Type 0
SentTold s past e = Each (OutTold s (acts_before past) (versions_before past)) e.sent

-- what holds after a past
pub record RunTold (s : ScriptData) (past : List Entry) : Type 0 where
  pub nodes : (p : ℕ) → p < s.nodes → CoreTold s (acts_before past) (versions_before past) (keeping_in s past p).core
  pub letters : Each (λ (l : Letter). BodyTold s (acts_before past) (versions_before past) l.to.0 l.body) (outstanding s past)

-- with an entry's acts
lifted : (s : ScriptData) (past : List Entry) (e : Entry) (c : Core) → CoreTold s (acts_before past) (versions_before past) c
    → CoreTold s (acts_before (e ∷ past)) (versions_before (e ∷ past)) c
lifted s past e c it =
    subst (λ (does : List Act). CoreTold s does (versions_before (e ∷ past)) c) (sym (acts_next e past))
    (told_more s (acts_before past) e.acts (versions_before past) (versions_before (e ∷ past)) c.node.homes c.holds c.refusals (versions_grow e past) it)

-- with the versions alone
dated : (s : ScriptData) (past : List Entry) (e : Entry) (c : Core) → CoreTold s (acts_before past) (versions_before past) c
    → CoreTold s (acts_before past) (versions_before (e ∷ past)) c
dated s past e c it =
    subst (λ (does : List Act). CoreTold s does (versions_before (e ∷ past)) c) (append-nil (acts_before past))
    (told_more s (acts_before past) [] (versions_before past) (versions_before (e ∷ past)) c.node.homes c.holds c.refusals (versions_grow e past) it)

letters_next : (s : ScriptData) (past : List Entry) (e : Entry) → MayFollow s past e → RunTold s past → SentTold s (e ∷ past) e
    → Each (λ (l : Letter). BodyTold s (acts_before (e ∷ past)) (versions_before (e ∷ past)) l.to.0 l.body) (outstanding s (e ∷ past))
letters_next s past e m r sent =
    let now : Letter → Type 0 = λ l. BodyTold s (acts_before (e ∷ past)) (versions_before (e ∷ past)) l.to.0 l.body in
    each_outstanding now s past e m
    (each_map (λ (l : Letter). BodyTold s (acts_before past) (versions_before past) l.to.0 l.body) now (outstanding s past)
    (λ l it.
    subst (λ (does : List Act). BodyTold s does (versions_before (e ∷ past)) l.to.0 l.body) (sym (acts_next e past))
    (body_more s (acts_before past) e.acts (versions_before past) (versions_before (e ∷ past)) l.to.0 l.body (versions_grow e past) it))
    r.letters)
    (each_map (OutTold s (acts_before (e ∷ past)) (versions_before (e ∷ past))) _ e.sent (λ o it i. it) sent)

-- what an entry comes to
pub record StepTold (s : ScriptData) (past : List Entry) (e : Entry) : Type 0 where
  pub run : RunTold s (e ∷ past)
  pub sent : SentTold s (e ∷ past) e

node_by : (s : ScriptData) (past : List Entry) (e : Entry) (p q : ℕ) → e.actor.0 ≡ p → q < s.nodes → RunTold s past
    → CoreTold s (acts_before (e ∷ past)) (versions_before (e ∷ past)) (keeping_in s (e ∷ past) p).core → (p ≡ q) ⊎ (p ≢ q)
    → CoreTold s (acts_before (e ∷ past)) (versions_before (e ∷ past)) (keeping_in s (e ∷ past) q).core
node_by s past e p q at lt r here (inl same) =
    subst (λ (i : ℕ). CoreTold s (acts_before (e ∷ past)) (versions_before (e ∷ past)) (keeping_in s (e ∷ past) i).core) same here
node_by s past e p q at lt r here (inr ne) =
    subst (λ (n : KeepingNode). CoreTold s (acts_before (e ∷ past)) (versions_before (e ∷ past)) n.core)
    (sym (keeping_elsewhere s past e q (λ is. ne (sym at ∙ is)))) (lifted s past e (keeping_in s past q).core (r.nodes q lt))

node_step : (s : ScriptData) (past : List Entry) (e : Entry) (p : ℕ) → MayFollow s past e → e.actor.0 ≡ p → RunTold s past
    → CoreTold s (acts_before (e ∷ past)) (versions_before (e ∷ past)) (keeping_in s (e ∷ past) p).core → SentTold s (e ∷ past) e → StepTold s past e
node_step s past e p m at r here sent = record {
  run = record {
    nodes = λ q lt. node_by s past e p q at lt r here (cases_eq p q);
    letters = letters_next s past e m r sent;
  };
  sent = sent;
}

apart_step : (s : ScriptData) (past : List Entry) (e : Entry) → MayFollow s past e → s.nodes < e.actor.0 + 1 → RunTold s past → SentTold s (e ∷ past) e
    → StepTold s past e
apart_step s past e m out r sent = record {
  run = record {
    nodes = λ q lt.
        subst (λ (n : KeepingNode). CoreTold s (acts_before (e ∷ past)) (versions_before (e ∷ past)) n.core)
        (sym (keeping_elsewhere s past e q (λ is. omega (arith, is, lt, out)))) (lifted s past e (keeping_in s past q).core (r.nodes q lt));
    letters = letters_next s past e m r sent;
  };
  sent = sent;
}

-- What comes to a node.
root_comes : (s : ScriptData) (past : List Entry) (e : Entry) (p : ℕ) (t : TreeNo) (r : Letter) → Doing s past e p r → r.body ≡ Root t
    → RootComes s (acts_before past) (versions_before (e ∷ past)) (keeping_in s past p).core t
root_comes s past e p t r g is =
    let c : Core = (keeping_in s past p).core in
    let at : p ≡ home_of s t.0 = root_home s past e p t r g is in
    let none : turns past t.0 0 ≡ 0 = root_unturned s past e p t r g is in
    let sub : SubAt s t.0 0 = sub_of_node s p t.0 0 (sym at) g.does.brings.below in
    let lt : t.0 < length s.trees = tree_below s t.0 0 sub in
    let first : 0 < length (subs_at s t.0) = get_below (subs_at s t.0) 0 sub.sub (sub_here s t.0 0 sub) in
    let unborn : IsUnborn s past t.0 = unborn_by s past t.0 sub none first (stages_of_trees s past g.valid g.apt.1 g.run.1 t.0 lt) in
    let done = dated_here s past e p r g.valid g.apt.1 g.run g.does in
    let named : is_named s p r.from.0 (Root t) ≡ true = ap (is_named s p r.from.0) (sym is) ∙ apt_named s p c r g.does.brings.apt in
    record {
      unsaid = unsaid_before past t.0 0 none;
      unheld = ap (λ (q : ℕ). (keeping_in s past q).core.holds t.0) at ∙ unborn.held;
      undecided = undecided_before past t.0 ((once_in_run s past t.0 g.valid g.apt.1 g.run.1 lt).unborn none);
      version = ap (version_in t.0) (places_more e past)
          ∙ version_is (version_in t.0 (before past ++ places_at e)) (work_version s c (Root t))
          (subst (λ (b : Body). DoneIn (before past ++ places_at e) (work_version s c b) b) is done);
      first = first;
      kind = has_kind s p t.0 0 g.does.brings.below named;
    }

sub_comes : (s : ScriptData) (past : List Entry) (e : Entry) (p : ℕ) (t : TreeNo) (k : SubNo) (v : Version) (r : Letter) → Doing s past e p r
    → r.body ≡ SubLetter t k v → SubComes s (acts_before past) t k
sub_comes s past e p t k v r g is =
    let at = sub_place s past e p t k v r g is in
    let sub : SubAt s t.0 k.0 = sub_of_node s p t.0 k.0 (sym at) g.does.brings.below in
    let one : asks t.0 k.0 r.body ≡ 1 = ap (asks t.0 k.0) is ∙ told_one t.0 k.0 k.0 refl in
    record {
      unsaid = unsaid_before past t.0 k.0 (no_turn_yet s past t.0 k.0 sub g.valid g.apt.1 g.run.1 (asked s past e p t.0 k.0 r g one));
      kind = has_kind s p t.0 k.0 g.does.brings.below (let there : node_of s t.0 k.0 ≡ p = sym at in grind (arith, nat_tests));
    }

letter_told : (s : ScriptData) (past : List Entry) (e : Entry) (p : ℕ) (r : Letter) → Doing s past e p r → RunTold s past
    → BodyTold s (acts_before past) (versions_before past) r.to.0 r.body
letter_told s past e p r g it =
    let P : Letter → Type 0 = λ l. BodyTold s (acts_before past) (versions_before past) l.to.0 l.body in
    each_brought P (kept_in s past p) e.took r e.took.body (each_kept P s past it.letters p g.does.brings.below) (each_took P s past e g.run.0 it.letters)
    g.does.brings.brings

note_by : (s : ScriptData) (past : List Entry) (e : Entry) (p : ℕ) (t : TreeNo) (k : SubNo) (v : Version) (notice : Notice) (r : Letter)
    → Doing s past e p r → r.body ≡ Done t k v notice → NoteAt s p t k notice → t.0 < length s.trees → BodyTold s (acts_before past) (versions_before past) r.to.0 r.body
    → GathersNow s past t.0 → NoteComes s (acts_before past) (versions_before (e ∷ past)) (keeping_in s past p).core t k notice
note_by s past e p t k v notice r g is n lt told (Now h it) =
    let its = subst (λ (b : Body). BodyTold s (acts_before past) (versions_before past) r.to.0 b) is told in
    let home = n.home in
    record {
      said = its.0;
      fits = its.1;
      below = n.below;
      kind = has_kind s p t.0 0 g.does.brings.below (let there : node_of s t.0 0 ≡ p = sym home in grind (arith, nat_tests));
      undecided = λ x at. undecided_before past t.0 ((once_in_run s past t.0 g.valid g.apt.1 g.run.1 lt).opened h it.home);
      version = λ x at. versions_grow e past t.0 x.version (open_trees_carry_versions s past p t x g.valid g.apt.1 g.run.1 g.does.brings.below at);
    }

note_comes : (s : ScriptData) (past : List Entry) (e : Entry) (p : ℕ) (t : TreeNo) (k : SubNo) (v : Version) (notice : Notice) (r : Letter)
    → Doing s past e p r → r.body ≡ Done t k v notice → RunTold s past
    → NoteComes s (acts_before past) (versions_before (e ∷ past)) (keeping_in s past p).core t k notice
note_comes s past e p t k v notice r g is it =
    let n : NoteAt s p t k notice = note_at s past e p t k v notice r g is in
    let lt : t.0 < length s.trees = tree_below s t.0 0 (sub_of_node s p t.0 0 (sym n.home) g.does.brings.below) in
    note_by s past e p t k v notice r g is n lt (letter_told s past e p r g it) (note_gathers s past e p t k v notice r g is lt)

comes_by : (s : ScriptData) (past : List Entry) (e : Entry) (p : ℕ) (r : Letter) (b : Body) → Doing s past e p r → r.body ≡ b → RunTold s past
    → Comes s (acts_before past) (versions_before (e ∷ past)) (keeping_in s past p).core b
comes_by s past e p r (Root t) g is it = root_comes s past e p t r g is
comes_by s past e p r (SubLetter t k v) g is it = sub_comes s past e p t k v r g is
comes_by s past e p r (Done t k v notice) g is it = note_comes s past e p t k v notice r g is it
comes_by s past e p r Go g is it = tt
comes_by s past e p r _ g is it = tt

-- A node does a letter.
does_told : (s : ScriptData) (past : List Entry) (e : Entry) (p : ℕ) (r : Letter) → Doing s past e p r → RunTold s past → StepTold s past e
does_told s past e p r g it =
    let c : Core = (keeping_in s past p).core in
    let vs : ℕ → Option Version = versions_before (e ∷ past) in
    let row : Out Core = core_row s p c r.from.0 r.body in
    let d = g.does in
    let t : RowTold s (acts_before past) vs row =
    core_told s (acts_before past) vs p r.from.0 r.body c (comes_by s past e p r r.body g refl it) (dated s past e c (it.nodes p d.brings.below)) in
    let same : acts_before past ++ row.acts ≡ acts_before (e ∷ past) =
    ap (λ (does : List Act). acts_before past ++ does) (sym d.acts) ∙ sym (acts_next e past) in
    let more : List Outgoing = wakes (woken_by c r.body) (kept_without (kept_in s past p) e.took.body) in
    let sent : Each (OutTold s (acts_before (e ∷ past)) vs) (row.sent ++ more) =
    each_append (OutTold s (acts_before (e ∷ past)) vs) row.sent more (subst (λ (does : List Act). Each (OutTold s does vs) row.sent) same t.sent)
    (quiet s (acts_before (e ∷ past)) vs more (wakes_none (on speaks) (woken_by c r.body) (kept_without (kept_in s past p) e.took.body) (λ x. refl))) in
    node_step s past e p g.run.0 d.brings.at it
    (subst (λ (x : Core). CoreTold s (acts_before (e ∷ past)) vs x) (sym d.core)
    (subst (λ (does : List Act). CoreTold s does vs row.state) same t.told))
    (subst (λ (os : List Outgoing). Each (OutTold s (acts_before (e ∷ past)) vs) os) (sym d.sent) sent)

-- A node keeps a letter.
abbrev LeavesTrees : Core → CoreKeeping → Type 0
LeavesTrees c k = (k.state.node.homes ≡ c.node.homes) × ((k.state.holds ≡ c.holds) × (k.state.refusals ≡ c.refusals))

keeps_told : (s : ScriptData) (past : List Entry) (e : Entry) (p : ℕ) (r : Letter) (k : CoreKeeping) → MayFollow s past e → Keeps s past e p r k → RunTold s past
    → StepTold s past e
keeps_told s past e p r k m d it =
    let c : Core = (keeping_in s past p).core in
    let now : List Act = acts_before (e ∷ past) in
    let vs : ℕ → Option Version = versions_before (e ∷ past) in
    let same : LeavesTrees c k =
    of_kept s c (LeavesTrees c) r.body k (record { parks = λ t j raises v met. (refl, (refl, refl)); waits = λ t. (refl, (refl, refl)) }) d.keeps in
    let old : CoreTold s now vs c = lifted s past e c (it.nodes p d.brings.below) in
    node_step s past e p m d.brings.at it
    (subst (λ (x : Core). CoreTold s now vs x) (sym d.core)
    (subst (λ hs. Told s now vs hs k.state.holds k.state.refusals) (sym same.0)
    (subst (λ holds. Told s now vs c.node.homes holds k.state.refusals) (sym same.1.0)
    (subst (λ rs. Told s now vs c.node.homes c.holds rs) (sym same.1.1) old))))
    (subst (λ (os : List Outgoing). Each (OutTold s now vs) os) (sym d.sent) tt)

-- Another actor.
speaks_no_others : CountsNoOthers speaks
speaks_no_others =
    none_of_others speaks (λ t. refl) (λ v. (refl, (refl, refl))) (λ e what v. (refl, refl)) (λ v k. (refl, refl)) (λ v. refl)
    (refl, (refl, refl)) (λ e k. (refl, refl))

step_by : (s : ScriptData) (past : List Entry) (e : Entry) → IsValid s → AllApt s (e ∷ past) → IsStepRun s (e ∷ past) → RunTold s past → Case s past e
    → StepTold s past e
step_by s past e valid apt run it (NodeDoes p r d) =
    does_told s past e p r (record { valid = valid; apt = apt; run = run; enters = enters s past e valid apt run; does = d }) it
step_by s past e valid apt run it (NodeKeeps p r k d) = keeps_told s past e p r k run.0 d it
step_by s past e valid apt run it (Coordinates at made) =
    apart_step s past e run.0 (omega (arith, at)) it
    (quiet s (acts_before (e ∷ past)) (versions_before (e ∷ past)) e.sent (coordinator_none speaks s e made speaks_no_others))
step_by s past e valid apt run it (Submits at says) =
    apart_step s past e run.0 (omega (arith, at)) it
    (quiet s (acts_before (e ∷ past)) (versions_before (e ∷ past)) e.sent
    (ap (λ (os : List Outgoing). tally (on speaks) os) says.0 ∙ client_none speaks s (client_in s past) e.took.body speaks_no_others))

start_told : (s : ScriptData) → RunTold s []
start_told s = record {
  nodes = λ p lt. record {
    opened = λ t h at. absurd (cc at);
    held = λ t h at. absurd (cc at);
    apart = λ t h at. refl;
    noes = λ t. tt;
    rests = λ t gone none. refl;
    plain = λ t is. refl;
  };
  letters = each_map (λ (l : Letter). speaks l.body ≡ 0) (λ (l : Letter). BodyTold s (acts_before []) (versions_before []) l.to.0 l.body) (outstanding s [])
      (λ l none. silent_told s (acts_before []) (versions_before []) l.to.0 l.body none)
      (each_zero (λ (l : Letter). speaks l.body) (outstanding s []) (omega (arith, outstanding_first (λ (l : Letter). speaks l.body) s)));
}

pub told_run : (s : ScriptData) (past : List Entry) → IsValid s → AllApt s past → IsStepRun s past → RunTold s past
told_run s [] valid apt run = start_told s
told_run s (e ∷ past) valid apt run =
    (step_by s past e valid apt run (told_run s past valid apt.1 run.1) (case s past e run.0 apt.0)).run

-- what an entry sends, by the acts up to its own
pub told_sent : (s : ScriptData) (past : List Entry) (e : Entry) → IsValid s → AllApt s (e ∷ past) → IsStepRun s (e ∷ past) → SentTold s (e ∷ past) e
told_sent s past e valid apt run = (step_by s past e valid apt run (told_run s past valid apt.1 run.1) (case s past e run.0 apt.0)).sent

-- and by those of all later entries too
abbrev pub AllSent : ScriptData → List Entry → List Entry → Type 0
AllSent s all past = Each (λ (e : Entry). SentTold s all e) past

sent_later : (s : ScriptData) (past : List Entry) (e : Entry) (old : List Entry) → AllSent s past old → AllSent s (e ∷ past) old
sent_later s past e old all =
    each_map (λ (x : Entry). SentTold s past x) (λ (x : Entry). SentTold s (e ∷ past) x) old
    (λ x sent.
    each_map (OutTold s (acts_before past) (versions_before past)) (OutTold s (acts_before (e ∷ past)) (versions_before (e ∷ past))) x.sent
    (λ o it.
    subst (λ (does : List Act). OutTold s does (versions_before (e ∷ past)) o) (sym (acts_next e past))
    (body_more s (acts_before past) e.acts (versions_before past) (versions_before (e ∷ past)) o.to.0 o.body (versions_grow e past) it))
    sent)
    all

pub all_sent : (s : ScriptData) (past : List Entry) → IsValid s → AllApt s past → IsStepRun s past → AllSent s past past
all_sent s [] valid apt run = tt
all_sent s (e ∷ past) valid apt run =
    (told_sent s past e valid apt run, sent_later s past e past (all_sent s past valid apt.1 run.1))
