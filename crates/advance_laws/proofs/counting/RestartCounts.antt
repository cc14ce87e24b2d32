-- The count of a coordinator that forgets: each of its entries is a step of a count, and the version that it counts is open
-- if it wasn't given yet.
use Rattle.std.proofs.Common.{◌≡◌, ℕ, ◌+◌, ◌<◌, ◌≤◌, ◌==◌, Bool, true, false, List, [], ◌∷◌, refl, sym, ap, subst, ◌∙◌, Option, Some, arith}
use Rattle.std.specs.Prelude.{if◌then◌else◌, max, is_some}
use Rattle.std.specs.List.{list_all}
use Rattle.tv_base.specs.Outside.{one_more}
use Rattle.tv_base.specs.declared.numbers.Version.{Version}
use Rattle.phase_out.specs.Counts.{nudged}
use Rattle.letter_types.specs.declared.bodies.Body.{Body}
use Rattle.letter_types.specs.declared.bodies.Body.TheVariants.{AdvanceNo, Ask, AskDone, AskedRow, Nudge, Obeyed, Order}
use Rattle.letter_types.specs.declared.bodies.What.{What}
use Rattle.letter_types.specs.declared.bodies.What.TheVariants.{Turn as ToTurn, Show as ToShow, Sweep as ToSweep}
use Rattle.letter_types.specs.declared.entries.Entry.{Entry}
use Rattle.letter_types.specs.declared.entries.Letter.{Letter}
use Rattle.letter_types.specs.declared.entries.Outgoing.{Outgoing}
use Rattle.letter_types.specs.Steps.{Out, still}
use Rattle.tx_trees.specs.ScriptData.{ScriptData}
use Rattle.world_model.specs.AllApt.{AllApt}
use Rattle.world_model.specs.Coordinator.{to_nodes}
use Rattle.script_parts.specs.Counts.{is_lossy}
use Rattle.world_model.specs.Restarting.{Restarting, after_doing, begin_counting, end_counting, enter, first_number, forget, in_restart_phase, enter_telling, next_advance, orders, recover, restarting_row, resume_if, target, version_counted, with_advances, with_told, with_wanted}
use Rattle.world_model.specs.Runs.{IsStepRun, restarting_in}
use Rattle.world_model.specs.Tables.{restarting_table}
use Rattle.world_model.specs.declared.restarting.RestartPhase.{RestartPhase}
use Rattle.world_model.specs.declared.restarting.RestartPhase.TheVariants.{Idle, Recovering, Doing, Counting, Paused}
use Rattle.world_model.proofs.Every.{each_append}
use Rattle.world_model.proofs.Orders.{of, to_nodes_each}
use Rattle.world_model.proofs.Restarts.{restarting_nodes}
use Rattle.advance_laws.specs.Given.{greatest_given}
use Rattle.advance_laws.specs.Phases.{ShowStage, SweepStage}
use Rattle.advance_laws.proofs.governed.Advancing.{given_rises}
use Rattle.advance_laws.proofs.counting.Counting.{Count, CountStep, IsCounting, InRound, AfterRound, NoRound, NoDone, NoNudge, Open, Pace, Premise, Refused, TakesRow, asks_after, begun}
use Rattle.advance_laws.proofs.counting.Counting.{Begins, Denies, Holds, IsNudged, Lasts, Leaves, TakesDone, TakesRequests}
use Rattle.advance_laws.proofs.governed.Lawful.{IsTreeLawful}
use Rattle.advance_laws.proofs.phases.Outcomes.{one_more_is}
use Rattle.advance_laws.proofs.phases.Progress.{restarts}
use Rattle.advance_laws.proofs.right.Sending.{AllPlain, IsPlain}
use Rattle.advance_laws.proofs.recovery.Few.{IsFew, few}
use Rattle.advance_laws.proofs.right.Good.{AllGood, IsGood, IsSteady, ended_few, in_phase}
use Rattle.advance_laws.proofs.recovery.RecoverSteps.{next_each}
use Rattle.advance_laws.proofs.recovery.RestartSteps.{HearsMore, IsLeft, OfClient, OfNode, RestartStep, asked_kept, asks_with, done_kept, restart_step}
use Rattle.advance_laws.proofs.recovery.RestartSteps.{Acks, Agrees, Ends, Flags, Forgets, Goes, KeepsAsked, KeepsDone, Pauses, Recounts, Recovers, Rests, Resumes, Wants}
use Rattle.advance_laws.proofs.recovery.RestartSteps.{TakesRequests as TakesAsked}
use Rattle.advance_laws.proofs.right.Away.{restarting_kept}

-- a phase counts, or pauses, or neither
abbrev pub pace_of : RestartPhase → Pace
pace_of (Counting reads) = InRound reads
pace_of (Paused reads) = AfterRound
pace_of Idle = NoRound
pace_of _ = NoRound

-- what a coordinator knows of its count
abbrev pub count_of : Restarting → Count
count_of c = record { round = c.count.current; number = c.count.number; pace = pace_of c.phase; flag = c.count.flag }

abbrev pub restart_count : ScriptData → List Entry → Count
restart_count s past = count_of (restarting_in s past)

-- the version that comes of a count of version v wasn't given yet: a count for reads ends with a sweep to the next one
abbrev pub IsNotGiven : Bool → ℕ → List Entry → Type 0
IsNotGiven true v past = greatest_given SweepStage past ≤ v
IsNotGiven false v past = greatest_given ShowStage past < v

-- nor after any entry before, where all was good so far
abbrev pub IsNewCount : ScriptData → Premise
IsNewCount s reads v past = AllGood s past × IsNotGiven reads v past

-- the phase that counts is the one in which a round is counted
pub counting_is : (phase : RestartPhase) (reads : Bool) → pace_of phase ≡ InRound reads → phase ≡ Counting reads
counting_is phase reads is = grind arith

-- 1. The phases that a coordinator goes to without a count, and what it sends then.
next_none : (wanted f : ℕ) → pace_of (next_advance wanted f) ≡ NoRound
next_none wanted f = next_each (λ (p : RestartPhase). pace_of p ≡ NoRound) wanted f (λ lt. refl) (λ le. refl)

-- no order is a letter of a round
orders_plain : (phase : RestartPhase) (c : Restarting) → AllPlain (orders phase c)
orders_plain (Doing what) c = to_nodes_each (λ to b. IsPlain b) c.nodes (Order c.epoch what (target what c.ended)) (λ to lt. tt)
orders_plain Idle c = tt
orders_plain _ c = tt

-- nothing is counted then, the greatest number of a round stays, and no letter of a round is sent
record IsApart (number : ℕ) (out : Out Restarting) : Type 0 where
  pub none : pace_of out.state.phase ≡ NoRound
  pub same : out.state.count.number ≡ number
  pub plain : AllPlain out.sent

enter_apart : (phase : RestartPhase) (c : Restarting) → pace_of phase ≡ NoRound → IsApart c.count.number (enter phase c)
enter_apart phase c none = record { none = none; same = refl; plain = orders_plain phase c }

telling_apart : (phase : RestartPhase) (c : Restarting) → pace_of phase ≡ NoRound
    → IsApart c.count.number (enter_telling phase c)
telling_apart phase c none = record { none = none; same = refl; plain = (tt, orders_plain phase c) }

resume_apart : (all : Bool) (k : Option ℕ) (c : Restarting) → pace_of c.phase ≡ NoRound
    → IsApart c.count.number (resume_if all k c)
resume_apart all k c none = grind (arith, telling_apart)

recover_apart : (c d : Restarting) (from : ℕ) (body : Body) → c.phase ≡ Recovering → HearsMore c from body d
    → IsApart c.count.number (recover d)
recover_apart c d from body at (OfNode u r l bd lt is) =
    let more : Restarting = with_told from (record { update = u; read = r; low = l }) c in
    subst (λ (x : Restarting). IsApart c.count.number (recover x)) (sym is)
    (resume_apart (list_all is_some more.told) c.heard more (ap pace_of at))
recover_apart c d from body at (OfClient k bd it is) =
    let more : Restarting = record c { heard = Some k } in
    subst (λ (x : Restarting). IsApart c.count.number (recover x)) (sym is)
    (resume_apart (list_all is_some c.told) (Some k) more (ap pace_of at))

ends_apart : (reads : Bool) (c : Restarting) → IsApart c.count.number (end_counting reads c)
ends_apart true c = enter_apart (Doing ToSweep) c refl
ends_apart false c = enter_apart (Doing ToShow) c refl

swept_apart : (c : Restarting) → IsApart c.count.number (after_doing ToSweep c)
swept_apart c =
    telling_apart (next_advance c.wanted (one_more c.ended)) (with_advances c.wanted (one_more c.ended) c)
    (next_none c.wanted (one_more c.ended))

forget_plain : (c : Restarting) → AllPlain (forget c).sent
forget_plain c =
    each_append (of (λ to b. IsPlain b)) (to_nodes c.nodes (Ask (one_more c.epoch))) _
    (to_nodes_each (λ to b. IsPlain b) c.nodes (Ask (one_more c.epoch)) (λ to lt. tt)) (tt, tt)

-- 2. Each step is a step of the count, where numbers are small: the number of a round that begins is above the one before,
-- and the first one of the next epoch isn't below it.
record HasRoom (c : Restarting) : Type 0 where
  pub begins : c.count.number < one_more c.count.number
  pub forgets : c.count.number ≤ first_number (one_more c.epoch)

has_room : (s : ScriptData) (past : List Entry) → IsFew s past → HasRoom (restarting_in s past)
has_room s past few = grind arith

-- what comes of a letter is a step of the count
abbrev Step : ℕ → Restarting → ℕ → Body → Out Restarting → Type 0
Step n c from body out = CountStep n (count_of c) (count_of out.state) from body out.sent

leaves_by : (n : ℕ) (c : Restarting) (from : ℕ) (body : Body) (out next : Out Restarting) → out ≡ next
    → IsApart c.count.number next → Step n c from body out
leaves_by n c from body out next is apart =
    subst (λ (o : Out Restarting). Step n c from body o) (sym is) (Leaves apart.none (omega (arith, apart.same)) apart.plain)

forgets_by : (n : ℕ) (c : Restarting) (from : ℕ) (body : Body) (out : Out Restarting) → HasRoom c → out ≡ forget c
    → Step n c from body out
forgets_by n c from body out room is =
    subst (λ (o : Out Restarting). Step n c from body o) (sym is) (Leaves refl room.forgets (forget_plain c))

-- a letter that changes nothing of a count in this phase
abbrev Passes : Body → RestartPhase → ℕ → Restarting → Type 0
Passes body (Counting reads) from c = NoNudge body × Refused body from c.count.current
Passes body (Paused reads) from c = NoNudge body
Passes body Idle from c = Unit {0}
Passes body _ from c = Unit {0}

rests_none : (n : ℕ) (c d : Restarting) (from : ℕ) (body : Body) (out : Out Restarting) → pace_of c.phase ≡ NoRound
    → count_of d ≡ count_of c → out ≡ still d → Step n c from body out
rests_none n c d from body out none same is = grind arith

rests_step : (n : ℕ) (c d : Restarting) (from : ℕ) (body : Body) (out : Out Restarting) (phase : RestartPhase) → c.phase ≡ phase
    → Passes body phase from c → count_of d ≡ count_of c → out ≡ still d → Step n c from body out
rests_step n c d from body out (Counting reads) at ok same is =
    Holds reads (ap pace_of at) ok.0 ok.1 (ap (λ (o : Out Restarting). count_of o.state) is ∙ same)
    (ap (λ (o : Out Restarting). o.sent) is)
rests_step n c d from body out (Paused reads) at ok same is =
    Lasts (ap pace_of at) ok (ap (λ (o : Out Restarting). count_of o.state) is ∙ same) (ap (λ (o : Out Restarting). o.sent) is)
rests_step n c d from body out Idle at ok same is = rests_none n c d from body out (ap pace_of at) same is
rests_step n c d from body out Recovering at ok same is = rests_none n c d from body out (ap pace_of at) same is
rests_step n c d from body out (Doing what) at ok same is = rests_none n c d from body out (ap pace_of at) same is

left_passes : (body : Body) (phase : RestartPhase) (from : ℕ) (c : Restarting) → IsLeft body phase from c
    → Passes body phase from c
left_passes body phase from c left = grind arith

advance_passes : (i : ℕ) (phase : RestartPhase) (from : ℕ) (c : Restarting) → Passes (AdvanceNo i) phase from c
advance_passes i phase from c = grind arith

-- a round begins
begins_by : (n : ℕ) (c : Restarting) (from : ℕ) (body other : Body) (out : Out Restarting) (reads : Bool) (d : Restarting)
    → d.nodes ≡ n → c.count.number < one_more d.count.number → body ≡ other → NoDone other → out ≡ begin_counting reads d
    → Step n c from body out
begins_by n c from body other out reads d nodes more bd none is =
    let v = version_counted reads d in
    let k = one_more d.count.number in
    subst (λ (o : Out Restarting). Step n c from body o) (sym is)
    (Begins reads v k more (subst (λ (b : Body). NoDone b) (sym bd) none) (ap (begun reads v k) nodes)
    (ap (λ (m : ℕ). to_nodes m (AskDone v k)) nodes))

-- every node has obeyed
ends_step : (n : ℕ) (c : Restarting) (from : ℕ) (body : Body) (out : Out Restarting) (what : What) → c.nodes ≡ n → HasRoom c
    → body ≡ Obeyed c.epoch what (target what c.ended) → out ≡ after_doing what c → Step n c from body out
ends_step n c from body out ToTurn nodes room bd is = begins_by n c from body _ out false c nodes room.begins bd tt is
ends_step n c from body out ToShow nodes room bd is = begins_by n c from body _ out true c nodes room.begins bd tt is
ends_step n c from body out ToSweep nodes room bd is = leaves_by n c from body out (after_doing ToSweep c) is (swept_apart c)

pub takes_row : (c : Restarting) (from : ℕ) (body : Body) (reads : Bool) (v : Version) (k : ℕ) (row : List ℕ)
    → TakesAsked c from body reads v k row → TakesRow (count_of c) from body reads v k row
takes_row c from body reads v k row takes =
    record { pace = ap pace_of takes.phase; body_is = takes.body_is; here = takes.here; after_dones = takes.after_dones }

count_step : (n : ℕ) (c : Restarting) (from : ℕ) (body : Body) (out : Out Restarting) → c.nodes ≡ n → HasRoom c
    → RestartStep c from body out → Step n c from body out
count_step n c from body out nodes room (Rests left is) =
    rests_step n c c from body out c.phase refl (left_passes body c.phase from c left) refl is
count_step n c from body out nodes room (Forgets bd is) = forgets_by n c from body out room is
count_step n c from body out nodes room (Wants i bd busy is) =
    rests_step n c (with_wanted i c) from body out c.phase refl
    (subst (λ (b : Body). Passes b c.phase from c) (sym bd) (advance_passes i c.phase from c)) refl is
count_step n c from body out nodes room (Goes i bd at is) =
    leaves_by n c from body out _ is
    (enter_apart (next_advance (max c.wanted i) c.ended) (with_wanted i c) (next_none (max c.wanted i) c.ended))
count_step n c from body out nodes room (Recovers d at hears is) =
    leaves_by n c from body out (recover d) is (recover_apart c d from body at hears)
count_step n c from body out nodes room (Acks what at bd more is) =
    rests_step n c (record c { acks = one_more c.acks }) from body out (Doing what) at tt refl is
count_step n c from body out nodes room (Ends what at bd last is) = ends_step n c from body out what nodes room bd is
count_step n c from body out nodes room (Flags reads at bd is) =
    IsNudged reads (ap pace_of at) bd (ap (λ (o : Out Restarting). count_of o.state) is)
    (ap (λ (o : Out Restarting). o.sent) is)
count_step n c from body out nodes room (Resumes reads at bd is) =
    begins_by n c from body Nudge out reads c nodes room.begins bd tt is
count_step n c from body out nodes room (KeepsDone reads v k row at bd here is) =
    let r = c.count.current in
    TakesDone reads v k row (ap pace_of at) bd here (ap (λ (o : Out Restarting). count_of o.state) is)
    (ap (λ (o : Out Restarting). o.sent) is ∙ ap (λ (m : ℕ). asks_after m from row r) nodes)
count_step n c from body out nodes room (KeepsAsked reads v k row takes verdict is) =
    TakesRequests reads v k row (takes_row c from body reads v k row takes) verdict
    (ap (λ (o : Out Restarting). count_of o.state) is) (ap (λ (o : Out Restarting). o.sent) is)
count_step n c from body out nodes room (Agrees reads v k row takes verdict is) =
    leaves_by n c from body out _ is (ends_apart reads (asked_kept from row c))
count_step n c from body out nodes room (Recounts reads v k row takes verdict flag is) =
    begins_by n c from body (AskedRow v k row) out reads (asked_kept from row c) nodes room.begins takes.body_is tt is
count_step n c from body out nodes room (Pauses reads v k row takes verdict flag is) =
    Denies reads v k row (takes_row c from body reads v k row takes) verdict flag
    (ap (λ (o : Out Restarting). count_of o.state) is) (ap (λ (o : Out Restarting). o.sent) is)

-- an entry of the coordinator
step_in : (s : ScriptData) (past : List Entry) (e : Entry) → IsTreeLawful s → is_lossy s ≡ true → IsStepRun s (e ∷ past)
    → AllApt s past → e.actor.0 ≡ s.nodes
    → CountStep s.nodes (restart_count s past) (restart_count s (e ∷ past)) e.took.from.0 e.took.body e.sent
step_in s past e laws loses run apt at =
    let c = restarting_in s past in
    let out = restarting_row c e.took.from.0 e.took.body in
    let made = restarts s past e loses run.0 at in
    let step = count_step s.nodes c e.took.from.0 e.took.body out (restarting_nodes s past)
    (has_room s past (few s past laws loses run.1 apt)) (restart_step c e.took.from.0 e.took.body) in
    subst (λ (d : Restarting). CountStep s.nodes (count_of c) (count_of d) e.took.from.0 e.took.body e.sent) (sym made.state)
    (subst (λ (os : List Outgoing). CountStep s.nodes (count_of c) (count_of out.state) e.took.from.0 e.took.body os)
    (sym made.sent) step)

-- 3. The version of the round that is counted.
abbrev IsVersioned : Restarting → Type 0
IsVersioned c = (reads : Bool) → c.phase ≡ Counting reads → c.count.current.version ≡ version_counted reads c

versioned_else : (c : Restarting) → pace_of c.phase ≡ NoRound → IsVersioned c
versioned_else c none = λ reads at.
    let clash : InRound reads ≡ NoRound = sym (ap pace_of at) ∙ none in absurd (cc clash)

-- by what comes of a letter
versioned_to : (out next : Out Restarting) → out ≡ next → IsVersioned next.state → IsVersioned out.state
versioned_to out next is now = subst (λ (o : Out Restarting). IsVersioned o.state) (sym is) now

versioned_apart : (out next : Out Restarting) (number : ℕ) → out ≡ next → IsApart number next → IsVersioned out.state
versioned_apart out next number is apart = versioned_to out next is (versioned_else next.state apart.none)

versioned_begun : (reads : Bool) (d : Restarting) → IsVersioned (begin_counting reads d).state
versioned_begun reads d = λ r at. let same : reads ≡ r = cc at in ap (λ (x : Bool). version_counted x d) same

versioned_done : (what : What) (c : Restarting) → IsVersioned (after_doing what c).state
versioned_done ToTurn c = versioned_begun false c
versioned_done ToShow c = versioned_begun true c
versioned_done ToSweep c = versioned_else (after_doing ToSweep c).state (swept_apart c).none

versioned_out : (c : Restarting) (from : ℕ) (body : Body) (out : Out Restarting) → IsVersioned c → RestartStep c from body out
    → IsVersioned out.state
versioned_out c from body out was (Rests left is) = versioned_to out (still c) is was
versioned_out c from body out was (Forgets bd is) = versioned_to out (forget c) is (λ reads at. absurd (cc at))
versioned_out c from body out was (Wants i bd busy is) = versioned_to out (still (with_wanted i c)) is was
versioned_out c from body out was (Goes i bd at is) =
    versioned_apart out _ c.count.number is
    (enter_apart (next_advance (max c.wanted i) c.ended) (with_wanted i c) (next_none (max c.wanted i) c.ended))
versioned_out c from body out was (Recovers d at hears is) =
    versioned_apart out (recover d) c.count.number is (recover_apart c d from body at hears)
versioned_out c from body out was (Acks what at bd more is) =
    versioned_to out (still (record c { acks = one_more c.acks })) is was
versioned_out c from body out was (Ends what at bd last is) = versioned_to out (after_doing what c) is (versioned_done what c)
versioned_out c from body out was (Flags reads at bd is) = versioned_to out (still (record c { count = nudged c.count })) is was
versioned_out c from body out was (Resumes reads at bd is) =
    versioned_to out (begin_counting reads c) is (versioned_begun reads c)
versioned_out c from body out was (KeepsDone reads v k row at bd here is) =
    versioned_to out (record { state = done_kept from row c; sent = asks_with from row c; acts = [] }) is was
versioned_out c from body out was (KeepsAsked reads v k row takes verdict is) =
    versioned_to out (still (asked_kept from row c)) is was
versioned_out c from body out was (Agrees reads v k row takes verdict is) =
    versioned_apart out _ c.count.number is (ends_apart reads (asked_kept from row c))
versioned_out c from body out was (Recounts reads v k row takes verdict flag is) =
    versioned_to out (begin_counting reads (asked_kept from row c)) is (versioned_begun reads (asked_kept from row c))
versioned_out c from body out was (Pauses reads v k row takes verdict flag is) =
    versioned_to out (still (in_restart_phase (Paused reads) (asked_kept from row c))) is (λ r at. absurd (cc at))

-- whoever's entry it is
versioned_next : (c : Restarting) (l : Letter) (own : Bool) → IsVersioned c
    → IsVersioned (if own then (restarting_table c l).state else c)
versioned_next c l true was = versioned_out c l.from.0 l.body (restarting_table c l) was (restart_step c l.from.0 l.body)
versioned_next c l false was = was

versioned_in : (s : ScriptData) (past : List Entry) → IsVersioned (restarting_in s past)
versioned_in s [] = versioned_else (restarting_in s []) refl
versioned_in s (e ∷ past) = versioned_next (restarting_in s past) e.took (e.actor.0 == s.nodes) (versioned_in s past)

-- while it counts, its round is of the version that the phase counts
pub versioned : (s : ScriptData) (past : List Entry) (reads : Bool) → (restarting_in s past).phase ≡ Counting reads
    → (restarting_in s past).count.current.version ≡ version_counted reads (restarting_in s past)
versioned s past reads at = versioned_in s past reads at

-- 4. It is open where it wasn't given yet, by the levels of the phase.
pub good_now : (s : ScriptData) (past : List Entry) → AllGood s past → IsGood s past
good_now s [] good = good
good_now s (e ∷ past) good = good.0

open_by : (s : ScriptData) (past : List Entry) (reads : Bool) → IsGood s past → IsSteady s past (Counting reads)
    → (restarting_in s past).ended ≤ 100 → IsNotGiven reads (version_counted reads (restarting_in s past)).0 past
    → Open s past (version_counted reads (restarting_in s past)).0
open_by s past true good steady small new = record {
  closed = λ p lt. (
    (λ eq. omega (arith, (steady.level p lt).update, eq)),
    (λ eq. omega (arith, (steady.level p lt).read, eq)),
  );
  low = λ p lt. omega (arith, (good.within p lt).low_swept, new);
}
open_by s past false good steady small new =
    let next : one_more (restarting_in s past).ended ≡ (restarting_in s past).ended + 1 =
    one_more_is (restarting_in s past).ended (omega (arith, small)) in
    record {
      closed = λ p lt. (
        (λ eq. omega (arith, (steady.level p lt).update, next, eq)),
        (λ eq. omega (arith, (good.within p lt).read_showed, new, eq)),
      );
      low = λ p lt.
          omega (arith, (good.within p lt).low_swept, (good.within p lt).swept_read, (good.within p lt).read_showed, new);
    }

open_in : (s : ScriptData) (past : List Entry) (reads : Bool) → IsTreeLawful s → is_lossy s ≡ true → IsStepRun s past
    → AllApt s past → (restarting_in s past).phase ≡ Counting reads
    → IsNewCount s reads (restarting_in s past).count.current.version.0 past
    → Open s past (restarting_in s past).count.current.version.0
open_in s past reads laws loses run apt at new =
    let good = good_now s past new.0 in
    let steady = in_phase s past (Counting reads) good at in
    let small = ended_few s past (Counting reads) laws.valid good steady in
    let is : (restarting_in s past).count.current.version.0 ≡ (version_counted reads (restarting_in s past)).0 =
    ap (λ (v : Version). v.0) (versioned s past reads at) in
    subst (Open s past) (sym is) (open_by s past reads good steady small (subst (λ (v : ℕ). IsNotGiven reads v past) is new.1))

-- 5. What wasn't given after an entry wasn't before it.
not_given_before : (reads : Bool) (v : ℕ) (past : List Entry) (e : Entry) → IsNotGiven reads v (e ∷ past)
    → IsNotGiven reads v past
not_given_before true v past e new = omega (arith, given_rises SweepStage e past, new)
not_given_before false v past e new = omega (arith, given_rises ShowStage e past, new)

-- in every run the coordinator counts so
pub restarting_counts : (s : ScriptData) → IsTreeLawful s → is_lossy s ≡ true → IsCounting s (restart_count s) (IsNewCount s)
restarting_counts s laws loses = record {
  lawful = laws;
  start = refl;
  stays = λ past e away. ap count_of (restarting_kept s past e away);
  steps = λ past e run apt at. step_in s past e laws loses run apt at;
  back = λ reads v past e run new. (new.0.1, not_given_before reads v past e new.1);
  opens = λ reads past run apt at new.
      open_in s past reads laws loses run apt (counting_is (restarting_in s past).phase reads at) new;
}
