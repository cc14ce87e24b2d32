-- The client hears of each advancement that has ended: if a coordinator that forgets knows how many have, the client
-- has heard of as many, or will by a message in flight.
use Rattle.std.proofs.Common.{◌≡◌, ◌≢◌, ◌⊎◌, inl, inr, ℕ, ◌+◌, ◌≤◌, Bool, true, false, List, [], ◌∷◌, refl, sym, ap, subst, ◌∙◌, arith}
use Rattle.std.specs.Prelude.{max, nat_le}
use Rattle.std.proofs.Math.Nat.{le-max_left, le-max_right}
use Rattle.std.proofs.lemmas.Bool.{cases_eq}
use Rattle.tv_base.specs.Outside.{one_more}
use Rattle.phase_out.specs.Counts.{nudged}
use Rattle.letter_types.specs.declared.bodies.Body.{Body}
use Rattle.letter_types.specs.declared.bodies.Body.TheVariants.{Go, Advanced}
use Rattle.letter_types.specs.declared.bodies.What.{What}
use Rattle.letter_types.specs.declared.bodies.What.TheVariants.{Turn as ToTurn, Show as ToShow, Sweep as ToSweep}
use Rattle.letter_types.specs.declared.entries.Entry.{Entry}
use Rattle.letter_types.specs.declared.entries.Outgoing.{Outgoing}
use Rattle.letter_types.specs.Steps.{Out, still}
use Rattle.tx_trees.specs.ScriptData.{ScriptData, client_of}
use Rattle.world_model.specs.AllApt.{AllApt}
use Rattle.world_model.specs.Client.{Client}
use Rattle.world_model.specs.Counts.{one_if, tally}
use Rattle.script_parts.specs.Counts.{is_lossy}
use Rattle.world_model.specs.Restarting.{Restarting, after_doing, begin_counting, end_counting, enter, in_restart_phase, least_low, next_advance, restarting_row, resume, with_wanted}
use Rattle.world_model.specs.Runs.{IsStepRun, MayFollow, client_in, in_flight, restarting_in}
use Rattle.world_model.specs.declared.restarting.RestartPhase.TheVariants.{Idle, Recovering, Doing, Counting, Paused}
use Rattle.world_model.proofs.Flows.{client_kept, flow}
use Rattle.world_model.proofs.Sends.{on}
use Rattle.world_model.specs.Meant.{IsMeant}
use Rattle.world_model.proofs.Meant.{took_meant}
use Rattle.advance_laws.specs.Phases.{count_in_flight}
use Rattle.advance_laws.proofs.right.ClientSteps.{Aside, Begins, ClientStep, Ends as HearsEnd, Hears, Tells, client_step}
use Rattle.advance_laws.proofs.governed.Lawful.{IsTreeLawful}
use Rattle.advance_laws.proofs.phases.Progress.{MadeByRestarting, TellsAnew, restarts, told_anew}
use Rattle.advance_laws.proofs.right.Aside.{end_is}
use Rattle.advance_laws.proofs.right.AtCoordinator.{client_stays}
use Rattle.advance_laws.proofs.right.Away.{restarting_kept}
use Rattle.advance_laws.proofs.right.Good.{Knows}
use Rattle.advance_laws.proofs.recovery.Recovers.{still_covered}
use Rattle.advance_laws.proofs.recovery.RecoverSteps.{HasHeard, Misses, Recovery, knows_by, recovery}
use Rattle.advance_laws.proofs.ending.WantSteps.{more_waits, most_rises, one_most}
use Rattle.advance_laws.proofs.recovery.RestartSteps.{RestartStep, asked_kept, asks_with, done_kept, restart_step}
use Rattle.advance_laws.proofs.recovery.RestartSteps.{Acks, Agrees, Ends, Flags, Forgets, Goes, KeepsAsked, KeepsDone, Pauses, Recounts, Recovers, Rests, Resumes, Wants}

-- a letter that tells that so many advancements have ended, or more
abbrev pub tells_end : ℕ → Body → ℕ
tells_end f (Advanced v) = one_if (nat_le f v.0)
tells_end f Go = 0
tells_end f _ = 0

abbrev HearsAll : ScriptData → List Entry → Restarting → Type 0
HearsAll s past c = Knows c.phase
    → 1 ≤ count_in_flight (tells_end c.ended) s past + one_if (nat_le c.ended (client_in s past).ended)

-- 1. Each step of the coordinator leaves how many have ended, or tells the client.
abbrev TellsEnd : Restarting → Out Restarting → Type 0
TellsEnd c out = (Knows c.phase × (out.state.ended ≡ c.ended)) ⊎ (1 ≤ tally (on (tells_end out.state.ended)) out.sent)

same_end : (c : Restarting) (out next : Out Restarting) → out ≡ next → Knows c.phase → next.state.ended ≡ c.ended
    → TellsEnd c out
same_end c out next is knows same = inl (knows, ap (λ (o : Out Restarting). o.state.ended) is ∙ same)

tells_now : (c : Restarting) (out next : Out Restarting) → out ≡ next → 1 ≤ tally (on (tells_end next.state.ended)) next.sent
    → TellsEnd c out
tells_now c out next is one = inr (subst (λ (o : Out Restarting). 1 ≤ tally (on (tells_end o.state.ended)) o.sent) (sym is) one)

done_tells : (what : What) (c : Restarting) (out : Out Restarting) → out ≡ after_doing what c → Knows c.phase → TellsEnd c out
done_tells ToTurn c out is knows = same_end c out (after_doing ToTurn c) is knows refl
done_tells ToShow c out is knows = same_end c out (after_doing ToShow c) is knows refl
done_tells ToSweep c out is knows = tells_now c out (after_doing ToSweep c) is (omega (arith, one_most (one_more c.ended)))

ends_tell : (reads : Bool) (c : Restarting) → (end_counting reads c).state.ended ≡ c.ended
ends_tell true c = refl
ends_tell false c = refl

recovers_tells : (c d : Restarting) (out : Out Restarting) → d.phase ≡ Recovering → Recovery d out → Knows out.state.phase
    → TellsEnd c out
recovers_tells c d out waits (Misses misses is) knows = absurd (knows (ap (λ (o : Out Restarting). o.state.phase) is ∙ waits))
recovers_tells c d out waits (HasHeard k told heard is) knows =
    tells_now c out (resume k d) is (omega (arith, one_most (least_low d.told)))

tells_out : (c : Restarting) (from : ℕ) (body : Body) (out : Out Restarting) → RestartStep c from body out
    → Knows out.state.phase
    → TellsEnd c out
tells_out c from body out (Rests left is) knows =
    same_end c out (still c) is
    (knows_by c.phase out.state.phase (sym (ap (λ (o : Out Restarting). o.state.phase) is)) knows) refl
tells_out c from body out (Forgets bd is) knows = absurd (knows (ap (λ (o : Out Restarting). o.state.phase) is))
tells_out c from body out (Wants i bd busy is) knows =
    same_end c out (still (with_wanted i c)) is
    (knows_by c.phase out.state.phase (sym (ap (λ (o : Out Restarting). o.state.phase) is)) knows) refl
tells_out c from body out (Goes i bd idle is) knows =
    same_end c out (enter (next_advance (max c.wanted i) c.ended) (with_wanted i c)) is
    (knows_by c.phase Idle idle (λ at. cc at)) refl
tells_out c from body out (Recovers d waits hears is) knows =
    recovers_tells c d out ((more_waits c d from body hears).0 ∙ waits) (recovery d out is) knows
tells_out c from body out (Acks what doing bd more is) knows =
    same_end c out (still (record c { acks = one_more c.acks })) is (knows_by c.phase (Doing what) doing (λ at. cc at)) refl
tells_out c from body out (Ends what doing bd last is) knows =
    done_tells what c out is (knows_by c.phase (Doing what) doing (λ at. cc at))
tells_out c from body out (Flags reads counts bd is) knows =
    same_end c out (still (record c { count = nudged c.count })) is
    (knows_by c.phase (Counting reads) counts (λ at. cc at)) refl
tells_out c from body out (Resumes reads pauses bd is) knows =
    same_end c out (begin_counting reads c) is (knows_by c.phase (Paused reads) pauses (λ at. cc at)) refl
tells_out c from body out (KeepsDone reads v k row counts bd here is) knows =
    same_end c out (record { state = done_kept from row c; sent = asks_with from row c; acts = [] }) is
    (knows_by c.phase (Counting reads) counts (λ at. cc at)) refl
tells_out c from body out (KeepsAsked reads v k row takes verdict is) knows =
    same_end c out (still (asked_kept from row c)) is (knows_by c.phase (Counting reads) takes.phase (λ at. cc at)) refl
tells_out c from body out (Agrees reads v k row takes verdict is) knows =
    same_end c out (end_counting reads (asked_kept from row c)) is (knows_by c.phase (Counting reads) takes.phase (λ at. cc at))
    (ends_tell reads (asked_kept from row c))
tells_out c from body out (Recounts reads v k row takes verdict flag is) knows =
    same_end c out (begin_counting reads (asked_kept from row c)) is
    (knows_by c.phase (Counting reads) takes.phase (λ at. cc at)) refl
tells_out c from body out (Pauses reads v k row takes verdict flag is) knows =
    same_end c out (still (in_restart_phase (Paused reads) (asked_kept from row c))) is
    (knows_by c.phase (Counting reads) takes.phase (λ at. cc at)) refl

-- what it takes tells of no end
anew_none : (f : ℕ) (body : Body) → TellsAnew body → tells_end f body ≡ 0
anew_none f body tells = grind arith

coordinator_by : (s : ScriptData) (past : List Entry) (e : Entry) (out : Out Restarting) → MayFollow s past e
    → TellsAnew e.took.body
    → e.sent ≡ out.sent → client_in s (e ∷ past) ≡ client_in s past → HearsAll s past (restarting_in s past)
    → TellsEnd (restarting_in s past) out
    → 1 ≤ count_in_flight (tells_end out.state.ended) s
    (e ∷ past) + one_if (nat_le out.state.ended (client_in s (e ∷ past)).ended)
coordinator_by s past e out m tells sent same was (inl (knows, ended)) =
    let f = (restarting_in s past).ended in
    let client : one_if (nat_le f (client_in s (e ∷ past)).ended) ≡ one_if (nat_le f (client_in s past).ended) =
    ap (λ (c : Client). one_if (nat_le f c.ended)) same in
    subst (λ (n : ℕ). 1 ≤ count_in_flight (tells_end n) s (e ∷ past) + one_if (nat_le n (client_in s (e ∷ past)).ended))
    (sym ended)
    (omega (arith, was knows, flow (tells_end f) s past e m, anew_none f e.took.body tells, client))
coordinator_by s past e out m tells sent same was (inr one) =
    let f = tells_end out.state.ended in
    let all : tally (on f) e.sent ≡ tally (on f) out.sent = ap (λ (os : List Outgoing). tally (on f) os) sent in
    omega (arith, flow f s past e m, all, one, anew_none out.state.ended e.took.body tells)

coordinator_hears : (s : ScriptData) (past : List Entry) (e : Entry) → MayFollow s past e → TellsAnew e.took.body
    → e.actor.0 ≡ s.nodes
    → MadeByRestarting s past e → HearsAll s past (restarting_in s past) → HearsAll s (e ∷ past) (restarting_in s (e ∷ past))
coordinator_hears s past e m tells at made was =
    let c = restarting_in s past in
    let out = restarting_row c e.took.from.0 e.took.body in
    subst (HearsAll s (e ∷ past)) (sym made.state) (λ knows.
    coordinator_by s past e out m tells made.sent (client_stays s past e at) was
    (tells_out c e.took.from.0 e.took.body out (restart_step c e.took.from.0 e.took.body) knows))

-- 2. Who takes a letter that tells of an end is the client, and has heard of it then.
end_away : (s : ScriptData) (f from to : ℕ) (body : Body) → IsMeant s from to body → to ≢ client_of s → tells_end f body ≡ 0
end_away s f from to body meant away = grind arith

same_heard : (s : ScriptData) (past : List Entry) (e : Entry) (f : ℕ) → MayFollow s past e → tells_end f e.took.body ≡ 0
    → (client_in s (e ∷ past)).ended ≡ (client_in s past).ended
    → 1 ≤ count_in_flight (tells_end f) s past + one_if (nat_le f (client_in s past).ended)
    → 1 ≤ count_in_flight (tells_end f) s (e ∷ past) + one_if (nat_le f (client_in s (e ∷ past)).ended)
same_heard s past e f m none same was =
    omega (arith, was, flow (tells_end f) s past e m, none, ap (λ (n : ℕ). one_if (nat_le f n)) same)

client_hears : (s : ScriptData) (past : List Entry) (e : Entry) (f : ℕ) → IsTreeLawful s → is_lossy s ≡ true
    → IsStepRun s (e ∷ past)
    → ClientStep s past e → 1 ≤ count_in_flight (tells_end f) s past + one_if (nat_le f (client_in s past).ended)
    → 1 ≤ count_in_flight (tells_end f) s (e ∷ past) + one_if (nat_le f (client_in s (e ∷ past)).ended)
client_hears s past e f laws loses run (Begins bd made) was =
    same_heard s past e f run.0 (ap (tells_end f) bd) (ap (λ (c : Client). c.ended) made.state) was
client_hears s past e f laws loses run (Hears t v answer bd lt made) was =
    same_heard s past e f run.0 (ap (tells_end f) bd) (ap (λ (c : Client). c.ended) made.state) was
client_hears s past e f laws loses run (Tells n bd forgets made) was =
    same_heard s past e f run.0 (ap (tells_end f) bd) (ap (λ (c : Client). c.ended) made.state) was
client_hears s past e f laws loses run (HearsEnd v bd made) was =
    let c = client_in s past in
    let ended : (client_in s (e ∷ past)).ended ≡ max c.ended v.0 =
    ap (λ (x : Client). x.ended) made.state ∙ end_is s v c loses in
    let same : one_if (nat_le f (client_in s (e ∷ past)).ended) ≡ one_if (nat_le f (max c.ended v.0)) =
    ap (λ (n : ℕ). one_if (nat_le f n)) ended in
    let took : tells_end f e.took.body ≡ one_if (nat_le f v.0) = ap (tells_end f) bd in
    still_covered (count_in_flight (tells_end f) s (e ∷ past)) (count_in_flight (tells_end f) s past) (tells_end f e.took.body)
    (one_if (nat_le f (client_in s (e ∷ past)).ended)) (one_if (nat_le f c.ended)) was
    (omega (arith, flow (tells_end f) s past e run.0))
    (omega (arith, took, same, most_rises f v.0 (max c.ended v.0) (le-max_right c.ended v.0)))
    (omega (arith, same, most_rises f c.ended (max c.ended v.0) (le-max_left c.ended v.0)))
client_hears s past e f laws loses run (Aside away) was =
    same_heard s past e f run.0
    (end_away s f e.took.from.0 e.took.to.0 e.took.body (took_meant s past e laws.valid run)
    (λ is. away (sym run.0.addressee ∙ is)))
    (ap (λ (c : Client). c.ended) (client_kept s past e away)) was

-- In every run.
hears_in : (s : ScriptData) (past : List Entry) → IsTreeLawful s → is_lossy s ≡ true → IsStepRun s past → AllApt s past
    → HearsAll s past (restarting_in s past)
hears_in s [] laws loses run apt = λ knows. omega arith
hears_in s (e ∷ past) laws loses run apt = by (cases_eq e.actor.0 s.nodes) (hears_in s past laws loses run.1 apt.1) where
  by : (e.actor.0 ≡ s.nodes) ⊎ (e.actor.0 ≢ s.nodes) → HearsAll s past (restarting_in s past)
      → HearsAll s (e ∷ past) (restarting_in s (e ∷ past))
  by (inl at) was =
      coordinator_hears s past e run.0 (told_anew s past e laws loses run at) at (restarts s past e loses run.0 at) was
  by (inr away) was =
      subst (HearsAll s (e ∷ past)) (sym (restarting_kept s past e away)) (λ knows.
      client_hears s past e (restarting_in s past).ended laws loses run (client_step s past e laws.valid run) (was knows))

-- so where no letter is in flight, it has heard of all that have ended
pub all_heard : (s : ScriptData) (past : List Entry) → IsTreeLawful s → is_lossy s ≡ true → IsStepRun s past → AllApt s past
    → in_flight s past ≡ [] → Knows (restarting_in s past).phase → (restarting_in s past).ended ≤ (client_in s past).ended
all_heard s past laws loses run apt empty knows = grind (arith, hears_in)
