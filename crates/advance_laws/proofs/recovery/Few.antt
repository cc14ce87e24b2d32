-- A coordinator that forgets keeps its numbers small: it forgets no more often than the script says, no more advancements are
-- wanted than were asked for, and the number of a round is below the first one of the next epoch.
use Rattle.std.proofs.Common.{◌≡◌, ◌≢◌, inl, inr, ℕ, ◌+◌, ◌*◌, ◌^◌, ◌<◌, ◌≤◌, true, List, [], ◌∷◌, ◌++◌, take, drop, refl, sym, ap, subst, ◌∙◌, Some, arith}
use Rattle.std.proofs.Math.Seq.{take-add}
use Rattle.std.proofs.lemmas.List.{take-append-drop}
use Rattle.letter_types.specs.declared.bodies.Body.{Body}
use Rattle.letter_types.specs.declared.bodies.Body.TheVariants.{Go, AdvanceNo, Wanted, Lose, Wake, Obeyed}
use Rattle.letter_types.specs.declared.entries.Entry.{Entry}
use Rattle.letter_types.specs.declared.entries.Letter.{Letter}
use Rattle.letter_types.specs.declared.entries.Outgoing.{Outgoing}
use Rattle.letter_types.specs.Steps.{Out}
use Rattle.tx_trees.specs.ScriptData.{ScriptData, client_of}
use Rattle.tx_trees.specs.Counts.{advances_in, loses_in, is_lossy}
use Rattle.tx_trees.specs.declared.parts.ScriptRow.{ScriptRow}
use Rattle.tx_trees.specs.declared.parts.ScriptRow.TheVariants.{Tree as TreeRow, Advance as AdvanceRow, Settle as SettleRow, Lose as LoseRow}
use Rattle.tx_trees.proofs.Rebuilding.{advances_in-append, loses_in-append, asked_most}
use Rattle.world_model.specs.Advancing.{to_coordinator}
use Rattle.world_model.specs.AllApt.{AllApt}
use Rattle.world_model.specs.Client.{Client, advances_sent, nudge, rows_letters, submit, submitted, wanted, with_answer, with_end}
use Rattle.world_model.specs.Core.{Core}
use Rattle.world_model.specs.Counts.{Each, tally}
use Rattle.world_model.specs.Node.{Node}
use Rattle.world_model.specs.Restarting.{Restarting, restarting_row}
use Rattle.world_model.specs.Runs.{IsStepRun, MayFollow, client_in, in_flight, keeping_in, node_in, restarting_in}
use Rattle.world_model.proofs.Bags.{tally-append}
use Rattle.world_model.proofs.Every.{each_append, each_map, each_none, each_step, each_taken}
use Rattle.world_model.proofs.Flows.{client_kept, flow}
use Rattle.world_model.proofs.Lawful.{nudged}
use Rattle.world_model.proofs.Nexts.{MadeByClient, Order}
use Rattle.world_model.proofs.Restarts.{restarting_each}
use Rattle.world_model.proofs.Sends.{advance_each, on}
use Rattle.advance_laws.specs.Advances.{asked_for}
use Rattle.advance_laws.specs.Phases.{count_in_flight}
use Rattle.advance_laws.proofs.recovery.Heeds.{AreWakes, Heed, IsWake, Leaves, Answers, Repeats, Obeys as HeedObeys}
use Rattle.advance_laws.proofs.governed.Lawful.{IsTreeLawful}
use Rattle.advance_laws.proofs.phases.Progress.{Asked, Begins, Coordinates, Course, Ends, Hears, Heeds, MadeByRestarting, Obeys, Restarts, Works, are_wakes, course, restarts}
use Rattle.advance_laws.proofs.counting.Working.{SentIn}
use Rattle.advance_laws.proofs.recovery.FewRounds.{AreSmall, StaysSmall, is_lose_letter, more_small, stays_small}
use Rattle.advance_laws.proofs.recovery.RestartSteps.{restart_step}
use Rattle.advance_laws.proofs.right.Away.{restarting_kept}

-- a letter that tells of advancements tells of no more than were asked for
abbrev pub TellsAsked : ScriptData → List Entry → Body → Type 0
TellsAsked s past (AdvanceNo i) = i ≤ asked_for s past
TellsAsked s past (Wanted e k) = k ≤ asked_for s past
TellsAsked s past Go = Unit {0}
TellsAsked s past _ = Unit {0}

pub record IsFew (s : ScriptData) (past : List Entry) : Type 0 where
  pub epoch : (restarting_in s past).epoch ≤ 100
  pub lost : (restarting_in s past).epoch ≤ loses_in s.rows
  pub asked : asked_for s past ≤ 100
  pub wanted : (restarting_in s past).wanted ≤ asked_for s past
  pub heard : (k : ℕ) → (restarting_in s past).heard ≡ Some k → k ≤ asked_for s past
  pub letters : Each (λ (l : Letter). TellsAsked s past l.body) (in_flight s past)
  pub number : (restarting_in s past).count.number < ((restarting_in s past).epoch + 1) * 2 ^ 32

pub took_asked : (s : ScriptData) (past : List Entry) (e : Entry) (body : Body) → IsFew s past → MayFollow s past e
    → e.took.body ≡ body → TellsAsked s past body
took_asked s past e body few m is =
    subst (TellsAsked s past) is (each_taken (λ (l : Letter). TellsAsked s past l.body) s past e m few.letters)

-- how often the client has made the coordinator forget
abbrev pub lost_for : ScriptData → List Entry → ℕ
lost_for s past = loses_in (take (client_in s past).next s.rows)

-- what the induction goes by: each such time is in a letter, or in the epoch; letters tell of no more advancements than were
-- asked for; and the numbers of coordinator c are small
record Holds (s : ScriptData) (past : List Entry) (c : Restarting) : Type 0 where
  pub epoch : count_in_flight is_lose_letter s past + c.epoch ≤ lost_for s past
  pub letters : Each (λ (l : Letter). TellsAsked s past l.body) (in_flight s past)
  pub small : AreSmall (advances_in s.rows) (asked_for s past) (nudged past) c

abbrev AreFew : ScriptData → List Entry → Type 0
AreFew s past = Holds s past (restarting_in s past)

-- What the client submits.
pub lost_most : (n : ℕ) (rows : List ScriptRow) → loses_in (take n rows) ≤ loses_in rows
lost_most n rows =
    let all : loses_in (take n rows ++ drop n rows) ≡ loses_in rows = ap loses_in (take-append-drop n rows) in
    omega (arith, all, loses_in-append (take n rows) (drop n rows))

-- a letter for each row that makes the coordinator forget
rows_lose : (s : ScriptData) (k : ℕ) (rows : List ScriptRow) → tally (on is_lose_letter) (rows_letters s k rows) ≡ loses_in rows
rows_lose s k [] = refl
rows_lose s k (TreeRow t ∷ rows) = omega (arith, rows_lose s k rows)
rows_lose s k (AdvanceRow ∷ rows) =
    omega (arith, advance_each (λ (b : Body). is_lose_letter b ≡ 0) s k (λ is. refl) (λ is. refl), rows_lose s (k + 1) rows)
rows_lose s k (SettleRow ∷ rows) = omega (arith, rows_lose s k rows)
rows_lose s k (LoseRow ∷ rows) = omega (arith, rows_lose s k rows)

-- what these letters tell is no more than is asked for with them
abbrev AllTell : ScriptData → List Entry → List Outgoing → Type 0
AllTell s past os = Each (λ (o : Outgoing). TellsAsked s past o.body) os

rows_tell : (s : ScriptData) (past : List Entry) (k : ℕ) (rows : List ScriptRow) → k + advances_in rows ≤ asked_for s past
    → AllTell s past (rows_letters s k rows)
rows_tell s past k [] le = tt
rows_tell s past k (TreeRow t ∷ rows) le = (tt, rows_tell s past k rows (omega (arith, le)))
rows_tell s past k (AdvanceRow ∷ rows) le = (
  advance_each (TellsAsked s past) s k (λ is. tt) (λ is. omega (arith, le)),
  rows_tell s past (k + 1) rows (omega (arith, le)),
)
rows_tell s past k (SettleRow ∷ rows) le = rows_tell s past k rows (omega (arith, le))
rows_tell s past k (LoseRow ∷ rows) le = (tt, rows_tell s past k rows (omega (arith, le)))

-- Nodes and the coordinator make no one forget, and tell of no advancements.
abbrev IsNoRequest : Body → Type 0
IsNoRequest Lose = ⊥
IsNoRequest (AdvanceNo i) = ⊥
IsNoRequest (Wanted e k) = ⊥
IsNoRequest Go = Unit {0}
IsNoRequest _ = Unit {0}

abbrev NoRequests : List Outgoing → Type 0
NoRequests os = Each (λ (o : Outgoing). IsNoRequest o.body) os

request_none : (body : Body) → IsNoRequest body → is_lose_letter body ≡ 0
request_none Lose plain = absurd plain
request_none _ plain = refl

request_tells : (s : ScriptData) (past : List Entry) (body : Body) → IsNoRequest body → TellsAsked s past body
request_tells s past body plain = grind arith

none_lose : (os : List Outgoing) → NoRequests os → tally (on is_lose_letter) os ≡ 0
none_lose os none =
    each_none (on is_lose_letter) os
    (each_map (λ (o : Outgoing). IsNoRequest o.body) (λ (o : Outgoing). on is_lose_letter o ≡ 0) os
    (λ o plain. request_none o.body plain) none)

none_tell : (s : ScriptData) (past : List Entry) (os : List Outgoing) → NoRequests os → AllTell s past os
none_tell s past os none =
    each_map (λ (o : Outgoing). IsNoRequest o.body) (λ (o : Outgoing). TellsAsked s past o.body) os
    (λ o plain. request_tells s past o.body plain) none

trees_none : (s : ScriptData) (st : Node) (does body : Body) → SentIn s st does body → IsNoRequest body
trees_none s st does body sent = grind arith

wake_none : (body : Body) → IsWake body → IsNoRequest body
wake_none (Wake t k) wake = tt
wake_none _ wake = absurd wake

wakes_none : (os more : List Outgoing) → NoRequests os → AreWakes more → NoRequests (os ++ more)
wakes_none os more none woken =
    each_append (λ (o : Outgoing). IsNoRequest o.body) os more none
    (each_map (λ (o : Outgoing). IsWake o.body) (λ (o : Outgoing). IsNoRequest o.body) more
    (λ o wake. wake_none o.body wake) woken)

order_none : (s : ScriptData) (st : Node) (body : Body) (out : Out Node) → Order s st body out → NoRequests out.sent
order_none s st body out is = grind arith

heed_none : (s : ScriptData) (c d : Core) (body : Body) (sent : List Outgoing) → Heed s c d body sent → NoRequests sent
heed_none s c d body sent (Leaves n of late same none) = subst NoRequests (sym none) tt
heed_none s c d body sent (Answers n bd new same is) = subst NoRequests (sym is) (tt, tt)
heed_none s c d body sent (Repeats n what v bd new was same is) = subst NoRequests (sym is) (tt, tt)
heed_none s c d body sent (HeedObeys n what v more bd new less epoch turns is woken) =
    subst NoRequests (sym is) (wakes_none (to_coordinator s (Obeyed n what v)) more (tt, tt) woken)

restarts_none : (s : ScriptData) (past : List Entry) (e : Entry) → MadeByRestarting s past e → NoRequests e.sent
restarts_none s past e made =
    subst NoRequests (sym made.sent)
    (restarting_each (λ to body. IsNoRequest body) (restarting_in s past) (record {
      ask = λ to n lt. tt;
      ask_client = λ n. tt;
      order = λ to n what v lt. tt;
      ask_done = λ to v k lt. tt;
      ask_asked = λ to v k lt. tt;
      advanced = λ v. tt;
    }) e.took.from.0 e.took.body)

-- What an entry leaves: what letters tell, where no less is asked for.
tells_more : (s : ScriptData) (past : List Entry) (e : Entry) (body : Body) → asked_for s past ≤ asked_for s (e ∷ past)
    → TellsAsked s past body → TellsAsked s (e ∷ past) body
tells_more s past e body more tells = grind arith

letters_after : (s : ScriptData) (past : List Entry) (e : Entry) → asked_for s past ≤ asked_for s (e ∷ past)
    → Each (λ (l : Letter). TellsAsked s past l.body) (in_flight s past) → AllTell s (e ∷ past) e.sent
    → Each (λ (l : Letter). TellsAsked s (e ∷ past) l.body) (in_flight s (e ∷ past))
letters_after s past e more old new =
    each_step (λ (l : Letter). TellsAsked s (e ∷ past) l.body) s past e
    (each_map (λ (l : Letter). TellsAsked s past l.body) (λ (l : Letter). TellsAsked s (e ∷ past) l.body) (in_flight s past)
    (λ l tells. tells_more s past e l.body more tells) old)
    (each_map (λ (o : Outgoing). TellsAsked s (e ∷ past) o.body) _ e.sent (λ o tells i. tells) new)

away : (s : ScriptData) (past : List Entry) (e : Entry) → e.actor.0 ≢ s.nodes → asked_for s past ≤ asked_for s (e ∷ past)
    → count_in_flight is_lose_letter s (e ∷ past) + lost_for s past
    ≤ count_in_flight is_lose_letter s past + lost_for s (e ∷ past)
    → AllTell s (e ∷ past) e.sent → AreFew s past → AreFew s (e ∷ past)
away s past e ne more lost sent was = grind (arith, letters_after, restarting_kept)

by_node : (s : ScriptData) (past : List Entry) (e : Entry) → MayFollow s past e → e.actor.0 < s.nodes → NoRequests e.sent
    → AreFew s past → AreFew s (e ∷ past)
by_node s past e m node none was =
    let kept : client_in s (e ∷ past) ≡ client_in s past = client_kept s past e (omega (arith, node)) in
    let asked : asked_for s (e ∷ past) ≡ asked_for s past = ap (λ (c : Client). advances_in (take c.next s.rows)) kept in
    let lost : lost_for s (e ∷ past) ≡ lost_for s past = ap (λ (c : Client). loses_in (take c.next s.rows)) kept in
    away s past e (omega (arith, node)) (omega (arith, asked))
    (omega (arith, lost, flow is_lose_letter s past e m, none_lose e.sent none)) (none_tell s (e ∷ past) e.sent none) was

-- the client submits rows, after letters that ask for nothing
by_client : (s : ScriptData) (past : List Entry) (e : Entry) (c : Client) (first : List Outgoing) → MayFollow s past e
    → e.actor.0 ≡ client_of s → MadeByClient s past e (submit s c first) → c.next ≡ (client_in s past).next → NoRequests first
    → AreFew s past → AreFew s (e ∷ past)
by_client s past e c first m at made next none was =
    let n = submitted c (take c.next s.rows) (drop c.next s.rows) in
    let rest = take n (drop c.next s.rows) in
    let k = advances_sent s c in
    let all : take (c.next + n) s.rows ≡ take c.next s.rows ++ rest = take-add c.next n s.rows in
    let before : k ≡ asked_for s past = ap (λ (j : ℕ). advances_in (take j s.rows)) next in
    let lost : loses_in (take c.next s.rows) ≡ lost_for s past = ap (λ (j : ℕ). loses_in (take j s.rows)) next in
    let asked : asked_for s (e ∷ past) ≡ k + advances_in rest =
    ap (λ (x : Client). advances_in (take x.next s.rows)) made.state ∙ ap advances_in all
    ∙ advances_in-append (take c.next s.rows) rest in
    let loses : lost_for s (e ∷ past) ≡ loses_in (take c.next s.rows) + loses_in rest =
    ap (λ (x : Client). loses_in (take x.next s.rows)) made.state ∙ ap loses_in all ∙ loses_in-append (take c.next s.rows) rest in
    let sent : tally (on is_lose_letter) e.sent ≡ tally (on is_lose_letter) (first ++ rows_letters s k rest) =
    ap (λ (os : List Outgoing). tally (on is_lose_letter) os) made.sent in
    away s past e (omega (arith, at)) (omega (arith, before, asked)) (omega (
      arith,
      flow is_lose_letter s past e m,
      sent,
      tally-append (on is_lose_letter) first (rows_letters s k rest),
      none_lose first none,
      rows_lose s k rest,
      lost,
      loses,
    ))
    (subst (AllTell s (e ∷ past)) (sym made.sent)
    (each_append (λ (o : Outgoing). TellsAsked s (e ∷ past) o.body) first (rows_letters s k rest)
    (none_tell s (e ∷ past) first none) (rows_tell s (e ∷ past) k rest (omega (arith, asked))))) was

-- or it tells how many advancements it has asked for
by_asked : (s : ScriptData) (past : List Entry) (e : Entry) (n : ℕ) → MayFollow s past e → e.actor.0 ≡ client_of s
    → MadeByClient s past e (wanted s n (client_in s past)) → AreFew s past → AreFew s (e ∷ past)
by_asked s past e n m at made was =
    let asked : asked_for s (e ∷ past) ≡ asked_for s past = ap (λ (c : Client). advances_in (take c.next s.rows)) made.state in
    let lost : lost_for s (e ∷ past) ≡ lost_for s past = ap (λ (c : Client). loses_in (take c.next s.rows)) made.state in
    let sent : tally (on is_lose_letter) e.sent ≡ 0 = ap (λ (os : List Outgoing). tally (on is_lose_letter) os) made.sent in
    away s past e (omega (arith, at)) (omega (arith, asked)) (omega (arith, lost, sent, flow is_lose_letter s past e m))
    (subst (AllTell s (e ∷ past)) (sym made.sent) (omega (arith, asked), tt)) was

-- an entry of the coordinator
by_coordinator : (s : ScriptData) (past : List Entry) (e : Entry) → IsTreeLawful s → is_lossy s ≡ true → MayFollow s past e
    → e.actor.0 ≡ s.nodes → AreFew s past → AreFew s (e ∷ past)
by_coordinator s past e laws loses m at was =
    let c = restarting_in s past in
    let made = restarts s past e loses m at in
    let none = restarts_none s past e made in
    let kept : client_in s (e ∷ past) ≡ client_in s past = client_kept s past e (omega (arith, at)) in
    let asked : asked_for s (e ∷ past) ≡ asked_for s past = ap (λ (x : Client). advances_in (take x.next s.rows)) kept in
    let lost : lost_for s (e ∷ past) ≡ lost_for s past = ap (λ (x : Client). loses_in (take x.next s.rows)) kept in
    let tells : TellsAsked s past e.took.body = each_taken (λ (l : Letter). TellsAsked s past l.body) s past e m was.letters in
    let a = advances_in s.rows in
    let out = restarting_row c e.took.from.0 e.took.body in
    let next : StaysSmall a (asked_for s past) (nudged past) c e.took.body out.state =
    stays_small a (asked_for s past) (nudged past) c e.took.from.0 e.took.body out laws.valid.limited.advances
    (asked_most (client_in s past).next s.rows) (record {
      numbered = λ i is. subst (TellsAsked s past) is tells;
      told = λ n k is. subst (TellsAsked s past) is tells;
    }) was.small (restart_step c e.took.from.0 e.took.body) in
    subst (λ (d : Restarting). Holds s (e ∷ past) d) (sym made.state) (record {
      epoch = omega (arith, was.epoch, next.epoch, lost, flow is_lose_letter s past e m, none_lose e.sent none);
      letters = letters_after s past e (omega (arith, asked)) was.letters (none_tell s (e ∷ past) e.sent none);
      small = more_small a _ _ _ _ out.state next.small (omega (arith, asked)) (omega arith);
    })

-- each entry
few_next : (s : ScriptData) (past : List Entry) (e : Entry) → IsTreeLawful s → is_lossy s ≡ true → MayFollow s past e
    → AreFew s past → Course s past e → AreFew s (e ∷ past)
few_next s past e laws loses m was (inl (Begins bd at made)) = by_client s past e (client_in s past) [] m at made refl tt was
few_next s past e laws loses m was (inl (Hears t v answer bd at lt made)) =
    by_client s past e (with_answer t.0 (client_in s past)) (nudge s ∷ []) m at made refl (tt, tt) was
few_next s past e laws loses m was (inl (Ends v bd at made)) =
    by_client s past e (with_end s v (client_in s past)) [] m at made refl tt was
few_next s past e laws loses m was (inl (Coordinates tells at made)) = by_coordinator s past e laws loses m at was
few_next s past e laws loses m was (inl (Works p r work)) =
    by_node s past e m (omega (arith, work.brings.at, work.brings.below))
    (each_map (λ (o : Outgoing). SentIn s (node_in s past p) r.body o.body) (λ (o : Outgoing). IsNoRequest o.body) e.sent
    (λ o sent. trees_none s (node_in s past p) r.body o.body sent) work.sent) was
few_next s past e laws loses m was (inl (Obeys p out more at lt order state sent woken)) =
    by_node s past e m (omega (arith, at, lt))
    (subst NoRequests (sym sent)
    (wakes_none out.sent more (order_none s (node_in s past p) e.took.body out order) (are_wakes e.took.body more woken))) was
few_next s past e laws loses m was (inr (Asked n bd at lossy made)) = by_asked s past e n m at made was
few_next s past e laws loses m was (inr (Restarts tells at lossy made)) = by_coordinator s past e laws loses m at was
few_next s past e laws loses m was (inr (Heeds p at lt lossy heed)) =
    by_node s past e m (omega (arith, at, lt))
    (heed_none s (keeping_in s past p).core (keeping_in s (e ∷ past) p).core e.took.body e.sent heed) was

all_few : (s : ScriptData) (past : List Entry) → IsTreeLawful s → is_lossy s ≡ true → IsStepRun s past → AllApt s past
    → AreFew s past
all_few s [] laws loses run apt = record {
  epoch = omega arith;
  letters = (tt, tt);
  small = record { wanted = omega arith; heard = λ k none. absurd (cc none); rounds = omega arith };
}
all_few s (e ∷ past) laws loses run apt =
    few_next s past e laws loses run.0 (all_few s past laws loses run.1 apt.1) (course s past e laws apt run)

-- in every run
pub few : (s : ScriptData) (past : List Entry) → IsTreeLawful s → is_lossy s ≡ true → IsStepRun s past → AllApt s past
    → IsFew s past
few s past laws loses run apt = grind (arith, all_few, asked_most, lost_most)
