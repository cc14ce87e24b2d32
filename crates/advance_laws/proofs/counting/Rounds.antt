-- A round while it is counted: once all completions are in, either its version is silent, or a pair will be found to
-- differ. So the verdict that all pairs agree is given for a silent version alone.
use Rattle.std.proofs.Common.{if◌then◌else◌, ◌≡◌, ◌≢◌, ◌⊎◌, inl, inr, ℕ, ◌+◌, ◌<◌, ◌≤◌, ◌==◌, ◌&&◌, not, Bool, true, false, List, [], ◌∷◌, length, refl, sym, ap, subst, ◌∙◌, arith, Option, Some, None}
use Rattle.std.specs.Prelude.{slice_get, slice_index, slice_set}
use Rattle.std.proofs.lemmas.Bool.{cases_eq}
use Rattle.std.proofs.lemmas.Bool.Decides.{nat_tests}
use Rattle.std.proofs.lemmas.List.{length-set}
use Rattle.tv_base.proofs.ByPlace.{get_set_other}
use Rattle.letter_types.specs.declared.bodies.Body.{Body}
use Rattle.letter_types.specs.declared.bodies.Body.TheVariants.{AskDone, AskAsked, DoneRow, AskedRow}
use Rattle.letter_types.specs.declared.entries.Entry.{Entry}
use Rattle.letter_types.specs.declared.entries.Letter.{Letter}
use Rattle.letter_types.specs.declared.entries.LetterId.{LetterId}
use Rattle.letter_types.specs.declared.entries.Outgoing.{Outgoing}
use Rattle.tv_base.specs.declared.numbers.Version.{Version}
use Rattle.phase_out.specs.Rounds.{NodeRows, RoundData, agrees, all_in, is_of, kept_number, new_round, number_at, verdict_of}
use Rattle.phase_out.proofs.Verdicts.{differs-none}
use Rattle.tx_trees.specs.ScriptData.{ScriptData}
use Rattle.world_model.specs.Coordinator.{counted_version, to_nodes}
use Rattle.world_model.specs.Counts.{Each, one_if, tally}
use Rattle.world_model.specs.Runs.{coordinator_in, node_in, in_flight, MayFollow, IsStepRun}
use Rattle.world_model.specs.AllApt.{AllApt}
use Rattle.world_model.proofs.Bags.{tally-drop}
use Rattle.world_model.proofs.Every.{each_map, each_step, each_taken, each_zero}
use Rattle.advance_laws.proofs.counting.KeptRows.{with_asked, with_done}
use Rattle.advance_laws.proofs.governed.Lawful.{IsLawful, IsTreeLawful}
use Rattle.advance_laws.proofs.counting.CoordinatorCounts.{Always, coordinator_counts, count_in, takes_row, versioned}
use Rattle.advance_laws.proofs.counting.Counting.{Count, CountStep, Denies, Holds, IsCounting, IsNudged, InRound, Lasts, Leaves, Begins, TakesDone, TakesRequests, TakesRow, asks_after, count_asked, count_done, none_in_round, paused_in_round, Premise}
use Rattle.advance_laws.proofs.phases.Outcomes.{TakesAsked}
use Rattle.advance_laws.specs.Balance.{out}
use Rattle.advance_laws.specs.Quiet.{IsSilent}
use Rattle.advance_laws.proofs.counting.Balance.{balanced_at}
use Rattle.advance_laws.proofs.right.Sending.{AllRowless, IsApart, IsRowless, Sending, SendsApart, SendsDone, SendsAsked, SendsOrders, sending}
use Rattle.advance_laws.proofs.counting.Silence.{Closed, asked_grows, done_grows, silent_or_not, silent_stays}
use Rattle.advance_laws.proofs.phases.Steps.{Fresh, RowBody, none_later, numbers_at, row_later, rows_true, shaped}
use Rattle.advance_laws.proofs.counting.Waves.{NoRow, asks_once, first_none, first_wave, flow_of, going, in_at, is_first, is_in, is_in_most, is_second, leaving, missing_before, no_first, no_second, none_in, none_kept, not_in, second_none, second_wave, set_get, wave_kept}

-- no node has left version v
abbrev LowIn : ScriptData → List Entry → ℕ → Type 0
LowIn s past v = (p : ℕ) → p < s.nodes → (node_in s past p).turns.low.0 ≤ v

-- while a round is counted, no node has left its version, where this is the count
low_in : (s : ScriptData) (count : List Entry → Count) (G : Premise) → IsCounting s count G
    → (past : List Entry) (c : Count) (reads : Bool) → IsStepRun s past → AllApt s past → count past ≡ c → c.pace ≡ InRound reads
    → G reads c.round.version.0 past → LowIn s past c.round.version.0
low_in s count G view past c reads run apt is at given =
    subst (λ (d : Count). LowIn s past d.round.version.0) is
    (view.opens reads past run apt (ap (λ (d : Count). d.pace) is ∙ at)
    (subst (λ (d : Count). G reads d.round.version.0 past) (sym is) given)).low

-- a row of requests of this round from p is at least b at q
abbrev pub AtLeast : ℕ → ℕ → ℕ → ℕ → ℕ → ℕ → Body → Type 0
AtLeast number v p q b from (AskedRow w k row) = k ≡ number → w.0 ≡ v → from ≡ p → b ≤ slice_index row q
AtLeast number v p q b from _ = Unit {0}

-- a pair that will be found to differ: what is kept of its completions is less than b, and every row of requests is at
-- least b
pub record Differs (s : ScriptData) (past : List Entry) (r : RoundData) : Type 0 where
  pub p : ℕ
  pub q : ℕ
  pub b : ℕ
  pub p_lt : p < s.nodes
  pub q_lt : q < s.nodes
  pub less : kept_number r.dones q p < b
  pub now : b ≤ (node_in s past p).counts.asked r.version.0 q
  pub letters : Each (λ (l : Letter). AtLeast r.number r.version.0 p q b l.from.0 l.body) (in_flight s past)
  pub kept : (row : List ℕ) → slice_get r.askeds p ≡ Some (Some row) → b ≤ slice_index row q

-- what holds of a round: a node is asked once for its completions; those that are kept are at most the present ones; no
-- request is asked for before all completions are in; and then the version is silent, or a pair differs
pub record Round (s : ScriptData) (past : List Entry) (r : RoundData) : Type 0 where
  pub once : (q : ℕ) → q < s.nodes → going (first_wave r.number q) s past + is_in (slice_get r.dones q) ≤ 1
  pub kept : (q : ℕ) (row : List ℕ) → q < s.nodes → slice_get r.dones q ≡ Some (Some row) → (p : ℕ) → p < s.nodes
      → slice_index row p ≤ (node_in s past q).counts.done r.version.0 p
  pub clean : all_in r.dones ≡ false → (going (second_wave r.number) s past ≡ 0) × NoRow r.askeds
  pub found : all_in r.dones ≡ true → IsSilent s past r.version.0 ⊎ Differs s past r

-- What is sent is at least b, where the counter is.
abbrev SentAtLeast : ℕ → ℕ → ℕ → ℕ → ℕ → ℕ → List Outgoing → Type 0
SentAtLeast number v p q b a os = Each (λ (o : Outgoing). (i : LetterId) → AtLeast number v p q b a o.body) os

apart_at_least : (number v p q b a : ℕ) (body : Body) → IsApart body → AtLeast number v p q b a body
apart_at_least number v p q b a (AskedRow w k row) apart = absurd apart
apart_at_least number v p q b a _ apart = tt

rowless_at_least : (number v p q b a : ℕ) (body : Body) → IsRowless body → AtLeast number v p q b a body
rowless_at_least number v p q b a (AskedRow w k row) none = absurd none
rowless_at_least number v p q b a _ none = tt

orders_at_least : (number v p q b a : ℕ) (os : List Outgoing) → AllRowless os → SentAtLeast number v p q b a os
orders_at_least number v p q b a os all =
    each_map (λ (o : Outgoing). IsRowless o.body) (λ (o : Outgoing). (i : LetterId) → AtLeast number v p q b a o.body) os
    (λ o none i. rowless_at_least number v p q b a o.body none) all

sent_at_least : (s : ScriptData) (past : List Entry) (e : Entry) (number v p q b : ℕ) → q < s.nodes
    → b ≤ (node_in s past p).counts.asked v q → Sending s past e → SentAtLeast number v p q b e.actor.0 e.sent
sent_at_least s past e number v p q b lt now (SendsApart away plain all) =
    each_map (λ (o : Outgoing). IsApart o.body) (λ (o : Outgoing). (i : LetterId)
    → AtLeast number v p q b e.actor.0 o.body) e.sent
    (λ o apart i. apart_at_least number v p q b e.actor.0 o.body apart) all
sent_at_least s past e number v p q b lt now (SendsDone w k node bd sent same) =
    subst (SentAtLeast number v p q b e.actor.0) (sym sent) ((λ i. tt), tt)
sent_at_least s past e number v p q b lt now (SendsAsked w k node bd sent same) =
    subst (SentAtLeast number v p q b e.actor.0) (sym sent) (
      (λ i ks ws is.
          let here : (node_in s past e.actor.0).counts.asked w.0 q ≡ (node_in s past p).counts.asked v q =
          ap (λ (n : ℕ). (node_in s past n).counts.asked w.0 q) is
          ∙ ap (λ (n : ℕ). (node_in s past p).counts.asked n q) ws in
          omega (arith, here, now, numbers_at s.nodes ((node_in s past e.actor.0).counts.asked w.0) q lt)),
      tt,
    )
sent_at_least s past e number v p q b lt now (SendsOrders at rowless) = orders_at_least number v p q b e.actor.0 e.sent rowless

-- a pair that differs does so after any entry, with these rows of requests
differs_goes : (s : ScriptData) (past : List Entry) (e : Entry) (r : RoundData) (ks : NodeRows) → IsTreeLawful s
    → IsStepRun s (e ∷ past) → AllApt s (e ∷ past)
    → LowIn s (e ∷ past) r.version.0 → (x : Differs s past r)
    → ((row : List ℕ) → slice_get ks x.p ≡ Some (Some row) → x.b ≤ slice_index row x.q)
    → Differs s (e ∷ past) (record r { askeds = ks })
differs_goes s past e r ks laws run apt low x kept = record {
  p = x.p;
  q = x.q;
  b = x.b;
  p_lt = x.p_lt;
  q_lt = x.q_lt;
  less = x.less;
  now = omega (arith, x.now, asked_grows s past e x.p r.version.0 x.q laws run apt x.p_lt (low x.p x.p_lt));
  letters = each_step (λ (l : Letter). AtLeast r.number r.version.0 x.p x.q x.b l.from.0 l.body) s past e x.letters
      (sent_at_least s past e r.number r.version.0 x.p x.q x.b x.q_lt x.now (sending s past e laws run apt));
  kept = kept;
}

found_goes : (s : ScriptData) (past : List Entry) (e : Entry) (r : RoundData) (ks : NodeRows) → IsTreeLawful s
    → IsStepRun s (e ∷ past) → AllApt s (e ∷ past)
    → Closed s past r.version.0 → LowIn s (e ∷ past) r.version.0
    → ((x : Differs s past r) (row : List ℕ) → slice_get ks x.p ≡ Some (Some row) → x.b ≤ slice_index row x.q)
    → IsSilent s past r.version.0 ⊎ Differs s past r
    → IsSilent s (e ∷ past) r.version.0 ⊎ Differs s (e ∷ past) (record r { askeds = ks })
found_goes s past e r ks laws run apt closed low kept (inl silent) =
    inl (silent_stays s past e r.version.0 laws run apt silent closed)
found_goes s past e r ks laws run apt closed low kept (inr x) =
    inr (differs_goes s past e r ks laws run apt low x (kept x))

-- a round goes on, with these rows of requests
round_goes : (s : ScriptData) (past : List Entry) (e : Entry) (r : RoundData) (ks : NodeRows) → IsTreeLawful s
    → IsStepRun s (e ∷ past) → AllApt s (e ∷ past)
    → Closed s past r.version.0 → LowIn s (e ∷ past) r.version.0
    → ((q : ℕ) → going (first_wave r.number q) s (e ∷ past) ≤ going (first_wave r.number q) s past)
    → going (second_wave r.number) s (e ∷ past) ≤ going (second_wave r.number) s past
    → (all_in r.dones ≡ false → NoRow r.askeds → NoRow ks)
    → ((x : Differs s past r) (row : List ℕ) → slice_get ks x.p ≡ Some (Some row) → x.b ≤ slice_index row x.q)
    → Round s past r → Round s (e ∷ past) (record r { askeds = ks })
round_goes s past e r ks laws run apt closed low first second none kept was = record {
  once = λ q lt. omega (arith, was.once q lt, first q);
  kept = λ q row lq at p lp.
      omega (arith, was.kept q row lq at p lp, done_grows s past e q r.version.0 p laws run apt lq (low q lq));
  clean = λ missing. let before = was.clean missing in (omega (arith, before.0, second), none missing before.1);
  found = λ full. found_goes s past e r ks laws run apt closed low kept (was.found full);
}

-- What is kept of a row, and what a row that is of this round says.
is_of_parts : (from : ℕ) (v : Version) (k : ℕ) (row : List ℕ) (r : RoundData) → is_of from v k row r ≡ true
    → (v.0 ≡ r.version.0) × (k ≡ r.number) × (from < r.nodes)
is_of_parts from v k row r is = (grind (arith, nat_tests), grind (arith, nat_tests), grind (arith, nat_tests))

kept_less : (o : Option (Option (List ℕ))) (p b : ℕ) → ((row : List ℕ) → o ≡ Some (Some row) → slice_index row p < b)
    → 0 < b
    → number_at o p < b
kept_less (Some (Some row)) p b all pos = all row refl
kept_less (Some None) p b all pos = pos
kept_less None p b all pos = pos

kept_more : (o : Option (Option (List ℕ))) (row : List ℕ) (q b : ℕ) → o ≡ Some (Some row) → b ≤ slice_index row q
    → b ≤ number_at o q
kept_more o row q b at le = subst (λ (x : Option (Option (List ℕ))). b ≤ number_at x q) (sym at) le

some_same : (a b : List ℕ) → Some a ≡ Some b → a ≡ b
some_same a b is = cc is

-- A row of completions is taken.
asked_itself : (k r q : ℕ) → k ≡ r → one_if ((k == r) && (q == q)) ≡ 1
asked_itself k r q is = grind (arith, nat_tests)

-- the letter taken is one of the first wave of its sender
took_first : (e : Entry) (v : Version) (k : ℕ) (row : List ℕ) (r a : ℕ) → e.took.body ≡ DoneRow v k row → k ≡ r
    → first_wave r e.took.from.0 e.took.from.0 a e.took.body ≡ 1
took_first e v k row r a bd ks =
    ap (λ (b : Body). first_wave r e.took.from.0 e.took.from.0 a b) bd ∙ asked_itself k r e.took.from.0 ks

-- it doesn't come where all are in
no_more : (s : ScriptData) (past : List Entry) (e : Entry) (r : RoundData) (v : Version) (k : ℕ) (row : List ℕ)
    → MayFollow s past e
    → Round s past r → length r.dones ≡ s.nodes → e.took.body ≡ DoneRow v k row → k ≡ r.number
    → e.took.from.0 < s.nodes → all_in r.dones ≡ true → ⊥
no_more s past e r v k row m was places bd ks lt full =
    let q = e.took.from.0 in
    let there = in_at r.dones q full (omega (arith, lt, places)) in
    let one : is_in (slice_get r.dones q) ≡ 1 = ap is_in there.1 in
    let f = λ (l : Letter). first_wave r.number q l.from.0 l.to.0 l.body in
    omega (
      arith,
      was.once q lt,
      one,
      took_first e v k row r.number e.took.to.0 bd ks,
      tally-drop f e.took.id (in_flight s past) e.took m.waits,
    )

clean_letter : (number v p q b from to : ℕ) (body : Body) → second_wave number from to body ≡ 0
    → AtLeast number v p q b from body
clean_letter number v p q b from to (AskedRow w k row) none = λ ks ws is. absurd (grind (arith, nat_tests))
clean_letter number v p q b from to _ none = tt

-- once all completions are in: the version is silent, or a pair has an outstanding letter, and differs
at_last : (s : ScriptData) (past : List Entry) (r : RoundData) → IsTreeLawful s → IsStepRun s past → AllApt s past
    → LowIn s past r.version.0
    → ((q : ℕ) (row : List ℕ) → q < s.nodes → slice_get r.dones q ≡ Some (Some row) → (p : ℕ) → p < s.nodes
    → slice_index row p ≤ (node_in s past q).counts.done r.version.0 p)
    → ((p q b : ℕ) → Each (λ (l : Letter). AtLeast r.number r.version.0 p q b l.from.0 l.body) (in_flight s past))
    → NoRow r.askeds
    → IsSilent s past r.version.0 ⊎
    ((p : ℕ) × (q : ℕ) × (p < s.nodes) × (q < s.nodes) × (1 ≤ out s past r.version.0 p q))
    → IsSilent s past r.version.0 ⊎ Differs s past r
at_last s past r laws run apt low rows letters clear (inl silent) = inl silent
at_last s past r laws run apt low rows letters clear (inr (p, q, lp, lq, some)) =
    let v = r.version.0 in
    let b = (node_in s past p).counts.asked v q in
    let bal = balanced_at s past v p q laws run apt lp lq (low p lp) (low q lq) in
    inr (record {
      p = p;
      q = q;
      b = b;
      p_lt = lp;
      q_lt = lq;
      less = kept_less (slice_get r.dones q) p b (λ row at. omega (arith, rows q row lq at p lp, bal, some))
          (omega (arith, bal, some));
      now = omega arith;
      letters = letters p q b;
      kept = λ row at. absurd (clear p row at);
    })

-- the rows of completions that are kept then
row_kept_by : (s : ScriptData) (past : List Entry) (e : Entry) (r : RoundData) (v : Version) (k : ℕ) (row : List ℕ)
    (q : ℕ) (row' : List ℕ)
    → IsTreeLawful s → IsStepRun s (e ∷ past) → AllApt s (e ∷ past) → LowIn s (e ∷ past) r.version.0 → Round s past r
    → e.took.body ≡ DoneRow v k row
    → v.0 ≡ r.version.0 → q < s.nodes
    → ((e.took.from.0 ≡ q) × (Some row ≡ Some row')) ⊎ (slice_get r.dones q ≡ Some (Some row')) → (p : ℕ) → p < s.nodes
    → slice_index row' p ≤ (node_in s (e ∷ past) q).counts.done r.version.0 p
row_kept_by s past e r v k row q row' laws run apt low was bd vs lq (inr old) p lp =
    omega (arith, was.kept q row' lq old p lp, done_grows s past e q r.version.0 p laws run apt lq (low q lq))
row_kept_by s past e r v k row q row' laws run apt low was bd vs lq (inl new) p lp =
    let taken = each_taken (λ (l : Letter). RowBody s past l.from.0 l.body) s past e run.0
    (rows_true s past laws run.1 apt.1) in
    let here : RowBody s (e ∷ past) q (DoneRow v k row) =
    subst (λ (n : ℕ). RowBody s (e ∷ past) n (DoneRow v k row)) new.0
    (subst (λ (b : Body). RowBody s (e ∷ past) e.took.from.0 b) bd
    (row_later s past e e.took.from.0 e.took.body laws run apt taken)) in
    let fine : slice_index row p ≤ (node_in s (e ∷ past) q).counts.done v.0 p =
    here lq p lp (omega (arith, low q lq, vs)) in
    let there : slice_index row p ≤ (node_in s (e ∷ past) q).counts.done r.version.0 p =
    subst (λ (n : ℕ). slice_index row p ≤ (node_in s (e ∷ past) q).counts.done n p) vs fine in
    subst (λ (x : List ℕ). slice_index x p ≤ (node_in s (e ∷ past) q).counts.done r.version.0 p)
    (some_same row row' new.1) there

once_by : (s : ScriptData) (past : List Entry) (e : Entry) (r : RoundData) (v : Version) (k : ℕ) (row : List ℕ)
    (q t : ℕ) → Round s past r
    → e.took.body ≡ DoneRow v k row → k ≡ r.number → q < s.nodes
    → t + first_wave r.number q e.took.from.0 e.actor.0 e.took.body ≡ going (first_wave r.number q) s past
    → (e.took.from.0 ≡ q) ⊎ (e.took.from.0 ≢ q)
    → t + is_in (slice_get (slice_set r.dones e.took.from.0 (Some row)) q) ≤ 1
once_by s past e r v k row q t was bd ks lq flow (inl eq) =
    let took : first_wave r.number q e.took.from.0 e.actor.0 e.took.body ≡ 1 =
    ap (λ (n : ℕ). first_wave r.number n e.took.from.0 e.actor.0 e.took.body) (sym eq)
    ∙ took_first e v k row r.number e.actor.0 bd ks in
    omega (arith, took, flow, was.once q lq, is_in_most (slice_get (slice_set r.dones e.took.from.0 (Some row)) q))
once_by s past e r v k row q t was bd ks lq flow (inr ne) =
    let same : is_in (slice_get (slice_set r.dones e.took.from.0 (Some row)) q) ≡ is_in (slice_get r.dones q) =
    ap is_in (get_set_other r.dones e.took.from.0 q (Some row) ne) in
    omega (arith, same, flow, was.once q lq)

-- what is sent of the second wave, where a row is missing still
no_asks : (r a n : ℕ) (v : Version) (k : ℕ) (b d : Bool) → b ≡ false
    → tally (leaving (second_wave r) a) (if b && d then to_nodes n (AskAsked v k) else []) ≡ 0
no_asks r a n v k false d is = refl
no_asks r a n v k true d is = absurd (cc is)

done_found : (s : ScriptData) (past : List Entry) (e : Entry) (r : RoundData) (v : Version) (k : ℕ) (row : List ℕ)
    (b : Bool) → MayFollow s past e
    → Round s past r → length r.dones ≡ s.nodes → e.took.body ≡ DoneRow v k row → k ≡ r.number
    → e.took.from.0 < s.nodes → (all_in r.dones ≡ false
    → IsSilent s (e ∷ past) r.version.0 ⊎ Differs s (e ∷ past) (with_done e.took.from.0 row r))
    → all_in r.dones ≡ b → IsSilent s (e ∷ past) r.version.0 ⊎ Differs s (e ∷ past) (with_done e.took.from.0 row r)
done_found s past e r v k row true m was places bd ks lt rest full =
    absurd (no_more s past e r v k row m was places bd ks lt full)
done_found s past e r v k row false m was places bd ks lt rest missing = rest missing

-- the round takes a row of completions
round_takes : (s : ScriptData) (past : List Entry) (e : Entry) (r : RoundData) (v : Version) (k : ℕ) (row : List ℕ)
    → IsTreeLawful s → IsStepRun s (e ∷ past) → AllApt s (e ∷ past) → LowIn s (e ∷ past) r.version.0 → Round s past r
    → length r.dones ≡ s.nodes → e.took.body ≡ DoneRow v k row → v.0 ≡ r.version.0 → k ≡ r.number
    → e.took.from.0 < s.nodes → AllRowless e.sent → e.sent ≡ asks_after s.nodes e.took.from.0 row r
    → Round s (e ∷ past) (with_done e.took.from.0 row r)
round_takes s past e r v k row laws run apt low was places bd vs ks lt rowless sent =
    let m = run.0 in
    let from = e.took.from.0 in
    let full = all_in (slice_set r.dones from (Some row)) in
    let rows = λ (q : ℕ) (row' : List ℕ) (lq : q < s.nodes)
    (at : slice_get (slice_set r.dones from (Some row)) q ≡ Some (Some row')) (p : ℕ) (lp : p < s.nodes).
    row_kept_by s past e r v k row q row' laws run apt low was bd vs lq
    (set_get r.dones from q (Some row) (Some row') at) p lp in
    let letters = λ (clear : going (second_wave r.number) s past ≡ 0) (p q b : ℕ).
    each_step (λ (l : Letter). AtLeast r.number r.version.0 p q b l.from.0 l.body) s past e
    (each_map (λ (l : Letter). second_wave r.number l.from.0 l.to.0 l.body ≡ 0)
    (λ (l : Letter). AtLeast r.number r.version.0 p q b l.from.0 l.body) (in_flight s past)
    (λ l is. clean_letter r.number r.version.0 p q b l.from.0 l.to.0 l.body is)
    (each_zero (λ (l : Letter). second_wave r.number l.from.0 l.to.0 l.body) (in_flight s past) clear))
    (orders_at_least r.number r.version.0 p q b e.actor.0 e.sent rowless) in
    record {
      once = λ q lq.
          let none : tally (leaving (first_wave r.number q) e.actor.0) e.sent ≡ 0 =
          ap (λ (os : List Outgoing). tally (leaving (first_wave r.number q) e.actor.0) os) sent
          ∙ no_first r.number q e.actor.0 s.nodes r.version r.number (full && not (all_in r.dones)) in
          once_by s past e r v k row q (going (first_wave r.number q) s (e ∷ past)) was bd ks lq
          (omega (arith, flow_of (first_wave r.number q) s past e m, none)) (cases_eq from q);
      kept = λ q row' lq at p lp. rows q row' lq at p lp;
      clean = λ missing.
          let before = was.clean (missing_before r.dones from row missing) in
          let none : tally (leaving (second_wave r.number) e.actor.0) e.sent ≡ 0 =
          ap (λ (os : List Outgoing). tally (leaving (second_wave r.number) e.actor.0) os) sent
          ∙ no_asks r.number e.actor.0 s.nodes r.version r.number full (not (all_in r.dones)) missing in
          (omega (arith, flow_of (second_wave r.number) s past e m, before.0, none), before.1);
      found = λ now. done_found s past e r v k row (all_in r.dones) m was places bd ks lt
          (λ missing. let before = was.clean missing in
          at_last s (e ∷ past) (with_done from row r) laws run apt low rows (letters before.0) before.1
          (silent_or_not s (e ∷ past) r.version.0))
          refl;
    }

-- A round begins.
round_begins : (s : ScriptData) (past : List Entry) (e : Entry) (c : Count) (v : Version) (k : ℕ) → MayFollow s past e
    → c.number < k → Fresh s past c → e.sent ≡ to_nodes s.nodes (AskDone v k) → Round s (e ∷ past) (new_round v k s.nodes)
round_begins s past e c v k m lt new sent = record {
  once = λ q lq.
      let out : tally (leaving (first_wave k q) e.actor.0) e.sent ≡ tally (leaving (first_wave k q) e.actor.0)
      (to_nodes s.nodes (AskDone v k)) =
      ap (λ (os : List Outgoing). tally (leaving (first_wave k q) e.actor.0) os) sent in
      omega (
        arith,
        out,
        asks_once k q e.actor.0 s.nodes v k,
        flow_of (first_wave k q) s past e m,
        first_none s past k c.number q new.letters lt,
        not_in s.nodes q,
      );
  kept = λ q row lq at p lp. absurd (none_kept s.nodes q row at);
  clean = λ missing.
      let out : tally (leaving (second_wave k) e.actor.0) e.sent ≡ tally (leaving (second_wave k) e.actor.0)
      (to_nodes s.nodes (AskDone v k)) =
      ap (λ (os : List Outgoing). tally (leaving (second_wave k) e.actor.0) os) sent in (
        omega (
          arith,
          out,
          no_second k e.actor.0 s.nodes v k,
          flow_of (second_wave k) s past e m,
          second_none s past k c.number new.letters lt,
        ),
        none_kept s.nodes,
      );
  found = λ full. inl (λ p q lp lq. let none = none_in s.nodes full in absurd (omega (arith, none, lp)));
}

-- A row of requests is taken.
taken_at_least : (s : ScriptData) (past : List Entry) (e : Entry) (r : RoundData) (v : Version) (k : ℕ) (row : List ℕ)
    (x : Differs s past r)
    → MayFollow s past e → e.took.body ≡ AskedRow v k row → v.0 ≡ r.version.0 → k ≡ r.number → e.took.from.0 ≡ x.p
    → x.b ≤ slice_index row x.q
taken_at_least s past e r v k row x m bd vs ks is =
    let ok = each_taken (λ (l : Letter). AtLeast r.number r.version.0 x.p x.q x.b l.from.0 l.body)
    s past e m x.letters in
    let here : AtLeast r.number r.version.0 x.p x.q x.b e.took.from.0 (AskedRow v k row) =
    subst (λ (b : Body). AtLeast r.number r.version.0 x.p x.q x.b e.took.from.0 b) bd ok in
    here ks vs is

asked_by : (s : ScriptData) (past : List Entry) (e : Entry) (r : RoundData) (v : Version) (k : ℕ) (row row' : List ℕ)
    (x : Differs s past r)
    → MayFollow s past e → e.took.body ≡ AskedRow v k row → v.0 ≡ r.version.0 → k ≡ r.number
    → ((e.took.from.0 ≡ x.p) × (Some row ≡ Some row')) ⊎ (slice_get r.askeds x.p ≡ Some (Some row'))
    → x.b ≤ slice_index row' x.q
asked_by s past e r v k row row' x m bd vs ks (inr old) = x.kept row' old
asked_by s past e r v k row row' x m bd vs ks (inl new) =
    subst (λ (y : List ℕ). x.b ≤ slice_index y x.q) (some_same row row' new.1)
    (taken_at_least s past e r v k row x m bd vs ks new.0)

-- every row of requests that is kept then is at least what a pair that differs needs
asked_at_least : (s : ScriptData) (past : List Entry) (e : Entry) (r : RoundData) (v : Version) (k : ℕ)
    (row row' : List ℕ) (x : Differs s past r)
    → MayFollow s past e → e.took.body ≡ AskedRow v k row → v.0 ≡ r.version.0 → k ≡ r.number
    → slice_get (slice_set r.askeds e.took.from.0 (Some row)) x.p ≡ Some (Some row') → x.b ≤ slice_index row' x.q
asked_at_least s past e r v k row row' x m bd vs ks at =
    asked_by s past e r v k row row' x m bd vs ks (set_get r.askeds e.took.from.0 x.p (Some row) (Some row') at)

-- In every run: while a round is counted, it holds what a round does, where G holds of its version.
abbrev pub Rounds : Premise → ScriptData → List Entry → Count → Type 0
Rounds G s past c = (reads : Bool) → c.pace ≡ InRound reads → G reads c.round.version.0 past → Round s past c.round

rounds_away : (s : ScriptData) (count : List Entry → Count) (G : Premise) → IsCounting s count G
    → (past : List Entry) (e : Entry) → IsStepRun s (e ∷ past) → AllApt s (e ∷ past) → e.actor.0 ≢ s.nodes
    → Rounds G s past (count past) → Rounds G s (e ∷ past) (count (e ∷ past))
rounds_away s count G view past e run apt away was =
    let c = count past in
    let r = c.round in
    let same = view.stays past e away in
    let sends = sending s past e view.lawful run apt in
    let first = λ (q : ℕ). wave_kept (first_wave r.number q) (is_first r.number q) s past e run.0 away sends in
    let second = wave_kept (second_wave r.number) (is_second r.number) s past e run.0 away sends in
    subst (Rounds G s (e ∷ past)) (sym same) (λ reads at given.
    let before = view.back reads r.version.0 past e run given in
    round_goes s past e r r.askeds view.lawful run apt
    (view.opens reads past run.1 apt.1 at before).closed (low_in s count G view (e ∷ past) c reads run apt same at given)
    (λ q. omega (arith, first q)) (omega (arith, second))
    (λ missing none. none) (λ x row at'. x.kept row at') (was reads at before))

-- a round goes on where nothing is sent, with these rows of requests
round_quiet : (s : ScriptData) (count : List Entry → Count) (G : Premise) → IsCounting s count G
    → (past : List Entry) (e : Entry) (reads : Bool) (ks : NodeRows) → IsStepRun s (e ∷ past) → AllApt s (e ∷ past)
    → (count past).pace ≡ InRound reads → LowIn s (e ∷ past) (count past).round.version.0
    → G reads (count past).round.version.0 (e ∷ past) → e.sent ≡ []
    → (all_in (count past).round.dones ≡ false → NoRow (count past).round.askeds → NoRow ks)
    → ((x : Differs s past (count past).round) (row : List ℕ) → slice_get ks x.p ≡ Some (Some row) → x.b ≤ slice_index row x.q)
    → Rounds G s past (count past) → Round s (e ∷ past) (record (count past).round { askeds = ks })
round_quiet s count G view past e reads ks run apt at low given sent none kept was =
    let r = (count past).round in
    let before = view.back reads r.version.0 past e run given in
    let quiet = λ (f : _). ap (λ (os : List Outgoing). tally (leaving f e.actor.0) os) sent in
    let first = λ (q : ℕ). quiet (first_wave r.number q) in
    let second = quiet (second_wave r.number) in
    round_goes s past e r ks view.lawful run apt (view.opens reads past run.1 apt.1 at before).closed low
    (λ q. omega (arith, first q, flow_of (first_wave r.number q) s past e run.0))
    (omega (arith, second, flow_of (second_wave r.number) s past e run.0)) none kept (was reads at before)

-- what a step of the count makes of its round
rounds_by : (s : ScriptData) (count : List Entry → Count) (G : Premise) → IsCounting s count G
    → (past : List Entry) (e : Entry) → IsStepRun s (e ∷ past) → AllApt s (e ∷ past) → AllRowless e.sent → Rounds G s past (count past)
    → CountStep s.nodes (count past) (count (e ∷ past)) e.took.from.0 e.took.body e.sent → Rounds G s (e ∷ past) (count (e ∷ past))
rounds_by s count G view past e run apt rowless was (Leaves none le plain) = λ reads at given.
    absurd (none_in_round (count (e ∷ past)).pace reads none at)
rounds_by s count G view past e run apt rowless was (Holds reads at calm refused is sent) =
    let c = count past in
    subst (Rounds G s (e ∷ past)) (sym is) (λ other now given.
    round_quiet s count G view past e other c.round.askeds run apt now
    (low_in s count G view (e ∷ past) c other run apt is now given) given sent
    (λ missing clear. clear) (λ x row at'. x.kept row at') was)
rounds_by s count G view past e run apt rowless was (IsNudged reads at bd is sent) =
    let c = count past in
    subst (Rounds G s (e ∷ past)) (sym is) (λ other now given.
    round_quiet s count G view past e other c.round.askeds run apt now
    (low_in s count G view (e ∷ past) (record c { flag = true }) other run apt is now given) given sent
    (λ missing clear. clear) (λ x row at'. x.kept row at') was)
rounds_by s count G view past e run apt rowless was (Lasts at calm is sent) =
    subst (Rounds G s (e ∷ past)) (sym is) (λ other now given. absurd (paused_in_round (count past).pace other at now))
rounds_by s count G view past e run apt rowless was (Begins reads v k lt none is sent) =
    subst (Rounds G s (e ∷ past)) (sym is) (λ other now given.
    round_begins s past e (count past) v k run.0 lt (none_later s count G view past run.1 apt.1) sent)
rounds_by s count G view past e run apt rowless was (TakesDone reads v k row at bd here is sent) =
    let c = count past in
    let r = c.round in
    let parts = is_of_parts e.took.from.0 v k row r here in
    subst (Rounds G s (e ∷ past)) (sym is) (λ other now given.
    let shape = shaped s count G view past run.1 apt.1 other now in
    round_takes s past e r v k row view.lawful run apt
    (low_in s count G view (e ∷ past) (count_done e.took.from.0 row c) other run apt is now given)
    (was other now (view.back other r.version.0 past e run given)) shape.dones bd parts.0 parts.1
    (omega (arith, parts.2, shape.nodes)) rowless sent)
rounds_by s count G view past e run apt rowless was (TakesRequests reads v k row takes verdict is sent) =
    let c = count past in
    let r = c.round in
    let parts = is_of_parts e.took.from.0 v k row r takes.here in
    subst (Rounds G s (e ∷ past)) (sym is) (λ other now given.
    round_quiet s count G view past e other (slice_set r.askeds e.took.from.0 (Some row)) run apt now
    (low_in s count G view (e ∷ past) (count_asked e.took.from.0 row c) other run apt is now given) given sent
    (λ missing clear. absurd (cc (missing, takes.after_dones)))
    (λ x row' at. asked_at_least s past e r v k row row' x run.0 takes.body_is parts.0 parts.1 at) was)
rounds_by s count G view past e run apt rowless was (Denies reads v k row takes verdict clear is sent) =
    subst (Rounds G s (e ∷ past)) (sym is) (λ other now given. absurd (cc now))

rounds_next : (s : ScriptData) (count : List Entry → Count) (G : Premise) → IsCounting s count G
    → (past : List Entry) (e : Entry) → IsStepRun s (e ∷ past) → AllApt s (e ∷ past) → Rounds G s past (count past)
    → Sending s past e → Rounds G s (e ∷ past) (count (e ∷ past))
rounds_next s count G view past e run apt was (SendsApart away plain all) = rounds_away s count G view past e run apt away was
rounds_next s count G view past e run apt was (SendsDone v k lt bd sent same) =
    rounds_away s count G view past e run apt (λ eq. omega (arith, eq, lt)) was
rounds_next s count G view past e run apt was (SendsAsked v k lt bd sent same) =
    rounds_away s count G view past e run apt (λ eq. omega (arith, eq, lt)) was
rounds_next s count G view past e run apt was (SendsOrders at rowless) =
    rounds_by s count G view past e run apt rowless was (view.steps past e run apt.1 at)

pub rounds : (s : ScriptData) (count : List Entry → Count) (G : Premise) → IsCounting s count G
    → (past : List Entry) → IsStepRun s past → AllApt s past → Rounds G s past (count past)
rounds s count G view [] run apt = λ reads at given. absurd (none_in_round (count []).pace reads view.start at)
rounds s count G view (e ∷ past) run apt =
    rounds_next s count G view past e run apt (rounds s count G view past run.1 apt.1) (sending s past e view.lawful run apt)

-- The verdict that all pairs agree.
agreed_by : (r : RoundData) (a b : Bool) → all_in r.dones ≡ a → all_in r.askeds ≡ b → verdict_of r ≡ Some true
    → (all_in r.askeds ≡ true) × (agrees r.nodes r.askeds r.dones ≡ true)
agreed_by r true true full asked is = (asked, let v = rw (full, asked) at is in cc v)
agreed_by r true false full asked is = absurd (let v = rw (full, asked) at is in cc v)
agreed_by r false b full asked is = absurd (let v = rw full at is in cc v)

agreed : (r : RoundData) → verdict_of r ≡ Some true
    → (all_in r.askeds ≡ true) × (agrees r.nodes r.askeds r.dones ≡ true)
agreed r is = agreed_by r (all_in r.dones) (all_in r.askeds) refl refl is

-- it isn't given where a pair differs
no_verdict : (s : ScriptData) (past : List Entry) (e : Entry) (r : RoundData) (v : Version) (k : ℕ) (row : List ℕ)
    → MayFollow s past e
    → e.took.body ≡ AskedRow v k row → v.0 ≡ r.version.0 → k ≡ r.number → r.nodes ≡ s.nodes
    → length r.askeds ≡ s.nodes → Differs s past r
    → verdict_of (with_asked e.took.from.0 row r) ≡ Some true → ⊥
no_verdict s past e r v k row m bd vs ks nodes places x verdict =
    let askeds = slice_set r.askeds e.took.from.0 (Some row) in
    let both = agreed (with_asked e.took.from.0 row r) verdict in
    let same : length askeds ≡ s.nodes = length-set r.askeds e.took.from.0 (Some row) ∙ places in
    let there = in_at askeds x.p both.0 (omega (arith, x.p_lt, same)) in
    let le : x.b ≤ slice_index there.0 x.q = asked_at_least s past e r v k row there.0 x m bd vs ks there.1 in
    let more : x.b ≤ kept_number askeds x.p x.q = kept_more (slice_get askeds x.p) there.0 x.q x.b there.1 le in
    differs-none (with_asked e.took.from.0 row r) both.1 (
      x.p,
      (
        x.q,
        (
          omega (arith, x.p_lt, nodes),
          omega (arith, x.q_lt, nodes),
          (λ eq. omega (arith, eq, more, x.less)),
        ),
      ),
    )

silent_by : (s : ScriptData) (past : List Entry) (e : Entry) (r : RoundData) (v : Version) (k : ℕ) (row : List ℕ)
    → MayFollow s past e
    → e.took.body ≡ AskedRow v k row → v.0 ≡ r.version.0 → k ≡ r.number → r.nodes ≡ s.nodes
    → length r.askeds ≡ s.nodes → verdict_of (with_asked e.took.from.0 row r) ≡ Some true
    → IsSilent s past r.version.0 ⊎ Differs s past r
    → IsSilent s past r.version.0
silent_by s past e r v k row m bd vs ks nodes places verdict (inl silent) = silent
silent_by s past e r v k row m bd vs ks nodes places verdict (inr x) =
    absurd (no_verdict s past e r v k row m bd vs ks nodes places x verdict)

-- where the verdict is given that all pairs agree, the version counted is silent
pub silent_agreed : (s : ScriptData) (count : List Entry → Count) (G : Premise) → IsCounting s count G
    → (past : List Entry) (e : Entry) (reads : Bool) (v : Version) (k : ℕ) (row : List ℕ) → IsStepRun s (e ∷ past) → AllApt s past
    → TakesRow (count past) e.took.from.0 e.took.body reads v k row → G reads (count past).round.version.0 past
    → verdict_of (with_asked e.took.from.0 row (count past).round) ≡ Some true → IsSilent s past (count past).round.version.0
silent_agreed s count G view past e reads v k row run apt takes given verdict =
    let r = (count past).round in
    let shape = shaped s count G view past run.1 apt reads takes.pace in
    let round = rounds s count G view past run.1 apt reads takes.pace given in
    let parts = is_of_parts e.took.from.0 v k row r takes.here in
    silent_by s past e r v k row run.0 takes.body_is parts.0 parts.1 shape.nodes shape.askeds verdict (round.found takes.after_dones)

-- so of the coordinator
pub agrees_silent : (s : ScriptData) (past : List Entry) (e : Entry) (reads : Bool) (v : Version) (k : ℕ) (row : List ℕ)
    → IsLawful s → IsStepRun s (e ∷ past) → AllApt s past
    → TakesAsked (coordinator_in s past) e.took.from.0 e.took.body reads v k row
    → verdict_of (with_asked e.took.from.0 row (coordinator_in s past).count.current) ≡ Some true
    → IsSilent s past (counted_version reads (coordinator_in s past)).0
agrees_silent s past e reads v k row laws run apt takes verdict =
    let c = coordinator_in s past in
    subst (IsSilent s past) (ap (λ (w : Version). w.0) (versioned s past laws run.1 apt reads takes.phase))
    (silent_agreed s (count_in s) Always (coordinator_counts s laws) past e reads v k row run apt
    (takes_row c e.took.from.0 e.took.body reads v k row takes) tt verdict)
