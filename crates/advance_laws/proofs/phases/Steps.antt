-- The round that a coordinator counts has a place for each node; no message is of a later round; and what the rows of
-- completions in flight say.
use Rattle.std.proofs.Common.{if◌then◌else◌, ◌≡◌, ◌≢◌, ◌⊎◌, inl, inr, ℕ, zero, suc, ◌<◌, ◌≤◌, Bool, true, false, List, [], ◌∷◌, ◌++◌, length, refl, sym, ap, subst, ◌∙◌, arith, Some, None}
use Rattle.std.specs.Prelude.{slice_index}
use Rattle.std.proofs.lemmas.Bool.{cases_eq}
use Rattle.std.proofs.lemmas.Grind.{common_steps}
use Rattle.std.proofs.lemmas.List.{length-set, length-replicate}
use Rattle.pair_counters.proofs.Rows.{length_numbers}
use Rattle.letter_types.specs.declared.bodies.Body.{Body}
use Rattle.letter_types.specs.declared.bodies.Body.TheVariants.{AskDone, AskAsked, DoneRow, AskedRow}
use Rattle.letter_types.specs.declared.entries.Entry.{Entry}
use Rattle.letter_types.specs.declared.entries.Letter.{Letter}
use Rattle.letter_types.specs.declared.entries.LetterId.{LetterId}
use Rattle.letter_types.specs.declared.entries.Outgoing.{Outgoing}
use Rattle.tv_base.specs.declared.numbers.Version.{Version}
use Rattle.pair_counters.specs.Numbers.{numbers_of}
use Rattle.phase_out.specs.Rounds.{RoundData}
use Rattle.tx_trees.specs.ScriptData.{ScriptData}
use Rattle.world_model.specs.Node.{Node}
use Rattle.world_model.specs.Coordinator.{to_nodes}
use Rattle.world_model.specs.Counts.{Each}
use Rattle.world_model.specs.Runs.{node_in, in_flight, IsStepRun}
use Rattle.world_model.specs.AllApt.{AllApt}
use Rattle.world_model.proofs.Every.{each_map, each_step, each_taken}
use Rattle.advance_laws.proofs.governed.Lawful.{IsTreeLawful}
use Rattle.world_model.proofs.Orders.{to_nodes_each}
use Rattle.advance_laws.proofs.counting.Balance.{apt_low_rises}
use Rattle.advance_laws.proofs.counting.Counting.{Count, CountStep, Denies, Holds, IsCounting, IsNudged, InRound, Lasts, Leaves, Begins, TakesDone, TakesRequests, begun, count_asked, count_done, none_in_round, Premise}
use Rattle.advance_laws.proofs.right.Sending.{AllPlain, IsApart, IsPlain, IsRowless, apart_plain, Sending, SendsApart, SendsDone, SendsAsked, SendsOrders, sending}
use Rattle.advance_laws.proofs.counting.Silence.{below_or_at, done_grows}

-- the round is the one of this number, and has a place for each of n nodes
pub record IsShaped (n k : ℕ) (r : RoundData) : Type 0 where
  pub number : r.number ≡ k
  pub nodes : r.nodes ≡ n
  pub dones : length r.dones ≡ n
  pub askeds : length r.askeds ≡ n

-- the round that is counted is the last one
abbrev pub Shaped : ℕ → Count → Type 0
Shaped n c = (reads : Bool) → c.pace ≡ InRound reads → IsShaped n c.number c.round

shaped_begun : (n k : ℕ) (v : Version) (reads : Bool) → Shaped n (begun reads v k n)
shaped_begun n k v reads = λ other at.
    record { number = refl; nodes = refl; dones = length-replicate n None; askeds = length-replicate n None }

shaped_done : (n from : ℕ) (row : List ℕ) (c : Count) → Shaped n c → Shaped n (count_done from row c)
shaped_done n from row c was = λ reads at. let now = was reads at in record {
  number = now.number;
  nodes = now.nodes;
  dones = length-set c.round.dones from (Some row) ∙ now.dones;
  askeds = now.askeds;
}

shaped_asked : (n from : ℕ) (row : List ℕ) (c : Count) → Shaped n c → Shaped n (count_asked from row c)
shaped_asked n from row c was = λ reads at. let now = was reads at in record {
  number = now.number;
  nodes = now.nodes;
  dones = now.dones;
  askeds = length-set c.round.askeds from (Some row) ∙ now.askeds;
}

shaped_by : (n : ℕ) (c d : Count) (from : ℕ) (body : Body) (os : List Outgoing) → Shaped n c → CountStep n c d from body os → Shaped n d
shaped_by n c d from body os was (Leaves none le plain) = λ reads at. absurd (none_in_round d.pace reads none at)
shaped_by n c d from body os was (Holds reads at calm refused is sent) = subst (Shaped n) (sym is) was
shaped_by n c d from body os was (IsNudged reads at bd is sent) = subst (Shaped n) (sym is) was
shaped_by n c d from body os was (Lasts at calm is sent) = subst (Shaped n) (sym is) was
shaped_by n c d from body os was (Begins reads v k lt none is sent) = subst (Shaped n) (sym is) (shaped_begun n k v reads)
shaped_by n c d from body os was (TakesDone reads v k row at bd here is sent) = subst (Shaped n) (sym is) (shaped_done n from row c was)
shaped_by n c d from body os was (TakesRequests reads v k row takes verdict is sent) =
    subst (Shaped n) (sym is) (shaped_asked n from row c was)
shaped_by n c d from body os was (Denies reads v k row takes verdict clear is sent) =
    subst (Shaped n) (sym is) (λ other at. absurd (cc at))

shaped_next : (s : ScriptData) (count : List Entry → Count) (G : Premise) → IsCounting s count G
    → (past : List Entry) (e : Entry) → IsStepRun s (e ∷ past) → AllApt s past → Shaped s.nodes (count past)
    → (e.actor.0 ≡ s.nodes) ⊎ (e.actor.0 ≢ s.nodes) → Shaped s.nodes (count (e ∷ past))
shaped_next s count G view past e run apt was (inl at) =
    shaped_by s.nodes (count past) (count (e ∷ past)) e.took.from.0 e.took.body e.sent was (view.steps past e run apt at)
shaped_next s count G view past e run apt was (inr away) = subst (Shaped s.nodes) (sym (view.stays past e away)) was

pub shaped : (s : ScriptData) (count : List Entry → Count) (G : Premise) → IsCounting s count G
    → (past : List Entry) → IsStepRun s past → AllApt s past → Shaped s.nodes (count past)
shaped s count G view [] run apt = λ reads at. absurd (none_in_round (count []).pace reads view.start at)
shaped s count G view (e ∷ past) run apt =
    shaped_next s count G view past e run apt.1 (shaped s count G view past run.1 apt.1) (cases_eq e.actor.0 s.nodes)

-- The numbers of nodes, by place.
numbers_last : (n : ℕ) (f : ℕ → ℕ) → slice_index (numbers_of n f ++ f n ∷ []) n ≡ f n
numbers_last n f = let len = length_numbers n f in grind (arith, common_steps)

numbers_front : (n p : ℕ) (f : ℕ → ℕ) → p < n
    → slice_index (numbers_of n f ++ f n ∷ []) p ≡ slice_index (numbers_of n f) p
numbers_front n p f lt = let len = length_numbers n f in grind (arith, common_steps)

numbers_by : (n : ℕ) (f : ℕ → ℕ) (p : ℕ) → (p < n) ⊎ (p ≡ n) → (p < n → slice_index (numbers_of n f) p ≡ f p)
    → slice_index (numbers_of n f ++ f n ∷ []) p ≡ f p
numbers_by n f p (inl lt) rest = numbers_front n p f lt ∙ rest lt
numbers_by n f p (inr is) rest = rw is (numbers_last n f)

pub numbers_at : (n : ℕ) (f : ℕ → ℕ) (p : ℕ) → p < n → slice_index (numbers_of n f) p ≡ f p
numbers_at zero f p lt = absurd (omega (arith, lt))
numbers_at (suc n) f p lt = numbers_by n f p (below_or_at p n lt) (λ less. numbers_at n f p less)

-- A row of completions that is in flight has at most the present numbers, where its node still counts them.
abbrev pub RowBody : ScriptData → List Entry → ℕ → Body → Type 0
RowBody s past q (DoneRow w k row) =
    q < s.nodes → (p : ℕ) → p < s.nodes → (node_in s past q).turns.low.0 ≤ w.0
    → slice_index row p ≤ (node_in s past q).counts.done w.0 p
RowBody s past q _ = Unit {0}

pub row_later : (s : ScriptData) (past : List Entry) (e : Entry) (q : ℕ) (body : Body) → IsTreeLawful s
    → IsStepRun s (e ∷ past) → AllApt s (e ∷ past)
    → RowBody s past q body → RowBody s (e ∷ past) q body
row_later s past e q (DoneRow w k row) laws run apt ok = λ hq p hp low.
    let rise = apt_low_rises s past e q apt run hq in
    omega (arith, ok hq p hp (omega (arith, rise, low)), done_grows s past e q w.0 p laws run apt hq low)
row_later s past e q _ laws run apt ok = tt

apart_row : (s : ScriptData) (past : List Entry) (q : ℕ) (body : Body) → IsApart body → RowBody s past q body
apart_row s past q (DoneRow w k row) apart = absurd apart
apart_row s past q _ apart = tt

rowless_row : (s : ScriptData) (past : List Entry) (q : ℕ) (body : Body) → IsRowless body → RowBody s past q body
rowless_row s past q (DoneRow w k row) none = absurd none
rowless_row s past q _ none = tt

-- what an entry sends, of its actor
abbrev SentRows : ScriptData → List Entry → ℕ → List Outgoing → Type 0
SentRows s past a os = Each (λ (o : Outgoing). (i : LetterId) → RowBody s past a o.body) os

rows_sent : (s : ScriptData) (past : List Entry) (e : Entry) → Sending s past e → SentRows s (e ∷ past) e.actor.0 e.sent
rows_sent s past e (SendsApart away plain all) =
    each_map (λ (o : Outgoing). IsApart o.body) (λ (o : Outgoing). (i : LetterId)
    → RowBody s (e ∷ past) e.actor.0 o.body) e.sent
    (λ o apart i. apart_row s (e ∷ past) e.actor.0 o.body apart) all
rows_sent s past e (SendsDone v k lt bd sent same) =
    subst (SentRows s (e ∷ past) e.actor.0) (sym sent) (
      (λ i hq p hp low.
          let now : (node_in s (e ∷ past) e.actor.0).counts.done v.0 p ≡ (node_in s past e.actor.0).counts.done v.0 p =
          ap (λ (st : Node). st.counts.done v.0 p) same in
          omega (arith, now, numbers_at s.nodes ((node_in s past e.actor.0).counts.done v.0) p hp)),
      tt,
    )
rows_sent s past e (SendsAsked v k lt bd sent same) = subst (SentRows s (e ∷ past) e.actor.0) (sym sent) ((λ i. tt), tt)
rows_sent s past e (SendsOrders at rowless) =
    each_map (λ (o : Outgoing). IsRowless o.body) (λ (o : Outgoing). (i : LetterId)
    → RowBody s (e ∷ past) e.actor.0 o.body) e.sent
    (λ o none i. rowless_row s (e ∷ past) e.actor.0 o.body none) rowless

pub rows_true : (s : ScriptData) (past : List Entry) → IsTreeLawful s → IsStepRun s past → AllApt s past
    → Each (λ (l : Letter). RowBody s past l.from.0 l.body) (in_flight s past)
rows_true s [] laws run apt = (tt, tt)
rows_true s (e ∷ past) laws run apt =
    each_step (λ (l : Letter). RowBody s (e ∷ past) l.from.0 l.body) s past e
    (each_map (λ (l : Letter). RowBody s past l.from.0 l.body) (λ (l : Letter). RowBody s (e ∷ past) l.from.0 l.body)
    (in_flight s past)
    (λ l ok. row_later s past e l.from.0 l.body laws run apt ok) (rows_true s past laws run.1 apt.1))
    (rows_sent s past e (sending s past e laws run apt))

-- No letter is of a round later than the last one.
abbrev pub round_of : Body → ℕ
round_of (AskDone v k) = k
round_of (AskAsked v k) = k
round_of (DoneRow v k row) = k
round_of (AskedRow v k row) = k
round_of _ = 0

abbrev UpTo : ℕ → List Outgoing → Type 0
UpTo r os = Each (λ (o : Outgoing). (i : LetterId) → round_of o.body ≤ r) os

pub record Fresh (s : ScriptData) (past : List Entry) (c : Count) : Type 0 where
  pub letters : Each (λ (l : Letter). round_of l.body ≤ c.number) (in_flight s past)

plain_round : (r : ℕ) (body : Body) → IsPlain body → round_of body ≤ r
plain_round r (AskDone v k) plain = absurd plain
plain_round r (AskAsked v k) plain = absurd plain
plain_round r (DoneRow v k row) plain = absurd plain
plain_round r (AskedRow v k row) plain = absurd plain
plain_round r _ plain = omega arith

plain_up_to : (r : ℕ) (os : List Outgoing) → AllPlain os → UpTo r os
plain_up_to r os all =
    each_map (λ (o : Outgoing). IsPlain o.body) (λ (o : Outgoing). (i : LetterId) → round_of o.body ≤ r) os
    (λ o plain i. plain_round r o.body plain) all

none_up_to : (r : ℕ) (os : List Outgoing) → os ≡ [] → UpTo r os
none_up_to r os none = subst (UpTo r) (sym none) tt

-- the numbers after a step of the count, and those of what is sent
record Later (c d : Count) (os : List Outgoing) : Type 0 where
  later : c.number ≤ d.number
  sent : UpTo d.number os

asks_up_to : (r n : ℕ) (v : Version) (k : ℕ) (b : Bool) → k ≤ r → UpTo r (if b then to_nodes n (AskAsked v k) else [])
asks_up_to r n v k true le = to_nodes_each (λ to b. LetterId → round_of b ≤ r) n (AskAsked v k) (λ to lt i. le)
asks_up_to r n v k false le = tt

later_none : (c d : Count) (os : List Outgoing) → d.number ≡ c.number → os ≡ [] → Later c d os
later_none c d os same none = record { later = omega (arith, same); sent = none_up_to d.number os none }

later_step : (n : ℕ) (c d : Count) (from : ℕ) (body : Body) (os : List Outgoing) → Shaped n c → CountStep n c d from body os → Later c d os
later_step n c d from body os shape (Leaves none le plain) = record { later = le; sent = plain_up_to d.number os plain }
later_step n c d from body os shape (Holds reads at calm refused is sent) = later_none c d os (ap (λ (x : Count). x.number) is) sent
later_step n c d from body os shape (IsNudged reads at bd is sent) = later_none c d os (ap (λ (x : Count). x.number) is) sent
later_step n c d from body os shape (Lasts at calm is sent) = later_none c d os (ap (λ (x : Count). x.number) is) sent
later_step n c d from body os shape (Begins reads v k lt none is sent) =
    subst (λ (x : Count). Later c x os) (sym is) (record {
      later = omega (arith, lt);
      sent = subst (UpTo k) (sym sent) (to_nodes_each (λ to b. LetterId → round_of b ≤ k) n (AskDone v k) (λ to less i. omega arith));
    })
later_step n c d from body os shape (TakesDone reads v k row at bd here is sent) =
    subst (λ (x : Count). Later c x os) (sym is) (record {
      later = omega arith;
      sent = subst (UpTo c.number) (sym sent)
          (asks_up_to c.number n c.round.version c.round.number _ (omega (arith, (shape reads at).number)));
    })
later_step n c d from body os shape (TakesRequests reads v k row takes verdict is sent) =
    later_none c d os (ap (λ (x : Count). x.number) is) sent
later_step n c d from body os shape (Denies reads v k row takes verdict clear is sent) =
    later_none c d os (ap (λ (x : Count). x.number) is) sent

fresh_kept : (s : ScriptData) (count : List Entry → Count) (G : Premise) → IsCounting s count G
    → (past : List Entry) (e : Entry) → e.actor.0 ≢ s.nodes → Fresh s past (count past) → UpTo (count past).number e.sent
    → Fresh s (e ∷ past) (count (e ∷ past))
fresh_kept s count G view past e away was sent =
    subst (Fresh s (e ∷ past)) (sym (view.stays past e away)) (record {
      letters = each_step (λ (l : Letter). round_of l.body ≤ (count past).number) s past e was.letters sent;
    })

fresh_next : (s : ScriptData) (count : List Entry → Count) (G : Premise) → IsCounting s count G
    → (past : List Entry) (e : Entry) → IsStepRun s (e ∷ past) → AllApt s past → Fresh s past (count past) → Sending s past e
    → Fresh s (e ∷ past) (count (e ∷ past))
fresh_next s count G view past e run apt was (SendsApart away plain all) =
    fresh_kept s count G view past e away was (plain_up_to (count past).number e.sent
    (each_map (λ (o : Outgoing). IsApart o.body) (λ (o : Outgoing). IsPlain o.body) e.sent
    (λ o apart. apart_plain o.body apart) all))
fresh_next s count G view past e run apt was (SendsDone v k lt bd sent same) =
    let r = (count past).number in
    let took : round_of (AskDone v k) ≤ r =
    subst (λ (b : Body). round_of b ≤ r) bd
    (each_taken (λ (l : Letter). round_of l.body ≤ r) s past e run.0 was.letters) in
    fresh_kept s count G view past e (λ eq. omega (arith, eq, lt)) was (subst (UpTo r) (sym sent) ((λ i. took), tt))
fresh_next s count G view past e run apt was (SendsAsked v k lt bd sent same) =
    let r = (count past).number in
    let took : round_of (AskAsked v k) ≤ r =
    subst (λ (b : Body). round_of b ≤ r) bd
    (each_taken (λ (l : Letter). round_of l.body ≤ r) s past e run.0 was.letters) in
    fresh_kept s count G view past e (λ eq. omega (arith, eq, lt)) was (subst (UpTo r) (sym sent) ((λ i. took), tt))
fresh_next s count G view past e run apt was (SendsOrders at rowless) =
    let c = count past in
    let d = count (e ∷ past) in
    let next = later_step s.nodes c d e.took.from.0 e.took.body e.sent (shaped s count G view past run.1 apt)
    (view.steps past e run apt at) in
    record {
      letters = each_step (λ (l : Letter). round_of l.body ≤ d.number) s past e
          (each_map (λ (l : Letter). round_of l.body ≤ c.number) (λ (l : Letter). round_of l.body ≤ d.number)
          (in_flight s past)
          (λ l le. omega (arith, le, next.later)) was.letters)
          next.sent;
    }

pub none_later : (s : ScriptData) (count : List Entry → Count) (G : Premise) → IsCounting s count G
    → (past : List Entry) → IsStepRun s past → AllApt s past → Fresh s past (count past)
none_later s count G view [] run apt = record { letters = (omega arith, tt) }
none_later s count G view (e ∷ past) run apt =
    fresh_next s count G view past e run apt.1 (none_later s count G view past run.1 apt.1)
    (sending s past e view.lawful run apt)
