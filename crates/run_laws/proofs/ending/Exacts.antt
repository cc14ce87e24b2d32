-- While nothing is busy and no nudge has come since the round began, its rows are the present ones; so a pause is busy.
use Rattle.std.proofs.Common.{◌≡◌, ◌≢◌, ◌⊎◌, ℕ, zero, suc, ◌<◌, ◌≤◌, ◌==◌, ◌&&◌, Bool, true, false, List, [], ◌∷◌, length, set, take, drop, refl, sym, ap, subst, ◌∙◌, arith, Option, Some}
use Rattle.std.specs.Prelude.{nat_lt, slice_get, slice_index}
use Rattle.std.proofs.lemmas.Bool.{cases_eq, eq-eqb}
use Rattle.std.proofs.lemmas.Bool.Decides.{nat_tests}
use Rattle.tv_base.specs.declared.numbers.Version.{Version}
use Rattle.phase_out.specs.Rounds.{NodeRows, RoundData, agrees, all_below, all_in, is_of, kept_number, number_at, pair_agrees}
use Rattle.pair_counters.specs.Numbers.{Numbers}
use Rattle.letter_types.specs.declared.bodies.Body.{Body}
use Rattle.letter_types.specs.declared.bodies.Body.TheVariants.{Go, Sweep, DoneRow, AskedRow}
use Rattle.letter_types.specs.declared.entries.Entry.{Entry}
use Rattle.letter_types.specs.declared.entries.Letter.{Letter}
use Rattle.letter_types.specs.declared.entries.LetterId.{LetterId}
use Rattle.letter_types.specs.declared.entries.Outgoing.{Outgoing}
use Rattle.letter_types.specs.Steps.{Out}
use Rattle.tx_trees.specs.ScriptData.{ScriptData}
use Rattle.world_model.specs.Node.{Node}
use Rattle.world_model.specs.Client.{Client, rows_letters, submit, submitted, advances_sent}
use Rattle.world_model.specs.Counts.{Each}
use Rattle.world_model.specs.Runs.{node_in, in_flight, MayFollow}
use Rattle.world_model.proofs.Every.{each_append, each_map, each_step, each_taken, node_kept}
use Rattle.world_model.proofs.Nexts.{MadeByClient, Order, Turns, Shows, Sweeps, TellsDone, TellsAsked}
use Rattle.advance_laws.proofs.counting.Counting.{Count, InRound, AfterRound}
use Rattle.advance_laws.proofs.right.Sending.{AllRowless, IsRowless}
use Rattle.run_laws.proofs.ending.Measures.{busy}
use Rattle.advance_laws.proofs.phases.Steps.{numbers_at}
use Rattle.advance_laws.proofs.counting.Waves.{in_at}
use Rattle.run_laws.proofs.ending.Heard.{row_from}
use Rattle.world_model.proofs.Sends.{OfRows, rows_each}

-- a row of version v and round r has the present numbers of its sender
abbrev pub ExactBody : ScriptData → List Entry → ℕ → ℕ → ℕ → Body → Type 0
ExactBody s past v r from (DoneRow w k row) = w.0 ≡ v → k ≡ r → from < s.nodes
    → (p : ℕ) → p < s.nodes → slice_index row p ≡ (node_in s past from).counts.done v p
ExactBody s past v r from (AskedRow w k row) = w.0 ≡ v → k ≡ r → from < s.nodes
    → (p : ℕ) → p < s.nodes → slice_index row p ≡ (node_in s past from).counts.asked v p
ExactBody s past v r from Go = Unit {0}
ExactBody s past v r from _ = Unit {0}

-- every row of the round, kept or in flight, has the present numbers of its node
pub record Exact (s : ScriptData) (past : List Entry) (r : RoundData) : Type 0 where
  pub letters : Each (λ (l : Letter). ExactBody s past r.version.0 r.number l.from.0 l.body) (in_flight s past)
  pub dones : (q : ℕ) (row : List ℕ) → q < s.nodes → slice_get r.dones q ≡ Some (Some row)
      → (p : ℕ) → p < s.nodes → slice_index row p ≡ (node_in s past q).counts.done r.version.0 p
  pub askeds : (p : ℕ) (row : List ℕ) → p < s.nodes → slice_get r.askeds p ≡ Some (Some row)
      → (q : ℕ) → q < s.nodes → slice_index row q ≡ (node_in s past p).counts.asked r.version.0 q

abbrev pub Counts : ScriptData → List Entry → Count → Type 0
Counts s past c = (reads : Bool) → c.pace ≡ InRound reads → c.flag ≡ false → busy s past ≡ 0 → Exact s past c.round

abbrev pub Pausing : ScriptData → List Entry → Count → Type 0
Pausing s past c = c.pace ≡ AfterRound → 1 ≤ busy s past

-- 1. Counters that don't change.
abbrev pub Frozen : ScriptData → List Entry → Entry → Type 0
Frozen s past e = (p : ℕ) → p < s.nodes → (node_in s (e ∷ past) p).counts ≡ (node_in s past p).counts

pub frozen_away : (s : ScriptData) (past : List Entry) (e : Entry) → s.nodes ≤ e.actor.0 → Frozen s past e
frozen_away s past e away = λ p lt. ap (λ (st : Node). st.counts) (node_kept s past e p (omega (arith, away, lt)))

pub order_counts : (s : ScriptData) (st : Node) (body : Body) (out : Out Node) → ((v : Version) → body ≡ Sweep v → ⊥) → Order s st body out
    → out.state.counts ≡ st.counts
order_counts s st body out none (Turns v bd is) = ap (λ (o : Out Node). o.state.counts) is
order_counts s st body out none (Shows v bd is) = ap (λ (o : Out Node). o.state.counts) is
order_counts s st body out none (Sweeps v bd is) = absurd (none v bd)
order_counts s st body out none (TellsDone v k bd is) = ap (λ (o : Out Node). o.state.counts) is
order_counts s st body out none (TellsAsked v k bd is) = ap (λ (o : Out Node). o.state.counts) is

-- 2. Exact rows stay exact.
exact_body : (s : ScriptData) (past : List Entry) (e : Entry) (v r from : ℕ) (body : Body) → Frozen s past e → ExactBody s past v r from body
    → ExactBody s (e ∷ past) v r from body
exact_body s past e v r from (DoneRow w k row) frozen ok = λ ws ks lf p lp.
    ok ws ks lf p lp ∙ sym (ap (λ (n : Numbers). n.done v p) (frozen from lf))
exact_body s past e v r from (AskedRow w k row) frozen ok = λ ws ks lf p lp.
    ok ws ks lf p lp ∙ sym (ap (λ (n : Numbers). n.asked v p) (frozen from lf))
exact_body s past e v r from Go frozen ok = tt
exact_body s past e v r from _ frozen ok = tt

-- what is sent is exact
abbrev pub SentExact : ScriptData → List Entry → ℕ → ℕ → ℕ → List Outgoing → Type 0
SentExact s past v r a os = Each (λ (o : Outgoing). LetterId → ExactBody s past v r a o.body) os

pub exact_on : (s : ScriptData) (past : List Entry) (e : Entry) (r d : RoundData) → Frozen s past e → d.version ≡ r.version → d.number ≡ r.number
    → Each (λ (l : Letter). ExactBody s past r.version.0 r.number l.from.0 l.body) (in_flight s past)
    → ((q : ℕ) (row : List ℕ) → q < s.nodes → slice_get d.dones q ≡ Some (Some row)
    → (p : ℕ) → p < s.nodes → slice_index row p ≡ (node_in s past q).counts.done r.version.0 p)
    → ((p : ℕ) (row : List ℕ) → p < s.nodes → slice_get d.askeds p ≡ Some (Some row)
    → (q : ℕ) → q < s.nodes → slice_index row q ≡ (node_in s past p).counts.asked r.version.0 q)
    → SentExact s (e ∷ past) r.version.0 r.number e.actor.0 e.sent → Exact s (e ∷ past) d
exact_on s past e r d frozen version number letters dones askeds sent =
    let old = each_map (λ (l : Letter). ExactBody s past r.version.0 r.number l.from.0 l.body)
    (λ (l : Letter). ExactBody s (e ∷ past) r.version.0 r.number l.from.0 l.body) (in_flight s past)
    (λ l ok. exact_body s past e r.version.0 r.number l.from.0 l.body frozen ok) letters in
    let now = each_step (λ (l : Letter). ExactBody s (e ∷ past) r.version.0 r.number l.from.0 l.body) s past e old sent in
    let v : d.version.0 ≡ r.version.0 = ap (λ (x : Version). x.0) version in
    let by_version : Each (λ (l : Letter). ExactBody s (e ∷ past) d.version.0 r.number l.from.0 l.body) (in_flight s (e ∷ past)) =
    subst (λ (n : ℕ). Each (λ (l : Letter). ExactBody s (e ∷ past) n r.number l.from.0 l.body) (in_flight s (e ∷ past))) (sym v) now in
    record {
      letters = subst (λ (n : ℕ). Each (λ (l : Letter). ExactBody s (e ∷ past) d.version.0 n l.from.0 l.body) (in_flight s (e ∷ past))) (sym number) by_version;
      dones = λ q row lq at p lp. dones q row lq at p lp ∙ ap (λ (n : ℕ). (node_in s past q).counts.done n p) (sym v)
          ∙ sym (ap (λ (n : Numbers). n.done d.version.0 p) (frozen q lq));
      askeds = λ p row lp at q lq. askeds p row lp at q lq ∙ ap (λ (n : ℕ). (node_in s past p).counts.asked n q) (sym v)
          ∙ sym (ap (λ (n : Numbers). n.asked d.version.0 q) (frozen p lp));
    }

pub order_exact : (s : ScriptData) (past : List Entry) (e : Entry) (v r a : ℕ) (body : Body) (out : Out Node) → Frozen s past e
    → Order s (node_in s past a) body out → SentExact s (e ∷ past) v r a out.sent
order_exact s past e v r a body out frozen (Turns w bd is) = subst (λ (o : Out Node). SentExact s (e ∷ past) v r a o.sent) (sym is) ((λ id. tt), tt)
order_exact s past e v r a body out frozen (Shows w bd is) = subst (λ (o : Out Node). SentExact s (e ∷ past) v r a o.sent) (sym is) ((λ id. tt), tt)
order_exact s past e v r a body out frozen (Sweeps w bd is) = subst (λ (o : Out Node). SentExact s (e ∷ past) v r a o.sent) (sym is) ((λ id. tt), tt)
order_exact s past e v r a body out frozen (TellsDone w k bd is) =
    let st = node_in s past a in
    subst (λ (o : Out Node). SentExact s (e ∷ past) v r a o.sent) (sym is) (
      (λ id ws ks la p lp. numbers_at s.nodes (st.counts.done w.0) p lp ∙ ap (λ (n : ℕ). st.counts.done n p) ws
          ∙ sym (ap (λ (n : Numbers). n.done v p) (frozen a la))),
      tt,
    )
order_exact s past e v r a body out frozen (TellsAsked w k bd is) =
    let st = node_in s past a in
    subst (λ (o : Out Node). SentExact s (e ∷ past) v r a o.sent) (sym is) (
      (λ id ws ks la p lp. numbers_at s.nodes (st.counts.asked w.0) p lp ∙ ap (λ (n : ℕ). st.counts.asked n p) ws
          ∙ sym (ap (λ (n : Numbers). n.asked v p) (frozen a la))),
      tt,
    )

rows_exact : (s : ScriptData) (past : List Entry) (v r a : ℕ) → OfRows (λ to body. LetterId → ExactBody s past v r a body)
rows_exact s past v r a =
    record { root = λ to t id. tt; advance = λ to id. tt; numbered = λ to i id. tt; lose = λ to id. tt }

pub client_exact : (s : ScriptData) (past : List Entry) (e : Entry) (v r : ℕ) (c : Client) (first : List Outgoing) → SentExact s (e ∷ past) v r e.actor.0 first
    → MadeByClient s past e (submit s c first) → SentExact s (e ∷ past) v r e.actor.0 e.sent
client_exact s past e v r c first all made =
    let rows = take (submitted c (take c.next s.rows) (drop c.next s.rows)) (drop c.next s.rows) in
    subst (λ (os : List Outgoing). SentExact s (e ∷ past) v r e.actor.0 os) (sym made.sent)
    (each_append (λ (o : Outgoing). LetterId → ExactBody s (e ∷ past) v r e.actor.0 o.body) first (rows_letters s (advances_sent s c) rows) all
    (rows_each (λ to body. LetterId → ExactBody s (e ∷ past) v r e.actor.0 body) s (advances_sent s c) rows (rows_exact s (e ∷ past) v r e.actor.0)))

rowless_exact : (s : ScriptData) (past : List Entry) (v r a : ℕ) (body : Body) → IsRowless body → ExactBody s past v r a body
rowless_exact s past v r a (DoneRow w k row) none = absurd none
rowless_exact s past v r a (AskedRow w k row) none = absurd none
rowless_exact s past v r a Go none = tt
rowless_exact s past v r a _ none = tt

pub orders_exact : (s : ScriptData) (past : List Entry) (v r a : ℕ) (os : List Outgoing) → AllRowless os → SentExact s past v r a os
orders_exact s past v r a os all =
    each_map (λ (o : Outgoing). IsRowless o.body) (λ (o : Outgoing). LetterId → ExactBody s past v r a o.body) os
    (λ o none id. rowless_exact s past v r a o.body none) all

-- 3. A verdict on exact rows is yes.
pub kept_is : (ks : NodeRows) (p q n : ℕ) → all_in ks ≡ true → p < length ks
    → ((row : List ℕ) → slice_get ks p ≡ Some (Some row) → slice_index row q ≡ n) → kept_number ks p q ≡ n
kept_is ks p q n all lt is =
    let (row, at) = in_at ks p all lt in ap (λ (o : Option (Option (List ℕ))). number_at o q) at ∙ is row at

below_all : (n : ℕ) (f : ℕ → Bool) → ((k : ℕ) → k < n → f k ≡ true) → all_below n f ≡ true
below_all zero f all = refl
below_all (suc n) f all = rw (below_all n f (λ k lt. all k (omega (arith, lt))), all n (omega arith)) refl

pub all_agree : (n : ℕ) (askeds dones : NodeRows) → ((p q : ℕ) → p < n → q < n → kept_number askeds p q ≡ kept_number dones q p)
    → agrees n askeds dones ≡ true
all_agree n askeds dones same =
    below_all n (λ p. all_below n (pair_agrees askeds dones p)) (λ p lp.
    below_all n (pair_agrees askeds dones p) (λ q lq. eq-eqb (kept_number askeds p q) (kept_number dones q p) (same p q lp lq)))

-- 4. A row that is put.
put_by : (ks : NodeRows) (f q : ℕ) (row row' : List ℕ) (P : ℕ → List ℕ → Type 0) → (f ≡ q) ⊎ (f ≢ q) → slice_get (set ks f (Some row)) q ≡ Some (Some row')
    → P f row → (slice_get ks q ≡ Some (Some row') → P q row') → P q row'
put_by [] f q row row' P which at new old = absurd (cc at)
put_by (k ∷ ks) zero zero row row' P which at new old = let same : row ≡ row' = cc at in subst (P 0) same new
put_by (k ∷ ks) zero (suc q) row row' P which at new old = old at
put_by (k ∷ ks) (suc f) zero row row' P which at new old = old at
put_by (k ∷ ks) (suc f) (suc q) row row' P which at new old =
    put_by ks f q row row' (λ n r. P (suc n) r) (cases_eq f q) at new old

round_is : (from : ℕ) (v : Version) (k : ℕ) (row : List ℕ) (r : RoundData) → is_of from v k row r ≡ true → (v.0 ≡ r.version.0) × (k ≡ r.number)
round_is from v k row r here =
    by v.0 r.version.0 k r.number (nat_lt from r.nodes && (length row == r.nodes)) here
  where
    by : (a b c d : ℕ) (x : Bool) → ((a == b) && ((c == d) && x)) ≡ true → (a ≡ b) × (c ≡ d)
    by a b c d x is = (grind (arith, nat_tests), grind (arith, nat_tests))

pub done_put : (s : ScriptData) (past : List Entry) (e : Entry) (r : RoundData) (v : Version) (k : ℕ) (row : List ℕ) → MayFollow s past e
    → e.took.body ≡ DoneRow v k row → is_of e.took.from.0 v k row r ≡ true → r.nodes ≡ s.nodes → Exact s past r
    → (q : ℕ) (row' : List ℕ) → q < s.nodes → slice_get (set r.dones e.took.from.0 (Some row)) q ≡ Some (Some row')
    → (p : ℕ) → p < s.nodes → slice_index row' p ≡ (node_in s past q).counts.done r.version.0 p
done_put s past e r v k row m bd here nodes exact = λ q row' lq at p lp.
    let f = e.took.from.0 in
    let parts = round_is f v k row r here in
    let from : f < s.nodes = omega (arith, row_from f v k row r here, nodes) in
    let ok : ExactBody s past r.version.0 r.number f (DoneRow v k row) =
    subst (λ (b : Body). ExactBody s past r.version.0 r.number f b) bd
    (each_taken (λ (l : Letter). ExactBody s past r.version.0 r.number l.from.0 l.body) s past e m exact.letters) in
    put_by r.dones f q row row' (λ n x. slice_index x p ≡ (node_in s past n).counts.done r.version.0 p) (cases_eq f q) at
    (ok parts.0 parts.1 from p lp) (λ old. exact.dones q row' lq old p lp)

pub asked_put : (s : ScriptData) (past : List Entry) (e : Entry) (r : RoundData) (v : Version) (k : ℕ) (row : List ℕ) → MayFollow s past e
    → e.took.body ≡ AskedRow v k row → is_of e.took.from.0 v k row r ≡ true → r.nodes ≡ s.nodes → Exact s past r
    → (p : ℕ) (row' : List ℕ) → p < s.nodes → slice_get (set r.askeds e.took.from.0 (Some row)) p ≡ Some (Some row')
    → (q : ℕ) → q < s.nodes → slice_index row' q ≡ (node_in s past p).counts.asked r.version.0 q
asked_put s past e r v k row m bd here nodes exact = λ p row' lp at q lq.
    let f = e.took.from.0 in
    let parts = round_is f v k row r here in
    let from : f < s.nodes = omega (arith, row_from f v k row r here, nodes) in
    let ok : ExactBody s past r.version.0 r.number f (AskedRow v k row) =
    subst (λ (b : Body). ExactBody s past r.version.0 r.number f b) bd
    (each_taken (λ (l : Letter). ExactBody s past r.version.0 r.number l.from.0 l.body) s past e m exact.letters) in
    put_by r.askeds f p row row' (λ n x. slice_index x q ≡ (node_in s past n).counts.asked r.version.0 q) (cases_eq f p) at
    (ok parts.0 parts.1 from q lq) (λ old. exact.askeds p row' lp old q lq)
