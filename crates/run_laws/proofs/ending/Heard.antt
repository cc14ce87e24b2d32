-- While a round counts, of each node the question, the answer in flight or the row that is kept is there.
use Rattle.std.proofs.Common.{if◌then◌else◌, ◌≡◌, ◌≢◌, ◌⊎◌, inl, inr, ℕ, zero, suc, ◌+◌, ◌<◌, ◌≤◌, ◌==◌, ◌&&◌, not, Bool, true, false, List, [], ◌∷◌, ◌++◌, length, replicate, set, refl, sym, ap, subst, ◌∙◌, arith, Option, Some, None}
use Rattle.std.specs.Prelude.{nat_lt}
use Rattle.std.proofs.lemmas.Bool.Decides.{nat_tests}
use Rattle.std.proofs.lemmas.Bool.{eqb-true}
use Rattle.pair_counters.proofs.Rows.{length_numbers}
use Rattle.tv_base.specs.declared.numbers.Version.{Version}
use Rattle.phase_out.specs.Rounds.{NodeRows, RoundData, all_in, is_of, new_round}
use Rattle.phase_out.proofs.With.{none_in}
use Rattle.pair_counters.specs.Numbers.{numbers_of}
use Rattle.letter_types.specs.declared.bodies.Body.{Body}
use Rattle.letter_types.specs.declared.bodies.Body.TheVariants.{Go, AskDone, AskAsked, DoneRow, AskedRow}
use Rattle.letter_types.specs.declared.entries.Entry.{Entry}
use Rattle.letter_types.specs.declared.entries.Letter.{Letter}
use Rattle.letter_types.specs.declared.entries.Outgoing.{Outgoing}
use Rattle.letter_types.specs.Steps.{Out}
use Rattle.tx_trees.specs.ScriptData.{ScriptData}
use Rattle.world_model.specs.AllApt.{AllApt}
use Rattle.world_model.specs.Node.{Node}
use Rattle.world_model.specs.Coordinator.{to_nodes}
use Rattle.world_model.specs.Counts.{tally, one_if}
use Rattle.world_model.specs.Runs.{node_in, in_flight, MayFollow, IsStepRun, keeping_in}
use Rattle.world_model.proofs.Bags.{tally-append, tally_step, sealed_tally}
use Rattle.world_model.proofs.Nexts.{Order, Turns, Shows, Sweeps, TellsDone, TellsAsked}
use Rattle.advance_laws.proofs.counting.KeptRows.{with_asked, with_done}
use Rattle.advance_laws.proofs.counting.Counting.{Count, CountStep, Denies, Holds, IsCounting, IsNudged, InRound, Lasts, Leaves, NoDone, Refused, TakesDone, TakesRequests, Begins as BeginsRound, asks_after, none_in_round, paused_in_round, Premise}
use Rattle.advance_laws.proofs.phases.Progress.{Begins, Coordinates, Ends, Hears, Obeys, Progress, Works, Asked, Course, Heeds, Restarts, course}
use Rattle.advance_laws.proofs.counting.Silence.{below_or_at}
use Rattle.advance_laws.proofs.phases.Steps.{Shaped, shaped}
use Rattle.advance_laws.proofs.right.Sending.{IsPlain, heed_plain, trees_plain}

-- the first wave's or the second wave's question to node q, or q's answer
abbrev pub wave : Bool → ℕ → ℕ → ℕ → ℕ → ℕ → ℕ → Body → ℕ
wave two v r q n from to (AskDone w k) = one_if (not two && ((w.0 == v) && ((k == r) && (to == q))))
wave two v r q n from to (DoneRow w k row) = one_if (not two && ((w.0 == v) && ((k == r) && ((from == q) && (length row == n)))))
wave two v r q n from to (AskAsked w k) = one_if (two && ((w.0 == v) && ((k == r) && (to == q))))
wave two v r q n from to (AskedRow w k row) = one_if (two && ((w.0 == v) && ((k == r) && ((from == q) && (length row == n)))))
wave two v r q n from to Go = 0
wave two v r q n from to _ = 0

-- how many of them are in flight
abbrev pub waves : ScriptData → List Entry → Bool → ℕ → ℕ → ℕ → ℕ
waves s past two v r q = tally (λ (l : Letter). wave two v r q s.nodes l.from.0 l.to.0 l.body) (in_flight s past)

-- and of what actor a sends
abbrev sends : Bool → ℕ → ℕ → ℕ → ℕ → ℕ → Outgoing → ℕ
sends two v r q n a o = wave two v r q n a o.to.0 o.body

abbrev pub held : Option (List ℕ) → ℕ
held None = 0
held (Some row) = 1

-- the row of node q is kept
abbrev pub is_kept : NodeRows → ℕ → ℕ
is_kept [] q = 0
is_kept (k ∷ ks) zero = held k
is_kept (k ∷ ks) (suc q) = is_kept ks q

-- of each node the first wave's question or answer is in flight, or its row is kept; the same of the second wave once
-- all rows of the first are kept; and a row of the second is missing
pub record Waved (s : ScriptData) (past : List Entry) (r : RoundData) : Type 0 where
  pub first : (q : ℕ) → q < s.nodes → 1 ≤ waves s past false r.version.0 r.number q + is_kept r.dones q
  pub second : all_in r.dones ≡ true → (q : ℕ) → q < s.nodes → 1 ≤ waves s past true r.version.0 r.number q + is_kept r.askeds q
  pub misses : all_in r.askeds ≡ false

abbrev pub Heard : ScriptData → List Entry → Count → Type 0
Heard s past c = (reads : Bool) → c.pace ≡ InRound reads → Waved s past c.round

-- Rows that are kept.
put_more : (ks : NodeRows) (f : ℕ) (row : List ℕ) (q : ℕ) → is_kept ks q ≤ is_kept (set ks f (Some row)) q
put_more [] f row q = omega arith
put_more (None ∷ ks) zero row zero = omega arith
put_more (Some old ∷ ks) zero row zero = omega arith
put_more (k ∷ ks) zero row (suc q) = omega arith
put_more (k ∷ ks) (suc f) row zero = omega arith
put_more (k ∷ ks) (suc f) row (suc q) = put_more ks f row q

put_there : (ks : NodeRows) (f : ℕ) (row : List ℕ) → f < length ks → is_kept (set ks f (Some row)) f ≡ 1
put_there [] f row lt = absurd (omega (arith, lt))
put_there (k ∷ ks) zero row lt = refl
put_there (k ∷ ks) (suc f) row lt = put_there ks f row (omega (arith, lt))

-- where each row is kept, none is missing
pub all_of : (ks : NodeRows) → ((q : ℕ) → q < length ks → 1 ≤ is_kept ks q) → all_in ks ≡ true
all_of [] all = refl
all_of (None ∷ ks) all = absurd (omega (arith, all 0 (omega arith)))
all_of (Some row ∷ ks) all = all_of ks (λ q lt. all (suc q) (omega (arith, lt)))

-- Letters.
wave_flow : (s : ScriptData) (past : List Entry) (e : Entry) (two : Bool) (v r q : ℕ) → MayFollow s past e
    → waves s (e ∷ past) two v r q + wave two v r q s.nodes e.took.from.0 e.actor.0 e.took.body
    ≡ waves s past two v r q + tally (sends two v r q s.nodes e.actor.0) e.sent
wave_flow s past e two v r q m =
    let at : wave two v r q s.nodes e.took.from.0 e.took.to.0 e.took.body ≡ wave two v r q s.nodes e.took.from.0 e.actor.0 e.took.body =
    ap (λ (n : ℕ). wave two v r q s.nodes e.took.from.0 n e.took.body) m.addressee in
    omega (
      arith,
      at,
      tally_step (λ (l : Letter). wave two v r q s.nodes l.from.0 l.to.0 l.body) s past e m,
      sealed_tally (λ (l : Letter). wave two v r q s.nodes l.from.0 l.to.0 l.body) (sends two v r q s.nodes e.actor.0) e.stamp.0 e.actor.0 0 e.sent (λ i o. refl),
    )

full_row : (a b c d : Bool) (n m : ℕ) → n ≡ m → one_if (a && (b && (c && (d && (n == m))))) ≡ one_if (a && (b && (c && d)))
full_row a b c d n m eq = grind (arith, nat_tests)

-- a node answers each question
order_waves : (s : ScriptData) (two : Bool) (v r q from p : ℕ) (st : Node) (body : Body) (out : Out Node) → Order s st body out
    → wave two v r q s.nodes from p body ≤ tally (sends two v r q s.nodes p) out.sent
order_waves s two v r q from p st body out (Turns w bd is) = omega (arith, ap (λ (b : Body). wave two v r q s.nodes from p b) bd)
order_waves s two v r q from p st body out (Shows w bd is) = omega (arith, ap (λ (b : Body). wave two v r q s.nodes from p b) bd)
order_waves s two v r q from p st body out (Sweeps w bd is) = omega (arith, ap (λ (b : Body). wave two v r q s.nodes from p b) bd)
order_waves s two v r q from p st body out (TellsDone w k bd is) =
    let row = numbers_of s.nodes (st.counts.done w.0) in
    omega (
      arith,
      ap (λ (b : Body). wave two v r q s.nodes from p b) bd,
      ap (λ (o : Out Node). tally (sends two v r q s.nodes p) o.sent) is,
      full_row (not two) (w.0 == v) (k == r) (p == q) (length row) s.nodes (length_numbers s.nodes (st.counts.done w.0)),
    )
order_waves s two v r q from p st body out (TellsAsked w k bd is) =
    let row = numbers_of s.nodes (st.counts.asked w.0) in
    omega (
      arith,
      ap (λ (b : Body). wave two v r q s.nodes from p b) bd,
      ap (λ (o : Out Node). tally (sends two v r q s.nodes p) o.sent) is,
      full_row two (w.0 == v) (k == r) (p == q) (length row) s.nodes (length_numbers s.nodes (st.counts.asked w.0)),
    )

-- no other letter is one of them
plain_none : (two : Bool) (v r q n from to : ℕ) (body : Body) → IsPlain body → wave two v r q n from to body ≡ 0
plain_none two v r q n from to (AskDone w k) plain = absurd plain
plain_none two v r q n from to (AskAsked w k) plain = absurd plain
plain_none two v r q n from to (DoneRow w k row) plain = absurd plain
plain_none two v r q n from to (AskedRow w k row) plain = absurd plain
plain_none two v r q n from to _ plain = refl

took_none : (s : ScriptData) (past : List Entry) (e : Entry) (two : Bool) (v r q : ℕ) → MayFollow s past e → IsPlain e.took.body
    → waves s past two v r q ≤ waves s (e ∷ past) two v r q
took_none s past e two v r q m plain =
    omega (arith, wave_flow s past e two v r q m, plain_none two v r q s.nodes e.took.from.0 e.actor.0 e.took.body plain)

-- so no other actor than the coordinator takes one away
waves_stay : (s : ScriptData) (past : List Entry) (e : Entry) (two : Bool) (v r q : ℕ) → MayFollow s past e → e.actor.0 ≢ s.nodes
    → Progress s past e → waves s past two v r q ≤ waves s (e ∷ past) two v r q
waves_stay s past e two v r q m away (Begins bd at made) = took_none s past e two v r q m (subst IsPlain (sym bd) tt)
waves_stay s past e two v r q m away (Hears t w answer bd at lt made) = took_none s past e two v r q m (subst IsPlain (sym bd) tt)
waves_stay s past e two v r q m away (Ends w bd at made) = took_none s past e two v r q m (subst IsPlain (sym bd) tt)
waves_stay s past e two v r q m away (Coordinates tells at made) = absurd (away at)
waves_stay s past e two v r q m away (Works p x w) = took_none s past e two v r q m (trees_plain e.took.body w.took)
waves_stay s past e two v r q m away (Obeys p out more at lt order state is woken) =
    let took : wave two v r q s.nodes e.took.from.0 e.actor.0 e.took.body ≡ wave two v r q s.nodes e.took.from.0 p e.took.body =
    ap (λ (n : ℕ). wave two v r q s.nodes e.took.from.0 n e.took.body) at in
    let sent : tally (sends two v r q s.nodes e.actor.0) e.sent ≡ tally (sends two v r q s.nodes p) (out.sent ++ more) =
    ap (λ (os : List Outgoing). tally (sends two v r q s.nodes e.actor.0) os) is
    ∙ ap (λ (n : ℕ). tally (sends two v r q s.nodes n) (out.sent ++ more)) at in
    omega (
      arith,
      wave_flow s past e two v r q m,
      took,
      sent,
      tally-append (sends two v r q s.nodes p) out.sent more,
      order_waves s two v r q e.took.from.0 p (node_in s past p) e.took.body out order,
    )

-- A question to all nodes.
asked_here : (v r n q : ℕ) → n ≡ q → one_if (true && ((v == v) && ((r == r) && (n == q)))) ≡ 1
asked_here v r n q eq = grind (arith, nat_tests)

asks_by : (two : Bool) (body : Body) (v : Version) (r q m a n : ℕ) → wave two v.0 r q m a n body ≡ one_if (true && ((v.0 == v.0) && ((r == r) && (n == q))))
    → (q < n) ⊎ (q ≡ n) → (q < n → 1 ≤ tally (sends two v.0 r q m a) (to_nodes n body)) → 1 ≤ tally (sends two v.0 r q m a) (to_nodes (suc n) body)
asks_by two body v r q m a n here (inl lt) rest =
    omega (arith, rest lt, tally-append (sends two v.0 r q m a) (to_nodes n body) (record { to = record { 0 = n }; body = body } ∷ []))
asks_by two body v r q m a n here (inr eq) rest =
    omega (arith, here, asked_here v.0 r n q (sym eq), tally-append (sends two v.0 r q m a) (to_nodes n body) (record { to = record { 0 = n }; body = body } ∷ []))

asks_done : (v : Version) (r q m a n : ℕ) → q < n → 1 ≤ tally (sends false v.0 r q m a) (to_nodes n (AskDone v r))
asks_done v r q m a zero lt = absurd (omega (arith, lt))
asks_done v r q m a (suc n) lt = asks_by false (AskDone v r) v r q m a n refl (below_or_at q n lt) (λ less. asks_done v r q m a n less)

asks_asked : (v : Version) (r q m a n : ℕ) → q < n → 1 ≤ tally (sends true v.0 r q m a) (to_nodes n (AskAsked v r))
asks_asked v r q m a zero lt = absurd (omega (arith, lt))
asks_asked v r q m a (suc n) lt = asks_by true (AskAsked v r) v r q m a n refl (below_or_at q n lt) (λ less. asks_asked v r q m a n less)

-- What the coordinator takes and doesn't keep is no answer.
refused_row : (w v k r f q n len m : ℕ) → m ≡ n → ((w == v) && ((k == r) && (nat_lt f m && (len == m)))) ≡ false → q < n
    → one_if (true && ((w == v) && ((k == r) && ((f == q) && (len == n))))) ≡ 0
refused_row w v k r f q n len m same none lt = grind (arith, nat_tests)

far_question : (b c d : Bool) (n q : ℕ) → q < n → one_if (b && (c && (d && (n == q)))) ≡ 0
far_question b c d n q lt = grind (arith, nat_tests)

and_keep : (a b : Bool) → (a && b) ≡ false → b ≡ true → a ≡ false
and_keep true b is at = absurd (cc (is, at))
and_keep false b is at = refl

refused_done : (n : ℕ) (r : RoundData) (from q : ℕ) (body : Body) → r.nodes ≡ n → q < n → Refused body from r
    → wave false r.version.0 r.number q n from n body ≡ 0
refused_done n r from q (DoneRow w k row) same lt refused =
    refused_row w.0 r.version.0 k r.number from q n (length row) r.nodes same refused lt
refused_done n r from q (AskDone w k) same lt refused = far_question true (w.0 == r.version.0) (k == r.number) n q lt
refused_done n r from q (AskedRow w k row) same lt refused = refl
refused_done n r from q (AskAsked w k) same lt refused = refl
refused_done n r from q _ same lt refused = refl

refused_asked : (n : ℕ) (r : RoundData) (from q : ℕ) (body : Body) → r.nodes ≡ n → q < n → Refused body from r
    → all_in r.dones ≡ true → wave true r.version.0 r.number q n from n body ≡ 0
refused_asked n r from q (AskedRow w k row) same lt refused full =
    refused_row w.0 r.version.0 k r.number from q n (length row) r.nodes same
    (and_keep (is_of from w k row r) (all_in r.dones) refused full) lt
refused_asked n r from q (AskAsked w k) same lt refused full = far_question true (w.0 == r.version.0) (k == r.number) n q lt
refused_asked n r from q (DoneRow w k row) same lt refused full = refl
refused_asked n r from q (AskDone w k) same lt refused full = refl
refused_asked n r from q _ same lt refused full = refl

-- The coordinator's steps: the letters before and after, for every version, round and node.
abbrev Flows : ScriptData → List Entry → Entry → List Outgoing → Type 0
Flows s past e os = (two : Bool) (v r q : ℕ) → waves s (e ∷ past) two v r q + wave two v r q s.nodes e.took.from.0 s.nodes e.took.body
    ≡ waves s past two v r q + tally (sends two v r q s.nodes s.nodes) os

no_done_wave : (v r q n from : ℕ) (body : Body) → q < n → NoDone body → wave false v r q n from n body ≡ 0
no_done_wave v r q n from (DoneRow w k row) lt none = absurd none
no_done_wave v r q n from (AskDone w k) lt none = far_question true (w.0 == v) (k == r) n q lt
no_done_wave v r q n from (AskAsked w k) lt none = refl
no_done_wave v r q n from (AskedRow w k row) lt none = refl
no_done_wave v r q n from _ lt none = refl

heard_begins : (s : ScriptData) (past : List Entry) (e : Entry) (v : Version) (k : ℕ) → 1 ≤ s.nodes → NoDone e.took.body
    → Flows s past e (to_nodes s.nodes (AskDone v k)) → Waved s (e ∷ past) (new_round v k s.nodes)
heard_begins s past e v k some none flow =
    let missing : all_in (replicate s.nodes None) ≡ false = none_in s.nodes some in
    record {
      first = λ q lt. omega (
        arith,
        flow false v.0 k q,
        no_done_wave v.0 k q s.nodes e.took.from.0 e.took.body lt none,
        asks_done v k q s.nodes s.nodes s.nodes lt,
      );
      second = λ full. absurd (cc (full, missing));
      misses = missing;
    }

heard_holds : (s : ScriptData) (past : List Entry) (e : Entry) (r : RoundData) → r.nodes ≡ s.nodes → Waved s past r
    → Refused e.took.body e.took.from.0 r → Flows s past e [] → Waved s (e ∷ past) r
heard_holds s past e r nodes was refused flow = record {
  first = λ q lt.
      omega (arith, was.first q lt, flow false r.version.0 r.number q, refused_done s.nodes r e.took.from.0 q e.took.body nodes lt refused);
  second = λ full q lt.
      omega (arith, was.second full q lt, flow true r.version.0 r.number q, refused_asked s.nodes r e.took.from.0 q e.took.body nodes lt refused full);
  misses = was.misses;
}

other_row : (a b c d : Bool) (q from : ℕ) → (from == q) ≡ false → one_if (a && (b && (c && ((from == q) && d)))) ≡ 0
other_row a b c d q from ne = grind (arith, nat_tests)

-- a row that is kept
kept_first : (v r q from t t' m : ℕ) (w : Version) (k : ℕ) (row : List ℕ) (ks : NodeRows) (n : ℕ) → from < length ks
    → (b : Bool) → (from == q) ≡ b → 1 ≤ t + is_kept ks q
    → t' + wave false v r q n from m (DoneRow w k row) ≡ t + 0 → 1 ≤ t' + is_kept (set ks from (Some row)) q
kept_first v r q from t t' m w k row ks n lt true is was goes =
    let here : is_kept (set ks from (Some row)) q ≡ 1 =
    subst (λ (x : ℕ). is_kept (set ks from (Some row)) x ≡ 1) (eqb-true from q is) (put_there ks from row lt) in
    omega (arith, here)
kept_first v r q from t t' m w k row ks n lt false is was goes =
    omega (arith, was, goes, put_more ks from row q, other_row true (w.0 == v) (k == r) (length row == n) q from is)

kept_second : (v r q from t t' m : ℕ) (w : Version) (k : ℕ) (row : List ℕ) (ks : NodeRows) (n : ℕ) → from < length ks
    → (b : Bool) → (from == q) ≡ b → 1 ≤ t + is_kept ks q
    → t' + wave true v r q n from m (AskedRow w k row) ≡ t + 0 → 1 ≤ t' + is_kept (set ks from (Some row)) q
kept_second v r q from t t' m w k row ks n lt true is was goes =
    let here : is_kept (set ks from (Some row)) q ≡ 1 =
    subst (λ (x : ℕ). is_kept (set ks from (Some row)) x ≡ 1) (eqb-true from q is) (put_there ks from row lt) in
    omega (arith, here)
kept_second v r q from t t' m w k row ks n lt false is was goes =
    omega (arith, was, goes, put_more ks from row q, other_row true (w.0 == v) (k == r) (length row == n) q from is)

-- the second wave begins with the last row of the first, or it has begun
begun : (w : Version) (r q n m t t' kept : ℕ) (new old : Bool) → new ≡ true → q < m → (old ≡ true → 1 ≤ t + kept)
    → t' ≡ t + tally (sends true w.0 r q n n) (if new && not old then to_nodes m (AskAsked w r) else []) → 1 ≤ t' + kept
begun w r q n m t t' kept true true is lt was goes = omega (arith, was refl, goes)
begun w r q n m t t' kept true false is lt was goes = omega (arith, goes, asks_asked w r q n n m lt)
begun w r q n m t t' kept false old is lt was goes = absurd (cc is)

-- the first wave has no question for requests
no_first : (w : Version) (r v k q n m : ℕ) (b : Bool) → tally (sends false v k q n n) (if b then to_nodes m (AskAsked w r) else []) ≡ 0
no_first w r v k q n m true = asks_none m
  where
    asks_none : (m : ℕ) → tally (sends false v k q n n) (to_nodes m (AskAsked w r)) ≡ 0
    asks_none zero = refl
    asks_none (suc m) =
        omega (arith, asks_none m, tally-append (sends false v k q n n) (to_nodes m (AskAsked w r)) (record { to = record { 0 = m }; body = AskAsked w r } ∷ []))
no_first w r v k q n m false = refl

heard_done : (s : ScriptData) (past : List Entry) (e : Entry) (r : RoundData) (v : Version) (k : ℕ) (row : List ℕ)
    → e.took.from.0 < length r.dones → Waved s past r → e.took.body ≡ DoneRow v k row
    → Flows s past e (asks_after s.nodes e.took.from.0 row r) → Waved s (e ∷ past) (with_done e.took.from.0 row r)
heard_done s past e r v k row from was bd flow =
    let f = e.took.from.0 in
    let os = asks_after s.nodes f row r in
    let flow' : (two : Bool) (q : ℕ) → waves s (e ∷ past) two r.version.0 r.number q + wave two r.version.0 r.number q s.nodes f s.nodes (DoneRow v k row)
    ≡ waves s past two r.version.0 r.number q + tally (sends two r.version.0 r.number q s.nodes s.nodes) os =
    λ two q. subst (λ (b : Body). waves s (e ∷ past) two r.version.0 r.number q + wave two r.version.0 r.number q s.nodes f s.nodes b
    ≡ waves s past two r.version.0 r.number q + tally (sends two r.version.0 r.number q s.nodes s.nodes) os) bd (flow two r.version.0 r.number q) in
    let new = all_in (set r.dones f (Some row)) in
    record {
      first = λ q lt.
          let none = no_first r.version r.number r.version.0 r.number q s.nodes s.nodes (new && not (all_in r.dones)) in
          kept_first r.version.0 r.number q f (waves s past false r.version.0 r.number q) (waves s (e ∷ past) false r.version.0 r.number q)
          s.nodes v k row r.dones s.nodes from (f == q) refl (was.first q lt) (omega (arith, flow' false q, none));
      second = λ full q lt.
          begun r.version r.number q s.nodes s.nodes (waves s past true r.version.0 r.number q) (waves s (e ∷ past) true r.version.0 r.number q)
          (is_kept r.askeds q) new (all_in r.dones) full lt (λ old. was.second old q lt) (omega (arith, flow' true q));
      misses = was.misses;
    }

-- a verdict that is none, with all completions there, misses a request
none_misses : (a b : Bool) (x : Bool) → a ≡ true → (if a && b then Some x else None) ≡ None → b ≡ false
none_misses true true x full is = absurd (cc is)
none_misses true false x full is = refl
none_misses false b x full is = absurd (cc full)

heard_asked : (s : ScriptData) (past : List Entry) (e : Entry) (r : RoundData) (v : Version) (k : ℕ) (row : List ℕ)
    → e.took.from.0 < length r.askeds → Waved s past r → e.took.body ≡ AskedRow v k row → all_in r.dones ≡ true
    → all_in (set r.askeds e.took.from.0 (Some row)) ≡ false
    → Flows s past e [] → Waved s (e ∷ past) (with_asked e.took.from.0 row r)
heard_asked s past e r v k row from was bd full more flow =
    let f = e.took.from.0 in
    let flow' : (two : Bool) (q : ℕ) → waves s (e ∷ past) two r.version.0 r.number q + wave two r.version.0 r.number q s.nodes f s.nodes (AskedRow v k row)
    ≡ waves s past two r.version.0 r.number q + 0 =
    λ two q. subst (λ (b : Body). waves s (e ∷ past) two r.version.0 r.number q + wave two r.version.0 r.number q s.nodes f s.nodes b
    ≡ waves s past two r.version.0 r.number q + 0) bd (flow two r.version.0 r.number q) in
    record {
      first = λ q lt. omega (arith, was.first q lt, flow' false q);
      second = λ all q lt.
          kept_second r.version.0 r.number q f (waves s past true r.version.0 r.number q) (waves s (e ∷ past) true r.version.0 r.number q)
          s.nodes v k row r.askeds s.nodes from (f == q) refl (was.second full q lt) (flow' true q);
      misses = more;
    }

-- a row of the round is of a node
pub row_from : (from : ℕ) (v : Version) (k : ℕ) (row : List ℕ) (r : RoundData) → is_of from v k row r ≡ true → from < r.nodes
row_from from v k row r here = by (v.0 == r.version.0) (k == r.number) (length row == r.nodes) from r.nodes here
  where
    by : (a b d : Bool) (x n : ℕ) → (a && (b && (nat_lt x n && d))) ≡ true → x < n
    by a b d x n is = grind (arith, nat_tests)

heard_out : (s : ScriptData) (past : List Entry) (e : Entry) (c d : Count) → 1 ≤ s.nodes → Shaped s.nodes c → Heard s past c
    → Flows s past e e.sent → CountStep s.nodes c d e.took.from.0 e.took.body e.sent → Heard s (e ∷ past) d
heard_out s past e c d some shape was flow (Leaves none le plain) = λ reads at. absurd (none_in_round d.pace reads none at)
heard_out s past e c d some shape was flow (Holds reads at calm refused is sent) =
    subst (Heard s (e ∷ past)) (sym is) (λ x now.
    heard_holds s past e c.round (shape x now).nodes (was x now) refused (subst (Flows s past e) sent flow))
heard_out s past e c d some shape was flow (IsNudged reads at bd is sent) =
    let refused : Refused e.took.body e.took.from.0 c.round = subst (λ (b : Body). Refused b e.took.from.0 c.round) (sym bd) tt in
    subst (Heard s (e ∷ past)) (sym is) (λ x now.
    heard_holds s past e c.round (shape x now).nodes (was x now) refused (subst (Flows s past e) sent flow))
heard_out s past e c d some shape was flow (Lasts at calm is sent) =
    subst (Heard s (e ∷ past)) (sym is) (λ x now. absurd (paused_in_round c.pace x at now))
heard_out s past e c d some shape was flow (BeginsRound reads v k lt none is sent) =
    subst (Heard s (e ∷ past)) (sym is) (λ x now. heard_begins s past e v k some none (subst (Flows s past e) sent flow))
heard_out s past e c d some shape was flow (TakesDone reads v k row at bd here is sent) =
    let now = shape reads at in
    let from : e.took.from.0 < length c.round.dones =
    omega (arith, row_from e.took.from.0 v k row c.round here, now.nodes, now.dones) in
    subst (Heard s (e ∷ past)) (sym is) (λ x there. heard_done s past e c.round v k row from (was reads at) bd (subst (Flows s past e) sent flow))
heard_out s past e c d some shape was flow (TakesRequests reads v k row takes verdict is sent) =
    let now = shape reads takes.pace in
    let from : e.took.from.0 < length c.round.askeds =
    omega (arith, row_from e.took.from.0 v k row c.round takes.here, now.nodes, now.askeds) in
    let more = none_misses (all_in c.round.dones) (all_in (set c.round.askeds e.took.from.0 (Some row))) _ takes.after_dones verdict in
    subst (Heard s (e ∷ past)) (sym is) (λ x there.
    heard_asked s past e c.round v k row from (was reads takes.pace) takes.body_is takes.after_dones more (subst (Flows s past e) sent flow))
heard_out s past e c d some shape was flow (Denies reads v k row takes verdict clear is sent) =
    subst (Heard s (e ∷ past)) (sym is) (λ x there. absurd (cc there))

heard_same : (s : ScriptData) (past : List Entry) (e : Entry) (c : Count) → Heard s past c
    → ((two : Bool) (v r q : ℕ) → waves s past two v r q ≤ waves s (e ∷ past) two v r q) → Heard s (e ∷ past) c
heard_same s past e c was more = λ reads at.
    let now = was reads at in
    let r = c.round in
    record {
      first = λ q lt. omega (arith, now.first q lt, more false r.version.0 r.number q);
      second = λ full q lt. omega (arith, now.second full q lt, more true r.version.0 r.number q);
      misses = now.misses;
    }

heard_away : (s : ScriptData) (count : List Entry → Count) (G : Premise) → IsCounting s count G
    → (past : List Entry) (e : Entry) → e.actor.0 ≢ s.nodes
    → ((two : Bool) (v r q : ℕ) → waves s past two v r q ≤ waves s (e ∷ past) two v r q) → Heard s past (count past)
    → Heard s (e ∷ past) (count (e ∷ past))
heard_away s count G view past e away stay was =
    subst (Heard s (e ∷ past)) (sym (view.stays past e away)) (heard_same s past e (count past) was stay)

heard_told : (s : ScriptData) (count : List Entry → Count) (G : Premise) → IsCounting s count G
    → (past : List Entry) (e : Entry) → IsStepRun s (e ∷ past) → AllApt s past → e.actor.0 ≡ s.nodes → Heard s past (count past)
    → Heard s (e ∷ past) (count (e ∷ past))
heard_told s count G view past e run apt at was =
    let flow : Flows s past e e.sent = λ two v r q.
    let took : wave two v r q s.nodes e.took.from.0 e.actor.0 e.took.body ≡ wave two v r q s.nodes e.took.from.0 s.nodes e.took.body =
    ap (λ (n : ℕ). wave two v r q s.nodes e.took.from.0 n e.took.body) at in
    let sent : tally (sends two v r q s.nodes e.actor.0) e.sent ≡ tally (sends two v r q s.nodes s.nodes) e.sent =
    ap (λ (n : ℕ). tally (sends two v r q s.nodes n) e.sent) at in
    omega (arith, wave_flow s past e two v r q run.0, took, sent) in
    heard_out s past e (count past) (count (e ∷ past)) view.lawful.valid.some_nodes (shaped s count G view past run.1 apt) was flow
    (view.steps past e run apt at)

heard_next : (s : ScriptData) (count : List Entry → Count) (G : Premise) → IsCounting s count G
    → (past : List Entry) (e : Entry) → IsStepRun s (e ∷ past) → AllApt s past → Course s past e → Heard s past (count past)
    → Heard s (e ∷ past) (count (e ∷ past))
heard_next s count G view past e run apt (inl (Coordinates tells at made)) was = heard_told s count G view past e run apt at was
heard_next s count G view past e run apt (inl (Begins bd at made)) was =
    let away : e.actor.0 ≢ s.nodes = λ same. omega (arith, at, same) in
    heard_away s count G view past e away (λ two v r q. waves_stay s past e two v r q run.0 away (Begins bd at made)) was
heard_next s count G view past e run apt (inl (Hears t w answer bd at lt made)) was =
    let away : e.actor.0 ≢ s.nodes = λ same. omega (arith, at, same) in
    heard_away s count G view past e away (λ two v r q. waves_stay s past e two v r q run.0 away (Hears t w answer bd at lt made)) was
heard_next s count G view past e run apt (inl (Ends w bd at made)) was =
    let away : e.actor.0 ≢ s.nodes = λ same. omega (arith, at, same) in
    heard_away s count G view past e away (λ two v r q. waves_stay s past e two v r q run.0 away (Ends w bd at made)) was
heard_next s count G view past e run apt (inl (Works p x w)) was =
    let away : e.actor.0 ≢ s.nodes = λ same. omega (arith, w.brings.at, w.brings.below, same) in
    heard_away s count G view past e away (λ two v r q. waves_stay s past e two v r q run.0 away (Works p x w)) was
heard_next s count G view past e run apt (inl (Obeys p out more at lt order state is woken)) was =
    let away : e.actor.0 ≢ s.nodes = λ same. omega (arith, at, lt, same) in
    heard_away s count G view past e away
    (λ two v r q. waves_stay s past e two v r q run.0 away (Obeys p out more at lt order state is woken)) was
heard_next s count G view past e run apt (inr (Restarts tells at loses made)) was = heard_told s count G view past e run apt at was
heard_next s count G view past e run apt (inr (Asked n bd at loses made)) was =
    heard_away s count G view past e (λ same. omega (arith, at, same))
    (λ two v r q. took_none s past e two v r q run.0 (subst IsPlain (sym bd) tt)) was
heard_next s count G view past e run apt (inr (Heeds p at lt loses heed)) was =
    heard_away s count G view past e (λ same. omega (arith, at, lt, same))
    (λ two v r q. took_none s past e two v r q run.0
    (heed_plain s (keeping_in s past p).core (keeping_in s (e ∷ past) p).core e.took.body e.sent heed)) was

-- in every run both waves are heard
pub waves_heard : (s : ScriptData) (count : List Entry → Count) (G : Premise) → IsCounting s count G
    → (past : List Entry) → IsStepRun s past → AllApt s past → Heard s past (count past)
waves_heard s count G view [] run apt = λ reads at. absurd (none_in_round (count []).pace reads view.start at)
waves_heard s count G view (e ∷ past) run apt =
    heard_next s count G view past e run apt.1 (course s past e view.lawful apt run) (waves_heard s count G view past run.1 apt.1)
