-- How many messages a transaction's home sends to the nodes that the transaction visits: of a strict transaction each
-- is told once what was decided, and tells once that it applied it; of an update transaction each is told once that
-- marks are let go. And a transaction visits no more nodes than it has subtransactions.
use Rattle.std.proofs.Common.{◌≡◌, ◌⊎◌, inl, inr, ℕ, zero, suc, ◌+◌, ◌<◌, ◌≤◌, ◌==◌, ◌&&◌, ◌||◌, not, Bool, true, false, List, [], ◌∷◌, ◌++◌, length, refl, sym, ap, subst, ◌∙◌, arith, Option, Some, None, length-append}
use Rattle.std.specs.Prelude.{if◌then◌else◌, nat_lt}
use Rattle.std.proofs.lemmas.Bool.Decides.{nat_tests}
use Rattle.tv_base.specs.declared.numbers.SubNo.{SubNo}
use Rattle.tv_base.specs.declared.numbers.TreeNo.{TreeNo}
use Rattle.tv_base.specs.declared.numbers.Version.{Version}
use Rattle.letter_types.specs.Kept.{kept_without, wakes}
use Rattle.letter_types.specs.declared.bodies.Body.{Body}
use Rattle.letter_types.specs.declared.bodies.Body.TheVariants.{Go, Root, Sub as SubLetter, Done, Decide, Decided, Release, Turn, Show, Sweep, AskDone, AskAsked, Order, Ask}
use Rattle.letter_types.specs.declared.bodies.Notice.{Notice}
use Rattle.letter_types.specs.declared.entries.Entry.{Entry}
use Rattle.letter_types.specs.declared.entries.Letter.{Letter}
use Rattle.letter_types.specs.declared.entries.Outgoing.{Outgoing}
use Rattle.letter_types.specs.Steps.{Out}
use Rattle.script_parts.specs.ScriptData.{visited, visits}
use Rattle.script_parts.specs.declared.parts.Sub.{Sub}
use Rattle.script_parts.specs.declared.parts.TreeKind.{TreeKind}
use Rattle.script_parts.specs.declared.parts.TreeKind.TheVariants.{Update, Read, Strict}
use Rattle.tree_home.specs.declared.homes.Answered.{Answered}
use Rattle.tx_trees.specs.ScriptData.{ScriptData, client_of, home_of, subs_at, visited_by}
use Rattle.tx_trees.specs.Valid.{IsValid}
use Rattle.world_model.specs.Asked.{asked_ops, asked_version, tree_part}
use Rattle.world_model.specs.Children.{done_letter, sub_letters}
use Rattle.world_model.specs.Core.{Core, Refusals}
use Rattle.world_model.specs.Counts.{one_if, tally}
use Rattle.world_model.specs.Done.{TreeOut, note_part}
use Rattle.world_model.specs.Kept.{kept_in}
use Rattle.world_model.specs.Named.{is_strict_at, tree_kind_at}
use Rattle.world_model.specs.Node.{Effect, Node}
use Rattle.world_model.specs.Notices.{reply_letters, values_of}
use Rattle.world_model.specs.Reads.{getting}
use Rattle.world_model.specs.Runs.{IsStepRun, client_in, in_flight, keeping_in}
use Rattle.world_model.specs.Strict.{answered, core_by_kind, core_row, decided, locks_by, marks, none_refuses, note_core, noted_vote, refused_there, release_letters, to_each, voting}
use Rattle.world_model.specs.Updates.{touching}
use Rattle.world_model.specs.Votes.{vote_of}
use Rattle.world_model.proofs.Bags.{one_if_most, tally-append}
use Rattle.world_model.proofs.Cases.{Case, Coordinates, Does, NodeDoes, NodeKeeps, Submits, case}
use Rattle.world_model.proofs.Every.{each_none, each_zero}
use Rattle.world_model.proofs.Flows.{flow}
use Rattle.world_model.proofs.Sends.{on, subs_none}
use Rattle.world_model.proofs.RowSends.{OfChildren, OfRow, OfTree, core_each}
use Rattle.advance_laws.proofs.governed.Brought.{IsAsking}
use Rattle.advance_laws.proofs.phases.Progress.{brings_to, itself}
use Rattle.tree_laws.specs.Dids.{answers, replies_to}
use Rattle.tree_laws.proofs.decided.AptDecided.{decided_any, decided_once, decides_any, ruled_here}
use Rattle.tree_laws.proofs.apt.AptLawful.{answers_once}
use Rattle.tree_laws.proofs.decided.AptRulings.{RowRules, core_rules, is_decide, ruled_acts, ruled_letters}
use Rattle.tree_laws.proofs.stages.AptStagesApart.{CountsNoOthers, client_none, coordinator_none, none_of_others}
use Rattle.tree_laws.proofs.stages.AptStagesRun.{stages_of_trees}
use Rattle.tree_laws.proofs.apt.AptSteps.{wakes_none}
use Rattle.tree_laws.proofs.homes.Entries.{taken_in}
use Rattle.tree_laws.proofs.histories.Turns.{each_told}
use Rattle.run_laws.proofs.each_tree.EveryApt.{all_apt}
use Rattle.run_laws.proofs.keeping.WakesFew.{sent_in}
use Rattle.world_model.specs.Keeping.{woken_by}

-- The nodes that a tree visits.
below_more : (x n : ℕ) → one_if (nat_lt x (suc n)) ≡ one_if (nat_lt x n) + one_if (x == n)
below_more x n = grind (arith, nat_tests)

any_more : (xs : List Sub) (n : ℕ) → tally (λ (x : Sub). one_if (nat_lt x.node.0 (suc n))) xs
    ≡ tally (λ (x : Sub). one_if (nat_lt x.node.0 n)) xs + tally (λ (x : Sub). one_if (x.node.0 == n)) xs
any_more [] n = refl
any_more (x ∷ xs) n = omega (arith, below_more x.node.0 n, any_more xs n)

any_here : (xs : List Sub) (n : ℕ) → one_if (visits xs n) ≤ tally (λ (x : Sub). one_if (x.node.0 == n)) xs
any_here [] n = omega arith
any_here (x ∷ xs) n = omega (arith, either (x.node.0 == n) (visits xs n), any_here xs n) where
  either : (a b : Bool) → one_if (a || b) ≤ one_if a + one_if b
  either true b = omega arith
  either false b = omega arith

one_more : (n : ℕ) (b : Bool) → length (if b then n ∷ [] else []) ≡ one_if b
one_more n true = refl
one_more n false = refl

visited_below : (xs : List Sub) (n : ℕ) → length (visited xs n) ≤ tally (λ (x : Sub). one_if (nat_lt x.node.0 n)) xs
visited_below xs zero = omega arith
visited_below xs (suc n) =
    omega (
      arith,
      length-append (visited xs n) (if visits xs n then n ∷ [] else []),
      one_more n (visits xs n),
      visited_below xs n,
      any_more xs n,
      any_here xs n,
    )

all_most : {X : Type 0} (f : X → Bool) (xs : List X) → tally (λ (x : X). one_if (f x)) xs ≤ length xs
all_most f [] = omega arith
all_most f (x ∷ xs) = omega (arith, one_if_most (f x), all_most f xs)

pub visited_most : (s : ScriptData) (t : ℕ) → length (visited_by s t) ≤ length (subs_at s t)
visited_most s t =
    omega (arith, visited_below (subs_at s t) s.nodes, all_most (λ (x : Sub). nat_lt x.node.0 s.nodes) (subs_at s t))

-- What is sent where something happens that happens once.
record SentAt (sent marks n : ℕ) : Type 0 where
  none : marks ≡ 0 → sent ≡ 0
  most : sent ≤ n

-- an entry sends none, or it happens there
abbrev Sends : ℕ → ℕ → ℕ → Type 0
Sends sent mark n = (sent ≡ 0) ⊎ ((sent ≤ n) × (1 ≤ mark))

sent_next : (a m n sent marks : ℕ) → SentAt sent marks n → Sends a m n → m + marks ≤ 1 → SentAt (a + sent) (m + marks) n
sent_next a m n sent marks at (inl none) few =
    record { none = λ is. omega (arith, none, at.none (omega (arith, is))); most = omega (arith, none, at.most) }
sent_next a m n sent marks at (inr (most, some)) few =
    record { none = λ is. absurd (omega (arith, is, some)); most = omega (arith, most, some, few, at.none (omega (arith, some, few))) }

each_one : (f : Outgoing → ℕ) (body : Body) (qs : List ℕ) → ((q : ℕ) → f (record { to = record { 0 = q }; body = body }) ≤ 1)
    → tally f (to_each body qs) ≤ length qs
each_one f body [] one = omega arith
each_one f body (q ∷ qs) one = omega (arith, one q, each_one f body qs one)

-- Decisions.
abbrev pub decide_of : ℕ → Body → ℕ
decide_of t (Decide u v commit) = one_if (u.0 == t)
decide_of t Go = 0
decide_of t _ = 0

decide_only : (t : ℕ) (o : Outgoing) → is_decide o.body ≡ false → on (decide_of t) o ≡ 0
decide_only t o is = by o.body is where
  by : (b : Body) → is_decide b ≡ false → decide_of t b ≡ 0
  by (Decide u v commit) none = absurd (cc none)
  by Go none = refl
  by _ none = refl

decide_no_others : (t : ℕ) → CountsNoOthers (decide_of t)
decide_no_others t = none_of_others (decide_of t) (λ u. refl) (λ v. (refl, (refl, refl))) (λ e what v. (refl, refl)) (λ v k. (refl, refl)) (λ v. refl)
    (refl, (refl, refl)) (λ e k. (refl, refl))

ruled_sends : (s : ScriptData) (t : ℕ) (rs : Refusals) (found : Option Answered)
    → Sends (tally (on (decide_of t)) (ruled_letters s rs found)) (decides_any t (ruled_acts rs found)) (length (visited_by s t))
ruled_sends s t rs None = inl refl
ruled_sends s t rs (Some a) = by (a.tree.0 == t) refl where
  letters : List Outgoing
  letters = to_each (Decide a.tree a.version (none_refuses a.tree rs)) (visited_by s a.tree.0)

  one : (commit here : Bool) → here ≡ true → 1 ≤ (one_if (here && commit) + 0) + (one_if (here && not commit) + 0)
  one true here is = rw is (omega arith)
  one false here is = rw is (omega arith)

  by : (b : Bool) → (a.tree.0 == t) ≡ b
      → Sends (tally (on (decide_of t)) letters) (decides_any t (ruled_acts rs (Some a))) (length (visited_by s t))
  by false is = inl (each_told (on (decide_of t)) _ (visited_by s a.tree.0) (λ q. ap one_if is))
  by true is =
      let same : a.tree.0 ≡ t = grind (arith, nat_tests) in
      inr (
        omega (
          arith,
          each_one (on (decide_of t)) (Decide a.tree a.version (none_refuses a.tree rs)) (visited_by s a.tree.0) (λ q. one_if_most (a.tree.0 == t)),
          ap (λ (u : ℕ). length (visited_by s u)) same,
        ),
        one (none_refuses a.tree rs) (a.tree.0 == t) is,
      )

does_decides : (s : ScriptData) (past : List Entry) (e : Entry) (p t : ℕ) (r : Letter) → Does s past e p r
    → Sends (tally (on (decide_of t)) e.sent) (decides_any t e.acts) (length (visited_by s t))
does_decides s past e p t r d =
    let c : Core = (keeping_in s past p).core in
    let row : Out Core = core_row s p c r.from.0 r.body in
    let rules : RowRules s c r.body row = core_rules s p r.from.0 r.body c in
    let more : List Outgoing = wakes (woken_by (keeping_in s past p).core r.body) (kept_without (kept_in s past p) e.took.body) in
    let sent : tally (on (decide_of t)) e.sent ≡ tally (on (decide_of t)) (ruled_letters s row.state.refusals rules.found) =
    omega (
      arith,
      ap (λ (os : List Outgoing). tally (on (decide_of t)) os) d.sent,
      tally-append (on (decide_of t)) row.sent more,
      wakes_none (on (decide_of t)) (woken_by (keeping_in s past p).core r.body) (kept_without (kept_in s past p) e.took.body) (λ x. refl),
      rules.sends (on (decide_of t)) (decide_only t),
    ) in
    let acts : decides_any t e.acts ≡ decides_any t (ruled_acts row.state.refusals rules.found) =
    omega (arith, ruled_here s past e p r t true d rules, ruled_here s past e p r t false d rules) in
    subst (λ (m : ℕ). Sends m (decides_any t e.acts) (length (visited_by s t))) (sym sent)
    (subst (λ (m : ℕ). Sends (tally (on (decide_of t)) (ruled_letters s row.state.refusals rules.found)) m (length (visited_by s t))) (sym acts)
    (ruled_sends s t row.state.refusals rules.found))

entry_decides : (s : ScriptData) (past : List Entry) (e : Entry) (t : ℕ) → Case s past e
    → Sends (tally (on (decide_of t)) e.sent) (decides_any t e.acts) (length (visited_by s t))
entry_decides s past e t (NodeDoes p r d) = does_decides s past e p t r d
entry_decides s past e t (NodeKeeps p r o d) = inl (ap (λ (os : List Outgoing). tally (on (decide_of t)) os) d.sent)
entry_decides s past e t (Coordinates at made) = inl (coordinator_none (decide_of t) s e made (decide_no_others t))
entry_decides s past e t (Submits at says) =
    inl (ap (λ (os : List Outgoing). tally (on (decide_of t)) os) says.0
    ∙ client_none (decide_of t) s (client_in s past) e.took.body (decide_no_others t))

decides_at : (s : ScriptData) (past : List Entry) (t : ℕ) → IsValid s → IsStepRun s past → t < length s.trees
    → SentAt (sent_in (decide_of t) past) (decided_any past t) (length (visited_by s t))
decides_at s [] t valid run lt = record { none = λ is. refl; most = omega arith }
decides_at s (e ∷ past) t valid run lt =
    let apt = all_apt s (e ∷ past) valid run in
    let more : decides_any t e.acts + decided_any past t ≡ decided_any (e ∷ past) t = omega arith in
    subst (λ (m : ℕ). SentAt (sent_in (decide_of t) (e ∷ past)) m (length (visited_by s t))) more
    (sent_next (tally (on (decide_of t)) e.sent) (decides_any t e.acts) (length (visited_by s t)) (sent_in (decide_of t) past) (decided_any past t)
    (decides_at s past t valid run.1 lt) (entry_decides s past e t (case s past e run.0 apt.0))
    (omega (arith, more, decided_once s (e ∷ past) t valid apt run lt)))

-- What was sent is taken, or in flight.
pub taken_sent : (f : Body → ℕ) (s : ScriptData) (past : List Entry) → IsStepRun s past
    → taken_in f past + tally (λ (l : Letter). f l.body) (in_flight s past) ≡ f Go + sent_in f past
taken_sent f s [] run = omega arith
taken_sent f s (e ∷ past) run = omega (arith, taken_sent f s past run.1, flow f s past e run.0)

-- each is told once what was decided
pub decides_few : (s : ScriptData) (past : List Entry) (t : ℕ) → IsValid s → IsStepRun s past → t < length s.trees
    → taken_in (decide_of t) past ≤ length (subs_at s t)
decides_few s past t valid run lt =
    omega (arith, taken_sent (decide_of t) s past run, (decides_at s past t valid run lt).most, visited_most s t)

-- Acknowledgements: one for each decision that is taken.
abbrev pub ack_of : ℕ → Body → ℕ
ack_of t (Decided u v) = one_if (u.0 == t)
ack_of t Go = 0
ack_of t _ = 0

ack_no_others : (t : ℕ) → CountsNoOthers (ack_of t)
ack_no_others t = none_of_others (ack_of t) (λ u. refl) (λ v. (refl, (refl, refl))) (λ e what v. (refl, refl)) (λ v k. (refl, refl)) (λ v. refl)
    (refl, (refl, refl)) (λ e k. (refl, refl))

abbrev IsNoAck : ℕ → ℕ → Body → Type 0
IsNoAck t to body = ack_of t body ≡ 0

acks_children : (t : ℕ) (s : ScriptData) (u : TreeNo) → OfChildren (IsNoAck t) s u
acks_children t s u v parent =
    each_zero (on (ack_of t)) (sub_letters u.0 v parent 0 (subs_at s u.0)) (subs_none (ack_of t) u.0 v parent 0 (subs_at s u.0) (λ w j x. refl))

acks_tree : (t : ℕ) (s : ScriptData) (u : TreeNo) → OfTree (IsNoAck t) s u
acks_tree t s u = record {
  children = acks_children t s u;
  reply = λ v answer. refl;
  release = λ q some up at. refl;
  decide = λ q v commit strict at. refl;
}

none_by : (s : ScriptData) (p from t : ℕ) (c : Core) (body : Body) → OfRow (IsNoAck t) s c body
    → tally (on (ack_of t)) (core_row s p c from body).sent ≡ 0
none_by s p from t c body none = each_none (on (ack_of t)) (core_row s p c from body).sent (core_each (IsNoAck t) s p from body c none)

row_acks : (s : ScriptData) (p from t : ℕ) (c : Core) (body : Body)
    → tally (on (ack_of t)) (core_row s p c from body).sent ≤ decide_of t body
row_acks s p from t c (Decide u v commit) = omega arith
row_acks s p from t c (Root u) = omega (arith, none_by s p from t c (Root u) (acks_tree t s u))
row_acks s p from t c (SubLetter u j v) = omega (arith, none_by s p from t c (SubLetter u j v) (acks_children t s u, λ w notice fits. refl))
row_acks s p from t c (Done u j v notice) = omega (arith, none_by s p from t c (Done u j v notice) (acks_tree t s u))
row_acks s p from t c (Decided u v) = omega (arith, none_by s p from t c (Decided u v) (λ a answer is. refl))
row_acks s p from t c (Turn v) = omega (arith, none_by s p from t c (Turn v) refl)
row_acks s p from t c (Show v) = omega (arith, none_by s p from t c (Show v) refl)
row_acks s p from t c (Sweep v) = omega (arith, none_by s p from t c (Sweep v) refl)
row_acks s p from t c (AskDone v k) = omega (arith, none_by s p from t c (AskDone v k) (λ row is. refl))
row_acks s p from t c (AskAsked v k) = omega (arith, none_by s p from t c (AskAsked v k) (λ row is. refl))
row_acks s p from t c (Release u) = omega (arith, none_by s p from t c (Release u) tt)
row_acks s p from t c (Order e what v) = omega (arith, none_by s p from t c (Order e what v) refl)
row_acks s p from t c (Ask e) = omega (arith, none_by s p from t c (Ask e) (λ u r l. refl))
row_acks s p from t c Go = omega (arith, none_by s p from t c Go tt)
row_acks s p from t c _ = omega arith

-- the decision that is brought is the letter that is taken
took_decide : (s : ScriptData) (past : List Entry) (e : Entry) (p t : ℕ) (r : Letter) → Does s past e p r
    → decide_of t r.body ≤ decide_of t e.took.body
took_decide s past e p t r d = by r.body refl where
  same : (IsAsking r.body → ⊥) → decide_of t r.body ≤ decide_of t e.took.body
  same other = omega (arith, ap (λ (l : Letter). decide_of t l.body) (itself s past e p r (brings_to s past e p r d.brings) other))

  by : (b : Body) → r.body ≡ b → decide_of t r.body ≤ decide_of t e.took.body
  by (Decide u v commit) is = same (λ asks. subst IsAsking is asks)
  by Go is = omega (arith, ap (decide_of t) is)
  by _ is = omega (arith, ap (decide_of t) is)

entry_acks : (s : ScriptData) (past : List Entry) (e : Entry) (t : ℕ) → Case s past e → tally (on (ack_of t)) e.sent ≤ decide_of t e.took.body
entry_acks s past e t (NodeDoes p r d) =
    let c : Core = (keeping_in s past p).core in
    let more : List Outgoing = wakes (woken_by (keeping_in s past p).core r.body) (kept_without (kept_in s past p) e.took.body) in
    omega (
      arith,
      ap (λ (os : List Outgoing). tally (on (ack_of t)) os) d.sent,
      tally-append (on (ack_of t)) (core_row s p c r.from.0 r.body).sent more,
      wakes_none (on (ack_of t)) (woken_by (keeping_in s past p).core r.body) (kept_without (kept_in s past p) e.took.body) (λ x. refl),
      row_acks s p r.from.0 t c r.body,
      took_decide s past e p t r d,
    )
entry_acks s past e t (NodeKeeps p r o d) = omega (arith, ap (λ (os : List Outgoing). tally (on (ack_of t)) os) d.sent)
entry_acks s past e t (Coordinates at made) = omega (arith, coordinator_none (ack_of t) s e made (ack_no_others t))
entry_acks s past e t (Submits at says) =
    omega (
      arith,
      ap (λ (os : List Outgoing). tally (on (ack_of t)) os) says.0,
      client_none (ack_of t) s (client_in s past) e.took.body (ack_no_others t),
    )

acks_sent : (s : ScriptData) (past : List Entry) (t : ℕ) → IsValid s → IsStepRun s past → sent_in (ack_of t) past ≤ taken_in (decide_of t) past
acks_sent s [] t valid run = omega arith
acks_sent s (e ∷ past) t valid run =
    omega (arith, acks_sent s past t valid run.1, entry_acks s past e t (case s past e run.0 (all_apt s (e ∷ past) valid run).0))

-- and each tells once that it was applied
pub acks_few : (s : ScriptData) (past : List Entry) (t : ℕ) → IsValid s → IsStepRun s past → t < length s.trees
    → taken_in (ack_of t) past ≤ length (subs_at s t)
acks_few s past t valid run lt =
    omega (arith, taken_sent (ack_of t) s past run, acks_sent s past t valid run, decides_few s past t valid run lt)

-- Marks that are let go: where the tree is answered.
abbrev pub release_of : ℕ → Body → ℕ
release_of t (Release u) = one_if (u.0 == t)
release_of t Go = 0
release_of t _ = 0

release_no_others : (t : ℕ) → CountsNoOthers (release_of t)
release_no_others t = none_of_others (release_of t) (λ u. refl) (λ v. (refl, (refl, refl))) (λ e what v. (refl, refl)) (λ v k. (refl, refl)) (λ v. refl)
    (refl, (refl, refl)) (λ e k. (refl, refl))

abbrev Releases : ScriptData → ℕ → List Outgoing → Type 0
Releases s t os = Sends (tally (on (release_of t)) os) (tally (on (replies_to t)) os) (length (visited_by s t))

sends_same : (a b m k n : ℕ) → a ≡ b → m ≤ k → Sends a m n → Sends b k n
sends_same a b m k n same more (inl is) = inl (omega (arith, is, same))
sends_same a b m k n same more (inr (most, some)) = inr (omega (arith, same, most), omega (arith, some, more))

-- what goes out with an answer
let_go : (s : ScriptData) (t : ℕ) (a : Answered) (b : Bool) → (a.tree.0 == t) ≡ b → Releases s t (release_letters s (Some a) ++ reply_letters (client_of s) (Some a))
let_go s t a false is = inl (omega (
  arith,
  tally-append (on (release_of t)) (release_letters s (Some a)) (reply_letters (client_of s) (Some a)),
  by (marks s a.tree.0),
)) where
  by : (m : Bool) → tally (on (release_of t)) (if m then to_each (Release a.tree) (visited_by s a.tree.0) else []) ≡ 0
  by true = each_told (on (release_of t)) (Release a.tree) (visited_by s a.tree.0) (λ q. ap one_if is)
  by false = refl
let_go s t a true is = inr (
  omega (
    arith,
    tally-append (on (release_of t)) (release_letters s (Some a)) (reply_letters (client_of s) (Some a)),
    by (marks s a.tree.0),
    ap (λ (u : ℕ). length (visited_by s u)) same,
  ),
  omega (arith, tally-append (on (replies_to t)) (release_letters s (Some a)) (reply_letters (client_of s) (Some a)), ap one_if is),
) where
  same : a.tree.0 ≡ t
  same = grind (arith, nat_tests)

  by : (m : Bool) → tally (on (release_of t)) (if m then to_each (Release a.tree) (visited_by s a.tree.0) else []) ≤ length (visited_by s a.tree.0)
  by true = each_one (on (release_of t)) (Release a.tree) (visited_by s a.tree.0) (λ q. one_if_most (a.tree.0 == t))
  by false = omega arith

goes_out : (s : ScriptData) (t : ℕ) (o : Option Answered) → Releases s t (release_letters s o ++ reply_letters (client_of s) o)
goes_out s t None = inl refl
goes_out s t (Some a) = let_go s t a (a.tree.0 == t) refl

answered_releases : (s : ScriptData) (t : ℕ) (c : Core) (o : TreeOut) → tally (on (release_of t)) o.out.sent ≡ 0
    → Releases s t (answered s c o).sent
answered_releases s t c o none =
    let marks_go : List Outgoing = release_letters s o.answered in
    let reply : List Outgoing = reply_letters (client_of s) o.answered in
    let f : Outgoing → ℕ = on (release_of t) in
    let g : Outgoing → ℕ = on (replies_to t) in
    sends_same (tally f (marks_go ++ reply)) (tally f (o.out.sent ++ marks_go ++ reply)) (tally g (marks_go ++ reply))
    (tally g (o.out.sent ++ marks_go ++ reply)) (length (visited_by s t))
    (omega (arith, none, tally-append f (o.out.sent ++ marks_go) reply, tally-append f o.out.sent marks_go, tally-append f marks_go reply))
    (omega (arith, tally-append g (o.out.sent ++ marks_go) reply, tally-append g o.out.sent marks_go, tally-append g marks_go reply))
    (goes_out s t o.answered)

decided_releases : (s : ScriptData) (t : ℕ) (c : Core) (o : TreeOut) (a : Option Answered) → tally (on (release_of t)) o.out.sent ≡ 0
    → tally (on (release_of t)) (decided s c o a).sent ≡ 0
decided_releases s t c o None none = none
decided_releases s t c o (Some a) none =
    let letters = to_each (Decide a.tree a.version (none_refuses a.tree c.refusals)) (visited_by s a.tree.0) in
    omega (
      arith,
      tally-append (on (release_of t)) o.out.sent letters,
      none,
      each_told (on (release_of t)) (Decide a.tree a.version (none_refuses a.tree c.refusals)) (visited_by s a.tree.0) (λ q. refl),
    )

part_releases : (s : ScriptData) (t p from : ℕ) (v : Version) (raises : Bool) (e : Effect) (body : Body) (st : Node)
    → tally (on (release_of t)) (tree_part s p from v raises e body st).out.sent ≡ 0
part_releases s t p from v raises e (Root u) st = subs_none (release_of t) u.0 v.0 0 0 (subs_at s u.0) (λ w j x. refl)
part_releases s t p from v raises e (SubLetter u k w) st =
    omega (
      arith,
      tally-append (on (release_of t)) (sub_letters u.0 v.0 k.0 0 (subs_at s u.0)) (done_letter (home_of s u.0) u.0 k.0 v.0 e.notice ∷ []),
      subs_none (release_of t) u.0 v.0 k.0 0 (subs_at s u.0) (λ w j x. refl),
    )
part_releases s t p from v raises e _ st = refl

kind_releases : (s : ScriptData) (t p from : ℕ) (u : TreeNo) (body : Body) (kind : Option TreeKind) (c : Core)
    → Releases s t (core_by_kind s p from u body kind c).sent
kind_releases s t p from u body (Some Update) c =
    let v = asked_version c.node.turns.update body in
    let e : Effect = touching v (asked_ops s body) c.node.items in
    answered_releases s t c
    (tree_part s p from v (nat_lt c.node.turns.update.0 v.0) e body c.node)
    (part_releases s t p from v (nat_lt c.node.turns.update.0 v.0) e body c.node)
kind_releases s t p from u body (Some Read) c =
    let v = asked_version c.node.turns.read body in
    let e : Effect = getting v (asked_ops s body) c.node.items in
    answered_releases s t c (tree_part s p from v false e body c.node) (part_releases s t p from v false e body c.node)
kind_releases s t p from u body (Some Strict) c =
    let v = asked_version c.node.turns.update body in
    let vote = vote_of c.locks c.node.items u v (asked_ops s body) in
    let o : TreeOut = tree_part s p from v (nat_lt c.node.turns.update.0 v.0) (voting vote c.node.items) body c.node in
    inl (decided_releases s t
    (record c { locks = locks_by vote u (asked_ops s body) c.locks; refusals = noted_vote body vote c.refusals }) o o.answered
    (part_releases s t p from v (nat_lt c.node.turns.update.0 v.0) (voting vote c.node.items) body c.node))
kind_releases s t p from u body None c = inl refl

note_releases : (s : ScriptData) (t from : ℕ) (u : TreeNo) (k : SubNo) (v : Version) (notice : Notice) (c : Core) (strict : Bool)
    → is_strict_at s u.0 ≡ strict → Releases s t (note_core s from u k v notice c).sent
note_releases s t from u k v notice c true is =
    let o : TreeOut = note_part from u.0 k.0 v.0 (values_of notice) c.node in
    rw is (inl (decided_releases s t (record c { refusals = refused_there u k notice c }) o o.answered refl))
note_releases s t from u k v notice c false is =
    rw is (answered_releases s t c (note_part from u.0 k.0 v.0 (values_of notice) c.node) refl)

abbrev IsNoRelease : ℕ → ℕ → Body → Type 0
IsNoRelease t to body = release_of t body ≡ 0

no_release : (s : ScriptData) (p from t : ℕ) (c : Core) (body : Body) → OfRow (IsNoRelease t) s c body
    → Releases s t (core_row s p c from body).sent
no_release s p from t c body none =
    inl (each_none (on (release_of t)) (core_row s p c from body).sent (core_each (IsNoRelease t) s p from body c none))

row_releases : (s : ScriptData) (p from t : ℕ) (c : Core) (body : Body) → Releases s t (core_row s p c from body).sent
row_releases s p from t c (Root u) = kind_releases s t p from u (Root u) (tree_kind_at s u.0) c
row_releases s p from t c (SubLetter u k v) = kind_releases s t p from u (SubLetter u k v) (tree_kind_at s u.0) c
row_releases s p from t c (Done u k v notice) = note_releases s t from u k v notice c (is_strict_at s u.0) refl
row_releases s p from t c (Decide u v commit) = no_release s p from t c (Decide u v commit) refl
row_releases s p from t c (Decided u v) = no_release s p from t c (Decided u v) (λ a answer is. refl)
row_releases s p from t c (Release u) = no_release s p from t c (Release u) tt
row_releases s p from t c (Turn v) = no_release s p from t c (Turn v) refl
row_releases s p from t c (Show v) = no_release s p from t c (Show v) refl
row_releases s p from t c (Sweep v) = no_release s p from t c (Sweep v) refl
row_releases s p from t c (AskDone v k) = no_release s p from t c (AskDone v k) (λ row is. refl)
row_releases s p from t c (AskAsked v k) = no_release s p from t c (AskAsked v k) (λ row is. refl)
row_releases s p from t c (Order e what v) = no_release s p from t c (Order e what v) refl
row_releases s p from t c (Ask e) = no_release s p from t c (Ask e) (λ u r l. refl)
row_releases s p from t c _ = inl refl

does_releases : (s : ScriptData) (past : List Entry) (e : Entry) (p t : ℕ) (r : Letter) → Does s past e p r → Releases s t e.sent
does_releases s past e p t r d =
    let c : Core = (keeping_in s past p).core in
    let row : Out Core = core_row s p c r.from.0 r.body in
    let more : List Outgoing = wakes (woken_by (keeping_in s past p).core r.body) (kept_without (kept_in s past p) e.took.body) in
    let sent : tally (on (release_of t)) e.sent ≡ tally (on (release_of t)) row.sent =
    omega (
      arith,
      ap (λ (os : List Outgoing). tally (on (release_of t)) os) d.sent,
      tally-append (on (release_of t)) row.sent more,
      wakes_none (on (release_of t)) (woken_by (keeping_in s past p).core r.body) (kept_without (kept_in s past p) e.took.body) (λ x. refl),
    ) in
    let told : tally (on (replies_to t)) e.sent ≡ tally (on (replies_to t)) row.sent =
    omega (
      arith,
      ap (λ (os : List Outgoing). tally (on (replies_to t)) os) d.sent,
      tally-append (on (replies_to t)) row.sent more,
      wakes_none (on (replies_to t)) (woken_by (keeping_in s past p).core r.body) (kept_without (kept_in s past p) e.took.body) (λ x. refl),
    ) in
    subst (λ (m : ℕ). Sends m (tally (on (replies_to t)) e.sent) (length (visited_by s t))) (sym sent)
    (subst (λ (m : ℕ). Sends (tally (on (release_of t)) row.sent) m (length (visited_by s t))) (sym told) (row_releases s p r.from.0 t c r.body))

entry_releases : (s : ScriptData) (past : List Entry) (e : Entry) (t : ℕ) → Case s past e → Releases s t e.sent
entry_releases s past e t (NodeDoes p r d) = does_releases s past e p t r d
entry_releases s past e t (NodeKeeps p r o d) = inl (ap (λ (os : List Outgoing). tally (on (release_of t)) os) d.sent)
entry_releases s past e t (Coordinates at made) = inl (coordinator_none (release_of t) s e made (release_no_others t))
entry_releases s past e t (Submits at says) =
    inl (ap (λ (os : List Outgoing). tally (on (release_of t)) os) says.0
    ∙ client_none (release_of t) s (client_in s past) e.took.body (release_no_others t))

pub answered_once : (s : ScriptData) (past : List Entry) (t : ℕ) → IsValid s → IsStepRun s past → t < length s.trees → answers past t ≤ 1
answered_once s past t valid run lt = answers_once s past t (stages_of_trees s past valid (all_apt s past valid run) run t lt)

releases_at : (s : ScriptData) (past : List Entry) (t : ℕ) → IsValid s → IsStepRun s past → t < length s.trees
    → SentAt (sent_in (release_of t) past) (answers past t) (length (visited_by s t))
releases_at s [] t valid run lt = record { none = λ is. refl; most = omega arith }
releases_at s (e ∷ past) t valid run lt =
    sent_next (tally (on (release_of t)) e.sent) (tally (on (replies_to t)) e.sent) (length (visited_by s t)) (sent_in (release_of t) past) (answers past t)
    (releases_at s past t valid run.1 lt) (entry_releases s past e t (case s past e run.0 (all_apt s (e ∷ past) valid run).0))
    (answered_once s (e ∷ past) t valid run lt)

pub releases_few : (s : ScriptData) (past : List Entry) (t : ℕ) → IsValid s → IsStepRun s past → t < length s.trees
    → taken_in (release_of t) past ≤ length (subs_at s t)
releases_few s past t valid run lt =
    omega (arith, taken_sent (release_of t) s past run, (releases_at s past t valid run lt).most, visited_most s t)
