-- Requests are completions and the counted messages that have still to be done, from both low versions up, and low
-- versions never fall: in runs of enabled messages, of every script. Counters are small.
use Rattle.std.proofs.Common.{◌≡◌, ◌≢◌, ◌⊎◌, inl, inr, ℕ, ◌+◌, ◌*◌, ◌<◌, ◌≤◌, ◌&&◌, Bool, true, false, List, [], ◌∷◌, ◌++◌, length, refl, sym, ap, subst, ◌∙◌, arith, Option, Some, None}
use Rattle.std.specs.Prelude.{if◌then◌else◌, nat_le, nat_lt}
use Rattle.std.proofs.lemmas.Bool.{cases_eq}
use Rattle.std.proofs.lemmas.Bool.Decides.{nat_tests}
use Rattle.tv_base.proofs.Truths.{at_most}
use Rattle.tv_base.specs.declared.numbers.SubNo.{SubNo}
use Rattle.tv_base.specs.declared.numbers.TreeNo.{TreeNo}
use Rattle.tv_base.specs.declared.numbers.Version.{Version}
use Rattle.letter_types.specs.declared.bodies.Body.{Body}
use Rattle.letter_types.specs.declared.bodies.Body.TheVariants.{Root, Sub as SubLetter, Done, Decide, Decided, Release, Turn, Show, Sweep, AskDone, AskAsked, Order, Ask}
use Rattle.letter_types.specs.declared.bodies.Notice.{Notice}
use Rattle.letter_types.specs.declared.entries.Entry.{Entry}
use Rattle.letter_types.specs.declared.entries.Letter.{Letter}
use Rattle.letter_types.specs.declared.entries.Outgoing.{Outgoing}
use Rattle.letter_types.specs.declared.kept.KeptLetter.{KeptLetter}
use Rattle.letter_types.specs.declared.kept.KeepReason.{KeepReason}
use Rattle.letter_types.specs.declared.votes.Vote.{Vote}
use Rattle.letter_types.specs.Kept.{kept_without, wakes}
use Rattle.letter_types.specs.Steps.{Out}
use Rattle.node_versions.specs.declared.turns.Turns.{Turns}
use Rattle.pair_counters.specs.Numbers.{AllBelow}
use Rattle.tx_trees.specs.ScriptData.{ScriptData}
use Rattle.tx_trees.specs.Valid.{IsValid}
use Rattle.tx_trees.specs.declared.parts.TreeKind.{TreeKind}
use Rattle.tx_trees.specs.declared.parts.TreeKind.TheVariants.{Update, Read, Strict}
use Rattle.world_model.specs.AllApt.{AllApt}
use Rattle.world_model.specs.Asked.{asked_ops, asked_version, tree_part}
use Rattle.world_model.specs.Core.{Core}
use Rattle.world_model.specs.Counts.{tally}
use Rattle.world_model.specs.Done.{TreeOut, note_part}
use Rattle.world_model.specs.Kept.{kept_in, of_done}
use Rattle.world_model.specs.Named.{is_named, is_new, is_strict_at, is_timely, tree_kind_at}
use Rattle.world_model.specs.Node.{Effect, Node}
use Rattle.world_model.specs.Notices.{values_of}
use Rattle.world_model.specs.Reads.{getting}
use Rattle.world_model.specs.Runs.{IsStepRun, MayFollow, actor_in, keeping_in, node_in}
use Rattle.world_model.specs.Strict.{CoreKeeping, answered, can_make_at, core_by_kind, core_row, decided, decides_near, is_core_apt, is_unheld, locks_by, note_core, noted_vote, refused_there, voting}
use Rattle.world_model.specs.Taking.{CountsBelow, MOST_COUNTED}
use Rattle.world_model.specs.Updates.{touching}
use Rattle.world_model.specs.Votes.{vote_of}
use Rattle.world_model.proofs.Bags.{sealed_tally, tally-append}
use Rattle.world_model.proofs.Cases.{Case, Coordinates, Does, Keeps, NodeDoes, NodeKeeps, Submits, case, does_number, keeps_number}
use Rattle.world_model.proofs.Every.{node_kept}
use Rattle.world_model.proofs.Keepings.{OfKeepings, of_kept}
use Rattle.world_model.proofs.Nexts.{Made}
use Rattle.world_model.proofs.Outstanding.{NoWakes, outstanding_first, outstanding_step}
use Rattle.world_model.proofs.SmallCounts.{small_counts}
use Rattle.advance_laws.specs.Apt.{AptRunsBalance, CountsAreSmall}
use Rattle.advance_laws.specs.Balance.{goes_between, out, version_is}
use Rattle.advance_laws.proofs.counting.CoreCounts.{at_node, core_counts}
use Rattle.advance_laws.proofs.counting.Counters.{counted}
use Rattle.advance_laws.proofs.governed.Lawful.{IsTreeLawful}
use Rattle.advance_laws.proofs.counting.Moves.{Counts, RowCounts, aside, by_node, sent_on, uncounted_goes}
use Rattle.advance_laws.proofs.counting.Working.{decided_turns}
use Rattle.world_model.specs.Epochs.{is_core_timely, plain_order}
use Rattle.world_model.specs.Keeping.{woken_by}
use Rattle.world_model.proofs.Epochs.{Orders, order_timely, order_each, ask_each}
use Rattle.letter_types.specs.declared.bodies.What.{What}
use Rattle.letter_types.specs.declared.bodies.What.TheVariants as whats

-- What is known of an apt letter: what it names belongs to the node, and it comes in time.
named_and_timely : (a b c d e f g : Bool) → (a && (b && (c && d && (e && f && g)))) ≡ true → (b ≡ true) × (e ≡ true)
named_and_timely a b c d e f g is = (grind arith, grind arith)

pub apt_parts : (s : ScriptData) (p : ℕ) (c : Core) (l : Letter) → is_core_apt s p c l ≡ true
    → (is_named s p l.from.0 l.body ≡ true) × (is_core_timely s c l.body ≡ true)
apt_parts s p c l apt =
    named_and_timely _ (is_named s p l.from.0 l.body) (is_new s c.node l.body) (is_unheld l.body c.holds)
    (is_core_timely s c l.body) (decides_near s c.node l.body) (can_make_at s p c l.body) apt

-- Wakes aren't counted.
wake_uncounted : (v q : ℕ) (b : Bool) (o : Outgoing) (os : List Outgoing) → counted v q o ≡ 0 → tally (counted v q) os ≡ 0
    → tally (counted v q) (if b then o ∷ os else os) ≡ 0
wake_uncounted v q true o os one none = omega (arith, one, none)
wake_uncounted v q false o os one none = none

pub wakes_uncounted : (v q : ℕ) (test : KeepReason → Bool) (kept : List KeptLetter) → tally (counted v q) (wakes test kept) ≡ 0
wakes_uncounted v q test [] = refl
wakes_uncounted v q test (x ∷ xs) =
    wake_uncounted v q (test x.why) _ (wakes test xs) refl (wakes_uncounted v q test xs)

-- a row with more letters that aren't counted
abbrev with_more : Out Node → List Outgoing → Out Node
with_more out more = record { state = out.state; sent = out.sent ++ more; acts = out.acts }

counts_more : (h v from : ℕ) (body : Body) (st : Node) (row : Out Node) (more : List Outgoing)
    → ((q : ℕ) → tally (counted v q) more ≡ 0) → RowCounts h v from body st row → RowCounts h v from body st (with_more row more)
counts_more h v from body st row more none counts = record {
  own = counts.own;
  asked = λ q low. omega (arith, counts.asked q low, tally-append (counted v q) row.sent more, none q);
  done = counts.done;
  asked_most = λ q. omega (arith, counts.asked_most q, tally-append (counted v q) row.sent more, none q);
  done_most = counts.done_most;
  few = λ q. omega (arith, counts.few q, tally-append (counted v q) row.sent more, none q);
}

-- The entries of a run.

-- a Wake isn't counted
pub goes_no_wake : (v p q : ℕ) → NoWakes (goes_between v p q)
goes_no_wake v p q l t k is = uncounted_goes v p q l (ap (version_is v) is)

-- what an entry does to the counted letters that have still to be done
pub flow : (s : ScriptData) (past : List Entry) (e : Entry) (v p q : ℕ) → MayFollow s past e
    → out s (e ∷ past) v p q + of_done (goes_between v p q) s past e
    ≡ out s past v p q + tally (sent_on e.actor.0 v p q) e.sent
flow s past e v p q m =
    omega (
      arith,
      outstanding_step (goes_between v p q) s past e (goes_no_wake v p q) m,
      sealed_tally (goes_between v p q) (sent_on e.actor.0 v p q) e.stamp.0 e.actor.0 0 e.sent (λ i o. refl),
    )

-- the row of a letter, as commuting trees see it
abbrev pub row_seen : ScriptData → List Entry → Entry → ℕ → Letter → Out Node
row_seen s past e p r =
    with_more (at_node (core_row s p (keeping_in s past p).core r.from.0 r.body))
    (wakes (woken_by (keeping_in s past p).core r.body) (kept_without (kept_in s past p) e.took.body))

pub seen_made : (s : ScriptData) (past : List Entry) (e : Entry) (p : ℕ) (r : Letter) → Does s past e p r
    → Made s past e p (row_seen s past e p r)
seen_made s past e p r d = record { state = ap (λ (c : Core). c.node) d.core; sent = d.sent; acts = d.acts }

-- a node does a letter
does_counts : (s : ScriptData) (past : List Entry) (e : Entry) (v p : ℕ) (r : Letter) → IsValid s → Does s past e p r
    → Counts s past e v
does_counts s past e v p r valid d =
    let c : Core = (keeping_in s past p).core in
    let row : Out Node = at_node (core_row s p c r.from.0 r.body) in
    let more : List Outgoing = wakes (woken_by c r.body) (kept_without (kept_in s past p) e.took.body) in
    by_node s past e r p v (row_seen s past e p r) (seen_made s past e p r d) d.brings.at
    (record { is = λ f. does_number f s past e p r d; to = d.brings.to ∙ sym d.brings.at })
    (counts_more p v r.from.0 r.body c.node row more
    (λ q. wakes_uncounted v q (woken_by c r.body) (kept_without (kept_in s past p) e.took.body))
    (core_counts s p v r.from.0 r.body c valid d.brings.below (apt_parts s p c r d.brings.apt).0))

raised_low : (b : Bool) (v : Version) (turns : Turns)
    → (if b then record turns { update = v } else turns).low.0 ≡ turns.low.0
raised_low true v turns = refl
raised_low false v turns = refl

-- a core that keeps a letter counts nothing, and leaves its low version
pub record LeavesCounts (c : Core) (k : CoreKeeping) : Type 0 where
  pub counts : k.state.node.counts ≡ c.node.counts
  pub low : k.state.node.turns.low.0 ≡ c.node.turns.low.0

leaves_counts : (c : Core) → OfKeepings c (LeavesCounts c)
leaves_counts c = record {
  parks = λ t k raises v m. record { counts = refl; low = raised_low raises v c.node.turns };
  waits = λ t. record { counts = refl; low = refl };
}

pub keeps_leaves : (s : ScriptData) (past : List Entry) (e : Entry) (p : ℕ) (r : Letter) (k : CoreKeeping) → Keeps s past e p r k
    → LeavesCounts (keeping_in s past p).core k
keeps_leaves s past e p r k d =
    let c : Core = (keeping_in s past p).core in of_kept s c (LeavesCounts c) r.body k (leaves_counts c) d.keeps

-- so where a node keeps a letter, every node counts what it did
kept_same : (s : ScriptData) (past : List Entry) (e : Entry) (p : ℕ) (r : Letter) (k : CoreKeeping) → Keeps s past e p r k
    → (q : ℕ) → (p ≡ q) ⊎ (p ≢ q) → (node_in s (e ∷ past) q).counts ≡ (node_in s past q).counts
kept_same s past e p r k d q (inl is) =
    subst (λ (n : ℕ). (node_in s (e ∷ past) n).counts ≡ (node_in s past n).counts) is
    (ap (λ (c : Core). c.node.counts) d.core ∙ (keeps_leaves s past e p r k d).counts)
kept_same s past e p r k d q (inr ne) =
    ap (λ (st : Node). st.counts) (node_kept s past e q (λ is. ne (sym d.brings.at ∙ is)))

keeps_counts : (s : ScriptData) (past : List Entry) (e : Entry) (v p : ℕ) (r : Letter) (k : CoreKeeping) → Keeps s past e p r k
    → Counts s past e v
keeps_counts s past e v p r k d =
    let same : (q : ℕ) → (node_in s (e ∷ past) q).counts ≡ (node_in s past q).counts = λ q.
    kept_same s past e p r k d q (cases_eq p q) in
    record {
      self = λ p q. 0;
      asked = λ p q lt low. rw (same p, d.sent) (omega arith);
      done = λ p q lt low. rw (same q) (omega (arith, keeps_number (goes_between v p q) s past e _ r k d));
      asked_most = λ p q lt. rw (same p, d.sent) (omega arith);
      done_most = λ p q lt. rw (same q) (omega (arith, keeps_number (goes_between v p q) s past e _ r k d));
      little = λ p q. omega arith;
      few = λ p q lt. rw d.sent (omega arith);
    }

counts_by : (s : ScriptData) (past : List Entry) (e : Entry) (v : ℕ) → IsValid s → e.took.to.0 ≡ e.actor.0 → Case s past e
    → Counts s past e v
counts_by s past e v valid to (NodeDoes p r d) = does_counts s past e v p r valid d
counts_by s past e v valid to (NodeKeeps p r k d) = keeps_counts s past e v p r k d
counts_by s past e v valid to (Coordinates at says) = aside s past e v to (omega arith)
counts_by s past e v valid to (Submits at says) = aside s past e v to (omega arith)

-- each entry of a run of apt letters
pub apt_counts : (s : ScriptData) (past : List Entry) (e : Entry) (v : ℕ) → IsValid s → AllApt s (e ∷ past)
    → IsStepRun s (e ∷ past) → Counts s past e v
apt_counts s past e v valid apt run = counts_by s past e v valid run.0.addressee (case s past e run.0 apt.0)

-- A low version never falls.
rises_at : (s : ScriptData) (past : List Entry) (e : Entry) (h : ℕ) (out : Out Node) → Made s past e h out
    → e.actor.0 ≡ h
    → (node_in s past h).turns.low.0 ≤ out.state.turns.low.0 → (q : ℕ) → (h ≡ q) ⊎ (h ≢ q)
    → (node_in s past q).turns.low.0 ≤ (node_in s (e ∷ past) q).turns.low.0
rises_at s past e h out made at le q (inl is) =
    let here : (node_in s past h).turns.low.0 ≤ (node_in s (e ∷ past) h).turns.low.0 =
    subst (λ (st : Node). (node_in s past h).turns.low.0 ≤ st.turns.low.0) (sym made.state) le in
    subst (λ (n : ℕ). (node_in s past n).turns.low.0 ≤ (node_in s (e ∷ past) n).turns.low.0) is here
rises_at s past e h out made at le q (inr ne) =
    let same = ap (λ (st : Node). st.turns.low.0) (node_kept s past e q (λ is. ne (sym at ∙ is))) in omega (arith, same)

rises_apart : (s : ScriptData) (past : List Entry) (e : Entry) (q : ℕ) → s.nodes ≤ e.actor.0 → q < s.nodes
    → (node_in s past q).turns.low.0 ≤ (node_in s (e ∷ past) q).turns.low.0
rises_apart s past e q outside lt =
    let same = ap (λ (st : Node). st.turns.low.0) (node_kept s past e q (omega arith)) in omega (arith, same)

part_low : (s : ScriptData) (p from : ℕ) (w : Version) (raises : Bool) (e : Effect) (body : Body) (st : Node)
    → (tree_part s p from w raises e body st).out.state.turns.low.0 ≡ st.turns.low.0
part_low s p from w raises e (Root t) st = refl
part_low s p from w raises e (SubLetter t k x) st = raised_low raises w st.turns
part_low s p from w raises e _ st = refl

part_rises : (s : ScriptData) (p from : ℕ) (w : Version) (raises : Bool) (e : Effect) (body : Body) (st : Node)
    → st.turns.low.0 ≤ (tree_part s p from w raises e body st).out.state.turns.low.0
part_rises s p from w raises e body st = omega (arith, part_low s p from w raises e body st)

-- a core's row leaves the low version at least as great
abbrev Rises : Core → Out Core → Type 0
Rises c out = c.node.turns.low.0 ≤ out.state.node.turns.low.0

kind_rises : (s : ScriptData) (p from : ℕ) (t : TreeNo) (body : Body) (kind : Option TreeKind) (c : Core)
    → Rises c (core_by_kind s p from t body kind c)
kind_rises s p from t body (Some Update) c =
    let w : Version = asked_version c.node.turns.update body in
    part_rises s p from w (nat_lt c.node.turns.update.0 w.0) (touching w (asked_ops s body) c.node.items) body c.node
kind_rises s p from t body (Some Read) c =
    let w : Version = asked_version c.node.turns.read body in
    part_rises s p from w false (getting w (asked_ops s body) c.node.items) body c.node
kind_rises s p from t body (Some Strict) c =
    let w : Version = asked_version c.node.turns.update body in
    let vote : Vote = vote_of c.locks c.node.items t w (asked_ops s body) in
    let e : Effect = voting vote c.node.items in
    let raises : Bool = nat_lt c.node.turns.update.0 w.0 in
    let o : TreeOut = tree_part s p from w raises e body c.node in
    let noted : Core = record c { locks = locks_by vote t (asked_ops s body) c.locks; refusals = noted_vote body vote c.refusals } in
    omega (
      arith,
      part_low s p from w raises e body c.node,
      ap (λ (turns : Turns). turns.low.0) (decided_turns s noted o o.answered),
    )
kind_rises s p from t body None c = omega arith

pick : (c : Core) (b : Bool) (x y : Out Core) → Rises c x → Rises c y → Rises c (if b then x else y)
pick c true x y l r = l
pick c false x y l r = r

note_rises : (s : ScriptData) (from : ℕ) (t : TreeNo) (k : SubNo) (w : Version) (notice : Notice) (c : Core)
    → Rises c (note_core s from t k w notice c)
note_rises s from t k w notice c =
    let o : TreeOut = note_part from t.0 k.0 w.0 (values_of notice) c.node in
    let noted : Core = record c { refusals = refused_there t k notice c } in
    pick c (is_strict_at s t.0) (decided s noted o o.answered) (answered s c o)
    (omega (arith, ap (λ (turns : Turns). turns.low.0) (decided_turns s noted o o.answered))) (omega arith)

sweep_rises : (s : ScriptData) (c : Core) (w : Version) → is_timely s c.node (Sweep w) ≡ true → c.node.turns.low.0 ≤ w.0
sweep_rises s c w timely =
    at_most c.node.turns.low.0 w.0 (nat_le w.0 c.node.turns.read.0 && nat_le w.0 c.node.turns.update.0) timely

row_rises : (s : ScriptData) (p from : ℕ) (body : Body) (c : Core) → is_core_timely s c body ≡ true
    → Rises c (core_row s p c from body)
row_rises s p from (Root t) c timely = kind_rises s p from t (Root t) (tree_kind_at s t.0) c
row_rises s p from (SubLetter t k w) c timely = kind_rises s p from t (SubLetter t k w) (tree_kind_at s t.0) c
row_rises s p from (Done t k w notice) c timely = note_rises s from t k w notice c
row_rises s p from (Decide t w commit) c timely = omega arith
row_rises s p from (Decided t w) c timely = omega arith
row_rises s p from (Release t) c timely = omega arith
row_rises s p from (Turn w) c timely = omega (arith, raised_low (nat_lt c.node.turns.update.0 w.0) w c.node.turns)
row_rises s p from (Show w) c timely = omega arith
row_rises s p from (Sweep w) c timely = sweep_rises s c w timely
row_rises s p from (AskDone w k) c timely = omega arith
row_rises s p from (AskAsked w k) c timely = omega arith
row_rises s p from (Order e what w) c timely =
    let ready : (asked : What) → Orders c (Order e what w) asked w → is_timely s c.node (plain_order asked w) ≡ true =
    λ asked to. order_timely s c (Order e what w) asked w to timely in
    order_each (Rises c) s e what w c (omega arith) (omega arith)
    (λ to. omega (arith, raised_low (nat_lt c.node.turns.update.0 w.0) w c.node.turns)) (λ to new. omega arith)
    (λ to new. sweep_rises s c w (ready whats.Sweep to))
row_rises s p from (Ask e) c timely = ask_each (Rises c) s e c (omega arith) (omega arith)
row_rises s p from _ c timely = omega arith

-- where a node keeps a letter its low version stays
abbrev kept_seen : CoreKeeping → Out Node
kept_seen k = record { state = k.state.node; sent = []; acts = k.acts }

rises_by : (s : ScriptData) (past : List Entry) (e : Entry) (q : ℕ) → q < s.nodes → Case s past e
    → (node_in s past q).turns.low.0 ≤ (node_in s (e ∷ past) q).turns.low.0
rises_by s past e q lt (NodeDoes p r d) =
    let c : Core = (keeping_in s past p).core in
    rises_at s past e p (row_seen s past e p r) (seen_made s past e p r d) d.brings.at
    (row_rises s p r.from.0 r.body c (apt_parts s p c r d.brings.apt).1) q (cases_eq p q)
rises_by s past e q lt (NodeKeeps p r k d) =
    rises_at s past e p (kept_seen k) (record { state = ap (λ (c : Core). c.node) d.core; sent = d.sent; acts = d.acts }) d.brings.at
    (omega (arith, (keeps_leaves s past e p r k d).low)) q (cases_eq p q)
rises_by s past e q lt (Coordinates at says) = rises_apart s past e q (omega arith) lt
rises_by s past e q lt (Submits at says) = rises_apart s past e q (omega arith) lt

pub apt_low_rises : (s : ScriptData) (past : List Entry) (e : Entry) (q : ℕ) → AllApt s (e ∷ past) → IsStepRun s (e ∷ past)
    → q < s.nodes → (node_in s past q).turns.low.0 ≤ (node_in s (e ∷ past) q).turns.low.0
apt_low_rises s past e q apt run lt = rises_by s past e q lt (case s past e run.0 apt.0)

-- In every such run: with one entry more the two sides grow alike.
pub apt_runs_balance : AptRunsBalance
apt_runs_balance s [] v p q valid apt run lp lq low_p low_q = omega (arith, outstanding_first (goes_between v p q) s)
apt_runs_balance s (e ∷ past) v p q valid apt run lp lq low_p low_q =
    let counts = apt_counts s past e v valid apt run in
    let rise_p = apt_low_rises s past e p apt run lp in
    let rise_q = apt_low_rises s past e q apt run lq in
    omega (
      arith,
      apt_runs_balance s past v p q valid apt.1 run.1 lp lq (omega (arith, rise_p, low_p)) (omega (arith, rise_q, low_q)),
      counts.asked p q lp low_p,
      counts.done p q lq low_q,
      flow s past e v p q run.0,
    )

-- so in the runs of a lawful script
pub balanced_at : (s : ScriptData) (past : List Entry) (v p q : ℕ) → IsTreeLawful s → IsStepRun s past → AllApt s past
    → p < s.nodes → q < s.nodes → (node_in s past p).turns.low.0 ≤ v → (node_in s past q).turns.low.0 ≤ v
    → (node_in s past p).counts.asked v q ≡ (node_in s past q).counts.done v p + out s past v p q
balanced_at s past v p q laws run apt lp lq low_p low_q = apt_runs_balance s past v p q laws.valid apt run lp lq low_p low_q

-- Counters are small, whatever letters came.
below_at : (s : ScriptData) (past : List Entry) (p m : ℕ) → p < s.nodes → CountsBelow m (actor_in s past p)
    → AllBelow m (node_in s past p).counts
below_at s past p m lt below = let node : nat_lt p s.nodes ≡ true = grind (arith, nat_tests) in rw node at below

pub counts_are_small : CountsAreSmall
counts_are_small s past p valid lt =
    let m = MOST_COUNTED * length past + 1 in
    below_at s past p m lt (small_counts s past p m valid (omega arith) (omega arith))
