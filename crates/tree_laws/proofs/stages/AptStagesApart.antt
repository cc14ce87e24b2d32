-- In runs of enabled messages: notices and the messages of decisions go to nodes. So the coordinator and the client
-- leave the stage of each transaction.
use Rattle.std.proofs.Common.{◌≡◌, ℕ, ◌<◌, ◌≤◌, ◌==◌, ◌&&◌, Bool, true, false, not, List, [], ◌∷◌, ◌++◌, length, refl, ap, ◌∙◌, arith, Option, Some, None}
use Rattle.std.specs.Prelude.{if◌then◌else◌, nat_lt, slice_get}
use Rattle.std.proofs.lemmas.Bool.Decides.{nat_tests}
use Rattle.tv_base.proofs.Truths.{left_true}
use Rattle.tv_base.specs.declared.numbers.SubNo.{SubNo}
use Rattle.tv_base.specs.declared.numbers.TreeNo.{TreeNo}
use Rattle.tv_base.specs.declared.numbers.Version.{Version}
use Rattle.tx_trees.proofs.SubsOf.{home_below}
use Rattle.letter_types.specs.Kept.{kept_without, wakes}
use Rattle.letter_types.specs.Steps.{Out, still}
use Rattle.letter_types.specs.declared.bodies.Body.{Body}
use Rattle.letter_types.specs.declared.bodies.Body.TheVariants.{Root, Sub as SubLetter, Done, Go, Decide, Decided, Release, Reply, Advance, Nudge, Advanced, Turn, Show, Sweep, AskDone, AskAsked, Ask, Order, Wanted, AdvanceNo, Lose}
use Rattle.letter_types.specs.declared.bodies.Notice.{Notice}
use Rattle.letter_types.specs.declared.entries.Entry.{Entry}
use Rattle.letter_types.specs.declared.entries.Letter.{Letter}
use Rattle.letter_types.specs.declared.entries.Outgoing.{Outgoing}
use Rattle.letter_types.specs.declared.votes.Vote.{Vote}
use Rattle.tree_home.specs.HeldAnswers.{answer_when_acked}
use Rattle.tree_home.specs.declared.homes.Answered.{Answered}
use Rattle.tx_trees.specs.ScriptData.{ScriptData, client_of, home_of, node_of, subs_at, visited_by, visits}
use Rattle.tx_trees.specs.Valid.{IsValid}
use Rattle.tx_trees.specs.declared.parts.TreeKind.{TreeKind}
use Rattle.tx_trees.specs.declared.parts.TreeKind.TheVariants.{Update, Read, Strict}
use Rattle.world_model.proofs.Epochs.{ask_each, order_each}
use Rattle.tx_trees.specs.Counts.{is_lossy}
use Rattle.world_model.proofs.Coordination.{IsCoordinated, OfCoordinator, coordinated_each}
use Rattle.letter_types.specs.declared.bodies.What.{What}
use Rattle.letter_types.specs.declared.bodies.What.TheVariants as whats
use Rattle.world_model.proofs.Sends.{CountsNoRow}
use Rattle.world_model.specs.AllApt.{AllApt}
use Rattle.world_model.specs.Asked.{asked_ops, asked_version, tree_part}
use Rattle.world_model.specs.Children.{done_letter, sub_letters}
use Rattle.world_model.specs.Client.{advances_sent, Client, client_row, nudge, submit, with_answer, with_end, wanted}
use Rattle.world_model.specs.Core.{Core}
use Rattle.world_model.specs.Counts.{Each, one_if, tally}
use Rattle.world_model.specs.Done.{TreeOut, note_part}
use Rattle.world_model.specs.Keeping.{KeepingNode, woken_by}
use Rattle.world_model.specs.Kept.{kept_in, outstanding}
use Rattle.world_model.specs.Named.{is_named, is_strict_at, tree_kind_at}
use Rattle.world_model.specs.Node.{Effect, Node}
use Rattle.world_model.specs.Notices.{reply_letters, values_of}
use Rattle.world_model.specs.Runs.{IsStepRun, MayFollow, client_in, keeping_in}
use Rattle.world_model.specs.Reads.{getting}
use Rattle.world_model.specs.Strict.{answered, core_by_kind, core_row, decided, locks_by, none_refuses, note_core, noted_vote, refused_there, release_letters, to_each, voting}
use Rattle.world_model.specs.Updates.{touching}
use Rattle.world_model.specs.Votes.{vote_of}
use Rattle.world_model.proofs.Bags.{one_if_most, sealed_tally, tally-append}
use Rattle.world_model.proofs.Cases.{Case, Coordinates, Does, NodeDoes, NodeKeeps, Submits, case, apt_named}
use Rattle.world_model.proofs.Every.{each_none}
use Rattle.world_model.proofs.Flows.{submit_none}
use Rattle.world_model.proofs.Outstanding.{done_apart, keeping_elsewhere, outstanding_first, outstanding_step, took_outstanding}
use Rattle.world_model.proofs.Scripts.{tree_below, strict_there}
use Rattle.world_model.proofs.Sends.{on, subs_none}
use Rattle.world_model.proofs.Visited.{visited_below}
use Rattle.tree_laws.specs.Dids.{asks, replies_to, tells_done}
use Rattle.tree_laws.specs.Stages.{decides}
use Rattle.tree_laws.proofs.stages.AptStages.{Leaves}
use Rattle.tree_laws.proofs.stages.AptStagesOwn.{sub_of_node}
use Rattle.tree_laws.proofs.stages.AptStagesSteps.{decides_no_asking, done_flow, notes_by, told, turned_by}
use Rattle.tree_laws.proofs.apt.AptSteps.{Enters, NoneStrays, outside, strayed, strays, wakes_none}
use Rattle.tree_laws.proofs.histories.Turns.{answers_none, releases_none, replies_none}

-- a notice, or a letter of a decision
abbrev pub is_report : Body → ℕ
is_report (Done t k v notice) = 1
is_report (Decide t v commit) = 1
is_report (Decided t v) = 1
is_report Go = 0
is_report _ = 0

-- one that goes to no node
abbrev pub misplaced : ScriptData → ℕ → Body → ℕ
misplaced s to (Done t k v notice) = one_if (not (nat_lt to s.nodes))
misplaced s to (Decide t v commit) = one_if (not (nat_lt to s.nodes))
misplaced s to (Decided t v) = one_if (not (nat_lt to s.nodes))
misplaced s to Go = 0
misplaced s to _ = 0

abbrev sent_off : ScriptData → Outgoing → ℕ
sent_off s o = misplaced s o.to.0 o.body

abbrev pub NoneMisplaced : ScriptData → List Entry → Type 0
NoneMisplaced s past = tally (λ (l : Letter). misplaced s l.to.0 l.body) (outstanding s past) ≡ 0

off_less : (s : ScriptData) (to : ℕ) (b : Body) → misplaced s to b ≤ is_report b
off_less s to (Done t k v notice) = one_if_most (not (nat_lt to s.nodes))
off_less s to (Decide t v commit) = one_if_most (not (nat_lt to s.nodes))
off_less s to (Decided t v) = one_if_most (not (nat_lt to s.nodes))
off_less s to Go = omega arith
off_less s to _ = omega arith

-- where no report is sent, none is misplaced
no_reports : (s : ScriptData) (os : List Outgoing) → tally (on is_report) os ≡ 0 → tally (sent_off s) os ≡ 0
no_reports s [] none = refl
no_reports s (o ∷ os) none = omega (arith, none, off_less s o.to.0 o.body, no_reports s os (omega (arith, none)))

inside : (s : ScriptData) (to : ℕ) → to < s.nodes → one_if (not (nat_lt to s.nodes)) ≡ 0
inside s to lt = grind (arith, nat_tests)

-- The parts of a row.
abbrev HasHome : ScriptData → Body → Type 0
HasHome s (SubLetter t k v) = home_of s t.0 < s.nodes
HasHome s (Decide t v commit) = home_of s t.0 < s.nodes
HasHome s Go = Unit {0}
HasHome s _ = Unit {0}

part_placed : (s : ScriptData) (p from : ℕ) (v : Version) (raises : Bool) (e : Effect) (body : Body) (st : Node) → HasHome s body
    → tally (sent_off s) (tree_part s p from v raises e body st).out.sent ≡ 0
part_placed s p from v raises e (Root t) st has =
    no_reports s (sub_letters t.0 v.0 0 0 (subs_at s t.0)) (subs_none is_report t.0 v.0 0 0 (subs_at s t.0) (λ u j w. refl))
part_placed s p from v raises e (SubLetter t k w) st has =
    omega (
      arith,
      tally-append (sent_off s) (sub_letters t.0 v.0 k.0 0 (subs_at s t.0)) (done_letter (home_of s t.0) t.0 k.0 v.0 e.notice ∷ []),
      no_reports s (sub_letters t.0 v.0 k.0 0 (subs_at s t.0)) (subs_none is_report t.0 v.0 k.0 0 (subs_at s t.0) (λ u j x. refl)),
      inside s (home_of s t.0) has,
    )
part_placed s p from v raises e _ st has = refl

answered_placed : (s : ScriptData) (c : Core) (o : TreeOut) → tally (sent_off s) o.out.sent ≡ 0 → tally (sent_off s) (answered s c o).sent ≡ 0
answered_placed s c o none =
    omega (
      arith,
      none,
      tally-append (sent_off s) (o.out.sent ++ release_letters s o.answered) (reply_letters (client_of s) o.answered),
      tally-append (sent_off s) o.out.sent (release_letters s o.answered),
      releases_none s (sent_off s) o.answered (λ q t. refl),
      replies_none (client_of s) (sent_off s) o.answered (λ q t v answer. refl),
    )

each_placed : (s : ScriptData) (t : TreeNo) (v : Version) (commit : Bool) (qs : List ℕ) → Each (λ (q : ℕ). q < s.nodes) qs
    → tally (sent_off s) (to_each (Decide t v commit) qs) ≡ 0
each_placed s t v commit [] all = refl
each_placed s t v commit (q ∷ qs) all = omega (arith, inside s q all.0, each_placed s t v commit qs all.1)

decided_placed : (s : ScriptData) (c : Core) (o : TreeOut) (found : Option Answered) → tally (sent_off s) o.out.sent ≡ 0
    → tally (sent_off s) (decided s c o found).sent ≡ 0
decided_placed s c o None none = none
decided_placed s c o (Some a) none =
    let commit : Bool = none_refuses a.tree c.refusals in
    omega (
      arith,
      none,
      tally-append (sent_off s) o.out.sent (to_each (Decide a.tree a.version commit) (visited_by s a.tree.0)),
      each_placed s a.tree a.version commit (visited_by s a.tree.0) (visited_below (subs_at s a.tree.0) s.nodes s.nodes (omega arith)),
    )

kind_placed : (s : ScriptData) (p from : ℕ) (t : TreeNo) (body : Body) (kind : Option TreeKind) (c : Core) → HasHome s body
    → tally (sent_off s) (core_by_kind s p from t body kind c).sent ≡ 0
kind_placed s p from t body (Some Update) c has =
    let w : Version = asked_version c.node.turns.update body in
    let e : Effect = touching w (asked_ops s body) c.node.items in
    let raises : Bool = nat_lt c.node.turns.update.0 w.0 in
    answered_placed s c (tree_part s p from w raises e body c.node) (part_placed s p from w raises e body c.node has)
kind_placed s p from t body (Some Read) c has =
    let w : Version = asked_version c.node.turns.read body in
    let e : Effect = getting w (asked_ops s body) c.node.items in
    answered_placed s c (tree_part s p from w false e body c.node) (part_placed s p from w false e body c.node has)
kind_placed s p from t body (Some Strict) c has =
    let w : Version = asked_version c.node.turns.update body in
    let vote : Vote = vote_of c.locks c.node.items t w (asked_ops s body) in
    let e : Effect = voting vote c.node.items in
    let raises : Bool = nat_lt c.node.turns.update.0 w.0 in
    let o : TreeOut = tree_part s p from w raises e body c.node in
    let noted : Core = record c { locks = locks_by vote t (asked_ops s body) c.locks; refusals = noted_vote body vote c.refusals } in
    decided_placed s noted o o.answered (part_placed s p from w raises e body c.node has)
kind_placed s p from t body None c has = refl

pick_placed : (s : ScriptData) (b : Bool) (x y : Out Core) → tally (sent_off s) x.sent ≡ 0 → tally (sent_off s) y.sent ≡ 0
    → tally (sent_off s) (if b then x else y).sent ≡ 0
pick_placed s true x y l r = l
pick_placed s false x y l r = r

note_placed : (s : ScriptData) (from : ℕ) (t : TreeNo) (k : SubNo) (v : Version) (notice : Notice) (c : Core)
    → tally (sent_off s) (note_core s from t k v notice c).sent ≡ 0
note_placed s from t k v notice c =
    let o : TreeOut = note_part from t.0 k.0 v.0 (values_of notice) c.node in
    let noted : Core = record c { refusals = refused_there t k notice c } in
    pick_placed s (is_strict_at s t.0) (decided s noted o o.answered) (answered s c o) (decided_placed s noted o o.answered refl)
    (answered_placed s c o refl)

core_placed : (s : ScriptData) (p from : ℕ) (body : Body) (c : Core) → HasHome s body → tally (sent_off s) (core_row s p c from body).sent ≡ 0
core_placed s p from (Root t) c has = kind_placed s p from t (Root t) (tree_kind_at s t.0) c tt
core_placed s p from (SubLetter t k v) c has = kind_placed s p from t (SubLetter t k v) (tree_kind_at s t.0) c has
core_placed s p from (Done t k v notice) c has = note_placed s from t k v notice c
core_placed s p from (Decide t v commit) c has = omega (arith, inside s (home_of s t.0) has)
core_placed s p from (Decided t v) c has = answers_none s c.refusals (sent_off s) (answer_when_acked t c.holds) (λ q u w answer. refl)
core_placed s p from (Release t) c has = refl
core_placed s p from (Turn v) c has = refl
core_placed s p from (Show v) c has = refl
core_placed s p from (Sweep v) c has = refl
core_placed s p from (AskDone v k) c has = refl
core_placed s p from (AskAsked v k) c has = refl
core_placed s p from (Order e what v) c has =
    order_each (λ (o : Out Core). tally (sent_off s) o.sent ≡ 0) s e what v c refl refl (λ is. refl) (λ is new. refl) (λ is new. refl)
core_placed s p from (Ask e) c has = ask_each (λ (o : Out Core). tally (sent_off s) o.sent ≡ 0) s e c refl refl
core_placed s p from Go c has = refl
core_placed s p from _ c has = refl

-- the home of an apt letter's tree is a node
has_home : (s : ScriptData) (p from : ℕ) (body : Body) → IsValid s → p < s.nodes → is_named s p from body ≡ true → HasHome s body
has_home s p from (SubLetter t k v) valid lt named =
    let test = left_true (node_of s t.0 k.0 == p) (nat_lt from s.nodes) named in
    let here : node_of s t.0 k.0 ≡ p = grind (arith, nat_tests) in
    home_below s t.0 valid (tree_below s t.0 k.0 (sub_of_node s p t.0 k.0 here lt))
has_home s p from (Decide t v commit) valid lt named =
    home_below s t.0 valid
    (strict_there s t.0 (slice_get s.trees t.0) refl
    (left_true (is_strict_at s t.0) (visits (subs_at s t.0) p && nat_lt from s.nodes) named))
has_home s p from Go valid lt named = tt
has_home s p from _ valid lt named = tt

-- What the coordinator and the client send, of a number that counts none of it.
pub record CountsNoOthers (f : Body → ℕ) : Type 0 where
  pub rows : CountsNoRow f
  pub nudge : f Nudge ≡ 0
  pub wanted : (e k : ℕ) → f (Wanted e k) ≡ 0
  pub orders : OfCoordinator (λ (b : Body). f b ≡ 0)

hears_none : (f : Body → ℕ) (s : ScriptData) (c : Client) (t : ℕ) (test : Bool) → CountsNoOthers f
    → tally (on f) (if test then submit s (with_answer t c) (nudge s ∷ []) else still c).sent ≡ 0
hears_none f s c t true none = submit_none f s (with_answer t c) (nudge s ∷ []) (omega (arith, none.nudge)) none.rows
hears_none f s c t false none = refl

asked_none : (f : Body → ℕ) (s : ScriptData) (c : Client) (e : ℕ) (test : Bool) → CountsNoOthers f
    → tally (on f) (if test then wanted s e c else still c).sent ≡ 0
asked_none f s c e true none = omega (arith, none.wanted e (advances_sent s c))
asked_none f s c e false none = refl

pub client_none : (f : Body → ℕ) (s : ScriptData) (c : Client) (body : Body) → CountsNoOthers f → tally (on f) (client_row s c body).sent ≡ 0
client_none f s c Go none = submit_none f s c [] refl none.rows
client_none f s c (Reply t v answer) none = hears_none f s c t.0 (nat_lt t.0 (length s.trees)) none
client_none f s c (Advanced v) none = submit_none f s (with_end s v c) [] refl none.rows
client_none f s c (Ask e) none = asked_none f s c e (is_lossy s) none
client_none f s c _ none = refl

pub coordinator_none : (f : Body → ℕ) (s : ScriptData) (e : Entry) → IsCoordinated s e → CountsNoOthers f → tally (on f) e.sent ≡ 0
coordinator_none f s e made none = each_none (on f) e.sent (coordinated_each (λ (b : Body). f b ≡ 0) s e none.orders made)

-- none of it is counted where each letter of it isn't
pub none_of_others : (f : Body → ℕ) → ((t : TreeNo) → f (Root t) ≡ 0) → ((v : Version) → (f (Turn v) ≡ 0) × ((f (Show v) ≡ 0) × (f (Sweep v) ≡ 0)))
    → ((e : ℕ) (what : What) (v : Version) → (f (Order e what v) ≡ 0) × (f (Ask e) ≡ 0))
    → ((v : Version) (k : ℕ) → (f (AskDone v k) ≡ 0) × (f (AskAsked v k) ≡ 0)) → ((v : Version) → f (Advanced v) ≡ 0)
    → (f Nudge ≡ 0) × ((f Advance ≡ 0) × (f Lose ≡ 0)) → ((e k : ℕ) → (f (Wanted e k) ≡ 0) × (f (AdvanceNo k) ≡ 0)) → CountsNoOthers f
none_of_others f root tells orders asks_of ends single pairs = record {
  rows = record { root = root; advance = single.1.0; numbered = λ i. (pairs 0 i).1; lose = single.1.1 };
  nudge = single.0;
  wanted = λ e k. (pairs e k).0;
  orders = record {
    turn = λ v. (tells v).0;
    show = λ v. (tells v).1.0;
    sweep = λ v. (tells v).1.1;
    order = λ e what v. (orders e what v).0;
    ask = λ e. (orders e whats.Turn (record { 0 = 0 })).1;
    ask_done = λ v k. (asks_of v k).0;
    ask_asked = λ v k. (asks_of v k).1;
    advanced = λ v. ends v;
  };
}

reports_no_others : CountsNoOthers is_report
reports_no_others =
    none_of_others is_report (λ t. refl) (λ v. (refl, (refl, refl))) (λ e what v. (refl, refl)) (λ v k. (refl, refl)) (λ v. refl)
    (refl, (refl, refl)) (λ e k. (refl, refl))

replies_no_others : (w : ℕ) → CountsNoOthers (replies_to w)
replies_no_others w =
    none_of_others (replies_to w) (λ t. refl) (λ v. (refl, (refl, refl))) (λ e what v. (refl, refl)) (λ v k. (refl, refl)) (λ v. refl)
    (refl, (refl, refl)) (λ e k. (refl, refl))

decides_no_others : (w : ℕ) → CountsNoOthers (decides w)
decides_no_others w =
    none_of_others (decides w) (λ t. refl) (λ v. (refl, (refl, refl))) (λ e what v. (refl, refl)) (λ v k. (refl, refl)) (λ v. refl)
    (refl, (refl, refl)) (λ e k. (refl, refl))

-- So none is misplaced.
off_next : (s : ScriptData) (past : List Entry) (e : Entry) → MayFollow s past e → NoneMisplaced s past → tally (sent_off s) e.sent ≡ 0
    → NoneMisplaced s (e ∷ past)
off_next s past e m none sent =
    omega (
      arith,
      none,
      sent,
      outstanding_step (λ (l : Letter). misplaced s l.to.0 l.body) s past e (λ l t k is. ap (misplaced s l.to.0) is) m,
      sealed_tally (λ (l : Letter). misplaced s l.to.0 l.body) (sent_off s) e.stamp.0 e.actor.0 0 e.sent (λ i o. refl),
    )

does_sends : (s : ScriptData) (past : List Entry) (e : Entry) (p : ℕ) (r : Letter) → IsValid s → Does s past e p r → tally (sent_off s) e.sent ≡ 0
does_sends s past e p r valid d =
    let c : Core = (keeping_in s past p).core in
    let row : Out Core = core_row s p c r.from.0 r.body in
    let more : List Outgoing = wakes (woken_by (keeping_in s past p).core r.body) (kept_without (kept_in s past p) e.took.body) in
    omega (
      arith,
      ap (λ (os : List Outgoing). tally (sent_off s) os) d.sent,
      tally-append (sent_off s) row.sent more,
      wakes_none (sent_off s) (woken_by (keeping_in s past p).core r.body) (kept_without (kept_in s past p) e.took.body) (λ x. refl),
      core_placed s p r.from.0 r.body c (has_home s p r.from.0 r.body valid d.brings.below (apt_named s p c r d.brings.apt)),
    )

off_by : (s : ScriptData) (past : List Entry) (e : Entry) → IsValid s → Case s past e → tally (sent_off s) e.sent ≡ 0
off_by s past e valid (NodeDoes p r d) = does_sends s past e p r valid d
off_by s past e valid (NodeKeeps p r k d) = ap (λ (os : List Outgoing). tally (sent_off s) os) d.sent
off_by s past e valid (Coordinates at made) = no_reports s e.sent (coordinator_none is_report s e made reports_no_others)
off_by s past e valid (Submits at says) =
    no_reports s e.sent (ap (λ (os : List Outgoing). tally (on is_report) os) says.0 ∙ client_none is_report s (client_in s past) e.took.body reports_no_others)

pub none_misplaced : (s : ScriptData) (past : List Entry) → IsValid s → AllApt s past → IsStepRun s past → NoneMisplaced s past
none_misplaced s [] valid apt run = omega (arith, outstanding_first (λ (l : Letter). misplaced s l.to.0 l.body) s)
none_misplaced s (e ∷ past) valid apt run =
    off_next s past e run.0 (none_misplaced s past valid apt.1 run.1) (off_by s past e valid (case s past e run.0 apt.0))

-- Another actor takes no letter of a tree.
pub record TakesNone (w : ℕ) (body : Body) : Type 0 where
  pub asks : (k : ℕ) → asks w k body ≡ 0
  pub tells : (k : ℕ) → tells_done w k body ≡ 0
  pub told : (k : ℕ) → told w k body ≡ 0
  pub decides : decides w body ≡ 0

takes_none : (s : ScriptData) (w to : ℕ) (body : Body) → s.nodes ≤ to → strays s to body ≡ 0 → misplaced s to body ≡ 0 → TakesNone w body
takes_none s w to (Root t) le near placed = absurd (omega (arith, near, outside s to le))
takes_none s w to (SubLetter t k v) le near placed = absurd (omega (arith, near, outside s to le))
takes_none s w to (Done t k v notice) le near placed = absurd (omega (arith, placed, outside s to le))
takes_none s w to (Decide t v commit) le near placed = absurd (omega (arith, placed, outside s to le))
takes_none s w to (Decided t v) le near placed = absurd (omega (arith, placed, outside s to le))
takes_none s w to Go le near placed = record { asks = λ k. refl; tells = λ k. refl; told = λ k. refl; decides = refl }
takes_none s w to _ le near placed = record { asks = λ k. refl; tells = λ k. refl; told = λ k. refl; decides = refl }

pub apart_leaves : (s : ScriptData) (past : List Entry) (e : Entry) (w : ℕ) → MayFollow s past e → Enters s past e → NoneStrays s past
    → NoneMisplaced s past → home_of s w < s.nodes → s.nodes ≤ e.actor.0
    → ((f : Body → ℕ) → CountsNoOthers f → tally (on f) e.sent ≡ 0) → Leaves s past e w
apart_leaves s past e w m n near placed home out sent =
    let off : Letter → ℕ = λ l. misplaced s l.to.0 l.body in
    let none : TakesNone w e.took.body =
    takes_none s w e.took.to.0 e.took.body (omega (arith, out, m.addressee)) (omega (arith, near, took_outstanding s past e m (strayed s)))
    (omega (arith, placed, took_outstanding s past e m off)) in
    let same = keeping_elsewhere s past e (home_of s w) (λ eq. omega (arith, eq, home, out)) in
    record {
      turned = λ k. omega (arith, turned_by s past e w k n, done_apart (λ (l : Letter). asks w k l.body) s past e out, none.asks k);
      home = ap (λ (x : KeepingNode). x.core.node.homes w) same;
      held = ap (λ (x : KeepingNode). x.core.holds w) same;
      answers = sent (replies_to w) (replies_no_others w);
      notes = λ k. omega (
        arith,
        notes_by s past e w k m n,
        done_apart (λ (l : Letter). tells_done w k l.body) s past e out,
        done_apart (λ (l : Letter). told w k l.body) s past e out,
        none.tells k,
        none.told k,
      );
      decisions = omega (
        arith,
        done_flow (decides w) s past e (decides_no_asking w) m,
        done_apart (λ (l : Letter). decides w l.body) s past e out,
        none.decides,
        sent (decides w) (decides_no_others w),
      );
    }
