-- What the laws of phases need of transactions, in runs of enabled messages of every script: nudges are at most as many
-- as transactions, an answer has the version of the last notice, and nothing is at a home of a transaction whose root
-- has still to be done.
use Rattle.std.proofs.Common.{◌≡◌, ◌≢◌, ◌⊎◌, inl, inr, ℕ, ◌+◌, ◌<◌, ◌≤◌, ◌==◌, Bool, true, false, List, [], ◌∷◌, ◌++◌, length, get_or, set, refl, sym, ap, ◌∙◌, arith, replicate, zero, suc, Option, Some, None}
use Rattle.std.specs.Prelude.{if◌then◌else◌, nat_lt}
use Rattle.std.proofs.lemmas.Bool.{cases_eq}
use Rattle.std.proofs.lemmas.Bool.Decides.{nat_tests}
use Rattle.std.proofs.lemmas.List.{get_or-set_other}
use Rattle.tv_base.specs.declared.numbers.SubNo.{SubNo}
use Rattle.tv_base.specs.declared.numbers.TreeNo.{TreeNo}
use Rattle.tv_base.specs.declared.numbers.Version.{Version}
use Rattle.tx_trees.proofs.SubsOf.{home_below}
use Rattle.letter_types.specs.Steps.{Out, still}
use Rattle.letter_types.specs.declared.bodies.Answer.{Answer}
use Rattle.letter_types.specs.declared.bodies.Body.{Body}
use Rattle.letter_types.specs.declared.bodies.Body.TheVariants.{Root, Sub as SubLetter, Done, Go, Decide, Decided, Release, Reply, Advanced, Turn, Show, Sweep, AskDone, AskAsked, Ask, Order}
use Rattle.letter_types.specs.declared.bodies.Notice.{Notice}
use Rattle.letter_types.specs.declared.entries.Entry.{Entry}
use Rattle.letter_types.specs.declared.entries.Letter.{Letter}
use Rattle.letter_types.specs.declared.entries.Outgoing.{Outgoing}
use Rattle.letter_types.specs.declared.votes.Vote.{Vote}
use Rattle.tree_home.specs.HeldAnswers.{answer_when_acked}
use Rattle.tree_home.specs.Homes.{OpenTrees, misses}
use Rattle.tree_home.specs.declared.homes.Answered.{Answered as AnsweredTree}
use Rattle.tx_trees.specs.ScriptData.{ScriptData, client_of, home_of, subs_at, visited_by}
use Rattle.tx_trees.specs.Valid.{IsValid}
use Rattle.tx_trees.specs.declared.parts.TreeKind.{TreeKind}
use Rattle.tx_trees.specs.declared.parts.TreeKind.TheVariants.{Update, Read, Strict}
use Rattle.board_rules.specs.Histories.{Place, version_in}
use Rattle.world_model.specs.AllApt.{AllApt}
use Rattle.world_model.specs.Asked.{asked_ops, asked_version, tree_part}
use Rattle.world_model.specs.Children.{done_letter, sub_letters}
use Rattle.world_model.specs.Client.{Client, client_row, nudge, submit, with_answer, with_end}
use Rattle.world_model.specs.Core.{Core}
use Rattle.world_model.specs.Counts.{one_if, tally}
use Rattle.world_model.specs.Done.{TreeOut, note_part}
use Rattle.world_model.specs.Named.{is_strict_at, tree_kind_at}
use Rattle.world_model.specs.Node.{Effect, Node}
use Rattle.world_model.specs.Notices.{answer_noted, reply_letters, values_of}
use Rattle.world_model.specs.Reads.{getting}
use Rattle.world_model.specs.Runs.{IsStepRun, MayFollow, Says, client_in, in_flight, keeping_in, node_in}
use Rattle.world_model.specs.Strict.{answered, core_by_kind, core_row, decided, locks_by, none_refuses, note_core, noted_vote, refused_there, release_letters, to_each, voting}
use Rattle.world_model.specs.Tables.{client_table}
use Rattle.world_model.specs.Updates.{touching}
use Rattle.world_model.specs.Votes.{vote_of}
use Rattle.world_model.proofs.Bags.{one_if_most, one_if_same, tally-append, tally-drop}
use Rattle.world_model.proofs.Cases.{Case, Coordinates, NodeDoes, NodeKeeps, Submits, case}
use Rattle.world_model.proofs.Every.{each_none}
use Rattle.world_model.proofs.Flows.{client_kept, flow, submit_none}
use Rattle.world_model.proofs.Lawful.{is_nudge, nudged}
use Rattle.world_model.proofs.Outstanding.{IsOutstanding}
use Rattle.world_model.proofs.Scripts.{SubAt, get_below, sub_here}
use Rattle.world_model.proofs.Clients.{answered_places}
use Rattle.world_model.proofs.Sends.{on, subs_none, asked_each}
use Rattle.tree_laws.specs.Dids.{answers, letters_asking, replies, replies_to}
use Rattle.tree_laws.specs.Stages.{StageAt, Answered, Gathers, Holds, Unborn, held_at, home_at}
use Rattle.tree_laws.proofs.decided.AptDecisions.{EachOpen, noted_answer, open_trees_carry_versions}
use Rattle.tree_laws.proofs.stages.AptStagesOwn.{sub_of_node, unborn_by}
use Rattle.tree_laws.proofs.stages.AptStagesRun.{stages_of_trees}
use Rattle.tree_laws.proofs.stages.AptStagesSteps.{sent_by}
use Rattle.tree_laws.proofs.apt.AptSteps.{client_moves}
use Rattle.tree_laws.proofs.apt.AptTurns.{no_turn_yet}
use Rattle.tree_laws.proofs.apt.AptVersions.{before, dated_run, is_right, is_version, misdated, version_is}
use Rattle.tree_laws.proofs.kept.Nudges.{nudge_sent, orders_none, rows_no_nudges, unheard, unheard_first, unheard_less}
use Rattle.tree_laws.proofs.histories.Turns.{answers_none, each_told, releases_none, replies_none}
use Rattle.world_model.proofs.Epochs.{ask_each, order_each}
use Rattle.world_model.proofs.Coordination.{coordinated_each}
use Rattle.world_model.proofs.Notices.{answer_noted_tree}

-- The row of a core sends no nudge.
part_quiet : (s : ScriptData) (p from : ℕ) (v : Version) (raises : Bool) (e : Effect) (body : Body) (st : Node)
    → tally (on is_nudge) (tree_part s p from v raises e body st).out.sent ≡ 0
part_quiet s p from v raises e (Root t) st = subs_none is_nudge t.0 v.0 0 0 (subs_at s t.0) (λ u j w. refl)
part_quiet s p from v raises e (SubLetter t k w) st =
    omega (
      arith,
      tally-append (on is_nudge) (sub_letters t.0 v.0 k.0 0 (subs_at s t.0)) (done_letter (home_of s t.0) t.0 k.0 v.0 e.notice ∷ []),
      subs_none is_nudge t.0 v.0 k.0 0 (subs_at s t.0) (λ u j x. refl),
    )
part_quiet s p from v raises e _ st = refl

answered_quiet : (s : ScriptData) (c : Core) (o : TreeOut) → tally (on is_nudge) o.out.sent ≡ 0 → tally (on is_nudge) (answered s c o).sent ≡ 0
answered_quiet s c o none =
    omega (
      arith,
      none,
      tally-append (on is_nudge) (o.out.sent ++ release_letters s o.answered) (reply_letters (client_of s) o.answered),
      tally-append (on is_nudge) o.out.sent (release_letters s o.answered),
      releases_none s (on is_nudge) o.answered (λ q t. refl),
      replies_none (client_of s) (on is_nudge) o.answered (λ q t v answer. refl),
    )

decided_quiet : (s : ScriptData) (c : Core) (o : TreeOut) (found : Option AnsweredTree) → tally (on is_nudge) o.out.sent ≡ 0
    → tally (on is_nudge) (decided s c o found).sent ≡ 0
decided_quiet s c o None none = none
decided_quiet s c o (Some a) none =
    let told : Body = Decide a.tree a.version (none_refuses a.tree c.refusals) in
    omega (
      arith,
      none,
      tally-append (on is_nudge) o.out.sent (to_each told (visited_by s a.tree.0)),
      each_told (on is_nudge) told (visited_by s a.tree.0) (λ q. refl),
    )

kind_quiet : (s : ScriptData) (p from : ℕ) (t : TreeNo) (body : Body) (kind : Option TreeKind) (c : Core)
    → tally (on is_nudge) (core_by_kind s p from t body kind c).sent ≡ 0
kind_quiet s p from t body (Some Update) c =
    let v : Version = asked_version c.node.turns.update body in
    let e : Effect = touching v (asked_ops s body) c.node.items in
    let raises : Bool = nat_lt c.node.turns.update.0 v.0 in
    answered_quiet s c (tree_part s p from v raises e body c.node) (part_quiet s p from v raises e body c.node)
kind_quiet s p from t body (Some Read) c =
    let v : Version = asked_version c.node.turns.read body in
    let e : Effect = getting v (asked_ops s body) c.node.items in
    answered_quiet s c (tree_part s p from v false e body c.node) (part_quiet s p from v false e body c.node)
kind_quiet s p from t body (Some Strict) c =
    let v : Version = asked_version c.node.turns.update body in
    let vote : Vote = vote_of c.locks c.node.items t v (asked_ops s body) in
    let e : Effect = voting vote c.node.items in
    let raises : Bool = nat_lt c.node.turns.update.0 v.0 in
    let o : TreeOut = tree_part s p from v raises e body c.node in
    let noted : Core = record c { locks = locks_by vote t (asked_ops s body) c.locks; refusals = noted_vote body vote c.refusals } in
    decided_quiet s noted o o.answered (part_quiet s p from v raises e body c.node)
kind_quiet s p from t body None c = refl

pick_quiet : (b : Bool) (x y : Out Core) → tally (on is_nudge) x.sent ≡ 0 → tally (on is_nudge) y.sent ≡ 0
    → tally (on is_nudge) (if b then x else y).sent ≡ 0
pick_quiet true x y l r = l
pick_quiet false x y l r = r

note_quiet : (s : ScriptData) (from : ℕ) (t : TreeNo) (k : SubNo) (v : Version) (notice : Notice) (c : Core)
    → tally (on is_nudge) (note_core s from t k v notice c).sent ≡ 0
note_quiet s from t k v notice c =
    let o : TreeOut = note_part from t.0 k.0 v.0 (values_of notice) c.node in
    let noted : Core = record c { refusals = refused_there t k notice c } in
    pick_quiet (is_strict_at s t.0) (decided s noted o o.answered) (answered s c o) (decided_quiet s noted o o.answered refl)
    (answered_quiet s c o refl)

core_quiet : (s : ScriptData) (p from : ℕ) (body : Body) (c : Core) → tally (on is_nudge) (core_row s p c from body).sent ≡ 0
core_quiet s p from (Root t) c = kind_quiet s p from t (Root t) (tree_kind_at s t.0) c
core_quiet s p from (SubLetter t k v) c = kind_quiet s p from t (SubLetter t k v) (tree_kind_at s t.0) c
core_quiet s p from (Done t k v notice) c = note_quiet s from t k v notice c
core_quiet s p from (Decide t v commit) c = refl
core_quiet s p from (Decided t v) c = answers_none s c.refusals (on is_nudge) (answer_when_acked t c.holds) (λ q u w answer. refl)
core_quiet s p from (Release t) c = refl
core_quiet s p from (Turn v) c = refl
core_quiet s p from (Show v) c = refl
core_quiet s p from (Sweep v) c = refl
core_quiet s p from (AskDone v k) c = refl
core_quiet s p from (AskAsked v k) c = refl
core_quiet s p from (Order e what v) c =
    order_each (λ (o : Out Core). tally (on is_nudge) o.sent ≡ 0) s e what v c refl refl (λ to. refl) (λ to new. refl) (λ to new. refl)
core_quiet s p from (Ask e) c = ask_each (λ (o : Out Core). tally (on is_nudge) o.sent ≡ 0) s e c refl refl
core_quiet s p from Go c = refl
core_quiet s p from _ c = refl

-- An answer that the client has heard was sent, and isn't in flight any more.
heard_more : (bs : List Bool) (u t : ℕ) → (u ≡ t) ⊎ (u ≢ t)
    → one_if (get_or (set bs u true) t false) ≤ one_if (u == t) + one_if (get_or bs t false)
heard_more bs u t (inl is) =
    let one : one_if (u == t) ≡ 1 = grind (arith, nat_tests) in
    omega (arith, one, one_if_most (get_or (set bs u true) t false))
heard_more bs u t (inr ne) =
    omega (arith, ap one_if (get_or-set_other bs u t true false (λ is. ne (sym is))))

hears_more : (s : ScriptData) (c : Client) (u : TreeNo) (t : ℕ) (test : Bool)
    → one_if (get_or (if test then submit s (with_answer u.0 c) (nudge s ∷ []) else still c).state.answered t false)
    ≤ one_if (u.0 == t) + one_if (get_or c.answered t false)
hears_more s c u t true = heard_more c.answered u.0 t (cases_eq u.0 t)
hears_more s c u t false = omega arith

row_hears : (s : ScriptData) (c : Client) (body : Body) (t : ℕ)
    → one_if (get_or (client_row s c body).state.answered t false) ≤ replies_to t body + one_if (get_or c.answered t false)
row_hears s c Go t = omega arith
row_hears s c (Reply u v answer) t = hears_more s c u t (nat_lt u.0 (length s.trees))
row_hears s c (Advanced v) t = omega arith
row_hears s c (Ask e) t =
    asked_each (λ (o : Out Client). one_if (get_or o.state.answered t false) ≤ replies_to t (Ask e) + one_if (get_or c.answered t false)) s c e
    (omega arith) (λ is. omega arith)
row_hears s c _ t = omega arith

abbrev hears : ScriptData → List Entry → ℕ → ℕ
hears s past t = one_if (get_or (client_in s past).answered t false)

moves_heard : (s : ScriptData) (past : List Entry) (e : Entry) (t : ℕ) → (e.actor.0 ≡ client_of s) ⊎ (e.actor.0 ≢ client_of s)
    → hears s (e ∷ past) t ≤ replies_to t e.took.body + hears s past t
moves_heard s past e t (inl at) =
    let moved = ap (λ (c : Client). one_if (get_or c.answered t false)) (client_moves s past e at) in
    omega (arith, moved, row_hears s (client_in s past) e.took.body t)
moves_heard s past e t (inr ne) =
    let same = ap (λ (c : Client). one_if (get_or c.answered t false)) (client_kept s past e ne) in
    omega (arith, same)

pub heard_were_sent : (s : ScriptData) (past : List Entry) (t : ℕ) → IsStepRun s past → replies s past t + hears s past t ≤ answers past t
heard_were_sent s [] t run = omega (arith, ap one_if (none_heard (length s.trees) t)) where
  none_heard : (n k : ℕ) → get_or (replicate n false) k false ≡ false
  none_heard zero k = refl
  none_heard (suc n) zero = refl
  none_heard (suc n) (suc k) = none_heard n k
heard_were_sent s (e ∷ past) t run =
    omega (
      arith,
      heard_were_sent s past t run.1,
      flow (replies_to t) s past e run.0,
      moves_heard s past e t (cases_eq e.actor.0 (client_of s)),
    )

-- a tree is answered once
pub answers_once : (s : ScriptData) (past : List Entry) (t : ℕ) → StageAt s past t → answers past t ≤ 1
answers_once s past t (Unborn u) = omega (arith, u.answers)
answers_once s past t (Gathers h g) = omega (arith, g.answers)
answers_once s past t (Holds h g) = omega (arith, g.answers)
answers_once s past t (Answered a) = omega (arith, a.answers)

not_yet : (b : Bool) (sent flying : ℕ) → sent ≤ 1 → 1 ≤ flying → flying + one_if b ≤ sent → b ≡ false
not_yet true sent flying most some le = absurd (omega (arith, most, some, le))
not_yet false sent flying most some le = refl

-- so the answer that the client takes is one that it hasn't heard
first_heard : (s : ScriptData) (past : List Entry) (e : Entry) (t : TreeNo) (v : Version) (answer : Answer) → IsValid s → AllApt s past
    → IsStepRun s (e ∷ past) → e.took.body ≡ Reply t v answer → t.0 < length s.trees → get_or (client_in s past).answered t.0 false ≡ false
first_heard s past e t v answer valid apt run is lt =
    let took : replies_to t.0 e.took.body ≡ 1 = ap (replies_to t.0) is ∙ one_if_same t.0 in
    not_yet (get_or (client_in s past).answered t.0 false) (answers past t.0) (replies s past t.0)
    (answers_once s past t.0 (stages_of_trees s past valid apt run.1 t.0 lt))
    (omega (arith, took, tally-drop (λ (l : Letter). replies_to t.0 l.body) e.took.id (in_flight s past) e.took run.0.waits))
    (heard_were_sent s past t.0 run.1)

-- A nudge is sent for each tree of which the client hears first.
abbrev Nudges : ScriptData → Client → Out Client → Type 0
Nudges s c out = tally (on is_nudge) out.sent + unheard out.state.answered ≡ unheard c.answered

hears_nudges : (s : ScriptData) (c : Client) (t : TreeNo) (test : Bool) → nat_lt t.0 (length s.trees) ≡ test → length c.answered ≡ length s.trees
    → (t.0 < length s.trees → get_or c.answered t.0 false ≡ false)
    → Nudges s c (if test then submit s (with_answer t.0 c) (nudge s ∷ []) else still c)
hears_nudges s c t true is places new =
    let lt : t.0 < length s.trees = grind (arith, nat_tests) in
    let fewer = unheard_less c.answered t.0 (omega (arith, lt, places)) (new lt) in
    omega (arith, nudge_sent s (with_answer t.0 c), fewer)
hears_nudges s c t false is places new = omega arith

row_nudges : (s : ScriptData) (c : Client) (body : Body) → length c.answered ≡ length s.trees
    → ((t : TreeNo) (v : Version) (answer : Answer) → body ≡ Reply t v answer → t.0 < length s.trees → get_or c.answered t.0 false ≡ false)
    → Nudges s c (client_row s c body)
row_nudges s c Go places new = omega (arith, submit_none is_nudge s c [] refl rows_no_nudges)
row_nudges s c (Reply t v answer) places new = hears_nudges s c t (nat_lt t.0 (length s.trees)) refl places (λ lt. new t v answer refl lt)
row_nudges s c (Advanced v) places new = omega (arith, submit_none is_nudge s (with_end s v c) [] refl rows_no_nudges)
row_nudges s c (Ask e) places new = asked_each (Nudges s c) s c e (omega arith) (λ is. omega arith)
row_nudges s c _ places new = omega arith

-- nudges in flight, nudges taken and trees of which the client hasn't heard are as many as trees
abbrev Evened : ScriptData → List Entry → Type 0
Evened s past =
    tally (λ (l : Letter). is_nudge l.body) (in_flight s past) + nudged past + unheard (client_in s past).answered ≡ length s.trees

-- another actor sends none
aside_even : (s : ScriptData) (past : List Entry) (e : Entry) → MayFollow s past e → Evened s past → e.actor.0 ≢ client_of s
    → tally (on is_nudge) e.sent ≡ 0 → Evened s (e ∷ past)
aside_even s past e m even ne none =
    let same = ap (λ (c : Client). unheard c.answered) (client_kept s past e ne) in
    omega (arith, even, same, none, flow is_nudge s past e m)

client_even : (s : ScriptData) (past : List Entry) (e : Entry) → IsValid s → AllApt s past → IsStepRun s (e ∷ past) → Evened s past
    → e.actor.0 ≡ client_of s → Says (client_table s (client_in s past) e.took) e → Evened s (e ∷ past)
client_even s past e valid apt run even at says =
    let c : Client = client_in s past in
    let moved = ap (λ (d : Client). unheard d.answered) (client_moves s past e at) in
    let sent = ap (λ (os : List Outgoing). tally (on is_nudge) os) says.0 in
    let row : Nudges s c (client_row s c e.took.body) =
    row_nudges s c e.took.body (answered_places s past) (λ t v answer is lt. first_heard s past e t v answer valid apt run is lt) in
    omega (arith, even, moved, sent, row, flow is_nudge s past e run.0)

next_even : (s : ScriptData) (past : List Entry) (e : Entry) → IsValid s → AllApt s past → IsStepRun s (e ∷ past) → Evened s past → Case s past e
    → Evened s (e ∷ past)
next_even s past e valid apt run even (NodeDoes p r d) =
    let at = d.brings.at in
    let lt = d.brings.below in
    aside_even s past e run.0 even (λ is. omega (arith, at, lt, is))
    (sent_by is_nudge s past e p r (λ t k. refl) d ∙ core_quiet s p r.from.0 r.body (keeping_in s past p).core)
next_even s past e valid apt run even (NodeKeeps p r k d) =
    let at = d.brings.at in
    let lt = d.brings.below in
    aside_even s past e run.0 even (λ is. omega (arith, at, lt, is)) (ap (λ (os : List Outgoing). tally (on is_nudge) os) d.sent)
next_even s past e valid apt run even (Coordinates at made) =
    aside_even s past e run.0 even (λ is. omega (arith, at, is))
    (each_none (on is_nudge) e.sent (coordinated_each (λ (b : Body). is_nudge b ≡ 0) s e orders_none made))
next_even s past e valid apt run even (Submits at says) = client_even s past e valid apt run even at says

evened : (s : ScriptData) (past : List Entry) → IsValid s → AllApt s past → IsStepRun s past → Evened s past
evened s [] valid apt run = omega (arith, unheard_first (length s.trees))
evened s (e ∷ past) valid apt run =
    next_even s past e valid apt.1 run (evened s past valid apt.1 run.1) (case s past e run.0 apt.0)

-- so at most one is taken for each tree
pub nudges_few : (s : ScriptData) (past : List Entry) → IsValid s → AllApt s past → IsStepRun s past → nudged past ≤ length s.trees
nudges_few s past valid apt run = omega (arith, evened s past valid apt run)

-- The answer that an outstanding notice gives has the version of the notice.
pub answered_in : (s : ScriptData) (past : List Entry) (r : Letter) (t : TreeNo) (k : SubNo) (v : Version) (notice : Notice) (a : AnsweredTree) (p : ℕ)
    → IsValid s → AllApt s past → IsStepRun s past → IsOutstanding s past r → r.body ≡ Done t k v notice → p < s.nodes → r.to.0 ≡ p
    → answer_noted t k (values_of notice) (node_in s past p).homes ≡ Some a → a.version ≡ v
answered_in s past r t k v notice a p valid apt run out is lt to found =
    let xs : List Place = before past in
    let hs : OpenTrees = (node_in s past p).homes in
    let own : misdated xs r.body ≡ 0 = omega (arith, dated_run s past valid apt run, out (λ (l : Letter). misdated xs l.body)) in
    let right : is_version (version_in t.0 xs) v ≡ true = is_right (is_version (version_in t.0 xs) v) (ap (misdated xs) (sym is) ∙ own) in
    let dated : version_in t.0 xs ≡ Some v = version_is (version_in t.0 xs) v right in
    let opened : EachOpen (λ (u : ℕ) (w : Version). version_in u xs ≡ Some w) hs =
    λ u h there. open_trees_carry_versions s past p (record { 0 = u }) h valid apt run lt there in
    let its : version_in a.tree.0 xs ≡ Some a.version =
    noted_answer (λ (u : ℕ) (w : Version). version_in u xs ≡ Some w) t k (values_of notice) hs a (misses t k hs) opened found in
    let here : a.tree.0 ≡ t.0 = ap (λ (u : TreeNo). u.0) (answer_noted_tree t k (values_of notice) hs a found) in
    let both : Some a.version ≡ Some v = sym its ∙ ap (λ (u : ℕ). version_in u xs) here ∙ dated in
    cc both

-- Of a tree whose root has still to be done nothing is open, and no answer is held.
pub root_unborn : (s : ScriptData) (past : List Entry) (t : ℕ) → IsValid s → AllApt s past → IsStepRun s past → t < length s.trees
    → 1 ≤ letters_asking s past t 0 → (home_at s past t ≡ None) × (held_at s past t ≡ None)
root_unborn s past t valid apt run lt some =
    let sub : SubAt s t 0 = sub_of_node s (home_of s t) t 0 refl (home_below s t valid lt) in
    let first : 0 < length (subs_at s t) = get_below (subs_at s t) 0 sub.sub (sub_here s t 0 sub) in
    let u = unborn_by s past t sub (no_turn_yet s past t 0 sub valid apt run some) first (stages_of_trees s past valid apt run t lt) in
    (u.home, u.held)
