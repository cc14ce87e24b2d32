-- In runs of enabled messages, of every script: each open transaction, each decision and each acknowledgement of one
-- carries the version with which its transaction was born. So does each message, with the Subs and the notices.
use Rattle.std.proofs.Common.{◌≡◌, ◌≢◌, ◌⊎◌, inl, inr, ℕ, ◌<◌, ◌≤◌, ◌==◌, Bool, true, false, not, List, [], ◌∷◌, ◌++◌, length, refl, sym, ap, subst, ◌∙◌, arith, Option, Some, None}
use Rattle.std.specs.Prelude.{if◌then◌else◌, nat_lt}
use Rattle.std.proofs.lemmas.Bool.{cases_eq}
use Rattle.std.proofs.lemmas.Bool.Decides.{nat_tests}
use Rattle.tv_base.specs.declared.numbers.SubNo.{SubNo}
use Rattle.tv_base.specs.declared.numbers.TreeNo.{TreeNo}
use Rattle.tv_base.specs.declared.numbers.Version.{Version}
use Rattle.letter_types.specs.declared.bodies.Body.{Body}
use Rattle.letter_types.specs.declared.bodies.Body.TheVariants.{Go, Root, Sub as SubLetter, Done, Decide, Decided, Release, Reply, Advanced, Turn, Show, Sweep, AskDone, AskAsked, Ask, Order}
use Rattle.letter_types.specs.declared.bodies.Notice.{Notice}
use Rattle.letter_types.specs.declared.entries.Entry.{Entry}
use Rattle.letter_types.specs.declared.entries.Letter.{Letter}
use Rattle.letter_types.specs.declared.entries.Outgoing.{Outgoing}
use Rattle.letter_types.specs.declared.votes.Vote.{Vote}
use Rattle.letter_types.specs.Kept.{kept_without, wakes}
use Rattle.letter_types.specs.Steps.{Out, still}
use Rattle.tree_home.specs.HeldAnswers.{answer_when_acked}
use Rattle.tree_home.specs.Homes.{Gets, OpenTrees, after_notice, answer_in, answer_of, answer_with, begun, home_in, misses, new_tree, noted_of, with_notice}
use Rattle.tree_home.specs.Maps.{put_at}
use Rattle.tree_home.specs.declared.homes.Answered.{Answered}
use Rattle.tree_home.specs.declared.homes.OpenTree.{OpenTree}
use Rattle.tx_trees.specs.ScriptData.{ScriptData, client_of, home_of, subs_at, visited_by}
use Rattle.tx_trees.specs.Valid.{IsValid}
use Rattle.tx_trees.specs.declared.parts.TreeKind.{TreeKind}
use Rattle.tx_trees.specs.declared.parts.TreeKind.TheVariants.{Update, Read, Strict}
use Rattle.board_rules.specs.Histories.{Place, places_at, version_in}
use Rattle.board_rules.proofs.Places.{places_more}
use Rattle.world_model.proofs.Epochs.{ask_each, order_each}
use Rattle.world_model.proofs.Coordination.{OfCoordinator, coordinated_each}
use Rattle.world_model.proofs.Sends.{CountsNoRow, asked_each}
use Rattle.world_model.specs.Keeping.{woken_by}
use Rattle.world_model.specs.AllApt.{AllApt}
use Rattle.world_model.specs.Asked.{asked_ops, asked_version, tree_part}
use Rattle.world_model.specs.Children.{done_letter, sub_letters}
use Rattle.world_model.specs.Client.{Client, client_row, nudge, submit, with_answer, with_end}
use Rattle.world_model.specs.Core.{Core}
use Rattle.world_model.specs.Counts.{one_if, tally}
use Rattle.world_model.specs.Done.{TreeOut, note_part}
use Rattle.world_model.specs.Kept.{kept_in, outstanding}
use Rattle.world_model.specs.Named.{is_strict_at, tree_kind_at}
use Rattle.world_model.specs.Node.{Effect, Node}
use Rattle.world_model.specs.Notices.{reply_letters, values_of}
use Rattle.world_model.specs.Reads.{getting}
use Rattle.world_model.specs.Runs.{IsStepRun, MayFollow, client_in, keeping_in, node_in}
use Rattle.world_model.specs.Strict.{CoreKeeping, answered, core_by_kind, core_row, decided, locks_by, none_refuses, note_core, noted_vote, refused_there, release_letters, to_each, voting}
use Rattle.world_model.specs.Updates.{touching}
use Rattle.world_model.specs.Votes.{vote_of}
use Rattle.world_model.proofs.Bags.{tally-append, tally_most}
use Rattle.world_model.proofs.Cases.{Case, Coordinates, Does, Keeps, NodeDoes, NodeKeeps, Submits, case, does_number}
use Rattle.world_model.proofs.Every.{each_both, each_map, each_none, each_zero, node_kept}
use Rattle.world_model.proofs.Flows.{outstanding_flow, submit_none}
use Rattle.world_model.proofs.Keepings.{of_kept}
use Rattle.world_model.proofs.Outstanding.{outstanding_first}
use Rattle.world_model.proofs.Sends.{on, subs_none}
use Rattle.tree_laws.specs.Carried.{CarriesVersion, LettersCarryVersions, OpenTreesCarryVersions}
use Rattle.tree_laws.proofs.apt.AptSteps.{does_as, done_before, none_strays, wakes_none}
use Rattle.tree_laws.proofs.apt.AptVersions.{DoneIn, before, dated_run, done_dated, is_right, is_version, misdated, no_more, still_by, version_is}
use Rattle.tree_laws.proofs.histories.Turns.{answers_none, each_told, kind_version, releases_none, replies_none, work_version}

-- What holds of each open tree's version, with one notice more.
abbrev pub EachOpen : (ℕ → Version → Type 0) → OpenTrees → Type 0
EachOpen P hs = (t : ℕ) (h : OpenTree) → hs t ≡ Some h → P t h.version

each_put : (P : ℕ → Version → Type 0) (n : ℕ) (x : Option OpenTree) (hs : OpenTrees) → EachOpen P hs
    → ((h : OpenTree) → x ≡ Some h → P n h.version) → EachOpen P (put_at n x hs)
each_put P n x hs all one t h at = by (t == n) refl where
  by : (test : Bool) → (t == n) ≡ test → P t h.version
  by true is =
      let same : t ≡ n = grind (arith, nat_tests) in
      let here : x ≡ Some h = rw is at at in
      subst (λ (m : ℕ). P m h.version) (sym same) (one h here)
  by false is = let there : hs t ≡ Some h = rw is at at in all t h there

noted_version : (P : ℕ → Version → Type 0) (n : ℕ) (k : SubNo) (vs : Gets) (o : Option OpenTree) (h : OpenTree)
    → ((g : OpenTree) → o ≡ Some g → P n g.version) → noted_of k vs o ≡ Some h → P n h.version
noted_version P n k vs None h all at = absurd (cc at)
noted_version P n k vs (Some g) h all at =
    let same : with_notice k vs g ≡ h = cc at in subst (λ (x : OpenTree). P n x.version) same (all g refl)

each_after : (P : ℕ → Version → Type 0) (t : TreeNo) (k : SubNo) (vs : Gets) (hs : OpenTrees) (o : Option Answered) → EachOpen P hs
    → EachOpen P (after_notice t k vs hs o)
each_after P t k vs hs None all =
    each_put P t.0 (noted_of k vs (home_in t hs)) hs all (λ h at. noted_version P t.0 k vs (home_in t hs) h (λ g is. all t.0 g is) at)
each_after P t k vs hs (Some a) all = each_put P t.0 None hs all (λ h at. absurd (cc at))

each_noted : (P : ℕ → Version → Type 0) (t : TreeNo) (k : SubNo) (vs : Gets) (hs : OpenTrees) (test : Bool) → EachOpen P hs
    → EachOpen P (if test then after_notice t k vs hs (answer_in t k vs hs) else hs)
each_noted P t k vs hs true all = each_after P t k vs hs (answer_in t k vs hs) all
each_noted P t k vs hs false all = all

each_begun : (P : ℕ → Version → Type 0) (t : TreeNo) (n : ℕ) (v : Version) (hs : OpenTrees) → EachOpen P hs → P t.0 v
    → EachOpen P (begun t n v hs)
each_begun P t n v hs all one =
    each_put P t.0 (Some (new_tree n v)) hs all
    (λ h at. let same : new_tree n v ≡ h = cc at in subst (λ (x : OpenTree). P t.0 x.version) same one)

-- so of its answer
answer_with_version : (P : ℕ → Version → Type 0) (t : TreeNo) (h : OpenTree) (vs : Option Gets) (a : Answered) → P t.0 h.version
    → answer_with t h vs ≡ Some a → P a.tree.0 a.version
answer_with_version P t h None a one at = absurd (cc at)
answer_with_version P t h (Some vs) a one at =
    let it : Answered = record { tree = t; version = h.version; values = vs } in
    let same : it ≡ a = cc at in subst (λ (x : Answered). P x.tree.0 x.version) same one

answer_version : (P : ℕ → Version → Type 0) (t : TreeNo) (k : SubNo) (vs : Gets) (o : Option OpenTree) (a : Answered)
    → ((g : OpenTree) → o ≡ Some g → P t.0 g.version) → answer_of t k vs o ≡ Some a → P a.tree.0 a.version
answer_version P t k vs None a all at = absurd (cc at)
answer_version P t k vs (Some h) a all at = answer_with_version P t h _ a (all h refl) at

pub noted_answer : (P : ℕ → Version → Type 0) (t : TreeNo) (k : SubNo) (vs : Gets) (hs : OpenTrees) (a : Answered) (test : Bool)
    → EachOpen P hs → (if test then answer_in t k vs hs else None) ≡ Some a → P a.tree.0 a.version
noted_answer P t k vs hs a true all at = answer_version P t k vs (home_in t hs) a (λ g is. all t.0 g is) at
noted_answer P t k vs hs a false all at = absurd (cc at)

-- Decisions that carry another version than their tree's.
abbrev pub misdecided : List Place → Body → ℕ
misdecided xs (Decide t v commit) = one_if (not (is_version (version_in t.0 xs) v))
misdecided xs (Decided t v) = one_if (not (is_version (version_in t.0 xs) v))
misdecided xs Go = 0
misdecided xs _ = 0

misdecided_less : (xs ys : List Place) (b : Body) → misdecided (xs ++ ys) b ≤ misdecided xs b
misdecided_less xs ys (Decide t v commit) = no_more xs ys t.0 v (is_version (version_in t.0 xs) v) refl
misdecided_less xs ys (Decided t v) = no_more xs ys t.0 v (is_version (version_in t.0 xs) v) refl
misdecided_less xs ys Go = omega arith
misdecided_less xs ys _ = omega arith

-- this is the version of the tree
abbrev pub IsOf : List Place → ℕ → Version → Type 0
IsOf xs t v = is_version (version_in t xs) v ≡ true

one_none : (xs : List Place) (t : ℕ) (v : Version) → IsOf xs t v → one_if (not (is_version (version_in t xs) v)) ≡ 0
one_none xs t v is = rw is refl

-- The parts of a row: a letter that is done in version v.
abbrev BornIn : List Place → Version → Body → Type 0
BornIn xs v (Root t) = IsOf xs t.0 v
BornIn xs v Go = Unit {0}
BornIn xs v _ = Unit {0}

-- open trees and an answer have the versions of their trees, and so have the decisions among what is sent
record Part (xs : List Place) (o : TreeOut) : Type 0 where
  homes : EachOpen (IsOf xs) o.out.state.homes
  answer : (a : Answered) → o.answered ≡ Some a → IsOf xs a.tree.0 a.version
  sent : tally (on (misdecided xs)) o.out.sent ≡ 0

part : (xs : List Place) (s : ScriptData) (p from : ℕ) (u : Version) (raises : Bool) (e : Effect) (body : Body) (st : Node)
    → EachOpen (IsOf xs) st.homes → BornIn xs u body → Part xs (tree_part s p from (asked_version u body) raises e body st)
part xs s p from u raises e (Root t) st all born =
    let hs : OpenTrees = begun t (length (subs_at s t.0)) u st.homes in
    let begins : EachOpen (IsOf xs) hs = each_begun (IsOf xs) t (length (subs_at s t.0)) u st.homes all born in
    let k : SubNo = record { 0 = 0 } in
    record {
      homes = each_noted (IsOf xs) t k (values_of e.notice) hs (misses t k hs) begins;
      answer = λ a at. noted_answer (IsOf xs) t k (values_of e.notice) hs a (misses t k hs) begins at;
      sent = subs_none (misdecided xs) t.0 u.0 0 0 (subs_at s t.0) (λ w j v. refl);
    }
part xs s p from u raises e (SubLetter t k w) st all born = record {
  homes = all;
  answer = λ a at. absurd (cc at);
  sent = omega (
    arith,
    tally-append (on (misdecided xs)) (sub_letters t.0 w.0 k.0 0 (subs_at s t.0)) (done_letter (home_of s t.0) t.0 k.0 w.0 e.notice ∷ []),
    subs_none (misdecided xs) t.0 w.0 k.0 0 (subs_at s t.0) (λ x j v. refl),
  );
}
part xs s p from u raises e _ st all born = record { homes = all; answer = λ a at. absurd (cc at); sent = refl }

-- The rows of a core.
record Row (xs : List Place) (hs : OpenTrees) (os : List Outgoing) : Type 0 where
  homes : EachOpen (IsOf xs) hs
  sent : tally (on (misdecided xs)) os ≡ 0

abbrev CoreRow : List Place → Out Core → Type 0
CoreRow xs out = Row xs out.state.node.homes out.sent

pick : (xs : List Place) (b : Bool) (x y : Out Core) → CoreRow xs x → CoreRow xs y → CoreRow xs (if b then x else y)
pick xs true x y l r = l
pick xs false x y l r = r

answered_row : (xs : List Place) (s : ScriptData) (c : Core) (o : TreeOut) → Part xs o → CoreRow xs (answered s c o)
answered_row xs s c o it = record {
  homes = it.homes;
  sent = omega (
    arith,
    it.sent,
    tally-append (on (misdecided xs)) (o.out.sent ++ release_letters s o.answered) (reply_letters (client_of s) o.answered),
    tally-append (on (misdecided xs)) o.out.sent (release_letters s o.answered),
    releases_none s (on (misdecided xs)) o.answered (λ q t. refl),
    replies_none (client_of s) (on (misdecided xs)) o.answered (λ q t v answer. refl),
  );
}

decided_row : (xs : List Place) (s : ScriptData) (c : Core) (o : TreeOut) (found : Option Answered) → o.answered ≡ found → Part xs o
    → CoreRow xs (decided s c o found)
decided_row xs s c o None is it = record { homes = it.homes; sent = it.sent }
decided_row xs s c o (Some a) is it =
    let told : Body = Decide a.tree a.version (none_refuses a.tree c.refusals) in
    record {
      homes = it.homes;
      sent = omega (
        arith,
        it.sent,
        tally-append (on (misdecided xs)) o.out.sent (to_each told (visited_by s a.tree.0)),
        each_told (on (misdecided xs)) told (visited_by s a.tree.0) (λ q. one_none xs a.tree.0 a.version (it.answer a is)),
      );
    }

kind_row : (xs : List Place) (s : ScriptData) (p from : ℕ) (t : TreeNo) (body : Body) (kind : Option TreeKind) (c : Core)
    → EachOpen (IsOf xs) c.node.homes → BornIn xs (kind_version c kind) body → CoreRow xs (core_by_kind s p from t body kind c)
kind_row xs s p from t body (Some Update) c all born =
    let w : Version = asked_version c.node.turns.update body in
    let e : Effect = touching w (asked_ops s body) c.node.items in
    let raises : Bool = nat_lt c.node.turns.update.0 w.0 in
    answered_row xs s c (tree_part s p from w raises e body c.node) (part xs s p from c.node.turns.update raises e body c.node all born)
kind_row xs s p from t body (Some Read) c all born =
    let w : Version = asked_version c.node.turns.read body in
    let e : Effect = getting w (asked_ops s body) c.node.items in
    answered_row xs s c (tree_part s p from w false e body c.node) (part xs s p from c.node.turns.read false e body c.node all born)
kind_row xs s p from t body (Some Strict) c all born =
    let w : Version = asked_version c.node.turns.update body in
    let vote : Vote = vote_of c.locks c.node.items t w (asked_ops s body) in
    let e : Effect = voting vote c.node.items in
    let raises : Bool = nat_lt c.node.turns.update.0 w.0 in
    let o : TreeOut = tree_part s p from w raises e body c.node in
    let noted : Core = record c { locks = locks_by vote t (asked_ops s body) c.locks; refusals = noted_vote body vote c.refusals } in
    decided_row xs s noted o o.answered refl (part xs s p from c.node.turns.update raises e body c.node all born)
kind_row xs s p from t body None c all born = record { homes = all; sent = refl }

note_row : (xs : List Place) (s : ScriptData) (from : ℕ) (t : TreeNo) (k : SubNo) (v : Version) (notice : Notice) (c : Core)
    → EachOpen (IsOf xs) c.node.homes → CoreRow xs (note_core s from t k v notice c)
note_row xs s from t k v notice c all =
    let hs : OpenTrees = c.node.homes in
    let o : TreeOut = note_part from t.0 k.0 v.0 (values_of notice) c.node in
    let noted : Core = record c { refusals = refused_there t k notice c } in
    let it : Part xs o = record {
      homes = each_noted (IsOf xs) t k (values_of notice) hs (misses t k hs) all;
      answer = λ a at. noted_answer (IsOf xs) t k (values_of notice) hs a (misses t k hs) all at;
      sent = refl;
    } in
    pick xs (is_strict_at s t.0) (decided s noted o o.answered) (answered s c o) (decided_row xs s noted o o.answered refl it)
    (answered_row xs s c o it)

-- what a core's letter says of versions
abbrev SaysVersion : List Place → Version → Body → Type 0
SaysVersion xs v (Root t) = IsOf xs t.0 v
SaysVersion xs v (Decide t w commit) = IsOf xs t.0 w
SaysVersion xs v Go = Unit {0}
SaysVersion xs v _ = Unit {0}

row : (xs : List Place) (s : ScriptData) (p from : ℕ) (body : Body) (c : Core) → EachOpen (IsOf xs) c.node.homes
    → SaysVersion xs (work_version s c body) body → CoreRow xs (core_row s p c from body)
row xs s p from (Root t) c all says = kind_row xs s p from t (Root t) (tree_kind_at s t.0) c all says
row xs s p from (SubLetter t k v) c all says = kind_row xs s p from t (SubLetter t k v) (tree_kind_at s t.0) c all tt
row xs s p from (Done t k v notice) c all says = note_row xs s from t k v notice c all
row xs s p from (Decide t v commit) c all says = record { homes = all; sent = omega (arith, one_none xs t.0 v says) }
row xs s p from (Decided t v) c all says = record { homes = all; sent = answers_none s c.refusals (on (misdecided xs)) (answer_when_acked t c.holds) (λ q u w answer. refl) }
row xs s p from (Release t) c all says = record { homes = all; sent = refl }
row xs s p from (Turn v) c all says = record { homes = all; sent = refl }
row xs s p from (Show v) c all says = record { homes = all; sent = refl }
row xs s p from (Sweep v) c all says = record { homes = all; sent = refl }
row xs s p from (AskDone v k) c all says = record { homes = all; sent = refl }
row xs s p from (AskAsked v k) c all says = record { homes = all; sent = refl }
row xs s p from (Order e what v) c all says =
    order_each (CoreRow xs) s e what v c (record { homes = all; sent = refl }) (record { homes = all; sent = refl })
    (λ is. record { homes = all; sent = refl }) (λ is new. record { homes = all; sent = refl }) (λ is new. record { homes = all; sent = refl })
row xs s p from (Ask e) c all says =
    ask_each (CoreRow xs) s e c (record { homes = all; sent = refl }) (record { homes = all; sent = refl })
row xs s p from _ c all says = record { homes = all; sent = refl }

says_version : (xs ys : List Place) (v : Version) (body : Body) → DoneIn (xs ++ ys) v body → misdecided xs body ≡ 0 → SaysVersion (xs ++ ys) v body
says_version xs ys v (Root t) is none = is
says_version xs ys v (Decide t w commit) is none = still_by xs ys t.0 w (is_right (is_version (version_in t.0 xs) w) none)
says_version xs ys v Go is none = tt
says_version xs ys v _ is none = tt

-- Runs.
record HaveVersions (xs : List Place) (s : ScriptData) (past : List Entry) : Type 0 where
  homes : (p : ℕ) → p < s.nodes → EachOpen (IsOf xs) (node_in s past p).homes
  decisions : tally (λ (l : Letter). misdecided xs l.body) (outstanding s past) ≡ 0

-- the same with an entry's acts, and then with what it sends
later : (xs ys : List Place) (hs : OpenTrees) → EachOpen (IsOf xs) hs → EachOpen (IsOf (xs ++ ys)) hs
later xs ys hs all t h at = still_by xs ys t h.version (all t h at)

decisions_next : (xs ys : List Place) (s : ScriptData) (past : List Entry) (e : Entry) → MayFollow s past e → HaveVersions xs s past
    → tally (on (misdecided (xs ++ ys))) e.sent ≡ 0
    → tally (λ (l : Letter). misdecided (xs ++ ys) l.body) (outstanding s (e ∷ past)) ≡ 0
decisions_next xs ys s past e m have sent =
    omega (
      arith,
      have.decisions,
      sent,
      outstanding_flow (misdecided (xs ++ ys)) s past e (λ t k. refl) m,
      tally_most (λ (l : Letter). misdecided (xs ++ ys) l.body) (λ (l : Letter). misdecided xs l.body) (outstanding s past)
          (λ l. misdecided_less xs ys l.body),
    )

-- the homes of another node
elsewhere : (xs ys : List Place) (s : ScriptData) (past : List Entry) (e : Entry) (q : ℕ) → e.actor.0 ≢ q → q < s.nodes → HaveVersions xs s past
    → EachOpen (IsOf (xs ++ ys)) (node_in s (e ∷ past) q).homes
elsewhere xs ys s past e q ne lt have =
    subst (λ (st : Node). EachOpen (IsOf (xs ++ ys)) st.homes) (sym (node_kept s past e q ne))
    (later xs ys (node_in s past q).homes (have.homes q lt))

homes_next : (xs ys : List Place) (s : ScriptData) (past : List Entry) (e : Entry) (p : ℕ) → e.actor.0 ≡ p → HaveVersions xs s past
    → EachOpen (IsOf (xs ++ ys)) (node_in s (e ∷ past) p).homes → (q : ℕ) → q < s.nodes → (p ≡ q) ⊎ (p ≢ q)
    → EachOpen (IsOf (xs ++ ys)) (node_in s (e ∷ past) q).homes
homes_next xs ys s past e p at have here q lt (inl is) =
    subst (λ (n : ℕ). EachOpen (IsOf (xs ++ ys)) (node_in s (e ∷ past) n).homes) is here
homes_next xs ys s past e p at have here q lt (inr ne) = elsewhere xs ys s past e q (λ is. ne (sym at ∙ is)) lt have

-- a letter that a node does has the version of its tree
pub dated_here : (s : ScriptData) (past : List Entry) (e : Entry) (p : ℕ) (r : Letter) → IsValid s → AllApt s past → IsStepRun s (e ∷ past)
    → Does s past e p r → DoneIn (before past ++ places_at e) (work_version s (keeping_in s past p).core r.body) r.body
dated_here s past e p r valid apt run d =
    let xs : List Place = before past ++ places_at e in
    let n = does_as s past e p r run.0 (none_strays s past valid apt run.1) d in
    subst (λ (v : Version). DoneIn xs v r.body) n.1.0
    (subst (λ (b : Body). DoneIn xs n.0.version b) n.1.1 (done_dated s past e valid apt run (dated_run s past valid apt run.1) n.0))

-- so a node does one
does_next : (s : ScriptData) (past : List Entry) (e : Entry) (p : ℕ) (r : Letter) → IsValid s → AllApt s past → IsStepRun s (e ∷ past)
    → HaveVersions (before past) s past → Does s past e p r → HaveVersions (before past ++ places_at e) s (e ∷ past)
does_next s past e p r valid apt run have d =
    let xs : List Place = before past in
    let ys : List Place = places_at e in
    let c : Core = (keeping_in s past p).core in
    let out : Out Core = core_row s p c r.from.0 r.body in
    let more : List Outgoing = wakes (woken_by (keeping_in s past p).core r.body) (kept_without (kept_in s past p) e.took.body) in
    let dated : DoneIn (xs ++ ys) (work_version s c r.body) r.body = dated_here s past e p r valid apt run d in
    let own : misdecided xs r.body ≡ 0 =
    omega (
      arith,
      have.decisions,
      does_number (λ (l : Letter). misdecided xs l.body) s past e p r d,
      done_before (λ (l : Letter). misdecided xs l.body) s past e run.0,
    ) in
    let it : CoreRow (xs ++ ys) out =
    row (xs ++ ys) s p r.from.0 r.body c (later xs ys c.node.homes (have.homes p d.brings.below))
    (says_version xs ys (work_version s c r.body) r.body dated own) in
    record {
      homes = λ q lt.
          homes_next xs ys s past e p d.brings.at have
          (subst (λ (x : Core). EachOpen (IsOf (xs ++ ys)) x.node.homes) (sym d.core) it.homes) q lt (cases_eq p q);
      decisions = decisions_next xs ys s past e run.0 have
          (omega (
            arith,
            it.sent,
            ap (λ (os : List Outgoing). tally (on (misdecided (xs ++ ys))) os) d.sent,
            tally-append (on (misdecided (xs ++ ys))) out.sent more,
            wakes_none (on (misdecided (xs ++ ys))) (woken_by (keeping_in s past p).core r.body) (kept_without (kept_in s past p) e.took.body) (λ x. refl),
          ));
    }

-- a node keeps one
abbrev LeavesHomes : Core → CoreKeeping → Type 0
LeavesHomes c k = k.state.node.homes ≡ c.node.homes

keeps_next : (s : ScriptData) (past : List Entry) (e : Entry) (p : ℕ) (r : Letter) (k : CoreKeeping) → MayFollow s past e
    → HaveVersions (before past) s past → Keeps s past e p r k → HaveVersions (before past ++ places_at e) s (e ∷ past)
keeps_next s past e p r k m have d =
    let xs : List Place = before past in
    let ys : List Place = places_at e in
    let c : Core = (keeping_in s past p).core in
    let same : (node_in s (e ∷ past) p).homes ≡ c.node.homes =
    ap (λ (x : Core). x.node.homes) d.core
    ∙ of_kept s c (LeavesHomes c) r.body k (record { parks = λ t j raises v met. refl; waits = λ t. refl }) d.keeps in
    record {
      homes = λ q lt.
          homes_next xs ys s past e p d.brings.at have
          (subst (λ (hs : OpenTrees). EachOpen (IsOf (xs ++ ys)) hs) (sym same) (later xs ys c.node.homes (have.homes p d.brings.below))) q lt
          (cases_eq p q);
      decisions = decisions_next xs ys s past e m have (ap (λ (os : List Outgoing). tally (on (misdecided (xs ++ ys))) os) d.sent);
    }

-- another actor goes on
apart_next : (s : ScriptData) (past : List Entry) (e : Entry) → MayFollow s past e → HaveVersions (before past) s past → s.nodes ≤ e.actor.0
    → tally (on (misdecided (before past ++ places_at e))) e.sent ≡ 0 → HaveVersions (before past ++ places_at e) s (e ∷ past)
apart_next s past e m have out sent = record {
  homes = λ q lt. elsewhere (before past) (places_at e) s past e q (λ is. omega (arith, is, out, lt)) lt have;
  decisions = decisions_next (before past) (places_at e) s past e m have sent;
}

orders_none : (xs : List Place) → OfCoordinator (λ (b : Body). misdecided xs b ≡ 0)
orders_none xs = record {
  turn = λ v. refl;
  show = λ v. refl;
  sweep = λ v. refl;
  order = λ e what v. refl;
  ask = λ e. refl;
  ask_done = λ v k. refl;
  ask_asked = λ v k. refl;
  advanced = λ v. refl;
}

rows_none : (xs : List Place) → CountsNoRow (misdecided xs)
rows_none xs = record { root = λ u. refl; advance = refl; numbered = λ i. refl; lose = refl }

hears_none : (xs : List Place) (s : ScriptData) (c : Client) (t : ℕ) (test : Bool)
    → tally (on (misdecided xs)) (if test then submit s (with_answer t c) (nudge s ∷ []) else still c).sent ≡ 0
hears_none xs s c t true = submit_none (misdecided xs) s (with_answer t c) (nudge s ∷ []) refl (rows_none xs)
hears_none xs s c t false = refl

client_none : (xs : List Place) (s : ScriptData) (c : Client) (body : Body) → tally (on (misdecided xs)) (client_row s c body).sent ≡ 0
client_none xs s c Go = submit_none (misdecided xs) s c [] refl (rows_none xs)
client_none xs s c (Reply t v answer) = hears_none xs s c t.0 (nat_lt t.0 (length s.trees))
client_none xs s c (Advanced v) = submit_none (misdecided xs) s (with_end s v c) [] refl (rows_none xs)
client_none xs s c (Ask e) = asked_each (λ (o : Out Client). tally (on (misdecided xs)) o.sent ≡ 0) s c e refl (λ is. refl)
client_none xs s c _ = refl

next_by : (s : ScriptData) (past : List Entry) (e : Entry) → IsValid s → AllApt s past → IsStepRun s (e ∷ past)
    → HaveVersions (before past) s past → Case s past e → HaveVersions (before past ++ places_at e) s (e ∷ past)
next_by s past e valid apt run have (NodeDoes p r d) = does_next s past e p r valid apt run have d
next_by s past e valid apt run have (NodeKeeps p r k d) = keeps_next s past e p r k run.0 have d
next_by s past e valid apt run have (Coordinates at made) =
    let zs : List Place = before past ++ places_at e in
    apart_next s past e run.0 have (omega (arith, at))
    (each_none (on (misdecided zs)) e.sent (coordinated_each (λ (b : Body). misdecided zs b ≡ 0) s e (orders_none zs) made))
next_by s past e valid apt run have (Submits at says) =
    let zs : List Place = before past ++ places_at e in
    apart_next s past e run.0 have (omega (arith, at))
    (ap (λ (os : List Outgoing). tally (on (misdecided zs)) os) says.0 ∙ client_none zs s (client_in s past) e.took.body)

have_versions : (s : ScriptData) (past : List Entry) → IsValid s → AllApt s past → IsStepRun s past → HaveVersions (before past) s past
have_versions s [] valid apt run = record {
  homes = λ p lt t h at. absurd (cc at);
  decisions = omega (arith, outstanding_first (λ (l : Letter). misdecided (before []) l.body) s);
}
have_versions s (e ∷ past) valid apt run =
    subst (λ (xs : List Place). HaveVersions xs s (e ∷ past)) (sym (places_more e past))
    (next_by s past e valid apt.1 run (have_versions s past valid apt.1 run.1) (case s past e run.0 apt.0))

pub open_trees_carry_versions : OpenTreesCarryVersions
open_trees_carry_versions s past p t h valid apt run lt at =
    version_is (version_in t.0 (before past)) h.version ((have_versions s past valid apt run).homes p lt t.0 h at)

carries : (xs : List Place) (b : Body) → misdated xs b ≡ 0 → misdecided xs b ≡ 0 → CarriesVersion xs b
carries xs (SubLetter t k v) none other = version_is (version_in t.0 xs) v (is_right (is_version (version_in t.0 xs) v) none)
carries xs (Done t k v notice) none other = version_is (version_in t.0 xs) v (is_right (is_version (version_in t.0 xs) v) none)
carries xs (Decide t v commit) none other = version_is (version_in t.0 xs) v (is_right (is_version (version_in t.0 xs) v) other)
carries xs (Decided t v) none other = version_is (version_in t.0 xs) v (is_right (is_version (version_in t.0 xs) v) other)
carries xs Go none other = tt
carries xs _ none other = tt

pub letters_carry_versions : LettersCarryVersions
letters_carry_versions s past valid apt run =
    let ls : List Letter = outstanding s past in
    let dated : Letter → ℕ = λ l. misdated (before past) l.body in
    let decided : Letter → ℕ = λ l. misdecided (before past) l.body in
    each_map (λ (l : Letter). (dated l ≡ 0) × (decided l ≡ 0)) (λ (l : Letter). CarriesVersion (before past) l.body) ls
    (λ l none. carries (before past) l.body none.0 none.1)
    (each_both (λ (l : Letter). dated l ≡ 0) (λ (l : Letter). decided l ≡ 0) ls (each_zero dated ls (dated_run s past valid apt run))
    (each_zero decided ls (have_versions s past valid apt run).decisions))
