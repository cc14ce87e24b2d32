-- In every run of every valid script: a strict transaction that was born and isn't open at its home any more was
-- decided on.
use Rattle.std.proofs.Common.{◌≡◌, ℕ, ◌+◌, ◌<◌, ◌≤◌, ◌==◌, ◌&&◌, Bool, true, false, not, List, [], ◌∷◌, length, refl, sym, ap, subst, ◌∙◌, arith, Option, Some, None}
use Rattle.std.specs.Prelude.{if◌then◌else◌, nat_lt}
use Rattle.std.proofs.lemmas.Bool.Decides.{nat_tests}
use Rattle.tv_base.specs.declared.numbers.SubNo.{SubNo}
use Rattle.tv_base.specs.declared.numbers.TreeNo.{TreeNo}
use Rattle.tv_base.specs.declared.numbers.Version.{Version}
use Rattle.letter_types.specs.declared.acts.Act.{Act}
use Rattle.letter_types.specs.declared.acts.Act.TheVariants as acts
use Rattle.letter_types.specs.declared.bodies.Body.{Body}
use Rattle.letter_types.specs.declared.bodies.Body.TheVariants.{Root, Sub as SubLetter, Done, Decided}
use Rattle.letter_types.specs.declared.bodies.Notice.{Notice}
use Rattle.letter_types.specs.declared.entries.Entry.{Entry}
use Rattle.letter_types.specs.declared.entries.Letter.{Letter}
use Rattle.letter_types.specs.declared.votes.Vote.{Vote}
use Rattle.letter_types.specs.Steps.{Out}
use Rattle.tree_home.proofs.Always.{begun-there}
use Rattle.tree_home.proofs.Gathered.{home_in-noted}
use Rattle.tree_home.specs.Homes.{Gets, OpenTrees, begun, home_in, misses, new_tree}
use Rattle.tree_home.specs.declared.homes.Answered.{Answered}
use Rattle.tree_home.specs.declared.homes.OpenTree.{OpenTree}
use Rattle.tx_trees.specs.ScriptData.{ScriptData, home_of, subs_at}
use Rattle.tx_trees.specs.Valid.{IsValid}
use Rattle.tx_trees.specs.declared.parts.TreeKind.{TreeKind}
use Rattle.tx_trees.specs.declared.parts.TreeKind.TheVariants.{Update, Read, Strict}
use Rattle.world_model.specs.AllApt.{AllApt}
use Rattle.world_model.specs.Asked.{asked_ops, tree_part}
use Rattle.world_model.specs.Core.{Core}
use Rattle.world_model.specs.Counts.{one_if}
use Rattle.world_model.specs.Done.{TreeOut, note_part}
use Rattle.world_model.specs.Named.{is_strict_at, tree_kind_at}
use Rattle.world_model.specs.Node.{Effect}
use Rattle.world_model.specs.Notices.{answer_noted, homes_noted, values_of}
use Rattle.world_model.specs.Runs.{IsStepRun, keeping_in}
use Rattle.world_model.specs.Strict.{answered, core_by_kind, core_row, decided, locks_by, none_refuses, noted_vote, refused_there, voting}
use Rattle.world_model.specs.Votes.{vote_of}
use Rattle.world_model.proofs.Bags.{tally-append}
use Rattle.tree_laws.specs.Applied.{has_decided}
use Rattle.tree_laws.specs.Dids.{asks}
use Rattle.tree_laws.specs.Stages.{home_at}
use Rattle.tree_laws.specs.Turns.{turns}
use Rattle.tree_laws.proofs.homes.Answering.{answers_tree}
use Rattle.tree_laws.proofs.decided.AptDecided.{GathersNow, Now, decided_any, decides_any, note_gathers}
use Rattle.tree_laws.proofs.apt.AptOfTree.{ByClient, ByCoordinator, Kept, OfTree, Other, OwnAck, OwnNote, OwnRoot, OwnSub, client_leaves, coordinator_leaves, kept_leaves, of_tree, other_leaves}
use Rattle.tree_laws.proofs.stages.AptStages.{Leaves}
use Rattle.tree_laws.proofs.stages.AptStagesRun.{stages_of_trees}
use Rattle.tree_laws.proofs.stages.AptStagesOwn.{Doing, ack_home, home_here, note_at, root_home, turned_here}
use Rattle.tree_laws.proofs.stages.AptStagesSteps.{Beside, does_beside}
use Rattle.tree_laws.proofs.homes.Noting.{Last, More, Noting, noting}
use Rattle.tree_laws.proofs.homes.Staging.{told_none}
use Rattle.run_laws.proofs.each_tree.EveryApt.{all_apt}

-- A tree that was open and isn't after a notice is answered by that.
record AnswersNow (t : TreeNo) (k : SubNo) (values : Gets) (hs : OpenTrees) : Type 0 where
  answer : Answered
  given : answer_noted t k values hs ≡ Some answer
  its : answer.tree ≡ t

noting_answers : (t : TreeNo) (k : SubNo) (values : Gets) (hs : OpenTrees) (h : OpenTree) → home_in t hs ≡ Some h
    → home_in t (homes_noted t k values hs) ≡ None → misses t k hs ≡ true → Noting t k values hs → AnswersNow t k values hs
noting_answers t k values hs h opened gone miss (More after answer some) =
    let there = ap (home_in t) after ∙ home_in-noted t k values hs h opened in absurd (cc (gone, there))
noting_answers t k values hs h opened gone miss (Last a after answer here none) =
    record { answer = a; given = answer; its = answers_tree t k values hs a miss here }

gone_by : (t : TreeNo) (k : SubNo) (values : Gets) (hs : OpenTrees) (h : OpenTree) (test : Bool) → misses t k hs ≡ test
    → home_in t hs ≡ Some h → home_in t (homes_noted t k values hs) ≡ None → AnswersNow t k values hs
gone_by t k values hs h true miss opened gone = noting_answers t k values hs h opened gone miss (noting t k values hs miss)
gone_by t k values hs h false miss opened gone =
    let same : home_in t hs ≡ None = rw miss at gone in absurd (cc (opened, same))

gone_answers : (t : TreeNo) (k : SubNo) (values : Gets) (hs : OpenTrees) (h : OpenTree) → home_in t hs ≡ Some h
    → home_in t (homes_noted t k values hs) ≡ None → AnswersNow t k values hs
gone_answers t k values hs h opened gone = gone_by t k values hs h (misses t k hs) refl opened gone

-- A row after which tree t isn't open decides on it.
abbrev DecidesWhenGone : TreeNo → Out Core → Type 0
DecidesWhenGone t out = home_in t out.state.node.homes ≡ None → 1 ≤ decides_any t.0 out.acts

one_decided : (commit : Bool) (b : Bool) → b ≡ true → one_if (b && commit) + one_if (b && not commit) ≡ 1
one_decided true true is = refl
one_decided false true is = refl
one_decided commit false is = absurd (cc is)

decided_row : (s : ScriptData) (t : TreeNo) (k : SubNo) (values : Gets) (hs : OpenTrees) (h : OpenTree) (c : Core) (o : TreeOut)
    (found : Option Answered) → o.answered ≡ found → o.answered ≡ answer_noted t k values hs
    → o.out.state.homes ≡ homes_noted t k values hs → home_in t hs ≡ Some h → DecidesWhenGone t (decided s c o found)
decided_row s t k values hs h c o None is answer homes opened gone =
    let a = gone_answers t k values hs h opened (ap (home_in t) (sym homes) ∙ gone) in absurd (let some = a.given in cc (is, answer, some))
decided_row s t k values hs h c o (Some b) is answer homes opened gone =
    let a = gone_answers t k values hs h opened (ap (home_in t) (sym homes) ∙ gone) in
    let given : Some b ≡ Some a.answer = sym is ∙ answer ∙ a.given in
    let same : b ≡ a.answer = cc given in
    let its : b.tree ≡ t = ap (λ (x : Answered). x.tree) same ∙ a.its in
    let here : (b.tree.0 == t.0) ≡ true = (let number = ap (λ (u : TreeNo). u.0) its in grind (arith, nat_tests)) in
    let commit : Bool = none_refuses b.tree c.refusals in
    omega (
      arith,
      tally-append (has_decided t.0 true) o.out.acts (acts.Decided b.tree commit ∷ []),
      tally-append (has_decided t.0 false) o.out.acts (acts.Decided b.tree commit ∷ []),
      one_decided commit (b.tree.0 == t.0) here,
    )

-- the row of its root
root_row : (s : ScriptData) (p from : ℕ) (t : TreeNo) (kind : Option TreeKind) (c : Core) → tree_kind_at s t.0 ≡ kind
    → is_strict_at s t.0 ≡ true → DecidesWhenGone t (core_by_kind s p from t (Root t) kind c)
root_row s p from t (Some Strict) c is strict =
    let v : Version = c.node.turns.update in
    let vote : Vote = vote_of c.locks c.node.items t v (asked_ops s (Root t)) in
    let e : Effect = voting vote c.node.items in
    let o : TreeOut = tree_part s p from v (nat_lt c.node.turns.update.0 v.0) e (Root t) c.node in
    let noted : Core = record c { locks = locks_by vote t (asked_ops s (Root t)) c.locks; refusals = noted_vote (Root t) vote c.refusals } in
    let n : ℕ = length (subs_at s t.0) in
    decided_row s t (record { 0 = 0 }) (values_of e.notice) (begun t n v c.node.homes) (new_tree n v) noted o o.answered refl refl refl
    (begun-there t n v c.node.homes)
root_row s p from t (Some Update) c is strict =
    let plain : is_strict_at s t.0 ≡ false = rw (is, is_strict_at) refl in absurd (cc (plain, strict))
root_row s p from t (Some Read) c is strict =
    let plain : is_strict_at s t.0 ≡ false = rw (is, is_strict_at) refl in absurd (cc (plain, strict))
root_row s p from t None c is strict =
    let plain : is_strict_at s t.0 ≡ false = rw (is, is_strict_at) refl in absurd (cc (plain, strict))

-- the row of a notice
note_row : (s : ScriptData) (from : ℕ) (t : TreeNo) (k : SubNo) (v : Version) (notice : Notice) (c : Core) (h : OpenTree) (test : Bool)
    → test ≡ true → home_in t c.node.homes ≡ Some h
    → DecidesWhenGone t
    (if test then decided s (record c { refusals = refused_there t k notice c }) (note_part from t.0 k.0 v.0 (values_of notice) c.node) (note_part from t.0 k.0 v.0 (values_of notice) c.node).answered
    else answered s c (note_part from t.0 k.0 v.0 (values_of notice) c.node))
note_row s from t k v notice c h true strict opened =
    let o : TreeOut = note_part from t.0 k.0 v.0 (values_of notice) c.node in
    decided_row s t k (values_of notice) c.node.homes h (record c { refusals = refused_there t k notice c }) o o.answered refl refl refl opened
note_row s from t k v notice c h false strict opened = absurd (cc strict)

-- So at each entry.
abbrev IsDecidedWhenGone : ScriptData → List Entry → ℕ → Type 0
IsDecidedWhenGone s past t = turns past t 0 ≡ 1 → home_at s past t ≡ None → 1 ≤ decided_any past t

abbrev GoesOn : ScriptData → List Entry → Entry → ℕ → Type 0
GoesOn s past e t = IsDecidedWhenGone s past t → IsDecidedWhenGone s (e ∷ past) t

leaves_on : (s : ScriptData) (past : List Entry) (e : Entry) (t : ℕ) → Leaves s past e t → GoesOn s past e t
leaves_on s past e t l before one gone = omega (arith, before (omega (arith, one, l.turned 0)) (sym l.home ∙ gone))

row_on : (s : ScriptData) (past : List Entry) (e : Entry) (p : ℕ) (t : TreeNo) (r : Letter) → Doing s past e p r → p ≡ home_of s t.0
    → DecidesWhenGone t (core_row s p (keeping_in s past p).core r.from.0 r.body) → IsDecidedWhenGone s (e ∷ past) t.0
row_on s past e p t r g at row one gone =
    omega (
      arith,
      row (sym (home_here s past e p t.0 r g at) ∙ gone),
      ap (λ (xs : List Act). decides_any t.0 xs) g.does.acts,
    )

root_on : (s : ScriptData) (past : List Entry) (e : Entry) (p : ℕ) (t : TreeNo) (r : Letter) → Doing s past e p r → r.body ≡ Root t
    → is_strict_at s t.0 ≡ true → IsDecidedWhenGone s (e ∷ past) t.0
root_on s past e p t r g is strict =
    let c : Core = (keeping_in s past p).core in
    row_on s past e p t r g (root_home s past e p t r g is)
    (subst (λ (b : Body). DecidesWhenGone t (core_row s p c r.from.0 b)) (sym is)
    (root_row s p r.from.0 t (tree_kind_at s t.0) c refl strict))

note_on : (s : ScriptData) (past : List Entry) (e : Entry) (p : ℕ) (t : TreeNo) (k : SubNo) (v : Version) (notice : Notice) (r : Letter)
    → Doing s past e p r → r.body ≡ Done t k v notice → is_strict_at s t.0 ≡ true → GathersNow s past t.0
    → IsDecidedWhenGone s (e ∷ past) t.0
note_on s past e p t k v notice r g is strict (Now h it) =
    let c : Core = (keeping_in s past p).core in
    let at = (note_at s past e p t k v notice r g is).home in
    let opened : c.node.homes t.0 ≡ Some h = ap (λ (q : ℕ). (keeping_in s past q).core.node.homes t.0) at ∙ it.home in
    row_on s past e p t r g at
    (subst (λ (b : Body). DecidesWhenGone t (core_row s p c r.from.0 b)) (sym is)
    (note_row s r.from.0 t k v notice c h (is_strict_at s t.0) strict opened))

sub_on : (s : ScriptData) (past : List Entry) (e : Entry) (p : ℕ) (t : TreeNo) (k : SubNo) (v : Version) (r : Letter) → Doing s past e p r
    → r.body ≡ SubLetter t k v → 0 < k.0 → GoesOn s past e t.0
sub_on s past e p t k v r g is some before one gone =
    let b : Beside s past e t.0 = does_beside s past e p t.0 r g.run.0 g.does (rw is tt) in
    let none = turned_here s past e p t.0 0 r g ∙ ap (asks t.0 0) is ∙ told_none t.0 k.0 0 (omega (arith, some)) in
    omega (arith, before (omega (arith, one, none)) (sym b.home ∙ gone))

-- an acknowledgement leaves the open trees
ack_on : (s : ScriptData) (past : List Entry) (e : Entry) (p : ℕ) (t : TreeNo) (v : Version) (r : Letter) → Doing s past e p r
    → r.body ≡ Decided t v → GoesOn s past e t.0
ack_on s past e p t v r g is before one gone =
    let c : Core = (keeping_in s past p).core in
    let at = ack_home s past e p t v r g is in
    let none = turned_here s past e p t.0 0 r g ∙ ap (asks t.0 0) is in
    let home : home_at s (e ∷ past) t.0 ≡ home_at s past t.0 =
    home_here s past e p t.0 r g at ∙ ap (λ (b : Body). (core_row s p c r.from.0 b).state.node.homes t.0) is
    ∙ ap (λ (q : ℕ). (keeping_in s past q).core.node.homes t.0) at in
    omega (arith, before (omega (arith, one, none)) (sym home ∙ gone))

next_on : (s : ScriptData) (past : List Entry) (e : Entry) (w : ℕ) → IsValid s → AllApt s (e ∷ past) → IsStepRun s (e ∷ past)
    → w < length s.trees → is_strict_at s w ≡ true → OfTree s past e w → GoesOn s past e w
next_on s past e w valid apt run lt strict (Other p r g it) = leaves_on s past e w (other_leaves s past e p w r g it)
next_on s past e w valid apt run lt strict (Kept p r k d) = leaves_on s past e w (kept_leaves s past e p w r k valid apt run d)
next_on s past e w valid apt run lt strict (ByCoordinator at says) =
    leaves_on s past e w (coordinator_leaves s past e w valid apt run lt at says)
next_on s past e w valid apt run lt strict (ByClient at says) = leaves_on s past e w (client_leaves s past e w valid apt run lt at says)
next_on s past e w valid apt run lt strict (OwnRoot p t r g is same) =
    let its : is_strict_at s t.0 ≡ true = ap (is_strict_at s) same ∙ strict in
    subst (λ (u : ℕ). GoesOn s past e u) same (λ before. root_on s past e p t r g is its)
next_on s past e w valid apt run lt strict (OwnSub p t k v r g is some same) =
    subst (λ (u : ℕ). GoesOn s past e u) same (sub_on s past e p t k v r g is some)
next_on s past e w valid apt run lt strict (OwnNote p t k v notice r g is same) =
    let its : is_strict_at s t.0 ≡ true = ap (is_strict_at s) same ∙ strict in
    let there : t.0 < length s.trees = omega (arith, lt, same) in
    subst (λ (u : ℕ). GoesOn s past e u) same
    (λ before. note_on s past e p t k v notice r g is its (note_gathers s past e p t k v notice r g is there))
next_on s past e w valid apt run lt strict (OwnAck p t v r g is same) =
    subst (λ (u : ℕ). GoesOn s past e u) same (ack_on s past e p t v r g is)

-- in every run
pub decided_when_gone : (s : ScriptData) (past : List Entry) (t : ℕ) → IsValid s → IsStepRun s past → t < length s.trees
    → is_strict_at s t ≡ true → turns past t 0 ≡ 1 → home_at s past t ≡ None → 1 ≤ decided_any past t
decided_when_gone s [] t valid run lt strict one gone = absurd (omega (arith, one))
decided_when_gone s (e ∷ past) t valid run lt strict one gone =
    let apt = all_apt s (e ∷ past) valid run in
    next_on s past e t valid apt run lt strict (of_tree s past e t valid apt run (λ w less. stages_of_trees s past valid apt.1 run.1 w less))
    (λ early free. decided_when_gone s past t valid run.1 lt strict early free) one gone
