-- What the row of a core sends and does, of a transaction's messages and acts.
use Rattle.std.proofs.Common.{◌≡◌, ℕ, ◌<◌, ◌==◌, Bool, true, false, List, [], ◌∷◌, ◌++◌, refl, arith, Option, Some, None}
use Rattle.std.specs.Prelude.{if◌then◌else◌, nat_lt, slice_get}
use Rattle.std.proofs.lemmas.Bool.Decides.{nat_tests}
use Rattle.tv_base.proofs.Truths.{left_true}
use Rattle.tv_base.specs.declared.numbers.SubNo.{SubNo}
use Rattle.tv_base.specs.declared.numbers.TreeNo.{TreeNo}
use Rattle.tv_base.specs.declared.numbers.Version.{Version}
use Rattle.letter_types.specs.declared.acts.Act.{Act}
use Rattle.letter_types.specs.declared.acts.Act.TheVariants as acts
use Rattle.letter_types.specs.declared.bodies.Answer.{Answer}
use Rattle.letter_types.specs.declared.bodies.Answer.TheVariants.{Whole}
use Rattle.letter_types.specs.declared.bodies.Body.{Body}
use Rattle.letter_types.specs.declared.bodies.Body.TheVariants.{Root, Sub as SubLetter, Done, Go, Decide, Decided, Release, Reply, Turn, Show, Sweep, AskDone, AskAsked, Ask, Order}
use Rattle.letter_types.specs.declared.bodies.Notice.{Notice}
use Rattle.letter_types.specs.declared.bodies.Notice.TheVariants.{Did as DidNotice}
use Rattle.letter_types.specs.declared.entries.Outgoing.{Outgoing}
use Rattle.letter_types.specs.declared.votes.Vote.{Vote}
use Rattle.letter_types.specs.Steps.{Out}
use Rattle.tree_home.specs.declared.homes.Answered.{Answered}
use Rattle.tree_home.specs.HeldAnswers.{answer_when_acked}
use Rattle.tx_trees.specs.ScriptData.{ScriptData, client_of, node_of, subs_at, visited_by}
use Rattle.tx_trees.specs.declared.parts.TreeKind.{TreeKind}
use Rattle.tx_trees.specs.declared.parts.TreeKind.TheVariants.{Update, Read, Strict}
use Rattle.world_model.proofs.Epochs.{ask_each, order_each}
use Rattle.world_model.specs.Asked.{asked_ops, asked_version, tree_part}
use Rattle.world_model.specs.Children.{sub_letters}
use Rattle.world_model.specs.Core.{Core, Refusals}
use Rattle.world_model.specs.Counts.{tally}
use Rattle.world_model.specs.Done.{TreeOut, note_part, sub_sent, turned_if}
use Rattle.world_model.specs.Named.{is_named, is_strict_at, tree_kind_at}
use Rattle.world_model.specs.Node.{Effect, Node}
use Rattle.world_model.specs.Notices.{act_of, reply_letters, values_of}
use Rattle.world_model.specs.Reads.{getting}
use Rattle.world_model.specs.Strict.{answer_by, answer_letters, answered, core_by_kind, core_row, decided, locks_by, marks, none_refuses, note_core, noted_vote, refused_there, release_letters, to_each, voting}
use Rattle.world_model.specs.Updates.{touching}
use Rattle.world_model.specs.Votes.{vote_of}
use Rattle.world_model.proofs.Bags.{tally-append}
use Rattle.world_model.proofs.Scripts.{no_node}

-- a letter that asks for a subtransaction, or brings its notice
abbrev pub is_tree_letter : Body → Bool
is_tree_letter (Root t) = true
is_tree_letter (SubLetter t k v) = true
is_tree_letter (Done t k v notice) = true
is_tree_letter Go = false
is_tree_letter _ = false

-- the act of bearing a tree, or of a subtransaction
abbrev pub is_tree_act : Act → Bool
is_tree_act (acts.Born t v) = true
is_tree_act (acts.Did t k values) = true
is_tree_act (acts.Voted t k vote) = true
is_tree_act acts.Finished = false
is_tree_act _ = false

-- numbers that count no other letters, and no other acts
abbrev pub OfTreeLetters : (Outgoing → ℕ) → Type 0
OfTreeLetters f = (o : Outgoing) → is_tree_letter o.body ≡ false → f o ≡ 0

abbrev pub OfTreeActs : (Act → ℕ) → Type 0
OfTreeActs g = (a : Act) → is_tree_act a ≡ false → g a ≡ 0

-- what is sent for a letter that a node does in version v, where this is told of it: a Sub to each child, and the
-- notice; and the acts of that
abbrev pub sent_for : ScriptData → Version → Notice → Body → List Outgoing
sent_for s v notice (Root t) = sub_letters t.0 v.0 0 0 (subs_at s t.0)
sent_for s v notice (SubLetter t k w) = sub_sent s t.0 k.0 w.0 notice
sent_for s v notice _ = []

abbrev pub done_for : Version → Notice → Body → List Act
done_for v notice (Root t) = acts.Born t v ∷ act_of t (record { 0 = 0 }) notice ∷ []
done_for v notice (SubLetter t k w) = act_of t k notice ∷ []
done_for v notice _ = []

-- for a letter of this body that is done in version v these letters are sent, and these acts done, beside others that
-- are no tree's
pub record Works (s : ScriptData) (v : Version) (body : Body) (sent : List Outgoing) (does : List Act) : Type 0 where
  pub notice : Notice
  pub sends : (f : Outgoing → ℕ) → OfTreeLetters f → tally f sent ≡ tally f (sent_for s v notice body)
  pub acts : (g : Act → ℕ) → OfTreeActs g → tally g does ≡ tally g (done_for v notice body)

-- the version in which a letter is done: a read tree is born in its home's read version, any other in its update
-- version
abbrev pub kind_version : Core → Option TreeKind → Version
kind_version c (Some Read) = c.node.turns.read
kind_version c (Some Update) = c.node.turns.update
kind_version c _ = c.node.turns.update

abbrev pub work_version : ScriptData → Core → Body → Version
work_version s c (Root t) = kind_version c (tree_kind_at s t.0)
work_version s c (SubLetter t k v) = v
work_version s c _ = c.node.turns.update

-- The parts of a row.
turned_none : (g : Act → ℕ) (raises : Bool) (v : ℕ) → OfTreeActs g → tally g (turned_if raises v) ≡ 0
turned_none g true v none = omega (arith, none (acts.Turned (record { 0 = v })) refl)
turned_none g false v none = refl

-- a letter that asks for a subtransaction
abbrev pub is_asking : Body → Bool
is_asking (Root t) = true
is_asking (SubLetter t k v) = true
is_asking _ = false

part_works : (s : ScriptData) (p from : ℕ) (u : Version) (raises : Bool) (e : Effect) (body : Body) (st : Node) → is_asking body ≡ true
    → Works s (asked_version u body) body (tree_part s p from (asked_version u body) raises e body st).out.sent
    (tree_part s p from (asked_version u body) raises e body st).out.acts
part_works s p from u raises e (Root t) st is = record {
  notice = e.notice;
  sends = λ f none. refl;
  acts = λ g none. refl;
}
part_works s p from u raises e (SubLetter t k w) st is = record {
  notice = e.notice;
  sends = λ f none. refl;
  acts = λ g none. omega (arith, tally-append g (turned_if raises w.0) (act_of t k e.notice ∷ []), turned_none g raises w.0 none);
}
part_works s p from u raises e _ st is = absurd (cc is)

-- a letter that asks for none
rests : (s : ScriptData) (v : Version) (body : Body) (sent : List Outgoing) (does : List Act) → is_asking body ≡ false
    → ((f : Outgoing → ℕ) → OfTreeLetters f → tally f sent ≡ 0) → ((g : Act → ℕ) → OfTreeActs g → tally g does ≡ 0)
    → Works s v body sent does
rests s v (Root t) sent does is quiet none = absurd (cc is)
rests s v (SubLetter t k w) sent does is quiet none = absurd (cc is)
rests s v _ sent does is quiet none = record {
  notice = DidNotice [];
  sends = quiet;
  acts = none;
}

-- more letters and acts behind
more_works : (s : ScriptData) (v : Version) (body : Body) (sent more : List Outgoing) (does further : List Act)
    → ((f : Outgoing → ℕ) → OfTreeLetters f → tally f more ≡ 0) → ((g : Act → ℕ) → OfTreeActs g → tally g further ≡ 0)
    → Works s v body sent does → Works s v body (sent ++ more) (does ++ further)
more_works s v body sent more does further quiet none w = record {
  notice = w.notice;
  sends = λ f of. omega (arith, tally-append f sent more, quiet f of, w.sends f of);
  acts = λ g of. omega (arith, tally-append g does further, none g of, w.acts g of);
}

pub sends_works : (s : ScriptData) (v : Version) (body : Body) (sent more : List Outgoing) (does : List Act)
    → ((f : Outgoing → ℕ) → OfTreeLetters f → tally f more ≡ 0) → Works s v body sent does → Works s v body (sent ++ more) does
sends_works s v body sent more does quiet w = record {
  notice = w.notice;
  sends = λ f of. omega (arith, tally-append f sent more, quiet f of, w.sends f of);
  acts = w.acts;
}

-- Letters behind, of which a number counts none.
pub each_told : (f : Outgoing → ℕ) (body : Body) (qs : List ℕ) → ((q : ℕ) → f (record { to = record { 0 = q }; body = body }) ≡ 0)
    → tally f (to_each body qs) ≡ 0
each_told f body [] none = refl
each_told f body (q ∷ qs) none = omega (arith, none q, each_told f body qs none)

if_none : (f : Outgoing → ℕ) (b : Bool) (os : List Outgoing) → tally f os ≡ 0 → tally f (if b then os else []) ≡ 0
if_none f true os none = none
if_none f false os none = refl

pub releases_none : (s : ScriptData) (f : Outgoing → ℕ) (found : Option Answered)
    → ((q : ℕ) (t : TreeNo) → f (record { to = record { 0 = q }; body = Release t }) ≡ 0) → tally f (release_letters s found) ≡ 0
releases_none s f None none = refl
releases_none s f (Some a) none =
    if_none f (marks s a.tree.0) (to_each (Release a.tree) (visited_by s a.tree.0))
    (each_told f (Release a.tree) (visited_by s a.tree.0) (λ q. none q a.tree))

-- answers
abbrev pub OfNoReply : (Outgoing → ℕ) → Type 0
OfNoReply f = (q : ℕ) (t : TreeNo) (v : Version) (answer : Answer) → f (record { to = record { 0 = q }; body = Reply t v answer }) ≡ 0

pub replies_none : (client : ℕ) (f : Outgoing → ℕ) (found : Option Answered) → OfNoReply f → tally f (reply_letters client found) ≡ 0
replies_none client f None none = refl
replies_none client f (Some a) none = omega (arith, none client a.tree a.version (Whole a.values))

pub answers_none : (s : ScriptData) (rs : Refusals) (f : Outgoing → ℕ) (found : Option Answered) → OfNoReply f
    → tally f (answer_letters s rs found) ≡ 0
answers_none s rs f None none = refl
answers_none s rs f (Some a) none = omega (arith, none (client_of s) a.tree a.version (answer_by (rs a.tree.0) a))

-- numbers of a tree's letters count none of these
no_releases : (f : Outgoing → ℕ) → OfTreeLetters f → (q : ℕ) (t : TreeNo) → f (record { to = record { 0 = q }; body = Release t }) ≡ 0
no_releases f of q t = of (record { to = record { 0 = q }; body = Release t }) refl

no_replies : (f : Outgoing → ℕ) → OfTreeLetters f → OfNoReply f
no_replies f of q t v answer = of (record { to = record { 0 = q }; body = Reply t v answer }) refl

no_decides : (f : Outgoing → ℕ) (t : TreeNo) (v : Version) (commit : Bool) → OfTreeLetters f → (q : ℕ)
    → f (record { to = record { 0 = q }; body = Decide t v commit }) ≡ 0
no_decides f t v commit of q = of (record { to = record { 0 = q }; body = Decide t v commit }) refl

-- The rows of a core.
abbrev CoreWorks : ScriptData → Version → Body → Out Core → Type 0
CoreWorks s v body out = Works s v body out.sent out.acts

pick : (s : ScriptData) (v : Version) (body : Body) (b : Bool) (x y : Out Core) → CoreWorks s v body x → CoreWorks s v body y
    → CoreWorks s v body (if b then x else y)
pick s v body true x y l r = l
pick s v body false x y l r = r

-- behind what a tree's letter asks for: the Releases and the answer of a tree that isn't strict
answered_works : (s : ScriptData) (v : Version) (body : Body) (c : Core) (o : TreeOut) → Works s v body o.out.sent o.out.acts
    → CoreWorks s v body (answered s c o)
answered_works s v body c o w =
    sends_works s v body (o.out.sent ++ release_letters s o.answered) (reply_letters (client_of s) o.answered) o.out.acts
    (λ f of. replies_none (client_of s) f o.answered (no_replies f of))
    (sends_works s v body o.out.sent (release_letters s o.answered) o.out.acts (λ f of. releases_none s f o.answered (no_releases f of)) w)

-- and the decision of a strict tree
decided_works : (s : ScriptData) (v : Version) (body : Body) (c : Core) (o : TreeOut) (found : Option Answered) → Works s v body o.out.sent o.out.acts
    → CoreWorks s v body (decided s c o found)
decided_works s v body c o None w = w
decided_works s v body c o (Some a) w =
    let commit : Bool = none_refuses a.tree c.refusals in
    more_works s v body o.out.sent (to_each (Decide a.tree a.version commit) (visited_by s a.tree.0)) o.out.acts (acts.Decided a.tree commit ∷ [])
    (λ f of. each_told f (Decide a.tree a.version commit) (visited_by s a.tree.0) (no_decides f a.tree a.version commit of))
    (λ g of. omega (arith, of (acts.Decided a.tree commit) refl)) w

kind_works : (s : ScriptData) (p from : ℕ) (t : TreeNo) (body : Body) (kind : Option TreeKind) (c : Core) → is_asking body ≡ true
    → (kind ≡ None → ⊥) → CoreWorks s (asked_version (kind_version c kind) body) body (core_by_kind s p from t body kind c)
kind_works s p from t body (Some Update) c is there =
    let w : Version = asked_version c.node.turns.update body in
    let e : Effect = touching w (asked_ops s body) c.node.items in
    let raises : Bool = nat_lt c.node.turns.update.0 w.0 in
    answered_works s w body c (tree_part s p from w raises e body c.node)
    (part_works s p from c.node.turns.update raises e body c.node is)
kind_works s p from t body (Some Read) c is there =
    let w : Version = asked_version c.node.turns.read body in
    let e : Effect = getting w (asked_ops s body) c.node.items in
    answered_works s w body c (tree_part s p from w false e body c.node)
    (part_works s p from c.node.turns.read false e body c.node is)
kind_works s p from t body (Some Strict) c is there =
    let w : Version = asked_version c.node.turns.update body in
    let vote : Vote = vote_of c.locks c.node.items t w (asked_ops s body) in
    let e : Effect = voting vote c.node.items in
    let raises : Bool = nat_lt c.node.turns.update.0 w.0 in
    let o : TreeOut = tree_part s p from w raises e body c.node in
    let noted : Core = record c { locks = locks_by vote t (asked_ops s body) c.locks; refusals = noted_vote body vote c.refusals } in
    decided_works s w body noted o o.answered (part_works s p from c.node.turns.update raises e body c.node is)
kind_works s p from t body None c is there = absurd (there refl)

-- a notice at its home
note_works : (s : ScriptData) (from : ℕ) (t : TreeNo) (k : SubNo) (v : Version) (notice : Notice) (c : Core)
    → CoreWorks s c.node.turns.update (Done t k v notice) (note_core s from t k v notice c)
note_works s from t k v notice c =
    let body : Body = Done t k v notice in
    let u : Version = c.node.turns.update in
    let o : TreeOut = note_part from t.0 k.0 v.0 (values_of notice) c.node in
    let noted : Core = record c { refusals = refused_there t k notice c } in
    let none : Works s u body o.out.sent o.out.acts = rests s u body [] [] refl (λ f of. refl) (λ g of. refl) in
    pick s u body (is_strict_at s t.0) (decided s noted o o.answered) (answered s c o)
    (decided_works s u body noted o o.answered none) (answered_works s u body c o none)

-- a subtransaction that a node is asked for is there, so its tree has a kind
pub has_kind : (s : ScriptData) (p t k : ℕ) → p < s.nodes → (node_of s t k == p) ≡ true → tree_kind_at s t ≡ None → ⊥
has_kind s p t k lt here none =
    let same : node_of s t k ≡ p = grind (arith, nat_tests) in
    omega (arith, same, no_node s t k (slice_get s.trees t) refl none, lt)

-- one letter, and one act, that is no tree's
one_letter : (f : Outgoing → ℕ) (o : Outgoing) → OfTreeLetters f → is_tree_letter o.body ≡ false → tally f (o ∷ []) ≡ 0
one_letter f o of is = omega (arith, of o is)

one_act : (g : Act → ℕ) (a : Act) → OfTreeActs g → is_tree_act a ≡ false → tally g (a ∷ []) ≡ 0
one_act g a of is = omega (arith, of a is)

-- the row of a letter that names what belongs to the node
pub core_works : (s : ScriptData) (p from : ℕ) (body : Body) (c : Core) → p < s.nodes → is_named s p from body ≡ true
    → CoreWorks s (work_version s c body) body (core_row s p c from body)
core_works s p from (Root t) c lt named = kind_works s p from t (Root t) (tree_kind_at s t.0) c refl (has_kind s p t.0 0 lt named)
core_works s p from (SubLetter t k v) c lt named =
    kind_works s p from t (SubLetter t k v) (tree_kind_at s t.0) c refl
    (has_kind s p t.0 k.0 lt (left_true (node_of s t.0 k.0 == p) (nat_lt from s.nodes) named))
core_works s p from (Done t k v notice) c lt named = note_works s from t k v notice c
core_works s p from (Decide t v commit) c lt named =
    rests s c.node.turns.update (Decide t v commit) _ _ refl (λ f of. one_letter f _ of refl) (λ g of. one_act g _ of refl)
core_works s p from (Decided t v) c lt named =
    rests s c.node.turns.update (Decided t v) _ _ refl (λ f of. answers_none s c.refusals f (answer_when_acked t c.holds) (no_replies f of)) (λ g of. refl)
core_works s p from (Release t) c lt named = rests s c.node.turns.update (Release t) _ _ refl (λ f of. refl) (λ g of. one_act g _ of refl)
core_works s p from (Turn v) c lt named =
    rests s c.node.turns.update (Turn v) _ _ refl (λ f of. one_letter f _ of refl) (λ g of. turned_none g (nat_lt c.node.turns.update.0 v.0) v.0 of)
core_works s p from (Show v) c lt named = rests s c.node.turns.update (Show v) _ _ refl (λ f of. one_letter f _ of refl) (λ g of. one_act g _ of refl)
core_works s p from (Sweep v) c lt named = rests s c.node.turns.update (Sweep v) _ _ refl (λ f of. one_letter f _ of refl) (λ g of. one_act g _ of refl)
core_works s p from (AskDone v k) c lt named = rests s c.node.turns.update (AskDone v k) _ _ refl (λ f of. one_letter f _ of refl) (λ g of. refl)
core_works s p from (AskAsked v k) c lt named = rests s c.node.turns.update (AskAsked v k) _ _ refl (λ f of. one_letter f _ of refl) (λ g of. refl)
core_works s p from (Order e what v) c lt named =
    order_each (CoreWorks s c.node.turns.update (Order e what v)) s e what v c
    (rests s c.node.turns.update (Order e what v) _ _ refl (λ f of. refl) (λ g of. refl))
    (rests s c.node.turns.update (Order e what v) _ _ refl (λ f of. one_letter f _ of refl) (λ g of. refl))
    (λ is. rests s c.node.turns.update (Order e what v) _ _ refl (λ f of. one_letter f _ of refl) (λ g of. turned_none g (nat_lt c.node.turns.update.0 v.0) v.0 of))
    (λ is new. rests s c.node.turns.update (Order e what v) _ _ refl (λ f of. one_letter f _ of refl) (λ g of. one_act g _ of refl))
    (λ is new. rests s c.node.turns.update (Order e what v) _ _ refl (λ f of. one_letter f _ of refl) (λ g of. one_act g _ of refl))
core_works s p from (Ask e) c lt named =
    ask_each (CoreWorks s c.node.turns.update (Ask e)) s e c
    (rests s c.node.turns.update (Ask e) _ _ refl (λ f of. refl) (λ g of. refl))
    (rests s c.node.turns.update (Ask e) _ _ refl (λ f of. one_letter f _ of refl) (λ g of. refl))
core_works s p from _ c lt named = rests s c.node.turns.update _ [] [] refl (λ f of. refl) (λ g of. refl)
