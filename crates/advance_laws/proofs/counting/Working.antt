-- What the row of a core makes of its versions, what it sends, and in which version, for a message of a transaction.
use Rattle.std.proofs.Common.{◌≡◌, ℕ, ◌+◌, ◌<◌, ◌==◌, ◌&&◌, Bool, true, false, List, [], ◌∷◌, ◌++◌, length, refl, sym, ap, subst, ◌∙◌, arith, Option, Some, None}
use Rattle.std.specs.Prelude.{if◌then◌else◌, nat_lt, slice_get}
use Rattle.std.proofs.lemmas.Bool.Decides.{nat_tests}
use Rattle.tv_base.proofs.Truths.{same_test}
use Rattle.tv_base.specs.declared.numbers.SubNo.{SubNo}
use Rattle.tv_base.specs.declared.numbers.TreeNo.{TreeNo}
use Rattle.tv_base.specs.declared.numbers.Version.{Version}
use Rattle.letter_types.specs.declared.bodies.Body.{Body}
use Rattle.letter_types.specs.declared.bodies.Body.TheVariants.{Root, Sub as SubLetter, Done, Reply, Decide, Decided, Release, Wake}
use Rattle.letter_types.specs.declared.bodies.Notice.{Notice}
use Rattle.letter_types.specs.declared.entries.Outgoing.{Outgoing}
use Rattle.letter_types.specs.declared.kept.KeptLetter.{KeptLetter}
use Rattle.letter_types.specs.declared.kept.KeepReason.{KeepReason}
use Rattle.letter_types.specs.declared.votes.Vote.{Vote}
use Rattle.letter_types.specs.Kept.{wakes}
use Rattle.letter_types.specs.Steps.{Out}
use Rattle.nc_locks.specs.declared.modes.Met.{Met}
use Rattle.nc_locks.specs.Locks.{with_locks}
use Rattle.node_versions.specs.declared.turns.Turns.{Turns}
use Rattle.tree_home.specs.HeldAnswers.{answer_when_acked}
use Rattle.tree_home.specs.Homes.{Gets, OpenTrees, answer_of, answer_with, begun, home_in, misses_of, new_tree}
use Rattle.tree_home.specs.declared.homes.Answered.{Answered}
use Rattle.tree_home.specs.declared.homes.OpenTree.{OpenTree}
use Rattle.tx_trees.specs.ScriptData.{ScriptData, client_of, home_of, is_read, reads, subs_at, visited_by}
use Rattle.tx_trees.specs.declared.parts.Sub.{Sub}
use Rattle.tx_trees.specs.declared.parts.Tree.{Tree}
use Rattle.tx_trees.specs.declared.parts.TreeKind.{TreeKind}
use Rattle.tx_trees.specs.declared.parts.TreeKind.TheVariants.{Update, Read, Strict}
use Rattle.world_model.specs.Asked.{asked_ops, tree_part}
use Rattle.world_model.specs.Children.{done_letter, sub_letters}
use Rattle.world_model.specs.Core.{Core, Refusals}
use Rattle.world_model.specs.Counts.{Each}
use Rattle.world_model.specs.Done.{TreeOut, note_part, raised_if, sub_sent}
use Rattle.world_model.specs.Named.{is_strict_at, tree_kind_at}
use Rattle.world_model.specs.Node.{Effect, Node}
use Rattle.world_model.specs.Notices.{answer_noted, reply_letters, values_of}
use Rattle.world_model.specs.Reads.{getting}
use Rattle.world_model.specs.Strict.{CoreKeeping, answer_letters, answered, core_by_kind, core_keeping, core_row, decided, is_born_now, kept_by_kind, locks_by, marks, marks_of, meets, none_refuses, note_core, noted_vote, parked_if, refused_there, release_letters, root_waiting, to_each, voting}
use Rattle.world_model.specs.Updates.{touching}
use Rattle.world_model.specs.Votes.{vote_of}
use Rattle.world_model.proofs.Every.{each_append}
use Rattle.world_model.proofs.KeptThere.{OfKeeping}

-- a letter of trees that a node may take
abbrev pub IsOfTrees : Body → Type 0
IsOfTrees (Root t) = Unit {0}
IsOfTrees (SubLetter t k v) = Unit {0}
IsOfTrees (Done t k v notice) = Unit {0}
IsOfTrees (Decide t v commit) = Unit {0}
IsOfTrees (Decided t v) = Unit {0}
IsOfTrees (Release t) = Unit {0}
IsOfTrees (Wake t k) = Unit {0}
IsOfTrees _ = ⊥

-- the version in which a node does a letter: a read tree's root takes the version that is read and any other root that
-- which is updated, and another letter brings its own
abbrev pub root_version : ScriptData → Node → ℕ → Version
root_version s st t = if reads s t then st.turns.read else st.turns.update

abbrev pub done_version : ScriptData → Node → Body → Version
done_version s st (Root t) = root_version s st t.0
done_version s st (SubLetter t k v) = v
done_version s st (Done t k v notice) = v
done_version s st (Decide t v commit) = v
done_version s st (Decided t v) = v
done_version s st _ = st.turns.update

-- a letter that asks for a subtransaction of tree t
abbrev pub AsksOf : TreeNo → Body → Type 0
AsksOf t (Root u) = u ≡ t
AsksOf t (SubLetter u k v) = u ≡ t
AsksOf t _ = ⊥

-- what is sent where a node does this letter: a Sub is of the same tree, and counted letters carry the version in which
-- the letter is done
abbrev pub SentIn : ScriptData → Node → Body → Body → Type 0
SentIn s st does (SubLetter t k v) = AsksOf t does × (v ≡ done_version s st does)
SentIn s st does (Done t k v notice) = v ≡ done_version s st does
SentIn s st does (Decide t v commit) = v ≡ done_version s st does
SentIn s st does (Decided t v) = v ≡ done_version s st does
SentIn s st does (Reply t v answer) = Unit {0}
SentIn s st does (Release t) = Unit {0}
SentIn s st does (Wake t k) = Unit {0}
SentIn s st does _ = ⊥

abbrev pub AreSentIn : ScriptData → Node → Body → List Outgoing → Type 0
AreSentIn s st does os = Each (λ (o : Outgoing). SentIn s st does o.body) os

-- a Sub in version v, of a tree that isn't a read tree
abbrev pub IsRaiser : ScriptData → ℕ → Body → Type 0
IsRaiser s v (SubLetter t k w) = (w.0 ≡ v) × (reads s t.0 ≡ false)
IsRaiser s v _ = ⊥

-- a node's versions stay, or this letter raises the one that is updated
pub record RaisesBy (s : ScriptData) (old new : Turns) (does : Body) : Type 0 where
  pub raises : Bool
  pub version : ℕ
  pub turns : new ≡ raised_if raises version old
  pub higher : raises ≡ true → old.update.0 < version
  pub by : raises ≡ true → IsRaiser s version does

-- a step of a core that does so
pub record WorksOn (s : ScriptData) (c : Core) (does : Body) (out : Out Core) : Type 0 where
  pub turns : RaisesBy s c.node.turns out.state.node.turns does
  pub sent : AreSentIn s c.node does out.sent

-- The parts of what is sent.
sent_both : (s : ScriptData) (st : Node) (does : Body) (os more : List Outgoing) → AreSentIn s st does os → AreSentIn s st does more
    → AreSentIn s st does (os ++ more)
sent_both s st does os more a b = each_append (λ (o : Outgoing). SentIn s st does o.body) os more a b

child_sent : (s : ScriptData) (st : Node) (does : Body) (t : TreeNo) (v : Version) (parent i : ℕ) (x : Sub) (xs : List Sub)
    → AsksOf t does → v ≡ done_version s st does → AreSentIn s st does (sub_letters t.0 v.0 parent (i + 1) xs)
    → (test : Bool) → (nat_lt parent i && (x.parent.0 == parent)) ≡ test → AreSentIn s st does (sub_letters t.0 v.0 parent i (x ∷ xs))
child_sent s st does t v parent i x xs asks is rest true at = rw at ((asks, is), rest)
child_sent s st does t v parent i x xs asks is rest false at = rw at rest

children_sent : (s : ScriptData) (st : Node) (does : Body) (t : TreeNo) (v : Version) (parent i : ℕ) (xs : List Sub) → AsksOf t does
    → v ≡ done_version s st does → AreSentIn s st does (sub_letters t.0 v.0 parent i xs)
children_sent s st does t v parent i [] asks is = tt
children_sent s st does t v parent i (x ∷ xs) asks is =
    child_sent s st does t v parent i x xs asks is (children_sent s st does t v parent (i + 1) xs asks is)
    (nat_lt parent i && (x.parent.0 == parent)) refl

told_sent : (s : ScriptData) (st : Node) (does body : Body) (qs : List ℕ) → SentIn s st does body → AreSentIn s st does (to_each body qs)
told_sent s st does body [] one = tt
told_sent s st does body (q ∷ qs) one = (one, told_sent s st does body qs one)

if_sent : (s : ScriptData) (st : Node) (does : Body) (b : Bool) (os : List Outgoing) → AreSentIn s st does os
    → AreSentIn s st does (if b then os else [])
if_sent s st does true os all = all
if_sent s st does false os all = tt

releases_sent : (s : ScriptData) (st : Node) (does : Body) (found : Option Answered) → AreSentIn s st does (release_letters s found)
releases_sent s st does None = tt
releases_sent s st does (Some a) =
    if_sent s st does (marks s a.tree.0) (to_each (Release a.tree) (visited_by s a.tree.0))
    (told_sent s st does (Release a.tree) (visited_by s a.tree.0) tt)

replies_sent : (s : ScriptData) (st : Node) (does : Body) (client : ℕ) (found : Option Answered)
    → AreSentIn s st does (reply_letters client found)
replies_sent s st does client None = tt
replies_sent s st does client (Some a) = (tt, tt)

answers_sent : (s : ScriptData) (st : Node) (does : Body) (rs : Refusals) (found : Option Answered)
    → AreSentIn s st does (answer_letters s rs found)
answers_sent s st does rs None = tt
answers_sent s st does rs (Some a) = (tt, tt)

wake_sent : (s : ScriptData) (st : Node) (does : Body) (b : Bool) (o : Outgoing) (os : List Outgoing) → SentIn s st does o.body
    → AreSentIn s st does os → AreSentIn s st does (if b then o ∷ os else os)
wake_sent s st does true o os one rest = (one, rest)
wake_sent s st does false o os one rest = rest

pub wakes_sent : (s : ScriptData) (st : Node) (does : Body) (test : KeepReason → Bool) (kept : List KeptLetter)
    → AreSentIn s st does (wakes test kept)
wakes_sent s st does test [] = tt
wakes_sent s st does test (x ∷ xs) = wake_sent s st does (test x.why) _ (wakes test xs) tt (wakes_sent s st does test xs)

-- An answer carries the version of its tree, which is open.
with_version : (t : TreeNo) (h : OpenTree) (vs : Option Gets) (a : Answered) → answer_with t h vs ≡ Some a → a.version ≡ h.version
with_version t h None a is = absurd (cc is)
with_version t h (Some vs) a is = grind arith

answered_by : (t : TreeNo) (k : SubNo) (vs : Gets) (o : Option OpenTree) (a : Answered) → (if misses_of k o then answer_of t k vs o else None) ≡ Some a
    → (h : OpenTree) × (o ≡ Some h) × (a.version ≡ h.version)
answered_by t k vs None a is = absurd (cc is)
answered_by t k vs (Some h) a is = (h, refl, by (misses_of k (Some h)) is) where
  by : (test : Bool) → (if test then answer_of t k vs (Some h) else None) ≡ Some a → a.version ≡ h.version
  by true at = with_version t h _ a at
  by false at = absurd (cc at)

pub answered_open : (t : TreeNo) (k : SubNo) (vs : Gets) (hs : OpenTrees) (a : Answered) → answer_noted t k vs hs ≡ Some a
    → (h : OpenTree) × (home_in t hs ≡ Some h) × (a.version ≡ h.version)
answered_open t k vs hs a is = answered_by t k vs (home_in t hs) a is

-- where the tree has just begun
opened_version : (h : OpenTree) (n : ℕ) (v : Version) → Some h ≡ Some (new_tree n v) → h.version ≡ v
opened_version h n v is = let same : h ≡ new_tree n v = cc is in ap (λ (x : OpenTree). x.version) same

begun_there : (t : TreeNo) (n : ℕ) (v : Version) (hs : OpenTrees) → home_in t (begun t n v hs) ≡ Some (new_tree n v)
begun_there t n v hs = rw (same_test t.0) refl

-- it is that with which it begins
begun_version : (t : TreeNo) (k : SubNo) (n : ℕ) (v : Version) (vs : Gets) (hs : OpenTrees) (a : Answered)
    → answer_noted t k vs (begun t n v hs) ≡ Some a → a.version ≡ v
begun_version t k n v vs hs a is =
    let (h, at, same) = answered_open t k vs (begun t n v hs) a is in
    same ∙ opened_version h n v (sym at ∙ begun_there t n v hs)

-- The parts of a step.
stays : (s : ScriptData) (turns : Turns) (does : Body) → RaisesBy s turns turns does
stays s turns does = record {
  raises = false;
  version = 0;
  turns = refl;
  higher = λ is. absurd (cc is);
  by = λ is. absurd (cc is);
}

raises_if : (s : ScriptData) (turns : Turns) (t : TreeNo) (k : SubNo) (v : Version) → reads s t.0 ≡ false
    → RaisesBy s turns (raised_if (nat_lt turns.update.0 v.0) v.0 turns) (SubLetter t k v)
raises_if s turns t k v other = record {
  raises = nat_lt turns.update.0 v.0;
  version = v.0;
  turns = refl;
  higher = λ is. grind (arith, nat_tests);
  by = λ is. (refl, other);
}

answered_sent : (s : ScriptData) (st : Node) (does : Body) (c : Core) (o : TreeOut) → AreSentIn s st does o.out.sent
    → AreSentIn s st does (answered s c o).sent
answered_sent s st does c o all =
    sent_both s st does (o.out.sent ++ release_letters s o.answered) (reply_letters (client_of s) o.answered)
    (sent_both s st does o.out.sent (release_letters s o.answered) all (releases_sent s st does o.answered))
    (replies_sent s st does (client_of s) o.answered)

-- an answer, if there is one, is in the version in which the letter is done
abbrev AnswersIn : ScriptData → Node → Body → Option Answered → Type 0
AnswersIn s st does found = (a : Answered) → found ≡ Some a → a.version ≡ done_version s st does

decided_sent : (s : ScriptData) (st : Node) (does : Body) (c : Core) (o : TreeOut) (found : Option Answered) → AnswersIn s st does found
    → AreSentIn s st does o.out.sent → AreSentIn s st does (decided s c o found).sent
decided_sent s st does c o None own all = all
decided_sent s st does c o (Some a) own all =
    let told : Body = Decide a.tree a.version (none_refuses a.tree c.refusals) in
    sent_both s st does o.out.sent (to_each told (visited_by s a.tree.0)) all (told_sent s st does told (visited_by s a.tree.0) (own a refl))

pub decided_turns : (s : ScriptData) (c : Core) (o : TreeOut) (found : Option Answered)
    → (decided s c o found).state.node.turns ≡ o.out.state.turns
decided_turns s c o None = refl
decided_turns s c o (Some a) = refl

-- The kind of a tree.
pub reads_by : (s : ScriptData) (t : ℕ) (kind : TreeKind) (found : Option Tree) → slice_get s.trees t ≡ found → tree_kind_at s t ≡ Some kind
    → reads s t ≡ is_read kind
reads_by s t kind None at is = absurd (let none : None ≡ Some kind = rw (at, tree_kind_at) at is in cc none)
reads_by s t kind (Some tree) at is =
    let same : Some tree.kind ≡ Some kind = rw (at, tree_kind_at) at is in
    let one : tree.kind ≡ kind = cc same in
    rw (at, reads) (ap is_read one)

reads_kind : (s : ScriptData) (t : ℕ) (kind : TreeKind) → tree_kind_at s t ≡ Some kind → reads s t ≡ is_read kind
reads_kind s t kind is = reads_by s t kind (slice_get s.trees t) refl is

updating : (s : ScriptData) (st : Node) (t : ℕ) → reads s t ≡ false → st.turns.update ≡ root_version s st t
updating s st t is = rw is refl

reading : (s : ScriptData) (st : Node) (t : ℕ) → reads s t ≡ true → st.turns.read ≡ root_version s st t
reading s st t is = rw is refl

-- The rows of a core.

-- a root in version v
root_sent : (s : ScriptData) (st : Node) (t : TreeNo) (v : Version) → v ≡ root_version s st t.0
    → AreSentIn s st (Root t) (sub_letters t.0 v.0 0 0 (subs_at s t.0))
root_sent s st t v is = children_sent s st (Root t) t v 0 0 (subs_at s t.0) refl is

root_works : (s : ScriptData) (p from : ℕ) (t : TreeNo) (kind : Option TreeKind) (c : Core) → tree_kind_at s t.0 ≡ kind
    → WorksOn s c (Root t) (core_by_kind s p from t (Root t) kind c)
root_works s p from t (Some Update) c is =
    let st : Node = c.node in
    let v : Version = st.turns.update in
    let e : Effect = touching v (asked_ops s (Root t)) st.items in
    record {
      turns = stays s st.turns (Root t);
      sent =
          answered_sent s st (Root t) (record c { locks = with_locks t (marks_of s (asked_ops s (Root t))) c.locks })
          (tree_part s p from v (nat_lt v.0 v.0) e (Root t) st)
          (root_sent s st t v (updating s st t.0 (reads_kind s t.0 Update is)));
    }
root_works s p from t (Some Read) c is =
    let st : Node = c.node in
    let v : Version = st.turns.read in
    let e : Effect = getting v (asked_ops s (Root t)) st.items in
    record {
      turns = stays s st.turns (Root t);
      sent =
          answered_sent s st (Root t) c (tree_part s p from v false e (Root t) st)
          (root_sent s st t v (reading s st t.0 (reads_kind s t.0 Read is)));
    }
root_works s p from t (Some Strict) c is =
    let st : Node = c.node in
    let v : Version = st.turns.update in
    let vote : Vote = vote_of c.locks st.items t v (asked_ops s (Root t)) in
    let e : Effect = voting vote st.items in
    let o : TreeOut = tree_part s p from v (nat_lt v.0 v.0) e (Root t) st in
    let noted : Core =
    record c { locks = locks_by vote t (asked_ops s (Root t)) c.locks; refusals = noted_vote (Root t) vote c.refusals } in
    let here : v ≡ root_version s st t.0 = updating s st t.0 (reads_kind s t.0 Strict is) in
    record {
      turns =
          subst (λ (turns : Turns). RaisesBy s st.turns turns (Root t)) (sym (decided_turns s noted o o.answered)) (stays s st.turns (Root t));
      sent =
          decided_sent s st (Root t) noted o o.answered
          (λ a at. begun_version t (record { 0 = 0 }) (length (subs_at s t.0)) v (values_of e.notice) st.homes a at ∙ here)
          (root_sent s st t v here);
    }
root_works s p from t None c is = record { turns = stays s c.node.turns (Root t); sent = tt }

-- another subtransaction
sub_letters_sent : (s : ScriptData) (st : Node) (t : TreeNo) (k : SubNo) (v : Version) (notice : Notice)
    → AreSentIn s st (SubLetter t k v) (sub_sent s t.0 k.0 v.0 notice)
sub_letters_sent s st t k v notice =
    sent_both s st (SubLetter t k v) (sub_letters t.0 v.0 k.0 0 (subs_at s t.0)) (done_letter (home_of s t.0) t.0 k.0 v.0 notice ∷ [])
    (children_sent s st (SubLetter t k v) t v k.0 0 (subs_at s t.0) refl refl) (refl, tt)

-- of a tree that isn't strict, which isn't answered then
other_sent : (s : ScriptData) (st : Node) (t : TreeNo) (k : SubNo) (v : Version) (notice : Notice)
    → AreSentIn s st (SubLetter t k v) ((sub_sent s t.0 k.0 v.0 notice ++ []) ++ [])
other_sent s st t k v notice =
    let does : Body = SubLetter t k v in
    let os : List Outgoing = sub_sent s t.0 k.0 v.0 notice in
    sent_both s st does (os ++ []) [] (sent_both s st does os [] (sub_letters_sent s st t k v notice) tt) tt

sub_works : (s : ScriptData) (p from : ℕ) (t : TreeNo) (k : SubNo) (v : Version) (kind : Option TreeKind) (c : Core)
    → tree_kind_at s t.0 ≡ kind → WorksOn s c (SubLetter t k v) (core_by_kind s p from t (SubLetter t k v) kind c)
sub_works s p from t k v (Some Update) c is = record {
  turns = raises_if s c.node.turns t k v (reads_kind s t.0 Update is);
  sent = other_sent s c.node t k v (touching v (asked_ops s (SubLetter t k v)) c.node.items).notice;
}
sub_works s p from t k v (Some Read) c is = record {
  turns = stays s c.node.turns (SubLetter t k v);
  sent = other_sent s c.node t k v (getting v (asked_ops s (SubLetter t k v)) c.node.items).notice;
}
sub_works s p from t k v (Some Strict) c is =
    let vote : Vote = vote_of c.locks c.node.items t v (asked_ops s (SubLetter t k v)) in
    record {
      turns = raises_if s c.node.turns t k v (reads_kind s t.0 Strict is);
      sent = sub_letters_sent s c.node t k v (voting vote c.node.items).notice;
    }
sub_works s p from t k v None c is = record { turns = stays s c.node.turns (SubLetter t k v); sent = tt }

-- a notice answers its tree in the version that it carries
abbrev pub AnswersAt : Core → Body → Type 0
AnswersAt c (Done t k v notice) = (a : Answered) → answer_noted t k (values_of notice) c.node.homes ≡ Some a → a.version ≡ v
AnswersAt c _ = Unit {0}

pick : (s : ScriptData) (c : Core) (does : Body) (b : Bool) (x y : Out Core) → WorksOn s c does x → WorksOn s c does y
    → WorksOn s c does (if b then x else y)
pick s c does true x y l r = l
pick s c does false x y l r = r

note_works : (s : ScriptData) (from : ℕ) (t : TreeNo) (k : SubNo) (v : Version) (notice : Notice) (c : Core)
    → AnswersAt c (Done t k v notice) → WorksOn s c (Done t k v notice) (note_core s from t k v notice c)
note_works s from t k v notice c own =
    let st : Node = c.node in
    let does : Body = Done t k v notice in
    let o : TreeOut = note_part from t.0 k.0 v.0 (values_of notice) st in
    let noted : Core = record c { refusals = refused_there t k notice c } in
    pick s c does (is_strict_at s t.0) (decided s noted o o.answered) (answered s c o) (record {
      turns = subst (λ (turns : Turns). RaisesBy s st.turns turns does) (sym (decided_turns s noted o o.answered)) (stays s st.turns does);
      sent = decided_sent s st does noted o o.answered (λ a at. own a at) tt;
    }) (record { turns = stays s st.turns does; sent = answered_sent s st does c o tt })

-- the row of a letter of trees
pub core_works : (s : ScriptData) (p from : ℕ) (body : Body) (c : Core) → IsOfTrees body → AnswersAt c body
    → WorksOn s c body (core_row s p c from body)
core_works s p from (Root t) c of own = root_works s p from t (tree_kind_at s t.0) c refl
core_works s p from (SubLetter t k v) c of own = sub_works s p from t k v (tree_kind_at s t.0) c refl
core_works s p from (Done t k v notice) c of own = note_works s from t k v notice c own
core_works s p from (Decide t v commit) c of own = record { turns = stays s c.node.turns (Decide t v commit); sent = (refl, tt) }
core_works s p from (Decided t v) c of own = record {
  turns = stays s c.node.turns (Decided t v);
  sent = answers_sent s c.node (Decided t v) c.refusals (answer_when_acked t c.holds);
}
core_works s p from (Release t) c of own = record { turns = stays s c.node.turns (Release t); sent = tt }
core_works s p from (Wake t k) c of own = record { turns = stays s c.node.turns (Wake t k); sent = tt }
core_works s p from _ c of own = absurd of

-- A letter that is kept.
abbrev KeepsTurns : ScriptData → Core → Body → CoreKeeping → Type 0
KeepsTurns s c does k = RaisesBy s c.node.turns k.state.node.turns does

root_parks : (s : ScriptData) (c : Core) (t : TreeNo) (met : Option Met)
    → OfKeeping (KeepsTurns s c (Root t)) (parked_if t (record { 0 = 0 }) false c.node.turns.update met c)
root_parks s c t None = tt
root_parks s c t (Some met) = stays s c.node.turns (Root t)

root_waits : (s : ScriptData) (c : Core) (t : TreeNo) (b : Bool)
    → OfKeeping (KeepsTurns s c (Root t)) (if b then None else Some (root_waiting t c))
root_waits s c t true = tt
root_waits s c t false = stays s c.node.turns (Root t)

root_keeps : (s : ScriptData) (c : Core) (t : TreeNo) (kind : Option TreeKind)
    → OfKeeping (KeepsTurns s c (Root t)) (kept_by_kind s c t (Root t) kind)
root_keeps s c t (Some Update) = root_parks s c t (meets s t (asked_ops s (Root t)) c)
root_keeps s c t (Some Strict) = root_waits s c t (is_born_now c.node)
root_keeps s c t (Some Read) = tt
root_keeps s c t None = tt

sub_parks : (s : ScriptData) (c : Core) (t : TreeNo) (k : SubNo) (v : Version) (met : Option Met) → reads s t.0 ≡ false
    → OfKeeping (KeepsTurns s c (SubLetter t k v)) (parked_if t k (nat_lt c.node.turns.update.0 v.0) v met c)
sub_parks s c t k v None other = tt
sub_parks s c t k v (Some met) other = raises_if s c.node.turns t k v other

sub_keeps : (s : ScriptData) (c : Core) (t : TreeNo) (k : SubNo) (v : Version) (kind : Option TreeKind) → tree_kind_at s t.0 ≡ kind
    → OfKeeping (KeepsTurns s c (SubLetter t k v)) (kept_by_kind s c t (SubLetter t k v) kind)
sub_keeps s c t k v (Some Update) is = sub_parks s c t k v (meets s t (asked_ops s (SubLetter t k v)) c) (reads_kind s t.0 Update is)
sub_keeps s c t k v (Some Strict) is = tt
sub_keeps s c t k v (Some Read) is = tt
sub_keeps s c t k v None is = tt

-- what a core makes of its versions where it keeps a letter
pub keeps_turns : (s : ScriptData) (c : Core) (body : Body)
    → OfKeeping (λ (k : CoreKeeping). RaisesBy s c.node.turns k.state.node.turns body) (core_keeping s c body)
keeps_turns s c (Root t) = root_keeps s c t (tree_kind_at s t.0)
keeps_turns s c (SubLetter t k v) = sub_keeps s c t k v (tree_kind_at s t.0) refl
keeps_turns s c _ = tt
