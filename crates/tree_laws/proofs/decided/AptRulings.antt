-- What the row of a core decides on strict transactions, what it tells of that, and what it applies.
use Rattle.std.proofs.Common.{◌≡◌, ℕ, ◌+◌, ◌<◌, ◌==◌, ◌&&◌, Bool, true, false, List, [], ◌∷◌, ◌++◌, length, refl, sym, ap, subst, ◌∙◌, arith, Option, Some, None}
use Rattle.std.specs.Prelude.{if◌then◌else◌, nat_lt}
use Rattle.tv_base.specs.declared.numbers.ItemNo.{ItemNo}
use Rattle.tv_base.specs.declared.numbers.SubNo.{SubNo}
use Rattle.tv_base.specs.declared.numbers.TreeNo.{TreeNo}
use Rattle.tv_base.specs.declared.numbers.Version.{Version}
use Rattle.letter_types.specs.Steps.{Out, still}
use Rattle.letter_types.specs.declared.acts.Act.{Act}
use Rattle.letter_types.specs.declared.acts.Act.TheVariants as acts
use Rattle.letter_types.specs.declared.bodies.Body.{Body}
use Rattle.letter_types.specs.declared.bodies.Body.TheVariants.{Root, Sub as SubLetter, Done, Go, Decide, Decided, Release, Reply, Advanced, Turn, Show, Sweep, AskDone, AskAsked, Ask, Order}
use Rattle.letter_types.specs.declared.bodies.Notice.{Notice}
use Rattle.letter_types.specs.declared.bodies.Notice.TheVariants.{Did as DidNotice, Yes, No}
use Rattle.letter_types.specs.declared.entries.Outgoing.{Outgoing}
use Rattle.letter_types.specs.declared.votes.Vote.{Vote}
use Rattle.tree_home.proofs.Always.{forgotten-gone}
use Rattle.tree_home.specs.HeldAnswers.{answer_when_acked}
use Rattle.tree_home.specs.Homes.{Gets, OpenTrees, begun, home_in, misses, missing_of, noted}
use Rattle.tree_home.specs.declared.homes.Answered.{Answered}
use Rattle.tx_trees.specs.ScriptData.{ScriptData, client_of, home_of, subs_at, visited_by}
use Rattle.tx_trees.specs.declared.parts.Sub.{Sub}
use Rattle.tx_trees.specs.declared.parts.TreeKind.{TreeKind}
use Rattle.tx_trees.specs.declared.parts.TreeKind.TheVariants.{Update, Read, Strict}
use Rattle.world_model.proofs.Epochs.{ask_each, order_each}
use Rattle.world_model.specs.Asked.{asked_ops, asked_version, tree_part}
use Rattle.world_model.specs.Children.{done_letter, sub_letter, sub_letters}
use Rattle.world_model.specs.Client.{Client, client_finishes, client_row, next_after, nudge, submit, with_answer, with_end}
use Rattle.world_model.specs.Core.{Core, Refusals}
use Rattle.world_model.specs.Counts.{tally}
use Rattle.world_model.specs.Done.{TreeOut, note_part, turned_if}
use Rattle.world_model.specs.Named.{is_strict_at, tree_kind_at}
use Rattle.world_model.specs.Node.{Effect, Node}
use Rattle.world_model.specs.Notices.{act_of, answer_noted, homes_noted, reply_letters, values_of}
use Rattle.world_model.specs.Reads.{getting}
use Rattle.world_model.specs.Strict.{CoreKeeping, answered, core_by_kind, core_keeping, core_row, decided, locks_by, none_refuses, noted_vote, refused_there, release_letters, to_each, voting}
use Rattle.world_model.specs.Updates.{touching}
use Rattle.world_model.specs.Votes.{vote_of}
use Rattle.world_model.proofs.Bags.{tally-append}
use Rattle.world_model.proofs.Flows.{finish_none}
use Rattle.world_model.proofs.Keepings.{of_kept}
use Rattle.tree_laws.proofs.homes.Noting.{Last, More, Noting, misses_root, noting}
use Rattle.tree_laws.proofs.histories.Turns.{answers_none, is_asking, releases_none, replies_none}
use Rattle.world_model.proofs.Sends.{asked_each}
use Rattle.world_model.proofs.Notices.{answer_noted_tree}

-- a letter that tells a decision
abbrev pub is_decide : Body → Bool
is_decide (Decide t v commit) = true
is_decide Go = false
is_decide _ = false

-- the act of deciding on a tree, or of applying a decision
abbrev pub is_ruling : Act → Bool
is_ruling (acts.Decided t commit) = true
is_ruling (acts.Applied t commit) = true
is_ruling acts.Finished = false
is_ruling _ = false

-- numbers that count no other letters, and no other acts
abbrev pub OfDecides : (Outgoing → ℕ) → Type 0
OfDecides f = (o : Outgoing) → is_decide o.body ≡ false → f o ≡ 0

abbrev pub OfRulings : (Act → ℕ) → Type 0
OfRulings g = (a : Act) → is_ruling a ≡ false → g a ≡ 0

-- where the tree with this answer is decided on, with these noes: the act of that, and a letter to each node that it visits
abbrev pub ruled_acts : Refusals → Option Answered → List Act
ruled_acts rs None = []
ruled_acts rs (Some a) = acts.Decided a.tree (none_refuses a.tree rs) ∷ []

abbrev pub ruled_letters : ScriptData → Refusals → Option Answered → List Outgoing
ruled_letters s rs None = []
ruled_letters s rs (Some a) = to_each (Decide a.tree a.version (none_refuses a.tree rs)) (visited_by s a.tree.0)

-- the act of applying what a letter tells
abbrev pub applied_acts : Body → List Act
applied_acts (Decide t v commit) = acts.Applied t commit ∷ []
applied_acts Go = []
applied_acts _ = []

-- the letter by which a tree may be decided on at its home
abbrev pub Rules : TreeNo → Body → Type 0
Rules u (Root t) = u ≡ t
Rules u (Done t k v notice) = u ≡ t
Rules u Go = ⊥
Rules u _ = ⊥

-- its notice is one that the home misses
abbrev pub BringsMissed : ScriptData → Node → Body → Type 0
BringsMissed s st (Root t) = 0 < length (subs_at s t.0)
BringsMissed s st (Done t k v notice) = misses t k st.homes ≡ true
BringsMissed s st Go = ⊥
BringsMissed s st _ = ⊥

-- The row decides on the tree with this answer, which is strict and isn't open at its home then, and applies what its
-- letter tells. Where it decides on none, a strict tree stays open.
pub record RowRules (s : ScriptData) (c : Core) (body : Body) (out : Out Core) : Type 0 where
  pub found : Option Answered
  pub acts : (g : Act → ℕ) → OfRulings g → tally g out.acts ≡ tally g (ruled_acts out.state.refusals found) + tally g (applied_acts body)
  pub sends : (f : Outgoing → ℕ) → OfDecides f → tally f out.sent ≡ tally f (ruled_letters s out.state.refusals found)
  pub gone : (a : Answered) → found ≡ Some a → out.state.node.homes a.tree.0 ≡ None
  pub rules : (a : Answered) → found ≡ Some a → Rules a.tree body
  pub strict : (a : Answered) → found ≡ Some a → is_strict_at s a.tree.0 ≡ true
  pub stays : (u : TreeNo) → found ≡ None → Rules u body → is_strict_at s u.0 ≡ true → BringsMissed s c.node body
      → home_in u out.state.node.homes ≡ None → ⊥

-- An answered tree isn't open any more.
gone_noting : (t : TreeNo) (k : SubNo) (values : Gets) (hs : OpenTrees) (a : Answered) → Noting t k values hs
    → answer_noted t k values hs ≡ Some a → home_in t (homes_noted t k values hs) ≡ None
gone_noting t k values hs a (More after answer some) is = absurd (cc (answer, is))
gone_noting t k values hs a (Last b after answer here none) is = ap (home_in t) after ∙ forgotten-gone t hs

gone_by : (t : TreeNo) (k : SubNo) (values : Gets) (hs : OpenTrees) (a : Answered) (test : Bool) → misses t k hs ≡ test
    → answer_noted t k values hs ≡ Some a → home_in t (homes_noted t k values hs) ≡ None
gone_by t k values hs a true miss is = gone_noting t k values hs a (noting t k values hs miss) is
gone_by t k values hs a false miss is = let none : None ≡ Some a = rw miss at is in absurd (cc none)

noted_gone : (t : TreeNo) (k : SubNo) (values : Gets) (hs : OpenTrees) (a : Answered) → answer_noted t k values hs ≡ Some a
    → homes_noted t k values hs a.tree.0 ≡ None
noted_gone t k values hs a is =
    let its : a.tree ≡ t = answer_noted_tree t k values hs a is in
    ap (λ (u : TreeNo). homes_noted t k values hs u.0) its ∙ gone_by t k values hs a (misses t k hs) refl is

-- a tree that isn't answered with a notice that was missing is open
open_noting : (t : TreeNo) (k : SubNo) (values : Gets) (hs : OpenTrees) → Noting t k values hs → answer_noted t k values hs ≡ None
    → home_in t (homes_noted t k values hs) ≡ None → ⊥
open_noting t k values hs (More after answer some) none gone =
    let there : home_in t (noted t k values hs) ≡ None = ap (home_in t) (sym after) ∙ gone in
    omega (arith, some, ap missing_of there)
open_noting t k values hs (Last b after answer here last) none gone = absurd (cc (answer, none))

noted_open : (t : TreeNo) (k : SubNo) (values : Gets) (hs : OpenTrees) (u : TreeNo) → u ≡ t → misses t k hs ≡ true
    → answer_noted t k values hs ≡ None → home_in u (homes_noted t k values hs) ≡ None → ⊥
noted_open t k values hs u is miss none gone =
    open_noting t k values hs (noting t k values hs miss) none
    (subst (λ (x : TreeNo). home_in x (homes_noted t k values hs) ≡ None) is gone)

-- Letters and acts that are none of these.
sub_other : (f : Outgoing → ℕ) (u v parent i : ℕ) (x : Sub) (xs : List Sub) → OfDecides f → (test : Bool)
    → (nat_lt parent i && (x.parent.0 == parent)) ≡ test → tally f (sub_letters u v parent (i + 1) xs) ≡ 0
    → tally f (sub_letters u v parent i (x ∷ xs)) ≡ 0
sub_other f u v parent i x xs of true is rest =
    rw is (omega (arith, of (sub_letter x.node.0 u i v) refl, rest))
sub_other f u v parent i x xs of false is rest = rw is rest

subs_other : (f : Outgoing → ℕ) (u v parent i : ℕ) (xs : List Sub) → OfDecides f → tally f (sub_letters u v parent i xs) ≡ 0
subs_other f u v parent i [] of = refl
subs_other f u v parent i (x ∷ xs) of =
    sub_other f u v parent i x xs of (nat_lt parent i && (x.parent.0 == parent)) refl (subs_other f u v parent (i + 1) xs of)

told_other : (g : Act → ℕ) (t : TreeNo) (k : SubNo) (notice : Notice) → OfRulings g → g (act_of t k notice) ≡ 0
told_other g t k (DidNotice values) of = of (acts.Did t k values) refl
told_other g t k (Yes values) of = of (act_of t k (Yes values)) refl
told_other g t k (No cause) of = of (act_of t k (No cause)) refl

turned_other : (g : Act → ℕ) (raises : Bool) (v : ℕ) → OfRulings g → tally g (turned_if raises v) ≡ 0
turned_other g true v of = omega (arith, of (acts.Turned (record { 0 = v })) refl)
turned_other g false v of = refl

-- The parts of a row: none of these is among what they send and do.
record PartRules (s : ScriptData) (st : Node) (body : Body) (o : TreeOut) : Type 0 where
  acts : (g : Act → ℕ) → OfRulings g → tally g o.out.acts ≡ 0
  sends : (f : Outgoing → ℕ) → OfDecides f → tally f o.out.sent ≡ 0
  gone : (a : Answered) → o.answered ≡ Some a → o.out.state.homes a.tree.0 ≡ None
  rules : (a : Answered) → o.answered ≡ Some a → Rules a.tree body
  stays : (u : TreeNo) → o.answered ≡ None → Rules u body → BringsMissed s st body → home_in u o.out.state.homes ≡ None → ⊥

part_rules : (s : ScriptData) (p from : ℕ) (v : Version) (raises : Bool) (e : Effect) (body : Body) (st : Node) → is_asking body ≡ true
    → PartRules s st body (tree_part s p from v raises e body st)
part_rules s p from v raises e (Root t) st asks =
    let k : SubNo = record { 0 = 0 } in
    let hs : OpenTrees = begun t (length (subs_at s t.0)) v st.homes in
    record {
      acts = λ g of. omega (arith, of (acts.Born t v) refl, told_other g t k e.notice of);
      sends = λ f of. subs_other f t.0 v.0 0 0 (subs_at s t.0) of;
      gone = λ a is. noted_gone t k (values_of e.notice) hs a is;
      rules = λ a is. answer_noted_tree t k (values_of e.notice) hs a is;
      stays = λ u none is lt.
          noted_open t k (values_of e.notice) hs u is (misses_root t k (length (subs_at s t.0)) v st.homes lt) none;
    }
part_rules s p from v raises e (SubLetter t k w) st asks = record {
  acts = λ g of.
      omega (
        arith,
        tally-append g (turned_if raises v.0) (act_of t k e.notice ∷ []),
        turned_other g raises v.0 of,
        told_other g t k e.notice of,
      );
  sends = λ f of.
      omega (
        arith,
        tally-append f (sub_letters t.0 v.0 k.0 0 (subs_at s t.0)) (done_letter (home_of s t.0) t.0 k.0 v.0 e.notice ∷ []),
        subs_other f t.0 v.0 k.0 0 (subs_at s t.0) of,
        of (done_letter (home_of s t.0) t.0 k.0 v.0 e.notice) refl,
      );
  gone = λ a is. absurd (cc is);
  rules = λ a is. absurd (cc is);
  stays = λ u none is. absurd is;
}
part_rules s p from v raises e _ st asks = absurd (cc asks)

note_part_rules : (s : ScriptData) (from : ℕ) (t : TreeNo) (k : SubNo) (v : Version) (notice : Notice) (c : Core)
    → PartRules s c.node (Done t k v notice) (note_part from t.0 k.0 v.0 (values_of notice) c.node)
note_part_rules s from t k v notice c = record {
  acts = λ g of. refl;
  sends = λ f of. refl;
  gone = λ a is. noted_gone t k (values_of notice) c.node.homes a is;
  rules = λ a is. answer_noted_tree t k (values_of notice) c.node.homes a is;
  stays = λ u none is miss. noted_open t k (values_of notice) c.node.homes u is miss none;
}

-- a letter after which no tree is decided on: those that it might be about aren't strict
abbrev NotStrict : ScriptData → Body → Type 0
NotStrict s body = (u : TreeNo) → Rules u body → is_strict_at s u.0 ≡ false

rules_none : (s : ScriptData) (c : Core) (body : Body) (out : Out Core) → NotStrict s body
    → ((g : Act → ℕ) → OfRulings g → tally g out.acts ≡ tally g (applied_acts body))
    → ((f : Outgoing → ℕ) → OfDecides f → tally f out.sent ≡ 0) → RowRules s c body out
rules_none s c body out plain does sent = record {
  found = None;
  acts = λ g of. omega (arith, does g of);
  sends = sent;
  gone = λ a is. absurd (cc is);
  rules = λ a is. absurd (cc is);
  strict = λ a is. absurd (cc is);
  stays = λ u none is strict miss gone. let other = plain u is in absurd (cc (other, strict));
}

answered_rules : (s : ScriptData) (c d : Core) (body : Body) (o : TreeOut) → NotStrict s body → applied_acts body ≡ [] → PartRules s c.node body o
    → RowRules s c body (answered s d o)
answered_rules s c d body o plain none it =
    rules_none s c body (answered s d o) plain (λ g of. omega (arith, it.acts g of, ap (λ (xs : List Act). tally g xs) none))
    (λ f of.
    omega (
      arith,
      it.sends f of,
      tally-append f (o.out.sent ++ release_letters s o.answered) (reply_letters (client_of s) o.answered),
      tally-append f o.out.sent (release_letters s o.answered),
      releases_none s f o.answered (λ q t. of (record { to = record { 0 = q }; body = Release t }) refl),
      replies_none (client_of s) f o.answered (λ q t v answer. of (record { to = record { 0 = q }; body = Reply t v answer }) refl),
    ))

decided_rules : (s : ScriptData) (c d : Core) (body : Body) (o : TreeOut) (found : Option Answered)
    → ((u : TreeNo) → Rules u body → is_strict_at s u.0 ≡ true) → applied_acts body ≡ [] → o.answered ≡ found → PartRules s c.node body o
    → RowRules s c body (decided s d o found)
decided_rules s c d body o None strict none is it = record {
  found = None;
  acts = λ g of. omega (arith, it.acts g of, ap (λ (xs : List Act). tally g xs) none);
  sends = it.sends;
  gone = λ a same. absurd (cc same);
  rules = λ a same. absurd (cc same);
  strict = λ a same. absurd (cc same);
  stays = λ u same own so miss. it.stays u is own miss;
}
decided_rules s c d body o (Some a) strict none is it =
    let told : Body = Decide a.tree a.version (none_refuses a.tree d.refusals) in
    record {
      found = Some a;
      acts = λ g of.
          omega (
            arith,
            it.acts g of,
            tally-append g o.out.acts (acts.Decided a.tree (none_refuses a.tree d.refusals) ∷ []),
            ap (λ (xs : List Act). tally g xs) none,
          );
      sends = λ f of. omega (arith, it.sends f of, tally-append f o.out.sent (to_each told (visited_by s a.tree.0)));
      gone = λ b same. it.gone b (is ∙ same);
      rules = λ b same. it.rules b (is ∙ same);
      strict = λ b same. strict b.tree (it.rules b (is ∙ same));
      stays = λ u same. absurd (cc same);
    }

-- a letter that asks for a subtransaction of tree t, which is of this kind
own_kind : (s : ScriptData) (t : TreeNo) (body : Body) (b : Bool) → ((u : TreeNo) → Rules u body → u ≡ t) → is_strict_at s t.0 ≡ b
    → (u : TreeNo) → Rules u body → is_strict_at s u.0 ≡ b
own_kind s t body b own is u its = ap (λ (x : TreeNo). is_strict_at s x.0) (own u its) ∙ is

kind_rules : (s : ScriptData) (p from : ℕ) (t : TreeNo) (body : Body) (kind : Option TreeKind) (c : Core) → tree_kind_at s t.0 ≡ kind
    → is_asking body ≡ true → applied_acts body ≡ [] → ((u : TreeNo) → Rules u body → u ≡ t) → RowRules s c body (core_by_kind s p from t body kind c)
kind_rules s p from t body (Some Update) c is asks none own =
    let v : Version = asked_version c.node.turns.update body in
    let e : Effect = touching v (asked_ops s body) c.node.items in
    let raises : Bool = nat_lt c.node.turns.update.0 v.0 in
    let plain : is_strict_at s t.0 ≡ false = rw (is, is_strict_at) refl in
    let marked : Core = record c { locks = (core_by_kind s p from t body (Some Update) c).state.locks } in
    answered_rules s c marked body (tree_part s p from v raises e body c.node) (own_kind s t body false own plain) none
    (part_rules s p from v raises e body c.node asks)
kind_rules s p from t body (Some Read) c is asks none own =
    let v : Version = asked_version c.node.turns.read body in
    let e : Effect = getting v (asked_ops s body) c.node.items in
    let plain : is_strict_at s t.0 ≡ false = rw (is, is_strict_at) refl in
    answered_rules s c c body (tree_part s p from v false e body c.node) (own_kind s t body false own plain) none
    (part_rules s p from v false e body c.node asks)
kind_rules s p from t body (Some Strict) c is asks none own =
    let v : Version = asked_version c.node.turns.update body in
    let vote : Vote = vote_of c.locks c.node.items t v (asked_ops s body) in
    let e : Effect = voting vote c.node.items in
    let raises : Bool = nat_lt c.node.turns.update.0 v.0 in
    let o : TreeOut = tree_part s p from v raises e body c.node in
    let noted : Core = record c { locks = locks_by vote t (asked_ops s body) c.locks; refusals = noted_vote body vote c.refusals } in
    let strict : is_strict_at s t.0 ≡ true = rw (is, is_strict_at) refl in
    decided_rules s c noted body o o.answered (own_kind s t body true own strict) none refl (part_rules s p from v raises e body c.node asks)
kind_rules s p from t body None c is asks none own =
    let plain : is_strict_at s t.0 ≡ false = rw (is, is_strict_at) refl in
    rules_none s c body (core_by_kind s p from t body None c) (own_kind s t body false own plain)
    (λ g of. ap (λ (xs : List Act). tally g xs) (sym none)) (λ f of. refl)

-- a notice
note_rules : (s : ScriptData) (from : ℕ) (t : TreeNo) (k : SubNo) (v : Version) (notice : Notice) (c : Core) (test : Bool) → is_strict_at s t.0 ≡ test
    → RowRules s c (Done t k v notice)
    (if test then decided s (record c { refusals = refused_there t k notice c }) (note_part from t.0 k.0 v.0 (values_of notice) c.node) (note_part from t.0 k.0 v.0 (values_of notice) c.node).answered
    else answered s c (note_part from t.0 k.0 v.0 (values_of notice) c.node))
note_rules s from t k v notice c true strict =
    let o : TreeOut = note_part from t.0 k.0 v.0 (values_of notice) c.node in
    decided_rules s c (record c { refusals = refused_there t k notice c }) (Done t k v notice) o o.answered
    (own_kind s t (Done t k v notice) true (λ u its. its) strict) refl refl (note_part_rules s from t k v notice c)
note_rules s from t k v notice c false plain =
    let o : TreeOut = note_part from t.0 k.0 v.0 (values_of notice) c.node in
    answered_rules s c c (Done t k v notice) o (own_kind s t (Done t k v notice) false (λ u its. its) plain) refl
    (note_part_rules s from t k v notice c)

-- a letter that tells no decision, after which only this is done and sent
one_letter : (f : Outgoing → ℕ) (o : Outgoing) → OfDecides f → is_decide o.body ≡ false → tally f (o ∷ []) ≡ 0
one_letter f o of is = omega (arith, of o is)

one_act : (g : Act → ℕ) (a : Act) → OfRulings g → is_ruling a ≡ false → tally g (a ∷ []) ≡ 0
one_act g a of is = omega (arith, of a is)

pub core_rules : (s : ScriptData) (p from : ℕ) (body : Body) (c : Core) → RowRules s c body (core_row s p c from body)
core_rules s p from (Root t) c = kind_rules s p from t (Root t) (tree_kind_at s t.0) c refl refl refl (λ u its. its)
core_rules s p from (SubLetter t k v) c = kind_rules s p from t (SubLetter t k v) (tree_kind_at s t.0) c refl refl refl (λ u its. absurd its)
core_rules s p from (Done t k v notice) c = note_rules s from t k v notice c (is_strict_at s t.0) refl
core_rules s p from (Decide t v commit) c =
    rules_none s c (Decide t v commit) _ (λ u its. absurd its) (λ g of. refl) (λ f of. one_letter f _ of refl)
core_rules s p from (Decided t v) c =
    rules_none s c (Decided t v) _ (λ u its. absurd its) (λ g of. refl)
    (λ f of.
    answers_none s c.refusals f (answer_when_acked t c.holds) (λ q u w answer. of (record { to = record { 0 = q }; body = Reply u w answer }) refl))
core_rules s p from (Release t) c = rules_none s c (Release t) _ (λ u its. absurd its) (λ g of. one_act g _ of refl) (λ f of. refl)
core_rules s p from (Turn v) c =
    rules_none s c (Turn v) _ (λ u its. absurd its) (λ g of. turned_other g (nat_lt c.node.turns.update.0 v.0) v.0 of)
    (λ f of. one_letter f _ of refl)
core_rules s p from (Show v) c = rules_none s c (Show v) _ (λ u its. absurd its) (λ g of. one_act g _ of refl) (λ f of. one_letter f _ of refl)
core_rules s p from (Sweep v) c = rules_none s c (Sweep v) _ (λ u its. absurd its) (λ g of. one_act g _ of refl) (λ f of. one_letter f _ of refl)
core_rules s p from (AskDone v k) c = rules_none s c (AskDone v k) _ (λ u its. absurd its) (λ g of. refl) (λ f of. one_letter f _ of refl)
core_rules s p from (AskAsked v k) c = rules_none s c (AskAsked v k) _ (λ u its. absurd its) (λ g of. refl) (λ f of. one_letter f _ of refl)
core_rules s p from (Order e what v) c =
    order_each (RowRules s c (Order e what v)) s e what v c (rules_none s c (Order e what v) _ (λ u its. absurd its) (λ g of. refl) (λ f of. refl))
    (rules_none s c (Order e what v) _ (λ u its. absurd its) (λ g of. refl) (λ f of. one_letter f _ of refl))
    (λ is. rules_none s c (Order e what v) _ (λ u its. absurd its) (λ g of. turned_other g (nat_lt c.node.turns.update.0 v.0) v.0 of) (λ f of. one_letter f _ of refl))
    (λ is new. rules_none s c (Order e what v) _ (λ u its. absurd its) (λ g of. one_act g _ of refl) (λ f of. one_letter f _ of refl))
    (λ is new. rules_none s c (Order e what v) _ (λ u its. absurd its) (λ g of. one_act g _ of refl) (λ f of. one_letter f _ of refl))
core_rules s p from (Ask e) c =
    ask_each (RowRules s c (Ask e)) s e c (rules_none s c (Ask e) _ (λ u its. absurd its) (λ g of. refl) (λ f of. refl))
    (rules_none s c (Ask e) _ (λ u its. absurd its) (λ g of. refl) (λ f of. one_letter f _ of refl))
core_rules s p from Go c = rules_none s c Go _ (λ u its. absurd its) (λ g of. refl) (λ f of. refl)
core_rules s p from _ c = rules_none s c _ _ (λ u its. absurd its) (λ g of. refl) (λ f of. refl)

-- The acts of the client and of a node that keeps a letter.
hears_acts : (g : Act → ℕ) (s : ScriptData) (c : Client) (t : ℕ) (test : Bool) → g acts.Finished ≡ 0
    → tally g (if test then submit s (with_answer t c) (nudge s ∷ []) else still c).acts ≡ 0
hears_acts g s c t true none = finish_none g (client_finishes s (next_after s (with_answer t c)) (with_answer t c)) none
hears_acts g s c t false none = refl

pub client_acts : (g : Act → ℕ) (s : ScriptData) (c : Client) (body : Body) → g acts.Finished ≡ 0 → tally g (client_row s c body).acts ≡ 0
client_acts g s c Go none = finish_none g (client_finishes s (next_after s c) c) none
client_acts g s c (Reply t v answer) none = hears_acts g s c t.0 (nat_lt t.0 (length s.trees)) none
client_acts g s c (Advanced v) none = let d = with_end s v c in finish_none g (client_finishes s (next_after s d) d) none
client_acts g s c (Ask e) none = asked_each (λ (o : Out Client). tally g o.acts ≡ 0) s c e refl (λ is. refl)
client_acts g s c _ none = refl

-- numbers that count no act of keeping a letter
pub record CountsNoKeeping (g : Act → ℕ) : Type 0 where
  pub turned : (v : Version) → g (acts.Turned v) ≡ 0
  pub parked : (t : TreeNo) (k : SubNo) (i : ItemNo) (u : TreeNo) → g (acts.Parked t k i u) ≡ 0
  pub waits : (t : TreeNo) (v w : Version) → g (acts.Waits t v w) ≡ 0

parked_acts : (g : Act → ℕ) (raises : Bool) (v : ℕ) (a : Act) → CountsNoKeeping g → g a ≡ 0 → tally g (turned_if raises v ++ a ∷ []) ≡ 0
parked_acts g true v a none one = omega (arith, none.turned (record { 0 = v }), one)
parked_acts g false v a none one = omega (arith, one)

pub keeping_acts : (g : Act → ℕ) (s : ScriptData) (c : Core) (body : Body) (k : CoreKeeping) → CountsNoKeeping g → core_keeping s c body ≡ Some k
    → tally g k.acts ≡ 0
keeping_acts g s c body k none is =
    of_kept s c (λ (x : CoreKeeping). tally g x.acts ≡ 0) body k
    (record {
      parks = λ t j raises v m. parked_acts g raises v.0 (acts.Parked t j m.item m.holder) none (none.parked t j m.item m.holder);
      waits = λ t. omega (arith, none.waits t c.node.turns.update c.node.turns.read);
    })
    is

pub rulings_no_keeping : (g : Act → ℕ) → OfRulings g → CountsNoKeeping g
rulings_no_keeping g of = record {
  turned = λ v. of (acts.Turned v) refl;
  parked = λ t k i u. of (acts.Parked t k i u) refl;
  waits = λ t v w. of (acts.Waits t v w) refl;
}
