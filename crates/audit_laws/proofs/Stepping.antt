-- What a core's row makes of what is gathered, sent and done: all of it is of the script.
use Rattle.std.proofs.Common.{ℕ, ◌≡◌, ◌+◌, ◌==◌, ◌&&◌, Bool, true, false, List, [], ◌∷◌, ◌++◌, refl, sym, ap, subst, Option, Some, None}
use Rattle.std.specs.Prelude.{if◌then◌else◌, length, nat_lt, slice_get}
use Rattle.std.specs.List.{AllByRecursion}
use Rattle.std.specs.Option.{IfSome}
use Rattle.tv_base.specs.declared.numbers.SubNo.{SubNo}
use Rattle.tv_base.specs.declared.numbers.TreeNo.{TreeNo}
use Rattle.tv_base.specs.declared.numbers.Version.{Version}
use Rattle.letter_types.specs.Steps.{Out, still}
use Rattle.letter_types.specs.declared.bodies.Answer.{Answer}
use Rattle.letter_types.specs.declared.bodies.Answer.TheVariants.{Whole, Aborted}
use Rattle.letter_types.specs.declared.bodies.Body.{Body}
use Rattle.letter_types.specs.declared.bodies.Body.TheVariants.{Go, Root, Sub as SubLetter, Done, Reply, Decide, Decided, Release, Turn, Show, Sweep, AskDone, AskAsked, Order, Ask}
use Rattle.letter_types.specs.declared.bodies.Notice.{Notice}
use Rattle.letter_types.specs.declared.bodies.Notice.TheVariants as notices
use Rattle.letter_types.specs.declared.entries.Outgoing.{Outgoing}
use Rattle.letter_types.specs.declared.votes.Cause.{Cause}
use Rattle.letter_types.specs.declared.votes.Vote.{Vote}
use Rattle.letter_types.specs.declared.votes.Vote.TheVariants as votes
use Rattle.nc_locks.specs.Locks.{with_locks}
use Rattle.script_parts.specs.ScriptData.{ScriptData, client_of, home_of, is_strict, ops_of, subs_at, visited_by}
use Rattle.script_parts.specs.Valid.{IsOp, IsValid}
use Rattle.script_parts.specs.declared.parts.Sub.{Sub}
use Rattle.script_parts.specs.declared.parts.Tree.{Tree}
use Rattle.script_parts.specs.declared.parts.TreeKind.{TreeKind}
use Rattle.script_parts.specs.declared.parts.TreeKind.TheVariants.{Update, Read, Strict}
use Rattle.tree_home.specs.HeldAnswers.{answer_when_acked}
use Rattle.tree_home.specs.Homes.{Gets, OpenTrees, begun}
use Rattle.tree_home.specs.declared.homes.Answered.{Answered}
use Rattle.world_model.specs.Asked.{tree_part}
use Rattle.world_model.specs.Children.{done_letter, sub_letters}
use Rattle.world_model.specs.Core.{Core, Refusals, refused_by}
use Rattle.world_model.specs.Counts.{Each}
use Rattle.world_model.specs.Done.{TreeOut, note_part, turned_if}
use Rattle.world_model.specs.Named.{is_strict_at, tree_kind_at}
use Rattle.world_model.specs.Node.{Effect, Node}
use Rattle.world_model.specs.Notices.{act_of, answer_noted, reply_letters, values_of}
use Rattle.world_model.specs.Reads.{getting}
use Rattle.world_model.specs.Strict.{answer_by, answer_letters, answered, core_by_kind, core_row, decided, locks_by, marks, marks_of, none_refuses, note_core, notice_by, noted_vote, refusals_after, refused_there, release_letters, to_each, voting}
use Rattle.world_model.specs.Updates.{touching}
use Rattle.world_model.specs.Votes.{cause_in, vote_of, voted}
use Rattle.world_model.specs.declared.refusal.NegativeVote.{NegativeVote}
use Rattle.world_model.proofs.Epochs.{ask_each, order_each}
use Rattle.world_model.proofs.Every.{each_append}
use Rattle.world_model.proofs.Scripts.{SubAt, sub_here, tree_below}
use Rattle.world_model.proofs.Notices.{answer_noted_tree}
use Rattle.tree_laws.proofs.conflicts.AtHome.{all_append}
use Rattle.history_text.specs.Printable.{AreGot, HasStrictness, IsSubOf, IsTreeOf}
use Rattle.audit_laws.specs.OfScript.{IsActOf, IsCauseOf, IsNoticeOf, IsVoteOf}
use Rattle.audit_laws.proofs.Gathering.{AreHeldAnswers, AreOpen, AreRefusals, HasGot, IsRefusal, acked_got, answer_got, held_acked, notice_got, notice_refused, one_held, open_begun, open_noted, refusal_gone}
use Rattle.audit_laws.proofs.Items.{AreSmallIn, IsSmallOp, small_after_ops, small_collected_all, small_decided}
use Rattle.audit_laws.proofs.Looks.{AreOfItems, MayCause, gets_got}

-- What a letter carries, beside what it names.
abbrev pub CarriesAnswer : ScriptData → ℕ → Answer → Type 0
CarriesAnswer s t (Whole vs) = AreGot s vs
CarriesAnswer s t (Aborted cause) = HasStrictness true (slice_get s.trees t) × IsCauseOf s cause

abbrev pub Carries : ScriptData → Body → Type 0
Carries s Go = ⊥
Carries s (Done t k v notice) = IsNoticeOf s t.0 notice
Carries s (Reply t v answer) = CarriesAnswer s t.0 answer
Carries s _ = Unit {0}

abbrev pub AreCarried : ScriptData → List Outgoing → Type 0
AreCarried s os = Each (λ (o : Outgoing). Carries s o.body) os

-- what a core gathers
pub record Gathers (s : ScriptData) (c : Core) : Type 0 where
  pub small : AreSmallIn c.node.items
  pub opened : AreOpen s c.node.homes
  pub holds : AreHeldAnswers s c.holds
  pub refusals : AreRefusals s c.refusals

-- what it makes of a letter
pub record Steps (s : ScriptData) (out : Out Core) : Type 0 where
  pub gathers : Gathers s out.state
  pub sent : AreCarried s out.sent
  pub acts : AllByRecursion (IsActOf s) out.acts

-- Letters that carry nothing.
child_carried : (s : ScriptData) (b : Bool) (o : Outgoing) (os : List Outgoing) → Carries s o.body → AreCarried s os
    → AreCarried s (if b then o ∷ os else os)
child_carried s true o os one all = (one, all)
child_carried s false o os one all = all

children_carried : (s : ScriptData) (t v parent k : ℕ) (xs : List Sub) → AreCarried s (sub_letters t v parent k xs)
children_carried s t v parent k [] = tt
children_carried s t v parent k (x ∷ xs) =
    child_carried s (nat_lt parent k && (x.parent.0 == parent)) _ (sub_letters t v parent (k + 1) xs) tt
    (children_carried s t v parent (k + 1) xs)

each_carried : (s : ScriptData) (body : Body) (qs : List ℕ) → Carries s body → AreCarried s (to_each body qs)
each_carried s body [] one = tt
each_carried s body (q ∷ qs) one = (one, each_carried s body qs one)

releases_carried : (s : ScriptData) (found : Option Answered) → AreCarried s (release_letters s found)
releases_carried s None = tt
releases_carried s (Some a) = pick (marks s a.tree.0) where
  pick : (b : Bool) → AreCarried s (if b then to_each (Release a.tree) (visited_by s a.tree.0) else [])
  pick true = each_carried s (Release a.tree) (visited_by s a.tree.0) tt
  pick false = tt

-- Answers.
abbrev IsDue : ScriptData → Answered → Type 0
IsDue s a = HasGot s a × IsTreeOf s a.tree.0

due_by : (s : ScriptData) (t : TreeNo) (found : Option Answered) → IsTreeOf s t.0 → ((a : Answered) → found ≡ Some a → a.tree ≡ t)
    → IfSome found (HasGot s) → IfSome found (IsDue s)
due_by s t None there its got = tt
due_by s t (Some a) there its got = (got, subst (λ (u : TreeNo). IsTreeOf s u.0) (sym (its a refl)) there)

due_noted : (s : ScriptData) (t : TreeNo) (k : SubNo) (vs : Gets) (hs : OpenTrees) → IsTreeOf s t.0 → AreGot s vs → AreOpen s hs
    → IfSome (answer_noted t k vs hs) (IsDue s)
due_noted s t k vs hs there got all =
    due_by s t (answer_noted t k vs hs) there (λ a is. answer_noted_tree t k vs hs a is) (answer_got s t k vs hs got all)

replies_carried : (s : ScriptData) (found : Option Answered) → IfSome found (IsDue s) → AreCarried s (reply_letters (client_of s) found)
replies_carried s None due = tt
replies_carried s (Some a) due = (due.0, tt)

answer_carried : (s : ScriptData) (a : Answered) (found : Option NegativeVote) → HasGot s a → IfSome found (IsRefusal s a.tree.0)
    → CarriesAnswer s a.tree.0 (answer_by found a)
answer_carried s a None got refused = got
answer_carried s a (Some r) got refused = refused

answers_carried : (s : ScriptData) (rs : Refusals) (found : Option Answered) → AreRefusals s rs → IfSome found (HasGot s)
    → AreCarried s (answer_letters s rs found)
answers_carried s rs None all got = tt
answers_carried s rs (Some a) all got = (answer_carried s a (rs a.tree.0) got (all a.tree.0), tt)

-- What comes of a tree's letter, before the tree is answered.
record Part (s : ScriptData) (o : TreeOut) : Type 0 where
  small : AreSmallIn o.out.state.items
  opened : AreOpen s o.out.state.homes
  sent : AreCarried s o.out.sent
  acts : AllByRecursion (IsActOf s) o.out.acts
  due : IfSome o.answered (IsDue s)

answered_steps : (s : ScriptData) (c : Core) (o : TreeOut) → AreHeldAnswers s c.holds → AreRefusals s c.refusals → Part s o
    → Steps s (answered s c o)
answered_steps s c o holds refusals part = record {
  gathers = record { small = part.small; opened = part.opened; holds = holds; refusals = refusals };
  sent = each_append (λ (x : Outgoing). Carries s x.body) (o.out.sent ++ release_letters s o.answered) (reply_letters (client_of s) o.answered)
      (each_append (λ (x : Outgoing). Carries s x.body) o.out.sent (release_letters s o.answered) part.sent (releases_carried s o.answered))
      (replies_carried s o.answered part.due);
  acts = part.acts;
}

decided_by : (s : ScriptData) (c : Core) (o : TreeOut) (found : Option Answered) → AreHeldAnswers s c.holds → AreRefusals s c.refusals
    → Part s o → IfSome found (IsDue s) → Steps s (decided s c o found)
decided_by s c o None holds refusals part due = record {
  gathers = record { small = part.small; opened = part.opened; holds = holds; refusals = refusals };
  sent = part.sent;
  acts = part.acts;
}
decided_by s c o (Some a) holds refusals part due =
    let commit = none_refuses a.tree c.refusals in
    let nodes = visited_by s a.tree.0 in
    record {
      gathers = record {
        small = part.small;
        opened = part.opened;
        holds = one_held s a (length nodes) c.holds due.0 holds;
        refusals = refusals;
      };
      sent = each_append (λ (x : Outgoing). Carries s x.body) o.out.sent (to_each (Decide a.tree a.version commit) nodes) part.sent
          (each_carried s (Decide a.tree a.version commit) nodes tt);
      acts = all_append (IsActOf s) o.out.acts _ part.acts (due.1, tt);
    }

-- What operations make.
record Makes (s : ScriptData) (t : ℕ) (e : Effect) : Type 0 where
  small : AreSmallIn e.items
  notice : IsNoticeOf s t e.notice

act_made : (s : ScriptData) (t : TreeNo) (k : SubNo) (notice : Notice) → IsSubOf s t.0 k.0 → IsNoticeOf s t.0 notice
    → IsActOf s (act_of t k notice)
act_made s t k (notices.Did vs) sub of = (sub, of.1)
act_made s t k (notices.Yes vs) sub of = (sub, of.1)
act_made s t k (notices.No cause) sub of = (sub, of.1)

pub turned_made : (s : ScriptData) (raises : Bool) (v : ℕ) → AllByRecursion (IsActOf s) (turned_if raises v)
turned_made s true v = (tt, tt)
turned_made s false v = tt

pub there_of : (s : ScriptData) (t k : ℕ) → SubAt s t k → IsSubOf s t k
there_of s t k sub = rw (sub_here s t k sub) refl

root_part_of : (s : ScriptData) (p from : ℕ) (t : TreeNo) (v : Version) (raises : Bool) (e : Effect) (st : Node) → SubAt s t.0 0
    → Makes s t.0 e → AreOpen s st.homes → Part s (tree_part s p from v raises e (Root t) st)
root_part_of s p from t v raises e st sub made opened =
    let k : SubNo = record { 0 = 0 } in
    let hs : OpenTrees = begun t (length (subs_at s t.0)) v st.homes in
    let got = notice_got s t.0 e.notice made.notice in
    let now = open_begun s t (length (subs_at s t.0)) v st.homes opened in
    record {
      small = made.small;
      opened = open_noted s t k (values_of e.notice) hs got now;
      sent = children_carried s t.0 v.0 0 0 (subs_at s t.0);
      acts = (tree_below s t.0 0 sub, (act_made s t k e.notice (there_of s t.0 0 sub) made.notice, tt));
      due = due_noted s t k (values_of e.notice) hs (tree_below s t.0 0 sub) got now;
    }

sub_part_of : (s : ScriptData) (p from : ℕ) (t : TreeNo) (k : SubNo) (v w : Version) (raises : Bool) (e : Effect) (st : Node)
    → SubAt s t.0 k.0 → Makes s t.0 e → AreOpen s st.homes → Part s (tree_part s p from v raises e (SubLetter t k w) st)
sub_part_of s p from t k v w raises e st sub made opened = record {
  small = made.small;
  opened = opened;
  sent = each_append (λ (x : Outgoing). Carries s x.body) (sub_letters t.0 v.0 k.0 0 (subs_at s t.0))
      (done_letter (home_of s t.0) t.0 k.0 v.0 e.notice ∷ []) (children_carried s t.0 v.0 k.0 0 (subs_at s t.0)) (made.notice, tt);
  acts = all_append (IsActOf s) (turned_if raises v.0) (act_of t k e.notice ∷ []) (turned_made s raises v.0)
      (act_made s t k e.notice (there_of s t.0 k.0 sub) made.notice, tt);
  due = tt;
}

note_part_of : (s : ScriptData) (from : ℕ) (t : TreeNo) (k : SubNo) (v : Version) (notice : Notice) (st : Node) → IsTreeOf s t.0
    → IsNoticeOf s t.0 notice → AreSmallIn st.items → AreOpen s st.homes → Part s (note_part from t.0 k.0 v.0 (values_of notice) st)
note_part_of s from t k v notice st there of small opened =
    let got = notice_got s t.0 notice of in
    record {
      small = small;
      opened = open_noted s t k (values_of notice) st.homes got opened;
      sent = tt;
      acts = tt;
      due = due_noted s t k (values_of notice) st.homes there got opened;
    }

-- Whether a tree is strict, by its kind.
kind_strictness : (s : ScriptData) (t : ℕ) (kind : TreeKind) → tree_kind_at s t ≡ Some kind
    → HasStrictness (is_strict kind) (slice_get s.trees t)
kind_strictness s t kind is = by (slice_get s.trees t) refl where
  by : (found : Option Tree) → slice_get s.trees t ≡ found → HasStrictness (is_strict kind) found
  by None at = absurd (let none : None ≡ Some kind = rw (at, tree_kind_at) at is in cc none)
  by (Some tree) at = let same : Some tree.kind ≡ Some kind = rw (at, tree_kind_at) at is in ap is_strict (cc same)

-- What is known where a core is asked for a subtransaction.
pub record Asks (s : ScriptData) (p : ℕ) (c : Core) (t : TreeNo) (k : SubNo) : Type 0 where
  pub sub : SubAt s t.0 k.0
  pub items : AreOfItems s p c.node.items
  pub amounts : AllByRecursion IsSmallOp (ops_of s t.0 k.0)
  pub fits : (kind : TreeKind) → tree_kind_at s t.0 ≡ Some kind → AllByRecursion (IsOp s.items kind p) (ops_of s t.0 k.0)
  pub cause : (v : Version) → tree_kind_at s t.0 ≡ Some Strict → MayCause s (cause_in c.locks c.node.items t v (ops_of s t.0 k.0))

touching_makes : (s : ScriptData) (p : ℕ) (c : Core) (t : TreeNo) (k : SubNo) (v : Version) → Asks s p c t k
    → tree_kind_at s t.0 ≡ Some Update → Makes s t.0 (touching v (ops_of s t.0 k.0) c.node.items)
touching_makes s p c t k v asks is = record {
  small = small_after_ops v (ops_of s t.0 k.0) c.node.items asks.amounts asks.items.small;
  notice = (kind_strictness s t.0 Update is, tt);
}

getting_makes : (s : ScriptData) (p : ℕ) (c : Core) (t : TreeNo) (k : SubNo) (v : Version) → Asks s p c t k
    → tree_kind_at s t.0 ≡ Some Read → Makes s t.0 (getting v (ops_of s t.0 k.0) c.node.items)
getting_makes s p c t k v asks is = record {
  small = asks.items.small;
  notice = (kind_strictness s t.0 Read is, gets_got s Read p v (ops_of s t.0 k.0) c.node.items asks.items (asks.fits Read is));
}

vote_made : (s : ScriptData) (found : Option Cause) (vs : Gets) → MayCause s found → AreGot s vs → IsVoteOf s (voted found vs)
vote_made s None vs cause got = got
vote_made s (Some c) vs cause got = cause

told_vote : (s : ScriptData) (t : ℕ) (vote : Vote) → HasStrictness true (slice_get s.trees t) → IsVoteOf s vote
    → IsNoticeOf s t (notice_by vote)
told_vote s t (votes.Yes vs) strict of = (strict, of)
told_vote s t (votes.No cause) strict of = (strict, of)

voting_makes : (s : ScriptData) (p : ℕ) (c : Core) (t : TreeNo) (k : SubNo) (v : Version) → Asks s p c t k
    → tree_kind_at s t.0 ≡ Some Strict
    → Makes s t.0 (voting (vote_of c.locks c.node.items t v (ops_of s t.0 k.0)) c.node.items)
voting_makes s p c t k v asks is = record {
  small = asks.items.small;
  notice = told_vote s t.0 (vote_of c.locks c.node.items t v (ops_of s t.0 k.0)) (kind_strictness s t.0 Strict is)
      (vote_made s (cause_in c.locks c.node.items t v (ops_of s t.0 k.0)) _ (asks.cause v is)
      (gets_got s Strict p v (ops_of s t.0 k.0) c.node.items asks.items (asks.fits Strict is)));
}

-- Nothing comes of a letter.
still_steps : (s : ScriptData) (c : Core) → Gathers s c → Steps s (still c)
still_steps s c g = record { gathers = g; sent = tt; acts = tt }

-- A root.
root_steps : (s : ScriptData) (p from : ℕ) (t : TreeNo) (kind : Option TreeKind) (c : Core) → tree_kind_at s t.0 ≡ kind
    → Asks s p c t (record { 0 = 0 }) → Gathers s c → Steps s (core_by_kind s p from t (Root t) kind c)
root_steps s p from t (Some Update) c is asks g =
    let v = c.node.turns.update in
    let e : Effect = touching v (ops_of s t.0 0) c.node.items in
    answered_steps s (record c { locks = with_locks t (marks_of s (ops_of s t.0 0)) c.locks })
    (tree_part s p from v (nat_lt v.0 v.0) e (Root t) c.node) g.holds g.refusals
    (root_part_of s p from t v (nat_lt v.0 v.0) e c.node asks.sub (touching_makes s p c t (record { 0 = 0 }) v asks is) g.opened)
root_steps s p from t (Some Read) c is asks g =
    let v = c.node.turns.read in
    let e : Effect = getting v (ops_of s t.0 0) c.node.items in
    answered_steps s c (tree_part s p from v false e (Root t) c.node) g.holds g.refusals
    (root_part_of s p from t v false e c.node asks.sub (getting_makes s p c t (record { 0 = 0 }) v asks is) g.opened)
root_steps s p from t (Some Strict) c is asks g =
    let v = c.node.turns.update in
    let vote : Vote = vote_of c.locks c.node.items t v (ops_of s t.0 0) in
    let e : Effect = voting vote c.node.items in
    let o : TreeOut = tree_part s p from v (nat_lt v.0 v.0) e (Root t) c.node in
    let made = voting_makes s p c t (record { 0 = 0 }) v asks is in
    let part = root_part_of s p from t v (nat_lt v.0 v.0) e c.node asks.sub made g.opened in
    let refused = notice_refused s t (record { 0 = 0 }) (notice_by vote) c.refusals made.notice g.refusals in
    decided_by s
    (record c { locks = locks_by vote t (ops_of s t.0 0) c.locks; refusals = noted_vote (Root t) vote c.refusals })
    o o.answered g.holds refused part part.due
root_steps s p from t None c is asks g = still_steps s c g

-- Another subtransaction.
sub_steps : (s : ScriptData) (p from : ℕ) (t : TreeNo) (k : SubNo) (v : Version) (kind : Option TreeKind) (c : Core)
    → tree_kind_at s t.0 ≡ kind → Asks s p c t k → Gathers s c → Steps s (core_by_kind s p from t (SubLetter t k v) kind c)
sub_steps s p from t k v (Some Update) c is asks g =
    let e : Effect = touching v (ops_of s t.0 k.0) c.node.items in
    let raises = nat_lt c.node.turns.update.0 v.0 in
    answered_steps s (record c { locks = with_locks t (marks_of s (ops_of s t.0 k.0)) c.locks })
    (tree_part s p from v raises e (SubLetter t k v) c.node) g.holds g.refusals
    (sub_part_of s p from t k v v raises e c.node asks.sub (touching_makes s p c t k v asks is) g.opened)
sub_steps s p from t k v (Some Read) c is asks g =
    let e : Effect = getting v (ops_of s t.0 k.0) c.node.items in
    answered_steps s c (tree_part s p from v false e (SubLetter t k v) c.node) g.holds g.refusals
    (sub_part_of s p from t k v v false e c.node asks.sub (getting_makes s p c t k v asks is) g.opened)
sub_steps s p from t k v (Some Strict) c is asks g =
    let vote : Vote = vote_of c.locks c.node.items t v (ops_of s t.0 k.0) in
    let e : Effect = voting vote c.node.items in
    let raises = nat_lt c.node.turns.update.0 v.0 in
    let o : TreeOut = tree_part s p from v raises e (SubLetter t k v) c.node in
    let part = sub_part_of s p from t k v v raises e c.node asks.sub (voting_makes s p c t k v asks is) g.opened in
    decided_by s
    (record c { locks = locks_by vote t (ops_of s t.0 k.0) c.locks; refusals = noted_vote (SubLetter t k v) vote c.refusals })
    o o.answered g.holds g.refusals part part.due
sub_steps s p from t k v None c is asks g = still_steps s c g

-- A notice.
refused_noted : (s : ScriptData) (t : TreeNo) (k : SubNo) (notice : Notice) (c : Core) (b : Bool) → IsNoticeOf s t.0 notice
    → AreRefusals s c.refusals → AreRefusals s (if b then refused_by t k notice c.refusals else c.refusals)
refused_noted s t k notice c true of all = notice_refused s t k notice c.refusals of all
refused_noted s t k notice c false of all = all

pick_steps : (s : ScriptData) (b : Bool) (x y : Out Core) → Steps s x → Steps s y → Steps s (if b then x else y)
pick_steps s true x y l r = l
pick_steps s false x y l r = r

note_steps : (s : ScriptData) (from : ℕ) (t : TreeNo) (k : SubNo) (v : Version) (notice : Notice) (c : Core) → IsTreeOf s t.0
    → IsNoticeOf s t.0 notice → Gathers s c → Steps s (note_core s from t k v notice c)
note_steps s from t k v notice c there of g =
    let o : TreeOut = note_part from t.0 k.0 v.0 (values_of notice) c.node in
    let noted : Core = record c { refusals = refused_there t k notice c } in
    let part = note_part_of s from t k v notice c.node there of g.small g.opened in
    pick_steps s (is_strict_at s t.0) (decided s noted o o.answered) (answered s c o)
    (decided_by s noted o o.answered g.holds (refused_noted s t k notice c _ of g.refusals) part part.due)
    (answered_steps s c o g.holds g.refusals part)

-- An acknowledgement.
refusals_left : (s : ScriptData) (found : Option Answered) (rs : Refusals) → AreRefusals s rs → AreRefusals s (refusals_after found rs)
refusals_left s None rs all = all
refusals_left s (Some a) rs all = refusal_gone s a.tree.0 rs all

acked_steps : (s : ScriptData) (p from : ℕ) (t : TreeNo) (v : Version) (c : Core) → Gathers s c
    → Steps s (core_row s p c from (Decided t v))
acked_steps s p from t v c g = record {
  gathers = record {
    small = g.small;
    opened = g.opened;
    holds = held_acked s t c.holds g.holds;
    refusals = refusals_left s (answer_when_acked t c.holds) c.refusals g.refusals;
  };
  sent = answers_carried s c.refusals (answer_when_acked t c.holds) g.refusals (acked_got s t c.holds g.holds);
  acts = tt;
}

-- What has to be known of a letter.
abbrev pub Needs : ScriptData → ℕ → Core → Body → Type 0
Needs s p c (Root t) = Asks s p c t (record { 0 = 0 })
Needs s p c (SubLetter t k v) = Asks s p c t k
Needs s p c (Done t k v notice) = IsTreeOf s t.0 × IsNoticeOf s t.0 notice
Needs s p c (Decide t v commit) = IsTreeOf s t.0 × IsValid s
Needs s p c (Release t) = IsTreeOf s t.0
Needs s p c _ = Unit {0}

pub core_steps : (s : ScriptData) (p from : ℕ) (body : Body) (c : Core) → Needs s p c body → Gathers s c → Steps s (core_row s p c from body)
core_steps s p from (Root t) c needs g = root_steps s p from t (tree_kind_at s t.0) c refl needs g
core_steps s p from (SubLetter t k v) c needs g = sub_steps s p from t k v (tree_kind_at s t.0) c refl needs g
core_steps s p from (Done t k v notice) c needs g = note_steps s from t k v notice c needs.0 needs.1 g
core_steps s p from (Decide t v commit) c needs g = record {
  gathers = record {
    small = small_decided s p t.0 v commit c.node.items needs.1 g.small;
    opened = g.opened;
    holds = g.holds;
    refusals = g.refusals;
  };
  sent = (tt, tt);
  acts = (needs.0, tt);
}
core_steps s p from (Decided t v) c needs g = acked_steps s p from t v c g
core_steps s p from (Release t) c needs g = record {
  gathers = record { small = g.small; opened = g.opened; holds = g.holds; refusals = g.refusals };
  sent = tt;
  acts = (needs, tt);
}
core_steps s p from (Turn v) c needs g = record {
  gathers = record { small = g.small; opened = g.opened; holds = g.holds; refusals = g.refusals };
  sent = (tt, tt);
  acts = turned_made s (nat_lt c.node.turns.update.0 v.0) v.0;
}
core_steps s p from (Show v) c needs g = record {
  gathers = record { small = g.small; opened = g.opened; holds = g.holds; refusals = g.refusals };
  sent = (tt, tt);
  acts = (tt, tt);
}
core_steps s p from (Sweep v) c needs g = record {
  gathers = record { small = small_collected_all v c.node.items g.small; opened = g.opened; holds = g.holds; refusals = g.refusals };
  sent = (tt, tt);
  acts = (tt, tt);
}
core_steps s p from (AskDone v k) c needs g = record {
  gathers = record { small = g.small; opened = g.opened; holds = g.holds; refusals = g.refusals };
  sent = (tt, tt);
  acts = tt;
}
core_steps s p from (AskAsked v k) c needs g = record {
  gathers = record { small = g.small; opened = g.opened; holds = g.holds; refusals = g.refusals };
  sent = (tt, tt);
  acts = tt;
}
core_steps s p from (Order e what v) c needs g =
    order_each (Steps s) s e what v c (record { gathers = g; sent = tt; acts = tt })
    (record {
      gathers = record { small = g.small; opened = g.opened; holds = g.holds; refusals = g.refusals };
      sent = (tt, tt);
      acts = tt;
    })
    (λ to. record {
      gathers = record { small = g.small; opened = g.opened; holds = g.holds; refusals = g.refusals };
      sent = (tt, tt);
      acts = turned_made s (nat_lt c.node.turns.update.0 v.0) v.0;
    })
    (λ to new. record {
      gathers = record { small = g.small; opened = g.opened; holds = g.holds; refusals = g.refusals };
      sent = (tt, tt);
      acts = (tt, tt);
    })
    (λ to new. record {
      gathers = record { small = small_collected_all v c.node.items g.small; opened = g.opened; holds = g.holds; refusals = g.refusals };
      sent = (tt, tt);
      acts = (tt, tt);
    })
core_steps s p from (Ask e) c needs g =
    ask_each (Steps s) s e c (record { gathers = g; sent = tt; acts = tt }) (record {
      gathers = record { small = g.small; opened = g.opened; holds = g.holds; refusals = g.refusals };
      sent = (tt, tt);
      acts = tt;
    })
core_steps s p from _ c needs g = record {
  gathers = record { small = g.small; opened = g.opened; holds = g.holds; refusals = g.refusals };
  sent = tt;
  acts = tt;
}
