-- What the row of a core makes of the homes and the held answers of transactions: of the message's own transaction, and
-- of any other.
use Rattle.std.proofs.Common.{◌≡◌, ◌≢◌, ℕ, ◌<◌, Bool, true, false, List, [], ◌∷◌, ◌++◌, length, refl, sym, ap, ◌∙◌, arith, Option, Some, None}
use Rattle.std.specs.Prelude.{if◌then◌else◌, nat_lt}
use Rattle.tv_base.specs.declared.numbers.SubNo.{SubNo}
use Rattle.tv_base.specs.declared.numbers.TreeNo.{TreeNo}
use Rattle.tv_base.specs.declared.numbers.Version.{Version}
use Rattle.letter_types.specs.declared.bodies.Body.{Body}
use Rattle.letter_types.specs.declared.bodies.Body.TheVariants.{Root, Sub as SubLetter, Done, Go, Decide, Decided, Release, Turn, Show, Sweep, AskDone, AskAsked, Ask, Order}
use Rattle.letter_types.specs.declared.bodies.Notice.{Notice}
use Rattle.letter_types.specs.declared.votes.Vote.{Vote}
use Rattle.letter_types.specs.Steps.{Out}
use Rattle.tree_home.proofs.Maps.{put_at-other, put_at-same}
use Rattle.tree_home.specs.HeldAnswers.{HeldAnswers, acked_of, answer_when_acked, held_for, held_in, last_answer}
use Rattle.tree_home.specs.Homes.{Gets, OpenTrees, begun, home_in}
use Rattle.tree_home.specs.declared.homes.Answered.{Answered}
use Rattle.tree_home.specs.declared.homes.Held.{Held}
use Rattle.tx_trees.specs.ScriptData.{ScriptData, client_of, home_of, subs_at, visited_by}
use Rattle.tx_trees.specs.declared.parts.TreeKind.{TreeKind}
use Rattle.tx_trees.specs.declared.parts.TreeKind.TheVariants.{Update, Read, Strict}
use Rattle.world_model.proofs.Epochs.{ask_each, order_each}
use Rattle.world_model.specs.Asked.{asked_ops, asked_version, tree_part}
use Rattle.world_model.specs.Children.{done_letter, sub_letters}
use Rattle.world_model.specs.Core.{Core, Refusals}
use Rattle.world_model.specs.Counts.{tally}
use Rattle.world_model.specs.Done.{TreeOut, note_part}
use Rattle.world_model.specs.Named.{is_named, is_strict_at, tree_kind_at}
use Rattle.world_model.specs.Node.{Effect, Node}
use Rattle.world_model.specs.Notices.{answer_noted, homes_noted, reply_letters, values_of}
use Rattle.world_model.specs.Reads.{getting}
use Rattle.world_model.specs.Strict.{answer_letters, answered, core_by_kind, core_row, decided, locks_by, none_refuses, note_core, noted_vote, refused_there, release_letters, to_each, voting}
use Rattle.world_model.specs.Updates.{touching}
use Rattle.world_model.specs.Votes.{vote_of}
use Rattle.world_model.proofs.Bags.{tally-append}
use Rattle.world_model.proofs.Sends.{on, subs_none}
use Rattle.world_model.proofs.Notices.{answer_noted_tree}
use Rattle.tree_laws.specs.Dids.{replies_to}
use Rattle.tree_laws.specs.Stages.{decides}
use Rattle.tree_laws.proofs.homes.Answering.{one_here}
use Rattle.tree_laws.proofs.homes.Noting.{noted_keeps_others, root_keeps_others}
use Rattle.tree_laws.proofs.homes.Sent.{not_here}
use Rattle.tree_laws.proofs.histories.Turns.{each_told, has_kind, releases_none, replies_none}

-- A row leaves tree w as it is: its letters of decisions are as many as the letter was one.
pub record Aside (w : ℕ) (body : Body) (hs : OpenTrees) (holds : HeldAnswers) (out : Out Core) : Type 0 where
  pub home : out.state.node.homes w ≡ hs w
  pub held : out.state.holds w ≡ holds w
  pub replies : tally (on (replies_to w)) out.sent ≡ 0
  pub decides : tally (on (decides w)) out.sent ≡ decides w body

-- its parts
record PartAside (w : ℕ) (hs : OpenTrees) (o : TreeOut) : Type 0 where
  home : o.out.state.homes w ≡ hs w
  names : (a : Answered) → o.answered ≡ Some a → a.tree.0 ≢ w
  replies : tally (on (replies_to w)) o.out.sent ≡ 0
  decides : tally (on (decides w)) o.out.sent ≡ 0

names_other : (w : ℕ) (t : TreeNo) (a : Answered) → t.0 ≢ w → a.tree ≡ t → a.tree.0 ≢ w
names_other w t a ne its same = ne (sym (ap (λ (u : TreeNo). u.0) its) ∙ same)

-- letters that count neither
sub_quiet : (f : Body → ℕ) (s : ScriptData) (t k v : ℕ) (notice : Notice) → ((u : TreeNo) (j : SubNo) (x : Version) → f (SubLetter u j x) ≡ 0)
    → ((u : TreeNo) (j : SubNo) (x : Version) (n : Notice) → f (Done u j x n) ≡ 0)
    → tally (on f) (sub_letters t v k 0 (subs_at s t) ++ done_letter (home_of s t) t k v notice ∷ []) ≡ 0
sub_quiet f s t k v notice subs notes =
    omega (
      arith,
      tally-append (on f) (sub_letters t v k 0 (subs_at s t)) (done_letter (home_of s t) t k v notice ∷ []),
      subs_none f t v k 0 (subs_at s t) subs,
      notes (record { 0 = t }) (record { 0 = k }) (record { 0 = v }) notice,
    )

-- a letter that isn't tree w's
abbrev pub IsApart : ℕ → HeldAnswers → Body → Type 0
IsApart w holds (Root t) = t.0 ≢ w
IsApart w holds (Done t k v notice) = t.0 ≢ w
IsApart w holds (Decided t v) = (t.0 ≢ w) × ((h : Held) → held_in t holds ≡ Some h → h.answered.tree.0 ≡ t.0)
IsApart w holds Go = Unit {0}
IsApart w holds _ = Unit {0}

part_aside : (w : ℕ) (holds : HeldAnswers) (s : ScriptData) (p from : ℕ) (v : Version) (raises : Bool) (e : Effect) (body : Body) (st : Node)
    → IsApart w holds body → PartAside w st.homes (tree_part s p from v raises e body st)
part_aside w holds s p from v raises e (Root t) st ne =
    let k : SubNo = record { 0 = 0 } in
    let n : ℕ = length (subs_at s t.0) in
    record {
      home = root_keeps_others t (record { 0 = w }) k (values_of e.notice) n v st.homes (λ same. ne (sym same));
      names = λ a at. names_other w t a ne (answer_noted_tree t k (values_of e.notice) (begun t n v st.homes) a at);
      replies = subs_none (replies_to w) t.0 v.0 0 0 (subs_at s t.0) (λ u j x. refl);
      decides = subs_none (decides w) t.0 v.0 0 0 (subs_at s t.0) (λ u j x. refl);
    }
part_aside w holds s p from v raises e (SubLetter t k x) st ne = record {
  home = refl;
  names = λ a at. absurd (cc at);
  replies = sub_quiet (replies_to w) s t.0 k.0 v.0 e.notice (λ u j y. refl) (λ u j y n. refl);
  decides = sub_quiet (decides w) s t.0 k.0 v.0 e.notice (λ u j y. refl) (λ u j y n. refl);
}
part_aside w holds s p from v raises e _ st ne = record { home = refl; names = λ a at. absurd (cc at); replies = refl; decides = refl }

-- The answer of a tree that isn't strict.
reply_aside : (client w : ℕ) (found : Option Answered) → ((a : Answered) → found ≡ Some a → a.tree.0 ≢ w)
    → tally (on (replies_to w)) (reply_letters client found) ≡ 0
reply_aside client w None names = refl
reply_aside client w (Some a) names = omega (arith, not_here w a.tree.0 (names a refl))

answered_aside : (w : ℕ) (body : Body) (s : ScriptData) (c : Core) (hs : OpenTrees) (o : TreeOut) → decides w body ≡ 0 → PartAside w hs o
    → Aside w body hs c.holds (answered s c o)
answered_aside w body s c hs o none it = record {
  home = it.home;
  held = refl;
  replies = omega (
    arith,
    it.replies,
    tally-append (on (replies_to w)) (o.out.sent ++ release_letters s o.answered) (reply_letters (client_of s) o.answered),
    tally-append (on (replies_to w)) o.out.sent (release_letters s o.answered),
    releases_none s (on (replies_to w)) o.answered (λ q t. refl),
    reply_aside (client_of s) w o.answered it.names,
  );
  decides = omega (
    arith,
    none,
    it.decides,
    tally-append (on (decides w)) (o.out.sent ++ release_letters s o.answered) (reply_letters (client_of s) o.answered),
    tally-append (on (decides w)) o.out.sent (release_letters s o.answered),
    releases_none s (on (decides w)) o.answered (λ q t. refl),
    replies_none (client_of s) (on (decides w)) o.answered (λ q t v answer. refl),
  );
}

-- the decision of a strict tree
decided_aside : (w : ℕ) (body : Body) (s : ScriptData) (c : Core) (hs : OpenTrees) (o : TreeOut) (found : Option Answered) → decides w body ≡ 0
    → o.answered ≡ found → PartAside w hs o → Aside w body hs c.holds (decided s c o found)
decided_aside w body s c hs o None none is it = record {
  home = it.home;
  held = refl;
  replies = it.replies;
  decides = omega (arith, none, it.decides);
}
decided_aside w body s c hs o (Some a) none is it =
    let told : Body = Decide a.tree a.version (none_refuses a.tree c.refusals) in
    let other : a.tree.0 ≢ w = it.names a is in
    record {
      home = it.home;
      held = put_at-other a.tree.0 w (Some (held_for (length (visited_by s a.tree.0)) a)) c.holds (λ same. other (sym same));
      replies = omega (
        arith,
        it.replies,
        tally-append (on (replies_to w)) o.out.sent (to_each told (visited_by s a.tree.0)),
        each_told (on (replies_to w)) told (visited_by s a.tree.0) (λ q. refl),
      );
      decides = omega (
        arith,
        none,
        it.decides,
        tally-append (on (decides w)) o.out.sent (to_each told (visited_by s a.tree.0)),
        each_told (on (decides w)) told (visited_by s a.tree.0) (λ q. not_here w a.tree.0 other),
      );
    }

kind_aside : (w : ℕ) (s : ScriptData) (p from : ℕ) (t : TreeNo) (body : Body) (kind : Option TreeKind) (c : Core) → decides w body ≡ 0
    → IsApart w c.holds body → Aside w body c.node.homes c.holds (core_by_kind s p from t body kind c)
kind_aside w s p from t body (Some Update) c none ne =
    let v : Version = asked_version c.node.turns.update body in
    let e : Effect = touching v (asked_ops s body) c.node.items in
    let raises : Bool = nat_lt c.node.turns.update.0 v.0 in
    let marked : Core = record c { locks = (core_by_kind s p from t body (Some Update) c).state.locks } in
    answered_aside w body s marked c.node.homes (tree_part s p from v raises e body c.node) none (part_aside w c.holds s p from v raises e body c.node ne)
kind_aside w s p from t body (Some Read) c none ne =
    let v : Version = asked_version c.node.turns.read body in
    let e : Effect = getting v (asked_ops s body) c.node.items in
    answered_aside w body s c c.node.homes (tree_part s p from v false e body c.node) none (part_aside w c.holds s p from v false e body c.node ne)
kind_aside w s p from t body (Some Strict) c none ne =
    let v : Version = asked_version c.node.turns.update body in
    let vote : Vote = vote_of c.locks c.node.items t v (asked_ops s body) in
    let e : Effect = voting vote c.node.items in
    let raises : Bool = nat_lt c.node.turns.update.0 v.0 in
    let o : TreeOut = tree_part s p from v raises e body c.node in
    let noted : Core = record c { locks = locks_by vote t (asked_ops s body) c.locks; refusals = noted_vote body vote c.refusals } in
    decided_aside w body s noted c.node.homes o o.answered none refl (part_aside w c.holds s p from v raises e body c.node ne)
kind_aside w s p from t body None c none ne = record { home = refl; held = refl; replies = refl; decides = sym none }

pick : (w : ℕ) (body : Body) (hs : OpenTrees) (holds : HeldAnswers) (b : Bool) (x y : Out Core) → Aside w body hs holds x → Aside w body hs holds y
    → Aside w body hs holds (if b then x else y)
pick w body hs holds true x y l r = l
pick w body hs holds false x y l r = r

note_aside : (w : ℕ) (s : ScriptData) (from : ℕ) (t : TreeNo) (k : SubNo) (v : Version) (notice : Notice) (c : Core) → t.0 ≢ w
    → Aside w (Done t k v notice) c.node.homes c.holds (note_core s from t k v notice c)
note_aside w s from t k v notice c ne =
    let body : Body = Done t k v notice in
    let hs : OpenTrees = c.node.homes in
    let o : TreeOut = note_part from t.0 k.0 v.0 (values_of notice) c.node in
    let noted : Core = record c { refusals = refused_there t k notice c } in
    let it : PartAside w hs o = record {
      home = noted_keeps_others t (record { 0 = w }) k (values_of notice) hs (λ same. ne (sym same));
      names = λ a at. names_other w t a ne (answer_noted_tree t k (values_of notice) hs a at);
      replies = refl;
      decides = refl;
    } in
    pick w body hs c.holds (is_strict_at s t.0) (decided s noted o o.answered) (answered s c o)
    (decided_aside w body s noted hs o o.answered refl refl it) (answered_aside w body s c hs o refl it)

-- an acknowledgement of another tree
answer_aside : (s : ScriptData) (w : ℕ) (t : TreeNo) (rs : Refusals) (found : Option Held) → t.0 ≢ w
    → ((h : Held) → found ≡ Some h → h.answered.tree.0 ≡ t.0) → tally (on (replies_to w)) (answer_letters s rs (last_answer found)) ≡ 0
answer_aside s w t rs None ne names = refl
answer_aside s w t rs (Some h) ne names = by (nat_lt 1 h.waits) where
  by : (test : Bool) → tally (on (replies_to w)) (answer_letters s rs (if test then None else Some h.answered)) ≡ 0
  by true = refl
  by false = omega (arith, not_here w h.answered.tree.0 (λ same. ne (sym (names h refl) ∙ same)))

pub answer_quiet : (s : ScriptData) (w : ℕ) (rs : Refusals) (found : Option Answered) → tally (on (decides w)) (answer_letters s rs found) ≡ 0
answer_quiet s w rs None = refl
answer_quiet s w rs (Some a) = refl

acked_aside : (w : ℕ) (s : ScriptData) (p from : ℕ) (t : TreeNo) (v : Version) (c : Core) → IsApart w c.holds (Decided t v)
    → Aside w (Decided t v) c.node.homes c.holds (core_row s p c from (Decided t v))
acked_aside w s p from t v c apart = record {
  home = refl;
  held = put_at-other t.0 w (acked_of (held_in t c.holds)) c.holds (λ same. apart.0 (sym same));
  replies = answer_aside s w t c.refusals (held_in t c.holds) apart.0 apart.1;
  decides = answer_quiet s w c.refusals (answer_when_acked t c.holds) ∙ sym (not_here w t.0 apart.0);
}

-- so the row of a letter that isn't tree w's
pub core_aside : (w : ℕ) (s : ScriptData) (p from : ℕ) (body : Body) (c : Core) → IsApart w c.holds body
    → Aside w body c.node.homes c.holds (core_row s p c from body)
core_aside w s p from (Root t) c apart = kind_aside w s p from t (Root t) (tree_kind_at s t.0) c refl apart
core_aside w s p from (SubLetter t k v) c apart = kind_aside w s p from t (SubLetter t k v) (tree_kind_at s t.0) c refl apart
core_aside w s p from (Done t k v notice) c apart = note_aside w s from t k v notice c apart
core_aside w s p from (Decide t v commit) c apart = record { home = refl; held = refl; replies = refl; decides = omega arith }
core_aside w s p from (Decided t v) c apart = acked_aside w s p from t v c apart
core_aside w s p from (Release t) c apart = record { home = refl; held = refl; replies = refl; decides = refl }
core_aside w s p from (Turn v) c apart = record { home = refl; held = refl; replies = refl; decides = refl }
core_aside w s p from (Show v) c apart = record { home = refl; held = refl; replies = refl; decides = refl }
core_aside w s p from (Sweep v) c apart = record { home = refl; held = refl; replies = refl; decides = refl }
core_aside w s p from (AskDone v k) c apart = record { home = refl; held = refl; replies = refl; decides = refl }
core_aside w s p from (AskAsked v k) c apart = record { home = refl; held = refl; replies = refl; decides = refl }
core_aside w s p from (Order e what v) c apart =
    order_each (Aside w (Order e what v) c.node.homes c.holds) s e what v c (record { home = refl; held = refl; replies = refl; decides = refl })
    (record { home = refl; held = refl; replies = refl; decides = refl }) (λ is. record { home = refl; held = refl; replies = refl; decides = refl })
    (λ is new. record { home = refl; held = refl; replies = refl; decides = refl }) (λ is new. record { home = refl; held = refl; replies = refl; decides = refl })
core_aside w s p from (Ask e) c apart =
    ask_each (Aside w (Ask e) c.node.homes c.holds) s e c (record { home = refl; held = refl; replies = refl; decides = refl })
    (record { home = refl; held = refl; replies = refl; decides = refl })
core_aside w s p from Go c apart = record { home = refl; held = refl; replies = refl; decides = refl }
core_aside w s p from _ c apart = record { home = refl; held = refl; replies = refl; decides = refl }

-- The letter's own tree t, with the answer that a notice gives.
pub record RowSettles (s : ScriptData) (t : ℕ) (holds : HeldAnswers) (out : Out Core) (found : Option Answered) : Type 0 where
  pub none : found ≡ None → (out.state.holds t ≡ holds t) × ((tally (on (replies_to t)) out.sent ≡ 0) × (tally (on (decides t)) out.sent ≡ 0))
  pub strict : (a : Answered) → found ≡ Some a → is_strict_at s t ≡ true
      → (out.state.holds t ≡ Some (held_for (length (visited_by s t)) a)) × ((tally (on (replies_to t)) out.sent ≡ 0) × (tally (on (decides t)) out.sent ≡ length (visited_by s t)))
  pub plain : (a : Answered) → found ≡ Some a → is_strict_at s t ≡ false
      → (out.state.holds t ≡ holds t) × ((tally (on (replies_to t)) out.sent ≡ 1) × (tally (on (decides t)) out.sent ≡ 0))

-- its notice of subtransaction k is taken down, where hs is open
pub record RowNotes (s : ScriptData) (t : TreeNo) (k : SubNo) (values : Gets) (hs : OpenTrees) (holds : HeldAnswers) (out : Out Core) : Type 0 where
  pub home : home_in t out.state.node.homes ≡ home_in t (homes_noted t k values hs)
  pub settles : RowSettles s t.0 holds out (answer_noted t k values hs)

-- its part
record PartNotes (t : TreeNo) (k : SubNo) (values : Gets) (hs : OpenTrees) (o : TreeOut) : Type 0 where
  home : home_in t o.out.state.homes ≡ home_in t (homes_noted t k values hs)
  answered : o.answered ≡ answer_noted t k values hs
  replies : tally (on (replies_to t.0)) o.out.sent ≡ 0
  decides : tally (on (decides t.0)) o.out.sent ≡ 0

reply_here : (client t : ℕ) (found : Option Answered) (a : Answered) → found ≡ Some a → a.tree.0 ≡ t
    → tally (on (replies_to t)) (reply_letters client found) ≡ 1
reply_here client t found a is its = rw is (omega (arith, one_here a.tree.0 t its))

answered_notes : (s : ScriptData) (t : TreeNo) (k : SubNo) (values : Gets) (hs : OpenTrees) (c : Core) (o : TreeOut) → is_strict_at s t.0 ≡ false
    → PartNotes t k values hs o → RowNotes s t k values hs c.holds (answered s c o)
answered_notes s t k values hs c o plain it =
    let client : ℕ = client_of s in
    let quiet : tally (on (decides t.0)) (answered s c o).sent ≡ 0 =
    omega (
      arith,
      it.decides,
      tally-append (on (decides t.0)) (o.out.sent ++ release_letters s o.answered) (reply_letters client o.answered),
      tally-append (on (decides t.0)) o.out.sent (release_letters s o.answered),
      releases_none s (on (decides t.0)) o.answered (λ q u. refl),
      replies_none client (on (decides t.0)) o.answered (λ q u v answer. refl),
    ) in
    let replies : tally (on (replies_to t.0)) (answered s c o).sent ≡ tally (on (replies_to t.0)) (reply_letters client o.answered) =
    omega (
      arith,
      it.replies,
      tally-append (on (replies_to t.0)) (o.out.sent ++ release_letters s o.answered) (reply_letters client o.answered),
      tally-append (on (replies_to t.0)) o.out.sent (release_letters s o.answered),
      releases_none s (on (replies_to t.0)) o.answered (λ q u. refl),
    ) in
    record {
      home = it.home;
      settles = record {
        none = λ is.
            (refl, (replies ∙ ap (λ (found : Option Answered). tally (on (replies_to t.0)) (reply_letters client found)) (it.answered ∙ is), quiet));
        strict = λ a is strict. absurd (cc (plain, strict));
        plain = λ a is not.
            (refl, (replies ∙ reply_here client t.0 o.answered a (it.answered ∙ is) (ap (λ (u : TreeNo). u.0) (answer_noted_tree t k values hs a is)), quiet));
      };
    }

-- a letter to each node is counted by each
each_counts : (t : ℕ) (body : Body) (qs : List ℕ) → decides t body ≡ 1 → tally (on (decides t)) (to_each body qs) ≡ length qs
each_counts t body [] one = refl
each_counts t body (q ∷ qs) one = omega (arith, one, each_counts t body qs one)

decided_notes : (s : ScriptData) (t : TreeNo) (k : SubNo) (values : Gets) (hs : OpenTrees) (c : Core) (o : TreeOut) (found : Option Answered)
    → is_strict_at s t.0 ≡ true → o.answered ≡ found → PartNotes t k values hs o → RowNotes s t k values hs c.holds (decided s c o found)
decided_notes s t k values hs c o None strict at it = record {
  home = it.home;
  settles = record {
    none = λ is. (refl, (it.replies, it.decides));
    strict = λ a is so. absurd (cc (it.answered, at, is));
    plain = λ a is plain. absurd (cc (plain, strict));
  };
}
decided_notes s t k values hs c o (Some a) strict at it =
    let told : Body = Decide a.tree a.version (none_refuses a.tree c.refusals) in
    let its : a.tree ≡ t = answer_noted_tree t k values hs a (sym it.answered ∙ at) in
    let here : a.tree.0 ≡ t.0 = ap (λ (u : TreeNo). u.0) its in
    let n : ℕ = length (visited_by s a.tree.0) in
    let same : n ≡ length (visited_by s t.0) = ap (λ (u : ℕ). length (visited_by s u)) here in
    let holds : (decided s c o (Some a)).state.holds t.0 ≡ Some (held_for n a) =
    ap (λ (u : ℕ). (decided s c o (Some a)).state.holds u) (sym here) ∙ put_at-same a.tree.0 (Some (held_for n a)) c.holds in
    record {
      home = it.home;
      settles = record {
        none = λ is. absurd (cc (it.answered, at, is));
        strict = λ b is so.
            let one : a ≡ b = cc (it.answered, at, is) in (
              holds ∙ ap (λ (m : ℕ). Some (held_for m a)) same ∙ ap (λ (x : Answered). Some (held_for (length (visited_by s t.0)) x)) one,
              (
                omega (
                  arith,
                  it.replies,
                  tally-append (on (replies_to t.0)) o.out.sent (to_each told (visited_by s a.tree.0)),
                  each_told (on (replies_to t.0)) told (visited_by s a.tree.0) (λ q. refl),
                ),
                omega (
                  arith,
                  same,
                  it.decides,
                  tally-append (on (decides t.0)) o.out.sent (to_each told (visited_by s a.tree.0)),
                  each_counts t.0 told (visited_by s a.tree.0) (one_here a.tree.0 t.0 here),
                ),
              ),
            );
        plain = λ b is plain. absurd (cc (plain, strict));
      };
    }

-- a root: its tree begins in some version
pub record RowBegins (s : ScriptData) (t : TreeNo) (c : Core) (out : Out Core) : Type 0 where
  pub version : Version
  pub values : Gets
  pub row : RowNotes s t (record { 0 = 0 }) values (begun t (length (subs_at s t.0)) version c.node.homes) c.holds out

begins_part : (s : ScriptData) (p from : ℕ) (t : TreeNo) (v : Version) (raises : Bool) (e : Effect) (st : Node)
    → PartNotes t (record { 0 = 0 }) (values_of e.notice) (begun t (length (subs_at s t.0)) v st.homes) (tree_part s p from v raises e (Root t) st)
begins_part s p from t v raises e st = record {
  home = refl;
  answered = refl;
  replies = subs_none (replies_to t.0) t.0 v.0 0 0 (subs_at s t.0) (λ u j x. refl);
  decides = subs_none (decides t.0) t.0 v.0 0 0 (subs_at s t.0) (λ u j x. refl);
}

begins_by : (s : ScriptData) (p from : ℕ) (t : TreeNo) (kind : Option TreeKind) (c : Core) → tree_kind_at s t.0 ≡ kind → (kind ≡ None → ⊥)
    → RowBegins s t c (core_by_kind s p from t (Root t) kind c)
begins_by s p from t (Some Update) c is there =
    let v : Version = c.node.turns.update in
    let e : Effect = touching v (asked_ops s (Root t)) c.node.items in
    let raises : Bool = nat_lt c.node.turns.update.0 v.0 in
    let plain : is_strict_at s t.0 ≡ false = rw (is, is_strict_at) refl in
    let hs : OpenTrees = begun t (length (subs_at s t.0)) v c.node.homes in
    let marked : Core = record c { locks = (core_by_kind s p from t (Root t) (Some Update) c).state.locks } in
    record {
      version = v;
      values = values_of e.notice;
      row = answered_notes s t (record { 0 = 0 }) (values_of e.notice) hs marked (tree_part s p from v raises e (Root t) c.node) plain
          (begins_part s p from t v raises e c.node);
    }
begins_by s p from t (Some Read) c is there =
    let v : Version = c.node.turns.read in
    let e : Effect = getting v (asked_ops s (Root t)) c.node.items in
    let plain : is_strict_at s t.0 ≡ false = rw (is, is_strict_at) refl in
    let hs : OpenTrees = begun t (length (subs_at s t.0)) v c.node.homes in
    record {
      version = v;
      values = values_of e.notice;
      row = answered_notes s t (record { 0 = 0 }) (values_of e.notice) hs c (tree_part s p from v false e (Root t) c.node) plain
          (begins_part s p from t v false e c.node);
    }
begins_by s p from t (Some Strict) c is there =
    let v : Version = c.node.turns.update in
    let vote : Vote = vote_of c.locks c.node.items t v (asked_ops s (Root t)) in
    let e : Effect = voting vote c.node.items in
    let raises : Bool = nat_lt c.node.turns.update.0 v.0 in
    let o : TreeOut = tree_part s p from v raises e (Root t) c.node in
    let noted : Core = record c { locks = locks_by vote t (asked_ops s (Root t)) c.locks; refusals = noted_vote (Root t) vote c.refusals } in
    let strict : is_strict_at s t.0 ≡ true = rw (is, is_strict_at) refl in
    let hs : OpenTrees = begun t (length (subs_at s t.0)) v c.node.homes in
    record {
      version = v;
      values = values_of e.notice;
      row = decided_notes s t (record { 0 = 0 }) (values_of e.notice) hs noted o o.answered strict refl (begins_part s p from t v raises e c.node);
    }
begins_by s p from t None c is there = absurd (there refl)

pub core_begins : (s : ScriptData) (p from : ℕ) (t : TreeNo) (c : Core) → p < s.nodes → is_named s p from (Root t) ≡ true
    → RowBegins s t c (core_row s p c from (Root t))
core_begins s p from t c lt named = begins_by s p from t (tree_kind_at s t.0) c refl (has_kind s p t.0 0 lt named)

-- a notice
notes_by : (s : ScriptData) (from : ℕ) (t : TreeNo) (k : SubNo) (v : Version) (notice : Notice) (c : Core) (test : Bool) → is_strict_at s t.0 ≡ test
    → RowNotes s t k (values_of notice) c.node.homes c.holds
    (if test then decided s (record c { refusals = refused_there t k notice c }) (note_part from t.0 k.0 v.0 (values_of notice) c.node) (note_part from t.0 k.0 v.0 (values_of notice) c.node).answered
    else answered s c (note_part from t.0 k.0 v.0 (values_of notice) c.node))
notes_by s from t k v notice c true strict =
    let o : TreeOut = note_part from t.0 k.0 v.0 (values_of notice) c.node in
    decided_notes s t k (values_of notice) c.node.homes (record c { refusals = refused_there t k notice c }) o o.answered strict refl
    (record { home = refl; answered = refl; replies = refl; decides = refl })
notes_by s from t k v notice c false plain =
    answered_notes s t k (values_of notice) c.node.homes c (note_part from t.0 k.0 v.0 (values_of notice) c.node) plain
    (record { home = refl; answered = refl; replies = refl; decides = refl })

pub core_notes : (s : ScriptData) (p from : ℕ) (t : TreeNo) (k : SubNo) (v : Version) (notice : Notice) (c : Core)
    → RowNotes s t k (values_of notice) c.node.homes c.holds (core_row s p c from (Done t k v notice))
core_notes s p from t k v notice c = notes_by s from t k v notice c (is_strict_at s t.0) refl
