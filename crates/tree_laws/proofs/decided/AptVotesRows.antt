-- What the row of a core votes and tells of votes, and which negative vote it keeps in mind of each transaction.
use Rattle.std.proofs.Common.{◌≡◌, ℕ, ◌==◌, Bool, true, false, [], ◌∷◌, ◌++◌, refl, sym, ap, arith, Option, Some, None}
use Rattle.std.specs.Prelude.{if◌then◌else◌, nat_lt}
use Rattle.tv_base.specs.declared.numbers.SubNo.{SubNo}
use Rattle.tv_base.specs.declared.numbers.TreeNo.{TreeNo}
use Rattle.tv_base.specs.declared.numbers.Version.{Version}
use Rattle.letter_types.specs.Steps.{Out}
use Rattle.letter_types.specs.declared.acts.Act.TheVariants as acts
use Rattle.letter_types.specs.declared.bodies.Body.{Body}
use Rattle.letter_types.specs.declared.bodies.Body.TheVariants.{Root, Sub as SubLetter, Done, Go, Decide, Decided, Release, Turn, Show, Sweep, AskDone, AskAsked, Order, Ask}
use Rattle.letter_types.specs.declared.bodies.Notice.{Notice}
use Rattle.letter_types.specs.declared.bodies.Notice.TheVariants.{Did as DidNotice, Yes, No}
use Rattle.letter_types.specs.declared.votes.Vote.{Vote}
use Rattle.tree_home.specs.HeldAnswers.{answer_when_acked}
use Rattle.tree_home.specs.declared.homes.Answered.{Answered}
use Rattle.tx_trees.specs.ScriptData.{ScriptData, client_of, home_of, subs_at, visited_by}
use Rattle.tx_trees.specs.declared.parts.TreeKind.{TreeKind}
use Rattle.tx_trees.specs.declared.parts.TreeKind.TheVariants.{Update, Read, Strict}
use Rattle.world_model.specs.declared.refusal.NegativeVote.{NegativeVote}
use Rattle.world_model.specs.Asked.{asked_ops, asked_version, tree_part}
use Rattle.world_model.specs.Children.{done_letter, sub_letters}
use Rattle.world_model.specs.Core.{Core, Refusals, refused_by}
use Rattle.world_model.specs.Counts.{one_if, tally}
use Rattle.world_model.specs.Done.{TreeOut, note_part, turned_if}
use Rattle.world_model.specs.Named.{is_strict_at, tree_kind_at}
use Rattle.world_model.specs.Node.{Effect, Node}
use Rattle.world_model.specs.Notices.{act_of, reply_letters, values_of}
use Rattle.world_model.specs.Reads.{getting}
use Rattle.world_model.specs.Strict.{answered, core_by_kind, core_row, decided, locks_by, none_refuses, noted_vote, notice_by, refusals_after, refused_there, release_letters, to_each, voting}
use Rattle.world_model.specs.Updates.{touching}
use Rattle.world_model.specs.Votes.{vote_of}
use Rattle.world_model.proofs.Bags.{tally-append}
use Rattle.world_model.proofs.Sends.{on, subs_none}
use Rattle.tree_laws.specs.Applied.{votes_no}
use Rattle.tree_laws.proofs.histories.Turns.{answers_none, each_told, releases_none, replies_none}
use Rattle.world_model.proofs.Epochs.{order_each, ask_each}

-- a notice of tree u that is a no of tree t
abbrev pub is_no : ℕ → Notice → ℕ → ℕ
is_no t (No cause) u = one_if (u == t)
is_no t (Yes values) u = 0
is_no t (DidNotice values) u = 0

-- a letter that tells a no of tree t
abbrev pub tells_no : ℕ → Body → ℕ
tells_no t (Done u k v notice) = is_no t notice u.0
tells_no t Go = 0
tells_no t _ = 0

-- how many noes of tree t there are where a letter is done, and of this is told: that of its subtransaction
abbrev pub no_for : ℕ → Notice → Body → ℕ
no_for t notice (Root u) = is_no t notice u.0
no_for t notice (SubLetter u k v) = is_no t notice u.0
no_for t notice Go = 0
no_for t notice _ = 0

-- how many are told to the home: that of a root isn't
abbrev pub no_told : ℕ → Notice → Body → ℕ
no_told t notice (SubLetter u k v) = is_no t notice u.0
no_told t notice Go = 0
no_told t notice _ = 0

-- the no of tree w that is kept in mind then
abbrev pub refusal_after : ScriptData → Core → ℕ → Notice → Body → Option NegativeVote
refusal_after s c w notice (Root t) = refused_by t (record { 0 = 0 }) notice c.refusals w
refusal_after s c w notice (Done t k v told) = if is_strict_at s t.0 then refused_there t k told c w else c.refusals w
refusal_after s c w notice (Decided t v) = refusals_after (answer_when_acked t c.holds) c.refusals w
refusal_after s c w notice Go = c.refusals w
refusal_after s c w notice _ = c.refusals w

pub record RowVotes (s : ScriptData) (w : ℕ) (c : Core) (body : Body) (out : Out Core) : Type 0 where
  pub notice : Notice
  pub acts : tally (votes_no w) out.acts ≡ no_for w notice body
  pub sends : tally (on (tells_no w)) out.sent ≡ no_told w notice body
  pub refusals : out.state.refusals w ≡ refusal_after s c w notice body

-- The parts of a row.
record PartVotes (w : ℕ) (notice : Notice) (body : Body) (o : TreeOut) : Type 0 where
  acts : tally (votes_no w) o.out.acts ≡ no_for w notice body
  sends : tally (on (tells_no w)) o.out.sent ≡ no_told w notice body

act_no : (w : ℕ) (t : TreeNo) (k : SubNo) (notice : Notice) → votes_no w (act_of t k notice) ≡ is_no w notice t.0
act_no w t k (DidNotice values) = refl
act_no w t k (Yes values) = refl
act_no w t k (No cause) = refl

turned_no : (w : ℕ) (raises : Bool) (v : ℕ) → tally (votes_no w) (turned_if raises v) ≡ 0
turned_no w true v = refl
turned_no w false v = refl

part_votes : (w : ℕ) (s : ScriptData) (p from : ℕ) (v : Version) (raises : Bool) (e : Effect) (body : Body) (st : Node)
    → PartVotes w e.notice body (tree_part s p from v raises e body st)
part_votes w s p from v raises e (Root t) st = record {
  acts = omega (arith, act_no w t (record { 0 = 0 }) e.notice);
  sends = subs_none (tells_no w) t.0 v.0 0 0 (subs_at s t.0) (λ u j x. refl);
}
part_votes w s p from v raises e (SubLetter t k x) st = record {
  acts = omega (
    arith,
    tally-append (votes_no w) (turned_if raises v.0) (act_of t k e.notice ∷ []),
    turned_no w raises v.0,
    act_no w t k e.notice,
  );
  sends = omega (
    arith,
    tally-append (on (tells_no w)) (sub_letters t.0 v.0 k.0 0 (subs_at s t.0)) (done_letter (home_of s t.0) t.0 k.0 v.0 e.notice ∷ []),
    subs_none (tells_no w) t.0 v.0 k.0 0 (subs_at s t.0) (λ u j y. refl),
  );
}
part_votes w s p from v raises e Go st = record { acts = refl; sends = refl }
part_votes w s p from v raises e _ st = record { acts = refl; sends = refl }

-- the row of a tree that isn't strict
answered_votes : (w : ℕ) (s : ScriptData) (c d : Core) (notice : Notice) (body : Body) (o : TreeOut) → PartVotes w notice body o
    → d.refusals w ≡ refusal_after s c w notice body → RowVotes s w c body (answered s d o)
answered_votes w s c d notice body o it after = record {
  notice = notice;
  acts = it.acts;
  sends = omega (
    arith,
    it.sends,
    tally-append (on (tells_no w)) (o.out.sent ++ release_letters s o.answered) (reply_letters (client_of s) o.answered),
    tally-append (on (tells_no w)) o.out.sent (release_letters s o.answered),
    releases_none s (on (tells_no w)) o.answered (λ q t. refl),
    replies_none (client_of s) (on (tells_no w)) o.answered (λ q t v answer. refl),
  );
  refusals = after;
}

-- of a strict tree
decided_votes : (w : ℕ) (s : ScriptData) (c d : Core) (notice : Notice) (body : Body) (o : TreeOut) (found : Option Answered)
    → PartVotes w notice body o → d.refusals w ≡ refusal_after s c w notice body → RowVotes s w c body (decided s d o found)
decided_votes w s c d notice body o None it after = record {
  notice = notice;
  acts = it.acts;
  sends = it.sends;
  refusals = after;
}
decided_votes w s c d notice body o (Some a) it after =
    let told : Body = Decide a.tree a.version (none_refuses a.tree d.refusals) in
    record {
      notice = notice;
      acts = omega (arith, it.acts, tally-append (votes_no w) o.out.acts (acts.Decided a.tree (none_refuses a.tree d.refusals) ∷ []));
      sends = omega (
        arith,
        it.sends,
        tally-append (on (tells_no w)) o.out.sent (to_each told (visited_by s a.tree.0)),
        each_told (on (tells_no w)) told (visited_by s a.tree.0) (λ q. refl),
      );
      refusals = after;
    }

-- a letter that asks for a subtransaction
abbrev Asking : Body → Type 0
Asking (Root t) = Unit {0}
Asking (SubLetter t k v) = Unit {0}
Asking Go = ⊥
Asking _ = ⊥

did_after : (s : ScriptData) (c : Core) (w : ℕ) (notice : Notice) (body : Body) → Asking body
    → ((u : TreeNo) → refused_by u (record { 0 = 0 }) notice c.refusals ≡ c.refusals) → c.refusals w ≡ refusal_after s c w notice body
did_after s c w notice (Root u) asks none = ap (λ (rs : Refusals). rs w) (sym (none u))
did_after s c w notice (SubLetter u j v) asks none = refl
did_after s c w notice Go asks none = absurd asks
did_after s c w notice _ asks none = absurd asks

vote_after : (s : ScriptData) (c : Core) (w : ℕ) (vote : Vote) (body : Body) → Asking body
    → noted_vote body vote c.refusals w ≡ refusal_after s c w (notice_by vote) body
vote_after s c w vote (Root t) asks = refl
vote_after s c w vote (SubLetter t k v) asks = refl
vote_after s c w vote Go asks = absurd asks
vote_after s c w vote _ asks = absurd asks

kind_votes : (w : ℕ) (s : ScriptData) (p from : ℕ) (t : TreeNo) (body : Body) (kind : Option TreeKind) (c : Core) → Asking body
    → RowVotes s w c body (core_by_kind s p from t body kind c)
kind_votes w s p from t body (Some Update) c asks =
    let v : Version = asked_version c.node.turns.update body in
    let e : Effect = touching v (asked_ops s body) c.node.items in
    let raises : Bool = nat_lt c.node.turns.update.0 v.0 in
    let marked : Core = record c { locks = (core_by_kind s p from t body (Some Update) c).state.locks } in
    answered_votes w s c marked e.notice body (tree_part s p from v raises e body c.node) (part_votes w s p from v raises e body c.node)
    (did_after s c w e.notice body asks (λ u. refl))
kind_votes w s p from t body (Some Read) c asks =
    let v : Version = asked_version c.node.turns.read body in
    let e : Effect = getting v (asked_ops s body) c.node.items in
    answered_votes w s c c e.notice body (tree_part s p from v false e body c.node) (part_votes w s p from v false e body c.node)
    (did_after s c w e.notice body asks (λ u. refl))
kind_votes w s p from t body (Some Strict) c asks =
    let v : Version = asked_version c.node.turns.update body in
    let vote : Vote = vote_of c.locks c.node.items t v (asked_ops s body) in
    let e : Effect = voting vote c.node.items in
    let raises : Bool = nat_lt c.node.turns.update.0 v.0 in
    let o : TreeOut = tree_part s p from v raises e body c.node in
    let noted : Core = record c { locks = locks_by vote t (asked_ops s body) c.locks; refusals = noted_vote body vote c.refusals } in
    decided_votes w s c noted e.notice body o o.answered (part_votes w s p from v raises e body c.node) (vote_after s c w vote body asks)
kind_votes w s p from t body None c asks = record {
  notice = DidNotice [];
  acts = none_for w body;
  sends = none_told w body;
  refusals = did_after s c w (DidNotice []) body asks (λ u. refl);
} where
  none_for : (w : ℕ) (b : Body) → 0 ≡ no_for w (DidNotice []) b
  none_for w (Root u) = refl
  none_for w (SubLetter u k v) = refl
  none_for w Go = refl
  none_for w _ = refl

  none_told : (w : ℕ) (b : Body) → 0 ≡ no_told w (DidNotice []) b
  none_told w (SubLetter u k v) = refl
  none_told w Go = refl
  none_told w _ = refl

-- a notice
note_by : (w : ℕ) (s : ScriptData) (from : ℕ) (t : TreeNo) (k : SubNo) (v : Version) (notice : Notice) (c : Core) (test : Bool) → is_strict_at s t.0 ≡ test
    → RowVotes s w c (Done t k v notice)
    (if test then decided s (record c { refusals = refused_there t k notice c }) (note_part from t.0 k.0 v.0 (values_of notice) c.node) (note_part from t.0 k.0 v.0 (values_of notice) c.node).answered
    else answered s c (note_part from t.0 k.0 v.0 (values_of notice) c.node))
note_by w s from t k v notice c true strict =
    let o : TreeOut = note_part from t.0 k.0 v.0 (values_of notice) c.node in
    decided_votes w s c (record c { refusals = refused_there t k notice c }) notice (Done t k v notice) o o.answered (record { acts = refl; sends = refl })
    (rw strict refl)
note_by w s from t k v notice c false plain =
    let o : TreeOut = note_part from t.0 k.0 v.0 (values_of notice) c.node in
    answered_votes w s c c notice (Done t k v notice) o (record { acts = refl; sends = refl }) (rw plain refl)

-- a letter of no subtransaction, after which each no stays
rests : (s : ScriptData) (w : ℕ) (c : Core) (body : Body) (out : Out Core) → tally (votes_no w) out.acts ≡ no_for w (DidNotice []) body
    → tally (on (tells_no w)) out.sent ≡ no_told w (DidNotice []) body → out.state.refusals w ≡ refusal_after s c w (DidNotice []) body
    → RowVotes s w c body out
rests s w c body out none sent same = record { notice = DidNotice []; acts = none; sends = sent; refusals = same }

pub core_votes : (w : ℕ) (s : ScriptData) (p from : ℕ) (body : Body) (c : Core) → RowVotes s w c body (core_row s p c from body)
core_votes w s p from (Root t) c = kind_votes w s p from t (Root t) (tree_kind_at s t.0) c tt
core_votes w s p from (SubLetter t k v) c = kind_votes w s p from t (SubLetter t k v) (tree_kind_at s t.0) c tt
core_votes w s p from (Done t k v notice) c = note_by w s from t k v notice c (is_strict_at s t.0) refl
core_votes w s p from (Decide t v commit) c = rests s w c (Decide t v commit) _ refl refl refl
core_votes w s p from (Decided t v) c =
    rests s w c (Decided t v) _ refl (answers_none s c.refusals (on (tells_no w)) (answer_when_acked t c.holds) (λ q u x answer. refl)) refl
core_votes w s p from (Release t) c = rests s w c (Release t) _ refl refl refl
core_votes w s p from (Turn v) c = rests s w c (Turn v) _ (turned_no w (nat_lt c.node.turns.update.0 v.0) v.0) refl refl
core_votes w s p from (Show v) c = rests s w c (Show v) _ refl refl refl
core_votes w s p from (Sweep v) c = rests s w c (Sweep v) _ refl refl refl
core_votes w s p from (AskDone v k) c = rests s w c (AskDone v k) _ refl refl refl
core_votes w s p from (AskAsked v k) c = rests s w c (AskAsked v k) _ refl refl refl
core_votes w s p from (Order e what v) c =
    let body : Body = Order e what v in
    order_each (RowVotes s w c body) s e what v c (rests s w c body _ refl refl refl) (rests s w c body _ refl refl refl)
    (λ to. rests s w c body _ (turned_no w (nat_lt c.node.turns.update.0 v.0) v.0) refl refl) (λ to new. rests s w c body _ refl refl refl)
    (λ to new. rests s w c body _ refl refl refl)
core_votes w s p from (Ask e) c =
    ask_each (RowVotes s w c (Ask e)) s e c (rests s w c (Ask e) _ refl refl refl) (rests s w c (Ask e) _ refl refl refl)
core_votes w s p from Go c = rests s w c Go _ refl refl refl
core_votes w s p from _ c = rests s w c _ _ refl refl refl
