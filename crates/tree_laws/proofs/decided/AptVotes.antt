-- In runs of enabled messages, of every script: a strict transaction commits if none of its subtransactions voted no,
-- and aborts if one did. Its home keeps a negative vote in mind exactly if one has come to it.
use Rattle.std.proofs.Common.{◌≡◌, ◌≢◌, ℕ, ◌+◌, ◌<◌, ◌≤◌, ◌==◌, ◌&&◌, ◌⊎◌, inl, inr, Bool, true, false, not, List, [], ◌∷◌, length, refl, sym, ap, subst, ◌∙◌, arith, Option, Some, None}
use Rattle.std.specs.Prelude.{if◌then◌else◌, nat_lt}
use Rattle.std.proofs.lemmas.Bool.{cases_eq}
use Rattle.std.proofs.lemmas.Bool.Decides.{nat_tests}
use Rattle.tv_base.specs.declared.numbers.SubNo.{SubNo}
use Rattle.tv_base.specs.declared.numbers.TreeNo.{TreeNo}
use Rattle.tv_base.specs.declared.numbers.Version.{Version}
use Rattle.tx_trees.proofs.SubsOf.{home_below}
use Rattle.letter_types.specs.Steps.{Out}
use Rattle.letter_types.specs.declared.acts.Act.{Act}
use Rattle.letter_types.specs.declared.acts.Act.TheVariants as acts
use Rattle.letter_types.specs.declared.bodies.Body.{Body}
use Rattle.letter_types.specs.declared.bodies.Body.TheVariants.{Root, Sub as SubLetter, Done, Decided, Go}
use Rattle.letter_types.specs.declared.bodies.Notice.{Notice}
use Rattle.letter_types.specs.declared.bodies.Notice.TheVariants.{Did as DidNotice, Yes, No}
use Rattle.letter_types.specs.declared.entries.Entry.{Entry}
use Rattle.letter_types.specs.declared.entries.Letter.{Letter}
use Rattle.letter_types.specs.declared.entries.Outgoing.{Outgoing}
use Rattle.tree_home.proofs.Maps.{put_at-other, put_at-same}
use Rattle.tree_home.specs.HeldAnswers.{answer_when_acked, held_in, last_answer}
use Rattle.tree_home.specs.Homes.{misses}
use Rattle.tree_home.specs.declared.homes.Answered.{Answered as AnsweredTree}
use Rattle.tree_home.specs.declared.homes.Held.{Held}
use Rattle.tx_trees.specs.ScriptData.{ScriptData, home_of, subs_at}
use Rattle.tx_trees.specs.Valid.{IsValid}
use Rattle.world_model.specs.declared.refusal.NegativeVote.{NegativeVote}
use Rattle.world_model.specs.AllApt.{AllApt}
use Rattle.world_model.specs.Core.{Core, Refusals, lesser, refused_by}
use Rattle.world_model.specs.Counts.{one_if, tally}
use Rattle.world_model.specs.Keeping.{KeepingNode}
use Rattle.world_model.specs.Named.{is_strict_at, suits}
use Rattle.world_model.specs.Runs.{IsStepRun, MayFollow, client_in, in_flight, keeping_in}
use Rattle.world_model.specs.Strict.{CoreKeeping, answer_letters, core_row, none_refuses, refusals_after, refused_there}
use Rattle.world_model.proofs.Cases.{Keeps, does_number, keeps_number}
use Rattle.world_model.proofs.Keepings.{of_kept}
use Rattle.world_model.proofs.Outstanding.{done_apart, keeping_elsewhere, took_outstanding}
use Rattle.world_model.proofs.Scripts.{SubAt, get_below, sub_here}
use Rattle.world_model.proofs.Sends.{on}
use Rattle.tree_laws.specs.Applied.{DecidedByVotes, decided_as, has_decided, noes, votes_no}
use Rattle.tree_laws.specs.Dids.{answers, asks, replies_to, tells_done}
use Rattle.tree_laws.specs.Stages.{StageAt, Answered, Gathers, Holds, Unborn, home_at}
use Rattle.tree_laws.specs.Turns.{turns}
use Rattle.tree_laws.proofs.decided.AptDecided.{GathersNow, Now, Once, ack_decides, decided_any, decides_any, kept_decides, note_gathers, once_in_run, other_decides, ruled_here, sub_decides}
use Rattle.tree_laws.proofs.decided.AptApplied.{decides_of}
use Rattle.tree_laws.proofs.apt.AptOfTree.{ByClient, ByCoordinator, IsOther, Kept, OfTree, Other, OwnAck, OwnNote, OwnRoot, OwnSub, decided_names, of_tree}
use Rattle.tree_laws.proofs.decided.AptRulings.{CountsNoKeeping, RowRules, Rules, client_acts, core_rules, keeping_acts, ruled_acts}
use Rattle.tree_laws.proofs.stages.AptStagesApart.{CountsNoOthers, NoneMisplaced, client_none, coordinator_none, misplaced, none_misplaced, none_of_others}
use Rattle.tree_laws.proofs.stages.AptStagesOwn.{Doing, NoteAt, ack_home, asked, home_here, note_at, note_missed, root_home, root_unturned, sub_of_node, sub_place, turned_here, unborn_by}
use Rattle.tree_laws.proofs.stages.AptStagesRun.{stages_of_trees}
use Rattle.tree_laws.proofs.stages.AptStagesSteps.{CountsNoAsking, done_flow, sent_by}
use Rattle.tree_laws.proofs.apt.AptSteps.{outside}
use Rattle.tree_laws.proofs.apt.AptTurns.{no_turn_yet}
use Rattle.tree_laws.proofs.decided.AptVotesRows.{RowVotes, core_votes, is_no, no_for, no_told, refusal_after, tells_no}
use Rattle.tree_laws.proofs.homes.Answering.{one_here}
use Rattle.tree_laws.proofs.homes.Staging.{told_one}

-- the noes of tree t in flight to its home, and the no that its home keeps in mind
abbrev pub refusing : ScriptData → List Entry → ℕ → ℕ
refusing s past t = tally (λ (l : Letter). tells_no t l.body) (in_flight s past)

abbrev pub refusal_at : ScriptData → List Entry → ℕ → Option NegativeVote
refusal_at s past t = (keeping_in s past (home_of s t)).core.refusals t

-- a no is kept in mind exactly where more were cast than are in flight
abbrev pub KeepsNo : Option NegativeVote → ℕ → ℕ → Type 0
KeepsNo None cast flying = cast ≡ flying
KeepsNo (Some r) cast flying = flying + 1 ≤ cast

keeps_on : (o : Option NegativeVote) (cast flying cast_now flying_now : ℕ) → cast_now + flying ≡ cast + flying_now → KeepsNo o cast flying → KeepsNo o cast_now flying_now
keeps_on None cast flying cast_now flying_now same it = omega (arith, same, it)
keeps_on (Some r) cast flying cast_now flying_now same it = omega (arith, same, it)

keeps_new : (o : Option NegativeVote) (cast flying cast_now flying_now : ℕ) → cast_now + flying ≡ cast + flying_now + 1 → KeepsNo o cast flying
    → flying_now + 1 ≤ cast_now
keeps_new None cast flying cast_now flying_now more it = omega (arith, more, it)
keeps_new (Some r) cast flying cast_now flying_now more it = omega (arith, more, it)

-- what holds of a tree's votes: until it is answered its home keeps a no in mind exactly where one has come, and it was
-- decided on by that
pub record Votes (s : ScriptData) (past : List Entry) (t : ℕ) : Type 0 where
  pub keeps : answers past t ≡ 0 → KeepsNo (refusal_at s past t) (noes past t) (refusing s past t)
  pub commits : 1 ≤ decided_as past t true → noes past t ≡ 0
  pub aborts : 1 ≤ decided_as past t false → 1 ≤ noes past t

-- an entry that leaves the tree's votes
record LeavesVotes (s : ScriptData) (past : List Entry) (e : Entry) (t : ℕ) : Type 0 where
  refusal : refusal_at s (e ∷ past) t ≡ refusal_at s past t
  cast : tally (votes_no t) e.acts ≡ 0
  flying : refusing s (e ∷ past) t ≡ refusing s past t
  decided : decides_any t e.acts ≡ 0

votes_stay : (s : ScriptData) (past : List Entry) (e : Entry) (t : ℕ) → LeavesVotes s past e t → Votes s past t → Votes s (e ∷ past) t
votes_stay s past e t l v = record {
  keeps = λ is.
      subst (λ (o : Option NegativeVote). KeepsNo o (noes (e ∷ past) t) (refusing s (e ∷ past) t)) (sym l.refusal)
      (keeps_on (refusal_at s past t) (noes past t) (refusing s past t) (noes (e ∷ past) t) (refusing s (e ∷ past) t)
      (omega (arith, l.cast, l.flying)) (v.keeps (omega (arith, is))));
  commits = λ some. omega (arith, l.cast, v.commits (omega (arith, some, l.decided)));
  aborts = λ some. omega (arith, v.aborts (omega (arith, some, l.decided)));
}

-- Numbers of noes.
other_no : (w : ℕ) (notice : Notice) (u : ℕ) → u ≢ w → is_no w notice u ≡ 0
other_no w (No cause) u ne = let other : (u == w) ≡ false = grind (arith, nat_tests) in rw other refl
other_no w (Yes values) u ne = refl
other_no w (DidNotice values) u ne = refl

tells_no_asking : (w : ℕ) → CountsNoAsking (tells_no w)
tells_no_asking w = record { roots = λ u. refl; subs = λ u j v. refl; wakes = λ u j. refl }

tells_no_others : (w : ℕ) → CountsNoOthers (tells_no w)
tells_no_others w =
    none_of_others (tells_no w) (λ t. refl) (λ v. (refl, (refl, refl))) (λ e what v. (refl, refl)) (λ v k. (refl, refl)) (λ v. refl)
    (refl, (refl, refl)) (λ e k. (refl, refl))

votes_no_keeping : (w : ℕ) → CountsNoKeeping (votes_no w)
votes_no_keeping w = record { turned = λ v. refl; parked = λ t k i u. refl; waits = λ t v x. refl }

-- where no notice of a tree is in flight, no no is
no_noes : (t : ℕ) (ls : List Letter) → ((k : ℕ) → tally (λ (l : Letter). tells_done t k l.body) ls ≡ 0) → tally (λ (l : Letter). tells_no t l.body) ls ≡ 0
no_noes t [] none = refl
no_noes t (l ∷ ls) none = omega (arith, by l.body (λ k. omega (arith, none k)), no_noes t ls (λ k. omega (arith, none k))) where
  less : (u k : ℕ) (notice : Notice) → one_if ((u == t) && (k == k)) ≡ 0 → is_no t notice u ≡ 0
  less u k (No cause) zero = grind (arith, nat_tests)
  less u k (Yes values) zero = refl
  less u k (DidNotice values) zero = refl

  by : (b : Body) → ((k : ℕ) → tells_done t k b ≡ 0) → tells_no t b ≡ 0
  by (Done u k v notice) zero = less u.0 k.0 notice (zero k.0)
  by Go zero = refl
  by _ zero = refl

-- What an entry that does a letter makes of them.
record Casts (s : ScriptData) (past : List Entry) (e : Entry) (p w : ℕ) (r : Letter) : Type 0 where
  notice : Notice
  cast : tally (votes_no w) e.acts ≡ no_for w notice r.body
  flying : refusing s (e ∷ past) w + tells_no w r.body ≡ refusing s past w + no_told w notice r.body
  refusal : (keeping_in s (e ∷ past) p).core.refusals w ≡ refusal_after s (keeping_in s past p).core w notice r.body

casts : (s : ScriptData) (past : List Entry) (e : Entry) (p w : ℕ) (r : Letter) → Doing s past e p r → Casts s past e p w r
casts s past e p w r g =
    let c : Core = (keeping_in s past p).core in
    let row : Out Core = core_row s p c r.from.0 r.body in
    let v : RowVotes s w c r.body row = core_votes w s p r.from.0 r.body c in
    record {
      notice = v.notice;
      cast = ap (λ (xs : List Act). tally (votes_no w) xs) g.does.acts ∙ v.acts;
      flying = omega (
        arith,
        done_flow (tells_no w) s past e (tells_no_asking w) g.run.0,
        does_number (λ (l : Letter). tells_no w l.body) s past e p r g.does,
        sent_by (tells_no w) s past e p r (λ u k. refl) g.does,
        v.sends,
      );
      refusal = ap (λ (x : Core). x.refusals w) g.does.core ∙ v.refusals;
    }

-- the refusal at tree w's home, where node p goes on
refusal_by : (s : ScriptData) (past : List Entry) (e : Entry) (p w : ℕ) (o : Option NegativeVote) → e.actor.0 ≡ p
    → (keeping_in s (e ∷ past) p).core.refusals w ≡ o → o ≡ (keeping_in s past p).core.refusals w → (p ≡ home_of s w) ⊎ (p ≢ home_of s w)
    → refusal_at s (e ∷ past) w ≡ refusal_at s past w
refusal_by s past e p w o at is same (inl here) =
    subst (λ (q : ℕ). (keeping_in s (e ∷ past) q).core.refusals w ≡ (keeping_in s past q).core.refusals w) here (is ∙ same)
refusal_by s past e p w o at is same (inr ne) =
    ap (λ (n : KeepingNode). n.core.refusals w) (keeping_elsewhere s past e (home_of s w) (λ eq. ne (sym at ∙ eq)))

-- A letter of no tree, or of another.
record OtherVotes (s : ScriptData) (c : Core) (w : ℕ) (notice : Notice) (body : Body) : Type 0 where
  cast : no_for w notice body ≡ 0
  told : no_told w notice body ≡ 0
  tells : tells_no w body ≡ 0
  refusal : refusal_after s c w notice body ≡ c.refusals w

refused_other : (t : TreeNo) (k : SubNo) (notice : Notice) (rs : Refusals) (w : ℕ) → t.0 ≢ w → refused_by t k notice rs w ≡ rs w
refused_other t k (No cause) rs w ne =
    put_at-other t.0 w (Some (lesser (rs t.0) (record { sub = k; cause = cause }))) rs (λ same. ne (sym same))
refused_other t k (Yes values) rs w ne = refl
refused_other t k (DidNotice values) rs w ne = refl

there_other : (t : TreeNo) (k : SubNo) (notice : Notice) (c : Core) (w : ℕ) (test : Bool) → t.0 ≢ w
    → (if test then refused_by t k notice c.refusals else c.refusals) w ≡ c.refusals w
there_other t k notice c w true ne = refused_other t k notice c.refusals w ne
there_other t k notice c w false ne = refl

if_same : (test : Bool) (x y : Option NegativeVote) → x ≡ y → (if test then x else y) ≡ y
if_same true x y is = is
if_same false x y is = refl

answered_other : (rs : Refusals) (found : Option AnsweredTree) (w : ℕ) → ((a : AnsweredTree) → found ≡ Some a → a.tree.0 ≢ w)
    → refusals_after found rs w ≡ rs w
answered_other rs None w ne = refl
answered_other rs (Some a) w ne = put_at-other a.tree.0 w None rs (λ same. ne a refl (sym same))

last_names : (t : ℕ) (found : Option Held) (a : AnsweredTree) → ((h : Held) → found ≡ Some h → h.answered.tree.0 ≡ t) → last_answer found ≡ Some a
    → a.tree.0 ≡ t
last_names t None a names is = absurd (cc is)
last_names t (Some h) a names is = by (nat_lt 1 h.waits) is where
  by : (test : Bool) → (if test then None else Some h.answered) ≡ Some a → a.tree.0 ≡ t
  by true at = absurd (cc at)
  by false at =
      let same : h.answered ≡ a = cc at in
      subst (λ (x : AnsweredTree). x.tree.0 ≡ t) same (names h refl)

other_votes : (s : ScriptData) (c : Core) (w : ℕ) (notice : Notice) (body : Body) → IsOther w c.holds body → OtherVotes s c w notice body
other_votes s c w notice (Root t) ne = record {
  cast = other_no w notice t.0 ne;
  told = refl;
  tells = refl;
  refusal = refused_other t (record { 0 = 0 }) notice c.refusals w ne;
}
other_votes s c w notice (SubLetter t k v) ne = record {
  cast = other_no w notice t.0 ne;
  told = other_no w notice t.0 ne;
  tells = refl;
  refusal = refl;
}
other_votes s c w notice (Done t k v brought) ne = record {
  cast = refl;
  told = refl;
  tells = other_no w brought t.0 ne;
  refusal = if_same (is_strict_at s t.0) (refused_there t k brought c w) (c.refusals w) (there_other t k brought c w (misses t k c.node.homes) ne);
}
other_votes s c w notice (Decided t v) it = record {
  cast = refl;
  told = refl;
  tells = refl;
  refusal = answered_other c.refusals (answer_when_acked t c.holds) w
      (λ a is same. it.0 (sym (last_names t.0 (held_in t c.holds) a it.1 is) ∙ same));
}
other_votes s c w notice Go it = record { cast = refl; told = refl; tells = refl; refusal = refl }
other_votes s c w notice _ it = record { cast = refl; told = refl; tells = refl; refusal = refl }

other_leaves : (s : ScriptData) (past : List Entry) (e : Entry) (p w : ℕ) (r : Letter) → Doing s past e p r
    → IsOther w (keeping_in s past p).core.holds r.body → LeavesVotes s past e w
other_leaves s past e p w r g it =
    let c : Core = (keeping_in s past p).core in
    let k : Casts s past e p w r = casts s past e p w r g in
    let o : OtherVotes s c w k.notice r.body = other_votes s c w k.notice r.body it in
    record {
      refusal = refusal_by s past e p w (refusal_after s c w k.notice r.body) g.does.brings.at k.refusal o.refusal (cases_eq p (home_of s w));
      cast = k.cast ∙ o.cast;
      flying = omega (arith, k.flying, o.told, o.tells);
      decided = other_decides s past e p w r g it;
    }

-- A node keeps a letter.
abbrev LeavesRefusals : Core → CoreKeeping → Type 0
LeavesRefusals c k = k.state.refusals ≡ c.refusals

kept_leaves : (s : ScriptData) (past : List Entry) (e : Entry) (p w : ℕ) (r : Letter) (k : CoreKeeping) → MayFollow s past e
    → Keeps s past e p r k → LeavesVotes s past e w
kept_leaves s past e p w r k m d =
    let c : Core = (keeping_in s past p).core in
    let same : LeavesRefusals c k =
    of_kept s c (LeavesRefusals c) r.body k (record { parks = λ t j raises v met. refl; waits = λ t. refl }) d.keeps in
    record {
      refusal = refusal_by s past e p w (k.state.refusals w) d.brings.at (ap (λ (x : Core). x.refusals w) d.core)
          (ap (λ (rs : Refusals). rs w) same) (cases_eq p (home_of s w));
      cast = ap (λ (xs : List Act). tally (votes_no w) xs) d.acts ∙ keeping_acts (votes_no w) s c r.body k (votes_no_keeping w) d.keeps;
      flying = omega (
        arith,
        done_flow (tells_no w) s past e (tells_no_asking w) m,
        keeps_number (λ (l : Letter). tells_no w l.body) s past e p r k d,
        ap (λ (os : List Outgoing). tally (on (tells_no w)) os) d.sent,
      );
      decided = kept_decides s past e p w r k d;
    }

-- Another actor takes no notice.
took_no : (s : ScriptData) (w to : ℕ) (body : Body) → s.nodes ≤ to → misplaced s to body ≡ 0 → tells_no w body ≡ 0
took_no s w to (Done t k v notice) le placed = absurd (omega (arith, placed, outside s to le))
took_no s w to Go le placed = refl
took_no s w to _ le placed = refl

apart_leaves : (s : ScriptData) (past : List Entry) (e : Entry) (w : ℕ) → MayFollow s past e → NoneMisplaced s past → home_of s w < s.nodes
    → s.nodes ≤ e.actor.0 → tally (on (tells_no w)) e.sent ≡ 0 → tally (votes_no w) e.acts ≡ 0 → decides_any w e.acts ≡ 0
    → LeavesVotes s past e w
apart_leaves s past e w m placed home out sent none quiet =
    let off : Letter → ℕ = λ l. misplaced s l.to.0 l.body in
    record {
      refusal = ap (λ (n : KeepingNode). n.core.refusals w) (keeping_elsewhere s past e (home_of s w) (λ eq. omega (arith, eq, home, out)));
      cast = none;
      flying = omega (
        arith,
        done_flow (tells_no w) s past e (tells_no_asking w) m,
        done_apart (λ (l : Letter). tells_no w l.body) s past e out,
        took_no s w e.took.to.0 e.took.body (omega (arith, out, m.addressee)) (omega (arith, placed, took_outstanding s past e m off)),
        sent,
      );
      decided = quiet;
    }

-- A letter by which tree t may be decided on, where it wasn't and isn't answered: a no is kept in mind exactly where one
-- has come, and with the decision none is in flight.
record Own (s : ScriptData) (past : List Entry) (e : Entry) (p : ℕ) (t : TreeNo) (r : Letter) : Type 0 where
  home : p ≡ home_of s t.0
  rules : (u : TreeNo) → Rules u r.body → u ≡ t
  undecided : decided_any past t.0 ≡ 0
  keeps : KeepsNo (refusal_at s (e ∷ past) t.0) (noes (e ∷ past) t.0) (refusing s (e ∷ past) t.0)
  quiet : home_at s (e ∷ past) t.0 ≡ None → refusing s (e ∷ past) t.0 ≡ 0

-- by the refusal
decided_now : (t : ℕ) (rs : Refusals) (a : AnsweredTree) (o : Option NegativeVote) (cast flying : ℕ) → rs a.tree.0 ≡ o → KeepsNo o cast flying
    → flying ≡ 0
    → (1 ≤ tally (has_decided t true) (ruled_acts rs (Some a)) → cast ≡ 0) × (1 ≤ tally (has_decided t false) (ruled_acts rs (Some a)) → 1 ≤ cast)
decided_now t rs a None cast flying is keeps none =
    let commit : none_refuses a.tree rs ≡ true = rw is refl in
    let never : tally (has_decided t false) (ruled_acts rs (Some a)) ≡ 0 = rw commit (omega (arith, aborts_none (a.tree.0 == t))) in
    (λ some. omega (arith, keeps, none), λ some. absurd (omega (arith, some, never)))
  where
    aborts_none : (x : Bool) → one_if (x && not true) ≡ 0
    aborts_none true = refl
    aborts_none false = refl
decided_now t rs a (Some r) cast flying is keeps none =
    let abort : none_refuses a.tree rs ≡ false = rw is refl in
    let never : tally (has_decided t true) (ruled_acts rs (Some a)) ≡ 0 = rw abort (omega (arith, commits_none (a.tree.0 == t))) in
    (λ some. absurd (omega (arith, some, never)), λ some. omega (arith, keeps))
  where
    commits_none : (x : Bool) → one_if (x && false) ≡ 0
    commits_none true = refl
    commits_none false = refl

own_by : (s : ScriptData) (past : List Entry) (e : Entry) (p : ℕ) (t : TreeNo) (r : Letter) (found : Option AnsweredTree) → Doing s past e p r
    → Own s past e p t r
    → ((a : AnsweredTree) → found ≡ Some a → a.tree ≡ t)
    → ((a : AnsweredTree) → found ≡ Some a → (core_row s p (keeping_in s past p).core r.from.0 r.body).state.node.homes a.tree.0 ≡ None)
    → ((b : Bool) → tally (has_decided t.0 b) e.acts
    ≡ tally (has_decided t.0 b) (ruled_acts (core_row s p (keeping_in s past p).core r.from.0 r.body).state.refusals found))
    → Votes s (e ∷ past) t.0
own_by s past e p t r None g own its gone does = record {
  keeps = λ is. own.keeps;
  commits = λ some. absurd (omega (arith, some, own.undecided, does true));
  aborts = λ some. absurd (omega (arith, some, own.undecided, does false));
}
own_by s past e p t r (Some a) g own its gone does =
    let row : Out Core = core_row s p (keeping_in s past p).core r.from.0 r.body in
    let left : home_at s (e ∷ past) t.0 ≡ None =
    home_here s past e p t.0 r g own.home ∙ subst (λ (u : TreeNo). row.state.node.homes u.0 ≡ None) (its a refl) (gone a refl) in
    let there : refusal_at s (e ∷ past) t.0 ≡ row.state.refusals t.0 =
    subst (λ (q : ℕ). (keeping_in s (e ∷ past) q).core.refusals t.0 ≡ row.state.refusals t.0) own.home
    (ap (λ (x : Core). x.refusals t.0) g.does.core) in
    let same : row.state.refusals a.tree.0 ≡ refusal_at s (e ∷ past) t.0 =
    ap (λ (u : TreeNo). row.state.refusals u.0) (its a refl) ∙ sym there in
    let now = decided_now t.0 row.state.refusals a (refusal_at s (e ∷ past) t.0) (noes (e ∷ past) t.0) (refusing s (e ∷ past) t.0) same own.keeps
    (own.quiet left) in
    record {
      keeps = λ is. own.keeps;
      commits = λ some. now.0 (omega (arith, some, own.undecided, does true));
      aborts = λ some. now.1 (omega (arith, some, own.undecided, does false));
    }

own_votes : (s : ScriptData) (past : List Entry) (e : Entry) (p : ℕ) (t : TreeNo) (r : Letter) → Doing s past e p r → Own s past e p t r
    → Votes s (e ∷ past) t.0
own_votes s past e p t r g own =
    let c : Core = (keeping_in s past p).core in
    let rules : RowRules s c r.body (core_row s p c r.from.0 r.body) = core_rules s p r.from.0 r.body c in
    own_by s past e p t r rules.found g own (λ a is. own.rules a.tree (rules.rules a is)) rules.gone
    (λ b. ruled_here s past e p r t.0 b g.does rules)

-- a tree that is born and isn't open any more has no notice in flight
closed_quiet : (s : ScriptData) (past : List Entry) (t : ℕ) → 1 ≤ turns past t 0 → home_at s past t ≡ None → StageAt s past t → refusing s past t ≡ 0
closed_quiet s past t born gone (Unborn u) = absurd (omega (arith, born, u.root))
closed_quiet s past t born gone (Gathers h it) = absurd (let there = it.home in cc (there, gone))
closed_quiet s past t born gone (Holds h it) = no_noes t (in_flight s past) (λ k. it.all.notes k)
closed_quiet s past t born gone (Answered it) = no_noes t (in_flight s past) (λ k. it.all.notes k)

refusal_here : (s : ScriptData) (past : List Entry) (e : Entry) (p : ℕ) (t : ℕ) (o : Option NegativeVote) → p ≡ home_of s t
    → (keeping_in s (e ∷ past) p).core.refusals t ≡ o → refusal_at s (e ∷ past) t ≡ o
refusal_here s past e p t o at is = subst (λ (q : ℕ). (keeping_in s (e ∷ past) q).core.refusals t ≡ o) at is

-- A root: its vote is taken down at once.
root_keeps : (t : TreeNo) (notice : Notice) (rs : Refusals) (cast flying cast_now flying_now : ℕ) → cast_now ≡ cast + is_no t.0 notice t.0
    → flying_now ≡ flying → KeepsNo (rs t.0) cast flying → KeepsNo (refused_by t (record { 0 = 0 }) notice rs t.0) cast_now flying_now
root_keeps t (No cause) rs cast flying cast_now flying_now more same it =
    let kept : Option NegativeVote = Some (lesser (rs t.0) (record { sub = record { 0 = 0 }; cause = cause })) in
    subst (λ (o : Option NegativeVote). KeepsNo o cast_now flying_now) (sym (put_at-same t.0 kept rs))
    (keeps_new (rs t.0) cast flying cast_now flying_now (omega (arith, more, same, one_here t.0 t.0 refl)) it)
root_keeps t (Yes values) rs cast flying cast_now flying_now more same it =
    keeps_on (rs t.0) cast flying cast_now flying_now (omega (arith, more, same)) it
root_keeps t (DidNotice values) rs cast flying cast_now flying_now more same it =
    keeps_on (rs t.0) cast flying cast_now flying_now (omega (arith, more, same)) it

root_votes : (s : ScriptData) (past : List Entry) (e : Entry) (p : ℕ) (t : TreeNo) (r : Letter) → Doing s past e p r → r.body ≡ Root t
    → t.0 < length s.trees → Votes s past t.0 → Votes s (e ∷ past) t.0
root_votes s past e p t r g is lt v =
    let c : Core = (keeping_in s past p).core in
    let at : p ≡ home_of s t.0 = root_home s past e p t r g is in
    let none : turns past t.0 0 ≡ 0 = root_unturned s past e p t r g is in
    let sub : SubAt s t.0 0 = sub_of_node s p t.0 0 (sym at) g.does.brings.below in
    let first : 0 < length (subs_at s t.0) = get_below (subs_at s t.0) 0 sub.sub (sub_here s t.0 0 sub) in
    let silent : answers past t.0 ≡ 0 = (unborn_by s past t.0 sub none first (stages_of_trees s past g.valid g.apt.1 g.run.1 t.0 lt)).answers in
    let k : Casts s past e p t.0 r = casts s past e p t.0 r g in
    let now : refusal_at s (e ∷ past) t.0 ≡ refused_by t (record { 0 = 0 }) k.notice c.refusals t.0 =
    refusal_here s past e p t.0 (refused_by t (record { 0 = 0 }) k.notice c.refusals t.0) at
    (k.refusal ∙ ap (refusal_after s c t.0 k.notice) is) in
    let before : c.refusals t.0 ≡ refusal_at s past t.0 = ap (λ (q : ℕ). (keeping_in s past q).core.refusals t.0) at in
    let one : asks t.0 0 r.body ≡ 1 = ap (asks t.0 0) is ∙ told_one t.0 0 0 refl in
    own_votes s past e p t r g
    (record {
      home = at;
      rules = λ u its. subst (λ (b : Body). Rules u b) is its;
      undecided = (once_in_run s past t.0 g.valid g.apt.1 g.run.1 lt).unborn none;
      keeps = subst (λ (o : Option NegativeVote). KeepsNo o (noes (e ∷ past) t.0) (refusing s (e ∷ past) t.0)) (sym now)
          (root_keeps t k.notice c.refusals (noes past t.0) (refusing s past t.0) (noes (e ∷ past) t.0) (refusing s (e ∷ past) t.0)
          (omega (arith, k.cast, ap (no_for t.0 k.notice) is))
          (omega (arith, k.flying, ap (tells_no t.0) is, ap (no_told t.0 k.notice) is))
          (subst (λ (o : Option NegativeVote). KeepsNo o (noes past t.0) (refusing s past t.0)) (sym before) (v.keeps silent)));
      quiet = λ gone.
          closed_quiet s (e ∷ past) t.0 (omega (arith, turned_here s past e p t.0 0 r g, one)) gone
          (stages_of_trees s (e ∷ past) g.valid g.apt g.run t.0 lt);
    })

-- Another subtransaction: its no is in flight then.
sub_undecided : (s : ScriptData) (past : List Entry) (t k : ℕ) → Once s past t → turns past t k ≡ 0 → k < length (subs_at s t) → StageAt s past t
    → decided_any past t ≡ 0
sub_undecided s past t k o none lt (Unborn u) = o.unborn u.root
sub_undecided s past t k o none lt (Gathers h it) = o.opened h it.home
sub_undecided s past t k o none lt (Holds h it) = absurd (omega (arith, none, it.all.turned k lt))
sub_undecided s past t k o none lt (Answered it) = absurd (omega (arith, none, it.all.turned k lt))

sub_votes : (s : ScriptData) (past : List Entry) (e : Entry) (p : ℕ) (t : TreeNo) (k : SubNo) (x : Version) (r : Letter) → Doing s past e p r
    → r.body ≡ SubLetter t k x → t.0 < length s.trees → Votes s past t.0 → Votes s (e ∷ past) t.0
sub_votes s past e p t k x r g is lt v =
    let c : Core = (keeping_in s past p).core in
    let at = sub_place s past e p t k x r g is in
    let sub : SubAt s t.0 k.0 = sub_of_node s p t.0 k.0 (sym at) g.does.brings.below in
    let below : k.0 < length (subs_at s t.0) = get_below (subs_at s t.0) k.0 sub.sub (sub_here s t.0 k.0 sub) in
    let one : asks t.0 k.0 r.body ≡ 1 = ap (asks t.0 k.0) is ∙ told_one t.0 k.0 k.0 refl in
    let new = no_turn_yet s past t.0 k.0 sub g.valid g.apt.1 g.run.1 (asked s past e p t.0 k.0 r g one) in
    let none : decided_any past t.0 ≡ 0 =
    sub_undecided s past t.0 k.0 (once_in_run s past t.0 g.valid g.apt.1 g.run.1 lt) new below (stages_of_trees s past g.valid g.apt.1 g.run.1 t.0 lt) in
    let quiet : decides_any t.0 e.acts ≡ 0 = sub_decides s past e p t.0 t k x r g is in
    let n : Casts s past e p t.0 r = casts s past e p t.0 r g in
    let same : refusal_at s (e ∷ past) t.0 ≡ refusal_at s past t.0 =
    refusal_by s past e p t.0 (refusal_after s c t.0 n.notice r.body) g.does.brings.at n.refusal (ap (refusal_after s c t.0 n.notice) is)
    (cases_eq p (home_of s t.0)) in
    record {
      keeps = λ silent.
          subst (λ (o : Option NegativeVote). KeepsNo o (noes (e ∷ past) t.0) (refusing s (e ∷ past) t.0)) (sym same)
          (keeps_on (refusal_at s past t.0) (noes past t.0) (refusing s past t.0) (noes (e ∷ past) t.0) (refusing s (e ∷ past) t.0)
          (omega (
            arith,
            n.cast,
            n.flying,
            ap (no_for t.0 n.notice) is,
            ap (no_told t.0 n.notice) is,
            ap (tells_no t.0) is,
          ))
          (v.keeps (omega (arith, silent))));
      commits = λ some. absurd (omega (arith, some, none, quiet));
      aborts = λ some. absurd (omega (arith, some, none, quiet));
    }

-- A notice: its no is taken down.
there_keeps : (s : ScriptData) (t : TreeNo) (k : SubNo) (notice : Notice) (c : Core) (strict : Bool) (cast flying cast_now flying_now : ℕ)
    → suits strict notice ≡ true → misses t k c.node.homes ≡ true → cast_now ≡ cast → flying_now + is_no t.0 notice t.0 ≡ flying
    → KeepsNo (c.refusals t.0) cast flying
    → KeepsNo (if strict then refused_there t k notice c t.0 else c.refusals t.0) cast_now flying_now
there_keeps s t k notice c false cast flying cast_now flying_now fits miss same less it = plain notice fits less where
  plain : (n : Notice) → suits false n ≡ true → flying_now + is_no t.0 n t.0 ≡ flying → KeepsNo (c.refusals t.0) cast_now flying_now
  plain (No cause) suit fewer = absurd (cc suit)
  plain (Yes values) suit fewer = absurd (cc suit)
  plain (DidNotice values) suit fewer = keeps_on (c.refusals t.0) cast flying cast_now flying_now (omega (arith, same, fewer)) it
there_keeps s t k notice c true cast flying cast_now flying_now fits miss same less it =
    subst (λ (rs : Refusals). KeepsNo (rs t.0) cast_now flying_now) (sym taken) (strict notice less) where
      taken : refused_there t k notice c ≡ refused_by t k notice c.refusals
      taken = rw miss refl

      strict : (n : Notice) → flying_now + is_no t.0 n t.0 ≡ flying → KeepsNo (refused_by t k n c.refusals t.0) cast_now flying_now
      strict (No cause) fewer =
          let kept : Option NegativeVote = Some (lesser (c.refusals t.0) (record { sub = k; cause = cause })) in
          subst (λ (o : Option NegativeVote). KeepsNo o cast_now flying_now) (sym (put_at-same t.0 kept c.refusals))
          (keeps_new (c.refusals t.0) cast flying cast_now flying_now (omega (arith, same, fewer, one_here t.0 t.0 refl)) it)
      strict (Yes values) fewer = keeps_on (c.refusals t.0) cast flying cast_now flying_now (omega (arith, same, fewer)) it
      strict (DidNotice values) fewer = keeps_on (c.refusals t.0) cast flying cast_now flying_now (omega (arith, same, fewer)) it

note_votes : (s : ScriptData) (past : List Entry) (e : Entry) (p : ℕ) (t : TreeNo) (k : SubNo) (x : Version) (notice : Notice) (r : Letter)
    → Doing s past e p r → r.body ≡ Done t k x notice → t.0 < length s.trees → GathersNow s past t.0 → Votes s past t.0 → Votes s (e ∷ past) t.0
note_votes s past e p t k x notice r g is lt (Now h it) v =
    let c : Core = (keeping_in s past p).core in
    let n : NoteAt s p t k notice = note_at s past e p t k x notice r g is in
    let b : Casts s past e p t.0 r = casts s past e p t.0 r g in
    let now : refusal_at s (e ∷ past) t.0 ≡ (if is_strict_at s t.0 then refused_there t k notice c t.0 else c.refusals t.0) =
    refusal_here s past e p t.0 (if is_strict_at s t.0 then refused_there t k notice c t.0 else c.refusals t.0) n.home
    (b.refusal ∙ ap (refusal_after s c t.0 b.notice) is) in
    let before : c.refusals t.0 ≡ refusal_at s past t.0 = ap (λ (q : ℕ). (keeping_in s past q).core.refusals t.0) n.home in
    own_votes s past e p t r g
    (record {
      home = n.home;
      rules = λ u its. subst (λ (y : Body). Rules u y) is its;
      undecided = (once_in_run s past t.0 g.valid g.apt.1 g.run.1 lt).opened h it.home;
      keeps = subst (λ (o : Option NegativeVote). KeepsNo o (noes (e ∷ past) t.0) (refusing s (e ∷ past) t.0)) (sym now)
          (there_keeps s t k notice c (is_strict_at s t.0) (noes past t.0) (refusing s past t.0) (noes (e ∷ past) t.0) (refusing s (e ∷ past) t.0)
          n.suits (note_missed s past e p t k x notice r h g is n.home n.below it)
          (omega (arith, b.cast, ap (no_for t.0 b.notice) is))
          (omega (arith, b.flying, ap (tells_no t.0) is, ap (no_told t.0 b.notice) is))
          (subst (λ (o : Option NegativeVote). KeepsNo o (noes past t.0) (refusing s past t.0)) (sym before) (v.keeps it.answers)));
      quiet = λ gone.
          closed_quiet s (e ∷ past) t.0 (omega (arith, it.root)) gone (stages_of_trees s (e ∷ past) g.valid g.apt g.run t.0 lt);
    })

-- An acknowledgement: with the last the tree is answered, and its no is forgotten.
acked_keeps : (s : ScriptData) (t : TreeNo) (rs : Refusals) (found : Option Held) → ((h : Held) → found ≡ Some h → h.answered.tree.0 ≡ t.0)
    → tally (on (replies_to t.0)) (answer_letters s rs (last_answer found)) ≡ 0 → refusals_after (last_answer found) rs t.0 ≡ rs t.0
acked_keeps s t rs None names silent = refl
acked_keeps s t rs (Some h) names silent = by (nat_lt 1 h.waits) silent where
  by : (test : Bool) → tally (on (replies_to t.0)) (answer_letters s rs (if test then None else Some h.answered)) ≡ 0
      → refusals_after (if test then None else Some h.answered) rs t.0 ≡ rs t.0
  by true none = refl
  by false none = absurd (omega (arith, none, one_here h.answered.tree.0 t.0 (names h refl)))

ack_votes : (s : ScriptData) (past : List Entry) (e : Entry) (p : ℕ) (t : TreeNo) (x : Version) (r : Letter) → Doing s past e p r
    → r.body ≡ Decided t x → t.0 < length s.trees → Votes s past t.0 → Votes s (e ∷ past) t.0
ack_votes s past e p t x r g is lt v =
    let c : Core = (keeping_in s past p).core in
    let at : p ≡ home_of s t.0 = ack_home s past e p t x r g is in
    let n : Casts s past e p t.0 r = casts s past e p t.0 r g in
    let cast : tally (votes_no t.0) e.acts ≡ 0 = n.cast ∙ ap (no_for t.0 n.notice) is in
    let flying : refusing s (e ∷ past) t.0 ≡ refusing s past t.0 =
    omega (arith, n.flying, ap (tells_no t.0) is, ap (no_told t.0 n.notice) is) in
    let quiet : decides_any t.0 e.acts ≡ 0 = ack_decides s past e p t.0 t x r g is in
    let now : refusal_at s (e ∷ past) t.0 ≡ refusals_after (answer_when_acked t c.holds) c.refusals t.0 =
    refusal_here s past e p t.0 (refusals_after (answer_when_acked t c.holds) c.refusals t.0) at (n.refusal ∙ ap (refusal_after s c t.0 n.notice) is) in
    let before : c.refusals t.0 ≡ refusal_at s past t.0 = ap (λ (q : ℕ). (keeping_in s past q).core.refusals t.0) at in
    let sent : tally (on (replies_to t.0)) e.sent ≡ tally (on (replies_to t.0)) (answer_letters s c.refusals (answer_when_acked t c.holds)) =
    sent_by (replies_to t.0) s past e p r (λ u k. refl) g.does ∙ ap (λ (b : Body). tally (on (replies_to t.0)) (core_row s p c r.from.0 b).sent) is in
    let names = decided_names s past e p t x r g is (λ u less. stages_of_trees s past g.valid g.apt.1 g.run.1 u less) in
    record {
      keeps = λ silent.
          let same : refusals_after (answer_when_acked t c.holds) c.refusals t.0 ≡ c.refusals t.0 =
          acked_keeps s t c.refusals (held_in t c.holds) names (sym sent ∙ omega (arith, silent)) in
          subst (λ (o : Option NegativeVote). KeepsNo o (noes (e ∷ past) t.0) (refusing s (e ∷ past) t.0)) (sym (now ∙ same ∙ before))
          (keeps_on (refusal_at s past t.0) (noes past t.0) (refusing s past t.0) (noes (e ∷ past) t.0) (refusing s (e ∷ past) t.0)
          (omega (arith, cast, flying)) (v.keeps (omega (arith, silent))));
      commits = λ some. omega (arith, cast, v.commits (omega (arith, some, quiet)));
      aborts = λ some. omega (arith, v.aborts (omega (arith, some, quiet)));
    }

-- So after each entry.
abbrev VotesNext : ScriptData → List Entry → Entry → ℕ → Type 0
VotesNext s past e u = Votes s past u → Votes s (e ∷ past) u

next_votes : (s : ScriptData) (past : List Entry) (e : Entry) (w : ℕ) → IsValid s → AllApt s (e ∷ past) → IsStepRun s (e ∷ past)
    → w < length s.trees → OfTree s past e w → VotesNext s past e w
next_votes s past e w valid apt run lt (Other p r g it) = votes_stay s past e w (other_leaves s past e p w r g it)
next_votes s past e w valid apt run lt (Kept p r k d) = votes_stay s past e w (kept_leaves s past e p w r k run.0 d)
next_votes s past e w valid apt run lt (ByCoordinator at made) =
    let quiet = made.acts in
    votes_stay s past e w
    (apart_leaves s past e w run.0 (none_misplaced s past valid apt.1 run.1) (home_below s w valid lt) (omega (arith, at))
    (coordinator_none (tells_no w) s e made (tells_no_others w))
    (ap (λ (xs : List Act). tally (votes_no w) xs) quiet) (ap (λ (xs : List Act). decides_any w xs) quiet))
next_votes s past e w valid apt run lt (ByClient at says) =
    let none = λ (g : Act → ℕ) (is : g acts.Finished ≡ 0).
    ap (λ (xs : List Act). tally g xs) says.1 ∙ client_acts g s (client_in s past) e.took.body is in
    votes_stay s past e w
    (apart_leaves s past e w run.0 (none_misplaced s past valid apt.1 run.1) (home_below s w valid lt) (omega (arith, at))
    (ap (λ (os : List Outgoing). tally (on (tells_no w)) os) says.0 ∙ client_none (tells_no w) s (client_in s past) e.took.body (tells_no_others w))
    (none (votes_no w) refl)
    (omega (
      arith,
      none (has_decided w true) (decides_of w true acts.Finished refl),
      none (has_decided w false) (decides_of w false acts.Finished refl),
    )))
next_votes s past e w valid apt run lt (OwnRoot p t r g is same) =
    subst (λ (u : ℕ). VotesNext s past e u) same (root_votes s past e p t r g is (omega (arith, lt, same)))
next_votes s past e w valid apt run lt (OwnSub p t k x r g is some same) =
    subst (λ (u : ℕ). VotesNext s past e u) same (sub_votes s past e p t k x r g is (omega (arith, lt, same)))
next_votes s past e w valid apt run lt (OwnNote p t k x notice r g is same) =
    let there : t.0 < length s.trees = omega (arith, lt, same) in
    subst (λ (u : ℕ). VotesNext s past e u) same
    (note_votes s past e p t k x notice r g is there (note_gathers s past e p t k x notice r g is there))
next_votes s past e w valid apt run lt (OwnAck p t x r g is same) =
    subst (λ (u : ℕ). VotesNext s past e u) same (ack_votes s past e p t x r g is (omega (arith, lt, same)))

pub votes_in_run : (s : ScriptData) (past : List Entry) (t : ℕ) → IsValid s → AllApt s past → IsStepRun s past → t < length s.trees → Votes s past t
votes_in_run s [] t valid apt run lt = record {
  keeps = λ is. refl;
  commits = λ some. refl;
  aborts = λ some. absurd (omega (arith, some));
}
votes_in_run s (e ∷ past) t valid apt run lt =
    next_votes s past e t valid apt run lt (of_tree s past e t valid apt run (λ w less. stages_of_trees s past valid apt.1 run.1 w less))
    (votes_in_run s past t valid apt.1 run.1 lt)

pub decided_by_votes : DecidedByVotes
decided_by_votes s past t valid apt run lt = let v = votes_in_run s past t valid apt run lt in (v.commits, v.aborts)
