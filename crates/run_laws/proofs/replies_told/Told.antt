-- What holds of a node's homes, held answers and negative votes, by the acts of a run so far: each notice that was
-- taken down is what its subtransaction told, and the negative vote that is kept in mind is that of the least number.
-- It stays so with more acts.
use Rattle.std.proofs.Common.{◌≡◌, ℕ, ◌+◌, ◌<◌, ◌≤◌, true, false, not, List, [], ◌∷◌, ◌++◌, length, arith, Option, Some, None}
use Rattle.std.specs.Prelude.{is_some, slice_get}
use Rattle.tv_base.specs.declared.numbers.Version.{Version}
use Rattle.letter_types.specs.declared.acts.Act.{Act}
use Rattle.letter_types.specs.declared.bodies.Answer.{Answer}
use Rattle.letter_types.specs.declared.bodies.Body.{Body}
use Rattle.letter_types.specs.declared.bodies.Body.TheVariants.{Done, Go, Reply}
use Rattle.letter_types.specs.declared.bodies.Notice.{Notice}
use Rattle.letter_types.specs.declared.bodies.Notice.TheVariants.{Did as DidNotice, Yes, No}
use Rattle.letter_types.specs.declared.entries.Outgoing.{Outgoing}
use Rattle.tree_home.specs.HeldAnswers.{HeldAnswers}
use Rattle.tree_home.specs.Homes.{Gets, OpenTrees}
use Rattle.tree_home.specs.declared.homes.Answered.{Answered}
use Rattle.tree_home.specs.declared.homes.Held.{Held}
use Rattle.tree_home.specs.declared.homes.OpenTree.{OpenTree}
use Rattle.tx_trees.specs.ScriptData.{ScriptData, client_of, subs_at}
use Rattle.tx_trees.specs.declared.parts.Sub.{Sub}
use Rattle.tx_trees.specs.declared.parts.TreeKind.{TreeKind}
use Rattle.tx_trees.specs.declared.parts.TreeKind.TheVariants.{Update, Read, Strict}
use Rattle.world_model.specs.declared.refusal.NegativeVote.{NegativeVote}
use Rattle.world_model.specs.Core.{Refusals}
use Rattle.world_model.specs.Counts.{Each, tally}
use Rattle.world_model.specs.Named.{is_strict_at, tree_kind_at}
use Rattle.world_model.specs.Notices.{values_of}
use Rattle.world_model.specs.Strict.{answer_by}
use Rattle.world_model.proofs.Sends.{on}
use Rattle.board_rules.specs.Outcomes.{decision_in}
use Rattle.run_laws.proofs.replies_told.Said.{decision_stays, said_in, said_stays}

-- what a subtransaction of a tree of this kind may tell
abbrev pub FitsKind : Option TreeKind → Notice → Type 0
FitsKind (Some Update) n = n ≡ DidNotice []
FitsKind (Some Read) (DidNotice values) = Unit {0}
FitsKind (Some Read) (Yes values) = ⊥
FitsKind (Some Read) (No cause) = ⊥
FitsKind (Some Strict) (DidNotice values) = ⊥
FitsKind (Some Strict) (Yes values) = Unit {0}
FitsKind (Some Strict) (No cause) = Unit {0}
FitsKind None n = ⊥

-- a no of subtransaction k, or one of a lesser number, is kept in mind
abbrev pub Reaches : Option NegativeVote → ℕ → Type 0
Reaches None k = ⊥
Reaches (Some r) k = r.sub.0 ≤ k

-- so is that of this notice, if it is one
abbrev pub Minds : Notice → Option NegativeVote → ℕ → Type 0
Minds (No cause) o k = Reaches o k
Minds (Yes values) o k = Unit {0}
Minds (DidNotice values) o k = Unit {0}

-- subtransaction k of tree t told what gives these values, and of its no the home has taken account
pub record Slot (s : ScriptData) (does : List Act) (t : ℕ) (o : Option NegativeVote) (k : ℕ) (values : Gets) : Type 0 where
  pub notice : Notice
  pub said : said_in t k does ≡ Some notice
  pub fits : FitsKind (tree_kind_at s t) notice
  pub gives : values_of notice ≡ values
  pub minds : Minds notice o k

-- these are the values of all subtransactions in order, where the list begins with subtransaction k
abbrev pub Gathered : ScriptData → List Act → ℕ → Option NegativeVote → ℕ → List Sub → Gets → Type 0
Gathered s does t o k [] values = values ≡ []
Gathered s does t o k (sub ∷ subs) values =
    (first : Gets) × ((rest : Gets) × ((values ≡ first ++ rest) × (Slot s does t o k first × Gathered s does t o (k + 1) subs rest)))

-- tree t is open
pub record OpenTold (s : ScriptData) (does : List Act) (t : ℕ) (o : Option NegativeVote) (h : OpenTree) : Type 0 where
  pub places : length h.notices ≡ length (subs_at s t)
  pub slots : (k : ℕ) (values : Gets) → slice_get h.notices k ≡ Some (Some values) → Slot s does t o k values

-- its answer is held
pub record HeldTold (s : ScriptData) (does : List Act) (vs : ℕ → Option Version) (t : ℕ) (o : Option NegativeVote) (h : Held) : Type 0 where
  pub names : h.answered.tree.0 ≡ t
  pub strict : tree_kind_at s t ≡ Some Strict
  pub version : vs t ≡ Some h.answered.version
  pub gathered : Gathered s does t o 0 (subs_at s t) h.answered.values
  pub decided : decision_in t does ≡ Some (not (is_some o))

-- a no that is kept in mind was cast, by a subtransaction of the tree
abbrev pub SaidNo : ScriptData → List Act → ℕ → Option NegativeVote → Type 0
SaidNo s does t None = Unit {0}
SaidNo s does t (Some r) = (said_in t r.sub.0 does ≡ Some (No r.cause)) × (r.sub.0 < length (subs_at s t))

-- all that a node has of trees
pub record Told (s : ScriptData) (does : List Act) (vs : ℕ → Option Version) (hs : OpenTrees) (holds : HeldAnswers) (rs : Refusals) : Type 0 where
  pub opened : (t : ℕ) (h : OpenTree) → hs t ≡ Some h → OpenTold s does t (rs t) h
  pub held : (t : ℕ) (h : Held) → holds t ≡ Some h → HeldTold s does vs t (rs t) h
  pub apart : (t : ℕ) (h : Held) → holds t ≡ Some h → hs t ≡ None
  pub noes : (t : ℕ) → SaidNo s does t (rs t)
  pub rests : (t : ℕ) → hs t ≡ None → holds t ≡ None → rs t ≡ None
  pub plain : (t : ℕ) → is_strict_at s t ≡ false → rs t ≡ None

-- an answer of tree t in version v: by the no o of least number, where the tree was decided by it
pub record Answers (s : ScriptData) (does : List Act) (vs : ℕ → Option Version) (t : ℕ) (v : Version) (answer : Answer) : Type 0 where
  pub least : Option NegativeVote
  pub whole : Answered
  pub says : answer ≡ answer_by least whole
  pub version : vs t ≡ Some v
  pub kind : tree_kind_at s t ≡ None → ⊥
  pub gathered : Gathered s does t least 0 (subs_at s t) whole.values
  pub noes : SaidNo s does t least
  pub strict : is_strict_at s t ≡ true → decision_in t does ≡ Some (not (is_some least))
  pub plain : is_strict_at s t ≡ false → least ≡ None

-- a notice is what was told, and a reply is an answer, to the client
abbrev pub BodyTold : ScriptData → List Act → (ℕ → Option Version) → ℕ → Body → Type 0
BodyTold s does vs to (Done t k v notice) = (said_in t.0 k.0 does ≡ Some notice) × FitsKind (tree_kind_at s t.0) notice
BodyTold s does vs to (Reply t v answer) = (to ≡ client_of s) × Answers s does vs t.0 v answer
BodyTold s does vs to Go = Unit {0}
BodyTold s does vs to _ = Unit {0}

abbrev pub OutTold : ScriptData → List Act → (ℕ → Option Version) → Outgoing → Type 0
OutTold s does vs o = BodyTold s does vs o.to.0 o.body

-- letters that are neither
abbrev pub speaks : Body → ℕ
speaks (Done t k v notice) = 1
speaks (Reply t v answer) = 1
speaks Go = 0
speaks _ = 0

pub silent_told : (s : ScriptData) (does : List Act) (vs : ℕ → Option Version) (to : ℕ) (b : Body) → speaks b ≡ 0 → BodyTold s does vs to b
silent_told s does vs to (Done t k v notice) none = absurd (omega (arith, none))
silent_told s does vs to (Reply t v answer) none = absurd (omega (arith, none))
silent_told s does vs to Go none = tt
silent_told s does vs to _ none = tt

pub quiet : (s : ScriptData) (does : List Act) (vs : ℕ → Option Version) (os : List Outgoing) → tally (on speaks) os ≡ 0 → Each (OutTold s does vs) os
quiet s does vs [] none = tt
quiet s does vs (o ∷ os) none = (silent_told s does vs o.to.0 o.body (omega (arith, none)), quiet s does vs os (omega (arith, none)))

-- With more acts, and with a no of a lesser number, all stays so.
abbrev pub Below : Option NegativeVote → Option NegativeVote → Type 0
Below new None = Unit {0}
Below None (Some r) = ⊥
Below (Some q) (Some r) = q.sub.0 ≤ r.sub.0

pub below_same : (o : Option NegativeVote) → Below o o
below_same None = tt
below_same (Some r) = omega arith

minds_more : (n : Notice) (new o : Option NegativeVote) (k : ℕ) → Below new o → Minds n o k → Minds n new k
minds_more (No cause) new None k less it = absurd it
minds_more (No cause) None (Some r) k less it = absurd less
minds_more (No cause) (Some q) (Some r) k less it = omega (arith, less, it)
minds_more (Yes values) new o k less it = tt
minds_more (DidNotice values) new o k less it = tt

slot_more : (s : ScriptData) (does more : List Act) (t : ℕ) (new o : Option NegativeVote) (k : ℕ) (values : Gets) → Below new o
    → Slot s does t o k values → Slot s (does ++ more) t new k values
slot_more s does more t new o k values less it = record {
  notice = it.notice;
  said = said_stays t k does more it.notice it.said;
  fits = it.fits;
  gives = it.gives;
  minds = minds_more it.notice new o k less it.minds;
}

-- the same without more acts
pub open_less : (s : ScriptData) (does : List Act) (t : ℕ) (new o : Option NegativeVote) (h : OpenTree) → Below new o → OpenTold s does t o h
    → OpenTold s does t new h
open_less s does t new o h less it = record {
  places = it.places;
  slots = λ k values at.
      let slot = it.slots k values at in
      record { notice = slot.notice; said = slot.said; fits = slot.fits; gives = slot.gives; minds = minds_more slot.notice new o k less slot.minds };
}

pub gathered_more : (s : ScriptData) (does more : List Act) (t : ℕ) (new o : Option NegativeVote) (k : ℕ) (subs : List Sub) (values : Gets) → Below new o
    → Gathered s does t o k subs values → Gathered s (does ++ more) t new k subs values
gathered_more s does more t new o k [] values less it = it
gathered_more s does more t new o k (sub ∷ subs) values less it = (
  it.0,
  (
    it.1.0,
    (
      it.1.1.0,
      (
        slot_more s does more t new o k it.0 less it.1.1.1.0,
        gathered_more s does more t new o (k + 1) subs it.1.0 less it.1.1.1.1,
      ),
    ),
  ),
)

pub open_more : (s : ScriptData) (does more : List Act) (t : ℕ) (new o : Option NegativeVote) (h : OpenTree) → Below new o
    → OpenTold s does t o h → OpenTold s (does ++ more) t new h
open_more s does more t new o h less it = record {
  places = it.places;
  slots = λ k values at. slot_more s does more t new o k values less (it.slots k values at);
}

-- versions stay
abbrev pub Grows : (ℕ → Option Version) → (ℕ → Option Version) → Type 0
Grows vs ws = (t : ℕ) (v : Version) → vs t ≡ Some v → ws t ≡ Some v

pub held_more : (s : ScriptData) (does more : List Act) (vs ws : ℕ → Option Version) (t : ℕ) (o : Option NegativeVote) (h : Held) → Grows vs ws
    → HeldTold s does vs t o h → HeldTold s (does ++ more) ws t o h
held_more s does more vs ws t o h grows it = record {
  names = it.names;
  strict = it.strict;
  version = grows t h.answered.version it.version;
  gathered = gathered_more s does more t o o 0 (subs_at s t) h.answered.values (below_same o) it.gathered;
  decided = decision_stays t does more (not (is_some o)) it.decided;
}

pub no_more : (s : ScriptData) (does more : List Act) (t : ℕ) (o : Option NegativeVote) → SaidNo s does t o → SaidNo s (does ++ more) t o
no_more s does more t None it = tt
no_more s does more t (Some r) it = (said_stays t r.sub.0 does more (No r.cause) it.0, it.1)

pub told_more : (s : ScriptData) (does more : List Act) (vs ws : ℕ → Option Version) (hs : OpenTrees) (holds : HeldAnswers) (rs : Refusals) → Grows vs ws
    → Told s does vs hs holds rs → Told s (does ++ more) ws hs holds rs
told_more s does more vs ws hs holds rs grows it = record {
  opened = λ t h at. open_more s does more t (rs t) (rs t) h (below_same (rs t)) (it.opened t h at);
  held = λ t h at. held_more s does more vs ws t (rs t) h grows (it.held t h at);
  apart = it.apart;
  noes = λ t. no_more s does more t (rs t) (it.noes t);
  rests = it.rests;
  plain = it.plain;
}

pub answers_more : (s : ScriptData) (does more : List Act) (vs ws : ℕ → Option Version) (t : ℕ) (v : Version) (answer : Answer) → Grows vs ws
    → Answers s does vs t v answer → Answers s (does ++ more) ws t v answer
answers_more s does more vs ws t v answer grows it = record {
  least = it.least;
  whole = it.whole;
  says = it.says;
  version = grows t v it.version;
  kind = it.kind;
  gathered = gathered_more s does more t it.least it.least 0 (subs_at s t) it.whole.values (below_same it.least) it.gathered;
  noes = no_more s does more t it.least it.noes;
  strict = λ is. decision_stays t does more (not (is_some it.least)) (it.strict is);
  plain = it.plain;
}

pub body_more : (s : ScriptData) (does more : List Act) (vs ws : ℕ → Option Version) (to : ℕ) (b : Body) → Grows vs ws
    → BodyTold s does vs to b → BodyTold s (does ++ more) ws to b
body_more s does more vs ws to (Done t k v notice) grows it = (said_stays t.0 k.0 does more notice it.0, it.1)
body_more s does more vs ws to (Reply t v answer) grows it = (it.0, answers_more s does more vs ws t.0 v answer grows it.1)
body_more s does more vs ws to Go grows it = tt
body_more s does more vs ws to _ grows it = tt
