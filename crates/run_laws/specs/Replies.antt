-- What replies say: of each transaction what its acts gave.
use Rattle.std.specs.Prelude.{ℕ, ◌<◌, ◌≡◌, Bool, true, false, List, [], length, Option, Some, None}
use Rattle.tv_base.specs.declared.numbers.Version.{Version}
use Rattle.letter_types.specs.declared.acts.Act.{Act}
use Rattle.letter_types.specs.declared.bodies.Answer.{Answer}
use Rattle.letter_types.specs.declared.bodies.Answer.TheVariants.{Aborted, Whole}
use Rattle.letter_types.specs.declared.bodies.Body.{Body}
use Rattle.letter_types.specs.declared.bodies.Body.TheVariants.{Reply}
use Rattle.letter_types.specs.declared.entries.Entry.{Entry}
use Rattle.letter_types.specs.declared.entries.Outgoing.{Outgoing}
use Rattle.letter_types.specs.declared.votes.Cause.{Cause}
use Rattle.letter_types.specs.declared.votes.Vote.TheVariants.{No}
use Rattle.tx_trees.specs.Counts.{ops_in}
use Rattle.tx_trees.specs.ScriptData.{ScriptData, client_of, home_of, subs_at}
use Rattle.tx_trees.specs.declared.parts.Sub.{Sub}
use Rattle.tx_trees.specs.declared.parts.TreeKind.{TreeKind}
use Rattle.tx_trees.specs.declared.parts.TreeKind.TheVariants.{Read, Strict, Update}
use Rattle.world_model.specs.Counts.{Each}
use Rattle.world_model.specs.Named.{tree_kind_at}
use Rattle.board_rules.specs.Outcomes.{acts_in, cause_from, decision_in, did_from, got_from, vote_in}
use Rattle.board_rules.specs.Histories.{places_of, version_of}
use Rattle.board_rules.specs.Right.{shown}

-- the answer of a transaction that aborts names this cause
abbrev pub NamesCause : Option Cause → Answer → Type 0
NamesCause None answer = ⊥
NamesCause (Some cause) answer = answer ≡ Aborted cause

-- the answer of a strict transaction, by what these acts decide of it: complete, with the values of all its gets, or
-- the cause of the first of its subtransactions that votes no
abbrev pub AnswersAsDecided : List Act → ℕ → List Sub → Option Bool → Answer → Type 0
AnswersAsDecided acts t subs None answer = ⊥
AnswersAsDecided acts t subs (Some true) answer = answer ≡ Whole (got_from acts t 0 subs)
AnswersAsDecided acts t subs (Some false) answer = NamesCause (cause_from acts t 0 subs) answer

-- an update transaction is answered with no values, and a read transaction with those of its Dids
abbrev pub AnswersByActs : List Act → ℕ → List Sub → Option TreeKind → Answer → Type 0
AnswersByActs acts t subs (Some Update) answer = answer ≡ Whole []
AnswersByActs acts t subs (Some Read) answer = answer ≡ Whole (did_from acts t 0 subs)
AnswersByActs acts t subs (Some Strict) answer = AnswersAsDecided acts t subs (decision_in t acts) answer
AnswersByActs acts t subs None answer = ⊥

-- a reply to transaction t comes from its home and goes to the client, with the version of the transaction and what its
-- acts gave
pub record IsReplyOf (s : ScriptData) (h : List Entry) (from to t : ℕ) (v : Version) (answer : Answer) : Type 0 where
  pub home : from ≡ home_of s t
  pub client : to ≡ client_of s
  pub version : version_of h t ≡ Some v
  pub says : AnswersByActs (acts_in (places_of h)) t (subs_at s t) (tree_kind_at s t) answer

-- a message is so if it is a reply
abbrev pub IsRightReply : ScriptData → List Entry → ℕ → ℕ → Body → Type 0
IsRightReply s h from to (Reply t v answer) = IsReplyOf s h from to t.0 v answer
IsRightReply s h from to _ = Unit {0}

-- so is each message that an entry of the history sends
abbrev pub RepliesTell : ScriptData → List Entry → Type 0
RepliesTell s h = Each (λ (e : Entry). Each (λ (o : Outgoing). IsRightReply s h e.actor.0 o.to.0 o.body) e.sent) h

-- of the first n subtransactions of transaction t one votes no for this cause, and none of a lower number votes no
pub record IsLowestNo (acts : List Act) (t n : ℕ) (cause : Cause) : Type 0 where
  pub sub : ℕ
  pub below : sub < n
  pub votes : vote_in t sub acts ≡ Some (No cause)
  pub lower : (k : ℕ) (named : Cause) → k < sub → vote_in t k acts ≡ Some (No named) → ⊥

-- a reply that a transaction aborted names the cause of the first of its subtransactions that voted no, and the
-- transaction was decided to abort
abbrev pub NamesLowestNo : ScriptData → List Act → ℕ → Answer → Type 0
NamesLowestNo s acts t (Aborted cause) = (decision_in t acts ≡ Some false) × IsLowestNo acts t (length (subs_at s t)) cause
NamesLowestNo s acts t (Whole values) = Unit {0}

abbrev pub ReplyNamesNo : ScriptData → List Entry → Body → Type 0
ReplyNamesNo s h (Reply t v answer) = NamesLowestNo s (acts_in (places_of h)) t.0 answer
ReplyNamesNo s h _ = Unit {0}

abbrev pub RepliesNameNoes : ScriptData → List Entry → Type 0
RepliesNameNoes s h = Each (λ (e : Entry). Each (λ (o : Outgoing). ReplyNamesNo s h o.body) e.sent) h

-- the reply of a read transaction says what its items are worth at its version in the whole history: so does its line
-- of a report
abbrev pub ShowsWorths : ScriptData → List Entry → ℕ → Option TreeKind → Version → Answer → Type 0
ShowsWorths s h t (Some Read) v answer = answer ≡ Whole (shown s h v.0 (ops_in (subs_at s t)))
ShowsWorths s h t (Some Update) v answer = Unit {0}
ShowsWorths s h t (Some Strict) v answer = Unit {0}
ShowsWorths s h t None v answer = Unit {0}

abbrev pub ReplyShows : ScriptData → List Entry → Body → Type 0
ReplyShows s h (Reply t v answer) = ShowsWorths s h t.0 (tree_kind_at s t.0) v answer
ReplyShows s h _ = Unit {0}

abbrev pub RepliesShow : ScriptData → List Entry → Type 0
RepliesShow s h = Each (λ (e : Entry). Each (λ (o : Outgoing). ReplyShows s h o.body) e.sent) h
