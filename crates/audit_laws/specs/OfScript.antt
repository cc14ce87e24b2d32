-- What an entry's lines say of the script: what they name is there, rows have one number for each node, notices and
-- answers are of the kind of their transaction, and values are of their items' kinds, with magnitudes that are allowed.
use Rattle.std.specs.Prelude.{ℕ, ◌≡◌, true, false, List, length, slice_get}
use Rattle.std.specs.List.{AllByRecursion}
use Rattle.letter_types.specs.declared.acts.Act.{Act}
use Rattle.letter_types.specs.declared.acts.Act.TheVariants as acts
use Rattle.letter_types.specs.declared.bodies.Answer.{Answer}
use Rattle.letter_types.specs.declared.bodies.Answer.TheVariants as answers
use Rattle.letter_types.specs.declared.bodies.Body.{Body}
use Rattle.letter_types.specs.declared.bodies.Body.TheVariants.{Go, Root, Sub, Done, Reply, Nudge, Advance, Turn, Show, Sweep, Turned, Shown, Swept, AskDone, AskAsked, DoneRow, AskedRow, Advanced, Decide, Decided, Release, Wake, Lose, AdvanceNo, Ask, Numbers, Wanted, Order, Obeyed}
use Rattle.letter_types.specs.declared.bodies.Notice.{Notice}
use Rattle.letter_types.specs.declared.bodies.Notice.TheVariants as notices
use Rattle.letter_types.specs.declared.entries.Entry.{Entry}
use Rattle.letter_types.specs.declared.entries.Outgoing.{Outgoing}
use Rattle.letter_types.specs.declared.votes.Cause.{Cause}
use Rattle.letter_types.specs.declared.votes.Cause.TheVariants.{Conflict, Newer, Short}
use Rattle.letter_types.specs.declared.votes.Vote.{Vote}
use Rattle.letter_types.specs.declared.votes.Vote.TheVariants as votes
use Rattle.tx_trees.specs.ScriptData.{ScriptData}
use Rattle.history_text.specs.Printable.{AreGot, HasStrictness, IsActor, IsAmount, IsItemOf, IsSubOf, IsTreeOf}

abbrev pub IsCauseOf : ScriptData → Cause → Type 0
IsCauseOf s (Conflict x t) = IsItemOf s x.0 × IsTreeOf s t.0
IsCauseOf s (Newer x v) = IsItemOf s x.0
IsCauseOf s (Short x n) = IsItemOf s x.0 × IsAmount n

abbrev pub IsVoteOf : ScriptData → Vote → Type 0
IsVoteOf s (votes.Yes vs) = AreGot s vs
IsVoteOf s (votes.No cause) = IsCauseOf s cause

-- a notice of transaction t
abbrev pub IsNoticeOf : ScriptData → ℕ → Notice → Type 0
IsNoticeOf s t (notices.Did vs) = HasStrictness false (slice_get s.trees t) × AreGot s vs
IsNoticeOf s t (notices.Yes vs) = HasStrictness true (slice_get s.trees t) × AreGot s vs
IsNoticeOf s t (notices.No cause) = HasStrictness true (slice_get s.trees t) × IsCauseOf s cause

-- what the client is told of transaction t
abbrev pub IsAnswerOf : ScriptData → ℕ → Answer → Type 0
IsAnswerOf s t (answers.Whole vs) = IsTreeOf s t × AreGot s vs
IsAnswerOf s t (answers.Aborted cause) = HasStrictness true (slice_get s.trees t) × IsCauseOf s cause

-- one number for each node
abbrev pub IsNodeRow : ScriptData → List ℕ → Type 0
IsNodeRow s row = length row ≡ s.nodes

-- a message that is sent says this; Go isn't sent
abbrev pub IsBodyOf : ScriptData → Body → Type 0
IsBodyOf s Go = ⊥
IsBodyOf s (Root t) = IsTreeOf s t.0
IsBodyOf s (Sub t k v) = IsSubOf s t.0 k.0
IsBodyOf s (Done t k v notice) = IsSubOf s t.0 k.0 × IsNoticeOf s t.0 notice
IsBodyOf s (Reply t v answer) = IsAnswerOf s t.0 answer
IsBodyOf s Nudge = Unit {0}
IsBodyOf s Advance = Unit {0}
IsBodyOf s (Turn v) = Unit {0}
IsBodyOf s (Show v) = Unit {0}
IsBodyOf s (Sweep v) = Unit {0}
IsBodyOf s (Turned v) = Unit {0}
IsBodyOf s (Shown v) = Unit {0}
IsBodyOf s (Swept v) = Unit {0}
IsBodyOf s (AskDone v k) = Unit {0}
IsBodyOf s (AskAsked v k) = Unit {0}
IsBodyOf s (DoneRow v k row) = IsNodeRow s row
IsBodyOf s (AskedRow v k row) = IsNodeRow s row
IsBodyOf s (Advanced v) = Unit {0}
IsBodyOf s (Decide t v commit) = IsTreeOf s t.0
IsBodyOf s (Decided t v) = IsTreeOf s t.0
IsBodyOf s (Release t) = IsTreeOf s t.0
IsBodyOf s (Wake t k) = IsSubOf s t.0 k.0
IsBodyOf s Lose = Unit {0}
IsBodyOf s (AdvanceNo i) = Unit {0}
IsBodyOf s (Ask e) = Unit {0}
IsBodyOf s (Numbers e update read low) = Unit {0}
IsBodyOf s (Wanted e i) = Unit {0}
IsBodyOf s (Order e what v) = Unit {0}
IsBodyOf s (Obeyed e what v) = Unit {0}

abbrev pub IsSentOf : ScriptData → Outgoing → Type 0
IsSentOf s o = IsActor s o.to.0 × IsBodyOf s o.body

abbrev pub IsActOf : ScriptData → Act → Type 0
IsActOf s (acts.Born t v) = IsTreeOf s t.0
IsActOf s (acts.Did t k vs) = IsSubOf s t.0 k.0 × AreGot s vs
IsActOf s (acts.Turned v) = Unit {0}
IsActOf s (acts.Showed v) = Unit {0}
IsActOf s (acts.Swept v) = Unit {0}
IsActOf s acts.Finished = Unit {0}
IsActOf s (acts.Waits t update read) = IsTreeOf s t.0
IsActOf s (acts.Parked t k x holder) = IsSubOf s t.0 k.0 × IsItemOf s x.0 × IsTreeOf s holder.0
IsActOf s (acts.Voted t k vote) = IsSubOf s t.0 k.0 × IsVoteOf s vote
IsActOf s (acts.Freed t) = IsTreeOf s t.0
IsActOf s (acts.Decided t commit) = IsTreeOf s t.0
IsActOf s (acts.Applied t commit) = IsTreeOf s t.0

-- an entry's lines are of the script; of the ranges of their numbers this says nothing
pub record IsOfScript (s : ScriptData) (e : Entry) : Type 0 where
  pub actor : IsActor s e.actor.0
  pub sent : AllByRecursion (IsSentOf s) e.sent
  pub acts : AllByRecursion (IsActOf s) e.acts
