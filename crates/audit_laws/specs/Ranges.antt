-- The ranges of the numbers that an entry's lines say.
use Rattle.std.specs.Prelude.{ℕ, List}
use Rattle.std.specs.List.{AllByRecursion}
use Rattle.letter_types.specs.declared.acts.Act.{Act}
use Rattle.letter_types.specs.declared.acts.Act.TheVariants as acts
use Rattle.letter_types.specs.declared.bodies.Answer.{Answer}
use Rattle.letter_types.specs.declared.bodies.Answer.TheVariants as answers
use Rattle.letter_types.specs.declared.bodies.Body.{Body}
use Rattle.letter_types.specs.declared.bodies.Body.TheVariants.{Go, Root, Sub, Done, Reply, Nudge, Advance, Turn, Show, Sweep, Turned, Shown, Swept, AskDone, AskAsked, DoneRow, AskedRow, Advanced, Decide, Decided, Release, Wake, Lose, AdvanceNo, Ask, Numbers, Wanted, Order, Obeyed}
use Rattle.letter_types.specs.declared.bodies.Notice.{Notice}
use Rattle.letter_types.specs.declared.bodies.Notice.TheVariants as notices
use Rattle.letter_types.specs.declared.entries.Entry.{Entry}
use Rattle.letter_types.specs.declared.entries.Outgoing.{Outgoing}
use Rattle.letter_types.specs.declared.votes.Cause.{Cause}
use Rattle.letter_types.specs.declared.votes.Cause.TheVariants.{Conflict, Newer, Short}
use Rattle.letter_types.specs.declared.votes.Vote.{Vote}
use Rattle.letter_types.specs.declared.votes.Vote.TheVariants as votes
use Rattle.history_text.specs.Printable.{IsHalfWord, IsWord}

abbrev pub HasCauseRanges : Cause → Type 0
HasCauseRanges (Conflict x t) = Unit {0}
HasCauseRanges (Newer x v) = IsWord v.0
HasCauseRanges (Short x n) = Unit {0}

abbrev pub HasVoteRanges : Vote → Type 0
HasVoteRanges (votes.Yes vs) = Unit {0}
HasVoteRanges (votes.No cause) = HasCauseRanges cause

abbrev pub HasNoticeRanges : Notice → Type 0
HasNoticeRanges (notices.Did vs) = Unit {0}
HasNoticeRanges (notices.Yes vs) = Unit {0}
HasNoticeRanges (notices.No cause) = HasCauseRanges cause

abbrev pub HasAnswerRanges : Answer → Type 0
HasAnswerRanges (answers.Whole vs) = Unit {0}
HasAnswerRanges (answers.Aborted cause) = HasCauseRanges cause

-- the numbers of a row
abbrev pub AreWords : List ℕ → Type 0
AreWords row = AllByRecursion IsWord row

-- the numbers of what a message says
abbrev pub HasBodyRanges : Body → Type 0
HasBodyRanges Go = Unit {0}
HasBodyRanges (Root t) = Unit {0}
HasBodyRanges (Sub t k v) = IsWord v.0
HasBodyRanges (Done t k v notice) = IsWord v.0 × HasNoticeRanges notice
HasBodyRanges (Reply t v answer) = IsWord v.0 × HasAnswerRanges answer
HasBodyRanges Nudge = Unit {0}
HasBodyRanges Advance = Unit {0}
HasBodyRanges (Turn v) = IsWord v.0
HasBodyRanges (Show v) = IsWord v.0
HasBodyRanges (Sweep v) = IsWord v.0
HasBodyRanges (Turned v) = IsWord v.0
HasBodyRanges (Shown v) = IsWord v.0
HasBodyRanges (Swept v) = IsWord v.0
HasBodyRanges (AskDone v k) = IsWord v.0 × IsWord k
HasBodyRanges (AskAsked v k) = IsWord v.0 × IsWord k
HasBodyRanges (DoneRow v k row) = IsWord v.0 × IsWord k × AreWords row
HasBodyRanges (AskedRow v k row) = IsWord v.0 × IsWord k × AreWords row
HasBodyRanges (Advanced v) = IsWord v.0
HasBodyRanges (Decide t v commit) = IsWord v.0
HasBodyRanges (Decided t v) = IsWord v.0
HasBodyRanges (Release t) = Unit {0}
HasBodyRanges (Wake t k) = Unit {0}
HasBodyRanges Lose = Unit {0}
HasBodyRanges (AdvanceNo i) = IsHalfWord i
HasBodyRanges (Ask e) = IsWord e
HasBodyRanges (Numbers e update read low) = IsWord e × IsWord update.0 × IsWord read.0 × IsWord low.0
HasBodyRanges (Wanted e i) = IsWord e × IsHalfWord i
HasBodyRanges (Order e what v) = IsWord e × IsWord v.0
HasBodyRanges (Obeyed e what v) = IsWord e × IsWord v.0

-- the numbers of a message that is sent
abbrev pub HasSentRanges : Outgoing → Type 0
HasSentRanges o = HasBodyRanges o.body

-- the numbers of an act
abbrev pub HasActRanges : Act → Type 0
HasActRanges (acts.Born t v) = IsWord v.0
HasActRanges (acts.Did t k vs) = Unit {0}
HasActRanges (acts.Turned v) = IsWord v.0
HasActRanges (acts.Showed v) = IsWord v.0
HasActRanges (acts.Swept v) = IsWord v.0
HasActRanges acts.Finished = Unit {0}
HasActRanges (acts.Waits t update read) = IsWord update.0 × IsWord read.0
HasActRanges (acts.Parked t k x holder) = Unit {0}
HasActRanges (acts.Voted t k vote) = HasVoteRanges vote
HasActRanges (acts.Freed t) = Unit {0}
HasActRanges (acts.Decided t commit) = Unit {0}
HasActRanges (acts.Applied t commit) = Unit {0}

-- each number of an entry's lines is one of its type: stamps, versions, rounds, epochs and counters have 64 bits, places
-- and numbers of advances 32
pub record HasRanges (e : Entry) : Type 0 where
  pub stamp : IsWord e.stamp.0
  pub took : IsWord e.took.id.stamp.0 × IsHalfWord e.took.id.place
  pub sent : AllByRecursion HasSentRanges e.sent
  pub acts : AllByRecursion HasActRanges e.acts
