-- An entry whose lines are of the script, and whose numbers have their ranges, may be printed.
use Rattle.std.specs.Prelude.{ℕ, true, List, [], ◌∷◌}
use Rattle.std.specs.List.{AllByRecursion}
use Rattle.letter_types.specs.declared.acts.Act.{Act}
use Rattle.letter_types.specs.declared.acts.Act.TheVariants as acts
use Rattle.letter_types.specs.declared.bodies.Answer.{Answer}
use Rattle.letter_types.specs.declared.bodies.Answer.TheVariants as answers
use Rattle.letter_types.specs.declared.bodies.Body.{Body}
use Rattle.letter_types.specs.declared.bodies.Body.TheVariants.{Go, Root, Sub, Done, Reply, Nudge, Advance, Turn, Show, Sweep, Turned, Shown, Swept, AskDone, AskAsked, DoneRow, AskedRow, Advanced, Decide, Decided, Release, Wake, Lose, AdvanceNo, Ask, Numbers, Wanted, Order, Obeyed}
use Rattle.letter_types.specs.declared.bodies.Notice.{Notice}
use Rattle.letter_types.specs.declared.bodies.Notice.TheVariants as notices
use Rattle.letter_types.specs.declared.entries.Entry.{Entry}
use Rattle.letter_types.specs.declared.votes.Cause.{Cause}
use Rattle.letter_types.specs.declared.votes.Cause.TheVariants.{Conflict, Newer, Short}
use Rattle.letter_types.specs.declared.votes.Vote.{Vote}
use Rattle.letter_types.specs.declared.votes.Vote.TheVariants as votes
use Rattle.tx_trees.specs.ScriptData.{ScriptData}
use Rattle.history_text.specs.LineParts.{answer_parts, notice_parts, vote_parts}
use Rattle.history_text.specs.Printable.{AreParts, IsAct, IsBody, IsCause, IsPrintable, IsSent, IsTreeOf}
use Rattle.history_text.proofs.Named.{strictness_there}
use Rattle.audit_laws.specs.OfScript.{IsActOf, IsAnswerOf, IsBodyOf, IsCauseOf, IsNoticeOf, IsOfScript, IsSentOf, IsVoteOf}
use Rattle.audit_laws.specs.Ranges.{HasActRanges, HasAnswerRanges, HasBodyRanges, HasCauseRanges, HasNoticeRanges, HasRanges, HasSentRanges, HasVoteRanges}

cause_prints : (s : ScriptData) (cause : Cause) → HasCauseRanges cause → IsCauseOf s cause → IsCause s cause
cause_prints s (Conflict x t) ranges of = of
cause_prints s (Newer x v) ranges of = (of, ranges)
cause_prints s (Short x n) ranges of = of

vote_prints : (s : ScriptData) (vote : Vote) → HasVoteRanges vote → IsVoteOf s vote → AreParts s (vote_parts vote)
vote_prints s (votes.Yes vs) ranges of = (tt, (of, tt))
vote_prints s (votes.No cause) ranges of = (tt, (cause_prints s cause ranges of, tt))

notice_prints : (s : ScriptData) (t : ℕ) (notice : Notice) → HasNoticeRanges notice → IsNoticeOf s t notice → AreParts s (notice_parts t notice)
notice_prints s t (notices.Did vs) ranges of = (of.0, (of.1, tt))
notice_prints s t (notices.Yes vs) ranges of = (of.0, (tt, (of.1, tt)))
notice_prints s t (notices.No cause) ranges of = (of.0, (tt, (cause_prints s cause ranges of.1, tt)))

answer_prints : (s : ScriptData) (t : ℕ) (answer : Answer) → HasAnswerRanges answer → IsAnswerOf s t answer → AreParts s (answer_parts t answer)
answer_prints s t (answers.Whole vs) ranges of = (of.0, (of.1, tt))
answer_prints s t (answers.Aborted cause) ranges of = (of.0, (tt, (cause_prints s cause ranges of.1, tt)))

answer_there : (s : ScriptData) (t : ℕ) (answer : Answer) → IsAnswerOf s t answer → IsTreeOf s t
answer_there s t (answers.Whole vs) of = of.0
answer_there s t (answers.Aborted cause) of = strictness_there s.trees t true of.0

body_prints : (s : ScriptData) (body : Body) → HasBodyRanges body → IsBodyOf s body → IsBody s body
body_prints s Go ranges of = absurd of
body_prints s (Root t) ranges of = (tt, (of, tt))
body_prints s (Sub t k v) ranges of = (tt, (of, (ranges, tt)))
body_prints s (Done t k v notice) ranges of = (tt, (of.0, (ranges.0, notice_prints s t.0 notice ranges.1 of.1)))
body_prints s (Reply t v answer) ranges of =
    (tt, (answer_there s t.0 answer of, (ranges.0, answer_prints s t.0 answer ranges.1 of)))
body_prints s Nudge ranges of = (tt, tt)
body_prints s Advance ranges of = (tt, tt)
body_prints s (Turn v) ranges of = (ranges, tt)
body_prints s (Show v) ranges of = (ranges, tt)
body_prints s (Sweep v) ranges of = (ranges, tt)
body_prints s (Turned v) ranges of = (ranges, tt)
body_prints s (Shown v) ranges of = (ranges, tt)
body_prints s (Swept v) ranges of = (ranges, tt)
body_prints s (AskDone v k) ranges of = (ranges.0, (ranges.1, tt))
body_prints s (AskAsked v k) ranges of = (ranges.0, (ranges.1, tt))
body_prints s (DoneRow v k row) ranges of = (ranges.0, (ranges.1, ((of, ranges.2), tt)))
body_prints s (AskedRow v k row) ranges of = (ranges.0, (ranges.1, ((of, ranges.2), tt)))
body_prints s (Advanced v) ranges of = (ranges, tt)
body_prints s (Decide t v commit) ranges of = (tt, (of, (ranges, (tt, tt))))
body_prints s (Decided t v) ranges of = (tt, (of, (ranges, tt)))
body_prints s (Release t) ranges of = (tt, (of, tt))
body_prints s (Wake t k) ranges of = (tt, (of, tt))
body_prints s Lose ranges of = (tt, tt)
body_prints s (AdvanceNo i) ranges of = (tt, (ranges, tt))
body_prints s (Ask e) ranges of = (ranges, tt)
body_prints s (Numbers e update read low) ranges of = (ranges.0, (ranges.1, (ranges.2, (ranges.3, tt))))
body_prints s (Wanted e i) ranges of = (ranges.0, (ranges.1, tt))
body_prints s (Order e what v) ranges of = (ranges.0, (ranges.1, tt))
body_prints s (Obeyed e what v) ranges of = (ranges.0, (ranges.1, tt))

act_prints : (s : ScriptData) (act : Act) → HasActRanges act → IsActOf s act → IsAct s act
act_prints s (acts.Born t v) ranges of = (tt, (of, (ranges, tt)))
act_prints s (acts.Did t k vs) ranges of = (tt, (of.0, (of.1, tt)))
act_prints s (acts.Turned v) ranges of = (ranges, tt)
act_prints s (acts.Showed v) ranges of = (ranges, tt)
act_prints s (acts.Swept v) ranges of = (ranges, tt)
act_prints s acts.Finished ranges of = (tt, tt)
act_prints s (acts.Waits t update read) ranges of = (tt, (of, (ranges.0, (ranges.1, tt))))
act_prints s (acts.Parked t k x holder) ranges of = (tt, (of.0, (of.1, (of.2, tt))))
act_prints s (acts.Voted t k vote) ranges of = (tt, (of.0, vote_prints s vote ranges of.1))
act_prints s (acts.Freed t) ranges of = (tt, (of, tt))
act_prints s (acts.Decided t commit) ranges of = (tt, (of, (tt, tt)))
act_prints s (acts.Applied t commit) ranges of = (tt, (of, (tt, tt)))

-- what follows from two that hold of each
all_both : {X : Type 0} (P Q R : X → Type 0) (xs : List X) → ((x : X) → P x → Q x → R x) → AllByRecursion P xs → AllByRecursion Q xs
    → AllByRecursion R xs
all_both P Q R [] both ps qs = tt
all_both P Q R (x ∷ xs) both ps qs = (both x ps.0 qs.0, all_both P Q R xs both ps.1 qs.1)

entry_prints : (s : ScriptData) (e : Entry) → HasRanges e → IsOfScript s e → IsPrintable s e
entry_prints s e ranges of = record {
  stamp = ranges.stamp;
  actor = of.actor;
  took = ranges.took;
  sent = all_both HasSentRanges (IsSentOf s) (IsSent s) e.sent (λ o has is. (is.0, body_prints s o.body has is.1)) ranges.sent of.sent;
  acts = all_both HasActRanges (IsActOf s) (IsAct s) e.acts (act_prints s) ranges.acts of.acts;
}

pub all_print : (s : ScriptData) (h : List Entry) → AllByRecursion HasRanges h → AllByRecursion (IsOfScript s) h
    → AllByRecursion (IsPrintable s) h
all_print s h ranges of = all_both HasRanges (IsOfScript s) (IsPrintable s) h (entry_prints s) ranges of
