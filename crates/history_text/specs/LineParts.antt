-- What messages and acts say, part by part.
use Rattle.std.specs.Prelude.{if◌then◌else◌, ℕ, Bool, true, false, List, [], ◌∷◌, ◌++◌, codes, flat_map, Some, None, slice_get}
use Rattle.tv_base.specs.declared.numbers.ItemNo.{ItemNo}
use Rattle.commute_ops.specs.declared.value.Value.{Value}
use Rattle.letter_types.specs.declared.acts.Act.{Act}
use Rattle.letter_types.specs.declared.acts.Act.TheVariants as acts
use Rattle.letter_types.specs.declared.bodies.Answer.{Answer}
use Rattle.letter_types.specs.declared.bodies.Answer.TheVariants as answers
use Rattle.letter_types.specs.declared.bodies.Body.{Body}
use Rattle.letter_types.specs.declared.bodies.Body.TheVariants.{Go, Root, Sub, Done, Reply, Nudge, Advance, Turn, Show, Sweep, Turned, Shown, Swept, AskDone, AskAsked, DoneRow, AskedRow, Advanced, Decide, Decided, Release, Wake, Lose, AdvanceNo, Ask, Numbers, Wanted, Order, Obeyed}
use Rattle.letter_types.specs.declared.bodies.Notice.{Notice}
use Rattle.letter_types.specs.declared.bodies.Notice.TheVariants as notices
use Rattle.letter_types.specs.declared.bodies.What.{What}
use Rattle.letter_types.specs.declared.bodies.What.TheVariants as whats
use Rattle.letter_types.specs.declared.votes.Cause.{Cause}
use Rattle.letter_types.specs.declared.votes.Vote.{Vote}
use Rattle.letter_types.specs.declared.votes.Vote.TheVariants as votes
use Rattle.tx_trees.specs.ScriptData.{ScriptData, is_strict}
use Rattle.history_text.specs.TreeNames.{cause_text, got_text, item_text, tree_text}
use Rattle.history_text.specs.Values.{count_text}

-- a word, and one that may not be printed; a word and a number of 64 bits; a number of 32 bits; a transaction, a
-- subtransaction and an item, by number; values of gets; the cause of a negative vote; a node's row of counters; that a
-- transaction was committed, if it is strict; and nothing, of a transaction that has to be strict, or not to be
pub data Part : Type 0 where
  Word : List ℕ → Part
  Never : List ℕ → Part
  Count : List ℕ → ℕ → Part
  Half : ℕ → Part
  TreeOf : ℕ → Part
  SubOf : ℕ → ℕ → Part
  ItemOf : ℕ → Part
  Got : List (ItemNo × Value) → Part
  Why : Cause → Part
  Row : List ℕ → Part
  Whole : ℕ → Part
  Only : Bool → ℕ → Part

abbrev pub commit_word : Bool → List ℕ
commit_word commit = if commit then codes "commit" else codes "abort"

abbrev pub what_word : What → List ℕ
what_word whats.Turn = codes "turn"
what_word whats.Show = codes "show"
what_word whats.Sweep = codes "sweep"

-- a word, an epoch, and what is to be done with a version, or was done
abbrev pub order_text : List ℕ → ℕ → What → ℕ → List ℕ
order_text word e what v = count_text word e ++ (codes " " ++ (what_word what ++ count_text (codes " ") v))

abbrev pub vote_parts : Vote → List Part
vote_parts (votes.Yes vs) = Word (codes "yes") ∷ Got vs ∷ []
vote_parts (votes.No cause) = Word (codes "no") ∷ Why cause ∷ []

-- a strict transaction's subtransaction votes, that of any other transaction t has done
abbrev pub notice_parts : ℕ → Notice → List Part
notice_parts t (notices.Did vs) = Only false t ∷ Got vs ∷ []
notice_parts t (notices.Yes vs) = Only true t ∷ vote_parts (votes.Yes vs)
notice_parts t (notices.No cause) = Only true t ∷ vote_parts (votes.No cause)

-- what the client is told of transaction t: only a strict transaction is aborted
abbrev pub answer_parts : ℕ → Answer → List Part
answer_parts t (answers.Whole vs) = Whole t ∷ Got vs ∷ []
answer_parts t (answers.Aborted cause) = Only true t ∷ Word (codes "aborted") ∷ Why cause ∷ []

-- Go isn't sent
abbrev pub body_parts : Body → List Part
body_parts Go = Never (codes "go") ∷ []
body_parts (Root t) = Word (codes "root") ∷ TreeOf t.0 ∷ []
body_parts (Sub t k v) = Word (codes "sub") ∷ SubOf t.0 k.0 ∷ Count (codes "version") v.0 ∷ []
body_parts (Done t k v notice) = Word (codes "done") ∷ SubOf t.0 k.0 ∷ Count (codes "version") v.0 ∷ notice_parts t.0 notice
body_parts (Reply t v answer) = Word (codes "reply") ∷ TreeOf t.0 ∷ Count (codes "version") v.0 ∷ answer_parts t.0 answer
body_parts Nudge = Word (codes "nudge") ∷ []
body_parts Advance = Word (codes "advance") ∷ []
body_parts (Turn v) = Count (codes "turn") v.0 ∷ []
body_parts (Show v) = Count (codes "show") v.0 ∷ []
body_parts (Sweep v) = Count (codes "sweep") v.0 ∷ []
body_parts (Turned v) = Count (codes "turned") v.0 ∷ []
body_parts (Shown v) = Count (codes "shown") v.0 ∷ []
body_parts (Swept v) = Count (codes "swept") v.0 ∷ []
body_parts (AskDone v k) = Count (codes "askdone") v.0 ∷ Count (codes "round") k ∷ []
body_parts (AskAsked v k) = Count (codes "askasked") v.0 ∷ Count (codes "round") k ∷ []
body_parts (DoneRow v k row) = Count (codes "donerow") v.0 ∷ Count (codes "round") k ∷ Row row ∷ []
body_parts (AskedRow v k row) = Count (codes "askedrow") v.0 ∷ Count (codes "round") k ∷ Row row ∷ []
body_parts (Advanced v) = Count (codes "advanced") v.0 ∷ []
body_parts (Decide t v commit) = Word (codes "decide") ∷ TreeOf t.0 ∷ Count (codes "version") v.0 ∷ Word (commit_word commit) ∷ []
body_parts (Decided t v) = Word (codes "decided") ∷ TreeOf t.0 ∷ Count (codes "version") v.0 ∷ []
body_parts (Release t) = Word (codes "release") ∷ TreeOf t.0 ∷ []
body_parts (Wake t k) = Word (codes "wake") ∷ SubOf t.0 k.0 ∷ []
body_parts Lose = Word (codes "lose") ∷ []
body_parts (AdvanceNo i) = Word (codes "advance") ∷ Half i ∷ []
body_parts (Ask e) = Count (codes "ask") e ∷ []
body_parts (Numbers e update read low) =
    Count (codes "numbers") e ∷ Count (codes "update") update.0 ∷ Count (codes "read") read.0 ∷ Count (codes "low") low.0 ∷ []
body_parts (Wanted e i) = Count (codes "wanted") e ∷ Half i ∷ []
body_parts (Order e what v) = Count (codes "order") e ∷ Count (what_word what) v.0 ∷ []
body_parts (Obeyed e what v) = Count (codes "obeyed") e ∷ Count (what_word what) v.0 ∷ []

abbrev pub act_parts : Act → List Part
act_parts (acts.Born t v) = Word (codes "born") ∷ TreeOf t.0 ∷ Count (codes "version") v.0 ∷ []
act_parts (acts.Did t k vs) = Word (codes "did") ∷ SubOf t.0 k.0 ∷ Got vs ∷ []
act_parts (acts.Turned v) = Count (codes "turned") v.0 ∷ []
act_parts (acts.Showed v) = Count (codes "showed") v.0 ∷ []
act_parts (acts.Swept v) = Count (codes "swept") v.0 ∷ []
act_parts acts.Finished = Word (codes "finished") ∷ []
act_parts (acts.Waits t update read) = Word (codes "waits") ∷ TreeOf t.0 ∷ Count (codes "update") update.0 ∷ Count (codes "read") read.0 ∷ []
act_parts (acts.Parked t k x holder) = Word (codes "parked") ∷ SubOf t.0 k.0 ∷ ItemOf x.0 ∷ TreeOf holder.0 ∷ []
act_parts (acts.Voted t k vote) = Word (codes "voted") ∷ SubOf t.0 k.0 ∷ vote_parts vote
act_parts (acts.Freed t) = Word (codes "freed") ∷ TreeOf t.0 ∷ []
act_parts (acts.Decided t commit) = Word (codes "decided") ∷ TreeOf t.0 ∷ Word (commit_word commit) ∷ []
act_parts (acts.Applied t commit) = Word (codes "applied") ∷ TreeOf t.0 ∷ Word (commit_word commit) ∷ []

-- the text of a part, whose words stand each after a space
abbrev pub part_text : ScriptData → Part → List ℕ
part_text s (Word word) = codes " " ++ word
part_text s (Never word) = codes " " ++ word
part_text s (Count word n) = codes " " ++ (word ++ count_text (codes " ") n)
part_text s (Half n) = count_text (codes " ") n
part_text s (TreeOf t) = codes " " ++ tree_text s t
part_text s (SubOf t k) = codes " " ++ (tree_text s t ++ count_text (codes " ") k)
part_text s (ItemOf x) = codes " " ++ item_text s x
part_text s (Got vs) = got_text s vs
part_text s (Why cause) = codes " " ++ cause_text s cause
part_text s (Row ns) = flat_map (count_text (codes " ")) ns
part_text s (Whole t) = elim (slice_get s.trees t) [ Some tree ↦ if is_strict tree.kind then codes " committed" else [] | None ↦ [] ]
part_text s (Only strict t) = []

-- and of parts
abbrev pub parts_text : ScriptData → List Part → List ℕ
parts_text s parts = flat_map (part_text s) parts
