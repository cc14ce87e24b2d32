-- What letters and acts say, word by word.
use Rattle.std.specs.Prelude.{if◌then◌else◌, ℕ, ◌≡◌, ◌≤◌, List, [], ◌∷◌, codes, decimal, flat_map, map, Option, Some, None, slice_get}
use Rattle.std.specs.List.{AllByRecursion}
use Rattle.tv_base.specs.declared.numbers.TreeNo.{TreeNo}
use Rattle.letter_types.specs.declared.acts.Act.{Act}
use Rattle.letter_types.specs.declared.acts.Act.TheVariants as acts
use Rattle.letter_types.specs.declared.bodies.Answer.{Answer}
use Rattle.letter_types.specs.declared.bodies.Body.{Body}
use Rattle.letter_types.specs.declared.bodies.Body.TheVariants.{Root, Sub, Done, Reply, Turn, Show, Sweep, Turned, Shown, Swept, DoneRow, AskedRow, Advanced, Decide, Decided, Release, Wake, Ask, Numbers, Wanted, Order, Obeyed}
use Rattle.letter_types.specs.declared.bodies.Notice.{Notice}
use Rattle.letter_types.specs.declared.votes.Vote.{Vote}
use Rattle.tx_trees.specs.ScriptData.{ScriptData, is_strict}
use Rattle.tx_trees.specs.declared.parts.Tree.{Tree}
use Rattle.history_text.specs.TreeNames.{item_text, tree_text}
use Rattle.history_text.specs.LineParts.{Count, Got, Half, ItemOf, Never, Only, Part, Row, SubOf, TreeOf, Whole, Why, Word, act_parts, answer_parts, body_parts, notice_parts, vote_parts}
use Rattle.history_text.specs.Printable.{AreParts, IsAct, IsBody, IsWord}
use Rattle.history_text.specs.Words.{cause_words, got_words, name_of_tree}

abbrev pub number_words : List ℕ → List (List ℕ)
number_words ns = map decimal ns

-- a strict tree that is whole was committed
abbrev pub whole_words : Option Tree → List (List ℕ)
whole_words None = []
whole_words (Some tree) = if is_strict tree.kind then codes "committed" ∷ [] else []

-- the words of a part
abbrev pub part_words : ScriptData → Part → List (List ℕ)
part_words s (Word word) = word ∷ []
part_words s (Never word) = word ∷ []
part_words s (Count word n) = word ∷ decimal n ∷ []
part_words s (Half n) = decimal n ∷ []
part_words s (TreeOf t) = tree_text s t ∷ []
part_words s (SubOf t k) = tree_text s t ∷ decimal k ∷ []
part_words s (ItemOf x) = item_text s x ∷ []
part_words s (Got vs) = got_words s vs
part_words s (Why cause) = cause_words s cause
part_words s (Row ns) = number_words ns
part_words s (Whole t) = whole_words (slice_get s.trees t)
part_words s (Only strict t) = []

-- and of parts
abbrev pub words_of : ScriptData → List Part → List (List ℕ)
words_of s parts = flat_map (part_words s) parts

abbrev pub vote_words : ScriptData → Vote → List (List ℕ)
vote_words s vote = words_of s (vote_parts vote)

abbrev pub IsVote : ScriptData → Vote → Type 0
IsVote s vote = AreParts s (vote_parts vote)

abbrev pub notice_words : ScriptData → ℕ → Notice → List (List ℕ)
notice_words s t notice = words_of s (notice_parts t notice)

-- of tree t
abbrev pub IsNotice : ScriptData → ℕ → Notice → Type 0
IsNotice s t notice = AreParts s (notice_parts t notice)

abbrev pub answer_words : ScriptData → ℕ → Answer → List (List ℕ)
answer_words s t answer = words_of s (answer_parts t answer)

abbrev pub IsAnswer : ScriptData → ℕ → Answer → Type 0
IsAnswer s t answer = AreParts s (answer_parts t answer)

abbrev pub body_words : ScriptData → Body → List (List ℕ)
body_words s body = words_of s (body_parts body)

abbrev pub act_words : ScriptData → Act → List (List ℕ)
act_words s act = words_of s (act_parts act)

-- the order in which heads of letters are tried: those with lists, those of trees, others, those of epochs, and those
-- with one number of 64 bits
abbrev pub turn_of : Body → ℕ
turn_of (Done t k v notice) = 0
turn_of (Reply t v answer) = 0
turn_of (DoneRow v k row) = 0
turn_of (AskedRow v k row) = 0
turn_of (Root t) = 1
turn_of (Sub t k v) = 1
turn_of (Wake t k) = 1
turn_of (Release t) = 1
turn_of (Decide t v commit) = 1
turn_of (Decided t v) = 1
turn_of (Numbers e u r l) = 3
turn_of (Wanted e i) = 3
turn_of (Order e what v) = 3
turn_of (Obeyed e what v) = 3
turn_of (Turn v) = 4
turn_of (Show v) = 4
turn_of (Sweep v) = 4
turn_of (Turned v) = 4
turn_of (Shown v) = 4
turn_of (Swept v) = 4
turn_of (Advanced v) = 4
turn_of (Ask e) = 4
turn_of _ = 2

-- what is read of these words, where heads of earlier turns were tried
abbrev pub IsReadFrom : ScriptData → ℕ → List (List ℕ) → Option Body → Type 0
IsReadFrom s turn seen (Some b) = (seen ≡ body_words s b) × IsBody s b
IsReadFrom s turn seen None = (b : Body) → seen ≡ body_words s b → IsBody s b → turn ≤ turn_of b → ⊥

-- the same of acts: those with lists, those of trees, and others
abbrev pub act_turn : Act → ℕ
act_turn (acts.Did t k vs) = 0
act_turn (acts.Voted t k vote) = 0
act_turn (acts.Turned v) = 2
act_turn (acts.Showed v) = 2
act_turn (acts.Swept v) = 2
act_turn acts.Finished = 2
act_turn _ = 1

abbrev pub IsActFrom : ScriptData → ℕ → List (List ℕ) → Option Act → Type 0
IsActFrom s turn seen (Some a) = (seen ≡ act_words s a) × IsAct s a
IsActFrom s turn seen None = (a : Act) → seen ≡ act_words s a → IsAct s a → turn ≤ act_turn a → ⊥

abbrev pub AreLineWords : List ℕ → Type 0
AreLineWords ns = AllByRecursion IsWord ns

-- what is read of these words as a notice of a tree, or of any of its name
abbrev pub IsNoticeRead : ScriptData → TreeNo → List (List ℕ) → Option Notice → Type 0
IsNoticeRead s tree seen (Some n) = (seen ≡ notice_words s tree.0 n) × IsNotice s tree.0 n
IsNoticeRead s tree seen None =
    (t : TreeNo) (n : Notice) → name_of_tree s tree ≡ name_of_tree s t → seen ≡ notice_words s t.0 n → IsNotice s t.0 n → ⊥

abbrev pub IsAnswerRead : ScriptData → TreeNo → List (List ℕ) → Option Answer → Type 0
IsAnswerRead s tree seen (Some a) = (seen ≡ answer_words s tree.0 a) × IsAnswer s tree.0 a
IsAnswerRead s tree seen None =
    (t : TreeNo) (a : Answer) → name_of_tree s tree ≡ name_of_tree s t → seen ≡ answer_words s t.0 a → IsAnswer s t.0 a → ⊥
