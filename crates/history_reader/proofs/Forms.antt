-- What letters and acts say is printed as its words, each after a space.
use Rattle.std.proofs.Common.{◌≡◌, ◌<◌, ◌^◌, ◌∷◌, [], List, Bool, true, false, ℕ, refl, arith}
use Rattle.std.specs.Prelude.{if◌then◌else◌, ◌&&◌, codes, decimal, flat_map, Option, Some, None, slice_get}
use Rattle.std.specs.List.{AllByRecursion, list_all}
use Rattle.tv_base.proofs.Truths.{left_true, right_true}
use Rattle.letter_types.specs.declared.acts.Act.{Act}
use Rattle.letter_types.specs.declared.acts.Act.TheVariants as acts
use Rattle.letter_types.specs.declared.bodies.Answer.{Answer}
use Rattle.letter_types.specs.declared.bodies.Answer.TheVariants as answers
use Rattle.letter_types.specs.declared.bodies.Body.{Body}
use Rattle.letter_types.specs.declared.bodies.Body.TheVariants.{Go, Root, Sub, Done, Reply, Nudge, Advance, Turn, Show, Sweep, Turned, Shown, Swept, AskDone, AskAsked, DoneRow, AskedRow, Advanced, Decide, Decided, Release, Wake, Lose, AdvanceNo, Ask, Numbers, Wanted, Order, Obeyed}
use Rattle.letter_types.specs.declared.bodies.Notice.{Notice}
use Rattle.letter_types.specs.declared.bodies.Notice.TheVariants as notices
use Rattle.letter_types.specs.declared.bodies.What.{What}
use Rattle.letter_types.specs.declared.bodies.What.TheVariants as whats
use Rattle.letter_types.specs.declared.votes.Cause.{Cause}
use Rattle.letter_types.specs.declared.votes.Cause.TheVariants.{Conflict, Newer, Short}
use Rattle.letter_types.specs.declared.votes.Vote.{Vote}
use Rattle.letter_types.specs.declared.votes.Vote.TheVariants as votes
use Rattle.tx_trees.specs.ScriptData.{ScriptData, is_strict}
use Rattle.tx_trees.specs.Valid.{IsValid}
use Rattle.tx_trees.specs.declared.parts.Tree.{Tree}
use Rattle.history_text.specs.TreeNames.{cause_text, item_text, tree_text}
use Rattle.history_text.specs.Values.{count_text}
use Rattle.history_text.specs.LineParts.{Count, Got, Half, ItemOf, Never, Only, Part, Row, SubOf, TreeOf, Whole, Why, Word, act_parts, answer_parts, body_parts, commit_word, notice_parts, part_text, parts_text, vote_parts, what_word}
use Rattle.history_text.specs.Parts.{lacks}
use Rattle.history_text.specs.Printable.{AreParts, IsAct, IsBody, IsCause, IsItemOf, IsPart, IsTreeOf, IsWord}
use Rattle.history_text.specs.Words.{cause_words}
use Rattle.history_reader.specs.inside.BodyWords.{act_words, body_words, number_words, part_words, whole_words, words_of}
use Rattle.history_reader.proofs.Solid.{amount_solid, got_tail, item_solid, number_solid, tree_solid}
use Rattle.history_reader.proofs.Spelling.{IsTail, both, fixed, none_more, word}
use Rattle.history_reader.proofs.SubsThere.{small_sub, tree_of_sub}

-- a word that is always the same has neither a space nor a line's end
abbrev is_solid : List ℕ → Bool
is_solid w = lacks 32 w && lacks 10 w

-- nor has that of a part
abbrev is_apart : Part → Bool
is_apart (Word w) = is_solid w
is_apart (Count w n) = is_solid w
is_apart _ = true

commit_apart : (b : Bool) → list_all is_apart (Word (commit_word b) ∷ []) ≡ true
commit_apart true = refl
commit_apart false = refl

what_apart : (what : What) (v : ℕ) → list_all is_apart (Count (what_word what) v ∷ []) ≡ true
what_apart whats.Turn v = refl
what_apart whats.Show v = refl
what_apart whats.Sweep v = refl

vote_apart : (v : Vote) → list_all is_apart (vote_parts v) ≡ true
vote_apart (votes.Yes vs) = refl
vote_apart (votes.No cause) = refl

notice_apart : (t : ℕ) (n : Notice) → list_all is_apart (notice_parts t n) ≡ true
notice_apart t (notices.Did vs) = refl
notice_apart t (notices.Yes vs) = refl
notice_apart t (notices.No cause) = refl

answer_apart : (t : ℕ) (a : Answer) → list_all is_apart (answer_parts t a) ≡ true
answer_apart t (answers.Whole vs) = refl
answer_apart t (answers.Aborted cause) = refl

body_apart : (b : Body) → list_all is_apart (body_parts b) ≡ true
body_apart Go = refl
body_apart (Root t) = refl
body_apart (Sub t k v) = refl
body_apart (Done t k v n) = notice_apart t.0 n
body_apart (Reply t v a) = answer_apart t.0 a
body_apart Nudge = refl
body_apart Advance = refl
body_apart (Turn v) = refl
body_apart (Show v) = refl
body_apart (Sweep v) = refl
body_apart (Turned v) = refl
body_apart (Shown v) = refl
body_apart (Swept v) = refl
body_apart (AskDone v k) = refl
body_apart (AskAsked v k) = refl
body_apart (DoneRow v k row) = refl
body_apart (AskedRow v k row) = refl
body_apart (Advanced v) = refl
body_apart (Decide t v b) = commit_apart b
body_apart (Decided t v) = refl
body_apart (Release t) = refl
body_apart (Wake t k) = refl
body_apart Lose = refl
body_apart (AdvanceNo i) = refl
body_apart (Ask e) = refl
body_apart (Numbers e u r l) = refl
body_apart (Wanted e i) = refl
body_apart (Order e what v) = what_apart what v.0
body_apart (Obeyed e what v) = what_apart what v.0

act_apart : (a : Act) → list_all is_apart (act_parts a) ≡ true
act_apart (acts.Born t v) = refl
act_apart (acts.Did t k vs) = refl
act_apart (acts.Turned v) = refl
act_apart (acts.Showed v) = refl
act_apart (acts.Swept v) = refl
act_apart acts.Finished = refl
act_apart (acts.Waits t u r) = refl
act_apart (acts.Parked t k x h) = refl
act_apart (acts.Voted t k vote) = vote_apart vote
act_apart (acts.Freed t) = refl
act_apart (acts.Decided t b) = commit_apart b
act_apart (acts.Applied t b) = commit_apart b

num : (n : ℕ) → n < 2 ^ 64 → IsTail (32 ∷ decimal n) (decimal n ∷ [])
num n h = word (decimal n) (number_solid n h)

said : (w : List ℕ) → is_solid w ≡ true → IsTail (32 ∷ w) (w ∷ [])
said w h = fixed w (left_true (lacks 32 w) (lacks 10 w) h) (right_true (lacks 32 w) (lacks 10 w) h)

row : (ns : List ℕ) → AllByRecursion IsWord ns → IsTail (flat_map (count_text (codes " ")) ns) (number_words ns)
row [] all = none_more
row (n ∷ ns) all = both (num n all.0) (row ns all.1)

wholes : (o : Option Tree) → IsTail (elim o [ Some tree ↦ if is_strict tree.kind then codes " committed" else [] | None ↦ [] ]) (whole_words o)
wholes None = none_more
wholes (Some tree) = by (is_strict tree.kind)
  where
    by : (b : Bool) → IsTail (if b then codes " committed" else []) (if b then codes "committed" ∷ [] else [])
    by true = fixed (codes "committed") refl refl
    by false = none_more

module _ (s : ScriptData) (valid : IsValid s) where
  tree : (t : ℕ) → IsTreeOf s t → IsTail (32 ∷ tree_text s t) (tree_text s t ∷ [])
  tree t h = word (tree_text s t) (tree_solid s t valid h)

  item : (x : ℕ) → IsItemOf s x → IsTail (32 ∷ item_text s x) (item_text s x ∷ [])
  item x h = word (item_text s x) (item_solid s x valid h)

  cause : (c : Cause) → IsCause s c → IsTail (32 ∷ cause_text s c) (cause_words s c)
  cause (Conflict x t) may = both (fixed (codes "conflict") refl refl) (both (item x.0 may.0) (tree t.0 may.1))
  cause (Newer x v) may = both (fixed (codes "newer") refl refl) (both (item x.0 may.0) (num v.0 may.1))
  cause (Short x n) may = both (fixed (codes "short") refl refl) (both (item x.0 may.0) (word _ (amount_solid n may.1)))

  part_tail : (p : Part) → is_apart p ≡ true → IsPart s p → IsTail (part_text s p) (part_words s p)
  part_tail (Word w) h may = said w h
  part_tail (Never w) h may = absurd may
  part_tail (Count w n) h may = both (said w h) (num n may)
  part_tail (Half n) h may = num n (omega (arith, may))
  part_tail (TreeOf t) h may = tree t may
  part_tail (SubOf t k) h may = both (tree t (tree_of_sub s t k may)) (num k (omega (arith, small_sub s t k valid may)))
  part_tail (ItemOf x) h may = item x may
  part_tail (Got vs) h may = got_tail s vs valid may
  part_tail (Why c) h may = cause c may
  part_tail (Row ns) h may = row ns may.1
  part_tail (Whole t) h may = wholes (slice_get s.trees t)
  part_tail (Only strict t) h may = none_more

  parts_tail : (ps : List Part) → list_all is_apart ps ≡ true → AreParts s ps → IsTail (parts_text s ps) (words_of s ps)
  parts_tail [] h may = none_more
  parts_tail (p ∷ ps) h may =
      both (part_tail p (left_true (is_apart p) (list_all is_apart ps) h) may.0)
      (parts_tail ps (right_true (is_apart p) (list_all is_apart ps) h) may.1)

  pub body_tail : (b : Body) → IsBody s b → IsTail (parts_text s (body_parts b)) (body_words s b)
  body_tail b may = parts_tail (body_parts b) (body_apart b) may

  pub act_tail : (a : Act) → IsAct s a → IsTail (parts_text s (act_parts a)) (act_words s a)
  act_tail a may = parts_tail (act_parts a) (act_apart a) may
