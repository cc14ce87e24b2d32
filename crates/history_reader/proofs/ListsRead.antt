-- Rows, notices and answers that are read.
use Rattle.std.proofs.Common.{◌≡◌, ◌<◌, ◌∙◌, ◌∷◌, ◌++◌, [], List, Bool, true, false, ℕ, length, get_or, map, refl, sym, ap, subst, arith}
use Rattle.std.specs.Prelude.{codes, decimal, IfOk, Option, Some, None, Result, Ok, Err, slice_get}
use Rattle.std.proofs.lemmas.List.{append-nil, length-map}
use Rattle.std.proofs.lemmas.Option.{slice_get-get_or}
use Rattle.tv_base.specs.declared.numbers.ItemNo.{ItemNo}
use Rattle.tv_base.specs.declared.numbers.NoMemory.{NoMemory}
use Rattle.tv_base.specs.declared.numbers.TreeNo.{TreeNo}
use Rattle.commute_ops.specs.declared.value.Value.{Value}
use Rattle.letter_types.specs.declared.bodies.Answer.{Answer}
use Rattle.letter_types.specs.declared.bodies.Answer.TheVariants as answers
use Rattle.letter_types.specs.declared.bodies.Notice.{Notice}
use Rattle.letter_types.specs.declared.bodies.Notice.TheVariants as notices
use Rattle.letter_types.specs.declared.votes.Cause.{Cause}
use Rattle.letter_types.specs.declared.votes.Vote.{Vote}
use Rattle.letter_types.specs.declared.votes.Vote.TheVariants as votes
use Rattle.tx_trees.specs.ScriptData.{ScriptData, is_strict}
use Rattle.tx_trees.specs.Valid.{IsValid}
use Rattle.tx_trees.specs.declared.parts.Tree.{Tree}
use Rattle.history_text.specs.Printable.{AreGot, HasStrictness, IsCause, IsRow, IsTreeOf}
use Rattle.history_text.specs.Exact.{IsReadBack}
use Rattle.history_text.specs.Words.{HasTree, cause_words, got_words, name_of_tree}
use Rattle.history_text.proofs.Named.{strictness_there}
use Rattle.history_text.proofs.OneToOne.{tree_one}
use Rattle.history_reader.specs.inside.BodyWords.{IsAnswer, IsAnswerRead, IsNotice, IsNoticeRead, IsVote, answer_words, notice_words, number_words, vote_words, whole_words}

-- a row of another length isn't the one that is printed so
pub other_length : (s : ScriptData) (seen : List (List ℕ)) (row : List ℕ) → seen ≡ number_words row → (length row ≡ s.nodes → ⊥) → (x : List ℕ) → seen ≡ number_words x → IsRow s x → ⊥
other_length s seen row is other x same may =
    let lens : length (map decimal row) ≡ length (map decimal x) = ap length (sym is ∙ same) in
    other (omega (arith, lens, length-map row decimal, length-map x decimal, may.0))

-- whether a tree is strict that is at a place
pub has_kind : (trees all : List Tree) (t : ℕ) (tree : Tree) (b : Bool) → all ≡ trees → t < length trees → is_strict (get_or all t tree).kind ≡ b → HasStrictness b (slice_get trees t)
has_kind trees all t tree b same less is =
    subst (λ (ts : List Tree). HasStrictness b (slice_get ts t)) same
    (subst (λ (o : Option Tree). HasStrictness b o) (sym (slice_get-get_or all t tree (omega (arith, less, ap length same)))) is)

-- a tree is strict or isn't
pub strictness_one : (o : Option Tree) (a b : Bool) → HasStrictness a o → HasStrictness b o → a ≡ b
strictness_one None a b ha hb = absurd ha
strictness_one (Some tree) a b ha hb = sym ha ∙ hb

no_both : (o : Option Tree) → HasStrictness false o → HasStrictness true o → ⊥
no_both o f t =
    let same : false ≡ true = strictness_one o false true f t in
    cc

-- what is no list of values is no notice of a tree that isn't strict
pub no_notice_plain : (s : ScriptData) (t : ℕ) (seen : List (List ℕ)) → HasStrictness false (slice_get s.trees t) → ((vs : List (ItemNo × Value)) → seen ≡ got_words s vs → AreGot s vs → ⊥)
    → (n : Notice) → seen ≡ notice_words s t n → IsNotice s t n → ⊥
no_notice_plain s t seen plain only (notices.Did vs) is may = only vs (is ∙ append-nil (got_words s vs)) may.1.0
no_notice_plain s t seen plain only (notices.Yes vs) is may = no_both (slice_get s.trees t) plain may.0
no_notice_plain s t seen plain only (notices.No cause) is may = no_both (slice_get s.trees t) plain may.0

-- what is no vote is no notice of a strict tree
pub no_notice_strict : (s : ScriptData) (t : ℕ) (seen : List (List ℕ)) → HasStrictness true (slice_get s.trees t) → ((v : Vote) → seen ≡ vote_words s v → IsVote s v → ⊥)
    → (n : Notice) → seen ≡ notice_words s t n → IsNotice s t n → ⊥
no_notice_strict s t seen strict only (notices.Did vs) is may = no_both (slice_get s.trees t) may.0 strict
no_notice_strict s t seen strict only (notices.Yes vs) is may = only (votes.Yes vs) is may.1
no_notice_strict s t seen strict only (notices.No cause) is may = only (votes.No cause) is may.1

notice_there : (s : ScriptData) (t : ℕ) (n : Notice) → IsNotice s t n → t < length s.trees
notice_there s t (notices.Did vs) may = strictness_there s.trees t false may.0
notice_there s t (notices.Yes vs) may = strictness_there s.trees t true may.0
notice_there s t (notices.No cause) may = strictness_there s.trees t true may.0

pub notice_named : (s : ScriptData) (u : TreeNo) (seen : List (List ℕ)) (r : Option Notice) → IsValid s → HasTree s u → IsReadBack (notice_words s u.0) (IsNotice s u.0) seen r → IsNoticeRead s u seen r
notice_named s u seen (Some n) valid there exact = exact
notice_named s u seen None valid there exact = λ t n same is may. by t n same is may
  where
    by : (t : TreeNo) (n : Notice) → name_of_tree s u ≡ name_of_tree s t → seen ≡ notice_words s t.0 n → IsNotice s t.0 n → ⊥
    by t n same is may =
        let trees : t.0 ≡ u.0 = tree_one s t.0 u.0 valid (notice_there s t.0 n may) there (sym same) in
        exact n (subst (λ (k : ℕ). seen ≡ notice_words s k n) trees is) (subst (λ (k : ℕ). IsNotice s k n) trees may)

-- what is said of a tree that is whole
pub whole_strict : (o : Option Tree) → HasStrictness true o → whole_words o ≡ codes "committed" ∷ []
whole_strict None h = absurd h
whole_strict (Some tree) h = rw h refl

pub whole_plain : (o : Option Tree) → HasStrictness false o → whole_words o ≡ []
whole_plain None h = absurd h
whole_plain (Some tree) h = rw h refl

pub no_answer_plain : (s : ScriptData) (t : ℕ) (seen : List (List ℕ)) → HasStrictness false (slice_get s.trees t) → ((vs : List (ItemNo × Value)) → seen ≡ got_words s vs → AreGot s vs → ⊥)
    → (a : Answer) → seen ≡ answer_words s t a → IsAnswer s t a → ⊥
no_answer_plain s t seen plain only (answers.Whole vs) is may =
    only vs (is ∙ ap (λ (w : List (List ℕ)). w ++ (got_words s vs ++ [])) (whole_plain (slice_get s.trees t) plain) ∙ append-nil (got_words s vs)) may.1.0
no_answer_plain s t seen plain only (answers.Aborted cause) is may = no_both (slice_get s.trees t) plain may.0

pub answer_plain : (s : ScriptData) (t : ℕ) (seen : List (List ℕ)) (vs : List (ItemNo × Value)) → HasStrictness false (slice_get s.trees t) → IsTreeOf s t → seen ≡ got_words s vs → AreGot s vs
    → (seen ≡ answer_words s t (answers.Whole vs)) × IsAnswer s t (answers.Whole vs)
answer_plain s t seen vs plain there is may =
    (is ∙ sym (append-nil (got_words s vs)) ∙ ap (λ (w : List (List ℕ)). w ++ (got_words s vs ++ [])) (sym (whole_plain (slice_get s.trees t) plain)), (there, (may, tt)))

pub no_answer_strict : (s : ScriptData) (t : ℕ) (seen : List (List ℕ)) → HasStrictness true (slice_get s.trees t)
    → ((vs : List (ItemNo × Value)) → seen ≡ codes "committed" ∷ got_words s vs → AreGot s vs → ⊥)
    → ((cause : Cause) → seen ≡ codes "aborted" ∷ cause_words s cause → IsCause s cause → ⊥) → (a : Answer) → seen ≡ answer_words s t a → IsAnswer s t a → ⊥
no_answer_strict s t seen strict whole aborted (answers.Whole vs) is may =
    whole vs
    (is ∙ ap (λ (w : List (List ℕ)). w ++ (got_words s vs ++ [])) (whole_strict (slice_get s.trees t) strict)
    ∙ ap (λ (w : List (List ℕ)). codes "committed" ∷ w) (append-nil (got_words s vs))) may.1.0
no_answer_strict s t seen strict whole aborted (answers.Aborted cause) is may =
    aborted cause (is ∙ ap (λ (w : List (List ℕ)). codes "aborted" ∷ w) (append-nil (cause_words s cause))) may.1.1.0

pub answer_strict : (s : ScriptData) (t : ℕ) (seen : List (List ℕ)) (vs : List (ItemNo × Value)) → HasStrictness true (slice_get s.trees t) → IsTreeOf s t → seen ≡ codes "committed" ∷ got_words s vs → AreGot s vs
    → (seen ≡ answer_words s t (answers.Whole vs)) × IsAnswer s t (answers.Whole vs)
answer_strict s t seen vs strict there is may = (
  is ∙ ap (λ (w : List (List ℕ)). codes "committed" ∷ w) (sym (append-nil (got_words s vs)))
      ∙ ap (λ (w : List (List ℕ)). w ++ (got_words s vs ++ [])) (sym (whole_strict (slice_get s.trees t) strict)),
  (there, (may, tt)),
)

pub answer_there : (s : ScriptData) (t : ℕ) (a : Answer) → IsAnswer s t a → t < length s.trees
answer_there s t (answers.Whole vs) may = may.0
answer_there s t (answers.Aborted cause) may = strictness_there s.trees t true may.0

pub answer_named : (s : ScriptData) (u : TreeNo) (seen : List (List ℕ)) (r : Option Answer) → IsValid s → HasTree s u → IsReadBack (answer_words s u.0) (IsAnswer s u.0) seen r → IsAnswerRead s u seen r
answer_named s u seen (Some a) valid there exact = exact
answer_named s u seen None valid there exact = λ t a same is may. by t a same is may
  where
    by : (t : TreeNo) (a : Answer) → name_of_tree s u ≡ name_of_tree s t → seen ≡ answer_words s t.0 a → IsAnswer s t.0 a → ⊥
    by t a same is may =
        let trees : t.0 ≡ u.0 = tree_one s t.0 u.0 valid (answer_there s t.0 a may) there (sym same) in
        exact a (subst (λ (k : ℕ). seen ≡ answer_words s k a) trees is) (subst (λ (k : ℕ). IsAnswer s k a) trees may)

pub answers_named : (s : ScriptData) (u : TreeNo) (seen : List (List ℕ)) (r : Result (Option Answer) NoMemory) → IsValid s → HasTree s u → IfOk r (IsReadBack (answer_words s u.0) (IsAnswer s u.0) seen)
    → IfOk r (λ read. IsAnswerRead s u seen read)
answers_named s u seen (Ok read) valid there exact = answer_named s u seen read valid there exact
answers_named s u seen (Err e) valid there exact = tt
