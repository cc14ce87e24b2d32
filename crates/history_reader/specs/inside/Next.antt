-- The next words of a line.
use Rattle.std.specs.Prelude.{ℕ, ◌≡◌, List, ◌∷◌, ◌++◌, Option, Some, None, [], MatchOption, codes, decimal}
use Rattle.tv_base.specs.declared.numbers.SubNo.{SubNo}
use Rattle.tv_base.specs.declared.numbers.TreeNo.{TreeNo}
use Rattle.tv_base.specs.declared.numbers.Version.{Version}
use Rattle.letter_types.specs.declared.bodies.What.{What}
use Rattle.tx_trees.specs.ScriptData.{ScriptData}
use Rattle.history_text.specs.LineParts.{what_word}
use Rattle.history_text.specs.Words.{name_of_tree}
use Rattle.history_text.specs.Printable.{IsSubOf, IsWord}

-- of what is printed as the first of these words, and may be: the one that was read, with the other words left, or
-- there is none
abbrev pub IsNext : {T : Type 0} → (T → List ℕ) → (T → Type 0) → List (List ℕ) → List (List ℕ) → Option T → Type 0
IsNext print May old new (Some x) = (old ≡ print x ∷ new) × May x
IsNext {T} print May old new None = (x : T) (rest : List (List ℕ)) → old ≡ print x ∷ rest → May x → ⊥

-- this very word comes first, with the other words left, or it doesn't
abbrev pub IsNextWord : {T : Type 0} → List ℕ → List (List ℕ) → List (List ℕ) → Option T → Type 0
IsNextWord word old new read = MatchOption read ((rest : List (List ℕ)) → old ≡ word ∷ rest → ⊥) (λ _. old ≡ word ∷ new)

-- one word that is all that is left
abbrev pub alone : {T : Type 0} → (T → List ℕ) → T → List (List ℕ)
alone print x = print x ∷ []

-- a number behind a word, and a version behind its word
abbrev pub behind_word : List ℕ → ℕ → List (List ℕ)
behind_word word n = word ∷ decimal n ∷ []

abbrev pub version_words : Version → List (List ℕ)
version_words v = behind_word (codes "version") v.0

abbrev pub IsVersion : Version → Type 0
IsVersion v = IsWord v.0

-- the same of some words
abbrev pub AreNext : {T : Type 0} → (T → List (List ℕ)) → (T → Type 0) → List (List ℕ) → List (List ℕ) → Option T → Type 0
AreNext print May old new (Some x) = (old ≡ print x ++ new) × May x
AreNext {T} print May old new None = (x : T) (rest : List (List ℕ)) → old ≡ print x ++ rest → May x → ⊥

-- a tree's subtransaction comes first; and none does
abbrev pub IsNextSub : ScriptData → List (List ℕ) → List (List ℕ) → TreeNo → SubNo → Type 0
IsNextSub s old new t k = (old ≡ name_of_tree s t ∷ decimal k.0 ∷ new) × IsSubOf s t.0 k.0

abbrev pub HasNoSub : ScriptData → List (List ℕ) → Type 0
HasNoSub s old = (t : TreeNo) (k : SubNo) (rest : List (List ℕ))
    → old ≡ name_of_tree s t ∷ decimal k.0 ∷ rest → IsSubOf s t.0 k.0 → ⊥

-- an epoch, what is to be done, and a version are all that is left; and they aren't
abbrev pub IsLastOrder : List (List ℕ) → ℕ → What → Version → Type 0
IsLastOrder old e what v = (old ≡ decimal e ∷ what_word what ∷ decimal v.0 ∷ []) × IsWord e × IsWord v.0

abbrev pub IsNoOrder : List (List ℕ) → Type 0
IsNoOrder old = (e : ℕ) (what : What) (v : Version)
    → old ≡ decimal e ∷ what_word what ∷ decimal v.0 ∷ [] → IsWord e → IsWord v.0 → ⊥

-- a version and a round come first; and they don't
abbrev pub IsNextRound : List (List ℕ) → List (List ℕ) → Version → ℕ → Type 0
IsNextRound old new v k = (old ≡ decimal v.0 ∷ codes "round" ∷ decimal k ∷ new) × IsWord v.0 × IsWord k

abbrev pub HasNoRound : List (List ℕ) → Type 0
HasNoRound old = (v : Version) (k : ℕ) (rest : List (List ℕ))
    → old ≡ decimal v.0 ∷ codes "round" ∷ decimal k ∷ rest → IsWord v.0 → IsWord k → ⊥

-- and they are all that is left; and they aren't
abbrev pub IsLastRound : List (List ℕ) → Version → ℕ → Type 0
IsLastRound old v k = (old ≡ decimal v.0 ∷ behind_word (codes "round") k) × IsWord v.0 × IsWord k

abbrev pub IsNoRound : List (List ℕ) → Type 0
IsNoRound old = (v : Version) (k : ℕ) → old ≡ decimal v.0 ∷ behind_word (codes "round") k → IsWord v.0 → IsWord k → ⊥
