-- One entry more that is recorded.
use Rattle.std.proofs.Common.{◌≡◌, ◌==◌, ℕ, zero, suc, ◌+◌, ◌<◌, ◌≢◌, false, List, [], ◌∷◌, ◌++◌, length, refl, sym, ap, ◌∙◌, subst, arith, inl, inr, Some}
use Rattle.std.specs.Prelude.{slice_get, slice_set, sum_by}
use Rattle.std.specs.List.{remove}
use Rattle.std.proofs.lemmas.List.Sums.{sum_by-cons}
use Rattle.tv_base.proofs.ByPlace.{slice_get_last, slice_get_left, slice_get_split}
use Rattle.letter_types.specs.declared.entries.Entry.{Entry}
use Rattle.stamp_post.specs.declared.rule.JoinedReceipt.{JoinedReceipt}
use Rattle.tx_trees.specs.ScriptData.{ScriptData}
use Rattle.history_merge.specs.Recording.{AreRecorded, RecordsNext, RecorderData, Records, Vouches, handed_in, lists_left, recorder_data, without_empty}

pub recorded_more : (s : ScriptData) (known : List JoinedReceipt) (told : JoinedReceipt) (es : List Entry) (e : Entry) → AreRecorded s known es
    → e.stamp.0 ≡ length es + 1 → Vouches s told e → AreRecorded s (known ++ told ∷ []) (es ++ e ∷ [])
recorded_more s known told es e are stamp vouches k x at = elim (slice_get_split es e k x at) [
  | inl t ↦ (
      let (is, (j, r, there, v)) = are k x t.1 in
      (is, (j, r, slice_get_left known (told ∷ []) j r there, v))
      )
  | inr t ↦ (
      let same : x ≡ e = sym t.1 in (
        ap (λ (y : Entry). y.stamp.0) same ∙ stamp ∙ ap (λ (n : ℕ). n + 1) (sym t.0),
        (length known, told, slice_get_last known told, subst (Vouches s told) t.1 vouches),
      )
      )
]

pub records_more : (es : List Entry) (old mid new : RecorderData) (e : Entry) → Records es old mid → RecordsNext mid new e
    → Records (es ++ e ∷ []) old new
records_more [] old mid new e same next = (new, subst (λ (d : RecorderData). RecordsNext d new e) (sym same) next, refl)
records_more (x ∷ es) old mid new e (between, first, rest) next = (between, first, records_more es between mid new e rest next)

-- with its first entry taken out, a list is shorter, and so all are together
taken_less : (lists : List (List Entry)) (place : ℕ) (e : Entry) (left : List Entry) → slice_get lists place ≡ Some (e ∷ left)
    → sum_by (length {A = Entry}) (lists_left lists place left) < sum_by (length {A = Entry}) lists
taken_less [] place e left at = absurd (cc at)
taken_less (xs ∷ lists) zero e [] at =
    let same : xs ≡ e ∷ [] = cc at in
    omega (arith, ap (length {A = Entry}) same, sum_by-cons (length {A = Entry}) xs lists)
taken_less (xs ∷ lists) zero e (x ∷ left) at =
    let same : xs ≡ e ∷ (x ∷ left) = cc at in
    omega (arith, ap (length {A = Entry}) same, sum_by-cons (length {A = Entry}) xs lists, sum_by-cons (length {A = Entry}) (x ∷ left) lists)
taken_less (xs ∷ lists) (suc place) e [] at =
    omega (arith, taken_less lists place e [] at, sum_by-cons (length {A = Entry}) xs lists, sum_by-cons (length {A = Entry}) xs (remove lists place))
taken_less (xs ∷ lists) (suc place) e (x ∷ left) at =
    omega (
      arith,
      taken_less lists place e (x ∷ left) at,
      sum_by-cons (length {A = Entry}) xs lists,
      sum_by-cons (length {A = Entry}) xs (slice_set lists place (x ∷ left)),
    )

pub next_less : (old new : RecorderData) (e : Entry) → RecordsNext old new e
    → sum_by (length {A = Entry}) new.waiting < sum_by (length {A = Entry}) old.waiting
next_less old new e (taken, done) =
    subst (λ (ls : List (List Entry)). sum_by (length {A = Entry}) ls < sum_by (length {A = Entry}) old.waiting) (sym taken.lists)
    (taken_less old.waiting taken.place e taken.left taken.at)

-- an empty list goes, and any other stays
pub empty_goes : (lists : List (List Entry)) (place : ℕ) → slice_get lists place ≡ Some [] → without_empty lists place ≡ remove lists place
empty_goes [] zero at = refl
empty_goes [] (suc place) at = refl
empty_goes ([] ∷ lists) zero at = refl
empty_goes ((e ∷ es) ∷ lists) zero at = absurd (cc at)
empty_goes (es ∷ lists) (suc place) at = ap (λ (ls : List (List Entry)). es ∷ ls) (empty_goes lists place at)

pub some_stays : (lists : List (List Entry)) (place : ℕ) (es : List Entry) → slice_get lists place ≡ Some es → length es ≢ 0
    → without_empty lists place ≡ lists
some_stays [] place es at some = refl
some_stays ([] ∷ lists) zero es at some = let none : [] ≡ es = cc at in absurd (some (ap (length {A = Entry}) (sym none)))
some_stays ((e ∷ xs) ∷ lists) zero es at some = refl
some_stays (xs ∷ lists) (suc place) es at some = ap (λ (ls : List (List Entry)). xs ∷ ls) (some_stays lists place es at some)

-- where what is there is put back, nothing has changed
pub same_there : {X : Type 0} (xs : List X) (place : ℕ) (x : X) → slice_get xs place ≡ Some x → slice_set xs place x ≡ xs
same_there [] zero x at = refl
same_there [] (suc place) x at = refl
same_there (y ∷ xs) zero x at = let same : y ≡ x = cc at in ap (λ (z : _). z ∷ xs) (sym same)
same_there (y ∷ xs) (suc place) x at = ap (λ (ys : List _). y ∷ ys) (same_there xs place x at)

-- what is left of the lists where this is left of one
pub left_there : (lists : List (List Entry)) (place : ℕ) (left : List Entry)
    → without_empty (slice_set lists place left) place ≡ lists_left lists place left
left_there [] zero [] = refl
left_there [] zero (e ∷ es) = refl
left_there [] (suc place) [] = refl
left_there [] (suc place) (e ∷ es) = refl
left_there (xs ∷ lists) zero [] = refl
left_there (xs ∷ lists) zero (e ∷ es) = refl
left_there (xs ∷ lists) (suc place) [] = ap (λ (ls : List (List Entry)). xs ∷ ls) (left_there lists place [])
left_there (xs ∷ lists) (suc place) (e ∷ es) = ap (λ (ls : List (List Entry)). xs ∷ ls) (left_there lists place (e ∷ es))

-- entries that are handed in, of which there is one at least
pub handed_some : (made : List Entry) (d : RecorderData) → (length made == 0) ≡ false
    → recorder_data d.done (d.waiting ++ made ∷ []) ≡ handed_in made d
handed_some [] d some = absurd (cc some)
handed_some (e ∷ made) d some = refl
