-- A text has one reading.
use Rattle.std.proofs.Common.{◌≡◌, ℕ, ◌+◌, List, [], ◌∷◌, ◌++◌, length, refl, sym, ◌∙◌, subst, append_assoc}
use Rattle.std.specs.Prelude.{Err, Ok, Result}
use Rattle.letter_types.specs.declared.entries.Entry.{Entry}
use Rattle.tx_trees.specs.ScriptData.{ScriptData}
use Rattle.tx_trees.specs.Valid.{IsValid}
use Rattle.history_text.specs.Printable.{Begins}
use Rattle.history_reader.specs.declared.reading.HistoryRefusal.{HistoryRefusal}
use Rattle.history_reader.specs.declared.reading.HistoryRefusal.TheVariants.{Postal, Text}
use Rattle.history_reader.specs.Walks.{IsPostal, IsRead, IsUnposted, IsUnread, Reading, Unposted, Unread, Whole}
use Rattle.history_reader.proofs.Fronts.{Fronts, Longer, Same, Shorter, fronts, nothing_begins}
use Rattle.history_reader.proofs.SameEntries.{postal_front}

-- why a reading stops behind these entries
data Why (s : ScriptData) (h : List Entry) (rest : List ℕ) : Result (List Entry) HistoryRefusal → Type 0 where
  AtEnd : rest ≡ [] → Why s h rest (Ok h)
  NoEntry : IsUnread s rest → Why s h rest (Err (Text (length h + 1)))
  NoLetter : IsUnposted s h rest → Why s h rest (Err (Postal (length h + 1)))

record Stop (s : ScriptData) (text : List ℕ) (a : Result (List Entry) HistoryRefusal) : Type 0 where
  entries : List Entry
  rest : List ℕ
  read : IsRead s text entries rest
  why : Why s entries rest a

stop_of : (s : ScriptData) (text : List ℕ) (a : Result (List Entry) HistoryRefusal) → Reading s text a → Stop s text a
stop_of s text a (Whole h read) = record { entries = h; rest = []; read = read; why = AtEnd refl }
stop_of s text a (Unread h rest read at) = record { entries = h; rest = rest; read = read; why = NoEntry at }
stop_of s text a (Unposted h rest read at) = record { entries = h; rest = rest; read = read; why = NoLetter at }

module _ (s : ScriptData) (h : List Entry) (rest : List ℕ) where
  -- nothing goes on there
  no_next : (a : Result (List Entry) HistoryRefusal) → Why s h rest a → (f : Entry) (q : List ℕ) → Begins s rest f q
      → IsPostal s (h ++ f ∷ []) → ⊥
  no_next a (AtEnd none) f q begins post = nothing_begins s rest f q none begins
  no_next a (NoEntry at) f q begins post = at.none f q begins
  no_next a (NoLetter at) f q begins post = at.none f q begins post

  -- and why is one thing
  one_why : (a b : Result (List Entry) HistoryRefusal) → Why s h rest a → Why s h rest b → a ≡ b
  one_why a b (AtEnd is) (AtEnd so) = refl
  one_why a b (AtEnd is) (NoEntry at) = absurd (at.more is)
  one_why a b (AtEnd is) (NoLetter at) = absurd (nothing_begins s rest at.entry at.behind is at.begins)
  one_why a b (NoEntry at) (AtEnd is) = absurd (at.more is)
  one_why a b (NoEntry at) (NoEntry too) = refl
  one_why a b (NoEntry at) (NoLetter other) = absurd (at.none other.entry other.behind other.begins)
  one_why a b (NoLetter at) (AtEnd is) = absurd (nothing_begins s rest at.entry at.behind is at.begins)
  one_why a b (NoLetter at) (NoEntry other) = absurd (other.none at.entry at.behind at.begins)
  one_why a b (NoLetter at) (NoLetter too) = refl

-- so what stops behind one history doesn't go on to a longer one
no_longer : (s : ScriptData) (text : List ℕ) (h : List Entry) (rest : List ℕ) (a : Result (List Entry) HistoryRefusal)
    (g : List Entry) (left : List ℕ) (f : Entry) (more : List Entry) (q : List ℕ) → Why s h rest a → IsRead s text g left
    → g ≡ h ++ f ∷ more → Begins s rest f q → ⊥
no_longer s text h rest a g left f more q why read is begins =
    let post : IsPostal s ((h ++ f ∷ []) ++ more) = subst (IsPostal s) (is ∙ sym (append_assoc h (f ∷ []) more)) read.postal in
    no_next s h rest a why f q begins (postal_front s (h ++ f ∷ []) more post)

one_stop : (s : ScriptData) (text : List ℕ) (a b : Result (List Entry) HistoryRefusal) (x : Stop s text a) (y : Stop s text b)
    → Fronts s x.entries x.rest y.entries y.rest → a ≡ b
one_stop s text a b x y (Same is so) =
    one_why s y.entries y.rest a b
    (subst (λ (h : List Entry). Why s h y.rest a) is (subst (λ (rest : List ℕ). Why s x.entries rest a) so x.why)) y.why
one_stop s text a b x y (Longer f more q is begins) =
    absurd (no_longer s text x.entries x.rest a y.entries y.rest f more q x.why y.read is begins)
one_stop s text a b x y (Shorter e more q is begins) =
    absurd (no_longer s text y.entries y.rest b x.entries x.rest e more q y.why x.read is begins)

pub one_reading : (s : ScriptData) (text : List ℕ) (a b : Result (List Entry) HistoryRefusal) → IsValid s → Reading s text a
    → Reading s text b → a ≡ b
one_reading s text a b valid v w =
    let x = stop_of s text a v in
    let y = stop_of s text b w in
    one_stop s text a b x y (fronts s valid text x.entries x.rest y.entries y.rest x.read y.read)
