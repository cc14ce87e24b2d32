-- Of two histories with whose lines one text begins, the one is the front of the other.
use Rattle.std.proofs.Common.{◌≡◌, ◌⊎◌, inl, inr, ℕ, List, [], ◌∷◌, ◌++◌, refl, sym, ap, ◌∙◌, subst, append_assoc}
use Rattle.letter_types.specs.declared.entries.Entry.{Entry}
use Rattle.tx_trees.specs.ScriptData.{ScriptData}
use Rattle.tx_trees.specs.Valid.{IsValid}
use Rattle.history_text.specs.History.{entry_lines, history_lines_of}
use Rattle.history_text.specs.Printable.{Begins, EndsEntry}
use Rattle.history_reader.specs.OneEntry.{TellTheSame}
use Rattle.history_reader.proofs.OneEntry.{one_entry}
use Rattle.history_reader.specs.Walks.{BeginsWith, IsPostal, IsRead}
use Rattle.history_reader.proofs.SameEntries.{AllTellTheSame, postal_front, same_entries}

-- where a text ends, no entry begins
pub nothing_begins : (s : ScriptData) (text : List ℕ) (e : Entry) (rest : List ℕ) → text ≡ [] → Begins s text e rest → ⊥
nothing_begins s text e rest none b = let is : [] ≡ entry_lines s e ++ rest = sym none ∙ b.lines in cc is

-- a text that begins with entries begins with the first of them, and behind that with the others
ends_before : (s : ScriptData) (h : List Entry) (rest : List ℕ) → EndsEntry rest → EndsEntry (history_lines_of s h ++ rest)
ends_before s [] rest ends = ends
ends_before s (e ∷ h) rest ends = inr (_, refl)

behind_first : (e : Entry) (h : List Entry) (rest : List ℕ) → (e ∷ h ≡ []) ⊎ EndsEntry rest → EndsEntry rest
behind_first e h rest (inl none) = absurd (cc none)
behind_first e h rest (inr ends) = ends

first_begins : (s : ScriptData) (text : List ℕ) (e : Entry) (h : List Entry) (rest : List ℕ) → BeginsWith s text (e ∷ h) rest
    → Begins s text e (history_lines_of s h ++ rest)
first_begins s text e h rest b = record {
  lines = b.lines ∙ append_assoc (entry_lines s e) (history_lines_of s h) rest;
  may = b.may.0;
  ends = ends_before s h rest (behind_first e h rest b.ends);
}

others_begin : (s : ScriptData) (text : List ℕ) (e : Entry) (h : List Entry) (rest : List ℕ) → BeginsWith s text (e ∷ h) rest
    → BeginsWith s (history_lines_of s h ++ rest) h rest
others_begin s text e h rest b = record { lines = refl; may = b.may.1; ends = inr (behind_first e h rest b.ends) }

-- The two are of one text: they are alike to the end of the one, and the other ends there too or goes on.
data Meet (s : ScriptData) (h : List Entry) (rest : List ℕ) (g : List Entry) (left : List ℕ) : Type 0 where
  Both : AllTellTheSame h g → rest ≡ left → Meet s h rest g left
  Second : (front : List Entry) (f : Entry) (more : List Entry) → g ≡ front ++ f ∷ more → AllTellTheSame h front
      → Begins s rest f (history_lines_of s more ++ left) → Meet s h rest g left
  First : (front : List Entry) (e : Entry) (more : List Entry) → h ≡ front ++ e ∷ more → AllTellTheSame front g
      → Begins s left e (history_lines_of s more ++ rest) → Meet s h rest g left

one_more : (s : ScriptData) (e f : Entry) (h : List Entry) (rest : List ℕ) (g : List Entry) (left : List ℕ) → TellTheSame e f
    → Meet s h rest g left → Meet s (e ∷ h) rest (f ∷ g) left
one_more s e f h rest g left alike (Both like same) = Both (alike, like) same
one_more s e f h rest g left alike (Second front d more is like begins) = Second (f ∷ front) d more (ap (λ xs. f ∷ xs) is) (alike, like) begins
one_more s e f h rest g left alike (First front d more is like begins) = First (e ∷ front) d more (ap (λ xs. e ∷ xs) is) (alike, like) begins

meet : (s : ScriptData) → IsValid s → (text : List ℕ) (h : List Entry) (rest : List ℕ) (g : List Entry) (left : List ℕ)
    → BeginsWith s text h rest → BeginsWith s text g left → Meet s h rest g left
meet s valid text [] rest [] left a b = Both tt (sym a.lines ∙ b.lines)
meet s valid text [] rest (f ∷ g) left a b =
    Second [] f g refl tt (subst (λ (t : List ℕ). Begins s t f (history_lines_of s g ++ left)) a.lines (first_begins s text f g left b))
meet s valid text (e ∷ h) rest [] left a b =
    First [] e h refl tt (subst (λ (t : List ℕ). Begins s t e (history_lines_of s h ++ rest)) b.lines (first_begins s text e h rest a))
meet s valid text (e ∷ h) rest (f ∷ g) left a b =
    let same = one_entry s text e f (history_lines_of s h ++ rest) (history_lines_of s g ++ left) valid (first_begins s text e h rest a) (first_begins s text f g left b) in
    one_more s e f h rest g left same.1
    (meet s valid (history_lines_of s h ++ rest) h rest g left (others_begin s text e h rest a)
    (subst (λ (t : List ℕ). BeginsWith s t g left) (sym same.0) (others_begin s text f g left b)))

-- And where letters went as letters do, they are one, or the other has an entry more.
pub data Fronts (s : ScriptData) (h : List Entry) (rest : List ℕ) (g : List Entry) (left : List ℕ) : Type 0 where
  Same : h ≡ g → rest ≡ left → Fronts s h rest g left
  Longer : (f : Entry) (more : List Entry) (text : List ℕ) → g ≡ h ++ f ∷ more → Begins s rest f text → Fronts s h rest g left
  Shorter : (e : Entry) (more : List Entry) (text : List ℕ) → h ≡ g ++ e ∷ more → Begins s left e text → Fronts s h rest g left

fronts_of : (s : ScriptData) (h : List Entry) (rest : List ℕ) (g : List Entry) (left : List ℕ) → IsPostal s h → IsPostal s g
    → Meet s h rest g left → Fronts s h rest g left
fronts_of s h rest g left post other (Both like same) = Same (same_entries s h g like post other) same
fronts_of s h rest g left post other (Second front f more is like begins) =
    let one : h ≡ front = same_entries s h front like post (postal_front s front (f ∷ more) (subst (IsPostal s) is other)) in
    Longer f more (history_lines_of s more ++ left) (is ∙ ap (λ xs. xs ++ f ∷ more) (sym one)) begins
fronts_of s h rest g left post other (First front e more is like begins) =
    let one : front ≡ g = same_entries s front g like (postal_front s front (e ∷ more) (subst (IsPostal s) is post)) other in
    Shorter e more (history_lines_of s more ++ rest) (is ∙ ap (λ xs. xs ++ e ∷ more) one) begins

pub fronts : (s : ScriptData) → IsValid s → (text : List ℕ) (h : List Entry) (rest : List ℕ) (g : List Entry) (left : List ℕ)
    → IsRead s text h rest → IsRead s text g left → Fronts s h rest g left
fronts s valid text h rest g left a b = fronts_of s h rest g left a.postal b.postal (meet s valid text h rest g left a.begins b.begins)

-- what is read whole is one history
one_history_by : (s : ScriptData) (h g : List Entry) → Fronts s h [] g [] → h ≡ g
one_history_by s h g (Same is so) = is
one_history_by s h g (Longer f more text is begins) = absurd (nothing_begins s [] f text refl begins)
one_history_by s h g (Shorter e more text is begins) = absurd (nothing_begins s [] e text refl begins)

pub one_history : (s : ScriptData) (text : List ℕ) (h g : List Entry) → IsValid s → IsRead s text h [] → IsRead s text g []
    → h ≡ g
one_history s text h g valid a b = one_history_by s h g (fronts s valid text h [] g [] a b)
