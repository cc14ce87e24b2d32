-- A walk that goes on by one entry.
use Rattle.std.proofs.Common.{◌≡◌, inl, inr, ℕ, ◌+◌, ◌≤◌, List, [], ◌∷◌, ◌++◌, length, drop, refl, sym, ap, ◌∙◌, subst, arith, append_assoc, Some, None}
use Rattle.std.proofs.lemmas.List.{append-nil, length-append, length-drop}
use Rattle.letter_types.specs.declared.entries.Entry.{Entry}
use Rattle.letter_types.specs.declared.entries.Letter.{Letter}
use Rattle.letter_types.specs.declared.entries.LetterId.{LetterId}
use Rattle.tx_trees.specs.ScriptData.{ScriptData, client_of}
use Rattle.tx_trees.specs.Valid.{IsValid}
use Rattle.tx_trees.proofs.Lists.{all-push}
use Rattle.history_text.specs.History.{entry_lines, history_lines_of}
use Rattle.history_text.specs.Printable.{Begins, IsHalfWord, IsPrintable, IsWord}
use Rattle.history_reader.proofs.OneEntry.{one_entry}
use Rattle.history_reader.specs.Walks.{BeginsWith, IsPostal, IsWalked, LettersLeft, WalkData, letters_left}
use Rattle.history_reader.specs.inside.Finding.{entry_with, left_without, letter_for, with_sent}
use Rattle.history_reader.proofs.Left.{senders_count}
use Rattle.history_reader.proofs.OneMore.{finds_next, next_begun, next_postal, next_same, next_senders}

-- of the letter that it took the lines say the id alone
alike_lines : (s : ScriptData) (e : Entry) (l : Letter) → l.id ≡ e.took.id → entry_lines s e ≡ entry_lines s (entry_with e l)
alike_lines s e l same =
    ap (λ (id : LetterId). entry_lines s (entry_with e (record { id = id; from = l.from; to = l.to; body = l.body }))) (sym same)

pub begins_alike : (s : ScriptData) (text : List ℕ) (e : Entry) (rest : List ℕ) (l : Letter) → l.id ≡ e.took.id → Begins s text e rest
    → Begins s text (entry_with e l) rest
begins_alike s text e rest l same b = record {
  lines = b.lines ∙ ap (λ (t : List ℕ). t ++ rest) (alike_lines s e l same);
  may = record {
    stamp = b.may.stamp;
    actor = b.may.actor;
    took = subst (λ (id : LetterId). IsWord id.stamp.0 × IsHalfWord id.place) (sym same) b.may.took;
    sent = b.may.sent;
    acts = b.may.acts;
  };
  ends = b.ends;
}

-- an entry has two bytes at least
two_bytes : (a b : ℕ) (xs ys : List ℕ) → ys ≡ a ∷ b ∷ xs → 2 ≤ length ys
two_bytes a b xs ys is = omega (arith, ap length is)

pub takes_bytes : (s : ScriptData) (text : List ℕ) (e : Entry) (n : ℕ) → n ≤ length text → Begins s text e (drop n text) → 2 ≤ n
takes_bytes s text e n within b =
    let lines : 2 ≤ length (entry_lines s e) = two_bytes _ _ _ (entry_lines s e) refl in
    let all : length text ≡ length (entry_lines s e) + length (drop n text) = ap length b.lines ∙ length-append (entry_lines s e) (drop n text) in
    omega (arith, lines, all, within, length-drop n text)

-- one entry more
lines_more : (s : ScriptData) (h : List Entry) (e : Entry) → history_lines_of s (h ++ e ∷ []) ≡ history_lines_of s h ++ entry_lines s e
lines_more s [] e = append-nil (entry_lines s e)
lines_more s (d ∷ h) e =
    ap (λ (t : List ℕ). entry_lines s d ++ t) (lines_more s h e)
    ∙ sym (append_assoc (entry_lines s d) (history_lines_of s h) (entry_lines s e))

begins_more : (s : ScriptData) (text : List ℕ) (h : List Entry) (rest : List ℕ) (e : Entry) (more : List ℕ) → BeginsWith s text h rest
    → Begins s rest e more → BeginsWith s text (h ++ e ∷ []) more
begins_more s text h rest e more old b = record {
  lines = old.lines ∙ ap (λ (t : List ℕ). history_lines_of s h ++ t) b.lines
      ∙ sym (append_assoc (history_lines_of s h) (entry_lines s e) more)
      ∙ ap (λ (t : List ℕ). t ++ more) (sym (lines_more s h e));
  may = all-push (IsPrintable s) h e old.may b.may;
  ends = inr b.ends;
}

pub walk_begins : (s : ScriptData) (text : List ℕ) (w : WalkData) → w.rest ≡ text → w.count ≡ 0
    → w.letters ≡ letters_left [] → IsWalked s text [] w
walk_begins s text w rest count letters = record {
  read = record {
    begins = record { lines = sym rest; may = tt; ends = inl refl };
    postal = record {
      stamps = λ k e at. absurd (cc at);
      sent = λ k e at. absurd (cc at);
      once = λ j k e f lt at here. absurd (cc at);
      addressee = λ k e at. absurd (cc at);
      known = λ k e at. absurd (cc at);
    };
  };
  count = count;
  letters = letters;
}

module _ (s : ScriptData) (text : List ℕ) (h : List Entry) (old : WalkData) (walked : IsWalked s text h old) (e : Entry) where
  pub walked_more : (new : WalkData) (l : Letter) → Begins s old.rest e new.rest
      → letter_for (client_of s) old.letters e ≡ Some l → new.letters ≡ with_sent e (left_without e.took.id old.letters)
      → new.count ≡ length new.letters.senders → IsWalked s text (h ++ entry_with e l ∷ []) new
  walked_more new l b is letters count =
      let here : letter_for (client_of s) (letters_left h) e ≡ Some l =
      ap (λ (x : LettersLeft). letter_for (client_of s) x e) (sym walked.letters) ∙ is in
      let same : l.id ≡ e.took.id = next_same s h walked.read.postal e b.may l here in
      let begun = next_begun s h walked.read.postal e b.may l here in
      let senders = next_senders s h walked.read.postal e b.may l here in
      let left : new.letters ≡ letters_left (h ++ entry_with e l ∷ []) =
      letters ∙ ap (λ (x : LettersLeft). with_sent e (left_without e.took.id x)) walked.letters
      ∙ (λ i. record { begun = sym begun i; senders = sym senders i }) in
      record {
        read = record {
          begins = begins_more s text h old.rest (entry_with e l) new.rest walked.read.begins (begins_alike s old.rest e new.rest l same b);
          postal = next_postal s h walked.read.postal e b.may l here;
        };
        count = count ∙ ap (λ (x : LettersLeft). length x.senders) left
            ∙ senders_count (h ++ entry_with e l ∷ []) 1 (h ++ entry_with e l ∷ []);
        letters = left;
      }

  -- and one that doesn't: no entry that may be read there is one that goes on
  pub none_goes_on : (rest : List ℕ) → IsValid s → Begins s old.rest e rest → letter_for (client_of s) old.letters e ≡ None
      → (f : Entry) (more : List ℕ) → Begins s old.rest f more → IsPostal s (h ++ f ∷ []) → ⊥
  none_goes_on rest valid b none f more other post =
      let alike = one_entry s old.rest e f rest more valid b other in
      let found : letter_for (client_of s) (letters_left h) e ≡ Some f.took = finds_next s h walked.read.begins.may e f alike.1 post in
      let not : letter_for (client_of s) (letters_left h) e ≡ None =
      ap (λ (x : LettersLeft). letter_for (client_of s) x e) (sym walked.letters) ∙ none in
      cc
