-- What the next entry of a walk comes to, by what was read and found.
use Rattle.std.proofs.Common.{◌≡◌, ◌==◌, ℕ, List, [], length, ap, ◌∙◌, subst, sym, true, false, Some, None}
use Rattle.letter_types.specs.declared.entries.Entry.{Entry}
use Rattle.letter_types.specs.declared.entries.Letter.{Letter}
use Rattle.tx_trees.specs.ScriptData.{ScriptData, client_of}
use Rattle.tx_trees.specs.Valid.{IsValid}
use Rattle.history_text.specs.Printable.{Begins}
use Rattle.history_reader.specs.Walks.{IsUnpostedAt, IsUnread, LettersLeft, WalkData, ComesBehind}
use Rattle.history_reader.specs.inside.Finding.{entry_with, left_without, letter_for, with_sent}
use Rattle.history_reader.proofs.OneMore.{found_for_id}
use Rattle.history_reader.proofs.Walked.{begins_alike, none_goes_on, walked_more}

module _ (s : ScriptData) (rest : List ℕ) (n : ℕ) (letters : LettersLeft) where
  abbrev walk : WalkData
  walk = record { script = s; rest = rest; count = n; letters = letters }

  pub unread : (w : WalkData) → walk ≡ w → false ≡ (length rest == 0)
      → ((e : Entry) (more : List ℕ) → Begins s rest e more → ⊥) → IsUnread w.script w.rest
  unread w is some none =
      subst (λ (x : WalkData). IsUnread x.script x.rest) is (record {
        more = λ (end : rest ≡ []).
            let zero_is : (length rest == 0) ≡ true = ap (λ (t : List ℕ). length t == 0) end in
            cc;
        none = none;
      })

  module _ (client : ℕ) (own : client ≡ client_of s) (e : Entry) where
    pub unposted : (w : WalkData) → walk ≡ w → (more : List ℕ) → IsValid s → Begins s rest e more
        → None ≡ letter_for client letters e → IsUnpostedAt w
    unposted w is more valid begins none =
        subst IsUnpostedAt is (λ text h walked. record {
          entry = e;
          behind = more;
          begins = begins;
          none = none_goes_on s text h walk walked e more valid begins
              (ap (λ (c : ℕ). letter_for c letters e) (sym own) ∙ sym none);
        })

    pub goes_on : (w : WalkData) → walk ≡ w → (new : WalkData) (l : Letter) → Begins s rest e new.rest
        → Some l ≡ letter_for client letters e → new.letters ≡ with_sent e (left_without e.took.id letters)
        → new.count ≡ length new.letters.senders → ComesBehind w (entry_with e l) new
    goes_on w is new l begins found left count =
        let here : letter_for (client_of s) letters e ≡ Some l = ap (λ (c : ℕ). letter_for c letters e) (sym own) ∙ sym found in
        subst (λ (x : WalkData). ComesBehind x (entry_with e l) new) is (record {
          begins = begins_alike s rest e new.rest l (found_for_id (client_of s) letters e l here) begins;
          walked = λ text h walked. walked_more s text h walk walked e new l begins here left count;
        })
