-- Entries and their postings, which are at the same places.
use Rattle.std.proofs.Common.{◌≡◌, ℕ, List, refl, sym, ap, ◌∙◌, Option, Some, None}
use Rattle.std.specs.Prelude.{map, slice_get}
use Rattle.std.specs.Option.{option_map}
use Rattle.std.proofs.lemmas.Option.{slice_get-map}
use Rattle.letter_types.specs.declared.entries.Entry.{Entry}
use Rattle.letter_types.specs.declared.entries.Posting.{Posting}
use Rattle.letter_types.specs.Postal.{delivery_of}

pub posting_at : (h : List Entry) (k : ℕ) (e : Entry) → slice_get h k ≡ Some e
    → slice_get (map delivery_of h) k ≡ Some (delivery_of e)
posting_at h k e at = slice_get-map delivery_of h k ∙ ap (option_map delivery_of) at

pub entry_at : (h : List Entry) (k : ℕ) (p : Posting) → slice_get (map delivery_of h) k ≡ Some p
    → (e : Entry) × (slice_get h k ≡ Some e) × (delivery_of e ≡ p)
entry_at h k p at = by (slice_get h k) refl (sym (slice_get-map delivery_of h k) ∙ at)
  where
    by : (x : Option Entry) → slice_get h k ≡ x → option_map delivery_of x ≡ Some p
        → (e : Entry) × (slice_get h k ≡ Some e) × (delivery_of e ≡ p)
    by None there is = absurd (cc is)
    by (Some e) there is = (e, there, cc is)
