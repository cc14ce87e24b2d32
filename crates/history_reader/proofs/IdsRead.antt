-- A letter's id is cut at its dot.
use Rattle.std.proofs.Common.{◌≡◌, ◌∙◌, ◌∷◌, ◌++◌, List, true, ℕ, refl, sym, arith}
use Rattle.std.specs.Prelude.{decimal}
use Rattle.letter_types.specs.declared.entries.LetterId.{LetterId}
use Rattle.history_text.specs.Printable.{IsHalfWord, IsWord}
use Rattle.history_text.specs.Parts.{lacks}
use Rattle.history_text.proofs.Cuts.{one_cut}
use Rattle.history_text.proofs.Lacking.{decimal_lacks}
use Rattle.history_reader.specs.inside.Heads.{IsId, id_word}

-- the two numbers of an id that is cut so
cut_id : (word stamp place : List ℕ) (id : LetterId) → word ≡ stamp ++ 46 ∷ place → lacks 46 stamp ≡ true → word ≡ id_word id → IsId id → (stamp ≡ decimal id.stamp.0) × (place ≡ decimal id.place)
cut_id word stamp place id cut first is may =
    one_cut 46 stamp (decimal id.stamp.0) place (decimal id.place) first (decimal_lacks 46 id.stamp.0 refl (omega (arith, may.0))) (sym cut ∙ is)

pub no_stamp : (word stamp place : List ℕ) → word ≡ stamp ++ 46 ∷ place → lacks 46 stamp ≡ true → ((n : ℕ) → stamp ≡ decimal n → IsWord n → ⊥) → (id : LetterId) → word ≡ id_word id → IsId id → ⊥
no_stamp word stamp place cut first only id is may = only id.stamp.0 (cut_id word stamp place id cut first is may).0 may.0

pub no_place : (word stamp place : List ℕ) → word ≡ stamp ++ 46 ∷ place → lacks 46 stamp ≡ true → ((n : ℕ) → place ≡ decimal n → IsHalfWord n → ⊥) → (id : LetterId) → word ≡ id_word id → IsId id → ⊥
no_place word stamp place cut first only id is may = only id.place (cut_id word stamp place id cut first is may).1 may.1
