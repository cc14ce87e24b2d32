-- Messages get their ids one after the other.
use Rattle.std.proofs.Common.{◌≡◌, ℕ, suc, ◌+◌, List, [], ◌∷◌, ◌++◌, length, map, refl, ap, sym, arith}
use Rattle.letter_types.specs.declared.entries.Letter.{Letter}
use Rattle.letter_types.specs.declared.entries.Outgoing.{Outgoing}
use Rattle.letter_types.specs.Letters.{sealed}
use Rattle.run_history.specs.Messages.{outgoing_of}

abbrev pub letter_at : ℕ → ℕ → ℕ → Outgoing → Letter
letter_at stamp actor place o = record { id = record { stamp = record { 0 = stamp }; place = place }; from = record { 0 = actor }; to = o.to; body = o.body }

pub sealed_more : (stamp actor place n : ℕ) (os : List Outgoing) (o : Outgoing) → n ≡ place + length os
    → sealed stamp actor place (os ++ o ∷ []) ≡ sealed stamp actor place os ++ letter_at stamp actor n o ∷ []
sealed_more stamp actor place n [] o is =
    let eq : n ≡ place = omega arith in
    ap (λ (k : ℕ). letter_at stamp actor k o ∷ []) (sym eq)
sealed_more stamp actor place n (x ∷ os) o is =
    ap (λ (ls : List Letter). letter_at stamp actor place x ∷ ls) (sealed_more stamp actor (place + 1) n os o (omega arith))

pub sealed_count : (stamp actor place : ℕ) (os : List Outgoing) → length (sealed stamp actor place os) ≡ length os
sealed_count stamp actor place [] = refl
sealed_count stamp actor place (o ∷ os) = ap suc (sealed_count stamp actor (place + 1) os)

-- what messages say is what was sent
pub unsealed : (stamp actor place : ℕ) (os : List Outgoing) → map outgoing_of (sealed stamp actor place os) ≡ os
unsealed stamp actor place [] = refl
unsealed stamp actor place (o ∷ os) = ap (λ (xs : List Outgoing). o ∷ xs) (unsealed stamp actor (place + 1) os)
