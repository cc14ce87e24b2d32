-- One entry with the Did of a read transaction and the last Did of an update transaction of its version: the update
-- comes first only if its Did does, and not if it comes later in the same entry.
use Rattle.std.proofs.Common.{◌≡◌, ℕ, zero, suc, true, false, List, [], ◌∷◌, refl, subst, arith}
use Rattle.std.specs.Prelude.{pos}
use Rattle.letter_types.specs.declared.entries.Entry.{Entry}
use Rattle.board_rules.specs.Histories.{Place, is_whole, is_whole_in, places_at, places_of}
use Rattle.board_rules.specs.Moves.{OneByOne}
use Rattle.board_rules.specs.Rules.{is_writer}
use Rattle.board_rules.proofs.Sampled.{both, entry_with, has_read, read_first, update_first, updated}
use Rattle.run_laws.specs.Stays.{ComesAfterWriters, WritersAreFirst}

-- before the entry the update isn't whole
pub not_yet : is_whole both [] 0 ≡ false
not_yet = refl

-- the acts of one entry come after their writers
abbrev AreAfter : Entry → Entry → Type 0
AreAfter of e = OneByOne (λ (xs : List Place) (x : Place). ComesAfterWriters both (of ∷ []) xs x.act) [] (places_at e)

one_after : (e : Entry) → AreAfter e e → WritersAreFirst both (e ∷ [])
one_after e after zero x here = let same : e ≡ x = cc here in subst (AreAfter e) same after
one_after e after (suc n) x here = absurd (cc here)

whole_then : (u : ℕ) → is_writer both u ≡ true → is_whole_in both (places_of (entry_with (updated ∷ []) ∷ [])) u ≡ true
whole_then zero up = refl
whole_then (suc zero) up = absurd (cc up)
whole_then (suc (suc u)) up = absurd (cc up)

pub comes_first : WritersAreFirst both (update_first (pos 5))
comes_first =
    one_after (entry_with (updated ∷ has_read (pos 5) ∷ []))
    (tt, (tt, ((λ read. absurd (cc read)), ((λ read u w up born le. whole_then u up), tt))))

pub comes_behind : WritersAreFirst both (read_first (pos 0)) → ⊥
comes_behind first =
    let acts : AreAfter (entry_with (has_read (pos 0) ∷ updated ∷ [])) (entry_with (has_read (pos 0) ∷ updated ∷ [])) = first 0 _ refl in
    let whole : false ≡ true = acts.1.1.0 refl 0 (record { 0 = 1 }) refl refl (omega arith) in
    absurd (cc whole)
