-- What is left of a text, line by line.
use Rattle.std.specs.Prelude.{ℕ, ◌≡◌, Bool, true, false, List, [], ◌∷◌, ◌++◌, codes, nat_eq, Option, Some, None}
use Rattle.std.specs.List.{AllByRecursion, starts_with}
use Rattle.history_text.specs.Parts.{lacks}
use Rattle.history_reader.specs.declared.lines.Lines.TheInside.{Inside}

abbrev pub lines_left : Inside → List ℕ
lines_left l = l.text.now

-- whether a text begins with these bytes
abbrev pub begins : List ℕ → List ℕ → Bool
begins word text = starts_with nat_eq text word

-- whether an entry's lines end here: at the text's end, or where the next entry begins
abbrev pub ends_so : List ℕ → Bool
ends_so [] = true
ends_so (b ∷ bs) = begins (codes "entry ") (b ∷ bs)

-- a text's first line, and what is behind it
abbrev pub IsLineOf : List ℕ → List ℕ → List ℕ → Type 0
IsLineOf old line new = (old ≡ line ++ 10 ∷ new) × (lacks 10 line ≡ true)

-- what is read of a text's first lines, each of which begins with these bytes, up to one that doesn't
abbrev pub AreLines : {T : Type 0} → List ℕ → (List T → List ℕ) → (T → Type 0) → List ℕ → List ℕ → Option (List T) → Type 0
AreLines head print May old new (Some xs) = (old ≡ print xs ++ new) × AllByRecursion May xs × (begins head new ≡ false)
AreLines {T} head print May old new None =
    (xs : List T) (rest : List ℕ) → old ≡ print xs ++ rest → AllByRecursion May xs → begins head rest ≡ false → ⊥
