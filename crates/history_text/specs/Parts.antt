-- A text in parts, between bytes of one kind.
use Rattle.std.specs.Prelude.{ℕ, ◌==◌, Bool, not, List, [], cond, ◌≡◌, ◌∷◌}
use Rattle.std.specs.List.{list_all, slice_split}
use Rattle.history_text.specs.declared.parts.Parts.TheInside.{Inside}

-- no byte of this text is b
abbrev pub lacks : ℕ → List ℕ → Bool
lacks b text = list_all (λ c. not (c == b)) text

-- what stands between the bytes b of a text
abbrev pub parts_at : ℕ → List ℕ → List (List ℕ)
parts_at b text = slice_split (λ c. c == b) text

-- the parts that are left
abbrev pub parts_left : Inside → List (List ℕ)
parts_left p = cond p.more (parts_at p.byte p.text.now) []

-- these parts aren't three
abbrev pub AreNotThree : List (List ℕ) → Type 0
AreNotThree parts = (a b c : List ℕ) → parts ≡ a ∷ b ∷ c ∷ [] → ⊥
