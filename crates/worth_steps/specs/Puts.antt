-- What is kept of a bag: the numbers that were put in, in order, with the versions in which they were put.
use Rattle.std.specs.Prelude.{if◌then◌else◌, ℕ, ◌≡◌, ◌≤ℤ◌, nat_le, max, ℤ, List, [], ◌∷◌}
use Rattle.commute_ops.specs.declared.value.Value.TheVariants.{Bag}
use Rattle.worth_steps.specs.declared.puts.Put.{Put}
use Rattle.worth_steps.specs.Worth.{Noted, last_altered, worth_of}

-- the numbers of versions at most v
abbrev pub shown_to : ℕ → List Put → List ℤ
shown_to v [] = []
shown_to v (x ∷ xs) = if nat_le x.version.0 v then x.number ∷ shown_to v xs else shown_to v xs

-- the numbers ascend
abbrev pub AllFrom : ℤ → List Put → Type 0
AllFrom n [] = Unit {0}
AllFrom n (x ∷ xs) = (n ≤ℤ x.number) × AllFrom n xs

abbrev pub Rises : List Put → Type 0
Rises [] = Unit {0}
Rises (x ∷ xs) = AllFrom x.number xs × Rises xs

-- the greatest version of a put
abbrev pub newest_put : List Put → ℕ
newest_put [] = 0
newest_put (x ∷ xs) = max x.version.0 (newest_put xs)

-- the puts are those of the deeds that have come
pub record ArePuts (ns : List Noted) (ps : List Put) : Type 0 where
  pub shows : (v : ℕ) → worth_of (Bag []) ns v ≡ Bag (shown_to v ps)
  pub newest : last_altered ns ≡ newest_put ps
