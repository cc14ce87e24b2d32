-- What an exact reader answers: what it was printed from, if anything that may be printed has this print.
use Rattle.std.specs.Prelude.{◌≡◌, Option, Some, None}

-- of what is printed as this, and may be: the one that was read, or there is none
abbrev pub IsReadBack : {T X : Type 0} → (T → X) → (T → Type 0) → X → Option T → Type 0
IsReadBack print May seen (Some x) = (seen ≡ print x) × May x
IsReadBack {T} print May seen None = (x : T) → seen ≡ print x → May x → ⊥
