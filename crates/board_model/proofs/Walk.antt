-- A list from an index on, at the element that a loop reads there.
use Rattle.std.proofs.Common.{◌≡◌, ℕ, ◌+◌, ◌<◌, List, ◌∷◌, length, drop, get_or, sym, ap, ◌∙◌}
use Rattle.std.proofs.lemmas.List.{at_drop_more}

pub opened : {X Y : Type 0} (F : List X → Y) (xs : List X) (i : ℕ) (x : X) → i < length xs → x ≡ get_or xs i x → F (drop i xs) ≡ F (x ∷ drop (i + 1) xs)
opened {X} {Y} F xs i x small is = at_drop_more F xs i x small ∙ ap (λ (y : X). F (y ∷ drop (i + 1) xs)) (sym is)
