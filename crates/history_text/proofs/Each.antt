-- Lists that are read item by item.
use Rattle.std.proofs.Common.{◌≡◌, ◌∙◌, ◌∷◌, ◌++◌, [], List, map, refl, sym, ap, append_assoc}
use Rattle.std.specs.List.{AllByRecursion}
use Rattle.std.proofs.lemmas.List.{map-append}

-- where one part is no item's, the parts are those of no items
pub each_fails : {T X : Type 0} (print : T → X) (May : T → Type 0) (seen front : List X) (part : X) (rest : List X)
    → seen ≡ front ++ part ∷ rest → ((x : T) → part ≡ print x → May x → ⊥) → (xs : List T) → seen ≡ map print xs → AllByRecursion May xs → ⊥
each_fails {T = T} {X = X} print May seen front part rest is only xs same may = by front xs (sym is ∙ same) may
  where
    by : (front : List X) (xs : List T) → front ++ part ∷ rest ≡ map print xs → AllByRecursion May xs → ⊥
    by [] [] same may = cc
    by [] (x ∷ xs) same may = only x (cc) may.0
    by (f ∷ front) [] same may = cc
    by (f ∷ front) (x ∷ xs) same may = by front xs (cc) may.1

-- one item more
pub one_more : {T X : Type 0} (print : T → X) (seen : List X) (xs : List T) (x : T) (part : X) (rest : List X)
    → seen ≡ map print xs ++ part ∷ rest → part ≡ print x → seen ≡ map print (xs ++ x ∷ []) ++ rest
one_more print seen xs x part rest is same =
    is ∙ ap (λ p. map print xs ++ p ∷ rest) same
    ∙ sym (append_assoc (map print xs) (print x ∷ []) rest) ∙ ap (λ l. l ++ rest) (sym (map-append print xs (x ∷ [])))

-- items whose prints differ are read as themselves
pub each_one : {T X : Type 0} (print : T → X) (May : T → Type 0) → ((x y : T) → print x ≡ print y → May x → May y → x ≡ y)
    → (xs ys : List T) → map print xs ≡ map print ys → AllByRecursion May xs → AllByRecursion May ys → xs ≡ ys
each_one print May one [] [] same mx my = refl
each_one print May one [] (y ∷ ys) same mx my = cc
each_one print May one (x ∷ xs) [] same mx my = cc
each_one print May one (x ∷ xs) (y ∷ ys) same mx my =
    let first : x ≡ y = one x y (cc) mx.0 my.0 in
    let rest : xs ≡ ys = each_one print May one xs ys (cc) mx.1 my.1 in
    ap (λ z. z ∷ xs) first ∙ ap (λ zs. y ∷ zs) rest
