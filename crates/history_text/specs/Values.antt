-- How numbers and values are printed.
use Rattle.std.specs.Prelude.{ℕ, ℤ, List, [], ◌∷◌, ◌++◌, codes, decimal, flat_map}
use Rattle.std.specs.Fmt.{signed_decimal}
use Rattle.commute_ops.specs.declared.value.Value.{Value}
use Rattle.commute_ops.specs.declared.value.Value.TheVariants.{Sum, Top, Bag}

-- a word and a number
abbrev pub count_text : List ℕ → ℕ → List ℕ
count_text word n = word ++ decimal n

-- numbers, each after a space
abbrev pub numbers_text : List ℕ → List ℕ
numbers_text ns = flat_map (count_text (codes " ")) ns

-- a word, a version and a round, and with them the numbers of a row; and a node's three versions
abbrev pub round_text : List ℕ → ℕ → ℕ → List ℕ
round_text word v k = count_text word v ++ count_text (codes " round ") k

abbrev pub row_text : List ℕ → ℕ → ℕ → List ℕ → List ℕ
row_text word v k row = count_text word v ++ (count_text (codes " round ") k ++ numbers_text row)

abbrev pub three_text : ℕ → ℕ → ℕ → List ℕ
three_text u r l = count_text (codes " update ") u ++ (count_text (codes " read ") r ++ count_text (codes " low ") l)

-- numbers in order, each after a comma
abbrev pub more_numbers : List ℤ → List ℕ
more_numbers [] = []
more_numbers (n ∷ ns) = codes "," ++ (signed_decimal n ++ more_numbers ns)

abbrev pub bag_text : List ℤ → List ℕ
bag_text [] = codes "{}"
bag_text (n ∷ ns) = codes "{" ++ (signed_decimal n ++ (more_numbers ns ++ codes "}"))

-- a number in decimal, or a bag's numbers between braces
abbrev pub value_text : Value → List ℕ
value_text (Sum s) = signed_decimal s.0
value_text (Top t) = signed_decimal t.0
value_text (Bag ns) = bag_text ns

-- a value after the name of its item
abbrev pub get_text : List ℕ → Value → List ℕ
get_text name w = codes " " ++ (name ++ (codes "=" ++ value_text w))
