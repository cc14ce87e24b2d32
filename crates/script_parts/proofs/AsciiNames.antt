-- Names of a valid script are ASCII.
use Rattle.std.proofs.Common.{◌≡◌, ℕ, zero, suc, ◌<◌, ◌&&◌, Bool, true, IsTrue, List, [], ◌∷◌, get_or, arith}
use Rattle.std.specs.List.{AllByRecursion, list_all}
use Rattle.std.specs.Str.{IsAscii}
use Rattle.std.proofs.lemmas.Bool.Decides.{nat_tests}
use Rattle.tv_base.proofs.Truths.{right_true}
use Rattle.script_parts.specs.inside.AsciiNames.{AreAsciiItems, AreAsciiTrees}
use Rattle.script_parts.specs.Names.{has_name_len, is_name, is_name_byte}
use Rattle.script_parts.specs.Valid.{IsItem, IsTree}
use Rattle.script_parts.specs.declared.parts.ItemRow.{ItemRow}
use Rattle.script_parts.specs.declared.parts.Tree.{Tree}

-- a byte of a name is ASCII
byte_ascii : (b : ℕ) (rest : Bool) → (is_name_byte b && rest) ≡ true → b < 128
byte_ascii b rest h = grind (arith, nat_tests)

-- bytes of a name are ASCII
bytes_ascii : (bs : List ℕ) → list_all is_name_byte bs ≡ true → (i : ℕ) → get_or bs i 0 < 128
bytes_ascii [] h i = omega arith
bytes_ascii (b ∷ bs) h zero = byte_ascii b (list_all is_name_byte bs) h
bytes_ascii (b ∷ bs) h (suc i) = bytes_ascii bs (right_true (is_name_byte b) (list_all is_name_byte bs) h) i

-- a name is ASCII
pub name_ascii : (bs : List ℕ) → IsTrue (is_name bs) → IsAscii bs
name_ascii bs h = bytes_ascii bs (right_true (has_name_len bs) (list_all is_name_byte bs) h)

-- names of valid items are ASCII
pub items_ascii : (n : ℕ) (items : List ItemRow) → AllByRecursion (IsItem n) items → AreAsciiItems items
items_ascii n [] h = tt
items_ascii n (r ∷ rs) h = (name_ascii r.name h.0.name, items_ascii n rs h.1)

-- names of valid trees are ASCII
pub trees_ascii : (n : ℕ) (items : List ItemRow) (ts : List Tree) → AllByRecursion (IsTree n items) ts → AreAsciiTrees ts
trees_ascii n items [] h = tt
trees_ascii n items (t ∷ ts) h = (name_ascii t.name h.0.name, trees_ascii n items ts h.1)
