-- Names, numbers and values have neither a space nor a line's end.
use Rattle.std.proofs.Common.{◌≡◌, ◌<◌, ◌^◌, ◌∙◌, ◌∷◌, ◌++◌, [], List, Bool, true, false, ℕ, refl, sym, subst, arith}
use Rattle.std.specs.Prelude.{if◌then◌else◌, ◌==◌, codes, decimal, ℤ, IsTrue, length}
use Rattle.std.specs.Fmt.{signed_decimal}
use Rattle.std.proofs.lemmas.List.Folds.{list_all-append}
use Rattle.tv_base.specs.declared.numbers.ItemNo.{ItemNo}
use Rattle.commute_ops.specs.declared.kinds.Kind.{Kind}
use Rattle.commute_ops.specs.declared.kinds.Kind.TheVariants as kinds
use Rattle.commute_ops.specs.declared.value.Value.{Value}
use Rattle.commute_ops.specs.declared.value.Value.TheVariants.{Sum, Top, Bag}
use Rattle.tx_trees.specs.Names.{is_name}
use Rattle.tx_trees.specs.ScriptData.{ScriptData, client_of}
use Rattle.tx_trees.specs.Valid.{IsValid}
use Rattle.tx_trees.proofs.SubsOf.{few_nodes}
use Rattle.history_text.specs.TreeNames.{actor_text, got_text, item_text, tree_text}
use Rattle.history_text.specs.Values.{bag_text, count_text, more_numbers, value_text}
use Rattle.history_text.specs.Printable.{AreGot, IsActor, IsAmount, IsGot, IsOfKind}
use Rattle.history_text.specs.Parts.{lacks}
use Rattle.history_text.specs.Words.{AllAmounts, got_in_words, got_words}
use Rattle.history_text.proofs.Gots.{of_item}
use Rattle.history_text.proofs.Lacking.{amount_lacks, decimal_lacks, name_lacks}
use Rattle.history_text.proofs.Named.{item_there, tree_there}
use Rattle.history_reader.proofs.Spelling.{IsSolid, IsTail, both, none_more, word}

lacks-append : (b : ℕ) (x y : List ℕ) → lacks b x ≡ true → lacks b y ≡ true → lacks b (x ++ y) ≡ true
lacks-append b x y hx hy = list_all-append _ x y ∙ rw hx hy

pub solid-append : (x y : List ℕ) → IsSolid x → IsSolid y → IsSolid (x ++ y)
solid-append x y hx hy = record { no_space = lacks-append 32 x y hx.no_space hy.no_space; no_end = lacks-append 10 x y hx.no_end hy.no_end }

pub number_solid : (n : ℕ) → n < 2 ^ 64 → IsSolid (decimal n)
number_solid n h = record { no_space = decimal_lacks 32 n refl (omega arith); no_end = decimal_lacks 10 n refl (omega arith) }

pub amount_solid : (n : ℤ) → IsAmount n → IsSolid (signed_decimal n)
amount_solid n h = record { no_space = amount_lacks 32 n refl refl h; no_end = amount_lacks 10 n refl refl h }

name_solid : (name : List ℕ) → IsTrue (is_name name) → IsSolid name
name_solid name h = record { no_space = name_lacks 32 name refl h; no_end = name_lacks 10 name refl h }

pub tree_solid : (s : ScriptData) (t : ℕ) → IsValid s → t < length s.trees → IsSolid (tree_text s t)
tree_solid s t valid h =
    let (tree, at, text, name) = tree_there s t valid h in
    subst IsSolid (sym text) (name_solid tree.name name)

pub item_solid : (s : ScriptData) (x : ℕ) → IsValid s → x < length s.items → IsSolid (item_text s x)
item_solid s x valid h =
    let (row, at, text, name) = item_there s x valid h in
    subst IsSolid (sym text) (name_solid row.name name)

more_solid : (ns : List ℤ) → AllAmounts ns → IsSolid (more_numbers ns)
more_solid [] all = record { no_space = refl; no_end = refl }
more_solid (n ∷ ns) all =
    solid-append (codes ",") (signed_decimal n ++ more_numbers ns) (record { no_space = refl; no_end = refl })
    (solid-append (signed_decimal n) (more_numbers ns) (amount_solid n all.0) (more_solid ns all.1))

bag_solid : (ns : List ℤ) → AllAmounts ns → IsSolid (bag_text ns)
bag_solid [] all = record { no_space = refl; no_end = refl }
bag_solid (n ∷ ns) all =
    solid-append (codes "{") (signed_decimal n ++ (more_numbers ns ++ codes "}")) (record { no_space = refl; no_end = refl })
    (solid-append (signed_decimal n) (more_numbers ns ++ codes "}") (amount_solid n all.0)
    (solid-append (more_numbers ns) (codes "}") (more_solid ns all.1) (record { no_space = refl; no_end = refl })))

value_solid : (kind : Kind) (w : Value) → IsOfKind kind w → IsSolid (value_text w)
value_solid kinds.Sum (Sum n) may = amount_solid n.0 may
value_solid kinds.Top (Top n) may = amount_solid n.0 may
value_solid kinds.Bag (Bag ns) may = bag_solid ns may.1
value_solid kinds.Sum (Top n) may = absurd may
value_solid kinds.Sum (Bag ns) may = absurd may
value_solid kinds.Top (Sum n) may = absurd may
value_solid kinds.Top (Bag ns) may = absurd may
value_solid kinds.Bag (Sum n) may = absurd may
value_solid kinds.Bag (Top n) may = absurd may

got_solid : (s : ScriptData) (got : ItemNo × Value) → IsValid s → IsGot s got → IsSolid (got_in_words s got)
got_solid s got valid may =
    let (row, at, less, kind) = of_item s.items got.0.0 got.1 may in
    solid-append (item_text s got.0.0) (codes "=" ++ value_text got.1) (item_solid s got.0.0 valid less)
    (solid-append (codes "=") (value_text got.1) (record { no_space = refl; no_end = refl }) (value_solid row.kind got.1 kind))

-- each value after a space
pub got_tail : (s : ScriptData) (vs : List (ItemNo × Value)) → IsValid s → AreGot s vs → IsTail (got_text s vs) (got_words s vs)
got_tail s [] valid may = none_more
got_tail s (got ∷ more) valid may = both (word (got_in_words s got) (got_solid s got valid may.0)) (got_tail s more valid may.1)

pub actor_solid : (s : ScriptData) (a : ℕ) → IsValid s → IsActor s a → IsSolid (actor_text s a)
actor_solid s a valid may = by (a == s.nodes) (a == client_of s) (omega (arith, few_nodes s valid, may))
  where
    by : (p q : Bool) → a < 2 ^ 64 → IsSolid (if p then codes "coordinator" else if q then codes "client" else count_text (codes "n") a)
    by true q small = record { no_space = refl; no_end = refl }
    by false true small = record { no_space = refl; no_end = refl }
    by false false small = solid-append (codes "n") (decimal a) (record { no_space = refl; no_end = refl }) (number_solid a small)
