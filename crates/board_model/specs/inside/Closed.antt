-- What is kept of the transactions that were closed while a history is gone over from its end. These are the
-- definitions that private code alone cites.
use Rattle.std.specs.Prelude.{List, [], ◌∷◌, if◌then◌else◌, ℕ, Bool, true, false, ◌&&◌, ◌++◌, get_or, replicate, slice_set}
use Rattle.tx_trees.specs.ScriptData.{ScriptData, updates}
use Rattle.board_rules.specs.Histories.{Place, is_strict_tree}
use Rattle.tv_base.specs.declared.numbers.TreeNo.{TreeNo}
use Rattle.letter_types.specs.declared.acts.Act.{Act}
use Rattle.letter_types.specs.declared.acts.Act.TheVariants.{Did, Decided, Finished}

-- a mark for each transaction that was closed, and these transactions, the last one first
pub record Closed : Type 0 where
  pub marks : List Bool
  pub order : List TreeNo

abbrev pub none_closed : ℕ → Closed
none_closed n = record { marks = replicate n false; order = [] }

-- a transaction before those that were closed later, unless it is marked
abbrev pub with_tree_closed : TreeNo → Closed → Closed
with_tree_closed t c =
    if get_or c.marks t.0 false then c else record { marks = slice_set c.marks t.0 true; order = c.order ++ t ∷ [] }

abbrev pub closed_after_act : ScriptData → Act → Closed → Closed
closed_after_act s (Did t k values) c = if updates s t.0 then with_tree_closed t c else c
closed_after_act s (Decided t commit) c = if is_strict_tree s t.0 && commit then with_tree_closed t c else c
closed_after_act s Finished c = c
closed_after_act s _ c = c

-- after acts that are noted from the last one
abbrev pub closed_back : ScriptData → List Place → Closed → Closed
closed_back s [] c = c
closed_back s (x ∷ xs) c = closed_after_act s x.act (closed_back s xs c)
