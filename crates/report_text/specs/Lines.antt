-- The line of a script that was read.
use Rattle.std.specs.Prelude.{List, ℕ, ◌++◌, length, codes}
use Rattle.tx_trees.specs.Adding.{advances_in, all_subs}
use Rattle.tx_trees.specs.ScriptData.{ScriptData}
use Rattle.history_text.specs.Values.{count_text}

-- how many nodes, items, transactions, subtransactions and advancements a script has; roots are subtransactions too
abbrev pub check_line_of : ScriptData → List ℕ
check_line_of s =
    count_text (codes "ok nodes ") s.nodes ++ (count_text (codes " items ") (length s.items)
    ++ (count_text (codes " trees ") (length s.trees) ++ (count_text (codes " subs ") (all_subs s.trees)
    ++ (count_text (codes " advances ") (advances_in s.rows) ++ codes "\n"))))
