use Rattle.std.proofs.Common.{◌++◌, ◌∙◌, ap, map, sym, subst, List, ℕ}
use Rattle.script_reader.specs.Written.{form_rows, item_fields, line, lines, nodes_fields, pick_fields}
use Rattle.tx_trees.specs.declared.parts.Form.{Form}
use Rattle.tx_trees.specs.declared.parts.ItemRow.{ItemRow}
use Rattle.tx_trees.specs.AsciiNames.{AreAsciiItems, AreAsciiTrees}
use Rattle.tx_trees.proofs.AsciiNames.{items_ascii, trees_ascii}
use Rattle.script_reader.proofs.Pushed.{all_pushed, rows_are}
use Rattle.script_reader.specs.inside.Numbers.{AreOf32Bits}
use Rattle.script_reader.proofs.ReadBack.{text_read}
use Rattle.script_reader.proofs.writing.write_script.Goals as goal

pub push_items-requires : goal.push_items-requires
push_items-requires c =
    subst AreAsciiItems (sym c.items.ensures.items) (items_ascii c.args.script.now.nodes c.args.script.now.items c.items.ensures.valid.items)

pub push_rows-requires-clause-items : goal.push_rows-requires-clause-items
push_rows-requires-clause-items c =
    subst AreAsciiItems (sym c.items-2.ensures.items) (items_ascii c.args.script.now.nodes c.args.script.now.items c.items-2.ensures.valid.items)

pub push_rows-requires-clause-trees : goal.push_rows-requires-clause-trees
push_rows-requires-clause-trees c =
    subst AreAsciiTrees (sym c.trees.ensures.trees) (trees_ascii c.args.script.now.nodes c.args.script.now.items c.args.script.now.trees c.trees.ensures.valid.trees)

pub returns : goal.returns
returns c =
    let s = c.args.script.now in
    let t = c.new-text.result in
    let form = c.in_ok-push_form.ensures ∙ ap (λ (f : Form). t ++ lines (form_rows f)) c.form.ensures in
    let nodes = c.in_ok-push_number_row.ensures ∙ ap (λ (n : ℕ). c.push_form.new.text ++ line (nodes_fields n)) c.nodes.ensures.nodes in
    let items = c.in_ok-push_items.ensures ∙ ap (λ (x : List ItemRow). c.push_number_row.new.text ++ lines (map item_fields x)) c.items.ensures.items in
    let rows = c.in_ok-push_rows.ensures ∙ rows_are c.push_items.new.text _ _ _ s c.items-2.ensures.items c.trees.ensures.trees c.rows.ensures in
    let picks = c.in_ok-push_picks.ensures.text ∙ ap (λ (x : List ℕ). c.push_rows.new.text ++ lines (map pick_fields x)) c.picks.ensures in
    let text = all_pushed s t c.push_form.new.text c.push_number_row.new.text c.push_items.new.text c.push_rows.new.text c.push_picks.new.text c.new-text.ensures form nodes items rows picks in
    let small : AreOf32Bits s.picks = subst AreOf32Bits c.picks.ensures c.in_ok-push_picks.ensures.small in
    record { text = text; read = text_read s c.push_picks.new.text c.nodes.ensures.valid small text }
