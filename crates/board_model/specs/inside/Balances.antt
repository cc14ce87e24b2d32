-- What all items are worth at a version, side by side, and which of them are written. These are the definitions that
-- private code alone cites.
use Rattle.std.specs.Prelude.{if◌then◌else◌, ℕ, Bool, true, false, ◌&&◌, List, [], ◌∷◌, Some, None, slice_get, slice_set}
use Rattle.tx_trees.specs.declared.parts.ItemRow.{ItemRow}
use Rattle.tx_trees.specs.declared.parts.Sub.{Sub}
use Rattle.tx_trees.specs.declared.parts.SubOp.{SubOp}
use Rattle.tx_trees.specs.declared.parts.Tree.{Tree}
use Rattle.tx_trees.specs.declared.parts.TreeKind.{TreeKind}
use Rattle.tx_trees.specs.declared.parts.TreeKind.TheVariants.{Update, Read, Strict}
use Rattle.board_model.specs.declared.standings.Standing.{Standing}
use Rattle.board_rules.specs.Serial.{is_version}
use Rattle.board_rules.specs.Worth.{changes}

-- the subtransactions of transaction t of these
abbrev pub subs_in : List Tree → ℕ → List Sub
subs_in ts t = elim (slice_get ts t) [ Some tree ↦ tree.subs | None ↦ [] ]

-- no item is marked
abbrev pub no_marks : List ItemRow → List Bool
no_marks [] = []
no_marks (row ∷ rows) = false ∷ no_marks rows

-- the items that the operations change marked, if they are there
abbrev pub mark_op : SubOp → List Bool → List Bool
mark_op o ms = if changes o.deed then slice_set ms o.item.0 true else ms

abbrev pub mark_ops : List SubOp → List Bool → List Bool
mark_ops [] ms = ms
mark_ops (o ∷ os) ms = mark_ops os (mark_op o ms)

abbrev pub mark_subs : List Sub → List Bool → List Bool
mark_subs [] ms = ms
mark_subs (k ∷ ks) ms = mark_subs ks (mark_ops k.ops ms)

-- a transaction of this kind writes, by whether it was decided to commit
abbrev pub may_write_by : TreeKind → Bool → Bool
may_write_by Update committed = true
may_write_by Read committed = false
may_write_by Strict committed = committed

-- a transaction of this kind and standing is of version v, and writes
abbrev pub writes_by : ℕ → TreeKind → Standing → Bool
writes_by v kind st = is_version v st.born && may_write_by kind st.committed

-- the items that such transactions change marked
abbrev pub mark_trees : ℕ → List Tree → List Standing → List Bool → List Bool
mark_trees v [] sts ms = ms
mark_trees v (t ∷ ts) [] ms = ms
mark_trees v (t ∷ ts) (st ∷ sts) ms = mark_trees v ts sts (if writes_by v t.kind st then mark_subs t.subs ms else ms)
