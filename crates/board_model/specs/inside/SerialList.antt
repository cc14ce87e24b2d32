-- The serial order as a list of transactions with their versions, and how it is made. These are the definitions that
-- private code alone cites.
use Rattle.std.specs.Prelude.{if◌then◌else◌, ℕ, Bool, false, List, filter_map, map, reverse, Option, Some, None, slice_get}
use Rattle.tv_base.specs.declared.numbers.TreeNo.{TreeNo}
use Rattle.tv_base.specs.declared.numbers.Version.{Version}
use Rattle.letter_types.specs.declared.acts.Act.{Act}
use Rattle.tx_trees.specs.declared.parts.Tree.{Tree}
use Rattle.tx_trees.specs.declared.parts.TreeKind.{TreeKind}
use Rattle.tx_trees.specs.declared.parts.TreeKind.TheVariants.{Update, Read, Strict}
use Rattle.board_model.specs.declared.serial.Member.{Member}
use Rattle.board_model.specs.declared.standings.Standing.{Standing}
use Rattle.board_rules.specs.Histories.{Place}

-- acts at node p
abbrev pub placed : ℕ → List Act → List Place
placed p acts = map (λ (a : Act). record { node = p; act = a }) acts

-- the deeds of a transaction of this kind and standing count
abbrev pub counts_by : TreeKind → Standing → Bool
counts_by Update st = st.whole
counts_by Strict st = st.committed
counts_by Read st = false

-- a transaction with its version
abbrev pub with_version : Option Version → TreeNo → Option Member
with_version None t = None
with_version (Some v) t = Some (record { version = v; tree = t })

-- the same of a transaction of this kind and standing, if its deeds count
abbrev pub counted_member : TreeKind → Standing → TreeNo → Option Member
counted_member kind st t = if counts_by kind st then with_version st.born t else None

abbrev pub counted_at : Option Tree → Option Standing → TreeNo → Option Member
counted_at (Some tree) (Some st) t = counted_member tree.kind st t
counted_at (Some tree) None t = None
counted_at None st t = None

abbrev pub member_of : List Tree → List Standing → TreeNo → Option Member
member_of trees standings t = counted_at (slice_get trees t.0) (slice_get standings t.0) t

-- the transactions of a list, from its last one, whose deeds count
abbrev pub found_back : List Tree → List Standing → List TreeNo → List Member
found_back trees standings order = filter_map (member_of trees standings) (reverse order)
