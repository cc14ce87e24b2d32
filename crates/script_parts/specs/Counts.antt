-- How many things of each sort a script has.
use Rattle.std.specs.Prelude.{ℕ, Bool, true, false, not, if◌then◌else◌, ◌==◌, List, length}
use Rattle.std.specs.List.{flat_map}
use Rattle.commute_ops.specs.declared.kinds.Op.TheVariants.{Put}
use Rattle.tv_base.specs.Sums.{one_if, tally}
use Rattle.script_parts.specs.ScriptData.{ScriptData, is_strict, is_update}
use Rattle.script_parts.specs.declared.parts.Tree.{Tree}
use Rattle.script_parts.specs.declared.parts.Sub.{Sub}
use Rattle.script_parts.specs.declared.parts.SubOp.{SubOp}
use Rattle.script_parts.specs.declared.parts.Deed.{Deed}
use Rattle.script_parts.specs.declared.parts.Deed.TheVariants as deeds
use Rattle.script_parts.specs.declared.parts.TreeKind.{TreeKind}
use Rattle.script_parts.specs.declared.parts.ScriptRow.{ScriptRow}
use Rattle.script_parts.specs.declared.parts.ScriptRow.TheVariants as rows

-- how many subtransactions the transactions have
abbrev pub all_subs : List Tree → ℕ
all_subs ts = tally (λ t. length t.subs) ts

-- how many operations the subtransactions have
abbrev pub subs_ops : List Sub → ℕ
subs_ops ss = tally (λ s. length s.ops) ss

-- how many operations the transactions have
abbrev pub all_ops : List Tree → ℕ
all_ops ts = tally (λ t. subs_ops t.subs) ts

-- how many transactions are strict
abbrev pub strict_trees : List Tree → ℕ
strict_trees ts = tally (λ t. one_if (is_strict t.kind)) ts

-- there is a strict transaction
abbrev pub has_strict : ScriptData → Bool
has_strict s = not (strict_trees s.trees == 0)

-- that many for an update transaction
abbrev pub if_update : TreeKind → ℕ → ℕ
if_update kind n = if is_update kind then n else 0

-- how many subtransactions the update transactions have
abbrev pub update_subs : List Tree → ℕ
update_subs ts = tally (λ t. if_update t.kind (length t.subs)) ts

-- one for a `put`
abbrev pub one_put : Deed → ℕ
one_put (deeds.Apply (Put a)) = 1
one_put _ = 0

-- how many `put` operations there are on item x
abbrev pub ops_puts : ℕ → List SubOp → ℕ
ops_puts x os = tally (λ o. if o.item.0 == x then one_put o.deed else 0) os

abbrev pub subs_puts : ℕ → List Sub → ℕ
subs_puts x ss = tally (λ s. ops_puts x s.ops) ss

abbrev pub trees_puts : ℕ → List Tree → ℕ
trees_puts x ts = tally (λ t. subs_puts x t.subs) ts

-- how many advancements are asked for
abbrev pub is_advance : ScriptRow → Bool
is_advance rows.Advance = true
is_advance _ = false

abbrev pub advances_in : List ScriptRow → ℕ
advances_in rs = tally (λ r. one_if (is_advance r)) rs

-- how often the coordinator is made to forget
abbrev pub is_lose : ScriptRow → Bool
is_lose rows.Lose = true
is_lose _ = false

abbrev pub loses_in : List ScriptRow → ℕ
loses_in rs = tally (λ r. one_if (is_lose r)) rs

-- a row makes the coordinator forget
abbrev pub is_lossy : ScriptData → Bool
is_lossy s = not (loses_in s.rows == 0)

-- the operations of the subtransactions, in order
abbrev pub ops_in : List Sub → List SubOp
ops_in ss = flat_map (λ s. s.ops) ss
