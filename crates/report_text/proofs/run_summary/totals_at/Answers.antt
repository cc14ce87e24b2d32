use Rattle.std.proofs.Common.{◌≡◌, ℤ, List, length, ap, sym, ◌∙◌, subst}
use Rattle.commute_ops.specs.declared.kinds.Kind.{Kind}
use Rattle.commute_ops.specs.declared.kinds.Kind.TheVariants.{Sum as SumKind, Top as TopKind}
use Rattle.commute_ops.specs.declared.value.Value.{Value}
use Rattle.letter_types.specs.declared.entries.Entry.{Entry}
use Rattle.tx_trees.specs.ScriptData.{ScriptData}
use Rattle.tx_trees.specs.declared.parts.ItemRow.{ItemRow}
use Rattle.board_model.specs.Balances.{worths}
use Rattle.report_text.specs.Summary.{kind_worth}
use Rattle.report_text.specs.inside.Totals.{AreAmounts, kind_total}
use Rattle.report_text.proofs.ItemLines.{length-worths}
use Rattle.report_text.proofs.SmallWorths.{total_all, worths_small}
use Rattle.report_text.proofs.run_summary.totals_at.Goals as goal

pub totals_of-totals-requires-clause-each : goal.totals_of-totals-requires-clause-each
totals_of-totals-requires-clause-each c =
    ap (λ (z : List Value). length z) (c.items-balances.ensures.items ∙ c.in_ok-values.ensures)
    ∙ length-worths c.args.script.now c.args.history.now c.args.version.0
    ∙ sym (ap (λ (z : List ItemRow). length z) c.items-rows.ensures.items)

pub totals_of-totals-requires-clause-small : goal.totals_of-totals-requires-clause-small
totals_of-totals-requires-clause-small c =
    subst AreAmounts (sym (c.items-balances.ensures.items ∙ c.in_ok-values.ensures))
    (worths_small c.args.script.now c.args.history.now c.args.version.0 c.items-rows.ensures.valid)

-- the total by what the code has is that of the summary
same_total : (s : ScriptData) (h : List Entry) (kind : Kind) (v : _) (rows : List ItemRow) (ws : List Value) (n : ℤ) → rows ≡ s.items
    → ws ≡ worths s h v → n ≡ kind_total kind rows ws → n ≡ kind_worth s h kind v 0 s.items
same_total s h kind v rows ws n items values is =
    is ∙ ap (λ (z : List ItemRow). kind_total kind z ws) items ∙ ap (λ (z : List Value). kind_total kind s.items z) values ∙ total_all s h kind v

pub returns-clause-sum : goal.returns-clause-sum
returns-clause-sum c =
    same_total c.args.script.now c.args.history.now SumKind c.args.version.0 c.items-rows.result.now c.items-balances.result.now
    c.totals_of-totals.result.sum c.items-rows.ensures.items (c.items-balances.ensures.items ∙ c.in_ok-values.ensures) c.totals_of-totals.ensures.sum

pub returns-clause-top : goal.returns-clause-top
returns-clause-top c =
    same_total c.args.script.now c.args.history.now TopKind c.args.version.0 c.items-rows.result.now c.items-balances.result.now
    c.totals_of-totals.result.top c.items-rows.ensures.items (c.items-balances.ensures.items ∙ c.in_ok-values.ensures) c.totals_of-totals.ensures.top
