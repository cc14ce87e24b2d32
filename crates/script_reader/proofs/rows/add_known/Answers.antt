use Rattle.std.proofs.Common.{ap, sym, subst, List, ℕ, Result, Err, ℤ}
use Rattle.tv_base.specs.declared.numbers.ItemNo.{ItemNo}
use Rattle.tx_trees.specs.Adding.{Steps, adds_item}
use Rattle.tx_trees.specs.declared.parts.ItemRow.{ItemRow}
use Rattle.tx_trees.specs.declared.why.Refusal.{Refusal}
use Rattle.script_reader.specs.Rows.{node_no}
use Rattle.script_reader.proofs.Passing.{passed_as, passed_on}
use Rattle.script_reader.proofs.rows.add_known.Goals as goal

pub returns-in_err-add_item : goal.returns-in_err-add_item
returns-in_err-add_item c =
    let s = c.args.script.now in
    let h = c.in-Some.ensures in
    let e = ap (λ (m : List ℕ). adds_item s (let r : ItemRow = record { name = m; node = node_no c.args.node; kind = c.args.kind; initial = c.args.initial.now } in r)) (sym h) in
    let refused : Result ItemNo Refusal = Err c.in_err-add_item.field-0.0 in
    let step = subst (λ (a : ℤ). Steps (adds_item s (let r : ItemRow = record { name = c.in-Some.name; node = node_no c.args.node; kind = c.args.kind; initial = a } in r)) refused s c.add_item.new.self) (passed_as c.args.initial.now c.requires) c.in_err-add_item.ensures.step in
    passed_on ItemNo _ _ _ c.from_residual.result _ _ c.from_residual.ensures.1 e step
