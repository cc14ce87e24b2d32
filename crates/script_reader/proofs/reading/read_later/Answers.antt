use Rattle.std.proofs.Common.{◌∙◌, ap, length, arith}
use Rattle.csv.specs.Records.{fields_of}
use Rattle.script_reader.proofs.Script.{ends, goes_on, refuses, takes_false, takes_true}
use Rattle.script_reader.proofs.reading.read_later.Goals as goal

pub loop-script-preserved : goal.loop-script-preserved
loop-script-preserved c =
    let e = takes_true _ c.in_ok-next.field-0 (fields_of c.next.new.row) _ c.if-branch.true c.in_ok-next.ensures in
    record {
      so_far = c.loop-script.invariant.so_far ∙ goes_on _ _ c.loop-script.at _ _ _ e c.in-Ok.ensures;
      small = omega (arith, c.loop-script.invariant.small, ap length e);
    }

pub returns-in-Err : goal.returns-in-Err
returns-in-Err c =
    let e = takes_true _ c.in_ok-next.field-0 (fields_of c.next.new.row) _ c.if-branch.true c.in_ok-next.ensures in
    refuses c.loop-script.script c.take_later.new.script c.in-Err.refusal c.loop-script.at _ _ _ _ c.at_row.result c.loop-script.invariant.so_far e c.in-Err.ensures c.at_row.ensures

pub returns : goal.returns
returns c =
    let e = takes_false _ c.in_ok-next.field-0 (fields_of c.next.new.row) _ c.if-branch.false c.in_ok-next.ensures in
    c.loop-script.invariant.so_far ∙ ends _ _ _ e
