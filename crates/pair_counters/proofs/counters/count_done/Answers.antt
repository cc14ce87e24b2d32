use Rattle.std.proofs.Common.{[], arith, refl}
use Rattle.pair_counters.specs.declared.counters.CounterRow.{CounterRow}
use Rattle.pair_counters.proofs.Rows.{number-more}
use Rattle.pair_counters.proofs.counters.count_done.Goals as goal

pub returns-clause-done : goal.returns-clause-done
returns-clause-done c =
    let none : CounterRow = record { asked = []; done = [] } in
    number-more (λ r. r.done) c.args.v.0 c.args.from.0 c.args.rows.now none _ c.requires.three (omega arith) refl
