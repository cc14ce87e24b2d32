use Rattle.std.proofs.Common.{[], arith, refl}
use Rattle.pair_counters.specs.declared.counters.CounterRow.{CounterRow}
use Rattle.pair_counters.proofs.Rows.{number-more, number-same}
use Rattle.pair_counters.proofs.counters.count_asked.Goals as goal

pub returns-clause-asked : goal.returns-clause-asked
returns-clause-asked c =
    let none : CounterRow = record { asked = []; done = [] } in
    number-more (λ r. r.asked) c.args.v.0 c.args.to.0 c.args.rows.now none _ c.requires.three (omega arith) refl

pub returns-clause-done : goal.returns-clause-done
returns-clause-done c =
    number-same (λ r. r.done) c.args.v.0 c.args.rows.now (record { asked = []; done = [] }) _ c.requires.three refl
