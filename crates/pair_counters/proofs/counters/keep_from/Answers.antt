use Rattle.std.proofs.Common.{◌≡◌, length, List, ℕ, ap, arith}
use Rattle.pair_counters.specs.declared.counters.CounterRow.{CounterRow}
use Rattle.pair_counters.specs.Rows.{number_in}
use Rattle.pair_counters.proofs.Rows.{dropped, moved-on}
use Rattle.pair_counters.proofs.counters.keep_from.Goals as goal

pub loop-k-preserved : goal.loop-k-preserved
loop-k-preserved c =
    let low = c.args.low.0 in
    let k = c.loop-k.k in
    let was = c.args.rows.now in
    let rs = c.loop-k.rows in
    let y = c.no_numbers.result in
    let zeros = c.no_numbers.ensures in
    let asked : CounterRow → List ℕ = λ r. r.asked in
    let done : CounterRow → List ℕ = λ r. r.done in
    let before = c.loop-k.invariant in
    let three : length rs ≡ 3 = omega arith in
    record {
      asked = dropped asked 64 low k (number_in asked low was) rs y three (omega arith) (ap asked zeros) before.asked;
      done = dropped done 64 low k (number_in done low was) rs y three (omega arith) (ap done zeros) before.done;
    }

pub returns-clause-asked : goal.returns-clause-asked
returns-clause-asked c =
    let low = c.args.low.0 in
    let rs = c.loop-k.rows in
    moved-on (λ r. r.asked) low c.args.v.0 c.loop-k.k c.args.rows.now rs c.requires.further (omega arith)
    c.loop-k.invariant.asked

pub returns-clause-done : goal.returns-clause-done
returns-clause-done c =
    let low = c.args.low.0 in
    let rs = c.loop-k.rows in
    moved-on (λ r. r.done) low c.args.v.0 c.loop-k.k c.args.rows.now rs c.requires.further (omega arith)
    c.loop-k.invariant.done
