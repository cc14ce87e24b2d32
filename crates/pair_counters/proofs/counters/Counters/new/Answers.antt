use Rattle.std.proofs.Common.{List, [], ◌∷◌, ℕ, ap, refl}
use Rattle.pair_counters.specs.declared.counters.CounterRow.{CounterRow}
use Rattle.pair_counters.proofs.Rows.{number-none, counts-are}
use Rattle.pair_counters.proofs.counters.Counters.new.Goals as goal

pub returns : goal.returns
returns c =
    let x = c.no_numbers.result in
    let y = c.no_numbers-2.result in
    let z = c.no_numbers-3.result in
    let first = c.no_numbers.ensures in
    let second = c.no_numbers-2.ensures in
    let third = c.no_numbers-3.ensures in
    let asked : CounterRow → List ℕ = λ r. r.asked in
    let done : CounterRow → List ℕ = λ r. r.done in
    counts-are c.args.nodes c.args.nodes 0 0 (x ∷ y ∷ z ∷ []) _ _ refl refl
    (number-none asked 64 0 x y z (ap asked first) (ap asked second) (ap asked third))
    (number-none done 64 0 x y z (ap done first) (ap done second) (ap done third))
