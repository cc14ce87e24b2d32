use Rattle.std.proofs.Common.{arith}
use Rattle.script_reader.proofs.ShortNumbers.{bounded, small}
use Rattle.script_reader.proofs.numbers.short_number.Goals as goal

pub overflow_mul-value : goal.overflow_mul-value
overflow_mul-value c = omega (arith, bounded c.loop-b.value c.loop-b.b-index c.loop-b.invariant.small (omega (arith, c.requires)))

pub overflow_add-value : goal.overflow_add-value
overflow_add-value c = omega (arith, c.saturating_sub.ensures, bounded c.loop-b.value c.loop-b.b-index c.loop-b.invariant.small (omega (arith, c.requires)))

pub returns-clause-small : goal.returns-clause-small
returns-clause-small c = small c.loop-b.value c.loop-b.b-index c.loop-b.invariant.small (omega (arith, c.requires, c.loop-b.auto.b-index-end))
