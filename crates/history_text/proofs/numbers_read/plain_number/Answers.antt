use Rattle.std.proofs.Common.{arith}
use Rattle.history_text.proofs.Readings.{is_plain}
use Rattle.history_text.proofs.numbers_read.plain_number.Goals as goal

pub returns : goal.returns
returns c =
    is_plain c.args.digits.now c.args.most c.number_of.result c.number_of.ensures.value (omega arith) (omega arith) (cc)
