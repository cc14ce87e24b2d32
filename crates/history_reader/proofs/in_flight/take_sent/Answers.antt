use Rattle.std.proofs.Common.{◌-◌, arith}
use Rattle.history_reader.proofs.Spent.{sender_spent}
use Rattle.history_reader.proofs.in_flight.take_sent.Goals as goal

pub returns-clause-left : goal.returns-clause-left
returns-clause-left c = λ some.
    sender_spent (c.args.id.stamp.0 - 1) c.args.id.place c.args.senders.now.items c.index_mut-sender.result.now c.take.new.self
    (omega (arith, c.if-len-number.false, c.len.ensures)) c.index_mut-sender.ensures.value c.take.ensures.from (c.take.ensures.left some)
