use Rattle.threev_top.specs.inside.Calls.{bytes_of}
use Rattle.threev_top.proofs.Ends.{written_ends}
use Rattle.threev_top.proofs.calls.make_and_write.Goals as goal

pub returns-in-Ok : goal.returns-in-Ok
returns-in-Ok g c =
    written_ends (bytes_of c.in-Ok.made.output) c.in-Ok.ensures.made c.made_by_words.ensures.unread
    c.made_by_words.ensures.taken c.write.ensures.wrote c.write.ensures.front c.write.ensures.cause c.write.ensures.history
