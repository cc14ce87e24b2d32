use Rattle.std.proofs.Common.{Some}
use Rattle.threev_top.proofs.Ends.{ends_as_told, no_cause_status, no_line_status, told_end}
use Rattle.threev_top.proofs.calls.threev.Goals as goal

pub returns-in-Some-clause-ends : goal.returns-in-Some-clause-ends
returns-in-Some-clause-ends g c = (
  Some c.tell_stop-told.result,
  ends_as_told c.make_and_write-stop.ensures c.in-Some.is c.tell_stop-told.ensures.same,
  told_end c.tell_stop-told.result c.status.ensures c.tell_stop-told.ensures.told,
)

pub returns-in-Some-clause-no_line : goal.returns-in-Some-clause-no_line
returns-in-Some-clause-no_line g c = λ none.
    no_line_status (ends_as_told c.make_and_write-stop.ensures c.in-Some.is c.tell_stop-told.ensures.same) c.status.ensures none

pub returns-in-Some-clause-complete : goal.returns-in-Some-clause-complete
returns-in-Some-clause-complete g c = λ free.
    no_cause_status (ends_as_told c.make_and_write-stop.ensures c.in-Some.is c.tell_stop-told.ensures.same) c.status.ensures
    free.is_line free.writes (λ reads. (free.reads reads, free.accepted reads, free.stands reads))
