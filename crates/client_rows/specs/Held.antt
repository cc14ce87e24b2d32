-- A client's fields, as what it keeps.
use Rattle.client_rows.specs.Kept.{Kept}
use Rattle.client_rows.specs.declared.client.Client.TheInside.{Inside}

abbrev pub kept_here : Inside → Kept
kept_here c = record {
  client = record { next = c.at.next; answered = c.answered.items; ended = c.ended; finished = c.finished };
  sent = c.at.sent;
  unanswered = c.at.unanswered;
  asked = c.at.asked;
}
