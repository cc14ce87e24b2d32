-- How the client changes in a step that is prepared.
use Rattle.std.specs.Prelude.{◌≡◌, ◌-◌, ◌||◌, List, length}
use Rattle.tx_trees.specs.ScriptData.{ScriptData}
use Rattle.letter_types.specs.declared.acts.Act.{Act}
use Rattle.letter_types.specs.declared.entries.Outgoing.{Outgoing}
use Rattle.letter_types.specs.declared.entries.StepOut.{StepOut}
use Rattle.letter_types.specs.Steps.{Out, made}
use Rattle.world_model.specs.Client.{Client, with_places}
use Rattle.client_rows.specs.Kept.{Kept, IsKeptOf}
use Rattle.client_rows.specs.News.{answered_after, ended_after}
use Rattle.client_rows.specs.declared.change.ClientChange.{ClientChange}
use Rattle.client_rows.specs.declared.change.ClientChange.TheVariants.{Still, Submit}

-- a step of the client: how it changes, and what goes out
pub record ClientStep : Type 0 where
  pub change : ClientChange
  pub out : StepOut

abbrev pub client_step : ClientChange → List Outgoing → List Act → ClientStep
client_step change sent acts = record { change = change; out = record { sent = sent; acts = acts } }

-- the client after a step
abbrev pub after_client_change : ClientChange → Kept → Kept
after_client_change Still k = k
after_client_change (Submit news at finishes) k = record {
  client = record {
    next = at.next;
    answered = answered_after news k.client.answered;
    ended = ended_after news k.client.ended;
    finished = k.client.finished || finishes;
  };
  sent = at.sent;
  unanswered = at.unanswered;
  asked = at.asked;
}

-- the client's answers are filled up to the script's number of transactions: those that came aren't answered
abbrev pub with_all_places : ScriptData → Kept → Kept
with_all_places s k = record k { client = with_places (length s.trees - length k.client.answered) k.client }

-- a step that is prepared is this row of the client, which stays this script's
pub record IsClientStepOf (s : ScriptData) (o : Out Client) (k : Kept) (p : ClientStep) : Type 0 where
  pub row : made (after_client_change p.change k).client p.out ≡ o
  pub still_kept : IsKeptOf s (after_client_change p.change k)
