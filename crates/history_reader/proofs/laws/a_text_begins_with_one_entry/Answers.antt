use Rattle.history_reader.proofs.OneEntry.{one_entry}
use Rattle.history_reader.proofs.laws.a_text_begins_with_one_entry.Goals as goal

pub returns : goal.returns
returns c = λ s text valid e f rest more. one_entry s text e f rest more valid
