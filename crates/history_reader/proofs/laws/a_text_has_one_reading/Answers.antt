use Rattle.history_reader.proofs.OneReading.{one_reading}
use Rattle.history_reader.proofs.laws.a_text_has_one_reading.Goals as goal

pub returns : goal.returns
returns c = λ s text valid a b. one_reading s text a b valid
