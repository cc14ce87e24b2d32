-- What is taken whole of a text is one history.
use Rattle.std.proofs.Common.{◌≡◌, ℕ, List, []}
use Rattle.letter_types.specs.declared.entries.Entry.{Entry}
use Rattle.tx_trees.specs.ScriptData.{ScriptData}
use Rattle.tx_trees.specs.Valid.{IsValid}
use Rattle.history_reader.proofs.Fronts.{one_history}
use Rattle.history_audit.specs.Verdicts.{IsTaken}

pub one_taken : (s : ScriptData) (text : List ℕ) (h g : List Entry) → IsValid s → IsTaken s text h [] → IsTaken s text g []
    → h ≡ g
one_taken s text h g valid a b = one_history s text h g valid a.read b.read
