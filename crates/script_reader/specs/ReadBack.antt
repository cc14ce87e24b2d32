-- What is written of a script is read as the same script.
use Rattle.std.specs.Prelude.{◌≡◌, Result, Ok}
use Rattle.tx_trees.specs.Rebuilt.{SameScript}
use Rattle.tx_trees.specs.ScriptData.{ScriptData}
use Rattle.script_reader.specs.declared.reading.ScriptFault.{ScriptFault}

-- what reading gave is a script that is equal to s
abbrev pub IsReadAs : Result ScriptData ScriptFault → ScriptData → Type 0
IsReadAs read s = (t : ScriptData) × (read ≡ Ok t) × SameScript t s
