-- The name of a reason.
use Rattle.std.specs.Prelude.{ℕ, List, codes}
use Rattle.script_parts.specs.declared.why.Why.{Why}
use Rattle.script_parts.specs.declared.why.Why.TheVariants as why

-- the word that is printed for a reason
abbrev pub why_name : Why → List ℕ
why_name why.TooLong = codes "TooLong"
why_name why.UnknownRow = codes "UnknownRow"
why_name why.WrongFields = codes "WrongFields"
why_name why.NodesFirst = codes "NodesFirst"
why_name why.NodesTwice = codes "NodesTwice"
why_name why.BadNumber = codes "BadNumber"
why_name why.OutOfRange = codes "OutOfRange"
why_name why.BadName = codes "BadName"
why_name why.NameTaken = codes "NameTaken"
why_name why.UnknownItem = codes "UnknownItem"
why_name why.NoTree = codes "NoTree"
why_name why.BadParent = codes "BadParent"
why_name why.WrongNode = codes "WrongNode"
why_name why.WrongKind = codes "WrongKind"
why_name why.TooMany = codes "TooMany"
why_name why.TooMuch = codes "TooMuch"
why_name why.ItemTwice = codes "ItemTwice"
why_name why.TooLate = codes "TooLate"
