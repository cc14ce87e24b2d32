-- Which messages are of a transaction, and which node sent one. Private code alone cites these definitions.
use Rattle.std.specs.Prelude.{Bool, true, false}
use Rattle.tv_base.specs.declared.numbers.NodeNo.{NodeNo}
use Rattle.letter_types.specs.declared.bodies.Body.{Body}
use Rattle.letter_types.specs.declared.bodies.Body.TheVariants.{Root, Sub as SubLetter, Done, Decide, Decided, Release, Wake}
use Rattle.letter_types.specs.declared.entries.Letter.{Letter}

-- the node that sent a message, if a node sent it
abbrev pub from_node : Letter → NodeNo
from_node l = record { 0 = l.from.0 }

-- a message asks for a subtransaction, tells of one, decides on a transaction or frees its locks, or calls a deferred
-- message
abbrev pub is_of_tree : Body → Bool
is_of_tree (Root t) = true
is_of_tree (SubLetter t k v) = true
is_of_tree (Done t k v notice) = true
is_of_tree (Decide t v commit) = true
is_of_tree (Decided t v) = true
is_of_tree (Release t) = true
is_of_tree (Wake t k) = true
is_of_tree _ = false
