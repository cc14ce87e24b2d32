-- The versions that messages of transactions carry, in runs of every script.
use Rattle.std.specs.Prelude.{ℕ, ◌≡◌, ◌<◌, List, reverse, Some}
use Rattle.letter_types.specs.declared.bodies.Body.{Body}
use Rattle.letter_types.specs.declared.bodies.Body.TheVariants.{Sub as SubLetter, Done, Decide, Decided}
use Rattle.letter_types.specs.declared.entries.Entry.{Entry}
use Rattle.letter_types.specs.declared.entries.Letter.{Letter}
use Rattle.tree_home.specs.Homes.{home_in}
use Rattle.tree_home.specs.declared.homes.OpenTree.{OpenTree}
use Rattle.tx_trees.specs.ScriptData.{ScriptData}
use Rattle.tx_trees.specs.Valid.{IsValid}
use Rattle.tv_base.specs.declared.numbers.TreeNo.{TreeNo}
use Rattle.board_rules.specs.Histories.{Place, places_of, version_in}
use Rattle.world_model.specs.AllApt.{AllApt}
use Rattle.world_model.specs.Counts.{Each}
use Rattle.world_model.specs.Kept.{outstanding}
use Rattle.world_model.specs.Runs.{IsStepRun, node_in}

-- a Sub, a notice, a decision and what is told of that are of a transaction that is born, and carry its version
abbrev pub CarriesVersion : List Place → Body → Type 0
CarriesVersion xs (SubLetter t k v) = version_in t.0 xs ≡ Some v
CarriesVersion xs (Done t k v notice) = version_in t.0 xs ≡ Some v
CarriesVersion xs (Decide t v commit) = version_in t.0 xs ≡ Some v
CarriesVersion xs (Decided t v) = version_in t.0 xs ≡ Some v
CarriesVersion xs _ = Unit {0}

-- if each message that came to a node brought an enabled one: each that has still to be done does
abbrev pub LettersCarryVersions : Type 0
LettersCarryVersions = (s : ScriptData) (past : List Entry) → IsValid s → AllApt s past → IsStepRun s past
    → Each (λ (l : Letter). CarriesVersion (places_of (reverse past)) l.body) (outstanding s past)

-- and so does each transaction that is open at a home
abbrev pub OpenTreesCarryVersions : Type 0
OpenTreesCarryVersions = (s : ScriptData) (past : List Entry) (p : ℕ) (t : TreeNo) (h : OpenTree) → IsValid s → AllApt s past
    → IsStepRun s past → p < s.nodes → home_in t (node_in s past p).homes ≡ Some h
    → version_in t.0 (places_of (reverse past)) ≡ Some h.version
