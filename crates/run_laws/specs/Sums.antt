-- How votes, decisions and their applications go together, which versions messages carry, and how small counts are.
use Rattle.std.specs.Prelude.{ℕ, Bool, true, false, ◌≡◌, ◌+◌, ◌*◌, ◌<◌, ◌≤◌, List, length, reverse}
use Rattle.letter_types.specs.declared.entries.Entry.{Entry}
use Rattle.letter_types.specs.declared.entries.Letter.{Letter}
use Rattle.pair_counters.specs.Numbers.{AllBelow}
use Rattle.script_parts.specs.ScriptData.{ScriptData}
use Rattle.world_model.specs.Counts.{Each}
use Rattle.world_model.specs.Kept.{outstanding}
use Rattle.world_model.specs.Runs.{node_in}
use Rattle.board_rules.specs.Histories.{places_of}
use Rattle.advance_laws.specs.Balance.{MOST_COUNTED}
use Rattle.tree_laws.specs.Applied.{applied_at, decided_as, decisions_to, noes}
use Rattle.tree_laws.specs.Carried.{CarriesVersion}

-- a commit or an abort of transaction t was applied at node q as often as it was decided, but for decisions that are on
-- their way
abbrev pub IsAppliedAsDecided : ScriptData → List Entry → ℕ → ℕ → Bool → Type 0
IsAppliedAsDecided s past t q commit =
    applied_at past t commit q + decisions_to s past t commit q ≡ decided_as past t commit

-- transaction t commits only if nobody voted no, and aborts only if somebody did
abbrev pub IsDecidedByVotes : ScriptData → List Entry → ℕ → Type 0
IsDecidedByVotes s past t =
    (1 ≤ decided_as past t true → noes past t ≡ 0) × (1 ≤ decided_as past t false → 1 ≤ noes past t)

-- messages that have still to be done carry the versions of their transactions
abbrev pub CarryTheirVersions : ScriptData → List Entry → Type 0
CarryTheirVersions s past = Each (λ (l : Letter). CarriesVersion (places_of (reverse past)) l.body) (outstanding s past)

-- each number that a node counts is small, by how many entries there are
abbrev pub HasSmallCounts : ScriptData → List Entry → Type 0
HasSmallCounts s past = (p : ℕ) → p < s.nodes → AllBelow (MOST_COUNTED * length past + 1) (node_in s past p).counts
