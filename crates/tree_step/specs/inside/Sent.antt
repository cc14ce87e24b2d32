-- How many messages a step sends at most. Private code alone cites this definition.
use Rattle.std.specs.Prelude.{ℕ}

-- the most messages of a step: a Sub to each other subtransaction of a tree, and a Done or a Reply
abbrev pub MOST_SENT : ℕ
MOST_SENT = 65
