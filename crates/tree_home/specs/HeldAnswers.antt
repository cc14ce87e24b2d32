-- The answers that a home holds until each node that the tree visited has acknowledged the decision.
use Rattle.std.specs.Prelude.{ℕ, ◌-◌, Bool, false, nat_lt, if◌then◌else◌, Option, Some, None}
use Rattle.tv_base.specs.declared.numbers.TreeNo.{TreeNo}
use Rattle.tree_home.specs.declared.homes.Answered.{Answered}
use Rattle.tree_home.specs.declared.homes.Held.{Held}
use Rattle.tree_home.specs.Homes.{HomesData}
use Rattle.tree_home.specs.Maps.{by_tree, put_at}

-- the answers that are held here, by the trees' numbers
abbrev pub HeldAnswers : Type 0
HeldAnswers = ℕ → Option Held

-- the answers that a home holds
abbrev pub held_answers : HomesData → HeldAnswers
held_answers h = by_tree h.held

-- what is held of a tree
abbrev pub held_in : TreeNo → HeldAnswers → Option Held
held_in t hs = hs t.0

-- an answer of which so many acknowledgements are missing
abbrev pub held_for : ℕ → Answered → Held
held_for n a = record { answered = a; waits = n }

-- the answers with one more
abbrev pub holding : Answered → ℕ → HeldAnswers → HeldAnswers
holding a n hs = put_at a.tree.0 (Some (held_for n a)) hs

-- more than one acknowledgement is missing
abbrev pub waits_for_more : Option Held → Bool
waits_for_more None = false
waits_for_more (Some h) = nat_lt 1 h.waits

-- after an acknowledgement one fewer is missing, and after the last nothing is held
abbrev pub acked_of : Option Held → Option Held
acked_of None = None
acked_of (Some h) = if nat_lt 1 h.waits then Some (held_for (h.waits - 1) h.answered) else None

-- the answers after an acknowledgement of a tree
abbrev pub acked : TreeNo → HeldAnswers → HeldAnswers
acked t hs = put_at t.0 (acked_of (held_in t hs)) hs

-- what is held is answered with the last acknowledgement
abbrev pub last_answer : Option Held → Option Answered
last_answer None = None
last_answer (Some h) = if nat_lt 1 h.waits then None else Some h.answered

-- the answer that an acknowledgement of a tree sets free
abbrev pub answer_when_acked : TreeNo → HeldAnswers → Option Answered
answer_when_acked t hs = last_answer (held_in t hs)
