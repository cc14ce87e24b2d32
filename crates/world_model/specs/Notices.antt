-- What a notice says: the act of its subtransaction, and its values. A notice at its transaction's home, and the answer
-- to the client once no notice is missing.
use Rattle.std.specs.Prelude.{if◌then◌else◌, ℕ, List, [], ◌∷◌, Option, Some, None}
use Rattle.tv_base.specs.declared.numbers.TreeNo.{TreeNo}
use Rattle.tv_base.specs.declared.numbers.SubNo.{SubNo}
use Rattle.tree_home.specs.Homes.{Gets, OpenTrees, misses, after_notice, answer_in}
use Rattle.tree_home.specs.declared.homes.Answered.{Answered}
use Rattle.letter_types.specs.declared.acts.Act.{Act}
use Rattle.letter_types.specs.declared.acts.Act.TheVariants as acts
use Rattle.letter_types.specs.declared.bodies.Body.TheVariants.{Reply}
use Rattle.letter_types.specs.declared.bodies.Notice.{Notice}
use Rattle.letter_types.specs.declared.bodies.Notice.TheVariants.{Did, Yes, No}
use Rattle.letter_types.specs.declared.votes.Vote.TheVariants as votes
use Rattle.letter_types.specs.declared.bodies.Answer.TheVariants.{Whole}
use Rattle.letter_types.specs.declared.entries.Outgoing.{Outgoing}

-- the act of subtransaction k of transaction t, of which its home is told this: it is done, or has voted
abbrev pub act_of : TreeNo → SubNo → Notice → Act
act_of t k (Did values) = acts.Did t k values
act_of t k (Yes values) = acts.Voted t k (votes.Yes values)
act_of t k (No cause) = acts.Voted t k (votes.No cause)

-- the values that a notice brings
abbrev pub values_of : Notice → Gets
values_of (Did values) = values
values_of (Yes values) = values
values_of (No cause) = []

-- the open transactions after a notice: one that isn't missing changes nothing
abbrev pub homes_noted : TreeNo → SubNo → Gets → OpenTrees → OpenTrees
homes_noted t k values hs = if misses t k hs then after_notice t k values hs (answer_in t k values hs) else hs

-- the answer of the transaction, if this notice was the last that it missed
abbrev pub answer_noted : TreeNo → SubNo → Gets → OpenTrees → Option Answered
answer_noted t k values hs = if misses t k hs then answer_in t k values hs else None

-- the answer to the client
abbrev pub reply_letters : ℕ → Option Answered → List Outgoing
reply_letters client None = []
reply_letters client (Some a) =
    record { to = record { 0 = client }; body = Reply a.tree a.version (Whole a.values) } ∷ []
