-- Decisions on strict transactions and where they are applied, in runs of every script.
use Rattle.std.specs.Prelude.{if◌then◌else◌, ℕ, Bool, true, false, ◌==◌, ◌&&◌, not, ◌+◌, ◌<◌, ◌≤◌, ◌≡◌, List, [], ◌∷◌, length}
use Rattle.letter_types.specs.declared.acts.Act.{Act}
use Rattle.letter_types.specs.declared.acts.Act.TheVariants.{Voted, Decided, Applied, Finished}
use Rattle.letter_types.specs.declared.bodies.Body.{Body}
use Rattle.letter_types.specs.declared.bodies.Body.TheVariants.{Decide, Go}
use Rattle.letter_types.specs.declared.entries.Entry.{Entry}
use Rattle.letter_types.specs.declared.entries.Letter.{Letter}
use Rattle.letter_types.specs.declared.votes.Vote.{Vote}
use Rattle.letter_types.specs.declared.votes.Vote.TheVariants.{Yes, No}
use Rattle.tx_trees.specs.ScriptData.{ScriptData, subs_at, visits}
use Rattle.tx_trees.specs.Valid.{IsValid}
use Rattle.world_model.specs.AllApt.{AllApt}
use Rattle.world_model.specs.Counts.{one_if, tally}
use Rattle.world_model.specs.Runs.{IsStepRun, in_flight}

-- transaction t is decided on, by this truth value
abbrev pub has_decided : ℕ → Bool → Act → ℕ
has_decided t true (Decided u commit) = one_if ((u.0 == t) && commit)
has_decided t false (Decided u commit) = one_if ((u.0 == t) && not commit)
has_decided t b Finished = 0
has_decided t b _ = 0

-- how often it was
abbrev pub decided_as : List Entry → ℕ → Bool → ℕ
decided_as [] t b = 0
decided_as (e ∷ past) t b = tally (has_decided t b) e.acts + decided_as past t b

-- what was decided of transaction t is applied, by this truth value
abbrev pub applies_as : ℕ → Bool → Act → ℕ
applies_as t true (Applied u commit) = one_if ((u.0 == t) && commit)
applies_as t false (Applied u commit) = one_if ((u.0 == t) && not commit)
applies_as t b Finished = 0
applies_as t b _ = 0

-- how often it was at node q
abbrev pub applied_at : List Entry → ℕ → Bool → ℕ → ℕ
applied_at [] t b q = 0
applied_at (e ∷ past) t b q = (if e.actor.0 == q then tally (applies_as t b) e.acts else 0) + applied_at past t b q

-- a message that tells what was decided of transaction t, by this truth value
abbrev pub tells_decision : ℕ → Bool → Body → ℕ
tells_decision t true (Decide u v commit) = one_if ((u.0 == t) && commit)
tells_decision t false (Decide u v commit) = one_if ((u.0 == t) && not commit)
tells_decision t b Go = 0
tells_decision t b _ = 0

-- how many of them are in flight to node q
abbrev pub decisions_to : ScriptData → List Entry → ℕ → Bool → ℕ → ℕ
decisions_to s past t b q = tally (λ (l : Letter). if l.to.0 == q then tells_decision t b l.body else 0) (in_flight s past)

-- a subtransaction of transaction t votes no
abbrev pub refuses : ℕ → Vote → ℕ → ℕ
refuses t (No cause) u = one_if (u == t)
refuses t (Yes values) u = 0

abbrev pub votes_no : ℕ → Act → ℕ
votes_no t (Voted u k vote) = refuses t vote u.0
votes_no t _ = 0

-- how often one did
abbrev pub noes : List Entry → ℕ → ℕ
noes [] t = 0
noes (e ∷ past) t = tally (votes_no t) e.acts + noes past t

-- The laws, if each message that came to a node brought an enabled one.
-- a transaction is decided on at most once
abbrev pub DecidedOnce : Type 0
DecidedOnce = (s : ScriptData) (past : List Entry) (t : ℕ) → IsValid s → AllApt s past → IsStepRun s past
    → t < length s.trees → decided_as past t true + decided_as past t false ≤ 1

-- at each node that it visits the decision was applied, or is on its way there, as often as it was made
abbrev pub AppliedWhereDecided : Type 0
AppliedWhereDecided = (s : ScriptData) (past : List Entry) (t q : ℕ) (b : Bool) → IsValid s → AllApt s past → IsStepRun s past
    → t < length s.trees → q < s.nodes → visits (subs_at s t) q ≡ true
    → applied_at past t b q + decisions_to s past t b q ≡ decided_as past t b

-- a transaction commits if none of its subtransactions voted no, and aborts if one did
abbrev pub DecidedByVotes : Type 0
DecidedByVotes = (s : ScriptData) (past : List Entry) (t : ℕ) → IsValid s → AllApt s past → IsStepRun s past → t < length s.trees
    → (1 ≤ decided_as past t true → noes past t ≡ 0) × (1 ≤ decided_as past t false → 1 ≤ noes past t)
