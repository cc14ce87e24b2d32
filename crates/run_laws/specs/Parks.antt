-- How often messages are deferred, and how often the roots of strict transactions wait, in every run.
use Rattle.std.specs.Prelude.{ℕ, ◌==◌, ◌&&◌, ◌+◌, ◌<◌, ◌≤◌, List, [], ◌∷◌, length}
use Rattle.letter_types.specs.declared.acts.Act.{Act}
use Rattle.letter_types.specs.declared.acts.Act.TheVariants.{Parked, Waits}
use Rattle.letter_types.specs.declared.entries.Entry.{Entry}
use Rattle.letter_types.specs.declared.kept.KeptLetter.{KeptLetter}
use Rattle.letter_types.specs.declared.kept.KeepReason.{KeepReason}
use Rattle.letter_types.specs.declared.kept.KeepReason.TheVariants.{Called, ForHolder, ForShow}
use Rattle.tx_trees.specs.ScriptData.{ScriptData, home_of}
use Rattle.tx_trees.specs.Valid.{IsValid}
use Rattle.world_model.specs.Counts.{one_if, tally}
use Rattle.world_model.specs.Kept.{kept_in}
use Rattle.world_model.specs.Runs.{IsStepRun, node_in}

-- subtransaction k of transaction t is deferred for transaction h
abbrev pub parks_for : ℕ → ℕ → ℕ → Act → ℕ
parks_for t k h (Parked u j item g) = one_if ((u.0 == t) && ((j.0 == k) && (g.0 == h)))
parks_for t k h _ = 0

-- how often it was
abbrev pub parks : List Entry → ℕ → ℕ → ℕ → ℕ
parks [] t k h = 0
parks (e ∷ past) t k h = tally (parks_for t k h) e.acts + parks past t k h

-- the root of transaction t waits for a Show
abbrev pub waits_for : ℕ → Act → ℕ
waits_for t (Waits u v w) = one_if (u.0 == t)
waits_for t _ = 0

-- how often it did
abbrev pub waitings : List Entry → ℕ → ℕ
waitings [] t = 0
waitings (e ∷ past) t = tally (waits_for t) e.acts + waitings past t

-- a message of transaction t that is deferred until a Show comes
abbrev pub shown_as : ℕ → ℕ → KeepReason → ℕ
shown_as t u ForShow = one_if (u == t)
shown_as t u (ForHolder g) = 0
shown_as t u Called = 0

abbrev pub is_kept_for_show : ℕ → KeptLetter → ℕ
is_kept_for_show t x = shown_as t x.tree.0 x.why

-- no subtransaction is deferred twice for one transaction
abbrev pub LettersParkOnce : Type 0
LettersParkOnce = (s : ScriptData) (past : List Entry) (t k h : ℕ) → IsValid s → IsStepRun s past → parks past t k h ≤ 1

-- the root of a strict transaction waits at most once for each version that was shown at its home, and once more while
-- it is deferred
abbrev pub StrictRootsWaitFewTimes : Type 0
StrictRootsWaitFewTimes = (s : ScriptData) (past : List Entry) (t : ℕ) → IsValid s → IsStepRun s past → t < length s.trees
    → waitings past t ≤ (node_in s past (home_of s t)).turns.read.0 + tally (is_kept_for_show t) (kept_in s past (home_of s t))
