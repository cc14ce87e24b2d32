-- Wakes in flight, and the deferred messages that they call.
use Rattle.std.specs.Prelude.{if◌then◌else◌, ℕ, ◌==◌, ◌<◌, ◌≡◌, List, Some, IsSome}
use Rattle.tv_base.specs.declared.numbers.SubNo.{SubNo}
use Rattle.tv_base.specs.declared.numbers.TreeNo.{TreeNo}
use Rattle.letter_types.specs.Kept.{first_called}
use Rattle.letter_types.specs.Letters.{find_id}
use Rattle.letter_types.specs.declared.bodies.Body.TheVariants.{Wake}
use Rattle.letter_types.specs.declared.entries.Entry.{Entry}
use Rattle.letter_types.specs.declared.entries.Letter.{Letter}
use Rattle.script_parts.specs.ScriptData.{ScriptData}
use Rattle.script_parts.specs.Valid.{IsValid}
use Rattle.world_model.specs.AllApt.{AllApt}
use Rattle.world_model.specs.Calls.{calls, is_wake_of}
use Rattle.world_model.specs.Counts.{tally}
use Rattle.world_model.specs.Kept.{kept_in}
use Rattle.world_model.specs.Runs.{IsStepRun, in_flight}

-- 1 for a Wake of subtransaction k of transaction t that goes to node p, 0 for any other message
abbrev pub is_wake_at : TreeNo → SubNo → ℕ → Letter → ℕ
is_wake_at t k p l = if l.to.0 == p then is_wake_of t k l.body else 0

-- in every run of enabled messages, of each subtransaction as many Wakes are in flight to a node as messages are called
-- there
abbrev pub WakesFindLetters : Type 0
WakesFindLetters = (s : ScriptData) (past : List Entry) (p : ℕ) (t : TreeNo) (k : SubNo) → IsValid s → AllApt s past → IsStepRun s past
    → p < s.nodes → tally (is_wake_at t k p) (in_flight s past) ≡ calls t k (kept_in s past p)

-- so a Wake in flight finds a message to bring
abbrev pub WakesBringLetters : Type 0
WakesBringLetters = (s : ScriptData) (past : List Entry) (l : Letter) (p : ℕ) (t : TreeNo) (k : SubNo) → IsValid s → AllApt s past
    → IsStepRun s past → p < s.nodes → find_id l.id (in_flight s past) ≡ Some l → l.to.0 ≡ p → l.body ≡ Wake t k
    → IsSome (first_called t k (kept_in s past p))
