-- What holds of the runs of valid scripts: laws over runs are said so.
use Rattle.std.specs.Prelude.{ℕ, Bool, true, false, ◌≡◌, ◌<◌, List, [], ◌++◌, length, reverse, Some, ◌∷◌}
use Rattle.letter_types.specs.declared.bodies.Body.{Body}
use Rattle.letter_types.specs.declared.entries.Entry.{Entry}
use Rattle.letter_types.specs.declared.entries.Letter.{Letter}
use Rattle.letter_types.specs.declared.entries.Outgoing.{Outgoing}
use Rattle.script_parts.specs.Counts.{has_strict, is_lossy}
use Rattle.script_parts.specs.ScriptData.{ScriptData, sub_at, subs_at, visits}
use Rattle.script_parts.specs.Valid.{IsValid}
use Rattle.script_parts.specs.declared.parts.Sub.{Sub}
use Rattle.world_model.specs.Counts.{Each}
use Rattle.world_model.specs.Runs.{IsStepRun, in_flight}

-- of each run, with its newest entry first; and of its history
abbrev pub OfEachRun : (ScriptData → List Entry → Type 0) → Type 0
OfEachRun P = (s : ScriptData) (past : List Entry) → IsValid s → IsStepRun s past → P s past

abbrev pub OfEachHistory : (ScriptData → List Entry → Type 0) → Type 0
OfEachHistory P = (s : ScriptData) (past : List Entry) → IsValid s → IsStepRun s past → P s (reverse past)

-- of each run that has no message in flight any more
abbrev pub OfEachEnd : (ScriptData → List Entry → Type 0) → Type 0
OfEachEnd P =
    (s : ScriptData) (past : List Entry) → IsValid s → IsStepRun s past → in_flight s past ≡ [] → P s past

-- of each run, and of it with the entries that came later
abbrev pub OfEachLaterRun : (ScriptData → List Entry → List Entry → Type 0) → Type 0
OfEachLaterRun P = (s : ScriptData) (past later : List Entry) → IsValid s → IsStepRun s (later ++ past)
    → P s past (later ++ past)

-- of each run whose coordinator forgets nothing; and of those of them that have no strict transaction
abbrev pub OfEachLosslessRun : (ScriptData → List Entry → Type 0) → Type 0
OfEachLosslessRun P =
    (s : ScriptData) (past : List Entry) → IsValid s → is_lossy s ≡ false → IsStepRun s past → P s past

abbrev pub OfEachSimpleRun : (ScriptData → List Entry → Type 0) → Type 0
OfEachSimpleRun P = (s : ScriptData) (past : List Entry) → IsValid s → is_lossy s ≡ false → has_strict s ≡ false
    → IsStepRun s past → P s past

-- of each step of a run, by the entries before it; and of those of runs whose coordinator forgets nothing
abbrev pub OfEachStep : (ScriptData → List Entry → Entry → Type 0) → Type 0
OfEachStep P = (s : ScriptData) (past : List Entry) (e : Entry) → IsValid s → IsStepRun s (e ∷ past) → P s past e

abbrev pub OfEachLosslessStep : (ScriptData → List Entry → Entry → Type 0) → Type 0
OfEachLosslessStep P = (s : ScriptData) (past : List Entry) (e : Entry) → IsValid s → is_lossy s ≡ false
    → IsStepRun s (e ∷ past) → P s past e

-- of each transaction in each run; of each subtransaction; and of each node that a transaction visits, with a commit or
-- an abort
abbrev pub OfEachTree : (ScriptData → List Entry → ℕ → Type 0) → Type 0
OfEachTree P =
    (s : ScriptData) (past : List Entry) (t : ℕ) → IsValid s → IsStepRun s past → t < length s.trees → P s past t

abbrev pub OfEachSub : (ScriptData → List Entry → ℕ → ℕ → Type 0) → Type 0
OfEachSub P = (s : ScriptData) (past : List Entry) (t k : ℕ) (x : Sub) → IsValid s → IsStepRun s past
    → sub_at s t k ≡ Some x → P s past t k

abbrev pub OfEachVisit : (ScriptData → List Entry → ℕ → ℕ → Bool → Type 0) → Type 0
OfEachVisit P = (s : ScriptData) (past : List Entry) (t q : ℕ) (commit : Bool) → IsValid s → IsStepRun s past
    → t < length s.trees → q < s.nodes → visits (subs_at s t) q ≡ true → P s past t q commit

-- of what each message says that an entry sends, or that is in flight after a run
abbrev pub EachSent : (Body → Type 0) → Entry → Type 0
EachSent P e = Each (λ (o : Outgoing). P o.body) e.sent

abbrev pub EachInFlight : ScriptData → List Entry → (Body → Type 0) → Type 0
EachInFlight s past P = Each (λ (l : Letter). P l.body) (in_flight s past)
