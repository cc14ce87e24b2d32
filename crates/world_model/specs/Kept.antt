-- The messages that nodes defer in a run, the messages that have still to be done, and the message that an entry does.
use Rattle.std.specs.Prelude.{if◌then◌else◌, ℕ, zero, suc, Bool, false, ◌&&◌, nat_lt, List, [], ◌++◌, map, Option, Some, None, is_some}
use Rattle.letter_types.specs.declared.entries.Entry.{Entry}
use Rattle.letter_types.specs.declared.entries.Letter.{Letter}
use Rattle.letter_types.specs.declared.kept.KeptLetter.{KeptLetter}
use Rattle.letter_types.specs.Kept.{brought}
use Rattle.script_parts.specs.ScriptData.{ScriptData}
use Rattle.world_model.specs.Keeping.{KeepingNode, is_apt_at}
use Rattle.world_model.specs.Runs.{in_flight, keeping_in}
use Rattle.world_model.specs.Strict.{core_keeping}

-- the messages that node p defers after a past
abbrev pub kept_in : ScriptData → List Entry → ℕ → List KeptLetter
kept_in s past p = (keeping_in s past p).kept

-- the messages that nodes 0 to n - 1 defer
abbrev pub kept_by : ScriptData → List Entry → ℕ → List Letter
kept_by s past zero = []
kept_by s past (suc n) = kept_by s past n ++ map (λ (x : KeptLetter). x.letter) (kept_in s past n)

-- the messages that have still to be done: those in flight, and those that are deferred
abbrev pub outstanding : ScriptData → List Entry → List Letter
outstanding s past = in_flight s past ++ kept_by s past s.nodes

-- the message that is done if a message comes to a node: the one that it brought, if that is enabled
abbrev pub done_of : ScriptData → ℕ → KeepingNode → Letter → Option Letter → Letter
done_of s p n l None = l
done_of s p n l (Some r) = if is_apt_at s p n r then r else l

-- the message that an entry does, or tries to do
abbrev pub done_by : ScriptData → List Entry → Entry → Letter
done_by s past e =
    if nat_lt e.actor.0 s.nodes
    then done_of s e.actor.0 (keeping_in s past e.actor.0) e.took
    (brought (kept_in s past e.actor.0) e.took e.took.body)
    else e.took

-- an entry defers it
abbrev pub stays_of : ScriptData → ℕ → KeepingNode → Option Letter → Bool
stays_of s p n None = false
stays_of s p n (Some r) = is_apt_at s p n r && is_some (core_keeping s n.core r.body)

abbrev pub keeps_letter : ScriptData → List Entry → Entry → Bool
keeps_letter s past e =
    nat_lt e.actor.0 s.nodes
    && stays_of s e.actor.0 (keeping_in s past e.actor.0)
    (brought (kept_in s past e.actor.0) e.took e.took.body)

-- a number of the message that an entry does: 0 if it defers it
abbrev pub none_if : Bool → ℕ → ℕ
none_if b n = if b then 0 else n

abbrev pub of_done : (Letter → ℕ) → ScriptData → List Entry → Entry → ℕ
of_done f s past e = none_if (keeps_letter s past e) (f (done_by s past e))
