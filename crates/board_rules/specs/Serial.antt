-- The serial order of acts and of a history: the complete update transactions and committed strict transactions by
-- version, and within a version by their last closing act.
use Rattle.std.specs.Prelude.{if◌then◌else◌, ℕ, zero, suc, Bool, true, false, ◌==◌, ◌&&◌, ◌||◌, List, [], ◌∷◌, ◌++◌, filter, Option, Some, None}
use Rattle.std.specs.List.{list_any}
use Rattle.tv_base.specs.declared.numbers.Version.{Version}
use Rattle.letter_types.specs.declared.acts.Act.{Act}
use Rattle.letter_types.specs.declared.acts.Act.TheVariants.{Did, Decided}
use Rattle.letter_types.specs.declared.entries.Entry.{Entry}
use Rattle.script_parts.specs.ScriptData.{ScriptData, updates}
use Rattle.board_rules.specs.Histories.{Place, is_strict_tree, is_whole_in, places_of, version_in, was_decided_as}

-- the transaction that the act may close: a Did is one of an update transaction, and a decision to commit one of a
-- strict transaction
abbrev pub commits_by : ScriptData → Act → Option ℕ
commits_by s (Did t k values) = if updates s t.0 then Some t.0 else None
commits_by s (Decided t commit) = if is_strict_tree s t.0 && commit then Some t.0 else None
commits_by s _ = None

-- the number is in the list
abbrev pub is_in : ℕ → List ℕ → Bool
is_in t ts = list_any (λ (u : ℕ). u == t) ts

-- a transaction before those that were closed later, unless it is one of them
abbrev pub with_closed : Option ℕ → List ℕ → List ℕ
with_closed None ts = ts
with_closed (Some t) ts = if is_in t ts then ts else t ∷ ts

-- the transactions in order of their last closing act
abbrev pub commit_order : ScriptData → List Place → List ℕ
commit_order s [] = []
commit_order s (x ∷ xs) = with_closed (commits_by s x.act) (commit_order s xs)

-- the version is this one
abbrev pub is_version : ℕ → Option Version → Bool
is_version v None = false
is_version v (Some w) = w.0 == v

-- transaction t is a complete update transaction, or a strict transaction that was decided to commit, after these acts
abbrev pub is_settled_in : ScriptData → List Place → ℕ → Bool
is_settled_in s xs t = (updates s t && is_whole_in s xs t) || (is_strict_tree s t && was_decided_as t true xs)

-- transaction t is such a transaction of version v
abbrev pub is_member_in : ScriptData → List Place → ℕ → ℕ → Bool
is_member_in s xs v t = is_version v (version_in t xs) && is_settled_in s xs t

-- those of version v, in serial order
abbrev pub members_in : ScriptData → List Place → ℕ → List ℕ
members_in s xs v = filter (is_member_in s xs v) (commit_order s xs)

-- those of version at most v, in serial order
abbrev pub serial_in : ScriptData → List Place → ℕ → List ℕ
serial_in s xs zero = members_in s xs zero
serial_in s xs (suc v) = serial_in s xs v ++ members_in s xs (suc v)

-- the same of a history
abbrev pub takes_effect : ScriptData → List Entry → ℕ → Bool
takes_effect s h t = is_settled_in s (places_of h) t

abbrev pub is_member : ScriptData → List Entry → ℕ → ℕ → Bool
is_member s h v t = is_member_in s (places_of h) v t

abbrev pub members : ScriptData → List Entry → ℕ → List ℕ
members s h v = members_in s (places_of h) v

abbrev pub serial_to : ScriptData → List Entry → ℕ → List ℕ
serial_to s h v = serial_in s (places_of h) v
