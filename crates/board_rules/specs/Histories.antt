-- What the acts of a history say of transactions.
use Rattle.std.specs.Prelude.{if◌then◌else◌, ℕ, zero, suc, Bool, true, false, ◌==◌, ◌&&◌, List, [], ◌∷◌, ◌++◌, length, map, not, Option, Some, None, IsTrue, is_some, slice_get, ◌<◌}
use Rattle.std.specs.List.{list_any}
use Rattle.std.specs.Option.{option_or}
use Rattle.tv_base.specs.declared.numbers.Version.{Version}
use Rattle.letter_types.specs.declared.acts.Act.{Act}
use Rattle.letter_types.specs.declared.acts.Act.TheVariants.{Born, Did, Decided, Applied}
use Rattle.letter_types.specs.declared.entries.Entry.{Entry}
use Rattle.script_parts.specs.ScriptData.{ScriptData, is_strict, subs_at}
use Rattle.script_parts.specs.declared.parts.Sub.{Sub}

-- an act, and its entry's actor
pub record Place : Type 0 where
  pub node : ℕ
  pub act : Act

-- an act of actor p; and acts of it, in order
abbrev pub act_at : ℕ → Act → Place
act_at p act = record { node = p; act = act }

abbrev pub acts_at : ℕ → List Act → List Place
acts_at p acts = map (λ (a : Act). record { node = p; act = a }) acts

-- the acts of an entry, in order
abbrev pub places_at : Entry → List Place
places_at e = acts_at e.actor.0 e.acts

-- the acts of a history, in order of entries and then of acts
abbrev pub places_of : List Entry → List Place
places_of [] = []
places_of (e ∷ es) = places_at e ++ places_of es

-- the version with which the act bears transaction t
abbrev pub born_as : ℕ → Act → Option Version
born_as t (Born u v) = if u.0 == t then Some v else None
born_as t _ = None

-- the version with which transaction t was first born
abbrev pub version_in : ℕ → List Place → Option Version
version_in t [] = None
version_in t (x ∷ xs) = option_or (born_as t x.act) (version_in t xs)

-- the number of a version, or n if there is none
abbrev pub version_or : ℕ → Option Version → ℕ
version_or n None = n
version_or n (Some v) = v.0

-- the version of transaction t in a history; an unborn transaction has none
abbrev pub version_of : List Entry → ℕ → Option Version
version_of h t = version_in t (places_of h)

-- the act is a Did of subtransaction k of transaction t
abbrev pub does : ℕ → ℕ → Act → Bool
does t k (Did u j values) = (u.0 == t) && (j.0 == k)
does t k _ = false

-- subtransaction k of transaction t was done
abbrev pub was_done : ℕ → ℕ → List Place → Bool
was_done t k xs = list_any (λ (x : Place). does t k x.act) xs

-- each of the first n subtransactions of transaction t was done
abbrev pub all_done : ℕ → ℕ → List Place → Bool
all_done t zero xs = true
all_done t (suc n) xs = all_done t n xs && was_done t n xs

-- the act decides transaction t so, and one of these acts does
abbrev pub decides_as : ℕ → Bool → Act → Bool
decides_as t commit (Decided u c) = (u.0 == t) && (if commit then c else not c)
decides_as t commit _ = false

abbrev pub was_decided_as : ℕ → Bool → List Place → Bool
was_decided_as t commit xs = list_any (λ (x : Place). decides_as t commit x.act) xs

-- the act is an Applied of transaction t
abbrev pub applies : ℕ → Act → Bool
applies t (Applied u commit) = u.0 == t
applies t _ = false

-- what was decided of transaction t was applied at node p
abbrev pub was_applied : ℕ → ℕ → List Place → Bool
was_applied t p xs = list_any (λ (x : Place). (x.node == p) && applies t x.act) xs

-- the same at each node that these subtransactions of transaction t visit
abbrev pub all_applied : ℕ → List Sub → List Place → Bool
all_applied t [] xs = true
all_applied t (k ∷ ks) xs = was_applied t k.node.0 xs && all_applied t ks xs

-- transaction t is there, and is a strict transaction
abbrev pub is_strict_tree : ScriptData → ℕ → Bool
is_strict_tree s t = elim (slice_get s.trees t) [ Some tree ↦ is_strict tree.kind | None ↦ false ]

-- all that is to come of transaction t has come: each of its subtransactions was done; what was decided of a strict
-- transaction was applied at each node that it visits
abbrev pub is_complete : ScriptData → List Place → ℕ → Bool
is_complete s xs t = if is_strict_tree s t then all_applied t (subs_at s t) xs else all_done t (length (subs_at s t)) xs

-- transaction t is born in these acts
abbrev pub was_born : List Place → ℕ → Bool
was_born xs t = is_some (version_in t xs)

-- transaction t is complete after these acts: it is born, and all that is to come of it has come
abbrev pub is_whole_in : ScriptData → List Place → ℕ → Bool
is_whole_in s xs t = was_born xs t && is_complete s xs t

-- each transaction of the script is complete after these acts
abbrev pub AreAllWhole : ScriptData → List Place → Type 0
AreAllWhole s xs = (t : ℕ) → t < length s.trees → IsTrue (is_whole_in s xs t)

-- transaction t is complete in a history
abbrev pub is_whole : ScriptData → List Entry → ℕ → Bool
is_whole s h t = is_whole_in s (places_of h) t

abbrev pub IsWhole : ScriptData → List Entry → ℕ → Type 0
IsWhole s h t = IsTrue (is_whole s h t)
