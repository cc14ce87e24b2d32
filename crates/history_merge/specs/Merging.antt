-- How the histories of actors are merged into one, by the stamps of a log.
use Rattle.std.specs.Prelude.{◌≡◌, ◌+◌, ◌<◌, ◌≤◌, ℕ, List, [], ◌∷◌, length, map, slice_get, vec_capacity, Some}
use Rattle.std.specs.Global.{Vec}
use Rattle.letter_types.specs.declared.entries.Entry.{Entry}
use Rattle.letter_types.specs.declared.entries.Posting.{Posting}
use Rattle.letter_types.specs.Letters.{own}
use Rattle.letter_types.specs.Postal.{delivery_of}
use Rattle.tx_trees.specs.ScriptData.{ScriptData}
use Rattle.stamp_post.specs.declared.rule.JoinedSeat.{JoinedSeat}
use Rattle.stamp_post.specs.Logs.{own_postings}
use Rattle.stamp_post.specs.Shown.{joined_seat}
use Rattle.world_model.specs.Runs.{IsRunOf}
use Rattle.world_model.specs.Tables.{actor_row, start_actor}

-- what is gathered of actors with these entries, the numbers going on from n
abbrev pub joined_from : ℕ → List (List Entry) → List JoinedSeat
joined_from n [] = []
joined_from n (es ∷ rows) = joined_seat n (map delivery_of es) ∷ joined_from (n + 1) rows

-- each actor's entries are a run of its table
abbrev pub AllRun : ScriptData → List (List Entry) → Type 0
AllRun s rows = (a : ℕ) (es : List Entry) → slice_get rows a ≡ Some es → IsRunOf (actor_row s a) (start_actor s a) es

-- the log has its postings by stamp, from 1 on, and each actor's entries are its own postings there
pub record IsLogOf (log : List Posting) (rows : List (List Entry)) : Type 0 where
  pub stamps : (k : ℕ) (p : Posting) → slice_get log k ≡ Some p → p.stamp.0 ≡ k + 1
  pub own : (a : ℕ) (es : List Entry) → slice_get rows a ≡ Some es → map delivery_of es ≡ own_postings a log

-- the log is one of these entries, it has that many postings, and each is one of these actors'
pub record IsWholeLog (count : ℕ) (log : List Posting) (rows : List (List Entry)) : Type 0 where
  pub log_of : IsLogOf log rows
  pub long : length log ≡ count
  pub known : (k : ℕ) (p : Posting) → slice_get log k ≡ Some p → p.actor.0 < length rows

-- the history has the postings of the log, and each actor's entries, in order
pub record IsMerged (log : List Posting) (rows : List (List Entry)) (h : List Entry) : Type 0 where
  pub postings : map delivery_of h ≡ log
  pub own : (a : ℕ) (es : List Entry) → slice_get rows a ≡ Some es → own a h ≡ es

-- an empty list with room for that many items
abbrev pub HasRoom : {X : Type 0} → ℕ → Vec X → Type 0
HasRoom count room = (room.items ≡ []) × (count ≤ vec_capacity room)

-- what these have as their numbers goes on from n
abbrev pub NumberedBy : {X : Type 0} → (X → ℕ) → ℕ → List X → Type 0
NumberedBy f n [] = Unit {0}
NumberedBy f n (x ∷ xs) = (f x ≡ n) × NumberedBy f (n + 1) xs
