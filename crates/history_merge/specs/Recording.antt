-- How the entries of all actors are recorded in one history, by stamp.
use Rattle.std.specs.Prelude.{◌≡◌, ◌+◌, ℕ, zero, suc, List, [], ◌∷◌, ◌++◌, length, map, slice_get, slice_set, Some, ◌⊎◌}
use Rattle.std.specs.Global.{Global, Vec}
use Rattle.std.specs.List.{remove}
use Rattle.std.specs.declared.collections.VecDeque.{VecDeque}
use Rattle.letter_types.specs.declared.entries.Entry.{Entry}
use Rattle.stamp_post.specs.declared.rule.JoinedReceipt.{JoinedReceipt}
use Rattle.tx_trees.specs.ScriptData.{ScriptData}
use Rattle.history_merge.specs.Histories.{entries_by}

-- the actor's table makes this entry of the last of the postings that are told
abbrev pub Vouches : ScriptData → JoinedReceipt → Entry → Type 0
Vouches s r e = (before : List Entry) × (entries_by s r.number r.own ≡ before ++ e ∷ [])

-- the entries have the stamps from 1 on, and for each there is one that vouches
abbrev pub AreRecorded : ScriptData → List JoinedReceipt → List Entry → Type 0
AreRecorded s known es =
    (k : ℕ) (e : Entry) → slice_get es k ≡ Some e
    → (e.stamp.0 ≡ k + 1) × ((j : ℕ) × (r : JoinedReceipt) × (slice_get known j ≡ Some r) × Vouches s r e)

-- the entries that are recorded, and those that wait, in lists as they were handed in
pub record RecorderData : Type 0 where
  pub done : List Entry
  pub waiting : List (List Entry)

abbrev pub recorder_data : List Entry → List (List Entry) → RecorderData
recorder_data done waiting = record { done = done; waiting = waiting }

-- the entries that wait in these queues
abbrev pub waiting_in : Vec (VecDeque Entry Global) → List (List Entry)
waiting_in queues = map (λ q. q.items) queues.items

-- the entries that are recorded, and those that wait in queues
abbrev pub recorder_in : List Entry → Vec (VecDeque Entry Global) → RecorderData
recorder_in done queues = recorder_data done (waiting_in queues)

-- these entries wait too, if there are any, behind the others
abbrev pub handed_in : List Entry → RecorderData → RecorderData
handed_in [] d = d
handed_in (e ∷ made) d = recorder_data d.done (d.waiting ++ (e ∷ made) ∷ [])

-- the lists with this one at a place; an empty one goes
abbrev pub lists_left : List (List Entry) → ℕ → List Entry → List (List Entry)
lists_left lists place [] = remove lists place
lists_left lists place (e ∷ es) = slice_set lists place (e ∷ es)

-- a list before others, unless it is empty
abbrev pub before_if_any : List Entry → List (List Entry) → List (List Entry)
before_if_any [] lists = lists
before_if_any (e ∷ es) lists = (e ∷ es) ∷ lists

-- the lists without the one at a place, if it is empty
abbrev pub without_empty : List (List Entry) → ℕ → List (List Entry)
without_empty [] place = []
without_empty (es ∷ lists) zero = before_if_any es lists
without_empty (es ∷ lists) (suc place) = es ∷ without_empty lists place

-- an entry was taken out of the lists: it was the first of one, and has this stamp
pub record Taken (stamp : ℕ) (old new : List (List Entry)) (e : Entry) : Type 0 where
  pub place : ℕ
  pub left : List Entry
  pub at : slice_get old place ≡ Some (e ∷ left)
  pub lists : new ≡ lists_left old place left
  pub stamp_is : e.stamp.0 ≡ stamp

-- the first entry has this stamp
abbrev pub FirstHas : ℕ → List Entry → Type 0
FirstHas stamp [] = ⊥
FirstHas stamp (e ∷ es) = e.stamp.0 ≡ stamp

-- the list at this place has an entry with this stamp first
abbrev pub IsFirstAt : ℕ → List (List Entry) → ℕ → Type 0
IsFirstAt stamp lists place = (es : List Entry) × (slice_get lists place ≡ Some es) × FirstHas stamp es

-- the first entry of a list, for which this vouches, left it and went to the end of a history
pub record IsMoved (s : ScriptData) (r : JoinedReceipt) (list left old new : List Entry) : Type 0 where
  pub entry : Entry
  pub was : list ≡ entry ∷ left
  pub vouches : Vouches s r entry
  pub done : new ≡ old ++ entry ∷ []

-- no list has an entry with this stamp first
abbrev pub NoneHas : ℕ → List (List Entry) → Type 0
NoneHas stamp lists = (a : ℕ) (es : List Entry) → slice_get lists a ≡ Some es → ¬ FirstHas stamp es

-- the next entry doesn't wait
abbrev pub LacksNext : RecorderData → Type 0
LacksNext r = NoneHas (length r.done + 1) r.waiting

-- the next entry was recorded
abbrev pub RecordsNext : RecorderData → RecorderData → Entry → Type 0
RecordsNext old new e = Taken (length old.done + 1) old.waiting new.waiting e × (new.done ≡ old.done ++ e ∷ [])

-- so one was, for which this vouches
abbrev pub IsRecorded : ScriptData → JoinedReceipt → RecorderData → RecorderData → Type 0
IsRecorded s r old new = (e : Entry) × RecordsNext old new e × Vouches s r e

-- these entries were recorded, one after the other
abbrev pub Records : List Entry → RecorderData → RecorderData → Type 0
Records [] old new = old ≡ new
Records (e ∷ es) old new = (between : RecorderData) × RecordsNext old between e × Records es between new

-- entries were handed in, and then some were recorded
abbrev pub HandsIn : List Entry → RecorderData → RecorderData → Type 0
HandsIn made old new = (es : List Entry) × Records es (handed_in made old) new

-- entries that were made are all handed in; they are left, and the recorder is as it was; and either
abbrev pub AreHandedIn : List Entry → List Entry → RecorderData → RecorderData → Type 0
AreHandedIn made now old new = (now ≡ []) × HandsIn made old new

abbrev pub AreLeft : List Entry → List Entry → RecorderData → RecorderData → Type 0
AreLeft made now old new = (now ≡ made) × (new ≡ old)

abbrev pub AreLeftOrIn : List Entry → List Entry → RecorderData → RecorderData → Type 0
AreLeftOrIn made now old new = AreLeft made now old new ⊎ AreHandedIn made now old new
