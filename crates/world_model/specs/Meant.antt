-- What each message that has still to be done says, and between which actors it goes.
use Rattle.std.specs.Prelude.{ℕ, Bool, true, false, ◌<◌, ◌≡◌, ◌⊎◌, List, length}
use Rattle.tv_base.specs.declared.numbers.SubNo.{SubNo}
use Rattle.tv_base.specs.declared.numbers.TreeNo.{TreeNo}
use Rattle.letter_types.specs.declared.bodies.Body.{Body}
use Rattle.letter_types.specs.declared.bodies.Body.TheVariants.{Go, Root, Sub as SubLetter, Done, Reply, Nudge, Advance, Turn, Show, Sweep, Turned, Shown, Swept, AskDone, AskAsked, DoneRow, AskedRow, Advanced, Decide, Decided, Release, Wake, Lose, AdvanceNo, Ask, Numbers, Wanted, Order, Obeyed}
use Rattle.letter_types.specs.declared.bodies.Notice.{Notice}
use Rattle.letter_types.specs.declared.entries.Entry.{Entry}
use Rattle.letter_types.specs.declared.entries.Letter.{Letter}
use Rattle.script_parts.specs.Counts.{has_strict, is_lossy}
use Rattle.script_parts.specs.ScriptData.{ScriptData, client_of, home_of, node_of, subs_at, updates, visits}
use Rattle.script_parts.specs.Valid.{IsValid}
use Rattle.world_model.specs.Counts.{Each}
use Rattle.world_model.specs.Kept.{outstanding}
use Rattle.world_model.specs.Named.{is_strict_at, suits}
use Rattle.world_model.specs.Runs.{IsStepRun}

-- a node of the script that transaction t visits
pub record IsVisited (s : ScriptData) (t : TreeNo) (q : ℕ) : Type 0 where
  pub visits : visits (subs_at s t.0) q ≡ true
  pub below : q < s.nodes

-- a Root goes to its transaction's home
pub record IsMeantRoot (s : ScriptData) (to : ℕ) (t : TreeNo) : Type 0 where
  pub tree : t.0 < length s.trees
  pub home : to ≡ home_of s t.0

-- a Sub goes from a node to that of its subtransaction, which isn't the root
pub record IsMeantSub (s : ScriptData) (from to : ℕ) (t : TreeNo) (k : SubNo) : Type 0 where
  pub tree : t.0 < length s.trees
  pub sub : k.0 < length (subs_at s t.0)
  pub later : 0 < k.0
  pub node : to ≡ node_of s t.0 k.0
  pub sender : from < s.nodes

-- a Done goes from a node to its transaction's home: of a strict transaction's subtransaction it brings a vote, and of
-- another's what was done
pub record IsMeantDone (s : ScriptData) (from to : ℕ) (t : TreeNo) (k : SubNo) (notice : Notice) : Type 0 where
  pub tree : t.0 < length s.trees
  pub sub : k.0 < length (subs_at s t.0)
  pub later : 0 < k.0
  pub home : to ≡ home_of s t.0
  pub sender : from < s.nodes
  pub fits : suits (is_strict_at s t.0) notice ≡ true

-- a Decide goes from a strict transaction's home to a node that the transaction visits
pub record IsMeantDecide (s : ScriptData) (from to : ℕ) (t : TreeNo) : Type 0 where
  pub strict : is_strict_at s t.0 ≡ true
  pub visited : IsVisited s t to
  pub home : from ≡ home_of s t.0

-- and a Decided back
pub record IsMeantDecided (s : ScriptData) (from to : ℕ) (t : TreeNo) : Type 0 where
  pub strict : is_strict_at s t.0 ≡ true
  pub visited : IsVisited s t from
  pub home : to ≡ home_of s t.0

-- a Release goes to a node that an update transaction visits, if there are strict transactions
pub record IsMeantRelease (s : ScriptData) (to : ℕ) (t : TreeNo) : Type 0 where
  pub update : updates s t.0 ≡ true
  pub visited : IsVisited s t to
  pub some_strict : has_strict s ≡ true

-- a Wake goes from the node of its subtransaction to itself, if there are strict transactions
pub record IsMeantWake (s : ScriptData) (from to : ℕ) (t : TreeNo) (k : SubNo) : Type 0 where
  pub tree : t.0 < length s.trees
  pub sub : k.0 < length (subs_at s t.0)
  pub node : to ≡ node_of s t.0 k.0
  pub below : to < s.nodes
  pub own : from ≡ to
  pub some_strict : has_strict s ≡ true

-- a message from a node to the coordinator
abbrev pub IsToCoordinator : ScriptData → ℕ → ℕ → Type 0
IsToCoordinator s from to = (from < s.nodes) × (to ≡ s.nodes)

-- and one to it, of this kind of scripts: those whose coordinator may forget, or the others
abbrev pub IsOrderOf : Bool → ScriptData → ℕ → Type 0
IsOrderOf lossy s to = (to < s.nodes) × (is_lossy s ≡ lossy)

abbrev pub IsReportOf : Bool → ScriptData → ℕ → ℕ → Type 0
IsReportOf lossy s from to = IsToCoordinator s from to × (is_lossy s ≡ lossy)

abbrev pub IsRequestOf : Bool → ScriptData → ℕ → Type 0
IsRequestOf lossy s to = (to ≡ s.nodes) × (is_lossy s ≡ lossy)

-- a message of this body, between these actors
abbrev pub IsMeant : ScriptData → ℕ → ℕ → Body → Type 0
IsMeant s from to Go = to ≡ client_of s
IsMeant s from to (Root t) = IsMeantRoot s to t
IsMeant s from to (SubLetter t k v) = IsMeantSub s from to t k
IsMeant s from to (Done t k v notice) = IsMeantDone s from to t k notice
IsMeant s from to (Reply t v answer) = (t.0 < length s.trees) × (to ≡ client_of s)
IsMeant s from to Nudge = to ≡ s.nodes
IsMeant s from to Advance = IsRequestOf false s to
IsMeant s from to (Turned v) = IsReportOf false s from to
IsMeant s from to (Shown v) = IsReportOf false s from to
IsMeant s from to (Swept v) = IsReportOf false s from to
IsMeant s from to (DoneRow v k row) = IsToCoordinator s from to × (length row ≡ s.nodes)
IsMeant s from to (AskedRow v k row) = IsToCoordinator s from to × (length row ≡ s.nodes)
IsMeant s from to (Turn v) = IsOrderOf false s to
IsMeant s from to (Show v) = IsOrderOf false s to
IsMeant s from to (Sweep v) = IsOrderOf false s to
IsMeant s from to (AskDone v k) = to < s.nodes
IsMeant s from to (AskAsked v k) = to < s.nodes
IsMeant s from to (Advanced v) = to ≡ client_of s
IsMeant s from to (Decide t v commit) = IsMeantDecide s from to t
IsMeant s from to (Decided t v) = IsMeantDecided s from to t
IsMeant s from to (Release t) = IsMeantRelease s to t
IsMeant s from to (Wake t k) = IsMeantWake s from to t k
IsMeant s from to Lose = IsRequestOf true s to
IsMeant s from to (AdvanceNo i) = IsRequestOf true s to
IsMeant s from to (Wanted e k) = IsRequestOf true s to
IsMeant s from to (Ask e) = ((to < s.nodes) ⊎ (to ≡ client_of s)) × (is_lossy s ≡ true)
IsMeant s from to (Order e what v) = IsOrderOf true s to
IsMeant s from to (Numbers e u r l) = IsReportOf true s from to
IsMeant s from to (Obeyed e what v) = IsReportOf true s from to

abbrev pub IsLetterMeant : ScriptData → Letter → Type 0
IsLetterMeant s l = IsMeant s l.from.0 l.to.0 l.body

-- in every run of every valid script, whatever messages came
abbrev pub LettersAreMeant : Type 0
LettersAreMeant = (s : ScriptData) (past : List Entry) → IsValid s → IsStepRun s past → Each (IsLetterMeant s) (outstanding s past)
