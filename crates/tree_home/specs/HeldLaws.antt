-- What holds of held answers whatever comes.
use Rattle.std.specs.Prelude.{ℕ, ◌-◌, ◌<◌, ◌≡◌, ◌≢◌, Some, None}
use Rattle.tv_base.specs.declared.numbers.TreeNo.{TreeNo}
use Rattle.tree_home.specs.declared.homes.Answered.{Answered}
use Rattle.tree_home.specs.declared.homes.Held.{Held}
use Rattle.tree_home.specs.HeldAnswers.{HeldAnswers, acked, answer_when_acked, held_for, held_in, holding}

-- what is held of any other tree stays when an answer is held
abbrev pub HoldingKeepsOthers : Type 0
HoldingKeepsOthers = (u : TreeNo) (a : Answered) (n : ℕ) (hs : HeldAnswers) → u.0 ≢ a.tree.0
    → held_in u (holding a n hs) ≡ held_in u hs

-- it stays at an acknowledgement
abbrev pub AckedKeepsOthers : Type 0
AckedKeepsOthers = (t u : TreeNo) (hs : HeldAnswers) → u.0 ≢ t.0 → held_in u (acked t hs) ≡ held_in u hs

-- an answer that is held is there, with its acknowledgements missing
abbrev pub HeldIsThere : Type 0
HeldIsThere = (a : Answered) (n : ℕ) (hs : HeldAnswers) → held_in a.tree (holding a n hs) ≡ Some (held_for n a)

-- an acknowledgement before the last makes one fewer missing, and sets no answer free
abbrev pub AckedCountsDown : Type 0
AckedCountsDown = (t : TreeNo) (hs : HeldAnswers) (h : Held) → held_in t hs ≡ Some h → 1 < h.waits
    → (answer_when_acked t hs ≡ None) × (held_in t (acked t hs) ≡ Some (held_for (h.waits - 1) h.answered))

-- the last one sets the answer free, and nothing is held of its tree any more
abbrev pub LastSetsFree : Type 0
LastSetsFree = (t : TreeNo) (hs : HeldAnswers) (h : Held) → held_in t hs ≡ Some h → h.waits ≡ 1
    → (answer_when_acked t hs ≡ Some h.answered) × (held_in t (acked t hs) ≡ None)

-- an answer that is held for one acknowledgement comes with it, and what is held is as before
abbrev pub HeldForOneComesBack : Type 0
HeldForOneComesBack = (a : Answered) (hs : HeldAnswers) → held_in a.tree hs ≡ None
    → (answer_when_acked a.tree (holding a 1 hs) ≡ Some a) × (acked a.tree (holding a 1 hs) ≡ hs)

-- of each answer that is held an acknowledgement is missing
abbrev pub AllWait : HeldAnswers → Type 0
AllWait hs = (t : TreeNo) (h : Held) → held_in t hs ≡ Some h → 0 < h.waits

-- it stays so when an answer is held for at least one
abbrev pub HoldingWaits : Type 0
HoldingWaits = (a : Answered) (n : ℕ) (hs : HeldAnswers) → 0 < n → AllWait hs → AllWait (holding a n hs)

-- and at an acknowledgement
abbrev pub AckedWaits : Type 0
AckedWaits = (t : TreeNo) (hs : HeldAnswers) → AllWait hs → AllWait (acked t hs)
