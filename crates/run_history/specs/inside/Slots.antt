-- Which entries the lists of a history mean, and what is always true of where their parts lie.
use Rattle.std.specs.Prelude.{ℕ, zero, suc, true, false, if◌then◌else◌, ◌≡◌, ◌+◌, ◌<◌, ◌≤◌, List, [], ◌∷◌, length, map, get_or}
use Rattle.std.specs.List.{slice_range}
use Rattle.tv_base.specs.declared.numbers.TheConstants.{MOST_ENTRIES}
use Rattle.letter_types.specs.declared.acts.Act.{Act}
use Rattle.letter_types.specs.declared.entries.Entry.{Entry}
use Rattle.letter_types.specs.declared.entries.Letter.{Letter}
use Rattle.letter_types.specs.Letters.{go, letters_of}
use Rattle.run_history.specs.declared.record.Slot.{Slot}
use Rattle.run_history.specs.Messages.{entry_behind, outgoing_of}

-- the lists in which parts of entries lie
pub record Lists : Type 0 where
  pub letters : List Letter
  pub came : List Letter
  pub acts : List Act

abbrev pub lists_of : List Letter → List Letter → List Act → Lists
lists_of letters came acts = record { letters = letters; came = came; acts = acts }

-- the message that an entry took
abbrev pub taken_of_slot : List Letter → List Letter → Slot → Letter
taken_of_slot letters came p = if p.came then get_or came p.took (go 0) else get_or letters p.took (go 0)

-- the entry behind n others, whose messages begin at place i, and its acts at place j
abbrev pub entry_of_slot : ℕ → ℕ → ℕ → Lists → Slot → Entry
entry_of_slot n i j ls p =
    entry_behind n p.actor (taken_of_slot ls.letters ls.came p) (map outgoing_of (slice_range ls.letters i p.sent)) (slice_range ls.acts j p.acts)

-- these entries, behind n others
abbrev pub slots_from : ℕ → ℕ → ℕ → Lists → List Slot → List Entry
slots_from n i j ls [] = []
slots_from n i j ls (p ∷ ps) = entry_of_slot n i j ls p ∷ slots_from (n + 1) p.sent p.acts ls ps

abbrev pub entries_of_slots : Lists → List Slot → List Entry
entries_of_slots ls ps = slots_from 0 0 0 ls ps

-- the message that an entry took is among the first i that were sent, or among m that came whole
abbrev pub IsTakenFrom : ℕ → ℕ → Slot → Type 0
IsTakenFrom i m p = (p.came ≡ true → p.took < m) × (p.came ≡ false → p.took < i)

-- an entry's parts lie in the lists: its messages have their ids, and what it took was sent before
pub record IsSlot (n i j : ℕ) (ls : Lists) (p : Slot) : Type 0 where
  pub sent : i ≤ p.sent
  pub acts : j ≤ p.acts
  pub sent_in : p.sent ≤ length ls.letters
  pub acts_in : p.acts ≤ length ls.acts
  pub took : IsTakenFrom i (length ls.came) p
  pub ids : slice_range ls.letters i p.sent ≡ letters_of (entry_of_slot n i j ls p)

-- all parts lie there one behind the other, up to the lists' ends
abbrev pub AreSlotsFrom : ℕ → ℕ → ℕ → Lists → List Slot → Type 0
AreSlotsFrom n i j ls [] = (i ≡ length ls.letters) × (j ≡ length ls.acts)
AreSlotsFrom n i j ls (p ∷ ps) = IsSlot n i j ls p × AreSlotsFrom (n + 1) p.sent p.acts ls ps

pub record AreSlots (ls : Lists) (ps : List Slot) : Type 0 where
  pub few : length ps ≤ MOST_ENTRIES
  pub all : AreSlotsFrom 0 0 0 ls ps

-- where something begins at a place: where it ends at the place before, or at d
abbrev pub slot_begins : (Slot → ℕ) → ℕ → List Slot → ℕ → ℕ
slot_begins f d [] k = d
slot_begins f d (p ∷ ps) zero = d
slot_begins f d (p ∷ ps) (suc k) = slot_begins f (f p) ps k

-- where the messages that an entry sent begin, and its acts
abbrev pub sent_begins : List Slot → ℕ → ℕ
sent_begins ps k = slot_begins (λ p. p.sent) 0 ps k

abbrev pub acts_begin : List Slot → ℕ → ℕ
acts_begin ps k = slot_begins (λ p. p.acts) 0 ps k
