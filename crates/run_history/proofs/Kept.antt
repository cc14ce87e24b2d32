-- Entries whose parts lie in lists: with lists that go on, and one more entry.
use Rattle.std.proofs.Common.{◌≡◌, ℕ, zero, suc, ◌+◌, ◌-◌, ◌<◌, ◌≤◌, Bool, true, false, List, [], ◌∷◌, ◌++◌, ◌∙◌, length, map, take, drop, refl, sym, ap, subst, arith}
use Rattle.std.specs.Prelude.{get_or, slice_get, Some}
use Rattle.std.proofs.lemmas.List.Folds.{drop_split}
use Rattle.std.proofs.lemmas.Option.{slice_get-get_or}
use Rattle.std.specs.List.{slice_range}
use Rattle.std.proofs.Math.Seq.{drop-append_seam}
use Rattle.std.proofs.lemmas.List.{drop-append-le, drop_all, get_or_append_left, length-append, length-drop, take-append-le, take_all}
use Rattle.letter_types.specs.declared.acts.Act.{Act}
use Rattle.letter_types.specs.declared.entries.Entry.{Entry}
use Rattle.letter_types.specs.declared.entries.Letter.{Letter}
use Rattle.letter_types.specs.Letters.{go, letters_of}
use Rattle.run_history.specs.declared.record.Slot.{Slot}
use Rattle.run_history.specs.Messages.{acts_of, entry_behind, messages_of, outgoing_of}
use Rattle.run_history.specs.inside.Slots.{AreSlots, AreSlotsFrom, slot_begins, slots_from, entries_of_slots, entry_of_slot, IsSlot, IsTakenFrom, Lists, taken_of_slot}

-- lists that go on
abbrev pub longer : Lists → List Letter → List Letter → List Act → Lists
longer ls letters came acts = record { letters = ls.letters ++ letters; came = ls.came ++ came; acts = ls.acts ++ acts }

-- a range that lies in a list stays as the list goes on
pub range_stays : {X : Type 0} (xs ys : List X) (i j : ℕ) → i ≤ j → j ≤ length xs → slice_range (xs ++ ys) i j ≡ slice_range xs i j
range_stays {X} xs ys i j le in_list =
    ap (λ (zs : List X). take (j - i) zs) (drop-append-le i xs ys (omega (arith, le, in_list)))
    ∙ take-append-le (j - i) (drop i xs) ys (omega (arith, le, in_list, length-drop i xs))

-- the range behind a list is what comes behind it
pub range_behind : {X : Type 0} (xs ys : List X) (j : ℕ) → j ≡ length (xs ++ ys) → slice_range (xs ++ ys) (length xs) j ≡ ys
range_behind {X} xs ys j is =
    ap (λ (zs : List X). take (j - length xs) zs) (drop-append_seam xs ys)
    ∙ take_all (j - length xs) ys (omega (arith, is, length-append xs ys))

taken_stays : (b : Bool) (ls : Lists) (l1 l2 : List Letter) (i : ℕ) (p : Slot) → p.came ≡ b
    → i ≤ length ls.letters → IsTakenFrom i (length ls.came) p
    → taken_of_slot (ls.letters ++ l1) (ls.came ++ l2) p ≡ taken_of_slot ls.letters ls.came p
taken_stays true ls l1 l2 i p is le t = rw is (get_or_append_left ls.came l2 (go 0) p.took (t.0 is))
taken_stays false ls l1 l2 i p is le t = rw is (get_or_append_left ls.letters l1 (go 0) p.took (omega (arith, t.1 is, le)))

-- an entry stays
pub entry_stays : (n i j : ℕ) (ls : Lists) (l1 l2 : List Letter) (ds : List Act) (p : Slot) → IsSlot n i j ls p
    → entry_of_slot n i j (longer ls l1 l2 ds) p ≡ entry_of_slot n i j ls p
entry_stays n i j ls l1 l2 ds p k =
    let took = taken_stays p.came ls l1 l2 i p refl (omega (arith, k.sent, k.sent_in)) k.took in
    let sent = range_stays ls.letters l1 i p.sent k.sent k.sent_in in
    let acts = range_stays ls.acts ds j p.acts k.acts k.acts_in in
    (λ x. entry_behind n p.actor (took x) (map outgoing_of (sent x)) (acts x))

-- and is kept
pub kept_stays : (n i j : ℕ) (ls : Lists) (l1 l2 : List Letter) (ds : List Act) (p : Slot) → IsSlot n i j ls p
    → IsSlot n i j (longer ls l1 l2 ds) p
kept_stays n i j ls l1 l2 ds p k = record {
  sent = k.sent;
  acts = k.acts;
  sent_in = omega (arith, k.sent_in, length-append ls.letters l1);
  acts_in = omega (arith, k.acts_in, length-append ls.acts ds);
  took = ((λ is. omega (arith, k.took.0 is, length-append ls.came l2)), k.took.1);
  ids = range_stays ls.letters l1 i p.sent k.sent k.sent_in ∙ k.ids ∙ ap letters_of (sym (entry_stays n i j ls l1 l2 ds p k));
}

-- one more entry behind those that are kept
pub one_more : (n i j : ℕ) (ls : Lists) (ps : List Slot) (l1 l2 : List Letter) (ds : List Act) (p : Slot)
    → AreSlotsFrom n i j ls ps → slots_from n i j (longer ls l1 l2 ds) (ps ++ p ∷ [])
    ≡ slots_from n i j ls ps ++ entry_of_slot (n + length ps) (length ls.letters) (length ls.acts) (longer ls l1 l2 ds) p ∷ []
one_more n i j ls [] l1 l2 ds p k =
    let at : n ≡ n + 0 = omega arith in
    (λ x. entry_of_slot (at x) (k.0 x) (k.1 x) (longer ls l1 l2 ds) p ∷ [])
one_more n i j ls (q ∷ ps) l1 l2 ds p k =
    let first = entry_stays n i j ls l1 l2 ds q k.0 in
    let rest = one_more (n + 1) q.sent q.acts ls ps l1 l2 ds p k.1 in
    let at : (n + 1) + length ps ≡ n + length (q ∷ ps) = omega arith in
    (λ x. first x ∷ rest x)
    ∙ (λ x. entry_of_slot n i j ls q ∷ slots_from (n + 1) q.sent q.acts ls ps
    ++ entry_of_slot (at x) (length ls.letters) (length ls.acts) (longer ls l1 l2 ds) p ∷ [])

pub kept_more : (n i j : ℕ) (ls : Lists) (ps : List Slot) (l1 l2 : List Letter) (ds : List Act) (p : Slot)
    → AreSlotsFrom n i j ls ps
    → IsSlot (n + length ps) (length ls.letters) (length ls.acts) (longer ls l1 l2 ds) p
    → p.sent ≡ length (ls.letters ++ l1) → p.acts ≡ length (ls.acts ++ ds)
    → AreSlotsFrom n i j (longer ls l1 l2 ds) (ps ++ p ∷ [])
kept_more n i j ls [] l1 l2 ds p k one sent acts =
    let at : n + 0 ≡ n = omega arith in (
      subst (λ (m : ℕ). IsSlot m i j (longer ls l1 l2 ds) p) at
          (subst (λ (m : ℕ). IsSlot (n + 0) m j (longer ls l1 l2 ds) p) (sym k.0)
          (subst (λ (m : ℕ). IsSlot (n + 0) (length ls.letters) m (longer ls l1 l2 ds) p) (sym k.1) one)),
      (sent, acts),
    )
kept_more n i j ls (q ∷ ps) l1 l2 ds p k one sent acts =
    let at : n + length (q ∷ ps) ≡ (n + 1) + length ps = omega arith in (
      kept_stays n i j ls l1 l2 ds q k.0,
      kept_more (n + 1) q.sent q.acts ls ps l1 l2 ds p k.1
          (subst (λ (m : ℕ). IsSlot m (length ls.letters) (length ls.acts) (longer ls l1 l2 ds) p) at one) sent acts,
    )

pub entries_count : (n i j : ℕ) (ls : Lists) (ps : List Slot) → length (slots_from n i j ls ps) ≡ length ps
entries_count n i j ls [] = refl
entries_count n i j ls (p ∷ ps) = ap suc (entries_count (n + 1) p.sent p.acts ls ps)

-- all messages that the entries sent are those of the list, from where the first one's begin
pub messages_from : (n i j : ℕ) (ls : Lists) (ps : List Slot) → AreSlotsFrom n i j ls ps
    → messages_of (slots_from n i j ls ps) ≡ drop i ls.letters
messages_from n i j ls [] k = sym (drop_all i ls.letters (omega (arith, k.0)))
messages_from n i j ls (p ∷ ps) k =
    let rest = messages_from (n + 1) p.sent p.acts ls ps k.1 in
    (λ x. sym k.0.ids x ++ rest x) ∙ sym (drop_split ls.letters i p.sent k.0.sent)

-- and so for acts
pub acts_from : (n i j : ℕ) (ls : Lists) (ps : List Slot) → AreSlotsFrom n i j ls ps
    → acts_of (slots_from n i j ls ps) ≡ drop j ls.acts
acts_from n i j ls [] k = sym (drop_all j ls.acts (omega (arith, k.1)))
acts_from n i j ls (p ∷ ps) k =
    ap (λ (ds : List Act). slice_range ls.acts j p.acts ++ ds) (acts_from (n + 1) p.sent p.acts ls ps k.1)
    ∙ sym (drop_split ls.acts j p.acts k.0.acts)

-- the entry at a place, and that it is kept
pub record AtPlace (n i j : ℕ) (ls : Lists) (ps : List Slot) (k : ℕ) (p : Slot) : Type 0 where
  pub entry : slice_get (slots_from n i j ls ps) k
      ≡ Some (entry_of_slot (n + k) (slot_begins (λ q. q.sent) i ps k) (slot_begins (λ q. q.acts) j ps k) ls p)
  pub kept : IsSlot (n + k) (slot_begins (λ q. q.sent) i ps k) (slot_begins (λ q. q.acts) j ps k) ls p

pub at_place : (n i j : ℕ) (ls : Lists) (ps : List Slot) (k : ℕ) (p : Slot) → AreSlotsFrom n i j ls ps
    → slice_get ps k ≡ Some p → AtPlace n i j ls ps k p
at_place n i j ls [] k p kept at = absurd (cc at)
at_place n i j ls (q ∷ ps) zero p kept at =
    let is : q ≡ p = cc at in
    let zero_is : n ≡ n + 0 = omega arith in
    record {
      entry = (λ x. Some (entry_of_slot (zero_is x) i j ls (is x)));
      kept = subst (λ (m : ℕ). IsSlot m i j ls p) zero_is (subst (λ (y : Slot). IsSlot n i j ls y) is kept.0);
    }
at_place n i j ls (q ∷ ps) (suc k) p kept at =
    let there = at_place (n + 1) q.sent q.acts ls ps k p kept.1 at in
    let m : (n + 1) + k ≡ n + suc k = omega arith in
    let i1 = slot_begins (λ r. r.sent) q.sent ps k in
    let j1 = slot_begins (λ r. r.acts) q.acts ps k in
    record {
      entry = there.entry ∙ (λ x. Some (entry_of_slot (m x) i1 j1 ls p));
      kept = subst (λ (y : ℕ). IsSlot y i1 j1 ls p) m there.kept;
    }

-- the same of a history's entries, by the slot that is read there
pub found_in : (ls : Lists) (ps : List Slot) (es : List Entry) (k : ℕ) (p : Slot) → entries_of_slots ls ps ≡ es → AreSlots ls ps
    → k < length es → p ≡ get_or ps k p → AtPlace 0 0 0 ls ps k p
found_in ls ps es k p is kept lt at =
    let in_slots : k < length ps = omega (arith, lt, ap (length {A = Entry}) is, entries_count 0 0 0 ls ps) in
    at_place 0 0 0 ls ps k p kept.all (slice_get-get_or ps k p in_slots ∙ ap (λ (q : Slot). Some q) (sym at))
