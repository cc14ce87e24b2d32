-- One more entry behind those that lie in lists.
use Rattle.std.proofs.Common.{◌≡◌, ℕ, ◌+◌, ◌<◌, List, [], ◌∷◌, ◌++◌, ◌∙◌, length, map, Some, sym, ap, subst, arith}
use Rattle.std.specs.Prelude.{get_or, slice_get}
use Rattle.std.specs.List.{slice_range}
use Rattle.std.proofs.lemmas.List.{length-append}
use Rattle.std.proofs.lemmas.Option.{slice_get-get_or}
use Rattle.tv_base.specs.declared.numbers.TheConstants.{MOST_ENTRIES}
use Rattle.letter_types.specs.declared.acts.Act.{Act}
use Rattle.letter_types.specs.declared.entries.Entry.{Entry}
use Rattle.letter_types.specs.declared.entries.Letter.{Letter}
use Rattle.letter_types.specs.declared.entries.Outgoing.{Outgoing}
use Rattle.letter_types.specs.Letters.{go, sealed}
use Rattle.run_history.specs.declared.record.Slot.{Slot}
use Rattle.run_history.specs.Messages.{entry_behind, messages_of, outgoing_of, entries_then}
use Rattle.run_history.specs.inside.Slots.{AreSlots, entries_of_slots, IsSlot, IsTakenFrom, Lists, lists_of, taken_of_slot}
use Rattle.run_history.proofs.Kept.{entries_count, kept_more, longer, messages_from, one_more, range_behind}
use Rattle.run_history.proofs.Sealed.{unsealed}

-- the lists with one more entry's parts, and the entries that they mean
pub record Pushed (es : List Entry) (ls : Lists) (qs : List Slot) (p : Slot) (os : List Outgoing) (ds : List Act) : Type 0 where
  pub kept : AreSlots ls qs
  pub entries : entries_of_slots ls qs ≡ entries_then es p.actor (taken_of_slot ls.letters ls.came p) os ds

pushed_to : (ls : Lists) (ps : List Slot) (p : Slot) (stamp : ℕ) (os : List Outgoing) (more : List Letter) (ds : List Act)
    → AreSlots ls ps → length ps < MOST_ENTRIES → stamp ≡ length ps + 1
    → IsTakenFrom (length ls.letters) (length (ls.came ++ more)) p
    → p.sent ≡ length (ls.letters ++ sealed stamp p.actor.0 0 os) → p.acts ≡ length (ls.acts ++ ds)
    → Pushed (entries_of_slots ls ps) (longer ls (sealed stamp p.actor.0 0 os) more ds) (ps ++ p ∷ []) p os ds
pushed_to ls ps p stamp os more ds kept few at took sent acts =
    let l1 = sealed stamp p.actor.0 0 os in
    let all = longer ls l1 more ds in
    let n = 0 + length ps in
    let i = length ls.letters in
    let j = length ls.acts in
    let taken = taken_of_slot all.letters all.came p in
    let mine : slice_range all.letters i p.sent ≡ l1 = range_behind ls.letters l1 p.sent sent in
    let done : slice_range all.acts j p.acts ≡ ds = range_behind ls.acts ds p.acts acts in
    let said : map outgoing_of (slice_range all.letters i p.sent) ≡ os =
    ap (map outgoing_of) mine ∙ unsealed stamp p.actor.0 0 os in
    let count : n ≡ length (entries_of_slots ls ps) = omega (arith, entries_count 0 0 0 ls ps) in
    let next : stamp ≡ n + 1 = omega (arith, at) in
    let one : IsSlot n i j all p = record {
      sent = omega (arith, sent, length-append ls.letters l1);
      acts = omega (arith, acts, length-append ls.acts ds);
      sent_in = omega (arith, sent);
      acts_in = omega (arith, acts);
      took = took;
      ids = mine ∙ (λ x. sealed (next x) p.actor.0 0 (sym said x));
    } in
    record {
      kept = record {
        few = omega (arith, few, length-append ps (p ∷ []));
        all = kept_more 0 0 0 ls ps l1 more ds p kept.all one sent acts;
      };
      entries = one_more 0 0 0 ls ps l1 more ds p kept.all
          ∙ (λ x. entries_of_slots ls ps ++ entry_behind (count x) p.actor taken (said x) (done x) ∷ []);
    }

-- the same by what calls say of the lists
pub pushed : (ls : Lists) (ps qs : List Slot) (es : List Entry) (letters came more : List Letter) (acts ds : List Act) (p : Slot) (stamp : ℕ) (os : List Outgoing)
    → entries_of_slots ls ps ≡ es → AreSlots ls ps → length ps < MOST_ENTRIES → stamp ≡ length ps + 1
    → letters ≡ ls.letters ++ sealed stamp p.actor.0 0 os → came ≡ ls.came ++ more → acts ≡ ls.acts ++ ds → qs ≡ ps ++ p ∷ []
    → IsTakenFrom (length ls.letters) (length came) p → p.sent ≡ length letters → p.acts ≡ length acts
    → Pushed es (lists_of letters came acts) qs p os ds
pushed ls ps qs es letters came more acts ds p stamp os is kept few at l c d q took sent done =
    let l1 = sealed stamp p.actor.0 0 os in
    let taken : IsTakenFrom (length ls.letters) (length (ls.came ++ more)) p =
    subst (λ (xs : List Letter). IsTakenFrom (length ls.letters) (length xs) p) c took in
    let made = pushed_to ls ps p stamp os more ds kept few at taken (sent ∙ ap (length {A = Letter}) l) (done ∙ ap (length {A = Act}) d) in
    subst (λ (xs : List Entry). Pushed xs (lists_of letters came acts) qs p os ds) is
    (subst (λ (xs : List Letter). Pushed (entries_of_slots ls ps) (lists_of xs came acts) qs p os ds) (sym l)
    (subst (λ (xs : List Letter). Pushed (entries_of_slots ls ps) (lists_of (ls.letters ++ l1) xs acts) qs p os ds) (sym c)
    (subst (λ (xs : List Act). Pushed (entries_of_slots ls ps) (lists_of (ls.letters ++ l1) (ls.came ++ more) xs) qs p os ds) (sym d)
    (subst (λ (xs : List Slot). Pushed (entries_of_slots ls ps) (longer ls l1 more ds) xs p os ds) (sym q) made))))

-- the message at a place of all that were sent
pub message_at : (ls : Lists) (ps : List Slot) (es : List Entry) (k : ℕ) → entries_of_slots ls ps ≡ es → AreSlots ls ps
    → k < length (messages_of es) → (k < length ls.letters) × (slice_get (messages_of es) k ≡ Some (get_or ls.letters k (go 0)))
message_at ls ps es k is kept lt =
    let all : messages_of es ≡ ls.letters = ap messages_of (sym is) ∙ messages_from 0 0 0 ls ps kept.all in
    let in_list : k < length ls.letters = omega (arith, lt, ap (length {A = Letter}) all) in
    (in_list, ap (λ (xs : List Letter). slice_get xs k) all ∙ slice_get-get_or ls.letters k (go 0) in_list)
