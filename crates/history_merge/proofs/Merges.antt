-- What was recorded is the entries of all actors by stamp.
use Rattle.std.proofs.Common.{◌≡◌, ℕ, zero, suc, ◌+◌, ◌<◌, ◌≤◌, ◌≢◌, ◌==◌, Bool, true, false, List, [], ◌∷◌, ◌++◌, length, map, get_or, refl, sym, ap, ◌∙◌, subst, arith, append_assoc, Some, ◌⊎◌, inl, inr}
use Rattle.std.specs.Prelude.{if◌then◌else◌, slice_get}
use Rattle.std.proofs.lemmas.Bool.{cases_eq}
use Rattle.std.proofs.lemmas.Bool.Decides.{nat_tests}
use Rattle.std.proofs.lemmas.List.{length-map, map-append}
use Rattle.std.proofs.lemmas.Option.{same_Some}
use Rattle.tv_base.proofs.ByPlace.{get_map, get_some, slice_get_last, slice_get_left}
use Rattle.letter_types.specs.declared.entries.Entry.{Entry}
use Rattle.letter_types.specs.declared.entries.Posting.{Posting}
use Rattle.letter_types.specs.Letters.{own}
use Rattle.letter_types.specs.Postal.{delivery_of}
use Rattle.letter_types.proofs.Postings.{entry_at}
use Rattle.stamp_post.specs.declared.rule.JoinedReceipt.{JoinedReceipt}
use Rattle.stamp_post.specs.Logs.{AreFirst, own_postings}
use Rattle.tx_trees.specs.ScriptData.{ScriptData}
use Rattle.world_model.specs.Tables.{actor_row, start_actor}
use Rattle.history_merge.specs.Histories.{entries_by}
use Rattle.history_merge.specs.Merging.{AllRun, IsMerged, IsWholeLog}
use Rattle.history_merge.specs.Recording.{AreRecorded, FirstHas, Vouches}
use Rattle.history_merge.proofs.Lefts.{left}
use Rattle.history_merge.proofs.OneMore.{entries_front, entries_of_run, postings_of}

-- The stamps are m, m + 1 and on.
abbrev From : ℕ → List Posting → Type 0
From m [] = Unit {0}
From m (p ∷ ps) = (p.stamp.0 ≡ m) × From (m + 1) ps

-- what a list has at a place
pub at_place : {X : Type 0} (xs : List X) (i : ℕ) (x : X) → i < length xs → x ≡ get_or xs i x → slice_get xs i ≡ Some x
at_place [] i x lt is = absurd (omega arith)
at_place (y ∷ xs) zero x lt is = ap (λ (z : _). Some z) (sym is)
at_place (y ∷ xs) (suc i) x lt is = at_place xs i x (omega arith) is

from_of : (m : ℕ) (log : List Posting) → ((k : ℕ) (p : Posting) → slice_get log k ≡ Some p → p.stamp.0 ≡ m + k) → From m log
from_of m [] h = tt
from_of m (p ∷ ps) h = (h 0 p refl ∙ omega arith, from_of (m + 1) ps (λ k x at. h (suc k) x at ∙ omega arith))

-- an actor's posting has a stamp from m on
above_by : (b : Bool) (m k : ℕ) (p x : Posting) (ps : List Posting) → p.stamp.0 ≡ m
    → ((j : ℕ) → slice_get ps j ≡ Some x → m + 1 ≤ x.stamp.0) → slice_get (if b then p ∷ ps else ps) k ≡ Some x → m ≤ x.stamp.0
above_by true m zero p x ps is later at = let same : p ≡ x = cc at in omega (arith, is, ap (λ (y : Posting). y.stamp.0) same)
above_by true m (suc k) p x ps is later at = omega (arith, later k at)
above_by false m k p x ps is later at = omega (arith, later k at)

above : (a m k : ℕ) (log : List Posting) (x : Posting) → From m log → slice_get (own_postings a log) k ≡ Some x → m ≤ x.stamp.0
above a m k [] x h at = absurd (cc at)
above a m k (p ∷ ps) x h at = above_by (p.actor.0 == a) m k p x (own_postings a ps) h.0 (λ j there. above a (m + 1) j ps x h.1 there) at

-- an actor has a posting once
once_by : (b : Bool) (m i j : ℕ) (p x : Posting) (ps : List Posting) → p.stamp.0 ≡ m
    → ((k : ℕ) → slice_get ps k ≡ Some x → m + 1 ≤ x.stamp.0)
    → ((k n : ℕ) → slice_get ps k ≡ Some x → slice_get ps n ≡ Some x → k ≡ n)
    → slice_get (if b then p ∷ ps else ps) i ≡ Some x → slice_get (if b then p ∷ ps else ps) j ≡ Some x → i ≡ j
once_by true m zero zero p x ps is later rest at at' = refl
once_by true m zero (suc j) p x ps is later rest at at' =
    let same : p ≡ x = cc at in absurd (omega (arith, is, ap (λ (y : Posting). y.stamp.0) same, later j at'))
once_by true m (suc i) zero p x ps is later rest at at' =
    let same : p ≡ x = cc at' in absurd (omega (arith, is, ap (λ (y : Posting). y.stamp.0) same, later i at))
once_by true m (suc i) (suc j) p x ps is later rest at at' = ap suc (rest i j at at')
once_by false m i j p x ps is later rest at at' = rest i j at at'

once : (a m i j : ℕ) (log : List Posting) (x : Posting) → From m log → slice_get (own_postings a log) i ≡ Some x
    → slice_get (own_postings a log) j ≡ Some x → i ≡ j
once a m i j [] x h at at' = absurd (cc at)
once a m i j (p ∷ ps) x h at at' =
    once_by (p.actor.0 == a) m i j p x (own_postings a ps) h.0 (λ k there. above a (m + 1) k ps x h.1 there)
    (λ k n one two. once a (m + 1) k n ps x h.1 one two) at at'

-- lists that have the same at each place
same_by_place : {X : Type 0} (xs ys : List X) → length xs ≡ length ys → ((k : ℕ) (x : X) → slice_get xs k ≡ Some x → slice_get ys k ≡ Some x)
    → xs ≡ ys
same_by_place [] [] long h = refl
same_by_place [] (y ∷ ys) long h = absurd (omega (arith, long))
same_by_place (x ∷ xs) [] long h = absurd (omega (arith, long))
same_by_place (x ∷ xs) (y ∷ ys) long h =
    let same : y ≡ x = cc (h 0 x refl) in
    let less : length xs ≡ length ys = omega (arith, long) in
    λ k. sym same k ∷ same_by_place xs ys less (λ j z at. h (suc j) z at) k

-- an actor's own entries have its own postings
own_by : (b : Bool) (e : Entry) (es : List Entry) (ps : List Posting) → map delivery_of es ≡ ps
    → map delivery_of (if b then e ∷ es else es) ≡ (if b then delivery_of e ∷ ps else ps)
own_by true e es ps is = ap (λ (xs : List Posting). delivery_of e ∷ xs) is
own_by false e es ps is = is

own_posted : (a : ℕ) (h : List Entry) → map delivery_of (own a h) ≡ own_postings a (map delivery_of h)
own_posted a [] = refl
own_posted a (e ∷ h) = own_by (e.actor.0 == a) e (own a h) (own_postings a (map delivery_of h)) (own_posted a h)

-- where an entry of an actor's own is
record Found (h : List Entry) (a : ℕ) (e : Entry) : Type 0 where
  pub place : ℕ
  pub at : slice_get h place ≡ Some e
  pub mine : e.actor.0 ≡ a

later : (h : List Entry) (a : ℕ) (x e : Entry) → Found h a e → Found (x ∷ h) a e
later h a x e f = record { place = suc f.place; at = f.at; mine = f.mine }

found_by : (b : Bool) (h es : List Entry) (a k : ℕ) (x e : Entry) → (x.actor.0 == a) ≡ b → ((j : ℕ) → slice_get es j ≡ Some e → Found h a e)
    → slice_get (if b then x ∷ es else es) k ≡ Some e → Found (x ∷ h) a e
found_by true h es a zero x e mine rest at =
    let same : x ≡ e = cc at in
    record { place = 0; at = ap (λ (z : Entry). Some z) same; mine = ap (λ (z : Entry). z.actor.0) (sym same) ∙ grind (arith, nat_tests) }
found_by true h es a (suc k) x e mine rest at = later h a x e (rest k at)
found_by false h es a k x e mine rest at = later h a x e (rest k at)

found : (h : List Entry) (a k : ℕ) (e : Entry) → slice_get (own a h) k ≡ Some e → Found h a e
found [] a k e at = absurd (cc at)
found (x ∷ h) a k e at = found_by (x.actor.0 == a) h (own a h) a k x e refl (λ j there. found h a j e there) at

-- an entry that one vouches for is in the log, and is one of its actor's
record Known (rows : List (List Entry)) (log : List Posting) (e : Entry) : Type 0 where
  pub place : ℕ
  pub posted : slice_get log place ≡ Some (delivery_of e)
  pub stamp : e.stamp.0 ≡ place + 1
  pub row : List Entry
  pub at : slice_get rows e.actor.0 ≡ Some row
  pub in_row : ℕ
  pub there : slice_get row in_row ≡ Some e

known : (s : ScriptData) (count : ℕ) (rows : List (List Entry)) (log : List Posting) (r : JoinedReceipt) (e : Entry)
    → IsWholeLog count log rows → AllRun s rows → AreFirst log r.number r.own → Vouches s r e → Known rows log e
known s count rows log r e whole runs (rest, first) (before, last) =
    let n = r.number in
    let row = actor_row s n in
    let st = start_actor s n in
    let told : r.own ≡ map delivery_of before ++ delivery_of e ∷ [] =
    sym (postings_of row st r.own) ∙ ap (map delivery_of) last ∙ map-append delivery_of before (e ∷ []) in
    let cut : own_postings n log ≡ map delivery_of before ++ (delivery_of e ∷ rest) =
    first ∙ ap (λ (ps : List Posting). ps ++ rest) told ∙ append_assoc (map delivery_of before) (delivery_of e ∷ []) rest in
    let mine = left (λ (p : Posting). p.actor.0) n log (map delivery_of before) (delivery_of e) rest cut in
    let there = get_some rows n (omega (arith, mine.is, whole.known mine.place (delivery_of e) mine.at)) in
    let es = there.0 in
    let front = entries_front row st r.own rest in
    let split : es ≡ (before ++ e ∷ []) ++ front.0 =
    sym (entries_of_run row st es (runs n es there.1)) ∙ ap (entries_by s n) (whole.log_of.own n es there.1 ∙ first) ∙ front.1
    ∙ ap (λ (xs : List Entry). xs ++ front.0) last in
    record {
      place = mine.place;
      posted = mine.at;
      stamp = whole.log_of.stamps mine.place (delivery_of e) mine.at;
      row = es;
      at = subst (λ (j : ℕ). slice_get rows j ≡ Some es) (sym mine.is) there.1;
      in_row = length before;
      there = ap (λ (xs : List Entry). slice_get xs (length before)) split
          ∙ slice_get_left (before ++ e ∷ []) front.0 (length before) e (slice_get_last before e);
    }

-- what was recorded, where it is as long as the log
pub merged : (s : ScriptData) (count : ℕ) (rows : List (List Entry)) (log : List Posting) (told : List JoinedReceipt) (h : List Entry)
    → IsWholeLog count log rows → AllRun s rows → length h ≡ count
    → ((k : ℕ) (r : JoinedReceipt) → slice_get told k ≡ Some r → AreFirst log r.number r.own)
    → AreRecorded s told h → IsMerged log rows h
merged s count rows log told h whole runs long begins recorded =
    let known_at : (k : ℕ) (e : Entry) → slice_get h k ≡ Some e → Known rows log e =
    λ k e at. let (stamp, (j, r, there, vouches)) = recorded k e at in
    known s count rows log r e whole runs (begins j r there) vouches in
    let posted : (k : ℕ) (e : Entry) → slice_get h k ≡ Some e → slice_get log k ≡ Some (delivery_of e) =
    λ k e at. let d = known_at k e at in
    let (stamp, (j, r, there, vouches)) = recorded k e at in
    let same : d.place ≡ k = omega (arith, d.stamp, stamp) in
    subst (λ (j : ℕ). slice_get log j ≡ Some (delivery_of e)) same d.posted in
    let postings : map delivery_of h ≡ log =
    same_by_place (map delivery_of h) log (length-map h delivery_of ∙ long ∙ sym whole.long)
    (λ k p at. let one = entry_at h k p at in posted k one.0 one.1 ∙ ap (λ (x : Posting). Some x) one.2) in
    record {
      postings = postings;
      own = λ a es at.
          let same : map delivery_of (own a h) ≡ map delivery_of es =
          own_posted a h ∙ ap (own_postings a) postings ∙ sym (whole.log_of.own a es at) in
          let from : From 1 log = from_of 1 log (λ j p there. whole.log_of.stamps j p there ∙ omega arith) in
          same_by_place (own a h) es
          (sym (length-map (own a h) delivery_of) ∙ ap (length {A = Posting}) same ∙ length-map es delivery_of)
          (λ k e here.
          let f = found h a k e here in
          let d = known_at f.place e f.at in
          let row : d.row ≡ es = same_Some d.row es (sym d.at ∙ ap (slice_get rows) f.mine ∙ at) in
          let there : slice_get es d.in_row ≡ Some e = subst (λ (xs : List Entry). slice_get xs d.in_row ≡ Some e) row d.there in
          let mine : slice_get (own_postings a log) d.in_row ≡ Some (delivery_of e) =
          subst (λ (ps : List Posting). slice_get ps d.in_row ≡ Some (delivery_of e)) (whole.log_of.own a es at) (get_map delivery_of es d.in_row e there) in
          let mine' : slice_get (own_postings a log) k ≡ Some (delivery_of e) =
          subst (λ (ps : List Posting). slice_get ps k ≡ Some (delivery_of e)) (same ∙ whole.log_of.own a es at) (get_map delivery_of (own a h) k e here) in
          let equal : d.in_row ≡ k = once a 1 d.in_row k log (delivery_of e) from mine mine' in
          subst (λ (j : ℕ). slice_get es j ≡ Some e) equal there);
    }

-- the first of a list
pub first_of : (es : List Entry) (e : Entry) (left : List Entry) (stamp : ℕ) → es ≡ e ∷ left → FirstHas stamp es → e.stamp.0 ≡ stamp
first_of es e left stamp is h = subst (FirstHas stamp) is h

more_by : (stamp a : ℕ) (rows : List (List Entry)) (d : List Entry) (b : ℕ) (es : List Entry)
    → ((c : ℕ) (xs : List Entry) → c < a → slice_get rows c ≡ Some xs → ¬ FirstHas stamp xs) → slice_get rows a ≡ Some d → ¬ FirstHas stamp d
    → b < a + 1 → slice_get rows b ≡ Some es → (b ≡ a) ⊎ (b ≢ a) → ¬ FirstHas stamp es
more_by stamp a rows d b es none there no' lt at (inl same) has =
    no' (subst (FirstHas stamp) (same_Some es d (sym at ∙ ap (slice_get rows) same ∙ there)) has)
more_by stamp a rows d b es none there no' lt at (inr ne) has = none b es (omega arith) at has

-- no first entry has this stamp, one list further
pub none_more : (stamp a : ℕ) (rows : List (List Entry)) (d : List Entry)
    → ((c : ℕ) (xs : List Entry) → c < a → slice_get rows c ≡ Some xs → ¬ FirstHas stamp xs) → slice_get rows a ≡ Some d → ¬ FirstHas stamp d
    → (b : ℕ) (es : List Entry) → b < a + 1 → slice_get rows b ≡ Some es → ¬ FirstHas stamp es
none_more stamp a rows d none there no' b es lt at = more_by stamp a rows d b es none there no' lt at (cases_eq b a)
