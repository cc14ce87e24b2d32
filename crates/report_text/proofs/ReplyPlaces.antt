-- The places that are listed for transactions: where none is new, one is put, and the history goes on; and what a listed
-- entry took is the first reply.
use Rattle.std.proofs.Common.{◌≡◌, ◌≢◌, ℕ, zero, suc, ◌+◌, ◌<◌, ◌≤◌, ◌==◌, ◌∙◌, Bool, true, false, List, [], ◌∷◌, ◌++◌, length, take, refl, ap, sym, subst, arith, Option, Some, None, slice_set}
use Rattle.std.specs.Prelude.{if◌then◌else◌, is_some, slice_get}
use Rattle.std.specs.Option.{option_and_then, option_or}
use Rattle.std.proofs.lemmas.Bool.Decides.{nat_tests}
use Rattle.std.proofs.lemmas.List.{length-take-le}
use Rattle.std.proofs.Math.Seq.{take-append_seam}
use Rattle.tv_base.specs.declared.numbers.Version.{Version}
use Rattle.tv_base.proofs.ByPlace.{get_set_other, get_set_same}
use Rattle.letter_types.specs.declared.bodies.Answer.{Answer}
use Rattle.letter_types.specs.declared.bodies.Body.{Body}
use Rattle.letter_types.specs.declared.entries.Entry.{Entry}
use Rattle.board_rules.proofs.Places.{option_or_assoc, option_or_none}
use Rattle.report_text.specs.Replies.{AreRepliesOf, reply_place, first_place, place_listed, reply_by, reply_in, reply_or_next}
use Rattle.report_text.specs.declared.replies.Replies.{Replies}

abbrev Said : Type 0
Said = Option (Version × Answer)

-- a new place, where none is listed
pub listed_more : (ps : List (Option ℕ)) (t : ℕ) → place_listed (ps ++ None ∷ []) t ≡ place_listed ps t
listed_more [] zero = refl
listed_more [] (suc t) = refl
listed_more (p ∷ ps) zero = refl
listed_more (p ∷ ps) (suc t) = listed_more ps t

-- a place that is listed for transaction k, which had none
pub listed_put : (ps : List (Option ℕ)) (k p t : ℕ) → k < length ps → place_listed ps k ≡ None
    → place_listed (slice_set ps k (Some p)) t ≡ option_or (place_listed ps t) (if k == t then Some p else None)
listed_put ps k p t lt none = by (k == t) refl where
  by : (b : Bool) → (k == t) ≡ b → place_listed (slice_set ps k (Some p)) t ≡ option_or (place_listed ps t) (if b then Some p else None)
  by true test =
      let same : k ≡ t = grind (arith, nat_tests) in
      subst (λ (i : ℕ). place_listed (slice_set ps k (Some p)) i ≡ option_or (place_listed ps i) (Some p)) same
      (ap (option_and_then (λ (o : Option ℕ). o)) (get_set_same ps k (Some p) lt) ∙ ap (λ (o : Option ℕ). option_or o (Some p)) (sym none))
  by false test =
      let other : k ≢ t = λ (e : k ≡ t). absurd (grind (arith, nat_tests)) in
      ap (option_and_then (λ (o : Option ℕ). o)) (get_set_other ps k t (Some p) other) ∙ sym (option_or_none (place_listed ps t))

-- if it has one, nothing changes
pub listed_stays : (ps : List (Option ℕ)) (k p t : ℕ) → is_some (place_listed ps k) ≡ true
    → place_listed ps t ≡ option_or (place_listed ps t) (if k == t then Some p else None)
listed_stays ps k p t some = by (k == t) refl where
  kept : (o : Option ℕ) → is_some o ≡ true → o ≡ option_or o (Some p)
  kept None is = absurd (grind arith)
  kept (Some q) is = refl

  by : (b : Bool) → (k == t) ≡ b → place_listed ps t ≡ option_or (place_listed ps t) (if b then Some p else None)
  by true test =
      let same : k ≡ t = grind (arith, nat_tests) in
      subst (λ (i : ℕ). place_listed ps i ≡ option_or (place_listed ps i) (Some p)) same (kept (place_listed ps k) some)
  by false test = sym (option_or_none (place_listed ps t))

pub none_listed : (o : Option ℕ) → is_some o ≡ false → o ≡ None
none_listed None is = refl
none_listed (Some p) is = absurd (grind arith)

-- the place of a reply
pub place_of_reply : (b : Bool) (r : Version × Answer) (p : ℕ) → (if b then Some p else None) ≡ (if is_some (if b then Some r else None) then Some p else None)
place_of_reply true r p = refl
place_of_reply false r p = refl

-- the history goes on
pub place_more : (n : ℕ) (h : List Entry) (e : Entry) (t : ℕ) → first_place n (h ++ e ∷ []) t ≡ option_or (first_place n h t) (reply_place (n + length h) e.took.body t)
place_more n [] e t = option_or_none (reply_place n e.took.body t) ∙ ap (λ (i : ℕ). reply_place i e.took.body t) (omega arith)
place_more n (x ∷ h) e t =
    ap (option_or (reply_place n x.took.body t)) (place_more (n + 1) h e t
    ∙ ap (λ (i : ℕ). option_or (first_place (n + 1) h t) (reply_place i e.took.body t)) (omega arith))
    ∙ sym (option_or_assoc (reply_place n x.took.body t) (first_place (n + 1) h t) (reply_place (n + length (x ∷ h)) e.took.body t))

take_more : (h : List Entry) (k : ℕ) (e : Entry) → slice_get h k ≡ Some e → take (k + 1) h ≡ take k h ++ e ∷ []
take_more [] k e at = absurd (grind arith)
take_more (x ∷ h) zero e at = let same : x ≡ e = grind arith in ap (λ (y : Entry). y ∷ []) same
take_more (x ∷ h) (suc k) e at =
    ap (λ (i : ℕ). take i (x ∷ h)) (more k) ∙ ap (λ (ys : List Entry). x ∷ ys) (take_more h k e at) where
      more : (k : ℕ) → suc k + 1 ≡ suc (k + 1)
      more k = omega arith

-- so one more entry that was looked at
pub looked_more : (h : List Entry) (ps qs : List (Option ℕ)) (k t : ℕ) (e : Entry) → slice_get h k ≡ Some e → k ≡ length (take k h)
    → place_listed ps t ≡ first_place 0 (take k h) t → place_listed qs t ≡ option_or (place_listed ps t) (reply_place k e.took.body t)
    → place_listed qs t ≡ first_place 0 (take (k + 1) h) t
looked_more h ps qs k t e at length_is old new =
    new ∙ ap (λ (o : Option ℕ). option_or o (reply_place k e.took.body t)) old
    ∙ ap (λ (i : ℕ). option_or (first_place 0 (take k h) t) (reply_place i e.took.body t)) (omega (arith, length_is))
    ∙ sym (place_more 0 (take k h) e t) ∙ ap (λ (ys : List Entry). first_place 0 ys t) (sym (take_more h k e at))

pub length_more : (h : List Entry) (k : ℕ) → k < length h → k + 1 ≡ length (take (k + 1) h)
length_more h k lt = sym (length-take-le (k + 1) h (omega arith))

-- a place is one of the history
within_by : (n m p : ℕ) (o : Said) (rest : Option ℕ) → option_or (if is_some o then Some n else None) rest ≡ Some p
    → (rest ≡ Some p → (n + 1 ≤ p) × (p < n + 1 + m)) → (n ≤ p) × (p < n + suc m)
within_by n m p None rest is later = let there = later is in (omega (arith, there.0), omega (arith, there.1))
within_by n m p (Some r) rest is later = let same : n ≡ p = grind arith in (omega arith, omega arith)

pub place_within : (n : ℕ) (h : List Entry) (t p : ℕ) → first_place n h t ≡ Some p → (n ≤ p) × (p < n + length h)
place_within n [] t p is = absurd (grind arith)
place_within n (x ∷ h) t p is =
    within_by n (length h) p (reply_by t x.took.body) (first_place (n + 1) h t) is (λ rest. place_within (n + 1) h t p rest)

-- what its entry took is the first reply
first_tells : (h : List Entry) (x e : Entry) (t k : ℕ) (r : Version × Answer) → reply_by t x.took.body ≡ Some r → k ≡ 0 → slice_get (x ∷ h) k ≡ Some e
    → reply_by t e.took.body ≡ Some r
first_tells h x e t zero r here none at = let same : x ≡ e = grind arith in subst (λ (y : Entry). reply_by t y.took.body ≡ Some r) same here
first_tells h x e t (suc k) r here none at = absurd (omega arith)

later_tells : (n : ℕ) (h : List Entry) (x e : Entry) (t p k : ℕ) (next : Body) → first_place (n + 1) h t ≡ Some p → p ≡ n + k → slice_get (x ∷ h) k ≡ Some e
    → ((j : ℕ) → p ≡ n + 1 + j → slice_get h j ≡ Some e → reply_by t e.took.body ≡ reply_or_next h next t)
    → reply_by t e.took.body ≡ reply_or_next h next t
later_tells n h x e t p zero next is same at rest = absurd (omega (arith, (place_within (n + 1) h t p is).0))
later_tells n h x e t p (suc k) next is same at rest = rest k (omega arith) at

tells_by : (n : ℕ) (h : List Entry) (x e : Entry) (t p k : ℕ) (next : Body) (o : Said) → reply_by t x.took.body ≡ o
    → option_or (if is_some o then Some n else None) (first_place (n + 1) h t) ≡ Some p → p ≡ n + k → slice_get (x ∷ h) k ≡ Some e
    → ((j : ℕ) → first_place (n + 1) h t ≡ Some p → p ≡ n + 1 + j → slice_get h j ≡ Some e → reply_by t e.took.body ≡ reply_or_next h next t)
    → reply_by t e.took.body ≡ option_or (option_or o (reply_in h t)) (reply_by t next)
tells_by n h x e t p k next None here is same at rest = later_tells n h x e t p k next is same at (λ j. rest j is)
tells_by n h x e t p k next (Some r) here is same at rest =
    let there : n ≡ p = grind arith in first_tells h x e t k r here (omega arith) at

pub place_tells : (n : ℕ) (h : List Entry) (t p k : ℕ) (e : Entry) (next : Body) → first_place n h t ≡ Some p → p ≡ n + k → slice_get h k ≡ Some e
    → reply_by t e.took.body ≡ reply_or_next h next t
place_tells n [] t p k e next is same at = absurd (grind arith)
place_tells n (x ∷ h) t p k e next is same at =
    tells_by n h x e t p k next (reply_by t x.took.body) refl is same at (λ j there eq found. place_tells (n + 1) h t p j e next there eq found)

-- and where there is none, none took one
none_by : (n : ℕ) (o : Said) (place : Option ℕ) (found : Said) → option_or (if is_some o then Some n else None) place ≡ None
    → (place ≡ None → found ≡ None) → option_or o found ≡ None
none_by n None place found is rest = rest is
none_by n (Some r) place found is rest = absurd (grind arith)

pub no_place : (n : ℕ) (h : List Entry) (t : ℕ) → first_place n h t ≡ None → reply_in h t ≡ None
no_place n [] t is = refl
no_place n (x ∷ h) t is = none_by n (reply_by t x.took.body) (first_place (n + 1) h t) (reply_in h t) is (λ none. no_place (n + 1) h t none)

-- what was looked at is a front of each history that goes on
pub replies_of_front : (r : Replies) (h more : List Entry) → AreRepliesOf r h → AreRepliesOf r (take r.looked (h ++ more))
replies_of_front r h more are =
    let front : take r.looked (h ++ more) ≡ h = ap (λ (n : ℕ). take n (h ++ more)) are.looked ∙ take-append_seam h more in
    subst (λ (g : List Entry). AreRepliesOf r g) (sym front) are
