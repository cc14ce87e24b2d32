-- The places of two histories, one after the other, and what holds of each act.
use Rattle.std.proofs.Common.{◌≡◌, ℕ, Bool, true, take, List, ◌∷◌, ◌++◌, refl, ap, sym, ◌∙◌, append_assoc, [], reverse}
use Rattle.std.specs.Prelude.{◌||◌, ◌&&◌, ◌==◌, Option, Some, None, is_some}
use Rattle.std.specs.Option.{option_or}
use Rattle.std.proofs.lemmas.List.Folds.{list_any-append}
use Rattle.std.proofs.lemmas.List.{append-nil, reverse-append}
use Rattle.letter_types.specs.declared.entries.Entry.{Entry}
use Rattle.board_rules.specs.Histories.{Place, applies, born_as, decides_as, does, places_at, places_of, version_in, was_applied, was_decided_as, was_done}
use Rattle.board_rules.specs.Moves.{AtEachAct, OneByOne}
use Rattle.board_rules.specs.Right.{finishes, has_finished}

pub places_of-append : (a b : List Entry) → places_of (a ++ b) ≡ places_of a ++ places_of b
places_of-append [] b = refl
places_of-append (e ∷ a) b =
    ap (λ (xs : List Place). places_at e ++ xs) (places_of-append a b)
    ∙ sym (append_assoc (places_at e) (places_of a) (places_of b))

pub option_or_assoc : {T : Type 0} (a b c : Option T) → option_or (option_or a b) c ≡ option_or a (option_or b c)
option_or_assoc None b c = refl
option_or_assoc (Some x) b c = refl

pub option_or_none : {T : Type 0} (o : Option T) → option_or o None ≡ o
option_or_none None = refl
option_or_none (Some x) = refl

pub version_in-append : (t : ℕ) (a b : List Place) → version_in t (a ++ b) ≡ option_or (version_in t a) (version_in t b)
version_in-append t [] b = refl
version_in-append t (x ∷ a) b =
    ap (λ o. option_or (born_as t x.act) o) (version_in-append t a b)
    ∙ sym (option_or_assoc (born_as t x.act) (version_in t a) (version_in t b))

some_or : {T : Type 0} (a b : Option T) → is_some a ≡ true → option_or a b ≡ a
some_or None b is = absurd (cc is)
some_or (Some x) b is = refl

-- the version of a tree that is born stays
pub version_stays : (t : ℕ) (xs ys : List Place) → is_some (version_in t xs) ≡ true → version_in t (xs ++ ys) ≡ version_in t xs
version_stays t xs ys is = version_in-append t xs ys ∙ some_or (version_in t xs) (version_in t ys) is

pub was_done-append : (t k : ℕ) (a b : List Place) → was_done t k (a ++ b) ≡ (was_done t k a || was_done t k b)
was_done-append t k a b = list_any-append (λ (x : Place). does t k x.act) a b

pub was_decided_as-append : (t : ℕ) (commit : Bool) (a b : List Place)
    → was_decided_as t commit (a ++ b) ≡ (was_decided_as t commit a || was_decided_as t commit b)
was_decided_as-append t commit a b = list_any-append (λ (x : Place). decides_as t commit x.act) a b

pub was_applied-append : (t p : ℕ) (a b : List Place)
    → was_applied t p (a ++ b) ≡ (was_applied t p a || was_applied t p b)
was_applied-append t p a b = list_any-append (λ (x : Place). (x.node == p) && applies t x.act) a b

pub has_finished-append : (a b : List Place) → has_finished (a ++ b) ≡ (has_finished a || has_finished b)
has_finished-append a b = list_any-append (λ (x : Place). finishes x.act) a b

-- What holds of each act, and what follows for it.
pub one_by_one_map : (P Q : List Place → Place → Type 0) (xs ys : List Place) → ((zs : List Place) (y : Place) → P zs y → Q zs y)
    → OneByOne P xs ys → OneByOne Q xs ys
one_by_one_map P Q xs [] step all = tt
one_by_one_map P Q xs (y ∷ ys) step all = (step xs y all.0, one_by_one_map P Q (xs ++ y ∷ []) ys step all.1)

pub at_each_act_map : (P Q : List Entry → List Place → Place → Type 0) (h : List Entry)
    → ((before : List Entry) (xs : List Place) (x : Place) → P before xs x → Q before xs x) → AtEachAct P h → AtEachAct Q h
at_each_act_map P Q h step all = λ n e here.
    one_by_one_map (P (take n h)) (Q (take n h)) (places_of (take n h)) (places_at e) (step (take n h)) (all n e here)

-- the acts of a past with one entry more
pub places_more : (e : Entry) (past : List Entry) → places_of (reverse (e ∷ past)) ≡ places_of (reverse past) ++ places_at e
places_more e past =
    ap places_of (reverse-append (e ∷ []) past) ∙ places_of-append (reverse past) (e ∷ [])
    ∙ ap (λ (xs : List Place). places_of (reverse past) ++ xs) (append-nil (places_at e))
