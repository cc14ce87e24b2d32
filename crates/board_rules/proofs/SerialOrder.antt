-- Who is in the serial order.
use Rattle.std.proofs.Common.{◌≡◌, ℕ, zero, suc, ◌<◌, Bool, true, false, List, refl, ap, sym, ◌∙◌, arith}
use Rattle.std.specs.Prelude.{if◌then◌else◌, nat_le, ◌||◌, ◌&&◌, ◌==◌, Option, Some, None}
use Rattle.std.proofs.lemmas.Bool.Decides.{nat_tests}
use Rattle.std.proofs.lemmas.Bool.{and_left}
use Rattle.tv_base.specs.declared.numbers.Version.{Version}
use Rattle.tv_base.proofs.Truths.{left_true}
use Rattle.letter_types.specs.declared.acts.Act.{Act}
use Rattle.letter_types.specs.declared.acts.Act.TheVariants.{Born, Did, Turned, Showed, Swept, Finished, Waits, Parked, Voted, Freed, Decided, Applied}
use Rattle.letter_types.specs.declared.entries.Entry.{Entry}
use Rattle.script_parts.specs.ScriptData.{ScriptData, updates}
use Rattle.board_rules.specs.Histories.{Place, all_done, does, places_of, version_in, was_done}
use Rattle.board_rules.specs.Serial.{commits_by, commit_order, is_in, is_member_in, is_settled_in, is_version, members_in, serial_in, serial_to}
use Rattle.board_rules.proofs.Closings.{AreApart, closings_apart, is_tree}
use Rattle.board_rules.proofs.Once.{has_append, has_filter, numbers_equal, once_append, once_kept, same_number}

-- a version that is there, and at most v
abbrev pub is_up_to : ℕ → Option Version → Bool
is_up_to v None = false
is_up_to v (Some w) = nat_le w.0 v

at_zero : (o : Option Version) → is_version zero o ≡ is_up_to zero o
at_zero None = refl
at_zero (Some w) = grind (arith, nat_tests)

at_next : (v : ℕ) (o : Option Version) → (is_up_to v o || is_version (suc v) o) ≡ is_up_to (suc v) o
at_next v None = refl
at_next v (Some w) = grind (arith, nat_tests)

or_and : (a b c d : Bool) → (((a && c) && d) || ((b && c) && d)) ≡ (((a || b) && c) && d)
or_and true true true true = refl
or_and true true true false = refl
or_and true true false d = refl
or_and true false true true = refl
or_and true false true false = refl
or_and true false false d = refl
or_and false true true true = refl
or_and false true true false = refl
or_and false true false d = refl
or_and false false c d = refl

pub is_in-members_in : (s : ScriptData) (xs : List Place) (v t : ℕ)
    → is_in t (members_in s xs v) ≡ (is_member_in s xs v t && is_in t (commit_order s xs))
is_in-members_in s xs v t = has_filter same_number numbers_equal (is_member_in s xs v) t (commit_order s xs)

-- a tree is in the order where it is settled, is of version at most v, and has been closed
pub is_in-serial_in : (s : ScriptData) (xs : List Place) (v t : ℕ)
    → is_in t (serial_in s xs v) ≡ ((is_up_to v (version_in t xs) && is_settled_in s xs t) && is_in t (commit_order s xs))
is_in-serial_in s xs zero t =
    is_in-members_in s xs zero t
    ∙ ap (λ (b : Bool). (b && is_settled_in s xs t) && is_in t (commit_order s xs)) (at_zero (version_in t xs))
is_in-serial_in s xs (suc v) t =
    let c : Bool = is_in t (commit_order s xs) in
    let o : Option Version = version_in t xs in
    has_append same_number numbers_equal t (serial_in s xs v) (members_in s xs (suc v))
    ∙ ap (λ (b : Bool). b || is_in t (members_in s xs (suc v))) (is_in-serial_in s xs v t)
    ∙ ap (λ (b : Bool). ((is_up_to v o && is_settled_in s xs t) && c) || b) (is_in-members_in s xs (suc v) t)
    ∙ or_and (is_up_to v o) (is_version (suc v) o) (is_settled_in s xs t) c
    ∙ ap (λ (b : Bool). (b && is_settled_in s xs t) && c) (at_next v o)

-- a version isn't both at most v and the next one
not_next : (v : ℕ) (o : Option Version) → is_up_to v o ≡ true → is_version (suc v) o ≡ false
not_next v None e = refl
not_next v (Some w) e = grind (arith, nat_tests)

-- each tree occurs there once
pub serial_in_apart : (s : ScriptData) (xs : List Place) (v : ℕ) → AreApart (serial_in s xs v)
serial_in_apart s xs zero = once_kept same_number numbers_equal (is_member_in s xs zero) (commit_order s xs) (closings_apart s xs)
serial_in_apart s xs (suc v) =
    once_append same_number numbers_equal (serial_in s xs v) (members_in s xs (suc v)) (serial_in_apart s xs v)
    (once_kept same_number numbers_equal (is_member_in s xs (suc v)) (commit_order s xs) (closings_apart s xs))
    (λ (t : ℕ) here.
    let o : Option Version = version_in t xs in
    let all = sym (is_in-serial_in s xs v t) ∙ here in
    let up : is_up_to v o ≡ true
    = left_true (is_up_to v o) (is_settled_in s xs t) (left_true (is_up_to v o && is_settled_in s xs t) (is_in t (commit_order s xs)) all) in
    is_in-members_in s xs (suc v) t
    ∙ and_left (is_member_in s xs (suc v) t) (is_in t (commit_order s xs))
    (and_left (is_version (suc v) o) (is_settled_in s xs t) (not_next v o up)))

pub serial_to_apart : (s : ScriptData) (h : List Entry) (v : ℕ) → AreApart (serial_to s h v)
serial_to_apart s h v = serial_in_apart s (places_of h) v

-- a Did of an update tree closes it
pub did_closes : (s : ScriptData) (t k : ℕ) (act : Act) → updates s t ≡ true → does t k act ≡ true → is_tree t (commits_by s act) ≡ true
did_closes s t k (Did u j values) up h = did u.0 j.0 (u.0 == t) refl up h where
  did : (u j : ℕ) (b : Bool) → (u == t) ≡ b → updates s t ≡ true → (b && (j == k)) ≡ true
      → is_tree t (if updates s u then Some u else None) ≡ true
  did u j false e up h = absurd (cc h)
  did u j true e up h =
      let same : t ≡ u = grind (arith, nat_tests) in
      let there : updates s u ≡ true = sym (ap (updates s) same) ∙ up in
      ap (λ (b : Bool). is_tree t (if b then Some u else None)) there ∙ e
did_closes s t k (Born u v) up h = absurd (cc h)
did_closes s t k (Turned v) up h = absurd (cc h)
did_closes s t k (Showed v) up h = absurd (cc h)
did_closes s t k (Swept v) up h = absurd (cc h)
did_closes s t k Finished up h = absurd (cc h)
did_closes s t k (Waits u a b) up h = absurd (cc h)
did_closes s t k (Parked u a b c) up h = absurd (cc h)
did_closes s t k (Voted u a b) up h = absurd (cc h)
did_closes s t k (Freed u) up h = absurd (cc h)
did_closes s t k (Decided u c) up h = absurd (cc h)
did_closes s t k (Applied u c) up h = absurd (cc h)

-- where all are done, so is each
pub done_of : (t n k : ℕ) (xs : List Place) → k < n → all_done t n xs ≡ true → was_done t k xs ≡ true
done_of t zero k xs small h = absurd (omega arith)
done_of t (suc n) k xs small h =
    let rest : k < n → all_done t n xs ≡ true → was_done t k xs ≡ true = done_of t n k xs in
    grind (arith, nat_tests)
