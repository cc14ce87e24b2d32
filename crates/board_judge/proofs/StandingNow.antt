-- Which locks of a transaction stand, by what it has done and voted and by where it was freed or applied: after acts
-- that are moves nothing is locked for a transaction that was let go. So what stands is what was done or voted and
-- wasn't let go.
use Rattle.std.proofs.Common.{◌≡◌, inl, inr, ◌==◌, ◌&&◌, ◌||◌, ℕ, ◌<◌, Bool, true, false, List, [], ◌∷◌, ◌++◌, length, refl, sym, ap, subst, ◌∙◌, arith, append_assoc, append-nil, take}
use Rattle.std.specs.Prelude.{if◌then◌else◌, not}
use Rattle.std.specs.List.{list_any}
use Rattle.std.proofs.lemmas.Bool.{eqb-true, or_cases}
use Rattle.std.proofs.lemmas.List.{take-append-le, take_all}
use Rattle.std.proofs.lemmas.List.Folds.{list_any-append}
use Rattle.std.proofs.lemmas.List.Sums.{fold-append}
use Rattle.tv_base.proofs.ByPlace.{slice_get_last}
use Rattle.tv_base.proofs.Truths.{left_true, right_true}
use Rattle.letter_types.specs.declared.acts.Act.{Act}
use Rattle.letter_types.specs.declared.acts.Act.TheVariants.{Born, Did, Turned, Showed, Swept, Finished, Waits, Parked, Voted, Freed, Decided, Applied}
use Rattle.letter_types.specs.declared.votes.Vote.TheVariants.{Yes, No}
use Rattle.nc_locks.specs.declared.modes.Mode.{Mode}
use Rattle.script_parts.specs.ScriptData.{ScriptData, ops_of, subs_at, updates}
use Rattle.script_parts.specs.declared.parts.SubOp.{SubOp}
use Rattle.board_rules.specs.ButCause.{IsMoveButCause, IsMoveButCauseAt}
use Rattle.board_rules.specs.Histories.{Place, applies, decides_as, is_strict_tree, is_whole_in, was_applied, was_decided_as, was_done}
use Rattle.board_rules.specs.Stands.{frees, locked_by, modes_after, modes_on, modes_standing, votes, was_freed, was_voted}
use Rattle.board_rules.proofs.ActTests.{applies_as_is, applies_as_one, decides_as_is, frees_is, releases}
use Rattle.board_rules.proofs.Once.{clash}
use Rattle.board_rules.proofs.Positions.{found_all}
use Rattle.board_rules.proofs.Wholes.{any_first, whole_all, whole_done, update_not_strict}
use Rattle.board_judge.specs.Settled.{IsMoveRun}
use Rattle.board_judge.proofs.OneMore.{asked_there, run_before}

-- What holds of no act, and goes on with one act more, holds of all lists of acts.
front_to_back : (P : List Place → Type 0) → ((xs : List Place) (x : Place) → P xs → P (xs ++ x ∷ [])) → (xs ys : List Place) → P xs
    → P (xs ++ ys)
front_to_back P step xs [] p = subst P (sym (append-nil xs)) p
front_to_back P step xs (y ∷ ys) p = subst P (append_assoc xs (y ∷ []) ys) (front_to_back P step (xs ++ y ∷ []) ys (step xs y p))

pub by_one_more : (P : List Place → Type 0) → P [] → ((xs : List Place) (x : Place) → P xs → P (xs ++ x ∷ [])) → (xs : List Place) → P xs
by_one_more P none step xs = front_to_back P step [] xs none

pub run_front : (s : ScriptData) (xs : List Place) (x : Place) → IsMoveRun s (xs ++ x ∷ []) → IsMoveRun s xs
run_front s xs x run = subst (IsMoveRun s) (take-append-le (length xs) xs (x ∷ []) (omega arith) ∙ take_all (length xs) xs (omega arith)) (run_before s (xs ++ x ∷ []) (length xs) run)

pub run_last : (s : ScriptData) (xs : List Place) (x : Place) → IsMoveRun s (xs ++ x ∷ []) → IsMoveButCause s [] xs x
run_last s xs x run =
    subst (λ (zs : List Place). IsMoveButCause s [] zs x) (take-append-le (length xs) xs (x ∷ []) (omega arith) ∙ take_all (length xs) xs (omega arith))
    (run (length xs) x (slice_get_last xs x))

-- Who is let go has done, or voted, all: nothing more is locked for it.
freed_whole : (s : ScriptData) (xs : List Place) (k p : ℕ) → IsMoveRun s xs → was_freed k p xs ≡ true
    → (updates s k ≡ true) × (is_whole_in s xs k ≡ true)
freed_whole s xs k p run is =
    let f = found_all (λ (x : Place). (x.node == p) && frees k x.act) xs is in
    let act = frees_is k f.item.act (right_true (f.item.node == p) (frees k f.item.act) f.passes) in
    let move = subst (IsMoveButCauseAt s [] (take f.place xs) f.item.node) act (run f.place f.item f.is) in
    (move.update, whole_all s f.place xs k move.whole)

decided_votes : (s : ScriptData) (xs : List Place) (k : ℕ) (commit : Bool) → IsMoveRun s xs → was_decided_as k commit xs ≡ true
    → (j : ℕ) → j < length (subs_at s k) → was_voted k j xs ≡ true
decided_votes s xs k commit run is j lt =
    let f = found_all (λ (x : Place). decides_as k commit x.act) xs is in
    let act = decides_as_is k commit f.item.act f.passes in
    let move = subst (IsMoveButCauseAt s [] (take f.place xs) f.item.node) act (run f.place f.item f.is) in
    any_first (λ (x : Place). votes k j x.act) f.place xs (move.voted j lt)

applied_votes : (s : ScriptData) (xs : List Place) (k p : ℕ) → IsMoveRun s xs → was_applied k p xs ≡ true
    → (is_strict_tree s k ≡ true) × ((j : ℕ) → j < length (subs_at s k) → was_voted k j xs ≡ true)
applied_votes s xs k p run is =
    let f = found_all (λ (x : Place). (x.node == p) && applies k x.act) xs is in
    let one = applies_as_one k f.item.act (right_true (f.item.node == p) (applies k f.item.act) f.passes) in
    let act = applies_as_is k one.0 f.item.act one.1 in
    let move = subst (IsMoveButCauseAt s [] (take f.place xs) f.item.node) act (run f.place f.item f.is) in
    let early = decided_votes s (take f.place xs) k one.0 (run_before s xs f.place run) move.decided in
    (move.strict, λ j lt. any_first (λ (x : Place). votes k j x.act) f.place xs (early j lt))

none_of_done : (s : ScriptData) (xs : List Place) (p t j k : ℕ) → (b : Bool) → ((t == k) && updates s k) ≡ b
    → ((updates s k ≡ true) → (is_whole_in s xs k ≡ true)) → was_done t j xs ≡ false → j < length (subs_at s t)
    → (if b then ops_of s k j else []) ≡ []
none_of_done s xs p t j k false is whole once lt = refl
none_of_done s xs p t j k true is whole once lt =
    let same : t ≡ k = eqb-true t k (left_true (t == k) (updates s k) is) in
    let up : updates s k ≡ true = right_true (t == k) (updates s k) is in
    let done = whole_done s xs k j up (whole up) (subst (λ (m : ℕ). j < length (subs_at s m)) same lt) in
    clash (was_done k j xs) done (subst (λ (m : ℕ). was_done m j xs ≡ false) same once)

none_of_voted : (s : ScriptData) (xs : List Place) (t j k : ℕ) (b : Bool) → (t == k) ≡ b
    → ((is_strict_tree s k ≡ true) → (i : ℕ) → i < length (subs_at s k) → was_voted k i xs ≡ true) → is_strict_tree s t ≡ true
    → was_voted t j xs ≡ false → j < length (subs_at s t) → (if b then ops_of s k j else []) ≡ []
none_of_voted s xs t j k false is all strict once lt = refl
none_of_voted s xs t j k true is all strict once lt =
    let same : t ≡ k = eqb-true t k is in
    let voted = all (subst (λ (m : ℕ). is_strict_tree s m ≡ true) same strict) j (subst (λ (m : ℕ). j < length (subs_at s m)) same lt) in
    clash (was_voted k j xs) voted (subst (λ (m : ℕ). was_voted m j xs ≡ false) same once)

-- a tree that was let go at some node
record LetGo (s : ScriptData) (xs : List Place) (k : ℕ) : Type 0 where
  whole : (updates s k ≡ true) → (is_whole_in s xs k ≡ true)
  voted : (is_strict_tree s k ≡ true) → (j : ℕ) → j < length (subs_at s k) → was_voted k j xs ≡ true

let_go : (s : ScriptData) (xs : List Place) (k p : ℕ) → IsMoveRun s xs → (was_freed k p xs || was_applied k p xs) ≡ true → LetGo s xs k
let_go s xs k p run is =
    elim (or_cases (was_freed k p xs) (was_applied k p xs) is) [
      | inl freed ↦
          let f = freed_whole s xs k p run freed in
          record { whole = λ up. f.1; voted = λ strict. clash (is_strict_tree s k) strict (update_not_strict s k f.0) }
      | inr applied ↦
          let a = applied_votes s xs k p run applied in
          record { whole = λ up. clash (is_strict_tree s k) a.0 (update_not_strict s k up); voted = λ strict. a.1 }
    ]

none_locked : (s : ScriptData) (xs : List Place) (p k : ℕ) (a : Act) → LetGo s xs k → IsMoveButCauseAt s [] xs p a → locked_by s k a ≡ []
none_locked s xs p k (Did t j values) go move =
    none_of_done s xs p t.0 j.0 k ((t.0 == k) && updates s k) refl go.whole move.once
    (asked_there (λ (i : ℕ). was_done t.0 i xs) j.0 (subs_at s t.0) move.asked)
none_locked s xs p k (Voted t j (Yes values)) go move =
    none_of_voted s xs t.0 j.0 k (t.0 == k) refl go.voted move.strict move.once
    (asked_there (λ (i : ℕ). was_voted t.0 i xs) j.0 (subs_at s t.0) move.asked)
none_locked s xs p k (Voted t j (No cause)) go move = refl
none_locked s xs p k (Born u v) go move = refl
none_locked s xs p k (Turned v) go move = refl
none_locked s xs p k (Showed v) go move = refl
none_locked s xs p k (Swept v) go move = refl
none_locked s xs p k Finished go move = refl
none_locked s xs p k (Waits u b c) go move = refl
none_locked s xs p k (Parked u b c h) go move = refl
none_locked s xs p k (Freed u) go move = refl
none_locked s xs p k (Decided u d) go move = refl
none_locked s xs p k (Applied u d) go move = refl

-- What stands.
-- the act locks for tree k, on item x, in a mode that passes
abbrev pub locks_on : ScriptData → ℕ → ℕ → (Mode → Bool) → Place → Bool
locks_on s x k test y = list_any test (modes_on x (locked_by s k y.act))

-- one truth of another act more
now_or : (f g n h r l a : Bool) → (((f || (n && h)) || (g || (n && r))) ≡ ((f || g) || (n && (h || r))))
now_or true g n h r l a = refl
now_or false true true true r l a = refl
now_or false true true false r l a = refl
now_or false true false h r l a = refl
now_or false false true true r l a = refl
now_or false false true false r l a = refl
now_or false false false h r l a = refl

stand_by : (go now locked more : Bool) → (go ≡ true → more ≡ false) → ((not go && locked) || more) ≡ (not go && (locked || more))
stand_by true now locked true none = absurd (cc (none refl))
stand_by true now locked false none = refl
stand_by false now locked more none = refl

module _ (s : ScriptData) (p x k : ℕ) (test : Mode → Bool) where
  abbrev gone : List Place → Bool
  gone xs = was_freed k p xs || was_applied k p xs

  abbrev stands_so : List Place → Type 0
  stands_so xs = list_any test (modes_standing s xs p x k) ≡ (not (gone xs) && list_any (locks_on s x k test) xs)

  or_last : (a b : Bool) → (a || (b || false)) ≡ (a || b)
  or_last true b = refl
  or_last false true = refl
  or_last false false = refl

  gone_more : (xs : List Place) (y : Place) → gone (xs ++ y ∷ []) ≡ (gone xs || ((y.node == p) && releases k y.act))
  gone_more xs y =
      let one = list_any-append (λ (z : Place). (z.node == p) && frees k z.act) xs (y ∷ []) ∙ or_last (was_freed k p xs) ((y.node == p) && frees k y.act) in
      let two = list_any-append (λ (z : Place). (z.node == p) && applies k z.act) xs (y ∷ []) ∙ or_last (was_applied k p xs) ((y.node == p) && applies k y.act) in
      ap (λ (b : Bool). b || was_applied k p (xs ++ y ∷ [])) one
      ∙ ap (λ (b : Bool). (was_freed k p xs || ((y.node == p) && frees k y.act)) || b) two
      ∙ now_or (was_freed k p xs) (was_applied k p xs) (y.node == p) (frees k y.act) (applies k y.act) true true

  stand_more : (xs : List Place) (y : Place) → IsMoveRun s (xs ++ y ∷ []) → stands_so xs → (released : Bool)
      → ((y.node == p) && releases k y.act) ≡ released → stands_so (xs ++ y ∷ [])
  stand_more xs y run before released is =
      ap (list_any test) (fold-append (modes_after s p x k) [] xs (y ∷ []))
      ∙ by released is
      ∙ sym (ap (λ (b : Bool). not b && list_any (locks_on s x k test) (xs ++ y ∷ [])) (gone_more xs y)) where
        none : gone xs ≡ true → locks_on s x k test y ≡ false
        none go = ap (λ (os : List SubOp). list_any test (modes_on x os)) (none_locked s xs y.node k y.act (let_go s xs k p (run_front s xs y run) go) (run_last s xs y run))

        by : (b : Bool) → ((y.node == p) && releases k y.act) ≡ b
            → list_any test (if ((y.node == p) && releases k y.act) then [] else modes_standing s xs p x k ++ modes_on x (locked_by s k y.act))
            ≡ (not (gone xs || ((y.node == p) && releases k y.act)) && list_any (locks_on s x k test) (xs ++ y ∷ []))
        by true at = rw at (sym (ap (λ (b : Bool). not b && list_any (locks_on s x k test) (xs ++ y ∷ [])) (or_true (gone xs)))) where
          or_true : (b : Bool) → (b || true) ≡ true
          or_true true = refl
          or_true false = refl
        by false at = rw at
            (list_any-append test (modes_standing s xs p x k) (modes_on x (locked_by s k y.act))
            ∙ ap (λ (b : Bool). b || locks_on s x k test y) before
            ∙ stand_by (gone xs) false (list_any (locks_on s x k test) xs) (locks_on s x k test y) none
            ∙ ap (λ (b : Bool). not (gone xs) && b) (sym (list_any-append (locks_on s x k test) xs (y ∷ []) ∙ or_last (list_any (locks_on s x k test) xs) (locks_on s x k test y)))
            ∙ ap (λ (b : Bool). not b && list_any (locks_on s x k test) (xs ++ y ∷ [])) (sym (or_no (gone xs)))) where
              or_no : (b : Bool) → (b || false) ≡ b
              or_no true = refl
              or_no false = refl

  -- after moves, tree k has item x in a mode that passes where it was not let go at p, and has locked x in such a mode
  pub stands_where : (xs : List Place) → IsMoveRun s xs
      → list_any test (modes_standing s xs p x k) ≡ (not (was_freed k p xs || was_applied k p xs) && list_any (locks_on s x k test) xs)
  stands_where = by_one_more (λ xs. IsMoveRun s xs → stands_so xs) (λ run. refl)
      (λ xs y before run. stand_more xs y run (before (run_front s xs y run)) ((y.node == p) && releases k y.act) refl)
