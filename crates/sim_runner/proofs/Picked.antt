-- A history whose messages a picker chose, entry by entry.
use Rattle.std.proofs.Common.{◌≡◌, ℕ, zero, suc, ◌%◌, ◌<◌, ◌≤◌, ◌⊎◌, inl, inr, List, [], ◌∷◌, ◌++◌, length, take, reverse, Some, refl, sym, ap, ◌∙◌, subst, arith}
use Rattle.std.specs.Prelude.{slice_get}
use Rattle.std.proofs.lemmas.List.{length-append}
use Rattle.tv_base.proofs.ByPlace.{slice_get_split}
use Rattle.letter_types.specs.declared.entries.Entry.{Entry}
use Rattle.letter_types.specs.declared.entries.Letter.{Letter}
use Rattle.tx_trees.specs.ScriptData.{ScriptData}
use Rattle.world_model.specs.Runs.{in_flight}
use Rattle.world_model.specs.Scheduled.{waiting_at}
use Rattle.world_core.specs.Actors.{IsWorldOf, TookLetter, WorldData}
use Rattle.sim_runner.specs.Pickers.{IsPickedBy, picked_at, picker_at}

take_front : (k : ℕ) (h t : List Entry) → k ≤ length h → take k (h ++ t) ≡ take k h
take_front zero h t le = refl
take_front (suc k) [] t le = absurd (omega arith)
take_front (suc k) (e ∷ h) t le = ap (λ (xs : List Entry). e ∷ xs) (take_front k h t (omega arith))

take_whole : (h : List Entry) → take (length h) h ≡ h
take_whole [] = refl
take_whole (e ∷ h) = ap (λ (xs : List Entry). e ∷ xs) (take_whole h)

-- the letters in flight before an entry are told by the entries before it
same_before : (s : ScriptData) (h t : List Entry) (k : ℕ) → k ≤ length h → waiting_at s (h ++ t) k ≡ waiting_at s h k
same_before s h t k le = ap (λ (xs : List Entry). in_flight s (reverse xs)) (take_front k h t le)

all_before : (s : ScriptData) (h : List Entry) → waiting_at s h (length h) ≡ in_flight s (reverse h)
all_before s h = ap (λ (xs : List Entry). in_flight s (reverse xs)) (take_whole h)

-- at the place of a number, in the letters that wait
abbrev At : List Letter → ℕ → Letter → Type 0
At ls n l = slice_get ls (n % length ls) ≡ Some l

module _ {P : Type 0} (place : P → List Letter → ℕ) (after : P → List Letter → P) (s : ScriptData) (p : P) where
  -- so is the picker
  picker_before : (h t : List Entry) (k : ℕ) → k ≤ length h → picker_at after s p (h ++ t) k ≡ picker_at after s p h k
  picker_before h t zero le = refl
  picker_before h t (suc k) le =
      ap (λ (q : P). after q (waiting_at s (h ++ t) k)) (picker_before h t k (omega arith))
      ∙ ap (λ (ls : List Letter). after (picker_at after s p h k) ls) (same_before s h t k (omega arith))

  -- and the number that it names
  picked_before : (h t : List Entry) (k : ℕ) → k ≤ length h
      → picked_at place after s p (h ++ t) k ≡ picked_at place after s p h k
  picked_before h t k le =
      ap (λ (q : P). place q (waiting_at s (h ++ t) k)) (picker_before h t k le)
      ∙ ap (λ (ls : List Letter). place (picker_at after s p h k) ls) (same_before s h t k le)

  -- what was taken before an entry more stays as it was chosen
  stays : (h t : List Entry) (f : Entry) (k : ℕ) → k ≤ length h → At (waiting_at s h k) (picked_at place after s p h k) f.took
      → At (waiting_at s (h ++ t) k) (picked_at place after s p (h ++ t) k) f.took
  stays h t f k le at =
      subst (λ (n : ℕ). At (waiting_at s (h ++ t) k) n f.took) (sym (picked_before h t k le))
      (subst (λ (ls : List Letter). At ls (picked_at place after s p h k) f.took) (sym (same_before s h t k le)) at)

  one_more : (h : List Entry) (e f : Entry) (k : ℕ) → IsPickedBy place after s p h
      → At (waiting_at s h (length h)) (picked_at place after s p h (length h)) e.took
      → ((k < length h) × (slice_get h k ≡ Some f)) ⊎ ((k ≡ length h) × (e ≡ f))
      → At (waiting_at s (h ++ e ∷ []) k) (picked_at place after s p (h ++ e ∷ []) k) f.took
  one_more h e f k picked at (inl there) = stays h (e ∷ []) f k (omega (arith, there.0)) (picked k f there.1)
  one_more h e f k picked at (inr last) =
      subst (λ (x : Entry). At (waiting_at s (h ++ e ∷ []) k) (picked_at place after s p (h ++ e ∷ []) k) x.took) last.1
      (subst (λ (n : ℕ). At (waiting_at s (h ++ e ∷ []) n) (picked_at place after s p (h ++ e ∷ []) n) e.took) (sym last.0)
      (stays h (e ∷ []) e (length h) (omega arith) at))

  -- no entry
  pub picked_none : (h : List Entry) → h ≡ [] → IsPickedBy place after s p h
  picked_none [] is k e at = absurd (cc at)
  picked_none (x ∷ h) is k e at = absurd (cc is)

  pub picker_first : (h : List Entry) → h ≡ [] → p ≡ picker_at after s p h (length h)
  picker_first [] is = refl
  picker_first (x ∷ h) is = absurd (cc is)

  -- the picker after the last entry
  abbrev pub IsAfter : List Entry → P → Type 0
  IsAfter h q = q ≡ picker_at after s p h (length h)

  -- a world takes the letter that the picker chooses
  pub picked_more : (old new : WorldData) (q : P) (taken : ℕ) → IsWorldOf s old → IsPickedBy place after s p old.history
      → IsAfter old.history q → taken ≡ place q old.bag % length old.bag → TookLetter taken old new
      → IsPickedBy place after s p new.history
  picked_more old new q taken world picked is at took =
      let h = old.history in
      let e = took.0 in
      let bag : old.bag ≡ waiting_at s h (length h) = world.bag ∙ sym (all_before s h) in
      let here : At old.bag (place q old.bag) e.took = subst (λ (i : ℕ). slice_get old.bag i ≡ Some e.took) at took.2 in
      let told : At (waiting_at s h (length h)) (place q (waiting_at s h (length h))) e.took =
      subst (λ (ls : List Letter). At ls (place q ls) e.took) bag here in
      let named : At (waiting_at s h (length h)) (picked_at place after s p h (length h)) e.took =
      subst (λ (r : P). At (waiting_at s h (length h)) (place r (waiting_at s h (length h))) e.took) is told in
      subst (λ (xs : List Entry). IsPickedBy place after s p xs) (sym took.1)
      (λ k f there. one_more h e f k picked named (slice_get_split h e k f there))

  -- and what the picker is then
  after_last : (h : List Entry) (e : Entry) (q : P) → IsAfter h q
      → after q (waiting_at s h (length h)) ≡ picker_at after s p (h ++ e ∷ []) (suc (length h))
  after_last h e q is =
      ap (λ (r : P). after r (waiting_at s h (length h))) (is ∙ sym (picker_before h (e ∷ []) (length h) (omega arith)))
      ∙ ap (λ (ls : List Letter). after (picker_at after s p (h ++ e ∷ []) (length h)) ls) (sym (same_before s h (e ∷ []) (length h) (omega arith)))

  pub picker_more : (old new : WorldData) (q r : P) (taken : ℕ) → IsWorldOf s old → IsAfter old.history q → r ≡ after q old.bag
      → TookLetter taken old new → IsAfter new.history r
  picker_more old new q r taken world is next took =
      let h = old.history in
      let e = took.0 in
      let bag : old.bag ≡ waiting_at s h (length h) = world.bag ∙ sym (all_before s h) in
      let count : suc (length h) ≡ length (h ++ e ∷ []) = omega (arith, length-append h (e ∷ [])) in
      subst (λ (xs : List Entry). IsAfter xs r) (sym took.1)
      (next ∙ ap (λ (ls : List Letter). after q ls) bag ∙ after_last h e q is
      ∙ ap (λ (n : ℕ). picker_at after s p (h ++ e ∷ []) n) count)
