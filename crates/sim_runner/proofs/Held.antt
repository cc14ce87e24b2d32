-- A run that is held: its letters stay as they were chosen, in each step and where the script goes on.
use Rattle.std.proofs.Common.{◌≡◌, ℕ, zero, suc, ◌%◌, ◌∙◌, false, List, [], ◌∷◌, ◌++◌, length, reverse, Option, Some, None, refl, sym, ap, subst}
use Rattle.std.specs.Prelude.{IfSome, OnOk, Result, Ok, Err, slice_get}
use Rattle.tv_base.specs.declared.numbers.NoMemory.{NoMemory}
use Rattle.std.proofs.lemmas.List.{append_assoc, append-nil, reverse-append}
use Rattle.letter_types.specs.declared.entries.Entry.{Entry}
use Rattle.letter_types.specs.declared.entries.Letter.{Letter}
use Rattle.tx_trees.specs.ScriptData.{ScriptData}
use Rattle.growth_laws.specs.Growth.{Extends, IsFront}
use Rattle.growth_laws.proofs.Orders.{schedules_grow}
use Rattle.world_model.specs.Runs.{IsStepRun, client_in}
use Rattle.world_model.specs.Scheduled.{waiting_at}
use Rattle.world_core.specs.Actors.{IsWorldOf, TookLetter, WorldData}
use Rattle.world_core.specs.Growth.{StaysUnfinished}
use Rattle.sim_runner.specs.Held.{Chose, HeldData, IsChosenNext, IsRunBy}
use Rattle.sim_runner.specs.Pickers.{IsPickedBy, picked_at, picker_at}
use Rattle.sim_runner.proofs.Picked.{picked_more, picked_none, picker_first, picker_more}

-- a step of a world leaves the client unfinished, if its letter does
pub unfinished_step : (s : ScriptData) (old new : WorldData) (k : ℕ) → TookLetter k old new → IsWorldOf s new
    → IfSome (slice_get old.bag k) (StaysUnfinished s (reverse old.history))
    → (client_in s (reverse old.history)).finished ≡ false → (client_in s (reverse new.history)).finished ≡ false
unfinished_step s old new k took world stays is =
    let past : List Entry = reverse old.history in
    let e : Entry = took.0 in
    let back : reverse new.history ≡ e ∷ past = ap (λ (h : List Entry). reverse h) took.1 ∙ reverse-append old.history (e ∷ []) in
    let of : StaysUnfinished s past e.took = subst (λ (o : Option Letter). IfSome o (StaysUnfinished s past)) took.2 stays in
    ap (λ (p : List Entry). (client_in s p).finished) back
    ∙ of e refl (subst (λ (p : List Entry). IsStepRun s p) back world.run) ∙ is

-- entries come behind those that are there
pub front_all : (h : List Entry) → IsFront h h
front_all h = ([], sym (append-nil h))

pub front_more : (first old new : List Entry) (e : Entry) → IsFront first old → new ≡ old ++ e ∷ [] → IsFront first new
front_more first old new e front is =
    (front.0 ++ e ∷ [], is ∙ ap (λ (h : List Entry). h ++ e ∷ []) front.1 ∙ append_assoc first front.0 (e ∷ []))

module _ {P : Type 0} (place : P → List Letter → ℕ) (after : P → List Letter → P) where
  abbrev By : ScriptData → P → HeldData P → Type 0
  By s start r = IsRunBy place after s start r

  -- before the first step
  pub run_first : (s : ScriptData) (start : P) (w : WorldData) → IsWorldOf s w → w.history ≡ []
      → By s start (record { world = w; picker = start; chosen = None })
  run_first s start w world none = record {
    world = world;
    picked = picked_none place after s start w.history none;
    next = picker_first place after s start w.history none;
  }

  -- the next letter is chosen
  pub run_chosen : (s : ScriptData) (start : P) (r : HeldData P) (k : ℕ) (q : P) → By s start r → r.chosen ≡ None
      → Chose place after r.picker r.world.bag k q → By s start (record { world = r.world; picker = q; chosen = Some k })
  run_chosen s start r k q by none chose =
      let now : r.picker ≡ picker_at after s start r.world.history (length r.world.history) =
      subst (λ (o : Option ℕ). IsChosenNext place after (picker_at after s start r.world.history (length r.world.history)) r.world.bag o r.picker) none by.next in
      record {
        world = by.world;
        picked = by.picked;
        next = subst (λ (p : P). Chose place after p r.world.bag k q) now chose;
      }

  -- and taken
  pub run_taken : (s : ScriptData) (start : P) (r : HeldData P) (k : ℕ) (new : WorldData) → By s start r → r.chosen ≡ Some k
      → TookLetter k r.world new → IsWorldOf s new → By s start (record { world = new; picker = r.picker; chosen = None })
  run_taken s start r k new by at took world =
      let h : List Entry = r.world.history in
      let p : P = picker_at after s start h (length h) in
      let chose : Chose place after p r.world.bag k r.picker =
      subst (λ (o : Option ℕ). IsChosenNext place after p r.world.bag o r.picker) at by.next in
      record {
        world = world;
        picked = picked_more place after s start r.world new p k by.world by.picked refl chose.at took;
        next = picker_more place after s start r.world new p r.picker k by.world refl chose.next took;
      }

  module _ (s t : ScriptData) (start : P) (same : (h : List Entry) (k : ℕ) → waiting_at t h k ≡ waiting_at s h k) where
    picker_same : (h : List Entry) (k : ℕ) → picker_at after t start h k ≡ picker_at after s start h k
    picker_same h zero = refl
    picker_same h (suc k) =
        ap (λ (q : P). after q (waiting_at t h k)) (picker_same h k)
        ∙ ap (λ (ls : List Letter). after (picker_at after s start h k) ls) (same h k)

    picked_same : (h : List Entry) (k : ℕ) → picked_at place after t start h k ≡ picked_at place after s start h k
    picked_same h k =
        ap (λ (q : P). place q (waiting_at t h k)) (picker_same h k)
        ∙ ap (λ (ls : List Letter). place (picker_at after s start h k) ls) (same h k)

    picked_too : (h : List Entry) → IsPickedBy place after s start h → IsPickedBy place after t start h
    picked_too h picked k e at =
        subst (λ (n : ℕ). slice_get (waiting_at t h k) (n % length (waiting_at t h k)) ≡ Some e.took) (sym (picked_same h k))
        (subst (λ (ls : List Letter). slice_get ls (picked_at place after s start h k % length ls) ≡ Some e.took) (sym (same h k)) (picked k e at))

  -- where the script goes on, the same letters were chosen
  pub run_grown : (s t : ScriptData) (start : P) (r : HeldData P) (new : WorldData) → Extends s t → By s start r → IsWorldOf t new
      → new.history ≡ r.world.history → new.bag ≡ r.world.bag
      → By t start (record { world = new; picker = r.picker; chosen = r.chosen })
  run_grown s t start r new extends by world history bag =
      let same : (h : List Entry) (k : ℕ) → waiting_at t h k ≡ waiting_at s h k =
      λ (h : List Entry) (k : ℕ). (schedules_grow s t None h k extends).0 in
      let h : List Entry = r.world.history in
      record {
        world = world;
        picked = subst (λ (g : List Entry). IsPickedBy place after t start g) (sym history) (picked_too s t start same h by.picked);
        next =
            subst (λ (ls : List Letter). IsChosenNext place after (picker_at after t start new.history (length new.history)) ls r.chosen r.picker) (sym bag)
            (subst (λ (g : List Entry). IsChosenNext place after (picker_at after t start g (length g)) r.world.bag r.chosen r.picker) (sym history)
            (subst (λ (p : P). IsChosenNext place after p r.world.bag r.chosen r.picker) (sym (picker_same s t start same h (length h))) by.next));
      }

  pub run_grown_if : {T : Type 0} (s t : ScriptData) (start : P) (r : HeldData P) (new : WorldData) (res : Result T NoMemory) → Extends s t → By s start r
      → OnOk res (IsWorldOf t new) → new.history ≡ r.world.history → new.bag ≡ r.world.bag
      → OnOk res (By t start (record { world = new; picker = r.picker; chosen = r.chosen }))
  run_grown_if s t start r new (Ok done) extends by world history bag = run_grown s t start r new extends by world history bag
  run_grown_if s t start r new (Err e) extends by world history bag = tt
