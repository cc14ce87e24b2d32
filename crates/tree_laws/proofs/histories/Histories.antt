-- A history with one entry more, and what holds of every act then.
use Rattle.std.proofs.Common.{◌≡◌, ℕ, zero, suc, ◌+◌, ◌-◌, ◌<◌, ◌≤◌, List, [], ◌∷◌, ◌++◌, length, take, drop, reverse, refl, sym, ◌∙◌, subst, arith, Some, inl, inr}
use Rattle.std.specs.Prelude.{slice_get}
use Rattle.std.proofs.lemmas.Bool.{cases_lt}
use Rattle.std.proofs.lemmas.List.{take-append-le, take_all, length-append, length-reverse}
use Rattle.tv_base.proofs.ByPlace.{slice_get_split}
use Rattle.letter_types.specs.declared.entries.Entry.{Entry}
use Rattle.tx_trees.specs.ScriptData.{ScriptData}
use Rattle.board_rules.specs.Histories.{Place, places_at, places_of}
use Rattle.board_rules.specs.Moves.{AtEachAct, OneByOne}
use Rattle.world_model.specs.Runs.{IsStepRun}
use Rattle.world_model.proofs.Bridge.{reverse_more}

-- up to an earlier entry
pub earlier : (e : Entry) (past : List Entry) (n : ℕ) → n ≤ length (reverse past)
    → take n (reverse past) ≡ take n (reverse (e ∷ past))
earlier e past n le = rw (reverse_more e past) (sym (take-append-le n (reverse past) (e ∷ []) le))

-- up to the last entry
whole : (e : Entry) (past : List Entry) (n : ℕ) → length (reverse past) < n
    → reverse (e ∷ past) ≡ take n (reverse (e ∷ past))
whole e past n lt =
    let all : length (reverse past ++ e ∷ []) ≤ n = omega (arith, length-append (reverse past) (e ∷ [])) in
    rw (reverse_more e past) (sym (take_all n (reverse past ++ e ∷ []) all))

-- up to before the last entry
before_last : (e : Entry) (past : List Entry) (n : ℕ) → n ≡ length (reverse past)
    → reverse past ≡ take n (reverse (e ∷ past))
before_last e past n is =
    sym (take_all n (reverse past) (omega (arith, is))) ∙ earlier e past n (omega (arith, is))

-- what holds of each entry and the history before it, with one entry more
pub before_more : (P : List Entry → Entry → Type 0) (e : Entry) (past : List Entry)
    → ((n : ℕ) (x : Entry) → slice_get (reverse past) n ≡ Some x → P (take n (reverse past)) x) → P (reverse past) e
    → (n : ℕ) (x : Entry) → slice_get (reverse (e ∷ past)) n ≡ Some x → P (take n (reverse (e ∷ past))) x
before_more P e past old new n x here =
    elim (slice_get_split (reverse past) e n x (rw (reverse_more e past) at here)) [
      | inl p ↦ subst (λ (h : List Entry). P h x) (earlier e past n (omega (arith, p.0))) (old n x p.1)
      | inr p ↦ subst (λ (y : Entry). P (take n (reverse (e ∷ past))) y) p.1
          (subst (λ (h : List Entry). P h e) (before_last e past n p.0) new)
    ]

-- what holds of each act and the history before its entry, with one entry more
pub at_each_act_more : (P : List Entry → List Place → Place → Type 0) (e : Entry) (past : List Entry)
    → AtEachAct P (reverse past) → OneByOne (P (reverse past)) (places_of (reverse past)) (places_at e)
    → AtEachAct P (reverse (e ∷ past))
at_each_act_more P e past old new =
    before_more (λ (h : List Entry) (x : Entry). OneByOne (P h) (places_of h) (places_at x)) e past old new

-- without its last entries, a run is a run
pub run_before : (s : ScriptData) (past : List Entry) (n : ℕ) → IsStepRun s past → IsStepRun s (drop n past)
run_before s past zero run = run
run_before s [] (suc n) run = tt
run_before s (e ∷ past) (suc n) run = run_before s past n run.1

all_of : (past : List Entry) (k : ℕ) → k ≡ 0 → reverse past ≡ reverse (drop k past)
all_of past k is = rw is refl

fewer_of : (e : Entry) (past : List Entry) (k m : ℕ) → k ≡ m + 1 → reverse (drop m past) ≡ reverse (drop k (e ∷ past))
fewer_of e past zero m is = absurd (omega arith)
fewer_of e past (suc k) m is = let eq : k ≡ m = omega arith in rw eq refl

-- the first entries of a history are the history of a shorter past
pub first_of : (past : List Entry) (n : ℕ) → n ≤ length past
    → take n (reverse past) ≡ reverse (drop (length past - n) past)
first_of [] n le = take_all n [] (omega arith) ∙ all_of [] (0 - n) (omega arith)
first_of (e ∷ past) n le =
    elim (cases_lt (length past) n) [
      | inl more ↦
          sym (whole e past n (omega (arith, length-reverse past)))
          ∙ all_of (e ∷ past) (length (e ∷ past) - n) (omega arith)
      | inr less ↦
          sym (earlier e past n (omega (arith, length-reverse past))) ∙ first_of past n less
          ∙ fewer_of e past (length (e ∷ past) - n) (length past - n) (omega arith)
    ]
