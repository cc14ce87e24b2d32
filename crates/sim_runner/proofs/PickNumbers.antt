-- The numbers of picks, one after the other, are those of the schedule.
use Rattle.std.proofs.Common.{◌≡◌, ℕ, zero, suc, ◌-◌, ◌/◌, ◌%◌, ◌^◌, Bool, true, false, List, [], ◌∷◌, length, reverse, Option, Some, None, refl, sym, ap, ◌∙◌, subst, arith}
use Rattle.std.specs.Prelude.{nat_lt, slice_get}
use Rattle.std.proofs.lemmas.Bool.{le-ltb}
use Rattle.std.proofs.lemmas.Bool.Decides.{nat_tests}
use Rattle.letter_types.specs.declared.entries.Entry.{Entry}
use Rattle.letter_types.specs.declared.entries.Letter.{Letter}
use Rattle.tx_trees.specs.ScriptData.{ScriptData}
use Rattle.world_model.specs.Runs.{in_flight}
use Rattle.world_model.specs.Scheduled.{IsScheduled, draw, drawn_from, number_for, waiting_at}
use Rattle.tv_base.specs.Draws.{next_draw}
use Rattle.sim_runner.specs.Pickers.{IsPickedBy, picker_at}
use Rattle.sim_runner.specs.Picks.{PicksData, after_number, next_number}

-- picks after so many numbers
abbrev after_calls : PicksData → ℕ → PicksData
after_calls p zero = p
after_calls p (suc k) = after_number (after_calls p k)

calls_less : (p : PicksData) (k : ℕ) → after_calls p (suc k) ≡ after_calls (after_number p) k
calls_less p zero = refl
calls_less p (suc k) = ap after_number (calls_less p k)

draws_less : (x k : ℕ) → drawn_from (next_draw x) k ≡ drawn_from x (suc k)
draws_less x zero = refl
draws_less x (suc k) = ap next_draw (draws_less x k)

-- without given numbers there are draws alone
none_given : (seed : Option ℕ) (k : ℕ) → number_for [] seed k ≡ draw seed k
none_given seed k =
    let past : nat_lt k 0 ≡ false = le-ltb k 0 (omega arith) in
    let same : k - 0 ≡ k = omega arith in
    rw (past, same) refl

none_stays : (k : ℕ) → after_calls (record { given = []; seed = None }) k ≡ record { given = []; seed = None }
none_stays zero = refl
none_stays (suc k) = ap after_number (none_stays k)

draw_less : (x k : ℕ) → draw (Some (next_draw x)) k ≡ draw (Some x) (suc k)
draw_less x k = ap (λ (n : ℕ). n / 2 ^ 33) (draws_less x k)

drawn : (seed : Option ℕ) (k : ℕ) → next_number (after_calls (record { given = []; seed = seed }) k) ≡ number_for [] seed k
drawn None k = ap next_number (none_stays k) ∙ none_given None 0 ∙ sym (none_given None k)
drawn (Some x) zero = refl
drawn (Some x) (suc k) =
    ap next_number (calls_less (record { given = []; seed = Some x }) k)
    ∙ drawn (Some (next_draw x)) k ∙ none_given (Some (next_draw x)) k ∙ draw_less x k ∙ sym (none_given (Some x) (suc k))

-- one given number less
given_less : (n : ℕ) (ns : List ℕ) (seed : Option ℕ) (k : ℕ) (b : Bool) → nat_lt k (length ns) ≡ b
    → number_for ns seed k ≡ number_for (n ∷ ns) seed (suc k)
given_less n ns seed k true is =
    let more : nat_lt (suc k) (length (n ∷ ns)) ≡ true = grind (arith, nat_tests) in rw (is, more) refl
given_less n ns seed k false is =
    let more : nat_lt (suc k) (length (n ∷ ns)) ≡ false = grind (arith, nat_tests) in
    let less : suc k - length (n ∷ ns) ≡ k - length ns = omega arith in
    rw (is, more, less) refl

numbers : (given : List ℕ) (seed : Option ℕ) (k : ℕ)
    → next_number (after_calls (record { given = given; seed = seed }) k) ≡ number_for given seed k
numbers [] seed k = drawn seed k
numbers (n ∷ ns) seed zero = refl
numbers (n ∷ ns) seed (suc k) =
    ap next_number (calls_less (record { given = n ∷ ns; seed = seed }) k)
    ∙ numbers ns seed k ∙ given_less n ns seed k (nat_lt k (length ns)) refl

as_calls : (s : ScriptData) (p : PicksData) (h : List Entry) (k : ℕ)
    → picker_at (λ (q : PicksData) (ls : List Letter). after_number q) s p h k ≡ after_calls p k
as_calls s p h zero = refl
as_calls s p h (suc k) = ap after_number (as_calls s p h k)

-- a history whose letters picks chose is scheduled
pub is_scheduled : (s : ScriptData) (seed : Option ℕ) (h : List Entry)
    → IsPickedBy (λ (q : PicksData) (ls : List Letter). next_number q) (λ (q : PicksData) (ls : List Letter). after_number q) s (record { given = s.picks; seed = seed }) h
    → in_flight s (reverse h) ≡ [] → IsScheduled s seed h
is_scheduled s seed h picked left = record {
  places = λ k e at. subst (λ (n : ℕ). slice_get (waiting_at s h k) (n % length (waiting_at s h k)) ≡ Some e.took)
      (ap next_number (as_calls s (record { given = s.picks; seed = seed }) h k) ∙ numbers s.picks seed k) (picked k e at);
  left = left;
}
