-- If no message of a transaction that is born has still to be done, requests are completions.
use Rattle.std.proofs.Common.{◌≡◌, ℕ, ◌<◌, ◌≤◌, false, refl, arith, List}
use Rattle.letter_types.specs.declared.bodies.Body.{Body}
use Rattle.letter_types.specs.declared.bodies.Body.TheVariants.{Go, Sub as SubLetter, Done, Decide, Decided}
use Rattle.letter_types.specs.declared.entries.Entry.{Entry}
use Rattle.letter_types.specs.declared.entries.Letter.{Letter}
use Rattle.tx_trees.specs.ScriptData.{ScriptData}
use Rattle.tx_trees.specs.Valid.{IsValid}
use Rattle.world_model.specs.Counts.{tally}
use Rattle.world_model.specs.Kept.{outstanding}
use Rattle.world_model.specs.Runs.{node_in, IsStepRun}
use Rattle.world_model.proofs.Every.{each_map, each_none, each_zero}
use Rattle.advance_laws.specs.Balance.{goes_between, out, version_is}
use Rattle.advance_laws.proofs.counting.Moves.{uncounted_goes}
use Rattle.run_laws.proofs.each_tree.EveryApt.{all_apt, governed}
use Rattle.run_laws.proofs.ending.Measures.{of_trees}

-- a letter that isn't of a tree that is born isn't counted
not_counted : (v : ℕ) (body : Body) → of_trees body ≡ 0 → version_is v body ≡ false
not_counted v (SubLetter t k w) none = absurd (omega (arith, none))
not_counted v (Done t k w notice) none = absurd (omega (arith, none))
not_counted v (Decide t w commit) none = absurd (omega (arith, none))
not_counted v (Decided t w) none = absurd (omega (arith, none))
not_counted v Go none = refl
not_counted v _ none = refl

out_none : (s : ScriptData) (past : List Entry) (v p q : ℕ) → tally (λ (l : Letter). of_trees l.body) (outstanding s past) ≡ 0
    → out s past v p q ≡ 0
out_none s past v p q none =
    each_none (goes_between v p q) (outstanding s past)
    (each_map (λ (l : Letter). of_trees l.body ≡ 0) (λ (l : Letter). goes_between v p q l ≡ 0) (outstanding s past)
    (λ l quiet. uncounted_goes v p q l (not_counted v l.body quiet)) (each_zero (λ (l : Letter). of_trees l.body) (outstanding s past) none))

-- then requests are completions in each version that both nodes still count
pub balances : (s : ScriptData) (past : List Entry) → IsValid s → IsStepRun s past → tally (λ (l : Letter). of_trees l.body) (outstanding s past) ≡ 0
    → (v p q : ℕ) → p < s.nodes → q < s.nodes → (node_in s past p).turns.low.0 ≤ v → (node_in s past q).turns.low.0 ≤ v
    → (node_in s past p).counts.asked v q ≡ (node_in s past q).counts.done v p
balances s past valid run none v p q lp lq low_p low_q =
    omega (arith, ((governed s valid).balanced past run (all_apt s past valid run)).equal v p q lp lq low_p low_q, out_none s past v p q none)
