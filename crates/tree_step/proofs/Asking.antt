-- Requests to nodes, one after the other, and behind what a step counts.
use Rattle.std.proofs.Common.{◌≡◌, ℕ, ◌+◌, ◌<◌, ◌≤◌, ◌^◌, ◌==◌, ◌&&◌, Bool, true, false, List, [], ◌∷◌, ◌++◌, length, take, refl, sym, ap, ◌∙◌, subst, arith}
use Rattle.std.specs.Prelude.{if◌then◌else◌, slice_index_or}
use Rattle.std.proofs.lemmas.Grind.{common_steps}
use Rattle.std.proofs.lemmas.Bool.Decides.{nat_tests}
use Rattle.tv_base.specs.declared.numbers.NodeNo.{NodeNo}
use Rattle.letter_types.specs.declared.entries.Outgoing.{Outgoing}
use Rattle.pair_counters.specs.Numbers.{Numbers, asked_all, asked_one, from_version}
use Rattle.pair_counters.specs.Counts.{Counts}
use Rattle.pair_counters.specs.Rows.{counts_of}
use Rattle.world_model.proofs.Requests.{asked_all-append, asked_most, one_at}
use Rattle.world_model.specs.Done.{counted_root, counted_sub}
use Rattle.tree_step.specs.Changes.{MayChange, MayDo, after_change, requests}
use Rattle.tree_step.specs.Node.{data_of}
use Rattle.tree_step.specs.steps.Change.{Change, Still, Tree, Turn, Show, Sweep}
use Rattle.tree_step.specs.declared.node.NodeParts.{NodeParts}
use Rattle.tree_step.specs.inside.Sent.{MOST_SENT}
use Rattle.tree_step.specs.CoreChanges.{numbers_of_nodes}

-- what was counted before, and these requests
abbrev pub with_asked : ℕ → List NodeNo → Counts → Counts
with_asked v qs c = record c { numbers = asked_all v (numbers_of_nodes qs) c.numbers }

numbers-append : (qs : List NodeNo) (q : NodeNo) → numbers_of_nodes (qs ++ q ∷ []) ≡ numbers_of_nodes qs ++ q.0 ∷ []
numbers-append [] q = refl
numbers-append (r ∷ qs) q = ap (λ (rs : List ℕ). r.0 ∷ rs) (numbers-append qs q)

pub asked_next : (v : ℕ) (qs more : List NodeNo) (q : NodeNo) (first now new : Counts) → now ≡ with_asked v qs first
    → new ≡ record now { numbers = asked_one v q.0 now.numbers } → more ≡ qs ++ q ∷ [] → new ≡ with_asked v more first
asked_next v qs more q first now new is eq next =
    eq ∙ ap (λ (k : Counts). record k { numbers = asked_one v q.0 k.numbers }) is
    ∙ ap (λ (n : Numbers). record first { numbers = n })
    (sym (ap (λ (rs : List ℕ). asked_all v rs first.numbers) (numbers-append qs q)
    ∙ asked_all-append v q.0 (numbers_of_nodes qs) first.numbers))
    ∙ ap (λ (xs : List NodeNo). with_asked v xs first) (sym next)

-- a number grows by no more than there are requests
asked_few : (v : ℕ) (qs : List NodeNo) (n : Numbers) (w r : ℕ)
    → (asked_all v (numbers_of_nodes qs) n).asked w r ≤ n.asked w r + length qs
asked_few v [] n w r = omega arith
asked_few v (q ∷ qs) n w r =
    omega (
      arith,
      asked_few v qs (asked_one v q.0 n) w r,
      one_at n.asked v q.0 w r ((w == v) && (r == q.0)) refl,
    )

pub asked_under : (v q m n : ℕ) (qs : List NodeNo) (first now : Counts) → now ≡ with_asked v qs first
    → first.numbers.asked v q + n ≤ m → length qs < n → now.numbers.asked v q < m
asked_under v q m n qs first now is most lt =
    subst (λ (k : Counts). k.numbers.asked v q < m) (sym is) (omega (arith, asked_few v qs first.numbers v q))

pub take_node : (i : ℕ) (d : NodeNo) (xs : List NodeNo) → i < length xs
    → take (i + 1) xs ≡ take i xs ++ slice_index_or xs i d ∷ []
take_node i d xs lt = grind (arith, common_steps)

pub few_nodes : (i : ℕ) (xs : List NodeNo) → i < length xs → length (take i xs) < length xs
few_nodes i xs lt = grind (arith, common_steps)

pub all_nodes : (i : ℕ) (xs : List NodeNo) → length xs ≤ i → take i xs ≡ xs
all_nodes i xs le = grind (arith, common_steps)

-- a step counts few requests
counted_few : (root : Bool) (v p : ℕ) (os : List Outgoing) (n : Numbers) (w q : ℕ)
    → (if root then counted_root v p os n else counted_sub v p os n).asked w q ≤ n.asked w q + 1 + length os
counted_few true v p os n w q =
    omega (
      arith,
      asked_most v os (asked_one v p n) w q,
      one_at n.asked v p w q ((w == v) && (q == p)) refl,
    )
counted_few false v p os n w q = omega (arith, asked_most v os n w q)

from_less : (v : ℕ) (f : ℕ → ℕ → ℕ) (w q : ℕ) → from_version v f w q ≤ f w q
from_less v f w q = grind (arith, nat_tests)

after_by : (c : Change) (sent : List Outgoing) (n : NodeParts) (w q : ℕ) → MayChange c sent n
    → (after_change c sent (data_of n)).counts.asked w q ≤ (counts_of n.counters).numbers.asked w q + 1 + MOST_SENT
after_by (Tree c) sent n w q may =
    let few : length (requests c.counting sent) ≤ MOST_SENT = may.counting.few in
    omega (
      arith,
      few,
      counted_few c.counting.root c.counting.version.0 c.counting.from.0 (requests c.counting sent)
          (counts_of n.counters).numbers w q,
    )
after_by Still sent n w q may = omega arith
after_by (Turn v) sent n w q may = omega arith
after_by (Show v) sent n w q may = omega arith
after_by (Sweep v) sent n w q may = omega (arith, from_less v.0 (counts_of n.counters).numbers.asked w q)

-- so after it there is room for more
pub room_after : (c : Change) (sent : List Outgoing) (n : NodeParts) (now : Numbers) (w k : ℕ) → MayDo c sent n
    → now ≡ (after_change c sent (data_of n)).counts → k ≤ 64 → (q : ℕ) → now.asked w q + k ≤ 2 ^ 63
room_after c sent n now w k may is few q =
    let below = (may.small w q).0 in
    let after = after_by c sent n w q may.fits in
    let same : now.asked w q ≡ (after_change c sent (data_of n)).counts.asked w q = ap (λ (m : Numbers). m.asked w q) is in
    omega (arith, below, after, same, few)
