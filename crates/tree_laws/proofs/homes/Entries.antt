-- What is taken of messages, by transactions.
use Rattle.std.proofs.Common.{◌≡◌, ℕ, suc, ◌+◌, ◌<◌, ◌≤◌, ◌==◌, ◌&&◌, List, ◌∷◌, length, refl, sym, subst, ◌∙◌, arith, Some, []}
use Rattle.std.specs.Prelude.{slice_get}
use Rattle.std.specs.List.{AllByRecursion}
use Rattle.letter_types.specs.declared.bodies.Body.{Body}
use Rattle.letter_types.specs.declared.bodies.Body.TheVariants.{Go, Root, Sub as SubLetter, Reply}
use Rattle.letter_types.specs.declared.entries.Entry.{Entry}
use Rattle.tx_trees.specs.Adding.{all_subs}
use Rattle.tx_trees.specs.ScriptData.{ScriptData, subs_at}
use Rattle.tx_trees.specs.Valid.{IsTree}
use Rattle.tx_trees.specs.declared.parts.ItemRow.{ItemRow}
use Rattle.tx_trees.specs.declared.parts.Tree.{Tree}
use Rattle.world_model.specs.Counts.{one_if}
use Rattle.world_model.specs.Runs.{IsStepRun}
use Rattle.tree_laws.specs.Dids.{asks, replies_to, replies, answers}
use Rattle.world_model.proofs.Flows.{flow}
use Rattle.tree_laws.proofs.loads.Sums.{over, over_add, over_same, over_none, over_hit, row_hit}

-- What is counted.

-- a letter that asks for a subtransaction
abbrev pub is_work : Body → ℕ
is_work (Root t) = 1
is_work (SubLetter t k v) = 1
is_work Go = 0
is_work _ = 0

-- a letter that answers a tree
abbrev pub is_reply : Body → ℕ
is_reply (Reply t v answer) = 1
is_reply Go = 0
is_reply _ = 0

-- a number of the bodies that were taken
abbrev pub taken_in : (Body → ℕ) → List Entry → ℕ
taken_in f [] = 0
taken_in f (e ∷ past) = f e.took.body + taken_in f past

-- What is taken, by trees.
-- a number of bodies that is a sum over a list
pub taken_over : {X : Type 0} (f : ℕ → Body → ℕ) (xs : List X) (past : List Entry)
    → taken_in (λ b. over 0 (λ k. f k b) xs) past ≡ over 0 (λ k. taken_in (f k) past) xs
taken_over f xs [] = sym (over_none 0 (λ k. 0) xs (λ k. refl))
taken_over f xs (e ∷ past) =
    omega (arith, over_add 0 (λ k. f k e.took.body) (λ k. taken_in (f k) past) xs, taken_over f xs past)

-- how many subtransactions of tree t a letter of this body asks for
abbrev pub asks_in : ScriptData → ℕ → Body → ℕ
asks_in s t b = over 0 (λ k. asks t k b) (subs_at s t)

length_at : (s : ScriptData) (u t j : ℕ) → j < length (subs_at s u) → u ≡ t → j < length (subs_at s t)
length_at s u t j lt eq = subst (λ (w : ℕ). j < length (subs_at s w)) eq lt

pub work_hit : (s : ScriptData) (u j : ℕ) → u < length s.trees → j < length (subs_at s u)
    → over 0 (λ t. over 0 (λ k. one_if ((u == t) && (j == k))) (subs_at s t)) s.trees ≡ 1
work_hit s u j ut jt =
    over_same 0 (λ t. over 0 (λ k. one_if ((u == t) && (j == k))) (subs_at s t)) (λ t. one_if (u == t)) s.trees
    (λ t le lt. row_hit u t j (subs_at s t) (length_at s u t j jt)) ∙ over_hit 0 u s.trees (omega arith) (omega arith)

pub work_none : (s : ScriptData) → over 0 (λ t. over 0 (λ k. 0) (subs_at s t)) s.trees ≡ 0
work_none s = over_none 0 (λ t. over 0 (λ k. 0) (subs_at s t)) s.trees (λ t. over_none 0 (λ k. 0) (subs_at s t) (λ k. refl))

pub taken_replies : (s : ScriptData) (past : List Entry) (t : ℕ) → IsStepRun s past
    → taken_in (replies_to t) past + replies s past t ≡ answers past t
taken_replies s [] t run = refl
taken_replies s (e ∷ past) t run = omega (arith, taken_replies s past t run.1, flow (replies_to t) s past e run.0)

pub subs_at_here : (s : ScriptData) (t : ℕ) (tree : Tree) → slice_get s.trees t ≡ Some tree → length (subs_at s t) ≡ length tree.subs
subs_at_here s t tree at = rw (at, subs_at) refl

-- the trees' subtransactions are all subtransactions
all_subs_over : (s : ScriptData) (i : ℕ) (ts : List Tree)
    → ((n : ℕ) (tree : Tree) → slice_get ts n ≡ Some tree → slice_get s.trees (i + n) ≡ Some tree)
    → over i (λ t. length (subs_at s t)) ts ≡ all_subs ts
all_subs_over s i [] at = refl
all_subs_over s i (tree ∷ ts) at =
    let first : i + 0 ≡ i = omega arith in
    let more : (n : ℕ) → i + suc n ≡ i + 1 + n = λ n. omega arith in
    let here = subs_at_here s i tree (subst (λ (n : ℕ). slice_get s.trees n ≡ Some tree) first (at 0 tree refl)) in
    let rest = all_subs_over s (i + 1) ts (λ n x there. subst (λ (m : ℕ). slice_get s.trees m ≡ Some x) (more n) (at (suc n) x there)) in
    omega (arith, here, rest)

pub all_subs_here : (s : ScriptData) → over 0 (λ t. length (subs_at s t)) s.trees ≡ all_subs s.trees
all_subs_here s =
    let same : (n : ℕ) → n ≡ 0 + n = λ n. omega arith in
    all_subs_over s 0 s.trees (λ n tree at. subst (λ (m : ℕ). slice_get s.trees m ≡ Some tree) (same n) at)

-- each tree has a root
pub some_subs : (nodes : ℕ) (items : List ItemRow) (ts : List Tree) → AllByRecursion (IsTree nodes items) ts → length ts ≤ all_subs ts
some_subs nodes items [] all = omega arith
some_subs nodes items (t ∷ ts) all = omega (arith, all.0.root, some_subs nodes items ts all.1)
