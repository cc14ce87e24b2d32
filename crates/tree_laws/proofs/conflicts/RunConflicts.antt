-- In every run what a subtransaction meets at its node is the conflict that the look back names.
use Rattle.std.proofs.Common.{◌≡◌, ◌⊎◌, inl, inr, ℕ, zero, suc, ◌<◌, ◌≤◌, ◌==◌, Bool, true, false, List, [], ◌∷◌, reverse, refl, sym, ap, subst, ◌∙◌, arith, Option, Some, None}
use Rattle.std.specs.Prelude.{if◌then◌else◌, fold, length, not, slice_get}
use Rattle.std.specs.List.{AllByRecursion}
use Rattle.std.specs.Ordering.{is_eq}
use Rattle.std.proofs.lemmas.Bool.{and_parts, cases_lt, or_cases}
use Rattle.std.proofs.lemmas.Bool.Decides.{nat_tests}
use Rattle.tv_base.specs.declared.numbers.TreeNo.{TreeNo}
use Rattle.letter_types.specs.declared.acts.Act.{Act}
use Rattle.letter_types.specs.declared.acts.Act.TheVariants as acts
use Rattle.letter_types.specs.declared.entries.Entry.{Entry}
use Rattle.letter_types.specs.declared.votes.Vote.TheVariants.{Yes, No}
use Rattle.nc_locks.specs.declared.modes.Lock.{Lock}
use Rattle.nc_locks.specs.Locks.{Wanted, has_lock, lock_of, lock_order, wanted_locks, with_locks, without}
use Rattle.nc_locks.proofs.Always.{freed_are_gone, taken_stand}
use Rattle.nc_locks.proofs.Orders.{same_lock}
use Rattle.script_parts.specs.Wants.{wanted_by}
use Rattle.script_parts.specs.Counts.{has_strict}
use Rattle.script_parts.specs.ScriptData.{ScriptData, node_of, ops_of, subs_at, updates}
use Rattle.script_parts.specs.declared.parts.Sub.{Sub}
use Rattle.script_parts.specs.declared.parts.Tree.{Tree}
use Rattle.world_model.specs.Runs.{IsStepRun, keeping_in}
use Rattle.board_rules.specs.Histories.{Place, places_of}
use Rattle.board_rules.specs.Locked.{locks_after_act, locks_after_place}
use Rattle.board_rules.proofs.ItemAt.{op_row}
use Rattle.tree_laws.specs.Locks.{IsAtHome, RunsMeetConflicts}
use Rattle.tree_laws.proofs.conflicts.AtHome.{acts_at_home, locks_are_standing}
use Rattle.tree_laws.proofs.conflicts.Conflicts.{met_is_conflict}
use Rattle.tree_laws.proofs.conflicts.RunLocks.{run_locks}

-- A tree with a subtransaction at a node of the script is one of the script's.
no_tree : (ts : List Tree) (t : ℕ) → length ts ≤ t → slice_get ts t ≡ None
no_tree [] t le = refl
no_tree (x ∷ ts) zero le = absurd (omega (arith, le))
no_tree (x ∷ ts) (suc t) le = no_tree ts t (omega (arith, le))

tree_there : (s : ScriptData) (t k : ℕ) → node_of s t k < s.nodes → t < length s.trees
tree_there s t k lt = by (cases_lt t (length s.trees)) where
  by : (t < length s.trees) ⊎ (length s.trees ≤ t) → t < length s.trees
  by (inl less) = less
  by (inr ge) =
      let none : subs_at s t ≡ [] = ap (λ (f : Option Tree). elim f [ Some tree ↦ tree.subs | None ↦ [] ]) (no_tree s.trees t ge) in
      let out : node_of s t k ≡ s.nodes =
      ap (λ (ks : List Sub). elim (slice_get ks k) [ Some sub ↦ sub.node.0 | None ↦ s.nodes ]) none in
      absurd (omega (arith, lt, out))

-- Each lock is of such a tree.
abbrev OfTrees : ScriptData → List Lock → Type 0
OfTrees s ls = (l : Lock) → has_lock l ls ≡ true → l.tree.0 < length s.trees

pub wanted_tree : (t : TreeNo) (ws : Wanted) (l : Lock) → has_lock l (wanted_locks t ws) ≡ true → l.tree.0 ≡ t.0
wanted_tree t [] l is = absurd (cc is)
wanted_tree t (w ∷ ws) l is =
    by (λ later. wanted_tree t ws l later) (or_cases (is_eq (lock_order l (lock_of t w.0 w.1))) (has_lock l (wanted_locks t ws)) is) where
      by : (has_lock l (wanted_locks t ws) ≡ true → l.tree.0 ≡ t.0)
          → (is_eq (lock_order l (lock_of t w.0 w.1)) ≡ true) ⊎ (has_lock l (wanted_locks t ws) ≡ true) → l.tree.0 ≡ t.0
      by rest (inl same) = ap (λ (q : Lock). q.tree.0) (same_lock l (lock_of t w.0 w.1) same)
      by rest (inr later) = rest later

taken_trees : (s : ScriptData) (t : TreeNo) (ws : Wanted) (ls : List Lock) → t.0 < length s.trees → OfTrees s ls → OfTrees s (with_locks t ws ls)
taken_trees s t ws ls lt old l is = by (or_cases (has_lock l (wanted_locks t ws)) (has_lock l ls) (sym (taken_stand l t ws ls) ∙ is)) where
  by : (has_lock l (wanted_locks t ws) ≡ true) ⊎ (has_lock l ls ≡ true) → l.tree.0 < length s.trees
  by (inl new) = omega (arith, lt, wanted_tree t ws l new)
  by (inr there) = old l there

freed_trees : (s : ScriptData) (t : TreeNo) (ls : List Lock) → OfTrees s ls → OfTrees s (without t ls)
freed_trees s t ls old l is = old l (and_parts (not (l.tree.0 == t.0)) (has_lock l ls) (sym (freed_are_gone l t ls) ∙ is)).1

act_trees : (s : ScriptData) (q : ℕ) (a : Act) (ls : List Lock) → q < s.nodes → IsAtHome s q a → OfTrees s ls → OfTrees s (locks_after_act s a ls)
act_trees s q (acts.Did t j values) ls lt home old = by (updates s t.0) where
  by : (b : Bool) → OfTrees s (if b then with_locks t (wanted_by (ops_of s t.0 j.0)) ls else ls)
  by true = taken_trees s t (wanted_by (ops_of s t.0 j.0)) ls (tree_there s t.0 j.0 (omega (arith, home, lt))) old
  by false = old
act_trees s q (acts.Voted t j (Yes values)) ls lt home old =
    taken_trees s t (wanted_by (ops_of s t.0 j.0)) ls (tree_there s t.0 j.0 (omega (arith, home, lt))) old
act_trees s q (acts.Voted t j (No cause)) ls lt home old = old
act_trees s q (acts.Freed t) ls lt home old = freed_trees s t ls old
act_trees s q (acts.Applied t commit) ls lt home old = freed_trees s t ls old
act_trees s q acts.Finished ls lt home old = old
act_trees s q _ ls lt home old = old

place_trees : (s : ScriptData) (p : ℕ) (y : Place) (ls : List Lock) (here : Bool) → p < s.nodes → (y.node == p) ≡ here
    → IsAtHome s y.node y.act → OfTrees s ls → OfTrees s (if here then locks_after_act s y.act ls else ls)
place_trees s p y ls true lt is home old =
    let same : y.node ≡ p = grind (arith, nat_tests, is) in
    act_trees s y.node y.act ls (omega (arith, same, lt)) home old
place_trees s p y ls false lt is home old = old

trees_from : (s : ScriptData) (p : ℕ) (ys : List Place) (ls : List Lock) → p < s.nodes
    → AllByRecursion (λ (y : Place). IsAtHome s y.node y.act) ys → OfTrees s ls → OfTrees s (fold (locks_after_place s p) ls ys)
trees_from s p [] ls lt all old = old
trees_from s p (y ∷ ys) ls lt all old =
    trees_from s p ys (locks_after_place s p ls y) lt all.1 (place_trees s p y ls (y.node == p) lt refl all.0 old)

run_trees : (s : ScriptData) (past : List Entry) (p : ℕ) → has_strict s ≡ true → IsStepRun s past → p < s.nodes
    → OfTrees s (keeping_in s past p).core.locks
run_trees s past p strict run lt =
    subst (OfTrees s) (sym (run_locks s past p strict run lt))
    (trees_from s p (places_of (reverse past)) [] lt (acts_at_home s past run) (λ l is. absurd (cc is)))

-- So what is met is named.
pub runs_meet_conflicts : RunsMeetConflicts
runs_meet_conflicts s past p t k strict valid run lt home =
    met_is_conflict s (places_of (reverse past)) p (keeping_in s past p).core.locks t (ops_of s t.0 k.0) (λ i o is.
    (let row = op_row s t.0 k.0 i o valid is in
    record {
      modes = λ j. locks_are_standing s past p o.item.0 row.row strict valid run lt row.there (sym row.node ∙ home) j;
      trees = run_trees s past p strict run lt;
    }))
