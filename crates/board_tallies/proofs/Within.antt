-- A move tells of what is there.
use Rattle.std.proofs.Common.{◌≡◌, ◌⊎◌, inl, inr, ℕ, suc, ◌<◌, ◌==◌, Bool, true, false, List, [], ◌∷◌, length, refl, arith, Option, Some, None}
use Rattle.std.specs.Prelude.{slice_get, All}
use Rattle.std.proofs.lemmas.Bool.{eqb-true, or_cases}
use Rattle.std.proofs.lemmas.Option.{slice_get_within}
use Rattle.letter_types.specs.declared.acts.Act.{Act}
use Rattle.letter_types.specs.declared.acts.Act.TheVariants.{Born, Did, Turned, Showed, Swept, Finished, Waits, Parked, Voted, Freed, Decided, Applied}
use Rattle.letter_types.specs.declared.entries.Entry.{Entry}
use Rattle.script_parts.proofs.SubsOf.{few_nodes, few_subs, sub_nodes}
use Rattle.script_parts.specs.ScriptData.{ScriptData, home_of, is_read, reads, sub_at, subs_at, updates, visits}
use Rattle.script_parts.specs.Valid.{IsValid}
use Rattle.script_parts.specs.declared.parts.Sub.{Sub}
use Rattle.script_parts.specs.declared.parts.Tree.{Tree}
use Rattle.board_rules.specs.ButCause.{IsMoveButCauseAt}
use Rattle.board_rules.specs.Histories.{Place}
use Rattle.board_rules.specs.Moves.{IsAsked, IsAskedBy}
use Rattle.board_rules.proofs.Wholes.{strict_there, updates_there}
use Rattle.board_tallies.proofs.Telling.{IsWithin}

pub reads_there : (s : ScriptData) (t : ℕ) → reads s t ≡ true → t < length s.trees
reads_there s t is = by (slice_get s.trees t) refl is where
  by : (found : Option Tree) → slice_get s.trees t ≡ found
      → elim found [ Some tree ↦ is_read tree.kind | None ↦ false ] ≡ true → t < length s.trees
  by None at is = absurd (cc is)
  by (Some tree) at is = slice_get_within s.trees t tree at

commutes_there : (s : ScriptData) (t : ℕ) → (updates s t ≡ true) ⊎ (reads s t ≡ true) → t < length s.trees
commutes_there s t (inl is) = updates_there s t is
commutes_there s t (inr is) = reads_there s t is

-- a tree whose home is a node is there
home_there : (s : ScriptData) (t p : ℕ) → p < s.nodes → home_of s t ≡ p → t < length s.trees
home_there s t p lt home = by (slice_get s.trees t) refl home where
  by : (found : Option Tree) → slice_get s.trees t ≡ found
      → (let subs : List Sub = elim found [ Some tree ↦ tree.subs | None ↦ [] ] in
      elim (slice_get subs 0) [ Some sub ↦ sub.node.0 | None ↦ s.nodes ]) ≡ p
      → t < length s.trees
  by None at is = absurd (omega (arith, lt, is))
  by (Some tree) at is = slice_get_within s.trees t tree at

-- a subtransaction that is asked for is there, and has a mark
asked_mark : (s : ScriptData) (had : ℕ → Bool) (t k : ℕ) → IsValid s → IsAsked s had t k → k < 64
asked_mark s had t k valid asked = by (sub_at s t k) refl asked where
  by : (found : Option Sub) → sub_at s t k ≡ found → IsAskedBy had k found → k < 64
  by None at is = absurd is
  by (Some sub) at is = omega (arith, slice_get_within (subs_at s t) k sub at, few_subs s t valid)

visited_by : (k : Sub) (ks : List Sub) (p n : ℕ) → k.node.0 < n → (visits ks p ≡ true → p < n)
    → ((k.node.0 == p) ≡ true) ⊎ (visits ks p ≡ true) → p < n
visited_by k ks p n small rest (inl is) = let same : k.node.0 ≡ p = eqb-true k.node.0 p is in omega (arith, small, same)
visited_by k ks p n small rest (inr is) = rest is

visited_mark : (subs : List Sub) (p n : ℕ) → All (λ (x : Sub). x.node.0 < n) subs → visits subs p ≡ true → p < n
visited_mark [] p n small is = absurd (cc is)
visited_mark (k ∷ ks) p n small is =
    visited_by k ks p n (small 0 k (omega arith)) (visited_mark ks p n (λ i d lt. small (suc i) d (omega (arith, lt))))
    (or_cases (k.node.0 == p) (visits ks p) is)

-- a node that a tree visits has a mark
visits_mark : (s : ScriptData) (t p : ℕ) → IsValid s → visits (subs_at s t) p ≡ true → p < 64
visits_mark s t p valid is = omega (arith, visited_mark (subs_at s t) p s.nodes (sub_nodes s t valid) is, few_nodes s valid)

pub within : (s : ScriptData) (before : List Entry) (xs : List Place) (p : ℕ) (act : Act) → IsValid s
    → IsMoveButCauseAt s before xs p act → IsWithin (length s.trees) p act
within s before xs p (Born t v) valid move = home_there s t.0 p move.home.0 move.home.1
within s before xs p (Did t k values) valid move =
    (commutes_there s t.0 (or_cases (updates s t.0) (reads s t.0) move.commutes), asked_mark s _ t.0 k.0 valid move.asked)
within s before xs p (Voted t k vote) valid move = (strict_there s t.0 move.strict, asked_mark s _ t.0 k.0 valid move.asked)
within s before xs p (Freed t) valid move = (updates_there s t.0 move.update, visits_mark s t.0 p valid move.visited)
within s before xs p (Decided t commit) valid move = strict_there s t.0 move.strict
within s before xs p (Applied t commit) valid move = (strict_there s t.0 move.strict, visits_mark s t.0 p valid move.visited)
within s before xs p (Turned v) valid move = tt
within s before xs p (Showed v) valid move = tt
within s before xs p (Swept v) valid move = tt
within s before xs p (Waits t u r) valid move = tt
within s before xs p (Parked t k item holder) valid move = tt
within s before xs p Finished valid move = tt
