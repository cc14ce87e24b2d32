-- The gate of a row, computed: it is shut while a transaction before the settle row isn't complete, or a node hasn't
-- collected to the version of the advancement there, and open then; and the client is at the settle row so long.
use Rattle.std.proofs.Common.{◌≡◌, ℕ, zero, suc, ◌+◌, ◌<◌, true, false, List, [], ◌∷◌, reverse, refl, ap, sym, ◌∙◌, subst, arith, Some}
use Rattle.std.specs.Prelude.{IsTrue, slice_get}
use Rattle.tv_base.specs.declared.numbers.TreeNo.{TreeNo}
use Rattle.tx_trees.specs.ScriptData.{ScriptData}
use Rattle.tx_trees.specs.declared.parts.ScriptRow.TheVariants.{Tree, Advance, Settle}
use Rattle.board_rules.specs.Gates.{IsOpen, awaited, before_settle, was_swept}
use Rattle.board_rules.specs.Histories.{Place, is_whole_in, places_of}
use Rattle.world_model.specs.Runs.{client_in}
use Rattle.world_model.specs.Sample.{sample, with_read}

-- a tree and an advancement, and after a settle row a read tree and an advancement
abbrev pub gated : ScriptData
gated = record with_read { rows = Tree (record { 0 = 0 }) ∷ Advance ∷ Settle ∷ Tree (record { 0 = 1 }) ∷ Advance ∷ [] }

-- the acts of its first entries
abbrev pub acts_by : ℕ → List Place
acts_by n = places_of (reverse (sample gated n))

pub all_before : before_settle gated.rows ≡ Tree (record { 0 = 0 }) ∷ Advance ∷ []
all_before = refl

pub none_awaited : awaited gated 2 ≡ []
none_awaited = refl

pub both_awaited : awaited gated 3 ≡ Tree (record { 0 = 0 }) ∷ Advance ∷ []
both_awaited = refl

-- the tree for which row 3 waits
awaited_tree : (j t : ℕ) → slice_get (awaited gated 3) j ≡ Some (Tree (record { 0 = t })) → 0 ≡ t
awaited_tree zero t here =
    let first : record { 0 = 0 } ≡ record { 0 = t } = cc here in ap (λ (x : TreeNo). x.0) first
awaited_tree (suc zero) t here = absurd (cc here)
awaited_tree (suc (suc j)) t here = absurd (cc here)

-- when its gate is open
opens : (xs : List Place) → is_whole_in gated xs 0 ≡ true → was_swept 0 1 xs ≡ true → was_swept 1 1 xs ≡ true → IsOpen gated xs 3
opens xs whole one two = record {
  trees = λ j t here. subst (λ (n : ℕ). IsTrue (is_whole_in gated xs n)) (awaited_tree j t here) whole;
  advances = swept xs one two;
} where
  swept : (xs : List Place) → was_swept 0 1 xs ≡ true → was_swept 1 1 xs ≡ true
      → (a p : ℕ) → a < 1 → p < 2 → IsTrue (was_swept p (a + 1) xs)
  swept xs one two zero zero lt pl = one
  swept xs one two zero (suc zero) lt pl = two
  swept xs one two zero (suc (suc p)) lt pl = absurd (omega (arith, pl))
  swept xs one two (suc a) p lt pl = absurd (omega (arith, lt))

-- and when it is shut
shuts_unswept : (xs : List Place) → was_swept 1 1 xs ≡ false → IsOpen gated xs 3 → ⊥
shuts_unswept xs none gate =
    let clash : false ≡ true = sym none ∙ gate.advances 0 1 (omega arith) (omega arith) in absurd (cc clash)

shuts_early : (xs : List Place) → is_whole_in gated xs 0 ≡ false → IsOpen gated xs 3 → ⊥
shuts_early xs none gate = let clash : false ≡ true = sym none ∙ gate.trees 0 0 refl in absurd (cc clash)

-- In the run: at first the tree isn't whole, then a node hasn't collected, and then the gate is open.
pub shut_at_first : IsOpen gated (acts_by 3) 3 → ⊥
shut_at_first = shuts_early (acts_by 3) refl

pub shut_still : IsOpen gated (acts_by 32) 3 → ⊥
shut_still = shuts_unswept (acts_by 32) refl

pub open_then : IsOpen gated (acts_by 33) 3
open_then = opens (acts_by 33) refl refl refl

-- the client goes on a little later, when it hears that the advancement has ended
pub stands : (client_in gated (sample gated 35)).next ≡ 2
stands = refl

pub goes_on : (client_in gated (sample gated 36)).next ≡ 5
goes_on = refl
