-- What a finished list of acts gives the order of acts: each follows its rule. And what the rule of an act at its
-- position gives.
use Rattle.std.proofs.Common.{◌≡◌, ℕ, Bool, true, List, subst, Some, take}
use Rattle.std.specs.Prelude.{slice_get}
use Rattle.script_parts.specs.ScriptData.{ScriptData, node_of, ops_of, updates}
use Rattle.script_parts.specs.declared.parts.SubOp.{SubOp}
use Rattle.board_rules.specs.Histories.{Place, decides_as, does, is_strict_tree}
use Rattle.board_rules.specs.Moves.{IsApplying, IsDecision, IsFreeing}
use Rattle.nc_locks.specs.Modes.{modes_conflict}
use Rattle.nc_locks.specs.declared.modes.Mode.TheVariants.{Mark}
use Rattle.script_parts.specs.Wants.{mode_wanted}
use Rattle.board_rules.specs.Stands.{frees, votes_yes}
pub use Rattle.board_rules.specs.Rules.{AreBornLate, AreByRule, FollowsRules, IsByRule, IsFreeDeed, IsFreeVote, is_writer}
use Rattle.board_rules.specs.Worth.{ops_change}
use Rattle.board_rules.proofs.ActTests.{applies_as, applies_as_is, decides_as_is, does_is, frees_is, votes_yes_is}
use Rattle.board_rules.proofs.Positions.{ActAt}

-- What the rule of an act at its position says.
pub deed : (s : ScriptData) (zs : List Place) (i p t k : ℕ) → AreByRule s zs → ActAt (does t k) zs i p → IsFreeDeed s (take i zs) p t k
deed s zs i p t k acts a =
    subst (IsByRule s (take i zs) p) (does_is t k a.act a.passes).1 (acts i (record { node = p; act = a.act }) a.is)

pub yes_vote : (s : ScriptData) (zs : List Place) (i p t k : ℕ) → AreByRule s zs → ActAt (votes_yes t k) zs i p → IsFreeVote s (take i zs) p t k
yes_vote s zs i p t k acts a =
    subst (IsByRule s (take i zs) p) (votes_yes_is t k a.act a.passes).1 (acts i (record { node = p; act = a.act }) a.is)

pub freeing : (s : ScriptData) (zs : List Place) (i p t : ℕ) → AreByRule s zs → ActAt (frees t) zs i p → IsFreeing s (take i zs) p t
freeing s zs i p t acts a =
    subst (IsByRule s (take i zs) p) (frees_is t a.act a.passes) (acts i (record { node = p; act = a.act }) a.is)

pub deciding : (s : ScriptData) (zs : List Place) (i p t : ℕ) (c : Bool) → AreByRule s zs → ActAt (decides_as t c) zs i p
    → IsDecision s (take i zs) p t c
deciding s zs i p t c acts a =
    subst (IsByRule s (take i zs) p) (decides_as_is t c a.act a.passes) (acts i (record { node = p; act = a.act }) a.is)

pub applying : (s : ScriptData) (zs : List Place) (i p t : ℕ) (c : Bool) → AreByRule s zs → ActAt (applies_as t c) zs i p
    → IsApplying s (take i zs) p t c
applying s zs i p t c acts a =
    subst (IsByRule s (take i zs) p) (applies_as_is t c a.act a.passes) (acts i (record { node = p; act = a.act }) a.is)

-- what a valid script says of the operations on item x, which is at node p: they are of subtransactions at that node, a
-- strict tree has one of them that changes it, those of update trees mark it, and those of strict trees don't
pub record IsItemAt (s : ScriptData) (p x : ℕ) : Type 0 where
  pub placed : (t k : ℕ) → ops_change x (ops_of s t k) ≡ true → node_of s t k ≡ p
  pub once : (t j k : ℕ) → is_strict_tree s t ≡ true → ops_change x (ops_of s t j) ≡ true → ops_change x (ops_of s t k) ≡ true
      → j ≡ k
  pub marks : (t k i : ℕ) (o : SubOp) → updates s t ≡ true → slice_get (ops_of s t k) i ≡ Some o → mode_wanted o.deed ≡ Mark
  pub strict : (t k i : ℕ) (o : SubOp) → is_strict_tree s t ≡ true → slice_get (ops_of s t k) i ≡ Some o
      → modes_conflict Mark (mode_wanted o.deed) ≡ true
