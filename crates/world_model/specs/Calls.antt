-- Deferred messages whose Wake is in flight, and Wakes.
use Rattle.std.specs.Prelude.{ℕ, ◌==◌, ◌&&◌, List}
use Rattle.tv_base.specs.declared.numbers.SubNo.{SubNo}
use Rattle.tv_base.specs.declared.numbers.TreeNo.{TreeNo}
use Rattle.letter_types.specs.Kept.{is_called_for}
use Rattle.letter_types.specs.declared.bodies.Body.{Body}
use Rattle.letter_types.specs.declared.bodies.Body.TheVariants.{Wake}
use Rattle.letter_types.specs.declared.kept.KeptLetter.{KeptLetter}
use Rattle.world_model.specs.Counts.{one_if, tally}

-- how many deferred messages of subtransaction k of transaction t are called
abbrev pub calls : TreeNo → SubNo → List KeptLetter → ℕ
calls t k kept = tally (λ (x : KeptLetter). one_if (is_called_for t k x)) kept

-- a Wake of it
abbrev pub is_wake_of : TreeNo → SubNo → Body → ℕ
is_wake_of t k (Wake u j) = one_if ((u.0 == t.0) && (j.0 == k.0))
is_wake_of t k _ = 0
