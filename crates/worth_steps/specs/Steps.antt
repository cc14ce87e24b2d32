-- What is kept of a sum or a top: for each version in which it was altered what the deeds of this version make of any
-- value, and the value there.
use Rattle.std.specs.Prelude.{if◌then◌else◌, ℕ, Bool, true, false, ◌≡◌, ◌<◌, ◌==◌, nat_le, max, ℤ, ◌+ℤ◌, List, [], ◌∷◌, fold}
use Rattle.std.specs.Int.{int_max}
use Rattle.commute_ops.specs.declared.kinds.Kind.{Kind}
use Rattle.commute_ops.specs.declared.kinds.Kind.TheVariants.{Sum, Top, Bag}
use Rattle.commute_ops.specs.Ops.{value_start}
use Rattle.worth_steps.specs.declared.steps.WorthStep.{WorthStep}
use Rattle.worth_steps.specs.Worth.{Noted, after_noted, last_altered, noted_in}

-- a number with what the deeds of a version make
abbrev pub join : Kind → ℤ → ℤ → ℤ
join Top n m = int_max n m
join Sum n m = n +ℤ m
join Bag n m = n +ℤ m

-- what a step makes of the number below it: if a set is among its deeds, that doesn't count
abbrev pub act_on : Kind → Bool → ℤ → ℤ → ℤ
act_on k true own n = own
act_on k false own n = join k n own

-- what the step of version u, if there is one, makes of a number
abbrev pub acting : Kind → List WorthStep → ℕ → ℤ → ℤ
acting k [] u n = n
acting k (s ∷ ss) u n = if s.version.0 == u then act_on k s.cut s.own n else acting k ss u n

-- the number of the last step of version at most v, or the one below all
abbrev pub seen_to : ℤ → List WorthStep → ℕ → ℤ
seen_to below [] v = below
seen_to below (s ∷ ss) v = if nat_le s.version.0 v then seen_to s.value ss v else below

-- the versions ascend
abbrev pub AllAbove : ℕ → List WorthStep → Type 0
AllAbove u [] = Unit {0}
AllAbove u (s ∷ ss) = (u < s.version.0) × AllAbove u ss

abbrev pub Ascends : List WorthStep → Type 0
Ascends [] = Unit {0}
Ascends (s ∷ ss) = AllAbove s.version.0 ss × Ascends ss

-- each value is what the step makes of the one before
abbrev pub Chained : Kind → ℤ → List WorthStep → Type 0
Chained k below [] = Unit {0}
Chained k below (s ∷ ss) = (s.value ≡ act_on k s.cut s.own below) × Chained k s.value ss

-- the greatest version of a step
abbrev pub newest_step : List WorthStep → ℕ
newest_step [] = 0
newest_step (s ∷ ss) = max s.version.0 (newest_step ss)

-- the steps are those of the deeds that have come
pub record AreSteps (k : Kind) (first : ℤ) (ns : List Noted) (ss : List WorthStep) : Type 0 where
  pub acts : (u : ℕ) (n : ℤ) → fold after_noted (value_start k n) (noted_in u ns) ≡ value_start k (acting k ss u n)
  pub chained : Chained k first ss
  pub newest : last_altered ns ≡ newest_step ss
