-- Functions of numbers, and maps of trees.
use Rattle.std.specs.Prelude.{ℕ, ◌<◌, ◌==◌, if◌then◌else◌, List, [], ◌∷◌, Option, Some, None}
use Rattle.std.specs.List.{AllPairs}
use Rattle.tv_base.specs.declared.numbers.TreeNo.{TreeNo}

-- the function f, with x at k
abbrev pub put_at : {X : Type 0} → ℕ → X → (ℕ → X) → ℕ → X
put_at k x f j = if j == k then x else f j

-- the numbers of a map's entries ascend
abbrev pub AreAscending : {X : Type 0} → List (TreeNo × X) → Type 0
AreAscending es = AllPairs (λ a b. a.0.0 < b.0.0) es

-- what a map's entries have for each tree's number
abbrev pub by_tree : {X : Type 0} → List (TreeNo × X) → ℕ → Option X
by_tree [] t = None
by_tree (e ∷ es) t = if e.0.0 == t then Some e.1 else by_tree es t
