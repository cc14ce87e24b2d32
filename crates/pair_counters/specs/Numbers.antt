-- Requests and completions by version and other node.
use Rattle.std.specs.Prelude.{ℕ, zero, suc, ◌+◌, ◌<◌, ◌==◌, ◌&&◌, ◌^◌, nat_lt, List, [], ◌∷◌, ◌++◌, if◌then◌else◌}

-- requests to, and completions from, another node: by version, and then by node
pub record Numbers : Type 0 where
  pub asked : ℕ → ℕ → ℕ
  pub done : ℕ → ℕ → ℕ

abbrev pub none : Numbers
none = record { asked = λ v q. 0; done = λ v q. 0 }

-- one more at a version and a node
abbrev pub more_at : ℕ → ℕ → (ℕ → ℕ → ℕ) → ℕ → ℕ → ℕ
more_at v q f w r = if (w == v) && (r == q) then f w r + 1 else f w r

abbrev pub asked_one : ℕ → ℕ → Numbers → Numbers
asked_one v q n = record { asked = more_at v q n.asked; done = n.done }

abbrev pub done_one : ℕ → ℕ → Numbers → Numbers
done_one v q n = record { asked = n.asked; done = more_at v q n.done }

-- a request of version v to each of these nodes
abbrev pub asked_all : ℕ → List ℕ → Numbers → Numbers
asked_all v [] n = n
asked_all v (q ∷ qs) n = asked_all v qs (asked_one v q n)

-- the numbers of versions from v up
abbrev pub from_version : ℕ → (ℕ → ℕ → ℕ) → ℕ → ℕ → ℕ
from_version v f w q = if nat_lt w v then 0 else f w q

-- the numbers of nodes 0 to n - 1
abbrev pub numbers_of : ℕ → (ℕ → ℕ) → List ℕ
numbers_of zero f = []
numbers_of (suc n) f = numbers_of n f ++ f n ∷ []

-- no count of a run comes to this number, so that a step counts without a test
abbrev pub MOST_COUNT : ℕ
MOST_COUNT = 2 ^ 62

-- each number is below m
abbrev pub AllBelow : ℕ → Numbers → Type 0
AllBelow m n = (v q : ℕ) → (n.asked v q < m) × (n.done v q < m)
