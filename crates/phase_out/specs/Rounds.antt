-- A round: the rows of numbers that are kept, and what they say.
use Rattle.std.specs.Prelude.{◌≡◌, ◌≢◌, ℕ, zero, suc, ◌<◌, Bool, true, false, ◌&&◌, ◌==◌, nat_lt, ◌⊎◌, List, [], ◌∷◌, if◌then◌else◌, replicate, slice_get, slice_index, length, IfSome, Option, Some, None}
use Rattle.std.specs.List.{All}
use Rattle.tv_base.specs.declared.numbers.Version.{Version}

-- a row for each node, or none if it is missing
abbrev pub NodeRows : Type 0
NodeRows = List (Option (List ℕ))

-- the version whose numbers are compared, the round's number, and the rows of completions and of requests
pub record RoundData : Type 0 where
  pub version : Version
  pub number : ℕ
  pub nodes : ℕ
  pub dones : NodeRows
  pub askeds : NodeRows

-- a round that misses every row
abbrev pub new_round : Version → ℕ → ℕ → RoundData
new_round v k n =
    record { version = v; number = k; nodes = n; dones = replicate n None; askeds = replicate n None }

-- a place for each of n nodes, and each row has a number for each of them
pub record AreRows (n : ℕ) (ks : NodeRows) : Type 0 where
  pub places : length ks ≡ n
  pub numbers : All (λ k. IfSome k (λ row. length row ≡ n)) ks

-- what a sender tells of a version and a round's number is a row of this round: it is a node, and it has a number for
-- each node
abbrev pub is_of : ℕ → Version → ℕ → List ℕ → RoundData → Bool
is_of from v k row r = (v.0 == r.version.0) && ((k == r.number) && (nat_lt from r.nodes && (length row == r.nodes)))

-- no row is missing
abbrev pub all_in : NodeRows → Bool
all_in [] = true
all_in (None ∷ ks) = false
all_in (Some row ∷ ks) = all_in ks

-- the number at place q of what is kept of a node, 0 if that is no row
abbrev pub number_at : Option (Option (List ℕ)) → ℕ → ℕ
number_at (Some (Some row)) q = slice_index row q
number_at _ q = 0

-- the number at place q of node p's row
abbrev pub kept_number : NodeRows → ℕ → ℕ → ℕ
kept_number ks p q = number_at (slice_get ks p) q

-- the requests of p to q are as many as the completions that q has from p
abbrev pub pair_agrees : NodeRows → NodeRows → ℕ → ℕ → Bool
pair_agrees askeds dones p q = kept_number askeds p q == kept_number dones q p

-- a test of each number below n
abbrev pub all_below : ℕ → (ℕ → Bool) → Bool
all_below zero f = true
all_below (suc n) f = all_below n f && f n

-- every pair of n nodes agrees
abbrev pub agrees : ℕ → NodeRows → NodeRows → Bool
agrees n askeds dones = all_below n (λ p. all_below n (pair_agrees askeds dones p))

-- what the rows of a round say, once all are in
abbrev pub verdict_of : RoundData → Option Bool
verdict_of r = if all_in r.dones && all_in r.askeds then Some (agrees r.nodes r.askeds r.dones) else None

-- node p's row is missing
abbrev pub IsMissing : NodeRows → ℕ → Type 0
IsMissing ks p = slice_get ks p ≡ Some None

-- a row of some node is missing
abbrev pub MissesRow : RoundData → Type 0
MissesRow r = (p : ℕ) × (IsMissing r.dones p ⊎ IsMissing r.askeds p)

-- the requests of some node p to some node q are not as many as the completions that q has from p
abbrev pub PairDiffers : RoundData → Type 0
PairDiffers r =
    (p : ℕ) × ((q : ℕ) × ((p < r.nodes) × (q < r.nodes) × (kept_number r.askeds p q ≢ kept_number r.dones q p)))
