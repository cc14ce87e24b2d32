-- What reads and writes do to the bytes of the outside, and when a fault may be answered.
use Rattle.std.specs.Prelude.{◌<◌, ◌≤◌, ◌+◌, ◌-◌, ◌^◌, min, ℕ, List, length, take, Some, None, ⊤}
use Rattle.std.specs.declared.option.Option.{Option}
use Rattle.std.specs.Io.KnownBytes.{Appends, Consumes, IsAtEnd, Keeps}
use Rattle.tv_base.specs.declared.outside.ReadStep.{ReadStep}
use Rattle.tv_base.specs.declared.outside.ReadStep.TheVariants as reads
use Rattle.tv_base.specs.declared.outside.WriteStep.{WriteStep}
use Rattle.tv_base.specs.declared.outside.WriteStep.TheVariants as writes

-- a count goes up by one, and stays at its type's end
abbrev pub one_more : ℕ → ℕ
one_more n = min (n + 1) (2 ^ 64 - 1)

-- a count went up, or was at its type's end
abbrev pub Rose : ℕ → ℕ → Type 0
Rose before now = one_more before ≤ now

-- the count of faults after a step: one more exactly where the step failed
abbrev pub faults_after_read : ℕ → ReadStep → ℕ
faults_after_read n (reads.Got _) = n
faults_after_read n reads.End = n
faults_after_read n reads.Failed = one_more n

abbrev pub faults_after_write : ℕ → WriteStep → ℕ
faults_after_write n (writes.Took _) = n
faults_after_write n writes.Failed = one_more n

-- one read: the bytes that were next, the end, or nothing
abbrev pub Reads : Option (List ℕ) → Option (List ℕ) → ReadStep → List ℕ → Type 0
Reads old new (reads.Got n) buf = (0 < n) × (n ≤ length buf) × Consumes old new (take n buf)
Reads old new reads.End buf = Keeps old new × IsAtEnd new
Reads old new reads.Failed buf = Keeps old new

-- one write: a prefix of the piece was appended, or nothing
abbrev pub Writes : Option (List ℕ) → Option (List ℕ) → WriteStep → List ℕ → Type 0
Writes old new (writes.Took n) piece = (0 < n) × (n ≤ length piece) × Appends old new (take n piece)
Writes old new writes.Failed piece = Keeps old new

-- more bytes than n, where they are told
abbrev pub HasMoreThan : ℕ → Option (List ℕ) → Type 0
HasMoreThan n None = ⊤
HasMoreThan n (Some xs) = n < length xs

-- at most n bytes were taken
abbrev pub HasTaken : ℕ → Option (List ℕ) → Option (List ℕ) → Type 0
HasTaken n old new = (xs : List ℕ) × (length xs ≤ n) × Consumes old new xs

-- a prefix of the text was appended
abbrev pub AppendsFront : Option (List ℕ) → Option (List ℕ) → List ℕ → Type 0
AppendsFront old new text = (n : ℕ) × (n ≤ length text) × Appends old new (take n text)
