-- What the ends in memory hold, and which of their calls fail.
use Rattle.std.specs.Prelude.{ℕ, ◌-◌, ◌==◌, ◌||◌, Bool, List, [], ◌++◌, take, drop, min, length}
use Rattle.std.specs.List.{list_any}
use Rattle.tv_base.specs.declared.outside.ReadStep.{ReadStep}
use Rattle.tv_base.specs.declared.outside.ReadStep.TheVariants as reads
use Rattle.tv_base.specs.declared.outside.WriteStep.{WriteStep}
use Rattle.tv_base.specs.declared.outside.WriteStep.TheVariants as writes
use Rattle.tv_base.specs.Outside.{one_more}

-- whether a call's number is listed
abbrev pub lists : List ℕ → ℕ → Bool
lists fails call = list_any (λ n. n == call) fails

-- a source: the bytes left, the most that one call gives, the calls that fail, and the calls and faults so far
pub record FromMemory : Type 0 where
  pub left : List ℕ
  pub most : ℕ
  pub fails : List ℕ
  pub calls : ℕ
  pub faults : ℕ

-- a source that was not called yet
abbrev pub source_of : List ℕ → ℕ → List ℕ → FromMemory
source_of bytes most fails = record { left = bytes; most = most; fails = fails; calls = 0; faults = 0 }

-- whether the read to come fails
abbrev pub read_fails : FromMemory → Bool
read_fails s = lists s.fails (one_more s.calls)

-- the most that the read to come can give
abbrev pub most_given : FromMemory → ℕ → ℕ
most_given s room = min (min (length s.left) s.most) room

-- what a read leaves
abbrev pub after_read : FromMemory → ReadStep → FromMemory
after_read s (reads.Got n) = record s { left = drop n s.left; calls = one_more s.calls }
after_read s reads.End = record s { calls = one_more s.calls }
after_read s reads.Failed = record s { calls = one_more s.calls; faults = one_more s.faults }

-- a sink: the bytes written, the room left, the most that one call takes, the calls that fail, and the calls and faults
-- so far
pub record ToMemory : Type 0 where
  pub written : List ℕ
  pub room : ℕ
  pub most : ℕ
  pub fails : List ℕ
  pub calls : ℕ
  pub faults : ℕ

-- a sink that was not called yet
abbrev pub sink_of : ℕ → ℕ → List ℕ → ToMemory
sink_of room most fails = record { written = []; room = room; most = most; fails = fails; calls = 0; faults = 0 }

-- whether the write to come fails
abbrev pub write_fails : ToMemory → Bool
write_fails s = s.room == 0 || lists s.fails (one_more s.calls)

-- the most that the write to come can take
abbrev pub most_written : ToMemory → ℕ → ℕ
most_written s piece = min (min s.room s.most) piece

-- what a write of a piece leaves
abbrev pub after_write : ToMemory → List ℕ → WriteStep → ToMemory
after_write s piece (writes.Took n) =
    record s { written = s.written ++ take n piece; room = s.room - n; calls = one_more s.calls }
after_write s piece writes.Failed = record s { calls = one_more s.calls; faults = one_more s.faults }
