-- The first bytes of an ASCII text are an ASCII text.
use Rattle.std.proofs.Common.{ℕ, List, take}
use Rattle.std.specs.Str.{IsAscii}
use Rattle.std.proofs.lemmas.Str.{IsAscii-take}

pub ascii_front : (bs : List ℕ) (n : ℕ) → IsAscii bs → IsAscii (take n bs)
ascii_front bs n h = IsAscii-take bs n h
