-- What a `Seq` ends as, if a `&mut` to one of its items is lent.
use Rattle.std.specs.Prelude.{ℕ, List, Option, slice_set}
use Rattle.std.specs.Borrow.{LendsIf, Fml, RattleType, MutBor}
use Rattle.tv_base.specs.contracts.seq.Seq.{the_row}

-- Once the borrow r ends, place i has what was last behind r. If r is None the list stays as it is.
module _ (T MOST : RattleType) (s : MutBor (List T.Denot)) where
  abbrev pub lends_at : ℕ → Option (MutBor T.Denot) → Fml
  lends_at i r = LendsIf (the_row T MOST) T s r (slice_set s.now i) s.now
