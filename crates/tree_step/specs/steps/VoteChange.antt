-- What becomes of locks, or of the negative votes.
use Rattle.tv_base.specs.declared.numbers.TreeNo.{TreeNo}
use Rattle.nc_locks.specs.Locks.{Wanted}
use Rattle.world_model.specs.declared.refusal.NegativeVote.{NegativeVote}

-- all stay; a tree takes these locks; the locks of a tree go; a tree has this negative vote, in place of the one
-- before; or it has none any more
pub data VoteChange : Type 0 where
  Stay : VoteChange
  Take : TreeNo → Wanted → VoteChange
  Free : TreeNo → VoteChange
  Note : TreeNo → NegativeVote → VoteChange
  Drop : TreeNo → VoteChange
