use Rattle.std.proofs.Common.{arith}
use Rattle.stamp_post.proofs.Steps.{begins}
use Rattle.stamp_post.proofs.post.Post.open.Goals as goal

pub of_words-requires : goal.of_words-requires
of_words-requires c = begins c.args.actors (omega arith)
