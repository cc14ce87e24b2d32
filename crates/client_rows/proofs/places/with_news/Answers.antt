use Rattle.std.proofs.Common.{arith}
use Rattle.client_rows.proofs.Marks.{sent_known, place-later, place-again, one_fewer, place-answered}
use Rattle.client_rows.proofs.places.with_news.Goals as goal
use Rattle.client_rows.proofs.places.with_news.Goals.{then-tree-at-via-then-tree-at, then-tree-at-via-else-tree-at+then-answered-tree}

pub bounds-answered-tree : goal.bounds-answered-tree
bounds-answered-tree c =
    omega (arith, sent_known c.args.rows.now c.args.answered.now c.args.at c.requires.names c.requires.at)

pub returns-then-tree-at : goal.returns-then-tree-at
returns-then-tree-at c = rw c.in-Answered.is (elim c.then-tree-at.branch [
  | then-tree-at-via-then-tree-at w ↦
      place-later c.args.rows.now c.args.answered.now c.args.at c.in-Answered.tree.0 c.requires.names c.requires.at w.if-tree-at.true
  | then-tree-at-via-else-tree-at+then-answered-tree w ↦
      place-again c.args.rows.now c.args.answered.now c.args.at c.in-Answered.tree.0 c.requires.at w.if-answered-tree.true
])

pub overflow_sub-result : goal.overflow_sub-result
overflow_sub-result c =
    omega (arith, one_fewer c.args.rows.now c.args.answered.now c.args.at c.in-Answered.tree.0 c.requires.names c.requires.at c.if-tree-at.false c.if-answered-tree.false)

pub returns : goal.returns
returns c = rw c.in-Answered.is
    (place-answered c.args.rows.now c.args.answered.now c.args.at c.in-Answered.tree.0 c.requires.names c.requires.at c.if-tree-at.false c.if-answered-tree.false)
