use Rattle.std.proofs.Common.{List, Option, ap, subst, ◌∙◌}
use Rattle.board_tallies.specs.Board.{first_numbers, numbers_at}
use Rattle.board_tallies.specs.inside.Noting.{GoesOn, numbers_with, states_told}
use Rattle.tv_base.specs.declared.numbers.TreeNo.{TreeNo}
use Rattle.board_tallies.specs.declared.states.StateNews.{StateNews}
use Rattle.board_tallies.specs.declared.states.TreeState.{TreeState}
use Rattle.board_tallies.proofs.Marks.{set_back_by}
use Rattle.board_tallies.proofs.Nexts.{noted_as}
use Rattle.board_tallies.proofs.board.Board.note_act.Goals as goal

pub returns-clause-noted : goal.returns-clause-noted
returns-clause-noted c =
    noted_as c.args.trees.now c.args.node.0 c.args.act.now _ _ _ c.self.view_is
    (record {
      nodes = c.note_numbers-numbers.ensures.nodes;
      trees = c.in_ok-told.ensures.states
          ∙ ap (λ (news : Option (TreeNo × StateNews)). states_told news c.self.inside.trees.items) c.news_by-news.ensures;
      pending = c.in_ok-told.ensures.counted;
      passed = subst (λ (states : List TreeState). GoesOn c.args.trees.now states c.self.inside.passed c.passed_on-self-inside.result)
          c.deref.ensures.value c.passed_on-self-inside.ensures;
      finished = c.finished_by-self-inside.ensures;
    })

pub returns-clause-back : goal.returns-clause-back
returns-clause-back c =
    let nodes = set_back_by c.self.inside.nodes.items c.note_numbers-numbers.new.nodes.items c.args.node.0
    (numbers_with c.args.act.now (numbers_at c.self.inside.nodes.items c.args.node.0)) c.note_numbers-numbers.result
    first_numbers c.note_numbers-numbers.ensures.nodes c.note_numbers-numbers.ensures.was in
    (λ i. record {
      nodes = nodes i;
      trees = c.in_ok-told.ensures.states_back i;
      pending = c.in_ok-told.ensures.pending_back i;
      passed = c.self.inside.passed;
      finished = c.self.inside.finished;
    })
    ∙ c.self.view_is
