use Rattle.std.proofs.Common.{ap, ◌∙◌, arith, List}
use Rattle.board_tallies.specs.inside.Noting.{pending_at}
use Rattle.board_tallies.specs.declared.states.TreeState.{TreeState}
use Rattle.board_tallies.proofs.Told.{told_counts, told_failed, told_states_back}
use Rattle.board_tallies.proofs.noting.note_tree.Goals as goal

pub returns-in-Ok-clause-counted : goal.returns-in-Ok-clause-counted
returns-in-Ok-clause-counted c =
    told_counts c.in-Some.news c.args.trees.now c.args.states.now.items c.in-Some.tree.0 c.index_mut.result.now c.tell-was.new.state
    c.reads_at.result c.pending_at-before.result c.pending_at-after.result c.args.pending.now.items c.recount.new.pending.items
    (omega arith) c.index_mut.ensures.value c.tell-was.ensures.state c.reads_at.ensures
    (c.pending_at-before.ensures
    ∙ ap (λ (states : List TreeState). pending_at c.args.trees.now states c.in-Some.tree.0) c.deref.ensures.value)
    (c.pending_at-after.ensures
    ∙ ap (λ (states : List TreeState). pending_at c.args.trees.now states c.in-Some.tree.0) c.deref-2.ensures.value)
    c.in-Ok.ensures.counts

pub returns-in-Ok-clause-states_back : goal.returns-in-Ok-clause-states_back
returns-in-Ok-clause-states_back c =
    told_states_back c.in-Some.news c.args.states.now.items c.in-Some.tree.0 c.index_mut.result.now c.tell-was.new.state c.tell-was.result
    (omega arith) c.index_mut.ensures.value c.tell-was.ensures.state c.tell-was.ensures.was

pub returns-in-Err-clause-states_err : goal.returns-in-Err-clause-states_err
returns-in-Err-clause-states_err c =
    told_failed c.in-Some.news c.args.states.now.items c.in-Some.tree.0 c.index_mut.result.now c.tell-was.new.state
    c.index_mut-in-Err.result.now c.tell_back.new.state c.tell-was.result (omega arith) c.index_mut.ensures.value
    c.tell-was.ensures.state c.tell-was.ensures.was c.index_mut-in-Err.ensures.value c.tell_back.ensures
