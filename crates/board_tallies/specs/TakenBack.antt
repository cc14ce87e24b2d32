-- What has been noted is taken back: each thing that it changed is as it was.
use Rattle.std.specs.Prelude.{List, Option, Some, None, slice_set, take}
use Rattle.tv_base.specs.declared.numbers.TreeNo.{TreeNo}
use Rattle.board_tallies.specs.Board.{BoardData, state_at}
use Rattle.board_tallies.specs.declared.board.NotedAct.{NotedAct}
use Rattle.board_tallies.specs.declared.pending.Pending.{Pending}
use Rattle.board_tallies.specs.declared.pending.PendingWas.{PendingWas}
use Rattle.board_tallies.specs.declared.pending.PendingWas.TheVariants as counts
use Rattle.board_tallies.specs.declared.states.StateWas.{StateWas}
use Rattle.board_tallies.specs.declared.states.StateWas.TheVariants as was
use Rattle.board_tallies.specs.declared.states.TreeState.{TreeState}

-- a state, with what was before
abbrev pub state_back : StateWas → TreeState → TreeState
state_back (was.Born born) st = record st { born = born }
state_back (was.Done k done) st = record st { done = slice_set st.done k.0 done }
state_back (was.Voted k voted said) st = record st { voted = slice_set st.voted k.0 voted; yes = slice_set st.yes k.0 said }
state_back (was.Applied p applied) st = record st { applied = slice_set st.applied p.0 applied }
state_back (was.Freed p freed) st = record st { freed = slice_set st.freed p.0 freed }
state_back (was.Decided committed aborted) st = record st { committed = committed; aborted = aborted }

-- the states, if one was changed
abbrev pub states_back : Option (TreeNo × StateWas) → List TreeState → List TreeState
states_back None states = states
states_back (Some told) states = slice_set states told.0.0 (state_back told.1 (state_at states told.0.0))

-- the counts, if one was changed or a first one was added
abbrev pub pending_back : PendingWas → List Pending → List Pending
pending_back counts.Same ps = ps
pending_back (counts.Put place one) ps = slice_set ps place one
pending_back (counts.Added most) ps = take most ps

-- all tallies
abbrev pub taken_back : NotedAct → BoardData → BoardData
taken_back n b = record {
  nodes = slice_set b.nodes n.node.0 n.numbers;
  trees = states_back n.told.state b.trees;
  pending = pending_back n.told.pending b.pending;
  passed = n.passed;
  finished = n.finished;
}
