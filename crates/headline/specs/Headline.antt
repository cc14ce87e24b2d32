-- What is promised of every run that ends.
--
-- Whatever order the nodes' steps and the messages' arrivals take, a run that ends Ok has written the report of its own
-- stored history, in which every read transaction shows exactly the complete update transactions of its version or
-- older, all committed transactions are a serial run ordered by version, no item has held more than three versions, and
-- no read or commuting step has waited for version advancement. And no read shows any part of a transaction that was
-- compensated.
use Rattle.std.specs.Prelude.{ℕ, ◌<◌, List, length}
use Rattle.letter_types.specs.declared.entries.Entry.{Entry}
use Rattle.tx_trees.specs.ScriptData.{ScriptData}
use Rattle.board_rules.specs.Gates.{Fits}
use Rattle.board_rules.specs.Histories.{IsWhole}
use Rattle.board_rules.specs.Moves.{IsBoardRun}
use Rattle.board_rules.specs.Right.{HasFinished, IsAtOnce, IsRight}
use Rattle.world_model.specs.Runs.{IsWorldRun}
use Rattle.run_laws.specs.Taken.{TakesWhatIsApt}
use Rattle.run_laws.specs.Gets.{GetsAreTheFoldBefore}
use Rattle.run_laws.specs.Replies.{RepliesTell}
use Rattle.run_laws.specs.Stays.{ReadsStayRight, WritersAreFirst}
use Rattle.headline.specs.Undone.{ShowsNothingUndone}
use Rattle.headline.specs.Held.{HasHeldThree, HoldsBalances}

-- The headline of a script and a history, with a field a phrase, in its order. That its report was written is said
-- beside it, if there is something that is written to.
pub record HasHeadline (s : ScriptData) (h : List Entry) : Type 0 where
  -- in whatever order nodes step and messages arrive: each actor went by its table, and messages went as messages do
  pub run : IsWorldRun s h
  -- and each message that a node took was enabled there, in the node's state at that moment: none was passed over
  pub apt : TakesWhatIsApt s h
  -- a run that ends: the client has finished, and every transaction is complete
  pub finished : HasFinished h
  pub whole : (t : ℕ) → t < length s.trees → IsWhole s h t
  -- the report of its own stored history: balances are what nodes hold, reads what steps gave, replies what was done
  pub settled : HoldsBalances s h
  pub reads : ReadsStayRight s h
  pub replies : RepliesTell s h
  -- every read transaction shows exactly the complete update transactions of its version or older, and the committed
  -- strict transactions
  pub right : IsRight s h
  pub writers_first : WritersAreFirst s h
  -- all committed transactions are a serial run ordered by version: what is worth is a fold over the serial order, and
  -- versions and order are tied to the script by the Board and the gates; and what a committed strict transaction got
  -- is the fold over the members before it
  pub board : IsBoardRun s h
  pub fits : Fits s h
  pub gets : GetsAreTheFoldBefore s h
  -- no item has held more than three versions
  pub three : HasHeldThree s h
  -- no read or commuting step has waited for version advancement: each was done at once, or deferred if a strict
  -- transaction's lock was in its way
  pub at_once : IsAtOnce s h
  -- and no read shows any part of a transaction that was compensated
  pub undone : ShowsNothingUndone s h
