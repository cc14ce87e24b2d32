use Rattle.std.proofs.Common.{◌≡◌, ◌++◌, ◌+◌, ◌^◌, ◌<◌, drop}
use Rattle.tx_trees.specs.Adding.{advances_in}
use Rattle.world_model.specs.Client.{rows_letters}
use Rattle.client_rows.proofs.letters.push_rows.Given as goal

-- the messages so far, and those of the rows that are left, are all of them; and the advancements that are left fit
abbrev pub invariant-loop-row : goal.invariant-loop-row
invariant-loop-row l = record {
  sent : l.sent ++ rows_letters l.script l.asked (drop l.row-index l.rows)
      ≡ l.fn.sent ++ rows_letters l.script l.fn.before l.rows;
  few : l.asked + advances_in (drop l.row-index l.rows) < 2 ^ 32;
}
