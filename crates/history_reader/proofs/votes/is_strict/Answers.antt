use Rattle.std.proofs.Common.{ap, false, true}
use Rattle.tx_trees.specs.ScriptData.{is_strict}
use Rattle.history_reader.proofs.ListsRead.{has_kind}
use Rattle.history_reader.proofs.votes.is_strict.Goals as goal

pub returns-in-Strict : goal.returns-in-Strict
returns-in-Strict c = has_kind c.args.script.now.trees c.trees.result.now c.args.tree.0 _ true c.trees.ensures.trees c.requires (ap is_strict c.in-Strict.is)

pub returns-in-Update : goal.returns-in-Update
returns-in-Update c = has_kind c.args.script.now.trees c.trees.result.now c.args.tree.0 _ false c.trees.ensures.trees c.requires (ap is_strict c.in-Update.is)

pub returns-in-Read : goal.returns-in-Read
returns-in-Read c = has_kind c.args.script.now.trees c.trees.result.now c.args.tree.0 _ false c.trees.ensures.trees c.requires (ap is_strict c.in-Read.is)
