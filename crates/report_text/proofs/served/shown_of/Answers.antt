use Rattle.std.proofs.Common.{◌≡◌, List, length, ap, sym, ◌∙◌}
use Rattle.letter_types.specs.declared.entries.Entry.{Entry}
use Rattle.tx_trees.specs.ScriptData.{ScriptData}
use Rattle.tx_trees.specs.declared.parts.Tree.{Tree}
use Rattle.board_model.specs.declared.serial.Member.{Member}
use Rattle.board_model.specs.declared.standings.Standing.{Standing}
use Rattle.board_model.specs.SerialList.{IsByVersion}
use Rattle.board_model.specs.Standings.{standings_of}
use Rattle.report_text.specs.inside.Served.{AreAsked, asks_from}
use Rattle.report_text.proofs.Serving.{all_read, asked_of}
use Rattle.report_text.proofs.TreeLines.{length-standings_of}
use Rattle.report_text.proofs.served.shown_of.Goals as goal

-- what is asked, by what was found among the trees
asked : (s : ScriptData) (h : List Entry) (ts : List Tree) (sts : List Standing) (found asks : List Member) → ts ≡ s.trees
    → sts ≡ standings_of s h → found ≡ asks_from 0 ts sts → IsByVersion found asks → AreAsked s h asks
asked s h ts sts found asks trees stood is by =
    asked_of s h found asks by
    (is ∙ ap (λ (z : List Tree). asks_from 0 z sts) trees ∙ ap (λ (z : List Standing). asks_from 0 s.trees z) stood)

pub asks_of-requires-clause-each : goal.asks_of-requires-clause-each
asks_of-requires-clause-each c =
    ap (λ (z : List Standing). length z) c.requires.stood
    ∙ length-standings_of c.args.run.script.now c.args.run.history.now
    ∙ sym (ap (λ (z : List Tree). length z) c.trees-trees.ensures.trees)

pub serve_to-requires-clause-asks : goal.serve_to-requires-clause-asks
serve_to-requires-clause-asks c =
    asked c.args.run.script.now c.args.run.history.now c.trees-trees.result.now c.args.standings.now c.in_ok-found.found c.in_ok-asks.asks
    c.trees-trees.ensures.trees c.requires.stood c.in_ok-found.ensures c.in_ok-asks.ensures

pub serve_to-requires-2-clause-asks : goal.serve_to-requires-2-clause-asks
serve_to-requires-2-clause-asks c =
    asked c.args.run.script.now c.args.run.history.now c.trees-trees.result.now c.args.standings.now c.in_ok-found.found c.in_ok-asks.asks
    c.trees-trees.ensures.trees c.requires.stood c.in_ok-found.ensures c.in_ok-asks.ensures

pub serve_rest-requires-clause-asks : goal.serve_rest-requires-clause-asks
serve_rest-requires-clause-asks c =
    asked c.args.run.script.now c.args.run.history.now c.trees-trees.result.now c.args.standings.now c.in_ok-found.found c.in_ok-asks.asks
    c.trees-trees.ensures.trees c.requires.stood c.in_ok-found.ensures c.in_ok-asks.ensures

pub returns-clause-reads : goal.returns-clause-reads
returns-clause-reads c =
    all_read c.args.run.script.now c.args.run.history.now c.in_ok-asks.asks c.serve_rest.new.reads
    (asked c.args.run.script.now c.args.run.history.now c.trees-trees.result.now c.args.standings.now c.in_ok-found.found c.in_ok-asks.asks
    c.trees-trees.ensures.trees c.requires.stood c.in_ok-found.ensures c.in_ok-asks.ensures)
    c.in_ok-serve_rest.ensures.count c.in_ok-serve_rest.ensures.told
