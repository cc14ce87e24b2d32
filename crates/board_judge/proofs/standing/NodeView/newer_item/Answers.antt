use Rattle.std.proofs.Common.{sym, ◌∙◌}
use Rattle.board_judge.proofs.Against.{newer_than, none_newer}
use Rattle.board_judge.proofs.standing.NodeView.newer_item.Goals as goal

pub returns-then-version-newest : goal.returns-then-version-newest
returns-then-version-newest c = λ xs view there strict.
    newer_than c.args.self.now.script.now xs c.args.self.now.node.0 c.args.version c.newest-newest.result c.args.op.now (sym c.overwrites.ensures ∙ c.if-not-overwrites.false)
    c.if-version-newest.true (c.newest-newest.ensures xs view there strict)

pub returns : goal.returns
returns c = λ xs view there strict.
    none_newer c.args.self.now.script.now xs c.args.self.now.node.0 c.args.version c.newest-newest.result c.args.op.now c.if-version-newest.false (c.newest-newest.ensures xs view there strict)
