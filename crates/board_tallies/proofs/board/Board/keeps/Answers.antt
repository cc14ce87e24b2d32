use Rattle.std.proofs.Common.{◌≡◌, ◌∙◌, sym, true, false}
use Rattle.board_tallies.specs.inside.Keeping.{keeps_by}
use Rattle.board_tallies.proofs.Fitting.{keeps_decides}
use Rattle.board_tallies.proofs.board.Board.keeps.Goals as goal

pub returns-clause-yes : goal.returns-clause-yes
returns-clause-yes c =
    λ is gates xs board.
    (keeps_decides c.args.script.now xs c.args.self.now c.args.gates.now c.args.node.0 c.args.act.now
    c.nodes-count.ensures.valid board gates).0
    ((λ i. keeps_by c.args.gates.now c.args.self.now (sym c.nodes-count.ensures.nodes i) (sym c.advances-asked.ensures i)
    c.args.node.0 c.args.act.now)
    ∙ sym c.keeps_by.ensures ∙ is)

pub returns-clause-no : goal.returns-clause-no
returns-clause-no c =
    λ is gates xs board keeps.
    let may = (keeps_decides c.args.script.now xs c.args.self.now c.args.gates.now c.args.node.0 c.args.act.now
    c.nodes-count.ensures.valid board gates).1 keeps in
    let both : true ≡ false
    = sym may
    ∙ (λ i. keeps_by c.args.gates.now c.args.self.now (sym c.nodes-count.ensures.nodes i) (sym c.advances-asked.ensures i)
    c.args.node.0 c.args.act.now)
    ∙ sym c.keeps_by.ensures ∙ is in
    cc both
