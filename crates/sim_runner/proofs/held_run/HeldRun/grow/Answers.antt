use Rattle.std.proofs.Common.{sym, subst}
use Rattle.sim_runner.specs.Held.{HeldData, IsRunBy}
use Rattle.sim_runner.proofs.Held.{run_grown_if}
use Rattle.sim_runner.proofs.held_run.HeldRun.grow.Goals as goal

pub returns-clause-run : goal.returns-clause-run
returns-clause-run g c = λ s start extends by.
    let r : HeldData g.row.P.Denot = record { world = c.self.inside.world; picker = c.self.inside.picker; chosen = c.self.inside.chosen } in
    run_grown_if g.P.Picker.place g.P.Picker.after s c.args.script.now start r c.go_on.new.self c.go_on.result extends
    (subst (λ (v : HeldData g.row.P.Denot). IsRunBy g.P.Picker.place g.P.Picker.after s start v) (sym c.self.view_is) by)
    c.go_on.ensures.world c.go_on.ensures.history c.go_on.ensures.bag
