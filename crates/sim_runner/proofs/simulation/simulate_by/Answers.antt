use Rattle.std.proofs.Common.{◌≡◌, ◌≤◌, ◌%◌, ◌∙◌, ℕ, ap, sym, subst, length, List, arith}
use Rattle.letter_types.specs.declared.entries.Entry.{Entry}
use Rattle.headline.specs.Ended.{HasEnded}
use Rattle.sim_runner.specs.Pickers.{IsPickedBy}
use Rattle.sim_runner.proofs.Ends.{has_ended}
use Rattle.sim_runner.proofs.Picked.{IsAfter, picked_more, picked_none, picker_first, picker_more}
use Rattle.sim_runner.proofs.simulation.simulate_by.Goals as goal

pub loop-world-init : goal.loop-world-init
loop-world-init g c =
    let place = g.P.Picker.place in
    let after = g.P.Picker.after in
    let history = c.in_ok-world.world.history in
    record {
      world = c.in_ok-world.ensures.world;
      picked = picked_none place after c.args.script.now c.args.picker.now history c.in_ok-world.ensures.history;
      after = picker_first place after c.args.script.now c.args.picker.now history c.in_ok-world.ensures.history;
    }

pub loop-world-preserved : goal.loop-world-preserved
loop-world-preserved g c =
    let place = g.P.Picker.place in
    let after = g.P.Picker.after in
    let script = c.args.script.now in
    let first = c.args.picker.now in
    let picker = c.loop-world.picker in
    let world = c.loop-world.world in
    let inv = c.loop-world.invariant in
    let taken : ℕ = c.choose.result % c.waiting-in-loop-world.result in
    let named : taken ≡ place picker world.bag % length world.bag =
    ap (λ (n : ℕ). n % c.waiting-in-loop-world.result) c.choose.ensures.place
    ∙ ap (λ (n : ℕ). place picker world.bag % n) c.waiting-in-loop-world.ensures in
    record {
      world = c.in_ok-step.ensures.world;
      picked = picked_more place after script first world c.step.new.self picker taken inv.world inv.picked inv.after named c.in_ok-step.ensures.took;
      after = picker_more place after script first world c.step.new.self picker c.choose.new.self taken inv.world inv.after c.choose.ensures.after c.in_ok-step.ensures.took;
    }

pub returns-clause-ended : goal.returns-clause-ended
returns-clause-ended g c =
    let none : length c.loop-world.world.bag ≤ 0 = omega (arith, c.waiting.ensures, c.loop-world-test.false) in
    let ended : HasEnded c.args.script.now c.loop-world.world.history =
    has_ended c.args.script.now c.loop-world.world c.loop-world.invariant.world c.nodes-valid.ensures.valid none in
    subst (λ (h : List Entry). HasEnded c.args.script.now h) (sym c.into_history.ensures) ended

pub returns-clause-picked : goal.returns-clause-picked
returns-clause-picked g c =
    subst (λ (h : List Entry). IsPickedBy g.P.Picker.place g.P.Picker.after c.args.script.now c.args.picker.now h) (sym c.into_history.ensures) c.loop-world.invariant.picked

pub returns-clause-picker : goal.returns-clause-picker
returns-clause-picker g c =
    subst (λ (h : List Entry). IsAfter g.P.Picker.place g.P.Picker.after c.args.script.now c.args.picker.now h c.loop-world.picker) (sym c.into_history.ensures) c.loop-world.invariant.after
