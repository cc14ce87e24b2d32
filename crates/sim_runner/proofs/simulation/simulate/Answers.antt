use Rattle.std.proofs.Common.{◌≡◌, ◌∙◌, ℕ, ap, subst, List}
use Rattle.letter_types.specs.declared.entries.Letter.{Letter}
use Rattle.sim_runner.specs.Pickers.{IsPickedBy}
use Rattle.sim_runner.specs.Picks.{PicksData, after_number, next_number}
use Rattle.sim_runner.proofs.PickNumbers.{is_scheduled}
use Rattle.sim_runner.proofs.simulation.simulate.Goals as goal

pub returns-clause-scheduled : goal.returns-clause-scheduled
returns-clause-scheduled c =
    let script = c.args.script.now in
    let history = c.in_ok-history.history in
    let first : c.new-picks.result ≡ record { given = script.picks; seed = c.args.seed } =
    c.new-picks.ensures ∙ ap (λ (given : List ℕ). record { given = given; seed = c.args.seed }) c.picks.ensures in
    is_scheduled script c.args.seed history
    (subst (λ (p : PicksData). IsPickedBy (λ (q : PicksData) (ls : List Letter). next_number q) (λ (q : PicksData) (ls : List Letter). after_number q) script p history) first c.in_ok-history.ensures.picked)
    c.in_ok-history.ensures.ended.left
