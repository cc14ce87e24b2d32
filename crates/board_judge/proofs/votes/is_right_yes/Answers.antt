use Rattle.std.proofs.Common.{◌++◌, ◌∷◌, [], ap, sym, ◌∙◌, option_map}
use Rattle.board_rules.specs.Histories.{places_of}
use Rattle.board_judge.specs.inside.Votes.{given_by}
use Rattle.board_judge.proofs.Voting.{decide_yes, no_yes}
use Rattle.board_judge.proofs.votes.is_right_yes.Goals as goal

pub returns-in-Some : goal.returns-in-Some
returns-in-Some c = λ h xs p is known move.
    decide_yes c.args.script.now h xs p c.args.act.now (given_by c.in-Some.given) c.is_given.result
    (sym c.yes_of.ensures ∙ ap (option_map given_by) c.in-Some.is) move (c.is_given.ensures xs (places_of h) is known)

pub returns-in-None : goal.returns-in-None
returns-in-None c = λ h xs p is known move.
    no_yes c.args.script.now h (xs ++ record { node = p; act = c.args.act.now } ∷ []) c.args.act.now (sym c.yes_of.ensures ∙ ap (option_map given_by) c.in-None.is)
