use Rattle.std.proofs.Common.{ap, sym, ◌∙◌, option_map}
use Rattle.board_judge.specs.inside.Votes.{given_by}
use Rattle.board_judge.proofs.Voting.{decide_read, no_did, no_read}
use Rattle.board_judge.proofs.votes.is_right_read.Goals as goal

pub returns-in_default : goal.returns-in_default
returns-in_default c = λ xs upto is known same.
    no_did c.args.script.now upto c.args.act.now (sym c.did_of.ensures ∙ ap (option_map given_by) c.in_default.is)

pub returns-then-not-reads : goal.returns-then-not-reads
returns-then-not-reads c = λ xs upto is known same.
    no_read c.args.script.now upto c.args.act.now (given_by c.in-Some.given) (sym c.did_of.ensures ∙ ap (option_map given_by) c.in-Some.is)
    (sym c.reads.ensures ∙ c.if-not-reads.true)

pub returns : goal.returns
returns c = λ xs upto is known same.
    decide_read c.args.script.now xs upto c.args.act.now (given_by c.in-Some.given) c.is_given.result
    (sym c.did_of.ensures ∙ ap (option_map given_by) c.in-Some.is) known.valid same (sym c.reads.ensures ∙ c.if-not-reads.false)
    (c.is_given.ensures xs upto is known)
