use Rattle.std.proofs.Common.{◌∙◌}
use Rattle.node_machine.specs.inside.Arrivals.{came}
use Rattle.node_machine.proofs.deferred.CalledDeferredAgain.{finds_same, lent_here, lent_some, with_letter_is}
use Rattle.node_machine.proofs.arrivals.put_letter.Goals as goal

pub unwrap-kept-requires : goal.unwrap-kept-requires
unwrap-kept-requires c =
    lent_some c.get_mut.result (came c.args.arrival c.args.letters.now.entries) c.get_mut.ensures.value c.requires

pub returns-clause-put : goal.returns-clause-put
returns-clause-put c =
    let x = c.unwrap-kept.result in
    let w = record x.now { letter = c.args.letter } in
    (c.get_mut.follows.holds w).0
    ∙ with_letter_is c.args.arrival c.args.letter x.now c.args.letters.now.entries
    (lent_here c.get_mut.result x (came c.args.arrival c.args.letters.now.entries) c.get_mut.ensures.value
    c.unwrap-kept.ensures)

pub returns-clause-found : goal.returns-clause-found
returns-clause-found c =
    let x = c.unwrap-kept.result in
    let w = record x.now { letter = c.args.letter } in
    finds_same c.args.arrival c.args.letter x.now c.args.letters.now.entries
    (c.get_mut.follows.lender w).entries
    (lent_here c.get_mut.result x (came c.args.arrival c.args.letters.now.entries) c.get_mut.ensures.value
    c.unwrap-kept.ensures) (((c.get_mut.follows.holds w).3 c.requires).0)
