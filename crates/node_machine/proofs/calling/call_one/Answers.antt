use Rattle.std.proofs.Common.{ap, ◌∙◌}
use Rattle.letter_types.specs.declared.kept.KeepReason.TheVariants.{Called}
use Rattle.letter_types.specs.Kept.{with_called}
use Rattle.std.specs.Map.{values_of}
use Rattle.node_machine.specs.inside.Arrivals.{Arrived, came}
use Rattle.node_machine.specs.inside.Places.{is_why}
use Rattle.node_machine.proofs.deferred.CalledDeferredAgain.{lent_here}
use Rattle.node_machine.proofs.deferred.AllCalled.{called_one, came_there, kept_called, waits_there}
use Rattle.node_machine.proofs.calling.call_one.Goals as goal

pub returns-clause-called : goal.returns-clause-called
returns-clause-called c =
    let x = c.unwrap-kept.result in
    let w = record x.now { why = Called } in
    let es = c.args.letters.now.entries in
    let here =
    lent_here c.get_mut.result x (came c.args.arrival es) c.get_mut.ensures.value c.unwrap-kept.ensures in
    ap (λ (es : Arrived). with_called (is_why c.args.key) (values_of es)) ((c.get_mut.follows.holds w).0)
    ∙ called_one c.args.key c.args.arrival x.now es here
    (waits_there c.args.key c.args.arrival c.args.next x.now es c.args.places.now.keys c.requires.kept
    c.requires.reason c.requires.there here)

pub returns-clause-kept : goal.returns-clause-kept
returns-clause-kept c =
    let x = c.unwrap-kept.result in
    let w = record x.now { why = Called } in
    let es = c.args.letters.now.entries in
    let here =
    lent_here c.get_mut.result x (came c.args.arrival es) c.get_mut.ensures.value c.unwrap-kept.ensures in
    kept_called c.args.key c.args.arrival c.args.next x.now es (c.get_mut.follows.lender w).entries
    c.args.places.now.keys c.remove.new.self.keys c.requires.kept c.requires.reason here
    (waits_there c.args.key c.args.arrival c.args.next x.now es c.args.places.now.keys c.requires.kept
    c.requires.reason c.requires.there here) c.remove.ensures.updates.0
    (((c.get_mut.follows.holds w).3 (came_there c.args.key c.args.arrival c.args.next es c.args.places.now.keys
    c.requires.kept c.requires.there)).0) ((c.get_mut.follows.holds w).4) c.remove.ensures.ordered
