use Rattle.std.proofs.Common.{◌∙◌, sym, ap}
use Rattle.run_history.specs.Records.{RecordData}
use Rattle.run_history.specs.Messages.{acts_of}
use Rattle.run_history.specs.inside.Slots.{lists_of}
use Rattle.run_history.proofs.Kept.{acts_from}
use Rattle.run_history.proofs.record.Record.acts.Goals as goal

pub returns : goal.returns
returns c =
    let i = c.self.inside in
    c.as_slice.ensures.value
    ∙ sym (acts_from 0 0 0 (lists_of i.letters.items i.came.items i.acts.items) i.slots.items c.self.invariant.all)
    ∙ ap acts_of (ap (λ (r : RecordData). r.entries) c.self.view_is)
