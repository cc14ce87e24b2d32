use Rattle.std.proofs.Common.{◌∙◌, ℕ, ap}
use Rattle.world_model.specs.Restarting.{phase_by}
use Rattle.coord_restart.proofs.tellings.Tellings.onward.Goals as goal

pub returns : goal.returns
returns c = λ i. record {
  wanted = c.args.wanted;
  ended = c.least_low-ended.ensures i;
  phase = (c.phase.ensures ∙ ap (λ (f : ℕ). phase_by c.args.self.now c.args.wanted f) c.least_low-ended.ensures) i;
}
