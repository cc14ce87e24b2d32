use Rattle.std.proofs.Common.{refl}
use Rattle.phase_out.proofs.With.{in-with}
use Rattle.phase_out.proofs.round.all_others_in.Goals as goal

pub returns-then-all_in : goal.returns-then-all_in
returns-then-all_in c = λ row. rw (in-with c.args.kept.now c.args.node row c.requires, ← c.all_in.ensures, c.if-all_in.true) c.all_in-then-all_in.ensures

pub returns-else-all_in : goal.returns-else-all_in
returns-else-all_in c = λ row. rw (in-with c.args.kept.now c.args.node row c.requires, ← c.all_in.ensures, c.if-all_in.false) refl
