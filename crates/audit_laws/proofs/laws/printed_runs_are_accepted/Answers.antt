use Rattle.std.proofs.Common.{subst, reverse}
use Rattle.std.proofs.lemmas.List.{reverse-reverse}
use Rattle.board_rules.specs.Judging.{IsAccepted}
use Rattle.world_model.proofs.Posts.{steps}
use Rattle.audit_laws.proofs.Accepted.{printed_run}
use Rattle.audit_laws.proofs.laws.printed_runs_are_accepted.Goals as goal

pub returns : goal.returns
returns c = λ s h valid run finished may.
    printed_run s h run finished may
    (subst (IsAccepted s) (reverse-reverse h) (c.every_run_is_accepted.ensures s (reverse h) valid (steps s h run)))
