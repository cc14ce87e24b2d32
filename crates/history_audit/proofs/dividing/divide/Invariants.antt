use Rattle.std.proofs.Common.{◌≡◌, true}
use Rattle.history_audit.specs.Audits.{divided}
use Rattle.history_audit.proofs.Divided.{so_far}
use Rattle.history_audit.proofs.dividing.divide.Given as goal

abbrev pub invariant-loop-place : goal.invariant-loop-place
invariant-loop-place l = divided true l.text ≡ so_far l.starts l.place l.text
