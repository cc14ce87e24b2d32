use Rattle.std.proofs.Common.{◌≡◌, drop, max}
use Rattle.worth_steps.specs.Puts.{newest_put}
use Rattle.worth_steps.proofs.puts.newest_put.Given as goal

abbrev pub invariant-loop-put : goal.invariant-loop-put
invariant-loop-put l = max l.newest.0 (newest_put (drop l.put-index l.puts)) ≡ newest_put l.puts
