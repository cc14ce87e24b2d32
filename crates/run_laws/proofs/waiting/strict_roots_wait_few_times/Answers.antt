use Rattle.run_laws.proofs.keeping.WaitsFew.{strict_roots_wait_few_times}
use Rattle.run_laws.proofs.waiting.strict_roots_wait_few_times.Goals as goal

pub returns : goal.returns
returns c = λ s past t valid run lt. strict_roots_wait_few_times s past t valid run lt
