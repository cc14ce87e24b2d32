use Rattle.headline.proofs.WideRuns.{narrowed, widened}
use Rattle.headline.proofs.window.the_window_refuses_nothing.Goals as goal

pub returns : goal.returns
returns c = λ s h valid. ((λ world. widened s h valid world), (λ wide. narrowed s h valid wide))
