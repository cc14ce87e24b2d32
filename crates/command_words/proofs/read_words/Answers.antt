use Rattle.command_words.proofs.Ranges.{told_by_options}
use Rattle.command_words.proofs.read_words.Goals as goal

pub returns-in-None-clause-range : goal.returns-in-None-clause-range
returns-in-None-clause-range c = told_by_options _ _ c.line_by_options.ensures
