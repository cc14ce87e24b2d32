use Rattle.std.proofs.Common.{sym, ◌∙◌}
use Rattle.script_reader.proofs.Taken.{done_is}
use Rattle.script_reader.proofs.records.Records.next.Goals as goal

pub returns-then-self-eq0 : goal.returns-then-self-eq0
returns-then-self-eq0 c = sym c.self.view_is ∙ done_is c.self.inside.left c.self.inside.reader c.if-self-eq0.true
