use Rattle.std.proofs.Common.{map, string_bytes}
use Rattle.command_words.proofs.Parse.{refused, took}
use Rattle.command_words.proofs.parser.parsed.Goals as goal

pub returns-in-Ok : goal.returns-in-Ok
returns-in-Ok c = took _ (map string_bytes c.args.words.now) c.in-Ok.matches c.in_ok-command.ensures c.in-Ok.ensures.kinds c.in-Ok.ensures.matches

pub returns-in-Err : goal.returns-in-Err
returns-in-Err c = refused _ (map string_bytes c.args.words.now) c.refusal.result c.in-Err.e c.in_ok-command.ensures c.refusal.ensures c.in-Err.ensures.kinds
