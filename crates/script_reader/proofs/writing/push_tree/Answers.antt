use Rattle.std.proofs.Common.{sym}
use Rattle.script_reader.proofs.Pushed.{fail_pushed}
use Rattle.script_reader.proofs.writing.push_tree.Goals as goal

pub returns-in_ok-push_rooted-in-Some : goal.returns-in_ok-push_rooted-in-Some
returns-in_ok-push_rooted-in-Some c =
    fail_pushed c.args.items.now c.args.tree.now c.in-Some.written c.items.result.now c.args.text.now c.push_rooted.new.text c.push_number_row.new.text c.push_number_row.result (sym c.in-Some.is) c.items.ensures.items c.in_ok-push_rooted-in-Some.ensures c.push_number_row.ensures
