use Rattle.script_gen.proofs.Behind.{advance_taken}
use Rattle.script_gen.proofs.generating.add_end.Goals as goal

pub take_advance-requires : goal.take_advance-requires
take_advance-requires c = advance_taken c.args.script.now c.take_settle.new.script c.requires c.in_ok-take_settle.ensures
