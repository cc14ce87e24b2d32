use Rattle.std.proofs.Common.{◌+◌, Some}
use Rattle.std.proofs.lemmas.List.{take_rest}
use Rattle.coord_restart.proofs.Parts.{set_parts}
use Rattle.coord_restart.proofs.tellings.Tellings.with.Goals as goal

pub returns : goal.returns
returns c =
    rw
    (c.requires.one, take_rest c.args.told.now (c.args.place + 1))
    (set_parts c.args.told.now c.args.place (Some c.args.now.now) c.requires.place)
