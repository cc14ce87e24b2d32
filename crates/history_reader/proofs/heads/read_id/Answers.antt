use Rattle.history_reader.proofs.IdsRead.{no_place, no_stamp}
use Rattle.history_reader.proofs.heads.read_id.Goals as goal

pub returns-in_default : goal.returns-in_default
returns-in_default c = no_stamp c.args.word.now c.in_ok-stamp.stamp.now c.in_ok-stamp.place.now c.in_ok-stamp.ensures.text c.in_ok-stamp.ensures.first c.in_default.ensures

pub returns-in_default-read_half : goal.returns-in_default-read_half
returns-in_default-read_half c = no_place c.args.word.now c.in_ok-stamp.stamp.now c.in_ok-stamp.place.now c.in_ok-stamp.ensures.text c.in_ok-stamp.ensures.first c.in_default-read_half.ensures
