use Rattle.headline.proofs.Few.{held_three}
use Rattle.headline.proofs.held.no_item_has_held_more_than_three.Goals as goal

pub returns : goal.returns
returns c = held_three
