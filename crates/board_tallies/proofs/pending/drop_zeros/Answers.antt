use Rattle.std.proofs.Common.{rules}
use Rattle.std.proofs.lemmas.List.Elements.{filter_from_retain}
use Rattle.board_tallies.specs.inside.Pending.{is_counted}
use Rattle.board_tallies.proofs.pending.drop_zeros.Goals as goal

pub returns : goal.returns
returns c = filter_from_retain _ is_counted (λ p x b q h. search rules) _ _ _ c.retain.ensures.filtered
