use Rattle.std.proofs.Common.{◌∙◌, ap, sym}
use Rattle.std.specs.List.{remove}
use Rattle.item_versions.specs.Item.{Held, holds}
use Rattle.item_versions.proofs.Rooms.{without-held}
use Rattle.item_versions.proofs.item.take_out.Goals as goal

pub returns-then-holds : goal.returns-then-holds
returns-then-holds c =
    let is = ap (λ (xs : Held). holds c.args.v xs) (sym c.as_slice.ensures.value) ∙ sym c.holds.ensures
    ∙ c.if-holds.true in
    c.remove.ensures.items
    ∙ ap (λ p. remove c.args.held.now.items p) c.requires.place
    ∙ without-held c.args.v c.args.held.now.items c.requires.held is
