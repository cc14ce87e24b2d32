use Rattle.std.proofs.Common.{◌≡◌, ◌+◌, ◌≤◌, length, lit<, ap, ◌∙◌, arith, length-append}
use Rattle.item_versions.specs.declared.item.TheConstants.{MOST_VERSIONS}
use Rattle.item_versions.specs.Item.{Held, below, above}
use Rattle.item_versions.proofs.Rooms.{places_enough}
use Rattle.item_versions.proofs.item.put_in_place.Goals as goal

pub insert-requires : goal.insert-requires
insert-requires c =
    let xs = c.args.held.now.items in
    let same : c.count_below-place.result ≡ length (below c.args.v xs) =
    c.count_below-place.ensures ∙ ap (λ (ys : Held). length (below c.args.v ys)) c.as_slice.ensures.value in
    let few : length xs ≤ MOST_VERSIONS = omega (arith, c.as_slice.ensures.fits, ap length c.as_slice.ensures.value) in
    let room = places_enough c.args.v xs c.requires.room few in
    let long : length c.take_out.new.held.items ≡ length (below c.args.v xs) + length (above c.args.v xs) =
    ap length c.take_out.ensures ∙ length-append (below c.args.v xs) (above c.args.v xs) in
    (lit< tt, (omega arith, omega arith))
