use Rattle.std.proofs.Common.{◌≡◌, ◌≤◌, length, ap, arith, length-append}
use Rattle.item_versions.specs.declared.item.TheConstants.{MOST_VERSIONS}
use Rattle.item_versions.specs.inside.InPlace.{raised_from}
use Rattle.item_versions.specs.Item.{Held, above}
use Rattle.item_versions.proofs.Rooms.{places_enough, length-raised}
use Rattle.item_versions.proofs.item.touch_places.Goals as goal

pub push_raised-requires-clause-room : goal.push_raised-requires-clause-room
push_raised-requires-clause-room c =
    let xs = c.args.held.now.items in
    let few : length xs ≤ MOST_VERSIONS = omega (arith, c.as_slice.ensures.fits, ap length c.as_slice.ensures.value) in
    let room = places_enough c.args.v xs c.requires.room few in
    omega (
      arith,
      ap length c.new-raised.ensures,
      ap (λ (ys : Held). length (above c.args.v ys)) c.as_slice.ensures.value,
    )

pub put_from-requires-clause-room : goal.put_from-requires-clause-room
put_from-requires-clause-room c =
    let xs = c.args.held.now.items in
    let few : length xs ≤ MOST_VERSIONS = omega (arith, c.as_slice.ensures.fits, ap length c.as_slice.ensures.value) in
    let room = places_enough c.args.v xs c.requires.room few in
    let long = length-raised c.args.v c.args.op.now xs c.requires.held in
    let same : length (raised_from c.args.v c.args.op.now c.as_slice.result.now)
    ≡ length (raised_from c.args.v c.args.op.now xs) =
    ap (λ (ys : Held). length (raised_from c.args.v c.args.op.now ys)) c.as_slice.ensures.value in
    let made = ap length c.in_ok-push_raised.ensures.ok in
    let joined = length-append c.new-raised.result.items (raised_from c.args.v c.args.op.now c.as_slice.result.now) in
    omega (arith, ap length c.new-raised.ensures, made, joined, same, long, room)
