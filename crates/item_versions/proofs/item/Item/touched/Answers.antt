use Rattle.std.proofs.Common.{◌∙◌, sym, subst}
use Rattle.std.specs.Prelude.{IsTrue}
use Rattle.item_versions.specs.Item.{Held, has_room}
use Rattle.item_versions.proofs.Rooms.{places_enough}
use Rattle.item_versions.proofs.item.Item.touched.Goals as goal

pub held_after-requires-clause-room : goal.held_after-requires-clause-room
held_after-requires-clause-room c =
    let room = subst (λ (xs : Held). IsTrue (has_room c.args.v xs)) (sym (c.as_slice.ensures.value ∙ c.self.view_is))
    c.requires.room in
    places_enough c.args.v c.as_slice.result.now room c.as_slice.ensures.fits
