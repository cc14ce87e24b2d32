use Rattle.std.proofs.Common.{◌-◌, length, arith, refl, sym, subst}
use Rattle.std.proofs.lemmas.Option.{slice_get_read}
use Rattle.world_core.specs.Actors.{WorldData}
use Rattle.world_core.specs.Growth.{MayGoOn}
use Rattle.world_core.specs.inside.Flows.{world_in}
use Rattle.world_core.proofs.Growth.{goes_on_or_not, may_have_places}
use Rattle.world_core.proofs.world.World.go_on.Goals as goal

pub make_places-requires : goal.make_places-requires
make_places-requires c =
    let w : WorldData = world_in c.self.inside.flow c.self.inside.history in
    let may : MayGoOn w c.args.script.now = subst (λ (v : WorldData). MayGoOn v c.args.script.now) (sym c.self.view_is) c.requires in
    may_have_places c.args.script.now w (c.len-place.result - 1) c.index_mut-state.result.now may
    (slice_get_read w.actors (length w.actors) (c.len-place.result - 1) c.index_mut-state.result.now refl
    (omega (arith, may.world.count, c.len-place.ensures)) c.index_mut-state.ensures.value)

pub returns-clause-world : goal.returns-clause-world
returns-clause-world c =
    let w : WorldData = world_in c.self.inside.flow c.self.inside.history in
    let may : MayGoOn w c.args.script.now = subst (λ (v : WorldData). MayGoOn v c.args.script.now) (sym c.self.view_is) c.requires in
    goes_on_or_not c.args.script.now w (c.len-place.result - 1) c.index_mut-state.result.now c.make_places.new.self c.make_places.result may
    (omega (arith, may.world.count, c.len-place.ensures))
    (slice_get_read w.actors (length w.actors) (c.len-place.result - 1) c.index_mut-state.result.now refl
    (omega (arith, may.world.count, c.len-place.ensures)) c.index_mut-state.ensures.value)
    c.make_places.ensures.ok
