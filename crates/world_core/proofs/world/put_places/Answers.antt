use Rattle.std.proofs.Common.{◌≡◌, ℕ, ◌+◌, ◌-◌, ◌∙◌, List, [], ◌∷◌, ◌++◌, sym, ap, arith, append_assoc}
use Rattle.letter_bag.specs.Bag.{BagData}
use Rattle.world_core.specs.inside.Flows.{places_from}
use Rattle.world_core.proofs.Places.{places_more}
use Rattle.world_core.proofs.world.put_places.Goals as goal

pub loop-place-preserved : goal.loop-place-preserved
loop-place-preserved c =
    let inv = c.loop-place.invariant in
    let i = c.args.from in
    let n = c.loop-place.place - i in
    let first = c.args.bag.now.items in
    let last : c.loop-place.place + 1 ≡ i + n + 1 = omega (arith, inv.up) in
    let count : n + 1 ≡ c.loop-place.place + 1 - i = omega (arith, inv.up) in
    record {
      bag = ap (λ (b : BagData ℕ). b.items) c.put_reserved.ensures
          ∙ (λ x. inv.bag x ++ last x ∷ [])
          ∙ append_assoc first (places_from i n) ((i + n + 1) ∷ [])
          ∙ ap (λ (ks : List ℕ). first ++ ks) (sym (places_more i n))
          ∙ ap (λ (k : ℕ). first ++ places_from i k) count;
      room = omega (arith, inv.room, inv.up, ap (λ (b : BagData ℕ). b.room) c.put_reserved.ensures, c.requires.room, c.loop-place-test.true);
      up = omega (arith, inv.up);
    }
