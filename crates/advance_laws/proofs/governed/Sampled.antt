-- While the child of the small run is in flight, the balance has a message in it.
use Rattle.std.proofs.Common.{◌≡◌, refl}
use Rattle.world_model.specs.Sample.{sample, small}
use Rattle.advance_laws.specs.Balance.{out}

pub one_under_way : out small (sample small 2) 1 0 1 ≡ 1
one_under_way = refl

-- the child's notice, once it is done
pub one_back : out small (sample small 3) 1 1 0 ≡ 1
one_back = refl
