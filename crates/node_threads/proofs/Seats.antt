-- A new post has seats while actors are left.
use Rattle.std.proofs.Common.{◌≡◌, ℕ, zero, suc, ◌<◌, [], arith}
use Rattle.stamp_post.specs.Shown.{PostId, new_seats}

pub no_seats : (post : PostId) (n count : ℕ) → new_seats post n count ≡ [] → 0 < count → ⊥
no_seats post n zero none some = absurd (omega (arith, some))
no_seats post n (suc count) none some = absurd (cc none)
