-- Locks by item and by transaction stay the same when one is added or taken away.
use Rattle.std.proofs.Common.{◌≡◌, Bool, true, false, List, refl, ap, sym, ◌∙◌, cond}
use Rattle.std.specs.Ordering.{is_eq}
use Rattle.nc_locks.specs.declared.modes.Lock.{Lock}
use Rattle.nc_locks.specs.declared.owned.Owned.{Owned}
use Rattle.nc_locks.specs.Locks.{has_lock, lock_order}
use Rattle.nc_locks.specs.inside.Found.{AreMirrored, has_owned, owned, owned_order}
use Rattle.nc_locks.proofs.Orders.{owned_same, same_lock}

-- the lock is or not, and every other as before
abbrev pub Locks-set : Lock → Bool → List Lock → List Lock → Type 0
Locks-set a b ls ls' = (q : Lock) → has_lock q ls' ≡ cond (is_eq (lock_order a q)) b (has_lock q ls)

abbrev pub Owned-set : Owned → Bool → List Owned → List Owned → Type 0
Owned-set a b os os' = (q : Owned) → has_owned q os' ≡ cond (is_eq (owned_order a q)) b (has_owned q os)

conds : (c d b x y : Bool) → c ≡ d → x ≡ y → cond c b x ≡ cond d b y
conds c d b x y e f = λ i. cond (e i) b (f i)

-- both are changed in the same way
pub mirrored-set : (a : Lock) (b : Bool) (ls ls' : List Lock) (os os' : List Owned) → AreMirrored ls os
    → Locks-set a b ls ls' → Owned-set (owned a) b os os' → AreMirrored ls' os'
mirrored-set a b ls ls' os os' mirror at at' =
    record {
      same = λ l.
          at' (owned l)
          ∙ conds (is_eq (owned_order (owned a) (owned l))) (is_eq (lock_order a l)) b (has_owned (owned l) os)
          (has_lock l ls) (owned_same a l) (mirror.same l)
          ∙ sym (at l);
    }

back-by : (a l : Lock) (ls : List Lock) (c x : Bool) → is_eq (lock_order a l) ≡ c → has_lock a ls ≡ false
    → x ≡ has_lock l ls → cond c false (cond c true x) ≡ has_lock l ls
back-by a l ls true x same none is = sym none ∙ ap (λ (a : Lock). has_lock a ls) (same_lock a l same)
back-by a l ls false x same none is = is

-- what was added by tree alone is taken back
pub mirrored-back : (a : Lock) (ls ls' : List Lock) (os os' os'' : List Owned) → AreMirrored ls os
    → has_lock a ls ≡ false → ls' ≡ ls → Owned-set (owned a) true os os' → Owned-set (owned a) false os' os''
    → AreMirrored ls' os''
mirrored-back a ls ls' os os' os'' mirror none stays at at' =
    let by : (l : Lock) → has_owned (owned l) os'' ≡ has_lock l ls = λ l.
    at' (owned l)
    ∙ ap (λ (b : Bool). cond (is_eq (owned_order (owned a) (owned l))) false b) (at (owned l))
    ∙ ap (λ (c : Bool). cond c false (cond c true (has_owned (owned l) os))) (owned_same a l)
    ∙ back-by a l ls (is_eq (lock_order a l)) (has_owned (owned l) os) refl none (mirror.same l) in
    record { same = λ l. by l ∙ ap (λ (ls : List Lock). has_lock l ls) (sym stays) }
