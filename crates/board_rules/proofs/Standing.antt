-- A lock is until it is let go: if a later subtransaction meets none, it has been.
use Rattle.std.proofs.Common.{◌≡◌, ◌⊎◌, inl, inr, ◌==◌, ◌&&◌, ℕ, zero, suc, ◌+◌, ◌<◌, ◌≤◌, Bool, true, false, List, [], ◌∷◌, ◌++◌, length, refl, sym, ap, ◌∙◌, arith, Option, Some, None, take}
use Rattle.std.specs.Prelude.{if◌then◌else◌, cond, not, fold, filter, map, slice_get}
use Rattle.std.specs.List.{list_any}
use Rattle.std.specs.Option.{option_or}
use Rattle.std.proofs.lemmas.Bool.{cases_Bool, cases_lt, or_left, or_right}
use Rattle.std.proofs.lemmas.Bool.Decides.{nat_tests}
use Rattle.std.proofs.lemmas.List.Folds.{list_any-append}
use Rattle.tv_base.specs.declared.numbers.ItemNo.{ItemNo}
use Rattle.script_parts.specs.ScriptData.{ScriptData}
use Rattle.script_parts.specs.declared.parts.SubOp.{SubOp}
use Rattle.board_rules.specs.Histories.{Place}
use Rattle.nc_locks.specs.Modes.{modes_conflict}
use Rattle.nc_locks.specs.declared.modes.Mode.{Mode}
use Rattle.script_parts.specs.Wants.{mode_wanted}
use Rattle.board_rules.specs.Stands.{conflict_of, conflict_with, holder_of, least_from, locked_by, modes_after, modes_on, conflicts_with}
use Rattle.board_rules.proofs.Once.{clash}
use Rattle.board_rules.proofs.Positions.{Found}
use Rattle.board_rules.proofs.ActTests.{releases}

-- an operation on item x among these
pub record OpOn (x : ℕ) (os : List SubOp) : Type 0 where
  pub index : ℕ
  pub op : SubOp
  pub is : slice_get os index ≡ Some op
  pub on : (op.item.0 == x) ≡ true

-- a place after a and before b at which something passes
pub record Between (test : Place → Bool) (zs : List Place) (a b : ℕ) : Type 0 where
  pub place : ℕ
  pub after : a < place
  pub before : place < b
  pub item : Place
  pub is : slice_get zs place ≡ Some item
  pub passes : test item ≡ true

on_choice : (m : Mode) (o : SubOp) (b : Bool) (os : List SubOp) → b ≡ true → modes_conflict m (mode_wanted o.deed) ≡ true
    → list_any (modes_conflict m) (map (λ (q : SubOp). mode_wanted q.deed) (cond b (o ∷ os) os)) ≡ true
on_choice m o true os is against = or_left (modes_conflict m (mode_wanted o.deed)) (list_any (modes_conflict m) (map (λ (q : SubOp). mode_wanted q.deed) os)) against
on_choice m o false os is against = absurd (cc is)

later_choice : (m : Mode) (o : SubOp) (b : Bool) (os : List SubOp)
    → list_any (modes_conflict m) (map (λ (q : SubOp). mode_wanted q.deed) os) ≡ true
    → list_any (modes_conflict m) (map (λ (q : SubOp). mode_wanted q.deed) (cond b (o ∷ os) os)) ≡ true
later_choice m o true os is = or_right (modes_conflict m (mode_wanted o.deed)) (list_any (modes_conflict m) (map (λ (q : SubOp). mode_wanted q.deed) os)) is
later_choice m o false os is = is

pub on_modes : (m : Mode) (x i : ℕ) (o : SubOp) (os : List SubOp) → slice_get os i ≡ Some o → (o.item.0 == x) ≡ true
    → modes_conflict m (mode_wanted o.deed) ≡ true → list_any (modes_conflict m) (modes_on x os) ≡ true
on_modes m x i o [] is on against = absurd (cc is)
on_modes m x zero o (y ∷ os) is on against =
    let same : y ≡ o = cc is in
    on_choice m y (y.item.0 == x) (filter (λ (q : SubOp). q.item.0 == x) os) (ap (λ (z : SubOp). z.item.0 == x) same ∙ on)
    (ap (λ (z : SubOp). modes_conflict m (mode_wanted z.deed)) same ∙ against)
on_modes m x (suc i) o (y ∷ os) is on against =
    later_choice m y (y.item.0 == x) (filter (λ (q : SubOp). q.item.0 == x) os) (on_modes m x i o os is on against)

-- Standing.
abbrev pub gone : ℕ → ℕ → Place → Bool
gone p t y = (y.node == p) && releases t y.act

stood_by : (s : ScriptData) (p x t : ℕ) (m : Mode) (y : Place) (modes : List Mode) (b : Bool)
    → list_any (modes_conflict m) modes ≡ true → b ≡ false
    → list_any (modes_conflict m) (if b then [] else modes ++ modes_on x (locked_by s t y.act)) ≡ true
stood_by s p x t m y modes true has none = absurd (cc none)
stood_by s p x t m y modes false has none =
    list_any-append (modes_conflict m) modes (modes_on x (locked_by s t y.act))
    ∙ or_left (list_any (modes_conflict m) modes) (list_any (modes_conflict m) (modes_on x (locked_by s t y.act))) has

took_by : (s : ScriptData) (p x t : ℕ) (m : Mode) (y : Place) (modes : List Mode) (b : Bool)
    → list_any (modes_conflict m) (modes_on x (locked_by s t y.act)) ≡ true → b ≡ false
    → list_any (modes_conflict m) (if b then [] else modes ++ modes_on x (locked_by s t y.act)) ≡ true
took_by s p x t m y modes true has none = absurd (cc none)
took_by s p x t m y modes false has none =
    list_any-append (modes_conflict m) modes (modes_on x (locked_by s t y.act))
    ∙ or_right (list_any (modes_conflict m) modes) (list_any (modes_conflict m) (modes_on x (locked_by s t y.act))) has

stays_by : (s : ScriptData) (p x t : ℕ) (m : Mode) (y : Place) (ys : List Place) (n : ℕ) (modes : List Mode)
    → list_any (modes_conflict m) modes ≡ true
    → ((ms : List Mode) → list_any (modes_conflict m) ms ≡ true
    → (list_any (modes_conflict m) (fold (modes_after s p x t) ms (take n ys)) ≡ true) ⊎ Found (gone p t) ys n)
    → (gone p t y ≡ true) ⊎ (gone p t y ≡ false)
    → (list_any (modes_conflict m) (fold (modes_after s p x t) modes (take (suc n) (y ∷ ys))) ≡ true) ⊎ Found (gone p t) (y ∷ ys) (suc n)
stays_by s p x t m y ys n modes has rest (inl here) =
    inr (record { place = 0; below = omega arith; item = y; is = refl; passes = here })
stays_by s p x t m y ys n modes has rest (inr none) =
    by (rest (modes_after s p x t modes y) (stood_by s p x t m y modes (gone p t y) has none)) where
      by : (list_any (modes_conflict m) (fold (modes_after s p x t) (modes_after s p x t modes y) (take n ys)) ≡ true) ⊎ Found (gone p t) ys n
          → (list_any (modes_conflict m) (fold (modes_after s p x t) modes (take (suc n) (y ∷ ys))) ≡ true) ⊎ Found (gone p t) (y ∷ ys) (suc n)
      by (inl stands) = inl stands
      by (inr f) = inr (record { place = suc f.place; below = omega (arith, f.below); item = f.item; is = f.is; passes = f.passes })

-- what is, is or is let go
pub stays : (s : ScriptData) (p x t : ℕ) (m : Mode) (ys : List Place) (n : ℕ) (modes : List Mode)
    → list_any (modes_conflict m) modes ≡ true
    → (list_any (modes_conflict m) (fold (modes_after s p x t) modes (take n ys)) ≡ true) ⊎ Found (gone p t) ys n
stays s p x t m [] zero modes has = inl has
stays s p x t m [] (suc n) modes has = inl has
stays s p x t m (y ∷ ys) zero modes has = inl has
stays s p x t m (y ∷ ys) (suc n) modes has =
    stays_by s p x t m y ys n modes has (stays s p x t m ys n) (cases_Bool (gone p t y))

-- what is locked at a is at b, or is let go between
pub locked_then : (s : ScriptData) (p x t : ℕ) (m : Mode) (ys : List Place) (a b : ℕ) (y : Place) (modes : List Mode)
    → slice_get ys a ≡ Some y → a < b → list_any (modes_conflict m) (modes_on x (locked_by s t y.act)) ≡ true
    → gone p t y ≡ false
    → (list_any (modes_conflict m) (fold (modes_after s p x t) modes (take b ys)) ≡ true) ⊎ Between (gone p t) ys a b
locked_then s p x t m [] a b y modes is lt has none = absurd (cc is)
locked_then s p x t m (z ∷ ys) a zero y modes is lt has none = absurd (omega (arith, lt))
locked_then s p x t m (z ∷ ys) zero (suc b) y modes is lt has none =
    let same : z ≡ y = cc is in
    by (stays s p x t m ys b (modes_after s p x t modes z)
    (took_by s p x t m z modes (gone p t z)
    (ap (λ (w : Place). list_any (modes_conflict m) (modes_on x (locked_by s t w.act))) same ∙ has) (ap (gone p t) same ∙ none))) where
      by : (list_any (modes_conflict m) (fold (modes_after s p x t) (modes_after s p x t modes z) (take b ys)) ≡ true) ⊎ Found (gone p t) ys b
          → (list_any (modes_conflict m) (fold (modes_after s p x t) modes (take (suc b) (z ∷ ys))) ≡ true) ⊎ Between (gone p t) (z ∷ ys) 0 (suc b)
      by (inl stands) = inl stands
      by (inr f) = inr (record { place = suc f.place; after = omega arith; before = omega (arith, f.below); item = f.item; is = f.is; passes = f.passes })
locked_then s p x t m (z ∷ ys) (suc a) (suc b) y modes is lt has none =
    by (locked_then s p x t m ys a b y (modes_after s p x t modes z) is (omega (arith, lt)) has none) where
      by : (list_any (modes_conflict m) (fold (modes_after s p x t) (modes_after s p x t modes z) (take b ys)) ≡ true) ⊎ Between (gone p t) ys a b
          → (list_any (modes_conflict m) (fold (modes_after s p x t) modes (take (suc b) (z ∷ ys))) ≡ true) ⊎ Between (gone p t) (z ∷ ys) (suc a) (suc b)
      by (inl stands) = inl stands
      by (inr f) = inr (record { place = suc f.place; after = omega (arith, f.after); before = omega (arith, f.before); item = f.item; is = f.is; passes = f.passes })

-- No conflict.
least_none : (test : ℕ → Bool) (k n j : ℕ) → least_from test k n ≡ None → k ≤ j → j < k + n → test j ≡ false
least_none test k zero j is le lt = absurd (omega (arith, le, lt))
least_none test k (suc n) j is le lt =
    by (test k) refl is (cases_lt k j) (λ none more. least_none test (suc k) n j none (omega (arith, more)) (omega (arith, lt))) where
      by : (b : Bool) → test k ≡ b → (if b then Some k else least_from test (suc k) n) ≡ None → (k < j) ⊎ (j ≤ k)
          → (least_from test (suc k) n ≡ None → k < j → test j ≡ false) → test j ≡ false
      by true here none d rest = absurd (cc none)
      by false here none (inr ge) rest = let same : j ≡ k = omega (arith, le, ge) in ap test same ∙ here
      by false here none (inl more) rest = rest none more

pub none_parts : {A : Type 0} (a b : Option A) → option_or a b ≡ None → (a ≡ None) × (b ≡ None)
none_parts None b is = (refl, is)
none_parts (Some x) b is = absurd (cc is)

no_holder : (x : ItemNo) (found : Option ℕ) → conflict_with x found ≡ None → found ≡ None
no_holder x None is = refl
no_holder x (Some k) is = absurd (cc is)

and_not : (a b : Bool) → (not a && b) ≡ false → a ≡ false → b ≡ false
and_not a true is no_ = absurd (cc (is, no_))
and_not a false is no_ = refl

pub no_conflict : (s : ScriptData) (xs : List Place) (p t k i : ℕ) (o : SubOp) (os : List SubOp) → conflict_of s xs p t os ≡ None
    → slice_get os i ≡ Some o → k < length s.trees → (k == t) ≡ false
    → conflicts_with s xs p o.item.0 (mode_wanted o.deed) k ≡ false
no_conflict s xs p t k i o [] free is lt other = absurd (cc is)
no_conflict s xs p t k zero o (y ∷ os) free is lt other =
    let same : y ≡ o = cc is in
    let parts = none_parts (conflict_with y.item (holder_of s xs p t y.item.0 (mode_wanted y.deed))) (conflict_of s xs p t os) free in
    let none = no_holder y.item (holder_of s xs p t y.item.0 (mode_wanted y.deed)) parts.0 in
    let test : (not (k == t) && conflicts_with s xs p y.item.0 (mode_wanted y.deed) k) ≡ false =
    least_none (λ (j : ℕ). not (j == t) && conflicts_with s xs p y.item.0 (mode_wanted y.deed) j) 0 (length s.trees) k none (omega arith) (omega (arith, lt)) in
    sym (ap (λ (z : SubOp). conflicts_with s xs p z.item.0 (mode_wanted z.deed) k) same)
    ∙ and_not (k == t) (conflicts_with s xs p y.item.0 (mode_wanted y.deed) k) test other
no_conflict s xs p t k (suc i) o (y ∷ os) free is lt other =
    no_conflict s xs p t k i o os
    (none_parts (conflict_with y.item (holder_of s xs p t y.item.0 (mode_wanted y.deed))) (conflict_of s xs p t os) free).1 is lt other

-- tree t takes a lock on x at a, tree k meets none there at b: so t's is let go between
pub let_go_between : (s : ScriptData) (zs : List Place) (p x t k a b : ℕ) (y : Place) (us os : List SubOp) (u : OpOn x us) (o : OpOn x os)
    → slice_get zs a ≡ Some y → locked_by s t y.act ≡ us → gone p t y ≡ false → a < b
    → conflict_of s (take b zs) p k os ≡ None → modes_conflict (mode_wanted o.op.deed) (mode_wanted u.op.deed) ≡ true
    → (t == k) ≡ false → t < length s.trees → Between (gone p t) zs a b
let_go_between s zs p x t k a b y us os u o is locks stays_ lt free against other small =
    by (locked_then s p x t (mode_wanted o.op.deed) zs a b y [] is lt
    (ap (λ z. list_any (modes_conflict (mode_wanted o.op.deed)) (modes_on x z)) locks ∙ on_modes (mode_wanted o.op.deed) x u.index u.op us u.is u.on against) stays_) where
      by : (conflicts_with s (take b zs) p x (mode_wanted o.op.deed) t ≡ true) ⊎ Between (gone p t) zs a b → Between (gone p t) zs a b
      by (inl stands) =
          let same : x ≡ o.op.item.0 = grind (arith, nat_tests, o.on) in
          clash (conflicts_with s (take b zs) p x (mode_wanted o.op.deed) t) stands
          (ap (λ z. conflicts_with s (take b zs) p z (mode_wanted o.op.deed) t) same
          ∙ no_conflict s (take b zs) p k t o.index o.op os free o.is small other)
      by (inr f) = f
