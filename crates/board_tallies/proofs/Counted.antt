-- How many transactions are counted, after one is counted anew.
use Rattle.std.proofs.Common.{◌≡◌, ℕ, ◌+◌, ◌≤◌, Bool, true, false, List, Option, Some, None, refl, sym, ap, ◌∙◌, arith}
use Rattle.std.specs.Prelude.{if◌then◌else◌}
use Rattle.std.proofs.lemmas.Bool.{eq-eqb}
use Rattle.tv_base.specs.declared.numbers.Version.{Version}
use Rattle.board_tallies.specs.Board.{pending_of, pends}
use Rattle.board_tallies.specs.inside.Pending.{MayRecount}
use Rattle.board_tallies.specs.declared.pending.Pending.{Pending}

-- a tree counts as one in its own version
pub pends_own : (own : Bool) (v : Version) → pends own v.0 own (Some v) ≡ 1
pends_own true v = ap (λ (b : Bool). if b then 1 else 0) (eq-eqb v.0 v.0 refl)
pends_own false v = ap (λ (b : Bool). if b then 1 else 0) (eq-eqb v.0 v.0 refl)

-- and as none where it is pending in no version
pub pends_none : (r own : Bool) (v : ℕ) → pends r v own None ≡ 0
pends_none true true v = refl
pends_none true false v = refl
pends_none false true v = refl
pends_none false false v = refl

-- one less
pub counted_out : (own : Bool) (version : Version) (before after : Option Version) (ps qs : List Pending)
    → before ≡ Some version → after ≡ None
    → (1 ≤ pending_of own version.0 ps → (r : Bool) (v : ℕ) → pending_of r v qs + pends r v own (Some version) ≡ pending_of r v ps)
    → MayRecount own before after ps → (r : Bool) (v : ℕ)
    → pending_of r v qs + pends r v own before ≡ pending_of r v ps + pends r v own after
counted_out own version before after ps qs was is less may r v =
    let own_one : pends own version.0 own before ≡ 1 = ap (λ (o : Option Version). pends own version.0 own o) was ∙ pends_own own version in
    let some = may.counted own version.0 in
    let one = less (omega (arith, own_one, some)) r v in
    let first : pends r v own before ≡ pends r v own (Some version) = ap (λ (o : Option Version). pends r v own o) was in
    let last : pends r v own after ≡ 0 = ap (λ (o : Option Version). pends r v own o) is ∙ pends_none r own v in
    omega (arith, one, first, last)

-- as many, where the version is the same
pub counted_same : (own : Bool) (one two : Version) (before after : Option Version) (ps : List Pending)
    → before ≡ Some one → after ≡ Some two → MayRecount own before after ps → (r : Bool) (v : ℕ)
    → pending_of r v ps + pends r v own before ≡ pending_of r v ps + pends r v own after
counted_same own one two before after ps was is may r v =
    let same : before ≡ after = was ∙ ap (λ (w : Version). Some w) (may.stays one two was is) ∙ sym is in
    ap (λ (o : Option Version). pending_of r v ps + pends r v own o) same
