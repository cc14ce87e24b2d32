-- A walk over the places with one key, which are those of a subtransaction, finds its first called message.
use Rattle.std.proofs.Common.{◌≡◌, ℕ, Bool, true, false, ◌&&◌, ◌||◌, eqb, List, [], ◌∷◌, refl, ap, sym, ◌∙◌, cond, Option, Some, None}
use Rattle.std.specs.List.{AllByRecursion}
use Rattle.std.specs.Ordering.{is_eq, nat_cmp}
use Rattle.tv_base.specs.declared.numbers.SubNo.{SubNo}
use Rattle.tv_base.specs.declared.numbers.TreeNo.{TreeNo}
use Rattle.tv_base.proofs.Orderings.{is_eq-back, is_eq-then}
use Rattle.letter_types.specs.declared.kept.KeptLetter.{KeptLetter}
use Rattle.letter_types.specs.declared.kept.KeepReason.{KeepReason}
use Rattle.letter_types.specs.declared.kept.KeepReason.TheVariants.{ForShow, ForHolder, Called}
use Rattle.letter_types.specs.Kept.{is_called}
use Rattle.node_machine.specs.declared.places.Key.TheVariants.{Sub}
use Rattle.node_machine.specs.declared.places.KeptPlace.{KeptPlace}
use Rattle.node_machine.specs.inside.Arrivals.{ArePlaced, Arrived, called_at, called_in, came, is_called_now, is_found}
use Rattle.node_machine.specs.inside.Places.{finds, is_why, key_order, place_by}
use Rattle.node_machine.proofs.deferred.PlacesOfKey.{each_came, part_is, part_of, places_of}

-- by its subtransaction a message is found whatever it is deferred for
no-reason : (t : TreeNo) (k : SubNo) (why : KeepReason) → is_why (Sub t k) why ≡ false
no-reason t k ForShow = refl
no-reason t k (ForHolder h) = refl
no-reason t k Called = refl

or-none : (a b : Bool) → b ≡ false → (a || b) ≡ a
or-none true b none = refl
or-none false b none = none

sub_finds : (u : TreeNo) (l : SubNo) (why : KeepReason) (t : TreeNo) (k : SubNo)
    → finds u l why (Sub t k) ≡ (eqb u.0 t.0 && eqb l.0 k.0)
sub_finds u l why t k =
    or-none (is_eq (key_order (Sub u l) (Sub t k))) (is_why (Sub t k) why) (no-reason t k why)
    ∙ is_eq-then (nat_cmp u.0 t.0) (nat_cmp l.0 k.0)
    ∙ (λ i. is_eq-back u.0 t.0 i && is_eq-back l.0 k.0 i)

called-by : (t : TreeNo) (k : SubNo) (e : ℕ × KeptLetter) (es all : Arrived) (c f : Bool) → is_called e.1.why ≡ c
    → came e.0 all ≡ Some e.1 → called_in all (places_of (Sub t k) es) ≡ called_at t k es
    → called_in all (cond f (place_by (Sub t k) e.0 ∷ places_of (Sub t k) es) (places_of (Sub t k) es))
    ≡ cond (c && f) (Some e.0) (called_at t k es)
called-by t k e es all true true calls there rest =
    ap (λ (o : Option KeptLetter). cond (is_called_now o) (Some e.0) (called_in all (places_of (Sub t k) es))) there
    ∙ ap (λ (b : Bool). cond b (Some e.0) (called_in all (places_of (Sub t k) es))) calls
called-by t k e es all false true calls there rest =
    ap (λ (o : Option KeptLetter). cond (is_called_now o) (Some e.0) (called_in all (places_of (Sub t k) es))) there
    ∙ ap (λ (b : Bool). cond b (Some e.0) (called_in all (places_of (Sub t k) es))) calls ∙ rest
called-by t k e es all true false calls there rest = rest
called-by t k e es all false false calls there rest = rest

called-walk : (t : TreeNo) (k : SubNo) (es all : Arrived) → AllByRecursion (λ e. came e.0 all ≡ Some e.1) es
    → called_in all (places_of (Sub t k) es) ≡ called_at t k es
called-walk t k [] all there = refl
called-walk t k (e ∷ es) all there =
    called-by t k e es all (is_called e.1.why) (is_found (Sub t k) (Some e.1)) refl there.0
    (called-walk t k es all there.1)
    ∙ ap (λ (f : Bool). cond (is_called e.1.why && f) (Some e.0) (called_at t k es))
    (sub_finds e.1.tree e.1.sub e.1.why t k)

-- the first called message is found by a walk over the places of its subtransaction
pub called_found : (t : TreeNo) (k : SubNo) (next : ℕ) (es : Arrived) (ps part : List KeptPlace) → ArePlaced next es ps
    → part ≡ part_of (Sub t k) next ps → called_in es part ≡ called_at t k es
called_found t k next es ps part kept is =
    ap (λ (ps : List KeptPlace). called_in es ps) (is ∙ part_is (Sub t k) next es ps kept)
    ∙ called-walk t k es es (each_came es es kept.ascending (λ a there. refl))

-- a turn of this walk: it stops at a place, or passes it
abbrev chosen : Arrived → KeptPlace → List KeptPlace → Bool → Option ℕ
chosen es p ps b = cond b (Some p.arrival) (called_in es ps)

pub stopped : (es : Arrived) (p : KeptPlace) (ps all : List KeptPlace) (r : Option ℕ) → called_in es all ≡ r → all ≡ p ∷ ps
    → is_called_now (came p.arrival es) ≡ true → Some p.arrival ≡ r
stopped es p ps all r is starts here =
    sym (ap (chosen es p ps) here) ∙ sym (ap (λ (ps : List KeptPlace). called_in es ps) starts) ∙ is

pub passed : (es : Arrived) (p : KeptPlace) (ps all : List KeptPlace) (r : Option ℕ) → called_in es all ≡ r → all ≡ p ∷ ps
    → is_called_now (came p.arrival es) ≡ false → called_in es ps ≡ r
passed es p ps all r is starts off =
    sym (ap (chosen es p ps) off) ∙ sym (ap (λ (ps : List KeptPlace). called_in es ps) starts) ∙ is

pub ended : (es : Arrived) (all : List KeptPlace) (r : Option ℕ) → called_in es all ≡ r → all ≡ [] → r ≡ None
ended es all r is empty = sym is ∙ ap (λ (ps : List KeptPlace). called_in es ps) empty
