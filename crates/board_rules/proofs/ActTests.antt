-- What a test of an act says of it.
use Rattle.std.proofs.Common.{◌≡◌, ◌==◌, ◌&&◌, ℕ, Bool, true, false, List, refl}
use Rattle.std.specs.Prelude.{if◌then◌else◌, not, ◌||◌}
use Rattle.std.proofs.lemmas.Bool.{and_from, eqb-true}
use Rattle.tv_base.specs.declared.numbers.ItemNo.{ItemNo}
use Rattle.tv_base.proofs.Truths.{left_true, right_true}
use Rattle.commute_ops.specs.declared.value.Value.{Value}
use Rattle.letter_types.specs.declared.acts.Act.{Act}
use Rattle.letter_types.specs.declared.acts.Act.TheVariants.{Born, Did, Turned, Showed, Swept, Finished, Waits, Parked, Voted, Freed, Decided, Applied}
use Rattle.letter_types.specs.declared.votes.Vote.TheVariants.{Yes, No}
use Rattle.board_rules.specs.Histories.{applies, decides_as, does}
use Rattle.board_rules.specs.Stands.{frees, votes_yes}

-- the act applies tree t, which was decided so
abbrev pub applies_as : ℕ → Bool → Act → Bool
applies_as t commit (Applied u d) = (u.0 == t) && (if commit then d else not d)
applies_as t commit Finished = false
applies_as t commit _ = false

-- A test says of an act what it is.
pub does_is : (t k : ℕ) (a : Act) → does t k a ≡ true
    → (values : List (ItemNo × Value)) × (a ≡ Did (record { 0 = t }) (record { 0 = k }) values)
does_is t k (Did u j values) is =
    let e : u.0 ≡ t = eqb-true u.0 t (left_true (u.0 == t) (j.0 == k) is) in
    let f : j.0 ≡ k = eqb-true j.0 k (right_true (u.0 == t) (j.0 == k) is) in
    (values, λ i. Did (record { 0 = e i }) (record { 0 = f i }) values)
does_is t k (Born u v) is = absurd (cc is)
does_is t k (Turned v) is = absurd (cc is)
does_is t k (Showed v) is = absurd (cc is)
does_is t k (Swept v) is = absurd (cc is)
does_is t k Finished is = absurd (cc is)
does_is t k (Waits u a b) is = absurd (cc is)
does_is t k (Parked u a b h) is = absurd (cc is)
does_is t k (Voted u j vote) is = absurd (cc is)
does_is t k (Freed u) is = absurd (cc is)
does_is t k (Decided u d) is = absurd (cc is)
does_is t k (Applied u d) is = absurd (cc is)

pub votes_yes_is : (t k : ℕ) (a : Act) → votes_yes t k a ≡ true
    → (values : List (ItemNo × Value)) × (a ≡ Voted (record { 0 = t }) (record { 0 = k }) (Yes values))
votes_yes_is t k (Voted u j (Yes values)) is =
    let e : u.0 ≡ t = eqb-true u.0 t (left_true (u.0 == t) (j.0 == k) is) in
    let f : j.0 ≡ k = eqb-true j.0 k (right_true (u.0 == t) (j.0 == k) is) in
    (values, λ i. Voted (record { 0 = e i }) (record { 0 = f i }) (Yes values))
votes_yes_is t k (Voted u j (No cause)) is = absurd (cc is)
votes_yes_is t k (Born u v) is = absurd (cc is)
votes_yes_is t k (Did u j values) is = absurd (cc is)
votes_yes_is t k (Turned v) is = absurd (cc is)
votes_yes_is t k (Showed v) is = absurd (cc is)
votes_yes_is t k (Swept v) is = absurd (cc is)
votes_yes_is t k Finished is = absurd (cc is)
votes_yes_is t k (Waits u a b) is = absurd (cc is)
votes_yes_is t k (Parked u a b h) is = absurd (cc is)
votes_yes_is t k (Freed u) is = absurd (cc is)
votes_yes_is t k (Decided u d) is = absurd (cc is)
votes_yes_is t k (Applied u d) is = absurd (cc is)

pub frees_is : (t : ℕ) (a : Act) → frees t a ≡ true → a ≡ Freed (record { 0 = t })
frees_is t (Freed u) is = let e : u.0 ≡ t = eqb-true u.0 t is in λ i. Freed (record { 0 = e i })
frees_is t (Born u v) is = absurd (cc is)
frees_is t (Did u j values) is = absurd (cc is)
frees_is t (Turned v) is = absurd (cc is)
frees_is t (Showed v) is = absurd (cc is)
frees_is t (Swept v) is = absurd (cc is)
frees_is t Finished is = absurd (cc is)
frees_is t (Waits u a b) is = absurd (cc is)
frees_is t (Parked u a b h) is = absurd (cc is)
frees_is t (Voted u j vote) is = absurd (cc is)
frees_is t (Decided u d) is = absurd (cc is)
frees_is t (Applied u d) is = absurd (cc is)

as_is : (c d : Bool) → (if c then d else not d) ≡ true → d ≡ c
as_is true d is = is
as_is false false is = refl
as_is false true is = absurd (cc is)

pub decides_as_is : (t : ℕ) (c : Bool) (a : Act) → decides_as t c a ≡ true → a ≡ Decided (record { 0 = t }) c
decides_as_is t c (Decided u d) is =
    let e : u.0 ≡ t = eqb-true u.0 t (left_true (u.0 == t) (if c then d else not d) is) in
    let f : d ≡ c = as_is c d (right_true (u.0 == t) (if c then d else not d) is) in
    λ i. Decided (record { 0 = e i }) (f i)
decides_as_is t c (Born u v) is = absurd (cc is)
decides_as_is t c (Did u j values) is = absurd (cc is)
decides_as_is t c (Turned v) is = absurd (cc is)
decides_as_is t c (Showed v) is = absurd (cc is)
decides_as_is t c (Swept v) is = absurd (cc is)
decides_as_is t c Finished is = absurd (cc is)
decides_as_is t c (Waits u a b) is = absurd (cc is)
decides_as_is t c (Parked u a b h) is = absurd (cc is)
decides_as_is t c (Voted u j vote) is = absurd (cc is)
decides_as_is t c (Freed u) is = absurd (cc is)
decides_as_is t c (Applied u d) is = absurd (cc is)

pub applies_as_is : (t : ℕ) (c : Bool) (a : Act) → applies_as t c a ≡ true → a ≡ Applied (record { 0 = t }) c
applies_as_is t c (Applied u d) is =
    let e : u.0 ≡ t = eqb-true u.0 t (left_true (u.0 == t) (if c then d else not d) is) in
    let f : d ≡ c = as_is c d (right_true (u.0 == t) (if c then d else not d) is) in
    λ i. Applied (record { 0 = e i }) (f i)
applies_as_is t c (Born u v) is = absurd (cc is)
applies_as_is t c (Did u j values) is = absurd (cc is)
applies_as_is t c (Turned v) is = absurd (cc is)
applies_as_is t c (Showed v) is = absurd (cc is)
applies_as_is t c (Swept v) is = absurd (cc is)
applies_as_is t c Finished is = absurd (cc is)
applies_as_is t c (Waits u a b) is = absurd (cc is)
applies_as_is t c (Parked u a b h) is = absurd (cc is)
applies_as_is t c (Voted u j vote) is = absurd (cc is)
applies_as_is t c (Freed u) is = absurd (cc is)
applies_as_is t c (Decided u d) is = absurd (cc is)

-- an Applied is one of what was decided
pub so_it_is : (d : Bool) → (if d then d else not d) ≡ true
so_it_is true = refl
so_it_is false = refl

pub applies_as_one : (t : ℕ) (a : Act) → applies t a ≡ true → (c : Bool) × (applies_as t c a ≡ true)
applies_as_one t (Applied u d) is = (d, and_from (u.0 == t) (if d then d else not d) is (so_it_is d))
applies_as_one t (Born u v) is = absurd (cc is)
applies_as_one t (Did u j values) is = absurd (cc is)
applies_as_one t (Turned v) is = absurd (cc is)
applies_as_one t (Showed v) is = absurd (cc is)
applies_as_one t (Swept v) is = absurd (cc is)
applies_as_one t Finished is = absurd (cc is)
applies_as_one t (Waits u a b) is = absurd (cc is)
applies_as_one t (Parked u a b h) is = absurd (cc is)
applies_as_one t (Voted u j vote) is = absurd (cc is)
applies_as_one t (Freed u) is = absurd (cc is)
applies_as_one t (Decided u d) is = absurd (cc is)

pub applied_any : (t : ℕ) (c : Bool) (a : Act) → applies_as t c a ≡ true → applies t a ≡ true
applied_any t c (Applied u d) is = left_true (u.0 == t) (if c then d else not d) is
applied_any t c (Born u v) is = absurd (cc is)
applied_any t c (Did u j values) is = absurd (cc is)
applied_any t c (Turned v) is = absurd (cc is)
applied_any t c (Showed v) is = absurd (cc is)
applied_any t c (Swept v) is = absurd (cc is)
applied_any t c Finished is = absurd (cc is)
applied_any t c (Waits u a b) is = absurd (cc is)
applied_any t c (Parked u a b h) is = absurd (cc is)
applied_any t c (Voted u j vote) is = absurd (cc is)
applied_any t c (Freed u) is = absurd (cc is)
applied_any t c (Decided u d) is = absurd (cc is)

-- what lets go of what tree k has at its node is a Freed or an Applied
abbrev pub releases : ℕ → Act → Bool
releases k a = frees k a || applies k a
