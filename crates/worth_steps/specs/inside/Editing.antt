-- How steps and puts are edited. Only the code cites it.
use Rattle.std.specs.Prelude.{if◌then◌else◌, ℕ, zero, suc, Bool, true, false, ◌==◌, ◌||◌, nat_lt, nat_le, int_le, ℤ, pos, ◌+ℤ◌, ◌-ℤ◌, List, [], ◌∷◌, Option, Some, None, slice_get, ◌≡◌, ◌++◌, take, drop}
use Rattle.std.specs.Int.{int_max}
use Rattle.commute_ops.specs.declared.kinds.Kind.{Kind}
use Rattle.commute_ops.specs.declared.kinds.Op.TheVariants.{Add, Top, Put as PutIn}
use Rattle.script_parts.specs.declared.parts.Deed.{Deed}
use Rattle.script_parts.specs.declared.parts.Deed.TheVariants.{Apply, Get, Set, Draw}
use Rattle.worth_steps.specs.declared.puts.Put.{Put}
use Rattle.worth_steps.specs.declared.steps.WorthStep.{WorthStep}
use Rattle.worth_steps.specs.Steps.{act_on, Ascends, Chained}

-- a number after a deed
abbrev pub changed_number : ℤ → Deed → ℤ
changed_number n (Apply (Add a)) = n +ℤ a
changed_number n (Apply (Top a)) = int_max n a
changed_number n (Apply (PutIn a)) = n
changed_number n Get = n
changed_number n (Set a) = a
changed_number n (Draw a) = n -ℤ a

-- what the first deed of a version makes
abbrev pub first_own : Deed → ℤ
first_own (Apply (Add a)) = a
first_own (Apply (Top a)) = a
first_own (Apply (PutIn a)) = pos 0
first_own Get = pos 0
first_own (Set a) = a
first_own (Draw a) = pos 0 -ℤ a

abbrev pub is_set : Deed → Bool
is_set (Set a) = true
is_set Get = false
is_set (Apply op) = false
is_set (Draw a) = false

-- a step of one deed, whose value isn't known yet; and a step with one deed more
abbrev pub step_begun : ℕ → Deed → WorthStep
step_begun v d = record { version = record { 0 = v }; cut = is_set d; own = first_own d; value = pos 0 }

abbrev pub step_gone_on : Deed → WorthStep → WorthStep
step_gone_on d s = record s { cut = s.cut || is_set d; own = changed_number s.own d }

-- the steps with a deed of version v
abbrev pub at_place : ℕ → Deed → WorthStep → List WorthStep → Bool → List WorthStep
at_place v d s ss true = step_gone_on d s ∷ ss
at_place v d s ss false = step_begun v d ∷ s ∷ ss

abbrev pub edited : ℕ → Deed → List WorthStep → List WorthStep
edited v d [] = step_begun v d ∷ []
edited v d (s ∷ ss) = if nat_lt s.version.0 v then s ∷ edited v d ss else at_place v d s ss (s.version.0 == v)

-- the steps with their values worked out, from the number below them
abbrev pub step_valued : Kind → ℤ → WorthStep → WorthStep
step_valued k below s = record s { value = act_on k s.cut s.own below }

abbrev pub revalued : Kind → ℤ → List WorthStep → List WorthStep
revalued k below [] = []
revalued k below (s ∷ ss) = step_valued k below s ∷ revalued k (act_on k s.cut s.own below) ss

-- how many steps come first that are of version at most v
abbrev pub steps_up_to : ℕ → List WorthStep → ℕ
steps_up_to v [] = 0
steps_up_to v (s ∷ ss) = if nat_le s.version.0 v then suc (steps_up_to v ss) else 0

-- the number below a place
abbrev pub number_below : ℤ → ℕ → List WorthStep → ℤ
number_below first zero ss = first
number_below first (suc p) ss = elim (slice_get ss p) [ None ↦ first | Some s ↦ s.value ]

-- the step before a place is of version v
abbrev pub stands_before : ℕ → ℕ → List WorthStep → Bool
stands_before zero v ss = false
stands_before (suc p) v ss = elim (slice_get ss p) [ None ↦ false | Some s ↦ s.version.0 == v ]

-- steps with these in place of those from a place on, and their values worked out anew; if one begins at the place,
-- and if the one there goes on with a deed
abbrev pub revalued_from : Kind → ℤ → ℕ → List WorthStep → List WorthStep → List WorthStep
revalued_from k first p above ss = take p ss ++ revalued k (number_below first p ss) above

abbrev pub begun_at : Kind → ℤ → ℕ → WorthStep → List WorthStep → List WorthStep
begun_at k first p s ss = revalued_from k first p (s ∷ drop p ss) ss

abbrev pub HasGoneOn : Kind → ℤ → ℕ → Deed → List WorthStep → List WorthStep → Type 0
HasGoneOn k first p d olds news =
    (s : WorthStep) → slice_get olds p ≡ Some s
    → news ≡ revalued_from k first p (step_gone_on d s ∷ drop (suc p) olds) olds

-- steps that ascend, each from the one before, with a deed of version v
abbrev pub AreEdited : Kind → ℤ → ℕ → Deed → List WorthStep → List WorthStep → Type 0
AreEdited k first v d olds news = Ascends olds → Chained k first olds → news ≡ revalued k first (edited v d olds)

-- what a deed of version v puts into a bag
abbrev pub put_of : ℕ → Deed → Option Put
put_of v (Apply (PutIn n)) = Some (record { number = n; version = record { 0 = v } })
put_of v (Apply (Add a)) = None
put_of v (Apply (Top a)) = None
put_of v Get = None
put_of v (Set a) = None
put_of v (Draw a) = None

-- a put more, before all of at least its number
abbrev pub with_put : Put → List Put → List Put
with_put p [] = p ∷ []
with_put p (x ∷ xs) = if int_le p.number x.number then p ∷ x ∷ xs else x ∷ with_put p xs

-- how many puts are of lesser numbers than n
abbrev pub put_rank : ℤ → List Put → ℕ
put_rank n [] = 0
put_rank n (x ∷ xs) = if int_le n x.number then 0 else suc (put_rank n xs)
