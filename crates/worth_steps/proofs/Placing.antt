-- Where a version has its place among the steps, what stands there, and the edit in place.
use Rattle.std.proofs.Common.{◌≡◌, ℕ, zero, suc, ◌+◌, ◌-◌, ◌<◌, ◌≤◌, Bool, true, false, List, [], ◌∷◌, ◌++◌, length, take, drop, refl, ℤ, max, ap, sym, ◌∙◌, subst, arith, get_or, Option, Some, None}
use Rattle.std.specs.Prelude.{if◌then◌else◌, ◌==◌, nat_le, nat_lt, slice_get}
use Rattle.std.specs.List.Sorted.{IsNonDecreasingBy, IsPartitionPoint}
use Rattle.std.proofs.lemmas.Bool.Decides.{nat_tests}
use Rattle.std.proofs.lemmas.Option.{get_or_from_slice_get}
use Rattle.std.proofs.lemmas.List.{get_or_default}
use Rattle.commute_ops.specs.declared.kinds.Kind.{Kind}
use Rattle.script_parts.specs.declared.parts.Deed.{Deed}
use Rattle.worth_steps.specs.declared.steps.WorthStep.{WorthStep}
use Rattle.worth_steps.specs.Steps.{AllAbove, Ascends, Chained, act_on, newest_step, seen_to}
use Rattle.worth_steps.specs.inside.Editing.{at_place, edited, number_below, revalued, stands_before, step_begun, step_gone_on, step_valued, steps_up_to}

-- Versions in order, by places.

above_at : (u : ℕ) (ss : List WorthStep) (j : ℕ) (d : WorthStep) → AllAbove u ss → j < length ss → u ≤ (get_or ss j d).version.0
above_at u [] j d up within = absurd (omega arith)
above_at u (s ∷ ss) zero d up within = omega (arith, up.0)
above_at u (s ∷ ss) (suc j) d up within = above_at u ss j d up.1 (omega arith)

pub rising : (ss : List WorthStep) → Ascends ss → IsNonDecreasingBy (λ (s : WorthStep). s.version.0) ss
rising [] up i j d le within = absurd (omega arith)
rising (s ∷ ss) up zero zero d le within = omega arith
rising (s ∷ ss) up zero (suc j) d le within = above_at s.version.0 ss j d up.0 (omega arith)
rising (s ∷ ss) up (suc i) zero d le within = absurd (omega arith)
rising (s ∷ ss) up (suc i) (suc j) d le within = rising ss up.1 i j d (omega arith) (omega arith)

-- the place of a version is where its test turns
pub point_is : (v : ℕ) (ss : List WorthStep) (i : ℕ) → i ≤ length ss
    → IsPartitionPoint (λ (s : WorthStep). nat_le s.version.0 v ≡ true) (λ (s : WorthStep). nat_le s.version.0 v ≡ false) ss i
    → i ≡ steps_up_to v ss
point_is v [] i le point = omega arith
point_is v (s ∷ ss) zero le point =
    let not : nat_le s.version.0 v ≡ false = point.1 zero s (omega arith) (omega arith) in rw not refl
point_is v (s ∷ ss) (suc i) le point =
    let is : nat_le s.version.0 v ≡ true = point.0 zero s (omega arith) (omega arith) in
    rw is (ap suc (point_is v ss i (omega arith)
    (λ k d low high. point.0 (suc k) d (omega arith) (omega arith), λ k d low high. point.1 (suc k) d (omega arith) (omega arith))))

-- what stands at a place, as a look-up has it
version_at : (ss : List WorthStep) (i : ℕ) (x d : WorthStep) → slice_get ss i ≡ Some x → i < length ss
    → (get_or ss i d).version.0 ≡ x.version.0
version_at ss i x d at within =
    ap (λ (s : WorthStep). s.version.0) (get_or_default ss i d x within ∙ get_or_from_slice_get ss i x x at)

pub length_some : (ss : List WorthStep) (x : WorthStep) → slice_get ss (length ss - 1) ≡ Some x → length ss - 1 + 1 ≡ length ss
length_some [] x at = absurd (cc at)
length_some (s ∷ ss) x at = omega arith

pub all_up_to : (v : ℕ) (ss : List WorthStep) (i : ℕ) (x : WorthStep) → Ascends ss → i + 1 ≡ length ss → slice_get ss i ≡ Some x
    → x.version.0 ≤ v → length ss ≡ steps_up_to v ss
all_up_to v ss i x up len at le =
    point_is v ss (length ss) (omega arith) (
      λ k d low high.
          let most = rising ss up k i d (omega arith) (omega arith) in
          let last = version_at ss i x d at (omega arith) in
          let most_of : (get_or ss k d).version.0 ≤ v = omega arith in
          grind (arith, nat_tests),
      λ k d low high. absurd (omega arith),
    )

-- the last step is of the greatest version
pub last_is_newest : (ss : List WorthStep) (i : ℕ) (x : WorthStep) → Ascends ss → i + 1 ≡ length ss → slice_get ss i ≡ Some x
    → x.version.0 ≡ newest_step ss
last_is_newest [] i x up len at = absurd (omega arith)
last_is_newest (s ∷ []) zero x up len at =
    let is : s ≡ x = cc at in sym (ap (λ (y : WorthStep). max y.version.0 0) is ∙ omega arith)
last_is_newest (s ∷ t ∷ ss) zero x up len at = absurd (omega arith)
last_is_newest (s ∷ ss) (suc i) x up len at =
    let rest = last_is_newest ss i x up.1 (omega arith) at in
    let low = above_at s.version.0 ss i x up.0 (omega arith) in
    let is = version_at ss i x x at (omega arith) in
    omega arith

-- the number below a place, where a step stands in front
pub below_tail : (first : ℤ) (p : ℕ) (s : WorthStep) (ss : List WorthStep) → p ≤ length ss
    → number_below first (suc p) (s ∷ ss) ≡ number_below s.value p ss
below_tail first zero s ss le = refl
below_tail first (suc p) s [] le = absurd (omega arith)
below_tail first (suc zero) s (t ∷ ss) le = refl
below_tail first (suc (suc p)) s (t ∷ ss) le = below_tail first (suc p) s ss (omega arith)

pub up_to_le : (v : ℕ) (ss : List WorthStep) → steps_up_to v ss ≤ length ss
up_to_le v [] = omega arith
up_to_le v (s ∷ ss) = let h = up_to_le v ss in grind (arith, nat_tests)

seen_by : (first : ℤ) (v : ℕ) (s : WorthStep) (ss : List WorthStep) (b : Bool)
    → number_below s.value (steps_up_to v ss) ss ≡ seen_to s.value ss v
    → number_below first (if b then suc (steps_up_to v ss) else 0) (s ∷ ss) ≡ (if b then seen_to s.value ss v else first)
seen_by first v s ss true rest = below_tail first (steps_up_to v ss) s ss (up_to_le v ss) ∙ rest
seen_by first v s ss false rest = refl

-- what is seen at a version is the number below its place
pub seen_below : (first : ℤ) (v : ℕ) (ss : List WorthStep) → number_below first (steps_up_to v ss) ss ≡ seen_to first ss v
seen_below first v [] = refl
seen_below first v (s ∷ ss) = seen_by first v s ss (nat_le s.version.0 v) (seen_below s.value v ss)

-- no step comes first where all are above
none_up_to : (u v : ℕ) (ss : List WorthStep) → v ≤ u → AllAbove u ss → steps_up_to v ss ≡ 0
none_up_to u v [] le up = refl
none_up_to u v (s ∷ ss) le up =
    let over : nat_le s.version.0 v ≡ false = grind (arith, nat_tests, up.0) in rw over refl

-- A deed more, at its place.

-- a step whose value is worked out stays
same_valued : (k : Kind) (below : ℤ) (s : WorthStep) → s.value ≡ act_on k s.cut s.own below → step_valued k below s ≡ s
same_valued k below s made = λ i. record { version = s.version; cut = s.cut; own = s.own; value = sym made i }

-- a step in front, whose value stays, and what is worked out of the others
in_front : (k : Kind) (first : ℤ) (s : WorthStep) (p : ℕ) (x : WorthStep) (ss rest new : List WorthStep)
    → s.value ≡ act_on k s.cut s.own first → p ≤ length ss
    → take p ss ++ revalued k (number_below s.value p ss) (x ∷ rest) ≡ revalued k s.value new
    → take (suc p) (s ∷ ss) ++ revalued k (number_below first (suc p) (s ∷ ss)) (x ∷ rest) ≡ revalued k first (s ∷ new)
in_front k first s p x ss rest new made le is =
    ap (λ (n : ℤ). s ∷ (take p ss ++ revalued k n (x ∷ rest))) (below_tail first p s ss le)
    ∙ ap (λ (xs : List WorthStep). s ∷ xs) is
    ∙ ap (λ (y : WorthStep). y ∷ revalued k s.value new) (sym (same_valued k first s made))
    ∙ ap (λ (n : ℤ). step_valued k first s ∷ revalued k n new) made

stands_tail : (p v : ℕ) (s : WorthStep) (ss : List WorthStep) → stands_before (suc p) v (s ∷ ss) ≡ false → stands_before p v ss ≡ false
stands_tail zero v s ss none = refl
stands_tail (suc p) v s ss none = none

begin_by : (k : Kind) (first : ℤ) (v : ℕ) (d : Deed) (s : WorthStep) (ss : List WorthStep) → AllAbove s.version.0 ss
    → s.value ≡ act_on k s.cut s.own first
    → (stands_before (steps_up_to v ss) v ss ≡ false
    → take (steps_up_to v ss) ss ++ revalued k (number_below s.value (steps_up_to v ss) ss) (step_begun v d ∷ drop (steps_up_to v ss) ss)
    ≡ revalued k s.value (edited v d ss))
    → (b c e : Bool) → nat_le s.version.0 v ≡ b → nat_lt s.version.0 v ≡ c → (s.version.0 == v) ≡ e
    → stands_before (if b then suc (steps_up_to v ss) else 0) v (s ∷ ss) ≡ false
    → take (if b then suc (steps_up_to v ss) else 0) (s ∷ ss)
    ++ revalued k (number_below first (if b then suc (steps_up_to v ss) else 0) (s ∷ ss)) (step_begun v d ∷ drop (if b then suc (steps_up_to v ss) else 0) (s ∷ ss))
    ≡ revalued k first (if c then s ∷ edited v d ss else at_place v d s ss e)
begin_by k first v d s ss up made rest true true e le lt eq none =
    in_front k first s (steps_up_to v ss) (step_begun v d) ss (drop (steps_up_to v ss) ss) (edited v d ss) made (up_to_le v ss)
    (rest (stands_tail (steps_up_to v ss) v s ss none))
begin_by k first v d s ss up made rest true false true le lt eq none =
    let here : v ≤ s.version.0 = grind (arith, nat_tests) in
    let first_one = none_up_to s.version.0 v ss here up in
    let not : (s.version.0 == v) ≡ false = subst (λ (p : ℕ). stands_before (suc p) v (s ∷ ss) ≡ false) first_one none in
    absurd (cc (not, eq))
begin_by k first v d s ss up made rest true false false le lt eq none =
    absurd (let same : (s.version.0 == v) ≡ true = grind (arith, nat_tests) in cc (same, eq))
begin_by k first v d s ss up made rest false true e le lt eq none =
    absurd (let more : nat_le s.version.0 v ≡ true = grind (arith, nat_tests) in cc (more, le))
begin_by k first v d s ss up made rest false false true le lt eq none =
    absurd (let more : nat_le s.version.0 v ≡ true = grind (arith, nat_tests) in cc (more, le))
begin_by k first v d s ss up made rest false false false le lt eq none = refl

-- a step begins
pub begin_is : (k : Kind) (first : ℤ) (v : ℕ) (d : Deed) (ss : List WorthStep) → Ascends ss → Chained k first ss
    → stands_before (steps_up_to v ss) v ss ≡ false
    → take (steps_up_to v ss) ss ++ revalued k (number_below first (steps_up_to v ss) ss) (step_begun v d ∷ drop (steps_up_to v ss) ss)
    ≡ revalued k first (edited v d ss)
begin_is k first v d [] up chain none = refl
begin_is k first v d (s ∷ ss) up chain none =
    begin_by k first v d s ss up.0 chain.0 (begin_is k s.value v d ss up.1 chain.1) (nat_le s.version.0 v) (nat_lt s.version.0 v)
    (s.version.0 == v) refl refl refl none

-- or the step of the version goes on
go_on_by : (k : Kind) (first : ℤ) (v : ℕ) (d : Deed) (s x : WorthStep) (ss : List WorthStep) (q : ℕ) → AllAbove s.version.0 ss
    → s.value ≡ act_on k s.cut s.own first → (x.version.0 == v) ≡ true
    → ((r : ℕ) → steps_up_to v ss ≡ suc r → slice_get ss r ≡ Some x
    → take r ss ++ revalued k (number_below s.value r ss) (step_gone_on d x ∷ drop (suc r) ss) ≡ revalued k s.value (edited v d ss))
    → (b c e : Bool) → nat_le s.version.0 v ≡ b → nat_lt s.version.0 v ≡ c → (s.version.0 == v) ≡ e
    → (if b then suc (steps_up_to v ss) else 0) ≡ suc q → slice_get (s ∷ ss) q ≡ Some x
    → take q (s ∷ ss) ++ revalued k (number_below first q (s ∷ ss)) (step_gone_on d x ∷ drop (suc q) (s ∷ ss))
    ≡ revalued k first (if c then s ∷ edited v d ss else at_place v d s ss e)
go_on_by k first v d s x ss q up made is rest false c e le lt eq place at = absurd (omega (arith, place))
go_on_by k first v d s x ss zero up made is rest true true e le lt eq place at =
    let one : x ≡ s = cc at in
    let same : (s.version.0 == v) ≡ true = subst (λ (y : WorthStep). (y.version.0 == v) ≡ true) one is in
    absurd (let not : (s.version.0 == v) ≡ false = grind (arith, nat_tests) in cc (not, same))
go_on_by k first v d s x ss zero up made is rest true false true le lt eq place at =
    let same : x ≡ s = cc at in ap (λ (y : WorthStep). revalued k first (step_gone_on d y ∷ ss)) same
go_on_by k first v d s x ss zero up made is rest true false false le lt eq place at =
    let one : x ≡ s = cc at in
    let same : (s.version.0 == v) ≡ true = subst (λ (y : WorthStep). (y.version.0 == v) ≡ true) one is in
    absurd (cc (eq, same))
go_on_by k first v d s x ss (suc r) up made is rest true true e le lt eq place at =
    let next : steps_up_to v ss ≡ suc r = omega (arith, place) in
    in_front k first s r (step_gone_on d x) ss (drop (suc r) ss) (edited v d ss) made (let le = up_to_le v ss in omega arith)
    (rest r next at)
go_on_by k first v d s x ss (suc r) up made is rest true false e le lt eq place at =
    let here : v ≤ s.version.0 = grind (arith, nat_tests) in
    let first_one = none_up_to s.version.0 v ss here up in
    absurd (omega arith)

pub go_on_is : (k : Kind) (first : ℤ) (v : ℕ) (d : Deed) (ss : List WorthStep) (q : ℕ) (x : WorthStep) → Ascends ss → Chained k first ss
    → (x.version.0 == v) ≡ true → steps_up_to v ss ≡ suc q → slice_get ss q ≡ Some x
    → take q ss ++ revalued k (number_below first q ss) (step_gone_on d x ∷ drop (suc q) ss) ≡ revalued k first (edited v d ss)
go_on_is k first v d [] q x up chain is place at = absurd (omega (arith, place))
go_on_is k first v d (s ∷ ss) q x up chain is place at =
    go_on_by k first v d s x ss q up.0 chain.0 is (λ r. go_on_is k s.value v d ss r x up.1 chain.1 is) (nat_le s.version.0 v)
    (nat_lt s.version.0 v) (s.version.0 == v) refl refl refl place at

-- What a deed leaves, where its step goes on and where one begins.

there_by : (k : Kind) (first : ℤ) (v : ℕ) (d : Deed) (ss new : List WorthStep) (q : ℕ) (o : Option WorthStep) → Ascends ss → Chained k first ss
    → suc q ≡ steps_up_to v ss → slice_get ss q ≡ o → (elim o [ None ↦ false | Some s ↦ s.version.0 == v ]) ≡ true
    → ((s : WorthStep) → slice_get ss q ≡ Some s
    → new ≡ take q ss ++ revalued k (number_below first q ss) (step_gone_on d s ∷ drop (suc q) ss))
    → new ≡ revalued k first (edited v d ss)
there_by k first v d ss new q None up chain place at is made = absurd (cc is)
there_by k first v d ss new q (Some x) up chain place at is made = made x at ∙ go_on_is k first v d ss q x up chain is (sym place) at

pub noted_there : (k : Kind) (first : ℤ) (v : ℕ) (d : Deed) (ss new : List WorthStep) (place : ℕ) → Ascends ss → Chained k first ss
    → place ≡ steps_up_to v ss → stands_before place v ss ≡ true
    → ((s : WorthStep) → slice_get ss (place - 1) ≡ Some s
    → new ≡ take (place - 1) ss ++ revalued k (number_below first (place - 1) ss) (step_gone_on d s ∷ drop (suc (place - 1)) ss))
    → new ≡ revalued k first (edited v d ss)
noted_there k first v d ss new zero up chain is stands made = absurd (cc stands)
noted_there k first v d ss new (suc q) up chain is stands made =
    let front : suc q - 1 ≡ q = omega arith in
    there_by k first v d ss new q (slice_get ss q) up chain is refl stands
    (subst (λ (p : ℕ). (s : WorthStep) → slice_get ss p ≡ Some s
    → new ≡ take p ss ++ revalued k (number_below first p ss) (step_gone_on d s ∷ drop (suc p) ss)) front made)

pub noted_new : (k : Kind) (first : ℤ) (v : ℕ) (d : Deed) (ss new : List WorthStep) (x : WorthStep) (place : ℕ) → Ascends ss → Chained k first ss
    → place ≡ steps_up_to v ss → stands_before place v ss ≡ false → x ≡ step_begun v d
    → new ≡ take place ss ++ revalued k (number_below first place ss) (x ∷ drop place ss)
    → new ≡ revalued k first (edited v d ss)
noted_new k first v d ss new x place up chain is none begun made =
    made
    ∙ ap (λ (y : WorthStep). take place ss ++ revalued k (number_below first place ss) (y ∷ drop place ss)) begun
    ∙ ap (λ (p : ℕ). take p ss ++ revalued k (number_below first p ss) (step_begun v d ∷ drop p ss)) is
    ∙ begin_is k first v d ss up chain (subst (λ (p : ℕ). stands_before p v ss ≡ false) is none)

-- the steps of an equal list ascend
pub ascends_as : (ss ts : List WorthStep) → ss ≡ ts → Ascends ss → Ascends ts
ascends_as ss ts is up = subst Ascends is up
