-- The steps of a sum or a top are what its deeds are worth, whatever versions they come in. The deeds of one version
-- are one action on any value below.
use Rattle.std.proofs.Common.{◌≡◌, ℕ, zero, suc, ◌<◌, ◌≤◌, Bool, true, false, IsTrue, List, [], ◌∷◌, ◌++◌, refl, ℤ, max, map, ap, sym, ◌∙◌, arith}
use Rattle.std.specs.Prelude.{if◌then◌else◌, ◌==◌, ◌||◌, ◌+ℤ◌, ◌-ℤ◌, cond, filter, fold, nat_lt, nat_le, pos}
use Rattle.std.specs.Int.{int_max}
use Rattle.std.proofs.lemmas.Bool.Decides.{nat_tests}
use Rattle.std.proofs.lemmas.Int.{ints, clamps}
use Rattle.std.proofs.lemmas.List.Elements.{filter-append}
use Rattle.std.proofs.lemmas.List.Sums.{fold-append}
use Rattle.commute_ops.specs.declared.kinds.Kind.{Kind}
use Rattle.commute_ops.specs.declared.kinds.Kind.TheVariants.{Sum, Top, Bag}
use Rattle.commute_ops.specs.declared.kinds.Op.TheVariants as ops
use Rattle.commute_ops.specs.declared.value.Value.{Value}
use Rattle.commute_ops.specs.Ops.{value_start}
use Rattle.script_parts.specs.Deeds.{after_deed}
use Rattle.script_parts.specs.declared.parts.Deed.{Deed}
use Rattle.script_parts.specs.declared.parts.Deed.TheVariants.{Apply, Get, Set, Draw}
use Rattle.worth_steps.specs.declared.steps.WorthStep.{WorthStep}
use Rattle.worth_steps.specs.Worth.{Noted, after_noted, alters, deed_suits, greatest, in_order, last_altered, noted_in, worth_of}
use Rattle.worth_steps.specs.Steps.{AllAbove, AreSteps, Ascends, Chained, act_on, acting, newest_step, seen_to}
use Rattle.worth_steps.specs.inside.Editing.{at_place, changed_number, edited, first_own, is_set, revalued}

-- Arithmetic: what a further deed makes.

add_more : (n own a : ℤ) → n +ℤ (own +ℤ a) ≡ n +ℤ own +ℤ a
add_more n own a = omega (arith, ints)

draw_more : (n own a : ℤ) → n +ℤ (own -ℤ a) ≡ n +ℤ own -ℤ a
draw_more n own a = omega (arith, ints)

top_more : (n own a : ℤ) → int_max n (int_max own a) ≡ int_max (int_max n own) a
top_more n own a = omega (arith, ints, clamps)

draw_first : (n a : ℤ) → n +ℤ (pos 0 -ℤ a) ≡ n -ℤ a
draw_first n a = omega (arith, ints)

-- a step with one deed more makes what it made, and then the deed
pub acts_more : (k : Kind) (cut : Bool) (own n : ℤ) (d : Deed) → (k ≡ Bag → ⊥) → IsTrue (deed_suits k d)
    → act_on k (cut || is_set d) (changed_number own d) n ≡ changed_number (act_on k cut own n) d
acts_more Bag cut own n d apart f = absurd (apart refl)
acts_more Sum cut own n (Apply (ops.Top a)) apart f = absurd (cc f)
acts_more Sum cut own n (Apply (ops.Put a)) apart f = absurd (cc f)
acts_more Top cut own n (Apply (ops.Add a)) apart f = absurd (cc f)
acts_more Top cut own n (Apply (ops.Put a)) apart f = absurd (cc f)
acts_more Top cut own n (Draw a) apart f = absurd (cc f)
acts_more Sum true own n (Apply (ops.Add a)) apart f = refl
acts_more Sum true own n (Draw a) apart f = refl
acts_more Sum true own n (Set a) apart f = refl
acts_more Sum true own n Get apart f = refl
acts_more Top true own n (Apply (ops.Top a)) apart f = refl
acts_more Top true own n (Set a) apart f = refl
acts_more Top true own n Get apart f = refl
acts_more Sum false own n (Apply (ops.Add a)) apart f = add_more n own a
acts_more Sum false own n (Draw a) apart f = draw_more n own a
acts_more Sum false own n (Set a) apart f = refl
acts_more Sum false own n Get apart f = refl
acts_more Top false own n (Apply (ops.Top a)) apart f = top_more n own a
acts_more Top false own n (Set a) apart f = refl
acts_more Top false own n Get apart f = refl

-- a step of one deed makes what the deed makes
pub acts_first : (k : Kind) (n : ℤ) (d : Deed) → (k ≡ Bag → ⊥) → IsTrue (deed_suits k d) → IsTrue (alters d)
    → act_on k (is_set d) (first_own d) n ≡ changed_number n d
acts_first Bag n d apart f new = absurd (apart refl)
acts_first Sum n (Apply (ops.Top a)) apart f new = absurd (cc f)
acts_first Sum n (Apply (ops.Put a)) apart f new = absurd (cc f)
acts_first Top n (Apply (ops.Add a)) apart f new = absurd (cc f)
acts_first Top n (Apply (ops.Put a)) apart f new = absurd (cc f)
acts_first Top n (Draw a) apart f new = absurd (cc f)
acts_first Sum n Get apart f new = absurd (cc new)
acts_first Top n Get apart f new = absurd (cc new)
acts_first Sum n (Apply (ops.Add a)) apart f new = refl
acts_first Sum n (Draw a) apart f new = draw_first n a
acts_first Sum n (Set a) apart f new = refl
acts_first Top n (Apply (ops.Top a)) apart f new = refl
acts_first Top n (Set a) apart f new = refl

-- the value of the changed number is the value after the deed
pub after_is : (k : Kind) (n : ℤ) (d : Deed) → (k ≡ Bag → ⊥) → IsTrue (deed_suits k d)
    → after_deed d (value_start k n) ≡ value_start k (changed_number n d)
after_is Bag n d apart f = absurd (apart refl)
after_is Sum n (Apply (ops.Top a)) apart f = absurd (cc f)
after_is Sum n (Apply (ops.Put a)) apart f = absurd (cc f)
after_is Top n (Apply (ops.Add a)) apart f = absurd (cc f)
after_is Top n (Apply (ops.Put a)) apart f = absurd (cc f)
after_is Top n (Draw a) apart f = absurd (cc f)
after_is Sum n Get apart f = refl
after_is Top n Get apart f = refl
after_is Sum n (Apply (ops.Add a)) apart f = refl
after_is Sum n (Draw a) apart f = refl
after_is Sum n (Set a) apart f = refl
after_is Top n (Apply (ops.Top a)) apart f = refl
after_is Top n (Set a) apart f = refl

-- What is seen.

-- the number of the last step of version below w
abbrev seen_before : ℤ → List WorthStep → ℕ → ℤ
seen_before below [] w = below
seen_before below (s ∷ ss) w = if nat_lt s.version.0 w then seen_before s.value ss w else below

-- no step is of a version that all are above
acting_none : (k : Kind) (u w : ℕ) (ss : List WorthStep) (n : ℤ) → w ≤ u → AllAbove u ss → acting k ss w n ≡ n
acting_none k u w [] n le up = refl
acting_none k u w (s ∷ ss) n le up =
    let other : (s.version.0 == w) ≡ false = grind (arith, nat_tests, up.0) in
    rw other (acting_none k u w ss n le up.1)

-- nor is it seen
seen_none : (u w : ℕ) (ss : List WorthStep) (n : ℤ) → w ≤ u → AllAbove u ss → seen_to n ss w ≡ n
seen_none u w [] n le up = refl
seen_none u w (s ∷ ss) n le up =
    let over : nat_le s.version.0 w ≡ false = grind (arith, nat_tests, up.0) in
    rw over refl

seen_by : (k : Kind) (below : ℤ) (s : WorthStep) (ss : List WorthStep) (w : ℕ) → AllAbove s.version.0 ss
    → s.value ≡ act_on k s.cut s.own below
    → seen_to s.value ss w ≡ acting k ss w (seen_before s.value ss w)
    → (lt eq : Bool) → nat_lt s.version.0 w ≡ lt → (s.version.0 == w) ≡ eq
    → seen_to below (s ∷ ss) w ≡ acting k (s ∷ ss) w (seen_before below (s ∷ ss) w)
seen_by k below s ss w up value rest true eq is same =
    let le : nat_le s.version.0 w ≡ true = grind (arith, nat_tests) in
    let other : (s.version.0 == w) ≡ false = grind (arith, nat_tests) in
    rw (le, is, other) rest
seen_by k below s ss w up value rest false true is same =
    let le : nat_le s.version.0 w ≡ true = grind (arith, nat_tests) in
    let here : w ≤ s.version.0 = grind (arith, nat_tests) in
    rw (le, is, same) (seen_none s.version.0 w ss s.value here up ∙ value)
seen_by k below s ss w up value rest false false is same =
    let over : nat_le s.version.0 w ≡ false = grind (arith, nat_tests) in
    let here : w ≤ s.version.0 = grind (arith, nat_tests) in
    rw (over, is, same) (sym (acting_none k s.version.0 w ss below here up))

-- what is seen at a version is what its step makes of what is seen before it
seen_is : (k : Kind) (below : ℤ) (ss : List WorthStep) (w : ℕ) → Ascends ss → Chained k below ss
    → seen_to below ss w ≡ acting k ss w (seen_before below ss w)
seen_is k below [] w up chain = refl
seen_is k below (s ∷ ss) w up chain =
    seen_by k below s ss w up.0 chain.0 (seen_is k s.value ss w up.1 chain.1) (nat_lt s.version.0 w) (s.version.0 == w) refl refl

before_zero : (below : ℤ) (ss : List WorthStep) → seen_before below ss zero ≡ below
before_zero below [] = refl
before_zero below (s ∷ ss) = let not : nat_lt s.version.0 zero ≡ false = grind (arith, nat_tests) in rw not refl

same_tests : (a v : ℕ) → nat_lt a (suc v) ≡ nat_le a v
same_tests a v = grind (arith, nat_tests)

before_next : (below : ℤ) (ss : List WorthStep) (v : ℕ) → seen_before below ss (suc v) ≡ seen_to below ss v
before_next below [] v = refl
before_next below (s ∷ ss) v =
    ap (λ (b : Bool). if b then seen_before s.value ss (suc v) else below) (same_tests s.version.0 v)
    ∙ ap (λ (n : ℤ). if nat_le s.version.0 v then n else below) (before_next s.value ss v)

-- what the steps say is what the deeds are worth
pub worth_is : (k : Kind) (first : ℤ) (ns : List Noted) (ss : List WorthStep) (v : ℕ) → Ascends ss → AreSteps k first ns ss
    → value_start k (seen_to first ss v) ≡ worth_of (value_start k first) ns v
worth_is k first ns ss zero up are =
    ap (value_start k) (seen_is k first ss zero up are.chained ∙ ap (acting k ss zero) (before_zero first ss))
    ∙ sym (are.acts zero first)
worth_is k first ns ss (suc v) up are =
    ap (value_start k) (seen_is k first ss (suc v) up are.chained ∙ ap (acting k ss (suc v)) (before_next first ss v))
    ∙ sym (are.acts (suc v) (seen_to first ss v))
    ∙ ap (λ (w : Value). fold after_noted w (noted_in (suc v) ns)) (worth_is k first ns ss v up are)
    ∙ sym (fold-append after_noted (value_start k first) (in_order ns v) (noted_in (suc v) ns))

-- One deed more.

-- values are no matter of what steps make, nor of their order
acting_valued : (k : Kind) (below : ℤ) (ss : List WorthStep) (u : ℕ) (n : ℤ) → acting k (revalued k below ss) u n ≡ acting k ss u n
acting_valued k below [] u n = refl
acting_valued k below (s ∷ ss) u n =
    ap (λ (m : ℤ). if s.version.0 == u then act_on k s.cut s.own n else m) (acting_valued k (act_on k s.cut s.own below) ss u n)

above_valued : (k : Kind) (below : ℤ) (ss : List WorthStep) (u : ℕ) → AllAbove u ss → AllAbove u (revalued k below ss)
above_valued k below [] u up = tt
above_valued k below (s ∷ ss) u up = (up.0, above_valued k (act_on k s.cut s.own below) ss u up.1)

ascends_valued : (k : Kind) (below : ℤ) (ss : List WorthStep) → Ascends ss → Ascends (revalued k below ss)
ascends_valued k below [] up = tt
ascends_valued k below (s ∷ ss) up =
    let next : ℤ = act_on k s.cut s.own below in
    (above_valued k next ss s.version.0 up.0, ascends_valued k next ss up.1)

chained_valued : (k : Kind) (below : ℤ) (ss : List WorthStep) → Chained k below (revalued k below ss)
chained_valued k below [] = tt
chained_valued k below (s ∷ ss) = (refl, chained_valued k (act_on k s.cut s.own below) ss)

newest_valued : (k : Kind) (below : ℤ) (ss : List WorthStep) → newest_step (revalued k below ss) ≡ newest_step ss
newest_valued k below [] = refl
newest_valued k below (s ∷ ss) = ap (max s.version.0) (newest_valued k (act_on k s.cut s.own below) ss)

-- the versions with one more
above_by : (u v : ℕ) (d : Deed) (s : WorthStep) (ss : List WorthStep) → u < v → AllAbove u (s ∷ ss) → AllAbove u (edited v d ss)
    → (b c : Bool) → AllAbove u (if b then s ∷ edited v d ss else at_place v d s ss c)
above_by u v d s ss lt up rest true c = (up.0, rest)
above_by u v d s ss lt up rest false true = up
above_by u v d s ss lt up rest false false = (lt, up)

above_edited : (u v : ℕ) (d : Deed) (ss : List WorthStep) → u < v → AllAbove u ss → AllAbove u (edited v d ss)
above_edited u v d [] lt up = (lt, tt)
above_edited u v d (s ∷ ss) lt up =
    above_by u v d s ss lt up (above_edited u v d ss lt up.1) (nat_lt s.version.0 v) (s.version.0 == v)

above_less : (u w : ℕ) (ss : List WorthStep) → u ≤ w → AllAbove w ss → AllAbove u ss
above_less u w [] le up = tt
above_less u w (s ∷ ss) le up = (omega (arith, up.0), above_less u w ss le up.1)

ascends_by : (v : ℕ) (d : Deed) (s : WorthStep) (ss : List WorthStep) → Ascends (s ∷ ss) → Ascends (edited v d ss)
    → (b c : Bool) → nat_lt s.version.0 v ≡ b → (s.version.0 == v) ≡ c
    → Ascends (if b then s ∷ edited v d ss else at_place v d s ss c)
ascends_by v d s ss up rest true c is same =
    (above_edited s.version.0 v d ss (let lt : s.version.0 < v = grind (arith, nat_tests) in lt) up.0, rest)
ascends_by v d s ss up rest false true is same = up
ascends_by v d s ss up rest false false is same =
    let lt : v < s.version.0 = grind (arith, nat_tests) in
    ((lt, above_less v s.version.0 ss (omega (arith, lt)) up.0), up)

ascends_edited : (v : ℕ) (d : Deed) (ss : List WorthStep) → Ascends ss → Ascends (edited v d ss)
ascends_edited v d [] up = (tt, tt)
ascends_edited v d (s ∷ ss) up =
    ascends_by v d s ss up (ascends_edited v d ss up.1) (nat_lt s.version.0 v) (s.version.0 == v) refl refl

newest_by : (v : ℕ) (d : Deed) (s : WorthStep) (ss : List WorthStep) → newest_step (edited v d ss) ≡ max v (newest_step ss)
    → (b c : Bool) → (s.version.0 == v) ≡ c
    → newest_step (if b then s ∷ edited v d ss else at_place v d s ss c) ≡ max v (max s.version.0 (newest_step ss))
newest_by v d s ss rest true c same = omega (arith, rest)
newest_by v d s ss rest false true same =
    let is : s.version.0 ≡ v = grind (arith, nat_tests) in omega (arith, is)
newest_by v d s ss rest false false same = refl

newest_edited : (v : ℕ) (d : Deed) (ss : List WorthStep) → newest_step (edited v d ss) ≡ max v (newest_step ss)
newest_edited v d [] = refl
newest_edited v d (s ∷ ss) = newest_by v d s ss (newest_edited v d ss) (nat_lt s.version.0 v) (s.version.0 == v) refl

-- what steps make with one deed more
acting_by : (k : Kind) (v : ℕ) (d : Deed) (s : WorthStep) (ss : List WorthStep) (u : ℕ) (n : ℤ) → (k ≡ Bag → ⊥)
    → IsTrue (deed_suits k d) → IsTrue (alters d) → Ascends (s ∷ ss)
    → acting k (edited v d ss) u n ≡ (if v == u then changed_number (acting k ss u n) d else acting k ss u n)
    → (b c e g : Bool) → nat_lt s.version.0 v ≡ b → (s.version.0 == v) ≡ c → (v == u) ≡ e → (s.version.0 == u) ≡ g
    → acting k (if b then s ∷ edited v d ss else at_place v d s ss c) u n
    ≡ (if e then changed_number (if g then act_on k s.cut s.own n else acting k ss u n) d
    else if g then act_on k s.cut s.own n else acting k ss u n)
acting_by k v d s ss u n apart f new up rest true c true true is same here now = absurd (let not : s.version.0 < s.version.0 = grind (arith, nat_tests) in omega (arith, not))
acting_by k v d s ss u n apart f new up rest true c true false is same here now = rw now (rest ∙ rw here refl)
acting_by k v d s ss u n apart f new up rest true c false true is same here now = rw now refl
acting_by k v d s ss u n apart f new up rest true c false false is same here now = rw now (rest ∙ rw here refl)
acting_by k v d s ss u n apart f new up rest false true true true is same here now = rw now (acts_more k s.cut s.own n d apart f)
acting_by k v d s ss u n apart f new up rest false true true false is same here now = absurd (let not : (s.version.0 == u) ≡ true = grind (arith, nat_tests) in cc (not, now))
acting_by k v d s ss u n apart f new up rest false true false true is same here now = absurd (let not : (v == u) ≡ true = grind (arith, nat_tests) in cc (not, here))
acting_by k v d s ss u n apart f new up rest false true false false is same here now = rw now refl
acting_by k v d s ss u n apart f new up rest false false true true is same here now = absurd (let not : (s.version.0 == v) ≡ true = grind (arith, nat_tests) in cc (not, same))
acting_by k v d s ss u n apart f new up rest false false true false is same here now =
    let le : u ≤ s.version.0 = grind (arith, nat_tests) in
    rw here (acts_first k n d apart f new ∙ ap (λ (m : ℤ). changed_number m d) (sym (acting_none k s.version.0 u ss n le up.0)))
acting_by k v d s ss u n apart f new up rest false false false true is same here now = rw (here, now) refl
acting_by k v d s ss u n apart f new up rest false false false false is same here now = rw (here, now) refl

begun_acts : (k : Kind) (n : ℤ) (d : Deed) → (k ≡ Bag → ⊥) → IsTrue (deed_suits k d) → IsTrue (alters d) → (b : Bool)
    → (if b then act_on k (is_set d) (first_own d) n else n) ≡ (if b then changed_number n d else n)
begun_acts k n d apart f new true = acts_first k n d apart f new
begun_acts k n d apart f new false = refl

acting_edited : (k : Kind) (v : ℕ) (d : Deed) (ss : List WorthStep) (u : ℕ) (n : ℤ) → (k ≡ Bag → ⊥) → IsTrue (deed_suits k d)
    → IsTrue (alters d) → Ascends ss
    → acting k (edited v d ss) u n ≡ (if v == u then changed_number (acting k ss u n) d else acting k ss u n)
acting_edited k v d [] u n apart f new up = begun_acts k n d apart f new (v == u)
acting_edited k v d (s ∷ ss) u n apart f new up =
    acting_by k v d s ss u n apart f new up (acting_edited k v d ss u n apart f new up.1) (nat_lt s.version.0 v) (s.version.0 == v) (v == u)
    (s.version.0 == u) refl refl refl refl

-- the deeds of a version with one more
last_by : (x : Noted) (w : Value) (b : Bool) → fold after_noted w (cond b (x ∷ []) []) ≡ (if b then after_deed x.deed w else w)
last_by x w true = refl
last_by x w false = refl

pub deeds_by : (u : ℕ) (ns : List Noted) (x : Noted) (w : Value)
    → fold after_noted w (noted_in u (ns ++ x ∷ []))
    ≡ (if x.version == u then after_deed x.deed (fold after_noted w (noted_in u ns)) else fold after_noted w (noted_in u ns))
deeds_by u ns x w =
    ap (fold after_noted w) (filter-append (λ (y : Noted). y.version == u) ns (x ∷ []))
    ∙ fold-append after_noted w (noted_in u ns) (noted_in u (x ∷ []))
    ∙ last_by x (fold after_noted w (noted_in u ns)) (x.version == u)

choose : (k : Kind) (b : Bool) (w : Value) (n : ℤ) (d : Deed) → (k ≡ Bag → ⊥) → IsTrue (deed_suits k d) → w ≡ value_start k n
    → (if b then after_deed d w else w) ≡ value_start k (if b then changed_number n d else n)
choose k true w n d apart f is = ap (after_deed d) is ∙ after_is k n d apart f
choose k false w n d apart f is = is

-- the greatest version with one deed more
abbrev version_of : Noted → ℕ
version_of n = n.version

altering : (ns : List Noted) (x : Noted) (b : Bool)
    → greatest (map version_of (ns ++ cond b (x ∷ []) [])) ≡ (if b then max x.version (greatest (map version_of ns)) else greatest (map version_of ns))
altering [] x true = refl
altering [] x false = refl
altering (n ∷ ns) x true = omega (arith, altering ns x true)
altering (n ∷ ns) x false = ap (max n.version) (altering ns x false)

pub last_more : (ns : List Noted) (x : Noted)
    → last_altered (ns ++ x ∷ []) ≡ (if alters x.deed then max x.version (last_altered ns) else last_altered ns)
last_more ns x =
    ap (λ (ms : List Noted). greatest (map version_of ms)) (filter-append (λ (y : Noted). alters y.deed) ns (x ∷ []))
    ∙ altering (filter (λ (y : Noted). alters y.deed) ns) x (alters x.deed)

pub steps_more : (k : Kind) (first : ℤ) (ns : List Noted) (ss : List WorthStep) (x : Noted) → (k ≡ Bag → ⊥)
    → IsTrue (deed_suits k x.deed) → IsTrue (alters x.deed) → Ascends ss → AreSteps k first ns ss
    → AreSteps k first (ns ++ x ∷ []) (revalued k first (edited x.version x.deed ss))
steps_more k first ns ss x apart f new up are = record {
  acts = λ u n.
      deeds_by u ns x (value_start k n)
      ∙ choose k (x.version == u) (fold after_noted (value_start k n) (noted_in u ns)) (acting k ss u n) x.deed apart f (are.acts u n)
      ∙ ap (value_start k) (sym (acting_edited k x.version x.deed ss u n apart f new up)
      ∙ sym (acting_valued k first (edited x.version x.deed ss) u n));
  chained = chained_valued k first (edited x.version x.deed ss);
  newest =
      last_more ns x
      ∙ ap (λ (b : Bool). if b then max x.version (last_altered ns) else last_altered ns) new
      ∙ ap (max x.version) are.newest
      ∙ sym (newest_edited x.version x.deed ss)
      ∙ sym (newest_valued k first (edited x.version x.deed ss));
}

pub steps_ascend : (k : Kind) (first : ℤ) (v : ℕ) (d : Deed) (ss : List WorthStep) → Ascends ss → Ascends (revalued k first (edited v d ss))
steps_ascend k first v d ss up = ascends_valued k first (edited v d ss) (ascends_edited v d ss up)

pub steps_none : (k : Kind) (first : ℤ) → AreSteps k first [] []
steps_none k first = record { acts = λ u n. refl; chained = tt; newest = refl }
