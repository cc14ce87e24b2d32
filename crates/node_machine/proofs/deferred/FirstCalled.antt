-- Deferred messages by when they came: the last is deferred, and the first called one is taken.
use Rattle.std.proofs.Common.{◌≡◌, ◌<◌, ℕ, Bool, true, false, List, [], ◌∷◌, ◌++◌, refl, ap, subst, sym, ◌∙◌, arith, cond, Option, Some, None}
use Rattle.std.specs.Prelude.{IsSome}
use Rattle.std.specs.BTreeMap.{insert_entry}
use Rattle.std.specs.List.{AllByRecursion}
use Rattle.std.specs.List.Sorted.{IsStrictlySortedBy}
use Rattle.std.specs.Map.{keys_of, remove_entry, values_of}
use Rattle.std.specs.declared.cmp.Ordering.{Ordering}
use Rattle.std.specs.declared.cmp.Ordering.TheVariants.{Less, Greater}
use Rattle.std.specs.Ordering.{is_eq, match_ordering, nat_cmp}
use Rattle.std.proofs.lemmas.Bool.Decides.{nat_tests}
use Rattle.std.proofs.lemmas.Map.Keys.{sorted_head, sorted_tail}
use Rattle.tv_base.specs.declared.numbers.SubNo.{SubNo}
use Rattle.tv_base.specs.declared.numbers.TreeNo.{TreeNo}
use Rattle.letter_types.specs.declared.kept.KeptLetter.{KeptLetter}
use Rattle.letter_types.specs.Kept.{first_called, is_called_for, without_called}
use Rattle.node_machine.specs.inside.Arrivals.{Arrived, called_at, came, without_first}
use Rattle.node_machine.proofs.deferred.KeyOrder.{number_itself}

less-greater : (a b : ℕ) → b < a → nat_cmp a b ≡ Greater
less-greater a b less = grind (arith, nat_tests)

pub less-apart : (a b : ℕ) → nat_cmp b a ≡ Less → is_eq (nat_cmp a b) ≡ false
less-apart a b less = grind (arith, nat_tests)

pub some_or : (b : Bool) (x : KeptLetter) (o : Option KeptLetter) → IsSome o → IsSome (cond b (Some x) o)
some_or true x o some = refl
some_or false x o some = some

-- each of them came before
abbrev pub CameBefore : ℕ → Arrived → Type 0
CameBefore n es = (a : ℕ) → IsSome (came a es) → a < n

tail-before : (n : ℕ) (e : ℕ × KeptLetter) (es : Arrived) → CameBefore n (e ∷ es) → CameBefore n es
tail-before n e es before a some = before a (some_or (is_eq (nat_cmp a e.0)) e.1 (came a es) some)

head-some : (a : ℕ) (x : KeptLetter) (o : Option KeptLetter) → IsSome (cond (is_eq (nat_cmp a a)) (Some x) o)
head-some a x o = rw (number_itself a) refl

head-before : (n : ℕ) (e : ℕ × KeptLetter) (es : Arrived) → CameBefore n (e ∷ es) → e.0 < n
head-before n e es before = before e.0 (head-some e.0 e.1 (came e.0 es))

-- what comes next is put last
pub put_last : (n : ℕ) (x : KeptLetter) (es : Arrived) → CameBefore n es
    → insert_entry nat_cmp es n x ≡ es ++ (n, x) ∷ []
put_last n x [] before = refl
put_last n x (e ∷ es) before =
    let behind : nat_cmp n e.0 ≡ Greater = less-greater n e.0 (head-before n e es before) in
    ap (λ (r : Ordering). match_ordering r ((n, x) ∷ e ∷ es) ((e.0, x) ∷ es) (e ∷ insert_entry nat_cmp es n x)) behind
    ∙ ap (λ (es : Arrived). e ∷ es) (put_last n x es (tail-before n e es before))

-- the first called message of a subtransaction came then
pub record IsFirstCalled (t : TreeNo) (k : SubNo) (a : ℕ) (es : Arrived) : Type 0 where
  pub letter : KeptLetter
  pub there : came a es ≡ Some letter
  pub calls : is_called_for t k letter ≡ true
  pub first : first_called t k (values_of es) ≡ Some letter.letter
  pub others : remove_entry (λ b. is_eq (nat_cmp a b)) es ≡ without_first t k es

abbrev never : Option ℕ
never = None

never-some : (a : ℕ) → never ≡ Some a → ⊥
never-some a is = cc

some-never : (a : ℕ) → Some a ≡ never → ⊥
some-never a is = cc

-- each of them is behind
abbrev pub AllAfter : ℕ → List ℕ → Type 0
AllAfter n bs = AllByRecursion (λ b. nat_cmp n b ≡ Less) bs

after-by : (t : TreeNo) (k : SubNo) (n a : ℕ) (e : ℕ × KeptLetter) (es : Arrived) (b : Bool)
    → cond b (Some e.0) (called_at t k es) ≡ Some a → AllAfter n (keys_of (e ∷ es))
    → (called_at t k es ≡ Some a → nat_cmp n a ≡ Less) → nat_cmp n a ≡ Less
after-by t k n a e es true is after rest = let same : e.0 ≡ a = cc in subst (λ (a : ℕ). nat_cmp n a ≡ Less) same after.0
after-by t k n a e es false is after rest = rest is

called-after : (t : TreeNo) (k : SubNo) (n a : ℕ) (es : Arrived) → called_at t k es ≡ Some a → AllAfter n (keys_of es)
    → nat_cmp n a ≡ Less
called-after t k n a [] is after = absurd (never-some a is)
called-after t k n a (e ∷ es) is after =
    after-by t k n a e es (is_called_for t k e.1) is after (λ is. called-after t k n a es is after.1)

first-by : (t : TreeNo) (k : SubNo) (a : ℕ) (e : ℕ × KeptLetter) (es : Arrived) (b : Bool) → is_called_for t k e.1 ≡ b
    → cond b (Some e.0) (called_at t k es) ≡ Some a → AllAfter e.0 (keys_of es)
    → (called_at t k es ≡ Some a → IsFirstCalled t k a es) → IsFirstCalled t k a (e ∷ es)
first-by t k a e es true calls is after rest =
    let same : e.0 ≡ a = cc in
    let here : is_eq (nat_cmp a e.0) ≡ true = rw (same, number_itself a) refl in
    record {
      letter = e.1;
      there = ap (λ (b : Bool). cond b (Some e.1) (came a es)) here;
      calls = calls;
      first = ap (λ (b : Bool). cond b (Some e.1.letter) (first_called t k (values_of es))) calls;
      others =
          ap (λ (b : Bool). cond b es (e ∷ remove_entry (λ b. is_eq (nat_cmp a b)) es)) here
          ∙ ap (λ (b : Bool). cond b es (e ∷ without_first t k es)) (sym calls);
    }
first-by t k a e es false calls is after rest =
    let apart : is_eq (nat_cmp a e.0) ≡ false = less-apart a e.0 (called-after t k e.0 a es is after) in
    let later = rest is in
    record {
      letter = later.letter;
      there = ap (λ (b : Bool). cond b (Some e.1) (came a es)) apart ∙ later.there;
      calls = later.calls;
      first = ap (λ (b : Bool). cond b (Some e.1.letter) (first_called t k (values_of es))) calls ∙ later.first;
      others =
          ap (λ (b : Bool). cond b es (e ∷ remove_entry (λ b. is_eq (nat_cmp a b)) es)) apart
          ∙ ap (λ (es : Arrived). e ∷ es) later.others
          ∙ ap (λ (b : Bool). cond b es (e ∷ without_first t k es)) (sym calls);
    }

pub first_is : (t : TreeNo) (k : SubNo) (a : ℕ) (es : Arrived) → IsStrictlySortedBy nat_cmp (keys_of es)
    → called_at t k es ≡ Some a → IsFirstCalled t k a es
first_is t k a [] up is = absurd (never-some a is)
first_is t k a (e ∷ es) up is =
    first-by t k a e es (is_called_for t k e.1) refl is (sorted_head nat_cmp e.0 (keys_of es) up)
    (λ is. first_is t k a es (sorted_tail nat_cmp e.0 (keys_of es) up) is)

-- or there is none
none-by : (t : TreeNo) (k : SubNo) (e : ℕ × KeptLetter) (es : Arrived) (b : Bool) → is_called_for t k e.1 ≡ b
    → cond b (Some e.0) (called_at t k es) ≡ None
    → (called_at t k es ≡ None → first_called t k (values_of es) ≡ None)
    → first_called t k (values_of (e ∷ es)) ≡ None
none-by t k e es true calls is rest = absurd (some-never e.0 is)
none-by t k e es false calls is rest =
    ap (λ (b : Bool). cond b (Some e.1.letter) (first_called t k (values_of es))) calls ∙ rest is

pub none_called : (t : TreeNo) (k : SubNo) (es : Arrived) → called_at t k es ≡ None
    → first_called t k (values_of es) ≡ None
none_called t k [] is = refl
none_called t k (e ∷ es) is = none-by t k e es (is_called_for t k e.1) refl is (none_called t k es)

none-others-by : (t : TreeNo) (k : SubNo) (e : ℕ × KeptLetter) (es : Arrived) (b : Bool) → is_called_for t k e.1 ≡ b
    → cond b (Some e.0) (called_at t k es) ≡ None → (called_at t k es ≡ None → without_first t k es ≡ es)
    → without_first t k (e ∷ es) ≡ e ∷ es
none-others-by t k e es true calls is rest = absurd (some-never e.0 is)
none-others-by t k e es false calls is rest =
    ap (λ (b : Bool). cond b es (e ∷ without_first t k es)) calls ∙ ap (λ (es : Arrived). e ∷ es) (rest is)

pub none_taken : (t : TreeNo) (k : SubNo) (es : Arrived) → called_at t k es ≡ None → without_first t k es ≡ es
none_taken t k [] is = refl
none_taken t k (e ∷ es) is = none-others-by t k e es (is_called_for t k e.1) refl is (none_taken t k es)

-- the messages without it
without-by : (t : TreeNo) (k : SubNo) (e : ℕ × KeptLetter) (es : Arrived) (b : Bool)
    → values_of (without_first t k es) ≡ without_called t k (values_of es)
    → values_of (cond b es (e ∷ without_first t k es))
    ≡ cond b (values_of es) (e.1 ∷ without_called t k (values_of es))
without-by t k e es true rest = refl
without-by t k e es false rest = ap (λ (xs : List KeptLetter). e.1 ∷ xs) rest

pub letters_without : (t : TreeNo) (k : SubNo) (es : Arrived)
    → values_of (without_first t k es) ≡ without_called t k (values_of es)
letters_without t k [] = refl
letters_without t k (e ∷ es) = without-by t k e es (is_called_for t k e.1) (letters_without t k es)

some_not : (x : KeptLetter) (o : Option KeptLetter) → o ≡ Some x → o ≡ None → ⊥
some_not x o some none = cc

-- what came when the first called one did is there
pub not_gone : (t : TreeNo) (k : SubNo) (a : ℕ) (es : Arrived) → IsStrictlySortedBy nat_cmp (keys_of es)
    → called_at t k es ≡ Some a → came a es ≡ None → ⊥
not_gone t k a es up is gone = let first = first_is t k a es up is in some_not first.letter (came a es) first.there gone
