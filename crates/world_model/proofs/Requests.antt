-- Requests one after the other.
use Rattle.std.proofs.Common.{◌≡◌, ℕ, ◌+◌, ◌<◌, ◌≤◌, ◌==◌, ◌&&◌, Bool, true, false, List, ◌∷◌, ◌++◌, length, take, refl, sym, ap, ◌∙◌, subst, arith, []}
use Rattle.std.specs.Prelude.{if◌then◌else◌, slice_index_or}
use Rattle.std.proofs.lemmas.Grind.{common_steps}
use Rattle.letter_types.specs.declared.entries.Outgoing.{Outgoing}
use Rattle.pair_counters.specs.Numbers.{Numbers, asked_all, asked_one, done_one, AllBelow}
use Rattle.pair_counters.specs.Counts.{Counts}
use Rattle.world_model.specs.Children.{addressees}
use Rattle.world_model.specs.Done.{counted_root, counted_sub}

-- one request more at the end
pub asked_all-append : (v q : ℕ) (qs : List ℕ) (n : Numbers)
    → asked_all v (qs ++ q ∷ []) n ≡ asked_one v q (asked_all v qs n)
asked_all-append v q [] n = refl
asked_all-append v q (r ∷ qs) n = asked_all-append v q qs (asked_one v r n)

addressees-append : (os : List Outgoing) (o : Outgoing) → addressees (os ++ o ∷ []) ≡ addressees os ++ o.to.0 ∷ []
addressees-append [] o = refl
addressees-append (x ∷ os) o = ap (λ (qs : List ℕ). x.to.0 ∷ qs) (addressees-append os o)

-- the requests to the letters so far, and to one more
pub asked_more : (v : ℕ) (os : List Outgoing) (o : Outgoing) (n : Numbers)
    → asked_all v (addressees (os ++ o ∷ [])) n ≡ asked_one v o.to.0 (asked_all v (addressees os) n)
asked_more v os o n = ap (λ (qs : List ℕ). asked_all v qs n) (addressees-append os o)
    ∙ asked_all-append v o.to.0 (addressees os) n

pub one_at : (f : ℕ → ℕ → ℕ) (v q w r : ℕ) (b : Bool) → ((w == v) && (r == q)) ≡ b
    → (if b then f w r + 1 else f w r) ≤ f w r + 1
one_at f v q w r true is = omega arith
one_at f v q w r false is = omega arith

-- a number grows by no more than there are requests
pub asked_all_most : (v : ℕ) (qs : List ℕ) (n : Numbers) (w r : ℕ) → (asked_all v qs n).asked w r ≤ n.asked w r + length qs
asked_all_most v [] n w r = omega arith
asked_all_most v (q ∷ qs) n w r =
    omega (arith, asked_all_most v qs (asked_one v q n) w r, one_at n.asked v q w r ((w == v) && (r == q)) refl)

addressees_few : (os : List Outgoing) → length (addressees os) ≤ length os
addressees_few [] = omega arith
addressees_few (o ∷ os) = omega (arith, addressees_few os)

pub asked_most : (v : ℕ) (os : List Outgoing) (n : Numbers) (w q : ℕ)
    → (asked_all v (addressees os) n).asked w q ≤ n.asked w q + length os
asked_most v os n w q = omega (arith, asked_all_most v (addressees os) n w q, addressees_few os)

-- completions stay
pub done_kept : (v : ℕ) (qs : List ℕ) (n : Numbers) → (asked_all v qs n).done ≡ n.done
done_kept v [] n = refl
done_kept v (q ∷ qs) n = done_kept v qs (asked_one v q n)

-- what was counted before, and these requests
abbrev pub with_requests : ℕ → List Outgoing → Counts → Counts
with_requests v os c = record c { numbers = asked_all v (addressees os) c.numbers }

pub same_nodes : (v q : ℕ) (os : List Outgoing) (first now : Counts) → now ≡ with_requests v os first
    → q < first.nodes → q < now.nodes
same_nodes v q os first now is lt = subst (λ (k : Counts). q < k.nodes) (sym is) lt

pub below_limit : (v q m n : ℕ) (os : List Outgoing) (first now : Counts) → now ≡ with_requests v os first
    → first.numbers.asked v q + n ≤ m → length os < n
    → now.numbers.asked v q < m
below_limit v q m n os first now is most lt =
    subst (λ (k : Counts). k.numbers.asked v q < m) (sym is) (omega (arith, asked_most v os first.numbers v q))

-- one request more
pub requests_more : (v : ℕ) (os more : List Outgoing) (o : Outgoing) (first now new : Counts)
    → now ≡ with_requests v os first
    → new ≡ record now { numbers = asked_one v o.to.0 now.numbers } → more ≡ os ++ o ∷ []
    → new ≡ with_requests v more first
requests_more v os more o first now new is eq next =
    eq ∙ ap (λ (k : Counts). record k { numbers = asked_one v o.to.0 k.numbers }) is
    ∙ ap (λ (n : Numbers). record first { numbers = n }) (sym (asked_more v os o first.numbers))
    ∙ ap (λ (xs : List Outgoing). with_requests v xs first) (sym next)

-- the prefix of a list with one element more
pub take_next : (i : ℕ) (x : Outgoing) (xs : List Outgoing) → i < length xs → x ≡ slice_index_or xs i x
    → take (i + 1) xs ≡ take i xs ++ x ∷ []
take_next i x xs lt is = grind (arith, common_steps)

pub length_front : (i : ℕ) (xs : List Outgoing) → i < length xs → length (take i xs) < length xs
length_front i xs lt = grind (arith, common_steps)

pub all_taken : (i : ℕ) (xs : List Outgoing) → length xs ≤ i → take i xs ≡ xs
all_taken i xs le = grind (arith, common_steps)

pub asked_below : (v q m : ℕ) (old new : Counts) → new ≡ record old { numbers = asked_one v q old.numbers }
    → AllBelow m old.numbers → (r : ℕ) → new.numbers.asked v r ≤ m
asked_below v q m old new is all = λ r.
    subst (λ (k : Counts). k.numbers.asked v r ≤ m) (sym is)
    (let lt = (all v r).0 in let more = one_at old.numbers.asked v q v r ((v == v) && (r == q)) refl in
    omega (arith, lt, more))

pub done_below : (v q r m n : ℕ) (os : List Outgoing) (old mid new : Counts)
    → mid ≡ record old { numbers = asked_one v q old.numbers } → new ≡ with_requests v os mid
    → AllBelow m old.numbers → m ≤ n → new.numbers.done v r < n
done_below v q r m n os old mid new is eq all le =
    let same : new.numbers.done ≡ old.numbers.done = ap (λ (k : Counts). k.numbers.done) eq
    ∙ done_kept v (addressees os) mid.numbers ∙ ap (λ (k : Counts). k.numbers.done) is in
    let number : new.numbers.done v r ≡ old.numbers.done v r = ap (λ (f : ℕ → ℕ → ℕ). f v r) same in
    let lt = (all v r).1 in
    omega (arith, number, lt)

pub requests_done_below : (v r m n : ℕ) (os : List Outgoing) (old new : Counts) → new ≡ with_requests v os old
    → AllBelow m old.numbers → m ≤ n → new.numbers.done v r < n
requests_done_below v r m n os old new eq all le =
    let same : new.numbers.done ≡ old.numbers.done = ap (λ (k : Counts). k.numbers.done) eq
    ∙ done_kept v (addressees os) old.numbers in
    let number : new.numbers.done v r ≡ old.numbers.done v r = ap (λ (f : ℕ → ℕ → ℕ). f v r) same in
    let lt = (all v r).1 in
    omega (arith, number, lt)

-- What was counted in the end.
pub sub_counted : (v q : ℕ) (os : List Outgoing) (old all new : Counts) → all ≡ with_requests v os old
    → new ≡ record all { numbers = done_one v q all.numbers }
    → new ≡ record old { numbers = counted_sub v q os old.numbers }
sub_counted v q os old all new asks eq = eq ∙ ap (λ (k : Counts). record k { numbers = done_one v q k.numbers }) asks

pub root_counted : (v p : ℕ) (os : List Outgoing) (old own all new : Counts)
    → own ≡ record old { numbers = asked_one v p old.numbers } → all ≡ with_requests v os own
    → new ≡ record all { numbers = done_one v p all.numbers }
    → new ≡ record old { numbers = counted_root v p os old.numbers }
root_counted v p os old own all new one asks eq =
    eq ∙ ap (λ (k : Counts). record k { numbers = done_one v p k.numbers }) asks
    ∙ ap (λ (k : Counts). record k { numbers = done_one v p (asked_all v (addressees os) k.numbers) }) one
