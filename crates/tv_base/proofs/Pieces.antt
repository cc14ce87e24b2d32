-- What was read or written in pieces is one piece.
use Rattle.std.proofs.Common.{◌≡◌, ◌≤◌, ◌+◌, ℕ, List, ◌++◌, length, take, drop, Option, Some, None, sym, ap, ◌∙◌, append_assoc, arith, length-append, length-drop}
use Rattle.std.specs.Prelude.{◌-◌}
use Rattle.std.proofs.lemmas.List.{take_all, take_at, length-take, take-append-drop, drop-drop}
use Rattle.std.proofs.Math.Seq.{take-add}
use Rattle.std.specs.Io.KnownBytes.{Appends, Consumes}
use Rattle.tv_base.specs.Outside.{HasTaken}

-- all that is behind a place
pub rest_whole : (d : ℕ) (t : List ℕ) → take (length t - d) (drop d t) ≡ drop d t
rest_whole d t = take_all (length t - d) (drop d t) (omega (arith, length-drop d t))

-- one more piece of the rest after d
pub appends_more : (a b c : Option (List ℕ)) (d n : ℕ) (t : List ℕ) → Appends a b (take d t) → Appends b c (take n (take (length t - d) (drop d t))) → Appends a c (take (d + n) t)
appends_more None b c d n t p q = tt
appends_more (Some x) None c d n t p q = absurd p
appends_more (Some x) (Some y) None d n t p q = absurd q
appends_more (Some x) (Some y) (Some z) d n t p q = (rw rest_whole at q) ∙ ap (λ (w : List ℕ). w ++ take n (drop d t)) p ∙ append_assoc x (take d t) (take n (drop d t)) ∙ ap (λ (w : List ℕ). x ++ w) (sym (take-add d n t))

-- what a source in memory gave
pub gave : (bytes buf back : List ℕ) (at n : ℕ) → at + n ≤ length bytes → n ≤ length buf → back ≡ take (at + n - at) (drop at bytes) → (n ≤ length (back ++ drop n buf)) × (drop at bytes ≡ take n (back ++ drop n buf) ++ drop (at + n) bytes)
gave bytes buf back at n within room is =
    let k : at + n - at ≡ n = omega arith in
    let back_is : back ≡ take n (drop at bytes) = is ∙ ap (λ (m : ℕ). take m (drop at bytes)) k in
    let len : length back ≡ n = ap length back_is ∙ omega (arith, length-take n (drop at bytes), length-drop at bytes) in
    (omega (arith, length-append back (drop n buf)), rw (take_at back (drop n buf) n len, back_is, ← drop-drop) (sym (take-append-drop n (drop at bytes))))

-- one more piece of what is left
pub consumes_more : (a b c : Option (List ℕ)) (s t : List ℕ) → Consumes a b s → Consumes b c t → Consumes a c (s ++ t)
consumes_more None b c s t p q = tt
consumes_more (Some x) None c s t p q = absurd p
consumes_more (Some x) (Some y) None s t p q = absurd q
consumes_more (Some x) (Some y) (Some z) s t p q = p ∙ ap (λ (w : List ℕ). s ++ w) q ∙ sym (append_assoc s t z)

-- no more than n bytes were taken, with what one more read can give
pub has_taken : (n : ℕ) (a b c : Option (List ℕ)) (s buf : List ℕ) (count : ℕ) → Consumes a b s → Consumes b c (take count buf) → length s + length buf ≤ n → HasTaken n a c
has_taken n a b c s buf count p q few = (s ++ take count buf, omega (arith, few, length-append s (take count buf), length-take count buf), consumes_more a b c s (take count buf) p q)
