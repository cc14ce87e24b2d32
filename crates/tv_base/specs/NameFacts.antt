-- A name is its bytes: the field of 32 bytes follows from them.
use Rattle.std.proofs.Common.{◌≡◌, ℕ, ◌≤◌, List, ◌++◌, length, take, drop, ◌<◌, ◌+◌, ◌-◌, refl, sym, ap, ◌∙◌, arith}
use Rattle.std.specs.Prelude.{replicate}
use Rattle.std.proofs.lemmas.List.{length-take, length-append, length-replicate, take_at, take-replicate, drop-replicate}
use Rattle.std.proofs.Math.Seq.{take-append-add}
use Rattle.tv_base.specs.declared.name.Name.TheInside.{Inside}
use Rattle.tv_base.specs.Names.{name_bytes, padded, held_as, IsPadded}

length_padded : (xs : List ℕ) → length (padded xs) ≡ 32
length_padded xs =
    let zeros = length-replicate {A = ℕ} 32 0 in
    omega (arith, length-take 32 (xs ++ replicate 32 0), length-append xs (replicate 32 0), zeros)

abbrev with_parts : List ℕ → ℕ → Inside
with_parts held len = record { held = held; len = len }

made : (n m : Inside) → n.held ≡ m.held → n.len ≡ m.len → n ≡ m
made n m p q = ap (λ (h : List ℕ). with_parts h n.len) p ∙ ap (with_parts m.held) q

pub held_as-shown : (n : Inside) → IsPadded n → held_as (name_bytes n) ≡ n
held_as-shown n h =
    let size : length n.held ≡ 32 = ap length h.zeros ∙ length_padded (take n.len n.held) in
    let len : length (take n.len n.held) ≡ n.len = omega (arith, length-take n.len n.held, h.small) in
    made (held_as (name_bytes n)) n (sym h.zeros) len

padding : (w : ℕ) (bytes : List ℕ) → length bytes ≤ w → take w (bytes ++ replicate w 0) ≡ bytes ++ drop (length bytes) (replicate w 0)
padding w bytes small =
    let d : ℕ = w - length bytes in
    let n : w ≡ length bytes + d = omega arith in
    let less : d ≤ w = omega arith in
    let taken : take d (replicate w 0) ≡ drop (length bytes) (replicate w 0) = take-replicate d w 0 less ∙ sym (drop-replicate (length bytes) w 0) in
    ap (λ (k : ℕ). take k (bytes ++ replicate w 0)) n ∙ take-append-add bytes (replicate w 0) d ∙ ap (λ (t : List ℕ). bytes ++ t) taken

-- what `Name::new` makes
pub is_padded : (bytes front : List ℕ) → front ≡ bytes → 0 < length bytes → length bytes ≤ 32 → IsPadded (with_parts (front ++ drop (length bytes) (replicate 32 0)) (length bytes))
is_padded bytes front e some small = rw e (record {
  some = some;
  small = small;
  zeros =
      let t : take (length bytes) (bytes ++ drop (length bytes) (replicate 32 0)) ≡ bytes = take_at bytes (drop (length bytes) (replicate 32 0)) (length bytes) refl in
      sym (padding 32 bytes small) ∙ ap padded (sym t);
})
