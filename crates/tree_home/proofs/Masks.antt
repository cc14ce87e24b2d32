-- A mask of the notices that are missing, with the values of the others: which are missing, and what is gathered.
use Rattle.std.proofs.Common.{◌≡◌, ℕ, zero, suc, ◌+◌, ◌-◌, ◌*◌, ◌/◌, ◌%◌, ◌<◌, ◌≤◌, ◌^◌, List, [], ◌∷◌, ◌++◌, length, set, get_or, take, drop, map, replicate, refl, ap, subst, sym, ◌∙◌, arith, append_assoc, append-nil, Bool, true, false, not, eqb, Option, Some, None, inl, inr}
use Rattle.std.specs.Prelude.{if◌then◌else◌, IsTrue, bit_and, nat_lt, slice_get}
use Rattle.std.specs.Int.{bit_at, bit_not, w64}
use Rattle.std.proofs.lemmas.Bool.{cases_eq, cases_lt, eq-eqb, eqb-false, eqb-true, le-ltb, lt-ltb, ne_eqb}
use Rattle.std.proofs.lemmas.List.{drop_all, get_or-map, get_or-set_other, get_or-set_same, get_or-replicate, length-append, length-map, length-replicate, length-set, same_lists, set_split, take_all}
use Rattle.std.proofs.lemmas.List.Concat.{flat_map-append, flat_map-cons}
use Rattle.std.proofs.lemmas.List.FromFn.{fill_by_all, get_or-map-range_with_len, length-map-range_with_len}
use Rattle.std.proofs.lemmas.Nat.{pow_below}
use Rattle.std.proofs.lemmas.Nat.Bits.{bit_at-lt, bit_at-pow_other, bit_at-pow_same, bit_at_clear_other, bit_at_clear_same, bit_at_ones, ones_shr, same_from_bits_below}
use Rattle.std.proofs.lemmas.Option.{slice_get-get_or, slice_get_past}
use Rattle.tv_base.specs.declared.numbers.Version.{Version}
use Rattle.tree_home.specs.Notices.{Gets, OpenTreeData, joined_gets, joined_with, notice_at, notices_of}
use Rattle.tree_home.specs.Homes.{gathered, is_missing, missing_count}
use Rattle.tree_home.proofs.Always.{gathered-in_order}

pub length-notices : (n m : ℕ) (vss : List Gets) → length (notices_of n m vss) ≡ n
length-notices n m vss = length-map-range_with_len (notice_at m vss) 0 n

notice-in : (n m k : ℕ) (vss : List Gets) → k < n → slice_get (notices_of n m vss) k ≡ Some (notice_at m vss k)
notice-in n m k vss lt =
    slice_get-get_or (notices_of n m vss) k None (omega (arith, length-notices n m vss))
    ∙ ap Some (get_or-map-range_with_len (notice_at m vss) 0 n k k None lt (omega arith))

-- a notice is missing exactly if its bit is 1
tested : (b : Bool) (vs : Gets) → is_missing (Some (if b then None else Some vs)) ≡ b
tested true vs = refl
tested false vs = refl

pub missing-in : (n m k : ℕ) (vss : List Gets) → k < n
    → is_missing (slice_get (notices_of n m vss) k) ≡ eqb (bit_at m k) 1
missing-in n m k vss lt = ap is_missing (notice-in n m k vss lt) ∙ tested (eqb (bit_at m k) 1) (get_or vss k [])

pub missing-past : (n m k : ℕ) (vss : List Gets) → n ≤ k → is_missing (slice_get (notices_of n m vss) k) ≡ false
missing-past n m k vss le =
    ap is_missing (slice_get_past (notices_of n m vss) k (omega (arith, length-notices n m vss)))

pub missing-bit : (n m k : ℕ) (vss : List Gets) → IsTrue (is_missing (slice_get (notices_of n m vss) k))
    → (k < n) × (bit_at m k ≡ 1)
missing-bit n m k vss is =
    elim (cases_lt k n) [
      | inl lt ↦ (lt, eqb-true (bit_at m k) 1 (sym (missing-in n m k vss lt) ∙ is))
      | inr le ↦ absurd (let no : false ≡ true = sym (missing-past n m k vss le) ∙ is in cc)
    ]

-- what contracts see misses the notice, so the fields do
pub missing-inside : (n m k : ℕ) (vss : List Gets) (v : Version) (h : OpenTreeData)
    → record { version = v; notices = notices_of n m vss } ≡ h → IsTrue (is_missing (slice_get h.notices k))
    → IsTrue (is_missing (slice_get (notices_of n m vss) k))
missing-inside n m k vss v h view is =
    let P : OpenTreeData → Type 0 = λ h. IsTrue (is_missing (slice_get h.notices k)) in
    subst P (sym view) is

-- a notice by its bit and its values
notice-same : (m q i : ℕ) (vss wss : List Gets) → bit_at q i ≡ bit_at m i → get_or wss i [] ≡ get_or vss i []
    → notice_at q wss i ≡ notice_at m vss i
notice-same m q i vss wss bits values = λ j. if eqb (bits j) 1 then None else Some (values j)

notice-there : (m i : ℕ) (vss : List Gets) (vs : Gets) → bit_at m i ≡ 0 → get_or vss i [] ≡ vs
    → notice_at m vss i ≡ Some vs
notice-there m i vss vs bit values = (λ j. if eqb (bit j) 1 then None else Some (get_or vss i [])) ∙ ap Some values

notice-none : (m i : ℕ) (vss : List Gets) → bit_at m i ≡ 1 → notice_at m vss i ≡ None
notice-none m i vss bit = λ j. if eqb (bit j) 1 then None else Some (get_or vss i [])

-- a bit that is taken away, with values put in, is a notice that is noted
noted-at : (n m q k i : ℕ) (vss wss : List Gets) (ws : Gets) → k < n → bit_at q k ≡ 0
    → ((i : ℕ) → i < n → (i ≡ k → ⊥) → bit_at q i ≡ bit_at m i) → get_or wss k [] ≡ ws
    → ((i : ℕ) → (i ≡ k → ⊥) → get_or wss i [] ≡ get_or vss i []) → i < n
    → get_or (set (notices_of n m vss) k (Some ws)) i None ≡ notice_at q wss i
noted-at n m q k i vss wss ws lt bit bits here others within =
    let ns = notices_of n m vss in
    elim (cases_eq i k) [
      | inl eq ↦
          ap (λ v. get_or (set ns k (Some ws)) v None) eq
          ∙ get_or-set_same ns k (Some ws) None (omega (arith, length-notices n m vss))
          ∙ sym (notice-there q k wss ws bit here) ∙ ap (notice_at q wss) (sym eq)
      | inr ne ↦
          get_or-set_other ns k i (Some ws) None ne
          ∙ get_or-map-range_with_len (notice_at m vss) 0 n i i None within (omega arith)
          ∙ sym (notice-same m q i vss wss (bits i within ne) (others i ne))
    ]

noted-notices : (n m q k : ℕ) (vss wss : List Gets) (ws : Gets) → k < n → bit_at q k ≡ 0
    → ((i : ℕ) → i < n → (i ≡ k → ⊥) → bit_at q i ≡ bit_at m i) → get_or wss k [] ≡ ws
    → ((i : ℕ) → (i ≡ k → ⊥) → get_or wss i [] ≡ get_or vss i [])
    → notices_of n q wss ≡ set (notices_of n m vss) k (Some ws)
noted-notices n m q k vss wss ws lt bit bits here others =
    let ns = notices_of n m vss in
    sym (fill_by_all (notice_at q wss) (set ns k (Some ws)) n None (length-set ns k (Some ws) ∙ length-notices n m vss)
    (λ i within. noted-at n m q k i vss wss ws lt bit bits here others within))

-- the bit of k is taken away from a mask of 64 bits
pub noted-mask : (n m k : ℕ) (vss wss : List Gets) (ws : Gets) → n ≤ 64
    → IsTrue (is_missing (slice_get (notices_of n m vss) k)) → get_or wss k [] ≡ ws
    → ((i : ℕ) → (i ≡ k → ⊥) → get_or wss i [] ≡ get_or vss i [])
    → notices_of n (bit_and m (bit_not w64 (1 * 2 ^ k % 2 ^ 64))) wss ≡ set (notices_of n m vss) k (Some ws)
noted-mask n m k vss wss ws few is here others =
    let lt = (missing-bit n m k vss is).0 in
    let within : k < 64 = omega arith in
    noted-notices n m (bit_and m (bit_not w64 (1 * 2 ^ k % 2 ^ 64))) k vss wss ws lt (bit_at_clear_same w64 m k within)
    (λ i below ne. bit_at_clear_other w64 m k within i (omega arith) ne) here others

-- with all bits and no values, all notices are missing
pub all-notices : (n m : ℕ) → m ≡ 2 ^ n - 1 → notices_of n m [] ≡ replicate n None
all-notices n m all =
    sym (fill_by_all (notice_at m []) (replicate n None) n None (length-replicate n None)
    (λ i lt. get_or-replicate n i None None lt
    ∙ sym (notice-none m i [] (ap (λ m. bit_at m i) all ∙ bit_at_ones n i lt))))

-- how many are missing, by which are
none-missing : (ns : List (Option Gets)) (k : ℕ) → missing_count ns ≡ 0 → is_missing (slice_get ns k) ≡ false
none-missing [] k none = refl
none-missing (None ∷ ns) k none = absurd (omega arith)
none-missing (Some vs ∷ ns) zero none = refl
none-missing (Some vs ∷ ns) (suc k) none = none-missing ns k none

some-missing : (ns : List (Option Gets)) (k : ℕ) → IsTrue (is_missing (slice_get ns k)) → 0 < missing_count ns
some-missing [] k is = absurd (let no : false ≡ true = is in cc)
some-missing (None ∷ ns) k is = omega arith
some-missing (Some vs ∷ ns) zero is = absurd (let no : false ≡ true = is in cc)
some-missing (Some vs ∷ ns) (suc k) is = some-missing ns k is

only-one : (ns : List (Option Gets)) (k j : ℕ) → missing_count ns ≤ 1 → IsTrue (is_missing (slice_get ns k))
    → (j ≡ k → ⊥) → is_missing (slice_get ns j) ≡ false
only-one [] k j few is ne = refl
only-one (n ∷ ns) zero zero few is ne = absurd (ne refl)
only-one (None ∷ ns) zero (suc j) few is ne = none-missing ns j (omega arith)
only-one (Some vs ∷ ns) zero (suc j) few is ne = absurd (let no : false ≡ true = is in cc)
only-one (None ∷ ns) (suc k) j few is ne = absurd (let some = some-missing ns k is in omega arith)
only-one (Some vs ∷ ns) (suc k) zero few is ne = refl
only-one (Some vs ∷ ns) (suc k) (suc j) few is ne = only-one ns k j few is (λ eq. ne (ap suc eq))

count-none : (ns : List (Option Gets)) → ((j : ℕ) → is_missing (slice_get ns j) ≡ false) → missing_count ns ≡ 0
count-none [] none = refl
count-none (None ∷ ns) none = absurd (let no : true ≡ false = none zero in cc)
count-none (Some vs ∷ ns) none = count-none ns (λ j. none (suc j))

only-count : (ns : List (Option Gets)) (k : ℕ) → ((j : ℕ) → (j ≡ k → ⊥) → is_missing (slice_get ns j) ≡ false)
    → missing_count ns ≤ 1
only-count [] k only = omega arith
only-count (None ∷ ns) zero only = let rest = count-none ns (λ j. only (suc j) (λ eq. omega arith)) in omega arith
only-count (Some vs ∷ ns) zero only = let rest = count-none ns (λ j. only (suc j) (λ eq. omega arith)) in omega arith
only-count (None ∷ ns) (suc k) only = absurd (let no : true ≡ false = only zero (λ eq. omega arith) in cc)
only-count (Some vs ∷ ns) (suc k) only = only-count ns k (λ j ne. only (suc j) (λ eq. ne (omega arith)))

-- a bit that isn't 1 is 0
zero-bit : (b : ℕ) → b < 2 → eqb b 1 ≡ false → b ≡ 0
zero-bit b lt is = let ne = eqb-false b 1 is in omega arith

-- beside the notice of k no other is missing: the other bits are 0
other-bits : (n m k i : ℕ) (vss : List Gets) → IsTrue (is_missing (slice_get (notices_of n m vss) k))
    → missing_count (notices_of n m vss) ≤ 1 → i < n → (i ≡ k → ⊥) → bit_at m i ≡ 0
other-bits n m k i vss is few lt ne =
    zero-bit (bit_at m i) (bit_at-lt m i)
    (sym (missing-in n m i vss lt) ∙ only-one (notices_of n m vss) k i few is ne)

last-bits : (n m k i : ℕ) (vss : List Gets) → IsTrue (is_missing (slice_get (notices_of n m vss) k))
    → missing_count (notices_of n m vss) ≤ 1 → i < n → bit_at m i ≡ bit_at (2 ^ k) i
last-bits n m k i vss is few lt =
    elim (cases_eq i k) [
      | inl eq ↦
          ap (bit_at m) eq ∙ (missing-bit n m k vss is).1 ∙ sym (bit_at-pow_same k) ∙ ap (bit_at (2 ^ k)) (sym eq)
      | inr ne ↦ other-bits n m k i vss is few lt ne ∙ sym (bit_at-pow_other k i ne)
    ]

last-mask : (n m k : ℕ) (vss : List Gets) → m < 2 ^ n → IsTrue (is_missing (slice_get (notices_of n m vss) k))
    → missing_count (notices_of n m vss) ≤ 1 → m ≡ 2 ^ k
last-mask n m k vss below is few =
    same_from_bits_below n m (2 ^ k) below (pow_below k n (missing-bit n m k vss is).0)
    (λ i lt. last-bits n m k i vss is few lt)

mask-others : (n m k j : ℕ) (vss : List Gets) → m ≡ 2 ^ k → (j ≡ k → ⊥)
    → is_missing (slice_get (notices_of n m vss) j) ≡ false
mask-others n m k j vss eq ne =
    elim (cases_lt j n) [
      | inl lt ↦
          missing-in n m j vss lt
          ∙ ap (λ b. eqb b 1) (ap (λ m. bit_at m j) eq ∙ bit_at-pow_other k j ne)
      | inr le ↦ missing-past n m j vss le
    ]

-- another is missing exactly if the mask isn't that of k alone
none-beside : (n m k : ℕ) (vss : List Gets) → m ≡ 2 ^ k → nat_lt 1 (missing_count (notices_of n m vss)) ≡ false
none-beside n m k vss eq =
    le-ltb 1 (missing_count (notices_of n m vss))
    (only-count (notices_of n m vss) k (λ j ne. mask-others n m k j vss eq ne))

another-beside : (n m k : ℕ) (vss : List Gets) → m < 2 ^ n
    → IsTrue (is_missing (slice_get (notices_of n m vss) k)) → (m ≡ 2 ^ k → ⊥)
    → nat_lt 1 (missing_count (notices_of n m vss)) ≡ true
another-beside n m k vss below is ne =
    elim (cases_lt 1 (missing_count (notices_of n m vss))) [
      | inl more ↦ lt-ltb 1 (missing_count (notices_of n m vss)) more
      | inr few ↦ absurd (ne (last-mask n m k vss below is few))
    ]

pub another-by : (n m k w : ℕ) (vss : List Gets) → m < 2 ^ n
    → IsTrue (is_missing (slice_get (notices_of n m vss) k)) → w ≡ 2 ^ k
    → not (eqb m w) ≡ nat_lt 1 (missing_count (notices_of n m vss))
another-by n m k w vss below is one =
    elim (cases_eq m (2 ^ k)) [
      | inl eq ↦ ap not (eq-eqb m w (eq ∙ sym one)) ∙ sym (none-beside n m k vss eq)
      | inr ne ↦ ap not (ne_eqb m w (λ e. ne (e ∙ one))) ∙ sym (another-beside n m k vss below is ne)
    ]

-- the mask of n bits
pub all_bits : (n : ℕ) → n ≤ 64 → (2 ^ 64 - 1) / 2 ^ (64 - n) ≡ 2 ^ n - 1
all_bits n few =
    let back : 64 - (64 - n) ≡ n = omega arith in
    ones_shr 64 (64 - n) (omega arith) ∙ ap (λ k. 2 ^ k - 1) back

-- lists with empty ones behind
abbrev pub padded : ℕ → List Gets → List Gets
padded r vss = vss ++ replicate r []

joined-empty : (r : ℕ) → joined_gets (replicate r []) ≡ []
joined-empty zero = refl
joined-empty (suc r) = flat_map-cons (λ (vs : Gets). vs) [] (replicate r []) ∙ joined-empty r

joined-padded : (r : ℕ) (vss : List Gets) → joined_gets (padded r vss) ≡ joined_gets vss
joined-padded r vss =
    flat_map-append (λ (vs : Gets). vs) vss (replicate r [])
    ∙ ap (λ us. joined_gets vss ++ us) (joined-empty r) ∙ append-nil (joined_gets vss)

take-padded : (k r : ℕ) (vss : List Gets) → joined_gets (take k (padded r vss)) ≡ joined_gets (take k vss)
take-padded zero r vss = refl
take-padded (suc k) r (vs ∷ vss) =
    flat_map-cons (λ (vs : Gets). vs) vs (take k (padded r vss)) ∙ ap (λ us. vs ++ us) (take-padded k r vss)
    ∙ sym (flat_map-cons (λ (vs : Gets). vs) vs (take k vss))
take-padded (suc k) zero [] = refl
take-padded (suc k) (suc r) [] =
    flat_map-cons (λ (vs : Gets). vs) [] (take k (replicate r [])) ∙ take-padded k r []
    ∙ ap joined_gets (take_all k [] (omega arith))

drop-padded : (k r : ℕ) (vss : List Gets) → joined_gets (drop k (padded r vss)) ≡ joined_gets (drop k vss)
drop-padded zero r vss = joined-padded r vss
drop-padded (suc k) r (vs ∷ vss) = drop-padded k r vss
drop-padded (suc k) zero [] = refl
drop-padded (suc k) (suc r) [] = drop-padded k r [] ∙ ap joined_gets (drop_all k [] (omega arith))

get_or-padded : (r : ℕ) (vss : List Gets) (i : ℕ) → get_or (padded r vss) i [] ≡ get_or vss i []
get_or-padded zero [] i = refl
get_or-padded (suc r) [] zero = refl
get_or-padded (suc r) [] (suc i) = get_or-padded r [] i
get_or-padded r (vs ∷ vss) zero = refl
get_or-padded r (vs ∷ vss) (suc i) = get_or-padded r vss i

length-padded : (n : ℕ) (vss : List Gets) → length vss ≤ n → length (padded (n - length vss) vss) ≡ n
length-padded n vss few =
    omega (arith, length-append vss (replicate (n - length vss) []), length-replicate {A = Gets} (n - length vss) [])

-- with no other notice missing, the notices are the lists
lists-at : (n m k i : ℕ) (vss : List Gets) (ws : Gets) (d : Option Gets) → k < n → length vss ≤ n
    → ((i : ℕ) → i < n → (i ≡ k → ⊥) → bit_at m i ≡ 0) → i < n
    → get_or (set (notices_of n m vss) k (Some ws)) i d
    ≡ get_or (map Some (set (padded (n - length vss) vss) k ws)) i d
lists-at n m k i vss ws d lt few bits within =
    let ns = notices_of n m vss in
    let r = n - length vss in
    let pad = padded r vss in
    let long = length-padded n vss few in
    let mapped = get_or-map Some (set pad k ws) i [] d (omega (arith, length-set pad k ws)) in
    elim (cases_eq i k) [
      | inl eq ↦
          ap (λ v. get_or (set ns k (Some ws)) v d) eq
          ∙ get_or-set_same ns k (Some ws) d (omega (arith, length-notices n m vss))
          ∙ ap Some (sym (ap (λ v. get_or (set pad k ws) v []) eq ∙ get_or-set_same pad k ws [] (omega arith)))
          ∙ sym mapped
      | inr ne ↦
          get_or-set_other ns k i (Some ws) d ne
          ∙ get_or-map-range_with_len (notice_at m vss) 0 n i i d within (omega arith)
          ∙ notice-there m i vss (get_or vss i []) (bits i within ne) refl
          ∙ ap Some (sym (get_or-set_other pad k i ws [] ne ∙ get_or-padded r vss i))
          ∙ sym mapped
    ]

notices-lists : (n m k : ℕ) (vss : List Gets) (ws : Gets) → k < n → length vss ≤ n
    → ((i : ℕ) → i < n → (i ≡ k → ⊥) → bit_at m i ≡ 0)
    → set (notices_of n m vss) k (Some ws) ≡ map Some (set (padded (n - length vss) vss) k ws)
notices-lists n m k vss ws lt few bits =
    let ns = notices_of n m vss in
    let pad = padded (n - length vss) vss in
    let one : length (set ns k (Some ws)) ≡ n = length-set ns k (Some ws) ∙ length-notices n m vss in
    let two : length (map Some (set pad k ws)) ≡ n =
    length-map (set pad k ws) Some ∙ length-set pad k ws ∙ length-padded n vss few in
    same_lists (set ns k (Some ws)) (map Some (set pad k ws)) (one ∙ sym two)
    (λ i d within. lists-at n m k i vss ws d lt few bits (omega arith))

joined-set : (r k : ℕ) (vss : List Gets) (ws : Gets) → k < length (padded r vss)
    → joined_gets (set (padded r vss) k ws) ≡ joined_gets (take k vss) ++ ws ++ joined_gets (drop (suc k) vss)
joined-set r k vss ws lt =
    let pad = padded r vss in
    ap joined_gets (set_split pad k ws lt)
    ∙ flat_map-append (λ (vs : Gets). vs) (take k pad) (ws ∷ drop (suc k) pad)
    ∙ ap (λ us. joined_gets (take k pad) ++ us) (flat_map-cons (λ (vs : Gets). vs) ws (drop (suc k) pad))
    ∙ sym (append_assoc (joined_gets (take k pad)) ws (joined_gets (drop (suc k) pad)))
    ∙ (λ i. take-padded k r vss i ++ ws ++ drop-padded (suc k) r vss i)

pub gathered-lists : (n m k : ℕ) (vss : List Gets) (ws : Gets)
    → IsTrue (is_missing (slice_get (notices_of n m vss) k)) → missing_count (notices_of n m vss) ≤ 1 → length vss ≤ n
    → gathered (set (notices_of n m vss) k (Some ws))
    ≡ Some (joined_with k ws vss)
gathered-lists n m k vss ws is few short =
    let lt = (missing-bit n m k vss is).0 in
    let r = n - length vss in
    let long = length-padded n vss short in
    let next : suc k ≡ k + 1 = omega arith in
    ap gathered (notices-lists n m k vss ws lt short (λ i within ne. other-bits n m k i vss is few within ne))
    ∙ gathered-in_order (set (padded r vss) k ws)
    ∙ ap Some (joined-set r k vss ws (omega arith))
    ∙ ap (λ j. Some (joined_gets (take k vss) ++ ws ++ joined_gets (drop j vss))) next

-- one more notice is counted
pub counted-missing : (ns : List (Option Gets)) (k : ℕ) → is_missing (slice_get ns k) ≡ true
    → missing_count (drop k ns) ≡ missing_count (drop (k + 1) ns) + 1
counted-missing ns k is =
    let next : suc k ≡ k + 1 = omega arith in
    step ns k is ∙ ap (λ j. missing_count (drop j ns) + 1) next where
      step : (ns : List (Option Gets)) (k : ℕ) → is_missing (slice_get ns k) ≡ true
          → missing_count (drop k ns) ≡ missing_count (drop (suc k) ns) + 1
      step [] k is = absurd (let no : false ≡ true = is in cc)
      step (None ∷ ns) zero is = refl
      step (Some vs ∷ ns) zero is = absurd (let no : false ≡ true = is in cc)
      step (n ∷ ns) (suc k) is = step ns k is

pub counted-there : (ns : List (Option Gets)) (k : ℕ) → k < length ns → is_missing (slice_get ns k) ≡ false
    → missing_count (drop k ns) ≡ missing_count (drop (k + 1) ns)
counted-there ns k lt is =
    let next : suc k ≡ k + 1 = omega arith in
    step ns k lt is ∙ ap (λ j. missing_count (drop j ns)) next where
      step : (ns : List (Option Gets)) (k : ℕ) → k < length ns → is_missing (slice_get ns k) ≡ false
          → missing_count (drop k ns) ≡ missing_count (drop (suc k) ns)
      step [] k lt is = absurd (omega arith)
      step (None ∷ ns) zero lt is = absurd (let no : true ≡ false = is in cc)
      step (Some vs ∷ ns) zero lt is = refl
      step (n ∷ ns) (suc k) lt is = step ns k (omega arith) is
