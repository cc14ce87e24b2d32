-- A script's text, the line `history` and a history's lines are divided where they were joined.
use Rattle.std.proofs.Common.{◌≡◌, ◌==◌, ◌&&◌, ℕ, Bool, true, false, List, [], ◌∷◌, ◌++◌, drop, refl, ap, arith}
use Rattle.std.specs.Prelude.{if◌then◌else◌}
use Rattle.history_audit.specs.Audits.{HasNoHistoryLine, audited, begins_history, divided, ends_in_feed}

-- what stands behind a line's end says nothing of whether a text begins with the line `history`
pub begins_same : (a rest : List ℕ) → ends_in_feed a ≡ true → begins_history (a ++ rest) ≡ begins_history a
begins_same [] rest ends = absurd (cc ends)
begins_same (b ∷ []) rest ends = grind arith
begins_same (b ∷ c ∷ []) rest ends = grind arith
begins_same (b ∷ c ∷ d ∷ []) rest ends = grind arith
begins_same (b ∷ c ∷ d ∷ e ∷ []) rest ends = grind arith
begins_same (b ∷ c ∷ d ∷ e ∷ f ∷ []) rest ends = grind arith
begins_same (b ∷ c ∷ d ∷ e ∷ f ∷ g ∷ []) rest ends = grind arith
begins_same (b ∷ c ∷ d ∷ e ∷ f ∷ g ∷ i ∷ []) rest ends = grind arith
begins_same (b ∷ c ∷ d ∷ e ∷ f ∷ g ∷ i ∷ j ∷ bs) rest ends = refl

-- one byte more, in two
abbrev step : Bool → ℕ → List ℕ → List ℕ × List ℕ → List ℕ × List ℕ
step here b bs rest = if here then ([], drop 8 (b ∷ bs)) else (b ∷ rest.0, rest.1)

-- where nothing is left behind the text, the line doesn't stand at its first byte, nor behind it
none_here : (here : Bool) (b : ℕ) (bs : List ℕ) (rest : List ℕ × List ℕ) → step here b bs rest ≡ (b ∷ bs, []) → (here ≡ false) × (rest ≡ (bs, []))
none_here true b bs rest so =
    let first : [] ≡ b ∷ bs = ap (λ (p : List ℕ × List ℕ). p.0) so in
    absurd (cc first)
none_here false b bs (x, y) so =
    let first : b ∷ x ≡ b ∷ bs = ap (λ (p : List ℕ × List ℕ). p.0) so in
    let second : y ≡ [] = ap (λ (p : List ℕ × List ℕ). p.1) so in
    let tail : x ≡ bs = cc first in
    (refl, rw (tail, second) refl)

-- a text that has no line that is exactly `history`, up to a line's end, and behind it one that begins with this line
joined_by : (starts : Bool) (b : ℕ) (bs : List ℕ) (r : ℕ) (rest : List ℕ) → ends_in_feed (b ∷ bs) ≡ true → divided starts (b ∷ bs) ≡ (b ∷ bs, [])
    → begins_history (r ∷ rest) ≡ true → divided starts ((b ∷ bs) ++ r ∷ rest) ≡ (b ∷ bs, drop 8 (r ∷ rest))
joined_by starts b [] r rest ends none begins =
    let (never, after) = none_here (starts && begins_history (b ∷ [])) b [] (divided (b == 10) []) none in
    let same : begins_history (b ∷ r ∷ rest) ≡ begins_history (b ∷ []) = begins_same (b ∷ []) (r ∷ rest) ends in
    let test : (starts && begins_history (b ∷ r ∷ rest)) ≡ false = rw same never in
    let behind : divided (b == 10) (r ∷ rest) ≡ ([], drop 8 (r ∷ rest)) = rw (ends, begins) refl in
    rw (test, behind) refl
joined_by starts b (c ∷ bs) r rest ends none begins =
    let (never, after) = none_here (starts && begins_history (b ∷ c ∷ bs)) b (c ∷ bs) (divided (b == 10) (c ∷ bs)) none in
    let same : begins_history (b ∷ (c ∷ bs) ++ r ∷ rest) ≡ begins_history (b ∷ c ∷ bs) = begins_same (b ∷ c ∷ bs) (r ∷ rest) ends in
    let test : (starts && begins_history (b ∷ (c ∷ bs) ++ r ∷ rest)) ≡ false = rw same never in
    let behind : divided (b == 10) ((c ∷ bs) ++ r ∷ rest) ≡ (c ∷ bs, drop 8 (r ∷ rest)) = joined_by (b == 10) c bs r rest ends after begins in
    rw (test, behind) refl

-- a text up to a line's end without such a line, this line, and what stands behind it
pub joined : (text lines : List ℕ) → ends_in_feed text ≡ true → HasNoHistoryLine text → divided true (audited text lines) ≡ (text, lines)
joined [] lines ends none = absurd (cc ends)
joined (b ∷ bs) lines ends none =
    joined_by true b bs 104 (105 ∷ 115 ∷ 116 ∷ 111 ∷ 114 ∷ 121 ∷ 10 ∷ lines) ends none refl
