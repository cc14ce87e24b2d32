-- A text is divided byte by byte.
use Rattle.std.proofs.Common.{◌≡◌, ◌<◌, ◌≤◌, ◌+◌, ◌==◌, ◌&&◌, ℕ, zero, suc, Bool, true, false, List, [], ◌∷◌, ◌++◌, length, get_or, take, drop, drop-cons, add-one, refl, sym, ap, subst, ◌∙◌, arith, append_assoc, append-nil}
use Rattle.std.specs.Prelude.{if◌then◌else◌}
use Rattle.std.proofs.lemmas.List.{take_all, take_more}
use Rattle.history_audit.specs.Audits.{begins_history, divided}

-- the text from a place on, where there is a byte
opened : (text : List ℕ) (i b : ℕ) → i < length text → b ≡ get_or text i b → drop i text ≡ b ∷ drop (i + 1) text
opened text i b within at =
    (let split : drop i text ≡ get_or text i b ∷ drop (i + 1) text = rw (add-one, drop-cons text i b) refl in split)
    ∙ ap (λ (z : ℕ). z ∷ drop (i + 1) text) (sym at)

-- behind the last byte there is none
closed : (text : List ℕ) (i : ℕ) → length text ≤ i → drop i text ≡ []
closed [] zero past = refl
closed [] (suc i) past = refl
closed (x ∷ xs) zero past = absurd (omega (arith, past))
closed (x ∷ xs) (suc i) past = closed xs i (omega (arith, past))

-- what was passed, and what is left in two
abbrev pub so_far : Bool → ℕ → List ℕ → List ℕ × List ℕ
so_far starts i text = (take i text ++ (divided starts (drop i text)).0, (divided starts (drop i text)).1)

pub none_passed : (text : List ℕ) → divided true text ≡ so_far true 0 text
none_passed text = refl

here_by : (test : Bool) (bs behind : List ℕ) (rest : List ℕ × List ℕ) → test ≡ true → (if test then (bs, behind) else rest) ≡ (bs, behind)
here_by true bs behind rest is = refl
here_by false bs behind rest is = absurd (cc is)

past_by : (test : Bool) (first rest : List ℕ × List ℕ) → test ≡ false → (if test then first else rest) ≡ rest
past_by true first rest is = absurd (cc is)
past_by false first rest is = refl

-- the line stands here
pub divided_here : (text : List ℕ) (i b : ℕ) (starts : Bool) → i < length text → b ≡ get_or text i b → starts ≡ true
    → begins_history (drop i text) ≡ true → divided true text ≡ so_far starts i text → (take i text, drop 8 (drop i text)) ≡ divided true text
divided_here text i b starts within at first begins so =
    let cons : drop i text ≡ b ∷ drop (i + 1) text = opened text i b within at in
    let test : (starts && begins_history (b ∷ drop (i + 1) text)) ≡ true = rw first (subst (λ (bs : List ℕ). begins_history bs ≡ true) cons begins) in
    let here : divided starts (drop i text) ≡ ([], drop 8 (drop i text)) =
    ap (divided starts) cons
    ∙ here_by (starts && begins_history (b ∷ drop (i + 1) text)) [] (drop 8 (b ∷ drop (i + 1) text)) (b ∷ (divided (b == 10) (drop (i + 1) text)).0, (divided (b == 10) (drop (i + 1) text)).1) test
    ∙ ap (λ (bs : List ℕ). ([], drop 8 bs)) (sym cons) in
    sym (so ∙ ap (λ (d : List ℕ × List ℕ). (take i text ++ d.0, d.1)) here ∙ ap (λ (bs : List ℕ). (bs, drop 8 (drop i text))) (append-nil (take i text)))

-- it doesn't
pub divided_on : (text : List ℕ) (i b : ℕ) (starts next : Bool) → i < length text → b ≡ get_or text i b
    → (starts && begins_history (drop i text)) ≡ false → next ≡ (b == 10) → divided true text ≡ so_far starts i text
    → divided true text ≡ so_far next (i + 1) text
divided_on text i b starts next within at never is so =
    let cons : drop i text ≡ b ∷ drop (i + 1) text = opened text i b within at in
    let test : (starts && begins_history (b ∷ drop (i + 1) text)) ≡ false = subst (λ (bs : List ℕ). (starts && begins_history bs) ≡ false) cons never in
    let rest : divided starts (drop i text) ≡ (b ∷ (divided next (drop (i + 1) text)).0, (divided next (drop (i + 1) text)).1) =
    ap (divided starts) cons
    ∙ past_by (starts && begins_history (b ∷ drop (i + 1) text)) ([], drop 8 (b ∷ drop (i + 1) text)) (b ∷ (divided (b == 10) (drop (i + 1) text)).0, (divided (b == 10) (drop (i + 1) text)).1) test
    ∙ ap (λ (t : Bool). (b ∷ (divided t (drop (i + 1) text)).0, (divided t (drop (i + 1) text)).1)) (sym is) in
    so ∙ ap (λ (d : List ℕ × List ℕ). (take i text ++ d.0, d.1)) rest
    ∙ ap (λ (bs : List ℕ). (bs, (divided next (drop (i + 1) text)).1))
    (sym (append_assoc (take i text) (b ∷ []) (divided next (drop (i + 1) text)).0)
    ∙ ap (λ (bs : List ℕ). bs ++ (divided next (drop (i + 1) text)).0)
    (ap (λ (z : ℕ). take i text ++ z ∷ []) at ∙ sym (take_more text i b within)))

-- there is none
pub divided_never : (text : List ℕ) (i : ℕ) (starts : Bool) → length text ≤ i → divided true text ≡ so_far starts i text
    → (text, []) ≡ divided true text
divided_never text i starts past so =
    sym (so ∙ ap (λ (bs : List ℕ). (take i text ++ (divided starts bs).0, (divided starts bs).1)) (closed text i past)
    ∙ ap (λ (bs : List ℕ). (bs, [])) (append-nil (take i text) ∙ take_all i text past))
