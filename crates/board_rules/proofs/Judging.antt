-- What is accepted entry by entry keeps all rules; an entry breaks one rule first. And the first act that isn't a move.
use Rattle.std.proofs.Common.{◌≡◌, inl, inr, ℕ, ◌<◌, ◌≤◌, List, [], ◌∷◌, ◌++◌, length, take, refl, sym, ap, subst, ◌∙◌, arith, append_assoc, append-nil}
use Rattle.std.specs.Prelude.{◌↔◌}
use Rattle.std.proofs.lemmas.List.{take-append-le, take_all}
use Rattle.std.proofs.lemmas.Option.{slice_get_within}
use Rattle.tv_base.proofs.ByPlace.{slice_get_last, slice_get_left, slice_get_split}
use Rattle.letter_types.specs.declared.entries.Entry.{Entry}
use Rattle.script_parts.specs.ScriptData.{ScriptData}
use Rattle.board_rules.specs.declared.rule_names.Rule.{Rule}
use Rattle.board_rules.specs.declared.rule_names.Rule.TheVariants as rules
use Rattle.board_rules.specs.Gates.{Fits}
use Rattle.board_rules.specs.Histories.{Place, places_of}
use Rattle.board_rules.specs.Judging.{AreMoves, AreRight, Breaks, DoesAtOnce, FirstFails, IsAccepted, KeepToScript, MayCome, rule_of}
use Rattle.board_rules.specs.Moves.{IsBoardRun, IsMove, OneByOne}
use Rattle.board_rules.specs.Right.{IsAtOnce, IsRight}

pub all_rules : (s : ScriptData) (h : List Entry) → (IsAccepted s h ↔ IsBoardRun s h × Fits s h × IsRight s h × IsAtOnce s h)
all_rules s h = (
  (λ all. ((λ n e at. (all n e at).moves), (λ n e at. (all n e at).keeps), (λ n e at. (all n e at).right), (λ n e at. (all n e at).at_once))),
  (λ r n e at. record { moves = r.0 n e at; keeps = r.1 n e at; right = r.2 n e at; at_once = r.3 n e at }),
)

-- One entry more.
front_is : (h : List Entry) (e : Entry) (n : ℕ) → n ≤ length h → take n h ≡ take n (h ++ e ∷ [])
front_is h e n le = sym (take-append-le n h (e ∷ []) le)

back_is : (h : List Entry) (e : Entry) (n : ℕ) → n ≡ length h → h ≡ take n (h ++ e ∷ [])
back_is h e n is = sym (take_all n h (omega (arith, is))) ∙ front_is h e n (omega (arith, is))

pub accepted_more : (s : ScriptData) (h : List Entry) (e : Entry) → IsAccepted s h → MayCome s h e → IsAccepted s (h ++ e ∷ [])
accepted_more s h e all may n f at =
    elim (slice_get_split h e n f at) [
      | inl p ↦ subst (λ (xs : List Entry). MayCome s xs f) (front_is h e n (omega (arith, p.0))) (all n f p.1)
      | inr p ↦ subst (λ (g : Entry). MayCome s (take n (h ++ e ∷ [])) g) p.1
          (subst (λ (xs : List Entry). MayCome s xs e) (back_is h e n p.0) may)
    ]

pub accepted_last : (s : ScriptData) (h : List Entry) (e : Entry) → IsAccepted s (h ++ e ∷ []) → MayCome s h e
accepted_last s h e all =
    subst (λ (xs : List Entry). MayCome s xs e) (sym (back_is h e (length h) refl)) (all (length h) e (slice_get_last h e))

pub accepted_before : (s : ScriptData) (h : List Entry) (e : Entry) → IsAccepted s (h ++ e ∷ []) → IsAccepted s h
accepted_before s h e all n f at =
    let lt : n < length h = slice_get_within h n f at in
    subst (λ (xs : List Entry). MayCome s xs f) (sym (front_is h e n (omega (arith, lt)))) (all n f (slice_get_left h (e ∷ []) n f at))

-- The first act that fails.
pub fails_at : (P : List Place → Place → Type 0) (xs bs : List Place) (a : Place) (rest : List Place) → OneByOne P xs (bs ++ a ∷ rest)
    → P (xs ++ bs) a
fails_at P xs [] a rest all = subst (λ (ys : List Place). P ys a) (sym (append-nil xs)) all.0
fails_at P xs (b ∷ bs) a rest all =
    subst (λ (ys : List Place). P ys a) (append_assoc xs (b ∷ []) bs) (fails_at P (xs ++ b ∷ []) bs a rest all.1)

same_first : (P : List Place → Place → Type 0) (xs bs cs : List Place) (a d : Place) (more rest : List Place)
    → bs ++ a ∷ more ≡ cs ++ d ∷ rest → OneByOne P xs bs → OneByOne P xs cs → (P (xs ++ bs) a → ⊥) → (P (xs ++ cs) d → ⊥) → a ≡ d
same_first P xs [] [] a d more rest is all every never none = cc is
same_first P xs [] (c ∷ cs) a d more rest is all every never none =
    let same : a ≡ c = cc is in
    absurd (never (subst (λ (y : Place). P (xs ++ []) y) (sym same) (subst (λ (ys : List Place). P ys c) (sym (append-nil xs)) every.0)))
same_first P xs (b ∷ bs) [] a d more rest is all every never none =
    let same : b ≡ d = cc is in
    absurd (none (subst (λ (y : Place). P (xs ++ []) y) same (subst (λ (ys : List Place). P ys b) (sym (append-nil xs)) all.0)))
same_first P xs (b ∷ bs) (c ∷ cs) a d more rest is all every never none =
    let same : b ≡ c = cc is in
    let tails : bs ++ a ∷ more ≡ cs ++ d ∷ rest = cc is in
    let there = subst (λ (y : Place). OneByOne P (xs ++ y ∷ []) cs) (sym same) every.1 in
    same_first P (xs ++ b ∷ []) bs cs a d more rest tails all.1 there
    (λ p. never (subst (λ (ys : List Place). P ys a) (append_assoc xs (b ∷ []) bs) p))
    (λ p. none (subst (λ (y : Place). P (xs ++ y ∷ cs) d) same (subst (λ (ys : List Place). P ys d) (append_assoc xs (b ∷ []) cs) p)))

not_all : (s : ScriptData) (h : List Entry) (e : Entry) (rule : Rule) → FirstFails s h e rule → AreMoves s h e → ⊥
not_all s h e rule f all =
    f.fails (fails_at (IsMove s h) (places_of h) f.before f.act f.after (subst (OneByOne (IsMove s h) (places_of h)) f.acts all))

same_rule : (s : ScriptData) (h : List Entry) (e : Entry) (rule other : Rule) → FirstFails s h e rule → FirstFails s h e other → rule ≡ other
same_rule s h e rule other f g =
    let one = same_first (IsMove s h) (places_of h) f.before g.before f.act g.act f.after g.after (sym f.acts ∙ g.acts) f.moves g.moves f.fails g.fails in
    sym f.is ∙ ap (λ (x : Place). rule_of x.act) one ∙ g.is

-- An entry breaks its act's rule, or, where all acts are moves, a later one.
data HowBroken (s : ScriptData) (h : List Entry) (e : Entry) (rule : Rule) : Type 0 where
  ByAct : FirstFails s h e rule → HowBroken s h e rule
  ByScript : rule ≡ rules.Fits → AreMoves s h e → (KeepToScript s h e → ⊥) → HowBroken s h e rule
  ByValue : rule ≡ rules.Right → AreMoves s h e → KeepToScript s h e → (AreRight s h e → ⊥) → HowBroken s h e rule
  ByDelay : rule ≡ rules.AtOnce → AreMoves s h e → KeepToScript s h e → AreRight s h e → (DoesAtOnce s h e → ⊥) → HowBroken s h e rule

how_broken : (s : ScriptData) (h : List Entry) (e : Entry) (rule : Rule) → Breaks s h e rule → HowBroken s h e rule
how_broken s h e rules.Fits b = ByScript refl b.0 b.1
how_broken s h e rules.Right b = ByValue refl b.0 b.1 b.2
how_broken s h e rules.AtOnce b = ByDelay refl b.0 b.1 b.2 b.3
how_broken s h e rules.Born b = ByAct b
how_broken s h e rules.Did b = ByAct b
how_broken s h e rules.Turned b = ByAct b
how_broken s h e rules.Showed b = ByAct b
how_broken s h e rules.Swept b = ByAct b

may_not : (s : ScriptData) (h : List Entry) (e : Entry) (rule : Rule) → HowBroken s h e rule → MayCome s h e → ⊥
may_not s h e rule (ByAct f) may = not_all s h e rule f may.moves
may_not s h e rule (ByScript is moves never) may = never may.keeps
may_not s h e rule (ByValue is moves keeps never) may = never may.right
may_not s h e rule (ByDelay is moves keeps right never) may = never may.at_once

pub broken_may_not : (s : ScriptData) (h : List Entry) (e : Entry) (rule : Rule) → Breaks s h e rule → MayCome s h e → ⊥
broken_may_not s h e rule b = may_not s h e rule (how_broken s h e rule b)

one_rule : (s : ScriptData) (h : List Entry) (e : Entry) (rule other : Rule) → HowBroken s h e rule → HowBroken s h e other → rule ≡ other
one_rule s h e rule other (ByAct f) (ByAct g) = same_rule s h e rule other f g
one_rule s h e rule other (ByAct f) (ByScript is moves never) = absurd (not_all s h e rule f moves)
one_rule s h e rule other (ByAct f) (ByValue is moves keeps never) = absurd (not_all s h e rule f moves)
one_rule s h e rule other (ByAct f) (ByDelay is moves keeps right never) = absurd (not_all s h e rule f moves)
one_rule s h e rule other (ByScript is moves never) (ByAct g) = absurd (not_all s h e other g moves)
one_rule s h e rule other (ByScript is moves never) (ByScript so every none) = is ∙ sym so
one_rule s h e rule other (ByScript is moves never) (ByValue so every keeps none) = absurd (never keeps)
one_rule s h e rule other (ByScript is moves never) (ByDelay so every keeps right none) = absurd (never keeps)
one_rule s h e rule other (ByValue is moves keeps never) (ByAct g) = absurd (not_all s h e other g moves)
one_rule s h e rule other (ByValue is moves keeps never) (ByScript so every none) = absurd (none keeps)
one_rule s h e rule other (ByValue is moves keeps never) (ByValue so every kept none) = is ∙ sym so
one_rule s h e rule other (ByValue is moves keeps never) (ByDelay so every kept right none) = absurd (never right)
one_rule s h e rule other (ByDelay is moves keeps right never) (ByAct g) = absurd (not_all s h e other g moves)
one_rule s h e rule other (ByDelay is moves keeps right never) (ByScript so every none) = absurd (none keeps)
one_rule s h e rule other (ByDelay is moves keeps right never) (ByValue so every kept none) = absurd (none right)
one_rule s h e rule other (ByDelay is moves keeps right never) (ByDelay so every kept seen none) = is ∙ sym so

pub broken_once : (s : ScriptData) (h : List Entry) (e : Entry) (rule other : Rule) → Breaks s h e rule → Breaks s h e other → rule ≡ other
broken_once s h e rule other b c = one_rule s h e rule other (how_broken s h e rule b) (how_broken s h e other c)
