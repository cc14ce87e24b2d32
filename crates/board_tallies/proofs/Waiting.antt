-- If no transaction is counted as not complete in versions up to one, the transactions born up to it are complete.
use Rattle.std.proofs.Common.{◌≡◌, ◌⊎◌, inl, inr, ℕ, zero, suc, ◌<◌, ◌≤◌, ◌==◌, Bool, true, false, List, [], ◌∷◌, length, refl, sym, ap, subst, ◌∙◌, arith, Option, Some, None}
use Rattle.std.specs.Prelude.{if◌then◌else◌, ◌&&◌, ◌||◌, is_some, nat_lt, not, slice_get}
use Rattle.std.specs.Bool.{Decides}
use Rattle.std.proofs.lemmas.Bool.{cases_lt, eq-eqb, eqb-true, ltb-true, lt-ltb, and_parts, or_cases, or_left, or_right}
use Rattle.std.proofs.lemmas.Bool.Decides.{Decides-and, Decides-like}
use Rattle.std.proofs.lemmas.List.Sums.{sum_by-cons}
use Rattle.std.proofs.lemmas.Option.{get_or_from_slice_get, slice_get-get_or, slice_get_within}
use Rattle.tv_base.specs.declared.numbers.Version.{Version}
use Rattle.tv_base.proofs.Truths.{right_true}
use Rattle.script_parts.specs.ScriptData.{ScriptData, is_read}
use Rattle.script_parts.specs.declared.parts.Tree.{Tree}
use Rattle.board_rules.specs.Histories.{Place}
use Rattle.board_rules.specs.Moves.{AllWholeTo}
use Rattle.board_rules.specs.Serial.{is_version}
use Rattle.board_tallies.specs.Board.{BoardData, IsBoardOf, ShowsTree, count_of, counted_in, first_state, is_through, pending_of, pending_version, pends, state_at, unwhole_of}
use Rattle.board_tallies.specs.inside.Pending.{none_to}
use Rattle.board_tallies.specs.declared.pending.Pending.{Pending}
use Rattle.board_tallies.specs.declared.states.TreeState.{TreeState}
use Rattle.board_tallies.proofs.Standing.{tree_there, whole_is}
use Rattle.board_tallies.proofs.Marks.{one_when}

-- Counts of 0 up to a version.
one_zero : (r : Bool) (v : ℕ) (p : Pending) → Decides ((count_of r p == 0) || nat_lt v p.version.0)
    ((w : ℕ) → w ≤ v → counted_in r w p ≡ 0)
one_zero r v p = (there, back) where
  if_same : (b : Bool) (n : ℕ) → (b ≡ true → n ≡ 0) → (if b then n else 0) ≡ 0
  if_same true n zero_it = zero_it refl
  if_same false n zero_it = refl

  there_by : (w : ℕ) → w ≤ v → ((count_of r p == 0) ≡ true) ⊎ (nat_lt v p.version.0 ≡ true) → counted_in r w p ≡ 0
  there_by w le (inl none) = if_same (p.version.0 == w) (count_of r p) (λ is. eqb-true (count_of r p) 0 none)
  there_by w le (inr above) =
      let more = ltb-true v p.version.0 above in
      if_same (p.version.0 == w) (count_of r p)
      (λ is. absurd (let same : p.version.0 ≡ w = eqb-true p.version.0 w is in omega (arith, same, more, le)))

  there : ((count_of r p == 0) || nat_lt v p.version.0) ≡ true → (w : ℕ) → w ≤ v → counted_in r w p ≡ 0
  there is w le = there_by w le (or_cases (count_of r p == 0) (nat_lt v p.version.0) is)

  back_by : ((w : ℕ) → w ≤ v → counted_in r w p ≡ 0) → (v < p.version.0) ⊎ (p.version.0 ≤ v)
      → ((count_of r p == 0) || nat_lt v p.version.0) ≡ true
  back_by none (inl above) = or_right (count_of r p == 0) (nat_lt v p.version.0) (lt-ltb v p.version.0 above)
  back_by none (inr up_to) =
      let own : counted_in r p.version.0 p ≡ count_of r p
      = ap (λ (b : Bool). if b then count_of r p else 0) (eq-eqb p.version.0 p.version.0 refl) in
      or_left (count_of r p == 0) (nat_lt v p.version.0) (eq-eqb (count_of r p) 0 (sym own ∙ none p.version.0 up_to))

  back : ((w : ℕ) → w ≤ v → counted_in r w p ≡ 0) → ((count_of r p == 0) || nat_lt v p.version.0) ≡ true
  back none = back_by none (cases_lt v p.version.0)

none_to_decides : (r : Bool) (v : ℕ) (ps : List Pending) → Decides (none_to r v ps) ((w : ℕ) → w ≤ v → pending_of r w ps ≡ 0)
none_to_decides r v [] = (λ is w le. refl, λ none. refl)
none_to_decides r v (p ∷ ps) =
    Decides-like (none_to r v (p ∷ ps))
    (λ h w le. let sum = sum_by-cons (counted_in r w) p ps in omega (arith, sum, h.0 w le, h.1 w le))
    (λ none. (
      λ w le. let sum = sum_by-cons (counted_in r w) p ps in omega (arith, sum, none w le),
      λ w le. let sum = sum_by-cons (counted_in r w) p ps in omega (arith, sum, none w le),
    ))
    (Decides-and ((count_of r p == 0) || nat_lt v p.version.0) (none_to r v ps) (one_zero r v p) (none_to_decides r v ps))

-- No tree is waited for in a version.
abbrev NonePends : Bool → ℕ → List Tree → List TreeState → Type 0
NonePends r w trees states =
    (t : ℕ) (tree : Tree) (st : TreeState) → slice_get trees t ≡ Some tree → slice_get states t ≡ Some st
    → pends r w (is_read tree.kind) (pending_version tree st) ≡ 0

none_pends : (r : Bool) (w : ℕ) (trees : List Tree) (states : List TreeState) → unwhole_of r w trees states ≡ 0
    → NonePends r w trees states
none_pends r w [] states none t tree st at here = absurd (cc at)
none_pends r w (x ∷ trees) [] none t tree st at here = absurd (cc here)
none_pends r w (x ∷ trees) (y ∷ states) none zero tree st at here =
    let one : x ≡ tree = cc at in
    let two : y ≡ st = cc here in
    let first : pends r w (is_read x.kind) (pending_version x y) ≡ 0 = omega (arith, none) in
    sym (λ i. pends r w (is_read (one i).kind) (pending_version (one i) (two i))) ∙ first
none_pends r w (x ∷ trees) (y ∷ states) none (suc t) tree st at here =
    none_pends r w trees states (omega (arith, none)) t tree st at here

pends_none_sum : (r : Bool) (w : ℕ) (trees : List Tree) (states : List TreeState) → NonePends r w trees states
    → unwhole_of r w trees states ≡ 0
pends_none_sum r w [] states none = refl
pends_none_sum r w (x ∷ trees) [] none = refl
pends_none_sum r w (x ∷ trees) (y ∷ states) none =
    let first = none zero x y refl refl in
    let rest = pends_none_sum r w trees states (λ t tree st at here. none (suc t) tree st at here) in
    omega (arith, first, rest)

-- One tree that is waited for in no version up to one is whole, if it was born in one of them.
through_else : (through : Bool) (o : Option Version) → through ≡ false → (if through then None else o) ≡ o
through_else true o is = absurd (cc is)
through_else false o is = refl

if_true : (b : Bool) → b ≡ true → one_when b ≡ 1
if_true true is = refl
if_true false is = absurd (cc is)

if_false : (b : Bool) → b ≡ false → one_when b ≡ 0
if_false true is = absurd (cc is)
if_false false is = refl

through_by : (r own through : Bool) (w : Version) (o : Option Version) → (if r then own else not own) ≡ true → o ≡ Some w
    → pends r w.0 own (if through then None else o) ≡ 0 → through ≡ true
through_by r own true w o kind born none = refl
through_by r own false w o kind born none =
    let same : is_version w.0 o ≡ true = ap (λ (p : Option Version). is_version w.0 p) born ∙ eq-eqb w.0 w.0 refl in
    let one : pends r w.0 own o ≡ 1
    = if_true ((if r then own else not own) && is_version w.0 o) ((λ i. kind i && same i)) in
    absurd (omega (arith, one, none))

-- and one that is whole is waited for in none
version_is : (w : ℕ) (o : Option Version) → is_version w o ≡ true → (v : Version) × (o ≡ Some v) × (v.0 ≡ w)
version_is w None is = absurd (cc is)
version_is w (Some v) is = (v, refl, eqb-true v.0 w is)

pending_some : (through : Bool) (o : Option Version) (v : Version) → (if through then None else o) ≡ Some v
    → (through ≡ false) × (o ≡ Some v)
pending_some true o v is = absurd (cc is)
pending_some false o v is = (refl, is)

none_pends_by : (r own through : Bool) (w : ℕ) (o : Option Version)
    → ((v : Version) → (if r then own else not own) ≡ true → o ≡ Some v → v.0 ≡ w → through ≡ true)
    → pends r w own (if through then None else o) ≡ 0
none_pends_by r own through w o whole = by ((if r then own else not own) && is_version w (if through then None else o)) refl where
  by : (b : Bool) → ((if r then own else not own) && is_version w (if through then None else o)) ≡ b
      → pends r w own (if through then None else o) ≡ 0
  by false is = if_false ((if r then own else not own) && is_version w (if through then None else o)) is
  by true is =
      let parts = and_parts (if r then own else not own) (is_version w (if through then None else o)) is in
      let (v, found, same) = version_is w (if through then None else o) parts.1 in
      let waits = pending_some through o v found in
      absurd (let yes_it = whole v parts.0 waits.1 same in let no_it = waits.0 in let both : true ≡ false = sym yes_it ∙ no_it in cc both)

-- which trees are read, or aren't
pub record AreOfKind (are : ℕ → Bool) (s : ScriptData) (r : Bool) : Type 0 where
  pub there : (t : ℕ) → are t ≡ true → t < length s.trees
  pub kind : (t : ℕ) (tree : Tree) → slice_get s.trees t ≡ Some tree
      → are t ≡ (if r then is_read tree.kind else not (is_read tree.kind))

whole_from : (born through : Bool) → born ≡ true → through ≡ true → (born && through) ≡ true
whole_from true through is so = so
whole_from false through is so = absurd (cc is)

-- the tallies say whether all such trees up to a version are whole
pub waits_decides : (s : ScriptData) (xs : List Place) (b : BoardData) (are : ℕ → Bool) (r : Bool) (v : ℕ) → IsBoardOf s xs b
    → AreOfKind are s r → Decides (none_to r v b.pending) (AllWholeTo are s xs v)
waits_decides s xs b are r v board kinds =
    Decides-like (none_to r v b.pending) there back (none_to_decides r v b.pending) where
      state_there : (t : ℕ) → t < length s.trees → slice_get b.trees t ≡ Some (state_at b.trees t)
      state_there t lt = slice_get-get_or b.trees t first_state (omega (arith, lt, board.trees))

      there : ((w : ℕ) → w ≤ v → pending_of r w b.pending ≡ 0) → AllWholeTo are s xs v
      there none t w is born le =
          let (tree, at) = tree_there s t (kinds.there t is) in
          let st : TreeState = state_at b.trees t in
          let zero_it = none_pends r w.0 s.trees b.trees (sym (board.pending r w.0) ∙ none w.0 le) t tree st at
          (state_there t (kinds.there t is)) in
          let has : st.born ≡ Some w = (board.states t).born ∙ born in
          let through : is_through tree st ≡ true
          = through_by r (is_read tree.kind) (is_through tree st) w st.born (sym (kinds.kind t tree at) ∙ is) has zero_it in
          sym (whole_is s xs t tree st at (board.states t))
          ∙ whole_from (is_some st.born) (is_through tree st) (ap is_some has) through

      back : AllWholeTo are s xs v → (w : ℕ) → w ≤ v → pending_of r w b.pending ≡ 0
      back whole w le = board.pending r w ∙ pends_none_sum r w s.trees b.trees none where
        none : NonePends r w s.trees b.trees
        none t tree st at here =
            let lt = slice_get_within s.trees t tree at in
            let same : state_at b.trees t ≡ st = get_or_from_slice_get b.trees t st first_state here in
            let shows : ShowsTree t xs st = subst (λ (z : TreeState). ShowsTree t xs z) same (board.states t) in
            none_pends_by r (is_read tree.kind) (is_through tree st) w st.born
            (λ u kind born is.
            right_true (is_some st.born) (is_through tree st)
            (whole_is s xs t tree st at shows
            ∙ whole t u (kinds.kind t tree at ∙ kind) (sym shows.born ∙ born) (omega (arith, is, le))))
