-- What was told of a transaction, taken back; and the counts of the transactions that aren't complete, after something
-- is told.
use Rattle.std.proofs.Common.{◌≡◌, ℕ, zero, suc, ◌+◌, ◌<◌, ◌≤◌, Bool, true, false, List, [], ◌∷◌, length, Option, Some, None, refl, sym, ap, ◌∙◌, slice_set, get_or, arith}
use Rattle.std.specs.Prelude.{if◌then◌else◌, ◌||◌, slice_get}
use Rattle.std.specs.Option.{option_or}
use Rattle.std.proofs.lemmas.List.{get_or-set_same}
use Rattle.std.proofs.lemmas.Option.{slice_get-get_or}
use Rattle.tv_base.specs.declared.numbers.Version.{Version}
use Rattle.script_parts.specs.declared.parts.Tree.{Tree}
use Rattle.board_tallies.specs.Board.{AreCounted, first_state, is_through, pending_of, pending_version, pends, state_at, unwhole_of}
use Rattle.board_tallies.specs.TakenBack.{state_back}
use Rattle.board_tallies.specs.inside.Noting.{pending_at, reads_at, state_was, state_with}
use Rattle.board_tallies.specs.inside.Pending.{MayRecount}
use Rattle.board_tallies.specs.declared.pending.Pending.{Pending}
use Rattle.board_tallies.specs.declared.states.StateNews.{StateNews}
use Rattle.board_tallies.specs.declared.states.StateNews.TheVariants as news
use Rattle.board_tallies.specs.declared.states.StateWas.{StateWas}
use Rattle.board_tallies.specs.declared.states.TreeState.{TreeState}
use Rattle.board_tallies.proofs.Counted.{pends_none}
use Rattle.board_tallies.proofs.Marks.{set_back}

-- what was told is taken back from a state
pub told_back : (n : StateNews) (st : TreeState) → state_back (state_was n st) (state_with n st) ≡ st
told_back (news.Born v) st = refl
told_back (news.Done k) st = λ i. record st { done = set_back st.done k.0 true false i }
told_back (news.Voted k said) st =
    λ i. record st {
      voted = set_back st.voted k.0 true false i;
      yes = set_back st.yes k.0 (said || get_or st.yes k.0 false) false i;
    }
told_back (news.Applied p) st = λ i. record st { applied = set_back st.applied p.0 true false i }
told_back (news.Freed p) st = λ i. record st { freed = set_back st.freed p.0 true false i }
told_back (news.Decided commit) st = refl

back_by : (n : StateNews) (old y : TreeState) (was : StateWas) → y ≡ state_with n old → was ≡ state_was n old → state_back was y ≡ old
back_by n old y was is so = (λ i. state_back (so i) (is i)) ∙ told_back n old

-- and from the states of all trees
told_state_back : (n : StateNews) (states : List TreeState) (t : ℕ) (old y : TreeState) (was : StateWas)
    → old ≡ get_or states t old → y ≡ state_with n old → was ≡ state_was n old
    → slice_set (slice_set states t y) t (state_back was y) ≡ states
told_state_back n states t old y was here is so =
    ap (λ (one : TreeState). slice_set (slice_set states t y) t one) (back_by n old y was is so ∙ here) ∙ set_back states t y old

pub told_states_back : (n : StateNews) (states : List TreeState) (t : ℕ) (old y : TreeState) (was : StateWas) → t < length states
    → old ≡ get_or states t old → y ≡ state_with n old → was ≡ state_was n old
    → slice_set (slice_set states t y) t (state_back was (state_at (slice_set states t y) t)) ≡ states
told_states_back n states t old y was lt here is so =
    ap (λ (one : TreeState). slice_set (slice_set states t y) t (state_back was one)) (get_or-set_same states t y first_state lt)
    ∙ told_state_back n states t old y was here is so

-- the version with which a tree was born stays
born_stays : (n : StateNews) (st : TreeState) (v : Version) → st.born ≡ Some v → (state_with n st).born ≡ Some v
born_stays (news.Born w) st v is = ap (λ (o : Option Version). option_or o (Some w)) is
born_stays (news.Done k) st v is = is
born_stays (news.Voted k said) st v is = is
born_stays (news.Applied p) st v is = is
born_stays (news.Freed p) st v is = is
born_stays (news.Decided commit) st v is = is

pending_born : (through : Bool) (born : Option Version) (v : Version) → (if through then None else born) ≡ Some v → born ≡ Some v
pending_born true born v is = absurd (cc is)
pending_born false born v is = is

one_version : (n : StateNews) (tree : Tree) (old y : TreeState) (v w : Version) → y ≡ state_with n old → pending_version tree old ≡ Some v
    → pending_version tree y ≡ Some w → v ≡ w
one_version n tree old y v w is first last =
    let one : y.born ≡ Some v
    = ap (λ (st : TreeState). st.born) is ∙ born_stays n old v (pending_born (is_through tree old) old.born v first) in
    let two : y.born ≡ Some w = pending_born (is_through tree y) y.born w last in
    let same : Some v ≡ Some w = sym one ∙ two in
    cc

-- one tree's state is changed
unwhole_set : (r : Bool) (v : ℕ) (trees : List Tree) (states : List TreeState) (t : ℕ) (y : TreeState) → t < length states
    → unwhole_of r v trees (slice_set states t y) + pends r v (reads_at trees t) (pending_at trees states t)
    ≡ unwhole_of r v trees states + pends r v (reads_at trees t) (pending_at trees (slice_set states t y) t)
unwhole_set r v [] states t y lt = refl
unwhole_set r v (tree ∷ trees) [] t y lt = absurd (omega (arith, lt))
unwhole_set r v (tree ∷ trees) (st ∷ states) zero y lt = omega arith
unwhole_set r v (tree ∷ trees) (st ∷ states) (suc t) y lt =
    let rest = unwhole_set r v trees states t y (omega (arith, lt)) in omega (arith, rest)

-- a tree that isn't whole is among those that aren't
among_unwhole : (r : Bool) (v : ℕ) (trees : List Tree) (states : List TreeState) (t : ℕ) → t < length states
    → pends r v (reads_at trees t) (pending_at trees states t) ≤ unwhole_of r v trees states + pends r v false None
among_unwhole r v [] states t lt = omega arith
among_unwhole r v (tree ∷ trees) [] t lt = absurd (omega (arith, lt))
among_unwhole r v (tree ∷ trees) (st ∷ states) zero lt = omega arith
among_unwhole r v (tree ∷ trees) (st ∷ states) (suc t) lt =
    let rest = among_unwhole r v trees states t (omega (arith, lt)) in omega (arith, rest)

-- what stands at a place doesn't depend on what would be there otherwise
there_same : {A : Type 0} (xs : List A) (t : ℕ) (d e : A) → t < length xs → get_or xs t d ≡ get_or xs t e
there_same xs t d e lt =
    let one = slice_get-get_or xs t d lt in
    let two = slice_get-get_or xs t e lt in
    let same : Some (get_or xs t d) ≡ Some (get_or xs t e) = sym one ∙ two in cc

abbrev pending_found : Option Tree → TreeState → Option Version
pending_found found st = elim found [ Some tree ↦ pending_version tree st | None ↦ None ]

one_version_at : (n : StateNews) (found : Option Tree) (old y : TreeState) (v w : Version) → y ≡ state_with n old
    → pending_found found old ≡ Some v → pending_found found y ≡ Some w → v ≡ w
one_version_at n None old y v w is first last = absurd (cc first)
one_version_at n (Some tree) old y v w is first last = one_version n tree old y v w is first last

-- the counts stay right
pub told_counts : (n : StateNews) (trees : List Tree) (states : List TreeState) (t : ℕ) (old y : TreeState) (own : Bool)
    (before after : Option Version) (ps qs : List Pending) → t < length states
    → old ≡ get_or states t old → y ≡ state_with n old → own ≡ reads_at trees t → before ≡ pending_at trees states t
    → after ≡ pending_at trees (slice_set states t y) t
    → (MayRecount own before after ps → (r : Bool) (v : ℕ)
    → pending_of r v qs + pends r v own before ≡ pending_of r v ps + pends r v own after)
    → AreCounted trees states ps → AreCounted trees (slice_set states t y) qs
told_counts n trees states t old y own before after ps qs lt here is reads first last counts counted r v =
    let was : state_at states t ≡ old = there_same states t first_state old lt ∙ sym here in
    let now : state_at (slice_set states t y) t ≡ y = get_or-set_same states t y first_state lt in
    let one : before ≡ pending_found (slice_get trees t) old = first ∙ ap (pending_found (slice_get trees t)) was in
    let two : after ≡ pending_found (slice_get trees t) y = last ∙ ap (pending_found (slice_get trees t)) now in
    let may : MayRecount own before after ps = record {
      counted = λ r v.
          let same : pends r v own before ≡ pends r v (reads_at trees t) (pending_at trees states t) = (λ i. pends r v (reads i) (first i)) in
          let none = pends_none r false v in
          omega (arith, same, none, among_unwhole r v trees states t lt, counted r v);
      stays = λ v w so then_so. one_version_at n (slice_get trees t) old y v w is (sym one ∙ so) (sym two ∙ then_so);
    } in
    let eq = counts may r v in
    let set = unwhole_set r v trees states t y lt in
    let same : pends r v own before ≡ pends r v (reads_at trees t) (pending_at trees states t) = (λ i. pends r v (reads i) (first i)) in
    let next : pends r v own after ≡ pends r v (reads_at trees t) (pending_at trees (slice_set states t y) t)
    = (λ i. pends r v (reads i) (last i)) in
    omega (arith, eq, set, same, next, counted r v)

-- a state that was told and taken back, where another change failed
pub told_failed : (n : StateNews) (states : List TreeState) (t : ℕ) (old y again z : TreeState) (was : StateWas) → t < length states
    → old ≡ get_or states t old → y ≡ state_with n old → was ≡ state_was n old
    → again ≡ get_or (slice_set states t y) t again → z ≡ state_back was again
    → slice_set (slice_set states t y) t z ≡ states
told_failed n states t old y again z was lt here is so there back =
    let same : again ≡ y = there ∙ get_or-set_same states t y again lt in
    ap (λ (one : TreeState). slice_set (slice_set states t y) t one) (back ∙ ap (state_back was) same)
    ∙ told_state_back n states t old y was here is so
