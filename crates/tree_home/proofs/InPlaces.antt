-- What the places of a table mean, and how a change of places and of their numbers changes it.
use Rattle.std.proofs.Common.{◌≡◌, ℕ, zero, suc, ◌+◌, ◌<◌, ◌≤◌, List, [], ◌∷◌, length, get_or, set, refl, ap, sym, subst, ◌∙◌, arith, false, true, Option, Some, None, inl, inr}
use Rattle.std.specs.Prelude.{IsSome, OnErr, Result, Ok, Err, slice_get}
use Rattle.std.specs.List.{All}
use Rattle.std.proofs.Math.Path.{fun_ext}
use Rattle.std.proofs.lemmas.Bool.{cases_eq, eq-eqb, ne_eqb}
use Rattle.std.proofs.lemmas.List.{get_or-set_other, get_or-set_same, length-set}
use Rattle.std.proofs.lemmas.List.Elements.{All-cons, All-nil, All-weaker}
use Rattle.std.proofs.lemmas.Option.{same_Some}
use Rattle.tv_base.specs.declared.numbers.TreeNo.{TreeNo}
use Rattle.tree_home.specs.declared.homes.OpenTree.{OpenTree}
use Rattle.tree_home.specs.declared.table.TreePlace.{TreePlace}
use Rattle.tree_home.specs.Maps.{AreAscending, by_tree, put_at}
use Rattle.tree_home.specs.Places.{IsTreeTable, opened_at, opened_by, opened_in, placed_tree, table_entries, tree_at, tree_of_place, with_entry}
use Rattle.tree_home.proofs.Ascending.{same_entries}
use Rattle.tree_home.proofs.Maps.{put_at-other}

-- an entry, and the others
entry-other : (k j : ℕ) (o : Option OpenTree) (es : List (TreeNo × OpenTree)) → (k ≡ j → ⊥)
    → by_tree (with_entry k o es) j ≡ by_tree es j
entry-other k j None es ne = refl
entry-other k j (Some h) es ne = rw (ne_eqb k j ne) refl

entry-here : (k j : ℕ) (o : Option OpenTree) (es : List (TreeNo × OpenTree)) → k ≡ j → by_tree es j ≡ None
    → by_tree (with_entry k o es) j ≡ o
entry-here k j None es eq none = none
entry-here k j (Some h) es eq none = rw (eq-eqb k j eq) refl

none-under : (k j : ℕ) (is : List ℕ) (ps : List TreePlace) → j < k → by_tree (table_entries k is ps) j ≡ None
none-under k j [] ps lt = refl
none-under k j (i ∷ is) ps lt =
    entry-other k j (opened_at ps i) (table_entries (suc k) is ps) (λ e. omega arith)
    ∙ none-under (suc k) j is ps (omega arith)

by-number : (k d j : ℕ) (is : List ℕ) (ps : List TreePlace) → k + d ≡ j
    → by_tree (table_entries k is ps) j ≡ opened_at ps (get_or is d 0)
by-number k d j [] ps sum = refl
by-number k zero j (i ∷ is) ps sum =
    entry-here k j (opened_at ps i) (table_entries (suc k) is ps) (omega arith)
    (none-under (suc k) j is ps (omega arith))
by-number k (suc d) j (i ∷ is) ps sum =
    entry-other k j (opened_at ps i) (table_entries (suc k) is ps) (λ e. omega arith)
    ∙ by-number (suc k) d j is ps (omega arith)

-- the entries have for each tree what is open by its number
pub found_by : (is : List ℕ) (ps : List TreePlace) → by_tree (table_entries 0 is ps) ≡ opened_by is ps
found_by is ps = fun_ext (λ j. by-number 0 j j is ps (omega arith))

-- their numbers ascend
cons-at : (e : TreeNo × OpenTree) (es : List (TreeNo × OpenTree)) → All (λ f. e.0.0 < f.0.0) es → AreAscending es
    → (i j : ℕ) (d : TreeNo × OpenTree) → i < j → j < length (e ∷ es)
    → (get_or (e ∷ es) i d).0.0 < (get_or (e ∷ es) j d).0.0
cons-at e es all up i zero d lt within = absurd (omega arith)
cons-at e es all up zero (suc j) d lt within = all j d (omega arith)
cons-at e es all up (suc i) (suc j) d lt within = up i j d (omega arith) (omega arith)

entry-ascends : (k : ℕ) (o : Option OpenTree) (es : List (TreeNo × OpenTree)) → All (λ f. k < f.0.0) es
    → AreAscending es → AreAscending (with_entry k o es)
entry-ascends k None es all up = up
entry-ascends k (Some h) es all up = λ i j d lt within. cons-at (record { 0 = k }, h) es all up i j d lt within

entry-all : (k : ℕ) (o : Option OpenTree) (es : List (TreeNo × OpenTree)) → All (λ f. k < f.0.0) es
    → All (λ f. k ≤ f.0.0) (with_entry k o es)
entry-all k None es all =
    let P : (TreeNo × OpenTree) → Type 0 = λ f. k < f.0.0 in
    let Q : (TreeNo × OpenTree) → Type 0 = λ f. k ≤ f.0.0 in
    All-weaker P Q (λ f lt. omega arith) es all
entry-all k (Some h) es all =
    let P : (TreeNo × OpenTree) → Type 0 = λ f. k < f.0.0 in
    let Q : (TreeNo × OpenTree) → Type 0 = λ f. k ≤ f.0.0 in
    All-cons Q (record { 0 = k }, h) es (omega arith) (All-weaker P Q (λ f lt. omega arith) es all)

all-above : (k : ℕ) (es : List (TreeNo × OpenTree)) → All (λ f. suc k ≤ f.0.0) es → All (λ f. k < f.0.0) es
all-above k es all =
    let P : (TreeNo × OpenTree) → Type 0 = λ f. suc k ≤ f.0.0 in
    let Q : (TreeNo × OpenTree) → Type 0 = λ f. k < f.0.0 in
    All-weaker P Q (λ f le. omega arith) es all

all-from : (k : ℕ) (is : List ℕ) (ps : List TreePlace) → All (λ f. k ≤ f.0.0) (table_entries k is ps)
all-from k [] ps = All-nil (λ (f : TreeNo × OpenTree). k ≤ f.0.0)
all-from k (i ∷ is) ps =
    entry-all k (opened_at ps i) (table_entries (suc k) is ps)
    (all-above k (table_entries (suc k) is ps) (all-from (suc k) is ps))

ascends-from : (k : ℕ) (is : List ℕ) (ps : List TreePlace) → AreAscending (table_entries k is ps)
ascends-from k [] ps = λ i j d lt within. absurd (omega arith)
ascends-from k (i ∷ is) ps =
    entry-ascends k (opened_at ps i) (table_entries (suc k) is ps)
    (all-above k (table_entries (suc k) is ps) (all-from (suc k) is ps)) (ascends-from (suc k) is ps)

pub table-ascends : (is : List ℕ) (ps : List TreePlace) → AreAscending (table_entries 0 is ps)
table-ascends is ps = ascends-from 0 is ps

pub view-ascends : (is : List ℕ) (ps : List TreePlace) (es : List (TreeNo × OpenTree)) → table_entries 0 is ps ≡ es
    → AreAscending es
view-ascends is ps es view =
    subst (λ (es : List (TreeNo × OpenTree)). AreAscending es) view (table-ascends is ps)

-- if the same is open of each tree, the entries are the same
same_table : (is js : List ℕ) (ps qs : List TreePlace) → opened_by js qs ≡ opened_by is ps
    → table_entries 0 js qs ≡ table_entries 0 is ps
same_table is js ps qs same =
    same_entries (table_entries 0 js qs) (table_entries 0 is ps) (table-ascends js qs) (table-ascends is ps)
    (found_by js qs ∙ same ∙ sym (found_by is ps))

-- the tree of a place
place-here : (o : Option TreePlace) (t : ℕ) → tree_of_place o ≡ Some t → (x : TreePlace) × (o ≡ Some x)
place-here None t is = absurd (let no : None ≡ Some t = is in cc)
place-here (Some x) t is = (x, refl)

same_tree : (o : Option ℕ) (t u : ℕ) → o ≡ Some t → o ≡ Some u → t ≡ u
same_tree o t u a b = same_Some t u (sym a ∙ b)

-- what isn't open has no place
absent-by : (is : List ℕ) (ps : List TreePlace) (n t k : ℕ) → IsTreeTable is ps n → get_or is t 0 ≡ k
    → opened_at ps k ≡ None → k ≡ 0
absent-by is ps n t zero table at none = refl
absent-by is ps n t (suc p) table at none =
    let (x, here) = place-here (slice_get ps p) t (table.placed t p at).1 in
    absurd (let no : Some x.opened ≡ None = sym (ap opened_in here) ∙ none in cc)

absent_number : (is : List ℕ) (ps : List TreePlace) (n t : ℕ) → IsTreeTable is ps n → opened_by is ps t ≡ None
    → get_or is t 0 ≡ 0
absent_number is ps n t table none = absent-by is ps n t (get_or is t 0) table refl none

-- what is open has one
there-by : (is : List ℕ) (ps : List TreePlace) (t k : ℕ) → get_or is t 0 ≡ k → IsSome (opened_at ps k)
    → (p : ℕ) × (get_or is t 0 ≡ suc p)
there-by is ps t zero at some = absurd (let no : false ≡ true = some in cc)
there-by is ps t (suc p) at some = (p, at)

there_number : (is : List ℕ) (ps : List TreePlace) (t : ℕ) → IsSome (opened_by is ps t)
    → (p : ℕ) × (get_or is t 0 ≡ suc p)
there_number is ps t some = there-by is ps t (get_or is t 0) refl some

-- a number that isn't 0 is in the index
pub in_index : (is : List ℕ) (t p : ℕ) → get_or is t 0 ≡ suc p → t < length is
in_index [] t p at = absurd (omega arith)
in_index (i ∷ is) zero p at = omega arith
in_index (i ∷ is) (suc t) p at = let rest = in_index is t p at in omega arith

-- the number of places that are kept may change, and the index may get longer
pub record SameInUse (is js : List ℕ) (ps qs : List TreePlace) (n : ℕ) : Type 0 where
  pub numbers : (t : ℕ) → get_or js t 0 ≡ get_or is t 0
  pub places : (p : ℕ) → p < n → slice_get qs p ≡ slice_get ps p
  pub long : n ≤ length qs

same-at : (is js : List ℕ) (ps qs : List TreePlace) (n t k : ℕ) → IsTreeTable is ps n → SameInUse is js ps qs n
    → get_or is t 0 ≡ k → opened_at qs k ≡ opened_at ps k
same-at is js ps qs n t zero table same at = refl
same-at is js ps qs n t (suc p) table same at = ap opened_in (same.places p (table.placed t p at).0)

same_in_use : (is js : List ℕ) (ps qs : List TreePlace) (n : ℕ) → IsTreeTable is ps n → SameInUse is js ps qs n
    → IsTreeTable js qs n × (opened_by js qs ≡ opened_by is ps)
same_in_use is js ps qs n table same = (
  record {
    within = same.long;
    placed = λ t p at.
        let (lt, tree) = table.placed t p (sym (same.numbers t) ∙ at) in
        (lt, ap tree_of_place (same.places p lt) ∙ tree);
    listed = λ t p lt tree.
        same.numbers t ∙ table.listed t p lt (sym (ap tree_of_place (same.places p lt)) ∙ tree);
  },
  fun_ext (λ t. ap (opened_at qs) (same.numbers t) ∙ same-at is js ps qs n t (get_or is t 0) table same refl),
)

pub kept_all : (is js : List ℕ) (ps qs : List TreePlace) (n : ℕ) (es : List (TreeNo × OpenTree)) → IsTreeTable is ps n
    → SameInUse is js ps qs n → table_entries 0 is ps ≡ es → IsTreeTable js qs n × (table_entries 0 js qs ≡ es)
kept_all is js ps qs n es table same view =
    let both = same_in_use is js ps qs n table same in
    (both.0, same_table is js ps qs both.1 ∙ view)

put_at-here : {X : Type 0} (k j : ℕ) (x : X) (f : ℕ → X) → j ≡ k → put_at k x f j ≡ x
put_at-here k j x f eq = rw (eq-eqb j k eq) refl

-- a tree is opened in the first place that isn't in use
record IsFilled (is js : List ℕ) (ps qs : List TreePlace) (n : ℕ) (t : TreeNo) (h : OpenTree) : Type 0 where
  pub absent : get_or is t.0 0 ≡ 0
  pub number : get_or js t.0 0 ≡ suc n
  pub numbers : (u : ℕ) → (u ≡ t.0 → ⊥) → get_or js u 0 ≡ get_or is u 0
  pub place : slice_get qs n ≡ Some (placed_tree t h)
  pub places : (p : ℕ) → p < n → slice_get qs p ≡ slice_get ps p
  pub long : n < length qs

filled-placed : (is js : List ℕ) (ps qs : List TreePlace) (n : ℕ) (t : TreeNo) (h : OpenTree) → IsTreeTable is ps n
    → IsFilled is js ps qs n t h → (u p : ℕ) → get_or js u 0 ≡ suc p → (p < suc n) × (tree_at qs p ≡ Some u)
filled-placed is js ps qs n t h table f u p at =
    elim (cases_eq u t.0) [
      | inl eq ↦
          let at' : get_or js t.0 0 ≡ suc p = sym (ap (λ v. get_or js v 0) eq) ∙ at in
          let num = f.number in
          let here : p ≡ n = omega arith in
          (omega arith, ap (tree_at qs) here ∙ ap tree_of_place f.place ∙ ap Some (sym eq))
      | inr ne ↦
          let (lt, tree) = table.placed u p (sym (f.numbers u ne) ∙ at) in
          (omega arith, ap tree_of_place (f.places p lt) ∙ tree)
    ]

filled-listed : (is js : List ℕ) (ps qs : List TreePlace) (n : ℕ) (t : TreeNo) (h : OpenTree) → IsTreeTable is ps n
    → IsFilled is js ps qs n t h → (u p : ℕ) → p < suc n → tree_at qs p ≡ Some u → get_or js u 0 ≡ suc p
filled-listed is js ps qs n t h table f u p lt tree =
    elim (cases_eq p n) [
      | inl eq ↦
          let here : u ≡ t.0 =
          same_tree (tree_at qs n) u t.0 (sym (ap (tree_at qs) eq) ∙ tree) (ap tree_of_place f.place) in
          ap (λ v. get_or js v 0) here ∙ f.number ∙ ap suc (sym eq)
      | inr ne ↦
          let lt' : p < n = omega arith in
          let was : get_or is u 0 ≡ suc p = table.listed u p lt' (sym (ap tree_of_place (f.places p lt')) ∙ tree) in
          let none = f.absent in
          let other : u ≡ t.0 → ⊥ = λ eq.
          let no : get_or is t.0 0 ≡ suc p = sym (ap (λ v. get_or is v 0) eq) ∙ was in omega arith in
          f.numbers u other ∙ was
    ]

filled-at : (is js : List ℕ) (ps qs : List TreePlace) (n : ℕ) (t : TreeNo) (h : OpenTree) (u k : ℕ)
    → IsTreeTable is ps n → IsFilled is js ps qs n t h → get_or is u 0 ≡ k → opened_at qs k ≡ opened_at ps k
filled-at is js ps qs n t h u zero table f at = refl
filled-at is js ps qs n t h u (suc p) table f at = ap opened_in (f.places p (table.placed u p at).0)

filled-opened : (is js : List ℕ) (ps qs : List TreePlace) (n : ℕ) (t : TreeNo) (h : OpenTree) → IsTreeTable is ps n
    → IsFilled is js ps qs n t h → (u : ℕ) → opened_by js qs u ≡ put_at t.0 (Some h) (opened_by is ps) u
filled-opened is js ps qs n t h table f u =
    elim (cases_eq u t.0) [
      | inl eq ↦
          ap (opened_at qs) (ap (λ v. get_or js v 0) eq ∙ f.number) ∙ ap opened_in f.place
          ∙ sym (put_at-here t.0 u (Some h) (opened_by is ps) eq)
      | inr ne ↦
          ap (opened_at qs) (f.numbers u ne) ∙ filled-at is js ps qs n t h u (get_or is u 0) table f refl
          ∙ sym (put_at-other t.0 u (Some h) (opened_by is ps) ne)
    ]

filled : (is js : List ℕ) (ps qs : List TreePlace) (n : ℕ) (t : TreeNo) (h : OpenTree) → IsTreeTable is ps n
    → IsFilled is js ps qs n t h
    → IsTreeTable js qs (suc n) × (opened_by js qs ≡ put_at t.0 (Some h) (opened_by is ps))
filled is js ps qs n t h table f = (
  record {
    within = f.long;
    placed = filled-placed is js ps qs n t h table f;
    listed = filled-listed is js ps qs n t h table f;
  },
  fun_ext (filled-opened is js ps qs n t h table f),
)

-- a tree is closed, and the last place that was in use takes the stead of its place
record IsClosed (is js : List ℕ) (ps qs : List TreePlace) (n t p m : ℕ) : Type 0 where
  pub at : get_or is t 0 ≡ suc p
  pub last : tree_at ps n ≡ Some m
  pub gone : get_or js t 0 ≡ 0
  pub moved : (m ≡ t → ⊥) → get_or js m 0 ≡ suc p
  pub numbers : (u : ℕ) → (u ≡ t → ⊥) → (u ≡ m → ⊥) → get_or js u 0 ≡ get_or is u 0
  pub place : (p ≡ n → ⊥) → slice_get qs p ≡ slice_get ps n
  pub places : (q : ℕ) → (q ≡ p → ⊥) → (q ≡ n → ⊥) → slice_get qs q ≡ slice_get ps q
  pub long : n ≤ length qs

-- the last place is another's where its tree is
apart-place : (is js : List ℕ) (ps qs : List TreePlace) (n t p m : ℕ) → IsTreeTable is ps (suc n)
    → IsClosed is js ps qs n t p m → (m ≡ t → ⊥) → p ≡ n → ⊥
apart-place is js ps qs n t p m table c ne eq =
    ne (same_tree (tree_at ps n) m t c.last (sym (ap (tree_at ps) eq) ∙ (table.placed t p c.at).1))

apart-tree : (is js : List ℕ) (ps qs : List TreePlace) (n t p m : ℕ) → IsTreeTable is ps (suc n)
    → IsClosed is js ps qs n t p m → (p ≡ n → ⊥) → m ≡ t → ⊥
apart-tree is js ps qs n t p m table c ne eq =
    let number = table.listed m n (omega arith) c.last in
    let no : get_or is t 0 ≡ suc n = sym (ap (λ v. get_or is v 0) eq) ∙ number in
    let at = c.at in
    ne (omega arith)

closed-placed : (is js : List ℕ) (ps qs : List TreePlace) (n t p m : ℕ) → IsTreeTable is ps (suc n)
    → IsClosed is js ps qs n t p m → (u q : ℕ) → get_or js u 0 ≡ suc q → (q < n) × (tree_at qs q ≡ Some u)
closed-placed is js ps qs n t p m table c u q at =
    elim (cases_eq u t) [
      | inl eq ↦
          let no : get_or js t 0 ≡ suc q = sym (ap (λ v. get_or js v 0) eq) ∙ at in
          let gone = c.gone in
          absurd (omega arith)
      | inr ne ↦
          elim (cases_eq u m) [
            | inl eq ↦
                let other : m ≡ t → ⊥ = λ is. ne (eq ∙ is) in
                let moved = c.moved other in
                let at' : get_or js m 0 ≡ suc q = sym (ap (λ v. get_or js v 0) eq) ∙ at in
                let here : q ≡ p = omega arith in
                let apart = apart-place is js ps qs n t p m table c other in
                let within = (table.placed t p c.at).0 in
                (omega arith, ap (tree_at qs) here ∙ ap tree_of_place (c.place apart) ∙ c.last ∙ ap Some (sym eq))
            | inr ne' ↦
                let (within, tree) = table.placed u q (sym (c.numbers u ne ne') ∙ at) in
                let first : q ≡ p → ⊥ = λ eq.
                ne (same_tree (tree_at ps q) u t tree (ap (tree_at ps) eq ∙ (table.placed t p c.at).1)) in
                let last : q ≡ n → ⊥ = λ eq.
                ne' (same_tree (tree_at ps q) u m tree (ap (tree_at ps) eq ∙ c.last)) in
                (omega arith, ap tree_of_place (c.places q first last) ∙ tree)
          ]
    ]

closed-listed : (is js : List ℕ) (ps qs : List TreePlace) (n t p m : ℕ) → IsTreeTable is ps (suc n)
    → IsClosed is js ps qs n t p m → (u q : ℕ) → q < n → tree_at qs q ≡ Some u → get_or js u 0 ≡ suc q
closed-listed is js ps qs n t p m table c u q lt tree =
    elim (cases_eq q p) [
      | inl eq ↦
          let apart : p ≡ n → ⊥ = λ is. omega arith in
          let here : u ≡ m =
          same_tree (tree_at qs q) u m tree (ap (tree_at qs) eq ∙ ap tree_of_place (c.place apart) ∙ c.last) in
          ap (λ v. get_or js v 0) here ∙ c.moved (apart-tree is js ps qs n t p m table c apart) ∙ ap suc (sym eq)
      | inr ne ↦
          let apart : q ≡ n → ⊥ = λ is. omega arith in
          let was = table.listed u q (omega arith) (sym (ap tree_of_place (c.places q ne apart)) ∙ tree) in
          let first : u ≡ t → ⊥ = λ eq.
          let no : get_or is t 0 ≡ suc q = sym (ap (λ v. get_or is v 0) eq) ∙ was in
          let at = c.at in
          ne (omega arith) in
          let last : u ≡ m → ⊥ = λ eq.
          let no : get_or is m 0 ≡ suc q = sym (ap (λ v. get_or is v 0) eq) ∙ was in
          let number = table.listed m n (omega arith) c.last in
          apart (omega arith) in
          c.numbers u first last ∙ was
    ]

closed-at : (is js : List ℕ) (ps qs : List TreePlace) (n t p m u k : ℕ) → IsTreeTable is ps (suc n)
    → IsClosed is js ps qs n t p m → (u ≡ t → ⊥) → (u ≡ m → ⊥) → get_or is u 0 ≡ k
    → opened_at qs k ≡ opened_at ps k
closed-at is js ps qs n t p m u zero table c ne ne' at = refl
closed-at is js ps qs n t p m u (suc q) table c ne ne' at =
    let tree = (table.placed u q at).1 in
    let first : q ≡ p → ⊥ = λ eq.
    ne (same_tree (tree_at ps q) u t tree (ap (tree_at ps) eq ∙ (table.placed t p c.at).1)) in
    let last : q ≡ n → ⊥ = λ eq. ne' (same_tree (tree_at ps q) u m tree (ap (tree_at ps) eq ∙ c.last)) in
    ap opened_in (c.places q first last)

closed-opened : (is js : List ℕ) (ps qs : List TreePlace) (n t p m : ℕ) → IsTreeTable is ps (suc n)
    → IsClosed is js ps qs n t p m → (u : ℕ) → opened_by js qs u ≡ put_at t None (opened_by is ps) u
closed-opened is js ps qs n t p m table c u =
    elim (cases_eq u t) [
      | inl eq ↦
          ap (opened_at qs) (ap (λ v. get_or js v 0) eq ∙ c.gone) ∙ sym (put_at-here t u None (opened_by is ps) eq)
      | inr ne ↦
          elim (cases_eq u m) [
            | inl eq ↦
                let other : m ≡ t → ⊥ = λ is. ne (eq ∙ is) in
                let apart = apart-place is js ps qs n t p m table c other in
                let number = table.listed m n (omega arith) c.last in
                ap (opened_at qs) (ap (λ v. get_or js v 0) eq ∙ c.moved other) ∙ ap opened_in (c.place apart)
                ∙ sym (ap (opened_at ps) (ap (λ v. get_or is v 0) eq ∙ number))
                ∙ sym (put_at-other t u None (opened_by is ps) ne)
            | inr ne' ↦
                ap (opened_at qs) (c.numbers u ne ne')
                ∙ closed-at is js ps qs n t p m u (get_or is u 0) table c ne ne' refl
                ∙ sym (put_at-other t u None (opened_by is ps) ne)
          ]
    ]

closed : (is js : List ℕ) (ps qs : List TreePlace) (n t p m : ℕ) → IsTreeTable is ps (suc n)
    → IsClosed is js ps qs n t p m
    → IsTreeTable js qs n × (opened_by js qs ≡ put_at t None (opened_by is ps))
closed is js ps qs n t p m table c = (
  record {
    within = c.long;
    placed = closed-placed is js ps qs n t p m table c;
    listed = closed-listed is js ps qs n t p m table c;
  },
  fun_ext (closed-opened is js ps qs n t p m table c),
)

-- what is open in a place changes
pub record IsChangedIn (ps qs : List TreePlace) (p : ℕ) (o : Option OpenTree) : Type 0 where
  pub place : opened_in (slice_get qs p) ≡ o
  pub tree : tree_at qs p ≡ tree_at ps p
  pub places : (q : ℕ) → (q ≡ p → ⊥) → slice_get qs q ≡ slice_get ps q
  pub long : length qs ≡ length ps

trees-stay : (ps qs : List TreePlace) (p : ℕ) (o : Option OpenTree) → IsChangedIn ps qs p o → (q : ℕ)
    → tree_at qs q ≡ tree_at ps q
trees-stay ps qs p o c q =
    elim (cases_eq q p) [
      | inl eq ↦ ap (tree_at qs) eq ∙ c.tree ∙ sym (ap (tree_at ps) eq)
      | inr ne ↦ ap tree_of_place (c.places q ne)
    ]

changed-at : (is : List ℕ) (ps qs : List TreePlace) (n t p u k : ℕ) (o : Option OpenTree) → IsTreeTable is ps n
    → get_or is t 0 ≡ suc p → IsChangedIn ps qs p o → (u ≡ t → ⊥) → get_or is u 0 ≡ k
    → opened_at qs k ≡ opened_at ps k
changed-at is ps qs n t p u zero o table at c ne here = refl
changed-at is ps qs n t p u (suc q) o table at c ne here =
    let first : q ≡ p → ⊥ = λ eq.
    ne (same_tree (tree_at ps q) u t (table.placed u q here).1 (ap (tree_at ps) eq ∙ (table.placed t p at).1)) in
    ap opened_in (c.places q first)

changed-opened : (is : List ℕ) (ps qs : List TreePlace) (n t p : ℕ) (o : Option OpenTree) → IsTreeTable is ps n
    → get_or is t 0 ≡ suc p → IsChangedIn ps qs p o → (u : ℕ)
    → opened_by is qs u ≡ put_at t o (opened_by is ps) u
changed-opened is ps qs n t p o table at c u =
    elim (cases_eq u t) [
      | inl eq ↦
          ap (opened_at qs) (ap (λ v. get_or is v 0) eq ∙ at) ∙ c.place
          ∙ sym (put_at-here t u o (opened_by is ps) eq)
      | inr ne ↦
          changed-at is ps qs n t p u (get_or is u 0) o table at c ne refl
          ∙ sym (put_at-other t u o (opened_by is ps) ne)
    ]

pub changed_in : (is : List ℕ) (ps qs : List TreePlace) (n t p : ℕ) (o : Option OpenTree) → IsTreeTable is ps n
    → get_or is t 0 ≡ suc p → IsChangedIn ps qs p o
    → IsTreeTable is qs n × (opened_by is qs ≡ put_at t o (opened_by is ps))
changed_in is ps qs n t p o table at c = (
  record {
    within = let within = table.within in let long = c.long in omega arith;
    placed = λ u q here. let (lt, tree) = table.placed u q here in (lt, trees-stay ps qs p o c q ∙ tree);
    listed = λ u q lt tree. table.listed u q lt (sym (trees-stay ps qs p o c q) ∙ tree);
  },
  fun_ext (changed-opened is ps qs n t p o table at c),
)

-- by what contracts see of a table, a tree that is open has a place in use
pub view_by : (is : List ℕ) (ps : List TreePlace) (es : List (TreeNo × OpenTree)) → table_entries 0 is ps ≡ es
    → by_tree es ≡ opened_by is ps
view_by is ps es view = sym (ap (λ (es : List (TreeNo × OpenTree)). by_tree es) view) ∙ found_by is ps

pub record IsInUse (is : List ℕ) (ps : List TreePlace) (n t number : ℕ) : Type 0 where
  pub place : ℕ
  pub number_is : number ≡ suc place
  pub at : get_or is t 0 ≡ suc place
  pub in_use : place < n
  pub within : place < length ps
  pub listed : t < length is

pub there : (is : List ℕ) (ps : List TreePlace) (n t number : ℕ) (es : List (TreeNo × OpenTree)) → IsTreeTable is ps n
    → table_entries 0 is ps ≡ es → IsSome (by_tree es t) → number ≡ get_or is t 0 → IsInUse is ps n t number
there is ps n t number es table view some num =
    let some' : IsSome (opened_by is ps t) =
    subst (λ (hs : ℕ → Option OpenTree). IsSome (hs t)) (view_by is ps es view) some in
    let (p, at) = there_number is ps t some' in
    let lt = (table.placed t p at).0 in
    let within = table.within in
    record {
      place = p;
      number_is = num ∙ at;
      at = at;
      in_use = lt;
      within = omega arith;
      listed = in_index is t p at;
    }

pub there_opened : (is : List ℕ) (ps : List TreePlace) (t p : ℕ) (es : List (TreeNo × OpenTree))
    → table_entries 0 is ps ≡ es → get_or is t 0 ≡ suc p → by_tree es t ≡ opened_in (slice_get ps p)
there_opened is ps t p es view at =
    ap (λ (hs : ℕ → Option OpenTree). hs t) (view_by is ps es view) ∙ ap (opened_at ps) at

-- a tree that isn't open is opened
pub open_all : (is js : List ℕ) (ps rs qs : List TreePlace) (n : ℕ) (t : TreeNo) (h : OpenTree) → IsTreeTable is ps n
    → SameInUse is js ps rs n → t.0 < length js → n < length rs → opened_by is ps t.0 ≡ None
    → slice_get qs n ≡ Some (placed_tree t h)
    → ((p : ℕ) → (p ≡ n → ⊥) → slice_get qs p ≡ slice_get rs p) → length qs ≡ length rs
    → IsTreeTable (set js t.0 (n + 1)) qs (n + 1)
    × (opened_by (set js t.0 (n + 1)) qs ≡ put_at t.0 (Some h) (opened_by is ps))
open_all is js ps rs qs n t h table same listed within none place others long =
    let next : suc n ≡ n + 1 = omega arith in
    let ks = set js t.0 (n + 1) in
    let all = filled is ks ps qs n t h table (record {
      absent = absent_number is ps n t.0 table none;
      number = get_or-set_same js t.0 (n + 1) 0 listed ∙ sym next;
      numbers = λ u ne. get_or-set_other js t.0 u (n + 1) 0 ne ∙ same.numbers u;
      place = place;
      places = λ p lt. others p (λ eq. omega arith) ∙ same.places p lt;
      long = omega arith;
    }) in
    (subst (λ k. IsTreeTable ks qs k) next all.0, all.1)

-- a tree that is open is closed, and the last place takes its place
pub close_all : (is : List ℕ) (ps qs : List TreePlace) (used n t number p m : ℕ) → IsTreeTable is ps used
    → used ≡ suc n → number ≡ suc p → get_or is t 0 ≡ suc p → tree_at ps n ≡ Some m
    → ((p ≡ n → ⊥) → slice_get qs p ≡ slice_get ps n)
    → ((q : ℕ) → (q ≡ p → ⊥) → (q ≡ n → ⊥) → slice_get qs q ≡ slice_get ps q) → length qs ≡ length ps
    → IsTreeTable (set (set is m number) t 0) qs n
    × (opened_by (set (set is m number) t 0) qs ≡ put_at t None (opened_by is ps))
close_all is ps qs used n t number p m table more num at last place places long =
    let table' : IsTreeTable is ps (suc n) = subst (λ k. IsTreeTable is ps k) more table in
    let within = table'.within in
    let moved : m < length is = in_index is m n (table'.listed m n (omega arith) last) in
    let listed : t < length is = in_index is t p at in
    let js = set is m number in
    let listed' : t < length js = omega (arith, length-set is m number) in
    closed is (set js t 0) ps qs n t p m table' (record {
      at = at;
      last = last;
      gone = get_or-set_same js t 0 0 listed';
      moved = λ ne. get_or-set_other js t m 0 0 ne ∙ get_or-set_same is m number 0 moved ∙ num;
      numbers = λ u ne ne'. get_or-set_other js t u 0 0 ne ∙ get_or-set_other is m u number 0 ne';
      place = place;
      places = places;
      long = omega arith;
    })

pub err_always : {T E P : Type 0} (r : Result T E) → P → OnErr r P
err_always (Ok x) p = tt
err_always (Err e) p = p
