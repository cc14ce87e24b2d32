-- What the code's searches find: the first operation that stands against a need, the first conflict, the newest version that is
-- written, and the first operation that meets a newer one.
use Rattle.std.proofs.Common.{◌≡◌, inl, inr, ℕ, zero, suc, ◌+◌, ◌<◌, ◌≤◌, Bool, true, false, List, [], ◌∷◌, length, refl, sym, ap, ◌∙◌, arith, Option, Some, None, drop, get_or, max}
use Rattle.std.specs.Prelude.{if◌then◌else◌, ◌&&◌, nat_lt, slice_get}
use Rattle.std.specs.List.{AllByRecursion}
use Rattle.std.specs.Option.{option_map, option_or}
use Rattle.std.proofs.lemmas.Bool.Decides.{nat_tests}
use Rattle.std.proofs.lemmas.List.{drop_all}
use Rattle.tv_base.specs.Sums.{one_if}
use Rattle.tv_base.specs.declared.numbers.TreeNo.{TreeNo}
use Rattle.letter_types.specs.declared.votes.Cause.{Cause}
use Rattle.letter_types.specs.declared.votes.Cause.TheVariants.{Conflict, Newer}
use Rattle.nc_locks.specs.declared.modes.Mode.{Mode}
use Rattle.nc_locks.specs.declared.modes.Mode.TheVariants.{Mark, Look, Hold}
use Rattle.script_parts.specs.Wants.{mode_wanted}
use Rattle.script_parts.specs.Counts.{has_strict, strict_trees}
use Rattle.script_parts.specs.Deeds.{overwrites}
use Rattle.script_parts.specs.ScriptData.{ScriptData, is_strict, is_update}
use Rattle.script_parts.specs.declared.parts.SubOp.{SubOp}
use Rattle.script_parts.specs.declared.parts.Tree.{Tree}
use Rattle.script_parts.specs.declared.parts.TreeKind.{TreeKind}
use Rattle.script_parts.specs.declared.parts.TreeKind.TheVariants.{Update, Read, Strict}
use Rattle.script_parts.proofs.Loading.{rest_at}
use Rattle.board_rules.specs.Histories.{Place, is_strict_tree}
use Rattle.board_rules.specs.Stands.{conflict_of, conflict_with, holder_of, newer_of, newest_of}
use Rattle.board_tallies.specs.Board.{BoardData}
use Rattle.board_judge.specs.declared.users.User.{User}
use Rattle.board_judge.specs.Views.{IsView, MayNeed, UsersData}
use Rattle.board_judge.specs.inside.Users.{first_tree, has_written, is_mark, is_meant, lesser_number, lesser_tree, newer_item, newest_by, stands_against, users_of, version_by}
use Rattle.board_judge.proofs.Holding.{holder_is_first, marks_meet_no_marks}
use Rattle.board_judge.proofs.Newest.{newest_is}

pub all_at : {A : Type 0} (P : A → Type 0) (xs : List A) (i : ℕ) (d : A) → i < length xs → AllByRecursion P xs → P (get_or xs i d)
all_at P [] i d within all = absurd (omega (arith, within))
all_at P (x ∷ xs) zero d within all = all.0
all_at P (x ∷ xs) (suc i) d within all = all_at P xs i d (omega (arith, within)) all.1

-- The first operation that stands.
pub first_found : (test : User → Bool) (us : List User) (i : ℕ) (d : User) (first : Option ℕ) → i < length us → test (get_or us i d) ≡ true
    → first_tree test (drop i us) ≡ first → Some (get_or us i d).tree.0 ≡ first
first_found test us i d first within passes is =
    by (ap (first_tree test) (sym (rest_at us i d within)) ∙ is) where
      by : (if test (get_or us i d) then Some (get_or us i d).tree.0 else first_tree test (drop (i + 1) us)) ≡ first → Some (get_or us i d).tree.0 ≡ first
      by so = rw passes at so

pub first_passed : (test : User → Bool) (us : List User) (i : ℕ) (d : User) (first : Option ℕ) → i < length us → test (get_or us i d) ≡ false
    → first_tree test (drop i us) ≡ first → first_tree test (drop (i + 1) us) ≡ first
first_passed test us i d first within passes is =
    by (ap (first_tree test) (sym (rest_at us i d within)) ∙ is) where
      by : (if test (get_or us i d) then Some (get_or us i d).tree.0 else first_tree test (drop (i + 1) us)) ≡ first → first_tree test (drop (i + 1) us) ≡ first
      by so = rw passes at so

pub first_none : (test : User → Bool) (us : List User) (i : ℕ) (first : Option ℕ) → length us ≤ i → first_tree test (drop i us) ≡ first → None ≡ first
first_none test us i first past is = ap (first_tree test) (sym (drop_all i us past)) ∙ is

-- The holder.

mark_is : (m : Mode) → is_mark m ≡ true → m ≡ Mark
mark_is Mark is = refl
mark_is Look is = absurd (cc is)
mark_is Hold is = absurd (cc is)

no_mark : (s : ScriptData) (m : Mode) → is_mark m ≡ false → MayNeed s m → has_strict s ≡ true
no_mark s Mark is may = absurd (cc is)
no_mark s m is (inr strict) = strict
no_mark s Look is (inl mark) = absurd (cc mark)
no_mark s Hold is (inl mark) = absurd (cc mark)

module _ (s : ScriptData) (xs : List Place) (b : BoardData) (u : UsersData) (view : IsView s xs b u) (p t x : ℕ) (there : x < length s.items) where
  -- what is found among the operations on the item
  abbrev found_in : Mode → Bool → Option ℕ
  found_in mode strict = first_tree (stands_against s xs p t mode) (users_of (is_meant strict) s x)

  strict_here : get_or u.strict x [] ≡ users_of (is_meant true) s x
  strict_here = view.users.strict.each x (let count = view.users.strict.count in omega (arith, count, there))

  updates_here : has_strict s ≡ true → get_or u.updates x [] ≡ users_of (is_meant false) s x
  updates_here has = let users = view.users.updates has in users.each x (let count = users.count in omega (arith, count, there))

  pub marked_holder : (mode : Mode) (strict : Option TreeNo) (us : List User) → is_mark mode ≡ true → us ≡ get_or u.strict x []
      → option_map (λ (k : TreeNo). k.0) strict ≡ first_tree (stands_against s xs p t mode) us
      → option_map (λ (k : TreeNo). k.0) strict ≡ holder_of s xs p t x mode
  marked_holder mode strict us is same one =
      one ∙ ap (first_tree (stands_against s xs p t mode)) (same ∙ strict_here)
      ∙ by mode (mark_is mode is) where
        by : (m : Mode) → m ≡ Mark → found_in m true ≡ holder_of s xs p t x m
        by Mark so =
            sym (ap (λ (o : Option ℕ). lesser_number o (found_in Mark true)) (marks_meet_no_marks s xs p t x view.valid view.run))
            ∙ holder_is_first s xs p t x Mark view.run
        by Look so = absurd (cc so)
        by Hold so = absurd (cc so)

  lesser_is : (a c : Option TreeNo) → option_map (λ (k : TreeNo). k.0) (lesser_tree a c) ≡ lesser_number (option_map (λ (k : TreeNo). k.0) a) (option_map (λ (k : TreeNo). k.0) c)
  lesser_is None c = refl
  lesser_is (Some a) None = refl
  lesser_is (Some a) (Some c) = refl

  pub other_holder : (mode : Mode) (update strict least : Option TreeNo) (us vs : List User) → is_mark mode ≡ false → MayNeed s mode
      → us ≡ get_or u.strict x [] → vs ≡ get_or u.updates x []
      → option_map (λ (k : TreeNo). k.0) strict ≡ first_tree (stands_against s xs p t mode) us
      → option_map (λ (k : TreeNo). k.0) update ≡ first_tree (stands_against s xs p t mode) vs
      → least ≡ lesser_tree update strict
      → option_map (λ (k : TreeNo). k.0) least ≡ holder_of s xs p t x mode
  other_holder mode update strict least us vs is may same so one two last =
      ap (option_map (λ (k : TreeNo). k.0)) last
      ∙ lesser_is update strict
      ∙ ap (λ (o : Option ℕ). lesser_number o (option_map (λ (k : TreeNo). k.0) strict)) (two ∙ ap (first_tree (stands_against s xs p t mode)) (so ∙ updates_here (no_mark s mode is may)))
      ∙ ap (lesser_number (found_in mode false)) (one ∙ ap (first_tree (stands_against s xs p t mode)) (same ∙ strict_here))
      ∙ holder_is_first s xs p t x mode view.run

  pub newest_here : (update strict : ℕ) (us vs : List User) → has_strict s ≡ true → us ≡ get_or u.strict x [] → vs ≡ get_or u.updates x []
      → strict ≡ newest_by s xs p us → update ≡ newest_by s xs p vs → max update strict ≡ newest_of s xs p x
  newest_here update strict us vs has same so one two =
      ap (λ (n : ℕ). max n strict) (two ∙ ap (newest_by s xs p) (so ∙ updates_here has))
      ∙ ap (max (newest_by s xs p (users_of is_update s x))) (one ∙ ap (newest_by s xs p) (same ∙ strict_here))
      ∙ newest_is s xs p x view.run

-- The first conflict.
module _ (s : ScriptData) (xs : List Place) (p t : ℕ) (os : List SubOp) (i : ℕ) (d : SubOp) (m : Mode) (h : Option TreeNo)
    (within : i < length os) (mode : m ≡ mode_wanted (get_or os i d).deed)
    (holder : option_map (λ (k : TreeNo). k.0) h ≡ holder_of s xs p t (get_or os i d).item.0 m) where
  found : option_map (λ (k : TreeNo). k.0) h ≡ holder_of s xs p t (get_or os i d).item.0 (mode_wanted (get_or os i d).deed)
  found = holder ∙ ap (holder_of s xs p t (get_or os i d).item.0) mode

  front : conflict_of s xs p t (drop i os)
      ≡ option_or (conflict_with (get_or os i d).item (option_map (λ (k : TreeNo). k.0) h)) (conflict_of s xs p t (drop (i + 1) os))
  front =
      ap (conflict_of s xs p t) (rest_at os i d within)
      ∙ ap (λ (o : Option ℕ). option_or (conflict_with (get_or os i d).item o) (conflict_of s xs p t (drop (i + 1) os))) (sym found)

  pub conflict_found : (k : TreeNo) (all : Option Cause) → h ≡ Some k → conflict_of s xs p t (drop i os) ≡ all
      → Some (Conflict (get_or os i d).item k) ≡ all
  conflict_found k all is so =
      sym (ap (λ (o : Option TreeNo). option_or (conflict_with (get_or os i d).item (option_map (λ (j : TreeNo). j.0) o)) (conflict_of s xs p t (drop (i + 1) os))) is)
      ∙ sym front ∙ so

  pub conflict_passed : (all : Option Cause) → h ≡ None → conflict_of s xs p t (drop i os) ≡ all → conflict_of s xs p t (drop (i + 1) os) ≡ all
  conflict_passed all is so =
      sym (ap (λ (o : Option TreeNo). option_or (conflict_with (get_or os i d).item (option_map (λ (j : TreeNo). j.0) o)) (conflict_of s xs p t (drop (i + 1) os))) is)
      ∙ sym front ∙ so

-- The newest version.
pub newest_on : (s : ScriptData) (xs : List Place) (p : ℕ) (us : List User) (i : ℕ) (d : User) (old new all : ℕ) → i < length us
    → new ≡ (if has_written s xs p (get_or us i d) then max old (version_by xs (get_or us i d)) else old)
    → max old (newest_by s xs p (drop i us)) ≡ all → max new (newest_by s xs p (drop (i + 1) us)) ≡ all
newest_on s xs p us i d old new all within is so =
    ap (λ (n : ℕ). max n (newest_by s xs p (drop (i + 1) us))) is
    ∙ by (has_written s xs p (get_or us i d)) (version_by xs (get_or us i d)) (newest_by s xs p (drop (i + 1) us))
    ∙ sym (ap (λ (vs : List User). max old (newest_by s xs p vs)) (rest_at us i d within)) ∙ so where
      by : (c : Bool) (v n : ℕ) → max (if c then max old v else old) n ≡ max old (if c then max v n else n)
      by true v n = omega arith
      by false v n = refl

-- A newer version.
newer_front : (s : ScriptData) (xs : List Place) (p v : ℕ) (o : SubOp) (os : List SubOp)
    → newer_of s xs p v (o ∷ os) ≡ option_or (newer_item s xs p v o) (newer_of s xs p v os)
newer_front s xs p v o os = by (overwrites o.deed && nat_lt v (newest_of s xs p o.item.0)) where
  by : (c : Bool) → (if c then Some (Newer o.item (record { 0 = newest_of s xs p o.item.0 })) else newer_of s xs p v os)
      ≡ option_or (if c then Some (Newer o.item (record { 0 = newest_of s xs p o.item.0 })) else None) (newer_of s xs p v os)
  by true = refl
  by false = refl

newer_found : (s : ScriptData) (xs : List Place) (p v : ℕ) (os : List SubOp) (i : ℕ) (d : SubOp) (one all : Option Cause) → i < length os
    → one ≡ newer_item s xs p v (get_or os i d) → newer_of s xs p v (drop i os) ≡ all
    → option_or one (newer_of s xs p v (drop (i + 1) os)) ≡ all
newer_found s xs p v os i d one all within is so =
    ap (λ (o : Option Cause). option_or o (newer_of s xs p v (drop (i + 1) os))) is
    ∙ sym (newer_front s xs p v (get_or os i d) (drop (i + 1) os))
    ∙ sym (ap (newer_of s xs p v) (rest_at os i d within)) ∙ so

pub newer_first : (s : ScriptData) (xs : List Place) (p v : ℕ) (os : List SubOp) (i : ℕ) (d : SubOp) (one all : Option Cause) (cause : Cause) → i < length os
    → one ≡ newer_item s xs p v (get_or os i d) → newer_of s xs p v (drop i os) ≡ all → one ≡ Some cause → Some cause ≡ all
newer_first s xs p v os i d one all cause within is so found =
    sym (ap (λ (o : Option Cause). option_or o (newer_of s xs p v (drop (i + 1) os))) found) ∙ newer_found s xs p v os i d one all within is so

pub newer_passed : (s : ScriptData) (xs : List Place) (p v : ℕ) (os : List SubOp) (i : ℕ) (d : SubOp) (one all : Option Cause) → i < length os
    → one ≡ newer_item s xs p v (get_or os i d) → newer_of s xs p v (drop i os) ≡ all → one ≡ None → newer_of s xs p v (drop (i + 1) os) ≡ all
newer_passed s xs p v os i d one all within is so none =
    sym (ap (λ (o : Option Cause). option_or o (newer_of s xs p v (drop (i + 1) os))) none) ∙ newer_found s xs p v os i d one all within is so

pub newer_than : (s : ScriptData) (xs : List Place) (p v n : ℕ) (o : SubOp) → overwrites o.deed ≡ true → v < n → n ≡ newest_of s xs p o.item.0
    → Some (Newer o.item (record { 0 = n })) ≡ newer_item s xs p v o
newer_than s xs p v n o over lt is =
    ap (λ (m : ℕ). Some (Newer o.item (record { 0 = m }))) is
    ∙ by (overwrites o.deed) (nat_lt v (newest_of s xs p o.item.0)) over (let le : v < newest_of s xs p o.item.0 = omega (arith, lt, is) in grind (arith, nat_tests, le)) where
      by : (a b : Bool) → a ≡ true → b ≡ true → Some (Newer o.item (record { 0 = newest_of s xs p o.item.0 }))
          ≡ (if a && b then Some (Newer o.item (record { 0 = newest_of s xs p o.item.0 })) else None)
      by true true is so = refl
      by false b is so = absurd (cc is)
      by true false is so = absurd (cc so)

pub none_newer : (s : ScriptData) (xs : List Place) (p v n : ℕ) (o : SubOp) → n ≤ v → n ≡ newest_of s xs p o.item.0
    → None ≡ newer_item s xs p v o
none_newer s xs p v n o le is =
    by (overwrites o.deed) (nat_lt v (newest_of s xs p o.item.0)) (let most : newest_of s xs p o.item.0 ≤ v = omega (arith, le, is) in grind (arith, nat_tests, most)) where
      by : (a b : Bool) → b ≡ false → None ≡ (if a && b then Some (Newer o.item (record { 0 = newest_of s xs p o.item.0 })) else None)
      by true true is = absurd (cc is)
      by true false is = refl
      by false b is = refl

-- A strict tree is one that the script has.
counted : (trees : List Tree) (t : ℕ) → (elim (slice_get trees t) [ Some tree ↦ is_strict tree.kind | None ↦ false ]) ≡ true → 0 < strict_trees trees
counted [] t is = absurd (cc is)
counted (tree ∷ trees) zero is = (let one = by tree.kind is in omega (arith, one)) where
  by : (k : TreeKind) → is_strict k ≡ true → one_if (is_strict k) ≡ 1
  by Strict is = refl
  by Update is = absurd (cc is)
  by Read is = absurd (cc is)
counted (tree ∷ trees) (suc t) is = (let more = counted trees t is in omega (arith, more))

pub has_one : (s : ScriptData) (t : ℕ) → is_strict_tree s t ≡ true → has_strict s ≡ true
has_one s t is = (let some = counted s.trees t is in grind (arith, nat_tests, some))
