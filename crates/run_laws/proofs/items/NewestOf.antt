-- The greatest version in which an item was written, as a list of acts grows; and an act of an entry that writes.
use Rattle.std.proofs.Common.{◌≡◌, ℕ, zero, suc, ◌≤◌, ◌==◌, ◌&&◌, max, Bool, true, false, List, [], ◌∷◌, ◌++◌, refl, sym, ap, ◌∙◌, subst, arith, Option, Some, None}
use Rattle.std.specs.Prelude.{if◌then◌else◌, fold, is_some, slice_get}
use Rattle.tv_base.proofs.ByPlace.{slice_get_left}
use Rattle.tv_base.specs.declared.numbers.Version.{Version}
use Rattle.letter_types.specs.declared.acts.Act.{Act}
use Rattle.letter_types.specs.declared.acts.Act.TheVariants as acts
use Rattle.letter_types.specs.declared.entries.Entry.{Entry}
use Rattle.script_parts.specs.ScriptData.{ScriptData, ops_of, subs_at, updates}
use Rattle.board_rules.specs.Histories.{Place, places_at, version_in, version_or}
use Rattle.board_rules.specs.Stands.{newest_of, written_by, written_in}
use Rattle.board_rules.specs.Worth.{ops_change, subs_change}
use Rattle.board_rules.proofs.Places.{version_stays, places_more}
use Rattle.tree_laws.proofs.apt.AptVersions.{before}
use Rattle.run_laws.proofs.act_order.RowActs.{is_lasting, lasting}
use Rattle.run_laws.proofs.act_order.Fronts.{place_of, placed}
use Rattle.run_laws.proofs.strict.YesVotes.{fold_most}

fold_least : (f : Place → ℕ) (n : ℕ) (xs : List Place) → n ≤ fold (λ (v : ℕ) (y : Place). max v (f y)) n xs
fold_least f n [] = omega arith
fold_least f n (y ∷ xs) = omega (arith, fold_least f (max n (f y)) xs)

fold_has : (f : Place → ℕ) (n : ℕ) (xs : List Place) (i : ℕ) (y : Place) → slice_get xs i ≡ Some y
    → f y ≤ fold (λ (v : ℕ) (z : Place). max v (f z)) n xs
fold_has f n [] i y is = absurd (cc is)
fold_has f n (x ∷ xs) zero y is =
    let same : x ≡ y = cc is in omega (arith, fold_least f (max n (f x)) xs, ap f same)
fold_has f n (x ∷ xs) (suc i) y is = fold_has f (max n (f x)) xs i y is

newest_has : (s : ScriptData) (zs : List Place) (p x i : ℕ) (y : Place) → slice_get zs i ≡ Some y → written_in s zs p x y ≤ newest_of s zs p x
newest_has s zs p x i y is = fold_has (written_in s zs p x) 0 zs i y is

-- With more acts it is no less.
version_grows : (t : ℕ) (xs ys : List Place) → version_or 0 (version_in t xs) ≤ version_or 0 (version_in t (xs ++ ys))
version_grows t xs ys = by (version_in t xs) refl where
  by : (o : Option Version) → version_in t xs ≡ o → version_or 0 o ≤ version_or 0 (version_in t (xs ++ ys))
  by None is = omega arith
  by (Some w) is =
      let same : version_or 0 (version_in t (xs ++ ys)) ≡ w.0 =
      ap (version_or 0) (version_stays t xs ys (ap (λ (o : Option Version). is_some o) is)) ∙ ap (version_or 0) is in
      omega (arith, same)

if_grows : (b : Bool) (m n : ℕ) → m ≤ n → (if b then m else 0) ≤ (if b then n else 0)
if_grows true m n le = le
if_grows false m n le = omega arith

act_grows : (s : ScriptData) (xs ys : List Place) (x : ℕ) (here : Bool) (a : Act) → written_by s xs x here a ≤ written_by s (xs ++ ys) x here a
act_grows s xs ys x here (acts.Did t k values) =
    if_grows (updates s t.0 && ops_change x (ops_of s t.0 k.0)) (version_or 0 (version_in t.0 xs)) (version_or 0 (version_in t.0 (xs ++ ys)))
    (version_grows t.0 xs ys)
act_grows s xs ys x here (acts.Applied t commit) =
    if_grows (here && (commit && subs_change x (subs_at s t.0))) (version_or 0 (version_in t.0 xs)) (version_or 0 (version_in t.0 (xs ++ ys)))
    (version_grows t.0 xs ys)
act_grows s xs ys x here acts.Finished = omega arith
act_grows s xs ys x here _ = omega arith

pub newest_grows : (s : ScriptData) (xs ys : List Place) (p x : ℕ) → newest_of s xs p x ≤ newest_of s (xs ++ ys) p x
newest_grows s xs ys p x =
    fold_most (written_in s xs p x) 0 (newest_of s (xs ++ ys) p x) xs (omega arith)
    (λ i y is.
    omega (
      arith,
      act_grows s xs ys x (y.node == p) y.act,
      newest_has s (xs ++ ys) p x i y (slice_get_left xs ys i y is),
    ))

pub entry_newest : (s : ScriptData) (past : List Entry) (e : Entry) (p x : ℕ) → newest_of s (before past) p x ≤ newest_of s (before (e ∷ past)) p x
entry_newest s past e p x =
    subst (λ (zs : List Place). newest_of s (before past) p x ≤ newest_of s zs p x) (sym (places_more e past))
    (newest_grows s (before past) (places_at e) p x)

-- An act of an entry that lasts writes in no greater version.
get_second : (xs ys : List Place) (j : ℕ) (y : Place) → slice_get ys j ≡ Some y → (i : ℕ) × (slice_get (xs ++ ys) i ≡ Some y)
get_second [] ys j y is = (j, is)
get_second (x ∷ xs) ys j y is = let l = get_second xs ys j y is in (suc l.0, l.1)

lasting_there : (xs : List Act) (a : Act) (more : List Act) → lasting xs ≡ a ∷ more → (j : ℕ) × (slice_get xs j ≡ Some a)
lasting_there [] a more is = absurd (cc is)
lasting_there (x ∷ xs) a more is = by (is_lasting x) (λ later. lasting_there xs a more later) is where
  by : (b : Bool) → (lasting xs ≡ a ∷ more → (j : ℕ) × (slice_get xs j ≡ Some a)) → (if b then x ∷ lasting xs else lasting xs) ≡ a ∷ more
      → (j : ℕ) × (slice_get (x ∷ xs) j ≡ Some a)
  by true rest now = let same : x ≡ a = cc now in (0, ap (λ (b : Act). Some b) same)
  by false rest now = let l = rest now in (suc l.0, l.1)

pub written_then : (s : ScriptData) (past : List Entry) (e : Entry) (p x : ℕ) (a : Act) (more : List Act) → lasting e.acts ≡ a ∷ more
    → written_by s (before (e ∷ past)) x (e.actor.0 == p) a ≤ newest_of s (before (e ∷ past)) p x
written_then s past e p x a more is =
    let j = lasting_there e.acts a more is in
    let i = get_second (before past) (places_at e) j.0 (placed e.actor.0 a) (place_of e j.0 a j.1) in
    newest_has s (before (e ∷ past)) p x i.0 (placed e.actor.0 a) (ap (λ (zs : List Place). slice_get zs i.0) (places_more e past) ∙ i.1)
