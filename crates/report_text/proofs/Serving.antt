-- One read transaction more that shows its values, and all of them.
use Rattle.std.proofs.Common.{◌≡◌, ℕ, zero, suc, ◌+◌, ◌<◌, ◌≤◌, Bool, true, false, List, [], ◌∷◌, length, get_or, refl, ap, sym, ◌∙◌, subst, slice_set, arith}
use Rattle.std.specs.Prelude.{◌==◌, ◌&&◌, ◌||◌, not, nat_lt, Option, Some, None, slice_get}
use Rattle.std.specs.List.{list_any}
use Rattle.std.proofs.lemmas.Bool.Decides.{nat_tests}
use Rattle.std.proofs.lemmas.List.{length-set}
use Rattle.std.proofs.lemmas.List.Folds.{list_any-append}
use Rattle.std.proofs.lemmas.List.Sorted.{list_any-IsPermutation}
use Rattle.tv_base.specs.declared.numbers.Version.{Version}
use Rattle.letter_types.specs.declared.entries.Entry.{Entry}
use Rattle.tx_trees.specs.ScriptData.{ScriptData, is_read, reads, subs_at}
use Rattle.tx_trees.specs.Valid.{IsTree, IsValid}
use Rattle.std.specs.List.{AllByRecursion}
use Rattle.std.proofs.lemmas.Bool.{or_left, or_right}
use Rattle.tx_trees.specs.declared.parts.Sub.{Sub}
use Rattle.tx_trees.specs.declared.parts.Tree.{Tree}
use Rattle.tx_trees.specs.declared.parts.TreeKind.{TreeKind}
use Rattle.tx_trees.specs.declared.parts.TreeKind.TheVariants.{Update, Read, Strict}
use Rattle.board_model.specs.Balances.{worths}
use Rattle.board_model.specs.Carried.{IsCarried}
use Rattle.board_rules.specs.Histories.{version_of}
use Rattle.board_rules.specs.Serial.{is_version}
use Rattle.board_model.specs.SerialList.{IsByVersion}
use Rattle.board_model.specs.Standings.{standings_from, standings_of}
use Rattle.board_model.specs.declared.carried.Carried.{Carried}
use Rattle.board_model.specs.declared.serial.Member.{Member}
use Rattle.report_text.specs.declared.served.Served.{Served}
use Rattle.report_text.specs.inside.Lines.{subs_texts}
use Rattle.report_text.specs.Report.{gets_text}
use Rattle.report_text.specs.inside.Served.{AreAsked, AreRead, AreTold, IsServed, ask_at, asks_from, read_version, values_at, values_of_tree}
use Rattle.report_text.proofs.TreeLines.{subs_text}

-- a text put at its place
put_same : (xs : List (List ℕ)) (k : ℕ) (x : List ℕ) → k < length xs → slice_get (slice_set xs k x) k ≡ Some x
put_same [] k x small = absurd (omega arith)
put_same (y ∷ xs) zero x small = refl
put_same (y ∷ xs) (suc k) x small = put_same xs k x (omega arith)

put_other : (xs : List (List ℕ)) (k j : ℕ) (x : List ℕ) → (k ≡ j → ⊥) → slice_get (slice_set xs k x) j ≡ slice_get xs j
put_other [] k j x other = refl
put_other (y ∷ xs) zero zero x other = absurd (other refl)
put_other (y ∷ xs) zero (suc j) x other = refl
put_other (y ∷ xs) (suc k) zero x other = refl
put_other (y ∷ xs) (suc k) (suc j) x other = put_other xs k j x (λ (e : k ≡ j). other (omega arith))

put_told : (xs : List (List ℕ)) (k j : ℕ) (x : List ℕ) (f : ℕ → List ℕ) → k < length xs → x ≡ f k → slice_get xs j ≡ Some (f j)
    → slice_get (slice_set xs k x) j ≡ Some (f j)
put_told xs k j x f small e h = by (k == j) refl where
  by : (b : Bool) → (k == j) ≡ b → slice_get (slice_set xs k x) j ≡ Some (f j)
  by true t =
      let same : k ≡ j = grind (arith, nat_tests) in
      subst (λ (i : ℕ). slice_get (slice_set xs k x) i ≡ Some (f i)) same (put_same xs k x small ∙ ap Some e)
  by false t = put_other xs k j x (λ (e2 : k ≡ j). absurd (grind (arith, nat_tests))) ∙ h

abbrev its_subs : Option Tree → List Sub
its_subs None = []
its_subs (Some tree) = tree.subs

same_subs : (o : Option Tree) → its_subs o ≡ (elim o as (λ (z : Option Tree). List Sub) [ Some one ↦ one.subs | None ↦ [] ])
same_subs None = refl
same_subs (Some tree) = refl

found_text_of : (s : ScriptData) (h : List Entry) (v : ℕ) (ts : List Tree) (t : ℕ) → AllByRecursion (IsTree s.nodes s.items) ts
    → subs_texts s.items (worths s h v) (its_subs (slice_get ts t)) ≡ gets_text s h v (its_subs (slice_get ts t))
found_text_of s h v [] t all = refl
found_text_of s h v (tree ∷ ts) zero all = subs_text s h v tree.kind 0 tree.subs all.0.subs
found_text_of s h v (tree ∷ ts) (suc t) all = found_text_of s h v ts t all.1

-- what a tree's operations show at a version
text_is : (s : ScriptData) (h : List Entry) (v t : ℕ) → IsValid s → subs_texts s.items (worths s h v) (subs_at s t) ≡ gets_text s h v (subs_at s t)
text_is s h v t valid =
    subst (λ (ks : List Sub). subs_texts s.items (worths s h v) ks ≡ gets_text s h v ks) (same_subs (slice_get s.trees t))
    (found_text_of s h v s.trees t valid.trees)

pub served_more : (s : ScriptData) (h : List Entry) (serial asks : List Member) (texts : List (List ℕ)) (r : Served) (carried : Carried)
    (text : List ℕ) (d : Member) → IsValid s → AreAsked s h asks → IsServed s h serial asks texts r → r.place < length asks
    → IsCarried s serial carried → carried.version ≡ (get_or asks r.place d).version
    → text ≡ subs_texts s.items (worths s h (get_or asks r.place d).version.0) (subs_at s (get_or asks r.place d).tree.0)
    → IsServed s h serial asks (slice_set texts (get_or asks r.place d).tree.0 text) (record { place = r.place + 1; carried = carried })
served_more s h serial asks texts r carried text d valid asked served small at version is =
    let ask : Member = get_or asks r.place d in
    let t : ℕ = ask.tree.0 in
    let there : t < length texts = omega (arith, asked.there r.place d small, served.count) in
    let right : text ≡ values_of_tree s h t
    = is ∙ text_is s h ask.version.0 t valid ∙ sym (ap (λ (o : Option Version). values_at s h o (subs_at s t)) (asked.right r.place d small)) in
    record {
      place = omega arith;
      carried = at;
      ahead = λ (i : ℕ) (e : Member) le lt.
          omega (arith, ap (λ (v : Version). v.0) version, asked.ascending r.place i d (omega arith) lt, ap (λ (m : Member). m.version.0) (same_at asks i d e lt));
      count = length-set texts t text ∙ served.count;
      told = λ (i : ℕ) (e : Member) lt. told_by i e lt there right;
    } where
      same_at : (ms : List Member) (p : ℕ) (d e : Member) → p < length ms → get_or ms p d ≡ get_or ms p e
      same_at [] p d e lt = absurd (omega arith)
      same_at (m ∷ ms) zero d e lt = refl
      same_at (m ∷ ms) (suc p) d e lt = same_at ms p d e (omega arith)

      told_at : (i : ℕ) (e : Member) (b : Bool) → (i == r.place) ≡ b → i < r.place + 1 → (get_or asks r.place d).tree.0 < length texts
          → text ≡ values_of_tree s h (get_or asks r.place d).tree.0
          → slice_get (slice_set texts (get_or asks r.place d).tree.0 text) (get_or asks i e).tree.0 ≡ Some (values_of_tree s h (get_or asks i e).tree.0)
      told_at i e true eq lt there right =
          let same : r.place ≡ i = grind (arith, nat_tests) in
          let one : (get_or asks r.place d).tree.0 ≡ (get_or asks i e).tree.0
          = ap (λ (m : Member). m.tree.0) (same_at asks r.place d e small) ∙ ap (λ (k : ℕ). (get_or asks k e).tree.0) same in
          subst (λ (k : ℕ). slice_get (slice_set texts (get_or asks r.place d).tree.0 text) k ≡ Some (values_of_tree s h k)) one
          (put_same texts (get_or asks r.place d).tree.0 text there ∙ ap Some right)
      told_at i e false eq lt there right =
          let before : i < r.place = grind (arith, nat_tests) in
          put_told texts (get_or asks r.place d).tree.0 (get_or asks i e).tree.0 text (values_of_tree s h) there right (served.told i e before)

      told_by : (i : ℕ) (e : Member) → i < r.place + 1 → (get_or asks r.place d).tree.0 < length texts
          → text ≡ values_of_tree s h (get_or asks r.place d).tree.0
          → slice_get (slice_set texts (get_or asks r.place d).tree.0 text) (get_or asks i e).tree.0 ≡ Some (values_of_tree s h (get_or asks i e).tree.0)
      told_by i e lt there right = told_at i e (i == r.place) refl lt there right

-- carried on, before the next one
pub served_at : (s : ScriptData) (h : List Entry) (serial asks : List Member) (texts : List (List ℕ)) (r : Served) (carried : Carried)
    → AreAsked s h asks → IsServed s h serial asks texts r → IsCarried s serial carried
    → ((d : Member) → r.place < length asks → carried.version.0 ≤ (get_or asks r.place d).version.0)
    → IsServed s h serial asks texts (record { place = r.place; carried = carried })
served_at s h serial asks texts r carried asked served at before =
    record {
      place = served.place;
      carried = at;
      count = served.count;
      told = served.told;
      ahead = λ (i : ℕ) (d : Member) le lt. omega (arith, before d (omega arith), asked.ascending r.place i d le lt);
    }

-- the next one is of a later version, whatever is past the end
pub next_later : (ms ns : List Member) (p v w : ℕ) (d e : Member) → ms ≡ ns → w ≡ v → v < (get_or ms p d).version.0 → p < length ns
    → w ≤ (get_or ns p e).version.0
next_later ms ns p v w d e same eq later small =
    omega (arith, eq, later, ap (λ (z : List Member). (get_or z p d).version.0) same, ap (λ (m : Member). m.version.0) (any_end ns p d e small)) where
      any_end : (ms : List Member) (p : ℕ) (d e : Member) → p < length ms → get_or ms p d ≡ get_or ms p e
      any_end [] p d e lt = absurd (omega arith)
      any_end (m ∷ ms) zero d e lt = refl
      any_end (m ∷ ms) (suc p) d e lt = any_end ms p d e (omega arith)

-- whether a tree isn't the script's, or not of this version
abbrev is_wrong : ScriptData → List Entry → Member → Bool
is_wrong s h m = not (is_version m.version.0 (version_of h m.tree.0) && nat_lt m.tree.0 (length s.trees))

-- a test on none of what is asked at one tree
none_at : (s : ScriptData) (h : List Entry) (t : ℕ) (kind : TreeKind) (o : Option Version) → version_of h t ≡ o → t < length s.trees
    → list_any (is_wrong s h) (ask_at (read_version kind o) t) ≡ false
none_at s h t Update o e small = refl
none_at s h t Strict o e small = refl
none_at s h t Read None e small = refl
none_at s h t Read (Some v) e small =
    let yes : is_version v.0 (version_of h t) ≡ true = ap (λ (o : Option Version). is_version v.0 o) e ∙ self v.0 in
    let lt : nat_lt t (length s.trees) ≡ true = grind (arith, nat_tests) in
    ap (λ (b : Bool). not (b && nat_lt t (length s.trees)) || false) yes ∙ ap (λ (b : Bool). not b || false) lt where
      self : (n : ℕ) → (n == n) ≡ true
      self n = grind (arith, nat_tests)

none_wrong : (s : ScriptData) (h : List Entry) (t : ℕ) (ts : List Tree) → t + length ts ≡ length s.trees
    → list_any (is_wrong s h) (asks_from t ts (standings_from s h t ts)) ≡ false
none_wrong s h t [] len = refl
none_wrong s h t (tree ∷ ts) len =
    let one = none_at s h t tree.kind (version_of h t) refl (omega arith) in
    list_any-append (is_wrong s h) (ask_at (read_version tree.kind (version_of h t)) t) (asks_from (t + 1) ts (standings_from s h (t + 1) ts))
    ∙ ap (λ (b : Bool). b || list_any (is_wrong s h) (asks_from (t + 1) ts (standings_from s h (t + 1) ts))) one
    ∙ none_wrong s h (t + 1) ts (omega arith)

none_there : (p : Member → Bool) (ms : List Member) (i : ℕ) (d : Member) → list_any p ms ≡ false → i < length ms → p (get_or ms i d) ≡ false
none_there p [] i d h small = absurd (omega arith)
none_there p (m ∷ ms) zero d h small = first (p m) (list_any p ms) h where
  first : (a b : Bool) → (a || b) ≡ false → a ≡ false
  first true b e = e
  first false b e = refl
none_there p (m ∷ ms) (suc i) d h small = none_there p ms i d (second (p m) (list_any p ms) h) (omega arith) where
  second : (a b : Bool) → (a || b) ≡ false → b ≡ false
  second true b e = absurd (cc e)
  second false b e = e

of_version : (v : Version) (o : Option Version) → is_version v.0 o ≡ true → o ≡ Some v
of_version v None e = absurd (cc e)
of_version v (Some w) e =
    let same : w.0 ≡ v.0 = grind (arith, nat_tests) in
    ap (λ (n : ℕ). Some (the_version n)) same where
      the_version : ℕ → Version
      the_version n = record { 0 = n }

and_left : (a b : Bool) → not (a && b) ≡ false → a ≡ true
and_left true b e = refl
and_left false b e = absurd (cc e)

and_right : (a b : Bool) → not (a && b) ≡ false → b ≡ true
and_right true true e = refl
and_right true false e = absurd (cc e)
and_right false b e = absurd (cc e)

abbrev its_read : Option Tree → Bool
its_read None = false
its_read (Some tree) = is_read tree.kind

same_read : (o : Option Tree) → its_read o ≡ (elim o as (λ (z : Option Tree). Bool) [ Some one ↦ is_read one.kind | None ↦ false ])
same_read None = refl
same_read (Some tree) = refl

abbrev is_tree : ℕ → Member → Bool
is_tree t m = m.tree.0 == t

one_there : (t k : ℕ) (kind : TreeKind) (v : Version) → t ≡ k → is_read kind ≡ true → list_any (is_tree t) (ask_at (read_version kind (Some v)) k) ≡ true
one_there t k Update v e r = absurd (cc r)
one_there t k Strict v e r = absurd (cc r)
one_there t k Read v e r =
    let yes : (k == t) ≡ true = grind (arith, nat_tests) in
    ap (λ (b : Bool). b || false) yes

all_there : (s : ScriptData) (h : List Entry) (k d t : ℕ) (v : Version) (ts : List Tree) → t ≡ k + d → its_read (slice_get ts d) ≡ true
    → version_of h t ≡ Some v → list_any (is_tree t) (asks_from k ts (standings_from s h k ts)) ≡ true
all_there s h k d t v [] e r born = absurd (cc r)
all_there s h k zero t v (tree ∷ ts) e r born =
    let same : t ≡ k = omega arith in
    let here : version_of h k ≡ Some v = sym (ap (λ (i : ℕ). version_of h i) same) ∙ born in
    let rest : List Member = asks_from (k + 1) ts (standings_from s h (k + 1) ts) in
    list_any-append (is_tree t) (ask_at (read_version tree.kind (version_of h k)) k) rest
    ∙ or_left (list_any (is_tree t) (ask_at (read_version tree.kind (version_of h k)) k)) (list_any (is_tree t) rest)
    (ap (λ (o : Option Version). list_any (is_tree t) (ask_at (read_version tree.kind o) k)) here ∙ one_there t k tree.kind v same r)
all_there s h k (suc d) t v (tree ∷ ts) e r born =
    let rest : List Member = asks_from (k + 1) ts (standings_from s h (k + 1) ts) in
    list_any-append (is_tree t) (ask_at (read_version tree.kind (version_of h k)) k) rest
    ∙ or_right (list_any (is_tree t) (ask_at (read_version tree.kind (version_of h k)) k)) (list_any (is_tree t) rest)
    (all_there s h (k + 1) d t v ts (omega arith) r born)

-- the read trees that are born, by version
pub asked_of : (s : ScriptData) (h : List Entry) (xs ys : List Member) → IsByVersion xs ys → xs ≡ asks_from 0 s.trees (standings_of s h)
    → AreAsked s h ys
asked_of s h xs ys by is =
    record {
      ascending = by.ascending;
      right = λ (i : ℕ) (d : Member) lt. right_at i d lt;
      there = λ (i : ℕ) (d : Member) lt. there_at i d lt;
      all = λ (t : ℕ) (v : Version) r born. all_at t v r born;
    } where
      none : list_any (is_wrong s h) ys ≡ false
      none =
          let len : 0 + length s.trees ≡ length s.trees = omega arith in
          sym (list_any-IsPermutation (is_wrong s h) xs ys by.same)
          ∙ ap (λ (ms : List Member). list_any (is_wrong s h) ms) is ∙ none_wrong s h 0 s.trees len

      right_at : (i : ℕ) (d : Member) → i < length ys → version_of h (get_or ys i d).tree.0 ≡ Some (get_or ys i d).version
      right_at i d lt =
          let m : Member = get_or ys i d in
          of_version m.version (version_of h m.tree.0)
          (and_left (is_version m.version.0 (version_of h m.tree.0)) (nat_lt m.tree.0 (length s.trees)) (none_there (is_wrong s h) ys i d none lt))

      there_at : (i : ℕ) (d : Member) → i < length ys → (get_or ys i d).tree.0 < length s.trees
      there_at i d lt =
          let m : Member = get_or ys i d in
          let yes : nat_lt m.tree.0 (length s.trees) ≡ true
          = and_right (is_version m.version.0 (version_of h m.tree.0)) (nat_lt m.tree.0 (length s.trees)) (none_there (is_wrong s h) ys i d none lt) in
          grind (arith, nat_tests, yes)

      all_at : (t : ℕ) (v : Version) → reads s t ≡ true → version_of h t ≡ Some v → list_any (is_tree t) ys ≡ true
      all_at t v r born =
          let at : t ≡ 0 + t = omega arith in
          sym (list_any-IsPermutation (is_tree t) xs ys by.same)
          ∙ ap (λ (ms : List Member). list_any (is_tree t) ms) is
          ∙ all_there s h 0 t t v s.trees at (same_read (slice_get s.trees t) ∙ r) born

-- a place at which a list passes a test
at_place : (t : ℕ) (ms : List Member) (d : Member) (Q : Type 0) → list_any (is_tree t) ms ≡ true
    → ((i : ℕ) → i < length ms → (get_or ms i d).tree.0 ≡ t → Q) → Q
at_place t [] d Q h then_by = absurd (cc h)
at_place t (m ∷ ms) d Q h then_by =
    by (m.tree.0 == t) refl h (λ more. at_place t ms d Q more (λ (i : ℕ) lt same. then_by (suc i) (omega arith) same)) where
      by : (b : Bool) → (m.tree.0 == t) ≡ b → (b || list_any (is_tree t) ms) ≡ true → (list_any (is_tree t) ms ≡ true → Q) → Q
      by true e h rest =
          let same : m.tree.0 ≡ t = grind (arith, nat_tests) in
          then_by 0 (omega arith) same
      by false e h rest = rest h

-- once all have shown their values, each read tree's are there
pub all_read : (s : ScriptData) (h : List Entry) (asks : List Member) (texts : List (List ℕ)) → AreAsked s h asks
    → length texts ≡ length s.trees → AreTold s h asks (length asks) texts → AreRead s h texts
all_read s h asks texts asked count told =
    record {
      count = count;
      each = λ (t : ℕ) (v : Version) r born.
          at_place t asks none (slice_get texts t ≡ Some (gets_text s h v.0 (subs_at s t))) (asked.all t v r born)
          (λ (i : ℕ) lt same.
          subst (λ (k : ℕ). slice_get texts k ≡ Some (values_of_tree s h k)) same (told i none lt)
          ∙ ap (λ (o : Option Version). Some (values_at s h o (subs_at s t))) born);
    } where
      none : Member
      none = record { version = record { 0 = 0 }; tree = record { 0 = 0 } }
