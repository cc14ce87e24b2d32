-- In runs of enabled messages, of every script: each Sub and each notice carries the version with which its transaction
-- was born.
use Rattle.std.proofs.Common.{◌≡◌, ℕ, ◌+◌, ◌<◌, ◌≤◌, ◌==◌, ◌&&◌, Bool, true, false, not, List, [], ◌∷◌, ◌++◌, length, reverse, refl, ap, ◌∙◌, arith, Option, Some, None}
use Rattle.std.specs.Prelude.{if◌then◌else◌, nat_lt, is_some}
use Rattle.std.specs.Option.{option_or}
use Rattle.std.proofs.lemmas.Bool.Decides.{nat_tests}
use Rattle.tv_base.specs.declared.numbers.Version.{Version}
use Rattle.letter_types.specs.declared.acts.Act.{Act}
use Rattle.letter_types.specs.declared.acts.Act.TheVariants as acts
use Rattle.letter_types.specs.declared.bodies.Body.{Body}
use Rattle.letter_types.specs.declared.bodies.Body.TheVariants.{Go, Root, Sub as SubLetter, Done}
use Rattle.letter_types.specs.declared.bodies.Notice.{Notice}
use Rattle.letter_types.specs.declared.bodies.Notice.TheVariants.{Did as DidNotice, Yes, No}
use Rattle.letter_types.specs.declared.entries.Entry.{Entry}
use Rattle.letter_types.specs.declared.entries.Letter.{Letter}
use Rattle.tx_trees.proofs.SubsOf.{names_end}
use Rattle.tx_trees.specs.ScriptData.{ScriptData, home_of, subs_at}
use Rattle.tx_trees.specs.Valid.{IsValid, NamesInOrder}
use Rattle.tx_trees.specs.declared.parts.ScriptRow.{ScriptRow}
use Rattle.tx_trees.specs.declared.parts.ScriptRow.TheVariants.{Tree as TreeRow, Advance, Settle, Lose}
use Rattle.tx_trees.specs.declared.parts.Sub.{Sub}
use Rattle.board_rules.specs.Histories.{Place, places_at, places_of, version_in}
use Rattle.board_rules.proofs.Places.{version_in-append, version_stays, places_more}
use Rattle.world_model.specs.AllApt.{AllApt}
use Rattle.world_model.specs.Children.{done_letter, sub_letters}
use Rattle.world_model.specs.Counts.{one_if, tally}
use Rattle.world_model.specs.Kept.{outstanding}
use Rattle.world_model.specs.Notices.{act_of}
use Rattle.world_model.specs.Runs.{IsStepRun, client_in}
use Rattle.world_model.proofs.Bags.{one_if_most, one_if_same, tally-append, one_if_both, tally_most}
use Rattle.world_model.proofs.Flows.{outstanding_flow}
use Rattle.world_model.proofs.Outstanding.{outstanding_first}
use Rattle.world_model.proofs.Sends.{on, roots_none}
use Rattle.tree_laws.specs.Dids.{asks, is_born, is_row_of, letters_asking, roots_sent}
use Rattle.tree_laws.proofs.apt.AptSteps.{Enters, done_before, enters}
use Rattle.tree_laws.proofs.apt.AptTurns.{births_are_turns, born_of, roots_have_turns}
use Rattle.tree_laws.proofs.homes.Sent.{rooted_once, tally_take_le}
use Rattle.tree_laws.proofs.histories.Turns.{OfTreeActs, OfTreeLetters, done_for, is_tree_letter, sent_for}
use Rattle.tree_laws.proofs.homes.Counted.{births_in, placed, unborn}

-- a version is this one
abbrev pub is_version : Option Version → Version → Bool
is_version None v = false
is_version (Some w) v = w.0 == v.0

pub version_is : (found : Option Version) (v : Version) → is_version found v ≡ true → found ≡ Some v
version_is None v is = absurd (cc is)
version_is (Some w) v is =
    let same : w.0 ≡ v.0 = grind (arith, nat_tests) in ap (λ (n : ℕ). Some (record { 0 = n })) same

pub is_right : (b : Bool) → one_if (not b) ≡ 0 → b ≡ true
is_right true none = refl
is_right false none = absurd (omega (arith, none))

-- letters that carry another version than their tree's
abbrev pub misdated : List Place → Body → ℕ
misdated xs (SubLetter t k v) = one_if (not (is_version (version_in t.0 xs) v))
misdated xs (Done t k v notice) = one_if (not (is_version (version_in t.0 xs) v))
misdated xs Go = 0
misdated xs _ = 0

-- With more acts a version stays.
pub still_by : (xs ys : List Place) (t : ℕ) (v : Version) → is_version (version_in t xs) v ≡ true → is_version (version_in t (xs ++ ys)) v ≡ true
still_by xs ys t v is =
    let found = version_is (version_in t xs) v is in
    ap (λ (o : Option Version). is_version o v) (version_stays t xs ys (ap (λ (o : Option Version). is_some o) found)) ∙ is

pub no_more : (xs ys : List Place) (t : ℕ) (v : Version) (test : Bool) → is_version (version_in t xs) v ≡ test
    → one_if (not (is_version (version_in t (xs ++ ys)) v)) ≤ one_if (not (is_version (version_in t xs) v))
no_more xs ys t v true is = rw (still_by xs ys t v is) (omega arith)
no_more xs ys t v false is = rw is (one_if_most (not (is_version (version_in t (xs ++ ys)) v)))

misdated_less : (xs ys : List Place) (b : Body) → misdated (xs ++ ys) b ≤ misdated xs b
misdated_less xs ys (SubLetter t k v) = no_more xs ys t.0 v (is_version (version_in t.0 xs) v) refl
misdated_less xs ys (Done t k v notice) = no_more xs ys t.0 v (is_version (version_in t.0 xs) v) refl
misdated_less xs ys Go = omega arith
misdated_less xs ys _ = omega arith

misdated_of : (xs : List Place) → OfTreeLetters (on (misdated xs))
misdated_of xs o is = by o.body is where
  by : (b : Body) → is_tree_letter b ≡ false → misdated xs b ≡ 0
  by (SubLetter t k v) none = absurd (cc none)
  by (Done t k v notice) none = absurd (cc none)
  by Go none = refl
  by _ none = refl

-- What is sent for a letter carries the version that it was done in.
abbrev pub DoneIn : List Place → Version → Body → Type 0
DoneIn xs v (Root t) = is_version (version_in t.0 xs) v ≡ true
DoneIn xs v (SubLetter t k w) = is_version (version_in t.0 xs) w ≡ true
DoneIn xs v Go = Unit {0}
DoneIn xs v _ = Unit {0}

child_dated : (xs : List Place) (t v parent k : ℕ) (x : Sub) (subs : List Sub) → is_version (version_in t xs) (record { 0 = v }) ≡ true
    → (test : Bool) → (nat_lt parent k && (x.parent.0 == parent)) ≡ test
    → tally (on (misdated xs)) (sub_letters t v parent (k + 1) subs) ≡ 0 → tally (on (misdated xs)) (sub_letters t v parent k (x ∷ subs)) ≡ 0
child_dated xs t v parent k x subs is true at rest =
    let one : one_if (not (is_version (version_in t xs) (record { 0 = v }))) ≡ 0 = rw is refl in
    rw at (omega (arith, one, rest))
child_dated xs t v parent k x subs is false at rest = rw at rest

children_dated : (xs : List Place) (t v parent k : ℕ) (subs : List Sub) → is_version (version_in t xs) (record { 0 = v }) ≡ true
    → tally (on (misdated xs)) (sub_letters t v parent k subs) ≡ 0
children_dated xs t v parent k [] is = refl
children_dated xs t v parent k (x ∷ subs) is =
    child_dated xs t v parent k x subs is (nat_lt parent k && (x.parent.0 == parent)) refl (children_dated xs t v parent (k + 1) subs is)

sent_dated : (s : ScriptData) (xs : List Place) (v : Version) (notice : Notice) (body : Body) → DoneIn xs v body
    → tally (on (misdated xs)) (sent_for s v notice body) ≡ 0
sent_dated s xs v notice (Root t) is = children_dated xs t.0 v.0 0 0 (subs_at s t.0) is
sent_dated s xs v notice (SubLetter t k w) is =
    let one : one_if (not (is_version (version_in t.0 xs) w)) ≡ 0 = rw is refl in
    omega (
      arith,
      one,
      tally-append (on (misdated xs)) (sub_letters t.0 w.0 k.0 0 (subs_at s t.0)) (done_letter (home_of s t.0) t.0 k.0 w.0 notice ∷ []),
      children_dated xs t.0 w.0 k.0 0 (subs_at s t.0) is,
    )
sent_dated s xs v notice Go is = refl
sent_dated s xs v notice _ is = refl

-- A tree is born in the version in which its root is done.
abbrev born_otherwise : ℕ → Version → Act → ℕ
born_otherwise t v (acts.Born u w) = one_if ((u.0 == t) && not (w.0 == v.0))
born_otherwise t v acts.Finished = 0
born_otherwise t v _ = 0

otherwise_of : (t : ℕ) (v : Version) → OfTreeActs (born_otherwise t v)
otherwise_of t v (acts.Born u w) none = absurd (cc none)
otherwise_of t v acts.Finished none = refl
otherwise_of t v _ none = refl

told_version : (t : ℕ) (v : Version) (u : ℕ) (notice : Notice) → born_otherwise t v (act_of (record { 0 = u }) (record { 0 = 0 }) notice) ≡ 0
told_version t v u (DidNotice values) = refl
told_version t v u (Yes values) = refl
told_version t v u (No cause) = refl

born_now : (u v : ℕ) → one_if ((u == u) && not (v == v)) ≡ 0
born_now u v = grind (arith, nat_tests)

born_by : (t : ℕ) (v w : Version) (u : ℕ) (rest : Option Version) (test : Bool) → (u == t) ≡ test
    → one_if ((u == t) && not (w.0 == v.0)) ≡ 0 → (one_if (u == t) ≡ 0 → is_version rest v ≡ true)
    → is_version (option_or (if u == t then Some w else None) rest) v ≡ true
born_by t v w u rest true is none later =
    let same : (w.0 == v.0) ≡ true = grind (arith, nat_tests) in rw is same
born_by t v w u rest false is none later = rw is (later (rw is refl))

born_there : (t : ℕ) (v : Version) (node : ℕ) (does : List Act) → 1 ≤ tally (is_born t) does → tally (born_otherwise t v) does ≡ 0
    → is_version (version_in t (placed node does)) v ≡ true
born_there t v node [] some none = absurd (omega arith)
born_there t v node (acts.Born u w ∷ does) some none =
    born_by t v w u.0 (version_in t (placed node does)) (u.0 == t) refl (omega (arith, none))
    (λ other. born_there t v node does (omega (arith, some, other)) (omega (arith, none)))
born_there t v node (acts.Finished ∷ does) some none = born_there t v node does (omega (arith, some)) (omega (arith, none))
born_there t v node (_ ∷ does) some none = born_there t v node does (omega (arith, some)) (omega (arith, none))

-- which it wasn't before
rooted_after : (t i n : ℕ) (rows : List ScriptRow) → NamesInOrder i n rows → n ≤ t → roots_sent t rows ≡ 0
rooted_after t i n [] names le = refl
rooted_after t i n (TreeRow u ∷ rows) names le =
    let lt : u.0 < n = omega (arith, names.0, names_end (i + 1) n rows names.1) in
    let none : one_if (u.0 == t) ≡ 0 = grind (arith, nat_tests) in
    omega (arith, none, rooted_after t (i + 1) n rows names.1 le)
rooted_after t i n (Advance ∷ rows) names le = omega (arith, rooted_after t i n rows names le)
rooted_after t i n (Settle ∷ rows) names le = omega (arith, rooted_after t i n rows names le)
rooted_after t i n (Lose ∷ rows) names le = omega (arith, rooted_after t i n rows names le)

rooted_by : (n t : ℕ) (rows : List ScriptRow) (test : Bool) → nat_lt t n ≡ test → NamesInOrder 0 n rows → roots_sent t rows ≤ 1
rooted_by n t rows true is names = omega (arith, rooted_once n t rows names (grind (arith, nat_tests)))
rooted_by n t rows false is names = omega (arith, rooted_after t 0 n rows names (grind (arith, nat_tests)))

pub not_born : (s : ScriptData) (past : List Entry) (t : ℕ) → IsValid s → AllApt s past → IsStepRun s past → 1 ≤ letters_asking s past t 0
    → version_in t (places_of (reverse past)) ≡ None
not_born s past t valid apt run some =
    unborn t (places_of (reverse past))
    (omega (
      arith,
      some,
      births_in past t,
      births_are_turns s past t valid apt run,
      roots_have_turns s past t valid apt run,
      tally_take_le (is_row_of t) (client_in s past).next s.rows,
      rooted_by (length s.trees) t s.rows (nat_lt t (length s.trees)) refl valid.rows,
    ))

-- So an entry does its letter in the version of its tree.
abbrev pub before : List Entry → List Place
before past = places_of (reverse past)

abbrev pub Dated : ScriptData → List Entry → Type 0
Dated s past = tally (λ (l : Letter). misdated (before past) l.body) (outstanding s past) ≡ 0

root_version : (s : ScriptData) (past : List Entry) (e : Entry) (t : ℕ) (v : Version) → IsValid s → AllApt s past → IsStepRun s past
    → 1 ≤ letters_asking s past t 0 → 1 ≤ tally (is_born t) e.acts → tally (born_otherwise t v) e.acts ≡ 0
    → is_version (version_in t (before past ++ places_at e)) v ≡ true
root_version s past e t v valid apt run some born none =
    ap (λ (o : Option Version). is_version o v)
    (version_in-append t (before past) (places_at e)
    ∙ ap (λ (o : Option Version). option_or o (version_in t (places_at e))) (not_born s past t valid apt run some))
    ∙ born_there t v e.actor.0 e.acts born none

done_in : (s : ScriptData) (past : List Entry) (e : Entry) (to : ℕ) (v : Version) (notice : Notice) (body : Body) → IsValid s → AllApt s past
    → IsStepRun s (e ∷ past) → ((t : ℕ) → asks t 0 body ≤ letters_asking s past t 0)
    → ((g : Act → ℕ) → OfTreeActs g → tally g e.acts ≡ tally g (done_for v notice body))
    → misdated (before past) body ≡ 0 → DoneIn (before past ++ places_at e) v body
done_in s past e to v notice (Root t) valid apt run waits does dated =
    root_version s past e t.0 v valid apt run.1 (omega (arith, waits t.0, one_if_both t.0 0))
    (omega (arith, does (is_born t.0) (born_of t.0), one_if_same t.0))
    (omega (arith, does (born_otherwise t.0 v) (otherwise_of t.0 v), told_version t.0 v t.0 notice, born_now t.0 v.0))
done_in s past e to v notice (SubLetter t k w) valid apt run waits does dated =
    still_by (before past) (places_at e) t.0 w (is_right (is_version (version_in t.0 (before past)) w) dated)
done_in s past e to v notice Go valid apt run waits does dated = tt
done_in s past e to v notice _ valid apt run waits does dated = tt

pub done_dated : (s : ScriptData) (past : List Entry) (e : Entry) → IsValid s → AllApt s past → IsStepRun s (e ∷ past) → Dated s past
    → (n : Enters s past e) → DoneIn (before past ++ places_at e) n.version n.body
done_dated s past e valid apt run dated n =
    let waits : (t : ℕ) → asks t 0 n.body ≤ letters_asking s past t 0 = λ t.
    omega (arith, n.done (asks t 0) refl, done_before (λ (l : Letter). asks t 0 l.body) s past e run.0) in
    let own : misdated (before past) n.body ≡ 0 =
    omega (arith, dated, n.done (misdated (before past)) refl, done_before (λ (l : Letter). misdated (before past) l.body) s past e run.0) in
    done_in s past e n.to n.version n.notice n.body valid apt run waits n.acts own

dated_next : (s : ScriptData) (past : List Entry) (e : Entry) → IsValid s → AllApt s (e ∷ past) → IsStepRun s (e ∷ past) → Dated s past
    → Dated s (e ∷ past)
dated_next s past e valid apt run dated =
    let n = enters s past e valid apt run in
    let zs : List Place = before past ++ places_at e in
    ap (λ (xs : List Place). tally (λ (l : Letter). misdated xs l.body) (outstanding s (e ∷ past))) (places_more e past)
    ∙ omega (
      arith,
      dated,
      outstanding_flow (misdated zs) s past e (λ t k. refl) run.0,
      tally_most (λ (l : Letter). misdated zs l.body) (λ (l : Letter). misdated (before past) l.body) (outstanding s past)
          (λ l. misdated_less (before past) (places_at e) l.body),
      n.sends (on (misdated zs)) (misdated_of zs),
      sent_dated s zs n.version n.notice n.body (done_dated s past e valid apt.1 run dated n),
      roots_none (misdated zs) s n.before n.rows (record { root = λ t. refl; advance = refl; numbered = λ i. refl; lose = refl }),
    )

pub dated_run : (s : ScriptData) (past : List Entry) → IsValid s → AllApt s past → IsStepRun s past → Dated s past
dated_run s [] valid apt run = omega (arith, outstanding_first (λ (l : Letter). misdated (before []) l.body) s)
dated_run s (e ∷ past) valid apt run = dated_next s past e valid apt run (dated_run s past valid apt.1 run.1)
