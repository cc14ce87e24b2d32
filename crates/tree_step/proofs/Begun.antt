-- A tree that begins at its home, once its root was done.
use Rattle.std.proofs.Common.{◌≡◌, ℕ, ◌<◌, ◌==◌, true, false, zero, suc, set, replicate, refl, ap, sym, ◌∙◌, arith}
use Rattle.std.specs.Prelude.{nat_lt, IsTrue, Option, Some, None}
use Rattle.std.proofs.lemmas.Bool.Decides.{nat_tests}
use Rattle.std.proofs.lemmas.List.{append-nil}
use Rattle.tv_base.specs.declared.numbers.SubNo.{SubNo}
use Rattle.tv_base.specs.declared.numbers.TreeNo.{TreeNo}
use Rattle.tv_base.specs.declared.numbers.Version.{Version}
use Rattle.tree_home.specs.Homes.{Gets, OpenTrees, after_notice, answer_in, answer_of, answer_with, begun, gathered, misses, missing_in, new_tree, noted}
use Rattle.tree_home.specs.declared.homes.Answered.{Answered}
use Rattle.tree_home.specs.declared.homes.OpenTree.{OpenTree}
use Rattle.world_model.specs.Notices.{answer_noted, homes_noted}
use Rattle.tree_step.specs.inside.Opening.{root_answer}
use Rattle.tree_home.proofs.Always.{all-missing, misses-begun, begun-there}

abbrev root_no : SubNo
root_no = record { 0 = 0 }

some_below : (n : ℕ) → 0 < n → nat_lt 0 n ≡ true
some_below n lt = grind (arith, nat_tests)

not_one : (n : ℕ) → 1 < n → (n == 1) ≡ false
not_one n more = grind (arith, nat_tests)

-- its root's notice is missing
pub root_missed : (t : TreeNo) (n : ℕ) (v : Version) (hs new : OpenTrees) → new ≡ begun t n v hs → 0 < n
    → IsTrue (misses t (record { 0 = 0 }) new)
root_missed t n v hs new is some =
    ap (λ (h : OpenTrees). misses t root_no h) is ∙ misses-begun t root_no n v hs ∙ some_below n some

-- all its notices are missing
pub more_missed : (t : TreeNo) (n : ℕ) (v : Version) (hs new : OpenTrees) → new ≡ begun t n v hs → 1 < n
    → 1 < missing_in t new
more_missed t n v hs new is more =
    let all : missing_in t new ≡ n = ap (λ (h : OpenTrees). missing_in t h) is ∙ all-missing t n v hs in omega arith

-- what is gathered of it with its root's notice
gathered_root : (n : ℕ) (t : TreeNo) (v : Version) (values : Gets) → 0 < n
    → answer_with t (new_tree n v) (gathered (set (replicate n None) 0 (Some values))) ≡ root_answer n t v values
gathered_root zero t v values some = absurd (omega arith)
gathered_root (suc zero) t v values some =
    ap (λ (vs : Gets). Some (record { tree = t; version = v; values = vs })) (append-nil values)
gathered_root (suc (suc n)) t v values some = let test = not_one (suc (suc n)) (omega arith) in rw test refl

answer_begun : (t : TreeNo) (n : ℕ) (v : Version) (values : Gets) (hs : OpenTrees) → 0 < n
    → answer_in t root_no values (begun t n v hs) ≡ root_answer n t v values
answer_begun t n v values hs some =
    ap (λ (o : Option OpenTree). answer_of t root_no values o) (begun-there t n v hs) ∙ gathered_root n t v values some

pub root_answered : (t : TreeNo) (n : ℕ) (v : Version) (values : Gets) (hs : OpenTrees) → 0 < n
    → root_answer n t v values ≡ answer_noted t (record { 0 = 0 }) values (begun t n v hs)
root_answered t n v values hs some =
    let missed = root_missed t n v hs (begun t n v hs) refl some in
    rw missed (sym (answer_begun t n v values hs some))

-- the open trees once its root's notice is noted, by its answer
noted_root : (t : TreeNo) (n : ℕ) (v : Version) (values : Gets) (hs : OpenTrees) (o : Option Answered) → 0 < n
    → root_answer n t v values ≡ o
    → homes_noted t root_no values (begun t n v hs)
    ≡ after_notice t root_no values (begun t n v hs) o
noted_root t n v values hs o some is =
    let missed = root_missed t n v hs (begun t n v hs) refl some in
    let answer = answer_begun t n v values hs some ∙ is in
    rw missed (ap (λ (a : Option Answered). after_notice t root_no values (begun t n v hs) a) answer)

-- one of more misses the others
no_answer : (n : ℕ) (t : TreeNo) (v : Version) (values : Gets) → 1 < n → root_answer n t v values ≡ None
no_answer n t v values more = let test = not_one n more in rw test refl

pub opened_noted : (t : TreeNo) (n : ℕ) (v : Version) (values : Gets) (hs mid new : OpenTrees) → 1 < n
    → mid ≡ begun t n v hs → new ≡ noted t (record { 0 = 0 }) values mid
    → new ≡ homes_noted t (record { 0 = 0 }) values (begun t n v hs)
opened_noted t n v values hs mid new more begin note =
    let some : 0 < n = omega arith in
    note ∙ ap (λ (h : OpenTrees). noted t root_no values h) begin
    ∙ sym (noted_root t n v values hs None some (no_answer n t v values more))
