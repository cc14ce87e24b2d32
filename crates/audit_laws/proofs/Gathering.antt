-- The values that a home gathers and the negative votes that it keeps in mind are of the script.
use Rattle.std.proofs.Common.{ℕ, zero, suc, ◌≡◌, ◌==◌, Bool, true, false, List, [], ◌∷◌, refl, subst, arith, Option, Some, None}
use Rattle.std.specs.Prelude.{if◌then◌else◌, nat_lt, replicate, slice_get, slice_set}
use Rattle.std.specs.List.{AllByRecursion}
use Rattle.std.specs.Option.{IfSome}
use Rattle.std.proofs.lemmas.Bool.Decides.{nat_tests}
use Rattle.tv_base.specs.declared.numbers.SubNo.{SubNo}
use Rattle.tv_base.specs.declared.numbers.TreeNo.{TreeNo}
use Rattle.tv_base.specs.declared.numbers.Version.{Version}
use Rattle.letter_types.specs.declared.bodies.Notice.{Notice}
use Rattle.letter_types.specs.declared.bodies.Notice.TheVariants.{Did, Yes, No}
use Rattle.script_parts.specs.ScriptData.{ScriptData}
use Rattle.tree_home.specs.HeldAnswers.{HeldAnswers, acked, acked_of, answer_when_acked, held_for, held_in, holding, last_answer}
use Rattle.tree_home.specs.Homes.{Gets, OpenTrees, after_notice, answer_in, answer_of, answer_with, begun, gathered, home_in, misses, new_tree, noted_of, prepended}
use Rattle.tree_home.specs.Maps.{put_at}
use Rattle.tree_home.specs.declared.homes.Answered.{Answered}
use Rattle.tree_home.specs.declared.homes.Held.{Held}
use Rattle.tree_home.specs.declared.homes.OpenTree.{OpenTree}
use Rattle.world_model.specs.Core.{Refusals, lesser, refused_by}
use Rattle.world_model.specs.Notices.{answer_noted, homes_noted, values_of}
use Rattle.world_model.specs.declared.refusal.NegativeVote.{NegativeVote}
use Rattle.tree_laws.proofs.conflicts.AtHome.{all_append}
use Rattle.history_text.specs.Printable.{AreGot, HasStrictness, IsGot}
use Rattle.audit_laws.specs.OfScript.{IsCauseOf, IsNoticeOf}

-- Functions of numbers that give some thing: what holds of each.
abbrev pub AllPut : {X : Type 0} → (ℕ → X → Type 0) → (ℕ → Option X) → Type 0
AllPut P f = (n : ℕ) → IfSome (f n) (P n)

pub put_all : {X : Type 0} (P : ℕ → X → Type 0) (k : ℕ) (x : Option X) (f : ℕ → Option X) → IfSome x (P k) → AllPut P f
    → AllPut P (put_at k x f)
put_all P k x f one all n = by (n == k) refl where
  by : (b : Bool) → (n == k) ≡ b → IfSome (if b then x else f n) (P n)
  by true is = let same : k ≡ n = grind (arith, nat_tests) in subst (λ (m : ℕ). IfSome x (P m)) same one
  by false is = all n

-- Open trees.

-- the notices that have come
abbrev AreNotes : ScriptData → List (Option Gets) → Type 0
AreNotes s ns = AllByRecursion (λ (o : Option Gets). IfSome o (AreGot s)) ns

abbrev IsOpen : ScriptData → ℕ → OpenTree → Type 0
IsOpen s t h = AreNotes s h.notices

abbrev pub AreOpen : ScriptData → OpenTrees → Type 0
AreOpen s hs = AllPut (IsOpen s) hs

none_yet : (s : ScriptData) (n : ℕ) → AreNotes s (replicate n None)
none_yet s zero = tt
none_yet s (suc n) = (tt, none_yet s n)

pub open_begun : (s : ScriptData) (t : TreeNo) (n : ℕ) (v : Version) (hs : OpenTrees) → AreOpen s hs → AreOpen s (begun t n v hs)
open_begun s t n v hs all = put_all (IsOpen s) t.0 (Some (new_tree n v)) hs (none_yet s n) all

one_noted : (s : ScriptData) (ns : List (Option Gets)) (k : ℕ) (vs : Gets) → AreGot s vs → AreNotes s ns
    → AreNotes s (slice_set ns k (Some vs))
one_noted s [] k vs one all = tt
one_noted s (o ∷ ns) zero vs one all = (one, all.1)
one_noted s (o ∷ ns) (suc k) vs one all = (all.0, one_noted s ns k vs one all.1)

of_noted : (s : ScriptData) (t : ℕ) (k : SubNo) (vs : Gets) (found : Option OpenTree) → AreGot s vs → IfSome found (IsOpen s t)
    → IfSome (noted_of k vs found) (IsOpen s t)
of_noted s t k vs None one all = tt
of_noted s t k vs (Some h) one all = one_noted s h.notices k.0 vs one all

after_all : (s : ScriptData) (t : TreeNo) (k : SubNo) (vs : Gets) (hs : OpenTrees) (o : Option Answered) → AreGot s vs → AreOpen s hs
    → AreOpen s (after_notice t k vs hs o)
after_all s t k vs hs None one all =
    put_all (IsOpen s) t.0 (noted_of k vs (home_in t hs)) hs (of_noted s t.0 k vs (home_in t hs) one (all t.0)) all
after_all s t k vs hs (Some a) one all = put_all (IsOpen s) t.0 None hs tt all

pub open_noted : (s : ScriptData) (t : TreeNo) (k : SubNo) (vs : Gets) (hs : OpenTrees) → AreGot s vs → AreOpen s hs
    → AreOpen s (homes_noted t k vs hs)
open_noted s t k vs hs one all = by (misses t k hs) where
  by : (b : Bool) → AreOpen s (if b then after_notice t k vs hs (answer_in t k vs hs) else hs)
  by true = after_all s t k vs hs (answer_in t k vs hs) one all
  by false = all

-- The values of an answer.
abbrev pub HasGot : ScriptData → Answered → Type 0
HasGot s a = AreGot s a.values

more_gathered : (s : ScriptData) (vs : Gets) (rest : Option Gets) → AreGot s vs → IfSome rest (AreGot s)
    → IfSome (prepended vs rest) (AreGot s)
more_gathered s vs None one all = tt
more_gathered s vs (Some ws) one all = all_append (IsGot s) vs ws one all

all_gathered : (s : ScriptData) (ns : List (Option Gets)) → AreNotes s ns → IfSome (gathered ns) (AreGot s)
all_gathered s [] all = tt
all_gathered s (None ∷ ns) all = tt
all_gathered s (Some vs ∷ ns) all = more_gathered s vs (gathered ns) all.0 (all_gathered s ns all.1)

with_values : (s : ScriptData) (t : TreeNo) (h : OpenTree) (found : Option Gets) → IfSome found (AreGot s)
    → IfSome (answer_with t h found) (HasGot s)
with_values s t h None all = tt
with_values s t h (Some vs) all = all

open_answer : (s : ScriptData) (t : TreeNo) (k : SubNo) (vs : Gets) (found : Option OpenTree) → AreGot s vs → IfSome found (IsOpen s t.0)
    → IfSome (answer_of t k vs found) (HasGot s)
open_answer s t k vs None one all = tt
open_answer s t k vs (Some h) one all =
    with_values s t h (gathered (slice_set h.notices k.0 (Some vs)))
    (all_gathered s (slice_set h.notices k.0 (Some vs)) (one_noted s h.notices k.0 vs one all))

pub answer_got : (s : ScriptData) (t : TreeNo) (k : SubNo) (vs : Gets) (hs : OpenTrees) → AreGot s vs → AreOpen s hs
    → IfSome (answer_noted t k vs hs) (HasGot s)
answer_got s t k vs hs one all = by (misses t k hs) where
  by : (b : Bool) → IfSome (if b then answer_in t k vs hs else None) (HasGot s)
  by true = open_answer s t k vs (home_in t hs) one (all t.0)
  by false = tt

-- Held answers.
abbrev IsHeldAnswer : ScriptData → ℕ → Held → Type 0
IsHeldAnswer s t h = HasGot s h.answered

abbrev pub AreHeldAnswers : ScriptData → HeldAnswers → Type 0
AreHeldAnswers s hs = AllPut (IsHeldAnswer s) hs

pub one_held : (s : ScriptData) (a : Answered) (n : ℕ) (hs : HeldAnswers) → HasGot s a → AreHeldAnswers s hs
    → AreHeldAnswers s (holding a n hs)
one_held s a n hs one all = put_all (IsHeldAnswer s) a.tree.0 (Some (held_for n a)) hs one all

fewer : (s : ScriptData) (t : ℕ) (found : Option Held) → IfSome found (IsHeldAnswer s t) → IfSome (acked_of found) (IsHeldAnswer s t)
fewer s t None all = tt
fewer s t (Some h) all = by (nat_lt 1 h.waits) _ where
  by : (b : Bool) (n : ℕ) → IfSome (if b then Some (held_for n h.answered) else None) (IsHeldAnswer s t)
  by true n = all
  by false n = tt

pub held_acked : (s : ScriptData) (t : TreeNo) (hs : HeldAnswers) → AreHeldAnswers s hs → AreHeldAnswers s (acked t hs)
held_acked s t hs all = put_all (IsHeldAnswer s) t.0 (acked_of (held_in t hs)) hs (fewer s t.0 (held_in t hs) (all t.0)) all

last_got : (s : ScriptData) (t : ℕ) (found : Option Held) → IfSome found (IsHeldAnswer s t) → IfSome (last_answer found) (HasGot s)
last_got s t None all = tt
last_got s t (Some h) all = by (nat_lt 1 h.waits) where
  by : (b : Bool) → IfSome (if b then None else Some h.answered) (HasGot s)
  by true = tt
  by false = all

pub acked_got : (s : ScriptData) (t : TreeNo) (hs : HeldAnswers) → AreHeldAnswers s hs → IfSome (answer_when_acked t hs) (HasGot s)
acked_got s t hs all = last_got s t.0 (held_in t hs) (all t.0)

-- Noes, which only strict trees have.
abbrev pub IsRefusal : ScriptData → ℕ → NegativeVote → Type 0
IsRefusal s t r = HasStrictness true (slice_get s.trees t) × IsCauseOf s r.cause

abbrev pub AreRefusals : ScriptData → Refusals → Type 0
AreRefusals s rs = AllPut (IsRefusal s) rs

least_refusal : (s : ScriptData) (t : ℕ) (old : Option NegativeVote) (r : NegativeVote) → IfSome old (IsRefusal s t) → IsRefusal s t r
    → IsRefusal s t (lesser old r)
least_refusal s t None r all one = one
least_refusal s t (Some q) r all one = by (nat_lt r.sub.0 q.sub.0) where
  by : (b : Bool) → IsRefusal s t (if b then r else q)
  by true = one
  by false = all

pub notice_refused : (s : ScriptData) (t : TreeNo) (k : SubNo) (notice : Notice) (rs : Refusals) → IsNoticeOf s t.0 notice
    → AreRefusals s rs → AreRefusals s (refused_by t k notice rs)
notice_refused s t k (No cause) rs of all =
    let r : NegativeVote = record { sub = k; cause = cause } in
    put_all (IsRefusal s) t.0 (Some (lesser (rs t.0) r)) rs (least_refusal s t.0 (rs t.0) r (all t.0) of) all
notice_refused s t k (Did vs) rs of all = all
notice_refused s t k (Yes vs) rs of all = all

pub refusal_gone : (s : ScriptData) (t : ℕ) (rs : Refusals) → AreRefusals s rs → AreRefusals s (put_at t None rs)
refusal_gone s t rs all = put_all (IsRefusal s) t None rs tt all

-- the values of a notice
pub notice_got : (s : ScriptData) (t : ℕ) (notice : Notice) → IsNoticeOf s t notice → AreGot s (values_of notice)
notice_got s t (Did vs) of = of.1
notice_got s t (Yes vs) of = of.1
notice_got s t (No cause) of = tt
