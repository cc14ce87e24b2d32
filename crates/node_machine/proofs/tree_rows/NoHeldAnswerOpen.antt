-- No open tree has a held answer, also after a subtransaction or a notice. A tree that is answered isn't open any more.
use Rattle.std.proofs.Common.{◌≡◌, ℕ, Bool, true, false, length, refl, ap, sym, subst, ◌∙◌, Option, Some, None, inl, inr}
use Rattle.std.specs.Prelude.{IsSome, is_some, not, if◌then◌else◌}
use Rattle.std.proofs.lemmas.Bool.{cases_eq}
use Rattle.tv_base.specs.declared.numbers.SubNo.{SubNo}
use Rattle.tv_base.specs.declared.numbers.TreeNo.{TreeNo}
use Rattle.tv_base.specs.declared.numbers.Version.{Version}
use Rattle.letter_types.specs.declared.bodies.Body.{Body}
use Rattle.letter_types.specs.declared.bodies.Body.TheVariants.{Root, Sub as SubLetter}
use Rattle.tree_home.proofs.Maps.{put_at-other, put_at-same}
use Rattle.tree_home.specs.HeldAnswers.{HeldAnswers, held_answers, held_in}
use Rattle.tree_home.specs.Homes.{Gets, OpenTrees, after_notice, answer_in, begun, home_in, misses, new_tree, noted, noted_of}
use Rattle.tree_home.specs.declared.homes.Answered.{Answered}
use Rattle.tree_home.specs.declared.homes.Held.{Held}
use Rattle.tree_home.specs.declared.homes.OpenTree.{OpenTree}
use Rattle.tree_home.proofs.Gathered.{answer_of_tree}
use Rattle.tx_trees.specs.ScriptData.{ScriptData, subs_at}
use Rattle.world_model.specs.Asked.{tree_part}
use Rattle.world_model.specs.Done.{TreeOut}
use Rattle.world_model.specs.Node.{Effect, Node}
use Rattle.world_model.specs.Notices.{answer_noted, homes_noted, values_of}
use Rattle.world_model.specs.Strict.{is_unheld}
use Rattle.tree_step.specs.Changes.{part_row}
use Rattle.tree_step.specs.Node.{data_of}
use Rattle.tree_step.specs.steps.TreeStep.{TreeStep}
use Rattle.tree_step.specs.Core.{AreApart}
use Rattle.tree_step.specs.declared.node_core.NodeCore.{NodeCore}
use Rattle.node_machine.specs.Answering.{IsApartAfter}

-- a tree that is open after a notice was open before
noted_some : (k : SubNo) (values : Gets) (o : Option OpenTree) → IsSome (noted_of k values o) → IsSome o
noted_some k values None some = some
noted_some k values (Some h) some = refl

pub none_some : (o : Option OpenTree) → o ≡ None → IsSome o → ⊥
none_some None is some = cc
none_some (Some h) is some = cc

abbrev some_of : Option OpenTree → Type 0
some_of o = IsSome o

open_by : (t u : TreeNo) (k : SubNo) (values : Gets) (hs : OpenTrees) (o : Option Answered)
    → IsSome (home_in u (after_notice t k values hs o)) → IsSome (home_in u hs)
open_by t u k values hs None there =
    elim (cases_eq u.0 t.0) [
      | inl eq ↦
          let here : home_in u (noted t k values hs) ≡ noted_of k values (hs t.0) =
          ap (λ (i : ℕ). noted t k values hs i) eq ∙ put_at-same t.0 (noted_of k values (hs t.0)) hs in
          subst some_of (ap (λ (i : ℕ). hs i) (sym eq)) (noted_some k values (hs t.0) (subst some_of here there))
      | inr ne ↦ subst some_of (put_at-other t.0 u.0 (noted_of k values (hs t.0)) hs ne) there
    ]
open_by t u k values hs (Some a) there =
    elim (cases_eq u.0 t.0) [
      | inl eq ↦
          let here : home_in u (after_notice t k values hs (Some a)) ≡ None =
          ap (λ (i : ℕ). after_notice t k values hs (Some a) i) eq ∙ put_at-same t.0 None hs in
          absurd (none_some (home_in u (after_notice t k values hs (Some a))) here there)
      | inr ne ↦ subst some_of (put_at-other t.0 u.0 None hs ne) there
    ]

open_if : (t u : TreeNo) (k : SubNo) (values : Gets) (hs : OpenTrees) (b : Bool)
    → IsSome (home_in u (if b then after_notice t k values hs (answer_in t k values hs) else hs)) → IsSome (home_in u hs)
open_if t u k values hs true there = open_by t u k values hs (answer_in t k values hs) there
open_if t u k values hs false there = there

pub apart_noted : (t : TreeNo) (k : SubNo) (values : Gets) (hs : OpenTrees) (held : HeldAnswers) → AreApart hs held
    → AreApart (homes_noted t k values hs) held
apart_noted t k values hs held apart = λ u there. apart u (open_if t u k values hs (misses t k hs) there)

-- a tree begins whose answer isn't held
apart_begun : (t : TreeNo) (n : ℕ) (v : Version) (hs : OpenTrees) (held : HeldAnswers) → held_in t held ≡ None
    → AreApart hs held → AreApart (begun t n v hs) held
apart_begun t n v hs held none apart = λ u there.
    elim (cases_eq u.0 t.0) [
      | inl eq ↦ ap (λ (i : ℕ). held i) eq ∙ none
      | inr ne ↦ apart u (subst some_of (put_at-other t.0 u.0 (Some (new_tree n v)) hs ne) there)
    ]

unheld_none : (o : Option Held) → not (is_some o) ≡ true → o ≡ None
unheld_none None is = refl
unheld_none (Some h) is = cc

pub root_unheld : (t : TreeNo) (held : HeldAnswers) → is_unheld (Root t) held ≡ true → held_in t held ≡ None
root_unheld t held is = unheld_none (held_in t held) is

-- so it is after a subtransaction
pub apart_tree : (s : ScriptData) (p from : ℕ) (v : Version) (raises : Bool) (e : Effect) (body : Body) (st : Node)
    (held : HeldAnswers) → is_unheld body held ≡ true → AreApart st.homes held
    → AreApart (tree_part s p from v raises e body st).out.state.homes held
apart_tree s p from v raises e (Root t) st held unheld apart =
    apart_noted t (record { 0 = 0 }) (values_of e.notice)
    (begun t (length (subs_at s t.0)) v st.homes) held
    (apart_begun t (length (subs_at s t.0)) v st.homes held (root_unheld t held unheld) apart)
apart_tree s p from v raises e (SubLetter t k w) st held unheld apart = apart
apart_tree s p from v raises e _ st held unheld apart = apart

-- the same of the plan of a part
pub apart_part : (part : TreeStep) (n : NodeCore) (o : TreeOut) → part_row part (data_of n.parts) ≡ o
    → AreApart o.out.state.homes (held_answers n.parts.homes) → IsApartAfter part n
apart_part part n o row apart =
    subst (λ (x : TreeOut). AreApart x.out.state.homes (held_answers n.parts.homes)) (sym row) apart

-- a tree that is answered is that of the notice, and isn't open any more
gone_by : (t : TreeNo) (k : SubNo) (values : Gets) (hs : OpenTrees) (a : Answered) (o : Option Answered) → o ≡ Some a
    → home_in t (after_notice t k values hs o) ≡ None
gone_by t k values hs a None is = cc
gone_by t k values hs a (Some b) is = put_at-same t.0 None hs

pub answered_gone : (t : TreeNo) (k : SubNo) (values : Gets) (hs : OpenTrees) (a : Answered)
    → answer_noted t k values hs ≡ Some a
    → (misses t k hs ≡ true) × (a.tree ≡ t) × (home_in a.tree (homes_noted t k values hs) ≡ None)
answered_gone t k values hs a is = by (misses t k hs) refl is
  where
    by : (b : Bool) → misses t k hs ≡ b → (if b then answer_in t k values hs else None) ≡ Some a
        → (misses t k hs ≡ true) × (a.tree ≡ t) × (home_in a.tree (homes_noted t k values hs) ≡ None)
    by false missed is = cc
    by true missed is =
        let same = answer_of_tree t k values (home_in t hs) a is in (
          missed,
          same,
          ap (λ (u : TreeNo). home_in u (homes_noted t k values hs)) same
              ∙ ap (λ (b : Bool). home_in t (if b then after_notice t k values hs (answer_in t k values hs) else hs)) missed
              ∙ gone_by t k values hs a (answer_in t k values hs) is,
        )
