-- In every run, before each Did of a read transaction all writers of its version and older ones are complete.
use Rattle.std.proofs.Common.{◌≡◌, ℕ, suc, List, [], ◌∷◌, ◌++◌, take, reverse, refl, sym, ap, subst, ◌∙◌, Option, Some, None}
use Rattle.std.specs.Prelude.{slice_get}
use Rattle.tv_base.specs.declared.numbers.ItemNo.{ItemNo}
use Rattle.tv_base.specs.declared.numbers.Version.{Version}
use Rattle.commute_ops.specs.declared.value.Value.{Value}
use Rattle.letter_types.specs.declared.acts.Act.{Act}
use Rattle.letter_types.specs.declared.acts.Act.TheVariants.{Did, Finished}
use Rattle.letter_types.specs.declared.entries.Entry.{Entry}
use Rattle.script_parts.specs.declared.parts.SubOp.{SubOp}
use Rattle.script_parts.specs.ScriptData.{ScriptData, ops_of}
use Rattle.script_parts.specs.Valid.{IsValid}
use Rattle.world_model.specs.Runs.{IsStepRun}
use Rattle.board_rules.specs.Histories.{Place, version_in}
use Rattle.board_rules.specs.Right.{IsRightAct, IsShown, with_worths}
use Rattle.board_rules.specs.Worth.{worth_in}
use Rattle.board_rules.proofs.AtPositions.{at_position}
use Rattle.board_rules.proofs.Wholes.{version_more}
use Rattle.tree_laws.proofs.apt.AptVersions.{before}
use Rattle.run_laws.proofs.each_tree.Wholes.{born_with}
use Rattle.run_laws.specs.Stays.{AreWritersWhole, ComesAfterWriters, WritersAreFirst}
use Rattle.run_laws.proofs.births.ReadPlaces.{ShownAt, each_in_place, shown_at, take_next, whole_there}
use Rattle.run_laws.proofs.worth.Right.{right_run}

-- What is shown is shown at a version.
pub record ShowsIn (f : ℕ → ℕ → Value) (os : List SubOp) (values : List (ItemNo × Value)) (o : Option Version) : Type 0 where
  pub version : Version
  pub is : o ≡ Some version
  pub right : values ≡ with_worths (λ (x : ℕ). f x version.0) os

pub shows_in : (f : ℕ → ℕ → Value) (os : List SubOp) (values : List (ItemNo × Value)) (o : Option Version) → IsShown f os values o
    → ShowsIn f os values o
shows_in f os values None right = absurd right
shows_in f os values (Some v) right = record { version = v; is = refl; right = right }

-- it is the tree's version in the whole run
pub kept_version : (past : List Entry) (i t : ℕ) (y : Place) (v : Version) → slice_get (before past) i ≡ Some y
    → version_in t (take i (before past) ++ y ∷ []) ≡ Some v → born_with past t ≡ Some v
kept_version past i t y v is born =
    version_more t (suc i) v (before past) (sym (ap (version_in t) (take_next (before past) i y is)) ∙ born)

-- each act of a run is right at its position
pub right_there : (s : ScriptData) (past : List Entry) (i : ℕ) (y : Place) → IsValid s → IsStepRun s past → slice_get (before past) i ≡ Some y
    → (b : List Entry) × IsRightAct s b (take i (before past) ++ y ∷ []) y.act
right_there s past i y valid run is =
    let at = at_position (λ (b : List Entry) (xs : List Place) (z : Place). IsRightAct s b (xs ++ z ∷ []) z.act) (reverse past)
    (right_run s past valid run) i y is in
    (take at.entry (reverse past), at.holds)

first_act : (s : ScriptData) (past b : List Entry) (i : ℕ) (y : Place) (a : Act) → IsValid s → IsStepRun s past
    → slice_get (before past) i ≡ Some y → IsRightAct s b (take i (before past) ++ y ∷ []) a
    → ComesAfterWriters s (reverse past) (take i (before past)) a
first_act s past b i y (Did t k values) valid run is right = λ read.
    let upto : List Place = take i (before past) ++ y ∷ [] in
    let o = shows_in (worth_in s upto) (ops_of s t.0 k.0) values (version_in t.0 upto) (right read) in
    let at : ShownAt s past i o.version.0 = shown_at s past i t.0 y o.version valid run is read o.is in
    subst (AreWritersWhole s (reverse past) (take i (before past))) (sym (kept_version past i t.0 y o.version is o.is))
    (λ u w writes born le. whole_there s past i o.version.0 u w valid run at writes born le)
first_act s past b i y Finished valid run is right = tt
first_act s past b i y _ valid run is right = tt

pub writers_first : (s : ScriptData) (past : List Entry) → IsValid s → IsStepRun s past → WritersAreFirst s (reverse past)
writers_first s past valid run =
    each_in_place (λ (xs : List Place) (y : Place). ComesAfterWriters s (reverse past) xs y.act) (reverse past)
    (λ i y is. let r = right_there s past i y valid run is in first_act s past r.0 i y y.act valid run is r.1)
