-- In every run what the steps of read transactions gave stays right: it is what the whole history has at their
-- versions.
use Rattle.std.proofs.Common.{◌≡◌, ℕ, List, [], ◌∷◌, ◌++◌, take, reverse, refl, sym, ap, subst, ◌∙◌, Some}
use Rattle.std.specs.Prelude.{slice_get}
use Rattle.commute_ops.specs.declared.value.Value.{Value}
use Rattle.letter_types.specs.declared.acts.Act.{Act}
use Rattle.letter_types.specs.declared.acts.Act.TheVariants.{Did, Finished}
use Rattle.letter_types.specs.declared.entries.Entry.{Entry}
use Rattle.script_parts.specs.declared.parts.SubOp.{SubOp}
use Rattle.script_parts.specs.ScriptData.{ScriptData, ops_of}
use Rattle.script_parts.specs.Valid.{IsValid}
use Rattle.world_model.specs.Runs.{IsStepRun}
use Rattle.board_rules.specs.Histories.{Place, version_in}
use Rattle.board_rules.specs.Right.{IsRightAct, IsShown, with_worths}
use Rattle.board_rules.specs.Worth.{worth, worth_in}
use Rattle.tree_laws.proofs.apt.AptVersions.{before}
use Rattle.run_laws.specs.Stays.{ReadsStayRight, Shows}
use Rattle.run_laws.proofs.births.ReadPlaces.{ShownAt, each_in_place, shown_at, take_next, worth_upto}
use Rattle.run_laws.proofs.worth.WritersFirst.{kept_version, right_there, shows_in}

pub same_worths : (f g : ℕ → Value) (os : List SubOp) → ((x : ℕ) → f x ≡ g x) → with_worths f os ≡ with_worths g os
same_worths f g [] same = refl
same_worths f g (o ∷ os) same = let one = same o.item.0 in let rest = same_worths f g os same in cc

stays_act : (s : ScriptData) (past b : List Entry) (i : ℕ) (y : Place) (a : Act) → IsValid s → IsStepRun s past
    → slice_get (before past) i ≡ Some y → IsRightAct s b (take i (before past) ++ y ∷ []) a → Shows (worth s (reverse past)) s (reverse past) a
stays_act s past b i y (Did t k values) valid run is right = λ read.
    let upto : List Place = take i (before past) ++ y ∷ [] in
    let os : List SubOp = ops_of s t.0 k.0 in
    let o = shows_in (worth_in s upto) os values (version_in t.0 upto) (right read) in
    let at : ShownAt s past i o.version.0 = shown_at s past i t.0 y o.version valid run is read o.is in
    subst (IsShown (worth s (reverse past)) os values) (sym (kept_version past i t.0 y o.version is o.is))
    (o.right
    ∙ same_worths (λ (x : ℕ). worth_in s upto x o.version.0) (λ (x : ℕ). worth s (reverse past) x o.version.0) os (λ x.
    ap (λ (zs : List Place). worth_in s zs x o.version.0) (take_next (before past) i y is)
    ∙ worth_upto s past i x o.version.0 valid run at))
stays_act s past b i y Finished valid run is right = tt
stays_act s past b i y _ valid run is right = tt

pub shown_stays : (s : ScriptData) (past : List Entry) → IsValid s → IsStepRun s past → ReadsStayRight s (reverse past)
shown_stays s past valid run =
    each_in_place (λ (xs : List Place) (y : Place). Shows (worth s (reverse past)) s (reverse past) y.act) (reverse past)
    (λ i y is. let r = right_there s past i y valid run is in stays_act s past r.0 i y y.act valid run is r.1)
