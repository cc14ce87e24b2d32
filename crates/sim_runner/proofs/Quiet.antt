-- The entry that a world's step makes sends only for a quiescent version.
use Rattle.std.proofs.Common.{◌≡◌, false, List, [], ◌∷◌, ◌++◌, reverse, ap, ◌∙◌, subst}
use Rattle.std.proofs.lemmas.List.{reverse-append}
use Rattle.letter_types.specs.declared.entries.Entry.{Entry}
use Rattle.letter_types.specs.declared.entries.Outgoing.{Outgoing}
use Rattle.run_laws.proofs.each_tree.InTime.{anew_run, given_run}
use Rattle.advance_laws.specs.Given.{IsGivenAnew}
use Rattle.advance_laws.specs.Quiet.{IsGivenInQuiet}
use Rattle.tx_trees.specs.ScriptData.{ScriptData}
use Rattle.tx_trees.specs.Valid.{IsValid}
use Rattle.world_model.specs.Counts.{Each}
use Rattle.tx_trees.specs.Counts.{is_lossy}
use Rattle.world_model.specs.Runs.{IsStepRun}

one_more : (s : ScriptData) (old new : List Entry) → IsStepRun s (reverse new) → (e : Entry) → new ≡ old ++ e ∷ [] → IsStepRun s (e ∷ reverse old)
one_more s old new run e is =
    let more : reverse new ≡ e ∷ reverse old = ap reverse is ∙ reverse-append old (e ∷ []) in subst (IsStepRun s) more run

pub given_step : (s : ScriptData) (old new : List Entry) → IsValid s → is_lossy s ≡ false → IsStepRun s (reverse new) → (e : Entry)
    → new ≡ old ++ e ∷ [] → Each (λ (o : Outgoing). IsGivenInQuiet s (reverse old) o.body) e.sent
given_step s old new valid keeps run e is = given_run s (reverse old) e valid keeps (one_more s old new run e is)

-- or what nodes were told before
pub anew_step : (s : ScriptData) (old new : List Entry) → IsValid s → IsStepRun s (reverse new) → (e : Entry) → new ≡ old ++ e ∷ []
    → Each (λ (o : Outgoing). IsGivenAnew s (reverse old) o.body) e.sent
anew_step s old new valid run e is = anew_run s (reverse old) e valid (one_more s old new run e is)
