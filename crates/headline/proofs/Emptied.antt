-- A run in which no message is left has ended.
use Rattle.std.proofs.Common.{◌≡◌, List, [], reverse, ap, ◌∙◌, arith}
use Rattle.std.proofs.lemmas.List.{length-reverse, reverse-reverse}
use Rattle.letter_types.specs.declared.entries.Entry.{Entry}
use Rattle.world_model.specs.Coordinator.{Coordinator}
use Rattle.tx_trees.specs.ScriptData.{ScriptData}
use Rattle.tx_trees.specs.Valid.{IsValid}
use Rattle.world_model.specs.Runs.{IsStepRun, in_flight}
use Rattle.world_model.proofs.Bridge.{coordinator_after}
use Rattle.advance_laws.proofs.phases.Small.{rounds_by_trees}
use Rattle.run_laws.proofs.ending.Bounds.{entries_few}
use Rattle.run_laws.proofs.ending.Ends.{no_run_stalls}
use Rattle.run_laws.proofs.ending.Entries.{entries_counted}
use Rattle.run_laws.proofs.each_tree.EveryApt.{all_apt, lawful}
use Rattle.headline.proofs.Promised.{headline_past}
use Rattle.run_laws.proofs.ending.NoRounds.{no_rounds}
use Rattle.headline.specs.Ended.{HasEnded}

pub ended_past : (s : ScriptData) (past : List Entry) → IsValid s → IsStepRun s past → in_flight s past ≡ [] → HasEnded s (reverse past)
ended_past s past valid run left = record {
  headline = headline_past s past valid run (no_run_stalls s past valid run left).1;
  left = ap (in_flight s) (reverse-reverse past) ∙ left;
  most = omega (arith, length-reverse past, entries_few s past valid run);
  entries = λ keeps plain. length-reverse past ∙ entries_counted s past valid keeps plain run left;
  rounds = λ keeps. omega (
    arith,
    rounds_by_trees s past (lawful s valid keeps) run (all_apt s past valid run),
    ap (λ (c : Coordinator). c.count.number) (coordinator_after s past),
  );
  no_rounds = λ keeps still. no_rounds s past valid keeps run still;
}
