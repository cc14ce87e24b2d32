-- What an entry leaves that isn't the coordinator's: the state of a coordinator that forgets, and what was given.
use Rattle.std.proofs.Common.{◌≡◌, ◌≢◌, ◌==◌, false, List, ◌∷◌, refl, arith}
use Rattle.std.proofs.lemmas.Bool.Decides.{nat_tests}
use Rattle.letter_types.specs.declared.entries.Entry.{Entry}
use Rattle.tx_trees.specs.ScriptData.{ScriptData}
use Rattle.world_model.specs.AllApt.{AllApt}
use Rattle.world_model.specs.Runs.{IsStepRun, restarting_in}
use Rattle.advance_laws.specs.Given.{greatest_given}
use Rattle.advance_laws.specs.Phases.{Stage}
use Rattle.advance_laws.proofs.phases.GivenInPhase.{given_by}
use Rattle.advance_laws.proofs.governed.Lawful.{IsTreeLawful}
use Rattle.advance_laws.proofs.right.Sending.{sending}

pub restarting_kept : (s : ScriptData) (past : List Entry) (e : Entry) → e.actor.0 ≢ s.nodes
    → restarting_in s (e ∷ past) ≡ restarting_in s past
restarting_kept s past e ne = let no : (e.actor.0 == s.nodes) ≡ false = grind (arith, nat_tests) in rw no refl

pub given_kept : (g : Stage) (s : ScriptData) (past : List Entry) (e : Entry) → IsTreeLawful s → IsStepRun s (e ∷ past)
    → AllApt s (e ∷ past)
    → e.actor.0 ≢ s.nodes → greatest_given g (e ∷ past) ≡ greatest_given g past
given_kept g s past e laws run apt away = given_by g s past e away (sending s past e laws run apt)
