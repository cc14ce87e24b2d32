-- What the laws above need of advancements, whichever coordinator a script has: what holds in each run in which every
-- message that came to a node was enabled.
use Rattle.std.proofs.Common.{◌≡◌, ℕ, ◌<◌, true, false, List, ◌∷◌, [], sym, ◌∙◌, refl, Some}
use Rattle.letter_types.specs.Kept.{brought}
use Rattle.letter_types.specs.declared.bodies.Body.{Body}
use Rattle.letter_types.specs.declared.bodies.Body.TheVariants.{Go, Order}
use Rattle.letter_types.specs.declared.entries.Entry.{Entry}
use Rattle.letter_types.specs.declared.entries.Letter.{Letter}
use Rattle.letter_types.specs.declared.entries.Outgoing.{Outgoing}
use Rattle.tx_trees.specs.ScriptData.{ScriptData}
use Rattle.tx_trees.specs.Valid.{IsValid}
use Rattle.world_model.specs.AllApt.{AllApt}
use Rattle.world_model.specs.Core.{Core}
use Rattle.world_model.specs.Counts.{Each}
use Rattle.world_model.specs.Epochs.{is_core_timely}
use Rattle.world_model.specs.Kept.{kept_in}
use Rattle.tx_trees.specs.Counts.{is_lossy}
use Rattle.world_model.specs.Named.{is_timely}
use Rattle.world_model.specs.Runs.{IsStepRun, keeping_in, node_in}
use Rattle.world_model.specs.Strict.{decides_near}
use Rattle.world_model.specs.Meant.{IsMeant}
use Rattle.advance_laws.specs.Balance.{IsBalanced}
use Rattle.advance_laws.specs.Given.{IsGivenAnew, greatest_given}
use Rattle.advance_laws.specs.Phases.{Stage}
use Rattle.advance_laws.proofs.governed.Advancing.{IsAdvancing}
use Rattle.advance_laws.proofs.counting.Below.{balanced}
use Rattle.advance_laws.proofs.governed.Brought.{BringsTo, brought_meant}
use Rattle.advance_laws.proofs.phases.Closing.{answer_near, letter_timely}
use Rattle.advance_laws.proofs.phases.GivenInPhase.{advancing, given_acted, given_anew}
use Rattle.advance_laws.proofs.governed.Lawful.{IsLawful}

-- the next letter that is brought to a node is timely, and answers no tree too late; versions are balanced; advancements are as
-- they should be; and what is told is what was told before, or the next version, in quiet, by entries that have no act
pub record IsGoverned (s : ScriptData) : Type 0 where
  pub valid : IsValid s
  pub timely : (past : List Entry) (e : Entry) (r : Letter) → IsStepRun s (e ∷ past) → AllApt s past → e.actor.0 < s.nodes
      → brought (kept_in s past e.actor.0) e.took e.took.body ≡ Some r → is_core_timely s (keeping_in s past e.actor.0).core r.body ≡ true
  pub near : (past : List Entry) (e : Entry) (r : Letter) → IsStepRun s (e ∷ past) → AllApt s past → e.actor.0 < s.nodes
      → brought (kept_in s past e.actor.0) e.took e.took.body ≡ Some r → decides_near s (node_in s past e.actor.0) r.body ≡ true
  pub balanced : (past : List Entry) → IsStepRun s past → AllApt s past → IsBalanced s past
  pub advancing : (past : List Entry) → IsStepRun s past → AllApt s past → IsAdvancing s past
  pub anew : (past : List Entry) (e : Entry) → IsStepRun s (e ∷ past) → AllApt s (e ∷ past)
      → Each (λ (o : Outgoing). IsGivenAnew s past o.body) e.sent
  pub acted : (g : Stage) (past : List Entry) (e : Entry) → IsStepRun s (e ∷ past) → AllApt s (e ∷ past) → (e.acts ≡ [] → ⊥)
      → greatest_given g (e ∷ past) ≡ greatest_given g past

-- where no order of a coordinator that forgets comes, a letter comes in time to the core where it does to the node
core_timely : (s : ScriptData) (c : Core) (from p : ℕ) (body : Body) → is_lossy s ≡ false → IsMeant s from p body
    → is_timely s c.node body ≡ true → is_core_timely s c body ≡ true
core_timely s c from p (Order e what v) keeps meant timely = absurd (cc (sym keeps ∙ meant.1))
core_timely s c from p Go keeps meant timely = timely
core_timely s c from p _ keeps meant timely = timely

-- the coordinator that remembers
pub remembering : (s : ScriptData) → IsLawful s → IsGoverned s
remembering s laws = record {
  valid = laws.trees.valid;
  timely = λ past e r run apt lt is.
      let b : BringsTo s past e e.actor.0 r = record { at = refl; below = lt; brings = is } in
      core_timely s (keeping_in s past e.actor.0).core r.from.0 e.actor.0 r.body laws.keeps (brought_meant s past e e.actor.0 r laws.trees.valid b run)
      (letter_timely s past e r laws run apt lt is);
  near = λ past e r run apt lt is. answer_near s past e r laws run apt lt is;
  balanced = λ past run apt. balanced s past laws run apt;
  advancing = λ past run apt. advancing s past laws run apt;
  anew = λ past e run apt. given_anew s past e laws run apt;
  acted = λ g past e run apt acts. given_acted g s past e laws run apt acts;
}
