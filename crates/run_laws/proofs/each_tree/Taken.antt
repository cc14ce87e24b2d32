-- Each message that a node takes in a run of any valid script is enabled there.
use Rattle.std.proofs.Common.{◌≡◌, ℕ, ◌<◌, true, List, [], ◌∷◌, reverse, sym, ap, subst, ◌∙◌}
use Rattle.letter_types.specs.Kept.{brought}
use Rattle.letter_types.specs.declared.entries.Entry.{Entry}
use Rattle.tx_trees.specs.ScriptData.{ScriptData, client_of}
use Rattle.tx_trees.specs.Valid.{IsValid}
use Rattle.world_model.specs.Keeping.{is_apt_brought}
use Rattle.world_model.specs.Kept.{kept_in}
use Rattle.world_model.specs.Runs.{IsStepRun, actor_after, AtNode, AtCoordinator, AtClient, Moves, keeping_in, AtRestarting}
use Rattle.world_model.specs.Tables.{ActorData}
use Rattle.world_model.proofs.Back.{client_leads, coordinator_leads, node_leads, restarting_leads}
use Rattle.tree_laws.proofs.histories.Histories.{before_more}
use Rattle.run_laws.specs.Taken.{IsAptFor, TakesWhatIsApt}
use Rattle.run_laws.proofs.each_tree.EveryApt.{all_apt}

-- the letter of an entry is apt for its actor
abbrev IsAptEntry : ScriptData → List Entry → Entry → Type 0
IsAptEntry s before e = IsAptFor s e.actor.0 (actor_after s before e.actor.0) e.took

-- where the actor is this one, and is in this state
in_state : (s : ScriptData) (before : List Entry) (e : Entry) (a : ℕ) (state : ActorData) → e.actor.0 ≡ a
    → actor_after s before a ≡ state → IsAptFor s e.actor.0 state e.took → IsAptEntry s before e
in_state s before e a state at is apt =
    subst (λ (d : ActorData). IsAptFor s e.actor.0 d e.took) (sym is ∙ sym (ap (actor_after s before) at)) apt

-- it is apt at its node
pub apt_here : (s : ScriptData) (past : List Entry) (e : Entry) → IsValid s → IsStepRun s (e ∷ past) → e.actor.0 < s.nodes
    → is_apt_brought s e.actor.0 (keeping_in s past e.actor.0) (brought (kept_in s past e.actor.0) e.took e.took.body) ≡ true
apt_here s past e valid run lt = (all_apt s (e ∷ past) valid run).0 lt

taken_by : (s : ScriptData) (past : List Entry) (e : Entry) → IsValid s → IsStepRun s (e ∷ past) → Moves s past e
    → IsAptEntry s (reverse past) e
taken_by s past e valid run (AtNode lt says) =
    subst (λ (d : ActorData). IsAptFor s e.actor.0 d e.took) (sym (node_leads s past e.actor.0 lt)) (apt_here s past e valid run lt)
taken_by s past e valid run (AtCoordinator at keeps says) =
    in_state s (reverse past) e s.nodes _ at (coordinator_leads s past keeps) tt
taken_by s past e valid run (AtRestarting at loses says) =
    in_state s (reverse past) e s.nodes _ at (restarting_leads s past loses) tt
taken_by s past e valid run (AtClient at says) =
    in_state s (reverse past) e (client_of s) _ at (client_leads s past) tt

-- in every run
pub taken_run : (s : ScriptData) (past : List Entry) → IsValid s → IsStepRun s past → TakesWhatIsApt s (reverse past)
taken_run s [] valid run = λ n e here. absurd (cc here)
taken_run s (e ∷ past) valid run =
    before_more (IsAptEntry s) e past (taken_run s past valid run.1) (taken_by s past e valid run run.0.moves)
