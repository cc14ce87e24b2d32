-- What is kept of a message changes neither to whom orders go nor how many advances are wanted, so the coordinator
-- resumes as its table says.
use Rattle.std.proofs.Common.{◌≡◌, ◌+◌, ◌∙◌, ap, sym, ℕ, List, [], ◌∷◌, Some, true, refl}
use Rattle.std.specs.Prelude.{is_some, max}
use Rattle.std.specs.List.{list_all}
use Rattle.letter_types.specs.declared.bodies.Body.TheVariants.{Advanced, Order}
use Rattle.letter_types.specs.declared.entries.Outgoing.{Outgoing}
use Rattle.world_model.specs.Coordinator.{version, to_nodes}
use Rattle.world_model.specs.declared.restarting.RestartPhase.{RestartPhase}
use Rattle.world_model.specs.declared.restarting.RestartPhase.TheVariants.{Idle, Recovering, Doing, Counting, Paused}
use Rattle.world_model.specs.Restarting.{AllTold, Restarting, orders, target, to_client, enter_telling, in_restart_phase, with_advances, phase_by, least_low, recover, resume, resume_if}
use Rattle.coord_restart.specs.declared.change.Onward.{Onward}
use Rattle.coord_restart.specs.declared.change.Taken.{Taken}
use Rattle.coord_restart.specs.declared.change.Taken.TheVariants.{Nothing, Row, Nudge, Numbers, Sent}
use Rattle.coord_restart.specs.RestartChanges.{caught_up, onward, with_taken}

same_nodes : (taken : Taken) (c : Restarting) → c.nodes ≡ (with_taken taken c).nodes
same_nodes Nothing c = refl
same_nodes (Row row) c = refl
same_nodes Nudge c = refl
same_nodes (Numbers from t) c = refl
same_nodes (Sent k) c = refl

same_epoch : (taken : Taken) (c : Restarting) → c.epoch ≡ (with_taken taken c).epoch
same_epoch Nothing c = refl
same_epoch (Row row) c = refl
same_epoch Nudge c = refl
same_epoch (Numbers from t) c = refl
same_epoch (Sent k) c = refl

same_wanted : (taken : Taken) (c : Restarting) → c.wanted ≡ (with_taken taken c).wanted
same_wanted Nothing c = refl
same_wanted (Row row) c = refl
same_wanted Nudge c = refl
same_wanted (Numbers from t) c = refl
same_wanted (Sent k) c = refl

-- orders by their nodes, epoch and number of advancements
same_orders : (phase : RestartPhase) (c d : Restarting) → c.nodes ≡ d.nodes → c.epoch ≡ d.epoch → c.ended ≡ d.ended
    → orders phase c ≡ orders phase d
same_orders (Doing what) c d nodes epoch ended = λ i. to_nodes (nodes i) (Order (epoch i) what (target what (ended i)))
same_orders Idle c d nodes epoch ended = refl
same_orders Recovering c d nodes epoch ended = refl
same_orders (Counting reads) c d nodes epoch ended = refl
same_orders (Paused reads) c d nodes epoch ended = refl

-- the messages with which a phase begins, if the client hears first
letters_told : (taken : Taken) (phase : RestartPhase) (wanted f : ℕ) (c : Restarting)
    → to_client (Advanced (version f)) c ∷ orders phase (record c { ended = f })
    ≡ (enter_telling phase (with_advances wanted f (with_taken taken c))).sent
letters_told taken phase wanted f c = λ i.
    record { to = record { 0 = same_nodes taken c i + 1 }; body = Advanced (version f) }
    ∷ same_orders phase (record c { ended = f }) (with_advances wanted f (with_taken taken c)) (same_nodes taken c)
    (same_epoch taken c) refl i

-- so a phase that begins so is that of the table
pub telling : (taken : Taken) (phase : RestartPhase) (wanted f : ℕ) (c : Restarting) (sent : List Outgoing)
    → sent ≡ to_client (Advanced (version f)) c ∷ orders phase (record c { ended = f })
    → record { state = in_restart_phase phase (with_advances wanted f (with_taken taken c)); sent = sent; acts = [] }
    ≡ enter_telling phase (with_advances wanted f (with_taken taken c))
telling taken phase wanted f c sent is = λ i. record {
  state = in_restart_phase phase (with_advances wanted f (with_taken taken c));
  sent = (is ∙ letters_told taken phase wanted f c) i;
  acts = [];
}

-- and a coordinator that goes on so, once it was told by each node and by the client, recovers
resumes : (taken : Taken) (k : ℕ) (c : Restarting) (ts : AllTold) (wanted : ℕ) → ts ≡ (with_taken taken c).told → wanted ≡ max c.wanted k
    → enter_telling (onward wanted ts).phase (caught_up taken (onward wanted ts) c) ≡ resume k (with_taken taken c)
resumes taken k c ts wanted told want =
    let d : Restarting = with_taken taken c in
    ap (λ (w : ℕ). enter_telling (phase_by ts w (least_low ts)) (with_advances w (least_low ts) d)) want
    ∙ ap (λ (zs : AllTold). enter_telling (phase_by zs (max c.wanted k) (least_low zs)) (with_advances (max c.wanted k) (least_low zs) d)) told
    ∙ ap (λ (w : ℕ). enter_telling (phase_by d.told (max w k) (least_low d.told)) (with_advances (max w k) (least_low d.told) d)) (same_wanted taken c)

recovers : (d : Restarting) (k : ℕ) → list_all is_some d.told ≡ true → d.heard ≡ Some k → resume k d ≡ recover d
recovers d k all heard = sym (λ i. resume_if (all i) (heard i) d)

pub goes_on : (taken : Taken) (k : ℕ) (c : Restarting) (ts : AllTold) (wanted : ℕ) (o : Onward) → ts ≡ (with_taken taken c).told
    → wanted ≡ max c.wanted k → o ≡ onward wanted ts → list_all is_some ts ≡ true → (with_taken taken c).heard ≡ Some k
    → enter_telling o.phase (caught_up taken o c) ≡ recover (with_taken taken c)
goes_on taken k c ts wanted o told want is all heard =
    ap (λ (next : Onward). enter_telling next.phase (caught_up taken next c)) is
    ∙ resumes taken k c ts wanted told want
    ∙ recovers (with_taken taken c) k (sym (ap (list_all is_some) told) ∙ all) heard
