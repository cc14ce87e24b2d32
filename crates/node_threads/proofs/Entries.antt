-- A step of an actor, and where its entries lead with one more.
use Rattle.std.proofs.Common.{◌≡◌, ℕ, List, sym, ap, ◌∙◌, subst}
use Rattle.letter_types.specs.declared.entries.Entry.{Entry}
use Rattle.letter_types.specs.declared.entries.Letter.{Letter}
use Rattle.letter_types.specs.declared.entries.StepOut.{StepOut}
use Rattle.letter_types.specs.Steps.{Out, made}
use Rattle.stamp_post.specs.Shown.{OutboxData, PostId}
use Rattle.tx_trees.specs.ScriptData.{ScriptData}
use Rattle.world_model.specs.Tables.{ActorData, actor_row}
use Rattle.world_core.specs.declared.actor.ActorState.{ActorState}
use Rattle.world_core.specs.Actors.{IsFor, actor_data}
use Rattle.history_merge.specs.OwnLogs.{Handled, led_to, row_there}
use Rattle.history_merge.proofs.OneMore.{leads_on}
use Rattle.node_threads.specs.Cells.{LeadsTo}

-- what a step says of the actor that made it
pub record Stepped (s : ScriptData) (n : ℕ) (es : List Entry) (before now : ActorState) (l : Letter) (out : StepOut) : Type 0 where
  pub leads : LeadsTo s n es before
  pub row : made (actor_data now) out ≡ actor_row s l.to.0 (actor_data before) l
  pub script : IsFor s now
  pub home : l.to.0 ≡ n

-- what the code knows of a step says it
pub stepped : (s script : ScriptData) (n number : ℕ) (es : List Entry) (before now : ActorState) (l letter : Letter) (out : StepOut) → LeadsTo s n es before
    → made (actor_data now) out ≡ actor_row script letter.to.0 (actor_data before) letter → script ≡ s → letter ≡ l → IsFor script now
    → l.to.0 ≡ number → n ≡ number → Stepped s n es before now l out
stepped s script n number es before now l letter out leads row same_script same for_script to here = record {
  leads = leads;
  row = row ∙ (λ k. actor_row (same_script k) (same k).to.0 (actor_data before) (same k));
  script = subst (λ (x : ScriptData). IsFor x now) same_script for_script;
  home = to ∙ sym here;
}

-- the step is the row where the entries lead
pub is_row : (s : ScriptData) (n : ℕ) (es : List Entry) (before now : ActorState) (l : Letter) (out : StepOut)
    → Stepped s n es before now l out → made (actor_data now) out ≡ row_there s n es l
is_row s n es before now l out is = is.row ∙ (λ k. actor_row s (is.home k) (is.leads.state k) l)

-- with the entry of the step, the entries lead to the new state
pub leads_more : (post : PostId) (s : ScriptData) (n : ℕ) (es new : List Entry) (before now : ActorState) (l : Letter) (out : StepOut)
    (made given : List Entry) (box : OutboxData) → Stepped s n es before now l out → Handled post n es new l made given box → LeadsTo s n new now
leads_more post s n es new before now l out made given box is h = record {
  state = ap (λ (o : Out ActorData). o.state) (is_row s n es before now l out is)
      ∙ sym (leads_on s n es h.entry l h.took) ∙ ap (led_to s n) (sym h.entries);
  script = is.script;
}
