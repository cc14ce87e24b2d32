use Rattle.std.proofs.Common.{◌∷◌, ◌++◌, [], List, ap, ◌∙◌}
use Rattle.stamp_post.specs.Shown.{EnvelopeData}
use Rattle.actor_schedule.proofs.Trays.{one_more_tray}
use Rattle.actor_schedule.proofs.desk.Desk.new.Goals as goal

pub loop-actor-preserved : goal.loop-actor-preserved
loop-actor-preserved g c =
    c.in_ok-push.ensures.items
    ∙ ap (λ (t : List EnvelopeData). c.loop-actor.trays.items ++ t ∷ []) c.new.ensures
    ∙ ap (λ (ts : List (List EnvelopeData)). ts ++ [] ∷ []) c.loop-actor.invariant
    ∙ one_more_tray c.loop-actor._actor
