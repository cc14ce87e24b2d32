use Rattle.std.proofs.Common.{◌≡◌, ◌<◌, ◌++◌, [], List, ap, arith, append-nil, length, set, ◌∙◌}
use Rattle.std.proofs.lemmas.List.{drop_all}
use Rattle.stamp_post.specs.Shown.{EnvelopeData}
use Rattle.actor_schedule.specs.Desks.{DeskData, empty_trays}
use Rattle.actor_schedule.proofs.Trays.{emptied_next}
use Rattle.actor_schedule.proofs.dispatch.Dispatch.flush.Goals as goal

pub loop-actor-preserved : goal.loop-actor-preserved
loop-actor-preserved g c =
    let i = c.loop-actor.invariant in
    let actor = c.loop-actor.actor in
    let trays = c.args.desk.now.trays in
    let all = ap (λ (d : DeskData). length d.trays) c.desk.view_is in
    let within : actor < length trays = omega (arith, all, c.desk.invariant, c.loop-actor-test.true, c.args.self.now.has_actors) in
    record {
      hand = i.hand;
      trays =
          ap (λ (t : List EnvelopeData). set c.loop-actor.desk-inside.trays.items actor t) c.in_ok-put_tray.ensures.ok
          ∙ ap (λ (ts : List (List EnvelopeData)). set ts actor []) i.trays
          ∙ emptied_next actor trays within;
    }

pub returns-clause-ok : goal.returns-clause-ok
returns-clause-ok g c =
    let i = c.loop-actor.invariant in
    let actor = c.loop-actor.actor in
    let trays = c.args.desk.now.trays in
    let all = ap (λ (d : DeskData). length d.trays) c.desk.view_is in
    let last : actor ≡ g.P.PostName.post.actors = omega (arith, c.loop-actor.auto.actor-end, c.loop-actor-test.false, c.args.self.now.has_actors) in
    i.trays
    ∙ ap (λ (ts : List (List EnvelopeData)). empty_trays actor ++ ts) (drop_all actor trays (omega (arith, all, c.desk.invariant, last)))
    ∙ append-nil (empty_trays actor)
    ∙ ap empty_trays last
