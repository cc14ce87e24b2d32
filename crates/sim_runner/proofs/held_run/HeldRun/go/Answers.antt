use Rattle.std.proofs.Common.{◌≡◌, ◌∙◌, Bool, true, false, reverse, sym, ap, subst}
use Rattle.std.specs.Prelude.{IfSome, slice_get}
use Rattle.growth_laws.specs.Growth.{IsFront}
use Rattle.world_core.specs.Actors.{WorldData}
use Rattle.world_core.specs.Growth.{StaysUnfinished}
use Rattle.world_model.specs.Runs.{client_in}
use Rattle.sim_runner.specs.Held.{HeldData, IsRunBy}
use Rattle.sim_runner.proofs.Held.{front_more, run_taken, unfinished_step}
use Rattle.sim_runner.proofs.held_run.HeldRun.go.Goals as goal
use Rattle.sim_runner.proofs.held_run.HeldRun.go.Goals.{else-not-all-via-then-not-all+else-ends_with, else-not-all-via-else-not-all}

both : (all : Bool) → all ≡ true → all ≡ false → ⊥
both true is none = cc none
both false is none = cc is

pub loop-self-preserved : goal.loop-self-preserved
loop-self-preserved g c =
    let script = c.args.script.now in
    let inv = c.loop-self.invariant in
    let inside = c.self-in-loop-self.inside in
    let w : WorldData = inside.world in
    let r : HeldData g.row.P.Denot = record { world = inside.world; picker = inside.picker; chosen = inside.chosen } in
    let here : w ≡ c.loop-self.self.world = ap (λ (v : HeldData g.row.P.Denot). v.world) c.self-in-loop-self.view_is ∙ c.choose-place.ensures.world in
    let took = c.in_ok-step.ensures.took in
    record {
      world = c.in_ok-step.ensures.world;
      run = λ start by.
          run_taken g.P.Picker.place g.P.Picker.after script start r c.choose-place.result c.step.new.self
          (subst (λ (v : HeldData g.row.P.Denot). IsRunBy g.P.Picker.place g.P.Picker.after script start v) (sym c.self-in-loop-self.view_is)
          (c.choose-place.ensures.run script start (inv.run start by)))
          (ap (λ (v : HeldData g.row.P.Denot). v.chosen) c.self-in-loop-self.view_is ∙ c.choose-place.ensures.chosen)
          took c.in_ok-step.ensures.world;
      later =
          front_more c.args.self.now.world.history w.history c.step.new.self.history took.0
          (subst (λ (v : WorldData). IsFront c.args.self.now.world.history v.history) (sym here) inv.later) took.1;
      unfinished = λ all first.
          let before : (client_in script (reverse w.history)).finished ≡ false =
          subst (λ (v : WorldData). (client_in script (reverse v.history)).finished ≡ false) (sym here) (inv.unfinished all first) in
          let stays : IfSome (slice_get w.bag c.choose-place.result) (StaysUnfinished script (reverse w.history)) =
          elim c.else-not-all.branch [
            | else-not-all-via-then-not-all+else-ends_with b ↦ b.ends_with.ensures.stays b.if-ends_with.false
            | else-not-all-via-else-not-all b ↦ absurd (both c.args.all b.if-not-all.false all)
          ] in
          unfinished_step script w c.step.new.self c.choose-place.result took c.in_ok-step.ensures.world stays before;
    }
