use Rattle.std.proofs.Common.{◌&&◌, Bool, List, ap, sym, ◌∙◌, subst, Contains}
use Rattle.std.specs.List.{list_any}
use Rattle.std.proofs.lemmas.Option.{IfSome_then}
use Rattle.letter_types.specs.declared.acts.Act.{Act}
use Rattle.letter_types.specs.declared.acts.Act.TheVariants.{Did}
use Rattle.board_rules.specs.Histories.{does, places_of, was_done}
use Rattle.meter_ledger.proofs.Reported.{done_in, got_right}
use Rattle.meter_ledger.proofs.report.reported.Goals as goal

pub returns-clause-values : goal.returns-clause-values
returns-clause-values c =
    IfSome_then c.got_in.result c.got_in.ensures.values
    (λ values among. got_right c.args.script.now c.args.history.now c.args.tree c.args.sub values.now c.requires
    (sym c.if-not-is_read.ensures)
    (subst (λ (acts : List Act). Contains acts (Did c.args.tree c.args.sub values.now)) c.acts.ensures among))

pub returns-clause-some : goal.returns-clause-some
returns-clause-some c =
    c.got_in.ensures.some
    ∙ ap (λ (acts : List Act). list_any (does c.args.tree.0 c.args.sub.0) acts) c.acts.ensures
    ∙ done_in c.args.tree.0 c.args.sub.0 c.args.history.now
    ∙ ap (λ (b : Bool). b && was_done c.args.tree.0 c.args.sub.0 (places_of c.args.history.now)) c.if-not-is_read.ensures
