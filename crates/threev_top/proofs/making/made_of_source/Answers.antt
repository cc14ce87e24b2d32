use Rattle.std.proofs.Common.{refl}
use Rattle.std.proofs.lemmas.Result.{err_from_is_err_and}
use Rattle.tv_base.specs.Outside.{Rose}
use Rattle.history_audit.specs.Audits.{ReadsAll}
use Rattle.threev_top.specs.inside.Calls.{bytes_of}
use Rattle.threev_top.proofs.Causes.{reading_cause, script_cause, text_of_source}
use Rattle.threev_top.proofs.making.made_of_source.Goals as goal

pub returns-clause-made : goal.returns-clause-made
returns-clause-made g c =
    let left = g.S.Source.left c.args.source.now in
    let now = g.S.Source.left c.read_all.new.source in
    let all : ReadsAll left now c.in_ok-bytes.bytes.items = (c.in_ok-bytes.ensures.all, c.in_ok-bytes.ensures.end) in
    text_of_source c.args.mode left now c.in_ok-bytes.bytes.items c.deref.result.now c.in_ok-script.script
    c.in_ok-made.made.history (bytes_of c.in_ok-made.made.output) all c.deref.ensures.value c.in_ok-script.ensures.script
    c.in_ok-made.ensures

pub returns-in_err-bytes-clause-cause : goal.returns-in_err-bytes-clause-cause
returns-in_err-bytes-clause-cause g c =
    let p = err_from_is_err_and c.from_residual.result c.from_residual.ensures.1 in
    rw (p.1, p.2)
    (reading_cause c.args.mode (g.S.Source.left c.args.source.now) (g.S.Source.left c.read_all.new.source)
    (Rose (g.S.Source.faults c.args.source.now) (g.S.Source.faults c.read_all.new.source)) ⊥ c.in_err-bytes.field-0.0
    (λ e. c.in_err-bytes.ensures.long (rw e refl)) (λ e. c.in_err-bytes.ensures.cause (rw e refl)))

pub returns-in_err-script-clause-cause : goal.returns-in_err-script-clause-cause
returns-in_err-script-clause-cause g c =
    let p = err_from_is_err_and c.from_residual-in_err-script.result c.from_residual-in_err-script.ensures.1 in
    let left = g.S.Source.left c.args.source.now in
    let now = g.S.Source.left c.read_all.new.source in
    let all : ReadsAll left now c.in_ok-bytes.bytes.items = (c.in_ok-bytes.ensures.all, c.in_ok-bytes.ensures.end) in
    rw (p.1, p.2)
    (script_cause c.args.mode left now
    (Rose (g.S.Source.faults c.args.source.now) (g.S.Source.faults c.read_all.new.source)) ⊥ c.in_ok-bytes.bytes.items
    c.deref.result.now c.in_err-script.field-0.0 all c.deref.ensures.value c.in_err-script.ensures.script)
