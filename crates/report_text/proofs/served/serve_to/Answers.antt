use Rattle.std.proofs.Common.{◌≡◌, List, length, ap, arith}
use Rattle.tv_base.specs.declared.numbers.Version.{Version}
use Rattle.letter_types.specs.declared.entries.Entry.{Entry}
use Rattle.tx_trees.specs.ScriptData.{ScriptData}
use Rattle.board_model.specs.declared.serial.Member.{Member}
use Rattle.report_text.specs.declared.served.Served.{Served}
use Rattle.report_text.proofs.Serving.{next_later, served_at}
use Rattle.report_text.proofs.served.serve_to.Goals as goal
use Rattle.report_text.proofs.served.serve_to.Goals.{then-loop-now-test+else-list-now, else-loop-now-test}

pub returns-clause-served : goal.returns-clause-served
returns-clause-served c =
    let s : ScriptData = c.args.pass.run.script.now in
    let h : List Entry = c.args.pass.run.history.now in
    let asks : List Member = c.args.pass.asks.now in
    let list : List Member = c.items-list.result.now in
    let d : Member = record { version = record { 0 = 0 }; tree = record { 0 = 0 } } in
    let r : Served = c.loop-now.now in
    let same : list ≡ asks = c.items-list.ensures.items in
    let version : c.in_ok-carried.carried.version.0 ≡ c.args.version.0 = ap (λ (v : Version). v.0) c.in_ok-carried.ensures.version in
    let at = served_at s h c.args.pass.run.serial.now asks c.loop-now.reads r c.in_ok-carried.carried c.requires.asks c.loop-now.invariant.served
    c.in_ok-carried.ensures.carried in
    elim c.loop-now-test.branch [
      | then-loop-now-test+else-list-now w ↦
          at (λ (e : Member) small.
          next_later list asks r.place c.args.version.0 c.in_ok-carried.carried.version.0 d e same version w.if-list-now.false small)
      | else-loop-now-test w ↦
          at (λ (e : Member) small. absurd (omega (arith, small, w.loop-now-test.false, ap (λ (z : List Member). length z) same)))
    ]
