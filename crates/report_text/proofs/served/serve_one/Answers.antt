use Rattle.std.proofs.Common.{◌≡◌, ◌+◌, ◌<◌, ℕ, List, length, get_or, ap, sym, ◌∙◌, subst, slice_set}
use Rattle.commute_ops.specs.declared.value.Value.{Value}
use Rattle.letter_types.specs.declared.entries.Entry.{Entry}
use Rattle.tx_trees.specs.ScriptData.{ScriptData, subs_at}
use Rattle.board_model.specs.Balances.{worths}
use Rattle.board_model.specs.declared.serial.Member.{Member}
use Rattle.report_text.specs.declared.served.Served.{Served}
use Rattle.report_text.specs.inside.Lines.{subs_texts}
use Rattle.report_text.specs.inside.Served.{AreAsked, IsServed}
use Rattle.report_text.proofs.Serving.{served_more}
use Rattle.report_text.proofs.served.serve_one.Goals as goal

pub returns-clause-served : goal.returns-clause-served
returns-clause-served c =
    let s : ScriptData = c.args.pass.run.script.now in
    let h : List Entry = c.args.pass.run.history.now in
    let serial : List Member = c.args.pass.run.serial.now in
    let list : List Member = c.items.result.now in
    let d : Member = record { version = record { 0 = 0 }; tree = record { 0 = 0 } } in
    let r : Served = c.args.served in
    let texts : List (List ℕ) = c.args.reads.now in
    let ask : Member = get_or list r.place d in
    let e : list ≡ c.args.pass.asks.now = c.items.ensures.items in
    let asked : AreAsked s h list = subst (λ (z : List Member). AreAsked s h z) (sym e) c.requires.asks in
    let served : IsServed s h serial list texts r = subst (λ (z : List Member). IsServed s h serial z texts r) (sym e) c.requires.served in
    let small : r.place < length list = subst (λ (z : List Member). r.place < length z) (sym e) c.requires.more in
    let values : c.items-2.result.now ≡ worths s h ask.version.0 = c.items-2.ensures.items ∙ c.in_ok-carried.ensures.worths in
    let text : c.in_ok-text.text ≡ subs_texts s.items (worths s h ask.version.0) (subs_at s ask.tree.0)
    = c.in_ok-text.ensures ∙ ap (λ (z : List Value). subs_texts s.items z (subs_at s ask.tree.0)) values in
    let next : Served = record { place = r.place + 1; carried = c.in_ok-carried.carried } in
    let done : IsServed s h serial list (slice_set texts ask.tree.0 c.in_ok-text.text) next
    = served_more s h serial list texts r c.in_ok-carried.carried c.in_ok-text.text d c.nodes-valid.ensures.valid asked served small
    c.in_ok-carried.ensures.carried c.in_ok-carried.ensures.version text in
    subst (λ (z : List Member). IsServed s h serial z c.put.new.self next) e
    (subst (λ (z : List (List ℕ)). IsServed s h serial list z next) (sym c.put.ensures.put) done)
