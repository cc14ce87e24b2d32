use Rattle.std.proofs.Common.{ℕ, IsTrue, List, get_or, sym, subst, arith}
use Rattle.letter_types.specs.declared.entries.Entry.{Entry}
use Rattle.tx_trees.specs.ScriptData.{ScriptData}
use Rattle.tx_trees.specs.declared.parts.Tree.{Tree}
use Rattle.board_model.specs.declared.serial.Member.{Member}
use Rattle.board_model.specs.inside.Balances.{subs_in}
use Rattle.board_model.specs.inside.May.{all_subs_may}
use Rattle.board_model.specs.SerialList.{IsSerial}
use Rattle.board_model.proofs.Carrying.{above, member_may, stops}
use Rattle.board_model.proofs.carried.carry.Goals as goal
use Rattle.board_model.proofs.carried.carry.Goals.{then-loop-place-test+else-members-place, else-loop-place-test}

pub all_after_tree-requires : goal.all_after_tree-requires
all_after_tree-requires c =
    let s : ScriptData = c.args.run.script.now in
    let h : List Entry = c.args.run.history.now in
    let ms : List Member = c.items-members.result.now in
    let d : Member = record { version = record { 0 = 0 }; tree = record { 0 = 0 } } in
    let p : ℕ = c.loop-place.place in
    let serial : IsSerial s h ms = subst (λ (z : List Member). IsSerial s h z) (sym c.items-members.ensures.items) c.requires.serial in
    subst (λ (z : List Tree). IsTrue (all_subs_may (subs_in z (get_or ms p d).tree.0) c.loop-place.values)) (sym c.trees-trees.ensures.trees)
    (member_may s h ms p d c.loop-place.values c.trees-trees.ensures.valid serial c.loop-place-test.true c.loop-place.invariant.values)

pub returns-clause-worths : goal.returns-clause-worths
returns-clause-worths c =
    let s : ScriptData = c.args.run.script.now in
    let h : List Entry = c.args.run.history.now in
    let ms : List Member = c.items-members.result.now in
    let d : Member = record { version = record { 0 = 0 }; tree = record { 0 = 0 } } in
    let p : ℕ = c.loop-place.place in
    let serial : IsSerial s h ms = subst (λ (z : List Member). IsSerial s h z) (sym c.items-members.ensures.items) c.requires.serial in
    let at = stops s h ms p c.args.version.0 c.loop-place.values serial c.loop-place.invariant.values c.loop-place.invariant.below in
    elim c.loop-place-test.branch [
      | then-loop-place-test+else-members-place w ↦ at (λ (e : Member) small. above ms p c.args.version.0 d e small w.if-members-place.false)
      | else-loop-place-test w ↦ at (λ (e : Member) small. absurd (omega (arith, small, w.loop-place-test.false)))
    ]
