use Rattle.std.proofs.Common.{arith, get_or, ◌≡◌, ◌+◌, sym, refl, subst}
use Rattle.script_parts.specs.ScriptData.{ScriptData}
use Rattle.script_parts.specs.Amounts.{magnitude}
use Rattle.script_parts.specs.Counts.{one_put}
use Rattle.script_parts.specs.inside.Passing.{MayAddOp}
use Rattle.script_parts.proofs.Lists.{cell_is}
use Rattle.tx_trees.proofs.Kept.{kept_op}
use Rattle.tx_trees.proofs.Stays.{some_last_subs}
use Rattle.tx_trees.proofs.script.Script.put_op.Goals as goal

pub push_op-requires-clause-subs : goal.push_op-requires-clause-subs
push_op-requires-clause-subs c =
    let h = c.self.invariant.valid in
    let may = subst (λ (d : ScriptData). MayAddOp d c.args.item c.args.deed) (sym c.self.view_is) c.requires.may in
    some_last_subs _ _ _ h.trees (h.begun may.begun)

pub invariant_of-self-2 : goal.invariant_of-self-2
invariant_of-self-2 c =
    let s = c.self.inside in
    let k = c.args.item in
    let may = subst (λ (d : ScriptData). MayAddOp d k c.args.deed) (sym c.self.view_is) c.requires.may in
    let a = cell_is s.totals.items k c.index_mut.result.now (omega (arith, c.self.invariant.len, may.item)) c.index_mut.ensures.value in
    let b = cell_is s.puts.items k c.index_mut-2.result.now (omega (arith, c.self.invariant.puts_len, may.item)) c.index_mut-2.ensures.value in
    let total : c.index_mut.result.now + c.args.size ≡ get_or s.totals.items k 0 + magnitude c.args.deed = omega (arith, a, c.requires.size) in
    let puts : c.index_mut-2.result.now + c.one_put.result ≡ get_or s.puts.items k 0 + one_put c.args.deed = omega (arith, b, c.one_put.ensures) in
    kept_op s c.push_op.new.trees k _ _ _ c.args.deed c.in_ok-push_op.ensures.ok total puts refl may c.self.invariant
