use Rattle.std.proofs.Common.{◌≡◌, ◌-◌, length, sym, ap, ◌∙◌, arith, suc}
use Rattle.script_parts.specs.declared.parts.Tree.{Tree}
use Rattle.script_parts.proofs.Last.{last_at, last_kind_is}
use Rattle.script_parts.proofs.counts.last_kind.Goals as goal

pub returns : goal.returns
returns c =
    let e : suc (length c.args.trees.now - 1) ≡ length c.args.trees.now = omega (arith, c.requires) in
    let t = c.index-trees-trees.result in
    ap (λ (x : Tree). x.kind) (sym c.index-trees-trees.is) ∙ sym (last_kind_is c.args.trees.now t (last_at c.args.trees.now _ t e c.index-trees-trees.is))
