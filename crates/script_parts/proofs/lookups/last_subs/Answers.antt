use Rattle.std.proofs.Common.{◌≡◌, ◌-◌, length, List, arith, ap, sym, ◌∙◌, suc}
use Rattle.script_parts.specs.declared.parts.Sub.{Sub}
use Rattle.script_parts.specs.declared.parts.Tree.{Tree}
use Rattle.script_parts.proofs.Last.{last_at, last_subs_is}
use Rattle.script_parts.proofs.lookups.last_subs.Goals as goal

pub returns : goal.returns
returns c =
    let e : suc (length c.args.trees.now - 1) ≡ length c.args.trees.now = omega (arith, c.requires) in
    let t = c.index-trees-trees.result in
    ap (λ (s : List Sub). length s) c.items.ensures.items ∙ ap (λ (x : Tree). length x.subs) (sym c.index-trees-trees.is) ∙ sym (last_subs_is c.args.trees.now t (last_at c.args.trees.now _ t e c.index-trees-trees.is))
