use Rattle.std.proofs.Common.{◌≡◌, List, arith, ◌∙◌, ap, sym, subst}
use Rattle.script_parts.specs.Adding.{last_tree_subs}
use Rattle.script_parts.specs.Loads.{MayReload, Reloads}
use Rattle.script_parts.specs.declared.parts.Sub.{Sub}
use Rattle.script_parts.specs.declared.parts.Tree.{Tree}
use Rattle.script_parts.proofs.Last.{subs_at_last}
use Rattle.script_parts.proofs.failing.reload_last.Goals as goal

pub reload-requires : goal.reload-requires
reload-requires c =
    let same : c.items.result.now ≡ last_tree_subs c.args.trees.now =
    subs_at_last c.args.trees.now _ c.index-trees-trees.result _ (omega (arith, c.requires.some)) c.index-trees-trees.is (c.items.ensures.items ∙ ap (λ (x : Tree). x.subs) (sym c.index-trees-trees.is)) in
    subst (λ (x : List Sub). MayReload c.args.totals.now.items x c.args.on.now) (sym same) c.requires.may

pub returns : goal.returns
returns c =
    let same : c.items.result.now ≡ last_tree_subs c.args.trees.now =
    subs_at_last c.args.trees.now _ c.index-trees-trees.result _ (omega (arith, c.requires.some)) c.index-trees-trees.is (c.items.ensures.items ∙ ap (λ (x : Tree). x.subs) (sym c.index-trees-trees.is)) in
    subst (λ (x : List Sub). Reloads c.args.most c.args.totals.now.items c.reload.new.totals.items x c.args.on.now c.reload.result) same c.reload.ensures
