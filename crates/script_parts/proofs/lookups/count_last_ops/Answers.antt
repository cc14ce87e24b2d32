use Rattle.std.proofs.Common.{length, List, ap, sym, ◌∙◌}
use Rattle.script_parts.specs.declared.parts.Sub.{Sub}
use Rattle.script_parts.specs.declared.parts.SubOp.{SubOp}
use Rattle.script_parts.specs.Adding.{last_of}
use Rattle.script_parts.proofs.Last.{last_count_is, last_got, last_sub_is, no_last_count}
use Rattle.script_parts.proofs.lookups.count_last_ops.Goals as goal

pub returns-in-Some-last : goal.returns-in-Some-last
returns-in-Some-last c =
    let ts = c.args.trees.now in
    let tree = sym (last_got ts) ∙ sym c.in-Some.ensures.value in
    let sub = ap (λ (ss : List Sub). last_of ss) (sym c.items.ensures.items) ∙ sym (last_got c.items.result.now) ∙ sym c.in-Some-last.ensures.value in
    ap (λ (os : List SubOp). length os) c.items-in-Some-last.ensures.items
    ∙ sym (last_count_is ts _ (last_sub_is ts _ _ tree sub))

pub returns-in-None-last : goal.returns-in-None-last
returns-in-None-last c =
    let ts = c.args.trees.now in
    let tree = sym (last_got ts) ∙ sym c.in-Some.ensures.value in
    let none = ap (λ (ss : List Sub). last_of ss) (sym c.items.ensures.items) ∙ sym (last_got c.items.result.now) ∙ sym c.in-None-last.ensures.value in
    sym (no_last_count ts _ tree none)
