use Rattle.std.proofs.Common.{ℕ, List, ◌∙◌, sym, subst}
use Rattle.script_parts.specs.declared.parts.Sub.{Sub}
use Rattle.board_judge.specs.Notes.{subs_noted}
use Rattle.board_judge.specs.inside.Rewriting.{AllSubsSuit, HasNoted, kinds_of}
use Rattle.board_judge.proofs.Rewritten.{noted_nothing, subs_found, subs_nowhere, tree_suits}
use Rattle.board_judge.proofs.rewriting.note_tree.Goals as goal

pub returns-in_default-clause-noted : goal.returns-in_default-clause-noted
returns-in_default-clause-noted c =
    noted_nothing c.args.script.now c.args.version.0 c.args.tree.0 c.args.kept.now.worths.items
    (subs_nowhere c.args.script.now c.trees.result.now c.args.tree.0 c.trees.ensures.trees c.in_default.ensures.lookup.0)

pub note_subs-requires : goal.note_subs-requires
note_subs-requires c =
    let found = subs_found c.args.script.now c.trees.result.now c.args.tree.0 c.in-Some.tree.now c.trees.ensures.trees c.in-Some.ensures.lookup.0 c.in-Some.ensures.lookup.1 in
    subst (AllSubsSuit (kinds_of c.args.kept.now.worths.items)) (found ∙ sym c.items.ensures.items)
    (tree_suits c.args.script.now c.args.tree.0 c.args.kept.now.worths.items c.trees.ensures.valid c.requires)

pub returns-clause-noted : goal.returns-clause-noted
returns-clause-noted c =
    let found = subs_found c.args.script.now c.trees.result.now c.args.tree.0 c.in-Some.tree.now c.trees.ensures.trees c.in-Some.ensures.lookup.0 c.in-Some.ensures.lookup.1 in
    subst (λ (subs : List Sub). HasNoted (λ (x : ℕ). subs_noted c.args.version.0 x subs) c.args.kept.now.worths.items c.note_subs.new.kept.worths.items)
    (c.items.ensures.items ∙ sym found) c.in_ok-note_subs.ensures.noted
