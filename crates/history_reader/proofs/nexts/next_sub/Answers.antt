use Rattle.std.proofs.Common.{◌∙◌, ◌∷◌, List, ℕ, ap, sym}
use Rattle.history_text.specs.Words.{name_of_tree}
use Rattle.history_reader.proofs.SubsThere.{not_there}
use Rattle.history_reader.proofs.nexts.next_sub.Goals as goal

pub returns-then-not-has_sub-clause-none : goal.returns-then-not-has_sub-clause-none
returns-then-not-has_sub-clause-none c =
    let s = c.args.script.now in
    let tree = c.in_ok-tree.tree in
    λ e t k rest same may. not_there s c.args.words.now c.next_half.new.words tree c.in_ok-sub.sub c.nodes-nodes.ensures.valid c.in_ok-tree.ensures.1
    (c.in_ok-tree.ensures.0 ∙ ap (λ (l : List (List ℕ)). name_of_tree s tree ∷ l) c.in_ok-sub.ensures.0) c.in_ok-sub.ensures.1 (sym c.has_sub.ensures ∙ c.if-not-has_sub.true) t k rest same may
