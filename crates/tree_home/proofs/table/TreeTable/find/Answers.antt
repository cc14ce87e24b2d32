use Rattle.std.proofs.Common.{◌≡◌, ◌∙◌, ℕ, List, Option, ap, get_or, sym}
use Rattle.tree_home.specs.declared.homes.OpenTree.{OpenTree}
use Rattle.tree_home.specs.Places.{opened_at}
use Rattle.tree_home.proofs.InPlaces.{view_by}
use Rattle.tree_home.proofs.table.TreeTable.find.Goals as goal

pub returns : goal.returns
returns c =
    let t = c.args.tree.0 in
    let is = c.self.inside.index.items in
    let ps = c.self.inside.places.items in
    let number : c.number_of.result ≡ get_or is t 0 =
    c.number_of.ensures ∙ ap (λ (xs : List ℕ). get_or xs t 0) c.as_slice-2.ensures.value in
    c.opened_at.ensures ∙ (λ i. opened_at (c.as_slice.ensures.value i) (number i))
    ∙ sym (ap (λ (hs : ℕ → Option OpenTree). hs t) (view_by is ps c.args.self.now c.self.view_is))
