use Rattle.std.proofs.Common.{◌≡◌, ◌∙◌, ◌-◌, ◌<◌, ℕ, suc, List, Option, None, ap, arith, get_or, set, sym}
use Rattle.tree_home.specs.declared.homes.OpenTree.{OpenTree}
use Rattle.tree_home.specs.Maps.{put_at}
use Rattle.tree_home.proofs.InPlaces.{close_all, found_by, in_index, table-ascends, there, view_by}
use Rattle.tree_home.proofs.table.TreeTable.forget.Goals as goal

pub overflow_sub-number : goal.overflow_sub-number
overflow_sub-number c =
    let is = c.self.inside.index.items in
    let num : c.number_of-number.result ≡ get_or is c.args.tree.0 0 =
    c.number_of-number.ensures ∙ ap (λ (xs : List ℕ). get_or xs c.args.tree.0 0) c.as_slice.ensures.value in
    let held =
    there is c.self.inside.places.items c.self.inside.used c.args.tree.0 c.number_of-number.result c.args.self.now
    c.self.invariant c.self.view_is c.requires num in
    omega arith

pub overflow_sub-self-inside : goal.overflow_sub-self-inside
overflow_sub-self-inside c =
    let is = c.self.inside.index.items in
    let num : c.number_of-number.result ≡ get_or is c.args.tree.0 0 =
    c.number_of-number.ensures ∙ ap (λ (xs : List ℕ). get_or xs c.args.tree.0 0) c.as_slice.ensures.value in
    let held =
    there is c.self.inside.places.items c.self.inside.used c.args.tree.0 c.number_of-number.result c.args.self.now
    c.self.invariant c.self.view_is c.requires num in
    omega arith

pub close-moved-requires-clause-place : goal.close-moved-requires-clause-place
close-moved-requires-clause-place c =
    let is = c.self.inside.index.items in
    let num : c.number_of-number.result ≡ get_or is c.args.tree.0 0 =
    c.number_of-number.ensures ∙ ap (λ (xs : List ℕ). get_or xs c.args.tree.0 0) c.as_slice.ensures.value in
    let held =
    there is c.self.inside.places.items c.self.inside.used c.args.tree.0 c.number_of-number.result c.args.self.now
    c.self.invariant c.self.view_is c.requires num in
    omega arith

pub close-moved-requires-clause-last : goal.close-moved-requires-clause-last
close-moved-requires-clause-last c =
    let is = c.self.inside.index.items in
    let num : c.number_of-number.result ≡ get_or is c.args.tree.0 0 =
    c.number_of-number.ensures ∙ ap (λ (xs : List ℕ). get_or xs c.args.tree.0 0) c.as_slice.ensures.value in
    let held =
    there is c.self.inside.places.items c.self.inside.used c.args.tree.0 c.number_of-number.result c.args.self.now
    c.self.invariant c.self.view_is c.requires num in
    let within = c.self.invariant.within in
    omega arith

pub index_mut-requires : goal.index_mut-requires
index_mut-requires c =
    let is = c.self.inside.index.items in
    let num : c.number_of-number.result ≡ get_or is c.args.tree.0 0 =
    c.number_of-number.ensures ∙ ap (λ (xs : List ℕ). get_or xs c.args.tree.0 0) c.as_slice.ensures.value in
    let held =
    there is c.self.inside.places.items c.self.inside.used c.args.tree.0 c.number_of-number.result c.args.self.now
    c.self.invariant c.self.view_is c.requires num in
    let last = c.self.inside.used - 1 in
    let lt : last < c.self.inside.used = omega arith in
    let moved = in_index is c.close-moved.result.0 last (c.self.invariant.listed c.close-moved.result.0 last lt c.close-moved.ensures.moved) in
    let long = c.self.inside.index.ok.0 in
    omega arith

pub index_mut-requires-2 : goal.index_mut-requires-2
index_mut-requires-2 c =
    let is = c.self.inside.index.items in
    let num : c.number_of-number.result ≡ get_or is c.args.tree.0 0 =
    c.number_of-number.ensures ∙ ap (λ (xs : List ℕ). get_or xs c.args.tree.0 0) c.as_slice.ensures.value in
    let held =
    there is c.self.inside.places.items c.self.inside.used c.args.tree.0 c.number_of-number.result c.args.self.now
    c.self.invariant c.self.view_is c.requires num in
    let long = c.self.inside.index.ok.0 in
    omega arith

pub overflow_sub-self : goal.overflow_sub-self
overflow_sub-self c =
    let is = c.self.inside.index.items in
    let num : c.number_of-number.result ≡ get_or is c.args.tree.0 0 =
    c.number_of-number.ensures ∙ ap (λ (xs : List ℕ). get_or xs c.args.tree.0 0) c.as_slice.ensures.value in
    let held =
    there is c.self.inside.places.items c.self.inside.used c.args.tree.0 c.number_of-number.result c.args.self.now
    c.self.invariant c.self.view_is c.requires num in
    omega arith

pub invariant_of-self : goal.invariant_of-self
invariant_of-self c =
    let is = c.self.inside.index.items in
    let ps = c.self.inside.places.items in
    let t = c.args.tree.0 in
    let number = c.number_of-number.result in
    let num : number ≡ get_or is t 0 =
    c.number_of-number.ensures ∙ ap (λ (xs : List ℕ). get_or xs t 0) c.as_slice.ensures.value in
    let held = there is ps c.self.inside.used t number c.args.self.now c.self.invariant c.self.view_is c.requires num in
    let next : number ≡ suc (number - 1) = omega arith in
    let more : c.self.inside.used ≡ suc (c.self.inside.used - 1) = omega arith in
    (close_all is ps c.close-moved.new.places.items c.self.inside.used (c.self.inside.used - 1) t number (number - 1)
    c.close-moved.result.0 c.self.invariant more next (sym num ∙ next) c.close-moved.ensures.moved
    c.close-moved.ensures.place c.close-moved.ensures.others c.close-moved.ensures.length).0

pub returns-clause-forgotten : goal.returns-clause-forgotten
returns-clause-forgotten c =
    let is = c.self.inside.index.items in
    let ps = c.self.inside.places.items in
    let t = c.args.tree.0 in
    let number = c.number_of-number.result in
    let num : number ≡ get_or is t 0 =
    c.number_of-number.ensures ∙ ap (λ (xs : List ℕ). get_or xs t 0) c.as_slice.ensures.value in
    let held = there is ps c.self.inside.used t number c.args.self.now c.self.invariant c.self.view_is c.requires num in
    let next : number ≡ suc (number - 1) = omega arith in
    let more : c.self.inside.used ≡ suc (c.self.inside.used - 1) = omega arith in
    let all =
    close_all is ps c.close-moved.new.places.items c.self.inside.used (c.self.inside.used - 1) t number (number - 1)
    c.close-moved.result.0 c.self.invariant more next (sym num ∙ next) c.close-moved.ensures.moved
    c.close-moved.ensures.place c.close-moved.ensures.others c.close-moved.ensures.length in
    found_by (set (set is c.close-moved.result.0 number) t 0) c.close-moved.new.places.items ∙ all.1
    ∙ sym (ap (λ (hs : ℕ → Option OpenTree). put_at t None hs) (view_by is ps c.args.self.now c.self.view_is))

pub returns-clause-ascending : goal.returns-clause-ascending
returns-clause-ascending c =
    table-ascends (set (set c.self.inside.index.items c.close-moved.result.0 c.number_of-number.result) c.args.tree.0 0)
    c.close-moved.new.places.items
