use Rattle.std.proofs.Common.{◌≡◌, ◌∙◌, ◌-◌, ℕ, suc, List, Option, ap, arith, get_or, subst, sym}
use Rattle.std.specs.Prelude.{IsTrue, slice_get}
use Rattle.tree_home.specs.declared.homes.OpenTree.{OpenTree}
use Rattle.tree_home.specs.Homes.{misses_of, noted_of}
use Rattle.tree_home.specs.Maps.{by_tree, put_at}
use Rattle.tree_home.specs.Places.{opened_in}
use Rattle.tree_home.proofs.Gathered.{misses-there}
use Rattle.tree_home.proofs.InPlaces.{IsChangedIn, changed_in, found_by, table-ascends, there, there_opened, view_by}
use Rattle.tree_home.proofs.table.TreeTable.note.Goals as goal

pub overflow_sub-number : goal.overflow_sub-number
overflow_sub-number c =
    let is = c.self.inside.index.items in
    let ps = c.self.inside.places.items in
    let t = c.args.tree.0 in
    let number = c.number_of-number.result in
    let num : number ≡ get_or is t 0 =
    c.number_of-number.ensures ∙ ap (λ (xs : List ℕ). get_or xs t 0) c.as_slice.ensures.value in
    let some = misses-there c.args.tree c.args.sub (by_tree c.args.self.now) c.requires in
    let held = there is ps c.self.inside.used t number c.args.self.now c.self.invariant c.self.view_is some num in
    omega arith

pub note_at-requires : goal.note_at-requires
note_at-requires c =
    let is = c.self.inside.index.items in
    let ps = c.self.inside.places.items in
    let t = c.args.tree.0 in
    let number = c.number_of-number.result in
    let num : number ≡ get_or is t 0 =
    c.number_of-number.ensures ∙ ap (λ (xs : List ℕ). get_or xs t 0) c.as_slice.ensures.value in
    let some = misses-there c.args.tree c.args.sub (by_tree c.args.self.now) c.requires in
    let held = there is ps c.self.inside.used t number c.args.self.now c.self.invariant c.self.view_is some num in
    let next : number ≡ suc (number - 1) = omega arith in
    let here = there_opened is ps t (number - 1) c.args.self.now c.self.view_is (sym num ∙ next) in
    subst (λ (o : Option OpenTree). IsTrue (misses_of c.args.sub o)) here c.requires

pub invariant_of-self : goal.invariant_of-self
invariant_of-self c =
    let is = c.self.inside.index.items in
    let ps = c.self.inside.places.items in
    let t = c.args.tree.0 in
    let number = c.number_of-number.result in
    let num : number ≡ get_or is t 0 =
    c.number_of-number.ensures ∙ ap (λ (xs : List ℕ). get_or xs t 0) c.as_slice.ensures.value in
    let some = misses-there c.args.tree c.args.sub (by_tree c.args.self.now) c.requires in
    let held = there is ps c.self.inside.used t number c.args.self.now c.self.invariant c.self.view_is some num in
    let next : number ≡ suc (number - 1) = omega arith in
    let here = there_opened is ps t (number - 1) c.args.self.now c.self.view_is (sym num ∙ next) in
    let o = noted_of c.args.sub c.args.values (opened_in (slice_get ps (number - 1))) in
    let changed : IsChangedIn ps c.note_at.new.places.items (number - 1) o = record {
      place = c.note_at.ensures.place;
      tree = c.note_at.ensures.tree;
      places = c.note_at.ensures.others;
      long = c.note_at.ensures.length;
    } in
    let all =
    changed_in is ps c.note_at.new.places.items c.self.inside.used t (number - 1) o c.self.invariant (sym num ∙ next)
    changed in
    all.0

pub returns-clause-noted : goal.returns-clause-noted
returns-clause-noted c =
    let is = c.self.inside.index.items in
    let ps = c.self.inside.places.items in
    let t = c.args.tree.0 in
    let number = c.number_of-number.result in
    let num : number ≡ get_or is t 0 =
    c.number_of-number.ensures ∙ ap (λ (xs : List ℕ). get_or xs t 0) c.as_slice.ensures.value in
    let some = misses-there c.args.tree c.args.sub (by_tree c.args.self.now) c.requires in
    let held = there is ps c.self.inside.used t number c.args.self.now c.self.invariant c.self.view_is some num in
    let next : number ≡ suc (number - 1) = omega arith in
    let here = there_opened is ps t (number - 1) c.args.self.now c.self.view_is (sym num ∙ next) in
    let o = noted_of c.args.sub c.args.values (opened_in (slice_get ps (number - 1))) in
    let changed : IsChangedIn ps c.note_at.new.places.items (number - 1) o = record {
      place = c.note_at.ensures.place;
      tree = c.note_at.ensures.tree;
      places = c.note_at.ensures.others;
      long = c.note_at.ensures.length;
    } in
    let all =
    changed_in is ps c.note_at.new.places.items c.self.inside.used t (number - 1) o c.self.invariant (sym num ∙ next)
    changed in
    let was = sym here in
    let seen = sym (view_by is ps c.args.self.now c.self.view_is) in
    found_by is c.note_at.new.places.items ∙ all.1
    ∙ (λ i. put_at t (noted_of c.args.sub c.args.values (was i)) (seen i))

pub returns-clause-ascending : goal.returns-clause-ascending
returns-clause-ascending c = table-ascends c.self.inside.index.items c.note_at.new.places.items
