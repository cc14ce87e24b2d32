use Rattle.std.proofs.Common.{◌≡◌, ◌∙◌, ◌+◌, ℕ, Option, None, Some, ap, arith, refl, set, sym}
use Rattle.tree_home.specs.declared.homes.OpenTree.{OpenTree}
use Rattle.tree_home.specs.Homes.{new_tree}
use Rattle.tree_home.specs.Maps.{put_at}
use Rattle.tree_home.specs.Places.{opened_by}
use Rattle.tree_home.proofs.InPlaces.{SameInUse, err_always, found_by, kept_all, open_all, table-ascends, view-ascends, view_by}
use Rattle.tree_home.proofs.table.TreeTable.begin.Goals as goal

pub invariant_of-self : goal.invariant_of-self
invariant_of-self c =
    let is = c.self.inside.index.items in
    let js = c.make_room.new.index.items in
    let ps = c.self.inside.places.items in
    let same : SameInUse is js ps ps c.self.inside.used = record {
      numbers = c.make_room.ensures.same;
      places = λ p lt. refl;
      long = c.self.invariant.within;
    } in
    (kept_all is js ps ps c.self.inside.used c.args.self.now c.self.invariant same c.self.view_is).0

pub returns-in_err-make_room-clause-err : goal.returns-in_err-make_room-clause-err
returns-in_err-make_room-clause-err c =
    let is = c.self.inside.index.items in
    let js = c.make_room.new.index.items in
    let ps = c.self.inside.places.items in
    let same : SameInUse is js ps ps c.self.inside.used = record {
      numbers = c.make_room.ensures.same;
      places = λ p lt. refl;
      long = c.self.invariant.within;
    } in
    err_always c.from_residual.result
    (kept_all is js ps ps c.self.inside.used c.args.self.now c.self.invariant same c.self.view_is).1

pub returns-in_err-make_room-clause-ascending : goal.returns-in_err-make_room-clause-ascending
returns-in_err-make_room-clause-ascending c =
    table-ascends c.make_room.new.index.items c.self.inside.places.items

pub returns-in_err-make_room-clause-was_ascending : goal.returns-in_err-make_room-clause-was_ascending
returns-in_err-make_room-clause-was_ascending c =
    view-ascends c.self.inside.index.items c.self.inside.places.items c.args.self.now c.self.view_is

pub invariant_of-self-in_err-make_place : goal.invariant_of-self-in_err-make_place
invariant_of-self-in_err-make_place c =
    let is = c.self.inside.index.items in
    let js = c.make_room.new.index.items in
    let ps = c.self.inside.places.items in
    let qs = c.make_place.new.places.items in
    let same : SameInUse is js ps qs c.self.inside.used = record {
      numbers = c.make_room.ensures.same;
      places = c.make_place.ensures.same;
      long = c.make_place.ensures.length;
    } in
    (kept_all is js ps qs c.self.inside.used c.args.self.now c.self.invariant same c.self.view_is).0

pub returns-in_err-make_place-clause-err : goal.returns-in_err-make_place-clause-err
returns-in_err-make_place-clause-err c =
    let is = c.self.inside.index.items in
    let js = c.make_room.new.index.items in
    let ps = c.self.inside.places.items in
    let qs = c.make_place.new.places.items in
    let same : SameInUse is js ps qs c.self.inside.used = record {
      numbers = c.make_room.ensures.same;
      places = c.make_place.ensures.same;
      long = c.make_place.ensures.length;
    } in
    err_always c.from_residual-in_err-make_place.result
    (kept_all is js ps qs c.self.inside.used c.args.self.now c.self.invariant same c.self.view_is).1

pub returns-in_err-make_place-clause-ascending : goal.returns-in_err-make_place-clause-ascending
returns-in_err-make_place-clause-ascending c =
    table-ascends c.make_room.new.index.items c.make_place.new.places.items

pub returns-in_err-make_place-clause-was_ascending : goal.returns-in_err-make_place-clause-was_ascending
returns-in_err-make_place-clause-was_ascending c =
    view-ascends c.self.inside.index.items c.self.inside.places.items c.args.self.now c.self.view_is

pub invariant_of-self-in_err-fill : goal.invariant_of-self-in_err-fill
invariant_of-self-in_err-fill c =
    let is = c.self.inside.index.items in
    let js = c.make_room.new.index.items in
    let ps = c.self.inside.places.items in
    let qs = c.fill.new.places.items in
    let within = c.make_place.ensures.length in
    let long = c.fill.ensures.length in
    let same : SameInUse is js ps qs c.self.inside.used = record {
      numbers = c.make_room.ensures.same;
      places = λ p lt. c.fill.ensures.others p (λ eq. omega arith) ∙ c.make_place.ensures.same p lt;
      long = omega arith;
    } in
    (kept_all is js ps qs c.self.inside.used c.args.self.now c.self.invariant same c.self.view_is).0

pub returns-in_err-fill-clause-err : goal.returns-in_err-fill-clause-err
returns-in_err-fill-clause-err c =
    let is = c.self.inside.index.items in
    let js = c.make_room.new.index.items in
    let ps = c.self.inside.places.items in
    let qs = c.fill.new.places.items in
    let within = c.make_place.ensures.length in
    let long = c.fill.ensures.length in
    let same : SameInUse is js ps qs c.self.inside.used = record {
      numbers = c.make_room.ensures.same;
      places = λ p lt. c.fill.ensures.others p (λ eq. omega arith) ∙ c.make_place.ensures.same p lt;
      long = omega arith;
    } in
    err_always c.from_residual-in_err-fill.result
    (kept_all is js ps qs c.self.inside.used c.args.self.now c.self.invariant same c.self.view_is).1

pub returns-in_err-fill-clause-ascending : goal.returns-in_err-fill-clause-ascending
returns-in_err-fill-clause-ascending c =
    table-ascends c.make_room.new.index.items c.fill.new.places.items

pub returns-in_err-fill-clause-was_ascending : goal.returns-in_err-fill-clause-was_ascending
returns-in_err-fill-clause-was_ascending c =
    view-ascends c.self.inside.index.items c.self.inside.places.items c.args.self.now c.self.view_is

pub invariant_of-self-2 : goal.invariant_of-self-2
invariant_of-self-2 c =
    let is = c.self.inside.index.items in
    let js = c.make_room.new.index.items in
    let ps = c.self.inside.places.items in
    let rs = c.make_place.new.places.items in
    let qs = c.fill.new.places.items in
    let t = c.args.tree in
    let h = new_tree c.args.subs c.args.version in
    let same : SameInUse is js ps rs c.self.inside.used = record {
      numbers = c.make_room.ensures.same;
      places = c.make_place.ensures.same;
      long = c.make_place.ensures.length;
    } in
    let seen = view_by is ps c.args.self.now c.self.view_is in
    let none : opened_by is ps t.0 ≡ None =
    sym (ap (λ (hs : ℕ → Option OpenTree). hs t.0) seen) ∙ c.requires.absent in
    let all =
    open_all is js ps rs qs c.self.inside.used t h c.self.invariant same c.in_ok-make_room.ensures.within
    c.in_ok-make_place.ensures.within none c.in_ok-fill.ensures.place c.fill.ensures.others c.fill.ensures.length in
    all.0

pub returns-clause-ok : goal.returns-clause-ok
returns-clause-ok c =
    let is = c.self.inside.index.items in
    let js = c.make_room.new.index.items in
    let ps = c.self.inside.places.items in
    let rs = c.make_place.new.places.items in
    let qs = c.fill.new.places.items in
    let t = c.args.tree in
    let h = new_tree c.args.subs c.args.version in
    let same : SameInUse is js ps rs c.self.inside.used = record {
      numbers = c.make_room.ensures.same;
      places = c.make_place.ensures.same;
      long = c.make_place.ensures.length;
    } in
    let seen = view_by is ps c.args.self.now c.self.view_is in
    let none : opened_by is ps t.0 ≡ None =
    sym (ap (λ (hs : ℕ → Option OpenTree). hs t.0) seen) ∙ c.requires.absent in
    let all =
    open_all is js ps rs qs c.self.inside.used t h c.self.invariant same c.in_ok-make_room.ensures.within
    c.in_ok-make_place.ensures.within none c.in_ok-fill.ensures.place c.fill.ensures.others c.fill.ensures.length in
    found_by (set js t.0 (c.self.inside.used + 1)) qs ∙ all.1
    ∙ sym (ap (λ (hs : ℕ → Option OpenTree). put_at t.0 (Some h) hs) seen)

pub returns-clause-ascending : goal.returns-clause-ascending
returns-clause-ascending c =
    table-ascends (set c.make_room.new.index.items c.args.tree.0 (c.self.inside.used + 1)) c.fill.new.places.items

pub returns-clause-was_ascending : goal.returns-clause-was_ascending
returns-clause-was_ascending c =
    view-ascends c.self.inside.index.items c.self.inside.places.items c.args.self.now c.self.view_is
