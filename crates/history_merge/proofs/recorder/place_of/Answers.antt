use Rattle.std.proofs.Common.{◌≡◌, ◌<◌, List, length, map, sym, ◌∙◌, arith, rules, Global, true, false}
use Rattle.std.specs.Prelude.{vec_len}
use Rattle.std.specs.declared.collections.VecDeque.{VecDeque}
use Rattle.std.proofs.lemmas.List.{length-map}
use Rattle.std.proofs.lemmas.Option.{slice_get_within}
use Rattle.tv_base.proofs.ByPlace.{get_map}
use Rattle.letter_types.specs.declared.entries.Entry.{Entry}
use Rattle.history_merge.proofs.Merges.{at_place, none_more}
use Rattle.history_merge.proofs.recorder.place_of.Goals as goal

pub returns-then-is_first-clause-found : goal.returns-then-is_first-clause-found
returns-then-is_first-clause-found g c =
    let items_of : VecDeque Entry Global → List Entry = λ v. v.items in
    let lists = c.args.lists.now.items in
    let place = c.loop-place.place in
    let list = c.index.result.now in
    let inside : place < length lists = search rules in
    (list.items, get_map items_of lists place list (at_place lists place list inside c.index.ensures), c.is_first.ensures.0 c.if-is_first.true)

pub loop-place-preserved : goal.loop-place-preserved
loop-place-preserved g c =
    let items_of : VecDeque Entry Global → List Entry = λ v. v.items in
    let lists = c.args.lists.now.items in
    let place = c.loop-place.place in
    let list = c.index.result.now in
    let inside : place < length lists = search rules in
    let there = get_map items_of lists place list (at_place lists place list inside c.index.ensures) in
    none_more c.args.stamp.0 place (map items_of lists) list.items c.loop-place.invariant there
    (λ has. let both : false ≡ true = sym c.if-is_first.false ∙ c.is_first.ensures.1 has in cc both)

pub returns-clause-none : goal.returns-clause-none
returns-clause-none g c = λ _ a es at.
    let items_of : VecDeque Entry Global → List Entry = λ v. v.items in
    let lists = c.args.lists.now.items in
    let long : vec_len c.args.lists.now ≡ length lists = c.args.lists.now.ok.0 in
    c.loop-place.invariant a es
    (omega (arith, slice_get_within (map items_of lists) a es at, length-map lists items_of, c.len-place-end.ensures, c.loop-place-test.false, long)) at
