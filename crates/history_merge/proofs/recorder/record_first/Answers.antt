use Rattle.std.proofs.Common.{◌≡◌, ◌+◌, ◌<◌, ℕ, List, length, get_or, map, sym, ap, ◌∙◌, subst, arith, Global, Some}
use Rattle.std.specs.Prelude.{slice_get, slice_set}
use Rattle.std.specs.declared.collections.VecDeque.{VecDeque}
use Rattle.std.proofs.lemmas.List.{length-map, length-set, map-set}
use Rattle.std.proofs.lemmas.Option.{same_Some, slice_get_within}
use Rattle.std.proofs.lemmas.Result.{MatchResult-from_err}
use Rattle.tv_base.proofs.ByPlace.{get_map}
use Rattle.letter_types.specs.declared.entries.Entry.{Entry}
use Rattle.history_merge.specs.Recording.{FirstHas, IsFirstAt, lists_left, recorder_data, without_empty}
use Rattle.history_merge.proofs.Merges.{at_place, first_of}
use Rattle.history_merge.proofs.Recordings.{left_there, same_there}
use Rattle.history_merge.proofs.recorder.record_first.Goals as goal

abbrev items_of : VecDeque Entry Global → List Entry
items_of v = v.items

place_within : (lists : List (VecDeque Entry Global)) (place : ℕ) (es : List Entry) → slice_get (map items_of lists) place ≡ Some es
    → place < length lists
place_within lists place es at = omega (arith, slice_get_within (map items_of lists) place es at, length-map lists items_of)

pub index_mut-requires : goal.index_mut-requires
index_mut-requires g c =
    let (es, at, has) = c.requires in
    let lists = c.args.lists.now in
    omega (arith, place_within lists.items c.args.place es at, lists.ok.0)

-- the list at the place, and its first entry has the stamp
there : (lists : List (VecDeque Entry Global)) (place stamp : ℕ) (list : VecDeque Entry Global) → IsFirstAt stamp (map items_of lists) place
    → list ≡ get_or lists place list → (slice_get (map items_of lists) place ≡ Some list.items) × FirstHas stamp list.items
there lists place stamp list (es, at, has) is =
    let row = get_map items_of lists place list (at_place lists place list (place_within lists place es at) is) in
    (row, subst (FirstHas stamp) (same_Some es list.items (sym at ∙ row)) has)

pub move_first-requires : goal.move_first-requires
move_first-requires g c =
    let here = there c.args.lists.now.items c.args.place (length c.args.done.now + 1) c.index_mut.result.now c.requires c.index_mut.ensures.value in
    here.1

pub drop_empty-requires : goal.drop_empty-requires
drop_empty-requires g c =
    let old = c.args.lists.now.items in
    let (es, at, has) = c.requires in
    omega (arith, length-set old c.args.place c.move_first.new.list, place_within old c.args.place es at)

pub returns-in_err-witness-clause-err : goal.returns-in_err-witness-clause-err
returns-in_err-witness-clause-err g c =
    let old = c.args.lists.now.items in
    let place = c.args.place in
    let list = c.move_first.new.list in
    let here = there c.args.lists.now.items c.args.place (length c.args.done.now + 1) c.index_mut.result.now c.requires c.index_mut.ensures.value in
    let lists : map items_of (slice_set old place list) ≡ map items_of old =
    map-set items_of old place list ∙ ap (slice_set (map items_of old) place) c.in_err-witness.ensures.err_list
    ∙ same_there (map items_of old) place c.index_mut.result.now.items here.0 in
    let same : recorder_data c.move_first.new.done (map items_of (slice_set old place list)) ≡ recorder_data c.args.done.now (map items_of old) =
    λ i. recorder_data (c.in_err-witness.ensures.err_done i) (lists i) in
    MatchResult-from_err c.from_residual.result _ _ c.from_residual.ensures.0 (λ _. same)

pub returns-clause-recorded : goal.returns-clause-recorded
returns-clause-recorded g c =
    let old = c.args.lists.now.items in
    let place = c.args.place in
    let before = c.index_mut.result.now.items in
    let list = c.move_first.new.list in
    let here = there c.args.lists.now.items c.args.place (length c.args.done.now + 1) c.index_mut.result.now c.requires c.index_mut.ensures.value in
    let moved = c.in_ok-witness.ensures.moved in
    let lists : map items_of c.drop_empty.new.lists.items ≡ lists_left (map items_of old) place list.items =
    c.drop_empty.ensures ∙ ap (λ (ls : List (List Entry)). without_empty ls place) (map-set items_of old place list)
    ∙ left_there (map items_of old) place list.items in
    let stamp = first_of before moved.entry list.items (length c.args.done.now + 1) moved.was here.1 in (
      moved.entry,
      (
        record {
          place = place;
          left = list.items;
          at = here.0 ∙ ap (λ (es : List Entry). Some es) moved.was;
          lists = lists;
          stamp_is = stamp;
        },
        moved.done,
      ),
      moved.vouches,
    )
