use Rattle.std.proofs.Common.{◌≡◌, ◌≢◌, ◌<◌, ℕ, suc, List, [], ◌++◌, length, get_or, map, take, drop, sym, ap, ◌∙◌, arith, Global, Some}
use Rattle.std.specs.Prelude.{slice_get}
use Rattle.std.specs.VecDeque.{deque_len}
use Rattle.std.specs.declared.collections.VecDeque.{VecDeque}
use Rattle.std.proofs.lemmas.Bool.Decides.{nat_tests}
use Rattle.std.proofs.lemmas.List.{drop-map, map-append, nil_from_length, take-map}
use Rattle.tv_base.proofs.ByPlace.{get_map}
use Rattle.letter_types.specs.declared.entries.Entry.{Entry}
use Rattle.history_merge.proofs.Merges.{at_place}
use Rattle.history_merge.proofs.Recordings.{empty_goes, some_stays}
use Rattle.history_merge.proofs.recorder.drop_empty.Goals as goal

-- the list at the place
there : (lists : List (VecDeque Entry Global)) (place : ℕ) (list : VecDeque Entry Global) → place < length lists → list ≡ get_or lists place list
    → slice_get (map (λ v. v.items) lists) place ≡ Some list.items
there lists place list inside is =
    let items_of : VecDeque Entry Global → List Entry = λ v. v.items in
    get_map items_of lists place list (at_place lists place list inside is)

pub returns-then-not-is_empty : goal.returns-then-not-is_empty
returns-then-not-is_empty g c =
    let items_of : VecDeque Entry Global → List Entry = λ v. v.items in
    let list = c.index.result.now in
    let some : length list.items ≢ 0 = λ none. grind (arith, nat_tests, c.is_empty.ensures, c.if-not-is_empty.true, list.ok.0, none) in
    sym (some_stays (map items_of c.args.lists.now.items) c.args.place list.items (there c.args.lists.now.items c.args.place list c.requires c.index.ensures) some)

pub returns : goal.returns
returns g c =
    let items_of : VecDeque Entry Global → List Entry = λ v. v.items in
    let old = c.args.lists.now.items in
    let place = c.args.place in
    let list = c.index.result.now in
    let none : deque_len list ≡ 0 = grind (arith, nat_tests, c.is_empty.ensures, c.if-not-is_empty.false) in
    let empty : list.items ≡ [] = nil_from_length list.items (sym list.ok.0 ∙ none) in
    ap (map items_of) c.remove.ensures.items
    ∙ map-append items_of (take place old) (drop (suc place) old)
    ∙ (λ i. sym (take-map items_of place old) i ++ sym (drop-map items_of (suc place) old) i)
    ∙ sym (empty_goes (map items_of old) place (there old place list c.requires c.index.ensures ∙ ap (λ (es : List Entry). Some es) empty))
