use Rattle.std.proofs.Common.{◌≡◌, ◌==◌, ℕ, false, List, [], ◌∷◌, ◌++◌, length, map, ap, sym, ◌∙◌, Global}
use Rattle.std.specs.declared.collections.VecDeque.{VecDeque}
use Rattle.std.proofs.lemmas.List.{map-append}
use Rattle.letter_types.specs.declared.entries.Entry.{Entry}
use Rattle.history_merge.specs.Recording.{handed_in, recorder_data}
use Rattle.history_merge.proofs.Recordings.{handed_some}
use Rattle.history_merge.proofs.recorder.Recorder.take_in.Goals as goal

pub returns-clause-ok : goal.returns-clause-ok
returns-clause-ok g c =
    let items_of : VecDeque Entry Global → List Entry = λ v. v.items in
    let made = c.args.made.now in
    let old = c.self.inside.waiting.items in
    let lists : c.push_reserved.new.self.items ≡ old ++ made ∷ [] =
    c.push_reserved.ensures.items ∙ (λ k. c.in_ok-reserve.ensures.items k ++ c.replace.ensures.value k ∷ []) in
    let some : (length made.items == 0) ≡ false =
    sym (c.is_empty.ensures ∙ ap (λ (n : ℕ). n == 0) made.ok.0) ∙ c.if-is_empty.false in
    ap (recorder_data c.self.inside.done) (ap (map items_of) lists ∙ map-append items_of old (made ∷ []))
    ∙ handed_some made.items (recorder_data c.self.inside.done (map items_of old)) some
    ∙ ap (handed_in made.items) c.self.view_is

pub returns-clause-emptied : goal.returns-clause-emptied
returns-clause-emptied g c =
    let items_of : VecDeque Entry Global → List Entry = λ v. v.items in
    ap items_of c.replace.ensures.after ∙ c.in_ok-room.ensures.items
