use Rattle.std.proofs.Common.{◌≡◌, ◌+◌, [], length, sym, ap, ◌∙◌, subst}
use Rattle.std.proofs.lemmas.List.{nil_from_length}
use Rattle.letter_types.specs.declared.entries.Entry.{Entry}
use Rattle.history_merge.specs.Recording.{FirstHas}
use Rattle.history_merge.proofs.Merges.{first_of}
use Rattle.history_merge.proofs.recorder.move_first.Goals as goal

pub unreachable-requires : goal.unreachable-requires
unreachable-requires g c =
    let list = c.args.list.now in
    let none : list.items ≡ [] = nil_from_length list.items (sym list.ok.0 ∙ c.in_default.ensures.cases.0) in
    subst (FirstHas (length c.args.done.now + 1)) none c.requires

pub push-requires : goal.push-requires
push-requires g c =
    record {
      next = ap (λ (e : Entry). e.stamp.0) c.into_parts-entry.ensures.entry
          ∙ first_of c.args.list.now.items c.in-Some.made c.pop_front.new.self.items (length c.args.done.now + 1) c.in-Some.ensures.items c.requires;
    }
