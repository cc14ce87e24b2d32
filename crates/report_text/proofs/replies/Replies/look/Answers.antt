use Rattle.std.proofs.Common.{ℕ, ◌<◌, ◌∙◌, List, length, ap, arith}
use Rattle.std.specs.Option.{option_or}
use Rattle.letter_types.specs.declared.entries.Entry.{Entry}
use Rattle.letter_types.specs.declared.entries.Letter.{Letter}
use Rattle.report_text.specs.Replies.{reply_place, place_listed}
use Rattle.report_text.proofs.ReplyPlaces.{length_more, looked_more}
use Rattle.report_text.proofs.replies.Replies.look.Goals as goal

pub loop-self-preserved : goal.loop-self-preserved
loop-self-preserved c =
    let h : List Entry = c.args.history.now in
    let k : ℕ = c.loop-self.self.looked in
    let less : k < length h = omega (arith, c.len.ensures.len, c.loop-self-test.true) in
    record {
      looked = length_more h k less;
      listed = λ t.
          looked_more h c.loop-self.self.places c.note.new.places k t c.entry.result c.entry.ensures c.loop-self.invariant.looked
          (c.loop-self.invariant.listed t)
          (c.in_ok-note.ensures.ok t
          ∙ ap (λ (l : Letter). option_or (place_listed c.loop-self.self.places t) (reply_place k l.body t)) c.took.ensures);
    }
