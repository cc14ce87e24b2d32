use Rattle.std.proofs.Common.{◌≡◌, ◌∙◌, ap, sym, arith, Option, Some, None}
use Rattle.std.specs.Option.{option_or}
use Rattle.tv_base.specs.declared.numbers.Version.{Version}
use Rattle.letter_types.specs.declared.bodies.Answer.{Answer}
use Rattle.letter_types.specs.declared.entries.Letter.{Letter}
use Rattle.report_text.specs.Replies.{first_place, reply_by}
use Rattle.report_text.proofs.ReplyPlaces.{no_place, place_tells, place_within}
use Rattle.report_text.proofs.replies.Replies.reply.Goals as goal

pub entry-requires : goal.entry-requires
entry-requires c =
    let there : first_place 0 c.args.history.now c.args.tree ≡ Some c.in-Some.place =
    sym (c.requires.listed c.args.tree) ∙ sym c.place_of.ensures ∙ c.in-Some.is in
    let within = place_within 0 c.args.history.now c.args.tree c.in-Some.place there in
    omega (arith, within.1)

pub returns-in-Some : goal.returns-in-Some
returns-in-Some c =
    let there : first_place 0 c.args.history.now c.args.tree ≡ Some c.in-Some.place =
    sym (c.requires.listed c.args.tree) ∙ sym c.place_of.ensures ∙ c.in-Some.is in
    ap (λ (l : Letter). reply_by c.args.tree l.body) c.took.ensures
    ∙ place_tells 0 c.args.history.now c.args.tree c.in-Some.place c.in-Some.place c.entry.result c.args.next.now there (omega arith) c.entry.ensures

pub returns-in-None : goal.returns-in-None
returns-in-None c =
    let none : first_place 0 c.args.history.now c.args.tree ≡ None =
    sym (c.requires.listed c.args.tree) ∙ sym c.place_of.ensures ∙ c.in-None.is in
    sym (ap (λ (o : Option (Version × Answer)). option_or o (reply_by c.args.tree c.args.next.now)) (no_place 0 c.args.history.now c.args.tree none))
