use Rattle.std.proofs.Common.{ap, sym, subst, ◌∙◌, Option}
use Rattle.std.specs.Prelude.{IsSome}
use Rattle.letter_types.specs.declared.entries.Letter.{Letter}
use Rattle.letter_types.specs.declared.kept.KeptLetter.{KeptLetter}
use Rattle.node_machine.specs.inside.Arrivals.{Arrived, without_first}
use Rattle.node_machine.proofs.deferred.CalledDeferredAgain.{last_there, moved_last, still_called}
use Rattle.node_machine.proofs.arrivals.insert_again.Goals as goal

pub unwrap-letter-requires : goal.unwrap-letter-requires
unwrap-letter-requires c =
    let x : KeptLetter =
    record { letter = c.no_letter-letter.result; tree = c.args.tree; sub = c.args.sub; why = c.args.why } in
    subst (λ (o : Option Letter). IsSome o)
    (sym (c.take_called.ensures.taken
    ∙ still_called c.args.next x c.args.letters.now.entries c.insert.new.letters.entries c.requires.called
    c.in_ok-insert.ensures.last)) c.requires.called

pub put_letter-requires : goal.put_letter-requires
put_letter-requires c =
    let x : KeptLetter =
    record { letter = c.no_letter-letter.result; tree = c.args.tree; sub = c.args.sub; why = c.args.why } in
    last_there c.args.next x c.args.letters.now.entries c.take_called.new.letters.entries
    (record {
      calls = c.requires.called;
      taken = c.take_called.ensures.others
          ∙ ap (λ (es : Arrived). without_first c.args.tree c.args.sub es) c.in_ok-insert.ensures.last;
      ascending = c.take_called.ensures.kept.ascending;
    })

pub returns-clause-last : goal.returns-clause-last
returns-clause-last c =
    let x : KeptLetter =
    record { letter = c.no_letter-letter.result; tree = c.args.tree; sub = c.args.sub; why = c.args.why } in
    ap (λ (es : Arrived). Rattle.std.specs.Map.values_of es) c.put_letter.ensures.put
    ∙ moved_last c.args.next c.unwrap-letter.result x c.args.letters.now.entries c.take_called.new.letters.entries
    (record {
      calls = c.requires.called;
      taken = c.take_called.ensures.others
          ∙ ap (λ (es : Arrived). without_first c.args.tree c.args.sub es) c.in_ok-insert.ensures.last;
      ascending = c.take_called.ensures.kept.ascending;
    })
    (sym (c.take_called.ensures.taken
    ∙ still_called c.args.next x c.args.letters.now.entries c.insert.new.letters.entries c.requires.called
    c.in_ok-insert.ensures.last) ∙ c.unwrap-letter.ensures)
