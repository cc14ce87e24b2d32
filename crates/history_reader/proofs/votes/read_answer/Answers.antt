use Rattle.std.proofs.Common.{Bool, subst}
use Rattle.std.specs.Prelude.{None, slice_get}
use Rattle.history_text.specs.Printable.{HasStrictness}
use Rattle.history_reader.proofs.ListsRead.{answer_plain, answers_named, answer_named, no_answer_plain}
use Rattle.history_reader.proofs.votes.read_answer.Goals as goal

pub returns-then-is_strict : goal.returns-then-is_strict
returns-then-is_strict c = answers_named c.args.script.now c.args.tree c.args.words.now c.strict_answer.result c.nodes-nodes.ensures.valid c.requires c.strict_answer.ensures

pub returns-in_default : goal.returns-in_default
returns-in_default c =
    let s = c.args.script.now in
    let none = rw c.in_default.is at c.in_ok-values.ensures in
    answer_named s c.args.tree c.args.words.now None c.nodes-nodes.ensures.valid c.requires
    (no_answer_plain s c.args.tree.0 c.args.words.now (subst (λ (b : Bool). HasStrictness b (slice_get s.trees c.args.tree.0)) c.if-is_strict.false c.is_strict.ensures) none)

pub returns : goal.returns
returns c =
    let s = c.args.script.now in
    let read = rw c.in-Some.is at c.in_ok-values.ensures in
    answer_plain s c.args.tree.0 c.args.words.now c.in-Some.values (subst (λ (b : Bool). HasStrictness b (slice_get s.trees c.args.tree.0)) c.if-is_strict.false c.is_strict.ensures) c.requires read.0 read.1
