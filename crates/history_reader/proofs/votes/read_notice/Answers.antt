use Rattle.std.proofs.Common.{◌∙◌, Bool, subst, sym}
use Rattle.std.specs.Prelude.{None, slice_get}
use Rattle.std.proofs.lemmas.List.{append-nil}
use Rattle.history_text.specs.Printable.{HasStrictness}
use Rattle.history_text.specs.Words.{got_words}
use Rattle.history_reader.proofs.ListsRead.{no_notice_plain, no_notice_strict, notice_named}
use Rattle.history_reader.proofs.votes.read_notice.Goals as goal

pub returns-in_default : goal.returns-in_default
returns-in_default c =
    let s = c.args.script.now in
    let none = rw c.in_default.is at c.in_ok-values.ensures in
    notice_named s c.args.tree c.args.words.now None c.nodes-nodes.ensures.valid c.requires
    (no_notice_plain s c.args.tree.0 c.args.words.now (subst (λ (b : Bool). HasStrictness b (slice_get s.trees c.args.tree.0)) c.if-not-is_strict.true c.is_strict.ensures) none)

pub returns-then-not-is_strict : goal.returns-then-not-is_strict
returns-then-not-is_strict c =
    let s = c.args.script.now in
    let read = rw c.in-Some.is at c.in_ok-values.ensures in (
      read.0 ∙ sym (append-nil (got_words s c.in-Some.values)),
      (subst (λ (b : Bool). HasStrictness b (slice_get s.trees c.args.tree.0)) c.if-not-is_strict.true c.is_strict.ensures, (read.1, tt)),
    )

pub returns-in_default-2 : goal.returns-in_default-2
returns-in_default-2 c =
    let s = c.args.script.now in
    let none = rw c.in_default-2.is at c.in_ok-vote.ensures in
    notice_named s c.args.tree c.args.words.now None c.nodes-nodes.ensures.valid c.requires
    (no_notice_strict s c.args.tree.0 c.args.words.now (subst (λ (b : Bool). HasStrictness b (slice_get s.trees c.args.tree.0)) c.if-not-is_strict.false c.is_strict.ensures) none)
