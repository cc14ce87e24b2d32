use Rattle.std.proofs.Common.{◌-◌, List, ℕ, drop, length, refl, subst, sym, take}
use Rattle.tv_base.proofs.Pieces.{rest_whole}
use Rattle.letter_types.specs.declared.entries.Entry.{Entry}
use Rattle.history_reader.specs.Walks.{WalkData, ComesBehind}
use Rattle.history_reader.specs.inside.Finding.{entry_with}
use Rattle.history_reader.proofs.NextEntry.{goes_on, unposted, unread}
use Rattle.history_reader.proofs.walk.Walk.next.Goals as goal

pub returns-in_default-clause-text : goal.returns-in_default-clause-text
returns-in_default-clause-text c = λ err.
    unread c.self.inside.script.now c.self.inside.rest.now (length c.self.inside.letters.senders) c.self.inside.letters c.args.self.now c.self.view_is
    c.if-is_empty.ensures (rw c.in_default.is at c.in_ok-heard.ensures.none refl)

pub returns-in_default-2-clause-postal : goal.returns-in_default-2-clause-postal
returns-in_default-2-clause-postal c = λ err.
    let read = rw c.in-Some.is at c.in_ok-heard.ensures.some in
    let none = rw c.in_default-2.is at c.in_ok-letter.ensures.letter in
    unposted c.self.inside.script.now c.self.inside.rest.now (length c.self.inside.letters.senders) c.self.inside.letters c.client-client.result.0
    c.client-client.ensures.client c.in-Some.heard.entry c.args.self.now c.self.view_is _ c.client-client.ensures.valid read.1 none

pub returns-clause-some : goal.returns-clause-some
returns-clause-some c =
    let e = c.in-Some.heard.entry in
    let l = c.in-Some-2.letter in
    let read = rw c.in-Some.is at c.in_ok-heard.ensures.some in
    let found = rw c.in-Some-2.is at c.in_ok-letter.ensures.letter in
    let left = rw c.in-Some-2.is at c.in_ok-letter.ensures.left in
    let rest = c.self.inside.rest.now in
    let n = c.in-Some.heard.length in
    let new : WalkData = record { script = c.self.inside.script.now; rest = drop n rest; count = length c.go_on.new.self.senders; letters = c.go_on.new.self } in
    let whole = goes_on c.self.inside.script.now rest (length c.self.inside.letters.senders) c.self.inside.letters c.client-client.result.0
    c.client-client.ensures.client e c.args.self.now c.self.view_is new l read.1 found (left refl) refl in
    subst (λ (x : Entry). ComesBehind c.args.self.now x (record new { rest = take (length rest - n) (drop n rest) })) (sym c.entry_with.ensures)
    (subst (λ (r : List ℕ). ComesBehind c.args.self.now (entry_with e l) (record new { rest = r })) (sym (rest_whole n rest)) whole)
