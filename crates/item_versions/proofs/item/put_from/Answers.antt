use Rattle.std.proofs.Common.{◌≡◌, ℕ, [], ◌++◌, length, take, ap, sym, ◌∙◌, append-nil}
use Rattle.item_versions.specs.Item.{Held, below}
use Rattle.item_versions.proofs.Rooms.{below-first}
use Rattle.item_versions.proofs.item.put_from.Goals as goal

pub returns : goal.returns
returns c =
    let xs = c.args.held.now.items in
    let count : c.count_below.result ≡ length (below c.args.v xs) =
    c.count_below.ensures ∙ ap (λ (ys : Held). length (below c.args.v ys)) c.as_slice.ensures.value in
    let front : c.truncate.new.self.items ≡ below c.args.v xs =
    c.truncate.ensures.items ∙ ap (λ (k : ℕ). take k xs) count ∙ below-first c.args.v xs c.requires.held in
    let all : c.loop-entry.held.items ++ [] ≡ c.truncate.new.self.items ++ c.args.raised.items =
    ap (λ (ys : Held). c.loop-entry.held.items ++ ys) (sym c.in-None.ensures.steps.0) ∙ c.loop-entry.invariant.same in
    sym (append-nil c.loop-entry.held.items) ∙ all ∙ ap (λ (ys : Held). ys ++ c.args.raised.items) front
