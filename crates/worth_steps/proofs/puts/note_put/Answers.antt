use Rattle.std.proofs.Common.{◌∙◌, ◌≤◌, ap, length, arith, ℕ}
use Rattle.std.specs.List.{insert, remove}
use Rattle.worth_steps.specs.inside.Editing.{put_rank}
use Rattle.worth_steps.proofs.Bagged.{insert_put, remove_inserted}
use Rattle.worth_steps.proofs.puts.note_put.Goals as goal

pub returns-clause-ok : goal.returns-clause-ok
returns-clause-ok c =
    let ps = c.args.puts.now.items in
    let p = c.args.put.now in
    c.in_ok-insert.ensures.items
    ∙ ap (λ (i : ℕ). insert ps i p) (c.place-place.ensures.place ∙ ap (put_rank p.number) c.deref.ensures.value)
    ∙ insert_put p ps

pub returns-clause-back : goal.returns-clause-back
returns-clause-back c =
    let ps = c.args.puts.now.items in
    let i = c.place-place.result in
    let le : i ≤ length ps = omega (arith, c.place-place.ensures.within, ap length c.deref.ensures.value) in
    ap (λ qs. remove qs i) c.in_ok-insert.ensures.items ∙ remove_inserted i ps c.args.put.now le
