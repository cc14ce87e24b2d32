use Rattle.std.proofs.Common.{◌+◌, Fits, w64, arith, rules, sym}
use Rattle.std.proofs.Math.Facts.{Fits-le}
use Rattle.client_rows.specs.News.{answered_after}
use Rattle.client_rows.proofs.Counts.{IsWithin, asked_next, below_next, place_behind}
use Rattle.client_rows.proofs.places.behind_next.Goals as goal

pub overflow_add-result : goal.overflow_add-result
overflow_add-result c =
    let next : Fits w64 (c.args.at.next + 1) = search rules in
    let within : IsWithin c.args.at = below_next c.args.rows.now (answered_after c.args.news c.args.answered.now) c.args.at c.requires.at in
    Fits-le (omega (arith, within.sent)) next

pub overflow_add-result-in-Tree-2 : goal.overflow_add-result-in-Tree-2
overflow_add-result-in-Tree-2 c =
    let next : Fits w64 (c.args.at.next + 1) = search rules in
    let within : IsWithin c.args.at = below_next c.args.rows.now (answered_after c.args.news c.args.answered.now) c.args.at c.requires.at in
    Fits-le (omega (arith, within.sent)) next

pub overflow_add-result-in-Tree-2-2 : goal.overflow_add-result-in-Tree-2-2
overflow_add-result-in-Tree-2-2 c =
    let next : Fits w64 (c.args.at.next + 1) = search rules in
    let within : IsWithin c.args.at = below_next c.args.rows.now (answered_after c.args.news c.args.answered.now) c.args.at c.requires.at in
    Fits-le (omega (arith, within.unanswered)) next

pub overflow_add-result-in-Advance : goal.overflow_add-result-in-Advance
overflow_add-result-in-Advance c =
    let asked =
    asked_next c.args.rows.now (answered_after c.args.news c.args.answered.now) c.args.at _ c.requires.more c.in-Advance.is c.requires.at in
    omega (arith, asked, c.requires.few)

pub returns-in-Tree : goal.returns-in-Tree
returns-in-Tree c =
    place_behind c.args.rows.now (answered_after c.args.news c.args.answered.now) c.args.at _ _ _ _ _ c.requires.more c.in-Tree.is c.requires.at
    (omega arith) (rw (sym c.if-is_answered.ensures) (omega arith)) (omega arith)

pub returns-in-Tree-2 : goal.returns-in-Tree-2
returns-in-Tree-2 c =
    place_behind c.args.rows.now (answered_after c.args.news c.args.answered.now) c.args.at _ _ _ _ _ c.requires.more c.in-Tree.is c.requires.at
    (omega arith) (rw (sym c.if-is_answered.ensures) (omega arith)) (omega arith)

pub returns-in-Advance : goal.returns-in-Advance
returns-in-Advance c =
    place_behind c.args.rows.now (answered_after c.args.news c.args.answered.now) c.args.at _ _ _ _ _ c.requires.more c.in-Advance.is c.requires.at
    (omega arith) (omega arith) (omega arith)

pub returns-in-Settle : goal.returns-in-Settle
returns-in-Settle c =
    place_behind c.args.rows.now (answered_after c.args.news c.args.answered.now) c.args.at _ _ _ _ _ c.requires.more c.in-Settle.is c.requires.at
    (omega arith) (omega arith) (omega arith)

pub returns-in-Lose : goal.returns-in-Lose
returns-in-Lose c =
    place_behind c.args.rows.now (answered_after c.args.news c.args.answered.now) c.args.at _ _ _ _ _ c.requires.more c.in-Lose.is c.requires.at
    (omega arith) (omega arith) (omega arith)
