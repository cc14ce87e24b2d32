use Rattle.std.proofs.Common.{◌∙◌, ap, drop, sym}
use Rattle.history_reader.proofs.BehindHeads.{no_numbers}
use Rattle.history_reader.proofs.letters.read_numbers.Goals as goal

pub returns-in_err-epoch : goal.returns-in_err-epoch
returns-in_err-epoch c = no_numbers c.args.script.now c.args.words.now c.from_residual.result c.from_residual.ensures (λ e u r l is he hu hr hl. c.in_err-epoch.ensures e _ is he)

pub returns-in_err-number_behind : goal.returns-in_err-number_behind
returns-in_err-number_behind c =
    no_numbers c.args.script.now c.args.words.now c.from_residual-in_err-number_behind.result c.from_residual-in_err-number_behind.ensures
    (λ e u r l is he hu hr hl. c.in_err-number_behind.ensures u.0 _ (ap (drop 1) (sym c.in_ok-epoch.ensures.0 ∙ is)) hu)

pub returns-in_err-number_behind-2 : goal.returns-in_err-number_behind-2
returns-in_err-number_behind-2 c =
    no_numbers c.args.script.now c.args.words.now c.from_residual-in_err-number_behind-2.result c.from_residual-in_err-number_behind-2.ensures
    (λ e u r l is he hu hr hl. c.in_err-number_behind-2.ensures r.0 _ (ap (drop 2) (sym c.in_ok-number_behind.ensures.0 ∙ ap (drop 1) (sym c.in_ok-epoch.ensures.0 ∙ is))) hr)

pub returns-in_err-last_behind : goal.returns-in_err-last_behind
returns-in_err-last_behind c =
    no_numbers c.args.script.now c.args.words.now c.from_residual-in_err-last_behind.result c.from_residual-in_err-last_behind.ensures
    (λ e u r l is he hu hr hl. c.in_err-last_behind.ensures l.0
    (ap (drop 2) (sym c.in_ok-number_behind-2.ensures.0 ∙ ap (drop 2) (sym c.in_ok-number_behind.ensures.0 ∙ ap (drop 1) (sym c.in_ok-epoch.ensures.0 ∙ is)))) hl)
