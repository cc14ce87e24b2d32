use Rattle.std.proofs.Common.{◌∙◌, ap, drop, sym}
use Rattle.history_reader.proofs.BehindHeads.{no_decide}
use Rattle.history_reader.proofs.letters.read_decide.Goals as goal

pub returns-in_err-tree : goal.returns-in_err-tree
returns-in_err-tree c = no_decide c.args.script.now c.args.words.now c.from_residual.result c.from_residual.ensures (λ t v commit is ht hv. c.in_err-tree.ensures t _ is ht)

pub returns-in_err-version : goal.returns-in_err-version
returns-in_err-version c =
    no_decide c.args.script.now c.args.words.now c.from_residual-in_err-version.result c.from_residual-in_err-version.ensures
    (λ t v commit is ht hv. c.in_err-version.ensures v _ (ap (drop 1) (sym c.in_ok-tree.ensures.0 ∙ is)) hv)

pub returns-in_err-commit : goal.returns-in_err-commit
returns-in_err-commit c =
    no_decide c.args.script.now c.args.words.now c.from_residual-in_err-commit.result c.from_residual-in_err-commit.ensures
    (λ t v commit is ht hv. c.in_err-commit.ensures commit (ap (drop 2) (sym c.in_ok-version.ensures.0 ∙ ap (drop 1) (sym c.in_ok-tree.ensures.0 ∙ is))) tt)
