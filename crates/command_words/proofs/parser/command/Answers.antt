use Rattle.std.proofs.Common.{◌∙◌, ap₂}
use Rattle.std.proofs.lemmas.Result.{IfOk-weaker}
use Rattle.clap.specs.Words.{with_rule}
use Rattle.command_words.proofs.parser.command.Goals as goal

pub returns : goal.returns
returns c =
    let e1 = c.in_ok-command.ensures ∙ ap₂ with_rule c.bare.ensures c.mode_option.ensures.rule in
    let e2 = c.in_ok-command-2.ensures ∙ ap₂ with_rule e1 c.option.ensures.rule in
    let e3 = c.in_ok-command-3.ensures ∙ ap₂ with_rule e2 c.option-2.ensures.rule in
    let e4 = c.in_ok-command-4.ensures ∙ ap₂ with_rule e3 c.option-3.ensures.rule in
    IfOk-weaker c.with-5.result _ _ (λ x h. h ∙ ap₂ with_rule e4 c.history_option.ensures.rule) c.with-5.ensures
