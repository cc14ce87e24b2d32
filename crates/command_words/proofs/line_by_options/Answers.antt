use Rattle.std.proofs.Common.{map, subst, sym, ◌∙◌, string_bytes, Option}
use Rattle.std.proofs.lemmas.Result.{err_from_is_err_and}
use Rattle.command_words.specs.Lines.{HasReadLine}
use Rattle.command_words.specs.declared.Line.{Line}
use Rattle.command_words.proofs.Equal.{dashes_are, own_dashed, refused_tells, taken_line}
use Rattle.command_words.proofs.line_by_options.Goals as goal

pub returns-then-dashed : goal.returns-then-dashed
returns-then-dashed c = own_dashed (map string_bytes c.args.words.now) (sym (dashes_are string_bytes c.args.words.now) ∙ (sym c.dashed.ensures ∙ c.if-dashed.true))

pub returns : goal.returns
returns c =
    let clean = sym (dashes_are string_bytes c.args.words.now) ∙ (sym c.dashed.ensures ∙ c.if-dashed.false) in
    let e = taken_line (map string_bytes c.args.words.now) c.in_ok-matches.matches _ _ _ _ _ clean c.in_ok-matches.ensures c.get_str.ensures c.get_str-2.ensures c.get_str-3.ensures c.get_str-4.ensures c.get_str-5.ensures in
    subst (λ (l : Option Line). HasReadLine l c.line_by_values.result) (sym e) c.line_by_values.ensures

pub returns-in_err-matches : goal.returns-in_err-matches
returns-in_err-matches c =
    let clean = sym (dashes_are string_bytes c.args.words.now) ∙ (sym c.dashed.ensures ∙ c.if-dashed.false) in
    let p = err_from_is_err_and c.from_residual.result c.from_residual.ensures.1 in
    rw (p.1, p.2) (refused_tells (map string_bytes c.args.words.now) c.in_err-matches.field-0.0 clean c.in_err-matches.ensures)
