use Rattle.std.proofs.Common.{◌≡◌, ◌++◌, drop}
use Rattle.report_text.specs.inside.Lines.{subs_texts}
use Rattle.report_text.proofs.reads.push_subs.Given as goal

abbrev pub invariant-loop-sub : goal.invariant-loop-sub
invariant-loop-sub l = l.text ++ subs_texts l.rows l.values (drop l.sub-index l.subs) ≡ l.initial.text ++ subs_texts l.rows l.values l.subs
