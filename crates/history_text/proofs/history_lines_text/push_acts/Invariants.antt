use Rattle.std.proofs.Common.{◌≡◌, ◌++◌, drop}
use Rattle.history_text.specs.History.{act_lines}
use Rattle.history_text.proofs.history_lines_text.push_acts.Given as goal

abbrev pub invariant-loop-act : goal.invariant-loop-act
invariant-loop-act l = l.text ++ act_lines l.script (drop l.act-index l.acts) ≡ l.initial.text ++ act_lines l.script l.acts
