use Rattle.std.proofs.Common.{◌≡◌, ◌<◌, ℕ, false}
use Rattle.script_parts.specs.ScriptData.{is_child}
use Rattle.script_parts.proofs.children.next_child.Given as goal

abbrev pub invariant-loop-k : goal.invariant-loop-k
invariant-loop-k l = (j : ℕ) → l.fn.after.0 < j → j < l.k → is_child l.subs l.parent.0 j ≡ false
