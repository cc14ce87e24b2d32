use Rattle.std.proofs.Common.{◌≡◌, drop}
use Rattle.script_parts.specs.ScriptData.{visits}
use Rattle.script_parts.proofs.children.visits.Given as goal

abbrev pub invariant-loop-sub : goal.invariant-loop-sub
invariant-loop-sub l = visits l.subs l.node.0 ≡ visits (drop l.sub-index l.subs) l.node.0
