use Rattle.std.proofs.Common.{◌≡◌, ℕ, take}
use Rattle.board_judge.specs.Notes.{ops_noted}
use Rattle.board_judge.specs.inside.Rewriting.{HasNoted, worths_before}
use Rattle.board_judge.proofs.rewriting.note_ops.Given as goal

abbrev pub invariant-loop-op : goal.invariant-loop-op
invariant-loop-op l = record {
  noted : HasNoted (λ (x : ℕ). ops_noted l.version.0 x (take l.op-index l.ops)) l.fn.kept.worths.items l.kept.worths.items;
  back : worths_before l.kept ≡ worths_before l.fn.kept;
}
