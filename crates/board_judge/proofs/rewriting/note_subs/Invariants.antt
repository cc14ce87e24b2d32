use Rattle.std.proofs.Common.{◌≡◌, ℕ, take}
use Rattle.board_judge.specs.Notes.{subs_noted}
use Rattle.board_judge.specs.inside.Rewriting.{HasNoted, worths_before}
use Rattle.board_judge.proofs.rewriting.note_subs.Given as goal

abbrev pub invariant-loop-sub : goal.invariant-loop-sub
invariant-loop-sub l = record {
  noted : HasNoted (λ (x : ℕ). subs_noted l.version.0 x (take l.sub-index l.subs)) l.fn.kept.worths.items l.kept.worths.items;
  back : worths_before l.kept ≡ worths_before l.fn.kept;
}
