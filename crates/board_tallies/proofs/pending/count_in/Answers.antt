use Rattle.std.proofs.Common.{ap, ◌∙◌, slice_set}
use Rattle.board_tallies.specs.declared.pending.Pending.{Pending}
use Rattle.board_tallies.proofs.Marks.{set_back}
use Rattle.board_tallies.proofs.pending.count_in.Goals as goal

pub returns-clause-back : goal.returns-clause-back
returns-clause-back c =
    ap (λ (one : Pending). slice_set (slice_set c.args.pending.now.items c.in-Some.place c.with_count.result) c.in-Some.place one) c.index-was.ensures
    ∙ set_back c.args.pending.now.items c.in-Some.place c.with_count.result c.index-was.result.now
