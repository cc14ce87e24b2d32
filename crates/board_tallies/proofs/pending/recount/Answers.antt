use Rattle.board_tallies.proofs.Counted.{counted_out, counted_same}
use Rattle.board_tallies.proofs.pending.recount.Goals as goal

pub returns-in-Some-None-clause-counts : goal.returns-in-Some-None-clause-counts
returns-in-Some-None-clause-counts c =
    counted_out c.args.reads c.in-Some-None.version c.args.before c.args.after c.args.pending.now.items c.count_out.new.pending.items
    c.in-Some-None.is-0 c.in-Some-None.is-1 c.count_out.ensures.counts

pub returns-in_default-2-clause-counts : goal.returns-in_default-2-clause-counts
returns-in_default-2-clause-counts c =
    counted_same c.args.reads _ _ c.args.before c.args.after c.args.pending.now.items c.in_default.is-0 c.in_default.is-1
