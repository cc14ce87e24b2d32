use Rattle.std.proofs.Common.{ap, refl}
use Rattle.pair_counters.specs.Counts.{Counts}
use Rattle.tree_home.specs.Homes.{open_trees}
use Rattle.tree_step.proofs.Ordered.{left_may_collect, swept_window}
use Rattle.tree_step.proofs.doing.do_parts.Goals as goal

pub collect_table-requires : goal.collect_table-requires
collect_table-requires c =
    left_may_collect c.args.parts.now c.in-Sweep.version c.requires.may.window
    (rw c.in-Sweep.is at c.requires.may.fits)

pub returns-in-Sweep-clause-done : goal.returns-in-Sweep-clause-done
returns-in-Sweep-clause-done c = rw c.in-Sweep.is (record {
  row = λ i. record {
    state = record {
      turns = c.sweep.ensures i;
      items = c.collect_table.ensures.items i;
      counts = (c.drop_below.ensures i).numbers;
      homes = open_trees c.args.parts.now.homes;
    };
    sent = c.args.scratch.now.sent;
    acts = c.args.scratch.now.acts;
  };
  held = refl;
  nodes = ap (λ (k : Counts). k.nodes) c.drop_below.ensures;
  window = swept_window c.args.parts.now c.in-Sweep.version c.sweep.new.self c.collect_table.new.items
      c.drop_below.new.self c.requires.may.window (rw c.in-Sweep.is at c.requires.may.fits) c.sweep.ensures
      c.collect_table.ensures.items c.drop_below.ensures;
  err = tt;
})
