-- Two small valid scripts, one of them with a read, have runs to the end.
use Rattle.std.proofs.Common.{ℕ, zero, suc, ◌<◌, ◌≤◌, refl, arith}
use Rattle.std.specs.List.{IsDistinct}
use Rattle.std.specs.Str.{bytes_eq}
use Rattle.tx_trees.specs.Counts.{trees_puts}
use Rattle.tx_trees.specs.Forms.{most_amount}
use Rattle.tx_trees.specs.Valid.{IsLimited, IsValid, item_names, load, tree_names}
use Rattle.world_model.specs.Runs.{IsStepRun, AtNode, AtCoordinator, AtClient}
use Rattle.world_model.specs.Sample.{sample, small, with_read}

small_loads : (x : ℕ) → x < 2 → load x small ≤ most_amount small.form
small_loads zero lt = omega arith
small_loads (suc zero) lt = omega arith
small_loads (suc (suc x)) lt = absurd (omega arith)

small_puts : (x : ℕ) → x < 2 → trees_puts x small.trees ≤ 64
small_puts zero lt = omega arith
small_puts (suc zero) lt = omega arith
small_puts (suc (suc x)) lt = absurd (omega arith)

small_limited : IsLimited small
small_limited = record {
  subs = omega arith;
  ops = omega arith;
  puts = small_puts;
  advances = omega arith;
  loses = omega arith;
  strict = omega arith;
  pairs = omega arith;
  places = omega arith;
}

-- names that are apart
items_apart : IsDistinct bytes_eq (item_names small.items)
unfolding IsDistinct
items_apart = ((refl, tt), (tt, tt))

one_apart : IsDistinct bytes_eq (tree_names small.trees)
unfolding IsDistinct
one_apart = (tt, tt)

two_apart : IsDistinct bytes_eq (tree_names with_read.trees)
unfolding IsDistinct
two_apart = ((refl, tt), (tt, tt))

pub small_valid : IsValid small
small_valid = record {
  some_nodes = omega arith;
  few_nodes = omega arith;
  few_items = omega arith;
  few_trees = omega arith;
  items = (
    record { node = omega arith; bag = λ is. absurd (cc is); name = refl; small = omega arith },
    (record { node = omega arith; bag = λ is. absurd (cc is); name = refl; small = omega arith }, tt),
  );
  trees = (
    record {
      root = omega arith;
      few = omega arith;
      subs = (
        record { root = λ is. refl; parent = λ lt. absurd (omega arith); node = omega arith; few = omega arith; ops = ((refl, refl), tt); amounts = (refl, tt) },
        (record { root = λ is. refl; parent = λ lt. omega arith; node = omega arith; few = omega arith; ops = ((refl, refl), tt); amounts = (refl, tt) }, tt),
      );
      name = refl;
      once = λ is. absurd (cc is);
    },
    tt,
  );
  loads = small_loads;
  rows = (refl, refl);
  begun = λ is. absurd (cc is);
  distinct_items = items_apart;
  distinct_trees = one_apart;
  limited = small_limited;
  first_form = λ is. refl;
  unfailed = λ is. refl;
  failed = (tt, tt);
}

-- the run of the small script
pub small_run : IsStepRun small (sample small 6)
small_run = (
  record { stamp = refl; waits = refl; addressee = refl; moves = AtCoordinator refl refl (refl, refl) },
  (
    record { stamp = refl; waits = refl; addressee = refl; moves = AtClient refl (refl, refl) },
    (
      record { stamp = refl; waits = refl; addressee = refl; moves = AtNode (omega arith) (refl, refl) },
      (
        record { stamp = refl; waits = refl; addressee = refl; moves = AtNode (omega arith) (refl, refl) },
        (
          record { stamp = refl; waits = refl; addressee = refl; moves = AtNode (omega arith) (refl, refl) },
          (record { stamp = refl; waits = refl; addressee = refl; moves = AtClient refl (refl, refl) }, tt),
        ),
      ),
    ),
  ),
)

read_loads : (x : ℕ) → x < 2 → load x with_read ≤ most_amount with_read.form
read_loads zero lt = omega arith
read_loads (suc zero) lt = omega arith
read_loads (suc (suc x)) lt = absurd (omega arith)

read_puts : (x : ℕ) → x < 2 → trees_puts x with_read.trees ≤ 64
read_puts zero lt = omega arith
read_puts (suc zero) lt = omega arith
read_puts (suc (suc x)) lt = absurd (omega arith)

read_limited : IsLimited with_read
read_limited = record {
  subs = omega arith;
  ops = omega arith;
  puts = read_puts;
  advances = omega arith;
  loses = omega arith;
  strict = omega arith;
  pairs = omega arith;
  places = omega arith;
}

pub read_valid : IsValid with_read
read_valid = record {
  some_nodes = omega arith;
  few_nodes = omega arith;
  few_items = omega arith;
  few_trees = omega arith;
  items = small_valid.items;
  trees = (
    small_valid.trees.0,
    (
      record {
        root = omega arith;
        few = omega arith;
        subs = (
          record { root = λ is. refl; parent = λ lt. absurd (omega arith); node = omega arith; few = omega arith; ops = ((refl, refl), tt); amounts = (refl, tt) },
          (record { root = λ is. refl; parent = λ lt. omega arith; node = omega arith; few = omega arith; ops = ((refl, refl), tt); amounts = (refl, tt) }, tt),
        );
        name = refl;
        once = λ is. absurd (cc is);
      },
      tt,
    ),
  );
  loads = read_loads;
  rows = (refl, (refl, refl));
  begun = λ is. absurd (cc is);
  distinct_items = items_apart;
  distinct_trees = two_apart;
  limited = read_limited;
  first_form = λ is. refl;
  unfailed = λ is. refl;
  failed = (tt, (tt, tt));
}

-- the run of the script with a read
pub read_run : IsStepRun with_read (sample with_read 11)
read_run = (
  record { stamp = refl; waits = refl; addressee = refl; moves = AtCoordinator refl refl (refl, refl) },
  (
    record { stamp = refl; waits = refl; addressee = refl; moves = AtClient refl (refl, refl) },
    (
      record { stamp = refl; waits = refl; addressee = refl; moves = AtNode (omega arith) (refl, refl) },
      (
        record { stamp = refl; waits = refl; addressee = refl; moves = AtNode (omega arith) (refl, refl) },
        (
          record { stamp = refl; waits = refl; addressee = refl; moves = AtNode (omega arith) (refl, refl) },
          (
            record { stamp = refl; waits = refl; addressee = refl; moves = AtCoordinator refl refl (refl, refl) },
            (
              record { stamp = refl; waits = refl; addressee = refl; moves = AtClient refl (refl, refl) },
              (
                record { stamp = refl; waits = refl; addressee = refl; moves = AtNode (omega arith) (refl, refl) },
                (
                  record { stamp = refl; waits = refl; addressee = refl; moves = AtNode (omega arith) (refl, refl) },
                  (
                    record { stamp = refl; waits = refl; addressee = refl; moves = AtNode (omega arith) (refl, refl) },
                    (record { stamp = refl; waits = refl; addressee = refl; moves = AtClient refl (refl, refl) }, tt),
                  ),
                ),
              ),
            ),
          ),
        ),
      ),
    ),
  ),
)
