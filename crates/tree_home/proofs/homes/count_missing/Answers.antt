use Rattle.std.proofs.Common.{◌∙◌, arith, sym}
use Rattle.tree_home.proofs.Masks.{counted-missing, counted-there}
use Rattle.tree_home.proofs.homes.count_missing.Goals as goal
use Rattle.tree_home.proofs.homes.count_missing.Goals.{else-misses, then-misses}

pub loop-k-preserved : goal.loop-k-preserved
loop-k-preserved c =
    let ns = c.args.opened.now.notices in
    let k = c.loop-k.k in
    let long = c.subs-subs.ensures in
    elim c.if-misses.branch [
      | then-misses w ↦
          let one = counted-missing ns k (sym c.misses.ensures ∙ w.if-misses.true) in
          record { count = omega arith; few = omega arith }
      | else-misses w ↦
          let same = counted-there ns k (omega arith) (sym c.misses.ensures ∙ w.if-misses.false) in
          record { count = omega arith; few = omega arith }
    ]
