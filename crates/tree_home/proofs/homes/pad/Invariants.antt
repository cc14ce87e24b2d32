use Rattle.std.proofs.Common.{◌≡◌, ℕ, ◌-◌, ◌≤◌, [], length, get_or, vec_capacity, vec_len}
use Rattle.tree_home.proofs.homes.pad.Given as goal

-- the empty lists so far change nothing
abbrev pub invariant-padding : goal.invariant-padding
invariant-padding l = record {
  same : (k : ℕ) → get_or l.lists.items k [] ≡ get_or l.initial.lists.items k [];
  long : length l.lists.items ≤ l.sub;
  room : vec_capacity l.lists ≡ vec_capacity l.initial.lists;
}

abbrev pub decreases-padding : goal.decreases-padding
decreases-padding l = l.sub - vec_len l.lists
