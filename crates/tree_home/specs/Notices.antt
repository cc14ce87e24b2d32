-- The notices of a tree that is open at its home: a mask of those that are missing, and the values of the others.
use Rattle.std.specs.Prelude.{if◌then◌else◌, ℕ, ◌+◌, ◌<◌, ◌≤◌, ◌^◌, ◌==◌, List, [], ◌++◌, take, drop, map, Option, Some, None, slice_index_or}
use Rattle.std.specs.Int.{bit_at}
use Rattle.std.specs.List.{flat_map, range_with_len}
use Rattle.tv_base.specs.declared.numbers.ItemNo.{ItemNo}
use Rattle.tv_base.specs.declared.numbers.Version.{Version}
use Rattle.commute_ops.specs.declared.value.Value.{Value}

-- the values of gets, in order
abbrev pub Gets : Type 0
Gets = List (ItemNo × Value)

-- what is open of a tree: its version, and for each subtransaction the values of its notice, or None if it is missing
pub record OpenTreeData : Type 0 where
  pub version : Version
  pub notices : List (Option Gets)

-- the values of lists, one list after another
abbrev pub joined_gets : List Gets → Gets
joined_gets vss = flat_map (λ vs. vs) vss

-- the values of lists, with others in the place of k's
abbrev pub joined_with : ℕ → Gets → List Gets → Gets
joined_with k ws vss = joined_gets (take k vss) ++ ws ++ joined_gets (drop (k + 1) vss)

-- the notice of subtransaction k, by a mask m of those that are missing
abbrev pub notice_at : ℕ → List Gets → ℕ → Option Gets
notice_at m vss k = if bit_at m k == 1 then None else Some (slice_index_or vss k [])

-- the notices of n subtransactions
abbrev pub notices_of : ℕ → ℕ → List Gets → List (Option Gets)
notices_of n m vss = map (notice_at m vss) (range_with_len 0 n)

-- n subtransactions with a mask m, and k lists of values with room for c
pub record IsOpenTree (n m k c : ℕ) : Type 0 where
  pub few : n ≤ 64
  pub mask : m < 2 ^ n
  pub lists : k ≤ n
  pub room : n ≤ c
