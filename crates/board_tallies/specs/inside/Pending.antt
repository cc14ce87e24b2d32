-- How many transactions are counted, and what one more or less is.
use Rattle.std.specs.Prelude.{if◌then◌else◌, ℕ, Bool, ◌==◌, ◌||◌, ◌≡◌, ◌≤◌, nat_lt, filter, List, Option, Some, ◌+◌}
use Rattle.std.specs.List.{list_all}
use Rattle.tv_base.specs.declared.numbers.Version.{Version}
use Rattle.board_tallies.specs.Board.{BoardData, count_of, pending_of, pends}
use Rattle.board_tallies.specs.declared.pending.Pending.{Pending}

-- that many transactions counted in place of those that were
abbrev pub with_count : Bool → ℕ → Pending → Pending
with_count reads n p = if reads then record p { reads = n } else record p { writers = n }

-- a transaction that was pending in one version, or in none, is now so in another: it is counted before, and a version
-- isn't changed for another
pub record MayRecount (own : Bool) (before after : Option Version) (ps : List Pending) : Type 0 where
  pub counted : (reads : Bool) (v : ℕ) → pends reads v own before ≤ pending_of reads v ps
  pub stays : (v w : Version) → before ≡ Some v → after ≡ Some w → v ≡ w

-- the counts with a transaction more, that reads or that doesn't, in this version; with one less, if one is counted
-- there; and with one that is pending otherwise than before
abbrev pub HaveOneMore : Bool → Version → List Pending → List Pending → Type 0
HaveOneMore own version olds news =
    (reads : Bool) (v : ℕ) → pending_of reads v news ≡ pending_of reads v olds + pends reads v own (Some version)

abbrev pub HaveOneLess : Bool → Version → List Pending → List Pending → Type 0
HaveOneLess own version olds news = 1 ≤ pending_of own version.0 olds
    → (reads : Bool) (v : ℕ) → pending_of reads v news + pends reads v own (Some version) ≡ pending_of reads v olds

abbrev pub AreRecounted : Bool → Option Version → Option Version → List Pending → List Pending → Type 0
AreRecounted own before after olds news = MayRecount own before after olds → (reads : Bool) (v : ℕ)
    → pending_of reads v news + pends reads v own before ≡ pending_of reads v olds + pends reads v own after

-- no such transaction is counted in a version up to v
abbrev pub none_to : Bool → ℕ → List Pending → Bool
none_to reads v ps = list_all (λ (p : Pending). (count_of reads p == 0) || nat_lt v p.version.0) ps

-- a transaction is counted there
abbrev pub is_counted : Pending → Bool
is_counted p = nat_lt 0 p.writers || nat_lt 0 p.reads

-- the tallies without counts of 0
abbrev pub settled : BoardData → BoardData
settled b = record b { pending = filter is_counted b.pending }
