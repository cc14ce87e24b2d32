-- Cells in the order of their numbers, and how many entries they have together, where loops read them.
use Rattle.std.proofs.Common.{◌≡◌, ℕ, ◌+◌, ◌<◌, List, [], ◌∷◌, length, drop, get_or, map, refl, ap, sym, subst, ◌∙◌, arith}
use Rattle.std.specs.Prelude.{sum_by}
use Rattle.std.proofs.lemmas.List.{at_drop_more}
use Rattle.std.proofs.lemmas.List.Sums.{sum_by-cons}
use Rattle.history_merge.specs.Merging.{NumberedBy}
use Rattle.history_merge.specs.OwnLogs.{LogData}
use Rattle.node_threads.specs.Cells.{CellData, HasAllEntries, cell_data, entries_in}

abbrev number_of : CellData → ℕ
number_of c = c.number

opened : (cells : List CellData) (i : ℕ) (c : CellData) → i < length cells → c ≡ get_or cells i c
    → drop i cells ≡ c ∷ drop (i + 1) cells
opened cells i c small is =
    at_drop_more (λ (cs : List CellData). cs) cells i c small ∙ ap (λ (x : CellData). x ∷ drop (i + 1) cells) (sym is)

-- cells that are numbered from a place on are so at it and behind it
pub numbered_here : (i : ℕ) (cells : List CellData) (c : CellData) → i < length cells → c ≡ get_or cells i c
    → NumberedBy (λ c. c.number) i (drop i cells) → c.number ≡ i
numbered_here i cells c small is are = let first = subst (NumberedBy number_of i) (opened cells i c small is) are in first.0

pub numbered_behind : (i : ℕ) (cells : List CellData) (c : CellData) → i < length cells → c ≡ get_or cells i c
    → NumberedBy (λ c. c.number) i (drop i cells) → NumberedBy (λ c. c.number) (i + 1) (drop (i + 1) cells)
numbered_behind i cells c small is are = let first = subst (NumberedBy number_of i) (opened cells i c small is) are in first.1

-- and the other way round
pub numbered_from : (i : ℕ) (cells : List CellData) (c : CellData) → i < length cells → c ≡ get_or cells i c → c.number ≡ i
    → NumberedBy (λ c. c.number) (i + 1) (drop (i + 1) cells) → NumberedBy (λ c. c.number) i (drop i cells)
numbered_from i cells c small is here behind =
    subst (NumberedBy number_of i) (sym (opened cells i c small is)) (here, behind)

-- the entries from a place on are those of its cell and those behind it
pub entries_from : (i : ℕ) (cells : List CellData) (c : CellData) → i < length cells → c ≡ get_or cells i c
    → entries_in (drop i cells) ≡ length c.entries + entries_in (drop (i + 1) cells)
entries_from i cells c small is =
    ap entries_in (opened cells i c small is) ∙ sum_by-cons (λ (x : CellData). length x.entries) c (drop (i + 1) cells)

-- logs have the entries of their cells
pub entries_of_logs : (ls : List LogData)
    → entries_in (map (λ l. cell_data l.number l.entries) ls) ≡ sum_by (λ l. length l.entries) ls
entries_of_logs [] = refl
entries_of_logs (l ∷ ls) =
    let cell_of : LogData → CellData = λ x. cell_data x.number x.entries in
    omega (
      arith,
      sum_by-cons (λ (c : CellData). length c.entries) (cell_of l) (map cell_of ls),
      sum_by-cons (λ (x : LogData). length x.entries) l ls,
      entries_of_logs ls,
    )

pub ruleset numbering = (numbered_here, numbered_behind, numbered_from)

pub ruleset counting = (entries_from)

-- what has all entries is in order and whole
pub all_ordered : (cells : List CellData) (count : ℕ) → HasAllEntries cells count → NumberedBy (λ c. c.number) 0 cells
all_ordered cells count all = all.order

pub all_counted : (cells : List CellData) (count : ℕ) → HasAllEntries cells count → count ≡ entries_in cells
all_counted cells count all = all.whole

pub has_all : (cells : List CellData) (count : ℕ) → NumberedBy (λ c. c.number) 0 cells → count ≡ entries_in cells
    → HasAllEntries cells count
has_all cells count order whole = record { order = order; whole = whole }

pub ruleset holding = (all_ordered, all_counted, has_all)
