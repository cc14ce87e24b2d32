-- Rows whose transactions are answered, and what is counted if no message is in flight.
use Rattle.std.proofs.Common.{◌≡◌, inl, inr, ℕ, suc, ◌+◌, ◌<◌, ◌≤◌, ◌==◌, Bool, true, false, List, ◌∷◌, length, take, reverse, refl, sym, ap, ◌∙◌, arith, Option, Some, None, []}
use Rattle.std.specs.Prelude.{get_or, slice_get}
use Rattle.std.proofs.lemmas.Bool.Decides.{nat_tests}
use Rattle.std.proofs.lemmas.Bool.{and_from}
use Rattle.letter_types.specs.declared.entries.Entry.{Entry}
use Rattle.letter_types.specs.declared.entries.Letter.{Letter}
use Rattle.world_model.specs.Client.{Client, all_answered, have_ended}
use Rattle.tree_home.specs.Homes.{Gets, missing_count}
use Rattle.tx_trees.specs.ScriptData.{ScriptData}
use Rattle.tx_trees.specs.Valid.{NamesInOrder}
use Rattle.tx_trees.specs.declared.parts.ScriptRow.{ScriptRow}
use Rattle.tx_trees.specs.declared.parts.ScriptRow.TheVariants.{Tree as TreeRow, Advance as AdvanceRow, Settle as SettleRow, Lose as LoseRow}
use Rattle.tx_trees.proofs.SubsOf.{names_end}
use Rattle.world_model.specs.Counts.{tally, one_if}
use Rattle.world_model.specs.Runs.{in_flight}
use Rattle.world_model.proofs.Bags.{one_if_same}
use Rattle.tree_laws.specs.Dids.{roots_sent}
use Rattle.tree_laws.specs.Ends.{is_finish, finishes_in}
use Rattle.tree_laws.proofs.histories.Acts.{acts_more}
use Rattle.tree_laws.proofs.histories.Client.{IsStopped, finish_count}

-- What is done where no letter is in flight.

-- nothing is counted among the letters in flight
pub none_left : (f : Letter → ℕ) (s : ScriptData) (past : List Entry) → in_flight s past ≡ [] → tally f (in_flight s past) ≡ 0
none_left f s past empty = ap (λ (ls : List Letter). tally f ls) empty

-- the place of a notice that is missing
pub place_missing : (ns : List (Option Gets)) → 1 ≤ missing_count ns → (k : ℕ) × (k < length ns) × (slice_get ns k ≡ Some None)
place_missing [] some = absurd (omega arith)
place_missing (None ∷ ns) some = (0, omega arith, refl)
place_missing (Some values ∷ ns) some = let (k, lt, at) = place_missing ns some in (suc k, omega (arith, lt), at)

-- The rows.
-- the first row, by whether it names the tree
rooted_here : (t u i n : ℕ) (rest : ℕ) (test : Bool) → (u == t) ≡ test → u ≡ i → i < n → (1 ≤ rest → t < n) → 1 ≤ one_if test + rest → t < n
rooted_here t u i n rest true is at lt later some = grind (arith, nat_tests)
rooted_here t u i n rest false is at lt later some = later (omega arith)

-- a row names a tree of the script
pub rooted_below : (t i n : ℕ) (rows : List ScriptRow) → NamesInOrder i n rows → 1 ≤ roots_sent t rows → t < n
rooted_below t i n [] names some = absurd (omega arith)
rooted_below t i n (TreeRow u ∷ rows) names some =
    rooted_here t u.0 i n (roots_sent t rows) (u.0 == t) refl names.0 (omega (arith, names_end (i + 1) n rows names.1)) (rooted_below t (i + 1) n rows names.1) some
rooted_below t i n (AdvanceRow ∷ rows) names some = rooted_below t i n rows names (omega (arith, some))
rooted_below t i n (SettleRow ∷ rows) names some = rooted_below t i n rows names (omega (arith, some))
rooted_below t i n (LoseRow ∷ rows) names some = rooted_below t i n rows names (omega (arith, some))

pub is_true_of : (b : Bool) → 1 ≤ one_if b → b ≡ true
is_true_of true some = refl
is_true_of false some = absurd (omega arith)

-- the trees of rows are answered where each of them is
pub all_answered_of : (answered : List Bool) (rows : List ScriptRow) → ((t : ℕ) → 1 ≤ roots_sent t rows → get_or answered t false ≡ true)
    → all_answered answered rows ≡ true
all_answered_of answered [] each = refl
all_answered_of answered (TreeRow t ∷ rows) each =
    and_from (get_or answered t.0 false) (all_answered answered rows) (each t.0 (omega (arith, one_if_same t.0)))
    (all_answered_of answered rows (λ u some. each u (omega (arith, some))))
all_answered_of answered (AdvanceRow ∷ rows) each = all_answered_of answered rows (λ u some. each u (omega (arith, some)))
all_answered_of answered (SettleRow ∷ rows) each = all_answered_of answered rows (λ u some. each u (omega (arith, some)))
all_answered_of answered (LoseRow ∷ rows) each = all_answered_of answered rows (λ u some. each u (omega (arith, some)))

-- the client doesn't wait at a settle row
pub at_end : (s : ScriptData) (c : Client) → IsStopped s c → have_ended c (take c.next s.rows) ≡ true → c.next ≡ length s.rows
at_end s c (inl all) over = all
at_end s c (inr (at, waits)) over = let clash : true ≡ false = sym over ∙ waits in absurd (cc clash)

-- a history counts as its past does
pub finishes_of : (past : List Entry) → finishes_in (reverse past) ≡ finish_count past
finishes_of [] = refl
finishes_of (e ∷ past) = omega (arith, acts_more is_finish past e, finishes_of past)
