-- What is kept of each transaction while the acts of a history are gone over from the last one. Only the code of the
-- report cites it.
use Rattle.std.specs.Prelude.{ℕ, zero, suc, Bool, true, false, ◌&&◌, ◌||◌, List, [], ◌∷◌, length, Some, None, replicate, slice_set, get_or, is_some}
use Rattle.tv_base.specs.declared.numbers.Version.{Version}
use Rattle.letter_types.specs.declared.acts.Act.{Act}
use Rattle.letter_types.specs.declared.acts.Act.TheVariants.{Born, Did, Decided, Applied, Finished}
use Rattle.tx_trees.specs.declared.parts.Sub.{Sub}
use Rattle.tx_trees.specs.declared.parts.Tree.{Tree}
use Rattle.tx_trees.specs.declared.parts.TreeKind.{TreeKind}
use Rattle.tx_trees.specs.declared.parts.TreeKind.TheVariants.{Update, Read, Strict}
use Rattle.board_model.specs.declared.standings.Standing.{Standing}
use Rattle.board_model.specs.declared.tallies.TreeNews.{TreeNews}
use Rattle.board_model.specs.declared.tallies.TreeNews.TheVariants as news
use Rattle.board_model.specs.declared.tallies.Tally.{Tally}
use Rattle.tv_base.specs.declared.numbers.TheConstants.{MOST_NODES, MOST_SUBS_OF_TREE}
use Rattle.board_rules.specs.Histories.{Place}

-- nothing is known of the transaction yet
abbrev pub blank : Tally
blank = record {
  born = None;
  done = replicate MOST_SUBS_OF_TREE false;
  applied = replicate MOST_NODES false;
  committed = false;
}

abbrev pub with_born : Version → Tally → Tally
with_born v row = record row { born = Some v }

abbrev pub with_sub_done : ℕ → Tally → Tally
with_sub_done k row = record row { done = slice_set row.done k true }

abbrev pub with_decided : Bool → Tally → Tally
with_decided commit row = record row { committed = commit || row.committed }

abbrev pub with_applied : ℕ → Tally → Tally
with_applied p row = record row { applied = slice_set row.applied p true }

-- a row with what is noted on it
abbrev pub with_news : TreeNews → Tally → Tally
with_news (news.Born v) = with_born v
with_news (news.Done k) = with_sub_done k.0
with_news (news.Decided commit) = with_decided commit
with_news (news.Applied p) = with_applied p.0

-- the row of transaction t changed, if it is there
abbrev pub on_row : {A : Type 0} → ℕ → (A → A) → List A → List A
on_row t f [] = []
on_row zero f (row ∷ rows) = f row ∷ rows
on_row (suc t) f (row ∷ rows) = row ∷ on_row t f rows

-- an act at node p, before those noted
abbrev pub tallies_with_act : ℕ → Act → List Tally → List Tally
tallies_with_act p (Born t v) rows = on_row t.0 (with_born v) rows
tallies_with_act p (Did t k values) rows = on_row t.0 (with_sub_done k.0) rows
tallies_with_act p (Decided t commit) rows = on_row t.0 (with_decided commit) rows
tallies_with_act p (Applied t commit) rows = on_row t.0 (with_applied p) rows
tallies_with_act p Finished rows = rows
tallies_with_act p _ rows = rows

-- the rows after acts that are noted from the last one
abbrev pub noted_back : List Place → List Tally → List Tally
noted_back [] rows = rows
noted_back (x ∷ xs) rows = tallies_with_act x.node x.act (noted_back xs rows)

-- each of the first n subtransactions was done
abbrev pub all_marked : ℕ → List Bool → Bool
all_marked zero done = true
all_marked (suc n) done = all_marked n done && get_or done n false

-- the node of each subtransaction is marked
abbrev pub all_met : List Sub → List Bool → Bool
all_met [] applied = true
all_met (k ∷ ks) applied = get_or applied k.node.0 false && all_met ks applied

abbrev pub is_through_by : TreeKind → List Sub → Tally → Bool
is_through_by Strict subs row = all_met subs row.applied
is_through_by Update subs row = all_marked (length subs) row.done
is_through_by Read subs row = all_marked (length subs) row.done

-- what a row says of its transaction
abbrev pub standing_by : Tree → Tally → Standing
standing_by tree row =
    record {
      born = row.born;
      whole = is_some row.born && is_through_by tree.kind tree.subs row;
      committed = row.committed;
    }

abbrev pub stood_by : List Tally → List Tree → List Standing
stood_by [] trees = []
stood_by (row ∷ rows) [] = []
stood_by (row ∷ rows) (tree ∷ trees) = standing_by tree row ∷ stood_by rows trees
