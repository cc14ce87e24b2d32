-- A small run with a strict transaction, which draws from an item and gets another one once an update transaction is
-- answered. Its script is valid and its run ends, so it has the headline; that the transaction commits, and what is
-- worth then, is computed.
use Rattle.std.proofs.Common.{◌≡◌, ℕ, zero, suc, ◌<◌, ◌≤◌, true, List, [], ◌∷◌, ◌++◌, length, reverse, refl, arith, Some, None}
use Rattle.std.specs.Prelude.{nat_eq, pos}
use Rattle.std.specs.List.{IsDistinct}
use Rattle.std.specs.Str.{bytes_eq}
use Rattle.commute_ops.specs.declared.value.Value.TheVariants.{Sum}
use Rattle.letter_types.specs.declared.entries.Entry.{Entry}
use Rattle.tx_trees.specs.Counts.{trees_puts}
use Rattle.tx_trees.specs.Forms.{most_amount}
use Rattle.tx_trees.specs.ScriptData.{ScriptData}
use Rattle.tx_trees.specs.Valid.{IsValid, load, tree_names}
use Rattle.tx_trees.specs.declared.parts.Deed.TheVariants.{Draw, Get}
use Rattle.tx_trees.specs.declared.parts.ScriptRow.TheVariants.{Tree, Settle}
use Rattle.tx_trees.specs.declared.parts.TreeKind.TheVariants.{Strict}
use Rattle.board_rules.specs.Histories.{is_whole, places_of, version_of, was_decided_as}
use Rattle.board_rules.specs.Serial.{serial_to}
use Rattle.board_rules.specs.Worth.{worth}
use Rattle.world_model.specs.Runs.{in_flight}
use Rattle.world_model.specs.Sample.{sample, small}
use Rattle.tree_laws.specs.Entries.{entries_most}
use Rattle.tree_laws.proofs.histories.Sampled.{small_valid}
use Rattle.run_laws.proofs.ending.Sampled.{sample_run}
use Rattle.headline.specs.Ended.{HasEnded}
use Rattle.headline.specs.Held.{held_after}
use Rattle.headline.proofs.Emptied.{ended_past}

-- the small script, and once its tree is answered a strict tree, whose root draws 4 from a at node 0 and whose child gets b
-- at node 1
abbrev pub drawing : ScriptData
drawing = record small {
  trees = small.trees ++ record {
    name = 107 ∷ [];
    kind = Strict;
    subs = record { parent = record { 0 = 0 }; node = record { 0 = 0 }; ops = record { item = record { 0 = 0 }; deed = Draw (pos 4) } ∷ [] }
        ∷ record { parent = record { 0 = 0 }; node = record { 0 = 1 }; ops = record { item = record { 0 = 1 }; deed = Get } ∷ [] } ∷ [];
    written = None;
  } ∷ [];
  rows = small.rows ++ Settle ∷ Tree (record { 0 = 1 }) ∷ [];
}

loads : (x : ℕ) → x < 2 → load x drawing ≤ most_amount drawing.form
loads zero lt = omega arith
loads (suc zero) lt = omega arith
loads (suc (suc x)) lt = absurd (omega arith)

puts : (x : ℕ) → x < 2 → trees_puts x drawing.trees ≤ 64
puts zero lt = omega arith
puts (suc zero) lt = omega arith
puts (suc (suc x)) lt = absurd (omega arith)

trees_apart : IsDistinct bytes_eq (tree_names drawing.trees)
unfolding IsDistinct
trees_apart = ((refl, tt), (tt, tt))

items_once : IsDistinct nat_eq (0 ∷ 1 ∷ [])
unfolding IsDistinct
items_once = ((refl, tt), (tt, tt))

valid : IsValid drawing
valid = record {
  some_nodes = omega arith;
  few_nodes = omega arith;
  few_items = omega arith;
  few_trees = omega arith;
  items = small_valid.items;
  trees = (
    small_valid.trees.0,
    (
      record {
        root = omega arith;
        few = omega arith;
        subs = (
          record { root = λ is. refl; parent = λ lt. absurd (omega arith); node = omega arith; few = omega arith; ops = ((refl, refl), tt); amounts = (refl, tt) },
          (record { root = λ is. refl; parent = λ lt. omega arith; node = omega arith; few = omega arith; ops = ((refl, refl), tt); amounts = (refl, tt) }, tt),
        );
        name = refl;
        once = λ is. items_once;
      },
      tt,
    ),
  );
  loads = loads;
  rows = (refl, (refl, refl));
  begun = λ is. absurd (cc is);
  distinct_items = small_valid.distinct_items;
  distinct_trees = trees_apart;
  limited = record {
    subs = omega arith;
    ops = omega arith;
    puts = puts;
    advances = omega arith;
    loses = omega arith;
    strict = omega arith;
    pairs = omega arith;
    places = omega arith;
  };
  first_form = λ is. refl;
  unfailed = λ is. refl;
  failed = (tt, (tt, tt));
}

abbrev ran : List Entry
ran = reverse (sample drawing 30)

all_taken : in_flight drawing (sample drawing 30) ≡ []
all_taken = refl

pub ended : HasEnded drawing ran
ended = ended_past drawing (sample drawing 30) valid (sample_run drawing 30 valid refl) all_taken

pub commits : was_decided_as 1 true (places_of ran) ≡ true
commits = refl

pub is_applied : is_whole drawing ran 1 ≡ true
is_applied = refl

pub version_one : version_of ran 1 ≡ Some (record { 0 = 1 })
version_one = refl

pub comes_second : serial_to drawing ran 1 ≡ 0 ∷ 1 ∷ []
comes_second = refl

pub drawn : worth drawing ran 0 1 ≡ Sum (record { 0 = pos 11 })
drawn = refl

pub held : held_after drawing ran 0 0 ≡ (record { 0 = 0 }, Sum (record { 0 = pos 10 })) ∷ (record { 0 = 1 }, Sum (record { 0 = pos 11 })) ∷ []
held = refl

-- the number of its entries, and how many there could have been
pub entries : length ran ≡ 17
entries = refl

pub entries_could_be : entries_most drawing ≡ 35
entries_could_be = refl
