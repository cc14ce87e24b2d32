-- A small run with an advancement ends, after as many entries as its script and its rounds say; and so it was to.
use Rattle.std.proofs.Common.{if◌then◌else◌, ◌≡◌, ℕ, zero, suc, ◌+◌, ◌<◌, ◌≤◌, ◌==◌, Bool, true, false, List, [], ◌∷◌, ◌++◌, length, reverse, refl, subst, ◌∙◌, ap, arith, Some}
use Rattle.std.specs.Prelude.{nat_lt}
use Rattle.std.proofs.lemmas.Bool.Decides.{nat_tests}
use Rattle.letter_types.specs.declared.entries.Entry.{Entry}
use Rattle.letter_types.specs.declared.entries.Letter.{Letter}
use Rattle.letter_types.specs.Letters.{find_id}
use Rattle.letter_types.proofs.Ids.{same_id-self}
use Rattle.board_rules.specs.Right.{HasFinished}
use Rattle.tx_trees.specs.ScriptData.{ScriptData}
use Rattle.tx_trees.specs.Forms.{most_amount}
use Rattle.tx_trees.specs.Valid.{IsValid, load}
use Rattle.tx_trees.specs.declared.parts.ScriptRow.TheVariants.{Advance}
use Rattle.world_model.specs.Keeping.{keeping_row}
use Rattle.world_model.specs.Counts.{Each}
use Rattle.world_model.specs.Runs.{in_flight, client_in, coordinator_in, keeping_in, AtNode, AtCoordinator, AtClient, MayFollow, IsStepRun}
use Rattle.world_model.specs.Sample.{entry_by, next_of, sample, small}
use Rattle.world_model.specs.Tables.{client_table, coordinator_table}
use Rattle.world_model.proofs.Addressees.{all_addressed}
use Rattle.tree_laws.specs.Entries.{entries_of}
use Rattle.tree_laws.proofs.histories.Sampled.{small_valid}
use Rattle.run_laws.proofs.ending.Ends.{no_run_stalls}
use Rattle.script_parts.specs.Counts.{is_lossy}

-- the small script, and an advancement after its tree
abbrev pub advanced : ScriptData
advanced = record small { rows = small.rows ++ Advance ∷ [] }

pub all_taken : in_flight advanced (sample advanced 44) ≡ []
all_taken = refl

pub entries : length (sample advanced 44) ≡ entries_of advanced (coordinator_in advanced (sample advanced 44)).count.number
entries = refl

pub finished : (client_in advanced (sample advanced 44)).finished ≡ true
finished = refl

-- It is a run.
first_found : (l : Letter) (ls : List Letter) → find_id l.id (l ∷ ls) ≡ Some l
first_found l ls = rw (same_id-self l.id) refl

follows : (s : ScriptData) (past : List Entry) (l : Letter) → find_id l.id (in_flight s past) ≡ Some l → l.to.0 < s.nodes + 2
    → is_lossy s ≡ false → (a b : Bool) → nat_lt l.to.0 s.nodes ≡ a → (l.to.0 == s.nodes) ≡ b
    → MayFollow s past (if a then entry_by past l (keeping_row s l.to.0 (keeping_in s past l.to.0) l)
    else if b then entry_by past l (coordinator_table (coordinator_in s past) l) else entry_by past l (client_table s (client_in s past) l))
follows s past l found lt keeps true b node at =
    record { stamp = refl; waits = found; addressee = refl; moves = AtNode (grind (arith, nat_tests)) (refl, refl) }
follows s past l found lt keeps false true node at =
    record { stamp = refl; waits = found; addressee = refl; moves = AtCoordinator (grind (arith, nat_tests)) keeps (refl, refl) }
follows s past l found lt keeps false false node at =
    record { stamp = refl; waits = found; addressee = refl; moves = AtClient (grind (arith, nat_tests)) (refl, refl) }

next_run : (s : ScriptData) (past : List Entry) (ls : List Letter) → IsValid s → is_lossy s ≡ false → IsStepRun s past → in_flight s past ≡ ls → IsStepRun s (next_of s past ls)
next_run s past [] valid keeps run at = run
next_run s past (l ∷ ls) valid keeps run at =
    let lt : l.to.0 < s.nodes + 2 =
    (subst (λ (xs : List Letter). Each (λ (x : Letter). x.to.0 < s.nodes + 2) xs) at (all_addressed s past valid run)).0 in
    let found : find_id l.id (in_flight s past) ≡ Some l = ap (λ (xs : List Letter). find_id l.id xs) at ∙ first_found l ls in
    (follows s past l found lt keeps (nat_lt l.to.0 s.nodes) (l.to.0 == s.nodes) refl refl, run)

-- each sample is one
pub sample_run : (s : ScriptData) (n : ℕ) → IsValid s → is_lossy s ≡ false → IsStepRun s (sample s n)
sample_run s zero valid keeps = tt
sample_run s (suc n) valid keeps = next_run s (sample s n) (in_flight s (sample s n)) valid keeps (sample_run s n valid keeps) refl

-- The script is valid, so the law says that the run ends.
loads : (x : ℕ) → x < 2 → load x advanced ≤ most_amount advanced.form
loads zero lt = omega arith
loads (suc zero) lt = omega arith
loads (suc (suc x)) lt = absurd (omega arith)

valid : IsValid advanced
valid = record {
  some_nodes = small_valid.some_nodes;
  few_nodes = small_valid.few_nodes;
  few_items = small_valid.few_items;
  few_trees = small_valid.few_trees;
  items = small_valid.items;
  trees = small_valid.trees;
  loads = loads;
  rows = (refl, refl);
  begun = λ is. absurd (cc is);
  distinct_items = small_valid.distinct_items;
  distinct_trees = small_valid.distinct_trees;
  limited = record {
    subs = small_valid.limited.subs;
    ops = small_valid.limited.ops;
    puts = small_valid.limited.puts;
    advances = omega arith;
    loses = omega arith;
    strict = small_valid.limited.strict;
    pairs = small_valid.limited.pairs;
    places = small_valid.limited.places;
  };
  first_form = λ is. refl;
  unfailed = λ is. refl;
  failed = (tt, tt);
}

pub ends : HasFinished (reverse (sample advanced 44))
ends = (no_run_stalls advanced (sample advanced 44) valid (sample_run advanced 44 valid refl) refl).1
