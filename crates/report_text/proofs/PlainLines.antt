-- Without strict transactions the lines of the transactions are the same, whatever the votes.
use Rattle.std.proofs.Common.{◌≡◌, ℕ, ◌+◌, Bool, true, false, List, [], ◌∷◌, ◌++◌, refl, ap, ◌∙◌, arith}
use Rattle.std.specs.Prelude.{if◌then◌else◌, filter, Option, Some, None}
use Rattle.std.proofs.lemmas.Bool.Decides.{nat_tests}
use Rattle.tv_base.specs.Sums.{one_if}
use Rattle.tv_base.specs.declared.numbers.Version.{Version}
use Rattle.letter_types.specs.declared.acts.Act.{Act}
use Rattle.letter_types.specs.declared.entries.Entry.{Entry}
use Rattle.tx_trees.specs.Counts.{has_strict, strict_trees}
use Rattle.tx_trees.specs.ScriptData.{ScriptData, is_strict}
use Rattle.tx_trees.specs.declared.parts.Tree.{Tree}
use Rattle.tx_trees.specs.declared.parts.TreeKind.{TreeKind}
use Rattle.tx_trees.specs.declared.parts.TreeKind.TheVariants.{Update, Read, Strict}
use Rattle.board_rules.specs.Outcomes.{acts_in}
use Rattle.board_model.specs.Ballots.{ballots_from, ballots_of, tells_of}
use Rattle.board_model.specs.declared.standings.Standing.{Standing}
use Rattle.board_rules.specs.Histories.{places_of}
use Rattle.report_text.specs.inside.Lines.{trees_lines, history_of_votes}
use Rattle.report_text.specs.Outcomes.{outcome_of}
use Rattle.report_text.specs.Report.{tree_line}

one_line : (tree : Tree) (kind : TreeKind) (born : Option Version) (text x y : List ℕ) → one_if (is_strict kind) ≡ 0
    → tree_line tree kind born (λ (v : ℕ). text) x ≡ tree_line tree kind born (λ (v : ℕ). text) y
one_line tree Update None text x y none = refl
one_line tree Update (Some v) text x y none = refl
one_line tree Read None text x y none = refl
one_line tree Read (Some v) text x y none = refl
one_line tree Strict born text x y none = absurd (omega (arith, none))

lines : (s : ScriptData) (t : ℕ) (ts : List Tree) (sts : List Standing) (texts : List (List ℕ)) (a b : List Act) → strict_trees ts ≡ 0
    → trees_lines s t ts sts texts (ballots_from a t ts) ≡ trees_lines s t ts sts texts (ballots_from b t ts)
lines s t [] sts texts a b none = refl
lines s t (tree ∷ ts) [] texts a b none = refl
lines s t (tree ∷ ts) (st ∷ sts) [] a b none = refl
lines s t (tree ∷ ts) (st ∷ sts) (text ∷ texts) a b none =
    ap (λ (z : List ℕ). z ++ trees_lines s (t + 1) ts sts texts (ballots_from a (t + 1) ts)) (one_line tree tree.kind st.born text (outcome_of s (filter (tells_of t) a) t tree.subs) (outcome_of s (filter (tells_of t) b) t tree.subs) (omega (arith, none)))
    ∙ ap (λ (z : List ℕ). tree_line tree tree.kind st.born (λ (v : ℕ). text) (outcome_of s (filter (tells_of t) b) t tree.subs) ++ z) (lines s (t + 1) ts sts texts a b (omega (arith, none)))

-- so only strict trees' votes are looked for
pub only_strict_vote : (s : ScriptData) (h : List Entry) (sts : List Standing) (texts : List (List ℕ))
    → trees_lines s 0 s.trees sts texts (ballots_of s (history_of_votes s h)) ≡ trees_lines s 0 s.trees sts texts (ballots_of s h)
only_strict_vote s h sts texts = by (has_strict s) refl where
  by : (b : Bool) → has_strict s ≡ b
      → trees_lines s 0 s.trees sts texts (ballots_of s (if b then h else [])) ≡ trees_lines s 0 s.trees sts texts (ballots_of s h)
  by true is = refl
  by false is =
      let none : strict_trees s.trees ≡ 0 = grind (arith, nat_tests) in
      lines s 0 s.trees sts texts (acts_in (places_of [])) (acts_in (places_of h)) none
