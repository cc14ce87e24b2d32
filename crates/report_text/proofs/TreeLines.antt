-- The lines of the transactions by their standings are those of the report.
use Rattle.std.proofs.Common.{◌≡◌, ℕ, zero, suc, ◌+◌, true, false, List, [], ◌∷◌, ◌++◌, refl, ap, sym, ◌∙◌, append_assoc, arith}
use Rattle.std.specs.Prelude.{decimal, filter, length, Option, Some, None, slice_get}
use Rattle.std.specs.List.{AllByRecursion}
use Rattle.tv_base.specs.declared.numbers.Version.{Version}
use Rattle.commute_ops.specs.declared.value.Value.{Value}
use Rattle.letter_types.specs.declared.acts.Act.{Act}
use Rattle.letter_types.specs.declared.entries.Entry.{Entry}
use Rattle.tx_trees.specs.Counts.{ops_in}
use Rattle.tx_trees.specs.ScriptData.{ScriptData, is_read}
use Rattle.tx_trees.specs.Valid.{AreSubs, IsOp, OpAt}
use Rattle.tx_trees.specs.declared.parts.ItemRow.{ItemRow}
use Rattle.tx_trees.specs.declared.parts.Sub.{Sub}
use Rattle.tx_trees.specs.declared.parts.SubOp.{SubOp}
use Rattle.tx_trees.specs.declared.parts.Tree.{Tree}
use Rattle.tx_trees.specs.declared.parts.TreeKind.{TreeKind}
use Rattle.tx_trees.specs.declared.parts.TreeKind.TheVariants.{Update, Read, Strict}
use Rattle.board_model.specs.Balances.{by_number, worths}
use Rattle.board_rules.specs.Outcomes.{acts_in}
use Rattle.board_model.specs.Ballots.{ballots_from, ballots_of, tells_of}
use Rattle.board_rules.specs.Histories.{places_of, version_of}
use Rattle.board_rules.specs.Right.{shown}
use Rattle.board_model.specs.Standings.{standings_from, standings_of}
use Rattle.board_rules.specs.Worth.{worth}
use Rattle.board_model.proofs.AllItems.{length-standings_from}
use Rattle.report_text.specs.inside.Lines.{found_text, ops_texts, subs_texts, trees_lines}
use Rattle.report_text.specs.inside.Served.{AreRead}
use Rattle.report_text.specs.Outcomes.{outcome_of, strict_line}
use Rattle.report_text.proofs.OutcomeLines.{outcome_kept}
use Rattle.history_text.specs.Values.{get_text}
use Rattle.history_text.specs.TreeNames.{got_text, item_text}
use Rattle.report_text.specs.Report.{gets_text, read_line, tree_line, trees_text}

-- the value of an item that is there, by number
by_number_get : {A : Type 0} (f : ℕ → A) (k : ℕ) (rows : List ItemRow) (x : ℕ) (row : ItemRow)
    → slice_get rows x ≡ Some row → slice_get (by_number f k rows) x ≡ Some (f (k + x))
by_number_get f k [] x row e = cc
by_number_get f k (r ∷ rows) zero row e = let same : k ≡ k + 0 = omega arith in ap (λ (n : ℕ). Some (f n)) same
by_number_get f k (r ∷ rows) (suc x) row e =
    let same : k + 1 + x ≡ k + suc x = omega arith in by_number_get f (k + 1) rows x row e ∙ ap (λ (n : ℕ). Some (f n)) same

worths_get : (s : ScriptData) (h : List Entry) (v x : ℕ) (row : ItemRow) → slice_get s.items x ≡ Some row → slice_get (worths s h v) x ≡ Some (worth s h x v)
worths_get s h v x row e =
    let same : 0 + x ≡ x = omega arith in
    by_number_get (λ (n : ℕ). worth s h n v) 0 s.items x row e ∙ ap (λ (n : ℕ). Some (worth s h n v)) same

-- an operation's text, if its item is there
op_text : (s : ScriptData) (h : List Entry) (v : ℕ) (kind : TreeKind) (node : ℕ) (o : SubOp) (r : Option ItemRow)
    → slice_get s.items o.item.0 ≡ r → OpAt kind node o r
    → found_text (slice_get s.items o.item.0) (slice_get (worths s h v) o.item.0) ≡ get_text (item_text s o.item.0) (worth s h o.item.0 v)
op_text s h v kind node o None e at = absurd at
op_text s h v kind node o (Some row) e at =
    let w = worth s h o.item.0 v in
    ap (λ (r : Option ItemRow). found_text r (slice_get (worths s h v) o.item.0)) e
    ∙ ap (λ (one : Option Value). found_text (Some row) one) (worths_get s h v o.item.0 row e)
    ∙ ap (λ (r : Option ItemRow). get_text (elim r [ Some one ↦ one.name | None ↦ decimal o.item.0 ]) w) (sym e)

ops_text : (s : ScriptData) (h : List Entry) (v : ℕ) (kind : TreeKind) (node : ℕ) (os : List SubOp)
    → AllByRecursion (IsOp s.items kind node) os → ops_texts s.items (worths s h v) os ≡ got_text s (shown s h v os)
ops_text s h v kind node [] all = refl
ops_text s h v kind node (o ∷ os) all =
    let here = op_text s h v kind node o (slice_get s.items o.item.0) refl all.0 in
    let rest = ops_text s h v kind node os all.1 in
    ap (λ (z : List ℕ). z ++ ops_texts s.items (worths s h v) os) here
    ∙ ap (λ (z : List ℕ). get_text (item_text s o.item.0) (worth s h o.item.0 v) ++ z) rest

shown-append : (s : ScriptData) (h : List Entry) (v : ℕ) (os more : List SubOp)
    → got_text s (shown s h v (os ++ more)) ≡ got_text s (shown s h v os) ++ got_text s (shown s h v more)
shown-append s h v [] more = refl
shown-append s h v (o ∷ os) more =
    let one : List ℕ = get_text (item_text s o.item.0) (worth s h o.item.0 v) in
    ap (λ (z : List ℕ). one ++ z) (shown-append s h v os more)
    ∙ sym (append_assoc one (got_text s (shown s h v os)) (got_text s (shown s h v more)))

pub subs_text : (s : ScriptData) (h : List Entry) (v : ℕ) (kind : TreeKind) (k : ℕ) (ss : List Sub)
    → AreSubs s.nodes s.items kind k ss → subs_texts s.items (worths s h v) ss ≡ gets_text s h v ss
subs_text s h v kind k [] all = refl
subs_text s h v kind k (x ∷ ss) all =
    let here = ops_text s h v kind x.node.0 x.ops all.0.ops in
    let rest = subs_text s h v kind (k + 1) ss all.1 in
    ap (λ (z : List ℕ). z ++ subs_texts s.items (worths s h v) ss) here
    ∙ ap (λ (z : List ℕ). got_text s (shown s h v x.ops) ++ z) rest
    ∙ sym (shown-append s h v x.ops (ops_in ss))

-- a text at each place, which is that of the read tree there, if the list begins with tree t
abbrev pub ReadFrom : ScriptData → List Entry → ℕ → List Tree → List (List ℕ) → Type 0
ReadFrom s h t ts texts =
    (i : ℕ) (tree : Tree) (v : Version) → slice_get ts i ≡ Some tree → is_read tree.kind ≡ true → version_of h (t + i) ≡ Some v
    → slice_get texts i ≡ Some (gets_text s h v.0 tree.subs)

-- the line of tree t by the history
abbrev line_of : ScriptData → List Entry → Tree → ℕ → TreeKind → Option Version → List ℕ
line_of s h tree t kind born =
    tree_line tree kind born (λ (v : ℕ). gets_text s h v tree.subs) (outcome_of s (acts_in (places_of h)) t tree.subs)

line_is : (s : ScriptData) (h : List Entry) (tree : Tree) (t : ℕ) (kind : TreeKind) (born : Option Version) (text outcome : List ℕ)
    → ((v : Version) → is_read kind ≡ true → born ≡ Some v → text ≡ gets_text s h v.0 tree.subs)
    → outcome ≡ outcome_of s (acts_in (places_of h)) t tree.subs
    → tree_line tree kind born (λ (v : ℕ). text) outcome ≡ line_of s h tree t kind born
line_is s h tree t Update None text outcome is came = refl
line_is s h tree t Update (Some v) text outcome is came = refl
line_is s h tree t Read None text outcome is came = refl
line_is s h tree t Read (Some v) text outcome is came = ap (λ (z : List ℕ). read_line tree.name v.0 z) (is v refl refl)
line_is s h tree t Strict None text outcome is came = refl
line_is s h tree t Strict (Some v) text outcome is came = ap (λ (z : List ℕ). strict_line tree.name v.0 z) came

lines_from : (s : ScriptData) (h : List Entry) (t : ℕ) (ts : List Tree) (texts : List (List ℕ))
    → length texts ≡ length ts → ReadFrom s h t ts texts
    → trees_lines s t ts (standings_from s h t ts) texts (ballots_from (acts_in (places_of h)) t ts) ≡ trees_text s h t ts
lines_from s h t [] texts len is = refl
lines_from s h t (tree ∷ ts) [] len is = absurd (omega arith)
lines_from s h t (tree ∷ ts) (text ∷ texts) len is =
    let acts : List Act = acts_in (places_of h) in
    ap (λ (z : List ℕ). z ++ trees_lines s (t + 1) ts (standings_from s h (t + 1) ts) texts (ballots_from acts (t + 1) ts))
    (line_is s h tree t tree.kind (version_of h t) text (outcome_of s (filter (tells_of t) acts) t tree.subs)
    (λ (v : Version) kind born. head_is (is 0 tree v refl kind (ap (λ (k : ℕ). version_of h k) (at_zero t) ∙ born)))
    (outcome_kept s acts t tree.subs))
    ∙ ap (λ (z : List ℕ). line_of s h tree t tree.kind (version_of h t) ++ z)
    (lines_from s h (t + 1) ts texts (omega arith)
    (λ (i : ℕ) (one : Tree) (v : Version) there kind born. is (suc i) one v there kind (ap (λ (k : ℕ). version_of h k) (at_next t i) ∙ born))) where
      at_zero : (t : ℕ) → t + 0 ≡ t
      at_zero t = omega arith

      at_next : (t i : ℕ) → t + suc i ≡ t + 1 + i
      at_next t i = omega arith

      head_is : {a b : List ℕ} → Some a ≡ Some b → a ≡ b
      head_is e = cc e

-- a tree that is there
kind_here : (o : Option Tree) (tree : Tree) → o ≡ Some tree → (elim o [ Some one ↦ is_read one.kind | None ↦ false ]) ≡ is_read tree.kind
kind_here o tree e = ap (λ (z : Option Tree). elim z [ Some one ↦ is_read one.kind | None ↦ false ]) e

subs_here : (o : Option Tree) (tree : Tree) → o ≡ Some tree → (elim o as (λ (z : Option Tree). List Sub) [ Some one ↦ one.subs | None ↦ [] ]) ≡ tree.subs
subs_here o tree e = ap (λ (z : Option Tree). elim z as (λ (y : Option Tree). List Sub) [ Some one ↦ one.subs | None ↦ [] ]) e

pub lines_all : (s : ScriptData) (h : List Entry) (texts : List (List ℕ)) → AreRead s h texts
    → trees_lines s 0 s.trees (standings_of s h) texts (ballots_of s h) ≡ trees_text s h 0 s.trees
lines_all s h texts read =
    lines_from s h 0 s.trees texts read.count
    (λ (i : ℕ) (tree : Tree) (v : Version) there kind born.
    read.each i v (kind_here (slice_get s.trees i) tree there ∙ kind) (ap (λ (k : ℕ). version_of h k) (from_zero i) ∙ born)
    ∙ ap (λ (ks : List Sub). Some (gets_text s h v.0 ks)) (subs_here (slice_get s.trees i) tree there)) where
      from_zero : (i : ℕ) → i ≡ 0 + i
      from_zero i = omega arith

pub length-standings_of : (s : ScriptData) (h : List Entry) → length (standings_of s h) ≡ length s.trees
length-standings_of s h = length-standings_from s h 0 s.trees
