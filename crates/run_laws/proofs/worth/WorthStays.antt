-- What an item is worth at a version that is shown stays, in every run: all that changes it in versions up to that one has
-- taken effect.
use Rattle.std.proofs.Common.{◌≡◌, inl, inr, ℕ, ◌<◌, ◌≤◌, true, false, List, ◌∷◌, ◌++◌, length, take, reverse, refl, sym, ap, ◌∙◌, append_assoc, append-nil, arith, Option, Some, None, []}
use Rattle.std.specs.Prelude.{not, slice_get}
use Rattle.std.proofs.Math.Seq.{take-append_seam}
use Rattle.std.proofs.lemmas.Bool.{eqb-true, or_left, or_right}
use Rattle.tv_base.specs.declared.numbers.Version.{Version}
use Rattle.letter_types.specs.declared.entries.Entry.{Entry}
use Rattle.script_parts.specs.declared.parts.ItemRow.{ItemRow}
use Rattle.script_parts.specs.ScriptData.{ScriptData, ops_of, reads, updates}
use Rattle.script_parts.specs.Valid.{IsValid}
use Rattle.world_model.specs.Runs.{IsStepRun}
use Rattle.board_rules.specs.Histories.{Place, does, applies, is_strict_tree, is_whole_in, places_at, version_in}
use Rattle.board_rules.specs.Moves.{AllWholeTo}
use Rattle.board_rules.specs.Rules.{AreByRule, is_writer}
use Rattle.board_rules.specs.Worth.{ops_change, worth, worth_in}
use Rattle.board_rules.proofs.ClosedWorth.{up_to}
use Rattle.board_rules.proofs.InOrder.{EffectAt, any_applied}
use Rattle.board_rules.proofs.ItemAt.{item_at, op_row}
use Rattle.board_rules.proofs.Positions.{act_found, found, found_act}
use Rattle.board_rules.proofs.Precedence.{applied_once, change, did_once}
use Rattle.board_rules.proofs.Rules.{IsItemAt, deed}
use Rattle.board_rules.proofs.Shown.{closed_if_whole}
use Rattle.board_rules.proofs.Stays.{IsStill, closed_worth_stays}
use Rattle.board_rules.proofs.TreeSubs.{touches}
use Rattle.board_rules.proofs.Wholes.{version_more, whole_all, whole_applied, whole_done, whole_later}
use Rattle.board_rules.proofs.Places.{places_more}
use Rattle.tree_laws.proofs.apt.AptVersions.{before}
use Rattle.run_laws.proofs.each_tree.Closed.{none_came, run_before}
use Rattle.run_laws.proofs.each_tree.Reached.{now_below}
use Rattle.run_laws.proofs.each_tree.Wholes.{born_with}
use Rattle.run_laws.proofs.each_tree.Late.{no_reader, writer_there}
use Rattle.run_laws.proofs.act_order.Rules.{follows_rules}
use Rattle.run_laws.proofs.births.ReadVersions.{whole_to}

-- The acts of a run go on from those of its beginning.
acts_after : (past later : List Entry) → (rest : List Place) × (before (later ++ past) ≡ before past ++ rest)
acts_after past [] = ([], sym (append-nil (before past)))
acts_after past (e ∷ later) =
    let old = acts_after past later in (
      old.0 ++ places_at e,
      places_more e (later ++ past) ∙ ap (λ (xs : List Place). xs ++ places_at e) old.1 ∙ append_assoc (before past) old.0 (places_at e),
    )

pub first_acts : (past later : List Entry) → take (length (before past)) (before (later ++ past)) ≡ before past
first_acts past later =
    let more = acts_after past later in
    ap (take (length (before past))) more.1 ∙ take-append_seam (before past) more.0

-- A writer that has a version up to one that is shown is whole since then.
whole_since : (s : ScriptData) (past later : List Entry) (t v : ℕ) (w : Version) → IsValid s → IsStepRun s (later ++ past)
    → v < now_below false s past → is_writer s t ≡ true → born_with (later ++ past) t ≡ Some w → w.0 ≤ v
    → is_whole_in s (take (length (before past)) (before (later ++ past))) t ≡ true
whole_since s past later t v w valid run early writes born le =
    let no : reads s t ≡ false = no_reader s t (slice_get s.trees t) refl writes in
    let old : born_with past t ≡ Some w = none_came false s past later t w valid run (ap not no) (omega (arith, early, le)) born in
    ap (λ (xs : List Place). is_whole_in s xs t) (first_acts past later)
    ∙ whole_to s past v valid (run_before s past later run) early t w (writer_there s t writes) no old le

pub whole_from : (s : ScriptData) (past later : List Entry) (t v n : ℕ) (w : Version) → IsValid s → IsStepRun s (later ++ past)
    → v < now_below false s past → length (before past) ≤ n → is_writer s t ≡ true → born_with (later ++ past) t ≡ Some w → w.0 ≤ v
    → is_whole_in s (take n (before (later ++ past))) t ≡ true
whole_from s past later t v n w valid run early least writes born le =
    whole_later s (length (before past)) n (before (later ++ past)) t least (whole_since s past later t v w valid run early writes born le)

all_from : (s : ScriptData) (past later : List Entry) (v n : ℕ) → IsValid s → IsStepRun s (later ++ past) → v < now_below false s past
    → length (before past) ≤ n → AllWholeTo (is_writer s) s (take n (before (later ++ past))) v
all_from s past later v n valid run early least = λ t w writes born le.
    whole_from s past later t v n w valid run early least writes (version_more t n w (before (later ++ past)) born) le

all_now : (s : ScriptData) (past later : List Entry) (v : ℕ) → IsValid s → IsStepRun s (later ++ past) → v < now_below false s past
    → AllWholeTo (is_writer s) s (before (later ++ past)) v
all_now s past later v valid run early = λ t w writes born le.
    whole_all s (length (before past)) (before (later ++ past)) t (whole_since s past later t v w valid run early writes born le)

-- What takes effect of a tree that is whole after the first n acts takes effect among them.
effect_below : (s : ScriptData) (zs : List Place) (p x n i : ℕ) (q : ℕ × ℕ) → AreByRule s zs → IsItemAt s p x → touches s x q ≡ true
    → is_whole_in s (take n zs) q.0 ≡ true → EffectAt s zs p q i → i < n
effect_below s zs p x n i q acts item touch whole (inl d) =
    let there = (deed s zs i p q.0 q.1 acts d.at).there in
    let f = found (λ (y : Place). does q.0 q.1 y.act) zs n (whole_done s (take n zs) q.0 q.1 d.up whole there) in
    let same : i ≡ f.place = did_once s zs i f.place p f.item.node q.0 q.1 acts d.at (found_act (does q.0 q.1) zs n f) in
    omega (arith, same, f.below)
effect_below s zs p x n i q acts item touch whole (inr a) =
    let f = act_found (applies q.0) zs p n (whole_applied s (take n zs) q.0 q.1 p a.strict whole a.there (item.placed q.0 q.1 touch)) in
    let same : i ≡ f.place = applied_once s zs i f.place p q.0 acts (any_applied zs i p q.0 true a.at) f.at in
    omega (arith, same, f.below)

effect_writes : (s : ScriptData) (zs : List Place) (p i : ℕ) (q : ℕ × ℕ) → EffectAt s zs p q i → is_writer s q.0 ≡ true
effect_writes s zs p i q (inl d) = or_left (updates s q.0) (is_strict_tree s q.0) d.up
effect_writes s zs p i q (inr a) = or_right (updates s q.0) (is_strict_tree s q.0) a.strict

still_from : (s : ScriptData) (past later : List Entry) (p x v n : ℕ) → IsValid s → IsStepRun s (later ++ past) → v < now_below false s past
    → length (before past) ≤ n → IsItemAt s p x → IsStill s (before (later ++ past)) p x v n
still_from s past later p x v n valid run early least item = λ q i takes touch.
    let zs : List Place = before (later ++ past) in
    let o = up_to v (version_in q.0 zs) takes.to in
    effect_below s zs p x n i q (follows_rules s (later ++ past) valid run).acts item touch
    (whole_from s past later q.0 v n o.version valid run early least (effect_writes s zs p i q takes.effect) o.is o.most) takes.effect

-- So from there on the item is worth the same.
worth_there : (s : ScriptData) (past later : List Entry) (p x v n : ℕ) → IsValid s → IsStepRun s (later ++ past) → v < now_below false s past
    → length (before past) ≤ n → IsItemAt s p x → worth_in s (take n (before (later ++ past))) x v ≡ worth s (reverse (later ++ past)) x v
worth_there s past later p x v n valid run early least item =
    let zs : List Place = before (later ++ past) in
    closed_worth_stays s zs p x v n valid (follows_rules s (later ++ past) valid run) item (still_from s past later p x v n valid run early least item)
    (closed_if_whole s (take n zs) p x v item (all_from s past later v n valid run early least))
    (closed_if_whole s zs p x v item (all_now s past later v valid run early))

-- No operation is on an item that isn't there.
no_item : (s : ScriptData) (x t k : ℕ) → IsValid s → slice_get s.items x ≡ None → ops_change x (ops_of s t k) ≡ true → ⊥
no_item s x t k valid none is =
    let c = change x (ops_of s t k) is in
    let row = op_row s t k c.on.index c.on.op valid c.on.is in
    let there : slice_get s.items x ≡ Some row.row = sym (ap (slice_get s.items) (eqb-true c.on.op.item.0 x c.on.on)) ∙ row.there in
    absurd (cc (none, there))

some_node : (s : ScriptData) (x : ℕ) (found : Option ItemRow) → IsValid s → slice_get s.items x ≡ found → (p : ℕ) × IsItemAt s p x
some_node s x (Some r) valid at = (r.node.0, item_at s r.node.0 x r valid at refl)
some_node s x None valid none = (
  0,
  record {
    placed = λ t k is. absurd (no_item s x t k valid none is);
    once = λ t j k strict one two. absurd (no_item s x t j valid none one);
    marks = λ t k i o up is.
        let row = op_row s t k i o valid is in
        (item_at s row.row.node.0 o.item.0 row.row valid row.there refl).marks t k i o up is;
    strict = λ t k i o strict is.
        let row = op_row s t k i o valid is in
        (item_at s row.row.node.0 o.item.0 row.row valid row.there refl).strict t k i o strict is;
  },
)

pub worth_from : (s : ScriptData) (past later : List Entry) (x v n : ℕ) → IsValid s → IsStepRun s (later ++ past) → v < now_below false s past
    → length (before past) ≤ n → worth_in s (take n (before (later ++ past))) x v ≡ worth s (reverse (later ++ past)) x v
worth_from s past later x v n valid run early least =
    let node = some_node s x (slice_get s.items x) valid refl in
    worth_there s past later node.0 x v n valid run early least node.1
