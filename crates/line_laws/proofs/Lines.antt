-- The line of a transaction that is complete stays as it is.
use Rattle.std.proofs.Common.{◌≡◌, ℕ, ◌<◌, ◌∙◌, true, false, List, [], ◌∷◌, ◌++◌, length, reverse, sym, ap, subst, refl, Option, Some}
use Rattle.std.specs.Prelude.{is_some, slice_get}
use Rattle.std.specs.List.{AllByRecursion}
use Rattle.std.proofs.lemmas.Bool.{and_parts}
use Rattle.tv_base.specs.declared.numbers.Version.{Version}
use Rattle.letter_types.specs.declared.acts.Act.{Act}
use Rattle.letter_types.specs.declared.entries.Entry.{Entry}
use Rattle.script_parts.specs.Counts.{ops_in}
use Rattle.script_parts.specs.ScriptData.{ScriptData, is_strict, subs_at}
use Rattle.script_parts.specs.Valid.{IsValid}
use Rattle.script_parts.specs.declared.parts.Sub.{Sub}
use Rattle.script_parts.specs.declared.parts.Tree.{Tree}
use Rattle.script_parts.specs.declared.parts.TreeKind.{TreeKind}
use Rattle.script_parts.specs.declared.parts.TreeKind.TheVariants.{Update, Read, Strict}
use Rattle.script_parts.proofs.SubsOf.{found_subs}
use Rattle.board_rules.specs.Histories.{Place, all_done, is_complete, is_strict_tree, places_of, version_in, version_of, was_born}
use Rattle.board_rules.specs.Outcomes.{acts_in}
use Rattle.board_rules.specs.Right.{shown}
use Rattle.board_rules.proofs.Places.{version_stays}
use Rattle.board_rules.proofs.Wholes.{born_version}
use Rattle.history_text.specs.TreeNames.{got_text}
use Rattle.report_text.specs.Outcomes.{outcome_of}
use Rattle.report_text.specs.Report.{gets_text, tree_line}
use Rattle.world_model.specs.Runs.{IsStepRun}
use Rattle.world_model.proofs.Scripts.{get_below}
use Rattle.tree_laws.proofs.conflicts.AtHome.{all_append}
use Rattle.run_laws.proofs.replies_told.Said.{acts_before, acts_next}
use Rattle.audit_laws.specs.OfScript.{IsActOf}
use Rattle.audit_laws.specs.ReplyLines.{line_in}
use Rattle.audit_laws.proofs.EveryEntry.{entry_of_script}
use Rattle.growth_laws.specs.Growth.{IsFront}
use Rattle.growth_laws.proofs.Orders.{front_of_front, front_of_itself}
use Rattle.line_laws.specs.Lines.{LinesStay}
use Rattle.line_laws.proofs.Names.{got_same}
use Rattle.line_laws.proofs.Strict.{outcome_stays}
use Rattle.line_laws.proofs.Values.{IsInBoth, in_both, places_later, values_stay}

-- The acts of a run are of its script, and what was done stays done.
acts_known : (s : ScriptData) (past : List Entry) → IsValid s → IsStepRun s past → AllByRecursion (IsActOf s) (acts_before past)
acts_known s [] valid run = tt
acts_known s (e ∷ past) valid run =
    subst (λ (acts : List Act). AllByRecursion (IsActOf s) acts) (sym (acts_next e past))
    (all_append (IsActOf s) (acts_before past) e.acts (acts_known s past valid run.1) (entry_of_script s past e valid run).acts)

acts_later : (past later : List Entry) → IsFront (acts_before past) (acts_before (later ++ past))
acts_later past [] = front_of_itself (acts_before past)
acts_later past (e ∷ later) =
    front_of_front (acts_before past) (acts_before (later ++ past)) (acts_before (e ∷ later ++ past)) (acts_later past later)
    (e.acts, acts_next e (later ++ past))

-- The line of a tree that is born.
line_here : (s : ScriptData) (h : List Entry) (k : ℕ) (x : Tree) (v : Version) → version_of h k ≡ Some v
    → line_in s h k x ≡ tree_line x x.kind (Some v) (λ w. gets_text s h w x.subs) (outcome_of s (acts_in (places_of h)) k x.subs)
line_here s h k x v born =
    ap (λ (o : Option Version). tree_line x x.kind o (λ w. gets_text s h w x.subs) (outcome_of s (acts_in (places_of h)) k x.subs)) born

lines_alike : (x : Tree) (kind : TreeKind) (v : Version) (f g : ℕ → List ℕ) (o p : List ℕ) → (kind ≡ Read → f v.0 ≡ g v.0) → (kind ≡ Strict → o ≡ p)
    → tree_line x kind (Some v) f o ≡ tree_line x kind (Some v) g p
lines_alike x Update v f g o p values outcomes = refl
lines_alike x Read v f g o p values outcomes = rw (values refl) refl
lines_alike x Strict v f g o p values outcomes = rw (outcomes refl) refl

strict_kind : (s : ScriptData) (k : ℕ) (x : Tree) → slice_get s.trees k ≡ Some x → is_strict_tree s k ≡ is_strict x.kind
strict_kind s k x at = rw (at, is_strict_tree) refl

complete_by : (s : ScriptData) (k : ℕ) (xs : List Place) → is_strict_tree s k ≡ false → is_complete s xs k ≡ true
    → all_done k (length (subs_at s k)) xs ≡ true
complete_by s k xs plain all = rw (plain, is_complete) at all

pub lines_stay : LinesStay
lines_stay s t past later k x valid valid' e run run' at whole =
    let lt : k < length s.trees = get_below s.trees k x at in
    let h : List Entry = reverse past in
    let hh : List Entry = reverse (later ++ past) in
    let parts = and_parts (was_born (places_of h) k) (is_complete s (places_of h) k) whole in
    let born = born_version (version_of h k) parts.0 in
    let now : version_of h k ≡ Some born.0 = born.1 in
    let then : version_of hh k ≡ Some born.0 =
    ap (λ (xs : List Place). version_in k xs) (places_later past later)
    ∙ version_stays k (places_of h) (places_of (reverse later)) (ap is_some now) ∙ now in
    let is : IsInBoth s t k x = in_both s t k x e lt at in
    let values : x.kind ≡ Read → gets_text t hh born.0.0 x.subs ≡ gets_text s h born.0.0 x.subs =
    λ (kind : x.kind ≡ Read).
    let plain : is_strict_tree s k ≡ false = strict_kind s k x at ∙ ap is_strict kind in
    let all : all_done k (length x.subs) (places_of h) ≡ true =
    subst (λ (ys : List Sub). all_done k (length ys) (places_of h) ≡ true) (found_subs s k x at) (complete_by s k (places_of h) plain parts.1) in
    ap (λ ws. got_text t ws) (values_stay s t past later k x born.0 valid valid' run run' is kind all now then)
    ∙ got_same s t (shown s h born.0.0 (ops_in x.subs)) e in
    let outcomes : x.kind ≡ Strict → outcome_of t (acts_in (places_of hh)) k x.subs ≡ outcome_of s (acts_in (places_of h)) k x.subs =
    λ (kind : x.kind ≡ Strict).
    let more = acts_later past later in
    ap (λ (acts : List Act). outcome_of t acts k x.subs) more.1
    ∙ outcome_stays s t past k x.subs more.0 valid e run lt (strict_kind s k x at ∙ ap is_strict kind) whole (found_subs s k x at)
    (acts_known s past valid run) in
    line_here t hh k x born.0 then
    ∙ lines_alike x x.kind born.0 (λ w. gets_text t hh w x.subs) (λ w. gets_text s h w x.subs) (outcome_of t (acts_in (places_of hh)) k x.subs)
    (outcome_of s (acts_in (places_of h)) k x.subs) values outcomes
    ∙ sym (line_here s h k x born.0 now)
