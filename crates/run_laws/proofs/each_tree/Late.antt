-- In every run, if a strict transaction is born, each writer of a smaller version, whenever it is born, is complete:
-- its home has shown the version before its own.
use Rattle.std.proofs.Common.{◌≡◌, ◌⊎◌, inl, inr, ℕ, zero, suc, ◌<◌, ◌≤◌, ◌==◌, ◌||◌, Bool, true, false, not, List, [], ◌∷◌, ◌++◌, length, take, refl, sym, ap, subst, ◌∙◌, arith, append_assoc, Option, Some, None}
use Rattle.std.specs.Prelude.{if◌then◌else◌, slice_get}
use Rattle.std.specs.Option.{option_or}
use Rattle.std.proofs.lemmas.Bool.{or_cases}
use Rattle.tv_base.specs.declared.numbers.Version.{Version}
use Rattle.letter_types.specs.declared.acts.Act.{Act}
use Rattle.letter_types.specs.declared.acts.Act.TheVariants.{Born, Finished}
use Rattle.letter_types.specs.declared.entries.Entry.{Entry}
use Rattle.script_parts.specs.ScriptData.{ScriptData, is_read, is_strict, is_update, reads, updates}
use Rattle.script_parts.specs.Valid.{IsValid}
use Rattle.script_parts.specs.declared.parts.Tree.{Tree}
use Rattle.script_parts.specs.declared.parts.TreeKind.{TreeKind}
use Rattle.script_parts.specs.declared.parts.TreeKind.TheVariants.{Update, Read, Strict}
use Rattle.script_parts.proofs.SubsOf.{has_root}
use Rattle.board_rules.specs.Histories.{Place, born_as, is_strict_tree, is_whole_in, places_at, version_in}
use Rattle.board_rules.specs.Rules.{AreBornLate, is_writer}
use Rattle.board_rules.proofs.Wholes.{strict_there, updates_there, whole_more}
use Rattle.board_rules.proofs.Places.{places_more}
use Rattle.world_model.specs.Counts.{one_if, tally}
use Rattle.world_model.specs.Runs.{IsStepRun, node_in}
use Rattle.world_model.proofs.Bags.{tally-append}
use Rattle.world_model.proofs.Scripts.{sub_there}
use Rattle.tree_laws.specs.Dids.{is_born}
use Rattle.tree_laws.proofs.histories.Acts.{of_act}
use Rattle.tree_laws.proofs.apt.AptTurns.{births_are_turns, turns_at_most_once}
use Rattle.tree_laws.proofs.apt.AptVersions.{before}
use Rattle.tree_laws.proofs.homes.Counted.{births_in}
use Rattle.run_laws.proofs.each_tree.Closed.{none_came}
use Rattle.run_laws.proofs.each_tree.EveryApt.{all_apt}
use Rattle.run_laws.proofs.each_tree.EveryBirth.{IsBornAt, birth_at}
use Rattle.run_laws.proofs.each_tree.EveryWhole.{strict_is}
use Rattle.run_laws.proofs.each_tree.Reached.{now_below, whole_run}
use Rattle.run_laws.proofs.each_tree.InTime.{advancing_run}
use Rattle.run_laws.proofs.each_tree.Wholes.{is_of_kind}
use Rattle.run_laws.proofs.act_order.InEntries.{InEntry, entry_run, in_entry}

-- A tree that is born once is born with the version of its Born.
born_counts : (t : ℕ) (a : Act) (v : Version) → born_as t a ≡ Some v → is_born t a ≡ 1
born_counts t (Born u w) v is = by (u.0 == t) is where
  by : (test : Bool) → (if test then Some w else None) ≡ Some v → one_if test ≡ 1
  by true at = refl
  by false at = absurd (cc at)
born_counts t Finished v is = absurd (cc is)
born_counts t _ v is = absurd (cc is)

no_birth : (t : ℕ) (a : Act) → is_born t a ≡ 0 → born_as t a ≡ None
no_birth t (Born u w) none = by (u.0 == t) none where
  by : (test : Bool) → one_if test ≡ 0 → (if test then Some w else None) ≡ None
  by true zero_of = absurd (omega (arith, zero_of))
  by false zero_of = refl
no_birth t Finished none = refl
no_birth t _ none = refl

counted_there : (t : ℕ) (xs : List Place) (i : ℕ) (y : Place) (v : Version) → slice_get xs i ≡ Some y → born_as t y.act ≡ Some v
    → 1 ≤ tally (of_act (is_born t)) xs
counted_there t [] i y v is born = absurd (cc is)
counted_there t (x ∷ xs) zero y v is born =
    let same : x ≡ y = cc is in
    let one : is_born t x.act ≡ 1 = born_counts t x.act v (subst (λ (z : Place). born_as t z.act ≡ Some v) (sym same) born) in
    omega (arith, one)
counted_there t (x ∷ xs) (suc i) y v is born = omega (arith, counted_there t xs i y v is born)

born_with_it : (t : ℕ) (xs : List Place) (i : ℕ) (y : Place) (v : Version) → slice_get xs i ≡ Some y → born_as t y.act ≡ Some v
    → tally (of_act (is_born t)) xs ≤ 1 → version_in t xs ≡ Some v
born_with_it t [] i y v is born once = absurd (cc is)
born_with_it t (x ∷ xs) zero y v is born once =
    let same : x ≡ y = cc is in
    ap (λ (z : Place). option_or (born_as t z.act) (version_in t xs)) same ∙ ap (λ (o : Option Version). option_or o (version_in t xs)) born
born_with_it t (x ∷ xs) (suc i) y v is born once =
    let none : is_born t x.act ≡ 0 = omega (arith, once, counted_there t xs i y v is born) in
    ap (λ (o : Option Version). option_or o (version_in t xs)) (no_birth t x.act none)
    ∙ born_with_it t xs i y v is born (omega (arith, once))

-- a tree that is there is born once
pub births_once : (s : ScriptData) (past : List Entry) (t : ℕ) → IsValid s → IsStepRun s past → t < length s.trees
    → tally (of_act (is_born t)) (before past) ≤ 1
births_once s past t valid run lt =
    let apt = all_apt s past valid run in
    omega (
      arith,
      births_in past t,
      births_are_turns s past t valid apt run,
      turns_at_most_once s past t 0 (sub_there s t 0 lt (has_root s t valid lt)) valid apt run,
    )

-- what an entry bears, it bears with the version of its Born
pub born_here : (s : ScriptData) (past : List Entry) (e : Entry) (t j : ℕ) (y : Place) (v : Version) → IsValid s → IsStepRun s (e ∷ past)
    → t < length s.trees → slice_get (places_at e) j ≡ Some y → born_as t y.act ≡ Some v → IsBornAt s past e t v
born_here s past e t j y v valid run lt is born =
    birth_at s past e t v valid run
    (born_with_it t (places_at e) j y v is born
    (omega (
      arith,
      births_once s (e ∷ past) t valid run lt,
      ap (λ (xs : List Place). tally (of_act (is_born t)) xs) (places_more e past),
      tally-append (of_act (is_born t)) (before past) (places_at e),
    )))

-- Writers.
pub no_reader : (s : ScriptData) (t : ℕ) (found : Option Tree) → slice_get s.trees t ≡ found → is_writer s t ≡ true → reads s t ≡ false
no_reader s t None is writes = rw (is, reads) refl
no_reader s t (Some tree) is writes = rw (is, reads) (by tree.kind (rw (is, updates, is_strict_tree) at writes)) where
  by : (kind : TreeKind) → (is_update kind || is_strict kind) ≡ true → is_read kind ≡ false
  by Update so = refl
  by Read so = absurd (cc so)
  by Strict so = refl

pub writer_there : (s : ScriptData) (t : ℕ) → is_writer s t ≡ true → t < length s.trees
writer_there s t writes = by (or_cases (updates s t) (is_strict_tree s t) writes) where
  by : (updates s t ≡ true) ⊎ (is_strict_tree s t ≡ true) → t < length s.trees
  by (inl up) = updates_there s t up
  by (inr strict) = strict_there s t strict

pub strict_writes : (s : ScriptData) (t : ℕ) → is_strict_tree s t ≡ true → is_writer s t ≡ true
strict_writes s t strict = by (updates s t) where
  by : (b : Bool) → (b || is_strict_tree s t) ≡ true
  by true = refl
  by false = strict

-- What a node reads is below what is whole.
pub read_below : (s : ScriptData) (past : List Entry) (p : ℕ) → IsValid s → IsStepRun s past → p < s.nodes
    → (node_in s past p).turns.read.0 < now_below false s past
read_below s past p valid run lt = let at = (advancing_run s past valid run).within p lt in omega (arith, at.read_showed)

-- So a strict tree is born late.
late_by : (s : ScriptData) (past : List Entry) (i k t : ℕ) (y : Place) (v w : Version) → IsValid s → IsStepRun s past
    → (l : InEntry past i y) → born_as k y.act ≡ Some v → is_strict_tree s k ≡ true → is_writer s t ≡ true
    → version_in t (before past) ≡ Some w → w.0 < v.0 → is_whole_in s (take i (before past)) t ≡ true
late_by s past i k t y v w valid run l born strict writes has lt =
    let here : IsStepRun s (l.entry ∷ l.earlier) = entry_run s past i y run l in
    let at = born_here s l.earlier l.entry k l.place y v valid here (strict_there s k strict) l.is born in
    let reads_none : reads s k ≡ false = no_reader s k (slice_get s.trees k) refl (strict_writes s k strict) in
    let so = at.strict (sym (strict_is s k (slice_get s.trees k) refl) ∙ strict) in
    let below : w.0 < now_below false s l.earlier =
    omega (arith, lt, at.update reads_none, so, read_below s l.earlier l.entry.actor.0 valid here.1 at.node) in
    let of : is_of_kind false s t ≡ true = ap not (no_reader s t (slice_get s.trees t) refl writes) in
    let shape : (l.later ++ l.entry ∷ []) ++ l.earlier ≡ past = append_assoc l.later (l.entry ∷ []) l.earlier ∙ l.all in
    let came : version_in t (before l.earlier) ≡ Some w =
    none_came false s l.earlier (l.later ++ l.entry ∷ []) t w valid (subst (λ (es : List Entry). IsStepRun s es) (sym shape) run) of below
    (ap (λ (es : List Entry). version_in t (before es)) shape ∙ has) in
    ap (λ (xs : List Place). is_whole_in s xs t) l.front
    ∙ whole_more s (before l.earlier) (take l.place (places_at l.entry)) t
    (whole_run false s l.earlier valid here.1 t w (writer_there s t writes) of came below)

pub born_late : (s : ScriptData) (past : List Entry) → IsValid s → IsStepRun s past → AreBornLate s (before past)
born_late s past valid run i k t y v w is born strict writes has lt =
    late_by s past i k t y v w valid run (in_entry past i y is) born strict writes has lt
