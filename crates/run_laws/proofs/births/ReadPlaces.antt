-- An act of a read transaction at its position in a run: its version was shown before its entry. And from what holds of
-- each act at its position to what holds of each act of each entry.
use Rattle.std.proofs.Common.{◌≡◌, ℕ, zero, suc, ◌+◌, ◌<◌, ◌≤◌, true, false, List, [], ◌∷◌, ◌++◌, length, take, reverse, sym, ap, subst, ◌∙◌, append_assoc, arith, Some}
use Rattle.std.specs.Prelude.{slice_get}
use Rattle.std.proofs.lemmas.List.{length-append, length-take, take-append-le}
use Rattle.std.proofs.lemmas.Option.{slice_get_within}
use Rattle.tv_base.specs.declared.numbers.Version.{Version}
use Rattle.tv_base.proofs.ByPlace.{slice_get_left}
use Rattle.letter_types.specs.declared.entries.Entry.{Entry}
use Rattle.script_parts.specs.ScriptData.{ScriptData, reads}
use Rattle.script_parts.specs.Valid.{IsValid}
use Rattle.world_model.specs.Runs.{IsStepRun}
use Rattle.board_rules.specs.Histories.{Place, is_whole_in, places_at, places_of, version_in}
use Rattle.board_rules.specs.Moves.{AtEachAct}
use Rattle.board_rules.specs.Rules.{is_writer}
use Rattle.board_rules.specs.Worth.{worth, worth_in}
use Rattle.board_rules.proofs.Wholes.{version_more}
use Rattle.tree_laws.proofs.apt.AptVersions.{before}
use Rattle.run_laws.proofs.each_tree.Reached.{now_below}
use Rattle.run_laws.proofs.each_tree.InTime.{acted_run}
use Rattle.advance_laws.specs.Phases.{ShowStage}
use Rattle.run_laws.proofs.each_tree.Wholes.{born_with}
use Rattle.run_laws.proofs.act_order.Fronts.{act_of_place, front, in_both, one_by_one}
use Rattle.run_laws.proofs.act_order.InEntries.{entry_run, in_entry}
use Rattle.run_laws.proofs.act_order.AtFront.{front_is}
use Rattle.run_laws.proofs.births.ReadVersions.{born_below}
use Rattle.run_laws.proofs.worth.WorthStays.{whole_from, worth_from}

-- The acts up to an act and with it.
pub take_next : {X : Type 0} (xs : List X) (i : ℕ) (x : X) → slice_get xs i ≡ Some x → take i xs ++ x ∷ [] ≡ take (suc i) xs
take_next [] i x is = absurd (cc is)
take_next (y ∷ []) zero x is = let same : y ≡ x = cc is in ap (λ (z : _). z ∷ []) (sym same)
take_next (y ∷ z ∷ xs) zero x is = let same : y ≡ x = cc is in ap (λ (w : _). w ∷ []) (sym same)
take_next (y ∷ xs) (suc i) x is = ap (λ (zs : List _). y ∷ zs) (take_next xs i x is)

-- An entry that has an act tells no node to show a version, so what is shown stays the same.
by_acts : (s : ScriptData) (past : List Entry) (e : Entry) (j : ℕ) (y : Place) → IsValid s → IsStepRun s (e ∷ past)
    → slice_get (places_at e) j ≡ Some y → now_below false s (e ∷ past) ≡ now_below false s past
by_acts s past e j y valid run is =
    ap (λ (n : ℕ). n + 1)
    (acted_run ShowStage s past e valid run (λ none. cc (sym (ap (λ (xs : List _). slice_get xs j) none) ∙ (act_of_place e j y is).0)))

-- version v was shown before the entry of the act at position i
pub record ShownAt (s : ScriptData) (past : List Entry) (i v : ℕ) : Type 0 where
  pub earlier : List Entry
  pub later : List Entry
  pub all : later ++ earlier ≡ past
  pub least : length (before earlier) ≤ i
  pub early : v < now_below false s earlier

-- so it was with the version of a read tree that has one with that act
pub shown_at : (s : ScriptData) (past : List Entry) (i t : ℕ) (y : Place) (v : Version) → IsValid s → IsStepRun s past
    → slice_get (before past) i ≡ Some y → reads s t ≡ true → version_in t (take i (before past) ++ y ∷ []) ≡ Some v → ShownAt s past i v.0
shown_at s past i t y v valid run is read born =
    let l = in_entry past i y is in
    let here : IsStepRun s (l.entry ∷ l.earlier) = entry_run s past i y run l in
    let upto : take i (before past) ++ y ∷ [] ≡ front l.earlier l.entry (suc l.place) =
    ap (λ (xs : List Place). xs ++ y ∷ []) l.front
    ∙ append_assoc (before l.earlier) (take l.place (places_at l.entry)) (y ∷ [])
    ∙ ap (λ (ys : List Place). before l.earlier ++ ys) (take_next (places_at l.entry) l.place y l.is) in
    let all : born_with (l.entry ∷ l.earlier) t ≡ Some v =
    version_more t (length (before l.earlier) + suc l.place) v (before (l.entry ∷ l.earlier))
    (ap (version_in t) (front_is l.earlier l.entry (suc l.place) ∙ sym upto) ∙ born) in
    let same = by_acts s l.earlier l.entry l.place y valid here l.is in
    let size : length (take i (before past)) ≡ length (before l.earlier) + length (take l.place (places_at l.entry)) =
    ap length l.front ∙ length-append (before l.earlier) (take l.place (places_at l.entry)) in
    record {
      earlier = l.earlier;
      later = l.later ++ l.entry ∷ [];
      all = append_assoc l.later (l.entry ∷ []) l.earlier ∙ l.all;
      least = omega (arith, size, length-take i (before past));
      early = omega (arith, same, born_below s (l.entry ∷ l.earlier) t v valid here read all);
    }

-- Then writers up to that version are whole there, and items are worth the same from there on.
pub whole_there : (s : ScriptData) (past : List Entry) (i v t : ℕ) (w : Version) → IsValid s → IsStepRun s past → ShownAt s past i v
    → is_writer s t ≡ true → born_with past t ≡ Some w → w.0 ≤ v → is_whole_in s (take i (before past)) t ≡ true
whole_there s past i v t w valid run at writes born le =
    subst (λ (es : List Entry). is_whole_in s (take i (before es)) t ≡ true) at.all
    (whole_from s at.earlier at.later t v i w valid (subst (λ (es : List Entry). IsStepRun s es) (sym at.all) run) at.early at.least writes
    (ap (λ (es : List Entry). born_with es t) at.all ∙ born) le)

pub worth_upto : (s : ScriptData) (past : List Entry) (i x v : ℕ) → IsValid s → IsStepRun s past → ShownAt s past i v
    → worth_in s (take (suc i) (before past)) x v ≡ worth s (reverse past) x v
worth_upto s past i x v valid run at =
    subst (λ (es : List Entry). worth_in s (take (suc i) (before es)) x v ≡ worth s (reverse es) x v) at.all
    (worth_from s at.earlier at.later x v (suc i) valid (subst (λ (es : List Entry). IsStepRun s es) (sym at.all) run) at.early
    (omega (arith, at.least)))

-- An entry's acts in the acts of a history.
here_in : (h : List Entry) (n : ℕ) (e : Entry) → slice_get h n ≡ Some e
    → (rest : List Place) × (places_of h ≡ places_of (take n h) ++ (places_at e ++ rest))
here_in [] n e is = absurd (cc is)
here_in (d ∷ h) zero e is = let same : d ≡ e = cc is in (places_of h, ap (λ (x : Entry). places_at x ++ places_of h) same)
here_in (d ∷ h) (suc n) e is =
    let old = here_in h n e is in (
      old.0,
      ap (λ (xs : List Place). places_at d ++ xs) old.1 ∙ sym (append_assoc (places_at d) (places_of (take n h)) (places_at e ++ old.0)),
    )

-- what holds of each act at its position holds of each act of each entry
pub each_in_place : (P : List Place → Place → Type 0) (h : List Entry)
    → ((i : ℕ) (y : Place) → slice_get (places_of h) i ≡ Some y → P (take i (places_of h)) y) → AtEachAct (λ (b : List Entry). P) h
each_in_place P h each = λ n e here.
    let l = here_in h n e here in
    let xs : List Place = places_of (take n h) in
    let ys : List Place = places_at e in
    one_by_one P xs ys (λ j y is.
    let b = in_both xs (ys ++ l.0) j y (slice_get_left ys l.0 j y is) in
    let upto : take b.place (places_of h) ≡ xs ++ take j ys =
    ap (take b.place) l.1 ∙ b.front
    ∙ ap (λ (zs : List Place). xs ++ zs) (take-append-le j ys l.0 (omega (arith, slice_get_within ys j y is))) in
    subst (λ (zs : List Place). P zs y) upto
    (each b.place y (ap (λ (zs : List Place). slice_get zs b.place) l.1 ∙ b.is)))
