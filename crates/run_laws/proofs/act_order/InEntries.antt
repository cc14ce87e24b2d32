-- An act at its position in a history lies in an entry, behind the acts before that entry and those of it that come first.
use Rattle.std.proofs.Common.{◌≡◌, ◌⊎◌, inl, inr, ℕ, zero, suc, ◌<◌, ◌≤◌, List, [], ◌∷◌, ◌++◌, length, take, refl, sym, ap, ◌∙◌, subst, arith, Some}
use Rattle.std.specs.Prelude.{slice_get}
use Rattle.std.proofs.lemmas.Bool.{cases_lt}
use Rattle.std.proofs.lemmas.List.{take-append-le}
use Rattle.tv_base.proofs.ByPlace.{slice_get-old}
use Rattle.letter_types.specs.declared.entries.Entry.{Entry}
use Rattle.script_parts.specs.ScriptData.{ScriptData}
use Rattle.world_model.specs.Runs.{IsStepRun}
use Rattle.board_rules.specs.Histories.{Place, places_at}
use Rattle.board_rules.proofs.Places.{places_more}
use Rattle.tree_laws.proofs.apt.AptVersions.{before}
use Rattle.run_laws.proofs.each_tree.Closed.{run_before}

-- the second of two lists, from a place in both
pub record InSecond {X : Type 0} (a b : List X) (i : ℕ) (x : X) : Type 0 where
  pub place : ℕ
  pub is : slice_get b place ≡ Some x
  pub front : take i (a ++ b) ≡ a ++ take place b

pub in_second : {X : Type 0} (a b : List X) (i : ℕ) (x : X) → slice_get (a ++ b) i ≡ Some x → length a ≤ i → InSecond a b i x
in_second [] b i x is le = record { place = i; is = is; front = refl }
in_second (y ∷ a) b zero x is le = absurd (omega (arith, le))
in_second (y ∷ a) b (suc i) x is le =
    let l = in_second a b i x is (omega (arith, le)) in
    record { place = l.place; is = l.is; front = ap (λ (z : List _). y ∷ z) l.front }

pub record InEntry (past : List Entry) (i : ℕ) (y : Place) : Type 0 where
  pub earlier : List Entry
  pub entry : Entry
  pub later : List Entry
  pub place : ℕ
  pub all : later ++ entry ∷ earlier ≡ past
  pub is : slice_get (places_at entry) place ≡ Some y
  pub front : take i (before past) ≡ before earlier ++ take place (places_at entry)

entry_by : (e : Entry) (past : List Entry) (i : ℕ) (y : Place) → slice_get (before past ++ places_at e) i ≡ Some y
    → (slice_get (before past) i ≡ Some y → InEntry past i y) → (i < length (before past)) ⊎ (length (before past) ≤ i) → InEntry (e ∷ past) i y
entry_by e past i y is old (inl lt) =
    let l = old (sym (slice_get-old (before past) (places_at e) i lt) ∙ is) in
    record {
      earlier = l.earlier;
      entry = l.entry;
      later = e ∷ l.later;
      place = l.place;
      all = ap (λ (es : List Entry). e ∷ es) l.all;
      is = l.is;
      front = ap (take i) (places_more e past) ∙ take-append-le i (before past) (places_at e) (omega (arith, lt)) ∙ l.front;
    }
entry_by e past i y is old (inr le) =
    let l = in_second (before past) (places_at e) i y is le in
    record {
      earlier = past;
      entry = e;
      later = [];
      place = l.place;
      all = refl;
      is = l.is;
      front = ap (take i) (places_more e past) ∙ l.front;
    }

pub in_entry : (past : List Entry) (i : ℕ) (y : Place) → slice_get (before past) i ≡ Some y → InEntry past i y
in_entry [] i y is = absurd (cc is)
in_entry (e ∷ past) i y is =
    entry_by e past i y (subst (λ (xs : List Place). slice_get xs i ≡ Some y) (places_more e past) is) (λ old. in_entry past i y old)
    (cases_lt i (length (before past)))

-- and the past with that entry is one of a run
pub entry_run : (s : ScriptData) (past : List Entry) (i : ℕ) (y : Place) → IsStepRun s past → (l : InEntry past i y)
    → IsStepRun s (l.entry ∷ l.earlier)
entry_run s past i y run l =
    run_before s (l.entry ∷ l.earlier) l.later (subst (λ (es : List Entry). IsStepRun s es) (sym l.all) run)
