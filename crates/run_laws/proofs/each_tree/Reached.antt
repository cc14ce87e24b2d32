-- How far the transactions of a kind are complete, by what was given, in every run of every valid script.
use Rattle.std.proofs.Common.{◌≡◌, ◌⊎◌, inl, inr, ℕ, ◌+◌, ◌<◌, ◌≤◌, Bool, true, false, List, [], ◌∷◌, length, reverse, refl, sym, ap, subst, ◌∙◌, arith, Some, None}
use Rattle.std.proofs.lemmas.Bool.{not-true}
use Rattle.tv_base.specs.declared.numbers.Version.{Version}
use Rattle.letter_types.specs.declared.entries.Entry.{Entry}
use Rattle.tx_trees.specs.ScriptData.{ScriptData, reads}
use Rattle.tx_trees.specs.Valid.{IsValid}
use Rattle.board_rules.specs.Histories.{IsWhole, Place, is_whole_in, places_at, places_of, version_in}
use Rattle.board_rules.proofs.Wholes.{whole_more}
use Rattle.board_rules.proofs.Places.{places_more}
use Rattle.world_model.specs.Runs.{IsStepRun, node_in}
use Rattle.advance_laws.specs.Given.{greatest_given}
use Rattle.advance_laws.specs.Phases.{ShowStage, SweepStage}
use Rattle.advance_laws.specs.Quiet.{IsSilent}
use Rattle.advance_laws.proofs.governed.Advancing.{IsAdvancing, shown_next, swept_next}
use Rattle.run_laws.proofs.each_tree.EveryBirth.{IsBornAt, birth_at}
use Rattle.run_laws.proofs.each_tree.EveryWhole.{whole_when_silent}
use Rattle.run_laws.proofs.each_tree.InTime.{advancing_run, anew_run}
use Rattle.run_laws.proofs.each_tree.Wholes.{AreWhole, born_split, born_with, is_of_kind, turn_of}

-- the version up to which trees of the kind are whole now: writers up to the version that was last told to be shown, and read
-- trees below the version to which nodes were last told to sweep
abbrev pub now_below : Bool → ScriptData → List Entry → ℕ
now_below false s past = greatest_given ShowStage past + 1
now_below true s past = greatest_given SweepStage past

-- a node gives its trees no version below it
pub turn_above : (kind : Bool) (s : ScriptData) (past : List Entry) (p : ℕ) → IsAdvancing s past → p < s.nodes
    → now_below kind s past ≤ turn_of kind (node_in s past p)
turn_above false s past p all lt = omega (arith, (all.within p lt).showed_update)
turn_above true s past p all lt = omega (arith, (all.within p lt).swept_read)

-- a whole tree stays whole
stays_whole : (s : ScriptData) (past : List Entry) (e : Entry) (t : ℕ) → IsWhole s (reverse past) t → IsWhole s (reverse (e ∷ past)) t
stays_whole s past e t is =
    ap (λ (xs : List Place). is_whole_in s xs t) (places_more e past) ∙ whole_more s (places_of (reverse past)) (places_at e) t is

-- a tree that an entry bears takes the version that its node gives to trees of its kind
pub born_turn : (kind : Bool) (s : ScriptData) (past : List Entry) (e : Entry) (t : ℕ) (w : Version) → IsBornAt s past e t w
    → is_of_kind kind s t ≡ true → w.0 ≡ turn_of kind (node_in s past e.actor.0)
born_turn true s past e t w at of = at.read of
born_turn false s past e t w at of = at.update (not-true (reads s t) of)

-- so no tree that it bears has a version below
pub born_above : (kind : Bool) (s : ScriptData) (past : List Entry) (e : Entry) (t : ℕ) (w : Version) → IsValid s → IsStepRun s (e ∷ past)
    → is_of_kind kind s t ≡ true → version_in t (places_at e) ≡ Some w → now_below kind s past ≤ w.0
born_above kind s past e t w valid run of new =
    let at = birth_at s past e t w valid run new in
    omega (
      arith,
      born_turn kind s past e t w at of,
      turn_above kind s past e.actor.0 (advancing_run s past valid run.1) at.node,
    )

kept_by : (kind : Bool) (s : ScriptData) (past : List Entry) (e : Entry) (t : ℕ) (w : Version) → IsValid s → IsStepRun s (e ∷ past)
    → AreWhole kind s past (now_below kind s past) → t < length s.trees → is_of_kind kind s t ≡ true → w.0 < now_below kind s past
    → (born_with past t ≡ Some w) ⊎ (version_in t (places_at e) ≡ Some w) → IsWhole s (reverse (e ∷ past)) t
kept_by kind s past e t w valid run whole there of lt (inl old) = stays_whole s past e t (whole t w there of old lt)
kept_by kind s past e t w valid run whole there of lt (inr new) =
    absurd (omega (arith, lt, born_above kind s past e t w valid run of new))

-- what was whole stays so
kept : (kind : Bool) (s : ScriptData) (past : List Entry) (e : Entry) → IsValid s → IsStepRun s (e ∷ past)
    → AreWhole kind s past (now_below kind s past) → AreWhole kind s (e ∷ past) (now_below kind s past)
kept kind s past e valid run whole = λ t w there of born lt.
    kept_by kind s past e t w valid run whole there of lt
    (born_split t (places_of (reverse past)) (places_at e) w (sym (ap (version_in t) (places_more e past)) ∙ born))

-- What an entry makes of it: nothing, or a version more is given in quiet, in which no tree is born any more.
pub data Reaches (kind : Bool) (s : ScriptData) (past : List Entry) (e : Entry) : Type 0 where
  Same : now_below kind s (e ∷ past) ≡ now_below kind s past → Reaches kind s past e
  Closes : now_below kind s (e ∷ past) ≡ now_below kind s past + 1 → IsSilent s past (now_below kind s past)
      → ((p : ℕ) → p < s.nodes → now_below kind s past < turn_of kind (node_in s past p)) → Reaches kind s past e

pub reaches : (kind : Bool) (s : ScriptData) (past : List Entry) (e : Entry) → IsValid s → IsStepRun s (e ∷ past) → Reaches kind s past e
reaches false s past e valid run =
    elim (shown_next s past e (anew_run s past e valid run)) [
      | inl same ↦ Same (ap (λ (n : ℕ). n + 1) same)
      | inr more ↦ Closes (ap (λ (n : ℕ). n + 1) more.0) more.1.silent more.1.above
    ]
reaches true s past e valid run =
    elim (swept_next s past e (anew_run s past e valid run)) [
      | inl same ↦ Same same
      | inr more ↦ Closes more.0 (subst (IsSilent s past) (omega arith) more.1.silent) (λ p lt. omega (arith, more.1.above p lt))
    ]

-- what was whole is whole one version further, where that one is silent
old_whole : (kind : Bool) (s : ScriptData) (past : List Entry) (t : ℕ) (w : Version) (r : ℕ) → IsValid s → IsStepRun s past
    → AreWhole kind s past r → IsSilent s past r → t < length s.trees → is_of_kind kind s t ≡ true → born_with past t ≡ Some w → w.0 < r + 1
    → IsWhole s (reverse past) t
old_whole kind s past t w r valid run whole silent there of born lt = by (split w.0 r (omega (arith, lt))) where
  split : (n m : ℕ) → n ≤ m → (n < m) ⊎ (n ≡ m)
  split n m le = grind arith

  by : (w.0 < r) ⊎ (w.0 ≡ r) → IsWhole s (reverse past) t
  by (inl less) = whole t w there of born less
  by (inr is) = whole_when_silent s past t w valid run there (subst (λ (n : ℕ). IsSilent s past n) (sym is) silent) born

-- also after the entry, which bears none of that version
closing : (kind : Bool) (s : ScriptData) (past : List Entry) (e : Entry) → IsValid s → IsStepRun s (e ∷ past)
    → AreWhole kind s past (now_below kind s past) → IsSilent s past (now_below kind s past)
    → ((p : ℕ) → p < s.nodes → now_below kind s past < turn_of kind (node_in s past p))
    → AreWhole kind s (e ∷ past) (now_below kind s past + 1)
closing kind s past e valid run whole silent above = λ t w there of born lt.
    by t w there of lt (born_split t (places_of (reverse past)) (places_at e) w (sym (ap (version_in t) (places_more e past)) ∙ born)) where
      by : (t : ℕ) (w : Version) → t < length s.trees → is_of_kind kind s t ≡ true → w.0 < now_below kind s past + 1
          → (born_with past t ≡ Some w) ⊎ (version_in t (places_at e) ≡ Some w) → IsWhole s (reverse (e ∷ past)) t
      by t w there of lt (inl old) =
          stays_whole s past e t (old_whole kind s past t w (now_below kind s past) valid run.1 whole silent there of old lt)
      by t w there of lt (inr new) =
          let at = birth_at s past e t w valid run new in
          absurd (omega (arith, born_turn kind s past e t w at of, above e.actor.0 at.node, lt))

whole_next : (kind : Bool) (s : ScriptData) (past : List Entry) (e : Entry) → IsValid s → IsStepRun s (e ∷ past)
    → AreWhole kind s past (now_below kind s past) → Reaches kind s past e → AreWhole kind s (e ∷ past) (now_below kind s (e ∷ past))
whole_next kind s past e valid run whole (Same same) =
    subst (λ (n : ℕ). AreWhole kind s (e ∷ past) n) (sym same) (kept kind s past e valid run whole)
whole_next kind s past e valid run whole (Closes more silent above) =
    subst (λ (n : ℕ). AreWhole kind s (e ∷ past) n) (sym more) (closing kind s past e valid run whole silent above)

first_none : (kind : Bool) (s : ScriptData) → AreWhole kind s [] (now_below kind s [])
first_none kind s = λ t w there of born lt.
    let clash : born_with [] t ≡ None = refl in let no : None ≡ Some w = sym clash ∙ born in absurd (cc no)

-- in every past
pub whole_run : (kind : Bool) (s : ScriptData) (past : List Entry) → IsValid s → IsStepRun s past
    → AreWhole kind s past (now_below kind s past)
whole_run kind s [] valid run = first_none kind s
whole_run kind s (e ∷ past) valid run = whole_next kind s past e valid run (whole_run kind s past valid run.1) (reaches kind s past e valid run)
