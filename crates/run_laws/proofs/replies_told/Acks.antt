-- What becomes of a held answer if it is acknowledged: with the last acknowledgement it is sent, and its negative vote
-- forgotten.
use Rattle.std.proofs.Common.{◌≡◌, ◌≢◌, ◌⊎◌, inl, inr, ℕ, ◌-◌, Bool, true, false, List, refl, sym, ap, subst, ◌∙◌, Option, Some, None}
use Rattle.std.specs.Prelude.{if◌then◌else◌, nat_lt}
use Rattle.std.proofs.lemmas.Bool.{cases_eq}
use Rattle.tv_base.specs.declared.numbers.TreeNo.{TreeNo}
use Rattle.tv_base.specs.declared.numbers.Version.{Version}
use Rattle.letter_types.specs.declared.acts.Act.{Act}
use Rattle.tree_home.proofs.Maps.{put_at-other, put_at-same}
use Rattle.tree_home.specs.HeldAnswers.{HeldAnswers, acked, acked_of, answer_when_acked, held_for, last_answer}
use Rattle.tree_home.specs.Homes.{OpenTrees}
use Rattle.tree_home.specs.Maps.{put_at}
use Rattle.tree_home.specs.declared.homes.Answered.{Answered}
use Rattle.tree_home.specs.declared.homes.Held.{Held}
use Rattle.tree_home.specs.declared.homes.OpenTree.{OpenTree}
use Rattle.tx_trees.specs.ScriptData.{ScriptData}
use Rattle.world_model.specs.declared.refusal.NegativeVote.{NegativeVote}
use Rattle.world_model.specs.Core.{Refusals}
use Rattle.world_model.specs.Named.{is_strict_at}
use Rattle.world_model.specs.Strict.{answer_by, refusals_after}
use Rattle.run_laws.proofs.strict.StrictKinds.{strict_by_kind}
use Rattle.run_laws.proofs.replies_told.Homes.{put_cases}
use Rattle.run_laws.proofs.replies_told.Told.{Answers, HeldTold, OpenTold, SaidNo, Told}

-- what is held of tree t changes
held_put : (s : ScriptData) (does : List Act) (vs : ℕ → Option Version) (hs : OpenTrees) (holds : HeldAnswers) (rs : Refusals) (t : ℕ) (x : Option Held)
    → ((h : Held) → x ≡ Some h → HeldTold s does vs t (rs t) h × (hs t ≡ None)) → (hs t ≡ None → x ≡ None → rs t ≡ None) → Told s does vs hs holds rs
    → Told s does vs hs (put_at t x holds) rs
held_put s does vs hs holds rs t x new rest it = record {
  opened = it.opened;
  held = λ u h at. helds u h (put_cases t x (Some h) holds u at);
  apart = λ u h at. parts u h (put_cases t x (Some h) holds u at);
  noes = it.noes;
  rests = λ u gone none. rested u gone (put_cases t x None holds u none);
  plain = it.plain;
} where
  helds : (u : ℕ) (h : Held) → ((u ≡ t) × (x ≡ Some h)) ⊎ ((u ≢ t) × (holds u ≡ Some h)) → HeldTold s does vs u (rs u) h
  helds u h (inl both) = subst (λ (i : ℕ). HeldTold s does vs i (rs i) h) (sym both.0) (new h both.1).0
  helds u h (inr other) = it.held u h other.1

  parts : (u : ℕ) (h : Held) → ((u ≡ t) × (x ≡ Some h)) ⊎ ((u ≢ t) × (holds u ≡ Some h)) → hs u ≡ None
  parts u h (inl both) = ap hs both.0 ∙ (new h both.1).1
  parts u h (inr other) = it.apart u h other.1

  rested : (u : ℕ) → hs u ≡ None → ((u ≡ t) × (x ≡ None)) ⊎ ((u ≢ t) × (holds u ≡ None)) → rs u ≡ None
  rested u gone (inl both) = ap rs both.0 ∙ rest (sym (ap hs both.0) ∙ gone) both.1
  rested u gone (inr other) = it.rests u gone other.1

-- tree t is answered: nothing is kept of it
freed_told : (s : ScriptData) (does : List Act) (vs : ℕ → Option Version) (hs : OpenTrees) (holds : HeldAnswers) (rs : Refusals) (t : ℕ) → hs t ≡ None
    → Told s does vs hs holds rs → Told s does vs hs (put_at t None holds) (put_at t None rs)
freed_told s does vs hs holds rs t gone it = record {
  opened = λ u h at. opens u h at (cases_eq u t);
  held = λ u h at. helds u h (put_cases t None (Some h) holds u at);
  apart = λ u h at. parts u h (put_cases t None (Some h) holds u at);
  noes = λ u. cast u (cases_eq u t);
  rests = λ u shut none. rested u shut none (cases_eq u t);
  plain = λ u is. plainly u is (cases_eq u t);
} where
  other : (u : ℕ) → u ≢ t → put_at t None rs u ≡ rs u
  other u ne = put_at-other t u None rs ne

  here : (u : ℕ) → u ≡ t → put_at t None rs u ≡ None
  here u same = ap (put_at t None rs) same ∙ put_at-same t None rs

  opens : (u : ℕ) (h : OpenTree) → hs u ≡ Some h → (u ≡ t) ⊎ (u ≢ t) → OpenTold s does u (put_at t None rs u) h
  opens u h at (inl same) = let there : hs t ≡ Some h = subst (λ (i : ℕ). hs i ≡ Some h) same at in absurd (cc (there, gone))
  opens u h at (inr ne) = subst (λ (o : Option NegativeVote). OpenTold s does u o h) (sym (other u ne)) (it.opened u h at)

  helds : (u : ℕ) (h : Held) → ((u ≡ t) × (None ≡ Some h)) ⊎ ((u ≢ t) × (holds u ≡ Some h)) → HeldTold s does vs u (put_at t None rs u) h
  helds u h (inl both) = let is = both.1 in absurd (cc is)
  helds u h (inr found) = subst (λ (o : Option NegativeVote). HeldTold s does vs u o h) (sym (other u found.0)) (it.held u h found.1)

  parts : (u : ℕ) (h : Held) → ((u ≡ t) × (None ≡ Some h)) ⊎ ((u ≢ t) × (holds u ≡ Some h)) → hs u ≡ None
  parts u h (inl both) = let is = both.1 in absurd (cc is)
  parts u h (inr found) = it.apart u h found.1

  cast : (u : ℕ) → (u ≡ t) ⊎ (u ≢ t) → SaidNo s does u (put_at t None rs u)
  cast u (inl same) = subst (λ (o : Option NegativeVote). SaidNo s does u o) (sym (here u same)) tt
  cast u (inr ne) = subst (λ (o : Option NegativeVote). SaidNo s does u o) (sym (other u ne)) (it.noes u)

  rested : (u : ℕ) → hs u ≡ None → put_at t None holds u ≡ None → (u ≡ t) ⊎ (u ≢ t) → put_at t None rs u ≡ None
  rested u shut none (inl same) = here u same
  rested u shut none (inr ne) = other u ne ∙ it.rests u shut (sym (put_at-other t u None holds ne) ∙ none)

  plainly : (u : ℕ) → is_strict_at s u ≡ false → (u ≡ t) ⊎ (u ≢ t) → put_at t None rs u ≡ None
  plainly u is (inl same) = here u same
  plainly u is (inr ne) = other u ne ∙ it.plain u is

-- an acknowledgement of tree t
pub acked_told : (s : ScriptData) (does : List Act) (vs : ℕ → Option Version) (hs : OpenTrees) (holds : HeldAnswers) (rs : Refusals) (t : TreeNo)
    → Told s does vs hs holds rs → Told s does vs hs (acked t holds) (refusals_after (answer_when_acked t holds) rs)
acked_told s does vs hs holds rs t it = by (holds t.0) refl where
  more_by : (h : Held) → holds t.0 ≡ Some h → (test : Bool)
      → Told s does vs hs (put_at t.0 (if test then Some (held_for (h.waits - 1) h.answered) else None) holds) (refusals_after (if test then None else Some h.answered) rs)
  more_by h at true =
      let old = it.held t.0 h at in
      let next : Held = held_for (h.waits - 1) h.answered in
      held_put s does vs hs holds rs t.0 (Some next)
      (λ x is.
      let same : next ≡ x = cc is in (
        subst (λ (y : Held). HeldTold s does vs t.0 (rs t.0) y) same
            (record { names = old.names; strict = old.strict; version = old.version; gathered = old.gathered; decided = old.decided }),
        it.apart t.0 h at,
      ))
      (λ gone none. absurd (cc none)) it
  more_by h at false =
      let names = (it.held t.0 h at).names in
      subst (λ (i : ℕ). Told s does vs hs (put_at t.0 None holds) (put_at i None rs)) (sym names)
      (freed_told s does vs hs holds rs t.0 (it.apart t.0 h at) it)

  by : (o : Option Held) → holds t.0 ≡ o → Told s does vs hs (put_at t.0 (acked_of o) holds) (refusals_after (last_answer o) rs)
  by None at = held_put s does vs hs holds rs t.0 None (λ h is. absurd (cc is)) (λ gone none. it.rests t.0 gone at) it
  by (Some h) at = more_by h at (nat_lt 1 h.waits)

-- the answer that it sets free
pub acked_answers : (s : ScriptData) (does : List Act) (vs : ℕ → Option Version) (hs : OpenTrees) (holds : HeldAnswers) (rs : Refusals) (t : TreeNo) (a : Answered)
    → answer_when_acked t holds ≡ Some a → Told s does vs hs holds rs → Answers s does vs a.tree.0 a.version (answer_by (rs a.tree.0) a)
acked_answers s does vs hs holds rs t a is it = by (holds t.0) refl is where
  of_held : (h : Held) → holds t.0 ≡ Some h → Answers s does vs h.answered.tree.0 h.answered.version (answer_by (rs h.answered.tree.0) h.answered)
  of_held h at =
      let old = it.held t.0 h at in
      let kind = old.strict in
      subst (λ (i : ℕ). Answers s does vs i h.answered.version (answer_by (rs i) h.answered)) (sym old.names)
      (record {
        least = rs t.0;
        whole = h.answered;
        says = refl;
        version = old.version;
        kind = λ none. absurd (cc (none, kind));
        gathered = old.gathered;
        noes = it.noes t.0;
        strict = λ so. old.decided;
        plain = λ so. let strict = strict_by_kind s t.0 kind in absurd (cc (so, strict));
      })

  last_by : (h : Held) → holds t.0 ≡ Some h → (test : Bool) → (if test then None else Some h.answered) ≡ Some a
      → Answers s does vs a.tree.0 a.version (answer_by (rs a.tree.0) a)
  last_by h at true found = absurd (cc found)
  last_by h at false found =
      let same : h.answered ≡ a = cc found in
      subst (λ (x : Answered). Answers s does vs x.tree.0 x.version (answer_by (rs x.tree.0) x)) same (of_held h at)

  by : (o : Option Held) → holds t.0 ≡ o → last_answer o ≡ Some a → Answers s does vs a.tree.0 a.version (answer_by (rs a.tree.0) a)
  by None at found = absurd (cc found)
  by (Some h) at found = last_by h at (nat_lt 1 h.waits) found
