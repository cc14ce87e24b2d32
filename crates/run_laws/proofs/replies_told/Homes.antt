-- What becomes of a node's homes, held answers and negative votes: a transaction begins, a negative vote is kept in
-- mind, a notice is taken down, an answer is held, and it is acknowledged.
use Rattle.std.proofs.Common.{◌≡◌, ◌≢◌, ◌⊎◌, inl, inr, ℕ, zero, suc, ◌+◌, ◌<◌, ◌≤◌, Bool, true, false, List, [], ◌∷◌, ◌++◌, length, set, replicate, refl, sym, ap, subst, ◌∙◌, arith, Option, Some, None}
use Rattle.std.specs.Prelude.{if◌then◌else◌, nat_lt, slice_get}
use Rattle.std.proofs.lemmas.Bool.{cases_eq}
use Rattle.std.proofs.lemmas.Bool.Decides.{nat_tests}
use Rattle.std.proofs.lemmas.List.{length-set}
use Rattle.tv_base.specs.declared.numbers.SubNo.{SubNo}
use Rattle.tv_base.specs.declared.numbers.TreeNo.{TreeNo}
use Rattle.tv_base.specs.declared.numbers.Version.{Version}
use Rattle.letter_types.specs.declared.acts.Act.{Act}
use Rattle.letter_types.specs.declared.bodies.Notice.{Notice}
use Rattle.letter_types.specs.declared.bodies.Notice.TheVariants.{Did as DidNotice, Yes, No}
use Rattle.tree_home.proofs.Always.{answer-is}
use Rattle.tree_home.proofs.Maps.{put_at-other, put_at-same}
use Rattle.tree_home.specs.HeldAnswers.{HeldAnswers, held_for, holding}
use Rattle.tree_home.specs.Homes.{Gets, OpenTrees, answer_in, begun, forgotten, gathered, misses, new_tree, noted, noted_of, prepended, with_notice}
use Rattle.tree_home.specs.Maps.{put_at}
use Rattle.tree_home.specs.declared.homes.Answered.{Answered}
use Rattle.tree_home.specs.declared.homes.Held.{Held}
use Rattle.tree_home.specs.declared.homes.OpenTree.{OpenTree}
use Rattle.tx_trees.specs.ScriptData.{ScriptData, subs_at}
use Rattle.tx_trees.specs.declared.parts.Sub.{Sub}
use Rattle.world_model.specs.declared.refusal.NegativeVote.{NegativeVote}
use Rattle.world_model.specs.Core.{Refusals, lesser, refused_by}
use Rattle.world_model.specs.Named.{is_strict_at}
use Rattle.world_model.specs.Notices.{answer_noted, homes_noted}
use Rattle.tree_laws.proofs.homes.Answering.{home_there}
use Rattle.tree_laws.proofs.homes.Noting.{Last, More, Noting, noting}
use Rattle.tree_laws.proofs.homes.Staging.{none_places}
use Rattle.run_laws.proofs.replies_told.Said.{said_in}
use Rattle.run_laws.proofs.replies_told.Told.{Below, Gathered, HeldTold, Minds, OpenTold, Reaches, SaidNo, Slot, Told, below_same, open_less}

-- a function with one value put in
pub put_cases : {X : Type 0} (n : ℕ) (x y : X) (f : ℕ → X) (u : ℕ) → put_at n x f u ≡ y → ((u ≡ n) × (x ≡ y)) ⊎ ((u ≢ n) × (f u ≡ y))
put_cases {X} n x y f u is = by (cases_eq u n) where
  by : (u ≡ n) ⊎ (u ≢ n) → ((u ≡ n) × (x ≡ y)) ⊎ ((u ≢ n) × (f u ≡ y))
  by (inl same) = inl (same, sym (put_at-same n x f) ∙ (subst (λ (i : ℕ). put_at n x f i ≡ y) same is))
  by (inr ne) = inr (ne, sym (put_at-other n u x f ne) ∙ is)

-- Places of notices.
slot_set : (ns : List (Option Gets)) (k i : ℕ) (values found : Gets) → slice_get (set ns k (Some values)) i ≡ Some (Some found)
    → ((i ≡ k) × (values ≡ found)) ⊎ (slice_get ns i ≡ Some (Some found))
slot_set [] k i values found at = inr at
slot_set (n ∷ ns) zero zero values found at = inl (refl, cc at)
slot_set (n ∷ ns) zero (suc i) values found at = inr at
slot_set (n ∷ ns) (suc k) zero values found at = inr at
slot_set (n ∷ ns) (suc k) (suc i) values found at = by (slot_set ns k i values found at) where
  by : ((i ≡ k) × (values ≡ found)) ⊎ (slice_get ns i ≡ Some (Some found)) → ((suc i ≡ suc k) × (values ≡ found)) ⊎ (slice_get ns i ≡ Some (Some found))
  by (inl both) = inl (ap suc both.0, both.1)
  by (inr old) = inr old

no_slot : (n i : ℕ) (found : Gets) → slice_get (replicate n None) i ≡ Some (Some found) → ⊥
no_slot zero i found at = cc at
no_slot (suc n) zero found at = cc at
no_slot (suc n) (suc i) found at = no_slot n i found at

-- A tree begins.
pub begun_told : (s : ScriptData) (does : List Act) (vs : ℕ → Option Version) (hs : OpenTrees) (holds : HeldAnswers) (rs : Refusals) (t : TreeNo) (v : Version)
    → holds t.0 ≡ None → Told s does vs hs holds rs → Told s does vs (begun t (length (subs_at s t.0)) v hs) holds rs
begun_told s does vs hs holds rs t v unheld it =
    let n : ℕ = length (subs_at s t.0) in
    record {
      opened = λ u h at. opens u h (put_cases t.0 (Some (new_tree n v)) (Some h) hs u at);
      held = it.held;
      apart = λ u h at. parts u h at (cases_eq u t.0);
      noes = it.noes;
      rests = λ u gone none. rested u none (put_cases t.0 (Some (new_tree n v)) None hs u gone);
      plain = it.plain;
    }
  where
    new : OpenTold s does t.0 (rs t.0) (new_tree (length (subs_at s t.0)) v)
    new = record { places = none_places (length (subs_at s t.0)); slots = λ k values at. absurd (no_slot (length (subs_at s t.0)) k values at) }

    opens : (u : ℕ) (h : OpenTree) → ((u ≡ t.0) × (Some (new_tree (length (subs_at s t.0)) v) ≡ Some h)) ⊎ ((u ≢ t.0) × (hs u ≡ Some h)) → OpenTold s does u (rs u) h
    opens u h (inl both) =
        let same : new_tree (length (subs_at s t.0)) v ≡ h = (let is = both.1 in cc is) in
        subst (λ (i : ℕ). OpenTold s does i (rs i) h) (sym both.0) (subst (λ (x : OpenTree). OpenTold s does t.0 (rs t.0) x) same new)
    opens u h (inr other) = it.opened u h other.1

    parts : (u : ℕ) (h : Held) → holds u ≡ Some h → (u ≡ t.0) ⊎ (u ≢ t.0) → begun t (length (subs_at s t.0)) v hs u ≡ None
    parts u h at (inl same) = let there : holds t.0 ≡ Some h = subst (λ (i : ℕ). holds i ≡ Some h) same at in absurd (cc (there, unheld))
    parts u h at (inr ne) = put_at-other t.0 u (Some (new_tree (length (subs_at s t.0)) v)) hs ne ∙ it.apart u h at

    rested : (u : ℕ) → holds u ≡ None → ((u ≡ t.0) × (Some (new_tree (length (subs_at s t.0)) v) ≡ None)) ⊎ ((u ≢ t.0) × (hs u ≡ None)) → rs u ≡ None
    rested u none (inl both) = let is = both.1 in absurd (cc is)
    rested u none (inr other) = it.rests u other.1 none

-- The no of least number.
lesser_most : (o : Option NegativeVote) (r : NegativeVote) → (lesser o r).sub.0 ≤ r.sub.0
lesser_most None r = omega arith
lesser_most (Some old) r = by (nat_lt r.sub.0 old.sub.0) refl where
  by : (test : Bool) → nat_lt r.sub.0 old.sub.0 ≡ test → (if test then r else old).sub.0 ≤ r.sub.0
  by true is = omega arith
  by false is = grind (arith, nat_tests)

lesser_below : (o : Option NegativeVote) (r : NegativeVote) → Below (Some (lesser o r)) o
lesser_below None r = tt
lesser_below (Some old) r = by (nat_lt r.sub.0 old.sub.0) refl where
  by : (test : Bool) → nat_lt r.sub.0 old.sub.0 ≡ test → (if test then r else old).sub.0 ≤ old.sub.0
  by true is = grind (arith, nat_tests)
  by false is = omega arith

lesser_said : (s : ScriptData) (does : List Act) (t : ℕ) (o : Option NegativeVote) (r : NegativeVote) → SaidNo s does t o → SaidNo s does t (Some r)
    → SaidNo s does t (Some (lesser o r))
lesser_said s does t None r old new = new
lesser_said s does t (Some q) r old new = by (nat_lt r.sub.0 q.sub.0) where
  by : (test : Bool) → SaidNo s does t (Some (if test then r else q))
  by true = new
  by false = old

-- the noes after one of tree t
put_told : (s : ScriptData) (does : List Act) (vs : ℕ → Option Version) (hs : OpenTrees) (holds : HeldAnswers) (rs : Refusals) (t : ℕ) (o : Option NegativeVote)
    → is_strict_at s t ≡ true → holds t ≡ None → (hs t ≡ None → ⊥) → Below o (rs t) → SaidNo s does t o → Told s does vs hs holds rs
    → Told s does vs hs holds (put_at t o rs)
put_told s does vs hs holds rs t o strict unheld there less said it = record {
  opened = λ u h at. open_less s does u (put_at t o rs u) (rs u) h (below u (cases_eq u t)) (it.opened u h at);
  held = λ u h at. helds u h at (cases_eq u t);
  apart = it.apart;
  noes = λ u. cast u (cases_eq u t);
  rests = λ u gone none. rested u gone none (cases_eq u t);
  plain = λ u is. plainly u is (cases_eq u t);
} where
  here : (u : ℕ) → u ≡ t → put_at t o rs u ≡ o
  here u same = ap (put_at t o rs) same ∙ put_at-same t o rs

  other : (u : ℕ) → u ≢ t → put_at t o rs u ≡ rs u
  other u ne = put_at-other t u o rs ne

  below : (u : ℕ) → (u ≡ t) ⊎ (u ≢ t) → Below (put_at t o rs u) (rs u)
  below u (inl same) = subst (λ (x : Option NegativeVote). Below x (rs u)) (sym (here u same)) (subst (λ (i : ℕ). Below o (rs i)) (sym same) less)
  below u (inr ne) = subst (λ (x : Option NegativeVote). Below x (rs u)) (sym (other u ne)) (below_same (rs u))

  helds : (u : ℕ) (h : Held) → holds u ≡ Some h → (u ≡ t) ⊎ (u ≢ t) → HeldTold s does vs u (put_at t o rs u) h
  helds u h at (inl same) = let held : holds t ≡ Some h = subst (λ (i : ℕ). holds i ≡ Some h) same at in absurd (cc (held, unheld))
  helds u h at (inr ne) = subst (λ (x : Option NegativeVote). HeldTold s does vs u x h) (sym (other u ne)) (it.held u h at)

  cast : (u : ℕ) → (u ≡ t) ⊎ (u ≢ t) → SaidNo s does u (put_at t o rs u)
  cast u (inl same) = subst (λ (x : Option NegativeVote). SaidNo s does u x) (sym (here u same)) (subst (λ (i : ℕ). SaidNo s does i o) (sym same) said)
  cast u (inr ne) = subst (λ (x : Option NegativeVote). SaidNo s does u x) (sym (other u ne)) (it.noes u)

  rested : (u : ℕ) → hs u ≡ None → holds u ≡ None → (u ≡ t) ⊎ (u ≢ t) → put_at t o rs u ≡ None
  rested u gone none (inl same) = absurd (there (subst (λ (i : ℕ). hs i ≡ None) same gone))
  rested u gone none (inr ne) = other u ne ∙ it.rests u gone none

  plainly : (u : ℕ) → is_strict_at s u ≡ false → (u ≡ t) ⊎ (u ≢ t) → put_at t o rs u ≡ None
  plainly u is (inl same) = let not_strict : is_strict_at s t ≡ false = subst (λ (i : ℕ). is_strict_at s i ≡ false) same is in absurd (cc (not_strict, strict))
  plainly u is (inr ne) = other u ne ∙ it.plain u is

pub refused_told : (s : ScriptData) (does : List Act) (vs : ℕ → Option Version) (hs : OpenTrees) (holds : HeldAnswers) (rs : Refusals) (t : TreeNo) (k : SubNo) (n : Notice)
    → is_strict_at s t.0 ≡ true → holds t.0 ≡ None → (hs t.0 ≡ None → ⊥) → said_in t.0 k.0 does ≡ Some n → k.0 < length (subs_at s t.0)
    → Told s does vs hs holds rs → Told s does vs hs holds (refused_by t k n rs)
refused_told s does vs hs holds rs t k (DidNotice values) strict unheld there said lt it = it
refused_told s does vs hs holds rs t k (Yes values) strict unheld there said lt it = it
refused_told s does vs hs holds rs t k (No cause) strict unheld there said lt it =
    let r : NegativeVote = record { sub = k; cause = cause } in
    put_told s does vs hs holds rs t.0 (Some (lesser (rs t.0) r)) strict unheld there (lesser_below (rs t.0) r)
    (lesser_said s does t.0 (rs t.0) r (it.noes t.0) (said, lt)) it

pub refused_minds : (rs : Refusals) (t : TreeNo) (k : SubNo) (n : Notice) → Minds n (refused_by t k n rs t.0) k.0
refused_minds rs t k (DidNotice values) = tt
refused_minds rs t k (Yes values) = tt
refused_minds rs t k (No cause) =
    let r : NegativeVote = record { sub = k; cause = cause } in
    subst (λ (o : Option NegativeVote). Reaches o k.0) (sym (put_at-same t.0 (Some (lesser (rs t.0) r)) rs)) (lesser_most (rs t.0) r)

-- A notice is taken down.
noticed : (s : ScriptData) (does : List Act) (t : ℕ) (o : Option NegativeVote) (k : SubNo) (values : Gets) (g : OpenTree) → Slot s does t o k.0 values
    → OpenTold s does t o g → OpenTold s does t o (with_notice k values g)
noticed s does t o k values g slot it = record {
  places = length-set g.notices k.0 (Some values) ∙ it.places;
  slots = λ i found at. by i found (slot_set g.notices k.0 i values found at);
} where
  by : (i : ℕ) (found : Gets) → ((i ≡ k.0) × (values ≡ found)) ⊎ (slice_get g.notices i ≡ Some (Some found)) → Slot s does t o i found
  by i found (inl both) = subst (λ (j : ℕ). Slot s does t o j found) (sym both.0) (subst (λ (ws : Gets). Slot s does t o k.0 ws) both.1 slot)
  by i found (inr old) = it.slots i found old

noted_told : (s : ScriptData) (does : List Act) (vs : ℕ → Option Version) (hs : OpenTrees) (holds : HeldAnswers) (rs : Refusals) (t : TreeNo) (k : SubNo) (values : Gets)
    → Slot s does t.0 (rs t.0) k.0 values → Told s does vs hs holds rs → Told s does vs (noted t k values hs) holds rs
noted_told s does vs hs holds rs t k values slot it = record {
  opened = λ u h at. opens u h (put_cases t.0 (noted_of k values (hs t.0)) (Some h) hs u at);
  held = it.held;
  apart = λ u h at. parts u h at (cases_eq u t.0);
  noes = it.noes;
  rests = λ u gone none. rested u none (put_cases t.0 (noted_of k values (hs t.0)) None hs u gone);
  plain = it.plain;
} where
  there : (o : Option OpenTree) (h : OpenTree) → hs t.0 ≡ o → noted_of k values o ≡ Some h → OpenTold s does t.0 (rs t.0) h
  there None h at is = absurd (cc is)
  there (Some g) h at is =
      let same : with_notice k values g ≡ h = cc is in
      subst (λ (x : OpenTree). OpenTold s does t.0 (rs t.0) x) same (noticed s does t.0 (rs t.0) k values g slot (it.opened t.0 g at))

  opens : (u : ℕ) (h : OpenTree) → ((u ≡ t.0) × (noted_of k values (hs t.0) ≡ Some h)) ⊎ ((u ≢ t.0) × (hs u ≡ Some h)) → OpenTold s does u (rs u) h
  opens u h (inl both) = subst (λ (i : ℕ). OpenTold s does i (rs i) h) (sym both.0) (there (hs t.0) h refl both.1)
  opens u h (inr other) = it.opened u h other.1

  parts : (u : ℕ) (h : Held) → holds u ≡ Some h → (u ≡ t.0) ⊎ (u ≢ t.0) → noted t k values hs u ≡ None
  parts u h at (inl same) =
      let gone : hs t.0 ≡ None = subst (λ (i : ℕ). hs i ≡ None) same (it.apart u h at) in
      ap (noted t k values hs) same ∙ put_at-same t.0 (noted_of k values (hs t.0)) hs ∙ ap (noted_of k values) gone
  parts u h at (inr ne) = put_at-other t.0 u (noted_of k values (hs t.0)) hs ne ∙ it.apart u h at

  gone_by : (o : Option OpenTree) → noted_of k values o ≡ None → o ≡ None
  gone_by None is = refl
  gone_by (Some g) is = absurd (cc is)

  rested : (u : ℕ) → holds u ≡ None → ((u ≡ t.0) × (noted_of k values (hs t.0) ≡ None)) ⊎ ((u ≢ t.0) × (hs u ≡ None)) → rs u ≡ None
  rested u none (inl both) =
      let same = both.0 in it.rests u (subst (λ (i : ℕ). hs i ≡ None) (sym same) (gone_by (hs t.0) both.1)) none
  rested u none (inr other) = it.rests u other.1 none

abbrev no_tree : Option OpenTree
no_tree = None

-- a tree is closed
closed_told : (s : ScriptData) (does : List Act) (vs : ℕ → Option Version) (hs : OpenTrees) (holds : HeldAnswers) (rs : Refusals) (t : TreeNo)
    → rs t.0 ≡ None → Told s does vs hs holds rs → Told s does vs (forgotten t hs) holds rs
closed_told s does vs hs holds rs t none it = record {
  opened = λ u h at. opens u h (put_cases t.0 None (Some h) hs u at);
  held = it.held;
  apart = λ u h at. parts u h at (cases_eq u t.0);
  noes = it.noes;
  rests = λ u gone rest. rested u rest (put_cases t.0 None None hs u gone);
  plain = it.plain;
} where
  opens : (u : ℕ) (h : OpenTree) → ((u ≡ t.0) × (None ≡ Some h)) ⊎ ((u ≢ t.0) × (hs u ≡ Some h)) → OpenTold s does u (rs u) h
  opens u h (inl both) = let is = both.1 in absurd (cc is)
  opens u h (inr other) = it.opened u h other.1

  parts : (u : ℕ) (h : Held) → holds u ≡ Some h → (u ≡ t.0) ⊎ (u ≢ t.0) → forgotten t hs u ≡ None
  parts u h at (inl same) = ap (forgotten t hs) same ∙ put_at-same t.0 None hs
  parts u h at (inr ne) = put_at-other t.0 u None hs ne ∙ it.apart u h at

  rested : (u : ℕ) → holds u ≡ None → ((u ≡ t.0) × (no_tree ≡ no_tree)) ⊎ ((u ≢ t.0) × (hs u ≡ None)) → rs u ≡ None
  rested u rest (inl both) = ap rs both.0 ∙ none
  rested u rest (inr other) = it.rests u other.1 rest

-- and its answer is held
pub holding_told : (s : ScriptData) (does : List Act) (vs : ℕ → Option Version) (hs : OpenTrees) (holds : HeldAnswers) (rs : Refusals) (t : TreeNo) (a : Answered) (n : ℕ)
    → HeldTold s does vs t.0 (rs t.0) (held_for n a) → Told s does vs hs holds rs → Told s does vs (forgotten t hs) (holding a n holds) rs
holding_told s does vs hs holds rs t a n new it = record {
  opened = λ u h at. opens u h (put_cases t.0 None (Some h) hs u at);
  held = λ u h at. helds u h (put_cases a.tree.0 (Some (held_for n a)) (Some h) holds u at);
  apart = λ u h at. parts u h (cases_eq u t.0) (put_cases a.tree.0 (Some (held_for n a)) (Some h) holds u at);
  noes = it.noes;
  rests = λ u gone rest. rested u (put_cases a.tree.0 (Some (held_for n a)) None holds u rest) (put_cases t.0 None None hs u gone);
  plain = it.plain;
} where
  opens : (u : ℕ) (h : OpenTree) → ((u ≡ t.0) × (None ≡ Some h)) ⊎ ((u ≢ t.0) × (hs u ≡ Some h)) → OpenTold s does u (rs u) h
  opens u h (inl both) = let is = both.1 in absurd (cc is)
  opens u h (inr other) = it.opened u h other.1

  helds : (u : ℕ) (h : Held) → ((u ≡ a.tree.0) × (Some (held_for n a) ≡ Some h)) ⊎ ((u ≢ a.tree.0) × (holds u ≡ Some h)) → HeldTold s does vs u (rs u) h
  helds u h (inl both) =
      let same : held_for n a ≡ h = (let is = both.1 in cc is) in
      subst (λ (i : ℕ). HeldTold s does vs i (rs i) h) (sym (both.0 ∙ new.names)) (subst (λ (x : Held). HeldTold s does vs t.0 (rs t.0) x) same new)
  helds u h (inr other) = it.held u h other.1

  parts : (u : ℕ) (h : Held) → (u ≡ t.0) ⊎ (u ≢ t.0) → ((u ≡ a.tree.0) × (Some (held_for n a) ≡ Some h)) ⊎ ((u ≢ a.tree.0) × (holds u ≡ Some h))
      → forgotten t hs u ≡ None
  parts u h (inl same) found = ap (forgotten t hs) same ∙ put_at-same t.0 None hs
  parts u h (inr ne) (inl both) = absurd (ne (both.0 ∙ new.names))
  parts u h (inr ne) (inr other) = put_at-other t.0 u None hs ne ∙ it.apart u h other.1

  rested : (u : ℕ) → ((u ≡ a.tree.0) × (Some (held_for n a) ≡ None)) ⊎ ((u ≢ a.tree.0) × (holds u ≡ None))
      → ((u ≡ t.0) × (no_tree ≡ no_tree)) ⊎ ((u ≢ t.0) × (hs u ≡ None)) → rs u ≡ None
  rested u (inl both) gone = let is = both.1 in absurd (cc is)
  rested u (inr other) (inl both) = absurd (other.0 (both.0 ∙ sym new.names))
  rested u (inr other) (inr gone) = it.rests u gone.1 other.1

-- so of a tree that isn't strict
pub plain_noted : (s : ScriptData) (does : List Act) (vs : ℕ → Option Version) (hs : OpenTrees) (holds : HeldAnswers) (rs : Refusals) (t : TreeNo) (k : SubNo) (values : Gets)
    → is_strict_at s t.0 ≡ false → Slot s does t.0 (rs t.0) k.0 values → Told s does vs hs holds rs → Told s does vs (homes_noted t k values hs) holds rs
plain_noted s does vs hs holds rs t k values plain slot it = by (misses t k hs) refl where
  noting_by : Noting t k values hs → Told s does vs (homes_noted t k values hs) holds rs
  noting_by (More is answer some) = subst (λ (x : OpenTrees). Told s does vs x holds rs) (sym is) (noted_told s does vs hs holds rs t k values slot it)
  noting_by (Last a is answer here none) =
      subst (λ (x : OpenTrees). Told s does vs x holds rs) (sym is) (closed_told s does vs hs holds rs t (it.plain t.0 plain) it)

  by : (test : Bool) → misses t k hs ≡ test → Told s does vs (homes_noted t k values hs) holds rs
  by true miss = noting_by (noting t k values hs miss)
  by false miss = subst (λ (x : OpenTrees). Told s does vs x holds rs) (sym (left miss)) it where
    left : misses t k hs ≡ false → homes_noted t k values hs ≡ hs
    left isnt = rw isnt refl

-- and of a strict one where notices are missing
pub strict_noted : (s : ScriptData) (does : List Act) (vs : ℕ → Option Version) (hs : OpenTrees) (holds : HeldAnswers) (rs : Refusals) (t : TreeNo) (k : SubNo) (values : Gets)
    → answer_noted t k values hs ≡ None → Slot s does t.0 (rs t.0) k.0 values → Told s does vs hs holds rs → Told s does vs (homes_noted t k values hs) holds rs
strict_noted s does vs hs holds rs t k values more slot it = by (misses t k hs) refl where
  noting_by : Noting t k values hs → Told s does vs (homes_noted t k values hs) holds rs
  noting_by (More is answer some) = subst (λ (x : OpenTrees). Told s does vs x holds rs) (sym is) (noted_told s does vs hs holds rs t k values slot it)
  noting_by (Last a is answer here none) = absurd (cc (more, answer))

  by : (test : Bool) → misses t k hs ≡ test → Told s does vs (homes_noted t k values hs) holds rs
  by true miss = noting_by (noting t k values hs miss)
  by false miss = subst (λ (x : OpenTrees). Told s does vs x holds rs) (sym (left miss)) it where
    left : misses t k hs ≡ false → homes_noted t k values hs ≡ hs
    left isnt = rw isnt refl

-- with the last one the tree is gone
pub last_closes : (t : TreeNo) (k : SubNo) (values : Gets) (hs : OpenTrees) (a : Answered) → answer_noted t k values hs ≡ Some a
    → homes_noted t k values hs ≡ forgotten t hs
last_closes t k values hs a is = by (misses t k hs) refl where
  noting_by : Noting t k values hs → homes_noted t k values hs ≡ forgotten t hs
  noting_by (More same answer some) = absurd (cc (is, answer))
  noting_by (Last b same answer here none) = same

  by : (test : Bool) → misses t k hs ≡ test → homes_noted t k values hs ≡ forgotten t hs
  by true miss = noting_by (noting t k values hs miss)
  by false miss = let no : answer_noted t k values hs ≡ None = rw miss refl in absurd (cc (is, no))

-- The answer: the values of all.
gathered_told : (s : ScriptData) (does : List Act) (t : ℕ) (o : Option NegativeVote) (k : ℕ) (ns : List (Option Gets)) (subs : List Sub) (values : Gets)
    → length ns ≡ length subs → ((i : ℕ) (found : Gets) → slice_get ns i ≡ Some (Some found) → Slot s does t o (k + i) found)
    → gathered ns ≡ Some values → Gathered s does t o k subs values
gathered_told s does t o k [] [] values same slots is = sym (cc is)
gathered_told s does t o k [] (sub ∷ subs) values same slots is = absurd (omega (arith, same))
gathered_told s does t o k (n ∷ ns) [] values same slots is = absurd (omega (arith, same))
gathered_told s does t o k (None ∷ ns) (sub ∷ subs) values same slots is = absurd (cc is)
gathered_told s does t o k (Some first ∷ ns) (sub ∷ subs) values same slots is =
    by (gathered ns) refl is
    (λ others rest. gathered_told s does t o (k + 1) ns subs others (omega (arith, same))
    (λ i found there. subst (λ (j : ℕ). Slot s does t o j found) (at_next i) (slots (suc i) found there)) rest) where
      at_next : (i : ℕ) → k + suc i ≡ (k + 1) + i
      at_next i = omega arith

      at_first : k + 0 ≡ k
      at_first = omega arith

      by : (found : Option Gets) → gathered ns ≡ found → prepended first found ≡ Some values
          → ((others : Gets) → gathered ns ≡ Some others → Gathered s does t o (k + 1) subs others) → Gathered s does t o k (sub ∷ subs) values
      by None rest at later = absurd (cc at)
      by (Some others) rest at later =
          let all : first ++ others ≡ values = cc at in
          (first, (others, (sym all, (subst (λ (j : ℕ). Slot s does t o j first) at_first (slots 0 first refl), later others rest))))

pub record Given (s : ScriptData) (does : List Act) (hs : OpenTrees) (t : TreeNo) (o : Option NegativeVote) (a : Answered) : Type 0 where
  pub tree : a.tree ≡ t
  pub home : OpenTree
  pub there : hs t.0 ≡ Some home
  pub version : a.version ≡ home.version
  pub values : Gathered s does t.0 o 0 (subs_at s t.0) a.values

pub given : (s : ScriptData) (does : List Act) (vs : ℕ → Option Version) (hs : OpenTrees) (holds : HeldAnswers) (rs : Refusals) (t : TreeNo) (k : SubNo) (values : Gets) (a : Answered)
    → Slot s does t.0 (rs t.0) k.0 values → Told s does vs hs holds rs → answer_noted t k values hs ≡ Some a → Given s does hs t (rs t.0) a
given s does vs hs holds rs t k values a slot it is = by (misses t k hs) refl where
  by : (test : Bool) → misses t k hs ≡ test → Given s does hs t (rs t.0) a
  by true miss =
      let there = home_there t k hs miss in
      let here : answer_in t k values hs ≡ Some a = sym (left miss) ∙ is in
      let answer = answer-is t k values hs there.0 a there.1 here in
      let o = noticed s does t.0 (rs t.0) k values there.0 slot (it.opened t.0 there.0 there.1) in
      record {
        tree = answer.0;
        home = there.0;
        there = there.1;
        version = answer.1;
        values = gathered_told s does t.0 (rs t.0) 0 (with_notice k values there.0).notices (subs_at s t.0) a.values o.places
            (λ i found at. subst (λ (j : ℕ). Slot s does t.0 (rs t.0) j found) (zero_more i) (o.slots i found at)) answer.2;
      } where
        left : misses t k hs ≡ true → answer_noted t k values hs ≡ answer_in t k values hs
        left does_miss = rw does_miss refl

        zero_more : (i : ℕ) → i ≡ 0 + i
        zero_more i = omega arith
  by false miss = let no : answer_noted t k values hs ≡ None = rw miss refl in absurd (cc (is, no))
