-- A node's low version rises by one at a time. So it has collected to each version from 1 up to its low version.
use Rattle.std.proofs.Common.{◌≡◌, ◌≢◌, ◌⊎◌, inl, inr, ℕ, ◌+◌, ◌<◌, ◌≤◌, ◌==◌, ◌&&◌, true, false, List, [], ◌∷◌, ◌++◌, reverse, refl, sym, ap, subst, ◌∙◌, arith}
use Rattle.std.specs.Prelude.{nat_lt}
use Rattle.std.proofs.lemmas.Bool.{cases_eq, cases_lt, or_right}
use Rattle.std.proofs.lemmas.Bool.Decides.{nat_tests}
use Rattle.std.proofs.lemmas.List.Folds.{list_any-append}
use Rattle.tv_base.proofs.Truths.{same_test}
use Rattle.tv_base.specs.declared.numbers.Version.{Version}
use Rattle.letter_types.specs.declared.acts.Act.{Act}
use Rattle.letter_types.specs.declared.acts.Act.TheVariants.{Swept as SweptAct}
use Rattle.letter_types.specs.declared.bodies.Body.{Body}
use Rattle.letter_types.specs.declared.bodies.What.TheVariants as whats
use Rattle.letter_types.specs.declared.entries.Entry.{Entry}
use Rattle.letter_types.specs.declared.entries.Letter.{Letter}
use Rattle.node_versions.specs.declared.turns.Turns.{Turns}
use Rattle.world_model.specs.Asked.{asked_version}
use Rattle.world_model.specs.Core.{Core}
use Rattle.world_model.specs.Epochs.{was_obeyed}
use Rattle.world_model.specs.Node.{Node}
use Rattle.world_model.specs.Strict.{CoreKeeping, core_row}
use Rattle.tx_trees.specs.ScriptData.{ScriptData}
use Rattle.tx_trees.specs.Valid.{IsValid}
use Rattle.board_rules.specs.Gates.{was_swept}
use Rattle.board_rules.specs.Histories.{Place, places_at, places_of}
use Rattle.board_rules.specs.Moves.{swept_to}
use Rattle.board_rules.specs.Serial.{is_version}
use Rattle.world_model.specs.Runs.{IsStepRun, keeping_in, node_in}
use Rattle.world_model.proofs.Epochs.{Anew, Orders, Plainly}
use Rattle.world_model.proofs.Every.{node_kept}
use Rattle.world_model.proofs.Cases.{Case, Coordinates, Does, Keeps, NodeDoes, NodeKeeps, Submits, case}
use Rattle.world_model.proofs.Keepings.{of_kept}
use Rattle.run_laws.proofs.each_tree.EveryApt.{all_apt}
use Rattle.run_laws.proofs.each_tree.InTime.{advancing_run}
use Rattle.advance_laws.proofs.governed.Brought.{BringsTo}
use Rattle.advance_laws.proofs.phases.Progress.{brings_to}
use Rattle.tree_laws.proofs.apt.AptItems.{Applies, Changes, Collects, Follows, Raises, Rests, Shows, Touches, core_changes, raised_to}
use Rattle.tree_laws.proofs.loads.Seen.{raised_low}
use Rattle.tree_laws.proofs.homes.Counted.{placed}
use Rattle.board_rules.proofs.Wholes.{any_more}
use Rattle.board_rules.proofs.Places.{places_more}
use Rattle.run_laws.proofs.births.Raised.{ordered_given, sweeps_ahead}

-- What was collected, with more acts.
swept_more : (p v : ℕ) (xs ys : List Place) → was_swept p v xs ≡ true → was_swept p v (xs ++ ys) ≡ true
swept_more p v xs ys is = any_more (λ (x : Place). (x.node == p) && is_version v (swept_to x.act)) xs ys is

swept_last : (p v : ℕ) (xs ys : List Place) → was_swept p v ys ≡ true → was_swept p v (xs ++ ys) ≡ true
swept_last p v xs ys is =
    list_any-append (λ (x : Place). (x.node == p) && is_version v (swept_to x.act)) xs ys ∙ or_right (was_swept p v xs) (was_swept p v ys) is

-- A sweep is to the version after the low one.
sweep_next : (s : ScriptData) (past : List Entry) (e : Entry) (p : ℕ) (r : Letter) (v : Version) → IsValid s → IsStepRun s (e ∷ past)
    → BringsTo s past e p r → Orders (keeping_in s past p).core r.body whats.Sweep v → v.0 ≡ (node_in s past p).turns.low.0 + 1
sweep_next s past e p r v valid run b to =
    omega (
      arith,
      sweeps_ahead s past e p r v valid run b to,
      ordered_given s past e p r whats.Sweep v valid run b to,
      ((advancing_run s past valid run.1).within p b.below).swept_low,
    )

-- and it is all that its entry does
sweep_acts : (s : ScriptData) (p from : ℕ) (c : Core) (body : Body) (v : Version) → Orders c body whats.Sweep v
    → (core_row s p c from body).acts ≡ SweptAct v ∷ []
sweep_acts s p from c body v (Plainly is) = ap (λ (b : Body). (core_row s p c from b).acts) is
sweep_acts s p from c body v (Anew e is takes) =
    let new : nat_lt e c.epoch ≡ false = grind arith in
    let first : was_obeyed whats.Sweep v c.node ≡ false = grind arith in
    ap (λ (b : Body). (core_row s p c from b).acts) is ∙ rw (new, first) refl

-- node p has collected to each version up to its low one
abbrev pub SweptTo : ScriptData → List Entry → ℕ → Type 0
SweptTo s past p = (v : ℕ) → 1 ≤ v → v ≤ (node_in s past p).turns.low.0 → was_swept p v (places_of (reverse past)) ≡ true

-- with one entry more that leaves the low version
stays : (s : ScriptData) (past : List Entry) (e : Entry) (p : ℕ) → (node_in s (e ∷ past) p).turns.low.0 ≡ (node_in s past p).turns.low.0
    → SweptTo s past p → SweptTo s (e ∷ past) p
stays s past e p same swept = λ v one le.
    subst (λ (xs : List Place). was_swept p v xs ≡ true) (sym (places_more e past))
    (swept_more p v (places_of (reverse past)) (places_at e) (swept v one (omega (arith, same, le))))

elsewhere : (s : ScriptData) (past : List Entry) (e : Entry) (p : ℕ) → e.actor.0 ≢ p → SweptTo s past p → SweptTo s (e ∷ past) p
elsewhere s past e p ne swept = stays s past e p (ap (λ (st : Node). st.turns.low.0) (node_kept s past e p ne)) swept

-- with a sweep, which raises it by one
sweep_here : (h p : ℕ) (v : Version) → (h == p) ≡ true → was_swept p v.0 (placed h (SweptAct v ∷ [])) ≡ true
sweep_here h p v is = rw (is, same_test v.0) refl

swept_by : (s : ScriptData) (past : List Entry) (e : Entry) (p : ℕ) (v : Version) → e.acts ≡ SweptAct v ∷ []
    → (node_in s (e ∷ past) p).turns.low.0 ≡ v.0 → e.actor.0 ≡ p → v.0 ≡ (node_in s past p).turns.low.0 + 1 → SweptTo s past p
    → SweptTo s (e ∷ past) p
swept_by s past e p v acts now at next swept = λ w one le.
    let test : (e.actor.0 == p) ≡ true = grind (arith, nat_tests) in
    let its : was_swept p v.0 (places_at e) ≡ true =
    ap (λ (acts : List Act). was_swept p v.0 (placed e.actor.0 acts)) acts ∙ sweep_here e.actor.0 p v test in
    subst (λ (xs : List Place). was_swept p w xs ≡ true) (sym (places_more e past))
    (elim (cases_lt w v.0) [
      | inl less ↦ swept_more p w (places_of (reverse past)) (places_at e) (swept w one (omega (arith, less, next)))
      | inr more ↦
          let same : v.0 ≡ w = omega (arith, more, le, now) in
          subst (λ (n : ℕ). was_swept p n (places_of (reverse past) ++ places_at e) ≡ true) same
          (swept_last p v.0 (places_of (reverse past)) (places_at e) its)
    ])

-- an entry of the node: of all that it may do a sweep alone changes its low version
does_swept : (s : ScriptData) (past : List Entry) (e : Entry) (p : ℕ) (r : Letter) → IsValid s → IsStepRun s (e ∷ past) → Does s past e p r
    → SweptTo s past p → SweptTo s (e ∷ past) p
does_swept s past e p r valid run d swept = by (core_changes s p r.from.0 r.body c) where
  c : Core
  c = (keeping_in s past p).core

  now : Node
  now = (core_row s p c r.from.0 r.body).state.node

  low_is : (turns : Turns) → now.turns ≡ turns → (node_in s (e ∷ past) p).turns.low.0 ≡ turns.low.0
  low_is turns same = ap (λ (x : Core). x.node.turns.low.0) d.core ∙ ap (λ (x : Turns). x.low.0) same

  by : Changes s p r.body c now.items now.turns → SweptTo s (e ∷ past) p
  by (Rests is same) = stays s past e p (low_is c.node.turns same) swept
  by (Follows t k v letter is same) =
      stays s past e p (low_is (raised_to v c.node.turns) same ∙ raised_low (nat_lt c.node.turns.update.0 v.0) v.0 c.node.turns) swept
  by (Raises v to is same) =
      stays s past e p (low_is (raised_to v c.node.turns) same ∙ raised_low (nat_lt c.node.turns.update.0 v.0) v.0 c.node.turns) swept
  by (Touches t k one kind is same) =
      let v : Version = asked_version c.node.turns.update r.body in
      stays s past e p (low_is (raised_to v c.node.turns) same ∙ raised_low (nat_lt c.node.turns.update.0 v.0) v.0 c.node.turns) swept
  by (Applies t v letter is same) = stays s past e p (low_is c.node.turns same) swept
  by (Shows v to is same) = stays s past e p (low_is (record c.node.turns { read = v }) same) swept
  by (Collects v to is same) =
      let acts : e.acts ≡ SweptAct v ∷ [] = d.acts ∙ sweep_acts s p r.from.0 c r.body v to in
      swept_by s past e p v acts (low_is (record c.node.turns { low = v }) same) d.brings.at
      (sweep_next s past e p r v valid run (brings_to s past e p r d.brings) to) swept

keeps_swept : (s : ScriptData) (past : List Entry) (e : Entry) (p : ℕ) (r : Letter) (k : CoreKeeping) → Keeps s past e p r k
    → SweptTo s past p → SweptTo s (e ∷ past) p
keeps_swept s past e p r k d swept =
    let c : Core = (keeping_in s past p).core in
    let low = of_kept s c (λ (x : CoreKeeping). x.state.node.turns.low.0 ≡ c.node.turns.low.0) r.body k (record {
      parks = λ t j raises w met. raised_low raises w.0 c.node.turns;
      waits = λ t. refl;
    }) d.keeps in
    stays s past e p (ap (λ (x : Core). x.node.turns.low.0) d.core ∙ low) swept

swept_at : (s : ScriptData) (past : List Entry) (e : Entry) (p : ℕ) → IsValid s → IsStepRun s (e ∷ past) → p < s.nodes → e.actor.0 ≡ p
    → Case s past e → SweptTo s past p → SweptTo s (e ∷ past) p
swept_at s past e p valid run lt at (NodeDoes q r d) swept =
    does_swept s past e p r valid run (subst (λ (n : ℕ). Does s past e n r) (sym d.brings.at ∙ at) d) swept
swept_at s past e p valid run lt at (NodeKeeps q r k d) swept =
    keeps_swept s past e p r k (subst (λ (n : ℕ). Keeps s past e n r k) (sym d.brings.at ∙ at) d) swept
swept_at s past e p valid run lt at (Coordinates out made) swept = absurd (omega (arith, at, lt, out))
swept_at s past e p valid run lt at (Submits out says) swept = absurd (omega (arith, at, lt, out))

-- in every run
pub swept_run : (s : ScriptData) (past : List Entry) (p : ℕ) → IsValid s → IsStepRun s past → p < s.nodes → SweptTo s past p
swept_run s [] p valid run lt = λ v one le. absurd (omega (arith, one, le))
swept_run s (e ∷ past) p valid run lt = by (swept_run s past p valid run.1 lt) (cases_eq e.actor.0 p) where
  by : SweptTo s past p → (e.actor.0 ≡ p) ⊎ (e.actor.0 ≢ p) → SweptTo s (e ∷ past) p
  by swept (inl at) = swept_at s past e p valid run lt at (case s past e run.0 (all_apt s (e ∷ past) valid run).0) swept
  by swept (inr ne) = elsewhere s past e p ne swept
