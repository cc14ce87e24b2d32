-- What an entry of a run of enabled messages is to a transaction, by cases.
use Rattle.std.proofs.Common.{◌≡◌, ◌≢◌, ◌⊎◌, inl, inr, ℕ, ◌+◌, ◌<◌, ◌==◌, not, List, ◌∷◌, length, refl, sym, ap, subst, ◌∙◌, arith, Some}
use Rattle.std.specs.Prelude.{nat_lt}
use Rattle.std.proofs.lemmas.Bool.{cases_eq}
use Rattle.std.proofs.lemmas.Bool.Decides.{nat_tests}
use Rattle.tv_base.specs.declared.numbers.SubNo.{SubNo}
use Rattle.tv_base.specs.declared.numbers.TreeNo.{TreeNo}
use Rattle.tv_base.specs.declared.numbers.Version.{Version}
use Rattle.tx_trees.proofs.SubsOf.{home_below}
use Rattle.letter_types.specs.declared.bodies.Body.{Body}
use Rattle.letter_types.specs.declared.bodies.Body.TheVariants.{Root, Sub as SubLetter, Done, Go, Decided}
use Rattle.letter_types.specs.declared.bodies.Notice.{Notice}
use Rattle.letter_types.specs.declared.entries.Entry.{Entry}
use Rattle.letter_types.specs.declared.entries.Letter.{Letter}
use Rattle.letter_types.specs.declared.entries.Outgoing.{Outgoing}
use Rattle.tree_home.specs.HeldAnswers.{HeldAnswers, held_in}
use Rattle.tree_home.specs.declared.homes.Held.{Held}
use Rattle.tx_trees.specs.ScriptData.{ScriptData, client_of, home_of}
use Rattle.tx_trees.specs.Valid.{IsValid}
use Rattle.world_model.proofs.Coordination.{IsCoordinated}
use Rattle.world_model.specs.AllApt.{AllApt}
use Rattle.world_model.specs.Counts.{one_if, tally}
use Rattle.world_model.specs.Runs.{IsStepRun, Says, client_in, keeping_in}
use Rattle.world_model.specs.Strict.{CoreKeeping}
use Rattle.world_model.specs.Tables.{client_table}
use Rattle.world_model.proofs.Cases.{Case, Coordinates, Keeps, NodeDoes, NodeKeeps, Submits, case}
use Rattle.world_model.proofs.Scripts.{tree_below}
use Rattle.world_model.proofs.Sends.{on}
use Rattle.tree_laws.specs.Stages.{StageAt, Answered, Gathers, Holds, Unborn, held_at}
use Rattle.tree_laws.proofs.stages.AptStages.{Leaves}
use Rattle.tree_laws.proofs.stages.AptStagesApart.{apart_leaves, client_none, coordinator_none, none_misplaced}
use Rattle.tree_laws.proofs.stages.AptStagesOwn.{Doing, ack_home, sub_of_node}
use Rattle.tree_laws.proofs.stages.AptStagesRows.{IsApart}
use Rattle.tree_laws.proofs.stages.AptStagesSteps.{Uncounted, does_leaves, keeps_leaves}
use Rattle.tree_laws.proofs.apt.AptSteps.{does_near, enters, none_strays, strays}
use Rattle.tree_laws.proofs.homes.Sent.{other_tree}

-- A letter of no tree, of another tree than w, or one that tells a node what was decided.
abbrev pub IsOther : ℕ → HeldAnswers → Body → Type 0
IsOther w holds (Root t) = t.0 ≢ w
IsOther w holds (SubLetter t k v) = t.0 ≢ w
IsOther w holds (Done t k v notice) = t.0 ≢ w
IsOther w holds (Decided t v) = (t.0 ≢ w) × ((h : Held) → held_in t holds ≡ Some h → h.answered.tree.0 ≡ t.0)
IsOther w holds Go = Unit {0}
IsOther w holds _ = Unit {0}

other_apart : (w : ℕ) (holds : HeldAnswers) (b : Body) → IsOther w holds b → IsApart w holds b
other_apart w holds (Root t) it = it
other_apart w holds (SubLetter t k v) it = tt
other_apart w holds (Done t k v notice) it = it
other_apart w holds (Decided t v) it = it
other_apart w holds Go it = tt
other_apart w holds _ it = tt

other_uncounted : (w : ℕ) (holds : HeldAnswers) (b : Body) → IsOther w holds b → Uncounted w b
other_uncounted w holds (Root t) it = record { asks = λ k. other_tree w t.0 k 0 it; tells = λ k. refl; told = λ k. refl }
other_uncounted w holds (SubLetter t j v) it =
    record { asks = λ k. other_tree w t.0 k j.0 it; tells = λ k. refl; told = λ k. other_tree w t.0 k j.0 it }
other_uncounted w holds (Done t j v notice) it = record { asks = λ k. refl; tells = λ k. other_tree w t.0 k j.0 it; told = λ k. refl }
other_uncounted w holds (Decided t v) it = record { asks = λ k. refl; tells = λ k. refl; told = λ k. refl }
other_uncounted w holds Go it = record { asks = λ k. refl; tells = λ k. refl; told = λ k. refl }
other_uncounted w holds _ it = record { asks = λ k. refl; tells = λ k. refl; told = λ k. refl }

-- what is held of a tree is its answer
held_names : (s : ScriptData) (past : List Entry) (t : ℕ) (h : Held) → StageAt s past t → held_at s past t ≡ Some h → h.answered.tree.0 ≡ t
held_names s past t h (Unborn u) at = absurd (let none = u.held in cc (none, at))
held_names s past t h (Gathers o g) at = absurd (let none = g.held in cc (none, at))
held_names s past t h (Holds x g) at =
    let there = g.held in
    let same : x ≡ h = cc (there, at) in
    subst (λ (y : Held). y.answered.tree.0 ≡ t) same g.names
held_names s past t h (Answered g) at = absurd (let none = g.held in cc (none, at))

-- All trees are at their stages.
abbrev pub AllStaged : ScriptData → List Entry → Type 0
AllStaged s past = (t : ℕ) → t < length s.trees → StageAt s past t

pub decided_names : (s : ScriptData) (past : List Entry) (e : Entry) (p : ℕ) (t : TreeNo) (v : Version) (r : Letter) → Doing s past e p r
    → r.body ≡ Decided t v → AllStaged s past → (h : Held) → held_in t (keeping_in s past p).core.holds ≡ Some h → h.answered.tree.0 ≡ t.0
decided_names s past e p t v r g is all h at =
    let here : p ≡ home_of s t.0 = ack_home s past e p t v r g is in
    held_names s past t.0 h (all t.0 (tree_below s t.0 0 (sub_of_node s p t.0 0 (sym here) g.does.brings.below)))
    (ap (λ (q : ℕ). (keeping_in s past q).core.holds t.0) (sym here) ∙ at)

later_sub : (k n : ℕ) → n + one_if (k == 0) ≡ 0 → 0 < k
later_sub k n none = let zero : one_if (k == 0) ≡ 0 = omega (arith, none) in grind (arith, nat_tests)

-- a node does a letter that isn't tree w's, or keeps a letter; another actor goes on; or a node does a letter of tree w
pub data OfTree (s : ScriptData) (past : List Entry) (e : Entry) (w : ℕ) : Type 0 where
  Other : (p : ℕ) (r : Letter) → Doing s past e p r → IsOther w (keeping_in s past p).core.holds r.body → OfTree s past e w
  Kept : (p : ℕ) (r : Letter) (k : CoreKeeping) → Keeps s past e p r k → OfTree s past e w
  ByCoordinator : e.actor.0 ≡ s.nodes → IsCoordinated s e → OfTree s past e w
  ByClient : e.actor.0 ≡ client_of s → Says (client_table s (client_in s past) e.took) e → OfTree s past e w
  OwnRoot : (p : ℕ) (t : TreeNo) (r : Letter) → Doing s past e p r → r.body ≡ Root t → t.0 ≡ w → OfTree s past e w
  OwnSub : (p : ℕ) (t : TreeNo) (k : SubNo) (v : Version) (r : Letter) → Doing s past e p r → r.body ≡ SubLetter t k v → 0 < k.0 → t.0 ≡ w
      → OfTree s past e w
  OwnNote : (p : ℕ) (t : TreeNo) (k : SubNo) (v : Version) (notice : Notice) (r : Letter) → Doing s past e p r → r.body ≡ Done t k v notice → t.0 ≡ w
      → OfTree s past e w
  OwnAck : (p : ℕ) (t : TreeNo) (v : Version) (r : Letter) → Doing s past e p r → r.body ≡ Decided t v → t.0 ≡ w → OfTree s past e w

other_by : (s : ScriptData) (past : List Entry) (e : Entry) (p w : ℕ) (r : Letter) (b : Body) → Doing s past e p r → r.body ≡ b
    → IsOther w (keeping_in s past p).core.holds b → OfTree s past e w
other_by s past e p w r b g is it = Other p r g (subst (λ (x : Body). IsOther w (keeping_in s past p).core.holds x) (sym is) it)

root_of : (s : ScriptData) (past : List Entry) (e : Entry) (p w : ℕ) (t : TreeNo) (r : Letter) → Doing s past e p r → r.body ≡ Root t
    → (t.0 ≡ w) ⊎ (t.0 ≢ w) → OfTree s past e w
root_of s past e p w t r g is (inl same) = OwnRoot p t r g is same
root_of s past e p w t r g is (inr ne) = other_by s past e p w r (Root t) g is ne

sub_of : (s : ScriptData) (past : List Entry) (e : Entry) (p w : ℕ) (t : TreeNo) (k : SubNo) (v : Version) (r : Letter) → Doing s past e p r
    → r.body ≡ SubLetter t k v → (t.0 ≡ w) ⊎ (t.0 ≢ w) → OfTree s past e w
sub_of s past e p w t k v r g is (inl same) =
    let near = does_near s past e p r g.run.0 (none_strays s past g.valid g.apt.1 g.run.1) g.does in
    OwnSub p t k v r g is (later_sub k.0 (one_if (not (nat_lt r.to.0 s.nodes))) (ap (strays s r.to.0) (sym is) ∙ near)) same
sub_of s past e p w t k v r g is (inr ne) = other_by s past e p w r (SubLetter t k v) g is ne

note_of : (s : ScriptData) (past : List Entry) (e : Entry) (p w : ℕ) (t : TreeNo) (k : SubNo) (v : Version) (notice : Notice) (r : Letter)
    → Doing s past e p r → r.body ≡ Done t k v notice → (t.0 ≡ w) ⊎ (t.0 ≢ w) → OfTree s past e w
note_of s past e p w t k v notice r g is (inl same) = OwnNote p t k v notice r g is same
note_of s past e p w t k v notice r g is (inr ne) = other_by s past e p w r (Done t k v notice) g is ne

ack_of : (s : ScriptData) (past : List Entry) (e : Entry) (p w : ℕ) (t : TreeNo) (v : Version) (r : Letter) → Doing s past e p r
    → r.body ≡ Decided t v → AllStaged s past → (t.0 ≡ w) ⊎ (t.0 ≢ w) → OfTree s past e w
ack_of s past e p w t v r g is all (inl same) = OwnAck p t v r g is same
ack_of s past e p w t v r g is all (inr ne) = other_by s past e p w r (Decided t v) g is (ne, decided_names s past e p t v r g is all)

does_of : (s : ScriptData) (past : List Entry) (e : Entry) (p w : ℕ) (r : Letter) (b : Body) → Doing s past e p r → r.body ≡ b → AllStaged s past
    → OfTree s past e w
does_of s past e p w r (Root t) g is all = root_of s past e p w t r g is (cases_eq t.0 w)
does_of s past e p w r (SubLetter t k v) g is all = sub_of s past e p w t k v r g is (cases_eq t.0 w)
does_of s past e p w r (Done t k v notice) g is all = note_of s past e p w t k v notice r g is (cases_eq t.0 w)
does_of s past e p w r (Decided t v) g is all = ack_of s past e p w t v r g is all (cases_eq t.0 w)
does_of s past e p w r Go g is all = other_by s past e p w r Go g is tt
does_of s past e p w r _ g is all = other_by s past e p w r _ g is tt

of_case : (s : ScriptData) (past : List Entry) (e : Entry) (w : ℕ) → IsValid s → AllApt s (e ∷ past) → IsStepRun s (e ∷ past) → AllStaged s past
    → Case s past e → OfTree s past e w
of_case s past e w valid apt run all (NodeDoes p r d) =
    does_of s past e p w r r.body (record { valid = valid; apt = apt; run = run; enters = enters s past e valid apt run; does = d }) refl all
of_case s past e w valid apt run all (NodeKeeps p r k d) = Kept p r k d
of_case s past e w valid apt run all (Coordinates at made) = ByCoordinator at made
of_case s past e w valid apt run all (Submits at says) = ByClient at says

pub of_tree : (s : ScriptData) (past : List Entry) (e : Entry) (w : ℕ) → IsValid s → AllApt s (e ∷ past) → IsStepRun s (e ∷ past) → AllStaged s past
    → OfTree s past e w
of_tree s past e w valid apt run all = of_case s past e w valid apt run all (case s past e run.0 apt.0)

-- The first four leave the tree.
pub other_leaves : (s : ScriptData) (past : List Entry) (e : Entry) (p w : ℕ) (r : Letter) → Doing s past e p r
    → IsOther w (keeping_in s past p).core.holds r.body → Leaves s past e w
other_leaves s past e p w r g it =
    let holds : HeldAnswers = (keeping_in s past p).core.holds in
    does_leaves s past e p w r g.run.0 g.enters g.does (other_apart w holds r.body it) (other_uncounted w holds r.body it)

pub kept_leaves : (s : ScriptData) (past : List Entry) (e : Entry) (p w : ℕ) (r : Letter) (k : CoreKeeping) → IsValid s → AllApt s (e ∷ past)
    → IsStepRun s (e ∷ past) → Keeps s past e p r k → Leaves s past e w
kept_leaves s past e p w r k valid apt run d = keeps_leaves s past e p w r k run.0 (enters s past e valid apt run) d

pub coordinator_leaves : (s : ScriptData) (past : List Entry) (e : Entry) (w : ℕ) → IsValid s → AllApt s (e ∷ past) → IsStepRun s (e ∷ past)
    → w < length s.trees → e.actor.0 ≡ s.nodes → IsCoordinated s e → Leaves s past e w
coordinator_leaves s past e w valid apt run lt at made =
    apart_leaves s past e w run.0 (enters s past e valid apt run) (none_strays s past valid apt.1 run.1) (none_misplaced s past valid apt.1 run.1)
    (home_below s w valid lt) (omega (arith, at))
    (λ f none. coordinator_none f s e made none)

pub client_leaves : (s : ScriptData) (past : List Entry) (e : Entry) (w : ℕ) → IsValid s → AllApt s (e ∷ past) → IsStepRun s (e ∷ past)
    → w < length s.trees → e.actor.0 ≡ client_of s → Says (client_table s (client_in s past) e.took) e → Leaves s past e w
client_leaves s past e w valid apt run lt at says =
    apart_leaves s past e w run.0 (enters s past e valid apt run) (none_strays s past valid apt.1 run.1) (none_misplaced s past valid apt.1 run.1)
    (home_below s w valid lt) (omega (arith, at))
    (λ f none. ap (λ (os : List Outgoing). tally (on f) os) says.0 ∙ client_none f s (client_in s past) e.took.body none)
