-- In every run the root of a strict transaction waits at most once for each version that was shown at its home, and
-- once more while it is deferred: a Show wakes it, and raises the version that is read.
use Rattle.std.proofs.Common.{◌≡◌, ◌≢◌, ◌⊎◌, inl, inr, ℕ, ◌+◌, ◌<◌, ◌≤◌, ◌==◌, ◌&&◌, Bool, true, false, List, ◌∷◌, length, refl, sym, ap, subst, ◌∙◌, arith, []}
use Rattle.std.proofs.lemmas.Bool.{cases_eq}
use Rattle.std.proofs.lemmas.Bool.Decides.{nat_tests}
use Rattle.script_parts.proofs.SubsOf.{home_below}
use Rattle.letter_types.specs.Kept.{is_called, kept_without}
use Rattle.letter_types.specs.declared.bodies.Body.{Body}
use Rattle.letter_types.specs.declared.entries.Entry.{Entry}
use Rattle.letter_types.specs.declared.entries.Letter.{Letter}
use Rattle.letter_types.specs.declared.kept.KeptLetter.{KeptLetter}
use Rattle.letter_types.specs.declared.kept.KeepReason.{KeepReason}
use Rattle.letter_types.specs.declared.kept.KeepReason.TheVariants.{Called, ForHolder, ForShow}
use Rattle.tx_trees.specs.ScriptData.{ScriptData, home_of, node_of}
use Rattle.tx_trees.specs.Valid.{IsValid}
use Rattle.world_model.specs.Counts.{one_if, tally}
use Rattle.world_model.specs.Keeping.{KeepingNode, woken_by}
use Rattle.world_model.specs.Kept.{kept_in}
use Rattle.world_model.specs.Runs.{IsStepRun, keeping_in, node_in}
use Rattle.world_model.specs.Strict.{CoreKeeping}
use Rattle.world_model.proofs.Bags.{tally-append}
use Rattle.world_model.proofs.Cases.{Case, Coordinates, Does, Keeps, NodeDoes, NodeKeeps, Submits, case}
use Rattle.world_model.proofs.KeptThere.{kept_in_past}
use Rattle.world_model.proofs.Outstanding.{keeping_elsewhere}
use Rattle.world_model.proofs.Scripts.{SubAt, sub_here}
use Rattle.tree_laws.specs.Keeping.{IsKeptFor}
use Rattle.tree_laws.proofs.kept.Reasons.{kept_for_a_reason}
use Rattle.tree_laws.proofs.stages.AptStagesOwn.{sub_of_node}
use Rattle.tree_laws.proofs.apt.AptTurns.{turns_come_once}
use Rattle.run_laws.specs.Parks.{StrictRootsWaitFewTimes, is_kept_for_show, shown_as, waitings, waits_for}
use Rattle.run_laws.proofs.each_tree.EveryApt.{all_apt}
use Rattle.run_laws.proofs.keeping.KeepingActs.{client_none, coordinator_none, does_none, keeps_waits, waits_of}
use Rattle.run_laws.proofs.keeping.KeptWhy.{AreWaiting, IsWaiting, Reason, keeps_rises, waiting}
use Rattle.run_laws.proofs.keeping.ParksOnce.{asks_sum, keeps_asked, kept_asks, meanwhile_same, woken_same}
use Rattle.run_laws.proofs.keeping.Woken.{does_rises, does_shows}
use Rattle.world_model.specs.Core.{Core}

-- Letters that are kept for a Show.
shown_uncalled : (t u : ℕ) (w : KeepReason) → is_called w ≡ true → shown_as t u w ≡ 0
shown_uncalled t u Called is = refl
shown_uncalled t u ForShow is = absurd (cc is)
shown_uncalled t u (ForHolder g) is = absurd (cc is)

-- no other letter than a Show wakes them
shown_unwoken : (t u : ℕ) (w : KeepReason) (c : Core) (b : Body) → woken_by c b ForShow ≡ false → woken_by c b w ≡ true → shown_as t u w ≡ 0
shown_unwoken t u ForShow c b other is = absurd (cc (other, is))
shown_unwoken t u Called c b other is = refl
shown_unwoken t u (ForHolder g) c b other is = refl

-- of one tree at most one is kept so
shown_root : (t u j : ℕ) (w : KeepReason) → (w ≡ ForShow → j ≡ 0) → shown_as t u w ≤ one_if ((u == t) && (j == 0))
shown_root t u j Called root = omega arith
shown_root t u j (ForHolder g) root = omega arith
shown_root t u j ForShow root = let zero : j ≡ 0 = root refl in one u t j zero where
  one : (u t j : ℕ) → j ≡ 0 → one_if (u == t) ≤ one_if ((u == t) && (j == 0))
  one u t j zero = grind (arith, nat_tests)

pub waiting_root : (s : ScriptData) (past : List Entry) (p : ℕ) (x : KeptLetter) → IsWaiting s past p x → x.why ≡ ForShow → x.sub.0 ≡ 0
waiting_root s past p x at is =
    let why : Reason s past p x.tree ForShow = subst (λ (w : KeepReason). Reason s past p x.tree w) is at.why in at.root why.0

shown_sum : (s : ScriptData) (past : List Entry) (p t : ℕ) (xs : List KeptLetter) → AreWaiting s past p xs
    → tally (is_kept_for_show t) xs ≤ tally (λ (x : KeptLetter). one_if ((x.tree.0 == t) && (x.sub.0 == 0))) xs
shown_sum s past p t [] all = omega arith
shown_sum s past p t (x ∷ xs) all =
    omega (arith, shown_root t x.tree.0 x.sub.0 x.why (waiting_root s past p x all.0), shown_sum s past p t xs all.1)

pub shown_once : (s : ScriptData) (past : List Entry) (t : ℕ) → IsValid s → IsStepRun s past → t < length s.trees
    → tally (is_kept_for_show t) (kept_in s past (home_of s t)) ≤ 1
shown_once s past t valid run lt =
    let p : ℕ = home_of s t in
    let below : p < s.nodes = home_below s t valid lt in
    let sub : SubAt s t 0 = sub_of_node s (home_of s t) t 0 refl below in
    omega (
      arith,
      shown_sum s past p t (kept_in s past p) (waiting s past p valid run below),
      asks_sum t 0 p (kept_in s past p) (kept_in_past s past p),
      kept_asks s past p t 0 below,
      turns_come_once s past t 0 sub.sub valid (all_apt s past valid run) run (sub_here s t 0 sub),
    )

-- The number of waits.
abbrev WaitedHere : ScriptData → List Entry → ℕ → ℕ → Type 0
WaitedHere s past p t = waitings past t ≤ (node_in s past p).turns.read.0 + tally (is_kept_for_show t) (kept_in s past p)

does_waited : (s : ScriptData) (past : List Entry) (e : Entry) (t : ℕ) (r : Letter) → IsValid s → IsStepRun s (e ∷ past)
    → t < length s.trees → Does s past e (home_of s t) r → WaitedHere s past (home_of s t) t → WaitedHere s (e ∷ past) (home_of s t) t
does_waited s past e t r valid run lt d ih = by (woken_by c r.body ForShow) refl where
  c : Core
  c = (keeping_in s past (home_of s t)).core

  acts : tally (waits_for t) e.acts ≡ 0
  acts = does_none (waits_for t) s past e (home_of s t) r (waits_of t) d

  rest : tally (is_kept_for_show t) (kept_without (kept_in s past (home_of s t)) e.took.body) ≡ tally (is_kept_for_show t) (kept_in s past (home_of s t))
  rest = meanwhile_same (is_kept_for_show t) (kept_in s past (home_of s t)) e.took.body (λ x is. shown_uncalled t x.tree.0 x.why is)

  by : (test : Bool) → woken_by c r.body ForShow ≡ test → WaitedHere s (e ∷ past) (home_of s t) t
  by false other =
      let up = does_rises s past e (home_of s t) r d other in
      let woken = woken_same (is_kept_for_show t) (woken_by c r.body) (kept_without (kept_in s past (home_of s t)) e.took.body)
      (λ x is. shown_uncalled t x.tree.0 x.why is) (λ x is. shown_unwoken t x.tree.0 x.why c r.body other is) in
      omega (arith, ih, acts, rest, woken, ap (λ (xs : List KeptLetter). tally (is_kept_for_show t) xs) d.kept, up.read)
  by true show =
      omega (arith, ih, acts, shown_once s past t valid run.1 lt, does_shows s past e (home_of s t) r valid run d show)

keeps_waited : (s : ScriptData) (past : List Entry) (e : Entry) (p t : ℕ) (r : Letter) (o : CoreKeeping) → IsValid s → IsStepRun s (e ∷ past)
    → Keeps s past e p r o → WaitedHere s past p t → WaitedHere s (e ∷ past) p t
keeps_waited s past e p t r o valid run d ih =
    let others = kept_without (kept_in s past p) e.took.body in
    let x : KeptLetter = record { letter = r; tree = o.tree; sub = o.sub; why = o.why } in
    omega (
      arith,
      ih,
      keeps_waits s past e p r o t d,
      meanwhile_same (is_kept_for_show t) (kept_in s past p) e.took.body (λ y is. shown_uncalled t y.tree.0 y.why is),
      ap (λ (xs : List KeptLetter). tally (is_kept_for_show t) xs) d.kept,
      tally-append (is_kept_for_show t) others (x ∷ []),
      (keeps_rises s past e p r o d).read,
    )

-- another node lets no root of this tree wait
shown_some : (t u : ℕ) (w : KeepReason) → (w ≡ ForShow → u ≡ t → ⊥) → shown_as t u w ≡ 0
shown_some t u Called other = refl
shown_some t u (ForHolder g) other = refl
shown_some t u ForShow other = none u t (other refl) where
  none : (u t : ℕ) → (u ≡ t → ⊥) → one_if (u == t) ≡ 0
  none u t ne = grind (arith, nat_tests)

kept_root : (s : ScriptData) (past : List Entry) (p : ℕ) (r : Letter) (e : Entry) (o : CoreKeeping) → Keeps s past e p r o → o.why ≡ ForShow
    → o.sub.0 ≡ 0
kept_root s past p r e o d is =
    let kept : IsKeptFor s (keeping_in s past p).core o.tree o.sub ForShow =
    subst (λ (w : KeepReason). IsKeptFor s (keeping_in s past p).core o.tree o.sub w) is (kept_for_a_reason s (keeping_in s past p).core r.body o d.keeps) in
    kept.1

waits_elsewhere : (s : ScriptData) (past : List Entry) (e : Entry) (t : ℕ) → IsValid s → IsStepRun s (e ∷ past) → e.actor.0 ≢ home_of s t
    → Case s past e → tally (waits_for t) e.acts ≡ 0
waits_elsewhere s past e t valid run ne (NodeDoes q r d) = does_none (waits_for t) s past e q r (waits_of t) d
waits_elsewhere s past e t valid run ne (NodeKeeps q r o d) =
    let a = keeps_asked s past e q r o valid run d in
    keeps_waits s past e q r o t d
    ∙ shown_some t o.tree.0 o.why (λ why tree.
    ne (d.brings.at ∙ a.node ∙ ap (λ (u : ℕ). node_of s u o.sub.0) tree ∙ ap (λ (j : ℕ). node_of s t j) (kept_root s past q r e o d why)))
waits_elsewhere s past e t valid run ne (Coordinates at made) = coordinator_none (waits_for t) s e made
waits_elsewhere s past e t valid run ne (Submits at says) = client_none (waits_for t) s past e (waits_of t) says

other_waited : (s : ScriptData) (past : List Entry) (e : Entry) (p t : ℕ) → e.actor.0 ≢ p → tally (waits_for t) e.acts ≡ 0
    → WaitedHere s past p t → WaitedHere s (e ∷ past) p t
other_waited s past e p t ne none ih =
    omega (
      arith,
      ih,
      none,
      ap (λ (n : KeepingNode). tally (is_kept_for_show t) n.kept) (keeping_elsewhere s past e p ne),
      ap (λ (n : KeepingNode). n.core.node.turns.read.0) (keeping_elsewhere s past e p ne),
    )

node_waited : (s : ScriptData) (past : List Entry) (e : Entry) (t : ℕ) → IsValid s → IsStepRun s (e ∷ past) → t < length s.trees
    → e.actor.0 ≡ home_of s t → WaitedHere s past (home_of s t) t → Case s past e → WaitedHere s (e ∷ past) (home_of s t) t
node_waited s past e t valid run lt at ih (NodeDoes q r d) =
    let same : q ≡ home_of s t = sym d.brings.at ∙ at in
    does_waited s past e t r valid run lt (subst (λ (n : ℕ). Does s past e n r) same d) ih
node_waited s past e t valid run lt at ih (NodeKeeps q r o d) =
    let same : q ≡ home_of s t = sym d.brings.at ∙ at in
    keeps_waited s past e (home_of s t) t r o valid run (subst (λ (n : ℕ). Keeps s past e n r o) same d) ih
node_waited s past e t valid run lt at ih (Coordinates there says) = absurd (omega (arith, at, there, home_below s t valid lt))
node_waited s past e t valid run lt at ih (Submits there says) = absurd (omega (arith, at, there, home_below s t valid lt))

waited_by : (s : ScriptData) (past : List Entry) (e : Entry) (t : ℕ) → IsValid s → IsStepRun s (e ∷ past) → t < length s.trees
    → WaitedHere s past (home_of s t) t → (e.actor.0 ≡ home_of s t) ⊎ (e.actor.0 ≢ home_of s t) → WaitedHere s (e ∷ past) (home_of s t) t
waited_by s past e t valid run lt ih (inl at) =
    node_waited s past e t valid run lt at ih (case s past e run.0 (all_apt s (e ∷ past) valid run).0)
waited_by s past e t valid run lt ih (inr ne) =
    other_waited s past e (home_of s t) t ne
    (waits_elsewhere s past e t valid run ne (case s past e run.0 (all_apt s (e ∷ past) valid run).0)) ih

-- in every run
pub strict_roots_wait_few_times : StrictRootsWaitFewTimes
strict_roots_wait_few_times s [] t valid run lt = omega arith
strict_roots_wait_few_times s (e ∷ past) t valid run lt =
    waited_by s past e t valid run lt (strict_roots_wait_few_times s past t valid run.1 lt) (cases_eq e.actor.0 (home_of s t))
