-- If no message is in flight each transaction is unborn or answered, and only roots of strict transactions are
-- deferred, which wait for a Show.
use Rattle.std.proofs.Common.{◌≡◌, ◌⊎◌, inl, inr, ℕ, zero, suc, ◌+◌, ◌<◌, ◌≤◌, ◌==◌, ◌&&◌, Bool, true, false, List, [], ◌∷◌, length, map, refl, sym, ap, ◌∙◌, arith}
use Rattle.std.specs.Prelude.{slice_get}
use Rattle.std.proofs.lemmas.Bool.Decides.{nat_tests}
use Rattle.tv_base.specs.declared.numbers.SubNo.{SubNo}
use Rattle.tv_base.specs.declared.numbers.TreeNo.{TreeNo}
use Rattle.letter_types.specs.Kept.{is_called_for}
use Rattle.letter_types.specs.declared.bodies.Body.{Body}
use Rattle.letter_types.specs.declared.bodies.Body.TheVariants.{Root, Sub as SubLetter}
use Rattle.letter_types.specs.declared.entries.Entry.{Entry}
use Rattle.letter_types.specs.declared.entries.Letter.{Letter}
use Rattle.letter_types.specs.declared.kept.KeptLetter.{KeptLetter}
use Rattle.letter_types.specs.declared.kept.KeepReason.{KeepReason}
use Rattle.letter_types.specs.declared.kept.KeepReason.TheVariants.{Called, ForHolder, ForShow}
use Rattle.tx_trees.specs.ScriptData.{ScriptData, subs_at}
use Rattle.tx_trees.specs.Valid.{IsValid}
use Rattle.world_model.specs.AllApt.{AllApt}
use Rattle.world_model.specs.Calls.{calls}
use Rattle.world_model.specs.Counts.{Each, one_if, tally}
use Rattle.world_model.specs.Keeping.{AreKeptAt, AsksFor}
use Rattle.world_model.specs.Kept.{kept_by, kept_in}
use Rattle.world_model.specs.Named.{is_strict_at}
use Rattle.world_model.specs.Runs.{IsStepRun, in_flight, keeping_in, node_in}
use Rattle.world_model.proofs.Bags.{tally-append}
use Rattle.world_model.proofs.Every.{each_map}
use Rattle.world_model.proofs.KeptThere.{kept_in_past}
use Rattle.world_model.proofs.Scripts.{SubAt, sub_below, sub_here, sub_there, tree_below}
use Rattle.tree_laws.specs.Keeping.{Holds}
use Rattle.tree_laws.specs.Waking.{is_wake_at}
use Rattle.world_model.proofs.MeantRows.{strict_below}
use Rattle.tree_laws.proofs.kept.Waking.{wakes_find_letters}
use Rattle.tree_laws.specs.Dids.{answers, asks, letters_asking, tells_done}
use Rattle.tree_laws.specs.Stages.{StageAt, Answered, Gathers, Holds as HoldsAnswer, Unborn, decides, is_noted}
use Rattle.tree_laws.specs.Turns.{turns}
use Rattle.tree_laws.proofs.decided.AptDecided.{applied_when_answered}
use Rattle.tree_laws.proofs.stages.AptStagesRun.{stages_of_trees}
use Rattle.tree_laws.proofs.apt.AptTurns.{parent_before, sub_has_turns}
use Rattle.tree_laws.proofs.loads.Counts.{zero_or}
use Rattle.tree_laws.proofs.homes.Finishes.{none_left, place_missing}
use Rattle.run_laws.specs.Waiting.{IsHolder}
use Rattle.run_laws.proofs.each_tree.EveryApt.{all_apt}
use Rattle.run_laws.proofs.strict.Holders.{holders}
use Rattle.run_laws.proofs.keeping.KeptWhy.{AreWaiting, IsWaiting, Reason, counts_called, waiting}

-- tree t isn't born, or it is answered
abbrev pub IsSettled : List Entry → ℕ → Type 0
IsSettled past t = (turns past t 0 ≡ 0) ⊎ (1 ≤ answers past t)

-- What is kept asks for a root, where only roots are.
abbrev IsRootIn : ℕ → KeptLetter → Type 0
IsRootIn t x = x.tree.0 ≡ t → x.sub.0 ≡ 0

asks_by : (t k w i : ℕ) (test : Bool) → (w == t) ≡ test → 0 < k → (w ≡ t → i ≡ 0) → one_if ((w == t) && (i == k)) ≡ 0
asks_by t k w i true is some root =
    let same : w ≡ t = grind (arith, nat_tests) in
    let first : i ≡ 0 = root same in
    grind (arith, nat_tests, first)
asks_by t k w i false is some root = rw is refl

asks_other : (t k : ℕ) (u : TreeNo) (j : SubNo) (b : Body) → 0 < k → AsksFor u j b → (u.0 ≡ t → j.0 ≡ 0) → asks t k b ≡ 0
asks_other t k u j (Root w) some is root = asks_by t k w.0 0 (w.0 == t) refl some (λ same. refl)
asks_other t k u j (SubLetter w i v) some is root =
    asks_by t k w.0 i.0 (w.0 == t) refl some (λ same.
    (ap (λ (x : SubNo). x.0) is.1 ∙ root (sym (ap (λ (x : TreeNo). x.0) is.0) ∙ same)))
asks_other t k u j _ some is root = absurd is

kept_none : (t k p : ℕ) (xs : List KeptLetter) → 0 < k → AreKeptAt p xs → Each (IsRootIn t) xs
    → tally (λ (l : Letter). asks t k l.body) (map (λ (x : KeptLetter). x.letter) xs) ≡ 0
kept_none t k p [] some all roots = refl
kept_none t k p (x ∷ xs) some all roots =
    omega (arith, asks_other t k x.tree x.sub x.letter.body some all.0.asks roots.0, kept_none t k p xs some all.1 roots.1)

kept_by_none : (s : ScriptData) (past : List Entry) (n t k : ℕ) → 0 < k → ((p : ℕ) → p < n → Each (IsRootIn t) (kept_in s past p))
    → tally (λ (l : Letter). asks t k l.body) (kept_by s past n) ≡ 0
kept_by_none s past zero t k some roots = refl
kept_by_none s past (suc n) t k some roots =
    omega (
      arith,
      tally-append (λ (l : Letter). asks t k l.body) (kept_by s past n) (map (λ (x : KeptLetter). x.letter) (kept_in s past n)),
      kept_by_none s past n t k some (λ p lt. roots p (omega (arith, lt))),
      kept_none t k n (kept_in s past n) some (kept_in_past s past n) (roots n (omega arith)),
    )

none_asking : (s : ScriptData) (past : List Entry) (t k : ℕ) → in_flight s past ≡ [] → 0 < k
    → ((p : ℕ) → p < s.nodes → Each (IsRootIn t) (kept_in s past p)) → letters_asking s past t k ≡ 0
none_asking s past t k empty some roots =
    omega (
      arith,
      tally-append (λ (l : Letter). asks t k l.body) (in_flight s past) (kept_by s past s.nodes),
      none_left (λ (l : Letter). asks t k l.body) s past empty,
      kept_by_none s past s.nodes t k some roots,
    )

-- Where no further subtransaction of a tree is asked for, all have had their turns with the root.
turned_by : (s : ScriptData) (past : List Entry) (t k : ℕ) (c : SubAt s t k) → IsValid s → AllApt s past → IsStepRun s past
    → ((j : ℕ) → 0 < j → letters_asking s past t j ≡ 0) → ((j : ℕ) → SubAt s t j → j < k → turns past t j ≡ turns past t 0)
    → (k ≡ 0) ⊎ (0 < k) → turns past t k ≡ turns past t 0
turned_by s past t k c valid apt run none earlier (inl is) = ap (turns past t) is
turned_by s past t k c valid apt run none earlier (inr some) =
    let up : c.sub.parent.0 < k = parent_before s t k c.sub valid (sub_here s t k c) some in
    let parent : SubAt s t c.sub.parent.0 = sub_there s t c.sub.parent.0 (tree_below s t k c) (omega (arith, up, sub_below s t k c)) in
    omega (arith, sub_has_turns s past t k c valid apt run some, none k some, earlier c.sub.parent.0 parent up)

turned_below : (s : ScriptData) (past : List Entry) (n t k : ℕ) (c : SubAt s t k) → IsValid s → AllApt s past → IsStepRun s past
    → ((j : ℕ) → 0 < j → letters_asking s past t j ≡ 0) → k < n → turns past t k ≡ turns past t 0
turned_below s past zero t k c valid apt run none lt = absurd (omega arith)
turned_below s past (suc n) t k c valid apt run none lt =
    turned_by s past t k c valid apt run none (λ j sub less. turned_below s past n t j sub valid apt run none (omega (arith, lt, less))) (zero_or k)

-- so the tree is unborn or answered
settled_by : (s : ScriptData) (past : List Entry) (t : ℕ) → IsValid s → AllApt s past → IsStepRun s past → in_flight s past ≡ []
    → t < length s.trees → ((j : ℕ) → 0 < j → letters_asking s past t j ≡ 0) → StageAt s past t → IsSettled past t
settled_by s past t valid apt run empty lt none (Unborn u) = inl u.root
settled_by s past t valid apt run empty lt none (Gathers h g) =
    let (k, kt, at) = place_missing h.notices g.missing in
    let below : k < length (subs_at s t) = omega (arith, kt, g.places) in
    let unnoted : is_noted (slice_get h.notices k) ≡ 0 = ap is_noted at in
    absurd (omega (
      arith,
      g.root,
      g.notes k below,
      unnoted,
      none_left (λ (l : Letter). tells_done t k l.body) s past empty,
      turned_below s past (k + 1) t k (sub_there s t k lt below) valid apt run none (omega arith),
    ))
settled_by s past t valid apt run empty lt none (HoldsAnswer h g) =
    absurd (omega (arith, g.waits, g.decisions, none_left (λ (l : Letter). decides t l.body) s past empty))
settled_by s past t valid apt run empty lt none (Answered a) = inr (omega (arith, a.answers))

settled_of : (s : ScriptData) (past : List Entry) (t : ℕ) → IsValid s → IsStepRun s past → in_flight s past ≡ [] → t < length s.trees
    → ((p : ℕ) → p < s.nodes → Each (IsRootIn t) (kept_in s past p)) → IsSettled past t
settled_of s past t valid run empty lt roots =
    let apt = all_apt s past valid run in
    settled_by s past t valid apt run empty lt (λ j some. none_asking s past t j empty some roots) (stages_of_trees s past valid apt run t lt)

-- Strict trees first, of which only roots are kept. So none holds anything.
strict_root : (s : ScriptData) (past : List Entry) (p t : ℕ) (x : KeptLetter) → is_strict_at s t ≡ true → IsWaiting s past p x → IsRootIn t x
strict_root s past p t x strict at = λ same. at.root (ap (is_strict_at s) same ∙ strict)

strict_settled : (s : ScriptData) (past : List Entry) (t : ℕ) → IsValid s → IsStepRun s past → in_flight s past ≡ [] → is_strict_at s t ≡ true
    → IsSettled past t
strict_settled s past t valid run empty strict =
    settled_of s past t valid run empty (strict_below s t strict) (λ p lt.
    each_map (IsWaiting s past p) (IsRootIn t) (kept_in s past p) (λ x at. strict_root s past p t x strict at) (waiting s past p valid run lt))

holds_not : (s : ScriptData) (past : List Entry) (p t : ℕ) → IsValid s → IsStepRun s past → p < s.nodes → IsHolder s past p t
    → IsSettled past t → ⊥
holds_not s past p t valid run lt may (inl none) = absurd (omega (arith, none, may.born))
holds_not s past p t valid run lt may (inr some) =
    absurd (omega (
      arith,
      may.unapplied,
      applied_when_answered s past t p valid (all_apt s past valid run) run (strict_below s t may.strict) may.strict some lt may.visits,
    ))

none_holds : (s : ScriptData) (past : List Entry) (p : ℕ) (t : TreeNo) → IsValid s → IsStepRun s past → in_flight s past ≡ [] → p < s.nodes
    → Holds (keeping_in s past p).core t → ⊥
none_holds s past p t valid run empty lt h =
    let may = holders s past p valid (all_apt s past valid run) run lt t h in
    holds_not s past p t.0 valid run lt may (strict_settled s past t.0 valid run empty may.strict)

-- What is kept then.
pub record IsRootWaiting (s : ScriptData) (past : List Entry) (p : ℕ) (x : KeptLetter) : Type 0 where
  pub root : x.sub.0 ≡ 0
  pub strict : is_strict_at s x.tree.0 ≡ true
  pub two : (node_in s past p).turns.update.0 ≡ (node_in s past p).turns.read.0 + 2

root_waits : (s : ScriptData) (past : List Entry) (p : ℕ) (x : KeptLetter) (w : KeepReason) → IsValid s → IsStepRun s past → in_flight s past ≡ []
    → p < s.nodes → x.why ≡ w → one_if (is_called_for x.tree x.sub x) ≡ 0 → IsWaiting s past p x → Reason s past p x.tree w
    → IsRootWaiting s past p x
root_waits s past p x ForShow valid run empty lt is none at reason = record { root = at.root reason.0; strict = reason.0; two = reason.1 }
root_waits s past p x (ForHolder h) valid run empty lt is none at reason = absurd (none_holds s past p h valid run empty lt reason.1)
root_waits s past p x Called valid run empty lt is none at reason = absurd (omega (arith, none, counts_called x.why x.tree.0 x.sub.0 is))

roots_wait : (s : ScriptData) (past : List Entry) (p : ℕ) (xs : List KeptLetter) → IsValid s → IsStepRun s past → in_flight s past ≡ []
    → p < s.nodes → ((t : TreeNo) (k : SubNo) → calls t k xs ≡ 0) → AreWaiting s past p xs → Each (IsRootWaiting s past p) xs
roots_wait s past p [] valid run empty lt none all = tt
roots_wait s past p (x ∷ xs) valid run empty lt none all = (
  root_waits s past p x x.why valid run empty lt refl (omega (arith, none x.tree x.sub)) all.0 all.0.why,
  roots_wait s past p xs valid run empty lt (λ t k. omega (arith, none t k)) all.1,
)

-- only roots of strict trees that wait for a Show
pub only_roots_wait : (s : ScriptData) (past : List Entry) (p : ℕ) → IsValid s → IsStepRun s past → in_flight s past ≡ [] → p < s.nodes
    → Each (IsRootWaiting s past p) (kept_in s past p)
only_roots_wait s past p valid run empty lt =
    roots_wait s past p (kept_in s past p) valid run empty lt (λ t k.
    (sym (wakes_find_letters s past p t k valid (all_apt s past valid run) run lt) ∙ none_left (is_wake_at t k p) s past empty))
    (waiting s past p valid run lt)

-- So each tree is unborn or answered.
pub settled : (s : ScriptData) (past : List Entry) (t : ℕ) → IsValid s → IsStepRun s past → in_flight s past ≡ [] → t < length s.trees
    → IsSettled past t
settled s past t valid run empty lt =
    settled_of s past t valid run empty lt (λ p less.
    each_map (IsRootWaiting s past p) (IsRootIn t) (kept_in s past p) (λ x at same. at.root) (only_roots_wait s past p valid run empty less))

-- Where each node updates the version after the one that it reads, nothing is kept.
none_waits : (s : ScriptData) (past : List Entry) (p : ℕ) (xs : List KeptLetter)
    → (node_in s past p).turns.update.0 ≡ (node_in s past p).turns.read.0 + 1 → Each (IsRootWaiting s past p) xs → xs ≡ []
none_waits s past p [] one all = refl
none_waits s past p (x ∷ xs) one all = absurd (omega (arith, one, all.0.two))

pub nothing_waits : (s : ScriptData) (past : List Entry) (p : ℕ) → IsValid s → IsStepRun s past → in_flight s past ≡ [] → p < s.nodes
    → (node_in s past p).turns.update.0 ≡ (node_in s past p).turns.read.0 + 1 → kept_in s past p ≡ []
nothing_waits s past p valid run empty lt one = none_waits s past p (kept_in s past p) one (only_roots_wait s past p valid run empty lt)
