-- In every run each message that a node defers has its reason still: the root of a strict transaction waits for a Show,
-- and a subtransaction of an update transaction for a holder that its node has.
use Rattle.std.proofs.Common.{◌≡◌, ◌≢◌, ◌⊎◌, inl, inr, ℕ, ◌+◌, ◌<◌, ◌≤◌, ◌==◌, ◌&&◌, Bool, true, false, List, ◌∷◌, refl, sym, ap, subst, ◌∙◌, arith, Option, Some, None, []}
use Rattle.std.specs.Prelude.{if◌then◌else◌}
use Rattle.std.proofs.lemmas.Bool.{cases_eq}
use Rattle.std.proofs.lemmas.Bool.Decides.{nat_tests}
use Rattle.tv_base.specs.declared.numbers.SubNo.{SubNo}
use Rattle.tv_base.specs.declared.numbers.TreeNo.{TreeNo}
use Rattle.letter_types.specs.Kept.{is_called, is_called_for, kept_without, wakes_by, with_called, without_called}
use Rattle.letter_types.specs.declared.bodies.Body.{Body}
use Rattle.letter_types.specs.declared.bodies.Body.TheVariants.{Decide, Release, Wake}
use Rattle.letter_types.specs.declared.entries.Entry.{Entry}
use Rattle.letter_types.specs.declared.entries.Letter.{Letter}
use Rattle.letter_types.specs.declared.kept.KeptLetter.{KeptLetter}
use Rattle.letter_types.specs.declared.kept.KeepReason.{KeepReason}
use Rattle.letter_types.specs.declared.kept.KeepReason.TheVariants.{Called, ForHolder, ForShow}
use Rattle.script_parts.specs.ScriptData.{updates}
use Rattle.script_parts.specs.declared.parts.TreeKind.{TreeKind}
use Rattle.script_parts.specs.declared.parts.TreeKind.TheVariants.{Update, Read, Strict}
use Rattle.tx_trees.specs.ScriptData.{ScriptData, ops_of}
use Rattle.tx_trees.specs.Valid.{IsValid}
use Rattle.world_model.specs.Core.{Core}
use Rattle.world_model.specs.Calls.{calls}
use Rattle.world_model.specs.Counts.{Each, one_if}
use Rattle.world_model.specs.Done.{raised_if}
use Rattle.world_model.specs.Keeping.{KeepingNode, woken_by}
use Rattle.world_model.specs.Kept.{kept_in}
use Rattle.world_model.specs.Named.{is_strict_at, tree_kind_at}
use Rattle.world_model.specs.Node.{Node}
use Rattle.world_model.specs.Runs.{IsStepRun, keeping_in, node_in}
use Rattle.world_model.specs.Strict.{CoreKeeping, core_row}
use Rattle.world_model.proofs.Cases.{Case, Coordinates as ByCoordinator, Does, Keeps, NodeDoes, NodeKeeps, Submits, case}
use Rattle.world_model.proofs.Every.{each_append, each_both, each_map}
use Rattle.world_model.proofs.KeptThere.{IsCoreKeeping, OfKeeping, core_keeps}
use Rattle.world_model.proofs.Outstanding.{keeping_elsewhere}
use Rattle.world_model.proofs.Bags.{one_if_both}
use Rattle.tree_laws.specs.Keeping.{Holds, IsKeptFor}
use Rattle.world_model.specs.Meant.{IsMeant}
use Rattle.tree_laws.proofs.conflicts.ByActs.{kind_updates}
use Rattle.tree_laws.proofs.conflicts.Holding.{LetsGo, met_holds, row_stays, same_holds}
use Rattle.tree_laws.proofs.kept.Reasons.{kept_for_a_reason}
use Rattle.tree_laws.proofs.kept.Waking.{wakes_find_letters}
use Rattle.advance_laws.proofs.governed.Brought.{brought_meant}
use Rattle.advance_laws.proofs.phases.Progress.{brings_to}
use Rattle.advance_laws.proofs.counting.Working.{RaisesBy, keeps_turns}
use Rattle.run_laws.specs.Waiting.{IsKeptUntil, LettersStayKeptForAReason}
use Rattle.run_laws.proofs.each_tree.EveryApt.{all_apt}
use Rattle.run_laws.proofs.each_tree.InTime.{advancing_run}
use Rattle.run_laws.proofs.strict.Holders.{holders}
use Rattle.run_laws.proofs.keeping.Woken.{Rises, does_rises, holder_woken}

-- why node p keeps a letter of tree t
abbrev pub Reason : ScriptData → List Entry → ℕ → TreeNo → KeepReason → Type 0
Reason s past p t ForShow = (is_strict_at s t.0 ≡ true) × ((node_in s past p).turns.update.0 ≡ (node_in s past p).turns.read.0 + 2)
Reason s past p t (ForHolder h) = (updates s t.0 ≡ true) × Holds (keeping_in s past p).core h
Reason s past p t Called = Unit {0}

-- of a strict tree only the root is kept
pub record IsWaiting (s : ScriptData) (past : List Entry) (p : ℕ) (x : KeptLetter) : Type 0 where
  pub root : is_strict_at s x.tree.0 ≡ true → x.sub.0 ≡ 0
  pub why : Reason s past p x.tree x.why

abbrev pub AreWaiting : ScriptData → List Entry → ℕ → List KeptLetter → Type 0
AreWaiting s past p xs = Each (IsWaiting s past p) xs

-- What is kept after an entry.
without_by : (P : KeptLetter → Type 0) (t : TreeNo) (k : SubNo) (x : KeptLetter) (xs : List KeptLetter) (test : Bool) → is_called_for t k x ≡ test
    → Each P (x ∷ xs) → Each P (without_called t k xs) → Each P (without_called t k (x ∷ xs))
without_by P t k x xs true is all rest = rw is all.1
without_by P t k x xs false is all rest = rw is (all.0, rest)

each_without : (P : KeptLetter → Type 0) (t : TreeNo) (k : SubNo) (xs : List KeptLetter) → Each P xs → Each P (without_called t k xs)
each_without P t k [] all = tt
each_without P t k (x ∷ xs) all = without_by P t k x xs (is_called_for t k x) refl all (each_without P t k xs all.1)

pub each_meanwhile : (P : KeptLetter → Type 0) (xs : List KeptLetter) (b : Body) → Each P xs → Each P (kept_without xs b)
each_meanwhile P xs (Wake t k) all = each_without P t k xs all
each_meanwhile P xs _ all = all

woken_one : (Q : KeptLetter → Type 0) (x : KeptLetter) (test b : Bool) → test ≡ b
    → (test ≡ true → Q (record x { why = Called })) → (test ≡ false → Q x)
    → Q (if test then record x { why = Called } else x)
woken_one Q x test true is hit miss = rw is (hit is)
woken_one Q x test false is hit miss = rw is (miss is)

pub each_woken : (P Q : KeptLetter → Type 0) (test : KeepReason → Bool) (xs : List KeptLetter)
    → ((x : KeptLetter) → test x.why ≡ true → P x → Q (record x { why = Called }))
    → ((x : KeptLetter) → test x.why ≡ false → P x → Q x) → Each P xs → Each Q (with_called test xs)
each_woken P Q test [] hit miss all = tt
each_woken P Q test (x ∷ xs) hit miss all =
    (woken_one Q x (test x.why) (test x.why) refl (λ is. hit x is all.0) (λ is. miss x is all.0), each_woken P Q test xs hit miss all.1)

-- The numbers of a node.
-- the version that is updated is one or two above the one that is read
near : (s : ScriptData) (past : List Entry) (p : ℕ) → IsValid s → IsStepRun s past → p < s.nodes
    → ((node_in s past p).turns.read.0 + 1 ≤ (node_in s past p).turns.update.0) × ((node_in s past p).turns.update.0 ≤ (node_in s past p).turns.read.0 + 2)
near s past p valid run lt =
    let at = (advancing_run s past valid run).within p lt in (
      omega (arith, at.read_showed, at.showed_update),
      omega (arith, at.update_turned, at.turned_low, at.low_swept, at.swept_read),
    )

works_rises : (s : ScriptData) (old new : Node) (body : Body) → RaisesBy s old.turns new.turns body → Rises old new
works_rises s old new body r = record { read = rw r.turns (read_by r.raises); update = rw r.turns (update_by r.raises r.higher) } where
  read_by : (b : Bool) → (raised_if b r.version old.turns).read.0 ≡ old.turns.read.0
  read_by true = refl
  read_by false = refl

  update_by : (b : Bool) → (b ≡ true → old.turns.update.0 < r.version) → old.turns.update.0 ≤ (raised_if b r.version old.turns).update.0
  update_by true higher = omega (arith, higher refl)
  update_by false higher = omega arith

two_on : (s : ScriptData) (past : List Entry) (e : Entry) (p : ℕ) → IsValid s → IsStepRun s (e ∷ past) → p < s.nodes
    → Rises (node_in s past p) (node_in s (e ∷ past) p) → (node_in s past p).turns.update.0 ≡ (node_in s past p).turns.read.0 + 2
    → (node_in s (e ∷ past) p).turns.update.0 ≡ (node_in s (e ∷ past) p).turns.read.0 + 2
two_on s past e p valid run lt up two = omega (arith, up.read, up.update, two, (near s (e ∷ past) p valid run lt).1)

-- no tree is both
pub not_both : (s : ScriptData) (t : ℕ) (kind : Option TreeKind) → tree_kind_at s t ≡ kind → updates s t ≡ true → is_strict_at s t ≡ true → ⊥
not_both s t (Some Update) is up strict = let none : is_strict_at s t ≡ false = rw (is, is_strict_at) refl in cc (none, strict)
not_both s t (Some Read) is up strict = let none : is_strict_at s t ≡ false = rw (is, is_strict_at) refl in cc (none, strict)
not_both s t (Some Strict) is up strict = let none : updates s t ≡ false = kind_updates s t Strict is in cc (none, up)
not_both s t None is up strict = let none : is_strict_at s t ≡ false = rw (is, is_strict_at) refl in cc (none, strict)

-- What a node does leaves the reasons of what it doesn't wake.
holder_stays : (s : ScriptData) (p from : ℕ) (h : TreeNo) (body : Body) → IsMeant s from p body → is_strict_at s h.0 ≡ true
    → wakes_by body (ForHolder h) ≡ false → LetsGo h body → ⊥
holder_stays s p from h (Decide u v commit) meant strict none gone = absurd (grind (arith, nat_tests))
holder_stays s p from h (Release u) meant strict none gone =
    not_both s u.0 (tree_kind_at s u.0) refl meant.update (subst (λ (n : ℕ). is_strict_at s n ≡ true) (sym gone) strict)
holder_stays s p from h _ meant strict none gone = absurd gone

does_reason : (s : ScriptData) (past : List Entry) (e : Entry) (p : ℕ) (r : Letter) (t : TreeNo) (w : KeepReason) → IsValid s → IsStepRun s (e ∷ past)
    → Does s past e p r → woken_by (keeping_in s past p).core r.body w ≡ false → Reason s past p t w → Reason s (e ∷ past) p t w
does_reason s past e p r t ForShow valid run d none reason =
    (reason.0, two_on s past e p valid run d.brings.below (does_rises s past e p r d none) reason.1)
does_reason s past e p r t (ForHolder h) valid run d none reason =
    let c : Core = (keeping_in s past p).core in
    let strict = (holders s past p valid (all_apt s past valid run.1) run.1 d.brings.below h reason.1).strict in
    let meant = brought_meant s past e p r valid (brings_to s past e p r d.brings) run in (
      reason.0,
      same_holds (core_row s p c r.from.0 r.body).state (keeping_in s (e ∷ past) p).core h (ap (λ (x : Core). x.locks) d.core)
          (row_stays s p r.from.0 r.body c h reason.1
          (holder_stays s p r.from.0 h r.body meant strict (sym (holder_woken c r.body h) ∙ none))),
    )
does_reason s past e p r t Called valid run d none reason = tt

does_waiting : (s : ScriptData) (past : List Entry) (e : Entry) (p : ℕ) (r : Letter) → IsValid s → IsStepRun s (e ∷ past) → Does s past e p r
    → AreWaiting s past p (kept_in s past p) → AreWaiting s (e ∷ past) p (kept_in s (e ∷ past) p)
does_waiting s past e p r valid run d all =
    subst (AreWaiting s (e ∷ past) p) (sym d.kept)
    (each_woken (IsWaiting s past p) (IsWaiting s (e ∷ past) p) (woken_by (keeping_in s past p).core r.body) (kept_without (kept_in s past p) e.took.body)
    (λ x hit at. record { root = at.root; why = tt })
    (λ x none at. record { root = at.root; why = does_reason s past e p r x.tree x.why valid run d none at.why })
    (each_meanwhile (IsWaiting s past p) (kept_in s past p) e.took.body all))

-- A letter more that is kept.
pub keeps_rises : (s : ScriptData) (past : List Entry) (e : Entry) (p : ℕ) (r : Letter) (k : CoreKeeping) → Keeps s past e p r k
    → Rises (node_in s past p) (node_in s (e ∷ past) p)
keeps_rises s past e p r k d =
    let c : Core = (keeping_in s past p).core in
    let turns : RaisesBy s c.node.turns k.state.node.turns r.body =
    subst (OfKeeping (λ (x : CoreKeeping). RaisesBy s c.node.turns x.state.node.turns r.body)) d.keeps (keeps_turns s c r.body) in
    works_rises s c.node (node_in s (e ∷ past) p) r.body
    (subst (λ (x : Core). RaisesBy s c.node.turns x.node.turns r.body) (sym d.core) turns)

keeps_locks : (s : ScriptData) (past : List Entry) (e : Entry) (p : ℕ) (r : Letter) (k : CoreKeeping) (t : TreeNo) → Keeps s past e p r k
    → Holds (keeping_in s past p).core t → Holds (keeping_in s (e ∷ past) p).core t
keeps_locks s past e p r k t d h =
    let c : Core = (keeping_in s past p).core in
    let so : IsCoreKeeping c r.body k = subst (OfKeeping (IsCoreKeeping c r.body)) d.keeps (core_keeps s c r.body) in
    same_holds c (keeping_in s (e ∷ past) p).core t (ap (λ (x : Core). x.locks) (d.core ∙ so.turns_alone)) h

keeps_reason : (s : ScriptData) (past : List Entry) (e : Entry) (p : ℕ) (r : Letter) (k : CoreKeeping) (t : TreeNo) (w : KeepReason) → IsValid s
    → IsStepRun s (e ∷ past) → Keeps s past e p r k → Reason s past p t w → Reason s (e ∷ past) p t w
keeps_reason s past e p r k t ForShow valid run d reason =
    (reason.0, two_on s past e p valid run d.brings.below (keeps_rises s past e p r k d) reason.1)
keeps_reason s past e p r k t (ForHolder h) valid run d reason = (reason.0, keeps_locks s past e p r k h d reason.1)
keeps_reason s past e p r k t Called valid run d reason = tt

two_late : (update read : ℕ) → (update == read + 1) ≡ false → read + 1 ≤ update → update ≤ read + 2 → update ≡ read + 2
two_late update read late low high = grind (arith, nat_tests)

pub new_reason : (s : ScriptData) (past : List Entry) (p : ℕ) (t : TreeNo) (k : SubNo) (w : KeepReason) → IsValid s → IsStepRun s past → p < s.nodes
    → IsKeptFor s (keeping_in s past p).core t k w → Reason s past p t w
new_reason s past p t k ForShow valid run lt (strict, zero, late) =
    let at = near s past p valid run lt in
    (strict, two_late (node_in s past p).turns.update.0 (node_in s past p).turns.read.0 late at.0 at.1)
new_reason s past p t k (ForHolder h) valid run lt (up, m, meets, same) =
    let c : Core = (keeping_in s past p).core in
    (up, subst (Holds c) same (met_holds s t (ops_of s t.0 k.0) c m meets))
new_reason s past p t k Called valid run lt is = tt

pub new_root : (s : ScriptData) (c : Core) (t : TreeNo) (k : SubNo) (w : KeepReason) → IsKeptFor s c t k w → is_strict_at s t.0 ≡ true → k.0 ≡ 0
new_root s c t k ForShow (it, zero, late) strict = zero
new_root s c t k (ForHolder h) (up, m, meets, same) strict = absurd (not_both s t.0 (tree_kind_at s t.0) refl up strict)
new_root s c t k Called is strict = absurd is

keeps_waiting : (s : ScriptData) (past : List Entry) (e : Entry) (p : ℕ) (r : Letter) (k : CoreKeeping) → IsValid s → IsStepRun s (e ∷ past)
    → Keeps s past e p r k → AreWaiting s past p (kept_in s past p) → AreWaiting s (e ∷ past) p (kept_in s (e ∷ past) p)
keeps_waiting s past e p r k valid run d all =
    let c : Core = (keeping_in s past p).core in
    let why : IsKeptFor s c k.tree k.sub k.why = kept_for_a_reason s c r.body k d.keeps in
    let stays = each_map (IsWaiting s past p) (IsWaiting s (e ∷ past) p) (kept_without (kept_in s past p) e.took.body)
    (λ x at. record { root = at.root; why = keeps_reason s past e p r k x.tree x.why valid run d at.why })
    (each_meanwhile (IsWaiting s past p) (kept_in s past p) e.took.body all) in
    subst (AreWaiting s (e ∷ past) p) (sym d.kept)
    (each_append (IsWaiting s (e ∷ past) p) (kept_without (kept_in s past p) e.took.body) _ stays (
      record {
        root = new_root s c k.tree k.sub k.why why;
        why = keeps_reason s past e p r k k.tree k.why valid run d (new_reason s past p k.tree k.sub k.why valid run.1 d.brings.below why);
      },
      tt,
    ))

-- An entry of another actor.
other_reason : (s : ScriptData) (past : List Entry) (e : Entry) (p : ℕ) (t : TreeNo) (w : KeepReason) → e.actor.0 ≢ p → Reason s past p t w
    → Reason s (e ∷ past) p t w
other_reason s past e p t ForShow ne reason =
    (reason.0, subst (λ (n : KeepingNode). n.core.node.turns.update.0 ≡ n.core.node.turns.read.0 + 2) (sym (keeping_elsewhere s past e p ne)) reason.1)
other_reason s past e p t (ForHolder h) ne reason =
    (reason.0, subst (λ (n : KeepingNode). Holds n.core h) (sym (keeping_elsewhere s past e p ne)) reason.1)
other_reason s past e p t Called ne reason = tt

other_waiting : (s : ScriptData) (past : List Entry) (e : Entry) (p : ℕ) → e.actor.0 ≢ p → AreWaiting s past p (kept_in s past p)
    → AreWaiting s (e ∷ past) p (kept_in s (e ∷ past) p)
other_waiting s past e p ne all =
    subst (λ (n : KeepingNode). AreWaiting s (e ∷ past) p n.kept) (sym (keeping_elsewhere s past e p ne))
    (each_map (IsWaiting s past p) (IsWaiting s (e ∷ past) p) (kept_in s past p)
    (λ x at. record { root = at.root; why = other_reason s past e p x.tree x.why ne at.why }) all)

node_waiting : (s : ScriptData) (past : List Entry) (e : Entry) (p : ℕ) → IsValid s → IsStepRun s (e ∷ past) → p < s.nodes → e.actor.0 ≡ p
    → AreWaiting s past p (kept_in s past p) → Case s past e → AreWaiting s (e ∷ past) p (kept_in s (e ∷ past) p)
node_waiting s past e p valid run lt at all (NodeDoes q r d) =
    let same : q ≡ p = sym d.brings.at ∙ at in does_waiting s past e p r valid run (subst (λ (n : ℕ). Does s past e n r) same d) all
node_waiting s past e p valid run lt at all (NodeKeeps q r k d) =
    let same : q ≡ p = sym d.brings.at ∙ at in keeps_waiting s past e p r k valid run (subst (λ (n : ℕ). Keeps s past e n r k) same d) all
node_waiting s past e p valid run lt at all (ByCoordinator there says) = absurd (omega (arith, at, there, lt))
node_waiting s past e p valid run lt at all (Submits there says) = absurd (omega (arith, at, there, lt))

waiting_by : (s : ScriptData) (past : List Entry) (e : Entry) (p : ℕ) → IsValid s → IsStepRun s (e ∷ past) → p < s.nodes
    → AreWaiting s past p (kept_in s past p) → (e.actor.0 ≡ p) ⊎ (e.actor.0 ≢ p) → AreWaiting s (e ∷ past) p (kept_in s (e ∷ past) p)
waiting_by s past e p valid run lt all (inl at) =
    node_waiting s past e p valid run lt at all (case s past e run.0 (all_apt s (e ∷ past) valid run).0)
waiting_by s past e p valid run lt all (inr ne) = other_waiting s past e p ne all

-- in every run
pub waiting : (s : ScriptData) (past : List Entry) (p : ℕ) → IsValid s → IsStepRun s past → p < s.nodes → AreWaiting s past p (kept_in s past p)
waiting s [] p valid run lt = tt
waiting s (e ∷ past) p valid run lt = waiting_by s past e p valid run lt (waiting s past p valid run.1 lt) (cases_eq e.actor.0 p)

-- What is called has its Wake in flight.
pub counts_called : (w : KeepReason) (t k : ℕ) → w ≡ Called → one_if (is_called w && ((t == t) && (k == k))) ≡ 1
counts_called w t k is = let called : is_called w ≡ true = ap is_called is in rw called (one_if_both t k)

abbrev IsCounted : List KeptLetter → KeptLetter → Type 0
IsCounted all x = x.why ≡ Called → 1 ≤ calls x.tree x.sub all

each_counted : (all xs : List KeptLetter) → ((t : TreeNo) (k : SubNo) → calls t k xs ≤ calls t k all) → Each (IsCounted all) xs
each_counted all [] le = tt
each_counted all (x ∷ xs) le = (
  (λ is. omega (arith, le x.tree x.sub, counts_called x.why x.tree.0 x.sub.0 is)),
  each_counted all xs (λ t k. omega (arith, le t k)),
)

kept_until : (s : ScriptData) (past : List Entry) (p : ℕ) (x : KeptLetter) (w : KeepReason) → x.why ≡ w → IsValid s → IsStepRun s past → p < s.nodes
    → IsWaiting s past p x → Reason s past p x.tree w → IsCounted (kept_in s past p) x → IsKeptUntil s past p x w
kept_until s past p x ForShow is valid run lt at reason counted = (reason.0, (at.root reason.0, reason.1))
kept_until s past p x (ForHolder h) is valid run lt at reason counted =
    (reason.0, (reason.1, holders s past p valid (all_apt s past valid run) run lt h reason.1))
kept_until s past p x Called is valid run lt at reason counted =
    omega (arith, counted is, wakes_find_letters s past p x.tree x.sub valid (all_apt s past valid run) run lt)

pub letters_stay_kept : LettersStayKeptForAReason
letters_stay_kept s past p valid run lt =
    each_map (λ (x : KeptLetter). IsWaiting s past p x × IsCounted (kept_in s past p) x) (λ (x : KeptLetter). IsKeptUntil s past p x x.why) (kept_in s past p)
    (λ x both. kept_until s past p x x.why refl valid run lt both.0 both.0.why both.1)
    (each_both (IsWaiting s past p) (IsCounted (kept_in s past p)) (kept_in s past p) (waiting s past p valid run lt)
    (each_counted (kept_in s past p) (kept_in s past p) (λ t k. omega arith)))
