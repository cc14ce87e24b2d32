-- In runs of enabled messages, of every script: if a subtransaction of a strict transaction voted yes, its locks stand
-- until the decision on its transaction is applied.
use Rattle.std.proofs.Common.{◌≡◌, ◌≢◌, ◌⊎◌, inl, inr, ℕ, zero, suc, ◌+◌, ◌<◌, ◌≤◌, ◌==◌, ◌&&◌, Bool, true, false, not, List, [], ◌∷◌, refl, sym, ap, subst, ◌∙◌, arith, Option, Some, None}
use Rattle.std.proofs.Math.Bool.{or-false}
use Rattle.std.specs.Prelude.{if◌then◌else◌, slice_get}
use Rattle.std.proofs.lemmas.Bool.{or_left}
use Rattle.std.proofs.lemmas.Bool.Decides.{nat_tests}
use Rattle.tv_base.specs.declared.numbers.SubNo.{SubNo}
use Rattle.tv_base.specs.declared.numbers.TreeNo.{TreeNo}
use Rattle.letter_types.specs.declared.acts.Act.{Act}
use Rattle.letter_types.specs.declared.acts.Act.TheVariants as acts
use Rattle.letter_types.specs.declared.bodies.Body.{Body}
use Rattle.letter_types.specs.declared.bodies.Body.TheVariants.{Root, Sub as SubLetter, Go, Decide, Release}
use Rattle.letter_types.specs.declared.entries.Entry.{Entry}
use Rattle.letter_types.specs.declared.entries.Letter.{Letter}
use Rattle.letter_types.specs.declared.bodies.Notice.{Notice}
use Rattle.letter_types.specs.declared.bodies.Notice.TheVariants as notices
use Rattle.letter_types.specs.declared.votes.Vote.TheVariants.{Yes, No}
use Rattle.nc_locks.specs.declared.modes.Lock.{Lock}
use Rattle.nc_locks.specs.Locks.{Wanted, has_lock, wanted_locks, with_locks, without}
use Rattle.nc_locks.proofs.Always.{freed_are_gone, taken_stand}
use Rattle.script_parts.specs.Wants.{wanted_by}
use Rattle.script_parts.specs.Counts.{has_strict, strict_trees}
use Rattle.script_parts.specs.ScriptData.{ScriptData, ops_of, updates, is_strict}
use Rattle.script_parts.specs.Valid.{IsValid}
use Rattle.script_parts.specs.declared.parts.Tree.{Tree}
use Rattle.script_parts.specs.declared.parts.TreeKind.{TreeKind}
use Rattle.script_parts.specs.declared.parts.TreeKind.TheVariants.{Update, Read, Strict}
use Rattle.world_model.specs.AllApt.{AllApt}
use Rattle.world_model.specs.Core.{Core}
use Rattle.world_model.specs.Counts.{one_if, tally}
use Rattle.world_model.specs.Keeping.{KeepingNode}
use Rattle.world_model.specs.Kept.{outstanding}
use Rattle.world_model.specs.Named.{is_strict_at, tree_kind_at}
use Rattle.world_model.specs.Runs.{IsStepRun, MayFollow, keeping_in}
use Rattle.world_model.specs.Asked.{asked_ops, asked_version}
use Rattle.world_model.specs.Notices.{act_of}
use Rattle.world_model.specs.Strict.{notice_by}
use Rattle.world_model.specs.Votes.{vote_of}
use Rattle.world_model.proofs.Cases.{Case, Coordinates, Does, NodeDoes, NodeKeeps, Submits, case, does_number}
use Rattle.world_model.proofs.Every.{each_map, each_none, moved_says}
use Rattle.world_model.proofs.Outstanding.{keeping_elsewhere, keeping_here}
use Rattle.board_rules.specs.Locked.{locks_after_act}
use Rattle.board_rules.specs.Stands.{votes_yes}
use Rattle.board_rules.proofs.ActTests.{releases}
use Rattle.tree_laws.specs.Applied.{applied_at, applies_as}
use Rattle.tree_laws.proofs.apt.AptSteps.{done_before}
use Rattle.tree_laws.proofs.loads.NodeLoads.{strict_there}
use Rattle.tree_laws.specs.Locks.{locks_after_acts}
use Rattle.world_model.specs.Meant.{IsLetterMeant, IsMeant}
use Rattle.world_model.proofs.Meant.{letters_are_meant}
use Rattle.tree_laws.proofs.conflicts.RunConflicts.{wanted_tree}
use Rattle.tree_laws.proofs.conflicts.RunLocks.{step_follows}
use Rattle.tree_laws.proofs.conflicts.Holding.{more_locks}
use Rattle.run_laws.specs.VoteLocks.{VoteLocksStand, yeses_at}
use Rattle.run_laws.proofs.act_order.RowActs.{asked_acts, is_lasting, keeping_lasts, lasting, lasting_acts, row_lasts, tally_lasting}

-- A script with a strict tree has some.
some_strict : (ts : List Tree) (n : ℕ) (tree : Tree) → slice_get ts n ≡ Some tree → tree.kind ≡ Strict → 1 ≤ strict_trees ts
some_strict [] n tree at is = absurd (cc at)
some_strict (t ∷ ts) zero tree at is =
    let same : t ≡ tree = cc at in
    let one : one_if (is_strict t.kind) ≡ 1 = ap (λ (x : Tree). one_if (is_strict x.kind)) same ∙ ap (λ (kind : TreeKind). one_if (is_strict kind)) is in
    omega (arith, one)
some_strict (t ∷ ts) (suc n) tree at is = omega (arith, some_strict ts n tree at is)

pub has_some : (s : ScriptData) (t : ℕ) → is_strict_at s t ≡ true → has_strict s ≡ true
has_some s t strict =
    let it = strict_there s t strict in
    let some : 1 ≤ strict_trees s.trees = some_strict s.trees t it.tree it.at it.kind in
    grind (arith, nat_tests)

-- Acts of a node. A lock stays where its tree doesn't let go.
abbrev lets_go : ℕ → Act → ℕ
lets_go t a = one_if (releases t a)

still_there : (l : Lock) (u : TreeNo) (ls : List Lock) → one_if (u.0 == l.tree.0) ≡ 0 → has_lock l ls ≡ true → has_lock l (without u ls) ≡ true
still_there l u ls none has =
    let other : not (l.tree.0 == u.0) ≡ true = grind (arith, nat_tests) in freed_are_gone l u ls ∙ rw other has

act_stays : (s : ScriptData) (l : Lock) (a : Act) (ls : List Lock) → lets_go l.tree.0 a ≡ 0 → has_lock l ls ≡ true
    → has_lock l (locks_after_act s a ls) ≡ true
act_stays s l (acts.Did u j values) ls none has = by (updates s u.0) where
  by : (b : Bool) → has_lock l (if b then with_locks u (wanted_by (ops_of s u.0 j.0)) ls else ls) ≡ true
  by true = more_locks l u (wanted_by (ops_of s u.0 j.0)) ls has
  by false = has
act_stays s l (acts.Voted u j (Yes values)) ls none has = more_locks l u (wanted_by (ops_of s u.0 j.0)) ls has
act_stays s l (acts.Voted u j (No cause)) ls none has = has
act_stays s l (acts.Freed u) ls none has =
    still_there l u ls (ap one_if (sym (or-false (u.0 == l.tree.0))) ∙ none) has
act_stays s l (acts.Applied u commit) ls none has = still_there l u ls none has
act_stays s l acts.Finished ls none has = has
act_stays s l _ ls none has = has

-- a vote of yes takes what its operations want
act_takes : (s : ScriptData) (l : Lock) (t : TreeNo) (k : SubNo) (a : Act) (ls : List Lock) → votes_yes t.0 k.0 a ≡ true
    → has_lock l (wanted_locks t (wanted_by (ops_of s t.0 k.0))) ≡ true → has_lock l (locks_after_act s a ls) ≡ true
act_takes s l t k (acts.Voted u j (Yes values)) ls is wants =
    let tree : t.0 ≡ u.0 = grind (arith, nat_tests) in
    let sub : k.0 ≡ j.0 = grind (arith, nat_tests) in
    let its : has_lock l (wanted_locks u (wanted_by (ops_of s u.0 j.0))) ≡ true =
    subst (λ (i : ℕ). has_lock l (wanted_locks u (wanted_by (ops_of s u.0 i))) ≡ true) sub
    (subst (λ (n : ℕ). has_lock l (wanted_locks (record { 0 = n }) (wanted_by (ops_of s n k.0))) ≡ true) tree wants) in
    let ws : Wanted = wanted_by (ops_of s u.0 j.0) in
    taken_stand l u ws ls ∙ or_left (has_lock l (wanted_locks u ws)) (has_lock l ls) its
act_takes s l t k (acts.Voted u j (No cause)) ls is wants = absurd (cc is)
act_takes s l t k acts.Finished ls is wants = absurd (cc is)
act_takes s l t k _ ls is wants = absurd (cc is)

-- so after all of them, if one votes or the lock was there
acts_stand : (s : ScriptData) (l : Lock) (t : TreeNo) (k : SubNo) (xs : List Act) (ls : List Lock) → l.tree.0 ≡ t.0
    → has_lock l (wanted_locks t (wanted_by (ops_of s t.0 k.0))) ≡ true → tally (lets_go t.0) xs ≡ 0
    → (has_lock l ls ≡ true) ⊎ (1 ≤ tally (λ (a : Act). one_if (votes_yes t.0 k.0 a)) xs) → has_lock l (locks_after_acts s ls xs) ≡ true
acts_stand s l t k [] ls its wants none (inl has) = has
acts_stand s l t k [] ls its wants none (inr some) = absurd (omega (arith, some))
acts_stand s l t k (a ∷ xs) ls its wants none (inl has) =
    let own : lets_go l.tree.0 a ≡ 0 = ap (λ (n : ℕ). lets_go n a) its ∙ omega (arith, none) in
    acts_stand s l t k xs (locks_after_act s a ls) its wants (omega (arith, none)) (inl (act_stays s l a ls own has))
acts_stand s l t k (a ∷ xs) ls its wants none (inr some) =
    by (votes_yes t.0 k.0 a) refl some (λ more. acts_stand s l t k xs (locks_after_act s a ls) its wants (omega (arith, none)) more) where
      by : (test : Bool) → votes_yes t.0 k.0 a ≡ test → 1 ≤ one_if test + tally (λ (b : Act). one_if (votes_yes t.0 k.0 b)) xs
          → ((has_lock l (locks_after_act s a ls) ≡ true) ⊎ (1 ≤ tally (λ (b : Act). one_if (votes_yes t.0 k.0 b)) xs)
          → has_lock l (locks_after_acts s (locks_after_act s a ls) xs) ≡ true)
          → has_lock l (locks_after_acts s (locks_after_act s a ls) xs) ≡ true
      by true is most rest = rest (inl (act_takes s l t k a ls is wants))
      by false is most rest = rest (inr (omega (arith, most)))

-- A strict tree lets go where its decision is applied alone.
abbrev releases_strict : ScriptData → Body → ℕ
releases_strict s (Release u) = one_if (not (updates s u.0))
releases_strict s Go = 0
releases_strict s _ = 0

meant_release : (s : ScriptData) (from to : ℕ) (body : Body) → IsMeant s from to body → releases_strict s body ≡ 0
meant_release s from to (Release u) meant = ap (λ (b : Bool). one_if (not b)) meant.update
meant_release s from to Go meant = refl
meant_release s from to _ meant = refl

-- so a letter that a node does releases no strict tree
released_updates : (s : ScriptData) (past : List Entry) (e : Entry) (p : ℕ) (r : Letter) → IsValid s → IsStepRun s (e ∷ past) → Does s past e p r
    → releases_strict s r.body ≡ 0
released_updates s past e p r valid run d =
    let f : Letter → ℕ = λ l. releases_strict s l.body in
    let none : tally f (outstanding s past) ≡ 0 =
    each_none f (outstanding s past)
    (each_map (IsLetterMeant s) (λ (l : Letter). f l ≡ 0) (outstanding s past) (λ l meant. meant_release s l.from.0 l.to.0 l.body meant)
    (letters_are_meant s past valid run.1)) in
    omega (arith, none, does_number f s past e p r d, done_before f s past e run.0)

plain_update : (s : ScriptData) (t u : ℕ) → is_strict_at s t ≡ true → one_if (not (updates s u)) ≡ 0 → one_if (u == t) ≡ 0
plain_update s t u strict up = by (u == t) refl where
  by : (test : Bool) → (u == t) ≡ test → one_if test ≡ 0
  by true is =
      let same : u ≡ t = grind (arith, nat_tests) in
      let it = strict_there s t strict in
      let not_so : updates s t ≡ false = rw (it.at, it.kind, updates) refl in
      let one : one_if (not (updates s u)) ≡ 1 = ap (λ (n : ℕ). one_if (not (updates s n))) same ∙ ap (λ (b : Bool). one_if (not b)) not_so in
      absurd (omega (arith, up, one))
  by false is = refl

applied_one : (x commit : Bool) → one_if (x && commit) + one_if (x && not commit) ≡ one_if x
applied_one true true = refl
applied_one true false = refl
applied_one false commit = refl

lets_others : (t : ℕ) (a : Act) → is_lasting a ≡ false → lets_go t a ≡ 0
lets_others t (acts.Did u j values) none = absurd (cc none)
lets_others t (acts.Voted u j vote) none = absurd (cc none)
lets_others t (acts.Freed u) none = absurd (cc none)
lets_others t (acts.Applied u commit) none = absurd (cc none)
lets_others t acts.Finished none = refl
lets_others t _ none = refl

-- What lasts of a node's row: none of these counts among it.
told_lets : (t : ℕ) (u : TreeNo) (k : SubNo) (n : Notice) → lets_go t (act_of u k n) ≡ 0
told_lets t u k (notices.Did values) = refl
told_lets t u k (notices.Yes values) = refl
told_lets t u k (notices.No cause) = refl

asked_lets : (s : ScriptData) (c : Core) (t : ℕ) (u : TreeNo) (k : SubNo) (body : Body) (kind : Option TreeKind)
    → tally (lets_go t) (asked_acts s c u k body kind) ≡ 0
asked_lets s c t u k body (Some Update) = refl
asked_lets s c t u k body (Some Read) = refl
asked_lets s c t u k body (Some Strict) =
    omega (arith, told_lets t u k (notice_by (vote_of c.locks c.node.items u (asked_version c.node.turns.update body) (asked_ops s body))))
asked_lets s c t u k body None = refl

row_lets : (s : ScriptData) (c : Core) (t : ℕ) (body : Body) → is_strict_at s t ≡ true → releases_strict s body ≡ 0
    → tally (applies_as t true) (lasting_acts s c body) + tally (applies_as t false) (lasting_acts s c body) ≡ 0
    → tally (lets_go t) (lasting_acts s c body) ≡ 0
row_lets s c t (Root u) strict up none = asked_lets s c t u (record { 0 = 0 }) (Root u) (tree_kind_at s u.0)
row_lets s c t (SubLetter u k v) strict up none = asked_lets s c t u k (SubLetter u k v) (tree_kind_at s u.0)
row_lets s c t (Decide u v commit) strict up none = omega (arith, none, applied_one (u.0 == t) commit)
row_lets s c t (Release u) strict up none = omega (arith, ap one_if (or-false (u.0 == t)), plain_update s t u.0 strict up)
row_lets s c t Go strict up none = refl
row_lets s c t _ strict up none = refl

pub applies_others : (t : ℕ) (b : Bool) (a : Act) → is_lasting a ≡ false → applies_as t b a ≡ 0
applies_others t b (acts.Did u j values) none = absurd (cc none)
applies_others t b (acts.Voted u j vote) none = absurd (cc none)
applies_others t b (acts.Freed u) none = absurd (cc none)
applies_others t b (acts.Applied u commit) none = absurd (cc none)
applies_others t true acts.Finished none = refl
applies_others t false acts.Finished none = refl
applies_others t true _ none = refl
applies_others t false _ none = refl

-- An entry of the node.
abbrev applied_by : ℕ → List Act → ℕ
applied_by t xs = tally (applies_as t true) xs + tally (applies_as t false) xs

same_applied : (t : ℕ) (xs : List Act) → applied_by t (lasting xs) ≡ applied_by t xs
same_applied t xs = omega (arith, tally_lasting (applies_as t true) (applies_others t true) xs, tally_lasting (applies_as t false) (applies_others t false) xs)

keeps_hold : (s : ScriptData) (past : List Entry) (e : Entry) (p t : ℕ) → IsValid s → IsStepRun s (e ∷ past) → p < s.nodes → e.actor.0 ≡ p
    → is_strict_at s t ≡ true → applied_by t e.acts ≡ 0 → Case s past e → tally (lets_go t) e.acts ≡ 0
keeps_hold s past e p t valid run lt at strict none (NodeDoes q r d) =
    let c : Core = (keeping_in s past q).core in
    let lasts : lasting e.acts ≡ lasting_acts s c r.body = ap lasting d.acts ∙ row_lasts s q r.from.0 r.body c in
    tally_lasting (lets_go t) (lets_others t) e.acts
    ∙ ap (λ (xs : List Act). tally (lets_go t) xs) lasts
    ∙ row_lets s c t r.body strict (released_updates s past e q r valid run d)
    (sym (ap (applied_by t) lasts) ∙ same_applied t e.acts ∙ none)
keeps_hold s past e p t valid run lt at strict none (NodeKeeps q r k d) =
    tally_lasting (lets_go t) (lets_others t) e.acts
    ∙ ap (λ (xs : List Act). tally (lets_go t) xs) (ap lasting d.acts ∙ keeping_lasts s (keeping_in s past q).core r.body k d.keeps)
keeps_hold s past e p t valid run lt at strict none (Coordinates out says) = absurd (omega (arith, at, lt, out))
keeps_hold s past e p t valid run lt at strict none (Submits out says) = absurd (omega (arith, at, lt, out))

-- the locks of the node after it
pub locks_then : (s : ScriptData) (past : List Entry) (e : Entry) (p : ℕ) → has_strict s ≡ true → MayFollow s past e → p < s.nodes
    → e.actor.0 ≡ p → (keeping_in s (e ∷ past) p).core.locks ≡ locks_after_acts s (keeping_in s past p).core.locks e.acts
locks_then s past e p some m lt at =
    let n : KeepingNode = keeping_in s past p in
    ap (λ (x : KeepingNode). x.core.locks) (keeping_here s past e p at)
    ∙ step_follows s p n e.took some
    ∙ ap (locks_after_acts s n.core.locks) (sym (moved_says s past e p lt at m.moves).1)

yes_or : (m n : ℕ) → 1 ≤ m + n → (1 ≤ n) ⊎ (1 ≤ m)
yes_or zero n some = inl (omega (arith, some))
yes_or (suc m) n some = inr (omega arith)

-- So in every run.
abbrev Stands : ScriptData → List Entry → ℕ → TreeNo → SubNo → Lock → Type 0
Stands s past p t k l = 1 ≤ yeses_at past t.0 k.0 p → applied_at past t.0 true p + applied_at past t.0 false p ≡ 0
    → has_lock l (keeping_in s past p).core.locks ≡ true

stands_next : (s : ScriptData) (past : List Entry) (e : Entry) (p : ℕ) (t : TreeNo) (k : SubNo) (l : Lock) → IsValid s
    → IsStepRun s (e ∷ past) → p < s.nodes → is_strict_at s t.0 ≡ true → l.tree.0 ≡ t.0
    → has_lock l (wanted_locks t (wanted_by (ops_of s t.0 k.0))) ≡ true → Case s past e → Stands s past p t k l
    → (test : Bool) → (e.actor.0 == p) ≡ test
    → 1 ≤ (if test then tally (λ (a : Act). one_if (votes_yes t.0 k.0 a)) e.acts else 0) + yeses_at past t.0 k.0 p
    → ((if test then tally (applies_as t.0 true) e.acts else 0) + applied_at past t.0 true p)
    + ((if test then tally (applies_as t.0 false) e.acts else 0) + applied_at past t.0 false p) ≡ 0
    → has_lock l (keeping_in s (e ∷ past) p).core.locks ≡ true
stands_next s past e p t k l valid run lt strict its wants c old true is some none =
    let at : e.actor.0 ≡ p = grind (arith, nat_tests, is) in
    let now : tally (lets_go t.0) e.acts ≡ 0 = keeps_hold s past e p t.0 valid run lt at strict (omega (arith, none)) c in
    let ls : List Lock = (keeping_in s past p).core.locks in
    ap (has_lock l) (locks_then s past e p (has_some s t.0 strict) run.0 lt at)
    ∙ acts_stand s l t k e.acts ls its wants now
    (by (yes_or (tally (λ (a : Act). one_if (votes_yes t.0 k.0 a)) e.acts) (yeses_at past t.0 k.0 p) some)) where
      by : (1 ≤ yeses_at past t.0 k.0 p) ⊎ (1 ≤ tally (λ (a : Act). one_if (votes_yes t.0 k.0 a)) e.acts)
          → (has_lock l (keeping_in s past p).core.locks ≡ true) ⊎ (1 ≤ tally (λ (a : Act). one_if (votes_yes t.0 k.0 a)) e.acts)
      by (inl before) = inl (old before (omega (arith, none)))
      by (inr now) = inr now
stands_next s past e p t k l valid run lt strict its wants c old false is some none =
    let ne : e.actor.0 ≢ p = grind (arith, nat_tests, is) in
    ap (λ (n : KeepingNode). has_lock l n.core.locks) (keeping_elsewhere s past e p ne) ∙ old (omega (arith, some)) (omega (arith, none))

stands : (s : ScriptData) (past : List Entry) (p : ℕ) (t : TreeNo) (k : SubNo) (l : Lock) → IsValid s → AllApt s past → IsStepRun s past
    → p < s.nodes → is_strict_at s t.0 ≡ true → l.tree.0 ≡ t.0
    → has_lock l (wanted_locks t (wanted_by (ops_of s t.0 k.0))) ≡ true → Stands s past p t k l
stands s [] p t k l valid apt run lt strict its wants some none = absurd (omega (arith, some))
stands s (e ∷ past) p t k l valid apt run lt strict its wants some none =
    stands_next s past e p t k l valid run lt strict its wants (case s past e run.0 apt.0)
    (stands s past p t k l valid apt.1 run.1 lt strict its wants) (e.actor.0 == p) refl some none

pub vote_locks_stand : VoteLocksStand
vote_locks_stand s past p t k valid apt run lt strict some none l wants =
    stands s past p t k l valid apt run lt strict (wanted_tree t (wanted_by (ops_of s t.0 k.0)) l wants)
    wants some none
