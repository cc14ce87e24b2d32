-- How many entries a run has at most, at any time, in every script.
use Rattle.std.proofs.Common.{◌≡◌, ℕ, zero, suc, ◌+◌, ◌*◌, ◌<◌, ◌≤◌, ◌==◌, ◌&&◌, Bool, true, false, List, [], ◌∷◌, length, refl, sym, ap, subst, ◌∙◌, arith, Some}
use Rattle.std.specs.Prelude.{if◌then◌else◌, slice_get}
use Rattle.std.proofs.Math.Nat.{mul-le-mul_left}
use Rattle.std.proofs.lemmas.Bool.{eqb-true, not-false}
use Rattle.std.proofs.lemmas.Bool.Decides.{nat_tests}
use Rattle.std.proofs.lemmas.Nat.{mul-le}
use Rattle.tv_base.specs.declared.numbers.TreeNo.{TreeNo}
use Rattle.letter_types.specs.Kept.{kept_without, wakes}
use Rattle.letter_types.specs.declared.bodies.Body.{Body}
use Rattle.letter_types.specs.declared.bodies.Body.TheVariants.{Go, Root, Sub as SubLetter, Done, Reply, Nudge, Advance, Advanced, Decide, Decided, Release, Wake, Turn, Show, Sweep, Turned, Shown, Swept, AskDone, AskAsked, DoneRow, AskedRow, Order, Ask, Lose, AdvanceNo, Numbers, Wanted, Obeyed}
use Rattle.letter_types.specs.declared.entries.Entry.{Entry}
use Rattle.letter_types.specs.declared.entries.Letter.{Letter}
use Rattle.letter_types.specs.declared.entries.Outgoing.{Outgoing}
use Rattle.script_parts.specs.Counts.{has_strict, if_update, strict_trees, update_subs, is_lossy}
use Rattle.script_parts.specs.ScriptData.{is_strict, is_update, updates}
use Rattle.script_parts.specs.declared.parts.Tree.{Tree}
use Rattle.script_parts.specs.declared.parts.TreeKind.{TreeKind}
use Rattle.script_parts.specs.declared.parts.TreeKind.TheVariants.{Read, Strict, Update}
use Rattle.tx_trees.specs.Counts.{advances_in, all_subs, loses_in}
use Rattle.tx_trees.specs.ScriptData.{ScriptData, subs_at}
use Rattle.tx_trees.specs.Valid.{IsValid}
use Rattle.tx_trees.proofs.Rebuilding.{asked_most}
use Rattle.script_parts.proofs.SubsOf.{few_nodes, has_root, sub_node_below}
use Rattle.world_model.specs.Children.{sub_letters}
use Rattle.world_model.specs.Core.{Core}
use Rattle.world_model.specs.Counts.{one_if, tally}
use Rattle.world_model.specs.declared.phase.Phase.{Phase}
use Rattle.world_model.specs.declared.phase.Phase.TheVariants.{Idle, Turning, Counting, Paused, Showing, Sweeping}
use Rattle.world_model.specs.Kept.{kept_in}
use Rattle.world_model.specs.Named.{is_strict_at}
use Rattle.world_model.specs.Runs.{client_in, coordinator_in, keeping_in, IsStepRun}
use Rattle.world_model.specs.Strict.{core_row}
use Rattle.world_model.proofs.Bags.{tally-append}
use Rattle.world_model.proofs.Cases.{Case, Coordinates, NodeDoes, NodeKeeps, Submits, case}
use Rattle.world_model.proofs.Every.{each_none, each_zero}
use Rattle.world_model.proofs.Flows.{outstanding_flow}
use Rattle.world_model.proofs.Lawful.{is_nudge, nudged}
use Rattle.world_model.proofs.Outstanding.{outstanding_first}
use Rattle.world_model.proofs.Scripts.{SubAt, sub_here, sub_there, update_below}
use Rattle.world_model.proofs.Sends.{on, roots_none, subs_none}
use Rattle.world_model.specs.Meant.{IsMeant}
use Rattle.world_model.proofs.MeantRows.{strict_below}
use Rattle.world_model.proofs.RowSends.{OfChildren, OfRow, OfTree, core_each}
use Rattle.world_model.proofs.Meant.{took_meant}
use Rattle.advance_laws.specs.Advances.{asked_for, running}
use Rattle.advance_laws.proofs.phases.Small.{rounds_by_trees, small}
use Rattle.tree_laws.specs.Dids.{asks, is_go, letters_asking, replies_to, tells_done}
use Rattle.tree_laws.specs.Entries.{entries_most, entries_of, if_strict, lossy_entries, strict_entries, strict_subs}
use Rattle.tree_laws.specs.Turns.{turns}
use Rattle.tree_laws.proofs.apt.AptLawful.{nudges_few}
use Rattle.tree_laws.proofs.stages.AptStagesApart.{CountsNoOthers, client_none, coordinator_none, none_of_others}
use Rattle.tree_laws.proofs.stages.AptStagesSteps.{sent_tells, tells_of, told, turned_by}
use Rattle.tree_laws.proofs.apt.AptSteps.{Enters, enters, strays, wakes_none}
use Rattle.tree_laws.proofs.apt.AptTurns.{turns_at_most_once, turns_come_once}
use Rattle.tree_laws.proofs.homes.Entries.{all_subs_here, is_reply, is_work, some_subs, subs_at_here, taken_in, taken_over, taken_replies, work_hit, work_none}
use Rattle.tree_laws.proofs.loads.Sums.{over, over_hit, over_none}
use Rattle.run_laws.proofs.ending.Costs.{is_apart, paid, stages}
use Rattle.run_laws.proofs.ending.CostsAnew.{aparts_anew}
use Rattle.run_laws.proofs.each_tree.EveryApt.{all_apt, lawful}
use Rattle.run_laws.proofs.keeping.SentFew.{ack_of, acks_few, answered_once, decide_of, decides_few, release_of, releases_few, taken_sent}
use Rattle.run_laws.proofs.keeping.WakesFew.{over_most, read_wakes, root_wakes, sent_in, strict_wakes, update_wakes, wake_of}
use Rattle.world_model.specs.Keeping.{woken_by}

-- Sums.
over_few : {X : Type 0} (i : ℕ) (f : ℕ → ℕ) (xs : List X) → ((k : ℕ) → i ≤ k → k < i + length xs → f k ≤ 1) → over i f xs ≤ length xs
over_few i f [] few = omega arith
over_few i f (x ∷ xs) few =
    omega (arith, few i (omega arith) (omega arith), over_few (i + 1) f xs (λ k le lt. few k (omega (arith, le)) (omega (arith, lt))))

-- numbers that are at most 1, and the first of them is 0
over_later : {X : Type 0} (f : ℕ → ℕ) (xs : List X) → 1 ≤ length xs → f 0 ≡ 0 → ((k : ℕ) → k < length xs → f k ≤ 1) → over 0 f xs + 1 ≤ length xs
over_later f [] some first few = absurd (omega (arith, some))
over_later f (x ∷ xs) some first few = omega (arith, first, over_few 1 f xs (λ k le lt. few k (omega (arith, lt))))

over_least : {X : Type 0} (i : ℕ) (f g : ℕ → ℕ) (xs : List X) → ((k : ℕ) → i ≤ k → k < i + length xs → f k + 1 ≤ g k)
    → over i f xs + length xs ≤ over i g xs
over_least i f g [] each = omega arith
over_least i f g (x ∷ xs) each =
    omega (arith, each i (omega arith) (omega arith), over_least (i + 1) f g xs (λ k le lt. each k (omega (arith, le)) (omega (arith, lt))))

-- numbers of each tree by the tree itself
over_trees : (s : ScriptData) (f : ℕ → ℕ) (g : Tree → ℕ) (i : ℕ) (ts : List Tree)
    → ((n : ℕ) (tree : Tree) → slice_get ts n ≡ Some tree → slice_get s.trees (i + n) ≡ Some tree)
    → ((t : ℕ) (tree : Tree) → slice_get s.trees t ≡ Some tree → f t ≤ g tree) → over i f ts ≤ tally g ts
over_trees s f g i [] at each = omega arith
over_trees s f g i (tree ∷ ts) at each =
    let first : i + 0 ≡ i = omega arith in
    let more : (n : ℕ) → i + suc n ≡ i + 1 + n = λ n. omega arith in
    let here = each i tree (subst (λ (n : ℕ). slice_get s.trees n ≡ Some tree) first (at 0 tree refl)) in
    let rest = over_trees s f g (i + 1) ts
    (λ n x there. subst (λ (m : ℕ). slice_get s.trees m ≡ Some x) (more n) (at (suc n) x there)) each in
    omega (arith, here, rest)

by_trees : (s : ScriptData) (f : ℕ → ℕ) (g : Tree → ℕ) → ((t : ℕ) (tree : Tree) → slice_get s.trees t ≡ Some tree → f t ≤ g tree)
    → over 0 f s.trees ≤ tally g s.trees
by_trees s f g each =
    let same : (n : ℕ) → n ≡ 0 + n = λ n. omega arith in
    over_trees s f g 0 s.trees (λ n tree at. subst (λ (m : ℕ). slice_get s.trees m ≡ Some tree) (same n) at) each

tree_lt : (ts : List Tree) (t : ℕ) (tree : Tree) → slice_get ts t ≡ Some tree → t < length ts
tree_lt [] t tree at = absurd (cc at)
tree_lt (x ∷ ts) zero tree at = omega arith
tree_lt (x ∷ ts) (suc t) tree at = omega (arith, tree_lt ts t tree at)

-- Each entry takes a letter of one kind.
abbrev pub is_note : Body → ℕ
is_note (Done t k v notice) = 1
is_note Go = 0
is_note _ = 0

abbrev pub is_decision : Body → ℕ
is_decision (Decide t v commit) = 1
is_decision Go = 0
is_decision _ = 0

abbrev pub is_ack : Body → ℕ
is_ack (Decided t v) = 1
is_ack Go = 0
is_ack _ = 0

abbrev pub is_release : Body → ℕ
is_release (Release t) = 1
is_release Go = 0
is_release _ = 0

abbrev pub is_wake : Body → ℕ
is_wake (Wake t k) = 1
is_wake Go = 0
is_wake _ = 0

abbrev Kinds : Body → ℕ
Kinds b = is_go b + is_work b + is_note b + is_reply b + is_nudge b + is_apart b + is_decision b + is_ack b + is_release b + is_wake b

one_kind : (s : ScriptData) (from to : ℕ) (b : Body) → IsMeant s from to b → 1 ≡ Kinds b
one_kind s from to Go meant = refl
one_kind s from to (Root t) meant = refl
one_kind s from to (SubLetter t k v) meant = refl
one_kind s from to (Done t k v notice) meant = refl
one_kind s from to (Reply t v answer) meant = refl
one_kind s from to Nudge meant = refl
one_kind s from to Advance meant = refl
one_kind s from to (Turned v) meant = refl
one_kind s from to (Shown v) meant = refl
one_kind s from to (Swept v) meant = refl
one_kind s from to (DoneRow v k row) meant = refl
one_kind s from to (AskedRow v k row) meant = refl
one_kind s from to (Turn v) meant = refl
one_kind s from to (Show v) meant = refl
one_kind s from to (Sweep v) meant = refl
one_kind s from to (AskDone v k) meant = refl
one_kind s from to (AskAsked v k) meant = refl
one_kind s from to (Advanced v) meant = refl
one_kind s from to (Decide t v commit) meant = refl
one_kind s from to (Decided t v) meant = refl
one_kind s from to (Release t) meant = refl
one_kind s from to (Wake t k) meant = refl
one_kind s from to Lose meant = refl
one_kind s from to (AdvanceNo i) meant = refl
one_kind s from to (Ask e) meant = refl
one_kind s from to (Numbers e u r l) meant = refl
one_kind s from to (Wanted e k) meant = refl
one_kind s from to (Order e what v) meant = refl
one_kind s from to (Obeyed e what v) meant = refl

pub counted : (s : ScriptData) (past : List Entry) → IsValid s → IsStepRun s past
    → length past
    ≡ taken_in is_go past + taken_in is_work past + taken_in is_note past + taken_in is_reply past + nudged past + taken_in is_apart past
    + taken_in is_decision past + taken_in is_ack past + taken_in is_release past + taken_in is_wake past
counted s [] valid run = refl
counted s (e ∷ past) valid run =
    omega (arith, counted s past valid run.1, one_kind s e.took.from.0 e.took.to.0 e.took.body (took_meant s past e valid run))

-- What is taken, by trees.
pub taken_same : (f g : Body → ℕ) (s : ScriptData) (past : List Entry) → IsValid s → IsStepRun s past
    → ((from to : ℕ) (b : Body) → IsMeant s from to b → f b ≡ g b) → taken_in f past ≡ taken_in g past
taken_same f g s [] valid run same = refl
taken_same f g s (e ∷ past) valid run same =
    omega (
      arith,
      same e.took.from.0 e.took.to.0 e.took.body (took_meant s past e valid run),
      taken_same f g s past valid run.1 same,
    )

taken_none : (f : Body → ℕ) (s : ScriptData) (past : List Entry) → IsValid s → IsStepRun s past
    → ((from to : ℕ) (b : Body) → IsMeant s from to b → f b ≡ 0) → taken_in f past ≡ 0
taken_none f s past valid run none = taken_same f (λ b. 0) s past valid run none ∙ zeros past where
  zeros : (past : List Entry) → taken_in (λ b. 0) past ≡ 0
  zeros [] = refl
  zeros (e ∷ past) = omega (arith, zeros past)

pub work_by_tree : (s : ScriptData) → IsValid s → (from to : ℕ) (b : Body) → IsMeant s from to b
    → is_work b ≡ over 0 (λ t. over 0 (λ k. asks t k b) (subs_at s t)) s.trees
work_by_tree s valid from to (Root u) meant = sym (work_hit s u.0 0 meant.tree (has_root s u.0 valid meant.tree))
work_by_tree s valid from to (SubLetter u j v) meant = sym (work_hit s u.0 j.0 meant.tree meant.sub)
work_by_tree s valid from to Go meant = sym (work_none s)
work_by_tree s valid from to _ meant = sym (work_none s)

pub note_by_tree : (s : ScriptData) (from to : ℕ) (b : Body) → IsMeant s from to b
    → is_note b ≡ over 0 (λ t. over 0 (λ k. tells_done t k b) (subs_at s t)) s.trees
note_by_tree s from to (Done u j v notice) meant = sym (work_hit s u.0 j.0 meant.tree meant.sub)
note_by_tree s from to Go meant = sym (work_none s)
note_by_tree s from to _ meant = sym (work_none s)

wake_by_tree : (s : ScriptData) (from to : ℕ) (b : Body) → IsMeant s from to b
    → is_wake b ≡ over 0 (λ t. over 0 (λ k. wake_of t k b) (subs_at s t)) s.trees
wake_by_tree s from to (Wake u j) meant = sym (work_hit s u.0 j.0 meant.tree meant.sub)
wake_by_tree s from to Go meant = sym (work_none s)
wake_by_tree s from to _ meant = sym (work_none s)

pub reply_by_tree : (s : ScriptData) (from to : ℕ) (b : Body) → IsMeant s from to b → is_reply b ≡ over 0 (λ t. replies_to t b) s.trees
reply_by_tree s from to (Reply u v answer) meant = sym (over_hit 0 u.0 s.trees (omega arith) (omega (arith, meant.0)))
reply_by_tree s from to Go meant = sym (over_none 0 (λ t. 0) s.trees (λ t. refl))
reply_by_tree s from to _ meant = sym (over_none 0 (λ t. 0) s.trees (λ t. refl))

decision_by_tree : (s : ScriptData) (from to : ℕ) (b : Body) → IsMeant s from to b → is_decision b ≡ over 0 (λ t. decide_of t b) s.trees
decision_by_tree s from to (Decide u v commit) meant =
    sym (over_hit 0 u.0 s.trees (omega arith) (omega (arith, strict_below s u.0 meant.strict)))
decision_by_tree s from to Go meant = sym (over_none 0 (λ t. 0) s.trees (λ t. refl))
decision_by_tree s from to _ meant = sym (over_none 0 (λ t. 0) s.trees (λ t. refl))

ack_by_tree : (s : ScriptData) (from to : ℕ) (b : Body) → IsMeant s from to b → is_ack b ≡ over 0 (λ t. ack_of t b) s.trees
ack_by_tree s from to (Decided u v) meant = sym (over_hit 0 u.0 s.trees (omega arith) (omega (arith, strict_below s u.0 meant.strict)))
ack_by_tree s from to Go meant = sym (over_none 0 (λ t. 0) s.trees (λ t. refl))
ack_by_tree s from to _ meant = sym (over_none 0 (λ t. 0) s.trees (λ t. refl))

release_by_tree : (s : ScriptData) (from to : ℕ) (b : Body) → IsMeant s from to b → is_release b ≡ over 0 (λ t. release_of t b) s.trees
release_by_tree s from to (Release u) meant =
    sym (over_hit 0 u.0 s.trees (omega arith) (omega (arith, update_below s u.0 (slice_get s.trees u.0) refl meant.update)))
release_by_tree s from to Go meant = sym (over_none 0 (λ t. 0) s.trees (λ t. refl))
release_by_tree s from to _ meant = sym (over_none 0 (λ t. 0) s.trees (λ t. refl))

-- What is taken for a tree.
taken_few : (f : Body → ℕ) (s : ScriptData) (past : List Entry) → IsStepRun s past → f Go ≡ 0 → taken_in f past ≤ sent_in f past
taken_few f s past run none = omega (arith, none, taken_sent f s past run)

pub asks_sent : (s : ScriptData) (past : List Entry) (t k : ℕ) → IsValid s → IsStepRun s past
    → sent_in (asks t k) past ≡ letters_asking s past t k + turns past t k
asks_sent s [] t k valid run = omega (arith, outstanding_first (λ (l : Letter). asks t k l.body) s)
asks_sent s (e ∷ past) t k valid run =
    omega (
      arith,
      asks_sent s past t k valid run.1,
      outstanding_flow (asks t k) s past e (λ u j. refl) run.0,
      turned_by s past e t k (enters s past e valid (all_apt s (e ∷ past) valid run) run),
    )

works_few : (s : ScriptData) (past : List Entry) (t k : ℕ) → IsValid s → IsStepRun s past → t < length s.trees → k < length (subs_at s t)
    → taken_in (asks t k) past ≤ 1
works_few s past t k valid run lt kt =
    let sub : SubAt s t k = sub_there s t k lt kt in
    omega (
      arith,
      taken_few (asks t k) s past run refl,
      asks_sent s past t k valid run,
      turns_come_once s past t k sub.sub valid (all_apt s past valid run) run (sub_here s t k sub),
    )

told_less : (t k : ℕ) (b : Body) → told t k b ≤ asks t k b
told_less t k (SubLetter u j v) = omega arith
told_less t k Go = omega arith
told_less t k _ = omega arith

told_root : (s : ScriptData) (to t : ℕ) (b : Body) → strays s to b ≡ 0 → told t 0 b ≡ 0
told_root s to t (SubLetter u j v) near = later u.0 t j.0 (omega (arith, near)) where
  later : (u t j : ℕ) → one_if (j == 0) ≡ 0 → one_if ((u == t) && (j == 0)) ≡ 0
  later u t j none = grind (arith, nat_tests)
told_root s to t Go near = refl
told_root s to t _ near = refl

pub notes_sent : (s : ScriptData) (past : List Entry) (e : Entry) (t k : ℕ) → (n : Enters s past e) → tally (on (tells_done t k)) e.sent ≡ told t k n.body
notes_sent s past e t k n =
    omega (
      arith,
      n.sends (on (tells_done t k)) (tells_of t k),
      sent_tells s t k n.version n.notice n.body,
      roots_none (tells_done t k) s n.before n.rows (record { root = λ u. refl; advance = refl; numbered = λ i. refl; lose = refl }),
    )

notes_most : (s : ScriptData) (past : List Entry) (t k : ℕ) → IsValid s → IsStepRun s past → sent_in (tells_done t k) past ≤ turns past t k
notes_most s [] t k valid run = omega arith
notes_most s (e ∷ past) t k valid run =
    let n = enters s past e valid (all_apt s (e ∷ past) valid run) run in
    omega (
      arith,
      notes_most s past t k valid run.1,
      notes_sent s past e t k n,
      told_less t k n.body,
      n.done (asks t k) refl,
      turned_by s past e t k n,
    )

pub notes_root : (s : ScriptData) (past : List Entry) (t : ℕ) → IsValid s → IsStepRun s past → sent_in (tells_done t 0) past ≡ 0
notes_root s [] t valid run = refl
notes_root s (e ∷ past) t valid run =
    let n = enters s past e valid (all_apt s (e ∷ past) valid run) run in
    omega (arith, notes_root s past t valid run.1, notes_sent s past e t 0 n, told_root s n.to t n.body n.near)

notes_few : (s : ScriptData) (past : List Entry) (t : ℕ) → IsValid s → IsStepRun s past → t < length s.trees
    → over 0 (λ k. taken_in (tells_done t k) past) (subs_at s t) + 1 ≤ length (subs_at s t)
notes_few s past t valid run lt =
    over_later (λ k. taken_in (tells_done t k) past) (subs_at s t) (omega (arith, has_root s t valid lt))
    (omega (arith, taken_few (tells_done t 0) s past run refl, notes_root s past t valid run))
    (λ k kt.
    omega (
      arith,
      taken_few (tells_done t k) s past run refl,
      notes_most s past t k valid run,
      turns_at_most_once s past t k (sub_there s t k lt kt) valid (all_apt s past valid run) run,
    ))

-- All that is taken.
works_most : (s : ScriptData) (past : List Entry) → IsValid s → IsStepRun s past → taken_in is_work past ≤ all_subs s.trees
works_most s past valid run =
    let works = taken_same is_work (λ b. over 0 (λ t. over 0 (λ k. asks t k b) (subs_at s t)) s.trees) s past valid run (work_by_tree s valid)
    ∙ taken_over (λ t b. over 0 (λ k. asks t k b) (subs_at s t)) s.trees past in
    let each = over_most 0 (λ t. taken_in (λ b. over 0 (λ k. asks t k b) (subs_at s t)) past) (λ t. length (subs_at s t)) s.trees (λ t le lt.
    omega (
      arith,
      taken_over (asks t) (subs_at s t) past,
      over_few 0 (λ k. taken_in (asks t k) past) (subs_at s t) (λ k from kt.
          works_few s past t k valid run (omega (arith, lt)) (omega (arith, kt))),
    )) in
    omega (arith, works, each, all_subs_here s)

notes_all : (s : ScriptData) (past : List Entry) → IsValid s → IsStepRun s past → taken_in is_note past + length s.trees ≤ all_subs s.trees
notes_all s past valid run =
    let notes = taken_same is_note (λ b. over 0 (λ t. over 0 (λ k. tells_done t k b) (subs_at s t)) s.trees) s past valid run (note_by_tree s)
    ∙ taken_over (λ t b. over 0 (λ k. tells_done t k b) (subs_at s t)) s.trees past in
    let each = over_least 0 (λ t. taken_in (λ b. over 0 (λ k. tells_done t k b) (subs_at s t)) past) (λ t. length (subs_at s t)) s.trees (λ t le lt.
    omega (arith, taken_over (tells_done t) (subs_at s t) past, notes_few s past t valid run (omega (arith, lt)))) in
    omega (arith, notes, each, all_subs_here s)

replies_most : (s : ScriptData) (past : List Entry) → IsValid s → IsStepRun s past → taken_in is_reply past ≤ length s.trees
replies_most s past valid run =
    let replies = taken_same is_reply (λ b. over 0 (λ t. replies_to t b) s.trees) s past valid run (reply_by_tree s)
    ∙ taken_over replies_to s.trees past in
    let few = over_few 0 (λ t. taken_in (replies_to t) past) s.trees (λ t le lt.
    omega (arith, taken_replies s past t run, answered_once s past t valid run (omega (arith, lt)))) in
    omega (arith, replies, few)

-- Letters of advancements.
stages_most : (phase : Phase) → stages phase ≤ 3 * running phase
stages_most Idle = omega arith
stages_most Turning = omega arith
stages_most (Counting true) = omega arith
stages_most (Counting false) = omega arith
stages_most (Paused true) = omega arith
stages_most (Paused false) = omega arith
stages_most Showing = omega arith
stages_most Sweeping = omega arith

apart_most : (n a t u run stage round asked x : ℕ) → x + 6 * n + 1 ≤ asked + (u * (6 * n + 1) + 2 * n * stage + 4 * n * round)
    → u + run ≤ a + 1 → asked ≤ a → stage ≤ 3 * run → round ≤ 2 * a + t → x ≤ a * (2 + 6 * n) + 4 * n * (2 * a + t)
apart_most n a t u run stage round asked x is up most few rounds =
    let one : 2 * n * stage ≤ 2 * n * (3 * run) = mul-le-mul_left (2 * n) few in
    let two : (6 * n + 1) * (u + run) ≤ (6 * n + 1) * (a + 1) = mul-le-mul_left (6 * n + 1) up in
    let three : 4 * n * round ≤ 4 * n * (2 * a + t) = mul-le-mul_left (4 * n) rounds in
    omega (arith, is, one, two, three, most)

aparts_kept : (s : ScriptData) (past : List Entry) → IsValid s → is_lossy s ≡ false → IsStepRun s past
    → taken_in is_apart past ≤ advances_in s.rows * (2 + 6 * s.nodes) + 4 * s.nodes * (2 * advances_in s.rows + length s.trees)
aparts_kept s past valid keeps run =
    let c = coordinator_in s past in
    let now = small s past (lawful s valid keeps) run (all_apt s past valid run) in
    let most : asked_for s past ≤ advances_in s.rows = asked_most (client_in s past).next s.rows in
    apart_most s.nodes (advances_in s.rows) (length s.trees) c.update (running c.phase) (stages c.phase) c.count.number (asked_for s past) (taken_in is_apart past)
    (omega (arith, paid s past valid keeps run)) (omega (arith, now.asked, most)) most (stages_most c.phase)
    (rounds_by_trees s past (lawful s valid keeps) run (all_apt s past valid run))

-- of either coordinator
aparts_most : (s : ScriptData) (past : List Entry) → IsValid s → IsStepRun s past
    → taken_in is_apart past
    ≤ advances_in s.rows * (2 + 6 * s.nodes) + 4 * s.nodes * (2 * advances_in s.rows + length s.trees) + lossy_entries s
aparts_most s past valid run = by (is_lossy s) refl where
  by : (loses : Bool) → is_lossy s ≡ loses
      → taken_in is_apart past
      ≤ advances_in s.rows * (2 + 6 * s.nodes) + 4 * s.nodes * (2 * advances_in s.rows + length s.trees) + lossy_entries s
  by true is = aparts_anew s past valid is run
  by false is = omega (arith, aparts_kept s past valid is run)

-- The client begins once.
abbrev IsNoGo : ℕ → Body → Type 0
IsNoGo to body = is_go body ≡ 0

children_go : (s : ScriptData) (u : TreeNo) → OfChildren IsNoGo s u
children_go s u v parent =
    each_zero (on is_go) (sub_letters u.0 v parent 0 (subs_at s u.0)) (subs_none is_go u.0 v parent 0 (subs_at s u.0) (λ w j x. refl))

tree_go : (s : ScriptData) (u : TreeNo) → OfTree IsNoGo s u
tree_go s u = record {
  children = children_go s u;
  reply = λ v answer. refl;
  release = λ q some up at. refl;
  decide = λ q v commit strict at. refl;
}

row_go : (s : ScriptData) (c : Core) (body : Body) → OfRow IsNoGo s c body
row_go s c (Root u) = tree_go s u
row_go s c (SubLetter u j v) = (children_go s u, λ w notice fits. refl)
row_go s c (Done u j v notice) = tree_go s u
row_go s c (Decide u v commit) = refl
row_go s c (Decided u v) = λ a answer is. refl
row_go s c (Turn v) = refl
row_go s c (Show v) = refl
row_go s c (Sweep v) = refl
row_go s c (AskDone v j) = λ row is. refl
row_go s c (AskAsked v j) = λ row is. refl
row_go s c (Order e what v) = refl
row_go s c (Ask e) = λ u r l. refl
row_go s c _ = tt

go_no_others : CountsNoOthers is_go
go_no_others =
    none_of_others is_go (λ u. refl) (λ v. (refl, (refl, refl))) (λ e what v. (refl, refl)) (λ v k. (refl, refl)) (λ v. refl)
    (refl, (refl, refl)) (λ e k. (refl, refl))

entry_go : (s : ScriptData) (past : List Entry) (e : Entry) → Case s past e → tally (on is_go) e.sent ≡ 0
entry_go s past e (NodeDoes p r d) =
    let c : Core = (keeping_in s past p).core in
    let more : List Outgoing = wakes (woken_by (keeping_in s past p).core r.body) (kept_without (kept_in s past p) e.took.body) in
    omega (
      arith,
      ap (λ (os : List Outgoing). tally (on is_go) os) d.sent,
      tally-append (on is_go) (core_row s p c r.from.0 r.body).sent more,
      wakes_none (on is_go) (woken_by (keeping_in s past p).core r.body) (kept_without (kept_in s past p) e.took.body) (λ x. refl),
      each_none (on is_go) (core_row s p c r.from.0 r.body).sent (core_each IsNoGo s p r.from.0 r.body c (row_go s c r.body)),
    )
entry_go s past e (NodeKeeps p r o d) = ap (λ (os : List Outgoing). tally (on is_go) os) d.sent
entry_go s past e (Coordinates at made) = coordinator_none is_go s e made go_no_others
entry_go s past e (Submits at says) =
    ap (λ (os : List Outgoing). tally (on is_go) os) says.0 ∙ client_none is_go s (client_in s past) e.took.body go_no_others

pub no_go : (s : ScriptData) (past : List Entry) → IsValid s → IsStepRun s past → sent_in is_go past ≡ 0
no_go s [] valid run = refl
no_go s (e ∷ past) valid run =
    omega (arith, no_go s past valid run.1, entry_go s past e (case s past e run.0 (all_apt s (e ∷ past) valid run).0))

-- What strict trees add, by trees.
kind_strict : (s : ScriptData) (t : ℕ) (tree : Tree) → slice_get s.trees t ≡ Some tree → is_strict_at s t ≡ is_strict tree.kind
kind_strict s t tree at = rw (at, is_strict_at) refl

kind_updates : (s : ScriptData) (t : ℕ) (tree : Tree) → slice_get s.trees t ≡ Some tree → updates s t ≡ is_update tree.kind
kind_updates s t tree at = rw (at, updates) refl

other_strict : (s : ScriptData) (u t : ℕ) → is_strict_at s u ≡ true → is_strict_at s t ≡ false → one_if (u == t) ≡ 0
other_strict s u t strict none = by (u == t) refl where
  by : (b : Bool) → (u == t) ≡ b → one_if b ≡ 0
  by false is = refl
  by true is =
      let same : u ≡ t = grind (arith, nat_tests) in
      let its : is_strict_at s t ≡ true = subst (λ (n : ℕ). is_strict_at s n ≡ true) same strict in
      absurd (cc (its, none))

other_update : (s : ScriptData) (u t : ℕ) → updates s u ≡ true → updates s t ≡ false → one_if (u == t) ≡ 0
other_update s u t up none = by (u == t) refl where
  by : (b : Bool) → (u == t) ≡ b → one_if b ≡ 0
  by false is = refl
  by true is =
      let same : u ≡ t = grind (arith, nat_tests) in
      let its : updates s t ≡ true = subst (λ (n : ℕ). updates s n ≡ true) same up in
      absurd (cc (its, none))

decide_other : (s : ScriptData) (t : ℕ) → is_strict_at s t ≡ false → (from to : ℕ) (b : Body) → IsMeant s from to b → decide_of t b ≡ 0
decide_other s t none from to (Decide u v commit) meant = other_strict s u.0 t meant.strict none
decide_other s t none from to Go meant = refl
decide_other s t none from to _ meant = refl

ack_other : (s : ScriptData) (t : ℕ) → is_strict_at s t ≡ false → (from to : ℕ) (b : Body) → IsMeant s from to b → ack_of t b ≡ 0
ack_other s t none from to (Decided u v) meant = other_strict s u.0 t meant.strict none
ack_other s t none from to Go meant = refl
ack_other s t none from to _ meant = refl

release_other : (s : ScriptData) (t : ℕ) → updates s t ≡ false → (from to : ℕ) (b : Body) → IsMeant s from to b → release_of t b ≡ 0
release_other s t none from to (Release u) meant = other_update s u.0 t meant.update none
release_other s t none from to Go meant = refl
release_other s t none from to _ meant = refl

-- a number that only strict trees have, and one that only update trees have
strict_only : (s : ScriptData) (n t : ℕ) (tree : Tree) (kind : TreeKind) → slice_get s.trees t ≡ Some tree → tree.kind ≡ kind
    → (is_strict_at s t ≡ false → n ≡ 0) → n ≤ length (subs_at s t) → n ≤ if_strict kind (length tree.subs)
strict_only s n t tree Strict at is none most = omega (arith, most, subs_at_here s t tree at)
strict_only s n t tree Update at is none most = omega (arith, none (kind_strict s t tree at ∙ ap is_strict is))
strict_only s n t tree Read at is none most = omega (arith, none (kind_strict s t tree at ∙ ap is_strict is))

update_only : (s : ScriptData) (n t : ℕ) (tree : Tree) (kind : TreeKind) → slice_get s.trees t ≡ Some tree → tree.kind ≡ kind
    → (updates s t ≡ false → n ≡ 0) → n ≤ length (subs_at s t) → n ≤ if_update kind (length tree.subs)
update_only s n t tree Update at is none most = omega (arith, most, subs_at_here s t tree at)
update_only s n t tree Strict at is none most = omega (arith, none (kind_updates s t tree at ∙ ap is_update is))
update_only s n t tree Read at is none most = omega (arith, none (kind_updates s t tree at ∙ ap is_update is))

decisions_all : (s : ScriptData) (past : List Entry) → IsValid s → IsStepRun s past → taken_in is_decision past ≤ strict_subs s.trees
decisions_all s past valid run =
    let all = taken_same is_decision (λ b. over 0 (λ t. decide_of t b) s.trees) s past valid run (decision_by_tree s) ∙ taken_over decide_of s.trees past in
    let each = by_trees s (λ t. taken_in (decide_of t) past) (λ (tree : Tree). if_strict tree.kind (length tree.subs)) (λ t tree at.
    strict_only s (taken_in (decide_of t) past) t tree tree.kind at refl (λ none. taken_none (decide_of t) s past valid run (decide_other s t none))
    (decides_few s past t valid run (tree_lt s.trees t tree at))) in
    omega (arith, all, each)

acks_all : (s : ScriptData) (past : List Entry) → IsValid s → IsStepRun s past → taken_in is_ack past ≤ strict_subs s.trees
acks_all s past valid run =
    let all = taken_same is_ack (λ b. over 0 (λ t. ack_of t b) s.trees) s past valid run (ack_by_tree s) ∙ taken_over ack_of s.trees past in
    let each = by_trees s (λ t. taken_in (ack_of t) past) (λ (tree : Tree). if_strict tree.kind (length tree.subs)) (λ t tree at.
    strict_only s (taken_in (ack_of t) past) t tree tree.kind at refl (λ none. taken_none (ack_of t) s past valid run (ack_other s t none))
    (acks_few s past t valid run (tree_lt s.trees t tree at))) in
    omega (arith, all, each)

releases_all : (s : ScriptData) (past : List Entry) → IsValid s → IsStepRun s past → taken_in is_release past ≤ update_subs s.trees
releases_all s past valid run =
    let all = taken_same is_release (λ b. over 0 (λ t. release_of t b) s.trees) s past valid run (release_by_tree s) ∙ taken_over release_of s.trees past in
    let each = by_trees s (λ t. taken_in (release_of t) past) (λ (tree : Tree). if_update tree.kind (length tree.subs)) (λ t tree at.
    update_only s (taken_in (release_of t) past) t tree tree.kind at refl (λ none. taken_none (release_of t) s past valid run (release_other s t none))
    (releases_few s past t valid run (tree_lt s.trees t tree at))) in
    omega (arith, all, each)

-- Wakes.
over_times : {X : Type 0} (i n : ℕ) (f : ℕ → ℕ) (xs : List X) → ((k : ℕ) → i ≤ k → k < i + length xs → f k ≤ n) → over i f xs ≤ n * length xs
over_times i n f [] few = omega arith
over_times i n f (x ∷ xs) few =
    omega (arith, few i (omega arith) (omega arith), over_times (i + 1) n f xs (λ k le lt. few k (omega (arith, le)) (omega (arith, lt))))

over_zero : {X : Type 0} (i : ℕ) (f : ℕ → ℕ) (xs : List X) → ((k : ℕ) → i ≤ k → k < i + length xs → f k ≡ 0) → over i f xs ≡ 0
over_zero i f [] none = refl
over_zero i f (x ∷ xs) none =
    omega (arith, none i (omega arith) (omega arith), over_zero (i + 1) f xs (λ k le lt. none k (omega (arith, le)) (omega (arith, lt))))

over_one : {X : Type 0} (n : ℕ) (f : ℕ → ℕ) (xs : List X) → f 0 ≤ n → ((k : ℕ) → 0 < k → k < length xs → f k ≡ 0) → over 0 f xs ≤ n
over_one n f [] first none = omega arith
over_one n f (x ∷ xs) first none =
    omega (arith, first, over_zero 1 f xs (λ k le lt. none k (omega (arith, le)) (omega (arith, lt))))

strict_most : (s : ScriptData) → over 0 (λ h. one_if (is_strict_at s h)) s.trees ≤ strict_trees s.trees
strict_most s =
    let each = by_trees s (λ h. one_if (is_strict_at s h)) (λ (tree : Tree). one_if (is_strict tree.kind)) (λ t tree at.
    omega (arith, ap one_if (kind_strict s t tree at))) in
    omega (arith, each)

-- of a tree, by its kind
wakes_of : (s : ScriptData) (past : List Entry) (t : ℕ) (tree : Tree) (kind : TreeKind) → IsValid s → IsStepRun s past
    → slice_get s.trees t ≡ Some tree → tree.kind ≡ kind
    → over 0 (λ k. sent_in (wake_of t k) past) (subs_at s t)
    ≤ strict_trees s.trees * if_update kind (length tree.subs) + advances_in s.rows * one_if (is_strict kind)
wakes_of s past t tree Update valid run at is =
    let up : updates s t ≡ true = kind_updates s t tree at ∙ ap is_update is in
    let all = over_times 0 (strict_trees s.trees) (λ k. sent_in (wake_of t k) past) (subs_at s t) (λ k le kt.
    omega (arith, update_wakes s past t k valid run (sub_node_below s t k valid (omega (arith, kt))) up, strict_most s)) in
    let same : strict_trees s.trees * length (subs_at s t) ≡ strict_trees s.trees * length tree.subs =
    ap (λ (n : ℕ). strict_trees s.trees * n) (subs_at_here s t tree at) in
    omega (arith, all, same)
wakes_of s past t tree Strict valid run at is =
    let strict : is_strict_at s t ≡ true = kind_strict s t tree at ∙ ap is_strict is in
    omega (
      arith,
      over_one (advances_in s.rows) (λ k. sent_in (wake_of t k) past) (subs_at s t) (root_wakes s past t valid run strict) (λ k some kt.
          strict_wakes s past t k valid run (sub_node_below s t k valid kt) strict some),
    )
wakes_of s past t tree Read valid run at is =
    let none : is_strict_at s t ≡ false = kind_strict s t tree at ∙ ap is_strict is in
    let other : updates s t ≡ false = kind_updates s t tree at ∙ ap is_update is in
    omega (
      arith,
      over_zero 0 (λ k. sent_in (wake_of t k) past) (subs_at s t) (λ k le kt.
          read_wakes s past t k valid run (sub_node_below s t k valid (omega (arith, kt))) none other),
    )

kinds_sum : (n a : ℕ) (ts : List Tree) → tally (λ (t : Tree). n * if_update t.kind (length t.subs) + a * one_if (is_strict t.kind)) ts
    ≡ n * update_subs ts + a * strict_trees ts
kinds_sum n a [] = omega arith
kinds_sum n a (t ∷ ts) = omega (arith, kinds_sum n a ts)

wakes_all : (s : ScriptData) (past : List Entry) → IsValid s → IsStepRun s past
    → taken_in is_wake past ≤ strict_trees s.trees * update_subs s.trees + strict_trees s.trees * advances_in s.rows
wakes_all s past valid run =
    let all = taken_same is_wake (λ b. over 0 (λ t. over 0 (λ k. wake_of t k b) (subs_at s t)) s.trees) s past valid run (wake_by_tree s)
    ∙ taken_over (λ t b. over 0 (λ k. wake_of t k b) (subs_at s t)) s.trees past in
    let each = by_trees s (λ t. taken_in (λ b. over 0 (λ k. wake_of t k b) (subs_at s t)) past)
    (λ (tree : Tree). strict_trees s.trees * if_update tree.kind (length tree.subs) + advances_in s.rows * one_if (is_strict tree.kind)) (λ t tree at.
    omega (
      arith,
      taken_over (wake_of t) (subs_at s t) past,
      over_most 0 (λ k. taken_in (wake_of t k) past) (λ k. sent_in (wake_of t k) past) (subs_at s t)
          (λ k le kt. taken_few (wake_of t k) s past run refl),
      wakes_of s past t tree tree.kind valid run at refl,
    )) in
    omega (arith, all, each, kinds_sum (strict_trees s.trees) (advances_in s.rows) s.trees)

-- Where no tree is strict nothing is added.
no_strict_subs : (ts : List Tree) → strict_trees ts ≡ 0 → strict_subs ts ≡ 0
no_strict_subs [] none = refl
no_strict_subs (t ∷ ts) none = omega (arith, by t.kind (omega (arith, none)), no_strict_subs ts (omega (arith, none))) where
  by : (kind : TreeKind) → one_if (is_strict kind) ≡ 0 → if_strict kind (length t.subs) ≡ 0
  by Strict is = absurd (omega (arith, is))
  by Update is = refl
  by Read is = refl

plain_release : (s : ScriptData) → has_strict s ≡ false → (from to : ℕ) (b : Body) → IsMeant s from to b → is_release b ≡ 0
plain_release s none from to (Release t) meant = let some = meant.some_strict in absurd (cc (some, none))
plain_release s none from to Go meant = refl
plain_release s none from to _ meant = refl

plain_wake : (s : ScriptData) → has_strict s ≡ false → (from to : ℕ) (b : Body) → IsMeant s from to b → is_wake b ≡ 0
plain_wake s none from to (Wake t k) meant = let some = meant.some_strict in absurd (cc (some, none))
plain_wake s none from to Go meant = refl
plain_wake s none from to _ meant = refl

pub strict_few : (s : ScriptData) (past : List Entry) → IsValid s → IsStepRun s past
    → taken_in is_decision past + taken_in is_ack past + taken_in is_release past + taken_in is_wake past ≤ strict_entries s
strict_few s past valid run = by (has_strict s) refl where
  by : (b : Bool) → has_strict s ≡ b
      → taken_in is_decision past + taken_in is_ack past + taken_in is_release past + taken_in is_wake past
      ≤ (if b
      then update_subs s.trees + 2 * strict_subs s.trees + strict_trees s.trees * update_subs s.trees
      + strict_trees s.trees * advances_in s.rows
      else 0)
  by true is =
      omega (arith, decisions_all s past valid run, acks_all s past valid run, releases_all s past valid run, wakes_all s past valid run)
  by false is =
      omega (
        arith,
        decisions_all s past valid run,
        acks_all s past valid run,
        no_strict_subs s.trees (eqb-true (strict_trees s.trees) 0 (not-false (strict_trees s.trees == 0) is)),
        taken_none is_release s past valid run (plain_release s is),
        taken_none is_wake s past valid run (plain_wake s is),
      )

-- The law.
pub entries_few : (s : ScriptData) (past : List Entry) → IsValid s → IsStepRun s past → length past ≤ entries_most s
entries_few s past valid run =
    omega (
      arith,
      counted s past valid run,
      taken_sent is_go s past run,
      no_go s past valid run,
      works_most s past valid run,
      notes_all s past valid run,
      replies_most s past valid run,
      nudges_few s past valid (all_apt s past valid run) run,
      aparts_most s past valid run,
      strict_few s past valid run,
      some_subs s.nodes s.items s.trees valid.trees,
    )

-- In a script without strict trees that is what two rounds for each advancement and one for each tree make, and what forgetting
-- adds.
pub plain_most : (s : ScriptData) → has_strict s ≡ false
    → entries_most s ≡ entries_of s (2 * advances_in s.rows + length s.trees) + lossy_entries s
plain_most s none = rw none (omega arith)

-- By the limits of scripts that is a small number.
kinds_split : (ts : List Tree) → update_subs ts + strict_subs ts ≤ all_subs ts
kinds_split [] = omega arith
kinds_split (t ∷ ts) = omega (arith, by t.kind, kinds_split ts) where
  by : (kind : TreeKind) → if_update kind (length t.subs) + if_strict kind (length t.subs) ≤ length t.subs
  by Update = omega arith
  by Strict = omega arith
  by Read = omega arith

strict_small : (s : ScriptData) → IsValid s → strict_entries s ≤ 1300000
strict_small s valid = by (has_strict s) where
  by : (b : Bool) → (if b
      then update_subs s.trees + 2 * strict_subs s.trees + strict_trees s.trees * update_subs s.trees
      + strict_trees s.trees * advances_in s.rows
      else 0)
      ≤ 1300000
  by true =
      let roots = mul-le-mul_left (strict_trees s.trees) valid.limited.advances in
      omega (arith, kinds_split s.trees, valid.limited.subs, valid.limited.pairs, valid.limited.strict, roots)
  by false = omega arith

lossy_small : (s : ScriptData) → IsValid s → lossy_entries s ≤ 64400
lossy_small s valid =
    mul-le (loses_in s.rows) (10 * s.nodes + 4) 100 644 valid.limited.loses (omega (arith, few_nodes s valid))

most_small : (s : ScriptData) → IsValid s → entries_most s ≤ 3000000
most_small s valid =
    let each = mul-le-mul_left s.nodes valid.limited.advances in
    omega (
      arith,
      each,
      few_nodes s valid,
      valid.few_trees,
      valid.limited.subs,
      valid.limited.advances,
      valid.limited.places,
      strict_small s valid,
      lossy_small s valid,
    )

pub entries_small : (s : ScriptData) (past : List Entry) → IsValid s → IsStepRun s past → length past ≤ 3000000
entries_small s past valid run = omega (arith, entries_few s past valid run, most_small s valid)
