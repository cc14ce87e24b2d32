-- What rows send and do of the marks of a transaction: a row frees what its message releases, and sends a node at most
-- one Release of a transaction, if it answers it.
use Rattle.std.proofs.Common.{◌≡◌, ℕ, zero, suc, ◌+◌, ◌≤◌, ◌==◌, Bool, true, false, List, [], ◌∷◌, ◌++◌, refl, ap, ◌∙◌, arith, Option, Some, None}
use Rattle.std.specs.Prelude.{if◌then◌else◌, nat_lt}
use Rattle.std.proofs.lemmas.Bool.Decides.{nat_tests}
use Rattle.tv_base.specs.declared.numbers.SubNo.{SubNo}
use Rattle.tv_base.specs.declared.numbers.TreeNo.{TreeNo}
use Rattle.tv_base.specs.declared.numbers.Version.{Version}
use Rattle.tv_base.proofs.Chosen.{if_most, if_zero}
use Rattle.letter_types.specs.declared.acts.Act.{Act}
use Rattle.letter_types.specs.declared.acts.Act.TheVariants as acts
use Rattle.letter_types.specs.declared.bodies.Body.{Body}
use Rattle.letter_types.specs.declared.bodies.Body.TheVariants.{Go, Root, Sub as SubLetter, Done, Turn, Show, Sweep, Decide, Decided, Release, AskDone, AskAsked, Reply, Order, Ask, Obeyed, Numbers}
use Rattle.letter_types.specs.declared.bodies.Notice.{Notice}
use Rattle.letter_types.specs.declared.bodies.Notice.TheVariants as notices
use Rattle.letter_types.specs.declared.entries.Outgoing.{Outgoing}
use Rattle.letter_types.specs.declared.votes.Vote.{Vote}
use Rattle.tree_home.specs.HeldAnswers.{answer_when_acked}
use Rattle.letter_types.specs.Steps.{Out}
use Rattle.tree_home.specs.declared.homes.Answered.{Answered}
use Rattle.script_parts.specs.declared.parts.Sub.{Sub}
use Rattle.script_parts.specs.declared.parts.TreeKind.{TreeKind}
use Rattle.script_parts.specs.declared.parts.TreeKind.TheVariants.{Update, Read, Strict}
use Rattle.script_parts.specs.ScriptData.{visited, visited_by}
use Rattle.script_parts.specs.ScriptData.{ScriptData, client_of, home_of, subs_at, visits}
use Rattle.world_model.specs.Advancing.{to_coordinator}
use Rattle.world_model.specs.Asked.{asked_ops, asked_version, tree_part}
use Rattle.world_model.specs.Children.{done_letter, sub_letters}
use Rattle.world_model.specs.Core.{Core}
use Rattle.world_model.specs.Counts.{one_if, tally}
use Rattle.world_model.specs.Done.{TreeOut, note_part}
use Rattle.world_model.specs.Named.{is_strict_at, tree_kind_at}
use Rattle.world_model.specs.Node.{Effect, Node}
use Rattle.world_model.specs.Notices.{act_of, reply_letters, values_of}
use Rattle.world_model.specs.Strict.{answered, core_by_kind, core_row, decided, locks_by, marks, marks_of, none_refuses, note_core, noted_vote, notice_by, refused_there, release_letters, to_each, voting}
use Rattle.world_model.specs.Reads.{getting}
use Rattle.world_model.specs.Updates.{touching}
use Rattle.world_model.specs.Votes.{vote_of}
use Rattle.nc_locks.specs.Locks.{with_locks}
use Rattle.world_model.proofs.Bags.{one_if_most, tally-append}
use Rattle.world_model.proofs.Epochs.{ask_each, order_each}
use Rattle.world_model.proofs.Sends.{on, subs_none}
use Rattle.tree_laws.specs.Dids.{replies_to}
use Rattle.tree_laws.proofs.histories.Turns.{answers_none, each_told, replies_none}
use Rattle.run_laws.proofs.act_order.RowActs.{asked_acts, is_lasting, lasting_acts, row_lasts, tally_lasting}

-- a letter that releases tree t, and one to node q
abbrev pub releases_of : ℕ → Body → ℕ
releases_of t (Release u) = one_if (u.0 == t)
releases_of t Go = 0
releases_of t _ = 0

abbrev pub released_to : ℕ → ℕ → Outgoing → ℕ
released_to t q o = if o.to.0 == q then releases_of t o.body else 0

-- the act frees the marks of tree t
abbrev pub has_freed : ℕ → Act → ℕ
has_freed t (acts.Freed u) = one_if (u.0 == t)
has_freed t acts.Finished = 0
has_freed t _ = 0

-- What a row frees.
freed_quiet : (t : ℕ) (a : Act) → is_lasting a ≡ false → has_freed t a ≡ 0
freed_quiet t (acts.Freed u) quiet = absurd (cc quiet)
freed_quiet t acts.Finished quiet = refl
freed_quiet t _ quiet = refl

told_frees : (t : ℕ) (u : TreeNo) (k : SubNo) (n : Notice) → has_freed t (act_of u k n) ≡ 0
told_frees t u k (notices.Did values) = refl
told_frees t u k (notices.Yes values) = refl
told_frees t u k (notices.No cause) = refl

asked_frees : (s : ScriptData) (c : Core) (t : ℕ) (u : TreeNo) (k : SubNo) (body : Body) (kind : Option TreeKind)
    → tally (has_freed t) (asked_acts s c u k body kind) ≡ 0
asked_frees s c t u k body (Some Update) = refl
asked_frees s c t u k body (Some Read) = refl
asked_frees s c t u k body (Some Strict) =
    omega (
      arith,
      told_frees t u k (notice_by (vote_of c.locks c.node.items u (asked_version c.node.turns.update body) (asked_ops s body))),
    )
asked_frees s c t u k body None = refl

lasting_frees : (s : ScriptData) (c : Core) (t : ℕ) (body : Body) → tally (has_freed t) (lasting_acts s c body) ≡ releases_of t body
lasting_frees s c t (Root u) = asked_frees s c t u (record { 0 = 0 }) (Root u) (tree_kind_at s u.0)
lasting_frees s c t (SubLetter u k v) = asked_frees s c t u k (SubLetter u k v) (tree_kind_at s u.0)
lasting_frees s c t (Decide u v commit) = refl
lasting_frees s c t (Release u) = omega arith
lasting_frees s c t Go = refl
lasting_frees s c t _ = refl

pub row_frees : (s : ScriptData) (p from t : ℕ) (body : Body) (c : Core) → tally (has_freed t) (core_row s p c from body).acts ≡ releases_of t body
row_frees s p from t body c =
    tally_lasting (has_freed t) (freed_quiet t) (core_row s p c from body).acts
    ∙ ap (λ (xs : List Act). tally (has_freed t) xs) (row_lasts s p from body c) ∙ lasting_frees s c t body

-- What a row sends.
pub to_less : (t q : ℕ) (os : List Outgoing) → tally (released_to t q) os ≤ tally (on (releases_of t)) os
to_less t q [] = omega arith
to_less t q (o ∷ os) = omega (arith, if_most (o.to.0 == q) (releases_of t o.body), to_less t q os)

pub none_to : (t q : ℕ) (os : List Outgoing) → tally (on (releases_of t)) os ≡ 0 → tally (released_to t q) os ≡ 0
none_to t q os none = omega (arith, none, to_less t q os)

-- a tree's nodes are told once each
once_by : (subs : List Sub) (q n : ℕ) → tally (λ (i : ℕ). one_if (i == q)) (visited subs n) ≤ one_if (nat_lt q n)
once_by subs q zero = omega arith
once_by subs q (suc n) = by (visits subs n) (once_by subs q n) where
  more : one_if (nat_lt q n) + one_if (n == q) ≤ one_if (nat_lt q (suc n))
  more = grind (arith, nat_tests)

  by : (b : Bool) → tally (λ (i : ℕ). one_if (i == q)) (visited subs n) ≤ one_if (nat_lt q n)
      → tally (λ (i : ℕ). one_if (i == q)) (visited subs n ++ (if b then n ∷ [] else [])) ≤ one_if (nat_lt q (suc n))
  by true rest = omega (arith, rest, more, tally-append (λ (i : ℕ). one_if (i == q)) (visited subs n) (n ∷ []))
  by false rest = omega (arith, rest, more, tally-append (λ (i : ℕ). one_if (i == q)) (visited subs n) [])

told_by : (t q : ℕ) (u : TreeNo) (qs : List ℕ) (test : Bool) → (u.0 == t) ≡ test
    → tally (released_to t q) (to_each (Release u) qs) ≤ (if test then tally (λ (i : ℕ). one_if (i == q)) qs else 0)
told_by t q u [] true is = omega arith
told_by t q u [] false is = omega arith
told_by t q u (i ∷ qs) true is = omega (arith, told_by t q u qs true is, one (i == q)) where
  one : (b : Bool) → (if b then one_if (u.0 == t) else 0) ≤ one_if b
  one true = rw is (omega arith)
  one false = omega arith
told_by t q u (i ∷ qs) false is = omega (arith, told_by t q u qs false is, one (i == q)) where
  one : (b : Bool) → (if b then one_if (u.0 == t) else 0) ≤ 0
  one true = rw is (omega arith)
  one false = omega arith

each_once : (s : ScriptData) (t q : ℕ) (u : TreeNo) → tally (released_to t q) (to_each (Release u) (visited_by s u.0)) ≤ one_if (u.0 == t)
each_once s t q u = by (u.0 == t) refl where
  by : (test : Bool) → (u.0 == t) ≡ test → tally (released_to t q) (to_each (Release u) (visited_by s u.0)) ≤ one_if test
  by true is = omega (arith, told_by t q u (visited_by s u.0) true is, once_by (subs_at s u.0) q s.nodes, one_if_most (nat_lt q s.nodes))
  by false is = told_by t q u (visited_by s u.0) false is

release_most : (s : ScriptData) (t q : ℕ) (found : Option Answered)
    → tally (released_to t q) (release_letters s found) ≤ tally (on (replies_to t)) (reply_letters (client_of s) found)
release_most s t q None = omega arith
release_most s t q (Some a) = by (marks s a.tree.0) where
  by : (b : Bool) → tally (released_to t q) (if b then to_each (Release a.tree) (visited_by s a.tree.0) else [])
      ≤ tally (on (replies_to t)) (reply_letters (client_of s) (Some a))
  by true = omega (arith, each_once s t q a.tree)
  by false = omega arith

-- a row sends a node at most as many Releases as it sends answers
abbrev pub ReleasesFew : ScriptData → ℕ → ℕ → List Outgoing → Type 0
ReleasesFew s t q os = tally (released_to t q) os ≤ tally (on (replies_to t)) os

none_few : (s : ScriptData) (t q : ℕ) (os : List Outgoing) → tally (on (releases_of t)) os ≡ 0 → ReleasesFew s t q os
none_few s t q os none = omega (arith, none_to t q os none)

answered_few : (s : ScriptData) (t q : ℕ) (c : Core) (o : TreeOut) → tally (on (releases_of t)) o.out.sent ≡ 0 → ReleasesFew s t q (answered s c o).sent
answered_few s t q c o none =
    let replies : List Outgoing = reply_letters (client_of s) o.answered in
    let frees : List Outgoing = release_letters s o.answered in
    omega (
      arith,
      none_to t q o.out.sent none,
      release_most s t q o.answered,
      replies_none (client_of s) (released_to t q) o.answered (λ n u v answer. if_zero (n == q) (releases_of t (Reply u v answer)) refl),
      tally-append (released_to t q) (o.out.sent ++ frees) replies,
      tally-append (released_to t q) o.out.sent frees,
      tally-append (on (replies_to t)) (o.out.sent ++ frees) replies,
    )

decided_none : (s : ScriptData) (t : ℕ) (c : Core) (o : TreeOut) (found : Option Answered) → tally (on (releases_of t)) o.out.sent ≡ 0
    → tally (on (releases_of t)) (decided s c o found).sent ≡ 0
decided_none s t c o None none = none
decided_none s t c o (Some a) none =
    let told : Body = Decide a.tree a.version (none_refuses a.tree c.refusals) in
    omega (
      arith,
      none,
      tally-append (on (releases_of t)) o.out.sent (to_each told (visited_by s a.tree.0)),
      each_told (on (releases_of t)) told (visited_by s a.tree.0) (λ n. refl),
    )

part_none : (t : ℕ) (s : ScriptData) (p from : ℕ) (v : Version) (raises : Bool) (e : Effect) (body : Body) (st : Node)
    → tally (on (releases_of t)) (tree_part s p from v raises e body st).out.sent ≡ 0
part_none t s p from v raises e (Root u) st = subs_none (releases_of t) u.0 v.0 0 0 (subs_at s u.0) (λ w k x. refl)
part_none t s p from v raises e (SubLetter u k w) st =
    omega (
      arith,
      tally-append (on (releases_of t)) (sub_letters u.0 v.0 k.0 0 (subs_at s u.0)) (done_letter (home_of s u.0) u.0 k.0 v.0 e.notice ∷ []),
      subs_none (releases_of t) u.0 v.0 k.0 0 (subs_at s u.0) (λ w j x. refl),
    )
part_none t s p from v raises e _ st = refl

kind_few : (s : ScriptData) (p from t q : ℕ) (u : TreeNo) (body : Body) (kind : Option TreeKind) (c : Core)
    → ReleasesFew s t q (core_by_kind s p from u body kind c).sent
kind_few s p from t q u body (Some Update) c =
    let v : Version = asked_version c.node.turns.update body in
    let raises : Bool = nat_lt c.node.turns.update.0 v.0 in
    let e : Effect = touching v (asked_ops s body) c.node.items in
    answered_few s t q (record c { locks = with_locks u (marks_of s (asked_ops s body)) c.locks })
    (tree_part s p from v raises e body c.node) (part_none t s p from v raises e body c.node)
kind_few s p from t q u body (Some Read) c =
    let v : Version = asked_version c.node.turns.read body in
    let e : Effect = getting v (asked_ops s body) c.node.items in
    answered_few s t q c (tree_part s p from v false e body c.node) (part_none t s p from v false e body c.node)
kind_few s p from t q u body (Some Strict) c =
    let v : Version = asked_version c.node.turns.update body in
    let raises : Bool = nat_lt c.node.turns.update.0 v.0 in
    let vote : Vote = vote_of c.locks c.node.items u v (asked_ops s body) in
    let o : TreeOut = tree_part s p from v raises (voting vote c.node.items) body c.node in
    let noted : Core = record c { locks = locks_by vote u (asked_ops s body) c.locks; refusals = noted_vote body vote c.refusals } in
    none_few s t q (decided s noted o o.answered).sent
    (decided_none s t noted o o.answered (part_none t s p from v raises (voting vote c.node.items) body c.node))
kind_few s p from t q u body None c = omega arith

note_few : (s : ScriptData) (from t q : ℕ) (u : TreeNo) (k : SubNo) (v : Version) (notice : Notice) (c : Core) (strict : Bool)
    → is_strict_at s u.0 ≡ strict → ReleasesFew s t q (note_core s from u k v notice c).sent
note_few s from t q u k v notice c true is =
    let o : TreeOut = note_part from u.0 k.0 v.0 (values_of notice) c.node in
    let noted : Core = record c { refusals = refused_there u k notice c } in
    rw is (none_few s t q (decided s noted o o.answered).sent (decided_none s t noted o o.answered refl))
note_few s from t q u k v notice c false is =
    let o : TreeOut = note_part from u.0 k.0 v.0 (values_of notice) c.node in
    rw is (answered_few s t q c o refl)

pub row_few : (s : ScriptData) (p from t q : ℕ) (body : Body) (c : Core) → ReleasesFew s t q (core_row s p c from body).sent
row_few s p from t q (Root u) c = kind_few s p from t q u (Root u) (tree_kind_at s u.0) c
row_few s p from t q (SubLetter u k v) c = kind_few s p from t q u (SubLetter u k v) (tree_kind_at s u.0) c
row_few s p from t q (Done u k v notice) c = note_few s from t q u k v notice c (is_strict_at s u.0) refl
row_few s p from t q (Decide u v commit) c = none_few s t q (core_row s p c from (Decide u v commit)).sent refl
row_few s p from t q (Decided u v) c =
    none_few s t q (core_row s p c from (Decided u v)).sent
    (answers_none s c.refusals (on (releases_of t)) (answer_when_acked u c.holds) (λ n w x answer. refl))
row_few s p from t q (Release u) c = omega arith
row_few s p from t q (Turn v) c = none_few s t q (core_row s p c from (Turn v)).sent refl
row_few s p from t q (Show v) c = none_few s t q (core_row s p c from (Show v)).sent refl
row_few s p from t q (Sweep v) c = none_few s t q (core_row s p c from (Sweep v)).sent refl
row_few s p from t q (AskDone v k) c = none_few s t q (core_row s p c from (AskDone v k)).sent refl
row_few s p from t q (AskAsked v k) c = none_few s t q (core_row s p c from (AskAsked v k)).sent refl
row_few s p from t q (Order e what v) c =
    let told : ReleasesFew s t q (to_coordinator s (Obeyed e what v)) = none_few s t q (to_coordinator s (Obeyed e what v)) refl in
    order_each (λ (o : Out Core). ReleasesFew s t q o.sent) s e what v c (omega arith) told (λ to. told) (λ to new. told)
    (λ to new. told)
row_few s p from t q (Ask e) c =
    let turns = c.node.turns in
    ask_each (λ (o : Out Core). ReleasesFew s t q o.sent) s e c (omega arith)
    (none_few s t q (to_coordinator s (Numbers e turns.update turns.read turns.low)) refl)
row_few s p from t q _ c = omega arith
