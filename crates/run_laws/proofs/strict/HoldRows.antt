-- How a hold comes to be among a core's locks by the row of a message.
use Rattle.std.proofs.Common.{◌≡◌, ◌≢◌, ◌⊎◌, inl, inr, ℕ, ◌==◌, Bool, true, false, not, List, [], refl, sym, ap, subst, ◌∙◌, arith, Option, Some, None}
use Rattle.std.specs.Prelude.{if◌then◌else◌, map, nat_lt}
use Rattle.std.specs.Option.{option_or}
use Rattle.std.proofs.lemmas.Bool.{and_parts, or_cases}
use Rattle.std.proofs.lemmas.Bool.Decides.{nat_tests}
use Rattle.tv_base.specs.declared.numbers.ItemNo.{ItemNo}
use Rattle.tv_base.specs.declared.numbers.SubNo.{SubNo}
use Rattle.tv_base.specs.declared.numbers.TreeNo.{TreeNo}
use Rattle.tv_base.specs.declared.numbers.Version.{Version}
use Rattle.item_versions.specs.Table.{Table}
use Rattle.letter_types.specs.declared.bodies.Body.{Body}
use Rattle.letter_types.specs.declared.bodies.Body.TheVariants.{Root, Sub as SubLetter, Done, Turn, Show, Sweep, Decide, Decided, Release, AskDone, AskAsked, Order, Ask}
use Rattle.letter_types.specs.declared.bodies.Notice.{Notice}
use Rattle.letter_types.specs.declared.votes.Cause.{Cause}
use Rattle.letter_types.specs.declared.votes.Vote.{Vote}
use Rattle.nc_locks.specs.declared.modes.Lock.{Lock}
use Rattle.nc_locks.specs.declared.modes.Mode.{Mode}
use Rattle.nc_locks.specs.declared.modes.Mode.TheVariants.{Mark, Hold}
use Rattle.nc_locks.specs.Locks.{has_lock, marks_on, met_in, wanted_locks, with_locks, without}
use Rattle.nc_locks.proofs.Always.{freed_are_gone, taken_stand}
use Rattle.script_parts.specs.Wants.{wanted_by}
use Rattle.script_parts.specs.Counts.{has_strict}
use Rattle.script_parts.specs.ScriptData.{ScriptData, ops_of}
use Rattle.script_parts.specs.declared.parts.SubOp.{SubOp}
use Rattle.script_parts.specs.declared.parts.TreeKind.{TreeKind}
use Rattle.script_parts.specs.declared.parts.TreeKind.TheVariants.{Update, Read, Strict}
use Rattle.tree_home.specs.declared.homes.Answered.{Answered}
use Rattle.world_model.specs.Asked.{tree_part}
use Rattle.world_model.specs.Core.{Core}
use Rattle.world_model.specs.Done.{TreeOut, note_part}
use Rattle.world_model.specs.Named.{is_strict_at, tree_kind_at}
use Rattle.world_model.specs.Notices.{values_of}
use Rattle.world_model.specs.Reads.{gets}
use Rattle.world_model.specs.Strict.{core_by_kind, core_row, decided, locks_by, note_core, noted_vote, refused_there, voting}
use Rattle.world_model.specs.Votes.{cause_in, conflict_by, newer_in, short_in, vote_of, voted}
use Rattle.board_rules.specs.Histories.{Place, version_in}
use Rattle.tree_laws.proofs.apt.AptVersions.{DoneIn, is_version}
use Rattle.tree_laws.proofs.loads.Seen.{raised_low}
use Rattle.tree_laws.proofs.histories.Turns.{kind_version, work_version}
use Rattle.tree_laws.proofs.conflicts.ByActs.{decided_locks}
use Rattle.tree_laws.proofs.conflicts.RunConflicts.{wanted_tree}
use Rattle.tree_laws.proofs.conflicts.Holding.{wanted_mark}
use Rattle.world_model.proofs.Epochs.{order_each, ask_each}
use Rattle.letter_types.specs.Steps.{Out}
use Rattle.run_laws.proofs.strict.StrictKinds.{strict_by_kind}

-- no letter tells a decision on this tree
abbrev pub IsNoDecision : ℕ → Body → Type 0
IsNoDecision k body = (t : TreeNo) (v : Version) (commit : Bool) → body ≡ Decide t v commit → k ≢ t.0

-- A hold was there, and the letter decides nothing on its tree; or a subtransaction of its tree votes yes, in the tree's
-- version, where nothing newer is held of what it writes, and leaves the items and the low version.
pub data HoldComes (s : ScriptData) (body : Body) (c : Core) (after : Core) (l : Lock) : Type 0 where
  Stood : has_lock l c.locks ≡ true → IsNoDecision l.tree.0 body → HoldComes s body c after l
  Taken : (t : TreeNo) (v : Version) (os : List SubOp) → l.tree.0 ≡ t.0 → is_strict_at s t.0 ≡ true
      → has_lock l (wanted_locks t (wanted_by os)) ≡ true → newer_in v os c.node.items ≡ None
      → ((xs : List Place) → DoneIn xs (work_version s c body) body → is_version (version_in t.0 xs) v ≡ true)
      → after.node.items ≡ c.node.items → after.node.turns.low.0 ≡ c.node.turns.low.0 → HoldComes s body c after l

-- Marks are no holds.
not_marked : (m : Mode) → m ≡ Mark → m ≡ Hold → ⊥
not_marked m is so = let no_such : Mark ≡ Hold = sym is ∙ so in cc no_such

unmarked : (t : TreeNo) (xs : List ItemNo) (ls : List Lock) (l : Lock) (test : Bool) → l.mode ≡ Hold
    → has_lock l (with_locks t (if test then marks_on xs else []) ls) ≡ true → has_lock l ls ≡ true
unmarked t xs ls l true hold has =
    by (or_cases (has_lock l (wanted_locks t (marks_on xs))) (has_lock l ls) (sym (taken_stand l t (marks_on xs) ls) ∙ has)) where
      by : (has_lock l (wanted_locks t (marks_on xs)) ≡ true) ⊎ (has_lock l ls ≡ true) → has_lock l ls ≡ true
      by (inl new) = absurd (not_marked l.mode (wanted_mark t xs l new) hold)
      by (inr there) = there
unmarked t xs ls l false hold has = has

-- A vote.
pub apart_none : (a b : Option Cause) → option_or a b ≡ None → (a ≡ None) × (b ≡ None)
apart_none None b is = (refl, is)
apart_none (Some x) b is = absurd (cc is)

data VoteTakes (t : TreeNo) (v : Version) (os : List SubOp) (ls : List Lock) (items : Table) (l : Lock) : Type 0 where
  Was : has_lock l ls ≡ true → VoteTakes t v os ls items l
  New : has_lock l (wanted_locks t (wanted_by os)) ≡ true → newer_in v os items ≡ None → VoteTakes t v os ls items l

vote_takes : (t : TreeNo) (v : Version) (os : List SubOp) (ls : List Lock) (items : Table) (l : Lock) (r : Option Cause)
    → cause_in ls items t v os ≡ r → has_lock l (locks_by (voted r (gets v os items)) t os ls) ≡ true → VoteTakes t v os ls items l
vote_takes t v os ls items l (Some cause) is has = Was has
vote_takes t v os ls items l None is has =
    by (or_cases (has_lock l (wanted_locks t (wanted_by os))) (has_lock l ls) (sym (taken_stand l t (wanted_by os) ls) ∙ has)) where
      by : (has_lock l (wanted_locks t (wanted_by os)) ≡ true) ⊎ (has_lock l ls ≡ true) → VoteTakes t v os ls items l
      by (inl new) =
          let parts = apart_none (conflict_by (met_in t (wanted_by os) ls)) (option_or (newer_in v os items) (short_in v os items)) is in
          New new (apart_none (newer_in v os items) (short_in v os items) parts.1).0
      by (inr there) = Was there

decided_low : (s : ScriptData) (c : Core) (o : TreeOut) (a : Option Answered)
    → (decided s c o a).state.node.turns.low.0 ≡ o.out.state.turns.low.0
decided_low s c o None = refl
decided_low s c o (Some a) = refl

pub decided_table : (s : ScriptData) (c : Core) (o : TreeOut) (a : Option Answered) → (decided s c o a).state.node.items ≡ o.out.state.items
decided_table s c o None = refl
decided_table s c o (Some a) = refl

-- A root.
root_by : (s : ScriptData) (p from : ℕ) (t : TreeNo) (c : Core) (l : Lock) → tree_kind_at s t.0 ≡ Some Strict
    → VoteTakes t c.node.turns.update (ops_of s t.0 0) c.locks c.node.items l
    → HoldComes s (Root t) c (core_by_kind s p from t (Root t) (Some Strict) c).state l
root_by s p from t c l is (Was there) = Stood there (λ u v b eq. absurd (cc eq))
root_by s p from t c l is (New new none) =
    let body : Body = Root t in
    let v : Version = c.node.turns.update in
    let os : List SubOp = ops_of s t.0 0 in
    let vote : Vote = vote_of c.locks c.node.items t v os in
    let o : TreeOut = tree_part s p from v (nat_lt c.node.turns.update.0 v.0) (voting vote c.node.items) body c.node in
    let d : Core = record c { locks = locks_by vote t os c.locks; refusals = noted_vote body vote c.refusals } in
    Taken t v os (wanted_tree t (wanted_by os) l new) (strict_by_kind s t.0 is) new none
    (λ xs done. subst (λ (kind : Option TreeKind). is_version (version_in t.0 xs) (kind_version c kind) ≡ true) is done)
    (decided_table s d o o.answered) (decided_low s d o o.answered)

root_holds : (s : ScriptData) (p from : ℕ) (t : TreeNo) (kind : Option TreeKind) (c : Core) (l : Lock) → tree_kind_at s t.0 ≡ kind
    → l.mode ≡ Hold → has_lock l (core_by_kind s p from t (Root t) kind c).state.locks ≡ true
    → HoldComes s (Root t) c (core_by_kind s p from t (Root t) kind c).state l
root_holds s p from t (Some Update) c l is hold has =
    Stood (unmarked t (map (λ (o : SubOp). o.item) (ops_of s t.0 0)) c.locks l (has_strict s) hold has) (λ u v b eq. absurd (cc eq))
root_holds s p from t (Some Read) c l is hold has = Stood has (λ u v b eq. absurd (cc eq))
root_holds s p from t (Some Strict) c l is hold has =
    let body : Body = Root t in
    let v : Version = c.node.turns.update in
    let os : List SubOp = ops_of s t.0 0 in
    let vote : Vote = vote_of c.locks c.node.items t v os in
    let o : TreeOut = tree_part s p from v (nat_lt c.node.turns.update.0 v.0) (voting vote c.node.items) body c.node in
    let d : Core = record c { locks = locks_by vote t os c.locks; refusals = noted_vote body vote c.refusals } in
    root_by s p from t c l is
    (vote_takes t v os c.locks c.node.items l (cause_in c.locks c.node.items t v os) refl
    (sym (ap (has_lock l) (decided_locks s d o o.answered)) ∙ has))
root_holds s p from t None c l is hold has = Stood has (λ u v b eq. absurd (cc eq))

-- Another subtransaction.
sub_by : (s : ScriptData) (p from : ℕ) (t : TreeNo) (k : SubNo) (v : Version) (c : Core) (l : Lock) → tree_kind_at s t.0 ≡ Some Strict
    → VoteTakes t v (ops_of s t.0 k.0) c.locks c.node.items l
    → HoldComes s (SubLetter t k v) c (core_by_kind s p from t (SubLetter t k v) (Some Strict) c).state l
sub_by s p from t k v c l is (Was there) = Stood there (λ u w b eq. absurd (cc eq))
sub_by s p from t k v c l is (New new none) =
    let body : Body = SubLetter t k v in
    let os : List SubOp = ops_of s t.0 k.0 in
    let vote : Vote = vote_of c.locks c.node.items t v os in
    let raises : Bool = nat_lt c.node.turns.update.0 v.0 in
    let o : TreeOut = tree_part s p from v raises (voting vote c.node.items) body c.node in
    let d : Core = record c { locks = locks_by vote t os c.locks; refusals = noted_vote body vote c.refusals } in
    Taken t v os (wanted_tree t (wanted_by os) l new) (strict_by_kind s t.0 is) new none (λ xs done. done)
    (decided_table s d o o.answered) (decided_low s d o o.answered ∙ raised_low raises v.0 c.node.turns)

sub_holds : (s : ScriptData) (p from : ℕ) (t : TreeNo) (k : SubNo) (v : Version) (kind : Option TreeKind) (c : Core) (l : Lock)
    → tree_kind_at s t.0 ≡ kind → l.mode ≡ Hold → has_lock l (core_by_kind s p from t (SubLetter t k v) kind c).state.locks ≡ true
    → HoldComes s (SubLetter t k v) c (core_by_kind s p from t (SubLetter t k v) kind c).state l
sub_holds s p from t k v (Some Update) c l is hold has =
    Stood (unmarked t (map (λ (o : SubOp). o.item) (ops_of s t.0 k.0)) c.locks l (has_strict s) hold has) (λ u w b eq. absurd (cc eq))
sub_holds s p from t k v (Some Read) c l is hold has = Stood has (λ u w b eq. absurd (cc eq))
sub_holds s p from t k v (Some Strict) c l is hold has =
    let body : Body = SubLetter t k v in
    let os : List SubOp = ops_of s t.0 k.0 in
    let vote : Vote = vote_of c.locks c.node.items t v os in
    let o : TreeOut = tree_part s p from v (nat_lt c.node.turns.update.0 v.0) (voting vote c.node.items) body c.node in
    let d : Core = record c { locks = locks_by vote t os c.locks; refusals = noted_vote body vote c.refusals } in
    sub_by s p from t k v c l is
    (vote_takes t v os c.locks c.node.items l (cause_in c.locks c.node.items t v os) refl
    (sym (ap (has_lock l) (decided_locks s d o o.answered)) ∙ has))
sub_holds s p from t k v None c l is hold has = Stood has (λ u w b eq. absurd (cc eq))

-- A notice.
note_holds : (s : ScriptData) (from : ℕ) (t : TreeNo) (k : SubNo) (v : Version) (notice : Notice) (c : Core) (l : Lock) (strict : Bool)
    → is_strict_at s t.0 ≡ strict → has_lock l (note_core s from t k v notice c).state.locks ≡ true → has_lock l c.locks ≡ true
note_holds s from t k v notice c l true is has =
    let o : TreeOut = note_part from t.0 k.0 v.0 (values_of notice) c.node in
    let d : Core = record c { refusals = refused_there t k notice c } in
    let so : has_lock l (decided s d o o.answered).state.locks ≡ true = rw is at has in
    sym (ap (has_lock l) (decided_locks s d o o.answered)) ∙ so
note_holds s from t k v notice c l false is has = rw is at has

-- Locks that a tree lets go.
freed_other : (t : TreeNo) (ls : List Lock) (l : Lock) → has_lock l (without t ls) ≡ true → (l.tree.0 ≢ t.0) × (has_lock l ls ≡ true)
freed_other t ls l has =
    let parts = and_parts (not (l.tree.0 == t.0)) (has_lock l ls) (sym (freed_are_gone l t ls) ∙ has) in
    let other = parts.0 in ((λ same. by (l.tree.0 == t.0) other (let here : (l.tree.0 == t.0) ≡ true = grind (arith, nat_tests, same) in here)), parts.1) where
      by : (test : Bool) → not test ≡ true → test ≡ true → ⊥
      by true other same = cc other
      by false other same = cc same

decision_other : (t u : TreeNo) (v w : Version) (b d : Bool) (k : ℕ) → Decide t v b ≡ Decide u w d → k ≢ t.0 → k ≢ u.0
decision_other t u v w b d k eq ne same =
    let tree : t ≡ u = cc eq in ne (same ∙ sym (ap (λ (x : TreeNo). x.0) tree))

-- so by the row of any letter
pub hold_comes : (s : ScriptData) (p from : ℕ) (body : Body) (c : Core) (l : Lock) → l.mode ≡ Hold
    → has_lock l (core_row s p c from body).state.locks ≡ true → HoldComes s body c (core_row s p c from body).state l
hold_comes s p from (Root t) c l hold has = root_holds s p from t (tree_kind_at s t.0) c l refl hold has
hold_comes s p from (SubLetter t k v) c l hold has = sub_holds s p from t k v (tree_kind_at s t.0) c l refl hold has
hold_comes s p from (Done t k v notice) c l hold has =
    Stood (note_holds s from t k v notice c l (is_strict_at s t.0) refl has) (λ u w b eq. absurd (cc eq))
hold_comes s p from (Decide t v commit) c l hold has =
    let parts = freed_other t c.locks l has in Stood parts.1 (λ u w b eq. decision_other t u v w commit b l.tree.0 eq parts.0)
hold_comes s p from (Decided t v) c l hold has = Stood has (λ u w b eq. absurd (cc eq))
hold_comes s p from (Release t) c l hold has = Stood (freed_other t c.locks l has).1 (λ u w b eq. absurd (cc eq))
hold_comes s p from (Turn v) c l hold has = Stood has (λ u w b eq. absurd (cc eq))
hold_comes s p from (Show v) c l hold has = Stood has (λ u w b eq. absurd (cc eq))
hold_comes s p from (Sweep v) c l hold has = Stood has (λ u w b eq. absurd (cc eq))
hold_comes s p from (AskDone v k) c l hold has = Stood has (λ u w b eq. absurd (cc eq))
hold_comes s p from (AskAsked v k) c l hold has = Stood has (λ u w b eq. absurd (cc eq))
hold_comes s p from (Order e what v) c l hold has =
    order_each (λ (o : Out Core). has_lock l o.state.locks ≡ true → HoldComes s (Order e what v) c o.state l) s e what v c
    (λ has. Stood has (λ u w b eq. absurd (cc eq))) (λ has. Stood has (λ u w b eq. absurd (cc eq)))
    (λ to has. Stood has (λ u w b eq. absurd (cc eq))) (λ to new has. Stood has (λ u w b eq. absurd (cc eq)))
    (λ to new has. Stood has (λ u w b eq. absurd (cc eq))) has
hold_comes s p from (Ask e) c l hold has =
    ask_each (λ (o : Out Core). has_lock l o.state.locks ≡ true → HoldComes s (Ask e) c o.state l) s e c
    (λ has. Stood has (λ u w b eq. absurd (cc eq))) (λ has. Stood has (λ u w b eq. absurd (cc eq))) has
hold_comes s p from _ c l hold has = Stood has (λ u w b eq. absurd (cc eq))
