-- In every run two transactions never have locks on an item that conflict.
use Rattle.std.proofs.Common.{◌≡◌, ◌≢◌, ◌⊎◌, inl, inr, ℕ, ◌==◌, ◌&&◌, Bool, true, false, List, [], ◌∷◌, refl, sym, subst, ◌∙◌, arith, Option, Some, None}
use Rattle.std.specs.Prelude.{if◌then◌else◌, not, nat_lt}
use Rattle.std.specs.Option.{option_or}
use Rattle.std.specs.Ordering.{is_eq}
use Rattle.std.proofs.lemmas.Bool.{and_parts, cases_eq, or_cases}
use Rattle.std.proofs.lemmas.Bool.Decides.{nat_tests}
use Rattle.tv_base.specs.declared.numbers.SubNo.{SubNo}
use Rattle.tv_base.specs.declared.numbers.TreeNo.{TreeNo}
use Rattle.tv_base.specs.declared.numbers.Version.{Version}
use Rattle.item_versions.specs.Table.{Table}
use Rattle.letter_types.specs.Kept.{brought}
use Rattle.letter_types.specs.declared.bodies.Body.{Body}
use Rattle.letter_types.specs.declared.bodies.Body.TheVariants.{Root, Sub as SubLetter, Done, Turn, Show, Sweep, AskDone, AskAsked, Decide, Decided, Release, Ask, Order}
use Rattle.letter_types.specs.declared.bodies.Notice.{Notice}
use Rattle.letter_types.specs.declared.entries.Letter.{Letter}
use Rattle.letter_types.specs.declared.votes.Cause.{Cause}
use Rattle.letter_types.specs.Steps.{Out, still}
use Rattle.nc_locks.specs.declared.modes.Lock.{Lock}
use Rattle.nc_locks.specs.declared.modes.Met.{Met}
use Rattle.nc_locks.specs.declared.modes.Mode.{Mode}
use Rattle.nc_locks.specs.declared.modes.Mode.TheVariants.{Mark, Look, Hold}
use Rattle.nc_locks.specs.Locks.{Wanted, first_where, has_lock, is_in_way, lock_of, lock_order, met_by, met_in, wanted_locks, with_locks, without}
use Rattle.nc_locks.specs.Modes.{modes_conflict}
use Rattle.nc_locks.proofs.Always.{freed_are_gone, none_in_way, taken_stand}
use Rattle.nc_locks.proofs.Orders.{same_lock}
use Rattle.script_parts.specs.Wants.{wanted_by}
use Rattle.script_parts.specs.ScriptData.{ScriptData, ops_of}
use Rattle.script_parts.specs.declared.parts.SubOp.{SubOp}
use Rattle.script_parts.specs.declared.parts.TreeKind.{TreeKind}
use Rattle.script_parts.specs.declared.parts.TreeKind.TheVariants.{Update, Read, Strict}
use Rattle.world_model.proofs.Epochs.{ask_each, order_each}
use Rattle.world_model.specs.Asked.{tree_part}
use Rattle.world_model.specs.Core.{Core}
use Rattle.world_model.specs.Done.{note_part}
use Rattle.world_model.specs.Keeping.{KeepingNode, brought_row, keeping_row, kept_row}
use Rattle.world_model.specs.Named.{is_strict_at, tree_kind_at}
use Rattle.world_model.specs.Notices.{values_of}
use Rattle.world_model.specs.Runs.{keeping_in}
use Rattle.world_model.specs.Strict.{CoreKeeping, core_by_kind, core_keeping, core_row, is_core_apt, kept_by_kind, locks_by, marks_of, meets, note_core, noted_vote, parked_if, refused_there, voting}
use Rattle.world_model.specs.Votes.{cause_in, conflict_by, newer_in, short_in, vote_of, voted}
use Rattle.world_model.specs.Reads.{gets}
use Rattle.world_model.proofs.Outstanding.{keeping_elsewhere, keeping_here}
use Rattle.tree_laws.specs.Locks.{HaveNoConflict, RunsHaveNoConflict}
use Rattle.tree_laws.proofs.conflicts.ByActs.{decided_locks}
use Rattle.world_model.proofs.Keepings.{of_kept}

-- a conflict goes both ways
conflict_back : (m n : Mode) → modes_conflict m n ≡ modes_conflict n m
conflict_back Mark Mark = refl
conflict_back Mark Look = refl
conflict_back Mark Hold = refl
conflict_back Look Mark = refl
conflict_back Look Look = refl
conflict_back Look Hold = refl
conflict_back Hold Mark = refl
conflict_back Hold Look = refl
conflict_back Hold Hold = refl

-- Where none of the locks that a tree needs is met, none is in its way.
record IsFree (t : TreeNo) (ls : List Lock) (l : Lock) : Type 0 where
  tree : l.tree.0 ≡ t.0
  free : (q : Lock) → has_lock q ls ≡ true → is_in_way t l.item l.mode q ≡ false

pub none_met : (r : Option Lock) (more : Option Met) → option_or (met_by r) more ≡ None → (r ≡ None) × (more ≡ None)
none_met None more is = (refl, is)
none_met (Some l) more is = absurd (cc is)

wanted_free : (t : TreeNo) (ws : Wanted) (ls : List Lock) (l : Lock) → met_in t ws ls ≡ None → has_lock l (wanted_locks t ws) ≡ true
    → IsFree t ls l
wanted_free t [] ls l none is = absurd (cc is)
wanted_free t (w ∷ ws) ls l none is =
    let parts = none_met (first_where (is_in_way t w.0 w.1) ls) (met_in t ws ls) none in
    by parts.0 (λ more. wanted_free t ws ls l parts.1 more)
    (or_cases (is_eq (lock_order l (lock_of t w.0 w.1))) (has_lock l (wanted_locks t ws)) is) where
      by : first_where (is_in_way t w.0 w.1) ls ≡ None → (has_lock l (wanted_locks t ws) ≡ true → IsFree t ls l)
          → (is_eq (lock_order l (lock_of t w.0 w.1)) ≡ true) ⊎ (has_lock l (wanted_locks t ws) ≡ true) → IsFree t ls l
      by free rest (inl same) =
          subst (IsFree t ls) (sym (same_lock l (lock_of t w.0 w.1) same))
          (record { tree = refl; free = λ q here. none_in_way t w.0 w.1 ls free q here })
      by free rest (inr later) = rest later

-- one that is needed and one that was there
apart : (t : TreeNo) (ls : List Lock) (a b : Lock) → IsFree t ls a → has_lock b ls ≡ true → a.item.0 ≡ b.item.0 → a.tree.0 ≢ b.tree.0
    → modes_conflict a.mode b.mode ≡ false
apart t ls a b free here item ne =
    let tree = free.tree in
    by (b.item.0 == a.item.0) (b.tree.0 == t.0) (modes_conflict a.mode b.mode) (grind (arith, nat_tests, item))
    (grind (arith, nat_tests, ne, tree)) (free.free b here) where
      by : (x y z : Bool) → x ≡ true → y ≡ false → (x && (not y && z)) ≡ false → z ≡ false
      by x y z on other is = grind arith

pub taken_apart : (t : TreeNo) (ws : Wanted) (ls : List Lock) → met_in t ws ls ≡ None → HaveNoConflict ls
    → HaveNoConflict (with_locks t ws ls)
taken_apart t ws ls none old a b at_a at_b item ne =
    by (or_cases (has_lock a (wanted_locks t ws)) (has_lock a ls) (sym (taken_stand a t ws ls) ∙ at_a))
    (or_cases (has_lock b (wanted_locks t ws)) (has_lock b ls) (sym (taken_stand b t ws ls) ∙ at_b)) where
      by : (has_lock a (wanted_locks t ws) ≡ true) ⊎ (has_lock a ls ≡ true) → (has_lock b (wanted_locks t ws) ≡ true) ⊎ (has_lock b ls ≡ true)
          → modes_conflict a.mode b.mode ≡ false
      by (inl new) (inl more) =
          absurd (ne ((wanted_free t ws ls a none new).tree ∙ sym (wanted_free t ws ls b none more).tree))
      by (inl new) (inr there) = apart t ls a b (wanted_free t ws ls a none new) there item ne
      by (inr there) (inl new) =
          conflict_back a.mode b.mode ∙ apart t ls b a (wanted_free t ws ls b none new) there (sym item) (λ same. ne (sym same))
      by (inr there) (inr here) = old a b there here item ne

pub freed_apart : (t : TreeNo) (ls : List Lock) → HaveNoConflict ls → HaveNoConflict (without t ls)
freed_apart t ls old a b at_a at_b item ne = old a b (left a at_a) (left b at_b) item ne where
  left : (l : Lock) → has_lock l (without t ls) ≡ true → has_lock l ls ≡ true
  left l at = (and_parts (not (l.tree.0 == t.0)) (has_lock l ls) (sym (freed_are_gone l t ls) ∙ at)).1

-- A subtransaction that isn't kept.
pub not_parked : (t : TreeNo) (k : SubNo) (raises : Bool) (v : Version) (r : Option Met) (c : Core) → parked_if t k raises v r c ≡ None → r ≡ None
not_parked t k raises v None c is = refl
not_parked t k raises v (Some m) c is = absurd (cc is)

pub no_cause : (r : Option Met) (more : Option Cause) → option_or (conflict_by r) more ≡ None → r ≡ None
no_cause None more is = refl
no_cause (Some m) more is = absurd (cc is)

voted_apart : (ls : List Lock) (items : Table) (t : TreeNo) (v : Version) (os : List SubOp) → HaveNoConflict ls
    → HaveNoConflict (locks_by (vote_of ls items t v os) t os ls)
voted_apart ls items t v os old = by (cause_in ls items t v os) refl where
  by : (r : Option Cause) → cause_in ls items t v os ≡ r → HaveNoConflict (locks_by (voted r (gets v os items)) t os ls)
  by (Some cause) is = old
  by None is =
      taken_apart t (wanted_by os) ls
      (no_cause (met_in t (wanted_by os) ls) (option_or (newer_in v os items) (short_in v os items)) is) old

by_kind_root : (s : ScriptData) (p from : ℕ) (t : TreeNo) (kind : Option TreeKind) (c : Core) → HaveNoConflict c.locks
    → kept_by_kind s c t (Root t) kind ≡ None → HaveNoConflict (core_by_kind s p from t (Root t) kind c).state.locks
by_kind_root s p from t (Some Update) c old is =
    taken_apart t (marks_of s (ops_of s t.0 0)) c.locks
    (not_parked t (record { 0 = 0 }) false c.node.turns.update (meets s t (ops_of s t.0 0) c) c is) old
by_kind_root s p from t (Some Read) c old is = old
by_kind_root s p from t (Some Strict) c old is =
    let v = c.node.turns.update in
    let os = ops_of s t.0 0 in
    let vote = vote_of c.locks c.node.items t v os in
    let o = tree_part s p from v (nat_lt c.node.turns.update.0 v.0) (voting vote c.node.items) (Root t) c.node in
    let d = record c { locks = locks_by vote t os c.locks; refusals = noted_vote (Root t) vote c.refusals } in
    subst HaveNoConflict (sym (decided_locks s d o o.answered)) (voted_apart c.locks c.node.items t v os old)
by_kind_root s p from t None c old is = old

by_kind_sub : (s : ScriptData) (p from : ℕ) (t : TreeNo) (k : SubNo) (v : Version) (kind : Option TreeKind) (c : Core)
    → HaveNoConflict c.locks
    → kept_by_kind s c t (SubLetter t k v) kind ≡ None → HaveNoConflict (core_by_kind s p from t (SubLetter t k v) kind c).state.locks
by_kind_sub s p from t k v (Some Update) c old is =
    taken_apart t (marks_of s (ops_of s t.0 k.0)) c.locks
    (not_parked t k (nat_lt c.node.turns.update.0 v.0) v (meets s t (ops_of s t.0 k.0) c) c is) old
by_kind_sub s p from t k v (Some Read) c old is = old
by_kind_sub s p from t k v (Some Strict) c old is =
    let os = ops_of s t.0 k.0 in
    let vote = vote_of c.locks c.node.items t v os in
    let o = tree_part s p from v (nat_lt c.node.turns.update.0 v.0) (voting vote c.node.items) (SubLetter t k v) c.node in
    let d = record c { locks = locks_by vote t os c.locks; refusals = noted_vote (SubLetter t k v) vote c.refusals } in
    subst HaveNoConflict (sym (decided_locks s d o o.answered)) (voted_apart c.locks c.node.items t v os old)
by_kind_sub s p from t k v None c old is = old

noted_apart : (s : ScriptData) (from : ℕ) (t : TreeNo) (k : SubNo) (v : Version) (notice : Notice) (c : Core) (strict : Bool)
    → is_strict_at s t.0 ≡ strict → HaveNoConflict c.locks → HaveNoConflict (note_core s from t k v notice c).state.locks
noted_apart s from t k v notice c true is old =
    let o = note_part from t.0 k.0 v.0 (values_of notice) c.node in
    let d = record c { refusals = refused_there t k notice c } in
    rw is (subst HaveNoConflict (sym (decided_locks s d o o.answered)) old)
noted_apart s from t k v notice c false is old = rw is old

-- the row of a letter that isn't kept
row_apart : (s : ScriptData) (p from : ℕ) (body : Body) (c : Core) → HaveNoConflict c.locks → core_keeping s c body ≡ None
    → HaveNoConflict (core_row s p c from body).state.locks
row_apart s p from (Root t) c old is = by_kind_root s p from t (tree_kind_at s t.0) c old is
row_apart s p from (SubLetter t k v) c old is = by_kind_sub s p from t k v (tree_kind_at s t.0) c old is
row_apart s p from (Done t k v notice) c old is = noted_apart s from t k v notice c (is_strict_at s t.0) refl old
row_apart s p from (Decide t v commit) c old is = freed_apart t c.locks old
row_apart s p from (Decided t v) c old is = old
row_apart s p from (Release t) c old is = freed_apart t c.locks old
row_apart s p from (Turn v) c old is = old
row_apart s p from (Show v) c old is = old
row_apart s p from (Sweep v) c old is = old
row_apart s p from (AskDone v k) c old is = old
row_apart s p from (AskAsked v k) c old is = old
row_apart s p from (Order e what v) c old is =
    order_each (λ (o : Out Core). HaveNoConflict o.state.locks) s e what v c old old (λ turn. old) (λ show new. old) (λ sweep new. old)
row_apart s p from (Ask e) c old is = ask_each (λ (o : Out Core). HaveNoConflict o.state.locks) s e c old old
row_apart s p from _ c old is = old

-- what a node does with a letter
made_apart : (s : ScriptData) (p : ℕ) (l r : Letter) (n : KeepingNode) (o : Option CoreKeeping) → HaveNoConflict n.core.locks
    → core_keeping s n.core r.body ≡ o → HaveNoConflict (kept_row s p l r n o).state.core.locks
made_apart s p l r n (Some k) old is =
    of_kept s n.core (λ (x : CoreKeeping). HaveNoConflict x.state.locks) r.body k
    (record { parks = λ t j raises v m. old; waits = λ t. old }) is
made_apart s p l r n None old is = row_apart s p r.from.0 r.body n.core old is

brought_apart : (s : ScriptData) (p : ℕ) (l : Letter) (n : KeepingNode) (o : Option Letter) → HaveNoConflict n.core.locks
    → HaveNoConflict (brought_row (is_core_apt s p) s p l n o).state.core.locks
brought_apart s p l n None old = old
brought_apart s p l n (Some r) old = by ((r.to.0 == p) && is_core_apt s p n.core r) where
  by : (test : Bool) → HaveNoConflict (if test then kept_row s p l r n (core_keeping s n.core r.body) else still n).state.core.locks
  by true = made_apart s p l r n (core_keeping s n.core r.body) old refl
  by false = old

pub step_apart : (s : ScriptData) (p : ℕ) (n : KeepingNode) (l : Letter) → HaveNoConflict n.core.locks
    → HaveNoConflict (keeping_row s p n l).state.core.locks
step_apart s p n l old = brought_apart s p l n (brought n.kept l l.body) old

pub runs_apart : RunsHaveNoConflict
runs_apart s [] p = λ a b at_a at_b item ne. absurd (cc at_a)
runs_apart s (e ∷ past) p = by (cases_eq e.actor.0 p) (runs_apart s past p) where
  by : (e.actor.0 ≡ p) ⊎ (e.actor.0 ≢ p) → HaveNoConflict (keeping_in s past p).core.locks
      → HaveNoConflict (keeping_in s (e ∷ past) p).core.locks
  by (inl at) old =
      subst (λ (n : KeepingNode). HaveNoConflict n.core.locks) (sym (keeping_here s past e p at)) (step_apart s p (keeping_in s past p) e.took old)
  by (inr other) old = subst (λ (n : KeepingNode). HaveNoConflict n.core.locks) (sym (keeping_elsewhere s past e p other)) old
