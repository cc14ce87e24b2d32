-- Which transactions hold items against marks: a strict transaction does from a vote of yes until its decision is
-- applied. What the row of a core takes and lets go of these, and what is met by one who needs marks.
use Rattle.std.proofs.Common.{◌≡◌, ◌⊎◌, inl, inr, ℕ, ◌==◌, ◌&&◌, Bool, true, false, not, List, [], ◌∷◌, map, refl, sym, ap, subst, ◌∙◌, arith, Option, Some, None}
use Rattle.std.specs.Prelude.{if◌then◌else◌, nat_lt}
use Rattle.std.specs.Option.{option_or}
use Rattle.std.specs.Ordering.{is_eq}
use Rattle.std.proofs.lemmas.Bool.{and_from, and_parts, or_cases, or_right}
use Rattle.std.proofs.lemmas.Bool.Decides.{nat_tests}
use Rattle.tv_base.specs.declared.numbers.ItemNo.{ItemNo}
use Rattle.tv_base.specs.declared.numbers.SubNo.{SubNo}
use Rattle.tv_base.specs.declared.numbers.TreeNo.{TreeNo}
use Rattle.tv_base.specs.declared.numbers.Version.{Version}
use Rattle.letter_types.specs.declared.bodies.Body.{Body}
use Rattle.letter_types.specs.declared.bodies.Body.TheVariants.{Root, Sub as SubLetter, Done, Turn, Show, Sweep, AskDone, AskAsked, Decide, Decided, Release, Ask, Order}
use Rattle.letter_types.specs.declared.bodies.Notice.{Notice}
use Rattle.letter_types.specs.declared.votes.Vote.{Vote}
use Rattle.letter_types.specs.declared.votes.Vote.TheVariants.{Yes, No}
use Rattle.nc_locks.specs.declared.modes.Lock.{Lock}
use Rattle.nc_locks.specs.declared.modes.Met.{Met}
use Rattle.nc_locks.specs.declared.modes.Mode.{Mode}
use Rattle.nc_locks.specs.declared.modes.Mode.TheVariants.{Mark}
use Rattle.nc_locks.specs.Locks.{Wanted, first_where, has_lock, is_in_way, lock_of, lock_order, marks_on, met_by, met_in, wanted_locks, with_locks, without}
use Rattle.nc_locks.specs.Modes.{modes_conflict}
use Rattle.nc_locks.proofs.Always.{freed_are_gone, met_is_first, taken_stand}
use Rattle.nc_locks.proofs.Orders.{same_lock}
use Rattle.script_parts.specs.Wants.{wanted_by}
use Rattle.script_parts.specs.Counts.{has_strict}
use Rattle.script_parts.specs.ScriptData.{ScriptData}
use Rattle.script_parts.specs.declared.parts.SubOp.{SubOp}
use Rattle.script_parts.specs.declared.parts.TreeKind.{TreeKind}
use Rattle.script_parts.specs.declared.parts.TreeKind.TheVariants.{Update, Read, Strict}
use Rattle.letter_types.specs.Steps.{Out}
use Rattle.world_model.proofs.Epochs.{ask_each, order_each}
use Rattle.world_model.specs.Asked.{asked_ops, asked_version, tree_part}
use Rattle.world_model.specs.Core.{Core}
use Rattle.world_model.specs.Done.{note_part}
use Rattle.world_model.specs.Keeping.{AsksFor}
use Rattle.world_model.specs.Named.{is_strict_at, tree_kind_at}
use Rattle.world_model.specs.Notices.{values_of}
use Rattle.world_model.specs.Strict.{core_by_kind, core_row, locks_by, marks_of, meets, note_core, noted_vote, refused_there, voting}
use Rattle.world_model.specs.Votes.{vote_of}
use Rattle.tree_laws.specs.Keeping.{Holds}
use Rattle.tree_laws.proofs.conflicts.ByActs.{decided_locks}

pub same_holds : (c d : Core) (t : TreeNo) → d.locks ≡ c.locks → Holds c t → Holds d t
same_holds c d t same h = record { lock = h.lock; there = ap (has_lock h.lock) same ∙ h.there; tree = h.tree; firm = h.firm }

-- a letter by which a tree's locks go
abbrev pub LetsGo : TreeNo → Body → Type 0
LetsGo t (Decide u v commit) = u.0 ≡ t.0
LetsGo t (Release u) = u.0 ≡ t.0
LetsGo t _ = ⊥

-- What is met by one who needs marks is held against them.
met_one : (t : TreeNo) (x : ItemNo) (c : Core) (r : Option Lock) (more : Option Met) (m : Met) → first_where (is_in_way t x Mark) c.locks ≡ r
    → option_or (met_by r) more ≡ Some m → (more ≡ Some m → Holds c m.holder) → Holds c m.holder
met_one t x c None more m at is rest = rest is
met_one t x c (Some l) more m at is rest =
    let first = met_is_first t x Mark c.locks l at in
    let same : l.tree ≡ m.holder = (let one : record { item = l.item; holder = l.tree; mode = l.mode } ≡ m = cc is in ap (λ (y : Met). y.holder) one) in
    let way = and_parts (l.item.0 == x.0) (not (l.tree.0 == t.0) && modes_conflict Mark l.mode) first.1 in
    record { lock = l; there = first.0; tree = same; firm = (and_parts (not (l.tree.0 == t.0)) (modes_conflict Mark l.mode) way.1).1 }

met_mark : (t : TreeNo) (xs : List ItemNo) (c : Core) (m : Met) → met_in t (marks_on xs) c.locks ≡ Some m → Holds c m.holder
met_mark t [] c m is = absurd (cc is)
met_mark t (x ∷ xs) c m is =
    met_one t x c (first_where (is_in_way t x Mark) c.locks) (met_in t (marks_on xs) c.locks) m refl is (λ later. met_mark t xs c m later)

met_by_test : (t : TreeNo) (ops : List SubOp) (c : Core) (m : Met) (b : Bool)
    → met_in t (if b then marks_on (map (λ (o : SubOp). o.item) ops) else []) c.locks ≡ Some m → Holds c m.holder
met_by_test t ops c m true is = met_mark t (map (λ (o : SubOp). o.item) ops) c m is
met_by_test t ops c m false is = absurd (cc is)

pub met_holds : (s : ScriptData) (t : TreeNo) (ops : List SubOp) (c : Core) (m : Met) → meets s t ops c ≡ Some m → Holds c m.holder
met_holds s t ops c m is = met_by_test t ops c m (has_strict s) is

-- The locks that a tree takes are its own, and an update tree takes marks.
wanted_tree : (t : TreeNo) (ws : Wanted) (l : Lock) → has_lock l (wanted_locks t ws) ≡ true → l.tree ≡ t
wanted_tree t [] l is = absurd (cc is)
wanted_tree t (w ∷ ws) l is =
    by (λ later. wanted_tree t ws l later) (or_cases (is_eq (lock_order l (lock_of t w.0 w.1))) (has_lock l (wanted_locks t ws)) is) where
      by : (has_lock l (wanted_locks t ws) ≡ true → l.tree ≡ t)
          → (is_eq (lock_order l (lock_of t w.0 w.1)) ≡ true) ⊎ (has_lock l (wanted_locks t ws) ≡ true) → l.tree ≡ t
      by rest (inl same) = ap (λ (q : Lock). q.tree) (same_lock l (lock_of t w.0 w.1) same)
      by rest (inr later) = rest later

pub wanted_mark : (t : TreeNo) (xs : List ItemNo) (l : Lock) → has_lock l (wanted_locks t (marks_on xs)) ≡ true → l.mode ≡ Mark
wanted_mark t [] l is = absurd (cc is)
wanted_mark t (x ∷ xs) l is =
    by (λ later. wanted_mark t xs l later) (or_cases (is_eq (lock_order l (lock_of t x Mark))) (has_lock l (wanted_locks t (marks_on xs))) is) where
      by : (has_lock l (wanted_locks t (marks_on xs)) ≡ true → l.mode ≡ Mark)
          → (is_eq (lock_order l (lock_of t x Mark)) ≡ true) ⊎ (has_lock l (wanted_locks t (marks_on xs)) ≡ true) → l.mode ≡ Mark
      by rest (inl same) = ap (λ (q : Lock). q.mode) (same_lock l (lock_of t x Mark) same)
      by rest (inr later) = rest later

mark_by_test : (t : TreeNo) (ops : List SubOp) (l : Lock) (b : Bool)
    → has_lock l (wanted_locks t (if b then marks_on (map (λ (o : SubOp). o.item) ops) else [])) ≡ true → l.mode ≡ Mark
mark_by_test t ops l true is = wanted_mark t (map (λ (o : SubOp). o.item) ops) l is
mark_by_test t ops l false is = absurd (cc is)

not_mark : (m : Mode) → m ≡ Mark → modes_conflict Mark m ≡ true → ⊥
not_mark m is firm = let none : modes_conflict Mark m ≡ false = ap (λ (n : Mode). modes_conflict Mark n) is in cc (none, firm)

taken : (l : Lock) (t : TreeNo) (ws : Wanted) (ls : List Lock) → has_lock l (with_locks t ws ls) ≡ true
    → (has_lock l (wanted_locks t ws) ≡ true) ⊎ (has_lock l ls ≡ true)
taken l t ws ls is = or_cases (has_lock l (wanted_locks t ws)) (has_lock l ls) (sym (taken_stand l t ws ls) ∙ is)

pub more_locks : (l : Lock) (t : TreeNo) (ws : Wanted) (ls : List Lock) → has_lock l ls ≡ true → has_lock l (with_locks t ws ls) ≡ true
more_locks l t ws ls has = taken_stand l t ws ls ∙ or_right (has_lock l (wanted_locks t ws)) (has_lock l ls) has

-- Where a hold comes from: the tree had it, and this letter doesn't let it go; or it is strict, and its subtransaction is asked for.
pub data HeldFrom (s : ScriptData) (c : Core) (body : Body) (t : TreeNo) : Type 0 where
  Stood : Holds c t → (LetsGo t body → ⊥) → HeldFrom s c body t
  Came : (k : SubNo) → is_strict_at s t.0 ≡ true → AsksFor t k body → HeldFrom s c body t

abbrev Comes : ScriptData → Core → Body → Core → Type 0
Comes s c body d = (t : TreeNo) → Holds d t → HeldFrom s c body t

stood : (s : ScriptData) (c : Core) (body : Body) (d : Core) → d.locks ≡ c.locks → ((t : TreeNo) → LetsGo t body → ⊥)
    → Comes s c body d
stood s c body d same keeps = λ t h. Stood (same_holds d c t (sym same) h) (keeps t)

-- what a subtransaction of an update tree takes
marks_come : (s : ScriptData) (c : Core) (body : Body) (u : TreeNo) (ops : List SubOp) (d : Core)
    → d.locks ≡ with_locks u (marks_of s ops) c.locks → ((t : TreeNo) → LetsGo t body → ⊥) → Comes s c body d
marks_come s c body u ops d locks keeps = λ t h.
    by t h (taken h.lock u (marks_of s ops) c.locks (ap (has_lock h.lock) (sym locks) ∙ h.there)) where
      by : (t : TreeNo) (h : Holds d t)
          → (has_lock h.lock (wanted_locks u (marks_of s ops)) ≡ true) ⊎ (has_lock h.lock c.locks ≡ true) → HeldFrom s c body t
      by t h (inl new) = absurd (not_mark h.lock.mode (mark_by_test u ops h.lock (has_strict s) new) h.firm)
      by t h (inr old) = Stood (record { lock = h.lock; there = old; tree = h.tree; firm = h.firm }) (keeps t)

-- what a subtransaction of a strict tree takes
votes_come : (s : ScriptData) (c : Core) (body : Body) (u : TreeNo) (k : SubNo) (ops : List SubOp) (vote : Vote) (d : Core)
    → d.locks ≡ locks_by vote u ops c.locks → is_strict_at s u.0 ≡ true → AsksFor u k body → ((t : TreeNo) → LetsGo t body → ⊥)
    → Comes s c body d
votes_come s c body u k ops (No cause) d locks strict asks keeps = stood s c body d locks keeps
votes_come s c body u k ops (Yes values) d locks strict asks keeps = λ t h.
    by t h (taken h.lock u (wanted_by ops) c.locks (ap (has_lock h.lock) (sym locks) ∙ h.there)) where
      by : (t : TreeNo) (h : Holds d t)
          → (has_lock h.lock (wanted_locks u (wanted_by ops)) ≡ true) ⊎ (has_lock h.lock c.locks ≡ true) → HeldFrom s c body t
      by t h (inl new) =
          let same : u ≡ t = sym (wanted_tree u (wanted_by ops) h.lock new) ∙ h.tree in
          subst (HeldFrom s c body) same (Came k strict asks)
      by t h (inr old) = Stood (record { lock = h.lock; there = old; tree = h.tree; firm = h.firm }) (keeps t)

kind_comes : (s : ScriptData) (p from : ℕ) (u : TreeNo) (k : SubNo) (body : Body) (kind : Option TreeKind) (c : Core)
    → tree_kind_at s u.0 ≡ kind → AsksFor u k body → ((t : TreeNo) → LetsGo t body → ⊥)
    → Comes s c body (core_by_kind s p from u body kind c).state
kind_comes s p from u k body (Some Update) c is asks keeps = marks_come s c body u (asked_ops s body) _ refl keeps
kind_comes s p from u k body (Some Read) c is asks keeps = stood s c body _ refl keeps
kind_comes s p from u k body (Some Strict) c is asks keeps =
    let v = asked_version c.node.turns.update body in
    let os = asked_ops s body in
    let vote = vote_of c.locks c.node.items u v os in
    let o = tree_part s p from v (nat_lt c.node.turns.update.0 v.0) (voting vote c.node.items) body c.node in
    let d = record c { locks = locks_by vote u os c.locks; refusals = noted_vote body vote c.refusals } in
    votes_come s c body u k os vote _ (decided_locks s d o o.answered) (rw (is, is_strict_at) refl) asks keeps
kind_comes s p from u k body None c is asks keeps = stood s c body _ refl keeps

note_locks : (s : ScriptData) (from : ℕ) (t : TreeNo) (k : SubNo) (v : Version) (notice : Notice) (c : Core) (strict : Bool)
    → is_strict_at s t.0 ≡ strict → (note_core s from t k v notice c).state.locks ≡ c.locks
note_locks s from t k v notice c true is =
    let o = note_part from t.0 k.0 v.0 (values_of notice) c.node in
    let d = record c { refusals = refused_there t k notice c } in
    rw is (decided_locks s d o o.answered)
note_locks s from t k v notice c false is = rw is refl

freed_comes : (s : ScriptData) (c : Core) (body : Body) (u : TreeNo) (d : Core) → d.locks ≡ without u c.locks
    → ((t : TreeNo) → LetsGo t body → u.0 ≡ t.0) → Comes s c body d
freed_comes s c body u d locks goes = λ t h.
    let parts = and_parts (not (h.lock.tree.0 == u.0)) (has_lock h.lock c.locks)
    (sym (freed_are_gone h.lock u c.locks) ∙ ap (has_lock h.lock) (sym locks) ∙ h.there) in
    Stood (record { lock = h.lock; there = parts.1; tree = h.tree; firm = h.firm })
    (λ gone. other (h.lock.tree.0 == u.0) parts.0 h.lock.tree.0 u.0 (ap (λ (x : TreeNo). x.0) h.tree ∙ sym (goes t gone)) refl) where
      other : (b : Bool) → not b ≡ true → (x y : ℕ) → x ≡ y → (x == y) ≡ b → ⊥
      other true is x y same test = cc is
      other false is x y same test = grind (arith, nat_tests)

-- so after the row of any letter
pub row_comes : (s : ScriptData) (p from : ℕ) (body : Body) (c : Core) → Comes s c body (core_row s p c from body).state
row_comes s p from (Root u) c =
    kind_comes s p from u (record { 0 = 0 }) (Root u) (tree_kind_at s u.0) c refl (refl, refl) (λ t gone. gone)
row_comes s p from (SubLetter u k v) c =
    kind_comes s p from u k (SubLetter u k v) (tree_kind_at s u.0) c refl (refl, refl) (λ t gone. gone)
row_comes s p from (Done u k v notice) c =
    stood s c (Done u k v notice) _ (note_locks s from u k v notice c (is_strict_at s u.0) refl) (λ t gone. gone)
row_comes s p from (Decide u v commit) c = freed_comes s c (Decide u v commit) u _ refl (λ t gone. gone)
row_comes s p from (Decided u v) c = stood s c (Decided u v) _ refl (λ t gone. gone)
row_comes s p from (Release u) c = freed_comes s c (Release u) u _ refl (λ t gone. gone)
row_comes s p from (Turn v) c = stood s c (Turn v) _ refl (λ t gone. gone)
row_comes s p from (Show v) c = stood s c (Show v) _ refl (λ t gone. gone)
row_comes s p from (Sweep v) c = stood s c (Sweep v) _ refl (λ t gone. gone)
row_comes s p from (AskDone v k) c = stood s c (AskDone v k) _ refl (λ t gone. gone)
row_comes s p from (AskAsked v k) c = stood s c (AskAsked v k) _ refl (λ t gone. gone)
row_comes s p from (Order e what v) c =
    let same = λ (d : Core) (locks : d.locks ≡ c.locks). stood s c (Order e what v) d locks (λ t gone. gone) in
    order_each (λ (o : Out Core). Comes s c (Order e what v) o.state) s e what v c (same _ refl) (same _ refl) (λ is. same _ refl)
    (λ is new. same _ refl) (λ is new. same _ refl)
row_comes s p from (Ask e) c =
    let same = λ (d : Core) (locks : d.locks ≡ c.locks). stood s c (Ask e) d locks (λ t gone. gone) in
    ask_each (λ (o : Out Core). Comes s c (Ask e) o.state) s e c (same _ refl) (same _ refl)
row_comes s p from _ c = stood s c _ _ refl (λ t gone. gone)

-- And a hold that isn't let go stays.
abbrev Stays : Core → Body → Core → Type 0
Stays c body d = (t : TreeNo) → Holds c t → (LetsGo t body → ⊥) → Holds d t

stays : (c : Core) (body : Body) (d : Core) → d.locks ≡ c.locks → Stays c body d
stays c body d same = λ t h keeps. same_holds c d t same h

taken_stays : (c : Core) (body : Body) (u : TreeNo) (ws : Wanted) (d : Core) → d.locks ≡ with_locks u ws c.locks → Stays c body d
taken_stays c body u ws d locks = λ t h keeps.
    record { lock = h.lock; there = ap (has_lock h.lock) locks ∙ more_locks h.lock u ws c.locks h.there; tree = h.tree; firm = h.firm }

vote_stays : (c : Core) (body : Body) (u : TreeNo) (ops : List SubOp) (vote : Vote) (d : Core)
    → d.locks ≡ locks_by vote u ops c.locks → Stays c body d
vote_stays c body u ops (Yes values) d locks = taken_stays c body u (wanted_by ops) d locks
vote_stays c body u ops (No cause) d locks = stays c body d locks

kind_stays : (s : ScriptData) (p from : ℕ) (u : TreeNo) (body : Body) (kind : Option TreeKind) (c : Core)
    → Stays c body (core_by_kind s p from u body kind c).state
kind_stays s p from u body (Some Update) c = taken_stays c body u (marks_of s (asked_ops s body)) _ refl
kind_stays s p from u body (Some Read) c = stays c body _ refl
kind_stays s p from u body (Some Strict) c =
    let v = asked_version c.node.turns.update body in
    let os = asked_ops s body in
    let vote = vote_of c.locks c.node.items u v os in
    let o = tree_part s p from v (nat_lt c.node.turns.update.0 v.0) (voting vote c.node.items) body c.node in
    let d = record c { locks = locks_by vote u os c.locks; refusals = noted_vote body vote c.refusals } in
    vote_stays c body u os vote _ (decided_locks s d o o.answered)
kind_stays s p from u body None c = stays c body _ refl

freed_stays : (c : Core) (body : Body) (u : TreeNo) (d : Core) → d.locks ≡ without u c.locks
    → ((t : TreeNo) → (LetsGo t body → ⊥) → u.0 ≡ t.0 → ⊥) → Stays c body d
freed_stays c body u d locks other = λ t h keeps.
    let ne : not (h.lock.tree.0 == u.0) ≡ true =
    apart h.lock.tree.0 u.0 (λ same. other t keeps (sym same ∙ ap (λ (x : TreeNo). x.0) h.tree)) in
    record {
      lock = h.lock;
      there = ap (has_lock h.lock) locks ∙ freed_are_gone h.lock u c.locks ∙ and_from (not (h.lock.tree.0 == u.0)) (has_lock h.lock c.locks) ne h.there;
      tree = h.tree;
      firm = h.firm;
    } where
      apart : (x y : ℕ) → (x ≡ y → ⊥) → not (x == y) ≡ true
      apart x y ne = grind (arith, nat_tests)

pub row_stays : (s : ScriptData) (p from : ℕ) (body : Body) (c : Core) → Stays c body (core_row s p c from body).state
row_stays s p from (Root u) c = kind_stays s p from u (Root u) (tree_kind_at s u.0) c
row_stays s p from (SubLetter u k v) c = kind_stays s p from u (SubLetter u k v) (tree_kind_at s u.0) c
row_stays s p from (Done u k v notice) c = stays c (Done u k v notice) _ (note_locks s from u k v notice c (is_strict_at s u.0) refl)
row_stays s p from (Decide u v commit) c = freed_stays c (Decide u v commit) u _ refl (λ t keeps same. keeps same)
row_stays s p from (Decided u v) c = stays c (Decided u v) _ refl
row_stays s p from (Release u) c = freed_stays c (Release u) u _ refl (λ t keeps same. keeps same)
row_stays s p from (Turn v) c = stays c (Turn v) _ refl
row_stays s p from (Show v) c = stays c (Show v) _ refl
row_stays s p from (Sweep v) c = stays c (Sweep v) _ refl
row_stays s p from (AskDone v k) c = stays c (AskDone v k) _ refl
row_stays s p from (AskAsked v k) c = stays c (AskAsked v k) _ refl
row_stays s p from (Order e what v) c =
    order_each (λ (o : Out Core). Stays c (Order e what v) o.state) s e what v c (stays c (Order e what v) _ refl)
    (stays c (Order e what v) _ refl) (λ is. stays c (Order e what v) _ refl) (λ is new. stays c (Order e what v) _ refl)
    (λ is new. stays c (Order e what v) _ refl)
row_stays s p from (Ask e) c =
    ask_each (λ (o : Out Core). Stays c (Ask e) o.state) s e c (stays c (Ask e) _ refl) (stays c (Ask e) _ refl)
row_stays s p from other c = stays c other _ refl
