-- A node's locks after a step are what its acts say, kind by kind.
use Rattle.std.proofs.Common.{◌≡◌, ◌&&◌, ◌||◌, ℕ, Bool, true, false, List, [], ◌∷◌, ◌++◌, refl, sym, ap, ◌∙◌, arith, Option, Some, None}
use Rattle.std.specs.Prelude.{if◌then◌else◌, map, nat_lt, slice_get}
use Rattle.std.proofs.lemmas.Bool.{and_parts}
use Rattle.std.proofs.lemmas.List.Sums.{fold-append}
use Rattle.tv_base.specs.declared.numbers.SubNo.{SubNo}
use Rattle.tv_base.specs.declared.numbers.TreeNo.{TreeNo}
use Rattle.tv_base.specs.declared.numbers.Version.{Version}
use Rattle.item_versions.specs.Table.{Table}
use Rattle.letter_types.specs.declared.acts.Act.{Act}
use Rattle.letter_types.specs.declared.acts.Act.TheVariants as acts
use Rattle.letter_types.specs.declared.bodies.Body.{Body}
use Rattle.letter_types.specs.declared.bodies.Body.TheVariants.{Root, Sub as SubLetter, Done, Turn, Show, Sweep, Decide, Decided, Release, AskDone, AskAsked, Ask, Order}
use Rattle.letter_types.specs.declared.bodies.Notice.{Notice}
use Rattle.letter_types.specs.declared.entries.Letter.{Letter}
use Rattle.letter_types.specs.declared.votes.Vote.{Vote}
use Rattle.letter_types.specs.declared.votes.Vote.TheVariants.{Yes, No}
use Rattle.letter_types.specs.Steps.{Out, still}
use Rattle.nc_locks.specs.declared.modes.Lock.{Lock}
use Rattle.nc_locks.specs.Locks.{Wanted, marks_on, with_locks}
use Rattle.script_parts.specs.Wants.{mode_wanted, wanted_by}
use Rattle.script_parts.specs.Counts.{has_strict}
use Rattle.script_parts.specs.ScriptData.{ScriptData, is_update, ops_of, updates}
use Rattle.script_parts.specs.declared.parts.Deed.{Deed}
use Rattle.script_parts.specs.declared.parts.Deed.TheVariants.{Apply, Get, Set, Draw}
use Rattle.script_parts.specs.declared.parts.SubOp.{SubOp}
use Rattle.script_parts.specs.declared.parts.Tree.{Tree}
use Rattle.script_parts.specs.declared.parts.TreeKind.{TreeKind}
use Rattle.script_parts.specs.declared.parts.TreeKind.TheVariants.{Update, Read, Strict}
use Rattle.tree_home.specs.declared.homes.Answered.{Answered}
use Rattle.tree_home.specs.Homes.{Gets}
use Rattle.world_model.specs.Epochs.{is_core_timely}
use Rattle.world_model.proofs.Epochs.{ask_each, order_each}
use Rattle.world_model.specs.Apt.{can_make}
use Rattle.world_model.specs.Asked.{tree_part}
use Rattle.world_model.specs.Core.{Core}
use Rattle.world_model.specs.Done.{TreeOut, note_part, turned_if}
use Rattle.world_model.specs.Named.{is_named, is_new, is_strict_at, tree_kind_at}
use Rattle.world_model.specs.Notices.{act_of, values_of}
use Rattle.world_model.specs.Reads.{gets}
use Rattle.world_model.specs.Strict.{can_make_at, core_by_kind, core_row, decided, decides_near, is_core_apt, is_of_script, is_unheld, locks_by, none_refuses, note_core, noted_vote, notice_by, read_core, refused_there, update_core, voted_core, voting}
use Rattle.world_model.specs.Updates.{can_touch, can_update, may_make, table_after_deed}
use Rattle.world_model.specs.Votes.{vote_of}
use Rattle.board_rules.specs.Locked.{locks_after_act}
use Rattle.tree_laws.specs.Locks.{LocksFollowActs, locks_after_acts}

-- operations that can be made by an update mark their items
marks_needed : (v : Version) (os : List SubOp) (items : Table) → can_touch v os items ≡ true
    → marks_on (map (λ (o : SubOp). o.item) os) ≡ wanted_by os
marks_needed v [] items can = refl
marks_needed v (o ∷ os) items can =
    by o.deed refl (and_parts (may_make v o.item o.deed items) (can_touch v os (table_after_deed v o.item o.deed items)) can)
    (λ rest. marks_needed v os (table_after_deed v o.item o.deed items) rest) where
      by : (d : Deed) → o.deed ≡ d
          → (may_make v o.item o.deed items ≡ true) × (can_touch v os (table_after_deed v o.item o.deed items) ≡ true)
          → (can_touch v os (table_after_deed v o.item o.deed items) ≡ true → marks_on (map (λ (q : SubOp). q.item) os) ≡ wanted_by os)
          → marks_on (map (λ (q : SubOp). q.item) (o ∷ os)) ≡ wanted_by (o ∷ os)
      by (Apply op) is can rest = rw is (ap (λ (ws : Wanted). (o.item, mode_wanted (Apply op)) ∷ ws) (rest can.1))
      by Get is can rest = absurd (let no_such : false ≡ true = sym (ap (λ (d : Deed). may_make v o.item d items) is) ∙ can.0 in cc no_such)
      by (Set n) is can rest = absurd (let no_such : false ≡ true = sym (ap (λ (d : Deed). may_make v o.item d items) is) ∙ can.0 in cc no_such)
      by (Draw n) is can rest = absurd (let no_such : false ≡ true = sym (ap (λ (d : Deed). may_make v o.item d items) is) ∙ can.0 in cc no_such)

-- Acts that neither take nor free a lock.
pub after_turned : (s : ScriptData) (ls : List Lock) (raises : Bool) (v : ℕ) (more : List Act)
    → locks_after_acts s ls (turned_if raises v ++ more) ≡ locks_after_acts s ls more
after_turned s ls true v more = refl
after_turned s ls false v more = refl

-- what was decided takes no lock
decided_acts : (s : ScriptData) (c : Core) (o : TreeOut) (a : Option Answered) (ls : List Lock)
    → locks_after_acts s ls (decided s c o a).acts ≡ locks_after_acts s ls o.out.acts
decided_acts s c o None ls = refl
decided_acts s c o (Some a) ls =
    fold-append (λ (held : List Lock) (x : Act). locks_after_act s x held) ls o.out.acts
    (acts.Decided a.tree (none_refuses a.tree c.refusals) ∷ [])

pub decided_locks : (s : ScriptData) (c : Core) (o : TreeOut) (a : Option Answered) → (decided s c o a).state.locks ≡ c.locks
decided_locks s c o None = refl
decided_locks s c o (Some a) = refl

-- The kind of a tree.
pub kind_updates : (s : ScriptData) (t : ℕ) (kind : TreeKind) → tree_kind_at s t ≡ Some kind → updates s t ≡ is_update kind
kind_updates s t kind is = by (slice_get s.trees t) refl where
  by : (o : Option Tree) → slice_get s.trees t ≡ o → updates s t ≡ is_update kind
  by None at = absurd (let none : None ≡ Some kind = sym (rw (at, tree_kind_at) refl) ∙ is in cc none)
  by (Some u) at =
      let same : Some u.kind ≡ Some kind = sym (rw (at, tree_kind_at) refl) ∙ is in
      let one : u.kind ≡ kind = cc same in
      rw (at, updates) (ap is_update one)

-- Acts of subtransactions.
did_act : (s : ScriptData) (t : TreeNo) (k : SubNo) (ls : List Lock) → updates s t.0 ≡ true
    → locks_after_act s (acts.Did t k []) ls ≡ with_locks t (wanted_by (ops_of s t.0 k.0)) ls
did_act s t k ls up = rw up refl

read_act : (s : ScriptData) (t : TreeNo) (k : SubNo) (values : Gets) (ls : List Lock) → updates s t.0 ≡ false
    → locks_after_act s (acts.Did t k values) ls ≡ ls
read_act s t k values ls up = rw up refl

voted_act : (s : ScriptData) (t : TreeNo) (k : SubNo) (vote : Vote) (ls : List Lock)
    → locks_by vote t (ops_of s t.0 k.0) ls ≡ locks_after_act s (act_of t k (notice_by vote)) ls
voted_act s t k (Yes values) ls = refl
voted_act s t k (No cause) ls = refl

-- Each kind of tree.
abbrev Follows : ScriptData → Core → Out Core → Type 0
Follows s c out = out.state.locks ≡ locks_after_acts s c.locks out.acts

update_root : (s : ScriptData) (p from : ℕ) (t : TreeNo) (c : Core) → has_strict s ≡ true → updates s t.0 ≡ true
    → can_update s c.node (Root t) ≡ true → Follows s c (update_core s p from t (Root t) c)
update_root s p from t c strict up can =
    rw strict (ap (λ (ws : Wanted). with_locks t ws c.locks) (marks_needed c.node.turns.update (ops_of s t.0 0) c.node.items can)
    ∙ sym (did_act s t (record { 0 = 0 }) c.locks up))

update_sub : (s : ScriptData) (p from : ℕ) (t : TreeNo) (k : SubNo) (v : Version) (c : Core) → has_strict s ≡ true → updates s t.0 ≡ true
    → can_update s c.node (SubLetter t k v) ≡ true → Follows s c (update_core s p from t (SubLetter t k v) c)
update_sub s p from t k v c strict up can =
    rw strict (ap (λ (ws : Wanted). with_locks t ws c.locks) (marks_needed v (ops_of s t.0 k.0) c.node.items can)
    ∙ sym (did_act s t k c.locks up)
    ∙ sym (after_turned s c.locks (nat_lt c.node.turns.update.0 v.0) v.0 (acts.Did t k [] ∷ [])))

read_root : (s : ScriptData) (p from : ℕ) (t : TreeNo) (c : Core) → updates s t.0 ≡ false → Follows s c (read_core s p from (Root t) c)
read_root s p from t c up = sym (read_act s t (record { 0 = 0 }) (gets c.node.turns.read (ops_of s t.0 0) c.node.items) c.locks up)

read_sub : (s : ScriptData) (p from : ℕ) (t : TreeNo) (k : SubNo) (v : Version) (c : Core) → updates s t.0 ≡ false
    → Follows s c (read_core s p from (SubLetter t k v) c)
read_sub s p from t k v c up = sym (read_act s t k (gets v (ops_of s t.0 k.0) c.node.items) c.locks up)

voted_root : (s : ScriptData) (p from : ℕ) (t : TreeNo) (v : Version) (vote : Vote) (c : Core)
    → Follows s c (voted_core s p from t v vote (Root t) c)
voted_root s p from t v vote c =
    let o = tree_part s p from v (nat_lt c.node.turns.update.0 v.0) (voting vote c.node.items) (Root t) c.node in
    let d = record c { locks = locks_by vote t (ops_of s t.0 0) c.locks; refusals = noted_vote (Root t) vote c.refusals } in
    decided_locks s d o o.answered
    ∙ voted_act s t (record { 0 = 0 }) vote c.locks
    ∙ sym (decided_acts s d o o.answered c.locks)

voted_sub : (s : ScriptData) (p from : ℕ) (t : TreeNo) (k : SubNo) (w v : Version) (vote : Vote) (c : Core)
    → Follows s c (voted_core s p from t v vote (SubLetter t k w) c)
voted_sub s p from t k w v vote c =
    let raises = nat_lt c.node.turns.update.0 v.0 in
    let o = tree_part s p from v raises (voting vote c.node.items) (SubLetter t k w) c.node in
    let d = record c { locks = locks_by vote t (ops_of s t.0 k.0) c.locks; refusals = noted_vote (SubLetter t k w) vote c.refusals } in
    decided_locks s d o o.answered
    ∙ voted_act s t k vote c.locks
    ∙ sym (after_turned s c.locks raises v.0 (act_of t k (notice_by vote) ∷ []))
    ∙ sym (decided_acts s d o o.answered c.locks)

by_kind_root : (s : ScriptData) (p from : ℕ) (t : TreeNo) (c : Core) (kind : Option TreeKind) → has_strict s ≡ true
    → tree_kind_at s t.0 ≡ kind → (is_strict_at s t.0 || can_make s c.node (Root t)) ≡ true
    → Follows s c (core_by_kind s p from t (Root t) kind c)
by_kind_root s p from t c (Some Update) strict is can =
    update_root s p from t c strict (kind_updates s t.0 Update is)
    (sym (rw (is, is_strict_at, can_make) refl) ∙ can)
by_kind_root s p from t c (Some Read) strict is can = read_root s p from t c (kind_updates s t.0 Read is)
by_kind_root s p from t c (Some Strict) strict is can =
    voted_root s p from t c.node.turns.update (vote_of c.locks c.node.items t c.node.turns.update (ops_of s t.0 0)) c
by_kind_root s p from t c None strict is can = refl

by_kind_sub : (s : ScriptData) (p from : ℕ) (t : TreeNo) (k : SubNo) (v : Version) (c : Core) (kind : Option TreeKind) → has_strict s ≡ true
    → tree_kind_at s t.0 ≡ kind → (is_strict_at s t.0 || can_make s c.node (SubLetter t k v)) ≡ true
    → Follows s c (core_by_kind s p from t (SubLetter t k v) kind c)
by_kind_sub s p from t k v c (Some Update) strict is can =
    update_sub s p from t k v c strict (kind_updates s t.0 Update is)
    (sym (rw (is, is_strict_at, can_make) refl) ∙ can)
by_kind_sub s p from t k v c (Some Read) strict is can = read_sub s p from t k v c (kind_updates s t.0 Read is)
by_kind_sub s p from t k v c (Some Strict) strict is can =
    voted_sub s p from t k v v (vote_of c.locks c.node.items t v (ops_of s t.0 k.0)) c
by_kind_sub s p from t k v c None strict is can = refl

-- A notice.
noted : (s : ScriptData) (from : ℕ) (t : TreeNo) (k : SubNo) (v : Version) (notice : Notice) (c : Core) (strict : Bool)
    → is_strict_at s t.0 ≡ strict → Follows s c (note_core s from t k v notice c)
noted s from t k v notice c true is =
    let o = note_part from t.0 k.0 v.0 (values_of notice) c.node in
    let d = record c { refusals = refused_there t k notice c } in
    rw is (decided_locks s d o o.answered ∙ sym (decided_acts s d o o.answered c.locks))
noted s from t k v notice c false is = rw is refl

-- a turn leaves the locks
after_turn : (s : ScriptData) (ls : List Lock) (raises : Bool) (v : ℕ) → locks_after_acts s ls (turned_if raises v) ≡ ls
after_turn s ls true v = refl
after_turn s ls false v = refl

-- a letter of this body that is apt
row_follows : (s : ScriptData) (p from : ℕ) (body : Body) (c : Core) → has_strict s ≡ true → can_make_at s p c body ≡ true
    → Follows s c (core_row s p c from body)
row_follows s p from (Root t) c strict can = by_kind_root s p from t c (tree_kind_at s t.0) strict refl can
row_follows s p from (SubLetter t k v) c strict can = by_kind_sub s p from t k v c (tree_kind_at s t.0) strict refl can
row_follows s p from (Done t k v notice) c strict can = noted s from t k v notice c (is_strict_at s t.0) refl
row_follows s p from (Decide t v commit) c strict can = refl
row_follows s p from (Decided t v) c strict can = refl
row_follows s p from (Release t) c strict can = refl
row_follows s p from (Turn v) c strict can = sym (after_turn s c.locks (nat_lt c.node.turns.update.0 v.0) v.0)
row_follows s p from (Show v) c strict can = refl
row_follows s p from (Sweep v) c strict can = refl
row_follows s p from (AskDone v k) c strict can = refl
row_follows s p from (AskAsked v k) c strict can = refl
row_follows s p from (Order e what v) c strict can =
    order_each (Follows s c) s e what v c refl refl (λ is. sym (after_turn s c.locks (nat_lt c.node.turns.update.0 v.0) v.0))
    (λ is new. refl) (λ is new. refl)
row_follows s p from (Ask e) c strict can = ask_each (Follows s c) s e c refl refl
row_follows s p from _ c strict can = refl

step_follows : (s : ScriptData) (p : ℕ) (c : Core) (l : Letter) (test : Bool) → has_strict s ≡ true → is_core_apt s p c l ≡ test
    → Follows s c (if test then core_row s p c l.from.0 l.body else still c)
step_follows s p c l true strict is =
    row_follows s p l.from.0 l.body c strict
    (last (is_of_script s l.body) (is_named s p l.from.0 l.body) (is_new s c.node l.body) (is_unheld l.body c.holds)
    (is_core_timely s c l.body) (decides_near s c.node l.body) (can_make_at s p c l.body) is) where
      last : (a b d e f g h : Bool) → (a && (b && (d && e && (f && g && h)))) ≡ true → h ≡ true
      last a b d e f g h all = grind arith
step_follows s p c l false strict is = refl

pub locks_follow_acts : LocksFollowActs
locks_follow_acts s p c l strict = step_follows s p c l (is_core_apt s p c l) strict refl
