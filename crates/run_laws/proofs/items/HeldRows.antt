-- Which versions of an item are held after an update, a commit and a collection, and so after the row of a message:
-- those before, and those in which an act of the row writes it.
use Rattle.std.proofs.Common.{◌≡◌, ℕ, ◌<◌, ◌==◌, ◌&&◌, ◌||◌, Bool, true, false, List, [], ◌∷◌, refl, sym, ap, subst, ◌∙◌, arith, Option, Some, None}
use Rattle.std.specs.Prelude.{if◌then◌else◌, nat_lt}
use Rattle.std.specs.List.{AllByRecursion, list_any}
use Rattle.std.proofs.Math.Bool.{or-false}
use Rattle.std.proofs.lemmas.Bool.{and_parts}
use Rattle.std.proofs.lemmas.Bool.Decides.{nat_tests}
use Rattle.tv_base.specs.declared.numbers.ItemNo.{ItemNo}
use Rattle.tv_base.specs.declared.numbers.SubNo.{SubNo}
use Rattle.tv_base.specs.declared.numbers.TreeNo.{TreeNo}
use Rattle.tv_base.specs.declared.numbers.Version.{Version}
use Rattle.tv_base.proofs.Truths.{or_none}
use Rattle.commute_ops.specs.declared.kinds.Op.{Op}
use Rattle.commute_ops.specs.declared.value.Value.{Value}
use Rattle.item_versions.specs.Collecting.{collected_all}
use Rattle.item_versions.specs.Item.{Held, above, below, collected, holds, may_touch, put_value, touched}
use Rattle.item_versions.specs.Table.{Table, item_in, may_touch_in, replaced, updated, valued}
use Rattle.item_versions.specs.Window.{in_window}
use Rattle.item_versions.proofs.History.{holds-above, holds-touched, holds-append, holds-below}
use Rattle.item_versions.proofs.Holding.{IsHeld-item_in}
use Rattle.letter_types.specs.declared.acts.Act.{Act}
use Rattle.letter_types.specs.declared.acts.Act.TheVariants as acts
use Rattle.letter_types.specs.declared.bodies.Body.{Body}
use Rattle.letter_types.specs.declared.bodies.Body.TheVariants.{Root, Sub as SubLetter, Done, Turn, Show, Sweep, Decide, Decided, Release, AskDone, AskAsked, Order, Ask}
use Rattle.letter_types.specs.declared.bodies.Notice.{Notice}
use Rattle.letter_types.specs.declared.votes.Vote.{Vote}
use Rattle.letter_types.specs.declared.votes.Vote.TheVariants.{Yes, No}
use Rattle.letter_types.specs.Steps.{Out}
use Rattle.script_parts.specs.Deeds.{after_deed, overwrites}
use Rattle.script_parts.specs.ScriptData.{ScriptData, ops_of, subs_at, updates}
use Rattle.script_parts.specs.declared.parts.Deed.{Deed}
use Rattle.script_parts.specs.declared.parts.Deed.TheVariants.{Apply, Get, Set, Draw}
use Rattle.script_parts.specs.declared.parts.SubOp.{SubOp}
use Rattle.script_parts.specs.declared.parts.TreeKind.{TreeKind}
use Rattle.script_parts.specs.declared.parts.TreeKind.TheVariants.{Update, Read, Strict}
use Rattle.world_model.specs.Apt.{can_make}
use Rattle.world_model.specs.Asked.{asked_ops, tree_part}
use Rattle.world_model.specs.Core.{Core}
use Rattle.world_model.specs.Decisions.{applied_in, ops_at, overwritten, overwritten_in}
use Rattle.world_model.specs.Done.{TreeOut, note_part}
use Rattle.world_model.specs.Named.{is_strict_at, tree_kind_at}
use Rattle.world_model.specs.Notices.{act_of, values_of}
use Rattle.world_model.specs.Reads.{gets, seen_in}
use Rattle.world_model.specs.Strict.{can_make_at, core_by_kind, core_row, locks_by, note_core, noted_vote, notice_by, refused_there, voting}
use Rattle.world_model.specs.Updates.{can_touch, can_update, may_make, table_after_deed, table_after_ops}
use Rattle.world_model.specs.Votes.{vote_of}
use Rattle.world_model.proofs.Epochs.{ask_each, order_each}
use Rattle.board_rules.specs.Histories.{Place, version_in}
use Rattle.board_rules.specs.Worth.{changes, ops_change}
use Rattle.tree_laws.proofs.apt.AptVersions.{DoneIn, is_version, version_is}
use Rattle.tree_laws.proofs.apt.AptWindows.{AreNear, over_near}
use Rattle.tree_laws.proofs.loads.Seen.{same_item, seen_of}
use Rattle.tree_laws.proofs.loads.Tables.{replaced_other, replaced_same}
use Rattle.tree_laws.proofs.histories.Turns.{kind_version, work_version}
use Rattle.tree_laws.proofs.conflicts.ByActs.{kind_updates}
use Rattle.run_laws.proofs.items.HeldItems.{written_other}
use Rattle.run_laws.proofs.strict.HoldRows.{decided_table}
use Rattle.run_laws.proofs.items.Overwritten.{IsOfCommit, seen_some}
use Rattle.run_laws.proofs.act_order.RowActs.{asked_acts, lasting_acts}
use Rattle.run_laws.specs.Written.{holds_in, holds_of, act_writes}
use Rattle.run_laws.proofs.items.MostHeld.{over_changes}

-- One item.
-- an update holds its version, and the others as before
touched_holds : (w v : Version) (op : Op) (h : Held) → may_touch v op h ≡ true
    → holds w (touched v op h) ≡ (v.0 == w.0 || holds w h)
touched_holds w v op [] may = absurd (cc may)
touched_holds w v op (x ∷ xs) may = holds-touched w v op x xs

-- so does a value that is put
put_holds : (w v : Version) (y : Value) (h : Held) → holds w (put_value v y h) ≡ (v.0 == w.0 || holds w h)
put_holds w v y h =
    let joined = holds-append w (below v h) ((v, y) ∷ above v h) in
    let lower = holds-below w v h in
    let upper = holds-above w v h in
    joined
    ∙ (let e : (holds w (below v h) || (v.0 == w.0 || holds w (above v h))) ≡ (v.0 == w.0 || holds w h) = rw (lower, upper) (grind (arith, nat_tests)) in
    e)

-- a collection keeps the versions above its own
collected_holds : (w f : Version) (h : Held) → f.0 < w.0 → holds w (collected f h) ≡ holds w h
collected_holds w f [] lt = refl
collected_holds w f (x ∷ xs) lt =
    let upper = holds-above w f (x ∷ xs) in
    let e : holds w (collected f (x ∷ xs)) ≡ holds w (x ∷ xs) = rw upper (grind (arith, nat_tests)) in e

-- A table in which one item is replaced by what holds one version more.
replaced_holds : (w v : Version) (n x : ItemNo) (g h : Held) (items : Table) → item_in n items ≡ Some h → holds w g ≡ (v.0 == w.0 || holds w h)
    → (test : Bool) → (n.0 == x.0) ≡ test → holds_in w x (replaced n g items) ≡ ((v.0 == w.0 && test) || holds_in w x items)
replaced_holds w v n x g h items here more true at =
    let same : n.0 ≡ x.0 = grind (arith, nat_tests) in
    let there : item_in x items ≡ Some h = sym (same_item n x items same) ∙ here in
    let now : item_in x (replaced n g items) ≡ Some g = sym (same_item n x (replaced n g items) same) ∙ replaced_same n g h items here in
    let was : holds_in w x items ≡ holds w h = ap (holds_of w) there in
    ap (holds_of w) now ∙ more ∙ rw was (grind (arith, nat_tests))
replaced_holds w v n x g h items here more false at = ap (holds_of w) (replaced_other n x g items at) ∙ grind (arith, nat_tests)

-- an update
touch_by : (w v : Version) (n x : ItemNo) (op : Op) (items : Table) (found : Option Held) → item_in n items ≡ found
    → may_touch_in v n op items ≡ true
    → holds_in w x (updated v op found n items) ≡ ((v.0 == w.0 && (n.0 == x.0)) || holds_in w x items)
touch_by w v n x op items None here may = absurd (let no : false ≡ true = rw (here, may_touch_in) at may in cc no)
touch_by w v n x op items (Some h) here may =
    replaced_holds w v n x (touched v op h) h items here (touched_holds w v op h (rw (here, may_touch_in) at may)) (n.0 == x.0) refl

made_holds : (w v : Version) (n x : ItemNo) (deed : Deed) (items : Table) → may_make v n deed items ≡ true
    → holds_in w x (table_after_deed v n deed items) ≡ ((v.0 == w.0 && ((n.0 == x.0) && changes deed)) || holds_in w x items)
made_holds w v n x (Apply op) items may =
    touch_by w v n x op items (item_in n items) refl may ∙ grind (arith, nat_tests)
made_holds w v n x Get items may = absurd (cc may)
made_holds w v n x (Set a) items may = absurd (cc may)
made_holds w v n x (Draw a) items may = absurd (cc may)

join : (a b c d : Bool) → ((a && b) || ((a && c) || d)) ≡ ((a && (c || b)) || d)
join a b c d = grind (arith, nat_tests)

-- of the versions of an item operations in version v add v, where one of them changes the item
pub ops_hold : (w v : Version) (x : ItemNo) (os : List SubOp) (items : Table) → can_touch v os items ≡ true
    → holds_in w x (table_after_ops v os items) ≡ ((v.0 == w.0 && ops_change x.0 os) || holds_in w x items)
ops_hold w v x [] items can = or_none (v.0 == w.0) (holds_in w x items)
ops_hold w v x (o ∷ os) items can =
    let parts = and_parts (may_make v o.item o.deed items) (can_touch v os (table_after_deed v o.item o.deed items)) can in
    ops_hold w v x os (table_after_deed v o.item o.deed items) parts.1
    ∙ ap (λ (b : Bool). (v.0 == w.0 && ops_change x.0 os) || b) (made_holds w v o.item x o.deed items parts.0)
    ∙ join (v.0 == w.0) (ops_change x.0 os) ((o.item.0 == x.0) && changes o.deed) (holds_in w x items)

-- a collection
collect_by : (w f : Version) (x : ItemNo) (e : ItemNo × Held) (es : Table) → f.0 < w.0
    → holds_in w x (collected_all f es) ≡ holds_in w x es
    → (test : Bool) → (e.0.0 == x.0) ≡ test → holds_in w x (collected_all f (e ∷ es)) ≡ holds_in w x (e ∷ es)
collect_by w f x e es lt rest true is = rw (is, holds_in) (collected_holds w f e.1 lt)
collect_by w f x e es lt rest false is = rw (is, holds_in) rest

pub collected_hold : (w f : Version) (x : ItemNo) (items : Table) → f.0 < w.0
    → holds_in w x (collected_all f items) ≡ holds_in w x items
collected_hold w f x [] lt = refl
collected_hold w f x (e ∷ es) lt = collect_by w f x e es lt (collected_hold w f x es lt) (e.0.0 == x.0) refl

-- A commit: the table has the item, and still does when one of its operations has overwritten.
abbrev pub HasItem : ItemNo → Table → Type 0
HasItem x items = (h : Held) × (item_in x items ≡ Some h)

replaced_has : (n x : ItemNo) (g h : Held) (items : Table) (test : Bool) → (n.0 == x.0) ≡ test → item_in n items ≡ Some h → HasItem x items
    → HasItem x (replaced n g items)
replaced_has n x g h items true is at has =
    let same : n.0 ≡ x.0 = grind (arith, nat_tests, is) in
    (g, sym (same_item n x (replaced n g items) same) ∙ replaced_same n g h items at)
replaced_has n x g h items false is at has = (has.0, replaced_other n x g items is ∙ has.1)

valued_has : (v : Version) (y : Value) (n x : ItemNo) (items : Table) (found : Option Held) → item_in n items ≡ found → HasItem x items
    → HasItem x (valued v y found n items)
valued_has v y n x items None at has = has
valued_has v y n x items (Some h) at has = replaced_has n x (put_value v y h) h items (n.0 == x.0) refl at has

over_has : (v : Version) (o : SubOp) (x : ItemNo) (items : Table) (found : Option Value) → HasItem x items → HasItem x (overwritten v o found items)
over_has v o x items None has = has
over_has v o x items (Some y) has = valued_has v (after_deed o.deed y) o.item x items (item_in o.item items) refl has

op_has : (v : Version) (o : SubOp) (x : ItemNo) (items : Table) (test : Bool) → HasItem x items
    → HasItem x (if test then overwritten v o (seen_in v o.item items) items else items)
op_has v o x items true has = over_has v o x items (seen_in v o.item items) has
op_has v o x items false has = has

over_holds : (low : ℕ) (w v : Version) (o : SubOp) (x : ItemNo) (items : Table) (test : Bool) → (o.item.0 == x.0) ≡ test → AreNear low items
    → HasItem x items → holds_in w x (overwritten v o (seen_in v o.item items) items) ≡ ((v.0 == w.0 && test) || holds_in w x items)
over_holds low w v o x items true is near has =
    let same : o.item.0 ≡ x.0 = grind (arith, nat_tests, is) in
    let h : Held = has.0 in
    let at : item_in o.item items ≡ Some h = same_item o.item x items same ∙ has.1 in
    let found = seen_some v h (IsHeld-item_in o.item items h at near.0) in
    let new : Held = put_value v (after_deed o.deed found.0) h in
    let made : overwritten v o (seen_in v o.item items) items ≡ replaced o.item new items =
    ap (λ (f : Option Value). overwritten v o f items) (ap (seen_of v) at ∙ found.1)
    ∙ ap (λ (f : Option Held). valued v (after_deed o.deed found.0) f o.item items) at in
    ap (λ (t : Table). holds_in w x t) made
    ∙ replaced_holds w v o.item x new h items at (put_holds w v (after_deed o.deed found.0) h) true is
over_holds low w v o x items false is near has =
    ap (holds_of w) (written_other v o x (seen_in v o.item items) items is) ∙ or_none (v.0 == w.0) (holds_in w x items)

all_true : (a b : Bool) → b ≡ true → a ≡ (a && b)
all_true true b is = sym is
all_true false b is = refl

all_false : (a b : Bool) → b ≡ false → false ≡ (a && b)
all_false true b is = sym is
all_false false b is = refl

op_holds : (low : ℕ) (w v : Version) (o : SubOp) (x : ItemNo) (items : Table) (test : Bool) → overwrites o.deed ≡ test → IsOfCommit o.deed
    → AreNear low items → HasItem x items
    → holds_in w x (if test then overwritten v o (seen_in v o.item items) items else items)
    ≡ ((v.0 == w.0 && ((o.item.0 == x.0) && changes o.deed)) || holds_in w x items)
op_holds low w v o x items true is reads near has =
    over_holds low w v o x items (o.item.0 == x.0) refl near has
    ∙ ap (λ (b : Bool). (v.0 == w.0 && b) || holds_in w x items) (all_true (o.item.0 == x.0) (changes o.deed) (over_changes o.deed is))
op_holds low w v o x items false is reads near has =
    or_none (v.0 == w.0) (holds_in w x items)
    ∙ ap (λ (b : Bool). (v.0 == w.0 && b) || holds_in w x items) (all_false (o.item.0 == x.0) (changes o.deed) (ap changes (reads is)))

pub commit_holds : (low : ℕ) (w v : Version) (x : ItemNo) (os : List SubOp) (items : Table) → AreNear low items → in_window low v.0 ≡ true
    → AllByRecursion (λ (o : SubOp). IsOfCommit o.deed) os → HasItem x items
    → holds_in w x (applied_in v os items) ≡ ((v.0 == w.0 && ops_change x.0 os) || holds_in w x items)
commit_holds low w v x [] items near within reads has = or_none (v.0 == w.0) (holds_in w x items)
commit_holds low w v x (o ∷ os) items near within reads has =
    commit_holds low w v x os (overwritten_in v o items) (over_near low v o items (overwrites o.deed) within near) within reads.1
    (op_has v o x items (overwrites o.deed) has)
    ∙ ap (λ (b : Bool). (v.0 == w.0 && ops_change x.0 os) || b) (op_holds low w v o x items (overwrites o.deed) refl reads.0 near has)
    ∙ join (v.0 == w.0) (ops_change x.0 os) ((o.item.0 == x.0) && changes o.deed) (holds_in w x items)

-- What is known where a node applies a commit of tree t in version v.
pub record IsCommit (s : ScriptData) (zs : List Place) (p : ℕ) (c : Core) (t : TreeNo) (v : Version) : Type 0 where
  pub strict : is_strict_at s t.0 ≡ true
  pub version : version_in t.0 zs ≡ Some v
  pub within : in_window c.node.turns.low.0 v.0 ≡ true
  pub reads : AllByRecursion (λ (o : SubOp). IsOfCommit o.deed) (ops_at p (subs_at s t.0))

-- and where it does a letter of this body, and has item x
pub record IsReady (s : ScriptData) (zs : List Place) (p : ℕ) (c : Core) (x : ItemNo) (body : Body) : Type 0 where
  pub near : AreNear c.node.turns.low.0 c.node.items
  pub has : HasItem x c.node.items
  pub dated : DoneIn zs (work_version s c body) body
  pub can : can_make_at s p c body ≡ true
  pub commits : (t : TreeNo) (v : Version) → body ≡ Decide t v true → IsCommit s zs p c t v

-- Version w of item x is held then where it was before, or where one of these acts writes it.
abbrev Holds : ScriptData → List Place → ℕ → ItemNo → Version → Core → List Act → Table → Type 0
Holds s zs p x w c does items = holds_in w x items ≡ (holds_in w x c.node.items || list_any (act_writes s zs p x.0 w.0) does)

stay : (a : Bool) → a ≡ (a || false)
stay a = sym (or-false a)

stays_so : (a b : Bool) → b ≡ false → a ≡ (a || (b || false))
stays_so a false is = stay a
stays_so a true is = absurd (cc is)

one_more : (a b c : Bool) → c ≡ a → (a || b) ≡ (b || (c || false))
one_more a b true is = grind (arith, nat_tests)
one_more a b false is = grind (arith, nat_tests)

did_made : (s : ScriptData) (zs : List Place) (p x w : ℕ) (t : TreeNo) (k : SubNo) (v : Version) → updates s t.0 ≡ true
    → version_in t.0 zs ≡ Some v → act_writes s zs p x w (acts.Did t k []) ≡ ((v.0 == w) && ops_change x (ops_of s t.0 k.0))
did_made s zs p x w t k v up is = rw (up, is) refl

did_left : (s : ScriptData) (zs : List Place) (p x w : ℕ) (t : TreeNo) (k : SubNo) (values : _) → updates s t.0 ≡ false
    → act_writes s zs p x w (acts.Did t k values) ≡ false
did_left s zs p x w t k values other = rw other refl

vote_left : (s : ScriptData) (zs : List Place) (p x w : ℕ) (t : TreeNo) (k : SubNo) (vote : Vote)
    → act_writes s zs p x w (act_of t k (notice_by vote)) ≡ false
vote_left s zs p x w t k (Yes values) = refl
vote_left s zs p x w t k (No cause) = refl

update_holds : (s : ScriptData) (zs : List Place) (p : ℕ) (x : ItemNo) (w : Version) (t : TreeNo) (k : SubNo) (v : Version) (c : Core)
    → updates s t.0 ≡ true → version_in t.0 zs ≡ Some v → can_touch v (ops_of s t.0 k.0) c.node.items ≡ true
    → Holds s zs p x w c (acts.Did t k [] ∷ []) (table_after_ops v (ops_of s t.0 k.0) c.node.items)
update_holds s zs p x w t k v c up version can =
    ops_hold w v x (ops_of s t.0 k.0) c.node.items can
    ∙ one_more (v.0 == w.0 && ops_change x.0 (ops_of s t.0 k.0)) (holds_in w x c.node.items) (act_writes s zs p x.0 w.0 (acts.Did t k []))
    (did_made s zs p x.0 w.0 t k v up version)

-- A root.
root_holds : (s : ScriptData) (zs : List Place) (p from : ℕ) (x : ItemNo) (w : Version) (t : TreeNo) (kind : Option TreeKind) (c : Core)
    → tree_kind_at s t.0 ≡ kind → IsReady s zs p c x (Root t)
    → Holds s zs p x w c (asked_acts s c t (record { 0 = 0 }) (Root t) kind) (core_by_kind s p from t (Root t) kind c).state.node.items
root_holds s zs p from x w t (Some Update) c is ready =
    let version : version_in t.0 zs ≡ Some c.node.turns.update =
    version_is (version_in t.0 zs) c.node.turns.update
    (subst (λ (kind : Option TreeKind). is_version (version_in t.0 zs) (kind_version c kind) ≡ true) is ready.dated) in
    let can : can_update s c.node (Root t) ≡ true = sym (rw (is, is_strict_at, can_make) refl) ∙ ready.can in
    update_holds s zs p x w t (record { 0 = 0 }) c.node.turns.update c (kind_updates s t.0 Update is) version can
root_holds s zs p from x w t (Some Read) c is ready =
    stays_so (holds_in w x c.node.items) (act_writes s zs p x.0 w.0 (acts.Did t (record { 0 = 0 }) (gets c.node.turns.read (ops_of s t.0 0) c.node.items)))
    (did_left s zs p x.0 w.0 t (record { 0 = 0 }) (gets c.node.turns.read (ops_of s t.0 0) c.node.items) (kind_updates s t.0 Read is))
root_holds s zs p from x w t (Some Strict) c is ready =
    let body : Body = Root t in
    let v : Version = c.node.turns.update in
    let vote : Vote = vote_of c.locks c.node.items t v (asked_ops s body) in
    let o : TreeOut = tree_part s p from v (nat_lt c.node.turns.update.0 v.0) (voting vote c.node.items) body c.node in
    let d : Core = record c { locks = locks_by vote t (asked_ops s body) c.locks; refusals = noted_vote body vote c.refusals } in
    ap (λ (i : Table). holds_in w x i) (decided_table s d o o.answered)
    ∙ stays_so (holds_in w x c.node.items) (act_writes s zs p x.0 w.0 (act_of t (record { 0 = 0 }) (notice_by vote)))
    (vote_left s zs p x.0 w.0 t (record { 0 = 0 }) vote)
root_holds s zs p from x w t None c is ready = stay (holds_in w x c.node.items)

-- Another subtransaction.
sub_holds : (s : ScriptData) (zs : List Place) (p from : ℕ) (x : ItemNo) (w : Version) (t : TreeNo) (k : SubNo) (v : Version)
    (kind : Option TreeKind) (c : Core) → tree_kind_at s t.0 ≡ kind → IsReady s zs p c x (SubLetter t k v)
    → Holds s zs p x w c (asked_acts s c t k (SubLetter t k v) kind) (core_by_kind s p from t (SubLetter t k v) kind c).state.node.items
sub_holds s zs p from x w t k v (Some Update) c is ready =
    let can : can_update s c.node (SubLetter t k v) ≡ true = sym (rw (is, is_strict_at, can_make) refl) ∙ ready.can in
    update_holds s zs p x w t k v c (kind_updates s t.0 Update is) (version_is (version_in t.0 zs) v ready.dated) can
sub_holds s zs p from x w t k v (Some Read) c is ready =
    stays_so (holds_in w x c.node.items) (act_writes s zs p x.0 w.0 (acts.Did t k (gets v (ops_of s t.0 k.0) c.node.items)))
    (did_left s zs p x.0 w.0 t k (gets v (ops_of s t.0 k.0) c.node.items) (kind_updates s t.0 Read is))
sub_holds s zs p from x w t k v (Some Strict) c is ready =
    let body : Body = SubLetter t k v in
    let vote : Vote = vote_of c.locks c.node.items t v (asked_ops s body) in
    let o : TreeOut = tree_part s p from v (nat_lt c.node.turns.update.0 v.0) (voting vote c.node.items) body c.node in
    let d : Core = record c { locks = locks_by vote t (asked_ops s body) c.locks; refusals = noted_vote body vote c.refusals } in
    ap (λ (i : Table). holds_in w x i) (decided_table s d o o.answered)
    ∙ stays_so (holds_in w x c.node.items) (act_writes s zs p x.0 w.0 (act_of t k (notice_by vote))) (vote_left s zs p x.0 w.0 t k vote)
sub_holds s zs p from x w t k v None c is ready = stay (holds_in w x c.node.items)

-- A notice leaves the items.
note_holds : (s : ScriptData) (from : ℕ) (x : ItemNo) (w : Version) (t : TreeNo) (k : SubNo) (v : Version) (notice : Notice) (c : Core)
    (strict : Bool) → is_strict_at s t.0 ≡ strict → holds_in w x (note_core s from t k v notice c).state.node.items ≡ holds_in w x c.node.items
note_holds s from x w t k v notice c true is =
    let o : TreeOut = note_part from t.0 k.0 v.0 (values_of notice) c.node in
    let d : Core = record c { refusals = refused_there t k notice c } in
    rw is (ap (λ (i : Table). holds_in w x i) (decided_table s d o o.answered))
note_holds s from x w t k v notice c false is = rw is refl

-- A decision.
commit_made : (s : ScriptData) (zs : List Place) (p x w : ℕ) (t : TreeNo) (v : Version) → is_strict_at s t.0 ≡ true → version_in t.0 zs ≡ Some v
    → act_writes s zs p x w (acts.Applied t true) ≡ ((v.0 == w) && ops_change x (ops_at p (subs_at s t.0)))
commit_made s zs p x w t v strict is = rw (strict, is) refl

decide_holds : (s : ScriptData) (zs : List Place) (p from : ℕ) (x : ItemNo) (w : Version) (t : TreeNo) (v : Version) (commit : Bool) (c : Core)
    → IsReady s zs p c x (Decide t v commit)
    → Holds s zs p x w c (acts.Applied t commit ∷ []) (core_row s p c from (Decide t v commit)).state.node.items
decide_holds s zs p from x w t v true c ready =
    let it : IsCommit s zs p c t v = ready.commits t v refl in
    commit_holds c.node.turns.low.0 w v x (ops_at p (subs_at s t.0)) c.node.items ready.near it.within it.reads ready.has
    ∙ one_more (v.0 == w.0 && ops_change x.0 (ops_at p (subs_at s t.0))) (holds_in w x c.node.items) (act_writes s zs p x.0 w.0 (acts.Applied t true))
    (commit_made s zs p x.0 w.0 t v it.strict it.version)
decide_holds s zs p from x w t v false c ready = stay (holds_in w x c.node.items)

-- So by the row of any letter, above the low version then.
pub row_holds : (s : ScriptData) (zs : List Place) (p from : ℕ) (x : ItemNo) (w : Version) (body : Body) (c : Core) → IsReady s zs p c x body
    → (core_row s p c from body).state.node.turns.low.0 < w.0
    → Holds s zs p x w c (lasting_acts s c body) (core_row s p c from body).state.node.items
row_holds s zs p from x w (Root t) c ready now = root_holds s zs p from x w t (tree_kind_at s t.0) c refl ready
row_holds s zs p from x w (SubLetter t k v) c ready now = sub_holds s zs p from x w t k v (tree_kind_at s t.0) c refl ready
row_holds s zs p from x w (Done t k v notice) c ready now =
    note_holds s from x w t k v notice c (is_strict_at s t.0) refl ∙ stay (holds_in w x c.node.items)
row_holds s zs p from x w (Decide t v commit) c ready now = decide_holds s zs p from x w t v commit c ready
row_holds s zs p from x w (Decided t v) c ready now = stay (holds_in w x c.node.items)
row_holds s zs p from x w (Release t) c ready now = stay (holds_in w x c.node.items)
row_holds s zs p from x w (Turn v) c ready now = stay (holds_in w x c.node.items)
row_holds s zs p from x w (Show v) c ready now = stay (holds_in w x c.node.items)
row_holds s zs p from x w (Sweep v) c ready now = collected_hold w v x c.node.items now ∙ stay (holds_in w x c.node.items)
row_holds s zs p from x w (AskDone v k) c ready now = stay (holds_in w x c.node.items)
row_holds s zs p from x w (AskAsked v k) c ready now = stay (holds_in w x c.node.items)
row_holds s zs p from x w (Order e what v) c ready now =
    order_each (λ (o : Out Core). o.state.node.turns.low.0 < w.0 → Holds s zs p x w c [] o.state.node.items) s e what v c
    (λ low. stay (holds_in w x c.node.items)) (λ low. stay (holds_in w x c.node.items)) (λ to low. stay (holds_in w x c.node.items))
    (λ to new low. stay (holds_in w x c.node.items))
    (λ to new low. collected_hold w v x c.node.items low ∙ stay (holds_in w x c.node.items)) now
row_holds s zs p from x w (Ask e) c ready now =
    ask_each (λ (o : Out Core). Holds s zs p x w c [] o.state.node.items) s e c (stay (holds_in w x c.node.items))
    (stay (holds_in w x c.node.items))
row_holds s zs p from x w _ c ready now = stay (holds_in w x c.node.items)
