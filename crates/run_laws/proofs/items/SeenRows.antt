-- What the row of a core makes of what is seen of an item: what the acts of the row say.
use Rattle.std.proofs.Common.{◌≡◌, ℕ, ◌≤◌, Bool, true, false, List, [], ◌∷◌, refl, sym, ap, subst, ◌∙◌, arith, Option, Some, None}
use Rattle.std.specs.Prelude.{if◌then◌else◌, fold, nat_le, nat_lt}
use Rattle.std.specs.List.{AllByRecursion}
use Rattle.tv_base.specs.declared.numbers.ItemNo.{ItemNo}
use Rattle.tv_base.specs.declared.numbers.SubNo.{SubNo}
use Rattle.tv_base.specs.declared.numbers.TreeNo.{TreeNo}
use Rattle.tv_base.specs.declared.numbers.Version.{Version}
use Rattle.commute_ops.specs.declared.value.Value.{Value}
use Rattle.item_versions.specs.Table.{Table}
use Rattle.item_versions.specs.Window.{in_window}
use Rattle.item_versions.proofs.Tables.{Each as EachItem}
use Rattle.item_versions.proofs.Window.{CanCollect-windowed}
use Rattle.letter_types.specs.declared.acts.Act.{Act}
use Rattle.letter_types.specs.declared.acts.Act.TheVariants as acts
use Rattle.letter_types.specs.declared.bodies.Body.{Body}
use Rattle.letter_types.specs.declared.bodies.Body.TheVariants.{Root, Sub as SubLetter, Done, Turn, Show, Sweep, Decide, Decided, Release, AskDone, AskAsked, Order, Ask}
use Rattle.letter_types.specs.declared.bodies.Notice.{Notice}
use Rattle.letter_types.specs.declared.votes.Vote.{Vote}
use Rattle.letter_types.specs.declared.votes.Vote.TheVariants.{Yes, No}
use Rattle.script_parts.specs.ScriptData.{ScriptData, ops_of, subs_at, updates}
use Rattle.script_parts.specs.declared.parts.SubOp.{SubOp}
use Rattle.script_parts.specs.declared.parts.TreeKind.{TreeKind}
use Rattle.script_parts.specs.declared.parts.TreeKind.TheVariants.{Update, Read, Strict}
use Rattle.world_model.specs.Apt.{can_make}
use Rattle.world_model.specs.Asked.{asked_ops, tree_part}
use Rattle.world_model.specs.Core.{Core}
use Rattle.world_model.specs.Decisions.{ops_at}
use Rattle.world_model.specs.Done.{TreeOut, note_part}
use Rattle.world_model.specs.Named.{is_strict_at, tree_kind_at}
use Rattle.world_model.specs.Notices.{act_of, values_of}
use Rattle.world_model.specs.Reads.{gets, seen_in}
use Rattle.world_model.specs.Strict.{can_make_at, core_by_kind, core_row, locks_by, note_core, noted_vote, notice_by, refused_there, voting}
use Rattle.world_model.specs.Updates.{can_touch, can_update, table_after_ops}
use Rattle.world_model.specs.Votes.{vote_of}
use Rattle.board_rules.specs.Histories.{Place, version_in}
use Rattle.board_rules.specs.Worth.{after_ops}
use Rattle.tree_laws.proofs.apt.AptVersions.{DoneIn, is_version, version_is}
use Rattle.tree_laws.proofs.apt.AptWindows.{AreNear}
use Rattle.tree_laws.proofs.loads.Seen.{IsFrom, collected_shows, seen_ops}
use Rattle.tree_laws.proofs.histories.Turns.{kind_version, work_version}
use Rattle.tree_laws.proofs.conflicts.ByActs.{kind_updates}
use Rattle.run_laws.specs.ValuesByActs.{value_by_act}
use Rattle.run_laws.proofs.strict.HoldRows.{decided_table}
use Rattle.run_laws.proofs.items.Overwritten.{AreTop, IsOfCommit, commit_seen}
use Rattle.run_laws.proofs.act_order.RowActs.{asked_acts, lasting_acts}
use Rattle.world_model.proofs.Epochs.{order_each, ask_each}
use Rattle.letter_types.specs.Steps.{Out}

-- items in a window are from its low version on
pub near_from : (low : ℕ) (items : Table) → AreNear low items → EachItem (IsFrom low) items
near_from low [] near = tt
near_from low (e ∷ es) near = (
  record { order = near.0.0; first = CanCollect-windowed low (record { 0 = low }) e.1 near.1.0 (omega arith) },
  near_from low es (near.0.1, near.1.1),
)

-- What is known where a node applies a commit of tree t in version v.
pub record IsCommit (s : ScriptData) (zs : List Place) (p : ℕ) (c : Core) (t : TreeNo) (v : Version) : Type 0 where
  pub strict : is_strict_at s t.0 ≡ true
  pub version : version_in t.0 zs ≡ Some v
  pub within : in_window c.node.turns.low.0 v.0 ≡ true
  pub reads : AllByRecursion (λ (o : SubOp). IsOfCommit o.deed) (ops_at p (subs_at s t.0))
  pub top : AreTop v (ops_at p (subs_at s t.0)) c.node.items

-- and where it does a letter of this body
pub record IsReady (s : ScriptData) (zs : List Place) (p : ℕ) (c : Core) (body : Body) : Type 0 where
  pub near : AreNear c.node.turns.low.0 c.node.items
  pub dated : DoneIn zs (work_version s c body) body
  pub can : can_make_at s p c body ≡ true
  pub commits : (t : TreeNo) (v : Version) → body ≡ Decide t v true → IsCommit s zs p c t v

-- Item x shows value w in version u before, and what the acts make of it after.
abbrev Sees : ScriptData → List Place → ℕ → ItemNo → Version → Value → List Act → Table → Type 0
Sees s zs p x u w does items = seen_in u x items ≡ Some (fold (value_by_act s zs p x.0 u.0) w does)

-- a Did of an update tree
did_made : (s : ScriptData) (zs : List Place) (p : ℕ) (x : ItemNo) (u : Version) (t : TreeNo) (k : SubNo) (v : Version) (w : Value)
    → updates s t.0 ≡ true → version_in t.0 zs ≡ Some v
    → (if nat_le v.0 u.0 then after_ops x.0 (ops_of s t.0 k.0) w else w) ≡ value_by_act s zs p x.0 u.0 w (acts.Did t k [])
did_made s zs p x u t k v w up is = rw (up, is) refl

did_left : (s : ScriptData) (zs : List Place) (p : ℕ) (x : ItemNo) (u : Version) (t : TreeNo) (k : SubNo) (values : _) (w : Value)
    → updates s t.0 ≡ false → w ≡ value_by_act s zs p x.0 u.0 w (acts.Did t k values)
did_left s zs p x u t k values w other = rw other refl

vote_left : (s : ScriptData) (zs : List Place) (p : ℕ) (x : ItemNo) (u : Version) (t : TreeNo) (k : SubNo) (vote : Vote) (w : Value)
    → w ≡ value_by_act s zs p x.0 u.0 w (act_of t k (notice_by vote))
vote_left s zs p x u t k (Yes values) w = refl
vote_left s zs p x u t k (No cause) w = refl

update_sees : (s : ScriptData) (zs : List Place) (p low : ℕ) (x : ItemNo) (u : Version) (w : Value) (t : TreeNo) (k : SubNo) (v : Version)
    (items : Table) → AreNear low items → low ≤ u.0 → updates s t.0 ≡ true → version_in t.0 zs ≡ Some v
    → can_touch v (ops_of s t.0 k.0) items ≡ true → seen_in u x items ≡ Some w
    → Sees s zs p x u w (acts.Did t k [] ∷ []) (table_after_ops v (ops_of s t.0 k.0) items)
update_sees s zs p low x u w t k v items near le up version can is =
    seen_ops low u v x (ops_of s t.0 k.0) items w (near_from low items near) le can is
    ∙ ap (λ (y : Value). Some y) (did_made s zs p x u t k v w up version)

-- A root.
root_sees : (s : ScriptData) (zs : List Place) (p from : ℕ) (x : ItemNo) (u : Version) (w : Value) (t : TreeNo) (kind : Option TreeKind) (c : Core)
    → tree_kind_at s t.0 ≡ kind → IsReady s zs p c (Root t) → c.node.turns.low.0 ≤ u.0 → seen_in u x c.node.items ≡ Some w
    → Sees s zs p x u w (asked_acts s c t (record { 0 = 0 }) (Root t) kind) (core_by_kind s p from t (Root t) kind c).state.node.items
root_sees s zs p from x u w t (Some Update) c is ready le seen =
    let version : version_in t.0 zs ≡ Some c.node.turns.update =
    version_is (version_in t.0 zs) c.node.turns.update
    (subst (λ (kind : Option TreeKind). is_version (version_in t.0 zs) (kind_version c kind) ≡ true) is ready.dated) in
    let can : can_update s c.node (Root t) ≡ true = sym (rw (is, is_strict_at, can_make) refl) ∙ ready.can in
    update_sees s zs p c.node.turns.low.0 x u w t (record { 0 = 0 }) c.node.turns.update c.node.items ready.near le
    (kind_updates s t.0 Update is) version can seen
root_sees s zs p from x u w t (Some Read) c is ready le seen =
    seen
    ∙ ap (λ (y : Value). Some y)
    (did_left s zs p x u t (record { 0 = 0 }) (gets c.node.turns.read (ops_of s t.0 0) c.node.items) w (kind_updates s t.0 Read is))
root_sees s zs p from x u w t (Some Strict) c is ready le seen =
    let body : Body = Root t in
    let v : Version = c.node.turns.update in
    let vote : Vote = vote_of c.locks c.node.items t v (asked_ops s body) in
    let o : TreeOut = tree_part s p from v (nat_lt c.node.turns.update.0 v.0) (voting vote c.node.items) body c.node in
    let d : Core = record c { locks = locks_by vote t (asked_ops s body) c.locks; refusals = noted_vote body vote c.refusals } in
    ap (seen_in u x) (decided_table s d o o.answered) ∙ seen ∙ ap (λ (y : Value). Some y) (vote_left s zs p x u t (record { 0 = 0 }) vote w)
root_sees s zs p from x u w t None c is ready le seen = seen

-- Another subtransaction.
sub_sees : (s : ScriptData) (zs : List Place) (p from : ℕ) (x : ItemNo) (u : Version) (w : Value) (t : TreeNo) (k : SubNo) (v : Version)
    (kind : Option TreeKind) (c : Core) → tree_kind_at s t.0 ≡ kind → IsReady s zs p c (SubLetter t k v) → c.node.turns.low.0 ≤ u.0
    → seen_in u x c.node.items ≡ Some w
    → Sees s zs p x u w (asked_acts s c t k (SubLetter t k v) kind) (core_by_kind s p from t (SubLetter t k v) kind c).state.node.items
sub_sees s zs p from x u w t k v (Some Update) c is ready le seen =
    let can : can_update s c.node (SubLetter t k v) ≡ true = sym (rw (is, is_strict_at, can_make) refl) ∙ ready.can in
    update_sees s zs p c.node.turns.low.0 x u w t k v c.node.items ready.near le (kind_updates s t.0 Update is)
    (version_is (version_in t.0 zs) v ready.dated) can seen
sub_sees s zs p from x u w t k v (Some Read) c is ready le seen =
    seen ∙ ap (λ (y : Value). Some y) (did_left s zs p x u t k (gets v (ops_of s t.0 k.0) c.node.items) w (kind_updates s t.0 Read is))
sub_sees s zs p from x u w t k v (Some Strict) c is ready le seen =
    let body : Body = SubLetter t k v in
    let vote : Vote = vote_of c.locks c.node.items t v (asked_ops s body) in
    let o : TreeOut = tree_part s p from v (nat_lt c.node.turns.update.0 v.0) (voting vote c.node.items) body c.node in
    let d : Core = record c { locks = locks_by vote t (asked_ops s body) c.locks; refusals = noted_vote body vote c.refusals } in
    ap (seen_in u x) (decided_table s d o o.answered) ∙ seen ∙ ap (λ (y : Value). Some y) (vote_left s zs p x u t k vote w)
sub_sees s zs p from x u w t k v None c is ready le seen = seen

-- A notice leaves the items.
note_sees : (s : ScriptData) (from : ℕ) (x : ItemNo) (u : Version) (w : Value) (t : TreeNo) (k : SubNo) (v : Version) (notice : Notice) (c : Core)
    (strict : Bool) → is_strict_at s t.0 ≡ strict → seen_in u x c.node.items ≡ Some w
    → seen_in u x (note_core s from t k v notice c).state.node.items ≡ Some w
note_sees s from x u w t k v notice c true is seen =
    let o : TreeOut = note_part from t.0 k.0 v.0 (values_of notice) c.node in
    let d : Core = record c { refusals = refused_there t k notice c } in
    rw is (ap (seen_in u x) (decided_table s d o o.answered) ∙ seen)
note_sees s from x u w t k v notice c false is seen = rw is seen

-- A decision.
commit_made : (s : ScriptData) (zs : List Place) (p : ℕ) (x : ItemNo) (u : Version) (t : TreeNo) (v : Version) (w : Value)
    → is_strict_at s t.0 ≡ true → version_in t.0 zs ≡ Some v
    → (if nat_le v.0 u.0 then after_ops x.0 (ops_at p (subs_at s t.0)) w else w) ≡ value_by_act s zs p x.0 u.0 w (acts.Applied t true)
commit_made s zs p x u t v w strict is = rw (strict, is) refl

decide_sees : (s : ScriptData) (zs : List Place) (p from : ℕ) (x : ItemNo) (u : Version) (w : Value) (t : TreeNo) (v : Version) (commit : Bool)
    (c : Core) → IsReady s zs p c (Decide t v commit) → c.node.turns.low.0 ≤ u.0 → seen_in u x c.node.items ≡ Some w
    → Sees s zs p x u w (acts.Applied t commit ∷ []) (core_row s p c from (Decide t v commit)).state.node.items
decide_sees s zs p from x u w t v true c ready le seen =
    let it : IsCommit s zs p c t v = ready.commits t v refl in
    commit_seen c.node.turns.low.0 u v x (ops_at p (subs_at s t.0)) c.node.items w ready.near le it.within it.reads it.top seen
    ∙ ap (λ (y : Value). Some y) (commit_made s zs p x u t v w it.strict it.version)
decide_sees s zs p from x u w t v false c ready le seen = seen

-- so by the row of any letter, where the version is from the low version on then
pub row_sees : (s : ScriptData) (zs : List Place) (p from : ℕ) (x : ItemNo) (u : Version) (w : Value) (body : Body) (c : Core)
    → IsReady s zs p c body → c.node.turns.low.0 ≤ u.0 → (core_row s p c from body).state.node.turns.low.0 ≤ u.0
    → seen_in u x c.node.items ≡ Some w
    → Sees s zs p x u w (lasting_acts s c body) (core_row s p c from body).state.node.items
row_sees s zs p from x u w (Root t) c ready le now seen = root_sees s zs p from x u w t (tree_kind_at s t.0) c refl ready le seen
row_sees s zs p from x u w (SubLetter t k v) c ready le now seen = sub_sees s zs p from x u w t k v (tree_kind_at s t.0) c refl ready le seen
row_sees s zs p from x u w (Done t k v notice) c ready le now seen = note_sees s from x u w t k v notice c (is_strict_at s t.0) refl seen
row_sees s zs p from x u w (Decide t v commit) c ready le now seen = decide_sees s zs p from x u w t v commit c ready le seen
row_sees s zs p from x u w (Decided t v) c ready le now seen = seen
row_sees s zs p from x u w (Release t) c ready le now seen = seen
row_sees s zs p from x u w (Turn v) c ready le now seen = seen
row_sees s zs p from x u w (Show v) c ready le now seen = seen
row_sees s zs p from x u w (Sweep v) c ready le now seen =
    collected_shows v u x c.node.turns.low.0 c.node.items (near_from c.node.turns.low.0 c.node.items ready.near) now ∙ seen
row_sees s zs p from x u w (AskDone v k) c ready le now seen = seen
row_sees s zs p from x u w (AskAsked v k) c ready le now seen = seen
row_sees s zs p from x u w (Order e what v) c ready le now seen =
    order_each (λ (o : Out Core). o.state.node.turns.low.0 ≤ u.0 → Sees s zs p x u w [] o.state.node.items) s e what v c (λ now. seen)
    (λ now. seen) (λ to now. seen) (λ to new now. seen)
    (λ to new now.
    collected_shows v u x c.node.turns.low.0 c.node.items (near_from c.node.turns.low.0 c.node.items ready.near) now ∙ seen) now
row_sees s zs p from x u w (Ask e) c ready le now seen =
    ask_each (λ (o : Out Core). Sees s zs p x u w [] o.state.node.items) s e c seen seen
row_sees s zs p from x u w _ c ready le now seen = seen
