-- What the row of a core makes of its node's items and version numbers.
use Rattle.std.proofs.Common.{◌≡◌, ℕ, Bool, true, false, refl, sym, arith, Option, Some, None}
use Rattle.std.specs.Prelude.{if◌then◌else◌, nat_lt}
use Rattle.std.proofs.lemmas.Bool.Decides.{nat_tests}
use Rattle.tv_base.specs.declared.numbers.SubNo.{SubNo}
use Rattle.tv_base.specs.declared.numbers.TreeNo.{TreeNo}
use Rattle.tv_base.specs.declared.numbers.Version.{Version}
use Rattle.letter_types.specs.declared.bodies.Body.{Body}
use Rattle.letter_types.specs.declared.bodies.Body.TheVariants.{Root, Sub as SubLetter, Done, Decide, Decided, Release, Turn, Show, Sweep, AskDone, AskAsked, Ask, Order}
use Rattle.letter_types.specs.declared.bodies.What.TheVariants as whats
use Rattle.letter_types.specs.declared.bodies.Notice.{Notice}
use Rattle.letter_types.specs.declared.votes.Vote.{Vote}
use Rattle.letter_types.specs.Steps.{Out}
use Rattle.item_versions.specs.Collecting.{collected_all}
use Rattle.item_versions.specs.Table.{Table}
use Rattle.node_versions.specs.declared.turns.Turns.{Turns}
use Rattle.tree_home.specs.declared.homes.Answered.{Answered}
use Rattle.tx_trees.specs.ScriptData.{ScriptData, ops_of, subs_at}
use Rattle.tx_trees.specs.declared.parts.TreeKind.{TreeKind}
use Rattle.tx_trees.specs.declared.parts.TreeKind.TheVariants.{Update, Read, Strict}
use Rattle.world_model.specs.Asked.{asked_ops, asked_version, tree_part}
use Rattle.world_model.specs.Core.{Core}
use Rattle.world_model.specs.Decisions.{applied_in, ops_at}
use Rattle.world_model.specs.Done.{TreeOut, note_part, raised_if}
use Rattle.world_model.specs.Named.{is_strict_at, tree_kind_at}
use Rattle.world_model.specs.Node.{Effect, Node}
use Rattle.world_model.specs.Notices.{values_of}
use Rattle.world_model.specs.Strict.{answered, core_by_kind, core_row, decided, locks_by, note_core, noted_vote, refused_there, voting}
use Rattle.world_model.specs.Updates.{table_after_ops}
use Rattle.world_model.specs.Votes.{vote_of}
use Rattle.world_model.proofs.Epochs.{Orders, Plainly, ask_each, order_each}
use Rattle.world_model.proofs.Bags.{one_if_both}
use Rattle.tree_laws.specs.Dids.{asks}

-- a version is raised to if it is greater
abbrev pub raised_to : Version → Turns → Turns
raised_to v turns = raised_if (nat_lt turns.update.0 v.0) v.0 turns

-- The items and the numbers of a core's node after a letter of this body: they stay; or a version is raised to, by a
-- subtransaction or by an order; or the operations of a subtransaction of an update tree are applied, in the version that is
-- asked for; or a commit is applied; or a version is shown; or the items are collected.
pub data Changes (s : ScriptData) (p : ℕ) (body : Body) (c : Core) (items : Table) (turns : Turns) : Type 0 where
  Rests : items ≡ c.node.items → turns ≡ c.node.turns → Changes s p body c items turns
  Follows : (t : TreeNo) (k : SubNo) (v : Version) → body ≡ SubLetter t k v → items ≡ c.node.items
      → turns ≡ raised_to v c.node.turns → Changes s p body c items turns
  Raises : (v : Version) → Orders c body whats.Turn v → items ≡ c.node.items → turns ≡ raised_to v c.node.turns
      → Changes s p body c items turns
  Touches : (t k : ℕ) → asks t k body ≡ 1 → tree_kind_at s t ≡ Some Update
      → items ≡ table_after_ops (asked_version c.node.turns.update body) (ops_of s t k) c.node.items
      → turns ≡ raised_to (asked_version c.node.turns.update body) c.node.turns → Changes s p body c items turns
  Applies : (t : TreeNo) (v : Version) → body ≡ Decide t v true
      → items ≡ applied_in v (ops_at p (subs_at s t.0)) c.node.items → turns ≡ c.node.turns → Changes s p body c items turns
  Shows : (v : Version) → Orders c body whats.Show v → items ≡ c.node.items → turns ≡ record c.node.turns { read = v }
      → Changes s p body c items turns
  Collects : (v : Version) → Orders c body whats.Sweep v → items ≡ collected_all v c.node.items
      → turns ≡ record c.node.turns { low = v } → Changes s p body c items turns

-- the same of a node
abbrev pub NodeChanges : ScriptData → ℕ → Body → Core → Node → Type 0
NodeChanges s p body c after = Changes s p body c after.items after.turns

-- no version is raised to itself
not_raised : (v : Version) (turns : Turns) → (test : Bool) → nat_lt turns.update.0 v.0 ≡ test → turns.update.0 ≡ v.0
    → raised_if test v.0 turns ≡ turns
not_raised v turns true is same = absurd (grind (arith, nat_tests))
not_raised v turns false is same = refl

-- A decision changes what is counted alone.
decided_stays : (s : ScriptData) (p : ℕ) (body : Body) (d c : Core) (o : TreeOut) (found : Option Answered)
    → NodeChanges s p body d o.out.state → NodeChanges s p body d (decided s c o found).state.node
decided_stays s p body d c o None change = change
decided_stays s p body d c o (Some a) change = change

pick : (s : ScriptData) (p : ℕ) (body : Body) (c : Core) (b : Bool) (x y : Out Core) → NodeChanges s p body c x.state.node
    → NodeChanges s p body c y.state.node → NodeChanges s p body c (if b then x else y).state.node
pick s p body c true x y l r = l
pick s p body c false x y l r = r

-- A root.
root_changes : (s : ScriptData) (p from : ℕ) (t : TreeNo) (kind : Option TreeKind) (c : Core) → tree_kind_at s t.0 ≡ kind
    → NodeChanges s p (Root t) c (core_by_kind s p from t (Root t) kind c).state.node
root_changes s p from t (Some Update) c is =
    let turns : Turns = c.node.turns in
    Touches t.0 0 (one_if_both t.0 0) is refl (sym (not_raised turns.update turns (nat_lt turns.update.0 turns.update.0) refl refl))
root_changes s p from t (Some Read) c is = Rests refl refl
root_changes s p from t (Some Strict) c is =
    let body : Body = Root t in
    let w : Version = c.node.turns.update in
    let vote : Vote = vote_of c.locks c.node.items t w (asked_ops s body) in
    let e : Effect = voting vote c.node.items in
    let raises : Bool = nat_lt c.node.turns.update.0 w.0 in
    let o : TreeOut = tree_part s p from w raises e body c.node in
    let noted : Core = record c { locks = locks_by vote t (asked_ops s body) c.locks; refusals = noted_vote body vote c.refusals } in
    decided_stays s p body c noted o o.answered (Rests refl refl)
root_changes s p from t None c is = Rests refl refl

-- Another subtransaction.
sub_changes : (s : ScriptData) (p from : ℕ) (t : TreeNo) (k : SubNo) (v : Version) (kind : Option TreeKind) (c : Core)
    → tree_kind_at s t.0 ≡ kind
    → NodeChanges s p (SubLetter t k v) c (core_by_kind s p from t (SubLetter t k v) kind c).state.node
sub_changes s p from t k v (Some Update) c is = Touches t.0 k.0 (one_if_both t.0 k.0) is refl refl
sub_changes s p from t k v (Some Read) c is = Rests refl refl
sub_changes s p from t k v (Some Strict) c is = Follows t k v refl refl refl
sub_changes s p from t k v None c is = Rests refl refl

-- A notice.
note_changes : (s : ScriptData) (p from : ℕ) (t : TreeNo) (k : SubNo) (v : Version) (notice : Notice) (c : Core)
    → NodeChanges s p (Done t k v notice) c (note_core s from t k v notice c).state.node
note_changes s p from t k v notice c =
    let body : Body = Done t k v notice in
    let o : TreeOut = note_part from t.0 k.0 v.0 (values_of notice) c.node in
    let noted : Core = record c { refusals = refused_there t k notice c } in
    pick s p body c (is_strict_at s t.0) (decided s noted o o.answered) (answered s c o)
    (decided_stays s p body c noted o o.answered (Rests refl refl)) (Rests refl refl)

-- A decision.
decide_changes : (s : ScriptData) (p from : ℕ) (t : TreeNo) (v : Version) (commit : Bool) (c : Core)
    → NodeChanges s p (Decide t v commit) c (core_row s p c from (Decide t v commit)).state.node
decide_changes s p from t v true c = Applies t v refl refl refl
decide_changes s p from t v false c = Rests refl refl

pub core_changes : (s : ScriptData) (p from : ℕ) (body : Body) (c : Core)
    → NodeChanges s p body c (core_row s p c from body).state.node
core_changes s p from (Root t) c = root_changes s p from t (tree_kind_at s t.0) c refl
core_changes s p from (SubLetter t k v) c = sub_changes s p from t k v (tree_kind_at s t.0) c refl
core_changes s p from (Done t k v notice) c = note_changes s p from t k v notice c
core_changes s p from (Decide t v commit) c = decide_changes s p from t v commit c
core_changes s p from (Turn v) c = Raises v (Plainly refl) refl refl
core_changes s p from (Show v) c = Shows v (Plainly refl) refl refl
core_changes s p from (Sweep v) c = Collects v (Plainly refl) refl refl
core_changes s p from (Decided t v) c = Rests refl refl
core_changes s p from (Release t) c = Rests refl refl
core_changes s p from (AskDone v k) c = Rests refl refl
core_changes s p from (AskAsked v k) c = Rests refl refl
core_changes s p from (Order e what v) c =
    order_each (λ (o : Out Core). NodeChanges s p (Order e what v) c o.state.node) s e what v c (Rests refl refl) (Rests refl refl)
    (λ to. Raises v to refl refl) (λ to new. Shows v to refl refl) (λ to new. Collects v to refl refl)
core_changes s p from (Ask e) c =
    ask_each (λ (o : Out Core). NodeChanges s p (Ask e) c o.state.node) s e c (Rests refl refl) (Rests refl refl)
core_changes s p from _ c = Rests refl refl
