-- In every run an item's node holds it in no less a version than each in which it was written: so a vote that finds nothing
-- newer at its node finds nothing newer in the look back.
use Rattle.std.proofs.Common.{◌≡◌, ◌≢◌, ◌⊎◌, inl, inr, ℕ, suc, ◌<◌, ◌≤◌, ◌==◌, ◌&&◌, ◌||◌, Bool, true, false, List, [], ◌∷◌, ◌++◌, length, refl, sym, ap, ◌∙◌, subst, arith, append_assoc, Option, Some}
use Rattle.std.specs.Prelude.{if◌then◌else◌, is_some, slice_get}
use Rattle.std.proofs.lemmas.Bool.{and_parts, cases_eq, cases_lt, or_cases, or_left, or_right}
use Rattle.std.proofs.lemmas.Bool.Decides.{nat_tests}
use Rattle.tv_base.proofs.ByPlace.{slice_get-old}
use Rattle.tv_base.specs.declared.numbers.ItemNo.{ItemNo}
use Rattle.tv_base.specs.declared.numbers.SubNo.{SubNo}
use Rattle.tv_base.specs.declared.numbers.TreeNo.{TreeNo}
use Rattle.tv_base.specs.declared.numbers.Version.{Version}
use Rattle.letter_types.specs.declared.acts.Act.{Act}
use Rattle.letter_types.specs.declared.acts.Act.TheVariants as acts
use Rattle.letter_types.specs.declared.bodies.Body.{Body}
use Rattle.letter_types.specs.declared.bodies.Body.TheVariants.{Root, Sub as SubLetter, Decide}
use Rattle.letter_types.specs.declared.entries.Entry.{Entry}
use Rattle.letter_types.specs.declared.entries.Letter.{Letter}
use Rattle.letter_types.specs.declared.votes.Vote.{Vote}
use Rattle.letter_types.specs.declared.votes.Vote.TheVariants.{Yes, No}
use Rattle.item_versions.specs.Table.{Table, item_in}
use Rattle.script_parts.specs.declared.parts.ItemRow.{ItemRow}
use Rattle.script_parts.specs.declared.parts.Sub.{Sub}
use Rattle.script_parts.specs.declared.parts.SubOp.{SubOp}
use Rattle.script_parts.specs.declared.parts.TreeKind.{TreeKind}
use Rattle.script_parts.specs.declared.parts.TreeKind.TheVariants.{Update, Read}
use Rattle.script_parts.specs.ScriptData.{ScriptData, node_of, ops_of, sub_at, subs_at, updates}
use Rattle.script_parts.specs.Valid.{IsValid}
use Rattle.nc_locks.specs.declared.modes.Mode.TheVariants.{Mark}
use Rattle.nc_locks.specs.Modes.{modes_conflict}
use Rattle.script_parts.specs.Wants.{mode_wanted}
use Rattle.world_model.specs.Asked.{asked_version}
use Rattle.world_model.specs.Core.{Core}
use Rattle.world_model.specs.Decisions.{applied_in, ops_at}
use Rattle.world_model.specs.Named.{tree_kind_at}
use Rattle.world_model.specs.Notices.{act_of}
use Rattle.world_model.specs.Runs.{IsStepRun, keeping_in, node_in}
use Rattle.world_model.specs.Strict.{CoreKeeping, core_by_kind, core_row, notice_by}
use Rattle.world_model.specs.Updates.{table_after_ops}
use Rattle.world_model.proofs.Cases.{Case, Coordinates, NodeDoes, NodeKeeps, Submits, case}
use Rattle.world_model.proofs.Keepings.{of_kept}
use Rattle.world_model.proofs.Outstanding.{keeping_elsewhere}
use Rattle.board_rules.specs.Histories.{Place, is_strict_tree, places_at, version_in, version_or}
use Rattle.board_rules.specs.Stands.{written_by, written_in}
use Rattle.board_rules.specs.Worth.{changes, ops_change, subs_change}
use Rattle.board_rules.proofs.ItemAt.{item_at, marks_it, holds_it}
use Rattle.board_rules.proofs.Places.{version_stays, places_more}
use Rattle.tree_laws.proofs.conflicts.ByActs.{kind_updates}
use Rattle.world_model.specs.Meant.{IsMeant}
use Rattle.advance_laws.proofs.governed.Brought.{brought_meant}
use Rattle.tree_laws.specs.Carried.{CarriesVersion}
use Rattle.tree_laws.proofs.decided.AptDecisions.{dated_here}
use Rattle.tree_laws.proofs.apt.AptItems.{Applies as AppliesItems, Changes, Collects, Follows, Raises, Rests, Shows, Touches, core_changes}
use Rattle.tree_laws.proofs.stages.AptStagesOwn.{Doing}
use Rattle.tree_laws.proofs.apt.AptVersions.{DoneIn, before, is_version, version_is}
use Rattle.tree_laws.proofs.histories.Turns.{kind_version, work_version}
use Rattle.run_laws.proofs.act_order.RowActs.{is_lasting}
use Rattle.run_laws.proofs.each_tree.EveryApt.{all_apt}
use Rattle.run_laws.proofs.each_tree.EveryWhole.{strict_is}
use Rattle.run_laws.proofs.act_order.Fronts.{act_of_place}
use Rattle.run_laws.proofs.act_order.InEntries.{in_second}
use Rattle.run_laws.proofs.act_order.Lasts.{Applies, AsksIn, Frees, Lasts, OfRoot, OfSub, Reads, Updates, Votes, lasts, vote_there}
use Rattle.advance_laws.proofs.phases.Progress.{brings_to}
use Rattle.run_laws.proofs.act_order.Turns.{carried, is_there}
use Rattle.run_laws.proofs.items.UpTo.{AreStrict, IsUpTo, collected_grows, commit_grows, commit_writes, ops_grow, ops_write}

-- What the row of a letter makes of an item: what bounds the versions that are held after it bounds those before.
row_grows : (s : ScriptData) (p : ℕ) (m : ℕ) (x : ItemNo) (body : Body) (c after : Core) → Changes s p body c after.node.items after.node.turns
    → IsUpTo m (item_in x after.node.items) → IsUpTo m (item_in x c.node.items)
row_grows s p m x body c after (Rests is turns) all = subst (λ (t : Table). IsUpTo m (item_in x t)) is all
row_grows s p m x body c after (Follows t k v letter is turns) all = subst (λ (i : Table). IsUpTo m (item_in x i)) is all
row_grows s p m x body c after (Raises v to is turns) all = subst (λ (t : Table). IsUpTo m (item_in x t)) is all
row_grows s p m x body c after (Touches t k one kind is turns) all =
    ops_grow m (asked_version c.node.turns.update body) x (ops_of s t k) c.node.items (subst (λ (i : Table). IsUpTo m (item_in x i)) is all)
row_grows s p m x body c after (AppliesItems t v letter is turns) all =
    commit_grows m v x (ops_at p (subs_at s t.0)) c.node.items (subst (λ (i : Table). IsUpTo m (item_in x i)) is all)
row_grows s p m x body c after (Shows v to is turns) all = subst (λ (t : Table). IsUpTo m (item_in x t)) is all
row_grows s p m x body c after (Collects v to is turns) all =
    collected_grows m v x c.node.items (subst (λ (t : Table). IsUpTo m (item_in x t)) is all)

-- and an entry
case_grows : (s : ScriptData) (past : List Entry) (e : Entry) (p m : ℕ) (x : ItemNo) → e.actor.0 ≡ p → p < s.nodes → Case s past e
    → IsUpTo m (item_in x (node_in s (e ∷ past) p).items) → IsUpTo m (item_in x (node_in s past p).items)
case_grows s past e p m x at lt (NodeDoes q r d) all =
    let qp : q ≡ p = sym d.brings.at ∙ at in
    let c : Core = (keeping_in s past q).core in
    let after : Core = (core_row s q c r.from.0 r.body).state in
    let now : IsUpTo m (item_in x after.node.items) =
    subst (λ (y : Core). IsUpTo m (item_in x y.node.items)) d.core
    (subst (λ (n : ℕ). IsUpTo m (item_in x (node_in s (e ∷ past) n).items)) (sym qp) all) in
    subst (λ (n : ℕ). IsUpTo m (item_in x (node_in s past n).items)) qp
    (row_grows s q m x r.body c after (core_changes s q r.from.0 r.body c) now)
case_grows s past e p m x at lt (NodeKeeps q r k d) all =
    let qp : q ≡ p = sym d.brings.at ∙ at in
    let c : Core = (keeping_in s past q).core in
    let same : k.state.node.items ≡ c.node.items =
    of_kept s c (λ (y : CoreKeeping). y.state.node.items ≡ c.node.items) r.body k (record { parks = λ t j raises v met. refl; waits = λ t. refl }) d.keeps in
    subst (λ (n : ℕ). IsUpTo m (item_in x (node_in s past n).items)) qp
    (subst (λ (t : Table). IsUpTo m (item_in x t)) (ap (λ (y : Core). y.node.items) d.core ∙ same)
    (subst (λ (n : ℕ). IsUpTo m (item_in x (node_in s (e ∷ past) n).items)) (sym qp) all))
case_grows s past e p m x at lt (Coordinates out made) all = absurd (omega (arith, at, lt, out))
case_grows s past e p m x at lt (Submits out says) all = absurd (omega (arith, at, lt, out))

entry_grows : (s : ScriptData) (past : List Entry) (e : Entry) (p m : ℕ) (x : ItemNo) → IsValid s → IsStepRun s (e ∷ past) → p < s.nodes
    → IsUpTo m (item_in x (node_in s (e ∷ past) p).items) → IsUpTo m (item_in x (node_in s past p).items)
entry_grows s past e p m x valid run lt all = by (cases_eq e.actor.0 p) where
  by : (e.actor.0 ≡ p) ⊎ (e.actor.0 ≢ p) → IsUpTo m (item_in x (node_in s past p).items)
  by (inl at) = case_grows s past e p m x at lt (case s past e run.0 (all_apt s (e ∷ past) valid run).0) all
  by (inr ne) =
      subst (λ (t : Table). IsUpTo m (item_in x t)) (ap (λ n. n.core.node.items) (keeping_elsewhere s past e p ne)) all

-- What an update writes.
asked_items : (s : ScriptData) (p from : ℕ) (t : TreeNo) (k : SubNo) (body : Body) (c : Core) → AsksIn body t k → tree_kind_at s t.0 ≡ Some Update
    → (core_row s p c from body).state.node.items ≡ table_after_ops (asked_version c.node.turns.update body) (ops_of s t.0 k.0) c.node.items
asked_items s p from t k body c (OfRoot is first) of =
    ap (λ (b : Body). (core_row s p c from b).state.node.items) is
    ∙ ap (λ (kind : Option TreeKind). (core_by_kind s p from t (Root t) kind c).state.node.items) of
    ∙ ap (λ (j : SubNo). table_after_ops c.node.turns.update (ops_of s t.0 j.0) c.node.items) (sym first)
    ∙ ap (λ (b : Body). table_after_ops (asked_version c.node.turns.update b) (ops_of s t.0 k.0) c.node.items) (sym is)
asked_items s p from t k body c (OfSub v is) of =
    ap (λ (b : Body). (core_row s p c from b).state.node.items) is
    ∙ ap (λ (kind : Option TreeKind). (core_by_kind s p from t (SubLetter t k v) kind c).state.node.items) of
    ∙ ap (λ (b : Body). table_after_ops (asked_version c.node.turns.update b) (ops_of s t.0 k.0) c.node.items) (sym is)

pub asked_born : (s : ScriptData) (zs : List Place) (t : TreeNo) (k : SubNo) (kind : TreeKind) (body : Body) (c : Core) → AsksIn body t k
    → tree_kind_at s t.0 ≡ Some kind → kind_version c (Some kind) ≡ c.node.turns.update → DoneIn zs (work_version s c body) body
    → version_in t.0 zs ≡ Some (asked_version c.node.turns.update body)
asked_born s zs t k kind body c (OfRoot is first) of turn dated =
    let v : Version = c.node.turns.update in
    let root : DoneIn zs (work_version s c (Root t)) (Root t) = subst (λ (b : Body). DoneIn zs (work_version s c b) b) is dated in
    let same : kind_version c (tree_kind_at s t.0) ≡ v = ap (kind_version c) of ∙ turn in
    version_is (version_in t.0 zs) v (subst (λ (w : Version). is_version (version_in t.0 zs) w ≡ true) same root)
    ∙ ap (λ (b : Body). Some (asked_version c.node.turns.update b)) (sym is)
asked_born s zs t k kind body c (OfSub v is) of turn dated =
    let sub : DoneIn zs (work_version s c (SubLetter t k v)) (SubLetter t k v) = subst (λ (b : Body). DoneIn zs (work_version s c b) b) is dated in
    version_is (version_in t.0 zs) v sub ∙ ap (λ (b : Body). Some (asked_version c.node.turns.update b)) (sym is)

-- the version of a tree in all acts
in_all : (t : ℕ) (xs ys zs : List Place) (v : Version) → zs ≡ xs ++ ys → version_in t xs ≡ Some v → version_or 0 (version_in t zs) ≡ v.0
in_all t xs ys zs v is born =
    ap (λ (w : List Place). version_or 0 (version_in t w)) is
    ∙ ap (version_or 0) (version_stays t xs ys (ap (λ (o : Option Version). is_some o) born)) ∙ ap (version_or 0) born

-- Where the act is: at the item's node, and what was written is at most m.
pub record IsItem (s : ScriptData) (p : ℕ) (x : ItemNo) : Type 0 where
  pub row : ItemRow
  pub there : slice_get s.items x.0 ≡ Some row
  pub node : row.node.0 ≡ p

if_most : (b : Bool) (n m : ℕ) → (b ≡ true → n ≤ m) → (if b then n else 0) ≤ m
if_most true n m le = le refl
if_most false n m le = omega arith

here_up : (s : ScriptData) (past : List Entry) (e : Entry) (p q m : ℕ) (x : ItemNo) (r : Letter) → Doing s past e q r → q ≡ p
    → IsUpTo m (item_in x (node_in s (e ∷ past) p).items) → IsUpTo m (item_in x (core_row s q (keeping_in s past q).core r.from.0 r.body).state.node.items)
here_up s past e p q m x r g qp all =
    subst (λ (y : Core). IsUpTo m (item_in x y.node.items)) g.does.core
    (subst (λ (n : ℕ). IsUpTo m (item_in x (node_in s (e ∷ past) n).items)) (sym qp) all)

update_most : (s : ScriptData) (past : List Entry) (e : Entry) (p q m : ℕ) (x : ItemNo) (r : Letter) (t : TreeNo) (k : SubNo) (zs more : List Place)
    → IsItem s p x → Doing s past e q r → AsksIn r.body t k → tree_kind_at s t.0 ≡ Some Update → zs ≡ before (e ∷ past) ++ more
    → IsUpTo m (item_in x (node_in s (e ∷ past) p).items) → ops_change x.0 (ops_of s t.0 k.0) ≡ true → version_or 0 (version_in t.0 zs) ≤ m
update_most s past e p q m x r t k zs more i g asks of shape all on =
    let c : Core = (keeping_in s past q).core in
    let v : Version = asked_version c.node.turns.update r.body in
    let item = item_at s p x.0 i.row g.valid i.there i.node in
    let qp : q ≡ p = sym (is_there s past e q r t k g asks).node ∙ item.placed t.0 k.0 on in
    let up : updates s t.0 ≡ true = kind_updates s t.0 Update of in
    let le : v.0 ≤ m =
    ops_write m v x (ops_of s t.0 k.0) c.node.items on (λ n o is. marks_it s t.0 k.0 n o g.valid up is)
    (subst (λ (i : Table). IsUpTo m (item_in x i)) (asked_items s q r.from.0 t k r.body c asks of) (here_up s past e p q m x r g qp all)) in
    let born : version_in t.0 (before past ++ places_at e) ≡ Some v =
    asked_born s (before past ++ places_at e) t k Update r.body c asks of refl (dated_here s past e q r g.valid g.apt.1 g.run g.does) in
    omega (
      arith,
      le,
      in_all t.0 (before past ++ places_at e) more zs v (shape ∙ ap (λ (xs : List Place). xs ++ more) (places_more e past)) born,
    )

-- What a commit writes.
change_left : (x : ℕ) (os more : List SubOp) → ops_change x os ≡ true → ops_change x (os ++ more) ≡ true
change_left x [] more on = absurd (cc on)
change_left x (o ∷ os) more on = by (or_cases ((o.item.0 == x) && changes o.deed) (ops_change x os) on) (λ later. change_left x os more later) where
  by : (((o.item.0 == x) && changes o.deed) ≡ true) ⊎ (ops_change x os ≡ true) → (ops_change x os ≡ true → ops_change x (os ++ more) ≡ true)
      → (((o.item.0 == x) && changes o.deed) || ops_change x (os ++ more)) ≡ true
  by (inl here) rest = or_left ((o.item.0 == x) && changes o.deed) (ops_change x (os ++ more)) here
  by (inr later) rest = or_right ((o.item.0 == x) && changes o.deed) (ops_change x (os ++ more)) (rest later)

change_right : (x : ℕ) (os more : List SubOp) → ops_change x more ≡ true → ops_change x (os ++ more) ≡ true
change_right x [] more on = on
change_right x (o ∷ os) more on = or_right ((o.item.0 == x) && changes o.deed) (ops_change x (os ++ more)) (change_right x os more on)

pub changes_at : (x p : ℕ) (subs : List Sub) → ((n : ℕ) (y : Sub) → slice_get subs n ≡ Some y → ops_change x y.ops ≡ true → y.node.0 ≡ p)
    → subs_change x subs ≡ true → ops_change x (ops_at p subs) ≡ true
changes_at x p [] placed on = absurd (cc on)
changes_at x p (y ∷ subs) placed on =
    by (y.node.0 == p) refl (λ later. changes_at x p subs (λ n z is. placed (suc n) z is) later) (or_cases (ops_change x y.ops) (subs_change x subs) on) where
      by : (test : Bool) → (y.node.0 == p) ≡ test → (subs_change x subs ≡ true → ops_change x (ops_at p subs) ≡ true)
          → (ops_change x y.ops ≡ true) ⊎ (subs_change x subs ≡ true) → ops_change x (if test then y.ops ++ ops_at p subs else ops_at p subs) ≡ true
      by true is rest (inl here) = change_left x y.ops (ops_at p subs) here
      by true is rest (inr later) = change_right x y.ops (ops_at p subs) (rest later)
      by false is rest (inl here) =
          absurd (let same : y.node.0 ≡ p = placed 0 y refl here in let other : (y.node.0 == p) ≡ true = grind (arith, nat_tests) in cc (is, other))
      by false is rest (inr later) = rest later

strict_append : (os more : List SubOp) → AreStrict os → AreStrict more → AreStrict (os ++ more)
strict_append [] more a b = b
strict_append (o ∷ os) more a b = (a.0, strict_append os more a.1 b)

strict_list : (os : List SubOp) → ((i : ℕ) (o : SubOp) → slice_get os i ≡ Some o → modes_conflict Mark (mode_wanted o.deed) ≡ true) → AreStrict os
strict_list [] each = tt
strict_list (o ∷ os) each = (each 0 o refl, strict_list os (λ i q is. each (suc i) q is))

strict_at : (p : ℕ) (subs : List Sub) → ((n : ℕ) (y : Sub) → slice_get subs n ≡ Some y → AreStrict y.ops) → AreStrict (ops_at p subs)
strict_at p [] each = tt
strict_at p (y ∷ subs) each = by (y.node.0 == p) (strict_at p subs (λ n z is. each (suc n) z is)) where
  by : (test : Bool) → AreStrict (ops_at p subs) → AreStrict (if test then y.ops ++ ops_at p subs else ops_at p subs)
  by true rest = strict_append y.ops (ops_at p subs) (each 0 y refl) rest
  by false rest = rest

commit_most : (s : ScriptData) (past : List Entry) (e : Entry) (p q m : ℕ) (x : ItemNo) (r : Letter) (t : TreeNo) (v : Version) (zs more : List Place)
    → IsItem s p x → Doing s past e q r → r.body ≡ Decide t v true → q ≡ p → zs ≡ before (e ∷ past) ++ more
    → IsUpTo m (item_in x (node_in s (e ∷ past) p).items) → subs_change x.0 (subs_at s t.0) ≡ true → version_or 0 (version_in t.0 zs) ≤ m
commit_most s past e p q m x r t v zs more i g is qp shape all on =
    let c : Core = (keeping_in s past q).core in
    let subs : List Sub = subs_at s t.0 in
    let item = item_at s p x.0 i.row g.valid i.there i.node in
    let meant : IsMeant s r.from.0 q (Decide t v true) =
    subst (λ (b : Body). IsMeant s r.from.0 q b) is (brought_meant s past e q r g.valid (brings_to s past e q r g.does.brings) g.run) in
    let strict : is_strict_tree s t.0 ≡ true = strict_is s t.0 (slice_get s.trees t.0) refl ∙ meant.strict in
    let here : ops_change x.0 (ops_at q subs) ≡ true =
    changes_at x.0 q subs
    (λ n y at touch.
    let sub : sub_at s t.0 n ≡ Some y = at in
    let ops : ops_of s t.0 n ≡ y.ops = rw (sub, ops_of) refl in
    let node : node_of s t.0 n ≡ y.node.0 = rw (sub, node_of) refl in
    sym node ∙ item.placed t.0 n (ap (ops_change x.0) ops ∙ touch) ∙ sym qp)
    on in
    let all_strict : AreStrict (ops_at q subs) =
    strict_at q subs
    (λ n y at.
    let sub : sub_at s t.0 n ≡ Some y = at in
    let ops : ops_of s t.0 n ≡ y.ops = rw (sub, ops_of) refl in
    subst AreStrict ops (strict_list (ops_of s t.0 n) (λ j o there. holds_it s t.0 n j o g.valid strict there))) in
    let made : (core_row s q c r.from.0 r.body).state.node.items ≡ applied_in v (ops_at q subs) c.node.items =
    ap (λ (b : Body). (core_row s q c r.from.0 b).state.node.items) is in
    let le : v.0 ≤ m =
    commit_writes m v x (ops_at q subs) c.node.items here all_strict
    (subst (λ (i : Table). IsUpTo m (item_in x i)) made (here_up s past e p q m x r g qp all)) in
    let born : version_in t.0 (before past) ≡ Some v = subst (CarriesVersion (before past)) is (carried s past e q r g) in
    omega (
      arith,
      le,
      in_all t.0 (before past) (places_at e ++ more) zs v
          (shape ∙ ap (λ (xs : List Place). xs ++ more) (places_more e past) ∙ append_assoc (before past) (places_at e) more) born,
    )

-- So each act of an entry.
vote_writes : (s : ScriptData) (zs : List Place) (x m : ℕ) (here : Bool) (t : TreeNo) (k : SubNo) (v : Vote)
    → written_by s zs x here (act_of t k (notice_by v)) ≤ m
vote_writes s zs x m here t k (Yes values) = omega arith
vote_writes s zs x m here t k (No cause) = omega arith

applied_most : (s : ScriptData) (past : List Entry) (e : Entry) (p q m : ℕ) (x : ItemNo) (r : Letter) (t : TreeNo) (v : Version) (commit : Bool)
    (zs more : List Place) → IsItem s p x → Doing s past e q r → r.body ≡ Decide t v commit → zs ≡ before (e ∷ past) ++ more
    → IsUpTo m (item_in x (node_in s (e ∷ past) p).items) → (here : Bool) → (e.actor.0 == p) ≡ here
    → (if here && (commit && subs_change x.0 (subs_at s t.0)) then version_or 0 (version_in t.0 zs) else 0) ≤ m
applied_most s past e p q m x r t v commit zs more i g is shape all false at = omega arith
applied_most s past e p q m x r t v false zs more i g is shape all true at = omega arith
applied_most s past e p q m x r t v true zs more i g is shape all true at =
    if_most (subs_change x.0 (subs_at s t.0)) (version_or 0 (version_in t.0 zs)) m
    (λ on. commit_most s past e p q m x r t v zs more i g is (sym g.does.brings.at ∙ grind (arith, nat_tests, at)) shape all on)

act_most : (s : ScriptData) (past : List Entry) (e : Entry) (p m : ℕ) (x : ItemNo) (j : ℕ) (a : Act) (zs more : List Place) → IsItem s p x
    → zs ≡ before (e ∷ past) ++ more → IsUpTo m (item_in x (node_in s (e ∷ past) p).items) → Lasts s past e j a
    → written_by s zs x.0 (e.actor.0 == p) a ≤ m
act_most s past e p m x j a zs more i shape all (Updates q r t k g asks of is none) =
    subst (λ (b : Act). written_by s zs x.0 (e.actor.0 == p) b ≤ m) (sym is)
    (if_most (updates s t.0 && ops_change x.0 (ops_of s t.0 k.0)) (version_or 0 (version_in t.0 zs)) m
    (λ on.
    update_most s past e p q m x r t k zs more i g asks of shape all (and_parts (updates s t.0) (ops_change x.0 (ops_of s t.0 k.0)) on).1))
act_most s past e p m x j a zs more i shape all (Reads q r t k values g asks of is none) =
    let reads_none : updates s t.0 ≡ false = kind_updates s t.0 Read of in
    subst (λ (b : Act). written_by s zs x.0 (e.actor.0 == p) b ≤ m) (sym is)
    (if_most (updates s t.0 && ops_change x.0 (ops_of s t.0 k.0)) (version_or 0 (version_in t.0 zs)) m
    (λ on. absurd (let up = (and_parts (updates s t.0) (ops_change x.0 (ops_of s t.0 k.0)) on).0 in cc (up, reads_none))))
act_most s past e p m x j a zs more i shape all (Votes q r t k g asks of is none) =
    subst (λ (b : Act). written_by s zs x.0 (e.actor.0 == p) b ≤ m) (sym is)
    (vote_writes s zs x.0 m (e.actor.0 == p) t k (vote_there s (keeping_in s past q).core t r.body))
act_most s past e p m x j a zs more i shape all (Applies q r t v commit g is at none) =
    subst (λ (b : Act). written_by s zs x.0 (e.actor.0 == p) b ≤ m) (sym at)
    (applied_most s past e p q m x r t v commit zs more i g is shape all (e.actor.0 == p) refl)
act_most s past e p m x j a zs more i shape all (Frees q r t g is at none) =
    subst (λ (b : Act). written_by s zs x.0 (e.actor.0 == p) b ≤ m) (sym at) (omega arith)

pub brief_most : (s : ScriptData) (zs : List Place) (x m : ℕ) (here : Bool) (a : Act) → is_lasting a ≡ false → written_by s zs x here a ≤ m
brief_most s zs x m here (acts.Did t k values) quiet = absurd (cc quiet)
brief_most s zs x m here (acts.Applied t commit) quiet = absurd (cc quiet)
brief_most s zs x m here acts.Finished quiet = omega arith
brief_most s zs x m here _ quiet = omega arith

place_most : (s : ScriptData) (past : List Entry) (e : Entry) (p m : ℕ) (x : ItemNo) (j : ℕ) (y : Place) (zs more : List Place) → IsValid s
    → IsStepRun s (e ∷ past) → IsItem s p x → zs ≡ before (e ∷ past) ++ more → IsUpTo m (item_in x (node_in s (e ∷ past) p).items)
    → slice_get (places_at e) j ≡ Some y → (test : Bool) → is_lasting y.act ≡ test → written_in s zs p x.0 y ≤ m
place_most s past e p m x j y zs more valid run i shape all at true lasts_so =
    let there = act_of_place e j y at in
    subst (λ (n : ℕ). written_by s zs x.0 (n == p) y.act ≤ m) (sym there.1)
    (act_most s past e p m x j y.act zs more i shape all (lasts s past e j y.act valid run there.0 lasts_so))
place_most s past e p m x j y zs more valid run i shape all at false quiet = brief_most s zs x.0 m (y.node == p) y.act quiet

-- and so each act of a run
pub writes_up : (s : ScriptData) (past : List Entry) (p m : ℕ) (x : ItemNo) (zs more : List Place) (i : ℕ) (y : Place) → IsValid s
    → IsStepRun s past → p < s.nodes → IsItem s p x → zs ≡ before past ++ more → IsUpTo m (item_in x (node_in s past p).items)
    → slice_get (before past) i ≡ Some y → written_in s zs p x.0 y ≤ m
writes_up s [] p m x zs more i y valid run lt item shape all is = absurd (cc is)
writes_up s (e ∷ past) p m x zs more i y valid run lt item shape all is =
    by (subst (λ (xs : List Place). slice_get xs i ≡ Some y) (places_more e past) is)
    (λ old.
    writes_up s past p m x zs (places_at e ++ more) i y valid run.1 lt item
    (shape ∙ ap (λ (xs : List Place). xs ++ more) (places_more e past) ∙ append_assoc (before past) (places_at e) more)
    (entry_grows s past e p m x valid run lt all) old)
    (cases_lt i (length (before past))) where
      by : slice_get (before past ++ places_at e) i ≡ Some y → (slice_get (before past) i ≡ Some y → written_in s zs p x.0 y ≤ m)
          → (i < length (before past)) ⊎ (length (before past) ≤ i) → written_in s zs p x.0 y ≤ m
      by at old (inl less) = old (sym (slice_get-old (before past) (places_at e) i less) ∙ at)
      by at old (inr le) =
          let l = in_second (before past) (places_at e) i y at le in
          place_most s past e p m x l.place y zs more valid run item shape all l.is (is_lasting y.act) refl
