-- In every run a subtransaction of a read transaction gives what its items are worth at the transaction's version, up
-- to its Did.
use Rattle.std.proofs.Common.{◌≡◌, ℕ, suc, ◌<◌, true, false, List, [], ◌∷◌, ◌++◌, length, take, refl, sym, ap, subst, ◌∙◌, arith, Option, Some}
use Rattle.std.specs.Prelude.{slice_get}
use Rattle.std.specs.List.{AllByRecursion}
use Rattle.tv_base.specs.declared.numbers.ItemNo.{ItemNo}
use Rattle.tv_base.specs.declared.numbers.SubNo.{SubNo}
use Rattle.tv_base.specs.declared.numbers.TreeNo.{TreeNo}
use Rattle.tv_base.specs.declared.numbers.Version.{Version}
use Rattle.commute_ops.specs.declared.value.Value.{Value}
use Rattle.letter_types.specs.declared.acts.Act.{Act}
use Rattle.letter_types.specs.declared.acts.Act.TheVariants as acts
use Rattle.letter_types.specs.declared.bodies.Body.{Body}
use Rattle.letter_types.specs.declared.bodies.Body.TheVariants.{Root, Sub as SubLetter}
use Rattle.letter_types.specs.declared.entries.Entry.{Entry}
use Rattle.letter_types.specs.declared.entries.Letter.{Letter}
use Rattle.script_parts.specs.declared.parts.SubOp.{SubOp}
use Rattle.script_parts.specs.declared.parts.TreeKind.{TreeKind}
use Rattle.script_parts.specs.declared.parts.TreeKind.TheVariants.{Read}
use Rattle.script_parts.specs.ScriptData.{ScriptData, ops_of, reads}
use Rattle.world_model.specs.Asked.{asked_ops, asked_version}
use Rattle.world_model.specs.Core.{Core}
use Rattle.world_model.specs.Apt.{can_make}
use Rattle.world_model.specs.Named.{is_strict_at, tree_kind_at}
use Rattle.world_model.specs.Reads.{can_get, gets, seen_in}
use Rattle.world_model.specs.Runs.{keeping_in, node_in}
use Rattle.world_model.specs.Strict.{can_make_at}
use Rattle.board_rules.specs.Histories.{Place, places_at, version_in}
use Rattle.board_rules.specs.Right.{IsShown, with_worths}
use Rattle.board_rules.specs.Worth.{worth_in}
use Rattle.board_rules.proofs.ItemAt.{item_at, op_row}
use Rattle.board_rules.proofs.ReadDids.{worth_before_read}
use Rattle.board_rules.proofs.Shown.{shown_is_worth}
use Rattle.tree_laws.proofs.kept.Parkings.{kind_reads_by}
use Rattle.tree_laws.proofs.decided.AptDecisions.{dated_here}
use Rattle.tree_laws.proofs.stages.AptStagesOwn.{Doing}
use Rattle.tree_laws.proofs.apt.AptVersions.{before}
use Rattle.tree_laws.proofs.loads.Seen.{gets_valued}
use Rattle.tree_laws.specs.Carried.{CarriesVersion}
use Rattle.run_laws.proofs.act_order.RowActs.{asked_acts, is_lasting, lasting, lasting_acts, row_lasts}
use Rattle.run_laws.proofs.items.SeenByActs.{apt_can}
use Rattle.run_laws.proofs.each_tree.Reached.{now_below}
use Rattle.run_laws.proofs.act_order.Fronts.{front, one_lasts, placed}
use Rattle.run_laws.proofs.act_order.Lasts.{AsksIn, OfRoot, OfSub, same_act}
use Rattle.run_laws.proofs.act_order.Turns.{born_before, carried, is_there}
use Rattle.run_laws.proofs.strict.YesVotes.{asked_same}
use Rattle.run_laws.proofs.births.Asking.{asked_low, low_read, read_born, upto_version}
use Rattle.run_laws.proofs.act_order.AtFront.{front_rules, made_at_front, whole_at_front}
use Rattle.run_laws.proofs.worth.OwnWorth.{seen_is_made}
use Rattle.run_laws.proofs.births.ReadVersions.{born_below}
use Rattle.run_laws.proofs.each_tree.Late.{read_below}

-- What a Did of a read tree gives is what its gets give at its node.
pub asked_row : (s : ScriptData) (c : Core) (t : TreeNo) (k : SubNo) (body : Body) (kind : Option TreeKind) → AsksIn body t k → tree_kind_at s t.0 ≡ kind
    → lasting_acts s c body ≡ asked_acts s c t k body kind
asked_row s c t k body kind (OfRoot is first) of =
    ap (lasting_acts s c) is
    ∙ ap (λ (o : Option TreeKind). asked_acts s c t (record { 0 = 0 }) (Root t) o) of
    ∙ ap (λ (j : SubNo). asked_acts s c t j (Root t) kind) (sym first)
    ∙ ap (λ (b : Body). asked_acts s c t k b kind) (sym is)
asked_row s c t k body kind (OfSub v is) of =
    ap (lasting_acts s c) is
    ∙ ap (λ (o : Option TreeKind). asked_acts s c t k (SubLetter t k v) o) of
    ∙ ap (λ (b : Body). asked_acts s c t k b kind) (sym is)

read_given : (s : ScriptData) (past : List Entry) (e : Entry) (j p : ℕ) (a : Act) (r : Letter) (t : TreeNo) (k : SubNo) → Doing s past e p r
    → AsksIn r.body t k → tree_kind_at s t.0 ≡ Some Read → slice_get e.acts j ≡ Some a → is_lasting a ≡ true
    → a ≡ acts.Did t k (gets (asked_version (node_in s past p).turns.read r.body) (asked_ops s r.body) (node_in s past p).items)
read_given s past e j p a r t k g asks of at so =
    let c : Core = (keeping_in s past p).core in
    let row : lasting e.acts ≡ asked_acts s c t k r.body (Some Read) =
    ap lasting g.does.acts ∙ row_lasts s p r.from.0 r.body c ∙ asked_row s c t k r.body (Some Read) asks of in
    let one = one_lasts e.acts j a at so (omega (arith, ap length row)) in
    same_act _ a (sym row ∙ one.0)

-- It can get them.
can_read : (s : ScriptData) (p : ℕ) (c : Core) (t : TreeNo) (k : SubNo) (body : Body) → AsksIn body t k → tree_kind_at s t.0 ≡ Some Read
    → can_make_at s p c body ≡ true → can_get (asked_version c.node.turns.read body) (asked_ops s body) c.node.items ≡ true
can_read s p c t k body (OfRoot is first) of can =
    let root : can_make_at s p c (Root t) ≡ true = ap (can_make_at s p c) (sym is) ∙ can in
    subst (λ (b : Body). can_get (asked_version c.node.turns.read b) (asked_ops s b) c.node.items ≡ true) (sym is)
    (sym (rw (of, is_strict_at, can_make) refl) ∙ root)
can_read s p c t k body (OfSub v is) of can =
    let sub : can_make_at s p c (SubLetter t k v) ≡ true = ap (can_make_at s p c) (sym is) ∙ can in
    subst (λ (b : Body). can_get (asked_version c.node.turns.read b) (asked_ops s b) c.node.items ≡ true) (sym is)
    (sym (rw (of, is_strict_at, can_make) refl) ∙ sub)

-- Its version was shown.
read_early : (s : ScriptData) (past : List Entry) (e : Entry) (p : ℕ) (r : Letter) (t : TreeNo) (k : SubNo) → Doing s past e p r → AsksIn r.body t k
    → reads s t.0 ≡ true → (asked_version (node_in s past p).turns.read r.body).0 < now_below false s past
read_early s past e p r t k g (OfRoot is first) read =
    let u : Version = (node_in s past p).turns.read in
    let same : (asked_version u r.body).0 ≡ u.0 = ap (λ (b : Body). (asked_version u b).0) is in
    omega (arith, same, read_below s past p g.valid g.run.1 g.does.brings.below)
read_early s past e p r t k g (OfSub v is) read =
    let u : Version = (node_in s past p).turns.read in
    let same : (asked_version u r.body).0 ≡ v.0 = ap (λ (b : Body). (asked_version u b).0) is in
    let born : version_in t.0 (before past) ≡ Some v = subst (CarriesVersion (before past)) is (carried s past e p r g) in
    omega (arith, same, born_below s past t.0 v g.valid g.run.1 read born)

-- So its node sees what its items are worth, with its Did and without.
pub each_op : (P : SubOp → Type 0) (os : List SubOp) → ((i : ℕ) (o : SubOp) → slice_get os i ≡ Some o → P o) → AllByRecursion P os
each_op P [] each = tt
each_op P (o ∷ os) each = (each 0 o refl, each_op P os (λ i q is. each (suc i) q is))

read_seen : (s : ScriptData) (past : List Entry) (e : Entry) (j p : ℕ) (r : Letter) (t : TreeNo) (k : SubNo) (values : List (ItemNo × Value)) (i : ℕ)
    (o : SubOp) → Doing s past e p r → AsksIn r.body t k → reads s t.0 ≡ true → lasting (take j e.acts) ≡ []
    → slice_get (ops_of s t.0 k.0) i ≡ Some o
    → seen_in (asked_version (node_in s past p).turns.read r.body) o.item (node_in s past p).items
    ≡ Some (worth_in s (front past e j ++ placed e.actor.0 (acts.Did t k values) ∷ []) o.item.0 (asked_version (node_in s past p).turns.read r.body).0)
read_seen s past e j p r t k values i o g asks read none is =
    let v : Version = asked_version (node_in s past p).turns.read r.body in
    let row = op_row s t.0 k.0 i o g.valid is in
    let node : row.row.node.0 ≡ p = sym row.node ∙ (is_there s past e p r t k g asks).node in
    let item = item_at s p o.item.0 row.row g.valid row.there node in
    let low = asked_low s past e p r t k (node_in s past p).turns.read g asks (low_read s past p g.valid g.run.1 g.does.brings.below) in
    let early = read_early s past e p r t k g asks read in
    seen_is_made s past p o.item.0 v.0 row.row g.valid g.run.1 g.does.brings.below row.there node low
    ∙ ap (λ (w : Value). Some w)
    (made_at_front s past e j p o.item.0 v.0 g.valid g.run item none
    ∙ shown_is_worth s (front past e j) p o.item.0 v.0 g.valid (front_rules s past e j g.valid g.run) item
    (whole_at_front s past e j v.0 g.valid g.run early)
    ∙ sym (worth_before_read s (front past e j) e.actor.0 o.item.0 v.0 t k values read))

-- and its Did gives that
pub read_is_right : (s : ScriptData) (past : List Entry) (e : Entry) (j p : ℕ) (r : Letter) (t : TreeNo) (k : SubNo) (values : List (ItemNo × Value))
    → Doing s past e p r → AsksIn r.body t k → tree_kind_at s t.0 ≡ Some Read → slice_get e.acts j ≡ Some (acts.Did t k values)
    → lasting (take j e.acts) ≡ []
    → IsShown (worth_in s (front past e j ++ placed e.actor.0 (acts.Did t k values) ∷ [])) (ops_of s t.0 k.0) values
    (version_in t.0 (front past e j ++ placed e.actor.0 (acts.Did t k values) ∷ []))
read_is_right s past e j p r t k values g asks of at none =
    let c : Core = (keeping_in s past p).core in
    let v : Version = asked_version c.node.turns.read r.body in
    let os : List SubOp = ops_of s t.0 k.0 in
    let a : Act = acts.Did t k values in
    let upto : List Place = front past e j ++ placed e.actor.0 a ∷ [] in
    let read : reads s t.0 ≡ true = kind_reads_by s t.0 (Some Read) of in
    let given : a ≡ acts.Did t k (gets v (asked_ops s r.body) c.node.items) = read_given s past e j p a r t k g asks of at refl in
    let same : values ≡ gets v (asked_ops s r.body) c.node.items = cc given in
    let ops : asked_ops s r.body ≡ os = asked_same s t k r.body asks in
    let can : can_get v os c.node.items ≡ true =
    ap (λ (xs : List SubOp). can_get v xs c.node.items) (sym ops)
    ∙ can_read s p c t k r.body asks of (apt_can s p c r g.does.brings.apt) in
    let right : values ≡ with_worths (λ (x : ℕ). worth_in s upto x v.0) os =
    same ∙ ap (λ (xs : List SubOp). gets v xs c.node.items) ops
    ∙ gets_valued (λ (x : ℕ). worth_in s upto x v.0) v os c.node.items can
    (each_op (λ (o : SubOp). seen_in v o.item c.node.items ≡ Some (worth_in s upto o.item.0 v.0)) os
    (λ i o is. read_seen s past e j p r t k values i o g asks read none is)) in
    let version : version_in t.0 upto ≡ Some v =
    upto_version past e j t.0 a v (born_before s past e j a p r t k Read g asks of at refl)
    (read_born s (before past ++ places_at e) t k r.body c asks of (dated_here s past e p r g.valid g.apt.1 g.run g.does)) in
    subst (IsShown (worth_in s upto) os values) (sym version) right
