-- The version in which a message's subtransaction has its turn: it is its transaction's, and no less than its node's
-- low version.
use Rattle.std.proofs.Common.{◌≡◌, ℕ, ◌<◌, ◌≤◌, true, List, [], ◌∷◌, ◌++◌, sym, ap, subst, ◌∙◌, arith, Some}
use Rattle.tv_base.specs.declared.numbers.SubNo.{SubNo}
use Rattle.tv_base.specs.declared.numbers.TreeNo.{TreeNo}
use Rattle.tv_base.specs.declared.numbers.Version.{Version}
use Rattle.item_versions.proofs.Window.{in_window-low}
use Rattle.letter_types.specs.declared.acts.Act.{Act}
use Rattle.letter_types.specs.declared.bodies.Body.{Body}
use Rattle.letter_types.specs.declared.bodies.Body.TheVariants.{Root, Sub as SubLetter}
use Rattle.letter_types.specs.declared.entries.Entry.{Entry}
use Rattle.letter_types.specs.declared.entries.Letter.{Letter}
use Rattle.script_parts.specs.declared.parts.TreeKind.TheVariants.{Read}
use Rattle.script_parts.specs.ScriptData.{ScriptData}
use Rattle.script_parts.specs.Valid.{IsValid}
use Rattle.world_model.specs.Asked.{asked_version}
use Rattle.world_model.specs.Core.{Core}
use Rattle.world_model.specs.Epochs.{is_core_timely}
use Rattle.world_model.specs.Named.{tree_kind_at}
use Rattle.world_model.specs.Runs.{IsStepRun, keeping_in, node_in}
use Rattle.board_rules.specs.Histories.{Place, places_at, version_in, was_born}
use Rattle.board_rules.proofs.Places.{version_stays}
use Rattle.tree_laws.proofs.stages.AptStagesOwn.{Doing}
use Rattle.tree_laws.proofs.apt.AptVersions.{DoneIn, before, is_version, version_is}
use Rattle.tree_laws.proofs.apt.AptWindows.{apt_timely}
use Rattle.tree_laws.proofs.histories.Turns.{kind_version, work_version}
use Rattle.run_laws.proofs.each_tree.InTime.{advancing_run}
use Rattle.run_laws.proofs.act_order.Fronts.{front, placed}
use Rattle.run_laws.proofs.act_order.Lasts.{AsksIn, OfRoot, OfSub}
use Rattle.run_laws.proofs.strict.YesVotes.{front_version}

-- a node's low version is at most the one that it reads, and the one that it updates
pub low_read : (s : ScriptData) (past : List Entry) (p : ℕ) → IsValid s → IsStepRun s past → p < s.nodes
    → (node_in s past p).turns.low.0 ≤ (node_in s past p).turns.read.0
low_read s past p valid run lt = let at = (advancing_run s past valid run).within p lt in omega (arith, at.low_swept, at.swept_read)

pub low_update : (s : ScriptData) (past : List Entry) (p : ℕ) → IsValid s → IsStepRun s past → p < s.nodes
    → (node_in s past p).turns.low.0 ≤ (node_in s past p).turns.update.0
low_update s past p valid run lt =
    let at = (advancing_run s past valid run).within p lt in omega (arith, at.low_swept, at.swept_read, at.read_showed, at.showed_update)

-- so it is at most the version that a letter asks for
pub asked_low : (s : ScriptData) (past : List Entry) (e : Entry) (p : ℕ) (r : Letter) (t : TreeNo) (k : SubNo) (u : Version) → Doing s past e p r
    → AsksIn r.body t k → (node_in s past p).turns.low.0 ≤ u.0 → (node_in s past p).turns.low.0 ≤ (asked_version u r.body).0
asked_low s past e p r t k u g (OfRoot is first) low =
    let same : (asked_version u r.body).0 ≡ u.0 = ap (λ (b : Body). (asked_version u b).0) is in omega (arith, low, same)
asked_low s past e p r t k u g (OfSub v is) low =
    let c : Core = (keeping_in s past p).core in
    let near : is_core_timely s c (SubLetter t k v) ≡ true = ap (is_core_timely s c) (sym is) ∙ apt_timely s p c r g.does.brings.apt in
    let same : (asked_version u r.body).0 ≡ v.0 = ap (λ (b : Body). (asked_version u b).0) is in
    omega (arith, same, in_window-low c.node.turns.low.0 v.0 near)

-- a read tree's version
pub read_born : (s : ScriptData) (zs : List Place) (t : TreeNo) (k : SubNo) (body : Body) (c : Core) → AsksIn body t k
    → tree_kind_at s t.0 ≡ Some Read → DoneIn zs (work_version s c body) body
    → version_in t.0 zs ≡ Some (asked_version c.node.turns.read body)
read_born s zs t k body c (OfRoot is first) of dated =
    let v : Version = c.node.turns.read in
    let root : DoneIn zs (work_version s c (Root t)) (Root t) = subst (λ (b : Body). DoneIn zs (work_version s c b) b) is dated in
    let same : kind_version c (tree_kind_at s t.0) ≡ v = ap (kind_version c) of in
    version_is (version_in t.0 zs) v (subst (λ (w : Version). is_version (version_in t.0 zs) w ≡ true) same root)
    ∙ ap (λ (b : Body). Some (asked_version c.node.turns.read b)) (sym is)
read_born s zs t k body c (OfSub v is) of dated =
    let sub : DoneIn zs (work_version s c (SubLetter t k v)) (SubLetter t k v) = subst (λ (b : Body). DoneIn zs (work_version s c b) b) is dated in
    version_is (version_in t.0 zs) v sub ∙ ap (λ (b : Body). Some (asked_version c.node.turns.read b)) (sym is)

-- the version up to an act, and with it
pub upto_version : (past : List Entry) (e : Entry) (j t : ℕ) (a : Act) (v : Version) → was_born (front past e j) t ≡ true
    → version_in t (before past ++ places_at e) ≡ Some v → version_in t (front past e j ++ placed e.actor.0 a ∷ []) ≡ Some v
upto_version past e j t a v born has =
    version_stays t (front past e j) (placed e.actor.0 a ∷ []) born ∙ front_version past e j t v born has
