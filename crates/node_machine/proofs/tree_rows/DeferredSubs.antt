-- Which messages are deferred, and how.
use Rattle.std.proofs.Common.{◌≡◌, ℕ, ◌+◌, ◌<◌, suc, Bool, true, false, not, List, [], ◌∷◌, drop, length, get_or, refl, sym, subst, ap, ◌∙◌, arith, add-one, drop-cons, Option, Some, None}
use Rattle.std.specs.Prelude.{if◌then◌else◌, nat_lt}
use Rattle.std.specs.Option.{option_or}
use Rattle.std.proofs.lemmas.Bool.Decides.{nat_tests}
use Rattle.tv_base.specs.declared.numbers.SubNo.{SubNo}
use Rattle.tv_base.specs.declared.numbers.TreeNo.{TreeNo}
use Rattle.tv_base.specs.declared.numbers.Version.{Version}
use Rattle.item_versions.specs.Window.{in_window}
use Rattle.letter_types.specs.declared.bodies.Body.{Body}
use Rattle.letter_types.specs.declared.bodies.Body.TheVariants.{Root, Sub as SubLetter}
use Rattle.nc_locks.specs.declared.modes.Lock.{Lock}
use Rattle.nc_locks.specs.declared.modes.Met.{Met}
use Rattle.nc_locks.specs.declared.modes.Mode.TheVariants.{Mark}
use Rattle.nc_locks.specs.Locks.{met_in}
use Rattle.node_versions.specs.declared.turns.Turns.{Turns}
use Rattle.tx_trees.specs.ScriptData.{ScriptData}
use Rattle.tx_trees.specs.declared.parts.SubOp.{SubOp}
use Rattle.tx_trees.specs.declared.parts.TreeKind.TheVariants.{Update, Read, Strict}
use Rattle.world_model.specs.Asked.{asked_ops, asked_version}
use Rattle.world_model.specs.Core.{Core}
use Rattle.world_model.specs.Strict.{CoreKeeping, is_born_now, kept_by_kind, meets, parked, root_waiting}
use Rattle.tree_step.specs.Node.{data_of}
use Rattle.tree_step.specs.Core.{core_of}
use Rattle.tree_step.specs.declared.node_core.NodeCore.{NodeCore}
use Rattle.node_machine.specs.Plans.{IsKeptBy, kept_core}
use Rattle.tree_step.specs.Raising.{RaisesNear}
use Rattle.node_machine.specs.steps.CoreKept.{CoreKept}
use Rattle.node_machine.specs.Apt.{asks_a_sub}
use Rattle.node_machine.specs.Meeting.{asked_sub, op_marks, parked_kept, raises_to, root_kept, waits_for_show}

-- What the items of operations meet, one after the other.
or_none : (o : Option Met) → option_or o None ≡ o
or_none None = refl
or_none (Some met) = refl

met_next : (t : TreeNo) (o : SubOp) (os : List SubOp) (ls : List Lock)
    → met_in t (op_marks (o ∷ os)) ls ≡ option_or (met_in t ((o.item, Mark) ∷ []) ls) (met_in t (op_marks os) ls)
met_next t o os ls = ap (λ (m : Option Met). option_or m (met_in t (op_marks os) ls)) (sym (or_none _))

met_more : (t : TreeNo) (os : List SubOp) (i : ℕ) (d : SubOp) (ls : List Lock) → i < length os
    → met_in t (op_marks (drop i os)) ls
    ≡ option_or (met_in t (((get_or os i d).item, Mark) ∷ []) ls) (met_in t (op_marks (drop (i + 1) os)) ls)
met_more t os i d ls within =
    rw (add-one, drop-cons os i d) (met_next t (get_or os i d) (drop (suc i) os) ls)

pub met_found : (t : TreeNo) (os : List SubOp) (i : ℕ) (d : SubOp) (ls : List Lock) (r : Option Met) (met : Met)
    → i < length os → r ≡ met_in t (((get_or os i d).item, Mark) ∷ []) ls → r ≡ Some met
    → met_in t (op_marks os) ls ≡ met_in t (op_marks (drop i os)) ls → Some met ≡ met_in t (op_marks os) ls
met_found t os i d ls r met within found is so_far =
    sym (so_far ∙ met_more t os i d ls within
    ∙ ap (λ (m : Option Met). option_or m (met_in t (op_marks (drop (i + 1) os)) ls)) (sym found ∙ is))

pub met_passed : (t : TreeNo) (os : List SubOp) (i : ℕ) (d : SubOp) (ls : List Lock) (r : Option Met)
    → i < length os → r ≡ met_in t (((get_or os i d).item, Mark) ∷ []) ls → r ≡ None
    → met_in t (op_marks os) ls ≡ met_in t (op_marks (drop i os)) ls
    → met_in t (op_marks os) ls ≡ met_in t (op_marks (drop (i + 1) os)) ls
met_passed t os i d ls r within found is so_far =
    so_far ∙ met_more t os i d ls within
    ∙ ap (λ (m : Option Met). option_or m (met_in t (op_marks (drop (i + 1) os)) ls)) (sym found ∙ is)

-- A subtransaction of an update tree that meets nothing isn't deferred.
pub meets_none : (s : ScriptData) (c : Core) (t : TreeNo) (body : Body) → meets s t (asked_ops s body) c ≡ None
    → kept_by_kind s c t body (Some Update) ≡ None
meets_none s c t (Root u) none = rw none refl
meets_none s c t (SubLetter u k v) none = rw none refl
meets_none s c t _ none = refl

-- One that meets a lock is parked.
parked_by : (t : TreeNo) (k : SubNo) (raises : Bool) (v : Version) (body : Body) (met : Met) (c : Core)
    → k ≡ asked_sub body → v ≡ asked_version c.node.turns.update body → nat_lt c.node.turns.update.0 v.0 ≡ raises
    → parked t k raises v met c ≡ kept_core (parked_kept t body c.node.turns met) c
parked_by t k raises v body met c sub at test =
    subst (λ (j : SubNo). parked t j raises v met c ≡ kept_core (parked_kept t body c.node.turns met) c) (sym sub)
    (by_test raises (subst (λ (w : Version). nat_lt c.node.turns.update.0 w.0 ≡ raises) at test)) where
      by_test : (b : Bool) → nat_lt c.node.turns.update.0 (asked_version c.node.turns.update body).0 ≡ b
          → parked t (asked_sub body) b v met c ≡ kept_core (parked_kept t body c.node.turns met) c
      by_test true is = rw is (ap (λ (w : Version). parked t (asked_sub body) true w met c) at)
      by_test false is = rw is (ap (λ (w : Version). parked t (asked_sub body) false w met c) at)

not_above : (n : ℕ) → nat_lt n n ≡ false
not_above n = grind (arith, nat_tests)

pub meets_some : (s : ScriptData) (c : Core) (t : TreeNo) (body : Body) (met : Met) → asks_a_sub body ≡ true
    → meets s t (asked_ops s body) c ≡ Some met
    → kept_by_kind s c t body (Some Update) ≡ Some (kept_core (parked_kept t body c.node.turns met) c)
meets_some s c t (Root u) met asked some =
    rw some (ap (λ (k : CoreKeeping). Some k)
    (parked_by t (record { 0 = 0 }) false c.node.turns.update (Root u) met c refl refl (not_above c.node.turns.update.0)))
meets_some s c t (SubLetter u k v) met asked some =
    rw some (ap (λ (k : CoreKeeping). Some k)
    (parked_by t k (nat_lt c.node.turns.update.0 v.0) v (SubLetter u k v) met c refl refl refl))
meets_some s c t _ met asked some = absurd (cc)

pub raises_near : (turns : Turns) (v : Version) → in_window turns.low.0 v.0 ≡ true → RaisesNear (raises_to turns v) turns
raises_near turns v near = by (nat_lt turns.update.0 v.0) where
  by : (b : Bool) → RaisesNear (if b then Some v else None) turns
  by true = near
  by false = tt

-- A subtransaction of a read tree isn't deferred.
pub reads_free : (s : ScriptData) (c : Core) (t : TreeNo) (body : Body) → kept_by_kind s c t body (Some Read) ≡ None
reads_free s c t (Root u) = refl
reads_free s c t (SubLetter u k v) = refl
reads_free s c t _ = refl

-- One of a strict tree is deferred if it is a root that waits.
root_by : (t : TreeNo) (c : Core) (born : Bool) → not born ≡ true
    → (if born then None else Some (root_waiting t c)) ≡ Some (kept_core (root_kept t c.node.turns) c)
root_by t c true is = absurd (cc)
root_by t c false is = refl

pub waits_kept : (s : ScriptData) (c : Core) (t : TreeNo) (body : Body) → waits_for_show c.node body ≡ true
    → kept_by_kind s c t body (Some Strict) ≡ Some (kept_core (root_kept t c.node.turns) c)
waits_kept s c t (Root u) waits = root_by t c (is_born_now c.node) waits
waits_kept s c t _ waits = absurd (cc)

root_free : (t : TreeNo) (c : Core) (born : Bool) → not born ≡ false
    → (if born then None else Some (root_waiting t c)) ≡ None
root_free t c true is = refl
root_free t c false is = absurd (cc)

pub votes_free : (s : ScriptData) (c : Core) (t : TreeNo) (body : Body) → waits_for_show c.node body ≡ false
    → kept_by_kind s c t body (Some Strict) ≡ None
votes_free s c t (Root u) waits = root_free t c (is_born_now c.node) waits
votes_free s c t (SubLetter u k v) waits = refl
votes_free s c t _ waits = refl

-- The plans.
pub parked_plan : (s : ScriptData) (n : NodeCore) (t : TreeNo) (body : Body) (met : Met) (k : CoreKept) (test : Bool)
    → test ≡ true → asks_a_sub body ≡ true → meets s t (asked_ops s body) (core_of n) ≡ Some met
    → in_window n.parts.turns.low.0 (asked_version n.parts.turns.update body).0 ≡ true
    → k ≡ parked_kept t body n.parts.turns met
    → IsKeptBy test (kept_by_kind s (core_of n) t body (Some Update)) n k
parked_plan s n t body met k test apt asked some near made =
    subst (λ (x : CoreKept). IsKeptBy test (kept_by_kind s (core_of n) t body (Some Update)) n x) (sym made)
    (record {
      apt = apt;
      kept = meets_some s (core_of n) t body met asked some;
      near = raises_near n.parts.turns (asked_version n.parts.turns.update body) near;
    })

pub waiting_plan : (s : ScriptData) (n : NodeCore) (t : TreeNo) (body : Body) (k : CoreKept)
    → waits_for_show (data_of n.parts) body ≡ true → k ≡ root_kept t n.parts.turns
    → IsKeptBy true (kept_by_kind s (core_of n) t body (Some Strict)) n k
waiting_plan s n t body k waits made =
    subst (λ (x : CoreKept). IsKeptBy true (kept_by_kind s (core_of n) t body (Some Strict)) n x) (sym made)
    (record { apt = refl; kept = waits_kept s (core_of n) t body waits; near = tt })
