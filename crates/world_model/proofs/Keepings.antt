-- What holds of a core that defers a message, by the two reasons: it is deferred, or it waits for a Show.
use Rattle.std.proofs.Common.{◌≡◌, Bool, true, false, subst, Option, Some, None}
use Rattle.std.specs.Prelude.{if◌then◌else◌, nat_lt}
use Rattle.tv_base.specs.declared.numbers.SubNo.{SubNo}
use Rattle.tv_base.specs.declared.numbers.TreeNo.{TreeNo}
use Rattle.tv_base.specs.declared.numbers.Version.{Version}
use Rattle.letter_types.specs.declared.bodies.Body.{Body}
use Rattle.letter_types.specs.declared.bodies.Body.TheVariants.{Root, Sub as SubLetter}
use Rattle.nc_locks.specs.declared.modes.Met.{Met}
use Rattle.script_parts.specs.ScriptData.{ScriptData, ops_of}
use Rattle.script_parts.specs.declared.parts.TreeKind.{TreeKind}
use Rattle.script_parts.specs.declared.parts.TreeKind.TheVariants.{Update, Read, Strict}
use Rattle.world_model.specs.Core.{Core}
use Rattle.world_model.specs.Named.{tree_kind_at}
use Rattle.world_model.specs.Strict.{CoreKeeping, core_keeping, is_born_now, kept_by_kind, meets, parked, parked_if, root_waiting}

-- what holds of each that is parked, and of each root that waits
pub record OfKeepings (c : Core) (P : CoreKeeping → Type 0) : Type 0 where
  pub parks : (t : TreeNo) (k : SubNo) (raises : Bool) (v : Version) (m : Met) → P (parked t k raises v m c)
  pub waits : (t : TreeNo) → P (root_waiting t c)

parks : (c : Core) (P : CoreKeeping → Type 0) (t : TreeNo) (k : SubNo) (raises : Bool) (v : Version) (r : Option Met) (kept : CoreKeeping)
    → OfKeepings c P → parked_if t k raises v r c ≡ Some kept → P kept
parks c P t k raises v None kept h is = absurd (cc is)
parks c P t k raises v (Some m) kept h is = let same : parked t k raises v m c ≡ kept = cc is in subst P same (h.parks t k raises v m)

waits : (c : Core) (P : CoreKeeping → Type 0) (t : TreeNo) (born : Bool) (kept : CoreKeeping) → OfKeepings c P
    → (if born then None else Some (root_waiting t c)) ≡ Some kept → P kept
waits c P t true kept h is = absurd (cc is)
waits c P t false kept h is = let same : root_waiting t c ≡ kept = cc is in subst P same (h.waits t)

by_kind_root : (s : ScriptData) (c : Core) (P : CoreKeeping → Type 0) (t : TreeNo) (kind : Option TreeKind) (kept : CoreKeeping)
    → OfKeepings c P → kept_by_kind s c t (Root t) kind ≡ Some kept → P kept
by_kind_root s c P t (Some Update) kept h is =
    parks c P t (record { 0 = 0 }) false c.node.turns.update (meets s t (ops_of s t.0 0) c) kept h is
by_kind_root s c P t (Some Strict) kept h is = waits c P t (is_born_now c.node) kept h is
by_kind_root s c P t (Some Read) kept h is = absurd (cc is)
by_kind_root s c P t None kept h is = absurd (cc is)

by_kind_sub : (s : ScriptData) (c : Core) (P : CoreKeeping → Type 0) (t : TreeNo) (k : SubNo) (v : Version) (kind : Option TreeKind)
    (kept : CoreKeeping) → OfKeepings c P → kept_by_kind s c t (SubLetter t k v) kind ≡ Some kept → P kept
by_kind_sub s c P t k v (Some Update) kept h is =
    parks c P t k (nat_lt c.node.turns.update.0 v.0) v (meets s t (ops_of s t.0 k.0) c) kept h is
by_kind_sub s c P t k v (Some Strict) kept h is = absurd (cc is)
by_kind_sub s c P t k v (Some Read) kept h is = absurd (cc is)
by_kind_sub s c P t k v None kept h is = absurd (cc is)

-- so of whatever is kept
pub of_kept : (s : ScriptData) (c : Core) (P : CoreKeeping → Type 0) (body : Body) (kept : CoreKeeping) → OfKeepings c P
    → core_keeping s c body ≡ Some kept → P kept
of_kept s c P (Root t) kept h is = by_kind_root s c P t (tree_kind_at s t.0) kept h is
of_kept s c P (SubLetter t k v) kept h is = by_kind_sub s c P t k v (tree_kind_at s t.0) kept h is
of_kept s c P _ kept h is = absurd (cc is)
