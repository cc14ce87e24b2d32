-- Each message that a node defers has its reason.
use Rattle.std.proofs.Common.{◌≡◌, Bool, true, false, refl, subst, Option, Some, None}
use Rattle.std.specs.Prelude.{if◌then◌else◌, nat_lt}
use Rattle.tv_base.specs.declared.numbers.SubNo.{SubNo}
use Rattle.tv_base.specs.declared.numbers.TreeNo.{TreeNo}
use Rattle.tv_base.specs.declared.numbers.Version.{Version}
use Rattle.letter_types.specs.declared.bodies.Body.TheVariants.{Root, Sub as SubLetter}
use Rattle.nc_locks.specs.declared.modes.Met.{Met}
use Rattle.script_parts.specs.ScriptData.{ScriptData, ops_of, updates}
use Rattle.script_parts.specs.declared.parts.TreeKind.{TreeKind}
use Rattle.script_parts.specs.declared.parts.TreeKind.TheVariants.{Update, Read, Strict}
use Rattle.world_model.specs.Core.{Core}
use Rattle.world_model.specs.Named.{is_strict_at, tree_kind_at}
use Rattle.world_model.specs.Strict.{CoreKeeping, is_born_now, kept_by_kind, meets, parked, parked_if, root_waiting}
use Rattle.tree_laws.specs.Keeping.{IsKeptFor, KeptForAReason}
use Rattle.tree_laws.proofs.conflicts.ByActs.{kind_updates}

-- what is parked meets a lock of the holder
parks : (s : ScriptData) (c : Core) (t : TreeNo) (k : SubNo) (raises : Bool) (v : Version) (r : Option Met) (kept : CoreKeeping)
    → updates s t.0 ≡ true → meets s t (ops_of s t.0 k.0) c ≡ r → parked_if t k raises v r c ≡ Some kept
    → IsKeptFor s c kept.tree kept.sub kept.why
parks s c t k raises v None kept up met is = absurd (cc is)
parks s c t k raises v (Some m) kept up met is =
    let same : parked t k raises v m c ≡ kept = cc is in
    subst (λ (x : CoreKeeping). IsKeptFor s c x.tree x.sub x.why) same (up, m, met, refl)

-- a root that waits can't be born
waits : (s : ScriptData) (c : Core) (t : TreeNo) (born : Bool) (kept : CoreKeeping) → is_strict_at s t.0 ≡ true → is_born_now c.node ≡ born
    → (if born then None else Some (root_waiting t c)) ≡ Some kept → IsKeptFor s c kept.tree kept.sub kept.why
waits s c t true kept strict born is = absurd (cc is)
waits s c t false kept strict born is =
    let same : root_waiting t c ≡ kept = cc is in
    subst (λ (x : CoreKeeping). IsKeptFor s c x.tree x.sub x.why) same (strict, refl, born)

by_kind_root : (s : ScriptData) (c : Core) (t : TreeNo) (kind : Option TreeKind) (kept : CoreKeeping) → tree_kind_at s t.0 ≡ kind
    → kept_by_kind s c t (Root t) kind ≡ Some kept → IsKeptFor s c kept.tree kept.sub kept.why
by_kind_root s c t (Some Update) kept kind is =
    parks s c t (record { 0 = 0 }) false c.node.turns.update (meets s t (ops_of s t.0 0) c) kept (kind_updates s t.0 Update kind) refl is
by_kind_root s c t (Some Strict) kept kind is = waits s c t (is_born_now c.node) kept (rw (kind, is_strict_at) refl) refl is
by_kind_root s c t (Some Read) kept kind is = absurd (cc is)
by_kind_root s c t None kept kind is = absurd (cc is)

by_kind_sub : (s : ScriptData) (c : Core) (t : TreeNo) (k : SubNo) (v : Version) (kind : Option TreeKind) (kept : CoreKeeping)
    → tree_kind_at s t.0 ≡ kind → kept_by_kind s c t (SubLetter t k v) kind ≡ Some kept → IsKeptFor s c kept.tree kept.sub kept.why
by_kind_sub s c t k v (Some Update) kept kind is =
    parks s c t k (nat_lt c.node.turns.update.0 v.0) v (meets s t (ops_of s t.0 k.0) c) kept (kind_updates s t.0 Update kind) refl is
by_kind_sub s c t k v (Some Strict) kept kind is = absurd (cc is)
by_kind_sub s c t k v (Some Read) kept kind is = absurd (cc is)
by_kind_sub s c t k v None kept kind is = absurd (cc is)

pub kept_for_a_reason : KeptForAReason
kept_for_a_reason s c (Root t) kept is = by_kind_root s c t (tree_kind_at s t.0) kept refl is
kept_for_a_reason s c (SubLetter t k v) kept is = by_kind_sub s c t k v (tree_kind_at s t.0) kept refl is
kept_for_a_reason s c _ kept is = absurd (cc is)
