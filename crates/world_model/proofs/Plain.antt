-- In a script without strict transactions no message is deferred.
use Rattle.std.proofs.Common.{◌≡◌, ℕ, zero, suc, ◌==◌, true, false, not, List, [], ◌∷◌, sym, ap, ◌∙◌, Option, Some, None, slice_get, arith, refl}
use Rattle.std.proofs.lemmas.Bool.Decides.{nat_tests}
use Rattle.tv_base.specs.Sums.{one_if}
use Rattle.tv_base.specs.declared.numbers.TreeNo.{TreeNo}
use Rattle.letter_types.specs.declared.bodies.Body.{Body}
use Rattle.letter_types.specs.declared.bodies.Body.TheVariants.{Root, Sub as SubLetter}
use Rattle.script_parts.specs.Counts.{has_strict, strict_trees}
use Rattle.script_parts.specs.ScriptData.{ScriptData, is_strict}
use Rattle.script_parts.specs.declared.parts.Tree.{Tree}
use Rattle.script_parts.specs.declared.parts.TreeKind.{TreeKind}
use Rattle.script_parts.specs.declared.parts.TreeKind.TheVariants.{Update, Read, Strict}
use Rattle.world_model.specs.Core.{Core}
use Rattle.world_model.specs.Named.{is_strict_at, tree_kind_at}
use Rattle.world_model.specs.Strict.{core_keeping, kept_by_kind}

-- No tree is strict.
no_tree : (ts : List Tree) (t : ℕ) (u : Tree) → strict_trees ts ≡ 0 → slice_get ts t ≡ Some u → one_if (is_strict u.kind) ≡ 0
no_tree [] t u none at = absurd (cc at)
no_tree (x ∷ xs) zero u none at =
    let same : x ≡ u = grind arith in
    omega (arith, none, ap (λ (y : Tree). one_if (is_strict y.kind)) same)
no_tree (x ∷ xs) (suc t) u none at = no_tree xs t u (omega (arith, none)) at

not_strict : (kind : TreeKind) → one_if (is_strict kind) ≡ 0 → is_strict kind ≡ false
not_strict Strict none = absurd (omega (arith, none))
not_strict Update none = refl
not_strict Read none = refl

none_of : (n : ℕ) → not (n == 0) ≡ false → n ≡ 0
none_of n is = grind (arith, nat_tests)

pub no_strict : (s : ScriptData) (t : ℕ) → has_strict s ≡ false → is_strict_at s t ≡ false
no_strict s t plain = by (slice_get s.trees t) refl where
  by : (o : Option Tree) → slice_get s.trees t ≡ o → is_strict_at s t ≡ false
  by None at = rw (at, is_strict_at) refl
  by (Some u) at = rw (at, is_strict_at) (not_strict u.kind (no_tree s.trees t u (none_of (strict_trees s.trees) plain) at))

-- A subtransaction of an update tree wants no lock, so nothing is in its way.
keeps_by_kind : (s : ScriptData) (c : Core) (t : TreeNo) (body : Body) (kind : Option TreeKind) → has_strict s ≡ false
    → tree_kind_at s t.0 ≡ kind → kept_by_kind s c t body kind ≡ None
keeps_by_kind s c t (Root u) (Some Update) plain is = rw plain refl
keeps_by_kind s c t (SubLetter u k v) (Some Update) plain is = rw plain refl
keeps_by_kind s c t (Root u) (Some Strict) plain is =
    absurd (let no_more : true ≡ false = sym (rw (is, is_strict_at) refl) ∙ no_strict s t.0 plain in cc no_more)
keeps_by_kind s c t _ _ plain is = refl

pub keeps_plain : (s : ScriptData) (c : Core) (body : Body) → has_strict s ≡ false → core_keeping s c body ≡ None
keeps_plain s c (Root t) plain = keeps_by_kind s c t (Root t) (tree_kind_at s t.0) plain refl
keeps_plain s c (SubLetter t k v) plain = keeps_by_kind s c t (SubLetter t k v) (tree_kind_at s t.0) plain refl
keeps_plain s c _ plain = refl
