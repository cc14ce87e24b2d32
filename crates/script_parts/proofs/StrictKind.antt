-- The kind of strict transactions.
use Rattle.std.proofs.Common.{◌≡◌, true, false, refl}
use Rattle.script_parts.specs.ScriptData.{is_strict}
use Rattle.script_parts.specs.declared.parts.TreeKind.{TreeKind}
use Rattle.script_parts.specs.declared.parts.TreeKind.TheVariants.{Update, Read, Strict}

-- a kind that is strict
pub strict_kind : (kind : TreeKind) → is_strict kind ≡ true → kind ≡ Strict
strict_kind Strict is = refl
strict_kind Update is = let no_such : false ≡ true = is in cc
strict_kind Read is = let no_such : false ≡ true = is in cc
