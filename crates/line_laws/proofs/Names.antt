-- What is printed by names is the same in a script that goes on.
use Rattle.std.proofs.Common.{◌≡◌, ℕ, ◌<◌, ◌∙◌, List, [], ◌∷◌, ◌++◌, length, refl, ap, Option, Some, None}
use Rattle.std.specs.Prelude.{codes, decimal, slice_get}
use Rattle.tv_base.specs.declared.numbers.ItemNo.{ItemNo}
use Rattle.tv_base.proofs.ByPlace.{slice_get-old}
use Rattle.commute_ops.specs.declared.value.Value.{Value}
use Rattle.letter_types.specs.declared.votes.Cause.{Cause}
use Rattle.letter_types.specs.declared.votes.Cause.TheVariants.{Conflict, Newer, Short}
use Rattle.script_parts.specs.ScriptData.{ScriptData}
use Rattle.script_parts.specs.declared.parts.ItemRow.{ItemRow}
use Rattle.script_parts.specs.declared.parts.Tree.{Tree}
use Rattle.history_text.specs.TreeNames.{cause_text, got_text, item_text, tree_text}
use Rattle.history_text.specs.Values.{get_text}
use Rattle.report_text.specs.Outcomes.{why_text}
use Rattle.audit_laws.specs.OfScript.{IsCauseOf}
use Rattle.growth_laws.specs.Growth.{Extends}

item_same : (s t : ScriptData) (x : ℕ) → Extends s t → item_text t x ≡ item_text s x
item_same s t x e = ap (λ (rows : List ItemRow). elim (slice_get rows x) as (λ _. List ℕ) [ Some row ↦ row.name | None ↦ decimal x ]) e.items

tree_same : (s t : ScriptData) (k : ℕ) → Extends s t → k < length s.trees → tree_text t k ≡ tree_text s k
tree_same s t k e lt =
    ap (λ (o : Option Tree). elim o as (λ _. List ℕ) [ Some tree ↦ tree.name | None ↦ decimal k ])
    (ap (λ (ts : List Tree). slice_get ts k) e.trees.1 ∙ slice_get-old s.trees e.trees.0 k lt)

pub got_same : (s t : ScriptData) (ws : List (ItemNo × Value)) → Extends s t → got_text t ws ≡ got_text s ws
got_same s t [] e = refl
got_same s t (w ∷ ws) e =
    ap (λ (name : List ℕ). get_text name w.1 ++ got_text t ws) (item_same s t w.0.0 e)
    ∙ ap (λ (text : List ℕ). get_text (item_text s w.0.0) w.1 ++ text) (got_same s t ws e)

-- a cause that names what the script has
cause_same : (s t : ScriptData) (c : Cause) → Extends s t → IsCauseOf s c → cause_text t c ≡ cause_text s c
cause_same s t (Conflict x u) e is = rw (item_same s t x.0 e, tree_same s t u.0 e is.1) refl
cause_same s t (Newer x v) e is = rw (item_same s t x.0 e) refl
cause_same s t (Short x n) e is = rw (item_same s t x.0 e) refl

pub why_same : (s t : ScriptData) (o : Option Cause) → Extends s t → ((c : Cause) → o ≡ Some c → IsCauseOf s c) → why_text t o ≡ why_text s o
why_same s t None e known = refl
why_same s t (Some c) e known = ap (λ (text : List ℕ). codes " " ++ text) (cause_same s t c e (known c refl))
