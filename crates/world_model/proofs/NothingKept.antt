-- In a run of a script without strict transactions no node defers a message.
use Rattle.std.proofs.Common.{◌≡◌, ℕ, ◌==◌, Bool, true, false, List, ◌∷◌, refl, ap, ◌∙◌, Option, Some, None, []}
use Rattle.std.specs.Prelude.{if◌then◌else◌}
use Rattle.letter_types.specs.declared.bodies.Body.{Body}
use Rattle.letter_types.specs.declared.bodies.Body.TheVariants.{Wake}
use Rattle.letter_types.specs.declared.entries.Entry.{Entry}
use Rattle.letter_types.specs.declared.entries.Letter.{Letter}
use Rattle.letter_types.specs.declared.kept.KeptLetter.{KeptLetter}
use Rattle.letter_types.specs.Kept.{brought, kept_without, with_called}
use Rattle.letter_types.specs.Steps.{still}
use Rattle.script_parts.specs.Counts.{has_strict}
use Rattle.script_parts.specs.ScriptData.{ScriptData}
use Rattle.world_model.specs.Keeping.{KeepingNode, brought_row, is_apt_at, kept_row, keeping_row, woken_by}
use Rattle.world_model.specs.Kept.{kept_in}
use Rattle.world_model.specs.Runs.{keeping_in}
use Rattle.world_model.specs.Strict.{CoreKeeping, core_keeping, is_core_apt}
use Rattle.world_model.proofs.Plain.{keeps_plain}

none_without : (b : Body) → kept_without [] b ≡ []
none_without (Wake t k) = refl
none_without _ = refl

-- what is done keeps nothing
done_keeps_none : (s : ScriptData) (p : ℕ) (l r : Letter) (n : KeepingNode) (k : Option CoreKeeping) → n.kept ≡ [] → k ≡ None
    → (kept_row s p l r n k).state.kept ≡ []
done_keeps_none s p l r n None none is =
    ap (λ (ks : List KeptLetter). with_called (woken_by n.core r.body) (kept_without ks l.body)) none ∙ ap (with_called (woken_by n.core r.body)) (none_without l.body)
done_keeps_none s p l r n (Some k) none is = absurd (cc is)

apt_keeps_none : (s : ScriptData) (p : ℕ) (l r : Letter) (n : KeepingNode) (test : Bool) → has_strict s ≡ false → n.kept ≡ []
    → (if test then kept_row s p l r n (core_keeping s n.core r.body) else still n).state.kept ≡ []
apt_keeps_none s p l r n true plain none = done_keeps_none s p l r n (core_keeping s n.core r.body) none (keeps_plain s n.core r.body plain)
apt_keeps_none s p l r n false plain none = none

brought_keeps_none : (s : ScriptData) (p : ℕ) (l : Letter) (n : KeepingNode) (o : Option Letter) → has_strict s ≡ false → n.kept ≡ []
    → (brought_row (is_core_apt s p) s p l n o).state.kept ≡ []
brought_keeps_none s p l n None plain none = none
brought_keeps_none s p l n (Some r) plain none = apt_keeps_none s p l r n (is_apt_at s p n r) plain none

-- in every past
pub none_kept : (s : ScriptData) (past : List Entry) (p : ℕ) → has_strict s ≡ false → kept_in s past p ≡ []
none_kept s [] p plain = refl
none_kept s (e ∷ past) p plain = by (e.actor.0 == p) (none_kept s past p plain) where
  by : (test : Bool) → kept_in s past p ≡ []
      → (if test then (keeping_row s p (keeping_in s past p) e.took).state else keeping_in s past p).kept ≡ []
  by true none =
      let n = keeping_in s past p in brought_keeps_none s p e.took n (brought n.kept e.took e.took.body) plain none
  by false none = none
