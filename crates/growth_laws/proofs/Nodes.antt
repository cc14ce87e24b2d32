-- What a node does with a message is the same before the script grew and after; and in a run it brings a transaction
-- that was there.
use Rattle.std.proofs.Common.{◌≡◌, ℕ, ◌<◌, ◌==◌, ◌&&◌, ◌∙◌, Bool, List, ◌∷◌, ◌++◌, refl, ap, Option, Some, None}
use Rattle.std.specs.Prelude.{if◌then◌else◌}
use Rattle.letter_types.specs.declared.entries.Entry.{Entry}
use Rattle.letter_types.specs.declared.entries.Letter.{Letter}
use Rattle.letter_types.specs.Kept.{brought, kept_without, wakes, with_called}
use Rattle.letter_types.specs.Steps.{Out, still}
use Rattle.script_parts.specs.ScriptData.{ScriptData}
use Rattle.script_parts.specs.Valid.{IsValid}
use Rattle.world_model.specs.Core.{Core}
use Rattle.world_model.specs.Keeping.{KeepingNode, brought_row, kept_row, keeping_row, woken_by}
use Rattle.world_model.specs.Kept.{kept_in}
use Rattle.world_model.specs.Meant.{IsLetterMeant}
use Rattle.world_model.specs.Runs.{IsStepRun, keeping_in}
use Rattle.world_model.specs.Strict.{CoreKeeping, core_keeping, is_core_apt}
use Rattle.world_model.proofs.EachOutstanding.{each_brought, each_kept, each_took}
use Rattle.world_model.proofs.Meant.{letters_are_meant}
use Rattle.growth_laws.proofs.More.{More, with_more}
use Rattle.growth_laws.proofs.Aptness.{apt_same, keeps_same}
use Rattle.growth_laws.proofs.Rows.{IsKnown, core_same, known}

-- the letter that is brought names a tree of the script
abbrev pub BringsKnown : ScriptData → KeepingNode → Letter → Type 0
BringsKnown s n l = (r : Letter) → brought n.kept l l.body ≡ Some r → IsKnown s r.body

kept_row_same : (s : ScriptData) (m : More s) (p : ℕ) (l r : Letter) (n : KeepingNode) (o : Option CoreKeeping) → IsKnown s r.body
    → kept_row (with_more s m) p l r n o ≡ kept_row s p l r n o
kept_row_same s m p l r n (Some k) lt = refl
kept_row_same s m p l r n None lt =
    ap (λ (x : Out Core). record {
      state = record { core = x.state; kept = with_called (woken_by n.core r.body) (kept_without n.kept l.body) };
      sent = x.sent ++ wakes (woken_by n.core r.body) (kept_without n.kept l.body);
      acts = x.acts;
    }) (core_same s m p r.from.0 n.core r.body lt)

brought_same : (s : ScriptData) (m : More s) (p : ℕ) (l : Letter) (n : KeepingNode) (o : Option Letter)
    → ((r : Letter) → o ≡ Some r → IsKnown s r.body)
    → brought_row (is_core_apt (with_more s m) p) (with_more s m) p l n o ≡ brought_row (is_core_apt s p) s p l n o
brought_same s m p l n None lt = refl
brought_same s m p l n (Some r) lt =
    let w : ScriptData = with_more s m in
    ap (λ (b : Bool). if (r.to.0 == p) && b then kept_row w p l r n (core_keeping w n.core r.body) else still n) (apt_same s m p n.core r (lt r refl))
    ∙ ap (λ (o : Option CoreKeeping). if (r.to.0 == p) && is_core_apt s p n.core r then kept_row w p l r n o else still n)
    (keeps_same s m n.core r.body (lt r refl))
    ∙ ap (λ (x : Out KeepingNode). if (r.to.0 == p) && is_core_apt s p n.core r then x else still n)
    (kept_row_same s m p l r n (core_keeping s n.core r.body) (lt r refl))

-- a node does the same in both
pub keeping_same : (s : ScriptData) (m : More s) (p : ℕ) (n : KeepingNode) (l : Letter) → BringsKnown s n l
    → keeping_row (with_more s m) p n l ≡ keeping_row s p n l
keeping_same s m p n l lt = brought_same s m p l n (brought n.kept l l.body) lt

-- In a run each letter that a node takes brings one that is known.
pub brings_known : (s : ScriptData) (past : List Entry) (e : Entry) → IsValid s → IsStepRun s (e ∷ past) → e.actor.0 < s.nodes
    → BringsKnown s (keeping_in s past e.actor.0) e.took
brings_known s past e valid run lt r is =
    let all = letters_are_meant s past valid run.1 in
    let meant : IsLetterMeant s r =
    each_brought (IsLetterMeant s) (kept_in s past e.actor.0) e.took r e.took.body (each_kept (IsLetterMeant s) s past all e.actor.0 lt)
    (each_took (IsLetterMeant s) s past e run.0 all) is in
    known s r.from.0 r.to.0 r.body meant
