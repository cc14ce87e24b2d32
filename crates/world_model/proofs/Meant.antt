-- In every run each message that has still to be done is meant for its addressee, and says what its sender may say.
use Rattle.std.proofs.Common.{◌≡◌, ℕ, ◌<◌, Bool, true, false, List, [], ◌∷◌, refl, sym, ap, subst, ◌∙◌, Option, Some, None}
use Rattle.std.specs.Prelude.{if◌then◌else◌}
use Rattle.letter_types.specs.declared.bodies.Body.{Body}
use Rattle.letter_types.specs.declared.bodies.Body.TheVariants.{Wake}
use Rattle.letter_types.specs.declared.entries.Entry.{Entry}
use Rattle.letter_types.specs.declared.entries.Letter.{Letter}
use Rattle.letter_types.specs.declared.entries.LetterId.{LetterId}
use Rattle.letter_types.specs.declared.entries.Outgoing.{Outgoing}
use Rattle.letter_types.specs.declared.kept.KeptLetter.{KeptLetter}
use Rattle.letter_types.specs.declared.kept.KeepReason.{KeepReason}
use Rattle.letter_types.specs.Kept.{brought, kept_without, wakes}
use Rattle.letter_types.specs.Steps.{still}
use Rattle.script_parts.specs.Counts.{has_strict}
use Rattle.script_parts.specs.ScriptData.{ScriptData}
use Rattle.script_parts.specs.Valid.{IsValid}
use Rattle.world_model.proofs.Coordination.{of_forgetting, of_remembering}
use Rattle.world_model.specs.Counts.{Each}
use Rattle.world_model.specs.Keeping.{AreKeptAt, KeepingNode, brought_row, is_apt_at, kept_row, woken_by}
use Rattle.world_model.specs.Kept.{outstanding}
use Rattle.world_model.specs.Runs.{AtClient, AtCoordinator, AtNode, AtRestarting, MayFollow, Moves, client_in, keeping_in, IsStepRun}
use Rattle.world_model.specs.Strict.{CoreKeeping, core_keeping, core_row, is_core_apt}
use Rattle.world_model.proofs.EachOutstanding.{EachKept, each_brought, each_first, each_kept, each_outstanding, each_took, kept_meanwhile}
use Rattle.world_model.proofs.Every.{each_append, each_map}
use Rattle.world_model.proofs.KeptThere.{apt_there, kept_in_past, still_kept}
use Rattle.world_model.proofs.NothingKept.{none_kept}
use Rattle.world_model.proofs.Orders.{of}
use Rattle.world_model.specs.Meant.{IsLetterMeant, IsMeant, LettersAreMeant}
use Rattle.world_model.proofs.HeldOwn.{HoldsOwn, holds_own}
use Rattle.world_model.proofs.MeantRows.{AreMeant, client_meant, coordinator_meant, core_meant, wakes_meant}

-- what is known of a node: a letter is kept only where there are strict trees
pub record Stands (s : ScriptData) (p : ℕ) (n : KeepingNode) : Type 0 where
  pub below : p < s.nodes
  pub holds : HoldsOwn n.core.holds
  pub kept : AreKeptAt p n.kept
  pub meant : EachKept (IsLetterMeant s) n.kept
  pub plain : has_strict s ≡ false → n.kept ≡ []

none_wakes : (test : KeepReason → Bool) (body : Body) → wakes test (kept_without [] body) ≡ []
none_wakes test (Wake t k) = refl
none_wakes test _ = refl

-- its Wakes
node_wakes : (s : ScriptData) (p : ℕ) (n : KeepingNode) (test : KeepReason → Bool) (body : Body) (some : Bool) → IsValid s → Stands s p n
    → has_strict s ≡ some → AreMeant s p (wakes test (kept_without n.kept body))
node_wakes s p n test body true valid st is =
    wakes_meant s p test (kept_without n.kept body) valid is st.below (still_kept p n.kept body st.kept)
    (kept_meanwhile (IsLetterMeant s) n.kept body st.meant)
node_wakes s p n test body false valid st is =
    let none : wakes test (kept_without n.kept body) ≡ [] =
    ap (λ (xs : List KeptLetter). wakes test (kept_without xs body)) (st.plain is) ∙ none_wakes test body in
    subst (AreMeant s p) (sym none) tt

-- its row
row_sends : (s : ScriptData) (p : ℕ) (l r : Letter) (n : KeepingNode) (o : Option CoreKeeping) → IsValid s → Stands s p n
    → r.to.0 ≡ p → IsLetterMeant s r → AreMeant s p (kept_row s p l r n o).sent
row_sends s p l r n (Some k) valid st to meant = tt
row_sends s p l r n None valid st to meant =
    let here : IsMeant s r.from.0 p r.body = subst (λ (q : ℕ). IsMeant s r.from.0 q r.body) to meant in
    each_append (of (IsMeant s p)) (core_row s p n.core r.from.0 r.body).sent (wakes (woken_by n.core r.body) (kept_without n.kept l.body))
    (core_meant s p r.from.0 n.core r.body st.below st.holds here)
    (node_wakes s p n (woken_by n.core r.body) l.body (has_strict s) valid st refl)

apt_sends : (s : ScriptData) (p : ℕ) (l r : Letter) (n : KeepingNode) (test : Bool) → IsValid s → Stands s p n → IsLetterMeant s r
    → is_apt_at s p n r ≡ test
    → AreMeant s p (if test then kept_row s p l r n (core_keeping s n.core r.body) else still n).sent
apt_sends s p l r n true valid st meant is =
    row_sends s p l r n (core_keeping s n.core r.body) valid st (apt_there (is_core_apt s p) p n r is) meant
apt_sends s p l r n false valid st meant is = tt

brought_sends : (s : ScriptData) (p : ℕ) (l : Letter) (n : KeepingNode) (o : Option Letter) → IsValid s → Stands s p n
    → IsLetterMeant s l → brought n.kept l l.body ≡ o → AreMeant s p (brought_row (is_core_apt s p) s p l n o).sent
brought_sends s p l n None valid st meant is = tt
brought_sends s p l n (Some r) valid st meant is =
    apt_sends s p l r n (is_apt_at s p n r) valid st (each_brought (IsLetterMeant s) n.kept l r l.body st.meant meant is) refl

-- An entry.
stands : (s : ScriptData) (past : List Entry) (p : ℕ) → p < s.nodes → Each (IsLetterMeant s) (outstanding s past)
    → Stands s p (keeping_in s past p)
stands s past p below all = record {
  below = below;
  holds = holds_own s past p;
  kept = kept_in_past s past p;
  meant = each_kept (IsLetterMeant s) s past all p below;
  plain = λ plain. none_kept s past p plain;
}

entry_sends : (s : ScriptData) (past : List Entry) (e : Entry) → IsValid s → MayFollow s past e
    → Each (IsLetterMeant s) (outstanding s past) → Moves s past e → AreMeant s e.actor.0 e.sent
entry_sends s past e valid m all (AtNode lt says) =
    let p = e.actor.0 in
    let n = keeping_in s past p in
    subst (AreMeant s p) (sym says.0)
    (brought_sends s p e.took n (brought n.kept e.took e.took.body) valid (stands s past p lt all)
    (each_took (IsLetterMeant s) s past e m all) refl)
entry_sends s past e valid m all (AtCoordinator at keeps says) = coordinator_meant s e (of_remembering s past e keeps says)
entry_sends s past e valid m all (AtRestarting at loses says) = coordinator_meant s e (of_forgetting s past e loses says)
entry_sends s past e valid m all (AtClient at says) =
    subst (AreMeant s e.actor.0) (sym says.0) (client_meant s (client_in s past) e.actor.0 e.took.body valid)

pub letters_are_meant : LettersAreMeant
letters_are_meant s [] valid run = each_first (IsLetterMeant s) s (refl, tt)
letters_are_meant s (e ∷ past) valid run =
    let all = letters_are_meant s past valid run.1 in
    each_outstanding (IsLetterMeant s) s past e run.0 all
    (each_map (of (IsMeant s e.actor.0)) (λ (o : Outgoing). LetterId → IsMeant s e.actor.0 o.to.0 o.body) e.sent (λ o meant id. meant)
    (entry_sends s past e valid run.0 all run.0.moves))

-- the letter that is taken is meant for its actor
pub took_meant : (s : ScriptData) (past : List Entry) (e : Entry) → IsValid s → IsStepRun s (e ∷ past) → IsLetterMeant s e.took
took_meant s past e valid run = each_took (IsLetterMeant s) s past e run.0 (letters_are_meant s past valid run.1)
