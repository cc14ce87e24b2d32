-- A read transaction's version is one that was shown: up to it all writers are complete, in every run.
use Rattle.std.proofs.Common.{◌≡◌, ◌⊎◌, inl, inr, ℕ, ◌<◌, true, false, List, [], ◌∷◌, reverse, sym, ap, ◌∙◌, arith, Some}
use Rattle.std.specs.Prelude.{not}
use Rattle.tv_base.specs.declared.numbers.Version.{Version}
use Rattle.letter_types.specs.declared.entries.Entry.{Entry}
use Rattle.script_parts.specs.ScriptData.{ScriptData, reads}
use Rattle.script_parts.specs.Valid.{IsValid}
use Rattle.board_rules.specs.Histories.{places_at, version_in}
use Rattle.board_rules.proofs.Places.{places_more}
use Rattle.world_model.specs.Runs.{IsStepRun}
use Rattle.tree_laws.proofs.apt.AptVersions.{before}
use Rattle.run_laws.specs.Shown.{WritersAreWhole}
use Rattle.run_laws.proofs.each_tree.Closed.{rises}
use Rattle.run_laws.proofs.each_tree.EveryBirth.{birth_at}
use Rattle.run_laws.proofs.each_tree.Reached.{now_below, whole_run}
use Rattle.run_laws.proofs.each_tree.Late.{read_below}
use Rattle.run_laws.proofs.each_tree.Wholes.{born_split, born_with}

below_by : (s : ScriptData) (past : List Entry) (e : Entry) (t : ℕ) (w : Version) → IsValid s → IsStepRun s (e ∷ past)
    → reads s t ≡ true → (born_with past t ≡ Some w → w.0 < now_below false s past)
    → (born_with past t ≡ Some w) ⊎ (version_in t (places_at e) ≡ Some w) → w.0 < now_below false s (e ∷ past)
below_by s past e t w valid run read old_below (inl old) = omega (arith, old_below old, rises false s past e)
below_by s past e t w valid run read old_below (inr new) =
    let at = birth_at s past e t w valid run new in
    omega (arith, at.read read, read_below s past e.actor.0 valid run.1 at.node, rises false s past e)

-- so with the version of each read tree
pub born_below : (s : ScriptData) (past : List Entry) (t : ℕ) (w : Version) → IsValid s → IsStepRun s past
    → reads s t ≡ true → born_with past t ≡ Some w → w.0 < now_below false s past
born_below s [] t w valid run read born = absurd (cc born)
born_below s (e ∷ past) t w valid run read born =
    below_by s past e t w valid run read (λ old. born_below s past t w valid run.1 read old)
    (born_split t (before past) (places_at e) w (sym (ap (version_in t) (places_more e past)) ∙ born))

-- up to such a version writers are whole
pub whole_to : (s : ScriptData) (past : List Entry) (v : ℕ) → IsValid s → IsStepRun s past → v < now_below false s past
    → WritersAreWhole s (reverse past) v
whole_to s past v valid run early = λ t w there writes born le.
    whole_run false s past valid run t w there (ap not writes) born (omega (arith, early, le))
