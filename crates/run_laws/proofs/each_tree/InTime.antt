-- Every run is in time, and what the laws of phases say of every run.
use Rattle.std.proofs.Common.{false, ◌≡◌, ℕ, ◌+◌, ◌*◌, ◌<◌, ◌==◌, true, List, [], ◌∷◌, length, refl, sym, ap, ◌∙◌}
use Rattle.std.proofs.lemmas.Bool.{and_parts}
use Rattle.letter_types.specs.Kept.{brought}
use Rattle.letter_types.specs.declared.bodies.Body.{Body}
use Rattle.letter_types.specs.declared.bodies.Body.TheVariants.{Wake}
use Rattle.letter_types.specs.declared.entries.Entry.{Entry}
use Rattle.letter_types.specs.declared.entries.Letter.{Letter}
use Rattle.letter_types.specs.declared.entries.Outgoing.{Outgoing}
use Rattle.pair_counters.specs.Numbers.{AllBelow}
use Rattle.tx_trees.specs.ScriptData.{ScriptData}
use Rattle.tx_trees.specs.Valid.{IsValid}
use Rattle.world_model.specs.AllApt.{AllApt, WasApt}
use Rattle.world_model.specs.Counts.{Each}
use Rattle.world_model.specs.Keeping.{KeepingNode, is_apt_brought}
use Rattle.world_model.specs.Runs.{IsStepRun, keeping_in, node_in}
use Rattle.world_model.specs.Strict.{is_core_apt}
use Rattle.world_model.specs.Timely.{AllTimely, WasTimely}
use Rattle.advance_laws.specs.Balance.{IsBalanced, MOST_COUNTED}
use Rattle.advance_laws.specs.Given.{IsGivenAnew, greatest_given}
use Rattle.advance_laws.specs.Phases.{Stage}
use Rattle.advance_laws.specs.Quiet.{IsGivenInQuiet}
use Rattle.advance_laws.proofs.governed.Advancing.{IsAdvancing}
use Rattle.advance_laws.proofs.counting.Balance.{apt_parts, counts_are_small}
use Rattle.advance_laws.proofs.phases.Shows.{given_in_quiet}
use Rattle.run_laws.proofs.each_tree.EveryApt.{all_apt as every_apt, governed, lawful as every_lawful}
use Rattle.script_parts.specs.Counts.{is_lossy}
use Rattle.world_model.specs.Epochs.{is_core_timely}

-- A letter that was apt came in time: a Wake always does, and any other letter brings itself.
timely_by : (s : ScriptData) (p : ℕ) (n : KeepingNode) (l : Letter) (b : Body) → l.body ≡ b → is_apt_brought s p n (brought n.kept l b) ≡ true
    → is_core_timely s n.core b ≡ true
timely_by s p n l (Wake t k) is apt = refl
timely_by s p n l _ is apt =
    let parts = and_parts (l.to.0 == p) (is_core_apt s p n.core l) apt in
    ap (is_core_timely s n.core) (sym is) ∙ (apt_parts s p n.core l parts.1).1

was_timely : (s : ScriptData) (past : List Entry) (e : Entry) → WasApt s past e → WasTimely s past e
was_timely s past e apt lt = timely_by s e.actor.0 (keeping_in s past e.actor.0) e.took e.took.body refl (apt lt)

timely_of : (s : ScriptData) (past : List Entry) → AllApt s past → AllTimely s past
timely_of s [] apt = tt
timely_of s (e ∷ past) apt = (was_timely s past e apt.0, timely_of s past apt.1)

-- in every run
pub every_in_time : (s : ScriptData) (past : List Entry) → IsValid s → IsStepRun s past → AllTimely s past
every_in_time s past valid run = timely_of s past (every_apt s past valid run)

pub balanced_run : (s : ScriptData) (past : List Entry) → IsValid s → IsStepRun s past → IsBalanced s past
balanced_run s past valid run = (governed s valid).balanced past run (every_apt s past valid run)

pub counts_small : (s : ScriptData) (past : List Entry) → IsValid s → IsStepRun s past → (p : ℕ) → p < s.nodes
    → AllBelow (MOST_COUNTED * length past + 1) (node_in s past p).counts
counts_small s past valid run p lt = counts_are_small s past p valid lt

pub given_run : (s : ScriptData) (past : List Entry) (e : Entry) → IsValid s → is_lossy s ≡ false → IsStepRun s (e ∷ past)
    → Each (λ (o : Outgoing). IsGivenInQuiet s past o.body) e.sent
given_run s past e valid keeps run = given_in_quiet s past e (every_lawful s valid keeps) run (every_apt s (e ∷ past) valid run)

-- advancements are as they should be, and a version is told that was told before, or the next one, in quiet
pub advancing_run : (s : ScriptData) (past : List Entry) → IsValid s → IsStepRun s past → IsAdvancing s past
advancing_run s past valid run = (governed s valid).advancing past run (every_apt s past valid run)

pub anew_run : (s : ScriptData) (past : List Entry) (e : Entry) → IsValid s → IsStepRun s (e ∷ past)
    → Each (λ (o : Outgoing). IsGivenAnew s past o.body) e.sent
anew_run s past e valid run = (governed s valid).anew past e run (every_apt s (e ∷ past) valid run)

-- an entry that has an act leaves what was given
pub acted_run : (g : Stage) (s : ScriptData) (past : List Entry) (e : Entry) → IsValid s → IsStepRun s (e ∷ past) → (e.acts ≡ [] → ⊥)
    → greatest_given g (e ∷ past) ≡ greatest_given g past
acted_run g s past e valid run acts = (governed s valid).acted g past e run (every_apt s (e ∷ past) valid run) acts
