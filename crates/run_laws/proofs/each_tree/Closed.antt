-- If a version is shown or swept to, its transactions are complete, and none comes later, in every run of every valid
-- script.
use Rattle.std.proofs.Common.{◌≡◌, ◌⊎◌, inl, inr, ℕ, ◌<◌, ◌≤◌, Bool, true, false, not, List, ◌∷◌, ◌++◌, length, reverse, refl, sym, ap, ◌∙◌, arith, Option, Some, None, []}
use Rattle.std.specs.Prelude.{slice_get}
use Rattle.tv_base.specs.declared.numbers.Version.{Version}
use Rattle.letter_types.specs.declared.bodies.Body.{Body}
use Rattle.letter_types.specs.declared.bodies.Body.TheVariants.{Go, Order, Show, Sweep}
use Rattle.letter_types.specs.declared.bodies.What.TheVariants as whats
use Rattle.letter_types.specs.declared.entries.Entry.{Entry}
use Rattle.letter_types.specs.declared.entries.Letter.{Letter}
use Rattle.tx_trees.specs.ScriptData.{ScriptData, is_read}
use Rattle.tx_trees.specs.Valid.{IsValid}
use Rattle.tx_trees.specs.declared.parts.Tree.{Tree}
use Rattle.board_rules.specs.Histories.{places_at, places_of, version_in}
use Rattle.board_rules.proofs.Places.{places_more}
use Rattle.world_model.specs.Counts.{Each}
use Rattle.world_model.specs.Runs.{IsStepRun, in_flight}
use Rattle.world_model.proofs.Every.{each_map}
use Rattle.world_model.proofs.Scripts.{get_below}
use Rattle.advance_laws.specs.Phases.{ShowStage, SweepStage}
use Rattle.advance_laws.proofs.governed.Advancing.{IsOrderGiven, given_rises}
use Rattle.run_laws.specs.Shown.{IsBackedBy, IsClosedBy, NoReadCame, NoWriterCame, ReadsAreWhole, WritersAreWhole}
use Rattle.run_laws.proofs.each_tree.InTime.{advancing_run}
use Rattle.run_laws.proofs.each_tree.Reached.{born_above, now_below, whole_run}
use Rattle.run_laws.proofs.each_tree.Wholes.{born_split, born_with, is_of_kind}

pub read_there : (s : ScriptData) (t : ℕ) (found : Option Tree) → slice_get s.trees t ≡ found
    → (elim found [ Some tree ↦ is_read tree.kind | None ↦ false ]) ≡ true → t < length s.trees
read_there s t None is read = absurd (cc read)
read_there s t (Some tree) is read = get_below s.trees t tree is

-- How far trees are whole where such a letter is in flight.
abbrev Bounds : ScriptData → List Entry → Body → Type 0
Bounds s past (Show v) = v.0 < now_below false s past
Bounds s past (Sweep v) = v.0 ≤ now_below true s past
Bounds s past (Order e whats.Show v) = v.0 < now_below false s past
Bounds s past (Order e whats.Sweep v) = v.0 ≤ now_below true s past
Bounds s past Go = Unit {0}
Bounds s past _ = Unit {0}

bounds_of : (s : ScriptData) (past : List Entry) (b : Body) → IsOrderGiven past b → Bounds s past b
bounds_of s past (Show v) of = omega (arith, of)
bounds_of s past (Sweep v) of = of
bounds_of s past (Order e whats.Turn v) of = tt
bounds_of s past (Order e whats.Show v) of = omega (arith, of)
bounds_of s past (Order e whats.Sweep v) of = of
bounds_of s past Go of = tt
bounds_of s past _ of = tt

-- each letter in flight
all_bounds : (s : ScriptData) (past : List Entry) → IsValid s → IsStepRun s past → Each (λ (l : Letter). Bounds s past l.body) (in_flight s past)
all_bounds s past valid run =
    each_map (λ (l : Letter). IsOrderGiven past l.body) (λ (l : Letter). Bounds s past l.body) (in_flight s past)
    (λ l of. bounds_of s past l.body of) (advancing_run s past valid run).orders

-- so the trees after it are whole
writers_whole : (s : ScriptData) (past : List Entry) (v : Version) → IsValid s → IsStepRun s past → v.0 < now_below false s past
    → WritersAreWhole s (reverse past) v.0
writers_whole s past v valid run bound = λ t w there writes born le.
    whole_run false s past valid run t w there (ap not writes) born (omega (arith, bound, le))

reads_whole : (s : ScriptData) (past : List Entry) (v : Version) → IsValid s → IsStepRun s past → v.0 ≤ now_below true s past
    → ReadsAreWhole s (reverse past) v.0
reads_whole s past v valid run bound = λ t w read born lt.
    whole_run true s past valid run t w (read_there s t (slice_get s.trees t) refl read) read born (omega (arith, bound, lt))

backed : (s : ScriptData) (past : List Entry) (b : Body) → IsValid s → IsStepRun s past → Bounds s past b → IsBackedBy s (reverse past) b
backed s past (Show v) valid run bound = writers_whole s past v valid run bound
backed s past (Sweep v) valid run bound = reads_whole s past v valid run bound
backed s past (Order e whats.Turn v) valid run bound = tt
backed s past (Order e whats.Show v) valid run bound = writers_whole s past v valid run bound
backed s past (Order e whats.Sweep v) valid run bound = reads_whole s past v valid run bound
backed s past Go valid run bound = tt
backed s past _ valid run bound = tt

pub shown_is_backed : (s : ScriptData) (past : List Entry) → IsValid s → IsStepRun s past
    → Each (λ (l : Letter). IsBackedBy s (reverse past) l.body) (in_flight s past)
shown_is_backed s past valid run =
    each_map (λ (l : Letter). Bounds s past l.body) (λ (l : Letter). IsBackedBy s (reverse past) l.body) (in_flight s past)
    (λ l bound. backed s past l.body valid run bound) (all_bounds s past valid run)

-- What comes later: it never falls.
pub rises : (kind : Bool) (s : ScriptData) (past : List Entry) (e : Entry) → now_below kind s past ≤ now_below kind s (e ∷ past)
rises false s past e = omega (arith, given_rises ShowStage e past)
rises true s past e = given_rises SweepStage e past

pub rises_on : (kind : Bool) (s : ScriptData) (past later : List Entry) → IsValid s → IsStepRun s (later ++ past)
    → now_below kind s past ≤ now_below kind s (later ++ past)
rises_on kind s past [] valid run = omega arith
rises_on kind s past (e ∷ later) valid run =
    omega (arith, rises_on kind s past later valid run.1, rises kind s (later ++ past) e)

came_by : (kind : Bool) (s : ScriptData) (past later : List Entry) (e : Entry) (t : ℕ) (w : Version) → IsValid s
    → IsStepRun s (e ∷ later ++ past) → is_of_kind kind s t ≡ true → w.0 < now_below kind s past
    → (born_with (later ++ past) t ≡ Some w → born_with past t ≡ Some w)
    → (born_with (later ++ past) t ≡ Some w) ⊎ (version_in t (places_at e) ≡ Some w) → born_with past t ≡ Some w
came_by kind s past later e t w valid run of lt before (inl old) = before old
came_by kind s past later e t w valid run of lt before (inr new) =
    absurd (omega (
      arith,
      lt,
      rises_on kind s past later valid run.1,
      born_above kind s (later ++ past) e t w valid run of new,
    ))

-- no tree of the kind comes to a version below it
pub none_came : (kind : Bool) (s : ScriptData) (past later : List Entry) (t : ℕ) (w : Version) → IsValid s → IsStepRun s (later ++ past)
    → is_of_kind kind s t ≡ true → w.0 < now_below kind s past → born_with (later ++ past) t ≡ Some w → born_with past t ≡ Some w
none_came kind s past [] t w valid run of lt born = born
none_came kind s past (e ∷ later) t w valid run of lt born =
    came_by kind s past later e t w valid run of lt (λ old. none_came kind s past later t w valid run.1 of lt old)
    (born_split t (places_of (reverse (later ++ past))) (places_at e) w (sym (ap (version_in t) (places_more e (later ++ past))) ∙ born))

no_writer : (s : ScriptData) (past later : List Entry) (v : Version) → IsValid s → IsStepRun s (later ++ past) → v.0 < now_below false s past
    → NoWriterCame s (reverse past) (reverse (later ++ past)) v.0
no_writer s past later v valid run bound = λ t w there writes born le.
    none_came false s past later t w valid run (ap not writes) (omega (arith, bound, le)) born

no_read : (s : ScriptData) (past later : List Entry) (v : Version) → IsValid s → IsStepRun s (later ++ past) → v.0 ≤ now_below true s past
    → NoReadCame s (reverse past) (reverse (later ++ past)) v.0
no_read s past later v valid run bound = λ t w read born lt. none_came true s past later t w valid run read (omega (arith, bound, lt)) born

closed_by : (s : ScriptData) (past later : List Entry) (b : Body) → IsValid s → IsStepRun s (later ++ past) → Bounds s past b
    → IsClosedBy s (reverse past) (reverse (later ++ past)) b
closed_by s past later (Show v) valid run bound = no_writer s past later v valid run bound
closed_by s past later (Sweep v) valid run bound = no_read s past later v valid run bound
closed_by s past later (Order e whats.Turn v) valid run bound = tt
closed_by s past later (Order e whats.Show v) valid run bound = no_writer s past later v valid run bound
closed_by s past later (Order e whats.Sweep v) valid run bound = no_read s past later v valid run bound
closed_by s past later Go valid run bound = tt
closed_by s past later _ valid run bound = tt

pub run_before : (s : ScriptData) (past later : List Entry) → IsStepRun s (later ++ past) → IsStepRun s past
run_before s past [] run = run
run_before s past (e ∷ later) run = run_before s past later run.1

pub shown_is_closed : (s : ScriptData) (past later : List Entry) → IsValid s → IsStepRun s (later ++ past)
    → Each (λ (l : Letter). IsClosedBy s (reverse past) (reverse (later ++ past)) l.body) (in_flight s past)
shown_is_closed s past later valid run =
    each_map (λ (l : Letter). Bounds s past l.body) (λ (l : Letter). IsClosedBy s (reverse past) (reverse (later ++ past)) l.body) (in_flight s past)
    (λ l bound. closed_by s past later l.body valid run bound) (all_bounds s past valid (run_before s past later run))
