-- A core does each subtransaction of an update or read transaction that it is asked for, unless a lock is in the way:
-- then it defers it for that.
use Rattle.std.proofs.Common.{◌≡◌, ℕ, ◌<◌, ◌||◌, Bool, true, false, not, List, [], ◌∷◌, reverse, refl, sym, ap, subst, ◌∙◌, Option, Some, None}
use Rattle.std.specs.Prelude.{if◌then◌else◌, is_some, map, nat_lt}
use Rattle.std.specs.List.{list_any}
use Rattle.tv_base.specs.declared.numbers.ItemNo.{ItemNo}
use Rattle.tv_base.specs.declared.numbers.SubNo.{SubNo}
use Rattle.tv_base.specs.declared.numbers.TreeNo.{TreeNo}
use Rattle.tv_base.specs.declared.numbers.Version.{Version}
use Rattle.letter_types.specs.declared.acts.Act.{Act}
use Rattle.letter_types.specs.declared.acts.Act.TheVariants as acts
use Rattle.letter_types.specs.declared.bodies.Body.{Body}
use Rattle.letter_types.specs.declared.bodies.Body.TheVariants.{Root, Sub as SubLetter}
use Rattle.letter_types.specs.declared.entries.Entry.{Entry}
use Rattle.letter_types.specs.declared.votes.Cause.{Cause}
use Rattle.letter_types.specs.declared.votes.Cause.TheVariants.{Conflict}
use Rattle.nc_locks.specs.declared.modes.Met.{Met}
use Rattle.nc_locks.specs.declared.modes.Mode.{Mode}
use Rattle.nc_locks.specs.Locks.{Wanted, marks_on, met_in}
use Rattle.script_parts.specs.Wants.{mode_wanted, wanted_by}
use Rattle.script_parts.specs.Counts.{has_strict}
use Rattle.script_parts.specs.ScriptData.{ScriptData, node_of, ops_of, reads, updates}
use Rattle.script_parts.specs.Valid.{IsValid}
use Rattle.script_parts.specs.declared.parts.SubOp.{SubOp}
use Rattle.script_parts.specs.declared.parts.TreeKind.{TreeKind}
use Rattle.script_parts.specs.declared.parts.TreeKind.TheVariants.{Update, Read, Strict}
use Rattle.board_rules.specs.Histories.{Place, does, places_of}
use Rattle.board_rules.specs.Right.{IsDoneOrParked, in_way_of, parking_for, parkings}
use Rattle.board_rules.specs.Stands.{conflict_of}
use Rattle.board_rules.proofs.NoVotes.{AreMarking, AreNoVotes, none_in_way, updates_mark}
use Rattle.world_model.specs.Core.{Core}
use Rattle.world_model.specs.Named.{tree_kind_at}
use Rattle.world_model.specs.Reads.{gets}
use Rattle.world_model.specs.Runs.{IsStepRun, keeping_in}
use Rattle.world_model.specs.Strict.{CoreKeeping, core_by_kind, core_keeping, core_row, is_born_now, kept_by_kind, meets, parked, parked_if, root_waiting}
use Rattle.world_model.specs.Votes.{conflict_by}
use Rattle.tree_laws.specs.Keeping.{Holds}
use Rattle.tree_laws.proofs.conflicts.Holding.{met_holds}
use Rattle.tree_laws.proofs.conflicts.RunConflicts.{runs_meet_conflicts}
use Rattle.tree_laws.proofs.kept.Parkings.{done_here, kind_reads_by, kind_updates_by, row_parks, turned_does, turned_parkings}

-- What a subtransaction of an update tree meets at its node is what is in its way.
marking_needed : (os : List SubOp) → AreMarking os → marks_on (map (λ (o : SubOp). o.item) os) ≡ wanted_by os
marking_needed [] all = refl
marking_needed (o ∷ os) all =
    ap (λ (m : Mode). (o.item, m) ∷ marks_on (map (λ (q : SubOp). q.item) os)) (sym all.0)
    ∙ ap (λ (ws : Wanted). (o.item, mode_wanted o.deed) ∷ ws) (marking_needed os all.1)

pub meets_way : (s : ScriptData) (past : List Entry) (p : ℕ) (t : TreeNo) (k : SubNo) → IsValid s → IsStepRun s past → p < s.nodes
    → node_of s t.0 k.0 ≡ p → updates s t.0 ≡ true → (has_strict s ≡ false → AreNoVotes (places_of (reverse past)))
    → conflict_by (meets s t (ops_of s t.0 k.0) (keeping_in s past p).core) ≡ conflict_of s (places_of (reverse past)) p t.0 (ops_of s t.0 k.0)
meets_way s past p t k valid run lt home up quiet = by (has_strict s) refl where
  by : (b : Bool) → has_strict s ≡ b
      → conflict_by (met_in t (if b then marks_on (map (λ (o : SubOp). o.item) (ops_of s t.0 k.0)) else []) (keeping_in s past p).core.locks)
      ≡ conflict_of s (places_of (reverse past)) p t.0 (ops_of s t.0 k.0)
  by true is =
      ap (λ (ws : Wanted). conflict_by (met_in t ws (keeping_in s past p).core.locks))
      (marking_needed (ops_of s t.0 k.0) (updates_mark s t.0 k.0 valid up))
      ∙ runs_meet_conflicts s past p t k is valid run lt home
  by false is = sym (none_in_way s (places_of (reverse past)) p t.0 k.0 valid up (quiet is))

-- The tree that is in the way holds an item against marks.
way_met : (s : ScriptData) (t : TreeNo) (ops : List SubOp) (c : Core) (r : Option Met) (x : ItemNo) (u : TreeNo) → meets s t ops c ≡ r
    → conflict_by r ≡ Some (Conflict x u) → Holds c u
way_met s t ops c None x u met is = absurd (cc is)
way_met s t ops c (Some m) x u met is = let same : m.holder ≡ u = cc is in subst (Holds c) same (met_holds s t ops c m met)

way_by : (s : ScriptData) (past : List Entry) (p : ℕ) (t : TreeNo) (k : SubNo) (x : ItemNo) (u : TreeNo) (b : Bool) → updates s t.0 ≡ b
    → IsValid s → IsStepRun s past → p < s.nodes → node_of s t.0 k.0 ≡ p
    → (has_strict s ≡ false → AreNoVotes (places_of (reverse past)))
    → (if b then conflict_of s (places_of (reverse past)) p t.0 (ops_of s t.0 k.0) else None) ≡ Some (Conflict x u)
    → Holds (keeping_in s past p).core u
way_by s past p t k x u true up valid run lt home quiet is =
    let c : Core = (keeping_in s past p).core in
    way_met s t (ops_of s t.0 k.0) c (meets s t (ops_of s t.0 k.0) c) x u refl (meets_way s past p t k valid run lt home up quiet ∙ is)
way_by s past p t k x u false up valid run lt home quiet is = absurd (cc is)

pub way_holds : (s : ScriptData) (past : List Entry) (p : ℕ) (t : TreeNo) (k : SubNo) (x : ItemNo) (u : TreeNo) → IsValid s
    → IsStepRun s past → p < s.nodes → node_of s t.0 k.0 ≡ p → (has_strict s ≡ false → AreNoVotes (places_of (reverse past)))
    → in_way_of s (places_of (reverse past)) p t.0 k.0 ≡ Some (Conflict x u) → Holds (keeping_in s past p).core u
way_holds s past p t k x u valid run lt home quiet is = way_by s past p t k x u (updates s t.0) refl valid run lt home quiet is

abbrev pub MeetsWay : ScriptData → List Place → ℕ → Core → TreeNo → SubNo → Type 0
MeetsWay s xs p c t k =
    updates s t.0 ≡ true → conflict_by (meets s t (ops_of s t.0 k.0) c) ≡ conflict_of s xs p t.0 (ops_of s t.0 k.0)

way_of : (s : ScriptData) (xs : List Place) (p t k : ℕ) (cause : Option Cause) → updates s t ≡ true
    → conflict_of s xs p t (ops_of s t k) ≡ cause → in_way_of s xs p t k ≡ cause
way_of s xs p t k cause up is = rw up is

no_way : (s : ScriptData) (xs : List Place) (p t k : ℕ) → updates s t ≡ false → in_way_of s xs p t k ≡ None
no_way s xs p t k up = rw up refl

-- A subtransaction is done, where nothing is in its way; or it is parked for that; or it is of a tree that doesn't commute.
if_done : (s : ScriptData) (xs : List Place) (p : ℕ) (t : TreeNo) (k : SubNo) (did : List Act) → in_way_of s xs p t.0 k.0 ≡ None
    → list_any (does t.0 k.0) did ≡ true → parkings did ≡ [] → IsDoneOrParked s xs p t k did
if_done s xs p t k did free is none = record {
  done = λ c. is ∙ sym (ap (λ (o : Option Cause). not (is_some o)) free);
  parked = none ∙ sym (ap (parking_for t k) free);
}

if_parked : (s : ScriptData) (xs : List Place) (p : ℕ) (t : TreeNo) (k : SubNo) (raises : Bool) (v : Version) (m : Met) (c : Core)
    → in_way_of s xs p t.0 k.0 ≡ conflict_by (Some m) → IsDoneOrParked s xs p t k (parked t k raises v m c).acts
if_parked s xs p t k raises v m c way = record {
  done = λ commuting.
      turned_does t.0 k.0 raises v.0 (acts.Parked t k m.item m.holder ∷ []) ∙ sym (ap (λ (o : Option Cause). not (is_some o)) way);
  parked = turned_parkings raises v.0 (acts.Parked t k m.item m.holder ∷ []) ∙ sym (ap (parking_for t k) way);
}

not_commuting : (a b : Bool) → a ≡ false → b ≡ false → (a || b) ≡ true → ⊥
not_commuting true b u r is = cc u
not_commuting false true u r is = cc r
not_commuting false false u r is = cc is

if_other : (s : ScriptData) (xs : List Place) (p : ℕ) (t : TreeNo) (k : SubNo) (did : List Act) → updates s t.0 ≡ false
    → reads s t.0 ≡ false → parkings did ≡ [] → IsDoneOrParked s xs p t k did
if_other s xs p t k did up reading none = record {
  done = λ c. absurd (not_commuting (updates s t.0) (reads s t.0) up reading c);
  parked = none ∙ sym (ap (parking_for t k) (no_way s xs p t.0 k.0 up));
}

-- A letter that isn't kept.
meets_none : (t : TreeNo) (k : SubNo) (raises : Bool) (v : Version) (r : Option Met) (c : Core) → parked_if t k raises v r c ≡ None
    → conflict_by r ≡ None
meets_none t k raises v None c is = refl
meets_none t k raises v (Some m) c is = absurd (cc is)

root_does : (s : ScriptData) (xs : List Place) (p from : ℕ) (t : TreeNo) (kind : Option TreeKind) (c : Core) → tree_kind_at s t.0 ≡ kind
    → kept_by_kind s c t (Root t) kind ≡ None → MeetsWay s xs p c t (record { 0 = 0 })
    → parkings (core_by_kind s p from t (Root t) kind c).acts ≡ []
    → IsDoneOrParked s xs p t (record { 0 = 0 }) (core_by_kind s p from t (Root t) kind c).acts
root_does s xs p from t (Some Update) c is kept way none =
    let up : updates s t.0 ≡ true = kind_updates_by s t.0 (Some Update) is in
    let k : SubNo = record { 0 = 0 } in
    if_done s xs p t k (core_by_kind s p from t (Root t) (Some Update) c).acts
    (way_of s xs p t.0 0 None up
    (sym (way up) ∙ meets_none t k false c.node.turns.update (meets s t (ops_of s t.0 0) c) c kept))
    (done_here t k []) none
root_does s xs p from t (Some Read) c is kept way none =
    let k : SubNo = record { 0 = 0 } in
    if_done s xs p t k (core_by_kind s p from t (Root t) (Some Read) c).acts
    (no_way s xs p t.0 0 (kind_updates_by s t.0 (Some Read) is))
    (done_here t k (gets c.node.turns.read (ops_of s t.0 0) c.node.items)) none
root_does s xs p from t (Some Strict) c is kept way none =
    if_other s xs p t (record { 0 = 0 }) (core_by_kind s p from t (Root t) (Some Strict) c).acts
    (kind_updates_by s t.0 (Some Strict) is) (kind_reads_by s t.0 (Some Strict) is) none
root_does s xs p from t None c is kept way none =
    if_other s xs p t (record { 0 = 0 }) (core_by_kind s p from t (Root t) None c).acts
    (kind_updates_by s t.0 None is) (kind_reads_by s t.0 None is) none

sub_does : (s : ScriptData) (xs : List Place) (p from : ℕ) (t : TreeNo) (k : SubNo) (v : Version) (kind : Option TreeKind) (c : Core)
    → tree_kind_at s t.0 ≡ kind → kept_by_kind s c t (SubLetter t k v) kind ≡ None → MeetsWay s xs p c t k
    → parkings (core_by_kind s p from t (SubLetter t k v) kind c).acts ≡ []
    → IsDoneOrParked s xs p t k (core_by_kind s p from t (SubLetter t k v) kind c).acts
sub_does s xs p from t k v (Some Update) c is kept way none =
    let up : updates s t.0 ≡ true = kind_updates_by s t.0 (Some Update) is in
    let raises = nat_lt c.node.turns.update.0 v.0 in
    if_done s xs p t k (core_by_kind s p from t (SubLetter t k v) (Some Update) c).acts
    (way_of s xs p t.0 k.0 None up (sym (way up) ∙ meets_none t k raises v (meets s t (ops_of s t.0 k.0) c) c kept))
    (turned_does t.0 k.0 raises v.0 (acts.Did t k [] ∷ []) ∙ done_here t k []) none
sub_does s xs p from t k v (Some Read) c is kept way none =
    if_done s xs p t k (core_by_kind s p from t (SubLetter t k v) (Some Read) c).acts
    (no_way s xs p t.0 k.0 (kind_updates_by s t.0 (Some Read) is))
    (done_here t k (gets v (ops_of s t.0 k.0) c.node.items)) none
sub_does s xs p from t k v (Some Strict) c is kept way none =
    if_other s xs p t k (core_by_kind s p from t (SubLetter t k v) (Some Strict) c).acts
    (kind_updates_by s t.0 (Some Strict) is) (kind_reads_by s t.0 (Some Strict) is) none
sub_does s xs p from t k v None c is kept way none =
    if_other s xs p t k (core_by_kind s p from t (SubLetter t k v) None c).acts
    (kind_updates_by s t.0 None is) (kind_reads_by s t.0 None is) none

-- A letter that is kept.
parks : (s : ScriptData) (xs : List Place) (p : ℕ) (t : TreeNo) (k : SubNo) (raises : Bool) (v : Version) (r : Option Met) (c : Core)
    (kept : CoreKeeping) → in_way_of s xs p t.0 k.0 ≡ conflict_by r → parked_if t k raises v r c ≡ Some kept → IsDoneOrParked s xs p t k kept.acts
parks s xs p t k raises v None c kept way is = absurd (cc is)
parks s xs p t k raises v (Some m) c kept way is =
    let same : parked t k raises v m c ≡ kept = cc is in
    subst (λ (x : CoreKeeping). IsDoneOrParked s xs p t k x.acts) same (if_parked s xs p t k raises v m c way)

waits : (s : ScriptData) (xs : List Place) (p : ℕ) (t : TreeNo) (born : Bool) (c : Core) (kept : CoreKeeping) → updates s t.0 ≡ false
    → reads s t.0 ≡ false → (if born then None else Some (root_waiting t c)) ≡ Some kept → IsDoneOrParked s xs p t (record { 0 = 0 }) kept.acts
waits s xs p t true c kept up reading is = absurd (cc is)
waits s xs p t false c kept up reading is =
    let same : root_waiting t c ≡ kept = cc is in
    subst (λ (x : CoreKeeping). IsDoneOrParked s xs p t (record { 0 = 0 }) x.acts) same
    (if_other s xs p t (record { 0 = 0 }) (root_waiting t c).acts up reading refl)

root_keeps : (s : ScriptData) (xs : List Place) (p : ℕ) (t : TreeNo) (kind : Option TreeKind) (c : Core) (kept : CoreKeeping)
    → tree_kind_at s t.0 ≡ kind → kept_by_kind s c t (Root t) kind ≡ Some kept → MeetsWay s xs p c t (record { 0 = 0 })
    → IsDoneOrParked s xs p t (record { 0 = 0 }) kept.acts
root_keeps s xs p t (Some Update) c kept is keeps way =
    let up : updates s t.0 ≡ true = kind_updates_by s t.0 (Some Update) is in
    let met = meets s t (ops_of s t.0 0) c in
    parks s xs p t (record { 0 = 0 }) false c.node.turns.update met c kept (way_of s xs p t.0 0 (conflict_by met) up (sym (way up))) keeps
root_keeps s xs p t (Some Strict) c kept is keeps way =
    waits s xs p t (is_born_now c.node) c kept (kind_updates_by s t.0 (Some Strict) is) (kind_reads_by s t.0 (Some Strict) is) keeps
root_keeps s xs p t (Some Read) c kept is keeps way = absurd (cc keeps)
root_keeps s xs p t None c kept is keeps way = absurd (cc keeps)

sub_keeps : (s : ScriptData) (xs : List Place) (p : ℕ) (t : TreeNo) (k : SubNo) (v : Version) (kind : Option TreeKind) (c : Core)
    (kept : CoreKeeping) → tree_kind_at s t.0 ≡ kind → kept_by_kind s c t (SubLetter t k v) kind ≡ Some kept → MeetsWay s xs p c t k
    → IsDoneOrParked s xs p t k kept.acts
sub_keeps s xs p t k v (Some Update) c kept is keeps way =
    let up : updates s t.0 ≡ true = kind_updates_by s t.0 (Some Update) is in
    let met = meets s t (ops_of s t.0 k.0) c in
    parks s xs p t k (nat_lt c.node.turns.update.0 v.0) v met c kept (way_of s xs p t.0 k.0 (conflict_by met) up (sym (way up))) keeps
sub_keeps s xs p t k v (Some Strict) c kept is keeps way = absurd (cc keeps)
sub_keeps s xs p t k v (Some Read) c kept is keeps way = absurd (cc keeps)
sub_keeps s xs p t k v None c kept is keeps way = absurd (cc keeps)

-- So a letter is answered by its row, or by being kept.
abbrev pub Answers : ScriptData → List Place → ℕ → Body → List Act → Type 0
Answers s xs p (Root t) did = IsDoneOrParked s xs p t (record { 0 = 0 }) did
Answers s xs p (SubLetter t k v) did = IsDoneOrParked s xs p t k did
Answers s xs p _ did = parkings did ≡ []

abbrev pub AskedMeets : ScriptData → List Place → ℕ → Core → Body → Type 0
AskedMeets s xs p c (Root t) = MeetsWay s xs p c t (record { 0 = 0 })
AskedMeets s xs p c (SubLetter t k v) = MeetsWay s xs p c t k
AskedMeets s xs p c _ = Unit {0}

pub row_answers : (s : ScriptData) (xs : List Place) (p from : ℕ) (body : Body) (c : Core) → core_keeping s c body ≡ None
    → AskedMeets s xs p c body → Answers s xs p body (core_row s p c from body).acts
row_answers s xs p from (Root t) c now way =
    root_does s xs p from t (tree_kind_at s t.0) c refl now way (row_parks s p from (Root t) c)
row_answers s xs p from (SubLetter t k v) c now way =
    sub_does s xs p from t k v (tree_kind_at s t.0) c refl now way (row_parks s p from (SubLetter t k v) c)
row_answers s xs p from body c now way = row_parks s p from body c

pub keeping_answers : (s : ScriptData) (xs : List Place) (p : ℕ) (body : Body) (c : Core) (k : CoreKeeping) → core_keeping s c body ≡ Some k
    → AskedMeets s xs p c body → Answers s xs p body k.acts
keeping_answers s xs p (Root t) c k keeps way = root_keeps s xs p t (tree_kind_at s t.0) c k refl keeps way
keeping_answers s xs p (SubLetter t j v) c k keeps way = sub_keeps s xs p t j v (tree_kind_at s t.0) c k refl keeps way
keeping_answers s xs p _ c k keeps way = absurd (cc keeps)
