-- In runs of enabled messages, of every script: a node sees of its items what its own acts have made of them.
use Rattle.std.proofs.Common.{◌≡◌, ◌≢◌, ◌⊎◌, inl, inr, ℕ, ◌<◌, ◌≤◌, ◌==◌, ◌&&◌, max, Bool, true, false, not, List, [], ◌∷◌, ◌++◌, refl, sym, ap, subst, ◌∙◌, append_assoc, arith, Option, Some, None}
use Rattle.std.specs.Prelude.{if◌then◌else◌, fold, map, nat_le, nat_lt, slice_get}
use Rattle.std.specs.List.{AllByRecursion}
use Rattle.std.proofs.lemmas.Bool.{cases_eq}
use Rattle.std.proofs.lemmas.Bool.Decides.{nat_tests}
use Rattle.std.proofs.lemmas.List.{append-nil}
use Rattle.std.proofs.lemmas.List.Sums.{fold-append}
use Rattle.tv_base.proofs.Truths.{at_most}
use Rattle.tv_base.specs.declared.numbers.ItemNo.{ItemNo}
use Rattle.tv_base.specs.declared.numbers.TreeNo.{TreeNo}
use Rattle.tv_base.specs.declared.numbers.Version.{Version}
use Rattle.commute_ops.specs.declared.kinds.Kind.{Kind}
use Rattle.commute_ops.specs.declared.kinds.Kind.TheVariants as kinds
use Rattle.commute_ops.specs.declared.value.Value.{Value}
use Rattle.item_versions.specs.Item.{Held}
use Rattle.item_versions.specs.Table.{Table, item_in}
use Rattle.item_versions.specs.Window.{in_window}
use Rattle.item_versions.proofs.Window.{AllUpTo, in_window-low, up_to-more}
use Rattle.letter_types.specs.declared.acts.Act.{Act}
use Rattle.letter_types.specs.declared.acts.Act.TheVariants as acts
use Rattle.letter_types.specs.declared.bodies.Body.{Body}
use Rattle.letter_types.specs.declared.bodies.Body.TheVariants.{Root, Sub as SubLetter, Go, Decide, Sweep, Decided}
use Rattle.letter_types.specs.declared.bodies.What.TheVariants as whats
use Rattle.letter_types.specs.declared.entries.Entry.{Entry}
use Rattle.letter_types.specs.declared.entries.Letter.{Letter}
use Rattle.nc_locks.specs.declared.modes.Mode.TheVariants.{Hold}
use Rattle.nc_locks.specs.Locks.{lock_of}
use Rattle.script_parts.specs.ScriptData.{ScriptData, subs_at}
use Rattle.script_parts.specs.Valid.{IsOp, IsValid, OpAt, deed_fits}
use Rattle.script_parts.specs.declared.parts.Deed.{Deed}
use Rattle.script_parts.specs.declared.parts.Deed.TheVariants.{Apply, Get, Set, Draw}
use Rattle.script_parts.specs.declared.parts.ItemRow.{ItemRow}
use Rattle.script_parts.specs.declared.parts.SubOp.{SubOp}
use Rattle.script_parts.specs.declared.parts.TreeKind.TheVariants.{Strict}
use Rattle.world_model.specs.AllApt.{AllApt}
use Rattle.world_model.specs.Asked.{asked_version}
use Rattle.world_model.specs.Core.{Core}
use Rattle.world_model.specs.Counts.{one_if, tally}
use Rattle.world_model.specs.Decisions.{ops_at}
use Rattle.world_model.specs.Kept.{outstanding}
use Rattle.world_model.specs.Named.{is_named, is_new, is_timely}
use Rattle.world_model.specs.Node.{Node}
use Rattle.world_model.specs.Reads.{seen_in}
use Rattle.world_model.specs.Runs.{IsStepRun, keeping_in, node_in}
use Rattle.world_model.specs.Strict.{CoreKeeping, can_make_at, core_row, decides_near, is_core_apt, is_unheld}
use Rattle.world_model.proofs.Cases.{Case, Coordinates, Does, Keeps, NodeDoes, NodeKeeps, Submits, case}
use Rattle.world_model.proofs.Every.{each_map, each_none, node_kept}
use Rattle.world_model.proofs.Keepings.{of_kept}
use Rattle.board_rules.specs.Histories.{Place, places_at, version_in}
use Rattle.board_rules.specs.Worth.{first_value}
use Rattle.board_rules.proofs.Places.{places_more}
use Rattle.tree_laws.specs.Carried.{CarriesVersion}
use Rattle.tree_laws.specs.SeenAt.{seen_at}
use Rattle.tree_laws.proofs.decided.AptDecisions.{dated_here, letters_carry_versions, misdecided}
use Rattle.tree_laws.proofs.apt.AptItems.{Applies, Changes, Collects, Follows, Raises, Rests, Shows, Touches, core_changes}
use Rattle.tree_laws.proofs.apt.AptVersions.{DoneIn, before, is_right, is_version, still_by, version_is}
use Rattle.tree_laws.proofs.apt.AptWindows.{apt_timely, nodes_in_window}
use Rattle.tree_laws.proofs.loads.NodeLoads.{StrictTree, node_ops_fit, strict_there}
use Rattle.tree_laws.proofs.loads.Seen.{raised_low, start_shows}
use Rattle.tree_laws.proofs.histories.Turns.{work_version}
use Rattle.run_laws.specs.Newest.{IsNewest}
use Rattle.run_laws.specs.ValuesByActs.{SeesByActs, value_by_act, value_by_place}
use Rattle.run_laws.proofs.items.Newest.{AllNewest, AreHeldBy, WorksByVotes, agreed_here, commit_held, is_outstanding, newest_run}
use Rattle.run_laws.proofs.items.Overwritten.{AreTop, IsOfCommit}
use Rattle.run_laws.proofs.act_order.RowActs.{fold_lasting, is_lasting, keeping_lasts, lasting, lasting_acts, row_lasts}
use Rattle.run_laws.proofs.items.SeenRows.{IsCommit, IsReady, row_sees}
use Rattle.world_model.proofs.Epochs.{order_timely}
use Rattle.world_model.specs.Epochs.{is_core_timely}

-- Acts that don't last leave a value, and so do those of another node.
act_left : (s : ScriptData) (zs : List Place) (p x v : ℕ) (w : Value) (a : Act) → is_lasting a ≡ false → value_by_act s zs p x v w a ≡ w
act_left s zs p x v w (acts.Did t k values) none = absurd (cc none)
act_left s zs p x v w (acts.Applied t commit) none = absurd (cc none)
act_left s zs p x v w acts.Finished none = refl
act_left s zs p x v w _ none = refl

acts_lasting : (s : ScriptData) (zs : List Place) (p x v : ℕ) (w : Value) (xs : List Act)
    → fold (value_by_act s zs p x v) w xs ≡ fold (value_by_act s zs p x v) w (lasting xs)
acts_lasting s zs p x v w xs = fold_lasting (value_by_act s zs p x v) (act_left s zs p x v) w xs

abbrev placed : ℕ → List Act → List Place
placed q xs = map (λ (a : Act). record { node = q; act = a }) xs

own_places : (s : ScriptData) (zs : List Place) (p x v q : ℕ) (w : Value) (xs : List Act) → q ≡ p
    → fold (value_by_place s zs p x v) w (placed q xs) ≡ fold (value_by_act s zs p x v) w xs
own_places s zs p x v q w [] is = refl
own_places s zs p x v q w (a ∷ xs) is =
    let here : (q == p) ≡ true = grind (arith, nat_tests) in
    ap (λ (b : Bool). fold (value_by_place s zs p x v) (if b then value_by_act s zs p x v w a else w) (placed q xs)) here
    ∙ own_places s zs p x v q (value_by_act s zs p x v w a) xs is

other_places : (s : ScriptData) (zs : List Place) (p x v q : ℕ) (w : Value) (xs : List Act) → q ≢ p
    → fold (value_by_place s zs p x v) w (placed q xs) ≡ w
other_places s zs p x v q w [] ne = refl
other_places s zs p x v q w (a ∷ xs) ne =
    let other : (q == p) ≡ false = grind (arith, nat_tests) in
    ap (λ (b : Bool). fold (value_by_place s zs p x v) (if b then value_by_act s zs p x v w a else w) (placed q xs)) other
    ∙ other_places s zs p x v q w xs ne

-- The low version of a node never falls.
low_by : (s : ScriptData) (p : ℕ) (body : Body) (c : Core) (after : Node) → is_core_timely s c body ≡ true
    → Changes s p body c after.items after.turns → c.node.turns.low.0 ≤ after.turns.low.0
low_by s p body c after timely (Rests is turns) = omega (arith, ap (λ x. x.low.0) turns)
low_by s p body c after timely (Follows t k v letter is turns) =
    omega (arith, ap (λ x. x.low.0) turns, raised_low (nat_lt c.node.turns.update.0 v.0) v.0 c.node.turns)
low_by s p body c after timely (Raises v to is turns) =
    omega (arith, ap (λ x. x.low.0) turns, raised_low (nat_lt c.node.turns.update.0 v.0) v.0 c.node.turns)
low_by s p body c after timely (Touches t k one kind is turns) =
    let v : Version = asked_version c.node.turns.update body in
    omega (arith, ap (λ x. x.low.0) turns, raised_low (nat_lt c.node.turns.update.0 v.0) v.0 c.node.turns)
low_by s p body c after timely (Applies t v letter is turns) = omega (arith, ap (λ x. x.low.0) turns)
low_by s p body c after timely (Shows v to is turns) = omega (arith, ap (λ x. x.low.0) turns)
low_by s p body c after timely (Collects v to is turns) =
    let now = c.node.turns in
    let its : is_timely s c.node (Sweep v) ≡ true = order_timely s c body whats.Sweep v to timely in
    let le : now.low.0 ≤ v.0 = at_most now.low.0 v.0 (nat_le v.0 now.read.0 && nat_le v.0 now.update.0) its in
    omega (arith, ap (λ x. x.low.0) turns, le)

-- What is known where a node does a letter.
pub later_dated : (xs ys : List Place) (v : Version) (body : Body) → DoneIn xs v body → DoneIn (xs ++ ys) v body
later_dated xs ys v (Root t) is = still_by xs ys t.0 v is
later_dated xs ys v (SubLetter t k w) is = still_by xs ys t.0 w is
later_dated xs ys v Go is = tt
later_dated xs ys v _ is = tt

can_of : (a b c d e f g : Bool) → (a && (b && (c && d && (e && f && g)))) ≡ true → g ≡ true
can_of a b c d e f g is = grind arith

pub apt_can : (s : ScriptData) (p : ℕ) (c : Core) (l : Letter) → is_core_apt s p c l ≡ true → can_make_at s p c l.body ≡ true
apt_can s p c l apt =
    can_of _ (is_named s p l.from.0 l.body) (is_new s c.node l.body) (is_unheld l.body c.holds) (is_core_timely s c l.body)
    (decides_near s c.node l.body) (can_make_at s p c l.body) apt

-- a letter of a decision has its tree's version
same_version : (v : Version) → is_version (Some v) v ≡ true
same_version v = grind (arith, nat_tests)

well_decided : (xs : List Place) (body : Body) → CarriesVersion xs body → misdecided xs body ≡ 0
well_decided xs (Decide t v commit) is = ap (λ (o : Option Version). one_if (not (is_version o v))) is ∙ ap (λ (b : Bool). one_if (not b)) (same_version v)
well_decided xs (Decided t v) is = ap (λ (o : Option Version). one_if (not (is_version o v))) is ∙ ap (λ (b : Bool). one_if (not b)) (same_version v)
well_decided xs Go is = refl
well_decided xs _ is = refl

decision_version : (s : ScriptData) (past : List Entry) (e : Entry) (p : ℕ) (r : Letter) (t : TreeNo) (v : Version) → IsValid s → AllApt s past
    → IsStepRun s (e ∷ past) → Does s past e p r → r.body ≡ Decide t v true → version_in t.0 (before past) ≡ Some v
decision_version s past e p r t v valid apt run d is =
    let f : Letter → ℕ = λ l. misdecided (before past) l.body in
    let none : tally f (outstanding s past) ≡ 0 =
    each_none f (outstanding s past)
    (each_map (λ (l : Letter). CarriesVersion (before past) l.body) (λ (l : Letter). f l ≡ 0) (outstanding s past)
    (λ l carries. well_decided (before past) l.body carries) (letters_carry_versions s past valid apt run.1)) in
    let own : f r ≡ 0 = omega (arith, none, is_outstanding s past e p r run d f) in
    version_is (version_in t.0 (before past)) v
    (is_right (is_version (version_in t.0 (before past)) v) (ap (misdecided (before past)) (sym is) ∙ own))

-- operations of strict trees write or read
fits_commit : (kind : Kind) (d : Deed) → deed_fits Strict kind d ≡ true → IsOfCommit d
fits_commit kinds.Sum (Apply op) fits over = absurd (cc fits)
fits_commit kinds.Top (Apply op) fits over = absurd (cc fits)
fits_commit kinds.Bag (Apply op) fits over = absurd (cc fits)
fits_commit kind Get fits over = refl
fits_commit kind (Set n) fits over = absurd (cc over)
fits_commit kind (Draw n) fits over = absurd (cc over)

op_reads : (p : ℕ) (o : SubOp) (found : Option ItemRow) → OpAt Strict p o found → IsOfCommit o.deed
op_reads p o None fits = absurd fits
op_reads p o (Some row) fits = fits_commit row.kind o.deed fits.1

pub ops_read : (s : ScriptData) (p : ℕ) (os : List SubOp) → AllByRecursion (IsOp s.items Strict p) os
    → AllByRecursion (λ (o : SubOp). IsOfCommit o.deed) os
ops_read s p [] all = tt
ops_read s p (o ∷ os) all = (op_reads p o (slice_get s.items o.item.0) all.0, ops_read s p os all.1)

-- nothing newer is held of what a commit writes
held_top : (s : ScriptData) (past : List Entry) (p : ℕ) (t : TreeNo) (v : Version) (x : ItemNo) (h : Held)
    → (node_in s past p).turns.low.0 ≤ v.0 → version_in t.0 (before past) ≡ Some v
    → IsNewest s (before past) (node_in s past p) (lock_of t x Hold) → item_in x (node_in s past p).items ≡ Some h → AllUpTo v.0 h
held_top s past p t v x h le version n at =
    let same : n.version ≡ v = cc (n.born, version) in
    let is : n.version.0 ≡ v.0 = ap (λ (y : Version). y.0) same in
    up_to-more (max (node_in s past p).turns.low.0 n.version.0) v.0 h (omega (arith, le, is)) (n.most h at)

all_top : (s : ScriptData) (past : List Entry) (p : ℕ) (t : TreeNo) (v : Version) (os : List SubOp)
    → (node_in s past p).turns.low.0 ≤ v.0 → version_in t.0 (before past) ≡ Some v → AllNewest s past p
    → AreHeldBy t (keeping_in s past p).core.locks os → AreTop v os (node_in s past p).items
all_top s past p t v [] le version newest all = tt
all_top s past p t v (o ∷ os) le version newest all = (
  (λ over h at. held_top s past p t v o.item h le version (newest (lock_of t o.item Hold) (all.0 over) refl) at),
  all_top s past p t v os le version newest all.1,
)

commit_here : (s : ScriptData) (past : List Entry) (e : Entry) (p : ℕ) (r : Letter) (t : TreeNo) (v : Version) (ys : List Place)
    → WorksByVotes s past e p r → r.body ≡ Decide t v true
    → IsCommit s ((before past ++ places_at e) ++ ys) p (keeping_in s past p).core t v
commit_here s past e p r t v ys w is =
    let c : Core = (keeping_in s past p).core in
    let lt : p < s.nodes = w.does.brings.below in
    let it = agreed_here s past e p r t v w is in
    let version : version_in t.0 (before past) ≡ Some v = decision_version s past e p r t v w.valid w.apt.1 w.run w.does is in
    let within : in_window c.node.turns.low.0 v.0 ≡ true = ap (is_core_timely s c) (sym is) ∙ apt_timely s p c r w.does.brings.apt in
    let tree : StrictTree s t.0 = strict_there s t.0 it.0 in
    record {
      strict = it.0;
      version =
          version_is (version_in t.0 ((before past ++ places_at e) ++ ys)) v
          (still_by (before past ++ places_at e) ys t.0 v
          (still_by (before past) (places_at e) t.0 v (ap (λ (o : Option Version). is_version o v) version ∙ same_version v)));
      within = within;
      reads = rw tree.subs (ops_read s p (ops_at p tree.tree.subs) (node_ops_fit s t.0 p tree.tree Strict w.valid tree.at tree.kind));
      top =
          all_top s past p t v (ops_at p (subs_at s t.0)) (in_window-low c.node.turns.low.0 v.0 within) version
          (newest_run s past p w.valid w.apt.1 w.run.1 lt) (commit_held s past p t w.valid w.apt.1 w.run.1 lt it.0 it.1);
    }

ready_here : (s : ScriptData) (past : List Entry) (e : Entry) (p : ℕ) (r : Letter) (ys : List Place) → WorksByVotes s past e p r
    → IsReady s ((before past ++ places_at e) ++ ys) p (keeping_in s past p).core r.body
ready_here s past e p r ys w =
    let c : Core = (keeping_in s past p).core in
    let win = nodes_in_window s past p w.valid w.apt.1 w.run.1 w.does.brings.below in
    record {
      near = (win.held, win.items_near);
      dated =
          later_dated (before past ++ places_at e) ys (work_version s c r.body) r.body
          (dated_here s past e p r w.valid w.apt.1 w.run w.does);
      can = apt_can s p c r w.does.brings.apt;
      commits = λ t v is. commit_here s past e p r t v ys w is;
    }

-- What a node sees, also by the versions of a longer list of acts.
abbrev first_of : ScriptData → ℕ → Value
first_of s x = first_value (slice_get s.items x)

abbrev SeesOwnActs : ScriptData → List Entry → ℕ → Type 0
SeesOwnActs s past p = (ys : List Place) (x v : ℕ) (r : ItemRow) → slice_get s.items x ≡ Some r → r.node.0 ≡ p
    → (node_in s past p).turns.low.0 ≤ v
    → seen_at s past p x v ≡ Some (fold (value_by_place s (before past ++ ys) p x v) (first_of s x) (before past))

-- an entry's acts, after those before
value_then : (s : ScriptData) (past : List Entry) (e : Entry) (ys : List Place) (p x v : ℕ)
    → fold (value_by_place s ((before past ++ places_at e) ++ ys) p x v)
    (fold (value_by_place s (before past ++ (places_at e ++ ys)) p x v) (first_of s x) (before past)) (places_at e)
    ≡ fold (value_by_place s (before (e ∷ past) ++ ys) p x v) (first_of s x) (before (e ∷ past))
value_then s past e ys p x v =
    let xs : List Place = before past in
    let zs : List Place = (xs ++ places_at e) ++ ys in
    ap (λ (us : List Place). fold (value_by_place s zs p x v) (fold (value_by_place s us p x v) (first_of s x) xs) (places_at e))
    (sym (append_assoc xs (places_at e) ys))
    ∙ sym (fold-append (value_by_place s zs p x v) (first_of s x) xs (places_at e))
    ∙ ap (λ (us : List Place). fold (value_by_place s (us ++ ys) p x v) (first_of s x) us) (sym (places_more e past))

does_sees : (s : ScriptData) (past : List Entry) (e : Entry) (p : ℕ) (r : Letter) → WorksByVotes s past e p r → SeesOwnActs s past p
    → SeesOwnActs s (e ∷ past) p
does_sees s past e p r w old ys x v row at node low =
    let d = w.does in
    let c : Core = (keeping_in s past p).core in
    let after : Core = (core_row s p c r.from.0 r.body).state in
    let zs : List Place = (before past ++ places_at e) ++ ys in
    let value : Value = fold (value_by_place s (before past ++ (places_at e ++ ys)) p x v) (first_of s x) (before past) in
    let now : after.node.turns.low.0 ≤ v = omega (arith, low, ap (λ (y : Core). y.node.turns.low.0) d.core) in
    let grows : c.node.turns.low.0 ≤ after.node.turns.low.0 =
    low_by s p r.body c after.node (apt_timely s p c r d.brings.apt) (core_changes s p r.from.0 r.body c) in
    let le : c.node.turns.low.0 ≤ v = omega (arith, now, grows) in
    let item : ItemNo = record { 0 = x } in
    let u : Version = record { 0 = v } in
    let lasts : lasting e.acts ≡ lasting_acts s c r.body = ap lasting d.acts ∙ row_lasts s p r.from.0 r.body c in
    ap (λ (y : Core). seen_in u item y.node.items) d.core
    ∙ row_sees s zs p r.from.0 item u value r.body c (ready_here s past e p r ys w) le now (old (places_at e ++ ys) x v row at node le)
    ∙ ap (λ (y : Value). Some y)
    (ap (λ (xs : List Act). fold (value_by_act s zs p x v) value xs) (sym lasts)
    ∙ sym (acts_lasting s zs p x v value e.acts)
    ∙ sym (own_places s zs p x v e.actor.0 value e.acts d.brings.at)
    ∙ value_then s past e ys p x v)

-- a letter that is kept leaves the items and the low version
abbrev LeavesSeen : Core → CoreKeeping → Type 0
LeavesSeen c k = (k.state.node.items ≡ c.node.items) × (k.state.node.turns.low.0 ≡ c.node.turns.low.0)

keeps_sees : (s : ScriptData) (past : List Entry) (e : Entry) (p : ℕ) (r : Letter) (k : CoreKeeping) → Keeps s past e p r k
    → SeesOwnActs s past p → SeesOwnActs s (e ∷ past) p
keeps_sees s past e p r k d old ys x v row at node low =
    let c : Core = (keeping_in s past p).core in
    let same = of_kept s c (LeavesSeen c) r.body k (record {
      parks = λ t j raises w met. (refl, raised_low raises w.0 c.node.turns);
      waits = λ t. (refl, refl);
    }) d.keeps in
    let zs : List Place = (before past ++ places_at e) ++ ys in
    let value : Value = fold (value_by_place s (before past ++ (places_at e ++ ys)) p x v) (first_of s x) (before past) in
    let le : c.node.turns.low.0 ≤ v = omega (arith, low, ap (λ (y : Core). y.node.turns.low.0) d.core, same.1) in
    let none : lasting e.acts ≡ [] = ap lasting d.acts ∙ keeping_lasts s c r.body k d.keeps in
    ap (λ (y : Table). seen_in (record { 0 = v }) (record { 0 = x }) y) (ap (λ (y : Core). y.node.items) d.core ∙ same.0)
    ∙ old (places_at e ++ ys) x v row at node le
    ∙ ap (λ (y : Value). Some y)
    (ap (λ (xs : List Act). fold (value_by_act s zs p x v) value xs) (sym none)
    ∙ sym (acts_lasting s zs p x v value e.acts)
    ∙ sym (own_places s zs p x v e.actor.0 value e.acts d.brings.at)
    ∙ value_then s past e ys p x v)

-- another actor goes on
apart_sees : (s : ScriptData) (past : List Entry) (e : Entry) (p : ℕ) → e.actor.0 ≢ p → SeesOwnActs s past p → SeesOwnActs s (e ∷ past) p
apart_sees s past e p ne old ys x v row at node low =
    let same : node_in s (e ∷ past) p ≡ node_in s past p = node_kept s past e p ne in
    let zs : List Place = (before past ++ places_at e) ++ ys in
    let value : Value = fold (value_by_place s (before past ++ (places_at e ++ ys)) p x v) (first_of s x) (before past) in
    let le : (node_in s past p).turns.low.0 ≤ v = omega (arith, low, ap (λ (st : Node). st.turns.low.0) same) in
    ap (λ (st : Node). seen_in (record { 0 = v }) (record { 0 = x }) st.items) same
    ∙ old (places_at e ++ ys) x v row at node le
    ∙ ap (λ (y : Value). Some y) (sym (other_places s zs p x v e.actor.0 value e.acts ne) ∙ value_then s past e ys p x v)

sees_at : (s : ScriptData) (past : List Entry) (e : Entry) (p : ℕ) → IsValid s → AllApt s (e ∷ past)
    → IsStepRun s (e ∷ past) → p < s.nodes → e.actor.0 ≡ p → Case s past e → SeesOwnActs s past p → SeesOwnActs s (e ∷ past) p
sees_at s past e p valid apt run lt at (NodeDoes q r d) old =
    let qp : q ≡ p = sym d.brings.at ∙ at in
    subst (λ (n : ℕ). SeesOwnActs s past n → SeesOwnActs s (e ∷ past) n) qp
    (does_sees s past e q r (record { valid = valid; apt = apt; run = run; does = d })) old
sees_at s past e p valid apt run lt at (NodeKeeps q r k d) old =
    let qp : q ≡ p = sym d.brings.at ∙ at in
    subst (λ (n : ℕ). SeesOwnActs s past n → SeesOwnActs s (e ∷ past) n) qp (keeps_sees s past e q r k d) old
sees_at s past e p valid apt run lt at (Coordinates out says) old = absurd (omega (arith, at, lt, out))
sees_at s past e p valid apt run lt at (Submits out says) old = absurd (omega (arith, at, lt, out))

sees_run : (s : ScriptData) (past : List Entry) (p : ℕ) → IsValid s → AllApt s past → IsStepRun s past → p < s.nodes
    → SeesOwnActs s past p
sees_run s [] p valid apt run lt = λ ys x v row at node low.
    start_shows s p 0 x v x row s.items at node at (omega arith) ∙ ap (λ (o : Option ItemRow). Some (first_value o)) (sym at)
sees_run s (e ∷ past) p valid apt run lt = by (cases_eq e.actor.0 p) (sees_run s past p valid apt.1 run.1 lt) where
  by : (e.actor.0 ≡ p) ⊎ (e.actor.0 ≢ p) → SeesOwnActs s past p → SeesOwnActs s (e ∷ past) p
  by (inl at) old = sees_at s past e p valid apt run lt at (case s past e run.0 apt.0) old
  by (inr ne) old = apart_sees s past e p ne old

pub sees_by_acts : SeesByActs
sees_by_acts s past p x v r valid apt run lt at node low =
    sees_run s past p valid apt run lt [] x v r at node low
    ∙ ap (λ (zs : List Place). Some (fold (value_by_place s zs p x v) (first_of s x) (before past))) (append-nil (before past))
