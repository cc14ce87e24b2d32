-- In every run the versions of a node's items above its low one are those in which one of its own acts writes the item.
use Rattle.std.proofs.Common.{◌≡◌, ◌≢◌, ◌⊎◌, inl, inr, ℕ, ◌+◌, ◌<◌, ◌==◌, ◌&&◌, ◌||◌, Bool, true, false, List, [], ◌∷◌, ◌++◌, reverse, refl, sym, ap, subst, ◌∙◌, append_assoc, arith, Option, Some, None}
use Rattle.std.specs.Prelude.{if◌then◌else◌, is_some, map, slice_get}
use Rattle.std.specs.List.{list_any}
use Rattle.std.proofs.Math.Bool.{or-false}
use Rattle.std.proofs.lemmas.Bool.{cases_eq}
use Rattle.std.proofs.lemmas.Bool.Decides.{nat_tests}
use Rattle.std.proofs.lemmas.List.{append-nil}
use Rattle.std.proofs.lemmas.List.Folds.{list_any-append}
use Rattle.tv_base.specs.declared.numbers.ItemNo.{ItemNo}
use Rattle.tv_base.specs.declared.numbers.TreeNo.{TreeNo}
use Rattle.tv_base.specs.declared.numbers.Version.{Version}
use Rattle.commute_ops.specs.declared.value.Value.{Value}
use Rattle.item_versions.specs.Item.{Held}
use Rattle.item_versions.specs.Table.{Table, item_in}
use Rattle.letter_types.specs.declared.acts.Act.{Act}
use Rattle.letter_types.specs.declared.acts.Act.TheVariants as acts
use Rattle.letter_types.specs.declared.bodies.Body.TheVariants.{Decide}
use Rattle.letter_types.specs.declared.entries.Entry.{Entry}
use Rattle.letter_types.specs.declared.entries.Letter.{Letter}
use Rattle.script_parts.specs.ScriptData.{ScriptData}
use Rattle.script_parts.specs.Valid.{IsValid}
use Rattle.script_parts.specs.declared.parts.ItemRow.{ItemRow}
use Rattle.script_parts.specs.declared.parts.TreeKind.TheVariants.{Strict}
use Rattle.world_model.specs.AllApt.{AllApt}
use Rattle.world_model.specs.Core.{Core}
use Rattle.world_model.specs.Decisions.{ops_at}
use Rattle.world_model.specs.Epochs.{is_core_timely}
use Rattle.world_model.specs.Node.{Node, items_at}
use Rattle.world_model.specs.Reads.{seen_in}
use Rattle.world_model.specs.Runs.{IsStepRun, keeping_in, node_in}
use Rattle.world_model.specs.Strict.{CoreKeeping, core_row}
use Rattle.world_model.proofs.Cases.{Case, Coordinates, Keeps, NodeDoes, NodeKeeps, Submits, case}
use Rattle.world_model.proofs.Every.{node_kept}
use Rattle.world_model.proofs.Keepings.{of_kept}
use Rattle.board_rules.specs.Histories.{Place, places_at, places_of, version_in}
use Rattle.board_rules.proofs.Places.{version_stays, places_more}
use Rattle.advance_laws.proofs.counting.Balance.{apt_low_rises}
use Rattle.tree_laws.specs.Carried.{CarriesVersion}
use Rattle.tree_laws.proofs.decided.AptDecisions.{dated_here}
use Rattle.tree_laws.proofs.stages.AptStagesOwn.{Doing}
use Rattle.tree_laws.proofs.apt.AptSteps.{enters}
use Rattle.tree_laws.proofs.apt.AptVersions.{before}
use Rattle.tree_laws.proofs.apt.AptWindows.{apt_timely, nodes_in_window}
use Rattle.tree_laws.proofs.loads.NodeLoads.{StrictTree, node_ops_fit, strict_there}
use Rattle.tree_laws.proofs.loads.Seen.{seen_of}
use Rattle.tree_laws.proofs.histories.Turns.{work_version}
use Rattle.run_laws.proofs.items.Newest.{agreed_here}
use Rattle.run_laws.proofs.act_order.RowActs.{is_lasting, keeping_lasts, lasting, lasting_acts, row_lasts}
use Rattle.run_laws.proofs.items.SeenByActs.{apt_can, later_dated, ops_read, sees_by_acts}
use Rattle.run_laws.proofs.each_tree.EveryApt.{all_apt}
use Rattle.run_laws.proofs.act_order.Turns.{carried}
use Rattle.run_laws.specs.Held.{HoldsWritten}
use Rattle.run_laws.specs.Written.{holds_in, was_written, act_writes, writes_in}
use Rattle.run_laws.proofs.items.HeldRows.{HasItem, IsCommit, IsReady, row_holds}

-- Acts that don't last write nothing, nor do those of another node.
act_left : (s : ScriptData) (zs : List Place) (p x w : ℕ) (a : Act) → is_lasting a ≡ false → act_writes s zs p x w a ≡ false
act_left s zs p x w (acts.Did t k values) none = absurd (cc none)
act_left s zs p x w (acts.Applied t commit) none = absurd (cc none)
act_left s zs p x w acts.Finished none = refl
act_left s zs p x w _ none = refl

any_lasting : (s : ScriptData) (zs : List Place) (p x w : ℕ) (xs : List Act)
    → list_any (act_writes s zs p x w) xs ≡ list_any (act_writes s zs p x w) (lasting xs)
any_lasting s zs p x w [] = refl
any_lasting s zs p x w (a ∷ xs) = by (is_lasting a) refl (any_lasting s zs p x w xs) where
  by : (test : Bool) → is_lasting a ≡ test → list_any (act_writes s zs p x w) xs ≡ list_any (act_writes s zs p x w) (lasting xs)
      → list_any (act_writes s zs p x w) (a ∷ xs) ≡ list_any (act_writes s zs p x w) (if test then a ∷ lasting xs else lasting xs)
  by true is rest = ap (λ (b : Bool). act_writes s zs p x w a || b) rest
  by false is rest = ap (λ (b : Bool). b || list_any (act_writes s zs p x w) xs) (act_left s zs p x w a is) ∙ rest

abbrev placed : ℕ → List Act → List Place
placed q xs = map (λ (a : Act). record { node = q; act = a }) xs

own_any : (s : ScriptData) (zs : List Place) (p x w q : ℕ) (xs : List Act) → q ≡ p
    → list_any (writes_in s zs p x w) (placed q xs) ≡ list_any (act_writes s zs p x w) xs
own_any s zs p x w q [] is = refl
own_any s zs p x w q (a ∷ xs) is =
    let here : (q == p) ≡ true = grind (arith, nat_tests) in
    ap (λ (b : Bool). (b && act_writes s zs p x w a) || list_any (writes_in s zs p x w) (placed q xs)) here
    ∙ ap (λ (b : Bool). act_writes s zs p x w a || b) (own_any s zs p x w q xs is)

other_any : (s : ScriptData) (zs : List Place) (p x w q : ℕ) (xs : List Act) → q ≢ p → list_any (writes_in s zs p x w) (placed q xs) ≡ false
other_any s zs p x w q [] ne = refl
other_any s zs p x w q (a ∷ xs) ne =
    let other : (q == p) ≡ false = grind (arith, nat_tests) in
    ap (λ (b : Bool). (b && act_writes s zs p x w a) || list_any (writes_in s zs p x w) (placed q xs)) other ∙ other_any s zs p x w q xs ne

-- What is known where a node does a letter.
born_later : (t : ℕ) (xs ys : List Place) (v : Version) → version_in t xs ≡ Some v → version_in t (xs ++ ys) ≡ Some v
born_later t xs ys v is = version_stays t xs ys (ap (λ (o : Option Version). is_some o) is) ∙ is

commit_here : (s : ScriptData) (past : List Entry) (e : Entry) (p : ℕ) (r : Letter) (t : TreeNo) (v : Version) (ys : List Place)
    → Doing s past e p r → r.body ≡ Decide t v true → IsCommit s ((before past ++ places_at e) ++ ys) p (keeping_in s past p).core t v
commit_here s past e p r t v ys g is =
    let c : Core = (keeping_in s past p).core in
    let strict = (agreed_here s past e p r t v (record { valid = g.valid; apt = g.apt; run = g.run; does = g.does }) is).0 in
    let born : version_in t.0 (before past) ≡ Some v = subst (CarriesVersion (before past)) is (carried s past e p r g) in
    let tree : StrictTree s t.0 = strict_there s t.0 strict in
    record {
      strict = strict;
      version = born_later t.0 (before past ++ places_at e) ys v (born_later t.0 (before past) (places_at e) v born);
      within = ap (is_core_timely s c) (sym is) ∙ apt_timely s p c r g.does.brings.apt;
      reads = rw tree.subs (ops_read s p (ops_at p tree.tree.subs) (node_ops_fit s t.0 p tree.tree Strict g.valid tree.at tree.kind));
    }

-- a node has its items
has_by : (v : Version) (x : ItemNo) (items : Table) (y : Value) (found : Option Held) → item_in x items ≡ found → seen_in v x items ≡ Some y
    → HasItem x items
has_by v x items y None at is = absurd (let none : None ≡ Some y = sym (ap (seen_of v) at) ∙ is in cc none)
has_by v x items y (Some h) at is = (h, at)

has_item : (s : ScriptData) (past : List Entry) (p x : ℕ) (r : ItemRow) → IsValid s → AllApt s past → IsStepRun s past → p < s.nodes
    → slice_get s.items x ≡ Some r → r.node.0 ≡ p → HasItem (record { 0 = x }) (node_in s past p).items
has_item s past p x r valid apt run lt at node =
    let st : Node = node_in s past p in
    has_by st.turns.low (record { 0 = x }) st.items _ (item_in (record { 0 = x }) st.items) refl
    (sees_by_acts s past p x st.turns.low.0 r valid apt run lt at node (omega arith))

ready_here : (s : ScriptData) (past : List Entry) (e : Entry) (p x : ℕ) (r : Letter) (row : ItemRow) (ys : List Place) → Doing s past e p r
    → slice_get s.items x ≡ Some row → row.node.0 ≡ p
    → IsReady s ((before past ++ places_at e) ++ ys) p (keeping_in s past p).core (record { 0 = x }) r.body
ready_here s past e p x r row ys g at node =
    let c : Core = (keeping_in s past p).core in
    let win = nodes_in_window s past p g.valid g.apt.1 g.run.1 g.does.brings.below in
    record {
      near = (win.held, win.items_near);
      has = has_item s past p x row g.valid g.apt.1 g.run.1 g.does.brings.below at node;
      dated =
          later_dated (before past ++ places_at e) ys (work_version s c r.body) r.body
          (dated_here s past e p r g.valid g.apt.1 g.run g.does);
      can = apt_can s p c r g.does.brings.apt;
      commits = λ t v is. commit_here s past e p r t v ys g is;
    }

-- What a node holds, also by the versions of a longer list of acts.
abbrev HoldsOwn : ScriptData → List Entry → ℕ → Type 0
HoldsOwn s past p = (ys : List Place) (x w : ℕ) (r : ItemRow) → slice_get s.items x ≡ Some r → r.node.0 ≡ p
    → (node_in s past p).turns.low.0 < w
    → holds_in (record { 0 = w }) (record { 0 = x }) (node_in s past p).items ≡ list_any (writes_in s (before past ++ ys) p x w) (before past)

-- an entry's acts, after those before
written_then : (s : ScriptData) (past : List Entry) (e : Entry) (ys : List Place) (p x w : ℕ)
    → (list_any (writes_in s (before past ++ (places_at e ++ ys)) p x w) (before past)
    || list_any (writes_in s ((before past ++ places_at e) ++ ys) p x w) (places_at e))
    ≡ list_any (writes_in s (before (e ∷ past) ++ ys) p x w) (before (e ∷ past))
written_then s past e ys p x w =
    let xs : List Place = before past in
    let zs : List Place = (xs ++ places_at e) ++ ys in
    ap (λ (us : List Place). list_any (writes_in s us p x w) xs || list_any (writes_in s zs p x w) (places_at e))
    (sym (append_assoc xs (places_at e) ys))
    ∙ sym (list_any-append (writes_in s zs p x w) xs (places_at e))
    ∙ ap (λ (us : List Place). list_any (writes_in s (us ++ ys) p x w) us) (sym (places_more e past))

does_holds : (s : ScriptData) (past : List Entry) (e : Entry) (p : ℕ) (r : Letter) → Doing s past e p r → HoldsOwn s past p
    → HoldsOwn s (e ∷ past) p
does_holds s past e p r g old ys x w row at node low =
    let d = g.does in
    let c : Core = (keeping_in s past p).core in
    let after : Core = (core_row s p c r.from.0 r.body).state in
    let zs : List Place = (before past ++ places_at e) ++ ys in
    let prior : Bool = list_any (writes_in s (before past ++ (places_at e ++ ys)) p x w) (before past) in
    let now : after.node.turns.low.0 < w = omega (arith, low, ap (λ (y : Core). y.node.turns.low.0) d.core) in
    let le : c.node.turns.low.0 < w = omega (arith, low, apt_low_rises s past e p g.apt g.run d.brings.below) in
    let item : ItemNo = record { 0 = x } in
    let u : Version = record { 0 = w } in
    let lasts : lasting e.acts ≡ lasting_acts s c r.body = ap lasting d.acts ∙ row_lasts s p r.from.0 r.body c in
    ap (λ (y : Core). holds_in u item y.node.items) d.core
    ∙ row_holds s zs p r.from.0 item u r.body c (ready_here s past e p x r row ys g at node) now
    ∙ ap (λ (b : Bool). b || list_any (act_writes s zs p x w) (lasting_acts s c r.body)) (old (places_at e ++ ys) x w row at node le)
    ∙ ap (λ (b : Bool). prior || b)
    (ap (λ (xs : List Act). list_any (act_writes s zs p x w) xs) (sym lasts)
    ∙ sym (any_lasting s zs p x w e.acts)
    ∙ sym (own_any s zs p x w e.actor.0 e.acts d.brings.at))
    ∙ written_then s past e ys p x w

-- where the entry writes nothing
none_holds : (s : ScriptData) (past : List Entry) (e : Entry) (ys : List Place) (p x w : ℕ)
    → list_any (writes_in s ((before past ++ places_at e) ++ ys) p x w) (places_at e) ≡ false
    → list_any (writes_in s (before past ++ (places_at e ++ ys)) p x w) (before past)
    ≡ list_any (writes_in s (before (e ∷ past) ++ ys) p x w) (before (e ∷ past))
none_holds s past e ys p x w none =
    let prior : Bool = list_any (writes_in s (before past ++ (places_at e ++ ys)) p x w) (before past) in
    sym (or-false prior) ∙ ap (λ (b : Bool). prior || b) (sym none) ∙ written_then s past e ys p x w

-- a letter that is kept leaves the items
keeps_holds : (s : ScriptData) (past : List Entry) (e : Entry) (p : ℕ) (r : Letter) (k : CoreKeeping) → AllApt s (e ∷ past)
    → IsStepRun s (e ∷ past) → Keeps s past e p r k → HoldsOwn s past p → HoldsOwn s (e ∷ past) p
keeps_holds s past e p r k apt run d old ys x w row at node low =
    let c : Core = (keeping_in s past p).core in
    let same : k.state.node.items ≡ c.node.items =
    of_kept s c (λ (y : CoreKeeping). y.state.node.items ≡ c.node.items) r.body k (record { parks = λ t j raises v met. refl; waits = λ t. refl }) d.keeps in
    let zs : List Place = (before past ++ places_at e) ++ ys in
    let le : c.node.turns.low.0 < w = omega (arith, low, apt_low_rises s past e p apt run d.brings.below) in
    let none : lasting e.acts ≡ [] = ap lasting d.acts ∙ keeping_lasts s c r.body k d.keeps in
    ap (λ (y : Table). holds_in (record { 0 = w }) (record { 0 = x }) y) (ap (λ (y : Core). y.node.items) d.core ∙ same)
    ∙ old (places_at e ++ ys) x w row at node le
    ∙ none_holds s past e ys p x w
    (own_any s zs p x w e.actor.0 e.acts d.brings.at ∙ any_lasting s zs p x w e.acts
    ∙ ap (λ (xs : List Act). list_any (act_writes s zs p x w) xs) none)

-- another actor goes on
apart_holds : (s : ScriptData) (past : List Entry) (e : Entry) (p : ℕ) → e.actor.0 ≢ p → HoldsOwn s past p → HoldsOwn s (e ∷ past) p
apart_holds s past e p ne old ys x w row at node low =
    let same : node_in s (e ∷ past) p ≡ node_in s past p = node_kept s past e p ne in
    let zs : List Place = (before past ++ places_at e) ++ ys in
    let le : (node_in s past p).turns.low.0 < w = omega (arith, low, ap (λ (st : Node). st.turns.low.0) same) in
    ap (λ (st : Node). holds_in (record { 0 = w }) (record { 0 = x }) st.items) same
    ∙ old (places_at e ++ ys) x w row at node le
    ∙ none_holds s past e ys p x w (other_any s zs p x w e.actor.0 e.acts ne)

holds_at : (s : ScriptData) (past : List Entry) (e : Entry) (p : ℕ) → IsValid s → AllApt s (e ∷ past) → IsStepRun s (e ∷ past)
    → p < s.nodes → e.actor.0 ≡ p → Case s past e → HoldsOwn s past p → HoldsOwn s (e ∷ past) p
holds_at s past e p valid apt run lt at (NodeDoes q r d) old =
    let qp : q ≡ p = sym d.brings.at ∙ at in
    subst (λ (n : ℕ). HoldsOwn s past n → HoldsOwn s (e ∷ past) n) qp
    (does_holds s past e q r (record { valid = valid; apt = apt; run = run; enters = enters s past e valid apt run; does = d })) old
holds_at s past e p valid apt run lt at (NodeKeeps q r k d) old =
    let qp : q ≡ p = sym d.brings.at ∙ at in
    subst (λ (n : ℕ). HoldsOwn s past n → HoldsOwn s (e ∷ past) n) qp (keeps_holds s past e q r k apt run d) old
holds_at s past e p valid apt run lt at (Coordinates out made) old = absurd (omega (arith, at, lt, out))
holds_at s past e p valid apt run lt at (Submits out says) old = absurd (omega (arith, at, lt, out))

-- At the start.
first_by : (w x p i : ℕ) (q : ItemRow) (rows : List ItemRow) → 0 < w
    → holds_in (record { 0 = w }) (record { 0 = x }) (items_at p (i + 1) rows) ≡ false → (test here : Bool)
    → (q.node.0 == p) ≡ test → (i == x) ≡ here → holds_in (record { 0 = w }) (record { 0 = x }) (items_at p i (q ∷ rows)) ≡ false
first_by w x p i q rows more rest true true is at =
    let other : (0 == w) ≡ false = grind (arith, nat_tests) in rw is (rw (at, holds_in) (rw other refl))
first_by w x p i q rows more rest true false is at = rw is (rw (at, holds_in) rest)
first_by w x p i q rows more rest false here is at = rw is rest

first_holds : (w x p i : ℕ) (rows : List ItemRow) → 0 < w → holds_in (record { 0 = w }) (record { 0 = x }) (items_at p i rows) ≡ false
first_holds w x p i [] more = refl
first_holds w x p i (q ∷ rows) more = first_by w x p i q rows more (first_holds w x p (i + 1) rows more) (q.node.0 == p) (i == x) refl refl

-- So in every run.
holds_run : (s : ScriptData) (past : List Entry) (p : ℕ) → IsValid s → AllApt s past → IsStepRun s past → p < s.nodes → HoldsOwn s past p
holds_run s [] p valid apt run lt = λ ys x w row at node low. first_holds w x p 0 s.items low
holds_run s (e ∷ past) p valid apt run lt = by (cases_eq e.actor.0 p) (holds_run s past p valid apt.1 run.1 lt) where
  by : (e.actor.0 ≡ p) ⊎ (e.actor.0 ≢ p) → HoldsOwn s past p → HoldsOwn s (e ∷ past) p
  by (inl at) old = holds_at s past e p valid apt run lt at (case s past e run.0 apt.0) old
  by (inr ne) old = apart_holds s past e p ne old

pub held_is_written : (s : ScriptData) (past : List Entry) (p x w : ℕ) (r : ItemRow) → IsValid s → IsStepRun s past → p < s.nodes
    → slice_get s.items x ≡ Some r → r.node.0 ≡ p → (node_in s past p).turns.low.0 < w
    → holds_in (record { 0 = w }) (record { 0 = x }) (node_in s past p).items ≡ was_written s (places_of (reverse past)) p x w
held_is_written s past p x w r valid run lt at node low =
    holds_run s past p valid (all_apt s past valid run) run lt [] x w r at node low
    ∙ ap (λ (zs : List Place). list_any (writes_in s zs p x w) (before past)) (append-nil (before past))

pub holds_written : (s : ScriptData) (past : List Entry) (p x : ℕ) → IsValid s → IsStepRun s past → p < s.nodes → HoldsWritten s past p x
holds_written s past p x valid run lt = λ w r at node low. held_is_written s past p x w r valid run lt at node low
