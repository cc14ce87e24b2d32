-- In runs of enabled messages, of every script: a transaction is decided on at most once, and only if it is strict: if
-- its home has all its notices.
use Rattle.std.proofs.Common.{◌≡◌, ◌≢◌, ℕ, ◌+◌, ◌<◌, ◌≤◌, ◌==◌, ◌&&◌, Bool, true, false, not, List, ◌∷◌, length, refl, sym, ap, subst, ◌∙◌, arith, Option, Some, None, []}
use Rattle.tv_base.specs.declared.numbers.SubNo.{SubNo}
use Rattle.tv_base.specs.declared.numbers.TreeNo.{TreeNo}
use Rattle.tv_base.specs.declared.numbers.Version.{Version}
use Rattle.std.proofs.lemmas.Bool.Decides.{nat_tests}
use Rattle.tx_trees.proofs.SubsOf.{home_below}
use Rattle.letter_types.specs.Steps.{Out}
use Rattle.letter_types.specs.declared.acts.Act.{Act}
use Rattle.letter_types.specs.declared.acts.Act.TheVariants as acts
use Rattle.letter_types.specs.declared.bodies.Body.{Body}
use Rattle.letter_types.specs.declared.bodies.Body.TheVariants.{Root, Sub as SubLetter, Done, Decided, Go}
use Rattle.letter_types.specs.declared.bodies.Notice.{Notice}
use Rattle.letter_types.specs.declared.entries.Entry.{Entry}
use Rattle.letter_types.specs.declared.entries.Letter.{Letter}
use Rattle.tree_home.specs.HeldAnswers.{HeldAnswers}
use Rattle.tree_home.specs.declared.homes.Answered.{Answered as AnsweredTree}
use Rattle.tree_home.specs.declared.homes.OpenTree.{OpenTree}
use Rattle.tx_trees.specs.ScriptData.{ScriptData, home_of, subs_at, visits}
use Rattle.tx_trees.specs.Valid.{IsValid}
use Rattle.world_model.specs.AllApt.{AllApt}
use Rattle.world_model.specs.Core.{Core, Refusals}
use Rattle.world_model.specs.Counts.{one_if, tally}
use Rattle.world_model.specs.Named.{is_strict_at}
use Rattle.world_model.specs.Runs.{IsStepRun, client_in, keeping_in}
use Rattle.world_model.specs.Strict.{CoreKeeping, core_row, none_refuses}
use Rattle.world_model.proofs.Cases.{Does, Keeps}
use Rattle.world_model.proofs.Scripts.{SubAt, get_below, sub_here}
use Rattle.tree_laws.specs.Applied.{DecidedOnce, applied_at, decided_as, has_decided}
use Rattle.tree_laws.specs.Dids.{answers, asks, notices}
use Rattle.tree_laws.specs.Stages.{IsGathering, StageAt, Answered, Gathers, Holds, Unborn, home_at, decisions}
use Rattle.tree_laws.specs.Turns.{has_turn, turns}
use Rattle.tree_laws.proofs.decided.AptApplied.{applied_decides, applied_where_decided, decides_of, none_under_way}
use Rattle.tree_laws.proofs.apt.AptOfTree.{ByClient, ByCoordinator, IsOther, Kept, OfTree, Other, OwnAck, OwnNote, OwnRoot, OwnSub, client_leaves, coordinator_leaves, kept_leaves, of_tree, other_leaves}
use Rattle.tree_laws.proofs.decided.AptRulings.{BringsMissed, RowRules, Rules, client_acts, core_rules, keeping_acts, ruled_acts, rulings_no_keeping}
use Rattle.tree_laws.proofs.stages.AptStages.{Leaves}
use Rattle.tree_laws.proofs.stages.AptStagesOwn.{Doing, NoteAt, ack_home, home_here, note_at, note_missed, note_waits, root_home, root_unturned, sub_of_node, turned_here}
use Rattle.tree_laws.proofs.stages.AptStagesRun.{stages_of_trees}
use Rattle.tree_laws.proofs.stages.AptStagesSteps.{Beside, does_beside}
use Rattle.tree_laws.proofs.homes.Staging.{told_none, told_one}

-- how often a tree was decided on, and how often it is by these acts
abbrev pub decided_any : List Entry → ℕ → ℕ
decided_any past t = decided_as past t true + decided_as past t false

abbrev pub decides_any : ℕ → List Act → ℕ
decides_any t does = tally (has_decided t true) does + tally (has_decided t false) does

-- What is known of that by the tree's home: it isn't decided on before its root has had its turn, nor while it is open
-- there; after that a strict tree is decided on.
pub record Once (s : ScriptData) (past : List Entry) (t : ℕ) : Type 0 where
  pub unborn : turns past t 0 ≡ 0 → decided_any past t ≡ 0
  pub opened : (h : OpenTree) → home_at s past t ≡ Some h → decided_any past t ≡ 0
  pub closed : is_strict_at s t ≡ true → 1 ≤ turns past t 0 → home_at s past t ≡ None → decided_any past t ≡ 1
  pub strict : 1 ≤ decided_any past t → is_strict_at s t ≡ true
  pub once : decided_any past t ≤ 1

-- an entry that decides nothing on the tree, and leaves its home and its root
passes_once : (s : ScriptData) (past : List Entry) (e : Entry) (t : ℕ) → home_at s (e ∷ past) t ≡ home_at s past t
    → tally (has_turn t 0) e.acts ≡ 0 → decides_any t e.acts ≡ 0 → Once s past t → Once s (e ∷ past) t
passes_once s past e t home root none o = record {
  unborn = λ is. omega (arith, none, o.unborn (omega (arith, is)));
  opened = λ h at. omega (arith, none, o.opened h (sym home ∙ at));
  closed = λ strict born gone. omega (arith, none, o.closed strict (omega (arith, born, root)) (sym home ∙ gone));
  strict = λ some. o.strict (omega (arith, some, none));
  once = omega (arith, none, o.once);
}

-- What a row decides on a tree.
decides_one : (commit : Bool) → one_if (true && commit) + one_if (true && not commit) ≡ 1
decides_one true = refl
decides_one false = refl

ruled_one : (rs : Refusals) (a : AnsweredTree) (t : ℕ) → a.tree.0 ≡ t → decides_any t (ruled_acts rs (Some a)) ≡ 1
ruled_one rs a t is =
    let here : (a.tree.0 == t) ≡ true = grind (arith, nat_tests) in
    rw here (omega (arith, decides_one (none_refuses a.tree rs)))

ruled_other : (rs : Refusals) (found : Option AnsweredTree) (t : ℕ) → ((a : AnsweredTree) → found ≡ Some a → a.tree.0 ≢ t)
    → decides_any t (ruled_acts rs found) ≡ 0
ruled_other rs None t ne = refl
ruled_other rs (Some a) t ne =
    let other : (a.tree.0 == t) ≡ false = (let differs = ne a refl in grind (arith, nat_tests)) in
    rw other (omega arith)

-- the acts of an entry that does a letter
pub ruled_here : (s : ScriptData) (past : List Entry) (e : Entry) (p : ℕ) (r : Letter) (t : ℕ) (b : Bool) → (d : Does s past e p r)
    → (rules : RowRules s (keeping_in s past p).core r.body (core_row s p (keeping_in s past p).core r.from.0 r.body))
    → tally (has_decided t b) e.acts
    ≡ tally (has_decided t b) (ruled_acts (core_row s p (keeping_in s past p).core r.from.0 r.body).state.refusals rules.found)
ruled_here s past e p r t b d rules =
    omega (
      arith,
      ap (λ (xs : List Act). tally (has_decided t b) xs) d.acts,
      rules.acts (has_decided t b) (decides_of t b),
      applied_decides t b r.body,
    )

rules_other : (w : ℕ) (holds : HeldAnswers) (body : Body) (u : TreeNo) → IsOther w holds body → Rules u body → u.0 ≢ w
rules_other w holds (Root t) u it is = λ same. it (ap (λ (x : TreeNo). x.0) (sym is) ∙ same)
rules_other w holds (Done t k v notice) u it is = λ same. it (ap (λ (x : TreeNo). x.0) (sym is) ∙ same)
rules_other w holds Go u it is = absurd is
rules_other w holds _ u it is = absurd is

-- letters of no tree or of another one
pub other_decides : (s : ScriptData) (past : List Entry) (e : Entry) (p w : ℕ) (r : Letter) → Doing s past e p r
    → IsOther w (keeping_in s past p).core.holds r.body → decides_any w e.acts ≡ 0
other_decides s past e p w r g it =
    let c : Core = (keeping_in s past p).core in
    let row : Out Core = core_row s p c r.from.0 r.body in
    let rules : RowRules s c r.body row = core_rules s p r.from.0 r.body c in
    omega (
      arith,
      ruled_here s past e p r w true g.does rules,
      ruled_here s past e p r w false g.does rules,
      ruled_other row.state.refusals rules.found w (λ a is. rules_other w c.holds r.body a.tree it (rules.rules a is)),
    )

-- letters by which no tree is decided on
ruled_never : (s : ScriptData) (past : List Entry) (e : Entry) (p w : ℕ) (r : Letter) → Doing s past e p r → ((u : TreeNo) → Rules u r.body → ⊥)
    → decides_any w e.acts ≡ 0
ruled_never s past e p w r g never =
    let c : Core = (keeping_in s past p).core in
    let row : Out Core = core_row s p c r.from.0 r.body in
    let rules : RowRules s c r.body row = core_rules s p r.from.0 r.body c in
    omega (
      arith,
      ruled_here s past e p r w true g.does rules,
      ruled_here s past e p r w false g.does rules,
      ruled_other row.state.refusals rules.found w (λ a is same. never a.tree (rules.rules a is)),
    )

pub sub_decides : (s : ScriptData) (past : List Entry) (e : Entry) (p w : ℕ) (t : TreeNo) (k : SubNo) (v : Version) (r : Letter)
    → Doing s past e p r → r.body ≡ SubLetter t k v → decides_any w e.acts ≡ 0
sub_decides s past e p w t k v r g is =
    ruled_never s past e p w r g (λ u its. subst (λ (b : Body). Rules u b) is its)

pub ack_decides : (s : ScriptData) (past : List Entry) (e : Entry) (p w : ℕ) (t : TreeNo) (v : Version) (r : Letter)
    → Doing s past e p r → r.body ≡ Decided t v → decides_any w e.acts ≡ 0
ack_decides s past e p w t v r g is =
    ruled_never s past e p w r g (λ u its. subst (λ (b : Body). Rules u b) is its)

pub kept_decides : (s : ScriptData) (past : List Entry) (e : Entry) (p w : ℕ) (r : Letter) (k : CoreKeeping) → Keeps s past e p r k
    → decides_any w e.acts ≡ 0
kept_decides s past e p w r k d =
    let none = λ (b : Bool).
    ap (λ (xs : List Act). tally (has_decided w b) xs) d.acts
    ∙ keeping_acts (has_decided w b) s (keeping_in s past p).core r.body k (rulings_no_keeping (has_decided w b) (decides_of w b)) d.keeps in
    omega (arith, none true, none false)

-- A letter by which tree t may be decided on: what its row makes of that.
record OwnRow (s : ScriptData) (past : List Entry) (e : Entry) (p : ℕ) (t : TreeNo) (r : Letter) (found : Option AnsweredTree) : Type 0 where
  its : (a : AnsweredTree) → found ≡ Some a → a.tree ≡ t
  gone : (a : AnsweredTree) → found ≡ Some a → home_at s (e ∷ past) t.0 ≡ None
  strict : (a : AnsweredTree) → found ≡ Some a → is_strict_at s t.0 ≡ true
  stays : found ≡ None → is_strict_at s t.0 ≡ true → home_at s (e ∷ past) t.0 ≡ None → ⊥
  does : decides_any t.0 e.acts ≡ decides_any t.0 (ruled_acts (core_row s p (keeping_in s past p).core r.from.0 r.body).state.refusals found)

own_by : (s : ScriptData) (past : List Entry) (e : Entry) (p : ℕ) (t : TreeNo) (r : Letter) (found : Option AnsweredTree)
    → OwnRow s past e p t r found → decided_any past t.0 ≡ 0 → 1 ≤ turns (e ∷ past) t.0 0 → Once s (e ∷ past) t.0
own_by s past e p t r None row none root = record {
  unborn = λ is. omega (arith, none, row.does);
  opened = λ h there. omega (arith, none, row.does);
  closed = λ strict born gone. absurd (row.stays refl strict gone);
  strict = λ some. absurd (omega (arith, some, none, row.does));
  once = omega (arith, none, row.does);
}
own_by s past e p t r (Some a) row none root =
    let rs : Refusals = (core_row s p (keeping_in s past p).core r.from.0 r.body).state.refusals in
    let one : decides_any t.0 (ruled_acts rs (Some a)) ≡ 1 = ruled_one rs a t.0 (ap (λ (u : TreeNo). u.0) (row.its a refl)) in
    let left : home_at s (e ∷ past) t.0 ≡ None = row.gone a refl in
    record {
      unborn = λ is. absurd (omega (arith, root, is));
      opened = λ h there. absurd (cc (left, there));
      closed = λ strict born gone. omega (arith, none, row.does, one);
      strict = λ some. row.strict a refl;
      once = omega (arith, none, row.does, one);
    }

own_once : (s : ScriptData) (past : List Entry) (e : Entry) (p : ℕ) (t : TreeNo) (r : Letter) → Doing s past e p r → p ≡ home_of s t.0
    → ((u : TreeNo) → Rules u r.body → u ≡ t) → Rules t r.body → BringsMissed s (keeping_in s past p).core.node r.body
    → decided_any past t.0 ≡ 0 → 1 ≤ turns (e ∷ past) t.0 0 → Once s (e ∷ past) t.0
own_once s past e p t r g at its own miss none root =
    let c : Core = (keeping_in s past p).core in
    let row : Out Core = core_row s p c r.from.0 r.body in
    let rules : RowRules s c r.body row = core_rules s p r.from.0 r.body c in
    let here : home_at s (e ∷ past) t.0 ≡ row.state.node.homes t.0 = home_here s past e p t.0 r g at in
    own_by s past e p t r rules.found
    (record {
      its = λ a is. its a.tree (rules.rules a is);
      gone = λ a is. here ∙ subst (λ (u : TreeNo). row.state.node.homes u.0 ≡ None) (its a.tree (rules.rules a is)) (rules.gone a is);
      strict = λ a is. subst (λ (u : TreeNo). is_strict_at s u.0 ≡ true) (its a.tree (rules.rules a is)) (rules.strict a is);
      stays = λ is strict gone. rules.stays t is own strict miss (sym here ∙ gone);
      does = omega (arith, ruled_here s past e p r t.0 true g.does rules, ruled_here s past e p r t.0 false g.does rules);
    })
    none root

-- a root
root_once : (s : ScriptData) (past : List Entry) (e : Entry) (p : ℕ) (t : TreeNo) (r : Letter) → Doing s past e p r → r.body ≡ Root t
    → Once s past t.0 → Once s (e ∷ past) t.0
root_once s past e p t r g is o =
    let one : asks t.0 0 r.body ≡ 1 = ap (asks t.0 0) is ∙ told_one t.0 0 0 refl in
    let at : p ≡ home_of s t.0 = root_home s past e p t r g is in
    let sub : SubAt s t.0 0 = sub_of_node s p t.0 0 (sym at) g.does.brings.below in
    let some : 0 < length (subs_at s t.0) = get_below (subs_at s t.0) 0 sub.sub (sub_here s t.0 0 sub) in
    own_once s past e p t r g at (λ u its. subst (λ (b : Body). Rules u b) is its) (rw is refl) (rw is some)
    (o.unborn (root_unturned s past e p t r g is)) (omega (arith, turned_here s past e p t.0 0 r g, one))

-- a notice: its tree gathers
pub data GathersNow (s : ScriptData) (past : List Entry) (t : ℕ) : Type 0 where
  Now : (h : OpenTree) → IsGathering s past t h → GathersNow s past t

gathers_by : (s : ScriptData) (past : List Entry) (t k : ℕ) → 1 ≤ notices s past t k → StageAt s past t → GathersNow s past t
gathers_by s past t k some (Unborn u) = absurd (omega (arith, some, u.notes k))
gathers_by s past t k some (Gathers h it) = Now h it
gathers_by s past t k some (Holds h it) = absurd (omega (arith, some, it.all.notes k))
gathers_by s past t k some (Answered it) = absurd (omega (arith, some, it.all.notes k))

pub note_gathers : (s : ScriptData) (past : List Entry) (e : Entry) (p : ℕ) (t : TreeNo) (k : SubNo) (v : Version) (notice : Notice) (r : Letter)
    → Doing s past e p r → r.body ≡ Done t k v notice → t.0 < length s.trees → GathersNow s past t.0
note_gathers s past e p t k v notice r g is lt =
    gathers_by s past t.0 k.0 (note_waits s past e p t k v notice r g is) (stages_of_trees s past g.valid g.apt.1 g.run.1 t.0 lt)

note_by : (s : ScriptData) (past : List Entry) (e : Entry) (p : ℕ) (t : TreeNo) (k : SubNo) (v : Version) (notice : Notice) (r : Letter)
    → Doing s past e p r → r.body ≡ Done t k v notice → Once s past t.0 → GathersNow s past t.0 → Once s (e ∷ past) t.0
note_by s past e p t k v notice r g is o (Now h it) =
    let n : NoteAt s p t k notice = note_at s past e p t k v notice r g is in
    own_once s past e p t r g n.home (λ u its. subst (λ (b : Body). Rules u b) is its) (rw is refl)
    (rw is (note_missed s past e p t k v notice r h g is n.home n.below it)) (o.opened h it.home) (omega (arith, it.root))

-- an acknowledgement leaves the open trees
ack_home_stays : (s : ScriptData) (past : List Entry) (e : Entry) (p : ℕ) (t : TreeNo) (v : Version) (r : Letter) → Doing s past e p r
    → r.body ≡ Decided t v → home_at s (e ∷ past) t.0 ≡ home_at s past t.0
ack_home_stays s past e p t v r g is =
    let c : Core = (keeping_in s past p).core in
    let at = ack_home s past e p t v r g is in
    home_here s past e p t.0 r g at ∙ ap (λ (b : Body). (core_row s p c r.from.0 b).state.node.homes t.0) is
    ∙ ap (λ (q : ℕ). (keeping_in s past q).core.node.homes t.0) at

-- So after each entry.
abbrev OnceNext : ScriptData → List Entry → Entry → ℕ → Type 0
OnceNext s past e u = Once s past u → Once s (e ∷ past) u

next_once : (s : ScriptData) (past : List Entry) (e : Entry) (w : ℕ) → IsValid s → AllApt s (e ∷ past) → IsStepRun s (e ∷ past)
    → w < length s.trees → OfTree s past e w → OnceNext s past e w
next_once s past e w valid apt run lt (Other p r g it) =
    let l : Leaves s past e w = other_leaves s past e p w r g it in
    passes_once s past e w l.home (l.turned 0) (other_decides s past e p w r g it)
next_once s past e w valid apt run lt (Kept p r k d) =
    let l : Leaves s past e w = kept_leaves s past e p w r k valid apt run d in
    passes_once s past e w l.home (l.turned 0) (kept_decides s past e p w r k d)
next_once s past e w valid apt run lt (ByCoordinator at made) =
    let l : Leaves s past e w = coordinator_leaves s past e w valid apt run lt at made in
    passes_once s past e w l.home (l.turned 0) (ap (λ (xs : List Act). decides_any w xs) made.acts)
next_once s past e w valid apt run lt (ByClient at says) =
    let none = λ (b : Bool).
    ap (λ (xs : List Act). tally (has_decided w b) xs) says.1
    ∙ client_acts (has_decided w b) s (client_in s past) e.took.body (decides_of w b acts.Finished refl) in
    let l : Leaves s past e w = client_leaves s past e w valid apt run lt at says in
    passes_once s past e w l.home (l.turned 0) (omega (arith, none true, none false))
next_once s past e w valid apt run lt (OwnRoot p t r g is same) = subst (λ (u : ℕ). OnceNext s past e u) same (root_once s past e p t r g is)
next_once s past e w valid apt run lt (OwnSub p t k v r g is some same) =
    let b : Beside s past e t.0 = does_beside s past e p t.0 r g.run.0 g.does (rw is tt) in
    let root : tally (has_turn t.0 0) e.acts ≡ 0 =
    turned_here s past e p t.0 0 r g ∙ ap (asks t.0 0) is ∙ told_none t.0 k.0 0 (omega (arith, some)) in
    subst (λ (u : ℕ). OnceNext s past e u) same (passes_once s past e t.0 b.home root (sub_decides s past e p t.0 t k v r g is))
next_once s past e w valid apt run lt (OwnNote p t k v notice r g is same) =
    let there : t.0 < length s.trees = omega (arith, lt, same) in
    subst (λ (u : ℕ). OnceNext s past e u) same
    (λ o. note_by s past e p t k v notice r g is o (note_gathers s past e p t k v notice r g is there))
next_once s past e w valid apt run lt (OwnAck p t v r g is same) =
    subst (λ (u : ℕ). OnceNext s past e u) same
    (passes_once s past e t.0 (ack_home_stays s past e p t v r g is) (turned_here s past e p t.0 0 r g ∙ ap (asks t.0 0) is) (ack_decides s past e p t.0 t v r g is))

pub once_in_run : (s : ScriptData) (past : List Entry) (t : ℕ) → IsValid s → AllApt s past → IsStepRun s past → t < length s.trees → Once s past t
once_in_run s [] t valid apt run lt = record {
  unborn = λ is. refl;
  opened = λ h at. refl;
  closed = λ strict born gone. absurd (omega (arith, born));
  strict = λ some. absurd (omega (arith, some));
  once = omega arith;
}
once_in_run s (e ∷ past) t valid apt run lt =
    next_once s past e t valid apt run lt (of_tree s past e t valid apt run (λ w less. stages_of_trees s past valid apt.1 run.1 w less))
    (once_in_run s past t valid apt.1 run.1 lt)

pub decided_once : DecidedOnce
decided_once s past t valid apt run lt = (once_in_run s past t valid apt run lt).once

-- a strict tree that is born and isn't open any more was decided on
pub decided_when_closed : (s : ScriptData) (past : List Entry) (t : ℕ) → IsValid s → AllApt s past → IsStepRun s past → t < length s.trees
    → is_strict_at s t ≡ true → 1 ≤ turns past t 0 → home_at s past t ≡ None → decided_any past t ≡ 1
decided_when_closed s past t valid apt run lt strict born gone = (once_in_run s past t valid apt run lt).closed strict born gone

-- so was one that is answered
answered_closed : (s : ScriptData) (past : List Entry) (t : ℕ) → 1 ≤ answers past t → 0 < length (subs_at s t) → StageAt s past t
    → (1 ≤ turns past t 0) × (home_at s past t ≡ None)
answered_closed s past t some lt (Unborn u) = absurd (omega (arith, some, u.answers))
answered_closed s past t some lt (Gathers h g) = absurd (omega (arith, some, g.answers))
answered_closed s past t some lt (Holds h g) = absurd (omega (arith, some, g.answers))
answered_closed s past t some lt (Answered a) = (omega (arith, a.all.turned 0 lt), a.home)

pub decided_when_answered : (s : ScriptData) (past : List Entry) (t : ℕ) → IsValid s → AllApt s past → IsStepRun s past → t < length s.trees
    → is_strict_at s t ≡ true → 1 ≤ answers past t → decided_any past t ≡ 1
decided_when_answered s past t valid apt run lt strict some =
    let sub : SubAt s t 0 = sub_of_node s (home_of s t) t 0 refl (home_below s t valid lt) in
    let first : 0 < length (subs_at s t) = get_below (subs_at s t) 0 sub.sub (sub_here s t 0 sub) in
    let over = answered_closed s past t some first (stages_of_trees s past valid apt run t lt) in
    decided_when_closed s past t valid apt run lt strict over.0 over.1

-- and what was decided was applied once at each node that the tree visits
answered_over : (s : ScriptData) (past : List Entry) (t : ℕ) → 1 ≤ answers past t → StageAt s past t → decisions s past t ≡ 0
answered_over s past t some (Unborn u) = absurd (omega (arith, some, u.answers))
answered_over s past t some (Gathers h g) = absurd (omega (arith, some, g.answers))
answered_over s past t some (Holds h g) = absurd (omega (arith, some, g.answers))
answered_over s past t some (Answered a) = a.decisions

pub applied_when_answered : (s : ScriptData) (past : List Entry) (t q : ℕ) → IsValid s → AllApt s past → IsStepRun s past → t < length s.trees
    → is_strict_at s t ≡ true → 1 ≤ answers past t → q < s.nodes → visits (subs_at s t) q ≡ true
    → applied_at past t true q + applied_at past t false q ≡ 1
applied_when_answered s past t q valid apt run lt strict some below is =
    let over = answered_over s past t some (stages_of_trees s past valid apt run t lt) in
    omega (
      arith,
      decided_when_answered s past t valid apt run lt strict some,
      applied_where_decided s past t q true valid apt run lt below is,
      applied_where_decided s past t q false valid apt run lt below is,
      none_under_way s past t true q over,
      none_under_way s past t false q over,
    )
