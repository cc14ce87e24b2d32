-- What an entry of a run of enabled messages does, by cases: a node does the row of the message that was brought or
-- defers it, or the coordinator or the client goes on.
use Rattle.std.proofs.Common.{◌≡◌, ℕ, ◌<◌, ◌==◌, ◌&&◌, Bool, true, List, [], ◌∷◌, ◌++◌, refl, ap, subst, ◌∙◌, arith, Option, Some, None}
use Rattle.std.specs.Prelude.{if◌then◌else◌, nat_lt, is_some}
use Rattle.std.proofs.lemmas.Bool.Decides.{nat_tests}
use Rattle.std.proofs.lemmas.Bool.{and_parts}
use Rattle.letter_types.specs.declared.entries.Entry.{Entry}
use Rattle.letter_types.specs.declared.entries.Letter.{Letter}
use Rattle.letter_types.specs.Kept.{brought, kept_without, wakes, with_called}
use Rattle.letter_types.specs.Steps.{Out}
use Rattle.script_parts.specs.ScriptData.{ScriptData, client_of}
use Rattle.world_model.proofs.Coordination.{IsCoordinated, of_forgetting, of_remembering}
use Rattle.world_model.specs.Keeping.{KeepingNode, brought_row, is_apt_at, is_apt_brought, keeping_row, kept_row, woken_by}
use Rattle.world_model.specs.Kept.{done_by, done_of, keeps_letter, kept_in, of_done, stays_of}
use Rattle.world_model.specs.Runs.{AtClient, AtCoordinator, AtNode, AtRestarting, MayFollow, Moves, Says, client_in, keeping_in}
use Rattle.world_model.specs.Strict.{CoreKeeping, core_keeping, core_row, is_core_apt, can_make_at, decides_near, is_unheld}
use Rattle.world_model.specs.Tables.{client_table}
use Rattle.world_model.proofs.Outstanding.{keeping_here}
use Rattle.world_model.specs.AllApt.{WasApt}
use Rattle.world_model.specs.Epochs.{is_core_timely}
use Rattle.world_model.specs.Core.{Core}
use Rattle.world_model.specs.Named.{is_named, is_new}

-- letter r is brought to node p, is addressed to it, and is apt there
pub record Brings (s : ScriptData) (past : List Entry) (e : Entry) (p : ℕ) (r : Letter) : Type 0 where
  pub at : e.actor.0 ≡ p
  pub below : p < s.nodes
  pub brings : brought (kept_in s past p) e.took e.took.body ≡ Some r
  pub to : r.to.0 ≡ p
  pub apt : is_core_apt s p (keeping_in s past p).core r ≡ true

-- and its row is made
pub record Does (s : ScriptData) (past : List Entry) (e : Entry) (p : ℕ) (r : Letter) : Type 0 where
  pub brings : Brings s past e p r
  pub now : core_keeping s (keeping_in s past p).core r.body ≡ None
  pub core : (keeping_in s (e ∷ past) p).core ≡ (core_row s p (keeping_in s past p).core r.from.0 r.body).state
  pub kept : kept_in s (e ∷ past) p ≡ with_called (woken_by (keeping_in s past p).core r.body) (kept_without (kept_in s past p) e.took.body)
  pub sent : e.sent
      ≡ (core_row s p (keeping_in s past p).core r.from.0 r.body).sent
      ++ wakes (woken_by (keeping_in s past p).core r.body) (kept_without (kept_in s past p) e.took.body)
  pub acts : e.acts ≡ (core_row s p (keeping_in s past p).core r.from.0 r.body).acts

-- or it is kept
pub record Keeps (s : ScriptData) (past : List Entry) (e : Entry) (p : ℕ) (r : Letter) (k : CoreKeeping) : Type 0 where
  pub brings : Brings s past e p r
  pub keeps : core_keeping s (keeping_in s past p).core r.body ≡ Some k
  pub core : (keeping_in s (e ∷ past) p).core ≡ k.state
  pub kept : kept_in s (e ∷ past) p
      ≡ kept_without (kept_in s past p) e.took.body ++ record { letter = r; tree = k.tree; sub = k.sub; why = k.why } ∷ []
  pub sent : e.sent ≡ []
  pub acts : e.acts ≡ k.acts

pub data Case (s : ScriptData) (past : List Entry) (e : Entry) : Type 0 where
  NodeDoes : (p : ℕ) (r : Letter) → Does s past e p r → Case s past e
  NodeKeeps : (p : ℕ) (r : Letter) (k : CoreKeeping) → Keeps s past e p r k → Case s past e
  Coordinates : e.actor.0 ≡ s.nodes → IsCoordinated s e → Case s past e
  Submits : e.actor.0 ≡ client_of s → Says (client_table s (client_in s past) e.took) e → Case s past e

-- the row of a letter that is brought and apt
apt_row : (s : ScriptData) (p : ℕ) (l r : Letter) (n : KeepingNode) → is_apt_at s p n r ≡ true
    → brought_row (is_core_apt s p) s p l n (Some r) ≡ kept_row s p l r n (core_keeping s n.core r.body)
apt_row s p l r n apt = rw apt refl

brings_of : (s : ScriptData) (past : List Entry) (e : Entry) (r : Letter) → e.actor.0 < s.nodes
    → brought (kept_in s past e.actor.0) e.took e.took.body ≡ Some r → is_apt_at s e.actor.0 (keeping_in s past e.actor.0) r ≡ true
    → Brings s past e e.actor.0 r
brings_of s past e r lt is apt =
    let parts = and_parts (r.to.0 == e.actor.0) (is_core_apt s e.actor.0 (keeping_in s past e.actor.0).core r) apt in
    record { at = refl; below = lt; brings = is; to = (let here = parts.0 in grind (arith, nat_tests)); apt = parts.1 }

case_by : (s : ScriptData) (past : List Entry) (e : Entry) (r : Letter) (o : Option CoreKeeping) → Brings s past e e.actor.0 r
    → core_keeping s (keeping_in s past e.actor.0).core r.body ≡ o
    → (keeping_in s (e ∷ past) e.actor.0 ≡ (kept_row s e.actor.0 e.took r (keeping_in s past e.actor.0) o).state)
    → Says (kept_row s e.actor.0 e.took r (keeping_in s past e.actor.0) o) e → Case s past e
case_by s past e r None b is state says = NodeDoes e.actor.0 r (record {
  brings = b;
  now = is;
  core = ap (λ (n : KeepingNode). n.core) state;
  kept = ap (λ (n : KeepingNode). n.kept) state;
  sent = says.0;
  acts = says.1;
})
case_by s past e r (Some k) b is state says = NodeKeeps e.actor.0 r k (record {
  brings = b;
  keeps = is;
  core = ap (λ (n : KeepingNode). n.core) state;
  kept = ap (λ (n : KeepingNode). n.kept) state;
  sent = says.0;
  acts = says.1;
})

node_case : (s : ScriptData) (past : List Entry) (e : Entry) (o : Option Letter) → e.actor.0 < s.nodes
    → Says (keeping_row s e.actor.0 (keeping_in s past e.actor.0) e.took) e
    → brought (kept_in s past e.actor.0) e.took e.took.body ≡ o
    → is_apt_brought s e.actor.0 (keeping_in s past e.actor.0) o ≡ true → Case s past e
node_case s past e None lt says is apt = absurd (cc apt)
node_case s past e (Some r) lt says is apt =
    let p = e.actor.0 in
    let n = keeping_in s past p in
    let row : keeping_row s p n e.took ≡ kept_row s p e.took r n (core_keeping s n.core r.body) =
    ap (λ (o : Option Letter). brought_row (is_core_apt s p) s p e.took n o) is ∙ apt_row s p e.took r n apt in
    case_by s past e r (core_keeping s n.core r.body) (brings_of s past e r lt is apt) refl
    (keeping_here s past e p refl ∙ ap (λ (out : Out KeepingNode). out.state) row)
    (subst (λ (out : Out KeepingNode). Says out e) row says)

case_of : (s : ScriptData) (past : List Entry) (e : Entry) → Moves s past e → WasApt s past e → Case s past e
case_of s past e (AtNode lt says) apt = node_case s past e (brought (kept_in s past e.actor.0) e.took e.took.body) lt says refl (apt lt)
case_of s past e (AtCoordinator at keeps says) apt = Coordinates at (of_remembering s past e keeps says)
case_of s past e (AtRestarting at loses says) apt = Coordinates at (of_forgetting s past e loses says)
case_of s past e (AtClient at says) apt = Submits at says

pub case : (s : ScriptData) (past : List Entry) (e : Entry) → MayFollow s past e → WasApt s past e → Case s past e
case s past e m apt = case_of s past e m.moves apt

-- The letter that is done is the one that was brought.
brought_done : (s : ScriptData) (past : List Entry) (e : Entry) (p : ℕ) (r : Letter) → Brings s past e p r → done_by s past e ≡ r
brought_done s past e p r b =
    let at = b.at in
    let to = b.to in
    let node : nat_lt e.actor.0 s.nodes ≡ true = let below = b.below in grind (arith, nat_tests) in
    let here : (r.to.0 == p) ≡ true = grind (arith, nat_tests) in
    ap (λ (t : Bool). if t then done_of s e.actor.0 (keeping_in s past e.actor.0) e.took (brought (kept_in s past e.actor.0) e.took e.took.body) else e.took) node
    ∙ ap (λ (q : ℕ). done_of s q (keeping_in s past q) e.took (brought (kept_in s past q) e.took e.took.body)) at
    ∙ ap (λ (o : Option Letter). done_of s p (keeping_in s past p) e.took o) b.brings
    ∙ ap (λ (t : Bool). if t && is_core_apt s p (keeping_in s past p).core r then r else e.took) here
    ∙ ap (λ (t : Bool). if t then r else e.took) b.apt

brought_stays : (s : ScriptData) (past : List Entry) (e : Entry) (p : ℕ) (r : Letter) (o : Option CoreKeeping) → Brings s past e p r
    → core_keeping s (keeping_in s past p).core r.body ≡ o → keeps_letter s past e ≡ is_some o
brought_stays s past e p r o b is =
    let at = b.at in
    let to = b.to in
    let node : nat_lt e.actor.0 s.nodes ≡ true = let below = b.below in grind (arith, nat_tests) in
    let here : (r.to.0 == p) ≡ true = grind (arith, nat_tests) in
    ap (λ (t : Bool). t && stays_of s e.actor.0 (keeping_in s past e.actor.0) (brought (kept_in s past e.actor.0) e.took e.took.body)) node
    ∙ ap (λ (q : ℕ). stays_of s q (keeping_in s past q) (brought (kept_in s past q) e.took e.took.body)) at
    ∙ ap (λ (x : Option Letter). stays_of s p (keeping_in s past p) x) b.brings
    ∙ ap (λ (t : Bool). (t && is_core_apt s p (keeping_in s past p).core r) && is_some (core_keeping s (keeping_in s past p).core r.body)) here
    ∙ ap (λ (t : Bool). t && is_some (core_keeping s (keeping_in s past p).core r.body)) b.apt
    ∙ ap is_some is

-- so a number of what the entry does is one of that letter, and 0 where it is kept
pub does_number : (f : Letter → ℕ) (s : ScriptData) (past : List Entry) (e : Entry) (p : ℕ) (r : Letter) → Does s past e p r
    → of_done f s past e ≡ f r
does_number f s past e p r d =
    ap (λ (b : Bool). if b then 0 else f (done_by s past e)) (brought_stays s past e p r None d.brings d.now)
    ∙ ap f (brought_done s past e p r d.brings)

pub keeps_number : (f : Letter → ℕ) (s : ScriptData) (past : List Entry) (e : Entry) (p : ℕ) (r : Letter) (k : CoreKeeping)
    → Keeps s past e p r k → of_done f s past e ≡ 0
keeps_number f s past e p r k d =
    ap (λ (b : Bool). if b then 0 else f (done_by s past e)) (brought_stays s past e p r (Some k) d.brings d.keeps)

-- what an apt letter names belongs to the node
and_middle : (a b c : Bool) → (a && (b && c)) ≡ true → b ≡ true
and_middle a b c is = grind arith

pub apt_named : (s : ScriptData) (p : ℕ) (c : Core) (l : Letter) → is_core_apt s p c l ≡ true → is_named s p l.from.0 l.body ≡ true
apt_named s p c l apt =
    and_middle _ (is_named s p l.from.0 l.body)
    (is_new s c.node l.body && is_unheld l.body c.holds && (is_core_timely s c l.body && decides_near s c.node l.body && can_make_at s p c l.body)) apt
