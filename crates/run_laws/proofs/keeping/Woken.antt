-- What wakes: a decision the messages that wait for its transaction, and an order that shows a version those that wait
-- for that.
use Rattle.std.proofs.Common.{◌≡◌, ℕ, ◌+◌, ◌<◌, ◌≤◌, ◌&&◌, Bool, true, false, List, ◌∷◌, refl, sym, ap, subst, ◌∙◌, arith}
use Rattle.std.specs.Prelude.{nat_lt, not}
use Rattle.std.proofs.lemmas.Bool.Decides.{nat_tests}
use Rattle.std.proofs.Math.Bool.{and-false}
use Rattle.tv_base.proofs.Truths.{left_true}
use Rattle.tv_base.specs.declared.numbers.TreeNo.{TreeNo}
use Rattle.tv_base.specs.declared.numbers.Version.{Version}
use Rattle.letter_types.specs.declared.bodies.Body.{Body}
use Rattle.letter_types.specs.declared.bodies.Body.TheVariants.{Go, Decide, Order, Show}
use Rattle.letter_types.specs.declared.bodies.What.TheVariants as whats
use Rattle.letter_types.specs.declared.entries.Entry.{Entry}
use Rattle.letter_types.specs.declared.entries.Letter.{Letter}
use Rattle.letter_types.specs.declared.kept.KeepReason.TheVariants.{Called, ForHolder, ForShow}
use Rattle.letter_types.specs.Kept.{wakes_by}
use Rattle.tx_trees.specs.ScriptData.{ScriptData}
use Rattle.tx_trees.specs.Valid.{IsValid}
use Rattle.world_model.specs.Asked.{asked_version}
use Rattle.world_model.specs.Core.{Core}
use Rattle.world_model.specs.Done.{raised_if}
use Rattle.world_model.specs.Epochs.{is_obeyed_now, was_obeyed}
use Rattle.world_model.specs.Keeping.{woken_by}
use Rattle.world_model.specs.Node.{Node}
use Rattle.world_model.specs.Runs.{IsStepRun, keeping_in, node_in}
use Rattle.world_model.specs.Strict.{core_row}
use Rattle.world_model.proofs.Cases.{Does}
use Rattle.world_model.proofs.Epochs.{Anew, Orders, Plainly}
use Rattle.tree_laws.proofs.apt.AptItems.{Applies, Collects, Follows, NodeChanges, Raises, Rests, Shows, Touches, core_changes}
use Rattle.advance_laws.proofs.governed.Advancing.{taken_ahead}
use Rattle.advance_laws.proofs.phases.Progress.{brings_to, itself}
use Rattle.advance_laws.proofs.governed.Brought.{IsAsking}
use Rattle.run_laws.proofs.each_tree.InTime.{advancing_run}

-- An order wakes as the one does for which it stands, where it takes effect.
pub holder_woken : (c : Core) (body : Body) (h : TreeNo) → woken_by c body (ForHolder h) ≡ wakes_by body (ForHolder h)
holder_woken c (Order e whats.Turn v) h = and-false (is_obeyed_now e whats.Turn v c)
holder_woken c (Order e whats.Show v) h = and-false (is_obeyed_now e whats.Show v c)
holder_woken c (Order e whats.Sweep v) h = and-false (is_obeyed_now e whats.Sweep v c)
holder_woken c Go h = refl
holder_woken c _ h = refl

pub called_unwoken : (c : Core) (body : Body) → woken_by c body Called ≡ false
called_unwoken c (Order e whats.Turn v) = and-false (is_obeyed_now e whats.Turn v c)
called_unwoken c (Order e whats.Show v) = and-false (is_obeyed_now e whats.Show v c)
called_unwoken c (Order e whats.Sweep v) = and-false (is_obeyed_now e whats.Sweep v c)
called_unwoken c (Decide t v commit) = refl
called_unwoken c (Show v) = refl
called_unwoken c Go = refl
called_unwoken c _ = refl

-- what wakes those that wait for a Show shows a version
pub woken_shows : (c : Core) (body : Body) → woken_by c body ForShow ≡ true → (v : Version) × Orders c body whats.Show v
woken_shows c (Show v) is = (v, Plainly refl)
woken_shows c (Order e whats.Show v) is = (v, Anew e refl (left_true (is_obeyed_now e whats.Show v c) true is))
woken_shows c (Order e whats.Turn v) is = absurd (let none = and-false (is_obeyed_now e whats.Turn v c) in cc (none, is))
woken_shows c (Order e whats.Sweep v) is = absurd (let none = and-false (is_obeyed_now e whats.Sweep v c) in cc (none, is))
woken_shows c (Decide t v commit) is = absurd (cc is)
woken_shows c Go is = absurd (cc is)
woken_shows c _ is = absurd (cc is)

-- and what shows a version wakes them
true_and : (a : Bool) → a ≡ true → (a && true) ≡ true
true_and a is = rw is refl

pub shows_wake : (c : Core) (body : Body) (v : Version) → Orders c body whats.Show v → woken_by c body ForShow ≡ true
shows_wake c body v (Plainly is) = ap (λ (b : Body). woken_by c b ForShow) is
shows_wake c body v (Anew e is takes) = ap (λ (b : Body). woken_by c b ForShow) is ∙ true_and (is_obeyed_now e whats.Show v c) takes

-- What a core does that wakes none of them leaves what is read, and raises what is updated.
pub record Rises (old new : Node) : Type 0 where
  pub read : new.turns.read.0 ≡ old.turns.read.0
  pub update : old.turns.update.0 ≤ new.turns.update.0

raised_rises : (old new : Node) (v : ℕ) (b : Bool) → nat_lt old.turns.update.0 v ≡ b → new.turns ≡ raised_if b v old.turns → Rises old new
raised_rises old new v true is same =
    let lt : old.turns.update.0 < v = grind (arith, nat_tests) in
    record { read = ap (λ t. t.read.0) same; update = omega (arith, lt, ap (λ t. t.update.0) same) }
raised_rises old new v false is same = record { read = ap (λ t. t.read.0) same; update = omega (arith, ap (λ t. t.update.0) same) }

stays : (old new : Node) → new.turns ≡ old.turns → Rises old new
stays old new same = record { read = ap (λ t. t.read.0) same; update = omega (arith, ap (λ t. t.update.0) same) }

change_rises : (s : ScriptData) (p : ℕ) (body : Body) (c : Core) (new : Node) → woken_by c body ForShow ≡ false → NodeChanges s p body c new
    → Rises c.node new
change_rises s p body c new none (Rests is same) = stays c.node new same
change_rises s p body c new none (Follows t k v letter is same) =
    raised_rises c.node new v.0 (nat_lt c.node.turns.update.0 v.0) refl same
change_rises s p body c new none (Raises v to is same) =
    raised_rises c.node new v.0 (nat_lt c.node.turns.update.0 v.0) refl same
change_rises s p body c new none (Touches t k one kind is same) =
    let v : Version = asked_version c.node.turns.update body in
    raised_rises c.node new v.0 (nat_lt c.node.turns.update.0 v.0) refl same
change_rises s p body c new none (Applies t v letter is same) = stays c.node new same
change_rises s p body c new none (Shows v to is same) = absurd (let some = shows_wake c body v to in cc (none, some))
change_rises s p body c new none (Collects v to is same) =
    record { read = ap (λ t. t.read.0) same; update = omega (arith, ap (λ t. t.update.0) same) }

pub does_rises : (s : ScriptData) (past : List Entry) (e : Entry) (p : ℕ) (r : Letter) → Does s past e p r
    → woken_by (keeping_in s past p).core r.body ForShow ≡ false → Rises (node_in s past p) (node_in s (e ∷ past) p)
does_rises s past e p r d none =
    let c : Core = (keeping_in s past p).core in
    subst (λ (x : Core). Rises c.node x.node) (sym d.core)
    (change_rises s p r.body c (core_row s p c r.from.0 r.body).state.node none (core_changes s p r.from.0 r.body c))

-- What shows a version raises what is read.
row_reads : (s : ScriptData) (p from : ℕ) (c : Core) (body : Body) (v : Version) → Orders c body whats.Show v
    → (core_row s p c from body).state.node.turns.read ≡ v
row_reads s p from c body v (Plainly is) = ap (λ (b : Body). (core_row s p c from b).state.node.turns.read) is
row_reads s p from c body v (Anew e is takes) =
    let new : nat_lt e c.epoch ≡ false = grind arith in
    let first : was_obeyed whats.Show v c.node ≡ false = grind arith in
    ap (λ (b : Body). (core_row s p c from b).state.node.turns.read) is ∙ rw (new, first) refl

-- an order of a coordinator that forgets that takes effect has still to be obeyed
pub new_ahead : (a b : ℕ) (x : Bool) → (not x && not (not (nat_lt a b))) ≡ true → a < b
new_ahead a b x is = grind (arith, nat_tests)

ahead : (s : ScriptData) (past : List Entry) (e : Entry) (p : ℕ) (r : Letter) (v : Version) → IsValid s → IsStepRun s (e ∷ past)
    → Does s past e p r → Orders (keeping_in s past p).core r.body whats.Show v → (node_in s past p).turns.read.0 < v.0
ahead s past e p r v valid run d (Plainly is) =
    let same : r ≡ e.took = itself s past e p r (brings_to s past e p r d.brings) (λ asks. subst IsAsking is asks) in
    taken_ahead s past e p (Show v) (advancing_run s past valid run.1) run.0 d.brings.at d.brings.below
    (ap (λ (l : Letter). l.body) (sym same) ∙ is)
ahead s past e p r v valid run d (Anew n is takes) =
    new_ahead (node_in s past p).turns.read.0 v.0 (nat_lt n (keeping_in s past p).core.epoch) takes

pub does_shows : (s : ScriptData) (past : List Entry) (e : Entry) (p : ℕ) (r : Letter) → IsValid s → IsStepRun s (e ∷ past)
    → Does s past e p r → woken_by (keeping_in s past p).core r.body ForShow ≡ true
    → (node_in s past p).turns.read.0 + 1 ≤ (node_in s (e ∷ past) p).turns.read.0
does_shows s past e p r valid run d woken =
    let c : Core = (keeping_in s past p).core in
    let (v, to) = woken_shows c r.body woken in
    let more = ahead s past e p r v valid run d to in
    let now : (node_in s (e ∷ past) p).turns.read ≡ v = ap (λ (x : Core). x.node.turns.read) d.core ∙ row_reads s p r.from.0 c r.body v to in
    omega (arith, more, ap (λ (x : Version). x.0) now)
