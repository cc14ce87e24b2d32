-- An entry of the client or of a node: the epoch of each node and its versions don't fall, and come to no more than was begun
-- and given.
use Rattle.std.proofs.Common.{◌≡◌, ◌≢◌, ◌⊎◌, ℕ, ◌<◌, ◌≤◌, Bool, true, false, List, ◌∷◌, sym, ap, subst, arith}
use Rattle.std.proofs.lemmas.Bool.{cases_eq}
use Rattle.tv_base.specs.declared.numbers.Version.{Version}
use Rattle.letter_types.specs.declared.bodies.Body.{Body}
use Rattle.letter_types.specs.declared.bodies.Body.TheVariants.{Sub as SubLetter, Ask, Order}
use Rattle.letter_types.specs.declared.bodies.What.{What}
use Rattle.letter_types.specs.declared.entries.Entry.{Entry}
use Rattle.letter_types.specs.declared.entries.Letter.{Letter}
use Rattle.node_versions.specs.declared.turns.Turns.{Turns}
use Rattle.tx_trees.specs.ScriptData.{ScriptData}
use Rattle.world_model.specs.Core.{Core}
use Rattle.world_model.specs.Done.{raised_if}
use Rattle.world_model.specs.Keeping.{KeepingNode}
use Rattle.world_model.specs.Node.{Node}
use Rattle.world_model.specs.Runs.{MayFollow, keeping_in, restarting_in}
use Rattle.world_model.proofs.Outstanding.{keeping_elsewhere}
use Rattle.advance_laws.specs.Given.{greatest_given}
use Rattle.advance_laws.specs.Phases.{TurnStage, ShowStage, SweepStage, stage_of}
use Rattle.advance_laws.proofs.governed.Brought.{each_of_brought}
use Rattle.advance_laws.proofs.phases.Closing.{tree_version}
use Rattle.advance_laws.proofs.recovery.Heeds.{Answers, Heed, Leaves, Obeys, Repeats, turned_to, version_of}
use Rattle.advance_laws.proofs.phases.Progress.{Work}
use Rattle.advance_laws.proofs.counting.Working.{IsOfTrees, IsRaiser}
use Rattle.advance_laws.proofs.right.Aside.{Aside, TellsCounts, Counts, Heeds, IsEpochless, Submits, Tells, Works}
use Rattle.advance_laws.proofs.right.Good.{IsGood, IsOrder, took_right}
use Rattle.advance_laws.proofs.recovery.TreeEpochs.{IsOfNoEpoch, epoch_stays}

-- a node's epoch and versions don't fall
pub record Rises (c d : Core) : Type 0 where
  pub epoch : c.epoch ≤ d.epoch
  pub update : c.node.turns.update.0 ≤ d.node.turns.update.0
  pub read : c.node.turns.read.0 ≤ d.node.turns.read.0
  pub low : c.node.turns.low.0 ≤ d.node.turns.low.0

-- and after it they are at most what was begun, and given
pub record Fares (s : ScriptData) (past : List Entry) (c d : Core) : Type 0 where
  pub rises : Rises c d
  pub begun : d.epoch ≤ (restarting_in s past).epoch
  pub turned : d.node.turns.update.0 ≤ greatest_given TurnStage past
  pub showed : d.node.turns.read.0 ≤ greatest_given ShowStage past
  pub swept : d.node.turns.low.0 ≤ greatest_given SweepStage past

stays : (s : ScriptData) (past : List Entry) (p : ℕ) → IsGood s past → p < s.nodes
    → Fares s past (keeping_in s past p).core (keeping_in s past p).core
stays s past p good lt = omega (arith, good.within p lt, good.epochs p lt)

-- A node that works for a tree may raise its update version to that of a letter.
raiser_version : (s : ScriptData) (v : ℕ) (body : Body) → IsRaiser s v body → v ≤ tree_version body
raiser_version s v (SubLetter t k w) raiser = omega (arith, raiser.0)
raiser_version s v _ raiser = absurd raiser

-- a core with these numbers, whatever else it has
by_numbers : (s : ScriptData) (past : List Entry) (c d : Core) (n : ℕ) (t : Turns) → d.epoch ≡ n → d.node.turns ≡ t
    → Fares s past c (record c { epoch = n; node = record c.node { turns = t } }) → Fares s past c d
by_numbers s past c d n t epoch turns fares = grind arith

raised : (s : ScriptData) (past : List Entry) (c d : Core) (raises : Bool) (v : ℕ)
    → d.node.turns ≡ raised_if raises v c.node.turns
    → (raises ≡ true → c.node.turns.update.0 < v) → (raises ≡ true → v ≤ greatest_given TurnStage past) → d.epoch ≡ c.epoch
    → Fares s past c c → Fares s past c d
raised s past c d raises v is higher most epoch was = grind arith

tree_of_none : (body : Body) → IsOfTrees body → IsOfNoEpoch body
tree_of_none body of = grind arith

work_fares : (s : ScriptData) (past : List Entry) (e : Entry) (p : ℕ) (r : Letter) → IsGood s past → MayFollow s past e
    → Work s past e p r
    → Fares s past (keeping_in s past p).core (keeping_in s (e ∷ past) p).core
work_fares s past e p r good m work =
    let by = work.turns in
    let most : tree_version r.body ≤ greatest_given TurnStage past =
    each_of_brought (λ (l : Letter). tree_version l.body ≤ greatest_given TurnStage past) s past e p r work.brings m good.trees in
    raised s past (keeping_in s past p).core (keeping_in s (e ∷ past) p).core by.raises by.version by.turns by.higher
    (λ is. omega (arith, most, raiser_version s by.version r.body (by.by is)))
    (epoch_stays s past e p work.brings.at (tree_of_none e.took.body work.took)) (stays s past p good work.brings.below)

-- A node that tells what it has counted stays as it is.
epochless_of_none : (body : Body) → IsEpochless body → IsOfNoEpoch body
epochless_of_none body none = grind arith

count_fares : (s : ScriptData) (past : List Entry) (e : Entry) (p : ℕ) → IsGood s past → TellsCounts s past e p
    → Fares s past (keeping_in s past p).core (keeping_in s (e ∷ past) p).core
count_fares s past e p good count =
    raised s past (keeping_in s past p).core (keeping_in s (e ∷ past) p).core false 0 (ap (λ (st : Node). st.turns) count.same)
    (λ is. absurd (cc is)) (λ is. absurd (cc is))
    (epoch_stays s past e p count.at (epochless_of_none e.took.body count.took)) (stays s past p good count.below)

-- A node that heeds an order or a question comes to its epoch, and by an order to its version, if it wasn't there yet.
in_epoch : (s : ScriptData) (past : List Entry) (c d : Core) (n : ℕ) → n ≤ (restarting_in s past).epoch → c.epoch ≤ n
    → d ≡ record c { epoch = n } → Fares s past c c → Fares s past c d
in_epoch s past c d n begun new is was = subst (Fares s past c) (sym is) (omega (arith, was, begun, new))

at_version : (s : ScriptData) (past : List Entry) (c : Core) (n : ℕ) (what : What) (v : Version)
    → v.0 ≤ greatest_given (stage_of what) past
    → version_of what c.node.turns < v.0 → c.epoch ≤ n → n ≤ (restarting_in s past).epoch → Fares s past c c
    → Fares s past c (record c { epoch = n; node = record c.node { turns = turned_to what v c.node.turns } })
at_version s past c n what v given less new begun was = grind arith

heed_fares : (s : ScriptData) (past : List Entry) (e : Entry) (p : ℕ) → IsGood s past → MayFollow s past e → p < s.nodes
    → Heed s (keeping_in s past p).core (keeping_in s (e ∷ past) p).core e.took.body e.sent
    → Fares s past (keeping_in s past p).core (keeping_in s (e ∷ past) p).core
heed_fares s past e p good m lt (Leaves n of late same none) =
    subst (λ (d : Core). Fares s past (keeping_in s past p).core d) (sym same) (stays s past p good lt)
heed_fares s past e p good m lt (Answers n bd new same is) =
    in_epoch s past (keeping_in s past p).core (keeping_in s (e ∷ past) p).core n (took_right s past e (Ask n) good m bd) new same
    (stays s past p good lt)
heed_fares s past e p good m lt (Repeats n what v bd new was same is) =
    let right : IsOrder s past e.took.to.0 n what v = took_right s past e (Order n what v) good m bd in
    in_epoch s past (keeping_in s past p).core (keeping_in s (e ∷ past) p).core n right.epoch new same (stays s past p good lt)
heed_fares s past e p good m lt (Obeys n what v more bd new less epoch turns is woken) =
    let right : IsOrder s past e.took.to.0 n what v = took_right s past e (Order n what v) good m bd in
    let c : Core = (keeping_in s past p).core in
    by_numbers s past c (keeping_in s (e ∷ past) p).core n (turned_to what v c.node.turns) epoch turns
    (at_version s past c n what v right.given less new right.epoch (stays s past p good lt))

-- So each node fares.
elsewhere : (s : ScriptData) (past : List Entry) (e : Entry) (q : ℕ) → IsGood s past → q < s.nodes → e.actor.0 ≢ q
    → Fares s past (keeping_in s past q).core (keeping_in s (e ∷ past) q).core
elsewhere s past e q good lt ne =
    subst (λ (n : KeepingNode). Fares s past (keeping_in s past q).core n.core) (sym (keeping_elsewhere s past e q ne)) (stays s past q good lt)

at_node : (s : ScriptData) (past : List Entry) (e : Entry) (p q : ℕ) → IsGood s past → q < s.nodes → e.actor.0 ≡ p
    → Fares s past (keeping_in s past p).core (keeping_in s (e ∷ past) p).core → (p ≡ q) ⊎ (p ≢ q)
    → Fares s past (keeping_in s past q).core (keeping_in s (e ∷ past) q).core
at_node s past e p q good lt at here is = grind (arith, elsewhere)

pub fares : (s : ScriptData) (past : List Entry) (e : Entry) (q : ℕ) → IsGood s past → MayFollow s past e → q < s.nodes
    → Aside s past e
    → Fares s past (keeping_in s past q).core (keeping_in s (e ∷ past) q).core
fares s past e q good m lt (Submits c first at told bare made) = elsewhere s past e q good lt (λ is. omega (arith, at, is, lt))
fares s past e q good m lt (Tells n at bd made) = elsewhere s past e q good lt (λ is. omega (arith, at, is, lt))
fares s past e q good m lt (Works p r work) =
    at_node s past e p q good lt work.brings.at (work_fares s past e p r good m work) (cases_eq p q)
fares s past e q good m lt (Counts p count) = at_node s past e p q good lt count.at (count_fares s past e p good count) (cases_eq p q)
fares s past e q good m lt (Heeds p at below heed) =
    at_node s past e p q good lt at (heed_fares s past e p good m below heed) (cases_eq p q)
