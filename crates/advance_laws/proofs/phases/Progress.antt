-- What an entry of a run of enabled messages is to the laws of phases, by cases, of every script and of either
-- coordinator.
use Rattle.std.proofs.Common.{◌≡◌, ◌⊎◌, inl, inr, ℕ, ◌<◌, ◌==◌, Bool, true, false, List, [], ◌∷◌, ◌++◌, length, refl, sym, ap, subst, ◌∙◌, arith, Some}
use Rattle.std.proofs.lemmas.Bool.Decides.{nat_tests}
use Rattle.tv_base.specs.declared.numbers.TreeNo.{TreeNo}
use Rattle.tv_base.specs.declared.numbers.Version.{Version}
use Rattle.tx_trees.proofs.SubsOf.{home_below, sub_node_below}
use Rattle.letter_types.specs.declared.bodies.Answer.{Answer}
use Rattle.letter_types.specs.declared.bodies.Body.{Body}
use Rattle.letter_types.specs.declared.bodies.Body.TheVariants.{Go, Root, Sub as SubLetter, Done, Reply, Nudge, Advance, Turn, Show, Sweep, Turned, Shown, Swept, AskDone, AskAsked, DoneRow, AskedRow, Advanced, Decide, Decided, Release, Wake, Lose, AdvanceNo, Wanted, Ask, Order as OrderLetter, Numbers, Obeyed}
use Rattle.letter_types.specs.declared.entries.Entry.{Entry}
use Rattle.letter_types.specs.declared.entries.Letter.{Letter}
use Rattle.letter_types.specs.declared.entries.Outgoing.{Outgoing}
use Rattle.letter_types.specs.declared.kept.KeptLetter.{KeptLetter}
use Rattle.letter_types.specs.Kept.{brought, kept_without, wakes}
use Rattle.letter_types.specs.Steps.{Out}
use Rattle.letter_types.proofs.Ids.{none_woken}
use Rattle.tx_trees.specs.ScriptData.{ScriptData, client_of}
use Rattle.tx_trees.specs.Valid.{IsValid}
use Rattle.world_model.specs.Advancing.{asked_row, done_row, show_row, sweep_row, turn_row}
use Rattle.world_model.specs.AllApt.{AllApt}
use Rattle.world_model.specs.Client.{nudge, submit, wanted, with_answer, with_end}
use Rattle.world_model.specs.Core.{Core, in_core}
use Rattle.world_model.specs.Kept.{kept_in}
use Rattle.world_model.specs.Node.{Node}
use Rattle.world_model.specs.Runs.{AtClient, AtCoordinator, AtNode, IsStepRun, MayFollow, Moves, Says, client_in, coordinator_in, keeping_in, node_in, restarting_in, AtRestarting}
use Rattle.world_model.specs.Strict.{CoreKeeping, core_keeping, core_row}
use Rattle.world_model.specs.Tables.{coordinator_table, restarting_table}
use Rattle.world_model.proofs.Cases.{Brings, Case, Coordinates as ByCoordinator, Does, Keeps, NodeDoes, NodeKeeps, Submits, case}
use Rattle.world_model.proofs.EachOutstanding.{each_brought, each_took}
use Rattle.world_model.proofs.Every.{each_append, each_map}
use Rattle.world_model.proofs.KeptThere.{OfKeeping}
use Rattle.world_model.proofs.Nexts.{MadeByClient, MadeByCoordinator, Order, Shows, Sweeps, Tells, TellsAsked, TellsDone, Turns}
use Rattle.world_model.proofs.Orders.{no_acts}
use Rattle.world_model.proofs.Outstanding.{IsOutstanding}
use Rattle.world_model.proofs.Restarts.{restart_plain}
use Rattle.world_model.specs.Meant.{IsLetterMeant, IsMeant}
use Rattle.world_model.proofs.Meant.{letters_are_meant}
use Rattle.world_model.proofs.MeantRows.{strict_below}
use Rattle.advance_laws.proofs.governed.Brought.{BringsTo, IsAsking, brought_meant, brought_outstanding, kept_ask}
use Rattle.advance_laws.proofs.right.ClientSteps.{ClientStep, client_step}
use Rattle.advance_laws.proofs.right.ClientSteps.{Begins as ClientBegins, Hears as ClientHears, Ends as ClientEnds, Tells as ClientTells, Aside as ClientAside}
use Rattle.advance_laws.proofs.recovery.Heeds.{AreWakes, Heed, HeedsRow, ask_heeded, order_heeded, wakes_are}
use Rattle.advance_laws.proofs.governed.Lawful.{IsLawful, IsTreeLawful}
use Rattle.advance_laws.proofs.counting.Working.{AnswersAt, AreSentIn, IsOfTrees, RaisesBy, SentIn, WorksOn, core_works, keeps_turns, wakes_sent}
use Rattle.tx_trees.specs.Counts.{is_lossy}
use Rattle.world_model.specs.Keeping.{woken_by}

-- what an order wakes: a Show wakes letters that are kept, and no other order does
abbrev pub WakesFor : Body → List Outgoing → Type 0
WakesFor (Show v) more = AreWakes more
WakesFor _ more = more ≡ []

no_wakes : (more : List Outgoing) → more ≡ [] → AreWakes more
no_wakes more is = subst AreWakes (sym is) tt

pub are_wakes : (body : Body) (more : List Outgoing) → WakesFor body more → AreWakes more
are_wakes (Show v) more woken = woken
are_wakes Go more woken = no_wakes more woken
are_wakes _ more woken = no_wakes more woken

-- a node does, or keeps, letter r of a tree: it raises its update version at most to that of the letter, and what it sends
-- carries the version in which the letter is done
pub record Work (s : ScriptData) (past : List Entry) (e : Entry) (p : ℕ) (r : Letter) : Type 0 where
  pub brings : BringsTo s past e p r
  pub turns : RaisesBy s (node_in s past p).turns (node_in s (e ∷ past) p).turns r.body
  pub sent : AreSentIn s (node_in s past p) r.body e.sent
  pub took : IsOfTrees e.took.body

-- the client begins, or hears an answer, or that an advancement has ended; a coordinator that remembers is told something; a node works
-- for a tree, or obeys the coordinator
pub data Progress (s : ScriptData) (past : List Entry) (e : Entry) : Type 0 where
  Begins : e.took.body ≡ Go → e.actor.0 ≡ client_of s → MadeByClient s past e (submit s (client_in s past) []) → Progress s past e
  Hears : (t : TreeNo) (v : Version) (answer : Answer) → e.took.body ≡ Reply t v answer → e.actor.0 ≡ client_of s → t.0 < length s.trees
      → MadeByClient s past e (submit s (with_answer t.0 (client_in s past)) (nudge s ∷ [])) → Progress s past e
  Ends : (v : Version) → e.took.body ≡ Advanced v → e.actor.0 ≡ client_of s
      → MadeByClient s past e (submit s (with_end s v (client_in s past)) []) → Progress s past e
  Coordinates : Tells e.took.body → e.actor.0 ≡ s.nodes → MadeByCoordinator s past e → Progress s past e
  Works : (p : ℕ) (r : Letter) → Work s past e p r → Progress s past e
  Obeys : (p : ℕ) (out : Out Node) (more : List Outgoing) → e.actor.0 ≡ p → p < s.nodes → Order s (node_in s past p) e.took.body out
      → node_in s (e ∷ past) p ≡ out.state → e.sent ≡ out.sent ++ more → WakesFor e.took.body more → Progress s past e

-- a letter by which a coordinator that forgets is told something
abbrev pub TellsAnew : Body → Type 0
TellsAnew Nudge = Unit {0}
TellsAnew Lose = Unit {0}
TellsAnew (AdvanceNo i) = Unit {0}
TellsAnew (Numbers n u w l) = Unit {0}
TellsAnew (Wanted n k) = Unit {0}
TellsAnew (Obeyed n what v) = Unit {0}
TellsAnew (DoneRow v k row) = Unit {0}
TellsAnew (AskedRow v k row) = Unit {0}
TellsAnew _ = ⊥

-- a coordinator that forgets goes on by its table
pub record MadeByRestarting (s : ScriptData) (past : List Entry) (e : Entry) : Type 0 where
  pub state : restarting_in s (e ∷ past) ≡ (restarting_table (restarting_in s past) e.took).state
  pub sent : e.sent ≡ (restarting_table (restarting_in s past) e.took).sent
  pub acts : e.acts ≡ []

-- what only scripts have whose coordinator forgets: the client tells how many advancements it asked for, the coordinator is
-- told something, or a node heeds an order or a question of it
pub data Forgetting (s : ScriptData) (past : List Entry) (e : Entry) : Type 0 where
  Asked : (n : ℕ) → e.took.body ≡ Ask n → e.actor.0 ≡ client_of s → is_lossy s ≡ true
      → MadeByClient s past e (wanted s n (client_in s past)) → Forgetting s past e
  Restarts : TellsAnew e.took.body → e.actor.0 ≡ s.nodes → is_lossy s ≡ true → MadeByRestarting s past e → Forgetting s past e
  Heeds : (p : ℕ) → e.actor.0 ≡ p → p < s.nodes → is_lossy s ≡ true
      → Heed s (keeping_in s past p).core (keeping_in s (e ∷ past) p).core e.took.body e.sent → Forgetting s past e

-- an entry of either kind of scripts
abbrev pub Course : ScriptData → List Entry → Entry → Type 0
Course s past e = Progress s past e ⊎ Forgetting s past e

-- Entries of the client.
by_client : (s : ScriptData) (past : List Entry) (e : Entry) → e.actor.0 ≡ client_of s → ClientStep s past e → Course s past e
by_client s past e at (ClientBegins is made) = inl (Begins is at made)
by_client s past e at (ClientHears t v answer is lt made) = inl (Hears t v answer is at lt made)
by_client s past e at (ClientEnds v is made) = inl (Ends v is at made)
by_client s past e at (ClientTells n is loses made) = inr (Asked n is at loses made)
by_client s past e at (ClientAside ne) = absurd (ne at)

-- Entries of the coordinator: a letter that is meant for it tells it something, by which of the two it is.
abbrev TellsIt : ScriptData → Body → Type 0
TellsIt s b = (is_lossy s ≡ false → Tells b) × (is_lossy s ≡ true → TellsAnew b)

tells_by : (s : ScriptData) (from : ℕ) (b : Body) → IsValid s → IsMeant s from s.nodes b → TellsIt s b
tells_by s from Go valid meant = absurd (omega (arith, meant))
tells_by s from (Reply t v answer) valid meant = absurd (omega (arith, meant.1))
tells_by s from (Advanced v) valid meant = absurd (omega (arith, meant))
tells_by s from (Root t) valid meant = absurd (omega (arith, meant.home, home_below s t.0 valid meant.tree))
tells_by s from (SubLetter t k v) valid meant = absurd (omega (arith, meant.node, sub_node_below s t.0 k.0 valid meant.sub))
tells_by s from (Done t k v notice) valid meant = absurd (omega (arith, meant.home, home_below s t.0 valid meant.tree))
tells_by s from (Decide t v commit) valid meant = absurd (omega (arith, meant.visited.below))
tells_by s from (Decided t v) valid meant = absurd (omega (arith, meant.home, home_below s t.0 valid (strict_below s t.0 meant.strict)))
tells_by s from (Release t) valid meant = absurd (omega (arith, meant.visited.below))
tells_by s from (Wake t k) valid meant = absurd (omega (arith, meant.below))
tells_by s from (Turn v) valid meant = absurd (omega (arith, meant.0))
tells_by s from (Show v) valid meant = absurd (omega (arith, meant.0))
tells_by s from (Sweep v) valid meant = absurd (omega (arith, meant.0))
tells_by s from (AskDone v k) valid meant = absurd (omega (arith, meant))
tells_by s from (AskAsked v k) valid meant = absurd (omega (arith, meant))
tells_by s from (OrderLetter n what v) valid meant = absurd (omega (arith, meant.0))
tells_by s from (Ask n) valid meant = absurd (elsewhere meant.0) where
  elsewhere : ((s.nodes < s.nodes) ⊎ (s.nodes ≡ client_of s)) → ⊥
  elsewhere (inl lt) = omega (arith, lt)
  elsewhere (inr is) = omega (arith, is)
tells_by s from Nudge valid meant = ((λ keeps. tt), (λ loses. tt))
tells_by s from (DoneRow v k row) valid meant = ((λ keeps. tt), (λ loses. tt))
tells_by s from (AskedRow v k row) valid meant = ((λ keeps. tt), (λ loses. tt))
tells_by s from Advance valid meant = ((λ keeps. tt), (λ loses. absurd (cc (sym loses ∙ meant.1))))
tells_by s from (Turned v) valid meant = ((λ keeps. tt), (λ loses. absurd (cc (sym loses ∙ meant.1))))
tells_by s from (Shown v) valid meant = ((λ keeps. tt), (λ loses. absurd (cc (sym loses ∙ meant.1))))
tells_by s from (Swept v) valid meant = ((λ keeps. tt), (λ loses. absurd (cc (sym loses ∙ meant.1))))
tells_by s from Lose valid meant = ((λ keeps. absurd (cc (sym keeps ∙ meant.1))), (λ loses. tt))
tells_by s from (AdvanceNo i) valid meant = ((λ keeps. absurd (cc (sym keeps ∙ meant.1))), (λ loses. tt))
tells_by s from (Wanted n k) valid meant = ((λ keeps. absurd (cc (sym keeps ∙ meant.1))), (λ loses. tt))
tells_by s from (Numbers n u w l) valid meant = ((λ keeps. absurd (cc (sym keeps ∙ meant.1))), (λ loses. tt))
tells_by s from (Obeyed n what v) valid meant = ((λ keeps. absurd (cc (sym keeps ∙ meant.1))), (λ loses. tt))

made_by_coordinator : (s : ScriptData) (past : List Entry) (e : Entry) → e.actor.0 ≡ s.nodes
    → Says (coordinator_table (coordinator_in s past) e.took) e → MadeByCoordinator s past e
made_by_coordinator s past e at says = record {
  state = let here : (e.actor.0 == s.nodes) ≡ true = grind (arith, nat_tests) in rw here refl;
  sent = says.0;
  acts = says.1 ∙ no_acts (coordinator_in s past) e.took.from.0 e.took.body;
}

made_by_restarting : (s : ScriptData) (past : List Entry) (e : Entry) → e.actor.0 ≡ s.nodes
    → Says (restarting_table (restarting_in s past) e.took) e → MadeByRestarting s past e
made_by_restarting s past e at says = record {
  state = let here : (e.actor.0 == s.nodes) ≡ true = grind (arith, nat_tests) in rw here refl;
  sent = says.0;
  acts = says.1 ∙ (restart_plain e.took.from.0 (restarting_in s past) e.took.body).acts;
}

-- so each entry of the coordinator
made_by : (s : ScriptData) (past : List Entry) (e : Entry) → is_lossy s ≡ false → e.actor.0 ≡ s.nodes → Moves s past e → MadeByCoordinator s past e
made_by s past e keeps at (AtNode lt says) = absurd (omega (arith, at, lt))
made_by s past e keeps at (AtCoordinator there remembers says) = made_by_coordinator s past e at says
made_by s past e keeps at (AtRestarting there loses says) = absurd (cc (sym keeps ∙ loses))
made_by s past e keeps at (AtClient there says) = absurd (omega (arith, at, there))

pub coordinates : (s : ScriptData) (past : List Entry) (e : Entry) → is_lossy s ≡ false → MayFollow s past e → e.actor.0 ≡ s.nodes
    → MadeByCoordinator s past e
coordinates s past e keeps m at = made_by s past e keeps at m.moves

anew_by : (s : ScriptData) (past : List Entry) (e : Entry) → is_lossy s ≡ true → e.actor.0 ≡ s.nodes → Moves s past e → MadeByRestarting s past e
anew_by s past e loses at (AtNode lt says) = absurd (omega (arith, at, lt))
anew_by s past e loses at (AtCoordinator there remembers says) = absurd (cc (sym loses ∙ remembers))
anew_by s past e loses at (AtRestarting there forgets says) = made_by_restarting s past e at says
anew_by s past e loses at (AtClient there says) = absurd (omega (arith, at, there))

pub restarts : (s : ScriptData) (past : List Entry) (e : Entry) → is_lossy s ≡ true → MayFollow s past e → e.actor.0 ≡ s.nodes
    → MadeByRestarting s past e
restarts s past e loses m at = anew_by s past e loses at m.moves

-- A letter that is brought.
pub brings_to : (s : ScriptData) (past : List Entry) (e : Entry) (p : ℕ) (r : Letter) → Brings s past e p r → BringsTo s past e p r
brings_to s past e p r b = record { at = b.at; below = b.below; brings = b.brings }

-- what was taken for a letter of trees is one, or a Wake
took_of : (kept : List KeptLetter) (l r : Letter) (b : Body) → l.body ≡ b → brought kept l b ≡ Some r → IsOfTrees r.body → IsOfTrees b
took_of kept l r (Wake t k) is at of = tt
took_of kept l r _ is at of =
    let same : r ≡ l = grind arith in subst IsOfTrees (ap (λ (x : Letter). x.body) same ∙ is) of

-- and a letter that asks for no subtransaction was taken itself
itself_by : (l r : Letter) → (r ≡ l) ⊎ IsAsking r.body → (IsAsking r.body → ⊥) → r ≡ l
itself_by l r (inl is) other = is
itself_by l r (inr asks) other = absurd (other asks)

pub itself : (s : ScriptData) (past : List Entry) (e : Entry) (p : ℕ) (r : Letter) → BringsTo s past e p r → (IsAsking r.body → ⊥) → r ≡ e.took
itself s past e p r b other =
    let P : Letter → Type 0 = λ (l : Letter). (l ≡ e.took) ⊎ IsAsking l.body in
    itself_by e.took r
    (each_brought P (kept_in s past p) e.took r e.took.body
    (each_map (λ (l : Letter). IsAsking l.body) P _ (λ l asks. inr asks) (kept_ask s past p)) (inl refl) b.brings) other

-- Letters of trees.
answers_at : (s : ScriptData) (past : List Entry) (r : Letter) (p : ℕ) (b : Body) → IsTreeLawful s → AllApt s past → IsStepRun s past
    → IsOutstanding s past r → r.body ≡ b → r.to.0 ≡ p → p < s.nodes → AnswersAt (keeping_in s past p).core b
answers_at s past r p (Done t k v notice) laws apt run there is to below =
    λ a at. laws.answered_in past r t k v notice a p apt run there is to below at
answers_at s past r p _ laws apt run there is to below = tt

works : (s : ScriptData) (past : List Entry) (e : Entry) (p : ℕ) (r : Letter) → IsTreeLawful s → AllApt s past → IsStepRun s (e ∷ past)
    → Does s past e p r → IsOfTrees r.body → Work s past e p r
works s past e p r laws apt run d of =
    let c : Core = (keeping_in s past p).core in
    let b = brings_to s past e p r d.brings in
    let w : WorksOn s c r.body (core_row s p c r.from.0 r.body) =
    core_works s p r.from.0 r.body c of
    (answers_at s past r p r.body laws apt run.1 (brought_outstanding s past e p r b run.0) refl d.brings.to b.below) in
    let more : List Outgoing = wakes (woken_by c r.body) (kept_without (kept_in s past p) e.took.body) in
    record {
      brings = b;
      turns = subst (λ (x : Core). RaisesBy s c.node.turns x.node.turns r.body) (sym d.core) w.turns;
      sent =
          subst (AreSentIn s c.node r.body) (sym d.sent)
          (each_append (λ (o : Outgoing). SentIn s c.node r.body o.body) (core_row s p c r.from.0 r.body).sent more w.sent
          (wakes_sent s c.node r.body (woken_by c r.body) (kept_without (kept_in s past p) e.took.body)));
      took = took_of (kept_in s past p) e.took r e.took.body refl b.brings of;
    }

-- that is kept
pub asking_of : (body : Body) → IsAsking body → IsOfTrees body
asking_of (Root t) asks = tt
asking_of (SubLetter t k v) asks = tt
asking_of _ asks = absurd asks

keeps_asking : (s : ScriptData) (c : Core) (body : Body) (k : CoreKeeping) → core_keeping s c body ≡ Some k → IsAsking body
keeps_asking s c (Root t) k is = tt
keeps_asking s c (SubLetter t j v) k is = tt
keeps_asking s c _ k is = absurd (cc is)

keeps : (s : ScriptData) (past : List Entry) (e : Entry) (p : ℕ) (r : Letter) (k : CoreKeeping) → Keeps s past e p r k → Work s past e p r
keeps s past e p r k d =
    let c : Core = (keeping_in s past p).core in
    let of : IsOfTrees r.body = asking_of r.body (keeps_asking s c r.body k d.keeps) in
    let turns : RaisesBy s c.node.turns k.state.node.turns r.body =
    subst (OfKeeping (λ (x : CoreKeeping). RaisesBy s c.node.turns x.state.node.turns r.body)) d.keeps (keeps_turns s c r.body) in
    record {
      brings = brings_to s past e p r d.brings;
      turns = subst (λ (x : Core). RaisesBy s c.node.turns x.node.turns r.body) (sym d.core) turns;
      sent = subst (AreSentIn s c.node r.body) (sym d.sent) tt;
      took = took_of (kept_in s past p) e.took r e.took.body refl d.brings.brings of;
    }

-- Orders.
-- the row of an order is this one, and wakes so
record ObeysOrder (s : ScriptData) (p from : ℕ) (c : Core) (kept : List KeptLetter) (b : Body) (out : Out Node) : Type 0 where
  row : core_row s p c from b ≡ in_core c out
  order : Order s c.node b out
  woken : WakesFor b (wakes (woken_by c b) kept)
  other : IsAsking b → ⊥

turn_obeyed : (s : ScriptData) (p from : ℕ) (c : Core) (kept : List KeptLetter) (v : Version)
    → ObeysOrder s p from c kept (Turn v) (turn_row s v c.node)
turn_obeyed s p from c kept v = record {
  row = refl;
  order = Turns v refl refl;
  woken = none_woken (woken_by c (Turn v)) kept (λ y. refl);
  other = λ asks. asks;
}

show_obeyed : (s : ScriptData) (p from : ℕ) (c : Core) (kept : List KeptLetter) (v : Version)
    → ObeysOrder s p from c kept (Show v) (show_row s v c.node)
show_obeyed s p from c kept v = record {
  row = refl;
  order = Shows v refl refl;
  woken = wakes_are (woken_by c (Show v)) kept;
  other = λ asks. asks;
}

sweep_obeyed : (s : ScriptData) (p from : ℕ) (c : Core) (kept : List KeptLetter) (v : Version)
    → ObeysOrder s p from c kept (Sweep v) (sweep_row s v c.node)
sweep_obeyed s p from c kept v = record {
  row = refl;
  order = Sweeps v refl refl;
  woken = none_woken (woken_by c (Sweep v)) kept (λ y. refl);
  other = λ asks. asks;
}

done_obeyed : (s : ScriptData) (p from : ℕ) (c : Core) (kept : List KeptLetter) (v : Version) (k : ℕ)
    → ObeysOrder s p from c kept (AskDone v k) (done_row s v k c.node)
done_obeyed s p from c kept v k = record {
  row = refl;
  order = TellsDone v k refl refl;
  woken = none_woken (woken_by c (AskDone v k)) kept (λ y. refl);
  other = λ asks. asks;
}

asked_obeyed : (s : ScriptData) (p from : ℕ) (c : Core) (kept : List KeptLetter) (v : Version) (k : ℕ)
    → ObeysOrder s p from c kept (AskAsked v k) (asked_row s v k c.node)
asked_obeyed s p from c kept v k = record {
  row = refl;
  order = TellsAsked v k refl refl;
  woken = none_woken (woken_by c (AskAsked v k)) kept (λ y. refl);
  other = λ asks. asks;
}

obeys : (s : ScriptData) (past : List Entry) (e : Entry) (p : ℕ) (r : Letter) (b : Body) (out : Out Node) → Does s past e p r → r.body ≡ b
    → ObeysOrder s p r.from.0 (keeping_in s past p).core (kept_without (kept_in s past p) e.took.body) b out → Progress s past e
obeys s past e p r b out d is o =
    let c : Core = (keeping_in s past p).core in
    let kept : List KeptLetter = kept_without (kept_in s past p) e.took.body in
    let same : r ≡ e.took = itself s past e p r (brings_to s past e p r d.brings) (λ asks. o.other (subst IsAsking is asks)) in
    let took : b ≡ e.took.body = sym is ∙ ap (λ (l : Letter). l.body) same in
    let row : core_row s p c r.from.0 r.body ≡ in_core c out = ap (core_row s p c r.from.0) is ∙ o.row in
    Obeys p out (wakes (woken_by c b) kept) d.brings.at d.brings.below (subst (λ (x : Body). Order s c.node x out) took o.order)
    (ap (λ (x : Core). x.node) d.core ∙ ap (λ (x : Out Core). x.state.node) row)
    (d.sent ∙ ap (λ (x : Out Core). x.sent ++ wakes (woken_by c r.body) kept) row
    ∙ ap (λ (x : Body). out.sent ++ wakes (woken_by c x) kept) is)
    (subst (λ (x : Body). WakesFor x (wakes (woken_by c b) kept)) took o.woken)

heeds : (s : ScriptData) (past : List Entry) (e : Entry) (p : ℕ) (r : Letter) (b : Body) → is_lossy s ≡ true → Does s past e p r → r.body ≡ b
    → (IsAsking b → ⊥) → HeedsRow s p r.from.0 (keeping_in s past p).core (kept_without (kept_in s past p) e.took.body) b → Forgetting s past e
heeds s past e p r b loses d is other heeded =
    let c : Core = (keeping_in s past p).core in
    let kept : List KeptLetter = kept_without (kept_in s past p) e.took.body in
    let same : r ≡ e.took = itself s past e p r (brings_to s past e p r d.brings) (λ asks. other (subst IsAsking is asks)) in
    let took : b ≡ e.took.body = sym is ∙ ap (λ (l : Letter). l.body) same in
    let state : (core_row s p c r.from.0 b).state ≡ (keeping_in s (e ∷ past) p).core =
    sym (d.core ∙ ap (λ (x : Body). (core_row s p c r.from.0 x).state) is) in
    let sent : (core_row s p c r.from.0 b).sent ++ wakes (woken_by c b) kept ≡ e.sent =
    sym (d.sent ∙ ap (λ (x : Body). (core_row s p c r.from.0 x).sent ++ wakes (woken_by c x) kept) is) in
    Heeds p d.brings.at d.brings.below loses
    (subst (λ (x : Body). Heed s c (keeping_in s (e ∷ past) p).core x e.sent) took
    (subst (λ (x : Core). Heed s c x b e.sent) state
    (subst (λ (os : List Outgoing). Heed s c (core_row s p c r.from.0 b).state b os) sent heeded)))

-- An entry of a node.
node_by : (s : ScriptData) (past : List Entry) (e : Entry) (p : ℕ) (r : Letter) (b : Body) → IsTreeLawful s → AllApt s past
    → IsStepRun s (e ∷ past) → Does s past e p r → r.body ≡ b → IsMeant s r.from.0 p b → Course s past e
node_by s past e p r (Root t) laws apt run d is meant =
    inl (Works p r (works s past e p r laws apt run d (subst IsOfTrees (sym is) tt)))
node_by s past e p r (SubLetter t k v) laws apt run d is meant =
    inl (Works p r (works s past e p r laws apt run d (subst IsOfTrees (sym is) tt)))
node_by s past e p r (Done t k v notice) laws apt run d is meant =
    inl (Works p r (works s past e p r laws apt run d (subst IsOfTrees (sym is) tt)))
node_by s past e p r (Decide t v commit) laws apt run d is meant =
    inl (Works p r (works s past e p r laws apt run d (subst IsOfTrees (sym is) tt)))
node_by s past e p r (Decided t v) laws apt run d is meant =
    inl (Works p r (works s past e p r laws apt run d (subst IsOfTrees (sym is) tt)))
node_by s past e p r (Release t) laws apt run d is meant =
    inl (Works p r (works s past e p r laws apt run d (subst IsOfTrees (sym is) tt)))
node_by s past e p r (Wake t k) laws apt run d is meant =
    inl (Works p r (works s past e p r laws apt run d (subst IsOfTrees (sym is) tt)))
node_by s past e p r (Turn v) laws apt run d is meant =
    inl (obeys s past e p r (Turn v) (turn_row s v (node_in s past p)) d is (turn_obeyed s p r.from.0 (keeping_in s past p).core _ v))
node_by s past e p r (Show v) laws apt run d is meant =
    inl (obeys s past e p r (Show v) (show_row s v (node_in s past p)) d is (show_obeyed s p r.from.0 (keeping_in s past p).core _ v))
node_by s past e p r (Sweep v) laws apt run d is meant =
    inl (obeys s past e p r (Sweep v) (sweep_row s v (node_in s past p)) d is (sweep_obeyed s p r.from.0 (keeping_in s past p).core _ v))
node_by s past e p r (AskDone v k) laws apt run d is meant =
    inl (obeys s past e p r (AskDone v k) (done_row s v k (node_in s past p)) d is (done_obeyed s p r.from.0 (keeping_in s past p).core _ v k))
node_by s past e p r (AskAsked v k) laws apt run d is meant =
    inl (obeys s past e p r (AskAsked v k) (asked_row s v k (node_in s past p)) d is (asked_obeyed s p r.from.0 (keeping_in s past p).core _ v k))
node_by s past e p r Go laws apt run d is meant = absurd (omega (arith, meant, d.brings.below))
node_by s past e p r (Reply t v answer) laws apt run d is meant = absurd (omega (arith, meant.1, d.brings.below))
node_by s past e p r (Advanced v) laws apt run d is meant = absurd (omega (arith, meant, d.brings.below))
node_by s past e p r Nudge laws apt run d is meant = absurd (omega (arith, meant, d.brings.below))
node_by s past e p r Advance laws apt run d is meant = absurd (omega (arith, meant.0, d.brings.below))
node_by s past e p r (Turned v) laws apt run d is meant = absurd (omega (arith, meant.0.1, d.brings.below))
node_by s past e p r (Shown v) laws apt run d is meant = absurd (omega (arith, meant.0.1, d.brings.below))
node_by s past e p r (Swept v) laws apt run d is meant = absurd (omega (arith, meant.0.1, d.brings.below))
node_by s past e p r (DoneRow v k row) laws apt run d is meant = absurd (omega (arith, meant.0.1, d.brings.below))
node_by s past e p r (AskedRow v k row) laws apt run d is meant = absurd (omega (arith, meant.0.1, d.brings.below))
node_by s past e p r Lose laws apt run d is meant = absurd (omega (arith, meant.0, d.brings.below))
node_by s past e p r (AdvanceNo i) laws apt run d is meant = absurd (omega (arith, meant.0, d.brings.below))
node_by s past e p r (Wanted n k) laws apt run d is meant = absurd (omega (arith, meant.0, d.brings.below))
node_by s past e p r (Ask n) laws apt run d is meant =
    inr (heeds s past e p r (Ask n) meant.1 d is (λ asks. asks) (ask_heeded s p r.from.0 n (keeping_in s past p).core (kept_without (kept_in s past p) e.took.body)))
node_by s past e p r (OrderLetter n what v) laws apt run d is meant =
    inr (heeds s past e p r (OrderLetter n what v) meant.1 d is (λ asks. asks) (order_heeded s p r.from.0 n what v (keeping_in s past p).core (kept_without (kept_in s past p) e.took.body)))
node_by s past e p r (Numbers n u w l) laws apt run d is meant = absurd (omega (arith, meant.0.1, d.brings.below))
node_by s past e p r (Obeyed n what v) laws apt run d is meant = absurd (omega (arith, meant.0.1, d.brings.below))

-- the letter that was taken is meant for its actor
took_meant : (s : ScriptData) (past : List Entry) (e : Entry) (a : ℕ) → IsValid s → IsStepRun s (e ∷ past) → e.actor.0 ≡ a
    → IsMeant s e.took.from.0 a e.took.body
took_meant s past e a valid run at =
    subst (λ (n : ℕ). IsMeant s e.took.from.0 n e.took.body) (run.0.addressee ∙ at)
    (each_took (IsLetterMeant s) s past e run.0 (letters_are_meant s past valid run.1))

-- what comes to the coordinator tells it something
pub told_anew : (s : ScriptData) (past : List Entry) (e : Entry) → IsTreeLawful s → is_lossy s ≡ true → IsStepRun s (e ∷ past) → e.actor.0 ≡ s.nodes
    → TellsAnew e.took.body
told_anew s past e laws loses run at =
    (tells_by s e.took.from.0 e.took.body laws.valid (took_meant s past e s.nodes laws.valid run at)).1 loses

coordinator_by : (s : ScriptData) (past : List Entry) (e : Entry) (loses : Bool) → IsTreeLawful s → IsStepRun s (e ∷ past) → e.actor.0 ≡ s.nodes
    → is_lossy s ≡ loses → Course s past e
coordinator_by s past e true laws run at is =
    inr (Restarts (told_anew s past e laws is run at) at is (restarts s past e is run.0 at))
coordinator_by s past e false laws run at is =
    inl (Coordinates ((tells_by s e.took.from.0 e.took.body laws.valid (took_meant s past e s.nodes laws.valid run at)).0 is) at
    (coordinates s past e is run.0 at))

course_by : (s : ScriptData) (past : List Entry) (e : Entry) → IsTreeLawful s → AllApt s past → IsStepRun s (e ∷ past) → Case s past e
    → Course s past e
course_by s past e laws apt run (NodeDoes p r d) =
    node_by s past e p r r.body laws apt run d refl (brought_meant s past e p r laws.valid (brings_to s past e p r d.brings) run)
course_by s past e laws apt run (NodeKeeps p r k d) = inl (Works p r (keeps s past e p r k d))
course_by s past e laws apt run (ByCoordinator at made) = coordinator_by s past e (is_lossy s) laws run at refl
course_by s past e laws apt run (Submits at says) = by_client s past e at (client_step s past e laws.valid run)

-- each entry of such a run, of either kind of scripts
pub course : (s : ScriptData) (past : List Entry) (e : Entry) → IsTreeLawful s → AllApt s (e ∷ past) → IsStepRun s (e ∷ past) → Course s past e
course s past e laws apt run = course_by s past e laws apt.1 run (case s past e run.0 apt.0)

-- and where the coordinator remembers
remembered : (s : ScriptData) (past : List Entry) (e : Entry) → is_lossy s ≡ false → Course s past e → Progress s past e
remembered s past e keeps (inl next) = next
remembered s past e keeps (inr (Asked n bd at loses made)) = absurd (cc (sym keeps ∙ loses))
remembered s past e keeps (inr (Restarts tells at loses made)) = absurd (cc (sym keeps ∙ loses))
remembered s past e keeps (inr (Heeds p at lt loses heed)) = absurd (cc (sym keeps ∙ loses))

pub progress : (s : ScriptData) (past : List Entry) (e : Entry) → IsLawful s → AllApt s (e ∷ past) → IsStepRun s (e ∷ past)
    → Progress s past e
progress s past e laws apt run = remembered s past e laws.keeps (course s past e laws.trees apt run)
