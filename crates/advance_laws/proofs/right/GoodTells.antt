-- Entries of the coordinator by which nodes are told something, or by which it begins to count: no message of its epoch
-- is left then.
use Rattle.std.proofs.Common.{◌≡◌, ℕ, zero, suc, ◌+◌, ◌<◌, ◌≤◌, List, [], ◌∷◌, ◌++◌, refl, sym, ap, subst, ◌∙◌, arith}
use Rattle.tv_base.specs.declared.numbers.Version.{Version}
use Rattle.letter_types.specs.declared.bodies.Body.{Body}
use Rattle.letter_types.specs.declared.bodies.Body.TheVariants.{Go, Advanced, Order}
use Rattle.letter_types.specs.declared.bodies.What.{What}
use Rattle.letter_types.specs.declared.bodies.What.TheVariants.{Turn as ToTurn, Show as ToShow, Sweep as ToSweep}
use Rattle.letter_types.specs.declared.entries.Entry.{Entry}
use Rattle.letter_types.specs.declared.entries.LetterId.{LetterId}
use Rattle.letter_types.specs.declared.entries.Outgoing.{Outgoing}
use Rattle.node_versions.specs.declared.turns.Turns.{Turns}
use Rattle.tx_trees.specs.ScriptData.{ScriptData}
use Rattle.world_model.specs.Coordinator.{to_nodes}
use Rattle.world_model.specs.Counts.{Each}
use Rattle.world_model.specs.Keeping.{KeepingNode}
use Rattle.world_model.specs.Restarting.{Restarting, target}
use Rattle.world_model.specs.Runs.{restarting_in}
use Rattle.world_model.specs.declared.restarting.RestartPhase.{RestartPhase}
use Rattle.world_model.specs.declared.restarting.RestartPhase.TheVariants.{Doing}
use Rattle.world_model.proofs.Bags.{tally-append}
use Rattle.world_model.proofs.Every.{each_append, each_map}
use Rattle.world_model.proofs.Orders.{to_nodes_each}
use Rattle.advance_laws.specs.Advances.{asked_for}
use Rattle.advance_laws.specs.Given.{IsGivenAnew, greatest_given, greatest_told, version_told}
use Rattle.advance_laws.specs.Phases.{Stage, TurnStage, ShowStage, SweepStage, stage_of}
use Rattle.advance_laws.proofs.governed.Advancing.{greatest_least, sent_given}
use Rattle.advance_laws.proofs.counting.Waves.{flow_of, going}
use Rattle.advance_laws.proofs.right.AfterCoordinator.{IsFit, IsLast, IsNewlySilent, OrderNothing, OrdersNothing, fits_still, given_still, good_now, letters_told, tokens_none}
use Rattle.advance_laws.proofs.right.AtCoordinator.{held_at, order_sent, orders_tokens}
use Rattle.advance_laws.proofs.right.Good.{IsGood, IsInPhase, IsRight, IsSteady, IsUpTo, Knows, LevelOf, epoch_in, order_to, token, turns_in}
use Rattle.advance_laws.proofs.right.GoodSteps.{IsMove, steady_at}
use Rattle.advance_laws.proofs.right.RightAfter.{IsTelling}

-- Where nodes are told nothing new.
-- the coordinator comes to x, where it isn't recovering; each node has heard of the epoch, and no letter of it is left
pub record IsCalm (s : ScriptData) (past : List Entry) (e : Entry) (x : Restarting) : Type 0 where
  pub epoch : x.epoch ≡ (restarting_in s past).epoch
  pub heard : (q : ℕ) → q < s.nodes → (restarting_in s past).epoch ≤ epoch_in s past q
  pub knows : Knows x.phase
  pub last : IsLast s past e

telling : (s : ScriptData) (past : List Entry) (e : Entry) (x : Restarting) → IsMove s past e x → IsCalm s past e x → IsTelling s past e
telling s past e x m calm = record {
  at = m.at;
  epoch = ap (λ (c : Restarting). c.epoch) m.state ∙ calm.epoch;
  heard = calm.heard;
  knows = λ is. calm.knows (sym (ap (λ (c : Restarting). c.phase) m.state) ∙ is);
}

pub good_calm : (s : ScriptData) (past : List Entry) (e : Entry) (x : Restarting) → IsMove s past e x → IsCalm s past e x
    → OrderNothing e.sent → Each (λ (o : Outgoing). (i : LetterId) → IsRight s (e ∷ past) e.actor.0 o.to.0 o.body) e.sent
    → IsInPhase s (e ∷ past) x.phase → IsGood s (e ∷ past)
good_calm s past e x m calm nothing sent phased =
    let still = given_still past e nothing in
    let tells = telling s past e x m calm in
    good_now s past e m.laws m.run m.apt m.at m.good (omega (arith, tells.epoch))
    (letters_told s past e m.laws.valid m.run.1 m.run.0 m.good tells calm.last sent)
    (λ q lt. fits_still past e (turns_in s past q) still (m.good.within q lt))
    (λ v from lt. absurd (omega (arith, from, lt, still SweepStage)))
    (omega (arith, still TurnStage, m.good.asked))
    (subst (λ (c : Restarting). IsInPhase s (e ∷ past) c.phase) (sym m.state) phased)

-- An advancement that has ended is told the client.
abbrev pub IsEnd : ℕ → Body → Type 0
IsEnd f (Advanced v) = v.0 ≡ f
IsEnd f Go = ⊥
IsEnd f _ = ⊥

abbrev pub AllEnd : ℕ → List Outgoing → Type 0
AllEnd f os = Each (λ (o : Outgoing). IsEnd f o.body) os

end_nothing : (f : ℕ) (body : Body) → IsEnd f body → OrdersNothing body
end_nothing f body is = grind arith

-- it has ended at each node
abbrev HasEndedAt : ScriptData → List Entry → ℕ → Type 0
HasEndedAt s past f = (q : ℕ) → q < s.nodes → f ≤ (turns_in s past q).low.0

end_right : (s : ScriptData) (past : List Entry) (f from to : ℕ) (body : Body) → HasEndedAt s past f → IsEnd f body → IsRight s past from to body
end_right s past f from to body ended is = grind arith

ended_now : (s : ScriptData) (past : List Entry) (e : Entry) (x : Restarting) (f : ℕ) → IsMove s past e x → HasEndedAt s past f
    → HasEndedAt s (e ∷ past) f
ended_now s past e x f m was = λ q lt. held_at (λ (n : KeepingNode). f ≤ n.core.node.turns.low.0) s past e q m.at lt (was q lt)

pub ends_nothing : (f : ℕ) (os : List Outgoing) → AllEnd f os → OrderNothing os
ends_nothing f os all = each_map (λ (o : Outgoing). IsEnd f o.body) (λ (o : Outgoing). OrdersNothing o.body) os (λ o is. end_nothing f o.body is) all

pub ends_right : (s : ScriptData) (past : List Entry) (e : Entry) (x : Restarting) (f : ℕ) (os : List Outgoing) → IsMove s past e x
    → HasEndedAt s past f → AllEnd f os
    → Each (λ (o : Outgoing). (i : LetterId) → IsRight s (e ∷ past) e.actor.0 o.to.0 o.body) os
ends_right s past e x f os m ended all =
    each_map (λ (o : Outgoing). IsEnd f o.body) (λ (o : Outgoing). (i : LetterId) → IsRight s (e ∷ past) e.actor.0 o.to.0 o.body) os
    (λ o is i. end_right s (e ∷ past) f e.actor.0 o.to.0 o.body (ended_now s past e x f m ended) is) all

-- Where nodes are told something.
-- the numbers of an order
target_is : (what : What) (f : ℕ) → f ≤ 101 → (f + 1 ≤ (target what f).0) × ((target what f).0 ≤ f + 2)
target_is what f few = grind arith

-- a node to which it may be told
abbrev pub MayBeTold : What → ℕ → Turns → Type 0
MayBeTold ToTurn f turns = f ≤ turns.low.0
MayBeTold ToShow f turns = (f ≤ turns.low.0) × (f + 1 < turns.update.0)
MayBeTold ToSweep f turns = (f ≤ turns.low.0) × (f + 1 ≤ turns.read.0)

-- the coordinator has begun to tell the nodes: what it sends, and how far nodes are
pub record Tells (s : ScriptData) (past : List Entry) (e : Entry) (what : What) (f w : ℕ) : Type 0 where
  pub before : List Outgoing
  pub sent : e.sent ≡ before ++ to_nodes s.nodes (Order (restarting_in s past).epoch what (target what f))
  pub ends : AllEnd f before
  pub few : f ≤ 101
  pub level : (q k : ℕ) → q < s.nodes → 1 ≤ k → LevelOf (Doing what) f (restarting_in s past).epoch (epoch_in s past q) (turns_in s past q) k
  pub up_to : IsUpTo past f w
  pub may : (q : ℕ) → q < s.nodes → MayBeTold what f (turns_in s past q)
  pub wanted : what ≡ ToTurn → f + 1 ≤ w
  pub asked : w ≤ asked_for s past
  pub from : what ≡ ToSweep → f ≤ greatest_given SweepStage past
  pub silent : what ≡ ToSweep → greatest_given SweepStage past ≤ f → IsNewlySilent s past f
  pub anew : IsGivenAnew s past (Order (restarting_in s past).epoch what (target what f))

-- it comes to x
pub record IsBegun (c x : Restarting) (what : What) (f w : ℕ) : Type 0 where
  pub phase : x.phase ≡ Doing what
  pub epoch : x.epoch ≡ c.epoch
  pub ended : x.ended ≡ f
  pub wanted : x.wanted ≡ w
  pub acks : x.acks ≡ 0

-- what is given then
end_told : (g : Stage) (f m : ℕ) (body : Body) → IsEnd f body → version_told g body ≤ m
end_told g f m body is = grind arith

order_told : (g : Stage) (n d : ℕ) (what : What) (v : Version) (f m : ℕ) (before : List Outgoing) → AllEnd f before
    → version_told g (Order d what v) ≤ m → greatest_told g (before ++ to_nodes n (Order d what v)) ≤ m
order_told g n d what v f m before ends le =
    let P = λ (o : Outgoing). version_told g o.body ≤ m in
    greatest_least g m (before ++ to_nodes n (Order d what v))
    (each_append P before (to_nodes n (Order d what v))
    (each_map (λ (o : Outgoing). IsEnd f o.body) P before (λ o is. end_told g f m o.body is) ends)
    (to_nodes_each (λ to body. version_told g body ≤ m) n (Order d what v) (λ to lt. le)))

given_most : (s : ScriptData) (past : List Entry) (e : Entry) (what : What) (f w : ℕ) (g : Stage) (m : ℕ) → Tells s past e what f w
    → version_told g (Order (restarting_in s past).epoch what (target what f)) ≤ m → greatest_given g past ≤ m → greatest_given g (e ∷ past) ≤ m
given_most s past e what f w g m t told old = grind (arith, order_told)

behind : (P : Outgoing → Type 0) (xs : List Outgoing) (o : Outgoing) → Each P (xs ++ o ∷ []) → P o
behind P [] o all = all.0
behind P (x ∷ xs) o all = behind P xs o all.1

last_of : (P : Outgoing → Type 0) (xs : List Outgoing) (n : ℕ) (body : Body) → 1 ≤ n → Each P (xs ++ to_nodes n body)
    → (to : ℕ) × P (record { to = record { 0 = to }; body = body })
last_of P [] zero body some all = absurd (omega (arith, some))
last_of P [] (suc n) body some all = (n, behind P (to_nodes n body) (record { to = record { 0 = n }; body = body }) all)
last_of P (x ∷ xs) n body some all = last_of P xs n body some all.1

version_is : (d : ℕ) (what : What) (v : Version) → version_told (stage_of what) (Order d what v) ≡ v.0
version_is d what v = grind arith

given_least : (s : ScriptData) (past : List Entry) (e : Entry) (what : What) (f w : ℕ) → 1 ≤ s.nodes → Tells s past e what f w
    → (target what f).0 ≤ greatest_given (stage_of what) (e ∷ past)
given_least s past e what f w some t =
    let g = stage_of what in
    let d = (restarting_in s past).epoch in
    let all = subst (λ (os : List Outgoing). Each (λ (o : Outgoing). version_told g o.body ≤ greatest_given g (e ∷ past)) os) t.sent (sent_given g e past) in
    let one = last_of (λ (o : Outgoing). version_told g o.body ≤ greatest_given g (e ∷ past)) t.before s.nodes (Order d what (target what f)) some all in
    omega (arith, one.1, version_is d what (target what f))

-- so no more than the advancement needs, and nodes fit it
pub record IsGivenSo (s : ScriptData) (past : List Entry) (e : Entry) (f w : ℕ) : Type 0 where
  pub up_to : IsUpTo (e ∷ past) f w
  pub fit : (q : ℕ) → q < s.nodes → IsFit past e (turns_in s past q)
  pub silent : (v : ℕ) → greatest_given SweepStage past ≤ v → v < greatest_given SweepStage (e ∷ past) → IsNewlySilent s past v

same_at : (s : ScriptData) (past : List Entry) (v f : ℕ) → v ≡ f → IsNewlySilent s past f → IsNewlySilent s past v
same_at s past v f is new = subst (IsNewlySilent s past) (sym is) new

given_so : (s : ScriptData) (past : List Entry) (e : Entry) (what : What) (f w : ℕ) → IsGood s past → Tells s past e what f w → IsGivenSo s past e f w
given_so s past e ToTurn f w good t =
    let most = given_most s past e ToTurn f w in
    let two = target_is ToTurn f t.few in
    let turned : greatest_given TurnStage (e ∷ past) ≤ f + 2 = most TurnStage (f + 2) t two.1 t.up_to.turned in
    let asked = most TurnStage (w + 1) t (omega (arith, two.1, t.wanted refl)) t.up_to.asked in
    let showed = most ShowStage (greatest_given ShowStage past) t (omega arith) (omega arith) in
    let swept = most SweepStage (greatest_given SweepStage past) t (omega arith) (omega arith) in
    record {
      up_to = omega (arith, t.up_to, turned, showed, swept, asked);
      fit = λ q lt.
          let may : f ≤ (turns_in s past q).low.0 = t.may q lt in
          omega (arith, good.within q lt, turned, showed, swept, may);
      silent = λ v from lt. absurd (omega (arith, from, lt, swept));
    }
given_so s past e ToShow f w good t =
    let most = given_most s past e ToShow f w in
    let turned = most TurnStage (greatest_given TurnStage past) t (omega arith) (omega arith) in
    let showed : greatest_given ShowStage (e ∷ past) ≤ f + 1 =
    most ShowStage (f + 1) t (omega (arith, t.few)) t.up_to.showed in
    let swept = most SweepStage (greatest_given SweepStage past) t (omega arith) (omega arith) in
    record {
      up_to = omega (arith, t.up_to, turned, showed, swept);
      fit = λ q lt.
          let may : (f ≤ (turns_in s past q).low.0) × (f + 1 < (turns_in s past q).update.0) = t.may q lt in
          omega (arith, good.within q lt, turned, showed, swept, may);
      silent = λ v from lt. absurd (omega (arith, from, lt, swept));
    }
given_so s past e ToSweep f w good t =
    let most = given_most s past e ToSweep f w in
    let turned = most TurnStage (greatest_given TurnStage past) t (omega arith) (omega arith) in
    let showed = most ShowStage (greatest_given ShowStage past) t (omega arith) (omega arith) in
    let swept : greatest_given SweepStage (e ∷ past) ≤ f + 1 =
    most SweepStage (f + 1) t (omega (arith, t.few)) t.up_to.swept in
    record {
      up_to = omega (arith, t.up_to, turned, showed, swept);
      fit = λ q lt.
          let may : (f ≤ (turns_in s past q).low.0) × (f + 1 ≤ (turns_in s past q).read.0) = t.may q lt in
          omega (arith, good.within q lt, turned, showed, swept, may);
      silent = λ v from lt.
          same_at s past v f (omega (arith, from, lt, swept, t.from refl)) (t.silent refl (omega (arith, from, lt, swept)));
    }

-- the orders themselves
order_right : (s : ScriptData) (past : List Entry) (e : Entry) (x : Restarting) (what : What) (f w to : ℕ) → IsMove s past e x
    → IsBegun (restarting_in s past) x what f w → Tells s past e what f w → IsGivenSo s past e f w
    → IsRight s (e ∷ past) e.actor.0 to (Order (restarting_in s past).epoch what (target what f))
order_right s past e x what f w to m begun t so = record {
  epoch = omega (arith, ap (λ (c : Restarting). c.epoch) m.state, begun.epoch);
  current = λ same. record {
    phase = ap (λ (c : Restarting). c.phase) m.state ∙ begun.phase;
    version = sym (ap (λ (n : ℕ). (target what n).0) (ap (λ (c : Restarting). c.ended) m.state ∙ begun.ended));
  };
  given = given_least s past e what f w m.laws.valid.some_nodes t;
  window = λ lt heeds. omega (arith, so.up_to.swept, (target_is what f t.few).0);
}

-- as many as there are nodes, one to each
tokens_sent : (s : ScriptData) (past : List Entry) (e : Entry) (x : Restarting) (what : What) (f w : ℕ) → IsMove s past e x → IsLast s past e
    → Tells s past e what f w → going (token (restarting_in s past).epoch) s (e ∷ past) ≡ s.nodes
tokens_sent s past e x what f w m last t =
    grind (arith, ends_nothing, flow_of, orders_tokens, tally-append, tokens_none)

orders_sent : (s : ScriptData) (past : List Entry) (e : Entry) (x : Restarting) (what : What) (f w q : ℕ) → IsMove s past e x
    → Tells s past e what f w → q < s.nodes → 1 ≤ going (order_to (restarting_in s past).epoch q) s (e ∷ past)
orders_sent s past e x what f w q m t lt = grind (arith, flow_of, order_sent, tally-append)

-- so it is in its phase
tells_steadily : (s : ScriptData) (past : List Entry) (e : Entry) (x : Restarting) (what : What) (f w : ℕ) → IsMove s past e x → IsLast s past e
    → IsBegun (restarting_in s past) x what f w → Tells s past e what f w → IsGivenSo s past e f w → IsSteady s (e ∷ past) (Doing what)
tells_steadily s past e x what f w m last begun t so =
    let c = restarting_in s past in
    let tokens : going (token x.epoch) s (e ∷ past) ≡ s.nodes =
    subst (λ (d : ℕ). going (token d) s (e ∷ past) ≡ s.nodes) (sym begun.epoch) (tokens_sent s past e x what f w m last t) in
    steady_at s past e x (Doing what) m
    (λ q lt.
    subst (λ (d : ℕ). LevelOf (Doing what) x.ended d (epoch_in s past q) (turns_in s past q) (going (order_to d q) s (e ∷ past))) (sym begun.epoch)
    (subst (λ (n : ℕ). LevelOf (Doing what) n c.epoch (epoch_in s past q) (turns_in s past q) (going (order_to c.epoch q) s (e ∷ past))) (sym begun.ended)
    (t.level q (going (order_to c.epoch q) s (e ∷ past)) lt (orders_sent s past e x what f w q m t lt))))
    (omega (arith, tokens, begun.acks))
    (subst (λ (n : ℕ). IsUpTo (e ∷ past) n x.wanted) (sym begun.ended) (subst (λ (n : ℕ). IsUpTo (e ∷ past) f n) (sym begun.wanted) so.up_to))

-- All is as it should be after an entry, and what was told before it, or is told in quiet.
pub record IsWell (s : ScriptData) (past : List Entry) (e : Entry) : Type 0 where
  pub good : IsGood s (e ∷ past)
  pub anew : Each (λ (o : Outgoing). IsGivenAnew s past o.body) e.sent

nothing_anew : (s : ScriptData) (past : List Entry) (body : Body) → OrdersNothing body → IsGivenAnew s past body
nothing_anew s past body none = grind arith

all_anew : (s : ScriptData) (past : List Entry) (os : List Outgoing) → OrderNothing os → Each (λ (o : Outgoing). IsGivenAnew s past o.body) os
all_anew s past os none =
    each_map (λ (o : Outgoing). OrdersNothing o.body) (λ (o : Outgoing). IsGivenAnew s past o.body) os (λ o is. nothing_anew s past o.body is) none

pub well_by : (s : ScriptData) (past : List Entry) (e : Entry) → OrderNothing e.sent → IsGood s (e ∷ past) → IsWell s past e
well_by s past e none good = record { good = good; anew = all_anew s past e.sent none }

pub good_tells : (s : ScriptData) (past : List Entry) (e : Entry) (x : Restarting) (what : What) (f w : ℕ) → IsMove s past e x → IsLast s past e
    → IsBegun (restarting_in s past) x what f w → Tells s past e what f w → IsWell s past e
good_tells s past e x what f w m last begun t =
    let c = restarting_in s past in
    let os = to_nodes s.nodes (Order c.epoch what (target what f)) in
    let so = given_so s past e what f w m.good t in
    let ended : HasEndedAt s past f = λ q lt. (t.level q 1 lt (omega arith)).low in
    let right = λ (o : Outgoing). (i : LetterId) → IsRight s (e ∷ past) e.actor.0 o.to.0 o.body in
    let sent : Each right e.sent =
    subst (λ (all : List Outgoing). Each right all) (sym t.sent)
    (each_append right t.before os (ends_right s past e x f t.before m ended t.ends)
    (to_nodes_each (λ to body. (i : LetterId) → IsRight s (e ∷ past) e.actor.0 to body) s.nodes (Order c.epoch what (target what f))
    (λ to lt i. order_right s past e x what f w to m begun t so))) in
    let calm : IsCalm s past e x =
    record { epoch = begun.epoch; heard = λ q lt. (t.level q 1 lt (omega arith)).since; knows = λ is. cc (sym begun.phase ∙ is); last = last } in
    let tells = telling s past e x m calm in
    record {
      good = good_now s past e m.laws m.run m.apt m.at m.good (omega (arith, tells.epoch))
          (letters_told s past e m.laws.valid m.run.1 m.run.0 m.good tells last sent) so.fit so.silent
          (omega (arith, so.up_to.asked, t.asked))
          (subst (λ (d : Restarting). IsInPhase s (e ∷ past) d.phase) (sym m.state)
          (subst (λ (phase : RestartPhase). IsInPhase s (e ∷ past) phase) (sym begun.phase) (tells_steadily s past e x what f w m last begun t so)));
      anew = subst (λ (all : List Outgoing). Each (λ (o : Outgoing). IsGivenAnew s past o.body) all) (sym t.sent)
          (each_append (λ (o : Outgoing). IsGivenAnew s past o.body) t.before os (all_anew s past t.before (ends_nothing f t.before t.ends))
          (to_nodes_each (λ to body. IsGivenAnew s past body) s.nodes (Order c.epoch what (target what f)) (λ to lt. t.anew)));
    }
