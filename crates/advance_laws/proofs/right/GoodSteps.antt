-- Entries of the coordinator that ask at most: nothing new is given.
use Rattle.std.proofs.Common.{◌≡◌, ◌⊎◌, inl, inr, ℕ, ◌+◌, ◌<◌, ◌≤◌, Bool, true, false, List, [], ◌∷◌, length, refl, sym, ap, subst, ◌∙◌, arith, Some}
use Rattle.tv_base.specs.Outside.{one_more}
use Rattle.tv_base.specs.declared.numbers.Version.{Version}
use Rattle.letter_types.specs.declared.bodies.Body.{Body}
use Rattle.letter_types.specs.declared.bodies.Body.TheVariants.{Go, AskAsked, AskDone, Obeyed}
use Rattle.letter_types.specs.declared.bodies.What.{What}
use Rattle.letter_types.specs.declared.entries.Entry.{Entry}
use Rattle.letter_types.specs.declared.entries.LetterId.{LetterId}
use Rattle.letter_types.specs.declared.entries.Outgoing.{Outgoing}
use Rattle.node_versions.specs.declared.turns.Turns.{Turns}
use Rattle.tx_trees.specs.ScriptData.{ScriptData}
use Rattle.world_model.specs.AllApt.{AllApt}
use Rattle.world_model.specs.Counts.{Each}
use Rattle.world_model.specs.Keeping.{KeepingNode}
use Rattle.world_model.specs.Restarting.{Restarting, target}
use Rattle.world_model.specs.Runs.{IsStepRun, MayFollow, restarting_in}
use Rattle.world_model.specs.declared.restarting.RestartPhase.{RestartPhase}
use Rattle.world_model.specs.declared.restarting.RestartPhase.TheVariants.{Idle, Recovering, Doing, Counting, Paused}
use Rattle.world_model.specs.declared.restarting.Told.{Told}
use Rattle.world_model.proofs.Every.{each_map}
use Rattle.world_model.proofs.Bags.{one_if_same}
use Rattle.advance_laws.specs.Given.{greatest_given}
use Rattle.advance_laws.specs.Phases.{TurnStage, ShowStage, SweepStage}
use Rattle.advance_laws.proofs.governed.Lawful.{IsTreeLawful}
use Rattle.advance_laws.proofs.phases.Progress.{TellsAnew}
use Rattle.advance_laws.proofs.counting.Waves.{flow_of, going}
use Rattle.advance_laws.proofs.right.AfterCoordinator.{OrderNothing, OrdersNothing, fits_still, given_still, good_now, letters_kept, orders_none, tokens_none}
use Rattle.advance_laws.proofs.right.AtCoordinator.{held_at}
use Rattle.advance_laws.proofs.right.Good.{AreTokens, IsCurrent, IsGood, IsHeard, IsHeardOf, IsInPhase, IsRight, IsSteady, IsUpTo, Knows, LevelOf, epoch_in, in_phase, order_to, token, took_right, turns_in}
use Rattle.advance_laws.proofs.recovery.RestartSteps.{IsLeft}
use Rattle.advance_laws.proofs.right.RightAfter.{IsGivenStill}
use Rattle.advance_laws.proofs.recovery.ToldLists.{HasTold}

-- A question of a round.
abbrev pub IsAsk : Body → Type 0
IsAsk (AskDone v k) = Unit {0}
IsAsk (AskAsked v k) = Unit {0}
IsAsk Go = ⊥
IsAsk _ = ⊥

abbrev pub AllAsk : List Outgoing → Type 0
AllAsk os = Each (λ (o : Outgoing). IsAsk o.body) os

ask_nothing : (body : Body) → IsAsk body → OrdersNothing body
ask_nothing body is = grind arith

ask_right : (s : ScriptData) (past : List Entry) (from to : ℕ) (body : Body) → IsAsk body → IsRight s past from to body
ask_right s past from to body is = grind arith

pub asks_nothing : (os : List Outgoing) → AllAsk os → OrderNothing os
asks_nothing os all = each_map (λ (o : Outgoing). IsAsk o.body) (λ (o : Outgoing). OrdersNothing o.body) os (λ o is. ask_nothing o.body is) all

pub asks_right : (s : ScriptData) (past : List Entry) (from : ℕ) (os : List Outgoing) → AllAsk os
    → Each (λ (o : Outgoing). (i : LetterId) → IsRight s past from o.to.0 o.body) os
asks_right s past from os all =
    each_map (λ (o : Outgoing). IsAsk o.body) (λ (o : Outgoing). (i : LetterId) → IsRight s past from o.to.0 o.body) os
    (λ o is i. ask_right s past from o.to.0 o.body is) all

-- An entry of the coordinator of which all this is known: it comes to coordinator x.
pub record IsMove (s : ScriptData) (past : List Entry) (e : Entry) (x : Restarting) : Type 0 where
  pub laws : IsTreeLawful s
  pub run : IsStepRun s (e ∷ past)
  pub apt : AllApt s (e ∷ past)
  pub at : e.actor.0 ≡ s.nodes
  pub good : IsGood s past
  pub tells : TellsAnew e.took.body
  pub state : restarting_in s (e ∷ past) ≡ x

-- the coordinator knows how many advancements have ended
pub steady_at : (s : ScriptData) (past : List Entry) (e : Entry) (x : Restarting) (phase : RestartPhase) → IsMove s past e x
    → ((q : ℕ) → q < s.nodes
    → LevelOf phase x.ended x.epoch (epoch_in s past q) (turns_in s past q) (going (order_to x.epoch q) s (e ∷ past)))
    → AreTokens phase (going (token x.epoch) s (e ∷ past)) x.acks s.nodes → IsUpTo (e ∷ past) x.ended x.wanted → IsSteady s (e ∷ past) phase
steady_at s past e x phase m level tokens up_to = record {
  level = λ q lt.
      subst (λ (c : Restarting). LevelOf phase c.ended c.epoch (epoch_in s (e ∷ past) q) (turns_in s (e ∷ past) q) (going (order_to c.epoch q) s (e ∷ past)))
      (sym m.state)
      (held_at (λ (n : KeepingNode). LevelOf phase x.ended x.epoch n.core.epoch n.core.node.turns (going (order_to x.epoch q) s (e ∷ past)))
      s past e q m.at lt (level q lt));
  tokens = subst (λ (c : Restarting). AreTokens phase (going (token c.epoch) s (e ∷ past)) c.acks s.nodes) (sym m.state) tokens;
  up_to = subst (λ (c : Restarting). IsUpTo (e ∷ past) c.ended c.wanted) (sym m.state) up_to;
}

-- or it has heard so much
pub heard_at : (s : ScriptData) (past : List Entry) (e : Entry) (x : Restarting) → IsMove s past e x → IsGivenStill past e
    → x.epoch ≡ (restarting_in s past).epoch → length x.told ≡ s.nodes
    → ((q : ℕ) (t : Told) → q < s.nodes → HasTold x.told q t → IsHeardOf s past q t)
    → ((k : ℕ) → x.heard ≡ Some k → greatest_given TurnStage past ≤ k + 1) → IsHeard s (e ∷ past)
heard_at s past e x m still epoch places nodes client = grind arith

pub up_still : (past : List Entry) (e : Entry) (f w v : ℕ) → IsGivenStill past e → w ≤ v → IsUpTo past f w → IsUpTo (e ∷ past) f v
up_still past e f w v still le was = omega (arith, was, le, still TurnStage, still ShowStage, still SweepStage)

-- 1. It asks at most, in the same epoch, and waits for what it waited for.
pub good_stays : (s : ScriptData) (past : List Entry) (e : Entry) (x : Restarting) → IsMove s past e x
    → x.epoch ≡ (restarting_in s past).epoch → AllAsk e.sent
    → ((what : What) (v : Version) → IsCurrent (restarting_in s past) what v → IsCurrent x what v)
    → (x.phase ≡ Recovering → (restarting_in s past).phase ≡ Recovering) → IsInPhase s (e ∷ past) x.phase → IsGood s (e ∷ past)
good_stays s past e x m epoch asks current recovers phased =
    let c = restarting_in s past in
    let still = given_still past e (asks_nothing e.sent asks) in
    let same : (restarting_in s (e ∷ past)).epoch ≡ c.epoch = ap (λ (d : Restarting). d.epoch) m.state ∙ epoch in
    good_now s past e m.laws m.run m.apt m.at m.good (omega (arith, same))
    (letters_kept s past e m.laws.valid m.run.1 m.good (record {
      at = m.at;
      given = still;
      epoch = same;
      current = λ what v is. subst (λ (d : Restarting). IsCurrent d what v) (sym m.state) (current what v is);
      recovers = λ is. recovers (sym (ap (λ (d : Restarting). d.phase) m.state) ∙ is);
    }) (asks_right s (e ∷ past) e.actor.0 e.sent asks))
    (λ q lt. fits_still past e (turns_in s past q) still (m.good.within q lt))
    (λ v from lt. absurd (omega (arith, from, lt, still SweepStage)))
    (omega (arith, still TurnStage, m.good.asked))
    (subst (λ (d : Restarting). IsInPhase s (e ∷ past) d.phase) (sym m.state) phased)

-- Orders and answers in flight then: of what is told the coordinator nothing is an order.
pub told_order : (d q from to : ℕ) (body : Body) → TellsAnew body → order_to d q from to body ≡ 0
told_order d q from to body tells = grind arith

orders_same : (s : ScriptData) (past : List Entry) (e : Entry) (d q : ℕ) → MayFollow s past e → TellsAnew e.took.body → AllAsk e.sent
    → going (order_to d q) s (e ∷ past) ≡ going (order_to d q) s past
orders_same s past e d q m tells asks = grind (arith, asks_nothing, flow_of, orders_none)

tokens_same : (s : ScriptData) (past : List Entry) (e : Entry) (d : ℕ) → MayFollow s past e → AllAsk e.sent
    → going (token d) s (e ∷ past) + token d e.took.from.0 e.actor.0 e.took.body ≡ going (token d) s past
tokens_same s past e d m asks =
    omega (arith, flow_of (token d) s past e m, tokens_none d e.actor.0 e.sent (asks_nothing e.sent asks))

-- 2. The phase stays, and more advancements may be wanted.
-- a letter that changes nothing is no answer to the present order
left_token : (s : ScriptData) (past : List Entry) (from to : ℕ) (body : Body) (doing : What) → (restarting_in s past).phase ≡ Doing doing
    → IsLeft body (Doing doing) from (restarting_in s past) → TellsAnew body → IsRight s past from to body
    → token (restarting_in s past).epoch from to body ≡ 0
left_token s past from to body doing at left tells right = grind arith

steady_same : (s : ScriptData) (past : List Entry) (e : Entry) (w : ℕ) (phase : RestartPhase)
    → IsMove s past e (record (restarting_in s past) { wanted = w }) → (restarting_in s past).wanted ≤ w → AllAsk e.sent
    → (AreTokens phase (going (token (restarting_in s past).epoch) s past) (restarting_in s past).acks s.nodes
    → AreTokens phase (going (token (restarting_in s past).epoch) s (e ∷ past)) (restarting_in s past).acks s.nodes)
    → IsSteady s past phase → IsSteady s (e ∷ past) phase
steady_same s past e w phase m more asks tokens was =
    let c = restarting_in s past in
    steady_at s past e (record c { wanted = w }) phase m
    (λ q lt.
    subst (λ (k : ℕ). LevelOf phase c.ended c.epoch (epoch_in s past q) (turns_in s past q) k)
    (sym (orders_same s past e c.epoch q m.run.0 m.tells asks)) (was.level q lt))
    (tokens was.tokens) (up_still past e c.ended c.wanted w (given_still past e (asks_nothing e.sent asks)) more was.up_to)

phased_same : (s : ScriptData) (past : List Entry) (e : Entry) (w : ℕ) (phase : RestartPhase)
    → IsMove s past e (record (restarting_in s past) { wanted = w }) → (restarting_in s past).wanted ≤ w → AllAsk e.sent
    → ((what : What) → phase ≡ Doing what → token (restarting_in s past).epoch e.took.from.0 e.actor.0 e.took.body ≡ 0)
    → IsInPhase s past phase → IsInPhase s (e ∷ past) phase
phased_same s past e w Recovering m more asks none was =
    let c = restarting_in s past in
    heard_at s past e (record c { wanted = w }) m (given_still past e (asks_nothing e.sent asks)) refl was.places was.nodes was.client
phased_same s past e w Idle m more asks none was = steady_same s past e w Idle m more asks (λ tokens. tt) was
phased_same s past e w (Doing what) m more asks none was =
    steady_same s past e w (Doing what) m more asks
    (λ tokens. omega (arith, tokens, none what refl, tokens_same s past e (restarting_in s past).epoch m.run.0 asks)) was
phased_same s past e w (Counting reads) m more asks none was = steady_same s past e w (Counting reads) m more asks (λ tokens. tt) was
phased_same s past e w (Paused reads) m more asks none was = steady_same s past e w (Paused reads) m more asks (λ tokens. tt) was

pub good_same : (s : ScriptData) (past : List Entry) (e : Entry) (w : ℕ)
    → IsMove s past e (record (restarting_in s past) { wanted = w }) → (restarting_in s past).wanted ≤ w → AllAsk e.sent
    → ((what : What) → (restarting_in s past).phase ≡ Doing what → token (restarting_in s past).epoch e.took.from.0 e.actor.0 e.took.body ≡ 0)
    → IsGood s (e ∷ past)
good_same s past e w m more asks none =
    good_stays s past e (record (restarting_in s past) { wanted = w }) m refl asks
    (λ what v is. record { phase = is.phase; version = is.version }) (λ is. is)
    (phased_same s past e w (restarting_in s past).phase m more asks none m.good.phased)

pub good_rests : (s : ScriptData) (past : List Entry) (e : Entry) → IsMove s past e (restarting_in s past) → e.sent ≡ []
    → IsLeft e.took.body (restarting_in s past).phase e.took.from.0 (restarting_in s past) → IsGood s (e ∷ past)
good_rests s past e m none left =
    let c = restarting_in s past in
    good_same s past e c.wanted m (omega arith) (subst AllAsk (sym none) tt)
    (λ what at.
    left_token s past e.took.from.0 e.actor.0 e.took.body what at
    (subst (λ (phase : RestartPhase). IsLeft e.took.body phase e.took.from.0 c) at left) m.tells
    (subst (λ (n : ℕ). IsRight s past e.took.from.0 n e.took.body) m.run.0.addressee
    (took_right s past e e.took.body m.good m.run.0 refl)))

-- 3. One node more has obeyed.
pub answer_token : (c : Restarting) (from to : ℕ) (body : Body) (what : What) → body ≡ Obeyed c.epoch what (target what c.ended)
    → token c.epoch from to body ≡ 1
answer_token c from to body what is = ap (token c.epoch from to) is ∙ one_if_same c.epoch

few_acks : (acks nodes tokens : ℕ) → tokens + acks ≡ nodes → nodes ≤ 64 → one_more acks ≡ acks + 1
few_acks acks nodes tokens is few = omega (arith, is, few)

pub good_acks : (s : ScriptData) (past : List Entry) (e : Entry) (what : What) → s.nodes ≤ 64
    → IsMove s past e (record (restarting_in s past) { acks = one_more (restarting_in s past).acks }) → e.sent ≡ []
    → (restarting_in s past).phase ≡ Doing what
    → e.took.body ≡ Obeyed (restarting_in s past).epoch what (target what (restarting_in s past).ended) → IsGood s (e ∷ past)
good_acks s past e what few m none at bd =
    let c = restarting_in s past in
    let x = record c { acks = one_more c.acks } in
    let asks : AllAsk e.sent = subst AllAsk (sym none) tt in
    let was = in_phase s past (Doing what) m.good at in
    let next = few_acks c.acks s.nodes (going (token c.epoch) s past) was.tokens few in
    good_stays s past e x m refl asks (λ w v is. record { phase = is.phase; version = is.version }) (λ is. is)
    (subst (λ (phase : RestartPhase). IsInPhase s (e ∷ past) phase) (sym at)
    (steady_at s past e x (Doing what) m
    (λ q lt.
    subst (λ (k : ℕ). LevelOf (Doing what) c.ended c.epoch (epoch_in s past q) (turns_in s past q) k)
    (sym (orders_same s past e c.epoch q m.run.0 m.tells asks)) (was.level q lt))
    (omega (
      arith,
      was.tokens,
      next,
      answer_token c e.took.from.0 e.actor.0 e.took.body what bd,
      tokens_same s past e c.epoch m.run.0 asks,
    ))
    (up_still past e c.ended c.wanted c.wanted (given_still past e (asks_nothing e.sent asks)) (omega arith) was.up_to)))

-- 4. The count goes on, or pauses.
abbrev pub IsCountOf : Bool → RestartPhase → Type 0
IsCountOf reads (Counting r) = r ≡ reads
IsCountOf reads (Paused r) = r ≡ reads
IsCountOf reads Idle = ⊥
IsCountOf reads _ = ⊥

-- whose bounds are the same in both phases
counts_by : (phase : RestartPhase) (reads : Bool) → IsCountOf reads phase → (phase ≡ Counting reads) ⊎ (phase ≡ Paused reads)
counts_by phase reads is = grind arith

steady_count : (s : ScriptData) (past : List Entry) (phase : RestartPhase) (reads : Bool) → (phase ≡ Counting reads) ⊎ (phase ≡ Paused reads)
    → IsInPhase s past phase → IsSteady s past (Counting reads)
steady_count s past phase reads is was = grind arith

back_count : (s : ScriptData) (past : List Entry) (phase : RestartPhase) (reads : Bool) → (phase ≡ Counting reads) ⊎ (phase ≡ Paused reads)
    → IsSteady s past (Counting reads) → IsInPhase s past phase
back_count s past phase reads is was = grind arith

not_doing : (phase : RestartPhase) (reads : Bool) (what : What) → (phase ≡ Counting reads) ⊎ (phase ≡ Paused reads) → phase ≡ Doing what → ⊥
not_doing phase reads what (inl is) doing = cc (is, doing)
not_doing phase reads what (inr is) doing = cc (is, doing)

not_recovering : (phase : RestartPhase) (reads : Bool) → (phase ≡ Counting reads) ⊎ (phase ≡ Paused reads) → Knows phase
not_recovering phase reads (inl is) recovers = cc (is, recovers)
not_recovering phase reads (inr is) recovers = cc (is, recovers)

counted_level : (reads : Bool) (f e epoch : ℕ) (turns : Turns) (k j : ℕ) → LevelOf (Counting reads) f e epoch turns k → LevelOf (Counting reads) f e epoch turns j
counted_level true f e epoch turns k j was = omega (arith, was)
counted_level false f e epoch turns k j was = omega (arith, was)

pub good_counts : (s : ScriptData) (past : List Entry) (e : Entry) (x : Restarting) (reads : Bool) → IsMove s past e x
    → IsCountOf reads (restarting_in s past).phase → IsCountOf reads x.phase → x.epoch ≡ (restarting_in s past).epoch
    → x.ended ≡ (restarting_in s past).ended → x.wanted ≡ (restarting_in s past).wanted → AllAsk e.sent → IsGood s (e ∷ past)
good_counts s past e x reads m before after epoch ended wanted asks =
    let c = restarting_in s past in
    let old = counts_by c.phase reads before in
    let new = counts_by x.phase reads after in
    let was = steady_count s past c.phase reads old m.good.phased in
    good_stays s past e x m epoch asks (λ what v is. absurd (not_doing c.phase reads what old is.phase))
    (λ is. absurd (not_recovering x.phase reads new is))
    (back_count s (e ∷ past) x.phase reads new
    (steady_at s past e x (Counting reads) m
    (λ q lt.
    subst (λ (d : ℕ). LevelOf (Counting reads) x.ended d (epoch_in s past q) (turns_in s past q) (going (order_to x.epoch q) s (e ∷ past))) (sym epoch)
    (subst (λ (f : ℕ). LevelOf (Counting reads) f c.epoch (epoch_in s past q) (turns_in s past q) (going (order_to x.epoch q) s (e ∷ past))) (sym ended)
    (counted_level reads c.ended c.epoch (epoch_in s past q) (turns_in s past q) (going (order_to c.epoch q) s past)
    (going (order_to x.epoch q) s (e ∷ past)) (was.level q lt))))
    tt
    (subst (λ (f : ℕ). IsUpTo (e ∷ past) f x.wanted) (sym ended)
    (up_still past e c.ended c.wanted x.wanted (given_still past e (asks_nothing e.sent asks)) (omega (arith, wanted)) was.up_to))))
