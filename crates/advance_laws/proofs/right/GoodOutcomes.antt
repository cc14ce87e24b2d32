-- Entries of the coordinator, outcome by outcome: it forgets, an advancement is asked for or goes on, or the count does.
use Rattle.std.proofs.Common.{◌≡◌, ◌⊎◌, ℕ, ◌+◌, ◌<◌, ◌≤◌, ◌-◌, ◌==◌, Bool, true, false, List, [], ◌∷◌, refl, sym, ap, subst, ◌∙◌, arith}
use Rattle.std.proofs.lemmas.Bool.Decides.{nat_tests}
use Rattle.std.proofs.lemmas.List.{length-replicate}
use Rattle.tv_base.specs.Outside.{one_more}
use Rattle.tv_base.specs.declared.numbers.Version.{Version}
use Rattle.letter_types.specs.declared.bodies.Body.TheVariants.{Advanced, Ask, AskDone, Obeyed, Order}
use Rattle.letter_types.specs.declared.bodies.What.{What}
use Rattle.letter_types.specs.declared.bodies.What.TheVariants.{Turn as ToTurn, Show as ToShow, Sweep as ToSweep}
use Rattle.letter_types.specs.declared.entries.Entry.{Entry}
use Rattle.letter_types.specs.declared.entries.Letter.{Letter}
use Rattle.letter_types.specs.declared.entries.LetterId.{LetterId}
use Rattle.letter_types.specs.declared.entries.Outgoing.{Outgoing}
use Rattle.node_versions.specs.declared.turns.Turns.{Turns}
use Rattle.tx_trees.specs.ScriptData.{ScriptData}
use Rattle.world_model.specs.Coordinator.{to_nodes, version}
use Rattle.world_model.specs.Counts.{Each, tally}
use Rattle.world_model.specs.Restarting.{Restarting, after_doing, begin_counting, enter, forget, in_restart_phase, next_advance, next_epoch, orders, target, to_client, version_counted}
use Rattle.world_model.specs.Runs.{in_flight, restarting_in}
use Rattle.world_model.specs.declared.restarting.RestartPhase.{RestartPhase}
use Rattle.world_model.specs.declared.restarting.RestartPhase.TheVariants.{Idle, Doing, Counting}
use Rattle.world_model.proofs.Bags.{tally-drop}
use Rattle.world_model.proofs.Every.{each_append}
use Rattle.world_model.proofs.Orders.{to_nodes_each}
use Rattle.world_model.proofs.Restarts.{restarting_nodes}
use Rattle.advance_laws.specs.Advances.{asked_for}
use Rattle.advance_laws.specs.Given.{IsShownAnew, IsSweptAnew, greatest_given}
use Rattle.advance_laws.specs.Phases.{TurnStage, ShowStage, SweepStage}
use Rattle.advance_laws.specs.Quiet.{IsSilent}
use Rattle.advance_laws.proofs.counting.Waves.{going}
use Rattle.advance_laws.proofs.right.AfterCoordinator.{IsLast, OrderNothing, OrdersNothing, fits_still, given_still, good_now, letters_forgotten}
use Rattle.advance_laws.proofs.right.AtCoordinator.{calm_none, left_of, none_left, order_most}
use Rattle.advance_laws.proofs.recovery.Few.{IsFew}
use Rattle.advance_laws.proofs.right.Good.{IsCurrent, IsHeard, IsInPhase, IsRight, IsUpTo, LevelOf, ended_few, epoch_in, in_phase, order_to, token, turns_in}
use Rattle.advance_laws.proofs.right.GoodSteps.{AllAsk, IsAsk, IsMove, answer_token, asks_nothing, asks_right, steady_at, told_order, up_still}
use Rattle.advance_laws.proofs.right.GoodTells.{AllEnd, IsBegun, IsWell, ends_nothing, ends_right, good_calm, good_tells, well_by}
use Rattle.advance_laws.proofs.recovery.RecoverSteps.{next_each}
use Rattle.advance_laws.proofs.recovery.ToldLists.{none_told}

-- 1. It forgets: it gives nothing, and each node and the client are asked.
nothing_heard : (s : ScriptData) (past : List Entry) (e : Entry) → IsMove s past e (next_epoch (restarting_in s past)) → IsHeard s (e ∷ past)
nothing_heard s past e m = grind (arith, length-replicate, none_told, restarting_nodes)

forget_sends : (P : Outgoing → Type 0) (c : Restarting) → ((to : ℕ) → P (record { to = record { 0 = to }; body = Ask (one_more c.epoch) }))
    → Each P (forget c).sent
forget_sends P c all =
    each_append P (to_nodes c.nodes (Ask (one_more c.epoch))) (to_client (Ask (one_more c.epoch)) c ∷ [])
    (to_nodes_each (λ to body. P (record { to = record { 0 = to }; body = body })) c.nodes (Ask (one_more c.epoch)) (λ to lt. all to))
    (all (c.nodes + 1), tt)

pub well_forgets : (s : ScriptData) (past : List Entry) (e : Entry) → IsMove s past e (next_epoch (restarting_in s past))
    → e.sent ≡ (forget (restarting_in s past)).sent → IsFew s past → IsWell s past e
well_forgets s past e m is few =
    let c = restarting_in s past in
    let x = next_epoch c in
    let own = λ (P : Outgoing → Type 0) (all : (to : ℕ) → P (record { to = record { 0 = to }; body = Ask (one_more c.epoch) })).
    subst (λ (os : List Outgoing). Each P os) (sym is) (forget_sends P c all) in
    let nothing : OrderNothing e.sent = own (λ (o : Outgoing). OrdersNothing o.body) (λ to. tt) in
    let still = given_still past e nothing in
    let now : (restarting_in s (e ∷ past)).epoch ≡ one_more c.epoch = ap (λ (d : Restarting). d.epoch) m.state in
    let later : c.epoch < (restarting_in s (e ∷ past)).epoch = omega (arith, now, few.epoch) in
    well_by s past e nothing
    (good_now s past e m.laws m.run m.apt m.at m.good (omega (arith, later))
    (letters_forgotten s past e m.laws.valid m.run.1 m.good (record { at = m.at; given = still; epoch = later })
    (own (λ (o : Outgoing). (i : LetterId) → IsRight s (e ∷ past) e.actor.0 o.to.0 o.body) (λ to i. omega (arith, now))))
    (λ q lt. fits_still past e (turns_in s past q) still (m.good.within q lt))
    (λ v from lt. absurd (omega (arith, from, lt, still SweepStage)))
    (omega (arith, still TurnStage, m.good.asked))
    (subst (λ (d : Restarting). IsInPhase s (e ∷ past) d.phase) (sym m.state) (nothing_heard s past e m)))

-- 2. No letter of its epoch is there where it waits for none.
pub took_none : (s : ScriptData) (past : List Entry) (e : Entry) (x : Restarting) → IsMove s past e x
    → ((what : What) (v : Version) → IsCurrent (restarting_in s past) what v → ⊥) → IsLast s past e
took_none s past e x m calm =
    let d = (restarting_in s past).epoch in
    let none = calm_none s past calm m.good.letters in
    omega (arith, none, tally-drop (λ (l : Letter). token d l.from.0 l.to.0 l.body) e.took.id (in_flight s past) e.took m.run.0.waits)

-- 3. No advancement is in progress: one more is wanted.
idle_calm : (s : ScriptData) (past : List Entry) → (restarting_in s past).phase ≡ Idle → (what : What) (v : Version)
    → IsCurrent (restarting_in s past) what v → ⊥
idle_calm s past at what v is = cc (sym at ∙ is.phase)

goes_turn : (s : ScriptData) (past : List Entry) (e : Entry) (w : ℕ)
    → IsMove s past e (in_restart_phase (Doing ToTurn) (record (restarting_in s past) { wanted = w }))
    → e.sent ≡ orders (Doing ToTurn) (record (restarting_in s past) { wanted = w }) → (restarting_in s past).phase ≡ Idle
    → (restarting_in s past).ended < w → (restarting_in s past).wanted ≤ w → w ≤ asked_for s past → IsFew s past → IsWell s past e
goes_turn s past e w m sent at lt more asked few =
    let c = restarting_in s past in
    let was = in_phase s past Idle m.good at in
    good_tells s past e (in_restart_phase (Doing ToTurn) (record c { wanted = w })) ToTurn c.ended w m (took_none s past e _ m (idle_calm s past at))
    (record { phase = refl; epoch = refl; ended = refl; wanted = refl; acks = refl }) (record {
      before = [];
      sent = sent ∙ ap (λ (n : ℕ). to_nodes n (Order c.epoch ToTurn (target ToTurn c.ended))) (restarting_nodes s past);
      ends = tt;
      few = omega (arith, lt, asked, few.asked);
      level = λ q k lq some. omega (arith, was.level q lq, some);
      up_to = omega (arith, was.up_to, more);
      may = λ q lq. (was.level q lq).low;
      wanted = λ is. omega (arith, lt);
      asked = asked;
      from = λ is. absurd (cc is);
      silent = λ is. absurd (cc is);
      anew = tt;
    })

goes_idle : (s : ScriptData) (past : List Entry) (e : Entry) (w : ℕ)
    → IsMove s past e (in_restart_phase Idle (record (restarting_in s past) { wanted = w })) → e.sent ≡ []
    → (restarting_in s past).phase ≡ Idle → (restarting_in s past).wanted ≤ w → IsWell s past e
goes_idle s past e w m none at more =
    let c = restarting_in s past in
    let x = in_restart_phase Idle (record c { wanted = w }) in
    let was = in_phase s past Idle m.good at in
    let asks : AllAsk e.sent = subst AllAsk (sym none) tt in
    let nothing = asks_nothing e.sent asks in
    well_by s past e nothing
    (good_calm s past e x m
    (record { epoch = refl; heard = λ q lt. (was.level q lt).since; knows = λ is. cc is; last = took_none s past e x m (idle_calm s past at) })
    nothing (asks_right s (e ∷ past) e.actor.0 e.sent asks)
    (steady_at s past e x Idle m (λ q lt. omega (arith, was.level q lt)) tt (up_still past e c.ended c.wanted w (given_still past e nothing) more was.up_to)))

pub well_goes : (s : ScriptData) (past : List Entry) (e : Entry) (w : ℕ)
    → IsMove s past e (enter (next_advance w (restarting_in s past).ended) (record (restarting_in s past) { wanted = w })).state
    → e.sent ≡ (enter (next_advance w (restarting_in s past).ended) (record (restarting_in s past) { wanted = w })).sent
    → (restarting_in s past).phase ≡ Idle → (restarting_in s past).wanted ≤ w → w ≤ asked_for s past → IsFew s past
    → IsWell s past e
well_goes s past e w m sent at more asked few =
    let c = record (restarting_in s past) { wanted = w } in
    next_each (λ (p : RestartPhase). IsMove s past e (enter p c).state → e.sent ≡ (enter p c).sent → IsWell s past e) w c.ended
    (λ lt n is. goes_turn s past e w n is at lt more asked few) (λ le n is. goes_idle s past e w n is at more) m sent

-- 4. The last node has obeyed.
left_none : (ls : List Letter) (d q : ℕ) → Each (λ (l : Letter). token d l.from.0 l.to.0 l.body ≡ 0) ls
    → tally (λ (l : Letter). order_to d q l.from.0 l.to.0 l.body) ls ≡ 0
left_none [] d q none = refl
left_none (l ∷ ls) d q none = omega (arith, order_most d q l.from.0 l.to.0 l.body, none.0, left_none ls d q none.1)

-- no order is left either
no_orders : (s : ScriptData) (past : List Entry) (e : Entry) (x : Restarting) (q : ℕ) → IsMove s past e x → IsLast s past e
    → going (order_to (restarting_in s past).epoch q) s past ≡ 0
no_orders s past e x q m last =
    let d = (restarting_in s past).epoch in
    let f = λ (l : Letter). order_to d q l.from.0 l.to.0 l.body in
    omega (
      arith,
      left_none (left_of s past e) d q (none_left s past e m.run.0 last),
      tally-drop f e.took.id (in_flight s past) e.took m.run.0.waits,
      told_order d q e.took.from.0 e.took.to.0 e.took.body m.tells,
    )

-- the last answer is the last letter of its epoch
pub last_answer : (s : ScriptData) (past : List Entry) (e : Entry) (x : Restarting) (what : What) → s.nodes ≤ 64 → IsMove s past e x
    → (restarting_in s past).phase ≡ Doing what
    → e.took.body ≡ Obeyed (restarting_in s past).epoch what (target what (restarting_in s past).ended)
    → (one_more (restarting_in s past).acks == (restarting_in s past).nodes) ≡ true → IsLast s past e
last_answer s past e x what few m at bd is =
    let c = restarting_in s past in
    let was = (in_phase s past (Doing what) m.good at).tokens in
    let all : one_more c.acks ≡ c.nodes = grind (arith, nat_tests) in
    let one : one_more c.acks ≡ c.acks + 1 = omega (arith, was, few) in
    omega (arith, was, all, one, restarting_nodes s past, answer_token c e.took.from.0 e.took.to.0 e.took.body what bd)

-- how far nodes are then
obeyed_level : (s : ScriptData) (past : List Entry) (e : Entry) (x : Restarting) (what : What) (q : ℕ) → IsMove s past e x → IsLast s past e
    → (restarting_in s past).phase ≡ Doing what → q < s.nodes
    → LevelOf (Doing what) (restarting_in s past).ended (restarting_in s past).epoch (epoch_in s past q) (turns_in s past q) 0
obeyed_level s past e x what q m last at lt =
    let c = restarting_in s past in
    subst (λ (k : ℕ). LevelOf (Doing what) c.ended c.epoch (epoch_in s past q) (turns_in s past q) k) (no_orders s past e x q m last)
    ((in_phase s past (Doing what) m.good at).level q lt)

-- a round begins
begins_level : (what : What) (reads : Bool) (f e epoch : ℕ) (turns : Turns) (k : ℕ) → (what ≡ ToTurn) × (reads ≡ false) ⊎ (what ≡ ToShow) × (reads ≡ true)
    → LevelOf (Doing what) f e epoch turns 0 → LevelOf (Counting reads) f e epoch turns k
begins_level what reads f e epoch turns k is was = grind arith

pub asks_begun : (reads : Bool) (c : Restarting) → AllAsk (begin_counting reads c).sent
asks_begun reads c = to_nodes_each (λ to body. IsAsk body) c.nodes (AskDone (version_counted reads c) (one_more c.count.number)) (λ to lt. tt)

pub well_begins : (s : ScriptData) (past : List Entry) (e : Entry) (what : What) (reads : Bool)
    → IsMove s past e (begin_counting reads (restarting_in s past)).state → IsLast s past e
    → e.sent ≡ (begin_counting reads (restarting_in s past)).sent → (restarting_in s past).phase ≡ Doing what
    → (what ≡ ToTurn) × (reads ≡ false) ⊎ (what ≡ ToShow) × (reads ≡ true) → IsWell s past e
well_begins s past e what reads m last is at of =
    let c = restarting_in s past in
    let x = (begin_counting reads c).state in
    let was = in_phase s past (Doing what) m.good at in
    let asks : AllAsk e.sent = subst AllAsk (sym is) (asks_begun reads c) in
    let nothing = asks_nothing e.sent asks in
    well_by s past e nothing
    (good_calm s past e x m (record { epoch = refl; heard = λ q lt. (was.level q lt).since; knows = λ is. cc is; last = last }) nothing
    (asks_right s (e ∷ past) e.actor.0 e.sent asks)
    (steady_at s past e x (Counting reads) m
    (λ q lt.
    begins_level what reads c.ended c.epoch (epoch_in s past q) (turns_in s past q) (going (order_to c.epoch q) s (e ∷ past)) of
    (obeyed_level s past e x what q m last at lt))
    tt (up_still past e c.ended c.wanted c.wanted (given_still past e nothing) (omega arith) was.up_to)))

-- An advancement has ended.
swept_level : (f g e epoch : ℕ) (turns : Turns) (k : ℕ) → g ≡ f + 1 → 1 ≤ k → LevelOf (Doing ToSweep) f e epoch turns 0
    → LevelOf (Doing ToTurn) g e epoch turns k
swept_level f g e epoch turns k is some was = omega (arith, was, is, some)

idle_level : (f g e epoch : ℕ) (turns : Turns) (k : ℕ) → g ≡ f + 1 → LevelOf (Doing ToSweep) f e epoch turns 0 → LevelOf Idle g e epoch turns k
idle_level f g e epoch turns k is was = omega (arith, was, is)

up_next : (past : List Entry) (f w : ℕ) → IsUpTo past f w → IsUpTo past (f + 1) w
up_next past f w was = omega (arith, was)

ends_turn : (s : ScriptData) (past : List Entry) (e : Entry)
    → IsMove s past e (in_restart_phase (Doing ToTurn) (record (restarting_in s past) { ended = one_more (restarting_in s past).ended }))
    → IsLast s past e
    → e.sent ≡ to_client (Advanced (version (one_more (restarting_in s past).ended))) (restarting_in s past)
    ∷ orders (Doing ToTurn) (record (restarting_in s past) { ended = one_more (restarting_in s past).ended })
    → (restarting_in s past).phase ≡ Doing ToSweep → one_more (restarting_in s past).ended < (restarting_in s past).wanted → IsFew s past → IsWell s past e
ends_turn s past e m last is at lt few =
    let c = restarting_in s past in
    let f = one_more c.ended in
    let x = in_restart_phase (Doing ToTurn) (record c { ended = f }) in
    let was = in_phase s past (Doing ToSweep) m.good at in
    let next : f ≡ c.ended + 1 = omega (arith, ended_few s past (Doing ToSweep) m.laws.valid m.good was) in
    let level = λ (q k : ℕ) (lq : q < s.nodes) (some : 1 ≤ k).
    swept_level c.ended f c.epoch (epoch_in s past q) (turns_in s past q) k next some (obeyed_level s past e x ToSweep q m last at lq) in
    good_tells s past e x ToTurn f c.wanted m last (record { phase = refl; epoch = refl; ended = refl; wanted = refl; acks = refl }) (record {
      before = to_client (Advanced (version f)) c ∷ [];
      sent = is ∙ ap (λ (n : ℕ). to_client (Advanced (version f)) c ∷ to_nodes n (Order c.epoch ToTurn (target ToTurn f))) (restarting_nodes s past);
      ends = (refl, tt);
      few = omega (arith, lt, few.wanted, few.asked);
      level = level;
      up_to = subst (λ (n : ℕ). IsUpTo past n c.wanted) (sym next) (up_next past c.ended c.wanted was.up_to);
      may = λ q lq. (level q 1 lq (omega arith)).low;
      wanted = λ same. omega (arith, lt);
      asked = few.wanted;
      from = λ same. absurd (cc same);
      silent = λ same. absurd (cc same);
      anew = tt;
    })

ends_idle : (s : ScriptData) (past : List Entry) (e : Entry)
    → IsMove s past e (in_restart_phase Idle (record (restarting_in s past) { ended = one_more (restarting_in s past).ended }))
    → IsLast s past e
    → e.sent ≡ to_client (Advanced (version (one_more (restarting_in s past).ended))) (restarting_in s past) ∷ []
    → (restarting_in s past).phase ≡ Doing ToSweep → IsWell s past e
ends_idle s past e m last is at =
    let c = restarting_in s past in
    let f = one_more c.ended in
    let x = in_restart_phase Idle (record c { ended = f }) in
    let was = in_phase s past (Doing ToSweep) m.good at in
    let next : f ≡ c.ended + 1 = omega (arith, ended_few s past (Doing ToSweep) m.laws.valid m.good was) in
    let level = λ (q k : ℕ) (lq : q < s.nodes).
    idle_level c.ended f c.epoch (epoch_in s past q) (turns_in s past q) k next (obeyed_level s past e x ToSweep q m last at lq) in
    let ends : AllEnd f e.sent = subst (AllEnd f) (sym is) (refl, tt) in
    let nothing = ends_nothing f e.sent ends in
    let still = given_still past e nothing in
    well_by s past e nothing
    (good_calm s past e x m (record { epoch = refl; heard = λ q lq. (level q 0 lq).since; knows = λ same. cc same; last = last }) nothing
    (ends_right s past e x f e.sent m (λ q lq. (level q 0 lq).low) ends)
    (steady_at s past e x Idle m (λ q lq. level q (going (order_to c.epoch q) s (e ∷ past)) lq) tt
    (up_still past e f c.wanted c.wanted still (omega arith) (subst (λ (n : ℕ). IsUpTo past n c.wanted) (sym next) (up_next past c.ended c.wanted was.up_to)))))

pub well_ends : (s : ScriptData) (past : List Entry) (e : Entry)
    → IsMove s past e (after_doing ToSweep (restarting_in s past)).state → IsLast s past e
    → e.sent ≡ (after_doing ToSweep (restarting_in s past)).sent
    → (restarting_in s past).phase ≡ Doing ToSweep → IsFew s past → IsWell s past e
well_ends s past e m last is at few =
    let c = restarting_in s past in
    let f = one_more c.ended in
    let x = record c { ended = f } in
    next_each
    (λ (p : RestartPhase). IsMove s past e (in_restart_phase p x)
    → e.sent ≡ to_client (Advanced (version f)) c ∷ orders p x → IsWell s past e) c.wanted f
    (λ lt n sent. ends_turn s past e n last sent at lt few) (λ le n sent. ends_idle s past e n last sent at) m is

-- 5. A count agrees: the version is shown, or swept to.
counting_calm : (s : ScriptData) (past : List Entry) (reads : Bool) → (restarting_in s past).phase ≡ Counting reads → (what : What) (v : Version)
    → IsCurrent (restarting_in s past) what v → ⊥
counting_calm s past reads at what v is = cc (sym at ∙ is.phase)

before : (f : ℕ) → f ≡ f + 1 - 1
before f = omega arith

-- what is shown, or swept to, was before, or it is quiet
shown_anew : (s : ScriptData) (past : List Entry) (f : ℕ) (v : Version) → v.0 ≡ f + 1 → f ≤ greatest_given ShowStage past
    → (greatest_given ShowStage past < f + 1 → IsSilent s past (f + 1)) → ((q : ℕ) → q < s.nodes → f + 1 < (turns_in s past q).update.0)
    → IsShownAnew s past v.0
shown_anew s past f v is from silent above = grind arith

swept_anew : (s : ScriptData) (past : List Entry) (f : ℕ) (v : Version) → v.0 ≡ f + 1 → f ≤ greatest_given SweepStage past
    → (greatest_given SweepStage past ≤ f → IsSilent s past f) → ((q : ℕ) → q < s.nodes → f + 1 ≤ (turns_in s past q).read.0)
    → IsSweptAnew s past v.0
swept_anew s past f v is from silent above = grind arith

pub well_shows : (s : ScriptData) (past : List Entry) (e : Entry) (x : Restarting) → IsMove s past e x
    → IsBegun (restarting_in s past) x ToShow (restarting_in s past).ended (restarting_in s past).wanted
    → e.sent ≡ to_nodes (restarting_in s past).nodes (Order (restarting_in s past).epoch ToShow (target ToShow (restarting_in s past).ended))
    → (restarting_in s past).phase ≡ Counting false → IsFew s past
    → (greatest_given ShowStage past < (restarting_in s past).ended + 1 → IsSilent s past ((restarting_in s past).ended + 1)) → IsWell s past e
well_shows s past e x m begun is at few silent =
    let c = restarting_in s past in
    let was = in_phase s past (Counting false) m.good at in
    let most = ended_few s past (Counting false) m.laws.valid m.good was in
    let next : (target ToShow c.ended).0 ≡ c.ended + 1 = omega (arith, most) in
    good_tells s past e x ToShow c.ended c.wanted m (took_none s past e x m (counting_calm s past false at)) begun (record {
      before = [];
      sent = is ∙ ap (λ (n : ℕ). to_nodes n (Order c.epoch ToShow (target ToShow c.ended))) (restarting_nodes s past);
      ends = tt;
      few = omega (arith, most);
      level = λ q k lq some. omega (arith, was.level q lq, some);
      up_to = was.up_to;
      may = λ q lq. ((was.level q lq).low, omega (arith, (was.level q lq).update));
      wanted = λ same. absurd (cc same);
      asked = few.wanted;
      from = λ same. absurd (cc same);
      silent = λ same. absurd (cc same);
      anew = shown_anew s past c.ended (target ToShow c.ended) next
          (let some = was.level 0 m.laws.valid.some_nodes in let w = m.good.within 0 m.laws.valid.some_nodes in
          omega (arith, some.low, w.low_swept, w.swept_read, w.read_showed)) silent
          (λ q lq. omega (arith, (was.level q lq).update));
    })

pub well_sweeps : (s : ScriptData) (past : List Entry) (e : Entry) (x : Restarting) → IsMove s past e x
    → IsBegun (restarting_in s past) x ToSweep (restarting_in s past).ended (restarting_in s past).wanted
    → e.sent ≡ to_nodes (restarting_in s past).nodes (Order (restarting_in s past).epoch ToSweep (target ToSweep (restarting_in s past).ended))
    → (restarting_in s past).phase ≡ Counting true → IsFew s past
    → (greatest_given SweepStage past ≤ (restarting_in s past).ended → IsSilent s past (restarting_in s past).ended) → IsWell s past e
well_sweeps s past e x m begun is at few silent =
    let c = restarting_in s past in
    let was = in_phase s past (Counting true) m.good at in
    let most = ended_few s past (Counting true) m.laws.valid m.good was in
    let next : (target ToSweep c.ended).0 ≡ c.ended + 1 = omega (arith, most) in
    let some = was.level 0 m.laws.valid.some_nodes in
    let from : c.ended ≤ greatest_given SweepStage past = omega (arith, some.low, (m.good.within 0 m.laws.valid.some_nodes).low_swept) in
    good_tells s past e x ToSweep c.ended c.wanted m (took_none s past e x m (counting_calm s past true at)) begun (record {
      before = [];
      sent = is ∙ ap (λ (n : ℕ). to_nodes n (Order c.epoch ToSweep (target ToSweep c.ended))) (restarting_nodes s past);
      ends = tt;
      few = omega (arith, most);
      level = λ q k lq one. omega (arith, was.level q lq, one);
      up_to = was.up_to;
      may = λ q lq. ((was.level q lq).low, (was.level q lq).read);
      wanted = λ same. absurd (cc same);
      asked = few.wanted;
      from = λ same. from;
      silent = λ same new. record {
        silent = silent new;
        closed = λ p lp. ((λ eq. omega (arith, eq, (was.level p lp).update)), (λ eq. omega (arith, eq, (was.level p lp).read)));
      };
      anew = swept_anew s past c.ended (target ToSweep c.ended) next from silent (λ q lq. (was.level q lq).read);
    })
