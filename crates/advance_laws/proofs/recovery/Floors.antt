-- From where on the versions of nodes are while a coordinator that forgets recovers, and what they tell it. It goes on from
-- there.
use Rattle.std.proofs.Common.{◌≡◌, ◌≢◌, ℕ, zero, suc, ◌+◌, ◌<◌, ◌≤◌, Bool, true, List, [], ◌∷◌, length, refl, sym, ap, subst, ◌∙◌, arith, Option, Some, None}
use Rattle.std.specs.Prelude.{is_some, replicate}
use Rattle.std.specs.List.{list_all, list_any}
use Rattle.std.proofs.lemmas.Bool.{or_left, or_right, eq-eqb}
use Rattle.std.proofs.lemmas.Option.{slice_get_within}
use Rattle.tv_base.specs.Outside.{one_more}
use Rattle.tv_base.specs.declared.numbers.Version.{Version}
use Rattle.letter_types.specs.declared.bodies.Body.{Body}
use Rattle.letter_types.specs.declared.bodies.Body.TheVariants.{Ask, Go, Numbers}
use Rattle.letter_types.specs.declared.entries.Entry.{Entry}
use Rattle.letter_types.specs.declared.entries.Letter.{Letter}
use Rattle.letter_types.specs.declared.entries.LetterId.{LetterId}
use Rattle.letter_types.specs.declared.entries.Outgoing.{Outgoing}
use Rattle.tx_trees.specs.ScriptData.{ScriptData}
use Rattle.tx_trees.specs.Valid.{IsValid}
use Rattle.world_model.specs.Counts.{Each, one_if}
use Rattle.world_model.specs.Keeping.{KeepingNode}
use Rattle.world_model.specs.Restarting.{AllTold, Restarting, least_low, read_is}
use Rattle.world_model.specs.Runs.{MayFollow, in_flight, keeping_in, restarting_in}
use Rattle.world_model.specs.declared.restarting.Told.{Told}
use Rattle.world_model.proofs.Every.{each_map, each_step, each_taken}
use Rattle.advance_laws.proofs.phases.Outcomes.{one_more_is}
use Rattle.advance_laws.proofs.counting.Waves.{set_get}
use Rattle.advance_laws.proofs.right.Aside.{Aside, IsSentBy, sends_aside}
use Rattle.advance_laws.proofs.right.AtCoordinator.{held_at}
use Rattle.advance_laws.proofs.right.Good.{IsGood, IsHeardOf, IsLetterRight, IsRight, low_few, turns_in}
use Rattle.advance_laws.proofs.ending.Prices.{TellsMore}
use Rattle.advance_laws.proofs.right.Away.{restarting_kept}
use Rattle.advance_laws.proofs.right.GoodResumes.{HasHeard}
use Rattle.advance_laws.proofs.right.Rising.{Rises, fares}
use Rattle.advance_laws.proofs.recovery.ToldLists.{HasTold, SomeTold, least_told, none_told}

-- f advancements have ended where a node has these versions, and the next one is shown there, if that is said
pub record IsFrom (f : ℕ) (shown : Bool) (r l : ℕ) : Type 0 where
  pub low : f ≤ l
  pub read : f + one_if shown ≤ r

-- a node that tells its numbers in epoch e is so far
abbrev pub TellsFrom : ℕ → ℕ → Bool → Body → Type 0
TellsFrom e f shown (Numbers d u r l) = d ≡ e → IsFrom f shown r.0 l.0
TellsFrom e f shown Go = Unit {0}
TellsFrom e f shown _ = Unit {0}

-- a question of a coordinator that has forgotten
abbrev pub AsksAnew : Body → Type 0
AsksAnew (Ask e) = Unit {0}
AsksAnew _ = ⊥

abbrev pub AllAskAnew : List Outgoing → Type 0
AllAskAnew os = Each (λ (o : Outgoing). AsksAnew o.body) os

anew_from : (n f : ℕ) (shown : Bool) (body : Body) → AsksAnew body → TellsFrom n f shown body
anew_from n f shown (Ask e) ask = tt
anew_from n f shown _ ask = absurd ask

-- each node is so far, now and in what it tells in this epoch
pub record IsFloor (s : ScriptData) (past : List Entry) (f : ℕ) (shown : Bool) : Type 0 where
  pub nodes : (q : ℕ) → q < s.nodes → IsFrom f shown (turns_in s past q).read.0 (turns_in s past q).low.0
  pub letters : Each (λ (l : Letter). TellsFrom (restarting_in s past).epoch f shown l.body) (in_flight s past)
  pub told : (q : ℕ) (t : Told) → HasTold (restarting_in s past).told q t → IsFrom f shown t.read.0 t.low.0

-- Entries of the client and of nodes.
sent_from : (s : ScriptData) (past : List Entry) (e : Entry) (n f : ℕ) (shown : Bool) (body : Body)
    → ((q : ℕ) → q < s.nodes → IsFrom f shown (turns_in s past q).read.0 (turns_in s past q).low.0) → IsSentBy s past e body
    → TellsFrom n f shown body
sent_from s past e n f shown body nodes is = grind arith

pub floor_aside : (s : ScriptData) (past : List Entry) (e : Entry) (f : ℕ) (shown : Bool) → IsGood s past → MayFollow s past e
    → e.actor.0 ≢ s.nodes → Aside s past e → IsFloor s past f shown → IsFloor s (e ∷ past) f shown
floor_aside s past e f shown good m away aside was =
    let kept = restarting_kept s past e away in
    let n = (restarting_in s past).epoch in
    let new =
    each_map (λ (o : Outgoing). IsSentBy s past e o.body) (λ (o : Outgoing). LetterId → TellsFrom n f shown o.body) e.sent
    (λ o sent i. sent_from s past e n f shown o.body was.nodes sent) (sends_aside s past e aside) in
    record {
      nodes =
          λ q lt.
          let rises : Rises (keeping_in s past q).core (keeping_in s (e ∷ past) q).core =
          (fares s past e q good m lt aside).rises in
          record {
            low = omega (arith, (was.nodes q lt).low, rises.low);
            read = omega (arith, (was.nodes q lt).read, rises.read);
          };
      letters =
          subst (λ (c : Restarting). Each (λ (l : Letter). TellsFrom c.epoch f shown l.body) (in_flight s (e ∷ past)))
          (sym kept)
          (each_step (λ (l : Letter). TellsFrom n f shown l.body) s past e was.letters new);
      told = λ q t has. was.told q t (subst (λ (c : Restarting). HasTold c.told q t) kept has);
    }

-- Entries of the coordinator: nodes stay.
nodes_stay : (s : ScriptData) (past : List Entry) (e : Entry) (f : ℕ) (shown : Bool) → e.actor.0 ≡ s.nodes
    → ((q : ℕ) → q < s.nodes → IsFrom f shown (turns_in s past q).read.0 (turns_in s past q).low.0)
    → (q : ℕ) → q < s.nodes → IsFrom f shown (turns_in s (e ∷ past) q).read.0 (turns_in s (e ∷ past) q).low.0
nodes_stay s past e f shown at was q lt =
    held_at (λ (n : KeepingNode). IsFrom f shown n.core.node.turns.read.0 n.core.node.turns.low.0) s past e q at lt (was q lt)

-- What holds of all that was told, and of what is told now, holds of all that is told with it.
told_each : (P : ℕ → Told → Type 0) (c : Restarting) (from : ℕ) (body : Body) (ts : AllTold) → TellsMore c from body ts
    → ((q : ℕ) (t : Told) → HasTold c.told q t → P q t)
    → ((u r l : Version) → body ≡ Numbers c.epoch u r l → from < length c.told
    → P from (record { update = u; read = r; low = l }))
    → (q : ℕ) (t : Told) → HasTold ts q t → P q t
told_each P c from body ts more old new q t has = grind (arith, set_get)

-- Numbers of this epoch that are told now are so far too, so all that was told is.
told_from : (s : ScriptData) (past : List Entry) (e : Entry) (f : ℕ) (shown : Bool) (ts : AllTold) → MayFollow s past e
    → IsFloor s past f shown → TellsMore (restarting_in s past) e.took.from.0 e.took.body ts
    → (q : ℕ) (t : Told) → HasTold ts q t → IsFrom f shown t.read.0 t.low.0
told_from s past e f shown ts m was more =
    let c = restarting_in s past in
    told_each (λ q t. IsFrom f shown t.read.0 t.low.0) c e.took.from.0 e.took.body ts more was.told (λ u r l bd lt.
    let from : TellsFrom c.epoch f shown (Numbers c.epoch u r l) =
    subst (TellsFrom c.epoch f shown) bd
    (each_taken (λ (x : Letter). TellsFrom c.epoch f shown x.body) s past e m was.letters) in
    from refl)

-- the coordinator waits
pub floor_waits : (s : ScriptData) (past : List Entry) (e : Entry) (f : ℕ) (shown : Bool) → MayFollow s past e
    → e.actor.0 ≡ s.nodes
    → e.sent ≡ [] → (restarting_in s (e ∷ past)).epoch ≡ (restarting_in s past).epoch
    → TellsMore (restarting_in s past) e.took.from.0 e.took.body (restarting_in s (e ∷ past)).told
    → IsFloor s past f shown → IsFloor s (e ∷ past) f shown
floor_waits s past e f shown m at none same more was = record {
  nodes = nodes_stay s past e f shown at was.nodes;
  letters =
      subst (λ (n : ℕ). Each (λ (l : Letter). TellsFrom n f shown l.body) (in_flight s (e ∷ past))) (sym same)
      (each_step (λ (l : Letter). TellsFrom (restarting_in s past).epoch f shown l.body) s past e was.letters
      (subst (λ (os : List Outgoing).
      Each (λ (o : Outgoing). LetterId → TellsFrom (restarting_in s past).epoch f shown o.body) os) (sym none) tt));
  told = told_from s past e f shown (restarting_in s (e ∷ past)).told m was more;
}

-- The coordinator forgets: no letter is of its new epoch, but for the questions that it sends.
earlier_from : (s : ScriptData) (past : List Entry) (n f : ℕ) (shown : Bool) (from to : ℕ) (body : Body)
    → (restarting_in s past).epoch < n
    → IsRight s past from to body → TellsFrom n f shown body
earlier_from s past n f shown from to body lt right = grind arith

pub floor_forgets : (s : ScriptData) (past : List Entry) (e : Entry) (f : ℕ) (shown : Bool) → IsGood s past
    → e.actor.0 ≡ s.nodes → (restarting_in s past).epoch < (restarting_in s (e ∷ past)).epoch
    → (restarting_in s (e ∷ past)).told ≡ replicate s.nodes None → AllAskAnew e.sent
    → ((q : ℕ) → q < s.nodes → IsFrom f shown (turns_in s past q).read.0 (turns_in s past q).low.0)
    → IsFloor s (e ∷ past) f shown
floor_forgets s past e f shown good at later none asks nodes =
    let n = (restarting_in s (e ∷ past)).epoch in
    record {
      nodes = nodes_stay s past e f shown at nodes;
      letters =
          each_step (λ (l : Letter). TellsFrom n f shown l.body) s past e
          (each_map (IsLetterRight s past) (λ (l : Letter). TellsFrom n f shown l.body) (in_flight s past)
          (λ l right. earlier_from s past n f shown l.from.0 l.to.0 l.body later right) good.letters)
          (each_map (λ (o : Outgoing). AsksAnew o.body) (λ (o : Outgoing). LetterId → TellsFrom n f shown o.body) e.sent
          (λ o ask i. anew_from n f shown o.body ask) asks);
      told = λ q t has. absurd (none_told s.nodes q t (subst (λ (ts : AllTold). HasTold ts q t) none has));
    }

-- The coordinator resumes. What a node told is what it has come to, and no version above the next was shown since.
record IsSeen (t : Told) (f : ℕ) (shown : Bool) : Type 0 where
  from : IsFrom f shown t.read.0 t.low.0
  showed : t.read.0 ≤ t.low.0 + 1
  small : t.low.0 ≤ 100

seen : (s : ScriptData) (past : List Entry) (q : ℕ) (t : Told) (f : ℕ) (shown : Bool) → IsValid s → IsGood s past → q < s.nodes
    → IsHeardOf s past q t → IsFrom f shown t.read.0 t.low.0 → IsSeen t f shown
seen s past q t f shown valid good lt heard from = grind (arith, low_few)

-- a test that one of the told numbers passes
any_told : (test : Option Told → Bool) (ts : AllTold) (q : ℕ) (t : Told) → HasTold ts q t → test (Some t) ≡ true
    → list_any test ts ≡ true
any_told test [] q t has is = absurd (cc has)
any_told test (o ∷ ts) zero t has is =
    let same : o ≡ Some t = cc has in or_left (test o) (list_any test ts) (ap test same ∙ is)
any_told test (o ∷ ts) (suc q) t has is = or_right (test o) (list_any test ts) (any_told test ts q t has is)

-- so it goes on from there: with no fewer advancements ended, and if with as many, then with a version that was shown
pub record IsRestored (ts : AllTold) (f : ℕ) (shown : Bool) : Type 0 where
  pub low : f ≤ least_low ts
  pub shows : shown ≡ true → least_low ts ≡ f → list_any (read_is (one_more (least_low ts))) ts ≡ true

restored_by : (ts : AllTold) (f : ℕ) (shown : Bool) (some : SomeTold ts (λ (t : Told). t.low.0 ≡ least_low ts))
    → IsSeen some.told f shown
    → IsRestored ts f shown
restored_by ts f shown some is = record {
  low = omega (arith, is.from.low, some.fits);
  shows = λ yes same.
      let one : one_if shown ≡ 1 = ap one_if yes in
      let next : one_more (least_low ts) ≡ least_low ts + 1 = one_more_is (least_low ts) (omega (arith, is.small, some.fits)) in
      any_told (read_is (one_more (least_low ts))) ts some.node some.told some.has
      (eq-eqb some.told.read.0 (one_more (least_low ts))
      (omega (arith, is.from.read, is.showed, some.fits, one, next, same)));
}

pub restored : (s : ScriptData) (past : List Entry) (e : Entry) (d : Restarting) (f : ℕ) (shown : Bool) → IsValid s
    → IsGood s past
    → MayFollow s past e → HasHeard s past d → TellsMore (restarting_in s past) e.took.from.0 e.took.body d.told
    → list_all is_some d.told ≡ true → IsFloor s past f shown → IsRestored d.told f shown
restored s past e d f shown valid good m heard more all floor =
    let see : (q : ℕ) (t : Told) → HasTold d.told q t → IsSeen t f shown =
    λ q t has.
    let lt : q < s.nodes = omega (arith, slice_get_within d.told q (Some t) has, heard.places) in
    seen s past q t f shown valid good lt (heard.nodes q t lt has)
    (told_from s past e f shown d.told m floor more q t has) in
    let some = least_told d.told all (omega (arith, heard.places, valid.some_nodes)) (λ q t has. (see q t has).small) in
    restored_by d.told f shown some (see some.node some.told some.has)
