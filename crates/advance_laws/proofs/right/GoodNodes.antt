-- Entries of the client and of nodes leave all as it should be.
use Rattle.std.proofs.Common.{◌≡◌, ◌≢◌, ◌⊎◌, ℕ, ◌+◌, ◌<◌, ◌≤◌, true, List, ◌∷◌, length, refl, sym, ap, subst, ◌∙◌, arith}
use Rattle.std.specs.Prelude.{slice_get}
use Rattle.std.proofs.lemmas.Bool.{cases_eq}
use Rattle.tv_base.specs.declared.numbers.Version.{Version}
use Rattle.letter_types.specs.declared.bodies.Body.{Body}
use Rattle.letter_types.specs.declared.bodies.What.{What}
use Rattle.letter_types.specs.declared.entries.Entry.{Entry}
use Rattle.letter_types.specs.declared.entries.Letter.{Letter}
use Rattle.letter_types.specs.declared.entries.LetterId.{LetterId}
use Rattle.letter_types.specs.declared.entries.Outgoing.{Outgoing}
use Rattle.tx_trees.specs.ScriptData.{ScriptData}
use Rattle.tx_trees.specs.Valid.{IsValid}
use Rattle.world_model.specs.AllApt.{AllApt}
use Rattle.world_model.specs.Core.{Core}
use Rattle.world_model.specs.Counts.{Each}
use Rattle.world_model.specs.Kept.{outstanding}
use Rattle.script_parts.specs.Counts.{is_lossy}
use Rattle.world_model.specs.Restarting.{Restarting}
use Rattle.world_model.specs.Runs.{IsStepRun, MayFollow, keeping_in, node_in, restarting_in}
use Rattle.world_model.specs.declared.restarting.RestartPhase.{RestartPhase}
use Rattle.world_model.specs.declared.restarting.RestartPhase.TheVariants.{Idle, Recovering, Doing, Counting, Paused}
use Rattle.world_model.proofs.EachOutstanding.{each_outstanding}
use Rattle.world_model.proofs.Every.{each_map}
use Rattle.advance_laws.specs.Given.{greatest_given}
use Rattle.advance_laws.specs.Phases.{TurnStage, ShowStage, SweepStage}
use Rattle.advance_laws.specs.Quiet.{IsSilent}
use Rattle.advance_laws.proofs.governed.Advancing.{IsWithin}
use Rattle.advance_laws.proofs.governed.Brought.{each_of_brought}
use Rattle.advance_laws.proofs.phases.Closing.{done_up_to, in_up_to, tree_version}
use Rattle.advance_laws.proofs.recovery.Heeds.{version_of}
use Rattle.advance_laws.proofs.governed.Lawful.{IsTreeLawful}
use Rattle.advance_laws.proofs.phases.Progress.{Course, Work}
use Rattle.advance_laws.proofs.counting.Silence.{silent_stays}
use Rattle.advance_laws.proofs.counting.Waves.{going}
use Rattle.advance_laws.proofs.counting.Working.{SentIn}
use Rattle.advance_laws.proofs.right.Aside.{Answered as AnsweredBy, Aside, Asks, Bare, IsBare, IsSentBy, Numbered, OfTree, aside, sends_aside}
use Rattle.advance_laws.proofs.right.Away.{given_kept, restarting_kept}
use Rattle.advance_laws.proofs.right.Good.{AreTokens, IsCurrent, IsGood, IsHeard, IsHeardOf, IsInPhase, IsSteady, IsUpTo, LevelOf, due, ended_few, epoch_in, order_to, reached, read_turned, token, turns_in}
use Rattle.advance_laws.proofs.right.GoodClient.{asked_rises, heard_after}
use Rattle.advance_laws.proofs.right.GoodLetters.{Remains, latest_stays, letters_right, same_epoch, same_phase, told_stays}
use Rattle.advance_laws.proofs.right.Passing.{Answered, Passes, Stay, passes}
use Rattle.advance_laws.proofs.right.Rising.{Rises, fares}
use Rattle.advance_laws.proofs.right.AfterCoordinator.{closed_below}

-- What nodes come to stays within what was given.
within_after : (s : ScriptData) (past : List Entry) (e : Entry) (p : ℕ) → IsGood s past → Remains s past e → p < s.nodes
    → IsWithin (e ∷ past) (turns_in s (e ∷ past) p)
within_after s past e p good left lt = grind arith

-- Below what was swept to no root is born, so all stays silent.
silent_after : (s : ScriptData) (past : List Entry) (e : Entry) (v : ℕ) → IsTreeLawful s → IsStepRun s (e ∷ past)
    → AllApt s (e ∷ past)
    → IsGood s past → Remains s past e → v < greatest_given SweepStage (e ∷ past) → IsSilent s (e ∷ past) v
silent_after s past e v laws run apt good left lt =
    let less : v < greatest_given SweepStage past = omega (arith, lt, left.given SweepStage) in
    silent_stays s past e v laws run apt (good.silent v less) (closed_below s past v good less)

-- Letters of trees.
bare_version : (m : ℕ) (body : Body) → IsBare body → tree_version body ≤ m
bare_version m body bare = grind arith

work_version : (s : ScriptData) (past : List Entry) (e : Entry) (p : ℕ) (r : Letter) (body : Body) → IsGood s past
    → MayFollow s past e
    → Work s past e p r → SentIn s (node_in s past p) r.body body → tree_version body ≤ greatest_given TurnStage past
work_version s past e p r body good m work sent =
    let turned = greatest_given TurnStage past in
    let within : IsWithin past (turns_in s past p) = good.within p work.brings.below in
    let own : tree_version r.body ≤ turned =
    each_of_brought (λ (l : Letter). tree_version l.body ≤ turned) s past e p r work.brings m good.trees in
    in_up_to turned s (node_in s past p) r.body body
    (done_up_to turned s (node_in s past p) r.body within.update_turned
    (omega (arith, read_turned past (turns_in s past p) within)) own) sent

sent_version : (s : ScriptData) (past : List Entry) (e : Entry) (body : Body) → IsGood s past → MayFollow s past e
    → IsSentBy s past e body → tree_version body ≤ greatest_given TurnStage past
sent_version s past e body good m (Bare bare) = bare_version (greatest_given TurnStage past) body bare
sent_version s past e body good m (OfTree p r work sent) = work_version s past e p r body good m work sent
sent_version s past e body good m (Asks n bd is) = omega (arith, ap tree_version is)
sent_version s past e body good m (Numbered p n at lt bd same is) = omega (arith, ap tree_version is)
sent_version s past e body good m (AnsweredBy n what v bd is) = omega (arith, ap tree_version is)

trees_after : (s : ScriptData) (past : List Entry) (e : Entry) → IsStepRun s (e ∷ past) → IsGood s past → Remains s past e
    → Aside s past e
    → Each (λ (l : Letter). tree_version l.body ≤ greatest_given TurnStage (e ∷ past)) (outstanding s (e ∷ past))
trees_after s past e run good left aside =
    let turned = greatest_given TurnStage past in
    subst (λ (n : ℕ). Each (λ (l : Letter). tree_version l.body ≤ n) (outstanding s (e ∷ past))) (sym (left.given TurnStage))
    (each_outstanding (λ (l : Letter). tree_version l.body ≤ turned) s past e run.0 good.trees
    (each_map (λ (o : Outgoing). IsSentBy s past e o.body) (λ (o : Outgoing). (i : LetterId) → tree_version o.body ≤ turned) e.sent
    (λ o sent i. sent_version s past e o.body good run.0 sent) (sends_aside s past e aside)))

-- Levels.
reached_rises : (phase : RestartPhase) (c d : Core) → Rises c d → reached phase c.node.turns ≤ reached phase d.node.turns
reached_rises phase c d rises = grind arith

level_up : (phase : RestartPhase) (f n : ℕ) (c d : Core) (orders more : ℕ) → Rises c d
    → LevelOf phase f n c.epoch c.node.turns orders
    → due phase f ≤ reached phase d.node.turns + more → LevelOf phase f n d.epoch d.node.turns more
level_up phase f n c d orders more rises was comes = omega (arith, was, rises, comes)

-- where as many orders are in flight to the node
level_stays : (phase : RestartPhase) (f n : ℕ) (c d : Core) (orders more : ℕ) → Rises c d → more ≡ orders
    → LevelOf phase f n c.epoch c.node.turns orders → LevelOf phase f n d.epoch d.node.turns more
level_stays phase f n c d orders more rises same was =
    level_up phase f n c d orders more rises was (omega (arith, was.comes, reached_rises phase c d rises, same))

-- a phase in which the coordinator knows how many have ended, with that coordinator
record SteadyBy (s : ScriptData) (past : List Entry) (phase : RestartPhase) (c : Restarting) : Type 0 where
  level : (q : ℕ) → q < s.nodes
      → LevelOf phase c.ended c.epoch (epoch_in s past q) (turns_in s past q) (going (order_to c.epoch q) s past)
  tokens : AreTokens phase (going (token c.epoch) s past) c.acks s.nodes
  up_to : IsUpTo past c.ended c.wanted

with_same : (s : ScriptData) (past : List Entry) (e : Entry) (phase : RestartPhase) → Remains s past e
    → SteadyBy s (e ∷ past) phase (restarting_in s past) → IsSteady s (e ∷ past) phase
with_same s past e phase left steady = grind arith

up_to_after : (s : ScriptData) (past : List Entry) (e : Entry) (f wanted : ℕ) → Remains s past e → IsUpTo past f wanted
    → IsUpTo (e ∷ past) f wanted
up_to_after s past e f wanted left was =
    omega (arith, was, left.given TurnStage, left.given ShowStage, left.given SweepStage)

level_after : (s : ScriptData) (past : List Entry) (e : Entry) (q p : ℕ) (phase : RestartPhase) (what : What) (v : Version)
    → IsValid s
    → IsGood s past → Remains s past e → (restarting_in s past).phase ≡ phase → q < s.nodes
    → IsCurrent (restarting_in s past) what v
    → v.0 ≤ version_of what (turns_in s (e ∷ past) p)
    → (q ≢ p → going (order_to (restarting_in s past).epoch q) s (e ∷ past) ≡ going (order_to (restarting_in s past).epoch q) s past)
    → IsSteady s past phase → (q ≡ p) ⊎ (q ≢ p)
    → LevelOf phase (restarting_in s past).ended (restarting_in s past).epoch (epoch_in s (e ∷ past) q) (turns_in s (e ∷ past) q)
    (going (order_to (restarting_in s past).epoch q) s (e ∷ past))
level_after s past e q p phase what v valid good left at lt current there others was is =
    grind (arith, ended_few)

steady_after : (s : ScriptData) (past : List Entry) (e : Entry) (phase : RestartPhase) → IsValid s → IsGood s past
    → Remains s past e
    → (restarting_in s past).phase ≡ phase → Passes s past e → IsSteady s past phase
    → SteadyBy s (e ∷ past) phase (restarting_in s past)
steady_after s past e phase valid good left at (Stay tokens orders) was =
    let c = restarting_in s past in
    record {
      level =
          λ q lt.
          level_stays phase c.ended c.epoch (keeping_in s past q).core (keeping_in s (e ∷ past) q).core
          (going (order_to c.epoch q) s past) (going (order_to c.epoch q) s (e ∷ past)) (left.fares q lt).rises (orders q)
          (was.level q lt);
      tokens = subst (λ (n : ℕ). AreTokens phase n c.acks s.nodes) (sym tokens) was.tokens;
      up_to = up_to_after s past e c.ended c.wanted left was.up_to;
    }
steady_after s past e phase valid good left at (Answered p what v below current there tokens orders) was =
    let c = restarting_in s past in
    record {
      level =
          λ q lt.
          level_after s past e q p phase what v valid good left at lt current there (orders q) was (cases_eq q p);
      tokens = subst (λ (n : ℕ). AreTokens phase n c.acks s.nodes) (sym tokens) was.tokens;
      up_to = up_to_after s past e c.ended c.wanted left was.up_to;
    }

-- Where the coordinator still hears, what it has heard stays as it should be.
heard_stays : (s : ScriptData) (past : List Entry) (e : Entry) → Remains s past e → IsHeard s past → IsHeard s (e ∷ past)
heard_stays s past e left was = record {
  places = ap (λ (c : Restarting). length c.told) left.same ∙ was.places;
  nodes =
      λ q t lt at.
      let one : IsHeardOf s past q t = was.nodes q t lt (sym (ap (λ (c : Restarting). slice_get c.told q) left.same) ∙ at) in
      record {
        told = told_stays s past e q t.update t.read t.low left lt one.told;
        latest = latest_stays s past e q t.low.0 left lt one.latest;
      };
  client =
      λ k at.
      omega (
        arith,
        left.given TurnStage,
        was.client k (sym (ap (λ (c : Restarting). c.heard) left.same) ∙ at),
      );
}

phased_after : (s : ScriptData) (past : List Entry) (e : Entry) (phase : RestartPhase) → IsValid s → IsGood s past
    → Remains s past e
    → (restarting_in s past).phase ≡ phase → Passes s past e → IsInPhase s past phase → IsInPhase s (e ∷ past) phase
phased_after s past e Recovering valid good left at pass was = heard_stays s past e left was
phased_after s past e Idle valid good left at pass was =
    with_same s past e Idle left (steady_after s past e Idle valid good left at pass was)
phased_after s past e (Doing what) valid good left at pass was =
    with_same s past e (Doing what) left (steady_after s past e (Doing what) valid good left at pass was)
phased_after s past e (Counting reads) valid good left at pass was =
    with_same s past e (Counting reads) left (steady_after s past e (Counting reads) valid good left at pass was)
phased_after s past e (Paused reads) valid good left at pass was =
    with_same s past e (Paused reads) left (steady_after s past e (Paused reads) valid good left at pass was)

-- So all is as it should be after such an entry.
good_aside : (s : ScriptData) (past : List Entry) (e : Entry) → IsTreeLawful s → IsStepRun s (e ∷ past) → AllApt s (e ∷ past)
    → Remains s past e → Aside s past e → IsGood s past → IsGood s (e ∷ past)
good_aside s past e laws run apt left aside good = record {
  epochs = λ p lt. omega (arith, (left.fares p lt).begun, same_epoch s past e left);
  within = λ p lt. within_after s past e p good left lt;
  silent = λ v lt. silent_after s past e v laws run apt good left lt;
  trees = trees_after s past e run good left aside;
  letters = letters_right s past e laws.valid run good left aside;
  phased =
      subst (λ (phase : RestartPhase). IsInPhase s (e ∷ past) phase) (sym (same_phase s past e left))
      (phased_after s past e (restarting_in s past).phase laws.valid good left refl (passes s past e good run.0 aside) good.phased);
  asked = omega (arith, good.asked, left.given TurnStage, asked_rises s past e good run.0 aside);
  heard = λ p lt. heard_after s past e p good run.0 left aside lt;
}

pub good_elsewhere : (s : ScriptData) (past : List Entry) (e : Entry) → IsTreeLawful s → is_lossy s ≡ true
    → IsStepRun s (e ∷ past)
    → AllApt s (e ∷ past) → e.actor.0 ≢ s.nodes → Course s past e → IsGood s past → IsGood s (e ∷ past)
good_elsewhere s past e laws loses run apt away next good =
    let kind : Aside s past e = aside s past e laws.valid loses run away next in
    let left : Remains s past e = record {
      same = restarting_kept s past e away;
      given = λ g. given_kept g s past e laws run apt away;
      fares = λ p lt. fares s past e p good run.0 lt kind;
    } in
    good_aside s past e laws run apt left kind good
