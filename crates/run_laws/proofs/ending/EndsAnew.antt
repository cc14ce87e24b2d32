-- If no message is in flight in a run of a script whose coordinator forgets, it is idle: each node updates the version
-- after the one that it reads, and the client has heard that each advancement that it asked for has ended.
use Rattle.std.proofs.Common.{◌≡◌, ℕ, ◌+◌, ◌<◌, ◌≤◌, Bool, true, false, List, [], ◌∷◌, refl, sym, ap, subst, ◌∙◌, arith}
use Rattle.tv_base.specs.declared.numbers.Version.{Version}
use Rattle.letter_types.specs.declared.bodies.Body.TheVariants.{Sweep}
use Rattle.letter_types.specs.declared.bodies.What.{What}
use Rattle.letter_types.specs.declared.entries.Entry.{Entry}
use Rattle.letter_types.specs.declared.entries.Letter.{Letter}
use Rattle.tx_trees.specs.ScriptData.{ScriptData}
use Rattle.tx_trees.specs.Valid.{IsValid}
use Rattle.world_model.specs.AllApt.{AllApt}
use Rattle.world_model.specs.Core.{Core}
use Rattle.world_model.specs.Counts.{tally}
use Rattle.script_parts.specs.Counts.{is_lossy}
use Rattle.world_model.specs.Restarting.{Restarting, version_counted}
use Rattle.world_model.specs.Runs.{IsStepRun, client_in, in_flight, keeping_in, node_in, restarting_in}
use Rattle.world_model.specs.declared.restarting.RestartPhase.{RestartPhase}
use Rattle.world_model.specs.declared.restarting.RestartPhase.TheVariants.{Idle, Recovering, Doing, Counting, Paused}
use Rattle.world_model.specs.Meant.{IsMeant}
use Rattle.world_model.proofs.Meant.{took_meant}
use Rattle.advance_laws.specs.Advances.{asked_for}
use Rattle.advance_laws.proofs.counting.Counting.{NoRound}
use Rattle.advance_laws.proofs.recovery.Heeds.{Answers, Heed, Leaves, Obeys, Repeats}
use Rattle.advance_laws.proofs.phases.Outcomes.{one_more_is}
use Rattle.advance_laws.proofs.counting.Waves.{going}
use Rattle.advance_laws.proofs.ending.Ending.{all_heard}
use Rattle.advance_laws.proofs.recovery.Exact.{exact_in}
use Rattle.advance_laws.proofs.recovery.ExactAside.{current_now, near_now}
use Rattle.advance_laws.proofs.recovery.ExactSteps.{AreExact}
use Rattle.advance_laws.proofs.recovery.Forgetting.{good_run}
use Rattle.advance_laws.proofs.right.Good.{IsGood, in_phase, low_turned, read_turned, token, turns_in}
use Rattle.advance_laws.proofs.right.Orderly.{orderly_in}
use Rattle.advance_laws.proofs.recovery.Recovers.{never_waits}
use Rattle.advance_laws.proofs.counting.RestartCounts.{IsNewCount, counting_is, pace_of, restart_count, restarting_counts, versioned}
use Rattle.advance_laws.proofs.ending.Wanting.{all_wanted}
use Rattle.run_laws.proofs.each_tree.EveryApt.{all_apt, tree_lawful}
use Rattle.run_laws.proofs.ending.Exacts.{order_counts}
use Rattle.run_laws.proofs.ending.Pauses.{IsSteady}
use Rattle.run_laws.proofs.ending.RoundsOver.{no_round}

-- While the coordinator counts, nodes heed no order, and none has left the version counted.
heed_counts : (s : ScriptData) (past : List Entry) (e : Entry) (reads : Bool) (p : ℕ) → IsGood s past → IsStepRun s (e ∷ past)
    → (restarting_in s past).phase ≡ Counting reads → p < s.nodes
    → Heed s (keeping_in s past p).core (keeping_in s (e ∷ past) p).core e.took.body e.sent
    → (node_in s (e ∷ past) p).counts ≡ (node_in s past p).counts
heed_counts s past e reads p good run at lt (Leaves n of late same none) = ap (λ (x : Core). x.node.counts) same
heed_counts s past e reads p good run at lt (Answers n bd new same is) = ap (λ (x : Core). x.node.counts) same
heed_counts s past e reads p good run at lt (Repeats n what v bd new was same is) = ap (λ (x : Core). x.node.counts) same
heed_counts s past e reads p good run at lt (Obeys n what v more bd new less epoch turns is woken) =
    let steady = in_phase s past (Counting reads) good at in
    let now = current_now s past e p n what v good run.0 bd (steady.level p lt).since new in
    let clash : Counting reads ≡ Doing what = sym at ∙ now.phase in
    absurd (cc clash)

counted_from : (reads : Bool) (c : Restarting) → c.ended ≤ 100 → c.ended ≤ (version_counted reads c).0
counted_from true c small = omega arith
counted_from false c small = omega (arith, one_more_is c.ended (omega (arith, small)))

low_most : (s : ScriptData) (past : List Entry) (reads : Bool) (p : ℕ) → IsValid s → is_lossy s ≡ true → IsStepRun s past
    → AllApt s past
    → (restarting_in s past).phase ≡ Counting reads → p < s.nodes
    → (node_in s past p).turns.low.0 ≤ (restarting_in s past).count.current.version.0
low_most s past reads p valid loses run apt at lt =
    let c = restarting_in s past in
    let laws = tree_lawful s valid in
    let exact : AreExact s.nodes (Counting reads) c.ended c.told (turns_in s past) =
    subst (λ (phase : RestartPhase). AreExact s.nodes phase c.ended c.told (turns_in s past)) at
    (exact_in s past laws loses run apt).nodes in
    let near = near_now s past valid (good_run s past laws loses run apt)
    (λ waits. (let clash : Counting reads ≡ Recovering = sym at ∙ waits in cc clash)) in
    let version : c.count.current.version.0 ≡ (version_counted reads c).0 =
    ap (λ (v : Version). v.0) (versioned s past reads at) in
    omega (arith, (exact p lt).low, version, counted_from reads c near.small)

pub restart_steady : (s : ScriptData) → IsValid s → is_lossy s ≡ true → IsSteady s (restart_count s)
restart_steady s valid loses = record {
  orders = λ past e reads p out run apt at here lt order. order_counts s (node_in s past p) e.took.body out (λ v bd.
      let meant : IsMeant s e.took.from.0 e.took.to.0 (Sweep v) =
      subst (IsMeant s e.took.from.0 e.took.to.0) bd (took_meant s past e valid run) in
      let clash : true ≡ false = sym loses ∙ meant.1 in
      cc clash) order;
  heeds = λ past e reads p run apt at here lt forgets heed.
      heed_counts s past e reads p (good_run s past (tree_lawful s valid) loses run.1 apt.1) run
      (counting_is (restarting_in s past).phase reads at) lt heed;
  low = λ past reads p run apt at lt.
      low_most s past reads p valid loses run apt (counting_is (restarting_in s past).phase reads at) lt;
}

-- So where no letter is in flight it counts nothing, waits for nothing, and has given no order.
no_pace : (s : ScriptData) (past : List Entry) (phase : RestartPhase) → IsValid s → is_lossy s ≡ true → IsStepRun s past
    → in_flight s past ≡ [] → (restarting_in s past).phase ≡ phase → pace_of phase ≡ NoRound
no_pace s past phase valid loses run empty at =
    sym (ap pace_of at)
    ∙ no_round s (restart_count s) (IsNewCount s) (restarting_counts s (tree_lawful s valid) loses)
    (restart_steady s valid loses) past valid run
    (all_apt s past valid run) empty

not_doing : (s : ScriptData) (past : List Entry) (what : What) → IsValid s → IsGood s past → in_flight s past ≡ []
    → (restarting_in s past).phase ≡ Doing what → ⊥
not_doing s past what valid good empty at =
    let e = (restarting_in s past).epoch in
    let steady = in_phase s past (Doing what) good at in
    let none : going (token e) s past ≡ 0 =
    ap (λ (ls : List Letter). tally (λ (l : Letter). token e l.from.0 l.to.0 l.body) ls) empty in
    omega (arith, steady.tokens, none, (orderly_in s past valid.some_nodes).acks)

idle_by : (s : ScriptData) (past : List Entry) (phase : RestartPhase) → IsValid s → is_lossy s ≡ true → IsStepRun s past
    → in_flight s past ≡ [] → (restarting_in s past).phase ≡ phase → (restarting_in s past).phase ≡ Idle
idle_by s past Idle valid loses run empty at = at
idle_by s past Recovering valid loses run empty at =
    absurd (never_waits s past (tree_lawful s valid) loses run (all_apt s past valid run) empty at)
idle_by s past (Doing what) valid loses run empty at =
    absurd (not_doing s past what valid (good_run s past (tree_lawful s valid) loses run (all_apt s past valid run)) empty at)
idle_by s past (Counting reads) valid loses run empty at =
    absurd (cc (no_pace s past (Counting reads) valid loses run empty at))
idle_by s past (Paused reads) valid loses run empty at = absurd (cc (no_pace s past (Paused reads) valid loses run empty at))

-- so it is idle
pub idle_anew : (s : ScriptData) (past : List Entry) → IsValid s → is_lossy s ≡ true → IsStepRun s past → in_flight s past ≡ []
    → (restarting_in s past).phase ≡ Idle
idle_anew s past valid loses run empty = idle_by s past (restarting_in s past).phase valid loses run empty refl

pub above_anew : (s : ScriptData) (past : List Entry) → IsValid s → is_lossy s ≡ true → IsStepRun s past → in_flight s past ≡ []
    → (p : ℕ) → p < s.nodes → (node_in s past p).turns.update.0 ≡ (node_in s past p).turns.read.0 + 1
above_anew s past valid loses run empty p lt =
    let idle = idle_anew s past valid loses run empty in
    let good = good_run s past (tree_lawful s valid) loses run (all_apt s past valid run) in
    let steady = in_phase s past Idle good idle in
    let level = steady.level p lt in
    let within = good.within p lt in
    omega (
      arith,
      level.read,
      level.update,
      steady.up_to.asked,
      (orderly_in s past valid.some_nodes).idle idle,
      read_turned past (node_in s past p).turns within,
      within.update_turned,
    )

pub ended_anew : (s : ScriptData) (past : List Entry) → IsValid s → is_lossy s ≡ true → IsStepRun s past → in_flight s past ≡ []
    → (client_in s past).ended ≡ asked_for s past
ended_anew s past valid loses run empty =
    let laws = tree_lawful s valid in
    let apt = all_apt s past valid run in
    let idle = idle_anew s past valid loses run empty in
    let good = good_run s past laws loses run apt in
    let knows : (restarting_in s past).phase ≡ Recovering → ⊥ =
    λ waits. (let clash : Idle ≡ Recovering = sym idle ∙ waits in cc clash) in
    let some : 0 < s.nodes = omega (arith, valid.some_nodes) in
    omega (
      arith,
      all_wanted s past laws loses run apt empty knows,
      (orderly_in s past valid.some_nodes).idle idle,
      all_heard s past laws loses run apt empty knows,
      good.heard 0 some,
      low_turned past (node_in s past 0).turns (good.within 0 some),
      good.asked,
    )
