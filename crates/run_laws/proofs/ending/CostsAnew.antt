-- How many messages of advancements are taken if the coordinator forgets: what the client asked for and the
-- coordinator sent covers them.
use Rattle.std.proofs.Common.{◌≡◌, ◌≢◌, inl, inr, ℕ, ◌+◌, ◌*◌, ◌<◌, ◌≤◌, true, List, [], ◌∷◌, ◌++◌, length, take, drop, refl, ap, arith}
use Rattle.std.proofs.Math.Nat.{mul-le-mul_left}
use Rattle.letter_types.specs.declared.bodies.Body.{Body}
use Rattle.letter_types.specs.declared.bodies.Body.TheVariants.{Nudge, DoneRow, AskedRow, Lose, AdvanceNo, Ask, Numbers, Wanted, Order as OrderLetter, Obeyed}
use Rattle.letter_types.specs.declared.entries.Entry.{Entry}
use Rattle.letter_types.specs.declared.entries.Outgoing.{Outgoing}
use Rattle.tx_trees.specs.Counts.{advances_in, loses_in, is_lossy}
use Rattle.tx_trees.specs.Valid.{IsValid}
use Rattle.tx_trees.specs.ScriptData.{ScriptData, client_of}
use Rattle.tx_trees.proofs.Rebuilding.{asked_most}
use Rattle.world_model.specs.Advancing.{to_coordinator}
use Rattle.world_model.specs.Client.{Client, advances_sent, nudge, rows_letters, submit, submitted, wanted, with_answer, with_end}
use Rattle.world_model.specs.Core.{Core}
use Rattle.world_model.specs.Counts.{tally}
use Rattle.world_model.specs.Runs.{IsStepRun, MayFollow, client_in, keeping_in, node_in}
use Rattle.world_model.proofs.Bags.{tally-append}
use Rattle.world_model.proofs.Flows.{client_kept, flow}
use Rattle.world_model.proofs.Nexts.{MadeByClient}
use Rattle.world_model.proofs.Sends.{on}
use Rattle.advance_laws.specs.Advances.{asked_for}
use Rattle.advance_laws.specs.Phases.{count_in_flight}
use Rattle.advance_laws.proofs.recovery.Heeds.{Heed, IsOfEpoch, Leaves, Answers, Repeats, Obeys as ObeysAnew}
use Rattle.advance_laws.proofs.counting.Letters.{all_sent_none, none_of_trees}
use Rattle.advance_laws.proofs.phases.Progress.{Asked, Begins, Coordinates, Course, Ends, Hears, Heeds, Obeys, Restarts, TellsAnew, Works, are_wakes, course}
use Rattle.tree_laws.proofs.apt.AptLawful.{nudges_few}
use Rattle.tree_laws.proofs.homes.Entries.{taken_in}
use Rattle.advance_laws.proofs.ending.CostsSent.{priced, priced_away, priced_here, priced_most}
use Rattle.advance_laws.proofs.recovery.Few.{few, lost_for, lost_most}
use Rattle.advance_laws.proofs.ending.Prices.{price}
use Rattle.run_laws.proofs.ending.Costs.{apart_trees, is_apart, more_asked, more_lost, order_pays, price_trees, rows_price, tells_price, wakes_price}
use Rattle.run_laws.proofs.each_tree.EveryApt.{all_apt, tree_lawful}

-- what was taken, and what letters in flight cost, is no more than what the client asked for and the coordinator sent
abbrev pub AreCovered : ScriptData → List Entry → Type 0
AreCovered s past = count_in_flight price s past + taken_in is_apart past ≤ asked_for s past + lost_for s past + priced s past

-- An entry of another actor, by what it takes and sends.
away : (s : ScriptData) (past : List Entry) (e : Entry) → MayFollow s past e → e.actor.0 ≢ s.nodes
    → tally (on price) e.sent + is_apart e.took.body + asked_for s past + lost_for s past
    ≤ price e.took.body + asked_for s (e ∷ past) + lost_for s (e ∷ past)
    → AreCovered s past → AreCovered s (e ∷ past)
away s past e m ne goes was = omega (arith, was, goes, flow price s past e m, priced_away s past e ne)

-- The client: a letter for each advancement that it asks for, and for each time that the coordinator is to forget.
by_client : (s : ScriptData) (past : List Entry) (e : Entry) (c : Client) (first : List Outgoing) → MayFollow s past e
    → e.actor.0 ≡ client_of s → c.next ≡ (client_in s past).next → tally (on price) first ≡ 0
    → price e.took.body ≡ is_apart e.took.body
    → MadeByClient s past e (submit s c first) → AreCovered s past → AreCovered s (e ∷ past)
by_client s past e c first m at next none same made was =
    let k = submitted c (take c.next s.rows) (drop c.next s.rows) in
    let rows = take k (drop c.next s.rows) in
    let letters = rows_letters s (advances_sent s c) rows in
    let sent : tally (on price) e.sent ≡ tally (on price) (first ++ letters) =
    ap (λ (os : List Outgoing). tally (on price) os) made.sent in
    let asked : asked_for s (e ∷ past) ≡ advances_in (take (c.next + k) s.rows) =
    ap (λ (x : Client). advances_in (take x.next s.rows)) made.state in
    let lost : lost_for s (e ∷ past) ≡ loses_in (take (c.next + k) s.rows) =
    ap (λ (x : Client). loses_in (take x.next s.rows)) made.state in
    let before : advances_in (take c.next s.rows) ≡ asked_for s past = ap (λ (n : ℕ). advances_in (take n s.rows)) next in
    let earlier : loses_in (take c.next s.rows) ≡ lost_for s past = ap (λ (n : ℕ). loses_in (take n s.rows)) next in
    away s past e m (omega (arith, at)) (omega (
      arith,
      sent,
      tally-append (on price) first letters,
      none,
      rows_price s (advances_sent s c) rows,
      asked,
      lost,
      before,
      earlier,
      more_asked c.next k s.rows,
      more_lost c.next k s.rows,
      same,
    )) was

-- it tells how many advancements it has asked for
by_asked : (s : ScriptData) (past : List Entry) (e : Entry) (n : ℕ) → MayFollow s past e → e.took.body ≡ Ask n
    → e.actor.0 ≡ client_of s
    → MadeByClient s past e (wanted s n (client_in s past)) → AreCovered s past → AreCovered s (e ∷ past)
by_asked s past e n m bd at made was =
    let asked : asked_for s (e ∷ past) ≡ asked_for s past = ap (λ (x : Client). advances_in (take x.next s.rows)) made.state in
    let lost : lost_for s (e ∷ past) ≡ lost_for s past = ap (λ (x : Client). loses_in (take x.next s.rows)) made.state in
    let sent : tally (on price) e.sent ≡ 1 = ap (λ (os : List Outgoing). tally (on price) os) made.sent in
    away s past e m (omega (arith, at)) (omega (arith, asked, lost, sent, ap price bd, ap is_apart bd)) was

-- Nodes.
by_node : (s : ScriptData) (past : List Entry) (e : Entry) → MayFollow s past e → e.actor.0 < s.nodes
    → tally (on price) e.sent + is_apart e.took.body ≤ price e.took.body → AreCovered s past → AreCovered s (e ∷ past)
by_node s past e m node goes was =
    let kept : client_in s (e ∷ past) ≡ client_in s past = client_kept s past e (omega (arith, node)) in
    let asked : asked_for s (e ∷ past) ≡ asked_for s past = ap (λ (x : Client). advances_in (take x.next s.rows)) kept in
    let lost : lost_for s (e ∷ past) ≡ lost_for s past = ap (λ (x : Client). loses_in (take x.next s.rows)) kept in
    away s past e m (omega (arith, node)) (omega (arith, asked, lost, goes)) was

-- an order or a question is answered, or left
left_price : (n : ℕ) (body : Body) → IsOfEpoch n body → is_apart body ≤ price body
left_price n (OrderLetter e what v) of = omega arith
left_price n (Ask e) of = omega arith
left_price n _ of = absurd of

heed_price : (s : ScriptData) (c d : Core) (body : Body) (sent : List Outgoing) → Heed s c d body sent
    → tally (on price) sent + is_apart body ≤ price body
heed_price s c d body sent (Leaves n of late same none) =
    omega (arith, left_price n body of, ap (λ (os : List Outgoing). tally (on price) os) none)
heed_price s c d body sent (Answers n bd new same is) =
    omega (arith, ap price bd, ap is_apart bd, ap (λ (os : List Outgoing). tally (on price) os) is)
heed_price s c d body sent (Repeats n what v bd new was same is) =
    omega (arith, ap price bd, ap is_apart bd, ap (λ (os : List Outgoing). tally (on price) os) is)
heed_price s c d body sent (ObeysAnew n what v more bd new less epoch turns is woken) =
    omega (
      arith,
      ap price bd,
      ap is_apart bd,
      ap (λ (os : List Outgoing). tally (on price) os) is,
      tally-append (on price) (to_coordinator s (Obeyed n what v)) more,
      wakes_price more woken,
    )

-- The coordinator: an answer costs itself.
anew_price : (body : Body) → TellsAnew body → price body ≡ is_apart body
anew_price Nudge tells = refl
anew_price Lose tells = refl
anew_price (AdvanceNo i) tells = refl
anew_price (Numbers n u w l) tells = refl
anew_price (Wanted n k) tells = refl
anew_price (Obeyed n what v) tells = refl
anew_price (DoneRow v k row) tells = refl
anew_price (AskedRow v k row) tells = refl
anew_price _ tells = absurd tells

by_coordinator : (s : ScriptData) (past : List Entry) (e : Entry) → MayFollow s past e → e.actor.0 ≡ s.nodes
    → price e.took.body ≡ is_apart e.took.body → AreCovered s past → AreCovered s (e ∷ past)
by_coordinator s past e m at same was =
    let kept : client_in s (e ∷ past) ≡ client_in s past = client_kept s past e (omega (arith, at)) in
    let asked : asked_for s (e ∷ past) ≡ asked_for s past = ap (λ (x : Client). advances_in (take x.next s.rows)) kept in
    let lost : lost_for s (e ∷ past) ≡ lost_for s past = ap (λ (x : Client). loses_in (take x.next s.rows)) kept in
    omega (arith, was, same, asked, lost, priced_here s past e e.sent at refl, flow price s past e m)

-- In every run.
covered_next : (s : ScriptData) (past : List Entry) (e : Entry) → MayFollow s past e → Course s past e → AreCovered s past
    → AreCovered s (e ∷ past)
covered_next s past e m (inl (Begins bd at made)) was =
    by_client s past e (client_in s past) [] m at refl refl (omega (arith, ap price bd, ap is_apart bd)) made was
covered_next s past e m (inl (Hears t v answer bd at lt made)) was =
    by_client s past e (with_answer t.0 (client_in s past)) (nudge s ∷ []) m at refl refl
    (omega (arith, ap price bd, ap is_apart bd)) made was
covered_next s past e m (inl (Ends v bd at made)) was =
    by_client s past e (with_end s v (client_in s past)) [] m at refl refl (omega (arith, ap price bd, ap is_apart bd)) made was
covered_next s past e m (inl (Coordinates tells at made)) was =
    by_coordinator s past e m at (tells_price e.took.body tells) was
covered_next s past e m (inl (Works p r w)) was =
    by_node s past e m (omega (arith, w.brings.at, w.brings.below)) (omega (
      arith,
      none_of_trees price e.took.body price_trees w.took,
      none_of_trees is_apart e.took.body apart_trees w.took,
      all_sent_none price s (node_in s past p) r.body e.sent price_trees w.sent,
    )) was
covered_next s past e m (inl (Obeys p out more at lt order state sent woken)) was =
    by_node s past e m (omega (arith, at, lt)) (omega (
      arith,
      ap (λ (os : List Outgoing). tally (on price) os) sent,
      tally-append (on price) out.sent more,
      wakes_price more (are_wakes e.took.body more woken),
      order_pays s (node_in s past p) e.took.body out order,
    )) was
covered_next s past e m (inr (Asked n bd at loses made)) was = by_asked s past e n m bd at made was
covered_next s past e m (inr (Restarts tells at loses made)) was =
    by_coordinator s past e m at (anew_price e.took.body tells) was
covered_next s past e m (inr (Heeds p at lt loses heed)) was =
    by_node s past e m (omega (arith, at, lt))
    (heed_price s (keeping_in s past p).core (keeping_in s (e ∷ past) p).core e.took.body e.sent heed) was

covered : (s : ScriptData) (past : List Entry) → IsValid s → IsStepRun s past → AreCovered s past
covered s [] valid run = omega arith
covered s (e ∷ past) valid run =
    covered_next s past e run.0 (course s past e (tree_lawful s valid) (all_apt s (e ∷ past) valid run) run)
    (covered s past valid run.1)

-- as many as without forgetting, and so many more for each time
pub aparts_anew : (s : ScriptData) (past : List Entry) → IsValid s → is_lossy s ≡ true → IsStepRun s past
    → taken_in is_apart past
    ≤ advances_in s.rows * (2 + 6 * s.nodes) + 4 * s.nodes * (2 * advances_in s.rows + length s.trees)
    + loses_in s.rows * (10 * s.nodes + 4)
aparts_anew s past valid loses run =
    let n = s.nodes in
    let laws = tree_lawful s valid in
    let apt = all_apt s past valid run in
    let numbers = few s past laws loses run apt in
    omega (
      arith,
      covered s past valid run,
      priced_most s past laws loses run apt,
      asked_most (client_in s past).next s.rows,
      lost_most (client_in s past).next s.rows,
      mul-le-mul_left (4 * n) (nudges_few s past valid apt run),
      mul-le-mul_left (10 * n + 3) numbers.lost,
    )
