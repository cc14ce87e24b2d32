-- Busyness falls only if a nudge is taken, and if nothing is busy no message of a transaction that is born has still to
-- be done.
use Rattle.std.proofs.Common.{◌≡◌, ◌≢◌, ℕ, ◌+◌, ◌<◌, ◌≤◌, ◌==◌, ◌&&◌, Bool, true, false, not, List, [], ◌∷◌, length, get_or, set, take, drop, refl, sym, ap, subst, ◌∙◌, arith}
use Rattle.std.proofs.lemmas.Bool.Decides.{nat_tests}
use Rattle.std.proofs.lemmas.List.{get_or-set_other}
use Rattle.tv_base.proofs.Chosen.{not_none}
use Rattle.script_parts.proofs.SubsOf.{has_root}
use Rattle.letter_types.specs.declared.bodies.Body.{Body}
use Rattle.letter_types.specs.declared.bodies.Body.TheVariants.{Sub as SubLetter, Done, Nudge, Decide, Decided}
use Rattle.letter_types.specs.declared.entries.Entry.{Entry}
use Rattle.letter_types.specs.declared.entries.Letter.{Letter}
use Rattle.letter_types.specs.declared.entries.Outgoing.{Outgoing}
use Rattle.tx_trees.specs.ScriptData.{ScriptData, subs_at}
use Rattle.tx_trees.specs.Valid.{IsValid}
use Rattle.tx_trees.specs.declared.parts.ScriptRow.{ScriptRow}
use Rattle.tx_trees.specs.declared.parts.ScriptRow.TheVariants.{Tree as TreeRow, Advance as AdvanceRow, Settle as SettleRow, Lose as LoseRow}
use Rattle.world_model.specs.Client.{Client, submit, submitted, with_answer, with_end, nudge}
use Rattle.world_model.specs.Counts.{Each, tally, one_if}
use Rattle.world_model.specs.Kept.{outstanding}
use Rattle.world_model.specs.Runs.{client_in, MayFollow, IsStepRun}
use Rattle.world_model.proofs.EachOutstanding.{each_took}
use Rattle.world_model.proofs.Every.{each_both, each_map, each_none, each_zero}
use Rattle.world_model.proofs.Flows.{client_kept, flow}
use Rattle.world_model.proofs.Nexts.{MadeByClient}
use Rattle.world_model.proofs.Scripts.{SubAt, sub_below, sub_here, sub_there, tree_below}
use Rattle.world_model.proofs.Sends.{on}
use Rattle.world_model.proofs.Bags.{one_if_same, one_if_both}
use Rattle.world_model.specs.Meant.{IsLetterMeant, IsMeant}
use Rattle.world_model.proofs.Meant.{letters_are_meant}
use Rattle.world_model.proofs.MeantRows.{strict_below}
use Rattle.advance_laws.proofs.right.ClientSteps.{Aside, Begins, ClientStep, Ends, Hears, Tells, client_step}
use Rattle.tree_laws.specs.Dids.{letters_asking, asks, answers, is_row_of, notices, roots_sent, tells_done}
use Rattle.tree_laws.specs.Stages.{StageAt, Answered, Gathers, Holds, Unborn, decides, decisions}
use Rattle.tree_laws.specs.Turns.{has_turn, turns}
use Rattle.tree_laws.proofs.apt.AptLawful.{heard_were_sent}
use Rattle.tree_laws.proofs.stages.AptStagesRun.{stages_of_trees}
use Rattle.tree_laws.proofs.stages.AptStagesSteps.{all_in_flight, decides_no_asking, tells_no_asking}
use Rattle.tree_laws.proofs.apt.AptTurns.{parent_before, roots_have_turns, sub_has_turns, turns_below_root, turns_come_once}
use Rattle.tree_laws.proofs.homes.Sent.{rooted_once, tally_take_le, tally_take_more}
use Rattle.run_laws.proofs.each_tree.EveryApt.{all_apt}
use Rattle.run_laws.proofs.ending.Measures.{busy, left, left_of, nudges, of_trees, unanswered}

-- Rows more.
-- what the client submits takes none of what is left to do
submit_more : (s : ScriptData) (past : List Entry) (c : Client) (first : List Outgoing) → left_of s past c ≤ left_of s past (submit s c first).state
submit_more s past c first =
    omega (arith, tally_take_more (unanswered past c.answered) c.next (submitted c (take c.next s.rows) (drop c.next s.rows)) s.rows)

-- Births more.
born_more : (more n : ℕ) (b : Bool) (test : Bool) → (n == 0) ≡ test → one_if (not (n == 0) && b) ≤ one_if (not (more + n == 0) && b)
born_more more n b true is = rw is (omega arith)
born_more more n b false is =
    let some : (more + n == 0) ≡ false = grind (arith, nat_tests) in
    rw (is, some) (omega arith)

births_add : (past : List Entry) (e : Entry) (answered : List Bool) (rows : List ScriptRow)
    → tally (unanswered past answered) rows ≤ tally (unanswered (e ∷ past) answered) rows
births_add past e answered [] = omega arith
births_add past e answered (TreeRow t ∷ rows) =
    omega (
      arith,
      born_more (tally (has_turn t.0 0) e.acts) (turns past t.0 0) (not (get_or answered t.0 false)) (turns past t.0 0 == 0) refl,
      births_add past e answered rows,
    )
births_add past e answered (AdvanceRow ∷ rows) = omega (arith, births_add past e answered rows)
births_add past e answered (SettleRow ∷ rows) = omega (arith, births_add past e answered rows)
births_add past e answered (LoseRow ∷ rows) = omega (arith, births_add past e answered rows)

-- An answer more.
put_at : (answered : List Bool) (t u : ℕ) (born test : Bool) → (u == t) ≡ test
    → one_if (born && not (get_or answered u false)) ≤ one_if (born && not (get_or (set answered t true) u false)) + one_if test
put_at answered t u born true is = omega (arith, at_most_one (born && not (get_or answered u false)))
  where
    at_most_one : (b : Bool) → one_if b ≤ 1
    at_most_one true = omega arith
    at_most_one false = omega arith
put_at answered t u born false is =
    let ne : u ≢ t = grind (arith, nat_tests) in
    omega (arith, ap (λ (b : Bool). one_if (born && not b)) (get_or-set_other answered t u true false ne))

-- of the trees of these rows one fewer is left for each row of tree t
answer_less : (past : List Entry) (answered : List Bool) (t : ℕ) (rows : List ScriptRow)
    → tally (unanswered past answered) rows ≤ tally (unanswered past (set answered t true)) rows + roots_sent t rows
answer_less past answered t [] = omega arith
answer_less past answered t (TreeRow u ∷ rows) =
    omega (arith, put_at answered t u.0 (not (turns past u.0 0 == 0)) (u.0 == t) refl, answer_less past answered t rows)
answer_less past answered t (AdvanceRow ∷ rows) = omega (arith, answer_less past answered t rows)
answer_less past answered t (SettleRow ∷ rows) = omega (arith, answer_less past answered t rows)
answer_less past answered t (LoseRow ∷ rows) = omega (arith, answer_less past answered t rows)

with_answer_less : (s : ScriptData) (past : List Entry) (c : Client) (t : ℕ) → IsValid s → t < length s.trees
    → left_of s past c ≤ left_of s past (with_answer t c) + 1
with_answer_less s past c t valid lt =
    omega (
      arith,
      answer_less past c.answered t (take c.next s.rows),
      tally_take_le (is_row_of t) c.next s.rows,
      rooted_once (length s.trees) t s.rows valid.rows lt,
    )

-- Steps.
kept_busy : (s : ScriptData) (past : List Entry) (e : Entry) → MayFollow s past e → client_in s (e ∷ past) ≡ client_in s past
    → busy s past ≤ busy s (e ∷ past) + nudges e.took.body
kept_busy s past e m same =
    let c = client_in s past in
    let kept : left s (e ∷ past) ≡ left_of s (e ∷ past) c = ap (left_of s (e ∷ past)) same in
    omega (arith, flow nudges s past e m, kept, births_add past e c.answered (take c.next s.rows))

submits_busy : (s : ScriptData) (past : List Entry) (e : Entry) (c : Client) → MayFollow s past e
    → left s past ≡ left_of s past c → MadeByClient s past e (submit s c []) → busy s past ≤ busy s (e ∷ past) + nudges e.took.body
submits_busy s past e c m same made =
    let after : left s (e ∷ past) ≡ left_of s (e ∷ past) (submit s c []).state = ap (left_of s (e ∷ past)) made.state in
    omega (arith, flow nudges s past e m, after, same, births_add past e c.answered (take c.next s.rows), submit_more s (e ∷ past) c [])

hears_busy : (s : ScriptData) (past : List Entry) (e : Entry) (t : ℕ) → IsValid s → MayFollow s past e → t < length s.trees
    → MadeByClient s past e (submit s (with_answer t (client_in s past)) (nudge s ∷ []))
    → busy s past ≤ busy s (e ∷ past) + nudges e.took.body
hears_busy s past e t valid m lt made =
    let c = with_answer t (client_in s past) in
    let after : left s (e ∷ past) ≡ left_of s (e ∷ past) (submit s c (nudge s ∷ [])).state = ap (left_of s (e ∷ past)) made.state in
    let sent : tally (on nudges) e.sent ≡ tally (on nudges) (submit s c (nudge s ∷ [])).sent = ap (λ (os : List Outgoing). tally (on nudges) os) made.sent in
    omega (
      arith,
      flow nudges s past e m,
      after,
      sent,
      submit_more s (e ∷ past) c (nudge s ∷ []),
      births_add past e c.answered (take c.next s.rows),
      with_answer_less s past (client_in s past) t valid lt,
    )

busy_next : (s : ScriptData) (past : List Entry) (e : Entry) → IsValid s → MayFollow s past e → ClientStep s past e
    → busy s past ≤ busy s (e ∷ past) + nudges e.took.body
busy_next s past e valid m (Begins bd made) = submits_busy s past e (client_in s past) m refl made
busy_next s past e valid m (Hears t v answer bd lt made) = hears_busy s past e t.0 valid m lt made
busy_next s past e valid m (Ends v bd made) = submits_busy s past e (with_end s v (client_in s past)) m refl made
busy_next s past e valid m (Tells n bd loses made) = kept_busy s past e m made.state
busy_next s past e valid m (Aside ne) = kept_busy s past e m (client_kept s past e ne)

-- busyness falls only by a nudge that is taken
pub busy_step : (s : ScriptData) (past : List Entry) (e : Entry) → IsValid s → IsStepRun s (e ∷ past)
    → busy s past ≤ busy s (e ∷ past) + nudges e.took.body
busy_step s past e valid run =
    busy_next s past e valid run.0 (client_step s past e valid run)

-- a nudge is for the coordinator
nudge_at : (s : ScriptData) (from to : ℕ) (body : Body) → IsMeant s from to body → to ≢ s.nodes → nudges body ≡ 0
nudge_at s from to Nudge meant ne = absurd (ne meant)
nudge_at s from to _ meant ne = refl

pub no_nudge : (s : ScriptData) (past : List Entry) (e : Entry) → IsValid s → IsStepRun s past → MayFollow s past e
    → e.actor.0 ≢ s.nodes → nudges e.took.body ≡ 0
no_nudge s past e valid run m ne =
    nudge_at s e.took.from.0 e.took.to.0 e.took.body (each_took (IsLetterMeant s) s past e m (letters_are_meant s past valid run))
    (λ is. ne (sym m.addressee ∙ is))

-- Where nothing is left.
is_heard : (born heard : Bool) → born ≡ true → one_if (born && not heard) ≡ 0 → heard ≡ true
is_heard true true is none = refl
is_heard true false is none = absurd (omega (arith, none))
is_heard false heard is none = absurd (cc is)

answered_here : (past : List Entry) (answered : List Bool) (t u : ℕ) (test : Bool) (rest more : ℕ) → (u == t) ≡ test → 1 ≤ turns past t 0
    → (1 ≤ rest → more ≡ 0 → get_or answered t false ≡ true) → 1 ≤ one_if test + rest
    → one_if (not (turns past u 0 == 0) && not (get_or answered u false)) + more ≡ 0 → get_or answered t false ≡ true
answered_here past answered t u true rest more is born later some none =
    let same : u ≡ t = grind (arith, nat_tests) in
    subst (λ (n : ℕ). get_or answered n false ≡ true) same
    (is_heard (not (turns past u 0 == 0)) (get_or answered u false)
    (not_none (turns past u 0) (subst (λ (n : ℕ). 1 ≤ turns past n 0) (sym same) born)) (omega (arith, none)))
answered_here past answered t u false rest more is born later some none = later (omega (arith, some)) (omega (arith, none))

-- a tree of these rows that is born is answered
answered_row : (past : List Entry) (answered : List Bool) (t : ℕ) (rows : List ScriptRow) → 1 ≤ turns past t 0 → 1 ≤ roots_sent t rows
    → tally (unanswered past answered) rows ≡ 0 → get_or answered t false ≡ true
answered_row past answered t [] born some none = absurd (omega (arith, some))
answered_row past answered t (TreeRow u ∷ rows) born some none =
    answered_here past answered t u.0 (u.0 == t) (roots_sent t rows) (tally (unanswered past answered) rows) refl born
    (λ more rest. answered_row past answered t rows born more rest) some none
answered_row past answered t (AdvanceRow ∷ rows) born some none = answered_row past answered t rows born (omega (arith, some)) (omega (arith, none))
answered_row past answered t (SettleRow ∷ rows) born some none = answered_row past answered t rows born (omega (arith, some)) (omega (arith, none))
answered_row past answered t (LoseRow ∷ rows) born some none = answered_row past answered t rows born (omega (arith, some)) (omega (arith, none))

-- the client has heard of each tree that is born
pub born_heard : (s : ScriptData) (past : List Entry) (t : ℕ) → IsValid s → IsStepRun s past → left s past ≡ 0 → 1 ≤ turns past t 0
    → get_or (client_in s past).answered t false ≡ true
born_heard s past t valid run none born =
    answered_row past (client_in s past).answered t (take (client_in s past).next s.rows) born
    (omega (arith, born, roots_have_turns s past t valid (all_apt s past valid run) run)) none

born_answered : (s : ScriptData) (past : List Entry) (t : ℕ) → IsValid s → IsStepRun s past → left s past ≡ 0 → 1 ≤ turns past t 0
    → 1 ≤ answers past t
born_answered s past t valid run none born =
    let one : one_if (get_or (client_in s past).answered t false) ≡ 1 = ap one_if (born_heard s past t valid run none born) in
    omega (arith, heard_were_sent s past t run, one)

-- no letter that has still to be done asks for a further subtransaction of a tree, brings a notice of it, or tells of a
-- decision
record Rests (s : ScriptData) (past : List Entry) (t k : ℕ) : Type 0 where
  asked : 0 < k → letters_asking s past t k ≡ 0
  told : notices s past t k ≡ 0
  decided : decisions s past t ≡ 0

unborn_asked : (s : ScriptData) (past : List Entry) (t k : ℕ) (c : SubAt s t k) → IsValid s → IsStepRun s past → turns past t 0 ≡ 0 → 0 < k
    → letters_asking s past t k ≡ 0
unborn_asked s past t k c valid run unborn some =
    let apt = all_apt s past valid run in
    let up : c.sub.parent.0 < k = parent_before s t k c.sub valid (sub_here s t k c) some in
    let parent : SubAt s t c.sub.parent.0 = sub_there s t c.sub.parent.0 (tree_below s t k c) (omega (arith, up, sub_below s t k c)) in
    omega (arith, sub_has_turns s past t k c valid apt run some, turns_below_root s past t c.sub.parent.0 parent valid apt run, unborn)

rests_at : (s : ScriptData) (past : List Entry) (t k : ℕ) → SubAt s t k → IsValid s → IsStepRun s past → left s past ≡ 0
    → StageAt s past t → Rests s past t k
rests_at s past t k c valid run none (Unborn u) =
    record { asked = λ some. unborn_asked s past t k c valid run u.root some; told = u.notes k; decided = u.decisions }
rests_at s past t k c valid run none (Gathers h g) =
    absurd (omega (arith, g.answers, born_answered s past t valid run none (omega (arith, g.root))))
rests_at s past t k c valid run none (Holds h g) =
    let first : 0 < length (subs_at s t) = has_root s t valid (tree_below s t k c) in
    absurd (omega (arith, g.answers, born_answered s past t valid run none (omega (arith, g.all.turned 0 first))))
rests_at s past t k c valid run none (Answered a) = record {
  asked = λ some. omega (
    arith,
    turns_come_once s past t k c.sub valid (all_apt s past valid run) run (sub_here s t k c),
    a.all.turned k (sub_below s t k c),
  );
  told = a.all.notes k;
  decided = a.decisions;
}

-- what holds of all letters for each subtransaction holds for each subtransaction of all letters
each_of : {X : Type 0} (A : ℕ → ℕ → Type 0) (B : ℕ → ℕ → X → Type 0) (xs : List X) → ((t k : ℕ) → A t k → Each (B t k) xs)
    → Each (λ (x : X). (t k : ℕ) → A t k → B t k x) xs
each_of A B [] all = tt
each_of A B (x ∷ xs) all = ((λ t k a. (all t k a).0), each_of A B xs (λ t k a. (all t k a).1))

-- a letter does none of these
record IsQuietFor (t k : ℕ) (body : Body) : Type 0 where
  asked : 0 < k → asks t k body ≡ 0
  told : tells_done t k body ≡ 0
  decided : decides t body ≡ 0

abbrev Quiet : ScriptData → Body → Type 0
Quiet s body = (t k : ℕ) → SubAt s t k → IsQuietFor t k body

quiet_body : (s : ScriptData) (from to : ℕ) (body : Body) → IsValid s → IsMeant s from to body → Quiet s body → of_trees body ≡ 0
quiet_body s from to (SubLetter t k v) valid meant quiet =
    absurd (omega (arith, (quiet t.0 k.0 (sub_there s t.0 k.0 meant.tree meant.sub)).asked meant.later, one_if_both t.0 k.0))
quiet_body s from to (Done t k v notice) valid meant quiet =
    absurd (omega (arith, (quiet t.0 k.0 (sub_there s t.0 k.0 meant.tree meant.sub)).told, one_if_both t.0 k.0))
quiet_body s from to (Decide t v commit) valid meant quiet =
    let lt = strict_below s t.0 meant.strict in
    absurd (omega (arith, (quiet t.0 0 (sub_there s t.0 0 lt (has_root s t.0 valid lt))).decided, one_if_same t.0))
quiet_body s from to (Decided t v) valid meant quiet =
    let lt = strict_below s t.0 meant.strict in
    absurd (omega (arith, (quiet t.0 0 (sub_there s t.0 0 lt (has_root s t.0 valid lt))).decided, one_if_same t.0))
quiet_body s from to _ valid meant quiet = refl

asked_none : (k : ℕ) (f : Letter → ℕ) (ls : List Letter) (test : Bool) → (k == 0) ≡ test → (0 < k → tally f ls ≡ 0)
    → Each (λ (l : Letter). 0 < k → f l ≡ 0) ls
asked_none k f ls true is none =
    let zero_k : k ≡ 0 = grind (arith, nat_tests) in every ls (λ l some. absurd (omega (arith, some, zero_k))) where
      every : (xs : List Letter) → ((l : Letter) → 0 < k → f l ≡ 0) → Each (λ (l : Letter). 0 < k → f l ≡ 0) xs
      every [] all = tt
      every (x ∷ xs) all = (all x, every xs all)
asked_none k f ls false is none =
    let some : 0 < k = grind (arith, nat_tests) in
    each_map (λ (l : Letter). f l ≡ 0) (λ (l : Letter). 0 < k → f l ≡ 0) ls (λ l zero_l more. zero_l) (each_zero f ls (none some))

-- where nothing is left, no letter of a tree that is born has still to be done
pub trees_rest : (s : ScriptData) (past : List Entry) → IsValid s → IsStepRun s past → left s past ≡ 0
    → tally (λ (l : Letter). of_trees l.body) (outstanding s past) ≡ 0
trees_rest s past valid run none =
    let ls = outstanding s past in
    let quiet : Each (λ (l : Letter). Quiet s l.body) ls =
    each_of (SubAt s) (λ t k l. IsQuietFor t k l.body) ls (λ t k c.
    let rests = rests_at s past t k c valid run none (stages_of_trees s past valid (all_apt s past valid run) run t (tree_below s t k c)) in
    let asked = asked_none k (λ (l : Letter). asks t k l.body) ls (k == 0) refl rests.asked in
    let told = each_zero (λ (l : Letter). tells_done t k l.body) ls (all_in_flight (tells_done t k) s past (tells_no_asking t k) ∙ rests.told) in
    let decided = each_zero (λ (l : Letter). decides t l.body) ls (all_in_flight (decides t) s past (decides_no_asking t) ∙ rests.decided) in
    each_map (λ (l : Letter). (0 < k → asks t k l.body ≡ 0) × ((tells_done t k l.body ≡ 0) × (decides t l.body ≡ 0)))
    (λ (l : Letter). IsQuietFor t k l.body) ls
    (λ l all. record { asked = all.0; told = all.1.0; decided = all.1.1 })
    (each_both (λ (l : Letter). 0 < k → asks t k l.body ≡ 0) (λ (l : Letter). (tells_done t k l.body ≡ 0) × (decides t l.body ≡ 0)) ls asked
    (each_both (λ (l : Letter). tells_done t k l.body ≡ 0) (λ (l : Letter). decides t l.body ≡ 0) ls told decided))) in
    each_none (λ (l : Letter). of_trees l.body) ls
    (each_map (λ (l : Letter). IsLetterMeant s l × Quiet s l.body) (λ (l : Letter). of_trees l.body ≡ 0) ls
    (λ l both. quiet_body s l.from.0 l.to.0 l.body valid both.0 both.1)
    (each_both (IsLetterMeant s) (λ (l : Letter). Quiet s l.body) ls (letters_are_meant s past valid run) quiet))
