-- In every run of every script the client submits rows until a settle row has to wait, tells that it has finished, and hears
-- of each answer.
use Rattle.std.proofs.Common.{◌≡◌, ◌≢◌, ◌⊎◌, inl, inr, ℕ, zero, suc, ◌+◌, ◌<◌, ◌≤◌, ◌==◌, Bool, true, false, List, [], ◌∷◌, length, get_or, set, refl, sym, ap, subst, ◌∙◌, arith}
use Rattle.std.proofs.lemmas.Bool.{cases_eq}
use Rattle.std.proofs.lemmas.Bool.Decides.{nat_tests}
use Rattle.std.proofs.lemmas.List.{get_or-set_other, get_or-set_same}
use Rattle.letter_types.specs.declared.acts.Act.{Act}
use Rattle.letter_types.specs.declared.bodies.Body.{Body}
use Rattle.letter_types.specs.declared.bodies.Body.TheVariants.{Go, Reply}
use Rattle.letter_types.specs.declared.entries.Entry.{Entry}
use Rattle.letter_types.specs.declared.entries.Outgoing.{Outgoing}
use Rattle.tx_trees.specs.ScriptData.{ScriptData, client_of}
use Rattle.tx_trees.specs.Valid.{IsValid}
use Rattle.world_model.specs.Client.{Client, have_ended, nudge, submit, with_answer, with_end}
use Rattle.world_model.specs.Counts.{one_if, tally}
use Rattle.world_model.specs.Runs.{IsStepRun, MayFollow, client_in}
use Rattle.world_model.proofs.Clients.{answered_places}
use Rattle.world_model.proofs.Flows.{client_kept, flow}
use Rattle.world_model.proofs.Nexts.{MadeByClient}
use Rattle.world_model.proofs.Sends.{on}
use Rattle.world_model.specs.Meant.{IsMeant}
use Rattle.world_model.proofs.Meant.{took_meant}
use Rattle.advance_laws.proofs.right.ClientSteps.{Aside, Begins, ClientStep, Ends, Hears, Tells, client_step}
use Rattle.tree_laws.specs.Dids.{answers, goes, is_go, replies, replies_to}
use Rattle.tree_laws.specs.Ends.{is_finish}
use Rattle.tree_laws.proofs.histories.Client.{IsStopped, finish_count, finished_then, finishes_once, stopped, stopped_most}

-- once Go is taken the client has stopped, and has finished if all is over; and it tells so
pub record Stopping (s : ScriptData) (past : List Entry) : Type 0 where
  pub most : (client_in s past).next ≤ length s.rows
  pub stops : goes s past ≡ 0 → IsStopped s (client_in s past)
  pub finishes : goes s past ≡ 0 → (client_in s past).next ≡ length s.rows → have_ended (client_in s past) s.rows ≡ true
      → (client_in s past).finished ≡ true
  pub told : one_if (client_in s past).finished ≤ finish_count past

-- what the client submits, with what is answered given
submits_stop : (s : ScriptData) (past : List Entry) (e : Entry) (c : Client) (first : List Outgoing) → Stopping s past
    → c.next ≡ (client_in s past).next → c.finished ≡ (client_in s past).finished → MadeByClient s past e (submit s c first)
    → Stopping s (e ∷ past)
submits_stop s past e c first rest next finished made =
    let le : c.next ≤ length s.rows = omega (arith, rest.most, next) in
    let stop : IsStopped s (client_in s (e ∷ past)) = subst (λ (x : Client). IsStopped s x) (sym made.state) (stopped s c first le) in
    let acts : tally is_finish e.acts ≡ tally is_finish (submit s c first).acts = ap (λ (xs : List Act). tally is_finish xs) made.acts in
    let before : one_if c.finished ≡ one_if (client_in s past).finished = ap one_if finished in
    let after : one_if (client_in s (e ∷ past)).finished ≡ one_if (submit s c first).state.finished = ap (λ (x : Client). one_if x.finished) made.state in
    record {
      most = stopped_most s (client_in s (e ∷ past)) stop;
      stops = λ gone. stop;
      finishes = λ gone all over.
          let at_end : (submit s c first).state.next ≡ length s.rows = sym (ap (λ (x : Client). x.next) made.state) ∙ all in
          let ended : have_ended c s.rows ≡ true = sym (ap (λ (x : Client). have_ended x s.rows) made.state) ∙ over in
          ap (λ (x : Client). x.finished) made.state ∙ finished_then s c first at_end ended;
      told = omega (arith, acts, before, after, finishes_once s c first, rest.told);
    }

-- an entry of another actor: it takes no Go and no answer
go_away : (s : ScriptData) (from to : ℕ) (body : Body) → IsMeant s from to body → to ≢ client_of s → is_go body ≡ 0
go_away s from to Go meant ne = absurd (ne meant)
go_away s from to _ meant ne = refl

reply_away : (s : ScriptData) (from to t : ℕ) (body : Body) → IsMeant s from to body → to ≢ client_of s → replies_to t body ≡ 0
reply_away s from to t (Reply u v answer) meant ne = absurd (ne meant.1)
reply_away s from to t Go meant ne = refl
reply_away s from to t _ meant ne = refl

same_stop : (s : ScriptData) (past : List Entry) (e : Entry) → MayFollow s past e → Stopping s past → is_go e.took.body ≡ 0
    → client_in s (e ∷ past) ≡ client_in s past → Stopping s (e ∷ past)
same_stop s past e m rest other kept =
    let before : goes s (e ∷ past) ≡ 0 → goes s past ≡ 0 = λ gone. omega (arith, other, flow is_go s past e m) in
    let same : one_if (client_in s (e ∷ past)).finished ≡ one_if (client_in s past).finished = ap (λ (x : Client). one_if x.finished) kept in
    record {
      most = subst (λ (x : Client). x.next ≤ length s.rows) (sym kept) rest.most;
      stops = λ gone. subst (λ (x : Client). IsStopped s x) (sym kept) (rest.stops (before gone));
      finishes = λ gone.
          subst (λ (x : Client). x.next ≡ length s.rows → have_ended x s.rows ≡ true → x.finished ≡ true) (sym kept) (rest.finishes (before gone));
      told = omega (arith, same, rest.told);
    }

next_stop : (s : ScriptData) (past : List Entry) (e : Entry) → IsValid s → IsStepRun s (e ∷ past) → Stopping s past → ClientStep s past e
    → Stopping s (e ∷ past)
next_stop s past e valid run rest (Begins is made) = submits_stop s past e (client_in s past) [] rest refl refl made
next_stop s past e valid run rest (Hears t v answer is lt made) =
    submits_stop s past e (with_answer t.0 (client_in s past)) (nudge s ∷ []) rest refl refl made
next_stop s past e valid run rest (Ends v is made) = submits_stop s past e (with_end s v (client_in s past)) [] rest refl refl made
next_stop s past e valid run rest (Tells n is loses made) = same_stop s past e run.0 rest (ap is_go is) made.state
next_stop s past e valid run rest (Aside ne) =
    same_stop s past e run.0 rest (go_away s e.took.from.0 e.took.to.0 e.took.body (took_meant s past e valid run) (λ is. ne (sym run.0.addressee ∙ is)))
    (client_kept s past e ne)

pub stopping : (s : ScriptData) (past : List Entry) → IsValid s → IsStepRun s past → Stopping s past
stopping s [] valid run = record {
  most = omega arith;
  stops = λ gone. absurd (omega (arith, gone));
  finishes = λ gone all over. absurd (omega (arith, gone));
  told = omega arith;
}
stopping s (e ∷ past) valid run =
    next_stop s past e valid run (stopping s past valid run.1) (client_step s past e valid run)

-- Answers: each is in flight, or the client has heard it.
abbrev IsKnown : ScriptData → List Entry → ℕ → Type 0
IsKnown s past t = 1 ≤ answers past t → 1 ≤ replies s past t + one_if (get_or (client_in s past).answered t false)

sent_or_before : (sent before flying now heard : ℕ) → now ≡ flying + sent → (1 ≤ before → 1 ≤ flying + heard) → 1 ≤ sent + before
    → 1 ≤ now + heard
sent_or_before zero before flying now heard is old some = omega (arith, is, old (omega (arith, some)))
sent_or_before (suc sent) before flying now heard is old some = omega (arith, is)

-- an entry that takes no answer of the tree
same_known : (s : ScriptData) (past : List Entry) (e : Entry) (t : ℕ) → MayFollow s past e → replies_to t e.took.body ≡ 0
    → get_or (client_in s (e ∷ past)).answered t false ≡ get_or (client_in s past).answered t false → IsKnown s past t → IsKnown s (e ∷ past) t
same_known s past e t m none same old = λ some.
    let heard : one_if (get_or (client_in s (e ∷ past)).answered t false) ≡ one_if (get_or (client_in s past).answered t false) = ap one_if same in
    omega (
      arith,
      heard,
      sent_or_before (tally (on (replies_to t)) e.sent) (answers past t) (replies s past t) (replies s (e ∷ past) t)
          (one_if (get_or (client_in s past).answered t false)) (omega (arith, none, flow (replies_to t) s past e m)) old some,
    )

hears_known : (s : ScriptData) (past : List Entry) (e : Entry) (t u : ℕ) → MayFollow s past e → t < length s.trees
    → replies_to t e.took.body ≡ one_if (u == t)
    → (client_in s (e ∷ past)).answered ≡ set (client_in s past).answered u true → IsKnown s past t → (u ≡ t) ⊎ (u ≢ t) → IsKnown s (e ∷ past) t
hears_known s past e t u m lt took is old (inl same) = λ some.
    let place : t < length (client_in s past).answered = omega (arith, lt, answered_places s past) in
    let heard : get_or (client_in s (e ∷ past)).answered t false ≡ true =
    ap (λ (bs : List Bool). get_or bs t false) (is ∙ ap (λ (n : ℕ). set (client_in s past).answered n true) same)
    ∙ get_or-set_same (client_in s past).answered t true false place in
    omega (arith, ap one_if heard)
hears_known s past e t u m lt took is old (inr ne) =
    let none : (u == t) ≡ false = grind (arith, nat_tests) in
    same_known s past e t m (took ∙ ap one_if none)
    (ap (λ (bs : List Bool). get_or bs t false) is ∙ get_or-set_other (client_in s past).answered u t true false (λ same. ne (sym same))) old

away_known : (s : ScriptData) (past : List Entry) (e : Entry) (t : ℕ) → IsValid s → IsStepRun s (e ∷ past) → e.actor.0 ≢ client_of s
    → IsKnown s past t → IsKnown s (e ∷ past) t
away_known s past e t valid run ne old =
    same_known s past e t run.0
    (reply_away s e.took.from.0 e.took.to.0 t e.took.body (took_meant s past e valid run) (λ is. ne (sym run.0.addressee ∙ is)))
    (ap (λ (c : Client). get_or c.answered t false) (client_kept s past e ne)) old

next_known : (s : ScriptData) (past : List Entry) (e : Entry) (t : ℕ) → IsValid s → IsStepRun s (e ∷ past) → t < length s.trees → IsKnown s past t
    → ClientStep s past e → IsKnown s (e ∷ past) t
next_known s past e t valid run lt old (Begins is made) =
    same_known s past e t run.0 (ap (replies_to t) is) (ap (λ (c : Client). get_or c.answered t false) made.state) old
next_known s past e t valid run lt old (Hears u v answer is below made) =
    hears_known s past e t u.0 run.0 lt (ap (replies_to t) is) (ap (λ (c : Client). c.answered) made.state) old (cases_eq u.0 t)
next_known s past e t valid run lt old (Ends v is made) =
    same_known s past e t run.0 (ap (replies_to t) is) (ap (λ (c : Client). get_or c.answered t false) made.state) old
next_known s past e t valid run lt old (Tells n is loses made) =
    same_known s past e t run.0 (ap (replies_to t) is) (ap (λ (c : Client). get_or c.answered t false) made.state) old
next_known s past e t valid run lt old (Aside ne) = away_known s past e t valid run ne old

pub answer_known : (s : ScriptData) (past : List Entry) (t : ℕ) → IsValid s → IsStepRun s past → t < length s.trees → IsKnown s past t
answer_known s [] t valid run lt = λ some. absurd (omega (arith, some))
answer_known s (e ∷ past) t valid run lt =
    next_known s past e t valid run lt (answer_known s past t valid run.1 lt)
    (client_step s past e valid run)
