-- A coordinator that forgets is idle only if it wants no more advancements than have ended, and misses an
-- acknowledgement at any time.
use Rattle.std.proofs.Common.{◌≡◌, ℕ, ◌+◌, ◌<◌, ◌≤◌, ◌==◌, Bool, true, false, List, [], ◌∷◌, sym, ap, subst, ◌∙◌, arith}
use Rattle.std.specs.Prelude.{if◌then◌else◌, max}
use Rattle.std.proofs.lemmas.Bool.Decides.{nat_tests}
use Rattle.tv_base.specs.Outside.{one_more}
use Rattle.phase_out.specs.Counts.{nudged}
use Rattle.letter_types.specs.declared.bodies.Body.{Body}
use Rattle.letter_types.specs.declared.bodies.What.{What}
use Rattle.letter_types.specs.declared.entries.Entry.{Entry}
use Rattle.letter_types.specs.declared.entries.Letter.{Letter}
use Rattle.letter_types.specs.Steps.{Out, still}
use Rattle.tx_trees.specs.ScriptData.{ScriptData}
use Rattle.world_model.specs.Restarting.{Restarting, after_doing, begin_counting, end_counting, enter, forget, in_restart_phase, next_advance, with_wanted}
use Rattle.world_model.specs.Runs.{restarting_in}
use Rattle.world_model.specs.Tables.{restarting_table}
use Rattle.world_model.specs.declared.restarting.RestartPhase.{RestartPhase}
use Rattle.world_model.specs.declared.restarting.RestartPhase.TheVariants.{Idle, Recovering, Doing, Counting, Paused}
use Rattle.world_model.proofs.Restarts.{restarting_nodes}
use Rattle.advance_laws.proofs.recovery.RecoverSteps.{Recovery, next_each, recovery}
use Rattle.advance_laws.proofs.ending.WantSteps.{more_waits}
use Rattle.advance_laws.proofs.recovery.RestartSteps.{HearsMore, OfClient, OfNode, RestartStep, asked_kept, asks_with, done_kept, restart_step}
use Rattle.advance_laws.proofs.recovery.RestartSteps.{Acks, Agrees, Ends, Flags, Forgets, Goes, KeepsAsked, KeepsDone, Pauses, Recounts, Recovers, Rests, Resumes, Wants}

-- of n nodes
pub record IsOrderly (n : ℕ) (c : Restarting) : Type 0 where
  pub acks : c.acks < n
  pub idle : c.phase ≡ Idle → c.wanted ≤ c.ended

-- Phases.
next_idle : (wanted f : ℕ) → next_advance wanted f ≡ Idle → wanted ≤ f
next_idle wanted f =
    next_each (λ (p : RestartPhase). p ≡ Idle → wanted ≤ f) wanted f (λ lt is. absurd (cc is)) (λ le is. le)

-- Steps.
goes_to : (n : ℕ) (out next : Out Restarting) → out ≡ next → IsOrderly n next.state → IsOrderly n out.state
goes_to n out next is now = subst (λ (o : Out Restarting). IsOrderly n o.state) (sym is) now

-- in another phase
busy_in : (n : ℕ) (d : Restarting) (phase : RestartPhase) → d.phase ≡ phase → d.acks < n → (phase ≡ Idle → ⊥) → IsOrderly n d
busy_in n d phase is few busy = record { acks = few; idle = λ idle. absurd (busy (sym is ∙ idle)) }

done_orderly : (n : ℕ) (what : What) (c : Restarting) → 1 ≤ n → IsOrderly n (after_doing what c).state
done_orderly n what c some = grind arith

ends_orderly : (n : ℕ) (reads : Bool) (c : Restarting) → 1 ≤ n → IsOrderly n (end_counting reads c).state
ends_orderly n true c some = record { acks = omega (arith, some); idle = λ is. absurd (cc is) }
ends_orderly n false c some = record { acks = omega (arith, some); idle = λ is. absurd (cc is) }

recovers_orderly : (n : ℕ) (d : Restarting) (out : Out Restarting) → 1 ≤ n → d.phase ≡ Recovering → d.acks < n → Recovery d out
    → IsOrderly n out.state
recovers_orderly n d out some waits few is = grind arith

more_acks : (c d : Restarting) (from : ℕ) (body : Body) → HearsMore c from body d → d.acks ≡ c.acks
more_acks c d from body (OfNode u r l bd lt is) = ap (λ (x : Restarting). x.acks) is
more_acks c d from body (OfClient k bd it is) = ap (λ (x : Restarting). x.acks) is

one_less : (acks n : ℕ) → acks < n → (one_more acks == n) ≡ false → one_more acks < n
one_less acks n lt more =
    let le : one_more acks ≤ acks + 1 = omega arith in grind (arith, nat_tests)

orderly_out : (n : ℕ) (c : Restarting) (from : ℕ) (body : Body) (out : Out Restarting) → c.nodes ≡ n → 1 ≤ n → IsOrderly n c
    → RestartStep c from body out → IsOrderly n out.state
orderly_out n c from body out nodes some was (Rests left is) = goes_to n out (still c) is was
orderly_out n c from body out nodes some was (Forgets bd is) =
    goes_to n out (forget c) is (record { acks = omega (arith, some); idle = λ idle. absurd (cc idle) })
orderly_out n c from body out nodes some was (Wants i bd busy is) =
    goes_to n out (still (with_wanted i c)) is (record { acks = was.acks; idle = λ idle. absurd (busy idle) })
orderly_out n c from body out nodes some was (Goes i bd at is) =
    goes_to n out (enter (next_advance (max c.wanted i) c.ended) (with_wanted i c)) is (record {
      acks = omega (arith, some);
      idle = λ idle. next_idle (max c.wanted i) c.ended idle;
    })
orderly_out n c from body out nodes some was (Recovers d waits hears is) =
    recovers_orderly n d out some ((more_waits c d from body hears).0 ∙ waits)
    (omega (arith, was.acks, more_acks c d from body hears))
    (recovery d out is)
orderly_out n c from body out nodes some was (Acks what doing bd more is) =
    goes_to n out (still (record c { acks = one_more c.acks })) is
    (busy_in n (record c { acks = one_more c.acks }) (Doing what) doing
    (one_less c.acks n was.acks (ap (λ (k : ℕ). one_more c.acks == k) (sym nodes) ∙ more)) (λ is. cc is))
orderly_out n c from body out nodes some was (Ends what doing bd last is) =
    goes_to n out (after_doing what c) is (done_orderly n what c some)
orderly_out n c from body out nodes some was (Flags reads counts bd is) =
    goes_to n out (still (record c { count = nudged c.count })) is
    (busy_in n (record c { count = nudged c.count }) (Counting reads) counts was.acks (λ is. cc is))
orderly_out n c from body out nodes some was (Resumes reads pauses bd is) =
    goes_to n out (begin_counting reads c) is (record { acks = omega (arith, some); idle = λ is. absurd (cc is) })
orderly_out n c from body out nodes some was (KeepsDone reads v k row counts bd here is) =
    goes_to n out (record { state = done_kept from row c; sent = asks_with from row c; acts = [] }) is
    (busy_in n (done_kept from row c) (Counting reads) counts was.acks (λ is. cc is))
orderly_out n c from body out nodes some was (KeepsAsked reads v k row takes verdict is) =
    goes_to n out (still (asked_kept from row c)) is
    (busy_in n (asked_kept from row c) (Counting reads) takes.phase was.acks (λ is. cc is))
orderly_out n c from body out nodes some was (Agrees reads v k row takes verdict is) =
    goes_to n out (end_counting reads (asked_kept from row c)) is (ends_orderly n reads (asked_kept from row c) some)
orderly_out n c from body out nodes some was (Recounts reads v k row takes verdict flag is) =
    goes_to n out (begin_counting reads (asked_kept from row c)) is
    (record { acks = omega (arith, some); idle = λ is. absurd (cc is) })
orderly_out n c from body out nodes some was (Pauses reads v k row takes verdict flag is) =
    goes_to n out (still (in_restart_phase (Paused reads) (asked_kept from row c))) is
    (record { acks = omega (arith, some); idle = λ is. absurd (cc is) })

-- whoever's entry it is
orderly_next : (n : ℕ) (c : Restarting) (l : Letter) (own : Bool) → c.nodes ≡ n → 1 ≤ n → IsOrderly n c
    → IsOrderly n (if own then (restarting_table c l).state else c)
orderly_next n c l true nodes some was =
    orderly_out n c l.from.0 l.body (restarting_table c l) nodes some was (restart_step c l.from.0 l.body)
orderly_next n c l false nodes some was = was

-- so it is in every past
pub orderly_in : (s : ScriptData) (past : List Entry) → 1 ≤ s.nodes → IsOrderly s.nodes (restarting_in s past)
orderly_in s [] some = record { acks = omega (arith, some); idle = λ is. omega arith }
orderly_in s (e ∷ past) some =
    orderly_next s.nodes (restarting_in s past) e.took (e.actor.0 == s.nodes) (restarting_nodes s past) some
    (orderly_in s past some)
