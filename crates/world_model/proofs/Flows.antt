-- What an entry makes of numbers and sums over the messages in flight, and what stays at a node.
use Rattle.std.proofs.Common.{◌≡◌, ◌≢◌, ℕ, ◌+◌, ◌==◌, Bool, true, false, List, ◌∷◌, refl, ap, ◌∙◌, arith, take, drop, []}
use Rattle.std.specs.Prelude.{if◌then◌else◌}
use Rattle.std.proofs.lemmas.Bool.Decides.{nat_tests}
use Rattle.letter_types.specs.declared.acts.Act.{Act}
use Rattle.letter_types.specs.declared.acts.Act.TheVariants.{Finished}
use Rattle.letter_types.specs.declared.bodies.Body.{Body}
use Rattle.letter_types.specs.declared.bodies.Body.TheVariants.{Wake}
use Rattle.letter_types.specs.declared.entries.Entry.{Entry}
use Rattle.letter_types.specs.declared.entries.Letter.{Letter}
use Rattle.letter_types.specs.declared.entries.Outgoing.{Outgoing}
use Rattle.tv_base.specs.declared.numbers.SubNo.{SubNo}
use Rattle.tv_base.specs.declared.numbers.TreeNo.{TreeNo}
use Rattle.script_parts.specs.ScriptData.{ScriptData, client_of}
use Rattle.world_model.specs.Client.{Client, advances_sent, submit, submitted, rows_letters}
use Rattle.world_model.specs.Counts.{tally}
use Rattle.world_model.specs.Kept.{outstanding, of_done}
use Rattle.world_model.specs.Runs.{client_in, in_flight, MayFollow}
use Rattle.world_model.proofs.Bags.{tally-append, tally_step, sealed_tally}
use Rattle.world_model.proofs.Outstanding.{outstanding_step}
use Rattle.world_model.proofs.Sends.{on, CountsNoRow, roots_none}

-- what an entry does to a number of bodies
pub flow : (f : Body → ℕ) (s : ScriptData) (past : List Entry) (e : Entry) → MayFollow s past e
    → tally (λ (l : Letter). f l.body) (in_flight s (e ∷ past)) + f e.took.body
    ≡ tally (λ (l : Letter). f l.body) (in_flight s past) + tally (on f) e.sent
flow f s past e m =
    omega (arith, tally_step (λ (l : Letter). f l.body) s past e m, sealed_tally (λ (l : Letter). f l.body) (on f) e.stamp.0 e.actor.0 0 e.sent (λ i o. refl))

-- the same of the letters that have still to be done, for a number that counts no Wake
pub outstanding_flow : (f : Body → ℕ) (s : ScriptData) (past : List Entry) (e : Entry) → ((t : TreeNo) (k : SubNo) → f (Wake t k) ≡ 0)
    → MayFollow s past e
    → tally (λ (l : Letter). f l.body) (outstanding s (e ∷ past)) + of_done (λ (l : Letter). f l.body) s past e
    ≡ tally (λ (l : Letter). f l.body) (outstanding s past) + tally (on f) e.sent
outstanding_flow f s past e none m =
    omega (
      arith,
      outstanding_step (λ (l : Letter). f l.body) s past e (λ l t k is. ap f is ∙ none t k) m,
      sealed_tally (λ (l : Letter). f l.body) (on f) e.stamp.0 e.actor.0 0 e.sent (λ i o. refl),
    )

-- a number of bodies that an entry neither takes nor sends
pub flow_same : (f : Body → ℕ) (s : ScriptData) (past : List Entry) (e : Entry) → MayFollow s past e → f e.took.body ≡ 0
    → tally (on f) e.sent ≡ 0 → tally (λ (l : Letter). f l.body) (in_flight s (e ∷ past)) ≡ tally (λ (l : Letter). f l.body) (in_flight s past)
flow_same f s past e m took sent = omega (arith, flow f s past e m, took, sent)

-- the client stays where another actor moves
pub client_kept : (s : ScriptData) (past : List Entry) (e : Entry) → e.actor.0 ≢ client_of s → client_in s (e ∷ past) ≡ client_in s past
client_kept s past e ne = let other : (e.actor.0 == client_of s) ≡ false = grind (arith, nat_tests) in rw other refl

-- The client's letters and acts.
pub submit_none : (f : Body → ℕ) (s : ScriptData) (c : Client) (first : List Outgoing) → tally (on f) first ≡ 0
    → CountsNoRow f → tally (on f) (submit s c first).sent ≡ 0
submit_none f s c first quiet none =
    let rows = take (submitted c (take c.next s.rows) (drop c.next s.rows)) (drop c.next s.rows) in
    let k = advances_sent s c in
    omega (arith, tally-append (on f) first (rows_letters s k rows), quiet, roots_none f s k rows none)

-- that all is finished is no act of a tree
pub finish_none : (f : Act → ℕ) (test : Bool) → f Finished ≡ 0 → tally f (if test then Finished ∷ [] else []) ≡ 0
finish_none f true none = omega (arith, none)
finish_none f false none = refl
